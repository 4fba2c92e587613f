-- Stops for warning 4, after CR 1: when it begins and ends, what its messages hold, and what leaves it alone.
-- Assumes nothing.
use Rattle.std.specs.Prelude.{◌≡◌, List, [], ◌∷◌, ℕ}
use Rattle.sample.specs.Sample.{no_reading}
use Rattle.history.specs.BenchStops.{Change, hazard, ignition, door, ecall, high_severity, with_speed, with_happening, with_east, switch_on, switch_off, at_alone, from, up_to, line, N, U, C, messages_up_to, lines_up_to, hundred_then_zeros}
use Rattle.history.specs.FurtherStops.{with_place, place, whole, broken_down}

-- "Happening bit 4 says that the function is active."
abbrev pub mitigation : ℕ
mitigation = 16

-- driving with the bit: New of 4 at 0
abbrev pub driving_with_bit : List Change → List Change
driving_with_bit changes = with_speed 100 ∷ with_happening mitigation ∷ changes

-- driving off with the bit at 40, over a warning that stands
abbrev pub drives_off_at_40 : List Change
drives_off_at_40 = from 40 (with_speed 100) ∷ from 40 (with_happening mitigation) ∷ []

pub record DriverStops : Type 0 where
  -- "while the bit is set and the vehicle isn't still", also with no reading yet; "Updates come every 5 ticks"; "quality is 1, .. validity 2", with a door open
  pub no_reading_yet : messages_up_to 35 (with_speed no_reading ∷ from 30 (with_happening mitigation) ∷ switch_on door ∷ with_place 2 900 30 40 ∷ from 33 (with_place 3 1800 50 60) ∷ [])
      ≡ whole (line 30 N 4 1 1) 30 0 2 (place 1 900 30 40) ∷ whole (line 35 U 4 1 1) 35 0 2 (place 0 1800 50 60) ∷ []
  pub at_start : lines_up_to 10 (with_speed no_reading ∷ with_happening mitigation ∷ []) ≡ line 0 N 4 1 1 ∷ line 5 U 4 1 1 ∷ line 10 U 4 1 1 ∷ []
  -- "It ends without a message, .. when .. the vehicle is still": speeds 100, then 0, so still first at 9; the cycle of 1 begins at 10, since 4 stood after 8
  pub then_stopped : lines_up_to 310 (with_happening mitigation ∷ hundred_then_zeros) ≡ line 0 N 4 1 1 ∷ line 5 U 4 1 1 ∷ line 310 N 1 1 2 ∷ []
  -- "when the bit clears": at the tick of an Update, which is not given
  pub bit_clears : lines_up_to 10 (with_speed 100 ∷ up_to 4 (with_happening mitigation) ∷ []) ≡ line 0 N 4 1 1 ∷ []
  -- at 13 alone: two events, and no Cancel between
  pub off_for_one_tick : lines_up_to 19 (with_speed 100 ∷ up_to 12 (with_happening mitigation) ∷ from 14 (with_happening mitigation) ∷ [])
      ≡ line 0 N 4 1 1 ∷ line 5 U 4 1 1 ∷ line 10 U 4 1 1 ∷ line 14 N 4 1 2 ∷ line 19 U 4 1 2 ∷ []
  -- "It ranks between 2 and 3.": over 1 and over 2 with their Cancel
  pub over_stopped : messages_up_to 45 (switch_on door ∷ with_place 4 2700 70 80 ∷ drives_off_at_40)
      ≡ whole (line 30 N 1 3 1) 30 0 30 (place 2 2700 70 80)
      ∷ whole (line 40 C 1 3 1) 30 0 30 (place 2 2700 70 80)
      ∷ whole (line 40 N 4 1 2) 40 0 2 (place 2 2700 70 80)
      ∷ whole (line 45 U 4 1 2) 45 0 2 (place 2 2700 70 80)
      ∷ []
  pub over_broken_down : lines_up_to 40 (broken_down drives_off_at_40) ≡ line 30 N 2 3 1 ∷ line 40 C 2 3 1 ∷ line 40 N 4 1 2 ∷ []
  -- "at rule 1 when 3 triggers": high severity at 3; also where the bit clears at 3; and eCall at 9, where the vehicle is still first at 9
  pub crash_over : lines_up_to 10 (driving_with_bit (at_alone 3 (with_happening high_severity) ∷ [])) ≡ line 0 N 4 1 1 ∷ line 3 N 3 3 2 ∷ []
  pub crash_as_bit_clears : lines_up_to 10 (with_speed 100 ∷ up_to 2 (with_happening mitigation) ∷ at_alone 3 (with_happening high_severity) ∷ [])
      ≡ line 0 N 4 1 1 ∷ line 3 N 3 3 2 ∷ []
  pub crash_as_it_stops : lines_up_to 10 (with_happening mitigation ∷ at_alone 9 (with_happening ecall) ∷ hundred_then_zeros)
      ≡ line 0 N 4 1 1 ∷ line 5 U 4 1 1 ∷ line 9 N 3 1 2 ∷ []
  -- "then New of the highest": both at 0; while 3 stands 4 does not begin, nor at the tick of its Cancel
  pub crash_first : lines_up_to 151 (driving_with_bit (at_alone 0 (with_happening high_severity) ∷ []))
      ≡ line 0 N 3 3 1 ∷ line 150 C 3 3 1 ∷ line 151 N 4 1 2 ∷ []
  -- "Warning 3 counts bits 0 to 3 alone.": the bit alone, still, with hazard lights off; with eCall at 10, quality 1
  pub bit_alone : lines_up_to 30 (with_happening mitigation ∷ switch_off hazard ∷ []) ≡ []
  pub bit_with_ecall : lines_up_to 10 (with_happening mitigation ∷ at_alone 10 (with_happening ecall) ∷ []) ≡ line 10 N 3 1 1 ∷ []
  -- "Updates come every 5 ticks and at no other cause": ignition off from 2
  pub ignition_off : lines_up_to 5 (driving_with_bit (from 2 (switch_off ignition) ∷ [])) ≡ line 0 N 4 1 1 ∷ line 5 U 4 1 1 ∷ []
  -- "the hazard light, position and 5 s rules don't apply to it": hazard off from 2; 6,000 dm east from 2; not still at 51 ticks
  pub hazard_off : lines_up_to 5 (driving_with_bit (from 2 (switch_off hazard) ∷ [])) ≡ line 0 N 4 1 1 ∷ line 5 U 4 1 1 ∷ []
  pub towed : lines_up_to 5 (driving_with_bit (from 2 (with_east 6000) ∷ [])) ≡ line 0 N 4 1 1 ∷ line 5 U 4 1 1 ∷ []
  pub drives_on : lines_up_to 55 (driving_with_bit [])
      ≡ line 0 N 4 1 1
      ∷ line 5 U 4 1 1
      ∷ line 10 U 4 1 1
      ∷ line 15 U 4 1 1
      ∷ line 20 U 4 1 1
      ∷ line 25 U 4 1 1
      ∷ line 30 U 4 1 1
      ∷ line 35 U 4 1 1
      ∷ line 40 U 4 1 1
      ∷ line 45 U 4 1 1
      ∷ line 50 U 4 1 1
      ∷ line 55 U 4 1 1
      ∷ []

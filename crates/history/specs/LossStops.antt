-- Stops for missing readings, after CR 2: what five in a row leave as it was, and what the sixth ends.
-- Assumes nothing.
use Rattle.std.specs.Prelude.{◌≡◌, List, [], ◌∷◌, ℕ}
use Rattle.sample.specs.Sample.{no_reading}
use Rattle.history.specs.History.{stationary}
use Rattle.history.specs.BenchStops.{Change, hazard, ignition, ecall, with_speed, with_happening, switch_off, at_alone, from, up_to, line, N, U, C, FirstAt, messages_up_to, lines_up_to, history_up_to, hundred_then_zeros}
use Rattle.history.specs.FurtherStops.{place, whole, broken_down}
use Rattle.history.specs.DriverStops.{mitigation}

-- no reading at ticks i to j
abbrev pub missing : ℕ → ℕ → Change
missing i j = from i (up_to j (with_speed no_reading))

-- still with hazard lights off, and the function active
abbrev pub still_with_bit : List Change → List Change
still_with_bit changes = switch_off hazard ∷ with_happening mitigation ∷ changes

pub record LossStops : Type 0 where
  -- "Up to 5 missing readings in a row leave still as it was at the last reading.": in the countdown of stop (i)
  pub five : lines_up_to 300 (missing 100 104 ∷ []) ≡ line 300 N 1 1 1 ∷ []
  -- "The sixth makes it false.": at 105, and the new countdown begins with the first reading, at 106, or at 120
  pub six : lines_up_to 406 (missing 100 105 ∷ []) ≡ line 406 N 1 1 1 ∷ []
  pub twenty : lines_up_to 420 (missing 100 119 ∷ []) ≡ line 420 N 1 1 1 ∷ []
  -- "in a row": five, a reading, and five
  pub five_twice : lines_up_to 300 (missing 100 104 ∷ missing 106 110 ∷ []) ≡ line 300 N 1 1 1 ∷ []
  -- a New and an Update that fall on ticks without a reading, of 1; and a New of 2
  pub new_and_update : lines_up_to 450 (missing 296 300 ∷ missing 448 452 ∷ []) ≡ line 300 N 1 1 1 ∷ line 450 U 1 1 1 ∷ []
  pub new_of_2 : lines_up_to 30 (broken_down (missing 26 30 ∷ [])) ≡ line 30 N 2 3 1 ∷ []
  -- "With no reading yet it is false.": no reading up to 2; still from the first reading on
  pub none_yet : lines_up_to 303 (missing 0 2 ∷ []) ≡ line 303 N 1 1 1 ∷ []
  -- not still stays not still as well: speed 100, then five missing, then 0; and 100 at 50, in a stand, then five missing
  pub five_after_hundred : FirstAt stationary 14 (history_up_to 14 (missing 1 5 ∷ hundred_then_zeros))
  pub five_in_a_stand : lines_up_to 359 (at_alone 50 (with_speed 100) ∷ missing 51 55 ∷ []) ≡ line 359 N 1 1 1 ∷ []
  -- "Cancels": readings lost for good from 310; still up to 314, so not still at 51 ticks with 365
  pub lost_for_good : lines_up_to 365 (from 310 (with_speed no_reading) ∷ []) ≡ line 300 N 1 1 1 ∷ line 365 C 1 1 1 ∷ []
  -- and a reading at 365, with which it is still: not still at 50 ticks
  pub found_again : lines_up_to 450 (missing 310 364 ∷ []) ≡ line 300 N 1 1 1 ∷ line 450 U 1 1 1 ∷ []
  -- "stationarySince": six missing up to 105 begin the run anew, at 106, and five from 200 on do not: 8,999 ticks at 9,105, and 15 minutes at 9,106
  pub since : messages_up_to 9106 (missing 100 105 ∷ missing 200 204 ∷ switch_off hazard ∷ at_alone 9105 (with_happening ecall) ∷ from 9106 (switch_off ignition) ∷ [])
      ≡ whole (line 9105 N 3 1 1) 9105 2 180 (place 255 0 0 0) ∷ whole (line 9106 U 3 1 1) 9106 3 180 (place 255 0 0 0) ∷ []
  -- "or on any other if still at i", of 3: eCall at the fifth tick without a reading, and at the sixth, so that the New comes with the first reading, at 17
  pub ecall_at_fifth : lines_up_to 14 (switch_off hazard ∷ missing 10 14 ∷ at_alone 14 (with_happening ecall) ∷ []) ≡ line 14 N 3 1 1 ∷ []
  pub ecall_at_sixth : lines_up_to 17 (switch_off hazard ∷ missing 10 16 ∷ at_alone 15 (with_happening ecall) ∷ []) ≡ line 17 N 3 1 1 ∷ []
  -- "Warning 4 triggers while the bit is set and the vehicle isn't still.": at the sixth, and it ends with the first reading; not at the fifth
  pub bit_at_fifth : lines_up_to 20 (still_with_bit (missing 10 14 ∷ [])) ≡ []
  pub bit_at_sixth : lines_up_to 30 (still_with_bit (missing 10 21 ∷ [])) ≡ line 15 N 4 1 1 ∷ line 20 U 4 1 1 ∷ []

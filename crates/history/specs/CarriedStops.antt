-- Stops for a vehicle that is carried while its warning stands, after CR 5: the distance is from where its New was given.
-- Assumes nothing.
use Rattle.std.specs.Prelude.{◌≡◌, List, [], ◌∷◌, ℕ, ◌+◌, pos}
use Rattle.sample.specs.Examples.{minus}
use Rattle.history.specs.BenchStops.{Change, hazard, ignition, door, high_severity, with_happening, with_position, switch_on, switch_off, at_alone, from, line, N, U, C, lines_up_to}
use Rattle.history.specs.FurtherStops.{park_and_brake, broken_down, ecall_at_start}
use Rattle.history.specs.DriverStops.{driving_with_bit}

-- 3,000 dm east with an Update at i, since ignition goes off; 5,000 by squares at i + 1; one more decimetre at i + 2, where an Update is due as well
abbrev pub carried_from : ℕ → List Change
carried_from i =
    from i (with_position (pos 3000) (pos 0))
    ∷ from (i + 1) (with_position (pos 3000) (pos 4000))
    ∷ from (i + 2) (with_position (pos 3000) (pos 4001))
    ∷ at_alone i (switch_off ignition)
    ∷ at_alone (i + 2) (switch_off ignition)
    ∷ []

-- from end to end of the coordinates: of both at 31, of east at 33, of north at 35; then 5,000 dm east at 37, and one more at 38
abbrev pub from_end_to_end : List Change
from_end_to_end =
    with_position (minus 1000000) (minus 1000000)
    ∷ from 31 (with_position (pos 1000000) (pos 1000000))
    ∷ from 33 (with_position (minus 1000000) (pos 1000000))
    ∷ from 35 (with_position (minus 1000000) (minus 1000000))
    ∷ from 37 (with_position (minus 995000) (minus 1000000))
    ∷ from 38 (with_position (minus 994999) (minus 1000000))
    ∷ []

pub record CarriedStops : Type 0 where
  -- "compared by squares": 3,000 and 4,000 dm on each side of where the New was given, and one more; an Update half way
  pub by_squares : lines_up_to 36 (switch_on door ∷ from 31 (with_position (pos 1500) (pos 2000)) ∷ from 32 (switch_off ignition) ∷ from 33 (with_position (pos 3000) (pos 4000)) ∷ from 34 (with_position (minus 3000) (minus 4000)) ∷ from 35 (with_position (minus 4000) (pos 3000)) ∷ from 36 (with_position (minus 4000) (pos 3001)) ∷ [])
      ≡ line 30 N 1 3 1 ∷ line 32 U 1 3 1 ∷ line 36 C 1 3 1 ∷ []
  -- there and back: 5,000 dm east, an Update, and 1 west, 5,001 from the Update
  pub there_and_back : lines_up_to 252 (park_and_brake (from 101 (with_position (pos 5000) (pos 0)) ∷ from 251 (with_position (minus 1) (pos 0)) ∷ []))
      ≡ line 100 N 1 2 1 ∷ line 250 U 1 2 1 ∷ []
  -- of 2 and of 3; rule 2 comes before rule 3
  pub carried_broken_down : lines_up_to 33 (broken_down (carried_from 31)) ≡ line 30 N 2 3 1 ∷ line 31 U 2 3 1 ∷ line 33 C 2 3 1 ∷ []
  pub carried_after_crash : lines_up_to 3 (ecall_at_start (carried_from 1)) ≡ line 0 N 3 1 1 ∷ line 1 U 3 1 1 ∷ line 3 C 3 1 1 ∷ []
  -- "the position in the event's New": high severity at 31, 4,000 dm east; 5,000 from there at 32, and one more at 33
  pub overruled : lines_up_to 33 (switch_on door ∷ at_alone 31 (with_happening high_severity) ∷ from 31 (with_position (pos 4000) (pos 0)) ∷ from 32 (with_position (pos 9000) (pos 0)) ∷ from 33 (with_position (pos 9001) (pos 0)) ∷ [])
      ≡ line 30 N 1 3 1 ∷ line 31 C 1 3 1 ∷ line 31 N 3 3 2 ∷ line 33 C 3 3 2 ∷ []
  -- of 3 over 4, where the position cancels nothing: 6,000 dm east at 2, high severity at 3
  pub over_driver : lines_up_to 5 (driving_with_bit (at_alone 3 (with_happening high_severity) ∷ from 2 (with_position (pos 6000) (pos 0)) ∷ from 4 (with_position (pos 11000) (pos 0)) ∷ from 5 (with_position (pos 11001) (pos 0)) ∷ []))
      ≡ line 0 N 4 1 1 ∷ line 3 N 3 3 2 ∷ line 5 C 3 3 2 ∷ []
  -- of the event after a Cancel: hazard off at 31 alone, New at 32, 7,000 dm east; an Update at 33, 5,000 from there, and one more at 35
  pub next_event : lines_up_to 35 (switch_on door ∷ at_alone 31 (switch_off hazard) ∷ at_alone 33 (switch_off ignition) ∷ from 31 (with_position (pos 7000) (pos 0)) ∷ from 33 (with_position (pos 12000) (pos 0)) ∷ from 35 (with_position (pos 12001) (pos 0)) ∷ [])
      ≡ line 30 N 1 3 1 ∷ line 31 C 1 3 1 ∷ line 32 N 1 3 2 ∷ line 33 U 1 3 2 ∷ line 35 C 1 3 2 ∷ []
  -- "compared around zero and at both ends"
  pub ends : lines_up_to 38 (switch_on door ∷ from_end_to_end)
      ≡ line 30 N 1 3 1
      ∷ line 31 C 1 3 1
      ∷ line 32 N 1 3 2
      ∷ line 33 C 1 3 2
      ∷ line 34 N 1 3 3
      ∷ line 35 C 1 3 3
      ∷ line 36 N 1 3 4
      ∷ line 38 C 1 3 4
      ∷ []
  -- "differences and squares in i64": 65,536 dm, whose square is 0 in 32 bits
  pub wide_square : lines_up_to 31 (switch_on door ∷ from 31 (with_position (pos 65536) (pos 0)) ∷ []) ≡ line 30 N 1 3 1 ∷ line 31 C 1 3 1 ∷ []

-- What the program prints for a list of records and a width, and the status that it ends with.
-- Assumes nothing.
use Rattle.std.specs.Prelude.{ℕ, ◌≡◌, ◌≤◌, List, length, take}
use Rattle.wire.specs.Outcome.{Outcome, accepted, refused}
use Rattle.busiest.specs.declared.Busiest.{Busiest}
use Rattle.busiest.specs.Busiest.{stretch}
use Rattle.report.specs.Lines.{busiest_line, refusal_line}
use Rattle.planner.specs.declared.Answer.{Answer}

-- the line of what `stretch` answers, and 0 for a stretch, 1 for a refusal
unfoldable pub line_of : Outcome Busiest → List ℕ
line_of (accepted b) = busiest_line b
line_of (refused n) = refusal_line n

unfoldable pub status_of : Outcome Busiest → ℕ
status_of (accepted b) = 0
status_of (refused n) = 1

-- the line stands whole at the start of the memory
pub record Answers (list : List ℕ) (w : ℕ) (a : Answer) (line : List ℕ) : Type 0 where
  pub within : a.length ≤ length line
  pub text : take a.length line ≡ line_of (stretch list w)
  pub status : a.status ≡ status_of (stretch list w)

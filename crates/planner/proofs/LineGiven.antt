-- The line that is written is that of what `stretch` answers.
-- Assumes nothing.
use Rattle.std.proofs.Common.{◌≡◌, ℕ, ◌≤◌, List, length, take, drop, refl, ◌∙◌, arith, take_at}
use Rattle.std.specs.Prelude.{Result, Ok, Err}
use Rattle.std.specs.Result.{result_unwrap_or}
use Rattle.wire.specs.declared.Refusal.{Refusal}
use Rattle.wire.specs.Memory.{overlay}
use Rattle.wire.specs.Outcome.{accepted, refused, Answer as Written, answered, number_of}
use Rattle.busiest.specs.declared.Busiest.{Busiest}
use Rattle.busiest.specs.Busiest.{stretch}
use Rattle.report.specs.Lines.{busiest_line, refusal_line, line_write, line_memory}
use Rattle.report.proofs.LinePut.{line_whole}
use Rattle.planner.specs.Answers.{line_of, status_of, Answers}

-- a line that has room is as long as its writer answers, and stands in the memory
whole : (bytes lent last : List ℕ) (n : ℕ) (a : Written) → length bytes ≤ length lent
    → (answered a ≡ line_write bytes lent) × (last ≡ line_memory bytes lent) → n ≡ result_unwrap_or a 0 → (n ≡ length bytes) × (take n last ≡ bytes)
unfolding overlay
whole bytes lent last n a room p c =
    let w = line_whole bytes lent last a room p in
    let size : n ≡ length bytes = c ∙ rw w.0 in
    (size, rw (w.1, size) (take_at bytes (drop (length bytes) lent) (length bytes) refl))

module _ (list : List ℕ) (w : ℕ) (r : Result Busiest Refusal) (lent last : List ℕ) (n : ℕ) (a : Written) (kept : length last ≡ length lent)
    (is : answered r ≡ stretch list w) (written : n ≡ result_unwrap_or a 0) where
  pub found_line : (b : Busiest) → r ≡ Ok b → length (busiest_line b) ≤ length lent
      → (answered a ≡ line_write (busiest_line b) lent) × (last ≡ line_memory (busiest_line b) lent) → Answers list w (record { length = n; status = 0 }) last
  unfolding line_of status_of answered
  found_line b e room p =
      let l = whole (busiest_line b) lent last n a room p written in
      let s : accepted b ≡ stretch list w = rw e at is in
      record { within = omega (arith, l.0); text = rw (← s) l.1; status = rw (← s) }

  pub refused_line : (f : Refusal) → r ≡ Err f → length (refusal_line (number_of f)) ≤ length lent
      → (answered a ≡ line_write (refusal_line (number_of f)) lent) × (last ≡ line_memory (refusal_line (number_of f)) lent) → Answers list w (record { length = n; status = 1 }) last
  unfolding line_of status_of answered
  refused_line f e room p =
      let l = whole (refusal_line (number_of f)) lent last n a room p written in
      let s : refused (number_of f) ≡ stretch list w = rw e at is in
      record { within = omega (arith, l.0); text = rw (← s) l.1; status = rw (← s) }

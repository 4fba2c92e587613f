-- A line that has room is written whole.
-- Assumes nothing.
use Rattle.std.proofs.Common.{◌≡◌, ℕ, ◌≤◌, List, length, ◌∙◌, arith, le-ltb}
use Rattle.std.specs.Prelude.{Ok, Err}
use Rattle.wire.specs.Memory.{overlay}
use Rattle.wire.specs.Outcome.{Answer, first_fault, accepted, answered}
use Rattle.wire.proofs.FirstFault.{outcome_accepted, memory_accepted}
use Rattle.report.specs.Lines.{line_fault, line_write, line_memory}

-- the answer with this outcome
pub ok_of : (a : Answer) (n : ℕ) → answered a ≡ accepted n → a ≡ Ok n
unfolding answered
ok_of (Ok m) n e = cc
ok_of (Err r) n e = let z : ◌≡◌ {A = ℕ} 0 1 = cc in absurd (omega arith)

-- an answer that counts all of the bytes, which stand at the text's start
abbrev pub Whole : List ℕ → List ℕ → Answer → List ℕ → Type 0
Whole bytes text a last = (a ≡ Ok (length bytes)) × (last ≡ overlay bytes text)

module _ (bytes out : List ℕ) (room : length bytes ≤ length out) where
  clear : line_fault bytes out ≡ 0
  unfolding line_fault first_fault
  clear = simp (le-ltb _ _ room)

  line_answer : line_write bytes out ≡ accepted (length bytes)
  unfolding line_write
  line_answer = outcome_accepted (line_fault bytes out) (length bytes) clear

  line_memory_lem : line_memory bytes out ≡ overlay bytes out
  unfolding line_memory
  line_memory_lem = memory_accepted (line_fault bytes out) bytes out clear

pub line_whole : (bytes text last : List ℕ) (a : Answer) → length bytes ≤ length text
    → (answered a ≡ line_write bytes text) × (last ≡ line_memory bytes text) → Whole bytes text a last
line_whole bytes text last a room p =
    (ok_of a (length bytes) (p.0 ∙ line_answer bytes text room), p.1 ∙ line_memory_lem bytes text room)

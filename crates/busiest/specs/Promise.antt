-- What `stretch` promises.
-- Assumes nothing.
use Rattle.std.specs.Prelude.{ℕ, ◌≡◌, List, Result, Ok}
use Rattle.wire.specs.declared.Refusal.{Refusal}
use Rattle.wire.specs.Outcome.{answered}
use Rattle.busiest.specs.declared.Busiest.{Busiest}
use Rattle.busiest.specs.Busiest.{records_of, references_of, stretch}
use Rattle.busiest.specs.InWords.{IsBusiest, InWords}
use Rattle.busiest.specs.Examples.{StretchExamples}

-- its answer, that an accepted one is what CR 7 asks, and that the definitions say and give what CR 7 writes out
pub record Found (list : List ℕ) (w : ℕ) (r : Result Busiest Refusal) : Type 0 where
  pub answer : answered r ≡ stretch list w
  pub busiest : (b : Busiest) → r ≡ Ok b → IsBusiest w (references_of (records_of list)) b
  pub in_words : InWords
  pub examples : StretchExamples

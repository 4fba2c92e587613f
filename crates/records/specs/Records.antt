-- The records that the program gives of its input, and the refusal that it reports: the block call on one block after the other.
-- Assumes nothing.
use Rattle.std.specs.Prelude.{ℕ, ◌+◌, ◌/◌, ◌≡◌, not, cond, List, [], ◌∷◌, ◌++◌, eqb, length, Option, None, Some}
use Rattle.std.specs.Simd.{first_chunks}
use Rattle.wire.specs.declared.Refusal.{Refusal}
use Rattle.wire.specs.Outcome.{number_of}
use Rattle.sample.specs.declared.Sample.{Sample}
use Rattle.block.specs.Block.{samples_in, samples_of}
use Rattle.history.specs.declared.State.{State}
use Rattle.history.specs.Rules.{unit_settings}
use Rattle.history.specs.State.{fresh, state_after, steps_give}
use Rattle.history.specs.Ranges.{state_in_range}
use Rattle.calls.specs.Checks.{block_fault}
use Rattle.calls.specs.Calls.{records}

-- an input's blocks, 512 bytes each; a last piece may be shorter
unfoldable pub blocks_in : List ℕ → List (List ℕ)
blocks_in input = first_chunks 512 ((length input + 511) / 512) input

-- the samples of a block, and the first check that refuses it where the block call has the 1,600 bytes of output that it needs
unfoldable pub samples_on : List ℕ → List Sample
samples_on block = samples_of (samples_in block)

unfoldable pub fault_on : State → List ℕ → ℕ
fault_on s block = block_fault (not (state_in_range s)) s.taken block 1600

-- the records that blocks in turn give, up to the first refused one
unfoldable pub records_from : State → List (List ℕ) → List ℕ
records_from s [] = []
records_from s (b ∷ bs) =
    cond (eqb (fault_on s b) 0)
    (records (steps_give unit_settings s (samples_on b)) ++ records_from (state_after unit_settings s (samples_on b)) bs)
    []

-- the number of that block's refusal, 0 where no block is refused
unfoldable pub refusal_from : State → List (List ℕ) → ℕ
refusal_from s [] = 0
refusal_from s (b ∷ bs) =
    cond (eqb (fault_on s b) 0) (refusal_from (state_after unit_settings s (samples_on b)) bs) (fault_on s b)

-- 0 where no block is refused
abbrev pub number_or_zero : Option Refusal → ℕ
number_or_zero None = 0
number_or_zero (Some r) = number_of r

-- what a fresh engine gives of an input stands behind the records from before
pub record Gives (input before : List ℕ) (refusal : Option Refusal) (last : List ℕ) : Type 0 where
  pub records : last ≡ before ++ records_from fresh (blocks_in input)
  pub refused : number_or_zero refusal ≡ refusal_from fresh (blocks_in input)

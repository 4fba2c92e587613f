-- The ranges of refusal 21 by examples, as docs/DECISIONS.md lists them: each number as large as it may be, and one more.
-- Assumes nothing.
use Rattle.std.specs.Prelude.{ℕ, ◌+◌, ◌≡◌, Bool, true, false, List, [], ◌∷◌, map, ℤ, pos, get_or, set, drop, replicate, Option, Some, None}
use Rattle.wire.specs.EveryByte.{numbers_from}
use Rattle.sample.specs.declared.Position.{Position}
use Rattle.sample.specs.Examples.{minus}
use Rattle.filter.specs.declared.Filter.TheVariants.{Empty}
use Rattle.message.specs.declared.Message.{Message}
use Rattle.message.specs.Examples.{message}
use Rattle.history.specs.declared.Cycle.{Cycle}
use Rattle.history.specs.declared.State.{State}
use Rattle.history.specs.Runs.{run_count}
use Rattle.history.specs.History.{start_of_journey}
use Rattle.history.specs.State.{no_marks}
use Rattle.history.specs.Ranges.{state_in_range}

-- a cycle of this many ticks, in which no condition was fulfilled
abbrev pub cycle_of_ticks : ℕ → Cycle
cycle_of_ticks ticks = record { ticks = ticks; marks = no_marks }

-- the state that has taken n samples, with these numbers in the order of the list in docs/DECISIONS.md, and this position of the last New
unfoldable pub state_at : Position → ℕ → List ℕ → Option Message → State
state_at origin n numbers standing = record {
  taken = n;
  filter = Empty;
  ignition = false;
  runs = drop 6 numbers;
  stoppedcycle = cycle_of_ticks (get_or numbers 0 0);
  brokendowncycle = cycle_of_ticks (get_or numbers 1 0);
  log = record {
    standing = standing;
    started = get_or numbers 2 0;
    origin = origin;
    counted = get_or numbers 3 0;
    lastcancel = get_or numbers 4 0;
    events = get_or numbers 5 0;
  };
}

-- with the last New at the start of the journey
abbrev pub state_with : ℕ → List ℕ → Option Message → State
state_with = state_at start_of_journey

-- the numbers of a state that has taken seven samples, each as large as it may be
abbrev pub sevens : List ℕ
sevens = replicate (6 + run_count) 7

-- whether the state is in range with the standing warning's last message of this kind, quality and reference tick
unfoldable pub in_range_with : ℕ → ℕ → ℕ → Bool
in_range_with kind quality reference =
    state_in_range (state_with 7 sevens (Some (message kind 1 quality 0 0 1 reference reference (pos 3) (pos 4) 5 30)))

-- whether the state is in range with the last New that many decimetres east and north of the start of the journey: while no warning stands, and while one does
unfoldable pub in_range_from : ℤ → ℤ → List Bool
in_range_from east north =
    map (λ standing. state_in_range (state_at (record { east = east; north = north }) 7 sevens standing))
    (None ∷ Some (message 1 1 3 0 0 1 6 6 (pos 3) (pos 4) 5 30) ∷ [])

-- the same in both
abbrev pub both : Bool → List Bool
both b = b ∷ b ∷ []

pub record RangeExamples : Type 0 where
  -- 0 to 10,000,000 samples taken
  pub taken : map (λ n. state_in_range (state_with n [] None)) (0 ∷ 10000000 ∷ 10000001 ∷ []) ≡ true ∷ true ∷ false ∷ []
  -- each count and tick at most the samples taken: none above, and each of them one above
  pub none_above : state_in_range (state_with 7 sevens None) ≡ true
  pub each_above : map (λ p. state_in_range (state_with 7 (set sevens p 8) None)) (numbers_from 0 (6 + run_count)) ≡ replicate (6 + run_count) false
  -- the standing warning's message: a New or an Update that 14 admits, and no Cancel, with a reference tick below the samples taken
  pub kinds : map (λ kind. in_range_with kind 3 6) (1 ∷ 2 ∷ 3 ∷ []) ≡ true ∷ true ∷ false ∷ []
  pub admitted : map (λ quality. in_range_with 1 quality 6) (0 ∷ 1 ∷ 3 ∷ 4 ∷ []) ≡ false ∷ true ∷ true ∷ false ∷ []
  pub reference : map (λ tick. in_range_with 1 3 tick) (0 ∷ 6 ∷ 7 ∷ []) ≡ true ∷ true ∷ false ∷ []
  -- the position of the last New: each coordinate from -1,000,000 to 1,000,000
  pub east : map (λ z. in_range_from z (minus 1000000)) (minus 1000001 ∷ minus 1000000 ∷ pos 1000000 ∷ pos 1000001 ∷ []) ≡ map both (false ∷ true ∷ true ∷ false ∷ [])
  pub north : map (in_range_from (pos 1000000)) (minus 1000001 ∷ minus 1000000 ∷ pos 1000000 ∷ pos 1000001 ∷ []) ≡ map both (false ∷ true ∷ true ∷ false ∷ [])

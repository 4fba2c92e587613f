-- The filter of every state that a program holds has an f32's value, and its runs are as many as a state has.
-- Assumes nothing.
use mathlib.Core.Path.{◌≡◌}
use mathlib.Core.List.{List}
use lib.Dec.{T}
use lib.ListN.{length}
use mir.Val.{Val}
use denote.Laws.{Is}
use denote.Struct.Declared.{row}
use denote.Struct.Laws.{owed}
use Rattle.filter.specs.Filter.{is_f32}
use Rattle.filter.proofs.OwnedFilter.{owned_f32}
use Rattle.history.specs.declared.State.{State}
use Rattle.history.specs.Runs.{run_count}
use Rattle.history.specs.contracts.State as state
use Rattle.history.proofs.State.TheLaws as state-laws

-- what owning a state tells; of a parameter it is in the record `c.good` of the function's entry
module _ (s : State) (vs : List Val) (p : Is (row state.the_type) s vs) where
  pub owned_filter : T (is_f32 s.filter)
  owned_filter = owned_f32 s.filter _ (owed state.the_type state-laws.the_laws s vs p).1.0

  pub owned_runs : length s.runs ≡ run_count
  owned_runs = (owed state.the_type state-laws.the_laws s vs p).1.1.1.0.1.0.1

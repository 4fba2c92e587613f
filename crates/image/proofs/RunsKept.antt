-- A state goes on with as many runs as it had.
-- Assumes nothing.
use mathlib.Core.Path.{◌≡◌, sym, ◌∙◌}
use mathlib.Core.List.{List, [], ◌∷◌}
use lib.ListN.{length}
use Rattle.sample.specs.declared.Sample.{Sample}
use Rattle.history.specs.declared.State.{State}
use Rattle.history.specs.Rules.{Settings}
use Rattle.history.specs.Runs.{run_count, facts, facts_of}
use Rattle.history.specs.State.{with_sample, with_log, step, state_after}
use Rattle.history.proofs.RunsGoOn.{runs_size}

step_keeps : (S : Settings) (s : State) (x : Sample) → length s.runs ≡ run_count → length (step S s x).state.runs ≡ run_count
unfolding step with_log with_sample facts_of facts
step_keeps S s x h = runs_size _ s.runs (sym h) ∙ h

pub runs_kept : (S : Settings) (s : State) (xs : List Sample) → length s.runs ≡ run_count → length (state_after S s xs).runs ≡ run_count
unfolding state_after
runs_kept S s [] h = h
runs_kept S s (x ∷ xs) h = runs_kept S (step S s x).state xs (step_keeps S s x h)

use Rattle.wire.proofs.Places.{Changing}
use Rattle.history.specs.Runs.{runs_after}
use Rattle.engine.proofs.taking.runs_after.Given as goal

abbrev pub invariant-loop-i : goal.invariant-loop-i
invariant-loop-i l = Changing (runs_after l.facts l.initial.run-items) l.initial.run-items l.run-items l.i

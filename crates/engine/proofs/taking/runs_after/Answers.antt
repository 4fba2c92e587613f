use native.Mathlib.Omega.{arith}
use Rattle.wire.proofs.Places.{change_ends}
use Rattle.history.proofs.RunsGoOn.{runs_size}
use Rattle.engine.proofs.RunsLoop.{run_fits, after_goes_on}
use Rattle.engine.proofs.taking.runs_after.Goals as goal
use Rattle.engine.proofs.taking.runs_after.Goals.{then-facts-i, else-facts-i}

pub overflow_add-run : goal.overflow_add-run
overflow_add-run c = omega (arith, run_fits c.args.s.fits c.loop-i.invariant (omega arith), c.args.s.fits.taken)

pub loop-i-preserved : goal.loop-i-preserved
loop-i-preserved c =
    after_goes_on _ _ c.loop-i.invariant (omega arith) (omega arith) _
    (elim c.if-facts-i.branch [ then-facts-i w ↦ simp w.if-facts-i.true w.run-is | else-facts-i w ↦ simp w.if-facts-i.false w.run-is ])

pub returns : goal.returns
returns c = change_ends c.loop-i.invariant (runs_size c.args.facts _ (omega arith)) (omega arith)

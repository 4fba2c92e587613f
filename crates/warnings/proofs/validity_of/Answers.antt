use Rattle.warnings.specs.Warnings.{validity_of}
use Rattle.warnings.proofs.validity_of.Goals as goal

pub returns-then-ignition : goal.returns-then-ignition
unfolding validity_of
returns-then-ignition c = simp (c.row_of-row.ensures, c.if-ignition.true)

pub returns-else-ignition : goal.returns-else-ignition
unfolding validity_of
returns-else-ignition c = simp (c.row_of-row.ensures, c.if-ignition.false)

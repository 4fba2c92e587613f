use native.Mathlib.Omega.{arith}
use Rattle.warnings.specs.Warnings.{row_of}
use Rattle.warnings.proofs.Table.{rows, row_of_warning, no_row_lem}
use Rattle.warnings.proofs.row_of.Goals as goal

pub returns-in-1-to-4 : goal.returns-in-1-to-4
unfolding rows row_of
returns-in-1-to-4 c = rw c.from-i.ensures (row_of_warning c.args.warning (omega arith) (omega arith))

pub returns-in_default : goal.returns-in_default
unfolding row_of
returns-in_default c = no_row_lem c.args.warning (λ e. omega arith)

pub returns-in_default-2 : goal.returns-in_default-2
unfolding row_of
returns-in_default-2 c = no_row_lem c.args.warning (λ e. omega arith)

use Rattle.report.proofs.Decimal.{library_decimal}
use native.Mathlib.Omega.{arith}
use Rattle.report.proofs.put_number.Goals as goal

pub returns-clause-bytes : goal.returns-clause-bytes
returns-clause-bytes c = let e = library_decimal c.args.n (omega (arith, c.ranges.n.fits)) in cc

use Rattle.std.proofs.Common.{sym}
use Rattle.filter.proofs.FloatBits.{nan_bits}
use Rattle.filter.proofs.bits_of.Goals as goal

pub returns-then-is_nan : goal.returns-then-is_nan
returns-then-is_nan c = nan_bits _ (sym c.if-is_nan.ensures.value)

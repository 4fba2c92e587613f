use mathlib.Core.Path.{ap, sym, ◌∙◌}
use Rattle.filter.specs.Filter.{blend}
use Rattle.filter.proofs.FloatBits.{rests}
use Rattle.filter.proofs.blended.Goals as goal

pub returns-then-bits_of-eq-REST : goal.returns-then-bits_of-eq-REST
returns-then-bits_of-eq-REST c = rests _ _ c.well_formed.0.1 c.if-reading-eq0.true (sym c.bits_of.ensures ∙ c.if-bits_of-eq-REST.true)

pub returns : goal.returns
unfolding blend
returns c = ap (blend c.args.f) c.from-x.ensures

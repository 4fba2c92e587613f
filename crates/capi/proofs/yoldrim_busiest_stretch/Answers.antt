use Rattle.std.proofs.Common.{refl, arith}
use Rattle.wire.specs.Outcome.{answered}
use Rattle.busiest.proofs.Counts.{few_found}
use Rattle.capi.proofs.Stretches.{stretch_found, stretch_refused}
use Rattle.capi.proofs.yoldrim_busiest_stretch.Goals as goal

pub overflow_cast-result : goal.overflow_cast-result
overflow_cast-result c = let few = few_found _ _ _ (c.in-Ok.ensures.busiest _ refl) in omega (arith, few)

pub returns-in-Ok : goal.returns-in-Ok
unfolding answered
returns-in-Ok c =
    let few = few_found _ _ _ (c.in-Ok.ensures.busiest _ refl) in
    stretch_found c.args.list.now c.args.width _ _ _ c.in-Ok.ensures.answer (omega (arith, few)) c.unwrap_or.ensures

pub returns-in-Err : goal.returns-in-Err
unfolding answered
returns-in-Err c =
    stretch_refused c.args.list.now c.args.width _ _ _ _ c.in-Err.ensures.answer (record { sfits = c.minus.type_inv }) c.minus.ensures (record { sfits = c.from.type_inv }) c.from.ensures

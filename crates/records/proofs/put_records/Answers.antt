use Rattle.std.proofs.Common.{◌*◌, sym, refl, arith, rules, length-take-le, ◌∙◌}
use Rattle.records.proofs.BlockGiven.{few_records, given_turn, refused_turn, ends}
use Rattle.records.proofs.put_records.Goals as goal

pub loop-block-init : goal.loop-block-init
loop-block-init c =
    let e = c.into_iter-block-iterator.ensures.into_iter_gives in
    let fresh = c.fresh-engine.ensures.state in
    (search rules, tt, search rules, refl, rw (e, fresh, c.chunks-block-items.ensures.rest) refl, rw (e, fresh, c.chunks-block-items.ensures.rest) refl)

pub overflow_mul-out : goal.overflow_mul-out
overflow_mul-out c = let few = few_records _ _ _ _ _ _ c.loop-block.invariant.3 c.block-called.ensures _ c.in-Ok.is in omega arith

pub slice_bounds-out-end : goal.slice_bounds-out-end
slice_bounds-out-end c = let few = few_records _ _ _ _ _ _ c.loop-block.invariant.3 c.block-called.ensures _ c.in-Ok.is in omega (arith, c.loop-block.invariant.3, c.block-called.auto.out)

pub slice_bounds-extend_from_slice-end : goal.slice_bounds-extend_from_slice-end
slice_bounds-extend_from_slice-end c =
    let few = few_records _ _ _ _ _ _ c.loop-block.invariant.3 c.block-called.ensures _ c.in-Ok.is in
    sym (length-take-le (32 * c.in-Ok.count) c.block-called.new.out (omega (arith, c.loop-block.invariant.3, c.block-called.auto.out)))

pub loop-block-preserved : goal.loop-block-preserved
loop-block-preserved c =
    let steps = c.in-Some.ensures.steps in
    let size = c.loop-block.invariant.2 in
    let turn = given_turn _ _ _ _ _ _ c.loop-block.invariant.3 c.block-called.ensures _ _ _ _ _ steps.1.0 (rw size at steps.1.1) steps.1.2
    c.loop-block.invariant.4 c.loop-block.invariant.5 _ c.in-Ok.is in
    (search rules, tt, steps.0 ∙ size, c.block-called.auto.out ∙ c.loop-block.invariant.3, rw c.in_ok-extend_from_slice-in-Ok.ensures.items turn.0, turn.1)

pub returns-in-Err : goal.returns-in-Err
returns-in-Err c =
    let steps = c.in-Some.ensures.steps in
    let size = c.loop-block.invariant.2 in
    let turn = refused_turn _ _ _ _ _ _ c.loop-block.invariant.3 c.block-called.ensures _ _ _ _ _ steps.1.0 (rw size at steps.1.1) steps.1.2
    c.loop-block.invariant.4 c.loop-block.invariant.5 _ c.in-Err.is in
    record { records = turn.0; refused = turn.1 }

pub returns : goal.returns
returns c =
    let end = ends _ _ _ _ _ c.in-None.ensures.steps.1.0 c.loop-block.invariant.4 c.loop-block.invariant.5 in
    record { records = end.0; refused = end.1 }

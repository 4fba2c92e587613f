use Rattle.std.proofs.Common.{sym, ap, ◌∙◌}
use Rattle.wire.specs.Outcome.{answered}
use Rattle.wire.proofs.FirstFault.{refused_number}
use Rattle.calls.proofs.CallFaults.{sample_lent}
use Rattle.calls.specs.Calls.{lent, call_fault}
use Rattle.calls.proofs.CallCounts.{call_count}
use Rattle.capi.specs.Imaged.{image_fault, image_kept}
use Rattle.capi.proofs.Numbers.{again}
use Rattle.capi.proofs.ImageCalls.{lent_accepted, image_refused, image_meets}
use Rattle.capi.proofs.yoldrim_sample.Goals as goal

pub finish-requires : goal.finish-requires
finish-requires c = call_count _ _ _ c.step-called.ensures.answer

pub returns-in-Ok : goal.returns-in-Ok
unfolding answered
returns-in-Ok c =
    let a = lent_accepted _ _ _ _ _ _ c.in-Ok.ensures in
    image_meets _ _ a.0 _ a.1 _ _ _ _ _ (record { sfits = c.finish.type_inv }) (c.finish.ensures.0, c.finish.ensures.1 ∙ ap (λ b. image_kept (answered c.step-called.result.answer) b c.args.memory.now) c.save.ensures.image) c.step-called.ensures

pub returns-in-Err : goal.returns-in-Err
unfolding answered image_fault call_fault lent
returns-in-Err c =
    let r = refused_number _ _ _ (sym c.in-Err.ensures) in
    image_refused _ _ _ _ (sample_lent _ _ _ _ _ r.0) (again _ _ (record { sfits = c.minus.type_inv }) c.minus.ensures)

use Rattle.std.proofs.Common.{refl, ap, ◌∙◌}
use Rattle.wire.specs.Outcome.{answered}
use Rattle.receiver.specs.Calls.{lent}
use Rattle.receiver_image.proofs.Loads.{is_image_lem}
use Rattle.capi.specs.Imaged.{image_kept}
use Rattle.capi.proofs.Numbers.{again}
use Rattle.capi.proofs.ReceiverCalls.{receiver_count, loaded, receiver_refused, receiver_kept, receiver_meets}
use Rattle.capi.proofs.receiving.yoldrim_receive.Goals as goal

pub finish-requires : goal.finish-requires
finish-requires c = receiver_count _ _ _ c.receive-called.ensures.answer

pub returns-in-Ok : goal.returns-in-Ok
unfolding answered
returns-in-Ok c =
    let i = loaded _ _ c.in-Ok.ensures.found in
    receiver_meets _ _ _ _ _ _ c.receive-called.ensures c.in-Ok.ensures.found _ _ (record { sfits = c.finish.type_inv }) c.finish.ensures.0
    (receiver_kept _ _ _ _ _ _ c.receive-called.ensures (c.in-Ok.ensures.as_saved _ refl) (is_image_lem _ i.0).whole _ (c.finish.ensures.1 ∙ ap (λ b. image_kept (answered c.receive-called.result.answer) b c.args.memory.now) c.save.ensures.image))

pub returns-in-Err : goal.returns-in-Err
unfolding answered lent
returns-in-Err c = receiver_refused _ _ _ _ c.in-Err.ensures.found (again _ _ (record { sfits = c.minus.type_inv }) c.minus.ensures)

use Rattle.std.proofs.Common.{refl, sym, ap, ◌∙◌}
use Rattle.receiver_image.specs.ReceiverImage.{image_of}
use Rattle.wire.specs.Outcome.{answered}
use Rattle.receiver.specs.Calls.{lent, call_receiver}
use Rattle.capi.proofs.Numbers.{again}
use Rattle.capi.proofs.ReceiverCalls.{receiver_count, receiver_refused, receiver_meets}
use Rattle.capi.proofs.receiving.yoldrim_show.Goals as goal

pub number-requires : goal.number-requires
number-requires c = receiver_count _ _ _ c.show.ensures.answer

pub returns-in-Ok : goal.returns-in-Ok
unfolding answered call_receiver
returns-in-Ok c =
    receiver_meets _ _ _ _ _ _ c.show.ensures c.in-Ok.ensures.found _ _ (record { sfits = c.number.type_inv }) c.number.ensures
    (sym (ap image_of c.show.ensures.receiver ∙ c.in-Ok.ensures.as_saved _ refl))

pub returns-in-Err : goal.returns-in-Err
unfolding answered lent
returns-in-Err c = receiver_refused _ _ _ _ c.in-Err.ensures.found (again _ _ (record { sfits = c.minus.type_inv }) c.minus.ensures)

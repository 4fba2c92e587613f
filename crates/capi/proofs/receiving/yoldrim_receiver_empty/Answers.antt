use Rattle.capi.proofs.Numbers.{again}
use Rattle.capi.proofs.ReceiverDemandHolds.{empty_refused, empty_written}
use Rattle.capi.proofs.receiving.yoldrim_receiver_empty.Goals as goal

pub returns-then-memory-ne-BYTES : goal.returns-then-memory-ne-BYTES
returns-then-memory-ne-BYTES c =
    rw (again _ _ (record { sfits = c.minus.type_inv }) c.minus.ensures) (empty_refused _ c.if-memory-ne-BYTES.true)

pub returns : goal.returns
returns c = empty_written _ _ _ _ c.if-memory-ne-BYTES.false c.empty.ensures.receiver c.save.ensures.image c.copy_at.ensures

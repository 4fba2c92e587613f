use Rattle.capi.proofs.Numbers.{again}
use Rattle.capi.proofs.FreshImages.{fresh_refused, fresh_written}
use Rattle.capi.proofs.yoldrim_fresh.Goals as goal

pub returns-then-memory-ne-BYTES : goal.returns-then-memory-ne-BYTES
returns-then-memory-ne-BYTES c =
    rw (again _ _ (record { sfits = c.minus.type_inv }) c.minus.ensures) (fresh_refused _ c.if-memory-ne-BYTES.true)

pub returns : goal.returns
returns c =
    fresh_written _ _ _ _ c.if-memory-ne-BYTES.false c.fresh-e.ensures.state c.save.ensures.image c.copy_at.ensures

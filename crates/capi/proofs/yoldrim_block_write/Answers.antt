use Rattle.capi.proofs.Counts.{write_count}
use Rattle.capi.proofs.yoldrim_block_write.Goals as goal

pub number-requires : goal.number-requires
number-requires c = write_count _ _ _ c.write.ensures.answer

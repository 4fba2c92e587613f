use Rattle.capi.proofs.Counts.{read_count}
use Rattle.capi.proofs.yoldrim_block_read.Goals as goal

pub number-requires : goal.number-requires
number-requires c = read_count _ _ _ c.read.ensures.answer

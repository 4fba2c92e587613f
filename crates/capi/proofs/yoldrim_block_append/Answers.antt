use Rattle.capi.proofs.Counts.{append_count}
use Rattle.capi.proofs.yoldrim_block_append.Goals as goal

pub number-requires : goal.number-requires
number-requires c = append_count _ _ _ c.append.ensures.answer

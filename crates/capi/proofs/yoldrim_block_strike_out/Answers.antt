use Rattle.capi.proofs.Counts.{strike_out_count}
use Rattle.capi.proofs.yoldrim_block_strike_out.Goals as goal

pub number-requires : goal.number-requires
number-requires c = strike_out_count _ _ c.strike_out.ensures.answer

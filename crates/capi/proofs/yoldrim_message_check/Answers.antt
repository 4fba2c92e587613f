use Rattle.std.proofs.Common.{ap, ◌∙◌}
use Rattle.wire.specs.Outcome.{answered}
use Rattle.capi.specs.Imaged.{check_number}
use Rattle.capi.proofs.Numbers.{again}
use Rattle.capi.proofs.yoldrim_message_check.Goals as goal

pub returns-in-Ok : goal.returns-in-Ok
unfolding check_number answered
returns-in-Ok c = ap check_number c.in-Ok.ensures.found

pub returns-in-Err : goal.returns-in-Err
unfolding check_number answered
returns-in-Err c = again _ _ (record { sfits = c.minus.type_inv }) c.minus.ensures ∙ ap check_number c.in-Err.ensures.found

use Rattle.receiver.specs.Calls.{call_fault, call_checks}
use Rattle.std.proofs.Common.{◌∙◌}
use Rattle.wire.specs.Outcome.{answered}
use Rattle.wire.proofs.FirstFault.{answered_passed}
use Rattle.receiver.proofs.Checked.{message_refused, arrival_refused, arrival_accepted}
use Rattle.receiver.proofs.Receiver.check.Goals as goal

pub returns-in_err-read : goal.returns-in_err-read
unfolding answered call_fault call_checks
returns-in_err-read c =
    answered_passed _ _ c.from_residual.ensures.1 ∙ message_refused _ _ _ _ _ _ c.in_err-read.ensures.found

pub returns-in_err-check_arrival : goal.returns-in_err-check_arrival
unfolding answered call_fault call_checks
returns-in_err-check_arrival c =
    answered_passed _ _ c.from_residual-in_err-check_arrival.ensures.1
    ∙ arrival_refused _ _ _ _ _ _ c.in_ok-read.ensures.found _ c.in_err-check_arrival.ensures

pub returns : goal.returns
unfolding answered call_fault call_checks
returns c = arrival_accepted _ _ _ _ _ _ c.in_ok-read.ensures.found c.in_ok-check_arrival.ensures

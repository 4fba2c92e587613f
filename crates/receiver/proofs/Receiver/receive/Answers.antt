use Rattle.receiver.specs.Calls.{call_fault, call_checks}
use Rattle.wire.specs.Outcome.{answered}
use Rattle.receiver.proofs.CallsMeet.{receive_few, receive_accepted, receive_refused}
use Rattle.receiver.proofs.Receiver.receive.Goals as goal

pub with-requires : goal.with-requires
unfolding answered call_fault call_checks
with-requires c = receive_few _ _ _ _ _ c.in-Ok.ensures

pub returns-in-Ok : goal.returns-in-Ok
unfolding answered call_fault call_checks
returns-in-Ok c = receive_accepted _ _ _ _ _ c.in-Ok.ensures _ c.with.ensures

pub returns-in-Err : goal.returns-in-Err
unfolding answered call_fault call_checks
returns-in-Err c = receive_refused _ _ _ _ _ c.in-Err.ensures

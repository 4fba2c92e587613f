use Rattle.receiver.proofs.EmptyMeets.{empty_meets}
use Rattle.receiver.proofs.Receiver.empty.Goals as goal

pub returns : goal.returns
returns c = empty_meets _ c.holding.ensures

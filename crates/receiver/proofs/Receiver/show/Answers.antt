use Rattle.std.proofs.Common.{◌∙◌}
use Rattle.receiver.proofs.CallsMeet.{show_refused, show_accepted}
use Rattle.receiver.proofs.Receiver.show.Goals as goal

pub returns-then-out : goal.returns-then-out
returns-then-out c = show_refused _ _ c.if-out.true

pub returns-else-out : goal.returns-else-out
returns-else-out c = show_accepted _ _ _ _ _ c.if-out.false (c.as_slice.ensures.value ∙ c.held.ensures) c.write_shown.ensures

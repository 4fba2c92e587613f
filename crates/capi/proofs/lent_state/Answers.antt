use Rattle.std.proofs.Common.{ap, ◌∙◌}
use Rattle.wire.specs.Outcome.{outcome}
use Rattle.wire.proofs.FirstFault.{answered_refused, answered_passed}
use Rattle.calls.proofs.CallFaults.{lengths_refused, lengths_passed}
use Rattle.image.specs.Image.{image_read, state_in}
use Rattle.capi.proofs.lent_state.Goals as goal

pub returns-in_err-check_lengths : goal.returns-in_err-check_lengths
returns-in_err-check_lengths c =
    let e = lengths_refused _ _ _ _ _ c.in_err-check_lengths.field-0.0 c.in_err-check_lengths.ensures in
    answered_passed _ _ c.from_residual.ensures.1 ∙ answered_refused _ _ _ e

pub returns : goal.returns
unfolding image_read
returns c = c.load.ensures.found ∙ ap (λ n. outcome n (state_in c.args.memory.now)) (lengths_passed _ _ _ _ _ c.in_ok-check_lengths.ensures)

use Rattle.std.proofs.Common.{◌≡◌, length, sym}
use Rattle.std.specs.Array.{IsWholeChunk}
use Rattle.wire.specs.declared.Refusal.TheVariants.{EngineState}
use Rattle.wire.proofs.FirstFault.{same_error, is_passed}
use Rattle.receiver_image.specs.ReceiverImage.{image_size}
use Rattle.receiver_image.proofs.Loads.{refused_length, refused_other, loaded}
use Rattle.receiver_image.proofs.load.Goals as goal

pub returns-in_err-image : goal.returns-in_err-image
returns-in_err-image c =
    let none = c.in_err-image.ensures.ok_part in
    let other : length c.args.image.now ≡ image_size → ⊥ = rw none at c.as_array.ensures.cases in
    let why = same_error c.in_err-image.field-0.0 EngineState (rw none at c.in_err-image.ensures.value) in
    rw (← is_passed c.from_residual.result _ c.from_residual.ensures.1, why) (refused_length c.args.image.now other)

pub returns-then-eq : goal.returns-then-eq
returns-then-eq c =
    let whole : IsWholeChunk c.args.image.now c.in_ok-image.image.now image_size = rw c.in_ok-image.ensures.ok_part at c.as_array.ensures.cases in
    loaded _ _ whole _ c.receiver_in-receiver.ensures _ c.save.ensures (sym c.if-eq.ensures)

pub returns-else-eq : goal.returns-else-eq
returns-else-eq c =
    let exact : IsWholeChunk c.args.image.now c.in_ok-image.image.now image_size = rw c.in_ok-image.ensures.ok_part at c.as_array.ensures.cases in
    refused_other _ _ exact _ c.receiver_in-receiver.ensures _ c.save.ensures (sym c.if-eq.ensures)

use Rattle.std.proofs.Common.{◌≡◌, length}
use Rattle.std.specs.Array.{IsWholeChunk}
use Rattle.wire.specs.declared.Refusal.TheVariants.{EngineState}
use Rattle.wire.proofs.FirstFault.{same_error, is_passed}
use Rattle.image.specs.Image.{image_size}
use Rattle.image.proofs.Loaded.{refused_length, refused_other, loaded}
use Rattle.image.proofs.load.Goals as goal

pub returns-in_err-image : goal.returns-in_err-image
returns-in_err-image c =
    let none = c.in_err-image.ensures.ok_part in
    let other : length c.args.image.now ≡ image_size → ⊥ = rw none at c.as_array.ensures.cases in
    let why = same_error c.in_err-image.field-0.0 EngineState (rw none at c.in_err-image.ensures.value) in
    rw (← is_passed c.from_residual.result _ c.from_residual.ensures.1, why) (refused_length c.args.image.now other)

pub returns-then-is_saved : goal.returns-then-is_saved
returns-then-is_saved c =
    let whole : IsWholeChunk c.args.image.now c.in_ok-image.image.now image_size = rw c.in_ok-image.ensures.ok_part at c.as_array.ensures.cases in
    loaded _ _ whole _ c.state_in-state.ensures _ c.is_saved.ensures c.if-is_saved.true

pub returns-else-is_saved : goal.returns-else-is_saved
returns-else-is_saved c =
    let exact : IsWholeChunk c.args.image.now c.in_ok-image.image.now image_size = rw c.in_ok-image.ensures.ok_part at c.as_array.ensures.cases in
    refused_other _ _ exact _ c.state_in-state.ensures _ c.is_saved.ensures c.if-is_saved.false

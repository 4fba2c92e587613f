use Rattle.std.proofs.Common.{◌≡◌, arith, refl, ◌∙◌}
use Rattle.receiver_image.proofs.Bytes.{none_written, place_written, all_written}
use Rattle.receiver_image.proofs.Loads.{saved_promise}
use Rattle.receiver_image.proofs.save.Goals as goal

pub loop-k-init : goal.loop-k-init
loop-k-init c = none_written c.args.receiver _ _ _ refl (omega arith) c.to_bytes.ensures c.copy_at.ensures

pub loop-k-preserved : goal.loop-k-preserved
loop-k-preserved c = rw (c.copy_at-in-loop-k.ensures, c.place_bytes.ensures, c.loop-k.invariant) (place_written c.args.receiver c.loop-k.k c.copy_at.new.out (omega arith))

pub returns : goal.returns
returns c =
    let all : c.loop-k.k ≡ 8 = omega arith in
    saved_promise c.args.receiver _ (c.loop-k.invariant ∙ rw all (all_written c.args.receiver c.copy_at.new.out (omega arith)))

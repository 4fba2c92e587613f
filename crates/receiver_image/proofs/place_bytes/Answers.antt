use Rattle.receiver.specs.Calls.{nothing, place}
use Rattle.receiver_image.proofs.Bytes.{place_copied}
use Rattle.receiver_image.proofs.place_bytes.Goals as goal

pub returns : goal.returns
unfolding place nothing
returns c =
    place_copied (place c.args.receiver c.args.k) _ _ _ _ _ _ c.to_bytes.ensures c.to_bytes-2.ensures c.encoded.ensures c.copy_at.ensures c.copy_at-2.ensures c.copy_at-3.ensures

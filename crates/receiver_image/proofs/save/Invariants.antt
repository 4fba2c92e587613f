use Rattle.std.proofs.Common.{◌≡◌}
use Rattle.wire.specs.Memory.{overlay}
use Rattle.receiver_image.proofs.Bytes.{written}
use Rattle.receiver_image.proofs.save.Given as goal

abbrev pub invariant-loop-k : goal.invariant-loop-k
invariant-loop-k l = l.image ≡ overlay (written l.receiver l.k) l.initial.image

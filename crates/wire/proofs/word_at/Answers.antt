use Rattle.std.proofs.Common.{arith}
use Rattle.wire.proofs.word_at.Goals as goal

pub bytes_at-requires : goal.bytes_at-requires
bytes_at-requires g c = let h = g.met.W.Word.short in omega arith

pub from_bytes-requires : goal.from_bytes-requires
from_bytes-requires g c = let h = g.met.W.Word.short in omega arith

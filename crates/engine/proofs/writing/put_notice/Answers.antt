use lib.ListN.{length-take}
use native.Mathlib.Omega.{arith}
use mathlib.Core.Path.{◌∙◌}
use Rattle.history.specs.Rules.{noticed}
use Rattle.message.proofs.RoundTrip.{encode-length}
use Rattle.engine.proofs.Written.{none_written, one_written}
use Rattle.engine.proofs.writing.put_notice.Goals as goal

pub returns-in_default : goal.returns-in_default
unfolding noticed
returns-in_default c = rw c.in_default.is (none_written c.args.out.now)

pub copy_from_slice-requires : goal.copy_from_slice-requires
copy_from_slice-requires c = rw c.encoded.ensures (simp (length-take, encode-length c.in-Some.m) (omega arith))

pub returns : goal.returns
unfolding noticed
returns c = rw c.in-Some.is (one_written c.in-Some.m c.args.out.now _ (c.copy_from_slice.ensures.after ∙ c.encoded.ensures))

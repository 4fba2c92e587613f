use Rattle.std.proofs.Common.{◌∙◌, sym, arith, refl, length}
use Rattle.std.proofs.lemmas.Slice.{put_mid-paste}
use Rattle.wire.proofs.Splice.{splice_unfit, splice_paste}
use Rattle.wire.proofs.copy_at.Goals as goal

pub returns-then-out-at : goal.returns-then-out-at
returns-then-out-at c = let a = c.args in sym (splice_unfit a.out.now a.at a.bytes.now (omega arith))

pub returns-then-out-at-2 : goal.returns-then-out-at-2
returns-then-out-at-2 c = let a = c.args in sym (splice_unfit a.out.now a.at a.bytes.now (omega arith))

pub returns : goal.returns
returns c = let a = c.args in
    put_mid-paste _ _ _ _ a.bytes.now (length a.bytes.now) c.copy_from_slice.ensures.after (omega arith) refl
    ∙ splice_paste a.out.now a.at a.bytes.now (omega arith)

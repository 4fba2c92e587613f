use mathlib.Core.List.{List}
use Prim.Native.Nat.{ℕ, ◌≤◌}
use lib.ListN.{length}
use Rattle.wire.specs.Words.{bytes_of}
use Rattle.wire.specs.Memory.{splice}
use Rattle.message.specs.declared.Message.{Message}
use mathlib.Core.Path.{◌≡◌, refl, ◌∙◌}
use borrow.Author.Tests.{lt-ltb, le-ltb}
use Rattle.wire.specs.Outcome.{first_fault, outcome, answered}
use Rattle.wire.specs.Memory.{memory, overlay}
use Rattle.wire.proofs.Splice.{splice-overlay}
use Rattle.message.specs.Message.{write_fault, encode}
use Rattle.message.proofs.RoundTrip.{written_promise}
use Rattle.message.proofs.write.Goals as goal

-- the 32 bytes, copied to the start
written : (m : Message) (bytes out after : List ℕ) → bytes ≡ encode m → after ≡ splice out 0 bytes → 32 ≤ length out
    → after ≡ overlay (encode m) out
unfolding encode bytes_of
written m bytes out after e f h = f ∙ rw e (splice-overlay out (encode m) h)

pub returns-then-out-lt32 : goal.returns-then-out-lt32
unfolding answered write_fault first_fault outcome memory
returns-then-out-lt32 c = written_promise _ _ _ _ (simp (lt-ltb _ _ c.if-out-lt32.true) (refl, refl))

pub returns-then-not-is_admitted : goal.returns-then-not-is_admitted
unfolding answered write_fault first_fault outcome memory
returns-then-not-is_admitted c = written_promise _ _ _ _ (simp (le-ltb _ _ c.if-out-lt32.false, ← c.is_admitted.ensures, c.if-not-is_admitted.true) (refl, refl))

pub returns : goal.returns
unfolding answered write_fault first_fault outcome memory
returns c = let room = c.if-out-lt32.false in
    written_promise _ _ _ _ (simp (le-ltb _ _ room, ← c.is_admitted.ensures, c.if-not-is_admitted.false)
    (refl, written _ _ _ _ c.encoded.ensures c.copy_at.ensures room))

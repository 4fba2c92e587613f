-- The promises of `save` and of `load`.
-- Assumes nothing.
use mathlib.Core.Path.{◌≡◌, refl, sym, ap, ◌∙◌}
use mathlib.Core.Bool.{true, false}
use mathlib.Core.List.{List}
use Prim.Native.Nat.{ℕ}
use native.Mathlib.Omega.{arith}
use borrow.Author.Tests.{eq-eqb, ne_eqb, eqb-true, not-false}
use lib.Dec.{eqb}
use lib.ListN.{length}
use lib.Ieee.Fits.{and_l, and_r}
use Rattle.std.proofs.Common.{bytes_eq, Result, Ok, Err}
use Rattle.std.proofs.lemmas.Slice.Eq.{bytes_eq-Decides}
use Rattle.std.specs.Array.{IsWholeChunk}
use Rattle.wire.specs.declared.Refusal.{Refusal}
use Rattle.wire.specs.declared.Refusal.TheVariants.{EngineState}
use Rattle.wire.specs.Outcome.{first_fault, outcome, answered}
use Rattle.wire.proofs.FirstFault.{accepted_clear, clear_first}
use Rattle.wire.proofs.Tests.{holds_true, true_holds}
use Rattle.receiver.specs.declared.Receiver.{Receiver}
use Rattle.receiver_image.specs.ReceiverImage.{image_size, image_of, receiver_in, is_image, image_read, Fits, Saved, Loaded}
use Rattle.receiver_image.proofs.Bytes.{image_length}
use Rattle.receiver_image.proofs.Again.{receiver_again}

-- ---- saving, then loading

pub image_is_image : (r : Receiver) → Fits r → is_image (image_of r) ≡ true
unfolding is_image
image_is_image r f = simp (eq-eqb _ _ (image_length r), receiver_again r f, (bytes_eq-Decides (image_of r) (image_of r)).1 refl)

pub saved_promise : (r : Receiver) (bytes : List ℕ) → bytes ≡ image_of r → Saved r bytes
unfolding image_read first_fault outcome
saved_promise r bytes h = record { image = h; loads_back = λ f. rw h (simp (image_is_image r f, receiver_again r f)) }

-- ---- loading

-- what an image has
pub record Image (s : List ℕ) : Type 0 where
  pub whole : length s ≡ image_size
  pub saved : image_of (receiver_in s) ≡ s

pub is_image_lem : (s : List ℕ) → is_image s ≡ true → Image s
unfolding is_image
is_image_lem s e =
    let t = true_holds (is_image s) e in
    let a = eqb (length s) image_size in
    let b = bytes_eq (image_of (receiver_in s)) s in
    record { whole = eqb-true _ _ (holds_true a (and_l a b t)); saved = (bytes_eq-Decides (image_of (receiver_in s)) s).0 (holds_true b (and_r a b t)) }

loaded_promise : (s : List ℕ) (answer : Result Receiver Refusal) → answered answer ≡ image_read s → Loaded s answer
unfolding answered image_read
loaded_promise s answer h = record {
  found = h;
  as_saved = λ r e.
      let c = accepted_clear _ (receiver_in s) r (sym h ∙ ap answered e) in
      let k = clear_first _ _ (λ z. omega arith) c.0 in
      rw (← c.1) (is_image_lem s (not-false (is_image s) k.0)).saved;
}

abbrev pub none : Result Receiver Refusal
none = Err EngineState

refused : (s : List ℕ) → is_image s ≡ false → Loaded s none
unfolding image_read first_fault outcome answered
refused s h = loaded_promise s none (simp h)

pub refused_length : (s : List ℕ) → (length s ≡ image_size → ⊥) → Loaded s none
unfolding is_image
refused_length s h = refused s (simp (ne_eqb _ _ h))

-- of the right length: the bytes that were decoded, and what saving makes of the receiver in them
module _ (s t : List ℕ) (whole : IsWholeChunk s t image_size) (r : Receiver) (e : r ≡ receiver_in t) (bytes : List ℕ) (g : Saved r bytes) where
  is_image_if_same : is_image s ≡ bytes_eq bytes t
  unfolding is_image
  is_image_if_same = rw (g.image, e, whole.same) (simp (eq-eqb _ _ whole.long))

  pub refused_other : bytes_eq bytes t ≡ false → Loaded s none
  refused_other h = refused s (is_image_if_same ∙ h)

  pub loaded : bytes_eq bytes t ≡ true → Loaded s (Ok r)
  unfolding image_read first_fault outcome answered
  loaded h =
      let i : is_image s ≡ true = is_image_if_same ∙ h in
      let same : r ≡ receiver_in s = rw (← whole.same) e in
      loaded_promise s (Ok r) (simp (i, ← same))

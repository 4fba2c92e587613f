-- A call on a receiver's image does what the receiver's call does on the receiver in it.
-- Assumes nothing.
use mathlib.Core.Path.{◌≡◌, refl, sym, ap, ◌∙◌}
use mathlib.Core.Bool.{Bool, true, false, not, cond}
use mathlib.Core.List.{List}
use Prim.Native.Nat.{ℕ, ◌≤◌}
use native.Mathlib.Omega.{arith}
use borrow.Author.Tests.{not-false}
use lib.IntN.{ℤ, pos, neg_ℤ}
use lib.ListN.{length}
use mir.Syntax.{w32}
use mir.Val.{to_z, of_z, SFits}
use Rattle.std.specs.Prelude.{Ok, Err}
use Rattle.wire.specs.declared.Refusal.{Refusal}
use Rattle.wire.specs.Memory.{splice}
use Rattle.wire.specs.Outcome.{first_fault, accepted, refused, number_of, Answer, answered, given_count}
use Rattle.wire.proofs.FirstFault.{accepted_clear, refused_number, clear_first}
use Rattle.wire.proofs.Splice.{splice_whole}
use Rattle.calls.proofs.CallCounts.{count_small}
use Rattle.receiver.specs.declared.Receiver.{Receiver}
use Rattle.receiver.proofs.CallsMeet.{refused_same, shown_few}
use Rattle.receiver.specs.Calls.{Call, receive_call, show_call, lent, call_fault, shown, call_answer, places, Meets}
use Rattle.receiver_image.specs.ReceiverImage.{image_size, image_of, receiver_in, is_image, image_read}
use Rattle.receiver_image.proofs.Bytes.{image_length}
use Rattle.capi.specs.Imaged.{answer_number, image_kept}
use Rattle.capi.specs.ReceiverImaged.{receiver_answer, receiver_image, receiver_output, ReceiverMeets}
use Rattle.capi.proofs.Numbers.{again}

-- ---- counts

-- a call answers 1, or no more than eight
pub receiver_count : (a : Answer) (r : Receiver) (c : Call) → answered a ≡ call_answer r.last (places r) c → given_count a ≤ 50
unfolding call_answer
receiver_count a r (receive_call tick sender bytes) h = count_small a (call_fault r.last (places r) (receive_call tick sender bytes)) 1 h (λ z. omega arith)
receiver_count a r (show_call out) h =
    count_small a (call_fault r.last (places r) (show_call out)) (length (shown r.last (places r))) h
    (λ z. omega (arith, shown_few r))

-- ---- a receiver's image, and memory that is none

pub loaded : (image : List ℕ) (r : Receiver) → accepted r ≡ image_read image → (is_image image ≡ true) × (receiver_in image ≡ r)
unfolding image_read
loaded image r e =
    let a = accepted_clear _ (receiver_in image) r (sym e) in
    (not-false (is_image image) (clear_first _ _ (λ z. omega arith) a.0).0, a.1)

pub unloaded : (image : List ℕ) (x : Refusal) → refused (number_of x) ≡ image_read image → (is_image image ≡ false) × (number_of x ≡ 21)
unfolding image_read first_fault
unloaded image x e = go (is_image image) (refused_number _ (receiver_in image) (number_of x) (sym e))
  where
    go : (b : Bool) → (number_of x ≡ cond {A = ℕ} (not b) 21 0) × (cond {A = ℕ} (not b) 21 0 ≡ 0 → ⊥) → (b ≡ false) × (number_of x ≡ 21)
    go true p = absurd (p.1 refl)
    go false p = (refl, p.0)

-- an image written over memory of its length
pub receiver_written : (r : Receiver) (image : List ℕ) → length image ≡ image_size → splice image 0 (image_of r) ≡ image_of r
receiver_written r image h = splice_whole image (image_of r) (image_length r ∙ sym h)

module _ (image : List ℕ) (c : Call) where
  pub receiver_refused : (x : Refusal) (r : ℤ) → refused (number_of x) ≡ image_read image → r ≡ neg_ℤ (pos (number_of x)) → ReceiverMeets image c r image (lent c)
  unfolding answer_number receiver_answer receiver_image receiver_output
  receiver_refused x r e h =
      let u = unloaded image x e in
      record { answer = rw u.0 (h ∙ ap (λ (n : ℕ). neg_ℤ (pos n)) u.1); image = rw u.0 refl; output = rw u.0 refl }

  -- the image after an accepted call, and after a refused one
  pub receiver_kept : (r next : Receiver) (a : Answer) (out : List ℕ) → Meets r c next a out → image_of r ≡ image → length image ≡ image_size
      → (last : List ℕ) → last ≡ image_kept (answered a) (image_of next) image → last ≡ image_of next
  unfolding image_kept answered
  receiver_kept r next (Ok n) out m same size last e = e ∙ receiver_written next image size
  receiver_kept r next (Err x) out m same size last e =
      e ∙ sym same ∙ ap image_of (sym (m.receiver ∙ refused_same r c (number_of x) (sym m.answer)))

  -- the promise, from the receiver's and from what was kept, with the number as it was given
  pub receiver_meets : (r next : Receiver) (a : Answer) (out : List ℕ) → Meets r c next a out → accepted r ≡ image_read image
      → (z : ℤ) (last : List ℕ) → SFits w32 z → z ≡ answer_number (answered a) → last ≡ image_of next → ReceiverMeets image c (to_z w32 (of_z w32 z)) last out
  unfolding receiver_answer receiver_image receiver_output
  receiver_meets r next a out m e z last f n l =
      let i = loaded image r e in
      record {
        answer = again z _ f (n ∙ ap answer_number m.answer ∙ rw (i.0, i.1) refl);
        image = l ∙ ap image_of m.receiver ∙ rw (i.0, i.1) refl;
        output = m.output ∙ rw (i.0, i.1) refl;
      }

-- The calls from C: a number for each answer, and what a call on the engine's image makes of the image and of the output.
-- Assumes nothing.
use Rattle.std.specs.Prelude.{ℕ, ◌≡◌, not, cond, List, [], ◌∷◌, eqb, ℤ, pos, neg_ℤ, length, map, Some, None}
use Rattle.std.specs.Option.{unwrap_or}
use Rattle.wire.specs.Memory.{splice}
use Rattle.wire.specs.Outcome.{check, first_fault, Outcome, accepted, refused, outcome}
use Rattle.sample.specs.declared.Sample.{Sample}
use Rattle.message.specs.declared.Message.{Message}
use Rattle.busiest.specs.declared.Busiest.{Busiest}
use Rattle.history.specs.Rules.{unit_settings}
use Rattle.history.specs.State.{fresh, state_after}
use Rattle.calls.specs.Calls.{Call, lent, samples_added, call_fault, call_answer, call_memory}
use Rattle.image.specs.Image.{image_size, image_of, state_in, is_image}

-- an accepted call answers its count, a refused one minus the refusal number
unfoldable pub answer_number : Outcome ℕ → ℤ
answer_number (accepted n) = pos n
answer_number (refused n) = neg_ℤ (pos n)

-- the message check: 0, or minus the refusal number
unfoldable pub check_number : Outcome Message → ℤ
check_number (accepted m) = pos 0
check_number (refused n) = neg_ℤ (pos n)

-- three messages from tick 7 on, more than a number of 32 bits, none, and a width that isn't allowed
abbrev pub outcomes : List (Outcome Busiest)
outcomes = accepted (record { messages = 3; first = Some 7 }) ∷ accepted (record { messages = 5000000000; first = Some 0 }) ∷ accepted (record { messages = 0; first = None }) ∷ refused 36 ∷ []

-- the busiest stretch: how many messages lie in it, or minus the refusal number
unfoldable pub stretch_number : Outcome Busiest → ℤ
stretch_number (accepted b) = pos b.messages
stretch_number (refused n) = neg_ℤ (pos n)

-- the number that is lent for its first tick, as lent where there is none
unfoldable pub stretch_tick : Outcome Busiest → ℕ → ℕ
stretch_tick (accepted b) lent = unwrap_or b.first lent
stretch_tick (refused n) lent = lent

-- the busiest stretch's promise: its answer, the number lent for its first tick, and the two written out
pub record StretchMeets (found : Outcome Busiest) (before : ℕ) (r : ℤ) (after : ℕ) : Type 0 where
  pub answer : r ≡ stretch_number found
  pub tick : after ≡ stretch_tick found before
  pub number_examples : map stretch_number outcomes ≡ pos 3 ∷ pos 5000000000 ∷ pos 0 ∷ neg_ℤ (pos 36) ∷ []
  pub tick_examples : map (λ found. stretch_tick found 99) outcomes ≡ 7 ∷ 0 ∷ 99 ∷ 99 ∷ []

-- the first failing check of a call on an image, which 21 asks for
unfoldable pub image_fault : List ℕ → Call → ℕ
image_fault image c = call_fault (not (is_image image)) (state_in image).taken c

-- the image after a call with this first failing check on these samples: a refused call leaves it as it was
unfoldable pub call_image : ℕ → List Sample → List ℕ → List ℕ
call_image fault xs image = cond (eqb fault 0) (image_of (state_after unit_settings (state_in image) xs)) image

-- a call's promise: its answer, and the image and the output after it
pub record ImageMeets (before : List ℕ) (c : Call) (r : ℤ) (after last : List ℕ) : Type 0 where
  pub answer : r ≡ answer_number (call_answer (image_fault before c) (samples_added c) (state_in before))
  pub image : after ≡ call_image (image_fault before c) (samples_added c) before
  pub output : last ≡ call_memory (image_fault before c) (samples_added c) (state_in before) (lent c)

-- refusal 21 for memory of another length than an image's
unfoldable pub fresh_fault : List ℕ → ℕ
fresh_fault image = first_fault (check 21 (not (eqb (length image) image_size)) ∷ [])

unfoldable pub fresh_number : List ℕ → ℤ
fresh_number image = answer_number (outcome (fresh_fault image) 0)

-- the fresh engine's image, or the memory as it was
unfoldable pub fresh_image : List ℕ → List ℕ
fresh_image image = cond (eqb (fresh_fault image) 0) (image_of fresh) image

-- the memory after the image of an accepted call was kept in it, as the private `finish` does
unfoldable pub image_kept : Outcome ℕ → List ℕ → List ℕ → List ℕ
image_kept (accepted n) kept image = splice image 0 kept
image_kept (refused n) kept image = image

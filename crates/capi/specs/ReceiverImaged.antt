-- The calls from C on a receiver's image, and the driver's lamp: the number of each answer, and what a call makes of the image and of the output.
-- Assumes nothing.
use Rattle.std.specs.Prelude.{ℕ, ◌≡◌, cond, List, ℤ, pos, Float}
use Rattle.wire.specs.Outcome.{Outcome, refused}
use Rattle.lamp.specs.declared.Lamp.{Lamp}
use Rattle.lamp.specs.declared.Lamp.TheVariants.{Unknown, Standing, Seconds}
use Rattle.receiver.specs.Calls.{Call, lent, call_answer, call_memory, places, call_receiver}
use Rattle.receiver_image.specs.ReceiverImage.{image_of, receiver_in, is_image}
use Rattle.capi.specs.Imaged.{answer_number}

-- ---- a receiver's image. Memory that is none is refused with 21, before any other check

unfoldable pub receiver_answer : List ℕ → Call → Outcome ℕ
receiver_answer image c = cond (is_image image) (call_answer (receiver_in image).last (places (receiver_in image)) c) (refused 21)

-- a refused call leaves the receiver as it was, and so its image
unfoldable pub receiver_image : List ℕ → Call → List ℕ
receiver_image image c = cond (is_image image) (image_of (call_receiver (receiver_in image) c)) image

unfoldable pub receiver_output : List ℕ → Call → List ℕ
receiver_output image c = cond (is_image image) (call_memory (receiver_in image).last (places (receiver_in image)) c) (lent c)

-- a call's promise: its answer, and the image and the output after it
pub record ReceiverMeets (before : List ℕ) (c : Call) (r : ℤ) (after last : List ℕ) : Type 0 where
  pub answer : r ≡ answer_number (receiver_answer before c)
  pub image : after ≡ receiver_image before c
  pub output : last ≡ receiver_output before c

-- ---- the lamp

-- 'unknown', 'standing', or seconds
unfoldable pub lamp_number : Lamp → ℤ
lamp_number Unknown = pos 0
lamp_number Standing = pos 1
lamp_number (Seconds s) = pos 2

-- the number that is lent for the seconds, as lent where there are none
unfoldable pub lamp_seconds : Lamp → Float → Float
lamp_seconds Unknown lent = lent
lamp_seconds Standing lent = lent
lamp_seconds (Seconds s) lent = s

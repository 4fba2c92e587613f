-- The claim about every list of calls on one receiver's image: the runs of the list by the calls' promises, and what each has.
-- Assumes nothing.
use Rattle.std.specs.Prelude.{ℕ, ◌^◌, ◌<◌, ◌≡◌, not, cond, List, [], ◌∷◌, eqb, length, map, ℤ, pos}
use Rattle.wire.specs.Outcome.{check, first_fault, outcome}
use Rattle.receiver.specs.declared.Receiver.{Receiver}
use Rattle.receiver.specs.Calls.{Call, receive_call, show_call, holding}
use Rattle.receiver.specs.Reading.{Result, document_results}
use Rattle.receiver.specs.Demand.{Documented}
use Rattle.receiver_image.specs.ReceiverImage.{image_size, image_of}
use Rattle.capi.specs.Imaged.{answer_number}
use Rattle.capi.specs.ImageDemand.{ImageResult}
use Rattle.capi.specs.ReceiverImaged.{ReceiverMeets}

-- a result that the document gives, with its answer as a number
unfoldable pub receiver_numbered : Result → ImageResult
receiver_numbered r = record { number = answer_number r.answer; output = r.output }

-- "named by a 32-bit number", "the present tick of the receiver's own clock (32 bits too)"
abbrev pub Has32Bits : Call → Type 0
Has32Bits (receive_call tick sender bytes) = (tick < 2 ^ 32) × (sender < 2 ^ 32)
Has32Bits (show_call out) = Unit {0}

abbrev pub AllHave32Bits : List Call → Type 0
AllHave32Bits [] = Unit {0}
AllHave32Bits (c ∷ cs) = Has32Bits c × AllHave32Bits cs

-- a run from one image to another: each call meets its promise, the one that `yoldrim_receive` and `yoldrim_show` ensure, and takes the image that the call before it left, also after a refusal; nothing else writes it meanwhile
pub data ReceiverRun : List ℕ → List Call → List ImageResult → List ℕ → Type 0 where
  ended : {image : List ℕ} → ReceiverRun image [] [] image
  called : {image : List ℕ} {c : Call} {r : ℤ} {after last : List ℕ} {cs : List Call} {rs : List ImageResult} {end : List ℕ}
      → Has32Bits c
      → ReceiverMeets image c r after last
      → ReceiverRun after cs rs end
      → ReceiverRun image (c ∷ cs) (record { number = r; output = last } ∷ rs) end

-- what a list of calls had for results, and the image after it
pub record ReceiverDocumented (calls : List Call) (results : List ImageResult) (image : List ℕ) : Type 0 where
  -- every answer and output byte is what the document says
  pub same_results : results ≡ map receiver_numbered (document_results [] calls)
  -- and the image is that of a receiver that holds what the document says
  pub receiver : Receiver
  pub image_is : image ≡ image_of receiver
  pub documented : Documented calls (document_results [] calls) receiver

pub record ReceiverDemand (image : List ℕ) : Type 0 where
  pub every_run : (calls : List Call) (results : List ImageResult) (end : List ℕ) → ReceiverRun image calls results end → ReceiverDocumented calls results end
  pub some_run : (calls : List Call) → AllHave32Bits calls → (end : List ℕ) × ReceiverRun image calls (map receiver_numbered (document_results [] calls)) end

-- refusal 21 for memory of another length than an image's
unfoldable pub empty_fault : List ℕ → ℕ
empty_fault image = first_fault (check 21 (not (eqb (length image) image_size)) ∷ [])

-- the promise of `yoldrim_receiver_empty`: its answer, the memory after it, and the claim about every list of calls on that memory
pub record EmptyImaged (before : List ℕ) (r : ℤ) (after : List ℕ) : Type 0 where
  pub answer : r ≡ answer_number (outcome (empty_fault before) 0)
  pub image : after ≡ cond (eqb (empty_fault before) 0) (image_of (holding 0 [])) before
  pub demand : r ≡ pos 0 → ReceiverDemand after

-- A receiver's image: what saving makes of it, what is read back from an image, and which bytes are an image.
-- Assumes nothing.
use Rattle.std.specs.Prelude.{ℕ, ◌+◌, ◌*◌, ◌^◌, ◌<◌, ◌≡◌, ◌⊎◌, Bool, not, ◌&&◌, T, List, [], ◌∷◌, ◌++◌, eqb, length, drop, bytes_eq, Result, Ok}
use Rattle.std.specs.List.{flat_map}
use Rattle.wire.specs.declared.Refusal.{Refusal}
use Rattle.wire.specs.Words.{bytes_of, word}
use Rattle.wire.specs.Outcome.{check, first_fault, Outcome, accepted, outcome, answered}
use Rattle.message.specs.declared.Message.{Message}
use Rattle.message.specs.Message.{encode, message_of, admits}
use Rattle.receiver.specs.declared.Received.{Received}
use Rattle.receiver.specs.declared.Receiver.{Receiver}
use Rattle.receiver.specs.Calls.{nothing, place, by_place, places}

-- ---- the places

-- byte 0 is the layout's number, which every change of what an image holds raises; three zeros behind it bring every number to a place
-- that four divides
abbrev pub layout : ℕ
layout = 1

abbrev pub last_place : ℕ
last_place = 4

-- then the receiver's places, one behind the other: in each the sender's number, the arrival and the message's record
abbrev pub places_place : ℕ
places_place = last_place + 4

abbrev pub place_size : ℕ
place_size = 4 + 4 + 32

abbrev pub place_at : ℕ → ℕ
place_at k = places_place + place_size * k

abbrev pub image_size : ℕ
image_size = place_at 8

-- ---- the image of a receiver

unfoldable pub place_bytes : Received → List ℕ
place_bytes x = bytes_of 4 x.sender ++ bytes_of 4 x.arrival ++ encode x.message

abbrev pub all_bytes : List Received → List ℕ
all_bytes xs = flat_map place_bytes xs

unfoldable pub image_of : Receiver → List ℕ
image_of r = (layout ∷ 0 ∷ 0 ∷ 0 ∷ []) ++ bytes_of 4 r.last ++ all_bytes (places r)

-- ---- the receiver in an image

unfoldable pub sender_in : List ℕ → ℕ → ℕ
sender_in s k = word 4 s (place_at k)

unfoldable pub arrival_in : List ℕ → ℕ → ℕ
arrival_in s k = word 4 s (place_at k + 4)

unfoldable pub message_in : List ℕ → ℕ → Message
message_in s k = message_of (drop (place_at k + 8) s)

unfoldable pub receiver_in : List ℕ → Receiver
receiver_in s = record {
  last = word 4 s last_place;
  senders = by_place (sender_in s);
  arrivals = by_place (arrival_in s);
  messages = by_place (message_in s);
}

-- ---- which bytes are an image

-- as many bytes as an image has, byte for byte what saving makes of the receiver in them
unfoldable pub is_image : List ℕ → Bool
is_image s = eqb (length s) image_size && bytes_eq (image_of (receiver_in s)) s

-- refusal 21 for bytes that are no image
unfoldable pub image_read : List ℕ → Outcome Receiver
image_read s = outcome (first_fault (check 21 (not (is_image s)) ∷ [])) (receiver_in s)

-- what every receiver has that calls on an empty one lead to, as the claim about calls from C shows (capi): eight places, numbers of 32 bits, and in each place no message or one that 14 lets pass
pub record Fits (r : Receiver) : Type 0 where
  pub lengths : (length r.senders ≡ 8) × (length r.arrivals ≡ 8) × (length r.messages ≡ 8)
  pub last : r.last < 2 ^ 32
  pub numbers : (k : ℕ) → k < 8 → ((place r k).sender < 2 ^ 32) × ((place r k).arrival < 2 ^ 32)
  pub messages : (k : ℕ) → k < 8 → ((place r k).message ≡ nothing.message) ⊎ T (admits (place r k).message)

-- the promise of `save`: the image, and that it loads as the same receiver
pub record Saved (r : Receiver) (bytes : List ℕ) : Type 0 where
  pub image : bytes ≡ image_of r
  pub loads_back : Fits r → image_read bytes ≡ accepted r

-- the promise of `load`: what it finds, and that an accepted image is byte for byte what saving makes of its receiver
pub record Loaded (bytes : List ℕ) (answer : Result Receiver Refusal) : Type 0 where
  pub found : answered answer ≡ image_read bytes
  pub as_saved : (r : Receiver) → answer ≡ Ok r → image_of r ≡ bytes

-- The busiest stretch in other words than its definitions': what CR 7 asks of a number and a tick, that no others are answered, and which number refuses each list.
-- Assumes nothing.
use Rattle.std.specs.Prelude.{ℕ, ◌+◌, ◌*◌, ◌%◌, ◌≤◌, ◌<◌, ◌≡◌, ◌⊎◌, List, [], ◌∷◌, length, get_or, take, drop, None, Some, Contains}
use Rattle.std.specs.List.Sorted.{IsNonDecreasing}
use Rattle.wire.specs.Outcome.{accepted, refused}
use Rattle.message.specs.declared.Message.{Message}
use Rattle.message.specs.Message.{message_read}
use Rattle.busiest.specs.declared.Busiest.{Busiest}
use Rattle.busiest.specs.Busiest.{messages_in, stretch}

-- the number and the tick that are answered for messages of these reference ticks and stretches of w ticks
pub record IsBusiest (w : ℕ) (ticks : List ℕ) (b : Busiest) : Type 0 where
  -- "the largest number of messages whose reference ticks lie in w ticks on end", whichever tick t is the first of them
  pub most : (t : ℕ) → messages_in w ticks t ≤ b.messages
  -- the tick "is some message's reference tick", and the stretch from it on has that number
  pub reached : (t : ℕ) → b.first ≡ Some t → Contains ticks t × (messages_in w ticks t ≡ b.messages)
  -- it is "the earliest"
  pub earliest : (t r : ℕ) → b.first ≡ Some t → Contains ticks r → messages_in w ticks r ≡ b.messages → t ≤ r
  -- "An empty list with an allowed w gives zero and no tick.", and no other list does
  pub empty : ticks ≡ [] → (b.messages ≡ 0) × (b.first ≡ None)
  pub none : b.first ≡ None → ticks ≡ []

-- the 32 bytes of record k
abbrev pub record_at : List ℕ → ℕ → List ℕ
record_at list k = take 32 (drop (32 * k) list)

-- a list of records that each read as a message, with these reference ticks
pub record Messages (list ticks : List ℕ) : Type 0 where
  pub whole : length list ≡ 32 * length ticks
  pub each : (k : ℕ) → k < length ticks → (m : Message) × (message_read (record_at list k) ≡ accepted m) × (get_or ticks k 0 ≡ m.reference)

pub record InWords : Type 0 where
  -- "messages whose reference ticks lie in w ticks on end": each counts whose tick is t or later and before t + w, and no other does
  pub none_lies : (w t : ℕ) → messages_in w [] t ≡ 0
  pub lies : (w t r : ℕ) (ticks : List ℕ) → t ≤ r → r < t + w → messages_in w (r ∷ ticks) t ≡ messages_in w ticks t + 1
  pub lies_apart : (w t r : ℕ) (ticks : List ℕ) → (r < t) ⊎ (t + w ≤ r) → messages_in w (r ∷ ticks) t ≡ messages_in w ticks t
  -- "It refuses first with 13 a list that isn't whole records"
  pub refused_13 : (list : List ℕ) (w : ℕ) → (length list % 32 ≡ 0 → ⊥) → stretch list w ≡ refused 13
  -- "and with 14 a record"
  pub refused_14 : (list : List ℕ) (w k r : ℕ) → length list % 32 ≡ 0 → 32 * k < length list → message_read (record_at list k) ≡ refused r → stretch list w ≡ refused 14
  -- "then with 35 a reference tick below the one before"
  pub refused_35 : (list ticks : List ℕ) (w k : ℕ) → Messages list ticks → k + 1 < length ticks → get_or ticks (k + 1) 0 < get_or ticks k 0 → stretch list w ≡ refused 35
  -- "and last with 36 a width of 0 or over 10,000,000"
  pub refused_36 : (list ticks : List ℕ) (w : ℕ) → Messages list ticks → IsNonDecreasing ticks → (w ≡ 0) ⊎ (10000000 < w) → stretch list w ≡ refused 36
  -- every other list is answered, with a number and a tick that are what CR 7 asks
  pub answered : (list ticks : List ℕ) (w : ℕ) → Messages list ticks → IsNonDecreasing ticks → 1 ≤ w → w ≤ 10000000
      → (b : Busiest) × (stretch list w ≡ accepted b) × IsBusiest w ticks b
  -- and no others are
  pub unique : (ticks : List ℕ) (w : ℕ) (b c : Busiest) → IsBusiest w ticks b → IsBusiest w ticks c → b ≡ c

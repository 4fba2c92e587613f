-- What is held, newer, refused and shown, in quantified words over the messages accepted before, the last one first; and that the definitions say the same.
-- Assumes nothing.
use Rattle.std.specs.Prelude.{ℕ, ◌+◌, ◌*◌, ◌<◌, ◌≤◌, ◌≡◌, ◌↔◌, ◌⊎◌, true, not, eqb, count_by}
use mathlib.Core.List.{List, [], ◌∷◌, ◌++◌, Memᴰ}
use Rattle.wire.specs.Outcome.{first_fault, accepted}
use Rattle.wire.specs.Words.{bytes_of, Bytes}
use Rattle.message.specs.declared.Message.{Message}
use Rattle.message.specs.Message.{message_of, message_checks, message_read}
use Rattle.warnings.specs.Warnings.{cancel}
use Rattle.receiver.specs.declared.Received.{Received}
use Rattle.receiver.specs.Held.{unlapsed, is_newer, entry}
use Rattle.receiver.specs.Calls.{Call, receive_call, shown}
use Rattle.receiver.specs.Reading.{last_tick, latest, document_fault, accepted_by}

-- "the last accepted message of each sender": x was accepted, and no later one of its sender
pub record IsLast (past : List Received) (x : Received) : Type 0 where
  pub later : List Received
  pub earlier : List Received
  pub accepted : past ≡ later ++ (x ∷ earlier)
  pub last : (y : Received) → Memᴰ y later → y.sender ≡ x.sender → ⊥

-- "It has lapsed once 10 times its validity in ticks have passed since arrival.": x is held at a tick, unlapsed
pub record IsHeld (tick : ℕ) (past : List Received) (x : Received) : Type 0 where
  pub last : IsLast past x
  pub unlapsed : tick < x.arrival + 10 * x.message.validity

-- "A message is newer if its event is higher, or the event is equal and its reference tick higher."
abbrev pub Newer : Message → Message → Type 0
Newer m n = (n.event < m.event) ⊎ ((m.event ≡ n.event) × (n.reference < m.reference))

-- "by rising sender", and so one for each
abbrev pub Above : ℕ → List Received → Type 0
Above sender [] = Unit {0}
Above sender (x ∷ xs) = (sender < x.sender) × Above sender xs

abbrev pub Rising : List Received → Type 0
Rising [] = Unit {0}
Rising (x ∷ xs) = Above x.sender xs × Rising xs

-- after a list of calls
abbrev pub past_of : List Call → List Received
past_of calls = accepted_by [] calls

-- no newer than the one held of that sender
abbrev pub KeptOut : List Received → ℕ → ℕ → Message → Type 0
KeptOut past tick sender m = (x : Received) × IsHeld tick past x × (x.sender ≡ sender) × (Newer m x.message → ⊥)

pub record InWords : Type 0 where
  pub newer : (m n : Message) → (is_newer m n ≡ true) ↔ Newer m n
  -- at every tick, that of a call that is refused with 31 too
  pub held : (calls : List Call) (tick : ℕ) (x : Received) → Memᴰ x (unlapsed tick (latest (past_of calls))) ↔ IsHeld tick (past_of calls) x
  -- a call whose bytes 13 and 14 let pass is refused "with 31 a tick below the last accepted one"
  pub refused_31 : (calls : List Call) (tick sender : ℕ) (bytes : List ℕ) → first_fault (message_checks bytes) ≡ 0
      → (document_fault (past_of calls) (receive_call tick sender bytes) ≡ 31) ↔ (tick < last_tick (past_of calls))
  -- "with 32 a message that is no newer than the unlapsed one held of that sender"
  pub refused_32 : (calls : List Call) (tick sender : ℕ) (bytes : List ℕ) → first_fault (message_checks bytes) ≡ 0
      → (document_fault (past_of calls) (receive_call tick sender bytes) ≡ 32)
      ↔ ((last_tick (past_of calls) ≤ tick) × KeptOut (past_of calls) tick sender (message_of bytes))
  -- "and with 33 a ninth sender while eight others are unlapsed"
  pub refused_33 : (calls : List Call) (tick sender : ℕ) (bytes : List ℕ) → first_fault (message_checks bytes) ≡ 0
      → (document_fault (past_of calls) (receive_call tick sender bytes) ≡ 33)
      ↔ ((last_tick (past_of calls) ≤ tick) × (KeptOut (past_of calls) tick sender (message_of bytes) → ⊥)
      × (8 ≤ count_by (λ x. not (eqb x.sender sender)) (unlapsed tick (latest (past_of calls)))))
  -- "A Cancel is held, unshown, until it lapses; a second call .. writes all other messages held"
  pub shown : (calls : List Call) (x : Received)
      → Memᴰ x (shown (last_tick (past_of calls)) (latest (past_of calls))) ↔ (IsHeld (last_tick (past_of calls)) (past_of calls) x × (x.message.kind ≡ cancel → ⊥))
  -- "each as sender (4 bytes, little-endian) and record": the record that one of the calls brought
  pub written : (calls : List Call) (x : Received) → Memᴰ x (past_of calls)
      → (bytes : List ℕ) × Memᴰ (receive_call x.arrival x.sender bytes) calls × (message_read bytes ≡ accepted x.message)
      × (Bytes bytes → entry x ≡ bytes_of 4 x.sender ++ bytes)
  pub rising : (calls : List Call) → Rising (latest (past_of calls))

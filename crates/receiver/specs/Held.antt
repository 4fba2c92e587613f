-- Messages from others: when one has lapsed, which is newer, what keeps one out and what is shown, after change request CR 4.
-- Assumes nothing.
use Rattle.std.specs.Prelude.{ℕ, ◌-◌, ◌*◌, Bool, not, ◌&&◌, ◌||◌, List, [], ◌∷◌, ◌++◌, ltb, leb, eqb, count_by}
use Rattle.std.specs.List.{filter, flat_map, list_any}
use Rattle.wire.specs.Words.{bytes_of}
use Rattle.wire.specs.Outcome.{Check, check}
use Rattle.warnings.specs.Warnings.{cancel}
use Rattle.message.specs.declared.Message.{Message}
use Rattle.message.specs.Message.{message_of, encode}
use Rattle.receiver.specs.declared.Received.{Received}
use Rattle.receiver.specs.declared.held.Side.{Side}
use Rattle.receiver.specs.declared.held.Side.TheVariants.{Lower, Higher}

-- "A call brings the present tick of the receiver's own clock (32 bits too), a sender and a message."
unfoldable pub received : ℕ → ℕ → List ℕ → Received
received tick sender bytes = record { sender = sender; arrival = tick; message = message_of bytes }

-- "It has lapsed once 10 times its validity in ticks have passed since arrival."
unfoldable pub has_lapsed : ℕ → Received → Bool
has_lapsed tick x = leb (10 * x.message.validity) (tick - x.arrival)

-- those that have not
abbrev pub unlapsed : ℕ → List Received → List Received
unlapsed tick xs = filter (λ x. not (has_lapsed tick x)) xs

-- "A message is newer if its event is higher, or the event is equal and its reference tick higher."
unfoldable pub is_newer : Message → Message → Bool
is_newer m n = ltb n.event m.event || (eqb m.event n.event && ltb n.reference m.reference)

-- "no newer than the .. one held of that sender": x keeps e out
unfoldable pub keeps_out : Received → Received → Bool
keeps_out e x = eqb x.sender e.sender && not (is_newer e.message x.message)

-- one of the "others"
unfoldable pub is_other : Received → Received → Bool
is_other e x = not (eqb x.sender e.sender)

-- "with 31 a tick below the last accepted one, with 32 a message that is no newer than the unlapsed one held of that sender, and with 33 a ninth sender while eight others are unlapsed": e arrives where the last accepted tick is `last` and these are held unlapsed
unfoldable pub arrival_checks : ℕ → List Received → Received → List Check
arrival_checks last held e =
    check 31 (ltb e.arrival last)
    ∷ check 32 (list_any (keeps_out e) held)
    ∷ check 33 (leb 8 (count_by (is_other e) held))
    ∷ []

-- of a lower sender than another, or of a higher one
unfoldable pub is_beside : Side → ℕ → Received → Bool
is_beside Lower sender x = ltb x.sender sender
is_beside Higher sender x = ltb sender x.sender

-- "one message for each of up to eight senders", "by rising sender": e between those of lower and those of higher senders, in the place of an earlier one of its own
unfoldable pub with_message : Received → List Received → List Received
with_message e xs = filter (is_beside Lower e.sender) xs ++ (e ∷ []) ++ filter (is_beside Higher e.sender) xs

-- "A Cancel is held, unshown, until it lapses; a second call .. writes all other messages held"
unfoldable pub is_shown : Received → Bool
is_shown x = not (eqb x.message.kind cancel)

-- "each as sender (4 bytes, little-endian) and record"
unfoldable pub entry : Received → List ℕ
entry x = bytes_of 4 x.sender ++ encode x.message

abbrev pub entries : List Received → List ℕ
entries xs = flat_map entry xs

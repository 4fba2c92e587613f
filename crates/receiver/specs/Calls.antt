-- Both calls on a receiver: their checks, their answers, what is written, and the receiver after them.
-- Assumes nothing.
use Rattle.std.specs.Prelude.{ℕ, ◌≡◌, cond, List, [], ◌∷◌, ◌++◌, map, ltb, eqb, length, get_or, pos}
use Rattle.std.specs.List.{filter, range_with_len}
use Rattle.wire.specs.Memory.{memory}
use Rattle.wire.specs.Outcome.{Check, check, first_fault, Outcome, outcome, Answer, answered}
use Rattle.message.specs.Message.{message_checks}
use Rattle.receiver.specs.declared.Received.{Received}
use Rattle.receiver.specs.declared.Receiver.{Receiver}
use Rattle.receiver.specs.Held.{received, unlapsed, arrival_checks, with_message, is_shown, entries}

-- ---- a call, where the last accepted tick is `last` and those held are among these messages, the unlapsed ones of them

-- "A call brings the present tick .., a sender and a message"; "a second call, without a tick", with its output memory as lent
pub data Call : Type 0 where
  receive_call : ℕ → ℕ → List ℕ → Call
  show_call : List ℕ → Call

-- the output memory as lent, none for the first call
unfoldable pub lent : Call → List ℕ
lent (receive_call tick sender bytes) = []
lent (show_call out) = out

-- "The first call refuses, after 13 and 14, with 31 .., with 32 .., and with 33": those held are unlapsed at the present tick. The second "needs 288 bytes of output".
unfoldable pub call_checks : ℕ → List Received → Call → List Check
call_checks last among (receive_call tick sender bytes) = message_checks bytes ++ arrival_checks last (unlapsed tick among) (received tick sender bytes)
call_checks last among (show_call out) = check 2 (ltb (length out) 288) ∷ []

unfoldable pub call_fault : ℕ → List Received → Call → ℕ
call_fault last among c = first_fault (call_checks last among c)

-- what the second call writes: those held, unlapsed at the last accepted tick, that are no Cancels
unfoldable pub shown : ℕ → List Received → List Received
shown last among = filter is_shown (unlapsed last among)

-- the first call answers 1, one message held; the second "gives their number"
unfoldable pub call_answer : ℕ → List Received → Call → Outcome ℕ
call_answer last among (receive_call tick sender bytes) = outcome (call_fault last among (receive_call tick sender bytes)) 1
call_answer last among (show_call out) = outcome (call_fault last among (show_call out)) (length (shown last among))

-- the output after a call
unfoldable pub call_memory : ℕ → List Received → Call → List ℕ
call_memory last among (receive_call tick sender bytes) = []
call_memory last among (show_call out) = memory (call_fault last among (show_call out)) (entries (shown last among)) out

-- ---- the receiver

-- what a place has that holds no message: it has lapsed at every tick
unfoldable pub nothing : Received
nothing = record {
  sender = 0;
  arrival = 0;
  message = record {
    kind = 0;
    warning = 0;
    quality = 0;
    roadtype = 0;
    since = 0;
    event = 0;
    detection = 0;
    reference = 0;
    position = record { east = pos 0; north = pos 0 };
    heading = 0;
    validity = 0;
  };
}

-- the message in a place, with its sender and its arrival
unfoldable pub place : Receiver → ℕ → Received
place r k = record { sender = get_or r.senders k 0; arrival = get_or r.arrivals k 0; message = get_or r.messages k nothing.message }

-- "one message for each of up to eight senders"
abbrev pub by_place : {A : Type 0} → (ℕ → A) → List A
by_place f = map f (range_with_len 0 8)

unfoldable pub places : Receiver → List Received
places r = by_place (place r)

-- the receiver that holds these messages, in turn from the first place on
unfoldable pub holding : ℕ → List Received → Receiver
holding last xs = record {
  last = last;
  senders = by_place (λ k. (get_or xs k nothing).sender);
  arrivals = by_place (λ k. (get_or xs k nothing).arrival);
  messages = by_place (λ k. (get_or xs k nothing).message);
}

-- the receiver after a call: an accepted first call moves its clock to the present tick, and it holds what is unlapsed then, with the new message
unfoldable pub call_receiver : Receiver → Call → Receiver
call_receiver r (receive_call tick sender bytes) =
    cond
    (eqb (call_fault r.last (places r) (receive_call tick sender bytes)) 0)
    (holding tick (with_message (received tick sender bytes) (unlapsed tick (places r))))
    r
call_receiver r (show_call out) = r

-- a call's promise: the receiver and the answer that it hands back, and the output after it
pub record Meets (r : Receiver) (c : Call) (next : Receiver) (a : Answer) (after : List ℕ) : Type 0 where
  pub receiver : next ≡ call_receiver r c
  pub answer : answered a ≡ call_answer r.last (places r) c
  pub output : after ≡ call_memory r.last (places r) c

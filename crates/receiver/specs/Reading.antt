-- What change request CR 4 says of a list of calls, from the messages accepted before, the last one first. No receiver occurs in it.
-- Assumes nothing.
use Rattle.std.specs.Prelude.{ℕ, cond, List, [], ◌∷◌, eqb}
use Rattle.wire.specs.Outcome.{Outcome}
use Rattle.receiver.specs.declared.Received.{Received}
use Rattle.receiver.specs.Held.{received, unlapsed, with_message}
use Rattle.receiver.specs.Calls.{Call, receive_call, show_call, call_fault, call_answer, call_memory}

-- "the last accepted tick"; before the first accepted call no tick is below it
unfoldable pub last_tick : List Received → ℕ
last_tick [] = 0
last_tick (e ∷ past) = e.arrival

-- "the last accepted message of each sender", "by rising sender"
unfoldable pub latest : List Received → List Received
latest [] = []
latest (e ∷ past) = with_message e (latest past)

-- "what is held equals the last accepted message of each sender, unless that has lapsed by the last accepted tick"
unfoldable pub held_after : List Received → List Received
held_after past = unlapsed (last_tick past) (latest past)

-- the first failing check of a call after these
abbrev pub document_fault : List Received → Call → ℕ
document_fault past c = call_fault (last_tick past) (latest past) c

-- the messages accepted after one more call: an accepted first call adds its own, and nothing else adds any
unfoldable pub accepted_after : List Received → Call → List Received
accepted_after past (receive_call tick sender bytes) =
    cond (eqb (document_fault past (receive_call tick sender bytes)) 0) (received tick sender bytes ∷ past) past
accepted_after past (show_call out) = past

-- after a list of calls
unfoldable pub accepted_by : List Received → List Call → List Received
accepted_by past [] = past
accepted_by past (c ∷ cs) = accepted_by (accepted_after past c) cs

-- what is compared of a call: its answer, and its output after it, none for the first call
pub record Result : Type 0 where
  pub answer : Outcome ℕ
  pub output : List ℕ

unfoldable pub document_result : List Received → Call → Result
document_result past c = record {
  answer = call_answer (last_tick past) (latest past) c;
  output = call_memory (last_tick past) (latest past) c;
}

unfoldable pub document_results : List Received → List Call → List Result
document_results past [] = []
document_results past (c ∷ cs) = document_result past c ∷ document_results (accepted_after past c) cs

-- Every run of calls on an empty receiver is as the document says, since the receiver after them is found from the accepted messages; and there is a run of every list.
-- Assumes nothing.
use mathlib.Core.Path.{◌≡◌, refl, ap, ◌∙◌}
use mathlib.Core.Bool.{Bool, true, false, cond}
use mathlib.Core.Logic.{inl, inr}
use mathlib.Core.List.Memᴰ
use mathlib.Core.List.{List, [], ◌∷◌, Memᴰ}
use Prim.Native.Nat.{ℕ, ◌≤◌}
use native.Mathlib.Omega.{arith}
use native.Mathlib.Nat.{le_refl}
use borrow.Author.Tests.{eqb-true, ltb-false}
use lib.Dec.{T, eqb, ltb}
use lib.ListN.{length}
use Rattle.std.specs.List.{filter}
use Rattle.wire.specs.Outcome.{first_fault, answered}
use Rattle.wire.proofs.FirstFault.{append_same}
use Rattle.message.specs.Message.{admits, message_checks}
use Rattle.message.proofs.Admitted.{valid}
use Rattle.receiver.specs.declared.Received.{Received}
use Rattle.receiver.specs.declared.Receiver.{Receiver}
use Rattle.receiver.specs.Held.{received, unlapsed, arrival_checks, with_message, is_shown}
use Rattle.receiver.specs.Calls.{Call, receive_call, show_call, call_checks, call_fault, shown, call_answer, call_memory, places, holding, call_receiver}
use Rattle.receiver.specs.Reading.{Result, last_tick, latest, held_after, document_fault, accepted_after, accepted_by, document_result, document_results}
use Rattle.receiver.specs.Demand.{Run, ended, called}
use Rattle.receiver.proofs.Checked.{Passed, passed}
use Rattle.receiver.proofs.Lapsing.{unlapsed_again, arrives_unlapsed, joins_unlapsed, joined_few}
use Rattle.receiver.proofs.HoldsThem.{holds_them}

-- the receiver after these messages were accepted
abbrev pub receiver_of : List Received → Receiver
receiver_of past = holding (last_tick past) (held_after past)

-- what every list of calls leaves
pub record Kept (past : List Received) : Type 0 where
  pub few : length (held_after past) ≤ 8
  pub admitted : (x : Received) → Memᴰ x past → T (admits x.message)

module _ (past : List Received) (k : Kept past) where
  -- at a tick no lower than the last accepted one, what the receiver holds is what the list says
  pub same_unlapsed : (tick : ℕ) → last_tick past ≤ tick → unlapsed tick (places (receiver_of past)) ≡ unlapsed tick (latest past)
  unfolding held_after
  same_unlapsed tick h = holds_them (last_tick past) tick (held_after past) k.few ∙ unlapsed_again (last_tick past) tick h (latest past)

  -- a lower tick is refused with 31, whatever is held
  same_arrival : (tick : ℕ) (e : Received) → e.arrival ≡ tick
      → first_fault (arrival_checks (last_tick past) (unlapsed tick (places (receiver_of past))) e) ≡ first_fault (arrival_checks (last_tick past) (unlapsed tick (latest past)) e)
  unfolding arrival_checks first_fault
  same_arrival tick e a = go (ltb e.arrival (last_tick past)) refl
    where
      go : (b : Bool) → ltb e.arrival (last_tick past) ≡ b
          → first_fault (arrival_checks (last_tick past) (unlapsed tick (places (receiver_of past))) e) ≡ first_fault (arrival_checks (last_tick past) (unlapsed tick (latest past)) e)
      go true h = rw h refl
      go false h = let l = ltb-false _ _ h in rw (same_unlapsed tick (omega arith)) refl

  same_fault : (c : Call) → call_fault (receiver_of past).last (places (receiver_of past)) c ≡ document_fault past c
  unfolding call_fault call_checks received holding
  same_fault (receive_call tick sender bytes) = append_same (message_checks bytes) _ _ (same_arrival tick (received tick sender bytes) refl)
  same_fault (show_call out) = refl

  same_shown : shown (receiver_of past).last (places (receiver_of past)) ≡ shown (last_tick past) (latest past)
  unfolding shown holding
  same_shown = ap (filter is_shown) (same_unlapsed (last_tick past) (le_refl (last_tick past)))

  pub same_answer : (c : Call) → call_answer (receiver_of past).last (places (receiver_of past)) c ≡ (document_result past c).answer
  unfolding call_answer document_result
  same_answer (receive_call tick sender bytes) = rw (same_fault (receive_call tick sender bytes)) refl
  same_answer (show_call out) = rw (same_fault (show_call out), same_shown) refl

  pub same_output : (c : Call) → call_memory (receiver_of past).last (places (receiver_of past)) c ≡ (document_result past c).output
  unfolding call_memory document_result
  same_output (receive_call tick sender bytes) = refl
  same_output (show_call out) = rw (same_fault (show_call out), same_shown) refl

  -- a call that no check refuses
  module _ (tick sender : ℕ) (bytes : List ℕ) (clear : document_fault past (receive_call tick sender bytes) ≡ 0) where
    abbrev new : Received
    new = received tick sender bytes

    facts : Passed (last_tick past) tick sender (unlapsed tick (latest past)) bytes
    unfolding call_fault call_checks
    facts = passed (last_tick past) tick sender (unlapsed tick (latest past)) bytes clear

    held_then : held_after (new ∷ past) ≡ with_message new (unlapsed tick (latest past))
    unfolding held_after last_tick latest received
    held_then = joins_unlapsed tick new (latest past) (arrives_unlapsed new (valid new.message facts.admitted))

    receiver_then : holding tick (with_message new (unlapsed tick (places (receiver_of past)))) ≡ receiver_of (new ∷ past)
    unfolding last_tick received
    receiver_then = rw (same_unlapsed tick facts.in_turn, held_then) refl

    kept_then : Kept (new ∷ past)
    kept_then = record {
      few = rw held_then (joined_few new (unlapsed tick (latest past)) facts.few);
      admitted = λ x i. elim (Memᴰ.cases_cons i) [ inl e ↦ rw e facts.admitted | inr j ↦ k.admitted x j ];
    }

  pub same_receiver : (c : Call) → call_receiver (receiver_of past) c ≡ receiver_of (accepted_after past c)
  unfolding call_receiver accepted_after
  same_receiver (receive_call tick sender bytes) = rw (same_fault (receive_call tick sender bytes)) (go (eqb (document_fault past (receive_call tick sender bytes)) 0) refl)
    where
      go : (b : Bool) → eqb (document_fault past (receive_call tick sender bytes)) 0 ≡ b
          → cond b (holding tick (with_message (received tick sender bytes) (unlapsed tick (places (receiver_of past))))) (receiver_of past)
          ≡ receiver_of (cond b (received tick sender bytes ∷ past) past)
      go true h = receiver_then tick sender bytes (eqb-true _ _ h)
      go false h = refl
  same_receiver (show_call out) = refl

  pub still_kept : (c : Call) → Kept (accepted_after past c)
  unfolding accepted_after
  still_kept (receive_call tick sender bytes) = go (eqb (document_fault past (receive_call tick sender bytes)) 0) refl
    where
      go : (b : Bool) → eqb (document_fault past (receive_call tick sender bytes)) 0 ≡ b → Kept (cond b (received tick sender bytes ∷ past) past)
      go true h = kept_then tick sender bytes (eqb-true _ _ h)
      go false h = k
  still_kept (show_call out) = k

pub nothing_kept : Kept []
unfolding held_after latest
nothing_kept = record { few = omega arith; admitted = λ x i. absurd (Memᴰ.not-nil i) }

-- ---- the list

pub all_kept : (past : List Received) (cs : List Call) → Kept past → Kept (accepted_by past cs)
unfolding accepted_by
all_kept past [] k = k
all_kept past (c ∷ cs) k = all_kept (accepted_after past c) cs (still_kept past k c)

pub run_same : (past : List Received) → Kept past → {r end : Receiver} {calls : List Call} {results : List Result}
    → Run r calls results end → r ≡ receiver_of past → (results ≡ document_results past calls) × (end ≡ receiver_of (accepted_by past calls))
unfolding document_results accepted_by
run_same past k ended same = (refl, same)
run_same past k (called {c = c} {next = next} {a = a} {last = last} {cs = cs} {rs = rs} m rest) same =
    let x : answered a ≡ (document_result past c).answer = m.answer ∙ rw same (same_answer past k c) in
    let y : last ≡ (document_result past c).output = m.output ∙ rw same (same_output past k c) in
    let z : next ≡ receiver_of (accepted_after past c) = m.receiver ∙ rw same (same_receiver past k c) in
    let l = run_same (accepted_after past c) (still_kept past k c) rest z in
    (rw (x, y, l.0) refl, l.1)

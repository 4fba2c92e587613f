-- The empty receiver's promise: every run has what the document says, there is a run of every list, and the words and stops hold.
-- Assumes nothing.
use mathlib.Core.Path.{◌≡◌, refl, sym, ap, subst, ◌∙◌}
use mathlib.Core.List.{List, [], ◌∷◌}
use Prim.Native.Nat.{ℕ}
use native.Mathlib.Nat.{le_refl}
use lib.ListN.{length}
use Rattle.wire.specs.declared.Refusal.TheVariants.{OutputRoom, MessageLength, MessageFields, TickBelowLast, NotNewer, NinthSender}
use Rattle.wire.specs.Outcome.{Outcome, Answer, answered}
use Rattle.wire.proofs.FirstFault.{answer_made}
use Rattle.receiver.specs.declared.Received.{Received}
use Rattle.receiver.specs.declared.Receiver.{Receiver}
use Rattle.receiver.specs.Held.{arrival_checks}
use Rattle.receiver.specs.Calls.{Call, receive_call, show_call, call_checks, call_fault, shown, call_answer, places, holding, Meets}
use Rattle.receiver.specs.Reading.{Result, last_tick, latest, held_after, accepted_after, document_result, document_results}
use Rattle.receiver.specs.InWords.{past_of}
use Rattle.receiver.specs.Demand.{Run, ended, called, held_by, Documented, Demand}
use Rattle.receiver.specs.Empty.{EmptyReceiver}
use Rattle.receiver.proofs.DemandHolds.{receiver_of, Kept, nothing_kept, all_kept, same_unlapsed, same_answer, same_output, same_receiver, still_kept, run_same}
use Rattle.receiver.proofs.Latest.{rising_kept, rising_latest}
use Rattle.receiver.proofs.StopsHold.{receiver_stops_hold}
use Rattle.receiver.proofs.WordsHold.{words_hold}

-- ---- a run of every list

-- each check has a refusal, so each call has an answer
call_answered : (last : ℕ) (among : List Received) (c : Call) → (a : Answer) × (answered a ≡ call_answer last among c)
unfolding call_answer call_fault call_checks arrival_checks
call_answered last among (receive_call tick sender bytes) =
    answer_made _ 1
    ((MessageLength, refl), ((MessageFields, refl), ((TickBelowLast, refl), ((NotNewer, refl), ((NinthSender, refl), tt)))))
call_answered last among (show_call out) = answer_made _ (length (shown last among)) ((OutputRoom, refl), tt)

run_made : (past : List Received) → Kept past → (calls : List Call) → (end : Receiver) × Run (receiver_of past) calls (document_results past calls) end
unfolding document_results
run_made past k [] = (receiver_of past, ended)
run_made past k (c ∷ cs) =
    let r = receiver_of past in
    let next = accepted_after past c in
    let a = call_answered r.last (places r) c in
    let m : Meets r c (receiver_of next) a.0 (document_result past c).output = record { receiver = sym (same_receiver past k c); answer = a.1; output = sym (same_output past k c) } in
    let rest = run_made next (still_kept past k c) cs in (
      rest.0,
      subst
          (λ (x : Outcome ℕ). Run r (c ∷ cs) (record { answer = x; output = (document_result past c).output } ∷ document_results next cs) rest.0)
          (a.1 ∙ same_answer past k c)
          (called m rest.1),
    )

-- ---- what every run has

pub documented : (calls : List Call) (results : List Result) (r : Receiver)
    → (results ≡ document_results [] calls) × (r ≡ receiver_of (past_of calls)) → Documented calls results r
unfolding held_after holding
documented calls results r same =
    let k = all_kept [] calls nothing_kept in
    let past = past_of calls in
    let clock : r.last ≡ last_tick past = ap (λ (s : Receiver). s.last) same.1 in
    let held : held_by r ≡ held_after past = rw same.1 (same_unlapsed past k (last_tick past) (le_refl (last_tick past))) in
    record {
      same_results = same.0;
      clock = clock;
      same_held = held;
      held = λ x. rw held (words_hold.held calls (last_tick past) x);
      rising = rw held (rising_kept _ (latest past) (rising_latest past));
      at_most_eight = rw held k.few;
    }

pub empty_at : receiver_of [] ≡ holding 0 []
unfolding held_after last_tick latest
empty_at = refl

demand_holds : Demand (receiver_of [])
demand_holds = record {
  every_run = λ calls results r run. documented calls results r (run_same [] nothing_kept run refl);
  some_run = λ calls. run_made [] nothing_kept calls;
}

pub empty_meets : (r : Receiver) → r ≡ holding 0 [] → EmptyReceiver r
empty_meets r e = record {
  receiver = e;
  demand = subst Demand (empty_at ∙ sym e) demand_holds;
  in_words = words_hold;
  stops = receiver_stops_hold;
}

-- Both calls keep their promise.
-- Assumes nothing.
use mathlib.Core.Path.{◌≡◌, refl, sym, ap, subst, ◌∙◌}
use mathlib.Core.Bool.{Bool, not}
use native.Mathlib.Omega.{arith}
use mathlib.Core.List.{List, [], ◌++◌}
use Prim.Native.Nat.{ℕ, ◌≤◌, ◌<◌}
use borrow.Author.Tests.{lt-ltb, le-ltb, eq-eqb, ne_eqb}
use lib.ListN.{length}
use Rattle.std.specs.Prelude.{Ok, Err}
use Rattle.std.specs.List.{filter, count_by}
use Rattle.std.proofs.lemmas.List.Filters.{length-filter_both}
use Rattle.wire.specs.declared.Refusal.{Refusal}
use Rattle.wire.specs.declared.Refusal.TheVariants.{OutputRoom}
use Rattle.wire.specs.Memory.{overlay}
use Rattle.wire.specs.Outcome.{first_fault, accepted, refused, outcome, number_of, answered}
use Rattle.wire.proofs.FirstFault.{outcome_accepted, accepted_clear, refused_number, call_refused, call_accepted}
use Rattle.message.specs.Message.{message_checks}
use Rattle.receiver.specs.declared.Received.{Received}
use Rattle.receiver.specs.declared.Receiver.{Receiver}
use Rattle.receiver.specs.Held.{received, has_lapsed, unlapsed, is_other, arrival_checks, with_message, is_shown, entries}
use Rattle.receiver.specs.Calls.{Call, receive_call, show_call, call_checks, call_fault, shown, call_answer, call_memory, places, holding, call_receiver, Meets}
use Rattle.receiver.proofs.Checked.{passed}

-- the first call
module _ (r : Receiver) (tick sender : ℕ) (bytes : List ℕ) where
  abbrev receive_fault : ℕ
  receive_fault = first_fault (message_checks bytes ++ arrival_checks r.last (unlapsed tick (places r)) (received tick sender bytes))

  module _ (e : Received) (checked : accepted e ≡ outcome receive_fault (received tick sender bytes)) where
    clear : receive_fault ≡ 0
    clear = (accepted_clear receive_fault (received tick sender bytes) e (sym checked)).0

    is_received : received tick sender bytes ≡ e
    is_received = (accepted_clear receive_fault (received tick sender bytes) e (sym checked)).1

    -- there is room for it
    pub receive_few : count_by (is_other e) (unlapsed e.arrival (places r)) < 8
    unfolding received
    receive_few = subst (λ (x : Received). count_by (is_other x) (unlapsed x.arrival (places r)) < 8) is_received (passed r.last tick sender (unlapsed tick (places r)) bytes clear).few

    made_same : holding e.arrival (with_message e (unlapsed e.arrival (places r))) ≡ holding tick (with_message (received tick sender bytes) (unlapsed tick (places r)))
    unfolding received
    made_same = ap (λ (x : Received). holding x.arrival (with_message x (unlapsed x.arrival (places r)))) (sym is_received)

    pub receive_accepted : (next : Receiver) → next ≡ holding e.arrival (with_message e (unlapsed e.arrival (places r)))
        → Meets r (receive_call tick sender bytes) next (Ok 1) []
    unfolding call_fault call_checks call_answer call_memory call_receiver answered
    receive_accepted next made = record {
      receiver = rw (eq-eqb _ _ clear) (made ∙ made_same);
      answer = sym (outcome_accepted receive_fault 1 clear);
      output = refl;
    }

  pub receive_refused : (x : Refusal) → refused (number_of x) ≡ outcome receive_fault (received tick sender bytes)
      → Meets r (receive_call tick sender bytes) r (Err x) []
  unfolding call_fault call_checks call_answer call_memory call_receiver answered
  receive_refused x e =
      let p = refused_number receive_fault (received tick sender bytes) (number_of x) (sym e) in
      record {
        receiver = rw (ne_eqb _ _ p.1) refl;
        answer = (call_refused receive_fault 1 [] [] x (sym p.0)).0;
        output = refl;
      }

-- the second
module _ (r : Receiver) (out : List ℕ) where
  pub show_refused : length out < 288 → Meets r (show_call out) r (Err OutputRoom) out
  unfolding call_fault call_checks call_answer call_memory call_receiver first_fault
  show_refused h =
      let p = call_refused 2 (length (shown r.last (places r))) (entries (shown r.last (places r))) out OutputRoom refl in
      record {
        receiver = refl;
        answer = rw (lt-ltb _ _ h) p.0;
        output = rw (lt-ltb _ _ h) p.1;
      }

  pub show_accepted : (n : ℕ) (last : List ℕ) (held : List Received) → 288 ≤ length out → held ≡ unlapsed r.last (places r)
      → (n ≡ length (filter is_shown held)) × (last ≡ overlay (entries (filter is_shown held)) out)
      → Meets r (show_call out) r (Ok n) last
  unfolding call_fault call_checks call_answer call_memory call_receiver first_fault shown
  show_accepted n last held h e w =
      let p = call_accepted 0 n (entries (filter is_shown held)) out last refl w.1 in
      record {
        receiver = refl;
        answer = rw (le-ltb _ _ h, ← e, ← w.0) p.0;
        output = rw (le-ltb _ _ h, ← e) p.1;
      }

-- ---- what callers ask: a refused call hands back the receiver that it took, and no more are shown than are held

pub refused_same : (r : Receiver) (c : Call) (n : ℕ) → call_answer r.last (places r) c ≡ refused n → call_receiver r c ≡ r
unfolding call_answer call_receiver
refused_same r (receive_call tick sender bytes) n e =
    let p = refused_number (call_fault r.last (places r) (receive_call tick sender bytes)) 1 n e in
    rw (ne_eqb _ _ p.1) refl
refused_same r (show_call out) n e = refl

filter_short : {A : Type 0} (p : A → Bool) (xs : List A) → length (filter p xs) ≤ length xs
filter_short p xs = omega (arith, length-filter_both p (λ x. not (p x)) (λ _. refl) xs)

pub shown_few : (r : Receiver) → length (shown r.last (places r)) ≤ 8
unfolding shown places
shown_few r =
    let held = filter_short (λ x. not (has_lapsed r.last x)) (places r) in
    omega (arith, filter_short is_shown (unlapsed r.last (places r)), held)

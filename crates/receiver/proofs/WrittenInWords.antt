-- What is shown of a message is the record that one of the calls brought.
-- Assumes nothing.
use mathlib.Core.Path.{◌≡◌, refl, sym, ap, ◌∙◌}
use mathlib.Core.Bool.{Bool, true, false, cond}
use mathlib.Core.Logic.{◌⊎◌, inl, inr}
use mathlib.Core.List.Memᴰ
use mathlib.Core.List.{List, [], ◌∷◌, ◌++◌, Memᴰ}
use Prim.Native.Nat.{ℕ}
use native.Mathlib.Omega.{arith}
use borrow.Author.Tests.{eqb-true}
use lib.Dec.{eqb}
use Rattle.wire.specs.Outcome.{first_fault, accepted}
use Rattle.wire.proofs.FirstFault.{clear_append, outcome_accepted}
use Rattle.wire.specs.Words.{bytes_of, Bytes}
use Rattle.message.proofs.RoundTrip.{accepted_is_written}
use Rattle.message.specs.Message.{message_of, message_checks, message_read}
use Rattle.receiver.specs.declared.Received.{Received}
use Rattle.receiver.specs.Held.{received, arrival_checks, unlapsed, entry}
use Rattle.receiver.specs.Calls.{Call, receive_call, show_call, call_checks, call_fault}
use Rattle.receiver.specs.Reading.{last_tick, latest, document_fault, accepted_after, accepted_by}
use Rattle.receiver.specs.InWords.{past_of}

-- ---- the records as they came

module _ (x : Received) where
  record Came (cs : List Call) : Type 0 where
    bytes : List ℕ
    call : Memᴰ (receive_call x.arrival x.sender bytes) cs
    clear : first_fault (message_checks bytes) ≡ 0
    message : message_of bytes ≡ x.message

  later_call : (c : Call) (cs : List Call) → Came cs → Came (c ∷ cs)
  later_call c cs m = record { bytes = m.bytes; call = Memᴰ.tail m.call; clear = m.clear; message = m.message }

  first : (tick sender : ℕ) (bytes : List ℕ) (past : List Received) (cs : List Call) → document_fault past (receive_call tick sender bytes) ≡ 0
      → x ≡ received tick sender bytes → Came (receive_call tick sender bytes ∷ cs)
  unfolding received call_fault call_checks
  first tick sender bytes past cs e q = record {
    bytes = bytes;
    call = Memᴰ.head (ap (λ (y : Received). receive_call y.arrival y.sender bytes) q);
    clear = (clear_append (message_checks bytes) (arrival_checks (last_tick past) (unlapsed tick (latest past)) (received tick sender bytes)) (λ z. omega arith, (λ z. omega arith, tt)) e).0;
    message = sym (ap (λ (y : Received). y.message) q);
  }

  came : (past : List Received) (cs : List Call) → Memᴰ x (accepted_by past cs) → Memᴰ x past ⊎ Came cs
  unfolding accepted_by accepted_after
  came past [] i = inl i
  came past (receive_call tick sender bytes ∷ cs) i = go (eqb (document_fault past (receive_call tick sender bytes)) 0) refl i (λ q. came q cs)
    where
      go : (b : Bool) → eqb (document_fault past (receive_call tick sender bytes)) 0 ≡ b → Memᴰ x (accepted_by (cond b (received tick sender bytes ∷ past) past) cs)
          → ((q : List Received) → Memᴰ x (accepted_by q cs) → Memᴰ x q ⊎ Came cs) → Memᴰ x past ⊎ Came (receive_call tick sender bytes ∷ cs)
      go true e j rest = elim (rest (received tick sender bytes ∷ past) j) [
        | inl k ↦ elim (Memᴰ.cases_cons k) [
          | inl q ↦ inr (first tick sender bytes past cs (eqb-true _ _ e) q)
          | inr l ↦ inl l
        ]
        | inr m ↦ inr (later_call (receive_call tick sender bytes) cs m)
      ]
      go false e j rest = elim (rest past j) [ inl k ↦ inl k | inr m ↦ inr (later_call (receive_call tick sender bytes) cs m) ]
  came past (show_call out ∷ cs) i = elim (came past cs i) [ inl k ↦ inl k | inr m ↦ inr (later_call (show_call out) cs m) ]

pub written_lem : (calls : List Call) (x : Received) → Memᴰ x (past_of calls)
    → (bytes : List ℕ) × Memᴰ (receive_call x.arrival x.sender bytes) calls × (message_read bytes ≡ accepted x.message)
    × (Bytes bytes → entry x ≡ bytes_of 4 x.sender ++ bytes)
unfolding message_read entry
written_lem calls x i = elim (came x [] calls i) [
  | inl k ↦ absurd (Memᴰ.not-nil k)
  | inr m ↦
      let read : message_read m.bytes ≡ accepted x.message = outcome_accepted _ (message_of m.bytes) m.clear ∙ ap accepted m.message in
      (m.bytes, m.call, read, λ b. ap (λ (l : List ℕ). bytes_of 4 x.sender ++ l) (accepted_is_written m.bytes x.message b read).0)
]

-- The first call's checks: those of the message's bytes, then those of its arrival.
-- Assumes nothing.
use mathlib.Core.Path.{◌≡◌, refl, sym, ap, ◌∙◌}
use mathlib.Core.Bool.{◌&&◌}
use mathlib.Core.List.{List, ◌++◌}
use Prim.Native.Nat.{ℕ, ◌≤◌, ◌<◌}
use native.Mathlib.Omega.{arith}
use borrow.Author.Tests.{ltb-false, leb-false, not-false}
use lib.Dec.{T}
use lib.Ieee.Fits.{and_r}
use Rattle.std.specs.List.{count_by}
use Rattle.wire.specs.declared.Refusal.{Refusal}
use Rattle.wire.specs.Outcome.{first_fault, accepted, refused, outcome, number_of}
use Rattle.wire.proofs.FirstFault.{outcome_accepted, outcome_refused, accepted_clear, refused_number, append_clear, append_failing, clear_first, clear_append, answered_refused}
use Rattle.wire.proofs.Tests.{true_holds}
use Rattle.message.specs.declared.Message.{Message}
use Rattle.message.specs.Message.{message_of, derived_fit, admits, message_checks, message_read}
use Rattle.receiver.specs.declared.Received.{Received}
use Rattle.receiver.specs.Held.{received, is_other, arrival_checks}

module _ (last tick sender : ℕ) (held : List Received) (bytes : List ℕ) where
  abbrev value : Received
  value = received tick sender bytes

  abbrev fault : ℕ
  fault = first_fault (message_checks bytes ++ arrival_checks last held value)

  -- what the bytes are refused for
  pub message_refused : (x : Refusal) → refused (number_of x) ≡ message_read bytes → refused (number_of x) ≡ outcome fault value
  unfolding message_read
  message_refused x e =
      let p = refused_number (first_fault (message_checks bytes)) (message_of bytes) (number_of x) (sym e) in
      let k = append_failing (message_checks bytes) (arrival_checks last held value) p.1 in
      sym (outcome_refused fault value (λ z. p.1 (sym k ∙ z)) ∙ ap refused (k ∙ sym p.0))

  module _ (m : Message) (read : accepted m ≡ message_read bytes) where
    made : ◌≡◌ {A = Received} (record { sender = sender; arrival = tick; message = m }) value
    unfolding message_read received
    made = rw (accepted_clear (first_fault (message_checks bytes)) (message_of bytes) m (sym read)).1 refl

    checks_left : first_fault (arrival_checks last held (record { sender = sender; arrival = tick; message = m })) ≡ fault
    unfolding message_read
    checks_left =
        let p = accepted_clear (first_fault (message_checks bytes)) (message_of bytes) m (sym read) in
        ap (λ (e : Received). first_fault (arrival_checks last held e)) made
        ∙ sym (append_clear (message_checks bytes) (arrival_checks last held value) (λ z. omega arith, (λ z. omega arith, tt)) p.0)

    -- what its arrival is refused for
    pub arrival_refused : (x : Refusal) → number_of x ≡ first_fault (arrival_checks last held (record { sender = sender; arrival = tick; message = m }))
        → refused (number_of x) ≡ outcome fault value
    arrival_refused x e = answered_refused fault value x (e ∙ checks_left)

    pub arrival_accepted : 0 ≡ first_fault (arrival_checks last held (record { sender = sender; arrival = tick; message = m }))
        → accepted (record { sender = sender; arrival = tick; message = m }) ≡ outcome fault value
    arrival_accepted e = ap accepted made ∙ sym (outcome_accepted fault value (sym (e ∙ checks_left)))

  -- what no check fails for
  pub record Passed : Type 0 where
    pub admitted : T (admits value.message)
    pub in_turn : last ≤ tick
    pub few : count_by (is_other value) held < 8

  pub passed : fault ≡ 0 → Passed
  unfolding arrival_checks received
  passed e =
      let a = clear_append (message_checks bytes) (arrival_checks last held value) (λ z. omega arith, (λ z. omega arith, tt)) e in
      let b = clear_first _ _ (λ z. omega arith) a.1 in
      let d = clear_first _ _ (λ z. omega arith) b.1 in
      let f = clear_first _ _ (λ z. omega arith) d.1 in
      let g = clear_first _ _ (λ z. omega arith) (clear_first _ _ (λ z. omega arith) a.0).1 in
      let t = and_r (derived_fit bytes) (admits (message_of bytes)) (true_holds _ (not-false (derived_fit bytes && admits (message_of bytes)) g.0)) in
      record { admitted = t; in_turn = ltb-false _ _ b.0; few = leb-false 8 _ f.0 }

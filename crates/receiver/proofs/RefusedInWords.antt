-- When a call is refused with 31, 32 and 33, in quantified words.
-- Assumes nothing.
use mathlib.Core.Path.{◌≡◌, refl, sym, ◌∙◌}
use mathlib.Core.Bool.{Bool, true, false, not, cond}
use mathlib.Core.Logic.{◌↔◌}
use mathlib.Core.List.{List}
use Prim.Native.Nat.{ℕ, ◌<◌, ◌≤◌}
use native.Mathlib.Omega.{arith}
use borrow.Author.Tests.{ltb-true, lt-ltb, ltb-false, le-ltb, leb-true, le-leb}
use lib.Dec.{ltb, leb, eqb}
use Rattle.wire.specs.Outcome.{first_fault}
use Rattle.wire.proofs.FirstFault.{append_clear}
use Rattle.std.specs.List.{list_any, count_by}
use Rattle.message.specs.Message.{message_of, message_checks}
use Rattle.receiver.specs.declared.Received.{Received}
use Rattle.receiver.specs.Held.{received, arrival_checks, is_other, unlapsed, keeps_out}
use Rattle.receiver.specs.Calls.{Call, receive_call, call_checks, call_fault}
use Rattle.receiver.specs.Reading.{last_tick, latest, document_fault}
use Rattle.receiver.specs.InWords.{KeptOut, past_of}
use Rattle.receiver.proofs.HeldInWords.{kept_out_lem}

-- ---- the three checks of an arrival

three : Bool → Bool → Bool → ℕ
three a b d = cond a 31 (cond b 32 (cond d 33 0))

record Three (a b d : Bool) : Type 0 where
  turn : (three a b d ≡ 31) ↔ (a ≡ true)
  newer : (three a b d ≡ 32) ↔ ((a ≡ false) × (b ≡ true))
  room : (three a b d ≡ 33) ↔ ((a ≡ false) × (b ≡ false) × (d ≡ true))

other : {P : Type 0} → (true ≡ false) → P
other e = cc

three_lem : (a b d : Bool) → Three a b d
unfolding three
three_lem true b d = record {
  turn = (λ e. refl, λ e. refl);
  newer = (λ e. absurd (omega (arith, e)), λ e. other e.0);
  room = (λ e. absurd (omega (arith, e)), λ e. other e.0);
}
three_lem false true d = record {
  turn = (λ e. absurd (omega (arith, e)), λ e. other (sym e));
  newer = (λ e. (refl, refl), λ e. refl);
  room = (λ e. absurd (omega (arith, e)), λ e. other e.1);
}
three_lem false false true = record {
  turn = (λ e. absurd (omega (arith, e)), λ e. other (sym e));
  newer = (λ e. absurd (omega (arith, e)), λ e. other (sym e.1));
  room = (λ e. (refl, refl, refl), λ e. refl);
}
three_lem false false false = record {
  turn = (λ e. absurd (omega (arith, e)), λ e. other (sym e));
  newer = (λ e. absurd (omega (arith, e)), λ e. other (sym e.1));
  room = (λ e. absurd (omega (arith, e)), λ e. other (sym e.2));
}

module _ (calls : List Call) (tick sender : ℕ) (bytes : List ℕ) (clear : first_fault (message_checks bytes) ≡ 0) where
  abbrev past : List Received
  past = past_of calls

  abbrev low : Bool
  low = ltb tick (last_tick past)

  abbrev out : Bool
  out = list_any (keeps_out (received tick sender bytes)) (unlapsed tick (latest past))

  abbrev full : Bool
  full = leb 8 (count_by (λ x. not (eqb x.sender sender)) (unlapsed tick (latest past)))

  fault_is : document_fault past (receive_call tick sender bytes) ≡ three low out full
  unfolding three call_fault call_checks arrival_checks first_fault received is_other
  fault_is = append_clear (message_checks bytes) (arrival_checks (last_tick past) (unlapsed tick (latest past)) (received tick sender bytes)) (λ z. omega arith, (λ z. omega arith, tt)) clear

  out_lem : (out ≡ true) ↔ KeptOut past tick sender (message_of bytes)
  unfolding received
  out_lem = kept_out_lem calls (received tick sender bytes)

  not_out : (KeptOut past tick sender (message_of bytes) → ⊥) → out ≡ false
  not_out none = go out refl
    where
      go : (b : Bool) → out ≡ b → b ≡ false
      go true h = absurd (none (out_lem.0 h))
      go false h = refl

  case : Three low out full
  case = three_lem low out full

  pub refused_31_lem : (document_fault past (receive_call tick sender bytes) ≡ 31) ↔ (tick < last_tick past)
  refused_31_lem = (λ e. ltb-true _ _ (case.turn.0 (sym fault_is ∙ e)), λ l. fault_is ∙ case.turn.1 (lt-ltb _ _ l))

  pub refused_32_lem : (document_fault past (receive_call tick sender bytes) ≡ 32) ↔ ((last_tick past ≤ tick) × KeptOut past tick sender (message_of bytes))
  refused_32_lem = (
    (λ e. let p = case.newer.0 (sym fault_is ∙ e) in (ltb-false _ _ p.0, out_lem.0 p.1)),
    λ w. fault_is ∙ case.newer.1 (le-ltb _ _ w.0, out_lem.1 w.1),
  )

  pub refused_33_lem : (document_fault past (receive_call tick sender bytes) ≡ 33)
      ↔ ((last_tick past ≤ tick) × (KeptOut past tick sender (message_of bytes) → ⊥) × (8 ≤ count_by (λ x. not (eqb x.sender sender)) (unlapsed tick (latest past))))
  refused_33_lem = (
    (λ e. let p = case.room.0 (sym fault_is ∙ e) in (ltb-false _ _ p.0, (λ k. other (sym (out_lem.1 k) ∙ p.1)), leb-true _ _ p.2)),
    λ w. fault_is ∙ case.room.1 (le-ltb _ _ w.0, not_out w.1, le-leb _ _ w.2),
  )

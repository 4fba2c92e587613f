-- The statements in other words hold.
-- Assumes nothing.
use Rattle.std.proofs.Common.{◌≡◌, ℕ, zero, suc, ◌+◌, ◌-◌, ◌*◌, ◌/◌, ◌%◌, ◌<◌, ◌≤◌, List, [], ◌∷◌, length, get_or, drop, map, refl, sym, ap, ◌∙◌, arith, drop-drop, ext_get_or, length-take, length-drop, add-one}
use Rattle.std.specs.Prelude.{Bool, true, false, cond, Option, None, Some}
use Rattle.std.specs.List.Sorted.{IsNonDecreasing}
use Rattle.std.specs.Simd.{first_chunks}
use Rattle.std.proofs.lemmas.Bool.{cases_lt}
use mathlib.Core.Logic.{◌⊎◌, inl, inr}
use Rattle.wire.specs.Outcome.{check, first_fault, accepted, refused}
use Rattle.wire.proofs.FirstFault.{outcome_accepted, outcome_refused, accepted_clear, refused_number, clear_first, append_clear, append_failing}
use Rattle.message.specs.declared.Message.{Message}
use Rattle.message.specs.Message.{message_of, message_fields_check, message_read}
use Rattle.busiest.specs.declared.Busiest.{Busiest}
use Rattle.busiest.specs.Busiest.{reference_of, records_of, references_of, falls, record_checks, busiest_of, stretch_fault, stretch}
use Rattle.busiest.specs.InWords.{IsBusiest, record_at, Messages, InWords}
use Rattle.busiest.proofs.InWindow.{none_in, one_more, is_in, is_apart}
use Rattle.busiest.proofs.References.{records_length, references_length, reference_at}
use Rattle.busiest.proofs.RecordsInTurn.{read_alone}
use Rattle.busiest.proofs.Growing.{Growing, none_yet, grows, stays}
use Rattle.busiest.proofs.Rising.{falls_at, never_falls}
use Rattle.busiest.proofs.Faults.{fields_numbered, torn, by_records, no_width, too_wide, passes}
use Rattle.busiest.proofs.Answer.{is_busiest, alone}

-- ---- the records by their places

record_place : (n : ℕ) (xs : List ℕ) (k : ℕ) → k < n → get_or (first_chunks 32 n xs) k [] ≡ record_at xs k
record_place zero xs k l = absurd (omega arith)
record_place (suc n) xs zero l = refl
record_place (suc n) xs (suc k) l =
    let e : 32 * suc k ≡ 32 + 32 * k = omega arith in
    rw (e, ← drop-drop (32 * k) 32 xs) (record_place n (drop 32 xs) k (omega arith))

module _ (list : List ℕ) (k : ℕ) (l : k < length list / 32) where
  pub at_place : get_or (records_of list) k [] ≡ record_at list k
  unfolding records_of
  at_place = record_place (length list / 32) list k l

  pub size_of : length (record_at list k) ≡ 32
  size_of = simp (length-take, length-drop) (omega arith)

-- ---- checks of records by their places

abbrev fails : List ℕ → Bool
fails bytes = (message_fields_check bytes).fails

reads : (bytes : List ℕ) (m : Message) → length bytes ≡ 32 → message_read bytes ≡ accepted m → (fails bytes ≡ false) × (message_of bytes ≡ m)
reads bytes m size e =
    let p = accepted_clear (first_fault (message_fields_check bytes ∷ [])) (message_of bytes) m (sym (read_alone bytes size) ∙ e) in
    ((clear_first (message_fields_check bytes) [] (λ z. omega arith) p.0).0, p.1)

is_bad : (b : Bool) → (first_fault (check 14 b ∷ []) ≡ 0 → ⊥) → b ≡ true
unfolding first_fault
is_bad true h = refl
is_bad false h = absurd (h refl)

does_not : (bytes : List ℕ) (r : ℕ) → length bytes ≡ 32 → message_read bytes ≡ refused r → fails bytes ≡ true
does_not bytes r size e =
    is_bad (fails bytes) (refused_number (first_fault (message_fields_check bytes ∷ [])) (message_of bytes) r (sym (read_alone bytes size) ∙ e)).1

fields_pass : (records : List (List ℕ)) → ((k : ℕ) → k < length records → fails (get_or records k []) ≡ false) → first_fault (map message_fields_check records) ≡ 0
unfolding first_fault
fields_pass [] h = refl
fields_pass (r ∷ records) h = rw (h 0 (omega arith)) (fields_pass records (λ k l. h (suc k) (omega arith)))

-- a check of 14 before those that fail by 14
before_14 : (b : Bool) (n : ℕ) → n ≡ 14 → cond b 14 n ≡ 14
before_14 true n e = refl
before_14 false n e = e

field_fails : (records : List (List ℕ)) (k : ℕ) → k < length records → fails (get_or records k []) ≡ true → first_fault (map message_fields_check records) ≡ 14
unfolding first_fault
field_fails [] k l h = absurd (omega arith)
field_fails (r ∷ records) zero l h = rw h refl
field_fails (r ∷ records) (suc k) l h = before_14 (fails r) (first_fault (map message_fields_check records)) (field_fails records k (omega arith) h)

-- ---- some number and tick are what CR 7 asks

exists : (w : ℕ) (ticks : List ℕ) → IsNonDecreasing ticks → 1 ≤ w → (i : ℕ) → i ≤ length ticks → (k : ℕ) × (first : Option ℕ) × Growing w ticks i k first
exists w ticks up wide zero l = (0, None, none_yet w ticks)
exists w ticks up wide (suc i) l =
    let g = exists w ticks up wide i (omega arith) in
    go g.0 g.1 g.2 (cases_lt (get_or ticks i 0) (get_or ticks (i - g.0) 0 + w))
  where
    go : (k : ℕ) (first : Option ℕ) (g : Growing w ticks i k first) → (get_or ticks i 0 < get_or ticks (i - k) 0 + w) ⊎ (get_or ticks (i - k) 0 + w ≤ get_or ticks i 0)
        → (k : ℕ) × (first : Option ℕ) × Growing w ticks (suc i) k first
    go k first g (inl near) = rw (← add-one) (k + 1, Some (get_or ticks (i - k) 0), grows w ticks i k first up (omega arith) g near)
    go k first g (inr far) = rw (← add-one) (k, first, stays w ticks i k first up (omega arith) g wide far)

-- ---- the statements

refused_by : (list : List ℕ) (w n : ℕ) → stretch_fault list w ≡ n → (n ≡ 0 → ⊥) → stretch list w ≡ refused n
unfolding stretch
refused_by list w n e h = outcome_refused (stretch_fault list w) _ (λ z. h (sym e ∙ z)) ∙ ap refused e

record_fault : (records : List (List ℕ)) (k : ℕ) → k < length records → fails (get_or records k []) ≡ true → first_fault (record_checks records) ≡ 14
unfolding record_checks
record_fault records k l h =
    let f = field_fails records k l h in
    append_failing (map message_fields_check records) _ (λ z. omega (arith, f, z)) ∙ f

module _ (list ticks : List ℕ) (w : ℕ) (ms : Messages list ticks) where
  whole : length list % 32 ≡ 0
  whole = omega (arith, ms.whole)

  count : length (records_of list) ≡ length list / 32
  count = records_length list

  at : (k : ℕ) → k < length (records_of list) → (fails (get_or (records_of list) k []) ≡ false) × (reference_of (get_or (records_of list) k []) ≡ get_or ticks k 0)
  at k l =
      let below_count : k < length list / 32 = omega (arith, count) in
      let m = ms.each k (omega (arith, ms.whole, count)) in
      let r = reads (record_at list k) m.0 (size_of list k below_count) m.1 in
      rw (at_place list k below_count) (r.0, ap (λ (m : Message). m.reference) r.1 ∙ sym m.2)

  ticks_are : references_of (records_of list) ≡ ticks
  ticks_are =
      ext_get_or 0 (references_of (records_of list)) ticks (omega (arith, references_length (records_of list), count, ms.whole))
      (λ k l. let m : k < length (records_of list) = omega (arith, references_length (records_of list)) in reference_at (records_of list) k m ∙ (at k m).1)

  all_read : first_fault (map message_fields_check (records_of list)) ≡ 0
  all_read = fields_pass (records_of list) (λ k l. (at k l).0)

  by_ticks : first_fault (record_checks (records_of list)) ≡ first_fault (check 35 (falls ticks) ∷ [])
  unfolding record_checks
  by_ticks = append_clear (map message_fields_check (records_of list)) _ (fields_numbered (records_of list)) all_read ∙ rw ticks_are refl

  falls_refused : falls ticks ≡ true → stretch list w ≡ refused 35
  unfolding first_fault
  falls_refused f =
      let e : first_fault (record_checks (records_of list)) ≡ 35 = by_ticks ∙ rw f refl in
      refused_by list w 35 (by_records list w whole (λ z. omega (arith, e, z)) ∙ e) (λ z. omega arith)

  module _ (up : IsNonDecreasing ticks) where
    passed : first_fault (record_checks (records_of list)) ≡ 0
    unfolding first_fault
    passed = by_ticks ∙ rw (never_falls ticks up) refl

    width_refused : (w ≡ 0) ⊎ (10000000 < w) → stretch list w ≡ refused 36
    width_refused (inl e) = refused_by list w 36 (no_width list w whole passed e) (λ z. omega arith)
    width_refused (inr l) = refused_by list w 36 (too_wide list w whole passed l) (λ z. omega arith)

    answered_so : 1 ≤ w → w ≤ 10000000 → (b : Busiest) × (stretch list w ≡ accepted b) × IsBusiest w ticks b
    unfolding stretch
    answered_so low high =
        let g = exists w ticks up low (length ticks) (omega arith) in
        let is = is_busiest w ticks g.0 g.1 up low g.2 in
        let b : Busiest = record { messages = g.0; first = g.1 } in
        (b, outcome_accepted _ _ (passes list w whole passed low high) ∙ ap accepted (ap (busiest_of w) ticks_are ∙ sym (alone w ticks b is)), is)

pub in_words : InWords
in_words = record {
  none_lies = none_in;
  lies = λ w t r ticks low high. omega (arith, one_more w t r ticks, is_in w t r low high);
  lies_apart = λ w t r ticks apart. omega (arith, one_more w t r ticks, is_apart w t r apart);
  refused_13 = λ list w h. refused_by list w 13 (torn list w h) (λ z. omega arith);
  refused_14 = λ list w k r whole l e.
      let below_count : k < length list / 32 = omega arith in
      let place : k < length (records_of list) = omega (arith, records_length list) in
      let bad = does_not (record_at list k) r (size_of list k below_count) e in
      let f = record_fault (records_of list) k place (rw (at_place list k below_count) bad) in
      refused_by list w 14 (by_records list w whole (λ z. omega (arith, f, z)) ∙ f) (λ z. omega arith);
  refused_35 = λ list ticks w k ms l h. falls_refused list ticks w ms (falls_at ticks k l h);
  refused_36 = λ list ticks w ms up. width_refused list ticks w ms up;
  answered = λ list ticks w ms up. answered_so list ticks w ms up;
  unique = λ ticks w b c is so. alone w ticks b is ∙ sym (alone w ticks c so);
}

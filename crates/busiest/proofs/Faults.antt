-- What the call is refused for, check by check, and what it answers where none fails.
-- Assumes nothing.
use Rattle.std.proofs.Common.{◌≡◌, ℕ, ◌%◌, ◌<◌, ◌≤◌, List, [], ◌∷◌, ◌++◌, length, map, refl, ◌∙◌, arith}
use Rattle.std.specs.Prelude.{◌||◌, ltb, eqb}
use Rattle.std.specs.List.Sorted.{IsNonDecreasing}
use borrow.Author.Tests.{eq-eqb, ne_eqb, lt-ltb, le-ltb}
use Rattle.wire.specs.Outcome.{check, first_fault}
use Rattle.wire.proofs.FirstFault.{Numbered, numbered_append, append_clear, append_failing, clear_append, clear_first}
use Rattle.message.specs.Message.{message_fields_check}
use Rattle.busiest.specs.Busiest.{records_of, references_of, falls, record_checks, stretch_fault}
use Rattle.busiest.proofs.Rising.{rising}

pub fields_numbered : (records : List (List ℕ)) → Numbered (map message_fields_check records)
fields_numbered [] = tt
fields_numbered (r ∷ records) = (λ z. omega arith, fields_numbered records)

records_numbered : (records : List (List ℕ)) → Numbered (record_checks records)
unfolding record_checks
records_numbered records = numbered_append (map message_fields_check records) (check 35 (falls (references_of records)) ∷ []) (fields_numbered records) (λ z. omega arith, tt)

-- records whose checks pass have reference ticks that never fall
pub passed_rising : (records : List (List ℕ)) → first_fault (record_checks records) ≡ 0 → IsNonDecreasing (references_of records)
unfolding record_checks
passed_rising records e =
    let p = clear_append (map message_fields_check records) (check 35 (falls (references_of records)) ∷ []) (fields_numbered records) e in
    rising (references_of records) (clear_first (check 35 (falls (references_of records))) [] (λ z. omega arith) p.1).0

module _ (list : List ℕ) (w : ℕ) where
  pub torn : (length list % 32 ≡ 0 → ⊥) → stretch_fault list w ≡ 13
  unfolding stretch_fault first_fault
  torn h = rw (ne_eqb _ _ h) refl

  module _ (whole : length list % 32 ≡ 0) where
    left : stretch_fault list w ≡ first_fault (record_checks (records_of list) ++ (check 36 (eqb w 0 || ltb 10000000 w) ∷ []))
    unfolding stretch_fault first_fault
    left = rw (eq-eqb _ _ whole) refl

    pub by_records : (first_fault (record_checks (records_of list)) ≡ 0 → ⊥) → stretch_fault list w ≡ first_fault (record_checks (records_of list))
    by_records h = left ∙ append_failing (record_checks (records_of list)) _ h

    module _ (passed : first_fault (record_checks (records_of list)) ≡ 0) where
      last : stretch_fault list w ≡ first_fault (check 36 (eqb w 0 || ltb 10000000 w) ∷ [])
      last = left ∙ append_clear (record_checks (records_of list)) _ (records_numbered (records_of list)) passed

      pub no_width : w ≡ 0 → stretch_fault list w ≡ 36
      unfolding first_fault
      no_width e = last ∙ rw (eq-eqb _ _ e) refl

      pub too_wide : 10000000 < w → stretch_fault list w ≡ 36
      unfolding first_fault
      too_wide l = last ∙ rw (ne_eqb w 0 (λ z. omega arith), lt-ltb _ _ l) refl

      pub passes : 1 ≤ w → w ≤ 10000000 → stretch_fault list w ≡ 0
      unfolding first_fault
      passes low high = last ∙ rw (ne_eqb w 0 (λ z. omega arith), le-ltb _ _ high) refl

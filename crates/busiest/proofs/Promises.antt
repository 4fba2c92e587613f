-- The promise of `stretch`, from what its code finds.
-- Assumes nothing.
use Rattle.std.proofs.Common.{◌≡◌, ℕ, ◌/◌, ◌%◌, ◌<◌, ◌≤◌, List, length, sym, ap, subst, ◌∙◌, arith}
use Rattle.std.specs.Prelude.{Result, Ok, Err}
use Rattle.std.specs.List.Sorted.{IsNonDecreasing}
use Rattle.std.specs.Result.{IsErrAnd}
use Rattle.std.specs.Simd.{first_chunks}
use Rattle.wire.specs.declared.Refusal.{Refusal}
use Rattle.wire.specs.declared.Refusal.TheVariants.{MessageLength, Width}
use Rattle.wire.specs.Outcome.{first_fault, accepted, number_of, answered}
use Rattle.wire.proofs.FirstFault.{outcome_accepted, answered_refused, numbered, is_passed}
use Rattle.busiest.specs.declared.Busiest.{Busiest}
use Rattle.busiest.specs.Busiest.{records_of, references_of, record_checks, busiest_of, stretch_fault, stretch}
use Rattle.busiest.specs.InWords.{IsBusiest}
use Rattle.busiest.specs.Promise.{Found}
use Rattle.busiest.proofs.Answer.{alone}
use Rattle.busiest.proofs.InWordsHold.{in_words}
use Rattle.busiest.proofs.ExamplesHold.{stretch_examples_hold}
use Rattle.busiest.proofs.Faults.{torn, by_records, no_width, too_wide, passes, passed_rising}

module _ (list : List ℕ) (w : ℕ) where
  refusal : (r : Refusal) → number_of r ≡ stretch_fault list w → Found list w (Err r)
  unfolding stretch answered
  refusal r e = record {
    answer = answered_refused (stretch_fault list w) (busiest_of w (references_of (records_of list))) r e;
    busiest = λ b z. absurd (cc);
    in_words = in_words;
    examples = stretch_examples_hold;
  }

  answer : (b : Busiest) → stretch_fault list w ≡ 0 → IsBusiest w (references_of (records_of list)) b → Found list w (Ok b)
  unfolding stretch answered
  answer b e is = record {
    answer = ap accepted (alone w (references_of (records_of list)) b is) ∙ sym (outcome_accepted (stretch_fault list w) (busiest_of w (references_of (records_of list))) e);
    busiest = λ x z. let same : b ≡ x = cc in subst (λ (y : Busiest). IsBusiest w (references_of (records_of list)) y) same is;
    in_words = in_words;
    examples = stretch_examples_hold;
  }

  pub found_torn : (length list % 32 ≡ 0 → ⊥) → Found list w (Err MessageLength)
  found_torn h = refusal MessageLength (sym (torn list w h))

  module _ (records : List (List ℕ)) (are : records ≡ first_chunks 32 (length list / 32) list) (whole : length list % 32 ≡ 0) where
    records_are : records ≡ records_of list
    unfolding records_of
    records_are = are

    pub found_record : (x : Result Busiest Refusal) (r : Refusal) → IsErrAnd x (λ e. e ≡ r) → number_of r ≡ first_fault (record_checks records) → Found list w x
    found_record x r h e =
        let f : number_of r ≡ first_fault (record_checks (records_of list)) = e ∙ ap (λ (rs : List (List ℕ)). first_fault (record_checks rs)) records_are in
        subst (λ (y : Result Busiest Refusal). Found list w y) (is_passed x r h) (refusal r (f ∙ sym (by_records list w whole (λ z. numbered r (f ∙ z)))))

    module _ (passed : 0 ≡ first_fault (record_checks records)) where
      pub ticks_rise : IsNonDecreasing (references_of records)
      ticks_rise = passed_rising records (sym passed)

      clear : first_fault (record_checks (records_of list)) ≡ 0
      clear = ap (λ (rs : List (List ℕ)). first_fault (record_checks rs)) (sym records_are) ∙ sym passed

      pub found_no_width : w < 1 → Found list w (Err Width)
      found_no_width l = refusal Width (sym (no_width list w whole clear (omega arith)))

      pub found_too_wide : 10000000 < w → Found list w (Err Width)
      found_too_wide l = refusal Width (sym (too_wide list w whole clear l))

      pub found_busiest : (b : Busiest) → 1 ≤ w → w ≤ 10000000 → IsBusiest w (references_of records) b → Found list w (Ok b)
      found_busiest b low high is = answer b (passes list w whole clear low high) (subst (λ (rs : List (List ℕ)). IsBusiest w (references_of rs) b) records_are is)

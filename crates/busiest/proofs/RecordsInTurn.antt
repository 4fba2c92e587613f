-- The checks of records in turn, as the loop over them goes.
-- Assumes nothing.
use Rattle.std.proofs.Common.{◌≡◌, ℕ, ◌+◌, ◌<◌, ◌≤◌, List, [], ◌∷◌, ◌++◌, length, get_or, drop, map, sym, refl, ap, ◌∙◌, arith, add-one, drop-cons, drop_of_length-le}
use Rattle.std.specs.Prelude.{Bool, true, false, ◌||◌, cond, ltb}
use Rattle.std.proofs.Math.Bool.{or_assoc}
use borrow.Author.Tests.{eq-eqb, le-ltb}
use Rattle.wire.specs.declared.Refusal.{Refusal}
use Rattle.wire.specs.Outcome.{Check, check, first_fault, accepted, refused, outcome, number_of}
use Rattle.wire.proofs.FirstFault.{accepted_clear, refused_number, append_clear, append_failing}
use Rattle.message.specs.declared.Message.{Message}
use Rattle.message.specs.Message.{message_of, message_fields_check, message_read}
use Rattle.busiest.specs.Busiest.{reference_of, references_of, falls, record_checks}

-- what is left to check: the records that are still to come, and the ticks, where f says whether one has fallen and b is the last one
abbrev pub ahead : Bool → ℕ → List (List ℕ) → List Check
ahead f b records = map message_fields_check records ++ (check 35 (f || falls (b ∷ references_of records)) ∷ [])

-- a record alone
pub read_alone : (bytes : List ℕ) → length bytes ≡ 32 → message_read bytes ≡ outcome (first_fault (message_fields_check bytes ∷ [])) (message_of bytes)
unfolding message_read first_fault
read_alone bytes e = rw (eq-eqb _ _ e) refl

-- no tick lies below 0
from_0 : (ticks : List ℕ) → falls (0 ∷ ticks) ≡ falls ticks
unfolding falls
from_0 [] = refl
from_0 (t ∷ ticks) = rw (le-ltb t 0 (omega arith)) refl

pub all_ahead : (records : List (List ℕ)) → first_fault (record_checks records) ≡ first_fault (ahead false 0 records)
unfolding record_checks
all_ahead records = rw (from_0 (references_of records)) refl

module _ (f : Bool) (b : ℕ) (bytes : List ℕ) (rest : List (List ℕ)) where
  tick_more : (f || falls (b ∷ references_of (bytes ∷ rest))) ≡ ((f || ltb (reference_of bytes) b) || falls (reference_of bytes ∷ references_of rest))
  unfolding falls references_of
  tick_more = sym (or_assoc f (ltb (reference_of bytes) b) (falls (reference_of bytes ∷ references_of rest)))

  module _ (size : length bytes ≡ 32) where
    refused_ahead : (r : Refusal) → refused (number_of r) ≡ message_read bytes → number_of r ≡ first_fault (ahead f b (bytes ∷ rest))
    refused_ahead r e =
        let n = refused_number (first_fault (message_fields_check bytes ∷ [])) (message_of bytes) (number_of r) (sym (e ∙ read_alone bytes size)) in
        n.0 ∙ sym (append_failing (message_fields_check bytes ∷ []) _ n.1)

    accepted_ahead : (m : Message) → accepted m ≡ message_read bytes
        → first_fault (ahead f b (bytes ∷ rest)) ≡ first_fault (ahead (f || ltb m.reference b) m.reference rest)
    accepted_ahead m e =
        let n = accepted_clear (first_fault (message_fields_check bytes ∷ [])) (message_of bytes) m (sym (e ∙ read_alone bytes size)) in
        append_clear (message_fields_check bytes ∷ []) _ (λ z. omega arith, tt) n.0
        ∙ ap (λ (x : Bool). first_fault (map message_fields_check rest ++ (check 35 x ∷ []))) tick_more
        ∙ ap (λ (m : Message). first_fault (ahead (f || ltb m.reference b) m.reference rest)) n.1

-- one turn of the loop, at record i
module _ (whole : ℕ) (f : Bool) (b : ℕ) (records : List (List ℕ)) (i : ℕ) (inv : whole ≡ first_fault (ahead f b (drop i records)))
    (more : i < length records) (size : length (get_or records i []) ≡ 32) where
  here : whole ≡ first_fault (ahead f b (get_or records i [] ∷ drop (i + 1) records))
  here = inv ∙ rw (add-one, drop-cons records i []) refl

  pub record_refused : (r : Refusal) → refused (number_of r) ≡ message_read (get_or records i []) → number_of r ≡ whole
  record_refused r e = refused_ahead f b (get_or records i []) (drop (i + 1) records) size r e ∙ sym here

  pub record_accepted : (m : Message) → accepted m ≡ message_read (get_or records i [])
      → whole ≡ first_fault (ahead (f || ltb m.reference b) m.reference (drop (i + 1) records))
  record_accepted m e = here ∙ accepted_ahead f b (get_or records i []) (drop (i + 1) records) size m e

last : (f : Bool) (b : ℕ) → first_fault (ahead f b []) ≡ cond f 35 0
unfolding falls references_of first_fault
last true b = refl
last false b = refl

-- the loop's end
module _ (whole : ℕ) (f : Bool) (b : ℕ) (records : List (List ℕ)) (i : ℕ) (inv : whole ≡ first_fault (ahead f b (drop i records))) (all : length records ≤ i) where
  ended : whole ≡ cond f 35 0
  ended = inv ∙ rw (drop_of_length-le records all) (last f b)

  pub fallen : f ≡ true → whole ≡ 35
  fallen e = ended ∙ rw e refl

  pub none_fallen : f ≡ false → whole ≡ 0
  none_fallen e = ended ∙ rw e refl

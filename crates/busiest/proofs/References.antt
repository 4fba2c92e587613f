-- How many records a list has, and their reference ticks by their places.
-- Assumes nothing.
use Rattle.std.proofs.Common.{◌≡◌, ℕ, zero, suc, ◌/◌, ◌<◌, List, [], length, get_or, drop, refl, sym, ap, ◌∙◌, ◌≤◌, arith}
use Rattle.std.specs.Simd.{first_chunks}
use Rattle.std.proofs.lemmas.List.{get_or-map, get_or_past, length-map}
use Rattle.message.specs.declared.Message.{Message}
use Rattle.message.specs.Message.{message_of}
use Rattle.busiest.specs.Busiest.{reference_of, records_of, references_of}

records_count : (n : ℕ) (xs : List ℕ) → length (first_chunks 32 n xs) ≡ n
records_count zero xs = refl
records_count (suc n) xs = ap suc (records_count n (drop 32 xs))

pub records_length : (list : List ℕ) → length (records_of list) ≡ length list / 32
unfolding records_of
records_length list = records_count (length list / 32) list

pub references_length : (records : List (List ℕ)) → length (references_of records) ≡ length records
unfolding references_of
references_length records = length-map records reference_of

pub reference_at : (records : List (List ℕ)) (i : ℕ) → i < length records → get_or (references_of records) i 0 ≡ reference_of (get_or records i [])
unfolding references_of
reference_at records i l = get_or-map reference_of records i [] 0 l

pub reference_there : (records : List (List ℕ)) (i : ℕ) (m : Message) (bytes : List ℕ) → i < length records → m ≡ message_of bytes → bytes ≡ get_or records i []
    → m.reference ≡ get_or (references_of records) i 0
reference_there records i m bytes l e f = ap (λ (m : Message). m.reference) e ∙ ap reference_of f ∙ sym (reference_at records i l)

pub reference_beyond : (records : List (List ℕ)) (i : ℕ) → length records ≤ i → 0 ≡ get_or (references_of records) i 0
reference_beyond records i l = sym (get_or_past (references_of records) i 0 (omega (arith, references_length records)))

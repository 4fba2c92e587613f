-- The busiest stretch of a list of message records, after document 02, CR 7.
-- Assumes nothing.
use Rattle.std.specs.Prelude.{ℕ, ◌+◌, ◌/◌, ◌%◌, Bool, false, not, ◌&&◌, ◌||◌, List, [], ◌∷◌, ◌++◌, ltb, leb, eqb, length, map, max, min, fold, filter, count_by, Option}
use Rattle.std.specs.List.{reduce}
use Rattle.std.specs.Simd.{first_chunks}
use Rattle.wire.specs.Outcome.{Check, check, first_fault, Outcome, outcome}
use Rattle.message.specs.Message.{message_of, message_fields_check}
use Rattle.busiest.specs.declared.Busiest.{Busiest}

-- "a list of message records": its records, 32 bytes each
unfoldable pub records_of : List ℕ → List (List ℕ)
records_of list = first_chunks 32 (length list / 32) list

-- the "reference tick" of a record
abbrev pub reference_of : List ℕ → ℕ
reference_of bytes = (message_of bytes).reference

-- those of records
unfoldable pub references_of : List (List ℕ) → List ℕ
references_of records = map reference_of records

-- the "number of messages whose reference ticks lie in w ticks on end", of which t is the first
unfoldable pub messages_in : ℕ → List ℕ → ℕ → ℕ
messages_in w ticks t = count_by (λ r. leb t r && ltb r (t + w)) ticks

-- "the largest number", over the stretches whose first tick is some message's; that no other holds more is `IsBusiest.most`
unfoldable pub largest : ℕ → List ℕ → ℕ
largest w ticks = fold max 0 (map (messages_in w ticks) ticks)

-- "the earliest first tick of such a stretch that is some message's reference tick"
unfoldable pub earliest : ℕ → List ℕ → Option ℕ
earliest w ticks = reduce min (filter (λ t. eqb (messages_in w ticks t) (largest w ticks)) ticks)

-- both; "An empty list with an allowed w gives zero and no tick."
unfoldable pub busiest_of : ℕ → List ℕ → Busiest
busiest_of w ticks = record { messages = largest w ticks; first = earliest w ticks }

-- "a reference tick below the one before"
unfoldable pub falls : List ℕ → Bool
falls [] = false
falls (t ∷ []) = false
falls (t ∷ r ∷ ticks) = ltb r t || falls (r ∷ ticks)

-- "with 14 a record, then with 35 a reference tick below the one before"
unfoldable pub record_checks : List (List ℕ) → List Check
record_checks records = map message_fields_check records ++ (check 35 (falls (references_of records)) ∷ [])

-- "It refuses first with 13 a list that isn't whole records and with 14 a record, then with 35 a reference tick below the one before, and
-- last with 36 a width of 0 or over 10,000,000."
unfoldable pub stretch_fault : List ℕ → ℕ → ℕ
stretch_fault list w =
    first_fault
    (check 13 (not (eqb (length list % 32) 0))
    ∷ (record_checks (records_of list) ++ (check 36 (eqb w 0 || ltb 10000000 w) ∷ [])))

-- the answer
unfoldable pub stretch : List ℕ → ℕ → Outcome Busiest
stretch list w = outcome (stretch_fault list w) (busiest_of w (references_of (records_of list)))

-- The 32-byte message: its bytes, its fields, what refusal 14 lets pass, its reading and its writing, after document 01, "The message" and "What is turned down".
-- Assumes nothing.
use Rattle.std.specs.Prelude.{ℕ, ◌≡◌, Bool, not, ◌&&◌, ◌||◌, true, false, List, [], ◌∷◌, ◌++◌, ltb, leb, eqb, length, get_or, take, Result, Ok}
use Rattle.std.specs.Int.{w32}
use Rattle.std.proofs.Common.{to_z, of_z}
use Rattle.wire.specs.Words.{word, bytes_of}
use Rattle.wire.specs.Tests.{all_hold}
use Rattle.wire.specs.declared.Refusal.{Refusal}
use Rattle.wire.specs.Memory.{memory}
use Rattle.wire.specs.Outcome.{Check, check, first_fault, Outcome, accepted, outcome, answered}
use Rattle.warnings.specs.Warnings.{new, cancel, warning_count, row_of, validity_of, direction_of}
use Rattle.sample.specs.Sample.{beyond}
use Rattle.message.specs.declared.Message.{Message}

-- "32 bytes, little-endian: 0 kind .. 1 warning; 2 sub cause .. 3 cause 94; 4 quality; 5 roadType .. 6 direction .. 7 stationarySince; 8-11 event .. 12-15 detection tick; 16-19 reference tick; 20-27 east, north; 28-29 heading; 30-31 validity in seconds"
unfoldable pub encode : Message → List ℕ
encode m =
    (m.kind
    ∷ m.warning
    ∷ (row_of m.warning).subcause
    ∷ (row_of m.warning).cause
    ∷ m.quality
    ∷ m.roadtype
    ∷ direction_of m.roadtype
    ∷ m.since
    ∷ [])
    ++ bytes_of 4 m.event
    ++ bytes_of 4 m.detection
    ++ bytes_of 4 m.reference
    ++ bytes_of 4 (of_z w32 m.position.east)
    ++ bytes_of 4 (of_z w32 m.position.north)
    ++ bytes_of 2 m.heading
    ++ bytes_of 2 m.validity

-- the fields in these places
unfoldable pub message_of : List ℕ → Message
message_of s = record {
  kind = get_or s 0 0;
  warning = get_or s 1 0;
  quality = get_or s 4 0;
  roadtype = get_or s 5 0;
  since = get_or s 7 0;
  event = word 4 s 8;
  detection = word 4 s 12;
  reference = word 4 s 16;
  position = record { east = to_z w32 (word 4 s 20); north = to_z w32 (word 4 s 24) };
  heading = word 2 s 28;
  validity = word 2 s 30;
}

-- "sub cause .. not of its warning; direction not of its roadType", and "3 cause 94"; of 4, "cause 99, sub cause 8" (CR 1)
unfoldable pub derived_fit : List ℕ → Bool
derived_fit s =
    all_hold
    (eqb (get_or s 2 0) (row_of (get_or s 1 0)).subcause
    ∷ eqb (get_or s 3 0) (row_of (get_or s 1 0)).cause
    ∷ eqb (get_or s 6 0) (direction_of (get_or s 5 0))
    ∷ [])

-- the values that 14 lets pass, field by field
unfoldable pub field_tests : Message → List Bool
field_tests m =
    -- "0 kind (1 New, 2 Update, 3 Cancel); 1 warning", and the values of "Quality"; "14 admits warning 4 with these values only and never a Cancel" (CR 1)
    leb new m.kind
    ∷ leb m.kind (row_of m.warning).kinds
    ∷ leb 1 m.warning
    ∷ leb m.warning warning_count
    ∷ leb 1 m.quality
    ∷ leb m.quality (row_of m.warning).qualities
    -- "roadType: 0 .., 1 .., 2 .., 3 .., and 255 (omitted)"
    ∷ (leb m.roadtype 3 || eqb m.roadtype 255)
    -- "stationarySince: .. 0 .., 1 .., 2 .., else 3"
    ∷ leb m.since 3
    -- "event not 1 to 10,000,000; reference over 9,999,999"
    ∷ leb 1 m.event
    ∷ leb m.event 10000000
    ∷ leb m.reference 9999999
    -- "detection above reference, or below it unless Cancel"
    ∷ leb m.detection m.reference
    ∷ (eqb m.kind cancel || eqb m.detection m.reference)
    -- "8 east or north beyond ±1,000,000", "7 heading over 3,601"
    ∷ not (beyond m.position)
    ∷ leb m.heading 3601
    -- "validity not of its warning"
    ∷ (eqb m.validity (validity_of m.warning true) || eqb m.validity (validity_of m.warning false))
    ∷ []

unfoldable pub admits : Message → Bool
admits m = all_hold (field_tests m)

-- "14 message field", of a record of 32 bytes
abbrev pub message_fields_check : List ℕ → Check
message_fields_check s = check 14 (not (derived_fit s && admits (message_of s)))

-- "the message reader by 13, 14"
abbrev pub message_checks : List ℕ → List Check
message_checks s = check 13 (not (eqb (length s) 32)) ∷ message_fields_check s ∷ []

unfoldable pub message_read : List ℕ → Outcome Message
message_read s = outcome (first_fault (message_checks s)) (message_of s)

-- "the writer (32 bytes of output) by 2, 14": the number of the first failing check with n bytes of output
unfoldable pub write_fault : Message → ℕ → ℕ
write_fault m n = first_fault (check 2 (ltb n 32) ∷ check 14 (not (admits m)) ∷ [])

-- the reader's promise: what it finds, and that accepted bytes are what the writer makes of the message
pub record Found (bytes : List ℕ) (r : Result Message Refusal) : Type 0 where
  pub found : answered r ≡ message_read bytes
  pub as_written : (m : Message) → r ≡ Ok m → encode m ≡ bytes

-- the writer's promise: its answer, the output after it, and that what is written reads back the same
pub record Written (m : Message) (out : List ℕ) (r : Result ℕ Refusal) (last : List ℕ) : Type 0 where
  pub answer : answered r ≡ outcome (write_fault m (length out)) 1
  pub output : last ≡ memory (write_fault m (length out)) (encode m) out
  pub reads_back : (n : ℕ) → r ≡ Ok n → message_read (take 32 last) ≡ accepted m

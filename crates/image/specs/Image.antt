-- The engine's image: what saving makes of its state, what is read back from an image, and which bytes are an image.
-- Assumes nothing. The value of a running filter is kept by its bits, as `lib.Ieee` gives them.
use Rattle.std.specs.Prelude.{ℕ, zero, suc, ◌+◌, ◌*◌, ◌≡◌, Bool, true, false, not, ◌&&◌, cond, List, [], ◌∷◌, ◌++◌, eqb, length, get_or, take, drop, replicate, ℤ, Option, Some, None, is_some, bytes_eq, Result, Ok}
use Rattle.std.specs.Int.{w32}
use Rattle.std.proofs.Common.{to_z, of_z}
use Rattle.std.specs.Float.{binary32}
use Rattle.std.specs.Float.Ieee.{of_bits, to_bits, nan_bits}
use mir.Val.{bool_byte}
use Rattle.wire.specs.declared.Refusal.{Refusal}
use Rattle.wire.specs.Words.{bytes_of, word}
use Rattle.wire.specs.Outcome.{check, first_fault, Outcome, accepted, refused, outcome, answered}
use Rattle.sample.specs.declared.Position.{Position}
use Rattle.filter.specs.declared.Filter.{Filter}
use Rattle.filter.specs.declared.Filter.TheVariants.{Empty, Running}
use Rattle.message.specs.declared.Message.{Message}
use Rattle.message.specs.Message.{encode, message_read}
use Rattle.history.specs.declared.Conditions.{Conditions}
use Rattle.history.specs.declared.Cycle.{Cycle}
use Rattle.history.specs.declared.Log.{Log}
use Rattle.history.specs.declared.State.{State}
use Rattle.history.specs.Runs.{run_count}
use Rattle.history.specs.Ranges.{counts, stopped_place, broken_down_place, started_place, counted_place, last_cancel_place, events_place, run_place, state_in_range}

-- ---- the places

-- byte 0 is the layout's number. An image outlives the software that saved it: every change of what an image holds raises the number,
-- so that an image of another layout is told by its first byte
abbrev pub layout : ℕ
layout = 3

-- then yes or no, one byte each: whether the filter is running, ignition, five marks of each cycle, whether a warning stands; and
-- two zeros, so that every number stands at a place that four divides
abbrev pub flags_place : ℕ
flags_place = 1

abbrev pub running_flag : ℕ
running_flag = 0

abbrev pub ignition_flag : ℕ
ignition_flag = 1

abbrev pub stopped_marks : ℕ
stopped_marks = 2

abbrev pub broken_down_marks : ℕ
broken_down_marks = stopped_marks + 5

abbrev pub sent_flag : ℕ
sent_flag = broken_down_marks + 5

abbrev pub flag_count : ℕ
flag_count = sent_flag + 3

-- then the standing warning's record
abbrev pub standing_place : ℕ
standing_place = flags_place + flag_count

-- then the numbers, four bytes each, the runs at the end: one run more changes the size and no other place
abbrev pub words_place : ℕ
words_place = standing_place + 32

-- which number stands at which place, in the order of `words_of`: the samples taken, the filter's bits, the position of the last New
abbrev pub taken_number : ℕ
taken_number = 0

abbrev pub filter_number : ℕ
filter_number = 1

abbrev pub east_number : ℕ
east_number = 2

abbrev pub north_number : ℕ
north_number = 3

-- the counts stand behind these four, each at its place
abbrev pub count_number : ℕ → ℕ
count_number k = 4 + k

-- how many numbers there are before the runs
abbrev pub number_count : ℕ
number_count = count_number (run_place 0)

abbrev pub runs_place : ℕ
runs_place = words_place + 4 * number_count

abbrev pub image_size : ℕ
image_size = runs_place + 4 * run_count

-- ---- the image of a state

-- a yes or no is the byte 1 or 0
abbrev pub flag : Bool → ℕ
flag b = bool_byte b

unfoldable pub is_running : Filter → Bool
is_running Empty = false
is_running (Running f) = true

unfoldable pub filter_bits : Filter → ℕ
filter_bits Empty = 0
filter_bits (Running f) = to_bits binary32 f

-- a cycle's conditions a to d, and one of e to h
abbrev pub marks_of : Conditions → List ℕ
marks_of c = flag c.park ∷ flag c.idle ∷ flag c.brake ∷ flag c.belt ∷ flag c.expiring ∷ []

unfoldable pub flags_of : State → List ℕ
flags_of s =
    flag (is_running s.filter)
    ∷ flag s.ignition
    ∷ marks_of s.stoppedcycle.marks ++ marks_of s.brokendowncycle.marks ++ (flag (is_some s.log.standing) ∷ 0 ∷ 0 ∷ [])

-- the record of the standing warning's last New or Update, zeros where none stands
unfoldable pub standing_bytes : Option Message → List ℕ
standing_bytes None = replicate 32 0
standing_bytes (Some m) = encode m

-- coordinates in two's complement; `counts` ends with the runs
unfoldable pub words_of : State → List ℕ
words_of s = s.taken ∷ filter_bits s.filter ∷ of_z w32 s.log.origin.east ∷ of_z w32 s.log.origin.north ∷ counts s

unfoldable pub word_bytes : List ℕ → List ℕ
word_bytes [] = []
word_bytes (w ∷ ws) = bytes_of 4 w ++ word_bytes ws

unfoldable pub image_of : State → List ℕ
image_of s = layout ∷ flags_of s ++ standing_bytes s.log.standing ++ word_bytes (words_of s)

-- ---- the state in an image

-- yes or no, and number, by their places among the others: flags in the order of `flags_of`, numbers in that of `words_of`
unfoldable pub flag_in : ℕ → List ℕ → Bool
flag_in k s = eqb (get_or s (flags_place + k) 0) 1

unfoldable pub number_in : ℕ → List ℕ → ℕ
number_in k s = word 4 s (words_place + 4 * k)

-- a coordinate, two's complement
unfoldable pub coordinate_in : ℕ → List ℕ → ℤ
coordinate_in k s = to_z w32 (number_in k s)

-- n numbers from number k on
unfoldable pub numbers_in : ℕ → ℕ → List ℕ → List ℕ
numbers_in k zero s = []
numbers_in k (suc n) s = number_in k s ∷ numbers_in (k + 1) n s

unfoldable pub runs_in : List ℕ → List ℕ
runs_in s = numbers_in number_count run_count s

-- a NaN's bits are no filter's
unfoldable pub filter_in : Bool → ℕ → Filter
filter_in running bits = cond (running && not (nan_bits binary32 bits)) (Running (of_bits binary32 bits)) Empty

-- a refused record is none's
unfoldable pub notice_of : Outcome Message → Option Message
notice_of (accepted m) = Some m
notice_of (refused n) = None

unfoldable pub standing_in : Bool → List ℕ → Option Message
standing_in sent bytes = cond sent (notice_of (message_read bytes)) None

-- a cycle's marks, by the place of the first of them among the flags
abbrev pub marks_in : ℕ → List ℕ → Conditions
marks_in mark s = record {
  park = flag_in mark s;
  idle = flag_in (mark + 1) s;
  brake = flag_in (mark + 2) s;
  belt = flag_in (mark + 3) s;
  expiring = flag_in (mark + 4) s;
}

-- a cycle, by the place of its ticks among the numbers and of its first mark among the flags
abbrev pub cycle_in : ℕ → ℕ → List ℕ → Cycle
cycle_in ticks mark s = record { ticks = number_in ticks s; marks = marks_in mark s }

abbrev pub origin_in : List ℕ → Position
origin_in s = record { east = coordinate_in east_number s; north = coordinate_in north_number s }

unfoldable pub log_in : List ℕ → Log
log_in s = record {
  standing = standing_in (flag_in sent_flag s) (take 32 (drop standing_place s));
  started = number_in (count_number started_place) s;
  origin = origin_in s;
  counted = number_in (count_number counted_place) s;
  lastcancel = number_in (count_number last_cancel_place) s;
  events = number_in (count_number events_place) s;
}

unfoldable pub state_in : List ℕ → State
state_in s = record {
  taken = number_in taken_number s;
  filter = filter_in (flag_in running_flag s) (number_in filter_number s);
  ignition = flag_in ignition_flag s;
  runs = runs_in s;
  stoppedcycle = cycle_in (count_number stopped_place) stopped_marks s;
  brokendowncycle = cycle_in (count_number broken_down_place) broken_down_marks s;
  log = log_in s;
}

-- ---- which bytes are an image

-- as many bytes as an image has, the first of them this layout's, byte for byte what saving makes of the state in them, and that
-- state within 21's ranges
unfoldable pub is_image : List ℕ → Bool
is_image s = eqb (length s) image_size && eqb (get_or s 0 0) layout && state_in_range (state_in s) && bytes_eq (image_of (state_in s)) s

-- refusal 21 for bytes that are no image
unfoldable pub image_read : List ℕ → Outcome State
image_read s = outcome (first_fault (check 21 (not (is_image s)) ∷ [])) (state_in s)

-- the promise of `save`: the image, and that it loads as the same state, where that is within 21's ranges
pub record Saved (s : State) (r : List ℕ) : Type 0 where
  pub image : r ≡ image_of s
  pub loads_back : state_in_range s ≡ true → image_read r ≡ accepted s

-- the promise of `load`: what it finds, and that an accepted image is byte for byte what saving makes of its state
pub record Loaded (image : List ℕ) (r : Result State Refusal) : Type 0 where
  pub found : answered r ≡ image_read image
  pub as_saved : (s : State) → r ≡ Ok s → image_of s ≡ image

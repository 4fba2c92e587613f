-- The kinds and the warnings, and what a message has by its warning and by the road, after document 01, "The message" and "The history reading".
-- Assumes nothing.
use Rattle.std.specs.Prelude.{ℕ, Bool, cond, ◌||◌, List, [], ◌∷◌, eqb, get_or}
use Rattle.warnings.specs.declared.Row.{Row}

-- "0 kind (1 New, 2 Update, 3 Cancel)"
abbrev pub new : ℕ
new = 1

abbrev pub update : ℕ
update = 2

abbrev pub cancel : ℕ
cancel = 3

-- "1 stopped, 2 broken-down, 3 post-crash"
abbrev pub stopped : ℕ
stopped = 1

abbrev pub broken_down : ℕ
broken_down = 2

abbrev pub post_crash : ℕ
post_crash = 3

-- "Warning 4": the one for an "Unresponsive driver" (CR 1)
abbrev pub unresponsive_driver : ℕ
unresponsive_driver = 4

-- "three warnings", and CR 1's: they are the numbers from 1 to this one
abbrev pub warning_count : ℕ
warning_count = 4

-- "a higher number outranks"; of 4, "It ranks between 2 and 3." (CR 1): the warnings, the highest rank first
abbrev pub by_rank : List ℕ
by_rank = post_crash ∷ unresponsive_driver ∷ broken_down ∷ stopped ∷ []

-- a column of the table, with one entry for each warning from 1 on; 0 for a number that is no warning
abbrev pub by_warning : List ℕ → ℕ → ℕ
by_warning column warning = get_or (0 ∷ column) warning 0

-- the columns for warnings 1, 2, 3 and 4; what is quoted of 4 is CR 1's
unfoldable pub row_of : ℕ → Row
row_of warning = record {
  -- "3 cause 94"; of 4, "cause 99"
  cause = by_warning (94 ∷ 94 ∷ 94 ∷ 99 ∷ []) warning;
  -- "2 sub cause 0, 2, 3 for warnings 1, 2, 3"; of 4, "sub cause 8"
  subcause = by_warning (0 ∷ 2 ∷ 3 ∷ 8 ∷ []) warning;
  -- "the linked cause 93/3 follows from the warning's number"; 0 for a warning that has none
  linkedcause = by_warning (0 ∷ 0 ∷ 0 ∷ 93 ∷ []) warning;
  linkedsubcause = by_warning (0 ∷ 0 ∷ 0 ∷ 3 ∷ []) warning;
  -- "Relevance distance code 4"
  relevance = by_warning (4 ∷ 4 ∷ 4 ∷ 4 ∷ []) warning;
  -- "traffic class 1"; of 4, "traffic class is 0"
  trafficclass = by_warning (1 ∷ 1 ∷ 1 ∷ 0 ∷ []) warning;
  -- "1 stopped, 2 broken-down, 3 post-crash; a higher number outranks"; of 4, "It ranks between 2 and 3."
  rank = by_warning (1 ∷ 2 ∷ 4 ∷ 3 ∷ []) warning;
  -- "0 kind (1 New, 2 Update, 3 Cancel)": the highest that 14 admits; of 4, "never a Cancel"
  kinds = by_warning (cancel ∷ cancel ∷ cancel ∷ update ∷ []) warning;
  -- "Quality for 1 and 2: 3 .. else 2 .. else 1. For 3: .. 1 .. 2 .. 3": the greatest that 14 admits; of 4, "quality is 1"
  qualities = by_warning (3 ∷ 3 ∷ 3 ∷ 1 ∷ []) warning;
  -- "Update: 150 ticks (warning 3: 600, U)"; of 4, "Updates come every 5 ticks"
  period = by_warning (150 ∷ 150 ∷ 600 ∷ 5 ∷ []) warning;
  -- "not still at each tick i-50 to i (warning 3: i-150 to i, U)"; of 4, "the .. 5 s rules don't apply to it", so nothing asks for it
  delay = by_warning (50 ∷ 50 ∷ 150 ∷ 0 ∷ []) warning;
  -- "Validity: warning 1: 30; 2: 30 with ignition on .. 3: 180 (U)."; of 4, "validity 2"
  validityon = by_warning (30 ∷ 30 ∷ 180 ∷ 2 ∷ []) warning;
  -- "Validity: warning 1: 30; 2: .. else 180 (U); 3: 180 (U)."; of 4, "validity 2"
  validityoff = by_warning (30 ∷ 180 ∷ 180 ∷ 2 ∷ []) warning;
}

-- "Validity: warning 1: 30; 2: 30 with ignition on, else 180 (U); 3: 180 (U)."; of 4, "validity 2" (CR 1)
unfoldable pub validity_of : ℕ → Bool → ℕ
validity_of warning ignition = cond ignition (row_of warning).validityon (row_of warning).validityoff

-- "5 roadType: 0 for roads 1 and 3, 1 for 2, 2 for 4 and 6, 3 for 5, and 255 (omitted) for 0"; 255 for a refused road too
unfoldable pub road_type_of : ℕ → ℕ
road_type_of road =
    cond (eqb road 1 || eqb road 3) 0
    (cond (eqb road 2) 1
    (cond (eqb road 4 || eqb road 6) 2
    (cond (eqb road 5) 3 255)))

-- "6 direction, 1 upstream for roadType 1 and 3, else 0"
unfoldable pub direction_of : ℕ → ℕ
direction_of roadtype = cond (eqb roadtype 1 || eqb roadtype 3) 1 0

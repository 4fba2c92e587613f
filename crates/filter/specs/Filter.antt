-- The speed filter of document 01, "Standing still", in its words and order, and its range for refusal 21. Definitions only.
-- They rest on the kit's account of binary32, `lib.Ieee`, where each operation rounds once.
use Rattle.std.specs.Prelude.{ℕ, ◌≤◌, ◌≡◌, Bool, true, false, ◌&&◌, cond, ◌⊎◌, T, eqb, pos, Float}
use mathlib.Core.List.{List, Memᴰ, foldl}
use Rattle.std.specs.Float.{binary32}
use Rattle.std.specs.Float.Ieee.{of_bits, of_int, add, sub, mul, le, fits}
use Rattle.sample.specs.Sample.{no_reading}
use Rattle.filter.specs.declared.Filter.{Filter}
use Rattle.filter.specs.declared.Filter.TheVariants.{Empty, Running}

-- 0.25
abbrev pub quarter : Float
quarter = of_bits binary32 0x3e800000

-- 8.0
abbrev pub eight : Float
eight = of_bits binary32 0x41000000

-- 0.0
abbrev pub lowest : Float
lowest = of_bits binary32 0

-- 16382.0
abbrev pub highest : Float
highest = of_bits binary32 0x467ff800

-- the reading x as an f32, which holds it exactly
abbrev pub as_f32 : ℕ → Float
as_f32 x = of_int binary32 (pos x)

-- ---- the next filter
-- "F + (x - F) × 0.25, each operation rounded once."
unfoldable pub blend : Float → Float → Float
blend f x = add binary32 f (mul binary32 (sub binary32 x f) quarter)

-- "The first reading x becomes F. Each later one gives F + (x - F) × 0.25"
unfoldable pub with_reading : Filter → Float → Filter
with_reading Empty x = Running x
with_reading (Running f) x = Running (blend f x)

-- "A missing reading keeps F.", and "16,383 = no reading"
unfoldable pub next : Filter → ℕ → Filter
next s reading = cond (eqb reading no_reading) s (with_reading s (as_f32 reading))

-- the filter after a list of readings, the first one first
unfoldable pub after_readings : Filter → List ℕ → Filter
after_readings s readings = foldl next s readings

-- each number is a reading or 16,383: "speed over 16,383" is refused
unfoldable pub Readings : List ℕ → Type 0
Readings readings = (x : ℕ) → Memᴰ x readings → x ≤ no_reading

-- ---- what is asked of its value
-- "F lies between its old value and x": z lies between a and b, whichever of the two is larger
unfoldable pub Between : Float → Float → Float → Type 0
Between a b z = (T (le a z) × T (le z b)) ⊎ (T (le b z) × T (le z a))

-- "F is at most 8", which a filter without a reading is not
unfoldable pub is_at_most_8 : Filter → Bool
is_at_most_8 Empty = false
is_at_most_8 (Running f) = le f eight

-- not "a number outside the ranges": the filter is empty, or F is from 0 to 16,382, as readings are; -0 equals 0
unfoldable pub in_range : Filter → Bool
in_range Empty = true
in_range (Running f) = le lowest f && le f highest

-- "a 32-bit float F": every F of a program is one (`owned_f32`), but `Float` has values that no f32 holds
unfoldable pub is_f32 : Filter → Bool
is_f32 Empty = true
is_f32 (Running f) = fits binary32 f

-- the filters that the theorems are about
pub record Valid (s : Filter) : Type 0 where
  pub f32 : T (is_f32 s)
  pub range : T (in_range s)

-- the promise of `Filter::next`: the next filter, and "Always F lies between its old value and x", where F is one that readings can have led to
pub record Moved (s : Filter) (reading : ℕ) (r : Filter) : Type 0 where
  pub filter : r ≡ next s reading
  pub between : (f g : Float) → s ≡ Running f → r ≡ Running g → T (in_range s) → reading ≤ 16382 → Between f (as_f32 reading) g

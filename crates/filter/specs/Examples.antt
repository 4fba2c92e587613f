-- The speed filter by examples, and what is said of all lists of readings, after document 01, "Standing still" and "Bench stops".
-- Assumes nothing.
use Rattle.std.specs.Prelude.{ℕ, ◌<◌, ◌≡◌, true, false, List, [], ◌∷◌, map, replicate}
use Rattle.std.specs.Float.{binary32}
use Rattle.std.specs.Float.Ieee.{of_bits}
use Rattle.filter.specs.Filter.{as_f32, Between, is_at_most_8, in_range, Valid, after_readings, Readings}
use Rattle.filter.specs.declared.Filter.{Filter}
use Rattle.filter.specs.declared.Filter.TheVariants.{Empty, Running}

-- the filter whose value has these bits; the comments below say which number they are
unfoldable pub running : ℕ → Filter
running bits = Running (of_bits binary32 bits)

-- the filter after these readings
abbrev pub reached : List ℕ → Filter
reached readings = after_readings Empty readings

-- of readings, z lies between a and b
abbrev pub Inside : ℕ → ℕ → ℕ → Type 0
Inside a b z = Between (as_f32 a) (as_f32 b) (as_f32 z)

pub record FilterExamples : Type 0 where
  -- "The first reading x becomes F.": 100.0, 16382.0
  pub first : map reached ((100 ∷ []) ∷ (16382 ∷ []) ∷ []) ≡ running 0x42c80000 ∷ running 0x467ff800 ∷ []
  -- "Each later one gives F + (x - F) × 0.25": from 100 to 0 75.0, from 0 to 100 25.0
  pub later : map reached ((100 ∷ 0 ∷ []) ∷ (0 ∷ 100 ∷ []) ∷ []) ≡ running 0x42960000 ∷ running 0x41c80000 ∷ []
  -- "each operation rounded once": 9 and then 8s come to the second f32 above 8, and stay there
  pub rounded : map reached ((9 ∷ replicate 50 8) ∷ (9 ∷ replicate 51 8) ∷ []) ≡ running 0x41000002 ∷ running 0x41000002 ∷ []
  -- "A missing reading keeps F.", and before the first there is none; "16,383 = no reading"
  pub missing : map reached ((100 ∷ 16383 ∷ []) ∷ (16383 ∷ []) ∷ (16383 ∷ 100 ∷ []) ∷ []) ≡ running 0x42c80000 ∷ Empty ∷ running 0x42c80000 ∷ []
  -- "F lies between its old value and x": 1 and 3, or 3 and 1, have 1, 2 and 3 between them, but neither 0 nor 4
  pub between : Inside 1 3 1 × Inside 1 3 2 × Inside 1 3 3 × Inside 3 1 1 × Inside 3 1 2 × Inside 3 1 3
  pub not_between : (Inside 1 3 0 → ⊥) × (Inside 1 3 4 → ⊥) × (Inside 3 1 0 → ⊥) × (Inside 3 1 4 → ⊥)
  -- "F is at most 8": 0.0, 8.0, the f32 next above it, no number; and a filter without a reading
  pub at_most_8 : map is_at_most_8 (running 0 ∷ running 0x41000000 ∷ running 0x41000001 ∷ running 0x7fc00000 ∷ Empty ∷ [])
      ≡ true ∷ true ∷ false ∷ false ∷ false ∷ []
  -- the range of refusal 21, from below: the f32 next below 0, -0.0, 0.0, 16382.0, the f32 next above it, no number; and a filter without a reading
  pub range : map in_range (running 0x80000001 ∷ running 0x80000000 ∷ running 0 ∷ running 0x467ff800 ∷ running 0x467ff801 ∷ running 0x7fc00000 ∷ Empty ∷ [])
      ≡ false ∷ true ∷ true ∷ true ∷ false ∷ false ∷ true ∷ []

pub record FilterLaws : Type 0 where
  -- "A first reading of 9 and then steadily 8 never becomes still, since rounding keeps F above 8."
  pub nine_then_eights : (n : ℕ) → is_at_most_8 (reached (9 ∷ replicate n 8)) ≡ false
  -- "Speeds 100, then 0: still first at tick 9."
  pub hundred_then_fewer_zeros : (n : ℕ) → n < 9 → is_at_most_8 (reached (100 ∷ replicate n 0)) ≡ false
  pub hundred_then_nine_zeros : is_at_most_8 (reached (100 ∷ replicate 9 0)) ≡ true
  -- "no state reached from a fresh engine is" outside the ranges
  pub range_kept : (readings : List ℕ) → Readings readings → Valid (reached readings)

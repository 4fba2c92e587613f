-- The filter stays in range and its value an f32's: over one reading, and from empty on over any list of readings,
-- missing ones among them. Assumes nothing.
use mathlib.Core.Path.{refl}
use mathlib.Core.Logic.{inl, inr}
use mathlib.Core.List.Memᴰ
use mathlib.Core.List.{List, [], ◌∷◌}
use Prim.Native.Nat.{ℕ, ◌*◌, ◌≤◌}
use native.Mathlib.Nat.{eq-or-lt_of_le, le_of_suc-le-suc, mul-le-mul_right}
use lib.IntN.{pos}
use lib.Dec.{T}
use lib.Ieee.{Float, binary32, sub, mul, fits}
use lib.Ieee.Fits.{add-fits, of_int-fits}
use Rattle.sample.specs.Sample.{no_reading}
use Rattle.filter.specs.Filter.{as_f32, blend, quarter, next, in_range, is_f32, Valid, after_readings, Readings}
use Rattle.filter.specs.declared.Filter.{Filter}
use Rattle.filter.specs.declared.Filter.TheVariants.{Empty, Running}
use Rattle.filter.proofs.NextLaws.{next_missing, next_first, next_later}
use Rattle.filter.proofs.RangeUnits.{one, reading_units, measured_valid}
use Rattle.filter.proofs.BlendOutcome.{blend_outcome}

blend_fits : (f x : Float) → T (fits binary32 (blend f x))
unfolding blend
blend_fits f x = add-fits binary32 f (mul binary32 (sub binary32 x f) quarter)

reading_valid : (s : Filter) (x : ℕ) → x ≤ 16382 → Valid s → Valid (next s x)
reading_valid Empty x h v =
    let t = of_int-fits binary32 (pos x) in
    rw (next_first x h) (measured_valid (as_f32 x) (x * one) t (reading_units x h) (mul-le-mul_right one h))
reading_valid (Running f) x h v =
    let o = blend_outcome f x v h in
    rw (next_later f x h) (measured_valid (blend f (as_f32 x)) o.size (blend_fits f (as_f32 x)) o.units o.most)

-- one step: the range is kept by every reading, and by a missing one
pub next_valid : (s : Filter) (x : ℕ) → x ≤ no_reading → Valid s → Valid (next s x)
next_valid s x h v = elim (eq-or-lt_of_le h) [ inl e ↦ rw (e, next_missing) v | inr l ↦ reading_valid s x (le_of_suc-le-suc l) v ]

pub empty_valid : Valid Empty
unfolding is_f32 in_range
empty_valid = record { f32 = tt; range = tt }

-- any number of steps
pub after_readings_valid : (s : Filter) (readings : List ℕ) → Readings readings → Valid s → Valid (after_readings s readings)
unfolding after_readings Readings
after_readings_valid s [] h v = v
after_readings_valid s (x ∷ xs) h v =
    let first = next_valid s x (h x (Memᴰ.head refl)) v in
    after_readings_valid (next s x) xs (λ y m. h y (Memᴰ.tail m)) first

-- "no state reached from a fresh engine is" outside the ranges: from empty on, the filter is not
pub reached_valid : (readings : List ℕ) → Readings readings → Valid (after_readings Empty readings)
reached_valid readings h = after_readings_valid Empty readings h empty_valid

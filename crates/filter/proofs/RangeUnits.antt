-- The range 0 to 16,382 in units of binary32, of which 1 has 2 ^ 149: a value in range and a reading are from 0 to `top` units,
-- and what is so is in range. Assumes nothing.
use mathlib.Core.Path.{◌≡◌, refl, sym, ap, ◌∙◌}
use mathlib.Core.Bool.{Bool, true, false, ◌||◌}
use Prim.Native.Nat.{ℕ, ◌*◌, ◌^◌, ◌≤◌, ◌<◌, zero-le}
use native.Mathlib.Nat.{le_trans, le_of_eq, lt_of_le_of_lt, zero-mul, mul-one, mul_right_comm, mul-le-mul_right}
use native.Mathlib.Nat.{eq_of_mul-eq-mul_right}
use lib.IntN.{ℤ, pos}
use lib.Dec.{T, eqb, eqb→eq, lit≤, lit<}
use lib.Pow.{pow_pos}
use lib.Ieee.{Float, nan, inf, fin, binary32, up, down, round, le, fits, of_int, of_bits}
use lib.Ieee.Fits.{down_pos, and_i, and_l, and_r}
use lib.Ieee.Exact.{HasValue}
use lib.Ieee.Back.{round_whole}
use lib.Ieee.Order.{le_of_values}
use lib.Ieee.Scale.{round_same, overflow}
use Rattle.filter.specs.Filter.{lowest, highest, as_f32, in_range, is_f32, Valid}
use Rattle.filter.specs.declared.Filter.TheVariants.{Running}
use Rattle.filter.proofs.Rounding.{InUnits, Held, order_of_le}
use Rattle.filter.proofs.HeldValues.{fits_units}

-- 1 and 16,382 in units
abbrev pub one : ℕ
one = 2 ^ 149

abbrev pub top : ℕ
top = 16382 * 2 ^ 149

pub twice_top : (a : ℕ) → a ≤ top → a * 2 < overflow binary32
twice_top a h = lt_of_le_of_lt (mul-le-mul_right 2 h) (lit< tt)

pub units_le : (x y : Float) (a b : ℕ) → InUnits binary32 false x a → InUnits binary32 false y b → a ≤ b → T (le x y)
units_le x y a b h k g = le_of_values x y a one b one (pow_pos 149) (pow_pos 149) h k (mul-le-mul_right one g)

-- ---- the ends of the range
lowest_is : lowest ≡ fin false 0 (pos 0)
unfolding of_bits
lowest_is = refl

highest_is : highest ≡ fin false 8191 (pos 1)
unfolding of_bits
highest_is = refl

lowest_units : InUnits binary32 false lowest 0
lowest_units = rw lowest_is (refl, refl)

highest_units : InUnits binary32 false highest top
highest_units = rw highest_is (refl, refl)

-- ---- a value in range
-- f is `size` units, and has a sign only as -0
pub record Measured (f : Float) : Type 0 where
  pub sign : Bool
  pub size : ℕ
  pub units : InUnits binary32 sign f size
  pub unsigned : T sign → size ≡ 0
  pub held : Held binary32 size
  pub most : size ≤ top

-- only -0 has a sign and is not below 0
only_zero : (m : ℕ) (e : ℤ) (A : ℕ) → InUnits binary32 true (fin true m e) A → T (le lowest (fin true m e)) → A ≡ 0
unfolding le
only_zero m e A h t = go (rw lowest_is at t)
  where
    go : T (le (fin false 0 (pos 0)) (fin true m e)) → A ≡ 0
    go t =
        let z = 0 * down e in
        let n = m * up e in
        let p : z ≡ n * 1 = eqb→eq z (n * 1) (and_l (eqb z (n * 1)) (false || eqb z 0) t) in
        let q : n ≡ 0 = sym (mul-one n) ∙ sym p ∙ zero-mul (down e) in
        let r : A * down e ≡ 0 * down e = sym h.1 ∙ ap (λ (k : ℕ). k * one) q ∙ zero-mul one ∙ sym (zero-mul (down e)) in
        eq_of_mul-eq-mul_right (down e) (down_pos e) A 0 r

within : (f : Float) → T (fits binary32 f) → T (le lowest f) → T (le f highest) → Measured f
unfolding le
within nan t lo hi = absurd hi
within (inf true) t lo hi = absurd (rw lowest_is at lo)
within (inf false) t lo hi = absurd (rw highest_is at hi)
within (fin true m e) t lo hi =
    let u = fits_units binary32 true m e t in
    let z : u.0 ≡ 0 = only_zero m e u.0 u.1 lo in
    let b : u.0 ≤ top = le_trans (le_of_eq z) zero-le in
    record { sign = true; size = u.0; units = u.1; unsigned = λ s. z; held = u.2 (lt_of_le_of_lt b (lit< tt)); most = b }
within (fin false m e) t lo hi =
    let u = fits_units binary32 false m e t in
    let b : u.0 ≤ top = order_of_le (fin false m e) highest u.0 top one (pow_pos 149) u.1 highest_units hi in
    record { sign = false; size = u.0; units = u.1; unsigned = λ s. absurd s; held = u.2 (lt_of_le_of_lt b (lit< tt)); most = b }

pub valid_measured : (f : Float) → Valid (Running f) → Measured f
unfolding is_f32 in_range
valid_measured f v =
    let lo : Bool = le lowest f in
    let hi : Bool = le f highest in
    within f v.f32 (and_l lo hi v.range) (and_r lo hi v.range)

-- ---- a reading
in_one : (x : Float) (n : ℕ) → HasValue x false n 1 → InUnits binary32 false x (n * one)
in_one nan n h = absurd h
in_one (inf s) n h = absurd h
in_one (fin s m e) n h = (h.0, ap (λ (z : ℕ). z * one) (sym (mul-one (m * up e)) ∙ h.1) ∙ mul_right_comm n (down e) one)

pub reading_units : (n : ℕ) → n ≤ 16382 → InUnits binary32 false (as_f32 n) (n * one)
unfolding of_int
reading_units n h = in_one (round binary32 false n 1) n (round_whole binary32 false n (le_trans h (lit≤ tt)))

pub reading_held : (n : ℕ) → n ≤ 16382 → Held binary32 (n * one)
unfolding of_int
reading_held n h =
    let e = round_same binary32 false n 1 (n * one) one (lit< tt) (pow_pos 149) (sym (mul-one (n * one))) in
    rw e at (reading_units n h)

-- ---- and back
pub measured_valid : (z : Float) (w : ℕ) → T (fits binary32 z) → InUnits binary32 false z w → w ≤ top → Valid (Running z)
unfolding is_f32 in_range
measured_valid z w t h b =
    let lo : T (le lowest z) = units_le lowest z 0 w lowest_units h zero-le in
    let hi : T (le z highest) = units_le z highest w top h highest_units b in
    record { f32 = t; range = and_i (le lowest z) (le z highest) lo hi }

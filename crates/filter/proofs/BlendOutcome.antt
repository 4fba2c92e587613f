-- What F + (x - F) × 0.25 gives for an F in range and a reading x: a value in range, between the two.
-- Assumes nothing.
use mathlib.Core.Path.{◌≡◌, refl, sym, ◌∙◌, subst}
use mathlib.Core.Logic.{inl, inr}
use mathlib.Core.Bool.{Bool, true, false, not, ◌&&◌, ◌||◌, true≢false, false≢true}
use Prim.Native.Nat.{ℕ, zero, suc, ◌+◌, ◌*◌, ◌≤◌, ◌<◌}
use native.Mathlib.Nat.{le_trans, mul-le-mul_right, zero-lt-suc, zero-mul, zero-add, eq_of_mul-eq-mul_right}
use native.Mathlib.Omega.{arith}
use borrow.Author.Tests.{lt-ltb}
use lib.Dec.{T, ltb, eqb, ltb→lt, nltb→le}
use lib.Pow.{pow_pos}
use lib.Ieee.{Float, nan, inf, fin, binary32, up, down, le, of_bits}
use Rattle.filter.specs.Filter.{as_f32, blend, Between, Valid}
use Rattle.filter.specs.declared.Filter.TheVariants.{Running}
use Rattle.filter.proofs.Rounding.{InUnits, Held}
use Rattle.filter.proofs.Step.{step, step_up, step_down}
use Rattle.filter.proofs.RangeUnits.{one, top, twice_top, units_le, Measured, valid_measured, reading_units, reading_held}

-- `blend` is the step of binary32, with 0.25 written as the value that its bits are
blend_is : (f x : Float) → blend f x ≡ step binary32 f x
unfolding blend of_bits
blend_is f x = refl

-- -0 is at most a value that has no sign
minus_zero_le : (y z : Float) (w : ℕ) → InUnits binary32 true y 0 → InUnits binary32 false z w → T (le y z)
unfolding le
minus_zero_le nan z w h k = absurd h
minus_zero_le (inf s) z w h k = absurd h
minus_zero_le (fin s m e) nan w h k = absurd k
minus_zero_le (fin s m e) (inf t) w h k = absurd k
minus_zero_le (fin false m e) (fin t n d) w h k = absurd (false≢true h.0)
minus_zero_le (fin true m e) (fin true n d) w h k = absurd (true≢false k.0)
minus_zero_le (fin true m e) (fin false n d) w h k =
    let p = m * up e in
    let z : p ≡ 0 = eq_of_mul-eq-mul_right one (pow_pos 149) p 0 (h.1 ∙ zero-mul (down e) ∙ sym (zero-mul one)) in
    rw (z, zero-mul) (go (n * up d * down e))
  where
    go : (b : ℕ) → T (ltb 0 (0 + b) || (eqb 0 b && (false || eqb 0 0)))
    go zero = tt
    go (suc b) = rw (zero-add, lt-ltb 0 (suc b) (zero-lt-suc b)) tt

-- an F of A units, -0 included, is at most a value of w units
signed_le : (s : Bool) (y z : Float) (A w : ℕ) → InUnits binary32 s y A → (T s → A ≡ 0)
    → InUnits binary32 false z w → A ≤ w → T (le y z)
signed_le false y z A w h u k g = units_le y z A w h k g
signed_le true y z A w h u k g = minus_zero_le y z w (subst (λ (n : ℕ). InUnits binary32 true y n) (u tt) h) k

-- what a step gives: a value of at most 16,382 in units, between F and x
pub record Outcome (f x : Float) : Type 0 where
  pub size : ℕ
  pub units : InUnits binary32 false (blend f x) size
  pub most : size ≤ top
  pub between : Between f x (blend f x)

upward : (f x : Float) (X : ℕ) → InUnits binary32 false x X → Held binary32 X → X ≤ top
    → (m : Measured f) → m.size ≤ X → Outcome f x
unfolding Between
upward f x X h k b m g =
    let r = step_up binary32 m.sign f x m.size X m.units m.unsigned h m.held k (twice_top X b) g in
    let v : InUnits binary32 false (blend f x) r.0 = rw blend_is r.1 in
    let lo : T (le f (blend f x)) = signed_le m.sign f (blend f x) m.size r.0 m.units m.unsigned v r.2 in
    let hi : T (le (blend f x) x) = units_le (blend f x) x r.0 X v h r.3 in
    record { size = r.0; units = v; most = le_trans r.3 b; between = inl (lo, hi) }

-- F is above x here, so it is no -0
downward : (f x : Float) (X : ℕ) → InUnits binary32 false x X → Held binary32 X
    → (m : Measured f) → X < m.size → Outcome f x
unfolding Between
downward f x X h k m g = go m.sign m.units m.unsigned
  where
    go : (s : Bool) → InUnits binary32 s f m.size → (T s → m.size ≡ 0) → Outcome f x
    go true u z =
        let e : m.size ≡ 0 = z tt in
        absurd (omega arith)
    go false u z =
        let r = step_down binary32 f x m.size X u h m.held k (twice_top m.size m.most) g in
        let v : InUnits binary32 false (blend f x) r.0 = rw blend_is r.1 in
        let lo : T (le x (blend f x)) = units_le x (blend f x) X r.0 h v r.2 in
        let hi : T (le (blend f x) f) = units_le (blend f x) f r.0 m.size v u r.3 in
        record { size = r.0; units = v; most = le_trans r.3 m.most; between = inr (lo, hi) }

pub blend_outcome : (f : Float) (x : ℕ) → Valid (Running f) → x ≤ 16382 → Outcome f (as_f32 x)
blend_outcome f x v h = go (ltb X m.size) (ltb→lt X m.size) (nltb→le X m.size)
  where
    X : ℕ
    X = x * one

    m : Measured f
    m = valid_measured f v

    go : (b : Bool) → (T b → X < m.size) → (T (not b) → m.size ≤ X) → Outcome f (as_f32 x)
    go true d u = downward f (as_f32 x) X (reading_units x h) (reading_held x h) m (d tt)
    go false d u = upward f (as_f32 x) X (reading_units x h) (reading_held x h) (mul-le-mul_right one h) m (u tt)

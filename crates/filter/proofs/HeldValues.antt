-- A finite value that fits a format is a whole number of its units, and the format holds that number.
-- Assumes nothing.
use mathlib.Core.Path.{◌≡◌, refl, sym, ap, ◌∙◌}
use mathlib.Core.Bool.{Bool, false, ◌&&◌}
use Prim.Native.Nat.{ℕ, zero, suc, ◌+◌, ◌-◌, ◌*◌, ◌%◌, ◌^◌, ◌≤◌, ◌<◌}
use native.Mathlib.Nat.{le_of_suc-le-suc, lt_of_not-le, not-le_of_lt, zero-mul, mul-one, mul_assoc}
use lib.IntN.{ℤ, pos, negsuc}
use lib.Dec.{T, leb, ltb, eqb, ltb→lt, leb→le}
use lib.Pow.{pow_pos, pow-add, pow-lt}
use lib.Ieee.{fin, Format, prec, emax, low, up, down, fits}
use lib.Ieee.Fits.{and_l, and_r}
use lib.Ieee.Exact.{round_exact}
use lib.Ieee.Digits.{back}
use lib.Ieee.Scale.{overflow}
use Rattle.filter.proofs.Rounding.{InUnits, Held}

exponent_le : (i j : ℕ) → 2 ^ i ≤ 2 ^ j → i ≤ j
exponent_le i j h = le_of_suc-le-suc (lt_of_not-le (λ (g : suc j ≤ i). not-le_of_lt (pow-lt g) h))

-- m × 2 ^ e is m × 2 ^ j units
shifted : (f : Format) (m : ℕ) (e : ℤ) → down e ≤ 2 ^ low f → (j : ℕ) × (m * up e * 2 ^ low f ≡ m * 2 ^ j * down e)
shifted f m (pos k) h = (k + low f, rw (pow-add, mul-one) (mul_assoc m (2 ^ k) (2 ^ low f)))
shifted f m (negsuc k) h =
    let j = low f - suc k in
    let e : j + suc k ≡ low f = back (low f) (suc k) (exponent_le (suc k) (low f) h) in
    let p : 2 ^ low f ≡ 2 ^ j * 2 ^ suc k = ap (λ (z : ℕ). 2 ^ z) (sym e) ∙ pow-add 2 j (suc k) in
    let q : m * 1 * 2 ^ low f ≡ m * 2 ^ j * 2 ^ suc k = rw (mul-one, p) (sym (mul_assoc m (2 ^ j) (2 ^ suc k))) in
    (j, q)

held : (f : Format) (m j : ℕ) → m < 2 ^ prec f → m * 2 ^ j < overflow f → Held f (m * 2 ^ j)
held f m j s o = round_exact f false (m * 2 ^ j) (2 ^ low f) m j (pow_pos (low f)) s o refl

pub fits_units : (f : Format) (s : Bool) (m : ℕ) (e : ℤ) → T (fits f (fin s m e))
    → (A : ℕ) × InUnits f s (fin s m e) A × (A < overflow f → Held f A)
unfolding fits
fits_units f s zero e t = (0 * 2 ^ 0, (refl, simp zero-mul), held f 0 0 (pow_pos (prec f)))
fits_units f s (suc m) e t =
    let a : Bool = eqb (suc m % 2) 1 in
    let b : Bool = ltb (suc m) (2 ^ prec f) in
    let c : Bool = leb (down e) (2 ^ low f) in
    let d : Bool = ltb (suc m * up e) (2 ^ suc (emax f) * down e) in
    let u = and_l (a && b && c) d t in
    let k = shifted f (suc m) e (leb→le (down e) (2 ^ low f) (and_r (a && b) c u)) in
    (suc m * 2 ^ k.0, (refl, k.1), held f (suc m) k.0 (ltb→lt (suc m) (2 ^ prec f) (and_r a b (and_l (a && b) c u))))

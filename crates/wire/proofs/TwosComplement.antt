-- The 32-bit two's complement number in both directions, as `signed` and `unsigned` compute it.
-- Assumes nothing.
use mathlib.Core.Path.{◌≡◌, refl, sym, ap, ◌∙◌}
use mathlib.Core.Bool.{true, false}
use Prim.Native.Nat.{ℕ, zero, suc, ◌-◌, ◌≤◌, ◌<◌, ◌^◌}
use native.Mathlib.Nat.{zero-add}
use native.Mathlib.Omega.{arith}
use borrow.Author.Tests.{le-ltb}
use lib.Dec.{T, leb-suc-zero}
use lib.IntN.{ℤ, pos, negsuc, nat_abs, ◌-ℤ◌}
use lib.Signed.{mag, lt_z, non_neg}
use mir.Syntax.{w32}
use mir.Val.{to_z, of_z, SFits, sel}
use mir.Facts.{to_z_pos, to_z-of_z}

-- a signed number is what its bits are read as
pub signed_again : (z : ℤ) → SFits w32 z → to_z w32 (of_z w32 z) ≡ z
signed_again z f = to_z-of_z {w = w32} {z = z} f

minus_one_less : (k : ℕ) → negsuc 0 -ℤ pos k ≡ negsuc k
minus_one_less zero = refl
minus_one_less (suc n) = ap (λ (m : ℕ). negsuc (suc m)) (zero-add n)

-- bits of the upper half: -1 - (2^32 - 1 - u)
pub upper_half : (u : ℕ) → 2147483648 ≤ u → u < 2 ^ 32 → negsuc 0 -ℤ to_z w32 (4294967295 - u) ≡ to_z w32 u
upper_half u h k =
    ap (λ (z : ℤ). negsuc 0 -ℤ z) (to_z_pos w32 {n = 4294967295 - u} (omega arith))
    ∙ minus_one_less (4294967295 - u)
    ∙ ap negsuc (omega arith)
    ∙ sym (ap (λ b. sel b (pos u) (negsuc (4294967296 - suc u))) (le-ltb u 2147483648 h))

-- no number is both below zero and not
pub not_negative : {A : Type 0} (n : ℕ) → lt_z (pos n) (pos 0) ≡ true → A
not_negative n t =
    let e : true ≡ false = sym t ∙ leb-suc-zero n in
    let z : ◌≡◌ {A = ℕ} 0 1 = cc in
    absurd (omega arith)

-- -1 - z of a negative z, and the bits of that
flipped : (z : ℤ) → lt_z z (pos 0) ≡ true → negsuc 0 -ℤ z ≡ pos (mag z)
flipped (pos n) t = not_negative n t
flipped (negsuc n) t = simp (le-ltb (suc n) 1 (omega arith)) (ap pos (omega arith))

pub flipped_bits : (z : ℤ) → SFits w32 z → lt_z (to_z w32 (of_z w32 z)) (pos 0) ≡ true → negsuc 0 -ℤ to_z w32 (of_z w32 z) ≡ pos (mag z)
flipped_bits z f t = rw (signed_again z f) (flipped z (rw (signed_again z f) at t))

pub flipped_again : (z : ℤ) → SFits w32 z → lt_z (to_z w32 (of_z w32 z)) (pos 0) ≡ true
    → to_z w32 (of_z w32 (negsuc 0 -ℤ to_z w32 (of_z w32 z))) ≡ pos (mag z)
flipped_again z f t = ap (λ (y : ℤ). to_z w32 (of_z w32 y)) (flipped_bits z f t) ∙ to_z_pos w32 {n = mag z} f.sfits

pub bits_below_zero : (z : ℤ) → SFits w32 z → lt_z z (pos 0) ≡ true → 4294967295 - mag z ≡ of_z w32 z
bits_below_zero (pos n) f t = not_negative n t
bits_below_zero (negsuc n) f t = omega arith

pub bits_from_zero : (z : ℤ) → lt_z z (pos 0) ≡ false → (T (non_neg z)) × (nat_abs z ≡ of_z w32 z)
bits_from_zero (pos n) t = (tt, refl)
bits_from_zero (negsuc n) t = let y : ◌≡◌ {A = ℕ} 0 1 = cc in absurd (omega arith)

-- Answers as 32-bit numbers: counts, and refusal numbers below zero.
-- Assumes nothing.
use mathlib.Core.Path.{◌≡◌, refl, ap, ◌∙◌}
use Prim.Native.Nat.{ℕ, zero, suc, ◌≤◌, ◌<◌}
use native.Mathlib.Omega.{arith}
use lib.IntN.{ℤ, pos, neg_ℤ, ◌-ℤ◌, +ℤ_idl}
use mir.Syntax.{w32}
use mir.Val.{to_z, of_z, SFits}
use mir.Facts.{to_z_pos, to_z-of_z}
use Rattle.std.specs.Prelude.{Ok, Err}
use Rattle.wire.specs.Outcome.{number_of, Answer, answered, given_count}
use Rattle.wire.specs.declared.Refusal.{Refusal}
use Rattle.capi.specs.Imaged.{answer_number}

minus_fits : (n : ℕ) → n < 256 → SFits w32 (neg_ℤ (pos n))
minus_fits zero h = record { sfits = omega arith }
minus_fits (suc n) h = record { sfits = omega arith }

minus_is : (n : ℕ) → pos 0 -ℤ pos n ≡ neg_ℤ (pos n)
minus_is n = +ℤ_idl (neg_ℤ (pos n))

-- 0 - n of the byte n fits, and is -n
pub minus_ok : (n : ℕ) → n < 256 → SFits w32 (pos 0 -ℤ to_z w32 n)
minus_ok n h = rw (to_z_pos w32 {n = n} (omega arith), minus_is n) (minus_fits n h)

pub minus_byte : (n : ℕ) → n < 256 → to_z w32 (of_z w32 (pos 0 -ℤ to_z w32 n)) ≡ neg_ℤ (pos n)
minus_byte n h =
    ap (λ (z : ℤ). to_z w32 (of_z w32 (pos 0 -ℤ z))) (to_z_pos w32 {n = n} (omega arith))
    ∙ ap (λ (z : ℤ). to_z w32 (of_z w32 z)) (minus_is n)
    ∙ to_z-of_z {w = w32} {z = neg_ℤ (pos n)} (minus_fits n h)

-- a 32-bit number that a call gave
pub again : (z y : ℤ) → SFits w32 z → z ≡ y → to_z w32 (of_z w32 z) ≡ y
again z y f e = to_z-of_z {w = w32} {z = z} f ∙ e

module _ (a : Answer) where
  module _ (n : ℕ) (e : a ≡ Ok n) (few : given_count a ≤ 50) where
    small : n ≤ 50
    unfolding given_count
    small = rw e at few

    pub given_fits : SFits w32 (pos n)
    given_fits = let h = small in record { sfits = omega arith }

    pub given_number : to_z w32 n ≡ answer_number (answered a)
    unfolding answer_number answered
    given_number = let h = small in to_z_pos w32 {n = n} (omega arith) ∙ rw e refl

  pub refused_number : (r : Refusal) (z : ℤ) → a ≡ Err r → SFits w32 z → z ≡ neg_ℤ (pos (number_of r)) → to_z w32 (of_z w32 z) ≡ answer_number (answered a)
  unfolding answer_number answered
  refused_number r z e f g = again z (neg_ℤ (pos (number_of r))) f g ∙ rw e refl

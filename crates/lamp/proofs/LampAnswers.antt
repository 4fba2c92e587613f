-- The lamp's three answers keep its promise.
-- Assumes nothing.
use mathlib.Core.Path.{◌≡◌, refl}
use mathlib.Core.Bool.{Bool, true, false, not, ◌&&◌}
use mathlib.Core.Logic.{◌⊎◌, ⊎_elim}
use Prim.Native.Nat.{ℕ}
use native.Mathlib.Omega.{arith}
use lib.Ieee.{Float, nan, inf, fin, binary32, of_bits, is_nan, le, lt, eq, div}
use lib.Ieee.Fits.{and_l, and_r}
use Rattle.std.specs.Prelude.{T}
use Rattle.std.specs.Float.{float_is_finite}
use Rattle.std.proofs.lemmas.Float.{T_from_true, T_from_false, le_right, le_of_not-lt}
use Rattle.lamp.specs.declared.Approach.{Approach}
use Rattle.lamp.specs.declared.Lamp.TheVariants.{Unknown, Standing, Seconds}
use Rattle.lamp.specs.Lamp.{lowest, one, farthest, fastest, in_range, is_standing, lamp_of}
use Rattle.lamp.specs.Promise.{Divides, Answers}
use Rattle.lamp.proofs.ExamplesHold.{lamp_examples_hold}

-- what lies between 0 and a finite number is finite
finite : (x high : Float) → T (float_is_finite high) → T (le lowest x) → T (le x high) → T (float_is_finite x)
unfolding float_is_finite le lt eq of_bits
finite nan high f low up = absurd low
finite (inf true) high f low up = absurd low
finite (inf false) nan f low up = absurd f
finite (inf false) (inf s) f low up = absurd f
finite (inf false) (fin s m e) f low up = absurd up
finite (fin s m e) high f low up = tt

contradicts : (b : Bool) → T b → T (not b) → ⊥
contradicts true t f = f
contradicts false t f = t

-- the four bounds
record Bounds (a : Approach) : Type 0 where
  gap : T (le lowest a.gap) × T (le a.gap farthest)
  speed : T (le lowest a.speed) × T (le a.speed fastest)

bounds : (a : Approach) → in_range a ≡ true → Bounds a
unfolding in_range
bounds a h =
    let all = T_from_true (in_range a) h in
    let three = and_l (le lowest a.gap && le a.gap farthest && le lowest a.speed) (le a.speed fastest) all in
    let two = and_l (le lowest a.gap && le a.gap farthest) (le lowest a.speed) three in
    record {
      gap = (and_l (le lowest a.gap) (le a.gap farthest) two, and_r (le lowest a.gap) (le a.gap farthest) two);
      speed = (and_r (le lowest a.gap && le a.gap farthest) (le lowest a.speed) three, and_r (le lowest a.gap && le a.gap farthest && le lowest a.speed) (le a.speed fastest) all);
    }

farthest_finite : T (float_is_finite farthest)
unfolding float_is_finite of_bits
farthest_finite = tt

fastest_finite : T (float_is_finite fastest)
unfolding float_is_finite of_bits
fastest_finite = tt

-- in the ranges, both numbers are finite
both_finite : (a : Approach) → Bounds a → T (not (float_is_finite a.gap)) ⊎ T (not (float_is_finite a.speed)) → ⊥
both_finite a b =
    ⊎_elim
    (contradicts (float_is_finite a.gap) (finite a.gap farthest farthest_finite b.gap.0 b.gap.1))
    (contradicts (float_is_finite a.speed) (finite a.speed fastest fastest_finite b.speed.0 b.speed.1))

module _ (a : Approach) where
  pub unknown_answers : in_range a ≡ false → Answers a Unknown
  unfolding lamp_of
  unknown_answers h = record {
    lamp = rw h refl;
    unknown = λ _. refl;
    divides = λ s e. let z : ◌≡◌ {A = ℕ} 0 1 = cc in absurd (omega arith);
    examples = lamp_examples_hold;
  }

  pub standing_answers : in_range a ≡ true → lt a.speed one ≡ true → Answers a Standing
  unfolding lamp_of is_standing
  standing_answers h low = record {
    lamp = rw (h, low) refl;
    unknown = λ f. absurd (both_finite a (bounds a h) f);
    divides = λ s e. let z : ◌≡◌ {A = ℕ} 0 1 = cc in absurd (omega arith);
    examples = lamp_examples_hold;
  }

  module _ (h : in_range a ≡ true) (high : lt a.speed one ≡ false) where
    pub made_in_range : Divides a
    unfolding is_nan of_bits
    made_in_range =
        let b = bounds a h in
        record {
          gap = b.gap;
          speed = (le_of_not-lt a.speed one (le_right lowest a.speed b.speed.0) tt (T_from_false (lt a.speed one) high), b.speed.1);
        }

    pub seconds_answers : (s : Float) → s ≡ div binary32 a.gap a.speed → Answers a (Seconds s)
    unfolding lamp_of is_standing
    seconds_answers s e = record {
      lamp = rw (h, high, e) refl;
      unknown = λ f. absurd (both_finite a (bounds a h) f);
      divides = λ _ _. made_in_range;
      examples = lamp_examples_hold;
    }

-- What `Approach::lamp` promises.
-- Assumes nothing.
use Rattle.std.specs.Prelude.{◌≡◌, ◌⊎◌, not, T, Float}
use Rattle.std.specs.Float.{float_is_finite}
use Rattle.std.specs.Float.Ieee.{le}
use Rattle.lamp.specs.declared.Approach.{Approach}
use Rattle.lamp.specs.declared.Lamp.{Lamp}
use Rattle.lamp.specs.declared.Lamp.TheVariants.{Unknown, Seconds}
use Rattle.lamp.specs.Lamp.{lowest, one, farthest, fastest, lamp_of}
use Rattle.lamp.specs.Examples.{LampExamples}

-- where the division is made: in the ranges alone, and by no number below 1
pub record Divides (a : Approach) : Type 0 where
  pub gap : T (le lowest a.gap) × T (le a.gap farthest)
  pub speed : T (le one a.speed) × T (le a.speed fastest)

-- the lamp is the definition's, whose examples hold
pub record Answers (a : Approach) (r : Lamp) : Type 0 where
  pub lamp : r ≡ lamp_of a
  -- a NaN and an infinity lie in neither range
  pub unknown : T (not (float_is_finite a.gap)) ⊎ T (not (float_is_finite a.speed)) → r ≡ Unknown
  pub divides : (s : Float) → r ≡ Seconds s → Divides a
  pub examples : LampExamples

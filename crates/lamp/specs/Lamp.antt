-- The driver's lamp, after change request CR 4.
-- Definitions only. They rest on the kit's account of binary32, `lib.Ieee`, where the division rounds once.
use Rattle.std.specs.Prelude.{Bool, not, ◌&&◌, cond, Float}
use Rattle.std.specs.Float.{binary32}
use Rattle.std.specs.Float.Ieee.{of_bits, le, lt, div}
use Rattle.lamp.specs.declared.Approach.{Approach}
use Rattle.lamp.specs.declared.Lamp.{Lamp}
use Rattle.lamp.specs.declared.Lamp.TheVariants.{Unknown, Standing, Seconds}

-- 0.0
abbrev pub lowest : Float
lowest = of_bits binary32 0

-- 1.0
abbrev pub one : Float
one = of_bits binary32 0x3f800000

-- 200000.0
abbrev pub farthest : Float
farthest = of_bits binary32 0x48435000

-- 16383.0
abbrev pub fastest : Float
fastest = of_bits binary32 0x467ffc00

-- "the gap is 0 to 200,000 and F 0 to 16,383"
unfoldable pub in_range : Approach → Bool
in_range a = le lowest a.gap && le a.gap farthest && le lowest a.speed && le a.speed fastest

-- "F below 1"
unfoldable pub is_standing : Approach → Bool
is_standing a = lt a.speed one

-- "The answer is 'unknown' unless the gap is 0 to 200,000 and F 0 to 16,383; else 'standing' for F below 1."; else "gap in cm divided by the speed F, rounded once"
unfoldable pub lamp_of : Approach → Lamp
lamp_of a = cond (not (in_range a)) Unknown (cond (is_standing a) Standing (Seconds (div binary32 a.gap a.speed)))

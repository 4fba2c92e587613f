-- The examples of the lamp hold, computed.
-- Assumes nothing.
use mathlib.Core.Path.{refl}
use lib.Ieee.{of_bits, le, lt, div}
use Rattle.lamp.specs.Lamp.{in_range, is_standing, lamp_of}
use Rattle.lamp.specs.Examples.{LampExamples}

pub lamp_examples_hold : LampExamples
unfolding of_bits le lt div in_range is_standing lamp_of
lamp_examples_hold = record { divided = refl; gaps = refl; speeds = refl; ranges_first = refl }

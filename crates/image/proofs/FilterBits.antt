-- The bits of a filter's value, with a NaN's apart: they are those whose value is a NaN.
-- Assumes nothing.
use Rattle.std.proofs.Common.{◌≡◌, ℕ, ◌/◌, ◌%◌, Bool, not, ◌&&◌, refl, eqb, is_nan, from_bits}
use Rattle.std.specs.Float.{binary32}
use lib.Ieee.{nan_bits}
use lib.Ieee.Bits.{nan_bits_is}

abbrev nan_test : ℕ → Bool
nan_test bits = eqb (bits % 2147483648 / 8388608) 255 && not (eqb (bits % 8388608) 0)

nan_test_lem : (bits : ℕ) → nan_bits binary32 bits ≡ nan_test bits
unfolding nan_bits
nan_test_lem bits = refl

pub value_is_nan : (bits : ℕ) → nan_bits binary32 bits ≡ is_nan (from_bits binary32 bits)
value_is_nan bits = nan_bits_is binary32 bits

-- The bits of a value, with a NaN's apart: a program reads the bits of other values only. And the value at which readings of 0 let the filter rest.
-- Assumes nothing.
use mathlib.Core.Path.{◌≡◌, refl, sym, subst, ap, ◌∙◌}
use mathlib.Core.Bool.{true}
use Prim.Native.Nat.{ℕ}
use native.Mathlib.Omega.{arith}
use lib.Dec.{T}
use lib.Ieee.{Float, nan, inf, fin, binary32, of_bits, to_bits, of_int, add, sub, mul, is_nan, fits}
use lib.Ieee.Bits.{of_bits-to_bits}
use Rattle.filter.specs.Filter.{as_f32, blend}

-- all NaNs have one pattern
pub nan_bits : (f : Float) → is_nan f ≡ true → 2143289344 ≡ to_bits binary32 f
unfolding to_bits is_nan
nan_bits nan e = refl
nan_bits (inf s) e = let z : ◌≡◌ {A = ℕ} 0 1 = cc in absurd (omega arith)
nan_bits (fin s m f) e = let z : ◌≡◌ {A = ℕ} 0 1 = cc in absurd (omega arith)

-- twice the smallest number moves a quarter of the way to 0, which is half the smallest number, and so rounds back to itself
at_rest : blend (of_bits binary32 2) (as_f32 0) ≡ of_bits binary32 2
unfolding blend of_bits of_int add sub mul
at_rest = refl

pub rests : (f : Float) (reading : ℕ) → fits binary32 f ≡ true → reading ≡ 0 → to_bits binary32 f ≡ 2 → f ≡ blend f (as_f32 reading)
rests f reading h e b =
    let is : of_bits binary32 2 ≡ f = ap (of_bits binary32) (sym b) ∙ of_bits-to_bits binary32 f (subst T (sym h) tt) in
    rw (e, ← is) (sym at_rest)

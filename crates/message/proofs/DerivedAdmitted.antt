-- The roadType of any road and the validity of any warning are values that refusal 14 lets pass.
-- Assumes nothing.
use mathlib.Core.Path.{refl}
use mathlib.Core.Bool.{Bool, true, false, ◌||◌, cond, or-true}
use Prim.Native.Nat.{ℕ}
use borrow.Author.Tests.{eq-eqb}
use lib.Dec.{T, leb, eqb}
use Rattle.warnings.specs.Warnings.{validity_of, road_type_of}

-- "roadType: 0 .., 1 .., 2 .., 3 .., and 255 (omitted)"
pub road_type_admitted : (road : ℕ) → T (leb (road_type_of road) 3 || eqb (road_type_of road) 255)
unfolding road_type_of
road_type_admitted road = go (eqb road 1 || eqb road 3) (eqb road 2) (eqb road 4 || eqb road 6) (eqb road 5)
  where
    go : (a b c d : Bool)
        → T (leb (cond a 0 (cond b 1 (cond c 2 (cond d 3 255)))) 3 || eqb (cond a 0 (cond b 1 (cond c 2 (cond d 3 255)))) 255)
    go true b c d = tt
    go false true c d = tt
    go false false true d = tt
    go false false false true = tt
    go false false false false = tt

-- "validity not of its warning" is not so, with ignition on or off
pub validity_admitted : (warning : ℕ) (ignition : Bool)
    → T (eqb (validity_of warning ignition) (validity_of warning true) || eqb (validity_of warning ignition) (validity_of warning false))
validity_admitted warning true = rw (eq-eqb (validity_of warning true) (validity_of warning true) refl) tt
validity_admitted warning false = rw (eq-eqb (validity_of warning false) (validity_of warning false) refl, or-true) tt

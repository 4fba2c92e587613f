-- A list of tests that all hold, in both directions.
-- Assumes nothing.
use mathlib.Core.Path.{◌≡◌, refl, sym, subst}
use mathlib.Core.Bool.{Bool, true, false, not, ◌&&◌, ◌||◌}
use mathlib.Core.List.{List, [], ◌∷◌, foldl}
use Prim.Native.Nat.{ℕ, zero, suc}
use native.Mathlib.Omega.{arith}
use borrow.Author.Tests.{eqb-true}
use lib.Dec.{T, eqb}
use lib.Ieee.Fits.{and_i, and_l, and_r}
use lib.ListN.{get_or}
use Rattle.wire.specs.Tests.{all_hold}

-- a test that holds is true, and back
pub holds_true : (b : Bool) → T b → b ≡ true
holds_true true t = refl
holds_true false t = absurd t

pub true_holds : (b : Bool) → b ≡ true → T b
true_holds b e = rw e tt

-- both of two tests hold
pub both_true : (a b : Bool) → a && b ≡ true → (a ≡ true) × (b ≡ true)
both_true true b e = (refl, e)
both_true false b e = let z : ◌≡◌ {A = ℕ} 0 1 = cc in absurd (omega arith)

-- neither of two tests holds
pub neither : (a b : Bool) → T (not (a || b)) → T (not a) × T (not b)
neither true b t = absurd t
neither false b t = (tt, t)

-- what holds of either of two numbers holds of one that is one of them
pub one_of : (P : ℕ → Type 0) (v a b : ℕ) → P a → P b → T (eqb v a || eqb v b) → P v
one_of P v a b h k t = go (eqb v a) (eqb v b) refl refl t
  where
    go : (x y : Bool) → eqb v a ≡ x → eqb v b ≡ y → T (x || y) → P v
    go true y e f u = subst P (sym (eqb-true v a e)) h
    go false true e f u = subst P (sym (eqb-true v b f)) k
    go false false e f u = absurd u

-- each test, one by one
abbrev pub Each : List Bool → Type 0
Each [] = Unit {0}
Each (b ∷ bs) = T b × Each bs

first_held : (a : Bool) (bs : List Bool) → T (foldl ◌&&◌ a bs) → T a
first_held a [] t = t
first_held a (b ∷ bs) t = and_l a b (first_held (a && b) bs t)

rest_held : (a : Bool) (bs : List Bool) → T (foldl ◌&&◌ a bs) → (k : ℕ) → T (get_or bs k true)
rest_held a [] t k = tt
rest_held a (b ∷ bs) t zero = and_r a b (first_held (a && b) bs t)
rest_held a (b ∷ bs) t (suc k) = rest_held (a && b) bs t k

each_held : (a : Bool) (bs : List Bool) → T a → Each bs → T (foldl ◌&&◌ a bs)
each_held a [] t e = t
each_held a (b ∷ bs) t e = each_held (a && b) bs (and_i a b t e.0) e.1

-- all hold, so the one at place k does
pub holds_at : (bs : List Bool) → T (all_hold bs) → (k : ℕ) → T (get_or bs k true)
unfolding all_hold
holds_at bs t k = rest_held true bs t k

-- each holds, so all do
pub holds_all : (bs : List Bool) → Each bs → T (all_hold bs)
unfolding all_hold
holds_all bs e = each_held true bs tt e

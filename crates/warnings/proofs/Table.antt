-- The table per warning: its rule, proved over all rows, and its laws by each warning in turn and for every other number.
-- Assumes nothing.
use mathlib.Core.Path.{◌≡◌, refl, sym}
use mathlib.Core.Logic.{inl, inr}
use mathlib.Core.Bool.{Bool, true, false, ◌&&◌, ◌||◌}
use mathlib.Core.List.Memᴰ
use mathlib.Core.List.{List, [], ◌∷◌, map, Memᴰ}
use Prim.Native.Nat.{ℕ, zero, suc, ◌+◌, ◌-◌, ◌≤◌, ◌<◌}
use native.Mathlib.Omega.{arith}
use borrow.Author.Tests.{eqb-true, eqb-false, leb-true, leb-false}
use lib.Dec.{T, leb, ltb, eqb, ltb→lt}
use lib.Ieee.Fits.{and_l, and_r}
use lib.ListN.{length, get_or, get_or-eq_default}
use Rattle.std.specs.List.{range_with_len}
use Rattle.std.proofs.lemmas.List.FromFn.{get_or-map-range_with_len}
use Rattle.warnings.specs.Warnings.{warning_count, by_rank, by_warning, row_of, validity_of}
use Rattle.warnings.specs.declared.Row.{Row}

-- ---- the warnings, one by one

-- a test passes for each number from 1 to n
abbrev pub up_to : (ℕ → Bool) → ℕ → Bool
up_to f zero = true
up_to f (suc n) = up_to f n && f (suc n)

up_to_at : (f : ℕ → Bool) (n : ℕ) → T (up_to f n) → (w : ℕ) → 1 ≤ w → w ≤ n → T (f w)
up_to_at f zero t w low high = absurd (omega arith)
up_to_at f (suc n) t w low high = go (eqb w (suc n)) refl (up_to_at f n (and_l (up_to f n) (f (suc n)) t) w low)
  where
    go : (b : Bool) → eqb w (suc n) ≡ b → (w ≤ n → T (f w)) → T (f w)
    go true e before = rw (eqb-true w (suc n) e) (and_r (up_to f n) (f (suc n)) t)
    go false e before = let other = eqb-false w (suc n) e in before (omega (arith, other))

-- a test that is computed for each warning is passed by any
pub each_passes : (f : ℕ → Bool) → T (up_to f warning_count) → (w : ℕ) → 1 ≤ w → w ≤ warning_count → T (f w)
each_passes f t w low high = up_to_at f warning_count t w low high

-- ---- a column

-- a number that is no warning has 0
no_warning_lem : (column : List ℕ) (w : ℕ) → (1 ≤ w → length column < w) → by_warning column w ≡ 0
no_warning_lem column zero h = refl
no_warning_lem column (suc w) h = let l = h (omega arith) in get_or-eq_default column 0 {n = w} (omega arith)

-- a test that each entry of a list passes
abbrev pub every : (ℕ → Bool) → List ℕ → Bool
every f [] = true
every f (x ∷ xs) = f x && every f xs

at_any : (f : ℕ → Bool) (xs : List ℕ) (k : ℕ) → T (f 0) → T (every f xs) → T (f (get_or xs k 0))
at_any f [] k z t = z
at_any f (x ∷ xs) zero z t = and_l (f x) (every f xs) t
at_any f (x ∷ xs) (suc k) z t = at_any f xs k z (and_r (f x) (every f xs) t)

-- a test that 0 and each entry of a column pass is passed at every number
pub any_number : (f : ℕ → Bool) (column : List ℕ) (w : ℕ) → T (every f (0 ∷ column)) → T (f (by_warning column w))
any_number f column w t = at_any f (0 ∷ column) w (and_l (f 0) (every f column) t) t

-- ---- the rows

-- the table that the code has, row by row: the rows of the warnings
unfoldable pub rows : List Row
rows = map row_of (range_with_len 1 warning_count)

abbrev pub no_row : Row
no_row = row_of 0

-- the rule: row w - 1 is that of warning w
pub row_of_warning : (w : ℕ) → 1 ≤ w → w ≤ warning_count → get_or rows (w - 1) no_row ≡ row_of w
unfolding rows
row_of_warning w low high = get_or-map-range_with_len row_of 1 warning_count (w - 1) w no_row (omega arith) (omega arith)

-- the row of a number that is no warning
pub no_row_lem : (w : ℕ) → (1 ≤ w → warning_count < w) → no_row ≡ row_of w
unfolding row_of
no_row_lem w h =
    let z : (a b c d : ℕ) → by_warning (a ∷ b ∷ c ∷ d ∷ []) w ≡ 0 = λ a b c d. no_warning_lem (a ∷ b ∷ c ∷ d ∷ []) w h in
    sym (simp z)

-- a test that is computed for the row of each warning, and for that of no warning, is passed by the row of any number
pub any_row : (f : Row → Bool) → T (f no_row) → T (up_to (λ k. f (row_of k)) warning_count) → (w : ℕ) → T (f (row_of w))
any_row f none each w = go (leb 1 w) (leb w warning_count) refl refl
  where
    go : (a b : Bool) → leb 1 w ≡ a → leb w warning_count ≡ b → T (f (row_of w))
    go true true p q = each_passes (λ k. f (row_of k)) each w (leb-true 1 w p) (leb-true w warning_count q)
    go true false p q = rw (no_row_lem w (λ h. leb-false w warning_count q)) at none
    go false b p q = let l = leb-false 1 w p in rw (no_row_lem w (λ h. omega arith)) at none

-- every validity is a byte
pub validity_below : (w : ℕ) (ignition : Bool) → validity_of w ignition < 256
unfolding validity_of row_of
validity_below w true = ltb→lt _ _ (any_row (λ r. ltb r.validityon 256) tt tt w)
validity_below w false = ltb→lt _ _ (any_row (λ r. ltb r.validityoff 256) tt tt w)

-- every warning's validity is above 0
pub validity_above : (w : ℕ) (ignition : Bool) → 1 ≤ w → w ≤ warning_count → 0 < validity_of w ignition
unfolding validity_of row_of
validity_above w true low high = ltb→lt _ _ (each_passes (λ k. ltb 0 (row_of k).validityon) tt w low high)
validity_above w false low high = ltb→lt _ _ (each_passes (λ k. ltb 0 (row_of k).validityoff) tt w low high)

-- ---- the warnings by rank

-- the ranks fall strictly along the list, and the first is below r
abbrev pub falling : ℕ → List ℕ → Bool
falling r [] = true
falling r (w ∷ ws) = ltb (row_of w).rank r && falling (row_of w).rank ws

-- so each rank of the list is below r
pub falling_below : (r : ℕ) (ws : List ℕ) → T (falling r ws) → (w : ℕ) → Memᴰ w ws → (row_of w).rank < r
falling_below r [] t w i = absurd (Memᴰ.not-nil i)
falling_below r (u ∷ ws) t w i =
    let first = ltb→lt (row_of u).rank r (and_l (ltb (row_of u).rank r) (falling (row_of u).rank ws) t) in
    let rest = falling_below (row_of u).rank ws (and_r (ltb (row_of u).rank r) (falling (row_of u).rank ws) t) w in
    elim (Memᴰ.cases_cons i) [ inl e ↦ rw e first | inr j ↦ omega (arith, first, rest j) ]

among : ℕ → List ℕ → Bool
among w [] = false
among w (u ∷ ws) = eqb w u || among w ws

among_them : (w : ℕ) (ws : List ℕ) → T (among w ws) → Memᴰ w ws
unfolding among
among_them w [] t = absurd t
among_them w (u ∷ ws) t = go (eqb w u) refl t (among_them w ws)
  where
    go : (b : Bool) → eqb w u ≡ b → T (b || among w ws) → (T (among w ws) → Memᴰ w ws) → Memᴰ w (u ∷ ws)
    go true e t rest = Memᴰ.head (eqb-true w u e)
    go false e t rest = Memᴰ.tail (rest t)

-- the rule of the list: its ranks fall strictly, and each warning is in it
pub by_rank_falls : T (falling (warning_count + 1) by_rank)
unfolding row_of
by_rank_falls = tt

pub by_rank_has : (w : ℕ) → 1 ≤ w → w ≤ warning_count → Memᴰ w by_rank
unfolding among
by_rank_has w low high = among_them w by_rank (each_passes (λ k. among k by_rank) tt w low high)

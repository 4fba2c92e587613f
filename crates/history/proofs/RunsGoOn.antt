-- The runs with one tick more, place by place: none is above the ticks taken.
-- Assumes nothing.
use mathlib.Core.Path.{◌≡◌, refl, ap}
use mathlib.Core.Bool.{Bool, true, false}
use mathlib.Core.List.{List, [], ◌∷◌}
use Prim.Native.Nat.{ℕ, zero, suc, ◌+◌, ◌≤◌, ◌<◌}
use native.Mathlib.Omega.{arith}
use lib.Dec.{ltb}
use lib.ListN.{length, get_or}
use borrow.Author.Tests.{lt-ltb}
use Rattle.history.specs.Runs.{go_on, runs_after}
use Rattle.history.specs.Ranges.{Within}

-- a run has begun exactly if its fact is true at the newest tick
pub begun_now : (b : Bool) (n : ℕ) → ltb 0 (go_on b n) ≡ b
begun_now true n = lt-ltb 0 (n + 1) (omega arith)
begun_now false n = refl

pub more : (b : Bool) (n m : ℕ) → n ≤ m → go_on b n ≤ m + 1
more true n m h = omega arith
more false n m h = omega arith

pub runs_more : (bs : List Bool) (rs : List ℕ) (m : ℕ) → Within m rs → Within (m + 1) (runs_after bs rs)
unfolding runs_after
runs_more [] rs m h i = omega arith
runs_more (b ∷ bs) [] m h i = omega arith
runs_more (b ∷ bs) (n ∷ rs) m h zero = more b n m (h 0)
runs_more (b ∷ bs) (n ∷ rs) m h (suc i) = runs_more bs rs m (λ j. h (suc j)) i

pub runs_size : (bs : List Bool) (rs : List ℕ) → length bs ≡ length rs → length (runs_after bs rs) ≡ length rs
unfolding runs_after
runs_size [] [] e = refl
runs_size [] (n ∷ rs) e = absurd (omega arith)
runs_size (b ∷ bs) [] e = absurd (omega arith)
runs_size (b ∷ bs) (n ∷ rs) e = ap suc (runs_size bs rs (omega arith))

pub run_at : (bs : List Bool) (rs : List ℕ) (i : ℕ) → i < length bs → i < length rs → get_or (runs_after bs rs) i 0 ≡ go_on (get_or bs i false) (get_or rs i 0)
unfolding runs_after
run_at [] rs i b l = absurd (omega arith)
run_at (b ∷ bs) [] i l m = absurd (omega arith)
run_at (b ∷ bs) (n ∷ rs) zero l m = refl
run_at (b ∷ bs) (n ∷ rs) (suc i) l m = run_at bs rs i (omega arith) (omega arith)

-- The numbers of an image that are read one after the other: how many they are, and the one at each place.
-- Assumes nothing.
use mathlib.Core.Path.{◌≡◌, refl, ap, ◌∙◌}
use mathlib.Core.List.{List}
use Prim.Native.Nat.{ℕ, zero, suc, ◌+◌, ◌<◌}
use native.Mathlib.Omega.{arith}
use lib.ListN.{length, get_or}
use Rattle.history.specs.Runs.{run_count}
use Rattle.image.specs.Image.{number_count, number_in, numbers_in, runs_in}

numbers_length : (k n : ℕ) (s : List ℕ) → length (numbers_in k n s) ≡ n
unfolding numbers_in
numbers_length k zero s = refl
numbers_length k (suc n) s = ap suc (numbers_length (k + 1) n s)

numbers_at : (k n i : ℕ) (s : List ℕ) → i < n → get_or (numbers_in k n s) i 0 ≡ number_in (k + i) s
unfolding numbers_in
numbers_at k zero i s h = absurd (omega arith)
numbers_at k (suc n) zero s h =
    let e : k ≡ k + 0 = omega arith in
    ap (λ (j : ℕ). number_in j s) e
numbers_at k (suc n) (suc i) s h =
    let e : k + 1 + i ≡ k + suc i = omega arith in
    numbers_at (k + 1) n i s (omega arith) ∙ ap (λ (j : ℕ). number_in j s) e

pub runs_in_length : (s : List ℕ) → length (runs_in s) ≡ run_count
unfolding runs_in
runs_in_length s = numbers_length number_count run_count s

pub run_in_at : (s : List ℕ) (i : ℕ) → i < run_count → get_or (runs_in s) i 0 ≡ number_in (number_count + i) s
unfolding runs_in
run_in_at s i h = numbers_at number_count run_count i s h

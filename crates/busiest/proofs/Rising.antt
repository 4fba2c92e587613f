-- Ticks of which none is below the one before it never fall, and the other way round.
-- Assumes nothing.
use Rattle.std.proofs.Common.{◌≡◌, ℕ, zero, suc, ◌+◌, ◌<◌, ◌≤◌, List, [], ◌∷◌, length, get_or, refl, arith}
use Rattle.std.specs.Prelude.{true, false, ltb}
use Rattle.std.specs.List.{AllAdjacentBelow}
use Rattle.std.specs.List.Sorted.{IsNonDecreasing}
use Rattle.std.proofs.lemmas.Bool.{or_parts, or_right}
use Rattle.std.proofs.lemmas.List.Sorted.{IsNonDecreasingBy-from_all_adjacent}
use borrow.Author.Tests.{lt-ltb, le-ltb, ltb-false}
use Rattle.busiest.specs.Busiest.{falls}

neighbours : (ticks : List ℕ) → falls ticks ≡ false → AllAdjacentBelow (λ x y. x ≤ y) ticks (length ticks)
unfolding falls
neighbours [] e k d l = absurd (omega arith)
neighbours (t ∷ []) e k d l = absurd (omega arith)
neighbours (t ∷ r ∷ ticks) e zero d l = let b = or_parts (ltb r t) (falls (r ∷ ticks)) e in ltb-false r t b.0
neighbours (t ∷ r ∷ ticks) e (suc k) d l =
    let b = or_parts (ltb r t) (falls (r ∷ ticks)) e in
    let f : suc k + 1 ≡ suc (k + 1) = omega arith in
    rw f (neighbours (r ∷ ticks) b.1 k d (omega arith))

pub rising : (ticks : List ℕ) → falls ticks ≡ false → IsNonDecreasing ticks
rising ticks e = IsNonDecreasingBy-from_all_adjacent (λ x. x) ticks (neighbours ticks e)

pub falls_at : (ticks : List ℕ) (k : ℕ) → k + 1 < length ticks → get_or ticks (k + 1) 0 < get_or ticks k 0 → falls ticks ≡ true
unfolding falls
falls_at [] k l h = absurd (omega arith)
falls_at (t ∷ []) k l h = absurd (omega arith)
falls_at (t ∷ r ∷ ticks) zero l h = rw (lt-ltb r t h) refl
falls_at (t ∷ r ∷ ticks) (suc k) l h =
    let f : suc k + 1 ≡ suc (k + 1) = omega arith in
    or_right (ltb r t) (falls (r ∷ ticks)) (falls_at (r ∷ ticks) k (omega arith) (rw f at h))

pub never_falls : (ticks : List ℕ) → IsNonDecreasing ticks → falls ticks ≡ false
unfolding falls
never_falls [] up = refl
never_falls (t ∷ []) up = refl
never_falls (t ∷ r ∷ ticks) up =
    rw (le-ltb r t (up 0 1 0 (omega arith) (omega arith))) (never_falls (r ∷ ticks) (λ i j d g l. up (suc i) (suc j) d (omega arith) (omega arith)))

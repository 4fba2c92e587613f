-- A message lapses once and for all, and a list that one more joins.
-- Assumes nothing.
use mathlib.Core.Path.{◌≡◌, refl, ap, ◌∙◌}
use mathlib.Core.Bool.{Bool, true, false, not}
use mathlib.Core.List.{List, [], ◌∷◌, ◌++◌}
use Prim.Native.Nat.{ℕ, ◌*◌, ◌-◌, ◌≤◌, ◌<◌}
use native.Mathlib.Omega.{arith}
use borrow.Author.Tests.{leb-true, le-leb, lt-leb, not-false}
use lib.ListN.{length, length-append}
use Rattle.std.specs.List.{filter, count_by}
use Rattle.std.proofs.lemmas.List.Elements.{filter-append}
use Rattle.receiver.specs.declared.Received.{Received}
use Rattle.receiver.specs.declared.held.Side.TheVariants.{Lower, Higher}
use Rattle.receiver.specs.Held.{has_lapsed, unlapsed, is_other, is_beside, with_message}
use Rattle.receiver.specs.Calls.{nothing}
use Rattle.receiver.proofs.Sides.{side_counts}
use Rattle.receiver.proofs.Filters.{filter_again, filter_turned}

-- what has lapsed has lapsed later too
later_lapsed : (s t : ℕ) → s ≤ t → (x : Received) → not (has_lapsed s x) ≡ false → not (has_lapsed t x) ≡ false
unfolding has_lapsed
later_lapsed s t h x e =
    let l : 10 * x.message.validity ≤ s - x.arrival = leb-true _ _ (not-false _ e) in
    ap not (le-leb (10 * x.message.validity) (t - x.arrival) (omega arith))

pub unlapsed_again : (s t : ℕ) → s ≤ t → (xs : List Received) → unlapsed t (unlapsed s xs) ≡ unlapsed t xs
unlapsed_again s t h xs = filter_again (λ x. not (has_lapsed t x)) (λ x. not (has_lapsed s x)) (later_lapsed s t h) xs

-- what an empty place has lapses at every tick
pub nothing_lapsed : (tick : ℕ) → not (has_lapsed tick nothing) ≡ false
unfolding has_lapsed nothing
nothing_lapsed tick = ap not (le-leb 0 (tick - 0) (omega arith))

-- one that is valid for some time has not lapsed at its arrival
pub arrives_unlapsed : (x : Received) → 0 < x.message.validity → not (has_lapsed x.arrival x) ≡ true
unfolding has_lapsed
arrives_unlapsed x v = ap not (lt-leb (10 * x.message.validity) (x.arrival - x.arrival) (omega arith))

-- the others that have not lapsed stay, and so does the one that joins them
pub joins_unlapsed : (t : ℕ) (e : Received) (xs : List Received) → not (has_lapsed t e) ≡ true
    → unlapsed t (with_message e xs) ≡ with_message e (unlapsed t xs)
unfolding with_message
joins_unlapsed t e xs u =
    let p : Received → Bool = λ x. not (has_lapsed t x) in
    filter-append p (filter (is_beside Lower e.sender) xs ++ (e ∷ [])) (filter (is_beside Higher e.sender) xs)
    ∙ ap (λ (l : List Received). l ++ filter p (filter (is_beside Higher e.sender) xs)) (filter-append p (filter (is_beside Lower e.sender) xs) (e ∷ []))
    ∙ rw (u, filter_turned p (is_beside Lower e.sender) xs, filter_turned p (is_beside Higher e.sender) xs) refl

-- with room for one more they are no more than eight
pub joined_few : (e : Received) (xs : List Received) → count_by (is_other e) xs < 8 → length (with_message e xs) ≤ 8
unfolding with_message
joined_few e xs h =
    let s = side_counts e xs in
    simp length-append (omega arith)

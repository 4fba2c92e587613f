-- The messages of lower and of higher senders among others, and how many pass a test.
-- Assumes nothing.
use mathlib.Core.Path.{◌≡◌, refl, ap, sym, ◌∙◌}
use mathlib.Core.Bool.{Bool, true, false, not, cond}
use mathlib.Core.List.{List, [], ◌∷◌, ◌++◌}
use Prim.Native.Nat.{ℕ, ◌+◌, ◌≤◌, ◌<◌}
use native.Mathlib.Omega.{arith}
use lib.Dec.{ltb, eqb}
use lib.ListN.{length, get_or, take, drop, take-append-drop, length-append}
use Rattle.std.proofs.lemmas.Bool.Decides.{nat_tests}
use Rattle.std.specs.List.{filter, count_by}
use Rattle.std.proofs.lemmas.List.Elements.{filter-append}
use Rattle.std.proofs.lemmas.List.Filters.{length-filter_more}
use Rattle.std.proofs.lemmas.List.Sums.{length-filter}
use Rattle.receiver.specs.declared.Received.{Received}
use Rattle.receiver.specs.declared.held.Side.TheVariants.{Lower, Higher}
use Rattle.receiver.specs.Held.{is_other, is_beside}

length_cond : {A : Type 0} (b : Bool) (x : A) (xs : List A) → length (cond b (x ∷ xs) xs) ≡ cond b 1 0 + length xs
length_cond true x xs = omega arith
length_cond false x xs = omega arith

one_side : (a b : ℕ) → cond (ltb a b) 1 0 + cond (ltb b a) 1 0 ≡ cond (not (eqb a b)) 1 0
one_side a b = grind (arith, nat_tests)

-- the others are those of lower and those of higher senders
side_lengths : (e : Received) (xs : List Received)
    → length (filter (is_beside Lower e.sender) xs) + length (filter (is_beside Higher e.sender) xs) ≡ length (filter (is_other e) xs)
unfolding is_beside is_other
side_lengths e [] = refl
side_lengths e (x ∷ xs) =
    let a = length_cond (ltb x.sender e.sender) x (filter (is_beside Lower e.sender) xs) in
    let b = length_cond (ltb e.sender x.sender) x (filter (is_beside Higher e.sender) xs) in
    let d = length_cond (not (eqb x.sender e.sender)) x (filter (is_other e) xs) in
    rw (a, b, d) (omega (arith, one_side x.sender e.sender, side_lengths e xs))

pub side_counts : (e : Received) (xs : List Received)
    → length (filter (is_beside Lower e.sender) xs) + length (filter (is_beside Higher e.sender) xs) ≡ count_by (is_other e) xs
side_counts e xs = side_lengths e xs ∙ length-filter (is_other e) xs

-- one that passes is not among those that passed before it
pub room : {A : Type 0} (p : A → Bool) (xs : List A) (i : ℕ) (d : A) → i < length xs → p (get_or xs i d) ≡ true
    → length (filter p (take i xs)) + 1 ≤ length (filter p xs)
room p xs i d h t =
    let more : length (filter p (take (i + 1) xs)) ≡ length (filter p (take i xs)) + 1 = length-filter_more p xs i d h ∙ rw t refl in
    let all : filter p (take (i + 1) xs) ++ filter p (drop (i + 1) xs) ≡ filter p xs = sym (filter-append p (take (i + 1) xs) (drop (i + 1) xs)) ∙ ap (filter p) (take-append-drop (i + 1) xs) in
    let long : length (filter p (take (i + 1) xs)) + length (filter p (drop (i + 1) xs)) ≡ length (filter p xs) = sym (length-append (filter p (take (i + 1) xs)) (filter p (drop (i + 1) xs))) ∙ ap length all in
    omega arith

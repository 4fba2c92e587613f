-- An array made of another one element by element, by calls that give h of each.
-- Assumes nothing.
use Rattle.std.proofs.Common.{◌≡◌, ℕ, zero, suc, ◌+◌, ◌<◌, List, map, length, drop, refl, subst, arith, drop-cons, add-one}
use Rattle.std.proofs.lemmas.List.{drop_all}
use Rattle.std.specs.Array.{IsMapOf, MapsFrom}
use denote.Param.Members.{Mut, Called}

module _ {F A B : Type 0} (g : Mut F (A × Unit {0}) B) (h : A → B) (f : F)
    (calls : (x : A) (y : B) (q : F) → Called g f (x, tt) y q → (q ≡ f) × (y ≡ h x)) where
  rest_mapped : (xs : List A) (ys : List B) (n i : ℕ) → length xs ≡ i + n → length ys ≡ i + n → (p : F) → p ≡ f
      → MapsFrom g p xs ys i n → drop i ys ≡ map h (drop i xs)
  rest_mapped xs ys zero i l k p s e = rw (drop_all i ys (omega arith), drop_all i xs (omega arith)) refl
  rest_mapped xs ys (suc n) i l k p s (q, x, y, at_x, at_y, c, more) =
      let d = calls x y q (subst (λ (r : F). Called g r (x, tt) y q) s c) in
      let in_xs : i < length xs = omega arith in
      let in_ys : i < length ys = omega arith in
      let rest : drop (suc i) ys ≡ map h (drop (suc i) xs) = rw (← add-one i) (rest_mapped xs ys n (i + 1) (omega arith) (omega arith) q d.0 more) in
      rw (drop-cons xs i x in_xs, drop-cons ys i y in_ys, at_x.1 x, at_y.1 y, d.1, rest) refl

  pub all_mapped : (xs : List A) (ys : List B) (n : ℕ) → length xs ≡ n → IsMapOf g f xs ys n → ys ≡ map h xs
  all_mapped xs ys n l r = rest_mapped xs ys n 0 (omega (arith, l)) (omega (arith, r.long)) f refl r.each

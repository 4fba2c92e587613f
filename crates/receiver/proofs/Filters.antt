-- Filters of filters, and the members of what a filter keeps.
-- Assumes nothing.
use mathlib.Core.Path.{◌≡◌, refl, sym, ap, subst, ◌∙◌}
use mathlib.Core.Bool.{Bool, true, false, cond}
use mathlib.Core.Logic.{◌⊎◌, inl, inr}
use mathlib.Core.List.Memᴰ
use mathlib.Core.List.{List, [], ◌∷◌, ◌++◌, Memᴰ}
use Prim.Native.Nat.{ℕ, zero, suc, ◌+◌, ◌≤◌}
use native.Mathlib.Omega.{arith}
use lib.Dec.{ltb}
use lib.ListN.{length, get_or, take, get_or-eq_default}
use borrow.Author.Tests.{ltb-true, ltb-false}
use Rattle.std.proofs.Common.{add-one, map}
use Rattle.std.specs.List.{filter, range_with_len}
use Rattle.std.proofs.lemmas.List.{take_all}
use Rattle.receiver.proofs.Turns.{made_kept, made_left, next_kept, next_left}

module _ {A : Type 0} (p q : A → Bool) where
  -- a filter behind one that leaves out only what it leaves out itself
  pub filter_again : ((x : A) → q x ≡ false → p x ≡ false) → (xs : List A) → filter p (filter q xs) ≡ filter p xs
  filter_again h [] = refl
  filter_again h (x ∷ xs) = go (q x) refl (filter_again h xs)
    where
      go : (b : Bool) → q x ≡ b → filter p (filter q xs) ≡ filter p xs → filter p (cond b (x ∷ filter q xs) (filter q xs)) ≡ cond (p x) (x ∷ filter p xs) (filter p xs)
      go true e rest = ap (λ (l : List A). cond (p x) (x ∷ l) l) rest
      go false e rest = rw (h x e) rest

  pub filter_turned : (xs : List A) → filter p (filter q xs) ≡ filter q (filter p xs)
  filter_turned [] = refl
  filter_turned (x ∷ xs) = go (p x) (q x) refl refl (filter_turned xs)
    where
      go : (b d : Bool) → p x ≡ b → q x ≡ d → filter p (filter q xs) ≡ filter q (filter p xs)
          → filter p (cond d (x ∷ filter q xs) (filter q xs)) ≡ filter q (cond b (x ∷ filter p xs) (filter p xs))
      go true true e f rest = rw (e, f) (ap (λ (l : List A). x ∷ l) rest)
      go true false e f rest = rw f rest
      go false true e f rest = rw e rest
      go false false e f rest = rest

-- what is kept of a list with something behind it that does not pass
module _ {A : Type 0} (p : A → Bool) (d : A) (none : p d ≡ false) (xs : List A) where
  kept_first : (n : ℕ) → filter p (map (λ k. get_or xs k d) (range_with_len 0 n)) ≡ filter p (take n xs)
  kept_first zero = refl
  kept_first (suc n) =
      subst (λ (m : ℕ). filter p (map (λ k. get_or xs k d) (range_with_len 0 m)) ≡ filter p (take m xs)) (add-one n)
      (go (ltb n (length xs)) refl (p (get_or xs n d)) refl (kept_first n))
    where
      go : (b : Bool) → ltb n (length xs) ≡ b → (t : Bool) → p (get_or xs n d) ≡ t → filter p (map (λ k. get_or xs k d) (range_with_len 0 n)) ≡ filter p (take n xs)
          → filter p (map (λ k. get_or xs k d) (range_with_len 0 (n + 1))) ≡ filter p (take (n + 1) xs)
      go true e true t rest = sym (made_kept p (λ k. get_or xs k d) n t) ∙ ap (λ (l : List A). l ++ get_or xs n d ∷ []) rest ∙ next_kept p xs n d (ltb-true _ _ e) t
      go true e false t rest = sym (made_left p (λ k. get_or xs k d) n t) ∙ rest ∙ next_left p xs n d (ltb-true _ _ e) t
      go false e t u rest =
          let h = ltb-false _ _ e in
          sym (made_left p (λ k. get_or xs k d) n (ap p (get_or-eq_default xs d {n = n} h) ∙ none))
          ∙ rest
          ∙ ap (filter p) (take_all n xs h ∙ sym (take_all (n + 1) xs (omega arith)))

  pub kept_places : (n : ℕ) → length xs ≤ n → filter p (map (λ k. get_or xs k d) (range_with_len 0 n)) ≡ filter p xs
  kept_places n h = kept_first n ∙ ap (filter p) (take_all n xs h)

module _ {A : Type 0} (p : A → Bool) {x : A} where
  -- what is kept is in the list, and passes
  pub kept_member : (xs : List A) → Memᴰ x (filter p xs) → Memᴰ x xs × (p x ≡ true)
  kept_member [] i = absurd (Memᴰ.not-nil i)
  kept_member (y ∷ ys) i = go (p y) refl i (kept_member ys)
    where
      go : (b : Bool) → p y ≡ b → Memᴰ x (cond b (y ∷ filter p ys) (filter p ys)) → (Memᴰ x (filter p ys) → Memᴰ x ys × (p x ≡ true)) → Memᴰ x (y ∷ ys) × (p x ≡ true)
      go true e j rest = elim (Memᴰ.cases_cons j) [ inl s ↦ (Memᴰ.head s, ap p s ∙ e) | inr k ↦ let r = rest k in (Memᴰ.tail r.0, r.1) ]
      go false e j rest = let r = rest j in (Memᴰ.tail r.0, r.1)

  pub member_kept : (xs : List A) → Memᴰ x xs → p x ≡ true → Memᴰ x (filter p xs)
  member_kept [] i t = absurd (Memᴰ.not-nil i)
  member_kept (y ∷ ys) i t = go (p y) refl (Memᴰ.cases_cons i) (λ j. member_kept ys j t)
    where
      go : (b : Bool) → p y ≡ b → (x ≡ y) ⊎ Memᴰ x ys → (Memᴰ x ys → Memᴰ x (filter p ys)) → Memᴰ x (cond b (y ∷ filter p ys) (filter p ys))
      go true e c rest = elim c [ inl s ↦ Memᴰ.head s | inr j ↦ Memᴰ.tail (rest j) ]
      go false e c rest = elim c [ inl s ↦ (let z : true ≡ false = sym t ∙ ap p s ∙ e in cc) | inr j ↦ rest j ]

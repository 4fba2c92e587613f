-- The largest number of a list, and the least one that passes a test, each from what bounds them and is reached.
-- Assumes nothing.
use Rattle.std.proofs.Common.{◌≡◌, ℕ, zero, suc, ◌≤◌, List, [], ◌∷◌, get_or, sym, refl, ap, ◌∙◌, arith}
use Rattle.std.specs.Prelude.{Bool, true, false, cond, max, min, fold, filter, All, Contains, Some}
use Rattle.std.specs.List.{reduce}
use Rattle.std.proofs.lemmas.List.Elements.{All-filter, filter_passes, Contains-get_or}
use mathlib.Core.Logic.{◌⊎◌, inl, inr}

-- an element is the first one or stands in the rest
contains_cases : (x : ℕ) (xs : List ℕ) (m : ℕ) → Contains (x ∷ xs) m → (x ≡ m) ⊎ Contains xs m
contains_cases x xs m (zero, l, e) = inl e
contains_cases x xs m (suc k, l, e) = inr (k, omega arith, e)

-- m stands first or in the rest
abbrev Reached : ℕ → List ℕ → ℕ → Type 0
Reached x xs m = (x ≡ m) ⊎ Contains xs m

-- so it does once the first two are replaced by one that is m where one of them is
reached_next : (a x n : ℕ) (xs : List ℕ) (m : ℕ) → (a ≡ m → n ≡ m) → (x ≡ m → n ≡ m) → Reached a (x ∷ xs) m → Reached n xs m
reached_next a x n xs m f g (inl e) = inl (f e)
reached_next a x n xs m f g (inr there) = go (contains_cases x xs m there)
  where
    go : (x ≡ m) ⊎ Contains xs m → Reached n xs m
    go (inl e) = inl (g e)
    go (inr c) = inr c

pub fold_max : (a : ℕ) (xs : List ℕ) (m : ℕ) → a ≤ m → All (λ x. x ≤ m) xs → Reached a xs m → fold max a xs ≡ m
fold_max a [] m low all (inl e) = e
fold_max a [] m low all (inr (k, l, e)) = absurd (omega arith)
fold_max a (x ∷ xs) m low all r =
    let here : x ≤ m = all 0 0 (omega arith) in
    fold_max (max a x) xs m (omega arith) (λ k d l. all (suc k) d (omega arith)) (reached_next a x (max a x) xs m (λ e. omega arith) (λ e. omega arith) r)

fold_min : (a : ℕ) (xs : List ℕ) (m : ℕ) → m ≤ a → All (λ x. m ≤ x) xs → Reached a xs m → fold min a xs ≡ m
fold_min a [] m low all (inl e) = e
fold_min a [] m low all (inr (k, l, e)) = absurd (omega arith)
fold_min a (x ∷ xs) m low all r =
    let here : m ≤ x = all 0 0 (omega arith) in
    fold_min (min a x) xs m (omega arith) (λ k d l. all (suc k) d (omega arith)) (reached_next a x (min a x) xs m (λ e. omega arith) (λ e. omega arith) r)

reduce_min : (xs : List ℕ) (m : ℕ) → All (λ x. m ≤ x) xs → Contains xs m → reduce min xs ≡ Some m
reduce_min [] m all (k, l, e) = absurd (omega arith)
reduce_min (x ∷ xs) m all there =
    ap (λ (n : ℕ). Some n) (fold_min x xs m (all 0 0 (omega arith)) (λ k d l. all (suc k) d (omega arith)) (contains_cases x xs m there))

-- what passes stays
passes_stays : (p : ℕ → Bool) (xs : List ℕ) (y : ℕ) → p y ≡ true → Contains xs y → Contains (filter p xs) y
passes_stays p [] y t (k, l, e) = absurd (omega arith)
passes_stays p (x ∷ xs) y t there = go (λ c. passes_stays p xs y t c) (p x) refl (contains_cases x xs y there)
  where
    go : (Contains xs y → Contains (filter p xs) y) → (b : Bool) → p x ≡ b → (x ≡ y) ⊎ Contains xs y → Contains (cond b (x ∷ filter p xs) (filter p xs)) y
    go rest true e (inl h) = (0, omega arith, h)
    go rest false e (inl h) = let z : false ≡ true = sym e ∙ ap p h ∙ t in absurd (cc)
    go rest true e (inr c) = let f = rest c in (suc f.0, omega (arith, f.1), f.2)
    go rest false e (inr c) = rest c

pub least_passing : (p : ℕ → Bool) (xs : List ℕ) (m : ℕ) → Contains xs m → p m ≡ true → ((x : ℕ) → Contains xs x → p x ≡ true → m ≤ x)
    → reduce min (filter p xs) ≡ Some m
least_passing p xs m there passes least =
    let each : All (λ x. p x ≡ true → m ≤ x) xs = λ k d l t. least (get_or xs k d) (Contains-get_or xs k d l) t in
    let stays = All-filter p (λ x. p x ≡ true → m ≤ x) xs each in
    reduce_min (filter p xs) m (λ k d l. stays k d l (filter_passes p xs k d l)) (passes_stays p xs m passes there)

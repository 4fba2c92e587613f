-- One turn of a loop that keeps what passes a test.
-- Assumes nothing.
use mathlib.Core.Path.{◌≡◌, refl, sym, ◌∙◌}
use mathlib.Core.Bool.{Bool, true, false}
use mathlib.Core.List.{List, [], ◌∷◌, ◌++◌, map, append-nil}
use Prim.Native.Nat.{ℕ, ◌+◌, ◌<◌}
use native.Mathlib.Nat.{zero-add}
use lib.ListN.{length, get_or, take}
use Rattle.std.specs.List.{filter, range_with_len}
use Rattle.std.proofs.lemmas.List.Elements.{filter_more}
use Rattle.std.proofs.lemmas.List.FromFn.{filter_of_map_range_with_len_more}

-- over the numbers below n
module _ {A : Type 0} (p : A → Bool) (f : ℕ → A) (n : ℕ) where
  pub made_kept : p (f n) ≡ true → filter p (map f (range_with_len 0 n)) ++ f n ∷ [] ≡ filter p (map f (range_with_len 0 (n + 1)))
  made_kept t = sym (filter_of_map_range_with_len_more p f 0 n n (zero-add n) ∙ rw t refl)

  pub made_left : p (f n) ≡ false → filter p (map f (range_with_len 0 n)) ≡ filter p (map f (range_with_len 0 (n + 1)))
  made_left t = sym (filter_of_map_range_with_len_more p f 0 n n (zero-add n) ∙ rw t (append-nil (filter p (map f (range_with_len 0 n)))))

-- over a list
module _ {A : Type 0} (p : A → Bool) (xs : List A) (i : ℕ) (d : A) (h : i < length xs) where
  pub next_kept : p (get_or xs i d) ≡ true → filter p (take i xs) ++ get_or xs i d ∷ [] ≡ filter p (take (i + 1) xs)
  next_kept t = sym (filter_more p xs i d h ∙ rw t refl)

  pub next_left : p (get_or xs i d) ≡ false → filter p (take i xs) ≡ filter p (take (i + 1) xs)
  next_left t = sym (filter_more p xs i d h ∙ rw t (append-nil (filter p (take i xs))))

-- An array made element by element, by calls that give the numbers h 0, h 1 and so on.
-- Assumes nothing.
use Rattle.std.proofs.Common.{◌≡◌, ℕ, zero, suc, ◌+◌, ◌<◌, List, [], ◌∷◌, length, get_or, drop, refl, subst, ◌∙◌, arith, drop-cons, add-one}
use Rattle.std.proofs.lemmas.List.{drop_all}
use Rattle.std.specs.Array.{IsFromFnResult, IsFromFnResultFrom}
use denote.Param.Members.{Mut, Called}
use Rattle.wire.specs.Words.{bytes_at}

-- the numbers that h gives from i on, n of them
abbrev pub given_from : (ℕ → ℕ) → ℕ → ℕ → List ℕ
given_from h i zero = []
given_from h i (suc n) = h i ∷ given_from h (i + 1) n

module _ {F : Type 0} (g : Mut F (ℕ × Unit {0}) ℕ) (h : ℕ → ℕ) (f : F)
    (calls : (k y : ℕ) (q : F) → Called g f (k, tt) y q → (q ≡ f) × (y ≡ h k)) where
  rest_given : (ys : List ℕ) (n i : ℕ) → length ys ≡ i + n → (p : F) → p ≡ f → IsFromFnResultFrom g p ys i n → drop i ys ≡ given_from h i n
  rest_given ys zero i l p s e = drop_all i ys (omega arith)
  rest_given ys (suc n) i l p s (q, y, at, c, more) =
      let d = calls i y q (subst (λ (k : F). Called g k (i, tt) y q) s c) in
      let below : i < length ys = omega arith in
      let more_given = rest_given ys n (i + 1) (omega arith) q d.0 more in
      drop-cons ys i 0 below ∙ rw (at.1 0, d.1, ← add-one i, more_given) refl

  pub all_given : (ys : List ℕ) (n : ℕ) → IsFromFnResult g f ys n → ys ≡ given_from h 0 n
  all_given ys n r = rest_given ys n 0 (omega (arith, r.long)) f refl r.each

-- the bytes of s from place p on
pub bytes_given : (n : ℕ) (s : List ℕ) (p i : ℕ) → given_from (λ k. get_or s (p + k) 0) i n ≡ bytes_at n s (p + i)
unfolding bytes_at
bytes_given zero s p i = refl
bytes_given (suc n) s p i =
    let next : p + (i + 1) ≡ p + i + 1 = omega arith in
    rw (bytes_given n s p (i + 1), next) refl

-- Messages in w ticks on end, counted by places: in ticks that never fall they are those from one place up to another.
-- Assumes nothing.
use Rattle.std.proofs.Common.{◌≡◌, ℕ, zero, suc, ◌+◌, ◌<◌, ◌≤◌, List, [], ◌∷◌, length, get_or, refl, arith}
use Rattle.std.specs.Prelude.{cond, ◌&&◌, ltb, leb, count_by}
use Rattle.std.specs.List.Sorted.{IsNonDecreasing}
use Rattle.std.proofs.lemmas.List.Sums.{sum_by-cons}
use Rattle.std.proofs.lemmas.Bool.{cases_lt}
use Rattle.std.proofs.lemmas.Bool.Decides.{nat_tests}
use mathlib.Core.Logic.{◌⊎◌, inl, inr}
use Rattle.busiest.specs.Busiest.{messages_in}

-- 1 for a tick below t, else 0
abbrev one : ℕ → ℕ → ℕ
one t r = cond (ltb r t) 1 0

-- how many ticks lie below t
abbrev pub below : ℕ → List ℕ → ℕ
below t ticks = count_by (λ r. ltb r t) ticks

cons_below : (t r : ℕ) (rs : List ℕ) → below t (r ∷ rs) ≡ one t r + below t rs
cons_below t r rs = sum_by-cons (one t) r rs

-- 1 for a tick that is one of the w ticks from t on, else 0
abbrev pub one_in : ℕ → ℕ → ℕ → ℕ
one_in w t r = cond (leb t r && ltb r (t + w)) 1 0

pub none_in : (w t : ℕ) → messages_in w [] t ≡ 0
unfolding messages_in
none_in w t = refl

pub one_more : (w t r : ℕ) (ticks : List ℕ) → messages_in w (r ∷ ticks) t ≡ one_in w t r + messages_in w ticks t
unfolding messages_in
one_more w t r ticks = sum_by-cons (one_in w t) r ticks

pub is_in : (w t r : ℕ) → t ≤ r → r < t + w → one_in w t r ≡ 1
is_in w t r low high = grind (arith, nat_tests)

pub is_apart : (w t r : ℕ) → (r < t) ⊎ (t + w ≤ r) → one_in w t r ≡ 0
is_apart w t r (inl h) = grind (arith, nat_tests)
is_apart w t r (inr h) = grind (arith, nat_tests)

-- a tick lies below t, or in the w ticks from t on, where it lies below their end
each_tick : (w t r : ℕ) → one t r + one_in w t r ≡ one (t + w) r
each_tick w t r = grind (arith, nat_tests)

-- so the messages in them are those below their end that do not lie below t
pub in_window : (w t : ℕ) (ticks : List ℕ) → below t ticks + messages_in w ticks t ≡ below (t + w) ticks
in_window w t [] = rw (none_in w t) refl
in_window w t (r ∷ ticks) = omega (arith, in_window w t ticks, cons_below t r ticks, cons_below (t + w) r ticks, one_more w t r ticks, each_tick w t r)

is_below : (t r : ℕ) → r < t → one t r ≡ 1
is_below t r h = grind (arith, nat_tests)

is_not : (t r : ℕ) → t ≤ r → one t r ≡ 0
is_not t r h = grind (arith, nat_tests)

most_one : (t r : ℕ) → one t r ≤ 1
most_one t r = grind (arith, nat_tests)

-- in ticks that never fall, tick i lies below t exactly where i is one of the first so many places
pub below_place : (t : ℕ) (ticks : List ℕ) → IsNonDecreasing ticks → (i : ℕ) → i < length ticks
    → (get_or ticks i 0 < t → i < below t ticks) × (t ≤ get_or ticks i 0 → below t ticks ≤ i)
below_place t [] up i l = absurd (omega arith)
below_place t (r ∷ []) up zero l = (λ h. omega (arith, is_below t r h), λ h. omega (arith, is_not t r h))
below_place t (r ∷ []) up (suc i) l = absurd (omega arith)
below_place t (r ∷ s ∷ rs) up zero l =
    let rest = below_place t (s ∷ rs) (λ i j d g h. up (suc i) (suc j) d (omega arith) (omega arith)) 0 (omega arith) in
    let next : r ≤ s = up 0 1 0 (omega arith) (omega arith) in
    let e = cons_below t r (s ∷ rs) in
    (λ h. omega (arith, is_below t r h, e), λ h. omega (arith, is_not t r h, e, rest.1 (omega arith)))
below_place t (r ∷ s ∷ rs) up (suc i) l =
    let rest = below_place t (s ∷ rs) (λ i j d g h. up (suc i) (suc j) d (omega arith) (omega arith)) i (omega arith) in
    let low : r ≤ get_or (s ∷ rs) i 0 = up 0 (suc i) 0 (omega arith) (omega arith) in
    let e = cons_below t r (s ∷ rs) in
    (λ h. omega (arith, is_below t r (omega arith), e, rest.0 h), λ h. omega (arith, e, rest.1 h, most_one t r))

module _ (t : ℕ) (ticks : List ℕ) (up : IsNonDecreasing ticks) (i : ℕ) (l : i < length ticks) where
  pub at_or_above : below t ticks ≤ i → t ≤ get_or ticks i 0
  at_or_above h = go (cases_lt (get_or ticks i 0) t)
    where
      go : (get_or ticks i 0 < t) ⊎ (t ≤ get_or ticks i 0) → t ≤ get_or ticks i 0
      go (inl low) = absurd (omega (arith, (below_place t ticks up i l).0 low))
      go (inr high) = high

  pub lies_below : i < below t ticks → get_or ticks i 0 < t
  lies_below h = go (cases_lt (get_or ticks i 0) t)
    where
      go : (get_or ticks i 0 < t) ⊎ (t ≤ get_or ticks i 0) → get_or ticks i 0 < t
      go (inl low) = low
      go (inr high) = absurd (omega (arith, (below_place t ticks up i l).1 high))

-- The filter's three operations on values in units: each is one rounding of a difference, a quarter or a sum of numbers of units.
-- Assumes nothing.
use mathlib.Core.Path.{◌≡◌, refl, ap, ◌∙◌}
use mathlib.Core.Bool.{Bool, true, false, not, ◌&&◌}
use Prim.Native.Nat.{ℕ, zero, suc, ◌+◌, ◌-◌, ◌*◌, ◌^◌, ◌≤◌, ◌<◌}
use native.Mathlib.Nat.{zero-lt-suc, zero-add, sub-zero, add-mul, mul-one, mul-sub, mul_assoc, mul_comm, mul_right_comm, mul-pos}
use native.Mathlib.Nat.{mul-lt-mul_of_pos_right, lt_of_mul-lt-mul_right, mul-le-mul_right, le_of_mul-le-mul_right}
use native.Mathlib.Omega.{arith}
use borrow.Author.Tests.{lt-ltb, le-ltb}
use lib.IntN.{negsuc}
use lib.Dec.{T, ltb, ltb→lt, nltb→le}
use lib.Pow.{pow_pos}
use lib.Ieee.{Float, nan, inf, fin, Format, low, up, down, unlike, round, sum, neg, add, sub, mul}
use lib.Ieee.Fits.{down_pos}
use lib.Ieee.Scale.{round_same}
use Rattle.filter.proofs.Rounding.{InUnits, rounded}

-- 0.25
abbrev pub fourth : Float
fourth = fin false 1 (negsuc 1)

-- ---- from the denominator c to l: a / c is A / l, and b / c is B / l
rescale_plus : (a b c A B l : ℕ) → a * l ≡ A * c → b * l ≡ B * c → (a + b) * l ≡ (A + B) * c
rescale_plus a b c A B l p q = simp (add-mul, p, q)

sub_mul : (a b c : ℕ) → (a - b) * c ≡ a * c - b * c
sub_mul a b c = mul_comm (a - b) c ∙ mul-sub c a b ∙ rw (mul_comm c a, mul_comm c b)

rescale_minus : (a b c A B l : ℕ) → a * l ≡ A * c → b * l ≡ B * c → (a - b) * l ≡ (A - B) * c
rescale_minus a b c A B l p q = simp (sub_mul, p, q)

rescale_lt : (a b c A B l : ℕ) → 0 < c → a * l ≡ A * c → b * l ≡ B * c → A < B → a < b
rescale_lt a b c A B l C p q h = lt_of_mul-lt-mul_right l (rw (p, q) (mul-lt-mul_of_pos_right h C))

rescale_le : (a b c A B l : ℕ) → 0 < l → a * l ≡ A * c → b * l ≡ B * c → A ≤ B → a ≤ b
rescale_le a b c A B l L p q h = le_of_mul-le-mul_right (rw (p, q) (mul-le-mul_right c h)) L

rescale_ltb : (a b c A B l : ℕ) → 0 < c → 0 < l → a * l ≡ A * c → b * l ≡ B * c → ltb a b ≡ ltb A B
rescale_ltb a b c A B l C L p q = go (ltb A B) (ltb→lt A B) (nltb→le A B)
  where
    go : (t : Bool) → (T t → A < B) → (T (not t) → B ≤ A) → ltb a b ≡ t
    go true h k = lt-ltb a b (rescale_lt a b c A B l C p q (h tt))
    go false h k = le-ltb a b (rescale_le b a c B A l L q p (k tt))

rescale_sum : (f : Format) (s t : Bool) (a b c A B l : ℕ) → 0 < c → 0 < l → a * l ≡ A * c → b * l ≡ B * c
    → sum f s a t b c ≡ sum f s A t B l
unfolding sum
rescale_sum f s t a b c A B l C L p q =
    let plus = round_same f s (a + b) c (A + B) l C L (rescale_plus a b c A B l p q) in
    let less = round_same f t (b - a) c (B - A) l C L (rescale_minus b a c B A l q p) in
    let more = round_same f (s && ltb B A) (a - b) c (A - B) l C L (rescale_minus a b c A B l p q) in
    simp (rescale_ltb a b c A B l C L p q, rescale_ltb b a c B A l C L q p, plus, less, more)

-- ---- a sum and a difference in units
common : (p d e l A : ℕ) → p * l ≡ A * d → p * e * l ≡ A * (d * e)
common p d e l A h = mul_right_comm p e l ∙ ap (λ (z : ℕ). z * e) h ∙ mul_assoc A d e

add_units : (f : Format) (s t : Bool) (x y : Float) (A B : ℕ) → InUnits f s x A → InUnits f t y B
    → add f x y ≡ sum f s A t B (2 ^ low f)
unfolding add
add_units f s t nan y A B h k = absurd h
add_units f s t (inf u) y A B h k = absurd h
add_units f s t (fin u m e) nan A B h k = absurd k
add_units f s t (fin u m e) (inf v) A B h k = absurd k
add_units f s t (fin u m e) (fin v n d) A B h k =
    let l = 2 ^ low f in
    let a = m * up e * down d in
    let b = n * up d * down e in
    let c = down e * down d in
    let p : a * l ≡ A * c = common (m * up e) (down e) (down d) l A h.1 in
    let q : b * l ≡ B * c = rw (mul_comm (down e) (down d)) (common (n * up d) (down d) (down e) l B k.1) in
    rw (h.0, k.0) (rescale_sum f s t a b c A B l (mul-pos (down_pos e) (down_pos d)) (pow_pos (low f)) p q)

neg_units : (f : Format) (s : Bool) (y : Float) (A : ℕ) → InUnits f s y A → InUnits f (not s) (neg y) A
unfolding neg
neg_units f s nan A h = h
neg_units f s (inf t) A h = h
neg_units f s (fin t m e) A h = (ap not h.0, h.1)

sub_units : (f : Format) (s t : Bool) (x y : Float) (A B : ℕ) → InUnits f s x A → InUnits f t y B
    → sub f x y ≡ sum f s A (not t) B (2 ^ low f)
unfolding sub
sub_units f s t x y A B h k = add_units f s (not t) x (neg y) A B h (neg_units f t y B k)

-- ---- a sum of a plus and a minus has the sign of the larger
plus_larger : (f : Format) (a b c : ℕ) → b ≤ a → sum f false a true b c ≡ round f false (a - b) c
unfolding sum
plus_larger f a b c h = simp (le-ltb a b h)

minus_larger : (f : Format) (a b c : ℕ) → a < b → sum f false a true b c ≡ round f true (b - a) c
unfolding sum
minus_larger f a b c h = simp (lt-ltb a b h)

minus_zero_plus : (f : Format) (b c : ℕ) → sum f true 0 false b c ≡ round f false b c
unfolding sum
minus_zero_plus f zero c = refl
minus_zero_plus f (suc b) c = simp (lt-ltb 0 (suc b) (zero-lt-suc b), sub-zero)

-- ---- x - F, for an F of A units that is not below zero: it has no sign, or is -0
pub sub_up : (f : Format) (s : Bool) (x y : Float) (X A : ℕ) → InUnits f false x X → InUnits f s y A → (T s → A ≡ 0)
    → A ≤ X → sub f x y ≡ rounded f false (X - A)
unfolding sum
sub_up f s x y X A h k z g = sub_units f false s x y X A h k ∙ go s z
  where
    same : (X A : ℕ) → A ≡ 0 → X + A ≡ X - A
    same X A e = omega arith

    go : (s : Bool) → (T s → A ≡ 0) → sum f false X (not s) A (2 ^ low f) ≡ rounded f false (X - A)
    go true z = ap (rounded f false) (same X A (z tt))
    go false z = plus_larger f X A (2 ^ low f) g

pub sub_down : (f : Format) (x y : Float) (X A : ℕ) → InUnits f false x X → InUnits f false y A
    → X < A → sub f x y ≡ rounded f true (A - X)
sub_down f x y X A h k g = sub_units f false false x y X A h k ∙ minus_larger f X A (2 ^ low f) g

-- ---- D × 0.25
pub mul_fourth : (f : Format) (s : Bool) (x : Float) (D : ℕ) → InUnits f s x D → mul f x fourth ≡ round f s D (2 ^ low f * 4)
unfolding mul
mul_fourth f s nan D h = absurd h
mul_fourth f s (inf t) D h = absurd h
mul_fourth f s (fin t m e) D h =
    let l = 2 ^ low f in
    let n = m * up e in
    let four : 0 < 4 = zero-lt-suc 3 in
    let p : n * 1 * (l * 4) ≡ D * (down e * 4) = rw (mul-one, ← mul_assoc n l 4, h.1) (mul_assoc D (down e) 4) in
    rw (unlike_false t, h.0)
    (round_same f s (n * 1) (down e * 4) D (l * 4) (mul-pos (down_pos e) four) (mul-pos (pow_pos (low f)) four) p)
  where
    unlike_false : (t : Bool) → unlike t false ≡ t
    unlike_false true = refl
    unlike_false false = refl

-- ---- F + Q, for such an F
pub add_up : (f : Format) (s : Bool) (y q : Float) (A Q : ℕ) → InUnits f s y A → (T s → A ≡ 0) → InUnits f false q Q
    → add f y q ≡ rounded f false (A + Q)
unfolding sum
add_up f s y q A Q h z k = add_units f s false y q A Q h k ∙ go s z
  where
    go : (s : Bool) → (T s → A ≡ 0) → sum f s A false Q (2 ^ low f) ≡ rounded f false (A + Q)
    go true z = rw (z tt, zero-add) (minus_zero_plus f Q (2 ^ low f))
    go false z = refl

pub add_down : (f : Format) (y q : Float) (A Q : ℕ) → InUnits f false y A → InUnits f true q Q
    → Q ≤ A → add f y q ≡ rounded f false (A - Q)
add_down f y q A Q h k g = add_units f false true y q A Q h k ∙ plus_larger f A Q (2 ^ low f) g

-- Rounding to nearest, in units of the format's smallest value: a fraction rounds to at most twice itself, since 0 is a value too,
-- and what lies between two numbers of units that the format holds rounds to one between them. Assumes nothing.
use mathlib.Core.Path.{◌≡◌, ap, ◌∙◌}
use mathlib.Core.Logic.{inl, inr}
use mathlib.Core.Bool.{Bool, true, false, not}
use Prim.Native.Nat.{ℕ, ◌+◌, ◌*◌, ◌/◌, ◌%◌, ◌^◌, ◌≤◌, ◌<◌, zero-le}
use Prim.Native.Nat.{compare, Ordering}
use native.Mathlib.Nat.{le_trans, le_of_eq, lt_of_le_of_lt, eq-zero-or-pos, suc-mul, add-mul, mul_assoc, mul_comm, mul_right_comm}
use native.Mathlib.Nat.{mul-le-mul_right, le_of_mul-le-mul_right, div-add-mod'}
use native.Mathlib.Omega.{arith}
use lib.Dec.{T, is_le, nleb→lt}
use lib.Pow.{pow_pos}
use lib.Ieee.{Float, nan, inf, fin, Format, prec, low, nearest, round, le}
use lib.Ieee.Fits.{round_is}
use lib.Ieee.Exact.{HasValue, units_val}
use lib.Ieee.Nearest.{closest}
use lib.Ieee.Order.{drop, kept, round_mono}
use lib.Ieee.Scale.{grid, overflow}
use lib.Ieee.Positive.{above, positive, above_of_le, positive_of_value, values_of_le}

-- x is finite, has the sign s and is a units in size
abbrev pub InUnits : Format → Bool → Float → ℕ → Type 0
InUnits f s x a = HasValue x s a (2 ^ low f)

-- a units, rounded
abbrev pub rounded : Format → Bool → ℕ → Float
rounded f s a = round f s a (2 ^ low f)

-- the format holds a units: to round them changes nothing
abbrev pub Held : Format → ℕ → Type 0
Held f a = InUnits f false (rounded f false a) a

-- ---- at most twice
add_parity : (q : ℕ) → q + q % 2 ≤ q + q
add_parity q = omega arith

-- n is q whole divisors u, and r more
nearest_twice : (q r u n : ℕ) (o : Ordering) → q * u + r ≡ n → (T (not (is_le o)) → u < r * 2) → nearest q o * u ≤ n * 2
nearest_twice q r u n Ordering.lt e g = omega arith
nearest_twice q r u n Ordering.eq e g = omega (arith, mul-le-mul_right u (add_parity q), add-mul q q u)
nearest_twice q r u n Ordering.gt e g = omega (arith, suc-mul q u, g tt)

closest_twice : (n u : ℕ) → closest n u * u ≤ n * 2
closest_twice n u = nearest_twice (n / u) (n % u) u n (compare (n % u * 2) u) (div-add-mod' n u) (nleb→lt (n % u * 2) u)

-- `grid f a c` is a / c rounded, in units
grid_twice : (f : Format) (a c : ℕ) → grid f a c * c ≤ a * 2 ^ low f * 2
grid_twice f a c =
    let n = a * 2 ^ low f in
    let k = drop (prec f) n c in
    let q = kept (prec f) n c in
    let e : q * 2 ^ k * c ≡ q * (c * 2 ^ k) = mul_assoc q (2 ^ k) c ∙ ap (λ (z : ℕ). q * z) (mul_comm (2 ^ k) c) in
    le_trans (le_of_eq e) (closest_twice n (c * 2 ^ k))

pub units_twice : (f : Format) (a : ℕ) → grid f a (2 ^ low f) ≤ a * 2
units_twice f a =
    let l = 2 ^ low f in
    le_of_mul-le-mul_right (le_trans (grid_twice f a l) (le_of_eq (mul_right_comm a l 2))) (pow_pos (low f))

-- a quarter of a units, rounded, is at most half of them
pub quarter_half : (f : Format) (a : ℕ) → grid f a (2 ^ low f * 4) * 2 ≤ a
quarter_half f a =
    let l = 2 ^ low f in
    let q = grid f a (l * 4) in
    let e : q * 4 * l ≡ q * (l * 4) = mul_assoc q 4 l ∙ ap (λ (z : ℕ). q * z) (mul_comm 4 l) in
    let b : q * 4 * l ≤ a * 2 * l = le_trans (le_of_eq e) (le_trans (grid_twice f a (l * 4)) (le_of_eq (mul_right_comm a l 2))) in
    halved q a (le_of_mul-le-mul_right b (pow_pos (low f)))
  where
    halved : (q a : ℕ) → q * 4 ≤ a * 2 → q * 2 ≤ a
    halved q a h = omega arith

-- ---- the rounded value, and its order
pub round_units : (f : Format) (s : Bool) (a c : ℕ) → grid f a c < overflow f → InUnits f s (round f s a c) (grid f a c)
round_units f s a c h =
    let n = a * 2 ^ low f in
    rw round_is (units_val f s (kept (prec f) n c) (drop (prec f) n c) h)

finite_above : (y : Float) (b c : ℕ) → HasValue y false b c → T (above y) → T (positive y)
finite_above nan b c h t = t
finite_above (inf s) b c h t = absurd h
finite_above (fin true n d) b c h t = t
finite_above (fin false n d) b c h t = t

-- values in order have their sizes in order
pub order_of_le : (x y : Float) (a b c : ℕ) → 0 < c → HasValue x false a c → HasValue y false b c → T (le x y) → a ≤ b
order_of_le x y a b c C h k l =
    elim (eq-zero-or-pos a) [
      | inl z ↦ le_trans (le_of_eq z) zero-le
      | inr A ↦
          let p = positive_of_value x a c h A in
          let q = finite_above y b c k (above_of_le x y p l) in
          le_of_mul-le-mul_right (values_of_le x y a c b c p q h k l) C
    ]

-- ---- between
pub round_between : (f : Format) (lo a hi : ℕ) → lo ≤ a → a ≤ hi → hi * 2 < overflow f → Held f lo → Held f hi
    → (w : ℕ) × InUnits f false (rounded f false a) w × (lo ≤ w) × (w ≤ hi)
round_between f lo a hi p q o h k =
    let l = 2 ^ low f in
    let L : 0 < l = pow_pos (low f) in
    let w = grid f a l in
    let x = rounded f false lo in
    let z = rounded f false a in
    let y = rounded f false hi in
    let v : InUnits f false z w = round_units f false a l (lt_of_le_of_lt (le_trans (units_twice f a) (mul-le-mul_right 2 q)) o) in
    let xz : T (le x z) = round_mono f lo l a l L L (mul-le-mul_right l p) in
    let zy : T (le z y) = round_mono f a l hi l L L (mul-le-mul_right l q) in
    (w, v, order_of_le x z lo w l L h v xz, order_of_le z y w hi l L v k zy)

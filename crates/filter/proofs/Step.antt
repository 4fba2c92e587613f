-- F + (x - F) × 0.25 in units, in either format: from A units, with a reading of X units, it gives a number between the two.
-- Assumes that the format holds both, and that twice the larger one does not overflow.
use mathlib.Core.Path.{◌≡◌}
use mathlib.Core.Bool.{Bool, true, false}
use Prim.Native.Nat.{ℕ, ◌+◌, ◌-◌, ◌*◌, ◌^◌, ◌≤◌, ◌<◌}
use native.Mathlib.Omega.{arith}
use lib.Dec.{T}
use lib.Ieee.{Float, Format, low, add, sub, mul}
use lib.Ieee.Scale.{grid, overflow}
use Rattle.filter.proofs.Rounding.{InUnits, rounded, Held, units_twice, quarter_half, round_units, round_between}
use Rattle.filter.proofs.Operations.{fourth, sub_up, sub_down, mul_fourth, add_up, add_down}

abbrev pub step : Format → Float → Float → Float
step f y x = add f y (mul f (sub f x y) fourth)

-- R is D rounded, at most twice D; Q is a quarter of R rounded, at most half of R; o is where overflow begins
bounds : (D R Q o : ℕ) → R ≤ D * 2 → Q * 2 ≤ R → D * 2 < o → (R < o) × (Q < o) × (Q ≤ D)
bounds D R Q o r q h = (omega arith, omega arith, omega arith)

-- so the quarter of a difference of D units is at most D units
fourth_units : (f : Format) (s : Bool) (d : Float) (D : ℕ) → d ≡ rounded f s D → D * 2 < overflow f
    → (Q : ℕ) × InUnits f s (mul f d fourth) Q × (Q ≤ D)
fourth_units f s d D e o =
    let l = 2 ^ low f in
    let R = grid f D l in
    let Q = grid f R (l * 4) in
    let b = bounds D R Q (overflow f) (units_twice f D) (quarter_half f R) o in
    let v : InUnits f s d R = rw e (round_units f s D l b.0) in
    (Q, rw (mul_fourth f s d R v) (round_units f s R (l * 4) b.1), b.2)

pub step_up : (f : Format) (s : Bool) (y x : Float) (A X : ℕ) → InUnits f s y A → (T s → A ≡ 0) → InUnits f false x X
    → Held f A → Held f X → X * 2 < overflow f → A ≤ X
    → (w : ℕ) × InUnits f false (step f y x) w × (A ≤ w) × (w ≤ X)
step_up f s y x A X k z h HA HX o g =
    let q = fourth_units f false (sub f x y) (X - A) (sub_up f s x y X A h k z g) (omega arith) in
    let w = round_between f A (A + q.0) X (omega arith) (omega (arith, q.2)) o HA HX in
    (w.0, rw (add_up f s y (mul f (sub f x y) fourth) A q.0 k z q.1) w.1, w.2, w.3)

pub step_down : (f : Format) (y x : Float) (A X : ℕ) → InUnits f false y A → InUnits f false x X
    → Held f A → Held f X → A * 2 < overflow f → X < A
    → (w : ℕ) × InUnits f false (step f y x) w × (X ≤ w) × (w ≤ A)
step_down f y x A X k h HA HX o g =
    let q = fourth_units f true (sub f x y) (A - X) (sub_down f x y X A h k g) (omega arith) in
    let w = round_between f X (A - q.0) A (omega (arith, q.2)) (omega arith) o HX HA in
    (w.0, rw (add_down f y (mul f (sub f x y) fourth) A q.0 k q.1 (omega (arith, q.2))) w.1, w.2, w.3)

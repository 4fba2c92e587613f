-- What callers need of `next`: a missing reading keeps the filter, and a reading of an empty or a running filter gives its value.
-- Assumes nothing.
use mathlib.Core.Path.{◌≡◌, refl}
use Prim.Native.Nat.{ℕ, ◌≤◌}
use native.Mathlib.Omega.{arith}
use borrow.Author.Tests.{ne_eqb}
use lib.Ieee.{Float}
use Rattle.sample.specs.Sample.{no_reading}
use Rattle.filter.specs.Filter.{as_f32, blend, with_reading, next}
use Rattle.filter.specs.declared.Filter.{Filter}
use Rattle.filter.specs.declared.Filter.TheVariants.{Empty, Running}

-- "A missing reading keeps F."
pub next_missing : (s : Filter) → next s no_reading ≡ s
unfolding next
next_missing s = refl

-- any other number is a reading
pub next_reading : (s : Filter) (x : ℕ) → (x ≡ no_reading → ⊥) → next s x ≡ with_reading s (as_f32 x)
unfolding next
next_reading s x h = simp (ne_eqb x no_reading h)

-- "The first reading x becomes F."
pub next_first : (x : ℕ) → x ≤ 16382 → next Empty x ≡ Running (as_f32 x)
unfolding with_reading
next_first x h = next_reading Empty x (λ e. omega arith)

-- "Each later one gives F + (x - F) × 0.25"
pub next_later : (f : Float) (x : ℕ) → x ≤ 16382 → next (Running f) x ≡ Running (blend f (as_f32 x))
unfolding with_reading
next_later f x h = next_reading (Running f) x (λ e. omega arith)

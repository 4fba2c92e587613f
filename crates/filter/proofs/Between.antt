-- F always lies between its old value and the reading: for every F from 0 to 16,382 that an f32 holds, -0 and subnormals
-- included, and every reading. Assumes nothing.
use mathlib.Core.Path.{◌≡◌, sym, ◌∙◌}
use Prim.Native.Nat.{ℕ, ◌≤◌}
use lib.Dec.{T}
use lib.Ieee.{Float}
use Rattle.filter.specs.Filter.{as_f32, blend, next, Between, is_f32, Valid, Moved}
use Rattle.filter.specs.declared.Filter.{Filter}
use Rattle.filter.specs.declared.Filter.TheVariants.{Running}
use Rattle.filter.proofs.NextLaws.{next_later}
use Rattle.filter.proofs.BlendOutcome.{blend_outcome}

-- "Always F lies between its old value and x."
pub next_between : (f g : Float) (x : ℕ) → Valid (Running f) → x ≤ 16382 → next (Running f) x ≡ Running g → Between f (as_f32 x) g
next_between f g x v h e =
    let same : blend f (as_f32 x) ≡ g = cc (next_later f x h) in
    rw same at (blend_outcome f x v h).between

-- the promise of `Filter::next`, from the filter that it gives
pub moved : (s : Filter) (x : ℕ) (r : Filter) → T (is_f32 s) → r ≡ next s x → Moved s x r
moved s x r v e = record {
  filter = e;
  between = λ f g h k range few. next_between f g x (record { f32 = rw h at v; range = rw h at range }) few (rw (← h) (sym e ∙ k));
}

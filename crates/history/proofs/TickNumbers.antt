-- A fact at a tick is that of the tick's sample and of what lies behind it, whatever came later; the ticks are numbered from 0 as the samples come.
-- Assumes nothing.
use mathlib.Core.Path.{◌≡◌, refl, ◌∙◌}
use mathlib.Core.Bool.{Bool, true, false, cond, false≢true}
use mathlib.Core.List.{List, [], ◌∷◌, ◌++◌}
use Prim.Native.Nat.{ℕ, ◌+◌, ◌<◌}
use native.Mathlib.Omega.{arith}
use lib.Dec.{eqb}
use lib.ListN.{length}
use borrow.Author.Tests.{eqb-true, eq-eqb, ne_eqb}
use Rattle.sample.specs.declared.Sample.{Sample}
use Rattle.history.specs.Rules.{Settings}
use Rattle.history.specs.History.{Tick, Past, Fact, size, tick_of, after}
use Rattle.history.specs.TickWords.{at_tick}

pub at_newest : (p : Fact) (t : Tick) (past : Past) → at_tick p (t ∷ past) (size past) ≡ p t past
unfolding at_tick
at_newest p t past = rw (eq-eqb (size past) (size past) refl)

pub at_older : (p : Fact) (t : Tick) (past : Past) (k : ℕ) → k < size past → at_tick p (t ∷ past) k ≡ at_tick p past k
unfolding at_tick
at_older p t past k l = rw (ne_eqb k (size past) (λ e. omega arith))

-- a tick at which a fact is true is one of the history
pub at_exists : (p : Fact) (h : Past) (k : ℕ) → at_tick p h k ≡ true → k < size h
unfolding at_tick size
at_exists p [] k e = absurd (false≢true e)
at_exists p (t ∷ past) k e = go (eqb k (size past)) refl e (at_exists p past k)
  where
    go : (c : Bool) → eqb k (size past) ≡ c → cond c (p t past) (at_tick p past k) ≡ true → (at_tick p past k ≡ true → k < size past) → k < size past + 1
    go true q u ih = omega (arith, eqb-true k (size past) q)
    go false q u ih = omega (arith, ih u)

-- ---- the ticks of samples

-- each sample adds a tick
pub size_after : (S : Settings) (past : Past) (xs : List Sample) → size (after S past xs) ≡ size past + length xs
unfolding after size
size_after S past [] = omega arith
size_after S past (x ∷ xs) = size_after S (tick_of S x past ∷ past) xs ∙ omega arith

-- more samples come after those before them
pub after_append : (S : Settings) (past : Past) (xs ys : List Sample) → after S past (xs ++ ys) ≡ after S (after S past xs) ys
unfolding after
after_append S past [] ys = refl
after_append S past (x ∷ xs) ys = after_append S (tick_of S x past ∷ past) xs ys

-- and change nothing at the ticks before them
at_before : (S : Settings) (p : Fact) (past : Past) (xs : List Sample) (k : ℕ) → k < size past → at_tick p (after S past xs) k ≡ at_tick p past k
unfolding after size
at_before S p past [] k l = refl
at_before S p past (x ∷ xs) k l = at_before S p (tick_of S x past ∷ past) xs k (omega arith) ∙ at_older p (tick_of S x past) past k l

-- "The first tick is 0, each later one is one more": the tick of a sample has the number of samples before it
pub tick_of_sample : (S : Settings) (p : Fact) (xs : List Sample) (x : Sample) (ys : List Sample)
    → at_tick p (after S [] (xs ++ (x ∷ ys))) (length xs) ≡ p (tick_of S x (after S [] xs)) (after S [] xs)
unfolding size after
tick_of_sample S p xs x ys =
    let past = after S [] xs in
    let e : size past ≡ length xs = size_after S [] xs ∙ omega arith in
    rw (after_append S [] xs (x ∷ ys), ← e)
    (at_before S p (tick_of S x past ∷ past) ys (size past) (omega arith) ∙ at_newest p (tick_of S x past) past)

-- The warning that rule 1 raises is the one of the highest rank that triggers and outranks the standing one.
-- Assumes nothing.
use mathlib.Core.Path.{◌≡◌, refl, sym, ap, ◌∙◌}
use mathlib.Core.Logic.{inl, inr, ◌↔◌}
use mathlib.Core.Logic.Iff
use mathlib.Core.Bool.{Bool, true, false, not, ◌||◌, cond, false≢true, and-eq-true_iff}
use mathlib.Core.List.Memᴰ
use mathlib.Core.List.{List, [], ◌∷◌, Memᴰ}
use Prim.Native.Nat.{ℕ, zero, suc, ◌+◌, ◌≤◌, ◌<◌}
use native.Mathlib.Omega.{arith}
use borrow.Author.Tests.{ltb-true, eq-eqb, lt-ltb}
use lib.Dec.{T, ltb, eqb, eqb→eq}
use lib.Ieee.Fits.{and_r}
use lib.ListN.{length, get_or}
use Rattle.warnings.specs.Warnings.{post_crash, unresponsive_driver, warning_count, by_rank, row_of}
use Rattle.warnings.proofs.Table.{each_passes, falling, falling_below, by_rank_falls, by_rank_has}
use Rattle.history.specs.declared.View.{View}
use Rattle.history.specs.Rules.{Settings, rank, standing_rank, triggering, triggers, overrules, highest_of, highest}
use Rattle.history.specs.TickWords.{TheHighest}

-- what a table has is had by the numbers from 1 on alone, one for each entry
had_by : (column : List Bool) (w : ℕ) → get_or (false ∷ column) w false ≡ true → (1 ≤ w) × (w ≤ length column)
had_by column zero e = absurd (false≢true e)
had_by [] (suc w) e = absurd (false≢true e)
had_by (b ∷ column) (suc zero) e = (omega arith, omega arith)
had_by (b ∷ column) (suc (suc w)) e = let r = had_by column (suc w) e in (omega arith, omega (arith, r.1))

-- no number but a warning triggers
triggers_warning : (S : Settings) (v : View) (warning : ℕ) → triggers S v warning ≡ true → (1 ≤ warning) × (warning ≤ warning_count)
unfolding triggers
triggers_warning S v warning e = had_by (triggering S v) warning e

-- "A warning outranking the standing one triggers"
pub record Overruling (S : Settings) (v : View) (warning : ℕ) : Type 0 where
  pub triggered : triggers S v warning ≡ true
  pub outranks : standing_rank v.standing < rank warning
  pub low : 1 ≤ warning
  pub high : warning ≤ warning_count

pub overrules_in_words : (S : Settings) (v : View) (warning : ℕ)
    → (overrules S v warning ≡ true) ↔ ((triggers S v warning ≡ true) × (standing_rank v.standing < rank warning))
unfolding overrules
overrules_in_words S v warning =
    Iff.trans (and-eq-true_iff _ _) (Iff.and (λ e. e, λ e. e) (λ e. ltb-true _ (rank warning) e, λ l. lt-ltb _ (rank warning) l))

pub overruling : (S : Settings) (v : View) (warning : ℕ) → overrules S v warning ≡ true → Overruling S v warning
overruling S v warning o =
    let b = (overrules_in_words S v warning).0 o in
    let r = triggers_warning S v warning b.0 in
    record { triggered = b.0; outranks = b.1; low = r.0; high = r.1 }

-- "It ranks between 2 and 3." (CR 1): what overrules 4 is 3
pub above_driver : (S : Settings) (v : View) (warning : ℕ) → Overruling S v warning → standing_rank v.standing ≡ rank unresponsive_driver → warning ≡ post_crash
unfolding rank row_of
above_driver S v warning o e =
    let l : 3 < rank warning = omega (arith, e, o.outranks) in
    eqb→eq warning post_crash (rw (lt-ltb 3 (rank warning) l) at (each_passes (λ w. not (ltb 3 (rank w)) || eqb w post_crash) tt warning o.low o.high))

module _ (S : Settings) (v : View) where
  -- what is found of a list of warnings
  record Found (ws : List ℕ) (h : ℕ) : Type 0 where
    is_one : (h ≡ 0 → ⊥) → overrules S v h ≡ true
    above_all : (w : ℕ) → Memᴰ w ws → overrules S v w ≡ true → rank w ≤ rank h
    some : (w : ℕ) → Memᴰ w ws → overrules S v w ≡ true → h ≡ 0 → ⊥

  found : (r : ℕ) (ws : List ℕ) → T (falling r ws) → Found ws (highest_of S v ws)
  unfolding highest_of rank
  found r [] f = record {
    is_one = λ z. absurd (z refl);
    above_all = λ w i o. absurd (Memᴰ.not-nil i);
    some = λ w i o z. Memᴰ.not-nil i;
  }
  found r (u ∷ ws) f = go (overrules S v u) refl (found (rank u) ws lower)
    where
      lower : T (falling (rank u) ws)
      lower = and_r (ltb (row_of u).rank r) (falling (row_of u).rank ws) f

      go : (b : Bool) → overrules S v u ≡ b → Found ws (highest_of S v ws) → Found (u ∷ ws) (cond b u (highest_of S v ws))
      go true e rest = record {
        is_one = λ z. e;
        above_all = λ w i o. elim (Memᴰ.cases_cons i) [ inl p ↦ rw p (omega arith) | inr j ↦ omega (arith, falling_below (rank u) ws lower w j) ];
        some = λ w i o z. omega (arith, (overruling S v u e).low);
      }
      go false e rest =
          let other : (w : ℕ) → Memᴰ w (u ∷ ws) → overrules S v w ≡ true → Memᴰ w ws =
          λ w i o. elim (Memᴰ.cases_cons i) [ inl p ↦ absurd (false≢true (sym e ∙ ap (overrules S v) (sym p) ∙ o)) | inr j ↦ j ] in
          record {
            is_one = rest.is_one;
            above_all = λ w i o. rest.above_all w (other w i o) o;
            some = λ w i o. rest.some w (other w i o) o;
          }

  -- "New of the highest"
  pub highest_in_words : TheHighest S v (highest S v)
  unfolding highest
  highest_in_words =
      let f = found (warning_count + 1) by_rank by_rank_falls in
      let listed : (w : ℕ) → overrules S v w ≡ true → Memᴰ w by_rank = λ w o. let r = overruling S v w o in by_rank_has w r.low r.high in
      record { is_one = f.is_one; above_all = λ w o. f.above_all w (listed w o) o; some = λ w o. f.some w (listed w o) o }

  -- so what rule 1 raises overrules
  pub highest_overrules : eqb (highest S v) 0 ≡ false → Overruling S v (highest S v)
  highest_overrules q = overruling S v (highest S v) (highest_in_words.is_one (λ z. false≢true (sym q ∙ eq-eqb (highest S v) 0 z)))

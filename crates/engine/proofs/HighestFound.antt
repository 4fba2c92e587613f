-- The search for the highest warning, in the order of falling rank: the first that overrules is raised, and where none does the standing one is kept.
-- Assumes nothing.
use mathlib.Core.Path.{◌≡◌, refl, sym, ap, ◌∙◌}
use mathlib.Core.Bool.{Bool, true, false, not, cond}
use mathlib.Core.List.{List, [], ◌∷◌}
use Prim.Native.Nat.{ℕ, suc, ◌≤◌}
use borrow.Author.Tests.{not-true}
use lib.Dec.{T, eqb, leb, leb→le}
use lib.Ieee.Fits.{and_l, and_r}
use lib.ListN.{get_or}
use Rattle.std.proofs.Common.{Option, Some, None}
use Rattle.std.specs.List.{find, list_all}
use Rattle.wire.proofs.Tests.{holds_true}
use Rattle.warnings.specs.Warnings.{warning_count, by_rank}
use Rattle.warnings.proofs.Table.{any_number}
use Rattle.history.specs.declared.View.{View}
use Rattle.history.specs.declared.Decision.{Decision}
use Rattle.history.specs.Rules.{Settings, overrules, highest_of, highest, raise, keep, decide}

-- each number of the list has its place in the table
pub listed_small : (i : ℕ) → get_or by_rank i 0 ≤ warning_count
listed_small i = leb→le _ _ (any_number (λ n. leb n warning_count) by_rank (suc i) tt)

-- 0 is no warning's number: it stands for none
abbrev numbered : ℕ → Bool
numbered w = not (eqb w 0)

abbrev pub decided_by : View → Option ℕ → Decision
decided_by v None = keep v v.standing
decided_by v (Some w) = raise v w

decided_of : (S : Settings) (v : View) (ws : List ℕ) → T (list_all numbered ws)
    → cond (eqb (highest_of S v ws) 0) (keep v v.standing) (raise v (highest_of S v ws)) ≡ decided_by v (find (overrules S v) ws)
unfolding highest_of
decided_of S v [] t = refl
decided_of S v (w ∷ ws) t =
    go (overrules S v w) (not-true _ (holds_true (numbered w) (and_l (numbered w) (list_all numbered ws) t))) (decided_of S v ws (and_r (numbered w) (list_all numbered ws) t))
  where
    lower : ℕ
    lower = highest_of S v ws

    go : (b : Bool) → eqb w 0 ≡ false → cond (eqb lower 0) (keep v v.standing) (raise v lower) ≡ decided_by v (find (overrules S v) ws)
        → cond (eqb (cond b w lower) 0) (keep v v.standing) (raise v (cond b w lower)) ≡ decided_by v (cond b (Some w) (find (overrules S v) ws))
    go true e h = rw e
    go false e h = h

pub decided : (S : Settings) (v : View) (o : Option ℕ) → o ≡ find (overrules S v) by_rank → decide S v ≡ decided_by v o
unfolding decide highest
decided S v o e = decided_of S v by_rank tt ∙ ap (decided_by v) (sym e)

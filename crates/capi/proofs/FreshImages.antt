-- What `yoldrim_fresh` leaves: the fresh engine's image, or the memory as it was.
-- Assumes nothing.
use mathlib.Core.Path.{◌≡◌, refl, sym, ap, subst, ◌∙◌}
use mathlib.Core.List.{List}
use Prim.Native.Nat.{ℕ}
use native.Mathlib.Omega.{arith}
use borrow.Author.Tests.{eq-eqb, ne_eqb}
use lib.IntN.{pos, negsuc}
use lib.ListN.{length}
use Rattle.wire.specs.Memory.{splice}
use Rattle.wire.specs.Outcome.{first_fault, outcome}
use Rattle.history.specs.declared.State.{State}
use Rattle.history.specs.Runs.{run_count}
use Rattle.history.specs.State.{fresh}
use Rattle.image.specs.Image.{image_size, image_of}
use Rattle.capi.specs.Imaged.{answer_number, fresh_fault, fresh_number, fresh_image}
use Rattle.capi.specs.ImageDemand.{ImageDemand, FreshImaged}
use Rattle.capi.proofs.ImageCalls.{image_written}
use Rattle.capi.proofs.ImageDemandHolds.{image_demand_holds}

fresh_runs : length fresh.runs ≡ run_count
unfolding fresh
fresh_runs = refl

module _ (before : List ℕ) where
  pub fresh_refused : (length before ≡ image_size → ⊥) → FreshImaged before (negsuc 20) before
  unfolding fresh_number fresh_image fresh_fault first_fault outcome answer_number
  fresh_refused h = record {
    answer = simp (ne_eqb _ _ h);
    image = simp (ne_eqb _ _ h);
    demand = λ e. let z : ◌≡◌ {A = ℕ} 0 1 = cc in absurd (omega arith);
  }

  pub fresh_written : (s : State) (bytes after : List ℕ) → length before ≡ image_size → s ≡ fresh → bytes ≡ image_of s → after ≡ splice before 0 bytes → FreshImaged before (pos 0) after
  unfolding fresh_number fresh_image fresh_fault first_fault outcome answer_number
  fresh_written s bytes after h f g e =
      let w : after ≡ image_of fresh = e ∙ ap (λ (l : List ℕ). splice before 0 l) (g ∙ ap image_of f) ∙ image_written fresh before fresh_runs h in
      record {
        answer = simp (eq-eqb _ _ h);
        image = simp (eq-eqb _ _ h) w;
        demand = λ z. subst ImageDemand (sym w) image_demand_holds;
      }

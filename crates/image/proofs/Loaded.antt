-- What `load` finds, check by check, and what its answer tells of the image: accepted, it is one; refused, it is none.
-- Assumes nothing.
use mathlib.Core.Path.{◌≡◌, ◌∙◌}
use mathlib.Core.Bool.{Bool, true, false}
use mathlib.Core.List.{List}
use Prim.Native.Nat.{ℕ}
use borrow.Author.Tests.{eq-eqb, ne_eqb}
use lib.Dec.{eqb}
use lib.ListN.{length, get_or}
use Rattle.std.proofs.Common.{◌&&◌, bytes_eq, Result, Ok, Err}
use Rattle.std.specs.Array.{IsWholeChunk}
use Rattle.wire.specs.declared.Refusal.{Refusal}
use Rattle.wire.specs.declared.Refusal.TheVariants.{EngineState}
use Rattle.wire.specs.Outcome.{first_fault, outcome, answered}
use Rattle.history.specs.declared.State.{State}
use Rattle.history.specs.Ranges.{state_in_range}
use Rattle.image.specs.Image.{layout, image_size, image_of, state_in, is_image, image_read, Loaded}
use Rattle.image.proofs.LoadOfSave.{loaded_promise}

-- ---- from the checks to the answer

abbrev pub none : Result State Refusal
none = Err EngineState

refused : (s : List ℕ) → is_image s ≡ false → Loaded s none
unfolding image_read first_fault outcome answered
refused s h = loaded_promise s none (simp h)

pub refused_length : (s : List ℕ) → (length s ≡ image_size → ⊥) → Loaded s none
unfolding is_image
refused_length s h = refused s (simp (ne_eqb _ _ h))

-- the tests behind that of the length
module _ (s t : List ℕ) (whole : IsWholeChunk s t image_size) (state : State) (e : state ≡ state_in t) (saved : Bool)
    (g : saved ≡ (eqb (get_or t 0 0) layout && state_in_range state && bytes_eq (image_of state) t)) where
  is_image_if_saved : is_image s ≡ saved
  unfolding is_image
  is_image_if_saved = rw (g, e, whole.same) (simp (eq-eqb _ _ whole.long))

  pub refused_other : saved ≡ false → Loaded s none
  refused_other h = refused s (is_image_if_saved ∙ h)

  pub loaded : saved ≡ true → Loaded s (Ok state)
  unfolding image_read first_fault outcome answered
  loaded h =
      let i : is_image s ≡ true = is_image_if_saved ∙ h in
      let same : state ≡ state_in s = rw (← whole.same) e in
      loaded_promise s (Ok state) (simp (i, ← same))

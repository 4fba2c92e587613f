-- Loading what was saved gives the state again, and an image that is accepted is byte for byte what saving makes.
-- Assumes nothing.
use mathlib.Core.Path.{◌≡◌, refl, sym, ◌∙◌}
use mathlib.Core.Bool.{true, ◌&&◌}
use mathlib.Core.List.{List}
use Prim.Native.Nat.{ℕ}
use native.Mathlib.Omega.{arith}
use borrow.Author.Tests.{eq-eqb, eqb-true, not-false}
use lib.Dec.{T, eqb}
use lib.ListN.{length, get_or}
use lib.Ieee.Fits.{and_l, and_r}
use Rattle.std.proofs.Common.{bytes_eq, Result}
use Rattle.std.proofs.lemmas.Slice.Eq.{bytes_eq-Decides}
use Rattle.wire.specs.Outcome.{first_fault, outcome, accepted, answered}
use Rattle.wire.proofs.FirstFault.{accepted_clear, clear_first}
use Rattle.wire.proofs.Tests.{holds_true, true_holds}
use Rattle.filter.specs.Filter.{is_f32}
use Rattle.history.specs.declared.State.{State}
use Rattle.history.specs.Runs.{run_count}
use Rattle.history.specs.Ranges.{state_in_range}
use Rattle.wire.specs.declared.Refusal.{Refusal}
use Rattle.image.specs.Image.{layout, image_size, image_of, state_in, is_image, image_read, Saved, Loaded}
use Rattle.image.proofs.SavedParts.{image_length}
use Rattle.image.proofs.StateAgain.{state_in_image}

-- an image begins with the layout's number
pub image_layout : (s : State) → get_or (image_of s) 0 0 ≡ layout
unfolding image_of
image_layout s = refl

module _ (s : State) (range : state_in_range s ≡ true) (size : length s.runs ≡ run_count) (f32 : T (is_f32 s.filter)) where
  pub image_is_image : is_image (image_of s) ≡ true
  unfolding is_image
  image_is_image = simp (eq-eqb _ _ (image_length s size), eq-eqb _ _ (image_layout s), state_in_image s range size f32, range, (bytes_eq-Decides (image_of s) (image_of s)).1 refl)

  -- loading what was saved gives the state again
  pub load_of_save : image_read (image_of s) ≡ accepted s
  unfolding image_read first_fault outcome
  load_of_save = simp (image_is_image, state_in_image s range size f32)

-- what an image has
pub record Image (s : List ℕ) : Type 0 where
  pub whole : length s ≡ image_size
  pub range : state_in_range (state_in s) ≡ true
  pub saved : image_of (state_in s) ≡ s

pub is_image_lem : (s : List ℕ) → is_image s ≡ true → Image s
unfolding is_image
is_image_lem s e =
    let t = true_holds (is_image s) e in
    let a = eqb (length s) image_size in
    let b = eqb (get_or s 0 0) layout in
    let c = state_in_range (state_in s) in
    let d = bytes_eq (image_of (state_in s)) s in
    let u = and_l (a && b && c) d t in
    record {
      whole = eqb-true _ _ (holds_true a (and_l a b (and_l (a && b) c u)));
      range = holds_true c (and_r (a && b) c u);
      saved = (bytes_eq-Decides (image_of (state_in s)) s).0 (holds_true d (and_r (a && b && c) d t));
    }

-- an accepted image is byte for byte what saving makes of its state, which is within 21's ranges
pub save_of_load : (s : List ℕ) (t : State) → image_read s ≡ accepted t → (image_of t ≡ s) × (state_in_range t ≡ true)
unfolding image_read
save_of_load s t r =
    let c = accepted_clear _ (state_in s) t r in
    let k = clear_first _ _ (λ z. omega arith) c.0 in
    let i = is_image_lem s (not-false (is_image s) k.0) in
    (rw (← c.1) i.saved, rw (← c.1) i.range)

-- ---- the promises of `save` and of `load`, from what they make and find

pub saved_promise : (s : State) (r : List ℕ) → length s.runs ≡ run_count → T (is_f32 s.filter) → r ≡ image_of s → Saved s r
saved_promise s r size f32 h = record { image = h; loads_back = λ range. rw h (load_of_save s range size f32) }

pub loaded_promise : (image : List ℕ) (r : Result State Refusal) → answered r ≡ image_read image → Loaded image r
unfolding answered
loaded_promise image r h = record { found = h; as_saved = λ s e. let a : answered r ≡ accepted s = rw e refl in (save_of_load image s (sym h ∙ a)).0 }

-- A call on an image does what the engine's call does on the engine in it.
-- Assumes nothing.
use mathlib.Core.Path.{◌≡◌, refl, sym, ap, ◌∙◌}
use mathlib.Core.Bool.{Bool, true, false, not, cond}
use mathlib.Core.List.{List}
use Prim.Native.Nat.{ℕ}
use native.Mathlib.Omega.{arith}
use borrow.Author.Tests.{ne_eqb, not-false}
use lib.Dec.{eqb}
use lib.IntN.{ℤ, pos, neg_ℤ}
use lib.ListN.{length}
use mir.Syntax.{w32}
use mir.Val.{to_z, of_z, SFits}
use Rattle.wire.specs.Memory.{splice}
use Rattle.wire.specs.Outcome.{first_fault, accepted, refused, outcome, number_of, Answer, answered}
use Rattle.std.specs.Prelude.{Ok, Err}
use Rattle.std.specs.Result.{is_ok}
use Rattle.wire.specs.declared.Refusal.{Refusal}
use Rattle.wire.proofs.FirstFault.{accepted_clear, numbered, outcome_refused, memory_refused}
use Rattle.wire.proofs.Splice.{splice_whole}
use Rattle.sample.specs.declared.Sample.{Sample}
use Rattle.history.specs.declared.State.{State}
use Rattle.history.specs.Rules.{unit_settings}
use Rattle.history.specs.Runs.{run_count}
use Rattle.history.specs.State.{state_after, steps_give}
use Rattle.calls.proofs.CallFaults.{lent_checks, lent_passes}
use Rattle.calls.specs.Calls.{Call, lent, samples_added, call_state, call_answer, call_memory, state_fault, Meets}
use Rattle.image.specs.Image.{image_size, image_of, state_in, is_image}
use Rattle.image.proofs.NumbersIn.{runs_in_length}
use Rattle.image.proofs.RunsKept.{runs_kept}
use Rattle.image.proofs.SavedParts.{image_length}
use Rattle.image.proofs.LoadOfSave.{is_image_lem}
use Rattle.capi.specs.Imaged.{answer_number, image_fault, call_image, ImageMeets, image_kept}
use Rattle.capi.proofs.Numbers.{again}

-- an image written over memory of its length
pub image_written : (s : State) (image : List ℕ) → length s.runs ≡ run_count → length image ≡ image_size → splice image 0 (image_of s) ≡ image_of s
image_written s image size h = splice_whole image (image_of s) (image_length s size ∙ sym h)

state_runs : (image : List ℕ) → length (state_in image).runs ≡ run_count
unfolding state_in
state_runs image = runs_in_length image

-- what was kept, by the engine's promise
kept_image : (fault : ℕ) (xs : List Sample) (image : List ℕ) → length image ≡ image_size
    → image_kept (call_answer fault xs (state_in image)) (image_of (call_state fault xs (state_in image))) image ≡ call_image fault xs image
unfolding call_answer call_state call_image outcome image_kept
kept_image fault xs image h = go (eqb fault 0)
  where
    go : (b : Bool) → image_kept (cond b (accepted (length (steps_give unit_settings (state_in image) xs))) (refused fault))
        (image_of (cond b (state_after unit_settings (state_in image) xs) (state_in image))) image
        ≡ cond b (image_of (state_after unit_settings (state_in image) xs)) image
    go true = image_written (state_after unit_settings (state_in image) xs) image (runs_kept unit_settings (state_in image) xs (state_runs image)) h
    go false = refl

-- the memory after a call, by whether it is accepted
pub kept_accepted : (a : Answer) (kept image last : List ℕ) → is_ok a ≡ true → last ≡ splice image 0 kept → last ≡ image_kept (answered a) kept image
unfolding image_kept answered
kept_accepted (Ok n) kept image last h e = e
kept_accepted (Err r) kept image last h e = let z : ◌≡◌ {A = ℕ} 0 1 = cc in absurd (omega arith)

pub kept_refused : (a : Answer) (kept image last : List ℕ) → is_ok a ≡ false → last ≡ image → last ≡ image_kept (answered a) kept image
unfolding image_kept answered
kept_refused (Ok n) kept image last h e = let z : ◌≡◌ {A = ℕ} 0 1 = cc in absurd (omega arith)
kept_refused (Err r) kept image last h e = e

-- the state that passes the checks of what is lent is that of an image
pub lent_accepted : (image bytes : List ℕ) (size room needed : ℕ) (s : State)
    → accepted s ≡ outcome (first_fault (lent_checks (not (is_image image)) bytes size room needed)) (state_in image)
    → (is_image image ≡ true) × (state_in image ≡ s)
lent_accepted image bytes size room needed s e =
    let a = accepted_clear (first_fault (lent_checks (not (is_image image)) bytes size room needed)) (state_in image) s (sym e) in
    (not-false (is_image image) (lent_passes (not (is_image image)) bytes size room needed (sym a.0)).ranges, a.1)

module _ (image : List ℕ) (c : Call) where
  -- a refused call
  pub image_refused : (x : Refusal) (r : ℤ) → number_of x ≡ image_fault image c → r ≡ neg_ℤ (pos (number_of x)) → ImageMeets image c r image (lent c)
  unfolding answer_number call_answer call_image call_memory
  image_refused x r f e =
      let k : image_fault image c ≡ 0 → ⊥ = λ q. numbered x (f ∙ q) in
      record {
        answer = e ∙ sym (ap answer_number (outcome_refused (image_fault image c) (length (steps_give unit_settings (state_in image) (samples_added c))) k ∙ ap refused (sym f)));
        image = simp (ne_eqb _ _ k);
        output = sym (memory_refused (image_fault image c) _ (lent c) k);
      }

  module _ (i : is_image image ≡ true) where
    -- on an image, the first failing check is the engine's
    fault_same : state_fault (state_in image) c ≡ image_fault image c
    unfolding state_fault image_fault
    fault_same = rw (i, (is_image_lem image i).range)

    -- the promise, from the engine's and from what `finish` does, with the number as `finish` gave it
    pub image_meets : (s : State) → state_in image ≡ s → (next : State) (r : Answer) (z : ℤ) (imageLast outLast : List ℕ) → SFits w32 z
        → (z ≡ answer_number (answered r)) × (imageLast ≡ image_kept (answered r) (image_of next) image)
        → Meets s c next r outLast
        → ImageMeets image c (to_z w32 (of_z w32 z)) imageLast outLast
    image_meets s same next r z imageLast outLast f p m =
        let n : state_fault s c ≡ image_fault image c = rw (← same) fault_same in
        let a : answered r ≡ call_answer (image_fault image c) (samples_added c) (state_in image) = m.answer ∙ rw (n, same) in
        let t : next ≡ call_state (image_fault image c) (samples_added c) (state_in image) = m.state ∙ rw (n, same) in
        record {
          answer = again z _ f (p.0 ∙ ap answer_number a);
          image = p.1 ∙ rw (a, t) (kept_image (image_fault image c) (samples_added c) image (is_image_lem image i).whole);
          output = m.output ∙ rw (n, same);
        }

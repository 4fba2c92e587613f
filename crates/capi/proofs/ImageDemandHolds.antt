-- Demand 3 for calls on one image memory, from a fresh image on: loading gives back what saving kept, so it is the engine's demand 3.
-- Assumes nothing.
use mathlib.Core.Path.{◌≡◌, refl, sym, ap, ◌∙◌}
use mathlib.Core.Bool.{Bool, true, false, cond}
use mathlib.Core.List.{List, [], ◌∷◌, map}
use Prim.Native.Nat.{ℕ}
use lib.Dec.{eqb}
use lib.ListN.{length}
use Rattle.sample.specs.declared.Sample.{Sample}
use Rattle.history.specs.declared.State.{State}
use Rattle.history.specs.Rules.{unit_settings}
use Rattle.history.specs.Runs.{run_count, facts, runs_of}
use Rattle.history.specs.State.{fresh, state_after}
use Rattle.history.proofs.StepMatchesHistory.{state_of}
use Rattle.calls.specs.Calls.{Call, lent, samples_added, call_state, call_answer, call_memory}
use Rattle.calls.specs.Demand.{document_fault, document_result, accepted_after, document_results}
use Rattle.calls.proofs.DemandHolds.{Accepted, state_at, taken_of, in_range_lem, filter_f32, same_answer, same_output, same_state, still_accepted, nothing_accepted, fresh_at, documented}
use Rattle.image.specs.Image.{image_of, state_in, is_image}
use Rattle.image.proofs.StateAgain.{state_in_image}
use Rattle.image.proofs.LoadOfSave.{image_is_image}
use Rattle.capi.specs.Imaged.{answer_number, image_fault, call_image, ImageMeets}
use Rattle.capi.specs.ImageDemand.{ImageResult, numbered, ImageRun, ended, called, ImageDemand}

-- the image of the engine after these samples
abbrev image_at : List Sample → List ℕ
image_at before = image_of (state_at before)

runs_at : (before : List Sample) → length (state_at before).runs ≡ run_count
unfolding state_at state_of runs_of facts
runs_at before = refl

-- ---- one call

module _ (before : List Sample) (a : Accepted before) (c : Call) where
  state_again : state_in (image_at before) ≡ state_at before
  state_again = state_in_image (state_at before) (in_range_lem before a) (runs_at before) (filter_f32 before a)

  same_fault : image_fault (image_at before) c ≡ document_fault (length before) c
  unfolding image_fault document_fault
  same_fault =
      let i : is_image (image_at before) ≡ true = image_is_image (state_at before) (in_range_lem before a) (runs_at before) (filter_f32 before a) in
      rw (i, state_again, taken_of before)

  number_at : answer_number (call_answer (image_fault (image_at before) c) (samples_added c) (state_in (image_at before))) ≡ answer_number (document_result before c).answer
  number_at = rw (same_fault, state_again) (ap answer_number (same_answer before c))

  output_at : call_memory (image_fault (image_at before) c) (samples_added c) (state_in (image_at before)) (lent c) ≡ (document_result before c).output
  output_at = rw (same_fault, state_again) (same_output before c)

  -- the image after a call is that of the state after it
  kept : (fault : ℕ) (xs : List Sample) (s : State) → cond (eqb fault 0) (image_of (state_after unit_settings s xs)) (image_of s) ≡ image_of (call_state fault xs s)
  unfolding call_state
  kept fault xs s = go (eqb fault 0)
    where
      go : (b : Bool) → cond b (image_of (state_after unit_settings s xs)) (image_of s) ≡ image_of (cond b (state_after unit_settings s xs) s)
      go true = refl
      go false = refl

  image_after : call_image (image_fault (image_at before) c) (samples_added c) (image_at before) ≡ image_at (accepted_after before c)
  unfolding call_image
  image_after = rw (same_fault, state_again) (kept (document_fault (length before) c) (samples_added c) (state_at before) ∙ ap image_of (same_state before c))

-- ---- the list

results_match : (before : List Sample) → Accepted before → {image : List ℕ} {calls : List Call} {results : List ImageResult}
    → ImageRun image calls results → image ≡ image_at before → results ≡ map numbered (document_results before calls)
unfolding document_results numbered
results_match before a ended same = refl
results_match before a (called {c = c} {r = r} {after = after} {last = last} {cs = cs} {rs = rs} m rest) same =
    let x : r ≡ answer_number (document_result before c).answer = m.answer ∙ rw same (number_at before a c) in
    let y : last ≡ (document_result before c).output = m.output ∙ rw same (output_at before a c) in
    let z : after ≡ image_at (accepted_after before c) = m.image ∙ rw same (image_after before a c) in
    let l : rs ≡ map numbered (document_results (accepted_after before c) cs) = results_match (accepted_after before c) (still_accepted before a c) rest z in
    rw (x, y, l)

run_made : (before : List Sample) → Accepted before → (calls : List Call) → ImageRun (image_at before) calls (map numbered (document_results before calls))
unfolding document_results numbered
run_made before a [] = ended
run_made before a (c ∷ cs) =
    let m : ImageMeets (image_at before) c (answer_number (document_result before c).answer) (image_at (accepted_after before c)) (document_result before c).output = record {
      answer = sym (number_at before a c);
      image = sym (image_after before a c);
      output = sym (output_at before a c);
    } in
    called m (run_made (accepted_after before c) (still_accepted before a c) cs)

fresh_image_lem : image_of fresh ≡ image_at []
fresh_image_lem = ap image_of fresh_at

-- demand 3, for the fresh image
pub image_demand_holds : ImageDemand (image_of fresh)
image_demand_holds = record {
  every_run = λ calls results run. record { same_results = results_match [] nothing_accepted run fresh_image_lem; documented = documented calls };
  some_run = λ calls. rw fresh_image_lem (run_made [] nothing_accepted calls);
}

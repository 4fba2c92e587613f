-- Demand 3 for calls on one image memory: the runs of a list of calls by their promises, and the claim that they have what document 01 says.
-- Assumes nothing.
use Rattle.std.specs.Prelude.{ℕ, ◌≡◌, List, [], ◌∷◌, map, ℤ, pos}
use Rattle.calls.specs.Calls.{Call}
use Rattle.calls.specs.Demand.{Result, document_results, Documented}
use Rattle.capi.specs.Imaged.{answer_number, ImageMeets, fresh_number, fresh_image}

-- what is compared of a call: its answer as a number, and its output after it
pub record ImageResult : Type 0 where
  pub number : ℤ
  pub output : List ℕ

-- a result that document 01 gives, with its answer as a number
unfoldable pub numbered : Result → ImageResult
numbered r = record { number = answer_number r.answer; output = r.output }

-- a run: each call meets its promise, the one that `yoldrim_sample` and `yoldrim_block` ensure, and takes the image that the call
-- before it left, also after a refusal; nothing else writes it meanwhile
pub data ImageRun : List ℕ → List Call → List ImageResult → Type 0 where
  ended : {image : List ℕ} → ImageRun image [] []
  called : {image : List ℕ} {c : Call} {r : ℤ} {after last : List ℕ} {cs : List Call} {rs : List ImageResult}
      → ImageMeets image c r after last
      → ImageRun after cs rs
      → ImageRun image (c ∷ cs) (record { number = r; output = last } ∷ rs)

-- "a single claim about the list", for a list of calls that had these results
pub record ImageDocumented (calls : List Call) (results : List ImageResult) : Type 0 where
  -- every answer and output byte is what document 01 says
  pub same_results : results ≡ map numbered (document_results [] calls)
  -- and there at most one warning stands after every call, and one Cancel lies between neighbouring News
  pub documented : Documented calls (document_results [] calls)

-- demand 3, for the calls on this memory: every run has what document 01 says, and there is a run of every list
pub record ImageDemand (image : List ℕ) : Type 0 where
  pub every_run : (calls : List Call) (results : List ImageResult) → ImageRun image calls results → ImageDocumented calls results
  pub some_run : (calls : List Call) → ImageRun image calls (map numbered (document_results [] calls))

-- the promise of `yoldrim_fresh`: its answer, the memory after it, and demand 3 for every list of calls on that memory
pub record FreshImaged (before : List ℕ) (r : ℤ) (after : List ℕ) : Type 0 where
  pub answer : r ≡ fresh_number before
  pub image : after ≡ fresh_image before
  pub demand : r ≡ pos 0 → ImageDemand after

-- The claim about every list of calls on an empty receiver: the runs of the list by the calls' promises, and what each has.
-- Assumes nothing.
use Rattle.std.specs.Prelude.{ℕ, ◌≤◌, ◌≡◌, ◌↔◌, length}
use mathlib.Core.List.{List, [], ◌∷◌, Memᴰ}
use Rattle.wire.specs.Outcome.{Answer, answered}
use Rattle.receiver.specs.declared.Received.{Received}
use Rattle.receiver.specs.declared.Receiver.{Receiver}
use Rattle.receiver.specs.Held.{unlapsed}
use Rattle.receiver.specs.Calls.{Call, places, Meets}
use Rattle.receiver.specs.Reading.{last_tick, held_after, Result, document_results}
use Rattle.receiver.specs.InWords.{IsHeld, Rising, past_of}

-- ---- a run from one receiver to another: each call meets its promise, the one that `Receiver::receive` and `Receiver::show` ensure, and takes the receiver that the call before it handed back, also after a refusal

pub data Run : Receiver → List Call → List Result → Receiver → Type 0 where
  ended : {r : Receiver} → Run r [] [] r
  called : {r : Receiver} {c : Call} {next : Receiver} {a : Answer} {last : List ℕ} {cs : List Call} {rs : List Result} {end : Receiver}
      → Meets r c next a last
      → Run next cs rs end
      → Run r (c ∷ cs) (record { answer = answered a; output = last } ∷ rs) end

-- ---- the claim

-- the messages that a receiver holds
abbrev pub held_by : Receiver → List Received
held_by r = unlapsed r.last (places r)

-- what a list of calls had for results, and the receiver after it
pub record Documented (calls : List Call) (results : List Result) (r : Receiver) : Type 0 where
  -- every answer and output byte is found from the list alone
  pub same_results : results ≡ document_results [] calls
  -- "the last accepted tick"
  pub clock : r.last ≡ last_tick (past_of calls)
  -- "what is held equals the last accepted message of each sender, unless that has lapsed by the last accepted tick"
  pub same_held : held_by r ≡ held_after (past_of calls)
  pub held : (x : Received) → Memᴰ x (held_by r) ↔ IsHeld (last_tick (past_of calls)) (past_of calls) x
  -- "by rising sender", so one place a sender; "up to eight senders"
  pub rising : Rising (held_by r)
  pub at_most_eight : length (held_by r) ≤ 8

-- for the calls on the receiver `empty`: every run is as the document says, and there is a run of every list
pub record Demand (empty : Receiver) : Type 0 where
  pub every_run : (calls : List Call) (results : List Result) (r : Receiver) → Run empty calls results r → Documented calls results r
  pub some_run : (calls : List Call) → (r : Receiver) × Run empty calls (document_results [] calls) r

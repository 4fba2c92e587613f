-- The two readings are one: each number of the state is a look-back over the history, and a step keeps that.
-- Assumes nothing.
use mathlib.Core.Path.{◌≡◌, refl, sym, ap, ◌∙◌}
use mathlib.Core.Bool.{Bool, true, false, not, ◌&&◌, ◌||◌, cond}
use mathlib.Core.List.{List, [], ◌∷◌, ◌++◌, reverse_aux}
use Prim.Native.Nat.{ℕ, suc, ◌+◌}
use native.Mathlib.Nat.{add-suc}
use native.Mathlib.Numerals.{add-one}
use native.Mathlib.Omega.{arith}
use borrow.Author.Tests.{leb-true, leb-false, lt-ltb, le-ltb}
use lib.Dec.{leb, ltb, leb-suc-suc}
use Rattle.std.proofs.Common.{Option, Some, None}
use Rattle.sample.specs.declared.Sample.{Sample}
use Rattle.message.specs.declared.Message.{Message}
use Rattle.history.specs.declared.Log.{Log}
use Rattle.history.specs.declared.State.{State}
use Rattle.history.specs.declared.Decision.{Decision}
use Rattle.history.specs.Rules.{Settings, decide, lasting, noticed, given_by}
use Rattle.history.specs.History.{Past, Fact, present, never, size, run, during, some_from, held, off_held, filter_after, stationary, condition_a, condition_b, condition_c, condition_d, one_of_a_to_d, one_of_e_to_h, was_ignited, messages, standing_after, driver_unresponsive, standing, events, started, origin, last_cancel, counted_from, counted, ready, cycle_of, ecall_pressed, low_severity, high_severity, highest_quality, view_of, given_at, tick_of, after, given_during}
use Rattle.history.specs.Runs.{facts, facts_of, runs_after, runs_of}
use Rattle.history.specs.State.{fresh, conditions_at, cycle_after, log_lasting, with_sample, quality_from, seen, logged, logged_notice, with_log, step, state_after, steps_give}

-- the log where n stands, of the messages, the newest first
unfoldable pub log_of : Option Message → List Message → Log
log_of n ms = record { standing = n; started = started ms; origin = origin ms; counted = counted ms; lastcancel = last_cancel ms; events = events ms }

-- the state that a history leaves
unfoldable pub state_of : Past → State
state_of h = record {
  taken = size h;
  filter = filter_after h;
  ignition = was_ignited h;
  runs = runs_of h;
  stoppedcycle = cycle_of 1 h;
  brokendowncycle = cycle_of 2 h;
  log = log_of (standing h) (messages h);
}

-- a fresh state is that of no history
pub fresh_matches : fresh ≡ state_of []
unfolding fresh size state_of runs_of facts log_of cycle_of run during filter_after was_ignited messages standing started origin counted last_cancel events
fresh_matches = refl

-- the sample is taken
taken_matches : (x : Sample) (past : Past) → with_sample (state_of past) x ≡ state_of (present x ∷ past)
unfolding with_sample facts_of runs_after conditions_at cycle_after log_lasting size state_of runs_of facts log_of cycle_of run during filter_after stationary held off_held condition_a condition_b condition_c condition_d one_of_e_to_h ready was_ignited messages driver_unresponsive standing standing_after
taken_matches x past = refl

-- the messages are logged
logged_matches : (a n : Option Message) (ms : List Message) → logged_notice (log_of n ms) a ≡ log_of (standing_after n (noticed a)) (reverse_aux (noticed a) ms)
unfolding logged_notice logged log_of noticed standing_after started origin counted counted_from last_cancel events
logged_matches None n ms = refl
logged_matches (Some m) n ms = refl

both_logged : (a b n : Option Message) (ms : List Message)
    → logged_notice (logged_notice (log_of n ms) a) b ≡ log_of (standing_after n (noticed a ++ noticed b)) (reverse_aux (noticed a ++ noticed b) ms)
unfolding noticed standing_after
both_logged a b n ms = rw (logged_matches a n ms) (logged_matches b _ _) ∙ joined a
  where
    joined : (a : Option Message) → log_of (standing_after (standing_after n (noticed a)) (noticed b)) (reverse_aux (noticed b) (reverse_aux (noticed a) ms))
        ≡ log_of (standing_after n (noticed a ++ noticed b)) (reverse_aux (noticed a ++ noticed b) ms)
    joined None = refl
    joined (Some m) = refl

given_matches : (x : Sample) (d : Decision) (past : Past)
    → with_log (state_of (present x ∷ past)) (logged_notice (logged_notice (state_of (present x ∷ past)).log d.cancel) d.report)
    ≡ state_of (record { sample = x; given = given_by d } ∷ past)
unfolding with_log given_by state_of runs_of facts size filter_after run during cycle_of stationary held off_held condition_a condition_b condition_c condition_d one_of_e_to_h ready was_ignited messages driver_unresponsive standing standing_after
given_matches x d past = rw (both_logged d.cancel d.report (lasting (driver_unresponsive (present x) past) (standing past)) (messages past))

-- ---- a happening from tick j on, by the run of ticks without one

later : (j n r : ℕ) → ltb (j + (r + 1)) (n + 1) ≡ ltb (j + r) n
later j n r = rw (add-one r, add-one n, add-suc) (leb-suc-suc (suc (j + r)) n)

some_from_step : (b c : Bool) (j n r : ℕ) → leb j n ≡ c → (c && b) || ltb (j + r) n ≡ ltb (j + cond (not b) (r + 1) 0) (n + 1)
some_from_step true true j n r e = let h = leb-true j n e in sym (lt-ltb (j + 0) (n + 1) (omega arith))
some_from_step true false j n r e =
    let h = leb-false j n e in
    le-ltb (j + r) n (omega arith) ∙ sym (le-ltb (j + 0) (n + 1) (omega arith))
some_from_step false true j n r e = sym (later j n r)
some_from_step false false j n r e = sym (later j n r)

pub some_from_run : (j : ℕ) (p : Fact) (h : Past) → some_from j p h ≡ ltb (j + run (never p) h) (size h)
unfolding some_from run size
some_from_run j p [] = sym (le-ltb (j + 0) 0 (omega arith))
some_from_run j p (t ∷ past) =
    rw (some_from_run j p past) (some_from_step (p t past) (leb j (size past)) j (size past) (run (never p) past) refl)

quality_matches : (j : ℕ) (h : Past) → highest_quality j h ≡ quality_from j (size h) (runs_of h)
unfolding highest_quality quality_from runs_of facts
quality_matches j h = rw (some_from_run j high_severity h, some_from_run j low_severity h, some_from_run j ecall_pressed h)

-- ---- both readings look at the same

view_matches : (x : Sample) (past : Past) → seen (state_of past) (state_of (present x ∷ past)) x ≡ view_of x past
unfolding seen conditions_at view_of state_of runs_of facts log_of counted_from condition_a condition_b condition_c condition_d one_of_a_to_d one_of_e_to_h held off_held was_ignited
view_matches x past =
    rw (quality_matches (counted_from (size past) (messages past)) (present x ∷ past), quality_matches (counted (messages past)) (present x ∷ past))

-- one step of the state of a history gives what the history reading gives, and leaves the state of the history with that tick
pub step_matches : (S : Settings) (x : Sample) (past : Past)
    → ((step S (state_of past) x).state ≡ state_of (tick_of S x past ∷ past)) × (given_by (step S (state_of past) x).decision ≡ given_at S x past)
unfolding step given_at tick_of
step_matches S x past =
    rw (taken_matches x past, view_matches x past) (given_matches x (decide S (view_of x past)) past, refl)

-- and so do the steps of any list of samples
pub steps_match : (S : Settings) (past : Past) (xs : List Sample)
    → (state_after S (state_of past) xs ≡ state_of (after S past xs)) × (steps_give S (state_of past) xs ≡ given_during S past xs)
unfolding state_after steps_give after given_during
steps_match S past [] = (refl, refl)
steps_match S past (x ∷ xs) =
    let m = step_matches S x past in
    let r = steps_match S (tick_of S x past ∷ past) xs in
    rw (m.0, m.1) (r.0, ap (λ (l : List Message). given_at S x past ++ l) r.1)

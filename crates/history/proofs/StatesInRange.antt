-- Every state reached from a fresh one by accepted samples, up to ten million, passes the ranges of refusal 21.
-- Assumes nothing.
use mathlib.Core.Path.{◌≡◌, refl}
use mathlib.Core.Bool.{Bool, true, false, not, ◌&&◌, cond}
use mathlib.Core.List.{List, [], ◌∷◌, map}
use Prim.Native.Nat.{◌+◌, ◌≤◌}
use native.Mathlib.Omega.{arith}
use borrow.Author.Tests.{le-leb}
use lib.Dec.{T, leb, ltb, lt→ltb}
use lib.Ieee.Fits.{and_i}
use Rattle.std.proofs.Common.{Option, Some, None, IfSome}
use Rattle.wire.proofs.Tests.{holds_true}
use Rattle.sample.specs.declared.Sample.{Sample}
use Rattle.sample.specs.Sample.{beyond}
use Rattle.filter.specs.Filter.{in_range}
use Rattle.message.specs.declared.Message.{Message}
use Rattle.message.specs.Message.{admits}
use Rattle.message.proofs.Admitted.{admits_it}
use Rattle.history.specs.Rules.{Settings}
use Rattle.history.specs.History.{Past, Fact, size, run, filter_after, stationary, messages, is_cancel, standing, events, started, origin, last_cancel, counted, cycle_of, after}
use Rattle.history.specs.Runs.{facts, runs_of}
use Rattle.history.specs.Ranges.{standing_in_range, within, state_in_range}
use Rattle.history.proofs.StepMatchesHistory.{log_of, state_of}
use Rattle.history.proofs.Reached.{LastReport, Reached}
use Rattle.history.proofs.MessagesAdmitted.{AllAccepted, reached_after}

-- no run is longer than the history
pub run_small : (p : Fact) (h : Past) → run p h ≤ size h
unfolding run size
run_small p [] = omega arith
run_small p (t ∷ past) = go (p t past) (run_small p past)
  where
    go : (b : Bool) → run p past ≤ size past → cond b (run p past + 1) 0 ≤ size past + 1
    go true ih = omega arith
    go false ih = omega arith

run_within : (p : Fact) (h : Past) → leb (run p h) (size h) ≡ true
run_within p h = le-leb (run p h) (size h) (run_small p h)

runs_within : (ps : List Fact) (h : Past) → within (size h) (map (λ (p : Fact). run p h) ps) ≡ true
unfolding within
runs_within [] h = refl
runs_within (p ∷ ps) h = rw (run_within p h, runs_within ps h)

standing_in_range_lem : (past : Past) (n : Option Message) → IfSome n (LastReport past) → T (standing_in_range (size past) n)
unfolding standing_in_range
standing_in_range_lem past None s = tt
standing_in_range_lem past (Some m) s =
    and_i (admits m && not (is_cancel m)) (ltb m.reference (size past))
    (and_i (admits m) (not (is_cancel m)) (admits_it m s.admitted) s.no_cancel)
    (lt→ltb _ _ s.earlier)

-- 21 does not refuse the state of a reached history
pub reached_in_range : (past : Past) → Reached past → size past ≤ 10000000 → T (state_in_range (state_of past))
unfolding state_in_range within state_of runs_of log_of cycle_of
reached_in_range past r most =
    simp (
      run_within,
      runs_within (facts stationary) past,
      le-leb (size past) 10000000 most,
      holds_true (in_range (filter_after past)) r.filter_valid.range,
      le-leb (started (messages past)) (size past) r.started_by_now,
      le-leb (counted (messages past)) (size past) r.counted_by_now,
      le-leb (last_cancel (messages past)) (size past) r.last_cancel_by_now,
      le-leb (events (messages past)) (size past) r.events_by_now,
      holds_true (not (beyond (origin (messages past)))) r.origin_within,
      holds_true (standing_in_range (size past) (standing past)) (standing_in_range_lem past (standing past) r.last_report),
    )
    tt

module _ (S : Settings) (xs : List Sample) (all : AllAccepted xs) (most : size (after S [] xs) ≤ 10000000) where
  -- from nothing, after any accepted samples, up to "ten million samples taken"
  pub states_in_range : T (state_in_range (state_of (after S [] xs)))
  states_in_range = reached_in_range (after S [] xs) (reached_after S xs all most) most

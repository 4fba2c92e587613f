-- What holds of every history of accepted samples: its next messages and the ranges of its state follow from it.
-- Assumes nothing.
use mathlib.Core.Path.{◌≡◌, refl}
use mathlib.Core.Bool.{Bool, true, false, not, ◌&&◌, ◌||◌, cond}
use mathlib.Core.List.{List, [], ◌∷◌}
use Prim.Native.Nat.{ℕ, ◌≤◌, ◌<◌}
use native.Mathlib.Omega.{arith}
use borrow.Author.Tests.{ltb-true, eqb-true}
use lib.Dec.{T, leb, ltb, eqb}
use Rattle.std.proofs.Common.{IfSome}
use Rattle.sample.specs.declared.Sample.{Sample}
use Rattle.sample.specs.Sample.{outside, beyond}
use Rattle.filter.specs.Filter.{Valid}
use Rattle.filter.proofs.StaysInRange.{empty_valid}
use Rattle.message.specs.declared.Message.{Message}
use Rattle.message.proofs.Admitted.{Admitted}
use Rattle.history.specs.declared.View.{View}
use Rattle.history.specs.Rules.{crash_triggers}
use Rattle.history.specs.History.{Tick, Past, present, size, some_from, filter_after, messages, is_cancel, standing, events, started, start_of_journey, origin, last_cancel, counted, ecall_pressed, low_severity, high_severity, highest_quality}

-- a tick with the sample x, at which these messages were given
abbrev pub tick_with : Sample → List Message → Tick
tick_with x given = record { sample = x; given = given }

-- of the standing warning's last New or Update: its event is the number of News, and what the New of a warning 3 counted is counted still
pub record LastReport (past : Past) (m : Message) : Type 0 where
  pub admitted : Admitted m
  pub no_cancel : T (not (is_cancel m))
  pub earlier : m.reference < size past
  pub newest : m.event ≡ events (messages past)
  pub happened : m.warning ≡ 3 → 1 ≤ highest_quality (counted (messages past)) past

-- "no state reached from a fresh engine is" outside the ranges: the filter, the ticks and the count of the messages, the standing message
pub record Reached (past : Past) : Type 0 where
  pub filter_valid : Valid (filter_after past)
  pub started_by_now : started (messages past) ≤ size past
  pub origin_within : T (not (beyond (origin (messages past))))
  pub counted_by_now : counted (messages past) ≤ size past
  pub last_cancel_by_now : last_cancel (messages past) ≤ size past
  pub events_by_now : events (messages past) ≤ size past
  pub last_report : IfSome (standing past) (LastReport past)

-- before the first New
pub start_within : T (not (beyond start_of_journey))
unfolding outside beyond
start_within = tt

-- before tick 0
pub reached_none : Reached []
unfolding size filter_after messages started origin counted last_cancel events standing
reached_none = record {
  filter_valid = empty_valid;
  started_by_now = omega arith;
  origin_within = start_within;
  counted_by_now = omega arith;
  last_cancel_by_now = omega arith;
  events_by_now = omega arith;
  last_report = tt;
}

-- ---- the happenings of warning 3

-- "the highest of eCall 1, low severity or pedestrian 2, high severity 3"
pub quality_at_most_3 : (j : ℕ) (h : Past) → highest_quality j h ≤ 3
unfolding highest_quality
quality_at_most_3 j h = go (some_from j high_severity h) (some_from j low_severity h) (some_from j ecall_pressed h)
  where
    go : (a b c : Bool) → cond a 3 (cond b 2 (cond c 1 0)) ≤ 3
    go true b c = omega arith
    go false true c = omega arith
    go false false true = omega arith
    go false false false = omega arith

-- "happenings from the first counted tick of its New up to now": what was counted at a tick is counted at the next
pub still_counted : (j : ℕ) (t : Tick) (past : Past) → 1 ≤ highest_quality j past → 1 ≤ highest_quality j (t ∷ past)
unfolding highest_quality some_from
still_counted j t past h =
    let late : Bool = leb j (size past) in
    go (late && high_severity t past) (some_from j high_severity past) (late && low_severity t past) (some_from j low_severity past) (late && ecall_pressed t past) (some_from j ecall_pressed past) h
  where
    go : (a a₀ b b₀ c c₀ : Bool) → 1 ≤ cond a₀ 3 (cond b₀ 2 (cond c₀ 1 0)) → 1 ≤ cond (a || a₀) 3 (cond (b || b₀) 2 (cond (c || c₀) 1 0))
    go true a₀ b b₀ c c₀ k = omega arith
    go false true b b₀ c c₀ k = omega arith
    go false false true b₀ c c₀ k = omega arith
    go false false false true c c₀ k = omega arith
    go false false false false true c₀ k = omega arith
    go false false false false false c₀ k = k

-- what is given at a tick is no happening
pub given_aside : (j : ℕ) (x : Sample) (given : List Message) (past : Past)
    → 1 ≤ highest_quality j (present x ∷ past) → 1 ≤ highest_quality j (tick_with x given ∷ past)
unfolding highest_quality some_from
given_aside j x given past h = h

-- "It triggers on a high severity crash among them, or on any other if still at i."
pub crash_counted : (v : View) → T (crash_triggers v) → 1 ≤ v.recent
unfolding crash_triggers
crash_counted v t = go (eqb v.recent 3) (ltb 0 v.recent) refl refl t
  where
    go : (a b : Bool) → eqb v.recent 3 ≡ a → ltb 0 v.recent ≡ b → T (a || (b && ltb 0 v.stationary)) → 1 ≤ v.recent
    go true b e f u = let q = eqb-true v.recent 3 e in omega arith
    go false true e f u = ltb-true 0 v.recent f
    go false false e f u = absurd u

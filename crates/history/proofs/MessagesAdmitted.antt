-- Every message that the history reading gives is one that refusal 14 admits: after any accepted samples, up to ten million.
-- Assumes nothing.
use mathlib.Core.Path.{◌≡◌, refl}
use mathlib.Core.Bool.{Bool, true, false, not, ◌&&◌, cond}
use mathlib.Core.List.{List, [], ◌∷◌, ◌++◌}
use Prim.Native.Nat.{ℕ, ◌+◌, ◌≤◌, ◌<◌}
use native.Mathlib.Omega.{arith}
use borrow.Author.Tests.{ne_eqb}
use lib.Dec.{T, eqb}
use Rattle.std.proofs.Common.{Option, Some, None, IfSome}
use Rattle.wire.specs.Outcome.{first_fault}
use Rattle.wire.proofs.Tests.{true_holds}
use Rattle.warnings.specs.Warnings.{new, update, post_crash, warning_count}
use Rattle.sample.specs.declared.Sample.{Sample}
use Rattle.sample.specs.Sample.{sample_checks}
use Rattle.sample.proofs.AcceptedFields.{Fields, fields_clear}
use Rattle.filter.specs.Filter.{Valid}
use Rattle.filter.proofs.StaysInRange.{next_valid}
use Rattle.message.specs.declared.Message.{Message}
use Rattle.message.specs.Message.{admits}
use Rattle.message.proofs.Admitted.{Admitted, admits_it}
use Rattle.history.specs.declared.View.{View}
use Rattle.history.specs.declared.Decision.{Decision}
use Rattle.history.specs.Rules.{Settings, rank, standing_rank, triggers, highest, report_of, cancel_of, ends_without_message, cancel_standing, end_due, update_due, silent, raise, keep, decide, lasting, noticed, given_by}
use Rattle.history.specs.History.{Past, present, size, filter_after, messages, standing_after, standing, events, started, origin, last_cancel, counted_from, counted, view_of, given_at, tick_of, after, given_during}
use Rattle.history.proofs.GivenInOrder.{either}
use Rattle.history.proofs.HighestInWords.{Overruling, highest_overrules}
use Rattle.history.proofs.Reached.{tick_with, LastReport, Reached, reached_none, quality_at_most_3, still_counted, given_aside, crash_counted}
use Rattle.history.proofs.ReportAdmitted.{report_admitted, cancel_admitted}
use Rattle.history.proofs.TickNumbers.{size_after}

-- none of the samples is refused by 3 to 8
abbrev pub AllAccepted : List Sample → Type 0
AllAccepted [] = Unit {0}
AllAccepted (x ∷ xs) = (first_fault (sample_checks x) ≡ 0) × AllAccepted xs

-- each of the messages is one that 14 admits
abbrev pub AllAdmitted : List Message → Type 0
AllAdmitted [] = Unit {0}
AllAdmitted (m ∷ ms) = T (admits m) × AllAdmitted ms

-- ---- one tick

module _ (x : Sample) (past : Past) (r : Reached past) (f : Fields x) (few : size past < 10000000) where
  abbrev ms : List Message
  ms = messages past

  abbrev v : View
  v = view_of x past

  -- what is shown of each decision
  abbrev Fits : Decision → Type 0
  Fits d = AllAdmitted (given_by d) × Reached (tick_with x (given_by d) ∷ past)

  filter_next : (given : List Message) → Valid (filter_after (tick_with x given ∷ past))
  unfolding filter_after
  filter_next given = next_valid (filter_after past) x.speed f.speed r.filter_valid

  -- one more tick, at which the standing warning may end without a message
  last_report_lasts : (triggered : Bool) (n : Option Message) → IfSome n (LastReport past) → IfSome (lasting triggered n) (LastReport (present x ∷ past))
  unfolding messages size lasting
  last_report_lasts triggered None s = tt
  last_report_lasts triggered (Some m) s =
      either (λ l. IfSome l (LastReport (present x ∷ past))) (ends_without_message m.warning && not triggered) tt (record {
        admitted = s.admitted;
        no_cancel = s.no_cancel;
        earlier = omega arith;
        newest = s.newest;
        happened = λ q. still_counted _ _ past (s.happened q);
      })

  silent_fits : Fits silent
  unfolding given_by noticed messages size standing standing_after
  silent_fits = (
    tt,
    record {
      filter_valid = filter_next [];
      started_by_now = omega arith;
      origin_within = r.origin_within;
      counted_by_now = omega arith;
      last_cancel_by_now = omega arith;
      events_by_now = omega arith;
      last_report = last_report_lasts _ (standing past) r.last_report;
    },
  )

  module _ (m : Message) (s : LastReport past m) where
    cancel_passes : ends_without_message m.warning ≡ false → T (admits (cancel_of (size past) m))
    cancel_passes cancels = admits_it _ (cancel_admitted (size past) m cancels s.admitted (omega arith) (omega arith))

    cancel_by_now : last_cancel (cancel_of (size past) m ∷ ms) ≤ size past
    unfolding last_cancel cancel_of
    cancel_by_now = either (λ (k : ℕ). k ≤ size past) (eqb m.warning post_crash) (omega arith) r.last_cancel_by_now

    -- "2. The standing one is cancelled"; where it ends without a message, nothing is given
    end_fits : Fits (record { cancel = cancel_standing (size past) (Some m); report = None })
    unfolding given_by noticed messages size cancel_standing cancel_of standing standing_after started origin counted last_cancel events
    end_fits = go (ends_without_message m.warning) refl
      where
        go : (b : Bool) → ends_without_message m.warning ≡ b → Fits (record { cancel = cond b None (Some (cancel_of (size past) m)); report = None })
        go true e = silent_fits
        go false e = (
          (cancel_passes e, tt),
          record {
            filter_valid = filter_next _;
            started_by_now = omega arith;
            origin_within = r.origin_within;
            counted_by_now = omega arith;
            last_cancel_by_now = omega (arith, cancel_by_now);
            events_by_now = omega arith;
            last_report = tt;
          },
        )

    abbrev an_update : Message
    an_update = report_of update m.warning (events ms) v.kept v

    update_admitted : Admitted an_update
    unfolding view_of
    update_admitted =
        let a = s.admitted in
        report_admitted update m.warning (events ms) v.kept v (omega arith) (omega arith) a.warning_low a.warning_high (omega (arith, a.event_low)) (omega arith)
        (λ q. still_counted _ _ past (s.happened q))
        (quality_at_most_3 _ _)
        (omega arith)
        f

    -- "3. Update"
    update_fits : Fits (record { cancel = None; report = Some an_update })
    unfolding given_by noticed messages size report_of standing standing_after started origin counted last_cancel events view_of
    update_fits = (
      (admits_it _ update_admitted, tt),
      record {
        filter_valid = filter_next _;
        started_by_now = omega arith;
        origin_within = r.origin_within;
        counted_by_now = omega arith;
        last_cancel_by_now = omega arith;
        events_by_now = omega arith;
        last_report = record {
          admitted = update_admitted;
          no_cancel = tt;
          earlier = omega arith;
          newest = refl;
          happened = λ q. still_counted _ _ past (s.happened q);
        };
      },
    )

  keep_fits : (n : Option Message) → IfSome n (LastReport past) → Fits (keep v n)
  unfolding keep view_of
  keep_fits None s = silent_fits
  keep_fits (Some m) s = either Fits (end_due v m) (end_fits m s) (either Fits (update_due v m) (update_fits m s) silent_fits)

  module _ (warning : ℕ) (low : 1 ≤ warning) (high : warning ≤ warning_count) (happened : warning ≡ 3 → 1 ≤ v.recent) where
    abbrev a_new : Message
    a_new = report_of new warning (events ms + 1) v.recent v

    new_admitted : Admitted a_new
    unfolding view_of
    new_admitted =
        report_admitted new warning (events ms + 1) v.recent v (omega arith) (omega arith) low high (omega arith) (omega arith)
        happened
        (quality_at_most_3 _ _)
        (omega arith)
        f

    -- a New, given after messages that leave the count of News and what 3 counts
    new_reached : (given before : List Message) → messages (tick_with x given ∷ past) ≡ a_new ∷ before → standing (tick_with x given ∷ past) ≡ Some a_new
        → events before ≡ events ms → last_cancel before ≤ size past → (warning ≡ 3 → last_cancel before ≡ last_cancel ms)
        → Reached (tick_with x given ∷ past)
    unfolding size report_of started origin counted counted_from last_cancel events view_of
    new_reached given before e stands count lastcancel same = record {
      filter_valid = filter_next given;
      started_by_now = rw e (omega arith);
      origin_within = rw e new_admitted.position;
      counted_by_now = rw e (omega arith);
      last_cancel_by_now = rw e (omega arith);
      events_by_now = rw e (omega arith);
      last_report = rw stands (record {
        admitted = new_admitted;
        no_cancel = tt;
        earlier = omega arith;
        newest = rw (e, count);
        happened = λ q. rw (e, same q) (given_aside _ x given past (happened q));
      });
    }

    alone_fits : Fits (record { cancel = None; report = Some a_new })
    unfolding given_by noticed messages standing standing_after report_of
    alone_fits = ((admits_it _ new_admitted, tt), new_reached _ ms refl refl refl r.last_cancel_by_now (λ q. refl))

    -- "1. .. Cancel of the standing one, if any, then New of the highest"; one that 3 outranks is not 3, so its Cancel leaves what 3 counts
    raise_fits : (n : Option Message) → IfSome n (LastReport past) → standing_rank n < rank warning
        → Fits (record { cancel = cancel_standing (size past) n; report = Some a_new })
    unfolding given_by noticed messages standing standing_after standing_rank cancel_standing cancel_of report_of last_cancel events
    raise_fits None s outranked = alone_fits
    raise_fits (Some m) s outranked = go (ends_without_message m.warning) refl
      where
        not-3 : warning ≡ 3 → m.warning ≡ 3 → ⊥
        not-3 q e = let z : rank m.warning ≡ rank warning = cc in omega arith

        go : (b : Bool) → ends_without_message m.warning ≡ b → Fits (record { cancel = cond b None (Some (cancel_of (size past) m)); report = Some a_new })
        go true e = alone_fits
        go false e =
            ((cancel_passes m s e, (admits_it _ new_admitted, tt)), new_reached _ (cancel_of (size past) m ∷ ms) refl refl refl (cancel_by_now m s) (λ q. rw (ne_eqb m.warning post_crash (not-3 q))))

  -- "A warning outranking the standing one triggers (with none standing, any)"
  overrule_fits : (S : Settings) (warning : ℕ) → Overruling S v warning → Fits (raise v warning)
  unfolding raise view_of triggers
  overrule_fits S warning o =
      let happened : warning ≡ 3 → 1 ≤ v.recent = λ q. crash_counted v (true_holds _ (rw q at o.triggered)) in
      raise_fits warning o.low o.high happened (standing past) r.last_report o.outranks

  -- "At tick i, first that applies"
  decision_fits : (S : Settings) → Fits (decide S v)
  unfolding decide view_of
  decision_fits S = go (eqb (highest S v) 0) refl
    where
      go : (b : Bool) → eqb (highest S v) 0 ≡ b → Fits (cond b (keep v (standing past)) (raise v (highest S v)))
      go true q = keep_fits (standing past) r.last_report
      go false q = overrule_fits S (highest S v) (highest_overrules S v q)

-- ---- the theorems

module _ (S : Settings) (x : Sample) (past : Past) (r : Reached past) (f : Fields x) (few : size past < 10000000) where
  -- each message given at a tick passes "14 message field outside the values given above or in 7 and 8 for its place; .."
  pub given_admitted : AllAdmitted (given_at S x past)
  unfolding given_at
  given_admitted = (decision_fits x past r f few S).0

  -- what holds after accepted samples holds after one more
  pub reached_more : Reached (tick_of S x past ∷ past)
  unfolding tick_of given_at
  reached_more = (decision_fits x past r f few S).1

all_appended : (a b : List Message) → AllAdmitted a → AllAdmitted b → AllAdmitted (a ++ b)
all_appended [] b p q = q
all_appended (m ∷ a) b p q = (p.0, all_appended a b p.1 q)

from_reached : (S : Settings) (past : Past) (xs : List Sample) → Reached past → AllAccepted xs → size (after S past xs) ≤ 10000000
    → Reached (after S past xs) × AllAdmitted (given_during S past xs)
unfolding after given_during size
from_reached S past [] r a most = (r, tt)
from_reached S past (x ∷ xs) r a most =
    let f = fields_clear x a.0 in
    let l = size_after S (tick_of S x past ∷ past) xs in
    let rest = from_reached S (tick_of S x past ∷ past) xs (reached_more S x past r f (omega arith)) a.1 most in
    (rest.0, all_appended (given_at S x past) (given_during S (tick_of S x past ∷ past) xs) (given_admitted S x past r f (omega arith)) rest.1)

module _ (S : Settings) (xs : List Sample) (all : AllAccepted xs) (most : size (after S [] xs) ≤ 10000000) where
  -- from nothing, after any accepted samples, up to "ten million samples taken"
  pub reached_after : Reached (after S [] xs)
  reached_after = (from_reached S [] xs reached_none all most).0

  -- and each message given at them passes 14
  pub messages_admitted : AllAdmitted (given_during S [] xs)
  messages_admitted = (from_reached S [] xs reached_none all most).1

-- "reference = now": each message of a decision has the number of the tick at which it is given, and a Cancel is no New.
-- Assumes nothing.
use mathlib.Core.Path.{◌≡◌, refl}
use mathlib.Core.Bool.{false}
use Prim.Native.Nat.{ℕ, ◌+◌}
use lib.Dec.{eqb}
use Rattle.std.proofs.Common.{Option, Some, None, IfSome}
use Rattle.warnings.specs.Warnings.{new, update}
use Rattle.message.specs.declared.Message.{Message}
use Rattle.history.specs.declared.View.{View}
use Rattle.history.specs.declared.Decision.{Decision}
use Rattle.history.specs.Rules.{Settings, highest, report_of, cancel_of, ends_without_message, cancel_standing, end_due, update_due, raise, keep, decide}
use Rattle.history.specs.History.{is_new}
use Rattle.history.proofs.GivenInOrder.{either}

abbrev pub IsCancel : ℕ → Message → Type 0
IsCancel i m = (is_new m ≡ false) × (m.reference ≡ i)

-- what is given at tick i
pub record DecidedNow (i : ℕ) (d : Decision) : Type 0 where
  pub cancel : IfSome d.cancel (IsCancel i)
  pub report : IfSome d.report (λ m. m.reference ≡ i)

module _ (v : View) where
  cancelled : (s : Option Message) → IfSome (cancel_standing v.tick s) (IsCancel v.tick)
  unfolding cancel_standing cancel_of
  cancelled None = tt
  cancelled (Some m) = either (λ o. IfSome o (IsCancel v.tick)) (ends_without_message m.warning) tt (refl, refl)

  reported : (kind warning event g : ℕ) → (report_of kind warning event g v).reference ≡ v.tick
  unfolding report_of
  reported kind warning event g = refl

  kept : (s : Option Message) → DecidedNow v.tick (keep v s)
  unfolding keep
  kept None = record { cancel = tt; report = tt }
  kept (Some p) =
      either (DecidedNow v.tick) (end_due v p) (record { cancel = cancelled (Some p); report = tt })
      (either (DecidedNow v.tick) (update_due v p) (record { cancel = tt; report = reported update p.warning v.events v.kept }) (record { cancel = tt; report = tt }))

  pub decided_now : (S : Settings) → DecidedNow v.tick (decide S v)
  unfolding decide raise
  decided_now S =
      either (DecidedNow v.tick) (eqb (highest S v) 0) (kept v.standing)
      (record { cancel = cancelled v.standing; report = reported new (highest S v) (v.events + 1) v.recent })

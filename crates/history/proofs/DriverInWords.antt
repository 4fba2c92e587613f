-- When warning 4 triggers and when rule 2 ends it are as CR 1's sentences on ticks say.
-- Assumes nothing.
use mathlib.Core.Path.{◌≡◌, refl, ap}
use mathlib.Core.Logic.{◌↔◌, ◌⊎◌, inl, inr}
use mathlib.Core.Bool.{Bool, true, false, not, ◌&&◌, true≢false, false≢true}
use mathlib.Core.List.{◌∷◌}
use lib.Dec.{ltb}
use borrow.Author.Tests.{eq-eqb, ne_eqb}
use Rattle.warnings.specs.Warnings.{unresponsive_driver}
use Rattle.sample.specs.declared.Sample.{Sample}
use Rattle.message.specs.declared.Message.{Message}
use Rattle.history.specs.declared.View.{View}
use Rattle.history.specs.Rules.{Settings, unresponsive, driver_triggers, triggers, cancel_due, end_due}
use Rattle.history.specs.History.{Past, Fact, Tick, present, size, run, filter_after, stationary, mitigation_active, driver_unresponsive, view_of}
use Rattle.history.specs.TickWords.{DriverTriggers, DriverEnds}
use Rattle.history.proofs.RunsGoOn.{begun_now}
use Rattle.history.proofs.TickNumbers.{at_newest}

-- a run has ticks exactly if its fact is true at the newest tick
pub run_begun : (p : Fact) (t : Tick) (past : Past) → ltb 0 (run p (t ∷ past)) ≡ p t past
unfolding run
run_begun p t past = begun_now (p t past) (run p past)

-- names what the trigger computes with: it is of the ticks' samples alone, whatever they gave
unfoldable pub opened_driver : Unit {0}
unfolding driver_unresponsive stationary filter_after run
opened_driver = tt

-- what the rules look at is the fact at the tick
pub driver_triggers_now : (x : Sample) (past : Past) → driver_triggers (view_of x past) ≡ driver_unresponsive (present x) past
unfolding driver_triggers view_of driver_unresponsive
driver_triggers_now x past = ap (λ b. unresponsive b x) (run_begun stationary (present x) past)

-- "Warning 4 triggers while the bit is set and the vehicle isn't still."
pub driver_triggers_in_words : (S : Settings) (x : Sample) (past : Past)
    → (triggers S (view_of x past) 4 ≡ true) ↔ DriverTriggers (present x ∷ past) (size past)
unfolding triggers driver_unresponsive unresponsive
driver_triggers_in_words S x past =
    let t = present x in
    rw (driver_triggers_now x past, at_newest mitigation_active t past, at_newest stationary t past) (go (mitigation_active t past) (stationary t past))
  where
    go : (a b : Bool) → (a && not b ≡ true) ↔ ((a ≡ true) × (b ≡ false))
    go true true = (λ e. absurd (false≢true e), λ w. absurd (true≢false w.1))
    go true false = (λ e. (refl, refl), λ w. refl)
    go false b = (λ e. absurd (false≢true e), λ w. absurd (false≢true w.0))

-- "at rule 2 when the bit clears or the vehicle is still"
pub end_due_4_in_words : (x : Sample) (past : Past) (m : Message) → m.warning ≡ 4
    → (end_due (view_of x past) m ≡ true) ↔ DriverEnds (present x ∷ past) (size past)
unfolding end_due driver_unresponsive unresponsive
end_due_4_in_words x past m e =
    let t = present x in
    rw (eq-eqb m.warning unresponsive_driver e, driver_triggers_now x past, at_newest mitigation_active t past, at_newest stationary t past)
    (go (mitigation_active t past) (stationary t past))
  where
    go : (a b : Bool) → (not (a && not b) ≡ true) ↔ ((a ≡ false) ⊎ (b ≡ true))
    go true true = (λ e. inr refl, λ w. refl)
    go true false = (λ e. absurd (false≢true e), λ w. elim w [ inl f ↦ absurd (true≢false f) | inr f ↦ absurd (false≢true f) ])
    go false b = (λ e. inl refl, λ w. refl)

-- another warning is ended by what cancels it
pub end_due_in_words : (v : View) (m : Message) → (m.warning ≡ 4 → ⊥) → end_due v m ≡ cancel_due v m
unfolding end_due
end_due_in_words v m other = rw (ne_eqb m.warning unresponsive_driver other)

-- When a warning stands, in document 01's own words ("What demand 3 compares") and CR 1's, over the ticks that have passed and what was given at them.
-- Assumes nothing.
use Rattle.std.specs.Prelude.{◌≡◌, ◌⊎◌, Bool, true, false, not, ◌&&◌, ◌||◌, cond, ℕ, ◌+◌, eqb}
use mathlib.Core.List.{List, [], ◌∷◌, Memᴰ}
use Rattle.warnings.specs.Warnings.{post_crash, unresponsive_driver}
use Rattle.message.specs.declared.Message.{Message}
use Rattle.history.specs.History.{Tick, Past, Fact, is_new, is_cancel, driver_unresponsive}

-- a message that passes the test is among them
unfoldable pub among : (Message → Bool) → List Message → Bool
among test [] = false
among test (m ∷ ms) = test m || among test ms

-- a Cancel with the event e
abbrev pub cancel_with : ℕ → Message → Bool
cancel_with e m = is_cancel m && eqb m.event e

-- a New of warning 3
abbrev pub new_of_3 : Message → Bool
new_of_3 m = is_new m && eqb m.warning post_crash

-- the warning of the New n ends at a tick: "the Cancel with the same event" is given at it; 4 "ends without a message, and stands no more, at rule 1 when 3 triggers, else at rule 2 when the bit clears or the vehicle is still" (CR 1)
unfoldable pub ends_at : Message → Fact
ends_at n t past =
    cond (eqb n.warning unresponsive_driver) (among new_of_3 t.given || not (driver_unresponsive t past))
    (among (cancel_with n.event) t.given)

-- "its New": n is a New, given at the tick
pub record BeginsAt (n : Message) (t : Tick) : Type 0 where
  pub is_a_new : is_new n ≡ true
  pub given : Memᴰ n t.given

-- "A warning stands from its New until" it ends; "before tick 0 none stands.": that of the New n, after the ticks that have passed
abbrev pub Stands : Message → Past → Type 0
Stands n [] = ⊥
Stands n (t ∷ past) = (BeginsAt n t ⊎ Stands n past) × (ends_at n t past ≡ false)

-- how many Cancels are among them
unfoldable pub cancels : List Message → ℕ
cancels [] = 0
cancels (m ∷ ms) = cond (is_cancel m) (cancels ms + 1) (cancels ms)

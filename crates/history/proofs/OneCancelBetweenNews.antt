-- Between two neighbouring New messages there is exactly one Cancel where the earlier is not of 4, and none where it is.
-- Assumes nothing.
use mathlib.Core.Path.{◌≡◌, sym, ◌∙◌}
use mathlib.Core.Bool.{true, cond}
use mathlib.Core.List.{List, [], ◌∷◌, ◌++◌, reverse_aux, reverse_aux-append}
use Prim.Native.Nat.{◌+◌}
use native.Mathlib.Omega.{arith}
use borrow.Author.Tests.{eqb-true}
use lib.Dec.{eqb}
use Rattle.warnings.specs.Warnings.{new, unresponsive_driver}
use Rattle.sample.specs.declared.Sample.{Sample}
use Rattle.message.specs.declared.Message.{Message}
use Rattle.history.specs.Rules.{Settings}
use Rattle.history.specs.History.{is_new, messages, events, given_during}
use Rattle.history.specs.Standing.{cancels}
use Rattle.history.proofs.GivenInOrder.{due, ComesNext, InOrder, in_order_before, messages_after, given_in_order}
use Rattle.history.proofs.GivenInOrder.ComesNext.{a_new_lem, an_update_lem, a_cancel}

until_new : (mid : List Message) (m : Message) (b ms : List Message) → m.kind ≡ new → events mid ≡ 0
    → InOrder (reverse_aux (mid ++ (m ∷ b)) ms) → cancels mid ≡ due ms
unfolding events cancels due
until_new [] m b ms k z o = go (in_order_before b (m ∷ ms) o).0
  where
    go : ComesNext m ms → 0 ≡ due ms
    go (a_new_lem l d v) = sym d
    go (an_update_lem l d v) = absurd (omega arith)
    go (a_cancel l d v) = absurd (omega arith)
until_new (n ∷ mid) m b ms k z o = go (in_order_before (mid ++ (m ∷ b)) (n ∷ ms) o).0 z (λ y. until_new mid m b (n ∷ ms) k y o)
  where
    go : ComesNext n ms → events (n ∷ mid) ≡ 0 → (events mid ≡ 0 → cancels mid ≡ due (n ∷ ms)) → cancels (n ∷ mid) ≡ due ms
    go (a_new_lem l d v) y ih = let f : events mid + 1 ≡ 0 = rw l at y in absurd (omega arith)
    go (an_update_lem l d v) y ih = rw l (ih (rw l at y) ∙ d)
    go (a_cancel l d v) y ih = let c : cancels mid ≡ 0 = rw l at (ih (rw l at y)) in rw (l, d, c)

-- "One Cancel stands between neighbouring New messages where the earlier isn't of 4, none where it is." (CR 1); "Two New messages are neighbouring if no New lies between them"
pub one_cancel_between_news : (S : Settings) (xs : List Sample) (a : List Message) (n : Message) (mid : List Message) (m : Message) (b : List Message)
    → given_during S [] xs ≡ a ++ (n ∷ (mid ++ (m ∷ b))) → is_new n ≡ true → is_new m ≡ true → events mid ≡ 0 → cancels mid ≡ cond (eqb n.warning unresponsive_driver) 0 1
unfolding messages due
one_cancel_between_news S xs a n mid m b e first second none =
    let o : InOrder (reverse_aux (n ∷ (mid ++ (m ∷ b))) (reverse_aux a [])) =
    rw (messages_after S [] xs, e, reverse_aux-append) at (given_in_order S xs) in
    let k : n.kind ≡ new = eqb-true n.kind new first in
    until_new mid m b (n ∷ reverse_aux a []) (eqb-true m.kind new second) none o ∙ rw k

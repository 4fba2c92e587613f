-- A receiver made to hold no more than eight messages holds them.
-- Assumes nothing.
use mathlib.Core.Path.{◌≡◌, refl, ap, ◌∙◌}
use mathlib.Core.Bool.{not}
use mathlib.Core.List.{List}
use Prim.Native.Nat.{ℕ, ◌≤◌, ◌<◌}
use native.Mathlib.Omega.{arith}
use lib.ListN.{length, get_or}
use Rattle.std.proofs.lemmas.List.FromFn.{get_or-map-range_with_len}
use Rattle.receiver.specs.declared.Received.{Received}
use Rattle.receiver.specs.Held.{has_lapsed, unlapsed}
use Rattle.receiver.specs.Calls.{nothing, place, by_place, places, holding}
use Rattle.receiver.proofs.Filters.{kept_places}
use Rattle.receiver.proofs.Lapsing.{nothing_lapsed}

places_made : (last : ℕ) (xs : List Received) → places (holding last xs) ≡ by_place (λ k. get_or xs k nothing)
unfolding places place holding nothing
places_made last xs = refl

pub holds_them : (last tick : ℕ) (xs : List Received) → length xs ≤ 8 → unlapsed tick (places (holding last xs)) ≡ unlapsed tick xs
holds_them last tick xs few = ap (unlapsed tick) (places_made last xs) ∙ kept_places (λ x. not (has_lapsed tick x)) nothing (nothing_lapsed tick) xs 8 few

-- place by place
made_at : {A : Type 0} (f : Received → A) (xs : List Received) (k : ℕ) (d : A) → k < 8 → get_or (by_place (λ i. f (get_or xs i nothing))) k d ≡ f (get_or xs k nothing)
made_at f xs k d h = get_or-map-range_with_len (λ i. f (get_or xs i nothing)) 0 8 k k d h (omega arith)

pub place_made : (last : ℕ) (xs : List Received) (k : ℕ) → k < 8 → place (holding last xs) k ≡ get_or xs k nothing
unfolding place holding
place_made last xs k h =
    rw (made_at (λ x. x.sender) xs k 0 h, made_at (λ x. x.arrival) xs k 0 h, made_at (λ x. x.message) xs k nothing.message h) refl

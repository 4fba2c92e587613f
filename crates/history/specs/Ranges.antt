-- The ranges of refusal 21, as docs/DECISIONS.md lists them.
-- Assumes nothing.
use Rattle.std.specs.Prelude.{ℕ, suc, ◌≤◌, Bool, true, not, ◌&&◌, List, [], ◌∷◌, leb, ltb, get_or, Option, Some, None}
use Rattle.sample.specs.Sample.{beyond}
use Rattle.filter.specs.Filter.{in_range}
use Rattle.message.specs.declared.Message.{Message}
use Rattle.message.specs.Message.{admits}
use Rattle.history.specs.declared.State.{State}
use Rattle.history.specs.History.{is_cancel}

-- the standing warning's message is one that 14 admits and no Cancel, of a tick before n
unfoldable pub standing_in_range : ℕ → Option Message → Bool
standing_in_range n None = true
standing_in_range n (Some m) = admits m && not (is_cancel m) && ltb m.reference n

-- every number of the state that counts ticks or News, or is the number of a tick
abbrev pub counts : State → List ℕ
counts s =
    s.stoppedcycle.ticks
    ∷ s.brokendowncycle.ticks
    ∷ s.log.started
    ∷ s.log.counted
    ∷ s.log.lastcancel
    ∷ s.log.events
    ∷ s.runs

-- the place of each among them; the runs stand behind the six others
abbrev pub stopped_place : ℕ
stopped_place = 0

abbrev pub broken_down_place : ℕ
broken_down_place = 1

abbrev pub started_place : ℕ
started_place = 2

abbrev pub counted_place : ℕ
counted_place = 3

abbrev pub last_cancel_place : ℕ
last_cancel_place = 4

abbrev pub events_place : ℕ
events_place = 5

abbrev pub run_place : ℕ → ℕ
run_place i = suc (suc (suc (suc (suc (suc i)))))

-- none of the numbers is above n
unfoldable pub within : ℕ → List ℕ → Bool
within n [] = true
within n (k ∷ ks) = leb k n && within n ks

abbrev pub Within : ℕ → List ℕ → Type 0
Within n ks = (i : ℕ) → get_or ks i 0 ≤ n

-- "21 a state with a number outside the ranges": no more than 10,000,000 samples were taken, no count or tick is above their number, and
-- the filter, the standing message and the position of the last New are in range
unfoldable pub state_in_range : State → Bool
state_in_range s =
    leb s.taken 10000000
    && in_range s.filter
    && standing_in_range s.taken s.log.standing
    && not (beyond s.log.origin)
    && within s.taken (counts s)

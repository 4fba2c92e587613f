-- The unbroken runs that the state keeps: one list of facts, and the place of each one's run.
-- Assumes nothing.
use Rattle.std.specs.Prelude.{ℕ, ◌+◌, Bool, cond, List, [], ◌∷◌, map, get_or}
use Rattle.sample.specs.declared.Sample.{Sample}
use Rattle.history.specs.History.{Past, Fact, present, never, run, stationary, speed_read, parked, idling, braked, belted, ignited, door_open, boot_open, bonnet_open, ecall_pressed, low_severity, high_severity}

-- the facts whose unbroken runs are kept. Still is an argument: for a history it is `stationary`, and for one new sample it is known
-- already; no other fact here looks at the ticks before its own, so a step can tell each of them from the sample
unfoldable pub facts : Fact → List Fact
facts still =
    still
    ∷ never still
    ∷ parked
    ∷ idling
    ∷ braked
    ∷ never belted
    ∷ never ignited
    ∷ door_open
    ∷ boot_open
    ∷ bonnet_open
    ∷ never ecall_pressed
    ∷ never low_severity
    ∷ never high_severity
    ∷ never speed_read
    ∷ []

-- how many there are, and the run at each place
abbrev pub run_count : ℕ
run_count = 14

abbrev pub still_run : List ℕ → ℕ
still_run rs = get_or rs 0 0

abbrev pub moving_run : List ℕ → ℕ
moving_run rs = get_or rs 1 0

abbrev pub park_run : List ℕ → ℕ
park_run rs = get_or rs 2 0

abbrev pub idle_run : List ℕ → ℕ
idle_run rs = get_or rs 3 0

abbrev pub brake_run : List ℕ → ℕ
brake_run rs = get_or rs 4 0

abbrev pub belt_off_run : List ℕ → ℕ
belt_off_run rs = get_or rs 5 0

abbrev pub ignition_off_run : List ℕ → ℕ
ignition_off_run rs = get_or rs 6 0

abbrev pub door_run : List ℕ → ℕ
door_run rs = get_or rs 7 0

abbrev pub boot_run : List ℕ → ℕ
boot_run rs = get_or rs 8 0

abbrev pub bonnet_run : List ℕ → ℕ
bonnet_run rs = get_or rs 9 0

abbrev pub no_ecall_run : List ℕ → ℕ
no_ecall_run rs = get_or rs 10 0

abbrev pub no_low_run : List ℕ → ℕ
no_low_run rs = get_or rs 11 0

abbrev pub no_high_run : List ℕ → ℕ
no_high_run rs = get_or rs 12 0

abbrev pub missing_place : ℕ
missing_place = 13

abbrev pub missing_run : List ℕ → ℕ
missing_run rs = get_or rs missing_place 0

-- the runs that a history leaves
unfoldable pub runs_of : Past → List ℕ
runs_of h = map (λ (p : Fact). run p h) (facts stationary)

-- ---- one tick more

-- which of the facts are true of a sample, by whether the vehicle is still with it
unfoldable pub facts_of : Bool → Sample → List Bool
facts_of still x = map (λ (p : Fact). p (present x) []) (facts (λ t past. still))

-- a run that goes on, or ends
abbrev pub go_on : Bool → ℕ → ℕ
go_on b n = cond b (n + 1) 0

unfoldable pub runs_after : List Bool → List ℕ → List ℕ
runs_after [] rs = []
runs_after (b ∷ bs) [] = []
runs_after (b ∷ bs) (n ∷ rs) = go_on b n ∷ runs_after bs rs

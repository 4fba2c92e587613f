-- The history reading of document 01, and of CR 1, CR 2 and CR 5: it sees all accepted samples and the messages given before, looks back over them, and keeps nothing.
-- Assumes nothing.
use Rattle.std.specs.Prelude.{ℕ, ◌+◌, ◌-◌, max, Bool, false, not, ◌&&◌, ◌||◌, cond, leb, ltb, eqb, pos, Option, Some, None}
use mathlib.Core.List.{List, [], ◌∷◌, ◌++◌, reverse_aux}
use Rattle.warnings.specs.Warnings.{new, cancel, stopped, broken_down, post_crash}
use Rattle.sample.specs.declared.Position.{Position}
use Rattle.sample.specs.declared.Sample.{Sample}
use Rattle.sample.specs.Sample.{switches_of, happenings_of, has_reading}
use Rattle.filter.specs.declared.Filter.{Filter}
use Rattle.filter.specs.declared.Filter.TheVariants.{Empty}
use Rattle.filter.specs.Filter.{next, is_at_most_8}
use Rattle.message.specs.declared.Message.{Message}
use Rattle.history.specs.declared.Cycle.{Cycle}
use Rattle.history.specs.declared.View.{View}
use Rattle.history.specs.Rules.{Settings, rank, standing_rank, unresponsive, decide, lasting, given_by}

-- a tick that has passed: its sample, and the messages given at it in their order
pub record Tick : Type 0 where
  pub sample : Sample
  pub given : List Message

-- the ticks that have passed, the newest first
abbrev pub Past : Type 0
Past = List Tick

-- the tick that is being decided: nothing is given at it yet
abbrev pub present : Sample → Tick
present x = record { sample = x; given = [] }

-- ---- looking back

-- what may be true at a tick, with the ticks that lie behind it
abbrev pub Fact : Type 0
Fact = Tick → Past → Bool

abbrev pub never : Fact → Fact
never p t past = not (p t past)

-- how many ticks have passed, which is the number of the next: "The first tick is 0, each later one is one more"
unfoldable pub size : Past → ℕ
size [] = 0
size (t ∷ past) = size past + 1

-- the length of the unbroken run of p that ends with the newest tick
unfoldable pub run : Fact → Past → ℕ
run p [] = 0
run p (t ∷ past) = cond (p t past) (run p past + 1) 0

-- q was true at some tick of that run
unfoldable pub during : Fact → Fact → Past → Bool
during p q [] = false
during p q (t ∷ past) = cond (p t past) (q t past || during p q past) false

-- p was true at some tick from tick j on
unfoldable pub some_from : ℕ → Fact → Past → Bool
some_from j p [] = false
some_from j p (t ∷ past) = (leb j (size past) && p t past) || some_from j p past

-- "A fact is held for d at tick i if i is at least d and it is true at all ticks i-d to i."
unfoldable pub held : ℕ → Fact → Fact
held d p t past = ltb d (run p (t ∷ past))

-- "A switch-off is held for d at i if the switch is off at all ticks j to i, with i-j at least d, and on at j-1."
unfoldable pub off_held : ℕ → Fact → Fact
off_held d p t past = ltb d (run (never p) (t ∷ past)) && leb (run (never p) (t ∷ past)) (size past)

-- ---- standing still

-- the speed filter after all ticks
unfoldable pub filter_after : Past → Filter
filter_after [] = Empty
filter_after (t ∷ past) = next (filter_after past) t.sample.speed

-- "16,383 = no reading"
abbrev pub speed_read : Fact
speed_read t past = has_reading t.sample.speed

-- "Up to 5 missing readings in a row leave still as it was at the last reading. The sixth makes it false. With no reading yet it is false."
-- (CR 2): by the filter, which a missing reading keeps and which has no F before the first, and by how many readings in a row are missing
unfoldable pub is_still : Filter → ℕ → Bool
is_still f missing = leb missing 5 && is_at_most_8 f

unfoldable pub stationary : Fact
stationary t past = is_still (filter_after (t ∷ past)) (run (never speed_read) (t ∷ past))

-- ---- the conditions

abbrev pub parked : Fact
parked t past = eqb t.sample.gear 1

abbrev pub idling : Fact
idling t past = eqb t.sample.gear 2

abbrev pub braked : Fact
braked t past = (switches_of t.sample).brake

abbrev pub belted : Fact
belted t past = (switches_of t.sample).belt

abbrev pub ignited : Fact
ignited t past = (switches_of t.sample).ignition

abbrev pub door_open : Fact
door_open t past = (switches_of t.sample).door

abbrev pub boot_open : Fact
boot_open t past = (switches_of t.sample).boot

abbrev pub bonnet_open : Fact
bonnet_open t past = (switches_of t.sample).bonnet

-- "Conditions, each held for 30: a park; b idle; c parking brake; d belt switched off"
unfoldable pub condition_a : Fact
condition_a = held 30 parked

unfoldable pub condition_b : Fact
condition_b = held 30 idling

unfoldable pub condition_c : Fact
condition_c = held 30 braked

unfoldable pub condition_d : Fact
condition_d = off_held 30 belted

-- one of a-d is fulfilled
unfoldable pub one_of_a_to_d : Fact
one_of_a_to_d t past = condition_a t past || condition_b t past || condition_c t past || condition_d t past

-- "e ignition switched off; f door, g boot, h bonnet open": one of them is fulfilled
unfoldable pub one_of_e_to_h : Fact
one_of_e_to_h t past = off_held 30 ignited t past || held 30 door_open t past || held 30 boot_open t past || held 30 bonnet_open t past

-- the ignition was on at the newest tick
unfoldable pub was_ignited : Past → Bool
was_ignited [] = false
was_ignited (t ∷ past) = ignited t past

-- ---- the messages given before

-- all of them, the newest first
unfoldable pub messages : Past → List Message
messages [] = []
messages (t ∷ past) = reverse_aux t.given (messages past)

abbrev pub is_new : Message → Bool
is_new m = eqb m.kind new

abbrev pub is_cancel : Message → Bool
is_cancel m = eqb m.kind cancel

-- what the messages of a tick, in their order, leave standing of what stood before: the last of them, unless that is a Cancel
unfoldable pub standing_after : Option Message → List Message → Option Message
standing_after n [] = n
standing_after n (m ∷ ms) = standing_after (cond (is_cancel m) None (Some m)) ms

-- "Happening bit 4 says that the function is active." (CR 1)
abbrev pub mitigation_active : Fact
mitigation_active t past = (happenings_of t.sample).mitigation

-- "the bit is set and the vehicle isn't still" (CR 1)
unfoldable pub driver_unresponsive : Fact
driver_unresponsive t past = unresponsive (stationary t past) t.sample

-- the standing warning's last New or Update, by what lasts at each tick (CR 1) and what its messages leave; "before tick 0 none stands"
unfoldable pub standing : Past → Option Message
standing [] = None
standing (t ∷ past) = standing_after (lasting (driver_unresponsive t past) (standing past)) t.given

-- "the count of New messages so far"
unfoldable pub events : List Message → ℕ
events [] = 0
events (m ∷ ms) = cond (is_new m) (events ms + 1) (events ms)

-- the tick of the newest New
unfoldable pub started : List Message → ℕ
started [] = 0
started (m ∷ ms) = cond (is_new m) m.reference (started ms)

-- 0 "decimetres from the start of the journey"
abbrev pub start_of_journey : Position
start_of_journey = record { east = pos 0; north = pos 0 }

-- the position in the newest New: while a warning stands, "the position in the event's New" (CR 5)
unfoldable pub origin : List Message → Position
origin [] = start_of_journey
origin (m ∷ ms) = cond (is_new m) m.position (origin ms)

-- "the tick of its own last Cancel", of warning 3; 0 where there was none
unfoldable pub last_cancel : List Message → ℕ
last_cancel [] = 0
last_cancel (m ∷ ms) = cond (is_cancel m && eqb m.warning post_crash) m.reference (last_cancel ms)

-- "the largest of 0, i-150 and the tick of its own last Cancel"
unfoldable pub counted_from : ℕ → List Message → ℕ
counted_from i ms = max (i - 150) (last_cancel ms)

-- "the first counted tick of its New", of the newest New
unfoldable pub counted : List Message → ℕ
counted [] = 0
counted (m ∷ ms) = cond (is_new m) (counted_from m.reference ms) (counted ms)

-- ---- the cycles of warnings 1 and 2

-- "Warnings 1 and 2 need still and hazard lights; 1 also no breakdown message, 2 also the message."
unfoldable pub precondition : ℕ → Sample → Bool
precondition warning x =
    (switches_of x).hazard && cond (eqb warning stopped) (not (switches_of x).breakdown) (eqb warning broken_down && (switches_of x).breakdown)

-- "the need is met and no warning of equal or higher rank stood after the tick before"
unfoldable pub ready : ℕ → Fact
ready warning t past =
    stationary t past && precondition warning t.sample && ltb (standing_rank (standing past)) (rank warning)

-- "Their cycle at i is the longest run of ticks ending at i, at each of which .."
unfoldable pub cycle_of : ℕ → Past → Cycle
cycle_of warning h = record {
  ticks = run (ready warning) h;
  marks = record {
    park = during (ready warning) condition_a h;
    idle = during (ready warning) condition_b h;
    brake = during (ready warning) condition_c h;
    belt = during (ready warning) condition_d h;
    expiring = during (ready warning) one_of_e_to_h h;
  };
}

-- ---- the happenings of warning 3

abbrev pub ecall_pressed : Fact
ecall_pressed t past = (happenings_of t.sample).ecall

abbrev pub low_severity : Fact
low_severity t past = (happenings_of t.sample).low || (happenings_of t.sample).pedestrian

abbrev pub high_severity : Fact
high_severity t past = (happenings_of t.sample).high

-- "the highest of eCall 1, low severity or pedestrian 2, high severity 3, among happenings from" tick j on; 0 for none
unfoldable pub highest_quality : ℕ → Past → ℕ
highest_quality j h =
    cond (some_from j high_severity h) 3 (cond (some_from j low_severity h) 2 (cond (some_from j ecall_pressed h) 1 0))

-- ---- what is looked at, and what is given

unfoldable pub view_of : Sample → Past → View
view_of x past =
    let h = present x ∷ past in
    let ms = messages past in
    record {
      tick = size past;
      sample = x;
      standing = standing past;
      started = started ms;
      origin = origin ms;
      events = events ms;
      stationary = run stationary h;
      moving = run (never stationary) h;
      switchedoff = not (switches_of x).ignition && was_ignited past;
      shortening = one_of_a_to_d (present x) past;
      expiring = one_of_e_to_h (present x) past;
      stoppedcycle = cycle_of stopped h;
      brokendowncycle = cycle_of broken_down h;
      recent = highest_quality (counted_from (size past) ms) h;
      kept = highest_quality (counted ms) h;
    }

-- the messages that the history reading gives at a tick with the sample x
unfoldable pub given_at : Settings → Sample → Past → List Message
given_at S x past = given_by (decide S (view_of x past))

-- that tick, once it has passed
unfoldable pub tick_of : Settings → Sample → Past → Tick
tick_of S x past = record { sample = x; given = given_at S x past }

-- the ticks that have passed after more samples, the first of them first
unfoldable pub after : Settings → Past → List Sample → Past
after S past [] = past
after S past (x ∷ xs) = after S (tick_of S x past ∷ past) xs

-- the messages given at these, in their order
unfoldable pub given_during : Settings → Past → List Sample → List Message
given_during S past [] = []
given_during S past (x ∷ xs) = given_at S x past ++ given_during S (tick_of S x past ∷ past) xs

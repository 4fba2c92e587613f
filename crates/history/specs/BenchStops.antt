-- The bench stops of document 01, with the case that CR 5 adds, as one statement about the history reading.
-- Assumes nothing.
use Rattle.std.specs.Prelude.{◌≡◌, true, false, cond, List, [], ◌∷◌, map, ℕ, zero, suc, ◌+◌, ◌-◌, ◌<◌, leb, eqb, ℤ, pos}
use Rattle.sample.specs.declared.Sample.{Sample}
use Rattle.message.specs.declared.Message.{Message}
use Rattle.history.specs.Rules.{unit_settings}
use Rattle.history.specs.History.{Past, Fact, stationary, after, given_during}
use Rattle.history.specs.TickWords.{at_tick}

-- ---- the samples

-- "7 switches, bit 0 hazard lights, 1 ignition, 2 parking brake, .. 4 a door open"
abbrev pub hazard : ℕ
hazard = 1

abbrev pub ignition : ℕ
ignition = 2

abbrev pub brake : ℕ
brake = 4

abbrev pub door : ℕ
door = 16

-- "8 happenings, bit 0 eCall button, .. 3 high severity crash"
abbrev pub ecall : ℕ
ecall = 1

abbrev pub high_severity : ℕ
high_severity = 8

-- "6 gear: .. 1 park, .. 3 forward"
abbrev pub park : ℕ
park = 1

abbrev pub forward : ℕ
forward = 3

-- "Unless said: speed 0, hazard and ignition on, forward gear, every other field and bit zero but the tick"
unfoldable pub unless_said : ℕ → Sample
unless_said tick = record {
  tick = tick;
  speed = 0;
  gear = forward;
  switches = hazard + ignition;
  happenings = 0;
  road = 0;
  heading = 0;
  position = record { east = pos 0; north = pos 0 };
}

-- what a stop says of a sample; all else stays
abbrev pub Change : Type 0
Change = Sample → Sample

unfoldable pub with_speed : ℕ → Change
with_speed speed x =
    record { tick = x.tick; speed = speed; gear = x.gear; switches = x.switches; happenings = x.happenings; road = x.road; heading = x.heading; position = x.position }

unfoldable pub with_gear : ℕ → Change
with_gear gear x =
    record { tick = x.tick; speed = x.speed; gear = gear; switches = x.switches; happenings = x.happenings; road = x.road; heading = x.heading; position = x.position }

unfoldable pub with_switches : ℕ → Change
with_switches switches x =
    record { tick = x.tick; speed = x.speed; gear = x.gear; switches = switches; happenings = x.happenings; road = x.road; heading = x.heading; position = x.position }

unfoldable pub with_happening : ℕ → Change
with_happening bit x =
    record { tick = x.tick; speed = x.speed; gear = x.gear; switches = x.switches; happenings = x.happenings + bit; road = x.road; heading = x.heading; position = x.position }

unfoldable pub with_position : ℤ → ℤ → Change
with_position east north x =
    record { tick = x.tick; speed = x.speed; gear = x.gear; switches = x.switches; happenings = x.happenings; road = x.road; heading = x.heading; position = record { east = east; north = north } }

abbrev pub with_east : ℕ → Change
with_east east x = with_position (pos east) x.position.north x

-- a bit that is off, and one that is on
abbrev pub switch_on : ℕ → Change
switch_on bit x = with_switches (x.switches + bit) x

abbrev pub switch_off : ℕ → Change
switch_off bit x = with_switches (x.switches - bit) x

-- a change at some of the ticks: "at 299 alone", "from 310", "up to 151"
abbrev pub at_alone : ℕ → Change → Change
at_alone i change x = cond (eqb x.tick i) (change x) x

abbrev pub from : ℕ → Change → Change
from i change x = cond (leb i x.tick) (change x) x

abbrev pub up_to : ℕ → Change → Change
up_to i change x = cond (leb x.tick i) (change x) x

unfoldable pub changed : List Change → Sample → Sample
changed [] x = x
changed (change ∷ changes) x = changed changes (change x)

-- the samples of n ticks from tick i on
unfoldable pub samples_from : ℕ → ℕ → List Change → List Sample
samples_from i zero changes = []
samples_from i (suc n) changes = changed changes (unless_said i) ∷ samples_from (i + 1) n changes

-- "from tick 0", up to the tick last
abbrev pub samples_up_to : ℕ → List Change → List Sample
samples_up_to last changes = samples_from 0 (last + 1) changes

-- ---- the messages

-- what the program prints of a message: "reference tick, N, U or C, warning, quality, event"
pub record Line : Type 0 where
  pub tick : ℕ
  pub kind : ℕ
  pub warning : ℕ
  pub quality : ℕ
  pub event : ℕ

abbrev pub line : ℕ → ℕ → ℕ → ℕ → ℕ → Line
line tick kind warning quality event = record { tick = tick; kind = kind; warning = warning; quality = quality; event = event }

unfoldable pub line_of : Message → Line
line_of m = line m.reference m.kind m.warning m.quality m.event

-- "0 kind (1 New, 2 Update, 3 Cancel)"
abbrev pub N : ℕ
N = 1

abbrev pub U : ℕ
U = 2

abbrev pub C : ℕ
C = 3

-- every message that the history reading gives up to the tick last, in their order
unfoldable pub messages_up_to : ℕ → List Change → List Message
messages_up_to last changes = given_during unit_settings [] (samples_up_to last changes)

unfoldable pub lines_up_to : ℕ → List Change → List Line
lines_up_to last changes = map line_of (messages_up_to last changes)

-- the history after the tick last
abbrev pub history_up_to : ℕ → List Change → Past
history_up_to last changes = after unit_settings [] (samples_up_to last changes)

-- "still first at" tick i
abbrev pub FirstAt : Fact → ℕ → Past → Type 0
FirstAt p i h = (at_tick p h i ≡ true) × ((k : ℕ) → k < i → at_tick p h k ≡ false)

-- ---- the stops

-- "eCall at 10, speed 100 up to" the tick last, "then 0"
abbrev pub ecall_then_stop : ℕ → List Change
ecall_then_stop last = at_alone 10 (with_happening ecall) ∷ up_to last (with_speed 100) ∷ []

-- "Speeds 100, then 0"
abbrev pub hundred_then_zeros : List Change
hundred_then_zeros = at_alone 0 (with_speed 100) ∷ []

-- "Proved together"
pub record BenchStops : Type 0 where
  -- "New of 1 at 300, quality 1, Updates 450, 600"
  pub i : lines_up_to 600 [] ≡ line 300 N 1 1 1 ∷ line 450 U 1 1 1 ∷ line 600 U 1 1 1 ∷ []
  -- "park: New 200, quality 2"
  pub ii : lines_up_to 200 (with_gear park ∷ []) ≡ line 200 N 1 2 1 ∷ []
  -- "park and brake: 100"
  pub iii : lines_up_to 100 (with_gear park ∷ switch_on brake ∷ []) ≡ line 100 N 1 2 1 ∷ []
  -- "door: 30, quality 3"
  pub iv : lines_up_to 30 (switch_on door ∷ []) ≡ line 30 N 1 3 1 ∷ []
  -- "park, hazard off at 299 alone: New 200, Cancel 299, New 500"
  pub v : lines_up_to 500 (with_gear park ∷ at_alone 299 (switch_off hazard) ∷ [])
      ≡ line 200 N 1 2 1 ∷ line 299 C 1 2 1 ∷ line 500 N 1 2 2 ∷ []
  -- "speed 100 from 310: Cancel 360"
  pub vi : lines_up_to 360 (from 310 (with_speed 100) ∷ []) ≡ line 300 N 1 1 1 ∷ line 360 C 1 1 1 ∷ []
  -- "after New at 300, 5,000 dm east from 301 stays"
  pub vii_stays : lines_up_to 450 (from 301 (with_east 5000) ∷ []) ≡ line 300 N 1 1 1 ∷ line 450 U 1 1 1 ∷ []
  -- "5,001 cancels at 301"
  pub vii_cancels : lines_up_to 301 (from 301 (with_east 5001) ∷ []) ≡ line 300 N 1 1 1 ∷ line 301 C 1 1 1 ∷ []
  -- "Bench stop (vii) gains a case: 3,000 dm further at each of two updates cancels at the second." (CR 5)
  pub vii_carried : lines_up_to 600 (from 450 (with_east 3000) ∷ from 600 (with_east 6000) ∷ []) ≡ line 300 N 1 1 1 ∷ line 450 U 1 1 1 ∷ line 600 C 1 1 1 ∷ []
  -- "ignition off from 320: Updates 320 (quality 1), 470 (quality 3)"
  pub viii : lines_up_to 470 (from 320 (switch_off ignition) ∷ []) ≡ line 300 N 1 1 1 ∷ line 320 U 1 1 1 ∷ line 470 U 1 3 1 ∷ []
  -- "high severity at 310: Cancel of event 1, New of event 2"
  pub ix : lines_up_to 310 (at_alone 310 (with_happening high_severity) ∷ []) ≡ line 300 N 1 1 1 ∷ line 310 C 1 1 1 ∷ line 310 N 3 3 2 ∷ []
  -- "eCall at 10, speed 100 up to 151, then 0, so still first at 160: New of 3 at 160"
  pub x : lines_up_to 160 (ecall_then_stop 151) ≡ line 160 N 3 1 1 ∷ []
  pub x_still : FirstAt stationary 160 (history_up_to 160 (ecall_then_stop 151))
  -- "100 up to 152, so still first at 161: no New of 3"; the New of 1 comes 300 ticks later
  pub x_later : lines_up_to 461 (ecall_then_stop 152) ≡ line 461 N 1 1 1 ∷ []
  pub x_later_still : FirstAt stationary 161 (history_up_to 161 (ecall_then_stop 152))
  -- "Speeds 100, then 0: still first at tick 9."
  pub still_first : FirstAt stationary 9 (history_up_to 9 hundred_then_zeros)
  -- "One block, speed 0, hazard off, eCall at 10, 25 ticks, gives exactly: 10 N 3 1 1"
  pub one_block : lines_up_to 24 (switch_off hazard ∷ at_alone 10 (with_happening ecall) ∷ []) ≡ line 10 N 3 1 1 ∷ []

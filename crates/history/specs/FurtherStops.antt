-- Stops beside the bench stops of document 01: for its "Slips from the training room", and for rules that (i) to (x) leave open.
-- Assumes nothing.
use Rattle.std.specs.Prelude.{◌≡◌, List, [], ◌∷◌, ℕ, ◌+◌, pos}
use Rattle.sample.specs.Sample.{no_reading}
use Rattle.message.specs.declared.Message.{Message}
use Rattle.history.specs.BenchStops.{Change, hazard, ignition, brake, door, ecall, high_severity, park, forward, with_speed, with_gear, with_happening, switch_on, switch_off, at_alone, from, up_to, Line, line, N, U, C, messages_up_to, lines_up_to}

-- "7 switches, .. 3 driver's belt buckled, .. 5 boot open, 6 bonnet open, 7 breakdown message shown"
abbrev pub belt : ℕ
belt = 8

abbrev pub boot : ℕ
boot = 32

abbrev pub bonnet : ℕ
bonnet = 64

abbrev pub breakdown : ℕ
breakdown = 128

-- "8 happenings, .. 1 low severity crash, 2 pedestrian collision"
abbrev pub low_severity : ℕ
low_severity = 2

abbrev pub pedestrian : ℕ
pedestrian = 4

-- "6 gear: 0 unknown, .. 2 idle, .. 4 reverse"
abbrev pub unknown : ℕ
unknown = 0

abbrev pub idle : ℕ
idle = 2

abbrev pub reverse : ℕ
reverse = 4

unfoldable pub with_place : ℕ → ℕ → ℕ → ℕ → Change
with_place road heading east north x =
    record { tick = x.tick; speed = x.speed; gear = x.gear; switches = x.switches; happenings = x.happenings; road = road; heading = heading; position = record { east = pos east; north = pos north } }

-- where a message is from: "5 roadType", "20-27 east, north; 28-29 heading"
pub record Place : Type 0 where
  pub roadtype : ℕ
  pub heading : ℕ
  pub east : ℕ
  pub north : ℕ

abbrev pub place : ℕ → ℕ → ℕ → ℕ → Place
place roadtype heading east north = record { roadtype = roadtype; heading = heading; east = east; north = north }

-- a whole message: its line, "12-15 detection tick", "7 stationarySince", "30-31 validity in seconds", and the place
abbrev pub whole : Line → ℕ → ℕ → ℕ → Place → Message
whole l detection since validity p = record {
  kind = l.kind;
  warning = l.warning;
  quality = l.quality;
  roadtype = p.roadtype;
  since = since;
  event = l.event;
  detection = detection;
  reference = l.tick;
  position = record { east = pos p.east; north = pos p.north };
  heading = p.heading;
  validity = validity;
}

-- stop (iii), from which the others differ: "park and brake: 100"
abbrev pub park_and_brake : List Change → List Change
park_and_brake changes = with_gear park ∷ switch_on brake ∷ changes

-- stop (iv) with the breakdown message: New of 2 at 30, quality 3
abbrev pub broken_down : List Change → List Change
broken_down changes = switch_on breakdown ∷ switch_on door ∷ changes

-- eCall at 0: New of 3 at 0, quality 1
abbrev pub ecall_at_start : List Change → List Change
ecall_at_start changes = at_alone 0 (with_happening ecall) ∷ changes

-- 5,000 dm east, west, north and south of where it stood, at ticks i to i + 3; at i + 4 5,000 south and 1 east
abbrev pub five_thousand_each_way : ℕ → List Change
five_thousand_each_way i =
    with_place 0 0 5000 5000
    ∷ at_alone i (with_place 0 0 10000 5000)
    ∷ at_alone (i + 1) (with_place 0 0 0 5000)
    ∷ at_alone (i + 2) (with_place 0 0 5000 10000)
    ∷ at_alone (i + 3) (with_place 0 0 5000 0)
    ∷ at_alone (i + 4) (with_place 0 0 5001 0)
    ∷ []

pub record FurtherStops : Type 0 where
  -- "Grading by what shortened the countdown.": park and brake up to 40 shorten it, and no condition is fulfilled at 100
  pub grading : lines_up_to 100 (up_to 40 (with_gear park) ∷ up_to 40 (switch_on brake) ∷ []) ≡ line 100 N 1 1 1 ∷ []
  -- "Counting park twice because the lever moved twice.": forward at 40 alone
  pub park_twice : lines_up_to 200 (with_gear park ∷ at_alone 40 (with_gear forward) ∷ []) ≡ line 200 N 1 2 1 ∷ []
  -- "Reading 3 s as 30 samples (it is 31).": door open at the 30 ticks up to 29
  pub thirty_samples : lines_up_to 100 (park_and_brake (up_to 29 (switch_on door) ∷ [])) ≡ line 100 N 1 2 1 ∷ []
  -- "Updating while the rank above triggers.": ignition off from 120, high severity at 120
  pub rank_above : lines_up_to 120 (park_and_brake (from 120 (switch_off ignition) ∷ at_alone 120 (with_happening high_severity) ∷ []))
      ≡ line 100 N 1 2 1 ∷ line 120 C 1 2 1 ∷ line 120 N 3 3 2 ∷ []
  -- "Starting a new countdown without wiping the old.": park up to 40, hazard off at 60 alone
  pub new_countdown : lines_up_to 361 (up_to 40 (with_gear park) ∷ at_alone 60 (switch_off hazard) ∷ []) ≡ line 361 N 1 1 1 ∷ []
  -- "b idle; c parking brake; d belt switched off": from 10
  pub idle_and_brake : lines_up_to 100 (with_gear idle ∷ switch_on brake ∷ []) ≡ line 100 N 1 2 1 ∷ []
  pub park_and_belt : lines_up_to 100 (with_gear park ∷ up_to 9 (switch_on belt) ∷ []) ≡ line 100 N 1 2 1 ∷ []
  -- "e ignition switched off": from 10; "g boot, h bonnet open"
  pub ignition_off : lines_up_to 40 (from 10 (switch_off ignition) ∷ []) ≡ line 40 N 1 3 1 ∷ []
  pub boot_open_stop : lines_up_to 30 (switch_on boot ∷ []) ≡ line 30 N 1 3 1 ∷ []
  pub bonnet_open_stop : lines_up_to 30 (switch_on bonnet ∷ []) ≡ line 30 N 1 3 1 ∷ []
  -- "low severity or pedestrian 2"
  pub low_severity_stop : lines_up_to 10 (at_alone 10 (with_happening low_severity) ∷ []) ≡ line 10 N 3 2 1 ∷ []
  pub pedestrian_collision : lines_up_to 10 (at_alone 10 (with_happening pedestrian) ∷ []) ≡ line 10 N 3 2 1 ∷ []
  -- "Warnings 1 and 2 need still and hazard lights": no reading from 45 to 50, the sixth at 50, or hazard off at 50 alone
  pub need_still : lines_up_to 151 (park_and_brake (from 45 (up_to 50 (with_speed no_reading)) ∷ [])) ≡ line 151 N 1 2 1 ∷ []
  pub need_hazard : lines_up_to 151 (park_and_brake (at_alone 50 (switch_off hazard) ∷ [])) ≡ line 151 N 1 2 1 ∷ []
  -- "1 also no breakdown message, 2 also the message": the message up to 50; and from 110, then high severity at 220
  pub need_no_message : lines_up_to 151 (park_and_brake (up_to 50 (switch_on breakdown) ∷ [])) ≡ line 151 N 1 2 1 ∷ []
  pub ranks : lines_up_to 220 (park_and_brake (from 110 (switch_on breakdown) ∷ at_alone 220 (with_happening high_severity) ∷ []))
      ≡ line 100 N 1 2 1 ∷ line 210 C 1 2 1 ∷ line 210 N 2 2 2 ∷ line 220 C 2 2 2 ∷ line 220 N 3 3 3 ∷ []
  -- "then New of the highest": high severity at 100
  pub highest : lines_up_to 100 (park_and_brake (at_alone 100 (with_happening high_severity) ∷ [])) ≡ line 100 N 3 3 1 ∷ []
  -- "position more than 5,000 dm from" that of its New, "compared by squares": 5,000 east and 1 north
  pub distance : lines_up_to 101 (park_and_brake (from 101 (with_place 0 0 5000 1) ∷ [])) ≡ line 100 N 1 2 1 ∷ line 101 C 1 2 1 ∷ []
  -- "warning 3: i-150 to i, U), none before its New", "and the tick of its own last Cancel": driving, high severity at 10, eCall at 159; at 160
  pub crash_while_driving : lines_up_to 180 (up_to 160 (with_speed 100) ∷ at_alone 10 (with_happening high_severity) ∷ at_alone 159 (with_happening ecall) ∷ [])
      ≡ line 10 N 3 3 1 ∷ line 160 C 3 3 1 ∷ []
  pub crash_again : lines_up_to 180 (up_to 160 (with_speed 100) ∷ at_alone 10 (with_happening high_severity) ∷ at_alone 160 (with_happening ecall) ∷ [])
      ≡ line 10 N 3 3 1 ∷ line 160 C 3 3 1 ∷ line 169 N 3 1 2 ∷ []
  -- "Cancel repeats bytes 4-15 and 20-31 of the last New or Update; New and Update have detection = reference = now", and the validity of 2
  pub whole_messages : messages_up_to 130 (park_and_brake (switch_on breakdown ∷ with_place 5 900 30 40 ∷ from 110 (with_place 2 1800 50 60) ∷ from 120 (switch_off ignition) ∷ from 125 (with_place 4 2700 70 80) ∷ at_alone 130 (switch_off hazard) ∷ []))
      ≡ whole (line 100 N 2 2 1) 100 0 30 (place 3 900 30 40)
      ∷ whole (line 120 U 2 2 1) 120 0 180 (place 1 1800 50 60)
      ∷ whole (line 130 C 2 2 1) 120 0 180 (place 1 1800 50 60)
      ∷ []
  -- "Warnings 1 and 2 need still and hazard lights", of 2, and "3 if one of e-h is fulfilled at this tick": hazard off up to 34
  pub broken_down_needs_hazard : lines_up_to 35 (broken_down (up_to 34 (switch_off hazard) ∷ [])) ≡ line 35 N 2 3 1 ∷ []
  -- "Update: 150 ticks", of 2
  pub broken_down_update : lines_up_to 180 (broken_down []) ≡ line 30 N 2 3 1 ∷ line 180 U 2 3 1 ∷ []
  -- "position more than 5,000 dm from" that of its New, of 2 and of 3: just 5,000 stays
  pub broken_down_distance : lines_up_to 35 (broken_down (five_thousand_each_way 31)) ≡ line 30 N 2 3 1 ∷ line 35 C 2 3 1 ∷ []
  pub crash_distance : lines_up_to 5 (ecall_at_start (five_thousand_each_way 1)) ≡ line 0 N 3 1 1 ∷ line 5 C 3 1 1 ∷ []
  -- "hazard lights off", of 2
  pub broken_down_hazard_off : lines_up_to 31 (broken_down (from 31 (switch_off hazard) ∷ [])) ≡ line 30 N 2 3 1 ∷ line 31 C 2 3 1 ∷ []
  -- "not still at each tick i-50 to i", of 2: speed 100 from 31
  pub broken_down_driven_off : lines_up_to 81 (broken_down (from 31 (with_speed 100) ∷ [])) ≡ line 30 N 2 3 1 ∷ line 81 C 2 3 1 ∷ []
  -- "or ignition off now and on at the tick before (004; for 1 and 3: U)", of 3: still first at 9, ignition off from 10
  pub crash_ignition_off : lines_up_to 10 (ecall_at_start (at_alone 0 (with_speed 100) ∷ from 10 (switch_off ignition) ∷ [])) ≡ line 9 N 3 1 1 ∷ line 10 U 3 1 1 ∷ []
  -- "among happenings from the first counted tick of its New up to now": high severity at 3, after the New
  pub crash_graded_later : lines_up_to 5 (ecall_at_start (at_alone 3 (with_happening high_severity) ∷ from 5 (switch_off ignition) ∷ [])) ≡ line 0 N 3 1 1 ∷ line 5 U 3 3 1 ∷ []
  -- "3 if one of e-h is fulfilled at this tick, else 2 if one of a-d is": a door up to 30, and brake or idle with it and after it, or belt off from 1
  pub brake_grades : lines_up_to 31 (up_to 30 (switch_on door) ∷ switch_on brake ∷ from 31 (switch_off ignition) ∷ []) ≡ line 30 N 1 3 1 ∷ line 31 U 1 2 1 ∷ []
  pub idle_grades : lines_up_to 31 (up_to 30 (switch_on door) ∷ with_gear idle ∷ from 31 (switch_off ignition) ∷ []) ≡ line 30 N 1 3 1 ∷ line 31 U 1 2 1 ∷ []
  pub belt_grades : lines_up_to 31 (up_to 30 (switch_on door) ∷ at_alone 0 (switch_on belt) ∷ from 31 (switch_off ignition) ∷ []) ≡ line 30 N 1 3 1 ∷ line 31 U 1 2 1 ∷ []
  -- "first that applies": rule 2 before rule 3, where the ignition is switched off at the tick of a Cancel
  pub cancel_alone : lines_up_to 31 (switch_on door ∷ from 31 (switch_off hazard) ∷ from 31 (switch_off ignition) ∷ []) ≡ line 30 N 1 3 1 ∷ line 31 C 1 3 1 ∷ []
  pub broken_down_cancel_alone : lines_up_to 31 (broken_down (from 31 (switch_off hazard) ∷ from 31 (switch_off ignition) ∷ [])) ≡ line 30 N 2 3 1 ∷ line 31 C 2 3 1 ∷ []
  pub crash_cancel_alone : lines_up_to 1 (ecall_at_start (from 1 (with_place 0 0 5001 0) ∷ from 1 (switch_off ignition) ∷ [])) ≡ line 0 N 3 1 1 ∷ line 1 C 3 1 1 ∷ []
  -- "first that applies": rule 1 before rule 2, where 2 triggers 5,001 dm away, and 3 with hazard off
  pub broken_down_first : lines_up_to 31 (switch_on door ∷ from 31 (switch_on breakdown) ∷ from 31 (with_place 0 0 5001 0) ∷ [])
      ≡ line 30 N 1 3 1 ∷ line 31 C 1 3 1 ∷ line 31 N 2 3 2 ∷ []
  pub crash_first : lines_up_to 31 (switch_on door ∷ from 31 (switch_off hazard) ∷ at_alone 31 (with_happening high_severity) ∷ [])
      ≡ line 30 N 1 3 1 ∷ line 31 C 1 3 1 ∷ line 31 N 3 3 2 ∷ []
  -- "a park; b idle": reverse and unknown, from 41, are neither, so nothing is counted or graded by them
  pub reverse_is_neither : lines_up_to 100 (with_gear reverse ∷ up_to 40 (with_gear idle) ∷ up_to 40 (switch_on brake) ∷ []) ≡ line 100 N 1 1 1 ∷ []
  pub unknown_is_neither : lines_up_to 100 (with_gear unknown ∷ up_to 40 (with_gear park) ∷ up_to 40 (switch_on brake) ∷ []) ≡ line 100 N 1 1 1 ∷ []
  -- "F is at most 8": steadily 8
  pub steadily_eight : lines_up_to 100 (park_and_brake (with_speed 8 ∷ [])) ≡ line 100 N 1 2 1 ∷ []
  -- "A first reading of 9 and then steadily 8 never becomes still": with a door, one still tick from 30 on would give a New
  pub nine_then_eights : lines_up_to 100 (switch_on door ∷ with_speed 8 ∷ at_alone 0 (with_speed 9) ∷ []) ≡ []
  -- "Validity: warning 1: 30", with ignition on and off
  pub whole_of_stopped : messages_up_to 31 (switch_on door ∷ with_place 3 3601 30 40 ∷ from 31 (switch_off ignition) ∷ [])
      ≡ whole (line 30 N 1 3 1) 30 0 30 (place 0 3601 30 40) ∷ whole (line 31 U 1 3 1) 31 0 30 (place 0 3601 30 40) ∷ []
  -- "3: 180 (U). Cancel repeats bytes 4-15 and 20-31 of the last New or Update", under rule 2, of an Update of 3
  pub whole_of_crash : messages_up_to 4 (ecall_at_start (with_place 4 900 30 40 ∷ at_alone 2 (with_happening high_severity) ∷ from 2 (with_place 2 1800 50 60) ∷ from 3 (switch_off ignition) ∷ from 4 (with_place 3 2700 5060 60) ∷ []))
      ≡ whole (line 0 N 3 1 1) 0 0 180 (place 2 900 30 40)
      ∷ whole (line 3 U 3 3 1) 3 0 180 (place 1 1800 50 60)
      ∷ whole (line 4 C 3 3 1) 3 0 180 (place 1 1800 50 60)
      ∷ []
  -- the same under rule 1, of a New of 2: hazard off up to 34; high severity, speed 100 and another place at 36
  pub whole_of_overruled : messages_up_to 36 (broken_down (up_to 34 (switch_off hazard) ∷ with_place 1 900 30 40 ∷ from 36 (with_place 6 2700 6000 80) ∷ from 36 (with_speed 100) ∷ at_alone 36 (with_happening high_severity) ∷ []))
      ≡ whole (line 35 N 2 3 1) 35 0 30 (place 0 900 30 40)
      ∷ whole (line 36 C 2 3 1) 35 0 30 (place 0 900 30 40)
      ∷ whole (line 36 N 3 3 2) 36 0 180 (place 2 2700 6000 80)
      ∷ []
  -- "Update: 150 ticks (warning 3: 600, U)", "0 below 1 minute or not still, 1 below 2", and the quality of a happening long past; speed 100 and 5,001 dm at 601
  pub whole_of_minute : messages_up_to 601 (ecall_at_start (from 601 (with_speed 100) ∷ from 601 (with_place 0 0 5001 0) ∷ []))
      ≡ whole (line 0 N 3 1 1) 0 0 180 (place 255 0 0 0)
      ∷ whole (line 600 U 3 1 1) 600 1 180 (place 255 0 0 0)
      ∷ whole (line 601 C 3 1 1) 600 1 180 (place 255 0 0 0)
      ∷ []

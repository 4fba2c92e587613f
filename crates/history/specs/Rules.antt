-- The rules of document 01, of CR 1 and of CR 5: what is given at a tick, from what is looked at. What that is, `History` says by looking back, `State` by counting.
-- Assumes nothing.
use Rattle.std.specs.Prelude.{ℕ, ◌+◌, ◌-◌, ◌*◌, ◌/◌, Bool, false, not, ◌&&◌, ◌||◌, cond, List, [], ◌∷◌, ◌++◌, leb, ltb, eqb, ℤ, nat_abs, ◌-ℤ◌, get_or, Option, Some, None}
use Rattle.warnings.specs.Warnings.{new, update, cancel, post_crash, unresponsive_driver, by_rank, row_of, validity_of, road_type_of}
use Rattle.sample.specs.declared.Position.{Position}
use Rattle.sample.specs.declared.Sample.{Sample}
use Rattle.sample.specs.Sample.{switches_of, happenings_of}
use Rattle.message.specs.declared.Message.{Message}
use Rattle.history.specs.declared.Cycle.{Cycle}
use Rattle.history.specs.declared.View.{View}
use Rattle.history.specs.declared.Decision.{Decision}

-- the countdown and its reduction by each of conditions a to d, in ticks
pub record Settings : Type 0 where
  pub countdown : ℕ
  pub reduction : ℕ

-- "(i-a) + 100k is at least 300 .. (300 for 2: U)"
abbrev pub unit_settings : Settings
unit_settings = record { countdown = 300; reduction = 100 }

-- "1 stopped, 2 broken-down, 3 post-crash; a higher number outranks"; of 4, "It ranks between 2 and 3." (CR 1); the rank of no warning is 0
unfoldable pub rank : ℕ → ℕ
rank warning = (row_of warning).rank

-- the rank of the standing warning
unfoldable pub standing_rank : Option Message → ℕ
standing_rank None = 0
standing_rank (Some m) = rank m.warning

-- ---- which warnings trigger

abbrev pub one : Bool → ℕ
one b = cond b 1 0

-- "k the number of conditions a-d that were fulfilled at some tick from a to i"
unfoldable pub fulfilled : Cycle → ℕ
fulfilled c = one c.marks.park + one c.marks.idle + one c.marks.brake + one c.marks.belt

-- "It triggers at i if (i-a) + 100k is at least 300, or one of e-h was fulfilled at such a tick"; a cycle of no tick has no a
unfoldable pub cycle_triggers : Settings → Cycle → Bool
cycle_triggers S c =
    ltb 0 c.ticks
    && (leb S.countdown ((c.ticks - 1) + S.reduction * fulfilled c) || c.marks.expiring)

-- "It triggers on a high severity crash among them, or on any other if still at i."
unfoldable pub crash_triggers : View → Bool
crash_triggers v = eqb v.recent 3 || (ltb 0 v.recent && ltb 0 v.stationary)

-- "the bit is set and the vehicle isn't still" (CR 1), by still and the sample
unfoldable pub unresponsive : Bool → Sample → Bool
unresponsive still x = (happenings_of x).mitigation && not still

-- "Warning 4 triggers while the bit is set and the vehicle isn't still." (CR 1)
unfoldable pub driver_triggers : View → Bool
driver_triggers v = unresponsive (ltb 0 v.stationary) v.sample

-- whether each warning triggers, from 1 on
abbrev pub triggering : Settings → View → List Bool
triggering S v = cycle_triggers S v.stoppedcycle ∷ cycle_triggers S v.brokendowncycle ∷ crash_triggers v ∷ driver_triggers v ∷ []

-- by the warning's number; no other number triggers
unfoldable pub triggers : Settings → View → ℕ → Bool
triggers S v warning = get_or (false ∷ triggering S v) warning false

-- "A warning outranking the standing one triggers (with none standing, any)"
unfoldable pub overrules : Settings → View → ℕ → Bool
overrules S v warning = triggers S v warning && ltb (standing_rank v.standing) (rank warning)

-- "the highest" of the warnings that overrule, given by falling rank; 0 where none does
unfoldable pub highest_of : Settings → View → List ℕ → ℕ
highest_of S v [] = 0
highest_of S v (warning ∷ lower) = cond (overrules S v warning) warning (highest_of S v lower)

unfoldable pub highest : Settings → View → ℕ
highest S v = highest_of S v by_rank

-- ---- the message

-- "Quality for 1 and 2: 3 if one of e-h is fulfilled at this tick, else 2 if one of a-d is, else 1. For 3: the highest of .." the happenings' g; of 4, "quality is 1" (CR 1)
unfoldable pub quality_of : View → ℕ → ℕ → ℕ
quality_of v warning g =
    cond (eqb warning post_crash) g (cond (eqb warning unresponsive_driver) 1 (cond v.expiring 3 (cond v.shortening 2 1)))

-- "whole minutes of the unbroken still run, now minus its first tick; 0 below 1 minute or not still, 1 below 2, 2 below 15, else 3"
unfoldable pub stationary_since : ℕ → ℕ
stationary_since ticks =
    let minutes = (ticks - 1) / 600 in
    cond (ltb minutes 1) 0 (cond (ltb minutes 2) 1 (cond (ltb minutes 15) 2 3))

-- "New and Update have detection = reference = now"
unfoldable pub report_of : ℕ → ℕ → ℕ → ℕ → View → Message
report_of kind warning event g v = record {
  kind = kind;
  warning = warning;
  quality = quality_of v warning g;
  roadtype = road_type_of v.sample.road;
  since = stationary_since v.stationary;
  event = event;
  detection = v.tick;
  reference = v.tick;
  position = v.sample.position;
  heading = v.sample.heading;
  validity = validity_of warning (switches_of v.sample).ignition;
}

-- "Cancel repeats bytes 4-15 and 20-31 of the last New or Update"
unfoldable pub cancel_of : ℕ → Message → Message
cancel_of tick m = record {
  kind = cancel;
  warning = m.warning;
  quality = m.quality;
  roadtype = m.roadtype;
  since = m.since;
  event = m.event;
  detection = m.detection;
  reference = tick;
  position = m.position;
  heading = m.heading;
  validity = m.validity;
}

-- whether a warning "ends without a message" (CR 1): 4 does
abbrev pub ends_without_message : ℕ → Bool
ends_without_message warning = eqb warning unresponsive_driver

-- the Cancel of the standing one, if any and if it does not end without a message
unfoldable pub cancel_standing : ℕ → Option Message → Option Message
cancel_standing tick None = None
cancel_standing tick (Some m) = cond (ends_without_message m.warning) None (Some (cancel_of tick m))

-- ---- the three rules

-- the square of the difference of two coordinates
unfoldable pub squared : ℤ → ℤ → ℕ
squared a b = nat_abs (a -ℤ b) * nat_abs (a -ℤ b)

-- "position more than 5,000 dm from" another, "compared by squares"
unfoldable pub distance_exceeded : Position → Position → Bool
distance_exceeded p q = ltb 25000000 (squared p.east q.east + squared p.north q.north)

-- "not still at each tick i-50 to i (warning 3: i-150 to i, U), none before its New"
unfoldable pub driven_off : View → Message → Bool
driven_off v m = ltb (row_of m.warning).delay v.moving && leb (v.started + (row_of m.warning).delay) v.tick

-- "hazard lights off (not for 3, U)"
unfoldable pub hazard_off : View → Message → Bool
hazard_off v m = not (eqb m.warning post_crash) && not (switches_of v.sample).hazard

-- "2. The standing one is cancelled"; "the 5,000 dm count from the position in the event's New" (CR 5)
unfoldable pub cancel_due : View → Message → Bool
cancel_due v m = driven_off v m || hazard_off v m || distance_exceeded v.sample.position v.origin

-- so rule 2 ends it; but 4 ends "when the bit clears or the vehicle is still; the hazard light, position and 5 s rules don't apply to it" (CR 1)
unfoldable pub end_due : View → Message → Bool
end_due v m = cond (ends_without_message m.warning) (not (driver_triggers v)) (cancel_due v m)

-- "3. Update: 150 ticks (warning 3: 600, U) since its last New or Update, or ignition off now and on at the tick before"; of 4, "every 5 ticks and at no other cause" (CR 1)
unfoldable pub update_due : View → Message → Bool
update_due v m = leb (m.reference + (row_of m.warning).period) v.tick || (v.switchedoff && not (eqb m.warning unresponsive_driver))

abbrev pub silent : Decision
silent = record { cancel = None; report = None }

-- "1. .. Cancel of the standing one, if any, then New of the highest"; "event, the count of New messages so far, a New counting itself"
unfoldable pub raise : View → ℕ → Decision
raise v warning = record {
  cancel = cancel_standing v.tick v.standing;
  report = Some (report_of new warning (v.events + 1) v.recent v);
}

-- rules 2 and 3 for the standing warning
unfoldable pub keep : View → Option Message → Decision
keep v None = silent
keep v (Some m) =
    cond (end_due v m) (record { cancel = cancel_standing v.tick (Some m); report = None })
    (cond (update_due v m) (record { cancel = None; report = Some (report_of update m.warning v.events v.kept v) }) silent)

-- "At tick i, first that applies"
unfoldable pub decide : Settings → View → Decision
decide S v = cond (eqb (highest S v) 0) (keep v v.standing) (raise v (highest S v))

-- what stood before a tick, but for a 4 that does not trigger at it: "It ends without a message, and stands no more, .. when the bit clears or the vehicle is still" (CR 1); where 3 triggers, its New takes the place
unfoldable pub lasting : Bool → Option Message → Option Message
lasting triggered None = None
lasting triggered (Some m) = cond (ends_without_message m.warning && not triggered) None (Some m)

-- the messages of a decision, in their order
unfoldable pub noticed : Option Message → List Message
noticed None = []
noticed (Some m) = m ∷ []

unfoldable pub given_by : Decision → List Message
given_by d = noticed d.cancel ++ noticed d.report

-- Document 01's sentences on ticks ("The history reading"), CR 1's and CR 2's, with its numbers of ticks a, i, j and k, to compare the look-backs of `History` with.
-- Assumes nothing.
use Rattle.std.specs.Prelude.{◌≡◌, ◌⊎◌, Bool, true, false, ◌&&◌, cond, List, [], ◌∷◌, ◌++◌, ℕ, ◌+◌, ◌-◌, ◌*◌, ◌≤◌, ◌<◌, eqb, pos, ◌+ℤ◌, ◌-ℤ◌, ◌*ℤ◌, ◌<ℤ◌}
use Rattle.warnings.specs.Warnings.{post_crash, validity_of, road_type_of}
use Rattle.sample.specs.declared.Position.{Position}
use Rattle.sample.specs.declared.Sample.{Sample}
use Rattle.sample.specs.Sample.{switches_of}
use Rattle.filter.specs.Filter.{is_at_most_8}
use Rattle.message.specs.declared.Message.{Message}
use Rattle.history.specs.declared.View.{View}
use Rattle.history.specs.Rules.{Settings, rank, overrules}
use Rattle.history.specs.History.{Past, Fact, never, size, filter_after, speed_read, stationary, parked, idling, braked, belted, ignited, door_open, boot_open, bonnet_open, condition_a, condition_b, condition_c, condition_d, one_of_e_to_h, is_new, is_cancel, ready, ecall_pressed, low_severity, high_severity, mitigation_active}
use Rattle.history.specs.Standing.{among, Stands}

-- whether the history has a tick k and p is true at it
unfoldable pub at_tick : Fact → Past → ℕ → Bool
at_tick p [] k = false
at_tick p (t ∷ past) k = cond (eqb k (size past)) (p t past) (at_tick p past k)

-- p is true at all ticks a to i
abbrev pub AtAll : Fact → Past → ℕ → ℕ → Type 0
AtAll p h a i = (k : ℕ) → a ≤ k → k ≤ i → at_tick p h k ≡ true

-- p is true at some tick from a to i
pub record AtSome (p : Fact) (h : Past) (a i : ℕ) : Type 0 where
  pub tick : ℕ
  pub not_before : a ≤ tick
  pub not_after : tick ≤ i
  pub holds : at_tick p h tick ≡ true

-- ---- standing still

-- "the last reading" up to tick i is that of tick j
pub record LastReading (h : Past) (i j : ℕ) : Type 0 where
  pub not_after : j ≤ i
  pub reading : at_tick speed_read h j ≡ true
  pub none_since : AtAll (never speed_read) h (j + 1) i

-- "F is at most 8", after the sample of a tick
unfoldable pub f_at_most_8 : Fact
f_at_most_8 t past = is_at_most_8 (filter_after (t ∷ past))

-- "Up to 5 missing readings in a row leave still as it was at the last reading. The sixth makes it false. With no reading yet it is false.":
-- at tick i there was a reading, that of tick j was the last, 5 are missing at most since, and after it F was at most 8
pub record Still (h : Past) (i : ℕ) : Type 0 where
  pub j : ℕ
  pub last : LastReading h i j
  pub at_most_5 : i ≤ j + 5
  pub at_most_8 : at_tick f_at_most_8 h j ≡ true

-- ---- the conditions

-- "A fact is held for d at tick i if i is at least d and it is true at all ticks i-d to i."
pub record Held (d : ℕ) (p : Fact) (h : Past) (i : ℕ) : Type 0 where
  pub at_least : d ≤ i
  pub all : AtAll p h (i - d) i

-- "A switch-off is held for d at i if the switch is off at all ticks j to i, with i-j at least d, and on at j-1."
pub record SwitchOffHeld (d : ℕ) (p : Fact) (h : Past) (i : ℕ) : Type 0 where
  pub j : ℕ
  pub off : AtAll (never p) h j i
  pub at_least : j + d ≤ i
  pub has_before : 1 ≤ j
  pub on : at_tick p h (j - 1) ≡ true

-- "a park; b idle; c parking brake; d belt switched off", "each held for 30"
abbrev pub OneOfAtoD : Past → ℕ → Type 0
OneOfAtoD h i = ((Held 30 parked h i ⊎ Held 30 idling h i) ⊎ Held 30 braked h i) ⊎ SwitchOffHeld 30 belted h i

-- "e ignition switched off; f door, g boot, h bonnet open", "each held for 30"
abbrev pub OneOfEtoH : Past → ℕ → Type 0
OneOfEtoH h i = ((SwitchOffHeld 30 ignited h i ⊎ Held 30 door_open h i) ⊎ Held 30 boot_open h i) ⊎ Held 30 bonnet_open h i

-- ---- what stands

-- "its New": the New n with the event e, and the messages older than it, all of them the newest first
pub record ItsNew (e : ℕ) (ms : List Message) (n : Message) (older : List Message) : Type 0 where
  pub newer : List Message
  pub place : ms ≡ newer ++ (n ∷ older)
  pub is_a_new : is_new n ≡ true
  pub own : n.event ≡ e

-- "no warning of equal or higher rank stood", of those that stand after the ticks
abbrev pub NoneAsHigh : ℕ → Past → Type 0
NoneAsHigh r h = (n : Message) → Stands n h → rank n.warning < r

-- ---- the cycles of warnings 1 and 2

-- "the longest run of ticks ending at i, at each of which" p is true, has the first tick a
pub record LongestRun (p : Fact) (h : Past) (a i : ℕ) : Type 0 where
  pub ends : a ≤ i
  pub all : AtAll p h a i
  pub longest : (b : ℕ) → AtAll p h b i → a ≤ b

-- "Their cycle at i is the longest run of ticks ending at i, at each of which the need is met and no warning of equal or higher rank stood after the tick before. Let a be its first tick"
abbrev pub IsCycle : ℕ → Past → ℕ → ℕ → Type 0
IsCycle warning h a i = LongestRun (ready warning) h a i

-- "the number of conditions .. that were fulfilled at some tick from a to i"
pub data Fulfilled (h : Past) (a i : ℕ) : List Fact → ℕ → Type 0 where
  none : Fulfilled h a i [] 0
  one_more : {p : Fact} {ps : List Fact} {k : ℕ} → AtSome p h a i → Fulfilled h a i ps k → Fulfilled h a i (p ∷ ps) (k + 1)
  not_this : {p : Fact} {ps : List Fact} {k : ℕ} → (AtSome p h a i → ⊥) → Fulfilled h a i ps k → Fulfilled h a i (p ∷ ps) k

-- "Let a be its first tick, k the number of conditions a-d that were fulfilled at some tick from a to i. It triggers at i if (i-a) + 100k is at least 300, or one of e-h was fulfilled at such a tick"
pub record CycleTriggers (S : Settings) (warning : ℕ) (h : Past) (i : ℕ) : Type 0 where
  pub a : ℕ
  pub cycle : IsCycle warning h a i
  pub k : ℕ
  pub number : Fulfilled h a i (condition_a ∷ condition_b ∷ condition_c ∷ condition_d ∷ []) k
  pub due : (S.countdown ≤ (i - a) + S.reduction * k) ⊎ AtSome one_of_e_to_h h a i

-- ---- the happenings of warning 3

abbrev pub own_cancel : Message → Bool
own_cancel m = is_cancel m && eqb m.warning post_crash

-- "its own last Cancel": c, of the messages, the newest first
pub record LastCancel (ms : List Message) (c : Message) : Type 0 where
  pub newer : List Message
  pub older : List Message
  pub place : ms ≡ newer ++ (c ∷ older)
  pub own : own_cancel c ≡ true
  pub last : among own_cancel newer ≡ false

-- "the largest of 0, i-150 and the tick of its own last Cancel"; i - 150 is 0 for an i below 150
pub record FirstCounted (i : ℕ) (ms : List Message) (f : ℕ) : Type 0 where
  pub not_before_150 : i - 150 ≤ f
  pub not_before_cancel : (c : Message) → LastCancel ms c → c.reference ≤ f
  pub one_of_them : (f ≡ i - 150) ⊎ ((c : Message) × LastCancel ms c × (f ≡ c.reference))

-- "Warning 3 counts happenings at ticks from" f "up to i. It triggers on a high severity crash among them, or on any other if still at i."
pub record CrashTriggers (h : Past) (ms : List Message) (i : ℕ) : Type 0 where
  pub f : ℕ
  pub first : FirstCounted i ms f
  pub due : AtSome high_severity h f i ⊎ ((AtSome low_severity h f i ⊎ AtSome ecall_pressed h f i) × (at_tick stationary h i ≡ true))

-- "eCall 1, low severity or pedestrian 2, high severity 3": a happening of quality q
unfoldable pub happening : ℕ → Fact
happening q t past =
    cond (eqb q 1) (ecall_pressed t past)
    (cond (eqb q 2) (low_severity t past)
    (cond (eqb q 3) (high_severity t past) false))

-- "the highest of .., among happenings from .. up to now", from tick f to tick i; 0 where there is none
pub record Highest (h : Past) (f i q : ℕ) : Type 0 where
  pub one_of_them : (q ≡ 0) ⊎ AtSome (happening q) h f i
  pub at_least_each : (r : ℕ) → AtSome (happening r) h f i → r ≤ q

-- ---- warning 4, after CR 1

-- "Warning 4 triggers while the bit is set and the vehicle isn't still.": at tick i
abbrev pub DriverTriggers : Past → ℕ → Type 0
DriverTriggers h i = (at_tick mitigation_active h i ≡ true) × (at_tick stationary h i ≡ false)

-- "at rule 2 when the bit clears or the vehicle is still": at tick i
abbrev pub DriverEnds : Past → ℕ → Type 0
DriverEnds h i = (at_tick mitigation_active h i ≡ false) ⊎ (at_tick stationary h i ≡ true)

-- ---- rules 2 and 3

-- "not still at each tick i-50 to i (warning 3: i-150 to i, U), none before its New": d is 50 or 150, n the tick of its New
abbrev pub DrivenOff : ℕ → ℕ → Past → ℕ → Type 0
DrivenOff d n h i = Held d (never stationary) h i × (n + d ≤ i)

-- "position more than 5,000 dm from" another, "compared by squares": p from q, over the integers
abbrev pub MoreThan5000 : Position → Position → Type 0
MoreThan5000 p q =
    let east = p.east -ℤ q.east in
    let north = p.north -ℤ q.north in
    pos (5000 * 5000) <ℤ (east *ℤ east +ℤ north *ℤ north)

-- "ignition off now and on at the tick before"
pub record SwitchedOffNow (h : Past) (i : ℕ) : Type 0 where
  pub off : at_tick (never ignited) h i ≡ true
  pub has_before : 1 ≤ i
  pub on : at_tick ignited h (i - 1) ≡ true

-- ---- the message

-- "whole minutes ..; 0 below 1 minute .., 1 below 2, 2 below 15, else 3", of a number of ticks, 600 in a minute
pub record SinceCode (ticks code : ℕ) : Type 0 where
  pub below_1 : ticks < 600 → code ≡ 0
  pub below_2 : 600 ≤ ticks → ticks < 1200 → code ≡ 1
  pub below_15 : 1200 ≤ ticks → ticks < 9000 → code ≡ 2
  pub from_15 : 9000 ≤ ticks → code ≡ 3

-- "Quality for 1 and 2: 3 if one of e-h is fulfilled at this tick, else 2 if one of a-d is, else 1.": q, at tick i
pub record Graded (h : Past) (i q : ℕ) : Type 0 where
  pub by_e_to_h : OneOfEtoH h i → q ≡ 3
  pub by_a_to_d : (OneOfEtoH h i → ⊥) → OneOfAtoD h i → q ≡ 2
  pub by_none : (OneOfEtoH h i → ⊥) → (OneOfAtoD h i → ⊥) → q ≡ 1

-- "3 Cancel", "Cancel repeats bytes 4-15 and 20-31 of the last New or Update": c is a Cancel at tick i, and has each other field of m
pub record Repeats (m : Message) (i : ℕ) (c : Message) : Type 0 where
  pub kind : c.kind ≡ 3
  pub warning : c.warning ≡ m.warning
  pub quality : c.quality ≡ m.quality
  pub roadtype : c.roadtype ≡ m.roadtype
  pub since : c.since ≡ m.since
  pub event : c.event ≡ m.event
  pub detection : c.detection ≡ m.detection
  pub reference : c.reference ≡ i
  pub position : c.position ≡ m.position
  pub heading : c.heading ≡ m.heading
  pub validity : c.validity ≡ m.validity

-- what "New and Update have" at tick i, the newest of h, with the sample x; warning 3 counts from tick f on
pub record Fields (h : Past) (i : ℕ) (x : Sample) (f : ℕ) (m : Message) : Type 0 where
  pub quality : (m.warning ≡ 1) ⊎ (m.warning ≡ 2) → Graded h i m.quality
  -- "For 3: the highest of .., among happenings from the first counted tick of its New up to now."
  pub quality_of_3 : m.warning ≡ 3 → Highest h f i m.quality
  -- of 4, "quality is 1" (CR 1)
  pub quality_of_4 : m.warning ≡ 4 → m.quality ≡ 1
  pub roadtype : m.roadtype ≡ road_type_of x.road
  -- "whole minutes of the unbroken still run, now minus its first tick", a; "0 .. or not still"
  pub since : (a : ℕ) → LongestRun stationary h a i → SinceCode (i - a) m.since
  pub since_not_still : at_tick stationary h i ≡ false → m.since ≡ 0
  -- "detection = reference = now"
  pub detection : m.detection ≡ i
  pub reference : m.reference ≡ i
  pub position : m.position ≡ x.position
  pub heading : m.heading ≡ x.heading
  pub validity : m.validity ≡ validity_of m.warning (switches_of x).ignition

-- "1 New", "event, the count of New messages so far, a New counting itself": n is a New of the warning w, and k News were given before it
pub record NewOf (w k : ℕ) (n : Message) : Type 0 where
  pub kind : n.kind ≡ 1
  pub warning : n.warning ≡ w
  pub event : n.event ≡ k + 1

-- "2 Update": u is an Update with the warning and the event of m
pub record Updates (m u : Message) : Type 0 where
  pub kind : u.kind ≡ 2
  pub warning : u.warning ≡ m.warning
  pub event : u.event ≡ m.event

-- ---- rule 1

-- "A warning outranking the standing one triggers (with none standing, any): .. New of the highest": h is that warning, 0 where there is none
pub record TheHighest (S : Settings) (v : View) (h : ℕ) : Type 0 where
  pub is_one : (h ≡ 0 → ⊥) → overrules S v h ≡ true
  pub above_all : (warning : ℕ) → overrules S v warning ≡ true → rank warning ≤ rank h
  pub some : (warning : ℕ) → overrules S v warning ≡ true → h ≡ 0 → ⊥

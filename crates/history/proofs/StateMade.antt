-- A state and its parts are equal where each field is.
-- Assumes nothing.
use mathlib.Core.Path.{◌≡◌}
use mathlib.Core.Bool.{Bool}
use mathlib.Core.List.{List}
use Prim.Native.Nat.{ℕ}
use Rattle.std.proofs.Common.{Option}
use Rattle.sample.specs.declared.Position.{Position}
use Rattle.filter.specs.declared.Filter.{Filter}
use Rattle.message.specs.declared.Message.{Message}
use Rattle.history.specs.declared.Conditions.{Conditions}
use Rattle.history.specs.declared.Cycle.{Cycle}
use Rattle.history.specs.declared.Log.{Log}
use Rattle.history.specs.declared.State.{State}

pub marks_made : (c : Conditions) (a b d e f : Bool)
    → a ≡ c.park → b ≡ c.idle → d ≡ c.brake → e ≡ c.belt → f ≡ c.expiring
    → ◌≡◌ {A = Conditions} (record { park = a; idle = b; brake = d; belt = e; expiring = f }) c
marks_made c a b d e f h i j k l = simp (h, i, j, k, l)

pub cycle_made : (c : Cycle) (n : ℕ) (m : Conditions) → n ≡ c.ticks → m ≡ c.marks → ◌≡◌ {A = Cycle} (record { ticks = n; marks = m }) c
cycle_made c n m a b = simp (a, b)

pub log_made : (l : Log) (n : Option Message) (a : ℕ) (p : Position) (b c d : ℕ)
    → n ≡ l.standing → a ≡ l.started → p ≡ l.origin → b ≡ l.counted → c ≡ l.lastcancel → d ≡ l.events
    → ◌≡◌ {A = Log} (record { standing = n; started = a; origin = p; counted = b; lastcancel = c; events = d }) l
log_made l n a p b c d e f o g h i = simp (e, f, o, g, h, i)

pub state_made : (s : State) (n : ℕ) (f : Filter) (i : Bool) (rs : List ℕ) (c d : Cycle) (l : Log)
    → n ≡ s.taken → f ≡ s.filter → i ≡ s.ignition → rs ≡ s.runs → c ≡ s.stoppedcycle → d ≡ s.brokendowncycle → l ≡ s.log
    → ◌≡◌ {A = State} (record { taken = n; filter = f; ignition = i; runs = rs; stoppedcycle = c; brokendowncycle = d; log = l }) s
state_made s n f i rs c d l e g h j k m o = simp (e, g, h, j, k, m, o)

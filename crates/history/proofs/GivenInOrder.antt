-- The messages of a history come in order: a New where no Cancel is due, with the next event; an Update with the event of the newest New; a Cancel where one is due, with that event too.
-- Assumes nothing.
use mathlib.Core.Path.{◌≡◌, refl, sym, ap, ◌∙◌}
use mathlib.Core.Bool.{Bool, true, false, not, ◌&&◌, ◌||◌, cond, false≢true}
use mathlib.Core.List.{List, [], ◌∷◌, ◌++◌, reverse_aux, reverse_aux-append}
use Prim.Native.Nat.{ℕ, ◌+◌}
use lib.Dec.{eqb}
use Rattle.std.proofs.Common.{Option, Some, None}
use Rattle.warnings.specs.Warnings.{new, update, cancel}
use Rattle.sample.specs.declared.Sample.{Sample}
use Rattle.message.specs.declared.Message.{Message}
use Rattle.history.specs.declared.View.{View}
use Rattle.history.specs.Rules.{Settings, highest, report_of, cancel_of, ends_without_message, cancel_standing, end_due, update_due, raise, keep, decide, lasting, noticed, given_by}
use Rattle.history.specs.History.{Past, is_new, is_cancel, messages, standing_after, driver_unresponsive, standing, events, view_of, given_at, tick_of, after, given_during}

-- the messages of a history, the newest first, are those given during it, in their order, turned round
pub messages_after : (S : Settings) (past : Past) (xs : List Sample) → messages (after S past xs) ≡ reverse_aux (given_during S past xs) (messages past)
unfolding messages after given_during tick_of
messages_after S past [] = refl
messages_after S past (x ∷ xs) =
    messages_after S (tick_of S x past ∷ past) xs
    ∙ sym (reverse_aux-append (given_at S x past) (given_during S (tick_of S x past ∷ past) xs) (messages past))

-- how many Cancels come before the next New, by the messages so far, the newest first
unfoldable pub due : List Message → ℕ
due [] = 0
due (m ∷ ms) = cond (is_cancel m || ends_without_message m.warning) 0 1

-- how a message may come next after those before it, the newest first
pub data ComesNext (m : Message) (ms : List Message) : Type 0 where
  a_new_lem : m.kind ≡ new → due ms ≡ 0 → m.event ≡ events ms + 1 → ComesNext m ms
  an_update_lem : m.kind ≡ update → due (m ∷ ms) ≡ due ms → m.event ≡ events ms → ComesNext m ms
  a_cancel : m.kind ≡ cancel → due ms ≡ 1 → m.event ≡ events ms → ComesNext m ms

-- "event, the count of New messages so far, a New counting itself"
pub new_event : (n : Message) (ms : List Message) → is_new n ≡ true → ComesNext n ms → n.event ≡ events ms + 1
new_event n ms e (a_new_lem k d v) = v
new_event n ms e (an_update_lem k d v) = absurd (false≢true (rw k at e))
new_event n ms e (a_cancel k d v) = absurd (false≢true (rw k at e))

-- each message comes next after those before it
abbrev pub InOrder : List Message → Type 0
InOrder [] = Unit {0}
InOrder (m ∷ ms) = ComesNext m ms × InOrder ms

-- what was in order before more messages came
pub in_order_before : (given ms : List Message) → InOrder (reverse_aux given ms) → InOrder ms
in_order_before [] ms o = o
in_order_before (m ∷ given) ms o = (in_order_before given (m ∷ ms) o).1

-- ---- the rules keep the order

-- a test chooses between two things that both have P
pub either : {A : Type 0} (P : A → Type 0) (b : Bool) {x y : A} → P x → P y → P (cond b x y)
either P true p q = p
either P false p q = q

-- how many Cancels are due where a warning stands: none where it "ends without a message" (CR 1)
abbrev pub due_of : ℕ → ℕ
due_of warning = cond (ends_without_message warning) 0 1

-- what stands says how many Cancels are due, and has the event of the newest New: "the count of New messages so far, a New counting itself"
abbrev pub Agrees : List Message → Option Message → Type 0
Agrees ms None = due ms ≡ 0
Agrees ms (Some m) = (due ms ≡ due_of m.warning) × (m.event ≡ events ms)

-- what lasts says the same
pub agrees_lasting : (triggered : Bool) (ms : List Message) (n : Option Message) → Agrees ms n → Agrees ms (lasting triggered n)
unfolding lasting
agrees_lasting triggered ms None a = a
agrees_lasting triggered ms (Some m) a = go (ends_without_message m.warning) triggered refl
  where
    go : (b t : Bool) → ends_without_message m.warning ≡ b → Agrees ms (cond (b && not t) None (Some m))
    go true true e = a
    go true false e = a.0 ∙ rw e
    go false t e = a

-- the messages are in order, and n stands after them
abbrev pub Ordered : List Message → Option Message → Type 0
Ordered ms n = InOrder ms × Agrees ms n

-- n stood before the tick, and l of it lasts
module _ (v : View) (ms : List Message) (n l : Option Message) (count : v.events ≡ events ms) (o : Ordered ms n) (lasts : Agrees ms l) where
  abbrev After : List Message → Type 0
  After given = Ordered (reverse_aux given ms) (standing_after l given)

  silent_in_order : After []
  unfolding standing_after
  silent_in_order = (o.0, lasts)

  -- the Cancel of the standing one, if it has one
  ends_in_order : (m : Message) → n ≡ Some m → After (noticed (cancel_standing v.tick (Some m)) ++ [])
  unfolding noticed cancel_standing cancel_of standing_after due events
  ends_in_order m e = go (ends_without_message m.warning) a.0
    where
      a : Agrees ms (Some m)
      a = rw e at o.1

      go : (b : Bool) → due ms ≡ cond b 0 1 → After (noticed (cond b None (Some (cancel_of v.tick m))) ++ [])
      go true d = silent_in_order
      go false d = ((a_cancel refl d a.1, o.0), refl)

  keeps_order : (s : Option Message) → n ≡ s → After (given_by (keep v s))
  unfolding keep given_by noticed report_of standing_after due events
  keeps_order None e = silent_in_order
  keeps_order (Some m) e =
      let a : Agrees ms (Some m) = rw e at o.1 in
      either (λ d. After (given_by d)) (end_due v m) (ends_in_order m e)
      (either (λ d. After (given_by d)) (update_due v m) ((an_update_lem refl (sym a.0) count, o.0), (refl, count)) silent_in_order)

  raises_in_order : (warning : ℕ) (s : Option Message) → n ≡ s
      → After (noticed (cancel_standing v.tick s) ++ (report_of new warning (v.events + 1) v.recent v ∷ []))
  unfolding noticed cancel_standing cancel_of report_of standing_after due events
  raises_in_order warning None e =
      let next : v.events + 1 ≡ events ms + 1 = ap (λ k. k + 1) count in
      ((a_new_lem refl (rw e at o.1) next, o.0), (refl, next))
  raises_in_order warning (Some m) e = go (ends_without_message m.warning) a.0
    where
      a : Agrees ms (Some m)
      a = rw e at o.1

      next : v.events + 1 ≡ events ms + 1
      next = ap (λ k. k + 1) count

      go : (b : Bool) → due ms ≡ cond b 0 1
          → After (noticed (cond b None (Some (cancel_of v.tick m))) ++ (report_of new warning (v.events + 1) v.recent v ∷ []))
      go true d = ((a_new_lem refl d next, o.0), (refl, next))
      go false d = ((a_new_lem refl refl next, (a_cancel refl d a.1, o.0)), (refl, next))

  decides_in_order : (S : Settings) → n ≡ v.standing → After (given_by (decide S v))
  unfolding decide raise given_by noticed
  decides_in_order S e =
      either (λ d. After (given_by d)) (eqb (highest S v) 0) (keeps_order v.standing e) (raises_in_order (highest S v) v.standing e)

-- so the messages of a history that were in order stay so
pub ordered_next : (S : Settings) (x : Sample) (past : Past) → Ordered (messages past) (standing past)
    → Ordered (messages (tick_of S x past ∷ past)) (standing (tick_of S x past ∷ past))
unfolding messages standing tick_of given_at view_of
ordered_next S x past o =
    let unresponsive = driver_unresponsive (tick_of S x past) past in
    decides_in_order (view_of x past) (messages past) (standing past) (lasting unresponsive (standing past)) refl o (agrees_lasting unresponsive _ _ o.1) S refl

pub ordered_none : Ordered (messages []) (standing [])
unfolding messages standing due
ordered_none = (tt, refl)

ordered_after : (S : Settings) (past : Past) (xs : List Sample) → Ordered (messages past) (standing past) → Ordered (messages (after S past xs)) (standing (after S past xs))
unfolding after
ordered_after S past [] o = o
ordered_after S past (x ∷ xs) o = ordered_after S (tick_of S x past ∷ past) xs (ordered_next S x past o)

pub given_in_order : (S : Settings) (xs : List Sample) → InOrder (messages (after S [] xs))
given_in_order S xs = (ordered_after S [] xs ordered_none).0

-- what stands has the event of the newest New
pub standing_event : (S : Settings) (xs : List Sample) (p : Message) → standing (after S [] xs) ≡ Some p → p.event ≡ events (messages (after S [] xs))
standing_event S xs p e =
    let a : Agrees (messages (after S [] xs)) (Some p) = rw e at (ordered_after S [] xs ordered_none).1 in
    a.1

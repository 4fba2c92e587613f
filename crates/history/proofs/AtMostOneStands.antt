-- At most one warning stands, in the documents' own words, and it is the one that the rules' short definition `standing` finds.
-- Assumes nothing.
use mathlib.Core.Path.{◌≡◌, refl, sym, ap, ◌∙◌}
use mathlib.Core.Logic.{inl, inr}
use mathlib.Core.Bool.{Bool, true, false, not, ◌&&◌, ◌||◌, cond, true≢false, false≢true}
use mathlib.Core.List.Memᴰ
use mathlib.Core.List.{List, [], ◌∷◌, ◌++◌, reverse_aux, Memᴰ}
use Prim.Native.Nat.{ℕ, ◌+◌}
use native.Mathlib.Omega.{arith}
use lib.Dec.{eqb}
use borrow.Author.Tests.{eq-eqb, eqb-true, ne_eqb}
use Rattle.std.proofs.Common.{Option, Some, None}
use Rattle.warnings.specs.Warnings.{new, update, post_crash, unresponsive_driver}
use Rattle.sample.specs.declared.Sample.{Sample}
use Rattle.message.specs.declared.Message.{Message}
use Rattle.history.specs.declared.View.{View}
use Rattle.history.specs.Rules.{Settings, rank, standing_rank, driver_triggers, triggers, highest, report_of, cancel_of, ends_without_message, cancel_standing, cancel_due, end_due, update_due, silent, raise, keep, decide, lasting, noticed, given_by}
use Rattle.history.specs.History.{Past, present, is_new, messages, standing_after, driver_unresponsive, standing, events, view_of, given_at, tick_of, after}
use Rattle.history.specs.Standing.{among, ends_at, BeginsAt, Stands}
use Rattle.history.specs.TickWords.{ItsNew}
use Rattle.history.proofs.GivenInOrder.{either, Agrees, Ordered, ordered_next, ordered_none}
use Rattle.history.proofs.HighestInWords.{Overruling, highest_overrules, above_driver}
use Rattle.history.proofs.DriverInWords.{opened_driver, driver_triggers_now}
use Rattle.history.proofs.Reached.{tick_with}

-- ---- what is shown of every history

-- p is the last New or Update of the warning that stands, and n its New
pub record Known (h : Past) (p : Message) : Type 0 where
  pub n : Message
  pub stands : Stands n h
  pub only : (m : Message) → Stands m h → m ≡ n
  pub older : List Message
  pub its_new : ItsNew p.event (messages h) n older
  pub warning : p.warning ≡ n.warning

abbrev pub Found : Past → Option Message → Type 0
Found h None = (m : Message) → Stands m h → ⊥
Found h (Some p) = Known h p

-- ---- one tick

module _ (x : Sample) (past : Past) where
  abbrev v : View
  v = view_of x past

  abbrev active : Bool
  active = driver_unresponsive (present x) past

  -- what is shown of the messages given at the tick
  abbrev After : List Message → Type 0
  After given = Found (tick_with x given ∷ past) (standing_after (lasting active (standing past)) given)

  -- nothing stood
  none_stays : standing past ≡ None → Found past None → After []
  unfolding standing_after lasting
  none_stays e f = rw e (λ m s. elim s.0 [ inl b ↦ Memᴰ.not-nil b.given | inr r ↦ f m r ])

  -- one message, that is no New
  no_new : {q : Message} → is_new q ≡ false → (m : Message) → BeginsAt m (tick_with x (q ∷ [])) → ⊥
  no_new h m b = elim (Memᴰ.cases_cons b.given) [ inl r ↦ false≢true (sym h ∙ rw r at b.is_a_new) | inr j ↦ Memᴰ.not-nil j ]

  module _ (p : Message) (e : standing past ≡ Some p) (count : p.event ≡ events (messages past)) (k : Known past p) where
    -- at a tick at which the warning ends, none stands on
    stood : (given : List Message) → ends_at k.n (tick_with x given) past ≡ true
        → (m : Message) → Stands m past → ends_at m (tick_with x given) past ≡ false → ⊥
    stood given t m s l = let q : m ≡ k.n = k.only m s in true≢false (sym t ∙ rw (← q) l)

    -- its Cancel has its event
    own : eqb p.event k.n.event ≡ true
    own = eq-eqb p.event k.n.event (sym k.its_new.own)

    -- rule 2
    ends : end_due v p ≡ true → After (noticed (cancel_standing v.tick (Some p)) ++ [])
    unfolding end_due noticed cancel_standing cancel_of standing_after lasting ends_at among opened_driver
    ends due = rw e (go (ends_without_message p.warning) refl due)
      where
        go : (b : Bool) → ends_without_message p.warning ≡ b → cond b (not (driver_triggers v)) (cancel_due v p) ≡ true
            → Found (tick_with x (noticed (cond b None (Some (cancel_of v.tick p))) ++ []) ∷ past)
            (standing_after (cond (b && not active) None (Some p)) (noticed (cond b None (Some (cancel_of v.tick p))) ++ []))
        go true q d =
            let off : not active ≡ true = rw (driver_triggers_now x past) at d in
            rw off (λ m s. elim s.0 [ inl b ↦ Memᴰ.not-nil b.given | inr r ↦ stood [] (rw (← k.warning, q) off) m r s.1 ])
        go false q d = λ m s.
            elim s.0 [ inl b ↦ no_new refl m b | inr r ↦ stood (cancel_of v.tick p ∷ []) (rw (← k.warning, q, own)) m r s.1 ]

    module _ (due : end_due v p ≡ false) where
      -- where rule 2 does not end it, it lasts
      on : ends_without_message p.warning && not active ≡ false
      unfolding end_due
      on = go (ends_without_message p.warning) due
        where
          go : (b : Bool) → cond b (not (driver_triggers v)) (cancel_due v p) ≡ false → b && not active ≡ false
          go true d = rw (driver_triggers_now x past) at d
          go false d = refl

      goes_on : cond (eqb k.n.warning unresponsive_driver) (not active) false ≡ false
      goes_on = rw (← k.warning) (go (ends_without_message p.warning) on)
        where
          go : (b : Bool) → b && not active ≡ false → cond b (not active) false ≡ false
          go true d = d
          go false d = refl

      -- no rule
      silent_stays : After []
      unfolding standing_after lasting ends_at among messages opened_driver
      silent_stays = rw (e, on) (record {
        n = k.n;
        stands = (inr k.stands, goes_on);
        only = λ m s. elim s.0 [ inl b ↦ absurd (Memᴰ.not-nil b.given) | inr r ↦ k.only m r ];
        older = k.older;
        its_new = k.its_new;
        warning = k.warning;
      })

      -- rule 3
      abbrev an_update : Message
      an_update = report_of update p.warning v.events v.kept v

      updates : After (an_update ∷ [])
      unfolding standing_after ends_at among messages report_of view_of opened_driver
      updates =
          let w = k.its_new in
          record {
            n = k.n;
            stands = (inr k.stands, goes_on);
            only = λ m s. elim s.0 [ inl b ↦ absurd (no_new refl m b) | inr r ↦ k.only m r ];
            older = k.older;
            its_new = record { newer = an_update ∷ w.newer; place = ap (λ l. an_update ∷ l) w.place; is_a_new = w.is_a_new; own = w.own ∙ count };
            warning = k.warning;
          }

  keeps : (n : Option Message) → standing past ≡ n → Agrees (messages past) n → Found past n → After (given_by (keep v n))
  unfolding keep given_by noticed
  keeps None e a f = none_stays e f
  keeps (Some p) e a k = go (end_due v p) refl
    where
      go : (b : Bool) → end_due v p ≡ b
          → After (given_by (cond b (record { cancel = cancel_standing v.tick (Some p); report = None })
          (cond (update_due v p) (record { cancel = None; report = Some (report_of update p.warning v.events v.kept v) }) silent)))
      go true d = ends p e a.1 k d
      go false d = either (λ d. After (given_by d)) (update_due v p) (updates p e a.1 k d) (silent_stays p e a.1 k d)

  -- rule 1
  module _ (S : Settings) (warning : ℕ) (o : Overruling S v warning) where
    abbrev a_new : Message
    a_new = report_of new warning (v.events + 1) v.recent v

    raised : (given older : List Message) → reverse_aux given (messages past) ≡ a_new ∷ older
        → standing_after (lasting active (standing past)) given ≡ Some a_new
        → Memᴰ a_new given → ends_at a_new (tick_with x given) past ≡ false → ((m : Message) → BeginsAt m (tick_with x given) → m ≡ a_new)
        → ((m : Message) → Stands m past → ends_at m (tick_with x given) past ≡ false → ⊥) → After given
    unfolding messages report_of
    raised given older e l i begins only none = rw l (record {
      n = a_new;
      stands = (inl (record { is_a_new = refl; given = i }), begins);
      only = λ m s. elim s.0 [ inl b ↦ only m b | inr r ↦ absurd (none m r s.1) ];
      older = older;
      its_new = record { newer = []; place = e; is_a_new = refl; own = refl };
      warning = refl;
    })

    -- at its own tick 4 triggers, and no 3 is raised with it
    begins_active : warning ≡ unresponsive_driver → active ≡ true
    unfolding triggers
    begins_active e = sym (driver_triggers_now x past) ∙ rw e at o.triggered

    new_alone : ((m : Message) → Stands m past → ends_at m (tick_with x (a_new ∷ [])) past ≡ false → ⊥) → After (a_new ∷ [])
    unfolding standing_after ends_at among report_of opened_driver
    new_alone none =
        raised (a_new ∷ []) (messages past) refl refl (Memᴰ.head refl) (go (eqb warning unresponsive_driver) refl)
        (λ m b. elim (Memᴰ.cases_cons b.given) [ inl q ↦ q | inr j ↦ absurd (Memᴰ.not-nil j) ]) none
      where
        go : (b : Bool) → eqb warning unresponsive_driver ≡ b → cond b ((eqb warning post_crash || false) || not active) false ≡ false
        go true q = let w = eqb-true warning unresponsive_driver q in rw (w, begins_active w)
        go false q = refl

    with_cancel : (p : Message) → p.event ≡ events (messages past)
        → ((m : Message) → Stands m past → ends_at m (tick_with x (cancel_of v.tick p ∷ a_new ∷ [])) past ≡ false → ⊥)
        → After (cancel_of v.tick p ∷ a_new ∷ [])
    unfolding standing_after cancel_of ends_at among report_of view_of opened_driver
    with_cancel p count none =
        raised (cancel_of v.tick p ∷ a_new ∷ []) (cancel_of v.tick p ∷ messages past) refl refl (Memᴰ.tail (Memᴰ.head refl)) (go (eqb warning unresponsive_driver) refl)
        (λ m b. elim (Memᴰ.cases_cons b.given) [
          | inl r ↦ let z : false ≡ true = rw r at b.is_a_new in absurd (false≢true z)
          | inr j ↦ elim (Memᴰ.cases_cons j) [ inl r ↦ r | inr i ↦ absurd (Memᴰ.not-nil i) ]
        ])
        none
      where
        other : eqb p.event (events (messages past) + 1) ≡ false
        other = ne_eqb p.event (events (messages past) + 1) (λ q. omega arith)

        go : (b : Bool) → eqb warning unresponsive_driver ≡ b
            → cond b ((eqb warning post_crash || false) || not active) (eqb p.event (events (messages past) + 1) || false) ≡ false
        go true q = let w = eqb-true warning unresponsive_driver q in rw (w, begins_active w)
        go false q = rw other

    raises : (n : Option Message) → standing past ≡ n → Agrees (messages past) n → Found past n → After (noticed (cancel_standing v.tick n) ++ (a_new ∷ []))
    unfolding noticed cancel_standing standing_rank rank ends_at among cancel_of report_of view_of
    raises None e a f = new_alone (λ m r l. f m r)
    raises (Some p) e a k = go (ends_without_message p.warning) refl
      where
        go : (b : Bool) → ends_without_message p.warning ≡ b → After (noticed (cond b None (Some (cancel_of v.tick p))) ++ (a_new ∷ []))
        go true q =
            let w : p.warning ≡ unresponsive_driver = eqb-true p.warning unresponsive_driver q in
            let three = above_driver S v warning o (rw (e, w)) in
            new_alone (stood p e a.1 k (a_new ∷ []) (rw (← k.warning, q, three)))
        go false q = with_cancel p a.1 (stood p e a.1 k (cancel_of v.tick p ∷ a_new ∷ []) (rw (← k.warning, q, own p e a.1 k)))

  decides : (S : Settings) → Agrees (messages past) (standing past) → Found past (standing past) → After (given_by (decide S v))
  unfolding decide raise given_by noticed view_of
  decides S a f = go (eqb (highest S v) 0) refl
    where
      go : (b : Bool) → eqb (highest S v) 0 ≡ b → After (given_by (cond b (keep v (standing past)) (raise v (highest S v))))
      go true q = keeps (standing past) refl a f
      go false q = raises S (highest S v) (highest_overrules S v q) (standing past) refl a f

-- ---- the theorems

found_after : (S : Settings) (past : Past) (xs : List Sample) → Ordered (messages past) (standing past) → Found past (standing past)
    → Found (after S past xs) (standing (after S past xs))
unfolding after standing tick_of given_at opened_driver
found_after S past [] o f = f
found_after S past (x ∷ xs) o f = found_after S (tick_of S x past ∷ past) xs (ordered_next S x past o) (decides x past S o.1 f)

found : (S : Settings) (xs : List Sample) → Found (after S [] xs) (standing (after S [] xs))
unfolding standing
found S xs = found_after S [] xs ordered_none (λ m s. s)

-- the rules' short definition finds only what stands
pub standing_known : (S : Settings) (xs : List Sample) (p : Message) → standing (after S [] xs) ≡ Some p → Known (after S [] xs) p
standing_known S xs p e = rw e at (found S xs)

pub standing_stands : (S : Settings) (xs : List Sample) (p : Message) → standing (after S [] xs) ≡ Some p
    → (n : Message) × Stands n (after S [] xs) × (p.event ≡ n.event) × (p.warning ≡ n.warning)
standing_stands S xs p e = let k = standing_known S xs p e in (k.n, k.stands, sym k.its_new.own, k.warning)

-- and finds what stands
stands_known : (S : Settings) (xs : List Sample) (n : Message) → Stands n (after S [] xs)
    → (p : Message) × (standing (after S [] xs) ≡ Some p) × (k : Known (after S [] xs) p) × (n ≡ k.n)
stands_known S xs n s = go (standing (after S [] xs)) refl (found S xs)
  where
    go : (f : Option Message) → standing (after S [] xs) ≡ f → Found (after S [] xs) f
        → (p : Message) × (standing (after S [] xs) ≡ Some p) × (k : Known (after S [] xs) p) × (n ≡ k.n)
    go None e none = absurd (none n s)
    go (Some p) e k = (p, e, k, k.only n s)

pub stands_standing : (S : Settings) (xs : List Sample) (n : Message) → Stands n (after S [] xs)
    → (p : Message) × (standing (after S [] xs) ≡ Some p) × (p.event ≡ n.event) × (p.warning ≡ n.warning)
stands_standing S xs n s =
    let f = stands_known S xs n s in
    let same = sym f.3 in
    (f.0, f.1, sym f.2.its_new.own ∙ ap (λ (m : Message). m.event) same, f.2.warning ∙ ap (λ (m : Message). m.warning) same)

-- "A warning stands from its New until" it ends: at most one does, after any samples
pub at_most_one_stands : (S : Settings) (xs : List Sample) (n m : Message) → Stands n (after S [] xs) → Stands m (after S [] xs) → n ≡ m
at_most_one_stands S xs n m s t = let k = (stands_known S xs n s).2 in k.only n s ∙ sym (k.only m t)

-- "its New": the warning that stands has it among the messages
pub its_new_given : (S : Settings) (xs : List Sample) (n : Message) → Stands n (after S [] xs)
    → (older : List Message) × ItsNew n.event (messages (after S [] xs)) n older
its_new_given S xs n s = let f = stands_known S xs n s in go f.2 n f.3
  where
    go : {p : Message} (k : Known (after S [] xs) p) (m : Message) → m ≡ k.n → (older : List Message) × ItsNew m.event (messages (after S [] xs)) m older
    go k m e = let w = k.its_new in rw e (k.older, record { newer = w.newer; place = w.place; is_a_new = w.is_a_new; own = refl })

-- What is newer, held, kept out and shown, in quantified words over the messages accepted by a list of calls.
-- Assumes nothing.
use mathlib.Core.Path.{◌≡◌, refl, sym, ap, ◌∙◌}
use mathlib.Core.Bool.{Bool, true, false, not, ◌&&◌, ◌||◌, or-true}
use mathlib.Core.Logic.{◌↔◌, inl, inr}
use mathlib.Core.List.Memᴰ
use mathlib.Core.List.{List, [], ◌∷◌, Memᴰ}
use Prim.Native.Nat.{ℕ, ◌+◌, ◌*◌, ◌-◌, ◌<◌}
use native.Mathlib.Omega.{arith}
use borrow.Author.Tests.{ltb-true, lt-ltb, eqb-true, eq-eqb, leb-false, lt-leb, eqb-false, ne_eqb, not-true}
use lib.Dec.{ltb, eqb}
use Rattle.std.proofs.lemmas.Bool.{or_cases}
use Rattle.wire.proofs.Tests.{both_true}
use Rattle.std.specs.List.{list_any}
use Rattle.message.specs.declared.Message.{Message}
use Rattle.warnings.specs.Warnings.{cancel}
use Rattle.receiver.specs.declared.Received.{Received}
use Rattle.receiver.specs.Held.{has_lapsed, unlapsed, is_newer, keeps_out, is_shown}
use Rattle.receiver.specs.Calls.{Call, shown}
use Rattle.receiver.specs.Reading.{last_tick, latest}
use Rattle.receiver.specs.InWords.{IsLast, IsHeld, Newer, past_of}
use Rattle.receiver.proofs.Filters.{kept_member, member_kept}
use Rattle.receiver.proofs.Latest.{member_last, last_member}
use Rattle.receiver.proofs.DemandHolds.{Kept, nothing_kept, all_kept}
use Rattle.message.proofs.Admitted.{valid}

-- ---- tests

-- a test passes for one of the list
any_member : {A : Type 0} (p : A → Bool) (xs : List A) → list_any p xs ≡ true → (x : A) × Memᴰ x xs × (p x ≡ true)
any_member p [] h = cc
any_member p (y ∷ ys) h =
    elim (or_cases (p y) (list_any p ys) h) [
      | inl t ↦ (y, Memᴰ.head refl, t)
      | inr r ↦ let m = any_member p ys r in (m.0, Memᴰ.tail m.1, m.2)
    ]

member_any : {A : Type 0} (p : A → Bool) (xs : List A) (x : A) → Memᴰ x xs → p x ≡ true → list_any p xs ≡ true
member_any p [] x i t = absurd (Memᴰ.not-nil i)
member_any p (y ∷ ys) x i t =
    elim (Memᴰ.cases_cons i) [
      | inl e ↦ ap (λ (b : Bool). b || list_any p ys) (sym (ap p e) ∙ t)
      | inr j ↦ ap (λ (b : Bool). p y || b) (member_any p ys x j t) ∙ or-true (p y)
    ]

-- ---- what is newer, and what has lapsed

pub newer_lem : (m n : Message) → (is_newer m n ≡ true) ↔ Newer m n
unfolding is_newer
newer_lem m n = (
  (λ h. elim (or_cases (ltb n.event m.event) (eqb m.event n.event && ltb n.reference m.reference) h) [
    | inl l ↦ inl (ltb-true _ _ l)
    | inr p ↦ let q = both_true (eqb m.event n.event) (ltb n.reference m.reference) p in inr (eqb-true _ _ q.0, ltb-true _ _ q.1)
  ]),
  λ w. elim w [
    | inl l ↦ rw (lt-ltb _ _ l) refl
    | inr q ↦ rw (eq-eqb _ _ q.0, lt-ltb _ _ q.1) (or-true (ltb n.event m.event))
  ],
)

-- a message that is valid for some time has lapsed at a tick, or not
not_lapsed : (tick : ℕ) (x : Received) → 0 < x.message.validity → (not (has_lapsed tick x) ≡ true) ↔ (tick < x.arrival + 10 * x.message.validity)
unfolding has_lapsed
not_lapsed tick x v = (
  (λ h. let l = leb-false (10 * x.message.validity) (tick - x.arrival) (not-true _ h) in omega arith),
  λ h. ap not (lt-leb (10 * x.message.validity) (tick - x.arrival) (omega arith)),
)

pub last_accepted : (past : List Received) (x : Received) → IsLast past x → Memᴰ x past
last_accepted past x l = rw l.accepted (Memᴰ.append_right l.later (Memᴰ.head refl))

module _ (calls : List Call) where
  pub kept : Kept (past_of calls)
  kept = all_kept [] calls nothing_kept

  pub held_lem : (tick : ℕ) (x : Received) → Memᴰ x (unlapsed tick (latest (past_of calls))) ↔ IsHeld tick (past_of calls) x
  held_lem tick x = (
    (λ i.
        let m = kept_member (λ y. not (has_lapsed tick y)) (latest (past_of calls)) i in
        let l = member_last (past_of calls) x m.0 in
        record { last = l; unlapsed = (not_lapsed tick x (valid x.message (kept.admitted x (last_accepted (past_of calls) x l)))).0 m.1 }),
    λ h.
        member_kept (λ y. not (has_lapsed tick y)) (latest (past_of calls)) (last_member (past_of calls) x h.last)
        ((not_lapsed tick x (valid x.message (kept.admitted x (last_accepted (past_of calls) x h.last)))).1 h.unlapsed),
  )

  pub kept_out_lem : (e : Received) → (list_any (keeps_out e) (unlapsed e.arrival (latest (past_of calls))) ≡ true)
      ↔ ((x : Received) × IsHeld e.arrival (past_of calls) x × (x.sender ≡ e.sender) × (Newer e.message x.message → ⊥))
  unfolding keeps_out
  kept_out_lem e = (
    (λ h.
        let m = any_member (keeps_out e) (unlapsed e.arrival (latest (past_of calls))) h in
        let q = both_true (eqb m.0.sender e.sender) (not (is_newer e.message m.0.message)) m.2 in (
          m.0,
          (held_lem e.arrival m.0).0 m.1,
          eqb-true _ _ q.0,
          λ w. (let z : false ≡ true = sym (not-true _ q.1) ∙ (newer_lem e.message m.0.message).1 w in cc),
        )),
    λ w.
        member_any (keeps_out e) (unlapsed e.arrival (latest (past_of calls))) w.0 ((held_lem e.arrival w.0).1 w.1)
        (rw (eq-eqb _ _ w.2, not_newer e.message w.0.message w.3) refl),
  )
    where
      not_newer : (m n : Message) → (Newer m n → ⊥) → is_newer m n ≡ false
      not_newer m n none = go (is_newer m n) refl
        where
          go : (b : Bool) → is_newer m n ≡ b → b ≡ false
          go true h = absurd (none ((newer_lem m n).0 h))
          go false h = refl

  pub shown_lem : (x : Received) → Memᴰ x (shown (last_tick (past_of calls)) (latest (past_of calls)))
      ↔ (IsHeld (last_tick (past_of calls)) (past_of calls) x × (x.message.kind ≡ cancel → ⊥))
  unfolding shown is_shown
  shown_lem x = (
    (λ i.
        let m = kept_member is_shown (unlapsed (last_tick (past_of calls)) (latest (past_of calls))) i in
        ((held_lem (last_tick (past_of calls)) x).0 m.0, eqb-false _ _ (not-true _ m.1))),
    λ w. member_kept is_shown (unlapsed (last_tick (past_of calls)) (latest (past_of calls))) ((held_lem (last_tick (past_of calls)) x).1 w.0) (ap not (ne_eqb _ _ w.1)),
  )

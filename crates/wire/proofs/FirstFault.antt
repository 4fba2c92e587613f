-- The first failing check of checks in a row, and the outcome of a call and the memory after it that go by it.
-- Assumes nothing.
use mathlib.Core.Path.{◌≡◌, refl, sym, ap, ◌∙◌}
use mathlib.Core.Bool.{Bool, true, false, cond}
use mathlib.Core.List.{List, [], ◌∷◌, ◌++◌}
use Prim.Native.Nat.{ℕ}
use native.Mathlib.Omega.{arith}
use borrow.Author.Tests.{eq-eqb, ne_eqb, eqb-true, eqb-false}
use lib.Dec.{eqb}
use Rattle.wire.specs.Memory.{overlay, memory}
use Rattle.std.specs.Prelude.{Result, Ok, Err}
use Rattle.std.specs.Result.{IsErrAnd}
use Rattle.wire.specs.Outcome.{Check, first_fault, accepted, refused, outcome, number_of, Answer, answered, fault_of}
use Rattle.wire.specs.declared.Refusal.{Refusal}

module _ {A : Type 0} (fault : ℕ) (value : A) where
  pub outcome_accepted : fault ≡ 0 → outcome fault value ≡ accepted value
  unfolding outcome
  outcome_accepted e = simp (eq-eqb _ _ e)

  pub outcome_refused : (fault ≡ 0 → ⊥) → outcome fault value ≡ refused fault
  unfolding outcome
  outcome_refused e = simp (ne_eqb _ _ e)

-- an accepted call has no failing check, and gives its value
pub accepted_clear : {A : Type 0} (fault : ℕ) (value a : A) → outcome fault value ≡ accepted a → (fault ≡ 0) × (value ≡ a)
unfolding outcome
accepted_clear fault value a e = go (eqb fault 0) refl e
  where
    go : (b : Bool) → eqb fault 0 ≡ b → cond b (accepted value) (refused fault) ≡ accepted a → (fault ≡ 0) × (value ≡ a)
    go true f g = (eqb-true fault 0 f, cc)
    go false f g = let z : ◌≡◌ {A = ℕ} 0 1 = cc in absurd (omega arith)

-- a refused call has a failing check, whose number it gives
pub refused_number : {A : Type 0} (fault : ℕ) (value : A) (n : ℕ) → outcome fault value ≡ refused n → (n ≡ fault) × (fault ≡ 0 → ⊥)
unfolding outcome
refused_number fault value n e = go (eqb fault 0) refl e
  where
    go : (b : Bool) → eqb fault 0 ≡ b → cond b (accepted value) (refused fault) ≡ refused n → (n ≡ fault) × (fault ≡ 0 → ⊥)
    go true f g = let z : ◌≡◌ {A = ℕ} 0 1 = cc in absurd (omega arith)
    go false f g = (cc, eqb-false fault 0 f)

-- no check fails: not the first, and none of the others
pub clear_first : (c : Check) (cs : List Check) → (c.number ≡ 0 → ⊥) → first_fault (c ∷ cs) ≡ 0
    → (c.fails ≡ false) × (first_fault cs ≡ 0)
unfolding first_fault
clear_first c cs h e = go c.fails e
  where
    go : (b : Bool) → cond b c.number (first_fault cs) ≡ 0 → (b ≡ false) × (first_fault cs ≡ 0)
    go true f = absurd (h f)
    go false f = (refl, f)

-- no check has the number 0, which says that none fails
abbrev pub Numbered : List Check → Type 0
Numbered [] = Unit {0}
Numbered (c ∷ cs) = (c.number ≡ 0 → ⊥) × Numbered cs

pub numbered_append : (cs ds : List Check) → Numbered cs → Numbered ds → Numbered (cs ++ ds)
numbered_append [] ds h k = k
numbered_append (c ∷ cs) ds h k = (h.0, numbered_append cs ds h.1 k)

-- checks behind checks of which none fails, and behind checks of which one does
pub append_clear : (cs ds : List Check) → Numbered cs → first_fault cs ≡ 0 → first_fault (cs ++ ds) ≡ first_fault ds
unfolding first_fault
append_clear [] ds k e = refl
append_clear (c ∷ cs) ds k e =
    let p = clear_first c cs k.0 e in
    rw p.0 (append_clear cs ds k.1 p.1)

pub append_failing : (cs ds : List Check) → (first_fault cs ≡ 0 → ⊥) → first_fault (cs ++ ds) ≡ first_fault cs
unfolding first_fault
append_failing [] ds e = absurd (e refl)
append_failing (c ∷ cs) ds e = go c.fails e (append_failing cs ds)
  where
    go : (b : Bool) → (cond b c.number (first_fault cs) ≡ 0 → ⊥)
        → ((first_fault cs ≡ 0 → ⊥) → first_fault (cs ++ ds) ≡ first_fault cs)
        → cond b c.number (first_fault (cs ++ ds)) ≡ cond b c.number (first_fault cs)
    go true e next = refl
    go false e next = next e

-- checks behind the same ones, with the same first failing check
pub append_same : (cs ds es : List Check) → first_fault ds ≡ first_fault es → first_fault (cs ++ ds) ≡ first_fault (cs ++ es)
unfolding first_fault
append_same [] ds es h = h
append_same (c ∷ cs) ds es h = ap (cond c.fails c.number) (append_same cs ds es h)

-- no check of both fails: none of either does
pub clear_append : (cs ds : List Check) → Numbered cs → first_fault (cs ++ ds) ≡ 0 → (first_fault cs ≡ 0) × (first_fault ds ≡ 0)
unfolding first_fault
clear_append [] ds k e = (refl, e)
clear_append (c ∷ cs) ds k e =
    let p = clear_first c (cs ++ ds) k.0 e in
    let q = clear_append cs ds k.1 p.1 in
    (rw p.0 q.0, q.1)

module _ (fault : ℕ) (bytes out : List ℕ) where
  pub memory_accepted : fault ≡ 0 → memory fault bytes out ≡ overlay bytes out
  unfolding memory
  memory_accepted e = simp (eq-eqb _ _ e)

  pub memory_refused : (fault ≡ 0 → ⊥) → memory fault bytes out ≡ out
  unfolding memory
  memory_refused e = simp (ne_eqb _ _ e)

-- no refusal has the number 0, which says that none is
pub numbered : (r : Refusal) → number_of r ≡ 0 → ⊥
numbered r e = grind arith

-- a call without output that its first failing check refuses
pub answered_refused : {A : Type 0} (fault : ℕ) (value : A) (r : Refusal) → number_of r ≡ fault → refused (number_of r) ≡ outcome fault value
answered_refused fault value r h = ap refused h ∙ sym (outcome_refused fault value (λ z. numbered r (h ∙ z)))

-- each check has a refusal
abbrev pub Named : List Check → Type 0
Named [] = Unit {0}
Named (c ∷ cs) = ((r : Refusal) × (number_of r ≡ c.number)) × Named cs

pub named_append : (cs ds : List Check) → Named cs → Named ds → Named (cs ++ ds)
named_append [] ds h k = k
named_append (c ∷ cs) ds h k = (h.0, named_append cs ds h.1 k)

-- the answer of a call with these checks
pub answer_made : (cs : List Check) (value : ℕ) → Named cs → (r : Answer) × (answered r ≡ outcome (first_fault cs) value)
unfolding first_fault answered outcome
answer_made [] value h = (Ok value, refl)
answer_made (c ∷ cs) value h = go c.fails (answer_made cs value h.1)
  where
    go : (b : Bool) → (r : Answer) × (answered r ≡ outcome (first_fault cs) value)
        → (r : Answer) × (answered r ≡ outcome (cond b c.number (first_fault cs)) value)
    go true rest = (Err h.0.0, answered_refused c.number value h.0.0 h.0.1)
    go false rest = rest

-- what `?` hands on is the refusal that it met
pub fault_passed : {A : Type 0} (r : Result A Refusal) (e : Refusal) → IsErrAnd r (λ x. x ≡ e) → fault_of r ≡ number_of e
fault_passed (Ok x) e h = absurd h
fault_passed (Err f) e h = ap number_of h

-- two answers that refuse alike refuse for one reason
pub same_error : {A : Type 0} (e f : Refusal) → ◌≡◌ {A = Result A Refusal} (Err e) (Err f) → e ≡ f
same_error e f h = cc

pub is_passed : {A : Type 0} (r : Result A Refusal) (e : Refusal) → IsErrAnd r (λ x. x ≡ e) → Err e ≡ r
is_passed (Ok x) e h = absurd h
is_passed (Err f) e h = ap Err (sym h)

pub answered_passed : {A : Type 0} (r : Result A Refusal) (e : Refusal) → IsErrAnd r (λ x. x ≡ e) → answered r ≡ refused (number_of e)
unfolding answered
answered_passed (Ok x) e h = absurd h
answered_passed (Err f) e h = ap (λ (g : Refusal). refused (number_of g)) h

-- answer and memory together, as a call's contract asks for them
module _ (fault value : ℕ) (bytes out : List ℕ) where
  pub call_refused : (r : Refusal) → fault ≡ number_of r → (answered (Err r) ≡ outcome fault value) × (out ≡ memory fault bytes out)
  unfolding answered
  call_refused r e =
      let f : fault ≡ 0 → ⊥ = λ z. numbered r (sym e ∙ z) in
      (sym (outcome_refused fault value f ∙ ap refused e), sym (memory_refused fault bytes out f))

  pub call_accepted : (last : List ℕ) → fault ≡ 0 → last ≡ overlay bytes out → (answered (Ok value) ≡ outcome fault value) × (last ≡ memory fault bytes out)
  unfolding answered
  call_accepted last e f = (sym (outcome_accepted fault value e), f ∙ sym (memory_accepted fault bytes out e))

-- A loop that changes an array place by place: those before place i are the new ones, the others are as they were.
-- Assumes nothing.
use mathlib.Core.Path.{◌≡◌, refl, sym, ap, ◌∙◌}
use mathlib.Core.List.{List}
use Prim.Native.Nat.{ℕ, suc, ◌+◌, ◌≤◌, ◌<◌}
use native.Mathlib.Numerals.{add-one}
use native.Mathlib.Omega.{arith}
use lib.ListN.{length, get_or, set, take, drop, length-set}
use lib.Seq.{drop-cons, take-suc, take-suc-set, drop-set-lt, take_all}

pub record Changing (new old now : List ℕ) (i : ℕ) : Type 0 where
  pub size : length now ≡ length old
  pub done : take i now ≡ take i new
  pub rest : drop i now ≡ drop i old

pub change_starts : (new old : List ℕ) → Changing new old old 0
change_starts new old = record { size = refl; done = refl; rest = refl }

module _ {new old now : List ℕ} {i : ℕ} (h : Changing new old now i) where
  -- what stands at place i is not changed yet
  pub unchanged_yet : i < length old → get_or now i 0 ≡ get_or old i 0
  unchanged_yet b =
      let c : i < length now = omega (arith, h.size) in
      ap (λ (l : List ℕ). get_or l 0 0) (sym (drop-cons now i 0 c) ∙ h.rest ∙ drop-cons old i 0 b)

  pub change_goes_on : length new ≡ length old → i < length old → (n : ℕ) → n ≡ get_or new i 0 → Changing new old (set now i n) (i + 1)
  change_goes_on l b n e =
      let c : i < length now = omega (arith, h.size) in
      let d : i < length new = omega arith in
      let m : i < suc i = omega arith in
      rw (add-one i) (record {
        size = length-set now i n ∙ h.size;
        done = take-suc-set now i n c ∙ rw (h.done, e) (sym (take-suc new i 0 d));
        rest = drop-set-lt (suc i) now i n m ∙ ap (drop 1) (sym (drop-cons now i 0 c) ∙ h.rest ∙ drop-cons old i 0 b);
      })

  pub change_ends : length new ≡ length old → length old ≤ i → now ≡ new
  change_ends l b = sym (take_all i now (omega (arith, h.size))) ∙ h.done ∙ take_all i new (omega arith)

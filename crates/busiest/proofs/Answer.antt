-- The busiest stretch of all messages: what the loop over them ends with is what CR 7 asks, and what the definition finds.
-- Assumes nothing.
use Rattle.std.proofs.Common.{◌≡◌, ℕ, ◌+◌, ◌-◌, ◌<◌, ◌≤◌, List, length, get_or, sym, refl, ap, ◌∙◌, arith}
use Rattle.std.specs.Prelude.{Option, None, Some, Contains, All, map, eqb}
use Rattle.std.specs.List.Sorted.{IsNonDecreasing}
use Rattle.std.proofs.lemmas.Bool.{cases_lt, eq-eqb, eqb-true}
use Rattle.std.proofs.lemmas.List.Sums.{count_by-le-length}
use Rattle.std.proofs.lemmas.List.Elements.{Contains-get_or}
use Rattle.std.proofs.lemmas.List.{get_or_default, nil_from_length, get_or-map, length-map}
use mathlib.Core.Logic.{◌⊎◌, inl, inr}
use Rattle.busiest.specs.declared.Busiest.{Busiest}
use Rattle.busiest.specs.Busiest.{references_of, messages_in, largest, earliest, busiest_of}
use Rattle.busiest.specs.InWords.{IsBusiest}
use Rattle.busiest.proofs.Extremes.{fold_max, least_passing}
use Rattle.busiest.proofs.InWindow.{below, in_window, below_place, at_or_above, lies_below}
use Rattle.busiest.proofs.References.{references_length}
use Rattle.busiest.proofs.Growing.{Begins, Growing}

-- no other answer is what CR 7 asks than the definition's, in whatever order the ticks come
module _ (w : ℕ) (ticks : List ℕ) (b : Busiest) (is : IsBusiest w ticks b) where
  number : largest w ticks ≡ b.messages
  unfolding largest
  number = fold_max 0 (map (messages_in w ticks) ticks) b.messages (omega arith) all (stands b.first refl)
    where
      all : All (λ n. n ≤ b.messages) (map (messages_in w ticks) ticks)
      all j d l =
          let below_end : j < length ticks = simp length-map at l in
          rw (get_or-map (messages_in w ticks) ticks j 0 d below_end) (is.most (get_or ticks j 0))

      stands : (f : Option ℕ) → b.first ≡ f → (0 ≡ b.messages) ⊎ Contains (map (messages_in w ticks) ticks) b.messages
      stands None e = inl (sym (is.empty (is.none e)).0)
      stands (Some t) e =
          let r = is.reached t e in
          let below_end : r.0.0 < length (map (messages_in w ticks) ticks) = simp length-map r.0.1 in
          inr (r.0.0, below_end, get_or-map (messages_in w ticks) ticks r.0.0 t b.messages r.0.1 ∙ ap (messages_in w ticks) r.0.2 ∙ r.1)

  tick : (f : Option ℕ) → b.first ≡ f → earliest w ticks ≡ f
  unfolding earliest
  tick None e = let none = is.none e in rw none refl
  tick (Some t) e =
      let r = is.reached t e in
      least_passing (λ t. eqb (messages_in w ticks t) (largest w ticks)) ticks t r.0 (eq-eqb _ _ (r.1 ∙ sym number))
      (λ x c p. is.earliest t x e c (eqb-true (messages_in w ticks x) (largest w ticks) p ∙ number))

  pub alone : b ≡ busiest_of w ticks
  unfolding busiest_of
  alone = rw (number, tick b.first refl) refl

module _ (w : ℕ) (ticks : List ℕ) (k : ℕ) (first : Option ℕ) (up : IsNonDecreasing ticks) (wide : 1 ≤ w) (g : Growing w ticks (length ticks) k first) where
  -- the messages in w ticks from t on are those from one place on, and they are w ticks apart at most
  last_place : (t : ℕ) → below (t + w) ticks ≤ length ticks
  last_place t = count_by-le-length _ ticks

  pub most : (t : ℕ) → messages_in w ticks t ≤ k
  most t = go (cases_lt k (messages_in w ticks t))
    where
      go : (k < messages_in w ticks t) ⊎ (messages_in w ticks t ≤ k) → messages_in w ticks t ≤ k
      go (inr h) = h
      go (inl h) =
          let s = in_window w t ticks in
          let l = last_place t in
          let from = at_or_above t ticks up (below t ticks) (omega (arith, s, l)) (omega arith) in
          let to = lies_below (t + w) ticks up (below t ticks + k) (omega (arith, s, l)) (omega (arith, s)) in
          let far = g.no_more (below t ticks) (omega (arith, s, l)) in
          absurd (omega (arith, from, to, far))

  module _ (some : 1 ≤ k) (b : Begins w ticks (length ticks) k first) where
    -- no message of an earlier place has the first one's tick
    starts : below (get_or ticks b.place 0) ticks ≡ b.place
    starts = go (cases_lt (below (get_or ticks b.place 0) ticks) b.place)
      where
        go : (below (get_or ticks b.place 0) ticks < b.place) ⊎ (b.place ≤ below (get_or ticks b.place 0) ticks) → below (get_or ticks b.place 0) ticks ≡ b.place
        go (inr h) = let here = (below_place (get_or ticks b.place 0) ticks up b.place (omega (arith, b.ends))).1 (omega arith) in omega (arith, h, here)
        go (inl h) =
            let j = below (get_or ticks b.place 0) ticks in
            let same = at_or_above (get_or ticks b.place 0) ticks up j (omega (arith, h, b.ends)) (omega arith) in
            let far = b.earlier j h in
            let up_to = up (j + (k - 1)) (b.place + (k - 1)) 0 (omega (arith, h)) (omega (arith, b.ends)) in
            absurd (omega (arith, same, far, up_to, b.within))

    pub reached : messages_in w ticks (get_or ticks b.place 0) ≡ k
    reached =
        let s = in_window w (get_or ticks b.place 0) ticks in
        let m = most (get_or ticks b.place 0) in
        let last = (below_place (get_or ticks b.place 0 + w) ticks up (b.place + (k - 1)) (omega (arith, b.ends))).0 b.within in
        omega (arith, s, m, last, starts)

    pub least : (r : ℕ) → Contains ticks r → messages_in w ticks r ≡ k → get_or ticks b.place 0 ≤ r
    least r (x, l, e) full = go (cases_lt (below r ticks) b.place)
      where
        at : get_or ticks x 0 ≡ r
        at = get_or_default ticks x 0 r l ∙ e

        before : below r ticks ≤ x
        before = (below_place r ticks up x l).1 (omega (arith, at))

        go : (below r ticks < b.place) ⊎ (b.place ≤ below r ticks) → get_or ticks b.place 0 ≤ r
        go (inr h) = let up_to = up b.place x 0 (omega (arith, h, before)) l in omega (arith, up_to, at)
        go (inl h) =
            let s = in_window w r ticks in
            let n = last_place r in
            let from = at_or_above r ticks up (below r ticks) (omega (arith, before, l)) (omega arith) in
            let to = lies_below (r + w) ticks up (below r ticks + (k - 1)) (omega (arith, s, n, full)) (omega (arith, s, full)) in
            let far = b.earlier (below r ticks) h in
            absurd (omega (arith, from, to, far))

  -- what the loop ends with is what CR 7 asks
  pub is_busiest : IsBusiest w ticks (record { messages = k; first = first })
  is_busiest = go g.begins
    where
      go : ((length ticks ≡ 0) × (k ≡ 0) × (first ≡ None)) ⊎ ((1 ≤ k) × Begins w ticks (length ticks) k first) → IsBusiest w ticks (record { messages = k; first = first })
      go (inl (e, f, h)) = record {
        most = most;
        reached = λ t z. absurd (cc);
        earliest = λ t r z. absurd (cc);
        empty = λ z. (f, h);
        none = λ z. nil_from_length ticks e;
      }
      go (inr (some, b)) =
          let tick = b.tick in
          record {
            most = most;
            reached = λ t z. let e : get_or ticks b.place 0 ≡ t = cc in rw (← e) (Contains-get_or ticks b.place 0 (omega (arith, b.ends)), reached some b);
            earliest = λ t r z c full. let e : get_or ticks b.place 0 ≡ t = cc in rw (← e) (least some b r c full);
            empty = λ z. absurd (omega (arith, ap length z, b.ends));
            none = λ z. absurd (cc);
          }

-- the loop's end
pub ends : (w : ℕ) (records : List (List ℕ)) (i k : ℕ) (first : Option ℕ) → IsNonDecreasing (references_of records) → 1 ≤ w → length records ≤ i → i ≤ length records
    → Growing w (references_of records) i k first → IsBusiest w (references_of records) (record { messages = k; first = first })
ends w records i k first up wide all few g =
    let e : length (references_of records) ≡ i = omega (arith, references_length records) in
    is_busiest w (references_of records) k first up wide (rw e g)

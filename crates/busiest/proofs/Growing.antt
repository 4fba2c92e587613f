-- The busiest stretch of the first messages, as the loop over them goes: it grows exactly where the next message lies within w ticks of the one as many places before it.
-- Assumes nothing.
use Rattle.std.proofs.Common.{◌≡◌, ℕ, ◌+◌, ◌-◌, ◌<◌, ◌≤◌, List, [], length, get_or, sym, refl, ap, ◌∙◌, arith}
use Rattle.std.specs.Prelude.{Option, None, Some}
use Rattle.std.specs.List.Sorted.{IsNonDecreasing}
use Rattle.std.proofs.lemmas.Bool.{cases_lt}
use Rattle.message.specs.declared.Message.{Message}
use Rattle.message.specs.Message.{message_of}
use Rattle.busiest.specs.Busiest.{references_of}
use Rattle.busiest.proofs.References.{references_length, reference_at}
use mathlib.Core.Logic.{◌⊎◌, inl, inr}

-- the k messages from one place on, among the first i, lie in w ticks, and those from an earlier place on do not; its tick is the first one
pub record Begins (w : ℕ) (ticks : List ℕ) (i k : ℕ) (first : Option ℕ) : Type 0 where
  pub place : ℕ
  pub ends : place + k ≤ i
  pub within : get_or ticks (place + (k - 1)) 0 < get_or ticks place 0 + w
  pub earlier : (j : ℕ) → j < place → get_or ticks j 0 + w ≤ get_or ticks (j + (k - 1)) 0
  pub tick : first ≡ Some (get_or ticks place 0)

-- k is the most of the first i messages that lie in w ticks: k + 1 of them in turn never do
pub record Growing (w : ℕ) (ticks : List ℕ) (i k : ℕ) (first : Option ℕ) : Type 0 where
  pub few : k ≤ i
  pub no_more : (j : ℕ) → j + k < i → get_or ticks j 0 + w ≤ get_or ticks (j + k) 0
  pub begins : ((i ≡ 0) × (k ≡ 0) × (first ≡ None)) ⊎ ((1 ≤ k) × Begins w ticks i k first)

pub none_yet : (w : ℕ) (ticks : List ℕ) → Growing w ticks 0 0 None
none_yet w ticks = record { few = omega arith; no_more = λ j l. absurd (omega arith); begins = inl (refl, refl, refl) }

module _ (w : ℕ) (ticks : List ℕ) (i k : ℕ) (first : Option ℕ) (up : IsNonDecreasing ticks) (more : i < length ticks) (g : Growing w ticks i k first) where
  pub grows : get_or ticks i 0 < get_or ticks (i - k) 0 + w → Growing w ticks (i + 1) (k + 1) (Some (get_or ticks (i - k) 0))
  grows near =
      let few : k ≤ i = g.few in
      let e : i - k + (k + 1 - 1) ≡ i = omega arith in
      record {
        few = omega arith;
        no_more = λ j l.
            let a = g.no_more j (omega arith) in
            let b = up (j + k) (j + (k + 1)) 0 (omega arith) (omega arith) in
            omega (arith, a, b);
        begins = inr (
          omega arith,
          record {
            place = i - k;
            ends = omega arith;
            within = rw e near;
            earlier = λ j l. let f : k + 1 - 1 ≡ k = omega arith in rw f (g.no_more j (omega arith));
            tick = refl;
          },
        );
      }

  pub stays : 1 ≤ w → get_or ticks (i - k) 0 + w ≤ get_or ticks i 0 → Growing w ticks (i + 1) k first
  stays wide far = record {
    few = omega (arith, g.few);
    no_more = λ j l. last j l (cases_lt (j + k) i);
    begins = still g.begins;
  }
    where
      last : (j : ℕ) → j + k < i + 1 → (j + k < i) ⊎ (i ≤ j + k) → get_or ticks j 0 + w ≤ get_or ticks (j + k) 0
      last j l (inl h) = g.no_more j h
      last j l (inr h) =
          let e : j + k ≡ i = omega arith in
          let f : j ≡ i - k = omega arith in
          rw (e, f) far

      still : ((i ≡ 0) × (k ≡ 0) × (first ≡ None)) ⊎ ((1 ≤ k) × Begins w ticks i k first)
          → ((i + 1 ≡ 0) × (k ≡ 0) × (first ≡ None)) ⊎ ((1 ≤ k) × Begins w ticks (i + 1) k first)
      still (inl (e, f, h)) = let z : i - k ≡ i = omega arith in absurd (omega (arith, rw z at far))
      still (inr (some, b)) = inr (some, record { place = b.place; ends = omega (arith, b.ends); within = b.within; earlier = b.earlier; tick = b.tick })

-- as the loop has it: the place of the message k places before the next one, and its tick
pub record Turning (w : ℕ) (ticks : List ℕ) (i k place tick : ℕ) (first : Option ℕ) : Type 0 where
  pub growing : Growing w ticks i k first
  pub behind : place + k ≡ i
  pub there : tick ≡ get_or ticks place 0

pub starts : (w tick : ℕ) (ticks : List ℕ) → tick ≡ get_or ticks 0 0 → Turning w ticks 0 0 0 tick None
starts w tick ticks e = record { growing = none_yet w ticks; behind = refl; there = e }

-- one turn of the loop, at record i
module _ (w : ℕ) (records : List (List ℕ)) (i k place tick : ℕ) (first : Option ℕ) (up : IsNonDecreasing (references_of records)) (more : i < length records)
    (t : Turning w (references_of records) i k place tick first) (m : Message) (at : m ≡ message_of (get_or records i [])) where
  more_ticks : i < length (references_of records)
  more_ticks = omega (arith, references_length records)

  here_at : get_or (references_of records) i 0 ≡ m.reference
  here_at = reference_at records i more ∙ ap (λ (m : Message). m.reference) (sym at)

  tick_at : get_or (references_of records) (i - k) 0 ≡ tick
  tick_at = let e : i - k ≡ place = omega (arith, t.behind) in rw e (sym t.there)

  pub not_above : tick ≤ m.reference
  not_above = omega (arith, up (i - k) i 0 (omega arith) more_ticks, here_at, tick_at)

  pub turn_grows : m.reference - tick < w → Turning w (references_of records) (i + 1) (k + 1) place tick (Some tick)
  turn_grows near = record {
    growing = rw (← tick_at) (grows w (references_of records) i k first up more_ticks t.growing (omega (arith, here_at, tick_at, not_above)));
    behind = omega (arith, t.behind);
    there = t.there;
  }

  pub turn_stays : (next : ℕ) → 1 ≤ w → w ≤ m.reference - tick → next ≡ get_or (references_of records) (place + 1) 0
      → Turning w (references_of records) (i + 1) k (place + 1) next first
  turn_stays next wide far e = record {
    growing = stays w (references_of records) i k first up more_ticks t.growing wide (omega (arith, here_at, tick_at, not_above));
    behind = omega (arith, t.behind);
    there = e;
  }

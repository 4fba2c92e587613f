-- The claim about every list of calls on one receiver's image, from an empty one on: loading gives back what saving kept, so it is the claim about the receiver's calls.
-- Assumes nothing.
use mathlib.Core.Path.{◌≡◌, refl, sym, ap, subst, ◌∙◌}
use mathlib.Core.Bool.{Bool, true, false, not, cond}
use mathlib.Core.Logic.{◌⊎◌, inl, inr}
use mathlib.Core.List.Memᴰ
use mathlib.Core.List.{List, [], ◌∷◌, map, Memᴰ}
use Prim.Native.Nat.{ℕ, zero, suc, ◌^◌, ◌<◌}
use native.Mathlib.Omega.{arith}
use borrow.Author.Tests.{eq-eqb, ne_eqb}
use lib.Dec.{T, eqb}
use lib.IntN.{pos, negsuc}
use lib.ListN.{length, get_or}
use Rattle.wire.specs.Memory.{splice}
use Rattle.wire.specs.Outcome.{first_fault, outcome}
use Rattle.message.specs.Message.{admits}
use Rattle.receiver.specs.declared.Received.{Received}
use Rattle.receiver.specs.declared.Receiver.{Receiver}
use Rattle.receiver.specs.Held.{received, has_lapsed}
use Rattle.receiver.specs.Calls.{Call, receive_call, show_call, nothing, place, holding}
use Rattle.receiver.specs.Reading.{last_tick, latest, held_after, document_fault, accepted_after, accepted_by, document_result, document_results}
use Rattle.receiver.specs.InWords.{past_of}
use Rattle.receiver.proofs.Filters.{kept_member}
use Rattle.receiver.proofs.HoldsThem.{place_made}
use Rattle.receiver.proofs.DemandHolds.{receiver_of, Kept, same_answer, same_output, same_receiver, still_kept, nothing_kept}
use Rattle.receiver.proofs.Latest.{member_last}
use Rattle.receiver.proofs.HeldInWords.{last_accepted}
use Rattle.receiver.proofs.EmptyMeets.{documented, empty_at}
use Rattle.receiver_image.specs.ReceiverImage.{image_size, image_of, receiver_in, is_image, Fits}
use Rattle.receiver_image.proofs.Again.{receiver_again}
use Rattle.receiver_image.proofs.Loads.{image_is_image}
use Rattle.capi.specs.Imaged.{answer_number}
use Rattle.capi.specs.ImageDemand.{ImageResult}
use Rattle.capi.specs.ReceiverImaged.{receiver_answer, receiver_image, receiver_output, ReceiverMeets}
use Rattle.capi.specs.ReceiverDemand.{receiver_numbered, Has32Bits, AllHave32Bits, ReceiverRun, ended, called, ReceiverDemand, empty_fault, EmptyImaged}
use Rattle.capi.proofs.ReceiverCalls.{receiver_written}

-- ---- the receiver after each list fits an image

-- each message accepted came with numbers of 32 bits
abbrev Small : List Received → Type 0
Small past = (x : Received) → Memᴰ x past → (x.sender < 2 ^ 32) × (x.arrival < 2 ^ 32)

last_small : (past : List Received) → Small past → last_tick past < 2 ^ 32
unfolding last_tick
last_small [] s = omega arith
last_small (e ∷ past) s = (s e (Memᴰ.head refl)).1

-- what holds of each message of a list and of none holds at every place
at_place : (P : Received → Type 0) (xs : List Received) → ((x : Received) → Memᴰ x xs → P x) → P nothing → (k : ℕ) → P (get_or xs k nothing)
at_place P [] all none k = none
at_place P (x ∷ xs) all none zero = all x (Memᴰ.head refl)
at_place P (x ∷ xs) all none (suc k) = at_place P xs (λ y i. all y (Memᴰ.tail i)) none k

nothing_small : (nothing.sender < 2 ^ 32) × (nothing.arrival < 2 ^ 32)
unfolding nothing
nothing_small = (omega arith, omega arith)

module _ (past : List Received) (k : Kept past) (s : Small past) where
  held_accepted : (x : Received) → Memᴰ x (held_after past) → Memᴰ x past
  unfolding held_after
  held_accepted x i = last_accepted past x (member_last past x (kept_member (λ y. not (has_lapsed (last_tick past) y)) (latest past) i).0)

  numbers_small : (i : ℕ) → i < 8 → ((place (receiver_of past) i).sender < 2 ^ 32) × ((place (receiver_of past) i).arrival < 2 ^ 32)
  numbers_small i h =
      rw (place_made (last_tick past) (held_after past) i h)
      (at_place (λ x. (x.sender < 2 ^ 32) × (x.arrival < 2 ^ 32)) (held_after past) (λ x j. s x (held_accepted x j)) nothing_small i)

  messages_good : (i : ℕ) → i < 8 → ((place (receiver_of past) i).message ≡ nothing.message) ⊎ T (admits (place (receiver_of past) i).message)
  messages_good i h =
      rw (place_made (last_tick past) (held_after past) i h)
      (at_place (λ x. (x.message ≡ nothing.message) ⊎ T (admits x.message)) (held_after past) (λ x j. inr (k.admitted x (held_accepted x j))) (inl refl) i)

  fits : Fits (receiver_of past)
  unfolding holding
  fits = record {
    lengths = (refl, refl, refl);
    last = last_small past s;
    numbers = numbers_small;
    messages = messages_good;
  }

new_small : (tick sender : ℕ) (bytes : List ℕ) → (tick < 2 ^ 32) × (sender < 2 ^ 32) → ((received tick sender bytes).sender < 2 ^ 32) × ((received tick sender bytes).arrival < 2 ^ 32)
unfolding received
new_small tick sender bytes b = (b.1, b.0)

still_small : (past : List Received) → Small past → (c : Call) → Has32Bits c → Small (accepted_after past c)
unfolding accepted_after
still_small past s (receive_call tick sender bytes) b = go (eqb (document_fault past (receive_call tick sender bytes)) 0)
  where
    go : (d : Bool) → Small (cond d (received tick sender bytes ∷ past) past)
    go true = λ x i. elim (Memᴰ.cases_cons i) [ inl e ↦ rw e (new_small tick sender bytes b) | inr j ↦ s x j ]
    go false = s
still_small past s (show_call out) b = s

-- ---- one call

module _ (past : List Received) (k : Kept past) (s : Small past) (c : Call) where
  -- the image after these messages
  abbrev image : List ℕ
  image = image_of (receiver_of past)

  loaded_again : (is_image image ≡ true) × (receiver_in image ≡ receiver_of past)
  loaded_again = (image_is_image (receiver_of past) (fits past k s), receiver_again (receiver_of past) (fits past k s))

  number_same : answer_number (receiver_answer image c) ≡ answer_number (document_result past c).answer
  unfolding receiver_answer
  number_same = rw (loaded_again.0, loaded_again.1) (ap answer_number (same_answer past k c))

  output_same : receiver_output image c ≡ (document_result past c).output
  unfolding receiver_output
  output_same = rw (loaded_again.0, loaded_again.1) (same_output past k c)

  image_same : receiver_image image c ≡ image_of (receiver_of (accepted_after past c))
  unfolding receiver_image
  image_same = rw (loaded_again.0, loaded_again.1) (ap image_of (same_receiver past k c))

-- ---- the list

results_same : (past : List Received) → Kept past → Small past → {start end : List ℕ} {calls : List Call} {results : List ImageResult}
    → ReceiverRun start calls results end → start ≡ image_of (receiver_of past)
    → (results ≡ map receiver_numbered (document_results past calls)) × (end ≡ image_of (receiver_of (accepted_by past calls)))
unfolding document_results receiver_numbered accepted_by
results_same past k s ended same = (refl, same)
results_same past k s (called {c = c} {r = r} {after = after} {last = last} {cs = cs} {rs = rs} b m rest) same =
    let x : r ≡ answer_number (document_result past c).answer = m.answer ∙ rw same (number_same past k s c) in
    let y : last ≡ (document_result past c).output = m.output ∙ rw same (output_same past k s c) in
    let z : after ≡ image_of (receiver_of (accepted_after past c)) = m.image ∙ rw same (image_same past k s c) in
    let l = results_same (accepted_after past c) (still_kept past k c) (still_small past s c b) rest z in
    (rw (x, y, l.0) refl, l.1)

run_made : (past : List Received) → Kept past → Small past → (calls : List Call) → AllHave32Bits calls
    → (end : List ℕ) × ReceiverRun (image_of (receiver_of past)) calls (map receiver_numbered (document_results past calls)) end
unfolding document_results receiver_numbered
run_made past k s [] b = (image_of (receiver_of past), ended)
run_made past k s (c ∷ cs) b =
    let m : ReceiverMeets (image_of (receiver_of past)) c (answer_number (document_result past c).answer) (image_of (receiver_of (accepted_after past c))) (document_result past c).output = record {
      answer = sym (number_same past k s c);
      image = sym (image_same past k s c);
      output = sym (output_same past k s c);
    } in
    let rest = run_made (accepted_after past c) (still_kept past k c) (still_small past s c b.0) cs b.1 in
    (rest.0, called b.0 m rest.1)

nothing_accepted : Small []
nothing_accepted = λ x i. absurd (Memᴰ.not-nil i)

receiver_demand_holds : ReceiverDemand (image_of (receiver_of []))
receiver_demand_holds = record {
  every_run = λ calls results end run.
      let same = results_same [] nothing_kept nothing_accepted run refl in
      record {
        same_results = same.0;
        receiver = receiver_of (past_of calls);
        image_is = same.1;
        documented = documented calls (document_results [] calls) (receiver_of (past_of calls)) (refl, refl);
      };
  some_run = λ calls b. run_made [] nothing_kept nothing_accepted calls b;
}

-- ---- the promise of `yoldrim_receiver_empty`

module _ (before : List ℕ) where
  pub empty_refused : (length before ≡ image_size → ⊥) → EmptyImaged before (negsuc 20) before
  unfolding empty_fault first_fault outcome answer_number
  empty_refused h = record {
    answer = simp (ne_eqb _ _ h);
    image = simp (ne_eqb _ _ h);
    demand = λ e. let z : ◌≡◌ {A = ℕ} 0 1 = cc in absurd (omega arith);
  }

  pub empty_written : (r : Receiver) (bytes after : List ℕ) → length before ≡ image_size → r ≡ holding 0 [] → bytes ≡ image_of r → after ≡ splice before 0 bytes → EmptyImaged before (pos 0) after
  unfolding empty_fault first_fault outcome answer_number
  empty_written r bytes after h f g e =
      let w : after ≡ image_of (holding 0 []) = e ∙ ap (λ (l : List ℕ). splice before 0 l) (g ∙ ap image_of f) ∙ receiver_written (holding 0 []) before h in
      record {
        answer = simp (eq-eqb _ _ h);
        image = simp (eq-eqb _ _ h) w;
        demand = λ z. subst ReceiverDemand (ap image_of empty_at ∙ sym w) receiver_demand_holds;
      }

-- Loading what was saved gives the receiver again.
-- Assumes nothing.
use mathlib.Core.Path.{◌≡◌, refl, sym, ap, ◌∙◌}
use mathlib.Core.Logic.{◌⊎◌, inl, inr}
use mathlib.Core.List.{List, [], ◌∷◌, ◌++◌}
use Prim.Native.Nat.{ℕ, zero, suc, ◌+◌, ◌*◌, ◌^◌, ◌<◌}
use native.Mathlib.Omega.{arith}
use lib.Dec.{T}
use lib.ListN.{length, get_or, drop}
use lib.Seq.{drop-append_seam, drop-drop}
use Rattle.std.proofs.lemmas.List.FromFn.{fill_by_all, length-map-range_with_len, get_or-map-range_with_len}
use Rattle.wire.specs.Words.{little, bytes_of, bytes_at, word}
use Rattle.wire.proofs.Words.{little-bytes_of, bytes_at-drop}
use Rattle.warnings.specs.Warnings.{row_of, direction_of}
use Rattle.message.specs.declared.Message.{Message}
use Rattle.message.specs.Message.{encode, message_of, admits}
use Rattle.message.proofs.RoundTrip.{fields_again}
use Rattle.receiver.specs.declared.Received.{Received}
use Rattle.receiver.specs.declared.Receiver.{Receiver}
use Rattle.receiver.specs.Calls.{nothing, place, places}
use Rattle.receiver_image.specs.ReceiverImage.{last_place, place_size, place_at, place_bytes, all_bytes, image_of, sender_in, arrival_in, message_in, receiver_in, Fits}
use Rattle.receiver_image.proofs.Bytes.{head, place_length}

-- ---- the bytes from a place on

rest_of_all : (xs : List Received) (k : ℕ) (d : Received) → k < length xs → drop (place_size * k) (all_bytes xs) ≡ place_bytes (get_or xs k d) ++ all_bytes (drop (suc k) xs)
rest_of_all [] k d h = absurd (omega arith)
rest_of_all (x ∷ xs) zero d h = refl
rest_of_all (x ∷ xs) (suc k) d h =
    let n = place_length x in
    let e : place_size * suc k ≡ length (place_bytes x) + place_size * k = omega arith in
    ap (λ n. drop n (place_bytes x ++ all_bytes xs)) e
    ∙ sym (drop-drop (place_size * k) (length (place_bytes x)) (place_bytes x ++ all_bytes xs))
    ∙ ap (drop (place_size * k)) (drop-append_seam (place_bytes x) (all_bytes xs))
    ∙ rest_of_all xs k d (omega arith)

-- the fields at the start of those bytes
first_word : (x : Received) (rest : List ℕ) → word 4 (place_bytes x ++ rest) 0 ≡ little (bytes_of 4 x.sender)
unfolding place_bytes bytes_at bytes_of
first_word x rest = refl

second_word : (x : Received) (rest : List ℕ) → word 4 (place_bytes x ++ rest) 4 ≡ little (bytes_of 4 x.arrival)
unfolding place_bytes bytes_at bytes_of
second_word x rest = refl

its_message : (x : Received) (rest : List ℕ) → message_of (drop 8 (place_bytes x ++ rest)) ≡ message_of (encode x.message)
unfolding place_bytes bytes_at bytes_of encode message_of
its_message x rest = refl

nothing_again : message_of (encode nothing.message) ≡ nothing.message
unfolding nothing encode message_of little bytes_at bytes_of row_of direction_of
nothing_again = refl

last_again : (r : Receiver) → r.last < 2 ^ 32 → word 4 (image_of r) last_place ≡ r.last
unfolding image_of bytes_at bytes_of
last_again r small = little-bytes_of 4 r.last small

module _ (r : Receiver) (k : ℕ) (h : k < 8) where
  -- what lies behind the place
  abbrev behind : List ℕ
  behind = all_bytes (drop (suc k) (places r))

  from_place : drop (place_at k) (image_of r) ≡ place_bytes (place r k) ++ behind
  unfolding image_of places bytes_of
  from_place =
      sym (drop-drop (place_size * k) (length (head r)) (image_of r))
      ∙ ap (drop (place_size * k)) (drop-append_seam (head r) (all_bytes (places r)))
      ∙ rest_of_all (places r) k (place r k) (omega (arith, length-map-range_with_len (place r) 0 8))
      ∙ ap (λ x. place_bytes x ++ behind) (get_or-map-range_with_len (place r) 0 8 k k (place r k) h (omega arith))

  word_from : (p : ℕ) → word 4 (image_of r) (place_at k + p) ≡ word 4 (place_bytes (place r k) ++ behind) p
  word_from p = ap little (sym (bytes_at-drop 4 (place_at k) (image_of r) p) ∙ ap (λ l. bytes_at 4 l p) from_place)

  pub sender_again : (place r k).sender < 2 ^ 32 → sender_in (image_of r) k ≡ (place r k).sender
  unfolding sender_in
  sender_again small =
      let start : place_at k + 0 ≡ place_at k = omega arith in
      ap (word 4 (image_of r)) (sym start) ∙ word_from 0 ∙ first_word (place r k) behind ∙ little-bytes_of 4 (place r k).sender small

  pub arrival_again : (place r k).arrival < 2 ^ 32 → arrival_in (image_of r) k ≡ (place r k).arrival
  unfolding arrival_in
  arrival_again small = word_from 4 ∙ second_word (place r k) behind ∙ little-bytes_of 4 (place r k).arrival small

  pub message_again : ((place r k).message ≡ nothing.message) ⊎ T (admits (place r k).message) → message_in (image_of r) k ≡ (place r k).message
  unfolding message_in
  message_again good =
      ap message_of (sym (drop-drop 8 (place_at k) (image_of r)) ∙ ap (drop 8) from_place)
      ∙ its_message (place r k) behind
      ∙ elim good [ inl e ↦ rw e nothing_again | inr t ↦ fields_again (place r k).message t ]

-- the receiver, from the fields of each place
pub receiver_again : (r : Receiver) → Fits r → receiver_in (image_of r) ≡ r
unfolding receiver_in place
receiver_again r f = made (last_again r f.last)
    (sym (fill_by_all (sender_in (image_of r)) r.senders 8 0 f.lengths.0 (λ k h. sym (sender_again r k h (f.numbers k h).0))))
    (sym (fill_by_all (arrival_in (image_of r)) r.arrivals 8 0 f.lengths.1 (λ k h. sym (arrival_again r k h (f.numbers k h).1))))
    (sym (fill_by_all (message_in (image_of r)) r.messages 8 nothing.message f.lengths.2 (λ k h. sym (message_again r k h (f.messages k h)))))
  where
    made : {last : ℕ} {senders arrivals : List ℕ} {messages : List Message} → last ≡ r.last → senders ≡ r.senders → arrivals ≡ r.arrivals → messages ≡ r.messages
        → ◌≡◌ {A = Receiver} (record { last = last; senders = senders; arrivals = arrivals; messages = messages }) r
    made a b c d = rw (a, b, c, d) refl

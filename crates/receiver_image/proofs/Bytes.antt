-- The bytes of an image: those of the places one behind the other, and the image as a whole.
-- Assumes nothing.
use mathlib.Core.Path.{◌≡◌, refl, sym, ap, ◌∙◌}
use mathlib.Core.List.{List, [], ◌∷◌, ◌++◌, map, append_assoc, append-nil}
use Prim.Native.Nat.{ℕ, ◌+◌, ◌*◌, ◌≤◌}
use native.Mathlib.Omega.{arith}
use lib.Seq.{drop-append_seam}
use lib.ListN.{length, take, drop, replicate, length-append}
use Rattle.std.specs.List.{range_with_len}
use Rattle.std.proofs.lemmas.List.Concat.{flat_map-append}
use Rattle.std.proofs.lemmas.List.FromFn.{length-map-range_with_len, map-range_with_len_more}
use Rattle.wire.specs.Words.{bytes_of}
use Rattle.wire.specs.Memory.{splice, overlay}
use Rattle.wire.proofs.Splice.{splice_parts, overlay_more, overlay_whole}
use Rattle.message.specs.Message.{encode}
use Rattle.message.proofs.RoundTrip.{encode-length}
use Rattle.receiver.specs.declared.Received.{Received}
use Rattle.receiver.specs.declared.Receiver.{Receiver}
use Rattle.receiver.specs.Calls.{place, places}
use Rattle.receiver_image.specs.ReceiverImage.{layout, last_place, place_size, place_at, image_size, place_bytes, all_bytes, image_of}

-- ---- a place

pub place_length : (x : Received) → length (place_bytes x) ≡ place_size
unfolding place_bytes bytes_of
place_length x = length-append (bytes_of 4 x.sender ++ bytes_of 4 x.arrival) (encode x.message) ∙ ap (λ n. 8 + n) (encode-length x.message)

-- its parts, copied to their places
pub place_copied : (x : Received) (sender arrival record' one two three : List ℕ)
    → sender ≡ bytes_of 4 x.sender → arrival ≡ bytes_of 4 x.arrival → record' ≡ encode x.message
    → one ≡ splice (replicate place_size 0) 0 sender → two ≡ splice one 4 arrival → three ≡ splice two 8 record' → three ≡ place_bytes x
unfolding place_bytes bytes_of splice encode
place_copied x sender arrival record' one two three s a r e f g = rw (g, f, e, s, a, r) refl

-- ---- places, one behind the other

pub all_length : (xs : List Received) → length (all_bytes xs) ≡ place_size * length xs
all_length [] = refl
all_length (x ∷ xs) = length-append (place_bytes x) (all_bytes xs) ∙ omega (arith, place_length x, all_length xs)

-- ---- the image

abbrev pub head : Receiver → List ℕ
head r = (layout ∷ 0 ∷ 0 ∷ 0 ∷ []) ++ bytes_of 4 r.last

head_length : (r : Receiver) → length (head r) ≡ place_at 0
unfolding bytes_of
head_length r = refl

-- what is written once the first k places are
abbrev pub written : Receiver → ℕ → List ℕ
written r k = head r ++ all_bytes (map (place r) (range_with_len 0 k))

pub written_length : (r : Receiver) (k : ℕ) → length (written r k) ≡ place_at k
written_length r k =
    length-append (head r) (all_bytes (map (place r) (range_with_len 0 k)))
    ∙ omega (arith, head_length r, all_length (map (place r) (range_with_len 0 k)), length-map-range_with_len (place r) 0 k)

-- one place more
pub place_written : (r : Receiver) (k : ℕ) (out : List ℕ) → place_at (k + 1) ≤ length out
    → splice (overlay (written r k) out) (place_at k) (place_bytes (place r k)) ≡ overlay (written r (k + 1)) out
place_written r k out fits =
    let n = written_length r k in
    let m = place_length (place r k) in
    let more : all_bytes (map (place r) (range_with_len 0 (k + 1))) ≡ all_bytes (map (place r) (range_with_len 0 k)) ++ place_bytes (place r k) =
    ap all_bytes (map-range_with_len_more (place r) 0 k k (omega arith))
    ∙ flat_map-append place_bytes (map (place r) (range_with_len 0 k)) (place r k ∷ [])
    ∙ ap (λ l. all_bytes (map (place r) (range_with_len 0 k)) ++ l) (append-nil (place_bytes (place r k))) in
    rw (← n, more, ← append_assoc (head r) (all_bytes (map (place r) (range_with_len 0 k))) (place_bytes (place r k)))
    (overlay_more (written r k) (place_bytes (place r k)) out (omega arith))

-- all of them
pub all_written : (r : Receiver) (out : List ℕ) → length out ≡ image_size → overlay (written r 8) out ≡ image_of r
unfolding image_of places
all_written r out size = overlay_whole (written r 8) out (written_length r 8 ∙ sym size)

pub image_length : (r : Receiver) → length (image_of r) ≡ image_size
unfolding image_of places
image_length r = written_length r 8

-- bytes that lie at the start already
laid_again : (xs rest : List ℕ) → overlay xs (xs ++ rest) ≡ xs ++ rest
unfolding overlay
laid_again xs rest = ap (λ l. xs ++ l) (drop-append_seam xs rest)

-- before the first place: the layout's number, three zeros and the tick
pub none_written : (r : Receiver) (out bytes next : List ℕ) → take last_place out ≡ layout ∷ 0 ∷ 0 ∷ 0 ∷ [] → place_at 0 ≤ length out → bytes ≡ bytes_of 4 r.last
    → next ≡ splice out last_place bytes → next ≡ overlay (written r 0) next
unfolding bytes_of
none_written r out bytes next first fits e n =
    let four : length bytes ≡ 4 = ap length e in
    let made : next ≡ head r ++ drop (last_place + length bytes) out = n ∙ splice_parts out last_place bytes (omega arith) ∙ rw (first, e) refl in
    made ∙ sym (rw (made, append-nil (head r)) (laid_again (head r) (drop (last_place + length bytes) out)))

-- The parts of an image: their lengths, and that written one behind the other they are the image.
-- Assumes nothing.
use mathlib.Core.Path.{◌≡◌, refl, sym, ap, ◌∙◌}
use mathlib.Core.List.{List, [], ◌∷◌, ◌++◌, append_assoc, append-nil}
use Prim.Native.Nat.{ℕ, ◌+◌, ◌*◌, ◌≤◌}
use native.Mathlib.Omega.{arith}
use lib.ListN.{length, take, drop, length-append, drop_of_length-le}
use Rattle.std.proofs.Common.{Option, Some, None}
use Rattle.wire.specs.Memory.{splice}
use Rattle.wire.proofs.Splice.{splice_join, splice_parts}
use Rattle.message.specs.declared.Message.{Message}
use Rattle.message.proofs.RoundTrip.{encode-length}
use Rattle.history.specs.declared.State.{State}
use Rattle.history.specs.Runs.{run_count}
use Rattle.image.proofs.WordBytes.{word_bytes_length, word_bytes_append}
use Rattle.image.specs.Image.{layout, flags_place, flag_count, standing_place, words_place, number_count, runs_place, image_size, flags_of, standing_bytes, words_of, word_bytes, image_of}

-- ---- the lengths

flags_length : (s : State) → length (flags_of s) ≡ flag_count
unfolding flags_of
flags_length s = refl

pub standing_length : (n : Option Message) → length (standing_bytes n) ≡ 32
unfolding standing_bytes
standing_length None = refl
standing_length (Some m) = encode-length m

-- what stands before the numbers
pub head_length : (s : State) → length (layout ∷ flags_of s ++ standing_bytes s.log.standing) ≡ words_place
head_length s =
    omega (arith, length-append (layout ∷ flags_of s) (standing_bytes s.log.standing), flags_length s, standing_length s.log.standing)

words_length : (s : State) → length s.runs ≡ run_count → length (words_of s) ≡ number_count + run_count
unfolding words_of
words_length s h = omega arith

pub image_length : (s : State) → length s.runs ≡ run_count → length (image_of s) ≡ image_size
unfolding image_of
image_length s h =
    let head = layout ∷ flags_of s ++ standing_bytes s.log.standing in
    omega (arith, length-append head (word_bytes (words_of s)), head_length s, word_bytes_length (words_of s), words_length s h)

-- ---- one behind the other

-- one part more behind those from place `at` on
joined : (out : List ℕ) (at : ℕ) (a b now next : List ℕ) (p : ℕ) → at + length a ≡ p → p + length b ≤ length out
    → now ≡ splice out at a → next ≡ splice now p b → next ≡ splice out at (a ++ b)
joined out at a b now next p i j e f =
    let fits : at + length a + length b ≤ length out = omega arith in
    f ∙ rw (e, ← i) (splice_join out at a b fits)

-- parts up to the end of the memory
filled : (out : List ℕ) (at : ℕ) (a now : List ℕ) → at + length a ≡ length out → now ≡ splice out at a → now ≡ take at out ++ a
filled out at a now i e =
    let end : length out ≤ at + length a = omega arith in
    let rest : drop (at + length a) out ≡ [] = drop_of_length-le out end in
    e ∙ splice_parts out at a (omega arith) ∙ rw (rest, append-nil)

-- the flags, the standing record, the numbers and the runs behind the layout's byte
pub parts_saved : (s : State) (out f r w one two three four : List ℕ)
    → length out ≡ image_size → take flags_place out ≡ layout ∷ [] → length s.runs ≡ run_count
    → f ≡ flags_of s → r ≡ standing_bytes s.log.standing → w ≡ take number_count (words_of s)
    → one ≡ splice out flags_place f → two ≡ splice one standing_place r
    → three ≡ splice two words_place (word_bytes w) → four ≡ splice three runs_place (word_bytes s.runs)
    → four ≡ image_of s
unfolding image_of words_of
parts_saved s out f r w one two three four n first size a b c e g h k =
    let v = word_bytes w in
    let z = word_bytes s.runs in
    let lf : length f ≡ flag_count = ap length a ∙ flags_length s in
    let lr : length r ≡ 32 = ap length b ∙ standing_length s.log.standing in
    let lv : length v ≡ 4 * number_count = word_bytes_length w ∙ ap (λ (l : List ℕ). 4 * length l) c in
    let lz : length z ≡ 4 * run_count = word_bytes_length s.runs ∙ ap (λ (i : ℕ). 4 * i) size in
    let lfr = length-append f r in
    let lfrv = length-append (f ++ r) v in
    let all = length-append (f ++ r ++ v) z in
    let two_in = joined out flags_place f r one two standing_place (omega arith) (omega arith) e g in
    let three-in = joined out flags_place (f ++ r) v two three words_place (omega arith) (omega arith) two_in h in
    let four-in = joined out flags_place (f ++ r ++ v) z three four runs_place (omega arith) (omega arith) three-in k in
    filled out flags_place (f ++ r ++ v ++ z) four (omega arith) four-in
    ∙ rw (first, a, b, c, append_assoc (flags_of s ++ standing_bytes s.log.standing) (word_bytes (take number_count (words_of s))) z)
    (ap (λ (l : List ℕ). layout ∷ flags_of s ++ standing_bytes s.log.standing ++ l) (sym (word_bytes_append (take number_count (words_of s)) s.runs)))

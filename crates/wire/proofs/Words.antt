-- The little-endian numbers, once over the width: bytes to number and number to bytes are inverse.
-- Assumes nothing.
use mathlib.Core.Path.{◌≡◌, refl, ◌∙◌}
use mathlib.Core.Bool.{Bool, true, false}
use mathlib.Core.List.{List}
use Prim.Native.Nat.{ℕ, zero, suc, ◌+◌, ◌*◌, ◌/◌, ◌%◌, ◌^◌, ◌≤◌, ◌<◌}
use native.Mathlib.Nat.{pow-suc, div-lt_iff_lt-mul}
use native.Mathlib.Numerals.{add-one}
use native.Mathlib.Omega.{arith}
use lib.ListN.{length, get_or, take, drop, get_or-eq_default}
use lib.Dec.{ltb}
use lib.Seq.{drop-cons, take_all, get_or-take, get_or-drop}
use borrow.Author.Tests.{ltb-true, ltb-false}
use Rattle.wire.specs.Words.{little, bytes_of, bytes_at, word, Bytes}

-- the k bytes of a number below 256 ^ k stand for that number
pub little-bytes_of : (k n : ℕ) → n < 256 ^ k → little (bytes_of k n) ≡ n
unfolding little bytes_of
little-bytes_of zero n h = omega arith
little-bytes_of (suc k) n h =
    let g : n < 256 ^ k * 256 = rw pow-suc at h in
    let e = little-bytes_of k (n / 256) ((div-lt_iff_lt-mul {k = 256} {x = n} {y = 256 ^ k} (omega arith)).1 g) in
    rw e (omega arith)

-- what stands at any place is a byte
pub byte_at : (s : List ℕ) → Bytes s → (p : ℕ) → get_or s p 0 < 256
byte_at s h p = go (ltb p (length s)) refl
  where
    go : (b : Bool) → ltb p (length s) ≡ b → get_or s p 0 < 256
    go true e = h p (ltb-true _ _ e)
    go false e = rw (get_or-eq_default s 0 (ltb-false _ _ e)) (omega arith)

-- the k bytes of the number at a place are the bytes that stand there
pub bytes_of-word : (k : ℕ) (s : List ℕ) (p : ℕ) → Bytes s → bytes_of k (word k s p) ≡ bytes_at k s p
unfolding little bytes_of bytes_at
bytes_of-word zero s p h = refl
bytes_of-word (suc k) s p h =
    let n = word k s (p + 1) in
    let l = byte_at s h p in
    let m : (get_or s p 0 + 256 * n) % 256 ≡ get_or s p 0 = omega arith in
    let d : (get_or s p 0 + 256 * n) / 256 ≡ n = omega arith in
    rw (m, d, bytes_of-word k s (p + 1) h)

-- the number at a place is below 256 ^ k
pub word_below : (k : ℕ) (s : List ℕ) (p : ℕ) → Bytes s → word k s p < 256 ^ k
unfolding little bytes_at
word_below zero s p h = omega arith
word_below (suc k) s p h =
    let l = byte_at s h p in
    let i = word_below k s (p + 1) h in
    rw pow-suc (omega arith)

-- the bytes at a place, as a part of the list
pub bytes_at_part : (k : ℕ) (s : List ℕ) (p : ℕ) → p + k ≤ length s → bytes_at k s p ≡ take k (drop p s)
unfolding bytes_at
bytes_at_part zero s p h = refl
bytes_at_part (suc k) s p h =
    let below : p < length s = omega arith in
    rw (drop-cons s p 0, bytes_at_part k s (p + 1) (omega arith), add-one p)

-- all the bytes
pub bytes_at_all : (s : List ℕ) (n : ℕ) → length s ≡ n → bytes_at n s 0 ≡ s
bytes_at_all s n h = bytes_at_part n s 0 (omega arith) ∙ take_all n s (omega arith)

-- the bytes at a place are the same in lists that have the same bytes there
pub bytes_at_same : (k : ℕ) (s t : List ℕ) (p : ℕ) → ((i : ℕ) → i < p + k → get_or s i 0 ≡ get_or t i 0) → bytes_at k s p ≡ bytes_at k t p
unfolding bytes_at
bytes_at_same zero s t p h = refl
bytes_at_same (suc k) s t p h = rw (h p (omega arith), bytes_at_same k s t (p + 1) (λ i l. h i (omega arith)))

-- so they are in a part that reaches beyond them
pub bytes_at-take : (k n : ℕ) (s : List ℕ) (p : ℕ) → p + k ≤ n → bytes_at k (take n s) p ≡ bytes_at k s p
bytes_at-take k n s p h = bytes_at_same k (take n s) s p (λ i l. get_or-take n s i 0 (omega arith))

-- the k bytes of what lies behind the first n
pub bytes_at-drop : (k n : ℕ) (s : List ℕ) (p : ℕ) → bytes_at k (drop n s) p ≡ bytes_at k s (n + p)
unfolding bytes_at
bytes_at-drop zero n s p = refl
bytes_at-drop (suc k) n s p =
    let e : n + p + 1 ≡ n + (p + 1) = omega arith in
    rw (e, bytes_at-drop k n s (p + 1), get_or-drop n s p 0) refl

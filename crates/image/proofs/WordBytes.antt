-- The bytes of words, four each: their length, one behind the other, and the word at each place.
-- Assumes nothing.
use mathlib.Core.Path.{◌≡◌, refl, sym, ap, ◌∙◌}
use mathlib.Core.List.{List, [], ◌∷◌, ◌++◌, append_assoc}
use Prim.Native.Nat.{ℕ, zero, suc, ◌+◌, ◌*◌, ◌^◌, ◌≤◌, ◌<◌}
use native.Mathlib.Omega.{arith}
use lib.ListN.{length, get_or, take}
use lib.Seq.{take_all, get_or-append-add}
use Rattle.std.proofs.Common.{map, rules}
use Rattle.std.specs.List.{flat_map}
use Rattle.std.specs.Int.{w32, to_le_bytes}
use Rattle.wire.specs.Words.{little, bytes_of, bytes_at, word}
use Rattle.wire.specs.Memory.{splice}
use Rattle.wire.proofs.Words.{little-bytes_of}
use Rattle.image.specs.Image.{word_bytes}

pub word_bytes_length : (ws : List ℕ) → length (word_bytes ws) ≡ 4 * length ws
unfolding word_bytes bytes_of
word_bytes_length [] = refl
word_bytes_length (w ∷ ws) = omega (arith, word_bytes_length ws)

pub word_bytes_append : (vs ws : List ℕ) → word_bytes (vs ++ ws) ≡ word_bytes vs ++ word_bytes ws
unfolding word_bytes
word_bytes_append [] ws = refl
word_bytes_append (v ∷ vs) ws = rw (word_bytes_append vs ws) (sym (append_assoc (bytes_of 4 v) (word_bytes vs) (word_bytes ws)))

-- the library's bytes of each word, one behind the other
le_bytes : (w : ℕ) → to_le_bytes w32 w ≡ bytes_of 4 w
unfolding bytes_of
le_bytes w = search rules

pub flattened : (ws : List ℕ) → flat_map (λ bytes. bytes) (map (to_le_bytes w32) ws) ≡ word_bytes ws
unfolding word_bytes
flattened [] = refl
flattened (w ∷ ws) = rw (flattened ws) (ap (λ (l : List ℕ). l ++ word_bytes ws) (le_bytes w))

-- ---- words written one behind the other

module _ (out : List ℕ) (at : ℕ) (ws : List ℕ) (room : at + 4 * length ws ≤ length out) where
  -- all words
  pub words_all : (i : ℕ) (now : List ℕ) → length ws ≤ i → now ≡ splice out at (word_bytes (take i ws)) → now ≡ splice out at (word_bytes ws)
  words_all i now h e = e ∙ ap (λ (l : List ℕ). splice out at (word_bytes l)) (take_all i ws h)

-- ---- words read back

-- behind p bytes the places begin anew
bytes_behind : (n : ℕ) (a b : List ℕ) (q : ℕ) → bytes_at n (a ++ b) (length a + q) ≡ bytes_at n b q
unfolding bytes_at
bytes_behind zero a b q = refl
bytes_behind (suc n) a b q =
    let e : length a + q + 1 ≡ length a + (q + 1) = omega arith in
    rw (get_or-append-add a b q 0, e, bytes_behind n a b (q + 1))

pub word_behind : (a b : List ℕ) (p q : ℕ) → length a ≡ p → word 4 (a ++ b) (p + q) ≡ word 4 b q
word_behind a b p q e = rw (← e) (ap little (bytes_behind 4 a b q))

-- each word fits four bytes
abbrev pub Fit : List ℕ → Type 0
Fit ws = (i : ℕ) → get_or ws i 0 < 256 ^ 4

word_first : (w : ℕ) (rest : List ℕ) → w < 256 ^ 4 → word 4 (bytes_of 4 w ++ rest) 0 ≡ w
unfolding bytes_of bytes_at
word_first w rest h = little-bytes_of 4 w h

word_next : (w k : ℕ) (rest : List ℕ) → word 4 (bytes_of 4 w ++ rest) (4 * suc k) ≡ word 4 rest (4 * k)
unfolding bytes_of
word_next w k rest =
    let e : 4 * suc k ≡ 4 + 4 * k = omega arith in
    ap (λ (p : ℕ). word 4 (bytes_of 4 w ++ rest) p) e ∙ word_behind (bytes_of 4 w) rest 4 (4 * k) refl

word_none : (p : ℕ) → word 4 [] p ≡ 0
unfolding bytes_at little
word_none p = refl

-- word k of the bytes is word k of the list, 0 beyond both ends
pub word_at : (ws : List ℕ) → Fit ws → (k : ℕ) → word 4 (word_bytes ws) (4 * k) ≡ get_or ws k 0
unfolding word_bytes
word_at [] h k = word_none (4 * k)
word_at (w ∷ ws) h zero = word_first w (word_bytes ws) (h 0)
word_at (w ∷ ws) h (suc k) = word_next w k (word_bytes ws) ∙ word_at ws (λ i. h (suc i)) k

-- The laws of `splice` and `overlay`: what lent memory holds after bytes were copied into it.
-- Assumes nothing.
use mathlib.Core.Path.{◌≡◌, refl, sym, ap, ◌∙◌}
use mathlib.Core.List.{List, [], ◌++◌, append_assoc, append-nil}
use Prim.Native.Nat.{ℕ, ◌+◌, ◌≤◌, ◌<◌}
use native.Mathlib.Nat.{add-zero, zero-add, le_refl, add_assoc}
use native.Mathlib.Omega.{arith}
use borrow.Author.Tests.{le-leb, lt-leb}
use lib.ListN.{length, take, drop, take-append-drop, length-append, drop_of_length-le}
use lib.Seq.{paste, take-length, length-paste, take-paste, drop-paste, drop-drop, take-append_seam, drop-append_seam}
use Rattle.wire.specs.Memory.{splice, overlay}

-- bytes that do not fit leave the memory as it is
pub splice_unfit : (xs : List ℕ) (at : ℕ) (bs : List ℕ) → length xs < at + length bs → splice xs at bs ≡ xs
unfolding splice
splice_unfit xs at bs h = simp (lt-leb _ _ h)

-- bytes that fit: what lies before them, they, and what lies behind them
module _ (xs : List ℕ) (at : ℕ) (bs : List ℕ) (fits : at + length bs ≤ length xs) where
  pub splice_parts : splice xs at bs ≡ take at xs ++ bs ++ drop (at + length bs) xs
  unfolding splice
  splice_parts = simp (le-leb _ _ fits)

  -- a copy, byte by byte, of all of bs
  pub splice_paste : paste xs at bs (length bs) ≡ splice xs at bs
  splice_paste = simp take-length (sym splice_parts)

  pub splice-length : length (splice xs at bs) ≡ length xs
  splice-length = ap length (sym splice_paste) ∙ length-paste xs at bs (length bs) fits (le_refl _)

  pub splice-take : take (at + length bs) (splice xs at bs) ≡ take at xs ++ bs
  splice-take =
      ap (λ (l : List ℕ). take (at + length bs) l) (sym splice_paste)
      ∙ take-paste xs at bs (length bs) (omega arith) (le_refl _)
      ∙ ap (λ (l : List ℕ). take at xs ++ l) (take-length bs)

  pub splice-drop : drop (at + length bs) (splice xs at bs) ≡ drop (at + length bs) xs
  splice-drop =
      ap (λ (l : List ℕ). drop (at + length bs) l) (sym splice_paste)
      ∙ drop-paste xs at bs (length bs) (omega arith) (le_refl _)

  -- beyond the bytes, m further on
  pub splice_beyond : (m : ℕ) → drop (at + length bs + m) (splice xs at bs) ≡ drop (at + length bs + m) xs
  splice_beyond m =
      sym (drop-drop m (at + length bs) (splice xs at bs))
      ∙ ap (λ (l : List ℕ). drop m l) splice-drop
      ∙ drop-drop m (at + length bs) xs

-- no bytes change nothing
pub splice_nil : (xs : List ℕ) (at : ℕ) → at ≤ length xs → splice xs at [] ≡ xs
splice_nil xs at h = splice_parts xs at [] (omega arith) ∙ simp (add-zero, append-nil, take-append-drop)

-- bytes copied behind bytes: as if they were copied joined
pub splice_join : (xs : List ℕ) (at : ℕ) (bs cs : List ℕ) → at + length bs + length cs ≤ length xs
    → splice (splice xs at bs) (at + length bs) cs ≡ splice xs at (bs ++ cs)
splice_join xs at bs cs fits =
    let h : at + length bs ≤ length xs = omega arith in
    let n = length-append bs cs in
    splice_parts (splice xs at bs) (at + length bs) cs (omega (arith, splice-length xs at bs h))
    ∙ ap (λ (l : List ℕ). l ++ cs ++ drop (at + length bs + length cs) (splice xs at bs)) (splice-take xs at bs h)
    ∙ ap (λ (l : List ℕ). take at xs ++ bs ++ cs ++ l) (splice_beyond xs at bs h (length cs))
    ∙ ap (λ (l : List ℕ). l ++ drop (at + length bs + length cs) xs) (append_assoc (take at xs) bs cs)
    ∙ ap (λ (n : ℕ). take at xs ++ (bs ++ cs) ++ drop n xs) (add_assoc at (length bs) (length cs) ∙ ap (λ (n : ℕ). at + n) (sym n))
    ∙ sym (splice_parts xs at (bs ++ cs) (omega arith))

-- bytes copied to the start
pub splice-overlay : (xs bs : List ℕ) → length bs ≤ length xs → splice xs 0 bs ≡ overlay bs xs
unfolding overlay
splice-overlay xs bs h = splice_parts xs 0 bs (omega arith) ∙ simp zero-add

pub overlay-length : (bs xs : List ℕ) → length bs ≤ length xs → length (overlay bs xs) ≡ length xs
overlay-length bs xs h = ap length (sym (splice-overlay xs bs h)) ∙ splice-length xs 0 bs (omega arith)

-- what was laid over the start
pub overlay-take : (bs xs : List ℕ) → take (length bs) (overlay bs xs) ≡ bs
unfolding overlay
overlay-take bs xs = take-append_seam bs (drop (length bs) xs)

-- bytes copied behind those at the start
pub overlay_more : (xs bs out : List ℕ) → length xs + length bs ≤ length out → splice (overlay xs out) (length xs) bs ≡ overlay (xs ++ bs) out
overlay_more xs bs out fits =
    let start : splice out 0 xs ≡ overlay xs out = splice-overlay out xs (omega arith) in
    let place : 0 + length xs ≡ length xs = omega arith in
    rw (← start, ← place) (splice_join out 0 xs bs (omega arith)) ∙ splice-overlay out (xs ++ bs) (omega (arith, length-append xs bs))

-- bytes as long as the memory take its place
pub overlay_whole : (bs xs : List ℕ) → length bs ≡ length xs → overlay bs xs ≡ bs
unfolding overlay
overlay_whole bs xs h =
    let rest : drop (length bs) xs ≡ [] = drop_of_length-le xs (omega arith) in
    rw (rest, append-nil) refl

pub splice_whole : (xs bs : List ℕ) → length bs ≡ length xs → splice xs 0 bs ≡ bs
splice_whole xs bs h = splice-overlay xs bs (omega arith) ∙ overlay_whole bs xs h

-- bytes in the place of as many others
pub splice_middle : (before old behind new : List ℕ) → length new ≡ length old → splice (before ++ old ++ behind) (length before) new ≡ before ++ new ++ behind
splice_middle before old behind new h =
    let m = length-append (before ++ old) behind in
    let n = length-append before old in
    let place : length before + length new ≡ length (before ++ old) = omega arith in
    splice_parts (before ++ old ++ behind) (length before) new (omega arith)
    ∙ ap (λ (l : List ℕ). take (length before) l ++ new ++ drop (length before + length new) (before ++ old ++ behind)) (append_assoc before old behind)
    ∙ rw (take-append_seam before (old ++ behind), place, drop-append_seam (before ++ old) behind) refl

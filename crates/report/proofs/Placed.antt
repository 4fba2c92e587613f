-- Bytes that are put in front of a place of the output.
-- Assumes nothing.
use mathlib.Core.Path.{◌≡◌, ◌∙◌}
use mathlib.Core.List.{List, ◌∷◌}
use Prim.Native.Nat.{ℕ, suc, ◌+◌, ◌-◌, ◌≤◌, ◌<◌}
use native.Mathlib.Numerals.{add-one}
use native.Mathlib.Omega.{arith}
use lib.ListN.{length, drop, set, length-set}
use lib.Seq.{drop-cons, drop-set-lt, get_or-set_same, lt-length-set}

-- a byte stored at a place stands in front of what follows the place
pub stored : (out : List ℕ) (i v : ℕ) → i < length out → drop i (set out i v) ≡ v ∷ drop (i + 1) out
stored out i v h =
    let below : i < suc i = omega arith in
    drop-cons (set out i v) i 0 (lt-length-set out i v h) ∙ rw (get_or-set_same out i v 0 h, drop-set-lt (suc i) out i v below, add-one)

-- a byte and then a letter in front of it
pub letter_placed : (out : List ℕ) (letter after end : ℕ) → 2 ≤ end → end ≤ length out
    → drop (end - 2) (set (set out (end - 1) after) (end - 2) letter) ≡ letter ∷ after ∷ drop end out
letter_placed out letter after end h k =
    let next = set out (end - 1) after in
    let i : end - 1 < length out = omega arith in
    let j : end - 2 < length next = omega (arith, length-set out (end - 1) after) in
    let e : end - 2 + 1 ≡ end - 1 = omega arith in
    let f : end - 1 + 1 ≡ end = omega arith in
    rw (stored next (end - 2) letter j, e, stored out (end - 1) after i, f)

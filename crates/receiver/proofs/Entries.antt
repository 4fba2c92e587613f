-- What is written of messages: each as its sender and its record, one behind the other.
-- Assumes nothing.
use mathlib.Core.Path.{◌≡◌, refl, ap, ◌∙◌}
use mathlib.Core.List.{List, [], ◌∷◌, ◌++◌, append-nil}
use Prim.Native.Nat.{ℕ, ◌+◌, ◌*◌, ◌≤◌}
use native.Mathlib.Omega.{arith}
use Rattle.std.proofs.lemmas.List.Concat.{flat_map-append}
use lib.ListN.{length, replicate, length-append}
use Rattle.wire.specs.Words.{bytes_of}
use Rattle.wire.specs.Memory.{splice, overlay}
use Rattle.wire.proofs.Splice.{overlay_more}
use Rattle.message.specs.Message.{encode}
use Rattle.message.proofs.RoundTrip.{encode-length}
use Rattle.receiver.specs.declared.Received.{Received}
use Rattle.receiver.specs.Held.{entry, entries}

pub entry_length : (x : Received) → length (entry x) ≡ 36
unfolding entry bytes_of
entry_length x = length-append (bytes_of 4 x.sender) (encode x.message) ∙ ap (λ n. 4 + n) (encode-length x.message)

pub entries_length : (xs : List Received) → length (entries xs) ≡ 36 * length xs
entries_length [] = refl
entries_length (x ∷ xs) = length-append (entry x) (entries xs) ∙ omega (arith, entry_length x, entries_length xs)

-- one more behind those that are written
pub entry_written : (xs : List Received) (x : Received) (out : List ℕ) → 36 * (length xs + 1) ≤ length out
    → splice (overlay (entries xs) out) (36 * length xs) (entry x) ≡ overlay (entries (xs ++ x ∷ [])) out
entry_written xs x out fits =
    let n = entries_length xs in
    let m = entry_length x in
    let both : entries (xs ++ x ∷ []) ≡ entries xs ++ entry x = flat_map-append entry xs (x ∷ []) ∙ ap (λ l. entries xs ++ l) (append-nil (entry x)) in
    rw (← n, both) (overlay_more (entries xs) (entry x) out (omega arith))

-- the bytes of one, copied to their places
pub entry_copied : (x : Received) (sender bytes first all : List ℕ) → sender ≡ bytes_of 4 x.sender → bytes ≡ encode x.message
    → first ≡ splice (replicate 36 0) 0 sender → all ≡ splice first 4 bytes → all ≡ entry x
unfolding entry bytes_of splice encode
entry_copied x sender bytes first all s b f a = rw (a, f, b, s) refl

pub none_laid : (out : List ℕ) → out ≡ overlay (entries []) out
unfolding overlay
none_laid out = refl

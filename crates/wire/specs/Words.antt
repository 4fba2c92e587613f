-- Little-endian numbers: a list of bytes, the lowest first, and the number that it stands for.
-- Assumes nothing.
use Rattle.std.specs.Prelude.{ℕ, zero, suc, ◌+◌, ◌*◌, ◌/◌, ◌%◌, ◌<◌, List, [], ◌∷◌, length, get_or}

-- the number that the bytes stand for
unfoldable pub little : List ℕ → ℕ
little [] = 0
little (b ∷ bs) = b + 256 * little bs

-- the k bytes of n
unfoldable pub bytes_of : ℕ → ℕ → List ℕ
bytes_of zero n = []
bytes_of (suc k) n = n % 256 ∷ bytes_of k (n / 256)

-- the k bytes of s from place p on
unfoldable pub bytes_at : ℕ → List ℕ → ℕ → List ℕ
bytes_at zero s p = []
bytes_at (suc k) s p = get_or s p 0 ∷ bytes_at k s (p + 1)

-- the number in the k bytes of s from place p on
abbrev pub word : ℕ → List ℕ → ℕ → ℕ
word k s p = little (bytes_at k s p)

-- each element is a byte
abbrev pub Bytes : List ℕ → Type 0
Bytes s = (i : ℕ) → i < length s → get_or s i 0 < 256

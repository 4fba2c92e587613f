-- A value for each of many numbers, for examples that leave none out.
-- Assumes nothing.
use Rattle.std.specs.Prelude.{ℕ, zero, suc, ◌+◌, ◌-◌, List, [], ◌∷◌, ◌++◌, length, replicate}

-- the numbers from first on, n of them
unfoldable pub numbers_from : ℕ → ℕ → List ℕ
numbers_from first zero = []
numbers_from first (suc n) = first ∷ numbers_from (first + 1) n

-- every byte
abbrev pub every_byte : List ℕ
every_byte = numbers_from 0 256

-- a value for every byte: those given for 0, 1, 2 and so on, and one for all others
unfoldable pub for_bytes : List ℕ → ℕ → List ℕ
for_bytes given others = given ++ replicate (256 - length given) others

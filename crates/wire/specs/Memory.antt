-- What lent memory holds after a call.
-- Assumes nothing.
use Rattle.std.specs.Prelude.{ℕ, ◌+◌, cond, List, ◌++◌, leb, eqb, length, take, drop}

-- "its output begins with these messages .. and beyond them is as lent"
unfoldable pub overlay : List ℕ → List ℕ → List ℕ
overlay bytes out = bytes ++ drop (length bytes) out

-- out with the bytes from place at on; out itself where they do not fit
unfoldable pub splice : List ℕ → ℕ → List ℕ → List ℕ
splice out at bytes =
    cond (leb (at + length bytes) (length out)) (take at out ++ bytes ++ drop (at + length bytes) out) out

-- "A refused call .. leaves .. output as they were"; an accepted one lays the bytes over the output's start
unfoldable pub memory : ℕ → List ℕ → List ℕ → List ℕ
memory fault bytes out = cond (eqb fault 0) (overlay bytes out) out

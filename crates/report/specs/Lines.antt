-- The lines that the programs print, as bytes of ASCII, after document 01, "Bench stops"; document 02, CR 7, has the numbers of the busiest stretch.
-- Assumes nothing.
use Rattle.std.specs.Prelude.{ℕ, zero, suc, ◌+◌, ◌-◌, ◌*◌, ◌/◌, ◌%◌, ◌≤◌, cond, List, [], ◌∷◌, ◌++◌, ltb, eqb, length, Option, None, Some}
use Prim.Native.Char.{code}
use Prim.Native.String.{String, [] as empty, ◌∷◌ as ◌then◌}
use Rattle.wire.specs.Memory.{memory}
use Rattle.wire.specs.Outcome.{check, first_fault, Outcome, outcome}
use Rattle.warnings.specs.Warnings.{new, update, cancel}
use Rattle.message.specs.declared.Message.{Message}
use Rattle.busiest.specs.declared.Busiest.{Busiest}

-- the bytes of a text
unfoldable pub ascii : String → List ℕ
ascii empty = []
ascii (c then s) = code c ∷ ascii s

-- the byte of a digit: 0 is 48, 9 is 57
abbrev pub digit : ℕ → ℕ
digit d = 48 + d

-- the digits of n, the highest first, at most as many as the first number says
unfoldable pub digits : ℕ → ℕ → List ℕ
digits zero n = []
digits (suc most) n = cond (ltb n 10) (digit n ∷ []) (digits most (n / 10) ++ (digit (n % 10) ∷ []))

-- n in decimal, without leading zeros; n + 1 digits are always enough
unfoldable pub decimal : ℕ → List ℕ
decimal n = digits (suc n) n

-- each byte is one of the ten digits
abbrev pub Digits : List ℕ → Type 0
Digits [] = Unit {0}
Digits (b ∷ bs) = ((digit 0 ≤ b) × (b ≤ digit 9)) × Digits bs

-- the number that digits stand for, read from the left, behind digits that stand for v
unfoldable pub value_from : ℕ → List ℕ → ℕ
value_from v [] = v
value_from v (b ∷ bs) = value_from (10 * v + (b - digit 0)) bs

-- words with one space between each two, then a newline
unfoldable pub line : List (List ℕ) → List ℕ
line [] = ascii "\n"
line (word ∷ []) = word ++ ascii "\n"
line (word ∷ next ∷ words) = word ++ (ascii " " ++ line (next ∷ words))

-- "N, U or C", for New, Update and Cancel; a question mark for a number that is no kind
unfoldable pub letter_of : ℕ → List ℕ
letter_of kind =
    cond (eqb kind new) (ascii "N")
    (cond (eqb kind update) (ascii "U")
    (cond (eqb kind cancel) (ascii "C") (ascii "?")))

-- "prints for each message: reference tick, N, U or C, warning, quality, event"
unfoldable pub message_line : Message → List ℕ
message_line m =
    line
    (decimal m.reference
    ∷ letter_of m.kind
    ∷ decimal m.warning
    ∷ decimal m.quality
    ∷ decimal m.event
    ∷ [])

-- "T ticks M messages", "for T samples taken and M messages given in all"
unfoldable pub closing_line : ℕ → ℕ → List ℕ
closing_line ticks messages = line (decimal ticks ∷ ascii "ticks" ∷ decimal messages ∷ ascii "messages" ∷ [])

-- the words for the tick that a stretch begins with, none where there is no tick
unfoldable pub from_tick : Option ℕ → List (List ℕ)
from_tick None = []
from_tick (Some tick) = ascii "from" ∷ ascii "tick" ∷ decimal tick ∷ []

-- how many messages the busiest stretch has, and where it begins
unfoldable pub busiest_line : Busiest → List ℕ
busiest_line b = line (decimal b.messages ∷ ascii "messages" ∷ from_tick b.first)

-- "refused", "a space and the number"
unfoldable pub refusal_line : ℕ → List ℕ
refusal_line number = line (ascii "refused" ∷ decimal number ∷ [])

-- "2 output too short": the only check of a call that writes a line
unfoldable pub line_fault : List ℕ → List ℕ → ℕ
line_fault bytes out = first_fault (check 2 (ltb (length out) (length bytes)) ∷ [])

-- the length of the line, or the refusal
unfoldable pub line_write : List ℕ → List ℕ → Outcome ℕ
line_write bytes out = outcome (line_fault bytes out) (length bytes)

-- the line at the output's start, or the output as lent
unfoldable pub line_memory : List ℕ → List ℕ → List ℕ
line_memory bytes out = memory (line_fault bytes out) bytes out

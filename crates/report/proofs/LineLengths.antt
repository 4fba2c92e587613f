-- How long the lines are: exactly, and that a message's line has at most 32 bytes.
-- Assumes nothing.
use mathlib.Core.Path.{◌≡◌, refl}
use mathlib.Core.Bool.{Bool, true, false, cond}
use Prim.Native.Nat.{ℕ, ◌+◌, ◌^◌, ◌≤◌, ◌<◌}
use native.Mathlib.Omega.{arith}
use lib.Dec.{eqb}
use lib.ListN.{length, length-append}
use Rattle.warnings.specs.Warnings.{new, update, cancel}
use Rattle.std.specs.Prelude.{Option, None, Some, IfSome}
use Rattle.message.specs.declared.Message.{Message}
use Rattle.busiest.specs.declared.Busiest.{Busiest}
use Rattle.report.specs.Lines.{ascii, decimal, line, letter_of, message_line, closing_line, from_tick, busiest_line, refusal_line}
use Rattle.report.proofs.Decimal.{decimal_at_most_20, decimal_at_most_10, decimal_at_most_3}

letter_length : (kind : ℕ) → length (letter_of kind) ≡ 1
unfolding letter_of ascii
letter_length kind = go (eqb kind new) (eqb kind update) (eqb kind cancel)
  where
    go : (a b c : Bool) → length (cond a (ascii "N") (cond b (ascii "U") (cond c (ascii "C") (ascii "?")))) ≡ 1
    go true b c = refl
    go false true c = refl
    go false false true = refl
    go false false false = refl

pub message_length : (m : Message) → length (decimal m.reference) + length (decimal m.warning) + length (decimal m.quality) + length (decimal m.event) + 6 ≡ length (message_line m)
unfolding message_line line ascii
message_length m = simp (length-append, letter_length m.kind) (omega arith)

pub closing_length : (ticks messages : ℕ) → length (decimal ticks) + length (decimal messages) + 17 ≡ length (closing_line ticks messages)
unfolding closing_line line ascii
closing_length ticks messages = simp length-append (omega arith)

busiest_length : (b : Busiest) (tick : ℕ) → b.first ≡ Some tick → length (decimal b.messages) + length (decimal tick) + 21 ≡ length (busiest_line b)
unfolding busiest_line from_tick line ascii
busiest_length b tick e = rw e (simp length-append (omega arith))

no_messages_length : (b : Busiest) → b.first ≡ None → length (decimal b.messages) + 10 ≡ length (busiest_line b)
unfolding busiest_line from_tick line ascii
no_messages_length b e = rw e (simp length-append (omega arith))

pub refusal_length : (number : ℕ) → length (decimal number) + 9 ≡ length (refusal_line number)
unfolding refusal_line line ascii
refusal_length number = simp length-append (omega arith)

-- the numbers of a message fit their fields, so its line is at most 10 + 1 + 1 + 1 + 3 + 1 + 3 + 1 + 10 + 1 bytes long
pub message_line_at_most_32 : (m : Message) → m.reference < 2 ^ 32 → m.warning < 2 ^ 8 → m.quality < 2 ^ 8 → m.event < 2 ^ 32 → length (message_line m) ≤ 32
message_line_at_most_32 m r w q e =
    omega (arith, message_length m, decimal_at_most_10 m.reference r, decimal_at_most_3 m.warning w, decimal_at_most_3 m.quality q, decimal_at_most_10 m.event e)

pub closing_line_at_most_37 : (ticks messages : ℕ) → ticks < 2 ^ 32 → messages < 2 ^ 32 → length (closing_line ticks messages) ≤ 37
closing_line_at_most_37 ticks messages t m = omega (arith, closing_length ticks messages, decimal_at_most_10 ticks t, decimal_at_most_10 messages m)

pub busiest_line_at_most_51 : (b : Busiest) → b.messages < 2 ^ 64 → IfSome b.first (λ tick. tick < 2 ^ 32) → length (busiest_line b) ≤ 51
busiest_line_at_most_51 b m t = go b.first refl t
  where
    go : (first : Option ℕ) → b.first ≡ first → IfSome first (λ tick. tick < 2 ^ 32) → length (busiest_line b) ≤ 51
    go (Some tick) e f = omega (arith, busiest_length b tick e, decimal_at_most_20 b.messages m, decimal_at_most_10 tick f)
    go None e f = omega (arith, no_messages_length b e, decimal_at_most_20 b.messages m)

pub refusal_line_at_most_12 : (number : ℕ) → number < 2 ^ 8 → length (refusal_line number) ≤ 12
refusal_line_at_most_12 number n = omega (arith, refusal_length number, decimal_at_most_3 number n)

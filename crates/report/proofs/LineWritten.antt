-- What a line's writer answers, and that the bytes which the calls put one behind the other are those of the lines.
-- Assumes nothing.
use mathlib.Core.Path.{◌≡◌}
use mathlib.Core.List.{List, ◌++◌, append_assoc}
use Prim.Native.Nat.{ℕ, ◌≤◌, ◌<◌}
use borrow.Author.Tests.{lt-ltb, le-ltb}
use lib.ListN.{length}
use Rattle.wire.specs.Memory.{overlay}
use Rattle.wire.specs.Outcome.{first_fault, answered}
use Rattle.std.specs.Prelude.{Ok, Err, None, Some}
use Rattle.wire.specs.declared.Refusal.TheVariants.{OutputRoom}
use Rattle.wire.proofs.FirstFault.{call_refused, call_accepted}
use Rattle.message.specs.declared.Message.{Message}
use Rattle.busiest.specs.declared.Busiest.{Busiest}
use Rattle.report.specs.Lines.{ascii, decimal, line, letter_of, message_line, closing_line, from_tick, busiest_line, refusal_line, line_fault, line_write, line_memory}

-- ---- the answer

module _ (bytes out : List ℕ) where
  pub line_refused : length out < length bytes → (answered (Err OutputRoom) ≡ line_write bytes out) × (out ≡ line_memory bytes out)
  unfolding line_write line_memory line_fault first_fault
  line_refused h = call_refused (line_fault bytes out) (length bytes) bytes out OutputRoom (simp (lt-ltb _ _ h))

  pub line_written : (last : List ℕ) → length bytes ≤ length out → last ≡ overlay bytes out → (answered (Ok (length bytes)) ≡ line_write bytes out) × (last ≡ line_memory bytes out)
  unfolding line_write line_memory line_fault first_fault
  line_written last h f = call_accepted (line_fault bytes out) (length bytes) bytes out last (simp (le-ltb _ _ h)) f

-- ---- the bytes

pub message_bytes : (m : Message)
    → decimal m.reference ++ ascii " " ++ letter_of m.kind ++ ascii " " ++ decimal m.warning ++ ascii " " ++ decimal m.quality ++ ascii " " ++ decimal m.event ++ ascii "\n" ≡ message_line m
unfolding message_line line ascii
message_bytes m = simp append_assoc

pub closing_bytes : (ticks messages : ℕ) → decimal ticks ++ ascii " ticks " ++ decimal messages ++ ascii " messages\n" ≡ closing_line ticks messages
unfolding closing_line line ascii
closing_bytes ticks messages = simp append_assoc

pub busiest_bytes : (b : Busiest) (tick : ℕ) → b.first ≡ Some tick → decimal b.messages ++ ascii " messages" ++ ascii " from tick " ++ decimal tick ++ ascii "" ++ ascii "\n" ≡ busiest_line b
unfolding busiest_line from_tick line ascii
busiest_bytes b tick e = rw e (simp append_assoc)

pub no_messages_bytes : (b : Busiest) → b.first ≡ None → decimal b.messages ++ ascii " messages" ++ ascii "\n" ≡ busiest_line b
unfolding busiest_line from_tick line ascii
no_messages_bytes b e = rw e (simp append_assoc)

pub refusal_bytes : (number : ℕ) → ascii "refused " ++ decimal number ++ ascii "\n" ≡ refusal_line number
unfolding refusal_line line ascii
refusal_bytes number = simp append_assoc

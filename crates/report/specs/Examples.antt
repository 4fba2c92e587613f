-- The programs' lines by examples, after document 01, "Bench stops", and document 02, CR 7, and what is said of all numbers in them.
-- Assumes nothing.
use Rattle.std.specs.Prelude.{ℕ, ◌<◌, ◌≡◌, [], ◌∷◌, ◌++◌, map, pos, get_or, replicate, None, Some}
use Rattle.wire.specs.Outcome.{accepted, refused}
use Rattle.message.specs.declared.Message.{Message}
use Rattle.report.specs.Lines.{ascii, digit, decimal, Digits, value_from, message_line, closing_line, busiest_line, refusal_line, line_write, line_memory}

-- a message with these numbers; its other fields have others
unfoldable pub numbered : ℕ → ℕ → ℕ → ℕ → ℕ → Message
numbered reference kind warning quality event = record {
  kind = kind;
  warning = warning;
  quality = quality;
  roadtype = 255;
  since = 0;
  event = event;
  detection = 77;
  reference = reference;
  position = record { east = pos 88; north = pos 99 };
  heading = 3600;
  validity = 180;
}

pub record LineExamples : Type 0 where
  -- "prints for each message: reference tick, N, U or C, warning, quality, event"
  pub new : message_line (numbered 1234 1 2 3 56) ≡ ascii "1234 N 2 3 56\n"
  pub update : message_line (numbered 890 2 3 1 47) ≡ ascii "890 U 3 1 47\n"
  pub cancel : message_line (numbered 605 3 1 2 4) ≡ ascii "605 C 1 2 4\n"
  -- "T ticks M messages", "for T samples taken and M messages given in all (0 and 0 for empty input)"
  pub closing : closing_line 4321 65 ≡ ascii "4321 ticks 65 messages\n"
  pub empty_input : closing_line 0 0 ≡ ascii "0 ticks 0 messages\n"
  -- the busiest stretch's number and first tick; an empty list "gives zero and no tick"
  pub stretch : busiest_line (record { messages = 12; first = Some 34567 }) ≡ ascii "12 messages from tick 34567\n"
  pub from_the_start : busiest_line (record { messages = 1; first = Some 0 }) ≡ ascii "1 messages from tick 0\n"
  pub empty_list : busiest_line (record { messages = 0; first = None }) ≡ ascii "0 messages\n"
  pub largest : busiest_line (record { messages = 18446744073709551615; first = Some 4294967295 }) ≡ ascii "18446744073709551615 messages from tick 4294967295\n"
  -- "refused", "a space and the number"
  pub refusals : map refusal_line (1 ∷ 9 ∷ 10 ∷ 23 ∷ []) ≡ ascii "refused 1\n" ∷ ascii "refused 9\n" ∷ ascii "refused 10\n" ∷ ascii "refused 23\n" ∷ []
  -- "gives exactly: 10 N 3 1 1", "25 ticks 1 messages"
  pub document_message : message_line (numbered 10 1 3 1 1) ≡ ascii "10 N 3 1 1\n"
  pub document_closing : closing_line 25 1 ≡ ascii "25 ticks 1 messages\n"
  -- the text's bytes are those of ASCII
  pub text : refusal_line 1 ≡ 114 ∷ 101 ∷ 102 ∷ 117 ∷ 115 ∷ 101 ∷ 100 ∷ 32 ∷ 49 ∷ 10 ∷ []
  -- "2 output too short": the line has 10 bytes; what is beyond it is as lent
  pub room : map (line_write (refusal_line 1)) (replicate 9 7 ∷ replicate 10 7 ∷ replicate 12 7 ∷ []) ≡ refused 2 ∷ accepted 10 ∷ accepted 10 ∷ []
  pub output : map (line_memory (refusal_line 1)) (replicate 9 7 ∷ replicate 12 7 ∷ []) ≡ replicate 9 7 ∷ (ascii "refused 1\n" ++ (7 ∷ 7 ∷ [])) ∷ []

-- a number in decimal: digits alone, that read from the left as the number, without a leading zero
pub record LineLaws : Type 0 where
  pub digits : (n : ℕ) → Digits (decimal n)
  pub reads_back : (n : ℕ) → value_from 0 (decimal n) ≡ n
  pub zero : decimal 0 ≡ ascii "0"
  pub no_leading_zero : (n : ℕ) → 0 < n → digit 0 < get_or (decimal n) 0 0

-- What the words say of the messages accepted by a list of calls, the definitions say too.
-- Assumes nothing.
use Rattle.receiver.specs.InWords.{past_of, InWords}
use Rattle.receiver.proofs.Latest.{rising_latest}
use Rattle.receiver.proofs.HeldInWords.{newer_lem, held_lem, shown_lem}
use Rattle.receiver.proofs.RefusedInWords.{refused_31_lem, refused_32_lem, refused_33_lem}
use Rattle.receiver.proofs.WrittenInWords.{written_lem}

pub words_hold : InWords
words_hold = record {
  newer = newer_lem;
  held = held_lem;
  refused_31 = refused_31_lem;
  refused_32 = refused_32_lem;
  refused_33 = refused_33_lem;
  shown = shown_lem;
  written = written_lem;
  rising = λ calls. rising_latest (past_of calls);
}

-- The examples of the busiest stretch hold. Computed.
-- Assumes nothing.
use mathlib.Core.Path.{refl}
use Rattle.wire.specs.Words.{little, bytes_of, bytes_at}
use Rattle.wire.specs.Memory.{splice}
use Rattle.wire.specs.Tests.{all_hold}
use Rattle.wire.specs.Outcome.{first_fault, outcome}
use Rattle.warnings.specs.Warnings.{row_of, validity_of, direction_of}
use Rattle.sample.specs.Sample.{outside, beyond}
use Rattle.message.specs.Message.{encode, message_of, derived_fit, field_tests, admits}
use Rattle.busiest.specs.Busiest.{records_of, references_of, messages_in, largest, earliest, busiest_of, falls, record_checks, stretch_fault, stretch}
use Rattle.busiest.specs.Examples.{StretchExamples}

pub stretch_examples_hold : StretchExamples
unfolding little bytes_of bytes_at splice all_hold first_fault outcome row_of validity_of direction_of outside beyond encode message_of derived_fit field_tests admits records_of references_of messages_in largest earliest busiest_of falls record_checks stretch_fault stretch
stretch_examples_hold = record {
  width = refl;
  largest = refl;
  earliest = refl;
  equal = refl;
  ends = refl;
  reference = refl;
  empty = refl;
  widths = refl;
  torn = refl;
  kinds = refl;
  records = refl;
  cancels = refl;
  falling = refl;
  order = refl;
}

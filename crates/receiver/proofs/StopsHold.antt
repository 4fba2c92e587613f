-- The stops hold, computed.
-- Assumes nothing.
use mathlib.Core.Path.{refl}
use Rattle.wire.specs.Words.{little, bytes_of, bytes_at}
use Rattle.wire.specs.Memory.{overlay, memory}
use Rattle.wire.specs.Outcome.{first_fault, outcome}
use Rattle.wire.specs.Tests.{all_hold}
use Rattle.warnings.specs.Warnings.{row_of, validity_of, direction_of}
use Rattle.sample.specs.Sample.{outside, beyond}
use Rattle.message.specs.Message.{encode, message_of, derived_fit, field_tests, admits}
use Rattle.receiver.specs.Held.{received, has_lapsed, is_newer, keeps_out, is_other, arrival_checks, is_beside, with_message, is_shown, entry}
use Rattle.receiver.specs.Calls.{call_checks, call_fault, shown, call_answer, call_memory}
use Rattle.receiver.specs.Reading.{last_tick, latest, accepted_after, document_result, document_results}
use Rattle.receiver.specs.Stops.{message, ReceiverStops}

pub receiver_stops_hold : ReceiverStops
unfolding little bytes_of bytes_at overlay memory first_fault outcome all_hold row_of validity_of direction_of outside beyond encode message_of derived_fit field_tests admits received has_lapsed is_newer keeps_out is_other arrival_checks is_beside with_message is_shown entry call_checks call_fault shown call_answer call_memory last_tick latest accepted_after document_result document_results message
receiver_stops_hold = record {
  rising = refl;
  lapse = refl;
  shown_until = refl;
  newer = refl;
  cancels = refl;
  late = refl;
  short = refl;
  ninth = refl;
  needs_room = refl;
  last_ticks = refl;
  order = refl;
}

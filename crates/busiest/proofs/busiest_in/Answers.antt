use Rattle.std.proofs.Common.{arith}
use Rattle.busiest.proofs.Growing.{starts, not_above, turn_grows, turn_stays}
use Rattle.busiest.proofs.Answer.{ends}
use Rattle.busiest.proofs.busiest_in.Goals.{then-fields-tick, else-fields-tick}
use Rattle.busiest.proofs.busiest_in.Goals as goal

pub loop-record-init : goal.loop-record-init
loop-record-init c = starts c.args.width _ _ c.reference_at-tick.ensures

pub overflow_sub-fields : goal.overflow_sub-fields
overflow_sub-fields c = not_above c.args.width c.args.records.now _ _ _ _ _ c.requires.0 c.loop-record-test.true c.loop-record.invariant _ c.fields.ensures

pub loop-record-preserved : goal.loop-record-preserved
loop-record-preserved c = elim c.if-fields-tick.branch [
  | then-fields-tick w ↦ rw (w.messages-is, w.first-is, w.place-is, w.tick-is)
      (turn_grows c.args.width c.args.records.now _ _ _ _ _ c.requires.0 c.loop-record-test.true c.loop-record.invariant _ c.fields.ensures (omega (arith, w.if-fields-tick.true)))
  | else-fields-tick w ↦ rw (w.messages-is, w.first-is, w.place-is, w.tick-is)
      (turn_stays c.args.width c.args.records.now _ _ _ _ _ c.requires.0 c.loop-record-test.true c.loop-record.invariant _ c.fields.ensures _ (omega arith) (omega (arith, w.if-fields-tick.false)) w.reference_at-tick-else-fields-tick.ensures)
]

pub returns : goal.returns
returns c = ends c.args.width c.args.records.now _ _ _ c.requires.0 (omega arith) c.loop-record-test.false (omega arith) c.loop-record.invariant.growing

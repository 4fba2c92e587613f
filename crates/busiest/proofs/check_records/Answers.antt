use Rattle.std.proofs.Common.{◌∙◌, sym}
use Rattle.wire.specs.Outcome.{answered}
use Rattle.wire.proofs.FirstFault.{fault_passed}
use Rattle.busiest.proofs.RecordsInTurn.{all_ahead, record_refused, record_accepted, fallen, none_fallen}
use Rattle.busiest.proofs.check_records.Goals as goal

pub loop-record-init : goal.loop-record-init
loop-record-init c = all_ahead c.args.records.now

pub returns-in_err-tick : goal.returns-in_err-tick
unfolding answered
returns-in_err-tick c =
    fault_passed _ _ c.from_residual.ensures.1
    ∙ record_refused _ _ _ c.args.records.now _ c.loop-record.invariant c.loop-record-test.true (c.told-records _ c.loop-record-test.true) _ c.in_err-tick.ensures.found

pub loop-record-preserved : goal.loop-record-preserved
unfolding answered
loop-record-preserved c =
    record_accepted _ _ _ c.args.records.now _ c.loop-record.invariant c.loop-record-test.true (c.told-records _ c.loop-record-test.true) _ c.in_ok-tick.ensures.found

pub returns-then-falls : goal.returns-then-falls
returns-then-falls c = sym (fallen _ _ _ c.args.records.now _ c.loop-record.invariant c.loop-record-test.false c.if-falls.true)

pub returns : goal.returns
returns c = sym (none_fallen _ _ _ c.args.records.now _ c.loop-record.invariant c.loop-record-test.false c.if-falls.false)

use Rattle.std.proofs.Common.{arith}
use Rattle.busiest.proofs.Promises.{found_torn, found_record, ticks_rise, found_no_width, found_too_wide, found_busiest}
use Rattle.busiest.proofs.stretch.Goals as goal

pub returns-then-list-ne0 : goal.returns-then-list-ne0
returns-then-list-ne0 c = found_torn c.args.list.now c.args.width (omega arith)

pub returns-in_err-check_records : goal.returns-in_err-check_records
returns-in_err-check_records c =
    found_record c.args.list.now c.args.width _ c.as_chunks.ensures.front (omega arith) _ _ c.from_residual.ensures.1 c.in_err-check_records.ensures

pub returns-then-width-lt1 : goal.returns-then-width-lt1
returns-then-width-lt1 c = found_no_width c.args.list.now c.args.width _ c.as_chunks.ensures.front (omega arith) c.in_ok-check_records.ensures (omega arith)

pub returns-then-width-gt-WIDEST : goal.returns-then-width-gt-WIDEST
returns-then-width-gt-WIDEST c =
    found_too_wide c.args.list.now c.args.width _ c.as_chunks.ensures.front (omega arith) c.in_ok-check_records.ensures (omega arith)

pub busiest_in-requires : goal.busiest_in-requires
busiest_in-requires c = (ticks_rise c.args.list.now c.args.width _ c.as_chunks.ensures.front (omega arith) c.in_ok-check_records.ensures, omega arith)

pub returns : goal.returns
returns c =
    found_busiest c.args.list.now c.args.width _ c.as_chunks.ensures.front (omega arith) c.in_ok-check_records.ensures _ (omega arith) (omega arith) c.busiest_in.ensures

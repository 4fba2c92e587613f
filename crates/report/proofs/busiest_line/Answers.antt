use Rattle.std.proofs.Common.{◌≡◌}
use Rattle.report.specs.Lines.{ascii, busiest_line}
use Rattle.report.proofs.LineWritten.{busiest_bytes, no_messages_bytes}
use Rattle.report.proofs.busiest_line.Goals as goal
use Rattle.report.proofs.busiest_line.Goals.{in-Some, in_default}

pub returns : goal.returns
unfolding ascii
returns c =
    let e : c.as_str.result.now ≡ busiest_line c.args.found =
    rw (c.as_str.ensures.value, c.push_str-2.ensures.bytes) (elim c.match-found.branch [
      | in-Some w ↦ rw (w.line-is, w.put_number-in-Some.ensures.bytes, w.from.ensures, w.push_str.ensures.bytes, c.put_number.ensures.bytes, c.new-line.ensures)
          (busiest_bytes c.args.found _ w.in-Some.is)
      | in_default w ↦ rw (w.line-is, c.put_number.ensures.bytes, c.new-line.ensures) (no_messages_bytes c.args.found w.in_default.is)
    ]) in
    rw e at c.write_line.ensures

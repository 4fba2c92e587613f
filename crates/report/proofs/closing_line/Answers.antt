use Rattle.std.proofs.Common.{◌≡◌}
use Rattle.report.specs.Lines.{ascii, closing_line}
use Rattle.report.proofs.LineWritten.{closing_bytes}
use Rattle.report.proofs.closing_line.Goals as goal

pub returns : goal.returns
unfolding ascii
returns c =
    let e : c.as_str.result.now ≡ closing_line c.args.ticks c.args.messages =
    rw (c.as_str.ensures.value, c.put_number-2.ensures.bytes, c.from-2.ensures, c.put_number.ensures.bytes, c.from.ensures, c.new-line.ensures) (closing_bytes c.args.ticks c.args.messages) in
    rw e at c.write_line.ensures

use Rattle.std.proofs.Common.{◌≡◌}
use Rattle.report.specs.Lines.{ascii, message_line}
use Rattle.report.proofs.LineWritten.{message_bytes}
use Rattle.report.proofs.message_line.Goals as goal

pub returns : goal.returns
unfolding ascii
returns c =
    let e : c.as_str.result.now ≡ message_line c.args.m =
    rw (c.as_str.ensures.value, c.put_number-4.ensures.bytes, c.from-4.ensures, c.put_number-3.ensures.bytes, c.from-3.ensures, c.put_number-2.ensures.bytes, c.from-2.ensures, c.push_str-2.ensures.bytes, c.push_str.ensures.bytes, c.letter.ensures.text, c.put_number.ensures.bytes, c.from.ensures, c.new-line.ensures) (message_bytes c.args.m) in
    rw e at c.write_line.ensures

use Rattle.std.proofs.Common.{◌≡◌}
use Rattle.report.specs.Lines.{ascii, refusal_line}
use Rattle.report.proofs.LineWritten.{refusal_bytes}
use Rattle.report.proofs.refusal_line.Goals as goal

pub returns : goal.returns
unfolding ascii
returns c =
    let e : c.as_str.result.now ≡ refusal_line c.args.number =
    rw (c.as_str.ensures.value, c.put_number.ensures.bytes, c.from.ensures, c.push_str.ensures.bytes, c.new-line.ensures) (refusal_bytes c.args.number) in
    rw e at c.write_line.ensures

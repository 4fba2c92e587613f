use Rattle.wire.specs.Memory.{overlay}
use Rattle.report.proofs.LineWritten.{line_refused, line_written}
use Rattle.report.proofs.write_line.Goals as goal

pub returns-then-out-line : goal.returns-then-out-line
returns-then-out-line c = line_refused c.args.line.now c.args.out.now c.if-out-line.true

pub returns : goal.returns
unfolding overlay
returns c = line_written c.args.line.now c.args.out.now _ c.if-out-line.false cc

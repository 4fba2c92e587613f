use Rattle.std.proofs.Common.{◌≡◌, ◌^◌, ◌<◌, arith, rules}
use Rattle.std.specs.Prelude.{IfSome}
use Rattle.wire.specs.Outcome.{number_of}
use Rattle.report.proofs.LineLengths.{busiest_line_at_most_51, refusal_line_at_most_12}
use Rattle.planner.proofs.LineGiven.{found_line, refused_line}
use Rattle.planner.proofs.put_answer.Goals as goal

pub returns-in-Ok : goal.returns-in-Ok
returns-in-Ok c =
    let messages : c.in-Ok.found.messages < 2 ^ 64 = omega arith in
    let first : IfSome c.in-Ok.found.first (λ tick. tick < 2 ^ 32) = search rules in
    let few = busiest_line_at_most_51 c.in-Ok.found messages first in
    found_line c.args.list.now c.args.width c.stretch.result c.args.line.now _ _ c.busiest_line.result (omega arith) c.stretch.ensures.answer c.unwrap_or.ensures
    c.in-Ok.found c.in-Ok.is (omega (arith, few)) c.busiest_line.ensures

pub returns-in-Err : goal.returns-in-Err
returns-in-Err c =
    let number : c.from.result ≡ number_of c.in-Err.refusal = c.from.ensures in
    let few = rw number at (refusal_line_at_most_12 c.from.result (omega arith)) in
    refused_line c.args.list.now c.args.width c.stretch.result c.args.line.now _ _ c.refusal_line.result (omega arith) c.stretch.ensures.answer c.unwrap_or-in-Err.ensures
    c.in-Err.refusal c.in-Err.is (omega (arith, few)) (rw number at c.refusal_line.ensures)

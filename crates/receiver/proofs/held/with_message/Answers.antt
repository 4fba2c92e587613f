use Rattle.std.proofs.Common.{arith, lit<, ap, length, length-append}
use Rattle.receiver.proofs.Sides.{side_counts}
use Rattle.receiver.proofs.held.with_message.Goals as goal

pub push_side-requires : goal.push_side-requires
push_side-requires c =
    let s = side_counts c.args.e c.args.held.now in
    omega (arith, ap length c.new-next.ensures)

pub push-requires : goal.push-requires
push-requires c =
    let s = side_counts c.args.e c.args.held.now in
    (lit< tt, omega (arith, ap length c.new-next.ensures, simp length-append at (ap length c.push_side.ensures)))

pub push_side-requires-2 : goal.push_side-requires-2
push_side-requires-2 c =
    let s = side_counts c.args.e c.args.held.now in
    omega (arith, ap length c.new-next.ensures, simp length-append at (ap length c.push_side.ensures), c.push.ensures.len)

use Rattle.std.proofs.Common.{arith, lit<, sym}
use Rattle.receiver.specs.Held.{is_beside}
use Rattle.receiver.proofs.Sides.{room}
use Rattle.receiver.proofs.held.push_side.Goals as goal

pub push-requires : goal.push-requires
push-requires c =
    let r = room (is_beside c.args.side c.args.sender) c.args.held.now c.loop-x.x-index _ c.loop-x-test.true (sym c.if-is_beside.ensures) in
    (lit< tt, omega (arith, c.loop-x.invariant.len))

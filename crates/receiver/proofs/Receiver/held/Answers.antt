use Rattle.std.proofs.Common.{◌≡◌, true, false, not, arith, ap, sym, ◌∙◌}
use Rattle.receiver.specs.declared.Received.{Received}
use Rattle.receiver.specs.Held.{has_lapsed}
use Rattle.receiver.specs.Calls.{place}
use Rattle.receiver.proofs.Turns.{made_kept, made_left}
use Rattle.receiver.proofs.Receiver.held.Goals as goal
use Rattle.receiver.proofs.Receiver.held.Goals.{then-not-has_lapsed, else-not-has_lapsed}

pub loop-i-preserved : goal.loop-i-preserved
loop-i-preserved c =
    let p = λ (x : Received). not (has_lapsed c.args.tick x) in
    elim c.if-not-has_lapsed.branch [
      | then-not-has_lapsed w ↦
          let t : has_lapsed c.args.tick (place c.args.self c.loop-i.i) ≡ false = ap (has_lapsed c.args.tick) (sym c.place-x.ensures) ∙ sym w.if-not-has_lapsed.ensures in
          record {
            items = rw (w.held-is, w.push.ensures.items, c.loop-i.invariant.items, c.place-x.ensures) (made_kept p (place c.args.self) c.loop-i.i (ap not t));
            few = rw w.held-is (omega (arith, w.push.ensures.len, c.loop-i.invariant.few));
          }
      | else-not-has_lapsed w ↦
          let t : has_lapsed c.args.tick (place c.args.self c.loop-i.i) ≡ true = ap (has_lapsed c.args.tick) (sym c.place-x.ensures) ∙ sym w.if-not-has_lapsed.ensures in
          record {
            items = rw (w.held-is, c.loop-i.invariant.items) (made_left p (place c.args.self) c.loop-i.i (ap not t));
            few = rw w.held-is (omega (arith, c.loop-i.invariant.few));
          }
    ]

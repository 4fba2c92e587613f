use Rattle.std.proofs.Common.{arith, rules, ap, sym, length, length-append}
use Rattle.receiver.specs.Held.{is_shown}
use Rattle.receiver.proofs.Turns.{next_kept, next_left}
use Rattle.receiver.proofs.Entries.{none_laid, entry_written}
use Rattle.receiver.proofs.held.write_shown.Goals as goal
use Rattle.receiver.proofs.held.write_shown.Goals.{then-is_shown, else-is_shown}

pub loop-x-init : goal.loop-x-init
loop-x-init c = record { number = search rules; few = search rules; output = none_laid _ }

pub loop-x-preserved : goal.loop-x-preserved
loop-x-preserved c =
    let i = c.loop-x.invariant in
    elim c.if-is_shown.branch [
      | then-is_shown w ↦
          let k = next_kept is_shown c.args.held.now c.loop-x.x-index _ c.loop-x-test.true (sym w.if-is_shown.ensures) in
          record {
            number = rw w.n-is (omega (arith, i.number, simp length-append at (ap length k)));
            few = rw w.n-is (omega (arith, i.few));
            output = rw (w.out-is, ← k, w.copy_at.ensures, w.entry.ensures, i.output, i.number) (entry_written _ _ _ (omega (arith, i.number, i.few)));
          }
      | else-is_shown w ↦
          let k = next_left is_shown c.args.held.now c.loop-x.x-index _ c.loop-x-test.true (sym w.if-is_shown.ensures) in
          record {
            number = rw (w.n-is, ← k) i.number;
            few = rw w.n-is (omega (arith, i.few));
            output = rw (w.out-is, ← k) i.output;
          }
    ]

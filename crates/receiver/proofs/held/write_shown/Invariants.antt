use Rattle.std.proofs.Common.{◌≡◌, ◌≤◌, length, take}
use Rattle.std.specs.List.{filter}
use Rattle.wire.specs.Memory.{overlay}
use Rattle.receiver.specs.Held.{is_shown, entries}
use Rattle.receiver.proofs.held.write_shown.Given as goal

abbrev pub invariant-loop-x : goal.invariant-loop-x
invariant-loop-x l = record {
  number : l.n ≡ length (filter is_shown (take l.x-index l.held));
  few : l.n ≤ l.x-index;
  output : l.out ≡ overlay (entries (filter is_shown (take l.x-index l.held))) l.initial.out;
}

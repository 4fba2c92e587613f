use Rattle.std.proofs.Common.{◌≡◌, ◌++◌, ◌+◌, length, take}
use Rattle.std.specs.List.{filter}
use Rattle.arrayvec.specs.ArrayVec.{array_vec_len}
use Rattle.receiver.specs.Held.{is_beside}
use Rattle.receiver.proofs.held.push_side.Given as goal

abbrev pub invariant-loop-x : goal.invariant-loop-x
invariant-loop-x l = record {
  items : l.next.items ≡ l.initial.next.items ++ filter (is_beside l.side l.sender) (take l.x-index l.held);
  len : array_vec_len l.next ≡ array_vec_len l.initial.next + length (filter (is_beside l.side l.sender) (take l.x-index l.held));
}

use Rattle.std.proofs.Common.{◌≡◌, ◌≤◌, map}
use Rattle.std.specs.List.{range_with_len}
use Rattle.arrayvec.specs.ArrayVec.{array_vec_len}
use Rattle.receiver.specs.Held.{unlapsed}
use Rattle.receiver.specs.Calls.{place}
use Rattle.receiver.proofs.Receiver.held.Given as goal

abbrev pub invariant-loop-i : goal.invariant-loop-i
invariant-loop-i l = record {
  items : l.held.items ≡ unlapsed l.tick (map (place l.self) (range_with_len 0 l.i));
  few : array_vec_len l.held ≤ l.i;
}

use Rattle.std.proofs.Common.{◌≡◌, ◌++◌, length}
use Rattle.std.specs.Slice.Iter.{chunks_rest, chunks_size}
use Rattle.history.specs.State.{fresh}
use Rattle.records.specs.Records.{blocks_in, records_from, refusal_from}
use Rattle.records.proofs.put_records.Given as goal

-- what there is so far, with what the blocks that are left give, is what all blocks give
abbrev pub invariant-loop-block : goal.invariant-loop-block
invariant-loop-block l =
    (goal.iterator-loop-block).can_next l.block-iterator
    × (goal.iterator-loop-block).is_finite l.block-iterator
    × (chunks_size l.block-iterator ≡ 512)
    × (length l.out ≡ 1600)
    × (l.records.items ++ records_from l.engine.state (blocks_in (chunks_rest l.block-iterator))
    ≡ l.initial.records.items ++ records_from fresh (blocks_in l.fn.input))
    × (refusal_from l.engine.state (blocks_in (chunks_rest l.block-iterator)) ≡ refusal_from fresh (blocks_in l.fn.input))

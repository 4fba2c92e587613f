-- How many messages an answer has at most.
-- Assumes nothing.
use Rattle.std.proofs.Common.{◌≡◌, ℕ, ◌+◌, ◌*◌, ◌≤◌, List, length, refl, arith}
use Rattle.std.specs.Prelude.{Option, None, Some, ltb, leb, ◌&&◌}
use Rattle.std.proofs.lemmas.List.Sums.{count_by-le-length}
use Rattle.busiest.specs.declared.Busiest.{Busiest}
use Rattle.busiest.specs.Busiest.{records_of, references_of, messages_in}
use Rattle.busiest.specs.InWords.{IsBusiest}
use Rattle.busiest.proofs.References.{references_length, records_length}

-- at most as many as there are ticks
few_messages : (w : ℕ) (ticks : List ℕ) (b : Busiest) → IsBusiest w ticks b → b.messages ≤ length ticks
unfolding messages_in
few_messages w ticks b is = go b.first refl
  where
    go : (f : Option ℕ) → b.first ≡ f → b.messages ≤ length ticks
    go None e = omega (arith, (is.empty (is.none e)).0)
    go (Some t) e = omega (arith, (is.reached t e).1, count_by-le-length (λ r. leb t r && ltb r (t + w)) ticks)

pub few_found : (list : List ℕ) (w : ℕ) (b : Busiest) → IsBusiest w (references_of (records_of list)) b → 32 * b.messages ≤ length list
few_found list w b is = omega (arith, few_messages w (references_of (records_of list)) b is, references_length (records_of list), records_length list)

-- What the rules' functions need of the table: the delay is few ticks.
-- Assumes nothing.
use Prim.Native.Nat.{ℕ, ◌≤◌}
use lib.Dec.{leb, leb→le}
use Rattle.warnings.specs.Warnings.{row_of}
use Rattle.warnings.proofs.Table.{any_row}

pub delay_small : (w : ℕ) → (row_of w).delay ≤ 150
unfolding row_of
delay_small w = leb→le _ _ (any_row (λ r. leb r.delay 150) tt tt w)

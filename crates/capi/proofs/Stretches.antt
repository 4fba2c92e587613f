-- The answer to the busiest stretch as a 64-bit number, and the number that is lent for its first tick.
-- Assumes nothing.
use mathlib.Core.Path.{◌≡◌, refl, ◌∙◌}
use mathlib.Core.List.{List}
use Prim.Native.Nat.{ℕ, ◌^◌, ◌<◌}
use native.Mathlib.Omega.{arith}
use lib.IntN.{ℤ, pos, neg_ℤ}
use mir.Syntax.{w32, w64}
use mir.Val.{to_z, of_z, SFits}
use mir.Facts.{to_z_pos, to_z-of_z}
use Rattle.std.specs.Option.{unwrap_or}
use Rattle.wire.specs.Outcome.{accepted, refused}
use Rattle.busiest.specs.declared.Busiest.{Busiest}
use Rattle.busiest.specs.Busiest.{stretch}
use Rattle.capi.specs.Imaged.{stretch_number, stretch_tick, StretchMeets}
use Rattle.capi.proofs.Numbers.{again}

module _ (list : List ℕ) (w lent : ℕ) where
  pub stretch_found : (b : Busiest) (tick : ℕ) → accepted b ≡ stretch list w → b.messages < 2 ^ 63 → tick ≡ unwrap_or b.first lent
      → StretchMeets (stretch list w) lent (to_z w64 b.messages) tick
  unfolding stretch_number stretch_tick
  stretch_found b tick e few t =
      record { answer = rw (← e) (to_z_pos w64 {n = b.messages} (omega arith)); tick = rw (← e) t; number_examples = refl; tick_examples = refl }

  pub stretch_refused : (n : ℕ) (y z : ℤ) → refused n ≡ stretch list w → SFits w32 y → y ≡ neg_ℤ (pos n) → SFits w64 z → z ≡ to_z w32 (of_z w32 y)
      → StretchMeets (stretch list w) lent (to_z w64 (of_z w64 z)) lent
  unfolding stretch_number stretch_tick
  stretch_refused n y z e small is fits from =
      record {
        answer = rw (← e) (to_z-of_z {w = w64} {z = z} fits ∙ from ∙ again y (neg_ℤ (pos n)) small is);
        tick = rw (← e) refl;
        number_examples = refl;
        tick_examples = refl;
      }

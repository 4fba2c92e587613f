-- The driver's lamp by examples, after change request CR 4. The bits are those of the numbers named beside them.
-- Assumes nothing.
use Rattle.std.specs.Prelude.{ℕ, ◌≡◌, [], ◌∷◌, map}
use Rattle.std.specs.Float.{binary32}
use Rattle.std.specs.Float.Ieee.{of_bits}
use Rattle.lamp.specs.declared.Lamp.{Lamp}
use Rattle.lamp.specs.declared.Lamp.TheVariants.{Unknown, Standing, Seconds}
use Rattle.lamp.specs.Lamp.{lamp_of}

-- the lamp at a gap and a speed with these bits
abbrev pub lamp_at : ℕ → ℕ → Lamp
lamp_at gap speed = lamp_of (record { gap = of_bits binary32 gap; speed = of_bits binary32 speed })

-- the seconds with these bits
abbrev pub seconds : ℕ → Lamp
seconds bits = Seconds (of_bits binary32 bits)

pub record LampExamples : Type 0 where
  -- "gap in cm divided by the speed F, rounded once": 3.0 by 2.0, 1.0 by 3.0, 200000.0 by 16383.0, 200000.0 by 1.0
  pub divided : lamp_at 0x40400000 0x40000000 ∷ lamp_at 0x3f800000 0x40400000 ∷ lamp_at 0x48435000 0x467ffc00 ∷ lamp_at 0x48435000 0x3f800000 ∷ []
      ≡ seconds 0x3fc00000 ∷ seconds 0x3eaaaaab ∷ seconds 0x4143530d ∷ seconds 0x48435000 ∷ []
  -- "the gap is 0 to 200,000": -1.0, the number next below 0, -0.0, 0.0, 200000.0, the number next above it, infinity, no number; at 2.0
  pub gaps : map (λ gap. lamp_at gap 0x40000000) (0xbf800000 ∷ 0x80000001 ∷ 0x80000000 ∷ 0 ∷ 0x48435000 ∷ 0x48435001 ∷ 0x7f800000 ∷ 0x7fc00000 ∷ [])
      ≡ Unknown ∷ Unknown ∷ seconds 0x80000000 ∷ seconds 0 ∷ seconds 0x47c35000 ∷ Unknown ∷ Unknown ∷ Unknown ∷ []
  -- "F 0 to 16,383", and "'standing' for F below 1": the number next below 0, -0.0, 0.0, that next below 1, 1.0, that next above 16383.0, infinity, no number; at 1.0
  pub speeds : map (lamp_at 0x3f800000) (0x80000001 ∷ 0x80000000 ∷ 0 ∷ 0x3f7fffff ∷ 0x3f800000 ∷ 0x467ffc01 ∷ 0x7f800000 ∷ 0x7fc00000 ∷ [])
      ≡ Unknown ∷ Standing ∷ Standing ∷ Standing ∷ seconds 0x3f800000 ∷ Unknown ∷ Unknown ∷ Unknown ∷ []
  -- the ranges come first: a gap beyond them is unknown at 0.0 too
  pub ranges_first : map (λ gap. lamp_at gap 0) (0x48435001 ∷ 0x7fc00000 ∷ 0xbf800000 ∷ []) ≡ Unknown ∷ Unknown ∷ Unknown ∷ []

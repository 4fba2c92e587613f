-- The table per warning, road type and direction by examples, after document 01, "The message" and "The history reading".
-- Assumes nothing.
use Rattle.std.specs.Prelude.{ℕ, ◌≡◌, true, false, List, [], ◌∷◌, map}
use Rattle.wire.specs.EveryByte.{every_byte, for_bytes}
use Rattle.warnings.specs.declared.Row.{Row}
use Rattle.warnings.specs.Warnings.{row_of, validity_of, road_type_of, direction_of}

-- cause, sub cause, linked cause and its sub cause, relevance distance code, traffic class, rank, highest kind, greatest quality, update period, cancel delay, validity with ignition on and off
abbrev pub row : ℕ → ℕ → ℕ → ℕ → ℕ → ℕ → ℕ → ℕ → ℕ → ℕ → ℕ → ℕ → ℕ → Row
row cause subcause linkedcause linkedsubcause relevance trafficclass rank kinds qualities period delay validityon validityoff = record {
  cause = cause;
  subcause = subcause;
  linkedcause = linkedcause;
  linkedsubcause = linkedsubcause;
  relevance = relevance;
  trafficclass = trafficclass;
  rank = rank;
  kinds = kinds;
  qualities = qualities;
  period = period;
  delay = delay;
  validityon = validityon;
  validityoff = validityoff;
}

-- the warnings, and on each side a number that is none
abbrev pub zero_to_five : List ℕ
zero_to_five = 0 ∷ 1 ∷ 2 ∷ 3 ∷ 4 ∷ 5 ∷ []

pub record WarningExamples : Type 0 where
  -- "2 sub cause 0, 2, 3 for warnings 1, 2, 3; 3 cause 94", "Relevance distance code 4, traffic class 1.", "a higher number outranks", "150 ticks (warning 3: 600, U)", "i-50 to i (warning 3: i-150 to i, U)", "warning 1: 30; 2: 30 with ignition on, else 180 (U); 3: 180 (U)"; of 4, "It ranks between 2 and 3.", "Updates come every 5 ticks", "traffic class is 0, quality is 1, cause 99, sub cause 8, validity 2, and the linked cause 93/3", "never a Cancel" (CR 1)
  pub rows : map row_of zero_to_five
      ≡ row 0 0 0 0 0 0 0 0 0 0 0 0 0
      ∷ row 94 0 0 0 4 1 1 3 3 150 50 30 30
      ∷ row 94 2 0 0 4 1 2 3 3 150 50 30 180
      ∷ row 94 3 0 0 4 1 4 3 3 600 150 180 180
      ∷ row 99 8 93 3 4 0 3 2 1 5 0 2 2
      ∷ row 0 0 0 0 0 0 0 0 0 0 0 0 0
      ∷ []
  -- "Validity: warning 1: 30; 2: 30 with ignition on, else 180 (U); 3: 180 (U)."; of 4, "validity 2" (CR 1)
  pub validity_on : map (λ w. validity_of w true) zero_to_five ≡ 0 ∷ 30 ∷ 30 ∷ 180 ∷ 2 ∷ 0 ∷ []
  pub validity_off : map (λ w. validity_of w false) zero_to_five ≡ 0 ∷ 30 ∷ 180 ∷ 180 ∷ 2 ∷ 0 ∷ []
  -- "5 roadType: 0 for roads 1 and 3, 1 for 2, 2 for 4 and 6, 3 for 5, and 255 (omitted) for 0", and for any that is refused
  pub road_types : map road_type_of every_byte ≡ for_bytes (255 ∷ 0 ∷ 1 ∷ 0 ∷ 2 ∷ 3 ∷ 2 ∷ []) 255
  -- "6 direction, 1 upstream for roadType 1 and 3, else 0"
  pub directions : map direction_of every_byte ≡ for_bytes (0 ∷ 1 ∷ 0 ∷ 1 ∷ []) 0

-- The message record by examples: eleven messages in bytes, the bounds and the order of its checks, after document 01, "The message" and "What is turned down".
-- Assumes nothing.
use Rattle.std.specs.Prelude.{ℕ, ◌-◌, ◌≡◌, false, cond, ◌||◌, eqb, ℤ, pos, get_or, take, replicate, Ok, Err}
use mathlib.Core.List.{List, [], ◌∷◌, ◌++◌, map, foldl}
use Rattle.wire.specs.Words.{bytes_of}
use Rattle.wire.specs.Memory.{splice}
use Rattle.wire.specs.Outcome.{accepted, refused, answered}
use Rattle.wire.specs.EveryByte.{every_byte}
use Rattle.sample.specs.Examples.{refusals, refusals_at, refusals_of_byte, minus, coordinates}
use Rattle.message.specs.declared.Message.{Message}
use Rattle.wire.specs.declared.Refusal.TheVariants.{MessageFields}
use Rattle.message.specs.Message.{encode, message_of, message_read, write_fault}

-- kind, warning, quality, roadType, stationarySince, event, detection, reference, east, north, heading, validity
abbrev pub message : ℕ → ℕ → ℕ → ℕ → ℕ → ℕ → ℕ → ℕ → ℤ → ℤ → ℕ → ℕ → Message
message kind warning quality roadtype since event detection reference east north heading validity = record {
  kind = kind;
  warning = warning;
  quality = quality;
  roadtype = roadtype;
  since = since;
  event = event;
  detection = detection;
  reference = reference;
  position = record { east = east; north = north };
  heading = heading;
  validity = validity;
}

-- a message and its 32 bytes
pub record Example : Type 0 where
  pub fields : Message
  pub bytes : List ℕ

abbrev pub example : Message → List ℕ → Example
example fields bytes = record { fields = fields; bytes = bytes }

-- New of warnings 1, 2, 3, 4, then Update of each, then Cancel of 1, 2, 3: bytes 0-7, 8-19, 20-31
unfoldable pub eleven : List Example
eleven =
    example (message 1 1 2 3 0 1193046 6636321 6636321 (minus 654321) (pos 123456) 2569 30)
    ((1 ∷ 1 ∷ 0 ∷ 94 ∷ 2 ∷ 3 ∷ 1 ∷ 0 ∷ [])
    ++ (86 ∷ 52 ∷ 18 ∷ 0 ∷ 33 ∷ 67 ∷ 101 ∷ 0 ∷ 33 ∷ 67 ∷ 101 ∷ 0 ∷ [])
    ++ (15 ∷ 4 ∷ 246 ∷ 255 ∷ 64 ∷ 226 ∷ 1 ∷ 0 ∷ 9 ∷ 10 ∷ 30 ∷ 0 ∷ []))
    ∷ example (message 1 2 3 255 1 2 258 258 (pos 1) (minus 1) 3601 30)
    ((1 ∷ 2 ∷ 2 ∷ 94 ∷ 3 ∷ 255 ∷ 0 ∷ 1 ∷ [])
    ++ (2 ∷ 0 ∷ 0 ∷ 0 ∷ 2 ∷ 1 ∷ 0 ∷ 0 ∷ 2 ∷ 1 ∷ 0 ∷ 0 ∷ [])
    ++ (1 ∷ 0 ∷ 0 ∷ 0 ∷ 255 ∷ 255 ∷ 255 ∷ 255 ∷ 17 ∷ 14 ∷ 30 ∷ 0 ∷ []))
    ∷ example (message 1 3 1 0 2 9999999 70000 70000 (minus 1000000) (pos 1000000) 0 180)
    ((1 ∷ 3 ∷ 3 ∷ 94 ∷ 1 ∷ 0 ∷ 0 ∷ 2 ∷ [])
    ++ (127 ∷ 150 ∷ 152 ∷ 0 ∷ 112 ∷ 17 ∷ 1 ∷ 0 ∷ 112 ∷ 17 ∷ 1 ∷ 0 ∷ [])
    ++ (192 ∷ 189 ∷ 240 ∷ 255 ∷ 64 ∷ 66 ∷ 15 ∷ 0 ∷ 0 ∷ 0 ∷ 180 ∷ 0 ∷ []))
    ∷ example (message 1 4 1 1 0 5 300 300 (pos 7) (minus 9) 450 2)
    ((1 ∷ 4 ∷ 8 ∷ 99 ∷ 1 ∷ 1 ∷ 1 ∷ 0 ∷ [])
    ++ (5 ∷ 0 ∷ 0 ∷ 0 ∷ 44 ∷ 1 ∷ 0 ∷ 0 ∷ 44 ∷ 1 ∷ 0 ∷ 0 ∷ [])
    ++ (7 ∷ 0 ∷ 0 ∷ 0 ∷ 247 ∷ 255 ∷ 255 ∷ 255 ∷ 194 ∷ 1 ∷ 2 ∷ 0 ∷ []))
    ∷ example (message 2 1 3 1 2 770 1029 1029 (pos 1286) (minus 1543) 1800 30)
    ((2 ∷ 1 ∷ 0 ∷ 94 ∷ 3 ∷ 1 ∷ 1 ∷ 2 ∷ [])
    ++ (2 ∷ 3 ∷ 0 ∷ 0 ∷ 5 ∷ 4 ∷ 0 ∷ 0 ∷ 5 ∷ 4 ∷ 0 ∷ 0 ∷ [])
    ++ (6 ∷ 5 ∷ 0 ∷ 0 ∷ 249 ∷ 249 ∷ 255 ∷ 255 ∷ 8 ∷ 7 ∷ 30 ∷ 0 ∷ []))
    ∷ example (message 2 2 1 0 3 197637 395016 395016 (minus 591879) (minus 788999) 2057 180)
    ((2 ∷ 2 ∷ 2 ∷ 94 ∷ 1 ∷ 0 ∷ 0 ∷ 3 ∷ [])
    ++ (5 ∷ 4 ∷ 3 ∷ 0 ∷ 8 ∷ 7 ∷ 6 ∷ 0 ∷ 8 ∷ 7 ∷ 6 ∷ 0 ∷ [])
    ++ (249 ∷ 247 ∷ 246 ∷ 255 ∷ 249 ∷ 245 ∷ 243 ∷ 255 ∷ 9 ∷ 8 ∷ 180 ∷ 0 ∷ []))
    ∷ example (message 2 3 2 2 0 10000000 9999999 9999999 (pos 999999) (minus 999998) 3600 180)
    ((2 ∷ 3 ∷ 3 ∷ 94 ∷ 2 ∷ 2 ∷ 0 ∷ 0 ∷ [])
    ++ (128 ∷ 150 ∷ 152 ∷ 0 ∷ 127 ∷ 150 ∷ 152 ∷ 0 ∷ 127 ∷ 150 ∷ 152 ∷ 0 ∷ [])
    ++ (63 ∷ 66 ∷ 15 ∷ 0 ∷ 194 ∷ 189 ∷ 240 ∷ 255 ∷ 16 ∷ 14 ∷ 180 ∷ 0 ∷ []))
    ∷ example (message 2 4 1 255 3 197637 2571 2571 (minus 1) (pos 258) 3599 2)
    ((2 ∷ 4 ∷ 8 ∷ 99 ∷ 1 ∷ 255 ∷ 0 ∷ 3 ∷ [])
    ++ (5 ∷ 4 ∷ 3 ∷ 0 ∷ 11 ∷ 10 ∷ 0 ∷ 0 ∷ 11 ∷ 10 ∷ 0 ∷ 0 ∷ [])
    ++ (255 ∷ 255 ∷ 255 ∷ 255 ∷ 2 ∷ 1 ∷ 0 ∷ 0 ∷ 15 ∷ 14 ∷ 2 ∷ 0 ∷ []))
    ∷ example (message 3 1 2 255 3 66051 263430 460809 (minus 65807) (pos 131844) 1284 30)
    ((3 ∷ 1 ∷ 0 ∷ 94 ∷ 2 ∷ 255 ∷ 0 ∷ 3 ∷ [])
    ++ (3 ∷ 2 ∷ 1 ∷ 0 ∷ 6 ∷ 5 ∷ 4 ∷ 0 ∷ 9 ∷ 8 ∷ 7 ∷ 0 ∷ [])
    ++ (241 ∷ 254 ∷ 254 ∷ 255 ∷ 4 ∷ 3 ∷ 2 ∷ 0 ∷ 4 ∷ 5 ∷ 30 ∷ 0 ∷ []))
    ∷ example (message 3 2 1 3 0 4 5 6 (minus 7) (minus 8) 9 30)
    ((3 ∷ 2 ∷ 2 ∷ 94 ∷ 1 ∷ 3 ∷ 1 ∷ 0 ∷ [])
    ++ (4 ∷ 0 ∷ 0 ∷ 0 ∷ 5 ∷ 0 ∷ 0 ∷ 0 ∷ 6 ∷ 0 ∷ 0 ∷ 0 ∷ [])
    ++ (249 ∷ 255 ∷ 255 ∷ 255 ∷ 248 ∷ 255 ∷ 255 ∷ 255 ∷ 9 ∷ 0 ∷ 30 ∷ 0 ∷ []))
    ∷ example (message 3 3 2 1 3 8000001 7000002 9000003 (pos 500004) (minus 400005) 3006 180)
    ((3 ∷ 3 ∷ 3 ∷ 94 ∷ 2 ∷ 1 ∷ 1 ∷ 3 ∷ [])
    ++ (1 ∷ 18 ∷ 122 ∷ 0 ∷ 194 ∷ 207 ∷ 106 ∷ 0 ∷ 67 ∷ 84 ∷ 137 ∷ 0 ∷ [])
    ++ (36 ∷ 161 ∷ 7 ∷ 0 ∷ 123 ∷ 229 ∷ 249 ∷ 255 ∷ 190 ∷ 11 ∷ 180 ∷ 0 ∷ []))
    ∷ []

-- the New of a warning among them
abbrev pub new_of : ℕ → List ℕ
new_of warning = get_or (map (λ e. e.bytes) eleven) (warning - 1) []

-- the refusals of the New of each warning with each byte at place p
abbrev pub by_warning_and_byte : ℕ → List (List ℕ)
by_warning_and_byte p = map (λ w. refusals_of_byte message_read (new_of w) p) (1 ∷ 2 ∷ 3 ∷ 4 ∷ [])

-- 0 for these bytes, 14 for every other
unfoldable pub pass_only : List ℕ → List ℕ
pass_only bytes = map (λ b. cond (foldl ◌||◌ false (map (eqb b) bytes)) 0 14) every_byte

-- the refusals of a record of this kind with reference 1000, for detections long before it, one before it, at it and one after it
abbrev pub refusals_of_detection : ℕ → List ℕ
refusals_of_detection kind =
    refusals_at message_read (splice (new_of 1) 0 (kind ∷ [])) 12 (map (λ n. bytes_of 4 n ++ bytes_of 4 1000) (0 ∷ 999 ∷ 1000 ∷ 1001 ∷ []))

-- a record of a number that is no warning, with the zeros that its row has for sub cause and cause, and its validity
abbrev pub no_warning : ℕ → List ℕ
no_warning n = splice (splice (new_of 1) 1 (n ∷ 0 ∷ 0 ∷ [])) 30 (0 ∷ 0 ∷ [])

-- a message of this quality that 14 lets pass but for it
abbrev pub of_quality : ℕ → Message
of_quality quality = message 1 1 quality 0 0 1 2 2 (pos 3) (pos 4) 5 30

pub record MessageExamples : Type 0 where
  -- "32 bytes, little-endian"
  pub written : map (λ e. encode e.fields) eleven ≡ map (λ e. e.bytes) eleven
  pub read_back : map (λ e. message_read e.bytes) eleven ≡ map (λ e. accepted e.fields) eleven
  -- what 14 would turn down is laid out in the same way
  pub any_fields : encode (message 250 251 252 253 254 67305985 134678021 202050057 (pos 269422093) (minus 1810689519) 5653 6167)
      ≡ (250 ∷ 251 ∷ 0 ∷ 0 ∷ 252 ∷ 253 ∷ 0 ∷ 254 ∷ [])
      ++ (1 ∷ 2 ∷ 3 ∷ 4 ∷ 5 ∷ 6 ∷ 7 ∷ 8 ∷ 9 ∷ 10 ∷ 11 ∷ 12 ∷ [])
      ++ (13 ∷ 14 ∷ 15 ∷ 16 ∷ 17 ∷ 18 ∷ 19 ∷ 148 ∷ 21 ∷ 22 ∷ 23 ∷ 24 ∷ [])
  -- "13 message not 32 bytes.", before 14
  pub length : refusals message_read ([] ∷ take 31 (new_of 1) ∷ (new_of 1 ++ (0 ∷ [])) ∷ []) ≡ 13 ∷ 13 ∷ 13 ∷ []
  -- "0 kind (1 New, 2 Update, 3 Cancel); 1 warning"; of 4, "never a Cancel" (CR 1)
  pub kind : by_warning_and_byte 0 ≡ pass_only (1 ∷ 2 ∷ 3 ∷ []) ∷ pass_only (1 ∷ 2 ∷ 3 ∷ []) ∷ pass_only (1 ∷ 2 ∷ 3 ∷ []) ∷ pass_only (1 ∷ 2 ∷ []) ∷ []
  pub warning : refusals message_read (no_warning 0 ∷ no_warning 5 ∷ []) ≡ 14 ∷ 14 ∷ []
  -- "sub cause or validity not of its warning"; of 4, "sub cause 8, validity 2" (CR 1)
  pub subcause : by_warning_and_byte 2 ≡ pass_only (0 ∷ []) ∷ pass_only (2 ∷ []) ∷ pass_only (3 ∷ []) ∷ pass_only (8 ∷ []) ∷ []
  pub validity : by_warning_and_byte 30 ≡ pass_only (30 ∷ []) ∷ pass_only (30 ∷ 180 ∷ []) ∷ pass_only (180 ∷ []) ∷ pass_only (2 ∷ []) ∷ []
  pub validity_high : by_warning_and_byte 31 ≡ replicate 4 (pass_only (0 ∷ []))
  -- "3 cause 94"; of 4, "cause 99" (CR 1)
  pub cause : by_warning_and_byte 3 ≡ pass_only (94 ∷ []) ∷ pass_only (94 ∷ []) ∷ pass_only (94 ∷ []) ∷ pass_only (99 ∷ []) ∷ []
  -- the values of "Quality"; of 4, "quality is 1" (CR 1)
  pub quality : by_warning_and_byte 4 ≡ pass_only (1 ∷ 2 ∷ 3 ∷ []) ∷ pass_only (1 ∷ 2 ∷ 3 ∷ []) ∷ pass_only (1 ∷ 2 ∷ 3 ∷ []) ∷ pass_only (1 ∷ []) ∷ []
  -- the values of "roadType", "direction not of its roadType"
  pub road_type_0 : refusals_of_byte message_read (splice (new_of 1) 6 (0 ∷ [])) 5 ≡ pass_only (0 ∷ 2 ∷ 255 ∷ [])
  pub road_type_1 : refusals_of_byte message_read (splice (new_of 1) 6 (1 ∷ [])) 5 ≡ pass_only (1 ∷ 3 ∷ [])
  pub direction : refusals_of_byte message_read (new_of 1) 6 ≡ pass_only (1 ∷ [])
  -- the values of "stationarySince"
  pub since : map (λ w. refusals_of_byte message_read (new_of w) 7) (1 ∷ 4 ∷ []) ≡ pass_only (0 ∷ 1 ∷ 2 ∷ 3 ∷ []) ∷ pass_only (0 ∷ 1 ∷ 2 ∷ 3 ∷ []) ∷ []
  -- "event not 1 to 10,000,000; reference over 9,999,999"
  pub event : refusals_at message_read (new_of 1) 8 (map (bytes_of 4) (0 ∷ 1 ∷ 10000000 ∷ 10000001 ∷ [])) ≡ 14 ∷ 0 ∷ 0 ∷ 14 ∷ []
  pub reference : refusals_at message_read (new_of 1) 12 (map (λ n. bytes_of 4 n ++ bytes_of 4 n) (0 ∷ 9999999 ∷ 10000000 ∷ [])) ≡ 0 ∷ 0 ∷ 14 ∷ []
  -- "detection above reference, or below it unless Cancel"
  pub detection : map refusals_of_detection (1 ∷ 2 ∷ 3 ∷ []) ≡ (14 ∷ 14 ∷ 0 ∷ 14 ∷ []) ∷ (14 ∷ 14 ∷ 0 ∷ 14 ∷ []) ∷ (0 ∷ 0 ∷ 0 ∷ 14 ∷ []) ∷ []
  -- "or in 7 and 8 for its place"
  pub east : refusals_at message_read (new_of 1) 20 coordinates ≡ 0 ∷ 0 ∷ 14 ∷ 14 ∷ 0 ∷ 0 ∷ 14 ∷ 14 ∷ []
  pub north : refusals_at message_read (new_of 1) 24 coordinates ≡ 0 ∷ 0 ∷ 14 ∷ 14 ∷ 0 ∷ 0 ∷ 14 ∷ 14 ∷ []
  pub heading : refusals_at message_read (new_of 1) 28 (map (bytes_of 2) (0 ∷ 3601 ∷ 3602 ∷ 65535 ∷ [])) ≡ 0 ∷ 0 ∷ 14 ∷ 14 ∷ []
  -- "the writer (32 bytes of output) by 2, 14", for a message of quality 3 and one of quality 4
  pub writer : map (write_fault (of_quality 3)) (31 ∷ 32 ∷ 33 ∷ []) ≡ 2 ∷ 0 ∷ 0 ∷ []
  pub writer_order : map (write_fault (of_quality 4)) (31 ∷ 32 ∷ []) ≡ 2 ∷ 14 ∷ []
  -- what the reader's answer stands for
  pub answer : map answered (Err MessageFields ∷ Ok (message_of (new_of 1)) ∷ []) ≡ refused 14 ∷ accepted (message_of (new_of 1)) ∷ []

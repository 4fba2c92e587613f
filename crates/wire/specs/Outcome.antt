-- A call's outcome: accepted with a value, or refused with a number, "the number of its first failing check".
-- Assumes nothing.
use Rattle.std.specs.Prelude.{ℕ, Bool, cond, List, [], ◌∷◌, eqb, Result, Ok, Err}
use Rattle.wire.specs.declared.Refusal.{Refusal}
use Rattle.wire.specs.declared.Refusal.TheVariants.{InputLength, OutputRoom, Speed, Gear, Happenings, Road, Heading, Position, Count, NotZero, CheckSum, FirstTick, MessageLength, MessageFields, EngineState, TicksUsedUp, TickOutOfTurn, TickBelowLast, NotNewer, NinthSender, OnlySample, ReferenceBelow, Width}

-- a check: its number in document 01, and whether it fails
pub record Check : Type 0 where
  pub number : ℕ
  pub fails : Bool

abbrev pub check : ℕ → Bool → Check
check n b = record { number = n; fails = b }

-- the number of the first failing check, 0 where none fails
unfoldable pub first_fault : List Check → ℕ
first_fault [] = 0
first_fault (c ∷ cs) = cond c.fails c.number (first_fault cs)

pub data Outcome (A : Type 0) : Type 0 where
  accepted : A → Outcome A
  refused : ℕ → Outcome A

-- "A call is accepted exactly when none of its checks fails."
unfoldable pub outcome : {A : Type 0} → ℕ → A → Outcome A
outcome fault value = cond (eqb fault 0) (accepted value) (refused fault)

-- the number of a refusal, "What is turned down"; 31 to 33 are the receiver's (CR 4), 34 that of striking a sample out (CR 6), 35 and 36 those of the busiest stretch (CR 7)
abbrev pub number_of : Refusal → ℕ
number_of InputLength = 1
number_of OutputRoom = 2
number_of Speed = 3
number_of Gear = 4
number_of Happenings = 5
number_of Road = 6
number_of Heading = 7
number_of Position = 8
number_of Count = 9
number_of NotZero = 10
number_of CheckSum = 11
number_of FirstTick = 12
number_of MessageLength = 13
number_of MessageFields = 14
number_of EngineState = 21
number_of TicksUsedUp = 22
number_of TickOutOfTurn = 23
number_of TickBelowLast = 31
number_of NotNewer = 32
number_of NinthSender = 33
number_of OnlySample = 34
number_of ReferenceBelow = 35
number_of Width = 36

-- what a call answers that writes records: how many it wrote, or why it wrote none
abbrev pub Answer : Type 0
Answer = Result ℕ Refusal

-- the value or the refusal number that a result stands for
unfoldable pub answered : {A : Type 0} → Result A Refusal → Outcome A
answered (Ok x) = accepted x
answered (Err r) = refused (number_of r)

-- the number of the check that refuses, 0 where none does
abbrev pub fault_of : {A : Type 0} → Result A Refusal → ℕ
fault_of (Ok x) = 0
fault_of (Err r) = number_of r

-- the count of an answer, 0 for a refusal
unfoldable pub given_count : Answer → ℕ
given_count (Ok n) = n
given_count (Err r) = 0

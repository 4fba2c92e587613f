-- What document 01 and the requests after it write out, of the definitions that the promises cite: its tables, bounds and orders, its sentences in words, and its stops.
-- `Engine::fresh` ensures it, with demand 3, so that no part of it can go unseen. Assumes nothing.
use Rattle.std.specs.Prelude.{◌≡◌}
use Rattle.warnings.specs.Examples.{WarningExamples}
use Rattle.sample.specs.Examples.{SampleExamples}
use Rattle.filter.specs.Examples.{FilterExamples, FilterLaws}
use Rattle.message.specs.Examples.{MessageExamples}
use Rattle.block.specs.Examples.{BlockExamples}
use Rattle.block.specs.LastSampleExamples.{LastSampleExamples}
use Rattle.block.specs.LastSampleInWords.{LastSampleInWords}
use Rattle.history.specs.State as State
use Rattle.history.specs.InWords.{InWords}
use Rattle.history.specs.BenchStops.{BenchStops}
use Rattle.history.specs.FurtherStops.{FurtherStops}
use Rattle.history.specs.DriverStops.{DriverStops}
use Rattle.history.specs.LossStops.{LossStops}
use Rattle.history.specs.CarriedStops.{CarriedStops}
use Rattle.history.specs.RangeExamples.{RangeExamples}
use Rattle.calls.specs.OrderOfChecks.{OrderOfChecks}
use Rattle.calls.specs.Demand.{Demand}
use Rattle.engine.specs.declared.Engine.{Engine}

pub record Document : Type 0 where
  -- "The sample"
  pub sample : SampleExamples
  -- "Standing still"
  pub filter : FilterExamples
  pub filter_laws : FilterLaws
  -- "The history reading"
  pub in_words : InWords
  -- "The message"
  pub warnings : WarningExamples
  pub message : MessageExamples
  -- "The block and its calls"
  pub block : BlockExamples
  -- and its last sample, after CR 6
  pub last_sample : LastSampleExamples
  pub last_sample_in_words : LastSampleInWords
  -- "What is turned down"
  pub order : OrderOfChecks
  pub ranges : RangeExamples
  -- "Bench stops"
  pub bench_stops : BenchStops
  -- and stops for what these leave open
  pub further_stops : FurtherStops
  -- and for warning 4, after CR 1
  pub driver_stops : DriverStops
  -- and for missing readings, after CR 2
  pub loss_stops : LossStops
  -- and for a vehicle that is carried, after CR 5
  pub carried_stops : CarriedStops

-- the promise of `Engine::fresh`: the state that has taken no sample, demand 3 for every list of calls on it, and that the definitions
-- by which all this is said give what the documents write out
pub record FreshEngine (e : Engine) : Type 0 where
  pub state : e.state ≡ State.fresh
  pub demand : Demand e.state
  pub document : Document

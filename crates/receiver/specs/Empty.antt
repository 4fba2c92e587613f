-- What `Receiver::empty` promises: a receiver that holds nothing, the claim about every list of calls on it, and what holds the definitions to the document.
-- Assumes nothing.
use Rattle.std.specs.Prelude.{◌≡◌, []}
use Rattle.receiver.specs.declared.Receiver.{Receiver}
use Rattle.receiver.specs.Calls.{holding}
use Rattle.receiver.specs.Demand.{Demand}
use Rattle.receiver.specs.InWords.{InWords}
use Rattle.receiver.specs.Stops.{ReceiverStops}

pub record EmptyReceiver (r : Receiver) : Type 0 where
  pub receiver : r ≡ holding 0 []
  pub demand : Demand r
  pub in_words : InWords
  pub stops : ReceiverStops

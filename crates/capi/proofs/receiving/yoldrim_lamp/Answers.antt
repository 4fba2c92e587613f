use Rattle.std.proofs.Common.{refl}
use Rattle.capi.specs.ReceiverImaged.{lamp_number, lamp_seconds}
use Rattle.capi.proofs.receiving.yoldrim_lamp.Goals as goal

pub returns-in-Unknown : goal.returns-in-Unknown
unfolding lamp_number lamp_seconds
returns-in-Unknown c = rw (← c.in-Unknown.ensures.lamp) (refl, refl)

pub returns-in-Standing : goal.returns-in-Standing
unfolding lamp_number lamp_seconds
returns-in-Standing c = rw (← c.in-Standing.ensures.lamp) (refl, refl)

pub returns-in-Seconds : goal.returns-in-Seconds
unfolding lamp_number lamp_seconds
returns-in-Seconds c = rw (← c.in-Seconds.ensures.lamp) (refl, refl)

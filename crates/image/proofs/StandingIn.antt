-- The standing warning's message is what its record reads as.
-- Assumes nothing.
use Rattle.std.proofs.Common.{◌≡◌, Result, Ok, Err, refl}
use Rattle.std.specs.Result.{result_ok}
use Rattle.wire.specs.declared.Refusal.{Refusal}
use Rattle.wire.specs.Outcome.{answered}
use Rattle.message.specs.declared.Message.{Message}
use Rattle.image.specs.Image.{notice_of}

pub notice_of_read : (r : Result Message Refusal) → notice_of (answered r) ≡ result_ok r
unfolding notice_of answered
notice_of_read (Ok m) = refl
notice_of_read (Err e) = refl

use mathlib.Core.Path.{sym}
use Rattle.lamp.proofs.LampAnswers.{unknown_answers, standing_answers, made_in_range, seconds_answers}
use Rattle.lamp.proofs.Approach.lamp.Goals as goal

pub returns-then-not-in_range : goal.returns-then-not-in_range
returns-then-not-in_range c = unknown_answers _ (sym c.if-not-in_range.ensures)

pub returns-then-self : goal.returns-then-self
returns-then-self c = standing_answers _ (sym c.if-not-in_range.ensures) c.if-self.true

pub seconds-requires : goal.seconds-requires
seconds-requires c = made_in_range _ (sym c.if-not-in_range.ensures) c.if-self.false

pub returns : goal.returns
returns c = seconds_answers _ (sym c.if-not-in_range.ensures) c.if-self.false _ c.seconds.ensures

use mathlib.Core.Path.{sym}
use Rattle.filter.specs.Filter.{with_reading}
use Rattle.filter.specs.declared.Filter.TheVariants.{Empty, Running}
use Rattle.filter.proofs.NextLaws.{next_missing, next_reading}
use Rattle.filter.proofs.Between.{moved}
use Rattle.filter.proofs.OwnedFilter.{owned_f32}
use Rattle.filter.proofs.Filter.next.Goals as goal

pub returns-then-reading-eq-NO_READING : goal.returns-then-reading-eq-NO_READING
returns-then-reading-eq-NO_READING c = moved _ _ _ (owned_f32 _ _ c.well_formed.0) (simp (c.if-reading-eq-NO_READING.true, next_missing))

pub returns-in-Empty : goal.returns-in-Empty
unfolding with_reading
returns-in-Empty c = moved _ _ _ (owned_f32 _ _ c.well_formed.0)
    (simp (c.in-Empty.is, c.from.ensures) (sym (next_reading Empty _ c.if-reading-eq-NO_READING.false)))

pub returns-in-Running : goal.returns-in-Running
unfolding with_reading
returns-in-Running c = moved _ _ _ (owned_f32 _ _ c.well_formed.0)
    (simp (c.in-Running.is, c.blended.ensures) (sym (next_reading (Running c.in-Running.f) _ c.if-reading-eq-NO_READING.false)))

use Rattle.filter.specs.Filter.{in_range}
use Rattle.filter.proofs.Filter.in_range.Goals as goal

-- `Filter::in_range` meets its contract: each arm of the match is a clause of `in_range`. Assumes nothing.

pub returns-in-Empty : goal.returns-in-Empty
unfolding in_range
returns-in-Empty c = simp c.in-Empty.is

pub returns-in-Running : goal.returns-in-Running
unfolding in_range
returns-in-Running c = simp c.in-Running.is

use Rattle.filter.specs.Filter.{is_at_most_8}
use Rattle.filter.proofs.Filter.at_most_8.Goals as goal

-- `Filter::at_most_8` meets its contract: each arm of the match is a clause of `is_at_most_8`. Assumes nothing.

pub returns-in-Empty : goal.returns-in-Empty
unfolding is_at_most_8
returns-in-Empty c = simp c.in-Empty.is

pub returns-in-Running : goal.returns-in-Running
unfolding is_at_most_8
returns-in-Running c = simp c.in-Running.is

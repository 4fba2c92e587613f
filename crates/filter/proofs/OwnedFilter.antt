-- Every filter that a program holds has an f32's value: so `in_range` alone tells a program that its filter is `Valid`.
-- Assumes nothing.
use mathlib.Core.Path.{sym, subst}
use mathlib.Core.List.{List}
use lib.Dec.{T}
use mir.Val.{Val}
use denote.Laws.{Is}
use denote.Enum.Declared.{row}
use denote.Enum.Laws.{owed}
use Rattle.filter.specs.Filter.{is_f32}
use Rattle.filter.specs.declared.Filter.{Filter}
use Rattle.filter.specs.declared.Filter.TheVariants.{Empty, Running}
use Rattle.filter.specs.contracts.Filter.{the_type}
use Rattle.filter.proofs.Filter.TheLaws.{the_laws}

-- what owning a filter tells; of a parameter s of a function it is in the record `c.good` of its entry
pub owned_f32 : (s : Filter) (vs : List Val) → Is (row the_type) s vs → T (is_f32 s)
unfolding is_f32
owned_f32 Empty vs p = tt
owned_f32 (Running f) vs p = subst T (sym (owed the_type the_laws (Running f) vs p).0.1) tt

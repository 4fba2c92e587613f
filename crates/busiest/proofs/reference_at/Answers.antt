use Rattle.std.proofs.Common.{[]}
use Rattle.busiest.proofs.References.{reference_there, reference_beyond}
use Rattle.busiest.proofs.reference_at.Goals as goal

pub returns-in-Some : goal.returns-in-Some
returns-in-Some c = let there = c.in-Some.ensures.lookup.3 in reference_there c.args.records.now _ _ _ there.0 c.fields.ensures (there.1 [])

pub returns-in-None : goal.returns-in-None
returns-in-None c = reference_beyond c.args.records.now _ c.in-None.ensures.lookup.3

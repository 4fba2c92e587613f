use Rattle.busiest.specs.Busiest.{references_of}
use Rattle.busiest.proofs.Growing.{Turning}
use Rattle.busiest.proofs.busiest_in.Given as goal

abbrev pub invariant-loop-record : goal.invariant-loop-record
invariant-loop-record l = Turning l.width (references_of l.records) l.record-index l.messages l.place l.tick l.first

use Rattle.std.proofs.Common.{◌≡◌, drop}
use Rattle.wire.specs.Outcome.{first_fault}
use Rattle.busiest.specs.Busiest.{record_checks}
use Rattle.busiest.proofs.RecordsInTurn.{ahead}
use Rattle.busiest.proofs.check_records.Given as goal

abbrev pub invariant-loop-record : goal.invariant-loop-record
invariant-loop-record l = first_fault (record_checks l.records) ≡ first_fault (ahead l.falls l.before (drop l.record-index l.records))

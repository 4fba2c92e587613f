use native.Mathlib.Omega.{arith}
use Rattle.calls.proofs.Records.{notice_few}
use Rattle.history.specs.Rules.{given_by}
use Rattle.engine.proofs.Written.{more_written}
use Rattle.engine.proofs.writing.put_decision.Goals as goal

pub returns : goal.returns
unfolding given_by
returns c = more_written c.put_notice-given.ensures (omega (arith, notice_few c.args.decision.cancel)) c.put_notice.ensures

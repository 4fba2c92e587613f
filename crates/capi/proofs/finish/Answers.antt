use Rattle.std.proofs.Common.{sym, ◌∙◌}
use Rattle.capi.proofs.Numbers.{again}
use Rattle.capi.proofs.ImageCalls.{kept_accepted, kept_refused}
use Rattle.capi.proofs.finish.Goals.{then-is_ok, else-is_ok}
use Rattle.capi.proofs.finish.Goals as goal

pub returns : goal.returns
returns c = (
  again _ _ (record { sfits = c.number.type_inv }) c.number.ensures,
  elim c.if-is_ok.branch [
    | then-is_ok w ↦ kept_accepted c.args.answer _ _ _ (sym c.is_ok.ensures.value ∙ w.if-is_ok.true) (w.memory-is ∙ w.copy_at.ensures)
    | else-is_ok w ↦ kept_refused c.args.answer _ _ _ (sym c.is_ok.ensures.value ∙ w.if-is_ok.false) w.memory-is
  ],
)

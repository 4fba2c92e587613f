use Rattle.std.proofs.Common.{rules, get_or, ◌+◌, ◌∙◌, ap, arith}
use Rattle.wire.proofs.FromFn.{all_given, bytes_given}
use Rattle.wire.specs.Words.{bytes_at}
use Rattle.wire.proofs.bytes_at.Goals as goal

pub returns : goal.returns
returns g c = let a = c.args in
    all_given _ (λ k. get_or a.bytes.now (a.at + k) 0) _ (λ k y q d. search rules) _ _ c.from_fn.ensures.items
    ∙ bytes_given g.row.N a.bytes.now a.at 0
    ∙ ap (bytes_at g.row.N a.bytes.now) (omega arith)

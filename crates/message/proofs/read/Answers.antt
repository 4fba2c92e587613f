use Rattle.std.proofs.Common.{arith}
use borrow.Author.Tests.{eq-eqb, ne_eqb}
use Rattle.wire.specs.Outcome.{first_fault, outcome, answered}
use Rattle.message.specs.Message.{message_read}
use Rattle.message.proofs.RoundTrip.{found_promise}
use Rattle.message.proofs.read.Goals as goal

pub returns-in_default : goal.returns-in_default
unfolding answered message_read first_fault outcome
returns-in_default c = found_promise _ _ (λ i h. omega (arith, c.type_inv.bytes i)) (simp (ne_eqb _ _ c.in_default.ensures.cases))

pub returns-then-is_derived-is_admitted : goal.returns-then-is_derived-is_admitted
unfolding answered message_read first_fault outcome
returns-then-is_derived-is_admitted c = let r = c.in-Some.ensures.cases in
    found_promise _ _ (λ i h. omega (arith, c.type_inv.bytes i))
    (simp (eq-eqb _ _ r.long, ← r.same, ← c.is_derived.ensures, ← c.fields-m.ensures, ← c.is_admitted.ensures, c.if-is_derived-is_admitted.true))

pub returns-else-is_derived-is_admitted : goal.returns-else-is_derived-is_admitted
unfolding answered message_read first_fault outcome
returns-else-is_derived-is_admitted c = let r = c.in-Some.ensures.cases in
    found_promise _ _ (λ i h. omega (arith, c.type_inv.bytes i))
    (simp (eq-eqb _ _ r.long, ← r.same, ← c.is_derived.ensures, ← c.fields-m.ensures, ← c.is_admitted.ensures, c.if-is_derived-is_admitted.false))

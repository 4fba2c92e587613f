use Rattle.std.proofs.Common.{◌+◌, rules}
use Rattle.wire.proofs.FromFn.{all_given}
use Rattle.image.specs.Image.{number_count, number_in, numbers_in, runs_in}
use Rattle.image.proofs.decoding.runs_in.Goals as goal

pub returns : goal.returns
unfolding runs_in numbers_in
returns c = all_given _ (λ i. number_in (number_count + i) c.args.image.now) _ (λ i y q d. search rules) _ _ c.from_fn.ensures.items

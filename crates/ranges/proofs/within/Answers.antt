use Rattle.std.proofs.Common.{◌≡◌, ℕ, List, [], ◌∷◌, leb, refl, rules, tests, ◌∙◌}
use Rattle.std.specs.List.{list_all}
use Rattle.std.proofs.lemmas.Iterator.{YieldsList-from_slice}
use Rattle.std.proofs.lemmas.Iterator.Search.{all_from_yields_List}
use Rattle.history.specs.Ranges.{within}
use Rattle.ranges.proofs.within.Goals as goal

-- the library's test of each number is `within`
list_all_within : (n : ℕ) (ks : List ℕ) → list_all (λ k. leb k n) ks ≡ within n ks
unfolding within
list_all_within n [] = refl
list_all_within n (k ∷ ks) = rw (list_all_within n ks)

pub returns : goal.returns
returns c =
    let n = c.args.n in
    let counts = c.args.counts.now in
    all_from_yields_List (λ k. leb k n) _ _ _ c.all.ensures.ran (YieldsList-from_slice counts cc) (λ x b q k. search (rules, tests))
    ∙ list_all_within n counts

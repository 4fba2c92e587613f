use Rattle.std.proofs.Common.{◌≡◌, ◌∙◌, refl, rules}
use Rattle.image.specs.Image.{flag, is_running, flags_of}
use Rattle.image.proofs.Mapped.{all_mapped}
use Rattle.image.proofs.encoding.flags_of.Goals as goal
use Rattle.image.proofs.encoding.flags_of.Goals.{in-Running, in_default}

pub returns : goal.returns
unfolding flags_of is_running
returns c =
    let running : c.match-matches.matches ≡ is_running c.args.s.filter =
    elim c.match-matches.branch [ in-Running w ↦ rw (w.in-Running.is, w.matches-is) refl | in_default w ↦ rw (w.in_default.is, w.matches-is) refl ] in
    all_mapped _ flag _ (λ x y q d. search rules) _ _ _ refl c.map.ensures.items ∙ rw (running, c.is_some.ensures) refl

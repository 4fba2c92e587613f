use Rattle.std.proofs.Common.{ℕ, List, length, refl, ap, ◌∙◌, rules}
use Rattle.std.specs.List.{flat_map}
use Rattle.std.specs.Int.{w32, to_le_bytes}
use Rattle.wire.specs.Memory.{splice}
use Rattle.image.specs.Image.{words_place, runs_place, words_of}
use Rattle.image.proofs.LoadOfSave.{saved_promise}
use Rattle.image.proofs.Mapped.{all_mapped}
use Rattle.image.proofs.OwnedState.{owned_filter, owned_runs}
use Rattle.image.proofs.SavedParts.{parts_saved}
use Rattle.image.proofs.WordBytes.{flattened}
use Rattle.image.proofs.save.Goals as goal

pub returns : goal.returns
unfolding words_of
returns c =
    let size = owned_runs c.args.state _ c.well_formed.0 in
    let numbers = all_mapped _ (to_le_bytes w32) _ (λ x y q d. search rules) _ _ _ (ap length c.numbers_of.ensures) c.map-numbers.ensures.items in
    let runs = all_mapped _ (to_le_bytes w32) _ (λ x y q d. search rules) _ _ _ size c.map-runs.ensures.items in
    let number_bytes = c.as_flattened.ensures.value ∙ ap (flat_map (λ (b : List ℕ). b)) numbers ∙ flattened _ in
    let run_bytes = c.as_flattened-2.ensures.value ∙ ap (flat_map (λ (b : List ℕ). b)) runs ∙ flattened _ in
    saved_promise c.args.state _ size (owned_filter c.args.state _ c.well_formed.0)
    (parts_saved _ _ _ _ _ _ _ _ _ refl refl size c.flags_of-flags.ensures c.standing_bytes-record.ensures c.numbers_of.ensures
    c.copy_at.ensures c.copy_at-2.ensures (c.copy_at-3.ensures ∙ ap (splice _ words_place) number_bytes) (c.copy_at-4.ensures ∙ ap (splice _ runs_place) run_bytes))

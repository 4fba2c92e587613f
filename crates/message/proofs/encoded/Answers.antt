use Rattle.std.proofs.Common.{◌≡◌, ℕ, List, [], ◌∷◌, ◌∙◌, ap, refl, rules, replicate, of_z}
use Rattle.std.specs.Int.{w32}
use mir.Val.{SFits}
use Rattle.wire.specs.Words.{bytes_of}
use Rattle.wire.specs.Memory.{splice}
use Rattle.wire.proofs.TwosComplement.{signed_again}
use Rattle.warnings.specs.Warnings.{row_of, direction_of}
use Rattle.warnings.specs.declared.Row.{Row}
use Rattle.message.specs.Message.{encode}
use Rattle.message.specs.declared.Message.{Message}
use Rattle.message.proofs.encoded.Goals as goal

-- the bytes, each part copied to its place
parts_copied : (m : Message) (row : Row) (w : ℕ) (e d f x y h v first a b i j k l n o : List ℕ)
    → row ≡ row_of m.warning → w ≡ direction_of m.roadtype
    → first ≡ m.kind ∷ m.warning ∷ row.subcause ∷ row.cause ∷ m.quality ∷ m.roadtype ∷ w ∷ m.since ∷ []
    → e ≡ bytes_of 4 m.event → d ≡ bytes_of 4 m.detection → f ≡ bytes_of 4 m.reference
    → x ≡ bytes_of 4 (of_z w32 m.position.east) → y ≡ bytes_of 4 (of_z w32 m.position.north)
    → h ≡ bytes_of 2 m.heading → v ≡ bytes_of 2 m.validity
    → a ≡ splice (replicate 32 0) 0 first → b ≡ splice a 8 e → i ≡ splice b 12 d → j ≡ splice i 16 f → k ≡ splice j 20 x → l ≡ splice k 24 y
    → n ≡ splice l 28 h → o ≡ splice n 30 v → o ≡ encode m
unfolding encode bytes_of splice
parts_copied m row w e d f x y h v first a b i j k l n o q r s e1 e2 e3 e4 e5 e6 e7 p1 p2 p3 p4 p5 p6 p7 p8 =
    rw (p8, p7, p6, p5, p4, p3, p2, p1, e1, e2, e3, e4, e5, e6, e7, s, q, r) refl

pub returns : goal.returns
returns c = let m = c.args.m in
    let east : SFits w32 m.position.east = search rules in
    let north : SFits w32 m.position.north = search rules in
    parts_copied m _ _ _ _ _ _ _ _ _ _ _ _ _ _ _ _ _ _
    c.row_of-row.ensures c.direction_of-direction.ensures refl
    c.to_bytes.ensures c.to_bytes-2.ensures c.to_bytes-3.ensures
    (c.to_bytes-4.ensures ∙ ap (λ z. bytes_of 4 (of_z w32 z)) (signed_again m.position.east east))
    (c.to_bytes-5.ensures ∙ ap (λ z. bytes_of 4 (of_z w32 z)) (signed_again m.position.north north))
    c.to_bytes-6.ensures c.to_bytes-7.ensures
    c.copy_at.ensures c.copy_at-2.ensures c.copy_at-3.ensures c.copy_at-4.ensures c.copy_at-5.ensures c.copy_at-6.ensures c.copy_at-7.ensures c.copy_at-8.ensures

use mathlib.Core.Path.{◌≡◌, ◌∙◌}
use mathlib.Core.List.{List}
use Prim.Native.Nat.{ℕ}
use lib.IntN.{ℤ}
use lib.ListN.{get_or}
use mir.Syntax.{w32}
use mir.Val.{to_z}
use Rattle.wire.specs.Words.{word}
use Rattle.wire.proofs.TwosComplement.{signed_again}
use Rattle.message.specs.Message.{message_of}
use Rattle.message.specs.declared.Message.{Message}
use Rattle.message.proofs.fields.Goals as goal

-- the fields, each from what a call gave
fields_made : (s : List ℕ) (kind warning quality roadtype since event detection reference heading validity : ℕ) (east north : ℤ)
    → kind ≡ get_or s 0 0 → warning ≡ get_or s 1 0 → quality ≡ get_or s 4 0 → roadtype ≡ get_or s 5 0 → since ≡ get_or s 7 0
    → event ≡ word 4 s 8 → detection ≡ word 4 s 12 → reference ≡ word 4 s 16
    → east ≡ to_z w32 (word 4 s 20) → north ≡ to_z w32 (word 4 s 24)
    → heading ≡ word 2 s 28 → validity ≡ word 2 s 30
    → ◌≡◌ {A = Message} (record {
      kind = kind;
      warning = warning;
      quality = quality;
      roadtype = roadtype;
      since = since;
      event = event;
      detection = detection;
      reference = reference;
      position = record { east = east; north = north };
      heading = heading;
      validity = validity;
    }) (message_of s)
unfolding message_of
fields_made s kind warning quality roadtype since event detection reference heading validity east north a b d e f g h i k m n o = simp (a, b, d, e, f, g, h, i, k, m, n, o)

pub returns : goal.returns
returns c = fields_made _ _ _ _ _ _ _ _ _ _ _ _ _
    c.byte_at.ensures
    c.byte_at-2.ensures
    c.byte_at-3.ensures
    c.byte_at-4.ensures
    c.byte_at-5.ensures
    c.word_at.ensures
    c.word_at-2.ensures
    c.word_at-3.ensures
    (signed_again c.word_at-4.result (record { sfits = c.word_at-4.type_inv }) ∙ c.word_at-4.ensures)
    (signed_again c.word_at-5.result (record { sfits = c.word_at-5.type_inv }) ∙ c.word_at-5.ensures)
    c.word_at-6.ensures
    c.word_at-7.ensures

-- What the writer makes reads back as the same fields, and what the reader accepts is byte for byte what the writer makes.
-- Assumes nothing.
use mathlib.Core.Path.{◌≡◌, refl, sym, ap, ◌∙◌}
use mathlib.Core.Bool.{true, false, not, ◌&&◌}
use mathlib.Core.List.{List, [], ◌∷◌, ◌++◌}
use Prim.Native.Nat.{ℕ, suc, ◌^◌, ◌<◌}
use native.Mathlib.Omega.{arith}
use borrow.Author.Tests.{eq-eqb, eqb-true, not-false}
use lib.Dec.{T, eqb, eqb→eq, nltb→le}
use lib.IntN.{ℤ, pos, negsuc}
use lib.ListN.{length, get_or, take}
use mir.Syntax.{w32}
use mir.Val.{to_z, of_z, SFits}
use mir.Facts.{of_z-to_z, Fits-of_z}
use Rattle.wire.specs.Words.{little, bytes_of, bytes_at, word, Bytes}
use Rattle.std.specs.Prelude.{Result}
use Rattle.wire.specs.declared.Refusal.{Refusal}
use Rattle.wire.specs.Memory.{memory}
use Rattle.wire.specs.Outcome.{first_fault, outcome, accepted, answered}
use Rattle.wire.specs.Tests.{all_hold}
use Rattle.wire.proofs.Words.{little-bytes_of, bytes_of-word, word_below, bytes_at_all}
use Rattle.wire.proofs.FirstFault.{accepted_clear, clear_first, memory_accepted}
use Rattle.wire.proofs.Splice.{overlay-take}
use Rattle.wire.proofs.Tests.{one_of, holds_at, holds_true, true_holds, neither}
use lib.Ieee.Fits.{and_l, and_r}
use Rattle.wire.proofs.TwosComplement.{signed_again}
use Rattle.warnings.specs.Warnings.{row_of, direction_of, validity_of}
use Rattle.warnings.proofs.Table.{validity_below}
use Rattle.sample.specs.Sample.{outside, beyond}
use Rattle.sample.specs.declared.Position.{Position}
use Rattle.message.specs.Message.{encode, message_of, derived_fit, admits, message_read, write_fault, Found, Written}
use Rattle.message.specs.declared.Message.{Message}
use Rattle.message.proofs.Admitted.{admitted}

-- ---- written, then read

-- a coordinate within the limits fits four bytes, and is what these are read as
inside_fits : (z : ℤ) → T (not (outside z)) → SFits w32 z
unfolding outside
inside_fits (pos n) t = let h = nltb→le 1000000 n t in record { sfits = omega arith }
inside_fits (negsuc n) t = let h = nltb→le 1000000 (suc n) t in record { sfits = omega arith }

coordinate_fits : (z : ℤ) → T (not (outside z)) → of_z w32 z < 256 ^ 4
coordinate_fits z t = (Fits-of_z {w = w32} {z = z} (inside_fits z t)).fits

module _ (p : Position) (t : T (not (beyond p))) where
  pub position_fits : (of_z w32 p.east < 256 ^ 4) × (of_z w32 p.north < 256 ^ 4)
  unfolding beyond
  position_fits = let n = neither (outside p.east) (outside p.north) t in (coordinate_fits p.east n.0, coordinate_fits p.north n.1)

  pub position_kept : ◌≡◌ {A = Position} (record { east = to_z w32 (of_z w32 p.east); north = to_z w32 (of_z w32 p.north) }) p
  unfolding beyond
  position_kept =
      let n = neither (outside p.east) (outside p.north) t in
      rw (signed_again p.east (inside_fits p.east n.0), signed_again p.north (inside_fits p.north n.1))

  position_again : ◌≡◌ {A = Position} (record { east = to_z w32 (little (bytes_of 4 (of_z w32 p.east))); north = to_z w32 (little (bytes_of 4 (of_z w32 p.north))) }) p
  position_again =
      rw (little-bytes_of 4 (of_z w32 p.east) position_fits.0, little-bytes_of 4 (of_z w32 p.north) position_fits.1) position_kept

-- the fields, each from what its bytes are read as
fields_made : (m : Message) (event detection reference heading validity : ℕ) (position : Position)
    → event ≡ m.event → detection ≡ m.detection → reference ≡ m.reference → position ≡ m.position
    → heading ≡ m.heading → validity ≡ m.validity
    → ◌≡◌ {A = Message} (record {
      kind = m.kind;
      warning = m.warning;
      quality = m.quality;
      roadtype = m.roadtype;
      since = m.since;
      event = event;
      detection = detection;
      reference = reference;
      position = position;
      heading = heading;
      validity = validity;
    }) m
fields_made m event detection reference heading validity position e d f p h v = simp (e, d, f, p, h, v)

-- the fields of a message that 14 lets pass are read from its bytes
pub fields_again : (m : Message) → T (admits m) → message_of (encode m) ≡ m
unfolding message_of encode bytes_at bytes_of
fields_again m t =
    let a = admitted m t in
    let on = validity_below m.warning true in
    let off = validity_below m.warning false in
    fields_made m _ _ _ _ _ _
    (little-bytes_of 4 m.event (omega (arith, a.event_high)))
    (little-bytes_of 4 m.detection (omega (arith, a.detection, a.reference)))
    (little-bytes_of 4 m.reference (omega (arith, a.reference)))
    (position_again m.position a.position)
    (little-bytes_of 2 m.heading (omega (arith, a.heading)))
    (little-bytes_of 2 m.validity (one_of (λ v. v < 256 ^ 2) m.validity (validity_of m.warning true) (validity_of m.warning false) (omega arith) (omega arith) a.validity))

derived_again : (m : Message) → derived_fit (encode m) ≡ true
unfolding derived_fit encode all_hold
derived_again m = simp (eq-eqb (row_of m.warning).subcause _ refl, eq-eqb (row_of m.warning).cause _ refl, eq-eqb (direction_of m.roadtype) _ refl)

pub encode-length : (m : Message) → length (encode m) ≡ 32
unfolding encode bytes_of
encode-length m = refl

-- what is written reads back the same: a message that 14 lets pass is read from its bytes
pub written_reads_back : (m : Message) → T (admits m) → message_read (encode m) ≡ accepted m
unfolding message_read first_fault outcome
written_reads_back m t =
    simp (eq-eqb _ _ (encode-length m), derived_again m, fields_again m t, holds_true (admits m) t)

-- ---- read, then written

four_bytes : (s : List ℕ) (p : ℕ) → Bytes s → bytes_of 4 (of_z w32 (to_z w32 (word 4 s p))) ≡ bytes_at 4 s p
four_bytes s p h = ap (bytes_of 4) (of_z-to_z {w = w32} {n = word 4 s p} (record { fits = word_below 4 s p h })) ∙ bytes_of-word 4 s p h

bytes_made : (s e d f x y h v : List ℕ) (a b w : ℕ) → length s ≡ 32
    → a ≡ get_or s 2 0 → b ≡ get_or s 3 0 → w ≡ get_or s 6 0
    → e ≡ bytes_at 4 s 8 → d ≡ bytes_at 4 s 12 → f ≡ bytes_at 4 s 16 → x ≡ bytes_at 4 s 20 → y ≡ bytes_at 4 s 24
    → h ≡ bytes_at 2 s 28 → v ≡ bytes_at 2 s 30
    → (get_or s 0 0 ∷ get_or s 1 0 ∷ a ∷ b ∷ get_or s 4 0 ∷ get_or s 5 0 ∷ w ∷ get_or s 7 0 ∷ []) ++ e ++ d ++ f ++ x ++ y ++ h ++ v ≡ s
unfolding bytes_at
bytes_made s e d f x y h v a b w l i j k m n o p q r t = rw (i, j, k, m, n, o, p, q, r, t) (bytes_at_all s 32 l)

bytes_again : (s : List ℕ) → Bytes s → length s ≡ 32 → T (derived_fit s) → encode (message_of s) ≡ s
unfolding encode message_of derived_fit
bytes_again s h l t =
    let at : (k : ℕ) → T (get_or (eqb (get_or s 2 0) (row_of (get_or s 1 0)).subcause ∷ eqb (get_or s 3 0) (row_of (get_or s 1 0)).cause ∷ eqb (get_or s 6 0) (direction_of (get_or s 5 0)) ∷ []) k true) = holds_at _ t in
    bytes_made s _ _ _ _ _ _ _ _ _ _ l
    (sym (eqb→eq _ _ (at 0))) (sym (eqb→eq _ _ (at 1))) (sym (eqb→eq _ _ (at 2)))
    (bytes_of-word 4 s 8 h) (bytes_of-word 4 s 12 h) (bytes_of-word 4 s 16 h)
    (four_bytes s 20 h) (four_bytes s 24 h) (bytes_of-word 2 s 28 h) (bytes_of-word 2 s 30 h)

-- what is accepted is byte for byte what the writer makes, and the writer takes it
pub accepted_is_written : (s : List ℕ) (m : Message) → Bytes s → message_read s ≡ accepted m → (encode m ≡ s) × T (admits m)
unfolding message_read
accepted_is_written s m h e =
    let c = accepted_clear _ (message_of s) m e in
    let k = clear_first _ _ (λ z. omega arith) c.0 in
    let l = clear_first _ _ (λ z. omega arith) k.1 in
    let size = eqb-true _ _ (not-false _ k.0) in
    let both = true_holds _ (not-false (derived_fit s && admits (message_of s)) l.0) in (
      rw (← c.1) (bytes_again s h size (and_l (derived_fit s) (admits (message_of s)) both)),
      rw (← c.1) (and_r (derived_fit s) (admits (message_of s)) both),
    )

-- ---- the promises of the reader and of the writer, from what they find and make

pub found_promise : (s : List ℕ) (r : Result Message Refusal) → Bytes s → answered r ≡ message_read s → Found s r
unfolding answered
found_promise s r h e = record { found = e; as_written = λ m f. (accepted_is_written s m h (sym e ∙ ap answered f)).0 }

pub written_promise : (m : Message) (out : List ℕ) (r : Result ℕ Refusal) (last : List ℕ)
    → (answered r ≡ outcome (write_fault m (length out)) 1) × (last ≡ memory (write_fault m (length out)) (encode m) out)
    → Written m out r last
unfolding answered write_fault
written_promise m out r last p = record {
  answer = p.0;
  output = p.1;
  reads_back = λ n f.
      let c = accepted_clear (write_fault m (length out)) 1 n (sym p.0 ∙ ap answered f) in
      let k = clear_first _ _ (λ z. omega arith) c.0 in
      let l = clear_first _ _ (λ z. omega arith) k.1 in
      let w : take 32 last ≡ encode m = ap (take 32) (p.1 ∙ memory_accepted (write_fault m (length out)) (encode m) out c.0) ∙ rw (← encode-length m) (overlay-take (encode m) out) in
      ap message_read w ∙ written_reads_back m (true_holds _ (not-false (admits m) l.0));
}

-- What the block call on an input's next block says of the records and the refusal of all blocks that are left.
-- Assumes nothing.
use Rattle.std.proofs.Common.{◌≡◌, ℕ, suc, ◌+◌, ◌*◌, ◌/◌, ◌<◌, ◌≤◌, min, List, [], ◌∷◌, ◌++◌, length, take, drop, sym, refl, ap, ◌∙◌, arith, append_assoc, append-nil, length-append, take_all, take_at, drop_at, eq-eqb, inl, inr}
use Rattle.std.proofs.lemmas.Bool.{cases_lt, ne_eqb}
use Rattle.std.proofs.lemmas.List.{nil_from_length}
use Rattle.std.specs.Prelude.{Ok, Err}
use Rattle.wire.specs.declared.Refusal.{Refusal}
use Rattle.wire.specs.Memory.{overlay}
use Rattle.wire.specs.Outcome.{Answer, answered, given_count, number_of}
use Rattle.wire.proofs.FirstFault.{accepted_clear, refused_number, memory_accepted}
use Rattle.history.specs.declared.State.{State}
use Rattle.history.specs.Rules.{unit_settings}
use Rattle.history.specs.State.{state_after, steps_give}
use Rattle.calls.specs.Calls.{block_call, lent, samples_added, call_fault, records, call_state, call_answer, call_memory, state_fault, Meets}
use Rattle.calls.proofs.CallCounts.{call_count}
use Rattle.calls.proofs.Records.{records_length}
use Rattle.records.specs.Records.{blocks_in, samples_on, fault_on, records_from, refusal_from}

-- ---- an input's blocks

no_block : (rest : List ℕ) → length rest ≡ 0 → blocks_in rest ≡ []
unfolding blocks_in
no_block rest e = let none : rest ≡ [] = nil_from_length rest e in rw none refl

-- a chunk is 512 bytes, or the last
pub next_block : (rest chunk behind : List ℕ) → rest ≡ chunk ++ behind → length chunk ≡ min 512 (length rest) → 0 < length rest
    → blocks_in rest ≡ chunk ∷ blocks_in behind
unfolding blocks_in
next_block rest chunk behind parts size some =
    let sum : length rest ≡ length chunk + length behind = ap length parts ∙ length-append chunk behind in
    let n : (length rest + 511) / 512 ≡ suc ((length behind + 511) / 512) = omega (arith, sum, size) in
    elim (cases_lt (length rest) 512) [
      | inl short ↦
          let none : behind ≡ [] = nil_from_length behind (omega arith) in
          let whole : rest ≡ chunk = parts ∙ rw none (append-nil chunk) in
          rw (n, none, whole, take_all 512 chunk (omega arith)) refl
      | inr long ↦
          let full : length chunk ≡ 512 = omega arith in
          rw (n, parts, take_at chunk behind 512 full, drop_at chunk behind 512 full) refl
    ]

-- ---- the block call on one of them

module _ (s : State) (block out last : List ℕ) (next : State) (r : Answer) (size : length out ≡ 1600) (m : Meets s (block_call block out) next r last) where
  same_fault : state_fault s (block_call block out) ≡ fault_on s block
  unfolding state_fault call_fault fault_on
  same_fault = rw size refl

  -- a block has at most 50 messages
  few_messages : (n : ℕ) → r ≡ Ok n → n ≤ 50
  unfolding given_count
  few_messages n e = rw e at (call_count r s (block_call block out) m.answer)

  clear : (n : ℕ) → r ≡ Ok n → (fault_on s block ≡ 0) × (length (steps_give unit_settings s (samples_on block)) ≡ n)
  unfolding call_answer answered samples_added samples_on
  clear n e = accepted_clear _ _ n (sym (rw (e, same_fault) at m.answer))

  state_next : (n : ℕ) → r ≡ Ok n → next ≡ state_after unit_settings s (samples_on block)
  unfolding call_state samples_added samples_on
  state_next n e = let z = (clear n e).0 in (rw same_fault at m.state) ∙ simp (eq-eqb _ _ z)

  written : (n : ℕ) → r ≡ Ok n → take (32 * n) last ≡ records (steps_give unit_settings s (samples_on block))
  unfolding call_memory overlay samples_added samples_on lent
  written n e =
      let z = clear n e in
      let ms = steps_give unit_settings s (samples_on block) in
      let a : last ≡ records ms ++ drop (length (records ms)) out = (rw same_fault at m.output) ∙ memory_accepted (fault_on s block) (records ms) out z.0 in
      rw a (take_at (records ms) _ (32 * n) (records_length ms ∙ ap (λ (k : ℕ). 32 * k) z.1))

  -- how many records the call wrote, and that they are in the output
  pub few_records : (n : ℕ) → r ≡ Ok n → 32 * n ≤ 1600
  few_records n e = omega (arith, few_messages n e)

  -- an accepted one: its records come first, and the next blocks go on from its state
  given : (bs : List (List ℕ)) (n : ℕ) → r ≡ Ok n
      → (records_from s (block ∷ bs) ≡ take (32 * n) last ++ records_from next bs) × (refusal_from s (block ∷ bs) ≡ refusal_from next bs)
  unfolding records_from refusal_from
  given bs n e =
      let z = eq-eqb _ _ (clear n e).0 in
      rw (z, written n e, state_next n e) (refl, refl)

  -- a refused one: no records come any more
  refused_block : (bs : List (List ℕ)) (f : Refusal) → r ≡ Err f → (records_from s (block ∷ bs) ≡ []) × (refusal_from s (block ∷ bs) ≡ number_of f)
  unfolding records_from refusal_from call_answer answered samples_added samples_on
  refused_block bs f e =
      let z = refused_number (fault_on s block) _ (number_of f) (sym (rw (e, same_fault) at m.answer)) in
      rw (ne_eqb _ _ z.1, z.0) (refl, refl)

  -- ---- a turn of the loop: behind the records so far stand those of the blocks that are left

  module _ (rest behind so_far all : List ℕ) (number : ℕ) (parts : rest ≡ block ++ behind) (long : length block ≡ min 512 (length rest)) (some : 0 < length rest)
      (whole : so_far ++ records_from s (blocks_in rest) ≡ all) (reported : refusal_from s (blocks_in rest) ≡ number) where
    blocks : blocks_in rest ≡ block ∷ blocks_in behind
    blocks = next_block rest block behind parts long some

    pub given_turn : (n : ℕ) → r ≡ Ok n
        → ((so_far ++ take (32 * n) last) ++ records_from next (blocks_in behind) ≡ all) × (refusal_from next (blocks_in behind) ≡ number)
    given_turn n e =
        let g = given (blocks_in behind) n e in
        (append_assoc so_far _ _ ∙ rw (← g.0, ← blocks) whole, rw (← g.1, ← blocks) reported)

    pub refused_turn : (f : Refusal) → r ≡ Err f → (so_far ≡ all) × (number_of f ≡ number)
    refused_turn f e =
        let g = refused_block (blocks_in behind) f e in
        (rw (blocks, g.0, append-nil) at whole, rw (blocks, g.1) at reported)

-- no block is left
pub ends : (s : State) (rest so_far all : List ℕ) (number : ℕ) → length rest ≡ 0
    → so_far ++ records_from s (blocks_in rest) ≡ all → refusal_from s (blocks_in rest) ≡ number → (so_far ≡ all) × (0 ≡ number)
unfolding records_from refusal_from
ends s rest so_far all number none whole reported =
    let e = no_block rest none in
    (rw (e, append-nil) at whole, rw e at reported)

-- The state in what was saved is the state again, part by part.
-- Assumes nothing.
use mathlib.Core.Path.{◌≡◌, refl, sym, ap, ◌∙◌}
use mathlib.Core.Bool.{Bool, true, false}
use mathlib.Core.List.{◌∷◌, ◌++◌}
use Prim.Native.Nat.{ℕ, zero, suc, ◌+◌, ◌*◌, ◌^◌, ◌<◌}
use native.Mathlib.Omega.{arith}
use lib.Dec.{T, eqb}
use lib.ListN.{length, get_or, take, drop}
use lib.Seq.{take_at, ext_get_or}
use lib.Ieee.{Float, nan, inf, fin, binary32, to_bits, is_nan, le}
use lib.Ieee.Bits.{of_bits-to_bits, to_bits-lt, nan_bits_is}
use lib.Ieee.Fits.{and_r}
use Rattle.std.proofs.Common.{Option, Some, None, is_some}
use Rattle.wire.proofs.Tests.{true_holds}
use Rattle.filter.specs.Filter.{lowest, highest, in_range, is_f32}
use Rattle.filter.specs.declared.Filter.{Filter}
use Rattle.filter.specs.declared.Filter.TheVariants.{Empty, Running}
use Rattle.message.specs.declared.Message.{Message}
use Rattle.message.specs.Message.{admits}
use Rattle.message.proofs.RoundTrip.{position_fits, position_kept, written_reads_back}
use Rattle.history.specs.declared.Conditions.{Conditions}
use Rattle.history.specs.declared.State.{State}
use Rattle.history.specs.Runs.{run_count}
use Rattle.history.specs.Ranges.{state_in_range, stopped_place, broken_down_place, started_place, counted_place, last_cancel_place, events_place}
use Rattle.history.proofs.StateMade.{marks_made, cycle_made, log_made, state_made}
use Rattle.history.proofs.InRange.{InRange, in_range_lem}
use Rattle.image.specs.Image.{layout, stopped_marks, broken_down_marks, sent_flag, standing_place, words_place, number_count, flag, is_running, filter_bits, flags_of, standing_bytes, words_of, word_bytes, image_of, flag_in, number_in, coordinate_in, runs_in, filter_in, notice_of, standing_in, cycle_in, origin_in, log_in, state_in, running_flag, ignition_flag, taken_number, filter_number, east_number, north_number, count_number}
use Rattle.image.proofs.WordBytes.{word_behind, Fit, word_at}
use Rattle.image.proofs.SavedParts.{standing_length, head_length}
use Rattle.image.proofs.NumbersIn.{runs_in_length, run_in_at}

-- ---- the parts, saved and read back

flag_again : (b : Bool) → eqb (flag b) 1 ≡ b
flag_again true = refl
flag_again false = refl

marks_again : (c : Conditions)
    → ◌≡◌ {A = Conditions} (record {
      park = eqb (flag c.park) 1;
      idle = eqb (flag c.idle) 1;
      brake = eqb (flag c.brake) 1;
      belt = eqb (flag c.belt) 1;
      expiring = eqb (flag c.expiring) 1;
    }) c
marks_again c =
    marks_made c _ _ _ _ _ (flag_again c.park) (flag_again c.idle) (flag_again c.brake) (flag_again c.belt) (flag_again c.expiring)

bits_fit : (f : Filter) → T (is_f32 f) → filter_bits f < 256 ^ 4
unfolding filter_bits is_f32
bits_fit Empty t = omega arith
bits_fit (Running f) t = to_bits-lt binary32 f t

no_nan : (f : Float) → T (le f highest) → is_nan f ≡ false
unfolding le is_nan
no_nan nan t = absurd t
no_nan (inf s) t = refl
no_nan (fin s m e) t = refl

filter_again : (f : Filter) → T (in_range f) → T (is_f32 f) → filter_in (is_running f) (filter_bits f) ≡ f
unfolding filter_in is_running filter_bits in_range is_f32
filter_again Empty r t = refl
filter_again (Running f) r t =
    let again = of_bits-to_bits binary32 f t in
    let plain = nan_bits_is binary32 (to_bits binary32 f) ∙ ap is_nan again ∙ no_nan f (and_r (le lowest f) (le f highest) r) in
    rw (plain, again)

standing_again : (n : Option Message) → ((m : Message) → n ≡ Some m → T (admits m)) → standing_in (is_some n) (standing_bytes n) ≡ n
unfolding standing_in standing_bytes notice_of
standing_again None h = refl
standing_again (Some m) h = rw (written_reads_back m (h m refl))

-- ---- the state

module _ (s : State) (h : InRange s) (size : length s.runs ≡ run_count) (t : T (is_f32 s.filter)) where
  fit : Fit (words_of s)
  unfolding words_of
  fit zero = omega (arith, h.taken)
  fit (suc zero) = bits_fit s.filter t
  fit (suc (suc zero)) = (position_fits s.log.origin h.origin).0
  fit (suc (suc (suc zero))) = (position_fits s.log.origin h.origin).1
  fit (suc (suc (suc (suc i)))) = omega (arith, h.counts i, h.taken)

  -- each number stands at its place
  number_again : (k : ℕ) → number_in k (image_of s) ≡ get_or (words_of s) k 0
  unfolding number_in image_of
  number_again k = word_behind (layout ∷ flags_of s ++ standing_bytes s.log.standing) (word_bytes (words_of s)) words_place (4 * k) (head_length s) ∙ word_at (words_of s) fit k

  -- and the runs behind the others
  run_behind : (i : ℕ) → get_or (words_of s) (number_count + i) 0 ≡ get_or s.runs i 0
  unfolding words_of
  run_behind i =
      let e : number_count + i ≡ suc (suc (suc (suc (suc (suc (suc (suc (suc (suc i))))))))) = omega arith in
      ap (λ (k : ℕ). get_or (words_of s) k 0) e

  runs_again : runs_in (image_of s) ≡ s.runs
  runs_again =
      let l = runs_in_length (image_of s) in
      ext_get_or 0 (runs_in (image_of s)) s.runs (l ∙ sym size) (λ i b.
      run_in_at (image_of s) i (omega arith) ∙ number_again (number_count + i) ∙ run_behind i)

  first_again : cycle_in (count_number stopped_place) stopped_marks (image_of s) ≡ s.stoppedcycle
  unfolding flag_in image_of flags_of words_of
  first_again =
      cycle_made s.stoppedcycle _ _
      (number_again (count_number stopped_place))
      (marks_again s.stoppedcycle.marks)

  second_again : cycle_in (count_number broken_down_place) broken_down_marks (image_of s) ≡ s.brokendowncycle
  unfolding flag_in image_of flags_of words_of
  second_again =
      cycle_made s.brokendowncycle _ _
      (number_again (count_number broken_down_place))
      (marks_again s.brokendowncycle.marks)

  record_again : take 32 (drop standing_place (image_of s)) ≡ standing_bytes s.log.standing
  unfolding image_of flags_of
  record_again = take_at (standing_bytes s.log.standing) (word_bytes (words_of s)) 32 (standing_length s.log.standing)

  sent_again : flag_in sent_flag (image_of s) ≡ is_some s.log.standing
  unfolding flag_in image_of flags_of
  sent_again = flag_again (is_some s.log.standing)

  origin_again : origin_in (image_of s) ≡ s.log.origin
  unfolding coordinate_in words_of
  origin_again = rw (number_again east_number, number_again north_number) (position_kept s.log.origin h.origin)

  log_again : log_in (image_of s) ≡ s.log
  unfolding log_in words_of
  log_again =
      log_made s.log _ _ _ _ _ _
      (rw (sent_again, record_again) (standing_again s.log.standing (λ m e. (h.standing m e).0)))
      (number_again (count_number started_place))
      origin_again
      (number_again (count_number counted_place))
      (number_again (count_number last_cancel_place))
      (number_again (count_number events_place))

  running_again : flag_in running_flag (image_of s) ≡ is_running s.filter
  unfolding flag_in image_of flags_of
  running_again = flag_again (is_running s.filter)

  bits_again : number_in filter_number (image_of s) ≡ filter_bits s.filter
  unfolding words_of
  bits_again = number_again filter_number

  ignition_again : flag_in ignition_flag (image_of s) ≡ s.ignition
  unfolding flag_in image_of flags_of
  ignition_again = flag_again s.ignition

  state_again : state_in (image_of s) ≡ s
  unfolding state_in words_of
  state_again =
      state_made s _ _ _ _ _ _ _
      (number_again taken_number)
      (rw (running_again, bits_again) (filter_again s.filter h.filter t))
      ignition_again
      runs_again
      first_again
      second_again
      log_again

-- a state within 21's ranges, with every run, whose filter has an f32's value, is read back from its image
pub state_in_image : (s : State) → state_in_range s ≡ true → length s.runs ≡ run_count → T (is_f32 s.filter) → state_in (image_of s) ≡ s
state_in_image s range size f32 = state_again s (in_range_lem s (true_holds (state_in_range s) range)) size f32

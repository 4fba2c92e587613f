-- A New or Update as `report_of` makes it, and a Cancel as `cancel_of` makes it, are messages that refusal 14 admits.
-- Assumes nothing.
use mathlib.Core.Path.{◌≡◌, refl}
use mathlib.Core.Bool.{Bool, true, false, ◌||◌, cond, or-true}
use Prim.Native.Nat.{ℕ, ◌-◌, ◌/◌, ◌≤◌}
use native.Mathlib.Omega.{arith}
use borrow.Author.Tests.{eq-eqb, eqb-true}
use lib.Dec.{ltb, leb, eqb, leb→le}
use Rattle.warnings.specs.Warnings.{update, cancel, post_crash, unresponsive_driver, warning_count, row_of}
use Rattle.warnings.proofs.Table.{each_passes}
use Rattle.sample.specs.Sample.{switches_of}
use Rattle.sample.proofs.AcceptedFields.{Fields}
use Rattle.message.specs.declared.Message.{Message}
use Rattle.message.proofs.Admitted.{Admitted}
use Rattle.message.proofs.DerivedAdmitted.{road_type_admitted, validity_admitted}
use Rattle.history.specs.declared.View.{View}
use Rattle.history.specs.Rules.{quality_of, stationary_since, report_of, cancel_of, ends_without_message}

-- 14 admits a New and an Update of each warning, and a Cancel of each that does not end without a message
update_admitted : (warning : ℕ) → 1 ≤ warning → warning ≤ warning_count → update ≤ (row_of warning).kinds
unfolding row_of
update_admitted warning low high = leb→le _ _ (each_passes (λ w. leb update (row_of w).kinds) tt warning low high)

cancel_kind_admitted : (warning : ℕ) → ends_without_message warning ≡ false → 1 ≤ warning → warning ≤ warning_count → cancel ≤ (row_of warning).kinds
unfolding row_of
cancel_kind_admitted warning e low high =
    leb→le _ _ (rw e at (each_passes (λ w. ends_without_message w || leb cancel (row_of w).kinds) tt warning low high))

-- and quality 1 of each, quality 3 of each but 4
quality_1_admitted : (warning : ℕ) → 1 ≤ warning → warning ≤ warning_count → 1 ≤ (row_of warning).qualities
unfolding row_of
quality_1_admitted warning low high = leb→le _ _ (each_passes (λ w. leb 1 (row_of w).qualities) tt warning low high)

quality_3_admitted : (warning : ℕ) → eqb warning unresponsive_driver ≡ false → 1 ≤ warning → warning ≤ warning_count → 3 ≤ (row_of warning).qualities
unfolding row_of
quality_3_admitted warning e low high =
    leb→le _ _ (rw e at (each_passes (λ w. eqb w unresponsive_driver || leb 3 (row_of w).qualities) tt warning low high))

-- "Quality for 1 and 2: 3 .., else 2 .., else 1. For 3: the highest of .." the happenings' g; of 4, "quality is 1" (CR 1)
quality_admitted : (v : View) (warning g : ℕ) → 1 ≤ warning → warning ≤ warning_count → (warning ≡ 3 → 1 ≤ g) → g ≤ 3
    → (1 ≤ quality_of v warning g) × (quality_of v warning g ≤ (row_of warning).qualities)
unfolding quality_of
quality_admitted v warning g w₁ w₂ low high = go (eqb warning post_crash) (eqb warning unresponsive_driver) v.expiring v.shortening refl refl
  where
    q₁ : 1 ≤ (row_of warning).qualities
    q₁ = quality_1_admitted warning w₁ w₂

    graded : Bool → Bool → Bool → Bool → ℕ
    graded a b e s = cond a g (cond b 1 (cond e 3 (cond s 2 1)))

    go : (a b e s : Bool) → eqb warning post_crash ≡ a → eqb warning unresponsive_driver ≡ b
        → (1 ≤ graded a b e s) × (graded a b e s ≤ (row_of warning).qualities)
    go true b e s p q =
        let three : warning ≡ 3 = eqb-true warning post_crash p in
        (low three, omega (arith, quality_3_admitted warning (rw three) w₁ w₂))
    go false true e s p q = (omega arith, q₁)
    go false false true s p q = (omega arith, quality_3_admitted warning q w₁ w₂)
    go false false false true p q = (omega arith, omega (arith, quality_3_admitted warning q w₁ w₂))
    go false false false false p q = (omega arith, q₁)

-- "stationarySince: .. 0 .., 1 .., 2 .., else 3"
since_at_most_3 : (ticks : ℕ) → stationary_since ticks ≤ 3
unfolding stationary_since
since_at_most_3 ticks = go (ltb ((ticks - 1) / 600) 1) (ltb ((ticks - 1) / 600) 2) (ltb ((ticks - 1) / 600) 15)
  where
    go : (a b c : Bool) → cond a 0 (cond b 1 (cond c 2 3)) ≤ 3
    go true b c = omega arith
    go false true c = omega arith
    go false false true = omega arith
    go false false false = omega arith

-- "New and Update have detection = reference = now"
pub report_admitted : (kind warning event g : ℕ) (v : View) → 1 ≤ kind → kind ≤ update → 1 ≤ warning → warning ≤ warning_count → 1 ≤ event → event ≤ 10000000
    → (warning ≡ 3 → 1 ≤ g) → g ≤ 3 → v.tick ≤ 9999999 → Fields v.sample → Admitted (report_of kind warning event g v)
unfolding report_of
report_admitted kind warning event g v k₁ k₂ w₁ w₂ e₁ e₂ low high now x =
    let q = quality_admitted v warning g w₁ w₂ low high in
    record {
      kind_low = k₁;
      kind_high = omega (arith, update_admitted warning w₁ w₂);
      warning_low = w₁;
      warning_high = w₂;
      quality_low = q.0;
      quality_high = q.1;
      roadtype = road_type_admitted v.sample.road;
      since = since_at_most_3 v.stationary;
      event_low = e₁;
      event_high = e₂;
      reference = now;
      detection = omega arith;
      instant = rw (eq-eqb v.tick v.tick refl, or-true) tt;
      position = x.position;
      heading = x.heading;
      validity = validity_admitted warning (switches_of v.sample).ignition;
    }

-- "Cancel repeats bytes 4-15 and 20-31 of the last New or Update"
pub cancel_admitted : (tick : ℕ) (m : Message) → ends_without_message m.warning ≡ false → Admitted m → m.reference ≤ tick → tick ≤ 9999999
    → Admitted (cancel_of tick m)
unfolding cancel_of
cancel_admitted tick m cancels a earlier now =
    let d = a.detection in
    record {
      kind_low = omega arith;
      kind_high = cancel_kind_admitted m.warning cancels a.warning_low a.warning_high;
      warning_low = a.warning_low;
      warning_high = a.warning_high;
      quality_low = a.quality_low;
      quality_high = a.quality_high;
      roadtype = a.roadtype;
      since = a.since;
      event_low = a.event_low;
      event_high = a.event_high;
      reference = now;
      detection = omega arith;
      instant = tt;
      position = a.position;
      heading = a.heading;
      validity = a.validity;
    }

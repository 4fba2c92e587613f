-- What refusal 14 lets pass, as facts on the fields: `admits` in both directions.
-- Assumes nothing.
use mathlib.Core.Bool.{true, false, not, ◌||◌}
use Prim.Native.Nat.{ℕ, ◌≤◌, ◌<◌}
use lib.Dec.{T, leb, eqb, leb→le, le→leb}
use lib.ListN.{get_or}
use Rattle.wire.proofs.Tests.{one_of, holds_at, holds_all}
use Rattle.warnings.specs.Warnings.{cancel, warning_count, row_of, validity_of}
use Rattle.warnings.proofs.Table.{validity_above}
use Rattle.sample.specs.Sample.{beyond}
use Rattle.message.specs.Message.{field_tests, admits}
use Rattle.message.specs.declared.Message.{Message}

pub record Admitted (m : Message) : Type 0 where
  pub kind_low : 1 ≤ m.kind
  pub kind_high : m.kind ≤ (row_of m.warning).kinds
  pub warning_low : 1 ≤ m.warning
  pub warning_high : m.warning ≤ warning_count
  pub quality_low : 1 ≤ m.quality
  pub quality_high : m.quality ≤ (row_of m.warning).qualities
  pub roadtype : T (leb m.roadtype 3 || eqb m.roadtype 255)
  pub since : m.since ≤ 3
  pub event_low : 1 ≤ m.event
  pub event_high : m.event ≤ 10000000
  pub reference : m.reference ≤ 9999999
  pub detection : m.detection ≤ m.reference
  pub instant : T (eqb m.kind cancel || eqb m.detection m.reference)
  pub position : T (not (beyond m.position))
  pub heading : m.heading ≤ 3601
  pub validity : T (eqb m.validity (validity_of m.warning true) || eqb m.validity (validity_of m.warning false))

pub admitted : (m : Message) → T (admits m) → Admitted m
unfolding admits field_tests
admitted m t =
    let at : (k : ℕ) → T (get_or (field_tests m) k true) = holds_at (field_tests m) t in
    record {
      kind_low = leb→le _ _ (at 0);
      kind_high = leb→le _ _ (at 1);
      warning_low = leb→le _ _ (at 2);
      warning_high = leb→le _ _ (at 3);
      quality_low = leb→le _ _ (at 4);
      quality_high = leb→le _ _ (at 5);
      roadtype = at 6;
      since = leb→le _ _ (at 7);
      event_low = leb→le _ _ (at 8);
      event_high = leb→le _ _ (at 9);
      reference = leb→le _ _ (at 10);
      detection = leb→le _ _ (at 11);
      instant = at 12;
      position = at 13;
      heading = leb→le _ _ (at 14);
      validity = at 15;
    }

-- it is valid for some time
pub valid : (m : Message) → T (admits m) → 0 < m.validity
valid m t =
    let a = admitted m t in
    one_of (λ v. 0 < v) m.validity (validity_of m.warning true) (validity_of m.warning false)
    (validity_above m.warning true a.warning_low a.warning_high) (validity_above m.warning false a.warning_low a.warning_high) a.validity

pub admits_it : (m : Message) → Admitted m → T (admits m)
unfolding admits field_tests
admits_it m a =
    holds_all (field_tests m) (
      le→leb _ _ a.kind_low,
      (
        le→leb _ _ a.kind_high,
        (
          le→leb _ _ a.warning_low,
          (
            le→leb _ _ a.warning_high,
            (
              le→leb _ _ a.quality_low,
              (
                le→leb _ _ a.quality_high,
                (
                  a.roadtype,
                  (
                    le→leb _ _ a.since,
                    (
                      le→leb _ _ a.event_low,
                      (
                        le→leb _ _ a.event_high,
                        (
                          le→leb _ _ a.reference,
                          (
                            le→leb _ _ a.detection,
                            (
                              a.instant,
                              (
                                a.position,
                                (
                                  le→leb _ _ a.heading,
                                  (
                                    a.validity,
                                    tt,
                                  ),
                                ),
                              ),
                            ),
                          ),
                        ),
                      ),
                    ),
                  ),
                ),
              ),
            ),
          ),
        ),
      ),
    )

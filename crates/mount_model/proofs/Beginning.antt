-- A mount begins with a regular table.
use Rattle.std.proofs.Common.{◌≢◌, ℕ, ◌<◌, ◌^◌, List, [], Option, sym, subst}
use Rattle.std.proofs.lemmas.List.Elements.{All-nil}
use Rattle.store_api.specs.Acts.{Stored}
use Rattle.mount_model.specs.declared.row.Row.{Row}
use Rattle.mount_model.specs.State.{State}
use Rattle.mount_model.specs.Mounting.{IsMounted}
use Rattle.mount_model.specs.Regular.{IsCounted, IsOfSerial, AreHolders, AreFlattenings, IsRegular}
use Rattle.mount_model.proofs.Rows.{AreRegular, regular_of, no_holders, no_flattenings}

no_rows : (mount last marks : ℕ) → AreRegular mount last marks []
no_rows mount last marks = record {
  counted = All-nil IsCounted;
  ascending = tt;
  drawn = All-nil (λ (row : Row). IsOfSerial mount last row.id);
  apart = All-nil (λ (row : Row). row.room ≢ marks);
}

pub mounted_regular : (serial : ℕ) (times : Option (List ℕ)) (opened : Stored) (new : State) → IsMounted serial times opened new → IsRegular new
mounted_regular serial times opened new m =
    regular_of new m.draws.next.fits (subst (λ s. s < 2 ^ 32) (sym m.serial_is) m.serial_fits) (record {
      writers = subst (λ rows. AreRegular new.mount new.serial new.marks rows) (sym m.no_writers) (no_rows new.mount new.serial new.marks);
      holders = subst (λ holders. AreHolders new.mount new.serial new.marks holders) (sym m.no_holders) (no_holders new.mount new.serial new.marks);
      flattenings = subst (λ flattenings. AreFlattenings new.mount new.serial new.marks flattenings) (sym m.no_flattenings) (no_flattenings new.mount new.serial new.marks);
    })

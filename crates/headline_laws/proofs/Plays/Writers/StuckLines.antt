-- What a stuck statement on a writer shows.
use Rattle.std.proofs.Common.{◌≡◌, ℕ, true, false, inl, List, [], ◌∷◌, length, nat_eq, Some, None, refl, arith}
use Rattle.std.proofs.lemmas.Bool.Decides.{nat_tests}
use Rattle.mount_model.specs.Paths.{Name}
use Rattle.mount_model.specs.declared.stuck.Stuck.{Stuck}
use Rattle.mount_model.specs.declared.stuck.Stuck.TheVariants as stuck
use Rattle.outcomes.specs.Outcomes.{stuck_outcome}
use Rattle.reader_laws.specs.Moments.{Moment}
use Rattle.actor_core.specs.declared.kept.Kept.{Kept}
use Rattle.headline_laws.specs.Opening.{Stretch}
use Rattle.headline_laws.specs.OneWriter.{OneWriter, WritesNone}
use Rattle.headline_laws.specs.Writing.{ShowsClosed, ShowsSynced, ShowsWriterOpened, ShowsWritten}

pub gone_not : (kept : Kept) → true ≡ false → ⊥
gone_not kept e = cc

-- ---- the lines of an open writer

pub stuck_written : (n : ℕ) (stretch : Stretch) (writer : OneWriter) (at : ℕ) (bytes : List ℕ) (why : Stuck) → WritesNone (Some writer) stretch.events → ShowsWritten n stretch writer at bytes (stuck_outcome why) (Some writer)
stuck_written n stretch writer at bytes stuck.Fault none = (tt, (refl, none))
stuck_written n stretch writer at bytes (stuck.Damaged folder file place) none = (tt, (refl, none))
stuck_written n stretch writer at bytes (stuck.Refused because) none = (tt, (refl, none))

pub stuck_synced : (stretch : Stretch) (writer : OneWriter) (why : Stuck) → WritesNone (Some writer) stretch.events → ShowsSynced stretch writer (stuck_outcome why) (Some writer)
stuck_synced stretch writer stuck.Fault none = (tt, (refl, none))
stuck_synced stretch writer (stuck.Damaged folder file place) none = (tt, (refl, none))
stuck_synced stretch writer (stuck.Refused because) none = (tt, (refl, none))

pub stuck_closed : (stretch : Stretch) (writer : OneWriter) (why : Stuck) → WritesNone (Some writer) stretch.events → ShowsClosed stretch writer (stuck_outcome why) (Some writer)
stuck_closed stretch writer stuck.Fault none = (none, inl refl)
stuck_closed stretch writer (stuck.Damaged folder file place) none = (tt, (refl, none))
stuck_closed stretch writer (stuck.Refused because) none = (tt, (refl, none))

pub stuck_opened : (start : Moment) (n : ℕ) (stretch : Stretch) (name : Name) (why : Stuck) → ShowsWriterOpened start n stretch name (stuck_outcome why) None
stuck_opened start n stretch name stuck.Fault = (tt, refl)
stuck_opened start n stretch name (stuck.Damaged folder file place) = (tt, refl)
stuck_opened start n stretch name (stuck.Refused because) = (tt, refl)

pub no_bytes : (bytes : List ℕ) → length bytes ≡ 0 → bytes ≡ []
no_bytes [] none = refl
no_bytes (b ∷ bytes) none = absurd (omega (arith, none))

pub tested : (k : ℕ) → nat_eq k 0 ≡ true → k ≡ 0
tested k e = grind (arith, nat_tests)

-- The opening of a reader shows no damage.
use Rattle.std.proofs.Common.{◌≡◌, ◌∙◌, ℕ, List, ◌++◌, sym, ◌⊎◌, inl, inr, subst, append_assoc}
use Rattle.std.specs.Prelude.{Err}
use Rattle.mount_model.specs.History.{Event, state_after}
use Rattle.mount_sound.specs.Owed.{IsLawful}
use Rattle.mount_model.specs.declared.stuck.Stuck.{Stuck}
use Rattle.mount_model.specs.Running.{Runs}
use Rattle.mount_model.specs.FlowReplies.{Tries}
use Rattle.index_reader.specs.declared.listing.Listing.{Listing}
use Rattle.reader_laws.specs.Moments.{Moment, IsSoundAt}
use Rattle.reader_laws.proofs.Gathered.Facts.{legal_first}
use Rattle.reader_laws.specs.Failing.{FailsByStore, FailsOrLacks}
use Rattle.reader_laws.specs.Opening.{Lists}
use Rattle.reader_laws.specs.Troubled.{IsStuckBehind, IsStuckInShare, IsStuckInTruncs, OpensInTrouble}
use Rattle.reader_laws.proofs.Faults.ListingFails.{listing_fails}
use Rattle.reader_laws.proofs.Faults.ShareFails.{shares_fail, truncates_fail}
use Rattle.mount_sound.proofs.Facts.{lawful_rest}
use Rattle.reader_laws.proofs.Calls.Troubles.{fails_first, fails_rest}

behind_fails : (lister caller : ℕ) (program : Tries Listing) (start : Moment) (events : List Event) (why : Stuck) → IsLawful start.state events → IsSoundAt start → Lists program → IsStuckBehind lister caller program events why → FailsByStore caller start.state events why
behind_fails lister caller program start events why lawful sound lists b =
    let before : List Event = b.scanning ++ b.between in
    let whole : events ≡ before ++ (b.reading ++ b.later) = b.split ∙ sym (append_assoc b.scanning b.between (b.reading ++ b.later)) in
    let all : IsLawful start.state (before ++ (b.reading ++ b.later)) = subst (IsLawful start.state) whole lawful in
    let first : IsLawful start.state ((before ++ b.reading) ++ b.later) = subst (IsLawful start.state) (sym (append_assoc before b.reading b.later)) all in
    let until : IsLawful start.state (b.scanning ++ (b.between ++ b.reading)) = subst (IsLawful start.state) (append_assoc b.scanning b.between b.reading) (legal_first start (before ++ b.reading) b.later first) in
    subst (λ es. FailsByStore caller start.state es why) (sym whole)
    (fails_rest caller start.state before (b.reading ++ b.later) why all
    (fails_first caller (state_after start.state before) b.reading b.later why (lawful_rest start.state before (b.reading ++ b.later) all) (by_end until b.ends)))
  where
    by_end : IsLawful start.state (b.scanning ++ (b.between ++ b.reading)) → IsStuckInShare caller b.listing b.reading why ⊎ IsStuckInTruncs caller b.listing b.reading why → FailsByStore caller (state_after start.state (b.scanning ++ b.between)) b.reading why
    by_end until (inl (ds, within, runs)) = shares_fail lister caller program start b.scanning b.between b.reading b.listing ds why until sound lists b.scans within runs
    by_end until (inr runs) = truncates_fail lister caller program start b.scanning b.between b.reading b.listing why until sound lists b.scans runs

pub opening_fails : (lister caller : ℕ) (start : Moment) (events : List Event) (why : Stuck) → IsLawful start.state events → IsSoundAt start → OpensInTrouble lister caller events why → FailsOrLacks caller start.state events why
opening_fails lister caller start events why lawful sound o = by_end o.ends
  where
    by_end : ((caller ≡ lister) × Runs lister o.program events (Err why)) ⊎ IsStuckBehind lister caller o.program events why → FailsOrLacks caller start.state events why
    by_end (inl (same, runs)) = listing_fails caller o.program start events why lawful sound o.lists (subst (λ c. Runs c o.program events (Err why)) (sym same) runs)
    by_end (inr behind) = inl (behind_fails lister caller o.program start events why lawful sound o.lists behind)

-- Who runs the whole program of an opening has opened a reader, or the store failed or lacks the container.
use Rattle.std.proofs.Common.{◌≡◌, ℕ, ◌-◌, ◌≤◌, List, [], ◌∷◌, ◌++◌, Result, Ok, Err, refl, sym, ap, ◌∙◌, subst, inl, inr, ◌⊎◌, append_assoc}
use Rattle.std.specs.List.{range_with_len}
use Rattle.plfs_types.specs.declared.entries.Trunc.{Trunc}
use Rattle.turn_object.specs.Callers.{made_by}
use Rattle.mount_model.specs.History.{Event, state_after}
use Rattle.mount_model.specs.Paths.{Name}
use Rattle.mount_sound.specs.Owed.{IsLawful}
use Rattle.mount_sound.proofs.Facts.{lawful_first}
use Rattle.mount_model.specs.declared.stuck.Stuck.{Stuck}
use Rattle.mount_model.specs.FlowReplies.{on_ok}
use Rattle.mount_model.specs.Running.{Runs}
use Rattle.mount_model.proofs.Flows.Facts.{runs_in_two}
use Rattle.index_reader.specs.declared.listing.Listing.{Listing}
use Rattle.index_reader.specs.declared.opened.OpenReader.{OpenReader}
use Rattle.index_reader.specs.declared.sharing.Share.{Share}
use Rattle.index_reader.specs.Opening.{open_read_program}
use Rattle.gather_flow.specs.declared.all_read.AllRead.{AllRead}
use Rattle.gather_flow.specs.Dealing.{dealt_to}
use Rattle.gather_flow.specs.Gathering.{shares_from}
use Rattle.gather_flow.specs.OneIndex.{reader_of}
use Rattle.reader_laws.specs.Moments.{Moment, IsSoundAt}
use Rattle.reader_laws.specs.Failing.{FailsByStore, FailsOrLacks}
use Rattle.reader_laws.specs.Opened.{HasOpenedIn}
use Rattle.reader_laws.specs.Opening.{Lists, shares_of}
use Rattle.reader_laws.proofs.Facts.{fails_first, fails_rest, listing_fails, shares_fail, truncates_fail}
use Rattle.opening_flow.specs.Opening.{opening_program, opens, reads_as}
use Rattle.opening_laws.specs.Ending.{OpeningEnds}
use Rattle.sharing_laws.proofs.Facts.{ReadAll, ShareFailed, alone_opened, dealt_listed, read_alone, runs_more}

abbrev all_read : Listing → List Share → List Trunc → AllRead
all_read listing shares truncs = record { listed = listing; shares = shares; truncs = truncs }

module _ (caller workers : ℕ) (name : Name) (start : Moment) (some : 1 ≤ workers) (sound : IsSoundAt start) where
  lists : Lists (open_read_program name)
  lists = inl (name, refl)

  abbrev numbers : List ℕ
  numbers = range_with_len 0 (workers - 0)

  module _ (listing : Listing) (scanning : List Event) (scans : Runs caller (open_read_program name) scanning (Ok listing)) where
    failed_behind : (between reading rest : List Event) (why : Stuck) → rest ≡ between ++ reading → IsLawful start.state (scanning ++ rest) → FailsByStore caller (state_after start.state (scanning ++ between)) reading why
        → FailsOrLacks caller start.state (scanning ++ rest) why
    failed_behind between reading rest why split lawful fails =
        let same : (scanning ++ between) ++ reading ≡ scanning ++ rest = append_assoc scanning between reading ∙ ap (λ (es : List Event). scanning ++ es) (sym split) in
        let whole : IsLawful start.state ((scanning ++ between) ++ reading) = subst (λ (es : List Event). IsLawful start.state es) (sym same) lawful in
        inl (subst (λ (es : List Event). FailsByStore caller start.state es why) same (fails_rest caller start.state (scanning ++ between) reading why whole fails))

    -- a share of what was listed ended in a trouble
    share_failed : (rest : List Event) (value : Result AllRead Stuck) (ended : Result OpenReader Stuck) → IsLawful start.state (scanning ++ rest) → (f : ShareFailed all_read caller workers listing rest value) → ended ≡ Err f.why
        → OpeningEnds caller start (scanning ++ rest) ended
    share_failed rest value ended lawful f is =
        let here : IsLawful start.state (scanning ++ (f.between ++ f.reading)) = subst (λ (es : List Event). IsLawful start.state (scanning ++ es)) f.split lawful in
        let fails : FailsByStore caller (state_after start.state (scanning ++ f.between)) f.reading f.why =
        shares_fail caller caller (open_read_program name) start scanning f.between f.reading listing (dealt_to workers f.worker 0 listing.droppings) f.why here sound lists scans (dealt_listed workers f.worker listing.droppings) f.runs in
        subst (λ (e : Result OpenReader Stuck). OpeningEnds caller start (scanning ++ rest) e) (sym is) (failed_behind f.between f.reading rest f.why f.split lawful fails)

    -- all was read, or the list of truncates ended in a trouble
    read_ended : (rest last : List Event) (value : Result AllRead Stuck) (ended : Result OpenReader Stuck) → IsLawful start.state (scanning ++ rest) → ReadAll all_read caller workers listing numbers [] rest value
        → Runs caller (on_ok reads_as value) last ended → OpeningEnds caller start (scanning ++ rest) ended
    read_ended rest last (Ok all) ended lawful r (none, is) =
        let opened : HasOpenedIn caller start (scanning ++ rest) (reader_of listing (shares_of r.portions) r.opened.truncs) =
        alone_opened caller start sound (open_read_program name) lists listing scanning scans all_read workers rest all some lawful r in
        let made : Ok (reader_of listing (shares_of r.portions) r.opened.truncs) ≡ ended = ap (λ (a : AllRead). Ok (reader_of a.listed a.shares a.truncs)) (sym r.opened.is) ∙ is in
        subst (λ (e : Result OpenReader Stuck). OpeningEnds caller start (scanning ++ rest) e) made opened
    read_ended rest last (Err why) ended lawful r (none, is) =
        let here : IsLawful start.state (scanning ++ (r.gathering ++ r.rest)) = subst (λ (es : List Event). IsLawful start.state (scanning ++ es)) r.split lawful in
        let fails : FailsByStore caller (state_after start.state (scanning ++ r.gathering)) r.rest why =
        truncates_fail caller caller (open_read_program name) start scanning r.gathering r.rest listing why here sound lists scans r.opened in
        subst (λ (e : Result OpenReader Stuck). OpeningEnds caller start (scanning ++ rest) e) is (failed_behind r.gathering r.rest rest why r.split lawful fails)

    share_told : (value : Result AllRead Stuck) (last : List Event) (why : Stuck) (ended : Result OpenReader Stuck) → value ≡ Err why → Runs caller (on_ok reads_as value) last ended → ended ≡ Err why
    share_told (Ok all) last why ended is ends = absurd (cc)
    share_told (Err told) last why ended is (none, same) = let one : told ≡ why = cc in sym same ∙ ap Err one

    no_more : (value : Result AllRead Stuck) (last : List Event) (ended : Result OpenReader Stuck) → Runs caller (on_ok reads_as value) last ended → made_by caller last ≡ []
    no_more (Ok all) last ended ends = ends.0
    no_more (Err why) last ended ends = ends.0

    listed_ended : (rest : List Event) (ended : Result OpenReader Stuck) → IsLawful start.state (scanning ++ rest) → Runs caller (opens workers listing) rest ended → OpeningEnds caller start (scanning ++ rest) ended
    listed_ended rest ended lawful runs =
        let two = runs_in_two caller (shares_from workers listing 0 []) (on_ok reads_as) rest ended runs in
        let reads : Runs caller (shares_from workers listing 0 []) rest two.value =
        subst (λ (es : List Event). Runs caller (shares_from workers listing 0 []) es two.value) (sym two.all)
        (runs_more caller (shares_from workers listing 0 []) two.first two.rest two.value (no_more two.value two.rest ended two.then_runs) two.runs) in
        elim (read_alone all_read caller workers listing numbers [] rest two.value reads) [
          | inl r ↦ read_ended rest two.rest two.value ended lawful r two.then_runs
          | inr f ↦ share_failed rest two.value ended lawful f (share_told two.value two.rest f.why ended f.is two.then_runs)
        ]

  -- where the listing ended in a trouble, or not
  opening_of : (first rest : List Event) (value : Result Listing Stuck) (ended : Result OpenReader Stuck) → IsLawful start.state (first ++ rest) → Runs caller (open_read_program name) first value
      → Runs caller (on_ok (opens workers) value) rest ended → OpeningEnds caller start (first ++ rest) ended
  opening_of first rest (Ok listing) ended lawful scans on = listed_ended listing first scans rest ended lawful on
  opening_of first rest (Err why) ended lawful scans (none, is) =
      subst (λ (e : Result OpenReader Stuck). OpeningEnds caller start (first ++ rest) e) is
      (elim (listing_fails caller (open_read_program name) start first why (lawful_first start.state first rest lawful) sound lists scans) [
        | inl fails ↦ inl (fails_first caller start.state first rest why lawful fails)
        | inr lacks ↦ inr lacks
      ])

  pub opening_ends : (events : List Event) (ended : Result OpenReader Stuck) → IsLawful start.state events → Runs caller (opening_program name workers) events ended → OpeningEnds caller start events ended
  opening_ends events ended lawful runs =
      let two = runs_in_two caller (open_read_program name) (on_ok (opens workers)) events ended runs in
      subst (λ (es : List Event). OpeningEnds caller start es ended) (sym two.all)
      (opening_of two.first two.rest two.value ended (subst (λ (es : List Event). IsLawful start.state es) two.all lawful) two.runs two.then_runs)

-- What was gathered is synced, put and installed, where nobody else calls and nothing fails: the index is right for its room, which shows what it showed.
use Rattle.std.proofs.Common.{◌≡◌, ℕ, Bool, true, false, List, [], ◌∷◌, ◌++◌, None, Result, Ok, Err, refl, sym, ap, ◌∙◌, inl, inr, subst}
use Rattle.std.specs.Prelude.{Some, slice_get}
use Rattle.container_layout.specs.declared.items.Item.TheVariants as item
use Rattle.flat_format.specs.declared.flat.Flat.{Flat}
use Rattle.flat_format.specs.Spelling.{flat_spelling}
use Rattle.store_api.specs.declared.tree.Room.{Room}
use Rattle.mount_model.specs.declared.call.Call.TheVariants.{InstallFlat, PutFlat, SyncDropping, SyncFlat}
use Rattle.mount_model.specs.declared.row.FlatStage.{FlatStage}
use Rattle.mount_model.specs.declared.row.FlatStage.TheVariants.{Begun, Put, Synced}
use Rattle.mount_model.specs.declared.row.Making.TheVariants as making
use Rattle.mount_model.specs.History.{AreBy, Event}
use Rattle.mount_model.specs.Step.{Answers}
use Rattle.mount_model.specs.Table.{flattening_of}
use Rattle.mount_sound.specs.Flats.{IsRightFlat, IsRightFor}
use Rattle.mount_sound.specs.Owed.{IsLawful, May, MayPut}
use Rattle.mount_model.specs.Program.{ask, done}
use Rattle.mount_model.specs.declared.stuck.Stuck.{Stuck}
use Rattle.mount_model.specs.FlowReplies.{Tries, on_ok}
use Rattle.mount_model.specs.Running.{Runs, unbroken}
use Rattle.mount_model.proofs.Flows.Facts.{runs_in_two}
use Rattle.reader_laws.specs.Moments.{IsSoundAt, Moment, moment_after, next_moment}
use Rattle.reader_laws.proofs.Gathered.Facts.{grows_after, legal_first, legal_rest, moment-append, sound_after}
use Rattle.index_reader.specs.declared.listing.Dropping.{Dropping}
use Rattle.index_reader.specs.declared.listing.Listing.{Listing}
use Rattle.index_reader.specs.Opening.{no_flat, scan_program}
use Rattle.reader_laws.proofs.Facts.{top_fails}
use Rattle.flatten_core.specs.Installing.{done_or, if_done, install_program, installs, puts, syncs, syncs_covered, syncs_flat, syncs_index, syncs_listed}
use Rattle.flatten_laws.proofs.Facts.{IsTaken, taken_finds}
use Rattle.plain_plays.specs.Mirrors.{room_told}
use Rattle.plain_plays.specs.Served.{GoesWell}
use Rattle.plain_plays.proofs.PlainSteps.Entering.{IsContainerAt}
use Rattle.plain_plays.proofs.PlainSteps.Reaching.{ended, over_alone}
use Rattle.plain_plays.proofs.PlainSteps.Serving.{well_first}
use Rattle.plain_plays.proofs.PlainSteps.Steps.Alone.{by_first, by_rest, first_call}
use Rattle.plain_plays.proofs.PlainSteps.ByName.Looking.{IsAlike}
use Rattle.plain_plays.proofs.PlainSteps.Looks.Answered.{EndsSo, had_alike, looked, no_fault, unchecked}
use Rattle.plain_plays.proofs.PlainSteps.Looks.Gathered.{well_rest}
use Rattle.plain_plays.proofs.PlainSteps.Looks.Listings.{IsOf, scan_on}
use Rattle.plain_plays.proofs.PlainSteps.Flats.Aside.{StaysSo, stays_alike, stays_on}
use Rattle.plain_plays.proofs.PlainSteps.Flats.Calls.{HasFlat, dropping_does, flat_kept, found_flat, install_does, put_does, sync_does}

-- ---- the second listing

scan_ends : (n me : ℕ) (m : Moment) (events : List Event) (out : Result Listing Stuck) → IsSoundAt m → IsContainerAt n m → IsLawful m.state events → GoesWell me events → AreBy me events → Runs me (scan_program n) events out → ((listing : Listing) × (out ≡ Ok listing)) × IsAlike m (moment_after m events)
scan_ends n me m events out s had lawful well by runs =
    let l = looked n me (EndsSo (IsOf n)) events (scan_program n) m out s had lawful well by (scan_on n) runs in
    (well_so out l.0 runs, l.1)
  where
    well_so : (result : Result Listing Stuck) → EndsSo (IsOf n) result → Runs me (scan_program n) events result → (listing : Listing) × (result ≡ Ok listing)
    well_so (Ok listing) ends on = (listing, refl)
    well_so (Err why) ends on = absurd (no_fault (IsOf n) why ends (top_fails me n 0 no_flat m events why s had tt lawful on).0)

module _ (start : Moment) (old : Room) (me n flat : ℕ) (bytes : List ℕ) where
  -- ---- where it stands

  -- The flattening is in this stage. Since it began the room shows what it showed.
  pub record Underway (stage : FlatStage) (x : Moment) : Type 0 where
    pub sound : IsSoundAt x
    pub had : IsContainerAt n x
    pub stays : StaysSo n 1 old start x
    pub has : HasFlat making.Flat me n flat stage x.state.table

  -- The bytes were put where they were right for the room, and installed.
  pub record IsInstalled (last : Moment) : Type 0 where
    pub put : Moment
    pub sound : IsSoundAt put
    pub then_so : StaysSo n 1 old start put
    pub right : IsRightFlat then_so.new bytes
    pub stays : StaysSo n 1 old start last

  not_missing : (stage : FlatStage) (x : Moment) → Underway stage x → flattening_of me stage flat x.state.table.flattenings ≡ None → ⊥
  not_missing stage x u none = let found = found_flat me n flat stage x.state.table u.has in let clash : Some u.has.f ≡ None = sym found ∙ none in cc

  container_then : (x : Moment) (e : Event) (rest : List Event) → IsSoundAt x → IsLawful x.state (e ∷ rest) → IsContainerAt n x → IsContainerAt n (next_moment x e)
  container_then x e rest s whole had = (grows_after x (e ∷ []) (whole.0, whole.1, tt) s).stands n item.Access tt had

  -- ---- it is installed

  abbrev Over : Result (Unit {0}) Stuck → Moment → Type 0
  Over out last = (out ≡ Ok tt) × StaysSo n 1 old start last

  install_ends : (x : Moment) → Underway Synced x → (events : List Event) (out : Result (Unit {0}) Stuck) → IsLawful x.state events → GoesWell me events → AreBy me events → Runs me (installs flat) events out → Over out (moment_after x events)
  install_ends x u events out lawful well by runs =
      let c = first_call x me (InstallFlat flat) (λ reply. done (done_or reply)) events out u.sound lawful well by runs in
      let next : Moment = next_moment x c.event in
      elim c.served as (λ _. Over out (moment_after x events)) [
        | inr (why, told, reason) ↦ absurd (not_missing Synced x u reason.1)
        | inl told ↦
            let y = install_does x u.sound n u.stays.new u.stays.turns.now me c.event flat u.has c.asked (subst (λ r. Answers x.state me (InstallFlat flat) r c.event.after) told c.answers) in
            let on = subst (λ r. Runs me (done (done_or r)) c.rest out) told c.runs in
            let last : next ≡ moment_after x events = ap (moment_after next) (sym (over_alone me (Ok tt) c.rest out c.by on)) ∙ c.ends in
            (sym (ended me (Ok tt) c.rest out on), subst (StaysSo n 1 old start) last (stays_on n 1 old start x next u.stays y))
      ]

  sync_ends : (x : Moment) → Underway Put x → (events : List Event) (out : Result (Unit {0}) Stuck) → IsLawful x.state events → GoesWell me events → AreBy me events → Runs me (syncs_flat flat) events out → Over out (moment_after x events)
  sync_ends x u events out lawful well by runs =
      let c = first_call x me (SyncFlat flat) (if_done (installs flat)) events out u.sound lawful well by runs in
      let next : Moment = next_moment x c.event in
      elim c.served as (λ _. Over out (moment_after x events)) [
        | inr (why, told, reason) ↦ absurd (not_missing Put x u reason.1)
        | inl told ↦
            let y = sync_does x u.sound n u.stays.new u.stays.turns.now me c.event flat u.has c.asked (subst (λ r. Answers x.state me (SyncFlat flat) r c.event.after) told c.answers) in
            let then_u : Underway Synced next = record { sound = c.sound; had = container_then x c.event c.rest u.sound c.whole u.had; stays = stays_on n 1 old start x next u.stays y.0; has = y.1 } in
            subst (Over out) c.ends (install_ends next then_u c.rest out c.whole.2 c.well c.by (subst (λ r. Runs me (if_done (installs flat) r) c.rest out) told c.runs))
      ]

  -- ---- its bytes are put

  abbrev Ends : Result (Unit {0}) Stuck → Moment → Type 0
  Ends out last = (out ≡ Ok tt) × IsInstalled last

  right_now : (x : Moment) (u : Underway Begun x) (e : Event) (rest : List Event) → IsLawful x.state (e ∷ rest) → e.caller ≡ me → e.ask ≡ unbroken (PutFlat flat bytes) → IsRightFlat u.stays.new bytes
  right_now x u e rest whole own asked =
      let may : May x.state me (unbroken (PutFlat flat bytes)) = subst (May x.state me) asked (subst (λ k. May x.state k e.ask) own whole.0) in
      let there : slice_get u.sound.shape.tree.rooms n ≡ Some u.stays.new = sym (ap (λ t. room_told t n) u.sound.shape.told) ∙ u.stays.turns.now in
      let put : MayPut u.has.f bytes u.stays.new = may.owes u.sound.clean u.has.f (found_flat me n flat Begun x.state.table u.has) u.sound.shape.tree u.stays.new u.sound.shape.told (subst (λ k. slice_get u.sound.shape.tree.rooms k ≡ Some u.stays.new) (sym u.has.room) there) in
      subst (λ k. IsRightFor u.stays.new k bytes) u.has.makes put.right

  put_ends : (x : Moment) → Underway Begun x → (events : List Event) (out : Result (Unit {0}) Stuck) → IsLawful x.state events → GoesWell me events → AreBy me events → Runs me (puts flat bytes) events out → Ends out (moment_after x events)
  put_ends x u events out lawful well by runs =
      let c = first_call x me (PutFlat flat bytes) (if_done (syncs_flat flat)) events out u.sound lawful well by runs in
      let next : Moment = next_moment x c.event in
      elim c.served as (λ _. Ends out (moment_after x events)) [
        | inr (why, told, reason) ↦ absurd (not_missing Begun x u reason.1)
        | inl told ↦
            let y = put_does x u.sound n u.stays.new u.stays.turns.now me c.event flat bytes u.has c.asked (subst (λ r. Answers x.state me (PutFlat flat bytes) r c.event.after) told c.answers) in
            let then_u : Underway Put next = record { sound = c.sound; had = container_then x c.event c.rest u.sound c.whole u.had; stays = stays_on n 1 old start x next u.stays y.0; has = y.1 } in
            let over = sync_ends next then_u c.rest out c.whole.2 c.well c.by (subst (λ r. Runs me (if_done (syncs_flat flat) r) c.rest out) told c.runs) in
            let last : StaysSo n 1 old start (moment_after x events) = subst (StaysSo n 1 old start) c.ends over.1 in
            (over.0, record { put = x; sound = u.sound; then_so = u.stays; right = right_now x u c.event c.rest c.whole c.own c.asked; stays = last })
      ]

  -- ---- droppings are synced

  -- one of them, and what follows
  one_ends : (host writer : ℕ) (is_log : Bool) (after : Tries (Unit {0})) (x : Moment) → Underway Begun x → (events : List Event) (out : Result (Unit {0}) Stuck) → IsLawful x.state events → GoesWell me events → AreBy me events → Runs me (ask (SyncDropping n host writer is_log) (if_done after)) events out
      → ((y : Moment) → Underway Begun y → (rest : List Event) → IsLawful y.state rest → GoesWell me rest → AreBy me rest → Runs me after rest out → Ends out (moment_after y rest)) → Ends out (moment_after x events)
  one_ends host writer is_log after x u events out lawful well by runs goes =
      let c = first_call x me (SyncDropping n host writer is_log) (if_done after) events out u.sound lawful well by runs in
      let next : Moment = next_moment x c.event in
      elim c.served as (λ _. Ends out (moment_after x events)) [
        | inr (why, told, reason) ↦ absurd (unchecked x u.sound n u.had why reason)
        | inl told ↦
            let y = dropping_does x u.sound n u.stays.new u.stays.turns.now me c.event host writer is_log c.asked (subst (λ r. Answers x.state me (SyncDropping n host writer is_log) r c.event.after) told c.answers) in
            let then_u : Underway Begun next = record { sound = c.sound; had = container_then x c.event c.rest u.sound c.whole u.had; stays = stays_on n 1 old start x next u.stays y.0; has = flat_kept me n flat Begun x.state.table c.event.after.table y.1 u.has } in
            subst (Ends out) c.ends (goes next then_u c.rest c.whole.2 c.well c.by (subst (λ r. Runs me (if_done after r) c.rest out) told c.runs))
      ]

  syncs_end : (ds : List Dropping) (x : Moment) → Underway Begun x → (events : List Event) (out : Result (Unit {0}) Stuck) → IsLawful x.state events → GoesWell me events → AreBy me events → Runs me (syncs n flat bytes ds) events out → Ends out (moment_after x events)
  syncs_end [] x u events out lawful well by runs = put_ends x u events out lawful well by runs
  syncs_end (d ∷ ds) x u events out lawful well by runs =
      one_ends d.host d.writer true (syncs_index n d (syncs n flat bytes ds)) x u events out lawful well by runs
      (λ y v rest lawful_so well_so by_so on.
      one_ends d.host d.writer false (syncs n flat bytes ds) y v rest out lawful_so well_so by_so on
      (λ z w more lawful_then well_then by_then then_on. syncs_end ds z w more out lawful_then well_then by_then then_on))

-- ---- all of it

module _ (start : Moment) (old : Room) (me n flat : ℕ) (index : Flat) (x : Moment) (u : Underway start old me n flat (flat_spelling index) Begun x) (taken : IsTaken n index x.state) where
  -- What was gathered is listed again, synced and installed.
  pub installed_so : (events : List Event) (out : Result (Unit {0}) Stuck) → IsLawful x.state events → GoesWell me events → AreBy me events → Runs me (install_program n flat index.covers (flat_spelling index)) events out
      → (out ≡ Ok tt) × IsInstalled start old me n flat (flat_spelling index) (moment_after x events)
  installed_so events out lawful well by runs =
      let bytes : List ℕ = flat_spelling index in
      let two = runs_in_two me (scan_program n) (on_ok (syncs_listed n flat index.covers bytes)) events out runs in
      let whole : IsLawful x.state (two.first ++ two.rest) = subst (IsLawful x.state) two.all lawful in
      let went : GoesWell me (two.first ++ two.rest) = subst (GoesWell me) two.all well in
      let mine : AreBy me (two.first ++ two.rest) = subst (AreBy me) two.all by in
      let l1 = legal_first x two.first two.rest whole in
      let next : Moment = moment_after x two.first in
      let e = scan_ends n me x two.first two.value u.sound u.had l1 (well_first me two.first two.rest went) (by_first me two.first two.rest mine) two.runs in
      let listing : Listing = e.0.0 in
      let scans : Runs me (scan_program n) two.first (Ok listing) = subst (Runs me (scan_program n) two.first) e.0.1 two.runs in
      let f = taken_finds me n index x two.first listing l1 u.sound scans taken in
      let on : Runs me (syncs_listed n flat index.covers bytes listing) two.rest out = subst (λ v. Runs me (on_ok (syncs_listed n flat index.covers bytes) v) two.rest out) e.0.1 two.then_runs in
      let then_u : Underway start old me n flat bytes Begun next = record {
        sound = sound_after x two.first l1 u.sound;
        had = had_alike x u.sound n u.had next e.1;
        stays = stays_on n 1 old start x next u.stays (stays_alike n u.stays.new x next u.stays.turns.now e.1);
        has = flat_kept me n flat Begun x.state.table next.state.table e.1.table u.has;
      } in
      let last : moment_after next two.rest ≡ moment_after x events = sym (ap (moment_after x) two.all ∙ moment-append x two.first two.rest) in
      subst (λ y. (out ≡ Ok tt) × IsInstalled start old me n flat bytes y) last
      (syncs_end start old me n flat bytes f.0 next then_u two.rest out (legal_rest x two.first two.rest whole) (well_rest me two.first two.rest went) (by_rest me two.first two.rest mine) (subst (λ found. Runs me (syncs_covered n flat bytes found) two.rest out) f.1 on))

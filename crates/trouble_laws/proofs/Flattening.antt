-- A flattening shows no damage.
use Rattle.std.proofs.Common.{◌≡◌, ℕ, true, false, List, [], ◌∷◌, ◌++◌, Option, Some, None, refl, ap, sym, ◌∙◌, inl, inr, subst, append_assoc}
use Rattle.std.specs.Prelude.{Result, Ok, Err}
use Rattle.flat_format.specs.declared.flat.Flat.{Flat}
use Rattle.flat_format.specs.Spelling.{flat_spelling}
use Rattle.mount_model.specs.declared.call.Call.TheVariants.{Find, InstallFlat, PutFlat, StartFlat, SyncDropping, SyncFlat}
use Rattle.mount_model.specs.declared.reply.Reply.{Reply}
use Rattle.mount_model.specs.declared.reply.Reply.TheVariants as reply_of
use Rattle.mount_model.specs.declared.reply.Reply.TheVariants.{Done}
use Rattle.mount_model.specs.History.{Event}
use Rattle.mount_model.specs.State.{State}
use Rattle.mount_sound.specs.Owed.{IsLawful}
use Rattle.mount_undamaged.specs.Damage.{ShowsNoDamage}
use Rattle.mount_model.specs.Program.{done, followed_by}
use Rattle.mount_model.specs.declared.stuck.Stuck.{Stuck}
use Rattle.mount_model.specs.declared.stuck.Stuck.TheVariants as stuck
use Rattle.mount_model.specs.Running.{Runs}
use Rattle.mount_model.proofs.Flows.Facts.{runs_in_two}
use Rattle.mount_model.specs.FlowReplies.{Tries, failure, given, on_ok, room_in, on_ok as then_on_ok}
use Rattle.index_reader.specs.declared.listing.Dropping.{Dropping as Listed}
use Rattle.index_reader.specs.declared.listing.Listing.{Listing}
use Rattle.index_reader.specs.declared.sharing.Share.{Share}
use Rattle.index_reader.specs.Opening.{no_flat, open_at_program, scan_program}
use Rattle.index_reader.specs.Sharing.{share_program}
use Rattle.index_reader.specs.Truncs.{trunc_program}
use Rattle.reader_laws.specs.Moments.{Moment, IsSoundAt, Grows, moment_after}
use Rattle.reader_laws.specs.Seen.{calls_of}
use Rattle.reader_laws.proofs.Gathered.Facts.{grows_after, legal_first, legal_rest, moment-append, sound_after}
use Rattle.gather_flow.specs.declared.all_read.AllRead.{AllRead}
use Rattle.gather_flow.specs.Dealing.{dealt_to}
use Rattle.gather_flow.specs.Gathering.{if_truncs_listed, reads_truncs, shares_from}
use Rattle.gather_flow.specs.OneIndex.{flat_of}
use Rattle.flatten_core.specs.declared.flattening.Flattened.{Flattened}
use Rattle.flatten_core.specs.declared.starting.Started.{Started}
use Rattle.flatten_core.specs.Flattening.{flatten_program, flattened, gathers, installs_gathered, installs_index, lists, tells}
use Rattle.flatten_core.specs.Installing.{done_or, if_done, install_program, installs, puts, syncs, syncs_both, syncs_covered, syncs_flat, syncs_index, syncs_listed}
use Rattle.flatten_core.specs.Starting.{begins, begun}
use Rattle.flatten_laws.proofs.Facts.{IsTaken, gathered_taken, one_listed, taken_finds}
use Rattle.reader_laws.specs.Failing.{FailsOrLacks, IsContainerAt}
use Rattle.reader_laws.specs.Listing.{HasListed}
use Rattle.reader_laws.proofs.Facts.{at_run, container_later, listed_container, listing_fails, listing_run, shares_fail, top_fails, truncates_fail}
use Rattle.trouble_laws.specs.Undamaged.{IsNoDamage, IsUndamaged}
use Rattle.trouble_laws.proofs.Finding.{failure_plain}
use Rattle.trouble_laws.proofs.Walking.{Ends, ends_call, ends_done}

-- ---- troubles that are no damage

pub fault_plain : (why : Stuck) → why ≡ stuck.Fault → IsNoDamage why
fault_plain why is = subst IsNoDamage (sym is) tt

fails_plain : (caller : ℕ) (start : State) (events : List Event) (why : Stuck) → FailsOrLacks caller start events why → IsNoDamage why
fails_plain caller start events why (inl fails) = fault_plain why fails.0
fails_plain caller start events why (inr lacks) = subst IsNoDamage (sym lacks) tt

pub plain_if : {A : Type 0} (value : Result A Stuck) → ((why : Stuck) → value ≡ Err why → IsNoDamage why) → IsUndamaged value
plain_if (Ok a) each = tt
plain_if (Err why) each = each why refl

-- it goes on with what came, or ends with the trouble
module _ {A R : Type 0} (caller : ℕ) (next : A → Tries R) where
  plain_then : (value : Result A Stuck) (rest : List Event) (result : Result R Stuck) → IsUndamaged value → ((a : A) → value ≡ Ok a → Runs caller (next a) rest result → IsUndamaged result) → Runs caller (on_ok next value) rest result → IsUndamaged result
  plain_then (Ok a) rest result plain goes runs = goes a refl runs
  plain_then (Err why) rest result plain goes runs = subst IsUndamaged runs.1 plain

  plain_behind : (value : Result A Stuck) (rest : List Event) (result : Result R Stuck) → IsUndamaged value → ((a : A) → value ≡ Ok a → Runs caller (next a) rest result → IsUndamaged result) → Runs caller (then_on_ok next value) rest result → IsUndamaged result
  plain_behind (Ok a) rest result plain goes runs = goes a refl runs
  plain_behind (Err why) rest result plain goes runs = subst IsUndamaged runs.1 plain

-- ---- what was gathered is synced and installed

module _ (caller room flat : ℕ) (bytes : List ℕ) where
  abbrev StepEnds : Tries (Unit {0}) → Type 0
  StepEnds program = (state : State) → Ends caller IsUndamaged program state

  if_done_ends : (next : Tries (Unit {0})) → StepEnds next → (reply : Reply) → ShowsNoDamage reply → StepEnds (if_done next reply)
  if_done_ends next on Done shows = on
  if_done_ends next on reply shows = ends_done caller IsUndamaged (Err (failure reply)) (failure_plain reply shows)

  done_or_plain : (reply : Reply) → ShowsNoDamage reply → IsUndamaged (done_or reply)
  done_or_plain Done shows = tt
  done_or_plain reply shows = failure_plain reply shows

  installs_end : StepEnds (installs flat)
  installs_end = ends_call caller IsUndamaged (InstallFlat flat) (λ reply. done (done_or reply)) (λ reply shows. ends_done caller IsUndamaged (done_or reply) (done_or_plain reply shows))

  syncs_flat_end : StepEnds (syncs_flat flat)
  syncs_flat_end = ends_call caller IsUndamaged (SyncFlat flat) (if_done (installs flat)) (if_done_ends (installs flat) installs_end)

  puts_end : StepEnds (puts flat bytes)
  puts_end = ends_call caller IsUndamaged (PutFlat flat bytes) (if_done (syncs_flat flat)) (if_done_ends (syncs_flat flat) syncs_flat_end)

  syncs_both_end : (d : Listed) (next : Tries (Unit {0})) → StepEnds next → StepEnds (syncs_both room d next)
  syncs_both_end d next on = ends_call caller IsUndamaged (SyncDropping room d.host d.writer true) (if_done (syncs_index room d next)) (if_done_ends (syncs_index room d next)
      (ends_call caller IsUndamaged (SyncDropping room d.host d.writer false) (if_done next) (if_done_ends next on)))

  syncs_end : (ds : List Listed) → StepEnds (syncs room flat bytes ds)
  syncs_end [] = puts_end
  syncs_end (d ∷ ds) = syncs_both_end d (syncs room flat bytes ds) (syncs_end ds)

module _ (caller : ℕ) (started : Started) (index : Flat) (m : Moment) (sound : IsSoundAt m) (container : IsContainerAt m started.room) (taken : IsTaken started.room index m.state) where
  abbrev Bytes : List ℕ
  Bytes = flat_spelling index

  -- each covered writer is found, so what is left is to sync and install
  install_plain : (events : List Event) (result : Result (Unit {0}) Stuck) → IsLawful m.state events → Runs caller (install_program started.room started.flat index.covers Bytes) events result → IsUndamaged result
  install_plain events result lawful runs =
      let t = runs_in_two caller (scan_program started.room) (on_ok (syncs_listed started.room started.flat index.covers Bytes)) events result runs in
      let whole : IsLawful m.state (t.first ++ t.rest) = subst (IsLawful m.state) t.all lawful in
      let l1 = legal_first m t.first t.rest whole in
      let end : Moment = moment_after m t.first in
      plain_then caller (syncs_listed started.room started.flat index.covers Bytes) t.value t.rest result
      (plain_if t.value (λ why is. fault_plain why (top_fails caller started.room 0 no_flat m t.first why sound container tt l1 (subst (Runs caller (scan_program started.room) t.first) is t.runs)).0))
      (λ listing is goes.
      let f = taken_finds caller started.room index m t.first listing l1 sound (subst (Runs caller (scan_program started.room) t.first) is t.runs) taken in
      let on : Runs caller (syncs started.room started.flat Bytes f.0) t.rest result = subst (λ found. Runs caller (syncs_covered started.room started.flat Bytes found) t.rest result) f.1 goes in
      syncs_end caller started.room started.flat Bytes f.0 end.state end.issued t.rest result (legal_rest m t.first t.rest whole) (sound_after m t.first l1 sound) on)
      t.then_runs

  installs_plain : (events : List Event) (result : Result Flattened Stuck) → IsLawful m.state events → Runs caller (installs_index started index) events result → IsUndamaged result
  installs_plain events result lawful runs =
      let t = runs_in_two caller (install_program started.room started.flat index.covers Bytes) (tells (flattened started index)) events result runs in
      let whole : IsLawful m.state (t.first ++ t.rest) = subst (IsLawful m.state) t.all lawful in
      plain_then caller (λ installed. done (Ok (flattened started index))) t.value t.rest result (install_plain t.first t.value (legal_first m t.first t.rest whole) t.runs) (λ installed is goes. subst IsUndamaged goes.1 tt) t.then_runs

-- ---- it is gathered

module _ (caller : ℕ) (started : Started) (m : Moment) (sound : IsSoundAt m) (scanning : List Event) (listing : Listing) (listed : Runs caller (open_at_program started.room) scanning (Ok listing)) where
  abbrev One : Tries Share
  One = share_program listing.room (dealt_to 1 0 0 listing.droppings) listing.flat.covers

  truncs_plain : (shares : List Share) (between reading : List Event) (result : Result AllRead Stuck) → IsLawful m.state (scanning ++ (between ++ reading)) → Runs caller (reads_truncs listing shares) reading result → IsUndamaged result
  truncs_plain shares between reading result lawful runs =
      let t = runs_in_two caller (trunc_program listing.room) (then_on_ok (if_truncs_listed listing shares)) reading result runs in
      let same : scanning ++ (between ++ reading) ≡ (scanning ++ (between ++ t.first)) ++ t.rest =
      ap (λ es. scanning ++ (between ++ es)) t.all ∙ ap (λ es. scanning ++ es) (sym (append_assoc between t.first t.rest)) ∙ sym (append_assoc scanning (between ++ t.first) t.rest) in
      let l1 = legal_first m (scanning ++ (between ++ t.first)) t.rest (subst (IsLawful m.state) same lawful) in
      plain_behind caller (if_truncs_listed listing shares) t.value t.rest result
      (plain_if t.value (λ why is. fault_plain why (truncates_fail caller caller (open_at_program started.room) m scanning between t.first listing why l1 sound (inr (started.room, refl)) listed (subst (Runs caller (trunc_program listing.room) t.first) is t.runs)).0))
      (λ truncs is goes. subst IsUndamaged goes.1 tt)
      t.then_runs

  reads_plain : (reading : List Event) (result : Result AllRead Stuck) → IsLawful m.state (scanning ++ reading) → Runs caller (shares_from 1 listing 0 []) reading result → IsUndamaged result
  reads_plain reading result lawful runs =
      let next : Share → Tries AllRead = λ share. reads_truncs listing ([] ++ share ∷ []) in
      let t = runs_in_two caller One (then_on_ok next) reading result runs in
      let whole : IsLawful m.state (scanning ++ (t.first ++ t.rest)) = subst (λ es. IsLawful m.state (scanning ++ es)) t.all lawful in
      let l1 = legal_first m (scanning ++ t.first) t.rest (subst (IsLawful m.state) (sym (append_assoc scanning t.first t.rest)) whole) in
      plain_behind caller next t.value t.rest result
      (plain_if t.value (λ why is. fault_plain why
      (shares_fail caller caller (open_at_program started.room) m scanning [] t.first listing (dealt_to 1 0 0 listing.droppings) why l1 sound (inr (started.room, refl)) listed (one_listed listing.droppings) (subst (Runs caller One t.first) is t.runs)).0))
      (λ share is goes. truncs_plain (share ∷ []) t.first t.rest result whole goes)
      t.then_runs

  gathers_plain : (more : List Event) (result : Result Flattened Stuck) → IsLawful m.state (scanning ++ more) → Runs caller (gathers started listing) more result → IsUndamaged result
  gathers_plain more result lawful runs =
      let t = runs_in_two caller (shares_from 1 listing 0 []) (on_ok (installs_gathered started)) more result runs in
      let until : List Event = scanning ++ t.first in
      let whole : IsLawful m.state (until ++ t.rest) = subst (IsLawful m.state) (ap (λ es. scanning ++ es) t.all ∙ sym (append_assoc scanning t.first t.rest)) lawful in
      let l1 = legal_first m until t.rest whole in
      let l0 = legal_first m scanning t.first l1 in
      let middle : Moment = moment_after m scanning in
      let end : Moment = moment_after m until in
      let h : HasListed listing (calls_of caller scanning) = listing_run caller (open_at_program started.room) m scanning listing l0 sound (inr (started.room, refl)) listed in
      let grows : Grows middle end = subst (Grows middle) (sym (moment-append m scanning t.first)) (grows_after middle t.first (legal_rest m scanning t.first l1) (sound_after m scanning l0 sound)) in
      let here : listing.room ≡ started.room = (at_run caller started.room m scanning listing l0 sound listed).room_is in
      let container : IsContainerAt end started.room = subst (IsContainerAt end) here (container_later middle end listing.room grows (listed_container caller m scanning listing h l0 sound)) in
      plain_then caller (installs_gathered started) t.value t.rest result (reads_plain t.first t.value l1 t.runs)
      (λ all is goes.
      let taken : IsTaken started.room (flat_of all.listed all.shares) end.state = gathered_taken caller started.room m scanning t.first listing all l1 sound listed (subst (Runs caller (shares_from 1 listing 0 []) t.first) is t.runs) in
      installs_plain caller started (flat_of all.listed all.shares) end (sound_after m until l1 sound) container taken t.rest result (legal_rest m until t.rest whole) goes)
      t.then_runs

-- ---- the whole

module _ (caller : ℕ) where
  lists_end : (started : Started) (state : State) → Ends caller IsUndamaged (lists started) state
  lists_end started state issued events result lawful s runs =
      let m : Moment = record { state = state; issued = issued } in
      let program : Tries Listing = open_at_program started.room in
      let t = runs_in_two caller program (on_ok (gathers started)) events result runs in
      let whole : IsLawful state (t.first ++ t.rest) = subst (IsLawful state) t.all lawful in
      let l1 = legal_first m t.first t.rest whole in
      plain_then caller (gathers started) t.value t.rest result
      (plain_if t.value (λ why is. fails_plain caller state t.first why (listing_fails caller program m t.first why l1 s (inr (started.room, refl)) (subst (Runs caller program t.first) is t.runs))))
      (λ listing is goes. gathers_plain caller started m s t.first listing (subst (Runs caller program t.first) is t.runs) t.rest result whole goes)
      t.then_runs

  begun_ends : (room : ℕ) (reply : Reply) → ShowsNoDamage reply → (state : State) → Ends caller IsUndamaged (on_ok lists (begun room reply)) state
  begun_ends room (reply_of.Started flat) shows = lists_end (record { room = room; flat = flat })
  begun_ends room reply shows = ends_done caller IsUndamaged (Err (failure reply)) (failure_plain reply shows)

  found_begins : (found : Option ℕ) (why : Stuck) → IsNoDamage why → (state : State) → Ends caller IsUndamaged (followed_by (given found why begins) (on_ok lists)) state
  found_begins None why plain = ends_done caller IsUndamaged (Err why) plain
  found_begins (Some room) why plain = ends_call caller IsUndamaged (StartFlat room) (λ reply. on_ok lists (begun room reply)) (begun_ends room)

  pub flatten_ends : (name : List ℕ) (state : State) → Ends caller IsUndamaged (flatten_program name) state
  flatten_ends name = ends_call caller IsUndamaged (Find name) (λ reply. followed_by (given (room_in reply) (failure reply) begins) (on_ok lists))
      (λ reply shows. found_begins (room_in reply) (failure reply) (failure_plain reply shows))

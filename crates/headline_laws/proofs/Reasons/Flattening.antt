-- Which refusals the program of a flattening ends in, whatever is answered: that there is no such file, or no id is left.
use Rattle.std.proofs.Common.{◌≡◌, inl, inr, ℕ, ◌-◌, nat_eq, Bool, true, false, List, [], ◌∷◌, ◌++◌, Some, None, Result, Ok, Err, refl, sym, ap, ◌∙◌, subst, arith, if◌then◌else◌}
use Rattle.std.specs.Prelude.{◌==◌, ◌&&◌}
use Rattle.std.specs.List.{range_with_len}
use Rattle.std.proofs.lemmas.Bool.Decides.{nat_tests}
use Rattle.plfs_types.specs.declared.entries.Cover.{Cover}
use Rattle.flat_format.specs.declared.flat.Flat.{Flat}
use Rattle.flat_format.specs.declared.flat.TheConstants.{HEAD_SIZE}
use Rattle.flat_format.specs.Spelling.{flat_spelling}
use Rattle.store_api.specs.declared.step.Answer.TheVariants as answer
use Rattle.store_api.specs.declared.store.Trouble.TheVariants as trouble_is
use Rattle.mount_model.specs.Program.{ask, done, followed_by}
use Rattle.mount_model.specs.declared.call.Call.{Call}
use Rattle.mount_model.specs.declared.call.Call.TheVariants.{Look, PutFlat, StartFlat, SyncDropping, SyncFlat}
use Rattle.mount_model.specs.declared.reply.Refusal.{Refusal}
use Rattle.mount_model.specs.declared.reply.Refusal.TheVariants as refusal
use Rattle.mount_model.specs.declared.reply.Reply.{Reply}
use Rattle.mount_model.specs.declared.reply.Reply.TheVariants as reply
use Rattle.mount_model.specs.declared.row.Flattening.{Flattening}
use Rattle.mount_model.specs.declared.row.FlatStage.{FlatStage}
use Rattle.mount_model.specs.declared.row.FlatStage.TheVariants.{Begun, Put, Synced}
use Rattle.mount_model.specs.declared.row.Making.TheVariants as making
use Rattle.mount_model.specs.Entering.{draw_check}
use Rattle.mount_model.specs.Flattening.{Starts, begun_flat, come_to, put_flat_outcome, put_flat_step, start_outcome, sync_flat_outcome, sync_flat_step}
use Rattle.mount_model.specs.Making.{MakesAct, Refuses, Told}
use Rattle.mount_model.specs.Paths.{Name}
use Rattle.mount_model.specs.State.{State, Table}
use Rattle.mount_model.specs.Table.{flat_rank, flattening_at, flattening_of, its_flattening, with_flattening}
use Rattle.mount_model.proofs.Facts.{IsUnderway, answers_turn, flattening_at-push, flattening_at-with_flattening, is_underway, match_cases, next_not_flattened}
use Rattle.mount_model.specs.declared.stuck.Stuck.{Stuck}
use Rattle.mount_model.specs.declared.stuck.Stuck.TheVariants as stuck
use Rattle.mount_model.specs.FlowReplies.{Tries, failure, given, on_ok, room_in}
use Rattle.index_reader.specs.declared.listing.Dropping.{Dropping}
use Rattle.index_reader.specs.declared.listing.Listing.{Listing}
use Rattle.index_reader.specs.Opening.{no_flat, open_at_program, scan_program}
use Rattle.index_reader.specs.Truncs.{trunc_program}
use Rattle.gather_flow.specs.declared.all_read.AllRead.{AllRead}
use Rattle.gather_flow.specs.Gathering.{if_truncs_listed, reads_truncs, shares_from}
use Rattle.gather_flow.specs.OneIndex.{flat_of}
use Rattle.flatten_core.specs.declared.flattening.Flattened.{Flattened}
use Rattle.flatten_core.specs.declared.starting.Started.{Started}
use Rattle.flatten_core.specs.Covered.{covered}
use Rattle.flatten_core.specs.Flattening.{flatten_program, flattened, gathers, installs_gathered, lists, tells}
use Rattle.flatten_core.specs.Installing.{done_or, if_done, install_program, installs, puts, syncs, syncs_covered, syncs_flat, syncs_index, syncs_listed}
use Rattle.flatten_core.specs.Starting.{begins, begun}
use Rattle.reader_laws.specs.Moments.{Moment}
use Rattle.headline_laws.proofs.Reasons.Goes.{EndsSo, Fact, Goes, IsSo, IsTroubleSo, Stepped, anything, flattens}
use Rattle.headline_laws.proofs.Reasons.Holds.{draw_so, failure_so, roomed_so}
use Rattle.headline_laws.proofs.Reasons.Looks.{Anywhere, IsFine, IsLacking, IsLooking, Seeks, each_looks, look_fine, open_at_looks, then_goes, through, top_looks, truncs_look}

abbrev pub MayRefuseFlatten : Refusal → Type 0
MayRefuseFlatten refusal.NoRoom = Unit {0}
MayRefuseFlatten refusal.IdsSpent = Unit {0}
MayRefuseFlatten other = ⊥

-- it ended so, or with such a refusal
abbrev pub FlattenedSo : Result Flattened Stuck → Type 0
FlattenedSo = EndsSo (λ (f : Flattened). Unit {0}) MayRefuseFlatten

-- what is lacking is such a refusal
lacking : (why : Stuck) → IsTroubleSo IsLacking why → IsTroubleSo MayRefuseFlatten why
lacking stuck.Fault fine = tt
lacking (stuck.Damaged folder file place) fine = tt
lacking (stuck.Refused why) fine = subst MayRefuseFlatten (sym fine) tt

module _ (n : ℕ) where
  -- ---- the flattening at each stage

  flat_held : (id : ℕ) (at : FlatStage) (m : Moment) → nat_eq (flat_rank at) (flat_rank at) ≡ true → IsSo n (flattens id at) m → flattening_of n at id m.state.table.flattenings ≡ None → ⊥
  flat_held id at m same (f, u) none = let clash : Some f ≡ None = sym (its f u.found u.owned u.staged) ∙ none in cc
    where
      its : (f : Flattening) → flattening_at id m.state.table.flattenings ≡ Some f → f.owner ≡ n → f.stage ≡ at → flattening_of n at id m.state.table.flattenings ≡ Some f
      its f found owned staged =
          let is : nat_eq f.owner n ≡ true = grind (arith, nat_tests) in
          ap (its_flattening n at) found ∙ ap (λ b. if b && flat_rank f.stage == flat_rank at then Some f else None) is ∙ ap (λ (s : FlatStage). if flat_rank s == flat_rank at then Some f else None) staged ∙ ap (λ b. if b then Some f else None) same

  started_made : (f : Flattening) (table : Table) (told : Told) (id : ℕ) → reply.Started id ≡ (start_outcome f table told).reply → (f.id ≡ id) × ((start_outcome f table told).table.flattenings ≡ table.flattenings ++ f ∷ [])
  started_made f table (Ok answer.Made) id e = (cc, refl)
  started_made f table (Ok answer.NoRoom) id e = absurd (cc)
  started_made f table (Ok answer.NoFolder) id e = absurd (cc)
  started_made f table (Ok other) id e = absurd (cc)
  started_made f table (Err trouble_is.Fault) id e = absurd (cc)
  started_made f table (Err trouble_is.NoMemory) id e = absurd (cc)

  started_then : (room id : ℕ) (m next : Moment) → Stepped n m (StartFlat room) (reply.Started id) next → IsSo n (flattens id Begun) next
  started_then room id m next s = elim (match_cases (draw_check m.state room) (Starts n room making.Flat m.state (reply.Started id) next.state) (λ why. Refuses why m.state (reply.Started id) next.state) s.answers) as (λ _. IsSo n (flattens id Begun) next) [
    | inr (why, some, refused) ↦ absurd (let clash : reply.Started id ≡ reply.Refused why = refused.0 in cc)
    | inl (none, does) ↦
        let mine : Flattening = begun_flat m.state n room making.Flat in
        let p = started_made mine m.state.table does.told id does.answered in
        let table : next.state.table.flattenings ≡ m.state.table.flattenings ++ mine ∷ [] = ap (λ (x : State). x.table.flattenings) does.after ∙ p.1 in
        let found : flattening_at mine.id (m.state.table.flattenings ++ mine ∷ []) ≡ Some mine = flattening_at-push m.state.table.flattenings mine (next_not_flattened m.state.mount m.state.serial m.state.marks m.state.table.flattenings s.sound.regular.flattenings) in
        (mine, record { found = ap (flattening_at id) table ∙ ap (λ k. flattening_at k (m.state.table.flattenings ++ mine ∷ [])) (sym p.0) ∙ found; is = p.0; owned = refl; staged = refl })
  ]

  put_made : (f : Flattening) (table : Table) (told : Told) → reply.Done ≡ (put_flat_outcome f table told).reply → (put_flat_outcome f table told).table ≡ come_to Put f table
  put_made f table (Ok answer.Made) e = refl
  put_made f table (Ok answer.NoRoom) e = absurd (cc)
  put_made f table (Ok answer.NoFolder) e = absurd (cc)
  put_made f table (Ok other) e = absurd (cc)
  put_made f table (Err trouble_is.Fault) e = absurd (cc)
  put_made f table (Err trouble_is.NoMemory) e = absurd (cc)

  sync_made : (f : Flattening) (table : Table) (told : Told) → reply.Done ≡ (sync_flat_outcome f table told).reply → (sync_flat_outcome f table told).table ≡ come_to Synced f table
  sync_made f table (Ok answer.Made) e = refl
  sync_made f table (Ok answer.NoRoom) e = absurd (cc)
  sync_made f table (Ok answer.NoFolder) e = absurd (cc)
  sync_made f table (Ok other) e = absurd (cc)
  sync_made f table (Err trouble_is.Fault) e = absurd (cc)
  sync_made f table (Err trouble_is.NoMemory) e = absurd (cc)

  -- it came to the next stage
  came_to : (at : FlatStage) (id : ℕ) (stage : FlatStage) (f : Flattening) (m next : Moment) → IsUnderway n at id m.state.table.flattenings f → next.state.table ≡ come_to stage f m.state.table → IsSo n (flattens id stage) next
  came_to at id stage f m next u table =
      let new : Flattening = record f { stage = stage } in
      let there : flattening_at new.id (with_flattening new m.state.table.flattenings) ≡ Some new = flattening_at-with_flattening new m.state.table.flattenings f (ap (λ k. flattening_at k m.state.table.flattenings) u.is ∙ u.found) in
      (new, record { found = ap (λ (t : Table). flattening_at id t.flattenings) table ∙ ap (λ k. flattening_at k (with_flattening new m.state.table.flattenings)) (sym u.is) ∙ there; is = u.is; owned = u.owned; staged = refl })

  put_then : (id : ℕ) (bytes : List ℕ) (m next : Moment) → Stepped n m (PutFlat id bytes) reply.Done next → IsSo n (flattens id Put) next
  put_then id bytes m next s = elim (match_cases (flattening_of n Begun id m.state.table.flattenings) (Refuses refusal.NotOpen m.state reply.Done next.state) (λ f. MakesAct (put_flat_step f bytes) (put_flat_outcome f m.state.table) m.state reply.Done next.state) s.answers) as (λ _. IsSo n (flattens id Put) next) [
    | inl (none, refused) ↦ absurd (let clash : reply.Done ≡ reply.Refused refusal.NotOpen = refused.0 in cc)
    | inr (f, is, does) ↦ came_to Begun id Put f m next (is_underway n Begun id m.state.table.flattenings f is) (ap (λ (x : State). x.table) does.after ∙ put_made f m.state.table does.told does.answered)
  ]

  sync_then : (id : ℕ) (m next : Moment) → Stepped n m (SyncFlat id) reply.Done next → IsSo n (flattens id Synced) next
  sync_then id m next s = elim (match_cases (flattening_of n Put id m.state.table.flattenings) (Refuses refusal.NotOpen m.state reply.Done next.state) (λ f. MakesAct (sync_flat_step f) (sync_flat_outcome f m.state.table) m.state reply.Done next.state) s.answers) as (λ _. IsSo n (flattens id Synced) next) [
    | inl (none, refused) ↦ absurd (let clash : reply.Done ≡ reply.Refused refusal.NotOpen = refused.0 in cc)
    | inr (f, is, does) ↦ came_to Put id Synced f m next (is_underway n Put id m.state.table.flattenings f is) (ap (λ (x : State). x.table) does.after ∙ sync_made f m.state.table does.told does.answered)
  ]

  -- it stays while its caller looks, and while droppings are synced
  same_flat : (id : ℕ) (at : FlatStage) (m next : Moment) → next.state.table.flattenings ≡ m.state.table.flattenings → IsSo n (flattens id at) m → IsSo n (flattens id at) next
  same_flat id at m next same (f, u) = (f, record { found = ap (flattening_at id) same ∙ u.found; is = u.is; owned = u.owned; staged = u.staged })

  look_stays : (id : ℕ) (at : FlatStage) (call : Call) (m next : Moment) (rep : Reply) → IsLooking IsLacking Anywhere call → Stepped n m call rep next → IsSo n (flattens id at) m → IsSo n (flattens id at) next
  look_stays id at (Look room look) m next rep is s so = elim (answers_turn m.state n (Look room look) rep next.state s.answers).flattenings as (λ _. IsSo n (flattens id at) next) [
    | inl same ↦ same_flat id at m next same so
    | inr made ↦ absurd made
  ]
  look_stays id at call m next rep is s so = absurd is

  sync_stays : (id : ℕ) (at : FlatStage) (room host w : ℕ) (is_log : Bool) (m next : Moment) (rep : Reply) → Stepped n m (SyncDropping room host w is_log) rep next → IsSo n (flattens id at) m → IsSo n (flattens id at) next
  sync_stays id at room host w is_log m next rep s so = elim (answers_turn m.state n (SyncDropping room host w is_log) rep next.state s.answers).flattenings as (λ _. IsSo n (flattens id at) next) [
    | inl same ↦ same_flat id at m next same so
    | inr made ↦ absurd made
  ]

  -- ---- it installs

  abbrev Fine : Reply → Type 0
  Fine rep = (why : Refusal) → rep ≡ reply.Refused why → MayRefuseFlatten why

  module _ (told : Flattened) where
    abbrev Then : Fact → Tries (Unit {0}) → Type 0
    Then fact program = Goes n FlattenedSo fact (followed_by program (tells told))

    fails : (fact : Fact) (rep : Reply) → Fine rep → Then fact (done (Err (failure rep)))
    fails fact rep fine = failure_so MayRefuseFlatten rep fine

    ended : (rep : Reply) → Fine rep → Then anything (done (done_or rep))
    ended reply.Done fine = tt
    ended rep fine = failure_so MayRefuseFlatten rep fine

    installs_go : (id : ℕ) → Then (flattens id Synced) (installs id)
    installs_go id = λ m next rep s so. (anything, tt, ended rep (λ why is. absurd (flat_held id Synced m refl so (s.reason why is).1)))

    synced_goes : (id : ℕ) (rep : Reply) (m next : Moment) → Fine rep → Stepped n m (SyncFlat id) rep next → (after : Fact) × IsSo n after next × Then after (if_done (installs id) rep)
    synced_goes id reply.Done m next fine s = (flattens id Synced, sync_then id m next s, installs_go id)
    synced_goes id rep m next fine s = (anything, tt, fails anything rep fine)

    syncs_go : (id : ℕ) → Then (flattens id Put) (syncs_flat id)
    syncs_go id = λ m next rep s so. synced_goes id rep m next (λ why is. absurd (flat_held id Put m refl so (s.reason why is).1)) s

    put_goes : (id : ℕ) (bytes : List ℕ) (rep : Reply) (m next : Moment) → Fine rep → Stepped n m (PutFlat id bytes) rep next → (after : Fact) × IsSo n after next × Then after (if_done (syncs_flat id) rep)
    put_goes id bytes reply.Done m next fine s = (flattens id Put, put_then id bytes m next s, syncs_go id)
    put_goes id bytes rep m next fine s = (anything, tt, fails anything rep fine)

    puts_go : (id : ℕ) (bytes : List ℕ) → Then (flattens id Begun) (puts id bytes)
    puts_go id bytes = λ m next rep s so. put_goes id bytes rep m next (λ why is. absurd (flat_held id Begun m refl so (s.reason why is).1)) s

    -- after a dropping was synced
    done_goes : (id : ℕ) (program : Tries (Unit {0})) (rep : Reply) → Fine rep → Then (flattens id Begun) program → Then (flattens id Begun) (if_done program rep)
    done_goes id program reply.Done fine goes = goes
    done_goes id program rep fine goes = fails (flattens id Begun) rep fine

    sync_fine : (room host w : ℕ) (is_log : Bool) (m next : Moment) (rep : Reply) → Stepped n m (SyncDropping room host w is_log) rep next → Fine rep
    sync_fine room host w is_log m next rep s why is = subst MayRefuseFlatten (sym (roomed_so (room == m.state.marks) why (s.reason why is))) tt

    droppings_go : (room id : ℕ) (bytes : List ℕ) (ds : List Dropping) → Then (flattens id Begun) (syncs room id bytes ds)
    droppings_go room id bytes [] = puts_go id bytes
    droppings_go room id bytes (d ∷ ds) = λ m next rep s so. (
      flattens id Begun,
      sync_stays id Begun room d.host d.writer true m next rep s so,
      done_goes id (syncs_index room d (syncs room id bytes ds)) rep (sync_fine room d.host d.writer true m next rep s) (λ then_m then_next then_rep t then_so. (flattens id Begun, sync_stays id Begun room d.host d.writer false then_m then_next then_rep t then_so, done_goes id (syncs room id bytes ds) then_rep (sync_fine room d.host d.writer false then_m then_next then_rep t) (droppings_go room id bytes ds))),
    )

    covered_goes : (room id : ℕ) (bytes : List ℕ) (found : Result (List Dropping) ℕ) → Then (flattens id Begun) (syncs_covered room id bytes found)
    covered_goes room id bytes (Err place) = tt
    covered_goes room id bytes (Ok ds) = droppings_go room id bytes ds

    listed_goes : (room id : ℕ) (covers : List Cover) (bytes : List ℕ) (result : Result Listing Stuck) → IsFine result → Then (flattens id Begun) (on_ok (syncs_listed room id covers bytes) result)
    listed_goes room id covers bytes (Ok listing) fine = covered_goes room id bytes (covered listing.droppings HEAD_SIZE covers [])
    listed_goes room id covers bytes (Err why) fine = lacking why fine

    -- two programs, one behind the other, before what is told
    two_go : {A : Type 0} (id : ℕ) (p : Tries A) (then_on : Result A Stuck → Tries (Unit {0})) → Seeks IsLacking Anywhere p → ((result : Result A Stuck) → IsFine result → Then (flattens id Begun) (then_on result)) → Then (flattens id Begun) (followed_by p then_on)
    two_go id (done r) then_on seeks on = on r seeks
    two_go id (ask call k) then_on seeks on = λ m next rep s so. (flattens id Begun, look_stays id Begun call m next rep seeks.0 s so, two_go id (k rep) then_on (seeks.1 rep (look_fine n call seeks.0 m next rep s)) on)

    install_goes : (room id : ℕ) (covers : List Cover) (bytes : List ℕ) → Then (flattens id Begun) (install_program room id covers bytes)
    install_goes room id covers bytes = two_go id (scan_program room) (on_ok (syncs_listed room id covers bytes)) (top_looks IsLacking Anywhere room tt 0 no_flat) (listed_goes room id covers bytes)

  -- ---- all of it

  gathered_goes : (started : Started) (result : Result AllRead Stuck) → IsFine result → Goes n FlattenedSo (flattens started.flat Begun) (on_ok (installs_gathered started) result)
  gathered_goes started (Ok all) fine = let index : Flat = flat_of all.listed all.shares in install_goes (flattened started index) started.room started.flat index.covers (flat_spelling index)
  gathered_goes started (Err why) fine = lacking why fine

  all_seek : (listing : Listing) → Seeks IsLacking Anywhere (shares_from 1 listing 0 [])
  all_seek listing = each_looks IsLacking Anywhere 1 listing tt (range_with_len 0 (1 - 0)) [] (reads_truncs listing) (λ shares. then_goes IsLacking Anywhere (trunc_program listing.room) (if_truncs_listed listing shares) (truncs_look IsLacking Anywhere listing.room tt) (λ truncs. tt))

  gathers_go : (started : Started) (result : Result Listing Stuck) → IsFine result → Goes n FlattenedSo (flattens started.flat Begun) (on_ok (gathers started) result)
  gathers_go started (Ok listing) fine = through n (flattens started.flat Begun) FlattenedSo (look_stays started.flat Begun) (shares_from 1 listing 0 []) (on_ok (installs_gathered started)) (all_seek listing) (gathered_goes started)
  gathers_go started (Err why) fine = lacking why fine

  lists_go : (started : Started) → Goes n FlattenedSo (flattens started.flat Begun) (lists started)
  lists_go started = through n (flattens started.flat Begun) FlattenedSo (look_stays started.flat Begun) (open_at_program started.room) (on_ok (gathers started)) (open_at_looks IsLacking Anywhere started.room tt) (gathers_go started)

  start_fine : (room : ℕ) (m next : Moment) (rep : Reply) → Stepped n m (StartFlat room) rep next → Fine rep
  start_fine room m next rep s why is = elim (s.reason why is) as (λ _. MayRefuseFlatten why) [
    | inl check ↦ elim (draw_so m.state room why check) as (λ _. MayRefuseFlatten why) [
      | inl none ↦ subst MayRefuseFlatten (sym none) tt
      | inr spent ↦ subst MayRefuseFlatten (sym spent) tt
    ]
    | inr lacks ↦ subst MayRefuseFlatten (sym lacks.0) tt
  ]

  begun_goes : (room : ℕ) (rep : Reply) (m next : Moment) → Fine rep → Stepped n m (StartFlat room) rep next → (after : Fact) × IsSo n after next × Goes n FlattenedSo after (on_ok lists (begun room rep))
  begun_goes room (reply.Started id) m next fine s = (flattens id Begun, started_then room id m next s, lists_go (record { room = room; flat = id }))
  begun_goes room (reply.Refused why) m next fine s = (anything, tt, fine why refl)
  begun_goes room (reply.Damaged folder file) m next fine s = (anything, tt, tt)
  begun_goes room rep m next fine s = (anything, tt, tt)

  found_goes : (rep : Reply) → Fine rep → Goes n FlattenedSo anything (followed_by (given (room_in rep) (failure rep) begins) (on_ok lists))
  found_goes (reply.Room room) fine = λ m next rep s so. begun_goes room rep m next (start_fine room m next rep s) s
  found_goes (reply.Refused why) fine = fine why refl
  found_goes (reply.Damaged folder file) fine = tt
  found_goes rep fine = tt

  -- the whole program
  pub flatten_goes : (name : Name) → Goes n FlattenedSo anything (flatten_program name)
  flatten_goes name = λ m next rep s so. (anything, tt, found_goes rep (λ why is. subst MayRefuseFlatten (sym (s.reason why is).0) tt))

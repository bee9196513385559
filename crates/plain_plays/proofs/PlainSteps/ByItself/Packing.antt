-- What the calls for one writer of a migration leave: a room as a plain machine has it, and at most one serial more that was drawn.
use Rattle.std.proofs.Common.{◌≡◌, ◌+◌, ◌-◌, ◌*◌, ◌/◌, ℕ, zero, suc, nat_lt, Bool, true, false, List, [], ◌∷◌, Option, Some, None, Result, Ok, Err, refl, sym, ap, ◌∙◌, inl, inr, subst, arith}
use Rattle.std.specs.Prelude.{◌==◌, if◌then◌else◌}
use Rattle.plfs_types.specs.declared.limits.TheConstants.{MAX_PACKED}
use Rattle.plfs_types.specs.declared.names.Path.{Path}
use Rattle.container_layout.specs.declared.items.Item.TheVariants as item
use Rattle.store_api.specs.declared.step.Answer.{Answer}
use Rattle.store_api.specs.declared.step.Answer.TheVariants as answer
use Rattle.store_api.specs.declared.tree.Room.{Room}
use Rattle.mount_model.specs.declared.call.Ask.{Ask}
use Rattle.mount_model.specs.declared.call.Call.{Call}
use Rattle.mount_model.specs.declared.call.Call.TheVariants.{InstallFlat, Look, PutFlat, StartPack, SyncFlat}
use Rattle.mount_model.specs.declared.call.Look.{Look as Sight}
use Rattle.mount_model.specs.declared.call.Look.TheVariants.{Length, Read}
use Rattle.mount_model.specs.declared.names.Metadata.{Metadata}
use Rattle.mount_model.specs.declared.reply.Refusal.TheVariants as refusal
use Rattle.mount_model.specs.declared.reply.Reply.{Reply}
use Rattle.mount_model.specs.declared.reply.Reply.TheVariants as reply_of
use Rattle.mount_model.specs.declared.row.FlatStage.{FlatStage}
use Rattle.mount_model.specs.declared.row.FlatStage.TheVariants.{Begun, Put, Synced}
use Rattle.mount_model.specs.declared.row.Making.{Making}
use Rattle.mount_model.specs.declared.row.Making.TheVariants as making
use Rattle.mount_model.specs.declared.stuck.Stuck.{Stuck}
use Rattle.mount_model.specs.declared.stuck.Stuck.TheVariants as stuck
use Rattle.mount_model.specs.Entering.{draw_check}
use Rattle.mount_model.specs.Entries.{next_read, reads_of}
use Rattle.mount_model.specs.Flattening.{StartsPackOf}
use Rattle.mount_model.specs.FlowReplies.{Tries, bytes_in, damage, failure, given, trouble}
use Rattle.mount_model.specs.History.{AreBy, Event}
use Rattle.mount_model.specs.Making.{Refuses}
use Rattle.mount_model.specs.Paths.{index_path}
use Rattle.mount_model.specs.Program.{Program, ask, done}
use Rattle.mount_model.specs.Running.{Runs}
use Rattle.mount_model.specs.Step.{Answers}
use Rattle.mount_model.specs.Table.{flattening_of}
use Rattle.mount_model.proofs.Facts.{match_cases}
use Rattle.mount_sound.specs.Issued.{issued_after}
use Rattle.mount_sound.specs.Owed.{IsLawful}
use Rattle.reader_laws.specs.Moments.{IsSoundAt, Moment, moment_after, next_moment}
use Rattle.reader_laws.proofs.Gathered.Facts.{grows_after}
use Rattle.index_reader.specs.Replies.{number_in}
use Rattle.migrate_core.specs.Entries.{checked, no_entries}
use Rattle.migrate_core.specs.Longest.{packing}
use Rattle.migrate_core.specs.Words.{Fate, Packed, Tail, is_packed, passed_over}
use Rattle.migrate_core.specs.Writers.{counts_of, flat_in, if_done, installs, or_damage, puts, reads, reads_left, sized, starts, syncs, writer_program}
use Rattle.plain_plays.specs.Opens.{IsSpent}
use Rattle.plain_plays.specs.Served.{GoesWell}
use Rattle.plain_plays.proofs.PlainSteps.Entering.{IsContainerAt, only_spent}
use Rattle.plain_plays.proofs.PlainSteps.Reaching.{ended, over_alone}
use Rattle.plain_plays.proofs.PlainSteps.Steps.Alone.{first_call}
use Rattle.plain_plays.proofs.PlainSteps.Flats.Aside.{StaysSo, stays_alike, stays_both, stays_on}
use Rattle.plain_plays.proofs.PlainSteps.Flats.Calls.{HasFlat, found_flat, install_does, pack_does, put_does, sync_does}
use Rattle.plain_plays.proofs.PlainSteps.Flats.Flattening.{alike_by}
use Rattle.plain_plays.proofs.PlainSteps.Looks.Answered.{EndsSo, look_answered}

-- no result ends well
abbrev pub Never : {R : Type 0} → R → Type 0
Never result = ⊥

-- it ends in damage
abbrev pub IsBroken : {R : Type 0} → Result R Stuck → Type 0
IsBroken {R} out = EndsSo (Never {R = R}) out

-- a caller alone that makes no further call has come to its end
pub done_then : {R : Type 0} (me : ℕ) (r : R) (x : Moment) (events : List Event) (out : R) (P : R → Moment → Type 0) → AreBy me events → Runs me (done r) events out → P r x → P out (moment_after x events)
done_then me r x events out P by runs good = subst (λ o. P o (moment_after x events)) (ended me r events out runs) (subst (λ es. P r (moment_after x es)) (sym (over_alone me r events out by runs)) good)

module _ (start : Moment) (old : Room) (me n : ℕ) where
  -- Since the migration began the room shows what it showed, and so many serials were drawn.
  pub record HasDrawn (count : ℕ) (x : Moment) : Type 0 where
    pub sound : IsSoundAt x
    pub had : IsContainerAt n x
    pub stays : StaysSo n count old start x

  -- ---- looks

  pub look_then : {R : Type 0} (count : ℕ) (look : Sight) (k : Reply → Program Call Reply R) (x : Moment) → HasDrawn count x → (events : List Event) (out : R) → IsLawful x.state events → GoesWell me events → AreBy me events → Runs me (ask (Look n look) k) events out → (Goal : Moment → Type 0)
      → ((found : Answer) (y : Moment) → HasDrawn count y → (rest : List Event) → IsLawful y.state rest → GoesWell me rest → AreBy me rest → Runs me (k (reply_of.Looked found)) rest out → Goal (moment_after y rest)) → Goal (moment_after x events)
  look_then count look k x u events out lawful well by runs Goal goes =
      let c = first_call x me (Look n look) k events out u.sound lawful well by runs in
      let next : Moment = next_moment x c.event in
      let a = look_answered x u.sound n u.had me look c.event c.rest c.whole (subst (GoesWell me) c.are well) c.own c.asked in
      let then_u : HasDrawn count next = record { sound = a.sound; had = a.had; stays = stays_on n count old start x next u.stays (stays_alike n u.stays.new x next u.stays.turns.now a.alike) } in
      subst Goal c.ends (goes a.found next then_u c.rest c.whole.2 c.well c.by (subst (λ r. Runs me (k r) c.rest out) a.told c.runs))

  -- ---- how the calls for one writer end

  -- The writer was passed over, or has its packed index. Or no serial was left, or they end in damage.
  pub data FateEnds (count : ℕ) (out : Result Fate Stuck) (last : Moment) : Type 0 where
    passed : out ≡ Ok passed_over → HasDrawn count last → FateEnds count out last
    packed : (q : Packed) → out ≡ Ok (is_packed q) → HasDrawn (count + 1) last → FateEnds count out last
    unnumbered : out ≡ Err (stuck.Refused refusal.IdsSpent) → IsSpent last → HasDrawn count last → FateEnds count out last
    broken : IsBroken out → FateEnds count out last

  abbrev Leads : ℕ → Tries Fate → Moment → Type 0
  Leads count program x = (events : List Event) (out : Result Fate Stuck) → IsLawful x.state events → GoesWell me events → AreBy me events → Runs me program events out → FateEnds count out (moment_after x events)

  damage_leads : (count : ℕ) (why : Stuck) (x : Moment) → IsBroken {R = Fate} (Err why) → Leads count (done (Err why)) x
  damage_leads count why x bad events out lawful well by runs = done_then me (Err why) x events out (FateEnds count) by runs (broken bad)

  trouble_broken : (R : Type 0) (path : Path) (found : Answer) → IsBroken {R = R} (Err (trouble path (reply_of.Looked found)))
  trouble_broken R path answer.NoFolder = tt
  trouble_broken R path other = tt

  given_leads : {A : Type 0} (count : ℕ) (o : Option A) (path : Path) (found : Answer) (next : A → Tries Fate) (x : Moment) → ((a : A) → Leads count (next a) x) → Leads count (given o (trouble path (reply_of.Looked found)) next) x
  given_leads count None path found next x goes = damage_leads count (trouble path (reply_of.Looked found)) x (trouble_broken Fate path found)
  given_leads count (Some a) path found next x goes = goes a

  either_leads : (count : ℕ) (b : Bool) (p q : Tries Fate) (x : Moment) → Leads count p x → Leads count q x → Leads count (if b then p else q) x
  either_leads count true p q x one other = one
  either_leads count false p q x one other = other

  -- ---- the packed index is made

  container_then : (x : Moment) (e : Event) (rest : List Event) → IsSoundAt x → IsLawful x.state (e ∷ rest) → IsContainerAt n x → IsContainerAt n (next_moment x e)
  container_then x e rest s whole had = (grows_after x (e ∷ []) (whole.0, whole.1, tt) s).stands n item.Access tt had

  module _ (what : Making) (count flat : ℕ) where
    -- the flattening is in this stage
    record IsMaking (stage : FlatStage) (x : Moment) : Type 0 where
      drawn_so : HasDrawn (count + 1) x
      has : HasFlat what me n flat stage x.state.table

    not_missing : (stage : FlatStage) (x : Moment) → IsMaking stage x → flattening_of me stage flat x.state.table.flattenings ≡ None → ⊥
    not_missing stage x u none = let found = found_flat me n flat stage x.state.table u.has in let clash : Some u.has.f ≡ None = sym found ∙ none in cc

    drawn_on : (x : Moment) (e : Event) (rest : List Event) → IsSoundAt (next_moment x e) → IsLawful x.state (e ∷ rest) → (d : HasDrawn (count + 1) x) → StaysSo n 0 d.stays.new x (next_moment x e) → HasDrawn (count + 1) (next_moment x e)
    drawn_on x e rest sound whole d y = record { sound = sound; had = container_then x e rest d.sound whole d.had; stays = stays_on n (count + 1) old start x (next_moment x e) d.stays y }

    install_leads : (q : Packed) (x : Moment) → IsMaking Synced x → Leads count (installs flat q) x
    install_leads q x u events out lawful well by runs =
        let c = first_call x me (InstallFlat flat) (if_done (done (Ok (is_packed q)))) events out u.drawn_so.sound lawful well by runs in
        let next : Moment = next_moment x c.event in
        elim c.served as (λ _. FateEnds count out (moment_after x events)) [
          | inr (why, told, reason) ↦ absurd (not_missing Synced x u reason.1)
          | inl told ↦
              let y = install_does x u.drawn_so.sound n u.drawn_so.stays.new u.drawn_so.stays.turns.now me c.event flat u.has c.asked (subst (λ r. Answers x.state me (InstallFlat flat) r c.event.after) told c.answers) in
              let on = subst (λ r. Runs me (if_done (done (Ok (is_packed q))) r) c.rest out) told c.runs in
              subst (FateEnds count out) c.ends (done_then me (Ok (is_packed q)) next c.rest out (FateEnds count) c.by on (packed q refl (drawn_on x c.event c.rest c.sound c.whole u.drawn_so y)))
        ]

    sync_leads : (q : Packed) (x : Moment) → IsMaking Put x → Leads count (syncs flat q) x
    sync_leads q x u events out lawful well by runs =
        let c = first_call x me (SyncFlat flat) (if_done (installs flat q)) events out u.drawn_so.sound lawful well by runs in
        let next : Moment = next_moment x c.event in
        elim c.served as (λ _. FateEnds count out (moment_after x events)) [
          | inr (why, told, reason) ↦ absurd (not_missing Put x u reason.1)
          | inl told ↦
              let y = sync_does x u.drawn_so.sound n u.drawn_so.stays.new u.drawn_so.stays.turns.now me c.event flat u.has c.asked (subst (λ r. Answers x.state me (SyncFlat flat) r c.event.after) told c.answers) in
              let then_u : IsMaking Synced next = record { drawn_so = drawn_on x c.event c.rest c.sound c.whole u.drawn_so y.0; has = y.1 } in
              subst (FateEnds count out) c.ends (install_leads q next then_u c.rest out c.whole.2 c.well c.by (subst (λ r. Runs me (if_done (installs flat q) r) c.rest out) told c.runs))
        ]

    put_leads : (bytes : List ℕ) (q : Packed) (x : Moment) → IsMaking Begun x → Leads count (puts bytes q flat) x
    put_leads bytes q x u events out lawful well by runs =
        let c = first_call x me (PutFlat flat bytes) (if_done (syncs flat q)) events out u.drawn_so.sound lawful well by runs in
        let next : Moment = next_moment x c.event in
        elim c.served as (λ _. FateEnds count out (moment_after x events)) [
          | inr (why, told, reason) ↦ absurd (not_missing Begun x u reason.1)
          | inl told ↦
              let y = put_does x u.drawn_so.sound n u.drawn_so.stays.new u.drawn_so.stays.turns.now me c.event flat bytes u.has c.asked (subst (λ r. Answers x.state me (PutFlat flat bytes) r c.event.after) told c.answers) in
              let then_u : IsMaking Put next = record { drawn_so = drawn_on x c.event c.rest c.sound c.whole u.drawn_so y.0; has = y.1 } in
              subst (FateEnds count out) c.ends (sync_leads q next then_u c.rest out c.whole.2 c.well c.by (subst (λ r. Runs me (if_done (syncs flat q) r) c.rest out) told c.runs))
        ]

  module _ (count : ℕ) (m : Metadata) where
    -- a serial was left, or none was
    start_leads : (bytes : List ℕ) (q : Packed) (x : Moment) → HasDrawn count x → Leads count (starts n m bytes q) x
    start_leads bytes q x u events out lawful well by runs =
        let call : Call = StartPack n m.host m.writer in
        let c = first_call x me call (λ reply. given (flat_in reply) (failure reply) (puts bytes q)) events out u.sound lawful well by runs in
        let next : Moment = next_moment x c.event in
        elim c.served as (λ _. FateEnds count out (moment_after x events)) [
          | inl (flat, told) ↦
              let d = pack_does x u.sound n u.stays.new u.stays.turns.now me c.event m.host m.writer flat c.asked (subst (λ r. Answers x.state me call r c.event.after) told c.answers) in
              let then_u : IsMaking (making.Pack m.host m.writer) count flat Begun next = record {
                drawn_so = record { sound = c.sound; had = container_then x c.event c.rest u.sound c.whole u.had; stays = stays_both n count 1 (count + 1) old start x next u.stays d.0 refl };
                has = d.1;
              } in
              subst (FateEnds count out) c.ends (put_leads (making.Pack m.host m.writer) count flat bytes q next then_u c.rest out c.whole.2 c.well c.by (subst (λ r. Runs me (given (flat_in r) (failure r) (puts bytes q)) c.rest out) told c.runs))
          | inr (reason, told, check) ↦
              let s = only_spent x u.sound n u.had reason check in
              let on = subst (λ r. Runs me (given (flat_in r) (failure r) (puts bytes q)) c.rest out) (told ∙ ap reply_of.Refused s.0) c.runs in
              let why : Result Fate Stuck = Err (stuck.Refused refusal.IdsSpent) in
              let a = subst (λ r. Answers x.state me call r c.event.after) told c.answers in
              let same : c.event.after ≡ x.state = elim (match_cases (draw_check x.state n) (StartsPackOf me n m.host m.writer x.state (reply_of.Refused reason) c.event.after) (λ z. Refuses z x.state (reply_of.Refused reason) c.event.after) a) as (λ _. c.event.after ≡ x.state) [
                | inl (free, does) ↦ absurd (let clash : None ≡ Some reason = sym free ∙ check in cc)
                | inr (z, some, refused) ↦ refused.1
              ] in
              let issued : next.issued ≡ x.issued = ap (λ (z : Ask). issued_after x.issued x.state z.call c.event.reply) c.asked in
              let alike = alike_by x c.event same issued in
              let serial = alike.serial in
              let still : IsSpent next = (let before = s.1 in omega (arith, before, serial)) in
              let then_u : HasDrawn count next = record { sound = c.sound; had = container_then x c.event c.rest u.sound c.whole u.had; stays = stays_on n count old start x next u.stays (stays_alike n u.stays.new x next u.stays.turns.now alike) } in
              subst (FateEnds count out) c.ends (done_then me why next c.rest out (FateEnds count) c.by on (unnumbered refl still then_u))
        ]

    -- ---- the entries are read

    damage_or : (next : Tail → Tries Fate) (found : Result Tail ℕ) (x : Moment) → ((tail : Tail) → Leads count (next tail) x) → Leads count (or_damage (index_path m.host m.writer) next found) x
    damage_or next (Ok tail) x goes = goes tail
    damage_or next (Err place) x goes = damage_leads count (damage (index_path m.host m.writer) place) x tt

    read_leads : (k left : ℕ) (tail : Tail) (x : Moment) → HasDrawn count x → Leads count (reads k n m left tail) x
    read_leads zero left tail x u events out lawful well by runs = start_leads (packing tail.entries) (counts_of tail.entries) x u events out lawful well by runs
    read_leads (suc k) left tail x u events out lawful well by runs =
        look_then count (Read (index_path m.host m.writer) (40 * tail.cover.count) (40 * next_read left)) _ x u events out lawful well by runs (FateEnds count out)
        (λ found y v rest lawful_so well_so by_so on.
        given_leads count (bytes_in (reply_of.Looked found)) (index_path m.host m.writer) found (λ bytes. or_damage (index_path m.host m.writer) (λ more. reads k n m (left - next_read left) more) (checked (next_read left) bytes tail)) y
        (λ bytes. damage_or (λ more. reads k n m (left - next_read left) more) (checked (next_read left) bytes tail) y (λ more. read_leads k (left - next_read left) more y v))
        rest out lawful_so well_so by_so on)

    sized_leads : (told entries : ℕ) (x : Moment) → HasDrawn count x → Leads count (sized n m told entries) x
    sized_leads told entries x u =
        either_leads count (nat_lt MAX_PACKED entries) (done (Ok passed_over)) _ x
        (λ events out lawful well by runs. done_then me (Ok passed_over) x events out (FateEnds count) by runs (passed refl u))
        (either_leads count (entries == 0) (done (Err (damage (index_path m.host m.writer) told))) (reads_left n m entries (no_entries m.writer)) x
        (damage_leads count (damage (index_path m.host m.writer) told) x tt)
        (read_leads (reads_of entries) entries (no_entries m.writer) x u))

    -- All calls for one writer.
    pub writer_leads : (x : Moment) → HasDrawn count x → Leads count (writer_program n m) x
    writer_leads x u events out lawful well by runs =
        look_then count (Length (index_path m.host m.writer)) _ x u events out lawful well by runs (FateEnds count out)
        (λ found y v rest lawful_so well_so by_so on.
        given_leads count (number_in (reply_of.Looked found)) (index_path m.host m.writer) found (λ told. sized n m told (told / 40)) y (λ told. sized_leads told (told / 40) y v) rest out lawful_so well_so by_so on)

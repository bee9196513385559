-- The statement that flattens a file is a step of a plain machine, where nobody else calls.
use Rattle.std.proofs.Common.{◌≡◌, ◌≤◌, ◌<◌, ◌+◌, ◌-◌, ◌^◌, ℕ, true, false, List, [], ◌∷◌, ◌++◌, length, Option, Some, None, Result, Ok, Err, refl, sym, ap, ◌∙◌, inl, inr, subst, arith}
use Rattle.std.specs.Prelude.{slice_get}
use Rattle.std.proofs.lemmas.Bool.Decides.{nat_tests}
use Rattle.container_layout.specs.declared.items.Item.TheVariants as item
use Rattle.plain_file.specs.declared.pieces.Piece.{Piece}
use Rattle.plain_file.specs.Runs.{ArePieces}
use Rattle.flat_format.specs.declared.flat.Flat.{Flat}
use Rattle.flat_format.specs.Spelling.{flat_spelling}
use Rattle.script_lang.specs.declared.line.Outcome.{Outcome}
use Rattle.script_lang.specs.declared.line.Outcome.TheVariants.{Flattened as Told}
use Rattle.script_lang.specs.declared.line.Why.TheVariants.{IdsSpent}
use Rattle.script_lang.specs.declared.script.ActorDecl.{ActorDecl}
use Rattle.script_lang.specs.declared.script.Statement.TheVariants.{Flatten}
use Rattle.store_api.specs.declared.tree.Room.{Room as RoomThere}
use Rattle.mount_model.specs.declared.call.Ask.{Ask}
use Rattle.mount_model.specs.declared.call.Call.{Call}
use Rattle.mount_model.specs.declared.call.Call.TheVariants.{StartFlat}
use Rattle.mount_model.specs.declared.reply.Refusal.{Refusal}
use Rattle.mount_model.specs.declared.reply.Refusal.TheVariants as refusal
use Rattle.mount_model.specs.declared.reply.Reply.{Reply}
use Rattle.mount_model.specs.declared.reply.Reply.TheVariants as reply_of
use Rattle.mount_model.specs.declared.row.FlatStage.TheVariants.{Begun}
use Rattle.mount_model.specs.declared.row.Making.TheVariants as making
use Rattle.mount_model.specs.Entering.{draw_check, next_id}
use Rattle.mount_model.specs.Flattening.{Starts}
use Rattle.mount_model.specs.History.{AreBy, Event}
use Rattle.mount_model.specs.Making.{Refuses}
use Rattle.mount_model.specs.Paths.{Name}
use Rattle.mount_model.specs.State.{State, id_of}
use Rattle.mount_model.specs.Step.{Answers}
use Rattle.mount_model.proofs.Facts.{match_cases}
use Rattle.mount_sound.specs.Issued.{issued_after}
use Rattle.mount_sound.specs.Ledger.{entries_in}
use Rattle.mount_sound.specs.Owed.{IsLawful}
use Rattle.refusal_laws.specs.Reasons.{IsChecked}
use Rattle.mount_model.specs.Program.{Program, ask, done, followed_by}
use Rattle.mount_model.specs.declared.stuck.Stuck.{Stuck}
use Rattle.mount_model.specs.declared.stuck.Stuck.TheVariants as stuck
use Rattle.mount_model.specs.FlowReplies.{failure, given, on_ok, room_in}
use Rattle.mount_model.specs.Running.{Runs}
use Rattle.mount_model.proofs.Flows.Facts.{runs_in_two}
use Rattle.reader_laws.specs.Moments.{IsSoundAt, Moment, moment_after, next_moment}
use Rattle.reader_laws.specs.GatheringOpening.{HasView}
use Rattle.reader_laws.proofs.Gathered.Facts.{grows_after, legal_first, legal_rest, moment-append, sound_after}
use Rattle.index_reader.specs.declared.listing.Listing.{Listing}
use Rattle.index_reader.specs.declared.sharing.Share.{Share}
use Rattle.index_reader.specs.Opening.{open_at_program}
use Rattle.plfs_types.specs.declared.entries.Trunc.{Trunc}
use Rattle.gather_flow.specs.declared.all_read.AllRead.{AllRead}
use Rattle.gather_flow.specs.OneIndex.{flat_of}
use Rattle.flatten_core.specs.declared.flattening.Flattened.{Flattened}
use Rattle.flatten_core.specs.declared.starting.Started.{Started}
use Rattle.flatten_core.specs.Flattening.{flatten_program, flattened, installs_gathered, lists, tells}
use Rattle.flatten_core.specs.Flattening as flattening
use Rattle.flatten_core.specs.Installing.{install_program}
use Rattle.flatten_core.specs.Starting.{begins, begun}
use Rattle.flatten_laws.proofs.Facts.{IsTaken, gathered_taken}
use Rattle.outcomes.specs.Counts.{counts_of}
use Rattle.outcomes.specs.Outcomes.{flatten_outcome}
use Rattle.reader_laws.specs.Covering.{counts_in}
use Rattle.writer_flow.specs.declared.handle.WriterHandle.{WriterHandle}
use Rattle.plain_machine.specs.Machine.{Plain, PlainActor, PlainRoom}
use Rattle.plain_machine.specs.Becoming.{drawn, is_spent, next_of}
use Rattle.plain_machine.specs.Cases.{IsRefused, When}
use Rattle.plain_machine.specs.Landed.{counts, landed_writes}
use Rattle.plain_machine.specs.Statements.{Takes}
use Rattle.plain_plays.specs.Mirrors.{Mirrors, MirrorsRoom, room_then, room_told}
use Rattle.plain_plays.specs.Opens.{IsSpent}
use Rattle.plain_plays.specs.Served.{GoesWell}
use Rattle.plain_plays.specs.Stepping.{HasActor, TakesStep}
use Rattle.plain_plays.proofs.PlainSteps.Entering.{IsContainerAt, has_room, not_marks, only_spent}
use Rattle.plain_plays.proofs.PlainSteps.Reaching.{ended, over_alone}
use Rattle.plain_plays.proofs.PlainSteps.Serving.{well_first}
use Rattle.plain_plays.proofs.PlainSteps.Steps.Alone.{First, by_first, by_rest, first_call}
use Rattle.plain_plays.proofs.PlainSteps.Steps.Keeping.{unless, when}
use Rattle.plain_plays.proofs.PlainSteps.ByName.Found.{finds, no_room, on_room, step_later}
use Rattle.plain_plays.proofs.PlainSteps.ByName.Looking.{IsAlike, changes_nothing, handle_alike}
use Rattle.plain_plays.proofs.PlainSteps.Looks.Answered.{had_alike}
use Rattle.plain_plays.proofs.PlainSteps.Looks.Counts.{all_counted}
use Rattle.plain_plays.proofs.PlainSteps.Looks.Gathered.{HasGathered, gathered, gathers, reads_listed, well_rest}
use Rattle.plain_plays.proofs.PlainSteps.Looks.Seeing.{SeesRoom, sees_room}
use Rattle.plain_plays.proofs.PlainSteps.Flats.Aside.{StaysSo, drawn_takes, machine_drawn, room_stays, stays_alike, stays_on}
use Rattle.plain_plays.proofs.PlainSteps.Flats.Calls.{HasFlat, flat_kept, start_does}
use Rattle.plain_plays.proofs.PlainSteps.Flats.Covering.{right_pieces}
use Rattle.plain_plays.proofs.PlainSteps.Flats.Installing.{IsInstalled, Underway, installed_so}

-- ---- its programs

-- all that was read
abbrev pub all_of : Listing → List Share → List Trunc → AllRead
all_of listing shares truncs = record { listed = listing; shares = shares; truncs = truncs }

pub threefold : {A B C : Type 0} (p : Program Call Reply A) (next : A → Program Call Reply B) (last : B → Program Call Reply C) → followed_by (followed_by p next) last ≡ followed_by p (λ a. followed_by (next a) last)
threefold (done a) next last = refl
threefold (ask call k) next last = λ i. ask call (λ reply. threefold (k reply) next last i)

-- what follows the beginning is a gathering, and then the installing
in_two : (started : Started) → followed_by (gathers all_of 1 started.room) (on_ok (installs_gathered started)) ≡ lists started
in_two started = threefold (open_at_program started.room) (on_ok (reads_listed all_of 1)) (on_ok (installs_gathered started)) ∙ (λ i. followed_by (open_at_program started.room) (λ result. each result i))
  where
    each : (result : Result Listing Stuck) → followed_by (on_ok (reads_listed all_of 1) result) (on_ok (installs_gathered started)) ≡ on_ok (flattening.gathers started) result
    each (Ok listing) = refl
    each (Err why) = refl

-- what was gathered is taken of the room
gathered_so : (me n : ℕ) (m : Moment) (events : List Event) (all : AllRead) → IsLawful m.state events → IsSoundAt m → Runs me (gathers all_of 1 n) events (Ok all) → IsTaken n (flat_of all.listed all.shares) (moment_after m events).state
gathered_so me n m events all lawful sound runs =
    let two = runs_in_two me (open_at_program n) (on_ok (reads_listed all_of 1)) events (Ok all) runs in
    subst (λ es. IsTaken n (flat_of all.listed all.shares) (moment_after m es).state) (sym two.all) (of two.value two.first two.rest (subst (IsLawful m.state) two.all lawful) two.runs two.then_runs)
  where
    of : (value : Result Listing Stuck) (first rest : List Event) → IsLawful m.state (first ++ rest) → Runs me (open_at_program n) first value → Runs me (on_ok (reads_listed all_of 1) value) rest (Ok all) → IsTaken n (flat_of all.listed all.shares) (moment_after m (first ++ rest)).state
    of (Ok listing) first rest whole lists_it reads = gathered_taken me n m first rest listing all whole sound lists_it reads
    of (Err why) first rest whole lists_it reads = let is : ◌≡◌ {A = Result AllRead Stuck} (Err why) (Ok all) = ended me (Err why) rest (Ok all) reads in absurd (cc)

-- ---- the statement

-- what the machine does with the room
abbrev Flat_of : Plain → PlainRoom → Outcome → Plain → Type 0
Flat_of p room outcome new = When (is_spent p) (IsRefused outcome IdsSpent p new)
    ((pieces : List Piece) × ArePieces (entries_in (landed_writes room.writers)) [] pieces × (outcome ≡ Told (next_of p) (length pieces) (counts room.writers)) × (new ≡ drawn p))

pub alike_by : (m : Moment) (event : Event) → event.after ≡ m.state → (next_moment m event).issued ≡ m.issued → IsAlike m (next_moment m event)
alike_by m event same issued = record {
  tree = ap (λ (s : State). s.store.tree) same;
  issued = issued;
  table = ap (λ (s : State). s.table) same;
  times = ap (λ (s : State). s.times) same;
  marks = ap (λ (s : State). s.marks) same;
  mount = ap (λ (s : State). s.mount) same;
  serial = ap (λ (s : State). s.serial) same;
}

module _ (me : ℕ) (p : Plain) (handle : Option WriterHandle) (actor : PlainActor) (declared : ActorDecl) (name : Name) where
  abbrev Step : Moment → Outcome → Moment → Type 0
  Step m outcome last = TakesStep m me declared actor p (Flatten name) outcome last handle

  module _ (b : Moment) (sound : IsSoundAt b) (o : Mirrors b p) (has : HasActor b me p handle actor) (n : ℕ) (room : PlainRoom) (there : slice_get p.rooms n ≡ Some room) (old : RoomThere) (at : room_then b n ≡ Some old) (shows : MirrorsRoom b n old room) (had : IsContainerAt n b)
      (takes_on : (outcome : Outcome) (q : Plain) → Flat_of p room outcome q → Takes me declared actor p (Flatten name) outcome q) where
    apart : n ≡ b.state.marks → ⊥
    apart = not_marks b sound n had

    -- ---- it was begun

    unspent : (x : Moment) → IsSoundAt x → x.state.serial ≡ b.state.serial + 1 → is_spent p ≡ false
    unspent x sx serial = let fits = sx.regular.serial_fits in let s = o.serial in let less : p.serial < 2 ^ 32 - 1 = omega (arith, fits, serial, s) in grind (arith, nat_tests)

    begun_takes : (flat : ℕ) (x : Moment) → IsSoundAt x → IsContainerAt n x → StaysSo n 1 old b x → HasFlat making.Flat me n flat Begun x.state.table → flat ≡ next_id b.state → (events : List Event) (out : Result Flattened Stuck) → IsLawful x.state events → GoesWell me events → AreBy me events → Runs me (lists (record { room = n; flat = flat })) events out
        → Step b (flatten_outcome out) (moment_after x events)
    begun_takes flat x sx hx y f id events out lawful well by runs =
        let started : Started = record { room = n; flat = flat } in
        let mx : Mirrors x (drawn p) = machine_drawn n old b x y sx p o room there apart shows in
        let on : Runs me (followed_by (gathers all_of 1 n) (on_ok (installs_gathered started))) events out = subst (λ q. Runs me q events out) (sym (in_two started)) runs in
        let two = runs_in_two me (gathers all_of 1 n) (on_ok (installs_gathered started)) events out on in
        let whole : IsLawful x.state (two.first ++ two.rest) = subst (IsLawful x.state) two.all lawful in
        let went : GoesWell me (two.first ++ two.rest) = subst (GoesWell me) two.all well in
        let mine : AreBy me (two.first ++ two.rest) = subst (AreBy me) two.all by in
        let l1 = legal_first x two.first two.rest whole in
        let h : HasGathered all_of 1 x n two.first two.value = gathered all_of 1 (omega arith) n me x two.first two.value sx hx l1 (well_first me two.first two.rest went) (by_first me two.first two.rest mine) two.runs in
        let all : AllRead = all_of h.listing h.shares h.truncs in
        let index : Flat = flat_of h.listing h.shares in
        let z : Moment = moment_after x two.first in
        let sz : IsSoundAt z = sound_after x two.first l1 sx in
        let taken : IsTaken n index z.state = gathered_so me n x two.first all l1 sx (subst (Runs me (gathers all_of 1 n) two.first) h.is two.runs) in
        let bytes : List ℕ = flat_spelling index in
        let u : Underway b old me n flat bytes Begun z = record {
          sound = sz;
          had = had_alike x sx n hx z h.last;
          stays = stays_on n 1 old b x z y (stays_alike n y.new x z y.turns.now h.last);
          has = flat_kept me n flat Begun x.state.table z.state.table h.last.table f;
        } in
        let told : Flattened = flattened started index in
        let then_on : Runs me (followed_by (install_program n flat index.covers bytes) (tells told)) two.rest out = subst (λ v. Runs me (on_ok (installs_gathered started) v) two.rest out) h.is two.then_runs in
        let three = runs_in_two me (install_program n flat index.covers bytes) (tells told) two.rest out then_on in
        let l2 : IsLawful z.state (three.first ++ three.rest) = subst (IsLawful z.state) three.all (legal_rest x two.first two.rest whole) in
        let w2 : GoesWell me (three.first ++ three.rest) = subst (GoesWell me) three.all (well_rest me two.first two.rest went) in
        let b2 : AreBy me (three.first ++ three.rest) = subst (AreBy me) three.all (by_rest me two.first two.rest mine) in
        let l3 = legal_first z three.first three.rest l2 in
        let e = installed_so b old me n flat index z u taken three.first three.value l3 (well_first me three.first three.rest w2) (by_first me three.first three.rest b2) three.runs in
        let i : IsInstalled b old me n flat bytes (moment_after z three.first) = e.1 in
        let last : Moment = moment_after z three.first in
        let over : Runs me (done (Ok told)) three.rest out = subst (λ v. Runs me (tells told v) three.rest out) e.0 three.then_runs in
        let is : Ok told ≡ out = ended me (Ok told) three.rest out over in
        let nothing : three.rest ≡ [] = over_alone me (Ok told) three.rest out (by_rest me three.first three.rest b2) over in
        let ends : last ≡ moment_after x events = sym (ap (moment_after x) two.all ∙ moment-append x two.first two.rest ∙ ap (moment_after z) three.all ∙ moment-append z three.first three.rest ∙ ap (moment_after last) nothing) in
        let q = h.opened in
        let view : HasView q.begin q.until n q.cut h.truncs = subst (λ k. HasView q.begin q.until k q.cut h.truncs) h.room q.has.view in
        let sees : SeesRoom q.until q.cut h.truncs room = sees_room x q.begin q.until q.begins q.ends q.sound (drawn p) mx n room there q.cut h.truncs view in
        let covers : index.covers ≡ counts_in q.until q.cut = q.has.covers in
        let counts_are : counts_of index.covers ≡ counts room.writers = ap counts_of covers ∙ sym (all_counted q.until q.cut) ∙ sees.counts_are in
        let put : MirrorsRoom i.put n i.then_so.new room = room_stays n 1 old b i.put i.then_so room apart shows in
        let in_tree : slice_get i.sound.shape.tree.rooms n ≡ Some i.then_so.new = sym (ap (λ t. room_told t n) i.sound.shape.told) ∙ i.then_so.turns.now in
        let pieces : ArePieces (entries_in (landed_writes room.writers)) [] index.pieces = right_pieces i.put i.sound n i.then_so.new in_tree index room.writers put.writers counts_are taken.valid i.right in
        let id_is : flat ≡ next_of p = id ∙ (λ j. id_of (o.mark j) (o.serial j + 1)) in
        let line : flatten_outcome (Ok told) ≡ Told (next_of p) (length index.pieces) (counts room.writers) = λ j. Told (id_is j) (length index.pieces) (counts_are j) in
        subst (Step b (flatten_outcome out)) ends (subst (λ r. Step b (flatten_outcome r) last) is
        (drawn_takes n old b last i.stays (sound_after z three.first l3 sz) p o room there apart shows me declared actor (Flatten name) (flatten_outcome (Ok told)) handle has
        (takes_on (flatten_outcome (Ok told)) (drawn p) (unless (is_spent p) _ _ (unspent x sx y.serial) (index.pieces, pieces, line, refl)))))

    -- ---- it was refused

    spent_now : IsSpent b → is_spent p ≡ true
    spent_now is = let s = o.serial in let k : 2 ^ 32 - 1 ≤ p.serial = omega (arith, is, s) in grind (arith, nat_tests)

    abbrev First_of : List Event → Result Flattened Stuck → Type 0
    First_of events out = First b me (StartFlat n) (λ reply. on_ok lists (begun n reply)) events out

    refused_takes : (events : List Event) (out : Result Flattened Stuck) (c : First_of events out) (reason : Refusal) → c.event.reply ≡ reply_of.Refused reason → IsChecked (draw_check b.state n) reason → Step b (flatten_outcome out) (moment_after b events)
    refused_takes events out c reason told check =
        let next : Moment = next_moment b c.event in
        let s = only_spent b sound n had reason check in
        let on = subst (λ r. Runs me (on_ok lists (begun n r)) c.rest out) (told ∙ ap reply_of.Refused s.0) c.runs in
        let why : Result Flattened Stuck = Err (stuck.Refused refusal.IdsSpent) in
        let is : why ≡ out = ended me why c.rest out on in
        let ends : next ≡ moment_after b events = ap (moment_after next) (sym (over_alone me why c.rest out c.by on)) ∙ c.ends in
        let a = subst (λ r. Answers b.state me (StartFlat n) r c.event.after) told c.answers in
        let same : c.event.after ≡ b.state = elim (match_cases (draw_check b.state n) (Starts me n making.Flat b.state (reply_of.Refused reason) c.event.after) (λ x. Refuses x b.state (reply_of.Refused reason) c.event.after) a) as (λ _. c.event.after ≡ b.state) [
          | inl (free, does) ↦ absurd (let clash : None ≡ Some reason = sym free ∙ check in cc)
          | inr (x, some, refused) ↦ refused.1
        ] in
        let issued : next.issued ≡ b.issued = ap (λ (x : Ask). issued_after b.issued b.state x.call c.event.reply) c.asked in
        subst (Step b (flatten_outcome out)) ends
        (changes_nothing b next (alike_by b c.event same issued) c.sound me declared p actor (Flatten name) (flatten_outcome out) handle o has (takes_on (flatten_outcome out) p (when (is_spent p) _ _ (spent_now s.1) (ap flatten_outcome (sym is), refl))))

    begins_takes : (events : List Event) (out : Result Flattened Stuck) → IsLawful b.state events → GoesWell me events → AreBy me events → Runs me (ask (StartFlat n) (λ reply. on_ok lists (begun n reply))) events out → Step b (flatten_outcome out) (moment_after b events)
    begins_takes events out lawful well by runs =
        let c : First_of events out = first_call b me (StartFlat n) (λ reply. on_ok lists (begun n reply)) events out sound lawful well by runs in
        let next : Moment = next_moment b c.event in
        elim c.served as (λ _. Step b (flatten_outcome out) (moment_after b events)) [
          | inl (flat, told) ↦
              let d = start_does b sound n old at me c.event flat c.asked (subst (λ r. Answers b.state me (StartFlat n) r c.event.after) told c.answers) in
              let hx : IsContainerAt n next = (grows_after b (c.event ∷ []) (c.whole.0, c.whole.1, tt) sound).stands n item.Access tt had in
              subst (Step b (flatten_outcome out)) c.ends (begun_takes flat next c.sound hx d.0 d.1 d.2 c.rest out c.whole.2 c.well c.by (subst (λ r. Runs me (on_ok lists (begun n r)) c.rest out) told c.runs))
          | inr (reason, told, because) ↦ elim because as (λ _. Step b (flatten_outcome out) (moment_after b events)) [
            | inl check ↦ refused_takes events out c reason told check
            | inr lacks ↦ absurd (has_room b sound n had (lacks.1 sound.shape.tree sound.shape.told))
          ]
        ]

  -- A flattening ends as the machine's does.
  pub flatten_takes : (m : Moment) → Mirrors m p → HasActor m me p handle actor → (events : List Event) (out : Result Flattened Stuck) → IsLawful m.state events → GoesWell me events → AreBy me events → Runs me (flatten_program name) events out → Step m (flatten_outcome out) (moment_after m events)
  flatten_takes m o has events out lawful well by runs = elim (finds m me p o name (λ reply. followed_by (given (room_in reply) (failure reply) begins) (on_ok lists)) events out lawful well by runs) as (λ _. Step m (flatten_outcome out) (moment_after m events)) [
    | inr (g, alike, none) ↦
        let missing : Err (stuck.Refused refusal.NoRoom) ≡ out = ended me (Err (stuck.Refused refusal.NoRoom)) g.rest out g.runs in
        let same : g.mid ≡ moment_after m events = ap (moment_after g.mid) (sym (over_alone me (Err (stuck.Refused refusal.NoRoom)) g.rest out g.by g.runs)) ∙ g.ends in
        subst (Step m (flatten_outcome out)) same
        (changes_nothing m g.mid alike g.sound me declared p actor (Flatten name) (flatten_outcome out) handle o has (no_room p name (flatten_outcome out) p (λ number room. Flat_of p room (flatten_outcome out) p) none (ap flatten_outcome (sym missing), refl)))
    | inl (n, g, f) ↦
        let has_then : HasActor g.mid me p handle actor = record { there = has.there; its_own = handle_alike m g.mid f.alike g.sound p me handle actor.writer has.its_own } in
        let takes_on : (outcome : Outcome) (q : Plain) → Flat_of p f.room outcome q → Takes me declared actor p (Flatten name) outcome q = λ outcome q does. on_room p name outcome q (λ number room. Flat_of p room outcome q) n f.room f.is f.there does in
        subst (Step m (flatten_outcome out)) g.ends
        (step_later m g.mid (moment_after g.mid g.rest) me declared actor p (Flatten name) (flatten_outcome out) handle f.alike g.sound
        (begins_takes g.mid g.sound f.mirrors has_then n f.room f.there f.old f.at f.has f.had takes_on g.rest out g.lawful g.well g.by g.runs))
  ]

-- The statement that tells of a file is a step of a plain machine, where nobody else calls.
use Rattle.std.proofs.Common.{◌≡◌, nat_eq, ℕ, true, List, [], ◌∷◌, ◌++◌, Option, Some, Result, Ok, Err, refl, sym, ap, ◌∙◌, inl, inr, subst, arith, if◌then◌else◌}
use Rattle.std.specs.Prelude.{slice_get}
use Rattle.std.proofs.lemmas.List.{append-nil}
use Rattle.std.proofs.lemmas.Bool.Decides.{nat_tests}
use Rattle.script_lang.specs.declared.line.Outcome.{Outcome}
use Rattle.script_lang.specs.declared.line.Outcome.TheVariants.{Stat}
use Rattle.script_lang.specs.declared.script.ActorDecl.{ActorDecl}
use Rattle.script_lang.specs.declared.script.Statement.TheVariants.{Stat as StatOf}
use Rattle.mount_model.specs.declared.reply.Refusal.TheVariants as refusal
use Rattle.mount_model.specs.declared.reply.Reply.TheVariants.{Room}
use Rattle.mount_model.specs.History.{AreBy, Event}
use Rattle.mount_model.specs.Paths.{Name}
use Rattle.mount_sound.specs.Owed.{IsLawful}
use Rattle.mount_model.specs.declared.stuck.Stuck.{Stuck}
use Rattle.mount_model.specs.declared.stuck.Stuck.TheVariants as stuck
use Rattle.mount_model.specs.FlowReplies.{failure, given, on_ok, room_in}
use Rattle.mount_model.specs.Running.{Runs}
use Rattle.mount_model.proofs.Flows.Facts.{runs_in_two}
use Rattle.reader_laws.specs.Gathering.{Gathered}
use Rattle.reader_laws.specs.Moments.{IsSoundAt, Moment, moment_after}
use Rattle.reader_laws.specs.GatheringOpening.{HasView}
use Rattle.reader_laws.specs.Seen.{asked_in, calls_of}
use Rattle.reader_laws.specs.View.{changes_in}
use Rattle.reader_laws.proofs.Gathered.Facts.{legal_first, legal_rest, moment-append, sound_after}
use Rattle.outcomes.specs.Outcomes.{stat_outcome}
use Rattle.attr_flow.specs.declared.attr.Attr.{Attr}
use Rattle.attr_flow.specs.declared.attr_flow.AttrOut.{AttrOut}
use Rattle.attr_flow.specs.declared.attr_flow.AttrOut.TheVariants.{Cached, MustMerge}
use Rattle.attr_flow.specs.Asking.{attr_program, lists_open}
use Rattle.attr_flow.specs.Shares.{shares_covered, stored_in}
use Rattle.gather_flow.specs.OneIndex.{attr_of}
use Rattle.index_reader.proofs.Facts.{IsLook}
use Rattle.look_laws.specs.Shares.{shares_seen}
use Rattle.look_laws.proofs.Facts.{told_run}
use Rattle.plain_file.specs.File.{plain_size, stored_bytes}
use Rattle.writer_flow.specs.declared.handle.WriterHandle.{WriterHandle}
use Rattle.plain_machine.specs.Machine.{Plain, PlainActor, PlainRoom}
use Rattle.plain_machine.specs.Landed.{changes, landed_writes, shares}
use Rattle.plain_plays.specs.Asking.{or_gathers, tell_program}
use Rattle.plain_plays.specs.Mirrors.{Mirrors}
use Rattle.plain_plays.specs.Served.{GoesWell}
use Rattle.plain_plays.specs.Stepping.{HasActor, TakesStep}
use Rattle.plain_plays.proofs.PlainSteps.Reaching.{ended, over_alone}
use Rattle.plain_plays.proofs.PlainSteps.Serving.{well_first}
use Rattle.plain_plays.proofs.PlainSteps.Steps.Alone.{asked_only, by_first, by_rest}
use Rattle.plain_plays.proofs.PlainSteps.ByName.Found.{IsFound, finds, no_room, on_room}
use Rattle.plain_plays.proofs.PlainSteps.ByName.Looking.{AreSights, IsAlike, alike_both, changes_nothing, run_alike}
use Rattle.plain_plays.proofs.PlainSteps.Looks.Amounts.{covers_seen}
use Rattle.plain_plays.proofs.PlainSteps.Looks.Attributes.{attr_ends, attr_looks}
use Rattle.plain_plays.proofs.PlainSteps.Looks.Gathered.{HasGathered, gathered, sights_first, sights_of, sights_rest, well_rest}
use Rattle.plain_plays.proofs.PlainSteps.Looks.Answered.{had_alike}
use Rattle.plain_plays.proofs.PlainSteps.Looks.Seeing.{bytes_same, sees_room, size_same}

-- ---- the first call

-- a caller alone makes the first call there is
pub none_before : (me : ℕ) (before rest : List Event) → AreBy me (before ++ rest) → calls_of me before ≡ [] → before ≡ []
none_before me [] rest by none = refl
none_before me (e ∷ before) rest by none =
    let own : e.caller ≡ me = by.0 in
    let mine : nat_eq e.caller me ≡ true = grind (arith, nat_tests) in
    absurd (let clash : asked_in e ∷ calls_of me before ≡ [] = sym (ap (λ b. if b then asked_in e ∷ calls_of me before else calls_of me before) mine) ∙ none in cc)

head_of : (a b : Event) (xs ys : List Event) → a ∷ xs ≡ b ∷ ys → a ≡ b
head_of a b xs ys same = cc

same_room : (a b : ℕ) → Room a ≡ Room b → a ≡ b
same_room a b same = cc

-- what the machine tells of the room
abbrev TellsRoom : PlainRoom → Outcome → Type 0
TellsRoom room outcome = outcome ≡ Stat (plain_size (changes (landed_writes room.writers) room.truncs)) (stored_bytes (changes (landed_writes room.writers) room.truncs)) (shares room.writers) room.truncs

module _ (m : Moment) (me : ℕ) (p : Plain) (handle : Option WriterHandle) (actor : PlainActor) (declared : ActorDecl) (name : Name) (o : Mirrors m p) (has : HasActor m me p handle actor) where
  abbrev Step : Outcome → Moment → Type 0
  Step outcome last = TakesStep m me declared actor p (StatOf name) outcome last handle

  -- ---- a file of a room

  module _ (n : ℕ) (room : PlainRoom) (there : slice_get p.rooms n ≡ Some room) where
    -- so it is told of a cut of the room
    told_of : (begin until : Moment) → IsAlike m begin → IsAlike m until → IsSoundAt until → (cut : List Gathered) (attr : Attr) → HasView begin until n cut attr.truncs → attr.size ≡ plain_size (changes_in until cut attr.truncs) → attr.shares ≡ shares_seen until cut → attr.stored ≡ stored_in attr.shares → TellsRoom room (stat_outcome (Ok attr))
    told_of begin until begins ends sound cut attr v size parts stored =
        let s = sees_room m begin until begins ends sound p o n room there cut attr.truncs v in
        let b = bytes_same m begin until begins ends sound p o n room there cut attr.truncs v attr.shares attr.stored parts stored in
        let z = size_same m begin until begins ends sound p o n room there cut attr.truncs v attr.size size in
        (λ i. Stat (z i) (b.1 i) (b.0 i) (s.truncs_are i))

  -- ---- the names tell of it

  -- the calls of a look whose names told, and those that follow it
  cached_takes : (n : ℕ) (events first rest : List Event) (out : Result Attr Stuck) (attr : Attr) → events ≡ first ++ rest → IsLawful m.state (first ++ rest) → AreBy me (first ++ rest) → (x : Moment) → IsFound m x p name n → (found : Event) (later : List Event) → found.reply ≡ Room n → first ≡ found ∷ later
      → Runs me (attr_program name) first (Ok (Cached attr)) → Runs me (or_gathers (Cached attr)) rest out → Step (stat_outcome out) (moment_after m events)
  cached_takes n events first rest out attr all lawful by x f found later replied are runs then_runs =
      let is : Ok attr ≡ out = ended me (Ok attr) rest out then_runs in
      let none : rest ≡ [] = over_alone me (Ok attr) rest out (by_rest me first rest by) then_runs in
      let whole = legal_first m first rest lawful in
      let mine : AreBy me first = by_first me first rest by in
      let sights : AreSights first = sights_of first (asked_only IsLook me first (attr_program name) (Ok (Cached attr)) (attr_looks name) mine runs) in
      let h = told_run me m first name attr whole o.sound runs in
      let behind : List Event = h.first ∷ h.more ++ h.listing ∷ h.later in
      let nothing : h.before ≡ [] = none_before me h.before behind (subst (AreBy me) h.split mine) h.waits in
      let one : h.first ≡ found = head_of h.first found (h.more ++ h.listing ∷ h.later) later (sym (h.split ∙ ap (λ l. l ++ behind) nothing) ∙ are) in
      let here : h.room ≡ n = same_room h.room n (sym h.found ∙ ap (λ (e : Event). e.reply) one ∙ replied) in
      let start : Moment = moment_after m h.before in
      let until : Moment = moment_after start (h.first ∷ h.more) in
      let lawful_so : IsLawful m.state (h.before ++ behind) = subst (IsLawful m.state) h.split whole in
      let sights_so : AreSights (h.before ++ behind) = subst AreSights h.split sights in
      let l1 = legal_first m h.before behind lawful_so in
      let s1 : IsSoundAt start = sound_after m h.before l1 o.sound in
      let l2 = legal_first start (h.first ∷ h.more) (h.listing ∷ h.later) (legal_rest m h.before behind lawful_so) in
      let a1 : IsAlike m start = run_alike h.before m o.sound l1 (sights_first h.before behind sights_so) in
      let a2 : IsAlike start until = run_alike (h.first ∷ h.more) start s1 l2 (sights_first (h.first ∷ h.more) (h.listing ∷ h.later) (sights_rest h.before behind sights_so)) in
      let told : TellsRoom f.room (stat_outcome (Ok attr)) = told_of n f.room f.there start until a1 (alike_both m start until a1 a2) (sound_after start (h.first ∷ h.more) l2 s1) h.cut attr (subst (λ k. HasView start until k h.cut attr.truncs) here h.view) h.tells.size_is h.tells.shares_are h.tells.stored_is in
      let last : moment_after m first ≡ moment_after m events = ap (moment_after m) (sym (all ∙ ap (λ l. first ++ l) none ∙ append-nil first)) in
      subst (Step (stat_outcome out)) last
      (changes_nothing m (moment_after m first) (run_alike first m o.sound whole sights) (sound_after m first whole o.sound) me declared p actor (StatOf name) (stat_outcome out) handle o has
      (on_room p name (stat_outcome out) p (λ number room. TellsRoom room (stat_outcome out) × (p ≡ p)) n f.room f.is f.there (ap stat_outcome (sym is) ∙ told, refl)))

  -- ---- its index is gathered

  merged_takes : (n : ℕ) (events first rest : List Event) (out : Result Attr Stuck) → events ≡ first ++ rest → IsLawful m.state (first ++ rest) → GoesWell me (first ++ rest) → AreBy me (first ++ rest) → (x : Moment) → IsSoundAt x → IsFound m x p name n
      → Runs me (attr_program name) first (Ok (MustMerge n)) → Runs me (or_gathers (MustMerge n)) rest out → Step (stat_outcome out) (moment_after m events)
  merged_takes n events first rest out all lawful well by x x_sound f runs then_runs =
      let whole = legal_first m first rest lawful in
      let mine : AreBy me first = by_first me first rest by in
      let sights : AreSights first = sights_of first (asked_only IsLook me first (attr_program name) (Ok (MustMerge n)) (attr_looks name) mine runs) in
      let mid : Moment = moment_after m first in
      let alike : IsAlike m mid = run_alike first m o.sound whole sights in
      let sound : IsSoundAt mid = sound_after m first whole o.sound in
      let after_find : IsAlike x mid = alike_from m x mid f.alike alike in
      let h : HasGathered attr_of 1 mid n rest out = gathered attr_of 1 (omega arith) n me mid rest out sound (had_alike x x_sound n f.had mid after_find) (legal_rest m first rest lawful) (well_rest me first rest well) (by_rest me first rest by) then_runs in
      let attr : Attr = attr_of h.listing h.shares h.truncs in
      let r = h.opened in
      let parts : attr.shares ≡ shares_seen r.until r.cut = ap shares_covered r.has.covers ∙ covers_seen r.until r.cut in
      let told : TellsRoom f.room (stat_outcome (Ok attr)) = told_of n f.room f.there r.begin r.until (alike_both m mid r.begin alike r.begins) (alike_both m mid r.until alike r.ends) r.sound r.cut attr (subst (λ k. HasView r.begin r.until k r.cut h.truncs) h.room r.has.view) r.has.size parts refl in
      let last : moment_after mid rest ≡ moment_after m events = sym (ap (moment_after m) all ∙ moment-append m first rest) in
      subst (Step (stat_outcome out)) last
      (changes_nothing m (moment_after mid rest) (alike_both m mid (moment_after mid rest) alike h.last) (sound_after mid rest (legal_rest m first rest lawful) sound) me declared p actor (StatOf name) (stat_outcome out) handle o has
      (on_room p name (stat_outcome out) p (λ number room. TellsRoom room (stat_outcome out) × (p ≡ p)) n f.room f.is f.there (ap stat_outcome h.is ∙ told, refl)))
    where
      alike_from : (a b c : Moment) → IsAlike a b → IsAlike a c → IsAlike b c
      alike_from a b c x y = record {
        tree = y.tree ∙ sym x.tree;
        issued = y.issued ∙ sym x.issued;
        table = y.table ∙ sym x.table;
        times = y.times ∙ sym x.times;
        marks = y.marks ∙ sym x.marks;
        mount = y.mount ∙ sym x.mount;
        serial = y.serial ∙ sym x.serial;
      }

  -- ---- the statement

  -- It ends as the machine's does.
  pub tell_takes : (events : List Event) (out : Result Attr Stuck) → IsLawful m.state events → GoesWell me events → AreBy me events → Runs me (tell_program name) events out → Step (stat_outcome out) (moment_after m events)
  tell_takes events out lawful well by runs =
      let two = runs_in_two me (attr_program name) (on_ok or_gathers) events out runs in
      let whole : IsLawful m.state (two.first ++ two.rest) = subst (IsLawful m.state) two.all lawful in
      let went : GoesWell me (two.first ++ two.rest) = subst (GoesWell me) two.all well in
      let mine : AreBy me (two.first ++ two.rest) = subst (AreBy me) two.all by in
      behind two.value two.first two.rest two.all whole went mine two.runs two.then_runs
    where
      behind : (value : Result AttrOut Stuck) (first rest : List Event) → events ≡ first ++ rest → IsLawful m.state (first ++ rest) → GoesWell me (first ++ rest) → AreBy me (first ++ rest) → Runs me (attr_program name) first value → Runs me (on_ok or_gathers value) rest out → Step (stat_outcome out) (moment_after m events)
      behind value first rest all whole went mine told then_runs = elim (finds m me p o name (λ reply. given (room_in reply) (failure reply) lists_open) first value (legal_first m first rest whole) (well_first me first rest went) (by_first me first rest mine) told) as (λ _. Step (stat_outcome out) (moment_after m events)) [
        | inr (g, alike, none) ↦
            let is : Err (stuck.Refused refusal.NoRoom) ≡ value = ended me (Err (stuck.Refused refusal.NoRoom)) g.rest value g.runs in
            let over : g.rest ≡ [] = over_alone me (Err (stuck.Refused refusal.NoRoom)) g.rest value g.by g.runs in
            let on : Runs me (on_ok or_gathers (Err (stuck.Refused refusal.NoRoom))) rest out = subst (λ v. Runs me (on_ok or_gathers v) rest out) (sym is) then_runs in
            let out_is : Err (stuck.Refused refusal.NoRoom) ≡ out = ended me (Err (stuck.Refused refusal.NoRoom)) rest out on in
            let nothing : rest ≡ [] = over_alone me (Err (stuck.Refused refusal.NoRoom)) rest out (by_rest me first rest mine) on in
            let last : g.mid ≡ moment_after m events = ap (moment_after g.mid) (sym over) ∙ g.ends ∙ ap (moment_after m) (sym (all ∙ ap (λ l. first ++ l) nothing ∙ append-nil first)) in
            subst (Step (stat_outcome out)) last
            (changes_nothing m g.mid alike g.sound me declared p actor (StatOf name) (stat_outcome out) handle o has (no_room p name (stat_outcome out) p (λ number room. TellsRoom room (stat_outcome out) × (p ≡ p)) none (ap stat_outcome (sym out_is), refl)))
        | inl (n, g, f) ↦ elim (attr_ends g.mid g.sound n f.had f.old f.at f.room f.has me g.rest value g.lawful g.well g.by g.runs) as (λ _. Step (stat_outcome out) (moment_after m events)) [
          | inl (attr, is) ↦ cached_takes n events first rest out attr all whole mine g.mid f g.event g.rest g.told g.are (subst (Runs me (attr_program name) first) is told) (subst (λ v. Runs me (on_ok or_gathers v) rest out) is then_runs)
          | inr is ↦ merged_takes n events first rest out all whole went mine g.mid g.sound f (subst (Runs me (attr_program name) first) is told) (subst (λ v. Runs me (on_ok or_gathers v) rest out) is then_runs)
        ]
      ]

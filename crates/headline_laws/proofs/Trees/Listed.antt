-- What a line that lists all names says, where no statement renames: none is missing that stood before.
use Rattle.std.proofs.Common.{◌≡◌, ◌⊎◌, inl, inr, ℕ, true, false, List, [], ◌∷◌, ◌++◌, length, Option, Some, Result, Ok, Err, refl, sym, ap, ◌∙◌, subst, append_assoc}
use Rattle.std.specs.Prelude.{slice_get}
use Rattle.std.specs.List.{All, AllByRecursion}
use Rattle.std.proofs.lemmas.List.{append-nil}
use Rattle.std.proofs.lemmas.List.Elements.{All-from_recursion}
use Rattle.plain_file.proofs.Facts.{Among}
use Rattle.plfs_types.specs.Names.{IsLogicalName, is_logical}
use Rattle.plfs_types.proofs.NameTests.{rule_passes}
use Rattle.store_api.specs.Acts.{Acts, Stored}
use Rattle.store_api.specs.Step.{Step}
use Rattle.store_api.specs.declared.step.Answer.TheVariants.{Made, Names}
use Rattle.store_api.specs.declared.tree.Room.{Room}
use Rattle.store_api.specs.declared.tree.Tree.{Tree}
use Rattle.store_laws.specs.Naming.{NamesRoom}
use Rattle.store_laws.proofs.Facts.{acts_told, keeps_rooms}
use Rattle.mount_model.specs.declared.call.Ask.{Ask}
use Rattle.mount_model.specs.declared.call.Call.TheVariants.{Rooms as AskRooms}
use Rattle.mount_model.specs.History.{Event}
use Rattle.mount_model.specs.Making.{Told as WasTold}
use Rattle.mount_model.specs.Mounting.{IsMounted, list_step, mark_step, marks_step}
use Rattle.mount_model.specs.Paths.{Name}
use Rattle.mount_model.specs.State.{State}
use Rattle.mount_model.specs.Step.{Answers}
use Rattle.mount_sound.specs.Owed.{IsLawful}
use Rattle.mount_sound.specs.Sound.{IsSoundTree}
use Rattle.mount_model.specs.declared.stuck.Stuck.{Stuck}
use Rattle.mount_model.specs.declared.stuck.Stuck.TheVariants as stuck
use Rattle.mount_model.specs.Running.{Runs, unbroken}
use Rattle.mount_model.proofs.Flows.Facts.{runs_next}
use Rattle.mount_model.specs.Program.{done}
use Rattle.reader_laws.specs.Moments.{IsSoundAt, Moment, moment_after}
use Rattle.reader_laws.proofs.Gathered.Facts.{among, follows, is_among, legal_first, legal_rest, moment-append, sound_after}
use Rattle.writer_laws.proofs.Stops.{whole_answers}
use Rattle.script_lang.specs.Ranges.{FitsScript}
use Rattle.script_lang.specs.declared.line.Outcome.TheVariants as line
use Rattle.script_lang.specs.declared.script.Statement.{Statement}
use Rattle.script_lang.specs.declared.script.Statement.TheVariants.{Ls}
use Rattle.actor_core.specs.declared.kept.Kept.{Kept}
use Rattle.actor_core.specs.Endings.{Ending, names_listed as ends_listed, stopped}
use Rattle.actor_core.specs.Names.{names_program, names_told}
use Rattle.actor_core.specs.Statements.{disarmed, work_of}
use Rattle.actor_core.specs.Work.{finishes}
use Rattle.run_core.specs.Play.{IsRight}
use Rattle.headline_laws.proofs.Plays.Facts.{ComesTo}
use Rattle.headline.specs.Run.{IsLine, Run, Says, Told, surely_before}
use Rattle.plfs_types.specs.Places.{IsAmong}
use Rattle.headline.specs.Names.{names_in}
use Rattle.store_api.specs.Names.{marks_name}
use Rattle.headline.specs.Readers.{RenamesNone, SpeaksOf}
use Rattle.headline.specs.Files.{reader_at}
use Rattle.headline.specs.Changes.{Writing, writing_at}
use Rattle.headline.specs.Listed.{HasListed, ListsAll}
use Rattle.headline_laws.proofs.Contents.OpenedWriter.{First, sound_first}
use Rattle.headline_laws.proofs.Landed.Machines.{alive_does, greets}
use Rattle.headline_laws.proofs.Statements.Did.{IsOfKindOr}
use Rattle.headline_laws.proofs.Statements.Does.{Ended, did, was_gone}
use Rattle.headline_laws.proofs.Story.Lines.{AnyLine, line_here, room_of, two_here}
use Rattle.headline_laws.proofs.Story.Listing.{AreListed, name_of_room, names_listed, room_of_name}
use Rattle.headline_laws.proofs.Story.Named.{HasName, NamedAt, name_stays, named_at, no_moves}
use Rattle.headline_laws.proofs.Story.Opened.{RanTo, carried_came}
use Rattle.headline_laws.proofs.Trees.Reading.{before_it, last_tree}

-- ---- the statement

ls_of : (s : Statement) (names : List Name) → IsOfKindOr s (line.Listed names) → s ≡ Ls
ls_of Ls names kind = refl
ls_of s names kind = absurd kind

-- it was made, by an actor that was not stopped before
record WasLs (kept : Kept) (s : Statement) : Type 0 where
  pub asked : s ≡ Ls
  pub alive : kept.gone ≡ false

was_ls : (kept : Kept) (s : Statement) (e : Ending) (names : List Name) → e.outcome ≡ line.Listed names → Ended kept s e → WasLs kept s
was_ls kept s e names says (was_gone is out now) = absurd (let clash : line.Gone ≡ line.Listed names = sym out ∙ says in cc)
was_ls kept s e names says (did lives d) = record { asked = ls_of s names (subst (IsOfKindOr s) says d.kind); alive = lives }

-- the call, with what was called before it and behind it
record RoomsCall (n : ℕ) (names : List Name) (mine : List Event) : Type 0 where
  pub pre : List Event
  pub event : Event
  pub post : List Event
  pub split : mine ≡ pre ++ event ∷ post
  pub asked : event.ask ≡ unbroken AskRooms
  pub tells : names_told event.reply ≡ Ok names

found_call : (n : ℕ) (names : List Name) (events : List Event) → Runs n names_program events (Ok names) → RoomsCall n names events
found_call n names [] runs = absurd runs
found_call n names (e ∷ events) runs = elim (runs_next n AskRooms (λ reply. done (names_told reply)) e events (Ok names) runs) as (λ _. RoomsCall n names (e ∷ events)) [
  | inl (other, on) ↦ let c = found_call n names events on in record { pre = e ∷ c.pre; event = c.event; post = c.post; split = ap (λ z. e ∷ z) c.split; asked = c.asked; tells = c.tells }
  | inr (mine, asked, on) ↦ record { pre = []; event = e; post = events; split = refl; asked = asked; tells = on.1 }
]

module _ (n : ℕ) (names : List Name) (spent : List (List Event)) (e : Ending) (says : e.outcome ≡ line.Listed names) where
  ends_so : (kept : Kept) (result : Result (List Name) Stuck) → ends_listed kept result ≡ e → result ≡ Ok names
  ends_so kept (Ok others) is = let same : line.Listed others ≡ line.Listed names = ap (λ (x : Ending). x.outcome) is ∙ says in cc
  ends_so kept (Err stuck.Fault) is = absurd (let clash : line.Fault ≡ line.Listed names = ap (λ (x : Ending). x.outcome) is ∙ says in cc)
  ends_so kept (Err (stuck.Damaged folder file place)) is = absurd (let clash : line.Damaged folder file place ≡ line.Listed names = ap (λ (x : Ending). x.outcome) is ∙ says in cc)
  ends_so kept (Err (stuck.Refused why)) is = absurd (let clash = ap (λ (x : Ending). x.outcome) is ∙ says in cc)

  rooms_call : (kept : Kept) (mine : List Event) → kept.gone ≡ false → ComesTo n (work_of kept Ls) mine spent e → RoomsCall n names mine
  rooms_call kept mine alive comes =
      let g = greets n kept Ls mine spent e comes in
      let left : Kept = disarmed g.left in
      by left g.first g.rest g.all (carried_came n names_program g.left.armed (λ later result. finishes (ends_listed left result)) (finishes (stopped left)) g.rest spent e (alive_does n g.left Ls g.rest spent e (g.gone_is ∙ alive) g.comes))
    where
      by : (left : Kept) (first rest : List Event) → mine ≡ first ++ rest → RanTo n names_program (λ later result. finishes (ends_listed left result)) rest spent e ⊎ ((more : List Event) × ComesTo n (finishes (stopped left)) more spent e) → RoomsCall n names mine
      by left first rest all (inr (more, halted)) = absurd (let clash : line.Stopped ≡ line.Listed names = ap (λ (x : Ending). x.outcome) halted.2 ∙ says in cc)
      by left first rest all (inl r) =
          let c = found_call n names r.first (subst (Runs n names_program r.first) (ends_so left r.result r.on.2) r.runs) in
          record {
            pre = first ++ c.pre;
            event = c.event;
            post = c.post ++ r.rest;
            split = all ∙ ap (λ z. first ++ z) (r.all ∙ ap (λ z. z ++ r.rest) c.split ∙ append_assoc c.pre (c.event ∷ c.post) r.rest) ∙ sym (append_assoc first c.pre (c.event ∷ (c.post ++ r.rest)));
            asked = c.asked;
            tells = c.tells;
          }

-- ---- names that stay

-- through an act that names no room
act_names : (step : Step) (old new : Stored) (tree : Tree) (told : WasTold) (n : ℕ) (name : Name) → Acts step old new told → (NamesRoom step n → ⊥) → old.tree ≡ Some tree → (room : Room) → slice_get tree.rooms n ≡ Some room → room.name ≡ name
    → (after : Tree) × (new.tree ≡ Some after) × ((r : Room) × (slice_get after.rooms n ≡ Some r) × (r.name ≡ name))
act_names step old new tree told n name acts apart is room there named =
    let t = acts_told step old new tree told is acts in
    let k = keeps_rooms step tree told t.0 t.2 n room there in
    (t.0, t.1, (k.0, k.1, k.2.name apart ∙ named))

pub mounting_names : (times : Option (List ℕ)) (opened : Stored) (start : State) (tree : Tree) (n : ℕ) (name : Name) → IsMounted 0 times opened start → opened.tree ≡ Some tree → (room : Room) → slice_get tree.rooms n ≡ Some room → room.name ≡ name → HasName start n name
mounting_names times opened start tree n name mounted is room there named =
    let d = mounted.draws in
    let a = act_names marks_step opened d.roomed tree d.tells.told n name d.tells.made (λ no. no) is room there named in
    let b = act_names (list_step start.marks) d.roomed d.listed a.0 (Ok (Names d.names)) n name d.lists (λ no. no) a.1 a.2.0 a.2.1 a.2.2 in
    let c = act_names (mark_step start.marks start.mount) d.listed start.store b.0 (Ok Made) n name d.marked (λ no. no) b.1 b.2.0 b.2.1 b.2.2 in
    record { tree = c.0; told = c.1; room = c.2.0; there = c.2.1; is = c.2.2 }

same_tree : (x y : Tree) (o : Option Tree) → o ≡ Some x → o ≡ Some y → x ≡ y
same_tree x y o p q = cc

not_marks : (name : Name) → IsLogicalName name → name ≡ marks_name → ⊥
not_marks name logical is = let clash : false ≡ true = sym (ap is_logical is) ∙ rule_passes name logical in absurd (cc)

pub unmarked_so : (xs : List Name) → AllByRecursion IsLogicalName xs → Among marks_name xs → ⊥
unmarked_so [] all at = absurd at
unmarked_so (x ∷ xs) all (inl same) = not_marks x all.0 (sym same)
unmarked_so (x ∷ xs) all (inr at) = unmarked_so xs all.1 at

module _ (run : Run) (times : Option (List ℕ)) (mount : Stored) (start end : State) (fits : FitsScript run.script) (mounted : IsMounted 0 times mount start) (tells : mount.tree ≡ Some run.before) (sound : IsSoundTree run.before)
    (right : IsRight run.script start run.lines end) (left : end.store.tree ≡ Some run.after) (free : run.in_order ≡ false) where
  abbrev Begins : Moment
  Begins = First run times mount start end fits mounted tells sound right left

  abbrev sound_begins : IsSoundAt Begins
  sound_begins = sound_first run times mount start end fits mounted tells sound right left

  abbrev Line : Option Told → Writing → Told → Type 0
  Line r w t = AnyLine run Begins end fits sound_begins right r w t

  -- a name of a container stays
  pub stays_to : RenamesNone run → (c gap rest : List Event) → right.history ≡ c ++ (gap ++ rest) → (n : ℕ) (name : Name) → HasName (moment_after Begins c).state n name → HasName (moment_after Begins (c ++ gap)).state n name
  stays_to none c gap rest is n name has =
      let whole : IsLawful Begins.state (c ++ (gap ++ rest)) = subst (IsLawful Begins.state) is right.leads.lawful in
      let later : IsLawful (moment_after Begins c).state (gap ++ rest) = legal_rest Begins c (gap ++ rest) whole in
      name_stays (moment_after Begins c).state gap n name (legal_first (moment_after Begins c) gap rest later)
      (λ first e more split. no_moves run Begins end fits sound_begins right left none (c ++ first) e (more ++ rest) (is ∙ ap (λ z. c ++ (z ++ rest)) split ∙ ap (λ z. c ++ z) (append_assoc first (e ∷ more) rest) ∙ sym (append_assoc c first (e ∷ (more ++ rest)))))
      has (moment_after Begins (c ++ gap)).state (ap (λ (x : Moment). x.state) (moment-append Begins c gap) ∙ (follows (moment_after Begins c) gap).0)

  -- ---- where the names were told

  pub record ListingAt {r : Option Told} {w : Writing} {t : Told} (l : Line r w t) (names : List Name) : Type 0 where
    pub upto : List Event
    pub rest : List Event
    pub split : right.history ≡ (l.line.part.earlier ++ upto) ++ rest
    pub inside : (more : List Event) × (l.line.part.mine ≡ upto ++ more)
    pub sound_there : IsSoundAt (moment_after Begins (l.line.part.earlier ++ upto))
    pub listed : AreListed sound_there.shape.tree names

  pub listing : (r : Option Told) (w : Writing) (t : Told) (l : Line r w t) (names : List Name) → t.outcome ≡ line.Listed names → ListingAt l names
  listing r w t l names says =
      let p = l.line.part in
      let told : p.e.outcome ≡ line.Listed names = sym l.line.says ∙ says in
      let was = was_ls l.line.kept t.statement p.e names told p.ended in
      let c = rooms_call l.number names p.spent p.e told l.line.kept p.mine was.alive (subst (λ s. ComesTo l.number (work_of l.line.kept s) p.mine p.spent p.e) was.asked p.comes) in
      let upto : List Event = p.earlier ++ c.pre in
      let split : right.history ≡ upto ++ (c.event ∷ (c.post ++ p.later)) = p.split ∙ ap (λ z. p.earlier ++ (z ++ p.later)) c.split ∙ ap (λ z. p.earlier ++ z) (append_assoc c.pre (c.event ∷ c.post) p.later) ∙ sym (append_assoc p.earlier c.pre (c.event ∷ (c.post ++ p.later))) in
      let whole : IsLawful Begins.state (upto ++ (c.event ∷ (c.post ++ p.later))) = subst (IsLawful Begins.state) split right.leads.lawful in
      let s : IsSoundAt (moment_after Begins upto) = sound_after Begins upto (legal_first Begins upto (c.event ∷ (c.post ++ p.later)) whole) sound_begins in
      let step = (legal_rest Begins upto (c.event ∷ (c.post ++ p.later)) whole).1 in
      let answers : Answers (moment_after Begins upto).state c.event.caller AskRooms c.event.reply c.event.after =
      subst (λ q. Answers (moment_after Begins upto).state c.event.caller q c.event.reply c.event.after) (ap (λ (a : Ask). a.call) c.asked) (whole_answers (moment_after Begins upto).state c.event.caller c.event.ask c.event.reply c.event.after (ap (λ (a : Ask). a.stop) c.asked) step) in
      record { upto = c.pre; rest = c.event ∷ (c.post ++ p.later); split = split; inside = (c.event ∷ c.post, c.split); sound_there = s; listed = names_listed (moment_after Begins upto).state c.event.after s.shape.tree c.event.reply names s.shape.told answers c.tells }

  -- ---- what is among them

  -- a container that has the name then, but that of the marks
  pub in_list : {r : Option Told} {w : Writing} {t : Told} (l : Line r w t) (names : List Name) (z : ListingAt l names) (n : ℕ) (name : Name) → (name ≡ marks_name → ⊥) → HasName (moment_after Begins (l.line.part.earlier ++ z.upto)).state n name → IsAmong name names
  in_list l names z n name apart has =
      let then_is : Moment = moment_after Begins (l.line.part.earlier ++ z.upto) in
      let there : slice_get z.sound_there.shape.tree.rooms n ≡ Some has.room = subst (λ (x : Tree). slice_get x.rooms n ≡ Some has.room) (same_tree has.tree z.sound_there.shape.tree then_is.state.store.tree has.told z.sound_there.shape.told) has.there in
      elim (z.sound_there.shape.shaped.rooms n has.room there) as (λ _. IsAmong name names) [
        | inl m ↦ absurd (apart (sym has.is ∙ m.named))
        | inr c ↦ is_among names name (z.listed.all name (subst IsLogicalName has.is c.named) (record { number = n; room = has.room; there = there; is = has.is }))
      ]

  module _ (none : RenamesNone run) (t : Told) (names : List Name) (says : Says run t (line.Listed names)) (r : Option Told) (w : Writing) (l : Line r w t) (z : ListingAt l names) where
    abbrev X : List Event
    X = l.line.part.earlier ++ z.upto

    known_so : All (λ (name : Name). IsAmong name (names_in run.after)) names
    known_so = All-from_recursion (λ (name : Name). IsAmong name (names_in run.after)) names (each names (λ name at. at))
      where
        one : (name : Name) → Among name names → IsAmong name (names_in run.after)
        one name at =
            let f = z.listed.found name at in
            let last = stays_to none X z.rest [] (z.split ∙ ap (λ q. X ++ q) (sym (append-nil z.rest))) f.number name (record { tree = z.sound_there.shape.tree; told = z.sound_there.shape.told; room = f.room; there = f.there; is = f.is }) in
            let tree : last.tree ≡ run.after = same_tree last.tree run.after (moment_after Begins (X ++ z.rest)).state.store.tree last.told (ap (λ es. (moment_after Begins es).state.store.tree) (sym z.split) ∙ last_tree run Begins end fits sound_begins right left) in
            is_among (names_in run.after) name (room_of_name run.after.rooms name f.number last.room (subst (λ (x : Tree). slice_get x.rooms f.number ≡ Some last.room) tree last.there) last.is)

        each : (xs : List Name) → ((name : Name) → Among name xs → Among name names) → AllByRecursion (λ (name : Name). IsAmong name (names_in run.after)) xs
        each [] all = tt
        each (x ∷ xs) all = (one x (all x (inl refl)), each xs (λ name at. all name (inr at)))

    stood_so : (name : Name) → IsAmong name (names_in run.before) → (name ≡ marks_name → ⊥) → IsAmong name names
    stood_so name at apart =
        let f = name_of_room run.before.rooms name (among (names_in run.before) name at) in
        in_list l names z f.number name apart (stays_to none [] X z.rest z.split f.number name (mounting_names times mount start run.before f.number name mounted tells f.room f.there f.is))

  -- one by which a line spoke of a container before
  spoken_so : RenamesNone run → (t : Told) (names : List Name) → Says run t (line.Listed names) → (s : Told) (name : Name) → IsLine run s → SpeaksOf name s.statement s.outcome → surely_before run s t ≡ true → (name ≡ marks_name → ⊥) → IsAmong name names
  spoken_so none t names says s name is_line speaks sooner apart =
      let two = two_here run Begins end fits sound_begins right free s t is_line says.is_line sooner in
      let l = two.one.line in
      let p = l.part in
      let h = l.shown in
      let k : ℕ = room_of Begins two.one.number (record { before = p.earlier; events = h.front }) (length run.after.rooms) l.file h.new h.new_writer s.statement s.outcome h.shows in
      let a : NamedAt Begins p.earlier h.front name k = named_at Begins two.one.number p.earlier h.front (length run.after.rooms) name l.file h.new l.writer h.new_writer s.statement s.outcome speaks h.shows h.writes in
      let g = before_it run Begins end fits sound_begins right s t two a.upto a.later a.split in
      let z = listing two.reader_then two.writing_then t two.other names says.says in
      let c : List Event = p.earlier ++ a.upto in
      let there : two.other.line.part.earlier ++ z.upto ≡ c ++ (g.0 ++ z.upto) = ap (λ es. es ++ z.upto) g.1 ∙ append_assoc c g.0 z.upto in
      let split : right.history ≡ c ++ ((g.0 ++ z.upto) ++ z.rest) = z.split ∙ ap (λ es. es ++ z.rest) there ∙ append_assoc c (g.0 ++ z.upto) z.rest in
      let now : IsSoundAt (moment_after Begins c) = sound_after Begins c (legal_first Begins c ((g.0 ++ z.upto) ++ z.rest) (subst (IsLawful Begins.state) split right.leads.lawful)) sound_begins in
      let room = a.named now.shape.tree now.shape.told in
      let then_named = stays_to none c (g.0 ++ z.upto) z.rest split k name (record { tree = now.shape.tree; told = now.shape.told; room = room.room; there = room.has_room; is = room.named }) in
      in_list two.other names z k name apart (subst (λ es. HasName (moment_after Begins es).state k name) (sym there) then_named)

  lists_so : (t : Told) (names : List Name) → Says run t (line.Listed names) → ListsAll run t names
  lists_so t names says =
      let l = line_here run Begins end fits sound_begins right t says.is_line in
      let z = listing (reader_at run t) (writing_at run t) t l names says.says in
      record {
        ordered = z.listed.ordered;
        unmarked = λ at. unmarked_so names z.listed.logical (among names marks_name at);
        known = λ none. known_so none t names says (reader_at run t) (writing_at run t) l z;
        stood = λ none name at apart. stood_so none t names says (reader_at run t) (writing_at run t) l z name at apart;
        spoken = λ none s name is_line speaks sooner apart. spoken_so none t names says s name is_line speaks sooner apart;
      }

  -- the law of this file
  pub names_are_listed : HasListed run
  names_are_listed = record { shows = lists_so }

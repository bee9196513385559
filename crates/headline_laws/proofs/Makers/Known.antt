-- Each truncate that stands, or that a line shows, is of the tree before, or of a line that told it or broke off.
use Rattle.std.proofs.Common.{◌≡◌, ◌⊎◌, ◌≤◌, ◌+◌, inl, inr, ℕ, Bool, true, false, List, [], ◌∷◌, ◌++◌, length, get_or, Option, Some, None, refl, sym, ap, ◌∙◌, subst, arith, append_assoc}
use Rattle.std.specs.Prelude.{slice_get}
use Rattle.std.specs.List.{All, AllByRecursion}
use Rattle.std.proofs.lemmas.List.{append-nil}
use Rattle.std.proofs.lemmas.List.Elements.{All-from_recursion}
use Rattle.plfs_types.specs.declared.entries.ShareBytes.{ShareBytes}
use Rattle.plfs_types.specs.declared.entries.Trunc.{Trunc}
use Rattle.plfs_types.specs.declared.entries.WriterCount.{WriterCount}
use Rattle.plain_file.proofs.Facts.{Among}
use Rattle.container_layout.specs.Items.{IsItem}
use Rattle.container_layout.specs.Paths.{path_of}
use Rattle.container_layout.proofs.Facts.{elsewhere}
use Rattle.store_api.specs.Acts.{Stored}
use Rattle.turn_object.specs.Callers.{made_by}
use Rattle.mount_model.proofs.Stories.Facts.{entries_both}
use Rattle.mount_model.specs.declared.call.Call.TheVariants.{Mark, Release}
use Rattle.mount_model.specs.declared.reply.Refusal.{Refusal}
use Rattle.mount_model.specs.declared.reply.Reply.TheVariants as reply
use Rattle.mount_model.specs.declared.row.Holder.{Holder}
use Rattle.mount_model.specs.History.{Event}
use Rattle.mount_model.specs.Mounting.{IsMounted}
use Rattle.mount_model.specs.State.{State}
use Rattle.mount_model.specs.Table.{holder_of}
use Rattle.mount_model.proofs.Facts.{is_holding}
use Rattle.mount_sound.specs.Owed.{IsLawful}
use Rattle.mount_sound.specs.Sound.{IsSoundTree}
use Rattle.mount_sound.proofs.Facts.{mounted_sound}
use Rattle.reader_laws.specs.Moments.{HadTrunc, IsSoundAt, Moment, file_in_room, file_told, moment_after, next_moment}
use Rattle.reader_laws.proofs.Gathered.Facts.{all_at, in_a_room, in_tree, legal_first, legal_rest, moment-append, sound_after}
use Rattle.reader_laws.proofs.Gathered.Moments.Stepping.{sound_next}
use Rattle.script_lang.specs.Ranges.{FitsScript}
use Rattle.script_lang.specs.declared.line.Outcome.{Outcome}
use Rattle.script_lang.specs.declared.line.Outcome.TheVariants as line
use Rattle.script_lang.specs.declared.script.Statement.{Statement}
use Rattle.script_lang.specs.declared.script.Statement.TheVariants.{Trunc as Truncate}
use Rattle.actor_core.specs.Statements.{work_of}
use Rattle.run_core.specs.Play.{IsRight}
use Rattle.headline_laws.specs.Changing.{IsAnswered, IsHolderOf, TruncatesFile}
use Rattle.headline_laws.specs.OneFile.{OneFile, printed_cut}
use Rattle.headline_laws.specs.OneWriter.{OneWriter}
use Rattle.headline_laws.specs.Opening.{Stretch}
use Rattle.headline_laws.specs.Showing.{Shows}
use Rattle.headline_laws.proofs.Plays.Facts.{ComesTo, IsQuiet, MayAsk}
use Rattle.headline.specs.Run.{IsLine, Run, Told, surely_before}
use Rattle.headline.specs.Trees.{Has}
use Rattle.headline.specs.Names.{BrokeOff, Story, failed, stopped}
use Rattle.headline.specs.Views.{Truncates, item_of}
use Rattle.headline.specs.Truncs.{HasTruncs, IsKnown}
use Rattle.headline.specs.Changes.{Writing, writing_at}
use Rattle.headline.specs.Files.{reader_at}
use Rattle.headline_laws.proofs.Story.Attributed.{Attributed, attributed, ends_before}
use Rattle.headline_laws.proofs.Story.Lines.{AnyLine, container, first_held, held_room, line_here, room_of}
use Rattle.headline_laws.proofs.Story.Namings.{story_of}
use Rattle.headline_laws.proofs.Makers.Back.{mounted_back}
use Rattle.headline_laws.proofs.Makers.Holding.{HoldsOnly, lets_go, only_along, only_granted}
use Rattle.headline_laws.proofs.Makers.Holds.{HoldsAndMarks, IsMark, IsMove, IsRefusal, MarkEnd, MarkedSo, halted, holds_and_marks, let_go, truncate_free}
use Rattle.headline_laws.proofs.Makers.NewTruncs.{NewTrunc, stood_or_new}
use Rattle.headline_laws.proofs.Trees.Reading.{fronts, grows_to, last_tree, lawful_to}
use Rattle.headline_laws.proofs.Trees.Sights.{Sight, reader_sees, sight_of, stat_line}
use Rattle.headline_laws.proofs.Trees.Still.{file_of}

-- ---- the container of a line

module _ (m : Moment) (n : ℕ) (before front : List Event) (nothing : ℕ) (old new : Option OneFile) (w : Option OneWriter) (name : List ℕ) (size : ℕ) where
  abbrev There : Stretch
  There = record { before = before; events = front }

  -- one that broke off speaks of the container that it held
  broken_room : (s : Statement) (o : Outcome) → s ≡ Truncate name size → BrokeOff o → (shows : Shows m n There old s o new) → room_of m n There nothing old new w s o shows ≡ held_room n nothing front
  broken_room (Truncate name2 size2) line.Fault is broke shows = refl
  broken_room (Truncate name2 size2) line.Stopped is broke shows = refl
  broken_room s o is (failed f) shows = absurd (cc)
  broken_room s o is (stopped f) shows = absurd (cc)

  -- another speaks of the one that it changed by a hold
  record ChangedBy (room : ℕ) : Type 0 where
    pub until : List Event
    pub changing : Event
    pub later : List Event
    pub split : front ≡ until ++ changing ∷ later
    pub holder : ℕ
    pub top : ℕ
    pub its_size : ℕ
    pub stamp : ℕ
    pub changes : IsAnswered n (Mark holder its_size top) (reply.Marked stamp) changing
    pub held : IsHolderOf (moment_after m (before ++ until)) n holder room

  changed_of : (name2 : List ℕ) (size2 stamp : ℕ) (f : TruncatesFile m n There name2 size2 stamp) → ChangedBy f.change.room
  changed_of name2 size2 stamp f =
      let c = f.change in
      record {
        until = c.earlier ++ (c.finding ∷ c.between ++ (c.holding ∷ c.more));
        changing = c.changing;
        later = c.later;
        split = f.made.split ∙ ap (λ z. c.earlier ++ z) (sym (append_assoc (c.finding ∷ c.between) (c.holding ∷ c.more) (c.changing ∷ c.later))) ∙ sym (append_assoc c.earlier (c.finding ∷ c.between ++ (c.holding ∷ c.more)) (c.changing ∷ c.later));
        holder = c.holder;
        top = f.top;
        its_size = size2;
        stamp = stamp;
        changes = f.made.changes;
        held = f.made.held;
      }

  changed_by : (stamp : ℕ) (s : Statement) (o : Outcome) → s ≡ Truncate name size → o ≡ line.Truncated stamp → (shows : Shows m n There old s o new) → ChangedBy (room_of m n There nothing old new w s o shows)
  changed_by stamp (Truncate name2 size2) (line.Truncated stamp2) is says shows = changed_of name2 size2 stamp2 shows.1
  changed_by stamp s o is says shows = absurd (cc)

  -- no line of a truncate tells of damage
  undamaged : (s : Statement) (folder file : List ℕ) (place : ℕ) (o : Outcome) → s ≡ Truncate name size → o ≡ line.Damaged folder file place → Shows m n There old s o new → ⊥
  undamaged (Truncate name2 size2) folder file place (line.Damaged folder2 file2 place2) is says shows = shows.1
  undamaged s folder file place o is says shows = absurd (cc)

all_by : {X : Type 0} (P : X → Type 0) (xs : List X) → ((x : X) → Among x xs → P x) → AllByRecursion P xs
all_by P [] each = tt
all_by P (x ∷ xs) each = (each x (inl refl), all_by P xs (λ y at. each y (inr at)))

module _ (run : Run) (m : Moment) (end : State) (fits : FitsScript run.script) (sound : IsSoundAt m) (right : IsRight run.script m.state run.lines end) where
  abbrev Line : Option Told → Writing → Told → Type 0
  Line r w t = AnyLine run m end fits sound right r w t

  abbrev Of : Told → ℕ
  Of = container run m end fits sound right

  -- the hold by which a line's actor truncates or renames is of the container that it holds first in the part of the line
  pub held_first : (r : Option Told) (w : Writing) (t : Told) (l : Line r w t) (first : List Event) (e : Event) (later : List Event) → l.line.part.mine ≡ first ++ e ∷ later → (k : HoldsAndMarks l.number l.line.part.mine first e later l.line.part.e) → (h : Holder)
      → holder_of l.number k.holder (moment_after m (l.line.part.earlier ++ first)).state.table.holders ≡ Some h → h.room ≡ held_room l.number (length run.after.rooms) l.line.part.mine
  held_first r w t l first e later in_it k h held =
      let p = l.line.part in
      let pre : List Event = p.earlier ++ k.first in
      let behind : List Event = k.mid ++ (e ∷ later ++ p.later) in
      let all : right.history ≡ pre ++ (k.hold ∷ behind) =
      p.split ∙ ap (λ z. p.earlier ++ (z ++ p.later)) in_it ∙ ap (λ z. p.earlier ++ ((z ++ e ∷ later) ++ p.later)) k.is
      ∙ ap (λ z. p.earlier ++ z) (append_assoc (k.first ++ k.hold ∷ k.mid) (e ∷ later) p.later ∙ append_assoc k.first (k.hold ∷ k.mid) (e ∷ later ++ p.later))
      ∙ sym (append_assoc p.earlier k.first (k.hold ∷ behind)) in
      let lawful : IsLawful m.state (pre ++ (k.hold ∷ behind)) = subst (IsLawful m.state) all right.leads.lawful in
      let at : Moment = moment_after m pre in
      let sound_at : IsSoundAt at = sound_after m pre (legal_first m pre (k.hold ∷ behind) lawful) sound in
      let here : IsLawful at.state (k.hold ∷ behind) = legal_rest m pre (k.hold ∷ behind) lawful in
      let next : Moment = next_moment at k.hold in
      let only : HoldsOnly l.number k.holder k.room next.state = only_granted l.number k.room k.holder at k.hold sound_at here.1 k.own k.asked k.told in
      let on : HoldsOnly l.number k.holder k.room (moment_after next k.mid).state = only_along l.number k.holder k.room next k.mid (legal_first next k.mid (e ∷ later ++ p.later) here.2) (sound_next at k.hold behind here sound_at) k.marks.no_holds only in
      let is : moment_after m (p.earlier ++ first) ≡ moment_after next k.mid = ap (λ z. moment_after m (p.earlier ++ z)) k.is ∙ ap (moment_after m) (sym (append_assoc p.earlier k.first (k.hold ∷ k.mid))) ∙ moment-append m pre (k.hold ∷ k.mid) in
      let there : holder_of l.number k.holder (moment_after next k.mid).state.table.holders ≡ Some h = ap (λ (x : Moment). holder_of l.number k.holder x.state.table.holders) (sym is) ∙ held in
      on h (is_holding l.number k.holder (moment_after next k.mid).state.table.holders h there) ∙ sym (k.room_is (length run.after.rooms))

  -- ---- a mark in the part of its line

  module _ (r : Option Told) (w : Writing) (t : Told) (l : Line r w t) (name : List ℕ) (size : ℕ) (says : t.statement ≡ Truncate name size) where
    abbrev Mine : List Event
    Mine = l.line.part.mine

    abbrev Nothing : ℕ
    Nothing = length run.after.rooms

    -- the actor holds one container, and marks by that hold
    holds : (first : List Event) (e : Event) (later : List Event) → Mine ≡ first ++ e ∷ later → e.caller ≡ l.number → IsMark e.ask.call → HoldsAndMarks l.number Mine first e later l.line.part.e
    holds first e later in_it own marks =
        let p = l.line.part in
        holds_and_marks l.number (work_of l.line.kept (Truncate name size)) p.mine p.spent p.e (truncate_free l.line.kept name size) (subst (λ s. ComesTo l.number (work_of l.line.kept s) p.mine p.spent p.e) says p.comes) first e later in_it own marks

    -- its hold then is of the container that it holds first
    held_then : (first : List Event) (e : Event) (later : List Event) → Mine ≡ first ++ e ∷ later → e.caller ≡ l.number → (holder its_size top : ℕ) → e.ask.call ≡ Mark holder its_size top → (h : Holder) → holder_of l.number holder (moment_after m (l.line.part.earlier ++ first)).state.table.holders ≡ Some h
        → h.room ≡ held_room l.number Nothing Mine
    held_then first e later in_it own holder its_size top asked h held =
        let k = holds first e later in_it own (subst IsMark (sym asked) tt) in
        held_first r w t l first e later in_it k h (subst (λ x. holder_of l.number x (moment_after m (l.line.part.earlier ++ first)).state.table.holders ≡ Some h) (k.marks.its holder its_size top asked) held)

    abbrev Shown : Type 0
    Shown = Shows m l.number (record { before = l.line.part.earlier; events = l.line.shown.front }) l.line.file t.statement t.outcome l.line.shown.new

    -- all own calls of the part stand in its front
    front_held : held_room l.number Nothing l.line.shown.front ≡ held_room l.number Nothing Mine
    front_held =
        let s = l.line.shown in
        ap (first_held Nothing) (sym (ap (made_by l.number) s.split ∙ entries_both l.number s.front s.rest ∙ ap (λ z. made_by l.number s.front ++ z) s.none_behind ∙ append-nil (made_by l.number s.front)))

    -- the line speaks of that container
    of_broken : BrokeOff t.outcome → Of t ≡ held_room l.number Nothing Mine
    of_broken broke =
        let s = l.line.shown in
        l.line.here ∙ broken_room m l.number l.line.part.earlier s.front Nothing l.line.file s.new s.new_writer name size t.statement t.outcome says broke s.shows ∙ front_held

    of_told : (stamp : ℕ) → t.outcome ≡ line.Truncated stamp → Of t ≡ held_room l.number Nothing Mine
    of_told stamp told =
        let s = l.line.shown in
        let c = changed_by m l.number l.line.part.earlier s.front Nothing l.line.file s.new s.new_writer name size stamp t.statement t.outcome says told s.shows in
        l.line.here ∙ sym c.held.2 ∙ held_then c.until c.changing (c.later ++ s.rest) (s.split ∙ ap (λ z. z ++ s.rest) c.split ∙ append_assoc c.until (c.changing ∷ c.later) s.rest) c.changes.own c.holder c.its_size c.top c.changes.asked c.held.0 c.held.1

  -- ---- who made a truncate

  module _ (es rest : List Event) (all : right.history ≡ es ++ rest) (number : ℕ) (u : Trunc) (new : NewTrunc m es number u.stamp u.size) where
    whole : right.history ≡ new.pre ++ new.event ∷ (new.post ++ rest)
    whole = all ∙ ap (λ z. z ++ rest) new.is ∙ append_assoc new.pre (new.event ∷ new.post) rest

    loud : IsQuiet new.event.ask.call → ⊥
    loud quiet = subst IsQuiet new.marks.asked quiet

    abbrev Its : Type 0
    Its = Attributed run m end fits sound right new.pre new.event

    module _ (a : Its) (name : List ℕ) (says : a.t.statement ≡ Truncate name u.size) where
      abbrev P : List Event
      P = a.line.line.part.earlier

      held_here : holder_of a.line.number new.marks.holder (moment_after m (P ++ a.first)).state.table.holders ≡ Some new.marks.h
      held_here = subst (λ z. holder_of a.line.number new.marks.holder (moment_after m z).state.table.holders ≡ Some new.marks.h) a.before_is (subst (λ k. holder_of k new.marks.holder (moment_after m new.pre).state.table.holders ≡ Some new.marks.h) a.own new.marks.held)

      in_held : held_room a.line.number (length run.after.rooms) a.line.line.part.mine ≡ number
      in_held = sym (held_then a.reader a.writing a.t a.line name u.size says a.first new.event a.later a.in_it a.own new.marks.holder u.size new.marks.top new.marks.asked new.marks.h held_here) ∙ new.marks.room

      -- who lets go of its hold isn't refused
      unrefused : (x : List Event) (last : Event) (more : List Event) (why : Refusal) → a.later ≡ x ++ last ∷ more → made_by a.line.number x ≡ [] → last.caller ≡ a.line.number → last.ask.call ≡ Release new.marks.holder → new.event.ask.stop ≡ None → last.reply ≡ reply.Refused why → ⊥
      unrefused x last more why split none own asked stop refused =
          let p = a.line.line.part in
          let pre : List Event = p.earlier ++ a.first in
          let on : List Event = new.event ∷ (x ++ last ∷ (more ++ p.later)) in
          let is : right.history ≡ pre ++ on =
          p.split ∙ ap (λ z. p.earlier ++ (z ++ p.later)) a.in_it ∙ ap (λ z. p.earlier ++ z) (append_assoc a.first (new.event ∷ a.later) p.later) ∙ sym (append_assoc p.earlier a.first (new.event ∷ a.later ++ p.later))
          ∙ ap (λ z. pre ++ (new.event ∷ (z ++ p.later))) split ∙ ap (λ z. pre ++ (new.event ∷ z)) (append_assoc x (last ∷ more) p.later) in
          let lawful : IsLawful m.state (pre ++ on) = subst (IsLawful m.state) is right.leads.lawful in
          let now : Moment = moment_after m pre in
          lets_go a.line.number new.marks.holder u.size new.marks.top new.marks.h now new.event x last (more ++ p.later) why (sound_after m pre (legal_first m pre on lawful) sound) (legal_rest m pre on lawful) a.own new.marks.asked stop held_here none own asked refused

      -- the line told of it, or broke off
      abbrev Made : Type 0
      Made = (a.t.outcome ≡ line.Truncated u.stamp) ⊎ BrokeOff a.t.outcome

      told_so : (other : ℕ) → a.t.outcome ≡ line.Truncated other → new.event.reply ≡ reply.Marked other → Made
      told_so other told marked = inl (told ∙ ap (λ x. line.Truncated x) (new.stamp_is other marked))

      refused_so : (x : List Event) (last : Event) (more : List Event) → a.later ≡ x ++ last ∷ more → made_by a.line.number x ≡ [] → last.caller ≡ a.line.number → last.ask.call ≡ Release new.marks.holder → new.event.ask.stop ≡ None → IsRefusal new.event.reply ⊎ IsRefusal last.reply → Made
      refused_so x last more split none own asked stop (inl (why, is)) = absurd (new.unrefused why is)
      refused_so x last more split none own asked stop (inr (why, is)) = absurd (unrefused x last more why split none own asked stop is)

      by_end : (x : List Event) (last : Event) (more : List Event) → a.later ≡ x ++ last ∷ more → made_by a.line.number x ≡ [] → last.caller ≡ a.line.number → last.ask.call ≡ Release new.marks.holder → new.event.ask.stop ≡ None → (o : Outcome) → a.t.outcome ≡ o → MarkEnd new.event.ask.call new.event.reply last.reply o → Made
      by_end x last more split none own asked stop (line.Truncated stamp) says_so ends = told_so stamp says_so ends
      by_end x last more split none own asked stop line.Renamed says_so ends = absurd (subst IsMove new.marks.asked ends)
      by_end x last more split none own asked stop (line.Refused because) says_so ends = refused_so x last more split none own asked stop ends
      by_end x last more split none own asked stop line.Fault says_so ends = inr (failed says_so)
      by_end x last more split none own asked stop line.Stopped says_so ends = inr (stopped says_so)
      by_end x last more split none own asked stop (line.Damaged folder file place) says_so ends =
          let s = a.line.line.shown in
          absurd (undamaged m a.line.number a.line.line.part.earlier s.front (length run.after.rooms) a.line.line.file s.new s.new_writer name u.size a.t.statement folder file place a.t.outcome says says_so s.shows)
      by_end x last more split none own asked stop o says_so ends = absurd ends

      made : Made
      made = by k.marks.ended
        where
          k : HoldsAndMarks a.line.number a.line.line.part.mine a.first new.event a.later a.line.line.part.e
          k = holds a.reader a.writing a.t a.line name u.size says a.first new.event a.later a.in_it a.own (subst IsMark (sym new.marks.asked) tt)

          its : new.marks.holder ≡ k.holder
          its = k.marks.its new.marks.holder u.size new.marks.top new.marks.asked

          by : MarkedSo a.line.number new.event k.holder a.later a.line.line.part.e → Made
          by (halted is over) = inr (stopped (a.line.line.says ∙ is))
          by (let_go x last more split none own asked stop ends over) =
              by_end x last more split none own (asked ∙ ap (λ z. Release z) (sym its)) stop a.t.outcome refl (subst (MarkEnd new.event.ask.call new.event.reply last.reply) (sym a.line.line.says) ends)

      in_place : Made → Of a.t ≡ number
      in_place (inl told) = of_told a.reader a.writing a.t a.line name u.size says u.stamp told ∙ in_held
      in_place (inr broke) = of_broken a.reader a.writing a.t a.line name u.size says broke ∙ in_held

    -- a line told of it, or broke off, in whose part it was made
    pub record MadeBy : Type 0 where
      pub its : Its
      pub truncates : Truncates run (story_of run m end fits sound right) its.t number u

    made_by_line : MadeBy
    made_by_line =
        let a : Its = attributed run m end fits sound right new.pre new.event (new.post ++ rest) whole loud in
        let asks = subst (MayAsk a.line.line.kept a.t.statement) new.marks.asked a.asks in
        record { its = a; truncates = record { is_line = a.is_line; of = in_place a asks.0 asks.1 (made a asks.0 asks.1); file = asks.0; asked = asks.1; made = made a asks.0 asks.1 } }

  -- ---- the truncates of a line

  -- it lists these truncates, which all stood
  pub record ListsSo {r : Option Told} {w : Writing} {t : Told} (l : Line r w t) (truncs : List Trunc) : Type 0 where
    pub es : List Event
    pub rest : List Event
    pub all : right.history ≡ es ++ rest
    pub within : length es ≤ length l.line.part.earlier + length l.line.part.mine
    pub stood : (u : Trunc) → Among u truncs → HadTrunc (moment_after m es) (Of t) u.stamp u.size

  abbrev Lists : Told → List Trunc → Type 0
  Lists t truncs = (r : Option Told) (w : Writing) (l : Line r w t) → ListsSo l truncs

  lists_so : (r : Option Told) (w : Writing) (t : Told) (l : Line r w t) (cut : List WriterCount) (truncs : List Trunc) → Sight run m end fits sound right l cut truncs → ListsSo l truncs
  lists_so r w t l cut truncs z = record {
    es = l.line.part.earlier ++ z.upto;
    rest = z.rest;
    all = z.split;
    within = z.within;
    stood = λ u at. subst (λ k. HadTrunc (moment_after m (l.line.part.earlier ++ z.upto)) k u.stamp u.size) (sym z.in_room)
        (subst (λ x. HadTrunc x z.file.room u.stamp u.size) z.moment (all_at (λ (v : Trunc). HadTrunc z.file.moment z.file.room v.stamp v.size) z.file.truncs u z.sees.view.all_truncs.there (subst (Among u) z.truncates at)));
  }

  reader_lists : (t : Told) (size : ℕ) (cut : List WriterCount) (truncs : List Trunc) → t.outcome ≡ line.Reader size cut truncs → Lists t truncs
  reader_lists t size cut truncs says r w l = lists_so r w t l cut truncs (reader_sees run m end fits sound right t size cut truncs says r w l)

  stat_lists : (t : Told) (size stored : ℕ) (shares : List ShareBytes) (truncs : List Trunc) → t.outcome ≡ line.Stat size stored shares truncs → Lists t truncs
  stat_lists t size stored shares truncs says r w l =
      let z = stat_line run m end fits sound right r w t l size stored shares truncs says in
      lists_so r w t l (printed_cut z.file.cut) truncs (sight_of run m end fits sound right r w t l (printed_cut z.file.cut) truncs z.earlier z.first z.file z.sees refl z.tells.truncates z.in_room).sight

  -- a line that made a truncate of another began by its end
  module _ (free : run.in_order ≡ false) (t : Told) (truncs : List Trunc) (is_line : IsLine run t) (lists : Lists t truncs) (u : Trunc) (at : Among u truncs) where
    abbrev L : Line (reader_at run t) (writing_at run t) t
    L = line_here run m end fits sound right t is_line

    abbrev Z : ListsSo L truncs
    Z = lists (reader_at run t) (writing_at run t) L

    -- what stood at a time before the call is not made by it
    not_sooner : (new : NewTrunc m Z.es (Of t) u.stamp u.size) (x xs : List Event) → right.history ≡ x ++ xs → HadTrunc (moment_after m x) (Of t) u.stamp u.size → length x ≤ length new.pre → ⊥
    not_sooner new x xs is had short =
        let on : right.history ≡ new.pre ++ (new.event ∷ (new.post ++ Z.rest)) = whole Z.es Z.rest Z.all (Of t) u new in
        let gap = fronts x xs new.pre (new.event ∷ (new.post ++ Z.rest)) (sym is ∙ on) short in
        let grows = grows_to run m end fits sound right x gap.0 (new.event ∷ (new.post ++ Z.rest)) (on ∙ ap (λ z. z ++ (new.event ∷ (new.post ++ Z.rest))) gap.1) in
        new.absent (subst (λ z. HadTrunc (moment_after m z) (Of t) u.stamp u.size) (sym gap.1) (grows.stands (Of t) (item_of u) tt had))

    began : (new : NewTrunc m Z.es (Of t) u.stamp u.size) (a : Attributed run m end fits sound right new.pre new.event) → surely_before run t a.t ≡ true → ⊥
    began new a sooner =
        let l = ends_before run m end fits sound right new.pre new.event a t is_line free sooner in
        let z = lists l.reader l.writing l.line in
        not_sooner new z.es z.rest z.all (z.stood u at) (omega (arith, z.within, l.ends))

    -- it stood at first, or a line made it that began by the end
    known : HadTrunc m (Of t) u.stamp u.size ⊎ ((s : Told) × Truncates run (story_of run m end fits sound right) s (Of t) u × (surely_before run t s ≡ false))
    known = elim (stood_or_new m Z.es sound (lawful_to run m end fits sound right Z.es Z.rest Z.all) (Of t) u.stamp u.size (Z.stood u at)) as (λ _. HadTrunc m (Of t) u.stamp u.size ⊎ ((s : Told) × Truncates run (story_of run m end fits sound right) s (Of t) u × (surely_before run t s ≡ false))) [
      | inl was ↦ inl was
      | inr new ↦
          let by = made_by_line Z.es Z.rest Z.all (Of t) u new in
          inr (by.its.t, by.truncates, not_before (surely_before run t by.its.t) refl (began new by.its))
    ]
      where
        not_before : (b : Bool) → {c : Bool} → c ≡ b → (c ≡ true → ⊥) → c ≡ false
        not_before true is never = absurd (never is)
        not_before false is never = is

  -- those that stand in the end
  stands_last : end.store.tree ≡ Some run.after → (n : ℕ) (u : Trunc) → IsItem (item_of u) → Has run.after n (item_of u) → HadTrunc (moment_after m right.history) n u.stamp u.size
  stands_last left n u is_item (bytes, has) =
      record { is_item = is_item; bytes = bytes; there = ap (λ o. file_told o n (path_of (item_of u))) (last_tree run m end fits sound right left) ∙ sym (file_of run.after n (item_of u)) ∙ has }

-- ---- from the tree before

module _ (run : Run) (times : Option (List ℕ)) (mount : Stored) (start end : State) (fits : FitsScript run.script) (mounted : IsMounted 0 times mount start) (tells : mount.tree ≡ Some run.before) (sound : IsSoundTree run.before)
    (right : IsRight run.script start run.lines end) (left : end.store.tree ≡ Some run.after) where
  abbrev Begins : Moment
  Begins = record { state = start; issued = sound.issued }

  abbrev sound_begins : IsSoundAt Begins
  sound_begins = mounted_sound 0 times mount start run.before mounted tells sound

  abbrev Homes : Story
  Homes = story_of run Begins end fits sound_begins right

  stood_before : (n : ℕ) (u : Trunc) → HadTrunc Begins n u.stamp u.size → Has run.before n (item_of u)
  stood_before n u had =
      let path = path_of (item_of u) in
      let now = in_a_room (slice_get sound_begins.shape.tree.rooms n) path had.bytes (in_tree Begins sound_begins n path had.bytes had.there) in
      let was = mounted_back times mount start run.before sound_begins.shape.tree n (item_of u) mounted tells sound_begins.shape.told had.is_item refl (λ e. elsewhere (ap (λ (name : List ℕ). get_or name 0 0) e) refl) (record { room = now.0; there = now.1; bytes = had.bytes; has = now.2 }) in
      (was.bytes, file_of run.before n (item_of u) ∙ ap (λ o. file_in_room o path) was.there ∙ was.has)

  line_knows : run.in_order ≡ false → (t : Told) (truncs : List Trunc) → IsLine run t → Lists run Begins end fits sound_begins right t truncs → All (IsKnown run Homes t) truncs
  line_knows free t truncs is_line lists = All-from_recursion (IsKnown run Homes t) truncs (all_by (IsKnown run Homes t) truncs (λ u at.
      elim (known run Begins end fits sound_begins right free t truncs is_line lists u at) as (λ _. IsKnown run Homes t u) [
        | inl was ↦ inl (stood_before (Homes.of t) u was)
        | inr by ↦ inr by
      ]))

  left_known : (n : ℕ) (u : Trunc) → IsItem (item_of u) → Has run.after n (item_of u) → Has run.before n (item_of u) ⊎ ((s : Told) × Truncates run Homes s n u)
  left_known n u is_item has =
      let had = stands_last run Begins end fits sound_begins right left n u is_item has in
      elim (stood_or_new Begins right.history sound_begins right.leads.lawful n u.stamp u.size had) as (λ _. Has run.before n (item_of u) ⊎ ((s : Told) × Truncates run Homes s n u)) [
        | inl was ↦ inl (stood_before n u was)
        | inr new ↦ let by = made_by_line run Begins end fits sound_begins right right.history [] (sym (append-nil right.history)) n u new in inr (by.its.t, by.truncates)
      ]

  -- the law of this file
  pub truncs_known : run.in_order ≡ false → HasTruncs run Homes
  truncs_known free = record {
    readers = λ t size cut truncs says. line_knows free t truncs says.is_line (reader_lists run Begins end fits sound_begins right t size cut truncs says.says);
    stats = λ t size stored shares truncs says. line_knows free t truncs says.is_line (stat_lists run Begins end fits sound_begins right t size stored shares truncs says.says);
    left = left_known;
  }

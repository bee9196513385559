-- A naming by a rename: its line is one that may rename, and speaks of the container that got the name.
use Rattle.std.proofs.Common.{◌≡◌, ◌⊎◌, inl, inr, ℕ, List, [], ◌∷◌, ◌++◌, length, Option, Some, None, refl, sym, ap, ◌∙◌, subst, append_assoc}
use Rattle.std.proofs.lemmas.List.{append-nil}
use Rattle.turn_object.specs.Callers.{made_by}
use Rattle.mount_model.proofs.Stories.Facts.{entries_both}
use Rattle.mount_model.specs.declared.call.Call.TheVariants.{Move, Release}
use Rattle.mount_model.specs.declared.reply.Refusal.{Refusal}
use Rattle.mount_model.specs.declared.reply.Reply.TheVariants as reply
use Rattle.mount_model.specs.declared.row.Holder.{Holder}
use Rattle.mount_model.specs.History.{Event}
use Rattle.mount_model.specs.Paths.{Name}
use Rattle.mount_model.specs.State.{State}
use Rattle.mount_model.specs.Step.{Answers}
use Rattle.mount_model.specs.Table.{holder_at, holder_of}
use Rattle.mount_model.proofs.Facts.{is_holding}
use Rattle.mount_sound.specs.Owed.{IsLawful}
use Rattle.reader_laws.specs.Moments.{IsSoundAt, Moment, moment_after, next_moment}
use Rattle.reader_laws.specs.Naming.{IsRoomNamed}
use Rattle.reader_laws.proofs.Gathered.Facts.{legal_first, legal_rest, sound_after}
use Rattle.script_lang.specs.Ranges.{FitsScript}
use Rattle.script_lang.specs.declared.line.Outcome.{Outcome}
use Rattle.script_lang.specs.declared.line.Outcome.TheVariants as line
use Rattle.script_lang.specs.declared.script.Statement.{Statement}
use Rattle.script_lang.specs.declared.script.Statement.TheVariants.{Rename}
use Rattle.actor_core.specs.declared.kept.Kept.{Kept}
use Rattle.actor_core.specs.Endings.{Ending}
use Rattle.actor_core.specs.Statements.{work_of}
use Rattle.run_core.specs.Play.{IsRight}
use Rattle.headline_laws.specs.Changing.{IsAnswered, IsFreeName, IsHolderOf, RenamesFile}
use Rattle.headline_laws.specs.OneFile.{OneFile}
use Rattle.headline_laws.specs.OneWriter.{OneWriter}
use Rattle.headline_laws.specs.Opening.{Stretch}
use Rattle.headline_laws.specs.Showing.{Shows}
use Rattle.headline_laws.proofs.Plays.Facts.{ComesTo}
use Rattle.headline.specs.Run.{Run, Told, told}
use Rattle.headline.specs.Names.{BrokeOff, failed, stopped}
use Rattle.headline_laws.proofs.Makers.Holding.{moved_free, whole_answer}
use Rattle.headline_laws.proofs.Makers.Holds.{HoldsAndMarks, IsMark, MarkEnd, MarkedSo, halted, holds_and_marks, let_go, marks_alone, rename_free}
use Rattle.headline_laws.proofs.Makers.Known.{held_first}
use Rattle.headline_laws.proofs.Makers.NewNames.{moves_by, names_now, refused_stays}
use Rattle.headline_laws.proofs.Statements.Did.{IsOfKindOr}
use Rattle.headline_laws.proofs.Statements.Does.{Ended, did, was_gone}
use Rattle.headline_laws.proofs.Story.Lines.{AnyLine, container, first_held, held_room, room_of}
use Rattle.headline_laws.proofs.Story.Spans.{PlacedCall}

-- what a line tells of that was made is of its statement's kind, and no line of an actor that was stopped before makes a call
pub kind_told : (kept : Kept) (s : Statement) (e : Ending) (o : Outcome) → e.outcome ≡ o → Ended kept s e → (o ≡ line.Gone) ⊎ IsOfKindOr s o
kind_told kept s e o says (was_gone is out now) = inl (sym says ∙ out)
kind_told kept s e o says (did lives d) = inr (subst (IsOfKindOr s) says d.kind)

one_holder : (a b : Holder) (o : Option Holder) → o ≡ Some a → o ≡ Some b → a ≡ b
one_holder a b o is also = cc

-- ---- the container of a rename

module _ (m : Moment) (n : ℕ) (before front : List Event) (nothing : ℕ) (old new : Option OneFile) (w : Option OneWriter) (name to : Name) where
  abbrev There : Stretch
  There = record { before = before; events = front }

  broken_room : (s : Statement) (o : Outcome) → s ≡ Rename name to → BrokeOff o → (shows : Shows m n There old s o new) → room_of m n There nothing old new w s o shows ≡ held_room n nothing front
  broken_room (Rename name2 to2) line.Fault is broke shows = refl
  broken_room (Rename name2 to2) line.Stopped is broke shows = refl
  broken_room s o is (failed f) shows = absurd (cc)
  broken_room s o is (stopped f) shows = absurd (cc)

  pub record MovedBy (room : ℕ) : Type 0 where
    pub until : List Event
    pub changing : Event
    pub later : List Event
    pub split : front ≡ until ++ changing ∷ later
    pub holder : ℕ
    pub its_name : Name
    pub changes : IsAnswered n (Move holder its_name) reply.Done changing
    pub held : IsHolderOf (moment_after m (before ++ until)) n holder room
    pub free : IsFreeName (moment_after m (before ++ until)) its_name
    pub named : IsRoomNamed (next_moment (moment_after m (before ++ until)) changing) its_name room

  moved_of : (name2 to2 : Name) (f : RenamesFile m n There name2 to2) → MovedBy f.change.room
  moved_of name2 to2 f =
      let c = f.change in
      record {
        until = c.earlier ++ (c.finding ∷ c.between ++ (c.holding ∷ c.more));
        changing = c.changing;
        later = c.later;
        split = f.made.split ∙ ap (λ z. c.earlier ++ z) (sym (append_assoc (c.finding ∷ c.between) (c.holding ∷ c.more) (c.changing ∷ c.later))) ∙ sym (append_assoc c.earlier (c.finding ∷ c.between ++ (c.holding ∷ c.more)) (c.changing ∷ c.later));
        holder = c.holder;
        its_name = to2;
        changes = f.made.changes;
        held = f.made.held;
        free = f.renamed.free;
        named = f.renamed.named;
      }

  pub moved_by : (s : Statement) (o : Outcome) → s ≡ Rename name to → o ≡ line.Renamed → (shows : Shows m n There old s o new) → MovedBy (room_of m n There nothing old new w s o shows)
  moved_by (Rename name2 to2) line.Renamed is says shows = moved_of name2 to2 shows.1
  moved_by s o is says shows = absurd (cc)

  -- no line of a rename tells of damage
  undamaged : (s : Statement) (folder file : List ℕ) (place : ℕ) (o : Outcome) → s ≡ Rename name to → o ≡ line.Damaged folder file place → Shows m n There old s o new → ⊥
  undamaged (Rename name2 to2) folder file place (line.Damaged folder2 file2 place2) is says shows = shows.1
  undamaged s folder file place o is says shows = absurd (cc)

module _ (run : Run) (m : Moment) (end : State) (fits : FitsScript run.script) (sound : IsSoundAt m) (right : IsRight run.script m.state run.lines end) where
  abbrev Of : Told → ℕ
  Of = container run m end fits sound right

  abbrev Nothing : ℕ
  Nothing = length run.after.rooms

  -- ---- a call that gave a container another name

  module _ (pre : List Event) (e : Event) (post : List Event) (whole : right.history ≡ pre ++ e ∷ post) (c : PlacedCall run m end fits sound right pre e) where
    abbrev L : AnyLine run m end fits sound right c.reader c.writing c.t
    L = c.line.its

    abbrev N : ℕ
    N = L.number

    abbrev P : List Event
    P = L.line.part.earlier

    abbrev Mine : List Event
    Mine = L.line.part.mine

    lawful : IsLawful m.state (pre ++ e ∷ post)
    lawful = subst (IsLawful m.state) whole right.leads.lawful

    abbrev At : Moment
    At = moment_after m pre

    sound_at : IsSoundAt At
    sound_at = sound_after m pre (legal_first m pre (e ∷ post) lawful) sound

    here : IsLawful At.state (e ∷ post)
    here = legal_rest m pre (e ∷ post) lawful

    abbrev Changed : Type 0
    Changed = names_now e.after ≡ names_now At.state → ⊥

    front_held : held_room N Nothing L.line.shown.front ≡ held_room N Nothing Mine
    front_held =
        let s = L.line.shown in
        ap (first_held Nothing) (sym (ap (made_by N) s.split ∙ entries_both N s.front s.rest ∙ ap (λ z. made_by N s.front ++ z) s.none_behind ∙ append-nil (made_by N s.front)))

    module _ (old to : Name) (says : c.t.statement ≡ Rename old to) (differ : Changed) where
      holds : (first : List Event) (x : Event) (later : List Event) → Mine ≡ first ++ x ∷ later → x.caller ≡ N → IsMark x.ask.call → HoldsAndMarks N Mine first x later L.line.part.e
      holds first x later in_it own marks =
          let p = L.line.part in
          holds_and_marks N (work_of L.line.kept (Rename old to)) p.mine p.spent p.e (rename_free L.line.kept old to) (subst (λ s. ComesTo N (work_of L.line.kept s) p.mine p.spent p.e) says p.comes) first x later in_it own marks

      of_broken : BrokeOff c.t.outcome → Of c.t ≡ held_room N Nothing Mine
      of_broken broke =
          let s = L.line.shown in
          L.line.here ∙ broken_room m N P s.front Nothing L.line.file s.new s.new_writer old to c.t.statement c.t.outcome says broke s.shows ∙ front_held

      of_told : c.t.outcome ≡ line.Renamed → Of c.t ≡ held_room N Nothing Mine
      of_told told =
          let s = L.line.shown in
          let z = moved_by m N P s.front Nothing L.line.file s.new s.new_writer old to c.t.statement c.t.outcome says told s.shows in
          let in_it : Mine ≡ z.until ++ z.changing ∷ (z.later ++ s.rest) = s.split ∙ ap (λ es. es ++ s.rest) z.split ∙ append_assoc z.until (z.changing ∷ z.later) s.rest in
          let k = holds z.until z.changing (z.later ++ s.rest) in_it z.changes.own (subst IsMark (sym z.changes.asked) tt) in
          L.line.here ∙ sym z.held.2
          ∙ held_first run m end fits sound right c.reader c.writing c.t L z.until z.changing (z.later ++ s.rest) in_it k z.held.0
          (subst (λ x. holder_of N x (moment_after m (P ++ z.until)).state.table.holders ≡ Some z.held.0) (k.marks.moves_it z.holder z.its_name z.changes.asked) z.held.1)

      module _ (holder : ℕ) (h : Holder) (asked : e.ask.call ≡ Move holder to) (held : holder_at holder At.state.table.holders ≡ Some h) where
        k : HoldsAndMarks N Mine c.first e c.later L.line.part.e
        k = holds c.first e c.later c.in_it c.own (subst IsMark (sym asked) tt)

        its : holder ≡ k.holder
        its = k.marks.moves_it holder to asked

        -- its hold, by which the container was named so
        mine : (x : Holder) × (holder_of N holder At.state.table.holders ≡ Some x)
        mine = subst (λ n. (x : Holder) × (holder_of n holder At.state.table.holders ≡ Some x)) c.own (moves_by e.caller holder to At.state e.after e.ask e.reply here.1 asked differ)

        same : mine.0 ≡ h
        same = one_holder mine.0 h (holder_at holder At.state.table.holders) (is_holding N holder At.state.table.holders mine.0 mine.1).found held

        pub in_held : h.room ≡ held_room N Nothing Mine
        in_held =
            ap (λ (x : Holder). x.room) (sym same)
            ∙ held_first run m end fits sound right c.reader c.writing c.t L c.first e c.later c.in_it k mine.0
            (subst (λ x. holder_of N x (moment_after m (P ++ c.first)).state.table.holders ≡ Some mine.0) its (subst (λ es. holder_of N holder (moment_after m es).state.table.holders ≡ Some mine.0) c.before_is mine.1))

        abbrev Ends : Type 0
        Ends = (c.t.outcome ≡ line.Renamed) ⊎ BrokeOff c.t.outcome

        -- it wasn't refused, nor was its letting go
        never_refused : (why : Refusal) → e.ask.stop ≡ None → e.reply ≡ reply.Refused why → ⊥
        never_refused why stop is =
            let a : Answers At.state e.caller (Move holder to) (reply.Refused why) e.after = subst (λ r. Answers At.state e.caller (Move holder to) r e.after) is (subst (λ q. Answers At.state e.caller q e.reply e.after) asked (whole_answer At.state e here.1 stop)) in
            differ (refused_stays e.caller holder to At.state e.after why sound_at.shape.tree a sound_at.shape.told)

        let_go_free : (x : List Event) (last : Event) (more : List Event) (why : Refusal) → c.later ≡ x ++ last ∷ more → made_by N x ≡ [] → last.caller ≡ N → last.ask.call ≡ Release k.holder → e.ask.stop ≡ None → last.reply ≡ reply.Refused why → ⊥
        let_go_free x last more why split none own releases stop refused =
            let p = L.line.part in
            let begin : List Event = p.earlier ++ c.first in
            let on : List Event = e ∷ (x ++ last ∷ (more ++ p.later)) in
            let is : right.history ≡ begin ++ on =
            p.split ∙ ap (λ z. p.earlier ++ (z ++ p.later)) c.in_it ∙ ap (λ z. p.earlier ++ z) (append_assoc c.first (e ∷ c.later) p.later) ∙ sym (append_assoc p.earlier c.first (e ∷ c.later ++ p.later))
            ∙ ap (λ z. begin ++ (e ∷ (z ++ p.later))) split ∙ ap (λ z. begin ++ (e ∷ z)) (append_assoc x (last ∷ more) p.later) in
            let law : IsLawful m.state (begin ++ on) = subst (IsLawful m.state) is right.leads.lawful in
            let now : Moment = moment_after m begin in
            moved_free N holder to mine.0 now e x last (more ++ p.later) why (sound_after m begin (legal_first m begin on law) sound) (legal_rest m begin on law) c.own asked stop
            (subst (λ es. holder_of N holder (moment_after m es).state.table.holders ≡ Some mine.0) c.before_is mine.1) none own (releases ∙ ap Release (sym its)) refused

        by_end : (x : List Event) (last : Event) (more : List Event) → c.later ≡ x ++ last ∷ more → made_by N x ≡ [] → last.caller ≡ N → last.ask.call ≡ Release k.holder → e.ask.stop ≡ None → (o : Outcome) → c.t.outcome ≡ o → (o ≡ line.Gone) ⊎ IsOfKindOr (Rename old to) o → MarkEnd e.ask.call e.reply last.reply o → Ends
        by_end x last more split none own releases stop line.Renamed told kind ends = inl told
        by_end x last more split none own releases stop line.Fault told kind ends = inr (failed told)
        by_end x last more split none own releases stop line.Stopped told kind ends = inr (stopped told)
        by_end x last more split none own releases stop (line.Refused because) told kind (inl (why, is)) = absurd (never_refused why stop is)
        by_end x last more split none own releases stop (line.Refused because) told kind (inr (why, is)) = absurd (let_go_free x last more why split none own releases stop is)
        by_end x last more split none own releases stop (line.Truncated stamp) told (inl clash) ends = absurd (cc)
        by_end x last more split none own releases stop (line.Truncated stamp) told (inr kind) ends = absurd kind
        by_end x last more split none own releases stop (line.Damaged folder file place) told kind ends =
            let s = L.line.shown in
            absurd (undamaged m N P s.front Nothing L.line.file s.new s.new_writer old to c.t.statement folder file place c.t.outcome says told s.shows)
        by_end x last more split none own releases stop o told kind ends = absurd ends

        pub ends_so : Ends
        ends_so = by k.marks.ended
          where
            by : MarkedSo N e k.holder c.later L.line.part.e → Ends
            by (halted is over) = inr (stopped (L.line.says ∙ is))
            by (let_go x last more split none own releases stop ends over) =
                by_end x last more split none own releases stop c.t.outcome refl (subst (λ s. (c.t.outcome ≡ line.Gone) ⊎ IsOfKindOr s c.t.outcome) says (kind_told L.line.kept c.t.statement L.line.part.e c.t.outcome (sym L.line.says) L.line.part.ended))
                (subst (MarkEnd e.ask.call e.reply last.reply) (sym L.line.says) ends)

        pub moves_alone : (a : List Event) (x : Event) (b : List Event) → c.later ≡ a ++ x ∷ b → x.caller ≡ N → IsMark x.ask.call → ⊥
        moves_alone a x b is own marks = marks_alone N e k.holder c.later L.line.part.e k.marks.ended a x b is own marks

        pub of_number : Of c.t ≡ h.room
        of_number = by ends_so ∙ sym in_held
          where
            by : Ends → Of c.t ≡ held_room N Nothing Mine
            by (inl told) = of_told told
            by (inr broke) = of_broken broke

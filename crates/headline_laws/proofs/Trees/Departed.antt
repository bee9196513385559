-- A writer that a line closed has left: the tree after has metadata of all that it wrote, and no entry of an open writer.
use Rattle.std.proofs.Common.{◌≡◌, ℕ, List, [], ◌++◌, map, Option, Some, None, refl, sym, ap, ◌∙◌, subst, append_assoc}
use Rattle.std.specs.Prelude.{slice_get}
use Rattle.container_layout.specs.declared.items.Item.TheVariants.{Meta, OpenHost}
use Rattle.container_layout.specs.Paths.{path_of}
use Rattle.plain_file.specs.File.{stored_bytes}
use Rattle.store_api.specs.Acts.{Stored}
use Rattle.store_api.specs.declared.tree.Tree.{Tree}
use Rattle.mount_model.specs.History.{Event}
use Rattle.mount_model.specs.Mounting.{IsMounted}
use Rattle.mount_model.specs.State.{State}
use Rattle.mount_sound.specs.Entries.{greatest_end, logged}
use Rattle.mount_sound.specs.Ledger.{Written, entries_in}
use Rattle.mount_sound.specs.Owed.{IsLawful}
use Rattle.mount_sound.specs.Sound.{IsSoundTree}
use Rattle.reader_laws.specs.Moments.{Dropping, IsSoundAt, Moment, file_in_room, file_in_tree, issued_by, moment_after}
use Rattle.mount_sound.specs.Ledger.{change_of}
use Rattle.reader_laws.proofs.Gathered.Facts.{legal_rest, moment-append}
use Rattle.script_lang.specs.Ranges.{FitsScript}
use Rattle.script_lang.specs.declared.line.Outcome.TheVariants as line
use Rattle.script_lang.specs.declared.script.Statement.{Statement}
use Rattle.script_lang.specs.declared.script.Statement.TheVariants as say
use Rattle.actor_core.specs.declared.kept.Kept.{Kept}
use Rattle.actor_core.specs.Endings.{Ending}
use Rattle.run_core.specs.Play.{IsRight}
use Rattle.headline_laws.proofs.Plays.Facts.{Next}
use Rattle.headline.specs.Run.{Run, Says, Told, told}
use Rattle.headline.specs.Trees.{Has}
use Rattle.headline.specs.Writers.{Writer, host_of, new_writer}
use Rattle.headline.specs.Views.{IsWriter, opened, stood}
use Rattle.headline.specs.Changes.{last_stamp_of, writer_at}
use Rattle.headline.specs.Left.{HasLeft, end_of}
use Rattle.headline_laws.proofs.Contents.Accounts.{issued_told}
use Rattle.headline_laws.proofs.Contents.Amounts.{ends_same, stamps_same, sums_same}
use Rattle.headline_laws.proofs.Contents.Counted.{homes}
use Rattle.headline_laws.proofs.Contents.AtLine.{AtLine, at_line, not_old}
use Rattle.headline_laws.proofs.Contents.OpenedWriter.{First, Home, Last, Whole, sound_first}
use Rattle.headline_laws.proofs.Landed.Bounded.{line_departs}
use Rattle.headline_laws.proofs.Landed.Gone.{HasGone, gone_later, meta_of}
use Rattle.headline_laws.proofs.Statements.Did.{IsOfKindOr}
use Rattle.headline_laws.proofs.Statements.Does.{Ended, did, was_gone}
use Rattle.headline_laws.proofs.Story.Lines.{line_here}
use Rattle.headline_laws.proofs.Trees.Away.{IsAway, IsAwayIn}
use Rattle.headline_laws.proofs.Trees.Reading.{last_item, last_tree}
use Rattle.headline_laws.proofs.Trees.Still.{file_of}

-- ---- an entry that is away

clash : (x : Option (List ℕ)) (bytes : List ℕ) → x ≡ None → x ≡ Some bytes → ⊥
clash x bytes is_none some = cc

same_tree : (x y : Tree) (told : Option Tree) → told ≡ Some x → told ≡ Some y → x ≡ y
same_tree x y told p q = cc

-- the tree that is told has it not
pub none_away : (m : Moment) (tree : Tree) (d : Dropping) → IsAway m d → m.state.store.tree ≡ Some tree → Has tree d.room (OpenHost d.host d.writer) → ⊥
none_away m tree d a told has =
    let same : a.tree ≡ tree = same_tree a.tree tree m.state.store.tree a.told told in
    let away : IsAwayIn tree d.room d.host d.writer = subst (λ x. IsAwayIn x d.room d.host d.writer) same a.away in
    clash (file_in_tree tree d.room (path_of (OpenHost d.host d.writer))) has.0 (ap (λ r. file_in_room r (path_of (OpenHost d.host d.writer))) away.there ∙ away.none) (sym (file_of tree d.room (OpenHost d.host d.writer)) ∙ has.1)

-- ---- a line of a close

close_of : (s : Statement) (count : ℕ) → IsOfKindOr s (line.Closed count) → s ≡ say.Close
close_of say.Close count kind = refl
close_of s count kind = absurd kind

was_close : (kept : Kept) (s : Statement) (e : Ending) (count : ℕ) → e.outcome ≡ line.Closed count → Ended kept s e → s ≡ say.Close
was_close kept s e count says (was_gone is out now) = absurd (let clash : line.Gone ≡ line.Closed count = sym out ∙ says in cc)
was_close kept s e count says (did lives d) = close_of s count (subst (IsOfKindOr s) says d.kind)

module _ (run : Run) (times : Option (List ℕ)) (mount : Stored) (start end : State) (fits : FitsScript run.script) (mounted : IsMounted 0 times mount start) (tells : mount.tree ≡ Some run.before) (sound : IsSoundTree run.before)
    (right : IsRight run.script start run.lines end) (left : end.store.tree ≡ Some run.after) where
  abbrev Begins : Moment
  Begins = First run times mount start end fits mounted tells sound right left

  abbrev sound_begins : IsSoundAt Begins
  sound_begins = sound_first run times mount start end fits mounted tells sound right left

  abbrev Ends : Moment
  Ends = Last run times mount start end fits mounted tells sound right left

  abbrev WholeOf : Next Begins [] right.history
  WholeOf = Whole run times mount start end fits mounted tells sound right left

  abbrev HomeOf : Told → ℕ
  HomeOf t = Home run times mount start end fits mounted tells sound right left t

  pub asked_close : (t : Told) (count : ℕ) → Says run t (line.Closed count) → t.statement ≡ say.Close
  asked_close t count says = (let l = line_here run Begins end fits sound_begins right t says.is_line in was_close l.line.kept t.statement l.line.part.e count (sym l.line.says ∙ says.says) l.line.part.ended)

  -- the line t closed it
  module _ (t : Told) (count id : ℕ) (says : Says run t (line.Closed count)) (its_id : writer_at run t ≡ Some id) where
    abbrev pub its : AtLine run times mount start end fits mounted tells sound right left t id
    its = at_line run times mount start end fits mounted tells sound right left t id says.is_line its_id

    pub gone_here : HasGone (moment_after Begins (its.p.earlier ++ its.p.mine)) its.d
    gone_here = line_departs Begins sound_begins its.c.parts.number right.history right.calls.blocks WholeOf its.cap its.d its.kept its.file its.writer t its.p its.says its.shown its.acc count its.latest (asked_close t count says) says.says its.keeps

    departed : HasGone Ends its.d
    departed =
        let ends : List Event = its.p.earlier ++ its.p.mine in
        let whole : right.history ≡ ends ++ its.p.later = its.p.split ∙ sym (append_assoc its.p.earlier its.p.mine its.p.later) in
        let lawful : IsLawful Begins.state (ends ++ its.p.later) = subst (IsLawful Begins.state) whole right.leads.lawful in
        subst (λ m. HasGone m its.d) (sym (ap (moment_after Begins) whole ∙ moment-append Begins ends its.p.later)) (gone_later (moment_after Begins ends) its.p.later its.d gone_here (legal_rest Begins ends its.p.later lawful))

    -- whichever line tells of its opening
    module _ (o : Told) (opens : Says run o (line.Opened id)) where
      abbrev d : Dropping
      d = record { room = HomeOf o; host = host_of (slice_get run.script.actors o.actor); writer = id }

      gone : HasGone Ends d
      gone = subst (HasGone Ends) (its.home_is o opens) departed

      abbrev ws : List Written
      ws = issued_by Ends d

      writes_are : (new_writer run o.actor id (told run) (told run) (told run)).writes ≡ map change_of ws
      writes_are = sym (issued_told run Begins end fits sound_begins right o id opens)

      has_left : HasLeft run (HomeOf o) (new_writer run o.actor id (told run) (told run) (told run))
      has_left = record {
        meta = subst (λ cs. Has run.after d.room (Meta (end_of cs) (stored_bytes cs) (last_stamp_of cs) d.host id)) (sym writes_are)
            (subst (λ k. Has run.after d.room (Meta k (stored_bytes (map change_of ws)) (last_stamp_of (map change_of ws)) d.host id)) (sym (ends_same ws))
            (subst (λ k. Has run.after d.room (Meta (greatest_end (entries_in ws)) k (last_stamp_of (map change_of ws)) d.host id)) (sym (sums_same ws))
            (subst (λ k. Has run.after d.room (Meta (greatest_end (entries_in ws)) (logged (entries_in ws)) k d.host id)) (sym (stamps_same ws))
            (last_item run Begins end fits sound_begins right left d.room (meta_of (entries_in ws) d) gone.meta))));
        gone = none_away Ends run.after d gone.away (last_tree run Begins end fits sound_begins right left);
      }

  -- the law of this file
  pub writers_departed : (t : Told) (count n : ℕ) (w : Writer) → Says run t (line.Closed count) → writer_at run t ≡ Some w.id → IsWriter run (homes run times mount start end fits mounted tells sound right left) n (told run) (told run) w → HasLeft run n w
  writers_departed t count n w says its_id (stood is_item has is) = absurd (not_old run times mount start end fits mounted tells sound right left t w.id says.is_line its_id n w.host is_item has)
  writers_departed t count n w says its_id (opened o is_line opens home is) =
      let those = has_left t count w.id says its_id o (record { is_line = is_line; says = opens }) in
      subst (HasLeft run n) (sym is) (subst (λ k. HasLeft run k (new_writer run o.actor w.id (told run) (told run) (told run))) home those)

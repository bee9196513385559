-- What a loss of power after the run leaves: all items, and of each writer at least the writes that a sync or a close told.
use Rattle.std.proofs.Common.{◌≡◌, ◌⊎◌, ◌≤◌, inl, inr, ℕ, true, List, [], ◌++◌, length, map, take, Option, Some, refl, sym, ap, ◌∙◌, subst, arith, append_assoc, if◌then◌else◌}
use Rattle.std.specs.Prelude.{slice_get}
use Rattle.std.proofs.lemmas.List.{length-map, take-append-le}
use Rattle.container_layout.specs.declared.items.Item.TheVariants.{Index}
use Rattle.container_layout.specs.Paths.{path_of}
use Rattle.store_api.specs.Acts.{Stored}
use Rattle.store_api.specs.declared.tree.Room.{Room}
use Rattle.store_api.specs.declared.tree.Tree.{Tree}
use Rattle.store_api.specs.Loss.{Loses}
use Rattle.store_laws.proofs.Facts.{have_lost}
use Rattle.mount_losses.proofs.Facts.{lost_told}
use Rattle.mount_model.specs.History.{Event}
use Rattle.mount_model.specs.Mounting.{IsMounted}
use Rattle.mount_model.specs.State.{State}
use Rattle.mount_sound.specs.Entries.{greatest_end, last_stamp, logged}
use Rattle.mount_sound.specs.Ledger.{Written, change_of, entries_in}
use Rattle.mount_sound.specs.Owed.{IsLawful}
use Rattle.mount_sound.specs.Sound.{IsSoundTree}
use Rattle.mount_sound.specs.There.{landed_in as many_in}
use Rattle.mount_sound.proofs.Facts.{take_all}
use Rattle.reader_laws.specs.Moments.{Dropping, IsSoundAt, Moment, Stood, file_told, issued_by, landed, moment_after}
use Rattle.reader_laws.proofs.Gathered.Facts.{in_a_room, legal_rest, moment-append}
use Rattle.script_lang.specs.Ranges.{FitsScript}
use Rattle.script_lang.specs.declared.line.Outcome.{Outcome}
use Rattle.script_lang.specs.declared.line.Outcome.TheVariants as line
use Rattle.script_lang.specs.declared.script.Statement.{Statement}
use Rattle.script_lang.specs.declared.script.Statement.TheVariants as say
use Rattle.actor_core.specs.declared.kept.Kept.{Kept}
use Rattle.actor_core.specs.Endings.{Ending}
use Rattle.run_core.specs.Play.{IsRight}
use Rattle.headline_laws.proofs.Plays.Facts.{Next}
use Rattle.headline.specs.Run.{IsLine, Run, Says, Told, told}
use Rattle.headline.specs.Trees.{landed_writes}
use Rattle.headline.specs.Writers.{Account, Writer, all_landed, host_of, new_writer, told_of}
use Rattle.headline.specs.Views.{IsWriter, opened, stood}
use Rattle.headline.specs.Changes.{writer_at}
use Rattle.headline.specs.Losses.{HasLeast, SurvivesLosses}
use Rattle.headline_laws.proofs.Contents.Accounts.{issued_told}
use Rattle.headline_laws.proofs.Contents.AtLine.{AtLine, at_line, not_old}
use Rattle.headline_laws.proofs.Contents.Counted.{homes}
use Rattle.headline_laws.proofs.Contents.OpenedWriter.{First, Home, Last, Whole, its_dropping, sound_first, sound_last}
use Rattle.headline_laws.proofs.Landed.Bounded.{line_departs, line_keeps}
use Rattle.headline_laws.proofs.Landed.Folded.{least_landed}
use Rattle.headline_laws.proofs.Landed.Gone.{HasGone}
use Rattle.headline_laws.proofs.Losses.KeptNow.{KeepsNow, metadata_keep, survives}
use Rattle.headline_laws.proofs.Losses.LostTree.{item_stays, tree_told}
use Rattle.headline_laws.proofs.Losses.SyncedLines.{line_syncs}
use Rattle.headline_laws.proofs.Statements.Did.{IsOfKindOr}
use Rattle.headline_laws.proofs.Statements.Does.{Ended, did, was_gone}
use Rattle.headline_laws.proofs.Statements.Known.{HasEntered, entered_more}
use Rattle.headline_laws.proofs.Story.Lines.{line_here}
use Rattle.headline_laws.proofs.Trees.Departed.{asked_close}
use Rattle.headline_laws.proofs.Trees.Reading.{last_tree}
use Rattle.headline_laws.proofs.Trees.Still.{take_map}

-- ---- what a line says of its statement

sync_of : (s : Statement) (count : ℕ) → IsOfKindOr s (line.Synced count) → s ≡ say.Sync
sync_of say.Sync count kind = refl
sync_of s count kind = absurd kind

was_sync : (kept : Kept) (s : Statement) (e : Ending) (count : ℕ) → e.outcome ≡ line.Synced count → Ended kept s e → s ≡ say.Sync
was_sync kept s e count says (was_gone is out now) = absurd (let clash : line.Gone ≡ line.Synced count = sym out ∙ says in cc)
was_sync kept s e count says (did lives d) = sync_of s count (subst (IsOfKindOr s) says d.kind)

-- behind the line of a close the account has as many as it tells
closed_least : (id cap count : ℕ) (acc : Account) (s : Statement) (o : Outcome) → s ≡ say.Close → o ≡ line.Closed count → acc.latest ≡ true → (told_of id cap acc s o).least ≡ count
closed_least id cap count acc s o asked says latest =
    ap (λ z. (told_of id cap acc z o).least) asked ∙ ap (λ z. (told_of id cap acc say.Close z).least) says ∙ ap (λ b. (if b then all_landed count acc else acc).least) latest

module _ (run : Run) (times : Option (List ℕ)) (mount : Stored) (start end : State) (fits : FitsScript run.script) (mounted : IsMounted 0 times mount start) (tells : mount.tree ≡ Some run.before) (sound : IsSoundTree run.before)
    (right : IsRight run.script start run.lines end) (left : end.store.tree ≡ Some run.after) where
  abbrev Begins : Moment
  Begins = First run times mount start end fits mounted tells sound right left

  abbrev sound_begins : IsSoundAt Begins
  sound_begins = sound_first run times mount start end fits mounted tells sound right left

  abbrev Ends : Moment
  Ends = Last run times mount start end fits mounted tells sound right left

  abbrev sound_ends : IsSoundAt Ends
  sound_ends = sound_last run times mount start end fits mounted tells sound right left

  abbrev WholeOf : Next Begins [] right.history
  WholeOf = Whole run times mount start end fits mounted tells sound right left

  abbrev HomeOf : Told → ℕ
  HomeOf t = Home run times mount start end fits mounted tells sound right left t

  asked_sync : (t : Told) (count : ℕ) → Says run t (line.Synced count) → t.statement ≡ say.Sync
  asked_sync t count says = (let l = line_here run Begins end fits sound_begins right t says.is_line in was_sync l.line.kept t.statement l.line.part.e count (sym l.line.says ∙ says.says) l.line.part.ended)

  -- the line t told that so many are synced
  module _ (t : Told) (count id : ℕ) (says : Says run t (line.Synced count) ⊎ Says run t (line.Closed count)) (its_id : writer_at run t ≡ Some id) (its : AtLine run times mount start end fits mounted tells sound right left t id) where
    abbrev upto : List Event
    upto = its.p.earlier ++ its.p.mine

    keeps_then : KeepsNow (moment_after Begins upto) its.d count
    keeps_then = by says
      where
        by : Says run t (line.Synced count) ⊎ Says run t (line.Closed count) → KeepsNow (moment_after Begins upto) its.d count
        by (inl synced) = line_syncs Begins sound_begins its.c.parts.number right.history right.calls.blocks WholeOf its.cap its.d its.kept its.file its.writer t its.p its.says its.shown its.acc count its.latest (asked_sync t count synced) synced.says its.keeps
        by (inr closed) =
            let asked = asked_close run times mount start end fits mounted tells sound right left t count closed in
            let gone : HasGone (moment_after Begins upto) its.d = line_departs Begins sound_begins its.c.parts.number right.history right.calls.blocks WholeOf its.cap its.d its.kept its.file its.writer t its.p its.says its.shown its.acc count its.latest asked closed.says its.keeps in
            let behind = line_keeps Begins sound_begins its.c.parts.number right.history right.calls.blocks WholeOf its.cap its.d its.kept its.file its.writer t its.p its.says its.shown its.acc its.entered its.keeps in
            let least : (told_of its.d.writer its.cap its.acc t.statement t.outcome).least ≤ landed (moment_after Begins upto) its.d = least_landed its.c.parts.number its.d its.cap (moment_after Begins upto) its.p.e.kept (told_of its.d.writer its.cap its.acc t.statement t.outcome) behind in
            let is = closed_least its.d.writer its.cap count its.acc t.statement t.outcome asked closed.says its.latest in
            let es = entries_in (issued_by (moment_after Begins upto) its.d) in
            metadata_keep (moment_after Begins upto) gone.out.sound its.d gone.out.named (greatest_end es) (logged es) (last_stamp 0 es) gone.meta count (omega (arith, least, is))

    whole : right.history ≡ upto ++ its.p.later
    whole = its.p.split ∙ sym (append_assoc its.p.earlier its.p.mine its.p.later)

    lawful : IsLawful (moment_after Begins upto).state its.p.later
    lawful = legal_rest Begins upto its.p.later (subst (IsLawful Begins.state) whole right.leads.lawful)

    told_last : (moment_after (moment_after Begins upto) its.p.later).state.store.tree ≡ Some run.after
    told_last = ap (λ (m : Moment). m.state.store.tree) (sym (ap (moment_after Begins) whole ∙ moment-append Begins upto its.p.later)) ∙ last_tree run Begins end fits sound_begins right left

    -- whichever line tells of its opening
    module _ (o : Told) (opens : Says run o (line.Opened id)) (lost : Tree) (loses : Loses run.after lost) where
      abbrev d : Dropping
      d = record { room = HomeOf o; host = host_of (slice_get run.script.actors o.actor); writer = id }

      abbrev w : Writer
      w = new_writer run o.actor id (told run) (told run) (told run)

      abbrev ws : List Written
      ws = issued_by Ends d

      writes_are : map change_of ws ≡ w.writes
      writes_are = issued_told run Begins end fits sound_begins right o id opens

      it : its.d ≡ d
      it = its.home_is o opens

      index_stands : Stood Ends d
      index_stands =
          let entered = subst (λ es. HasEntered its.c.parts.number es its.d) (sym its.p.split) (entered_more its.c.parts.number its.p.earlier (its.p.mine ++ its.p.later) its.d its.entered) in
          subst (Stood Ends) it (its_dropping run times mount start end fits mounted tells sound right left o id opens its.c.parts.number its.d entered (ap (λ (x : Dropping). x.writer) it)).stood

      has_least : HasLeast lost (HomeOf o) count w
      has_least =
          let last = last_tree run Begins end fits sound_begins right left in
          let l = lost_told Ends.issued Ends.state sound_ends run.after lost last loses in
          let r = in_a_room (slice_get run.after.rooms d.room) (path_of (Index d.host d.writer)) index_stands.bytes (ap (λ t. file_told t d.room (path_of (Index d.host d.writer))) (sym last) ∙ index_stands.there) in
          let now = (have_lost run.after lost loses).rooms d.room r.0 r.1 in
          let file = now.2.files (path_of (Index d.host d.writer)) index_stands.bytes r.2 in
          let all = tree_told lost l.sound d.room d.host d.writer now.0 file.front now.1 (record { is_item = index_stands.is_item; there = file.there }) in
          let survive : (room : Room) → slice_get lost.rooms d.room ≡ Some room → count ≤ many_in room d.host d.writer =
          subst (λ x. (room : Room) → slice_get lost.rooms x.room ≡ Some room → count ≤ many_in room x.host x.writer) it
          (survives (moment_after Begins upto) its.p.later its.d count keeps_then lawful run.after lost told_last loses) in
          let first : List Written = l.sound.issued d.room d.writer in
          let more = l.first d.room d.writer in
          let many : ℕ = length first in
          let firsts : take many w.writes ≡ map change_of first =
          ap (take many) (sym writes_are) ∙ take_map change_of many ws ∙ ap (λ xs. map change_of (take many xs)) more.1 ∙ ap (map change_of) (take-append-le many first more.0 (omega arith) ∙ take_all first many (omega arith)) in
          let long : length (landed_writes lost d.room d.host d.writer) ≡ many = ap length all.tells.writes ∙ length-map first change_of in
          record { no_fewer = omega (arith, survive now.0 now.1, all.many, long); first = all.tells.writes ∙ sym firsts ∙ ap (λ k. take k w.writes) (sym long) }

  line_of_either : (t : Told) (count : ℕ) → Says run t (line.Synced count) ⊎ Says run t (line.Closed count) → IsLine run t
  line_of_either t count (inl says) = says.is_line
  line_of_either t count (inr says) = says.is_line

  least_left : (lost : Tree) → Loses run.after lost → (t : Told) (count n : ℕ) (w : Writer) → Says run t (line.Synced count) ⊎ Says run t (line.Closed count) → writer_at run t ≡ Some w.id → IsWriter run (homes run times mount start end fits mounted tells sound right left) n (told run) (told run) w → HasLeast lost n count w
  least_left lost loses t count n w says its_id (stood is_item has is) = absurd (not_old run times mount start end fits mounted tells sound right left t w.id (line_of_either t count says) its_id n w.host is_item has)
  least_left lost loses t count n w says its_id (opened o is_line opens home is) =
      let its = at_line run times mount start end fits mounted tells sound right left t w.id (line_of_either t count says) its_id in
      let those = has_least t count w.id says its_id its o (record { is_line = is_line; says = opens }) lost loses in
      subst (HasLeast lost n count) (sym is) (subst (λ k. HasLeast lost k count (new_writer run o.actor w.id (told run) (told run) (told run))) home those)

  -- the law of this file
  pub told_survives : SurvivesLosses run (homes run times mount start end fits mounted tells sound right left)
  told_survives lost loses = record { synced = least_left lost loses; stand = item_stays run.after lost loses }

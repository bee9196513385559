-- What the line of a flattened index says: the index stands in the tree after, and covers a cut that a reader might see then.
use Rattle.std.proofs.Common.{◌≡◌, ◌≤◌, ℕ, false, List, [], ◌∷◌, ◌++◌, length, map, Option, Some, refl, sym, ap, ◌∙◌, subst, append_assoc}
use Rattle.std.proofs.lemmas.List.{append-nil}
use Rattle.plfs_types.specs.declared.entries.WriterCount.{WriterCount}
use Rattle.plain_file.specs.Runs.{ArePiecesOf}
use Rattle.container_layout.specs.declared.items.Item.TheVariants.{Flat}
use Rattle.container_layout.specs.Paths.{path_of}
use Rattle.store_api.specs.Acts.{Stored}
use Rattle.mount_model.specs.History.{Event}
use Rattle.mount_model.specs.Mounting.{IsMounted}
use Rattle.mount_model.specs.State.{State}
use Rattle.mount_sound.specs.Ledger.{change_of}
use Rattle.mount_sound.specs.Sound.{IsSoundTree}
use Rattle.reader_laws.specs.Moments.{Dropping, IsSoundAt, Moment, Stood, file_in_room, file_told}
use Rattle.reader_laws.specs.View.{WritersRise, writes_in}
use Rattle.script_lang.specs.Ranges.{FitsScript}
use Rattle.script_lang.specs.declared.line.Outcome.{Outcome}
use Rattle.script_lang.specs.declared.line.Outcome.TheVariants as line
use Rattle.script_lang.specs.declared.script.Statement.{Statement}
use Rattle.script_lang.specs.declared.script.Statement.TheVariants.{Flatten}
use Rattle.actor_core.specs.declared.kept.Kept.{Kept}
use Rattle.actor_core.specs.Endings.{Ending}
use Rattle.run_core.specs.Play.{IsRight}
use Rattle.headline_laws.specs.Flattening.{FlattensFile}
use Rattle.headline_laws.specs.OneFile.{OneFile}
use Rattle.headline_laws.specs.OneWriter.{OneWriter}
use Rattle.headline_laws.specs.Showing.{Shows}
use Rattle.headline.specs.Run.{Run, Says, Told, before, so_far}
use Rattle.headline.specs.Trees.{Has}
use Rattle.headline.specs.Writers.{Writer}
use Rattle.headline.specs.Names.{Story}
use Rattle.headline.specs.Views.{IsWriter}
use Rattle.headline.specs.Files.{Flattens, reader_at}
use Rattle.headline.specs.Changes.{Writing, writing_at}
use Rattle.headline.specs.Flattened.{HasFlattened}
use Rattle.headline_laws.proofs.Contents.Answered.{pieces_of}
use Rattle.headline_laws.proofs.Contents.Counted.{HasSeen, all_seen, homes}
use Rattle.headline_laws.proofs.Contents.Cuts.{cut_between, writer_between}
use Rattle.headline_laws.proofs.Contents.LineBounds.{BoundedLine, bounded_line}
use Rattle.headline_laws.proofs.Contents.OpenedWriter.{First, Home, Last, sound_first}
use Rattle.headline_laws.proofs.Landed.Counting.{counted_in}
use Rattle.headline_laws.proofs.Statements.Did.{IsOfKindOr}
use Rattle.headline_laws.proofs.Statements.Does.{Ended, did, was_gone}
use Rattle.headline_laws.proofs.Story.Lines.{AnyLine, line_here, room_of}
use Rattle.headline_laws.proofs.Trees.Reading.{in_part, stands_after}
use Rattle.headline_laws.proofs.Trees.Sights.{SightOf, sight_of}

-- its statement flattened a container
record FlattensSo (m : Moment) (n : ℕ) (before front : List Event) (o : Outcome) (room : ℕ) : Type 0 where
  pub name : List ℕ
  pub id : ℕ
  pub many : ℕ
  pub cut : List WriterCount
  pub is : o ≡ line.Flattened id many cut
  pub file : FlattensFile m n (record { before = before; events = front }) name id many cut
  pub its_room : room ≡ file.room

flattens_so : (m : Moment) (n : ℕ) (before front : List Event) (nothing : ℕ) (old new : Option OneFile) (w : Option OneWriter) (name : List ℕ) (id many : ℕ) (cut : List WriterCount) (s : Statement) (o : Outcome) → s ≡ Flatten name → o ≡ line.Flattened id many cut
    → (shows : Shows m n (record { before = before; events = front }) old s o new) → FlattensSo m n before front o (room_of m n (record { before = before; events = front }) nothing old new w s o shows)
flattens_so m n before front nothing old new w name id many cut (Flatten name2) (line.Flattened id2 many2 cut2) is says shows = record { name = name2; id = id2; many = many2; cut = cut2; is = refl; file = shows.1; its_room = refl }
flattens_so m n before front nothing old new w name id many cut s o is says shows = absurd (cc)

flatten_of : (s : Statement) (id many : ℕ) (cut : List WriterCount) → IsOfKindOr s (line.Flattened id many cut) → (name : List ℕ) × (s ≡ Flatten name)
flatten_of (Flatten name) id many cut kind = (name, refl)
flatten_of s id many cut kind = absurd kind

was_flatten : (kept : Kept) (s : Statement) (e : Ending) (id many : ℕ) (cut : List WriterCount) → e.outcome ≡ line.Flattened id many cut → Ended kept s e → (name : List ℕ) × (s ≡ Flatten name)
was_flatten kept s e id many cut says (was_gone is out now) = absurd (let clash : line.Gone ≡ line.Flattened id many cut = sym out ∙ says in cc)
was_flatten kept s e id many cut says (did lives d) = flatten_of s id many cut (subst (IsOfKindOr s) says d.kind)

module _ (run : Run) (times : Option (List ℕ)) (mount : Stored) (start end : State) (fits : FitsScript run.script) (mounted : IsMounted 0 times mount start) (tells : mount.tree ≡ Some run.before) (sound : IsSoundTree run.before)
    (right : IsRight run.script start run.lines end) (left : end.store.tree ≡ Some run.after) where
  abbrev Begins : Moment
  Begins = First run times mount start end fits mounted tells sound right left

  abbrev sound_begins : IsSoundAt Begins
  sound_begins = sound_first run times mount start end fits mounted tells sound right left

  abbrev HomeOf : Told → ℕ
  HomeOf t = Home run times mount start end fits mounted tells sound right left t

  abbrev Homes : Story
  Homes = homes run times mount start end fits mounted tells sound right left

  module _ (free : run.in_order ≡ false) (t : Told) (id many : ℕ) (cut : List WriterCount) (says : Says run t (line.Flattened id many cut)) where
    -- however the lines of its actor are split
    module _ (r : Option Told) (w : Writing) (l : AnyLine run Begins end fits sound_begins right r w t) where
      abbrev front : List Event
      front = l.line.shown.front

      abbrev File : List ℕ → ℕ → ℕ → List WriterCount → Type 0
      File name i k c = (f : FlattensFile Begins l.number (record { before = l.line.part.earlier; events = front }) name i k c) × (HomeOf t ≡ f.room)

      flattens_here : (name : List ℕ) × File name id many cut
      flattens_here =
          let h = l.line.shown in
          let asked = was_flatten l.line.kept t.statement l.line.part.e id many cut (sym l.line.says ∙ says.says) l.line.part.ended in
          by (subst (FlattensSo Begins l.number l.line.part.earlier front t.outcome) (sym l.line.here)
          (flattens_so Begins l.number l.line.part.earlier front (length run.after.rooms) l.line.file h.new h.new_writer asked.0 id many cut t.statement t.outcome asked.1 says.says h.shows))
        where
          by : FlattensSo Begins l.number l.line.part.earlier front t.outcome (HomeOf t) → (name : List ℕ) × File name id many cut
          by q =
              let same : line.Flattened q.id q.many q.cut ≡ line.Flattened id many cut = sym q.is ∙ says.says in
              let ids : q.id ≡ id = cc in
              let numbers : q.many ≡ many = cc in
              let cuts : q.cut ≡ cut = cc in
              (q.name, subst (λ c. File q.name id many c) cuts (subst (λ k. File q.name id k q.cut) numbers (subst (λ i. File q.name i q.many q.cut) ids (q.file, q.its_room))))

      abbrev f : FlattensFile Begins l.number (record { before = l.line.part.earlier; events = front }) flattens_here.0 id many cut
      f = flattens_here.1.0

      -- the file that it saw
      sight : SightOf run Begins end fits sound_begins right l cut f.seen.truncs f.seen
      sight = sight_of run Begins end fits sound_begins right r w t l cut f.seen.truncs f.earlier f.finding f.seen f.sees f.counted refl (flattens_here.1.1 ∙ sym f.in_room)

      -- its counts lie between what had landed before its part and by its end
      bounded : (d : Dropping) → Stood (Last run times mount start end fits mounted tells sound right left) d → d.room ≡ HomeOf t → BoundedLine run times mount start end fits mounted tells sound right left t cut [] d l.line.part.earlier l.line.part.mine
      bounded d stands home =
          let b = bounded_line run times mount start end fits mounted tells sound right left t cut f.seen.truncs r w l sight.sight d stands home in
          record { low = b.low; high = b.high }

      -- the index stands from then on
      stays : Has run.after (HomeOf t) (Flat id)
      stays =
          let p = l.line.part in
          let h = l.line.shown in
          let i = f.stands.installed in
          let upto : List Event = f.earlier ++ (f.finding ∷ f.more ++ f.installing ∷ []) in
          let split : front ≡ upto ++ f.later = f.split ∙ ap (λ z. f.earlier ++ (f.finding ∷ z)) (sym (append_assoc f.more (f.installing ∷ []) f.later)) ∙ sym (append_assoc f.earlier (f.finding ∷ f.more ++ f.installing ∷ []) f.later) in
          subst (λ k. Has run.after k (Flat id)) (sym flattens_here.1.1)
          (stands_after run Begins end fits sound_begins right left (p.earlier ++ upto) (f.later ++ (h.rest ++ p.later)) f.room (Flat id) (in_part right.history p.earlier p.mine p.later front h.rest upto f.later p.split h.split split) tt
          (record {
            is_item = i.has.is_item;
            bytes = f.stands.bytes;
            there = ap (λ t. file_told t f.room (path_of (Flat id))) f.stands.told ∙ ap (λ r. file_in_room r (path_of (Flat id))) i.there ∙ i.has.there;
          }))

    opens_none : (other : ℕ) → t.outcome ≡ line.Opened other → ⊥
    opens_none other is = let clash : line.Opened other ≡ line.Flattened id many cut = sym is ∙ says.says in cc

    between : (w : Writer) → IsWriter run Homes (HomeOf t) (before run t) (so_far run t) w → (w.least ≤ counted_in w.id cut) × (counted_in w.id cut ≤ w.most)
    between w is = writer_between run times mount start end fits mounted tells sound right left free t cut [] says.is_line opens_none w.id (λ r v l d stands home its. bounded r v l d stands home) w is refl

    abbrev Line_so : Type 0
    Line_so = AnyLine run Begins end fits sound_begins right (reader_at run t) (writing_at run t) t

    told_so : (l : Line_so) (name : List ℕ) (it : FlattensFile Begins l.number (record { before = l.line.part.earlier; events = l.line.shown.front }) name id many cut) → SightOf run Begins end fits sound_begins right l cut it.seen.truncs it.seen → Has run.after (HomeOf t) (Flat id) → Flattens run Homes t id many cut
    told_so l name it s standing =
        let v = s.sight in
        let h : HasSeen run times mount start end fits mounted tells sound right left t it.seen.moment it.seen.cut = subst (λ (x : OneFile). HasSeen run times mount start end fits mounted tells sound right left t x.moment x.cut) s.is
        (all_seen run times mount start end fits mounted tells sound right left t v.file.moment (l.line.part.earlier ++ v.upto) v.rest v.split v.moment _ v.file.cut (subst (λ k. WritersRise k v.file.cut) (sym v.in_room) v.sees.view.rise) v.sees.view.admissible) in
        let are : ArePiecesOf (map change_of (writes_in it.seen.moment it.seen.cut) ++ []) it.shown.0 = pieces_of run times mount start end fits mounted tells sound right left free (record { room = it.seen.room; moment = it.seen.moment; cut = it.seen.cut; truncs = [] }) it.shown.0 it.shown.1 in
        record {
          seen = h.seen;
          may_see = cut_between run times mount start end fits mounted tells sound right left t cut between it.seen it.counted it.sees.view.rise h;
          cut_is = it.counted ∙ h.counts;
          pieces = it.shown.0;
          are = subst (λ c. ArePiecesOf c it.shown.0) (append-nil (map change_of (writes_in it.seen.moment it.seen.cut)) ∙ sym h.writes) are;
          number = it.shown.2;
          stands = standing;
        }

    flattens_so_much : Flattens run Homes t id many cut
    flattens_so_much = by (line_here run Begins end fits sound_begins right t says.is_line)
      where
        by : Line_so → Flattens run Homes t id many cut
        by l = told_so l (flattens_here (reader_at run t) (writing_at run t) l).0 (f (reader_at run t) (writing_at run t) l) (sight (reader_at run t) (writing_at run t) l) (stays (reader_at run t) (writing_at run t) l)

  -- the law of this file
  pub flattened_told : run.in_order ≡ false → HasFlattened run Homes
  flattened_told free = record { flattens = flattens_so_much free }

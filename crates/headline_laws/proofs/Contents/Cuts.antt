-- A line that shows a file counts of each writer of its container no less than what is sure to have landed, and no more than what may have.
use Rattle.std.proofs.Common.{◌≡◌, ◌≤◌, ℕ, false, Option, List, [], ◌++◌, length, map, Some, refl, sym, ap, ◌∙◌, subst, arith, append_assoc, length-append}
use Rattle.std.specs.Prelude.{get_or}
use Rattle.std.proofs.lemmas.List.Elements.{All-from_recursion}
use Rattle.plfs_types.specs.declared.entries.Trunc.{Trunc}
use Rattle.plfs_types.specs.declared.entries.WriterCount.{WriterCount}
use Rattle.container_layout.specs.declared.items.Item.TheVariants.{Index}
use Rattle.container_layout.specs.Items.{IsItem}
use Rattle.container_layout.proofs.Facts.{elsewhere}
use Rattle.store_api.specs.Acts.{Stored}
use Rattle.mount_model.specs.Mounting.{IsMounted}
use Rattle.mount_model.specs.State.{State}
use Rattle.mount_sound.specs.Items.{HasItem}
use Rattle.mount_sound.specs.Sound.{IsSoundTree}
use Rattle.reader_laws.specs.Moments.{Dropping, Stood}
use Rattle.reader_laws.specs.View.{WritersRise}
use Rattle.reader_laws.proofs.Gathered.Facts.{All-weaker}
use Rattle.script_lang.specs.Ranges.{FitsScript}
use Rattle.script_lang.specs.declared.line.Outcome.TheVariants as line
use Rattle.run_core.specs.Play.{IsRight}
use Rattle.headline_laws.specs.OneFile.{OneFile, printed_cut}
use Rattle.headline.specs.Run.{IsLine, Run, Told, before, so_far, told}
use Rattle.headline.specs.Trees.{Has, landed_writes}
use Rattle.headline.specs.Files.{reader_at}
use Rattle.headline.specs.Changes.{Writing, writing_at}
use Rattle.headline.specs.Writers.{Writer, new_writer}
use Rattle.headline.specs.Views.{IdsRise, IsCut, IsWriter, Seen, count_of, opened, stood}
use Rattle.headline_laws.proofs.Contents.Bounds.{opened_between}
use Rattle.headline_laws.proofs.Contents.Counted.{HasSeen, IsSeen, homes}
use Rattle.headline_laws.proofs.Contents.LineBounds.{BoundedLine, bounded_line}
use Rattle.headline_laws.proofs.Contents.OpenedWriter.{First, Last, sound_first, stands_last}
use Rattle.headline_laws.proofs.Landed.Counting.{counted_in, seen_counted, seen_rise}
use Rattle.headline_laws.proofs.Story.Lines.{AnyLine, line_here}
use Rattle.headline_laws.proofs.Trees.Printed.{ids_rise}
use Rattle.headline_laws.proofs.Trees.Sights.{Sees}
use Rattle.headline_laws.proofs.Trees.Old.{begins_with, is_there, landed_then, told_landed}

module _ (run : Run) (times : Option (List ℕ)) (mount : Stored) (start end : State) (fits : FitsScript run.script) (mounted : IsMounted 0 times mount start) (tells : mount.tree ≡ Some run.before) (sound : IsSoundTree run.before)
    (right : IsRight run.script start run.lines end) (left : end.store.tree ≡ Some run.after) where
  abbrev Homes : Told → ℕ
  Homes = (homes run times mount start end fits mounted tells sound right left).of

  -- where the counts of a line lie between what had landed of a writer before its part and by its end
  module _ (free : run.in_order ≡ false) (t : Told) (cut : List WriterCount) (truncs : List Trunc) (is_line : IsLine run t) (opens_none : (other : ℕ) → t.outcome ≡ line.Opened other → ⊥) (id : ℕ)
      (bounded : (r : Option Told) (w : Writing) (l : AnyLine run (First run times mount start end fits mounted tells sound right left) end fits (sound_first run times mount start end fits mounted tells sound right left) right r w t) (d : Dropping) → Stood (Last run times mount start end fits mounted tells sound right left) d → d.room ≡ Homes t
      → d.writer ≡ id → BoundedLine run times mount start end fits mounted tells sound right left t cut truncs d l.line.part.earlier l.line.part.mine) where
    -- of a writer of the tree before just the writes that had landed
    old_between : (w : Writer) (host : ℕ) → IsItem (Index host id) → Has run.before (Homes t) (Index host id) → w.least ≡ length (landed_writes run.before (Homes t) host id) → w.most ≡ length (landed_writes run.before (Homes t) host id) → (w.least ≤ counted_in id cut) × (counted_in id cut ≤ w.most)
    old_between w host is_item has least most =
        let d : Dropping = record { room = Homes t; host = host; writer = id } in
        let f = is_there run times mount start end fits mounted tells sound right (Homes t) (Index host id) has in
        let item : HasItem f.room (Index host id) f.bytes = record { is_item = is_item; there = f.has } in
        let had : Stood (First run times mount start end fits mounted tells sound right left) d = begins_with run times mount start end fits mounted tells sound right (Homes t) (Index host id) is_item (λ e. elsewhere (ap (λ (name : List ℕ). get_or name 0 0) e) refl) has in
        let last = stands_last run times mount start end fits mounted tells sound right left [] right.history d refl had in
        let l = line_here run (First run times mount start end fits mounted tells sound right left) end fits (sound_first run times mount start end fits mounted tells sound right left) right t is_line in
        let b : BoundedLine run times mount start end fits mounted tells sound right left t cut truncs d l.line.part.earlier l.line.part.mine = bounded (reader_at run t) (writing_at run t) l d last refl refl in
        let behind : right.history ≡ (l.line.part.earlier ++ l.line.part.mine) ++ l.line.part.later = l.line.part.split ∙ sym (append_assoc l.line.part.earlier l.line.part.mine l.line.part.later) in
        let low = b.low l.line.part.earlier (l.line.part.mine ++ l.line.part.later) l.line.part.split (omega arith) in
        let long = length-append l.line.part.earlier l.line.part.mine in
        let high = b.high (l.line.part.earlier ++ l.line.part.mine) l.line.part.later behind (omega (arith, long)) in
        let one = landed_then run times mount start end fits mounted tells sound right d f.room f.bytes f.there item l.line.part.earlier (l.line.part.mine ++ l.line.part.later) l.line.part.split in
        let other = landed_then run times mount start end fits mounted tells sound right d f.room f.bytes f.there item (l.line.part.earlier ++ l.line.part.mine) l.line.part.later behind in
        let all = told_landed run times mount start end fits mounted tells sound right d f.room f.bytes f.there item in
        (omega (arith, low, one, all, least), omega (arith, high, other, all, most))

    -- so do they between what is sure to have landed of it and what may have
    pub writer_between : (w : Writer) → IsWriter run (homes run times mount start end fits mounted tells sound right left) (Homes t) (before run t) (so_far run t) w → w.id ≡ id → (w.least ≤ counted_in id cut) × (counted_in id cut ≤ w.most)
    writer_between w (stood is_item has is) same = old_between w w.host (subst (λ k. IsItem (Index w.host k)) same is_item) (subst (λ k. Has run.before (Homes t) (Index w.host k)) same has)
        (ap (λ (x : Writer). x.least) is ∙ ap (λ k. length (landed_writes run.before (Homes t) w.host k)) same) (ap (λ (x : Writer). x.most) is ∙ ap (λ k. length (landed_writes run.before (Homes t) w.host k)) same)
    writer_between w (opened o of_run says_so home is) same =
        let b = opened_between run times mount start end fits mounted tells sound right left t cut truncs is_line opens_none o id (record { is_line = of_run; says = says_so ∙ ap (λ k. line.Opened k) same }) home bounded free in
        let its = is ∙ ap (λ k. new_writer run o.actor k (told run) (before run t) (so_far run t)) same in
        (subst (λ k. k ≤ counted_in id cut) (sym (ap (λ (x : Writer). x.least) its)) b.0, subst (λ k. counted_in id cut ≤ k) (sym (ap (λ (x : Writer). x.most) its)) b.1)

  -- where they do of each writer, they are those of a cut that the line may see
  pub cut_between : (t : Told) (cut : List WriterCount) → ((w : Writer) → IsWriter run (homes run times mount start end fits mounted tells sound right left) (Homes t) (before run t) (so_far run t) w → (w.least ≤ counted_in w.id cut) × (counted_in w.id cut ≤ w.most)) → (file : OneFile) → cut ≡ printed_cut file.cut
      → WritersRise file.room file.cut → (h : HasSeen run times mount start end fits mounted tells sound right left t file.moment file.cut) → IsCut run (homes run times mount start end fits mounted tells sound right left) t h.seen
  cut_between t cut counts_lie file counts rise h = record {
    known = All-from_recursion Known_so h.seen (All-weaker (IsSeen run times mount start end fits mounted tells sound right left t) Known_so h.seen (λ s known. (known.0, known.2)) h.known);
    rise = subst IdsRise (ap (λ c. map (λ (x : WriterCount). x.writer) c) h.counts ∙ seen_rise h.seen) (ids_rise file.room file.cut rise);
    between = λ w is. (let b = counts_lie w is in let same : count_of w.id h.seen ≡ counted_in w.id cut = seen_counted w.id h.seen ∙ ap (counted_in w.id) (sym (counts ∙ h.counts)) in (omega (arith, b.0, same), omega (arith, b.1, same)));
  }
    where
      Known_so : Seen → Type 0
      Known_so s = (1 ≤ s.count) × IsWriter run (homes run times mount start end fits mounted tells sound right left) (Homes t) (before run t) (so_far run t) s.writer

  module _ (free : run.in_order ≡ false) (t : Told) (cut : List WriterCount) (truncs : List Trunc) (is_line : IsLine run t) (opens_none : (other : ℕ) → t.outcome ≡ line.Opened other → ⊥)
      (sees : Sees run (First run times mount start end fits mounted tells sound right left) end fits (sound_first run times mount start end fits mounted tells sound right left) right t cut truncs) where
    -- the law of this file
    pub counts_between : (w : Writer) → IsWriter run (homes run times mount start end fits mounted tells sound right left) (Homes t) (before run t) (so_far run t) w → (w.least ≤ counted_in w.id cut) × (counted_in w.id cut ≤ w.most)
    counts_between w is = writer_between free t cut truncs is_line opens_none w.id (λ r v l d stands home its. bounded_line run times mount start end fits mounted tells sound right left t cut truncs r v l (sees r v l) d stands home) w is refl

    -- So the counts of the file are a cut that the line may see.
    pub cut_seen : (file : OneFile) → cut ≡ printed_cut file.cut → WritersRise file.room file.cut → (h : HasSeen run times mount start end fits mounted tells sound right left t file.moment file.cut) → IsCut run (homes run times mount start end fits mounted tells sound right left) t h.seen
    cut_seen = cut_between t cut counts_between

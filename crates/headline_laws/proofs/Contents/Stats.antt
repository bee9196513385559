-- A line that tells of a file tells of one plain file, of the first writes that lines tell of each writer.
use Rattle.std.proofs.Common.{◌≡◌, ◌⊎◌, ◌≤◌, ◌<◌, ℕ, false, List, [], ◌++◌, length, map, Option, Some, refl, sym, ap, ◌∙◌, subst}
use Rattle.std.specs.Prelude.{get_or}
use Rattle.std.specs.List.{All}
use Rattle.std.proofs.lemmas.List.Elements.{All-from_recursion}
use Rattle.plfs_types.specs.declared.entries.ShareBytes.{ShareBytes}
use Rattle.plfs_types.specs.declared.entries.Trunc.{Trunc}
use Rattle.plfs_types.specs.declared.entries.WriterCount.{WriterCount}
use Rattle.plain_file.specs.declared.changes.Change.TheVariants.{Truncate}
use Rattle.plain_file.specs.File.{plain_size}
use Rattle.container_layout.specs.Items.{IsItem}
use Rattle.container_layout.proofs.Facts.{elsewhere}
use Rattle.store_api.specs.Acts.{Stored}
use Rattle.mount_model.specs.History.{Event}
use Rattle.mount_model.specs.Mounting.{IsMounted}
use Rattle.mount_model.specs.State.{State}
use Rattle.mount_sound.specs.Sound.{IsSoundTree}
use Rattle.attr_flow.specs.Shares.{stored_in}
use Rattle.reader_laws.specs.Moments.{HadItem, IsSoundAt, Moment, moment_after}
use Rattle.reader_laws.specs.View.{WritersRise, changes_in, cut_off, writes_in}
use Rattle.mount_sound.specs.Ledger.{change_of}
use Rattle.reader_laws.proofs.Gathered.Facts.{All-weaker}
use Rattle.script_lang.specs.Ranges.{FitsScript}
use Rattle.script_lang.specs.declared.line.Outcome.TheVariants as line
use Rattle.run_core.specs.Play.{IsRight}
use Rattle.headline_laws.specs.OneFile.{printed_cut}
use Rattle.headline_laws.specs.Telling.{TellsOfFile}
use Rattle.headline.specs.Run.{Run, Says, Told}
use Rattle.plfs_types.specs.Places.{IsAmong}
use Rattle.headline.specs.Trees.{Has}
use Rattle.headline.specs.Views.{Seen, changes_of, item_of, shared, writes_of}
use Rattle.headline.specs.Files.{reader_at}
use Rattle.headline.specs.Changes.{Writing, writing_at}
use Rattle.headline.specs.Stats.{HasStats, ShowsStat}
use Rattle.headline_laws.proofs.Contents.Above.{IsBelow}
use Rattle.headline_laws.proofs.Contents.Answered.{above_all}
use Rattle.headline_laws.proofs.Contents.Counted.{Begin, HasSeen, IsSeen, all_seen, homes, sound_begin}
use Rattle.headline_laws.proofs.Contents.Cuts.{cut_seen}
use Rattle.headline_laws.proofs.Contents.Shares.{share_count, shares_count, stored_same}
use Rattle.headline_laws.proofs.Story.Lines.{AnyLine, container, line_here}
use Rattle.headline_laws.proofs.Trees.Old.{begins_with}
use Rattle.headline_laws.proofs.Trees.Reading.{grows_to}
use Rattle.headline_laws.proofs.Trees.Sights.{Sees, Sight, sight_of, stamps_in, stat_line, stay_in, truncate_in}

module _ (run : Run) (times : Option (List ℕ)) (mount : Stored) (start end : State) (fits : FitsScript run.script) (mounted : IsMounted 0 times mount start) (tells : mount.tree ≡ Some run.before) (sound : IsSoundTree run.before)
    (right : IsRight run.script start run.lines end) (left : end.store.tree ≡ Some run.after) (free : run.in_order ≡ false) where
  abbrev First : Moment
  First = Begin run times mount start end fits mounted tells sound right left

  abbrev sound_first : IsSoundAt First
  sound_first = sound_begin run times mount start end fits mounted tells sound right left

  abbrev Home : Told → ℕ
  Home t = container run First end fits sound_first right t

  -- ---- one such line

  module _ (t : Told) (size stored : ℕ) (shares : List ShareBytes) (truncs : List Trunc) (says : Says run t (line.Stat size stored shares truncs)) where
    -- the counts that its shares say
    abbrev cut : List WriterCount
    cut = map (share_count run times mount start end fits mounted tells sound right left (Home t)) shares

    opens_none : (other : ℕ) → t.outcome ≡ line.Opened other → ⊥
    opens_none other is = let clash : line.Stat size stored shares truncs ≡ line.Opened other = sym says.says ∙ is in absurd (cc)

    -- the file that it shows, of which it tells
    record Shown {r : Option Told} {w : Writing} (l : AnyLine run First end fits sound_first right r w t) : Type 0 where
      pub sight : Sight run First end fits sound_first right l cut truncs
      pub of_file : TellsOfFile size stored shares truncs sight.file

    abbrev Counts : ℕ → List WriterCount
    Counts room = map (share_count run times mount start end fits mounted tells sound right left room) shares

    shown : (r : Option Told) (w : Writing) (l : AnyLine run First end fits sound_first right r w t) → Shown l
    shown r w l =
        let z = stat_line run First end fits sound_first right r w t l size stored shares truncs says.says in
        let u = sight_of run First end fits sound_first right r w t l (printed_cut z.file.cut) truncs z.earlier z.first z.file z.sees refl z.tells.truncates z.in_room in
        let v : Sight run First end fits sound_first right l (printed_cut z.file.cut) truncs = u.sight in
        let its : TellsOfFile size stored shares truncs v.file = subst (TellsOfFile size stored shares truncs) (sym u.is) z.tells in
        let counts : printed_cut v.file.cut ≡ Counts v.file.room =
        shares_count run times mount start end fits mounted tells sound right left v.file.room v.file.moment (l.line.part.earlier ++ v.upto) v.rest v.split v.moment _ v.file.cut v.sees.view.rise v.sees.view.admissible
        ∙ ap (map (share_count run times mount start end fits mounted tells sound right left v.file.room)) (sym its.shares_are) in
        record {
          sight = record {
            file = v.file;
            earlier = v.earlier;
            first = v.first;
            sees = v.sees;
            counts = ap Counts v.in_room ∙ sym counts;
            truncates = v.truncates;
            in_room = v.in_room;
            upto = v.upto;
            rest = v.rest;
            split = v.split;
            moment = v.moment;
            begun = v.begun;
            upto_is = v.upto_is;
            within = v.within;
          };
          of_file = its;
        }

    sees : Sees run First end fits sound_first right t cut truncs
    sees r w l = (shown r w l).sight

    abbrev l : AnyLine run First end fits sound_first right (reader_at run t) (writing_at run t) t
    l = line_here run First end fits sound_first right t says.is_line

    -- a truncate of the tree before
    stood_in : (v : Sight run First end fits sound_first right l cut truncs) (u : Trunc) → IsItem (item_of u) → Has run.before (Home t) (item_of u) → IsAmong u truncs
    stood_in v u is_item has =
        let es : List Event = l.line.part.earlier ++ v.upto in
        let had = begins_with run times mount start end fits mounted tells sound right (Home t) (item_of u) is_item (λ e. elsewhere (ap (λ (name : List ℕ). get_or name 0 0) e) refl) has in
        let grows = grows_to run First end fits sound_first right [] es v.rest v.split in
        let there : HadItem (moment_after First es) v.file.room (item_of u) = subst (λ k. HadItem (moment_after First es) k (item_of u)) v.in_room (grows.stands (Home t) (item_of u) tt had) in
        subst (λ ts. IsAmong u ts) (sym v.truncates) (v.sees.view.all_truncs.all u (subst (λ x. HadItem x v.file.room (item_of u)) (sym v.moment) there))

    told_so : Shown l → ShowsStat run (homes run times mount start end fits mounted tells sound right left) t size stored shares truncs
    told_so b = record {
      seen = h.seen;
      may_see = cut_seen run times mount start end fits mounted tells sound right left free t cut truncs says.is_line opens_none sees b.sight.file b.sight.counts b.sight.sees.view.rise h;
      first = All-from_recursion (λ (s : Seen). s.count ≤ length s.writer.writes) h.seen (All-weaker (IsSeen run times mount start end fits mounted tells sound right left t) (λ (s : Seen). s.count ≤ length s.writer.writes) h.seen (λ s known. known.1) h.known);
      size_is = b.of_file.size_is ∙ ap (λ c. plain_size c) (sym changes);
      stored_is = b.of_file.stored_is ∙ ap stored_in shares_so ∙ stored_same h.seen;
      shares_are = shares_so;
      stamps_rise = stamps_in run First end fits sound_first right l cut truncs b.sight;
      stood = stood_in b.sight;
      made = λ s name stamp many told asked sooner same. truncate_in run First end fits sound_first right free t s cut truncs name stamp many says.is_line sees told asked sooner same;
      stay = stay_in run First end fits sound_first right l cut truncs b.sight left;
      later = λ u is_item there. subst (λ ts. IsAmong u ts ⊎ (All (IsBelow u.stamp) (writes_of h.seen) × All (λ (x : Trunc). x.stamp < u.stamp) ts)) (sym b.sight.truncates)
          (subst (λ ws. IsAmong u b.sight.file.truncs ⊎ (All (IsBelow u.stamp) ws × All (λ (x : Trunc). x.stamp < u.stamp) b.sight.file.truncs)) (sym h.writes)
          (above_all run times mount start end fits mounted tells sound right left free t b.sight.file (l.line.part.earlier ++ b.sight.upto) b.sight.rest _ b.sight.split b.sight.moment b.sight.in_room b.sight.sees.view u is_item there));
    }
      where
        h : HasSeen run times mount start end fits mounted tells sound right left t b.sight.file.moment b.sight.file.cut
        h = all_seen run times mount start end fits mounted tells sound right left t b.sight.file.moment (l.line.part.earlier ++ b.sight.upto) b.sight.rest b.sight.split b.sight.moment _ b.sight.file.cut (subst (λ k. WritersRise k b.sight.file.cut) (sym b.sight.in_room) b.sight.sees.view.rise) b.sight.sees.view.admissible

        changes : changes_of h.seen truncs ≡ changes_in b.sight.file.moment b.sight.file.cut b.sight.file.truncs
        changes = ap (λ ws. ws ++ map (λ u. Truncate u) truncs) h.writes ∙ ap (λ ts. map change_of (writes_in b.sight.file.moment b.sight.file.cut) ++ map cut_off ts) b.sight.truncates

        shares_so : shares ≡ map shared h.seen
        shares_so = b.of_file.shares_are ∙ h.shares

  -- the law of this file
  pub stats_told : HasStats run (homes run times mount start end fits mounted tells sound right left)
  stats_told = record { shows = λ t size stored shares truncs says. told_so t size stored shares truncs says (shown t size stored shares truncs says (reader_at run t) (writing_at run t) (line_here run First end fits sound_first right t says.is_line)) }

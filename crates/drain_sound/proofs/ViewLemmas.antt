-- A reader of a target sees the plain file of a cut of the source.
use Rattle.std.proofs.Common.{◌≡◌, ℕ, ◌≤◌, ◌<◌, ◌^◌, List, [], ◌∷◌, ◌++◌, drop, length, map, take, Option, Some, None, refl, ap, sym, ◌∙◌, inl, subst, arith}
use Rattle.std.specs.Prelude.{MatchOption, Ok, slice_get}
use Rattle.std.specs.List.{AllByRecursion}
use Rattle.std.proofs.lemmas.List.{take-append-le}
use Rattle.std.proofs.lemmas.List.Elements.{All-from_recursion, recursion_from_All}
use Rattle.plfs_types.specs.declared.entries.Trunc.{Trunc as Truncate}
use Rattle.container_layout.specs.declared.items.Item.{Item}
use Rattle.container_layout.specs.declared.items.Item.TheVariants.{Index, Trunc}
use Rattle.container_layout.specs.Paths.{path_of}
use Rattle.plain_file.specs.File.{plain}
use Rattle.store_api.specs.declared.step.Answer.TheVariants.{Made, Names as TellsNames}
use Rattle.store_api.specs.declared.tree.Room.{Room}
use Rattle.store_api.specs.declared.tree.Tree.{Tree}
use Rattle.store_api.specs.Acts.{Stored}
use Rattle.store_laws.specs.Files.{file_at}
use Rattle.store_laws.specs.Naming.{KeepsRoom}
use Rattle.store_laws.proofs.Facts.{acts_told, keeps_rooms}
use Rattle.mount_model.specs.History.{Event}
use Rattle.mount_model.specs.Mounting.{IsMounted, list_step, mark_step, marks_step}
use Rattle.mount_model.specs.Paths.{Name, index_path}
use Rattle.mount_model.specs.State.{State}
use Rattle.mount_sound.specs.Dropping.{IsDropping, IsWriter, log_bytes}
use Rattle.mount_sound.specs.Items.{HasItem}
use Rattle.mount_sound.specs.Ledger.{entries_in}
use Rattle.mount_sound.specs.Owed.{IsLawful}
use Rattle.mount_sound.proofs.Facts.{entries_take, is_index, mounted_sound, one_tree}
use Rattle.reader_laws.specs.Gathering.{Gathered, IsAdmissible, IsPrefixOf}
use Rattle.reader_laws.specs.Moments.{HadTrunc, IsSoundAt, Moment, Stood, file_in_room, file_told, issued_by, landed, moment_after}
use Rattle.reader_laws.specs.GatheringOpening.{HasView}
use Rattle.reader_laws.specs.View.{WritersRise, cut_off, writes_in}
use Rattle.mount_sound.specs.Ledger.{change_of}
use Rattle.reader_laws.proofs.Gathered.Facts.{grows_after, in_a_room, in_tree, landed_whole, sound_after, stood_grows}
use Rattle.drain_sound.specs.Fronts.{IsTarget, dropping_in}
use Rattle.drain_sound.specs.Views.{IsOfSource, StaysQuiet, cut_there, mounted_there}
use Rattle.drain_sound.proofs.MarkLemmas.{item_apart}
use Rattle.drain_sound.proofs.WriterLemmas.{few_landed, one_host_there}

-- ---- what a mounting leaves of a room

-- the room after it, in which each item's file is as it was
pub record SameItems (after : Tree) (n : ℕ) (room : Room) : Type 0 where
  pub now : Room
  pub there : slice_get after.rooms n ≡ Some now
  pub files : (item : Item) → file_at now (path_of item) ≡ file_at room (path_of item)

mounted_files : (marks mount n : ℕ) (first second third last : Room) → KeepsRoom marks_step n first second → KeepsRoom (list_step marks) n second third → KeepsRoom (mark_step marks mount) n third last → (item : Item) → file_at last (path_of item) ≡ file_at first (path_of item)
mounted_files marks mount n first second third last x y z item =
    z.files (path_of item) (λ named. item_apart item mount named.1.0 named.1.1)
    ∙ y.files (path_of item) (λ named. named)
    ∙ x.files (path_of item) (λ named. named)

pub mounted_items : (serial : ℕ) (times : Option (List ℕ)) (opened : Stored) (start : State) (tree after : Tree) (n : ℕ) (room : Room) → IsMounted serial times opened start → opened.tree ≡ Some tree → start.store.tree ≡ Some after → slice_get tree.rooms n ≡ Some room → SameItems after n room
mounted_items serial times opened start tree after n room m told now there =
    let d = m.draws in
    let a = acts_told marks_step opened d.roomed tree d.tells.told told d.tells.made in
    let x = keeps_rooms marks_step tree d.tells.told a.0 a.2 n room there in
    let b = acts_told (list_step start.marks) d.roomed d.listed a.0 (Ok (TellsNames d.names)) a.1 d.lists in
    let y = keeps_rooms (list_step start.marks) a.0 (Ok (TellsNames d.names)) b.0 b.2 n x.0 x.1 in
    let c = acts_told (mark_step start.marks start.mount) d.listed start.store b.0 (Ok Made) b.1 d.marked in
    let z = keeps_rooms (mark_step start.marks start.mount) b.0 (Ok Made) c.0 c.2 n y.0 y.1 in
    let same : c.0 ≡ after = one_tree c.0 after start.store.tree c.1 now in
    record {
      now = z.0;
      there = subst (λ (t : Tree). slice_get t.rooms n ≡ Some z.0) same z.1;
      files = λ item. mounted_files start.marks start.mount n room x.0 y.0 z.0 x.2 y.2 z.2 item;
    }

some_room : (a b : Room) (o : Option Room) → o ≡ Some a → o ≡ Some b → a ≡ b
some_room a b o p q = cc

module _ (source : Moment) (s : IsSoundAt source) (number : ℕ) (name : Name) (tree : Tree) (t : IsTarget source number name tree) (n : ℕ) (room : Room) (at : slice_get tree.rooms n ≡ Some room) (named : room.name ≡ name)
    (serial : ℕ) (times : Option (List ℕ)) (opened : Stored) (start : State) (m : IsMounted serial times opened start) (told : opened.tree ≡ Some tree) where
  pub begins_sound : IsSoundAt (mounted_there t.sound start)
  begins_sound = mounted_sound serial times opened start tree m told t.sound

  pub items : SameItems begins_sound.shape.tree n room
  items = mounted_items serial times opened start tree begins_sound.shape.tree n room m told begins_sound.shape.told at

  -- what stands in the target's room stands as the mount begins
  pub stood_then : (host writer : ℕ) (bytes : List ℕ) → HasItem room (Index host writer) bytes → Stood (mounted_there t.sound start) (dropping_in n host writer)
  stood_then host writer bytes h = record {
    is_item = h.is_item;
    bytes = bytes;
    there = ap (λ o. file_told o n (index_path host writer)) begins_sound.shape.told ∙ ap (λ r. file_in_room r (index_path host writer)) items.there ∙ items.files (Index host writer) ∙ h.there;
  }

  -- and a truncate that stands then is one of the source
  truncates_then : (stamp size : ℕ) → HadTrunc (mounted_there t.sound start) n stamp size → HadTrunc source number stamp size
  truncates_then stamp size h =
      let r = in_a_room (slice_get begins_sound.shape.tree.rooms n) (path_of (Trunc stamp size)) h.bytes (in_tree (mounted_there t.sound start) begins_sound n (path_of (Trunc stamp size)) h.bytes h.there) in
      let same : r.0 ≡ items.now = some_room r.0 items.now (slice_get begins_sound.shape.tree.rooms n) r.1 items.there in
      let file : file_at room (path_of (Trunc stamp size)) ≡ Some h.bytes = sym (items.files (Trunc stamp size)) ∙ ap (λ x. file_at x (path_of (Trunc stamp size))) (sym same) ∙ r.2 in
      (t.drained n room at named).truncates stamp size h.bytes (record { is_item = h.is_item; there = file })

  -- an index dropping that stands then is of a writer of the source
  pub stood_source : (host writer : ℕ) → Stood (mounted_there t.sound start) (dropping_in n host writer) → Stood source (dropping_in number host writer)
  stood_source host writer h =
      let r = in_a_room (slice_get begins_sound.shape.tree.rooms n) (index_path host writer) h.bytes (in_tree (mounted_there t.sound start) begins_sound n (index_path host writer) h.bytes h.there) in
      let same : r.0 ≡ items.now = some_room r.0 items.now (slice_get begins_sound.shape.tree.rooms n) r.1 items.there in
      let file : file_at room (index_path host writer) ≡ Some h.bytes = sym (items.files (Index host writer)) ∙ ap (λ x. file_at x (index_path host writer)) (sym same) ∙ r.2 in
      (t.drained n room at named).hosts host writer (inl (h.bytes, record { is_item = h.is_item; there = file }))

  module _ (events : List Event) (lawful : IsLawful start events) (quiet : StaysQuiet (mounted_there t.sound start) (moment_after (mounted_there t.sound start) events) n) where
    abbrev end : Moment
    end = moment_after (mounted_there t.sound start) events

    end_sound : IsSoundAt end
    end_sound = sound_after (mounted_there t.sound start) events lawful begins_sound

    -- ---- one writer of the cut

    none_issued : (writer : ℕ) (fits : writer < 2 ^ 64) (w : IsWriter room writer (t.sound.issued n writer)) → w.landed ≡ length (t.sound.issued n writer) → (found : Option (List ℕ)) → file_at room (index_path w.host writer) ≡ found → MatchOption found (w.landed ≡ 0) (IsDropping writer (t.sound.issued n writer) w.landed (length (log_bytes room w.host writer)))
        → (host count : ℕ) → Stood end (dropping_in n host writer) → count ≤ length (t.sound.issued n writer) → count ≤ landed source (dropping_in number host writer)
    none_issued writer fits w all None e none host count stood few = omega (arith, few, all, none)
    none_issued writer fits w all (Some bytes) e dropping host count stood few =
        let item : HasItem room (Index w.host writer) bytes = record { is_item = is_index w.host writer w.host_fits fits; there = e } in
        let yet : Stood end (dropping_in n w.host writer) = stood_grows (mounted_there t.sound start) end (dropping_in n w.host writer) (grows_after (mounted_there t.sound start) events lawful begins_sound) (stood_then w.host writer bytes item) in
        let same : w.host ≡ host = one_host_there end end_sound n w.host host writer yet stood in
        let most : w.landed ≤ landed source (dropping_in number w.host writer) = few_landed source s number room writer (t.sound.issued n writer) (t.drained n room at named) w bytes item in
        subst (λ h. count ≤ landed source (dropping_in number h writer)) same (omega (arith, few, all, most))

    counted : (host writer count : ℕ) → Stood end (dropping_in n host writer) → count ≤ length (t.sound.issued n writer) → count ≤ landed source (dropping_in number host writer)
    counted host writer count stood few =
        let fits = stood.is_item.widths.1 in
        let w = (t.sound.rooms n room at).writers writer fits in
        none_issued writer fits w (t.sound.all_landed n room at writer fits) (file_at room (index_path w.host writer)) refl w.index host count stood few

    issued_now : (g : Gathered) → g.dropping.room ≡ n → issued_by end g.dropping ≡ t.sound.issued n g.dropping.writer
    issued_now g of = ap (λ k. end.issued k g.dropping.writer) of ∙ quiet.writes g.dropping.writer

    same_writes : (first : Moment) (g : Gathered) → g.dropping.room ≡ n → IsPrefixOf first end g → take g.count (issued_by end g.dropping) ≡ take g.count (source.issued number g.dropping.writer)
    same_writes first g of p =
        let more = t.first n room at named g.dropping.writer in
        ap (λ ws. take g.count ws) (issued_now g of)
        ∙ sym (ap (λ ws. take g.count ws) more.1 ∙ take-append-le g.count (t.sound.issued n g.dropping.writer) more.0 (omega (arith, p.were_issued, ap length (issued_now g of))))

    -- what was read of the writer there is what the source has of it, no less than what had landed at some moment
    pub prefix_there : (first lower : Moment) (g : Gathered) → g.dropping.room ≡ n → Stood source (dropping_in number g.dropping.host g.dropping.writer) → landed lower (dropping_in number g.dropping.host g.dropping.writer) ≤ g.count → IsPrefixOf first end g
        → IsPrefixOf lower source (record g { dropping = dropping_in number g.dropping.host g.dropping.writer })
    prefix_there first lower g of stood least p =
        let most : g.count ≤ landed source (dropping_in number g.dropping.host g.dropping.writer) =
        counted g.dropping.host g.dropping.writer g.count (subst (λ k. Stood end (dropping_in k g.dropping.host g.dropping.writer)) of p.stands) (omega (arith, p.were_issued, ap length (issued_now g of))) in
        record {
          least = least;
          most = most;
          were_issued = omega (arith, most, landed_whole source s (dropping_in number g.dropping.host g.dropping.writer) stood.is_item);
          stands = stood;
          entries = p.entries
              ∙ ap (drop g.covered) (sym (entries_take g.count (issued_by end g.dropping)) ∙ ap entries_in (same_writes first g of p) ∙ entries_take g.count (source.issued number g.dropping.writer));
        }

    -- ---- the cut

    all_writes : (first : Moment) (cut : List Gathered) → WritersRise n cut → IsAdmissible first end cut → writes_in end cut ≡ writes_in source (cut_there number cut)
    all_writes first [] rise a = refl
    all_writes first (g ∷ cut) rise a = ap (λ ws. ws ++ writes_in end cut) (same_writes first g rise.0 a.0) ∙ ap (λ ws. take g.count (source.issued number g.dropping.writer) ++ ws) (all_writes first cut rise.2 a.1)

    all_landed : (first : Moment) (cut : List Gathered) → WritersRise n cut → IsAdmissible first end cut → AllByRecursion (λ (g : Gathered). g.count ≤ landed source g.dropping) (cut_there number cut)
    all_landed first [] rise a = tt
    all_landed first (g ∷ cut) rise a = (
      counted g.dropping.host g.dropping.writer g.count (subst (λ k. Stood end (dropping_in k g.dropping.host g.dropping.writer)) rise.0 a.0.stands) (omega (arith, a.0.were_issued, ap length (issued_now g rise.0))),
      all_landed first cut rise.2 a.1,
    )

    all_truncates : (truncs : List Truncate) → AllByRecursion (λ (x : Truncate). HadTrunc end n x.stamp x.size) truncs → AllByRecursion (λ (x : Truncate). HadTrunc source number x.stamp x.size) truncs
    all_truncates [] h = tt
    all_truncates (x ∷ truncs) h = (truncates_then x.stamp x.size (quiet.truncates x.stamp x.size h.0), all_truncates truncs h.1)

    pub seen_there : (first : Moment) (cut : List Gathered) (truncs : List Truncate) → HasView first end n cut truncs → IsOfSource source number end cut truncs
    seen_there first cut truncs v = record {
      same = ap (λ ws. plain (map change_of ws ++ map cut_off truncs)) (all_writes first cut v.rise v.admissible);
      landed = All-from_recursion (λ (g : Gathered). g.count ≤ landed source g.dropping) (cut_there number cut) (all_landed first cut v.rise v.admissible);
      truncates = All-from_recursion (λ (x : Truncate). HadTrunc source number x.stamp x.size) truncs (all_truncates truncs (recursion_from_All (λ (x : Truncate). HadTrunc end n x.stamp x.size) truncs v.all_truncs.there));
    }

-- Writes that are kept stay, in the same mount and in later ones, and each later reader's cut has them.
use Rattle.std.proofs.Common.{◌≡◌, ℕ, zero, suc, ◌≤◌, inl, inr, List, [], ◌∷◌, ◌++◌, length, take, Some, refl, sym, ap, ◌∙◌, subst, arith}
use Rattle.std.specs.Prelude.{slice_get}
use Rattle.std.specs.List.{All, AllByRecursion}
use Rattle.std.proofs.lemmas.List.{length-take-le}
use Rattle.std.proofs.lemmas.List.Elements.{All-from_recursion}
use Rattle.plfs_types.specs.declared.entries.Entry.{Entry}
use Rattle.plfs_types.specs.declared.entries.Trunc.{Trunc}
use Rattle.container_layout.specs.declared.items.Item.TheVariants.{Index}
use Rattle.store_api.specs.declared.tree.Room.{Room}
use Rattle.store_api.specs.declared.tree.Tree.{Tree}
use Rattle.store_api.specs.Loss.{Loses}
use Rattle.store_laws.proofs.Facts.{have_lost}
use Rattle.mount_model.specs.Paths.{index_path}
use Rattle.mount_model.specs.History.{Event, told_tree_after}
use Rattle.mount_model.specs.State.{State}
use Rattle.mount_losses.proofs.Losing.{WriterLost, writer_lost}
use Rattle.mount_sound.specs.Dropping.{IsWriter}
use Rattle.mount_sound.specs.Growing.{IsMore}
use Rattle.mount_sound.specs.Items.{HasItem}
use Rattle.mount_sound.specs.Keeping.{kept_in}
use Rattle.mount_sound.specs.Ledger.{AreWritesOf, Ledger, Written, entries_in}
use Rattle.mount_sound.specs.There.{landed_entries}
use Rattle.mount_sound.specs.Owed.{IsLawful}
use Rattle.mount_sound.specs.Sound.{IsSoundFor}
use Rattle.mount_sound.proofs.Facts.{kept_landed, lawful_first, mounted_keeps, mounted_sound, one_tree, same_host, writer_told, writes_take}
use Rattle.reader_laws.specs.Gathering.{Gathered, IsPrefixOf}
use Rattle.plfs_types.specs.Places.{IsAmong}
use Rattle.reader_laws.specs.Moments.{Dropping, Grows, HadItem, IsSoundAt, Moment, Stood, file_in_room, file_told, issued_by, landed, landed_by, moment_after}
use Rattle.reader_laws.specs.GatheringOpening.{HasView}
use Rattle.reader_laws.specs.View.{writes_in}
use Rattle.reader_laws.proofs.Gathered.Facts.{among_left, among_right, any_found, follows, found_any, grows_after, in_a_room, in_tree, is_among, landed_at, legal_rest, length-entries, prefix_of, sound_after}
use Rattle.index_reader.specs.declared.opened.OpenReader.{OpenReader}
use Rattle.reader_laws.specs.Opened.{HasOpenedIn}
use Rattle.plain_file.proofs.Facts.{Among}
use Rattle.packing_laws.specs.Lasting.{HoldsWrites, IsLater, IsLeft, KeepsSome, KeepsWrites, Remounts}
use Rattle.packing_laws.proofs.Kept.SameWrites.{more_more, more_taken, same_landed}

-- what a law says: what is kept stays kept
abbrev pub KeptLaw : Type 0
KeptLaw = (before : Ledger) (start : State) (events : List Event) → IsLawful start events → IsSoundFor before start
    → (tree after : Tree) → start.store.tree ≡ Some tree → told_tree_after start events ≡ Some after
    → (number : ℕ) (room new : Room) → slice_get tree.rooms number ≡ Some room → slice_get after.rooms number ≡ Some new
    → (host writer : ℕ) (bytes : List ℕ) → HasItem room (Index host writer) bytes → kept_in room host writer ≤ kept_in new host writer

few_taken : (n : ℕ) (writes : List Written) → length (take n writes) ≤ n
few_taken zero [] = omega arith
few_taken zero (w ∷ writes) = omega arith
few_taken (suc n) [] = omega arith
few_taken (suc n) (w ∷ writes) = omega (arith, few_taken n writes)

-- ---- in the same mount

-- its index dropping stood
stood_then : (m : Moment) (d : Dropping) (writes : List Written) → KeepsSome m d writes → Stood m d
stood_then m d writes k = record {
  is_item = k.stands.is_item;
  bytes = k.bytes;
  there = ap (λ o. file_told o d.room (index_path d.host d.writer)) k.told ∙ ap (λ o. file_in_room o (index_path d.host d.writer)) k.there ∙ k.stands.there;
}

some_later : KeptLaw → (m : Moment) (events : List Event) (d : Dropping) (writes : List Written) → IsSoundAt m → IsLawful m.state events → KeepsSome m d writes → KeepsSome (moment_after m events) d writes
some_later law m events d writes sound lawful k =
    let end : Moment = moment_after m events in
    let grows : Grows m end = grows_after m events lawful sound in
    let then : IsSoundAt end = sound_after m events lawful sound in
    let had : HadItem end d.room (Index d.host d.writer) = grows.stands d.room (Index d.host d.writer) tt (stood_then m d writes k) in
    let r = in_a_room (slice_get then.shape.tree.rooms d.room) (index_path d.host d.writer) had.bytes (in_tree end then d.room (index_path d.host d.writer) had.bytes had.there) in
    let now : told_tree_after m.state events ≡ Some then.shape.tree = ap (λ (s : State). s.store.tree) (sym (follows m events).0) ∙ then.shape.told in
    record {
      first = more_more writes (issued_by m d) (issued_by end d) k.first (grows.issued d.room d.writer);
      tree = then.shape.tree;
      told = then.shape.told;
      room = r.0;
      there = r.1;
      bytes = had.bytes;
      stands = record { is_item = had.is_item; there = r.2 };
      kept = omega (arith, k.kept, law m.issued m.state events lawful sound k.tree then.shape.tree k.told now d.room k.room r.0 k.there r.1 d.host d.writer k.bytes k.stands);
    }

pub keeps_later : KeptLaw → (m : Moment) (events : List Event) (d : Dropping) (writes : List Written) → IsSoundAt m → IsLawful m.state events → KeepsWrites m d writes → KeepsWrites (moment_after m events) d writes
keeps_later law m events d writes sound lawful (inl none) = inl none
keeps_later law m events d writes sound lawful (inr k) = inr (some_later law m events d writes sound lawful k)

-- ---- in the tree that was left

-- the room of the tree that was left has the writes still
record LeftIn (left : Tree) (d : Dropping) (writes : List Written) : Type 0 where
  pub room : Room
  pub there : slice_get left.rooms d.room ≡ Some room
  pub bytes : List ℕ
  pub stands : HasItem room (Index d.host d.writer) bytes
  pub kept : length writes ≤ kept_in room d.host d.writer
  pub first : (all : List Written) (w : IsWriter room d.writer all) → AreWritesOf d.writer all → w.landed ≡ length all → IsMore writes all

-- what the tree holds of the writer
its_writer : (m : Moment) (sound : IsSoundAt m) (tree : Tree) (d : Dropping) (room : Room) → m.state.store.tree ≡ Some tree → slice_get tree.rooms d.room ≡ Some room → (bytes : List ℕ) → HasItem room (Index d.host d.writer) bytes → IsWriter room d.writer (issued_by m d)
its_writer m sound tree d room told there bytes item =
    let same : tree ≡ sound.shape.tree = one_tree tree sound.shape.tree m.state.store.tree told sound.shape.told in
    (sound.sound.rooms d.room room (ap (λ (t : Tree). slice_get t.rooms d.room) (sym same) ∙ there)).writers d.writer item.is_item.widths.1

left_same : (m : Moment) (d : Dropping) (writes : List Written) → IsSoundAt m → (k : KeepsSome m d writes) → LeftIn k.tree d writes
left_same m d writes sound k =
    let w : IsWriter k.room d.writer (issued_by m d) = its_writer m sound k.tree d k.room k.told k.there k.bytes k.stands in
    let of : AreWritesOf d.writer (issued_by m d) = sound.sound.writes d.room d.writer in
    let few : length writes ≤ w.landed = omega (arith, k.kept, kept_landed k.room d.host d.writer (issued_by m d) w of k.bytes k.stands) in
    record {
      room = k.room;
      there = k.there;
      bytes = k.bytes;
      stands = k.stands;
      kept = k.kept;
      first = λ all v of_all whole.
          let same : all ≡ take w.landed (issued_by m d) = same_landed k.room d.host d.writer k.bytes (issued_by m d) all w v of of_all k.stands whole in
          subst (λ ws. IsMore writes ws) (sym same) (more_taken w.landed writes (issued_by m d) k.first few);
    }

left_lost : (m : Moment) (d : Dropping) (writes : List Written) (left : Tree) → IsSoundAt m → (k : KeepsSome m d writes) → Loses k.tree left → LeftIn left d writes
left_lost m d writes left sound k loses =
    let w : IsWriter k.room d.writer (issued_by m d) = its_writer m sound k.tree d k.room k.told k.there k.bytes k.stands in
    let of : AreWritesOf d.writer (issued_by m d) = sound.sound.writes d.room d.writer in
    let r = (have_lost k.tree left loses).rooms d.room k.room k.there in
    let l : WriterLost k.room r.0 d.writer (issued_by m d) = writer_lost k.room r.0 d.writer (issued_by m d) w of r.2 in
    let e = l.entries d.host k.bytes k.stands in
    let cut : List Written = take l.count (issued_by m d) in
    let of_cut : AreWritesOf d.writer cut = writes_take l.count d.writer (issued_by m d) of in
    let kept : length writes ≤ kept_in r.0 d.host d.writer = omega (arith, k.kept, e.no_fewer) in
    let few : length writes ≤ length cut = omega (arith, kept, kept_landed r.0 d.host d.writer cut l.of of_cut e.content e.stands, l.all) in
    let short : length cut ≤ l.count = few_taken l.count (issued_by m d) in
    record {
      room = r.0;
      there = r.1;
      bytes = e.content;
      stands = e.stands;
      kept = kept;
      first = λ all v of_all whole.
          let same : all ≡ take l.of.landed cut = same_landed r.0 d.host d.writer e.content cut all l.of v of_cut of_all e.stands whole in
          let first : IsMore writes cut = more_taken l.count writes (issued_by m d) k.first (omega (arith, few, short)) in
          subst (λ ws. IsMore writes ws) (sym same) (more_taken l.of.landed writes cut first (omega (arith, few, l.all)));
    }

left_in : (m : Moment) (d : Dropping) (writes : List Written) (left : Tree) → IsSoundAt m → (k : KeepsSome m d writes) → IsLeft k.tree left → LeftIn left d writes
left_in m d writes left sound k (inl same) = subst (λ t. LeftIn t d writes) (sym same) (left_same m d writes sound k)
left_in m d writes left sound k (inr loses) = left_lost m d writes left sound k loses

-- ---- in the next mount

pub next_sound : (m next : Moment) (r : Remounts m next) → IsSoundFor next.issued next.state
next_sound m next r =
    let sound : IsSoundFor r.sound.issued next.state = mounted_sound r.serial r.times r.opened next.state r.left r.mounted r.opened_is r.sound in
    subst (λ l. IsSoundFor l next.state) (λ i number writer. sym (r.issued number writer) i) sound

some_next : (m next : Moment) (d : Dropping) (writes : List Written) (r : Remounts m next) → IsSoundAt (moment_after m r.events) → KeepsSome (moment_after m r.events) d writes → KeepsSome next d writes
some_next m next d writes r sound k =
    let end : Moment = moment_after m r.events in
    let then : IsSoundAt next = next_sound m next r in
    let same : k.tree ≡ r.tree = one_tree k.tree r.tree end.state.store.tree k.told r.told in
    let l : LeftIn r.left d writes = left_in end d writes r.left sound k (subst (λ t. IsLeft t r.left) (sym same) r.is_left) in
    let fits = l.stands.is_item.widths.1 in
    let first : IsMore writes (r.sound.issued d.room d.writer) =
    l.first (r.sound.issued d.room d.writer) ((r.sound.rooms d.room l.room l.there).writers d.writer fits) (r.sound.writes d.room d.writer) (r.sound.all_landed d.room l.room l.there d.writer fits) in
    record {
      first = subst (λ ws. IsMore writes ws) (sym (r.issued d.room d.writer)) first;
      tree = then.shape.tree;
      told = then.shape.told;
      room = l.room;
      there = mounted_keeps r.serial r.times r.opened next.state r.left then.shape.tree r.mounted r.opened_is r.sound then.shape.told d.room l.room l.there d.host d.writer l.bytes l.stands;
      bytes = l.bytes;
      stands = l.stands;
      kept = l.kept;
    }

keeps_next : KeptLaw → (m next : Moment) (d : Dropping) (writes : List Written) → IsSoundAt m → Remounts m next → KeepsWrites m d writes → KeepsWrites next d writes
keeps_next law m next d writes sound r (inl none) = inl none
keeps_next law m next d writes sound r (inr k) = inr (some_next m next d writes r (sound_after m r.events r.lawful sound) (some_later law m r.events d writes sound r.lawful k))

pub keeps_mounts : KeptLaw → (mounts : ℕ) (m now : Moment) (d : Dropping) (writes : List Written) → IsSoundAt m → IsLater mounts m now → KeepsWrites m d writes → IsSoundAt now × KeepsWrites now d writes
keeps_mounts law zero m now d writes sound (events, lawful, is) k =
    (subst (λ x. IsSoundAt x) (sym is) (sound_after m events lawful sound), subst (λ x. KeepsWrites x d writes) (sym is) (keeps_later law m events d writes sound lawful k))
keeps_mounts law (suc mounts) m now d writes sound (next, r, later) k = keeps_mounts law mounts next now d writes (next_sound m next r) later (keeps_next law m next d writes sound r k)

-- ---- a reader that opens then

among_first : (writes all : List Written) (w : Written) → IsMore writes all → Among w writes → Among w all
among_first writes all w more a = subst (λ z. Among w z) (sym more.1) (among_left w writes more.0 a)

in_cut : (end : Moment) (cut : List Gathered) (g : Gathered) (w : Written) → Among g cut → Among w (take g.count (issued_by end g.dropping)) → Among w (writes_in end cut)
in_cut end [] g w a b = absurd a
in_cut end (h ∷ cut) g w (inl here) b = among_left w (take h.count (issued_by end h.dropping)) (writes_in end cut) (subst (λ (x : Gathered). Among w (take x.count (issued_by end x.dropping))) here b)
in_cut end (h ∷ cut) g w (inr later) b = among_right w (take h.count (issued_by end h.dropping)) (writes_in end cut) (in_cut end cut g w later b)

all_among : (P : Written → Type 0) (writes : List Written) → ((w : Written) → Among w writes → P w) → AllByRecursion P writes
all_among P [] f = tt
all_among P (w ∷ writes) f = (f w (inl refl), all_among P writes (λ v a. f v (inr a)))

-- as many have landed as are kept
kept_landed_then : (m : Moment) (d : Dropping) (writes : List Written) → IsSoundAt m → KeepsSome m d writes → length writes ≤ landed m d
kept_landed_then m d writes sound k =
    let w : IsWriter k.room d.writer (issued_by m d) = its_writer m sound k.tree d k.room k.told k.there k.bytes k.stands in
    let of : AreWritesOf d.writer (issued_by m d) = sound.sound.writes d.room d.writer in
    let same : k.tree ≡ sound.shape.tree = one_tree k.tree sound.shape.tree m.state.store.tree k.told sound.shape.told in
    let told : landed_by m d ≡ take w.landed (entries_in (issued_by m d)) =
    landed_at m sound d k.room (ap (λ (t : Tree). slice_get t.rooms d.room) (sym same) ∙ k.there)
    ∙ ap (λ h. landed_entries k.room h d.writer) (same_host k.room d.host d.writer (issued_by m d) w of k.bytes k.stands)
    ∙ writer_told k.room d.writer (issued_by m d) w k.stands.is_item.widths.1 of in
    let long : length (take w.landed (entries_in (issued_by m d))) ≡ w.landed = length-take-le w.landed (entries_in (issued_by m d)) (omega (arith, w.within, length-entries (issued_by m d))) in
    omega (arith, k.kept, kept_landed k.room d.host d.writer (issued_by m d) w of k.bytes k.stands, ap (λ (es : List Entry). length es) told, long)

held_some : (start end : Moment) (room : ℕ) (cut : List Gathered) (truncs : List Trunc) (d : Dropping) (writes : List Written) → IsSoundAt start → Grows start end → HasView start end room cut truncs → d.room ≡ room → KeepsSome start d writes → HoldsWrites end cut d writes
held_some start end room cut truncs d writes sound grows view its k =
    let found = any_found (λ (x : Gathered). x.dropping ≡ d) cut (view.complete d its (stood_then start d writes k)) in
    let g : Gathered = found.0 in
    let p : IsPrefixOf start end g = prefix_of start end cut g view.admissible found.1 in
    let count : length writes ≤ g.count = omega (arith, kept_landed_then start d writes sound k, p.least, ap (λ x. landed start x) found.2) in
    let first : IsMore writes (issued_by end g.dropping) =
    subst (λ x. IsMore writes (issued_by end x)) (sym found.2) (more_more writes (issued_by start d) (issued_by end d) k.first (grows.issued d.room d.writer)) in
    let front : IsMore writes (take g.count (issued_by end g.dropping)) = more_taken g.count writes (issued_by end g.dropping) first count in
    record {
      each = All-from_recursion (λ (w : Written). IsAmong w (writes_in end cut)) writes
          (all_among (λ (w : Written). IsAmong w (writes_in end cut)) writes (λ w a. is_among (writes_in end cut) w (in_cut end cut g w found.1 (among_first writes (take g.count (issued_by end g.dropping)) w front a))));
      counted = λ some. found_any (λ (x : Gathered). (x.dropping ≡ d) × (length writes ≤ x.count)) cut g found.1 (found.2, count);
    }

held : (start end : Moment) (room : ℕ) (cut : List Gathered) (truncs : List Trunc) (d : Dropping) (writes : List Written) → IsSoundAt start → Grows start end → HasView start end room cut truncs → d.room ≡ room → KeepsWrites start d writes → HoldsWrites end cut d writes
held start end room cut truncs d writes sound grows view its (inl none) = record {
  each = subst (λ ws. All (λ (w : Written). IsAmong w (writes_in end cut)) ws) (sym none) (All-from_recursion (λ (w : Written). IsAmong w (writes_in end cut)) [] tt);
  counted = λ some. absurd (omega (arith, some, ap (λ (ws : List Written). length ws) none));
}
held start end room cut truncs d writes sound grows view its (inr k) = held_some start end room cut truncs d writes sound grows view its k

-- so it is of each reader that opens later in this mount
pub opened_holds : KeptLaw → (caller : ℕ) (m : Moment) (events : List Event) (reader : OpenReader) (d : Dropping) (writes : List Written) → IsSoundAt m → IsLawful m.state events → (o : HasOpenedIn caller m events reader) → d.room ≡ reader.room → KeepsWrites m d writes
    → HoldsWrites (moment_after (moment_after m o.before) (o.first ∷ o.more)) o.cut d writes
opened_holds law caller m events reader d writes sound lawful o its k =
    let opening : List Event = o.first ∷ o.more in
    let all : IsLawful m.state (o.before ++ ((opening ++ o.listing ∷ o.later))) = subst (λ (es : List Event). IsLawful m.state es) o.split lawful in
    let first : IsLawful m.state o.before = lawful_first m.state o.before (opening ++ o.listing ∷ o.later) all in
    let rest : IsLawful (moment_after m o.before).state (opening ++ o.listing ∷ o.later) = legal_rest m o.before (opening ++ o.listing ∷ o.later) all in
    let here : IsLawful (moment_after m o.before).state opening = lawful_first (moment_after m o.before).state opening (o.listing ∷ o.later) rest in
    let sound_first : IsSoundAt (moment_after m o.before) = sound_after m o.before first sound in
    held (moment_after m o.before) (moment_after (moment_after m o.before) opening) reader.room o.cut reader.truncs d writes sound_first
    (grows_after (moment_after m o.before) opening here sound_first) o.has.view its (keeps_later law m o.before d writes sound first k)

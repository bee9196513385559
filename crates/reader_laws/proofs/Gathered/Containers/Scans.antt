-- What a scan finds stood, one dropping a writer.
use Rattle.std.proofs.Common.{◌≡◌, ℕ, zero, suc, ◌+◌, ◌<◌, ◌%◌, List, [], ◌∷◌, ◌++◌, false, Some, refl, ap, sym, ◌∙◌, inl, inr, subst, arith}
use Rattle.std.specs.Prelude.{◌≢◌, slice_get}
use Rattle.std.specs.List.{AllByRecursion, range_with_len}
use Rattle.std.proofs.lemmas.List.Elements.{All-from_recursion}
use Rattle.plfs_types.specs.declared.names.Path.{Path}
use Rattle.container_layout.specs.Paths.{hostdir_of}
use Rattle.store_laws.specs.Differ.{is_listed, NamesDiffer}
use Rattle.store_laws.specs.Files.{file_at}
use Rattle.store_laws.proofs.Facts.{ordered_differ}
use Rattle.plain_file.proofs.Facts.{Among, All-Among}
use Rattle.mount_model.specs.Paths.{Name, index_path}
use Rattle.reader_laws.specs.Moments.{Moment, IsSoundAt, file_in_room, file_told, Dropping, Stood, Grows}
use Rattle.reader_laws.specs.Seen.{Asked, IsSeenCall, IsSeen}
use Rattle.reader_laws.specs.GatheringListing.{IsIndexName, AreDroppingsOf, ListsHostdir, ShowsHostdir, ListsHostdirs, IsScan, WritersDiffer, AreFound}
use Rattle.container_layout.specs.Paths.{hostdirs}
use Rattle.reader_laws.proofs.Gathered.Moments.Seeing.{seen_grows, seen_split}
use Rattle.reader_laws.proofs.Gathered.Containers.Looking.{folder_listed}
use Rattle.reader_laws.proofs.Gathered.Logs.Fronts.{stands}
use Rattle.reader_laws.proofs.Gathered.Moments.Growing.{stood_grows}
use Rattle.reader_laws.proofs.Gathered.Containers.Replied.{answers_as}
use Rattle.reader_laws.proofs.Gathered.Containers.Members.{is_among}
use Rattle.reader_laws.proofs.Gathered.Containers.Entries.{among_listed, named_file, not_top}
use Rattle.reader_laws.proofs.Gathered.Containers.Listings.{dropping_eq, scan_found}
use Rattle.reader_laws.proofs.Gathered.OpenReaders.Viewing.{All-append, All-weaker}

-- ---------- droppings and their names

-- its name is among these
abbrev IsNamedIn : ℕ → ℕ → List Name → Dropping → Type 0
IsNamedIn room k names d = (name : Name) × Among name names × IsIndexName room k name d

named_more : (room k : ℕ) (name : Name) (names : List Name) (ds : List Dropping) → AllByRecursion (IsNamedIn room k names) ds → AllByRecursion (IsNamedIn room k (name ∷ names)) ds
named_more room k name names ds all = All-weaker (IsNamedIn room k names) (IsNamedIn room k (name ∷ names)) ds (λ d n. (n.0, inr n.1, n.2)) all

-- each dropping that is found has its name
pub all_named : (room k : ℕ) (names : List Name) (ds : List Dropping) → AreDroppingsOf room k names ds → AllByRecursion (IsNamedIn room k names) ds
all_named room k [] ds none = subst (AllByRecursion (IsNamedIn room k [])) (sym none) tt
all_named room k (name ∷ names) ds (inl (d, rest, is, split, more)) = subst (AllByRecursion (IsNamedIn room k (name ∷ names))) (sym split) ((name, inl refl, is), named_more room k name names rest (all_named room k names rest more))
all_named room k (name ∷ names) ds (inr (none, more)) = named_more room k name names ds (all_named room k names ds more)

-- no two of the droppings are one
abbrev DroppingsDiffer : List Dropping → Type 0
DroppingsDiffer [] = Unit {0}
DroppingsDiffer (d ∷ ds) = AllByRecursion (λ (e : Dropping). e ≢ d) ds × DroppingsDiffer ds

-- the name of a dropping
its_name : (room k : ℕ) (name : Name) (d : Dropping) → IsIndexName room k name d → name ≡ (index_path d.host d.writer).file
its_name room k name d is = ap (λ (p : Path). p.file) is.named.printed

not_listed : (name : Name) (names : List Name) → is_listed name names ≡ false → Among name names → ⊥
not_listed name names none a = let listed = among_listed name names a in absurd (cc)

other_names : (room k : ℕ) (name : Name) (names : List Name) (d : Dropping) → is_listed name names ≡ false → IsIndexName room k name d → (e : Dropping) → IsNamedIn room k names e → e ≢ d
other_names room k name names d none is e (other, a, its) same =
    let one : other ≡ name = its_name room k other e its ∙ ap (λ (x : Dropping). (index_path x.host x.writer).file) same ∙ sym (its_name room k name d is) in
    not_listed name names none (subst (λ n. Among n names) one a)

-- names that differ are of droppings that differ
folder_differs : (room k : ℕ) (names : List Name) (ds : List Dropping) → NamesDiffer names → AreDroppingsOf room k names ds → DroppingsDiffer ds
folder_differs room k [] ds differ none = subst DroppingsDiffer (sym none) tt
folder_differs room k (name ∷ names) ds differ (inl (d, rest, is, split, more)) =
    subst DroppingsDiffer (sym split) (All-weaker (IsNamedIn room k names) (λ (e : Dropping). e ≢ d) rest (λ e its. other_names room k name names d differ.0 is e its) (all_named room k names rest more), folder_differs room k names rest differ.1 more)
folder_differs room k (name ∷ names) ds differ (inr (none, more)) = folder_differs room k names ds differ.1 more

-- ---------- one folder

-- a dropping of the room, in a folder of this number, that stood
pub record IsFoundIn (m : Moment) (room k : ℕ) (d : Dropping) : Type 0 where
  pub its_room : d.room ≡ room
  pub number : d.host % 32 ≡ k
  pub stood : Stood m d

found_later : (a b : Moment) (room k : ℕ) (d : Dropping) → Grows a b → IsFoundIn a room k d → IsFoundIn b room k d
found_later a b room k d g f = record { its_room = f.its_room; number = f.number; stood = stood_grows a b d g f.stood }

-- what was listed of one folder
pub record FoundOne (m : Moment) (room k : ℕ) (ds : List Dropping) : Type 0 where
  pub all : AllByRecursion (IsFoundIn m room k) ds
  pub differ : DroppingsDiffer ds

one_folder : (caller room k : ℕ) (start next : Moment) (asked : Asked) (ds : List Dropping) → IsSeenCall caller start asked next → ListsHostdir room k ds asked → FoundOne next room k ds
one_folder caller room k start next asked ds call lists =
    let m : Moment = call.before in
    let l = folder_listed m call.sound caller room (hostdir_of k) lists.names next.state (answers_as m.state caller asked.ask _ asked.reply _ next.state lists.lists.call lists.lists.reply refl call.answers) in
    record {
      all = All-weaker (IsNamedIn room k lists.names) (IsFoundIn next room k) ds
          (λ d its.
          let f = named_file l.room (hostdir_of k) its.0 lists.names (not_top k) l.entries its.1 in
          let path : Path = index_path d.host d.writer in
          let here : file_at l.room path ≡ Some f.0 = subst (λ (p : Path). file_at l.room p ≡ Some f.0) its.2.named.printed f.1 in
          let there = ap (λ o. file_told o d.room path) call.sound.shape.told ∙ ap (λ n. file_in_room (slice_get call.sound.shape.tree.rooms n) path) its.2.room_is ∙ ap (λ o. file_in_room o path) l.has_room ∙ here in
          record { its_room = its.2.room_is; number = its.2.folder; stood = stood_grows m next d call.goes (record { is_item = its.2.named.is_item; bytes = f.0; there = there }) })
          (all_named room k lists.names ds lists.found);
      differ = folder_differs room k lists.names ds (ordered_differ lists.names l.entries.ordered) lists.found;
    }

-- ---------- all folders

-- each number is below those after it
abbrev Rises : List ℕ → Type 0
Rises [] = Unit {0}
Rises (k ∷ ks) = AllByRecursion (λ l. k < l) ks × Rises ks

above : (from n k : ℕ) → k < from → AllByRecursion (λ l. k < l) (range_with_len from n)
above from zero k low = tt
above from (suc n) k low = (low, above (from + 1) n k (omega arith))

range_rises : (from n : ℕ) → Rises (range_with_len from n)
range_rises from zero = tt
range_rises from (suc n) = (above (from + 1) n from (omega arith), range_rises (from + 1) n)

-- a dropping in a folder of one of these numbers
abbrev InSome : Moment → ℕ → List ℕ → Dropping → Type 0
InSome m room ks d = (k : ℕ) × Among k ks × IsFoundIn m room k d

differ_append : (xs ys : List Dropping) → DroppingsDiffer xs → DroppingsDiffer ys → AllByRecursion (λ (d : Dropping). AllByRecursion (λ (e : Dropping). e ≢ d) ys) xs → DroppingsDiffer (xs ++ ys)
differ_append [] ys a b c = b
differ_append (x ∷ xs) ys a b c = (All-append (λ (e : Dropping). e ≢ x) xs ys a.0 c.0, differ_append xs ys a.1 b c.1)

apart : (m : Moment) (room k l : ℕ) (d e : Dropping) → k < l → IsFoundIn m room k d → IsFoundIn m room l e → e ≢ d
apart m room k l d e less f g same = let one : e.host % 32 ≡ d.host % 32 = ap (λ (x : Dropping). x.host % 32) same in omega (arith, one, f.number, g.number, less)

-- what was listed of some folders
pub record FoundSome (m : Moment) (room : ℕ) (ks : List ℕ) (ds : List Dropping) : Type 0 where
  pub all : AllByRecursion (InSome m room ks) ds
  pub differ : DroppingsDiffer ds

-- what one folder shows
folder_shows : (caller room k : ℕ) (start end : Moment) (top : List Name) (asked : List Asked) (ds : List Dropping) → IsSeen caller start asked end → ShowsHostdir room top k asked ds → FoundOne end room k ds
folder_shows caller room k start end top asked ds seen (inl (absent, none, nothing)) = subst (FoundOne end room k) (sym nothing) (record { all = tt; differ = tt })
folder_shows caller room k start end top asked ds seen (inr (there, (call, only, lists))) =
    let s : IsSeen caller start (call ∷ []) end = subst (λ l. IsSeen caller start l end) only seen in
    let one = one_folder caller room k start s.0 call ds s.1 lists in
    record { all = All-weaker (IsFoundIn s.0 room k) (IsFoundIn end room k) ds (λ d i. found_later s.0 end room k d s.2 i) one.all; differ = one.differ }

all_folders : (caller room : ℕ) (start end : Moment) (top : List Name) (ks : List ℕ) (asked : List Asked) (ds : List Dropping) → IsSeen caller start asked end → Rises ks → ListsHostdirs room top ks asked ds → FoundSome end room ks ds
all_folders caller room start end top [] asked ds seen rises (none, empty) = subst (FoundSome end room []) (sym empty) (record { all = tt; differ = tt })
all_folders caller room start end top (k ∷ ks) asked ds seen rises (mine, rest, here, others, calls, split, shows, more) =
    let s = seen_split caller start end mine rest (subst (λ l. IsSeen caller start l end) calls seen) in
    let one = folder_shows caller room k start s.0 top mine here s.1 shows in
    let f = all_folders caller room s.0 end top ks rest others s.2 rises.1 more in
    let goes : Grows s.0 end = seen_grows caller s.0 end rest s.2 in
    let here_found : AllByRecursion (IsFoundIn end room k) here = All-weaker (IsFoundIn s.0 room k) (IsFoundIn end room k) here (λ d i. found_later s.0 end room k d goes i) one.all in
    subst (FoundSome end room (k ∷ ks)) (sym split) (record {
      all = All-append (InSome end room (k ∷ ks)) here others
          (All-weaker (IsFoundIn end room k) (InSome end room (k ∷ ks)) here (λ d i. (k, inl refl, i)) here_found)
          (All-weaker (InSome end room ks) (InSome end room (k ∷ ks)) others (λ d i. (i.0, inr i.1, i.2)) f.all);
      differ = differ_append here others one.differ f.differ
          (All-weaker (IsFoundIn end room k) (λ (d : Dropping). AllByRecursion (λ (e : Dropping). e ≢ d) others) here
          (λ d i. All-weaker (InSome end room ks) (λ (e : Dropping). e ≢ d) others (λ e j. apart end room k j.0 d e (All-Among (λ l. k < l) ks j.0 rises.0 j.1) i j.2) f.all)
          here_found);
    })

-- ---------- one dropping a writer

-- two droppings of a writer in one room are one
one_dropping : (m : Moment) (s : IsSoundAt m) (d e : Dropping) → d.room ≡ e.room → d.writer ≡ e.writer → Stood m d → Stood m e → d ≡ e
one_dropping m s d e room writer f g =
    let a : Dropping = record { room = e.room; host = d.host; writer = e.writer } in
    let same : d ≡ a = dropping_eq d a room refl writer in
    let h : Stood m a = subst (Stood m) same f in
    let u = stands m s a h.bytes h.is_item h.there in
    let v = stands m s e g.bytes g.is_item g.there in
    let both : Some u.room ≡ Some v.room = sym u.there ∙ v.there in
    let one : u.room ≡ v.room = cc in
    let host : d.host ≡ e.host = v.writer.one_host d.host (inl (h.bytes, record { is_item = h.is_item; there = subst (λ r. file_at r (index_path d.host e.writer) ≡ Some h.bytes) one u.at })) ∙ sym v.host in
    dropping_eq d e room host writer

others_differ : (m : Moment) (s : IsSoundAt m) (room : ℕ) (d : Dropping) (es : List Dropping) → (d.room ≡ room) × Stood m d → AllByRecursion (λ (e : Dropping). (e.room ≡ room) × Stood m e) es → AllByRecursion (λ (e : Dropping). e ≢ d) es → AllByRecursion (λ (e : Dropping). e.writer ≢ d.writer) es
others_differ m s room d [] f all other = tt
others_differ m s room d (e ∷ es) f all other = (λ writer. other.0 (one_dropping m s e d (all.0.0 ∙ sym f.0) writer all.0.1 f.1), others_differ m s room d es f all.1 other.1)

writers_differ : (m : Moment) (s : IsSoundAt m) (room : ℕ) (ds : List Dropping) → AllByRecursion (λ (d : Dropping). (d.room ≡ room) × Stood m d) ds → DroppingsDiffer ds → WritersDiffer ds
writers_differ m s room [] all differ = tt
writers_differ m s room (d ∷ ds) all differ = (others_differ m s room d ds all.0 all.1 differ.0, writers_differ m s room ds all.1 differ.1)

-- ---------- the scan

-- A scan finds droppings that stand, one a writer, and misses none that stood before it.
pub scan_finds : (caller room : ℕ) (start end : Moment) (asked : List Asked) (ds : List Dropping) → IsSeen caller start asked end → IsSoundAt end → IsScan room ds asked → AreFound start end room ds
scan_finds caller room start end asked ds seen sound scan =
    let s : IsSeen caller start (scan.first ∷ scan.rest) end = subst (λ l. IsSeen caller start l end) scan.calls seen in
    let f = all_folders caller room s.0 end scan.top hostdirs scan.rest ds s.2 (range_rises 0 32) scan.hostdirs in
    let stood : AllByRecursion (λ (d : Dropping). (d.room ≡ room) × Stood end d) ds = All-weaker (InSome end room hostdirs) (λ (d : Dropping). (d.room ≡ room) × Stood end d) ds (λ d i. (i.2.its_room, i.2.stood)) f.all in
    record {
      stood = All-from_recursion (λ (d : Dropping). (d.room ≡ room) × Stood end d) ds stood;
      complete = λ d its there. is_among ds d (scan_found caller room start end asked ds d seen scan its there);
      differ = writers_differ end sound room ds stood f.differ;
    }

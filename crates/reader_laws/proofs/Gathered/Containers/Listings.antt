-- The scan of a container misses no dropping that was there before it.
use Rattle.std.proofs.Common.{◌≡◌, ℕ, zero, suc, ◌+◌, ◌<◌, ◌≤◌, ◌%◌, List, [], ◌∷◌, ◌++◌, get_or, true, Some, refl, ap, sym, ◌∙◌, inl, inr, subst, arith}
use Rattle.std.specs.Prelude.{slice_get, codes}
use Rattle.std.specs.Fmt.{decimal}
use Rattle.std.specs.List.{range_with_len}
use Rattle.std.proofs.lemmas.Bool.{cases_eq}
use Rattle.plfs_types.specs.declared.names.Path.{Path}
use Rattle.container_layout.specs.declared.items.Item.TheVariants.{Index}
use Rattle.container_layout.specs.Paths.{hostdir_of}
use Rattle.container_layout.proofs.Facts.{one_item, elsewhere}
use Rattle.store_api.specs.declared.tree.Room.{Room}
use Rattle.store_api.specs.declared.step.Answer.TheVariants.{Names}
use Rattle.store_api.specs.Room.{has_folder}
use Rattle.store_laws.specs.Files.{file_at}
use Rattle.mount_model.specs.declared.call.Call.TheVariants.{Look}
use Rattle.mount_model.specs.declared.call.Look.TheVariants.{Top, List as ListFolder}
use Rattle.mount_model.specs.declared.reply.Reply.TheVariants.{Looked}
use Rattle.mount_model.specs.Paths.{Name, index_path}
use Rattle.store_api.specs.Names.{marks_folder}
use Rattle.plain_file.proofs.Facts.{Among}
use Rattle.reader_laws.specs.Moments.{Moment, IsSoundAt, Dropping, IsNamed, Stood, Grows}
use Rattle.reader_laws.specs.Seen.{Asked, IsSeenCall, IsSeen}
use Rattle.reader_laws.specs.GatheringListing.{IsIndexName, AreDroppingsOf, ShowsHostdir, ListsHostdirs, IsScan}
use Rattle.container_layout.specs.Paths.{hostdirs}
use Rattle.reader_laws.proofs.Gathered.Moments.Growing.{in_a_room, grows_trans, stood_grows}
use Rattle.reader_laws.proofs.Gathered.Moments.Seeing.{seen_grows, seen_split}
use Rattle.reader_laws.proofs.Gathered.Containers.Looking.{top_listed, folder_listed}
use Rattle.reader_laws.proofs.Gathered.Logs.Fronts.{in_tree}
use Rattle.reader_laws.proofs.Gathered.Containers.Replied.{answers_as}
use Rattle.reader_laws.proofs.Gathered.Containers.Members.{is_among, among_left, among_right}
use Rattle.reader_laws.proofs.Gathered.Containers.Entries.{file_named, folder_named, not_top}

-- ---------- folders of droppings

remainder : (host k : ℕ) → host % 32 ≡ k → host % 32 ≡ k % 32
remainder host k e = omega arith

-- the folder of a host is that of its number
pub its_hostdir : (host k : ℕ) → host % 32 ≡ k → hostdir_of host ≡ hostdir_of k
its_hostdir host k e = ap (λ n. codes "hostdir." ++ decimal n) (remainder host k e)

-- a room with a file in a folder of droppings has that folder
has_hostdir : (m : Moment) (s : IsSoundAt m) (number : ℕ) (room : Room) (path : Path) (host : ℕ) (bytes : List ℕ) → slice_get s.shape.tree.rooms number ≡ Some room → path.folder ≡ hostdir_of host → file_at room path ≡ Some bytes → has_folder room path.folder ≡ true
has_hostdir m s number room path host bytes there folder e = elim (s.shape.shaped.rooms number room there) as (λ _. has_folder room path.folder ≡ true) [
  | inl marks ↦
      let mark = marks.files path bytes e in
      let clash : marks_folder ≡ hostdir_of host = sym (ap (λ (p : Path). p.folder) mark.3) ∙ folder in
      elsewhere (ap (λ (l : List ℕ). get_or l 0 0) clash) refl
  | inr container ↦ (container.files path bytes e).housed
]

-- ---------- droppings of the names in a folder

pub dropping_eq : (d e : Dropping) → d.room ≡ e.room → d.host ≡ e.host → d.writer ≡ e.writer → d ≡ e
dropping_eq d e room host writer = λ i. record { room = room i; host = host i; writer = writer i }

-- a name is of one dropping
pub one_dropping : (room k : ℕ) (name : Name) (d e : Dropping) → IsIndexName room k name d → IsIndexName room k name e → d ≡ e
one_dropping room k name d e a b =
    let same : Index d.host d.writer ≡ Index e.host e.writer = one_item _ (Index d.host d.writer) (Index e.host e.writer) a.named b.named in
    let host : d.host ≡ e.host = cc in
    let writer : d.writer ≡ e.writer = cc in
    dropping_eq d e (a.room_is ∙ sym b.room_is) host writer

pub named_dropping : (room k : ℕ) (names : List Name) (ds : List Dropping) (name : Name) (d : Dropping) → AreDroppingsOf room k names ds → Among name names → IsIndexName room k name d → Among d ds
named_dropping room k [] ds name d are a is = absurd a
named_dropping room k (n ∷ names) ds name d (inl (found, rest, named, split, more)) (inl here) is =
    let same : d ≡ found = one_dropping room k n d found (subst (λ x. IsIndexName room k x d) here is) named in
    subst (Among d) (sym split) (inl same)
named_dropping room k (n ∷ names) ds name d (inl (found, rest, named, split, more)) (inr a) is = subst (Among d) (sym split) (inr (named_dropping room k names rest name d more a is))
named_dropping room k (n ∷ names) ds name d (inr (none, more)) (inl here) is = absurd (none d (subst (λ x. IsIndexName room k x d) here is))
named_dropping room k (n ∷ names) ds name d (inr (none, more)) (inr a) is = named_dropping room k names ds name d more a is

-- ---------- what the listings tell of a dropping that stood

-- the top names its folder
top_names : (caller room : ℕ) (start next : Moment) (asked : Asked) (names : List Name) (d : Dropping) → IsSeenCall caller start asked next → asked.ask.call ≡ Look room Top → asked.reply ≡ Looked (Names names) → d.room ≡ room → Stood start d → Among (hostdir_of d.host) names
top_names caller room start next asked names d call c r its stood =
    let m : Moment = call.before in
    let now : Stood m d = stood_grows start m d call.waits stood in
    let l = top_listed m call.sound caller room names next.state (answers_as m.state caller asked.ask _ asked.reply _ next.state c r refl call.answers) in
    let there : slice_get call.sound.shape.tree.rooms d.room ≡ Some l.room = ap (λ n. slice_get call.sound.shape.tree.rooms n) its ∙ l.has_room in
    let f = in_a_room (slice_get call.sound.shape.tree.rooms d.room) (index_path d.host d.writer) now.bytes (in_tree m call.sound d.room (index_path d.host d.writer) now.bytes now.there) in
    let both : Some f.0 ≡ Some l.room = sym f.1 ∙ there in
    let same : f.0 ≡ l.room = cc in
    folder_named l.room (hostdir_of d.host) names (not_top d.host) (has_hostdir m call.sound d.room l.room (index_path d.host d.writer) d.host now.bytes there refl (subst (λ x. file_at x (index_path d.host d.writer) ≡ Some now.bytes) same f.2)) l.entries

-- its folder names it
folder_names : (caller room k : ℕ) (start next : Moment) (asked : Asked) (names : List Name) (d : Dropping) → IsSeenCall caller start asked next → asked.ask.call ≡ Look room (ListFolder (hostdir_of k)) → asked.reply ≡ Looked (Names names) → d.room ≡ room → d.host % 32 ≡ k → Stood start d → Among (index_path d.host d.writer).file names
folder_names caller room k start next asked names d call c r its number stood =
    let m : Moment = call.before in
    let now : Stood m d = stood_grows start m d call.waits stood in
    let l = folder_listed m call.sound caller room (hostdir_of k) names next.state (answers_as m.state caller asked.ask _ asked.reply _ next.state c r refl call.answers) in
    let there : slice_get call.sound.shape.tree.rooms d.room ≡ Some l.room = ap (λ n. slice_get call.sound.shape.tree.rooms n) its ∙ l.has_room in
    let f = in_a_room (slice_get call.sound.shape.tree.rooms d.room) (index_path d.host d.writer) now.bytes (in_tree m call.sound d.room (index_path d.host d.writer) now.bytes now.there) in
    let both : Some f.0 ≡ Some l.room = sym f.1 ∙ there in
    let same : f.0 ≡ l.room = cc in
    let at : file_at l.room (index_path d.host d.writer) ≡ Some now.bytes = subst (λ x. file_at x (index_path d.host d.writer) ≡ Some now.bytes) same f.2 in
    file_named l.room (hostdir_of k) (index_path d.host d.writer).file names now.bytes l.entries (subst (λ folder. file_at l.room (record { folder = folder; file = (index_path d.host d.writer).file }) ≡ Some now.bytes) (its_hostdir d.host k number) at)

pub index_name : (room k : ℕ) (d : Dropping) → IsNamed d → d.room ≡ room → d.host % 32 ≡ k → IsIndexName room k (index_path d.host d.writer).file d
index_name room k d named its number = record {
  room_is = its;
  folder = number;
  named = record { is_item = named; printed = ap (λ folder. record { folder = folder; file = (index_path d.host d.writer).file }) (sym (its_hostdir d.host k number)) };
}

-- ---------- the scan

-- the folder of its number shows a dropping that stood
shown : (caller room : ℕ) (start end : Moment) (top : List Name) (k : ℕ) (asked : List Asked) (ds : List Dropping) (d : Dropping) → IsSeen caller start asked end → ShowsHostdir room top k asked ds
    → d.room ≡ room → Stood start d → Among (hostdir_of d.host) top → d.host % 32 ≡ k → Among d ds
shown caller room start end top k asked ds d seen (inl (absent, none, nothing)) its stood named number =
    absurd (absent (is_among top (hostdir_of k) (subst (λ f. Among f top) (its_hostdir d.host k number) named)))
shown caller room start end top k asked ds d seen (inr (there, (call, only, lists))) its stood named number =
    let s : IsSeen caller start (call ∷ []) end = subst (λ l. IsSeen caller start l end) only seen in
    let names_it = folder_names caller room k start s.0 call lists.names d s.1 lists.lists.call lists.lists.reply its number stood in
    named_dropping room k lists.names ds (index_path d.host d.writer).file d lists.found names_it (index_name room k d stood.is_item its number)

hostdirs_found : (caller room : ℕ) (start end : Moment) (top : List Name) (ks : List ℕ) (asked : List Asked) (ds : List Dropping) (d : Dropping) → IsSeen caller start asked end → ListsHostdirs room top ks asked ds
    → d.room ≡ room → Stood start d → Among (hostdir_of d.host) top → Among (d.host % 32) ks → Among d ds
hostdirs_found caller room start end top [] asked ds d seen lists its stood named a = absurd a
hostdirs_found caller room start end top (k ∷ ks) asked ds d seen (mine, rest, here, others, calls, split, shows, more) its stood named (inl number) =
    let s = seen_split caller start end mine rest (subst (λ l. IsSeen caller start l end) calls seen) in
    subst (Among d) (sym split) (among_left d here others (shown caller room start s.0 top k mine here d s.1 shows its stood named number))
hostdirs_found caller room start end top (k ∷ ks) asked ds d seen (mine, rest, here, others, calls, split, shows, more) its stood named (inr later) =
    let s = seen_split caller start end mine rest (subst (λ l. IsSeen caller start l end) calls seen) in
    subst (Among d) (sym split) (among_right d here others (hostdirs_found caller room s.0 end top ks rest others d s.2 more its (stood_grows start s.0 d (seen_grows caller start s.0 mine s.1) stood) named later))

pub in_range : (from n k : ℕ) → from ≤ k → k < from + n → Among k (range_with_len from n)
in_range from zero k low high = absurd (omega arith)
in_range from (suc n) k low high = elim (cases_eq k from) as (λ _. Among k (from ∷ range_with_len (from + 1) n)) [
  | inl e ↦ inl e
  | inr other ↦ inr (in_range (from + 1) n k (omega (arith, other, low)) (omega arith))
]

below : (host : ℕ) → host % 32 < 0 + 32
below host = omega arith

-- A dropping that stood before the scan is found.
pub scan_found : (caller room : ℕ) (start end : Moment) (asked : List Asked) (ds : List Dropping) (d : Dropping) → IsSeen caller start asked end → IsScan room ds asked → d.room ≡ room → Stood start d → Among d ds
scan_found caller room start end asked ds d seen scan its stood =
    let s : IsSeen caller start (scan.first ∷ scan.rest) end = subst (λ l. IsSeen caller start l end) scan.calls seen in
    let goes : Grows start s.0 = grows_trans start s.1.before s.0 s.1.waits s.1.goes in
    hostdirs_found caller room s.0 end scan.top hostdirs scan.rest ds d s.2 scan.hostdirs its (stood_grows start s.0 d goes stood)
    (top_names caller room start s.0 scan.first scan.top d s.1 scan.lists.call scan.lists.reply its stood)
    (in_range 0 32 (d.host % 32) (omega arith) (below d.host))

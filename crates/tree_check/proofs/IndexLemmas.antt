-- What is shown of flattened and packed indices.
use Rattle.std.proofs.Common.{◌≡◌, ℕ, zero, suc, ◌+◌, ◌/◌, ◌≤◌, ◌<◌, ◌^◌, ◌⊎◌, inl, inr, ◌↔◌, Bool, true, false, List, [], ◌∷◌, ◌++◌, length, take, get_or, Option, Some, None, Result, Ok, Err, refl, ap, sym, ◌∙◌, subst, arith}
use Rattle.std.specs.Prelude.{slice_get, is_some, IsTrue, IfOk}
use Rattle.std.specs.BTreeMap.{BTreeMap, get}
use Rattle.std.specs.Ordering.{nat_cmp}
use Rattle.std.proofs.lemmas.Bool.{false≢true}
use Rattle.std.proofs.lemmas.List.{take_all}
use Rattle.std.proofs.lemmas.Option.{slice_get-get_or}
use Rattle.plfs_types.specs.declared.entries.Cover.{Cover}
use Rattle.plfs_types.specs.declared.entries.Entry.{Entry}
use Rattle.plfs_types.specs.declared.names.Path.{Path}
use Rattle.container_layout.specs.declared.items.Item.TheVariants as item
use Rattle.container_layout.specs.Paths.{IsAt, path_of}
use Rattle.index_entry.specs.Entries.{logged, last_stamp}
use Rattle.index_entry.proofs.Facts.{length-records_in}
use Rattle.index_entry.specs.Spelling.{entry_in}
use Rattle.index_pack.specs.Spelling.{Packs}
use Rattle.index_pack.specs.declared.trouble.PackTrouble.{PackTrouble}
use Rattle.index_pack.specs.declared.trouble.PackTrouble.TheVariants.{NoMemory, Bad}
use Rattle.index_pack.proofs.Facts.{one_list as one_packed}
use Rattle.plain_file.specs.declared.pieces.Piece.{Piece}
use Rattle.plain_file.specs.Runs.{AreRuns, ArePieces}
use Rattle.plain_file.proofs.Facts.{same_runs}
use Rattle.interval_merge.specs.Lists.{joined, ArePiecesOfEach}
use Rattle.store_api.specs.declared.tree.Room.{Room}
use Rattle.store_api.specs.declared.tree.Tree.{Tree}
use Rattle.store_api.specs.Acts.{Stored}
use Rattle.store_laws.specs.Files.{file_at, kept_at}
use Rattle.mount_model.specs.Paths.{index_path, log_path, installed_item}
use Rattle.mount_model.specs.declared.row.Making.{Making}
use Rattle.mount_sound.specs.Dropping.{bytes_of, log_bytes}
use Rattle.mount_sound.specs.Fitting.{fitting}
use Rattle.mount_sound.specs.Flats.{IsCovered, AreCovered, covered_entries, IsRightPack, IsRightFor}
use Rattle.mount_sound.specs.Items.{HasItem, HasMeta, HasItemOf}
use Rattle.mount_sound.specs.Keeping.{kept_in}
use Rattle.mount_sound.specs.There.{landed_entries}
use Rattle.mount_sound.proofs.Facts.{fewer, fit_least, fit_length, logged_take}
use Rattle.shape_check.specs.declared.files.Place.{Place}
use Rattle.shape_check.specs.declared.finding.Complaint.TheVariants.{WrongIndex}
use Rattle.shape_check.specs.declared.finding.Finding.{Finding}
use Rattle.shape_check.specs.declared.finding.Finding.TheVariants.{Broken}
use Rattle.shape_check.specs.Files.{OfPlace}
use Rattle.shape_check.specs.Rightness.{Fails}
use Rattle.shape_check.specs.Seeing.{IsSeen, IsLookedAt}
use Rattle.shape_check.proofs.Facts.{seen_on}
use Rattle.tree_check.specs.declared.droppings.Dropping.{Dropping}
use Rattle.tree_check.specs.declared.droppings.Read.{Read}
use Rattle.tree_check.specs.declared.owners.Owner.{Owner}
use Rattle.tree_check.specs.Droppings.{IsDroppingOf, IsOrderly, IsReadFor, landed_of}
use Rattle.tree_check.specs.Indices.{IsOwned, IsOwnedAt, OfOwnedAt, IsLeftOf, TellsCover, TellsRead, AreOfCovers, TellsCovers, IsCoverOf}
use Rattle.tree_check.specs.Owners.{AreOwnersOf}
use Rattle.tree_check.proofs.DroppingLemmas.{landed_is}
use Rattle.tree_check.proofs.Failing.{denied}
use Rattle.tree_check.proofs.OwnerLemmas.{one_host}
use Rattle.tree_check.proofs.WriterLemmas.{all_kept_there, landed_logged, landed_number}

-- ---- an answer of no

pub not_so : (P : Type 0) → (P → ⊥) → IsTrue false ↔ P
not_so P wrong = (λ e. absurd (false≢true e), λ has. absurd (wrong has))

pub is_so : (P : Type 0) (is : Bool) → is ≡ true → IsTrue is ↔ P → P
is_so P is e tells = tells.0 e

pub is_not_so : (P : Type 0) (is : Bool) → is ≡ false → IsTrue is ↔ P → P → ⊥
is_not_so P is e tells has = denied is e (tells.1 has)

-- ---- an index at a path

-- what is told of the file at a path
abbrev pub Tells : Place → BTreeMap ℕ Owner → Path → Stored → Bool → (Room → List ℕ → Type 0) → Type 0
Tells place owners path old is R = (tree : Tree) → IsSeen old tree → (at : IsOwnedAt place owners path tree) → IsTrue is ↔ R at.owned.placed.room at.bytes

module _ (place : Place) (owners : BTreeMap ℕ Owner) (path : Path) (makes : Making) (id : ℕ) (is_at : IsAt path (installed_item makes id)) where
  its_item : (tree : Tree) (at : IsOwnedAt place owners path tree) → HasItem at.owned.placed.room (installed_item makes id) at.bytes
  its_item tree at = record { is_item = is_at.is_item; there = ap (file_at at.owned.placed.room) (sym is_at.printed) ∙ at.there }

  its_bytes : (tree : Tree) (at : IsOwnedAt place owners path tree) (bytes : List ℕ) → file_at at.owned.placed.room (path_of (installed_item makes id)) ≡ Some bytes → at.bytes ≡ bytes
  its_bytes tree at bytes there =
      let one : Some at.bytes ≡ Some bytes = sym (its_item tree at).there ∙ there in
      cc

  pub right_index : (old : Stored) (is : Bool) → is ≡ true → Tells place owners path old is (λ room bytes. IsRightFor room makes bytes)
      → OfOwnedAt (λ tree room. (bytes : List ℕ) → file_at room (path_of (installed_item makes id)) ≡ Some bytes → IsRightFor room makes bytes) place owners path old
  right_index old is e tells = λ tree seen at bytes there.
      subst (IsRightFor at.owned.placed.room makes) (its_bytes tree at bytes there) ((tells tree seen at).0 e)

  pub wrong_index : (old new : Stored) (is : Bool) → is ≡ false → Tells place owners path old is (λ room bytes. IsRightFor room makes bytes) → Fails (IsOwnedAt place owners path) old new (Broken (WrongIndex place.name path))
  wrong_index old new is e tells = record {
    cause = λ e. absurd (cc);
    right = λ tree seen at. (place.number, at.owned.placed.room, at.owned.placed.there, at.owned.placed.named, (makes, id, at.bytes, is_at.printed, its_item tree at, λ right. denied is e ((tells tree seen at).1 right)));
  }

-- ---- packed indices

-- a packed index is only of a writer that has left
pub pack_left : (owners : BTreeMap ℕ Owner) (room : Room) (host writer : ℕ) (bytes : List ℕ) → AreOwnersOf owners room → IsRightPack room host writer bytes → IsLeftOf owners host writer
pack_left owners room host writer bytes are pack =
    let gone = are.gone host writer pack.left in
    gone.1 ∙ ap Some (same gone.0 host gone.2 gone.3)
  where
    same : (found : Owner) (host : ℕ) → found.host ≡ host → found.has_left ≡ true → found ≡ record { host = host; has_left = true }
    same found host h l = ap (λ (x : ℕ). record { host = x; has_left = found.has_left }) h ∙ ap (λ (b : Bool). record { host = host; has_left = b }) l

there_so : (found : Option (List ℕ)) (bytes : List ℕ) → found ≡ Some bytes → is_some found ≡ true
there_so found bytes e = ap is_some e

some_there : (found : Option (List ℕ)) → is_some found ≡ true → (bytes : List ℕ) × (found ≡ Some bytes)
some_there None e = absurd (false≢true e)
some_there (Some bytes) e = (bytes, refl)

pub no_pack_left : (place : Place) (owners : BTreeMap ℕ Owner) (path : Path) (host writer : ℕ) (old : Stored) (left : Bool) → left ≡ false → IsTrue left ↔ IsLeftOf owners host writer
    → Tells place owners path old false (λ room bytes. IsRightPack room host writer bytes)
no_pack_left place owners path host writer old left e tells = λ tree seen at.
    not_so (IsRightPack at.owned.placed.room host writer at.bytes)
    (λ pack. is_not_so (IsLeftOf owners host writer) left e tells (pack_left owners at.owned.placed.room host writer at.bytes at.owned.owners_are pack))

-- the file is there, or not
abbrev pub ShowsFile : Place → Path → Bool → Stored → Type 0
ShowsFile place path has old = OfPlace (λ tree room. is_some (file_at room path) ≡ has) place old

pub no_pack_index : (place : Place) (owners : BTreeMap ℕ Owner) (path : Path) (host writer : ℕ) (old : Stored) (has : Bool) → has ≡ false → ShowsFile place (index_path host writer) has old
    → Tells place owners path old false (λ room bytes. IsRightPack room host writer bytes)
no_pack_index place owners path host writer old has e shows = λ tree seen at.
    not_so (IsRightPack at.owned.placed.room host writer at.bytes)
    (λ pack. false≢true (sym e ∙ sym (shows tree seen at.owned.placed) ∙ there_so (file_at at.owned.placed.room (index_path host writer)) pack.content pack.stands.there))

pub index_widths : (room : Room) (host writer : ℕ) → HasItemOf room host writer → (host < 2 ^ 32) × (writer < 2 ^ 64)
index_widths room host writer (inl i) = i.1.is_item.widths
index_widths room host writer (inr (inl i)) = i.1.is_item.widths
index_widths room host writer (inr (inr m)) = m.has.is_item.widths

as_index : (room : Room) (host writer : ℕ) → HasItemOf room host writer → is_some (file_at room (index_path host writer)) ≡ true → (content : List ℕ) × HasItem room (item.Index host writer) content
as_index room host writer has e =
    let file = some_there (file_at room (index_path host writer)) e in
    (file.0, record { is_item = record { in_range = tt; widths = index_widths room host writer has }; there = file.1 })

pub pack_tells : (place : Place) (owners : BTreeMap ℕ Owner) (path : Path) (host writer : ℕ) (dropping : Dropping) (old a b : Stored) (has is : Bool) (bytes : List ℕ) → IsLeftOf owners host writer → has ≡ true → ShowsFile place (index_path host writer) has old
    → IsLookedAt old a → OfPlace (λ tree room. bytes_of (file_at room path) ≡ bytes) place a → IsLookedAt a b → OfPlace (IsDroppingOf host writer dropping) place b → IsTrue is ↔ Packs bytes (landed_of dropping)
    → Tells place owners path old is (λ room bytes. IsRightPack room host writer bytes)
pack_tells place owners path host writer dropping old a b has is bytes left e shows to_a read to_b of tells = λ tree seen at. (
    let room : Room = at.owned.placed.room in
    let seen_a : IsSeen a tree = seen_on old a tree to_a seen in
    let d : IsDroppingOf host writer dropping tree room = of tree (seen_on a b tree to_b seen_a) at.owned.placed in
    let entries : landed_of dropping ≡ landed_entries room host writer = landed_is host writer dropping tree room d in
    let same : at.bytes ≡ bytes = sym (ap bytes_of at.there) ∙ read tree seen_a at.owned.placed in
    let meta : HasMeta room host writer = at.owned.owners_are.left writer (record { host = host; has_left = true }) left refl in
    let index = as_index room host writer (inr (inr meta)) (shows tree seen at.owned.placed ∙ e) in (
      λ yes. record {
        content = index.0;
        stands = index.1;
        left = meta;
        packs = subst (λ (l : List ℕ). Packs l (landed_entries room host writer)) (sym same) (subst (λ (es : List Entry). Packs bytes es) entries (tells.0 yes));
      },
      λ pack. tells.1 (subst (λ (es : List Entry). Packs bytes es) (sym entries) (subst (λ (l : List ℕ). Packs l (landed_entries room host writer)) same pack.packs)),
    ))

-- ---- covers

same_parts : (n m : ℕ) → n ≤ m → n / 40 ≤ m / 40
same_parts n m less = omega arith

-- of entries that have landed all are kept, where all bytes are
kept_covers : (stored : Stored) (tree : Tree) (n : ℕ) (room : Room) (host writer : ℕ) (dropping : Dropping) (count : ℕ) → IsSeen stored tree → slice_get tree.rooms n ≡ Some room → IsDroppingOf host writer dropping tree room
    → count ≤ length (landed_of dropping) → count ≤ kept_in room host writer
kept_covers stored tree n room host writer dropping count seen there is some =
    let es : List Entry = landed_entries room host writer in
    let index : List ℕ = bytes_of (file_at room (index_path host writer)) in
    let index_kept : ℕ = kept_at room (index_path host writer) in
    let log_kept : ℕ = kept_at room (log_path host writer) in
    let same : landed_of dropping ≡ es = landed_is host writer dropping tree room is in
    let long : length (landed_of dropping) ≡ length es = ap (λ (l : List Entry). length l) same in
    let index_there : length index ≤ index_kept = all_kept_there stored tree n room (index_path host writer) (file_at room (index_path host writer)) seen there refl in
    let log_there : length (log_bytes room host writer) ≤ log_kept = all_kept_there stored tree n room (log_path host writer) (file_at room (log_path host writer)) seen there refl in
    let whole : length dropping.entries ≡ length index / 40 = ap (λ (l : List Entry). length l) is.are ∙ length-records_in entry_in 40 (length index / 40) index in
    let number : dropping.landed ≡ length es = landed_number host writer dropping tree room is in
    let all : take (index_kept / 40) es ≡ es = take_all (index_kept / 40) es (omega (arith, number, is.within, whole, same_parts (length index) index_kept index_there)) in
    let in_log : logged es ≤ length (log_bytes room host writer) = subst (λ (l : List Entry). logged l ≤ length (log_bytes room host writer)) same (landed_logged host writer dropping tree room is) in
    let fits : count ≤ fitting log_kept 0 es = fit_least log_kept 0 es count (omega (arith, some, long)) (omega (arith, logged_take count es, in_log, log_there)) in
    subst (λ (l : List Entry). count ≤ fitting log_kept 0 l) (sym all) fits

-- no more than have landed are
kept_few : (room : Room) (host writer : ℕ) → kept_in room host writer ≤ length (landed_entries room host writer)
kept_few room host writer =
    let es : List Entry = landed_entries room host writer in
    let part : List Entry = take (kept_at room (index_path host writer) / 40) es in
    omega (arith, fit_length (kept_at room (log_path host writer)) 0 part, fewer (kept_at room (index_path host writer) / 40) es)

-- what is told of a cover, or of covers
abbrev pub TellsOne : Place → BTreeMap ℕ Owner → Cover → Option (List Piece) → Stored → Type 0
TellsOne place owners cover found old = (tree : Tree) → IsSeen old tree → (at : IsOwned place owners tree) → TellsCover at.placed.room cover found

-- what is told of what was read of a cover's writer
abbrev pub TellsReading : Place → BTreeMap ℕ Owner → Cover → Option Read → Stored → Type 0
TellsReading place owners cover found old = (tree : Tree) → IsSeen old tree → (at : IsOwned place owners tree) → TellsRead at.placed.room cover found

abbrev pub TellsAll : Stored → Place → BTreeMap ℕ Owner → List Cover → List (List Piece) → Type 0
TellsAll old place owners covers lists = (tree : Tree) → IsSeen old tree → (at : IsOwned place owners tree) → AreOfCovers at.placed.room covers lists

pub no_owner : (place : Place) (owners : BTreeMap ℕ Owner) (cover : Cover) (old : Stored) → get nat_cmp owners cover.writer ≡ None → TellsOne place owners cover None old
no_owner place owners cover old none = λ tree seen at is. (
    let known = at.owners_are.known is.host cover.writer (inl (is.content, is.stands)) in
    let clash : None ≡ Some known.0 = sym none ∙ known.1 in
    absurd (cc))

its_host : (owners : BTreeMap ℕ Owner) (room : Room) (owner : Owner) (host writer : ℕ) → AreOwnersOf owners room → get nat_cmp owners writer ≡ Some owner → HasItemOf room host writer → owner.host ≡ host
its_host owners room owner host writer are e has =
    let known = are.known host writer has in
    let one : Some owner ≡ Some known.0 = sym e ∙ known.1 in
    let same : owner ≡ known.0 = cc in
    ap (λ (o : Owner). o.host) same ∙ known.2

pub no_index : (place : Place) (owners : BTreeMap ℕ Owner) (cover : Cover) (owner : Owner) (old : Stored) (has : Bool) → get nat_cmp owners cover.writer ≡ Some owner → has ≡ false → ShowsFile place (index_path owner.host cover.writer) has old → TellsOne place owners cover None old
no_index place owners cover owner old has found e shows = λ tree seen at is. (
    let room : Room = at.placed.room in
    let host : owner.host ≡ is.host = its_host owners room owner is.host cover.writer at.owners_are found (inl (is.content, is.stands)) in
    let there : file_at room (index_path owner.host cover.writer) ≡ Some is.content = ap (λ (h : ℕ). file_at room (index_path h cover.writer)) host ∙ is.stands.there in
    false≢true (sym e ∙ sym (shows tree seen at.placed) ∙ there_so (file_at room (index_path owner.host cover.writer)) is.content there))

-- what was read of the writer
pub tells_reading : (place : Place) (owners : BTreeMap ℕ Owner) (cover : Cover) (owner : Owner) (dropping : Dropping) (old : Stored) (has : Bool) → get nat_cmp owners cover.writer ≡ Some owner → has ≡ true
    → ShowsFile place (index_path owner.host cover.writer) has old → TellsReading place owners cover (Some (record { host = owner.host; writer = cover.writer; dropping = dropping })) old
tells_reading place owners cover owner dropping old has found e shows = λ tree seen at. as_index at.placed.room owner.host cover.writer (at.owners_are.some cover.writer owner found) (shows tree seen at.placed ∙ e)

pub none_was_read : (place : Place) (owners : BTreeMap ℕ Owner) (cover : Cover) (found : Option Read) (old : Stored) → found ≡ None → TellsReading place owners cover found old → TellsOne place owners cover None old
none_was_read place owners cover found old none reads = subst (λ (f : Option Read). TellsReading place owners cover f old) none reads

pub read_orderly : (place : Place) (writer : ℕ) (read : Read) (stored : Stored) → IsReadFor place writer (Some read) stored → IsOrderly writer read.dropping
read_orderly place writer read stored is = subst (λ (w : ℕ). IsOrderly w read.dropping) is.0 is.1.0

cover_of : (place : Place) (owners : BTreeMap ℕ Owner) (cover : Cover) (host : ℕ) (dropping : Dropping) (old : Stored) (tree : Tree) (at : IsOwned place owners tree) (found : Option (List Piece)) → IsSeen old tree
    → ((content : List ℕ) × HasItem at.placed.room (item.Index host cover.writer) content) → IsDroppingOf host cover.writer dropping tree at.placed.room → IsCoverOf cover (landed_of dropping) found → TellsCover at.placed.room cover found
cover_of place owners cover host dropping old tree at None seen index d none = λ is. (
    let room : Room = at.placed.room in
    let its : is.host ≡ host = one_host owners room host is.host cover.writer at.owners_are (inl index) (inl (is.content, is.stands)) in
    let same : landed_entries room is.host cover.writer ≡ landed_of dropping = ap (λ (h : ℕ). landed_entries room h cover.writer) its ∙ sym (landed_is host cover.writer dropping tree room d) in
    let long : length (landed_entries room is.host cover.writer) ≡ length (landed_of dropping) = ap (λ (l : List Entry). length l) same in
    none (omega (arith, is.kept, kept_few room is.host cover.writer, long))
    (is.sum ∙ ap (λ (l : List Entry). logged (take cover.count l)) same)
    (is.latest ∙ ap (λ (l : List Entry). last_stamp 0 (take cover.count l)) same))
cover_of place owners cover host dropping old tree at (Some pieces) seen index d (some, sum, latest, are) =
    let room : Room = at.placed.room in
    let same : landed_of dropping ≡ landed_entries room host cover.writer = landed_is host cover.writer dropping tree room d in (
      record {
        host = host;
        content = index.0;
        stands = index.1;
        kept = kept_covers old tree place.number room host cover.writer dropping cover.count seen at.placed.there d some;
        sum = sum ∙ ap (λ (l : List Entry). logged (take cover.count l)) same;
        latest = latest ∙ ap (λ (l : List Entry). last_stamp 0 (take cover.count l)) same;
      },
      subst (λ (l : List Entry). ArePieces (take cover.count l) [] pieces) same are,
    )

pub cover_tells : (place : Place) (owners : BTreeMap ℕ Owner) (cover : Cover) (read : Read) (old mid : Stored) (found : Option (List Piece)) → IsLookedAt old mid → TellsReading place owners cover (Some read) old
    → IsReadFor place cover.writer (Some read) mid → IsCoverOf cover (landed_of read.dropping) found → TellsOne place owners cover found old
cover_tells place owners cover read old mid found looked reads is tells = λ tree seen at. (
    let d : IsDroppingOf read.host read.writer read.dropping tree at.placed.room = is.1.1 tree (seen_on old mid tree looked seen) at.placed in
    cover_of place owners cover read.host read.dropping old tree at found seen (reads tree seen at) (subst (λ (w : ℕ). IsDroppingOf read.host w read.dropping tree at.placed.room) is.0 d) tells)

-- ---- one cover after the other

as_next : (i : ℕ) → suc i ≡ i + 1
as_next i = omega arith

of_more : (room : Room) (covers : List Cover) (i : ℕ) (cover : Cover) (lists : List (List Piece)) (pieces : List Piece) → slice_get covers i ≡ Some cover → AreOfCovers room (take i covers) lists → TellsCover room cover (Some pieces)
    → AreOfCovers room (take (suc i) covers) (lists ++ pieces ∷ [])
of_more room [] i cover lists pieces at before this = absurd (cc)
of_more room (c ∷ covers) zero cover [] pieces at before this = let same : c ≡ cover = cc in (subst (λ (x : Cover). TellsCover room x (Some pieces)) (sym same) this, tt)
of_more room (c ∷ covers) zero cover (l ∷ lists) pieces at before this = absurd before
of_more room (c ∷ covers) (suc i) cover [] pieces at before this = absurd before
of_more room (c ∷ covers) (suc i) cover (l ∷ lists) pieces at before this = (before.0, of_more room covers i cover lists pieces at before.1 this)

pub tells_none : (old : Stored) (place : Place) (owners : BTreeMap ℕ Owner) (covers : List Cover) → TellsAll old place owners (take 0 covers) []
tells_none old place owners covers = λ tree seen at. tt

pub tells_more : (old mid : Stored) (place : Place) (owners : BTreeMap ℕ Owner) (covers : List Cover) (i : ℕ) (cover : Cover) (lists : List (List Piece)) (pieces : List Piece) (after : List (List Piece)) → slice_get covers i ≡ Some cover → IsLookedAt old mid
    → TellsAll old place owners (take i covers) lists → TellsOne place owners cover (Some pieces) mid → after ≡ lists ++ pieces ∷ [] → TellsAll old place owners (take (i + 1) covers) after
tells_more old mid place owners covers i cover lists pieces after at looked before this e = λ tree seen owned.
    subst (λ (l : List (List Piece)). AreOfCovers owned.placed.room (take (i + 1) covers) l) (sym e)
    (subst (λ (n : ℕ). AreOfCovers owned.placed.room (take n covers) (lists ++ pieces ∷ [])) (as_next i)
    (of_more owned.placed.room covers i cover lists pieces at (before tree seen owned) (this tree (seen_on old mid tree looked seen) owned)))

pub tells_all : (old : Stored) (place : Place) (owners : BTreeMap ℕ Owner) (covers : List Cover) (i : ℕ) (lists : List (List Piece)) → length covers ≤ i → TellsAll old place owners (take i covers) lists → TellsAll old place owners covers lists
tells_all old place owners covers i lists past tells = subst (λ (l : List Cover). TellsAll old place owners l lists) (take_all i covers past) tells

-- what stands behind the last cover
abbrev pub no_cover : Cover
no_cover = record { writer = 0; count = 0; bytes = 0; stamp = 0 }

abbrev pub cover_at : List Cover → ℕ → Cover
cover_at covers i = get_or covers i no_cover

pub cover_at_hand : (covers : List Cover) (i : ℕ) → i < length covers → slice_get covers i ≡ Some (cover_at covers i)
cover_at_hand covers i less = slice_get-get_or covers i no_cover less

covered_at : (room : Room) (covers : List Cover) (i : ℕ) (cover : Cover) (entries : List Entry) → slice_get covers i ≡ Some cover → AreCovered room covers entries → IsCovered room cover
covered_at room [] i cover entries at are = absurd (cc)
covered_at room (c ∷ covers) zero cover entries at are = let same : c ≡ cover = cc in subst (IsCovered room) same are.0
covered_at room (c ∷ covers) (suc i) cover entries at are = covered_at room covers i cover are.1.0 at are.1.2

pub none_covered : (old mid : Stored) (place : Place) (owners : BTreeMap ℕ Owner) (covers : List Cover) (i : ℕ) (cover : Cover) → slice_get covers i ≡ Some cover → IsLookedAt old mid → TellsOne place owners cover None mid
    → (tree : Tree) → IsSeen old tree → (at : IsOwned place owners tree) → TellsCovers at.placed.room covers None
none_covered old mid place owners covers i cover at looked none = λ tree seen owned entries are.
    none tree (seen_on old mid tree looked seen) owned (covered_at owned.placed.room covers i cover entries at are)

-- ---- the pieces of all

-- the entries of each cover
pub record HasEach (room : Room) (covers : List Cover) (lists : List (List Piece)) : Type 0 where
  pub each : List (List Entry)
  pub pieces : ArePiecesOfEach each lists
  pub covered : AreCovered room covers (joined each)

each_of : (room : Room) (covers : List Cover) (lists : List (List Piece)) → AreOfCovers room covers lists → HasEach room covers lists
each_of room [] [] are = record { each = []; pieces = tt; covered = refl }
each_of room [] (pieces ∷ lists) are = absurd are
each_of room (c ∷ covers) [] are = absurd are
each_of room (c ∷ covers) (pieces ∷ lists) are =
    let rest = each_of room covers lists are.1 in
    record {
      each = covered_entries room are.0.0.host c ∷ rest.each;
      pieces = (are.0.1, rest.pieces);
      covered = (are.0.0, (joined rest.each, refl, rest.covered));
    }

one_list : (owners : BTreeMap ℕ Owner) (room : Room) (covers : List Cover) (a b : List Entry) → AreOwnersOf owners room → AreCovered room covers a → AreCovered room covers b → a ≡ b
one_list owners room [] a b are p q = p ∙ sym q
one_list owners room (c ∷ covers) a b are p q =
    let host : p.0.host ≡ q.0.host = one_host owners room q.0.host p.0.host c.writer are (inl (q.0.content, q.0.stands)) (inl (p.0.content, p.0.stands)) in
    let rest : p.1.0 ≡ q.1.0 = one_list owners room covers p.1.0 q.1.0 are p.1.2 q.1.2 in
    p.1.1 ∙ ap (λ (h : ℕ). covered_entries room h c ++ p.1.0) host ∙ ap (λ (l : List Entry). covered_entries room q.0.host c ++ l) rest ∙ sym q.1.1

-- whether pieces are those of all lists
abbrev pub TellsMerged : List (List Piece) → List Piece → Bool → Type 0
TellsMerged lists pieces is = (entries : List (List Entry)) → ArePiecesOfEach entries lists → IsTrue is ↔ ArePieces (joined entries) [] pieces

pub merged_tells : (lists : List (List Piece)) (pieces merged : List Piece) (is : Bool) → AreRuns pieces → ((entries : List (List Entry)) → ArePiecesOfEach entries lists → ArePieces (joined entries) [] merged) → IsTrue is ↔ (merged ≡ pieces) → TellsMerged lists pieces is
merged_tells lists pieces merged is runs joins same = λ entries each. (
    let are : ArePieces (joined entries) [] merged = joins entries each in (
      λ yes. subst (ArePieces (joined entries) []) (same.0 yes) are,
      λ right. same.1 (same_runs merged pieces are.runs right.runs (λ x. are.shown x ∙ sym (right.shown x))),
    ))

pub theirs_tells : (old : Stored) (place : Place) (owners : BTreeMap ℕ Owner) (covers : List Cover) (lists : List (List Piece)) (pieces : List Piece) (is : Bool) → TellsAll old place owners covers lists → TellsMerged lists pieces is
    → (tree : Tree) → IsSeen old tree → (at : IsOwned place owners tree) → IsTrue is ↔ ((entries : List Entry) × AreCovered at.placed.room covers entries × ArePieces entries [] pieces)
theirs_tells old place owners covers lists pieces is tells merged = λ tree seen at. (
    let room : Room = at.placed.room in
    let has = each_of room covers lists (tells tree seen at) in
    let t : IsTrue is ↔ ArePieces (joined has.each) [] pieces = merged has.each has.pieces in (
      λ yes. (joined has.each, has.covered, t.0 yes),
      λ theirs. t.1 (subst (λ (es : List Entry). ArePieces es [] pieces) (one_list owners room covers theirs.0 (joined has.each) at.owners_are theirs.1 has.covered) theirs.2),
    ))

pub all_theirs_tell : (old : Stored) (place : Place) (owners : BTreeMap ℕ Owner) (covers : List Cover) (lists : List (List Piece)) (pieces : List Piece) (result : Result Bool Finding) → TellsAll old place owners covers lists → IfOk result (TellsMerged lists pieces)
    → IfOk result (λ is. (tree : Tree) → IsSeen old tree → (at : IsOwned place owners tree) → IsTrue is ↔ ((entries : List Entry) × AreCovered at.placed.room covers entries × ArePieces entries [] pieces))
all_theirs_tell old place owners covers lists pieces (Err finding) tells merged = tt
all_theirs_tell old place owners covers lists pieces (Ok is) tells merged = theirs_tells old place owners covers lists pieces is tells merged

pub none_theirs : (old : Stored) (place : Place) (owners : BTreeMap ℕ Owner) (covers : List Cover) (pieces : List Piece) → ((tree : Tree) → IsSeen old tree → (at : IsOwned place owners tree) → TellsCovers at.placed.room covers None)
    → (tree : Tree) → IsSeen old tree → (at : IsOwned place owners tree) → IsTrue false ↔ ((entries : List Entry) × AreCovered at.placed.room covers entries × ArePieces entries [] pieces)
none_theirs old place owners covers pieces none = λ tree seen at.
    not_so ((entries : List Entry) × AreCovered at.placed.room covers entries × ArePieces entries [] pieces) (λ has. none tree seen at has.0 has.1)

-- ---- what is read of a packed index

pub packed_tells : (bytes : List ℕ) (entries packed : List Entry) (is : Bool) → Packs bytes packed → IsTrue is ↔ (packed ≡ entries) → IsTrue is ↔ Packs bytes entries
packed_tells bytes entries packed is packs same = (
  λ yes. subst (λ (es : List Entry). Packs bytes es) (same.0 yes) packs,
  λ other. same.1 (one_packed bytes packed entries packs other),
)

-- bytes of which a fault is told are the packed index of none
pub none_packed : (entries : List Entry) (trouble : PackTrouble) (place : ℕ) → trouble ≡ Bad place → (◌≡◌ {A = Result (List Entry) PackTrouble} (Err trouble) (Ok entries)) ⊎ (◌≡◌ {A = Result (List Entry) PackTrouble} (Err trouble) (Err NoMemory)) → ⊥
none_packed entries trouble place is (inl e) = absurd (cc)
none_packed entries trouble place is (inr e) =
    let same : trouble ≡ NoMemory = cc in
    let clash : Bad place ≡ NoMemory = sym is ∙ same in
    absurd (cc)

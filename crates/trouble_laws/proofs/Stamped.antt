-- Who left a metadata dropping with a stamp has an index dropping: it is all of its entries, of which there is one.
use Rattle.std.proofs.Common.{◌≡◌, ℕ, ◌≤◌, List, [], ◌∷◌, length, take, Option, Some, None, refl, ap, sym, ◌∙◌, inr, subst, arith}
use Rattle.std.specs.Prelude.{slice_get}
use Rattle.plfs_types.specs.declared.entries.Entry.{Entry}
use Rattle.container_layout.specs.declared.items.Item.TheVariants.{Index, Meta}
use Rattle.index_entry.specs.Entries.{last_stamp}
use Rattle.index_entry.specs.Spelling.{spelling_all}
use Rattle.index_entry.proofs.Facts.{length-spelling_all}
use Rattle.store_api.specs.declared.tree.Room.{Room}
use Rattle.store_api.specs.declared.tree.Tree.{Tree}
use Rattle.store_laws.specs.Files.{file_at}
use Rattle.mount_model.specs.Paths.{index_path}
use Rattle.mount_model.specs.State.{State}
use Rattle.mount_sound.specs.Dropping.{IsKeptWhole, IsWriter, bytes_of}
use Rattle.mount_sound.specs.Items.{HasItem, HasMeta}
use Rattle.mount_sound.specs.Ledger.{AreWritesOf, Ledger, Written, entries_in}
use Rattle.mount_sound.specs.Sound.{IsSoundFor}
use Rattle.mount_sound.specs.There.{landed_entries}
use Rattle.mount_sound.proofs.Facts.{in_order_take, is_index, logged_take, one_tree, writer_told}
use Rattle.mount_model.specs.declared.names.Metadata.{Metadata}
use Rattle.migrate_core.specs.Entries.{no_entries}
use Rattle.migrate_laws.proofs.Facts.{IsWhole, IsWholeIn, whole_now, whole_stays}
use Rattle.trouble_laws.proofs.PackChecks.{ComeNext}
use Rattle.trouble_laws.proofs.Walking.{Stays}

-- its index dropping is exactly these entries, by its rules
pub record AreAllOf (number : ℕ) (m : Metadata) (es : List Entry) (state : State) : Type 0 where
  pub whole : IsWhole number m es state
  pub next : ComeNext (no_entries m.writer).cover es
  pub some : 1 ≤ length es

abbrev pub HasAll : ℕ → Metadata → State → Type 0
HasAll number m state = (es : List Entry) × AreAllOf number m es state

pub has_all_stays : (number : ℕ) (m : Metadata) → Stays (HasAll number m)
has_all_stays number m issued old new other asked reply may step s f =
    let x : AreAllOf number m f.0 old = f.1 in
    (f.0, record { whole = whole_stays number m f.0 issued old new other asked reply may step s x.whole; next = x.next; some = x.some })

some_last : (es : List Entry) (stamp : ℕ) → 1 ≤ stamp → stamp ≡ last_stamp 0 es → 1 ≤ length es
some_last [] stamp some is = absurd (omega (arith, some, is))
some_last (e ∷ es) stamp some is = omega arith

-- ---- what a room holds of such a writer

module _ (room : Room) (m : Metadata) (issued : List Written) (w : IsWriter room m.writer issued) (v : AreWritesOf m.writer issued) (content : List ℕ) (has : HasItem room (Meta m.last m.bytes m.stamp m.host m.writer) content) (stamped : 1 ≤ m.stamp) where
  abbrev Landed : List Entry
  Landed = take w.landed (entries_in issued)

  abbrev its_meta : HasMeta room m.host m.writer
  its_meta = record { last = m.last; bytes = m.bytes; stamp = m.stamp; content = content; has = has }

  same_host : w.host ≡ m.host
  same_host = sym (w.one_host m.host (inr (inr its_meta)))

  pub some_landed : 1 ≤ length Landed
  some_landed = some_last Landed m.stamp stamped (w.told m.last m.bytes m.stamp content (subst (λ h. HasItem room (Meta m.last m.bytes m.stamp h m.writer) content) (sym same_host) has)).latest

  kept : IsKeptWhole room m.host m.writer Landed
  kept = subst (λ h. HasMeta room h m.writer → IsKeptWhole room h m.writer Landed) same_host w.settled its_meta

  pub in_turn : ComeNext (no_entries m.writer).cover Landed
  in_turn = record { fits = has.is_item.widths.1; order = in_order_take w.landed m.writer 0 0 (entries_in issued) v.in_order; small = omega (arith, logged_take w.landed (entries_in issued), v.small) }

  pub all_landed : landed_entries room m.host m.writer ≡ Landed
  all_landed = ap (λ h. landed_entries room h m.writer) (sym same_host) ∙ writer_told room m.writer issued w has.is_item.widths.1 v

  index_of : (o : Option (List ℕ)) → file_at room (index_path m.host m.writer) ≡ o → (bytes : List ℕ) × (file_at room (index_path m.host m.writer) ≡ Some bytes)
  index_of (Some bytes) is = (bytes, is)
  index_of None is =
      let nothing : spelling_all Landed ≡ [] = sym kept.index ∙ ap bytes_of is in
      let long : length (spelling_all Landed) ≡ 0 = ap length nothing in
      absurd (omega (arith, long, some_landed, length-spelling_all Landed))

  pub index_there : (bytes : List ℕ) × HasItem room (Index m.host m.writer) bytes
  index_there =
      let f = index_of (file_at room (index_path m.host m.writer)) refl in
      (f.0, record { is_item = is_index m.host m.writer has.is_item.widths.0 has.is_item.widths.1; there = f.1 })

-- Whose metadata dropping stands with a stamp has all of its entries.
pub all_now : (issued : Ledger) (state : State) (s : IsSoundFor issued state) (number : ℕ) (room : Room) → slice_get s.shape.tree.rooms number ≡ Some room → (m : Metadata) (content : List ℕ) → HasItem room (Meta m.last m.bytes m.stamp m.host m.writer) content → 1 ≤ m.stamp → HasAll number m state
all_now issued state s number room there m content has stamped =
    let its : List Written = issued number m.writer in
    let w : IsWriter room m.writer its = (s.sound.rooms number room there).writers m.writer has.is_item.widths.1 in
    let v : AreWritesOf m.writer its = s.sound.writes number m.writer in
    let left : HasMeta room m.host m.writer = record { last = m.last; bytes = m.bytes; stamp = m.stamp; content = content; has = has } in
    let es : List Entry = take w.landed (entries_in its) in
    let i = index_there room m its w v content has stamped in
    let stands : IsWholeIn m.host m.writer es room = subst (λ xs. IsWholeIn m.host m.writer xs room) (all_landed room m its w v content has stamped) (whole_now issued state s number room there m.host m.writer i.0 i.1 left) in (
      es,
      record {
        whole = λ tree told. subst (λ (t : Tree). (r : Room) × (slice_get t.rooms number ≡ Some r) × IsWholeIn m.host m.writer es r) (one_tree s.shape.tree tree state.store.tree s.shape.told told) (room, there, stands);
        next = in_turn room m its w v content has stamped;
        some = some_landed room m its w v content has stamped;
      },
    )

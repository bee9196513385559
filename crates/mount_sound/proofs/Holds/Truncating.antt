-- A truncate whose stamp is above all of its room leaves soundness, where no live writer is in the room.
use Rattle.std.proofs.Common.{◌≡◌, ◌≤◌, ◌<◌, ◌^◌, ℕ, List, [], ◌∷◌, length, take, true, Option, Some, None, refl, ap, sym, ◌∙◌, ◌⊎◌, inl, inr, subst, arith}
use Rattle.std.specs.Prelude.{slice_get, MatchOption}
use Rattle.std.specs.List.{AllByRecursion}
use Rattle.std.proofs.lemmas.Bool.{cases_eq}
use Rattle.plfs_types.specs.declared.entries.Entry.{Entry}
use Rattle.container_layout.specs.declared.items.Item.{Item}
use Rattle.container_layout.specs.declared.items.Item.TheVariants.{OpenHost, Meta, Trunc, Index, Log}
use Rattle.container_layout.specs.Items.{IsItem}
use Rattle.container_layout.specs.Paths.{path_of}
use Rattle.store_api.specs.declared.tree.Room.{Room}
use Rattle.store_api.specs.declared.tree.Tree.{Tree}
use Rattle.store_laws.specs.Tells.{Tells}
use Rattle.store_laws.specs.Files.{file_at, kept_at}
use Rattle.store_laws.proofs.Facts.{create_told}
use Rattle.mount_model.specs.declared.row.Row.{Row}
use Rattle.mount_model.specs.declared.row.Holder.{Holder}
use Rattle.mount_model.specs.Table.{row_of, is_live}
use Rattle.mount_model.specs.Paths.{index_path, trunc_path}
use Rattle.mount_model.specs.Making.{Told}
use Rattle.mount_model.specs.Holding.{truncate_step}
use Rattle.mount_sound.specs.Ledger.{Ledger, Written, entries_in, content, AreWritesOf}
use Rattle.mount_sound.specs.Items.{HasItem, HasMeta}
use Rattle.mount_sound.specs.Dropping.{IsDropping, IsWriter, AreBeside, log_bytes}
use Rattle.mount_sound.specs.Kept.{IsKept}
use Rattle.mount_sound.specs.Sound.{AreSound, TruncatesDiffer}
use Rattle.mount_sound.specs.Owed.{IsTop}
use Rattle.mount_sound.proofs.Soundness.Items.{SameButItem, same_but_item, owner, had, has_still, had_item_of, is_index, is_log, is_open}
use Rattle.mount_sound.proofs.Soundness.Frames.{Fits, dead_frame, dropping_frame, log_frame, settled_frame}
use Rattle.mount_sound.proofs.Soundness.Local.{AllFit}
use Rattle.mount_sound.proofs.Soundness.RoomFrames.{one_sound}
use Rattle.mount_sound.proofs.Soundness.There.{writer_told}

same_trunc : (s z t u : ℕ) → (Trunc s z ≡ Trunc t u → ⊥) ⊎ ((s ≡ t) × (z ≡ u))
same_trunc s z t u = elim (cases_eq s t) as (λ _. (Trunc s z ≡ Trunc t u → ⊥) ⊎ ((s ≡ t) × (z ≡ u))) [
  | inr other ↦ inl (λ e. other (cc))
  | inl same ↦ elim (cases_eq z u) as (λ _. (Trunc s z ≡ Trunc t u → ⊥) ⊎ ((s ≡ t) × (z ≡ u))) [
    | inr other ↦ inl (λ e. other (cc))
    | inl equal ↦ inr (same, equal)
  ]
]

all_below : (top stamp : ℕ) → top < stamp → (es : List Entry) → AllByRecursion (λ (e : Entry). e.stamp ≤ top) es → AllByRecursion (λ (e : Entry). e.stamp < stamp) es
all_below top stamp l [] all = tt
all_below top stamp l (e ∷ es) all = (omega (arith, all.0, l), all_below top stamp l es all.1)

take_nothing : (es : List Entry) → take 0 es ≡ []
take_nothing [] = refl
take_nothing (e ∷ es) = refl

-- ---- one more truncate in the room

module _ (stamp size top : ℕ) (room new : Room) (b : SameButItem (Trunc stamp size) room new) (above : top < stamp) (is_top : IsTop room top) where
  not_it : (item : Item) (writer : ℕ) → owner item ≡ Some writer → item ≡ Trunc stamp size → ⊥
  not_it item writer o e = let owners : owner item ≡ None = ap owner e in cc

  file : (item : Item) (writer : ℕ) → IsItem item → owner item ≡ Some writer → file_at new (path_of item) ≡ file_at room (path_of item)
  file item writer is o = b.others item is (not_it item writer o)

  kept : (item : Item) (writer : ℕ) → IsItem item → owner item ≡ Some writer → kept_at new (path_of item) ≡ kept_at room (path_of item)
  kept item writer is o = b.kepts item is (not_it item writer o)

  had_its_meta : (host writer : ℕ) → HasMeta new host writer → HasMeta room host writer
  had_its_meta host writer m = record { last = m.last; bytes = m.bytes; stamp = m.stamp; content = m.content; has = had room new (Meta m.last m.bytes m.stamp host writer) m.content (λ is. file (Meta m.last m.bytes m.stamp host writer) writer is refl) m.has }

  still_its_meta : (host writer : ℕ) → HasMeta room host writer → HasMeta new host writer
  still_its_meta host writer m = record { last = m.last; bytes = m.bytes; stamp = m.stamp; content = m.content; has = has_still room new (Meta m.last m.bytes m.stamp host writer) m.content (λ is. file (Meta m.last m.bytes m.stamp host writer) writer is refl) m.has }

  -- a truncate is this one, or stood before
  which : (s z : ℕ) (inside : List ℕ) → HasItem new (Trunc s z) inside → ((s ≡ stamp) × (z ≡ size)) ⊎ HasItem room (Trunc s z) inside
  which s z inside h = elim (same_trunc s z stamp size) as (λ _. ((s ≡ stamp) × (z ≡ size)) ⊎ HasItem room (Trunc s z) inside) [
    | inl other ↦ inr (had room new (Trunc s z) inside (λ is. b.others (Trunc s z) is other) h)
    | inr same ↦ inl same
  ]

  -- what has landed of a writer is below it
  landed_below : (writer : ℕ) (issued : List Written) (w : IsWriter room writer issued) → writer < 2 ^ 64 → AreWritesOf writer issued → AllByRecursion (λ (e : Entry). e.stamp < stamp) (take w.landed (entries_in issued))
  landed_below writer issued w fits valid = by_file (file_at room (index_path w.host writer)) refl w.index
    where
      by_file : (index : Option (List ℕ)) → file_at room (index_path w.host writer) ≡ index → MatchOption index (w.landed ≡ 0) (IsDropping writer issued w.landed (length (log_bytes room w.host writer))) → AllByRecursion (λ (e : Entry). e.stamp < stamp) (take w.landed (entries_in issued))
      by_file None e none = subst (AllByRecursion (λ (e : Entry). e.stamp < stamp)) (sym (ap (λ n. take n (entries_in issued)) none ∙ take_nothing (entries_in issued))) tt
      by_file (Some bytes) e d =
          all_below top stamp above (take w.landed (entries_in issued))
          (subst (AllByRecursion (λ (e : Entry). e.stamp ≤ top)) (writer_told room writer issued w fits valid)
          (is_top.entries w.host writer bytes (record { is_item = is_index w.host writer w.host_fits fits; there = e })))

  pub writer_truncated : (writer : ℕ) (issued : List Written) → writer < 2 ^ 64 → AreWritesOf writer issued → IsWriter room writer issued → IsWriter new writer issued
  writer_truncated writer issued fits valid w =
      let index_same = file (Index w.host writer) writer (is_index w.host writer w.host_fits fits) refl in
      let log_same = file (Log w.host writer) writer (is_log w.host writer w.host_fits fits) refl in
      let open_same = file (OpenHost w.host writer) writer (is_open w.host writer w.host_fits fits) refl in
      record {
        host = w.host;
        host_fits = w.host_fits;
        one_host = λ other h. w.one_host other (had_item_of room new other writer (λ item is o a. file item writer is o) h);
        landed = w.landed;
        within = w.within;
        index = dropping_frame room new w.host writer issued w.landed index_same log_same w.index;
        log = log_frame room new w.host writer (content issued) log_same w.log;
        left = λ gone some. still_its_meta w.host writer (w.left (sym open_same ∙ gone) some);
        told = λ last bytes s inside h. w.told last bytes s inside (had room new (Meta last bytes s w.host writer) inside (λ is. file (Meta last bytes s w.host writer) writer is refl) h);
        settled = λ m. settled_frame room new w.host writer (take w.landed (entries_in issued)) index_same (omega (arith, kept (Index w.host writer) writer (is_index w.host writer w.host_fits fits) refl)) (omega (arith, kept (Log w.host writer) writer (is_log w.host writer w.host_fits fits) refl)) (w.settled (had_its_meta w.host writer m));
        beside = λ s z inside h. elim (which s z inside h) as (λ _. AreBeside s (take w.landed (entries_in issued))) [
          | inl this ↦ inl (subst (λ t. AllByRecursion (λ (e : Entry). e.stamp < t) (take w.landed (entries_in issued))) (sym this.0) (landed_below writer issued w fits valid))
          | inr old ↦ w.beside s z inside old
        ];
      }

  -- of a writer that isn't live
  pub dead_truncated : (row : Row) (issued : List Written) → Fits row → (is_live row.stage ≡ true → ⊥) → IsKept room row issued → IsKept new row issued
  dead_truncated row issued fits dead k = dead_frame row room new issued dead
      (record {
        index = file (Index row.host row.id) row.id (is_index row.host row.id fits.host fits.id) refl;
        index_kept = omega (arith, kept (Index row.host row.id) row.id (is_index row.host row.id fits.host fits.id) refl);
        log = file (Log row.host row.id) row.id (is_log row.host row.id fits.host fits.id) refl;
        log_kept = omega (arith, kept (Log row.host row.id) row.id (is_log row.host row.id fits.host fits.id) refl);
      }) k

  pub truncates_truncated : TruncatesDiffer room → TruncatesDiffer new
  truncates_truncated d s size_a size_b a c has_a has_b = elim (which s size_a a has_a) as (λ _. size_a ≡ size_b) [
    | inl this ↦ elim (which s size_b c has_b) as (λ _. size_a ≡ size_b) [
      | inl that ↦ this.1 ∙ sym that.1
      | inr old ↦ absurd (omega (arith, is_top.truncates s size_b c old, above, this.0))
    ]
    | inr old ↦ elim (which s size_b c has_b) as (λ _. size_a ≡ size_b) [
      | inl that ↦ absurd (omega (arith, is_top.truncates s size_a a old, above, that.0))
      | inr older ↦ d s size_a size_b a c old older
    ]
  ]

-- ---- the whole tree

-- no live writer is in the room
abbrev pub HasNoneLive : ℕ → List Row → Type 0
HasNoneLive number rows = (id : ℕ) (row : Row) → row_of id rows ≡ Some row → row.room ≡ number → is_live row.stage ≡ true → ⊥

-- Writers are sound once a truncate above all of the room stands there.
pub truncate_sound : (last : ℕ) (issued : Ledger) (rows : List Row) (tree : Tree) (fit : AllFit rows) (h : Holder) (stamp size top : ℕ) → IsItem (Trunc stamp size) → top < stamp
    → ((room : Room) → slice_get tree.rooms h.room ≡ Some room → IsTop room top) → HasNoneLive h.room rows → AreSound last issued rows tree
    → (told : Told) (after : Tree) → Tells (truncate_step h stamp size) tree told after → AreSound last issued rows after
truncate_sound last issued rows tree fit h stamp size top item above is_top none s told after t = elim (create_told h.room (trunc_path stamp size) tree told after t).either as (λ _. AreSound last issued rows after) [
  | inr same ↦ subst (AreSound last issued rows) (sym same) s
  | inl c ↦
      let b : SameButItem (Trunc stamp size) c.room c.new = same_but_item (Trunc stamp size) c.room c.new item c.others in
      let tops : IsTop c.room top = is_top c.room c.has_room in
      subst (AreSound last issued rows) (sym c.gives)
      (one_sound h.room c.room c.new issued rows tree c.has_room last
      (λ x. record {
        writers = λ w fits. writer_truncated stamp size top c.room c.new b above tops w (issued h.room w) fits (s.writes h.room w) (x.writers w fits);
        kept = λ q row e at. dead_truncated stamp size top c.room c.new b above tops row (issued h.room q) (fit q row e) (none q row e at) (x.kept q row e at);
        truncates = truncates_truncated stamp size top c.room c.new b above tops x.truncates;
      })
      s)
]

-- Making a dead writer's metadata dropping keeps soundness.
use Rattle.std.proofs.Common.{◌≡◌, ◌≤◌, ◌<◌, ◌+◌, ◌*◌, ◌^◌, ℕ, List, [], ◌∷◌, ◌++◌, length, take, refl, ap, sym, ◌∙◌, inl, inr, subst, arith, length-append, Some}
use Rattle.std.specs.Prelude.{MatchOption}
use Rattle.std.proofs.lemmas.List.{append-nil, length-map, length-take-le}
use Rattle.plfs_types.specs.declared.entries.Cover.{Cover}
use Rattle.plfs_types.specs.declared.entries.Entry.{Entry}
use Rattle.index_entry.specs.Spelling.{spelling_all}
use Rattle.index_entry.proofs.Facts.{length-spelling_all}
use Rattle.container_layout.specs.declared.items.Item.{Item}
use Rattle.container_layout.specs.declared.items.Item.TheVariants.{Meta, Index, Log}
use Rattle.container_layout.specs.Items.{IsItem, IsMetaRange}
use Rattle.store_api.specs.declared.tree.Room.{Room}
use Rattle.store_api.specs.declared.tree.Tree.{Tree}
use Rattle.store_laws.specs.Changes.{Created}
use Rattle.store_laws.specs.Files.{file_at, kept_at}
use Rattle.store_laws.proofs.Facts.{create_told}
use Rattle.mount_model.specs.declared.reply.Reply.{Reply}
use Rattle.mount_model.specs.declared.row.Row.{Row}
use Rattle.mount_model.specs.Paths.{index_path, log_path, meta_path}
use Rattle.mount_model.specs.Recovering.{MendsItsMeta, MendsMeta, mended_file, mend_check, mend_meta_outcome, mend_meta_step}
use Rattle.mount_model.specs.Regular.{IsRegular}
use Rattle.mount_model.specs.State.{State, last_id}
use Rattle.mount_model.proofs.Facts.{may_mend}
use Rattle.mount_sound.specs.Dropping.{IsDropping, IsKeptWhole, IsToldOf, IsWriter, bytes_of, log_bytes}
use Rattle.mount_sound.specs.Entries.{AreEntriesOf, greatest_end, last_stamp, logged}
use Rattle.mount_sound.specs.Items.{HasItem, HasMeta}
use Rattle.mount_sound.specs.Ledger.{Written, AreWritesOf, content, entries_in, Ledger}
use Rattle.mount_sound.specs.Owed.{InRoom, MayMendMeta}
use Rattle.mount_sound.specs.Sound.{AreSound}
use Rattle.mount_sound.specs.There.{landed_entries}
use Rattle.mount_sound.proofs.Droppings.Closing.{meta_tells}
use Rattle.mount_sound.proofs.Soundness.Frames.{Fits, dead_frame, dropping_frame}
use Rattle.mount_sound.proofs.DeadWriters.Gone.{IsGone, gone_rows, item_changed, mend_meta_table}
use Rattle.mount_sound.proofs.Soundness.Items.{SameButItem, same_but_item, is_index, is_log}
use Rattle.mount_sound.proofs.Soundness.Landing.{in_order_take, logged_take}
use Rattle.mount_sound.proofs.Soundness.Live.{one_host_kept, log_kept, had_trunc_but}
use Rattle.mount_sound.proofs.Soundness.Local.{AllFit}
use Rattle.mount_sound.proofs.Calls.Making.{AreRight, IsAccounted, makes_accounted, all_fit}
use Rattle.mount_sound.proofs.Writers.Stages.{unless_refused}
use Rattle.mount_sound.proofs.Soundness.There.{writer_told}

-- a dropping with no more bytes than its landed entries has spells them
spelled_exactly : (writer : ℕ) (issued : List Written) (landed log : ℕ) (bytes : List ℕ) → landed ≤ length issued → IsDropping writer issued landed log bytes → length bytes ≡ 40 * landed → bytes ≡ spelling_all (take landed (entries_in issued))
spelled_exactly writer issued landed log bytes within d exact =
    let es : List Entry = take landed (entries_in issued) in
    let has : length es ≡ landed = length-take-le landed (entries_in issued) (omega (arith, within, length-map issued (λ (w : Written). w.entry))) in
    let parts : length bytes ≡ 40 * (landed + length d.more) + length d.tail = omega (arith, ap length d.spelled, length-append (spelling_all (es ++ d.more)) d.tail, length-spelling_all (es ++ d.more), length-append es d.more, has) in
    let more : d.more ≡ [] = none d.more (omega (arith, parts, exact)) in
    let tail : d.tail ≡ [] = none d.tail (omega (arith, parts, exact)) in
    d.spelled ∙ ap (λ t. spelling_all (es ++ d.more) ++ t) tail ∙ append-nil (spelling_all (es ++ d.more)) ∙ ap (λ m. spelling_all (es ++ m)) more ∙ ap spelling_all (append-nil es)
  where
    none : {A : Type 0} (xs : List A) → length xs ≤ 0 → xs ≡ []
    none [] l = refl
    none (x ∷ xs) l = absurd (omega arith)

-- ---- the numbers that entries tell are in the ranges of a metadata dropping

last_within : (writer last offset : ℕ) (es : List Entry) → AreEntriesOf writer last offset es → last < 2 ^ 63 → (last_stamp last es < 2 ^ 63) × (last ≤ last_stamp last es)
last_within writer last offset [] o l = (l, omega arith)
last_within writer last offset (e ∷ es) o l = let rest = last_within writer e.stamp (offset + e.len) es o.1 (omega (arith, o.0.in_range)) in (rest.0, omega (arith, rest.1, o.0.later))

end_within : (writer last offset : ℕ) (es : List Entry) → AreEntriesOf writer last offset es → greatest_end es ≤ 2 ^ 40
end_within writer last offset [] o = omega arith
end_within writer last offset (e ∷ es) o = omega (arith, o.0.within, end_within writer e.stamp (offset + e.len) es o.1)

told_range : (writer : ℕ) (es : List Entry) → AreEntriesOf writer 0 0 es → 1 ≤ length es → logged es ≤ 2 ^ 56 → IsMetaRange (greatest_end es) (logged es) (last_stamp 0 es)
told_range writer [] o some few = absurd (omega (arith, some))
told_range writer (e ∷ es) o some few =
    let stamps = last_within writer e.stamp (0 + e.len) es o.1 (omega (arith, o.0.in_range)) in record {
      last_fits = end_within writer 0 0 (e ∷ es) o;
      bytes_fit = few;
      stamp_fits = omega (arith, stamps.0);
      all_or_none = inr (omega (arith, o.0.some), omega (arith, o.0.some), omega (arith, stamps.1, o.0.later));
    }

-- the metadata dropping that is made
abbrev the_meta : ℕ → Cover → ℕ → Item
the_meta host cover last = Meta last cover.bytes cover.stamp host cover.writer

module _ (room : Room) (host : ℕ) (cover : Cover) (last : ℕ) (issued : List Written) (small : cover.writer < 2 ^ 64) (v : AreWritesOf cover.writer issued) (w : IsWriter room cover.writer issued) (may : MayMendMeta host cover last room) where
  at : host ≡ w.host
  at = w.one_host host (inl (may.content, may.stands))

  landed_are : landed_entries room host cover.writer ≡ take w.landed (entries_in issued)
  landed_are = ap (λ h. landed_entries room h cover.writer) at ∙ writer_told room cover.writer issued w small v

  has_landed : length (take w.landed (entries_in issued)) ≡ w.landed
  has_landed = length-take-le w.landed (entries_in issued) (omega (arith, w.within, length-map issued (λ (x : Written). x.entry)))

  counted : cover.count ≡ w.landed
  counted = may.all ∙ ap length landed_are ∙ has_landed

  told_of : IsToldOf last cover.bytes cover.stamp (take w.landed (entries_in issued))
  told_of = subst (IsToldOf last cover.bytes cover.stamp) landed_are may.told

  its_range : IsMetaRange last cover.bytes cover.stamp
  its_range =
      let es : List Entry = take w.landed (entries_in issued) in
      let range : IsMetaRange (greatest_end es) (logged es) (last_stamp 0 es) = told_range cover.writer es (in_order_take w.landed cover.writer 0 0 (entries_in issued) v.in_order) (omega (arith, may.some, counted, has_landed)) (omega (arith, v.small, logged_take w.landed (entries_in issued))) in
      subst (λ n. IsMetaRange n cover.bytes cover.stamp) (sym told_of.end)
      (subst (λ n. IsMetaRange (greatest_end es) n cover.stamp) (sym told_of.sum)
      (subst (λ n. IsMetaRange (greatest_end es) (logged es) n) (sym told_of.latest) range))

  -- ---- once it is made

  module _ (new : Room) (b : SameButItem (the_meta host cover last) room new) (m : HasMeta new host cover.writer) where
    index_same : file_at new (index_path w.host cover.writer) ≡ file_at room (index_path w.host cover.writer)
    index_same = b.others (Index w.host cover.writer) (is_index w.host cover.writer w.host_fits small) (λ e. cc)

    stood : file_at room (index_path w.host cover.writer) ≡ Some may.content
    stood = ap (λ h. file_at room (index_path h cover.writer)) (sym at) ∙ may.stands.there

    dropping : IsDropping cover.writer issued w.landed (length (log_bytes room w.host cover.writer)) may.content
    dropping = subst (λ o. MatchOption o (w.landed ≡ 0) (IsDropping cover.writer issued w.landed (length (log_bytes room w.host cover.writer)))) stood w.index

    whole_kept : IsKeptWhole new w.host cover.writer (take w.landed (entries_in issued))
    whole_kept = record {
      index = ap bytes_of (index_same ∙ stood) ∙ spelled_exactly cover.writer issued w.landed (length (log_bytes room w.host cover.writer)) may.content w.within dropping (omega (arith, may.exact, counted));
      index_kept = omega (arith, has_landed, may.exact, counted, may.index_kept, ap (λ h. kept_at room (index_path h cover.writer)) at, b.kepts (Index w.host cover.writer) (is_index w.host cover.writer w.host_fits small) (λ e. cc));
      log_kept = omega (arith, told_of.sum, may.log_kept, ap (λ h. kept_at room (log_path h cover.writer)) at, b.kepts (Log w.host cover.writer) (is_log w.host cover.writer w.host_fits small) (λ e. cc));
    }

    told_at : (h : ℕ) → host ≡ h → ((l c t : ℕ) (inside : List ℕ) → HasItem room (Meta l c t h cover.writer) inside → IsToldOf l c t (take w.landed (entries_in issued))) → (l c t : ℕ) (inside : List ℕ) → HasItem new (Meta l c t h cover.writer) inside → IsToldOf l c t (take w.landed (entries_in issued))
    told_at h e told = meta_tells last cover.bytes cover.stamp h cover.writer (take w.landed (entries_in issued)) told_of room new (subst (λ x. SameButItem (the_meta x cover last) room new) e b) told

    settled_writer : IsWriter new cover.writer issued
    settled_writer = record {
      host = w.host;
      host_fits = w.host_fits;
      one_host = one_host_kept (the_meta host cover last) w.host cover.writer room new (ap (λ h. Some h) at) b w.one_host;
      landed = w.landed;
      within = w.within;
      index = dropping_frame room new w.host cover.writer issued w.landed index_same (b.others (Log w.host cover.writer) (is_log w.host cover.writer w.host_fits small) (λ e. cc)) w.index;
      log = log_kept (the_meta host cover last) w.host cover.writer room new (content issued) w.host_fits small (λ e. cc) b w.log;
      left = λ gone some. subst (λ h. HasMeta new h cover.writer) at m;
      told = told_at w.host at w.told;
      settled = λ there. whole_kept;
      beside = λ stamp size inside h. w.beside stamp size inside (had_trunc_but (the_meta host cover last) cover.writer room new stamp size inside refl b h);
    }

-- ---- the call

meta_mended : (last : ℕ) (issued : Ledger) (rows : List Row) (tree : Tree) (number host : ℕ) (cover : Cover) (end : ℕ) → host < 2 ^ 32 → cover.writer < 2 ^ 64 → AllFit rows → IsGone rows cover.writer → AreSound last issued rows tree
    → (after : Tree) (c : Created tree number (meta_path end cover.bytes cover.stamp host cover.writer) after) → MayMendMeta host cover end c.room → AreSound last issued rows after
meta_mended last issued rows tree number host cover end host_fits small fit dead s after c may =
    let here = s.rooms number c.room c.has_room in
    let w : IsWriter c.room cover.writer (issued number cover.writer) = here.writers cover.writer small in
    let is : IsItem (the_meta host cover end) = record { in_range = its_range c.room host cover end (issued number cover.writer) small (s.writes number cover.writer) w may; widths = (host_fits, small) } in
    let b : SameButItem (the_meta host cover end) c.room c.new = same_but_item (the_meta host cover end) c.room c.new is c.others in
    let m : HasMeta c.new host cover.writer = record { last = end; bytes = cover.bytes; stamp = cover.stamp; content = []; has = record { is_item = is; there = c.now } } in
    subst (AreSound last issued rows) (sym c.gives)
    (item_changed last issued rows tree number c.room c.new (the_meta host cover end) cover.writer c.has_room fit refl b
    (λ fits. settled_writer c.room host cover end (issued number cover.writer) small (s.writes number cover.writer) w may c.new b m)
    (λ row e here_too. dead_frame row c.room c.new (issued number cover.writer) (dead row e)
    (let fits : Fits row = fit cover.writer row e in record {
      index = b.others (Index row.host row.id) (is_index row.host row.id fits.host fits.id) (λ x. cc);
      index_kept = omega (arith, b.kepts (Index row.host row.id) (is_index row.host row.id fits.host fits.id) (λ x. cc));
      log = b.others (Log row.host row.id) (is_log row.host row.id fits.host fits.id) (λ x. cc);
      log_kept = omega (arith, b.kepts (Log row.host row.id) (is_log row.host row.id fits.host fits.id) (λ x. cc));
    }) (here.kept cover.writer row e here_too)) s)

-- Making a writer's metadata dropping keeps soundness.
pub mend_meta_keeps : (issued : Ledger) (old : State) (room host : ℕ) (cover : Cover) (last : ℕ) (reply : Reply) (new : State) → IsRegular old → InRoom old room (MayMendMeta host cover last) → MendsMeta room host cover last old reply new → IsAccounted issued old → IsAccounted issued new
mend_meta_keeps issued old room host cover last reply new r may f a =
    unless_refused issued (mend_check old room cover.writer) old reply new (MendsItsMeta room host cover last old reply new) f a
    (λ none x.
    makes_accounted (mend_meta_step room host cover last) (mend_meta_outcome (mended_file host cover last) old.table) (λ y. issued) old reply new a.tree a.told
    (λ told after t. subst (λ table. AreRight (last_id old) issued table after) (sym (mend_meta_table (mended_file host cover last) old.table told))
    (elim (create_told room (meta_path last cover.bytes cover.stamp host cover.writer) a.tree told after t).either as (λ _. AreSound (last_id old) issued old.table.writers after) [
      | inl c ↦ meta_mended (last_id old) issued old.table.writers a.tree room host cover last x.named.host_fits x.named.writer_fits (all_fit old r) (gone_rows old.table.writers cover.writer (may_mend old room cover.writer none).1) a.right after c (may a.tree c.room a.told c.has_room)
      | inr same ↦ subst (AreSound (last_id old) issued old.table.writers) (sym same) a.right
    ])) x.makes)

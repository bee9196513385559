-- A flattened index stays right for a room where the entries that are kept there stay, and so does a packed one.
use Rattle.std.proofs.Common.{◌≡◌, ◌≤◌, ◌/◌, ◌+◌, ◌*◌, ℕ, List, [], ◌∷◌, ◌++◌, length, take, drop, Some, refl, ap, sym, ◌∙◌, inl, inr, subst, arith}
use Rattle.std.proofs.lemmas.Bool.{cases_lt}
use Rattle.std.proofs.lemmas.List.{append-nil, length-map, length-take-le, take-append-drop}
use Rattle.plfs_types.specs.declared.entries.Cover.{Cover}
use Rattle.plfs_types.specs.declared.entries.Entry.{Entry}
use Rattle.container_layout.specs.declared.items.Item.{Item}
use Rattle.container_layout.specs.declared.items.Item.TheVariants.{Meta, Index, Log}
use Rattle.container_layout.specs.Items.{IsItem}
use Rattle.container_layout.specs.Paths.{path_of}
use Rattle.index_entry.proofs.Facts.{length-spelling_all}
use Rattle.index_pack.specs.Spelling.{Packs}
use Rattle.store_api.specs.declared.tree.Room.{Room}
use Rattle.store_laws.specs.Files.{file_at, kept_at}
use Rattle.mount_model.specs.declared.row.Making.{Making}
use Rattle.mount_model.specs.declared.row.Making.TheVariants as making
use Rattle.mount_model.specs.Paths.{index_path, log_path}
use Rattle.mount_sound.specs.Dropping.{bytes_of, IsKeptWhole, IsToldOf, IsWriter}
use Rattle.mount_sound.specs.Entries.{AreEntriesOf, last_stamp, logged}
use Rattle.mount_sound.specs.Fitting.{fitting}
use Rattle.mount_sound.specs.Flats.{covered_entries, IsCovered, AreCovered, IsRightFlat, IsRightFor, IsRightPack}
use Rattle.mount_sound.specs.Items.{HasItem, HasMeta}
use Rattle.mount_sound.specs.Keeping.{kept_in}
use Rattle.mount_sound.specs.Ledger.{Written, entries_in, AreWritesOf}
use Rattle.mount_sound.specs.There.{entries_there, landed_entries}
use Rattle.mount_sound.proofs.Soundness.Fitting.{logged_parts, order_drop, take_less}
use Rattle.mount_sound.proofs.Soundness.Items.{is_log, owner}
use Rattle.mount_sound.proofs.Kept.Keeping.{AreKept, same_host, kept_landed, kept_most}
use Rattle.mount_sound.proofs.Soundness.Landing.{in_order_take}
use Rattle.mount_sound.proofs.Soundness.Orders.{some_logged}
use Rattle.mount_sound.proofs.Soundness.There.{writer_told}

-- The writer's entries that are kept stay the first that landed, and no fewer are kept. Where it has a metadata dropping,
-- it has one yet, and no more have landed.
pub record KeepsEntries (room new : Room) (host writer : ℕ) : Type 0 where
  pub content : List ℕ
  pub stands : HasItem new (Index host writer) content
  pub no_fewer : kept_in room host writer ≤ kept_in new host writer
  pub same : take (kept_in room host writer) (landed_entries new host writer) ≡ take (kept_in room host writer) (landed_entries room host writer)
  pub all : HasMeta room host writer → HasMeta new host writer × (landed_entries new host writer ≡ landed_entries room host writer)

-- so it is of each index dropping
abbrev pub KeepsAllEntries : Room → Room → Type 0
KeepsAllEntries room new = (host writer : ℕ) (content : List ℕ) → HasItem room (Index host writer) content → KeepsEntries room new host writer

-- ---- what is covered

module _ (room new : Room) (keeps : KeepsAllEntries room new) where
  pub its : (c : Cover) (is : IsCovered room c) → KeepsEntries room new is.host c.writer
  its c is = keeps is.host c.writer is.content is.stands

  pub same_covered : (c : Cover) (is : IsCovered room c) → covered_entries new is.host c ≡ covered_entries room is.host c
  same_covered c is =
      sym (take_less c.count (kept_in room is.host c.writer) (landed_entries new is.host c.writer) is.kept)
      ∙ ap (λ es. take c.count es) (its c is).same
      ∙ take_less c.count (kept_in room is.host c.writer) (landed_entries room is.host c.writer) is.kept

  abbrev pub covered_on : (c : Cover) → IsCovered room c → IsCovered new c
  covered_on c is = record {
    host = is.host;
    content = (its c is).content;
    stands = (its c is).stands;
    kept = omega (arith, is.kept, (its c is).no_fewer);
    sum = is.sum ∙ ap logged (sym (same_covered c is));
    latest = is.latest ∙ ap (last_stamp 0) (sym (same_covered c is));
  }

  pub all_covered_on : (covers : List Cover) (entries : List Entry) → AreCovered room covers entries → AreCovered new covers entries
  all_covered_on [] entries a = a
  all_covered_on (c ∷ covers) entries a = (covered_on c a.0, (a.1.0, a.1.1 ∙ ap (λ es. es ++ a.1.0) (sym (same_covered c a.0)), all_covered_on covers a.1.0 a.1.2))

  -- A right flattened index stays right.
  pub flats_frame : (bytes : List ℕ) → IsRightFlat room bytes → IsRightFlat new bytes
  flats_frame bytes r = record {
    flat = r.flat;
    valid = r.valid;
    spelled = r.spelled;
    entries = r.entries;
    covered = all_covered_on r.flat.covers r.entries r.covered;
    pieces = r.pieces;
  }

  -- So does a right packed index.
  packs_frame : (host writer : ℕ) (bytes : List ℕ) → IsRightPack room host writer bytes → IsRightPack new host writer bytes
  packs_frame host writer bytes r =
      let k = keeps host writer r.content r.stands in
      let a = k.all r.left in
      record { content = k.content; stands = k.stands; left = a.0; packs = subst (Packs bytes) (sym a.1) r.packs }

  pub right_frame : (makes : Making) (bytes : List ℕ) → IsRightFor room makes bytes → IsRightFor new makes bytes
  right_frame making.Flat bytes r = flats_frame bytes r
  right_frame (making.Pack host writer) bytes r = packs_frame host writer bytes r

-- ---- where all entries are told

no_entries : (es : List Entry) → length es ≡ 0 → es ≡ []
no_entries [] e = refl
no_entries (x ∷ es) e = absurd (omega (arith, e))

-- entries in order that begin with others and have no more bytes are those
no_more : (n writer : ℕ) (es first : List Entry) → AreEntriesOf writer 0 0 es → take n es ≡ first → logged es ≡ logged first → es ≡ first
no_more n writer es first order begins sum =
    let rest : logged (drop n es) ≡ 0 = omega (arith, logged_parts n es, ap logged begins, sum) in
    let none : drop n es ≡ [] = no_entries (drop n es) (elim (cases_lt 0 (length (drop n es))) as (λ _. length (drop n es) ≡ 0) [
      | inl some ↦ absurd (omega (arith, rest, some_logged writer (last_stamp 0 (take n es)) (0 + logged (take n es)) (drop n es) (order_drop n writer 0 0 es order) (omega (arith, some))))
      | inr least ↦ omega (arith, least)
    ]) in
    sym (take-append-drop n es) ∙ ap (λ t. take n es ++ t) none ∙ append-nil (take n es) ∙ begins

-- the metadata droppings of the writer stay
abbrev pub MetasStay : Room → Room → ℕ → ℕ → Type 0
MetasStay room new host writer = (last bytes stamp : ℕ) (inside : List ℕ) → HasItem room (Meta last bytes stamp host writer) inside → (later : List ℕ) × HasItem new (Meta last bytes stamp host writer) later

-- ---- where entries are kept

-- two rooms in which they are the first of the writer's writes
pub kept_entries : (room new : Room) (host writer : ℕ) (few many : List Written) (w : IsWriter room writer few) → AreWritesOf writer few → (w' : IsWriter new writer many) → AreWritesOf writer many → (content : List ℕ) → HasItem room (Index host writer) content
    → take (kept_in room host writer) (entries_in many) ≡ take (kept_in room host writer) (entries_in few) → AreKept new host writer many (kept_in room host writer) → MetasStay room new host writer → KeepsEntries room new host writer
kept_entries room new host writer few many w v w' v' content h first k metas =
    let n : ℕ = kept_in room host writer in
    let no_fewer : n ≤ kept_in new host writer = kept_most new host writer many w' v' k.bytes k.has n k.issued_were k.long k.index k.log in
    let small = h.is_item.widths.1 in
    let was : landed_entries room host writer ≡ take w.landed (entries_in few) = ap (λ x. landed_entries room x writer) (same_host room host writer few w v content h) ∙ writer_told room writer few w small v in
    let is : landed_entries new host writer ≡ take w'.landed (entries_in many) = ap (λ x. landed_entries new x writer) (same_host new host writer many w' v' k.bytes k.has) ∙ writer_told new writer many w' small v' in
    let before : n ≤ w.landed = kept_landed room host writer few w v content h in
    let after : n ≤ w'.landed = omega (arith, no_fewer, kept_landed new host writer many w' v' k.bytes k.has) in
    record {
      content = k.bytes;
      stands = k.has;
      no_fewer = no_fewer;
      same = ap (λ es. take n es) is ∙ take_less n w'.landed (entries_in many) after ∙ first ∙ sym (take_less n w.landed (entries_in few) before) ∙ ap (λ es. take n es) (sym was);
      all = λ m.
          let later = metas m.last m.bytes m.stamp m.content m.has in
          let here : host ≡ w.host = same_host room host writer few w v content h in
          let there : host ≡ w'.host = same_host new host writer many w' v' k.bytes k.has in
          let told : IsToldOf m.last m.bytes m.stamp (take w.landed (entries_in few)) = w.told m.last m.bytes m.stamp m.content (subst (λ x. HasItem room (Meta m.last m.bytes m.stamp x writer) m.content) here m.has) in
          let told_then : IsToldOf m.last m.bytes m.stamp (take w'.landed (entries_in many)) = w'.told m.last m.bytes m.stamp later.0 (subst (λ x. HasItem new (Meta m.last m.bytes m.stamp x writer) later.0) there later.1) in
          let whole : IsKeptWhole room host writer (take w.landed (entries_in few)) = subst (λ x. IsKeptWhole room x writer (take w.landed (entries_in few))) (sym here) (w.settled (subst (λ x. HasMeta room x writer) here m)) in
          let counted : length (take w.landed (entries_in few)) ≡ w.landed = length-take-le w.landed (entries_in few) (omega (arith, w.within, length-map few (λ (x : Written). x.entry))) in
          let long : length content ≡ 40 * w.landed = omega (arith, ap length whole.index, ap (λ f. length (bytes_of f)) h.there, length-spelling_all (take w.landed (entries_in few)), counted) in
          let most : w.landed ≤ n = kept_most room host writer few w v content h w.landed w.within (omega (arith, long)) (omega (arith, whole.index_kept, counted)) whole.log_kept in
          let number : n ≡ w.landed = omega (arith, most, before) in
          let begins : take n (take w'.landed (entries_in many)) ≡ take w.landed (entries_in few) = take_less n w'.landed (entries_in many) after ∙ first ∙ ap (λ c. take c (entries_in few)) number in (
            record { last = m.last; bytes = m.bytes; stamp = m.stamp; content = later.0; has = later.1 },
            is ∙ no_more n writer (take w'.landed (entries_in many)) (take w.landed (entries_in few)) (in_order_take w'.landed writer 0 0 (entries_in many) v'.in_order) begins (omega (arith, told.sum, told_then.sum)) ∙ sym was,
          );
    }

-- the droppings are as they were
pub same_entries : (room new : Room) → ((item : Item) (writer : ℕ) → owner item ≡ Some writer → IsItem item → file_at new (path_of item) ≡ file_at room (path_of item)) → ((item : Item) (writer : ℕ) → owner item ≡ Some writer → IsItem item → kept_at new (path_of item) ≡ kept_at room (path_of item)) → KeepsAllEntries room new
same_entries room new files kepts host writer content h =
    let log = is_log host writer h.is_item.widths.0 h.is_item.widths.1 in
    let landed : landed_entries new host writer ≡ landed_entries room host writer =
    ap (λ f. entries_there (bytes_of f) (bytes_of (file_at new (log_path host writer)))) (files (Index host writer) writer refl h.is_item)
    ∙ ap (λ f. entries_there (bytes_of (file_at room (index_path host writer))) (bytes_of f)) (files (Log host writer) writer refl log) in
    let kept : kept_in new host writer ≡ kept_in room host writer =
    ap (λ n. fitting n 0 (take (kept_at new (index_path host writer) / 40) (landed_entries new host writer))) (kepts (Log host writer) writer refl log)
    ∙ ap (λ n. fitting (kept_at room (log_path host writer)) 0 (take (n / 40) (landed_entries new host writer))) (kepts (Index host writer) writer refl h.is_item)
    ∙ ap (λ es. fitting (kept_at room (log_path host writer)) 0 (take (kept_at room (index_path host writer) / 40) es)) landed in
    record {
      content = content;
      stands = record { is_item = h.is_item; there = files (Index host writer) writer refl h.is_item ∙ h.there };
      no_fewer = omega (arith, kept);
      same = ap (λ es. take (kept_in room host writer) es) landed;
      all = λ m. (
        record {
          last = m.last;
          bytes = m.bytes;
          stamp = m.stamp;
          content = m.content;
          has = record { is_item = m.has.is_item; there = files (Meta m.last m.bytes m.stamp host writer) writer refl m.has.is_item ∙ m.has.there };
        },
        landed,
      );
    }

-- How many entries are kept of a writer, by what it issued.
use Rattle.std.proofs.Common.{◌≡◌, ℕ, zero, suc, ◌*◌, ◌/◌, ◌≤◌, List, [], ◌∷◌, length, min, take, Some, ap, sym, ◌∙◌, inl, subst, arith}
use Rattle.std.specs.Prelude.{slice_get}
use Rattle.std.proofs.lemmas.List.{length-map, length-take-le}
use Rattle.plfs_types.specs.declared.entries.Entry.{Entry}
use Rattle.container_layout.specs.declared.items.Item.TheVariants.{Index}
use Rattle.store_api.specs.declared.tree.Room.{Room}
use Rattle.store_api.specs.declared.tree.Tree.{Tree}
use Rattle.store_laws.specs.Files.{kept_at}
use Rattle.mount_model.specs.Paths.{index_path, log_path}
use Rattle.mount_sound.specs.Entries.{logged}
use Rattle.mount_sound.specs.Ledger.{Written, entries_in, AreWritesOf}
use Rattle.mount_sound.specs.Items.{HasItem}
use Rattle.mount_sound.specs.Dropping.{IsWriter}
use Rattle.mount_sound.specs.Fitting.{fitting}
use Rattle.mount_sound.specs.Landed.{whole}
use Rattle.mount_sound.specs.There.{landed_entries, landed_in}
use Rattle.mount_sound.proofs.Soundness.Fitting.{fit_length, fit_within, fit_least, take_less}
use Rattle.mount_sound.proofs.Soundness.HasLanded.{landed_is}
use Rattle.mount_sound.proofs.Soundness.There.{writer_told}
use Rattle.mount_sound.specs.Keeping.{kept_in}

-- so many of the writer's first entries are in its index dropping, and kept there, and their bytes are kept in its log
pub record AreKept (room : Room) (host writer : ℕ) (issued : List Written) (count : ℕ) : Type 0 where
  pub bytes : List ℕ
  pub has : HasItem room (Index host writer) bytes
  pub issued_were : count ≤ length issued
  pub long : 40 * count ≤ length bytes
  pub index : 40 * count ≤ kept_at room (index_path host writer)
  pub log : logged (take count (entries_in issued)) ≤ kept_at room (log_path host writer)

-- so it is in the room of this number
pub record AreKeptIn (tree : Tree) (number host writer : ℕ) (issued : List Written) (count : ℕ) : Type 0 where
  pub room : Room
  pub there : slice_get tree.rooms number ≡ Some room
  pub are_kept : AreKept room host writer issued count

-- ---- of so many entries, those that end within the kept bytes of both droppings

pub few : {X : Type 0} (n : ℕ) (xs : List X) → length (take n xs) ≤ n
few zero [] = omega arith
few zero (x ∷ xs) = omega arith
few (suc n) [] = omega arith
few (suc n) (x ∷ xs) = omega (arith, few n xs)

pub fewer : {X : Type 0} (n : ℕ) (xs : List X) → length (take n xs) ≤ length xs
fewer zero [] = omega arith
fewer zero (x ∷ xs) = omega arith
fewer (suc n) [] = omega arith
fewer (suc n) (x ∷ xs) = omega (arith, fewer n xs)

enough : {X : Type 0} (k n : ℕ) (xs : List X) → k ≤ n → k ≤ length xs → k ≤ length (take n xs)
enough zero n xs l m = omega arith
enough (suc k) zero xs l m = absurd (omega arith)
enough (suc k) (suc n) [] l m = absurd (omega arith)
enough (suc k) (suc n) (x ∷ xs) l m = omega (arith, enough k n xs (omega arith) (omega arith))

pub record AreWithin (log index landed : ℕ) (es : List Entry) (count : ℕ) : Type 0 where
  pub within : count ≤ landed
  pub index_kept : 40 * count ≤ index
  pub log_kept : logged (take count es) ≤ log

whole_parts : (k n : ℕ) → k ≤ n / 40 → 40 * k ≤ n
whole_parts k n l = omega arith

parts_whole : (k n : ℕ) → 40 * k ≤ n → k ≤ n / 40
parts_whole k n l = omega arith

counted : (log index landed : ℕ) (es : List Entry) → AreWithin log index landed es (fitting log 0 (take (index / 40) (take landed es)))
counted log index landed es =
    let xs : List Entry = take (index / 40) (take landed es) in
    let k : ℕ = fitting log 0 xs in
    let most : k ≤ length xs = fit_length log 0 xs in
    let by_index : k ≤ index / 40 = omega (arith, most, few (index / 40) (take landed es)) in
    let by_landed : k ≤ landed = omega (arith, most, fewer (index / 40) (take landed es), few landed es) in
    let same : take k xs ≡ take k es = take_less k (index / 40) (take landed es) by_index ∙ take_less k landed es by_landed in
    record { within = by_landed; index_kept = whole_parts k index by_index; log_kept = omega (arith, fit_within log 0 xs (omega arith), ap logged same) }

least : (log index landed : ℕ) (es : List Entry) (k : ℕ) → AreWithin log index landed es k → k ≤ length es → k ≤ fitting log 0 (take (index / 40) (take landed es))
least log index landed es k w some =
    let xs : List Entry = take (index / 40) (take landed es) in
    let by_index : k ≤ index / 40 = parts_whole k index w.index_kept in
    let same : take k xs ≡ take k es = take_less k (index / 40) (take landed es) by_index ∙ take_less k landed es w.within in
    fit_least log 0 xs k (enough k (index / 40) (take landed es) by_index (enough k landed es w.within some)) (omega (arith, w.log_kept, ap logged same))

-- ---- of a writer

module _ (room : Room) (host writer : ℕ) (issued : List Written) (w : IsWriter room writer issued) (v : AreWritesOf writer issued) (bytes : List ℕ) (h : HasItem room (Index host writer) bytes) where
  pub same_host : host ≡ w.host
  same_host = w.one_host host (inl (bytes, h))

  its_entries : landed_entries room host writer ≡ take w.landed (entries_in issued)
  its_entries = ap (λ x. landed_entries room x writer) same_host ∙ writer_told room writer issued w h.is_item.widths.1 v

  pub landed_number : landed_in room host writer ≡ min (whole bytes) (length issued)
  landed_number = ap length its_entries ∙ length-take-le w.landed (entries_in issued) (omega (arith, w.within, length-map issued (λ (x : Written). x.entry))) ∙ landed_is room host writer issued bytes w h

  its_count : kept_in room host writer ≡ fitting (kept_at room (log_path host writer)) 0 (take (kept_at room (index_path host writer) / 40) (take w.landed (entries_in issued)))
  its_count = ap (λ es. fitting (kept_at room (log_path host writer)) 0 (take (kept_at room (index_path host writer) / 40) es)) its_entries

  its_within : AreWithin (kept_at room (log_path host writer)) (kept_at room (index_path host writer)) w.landed (entries_in issued) (kept_in room host writer)
  its_within = subst (AreWithin (kept_at room (log_path host writer)) (kept_at room (index_path host writer)) w.landed (entries_in issued)) (sym its_count) (counted (kept_at room (log_path host writer)) (kept_at room (index_path host writer)) w.landed (entries_in issued))

  pub kept_landed : kept_in room host writer ≤ w.landed
  kept_landed = its_within.within

  as_whole : (n k len : ℕ) → k ≤ n → n ≤ len / 40 → 40 * k ≤ len
  as_whole n k len l m = omega arith

  pub kept_long : 40 * kept_in room host writer ≤ length bytes
  kept_long = as_whole w.landed (kept_in room host writer) (length bytes) kept_landed (omega (arith, landed_is room host writer issued bytes w h))

  -- so many are kept
  pub are_kept : AreKept room host writer issued (kept_in room host writer)
  are_kept = record {
    bytes = bytes;
    has = h;
    issued_were = omega (arith, kept_landed, w.within);
    long = kept_long;
    index = its_within.index_kept;
    log = its_within.log_kept;
  }

  -- and no more
  pub kept_most : (count : ℕ) → count ≤ length issued → 40 * count ≤ length bytes → 40 * count ≤ kept_at room (index_path host writer) → logged (take count (entries_in issued)) ≤ kept_at room (log_path host writer) → count ≤ kept_in room host writer
  kept_most count some long index log =
      let l : w.landed ≡ min (whole bytes) (length issued) = landed_is room host writer issued bytes w h in
      let landed : count ≤ w.landed = omega (arith, l, some, parts_whole count (length bytes) long) in
      omega (arith, its_count, least (kept_at room (log_path host writer)) (kept_at room (index_path host writer)) w.landed (entries_in issued) count (record { within = landed; index_kept = index; log_kept = log }) (omega (arith, some, length-map issued (λ (x : Written). x.entry))))

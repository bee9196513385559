-- A call that changes one writer's items leaves what the room holds of the others.
use Rattle.std.proofs.Common.{◌≡◌, ◌≤◌, ◌<◌, ◌^◌, ℕ, List, length, take, true, refl, ap, sym, ◌∙◌, subst, arith}
use Rattle.std.specs.Prelude.{MatchOption}
use Rattle.plfs_types.specs.declared.entries.Entry.{Entry}
use Rattle.container_layout.specs.declared.items.Item.TheVariants.{OpenHost, Meta, Trunc, Index, Log}
use Rattle.container_layout.specs.Items.{IsItem}
use Rattle.container_layout.specs.Paths.{path_of}
use Rattle.store_api.specs.declared.tree.Room.{Room}
use Rattle.store_laws.specs.Files.{file_at, kept_at}
use Rattle.store_laws.specs.Prefix.{IsPrefix}
use Rattle.mount_model.specs.declared.row.Row.{Row}
use Rattle.mount_model.specs.Paths.{open_path, index_path, log_path}
use Rattle.mount_model.specs.Table.{is_live}
use Rattle.mount_sound.specs.Ledger.{Written, entries_in, content}
use Rattle.mount_sound.specs.Dropping.{bytes_of, log_bytes, IsDropping, IsKeptWhole, IsWriter}
use Rattle.mount_sound.specs.Kept.{Begins, IsAtStage, IsKept}
use Rattle.mount_sound.specs.Sound.{TruncatesDiffer}
use Rattle.mount_sound.proofs.Soundness.Items.{SameFor, is_index, is_log, is_open, had, had_meta, has_meta_still, had_item_of}

-- a row's numbers are those of items
pub record Fits (row : Row) : Type 0 where
  pub host : row.host < 2 ^ 32
  pub id : row.id < 2 ^ 64

pub log_frame : (room new : Room) (host writer : ℕ) (bytes : List ℕ) → file_at new (log_path host writer) ≡ file_at room (log_path host writer) → IsPrefix bytes (log_bytes room host writer) → IsPrefix bytes (log_bytes new host writer)
log_frame room new host writer bytes e p = subst (IsPrefix bytes) (ap bytes_of (sym e)) p

pub as_long : (room new : Room) (host writer count : ℕ) → file_at new (log_path host writer) ≡ file_at room (log_path host writer) → count ≤ length (log_bytes room host writer) → count ≤ length (log_bytes new host writer)
as_long room new host writer count e l = omega (arith, l, ap (λ f. length (bytes_of f)) e)

-- an index dropping beside a log as long
pub dropping_frame : (room new : Room) (host writer : ℕ) (issued : List Written) (landed : ℕ) → file_at new (index_path host writer) ≡ file_at room (index_path host writer) → file_at new (log_path host writer) ≡ file_at room (log_path host writer)
    → MatchOption (file_at room (index_path host writer)) (landed ≡ 0) (IsDropping writer issued landed (length (log_bytes room host writer))) → MatchOption (file_at new (index_path host writer)) (landed ≡ 0) (IsDropping writer issued landed (length (log_bytes new host writer)))
dropping_frame room new host writer issued landed index log m =
    subst (λ o. MatchOption (file_at new (index_path host writer)) (landed ≡ 0) (IsDropping writer issued landed (length (bytes_of o)))) (sym log)
    (subst (λ o. MatchOption o (landed ≡ 0) (IsDropping writer issued landed (length (log_bytes room host writer)))) (sym index) m)

pub settled_frame : (room new : Room) (host writer : ℕ) (entries : List Entry) → file_at new (index_path host writer) ≡ file_at room (index_path host writer) → kept_at room (index_path host writer) ≤ kept_at new (index_path host writer) → kept_at room (log_path host writer) ≤ kept_at new (log_path host writer)
    → IsKeptWhole room host writer entries → IsKeptWhole new host writer entries
settled_frame room new host writer entries index index_kept log_kept s = record {
  index = ap bytes_of index ∙ s.index;
  index_kept = omega (arith, index_kept, s.index_kept);
  log_kept = omega (arith, log_kept, s.log_kept);
}

pub writer_frame : (room new : Room) (writer : ℕ) (issued : List Written) → writer < 2 ^ 64 → SameFor writer room new → IsWriter room writer issued → IsWriter new writer issued
writer_frame room new writer issued fits s w =
    let index_same : file_at new (index_path w.host writer) ≡ file_at room (index_path w.host writer) = s.owned (Index w.host writer) (is_index w.host writer w.host_fits fits) refl in
    let log_same : file_at new (log_path w.host writer) ≡ file_at room (log_path w.host writer) = s.owned (Log w.host writer) (is_log w.host writer w.host_fits fits) refl in
    let open_same : file_at new (open_path w.host writer) ≡ file_at room (open_path w.host writer) = s.owned (OpenHost w.host writer) (is_open w.host writer w.host_fits fits) refl in
    record {
      host = w.host;
      host_fits = w.host_fits;
      one_host = λ other h. w.one_host other (had_item_of room new other writer (λ item is o a. s.owned item is o) h);
      landed = w.landed;
      within = w.within;
      index = dropping_frame room new w.host writer issued w.landed index_same log_same w.index;
      log = log_frame room new w.host writer (content issued) log_same w.log;
      left = λ gone some. has_meta_still room new w.host writer s (w.left (sym open_same ∙ gone) some);
      told = λ last bytes stamp inside h. w.told last bytes stamp inside (had room new (Meta last bytes stamp w.host writer) inside (λ is. s.owned (Meta last bytes stamp w.host writer) is refl) h);
      settled = λ m. settled_frame room new w.host writer (take w.landed (entries_in issued)) index_same (s.kepts (Index w.host writer) (is_index w.host writer w.host_fits fits) refl) (s.kepts (Log w.host writer) (is_log w.host writer w.host_fits fits) refl) (w.settled (had_meta room new w.host writer s m));
      beside = λ stamp size inside h. w.beside stamp size inside (had room new (Trunc stamp size) inside (λ is. s.truncates stamp size is) h);
    }

stage_frame : (row : Row) (room new : Room) (issued : List Entry) → Fits row → SameFor row.id room new → IsAtStage room row issued → IsAtStage new row issued
stage_frame row room new issued fits s a = record {
  opened = s.owned (OpenHost row.host row.id) (is_open row.host row.id fits.host fits.id) refl ∙ a.opened;
  unopened = a.unopened;
  floored = λ far stamp size inside h. a.floored far stamp size inside (had room new (Trunc stamp size) inside (λ is. s.truncates stamp size is) h);
  housed = λ far. s.folders row.host (a.housed far);
  indexed = λ far. let i = a.indexed far in (i.0, s.owned (Index row.host row.id) (is_index row.host row.id fits.host fits.id) refl ∙ i.1);
  logged = λ far. let l = a.logged far in (l.0, s.owned (Log row.host row.id) (is_log row.host row.id fits.host fits.id) refl ∙ l.1);
  closing = λ m. a.closing (had_meta room new row.host row.id s m);
  has_meta = λ e. has_meta_still room new row.host row.id s (a.has_meta e);
}

pub kept_frame : (row : Row) (room new : Room) (issued : List Written) → Fits row → SameFor row.id room new → IsKept room row issued → IsKept new row issued
kept_frame row room new issued fits s k = record {
  in_order = k.in_order;
  numbers = k.numbers;
  index = subst (λ o. MatchOption o (row.landed ≡ 0) (Begins (entries_in issued) row.landed)) (sym (s.owned (Index row.host row.id) (is_index row.host row.id fits.host fits.id) refl)) k.index;
  log_long = as_long room new row.host row.id row.log_mark (s.owned (Log row.host row.id) (is_log row.host row.id fits.host fits.id) refl) k.log_long;
  log_kept = omega (arith, k.log_kept, s.kepts (Log row.host row.id) (is_log row.host row.id fits.host fits.id) refl);
  index_kept = omega (arith, k.index_kept, s.kepts (Index row.host row.id) (is_index row.host row.id fits.host fits.id) refl);
  alive = λ live. stage_frame row room new (entries_in issued) fits s (k.alive live);
}

-- the writer's droppings are as they were, and no less of them is kept
pub record SameDroppings (room new : Room) (row : Row) : Type 0 where
  pub index : file_at new (index_path row.host row.id) ≡ file_at room (index_path row.host row.id)
  pub index_kept : kept_at room (index_path row.host row.id) ≤ kept_at new (index_path row.host row.id)
  pub log : file_at new (log_path row.host row.id) ≡ file_at room (log_path row.host row.id)
  pub log_kept : kept_at room (log_path row.host row.id) ≤ kept_at new (log_path row.host row.id)

-- all that counts of a writer that isn't live
pub dead_frame : (row : Row) (room new : Room) (issued : List Written) → (is_live row.stage ≡ true → ⊥) → SameDroppings room new row → IsKept room row issued → IsKept new row issued
dead_frame row room new issued dead same k = record {
  in_order = k.in_order;
  numbers = k.numbers;
  index = subst (λ o. MatchOption o (row.landed ≡ 0) (Begins (entries_in issued) row.landed)) (sym same.index) k.index;
  log_long = as_long room new row.host row.id row.log_mark same.log k.log_long;
  log_kept = omega (arith, k.log_kept, same.log_kept);
  index_kept = omega (arith, k.index_kept, same.index_kept);
  alive = λ live. absurd (dead live);
}

pub truncates_frame : (room new : Room) → ((stamp size : ℕ) → IsItem (Trunc stamp size) → file_at new (path_of (Trunc stamp size)) ≡ file_at room (path_of (Trunc stamp size))) → TruncatesDiffer room → TruncatesDiffer new
truncates_frame room new same d stamp size other a b has_a has_b =
    d stamp size other a b (had room new (Trunc stamp size) a (λ is. same stamp size is) has_a) (had room new (Trunc stamp other) b (λ is. same stamp other is) has_b)

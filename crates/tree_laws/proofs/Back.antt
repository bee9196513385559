-- Of a sound tree all holds that is checked.
use Rattle.std.proofs.Common.{◌≡◌, ℕ, ◌+◌, ◌*◌, ◌/◌, ◌≤◌, ◌<◌, ◌^◌, List, [], ◌∷◌, ◌++◌, length, take, Option, Some, None, ap, sym, ◌∙◌, subst, arith, length-append}
use Rattle.std.specs.Prelude.{MatchOption}
use Rattle.std.specs.List.{AllByRecursion}
use Rattle.std.proofs.lemmas.List.{length-take}
use Rattle.plfs_types.specs.declared.limits.TheConstants.{MAX_LOG}
use Rattle.plfs_types.specs.declared.entries.Entry.{Entry}
use Rattle.index_entry.specs.Records.{records_in}
use Rattle.index_entry.specs.Spelling.{entry_in, spelling_all, FitsPlaces}
use Rattle.index_entry.specs.Valid.{IsValidEntry}
use Rattle.index_entry.proofs.Facts.{entries_format, records_again, length-spelling_all, valid_fits_places}
use Rattle.store_api.specs.declared.tree.Room.{Room}
use Rattle.store_api.specs.declared.tree.Tree.{Tree}
use Rattle.store_laws.specs.Files.{file_at}
use Rattle.mount_model.specs.Paths.{index_path}
use Rattle.mount_sound.specs.Entries.{MayFollow, AreEntriesOf, logged, last_stamp}
use Rattle.mount_sound.specs.Ledger.{Written, entries_in, AreWritesOf}
use Rattle.mount_sound.specs.Dropping.{bytes_of, log_bytes, IsDropping, IsKeptWhole, IsToldOf, AreBeside, IsWriter}
use Rattle.mount_sound.specs.Landed.{whole}
use Rattle.mount_sound.specs.Sound.{IsSoundTree}
use Rattle.mount_sound.specs.There.{landed_entries, landed_in}
use Rattle.mount_sound.proofs.Facts.{order_append, logged_append, in_order_take, logged_take, writer_told}
use Rattle.tree_laws.specs.Checked.{whole_entries, IsCheckedDropping, IsCheckedWriter, IsCheckedTree}
use Rattle.tree_laws.proofs.Searched.{owner_fits}

follows_fits : (writer last offset : ℕ) (e : Entry) → writer < 2 ^ 64 → offset < 2 ^ 64 → MayFollow writer last offset e → FitsPlaces e
follows_fits writer last offset e fits small f =
    let valid : IsValidEntry e = record { not_empty = f.some; near = f.within; stamped = omega (arith, f.later); stamp_fits = omega (arith, f.in_range) } in
    valid_fits_places e valid (omega (arith, f.place, small)) (omega (arith, f.owner, fits))

all_fit : (writer last offset : ℕ) (es : List Entry) → writer < 2 ^ 64 → offset + logged es < 2 ^ 64 → AreEntriesOf writer last offset es → AllByRecursion FitsPlaces es
all_fit writer last offset [] fits small o = tt
all_fit writer last offset (e ∷ es) fits small o = (follows_fits writer last offset e fits (omega (arith, small)) o.0, all_fit writer e.stamp (offset + e.len) es fits (omega (arith, small)) o.1)

quotient : (n t len : ℕ) → len ≡ 40 * n + t → t < 40 → len / 40 ≡ n
quotient n t len e l = omega arith

-- the whole entries of a dropping are those that it was made of
dropping_checked : (writer : ℕ) (issued : List Written) (landed log : ℕ) (index : List ℕ) → writer < 2 ^ 64 → AreWritesOf writer issued → IsDropping writer issued landed log index → IsCheckedDropping writer index
dropping_checked writer issued landed log index fits v d =
    let first : List Entry = take landed (entries_in issued) in
    let all : List Entry = first ++ d.more in
    let ordered : AreEntriesOf writer 0 0 all =
    order_append writer 0 0 first d.more (in_order_take landed writer 0 0 (entries_in issued) v.in_order) (subst (λ (n : ℕ). AreEntriesOf writer (last_stamp 0 first) n d.more) (omega arith) d.in_order) in
    let small : logged all ≤ 2 ^ 56 = omega (arith, logged_append first d.more, d.few, v.small, logged_take landed (entries_in issued)) in
    let counts : whole index ≡ length all = quotient (length all) (length d.tail) (length index) (omega (arith, ap length d.spelled, length-append (spelling_all all) d.tail, length-spelling_all all)) d.torn in
    let same : whole_entries index ≡ all =
    ap (λ (n : ℕ). records_in entry_in 40 n index) counts ∙ ap (records_in entry_in 40 (length all)) d.spelled
    ∙ records_again entries_format all d.tail (all_fit writer 0 0 all fits (omega (arith, small)) ordered) in
    record {
      in_order = subst (λ (es : List Entry). AreEntriesOf writer 0 0 es) (sym same) ordered;
      small = subst (λ (es : List Entry). logged es ≤ MAX_LOG) (sym same) small;
    }

found_checked : (writer : ℕ) (issued : List Written) (landed log : ℕ) (found : Option (List ℕ)) → writer < 2 ^ 64 → AreWritesOf writer issued → MatchOption found (landed ≡ 0) (IsDropping writer issued landed log)
    → IsCheckedDropping writer (bytes_of found)
found_checked writer issued landed log None fits v m = record { in_order = tt; small = omega arith }
found_checked writer issued landed log (Some index) fits v m = dropping_checked writer issued landed log index fits v m

writer_checked : (room : Room) (writer : ℕ) (issued : List Written) (w : IsWriter room writer issued) → writer < 2 ^ 64 → AreWritesOf writer issued → IsCheckedWriter room w.host writer
writer_checked room writer issued w fits v =
    let told : landed_entries room w.host writer ≡ take w.landed (entries_in issued) = writer_told room writer issued w fits v in
    let few : landed_in room w.host writer ≤ w.landed = omega (arith, ap (λ (es : List Entry). length es) told, length-take w.landed (entries_in issued)) in
    record {
      alone = w.one_host;
      dropping = found_checked writer issued w.landed (length (log_bytes room w.host writer)) (file_at room (index_path w.host writer)) fits v w.index;
      left = λ none some. w.left none (omega (arith, some, few));
      told = λ last bytes stamp content has. subst (λ (es : List Entry). IsToldOf last bytes stamp es) (sym told) (w.told last bytes stamp content has);
      settled = λ has. subst (λ (es : List Entry). IsKeptWhole room w.host writer es) (sym told) (w.settled has);
      beside = λ stamp size content has. subst (λ (es : List Entry). AreBeside stamp es) (sym told) (w.beside stamp size content has);
    }

pub checked_tree : (tree : Tree) → IsSoundTree tree → IsCheckedTree tree
checked_tree tree s = record {
  shaped = s.shaped;
  rooms = λ number room there. record {
    writers = λ host writer has. (
        let fits : writer < 2 ^ 64 = (owner_fits room host writer has).1 in
        let w : IsWriter room writer (s.issued number writer) = (s.rooms number room there).writers writer fits in
        subst (λ (h : ℕ). IsCheckedWriter room h writer) (sym (w.one_host host has)) (writer_checked room writer (s.issued number writer) w fits (s.writes number writer)));
    truncates = (s.rooms number room there).truncates;
    flats = λ makes id bytes has. s.flats number room there makes id bytes has;
  };
}

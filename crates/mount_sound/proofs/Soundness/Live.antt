-- What a room holds of a live writer says what it holds of the writer.
use Rattle.std.proofs.Common.{◌≡◌, ◌≤◌, ◌<◌, ◌^◌, ℕ, zero, suc, List, [], ◌∷◌, ◌++◌, length, take, drop, Option, Some, None, refl, ap, sym, ◌∙◌, inl, inr, subst, arith, length-drop, length-append}
use Rattle.std.specs.Prelude.{MatchOption}
use Rattle.std.proofs.lemmas.Bool.{cases_eq, cases_lt}
use Rattle.std.proofs.lemmas.List.{length-take-le, length-map, append-nil}
use Rattle.plfs_types.specs.declared.entries.Entry.{Entry}
use Rattle.index_entry.specs.Spelling.{spelling, spelling_all}
use Rattle.index_entry.proofs.Facts.{length-spelling, length-spelling_all}
use Rattle.container_layout.specs.declared.items.Item.{Item}
use Rattle.container_layout.specs.declared.items.Item.TheVariants.{Meta, Trunc, Log}
use Rattle.store_api.specs.declared.tree.Room.{Room}
use Rattle.store_laws.specs.Files.{file_at}
use Rattle.store_laws.specs.Prefix.{IsPrefix}
use Rattle.store_laws.proofs.Facts.{whole_items}
use Rattle.mount_model.specs.declared.row.Row.{Row}
use Rattle.mount_model.specs.Paths.{open_path, index_path}
use Rattle.mount_model.specs.Table.{rank}
use Rattle.mount_sound.specs.Ledger.{Written, entries_in, content}
use Rattle.mount_sound.specs.Items.{HasItem, HasMeta, HasItemOf}
use Rattle.mount_sound.specs.Dropping.{bytes_of, log_bytes, IsDropping, IsKeptWhole, IsToldOf, AreBeside, IsWriter}
use Rattle.mount_sound.specs.Kept.{Begins, IsAtStage, IsKept}
use Rattle.mount_sound.proofs.Soundness.Items.{SameButItem, owner, host_of, other_host, no_owner, had, has_still, had_item_of, is_open, is_log}
use Rattle.mount_sound.proofs.Soundness.Frames.{Fits, log_frame}
use Rattle.mount_sound.proofs.Soundness.Orders.{take_all, take_of_none, above_floor}

-- the bytes are the first entries and less than one more
pub record AreFirst (issued : List Entry) (count : ℕ) (bytes : List ℕ) : Type 0 where
  pub tail : List ℕ
  pub spelled : bytes ≡ spelling_all (take count issued) ++ tail
  pub torn : length tail < 40

-- how many entries have landed in the index dropping of a writer of the table
pub record Landed (issued : List Entry) (file : Option (List ℕ)) : Type 0 where
  pub count : ℕ
  pub within : count ≤ length issued
  pub index : MatchOption file (count ≡ 0) (AreFirst issued count)

pub landed_of : (issued : List Entry) (landed : ℕ) (file : Option (List ℕ)) → MatchOption file (landed ≡ 0) (Begins issued landed) → Landed issued file
landed_of issued landed None m = record { count = 0; within = omega arith; index = refl }
landed_of issued landed (Some bytes) m =
    let w = whole_items spelling 40 (λ e. length-spelling e) (omega arith) bytes issued m.prefix in
    record { count = w.0; within = w.4; index = record { tail = w.1; spelled = w.2; torn = w.3 } }

no_more : (issued : List Entry) (landed : ℕ) → drop landed issued ≡ [] → length issued ≤ landed
no_more issued landed e = omega (arith, length-drop landed issued, ap length e)

-- all of them end within the log
pub dropping : (writer : ℕ) (issued : List Written) (count log : ℕ) (file : Option (List ℕ)) → MatchOption file (count ≡ 0) (AreFirst (entries_in issued) count) → MatchOption file (count ≡ 0) (IsDropping writer issued count log)
dropping writer issued count log None m = m
dropping writer issued count log (Some bytes) m = record {
  more = [];
  tail = m.tail;
  spelled = m.spelled ∙ ap (λ es. spelling_all es ++ m.tail) (sym (append-nil (take count (entries_in issued))));
  torn = m.torn;
  in_order = tt;
  few = omega arith;
  past = tt;
  behind = inl refl;
}

-- once nothing is pending all have landed
pub all_landed : (issued : List Entry) (landed count : ℕ) (file : Option (List ℕ)) → MatchOption file (landed ≡ 0) (Begins issued landed) → MatchOption file (count ≡ 0) (AreFirst issued count) → count ≤ length issued → drop landed issued ≡ [] → take count issued ≡ issued
all_landed issued landed count None m f within e = take_all issued count (omega (arith, no_more issued landed e, m))
all_landed issued landed count (Some bytes) m f within e =
    take_all issued count (omega (arith, no_more issued landed e, m.long, ap length f.spelled, length-append (spelling_all (take count issued)) f.tail, length-spelling_all (take count issued), f.torn, length-take-le count issued within))

take_short : {X : Type 0} (n : ℕ) (xs : List X) → length (take n xs) ≤ n
take_short zero [] = omega arith
take_short zero (x ∷ xs) = omega arith
take_short (suc n) [] = omega arith
take_short (suc n) (x ∷ xs) = omega (arith, take_short n xs)

no_entries : (issued : List Entry) → length issued ≤ 0 → issued ≡ []
no_entries [] l = refl
no_entries (e ∷ es) l = absurd (omega arith)

prefix_whole : (a b : List ℕ) → IsPrefix a b → length b ≤ length a → a ≡ b
prefix_whole [] [] p l = refl
prefix_whole [] (y ∷ b) p l = absurd (omega arith)
prefix_whole (x ∷ a) [] p l = absurd p
prefix_whole (x ∷ a) (y ∷ b) p l = ap (λ z. z ∷ a) p.0 ∙ ap (λ c. y ∷ c) (prefix_whole a b p.1 (omega arith))

-- so the index dropping is exactly the entries
index_whole : (issued : List Entry) (landed : ℕ) (file : Option (List ℕ)) → MatchOption file (landed ≡ 0) (Begins issued landed) → drop landed issued ≡ [] → bytes_of file ≡ spelling_all issued
index_whole issued landed None m e = ap spelling_all (sym (no_entries issued (omega (arith, m, no_more issued landed e))))
index_whole issued landed (Some bytes) m e = prefix_whole bytes (spelling_all issued) m.prefix (omega (arith, m.long, no_more issued landed e, length-spelling_all issued))

-- and these are all of them
all_settled : (issued : List Entry) (landed count : ℕ) (file : Option (List ℕ)) → MatchOption file (landed ≡ 0) (Begins issued landed) → bytes_of file ≡ spelling_all (take count issued) → drop landed issued ≡ [] → take count issued ≡ issued
all_settled issued landed count file m is e =
    let both : spelling_all issued ≡ spelling_all (take count issued) = sym (index_whole issued landed file m e) ∙ is in
    take_all issued count (omega (arith, ap length both, length-spelling_all issued, length-spelling_all (take count issued), take_short count issued))

-- what a live writer's row does not say
pub record Own (room : Room) (row : Row) (issued : List Written) : Type 0 where
  pub one_host : (other : ℕ) → HasItemOf room other row.id → other ≡ row.host
  pub log : IsPrefix (content issued) (log_bytes room row.host row.id)
  pub told : (last bytes stamp : ℕ) (inside : List ℕ) → HasItem room (Meta last bytes stamp row.host row.id) inside → IsToldOf last bytes stamp (entries_in issued)

length-entries : (issued : List Written) → length (entries_in issued) ≡ length issued
length-entries issued = length-map issued (λ (w : Written). w.entry)

no_file : (o : Option (List ℕ)) (bytes : List ℕ) → o ≡ Some bytes → o ≡ None → ⊥
no_file o bytes p q = cc

nothing_pending : (room : Room) (row : Row) (issued : List Written) → IsKept room row issued → IsAtStage room row (entries_in issued) → HasMeta room row.host row.id → drop row.landed (entries_in issued) ≡ []
nothing_pending room row issued k a m = sym k.numbers.pending ∙ (a.closing m).1

beside_of : (room : Room) (row : Row) (issued : List Written) → IsKept room row issued → IsAtStage room row (entries_in issued) → (count stamp size : ℕ) (inside : List ℕ) → HasItem room (Trunc stamp size) inside → AreBeside stamp (take count (entries_in issued))
beside_of room row issued k a count stamp size inside h = elim (cases_lt (rank row.stage) 1) as (λ _. AreBeside stamp (take count (entries_in issued))) [
  | inl early ↦
      let none : take count (entries_in issued) ≡ [] = ap (λ es. take count es) (a.unopened (omega arith)) ∙ take_of_none count in
      subst (AreBeside stamp) (sym none) (inl tt)
  | inr far ↦ inr (above_floor row.id row.floor 0 stamp (entries_in issued) count (a.floored far stamp size inside h) k.in_order)
]

pub live_writer : (room : Room) (row : Row) (issued : List Written) → Fits row → IsKept room row issued → IsAtStage room row (entries_in issued) → Own room row issued → IsWriter room row.id issued
live_writer room row issued fits k a o =
    let l = landed_of (entries_in issued) row.landed (file_at room (index_path row.host row.id)) k.index in
    record {
      host = row.host;
      host_fits = fits.host;
      one_host = o.one_host;
      landed = l.count;
      within = omega (arith, l.within, length-entries issued);
      index = dropping row.id issued l.count (length (log_bytes room row.host row.id)) (file_at room (index_path row.host row.id)) l.index;
      log = o.log;
      left = λ gone some. absurd (no_file (file_at room (open_path row.host row.id)) [] a.opened gone);
      told = λ last bytes stamp inside h.
          let m : HasMeta room row.host row.id = record { last = last; bytes = bytes; stamp = stamp; content = inside; has = h } in
          let all : take l.count (entries_in issued) ≡ entries_in issued = all_landed (entries_in issued) row.landed l.count (file_at room (index_path row.host row.id)) k.index l.index l.within (nothing_pending room row issued k a m) in
          subst (IsToldOf last bytes stamp) (sym all) (o.told last bytes stamp inside h);
      settled = λ m.
          let none = nothing_pending room row issued k a m in
          let all : take l.count (entries_in issued) ≡ entries_in issued = all_landed (entries_in issued) row.landed l.count (file_at room (index_path row.host row.id)) k.index l.index l.within none in
          let s : IsKeptWhole room row.host row.id (entries_in issued) = record {
            index = index_whole (entries_in issued) row.landed (file_at room (index_path row.host row.id)) k.index none;
            index_kept = omega (arith, k.index_kept, (a.closing m).3, no_more (entries_in issued) row.landed none);
            log_kept = omega (arith, k.log_kept, (a.closing m).2, k.numbers.stored);
          } in
          subst (IsKeptWhole room row.host row.id) (sym all) s;
      beside = beside_of room row issued k a l.count;
    }

-- the host of a live writer is that of its items
pub its_host : (room : Room) (row : Row) (issued : List Written) (w : IsWriter room row.id issued) → Fits row → IsAtStage room row (entries_in issued) → row.host ≡ w.host
its_host room row issued w fits a = w.one_host row.host (inr (inl ([], record { is_item = is_open row.host row.id fits.host fits.id; there = a.opened })))

pub own_of : (room : Room) (row : Row) (issued : List Written) → Fits row → IsKept room row issued → IsAtStage room row (entries_in issued) → IsWriter room row.id issued → Own room row issued
own_of room row issued fits k a w =
    let same : w.host ≡ row.host = sym (its_host room row issued w fits a) in
    record {
      one_host = λ other h. w.one_host other h ∙ same;
      log = subst (λ h. IsPrefix (content issued) (log_bytes room h row.id)) same w.log;
      told = λ last bytes stamp inside h.
          let m : HasMeta room row.host row.id = record { last = last; bytes = bytes; stamp = stamp; content = inside; has = h } in
          let settled : IsKeptWhole room row.host row.id (take w.landed (entries_in issued)) = subst (λ x. IsKeptWhole room x row.id (take w.landed (entries_in issued))) same (w.settled (subst (λ x. HasMeta room x row.id) (sym same) m)) in
          let all : take w.landed (entries_in issued) ≡ entries_in issued = all_settled (entries_in issued) row.landed w.landed (file_at room (index_path row.host row.id)) k.index settled.index (nothing_pending room row issued k a m) in
          subst (IsToldOf last bytes stamp) all (w.told last bytes stamp inside (subst (λ x. HasItem room (Meta last bytes stamp x row.id) inside) (sym same) h));
    }

-- ---- one of its items changed

pub one_host_kept : (changed : Item) (host writer : ℕ) (room new : Room) → host_of changed ≡ Some host → SameButItem changed room new → ((other : ℕ) → HasItemOf room other writer → other ≡ host) → (other : ℕ) → HasItemOf new other writer → other ≡ host
one_host_kept changed host writer room new at s one other h = elim (cases_eq other host) as (λ _. other ≡ host) [
  | inl same ↦ same
  | inr differs ↦ absurd (differs (one other (had_item_of room new other writer (λ item is o of. s.others item is (other_host item changed other host of at differs)) h)))
]

pub log_kept : (changed : Item) (host writer : ℕ) (room new : Room) (bytes : List ℕ) → host < 2 ^ 32 → writer < 2 ^ 64 → (Log host writer ≡ changed → ⊥) → SameButItem changed room new → IsPrefix bytes (log_bytes room host writer) → IsPrefix bytes (log_bytes new host writer)
log_kept changed host writer room new bytes fits id_fits other s p = log_frame room new host writer bytes (s.others (Log host writer) (is_log host writer fits id_fits) other) p

pub had_meta_but : (changed : Item) (host writer : ℕ) (room new : Room) → ((last bytes stamp : ℕ) → Meta last bytes stamp host writer ≡ changed → ⊥) → SameButItem changed room new → HasMeta new host writer → HasMeta room host writer
had_meta_but changed host writer room new other s m = record { last = m.last; bytes = m.bytes; stamp = m.stamp; content = m.content; has = had room new (Meta m.last m.bytes m.stamp host writer) m.content (λ is. s.others (Meta m.last m.bytes m.stamp host writer) is (other m.last m.bytes m.stamp)) m.has }

pub has_meta_but : (changed : Item) (host writer : ℕ) (room new : Room) → ((last bytes stamp : ℕ) → Meta last bytes stamp host writer ≡ changed → ⊥) → SameButItem changed room new → HasMeta room host writer → HasMeta new host writer
has_meta_but changed host writer room new other s m = record { last = m.last; bytes = m.bytes; stamp = m.stamp; content = m.content; has = has_still room new (Meta m.last m.bytes m.stamp host writer) m.content (λ is. s.others (Meta m.last m.bytes m.stamp host writer) is (other m.last m.bytes m.stamp)) m.has }

pub had_trunc_but : (changed : Item) (writer : ℕ) (room new : Room) (stamp size : ℕ) (inside : List ℕ) → owner changed ≡ Some writer → SameButItem changed room new → HasItem new (Trunc stamp size) inside → HasItem room (Trunc stamp size) inside
had_trunc_but changed writer room new stamp size inside of s h = had room new (Trunc stamp size) inside (λ is. s.others (Trunc stamp size) is (no_owner (Trunc stamp size) changed writer refl of)) h

-- a dropping of the writer changed: its other items are as before
pub own_kept : (changed : Item) (room new : Room) (row : Row) (issued : List Written) → Fits row → host_of changed ≡ Some row.host → (Log row.host row.id ≡ changed → ⊥) → ((last bytes stamp : ℕ) → Meta last bytes stamp row.host row.id ≡ changed → ⊥) → SameButItem changed room new → Own room row issued → Own new row issued
own_kept changed room new row issued fits at no_log no_meta s o = record {
  one_host = one_host_kept changed row.host row.id room new at s o.one_host;
  log = log_kept changed row.host row.id room new (content issued) fits.host fits.id no_log s o.log;
  told = λ last bytes stamp inside h. o.told last bytes stamp inside (had room new (Meta last bytes stamp row.host row.id) inside (λ is. s.others (Meta last bytes stamp row.host row.id) is (no_meta last bytes stamp)) h);
}

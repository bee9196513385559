-- The program of an index dropping fails only by the store.
use Rattle.std.proofs.Common.{◌≡◌, ℕ, zero, suc, ◌+◌, ◌-◌, ◌*◌, ◌/◌, ◌≤◌, ◌<◌, ◌^◌, min, Bool, true, false, nat_le, nat_lt, List, [], ◌∷◌, ◌++◌, length, take, drop, get_or, Option, Some, None, refl, ap, sym, ◌∙◌, inl, inr, subst, arith, length-append}
use Rattle.std.specs.Prelude.{Result, Ok, Err, if◌then◌else◌, slice_get}
use Rattle.std.proofs.lemmas.Bool.{cases_lt, cond-false}
use Rattle.std.proofs.lemmas.Bool.Decides.{nat_tests}
use Rattle.std.proofs.lemmas.List.{drop-append-le, length-drop, take-append-le}
use Rattle.std.proofs.Math.Seq.{take-add, take-append-add}
use Rattle.plfs_types.specs.declared.entries.Cover.{Cover}
use Rattle.plfs_types.specs.declared.entries.Entry.{Entry}
use Rattle.plfs_types.specs.declared.names.Path.{Path}
use Rattle.container_layout.proofs.Facts.{elsewhere}
use Rattle.index_entry.specs.Entries.{AreEntriesOf, logged, last_stamp}
use Rattle.index_entry.specs.Spelling.{spelling_all}
use Rattle.index_entry.proofs.Facts.{drop-spelling_all, length-spelling_all}
use Rattle.store_api.specs.declared.tree.Room.{Room}
use Rattle.store_api.specs.Room.{has_folder}
use Rattle.store_laws.specs.Files.{file_at}
use Rattle.mount_model.specs.Paths.{access_path, index_path, log_path}
use Rattle.mount_model.specs.History.{Event}
use Rattle.mount_sound.specs.Dropping.{EndPast, IsDropping, bytes_of, log_bytes}
use Rattle.mount_sound.specs.Landed.{whole}
use Rattle.mount_sound.specs.Ledger.{entries_in}
use Rattle.mount_sound.specs.Owed.{IsLawful}
use Rattle.mount_sound.proofs.Facts.{in_order_take, logged_append, logged_take, order_append, order_drop, take_less}
use Rattle.mount_model.specs.declared.stuck.Stuck.{Stuck}
use Rattle.mount_model.specs.Running.{Runs}
use Rattle.mount_model.specs.FlowReplies.{Tries, bytes_in, damage, given, trouble}
use Rattle.mount_model.specs.Program.{done}
use Rattle.turn_object.specs.Callers.{made_by}
use Rattle.index_reader.specs.declared.listing.Dropping.{Dropping as Listed}
use Rattle.index_reader.specs.declared.entries.Tail.{Tail}
use Rattle.index_reader.specs.Packs.{no_tail}
use Rattle.index_reader.specs.Replies.{log_length_in, number_in}
use Rattle.index_reader.specs.Tails.{if_checked, if_logged, if_told, log_then as log_program, looked, reads_left, reads_on, tail_program}
use Rattle.mount_model.specs.Entries.{next_read}
use Rattle.index_reader.proofs.Indices.TailLemmas.{reads_going_on}
use Rattle.reader_laws.specs.GatheringFailing.{BytesOrTrouble}
use Rattle.reader_laws.specs.Moments.{Moment, IsSoundAt, Dropping, IsNamed, Stood, Grows, file_in_room, file_told, index_then, log_then, issued_by, landed, moment_after, next_moment}
use Rattle.reader_laws.proofs.Gathered.Facts.{entries_stay, grows_after, held_then, in_a_room, in_tree, its_log, landed_logged, landed_whole, legal_first, length-entries, length_taken, log_grows, read_ends, stands, stood_grows}
use Rattle.reader_laws.specs.Covering.{cover_with, empty_cover}
use Rattle.reader_laws.specs.Failing.{FailsByStore, IsContainerAt}
use Rattle.reader_laws.specs.Sharing.{in_room}
use Rattle.reader_laws.proofs.Droppings.Checking.{cover_with-append}
use Rattle.reader_laws.proofs.Faults.Failing.{here_fails, later_fails}
use Rattle.reader_laws.proofs.Calls.Histories.{first_of}
use Rattle.reader_laws.proofs.Containers.Listings.{FromFirst, from_first}
use Rattle.reader_laws.proofs.Soundness.LookEnds.{HasContainer, container_of, length_ends}
use Rattle.reader_laws.proofs.Soundness.NoBreaks.{GoesWrong, checked_on, ReadsEntries, reads_entries}
use Rattle.reader_laws.proofs.Calls.Troubles.{answered}

-- ---- the room of a dropping

-- where a dropping stands, its room is a container
pub stood_container : (m : Moment) (s : IsSoundAt m) (d : Dropping) → Stood m d → IsContainerAt m d.room
stood_container m s d stood =
    let f = in_a_room (slice_get s.shape.tree.rooms d.room) (index_path d.host d.writer) stood.bytes (in_tree m s d.room (index_path d.host d.writer) stood.bytes stood.there) in
    elim (s.shape.shaped.rooms d.room f.0 f.1) as (λ _. IsContainerAt m d.room) [
      | inl marks ↦
          let mark = marks.files (index_path d.host d.writer) stood.bytes f.2 in
          elsewhere (ap (λ (p : Path). get_or p.folder 0 0) mark.3) refl
      | inr container ↦ record {
        is_item = record { in_range = tt; widths = tt };
        bytes = [];
        there = ap (λ o. file_told o d.room access_path) s.shape.told ∙ ap (λ o. file_in_room o access_path) f.1 ∙ container.has_access;
      }
    ]

one_room : (a b : Room) (o : Option Room) → o ≡ Some a → o ≡ Some b → a ≡ b
one_room a b o p q = cc

-- its folder is there
pub housed : (m : Moment) (s : IsSoundAt m) (d : Dropping) (stood : Stood m d) (c : HasContainer m s d.room) → (has_folder c.room (index_path d.host d.writer).folder ≡ true) × (file_at c.room (index_path d.host d.writer) ≡ Some stood.bytes)
housed m s d stood c =
    let f = in_a_room (slice_get s.shape.tree.rooms d.room) (index_path d.host d.writer) stood.bytes (in_tree m s d.room (index_path d.host d.writer) stood.bytes stood.there) in
    let same : f.0 ≡ c.room = one_room f.0 c.room (slice_get s.shape.tree.rooms d.room) f.1 c.there in
    let here : file_at c.room (index_path d.host d.writer) ≡ Some stood.bytes = subst (λ r. file_at r (index_path d.host d.writer) ≡ Some stood.bytes) same f.2 in
    ((c.is.files (index_path d.host d.writer) stood.bytes here).housed, here)

-- ---- the entries of an index dropping

from_none : (n : ℕ) → 0 + n ≡ n
from_none n = omega arith

logged_more : (n k : ℕ) (es : List Entry) → n ≤ k → logged (take n es) ≤ logged (take k es)
logged_more n k es l = omega (arith, ap logged (take_less n k es l), logged_take n (take k es))

-- All whole entries of an index dropping are in order; the first are those that have landed, and the next ends past the log.
pub record HasEntries (m : Moment) (d : Dropping) (index : List ℕ) : Type 0 where
  pub entries : List Entry
  pub tail : List ℕ
  pub spelled : index ≡ spelling_all entries ++ tail
  pub torn : length tail < 40
  pub order : AreEntriesOf d.writer 0 0 entries
  pub small : logged entries ≤ 2 ^ 56
  pub long : landed m d ≤ length entries
  pub front : (n : ℕ) → n ≤ landed m d → take n entries ≡ take n (entries_in (issued_by m d))
  pub past : (n : ℕ) → landed m d < n → n ≤ length entries → length (bytes_of (log_then m d)) < logged (take n entries)

pub has_entries : (m : Moment) (s : IsSoundAt m) (d : Dropping) (index : List ℕ) → IsNamed d → index_then m d ≡ Some index → HasEntries m d index
has_entries m s d index named there =
    let st = stands m s d index named there in
    let es : List Entry = entries_in (issued_by m d) in
    let w = s.sound.writes d.room d.writer in
    let n : ℕ = st.landed.landed in
    let is : n ≡ landed m d = st.landed.is ∙ sym (landed_whole m s d named ∙ ap (λ o. min (whole (bytes_of o)) (length (issued_by m d))) there) in
    let drops : IsDropping d.writer (issued_by m d) n (length (log_bytes st.room d.host d.writer)) index = st.landed.dropping in
    let first : List Entry = take n es in
    let few : n ≤ length es = omega (arith, st.landed.within, length-entries (issued_by m d)) in
    let size : length first ≡ n = length_taken n es few in
    let log : length (log_bytes st.room d.host d.writer) ≡ length (bytes_of (log_then m d)) = ap length (its_log m s d index st) in
    record {
      entries = first ++ drops.more;
      tail = drops.tail;
      spelled = drops.spelled;
      torn = drops.torn;
      order = order_append d.writer 0 0 first drops.more (in_order_take n d.writer 0 0 es w.in_order) (subst (λ k. AreEntriesOf d.writer (last_stamp 0 first) k drops.more) (sym (from_none (logged first))) drops.in_order);
      small = omega (arith, logged_append first drops.more, drops.few, logged_take n es, w.small);
      long = omega (arith, length-append first drops.more, size, is);
      front = λ k l. take-append-le k first drops.more (omega (arith, l, size, is)) ∙ take_less k n es (omega (arith, l, is));
      past = λ k l within. subst (λ x. x < logged (take k (first ++ drops.more))) log (ends_past (length (log_bytes st.room d.host d.writer)) first drops.more k (omega (arith, l, is, size)) (omega (arith, within)) drops.past);
    }
  where
    ends_past : (log : ℕ) (first more : List Entry) (k : ℕ) → length first < k → k ≤ length (first ++ more) → EndPast log (logged first) more → log < logged (take k (first ++ more))
    ends_past log first [] k l within past = absurd (omega (arith, l, within, length-append first []))
    ends_past log first (x ∷ more) k l within past =
        let rest : ℕ = k - length first - 1 in
        let count : k ≡ length first + suc rest = omega (arith, l) in
        let split : take k (first ++ x ∷ more) ≡ first ++ x ∷ take rest more = ap (λ j. take j (first ++ x ∷ more)) count ∙ take-append-add first (x ∷ more) (suc rest) in
        omega (arith, past, ap logged split ∙ logged_append first (x ∷ take rest more))

-- ---- what a tail has read so far

-- its cover is that of the first entries that the writer issued, which have landed
record IsReadSo (m : Moment) (d : Dropping) (log : ℕ) (t : Tail) (first : ℕ) : Type 0 where
  pub cover : t.cover ≡ cover_with (empty_cover d.writer) (take first (entries_in (issued_by m d)))
  pub few : first ≤ landed m d
  pub in_log : t.cover.bytes ≤ log

read_later : (a b : Moment) (s : IsSoundAt a) (d : Dropping) (log : ℕ) (t : Tail) (first : ℕ) → IsNamed d → Grows a b → IsReadSo a d log t first → IsReadSo b d log t first
read_later a b s d log t first named grows r = record {
  cover = r.cover ∙ ap (cover_with (empty_cover d.writer)) (sym (entries_stay a b d first grows (omega (arith, r.few, landed_whole a s d named))));
  few = omega (arith, r.few, grows.landed d named);
  in_log = r.in_log;
}

-- The cover is of the first entries that the dropping's writer issued, which have landed.
pub record IsCoverOf (m : Moment) (d : Dropping) (cover : Cover) : Type 0 where
  pub tells : cover ≡ cover_with (empty_cover d.writer) (take cover.count (entries_in (issued_by m d)))
  pub had : cover.count ≤ landed m d

pub cover_later : (a b : Moment) (s : IsSoundAt a) (d : Dropping) (cover : Cover) → IsNamed d → Grows a b → IsCoverOf a d cover → IsCoverOf b d cover
cover_later a b s d cover named grows r = record {
  tells = r.tells ∙ ap (cover_with (empty_cover d.writer)) (sym (entries_stay a b d cover.count grows (omega (arith, r.had, landed_whole a s d named))));
  had = omega (arith, r.had, grows.landed d named);
}

-- after a Read whose entries were all taken, where they end within the log
taken_so : (m : Moment) (d : Dropping) (index : List ℕ) (log first n : ℕ) (old mid : Tail) (h : HasEntries m d index) → log ≤ length (bytes_of (log_then m d)) → IsReadSo m d log old first → n ≤ length (drop first h.entries)
    → mid.cover ≡ cover_with old.cover (take n (drop first h.entries)) → old.cover.bytes + logged (take n (drop first h.entries)) ≤ log → IsReadSo m d log mid (first + n)
taken_so m d index log first n old mid h has r enough cover within =
    let none : Cover = empty_cover d.writer in
    let es : List Entry = entries_in (issued_by m d) in
    let begins : take first h.entries ≡ take first es = h.front first r.few in
    let both : take (first + n) h.entries ≡ take first h.entries ++ take n (drop first h.entries) = take-add first n h.entries in
    let bytes : old.cover.bytes ≡ 0 + logged (take first h.entries) = ap (λ (c : Cover). c.bytes) r.cover ∙ ap (λ l. 0 + logged l) (sym begins) in
    let all : logged (take (first + n) h.entries) ≤ log = omega (arith, ap logged both ∙ logged_append (take first h.entries) (take n (drop first h.entries)), bytes, within) in
    let reach : first + n ≤ length h.entries = omega (arith, enough, length-drop first h.entries, r.few, h.long) in
    let few : first + n ≤ landed m d = elim (cases_lt (landed m d) (first + n)) as (λ _. first + n ≤ landed m d) [
      | inl more ↦ absurd (omega (arith, h.past (first + n) more reach, all, has))
      | inr fewer ↦ omega (arith, fewer)
    ] in
    record {
      cover = cover ∙ ap (λ c. cover_with c (take n (drop first h.entries))) (r.cover ∙ ap (cover_with none) (sym begins)) ∙ cover_with-append none (take first h.entries) (take n (drop first h.entries))
          ∙ ap (cover_with none) (sym both ∙ h.front (first + n) few);
      few = few;
      in_log = omega (arith, ap (λ (c : Cover). c.bytes) cover, within);
    }

-- ---- the Reads

no_ok : {R : Type 0} (x : R) (why : Stuck) → ◌≡◌ {A = Result R Stuck} (Ok x) (Err why) → ⊥
no_ok x why e = cc

module _ (caller room : ℕ) (d : Listed) (named : IsNamed (in_room room d)) where
  abbrev its : Dropping
  its = in_room room d

  -- what is to be read fails by the store
  abbrev ReadsFail : Moment → ℕ → ℕ → ℕ → Stuck → Type 0
  ReadsFail m log whole_ left why = (ended : Bool) (t : Tail) (events : List Event) → IsLawful m.state events → (ended ≡ false → IsReadSo m its log t (whole_ - left)) → Runs caller (reads_left room d log whole_ left ended t) events (Err why) → FailsByStore caller m.state events why

  -- how it goes on after a Read that gave bytes
  gave : (m next : Moment) (log whole_ left : ℕ) (ended : Bool) (t : Tail) (index : List ℕ) (later : List Event) (why : Stuck) → IsSoundAt m → Grows m next → left ≤ whole_ → log ≤ length (bytes_of (log_then m its)) → index_then m its ≡ Some index → IsLawful next.state later
      → (ended ≡ false → IsReadSo m its log t (whole_ - left)) → ReadsFail next log whole_ (left - next_read left) why
      → Runs caller (if_checked d (λ past longer. reads_left room d log whole_ (left - next_read left) past longer) (nat_le (40 * next_read left) (length (take (40 * next_read left) (drop (40 * (whole_ - left)) index)))) (looked ended log (next_read left) (take (40 * next_read left) (drop (40 * (whole_ - left)) index)) t)) later (Err why)
      → FailsByStore caller next.state later why
  gave m next log whole_ left true t index later why s goes within has there lawful so rest made =
      let bytes : List ℕ = take (40 * next_read left) (drop (40 * (whole_ - left)) index) in
      by_full (nat_le (40 * next_read left) (length bytes)) made
    where
      by_full : (full : Bool) → Runs caller (if full then reads_left room d log whole_ (left - next_read left) true t else done (Ok t)) later (Err why) → FailsByStore caller next.state later why
      by_full true made = rest true t later lawful (λ never. absurd (let clash : true ≡ false = never in cc)) made
      by_full false made = absurd (no_ok t why made.1)
  gave m next log whole_ left false t index later why s goes within has there lawful so rest made =
      let n : ℕ = next_read left in
      let first : ℕ = whole_ - left in
      let bytes : List ℕ = take (40 * n) (drop (40 * first) index) in
      let h : HasEntries m its index = has_entries m s its index named there in
      let r : IsReadSo m its log t first = so refl in
      let es : List Entry = drop first h.entries in
      let reach : first ≤ length h.entries = omega (arith, r.few, h.long) in
      let dropped : drop (40 * first) index ≡ spelling_all es ++ h.tail =
      ap (drop (40 * first)) h.spelled ∙ drop-append-le (40 * first) (spelling_all h.entries) h.tail (omega (arith, reach, length-spelling_all h.entries)) ∙ ap (λ b. b ++ h.tail) (drop-spelling_all first h.entries) in
      let read : ReadsEntries es n bytes = subst (λ b. ReadsEntries es n (take (40 * n) b)) (sym dropped) (reads_entries es h.tail n h.torn) in
      let count : ℕ = min (length bytes / 40) n in
      let taken_ : List Entry = take count es in
      let begins : take first h.entries ≡ take first (entries_in (issued_by m its)) = h.front first r.few in
      let cover : t.cover ≡ cover_with (empty_cover d.writer) (take first h.entries) = r.cover ∙ ap (cover_with (empty_cover d.writer)) (sym begins) in
      let order : AreEntriesOf t.cover.writer t.cover.stamp t.cover.bytes taken_ =
      subst (λ (c : Cover). AreEntriesOf c.writer c.stamp c.bytes taken_) (sym cover) (in_order_take count d.writer (last_stamp 0 (take first h.entries)) (0 + logged (take first h.entries)) es (order_drop first d.writer 0 0 h.entries h.order)) in
      let bytes_are : t.cover.bytes ≡ 0 + logged (take first h.entries) = ap (λ (c : Cover). c.bytes) cover in
      let both : logged (take (first + count) h.entries) ≡ logged (take first h.entries) + logged taken_ = ap logged (take-add first count h.entries) ∙ logged_append (take first h.entries) taken_ in
      let small : t.cover.bytes + logged taken_ ≤ 2 ^ 56 = omega (arith, bytes_are, both, logged_take (first + count) h.entries, h.small) in
      let in_log : t.cover.bytes ≤ log = r.in_log in
      elim (checked_on d (λ past longer. reads_left room d log whole_ (left - n) past longer) (nat_le (40 * n) (length bytes)) (made_by caller later) why log count taken_ bytes read.junk t (sym (length_taken count es read.few)) read.is
      (omega (arith, ap (λ (c : Cover). c.writer) cover, named.widths.1)) in_log small order made) as (λ _. FailsByStore caller next.state later why) [
        | inl (mid, covers, all, goes) ↦ by_full (nat_le (40 * n) (length bytes)) refl mid (λ full. taken_so m its index log first count t mid h has r read.few covers all) goes
        | inr (mid, goes) ↦ ended_by (nat_le (40 * n) (length bytes)) mid goes
      ]
    where
      by_full : (full : Bool) → nat_le (40 * next_read left) (length (take (40 * next_read left) (drop (40 * (whole_ - left)) index))) ≡ full → (mid : Tail) → (full ≡ true → IsReadSo m its log mid (whole_ - left + min (length (take (40 * next_read left) (drop (40 * (whole_ - left)) index)) / 40) (next_read left)))
          → GoesWrong d (λ past longer. reads_left room d log whole_ (left - next_read left) past longer) full (made_by caller later) why false mid → FailsByStore caller next.state later why
      by_full true test mid is wrong = rest false mid later lawful (λ _. subst (IsReadSo next its log mid) (further (length (take (40 * next_read left) (drop (40 * (whole_ - left)) index))) test) (read_later m next s its log mid _ named goes (is refl))) wrong
        where
          further : (len : ℕ) → nat_le (40 * next_read left) len ≡ true → whole_ - left + min (len / 40) (next_read left) ≡ whole_ - (left - next_read left)
          further len t = let least : 40 * next_read left ≤ len = grind (arith, nat_tests) in omega (arith, least, within)
      by_full false test mid is wrong = absurd (no_ok mid why wrong.1)

      ended_by : (full : Bool) (mid : Tail) → GoesWrong d (λ past longer. reads_left room d log whole_ (left - next_read left) past longer) full (made_by caller later) why true mid → FailsByStore caller next.state later why
      ended_by true mid wrong = rest true mid later lawful (λ never. absurd (let clash : true ≡ false = never in cc)) wrong
      ended_by false mid wrong = absurd (no_ok mid why wrong.1)

  -- Reads of what is left
  reads_fail : (fuel : ℕ) (m : Moment) (log whole_ left : ℕ) (why : Stuck) → IsSoundAt m → Stood m its → left ≤ fuel → left ≤ whole_ → log ≤ length (bytes_of (log_then m its)) → ReadsFail m log whole_ left why
  reads_fail fuel m log whole_ zero why s stood enough within has ended t events lawful so runs = absurd (no_ok t why runs.1)
  reads_fail zero m log whole_ (suc k) why s stood enough within has ended t events lawful so runs = absurd (omega (arith, enough))
  reads_fail (suc fuel) m log whole_ (suc k) why s stood enough within has ended t events lawful so runs =
      let left : ℕ = suc k in
      let path : Path = index_path d.host d.writer in
      let next_ : Tries Tail = reads_on room d log whole_ left ended t in
      let f = first_of caller _ _ events (Err why) (subst (λ p. Runs caller p events (Err why)) (reads_going_on room log whole_ left ended d t (omega arith)) runs) in
      let e : Event = f.event in
      let p : FromFirst m f.before e f.later = from_first m events f.before e f.later f.split lawful s in
      let here : Moment = moment_after m f.before in
      let l1 = legal_first m f.before (e ∷ f.later) (subst (IsLawful m.state) f.split lawful) in
      let goes : Grows m here = grows_after m f.before l1 s in
      let now : Stood here its = stood_grows m here its goes stood in
      let c : HasContainer here p.here room = container_of here p.here room (stood_container here p.here its now) in
      let ends : BytesOrTrouble (take (40 * next_read left) (drop (40 * (whole_ - left)) now.bytes)) here.state e.reply e.after =
      read_ends here p.here e.caller room path (40 * (whole_ - left)) (40 * next_read left) now.bytes e.reply e.after c.other now.there (answered here.state e.caller _ e.ask e.reply e.after f.asked p.rest.1) in
      let onward : Moment = next_moment here e in
      let step : Grows here onward = grows_after here (e ∷ []) (legal_first here (e ∷ []) f.later p.rest) p.here in
      let so_here : ended ≡ false → IsReadSo here its log t (whole_ - left) = λ no_. read_later m here s its log t (whole_ - left) named goes (so no_) in
      let reach : log ≤ length (bytes_of (log_then here its)) = omega (arith, has, log_grows m here its named goes) in
      elim ends as (λ _. FailsByStore caller m.state events why) [
        | inl reads ↦
            later_fails caller m events f.before e f.later why f.split lawful
            (gave here onward log whole_ left ended t now.bytes f.later why p.here step within reach now.there p.rest.2 so_here
            (reads_fail fuel onward log whole_ (left - next_read left) why p.next (stood_grows here onward its step now) (omega (arith, enough)) (omega (arith, within)) (omega (arith, reach, log_grows here onward its named step)))
            (subst (λ reply. Runs caller (given (bytes_in reply) (trouble path reply) (λ bytes. if_checked d (λ past longer. reads_left room d log whole_ (left - next_read left) past longer) (nat_le (40 * next_read left) (length bytes)) (looked ended log (next_read left) bytes t))) f.later (Err why)) reads f.rest))
        | inr (inl (fault, risen)) ↦
            here_fails caller m events f.before e f.later why f.split lawful bytes_in path (λ bytes. if_checked d (λ past longer. reads_left room d log whole_ (left - next_read left) past longer) (nat_le (40 * next_read left) (length bytes)) (looked ended log (next_read left) bytes t)) f.by_caller refl refl (inl (fault, risen)) f.rest
        | inr (inr (memory, same)) ↦
            here_fails caller m events f.before e f.later why f.split lawful bytes_in path (λ bytes. if_checked d (λ past longer. reads_left room d log whole_ (left - next_read left) past longer) (nat_le (40 * next_read left) (length bytes)) (looked ended log (next_read left) bytes t)) f.by_caller refl refl (inr memory) f.rest
      ]

  -- ---- the lengths

  more_than : (a b : ℕ) → b ≤ a → nat_lt a b ≡ false
  more_than a b l = grind (arith, nat_tests)

  passes : {R : Type 0} (test : Bool) (x y : Tries R) (events : List Event) (why : Stuck) → test ≡ false → Runs caller (if test then x else y) events (Err why) → Runs caller y events (Err why)
  passes test x y events why is runs = subst (λ p. Runs caller p events (Err why)) (cond-false test x y is) runs

  -- the log's length was told, or it is absent
  LogTold : Moment → ℕ → Type 0
  LogTold m log = log ≡ length (bytes_of (log_then m its))

  after_log : (m onward : Moment) (cover : Cover) (whole_ log : ℕ) (events : List Event) (why : Stuck) → IsSoundAt m → IsSoundAt onward → Stood m its → Grows m onward → IsLawful onward.state events → IsCoverOf m its cover → LogTold m log → Runs caller (if_logged room d (no_tail cover) whole_ log) events (Err why) → cover.count ≤ whole_
      → FailsByStore caller onward.state events why
  unfolding LogTold
  after_log m onward cover whole_ log events why s s2 stood goes lawful r is runs enough =
      let now : IsCoverOf onward its cover = cover_later m onward s its cover named goes r in
      let bytes : cover.bytes ≡ 0 + logged (take cover.count (entries_in (issued_by m its))) = ap (λ (c : Cover). c.bytes) r.tells in
      let fits : cover.bytes ≤ log = omega (arith, bytes, logged_more cover.count (landed m its) (entries_in (issued_by m its)) r.had, landed_logged m s its stood.bytes named stood.there, is) in
      let on : Runs caller (reads_left room d log whole_ (whole_ - cover.count) false (no_tail cover)) events (Err why) = passes (nat_lt log cover.bytes) (done (Err (damage (log_path d.host d.writer) log))) (reads_left room d log whole_ (whole_ - cover.count) false (no_tail cover)) events why (more_than log cover.bytes fits) runs in
      let first : whole_ - (whole_ - cover.count) ≡ cover.count = omega (arith, enough) in
      reads_fail (whole_ - cover.count) onward log whole_ (whole_ - cover.count) why s2 (stood_grows m onward its goes stood) (omega arith) (omega arith) (omega (arith, is, log_grows m onward its named goes)) false (no_tail cover) events lawful
      (λ _. record { cover = now.tells ∙ ap (λ n. cover_with (empty_cover d.writer) (take n (entries_in (issued_by onward its)))) (sym first); few = omega (arith, now.had, first); in_log = fits }) on

  after_index : (m : Moment) (cover : Cover) (whole_ : ℕ) (events : List Event) (why : Stuck) → IsSoundAt m → Stood m its → IsLawful m.state events → IsCoverOf m its cover → cover.count ≤ whole_ → Runs caller (log_program room d (no_tail cover) whole_) events (Err why) → FailsByStore caller m.state events why
  unfolding LogTold
  after_index m cover whole_ events why s stood lawful r enough runs =
      let path : Path = log_path d.host d.writer in
      let f = first_of caller _ _ events (Err why) runs in
      let e : Event = f.event in
      let p : FromFirst m f.before e f.later = from_first m events f.before e f.later f.split lawful s in
      let here : Moment = moment_after m f.before in
      let goes : Grows m here = grows_after m f.before (legal_first m f.before (e ∷ f.later) (subst (IsLawful m.state) f.split lawful)) s in
      let now : Stood here its = stood_grows m here its goes stood in
      let c : HasContainer here p.here room = container_of here p.here room (stood_container here p.here its now) in
      let has = housed here p.here its now c in
      let onward : Moment = next_moment here e in
      let step : Grows here onward = grows_after here (e ∷ []) (legal_first here (e ∷ []) f.later p.rest) p.here in
      let goes_on : (log : ℕ) → LogTold here log → Runs caller (if_logged room d (no_tail cover) whole_ log) f.later (Err why) → FailsByStore caller m.state events why = λ log is on.
      later_fails caller m events f.before e f.later why f.split lawful (after_log here onward cover whole_ log f.later why p.here p.next now step p.rest.2 (cover_later m here s its cover named goes r) is on enough) in
      elim (length_ends here p.here e.caller room path e.reply e.after c has.0 (answered here.state e.caller _ e.ask e.reply e.after f.asked p.rest.1)) as (λ _. FailsByStore caller m.state events why) [
        | inl (size, held, long, is) ↦
            goes_on size (sym (ap (λ o. length (bytes_of o)) (held_then here p.here room path held) ∙ long)) (subst (λ reply. Runs caller (given (log_length_in reply) (trouble path reply) (if_logged room d (no_tail cover) whole_)) f.later (Err why)) is f.rest)
        | inr (inl (none, is)) ↦
            goes_on 0 (sym (ap (λ o. length (bytes_of o)) (ap (λ o. file_told o room path) p.here.shape.told ∙ ap (λ o. file_in_room o path) c.there ∙ none))) (subst (λ reply. Runs caller (given (log_length_in reply) (trouble path reply) (if_logged room d (no_tail cover) whole_)) f.later (Err why)) is f.rest)
        | inr (inr fails) ↦ here_fails caller m events f.before e f.later why f.split lawful log_length_in path (if_logged room d (no_tail cover) whole_) f.by_caller refl refl fails f.rest
      ]

  -- The program of an index dropping that stands, behind a cover of entries that have landed.
  pub tail_fails : (m : Moment) (cover : Cover) (events : List Event) (why : Stuck) → IsSoundAt m → Stood m its → IsLawful m.state events → IsCoverOf m its cover → Runs caller (tail_program room d (no_tail cover)) events (Err why) → FailsByStore caller m.state events why
  tail_fails m cover events why s stood lawful r runs =
      let path : Path = index_path d.host d.writer in
      let f = first_of caller _ _ events (Err why) runs in
      let e : Event = f.event in
      let p : FromFirst m f.before e f.later = from_first m events f.before e f.later f.split lawful s in
      let here : Moment = moment_after m f.before in
      let goes : Grows m here = grows_after m f.before (legal_first m f.before (e ∷ f.later) (subst (IsLawful m.state) f.split lawful)) s in
      let now : Stood here its = stood_grows m here its goes stood in
      let c : HasContainer here p.here room = container_of here p.here room (stood_container here p.here its now) in
      let has = housed here p.here its now c in
      let onward : Moment = next_moment here e in
      let step : Grows here onward = grows_after here (e ∷ []) (legal_first here (e ∷ []) f.later p.rest) p.here in
      let r1 : IsCoverOf here its cover = cover_later m here s its cover named goes r in
      elim (length_ends here p.here e.caller room path e.reply e.after c has.0 (answered here.state e.caller _ e.ask e.reply e.after f.asked p.rest.1)) as (λ _. FailsByStore caller m.state events why) [
        | inl (size, held, long, is) ↦
            let there = held_then here p.here room path held in
            let count : landed here its ≡ min (whole held.bytes) (length (issued_by here its)) = landed_whole here p.here its named ∙ ap (λ o. min (whole (bytes_of o)) (length (issued_by here its))) there in
            let enough : cover.count ≤ size / 40 = omega (arith, r1.had, count, long) in
            let told_ : Runs caller (if_told room d (no_tail cover) size) f.later (Err why) = subst (λ reply. Runs caller (given (number_in reply) (trouble path reply) (if_told room d (no_tail cover))) f.later (Err why)) is f.rest in
            let on : Runs caller (log_program room d (no_tail cover) (size / 40)) f.later (Err why) = passes (nat_lt (size / 40) cover.count) (done (Err (damage path size))) (log_program room d (no_tail cover) (size / 40)) f.later why (more_than (size / 40) cover.count enough) told_ in
            later_fails caller m events f.before e f.later why f.split lawful
            (after_index onward cover (size / 40) f.later why p.next (stood_grows here onward its step now) p.rest.2 (cover_later here onward p.here its cover named step r1) enough on)
        | inr (inl (none, is)) ↦ absurd (let clash : Some now.bytes ≡ None = sym has.1 ∙ none in cc)
        | inr (inr fails) ↦ here_fails caller m events f.before e f.later why f.split lawful number_in path (if_told room d (no_tail cover)) f.by_caller refl refl fails f.rest
      ]

-- What is due of a writer, at its source.
use Rattle.std.proofs.Common.{◌≡◌, ℕ, ◌+◌, ◌-◌, ◌*◌, ◌≤◌, ◌<◌, ◌^◌, min, List, [], ◌∷◌, ◌++◌, length, take, drop, Some, ap, sym, ◌∙◌, subst, arith}
use Rattle.std.proofs.lemmas.List.{drop-take, drop-drop, take-append-le}
use Rattle.plfs_types.specs.declared.entries.Entry.{Entry}
use Rattle.index_entry.specs.Spelling.{spelling_all}
use Rattle.index_entry.proofs.Facts.{drop-spelling_all, take-spelling_all}
use Rattle.store_laws.specs.Prefix.{IsPrefix}
use Rattle.store_laws.proofs.Facts.{prefix_length, prefix_rest}
use Rattle.mount_sound.specs.Entries.{AreEntriesOf, logged}
use Rattle.mount_sound.specs.Ledger.{AreWritesOf, Written, content, entries_in}
use Rattle.mount_sound.proofs.Facts.{content_take, entries_take, length-content, take_less, writes_take}
use Rattle.reader_laws.specs.Moments.{Dropping, Grows, IsSoundAt, Moment, Stood, landed, log_then}
use Rattle.reader_laws.proofs.Gathered.Facts.{entries_stay, front_slice, landed_whole, grows_refl, length-entries, stood_grows}
use Rattle.reader_laws.proofs.Gathered.Logs.Fronts.{log_slice}
use Rattle.drain_copy.specs.declared.plan.Due.{Due}
use Rattle.drain_copy.specs.Copying.{entries_part, entry_place}
use Rattle.drain_sound.specs.Fronts.{dropping_in, index_there, log_there}

-- entries in order have a byte each
many_logged : (writer last offset : ℕ) (es : List Entry) → AreEntriesOf writer last offset es → length es ≤ logged es
many_logged writer last offset [] o = omega arith
many_logged writer last offset (e ∷ es) o = omega (arith, o.0.some, many_logged writer e.stamp (offset + e.len) es o.1)

-- a part of the first entries is one of all
part_of_first : {A : Type 0} (from count most : ℕ) (xs : List A) → from + count ≤ most → take count (drop from (take most xs)) ≡ take count (drop from xs)
part_of_first from count most xs l =
    let rest : ℕ = most - from in
    let sum : most ≡ from + rest = omega (arith, l) in
    ap (λ n. take count (drop from (take n xs))) sum ∙ ap (take count) (drop-take from rest xs) ∙ take_less count rest (drop from xs) (omega (arith, l))

module _ (number : ℕ) where
  -- The writer stands at the source, its entries past those of the target have landed there, and so many bytes are all its entries'.
  pub record IsDueOf (m : Moment) (due : Due) : Type 0 where
    pub stood : Stood m (dropping_in number due.host due.writer)
    pub entries : due.entries ≡ take (length due.entries) (drop due.count (entries_in (m.issued number due.writer)))
    pub landed : due.count + length due.entries ≤ landed m (dropping_in number due.host due.writer)
    pub bytes : due.bytes ≡ logged (take (due.count + length due.entries) (entries_in (m.issued number due.writer)))

  module _ (m : Moment) (s : IsSoundAt m) (due : Due) (d : IsDueOf m due) where
    its : Dropping
    its = dropping_in number due.host due.writer

    all : ℕ
    all = due.count + length due.entries

    writes : List Written
    writes = m.issued number due.writer

    its_writes : AreWritesOf due.writer writes
    unfolding writes
    its_writes = s.sound.writes number due.writer

    has_issued : landed m its ≤ length writes
    unfolding its writes
    has_issued = omega (arith, landed_whole m s its d.stood.is_item)

    has_entries : all ≤ length (entries_in writes)
    unfolding its writes all
    has_entries = omega (arith, d.landed, has_issued, length-entries (m.issued number due.writer))

    -- it is so later
    pub due_later : (n : Moment) → Grows m n → IsDueOf n due
    unfolding its writes all
    due_later n grows =
        let within : all ≤ length writes = omega (arith, d.landed, has_issued) in
        let same : take all (entries_in (n.issued number due.writer)) ≡ take all (entries_in writes) = entries_stay m n its all grows within in
        record {
          stood = stood_grows m n its grows d.stood;
          entries = d.entries ∙ sym (drop-take due.count (length due.entries) (entries_in writes)) ∙ ap (drop due.count) (sym same) ∙ drop-take due.count (length due.entries) (entries_in (n.issued number due.writer));
          landed = omega (arith, d.landed, grows.landed its d.stood.is_item);
          bytes = d.bytes ∙ ap logged (sym same);
        }

    -- ---- its entries

    places_fit : 40 * all < 2 ^ 64
    unfolding its writes all
    places_fit = omega (arith, has_entries, many_logged due.writer 0 0 (entries_in writes) its_writes.in_order, its_writes.small)

    pub place_is : (left : ℕ) → left ≤ length due.entries → entry_place due.count (length due.entries - left) ≡ 40 * (due.count + (length due.entries - left))
    unfolding all
    place_is left l = omega (arith, places_fit)

    -- the spelling of a part is that of the entries there
    pub part_is : (left : ℕ) → left ≤ length due.entries
        → spelling_all (entries_part due.entries left) ≡ take (40 * min left 4096) (drop (40 * (due.count + (length due.entries - left))) (index_there m (dropping_in number due.host due.writer)))
    unfolding its writes all
    part_is left l =
        let behind : ℕ = length due.entries - left in
        let count : ℕ = min left 4096 in
        let es : List Entry = entries_in writes in
        let sum : length due.entries ≡ behind + left = omega (arith, l) in
        let mine : drop behind due.entries ≡ take left (drop (due.count + behind) es) =
        ap (drop behind) (d.entries ∙ ap (λ n. take n (drop due.count es)) sum) ∙ drop-take behind left (drop due.count es) ∙ ap (take left) (drop-drop behind due.count es) in
        let part : take count (drop behind due.entries) ≡ take count (drop (due.count + behind) es) = ap (take count) mine ∙ take_less count left (drop (due.count + behind) es) (omega arith) in
        let there : take count (drop (due.count + behind) (take (landed m its) es)) ≡ take count (drop (due.count + behind) es) = part_of_first (due.count + behind) count (landed m its) es (omega (arith, d.landed, sum)) in
        ap spelling_all (part ∙ sym there)
        ∙ sym (take-spelling_all count (drop (due.count + behind) (take (landed m its) es)))
        ∙ ap (take (40 * count)) (sym (drop-spelling_all (due.count + behind) (take (landed m its) es)))

    -- ---- its log

    all_content : length (content (take all writes)) ≡ due.bytes
    unfolding writes all
    all_content = length-content (take all writes) (writes_take all due.writer writes its_writes).full ∙ ap logged (entries_take all writes) ∙ sym d.bytes

    first_prefix : (k n : ℕ) (ws : List Written) → k ≤ n → IsPrefix (content (take k ws)) (content (take n ws))
    first_prefix k n ws l = subst (λ x. IsPrefix (content x) (content (take n ws))) (take_less k n ws l) (content_take k (take n ws))

    -- bytes of what it issued, within what is due, are those that have landed there
    pub log_is : (at len : ℕ) → at + len ≤ due.bytes → take len (drop at (content (m.issued number due.writer))) ≡ take len (drop at (log_there m (dropping_in number due.host due.writer)))
    unfolding its writes all
    log_is at len within =
        let front : List ℕ = content (take all writes) in
        let whole : content writes ≡ front ++ drop (length front) (content writes) = prefix_rest front (content writes) (content_take all writes) in
        let there : List ℕ = log_there m its in
        let has : there ≡ front ++ drop (length front) there = prefix_rest front there (first_prefix all (landed m its) writes d.landed) in
        ap (λ c. take len (drop at c)) whole ∙ front_slice front (drop (length front) (content writes)) at len (omega (arith, within, all_content))
        ∙ sym (ap (λ c. take len (drop at c)) has ∙ front_slice front (drop (length front) there) at len (omega (arith, within, all_content)))

    -- so are those of its log
    pub log_read : (log : List ℕ) (at len : ℕ) → log_then m (dropping_in number due.host due.writer) ≡ Some log → at + len ≤ due.bytes → take len (drop at log) ≡ take len (drop at (log_there m (dropping_in number due.host due.writer)))
    unfolding its writes all
    log_read log at len e within =
        let front : List ℕ = content (take all writes) in
        let long : length front ≤ length (content writes) = omega (arith, prefix_length front (content writes) (content_take all writes)) in
        log_slice m m s its d.stood.bytes log at len d.stood.is_item (grows_refl m) d.stood.there e (omega (arith, within, long, all_content)) ∙ log_is at len within

    -- the bytes that are due are there, however far the source has come
    pub log_stays : (n : Moment) → IsSoundAt n → Grows m n → (at len : ℕ) → at + len ≤ due.bytes
        → take len (drop at (log_there n (dropping_in number due.host due.writer))) ≡ take len (drop at (log_there m (dropping_in number due.host due.writer)))
    unfolding its writes all
    log_stays n t grows at len within =
        let more = grows.issued number due.writer in
        let front : List ℕ = content (take all writes) in
        let were : take all (n.issued number due.writer) ≡ take all writes = ap (take all) more.1 ∙ take-append-le all writes more.0 (omega (arith, d.landed, has_issued)) in
        let there : List ℕ = log_there n its in
        let first : IsPrefix front there = subst (λ ws. IsPrefix (content ws) there) were (first_prefix all (landed n its) (n.issued number due.writer) (omega (arith, d.landed, grows.landed its d.stood.is_item))) in
        let has : there ≡ front ++ drop (length front) there = prefix_rest front there first in
        let old : List ℕ = log_there m its in
        let had : old ≡ front ++ drop (length front) old = prefix_rest front old (first_prefix all (landed m its) writes d.landed) in
        ap (λ c. take len (drop at c)) has ∙ front_slice front (drop (length front) there) at len (omega (arith, within, all_content))
        ∙ sym (ap (λ c. take len (drop at c)) had ∙ front_slice front (drop (length front) old) at len (omega (arith, within, all_content)))

-- The changes of a cut, and that their bytes are read from the logs.
use Rattle.std.proofs.Common.{◌≡◌, ℕ, zero, suc, ◌+◌, ◌<◌, List, [], ◌∷◌, ◌++◌, length, take, drop, map, refl, ap, sym, ◌∙◌, subst, arith, false, append_assoc, length-append}
use Rattle.std.specs.List.{AllByRecursion, All}
use Rattle.std.proofs.lemmas.Bool.Decides.{nat_tests}
use Rattle.std.proofs.lemmas.List.Elements.{All-from_recursion}
use Rattle.std.proofs.Math.Seq.{drop-append_seam, take-append_seam}
use Rattle.plfs_types.specs.declared.entries.Entry.{Entry}
use Rattle.plfs_types.specs.declared.entries.Trunc.{Trunc}
use Rattle.plain_file.specs.declared.changes.Change.{Change}
use Rattle.plain_file.specs.declared.changes.Change.TheVariants.{Truncate}
use Rattle.plain_file.specs.File.{HasItsBytes, slice}
use Rattle.plain_file.specs.Keys.{KeysDiffer, same_key}
use Rattle.plain_file.specs.Shows.{entries_of, truncs_of}
use Rattle.plain_file.specs.Logs.{IsLogged}
use Rattle.mount_sound.specs.Entries.{AreEntriesOf}
use Rattle.mount_sound.specs.Ledger.{Written, entries_in, content, AreFull}
use Rattle.reader_laws.specs.Moments.{Moment, IsSoundAt, issued_by}
use Rattle.reader_laws.specs.Gathering.{Gathered, IsAdmissible}
use Rattle.reader_laws.specs.View.{cut_off, writes_in, changes_in, tails_of, own_entries, tails_in, WritersRise, logs_of}
use Rattle.mount_sound.specs.Ledger.{change_of}
use Rattle.reader_laws.proofs.Gathered.Logs.Fronts.{entries-append}

-- ---------- entries and truncates of the changes

entries_of-truncs : (truncs : List Trunc) → entries_of (map cut_off truncs) ≡ []
entries_of-truncs [] = refl
entries_of-truncs (t ∷ truncs) = entries_of-truncs truncs

pub entries_of-changes : (writes : List Written) (truncs : List Trunc) → entries_of (map change_of writes ++ map cut_off truncs) ≡ entries_in writes
entries_of-changes [] truncs = entries_of-truncs truncs
entries_of-changes (w ∷ writes) truncs = ap (λ l. w.entry ∷ l) (entries_of-changes writes truncs)

truncs_of-truncs : (truncs : List Trunc) → truncs_of (map cut_off truncs) ≡ truncs
truncs_of-truncs [] = refl
truncs_of-truncs (t ∷ truncs) = ap (λ l. t ∷ l) (truncs_of-truncs truncs)

pub truncs_of-changes : (writes : List Written) (truncs : List Trunc) → truncs_of (map change_of writes ++ map cut_off truncs) ≡ truncs
truncs_of-changes [] truncs = truncs_of-truncs truncs
truncs_of-changes (w ∷ writes) truncs = truncs_of-changes writes truncs

pub entries_in-take : (n : ℕ) (writes : List Written) → entries_in (take n writes) ≡ take n (entries_in writes)
entries_in-take zero [] = refl
entries_in-take zero (w ∷ writes) = refl
entries_in-take (suc n) [] = refl
entries_in-take (suc n) (w ∷ writes) = ap (λ l. w.entry ∷ l) (entries_in-take n writes)

pub entries_split : (end : Moment) (g : Gathered) (cut : List Gathered) → entries_in (writes_in end (g ∷ cut)) ≡ own_entries end g ++ entries_in (writes_in end cut)
entries_split end g cut = entries-append (take g.count (issued_by end g.dropping)) (writes_in end cut) ∙ ap (λ l. l ++ entries_in (writes_in end cut)) (entries_in-take g.count (issued_by end g.dropping))

-- What the reader gathered of the index droppings are its cut's entries, but for the covered ones.
pub tails_are : (start end : Moment) (cut : List Gathered) → IsAdmissible start end cut → tails_of cut ≡ tails_in end cut
tails_are start end [] a = refl
tails_are start end (g ∷ cut) a =
    ap (λ c. c ++ tails_of cut) a.0.entries ∙ ap (λ c. drop g.covered (own_entries end g) ++ c) (tails_are start end cut a.1)

-- ---------- facts of all changes

pub All-append : {X : Type 0} (P : X → Type 0) (xs ys : List X) → AllByRecursion P xs → AllByRecursion P ys → AllByRecursion P (xs ++ ys)
All-append P [] ys a b = b
All-append P (x ∷ xs) ys a b = (a.0, All-append P xs ys a.1 b)

pub All-take : {X : Type 0} (P : X → Type 0) (n : ℕ) (xs : List X) → AllByRecursion P xs → AllByRecursion P (take n xs)
All-take P zero [] a = tt
All-take P zero (x ∷ xs) a = tt
All-take P (suc n) [] a = tt
All-take P (suc n) (x ∷ xs) a = (a.0, All-take P n xs a.1)

All-truncs : (P : Change → Type 0) (truncs : List Trunc) → ((t : Trunc) → P (Truncate t)) → AllByRecursion P (map cut_off truncs)
All-truncs P [] p = tt
All-truncs P (t ∷ truncs) p = (p t, All-truncs P truncs p)

-- what holds of each write holds of each change, if it holds of truncates
All-changes : (P : Change → Type 0) (writes : List Written) (truncs : List Trunc) → AllByRecursion (λ (w : Written). P (change_of w)) writes → ((t : Trunc) → P (Truncate t)) → AllByRecursion P (map change_of writes ++ map cut_off truncs)
All-changes P [] truncs a p = All-truncs P truncs p
All-changes P (w ∷ writes) truncs a p = (a.0, All-changes P writes truncs a.1 p)

-- a fact of each writer's writes is one of the cut's
All-cut : (P : Written → Type 0) (end : Moment) (room : ℕ) (cut : List Gathered) → WritersRise room cut → ((writer : ℕ) → AllByRecursion P (end.issued room writer)) → AllByRecursion P (writes_in end cut)
All-cut P end room [] rise all = tt
All-cut P end room (g ∷ cut) rise all =
    All-append P (take g.count (issued_by end g.dropping)) (writes_in end cut)
    (All-take P g.count (issued_by end g.dropping) (subst (λ r. AllByRecursion P (end.issued r g.dropping.writer)) (sym rise.0) (all g.dropping.writer)))
    (All-cut P end room cut rise.2 all)

full_all : (writes : List Written) → AreFull writes → AllByRecursion (λ (w : Written). length w.bytes ≡ w.entry.len) writes
full_all [] f = tt
full_all (w ∷ writes) f = (f.0, full_all writes f.1)

pub bytes_all : (end : Moment) (s : IsSoundAt end) (room : ℕ) (cut : List Gathered) (truncs : List Trunc) → WritersRise room cut → All HasItsBytes (changes_in end cut truncs)
bytes_all end s room cut truncs rise = All-from_recursion HasItsBytes (changes_in end cut truncs)
    (All-changes HasItsBytes (writes_in end cut) truncs (All-cut (λ w. length w.bytes ≡ w.entry.len) end room cut rise (λ writer. full_all (end.issued room writer) (s.sound.writes room writer).full)) (λ t. tt))

-- ---------- the bytes of a write lie in the ideal log

skip_front : (front rest : List ℕ) (at len : ℕ) (bytes : List ℕ) → at ≡ length front → len ≡ length bytes → take len (drop at (front ++ (bytes ++ rest))) ≡ bytes
skip_front front rest at len bytes a l =
    ap (λ n. take len (drop n (front ++ (bytes ++ rest)))) a ∙ ap (take len) (drop-append_seam front (bytes ++ rest)) ∙ ap (λ n. take n (bytes ++ rest)) l ∙ take-append_seam bytes rest

placed_from : (writer last offset : ℕ) (front : List ℕ) (writes : List Written) → offset ≡ length front → AreEntriesOf writer last offset (entries_in writes) → AreFull writes
    → AllByRecursion (λ (w : Written). (w.entry.writer ≡ writer) × (slice (front ++ content writes) w.entry.physical w.entry.len ≡ w.bytes)) writes
placed_from writer last offset front [] at o f = tt
placed_from writer last offset front (w ∷ writes) at o f =
    let next : offset + w.entry.len ≡ length (front ++ w.bytes) = omega (arith, length-append front w.bytes, at, f.0) in
    let rest = placed_from writer w.entry.stamp (offset + w.entry.len) (front ++ w.bytes) writes next o.1 f.1 in (
      (o.0.owner, skip_front front (content writes) w.entry.physical w.entry.len w.bytes (o.0.place ∙ at) (sym f.0)),
      subst (λ l. AllByRecursion (λ (v : Written). (v.entry.writer ≡ writer) × (slice l v.entry.physical v.entry.len ≡ v.bytes)) writes) (append_assoc front w.bytes (content writes)) rest,
    )

logged_as : (end : Moment) (room writer : ℕ) (writes : List Written) → AllByRecursion (λ (w : Written). (w.entry.writer ≡ writer) × (slice (logs_of end room writer) w.entry.physical w.entry.len ≡ w.bytes)) writes → AllByRecursion (λ (w : Written). IsLogged (logs_of end room) (change_of w)) writes
logged_as end room writer [] a = tt
logged_as end room writer (w ∷ writes) a = (ap (λ q. slice (logs_of end room q) w.entry.physical w.entry.len) a.0.0 ∙ a.0.1, logged_as end room writer writes a.1)

pub logged_all : (end : Moment) (s : IsSoundAt end) (room : ℕ) (cut : List Gathered) (truncs : List Trunc) → WritersRise room cut → All (IsLogged (logs_of end room)) (changes_in end cut truncs)
logged_all end s room cut truncs rise = All-from_recursion (IsLogged (logs_of end room)) (changes_in end cut truncs)
    (All-changes (IsLogged (logs_of end room)) (writes_in end cut) truncs
    (All-cut (λ w. IsLogged (logs_of end room) (change_of w)) end room cut rise (λ writer. let o = s.sound.writes room writer in logged_as end room writer (end.issued room writer) (placed_from writer 0 0 [] (end.issued room writer) refl o.in_order o.full)))
    (λ t. tt))

-- ---------- no two writes of the cut have one key

keys_append : (xs ys : List Entry) → KeysDiffer xs → KeysDiffer ys → AllByRecursion (λ (e : Entry). AllByRecursion (λ (d : Entry). same_key e d ≡ false) ys) xs → KeysDiffer (xs ++ ys)
keys_append [] ys a b c = b
keys_append (x ∷ xs) ys a b c = (All-append (λ d. same_key x d ≡ false) xs ys a.0 c.0, keys_append xs ys a.1 b c.1)

pub All-weaker : {X : Type 0} (P Q : X → Type 0) (xs : List X) → ((x : X) → P x → Q x) → AllByRecursion P xs → AllByRecursion Q xs
All-weaker P Q [] f a = tt
All-weaker P Q (x ∷ xs) f a = (f x a.0, All-weaker P Q xs f a.1)

later_all : (writer last offset : ℕ) (es : List Entry) → AreEntriesOf writer last offset es → AllByRecursion (λ (e : Entry). last < e.stamp) es
later_all writer last offset [] o = tt
later_all writer last offset (e ∷ es) o =
    let first : last < e.stamp = o.0.later in
    (first, All-weaker (λ (d : Entry). e.stamp < d.stamp) (λ (d : Entry). last < d.stamp) es (λ d l. omega arith) (later_all writer e.stamp (offset + e.len) es o.1))

stamps_apart : (e d : Entry) → e.stamp < d.stamp → same_key e d ≡ false
stamps_apart e d l = grind (arith, nat_tests)

writers_apart : (e d : Entry) → e.writer < d.writer → same_key e d ≡ false
writers_apart e d l = grind (arith, nat_tests)

keys_of_writer : (writer last offset : ℕ) (es : List Entry) → AreEntriesOf writer last offset es → KeysDiffer es
keys_of_writer writer last offset [] o = tt
keys_of_writer writer last offset (e ∷ es) o = (All-weaker (λ (d : Entry). e.stamp < d.stamp) (λ (d : Entry). same_key e d ≡ false) es (λ d l. stamps_apart e d l) (later_all writer e.stamp (offset + e.len) es o.1), keys_of_writer writer e.stamp (offset + e.len) es o.1)

owners_all : (writer last offset : ℕ) (es : List Entry) → AreEntriesOf writer last offset es → AllByRecursion (λ (e : Entry). e.writer ≡ writer) es
owners_all writer last offset [] o = tt
owners_all writer last offset (e ∷ es) o = (o.0.owner, owners_all writer e.stamp (offset + e.len) es o.1)

pub in_order-take : (n writer last offset : ℕ) (es : List Entry) → AreEntriesOf writer last offset es → AreEntriesOf writer last offset (take n es)
in_order-take zero writer last offset [] o = tt
in_order-take zero writer last offset (e ∷ es) o = tt
in_order-take (suc n) writer last offset [] o = tt
in_order-take (suc n) writer last offset (e ∷ es) o = (o.0, in_order-take n writer e.stamp (offset + e.len) es o.1)

-- the writers of the rest of a cut
others_all : (end : Moment) (s : IsSoundAt end) (writer : ℕ) (cut : List Gathered) → AllByRecursion (λ (h : Gathered). writer < h.dropping.writer) cut → AllByRecursion (λ (e : Entry). writer < e.writer) (entries_in (writes_in end cut))
others_all end s writer [] above = tt
others_all end s writer (g ∷ cut) above =
    let o = s.sound.writes g.dropping.room g.dropping.writer in
    let higher : writer < g.dropping.writer = above.0 in
    let mine : AllByRecursion (λ (e : Entry). writer < e.writer) (entries_in (take g.count (issued_by end g.dropping))) =
    subst (AllByRecursion (λ (e : Entry). writer < e.writer)) (sym (entries_in-take g.count (issued_by end g.dropping)))
    (All-weaker (λ (e : Entry). e.writer ≡ g.dropping.writer) (λ (e : Entry). writer < e.writer) (take g.count (entries_in (issued_by end g.dropping))) (λ e is. omega (arith, is, higher))
    (owners_all g.dropping.writer 0 0 (take g.count (entries_in (issued_by end g.dropping))) (in_order-take g.count g.dropping.writer 0 0 (entries_in (issued_by end g.dropping)) o.in_order))) in
    subst (AllByRecursion (λ (e : Entry). writer < e.writer)) (sym (entries-append (take g.count (issued_by end g.dropping)) (writes_in end cut)))
    (All-append (λ (e : Entry). writer < e.writer) (entries_in (take g.count (issued_by end g.dropping))) (entries_in (writes_in end cut)) mine (others_all end s writer cut above.1))

pub keys_in : (end : Moment) (s : IsSoundAt end) (room : ℕ) (cut : List Gathered) → WritersRise room cut → KeysDiffer (entries_in (writes_in end cut))
keys_in end s room [] rise = tt
keys_in end s room (g ∷ cut) rise =
    let o = s.sound.writes g.dropping.room g.dropping.writer in
    let es : List Entry = take g.count (entries_in (issued_by end g.dropping)) in
    let order : AreEntriesOf g.dropping.writer 0 0 es = in_order-take g.count g.dropping.writer 0 0 (entries_in (issued_by end g.dropping)) o.in_order in
    let rest : List Entry = entries_in (writes_in end cut) in
    let others = others_all end s g.dropping.writer cut rise.1 in
    let cross : AllByRecursion (λ (e : Entry). AllByRecursion (λ (d : Entry). same_key e d ≡ false) rest) es =
    All-weaker (λ (e : Entry). e.writer ≡ g.dropping.writer) (λ (e : Entry). AllByRecursion (λ (d : Entry). same_key e d ≡ false) rest) es
    (λ e is. All-weaker (λ (d : Entry). g.dropping.writer < d.writer) (λ (d : Entry). same_key e d ≡ false) rest (λ d other. writers_apart e d (omega (arith, is, other))) others)
    (owners_all g.dropping.writer 0 0 es order) in
    subst KeysDiffer (sym (entries_split end g cut))
    (keys_append es rest (keys_of_writer g.dropping.writer 0 0 es order) (keys_in end s room cut rise.2) cross)

pub keys_differ : (end : Moment) (s : IsSoundAt end) (room : ℕ) (cut : List Gathered) (truncs : List Trunc) → WritersRise room cut → KeysDiffer (entries_of (changes_in end cut truncs))
keys_differ end s room cut truncs rise = subst KeysDiffer (sym (entries_of-changes (writes_in end cut) truncs)) (keys_in end s room cut rise)

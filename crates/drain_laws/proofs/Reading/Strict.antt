-- The program that reads a container goes on with good answers alone.
use Rattle.std.proofs.Common.{◌≡◌, ℕ, zero, suc, ◌+◌, ◌-◌, ◌*◌, ◌/◌, ◌≤◌, nat_le, nat_lt, Bool, true, false, List, [], ◌∷◌, ◌++◌, length, min, drop, Option, Some, None, refl, ap, sym, ◌⊎◌, inl, inr, subst, arith}
use Rattle.std.specs.Prelude.{Result, Ok, Err, if◌then◌else◌}
use Rattle.std.proofs.lemmas.Bool.{cond-true}
use Rattle.std.proofs.lemmas.Bool.Decides.{nat_tests}
use Rattle.std.proofs.lemmas.List.{length-take}
use Rattle.plfs_types.specs.declared.names.Path.{Path}
use Rattle.container_layout.specs.Paths.{hostdir_of}
use Rattle.index_entry.specs.Spelling.{entry_in}
use Rattle.store_api.specs.declared.step.Answer.{Answer}
use Rattle.store_api.specs.declared.step.Answer.TheVariants.{Absent, Bytes, Names, NoFolder, Number}
use Rattle.store_api.specs.declared.tree.Room.{Room}
use Rattle.store_api.specs.declared.tree.Tree.{Tree}
use Rattle.store_api.specs.Effect.{Effect, effect}
use Rattle.store_laws.specs.Says.{ReadTells}
use Rattle.store_laws.proofs.Facts.{read_tells}
use Rattle.mount_model.specs.declared.call.Call.TheVariants.{Look}
use Rattle.mount_model.specs.declared.call.Look.{Look as Sight}
use Rattle.mount_model.specs.declared.call.Look.TheVariants.{Top, List as ListFolder, Length, Read}
use Rattle.mount_model.specs.declared.reply.Reply.{Reply}
use Rattle.mount_model.specs.declared.reply.Reply.TheVariants.{Damaged, Fault, Looked, NoMemory}
use Rattle.mount_model.specs.Looking.{look_step as mount_step, look_reply as mount_reply}
use Rattle.mount_model.specs.Paths.{Name, index_path, log_path, truncs}
use Rattle.mount_sound.specs.Sound.{IsSoundTree}
use Rattle.mount_model.specs.declared.stuck.Stuck.{Stuck}
use Rattle.mount_model.specs.declared.stuck.Stuck.TheVariants as stuck
use Rattle.mount_model.specs.Entries.{is_next}
use Rattle.mount_model.specs.FlowReplies.{Tries, bytes_in, damage, given, names_in, on_ok}
use Rattle.mount_model.specs.Program.{done, ask, followed_by}
use Rattle.index_reader.specs.declared.entries.Tail.{Tail}
use Rattle.index_reader.specs.declared.listing.Dropping.{Dropping as Listed}
use Rattle.index_reader.specs.declared.scanning.Scan.{Scan}
use Rattle.index_reader.specs.Covered.{cover_of}
use Rattle.index_reader.specs.Entries.{checked, longer}
use Rattle.index_reader.specs.Opening.{no_flat, scan_program, scans}
use Rattle.index_reader.specs.Packs.{no_tail}
use Rattle.index_reader.specs.Replies.{log_length_in, number_in}
use Rattle.index_reader.specs.Scanning.{nothing_found, scanned}
use Rattle.index_reader.specs.Tails.{if_checked, if_logged, if_told, log_then, looked, reads, reads_left, tail_program}
use Rattle.mount_model.specs.Entries.{next_read, reads_of}
use Rattle.index_reader.specs.Tops.{top_shows}
use Rattle.index_reader.specs.Truncs.{trunc_program, truncs_of}
use Rattle.flat_format.specs.declared.flat.Flat.{Flat}
use Rattle.drain_copy.specs.Asking.{look_reply}
use Rattle.drain_read.specs.declared.read.Known.{Known}
use Rattle.drain_read.specs.declared.read.WriterRead.{WriterRead}
use Rattle.drain_read.specs.Reading.{contained_program, contains, read_as, reads_all, reads_listed}
use Rattle.drain_laws.proofs.Reading.Beside.{IsMarked, IsStrict}

module _ (t : Tree) (sound : IsSoundTree t) (marks : ℕ) (room : Room) (marked : IsMarked t marks room) (n : ℕ) (other : n ≡ marks → ⊥) where
  abbrev Strict : {X : Type 0} → Tries X → Type 0
  Strict p = IsStrict t sound marks room marked n other p

  -- ---- how programs are put together

  strict_on : {A X : Type 0} (p : Tries A) (next : A → Tries X) → Strict p → ((a : A) → Strict (next a)) → Strict (followed_by p (on_ok next))
  strict_on (done (Ok a)) next strict more = more a
  strict_on (done (Err why)) next strict more = tt
  strict_on (ask call k) next strict more = (
    (strict.0.0, strict.0.1, λ answer e. elim (strict.0.2 answer e) [ inl same ↦ inl same | inr (a, b) ↦ inr ((a.0, ap (λ p. followed_by p (on_ok next)) a.1), (b.0, ap (λ p. followed_by p (on_ok next)) b.1)) ]),
    ap (λ p. followed_by p (on_ok next)) strict.1,
    ap (λ p. followed_by p (on_ok next)) strict.2,
    λ r. strict_on (k r) next (strict.3 r) more,
  )

  strict_ok : {A X : Type 0} (value : Result A Stuck) (next : A → Tries X) → ((a : A) → Strict (next a)) → Strict (on_ok next value)
  strict_ok (Ok a) next more = more a
  strict_ok (Err why) next more = tt

  strict_if : {X : Type 0} (test : Bool) (p q : Tries X) → Strict p → Strict q → Strict (if test then p else q)
  strict_if true p q a b = a
  strict_if false p q a b = b

  strict_given : {A X : Type 0} (found : Option A) (why : Stuck) (next : A → Tries X) → ((a : A) → Strict (next a)) → Strict (given found why next)
  strict_given None why next more = tt
  strict_given (Some a) why next more = more a

  -- a look whose reply gives something, or ends it
  abbrev Takes : {A : Type 0} → Sight → (Reply → Option A) → Type 0
  Takes look take_in = (answer : Answer) → effect t (mount_step n look) ≡ record { tree = t; answer = answer } → (look_reply (Ok answer) ≡ mount_reply look (Ok answer)) ⊎ ((take_in (look_reply (Ok answer)) ≡ None) × (take_in (mount_reply look (Ok answer)) ≡ None))

  strict_look : {A X : Type 0} (look : Sight) (take_in : Reply → Option A) (why : Reply → Stuck) (next : A → Tries X) → Takes look take_in → take_in Fault ≡ None → take_in NoMemory ≡ None → why Fault ≡ stuck.Fault → why NoMemory ≡ stuck.Fault → ((a : A) → Strict (next a)) → Strict (ask (Look n look) (λ reply. given (take_in reply) (why reply) next))
  strict_look look take_in why next takes faults wants fault want more = (
    (
      look,
      refl,
      λ answer e. elim (takes answer e) [
        | inl same ↦ inl same
        | inr (a, b) ↦ inr ((why (look_reply (Ok answer)), ap (λ o. given o (why (look_reply (Ok answer))) next) a), (why (mount_reply look (Ok answer)), ap (λ o. given o (why (mount_reply look (Ok answer))) next) b))
      ],
    ),
    (λ i. given (faults i) (fault i) next),
    (λ i. given (wants i) (want i) next),
    λ r. strict_given (take_in r) (why r) next more,
  )

  -- ---- what replies give

  top_names : Takes Top names_in
  top_names (Names names) e = inl refl
  top_names NoFolder e = inr (refl, refl)
  top_names answer e = inr (refl, refl)

  folder_names : (folder : Name) → Takes (ListFolder folder) names_in
  folder_names folder (Names names) e = inl refl
  folder_names folder NoFolder e = inr (refl, refl)
  folder_names folder answer e = inr (refl, refl)

  a_number : (path : Path) → Takes (Length path) number_in
  a_number path (Number value) e = inl refl
  a_number path NoFolder e = inr (refl, refl)
  a_number path answer e = inr (refl, refl)

  a_length : (path : Path) → Takes (Length path) log_length_in
  a_length path (Number value) e = inl refl
  a_length path Absent e = inl refl
  a_length path NoFolder e = inr (refl, refl)
  a_length path answer e = inr (refl, refl)

  some_bytes : (path : Path) (at len : ℕ) → Takes (Read path at len) bytes_in
  some_bytes path at len (Bytes bytes) e =
      let says : ReadTells t n path at len (Bytes bytes) = subst (ReadTells t n path at len) (ap (λ (x : Effect). x.answer) e) (read_tells t n path at len).says_so in
      let long : length bytes ≤ len = omega (arith, ap length says.1, length-take len (drop at says.0.bytes)) in
      let fits : nat_le (length bytes) len ≡ true = grind (arith, nat_tests, long) in
      inl (sym (cond-true (nat_le (length bytes) len) (Looked (Bytes bytes)) (Damaged path.folder path.file) fits))
  some_bytes path at len NoFolder e = inr (refl, refl)
  some_bytes path at len answer e = inr (refl, refl)

  -- ---- the scan

  strict_scans : (id : ℕ) (flat : Flat) (ks : List ℕ) (scan : Scan) → Strict (scans n id flat ks scan)
  strict_scans id flat [] scan = tt
  strict_scans id flat (k ∷ ks) scan =
      strict_look (ListFolder (hostdir_of k)) names_in _ (λ names. on_ok (λ more. scans n id flat ks more) (scanned (hostdir_of k) names scan)) (folder_names (hostdir_of k)) refl refl refl refl
      (λ names. strict_ok (scanned (hostdir_of k) names scan) (λ more. scans n id flat ks more) (λ more. strict_scans id flat ks more))

  strict_scan : Strict (scan_program n)
  strict_scan =
      strict_look Top names_in _ (λ names. on_ok (λ ks. scans n 0 no_flat ks nothing_found) (top_shows names)) top_names refl refl refl refl
      (λ names. strict_ok (top_shows names) (λ ks. scans n 0 no_flat ks nothing_found) (λ ks. strict_scans 0 no_flat ks nothing_found))

  -- ---- one dropping

  both : {A : Type 0} (P : A → Type 0) (b : Bool) (x y : A) → P x → P y → P (if b then x else y)
  both P true x y good bad = good
  both P false x y good bad = bad

  strict_checked : (d : Listed) (more : Bool → Tail → Tries Tail) (full : Bool) (log count : ℕ) (bytes : List ℕ) (tail : Tail) → ((past : Bool) (after : Tail) → Strict (more past after)) → Strict (if_checked d more full (checked log count bytes tail))
  strict_checked d more full log zero bytes tail h = strict_if full (more false tail) (done (Ok tail)) (h false tail) tt
  strict_checked d more full log (suc count) bytes tail h =
      both (λ p. Strict (if_checked d more full p)) (is_next tail.cover (entry_in bytes)) _ _
      (both (λ p. Strict (if_checked d more full p)) (nat_le ((entry_in bytes).physical + (entry_in bytes).len) log) _ _
      (strict_checked d more full log count (drop 40 bytes) (longer (entry_in bytes) tail) h)
      (strict_if full (more true tail) (done (Ok tail)) (h true tail) tt))
      tt

  strict_looked : (d : Listed) (more : Bool → Tail → Tries Tail) (full ended : Bool) (log asked : ℕ) (bytes : List ℕ) (tail : Tail) → ((past : Bool) (after : Tail) → Strict (more past after)) → Strict (if_checked d more full (looked ended log asked bytes tail))
  strict_looked d more full true log asked bytes tail h = strict_if full (more true tail) (done (Ok tail)) (h true tail) tt
  strict_looked d more full false log asked bytes tail h = strict_checked d more full log (min (length bytes / 40) asked) bytes tail h

  strict_reads : (count : ℕ) (d : Listed) (log whole left : ℕ) (ended : Bool) (tail : Tail) → Strict (reads count n d log whole left ended tail)
  strict_reads zero d log whole left ended tail = tt
  strict_reads (suc count) d log whole left ended tail =
      strict_look (Read (index_path d.host d.writer) (40 * (whole - left)) (40 * next_read left)) bytes_in _
      (λ bytes. if_checked d (λ past longer. reads count n d log whole (left - next_read left) past longer) (nat_le (40 * next_read left) (length bytes)) (looked ended log (next_read left) bytes tail))
      (some_bytes (index_path d.host d.writer) (40 * (whole - left)) (40 * next_read left)) refl refl refl refl
      (λ bytes. strict_looked d (λ past after. reads count n d log whole (left - next_read left) past after) (nat_le (40 * next_read left) (length bytes)) ended log (next_read left) bytes tail (λ past after. strict_reads count d log whole (left - next_read left) past after))

  strict_tail : (d : Listed) (tail : Tail) → Strict (tail_program n d tail)
  strict_tail d tail =
      strict_look (Length (index_path d.host d.writer)) number_in _ (if_told n d tail) (a_number (index_path d.host d.writer)) refl refl refl refl
      (λ told. strict_if (nat_lt (told / 40) tail.cover.count) (done (Err (damage (index_path d.host d.writer) told))) (log_then n d tail (told / 40)) tt
      (strict_look (Length (log_path d.host d.writer)) log_length_in _ (if_logged n d tail (told / 40)) (a_length (log_path d.host d.writer)) refl refl refl refl
      (λ log. strict_if (nat_lt log tail.cover.bytes) (done (Err (damage (log_path d.host d.writer) log))) (reads_left n d log (told / 40) (told / 40 - tail.cover.count) false tail) tt (strict_reads (reads_of (told / 40 - tail.cover.count)) d log (told / 40) (told / 40 - tail.cover.count) false tail))))

  -- ---- all

  strict_truncs : (known : Known) → known.room ≡ n → Strict (trunc_program known.room)
  strict_truncs known is = subst (λ k. Strict (trunc_program k)) (sym is) (strict_look (ListFolder truncs) names_in _ (λ names. done (truncs_of names [])) (folder_names truncs) refl refl refl refl (λ names. tt))

  strict_all : (known : Known) → known.room ≡ n → (ds : List Listed) (sofar : List WriterRead) → Strict (reads_all known ds sofar)
  strict_all known is [] sofar = strict_on (trunc_program known.room) (contains known sofar) (strict_truncs known is) (λ ts. tt)
  strict_all known is (d ∷ ds) sofar =
      strict_on (tail_program known.room d (no_tail (cover_of d.writer known.covers))) (λ tail. reads_all known ds (sofar ++ read_as known.keeps d tail ∷ []))
      (subst (λ k. Strict (tail_program k d (no_tail (cover_of d.writer known.covers)))) (sym is) (strict_tail d (no_tail (cover_of d.writer known.covers))))
      (λ tail. strict_all known is ds (sofar ++ read_as known.keeps d tail ∷ []))

  pub strict_contained : (known : Known) → known.room ≡ n → Strict (contained_program known)
  strict_contained known is =
      strict_on (scan_program known.room) (reads_listed known) (subst (λ k. Strict (scan_program k)) (sym is) strict_scan) (λ listing. strict_all known is listing.droppings [])

-- What a drain reads of its target is so.
use Rattle.std.proofs.Common.{◌≡◌, ℕ, ◌*◌, ◌/◌, ◌≤◌, min, List, [], ◌∷◌, ◌++◌, length, take, Option, Some, None, refl, ap, sym, ◌∙◌, ◌⊎◌, inl, inr, subst, append_assoc, arith}
use Rattle.std.specs.Prelude.{Result, Ok, Err, slice_get}
use Rattle.std.specs.List.{Any, AllByRecursion}
use Rattle.std.proofs.lemmas.List.{append-nil, take-append-le}
use Rattle.plain_file.proofs.Facts.{Among}
use Rattle.plfs_types.specs.declared.entries.Cover.{Cover}
use Rattle.plfs_types.specs.declared.entries.Entry.{Entry}
use Rattle.plfs_types.specs.declared.names.Path.{Path}
use Rattle.container_layout.specs.declared.items.Item.TheVariants.{Index, Meta}
use Rattle.container_layout.specs.Paths.{IsIn, path_of}
use Rattle.index_entry.proofs.Facts.{length-spelling_all}
use Rattle.store_api.specs.declared.step.Answer.TheVariants.{Absent, Names, NoFolder, Number}
use Rattle.store_api.specs.declared.store.Trouble.TheVariants.{Fault, NoMemory}
use Rattle.store_api.specs.declared.tree.Room.{Room}
use Rattle.store_api.specs.declared.tree.Tree.{Tree}
use Rattle.store_api.specs.Effect.{Effect}
use Rattle.store_api.specs.Step.{length_of, list_folder}
use Rattle.store_laws.specs.Files.{file_at}
use Rattle.store_laws.specs.Says.{LengthTells, ListTells}
use Rattle.store_laws.specs.Tells.{Tells}
use Rattle.store_laws.specs.There.{ListsFolder}
use Rattle.store_laws.proofs.Facts.{length_tells, list_tells, prefix_length}
use Rattle.mount_model.specs.Paths.{Name, index_path, log_path, metadata}
use Rattle.mount_sound.specs.Dropping.{bytes_of, log_bytes}
use Rattle.mount_sound.specs.Entries.{logged}
use Rattle.mount_sound.specs.Items.{HasItem, HasMeta}
use Rattle.mount_sound.specs.Landed.{whole}
use Rattle.mount_sound.specs.Ledger.{entries_in}
use Rattle.mount_sound.specs.Owed.{IsLawful}
use Rattle.mount_sound.specs.There.{entries_there}
use Rattle.mount_sound.proofs.Facts.{entries_take, logged_take, take_less}
use Rattle.mount_model.specs.declared.names.Metadata.{Metadata}
use Rattle.mount_model.specs.declared.stuck.Stuck.{Stuck}
use Rattle.mount_model.specs.FlowListed.{known, told_by}
use Rattle.mount_model.specs.Names.{meta_in}
use Rattle.mount_model.specs.FlowReplies.{Tries, given, on_ok, trouble}
use Rattle.mount_model.proofs.Flows.Facts.{meta_in-found, meta_in-is}
use Rattle.mount_model.specs.Program.{done, ask, followed_by}
use Rattle.index_reader.specs.Replies.{log_length_in}
use Rattle.reader_laws.specs.Gathering.{IsPrefixOf}
use Rattle.reader_laws.specs.Moments.{Dropping, Grows, IsSoundAt, Moment, Stood, file_in_room, index_then, issued_by, landed, log_then, moment_after}
use Rattle.reader_laws.proofs.Gathered.Facts.{among_left, among_right, any_found, found_any, grows_after, landed_logged, landed_whole, legal_first, legal_rest, length-entries, length_taken, moment-append, sound_after}
use Rattle.reader_laws.proofs.Gathered.Containers.Entries.{file_named, named_file}
use Rattle.reader_laws.specs.Covering.{cover_with, empty_cover}
use Rattle.drain_copy.specs.Asking.{look_reply}
use Rattle.mount_model.specs.Making.{Told}
use Rattle.drain_read.specs.declared.held.Held.{Held}
use Rattle.drain_read.specs.declared.held.Mirror.{Mirror}
use Rattle.drain_read.specs.declared.read.Contained.{Contained}
use Rattle.drain_read.specs.declared.read.WriterRead.{WriterRead}
use Rattle.drain_read.specs.Holding.{held_program, lists_settled, measures, measures_all, mirror_of, settled_named, unknown}
use Rattle.drain_read.specs.Reading.{contained_program}
use Rattle.drain_sound.specs.Fronts.{IsFrontOf, IsTarget, dropping_in, index_there}
use Rattle.drain_sound.specs.Steps.{IsNamedRoom}
use Rattle.drain_sound.specs.Views.{HasCopied}
use Rattle.drain_sound.proofs.Facts.{copied_landed}
use Rattle.drain_laws.proofs.Reading.Beside.{beside, beside_sound, sees_runs}
use Rattle.drain_laws.proofs.Reading.Marked.{MarkedTarget, with_mark}
use Rattle.drain_laws.proofs.Copying.Mild.{some_room}
use Rattle.drain_laws.proofs.Driving.Passing.{Sees}
use Rattle.drain_laws.proofs.Reading.Read.{IsReadSo, contained_run, reads_later}
use Rattle.drain_laws.proofs.Reading.Strict.{strict_contained}

-- ---- programs one after the other

pub record SeesInTwo {X Y : Type 0} (t : Tree) (p : Tries Y) (next : Result Y Stuck → Tries X) (out : Result X Stuck) : Type 0 where
  pub value : Result Y Stuck
  pub first : Sees t p value
  pub behind : Sees t (next value) out

pub sees_in_two : {X Y : Type 0} (t : Tree) (p : Tries Y) (next : Result Y Stuck → Tries X) (out : Result X Stuck) → Sees t (followed_by p next) out → SeesInTwo t p next out
sees_in_two t (done y) next out sees = record { value = y; first = refl; behind = sees }
sees_in_two t (ask call k) next out (told, tells, sees) =
    let r = sees_in_two t (k (look_reply told)) next out sees in
    record { value = r.value; first = (told, tells, r.first); behind = r.behind }

-- a trouble is no good end
never : {X : Type 0} (why : Stuck) (x : X) → ◌≡◌ {A = Result X Stuck} (Err why) (Ok x) → ⊥
never why x e = cc

-- ---- the metadata

among_either : (x : ℕ) (a b : List ℕ) → Among x (a ++ b) → Among x a ⊎ Among x b
among_either x [] b m = inr m
among_either x (y ∷ a) b (inl same) = inl (inl same)
among_either x (y ∷ a) b (inr m) = elim (among_either x a b m) as (λ _. Among x (y ∷ a) ⊎ Among x b) [ inl l ↦ inl (inr l) | inr r ↦ inr r ]

its_own : (writer w : ℕ) → Among writer (w ∷ []) → w ≡ writer
its_own writer w (inl same) = sym same
its_own writer w (inr none) = absurd none

-- whose metadata these names are, beside those so far
record AreSettled (names : List Name) (sofar settled : List ℕ) : Type 0 where
  before : (writer : ℕ) → Among writer sofar → Among writer settled
  all : (name : Name) (meta : Metadata) → Among name names → meta_in name ≡ Some meta → Among meta.writer settled
  each : (writer : ℕ) → Among writer settled → Among writer sofar ⊎ ((name : Name) × (meta : Metadata) × Among name names × (meta_in name ≡ Some meta) × (meta.writer ≡ writer))

settled_so : (names : List Name) (sofar settled : List ℕ) → settled_named names sofar ≡ Ok settled → AreSettled names sofar settled
settled_so [] sofar settled e =
    let same : sofar ≡ settled = cc in
    record { before = λ writer a. subst (Among writer) same a; all = λ name meta a found. absurd a; each = λ writer a. inl (subst (Among writer) (sym same) a) }
settled_so (x ∷ names) sofar settled e = by_meta (λ m f. settled_so names (sofar ++ m.writer ∷ []) settled f) (meta_in x) refl e
  where
    by_meta : ((m : Metadata) → settled_named names (sofar ++ m.writer ∷ []) ≡ Ok settled → AreSettled names (sofar ++ m.writer ∷ []) settled)
        → (o : Option Metadata) → meta_in x ≡ o → known metadata x o (λ (m : Metadata). settled_named names (sofar ++ m.writer ∷ [])) ≡ Ok settled → AreSettled (x ∷ names) sofar settled
    by_meta more None is f = absurd (cc)
    by_meta more (Some m) is f =
        let r = more m f in
        record {
          before = λ writer a. r.before writer (among_left writer sofar (m.writer ∷ []) a);
          all = λ name meta a found. elim a as (λ _. Among meta.writer settled) [
            | inl same ↦
                let both : Some m ≡ Some meta = sym is ∙ ap meta_in (sym same) ∙ found in
                let one : m ≡ meta = cc in
                subst (λ (y : Metadata). Among y.writer settled) one (r.before m.writer (among_right m.writer sofar (m.writer ∷ []) (inl refl)))
            | inr b ↦ r.all name meta b found
          ];
          each = λ writer a. elim (r.each writer a) as (λ _. Among writer sofar ⊎ ((name : Name) × (meta : Metadata) × Among name (x ∷ names) × (meta_in name ≡ Some meta) × (meta.writer ≡ writer))) [
            | inl so ↦ elim (among_either writer sofar (m.writer ∷ []) so) as (λ _. Among writer sofar ⊎ ((name : Name) × (meta : Metadata) × Among name (x ∷ names) × (meta_in name ≡ Some meta) × (meta.writer ≡ writer))) [
              | inl old ↦ inl old
              | inr new ↦ inr (x, m, inl refl, is, its_own writer m.writer new)
            ]
            | inr (name, meta, b, found, its) ↦ inr (name, meta, inr b, found, its)
          ];
        }

module _ (t : Tree) (n : ℕ) (room : Room) (there : slice_get t.rooms n ≡ Some room) where
  -- ---- the lengths of logs

  length_told : {X : Type 0} (path : Path) (told : Told) → Tells (length_of n path.folder path.file) t told t → (why : Stuck) (next : ℕ → Tries X) (x : X) → Sees t (given (log_length_in (look_reply told)) why next) (Ok x)
      → (len : ℕ) × (len ≡ length (bytes_of (file_at room path))) × Sees t (next len) (Ok x)
  length_told path (Ok (Number value)) tells why next x sees =
      let says : LengthTells t n path (Number value) = subst (LengthTells t n path) (ap (λ (y : Effect). y.answer) tells) (length_tells t n path).says_so in
      let same : says.0.room ≡ room = some_room says.0.room room (slice_get t.rooms n) says.0.has_room there in
      (value, sym says.1 ∙ sym (ap (λ o. length (bytes_of o)) (ap (λ r. file_at r path) (sym same) ∙ says.0.there)), sees)
  length_told path (Ok Absent) tells why next x sees =
      let says : LengthTells t n path Absent = subst (LengthTells t n path) (ap (λ (y : Effect). y.answer) tells) (length_tells t n path).says_so in
      let same : says.room ≡ room = some_room says.room room (slice_get t.rooms n) says.has_room there in
      (0, sym (ap (λ o. length (bytes_of o)) (ap (λ r. file_at r path) (sym same) ∙ says.none)), sees)
  length_told path (Ok NoFolder) tells why next x sees = absurd (never why x sees)
  length_told path (Ok answer) tells why next x sees = absurd (never why x sees)
  length_told path (Err Fault) tells why next x sees = absurd (never why x sees)
  length_told path (Err NoMemory) tells why next x sees = absurd (never why x sees)

  -- each mirror is of a writer that was read, with the length of its log
  abbrev pub Mirrors : List WriterRead → List Mirror → Type 0
  Mirrors [] [] = Unit {0}
  Mirrors [] (m ∷ ms) = ⊥
  Mirrors (w ∷ ws) [] = ⊥
  Mirrors (w ∷ ws) (m ∷ ms) = (m.cover ≡ w.cover) × (m.log ≡ length (log_bytes room w.host w.writer)) × Mirrors ws ms

  record HasMeasured (settled : List ℕ) (ws : List WriterRead) (sofar : List Mirror) (held : Held) : Type 0 where
    settled_is : held.settled ≡ settled
    mirrors : List Mirror
    all : held.mirrors ≡ sofar ++ mirrors
    are : Mirrors ws mirrors

  measured : (settled : List ℕ) (ws : List WriterRead) (sofar : List Mirror) (held : Held) → Sees t (measures n settled ws sofar) (Ok held) → HasMeasured settled ws sofar held
  measured settled [] sofar held sees =
      let is : ◌≡◌ {A = Held} (record { mirrors = sofar; settled = settled }) held = cc in
      record { settled_is = sym (ap (λ (h : Held). h.settled) is); mirrors = []; all = sym (ap (λ (h : Held). h.mirrors) is) ∙ sym (append-nil sofar); are = tt }
  measured settled (w ∷ ws) sofar held (told, tells, sees) =
      let l = length_told (log_path w.host w.writer) told tells (trouble (log_path w.host w.writer) (look_reply told)) (λ log. measures n settled ws (sofar ++ mirror_of w log ∷ [])) held sees in
      let r = measured settled ws (sofar ++ mirror_of w l.0 ∷ []) held l.2 in
      record { settled_is = r.settled_is; mirrors = mirror_of w l.0 ∷ r.mirrors; all = r.all ∙ append_assoc sofar (mirror_of w l.0 ∷ []) r.mirrors; are = (refl, l.1, r.are) }

  -- ---- the metadata

  record HasSettled (contained : Contained) (held : Held) : Type 0 where
    complete : (host writer : ℕ) → HasMeta room host writer → Among writer held.settled
    each : (writer : ℕ) → Among writer held.settled → (host : ℕ) × HasMeta room host writer
    mirrors : List Mirror
    all : held.mirrors ≡ mirrors
    are : Mirrors contained.writers mirrors

  names_told : (names : List Name) (contained : Contained) (held : Held) → ListsFolder t n metadata names → (value : Result (List ℕ) Stuck) → settled_named names [] ≡ value → Sees t (on_ok (measures_all n contained.writers) value) (Ok held) → HasSettled contained held
  names_told names contained held l (Err why) is sees = absurd (never why held sees)
  names_told names contained held l (Ok settled) is sees =
      let m = measured settled contained.writers [] held sees in
      let same : l.room ≡ room = some_room l.room room (slice_get t.rooms n) l.has_room there in
      record {
        complete = λ host writer h.
            let name : Name = (path_of (Meta h.last h.bytes h.stamp host writer)).file in
            let file = subst (λ r. file_at r (path_of (Meta h.last h.bytes h.stamp host writer)) ≡ Some h.content) (sym same) h.has.there in
            let a : Among name names = file_named l.room metadata name names h.content l.entries file in
            let in_it : IsIn metadata name (Meta h.last h.bytes h.stamp host writer) = record { is_item = h.has.is_item; printed = refl } in
            subst (Among writer) (sym m.settled_is) ((settled_so names [] settled is).all name (record { last = h.last; bytes = h.bytes; stamp = h.stamp; host = host; writer = writer }) a (meta_in-is name h.last h.bytes h.stamp host writer in_it));
        each = λ writer a. by_name writer ((settled_so names [] settled is).each writer (subst (Among writer) m.settled_is a));
        mirrors = m.mirrors;
        all = m.all;
        are = m.are;
      }
    where
      by_name : (writer : ℕ) → Among writer [] ⊎ ((name : Name) × (meta : Metadata) × Among name names × (meta_in name ≡ Some meta) × (meta.writer ≡ writer)) → (host : ℕ) × HasMeta room host writer
      by_name writer (inl none) = absurd none
      by_name writer (inr (name, meta, a, found, its)) =
          let its_room : l.room ≡ room = some_room l.room room (slice_get t.rooms n) l.has_room there in
          let file = named_file l.room metadata name names refl l.entries a in
          let in_it = meta_in-found name meta found in (
            meta.host,
            subst (λ w. HasMeta room meta.host w) its (record {
              last = meta.last;
              bytes = meta.bytes;
              stamp = meta.stamp;
              content = file.0;
              has = record { is_item = in_it.is_item; there = (λ i. file_at (sym its_room i) (sym in_it.printed i)) ∙ file.1 };
            }),
          )

  settled_told : (contained : Contained) (held : Held) → Sees t (lists_settled n contained) (Ok held) → HasSettled contained held
  settled_told contained held (told, tells, sees) = by_told told tells sees
    where
      by_told : (told : Told) → Tells (list_folder n metadata) t told t → Sees t (on_ok (measures_all n contained.writers) (told_by metadata (λ names. settled_named names []) (look_reply told))) (Ok held) → HasSettled contained held
      by_told (Ok (Names names)) tells sees =
          let l : ListsFolder t n metadata names = subst (ListTells t n metadata) (ap (λ (y : Effect). y.answer) tells) (list_tells t n metadata).says_so in
          names_told names contained held l (settled_named names []) refl sees
      by_told (Ok NoFolder) tells sees = absurd (never _ held sees)
      by_told (Ok answer) tells sees = absurd (never _ held sees)
      by_told (Err Fault) tells sees = absurd (never _ held sees)
      by_told (Err NoMemory) tells sees = absurd (never _ held sees)

-- ---- what it is of the source

module _ (m : Moment) (s : IsSoundAt m) (number : ℕ) (name : Name) (t : Tree) (target : IsTarget m number name t) (n : ℕ) (room : Room) (named : IsNamedRoom t n name room) where
  -- The writer's landed entries there are its first ones at the source, and its log has so many bytes.
  pub record IsMirror (mirror : Mirror) : Type 0 where
    pub host : ℕ
    pub bytes : List ℕ
    pub stands : HasItem room (Index host mirror.cover.writer) bytes
    pub entries : 40 * mirror.cover.count ≤ length bytes
    pub landed_there : mirror.cover.count ≤ landed m (dropping_in number host mirror.cover.writer)
    pub sum : mirror.cover.bytes ≡ logged (take mirror.cover.count (entries_in (m.issued number mirror.cover.writer)))
    pub tells : mirror.cover ≡ cover_with (empty_cover mirror.cover.writer) (take mirror.cover.count (entries_in (m.issued number mirror.cover.writer)))
    pub log : mirror.log ≡ length (log_bytes room host mirror.cover.writer)
    pub fits : mirror.cover.bytes ≤ mirror.log
    pub all : (count : ℕ) → HasCopied m number room host mirror.cover.writer count → count ≤ mirror.cover.count

  pub record HasHeld (held : Held) : Type 0 where
    pub settled : (host writer : ℕ) → HasMeta room host writer → Among writer held.settled
    pub metas : (writer : ℕ) → Among writer held.settled → (host : ℕ) × HasMeta room host writer
    pub mirrors : AllByRecursion IsMirror held.mirrors
    pub complete : (host writer : ℕ) (bytes : List ℕ) → HasItem room (Index host writer) bytes → Any (λ (x : Mirror). x.cover.writer ≡ writer) held.mirrors

  marked : MarkedTarget m number name t
  marked = with_mark m s number name t target

  here : slice_get marked.tree.rooms n ≡ Some room
  here = marked.same n room named

  module _ (last : ℕ) where
    abbrev start : Moment
    start = beside marked.tree marked.target.sound marked.marks marked.room marked.marked 0

    abbrev end : Moment
    end = beside marked.tree marked.target.sound marked.marks marked.room marked.marked last

    end_sound : IsSoundAt end
    end_sound = beside_sound marked.tree marked.target.sound marked.marks marked.room marked.marked last

    whole_count : (count k b i : ℕ) → count ≤ k → k ≡ min (b / 40) i → 40 * count ≤ b
    whole_count count k b i l e = omega arith

    whole_few : (count b k : ℕ) → 40 * count ≤ b → b ≤ 40 * k → count ≤ k
    whole_few count b k l f = omega arith

    mirror_is : (w : WriterRead) (x : Mirror) → IsReadSo 0 (unknown n) start end w → x.cover ≡ w.cover → x.log ≡ length (log_bytes room w.host w.writer) → IsMirror x
    mirror_is w x read cover_is log_is =
        let d : Dropping = dropping_in n w.host w.writer in
        let p : IsPrefixOf start end _ = read.gathered (omega arith) in
        let index : index_then end d ≡ file_at room (index_path w.host w.writer) = ap (λ o. file_in_room o (index_path w.host w.writer)) here in
        let stood : Stood end d = p.stands in
        let there : file_at room (index_path w.host w.writer) ≡ Some stood.bytes = sym index ∙ stood.there in
        let w_whole = landed_whole end end_sound d read.named in
        let long : 40 * w.cover.count ≤ length stood.bytes = whole_count w.cover.count (landed end d) (length stood.bytes) (length (issued_by end d)) p.most (w_whole ∙ ap (λ o. min (whole (bytes_of o)) (length (issued_by end d))) stood.there) in
        let of : w.cover.writer ≡ w.writer = ap (λ (c : Cover). c.writer) read.cover in
        let front : IsFrontOf m number room w.host w.writer = (target.drained n room named.there named.named).fronts w.host w.writer read.named in
        let source_d : Dropping = dropping_in number w.host w.writer in
        let issued_few = landed_whole m s source_d read.named in
        let most : length (take (landed m source_d) (entries_in (m.issued number w.writer))) ≡ landed m source_d = length_taken (landed m source_d) (entries_in (m.issued number w.writer)) (omega (arith, issued_few, length-entries (m.issued number w.writer))) in
        let short : length stood.bytes ≤ 40 * landed m source_d =
        omega (arith, prefix_length (bytes_of (file_at room (index_path w.host w.writer))) (index_there m source_d) front.index, ap (λ o. length (bytes_of o)) there, length-spelling_all (take (landed m source_d) (entries_in (m.issued number w.writer))), most) in
        let more = marked.target.first n room here named.named w.writer in
        let same_first : take w.cover.count (m.issued number w.writer) ≡ take w.cover.count (marked.target.sound.issued n w.writer) =
        ap (take w.cover.count) more.1 ∙ take-append-le w.cover.count (marked.target.sound.issued n w.writer) more.0 p.were_issued in
        let own_bytes : w.cover.bytes ≡ logged read.entries = omega (arith, ap (λ (c : Cover). c.bytes) read.cover) in
        let firsts : read.entries ≡ take w.cover.count (entries_in (m.issued number w.writer)) =
        p.entries ∙ sym (entries_take w.cover.count (marked.target.sound.issued n w.writer)) ∙ ap entries_in (sym same_first) ∙ entries_take w.cover.count (m.issued number w.writer) in
        let sums : w.cover.bytes ≡ logged (take w.cover.count (entries_in (m.issued number w.writer))) = own_bytes ∙ ap logged firsts in
        let tells : w.cover ≡ cover_with (empty_cover w.writer) (take w.cover.count (entries_in (m.issued number w.writer))) = read.cover ∙ ap (cover_with (empty_cover w.writer)) firsts in
        let es : List Entry = entries_in (issued_by end d) in
        let log_there : bytes_of (log_then end d) ≡ log_bytes room w.host w.writer = ap (λ o. bytes_of (file_in_room o (log_path w.host w.writer))) here in
        let enough : w.cover.bytes ≤ length (log_bytes room w.host w.writer) =
        omega (arith, landed_logged end end_sound d stood.bytes read.named stood.there, ap length log_there, logged_take w.cover.count (take (landed end d) es), ap logged (take_less w.cover.count (landed end d) es p.most), own_bytes, ap logged p.entries) in
        of_cover w x of cover_is stood.bytes (record { is_item = read.named; there = there }) long (whole_few w.cover.count (length stood.bytes) (landed m source_d) long short) sums tells log_is enough (λ count copied. omega (arith, copied_landed m s number name t target n room named.there named.named w.host w.writer count copied, ap (λ o. length (entries_there (bytes_of (file_in_room o (index_path w.host w.writer))) (bytes_of (file_in_room o (log_path w.host w.writer))))) here, p.least))
      where
        of_cover : (w : WriterRead) (x : Mirror) → w.cover.writer ≡ w.writer → x.cover ≡ w.cover → (bytes : List ℕ) → HasItem room (Index w.host w.writer) bytes → 40 * w.cover.count ≤ length bytes → w.cover.count ≤ landed m (dropping_in number w.host w.writer)
            → w.cover.bytes ≡ logged (take w.cover.count (entries_in (m.issued number w.writer))) → w.cover ≡ cover_with (empty_cover w.writer) (take w.cover.count (entries_in (m.issued number w.writer))) → x.log ≡ length (log_bytes room w.host w.writer) → w.cover.bytes ≤ length (log_bytes room w.host w.writer) → ((count : ℕ) → HasCopied m number room w.host w.writer count → count ≤ w.cover.count) → IsMirror x
        of_cover w x of cover_is bytes item long few sums tells log_is enough whole_there =
            let owner : x.cover.writer ≡ w.writer = ap (λ (c : Cover). c.writer) cover_is ∙ of in
            let count : x.cover.count ≡ w.cover.count = ap (λ (c : Cover). c.count) cover_is in
            record {
              host = w.host;
              bytes = bytes;
              stands = subst (λ k. HasItem room (Index w.host k) bytes) (sym owner) item;
              entries = omega (arith, long, count);
              landed_there = subst (λ k. x.cover.count ≤ landed m (dropping_in number w.host k)) (sym owner) (omega (arith, few, count));
              sum = ap (λ (c : Cover). c.bytes) cover_is ∙ sums ∙ (λ i. logged (take (sym count i) (entries_in (m.issued number (sym owner i)))));
              tells = cover_is ∙ tells ∙ (λ i. cover_with (empty_cover (sym owner i)) (take (sym count i) (entries_in (m.issued number (sym owner i)))));
              log = log_is ∙ (λ i. length (log_bytes room w.host (sym owner i)));
              fits = omega (arith, enough, log_is, ap (λ (c : Cover). c.bytes) cover_is);
              all = λ copies copied. omega (arith, count, whole_there copies (subst (λ k. HasCopied m number room w.host k copies) owner copied));
            }

    all_mirrors : (ws : List WriterRead) (xs : List Mirror) → AllByRecursion (IsReadSo 0 (unknown n) start end) ws → Mirrors t n room named.there ws xs → AllByRecursion IsMirror xs
    all_mirrors [] [] reads are = tt
    all_mirrors [] (x ∷ xs) reads are = absurd are
    all_mirrors (w ∷ ws) [] reads are = absurd are
    all_mirrors (w ∷ ws) (x ∷ xs) reads are = (mirror_is w x reads.0 are.0 are.1, all_mirrors ws xs reads.1 are.2)

    found_mirror : (writer : ℕ) (ws : List WriterRead) (xs : List Mirror) → AllByRecursion (IsReadSo 0 (unknown n) start end) ws → Mirrors t n room named.there ws xs → (w : WriterRead) → Among w ws → w.writer ≡ writer → (x : Mirror) × Among x xs × (x.cover.writer ≡ writer)
    found_mirror writer [] [] reads are w a is = absurd a
    found_mirror writer [] (x ∷ xs) reads are w a is = absurd a
    found_mirror writer (v ∷ ws) [] reads are w a is = absurd are
    found_mirror writer (v ∷ ws) (x ∷ xs) reads are w (inl same) is = (x, inl refl, ap (λ (c : Cover). c.writer) (are.0 ∙ reads.0.cover) ∙ ap (λ (y : WriterRead). y.writer) (sym same) ∙ is)
    found_mirror writer (v ∷ ws) (x ∷ xs) reads are w (inr a) is = let r = found_mirror writer ws xs reads.1 are.2 w a is in (r.0, inr r.1, r.2)

    held_from : (contained : Contained) (held : Held) → AllByRecursion (IsReadSo 0 (unknown n) start end) contained.writers → ((d : Dropping) → d.room ≡ n → Stood start d → Any (λ (w : WriterRead). dropping_in n w.host w.writer ≡ d) contained.writers)
        → HasSettled t n room named.there contained held → HasHeld held
    held_from contained held reads complete h = record {
      settled = h.complete;
      metas = h.each;
      mirrors = subst (AllByRecursion IsMirror) (sym h.all) (all_mirrors contained.writers h.mirrors reads h.are);
      complete = λ host writer bytes item.
          let d : Dropping = dropping_in n host writer in
          let stood : Stood start d = record { is_item = item.is_item; bytes = bytes; there = ap (λ o. file_in_room o (index_path host writer)) here ∙ item.there } in
          let (w, a, is) = any_found (λ (w : WriterRead). dropping_in n w.host w.writer ≡ d) contained.writers (complete d refl stood) in
          let r = found_mirror writer contained.writers h.mirrors reads h.are w a (ap (λ (x : Dropping). x.writer) is) in
          subst (λ xs. Any (λ (x : Mirror). x.cover.writer ≡ writer) xs) (sym h.all) (found_any (λ (x : Mirror). x.cover.writer ≡ writer) h.mirrors r.0 r.1 r.2);
    }

  read_so : (value : Result Contained Stuck) (held : Held) → Sees t (contained_program (unknown n)) value → Sees t (on_ok (lists_settled n) value) (Ok held) → HasHeld held
  read_so (Err why) held sees on = absurd (never why held on)
  read_so (Ok contained) held sees on_held =
      let strict = strict_contained marked.tree marked.target.sound marked.marks marked.room marked.marked n (marked.apart n room named) (unknown n) refl in
      let r = sees_runs marked.tree marked.target.sound marked.marks marked.room marked.marked n (marked.apart n room named) t room named.there here (contained_program (unknown n)) contained 0 strict sees in
      let c = contained_run 0 (unknown n) (start 0) r.events contained (end_sound 0) r.lawful r.runs in
      let before : Moment = moment_after (start 0) c.before in
      let here_too : IsLawful (start 0).state (c.before ++ c.listing ∷ c.later) = subst (IsLawful (start 0).state) c.split r.lawful in
      let behind = legal_rest (start 0) c.before (c.listing ∷ c.later) here_too in
      let sound : IsSoundAt before = sound_after (start 0) c.before (legal_first (start 0) c.before (c.listing ∷ c.later) here_too) (end_sound 0) in
      let same : moment_after before (c.listing ∷ c.later) ≡ end r.last = sym (moment-append (start 0) c.before (c.listing ∷ c.later)) ∙ ap (moment_after (start 0)) (sym c.split) ∙ r.ends in
      let on : Grows before (end r.last) = subst (Grows before) same (grows_after before (c.listing ∷ c.later) behind sound) in
      held_from r.last contained held (reads_later 0 (unknown n) (start 0) before (end r.last) contained.writers on c.has.reads) c.has.complete (settled_told t n room named.there contained held on_held)

  pub held_so : (held : Held) → Sees t (held_program n) (Ok held) → HasHeld held
  held_so held sees =
      let r = sees_in_two t (contained_program (unknown n)) (on_ok (lists_settled n)) (Ok held) sees in
      read_so r.value held r.first r.behind

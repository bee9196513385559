-- What is to be copied, by what the target has and what was read at the source.
use Rattle.std.proofs.Common.{◌≡◌, ℕ, ◌+◌, ◌*◌, ◌≤◌, nat_eq, nat_lt, true, false, List, [], ◌∷◌, ◌++◌, length, take, drop, Option, Some, None, refl, ap, sym, ◌∙◌, inl, inr, subst, append_assoc, arith}
use Rattle.std.specs.Prelude.{slice_get, if◌then◌else◌, ◌||◌}
use Rattle.std.specs.List.{list_any}
use Rattle.std.proofs.lemmas.Bool.{cases_Bool, cond-true, cond-false}
use Rattle.std.proofs.lemmas.Bool.Decides.{nat_tests}
use Rattle.std.proofs.lemmas.List.{drop-take}
use Rattle.std.proofs.Math.Seq.{take-add}
use Rattle.plain_file.proofs.Facts.{Among, All-Among}
use Rattle.plfs_types.specs.declared.entries.Cover.{Cover}
use Rattle.plfs_types.specs.declared.entries.Entry.{Entry}
use Rattle.container_layout.specs.declared.items.Item.TheVariants.{Index}
use Rattle.container_layout.specs.Items.{IsItem}
use Rattle.store_api.specs.declared.tree.Room.{Room}
use Rattle.store_api.specs.declared.tree.Tree.{Tree}
use Rattle.store_laws.specs.Files.{file_at}
use Rattle.store_laws.specs.There.{IsFree}
use Rattle.mount_model.specs.Paths.{Name, index_path, log_path}
use Rattle.mount_sound.specs.Dropping.{bytes_of, log_bytes}
use Rattle.mount_sound.specs.Entries.{logged}
use Rattle.mount_sound.specs.Growing.{IsMore}
use Rattle.mount_sound.specs.Items.{HasItem, HasMeta}
use Rattle.mount_sound.specs.Ledger.{Written, entries_in}
use Rattle.mount_sound.proofs.Facts.{logged_append}
use Rattle.index_reader.specs.Covered.{cover_of, or_nothing}
use Rattle.index_reader.specs.Found.{item_of}
use Rattle.reader_laws.specs.Gathering.{IsPrefixOf}
use Rattle.reader_laws.specs.Moments.{Dropping, Grows, IsSoundAt, Moment, Stood, landed}
use Rattle.reader_laws.proofs.Gathered.Facts.{any_found, entries_stay, grows_trans, landed_whole, stood_grows}
use Rattle.reader_laws.specs.Covering.{cover_with, empty_cover}
use Rattle.drain_read.specs.declared.held.Held.{Held}
use Rattle.drain_read.specs.declared.held.Mirror.{Mirror}
use Rattle.drain_read.specs.declared.read.WriterRead.{WriterRead}
use Rattle.drain_copy.specs.declared.plan.Due.{Due}
use Rattle.drain_copy.specs.Draining.{known_at}
use Rattle.drain_copy.specs.Planning.{count_in, count_there, covers_of, due_of, is_settled, log_in, log_there, mirror_in, nothing_held}
use Rattle.drain_sound.specs.Fronts.{IsTarget, dropping_in}
use Rattle.drain_sound.specs.Steps.{IsNamedRoom}
use Rattle.drain_sound.specs.Views.{HasCopied}
use Rattle.drain_sound.proofs.Facts.{one_host_there}
use Rattle.drain_laws.proofs.Planning.Aims.{NoBareLog}
use Rattle.drain_laws.proofs.Planning.Due.{IsDueOf}
use Rattle.drain_laws.proofs.Reading.Held.{HasHeld, IsMirror}
use Rattle.drain_laws.proofs.Copying.Marks.{IsDone, IsReady}
use Rattle.drain_laws.proofs.Copying.Mild.{IsKeptTo, some_room}
use Rattle.drain_laws.proofs.Reading.Read.{IsReadSo}
use Rattle.drain_laws.proofs.Planning.Settled.{settled_index, settled_log}

-- ---- mirrors and covers

abbrev pub cover_in : Option Mirror → Option Cover
cover_in None = None
cover_in (Some x) = Some x.cover

-- the cover that is known of a writer is its mirror's
pub known_cover : (mirrors : List Mirror) (writer : ℕ) → item_of (λ (c : Cover). c.writer) writer (covers_of mirrors) ≡ cover_in (mirror_in mirrors writer)
known_cover [] writer = refl
known_cover (x ∷ mirrors) writer = elim (nat_eq x.cover.writer writer) as (λ b. (if b then Some x.cover else item_of (λ (c : Cover). c.writer) writer (covers_of mirrors)) ≡ cover_in (if b then Some x else mirror_in mirrors writer)) [
  | true ↦ refl
  | false ↦ known_cover mirrors writer
]

found_mirror : (mirrors : List Mirror) (writer : ℕ) (y : Mirror) → mirror_in mirrors writer ≡ Some y → Among y mirrors × (y.cover.writer ≡ writer)
found_mirror [] writer y e = absurd (cc)
found_mirror (x ∷ mirrors) writer y e = elim (cases_Bool (nat_eq x.cover.writer writer)) as (λ _. Among y (x ∷ mirrors) × (y.cover.writer ≡ writer)) [
  | inl same ↦
      let is : Some x ≡ Some y = sym (cond-true (nat_eq x.cover.writer writer) (Some x) (mirror_in mirrors writer) same) ∙ e in
      let one : x ≡ y = cc in
      (inl (sym one), ap (λ (z : Mirror). z.cover.writer) (sym one) ∙ grind (arith, nat_tests, same))
  | inr other ↦ let r = found_mirror mirrors writer y (sym (cond-false (nat_eq x.cover.writer writer) (Some x) (mirror_in mirrors writer) other) ∙ e) in (inr r.0, r.1)
]

no_mirror : (mirrors : List Mirror) (writer : ℕ) → mirror_in mirrors writer ≡ None → (y : Mirror) → Among y mirrors → y.cover.writer ≡ writer → ⊥
no_mirror [] writer e y a is = absurd a
no_mirror (x ∷ mirrors) writer e y a is = elim (cases_Bool (nat_eq x.cover.writer writer)) as (λ _. ⊥) [
  | inl same ↦ let clash : Some x ≡ None = sym (cond-true (nat_eq x.cover.writer writer) (Some x) (mirror_in mirrors writer) same) ∙ e in cc
  | inr other ↦ behind a other (λ b. no_mirror mirrors writer (sym (cond-false (nat_eq x.cover.writer writer) (Some x) (mirror_in mirrors writer) other) ∙ e) y b is)
]
  where
    behind : Among y (x ∷ mirrors) → nat_eq x.cover.writer writer ≡ false → (Among y mirrors → ⊥) → ⊥
    behind (inl one) other later = let same : x.cover.writer ≡ writer = ap (λ (z : Mirror). z.cover.writer) (sym one) ∙ is in grind (arith, nat_tests, other, same)
    behind (inr b) other later = later b

is_listed : (writer : ℕ) (xs : List ℕ) → Among writer xs → list_any (λ other. nat_eq other writer) xs ≡ true
is_listed writer [] a = absurd a
is_listed writer (x ∷ xs) (inl same) = let e : nat_eq x writer ≡ true = grind (arith, nat_tests, same) in rw e refl
is_listed writer (x ∷ xs) (inr a) = elim (nat_eq x writer) as (λ b. (b || list_any (λ other. nat_eq other writer) xs) ≡ true) [ true ↦ refl | false ↦ is_listed writer xs a ]

were_listed : (writer : ℕ) (xs : List ℕ) → list_any (λ other. nat_eq other writer) xs ≡ true → Among writer xs
were_listed writer [] e = absurd (cc)
were_listed writer (x ∷ xs) e = elim (cases_Bool (nat_eq x writer)) as (λ _. Among writer (x ∷ xs)) [
  | inl same ↦ inl (let is : x ≡ writer = grind (arith, nat_tests, same) in sym is)
  | inr other ↦ inr (were_listed writer xs (sym (ap (λ b. b || list_any (λ y. nat_eq y writer) xs) other) ∙ e))
]

-- ---- what the target has

module _ (m : Moment) (s : IsSoundAt m) (number : ℕ) (name : Name) (t : Tree) (target : IsTarget m number name t) where
  -- The mirror tells of the writer's droppings there, which are its first ones at the source.
  pub record IsMirrorOf (n : Moment) (host writer : ℕ) (x : Mirror) : Type 0 where
    pub was_landed : x.cover.count ≤ landed m (dropping_in number host writer)
    pub sum : x.cover.bytes ≡ logged (take x.cover.count (entries_in (n.issued number writer)))
    pub tells : x.cover ≡ cover_with (empty_cover writer) (take x.cover.count (entries_in (n.issued number writer)))
    pub logs : x.cover.bytes ≤ x.log
    pub index : (k : ℕ) (room : Room) → IsNamedRoom t k name room → (bytes : List ℕ) × HasItem room (Index host writer) bytes × (40 * x.cover.count ≤ length bytes)
    pub log : (k : ℕ) (room : Room) → IsNamedRoom t k name room → x.log ≡ length (log_bytes room host writer)

  pub record Knows (held : Held) : Type 0 where
    pub mirrored : (n : Moment) → IsSoundAt n → Grows m n → (host writer : ℕ) → Stood n (dropping_in number host writer) → (x : Mirror) → mirror_in held.mirrors writer ≡ Some x → IsMirrorOf n host writer x
    pub unsettled : (host writer : ℕ) → is_settled held writer ≡ false → (k : ℕ) (room : Room) → IsNamedRoom t k name room → HasMeta room host writer → ⊥
    pub fresh : IsFree t name → (writer : ℕ) → (mirror_in held.mirrors writer ≡ None) × (is_settled held writer ≡ false)
    pub unmirrored : (host writer : ℕ) → IsItem (Index host writer) → mirror_in held.mirrors writer ≡ None → (k : ℕ) (room : Room) → IsNamedRoom t k name room → file_at room (index_path host writer) ≡ None
    pub metas : (writer : ℕ) → is_settled held writer ≡ true → (k : ℕ) (room : Room) → IsNamedRoom t k name room → (host : ℕ) × HasMeta room host writer
    pub counted : (host writer count : ℕ) (k : ℕ) (room : Room) → IsNamedRoom t k name room → HasCopied m number room host writer count → count ≤ count_there held writer

  pub knows_nothing : IsFree t name → Knows nothing_held
  knows_nothing free = record {
    mirrored = λ n sound grows host writer stood x e. absurd (cc);
    unsettled = λ host writer e k room at h. free k room at.there at.named;
    fresh = λ again writer. (refl, refl);
    unmirrored = λ host writer is e k room at. absurd (free k room at.there at.named);
    metas = λ writer e k room at. absurd (free k room at.there at.named);
    counted = λ host writer count k room at copied. absurd (free k room at.there at.named);
  }

  module _ (k : ℕ) (room : Room) (at : IsNamedRoom t k name room) (held : Held) (h : HasHeld m s number name t target k room at held) where
    one_room : (j : ℕ) (other : Room) → IsNamedRoom t j name other → room ≡ other
    one_room j other is =
        let same : k ≡ j = target.sound.shaped.rooms_differ k j room other at.there is.there (at.named ∙ sym is.named) in
        some_room room other (slice_get t.rooms j) (subst (λ i. slice_get t.rooms i ≡ Some room) same at.there) is.there

    mirror_of_it : (n : Moment) → IsSoundAt n → Grows m n → (host writer : ℕ) → Stood n (dropping_in number host writer) → (x : Mirror) → Among x held.mirrors → x.cover.writer ≡ writer → IsMirrorOf n host writer x
    mirror_of_it n sound grows host writer stood x a of =
        let y : IsMirror m s number name t target k room at x = All-Among (IsMirror m s number name t target k room at) held.mirrors x h.mirrors a in
        let item : HasItem room (Index y.host writer) y.bytes = subst (λ w. HasItem room (Index y.host w) y.bytes) of y.stands in
        let was : Stood m (dropping_in number y.host writer) = (target.drained k room at.there at.named).hosts y.host writer (inl (y.bytes, item)) in
        let same : y.host ≡ host = one_host_there n sound number y.host host writer (stood_grows m n (dropping_in number y.host writer) grows was) stood in
        let few : x.cover.count ≤ landed m (dropping_in number y.host writer) = subst (λ w. x.cover.count ≤ landed m (dropping_in number y.host w)) of y.landed_there in
        let within : x.cover.count ≤ length (m.issued number writer) = omega (arith, few, landed_whole m s (dropping_in number y.host writer) item.is_item) in
        let sums : x.cover.bytes ≡ logged (take x.cover.count (entries_in (m.issued number writer))) = subst (λ w. x.cover.bytes ≡ logged (take x.cover.count (entries_in (m.issued number w)))) of y.sum in
        record {
          was_landed = subst (λ o. x.cover.count ≤ landed m (dropping_in number o writer)) same few;
          sum = sums ∙ ap logged (sym (entries_stay m n (dropping_in number y.host writer) x.cover.count grows within));
          tells = subst (λ w. x.cover ≡ cover_with (empty_cover w) (take x.cover.count (entries_in (m.issued number w)))) of y.tells ∙ ap (cover_with (empty_cover writer)) (sym (entries_stay m n (dropping_in number y.host writer) x.cover.count grows within));
          logs = y.fits;
          index = λ j other is. (y.bytes, subst (λ o. HasItem other (Index o writer) y.bytes) same (subst (λ r. HasItem r (Index y.host writer) y.bytes) (one_room j other is) item), y.entries);
          log = λ j other is. subst (λ w. x.log ≡ length (log_bytes room y.host w)) of y.log ∙ (λ i. length (log_bytes (one_room j other is i) (same i) writer));
        }

    pub knows_held : Knows held
    knows_held = record {
      mirrored = λ n sound grows host writer stood x e. (let f = found_mirror held.mirrors writer x e in mirror_of_it n sound grows host writer stood x f.0 f.1);
      unsettled = λ host writer e j other is x.
          let a : Among writer held.settled = h.settled host writer (subst (λ r. HasMeta r host writer) (sym (one_room j other is)) x) in
          let clash : true ≡ false = sym (is_listed writer held.settled a) ∙ e in
          cc;
      fresh = λ free writer. absurd (free k room at.there at.named);
      unmirrored = λ host writer is e j other there. unmirrored_so host writer is e j other there (file_at room (index_path host writer)) refl;
      metas = λ writer e j other there. (let x = h.metas writer (were_listed writer held.settled e) in (x.0, subst (λ r. HasMeta r x.0 writer) (one_room j other there) x.1));
      counted = λ host writer count j other there copied. counted_so host writer count (subst (λ r. HasCopied m number r host writer count) (sym (one_room j other there)) copied) (mirror_in held.mirrors writer) refl;
    }
      where
        its_mirror : (host writer : ℕ) (bytes : List ℕ) → HasItem room (Index host writer) bytes → mirror_in held.mirrors writer ≡ None → ⊥
        its_mirror host writer bytes item e = let (x, a, of) = any_found (λ (x : Mirror). x.cover.writer ≡ writer) held.mirrors (h.complete host writer bytes item) in no_mirror held.mirrors writer e x a of

        unmirrored_so : (host writer : ℕ) → IsItem (Index host writer) → mirror_in held.mirrors writer ≡ None → (j : ℕ) (other : Room) → IsNamedRoom t j name other → (found : Option (List ℕ)) → file_at room (index_path host writer) ≡ found → file_at other (index_path host writer) ≡ None
        unmirrored_so host writer is e j other there None f = ap (λ r. file_at r (index_path host writer)) (sym (one_room j other there)) ∙ f
        unmirrored_so host writer is e j other there (Some bytes) f = absurd (its_mirror host writer bytes (record { is_item = is; there = f }) e)

        counted_so : (host writer count : ℕ) → HasCopied m number room host writer count → (found : Option Mirror) → mirror_in held.mirrors writer ≡ found → count ≤ count_there held writer
        counted_so host writer count copied None e = absurd (its_mirror host writer copied.bytes copied.has e)
        counted_so host writer count copied (Some x) e =
            let f = found_mirror held.mirrors writer x e in
            let y : IsMirror m s number name t target k room at x = All-Among (IsMirror m s number name t target k room at) held.mirrors x h.mirrors f.0 in
            let item : HasItem room (Index y.host writer) y.bytes = subst (λ w. HasItem room (Index y.host w) y.bytes) f.1 y.stands in
            let was : Stood m (dropping_in number y.host writer) = (target.drained k room at.there at.named).hosts y.host writer (inl (y.bytes, item)) in
            let its : Stood m (dropping_in number host writer) = (target.drained k room at.there at.named).hosts host writer (inl (copied.bytes, copied.has)) in
            let same : y.host ≡ host = one_host_there m s number y.host host writer was its in
            let there : HasCopied m number room y.host x.cover.writer count = subst (λ o. HasCopied m number room o x.cover.writer count) (sym same) (subst (λ w. HasCopied m number room host w count) (sym f.1) copied) in
            omega (arith, y.all count there, ap count_in e)

  -- ---- what is due

  module _ (caller : ℕ) (held : Held) (knows : Knows held) (first n : Moment) (sound : IsSoundAt n) (before : Grows m first) (grows : Grows first n) where
    abbrev covers : List Cover
    covers = covers_of held.mirrors

    -- what is known of the writer is what the target has
    record CoverIs (host writer : ℕ) : Type 0 where
      count : (cover_of writer covers).count ≡ count_there held writer
      was_landed : count_there held writer ≤ landed m (dropping_in number host writer)
      sum : (cover_of writer covers).bytes ≡ logged (take (count_there held writer) (entries_in (n.issued number writer)))

    none_taken : (es : List Entry) → 0 ≡ logged (take 0 es)
    none_taken [] = refl
    none_taken (e ∷ es) = refl

    cover_is : (host writer : ℕ) → Stood n (dropping_in number host writer) → CoverIs host writer
    cover_is host writer stood = by_mirror (mirror_in held.mirrors writer) refl
      where
        by_mirror : (found : Option Mirror) → mirror_in held.mirrors writer ≡ found → CoverIs host writer
        by_mirror None e =
            let c : cover_of writer covers ≡ record { writer = writer; count = 0; bytes = 0; stamp = 0 } = ap (or_nothing writer) (known_cover held.mirrors writer ∙ ap cover_in e) in
            let zero_is : count_there held writer ≡ 0 = ap count_in e in
            record {
              count = ap (λ (x : Cover). x.count) c ∙ sym zero_is;
              was_landed = omega (arith, zero_is);
              sum = ap (λ (x : Cover). x.bytes) c ∙ none_taken (entries_in (n.issued number writer)) ∙ ap (λ j. logged (take j (entries_in (n.issued number writer)))) (sym zero_is);
            }
        by_mirror (Some x) e =
            let c : cover_of writer covers ≡ x.cover = ap (or_nothing writer) (known_cover held.mirrors writer ∙ ap cover_in e) in
            let is : count_there held writer ≡ x.cover.count = ap count_in e in
            let y = knows.mirrored n sound (grows_trans m first n before grows) host writer stood x e in
            record {
              count = ap (λ (z : Cover). z.count) c ∙ sym is;
              was_landed = omega (arith, is, y.was_landed);
              sum = ap (λ (z : Cover). z.bytes) c ∙ y.sum ∙ ap (λ j. logged (take j (entries_in (n.issued number writer)))) (sym is);
            }

    module _ (w : WriterRead) (read : IsReadSo caller (known_at held number) first n w) (stood : Stood n (dropping_in number w.host w.writer)) where
      d : Dropping
      d = dropping_in number w.host w.writer

      known_so : CoverIs w.host w.writer
      known_so = cover_is w.host w.writer stood

      pub prefix : IsPrefixOf first n (record { dropping = dropping_in number w.host w.writer; packed = false; covered = (cover_of w.writer covers).count; count = w.cover.count; tail = read.entries })
      prefix = read.gathered (omega (arith, known_so.count, known_so.was_landed, before.landed (dropping_in number w.host w.writer) read.named))

      pub total : w.cover.count ≡ count_there held w.writer + length w.entries
      total = ap (λ (c : Cover). c.count) read.cover ∙ (λ i. known_so.count i + length (sym read.kept i))

      pub due_is : IsDueOf number n (due_of held w)
      due_is =
          let from : ℕ = count_there held w.writer in
          let len : ℕ = length w.entries in
          let es : List Entry = entries_in (n.issued number w.writer) in
          let are : w.entries ≡ take len (drop from es) =
          read.kept ∙ prefix.entries ∙ (λ i. drop (known_so.count i) (take (total i) es)) ∙ drop-take from len es in
          let sum : w.cover.bytes ≡ logged (take (from + len) es) =
          ap (λ (c : Cover). c.bytes) read.cover
          ∙ (λ i. known_so.sum i + logged ((sym read.kept ∙ are) i))
          ∙ sym (logged_append (take from es) (take len (drop from es))) ∙ ap logged (sym (take-add from len es)) in
          record {
            stood = stood;
            entries = are;
            landed = omega (arith, total, prefix.most);
            bytes = sum;
          }

      -- ---- where it isn't settled there

      no_less : (k : ℕ) (room : Room) → IsNamedRoom t k name room → (found : Option Mirror) → mirror_in held.mirrors w.writer ≡ found
          → (40 * count_in found ≤ length (bytes_of (file_at room (index_path w.host w.writer)))) × (log_in found ≤ length (log_bytes room w.host w.writer))
      no_less k room at None e = (omega arith, omega arith)
      no_less k room at (Some x) e =
          let y = knows.mirrored n sound (grows_trans m first n before grows) w.host w.writer stood x e in
          let i = y.index k room at in
          (omega (arith, i.2, ap (λ o. length (bytes_of o)) i.1.there), omega (arith, y.log k room at))

      no_more : (k : ℕ) (room : Room) → IsNamedRoom t k name room → NoBareLog name t → (found : Option Mirror) → mirror_in held.mirrors w.writer ≡ found → length (log_bytes room w.host w.writer) ≤ log_in found
      no_more k room at sure None e = omega (arith, ap length (sure k room at w.host w.writer stood.is_item (knows.unmirrored w.host w.writer stood.is_item e k room at)))
      no_more k room at sure (Some x) e =
          let y = knows.mirrored n sound (grows_trans m first n before grows) w.host w.writer stood x e in
          omega (arith, y.log k room at)

      pub ready_is : is_settled held w.writer ≡ false → IsReady (NoBareLog name t) name t (due_of held w)
      ready_is free = record {
        fits = λ k room at. (let l = no_less k room at (mirror_in held.mirrors w.writer) refl in record {
          unsettled = knows.unsettled w.host w.writer free k room at;
          index = l.0;
          log = l.1;
          ends = λ sure. no_more k room at sure (mirror_in held.mirrors w.writer) refl;
        });
        fresh = λ none. (let f = knows.fresh none w.writer in (ap count_in f.0, ap log_in f.0));
      }

      -- ---- where it has nothing new

      pub idle_is : length w.entries ≡ 0 → w.cover.bytes ≤ log_there held w.writer
      idle_is none = by_mirror (mirror_in held.mirrors w.writer) refl
        where
          by_mirror : (found : Option Mirror) → mirror_in held.mirrors w.writer ≡ found → w.cover.bytes ≤ log_in found
          by_mirror None e =
              let zero_is : count_there held w.writer + length w.entries ≡ 0 = omega (arith, none, ap count_in e) in
              omega (arith, due_is.bytes, ap (λ j. logged (take j (entries_in (n.issued number w.writer)))) zero_is, none_taken (entries_in (n.issued number w.writer)))
          by_mirror (Some x) e =
              let y = knows.mirrored n sound (grows_trans m first n before grows) w.host w.writer stood x e in
              let same : count_there held w.writer + length w.entries ≡ x.cover.count = omega (arith, none, ap count_in e) in
              omega (arith, due_is.bytes, ap (λ j. logged (take j (entries_in (n.issued number w.writer)))) same, y.sum, y.logs)

      -- ---- where it is settled there

      pub done_is : is_settled held w.writer ≡ true → nat_lt (count_there held w.writer) w.cover.count ≡ false → (x : Mirror) → mirror_in held.mirrors w.writer ≡ Some x → IsDone name t (due_of held w)
      done_is is_there no_more_there x e k room at =
          let y = knows.mirrored n sound (grows_trans m first n before grows) w.host w.writer stood x e in
          let i = y.index k room at in
          let meta = knows.metas w.writer is_there k room at in
          let count : ℕ = count_there held w.writer + length w.entries in
          let is : count_there held w.writer ≡ x.cover.count = ap count_in e in
          let all : w.cover.count ≤ count_there held w.writer = grind (arith, nat_tests, no_more_there) in
          let none : length w.entries ≡ 0 = omega (arith, all, total) in
          let same : count ≡ x.cover.count = omega (arith, none, is) in
          let sums : w.cover.bytes ≡ x.cover.bytes = due_is.bytes ∙ (λ j. logged (take (same j) (entries_in (n.issued number w.writer)))) ∙ sym y.sum in
          let many : 40 * count ≤ length i.0 = omega (arith, i.2, same) in
          let more : IsMore (target.sound.issued k w.writer) (n.issued number w.writer) = both_more (target.sound.issued k w.writer) (m.issued number w.writer) (n.issued number w.writer) (target.first k room at.there at.named w.writer) ((grows_trans m first n before grows).issued number w.writer) in
          let written : w.cover.bytes ≤ length (log_bytes room w.host w.writer) = omega (arith, sums, y.logs, y.log k room at) in
          record {
            bytes = i.0;
            has = i.1;
            entries = many;
            written = written;
            index_kept = settled_index t target.sound k room at.there w.host meta.0 w.writer meta.1 i.0 i.1 (n.issued number w.writer) more count many;
            log_kept = subst (IsKeptTo t k (log_path w.host w.writer)) (sym due_is.bytes)
                (settled_log t target.sound k room at.there w.host meta.0 w.writer meta.1 i.0 i.1 (n.issued number w.writer) more count many (omega (arith, written, due_is.bytes)));
          }
        where
          both_more : (a b c : List Written) → IsMore a b → IsMore b c → IsMore a c
          both_more a b c (x, e) (y, f) = (x ++ y, f ∙ ap (λ l. l ++ y) e ∙ append_assoc a x y)

-- ---- all writers

-- those that are settled there, with droppings
abbrev pub settled_if : Held → WriterRead → Option Mirror → List Due
settled_if held w None = []
settled_if held w (Some x) = due_of held w ∷ []

abbrev pub settled_of : Held → List WriterRead → List Due
settled_of held [] = []
settled_of held (w ∷ ws) = (if is_settled held w.writer then settled_if held w (mirror_in held.mirrors w.writer) else []) ++ settled_of held ws

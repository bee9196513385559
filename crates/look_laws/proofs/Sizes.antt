-- The size that metadata and truncates tell is that of the plain file of the cut.
use Rattle.std.proofs.Common.{◌≡◌, ◌⊎◌, inl, inr, ℕ, zero, suc, ◌+◌, ◌<◌, ◌≤◌, ◌^◌, Bool, true, false, ◌&&◌, nat_lt, max, List, [], ◌∷◌, ◌++◌, take, Option, None, Some, option_map, refl, ap, ◌∙◌, sym, subst, arith}
use Rattle.std.specs.Prelude.{if◌then◌else◌, slice_get}
use Rattle.std.specs.List.{AllByRecursion}
use Rattle.std.proofs.lemmas.Bool.{cond-true, cond-false, lt-ltb, le-ltb}
use Rattle.std.proofs.lemmas.Bool.Decides.{nat_tests}
use Rattle.std.proofs.lemmas.List.Elements.{recursion_from_All}
use Rattle.plfs_types.specs.declared.entries.Entry.{Entry}
use Rattle.plfs_types.specs.declared.entries.Trunc.{Trunc}
use Rattle.container_layout.specs.declared.items.Item.TheVariants as item
use Rattle.index_entry.specs.Entries.{AreEntriesOf, last_stamp, logged}
use Rattle.plain_file.specs.declared.pieces.Piece.{Piece}
use Rattle.plain_file.specs.File.{plain_size}
use Rattle.plain_file.specs.Newest.{covers, newest_at, survives}
use Rattle.plain_file.specs.Runs.{ArePieces}
use Rattle.plain_file.specs.Size.{end_after, is_after, is_later, last_trunc, later, size_given}
use Rattle.plain_file.specs.Sources.{Source, source_of}
use Rattle.plain_file.proofs.Facts.{All-Among, Among, cases_Option, filtered-Among, newest-is}
use Rattle.store_api.specs.declared.tree.Room.{Room}
use Rattle.store_laws.specs.Files.{file_at}
use Rattle.mount_model.specs.Paths.{trunc_path}
use Rattle.mount_sound.specs.Dropping.{AreBeside, IsToldOf}
use Rattle.mount_sound.specs.Entries.{greatest_end}
use Rattle.mount_sound.specs.Items.{HasItem}
use Rattle.mount_sound.specs.Ledger.{entries_in}
use Rattle.mount_sound.specs.There.{landed_entries}
use Rattle.mount_sound.proofs.Facts.{take_less, writer_told}
use Rattle.mount_model.specs.declared.names.Metadata.{Metadata}
use Rattle.attr_flow.specs.Sizes.{cached_size, end_left_after}
use Rattle.index_reader.specs.Runs.{runs_of}
use Rattle.reader_laws.specs.Gathering.{Gathered, IsAdmissible}
use Rattle.reader_laws.specs.GatheringListing.{AreTruncsAt}
use Rattle.reader_laws.specs.Moments.{HadTrunc, IsSoundAt, Moment, issued_by, landed, landed_by}
use Rattle.reader_laws.specs.View.{WritersRise, changes_in, own_entries, writes_in}
use Rattle.reader_laws.proofs.Gathered.Facts.{in_a_room, in_tree, landed_at, landed_is_first, prefix_of, size_of_pieces, stands}
use Rattle.reader_laws.proofs.Gathered.OpenReaders.Viewing.{All-take, entries_split, in_order-take}
use Rattle.reader_laws.proofs.Facts.{AreRunsOf, IsBounded, runs_are}
use Rattle.look_laws.proofs.Cuts.{IsLeftOf}
use Rattle.look_laws.proofs.Ends.{pieces_reach, reach, reach_within, reached}

-- ---- one writer's entries

-- all are before the truncate or all behind it
abbrev AllBeside : Option Trunc → List Entry → Type 0
AllBeside None es = Unit {0}
AllBeside (Some t) es = AreBeside t.stamp es

after_all : (last : Option Trunc) (e : Entry) (es : List Entry) → is_after last e.stamp ≡ true → reach last (e ∷ es) ≡ max (e.at + e.len) (reach last es)
after_all last e es h = cond-true (is_after last e.stamp) (max (e.at + e.len) (reach last es)) (reach last es) h

before_all : (last : Option Trunc) (e : Entry) (es : List Entry) → is_after last e.stamp ≡ false → reach last (e ∷ es) ≡ reach last es
before_all last e es h = cond-false (is_after last e.stamp) (max (e.at + e.len) (reach last es)) (reach last es) h

reach_none : (es : List Entry) → reach None es ≡ greatest_end es
reach_none [] = refl
reach_none (e ∷ es) = ap (max (e.at + e.len)) (reach_none es)

reach_above : (t : Trunc) (es : List Entry) → AllByRecursion (λ (e : Entry). t.stamp < e.stamp) es → reach (Some t) es ≡ greatest_end es
reach_above t [] all = refl
reach_above t (e ∷ es) all = after_all (Some t) e es (lt-ltb t.stamp e.stamp all.0) ∙ ap (max (e.at + e.len)) (reach_above t es all.1)

not_above : (k n : ℕ) → n ≤ k → nat_lt k n ≡ false
not_above k n l = le-ltb k n l

below_least : (k n : ℕ) → n < k → n ≤ k
below_least k n l = omega (arith, l)

reach_below : (t : Trunc) (es : List Entry) → AllByRecursion (λ (e : Entry). e.stamp < t.stamp) es → reach (Some t) es ≡ 0
reach_below t [] all = refl
reach_below t (e ∷ es) all = before_all (Some t) e es (not_above t.stamp e.stamp (below_least t.stamp e.stamp all.0)) ∙ reach_below t es all.1

-- of some entries the last stamp is the last one's
last_below : (k stamp : ℕ) (es : List Entry) → stamp < k → AllByRecursion (λ (e : Entry). e.stamp < k) es → last_stamp stamp es < k
last_below k stamp [] l all = l
last_below k stamp (e ∷ es) l all = last_below k e.stamp es all.0 all.1

last_above : (k stamp : ℕ) (es : List Entry) → k < stamp → AllByRecursion (λ (e : Entry). k < e.stamp) es → k < last_stamp stamp es
last_above k stamp [] l all = l
last_above k stamp (e ∷ es) l all = last_above k e.stamp es all.0 all.1

-- what a writer left of which its metadata tells, where that came after the truncate
abbrev end_left : Option Trunc → Metadata → ℕ
end_left last m = if is_after last m.stamp then m.last else 0

either_none : (b : Bool) (n : ℕ) → n ≡ 0 → 0 ≡ (if b then n else 0)
either_none true n e = sym e
either_none false n e = refl

reach_left : (last : Option Trunc) (m : Metadata) (es : List Entry) → IsToldOf m.last m.bytes m.stamp es → AllBeside last es → reach last es ≡ end_left last m
reach_left None m es told beside = reach_none es ∙ sym told.end
reach_left (Some t) m [] told beside = either_none (nat_lt t.stamp m.stamp) m.last told.end
reach_left (Some t) m (e ∷ es) told (inl below) =
    let last_one : m.stamp < t.stamp = omega (arith, told.latest, last_below t.stamp e.stamp es below.0 below.1) in
    reach_below t (e ∷ es) below ∙ sym (cond-false (nat_lt t.stamp m.stamp) m.last 0 (not_above t.stamp m.stamp (below_least t.stamp m.stamp last_one)))
reach_left (Some t) m (e ∷ es) told (inr above) =
    let last_one : t.stamp < m.stamp = omega (arith, told.latest, last_above t.stamp e.stamp es above.0 above.1) in
    reach_above t (e ∷ es) above ∙ sym told.end ∙ sym (cond-true (nat_lt t.stamp m.stamp) m.last 0 (lt-ltb t.stamp m.stamp last_one))

-- ---- all that was left

left_first : (last : Option Trunc) (m : Metadata) (metas : List Metadata) → end_left_after last (m ∷ metas) ≡ max (end_left last m) (end_left_after last metas)
left_first last m metas = elim (is_after last m.stamp) as (λ b. (if b then max m.last (end_left_after last metas) else end_left_after last metas) ≡ max (if b then m.last else 0) (end_left_after last metas)) [
  | true ↦ refl
  | false ↦ more_than_none (end_left_after last metas)
]
  where
    more_than_none : (n : ℕ) → n ≡ max 0 n
    more_than_none n = omega arith

left_among : (last : Option Trunc) (metas : List Metadata) (m : Metadata) → Among m metas → end_left last m ≤ end_left_after last metas
left_among last [] m a = absurd a
left_among last (x ∷ metas) m (inl same) = omega (arith, left_first last x metas, ap (end_left last) same)
left_among last (x ∷ metas) m (inr a) = omega (arith, left_first last x metas, left_among last metas m a)

left_within : (last : Option Trunc) (metas : List Metadata) (n : ℕ) → ((m : Metadata) → Among m metas → end_left last m ≤ n) → end_left_after last metas ≤ n
left_within last [] n all = omega arith
left_within last (x ∷ metas) n all = omega (arith, left_first last x metas, all x (inl refl), left_within last metas n (λ m a. all m (inr a)))

-- ---- the entries of a cut

among_both : (e : Entry) (xs ys : List Entry) → Among e (xs ++ ys) → Among e xs ⊎ Among e ys
among_both e [] ys a = inr a
among_both e (x ∷ xs) ys (inl same) = inl (inl same)
among_both e (x ∷ xs) ys (inr a) = elim (among_both e xs ys a) as (λ _. Among e (x ∷ xs) ⊎ Among e ys) [ inl b ↦ inl (inr b) | inr b ↦ inr b ]

among_first : (e : Entry) (xs ys : List Entry) → Among e xs → Among e (xs ++ ys)
among_first e [] ys a = absurd a
among_first e (x ∷ xs) ys (inl same) = inl same
among_first e (x ∷ xs) ys (inr a) = inr (among_first e xs ys a)

among_rest : (e : Entry) (xs ys : List Entry) → Among e ys → Among e (xs ++ ys)
among_rest e [] ys a = a
among_rest e (x ∷ xs) ys a = inr (among_rest e xs ys a)

none_among : (e : Entry) (es : List Entry) → es ≡ [] → Among e es → ⊥
none_among e es none a = subst (Among e) none a

module _ (end : Moment) where
  abbrev all_entries : List Gathered → List Entry
  all_entries cut = entries_in (writes_in end cut)

  of_one : (cut : List Gathered) (e : Entry) → Among e (all_entries cut) → (g : Gathered) × Among g cut × Among e (own_entries end g)
  of_one [] e a = absurd a
  of_one (g ∷ cut) e a = of (among_both e (own_entries end g) (all_entries cut) (subst (Among e) (entries_split end g cut) a)) (λ b. of_one cut e b)
    where
      of : Among e (own_entries end g) ⊎ Among e (all_entries cut) → (Among e (all_entries cut) → (k : Gathered) × Among k cut × Among e (own_entries end k)) → (k : Gathered) × Among k (g ∷ cut) × Among e (own_entries end k)
      of (inl b) later = (g, inl refl, b)
      of (inr b) later = let k = later b in (k.0, inr k.1, k.2)

  one_of : (cut : List Gathered) (g : Gathered) (e : Entry) → Among g cut → Among e (own_entries end g) → Among e (all_entries cut)
  one_of [] g e a b = absurd a
  one_of (x ∷ cut) g e (inl same) b = subst (Among e) (sym (entries_split end x cut)) (among_first e (own_entries end x) (all_entries cut) (subst (λ (k : Gathered). Among e (own_entries end k)) same b))
  one_of (x ∷ cut) g e (inr a) b = subst (Among e) (sym (entries_split end x cut)) (among_rest e (own_entries end x) (all_entries cut) (one_of cut g e a b))

  -- they reach as far as what was left
  entries_reach : (last : Option Trunc) (metas : List Metadata) (cut : List Gathered) → ((g : Gathered) → Among g cut → AllBeside last (own_entries end g)) → ((g : Gathered) → Among g cut → ((x : Metadata) × Among x metas × IsLeftOf end x g) ⊎ (own_entries end g ≡ []))
      → ((x : Metadata) → Among x metas → ((g : Gathered) × Among g cut × IsLeftOf end x g) ⊎ ((x.last ≡ 0) × (x.bytes ≡ 0))) → reach last (all_entries cut) ≡ end_left_after last metas
  entries_reach last metas cut beside each all =
      let up : reach last (all_entries cut) ≤ end_left_after last metas = reach_within last (all_entries cut) (end_left_after last metas) (λ e a after. let k = of_one cut e a in ends e k.0 k.1 k.2 after (each k.0 k.1)) in
      let down : end_left_after last metas ≤ reach last (all_entries cut) = left_within last metas (reach last (all_entries cut)) (λ m a. reaches m (all m a)) in
      omega (arith, up, down)
    where
      ends : (e : Entry) (g : Gathered) → Among g cut → Among e (own_entries end g) → is_after last e.stamp ≡ true → ((x : Metadata) × Among x metas × IsLeftOf end x g) ⊎ (own_entries end g ≡ []) → e.at + e.len ≤ end_left_after last metas
      ends e g a b after (inl (x, c, l)) = omega (arith, reached last (own_entries end g) e b after, reach_left last x (own_entries end g) l.told (beside g a), left_among last metas x c)
      ends e g a b after (inr none) = absurd (none_among e (own_entries end g) none b)

      nothing : (m : Metadata) (n : ℕ) → m.last ≡ 0 → end_left last m ≤ n
      nothing m n none = elim (is_after last m.stamp) as (λ b. (if b then m.last else 0) ≤ n) [ true ↦ omega (arith, none) | false ↦ omega arith ]

      reaches : (m : Metadata) → ((g : Gathered) × Among g cut × IsLeftOf end m g) ⊎ ((m.last ≡ 0) × (m.bytes ≡ 0)) → end_left last m ≤ reach last (all_entries cut)
      reaches m (inl (g, a, l)) =
          let own : reach last (own_entries end g) ≤ reach last (all_entries cut) = reach_within last (own_entries end g) (reach last (all_entries cut)) (λ e b after. reached last (all_entries cut) e (one_of cut g e a b) after) in
          omega (arith, own, reach_left last m (own_entries end g) l.told (beside g a))
      reaches m (inr none) = nothing m (reach last (all_entries cut)) none.0

-- ---- the pieces of a cut

-- what entries of a writer are
record IsEntry (bound : ℕ) (e : Entry) : Type 0 where
  pub some : 1 ≤ e.len
  pub near : e.at + e.len ≤ 2 ^ 40
  pub stored : e.physical + e.len ≤ bound

entry_is : (writer stamp offset bound : ℕ) (es : List Entry) (e : Entry) → AreEntriesOf writer stamp offset es → offset + logged es ≤ bound → Among e es → IsEntry bound e
entry_is writer stamp offset bound [] e order small a = absurd a
entry_is writer stamp offset bound (x ∷ es) e order small (inl same) = subst (IsEntry bound) (sym same) (record { some = order.0.some; near = order.0.within; stored = omega (arith, order.0.place, small) })
entry_is writer stamp offset bound (x ∷ es) e order small (inr a) = entry_is writer x.stamp (offset + x.len) bound es e order.1 (omega (arith, small)) a

taken_small : (n : ℕ) (es : List Entry) → logged (take n es) ≤ logged es
taken_small zero [] = omega arith
taken_small zero (e ∷ es) = omega arith
taken_small (suc n) [] = omega arith
taken_small (suc n) (e ∷ es) = omega (arith, taken_small n es)

module _ (end : Moment) (s : IsSoundAt end) where
  own_is : (g : Gathered) (e : Entry) → Among e (own_entries end g) → IsEntry (2 ^ 56) e
  own_is g e a =
      let es : List Entry = entries_in (issued_by end g.dropping) in
      let v = s.sound.writes g.dropping.room g.dropping.writer in
      entry_is g.dropping.writer 0 0 (2 ^ 56) (take g.count es) e (in_order-take g.count g.dropping.writer 0 0 es v.in_order) (omega (arith, taken_small g.count es, v.small)) a

  bounded : (cut : List Gathered) → IsBounded (λ x. option_map (source_of x) (newest_at (entries_in (writes_in end cut)) [] x))
  bounded cut x t is = elim (cases_Option (newest_at (entries_in (writes_in end cut)) [] x)) as (λ _. (x < 2 ^ 40) × (t.place + 1 < 2 ^ 64)) [
    | inl none ↦ absurd (let clash : None ≡ Some t = sym (ap (option_map (source_of x)) none) ∙ is in cc)
    | inr (e, some) ↦
        let one : Some (source_of x e) ≡ Some t = sym (ap (option_map (source_of x)) some) ∙ is in
        let same : source_of x e ≡ t = cc in
        let es : List Entry = entries_in (writes_in end cut) in
        let p : Entry → Bool = λ (d : Entry). covers d x && survives [] x d in
        let f = filtered-Among p es e (newest-is _ e some).0 in
        let g = of_one end cut e f.1 in
        let k : IsEntry (2 ^ 56) e = own_is g.0 e g.2 in
        let from : e.at ≤ x = covered_from e x f.0 in
        let until : x < e.at + e.len = covered_until e x f.0 in
        (omega (arith, until, k.near), omega (arith, from, until, k.stored, ap (λ (r : Source). r.place) same))
  ]
    where
      covered_from : (e : Entry) (x : ℕ) → (covers e x && true) ≡ true → e.at ≤ x
      covered_from e x h = grind (arith, nat_tests)

      covered_until : (e : Entry) (x : ℕ) → (covers e x && true) ≡ true → x < e.at + e.len
      covered_until e x h = grind (arith, nat_tests)

  pieces_there : (cut : List Gathered) → (pieces : List Piece) × ArePieces (entries_in (writes_in end cut)) [] pieces
  pieces_there cut =
      let says : ℕ → Option Source = λ x. option_map (source_of x) (newest_at (entries_in (writes_in end cut)) [] x) in
      let r : AreRunsOf says (runs_of says) = runs_are says (bounded cut) in
      (runs_of says, record { runs = r.runs; shown = r.same })

  -- ---- truncates

  later_either : (t u : Trunc) (o : Option Trunc) → later (Some t) o ≡ Some u → (u ≡ t) ⊎ (o ≡ Some u)
  later_either t u None e = inl (let same : t ≡ u = cc in sym same)
  later_either t u (Some v) e = elim (is_later v t) as (λ b. (if b then Some v else Some t) ≡ Some u → (u ≡ t) ⊎ (Some v ≡ Some u)) [
    | true ↦ λ k. inr k
    | false ↦ λ k. inl (let same : t ≡ u = cc in sym same)
  ] e

  last_among : (ts : List Trunc) (u : Trunc) → last_trunc ts ≡ Some u → Among u ts
  last_among [] u e = absurd (cc)
  last_among (t ∷ ts) u e = of (later_either t u (last_trunc ts) e) (λ k. last_among ts u k)
    where
      of : (u ≡ t) ⊎ (last_trunc ts ≡ Some u) → (last_trunc ts ≡ Some u → Among u ts) → Among u (t ∷ ts)
      of (inl same) rest = inl same
      of (inr is) rest = inr (rest is)

  some_room : (a b : Room) (o : Option Room) → o ≡ Some a → o ≡ Some b → a ≡ b
  some_room a b o p q = cc

  beside_taken : (k n : ℕ) (es : List Entry) → AreBeside k es → AreBeside k (take n es)
  beside_taken k n es (inl below) = inl (All-take (λ (e : Entry). e.stamp < k) n es below)
  beside_taken k n es (inr above) = inr (All-take (λ (e : Entry). k < e.stamp) n es above)

  -- no truncate of the room is between two entries of a writer of the cut
  beside_trunc : (start : Moment) (room stamp size : ℕ) (cut : List Gathered) (g : Gathered) → IsAdmissible start end cut → Among g cut → g.dropping.room ≡ room → HadTrunc end room stamp size → AreBeside stamp (own_entries end g)
  beside_trunc start room stamp size cut g admissible a in_it had =
      let p = prefix_of start end cut g admissible a in
      let d = g.dropping in
      let st = stands end s d p.stands.bytes p.stands.is_item p.stands.there in
      let r = in_a_room (slice_get s.shape.tree.rooms room) (trunc_path stamp size) had.bytes (in_tree end s room (trunc_path stamp size) had.bytes had.there) in
      let one : r.0 ≡ st.room = some_room r.0 st.room (slice_get s.shape.tree.rooms room) r.1 (ap (λ k. slice_get s.shape.tree.rooms k) (sym in_it) ∙ st.there) in
      let held : HasItem st.room (item.Trunc stamp size) had.bytes = record { is_item = had.is_item; there = ap (λ q. file_at q (trunc_path stamp size)) (sym one) ∙ r.2 } in
      let es : List Entry = entries_in (issued_by end d) in
      let landed_are : landed_by end d ≡ take st.writer.landed es =
      landed_at end s d st.room st.there ∙ ap (λ k. landed_entries st.room k d.writer) st.host ∙ writer_told st.room d.writer (issued_by end d) st.writer p.stands.is_item.widths.1 (s.sound.writes d.room d.writer) in
      let beside : AreBeside stamp (landed_by end d) = subst (AreBeside stamp) (sym landed_are) (st.writer.beside stamp size had.bytes held) in
      let own : take g.count (landed_by end d) ≡ own_entries end g = ap (take g.count) (landed_is_first end s d p.stands.is_item) ∙ take_less g.count (landed end d) es p.most in
      subst (AreBeside stamp) own (beside_taken stamp g.count (landed_by end d) beside)

  in_its_room : (room : ℕ) (cut : List Gathered) (g : Gathered) → WritersRise room cut → Among g cut → g.dropping.room ≡ room
  in_its_room room [] g rise a = absurd a
  in_its_room room (x ∷ cut) g rise (inl same) = ap (λ (k : Gathered). k.dropping.room) same ∙ rise.0
  in_its_room room (x ∷ cut) g rise (inr a) = in_its_room room cut g rise.2 a

  all_beside : (start : Moment) (room : ℕ) (truncs : List Trunc) (cut : List Gathered) (g : Gathered) → IsAdmissible start end cut → WritersRise room cut → AreTruncsAt end room truncs → Among g cut → (last : Option Trunc) → last_trunc truncs ≡ last → AllBeside last (own_entries end g)
  all_beside start room truncs cut g admissible rise at a None is = tt
  all_beside start room truncs cut g admissible rise at a (Some t) is =
      beside_trunc start room t.stamp t.size cut g admissible a (in_its_room room cut g rise a)
      (All-Among (λ (u : Trunc). HadTrunc end room u.stamp u.size) truncs t (recursion_from_All (λ (u : Trunc). HadTrunc end room u.stamp u.size) truncs at.there) (last_among truncs t is))

  -- The size that metadata and truncates tell is that of the plain file of a cut of which the metadata tells.
  pub size_same : (start : Moment) (room : ℕ) (metas : List Metadata) (listed truncs : List Trunc) (cut : List Gathered) → last_trunc truncs ≡ last_trunc listed → IsAdmissible start end cut → WritersRise room cut → AreTruncsAt end room truncs
      → ((g : Gathered) → Among g cut → ((x : Metadata) × Among x metas × IsLeftOf end x g) ⊎ (own_entries end g ≡ [])) → ((x : Metadata) → Among x metas → ((g : Gathered) × Among g cut × IsLeftOf end x g) ⊎ ((x.last ≡ 0) × (x.bytes ≡ 0)))
      → cached_size metas listed ≡ plain_size (changes_in end cut truncs)
  size_same start room metas listed truncs cut same admissible rise at each all =
      let p = pieces_there cut in
      let last : Option Trunc = last_trunc truncs in
      let full : (e : Entry) → Among e (entries_in (writes_in end cut)) → 1 ≤ e.len = λ e a. (let g = of_one end cut e a in (own_is g.0 e g.2).some) in
      let ends : end_after last p.0 ≡ end_left_after last metas =
      pieces_reach last (entries_in (writes_in end cut)) p.0 full p.1 ∙ entries_reach end last metas cut (λ g a. all_beside start room truncs cut g admissible rise at a last refl) each all in
      ap (λ o. max (size_given o) (end_left_after o metas)) (sym same) ∙ ap (max (size_given last)) (sym ends) ∙ sym (size_of_pieces end room cut truncs p.0 s rise p.1)

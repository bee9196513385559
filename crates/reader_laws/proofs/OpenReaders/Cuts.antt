-- The cut of what was gathered: by rising writer, the droppings that were listed.
use Rattle.std.proofs.Common.{◌≡◌, ℕ, ◌<◌, List, [], ◌∷◌, ◌++◌, map, refl, ap, sym, ◌∙◌, ◌⊎◌, inl, inr, subst}
use Rattle.std.specs.List.{AllByRecursion}
use Rattle.std.proofs.lemmas.List.Elements.{recursion_from_All}
use Rattle.plfs_types.specs.declared.entries.Entry.{Entry}
use Rattle.plain_file.proofs.Facts.{Among, All-Among, SameElements}
use Rattle.mount_model.specs.Regular.{Ascend}
use Rattle.index_reader.specs.declared.listing.Dropping.{Dropping as Listed}
use Rattle.reader_laws.specs.Moments.{Dropping}
use Rattle.reader_laws.specs.Gathering.{Gathered}
use Rattle.reader_laws.specs.View.{WritersRise, tails_of}
use Rattle.reader_laws.proofs.Gathered.Facts.{among_left, among_right}
use Rattle.reader_laws.specs.Opening.{WritersDiffer}
use Rattle.reader_laws.specs.Sharing.{in_room}

abbrev pub dropping_of : Gathered → Dropping
dropping_of g = g.dropping

-- ---- members of lists

pub among_map : {X Y : Type 0} (f : X → Y) (xs : List X) (x : X) → Among x xs → Among (f x) (map f xs)
among_map f [] x a = absurd a
among_map f (y ∷ xs) x (inl e) = inl (ap f e)
among_map f (y ∷ xs) x (inr a) = inr (among_map f xs x a)

pub map_among : {X Y : Type 0} (f : X → Y) (xs : List X) (y : Y) → Among y (map f xs) → (x : X) × Among x xs × (y ≡ f x)
map_among f [] y a = absurd a
map_among f (x ∷ xs) y (inl e) = (x, inl refl, e)
map_among f (x ∷ xs) y (inr a) = let m = map_among f xs y a in (m.0, inr m.1, m.2)

-- the member of one list that stands for that of another
pub matching : {X Y Z : Type 0} (f : X → Z) (g : Y → Z) (xs : List X) (ys : List Y) (x : X) → map f xs ≡ map g ys → Among x xs → (y : Y) × Among y ys × (f x ≡ g y)
matching f g xs ys x same a = map_among g ys (f x) (subst (Among (f x)) same (among_map f xs x a))

pub either_part : {X : Type 0} (x : X) (xs ys : List X) → Among x (xs ++ ys) → Among x xs ⊎ Among x ys
either_part x [] ys a = inr a
either_part x (y ∷ xs) ys (inl e) = inl (inl e)
either_part x (y ∷ xs) ys (inr a) = elim (either_part x xs ys a) as (λ _. Among x (y ∷ xs) ⊎ Among x ys) [ inl l ↦ inl (inr l) | inr r ↦ inr r ]

-- what holds of each member
pub all_by : {X : Type 0} (P : X → Type 0) (xs : List X) → ((x : X) → Among x xs → P x) → AllByRecursion P xs
all_by P [] f = tt
all_by P (x ∷ xs) f = (f x (inl refl), all_by P xs (λ y a. f y (inr a)))

among_tails : (gs : List Gathered) (e : Entry) → Among e (tails_of gs) → (g : Gathered) × Among g gs × Among e g.tail
among_tails [] e a = absurd a
among_tails (g ∷ gs) e a = elim (either_part e g.tail (tails_of gs) a) as (λ _. (h : Gathered) × Among h (g ∷ gs) × Among e h.tail) [
  | inl mine ↦ (g, inl refl, mine)
  | inr others ↦ (let t = among_tails gs e others in (t.0, inr t.1, t.2))
]

tails_among : (gs : List Gathered) (g : Gathered) (e : Entry) → Among g gs → Among e g.tail → Among e (tails_of gs)
tails_among [] g e a in_tail = absurd a
tails_among (h ∷ gs) g e (inl same) in_tail = among_left e h.tail (tails_of gs) (subst (λ (x : Gathered). Among e x.tail) same in_tail)
tails_among (h ∷ gs) g e (inr a) in_tail = among_right e h.tail (tails_of gs) (tails_among gs g e a in_tail)

-- members of both lists have the same entries
pub same_tails : (a b : List Gathered) → ((g : Gathered) → Among g a → Among g b) → ((g : Gathered) → Among g b → Among g a) → SameElements (tails_of a) (tails_of b)
same_tails a b to back = record {
  to = λ e m. let t = among_tails a e m in tails_among b t.0 e (to t.0 t.1) t.2;
  back = λ e m. let t = among_tails b e m in tails_among a t.0 e (back t.0 t.1) t.2;
}

-- ---- the cut

pub same_head : {X : Type 0} (x y : X) (xs ys : List X) → x ∷ xs ≡ y ∷ ys → x ≡ y
same_head x y xs ys e = cc

pub same_rest : {X : Type 0} (x y : X) (xs ys : List X) → x ∷ xs ≡ y ∷ ys → xs ≡ ys
same_rest x y xs ys e = cc

-- those of the gathered ones that are of the listed droppings, in order
pub record IsPicked (room : ℕ) (gathered : List Gathered) (listed : List Listed) (cut : List Gathered) : Type 0 where
  pub are : map dropping_of cut ≡ map (in_room room) listed
  pub from : AllByRecursion (λ (g : Gathered). Among g gathered) cut

-- a dropping was gathered
abbrev pub WasGathered : ℕ → List Gathered → Listed → Type 0
WasGathered room gathered d = (g : Gathered) × Among g gathered × (g.dropping ≡ in_room room d)

pub picked : (room : ℕ) (gathered : List Gathered) (listed : List Listed) → ((d : Listed) → Among d listed → WasGathered room gathered d) → (cut : List Gathered) × IsPicked room gathered listed cut
picked room gathered [] was = ([], record { are = refl; from = tt })
picked room gathered (d ∷ listed) was =
    let here = was d (inl refl) in
    let rest = picked room gathered listed (λ e a. was e (inr a)) in
    (here.0 ∷ rest.0, record { are = (λ i. here.2 i ∷ rest.1.are i); from = (here.1, rest.1.from) })

-- ---- its order

pub unmap : {X Y : Type 0} (P : Y → Type 0) (f : X → Y) (xs : List X) → AllByRecursion P (map f xs) → AllByRecursion (λ x. P (f x)) xs
unmap P f [] all = tt
unmap P f (x ∷ xs) all = (all.0, unmap P f xs all.1)

rising : (room : ℕ) (cut : List Gathered) → Ascend (map (λ (g : Gathered). g.dropping.writer) cut) → AllByRecursion (λ (g : Gathered). g.dropping.room ≡ room) cut → WritersRise room cut
rising room [] ascend rooms = tt
rising room (g ∷ cut) ascend rooms = (
  rooms.0,
  unmap (λ later. g.dropping.writer < later) (λ (h : Gathered). h.dropping.writer) cut (recursion_from_All (λ later. g.dropping.writer < later) (map (λ (h : Gathered). h.dropping.writer) cut) ascend.0),
  rising room cut ascend.1 rooms.1,
)

writers_are : (room : ℕ) (cut : List Gathered) (listed : List Listed) → map dropping_of cut ≡ map (in_room room) listed → map (λ (g : Gathered). g.dropping.writer) cut ≡ map (λ (d : Listed). d.writer) listed
writers_are room [] [] are = refl
writers_are room [] (d ∷ listed) are = absurd (cc)
writers_are room (g ∷ cut) [] are = absurd (cc)
writers_are room (g ∷ cut) (d ∷ listed) are =
    let head : g.dropping ≡ in_room room d = same_head g.dropping (in_room room d) (map dropping_of cut) (map (in_room room) listed) are in
    let rest = writers_are room cut listed (same_rest g.dropping (in_room room d) (map dropping_of cut) (map (in_room room) listed) are) in
    (λ i. (head i).writer ∷ rest i)

rooms_are : (room : ℕ) (cut : List Gathered) (listed : List Listed) → map dropping_of cut ≡ map (in_room room) listed → AllByRecursion (λ (g : Gathered). g.dropping.room ≡ room) cut
rooms_are room [] listed are = tt
rooms_are room (g ∷ cut) [] are = absurd (cc)
rooms_are room (g ∷ cut) (d ∷ listed) are =
    let head : g.dropping ≡ in_room room d = same_head g.dropping (in_room room d) (map dropping_of cut) (map (in_room room) listed) are in
    (ap (λ (x : Dropping). x.room) head, rooms_are room cut listed (same_rest g.dropping (in_room room d) (map dropping_of cut) (map (in_room room) listed) are))

pub cut_rises : (room : ℕ) (cut : List Gathered) (listed : List Listed) → map dropping_of cut ≡ map (in_room room) listed → Ascend (map (λ (d : Listed). d.writer) listed) → WritersRise room cut
cut_rises room cut listed are ascend = rising room cut (subst Ascend (sym (writers_are room cut listed are)) ascend) (rooms_are room cut listed are)

-- ---- each writer once

-- of droppings of different writers, each was gathered once
pub one_of : (room : ℕ) (gathered : List Gathered) (ds : List Listed) (g h : Gathered) → map dropping_of gathered ≡ map (in_room room) ds → WritersDiffer ds → Among g gathered → Among h gathered → g.dropping ≡ h.dropping → g ≡ h
one_of room [] ds g h are differ a b same = absurd a
one_of room (x ∷ gathered) [] g h are differ a b same = absurd (cc)
one_of room (x ∷ gathered) (d ∷ ds) g h are differ a b same = both a b (λ c e. one_of room gathered ds g h rest differ.1 c e same)
  where
    rest : map dropping_of gathered ≡ map (in_room room) ds
    rest = same_rest x.dropping (in_room room d) (map dropping_of gathered) (map (in_room room) ds) are

    first : x.dropping ≡ in_room room d
    first = same_head x.dropping (in_room room d) (map dropping_of gathered) (map (in_room room) ds) are

    apart : (y : Gathered) → Among y gathered → x.dropping ≡ y.dropping → ⊥
    apart y c e =
        let m = matching dropping_of (in_room room) gathered ds y rest c in
        All-Among (λ (z : Listed). z.writer ≡ d.writer → ⊥) ds m.0 differ.0 m.1 (ap (λ (z : Dropping). z.writer) (sym m.2 ∙ sym e ∙ first))

    both : Among g (x ∷ gathered) → Among h (x ∷ gathered) → (Among g gathered → Among h gathered → g ≡ h) → g ≡ h
    both (inl p) (inl q) later = p ∙ sym q
    both (inl p) (inr c) later = absurd (apart h c (ap dropping_of (sym p) ∙ same))
    both (inr c) (inl q) later = absurd (apart g c (ap dropping_of (sym q) ∙ sym same))
    both (inr c) (inr e) later = later c e

-- what was gathered of the droppings that were listed is in the cut
pub all_picked : (room : ℕ) (gathered : List Gathered) (ds listed : List Listed) (cut : List Gathered) → map dropping_of gathered ≡ map (in_room room) ds → WritersDiffer ds → ((d : Listed) → Among d ds → Among d listed) → IsPicked room gathered listed cut → (g : Gathered) → Among g gathered → Among g cut
all_picked room gathered ds listed cut are differ only p g a =
    let d = matching dropping_of (in_room room) gathered ds g are a in
    let h = matching (in_room room) dropping_of listed cut d.0 (sym p.are) (only d.0 d.1) in
    let same : h.0.dropping ≡ g.dropping = sym h.2 ∙ sym d.2 in
    subst (λ x. Among x cut) (one_of room gathered ds h.0 g are differ (All-Among (λ (x : Gathered). Among x gathered) cut h.0 p.from h.1) a same) h.1

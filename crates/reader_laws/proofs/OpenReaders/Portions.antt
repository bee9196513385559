-- What several portions gathered, as one.
use Rattle.std.proofs.Common.{◌≡◌, ℕ, List, [], ◌∷◌, ◌++◌, map, refl, ap, sym, ◌∙◌, subst, append_assoc}
use Rattle.std.specs.List.{AllByRecursion}
use Rattle.std.proofs.lemmas.List.{map-append}
use Rattle.plfs_types.specs.declared.entries.Cover.{Cover}
use Rattle.plfs_types.specs.declared.entries.Entry.{Entry}
use Rattle.interval_merge.specs.Lists.{ArePiecesOfEach, joined}
use Rattle.index_reader.specs.declared.listing.Dropping.{Dropping as Listed}
use Rattle.index_reader.specs.Gathered.{covers_of, pieces_of_each}
use Rattle.index_reader.specs.Sharing.{covered}
use Rattle.reader_laws.specs.Seen.{Asked}
use Rattle.reader_laws.specs.Gathering.{Gathered, GathersAll}
use Rattle.reader_laws.specs.View.{tails_of}
use Rattle.reader_laws.proofs.Gathered.Facts.{All-append}
use Rattle.reader_laws.specs.Covering.{cover_with}
use Rattle.reader_laws.specs.Opening.{Portion, droppings_of, shares_of}
use Rattle.reader_laws.specs.Sharing.{in_room, cover_before, covers_with, IsShareOf}

-- of each portion, what was gathered
abbrev pub HasEach : ℕ → List Cover → List Portion → List (List Gathered) → Type 0
HasEach room covers [] [] = Unit {0}
HasEach room covers [] (gathered ∷ parts) = ⊥
HasEach room covers (p ∷ portions) [] = ⊥
HasEach room covers (p ∷ portions) (gathered ∷ parts) = IsShareOf room p.droppings covers gathered p.share × HasEach room covers portions parts

abbrev pub all_of : List (List Gathered) → List Gathered
all_of [] = []
all_of (gathered ∷ parts) = gathered ++ all_of parts

-- ---- lists of two parts

covers-append : (covers : List Cover) (a b : List Gathered) → covers_with covers (a ++ b) ≡ covers_with covers a ++ covers_with covers b
covers-append covers [] b = refl
covers-append covers (g ∷ a) b =
    let first : List Cover = covered (cover_with (cover_before covers g) g.tail) in
    ap (λ l. first ++ l) (covers-append covers a b) ∙ sym (append_assoc first (covers_with covers a) (covers_with covers b))

tails-append : (a b : List Gathered) → tails_of (a ++ b) ≡ tails_of a ++ tails_of b
tails-append [] b = refl
tails-append (g ∷ a) b = ap (λ l. g.tail ++ l) (tails-append a b) ∙ sym (append_assoc g.tail (tails_of a) (tails_of b))

pub gathers-append : (a b : List Gathered) (mine others : List Asked) → GathersAll a mine → GathersAll b others → GathersAll (a ++ b) (mine ++ others)
gathers-append [] b mine others none gathered = subst (GathersAll b) (sym (ap (λ l. l ++ others) none)) gathered
gathers-append (g ∷ a) b mine others (first, rest, split, one, more) gathered =
    (first, rest ++ others, ap (λ l. l ++ others) split ∙ append_assoc first rest others, one, gathers-append a b rest others more gathered)

-- ---- all portions together

pub record HasAllOf (room : ℕ) (covers : List Cover) (portions : List Portion) (gathered : List Gathered) : Type 0 where
  pub droppings_are : map (λ (g : Gathered). g.dropping) gathered ≡ map (in_room room) (droppings_of portions)
  pub packed_are : map (λ (g : Gathered). g.packed) gathered ≡ map (λ (d : Listed). d.packed) (droppings_of portions)
  pub covered_so : AllByRecursion (λ (g : Gathered). g.covered ≡ (cover_before covers g).count) gathered
  pub counted : AllByRecursion (λ (g : Gathered). g.count ≡ (cover_with (cover_before covers g) g.tail).count) gathered
  pub covers_are : covers_of (shares_of portions) ≡ covers_with covers gathered
  pub each : List (List Entry)
  pub pieces : ArePiecesOfEach each (pieces_of_each (shares_of portions))
  pub entries : joined each ≡ tails_of gathered

pub all_together : (room : ℕ) (covers : List Cover) (portions : List Portion) (parts : List (List Gathered)) → HasEach room covers portions parts → HasAllOf room covers portions (all_of parts)
all_together room covers [] [] has = record { droppings_are = refl; packed_are = refl; covered_so = tt; counted = tt; covers_are = refl; each = []; pieces = tt; entries = refl }
all_together room covers [] (gathered ∷ parts) has = absurd has
all_together room covers (p ∷ portions) [] has = absurd has
all_together room covers (p ∷ portions) (gathered ∷ parts) (one, has) =
    let h = all_together room covers portions parts has in
    let rest : List Gathered = all_of parts in
    record {
      droppings_are = map-append (λ (g : Gathered). g.dropping) gathered rest ∙ ap (λ l. l ++ map (λ (g : Gathered). g.dropping) rest) one.droppings_are ∙ ap (λ l. map (in_room room) p.droppings ++ l) h.droppings_are ∙ sym (map-append (in_room room) p.droppings (droppings_of portions));
      packed_are = map-append (λ (g : Gathered). g.packed) gathered rest ∙ ap (λ l. l ++ map (λ (g : Gathered). g.packed) rest) one.packed_are ∙ ap (λ l. map (λ (d : Listed). d.packed) p.droppings ++ l) h.packed_are ∙ sym (map-append (λ (d : Listed). d.packed) p.droppings (droppings_of portions));
      covered_so = All-append (λ (g : Gathered). g.covered ≡ (cover_before covers g).count) gathered rest one.covered_so h.covered_so;
      counted = All-append (λ (g : Gathered). g.count ≡ (cover_with (cover_before covers g) g.tail).count) gathered rest one.counted h.counted;
      covers_are = ap (λ l. l ++ covers_of (shares_of portions)) one.covers_are ∙ ap (λ l. covers_with covers gathered ++ l) h.covers_are ∙ sym (covers-append covers gathered rest);
      each = tails_of gathered ∷ h.each;
      pieces = (one.pieces_are, h.pieces);
      entries = ap (λ l. tails_of gathered ++ l) h.entries ∙ sym (tails-append gathered rest);
    }

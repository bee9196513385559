-- The droppings that a second listing has of the covered writers are those of the entries.
use Rattle.std.proofs.Common.{◌≡◌, ℕ, ◌+◌, nat_eq, Bool, true, false, List, [], ◌∷◌, ◌++◌, map, Option, Some, None, refl, ap, sym, ◌∙◌, inl, inr, subst, append_assoc}
use Rattle.std.specs.Prelude.{Result, Ok, Err, if◌then◌else◌, slice_get}
use Rattle.std.proofs.lemmas.List.{append-nil}
use Rattle.plfs_types.specs.declared.entries.Cover.{Cover}
use Rattle.plfs_types.specs.declared.entries.Entry.{Entry}
use Rattle.plain_file.proofs.Facts.{Among}
use Rattle.container_layout.specs.declared.items.Item.TheVariants.{Index}
use Rattle.flat_format.specs.declared.flat.TheConstants.{COVER_SIZE}
use Rattle.store_api.specs.declared.tree.Room.{Room}
use Rattle.store_api.specs.declared.tree.Tree.{Tree}
use Rattle.mount_model.specs.State.{State}
use Rattle.mount_sound.specs.Items.{HasItem}
use Rattle.mount_sound.specs.Ledger.{Ledger}
use Rattle.mount_sound.specs.Owed.{StandsInRoom}
use Rattle.mount_sound.specs.Sound.{IsSoundFor}
use Rattle.mount_sound.proofs.Facts.{one_tree, some_room}
use Rattle.index_reader.specs.declared.listing.Dropping.{Dropping}
use Rattle.index_reader.specs.Found.{item_of}
use Rattle.flatten_core.specs.Covered.{covered, or_place}
use Rattle.reader_laws.proofs.Gathered.Facts.{alike}
use Rattle.recovery_laws.proofs.Facts.{HasFirst}
use Rattle.flatten_laws.proofs.Owns.{Own, IsOwn, AreOwn, all_entries, own_cover}
use Rattle.flatten_laws.proofs.Taken.{EachFirst}

-- ---- the droppings that were found

-- of each cover's writer one of the droppings
abbrev pub AreOf : List Dropping → List Cover → List Dropping → Type 0
AreOf droppings [] found = found ≡ []
AreOf droppings (c ∷ covers) found = (d : Dropping) × (rest : List Dropping) × (found ≡ d ∷ rest) × Among d droppings × (d.writer ≡ c.writer) × AreOf droppings covers rest

item_among : (w : ℕ) (ds : List Dropping) (d : Dropping) → item_of (λ (x : Dropping). x.writer) w ds ≡ Some d → Among d ds × (d.writer ≡ w)
item_among w [] d h = absurd (cc)
item_among w (x ∷ ds) d h = elim (nat_eq x.writer w) as (λ t. nat_eq x.writer w ≡ t → (if t then Some x else item_of (λ (y : Dropping). y.writer) w ds) ≡ Some d → Among d (x ∷ ds) × (d.writer ≡ w)) [
  | true ↦ λ t e. (let same : x ≡ d = cc in (inl (sym same), ap (λ (y : Dropping). y.writer) (sym same) ∙ alike x.writer w t))
  | false ↦ λ t e. (let rest = item_among w ds d e in (inr rest.0, rest.1))
] refl h

same_found : (a b : List Dropping) → ◌≡◌ {A = Result (List Dropping) ℕ} (Ok a) (Ok b) → a ≡ b
same_found a b e = cc

-- it went on with one
gone_on : (o : Option Dropping) (place : ℕ) (next : Dropping → Result (List Dropping) ℕ) (ds : List Dropping) → or_place o place next ≡ Ok ds → (d : Dropping) × (o ≡ Some d) × (next d ≡ Ok ds)
gone_on None place next ds e = absurd (never place ds e)
  where
    never : (p : ℕ) (xs : List Dropping) → ◌≡◌ {A = Result (List Dropping) ℕ} (Err p) (Ok xs) → ⊥
    never p xs clash = cc
gone_on (Some d) place next ds e = (d, refl, e)

-- they are the droppings that were found, behind those so far
pub covered_so : (droppings : List Dropping) (place : ℕ) (covers : List Cover) (sofar ds : List Dropping) → covered droppings place covers sofar ≡ Ok ds → (found : List Dropping) × (ds ≡ sofar ++ found) × AreOf droppings covers found
covered_so droppings place [] sofar ds e = ([], sym (same_found sofar ds e) ∙ sym (append-nil sofar), refl)
covered_so droppings place (c ∷ covers) sofar ds e =
    let g = gone_on (item_of (λ (d : Dropping). d.writer) c.writer droppings) place (λ d. covered droppings (place + COVER_SIZE) covers (sofar ++ d ∷ [])) ds e in
    let its = item_among c.writer droppings g.0 g.1 in
    let more = covered_so droppings (place + COVER_SIZE) covers (sofar ++ g.0 ∷ []) ds g.2 in
    (g.0 ∷ more.0, more.1 ∙ append_assoc sofar (g.0 ∷ []) more.0, (g.0, more.0, refl, its.0, its.1, more.2))

-- ---- with the entries

-- the droppings are those of the entries' writers
abbrev pub AreTheirs : List Dropping → List Own → Type 0
AreTheirs [] [] = Unit {0}
AreTheirs [] (o ∷ owns) = ⊥
AreTheirs (d ∷ ds) [] = ⊥
AreTheirs (d ∷ ds) (o ∷ owns) = (d.host ≡ o.host) × (d.writer ≡ o.writer) × AreTheirs ds owns

-- The same entries, under the hosts of the droppings.
pub record ArePaired (ds : List Dropping) (owns : List Own) : Type 0 where
  pub paired : List Own
  pub theirs : AreTheirs ds paired
  pub own : AreOwn paired
  pub covers : map own_cover paired ≡ map own_cover owns
  pub entries : all_entries paired ≡ all_entries owns
  pub firsts : (number : ℕ) (l : Ledger) (state : State) → IsSoundFor l state
      → ((d : Dropping) → Among d ds → StandsInRoom state number (λ room. (content : List ℕ) × HasItem room (Index d.host d.writer) content)) → EachFirst number owns state → EachFirst number paired state

-- a writer has its index dropping under one host
one_host : (number host : ℕ) (o : Own) (l : Ledger) (state : State) → IsSoundFor l state → StandsInRoom state number (λ room. (content : List ℕ) × HasItem room (Index host o.writer) content) → StandsInRoom state number (HasFirst o.host o.writer o.entries)
    → StandsInRoom state number (HasFirst host o.writer o.entries)
one_host number host o l state s stands first tree told =
    let x = stands tree told in
    let y = first tree told in
    let same : y.0 ≡ x.0 = some_room y.0 x.0 (slice_get tree.rooms number) y.1 x.1 in
    let there : slice_get s.shape.tree.rooms number ≡ Some y.0 = ap (λ (t : Tree). slice_get t.rooms number) (one_tree s.shape.tree tree state.store.tree s.shape.told told) ∙ y.1 in
    let w = (s.sound.rooms number y.0 there).writers o.writer y.2.stands.is_item.widths.1 in
    let here : HasItem y.0 (Index host o.writer) x.2.0 = subst (λ r. HasItem r (Index host o.writer) x.2.0) (sym same) x.2.1 in
    let host_is : o.host ≡ host = w.one_host o.host (inl (y.2.content, y.2.stands)) ∙ sym (w.one_host host (inl (x.2.0, here))) in
    (y.0, y.1, subst (λ h. HasFirst h o.writer o.entries y.0) host_is y.2)

pub pair : (droppings : List Dropping) (owns : List Own) (ds : List Dropping) → AreOwn owns → AreOf droppings (map own_cover owns) ds → ArePaired ds owns
pair droppings [] ds are of = record { paired = []; theirs = subst (λ l. AreTheirs l []) (sym of) tt; own = tt; covers = refl; entries = refl; firsts = λ number l state s stands f. f }
pair droppings (o ∷ owns) ds are of =
    let d : Dropping = of.0 in
    let rest : List Dropping = of.1 in
    let p : ArePaired rest owns = pair droppings owns rest are.1 of.5 in
    let q : Own = record { host = d.host; writer = o.writer; entries = o.entries } in
    subst (λ l. ArePaired l (o ∷ owns)) (sym of.2) (record {
      paired = q ∷ p.paired;
      theirs = (refl, of.4, p.theirs);
      own = (record { in_order = are.0.in_order; some = are.0.some; small = are.0.small }, p.own);
      covers = ap (λ cs. own_cover o ∷ cs) p.covers;
      entries = ap (λ es. o.entries ++ es) p.entries;
      firsts = λ number l state s stands f. (
        one_host number d.host o l state s (subst (λ w. StandsInRoom state number (λ room. (content : List ℕ) × HasItem room (Index d.host w) content)) of.4 (stands d (inl refl))) f.0,
        p.firsts number l state s (λ e a. stands e (inr a)) f.1,
      );
    })

-- each of them was listed
pub all_listed : (droppings : List Dropping) (covers : List Cover) (ds : List Dropping) → AreOf droppings covers ds → (d : Dropping) → Among d ds → Among d droppings
all_listed droppings [] ds of d a = absurd (subst (Among d) of a)
all_listed droppings (c ∷ covers) ds of d a = elim (subst (Among d) of.2 a) as (λ _. Among d droppings) [
  | inl same ↦ subst (λ x. Among x droppings) (sym same) of.3
  | inr rest ↦ all_listed droppings covers of.1 of.5 d rest
]

-- What is shown of the writers of a container.
use Rattle.std.proofs.Common.{◌≡◌, ℕ, zero, suc, ◌+◌, ◌≤◌, ◌⊎◌, inl, inr, Bool, true, false, ◌||◌, List, [], ◌∷◌, length, take, Option, Some, None, Result, Ok, Err, Less, Equal, Greater, refl, ap, sym, ◌∙◌, subst, arith}
use Rattle.std.specs.Prelude.{slice_get, cond, unwrap_or, IfErr, IfSome, ◌≢◌}
use Rattle.std.specs.BTreeMap.{BTreeMap, get, is_at}
use Rattle.std.specs.Cmp.{nat_cmp_is}
use Rattle.std.specs.Ordering.{nat_cmp, is_eq}
use Rattle.std.proofs.lemmas.Bool.{cases_eq, cases_lt, false≢true}
use Rattle.std.proofs.lemmas.List.{take_all}
use Rattle.plfs_types.specs.declared.names.Path.{Path}
use Rattle.container_layout.specs.declared.items.Item.{Item}
use Rattle.container_layout.specs.declared.items.Item.TheVariants as item
use Rattle.container_layout.specs.Paths.{IsAt, path_of}
use Rattle.container_layout.proofs.Facts.{one_item}
use Rattle.store_api.specs.declared.tree.Room.{Room}
use Rattle.store_api.specs.declared.tree.Tree.{Tree}
use Rattle.store_api.specs.Acts.{Stored}
use Rattle.store_laws.specs.Files.{file_at}
use Rattle.mount_model.specs.Paths.{Name}
use Rattle.mount_sound.specs.Items.{HasItem, HasMeta, HasItemOf}
use Rattle.shape_check.specs.declared.files.Place.{Place}
use Rattle.shape_check.specs.declared.finding.Complaint.TheVariants.{TwoHosts}
use Rattle.shape_check.specs.declared.finding.Finding.{Finding}
use Rattle.shape_check.specs.declared.finding.Finding.TheVariants.{Broken, Fault}
use Rattle.shape_check.specs.Files.{IsPlaced, OfPlace}
use Rattle.shape_check.specs.Rightness.{Fails, IsRight}
use Rattle.shape_check.specs.Shape.{IsOneOf, HasShape}
use Rattle.shape_check.proofs.Facts.{one_more}
use Rattle.tree_check.specs.declared.owners.Owner.{Owner}
use Rattle.tree_check.specs.declared.owners.Owned.{Owned}
use Rattle.tree_check.specs.Owners.{owned, owned_of, IsOwnedAt, left_before, IsOfHost, Notes, NotesAt, IsOfOther, IsOfOtherAt, IsNoted, AreOwnersAt, IsTwoHosts, AreOwnersOf}

-- ---- lists of paths

pub front_one : (paths : List Path) (i : ℕ) (path : Path) → IsOneOf (take i paths) path → IsOneOf paths path
front_one [] zero path one = absurd one
front_one [] (suc i) path one = absurd one
front_one (x ∷ xs) zero path one = absurd one
front_one (x ∷ xs) (suc i) path (inl same) = inl same
front_one (x ∷ xs) (suc i) path (inr later) = inr (front_one xs i path later)

pub path_there : (paths : List Path) (i : ℕ) (path : Path) → slice_get paths i ≡ Some path → IsOneOf paths path
path_there [] i path at = absurd (cc)
path_there (x ∷ xs) zero path at = let same : x ≡ path = cc in inl same
path_there (x ∷ xs) (suc i) path at = inr (path_there xs i path at)

still : (paths : List Path) (i : ℕ) (other : Path) → IsOneOf (take i paths) other → IsOneOf (take (suc i) paths) other
still [] zero other one = absurd one
still [] (suc i) other one = absurd one
still (x ∷ xs) zero other one = absurd one
still (x ∷ xs) (suc i) other (inl same) = inl same
still (x ∷ xs) (suc i) other (inr later) = inr (still xs i other later)

as_next : (i : ℕ) → suc i ≡ i + 1
as_next i = omega arith

pub still_one : (paths : List Path) (i : ℕ) (path other : Path) → slice_get paths i ≡ Some path → IsOneOf (take i paths) other → IsOneOf (take (i + 1) paths) other
still_one paths i path other at one = subst (λ (n : ℕ). IsOneOf (take n paths) other) (as_next i) (still paths i other one)

here : (paths : List Path) (i : ℕ) (path : Path) → slice_get paths i ≡ Some path → IsOneOf (take (suc i) paths) path
here [] i path at = absurd (cc)
here (x ∷ xs) zero path at = let same : x ≡ path = cc in inl same
here (x ∷ xs) (suc i) path at = inr (here xs i path at)

pub here_one : (paths : List Path) (i : ℕ) (path : Path) → slice_get paths i ≡ Some path → IsOneOf (take (i + 1) paths) path
here_one paths i path at = subst (λ (n : ℕ). IsOneOf (take n paths) path) (as_next i) (here paths i path at)

-- ---- whose the item at a path is

pub owned_some : (path : Path) (it : Item) (result : Option Owned) → IsAt path it → result ≡ owned_of it → IfSome result (IsOwnedAt path)
owned_some path it None at e = tt
owned_some path it (Some o) at e = (it, at, sym e)

pub owned_only : (path : Path) (it other : Item) (result : Option Owned) → IsAt path it → result ≡ owned_of it → IsAt path other → result ≡ owned_of other
owned_only path it other result at e also = e ∙ ap owned_of (one_item path it other at also)

pub one_owned : (path : Path) (a b : Owned) → IsOwnedAt path a → IsOwnedAt path b → a ≡ b
one_owned path a b (it, at, e) (other, also, f) =
    let same : Some a ≡ Some b = sym e ∙ ap owned_of (one_item path it other at also) ∙ f in
    cc

pub owned_none : (path : Path) → ((it : Item) → IsAt path it → None ≡ owned_of it) → (o : Owned) → IsOwnedAt path o → ⊥
owned_none path none o (it, at, e) = let clash : None ≡ Some o = none it at ∙ e in absurd (cc)

-- ---- a writer that is taken down

itself : (w : ℕ) → is_at (nat_cmp w) w ≡ true
itself w = ap is_eq (sym (nat_cmp_is w w Equal refl))

elsewhere : (w q : ℕ) → q ≢ w → is_at (nat_cmp w) q ≡ false
elsewhere w q apart = elim (cases_lt w q) [
  | inl less ↦ ap is_eq (sym (nat_cmp_is w q Less less))
  | inr least ↦ elim (cases_lt q w) [
    | inl more ↦ ap is_eq (sym (nat_cmp_is w q Greater more))
    | inr most ↦ absurd (apart (omega arith))
  ]
]

or_left : (a b : Bool) → a ≡ true → (a || b) ≡ true
or_left true b e = refl
or_left false b e = absurd (false≢true e)

or_right : (a b : Bool) → b ≡ true → (a || b) ≡ true
or_right true b e = refl
or_right false b e = e

either_of : (a b : Bool) → (a || b) ≡ true → (a ≡ true) ⊎ (b ≡ true)
either_of true b e = inl refl
either_of false b e = inr e

-- the map after a value is put into it
abbrev pub IsPut : ℕ → Owner → BTreeMap ℕ Owner → BTreeMap ℕ Owner → Type 0
IsPut w owner old new = (q : ℕ) → get nat_cmp new q ≡ cond (is_at (nat_cmp w) q) (Some owner) (get nat_cmp old q)

put_here : (w : ℕ) (owner : Owner) (old new : BTreeMap ℕ Owner) → IsPut w owner old new → get nat_cmp new w ≡ Some owner
put_here w owner old new is = is w ∙ ap (λ (b : Bool). cond b (Some owner) (get nat_cmp old w)) (itself w)

put_others : (w : ℕ) (owner : Owner) (old new : BTreeMap ℕ Owner) → IsPut w owner old new → (q : ℕ) → q ≢ w → get nat_cmp new q ≡ get nat_cmp old q
put_others w owner old new is q apart = is q ∙ ap (λ (b : Bool). cond b (Some owner) (get nat_cmp old q)) (elsewhere w q apart)

same_host : (found : Option Owner) (o before : Owner) → before ≡ unwrap_or found o → before.host ≡ o.host → IsOfHost found o.host
same_host None o before e same = tt
same_host (Some b) o before e same = ap (λ (x : Owner). x.host) (sym e) ∙ same

twice : (b : Bool) → (b || b) ≡ b
twice true = refl
twice false = refl

left_so : (found : Option Owner) (o before : Owner) → before ≡ unwrap_or found o → (before.has_left || o.has_left) ≡ (left_before found || o.has_left)
left_so None o before e = ap (λ (x : Owner). x.has_left || o.has_left) e ∙ twice o.has_left
left_so (Some b) o before e = ap (λ (x : Owner). x.has_left || o.has_left) e

pub noted : (o : Owned) (old new : BTreeMap ℕ Owner) (before : Owner) (left : Bool) → before ≡ unwrap_or (get nat_cmp old o.writer) o.owner → before.host ≡ o.owner.host → left ≡ (before.has_left || o.owner.has_left)
    → IsPut o.writer (record { host = o.owner.host; has_left = left }) old new → Notes o old new
noted o old new before left e same l is = record {
  same = same_host (get nat_cmp old o.writer) o.owner before e same;
  here = put_here o.writer (record { host = o.owner.host; has_left = left }) old new is
      ∙ ap (λ (b : Bool). Some (record { host = o.owner.host; has_left = b })) (l ∙ left_so (get nat_cmp old o.writer) o.owner before e);
  others = put_others o.writer (record { host = o.owner.host; has_left = left }) old new is;
}

other_host : (room : Name) (o : Owned) (owners : BTreeMap ℕ Owner) (found : Option Owner) (before : Owner) → get nat_cmp owners o.writer ≡ found → before ≡ unwrap_or found o.owner → before.host ≢ o.owner.host
    → IsOfOther room o owners (Broken (TwoHosts room o.writer))
other_host room o owners None before is e apart = absurd (apart (ap (λ (x : Owner). x.host) e))
other_host room o owners (Some b) before is e apart = inr (refl, (b, is, λ same. apart (ap (λ (x : Owner). x.host) e ∙ same)))

pub of_other : (room : Name) (o : Owned) (owners : BTreeMap ℕ Owner) (before : Owner) → before ≡ unwrap_or (get nat_cmp owners o.writer) o.owner → before.host ≢ o.owner.host
    → IsOfOther room o owners (Broken (TwoHosts room o.writer))
of_other room o owners before e apart = other_host room o owners (get nat_cmp owners o.writer) before refl e apart

-- ---- the writers so far

pub owners_none : (paths : List Path) (owners : BTreeMap ℕ Owner) → ((writer : ℕ) → get nat_cmp owners writer ≡ None) → AreOwnersAt (take 0 paths) owners
owners_none paths owners none = record {
  known = λ o has. absurd has.1;
  some = λ writer found e. (let clash : None ≡ Some found = sym (none writer) ∙ e in absurd (cc));
  left = λ writer found e l. (let clash : None ≡ Some found = sym (none writer) ∙ e in absurd (cc));
}

abbrev Known : BTreeMap ℕ Owner → Owned → Type 0
Known owners o = (found : Owner) × (get nat_cmp owners o.writer ≡ Some found) × (found.host ≡ o.owner.host) × (o.owner.has_left ≡ true → found.has_left ≡ true)

module _ (paths : List Path) (i : ℕ) (path : Path) (at : slice_get paths i ≡ Some path) (old new : BTreeMap ℕ Owner) (are : AreOwnersAt (take i paths) old) where
  next : i + 1 ≡ suc i
  next = omega arith

  was_one : (other : Path) → IsOneOf (take (i + 1) paths) other → IsOneOf (take i paths) other ⊎ (path ≡ other)
  was_one other one = one_more paths i path other at (subst (λ (n : ℕ). IsOneOf (take n paths) other) next one)

  was_noted : (p : Owned) → IsNoted (take (i + 1) paths) p → IsNoted (take i paths) p ⊎ IsOwnedAt path p
  was_noted p (q, one, is) = elim (was_one q one) [
    | inl before ↦ inl (q, before, is)
    | inr same ↦ inr (subst (λ (r : Path). IsOwnedAt r p) (sym same) is)
  ]

  still_noted : (p : Owned) → IsNoted (take i paths) p → IsNoted (take (i + 1) paths) p
  still_noted p (q, one, is) = (q, still_one paths i path q at one, is)

  here_noted : (p : Owned) → IsOwnedAt path p → IsNoted (take (i + 1) paths) p
  here_noted p is = (path, here_one paths i path at, is)

  module _ (o : Owned) (is : IsOwnedAt path o) (n : Notes o old new) where
    abbrev after : Owner
    after = record { host = o.owner.host; has_left = left_before (get nat_cmp old o.writer) || o.owner.has_left }

    known_of : (p : Owned) → IsNoted (take i paths) p ⊎ IsOwnedAt path p → (p.writer ≡ o.writer) ⊎ (p.writer ≢ o.writer) → Known new p
    known_of p (inl before) (inl e) =
        let was = are.known p before in
        let there : get nat_cmp old o.writer ≡ Some was.0 = ap (λ (w : ℕ). get nat_cmp old w) (sym e) ∙ was.1 in
        let host : was.0.host ≡ o.owner.host = subst (λ (b : Option Owner). IsOfHost b o.owner.host) there n.same in (
          after,
          ap (λ (w : ℕ). get nat_cmp new w) e ∙ n.here,
          sym host ∙ was.2,
          λ left. ap (λ (b : Option Owner). left_before b || o.owner.has_left) there ∙ or_left was.0.has_left o.owner.has_left (was.3 left),
        )
    known_of p (inl before) (inr apart) = let was = are.known p before in (was.0, n.others p.writer apart ∙ was.1, was.2, was.3)
    known_of p (inr now) (inl e) =
        let same : p ≡ o = one_owned path p o now is in (
          after,
          ap (λ (w : ℕ). get nat_cmp new w) e ∙ n.here,
          ap (λ (x : Owned). x.owner.host) (sym same),
          λ left. or_right (left_before (get nat_cmp old o.writer)) o.owner.has_left (ap (λ (x : Owned). x.owner.has_left) (sym same) ∙ left),
        )
    known_of p (inr now) (inr apart) = absurd (apart (ap (λ (x : Owned). x.writer) (one_owned path p o now is)))

    is_after : (writer : ℕ) (found : Owner) → get nat_cmp new writer ≡ Some found → writer ≡ o.writer → after ≡ found
    is_after writer found e same =
        let one : Some after ≡ Some found = sym n.here ∙ ap (λ (w : ℕ). get nat_cmp new w) (sym same) ∙ e in
        cc

    moved : (writer : ℕ) (found : Owner) (left : Bool) → after ≡ found → writer ≡ o.writer → IsNoted (take (i + 1) paths) (owned o.owner.host o.writer left) → IsNoted (take (i + 1) paths) (owned found.host writer left)
    moved writer found left is_new same has =
        subst (λ (h : ℕ). IsNoted (take (i + 1) paths) (owned h writer left)) (ap (λ (x : Owner). x.host) is_new)
        (subst (λ (w : ℕ). IsNoted (take (i + 1) paths) (owned o.owner.host w left)) (sym same) has)

    some_of : (writer : ℕ) (found : Owner) → get nat_cmp new writer ≡ Some found → (writer ≡ o.writer) ⊎ (writer ≢ o.writer) → (left : Bool) × IsNoted (take (i + 1) paths) (owned found.host writer left)
    some_of writer found e (inl same) = (o.owner.has_left, moved writer found o.owner.has_left (is_after writer found e same) same (here_noted o is))
    some_of writer found e (inr apart) =
        let was = are.some writer found (sym (n.others writer apart) ∙ e) in
        (was.0, still_noted (owned found.host writer was.0) was.1)

    left_earlier : (b : Option Owner) → get nat_cmp old o.writer ≡ b → left_before b ≡ true → IsNoted (take (i + 1) paths) (owned o.owner.host o.writer true)
    left_earlier None e l = absurd (false≢true l)
    left_earlier (Some before) e l =
        let host : before.host ≡ o.owner.host = subst (λ (b : Option Owner). IsOfHost b o.owner.host) e n.same in
        still_noted (owned o.owner.host o.writer true) (subst (λ (h : ℕ). IsNoted (take i paths) (owned h o.writer true)) host (are.left o.writer before e l))

    left_now : o.owner.has_left ≡ true → IsNoted (take (i + 1) paths) (owned o.owner.host o.writer true)
    left_now l = subst (λ (b : Bool). IsNoted (take (i + 1) paths) (owned o.owner.host o.writer b)) l (here_noted o is)

    left_of : (writer : ℕ) (found : Owner) → get nat_cmp new writer ≡ Some found → found.has_left ≡ true → (writer ≡ o.writer) ⊎ (writer ≢ o.writer) → IsNoted (take (i + 1) paths) (owned found.host writer true)
    left_of writer found e l (inl same) =
        let is_new : after ≡ found = is_after writer found e same in
        let either : (left_before (get nat_cmp old o.writer) || o.owner.has_left) ≡ true = ap (λ (x : Owner). x.has_left) is_new ∙ l in
        moved writer found true is_new same (elim (either_of (left_before (get nat_cmp old o.writer)) o.owner.has_left either) [
          | inl earlier ↦ left_earlier (get nat_cmp old o.writer) refl earlier
          | inr now ↦ left_now now
        ])
    left_of writer found e l (inr apart) = still_noted (owned found.host writer true) (are.left writer found (sym (n.others writer apart) ∙ e) l)

    owners_with : AreOwnersAt (take (i + 1) paths) new
    owners_with = record {
      known = λ p has. known_of p (was_noted p has) (cases_eq p.writer o.writer);
      some = λ writer found e. some_of writer found e (cases_eq writer o.writer);
      left = λ writer found e l. left_of writer found e l (cases_eq writer o.writer);
    }

  pub owners_more : NotesAt path old new → AreOwnersAt (take (i + 1) paths) new
  owners_more (inl (o, is, n)) = owners_with o is n
  owners_more (inr (none, same)) = record {
    known = λ p has. elim (was_noted p has) [
      | inl before ↦ (let was = are.known p before in (was.0, same p.writer ∙ was.1, was.2, was.3))
      | inr now ↦ absurd (none p now)
    ];
    some = λ writer found e. (let was = are.some writer found (sym (same writer) ∙ e) in (was.0, still_noted (owned found.host writer was.0) was.1));
    left = λ writer found e l. still_noted (owned found.host writer true) (are.left writer found (sym (same writer) ∙ e) l);
  }

pub owners_all : (paths : List Path) (i : ℕ) (owners : BTreeMap ℕ Owner) → length paths ≤ i → AreOwnersAt (take i paths) owners → AreOwnersAt paths owners
owners_all paths i owners past are = subst (λ (l : List Path). AreOwnersAt l owners) (take_all i paths past) are

front_noted : (paths : List Path) (i : ℕ) (o : Owned) → IsNoted (take i paths) o → IsNoted paths o
front_noted paths i o (q, one, is) = (q, front_one paths i q one, is)

two_hosts_at : (room : Name) (paths : List Path) (i : ℕ) (path : Path) (old : BTreeMap ℕ Owner) (finding : Finding) → slice_get paths i ≡ Some path → AreOwnersAt (take i paths) old → IsOfOtherAt room path old finding → IsTwoHosts room paths finding
two_hosts_at room paths i path old finding at are (inl none) = inl none
two_hosts_at room paths i path old finding at are (inr (o, is, inl none)) = inl none
two_hosts_at room paths i path old finding at are (inr (o, is, inr (e, (before, there, apart)))) =
    let was = are.some o.writer before there in
    inr (o.writer, before.host, o.owner.host, was.0, o.owner.has_left, e, front_noted paths i (owned before.host o.writer was.0) was.1, (path, path_there paths i path at, is), λ same. apart (sym same))

pub two_hosts_all : (room : Name) (paths : List Path) (i : ℕ) (path : Path) (old : BTreeMap ℕ Owner) (result : Result (BTreeMap ℕ Owner) Finding) → slice_get paths i ≡ Some path → AreOwnersAt (take i paths) old → IfErr result (IsOfOtherAt room path old) → IfErr result (IsTwoHosts room paths)
two_hosts_all room paths i path old (Ok owners) at are wrong = tt
two_hosts_all room paths i path old (Err finding) at are wrong = two_hosts_at room paths i path old finding at are wrong

-- ---- in the room

as_item : (room : Room) (path : Path) (it : Item) (bytes : List ℕ) → IsAt path it → file_at room path ≡ Some bytes → HasItem room it bytes
as_item room path it bytes at there = record { is_item = at.is_item; there = ap (file_at room) (sym at.printed) ∙ there }

item_there : (room : Room) (path : Path) (it : Item) (o : Owned) (bytes : List ℕ) → IsAt path it → file_at room path ≡ Some bytes → owned_of it ≡ Some o → HasItemOf room o.owner.host o.writer
item_there room path (item.Index host writer) o bytes at there e =
    let same : owned host writer false ≡ o = cc in
    subst (λ (x : Owned). HasItemOf room x.owner.host x.writer) same (inl (bytes, as_item room path (item.Index host writer) bytes at there))
item_there room path (item.OpenHost host writer) o bytes at there e =
    let same : owned host writer false ≡ o = cc in
    subst (λ (x : Owned). HasItemOf room x.owner.host x.writer) same (inr (inl (bytes, as_item room path (item.OpenHost host writer) bytes at there)))
item_there room path (item.Meta last sum stamp host writer) o bytes at there e =
    let same : owned host writer true ≡ o = cc in
    subst (λ (x : Owned). HasItemOf room x.owner.host x.writer) same
    (inr (inr (record { last = last; bytes = sum; stamp = stamp; content = bytes; has = as_item room path (item.Meta last sum stamp host writer) bytes at there })))
item_there room path item.Access o bytes at there e = absurd (cc)
item_there room path (item.Trunc stamp size) o bytes at there e = absurd (cc)
item_there room path (item.Flat id) o bytes at there e = absurd (cc)
item_there room path (item.TmpFlat id) o bytes at there e = absurd (cc)
item_there room path (item.Log host writer) o bytes at there e = absurd (cc)
item_there room path (item.Packed host writer) o bytes at there e = absurd (cc)
item_there room path (item.TmpPacked host id) o bytes at there e = absurd (cc)

not_left : (o : Owned) (host writer : ℕ) → Some (owned host writer false) ≡ Some o → o.owner.has_left ≡ true → ⊥
not_left o host writer e l =
    let same : owned host writer false ≡ o = cc in
    false≢true (ap (λ (x : Owned). x.owner.has_left) same ∙ l)

meta_there : (room : Room) (path : Path) (it : Item) (o : Owned) (bytes : List ℕ) → IsAt path it → file_at room path ≡ Some bytes → owned_of it ≡ Some o → o.owner.has_left ≡ true → HasMeta room o.owner.host o.writer
meta_there room path (item.Meta last sum stamp host writer) o bytes at there e l =
    let same : owned host writer true ≡ o = cc in
    subst (λ (x : Owned). HasMeta room x.owner.host x.writer) same
    (record { last = last; bytes = sum; stamp = stamp; content = bytes; has = as_item room path (item.Meta last sum stamp host writer) bytes at there })
meta_there room path (item.Index host writer) o bytes at there e l = absurd (not_left o host writer e l)
meta_there room path (item.OpenHost host writer) o bytes at there e l = absurd (not_left o host writer e l)
meta_there room path item.Access o bytes at there e l = absurd (cc)
meta_there room path (item.Trunc stamp size) o bytes at there e l = absurd (cc)
meta_there room path (item.Flat id) o bytes at there e l = absurd (cc)
meta_there room path (item.TmpFlat id) o bytes at there e l = absurd (cc)
meta_there room path (item.Log host writer) o bytes at there e l = absurd (cc)
meta_there room path (item.Packed host writer) o bytes at there e l = absurd (cc)
meta_there room path (item.TmpPacked host id) o bytes at there e l = absurd (cc)

module _ (room : Room) (tree : Tree) (paths : List Path) (shape : HasShape paths tree room) where
  has_noted : (o : Owned) → IsNoted paths o → HasItemOf room o.owner.host o.writer
  has_noted o (path, one, (it, at, e)) = (let file = shape.are path one in item_there room path it o file.0 at file.1 e)

  left_noted : (o : Owned) → IsNoted paths o → o.owner.has_left ≡ true → HasMeta room o.owner.host o.writer
  left_noted o (path, one, (it, at, e)) l = (let file = shape.are path one in meta_there room path it o file.0 at file.1 e l)

  item_noted : (it : Item) (o : Owned) (bytes : List ℕ) → HasItem room it bytes → ((path_of it).folder ≡ [] → ⊥) → owned_of it ≡ Some o → IsNoted paths o
  item_noted it o bytes has below e = (path_of it, shape.all (path_of it) bytes below has.there, (it, record { is_item = has.is_item; printed = refl }, e))

  meta_noted : (host writer : ℕ) → HasMeta room host writer → IsNoted paths (owned host writer true)
  meta_noted host writer meta = item_noted (item.Meta meta.last meta.bytes meta.stamp host writer) (owned host writer true) meta.content meta.has (λ top. absurd (cc)) refl

  noted_of : (host writer : ℕ) → HasItemOf room host writer → (left : Bool) × IsNoted paths (owned host writer left)
  noted_of host writer (inl (bytes, has)) = (false, item_noted (item.Index host writer) (owned host writer false) bytes has (λ top. absurd (cc)) refl)
  noted_of host writer (inr (inl (bytes, has))) = (false, item_noted (item.OpenHost host writer) (owned host writer false) bytes has (λ top. absurd (cc)) refl)
  noted_of host writer (inr (inr meta)) = (true, meta_noted host writer meta)

  pub owners_in_room : (owners : BTreeMap ℕ Owner) → AreOwnersAt paths owners → AreOwnersOf owners room
  owners_in_room owners are = record {
    some = λ writer found e. (let was = are.some writer found e in has_noted (owned found.host writer was.0) was.1);
    known = λ host writer has. (
        let n = noted_of host writer has in
        let k = are.known (owned host writer n.0) n.1 in
        (k.0, k.1, k.2));
    left = λ writer found e l. left_noted (owned found.host writer true) (are.left writer found e l) refl;
    gone = λ host writer meta. (
        let k = are.known (owned host writer true) (meta_noted host writer meta) in
        (k.0, k.1, k.2, k.3 refl));
  }

-- all items of a writer are of one host
pub one_host : (owners : BTreeMap ℕ Owner) (room : Room) (host other writer : ℕ) → AreOwnersOf owners room → HasItemOf room host writer → HasItemOf room other writer → other ≡ host
one_host owners room host other writer are has has_other =
    let a = are.known host writer has in
    let b = are.known other writer has_other in
    let same : Some b.0 ≡ Some a.0 = sym b.1 ∙ a.1 in
    let one : b.0 ≡ a.0 = cc in
    sym b.2 ∙ ap (λ (x : Owner). x.host) one ∙ a.2

owners_right : (place : Place) (paths : List Path) (tree : Tree) (at : IsPlaced place tree) (finding : Finding) → HasShape paths tree at.room → IsTwoHosts place.name paths finding → IsRight tree finding
owners_right place paths tree at finding shape (inl none) = subst (IsRight tree) (sym none) tt
owners_right place paths tree at finding shape (inr (writer, host, other, a, b, is, one, two, apart)) =
    subst (IsRight tree) (sym is) (place.number, at.room, at.there, at.named, (host, other, has_noted at.room tree paths shape (owned host writer a) one, has_noted at.room tree paths shape (owned other writer b) two, apart))

no_fault : (room : Name) (paths : List Path) (finding : Finding) → IsTwoHosts room paths finding → finding ≡ Fault → ⊥
no_fault room paths finding (inl none) e = cc
no_fault room paths finding (inr (writer, host, other, a, b, is, one, two, apart)) e = cc

pub owners_fail : {A : Type 0} (place : Place) (paths : List Path) (old new : Stored) (result : Result A Finding) → OfPlace (HasShape paths) place old → IfErr result (IsTwoHosts place.name paths) → IfErr result (Fails (IsPlaced place) old new)
owners_fail place paths old new (Ok value) shape wrong = tt
owners_fail place paths old new (Err finding) shape wrong = record {
  cause = λ e. absurd (no_fault place.name paths finding wrong e);
  right = λ tree seen at. owners_right place paths tree at finding (shape tree seen at) wrong;
}

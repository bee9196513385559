-- One more name of a listing.
use Rattle.std.proofs.Common.{◌≡◌, ◌≢◌, ℕ, ◌+◌, ◌<◌, ◌≤◌, max, List, [], ◌∷◌, ◌++◌, length, take, get_or, Option, Some, None, refl, ap, sym, ◌∙◌, subst, arith, inl, inr, ◌⊎◌}
use Rattle.std.specs.List.{Any}
use Rattle.std.specs.Ordering.{nat_cmp, ordering_reverse}
use Rattle.std.specs.Cmp.Lexicographic.{slice_cmp}
use Rattle.std.specs.declared.cmp.Ordering.{Ordering}
use Rattle.std.specs.declared.cmp.Ordering.TheVariants.{Less, Equal, Greater}
use Rattle.std.proofs.lemmas.Bool.{cases_lt}
use Rattle.std.proofs.lemmas.Cmp.{nat_list_cmp_total}
use Rattle.std.proofs.lemmas.List.{length-append, get_or_append_left, take_more}
use Rattle.std.proofs.lemmas.List.Elements.{All-nil, All-push, All-weaker}
use Rattle.std.proofs.lemmas.List.Quantifiers.{Any-push}
use Rattle.std.proofs.lemmas.Option.{none-some}
use Rattle.plfs_types.specs.declared.limits.TheConstants.{MAX_STAMP}
use Rattle.container_layout.specs.declared.items.Item.{Item}
use Rattle.container_layout.specs.declared.items.Item.TheVariants.{Trunc}
use Rattle.container_layout.specs.Paths.{IsAt, IsIn}
use Rattle.mount_model.specs.Paths.{Name, truncs}
use Rattle.mount_model.specs.Listed.{HasNone, IsGreatest, IsLeastOther, HasStamp}
use Rattle.mount_table.specs.declared.scanning.Listing.{Listing}
use Rattle.mount_table.specs.Scanning.{numbered, IsScanned, IsLesser}

-- ---- byte order

not_itself : (r : Ordering) → r ≡ ordering_reverse r → r ≡ Greater → ⊥
not_itself Less is e = absurd (cc)
not_itself Equal is e = absurd (cc)
not_itself Greater is e = absurd (cc)

alike : (name : Name) → slice_cmp nat_cmp name name ≢ Greater
alike name = not_itself (slice_cmp nat_cmp name name) (nat_list_cmp_total.antisymm name name)

less_below : (old name x : Name) → slice_cmp nat_cmp old name ≡ Greater → (r : Ordering) → slice_cmp nat_cmp old x ≡ r → (r ≡ Greater → ⊥) → slice_cmp nat_cmp name x ≡ Less
less_below old name x above Less is fine =
    nat_list_cmp_total.trans name old x (nat_list_cmp_total.antisymm name old ∙ ap ordering_reverse above) is
less_below old name x above Equal is fine =
    nat_list_cmp_total.antisymm name x ∙ ap ordering_reverse (sym (nat_list_cmp_total.congr old x name is) ∙ above)
less_below old name x above Greater is fine = absurd (fine refl)

-- a name below the least one so far is below all that this one is not above
below : (old name x : Name) → slice_cmp nat_cmp old name ≡ Greater → slice_cmp nat_cmp old x ≢ Greater → slice_cmp nat_cmp name x ≢ Greater
below old name x above fine e =
    let less = less_below old name x above (slice_cmp nat_cmp old x) refl fine in
    absurd (cc)

-- ---- one more name

still_there : {X : Type 0} (P : X → Type 0) (xs ys : List X) → Any P xs → Any P (xs ++ ys)
still_there {X} P xs ys any =
    (any.0, any.1, omega (arith, any.2, length-append xs ys), get_or_append_left xs ys any.1 any.0 any.2 ∙ any.3, any.4)

pub scanned_nothing : (listing : Listing) → IsScanned listing [] 0 None
scanned_nothing listing = (record { numbers = All-nil (λ name. (number : ℕ) × numbered listing name number × (number ≤ 0)); reached = inl (refl, refl) }, omega arith)

reach : (listing : Listing) (names : List Name) (greatest number : ℕ) (name : Name) → IsGreatest (numbered listing) names greatest → numbered listing name number → (number < greatest) ⊎ (greatest ≤ number) → Any (λ n. numbered listing n (max number greatest)) (names ++ name ∷ [])
reach listing names greatest number name known has (inl lt) =
    let same : greatest ≡ max number greatest = omega arith in
    subst (λ (k : ℕ). Any (λ n. numbered listing n k) (names ++ name ∷ [])) same
    (still_there (λ n. numbered listing n greatest) names (name ∷ [])
    (elim known.reached [ inl none ↦ absurd (omega (arith, none.1)) | inr any ↦ any ]))
reach listing names greatest number name known has (inr le) =
    let same : number ≡ max number greatest = omega arith in
    subst (λ (k : ℕ). Any (λ n. numbered listing n k) (names ++ name ∷ [])) same (Any-push (λ n. numbered listing n number) names name has)

grown : (listing : Listing) (names : List Name) (greatest number : ℕ) (name : Name) → IsGreatest (numbered listing) names greatest → numbered listing name number → IsGreatest (numbered listing) (names ++ name ∷ []) (max number greatest)
grown listing names greatest number name known has = record {
  numbers = All-push (λ n. (k : ℕ) × numbered listing n k × (k ≤ max number greatest)) names name
      (All-weaker (λ n. (k : ℕ) × numbered listing n k × (k ≤ greatest)) (λ n. (k : ℕ) × numbered listing n k × (k ≤ max number greatest)) (λ n h. (h.0, h.1, omega (arith, h.2))) names known.numbers)
      (number, has, omega arith);
  reached = inr (reach listing names greatest number name known has (cases_lt number greatest));
}

-- the least other name stays where the next one has a number
passed_by : (listing : Listing) (names : List Name) (number : ℕ) (name other : Name) → IsLeastOther (numbered listing) names other → numbered listing name number → IsLeastOther (numbered listing) (names ++ name ∷ []) other
passed_by listing names number name other known has = record {
  there = still_there (λ n. n ≡ other) names (name ∷ []) known.there;
  foreign = known.foreign;
  least = All-push (λ n. HasNone (numbered listing) n → slice_cmp nat_cmp other n ≢ Greater) names name known.least (λ none. absurd (none number has));
}

-- it is the first other name
first_other : (listing : Listing) (names : List Name) (greatest : ℕ) (name : Name) → IsGreatest (numbered listing) names greatest → HasNone (numbered listing) name → IsLeastOther (numbered listing) (names ++ name ∷ []) name
first_other listing names greatest name known none = record {
  there = Any-push (λ n. n ≡ name) names name refl;
  foreign = none;
  least = All-push (λ n. HasNone (numbered listing) n → slice_cmp nat_cmp name n ≢ Greater) names name
      (All-weaker (λ n. (k : ℕ) × numbered listing n k × (k ≤ greatest)) (λ n. HasNone (numbered listing) n → slice_cmp nat_cmp name n ≢ Greater) (λ n h isnt. absurd (isnt h.0 h.1)) names known.numbers)
      (λ _. alike name);
}

-- the least other name stays where it is not above the next one
stays : (listing : Listing) (names : List Name) (name other : Name) → IsLeastOther (numbered listing) names other → slice_cmp nat_cmp other name ≢ Greater → IsLeastOther (numbered listing) (names ++ name ∷ []) other
stays listing names name other known fine = record {
  there = still_there (λ n. n ≡ other) names (name ∷ []) known.there;
  foreign = known.foreign;
  least = All-push (λ n. HasNone (numbered listing) n → slice_cmp nat_cmp other n ≢ Greater) names name known.least (λ _. fine);
}

replaced : (listing : Listing) (names : List Name) (name other : Name) → IsLeastOther (numbered listing) names other → HasNone (numbered listing) name → slice_cmp nat_cmp other name ≡ Greater → IsLeastOther (numbered listing) (names ++ name ∷ []) name
replaced listing names name other known none above = record {
  there = Any-push (λ n. n ≡ name) names name refl;
  foreign = none;
  least = All-push (λ n. HasNone (numbered listing) n → slice_cmp nat_cmp name n ≢ Greater) names name
      (All-weaker (λ n. HasNone (numbered listing) n → slice_cmp nat_cmp other n ≢ Greater) (λ n. HasNone (numbered listing) n → slice_cmp nat_cmp name n ≢ Greater) (λ n h isnt. below other name n above (h isnt)) names known.least)
      (λ _. alike name);
}

pub scanned_number : (listing : Listing) (names : List Name) (greatest : ℕ) (other : Option Name) (number : ℕ) (name : Name) → IsScanned listing names greatest other → numbered listing name number → number ≤ MAX_STAMP → IsScanned listing (names ++ name ∷ []) (max number greatest) other
scanned_number listing names greatest None number name known has fits = (grown listing names greatest number name known.0 has, omega (arith, known.1, fits))
scanned_number listing names greatest (Some other) number name known has fits = passed_by listing names number name other known has

pub scanned_other : (listing : Listing) (names : List Name) (greatest : ℕ) (other : Option Name) (name lesser : Name) → IsScanned listing names greatest other → HasNone (numbered listing) name → IsLesser other name lesser → IsScanned listing (names ++ name ∷ []) greatest (Some lesser)
scanned_other listing names greatest None name lesser known none is =
    subst (IsLeastOther (numbered listing) (names ++ name ∷ [])) (sym is) (first_other listing names greatest name known.0 none)
scanned_other listing names greatest (Some old) name lesser known none (inl kept) =
    subst (IsLeastOther (numbered listing) (names ++ name ∷ [])) (sym kept.0) (stays listing names name old known kept.1)
scanned_other listing names greatest (Some old) name lesser known none (inr new) =
    subst (IsLeastOther (numbered listing) (names ++ name ∷ [])) (sym new.0) (replaced listing names name old known none new.1)

-- ---- the same, as a loop goes on

pub next_number : (listing : Listing) (names : List Name) (i : ℕ) (name : Name) (greatest number : ℕ) (other : Option Name) (new_greatest : ℕ) (new_other : Option Name) → IsScanned listing (take i names) greatest other → i < length names → name ≡ get_or names i name
    → numbered listing name number → number ≤ MAX_STAMP → new_greatest ≡ max number greatest → new_other ≡ other → IsScanned listing (take (i + 1) names) new_greatest new_other
next_number listing names i name greatest number other new_greatest new_other known lt is has fits greatest_is other_is =
    let more : take (i + 1) names ≡ take i names ++ name ∷ [] = take_more names i name lt ∙ ap (λ (n : Name). take i names ++ n ∷ []) (sym is) in
    rw (more, greatest_is, other_is) (scanned_number listing (take i names) greatest other number name known has fits)

pub next_other : (listing : Listing) (names : List Name) (i : ℕ) (name : Name) (greatest : ℕ) (other : Option Name) (lesser : Name) (new_greatest : ℕ) (new_other : Option Name) → IsScanned listing (take i names) greatest other → i < length names → name ≡ get_or names i name
    → HasNone (numbered listing) name → IsLesser other name lesser → new_greatest ≡ greatest → new_other ≡ Some lesser → IsScanned listing (take (i + 1) names) new_greatest new_other
next_other listing names i name greatest other lesser new_greatest new_other known lt is none least greatest_is other_is =
    let more : take (i + 1) names ≡ take i names ++ name ∷ [] = take_more names i name lt ∙ ap (λ (n : Name). take i names ++ n ∷ []) (sym is) in
    rw (more, greatest_is, other_is) (scanned_other listing (take i names) greatest other name lesser known none least)

-- ---- the names of a container's truncates

pub none_read : (folder name : Name) → folder ≡ truncs → ((item : Item) → IsAt (record { folder = folder; file = name }) item → None ≡ Some item) → HasNone HasStamp name
none_read folder name is only =
    λ stamp h. none-some (Trunc stamp h.0) (only (Trunc stamp h.0) (subst (λ (f : Name). IsIn f name (Trunc stamp h.0)) (sym is) h.1))

-- Members of lists, by std's `Any` and by cases on the list.
use Rattle.std.proofs.Common.{List, [], ◌∷◌, ◌++◌, refl, inl, inr, subst, ◌≡◌}
use Rattle.std.specs.List.{All, Any}
use Rattle.std.proofs.lemmas.List.Elements.{recursion_from_All}
use Rattle.plain_file.proofs.Facts.{Among, Among-at, All-Among, Contains-from_Among}
use Rattle.plfs_types.specs.Places.{IsAmong}

pub any_found : {X : Type 0} (P : X → Type 0) (xs : List X) → Any P xs → (x : X) × Among x xs × P x
any_found P xs (k, x, l, e, p) = (x, Among-at xs k x l e, p)

pub found_any : {X : Type 0} (P : X → Type 0) (xs : List X) (x : X) → Among x xs → P x → Any P xs
found_any P xs x a p = let c = Contains-from_Among xs x a in (c.0, x, c.1, c.2, p)

pub is_among : {X : Type 0} (xs : List X) (x : X) → Among x xs → IsAmong x xs
is_among xs x a = found_any (λ y. y ≡ x) xs x a refl

pub among : {X : Type 0} (xs : List X) (x : X) → IsAmong x xs → Among x xs
among xs x i = let f = any_found (λ y. y ≡ x) xs i in subst (λ y. Among y xs) f.2 f.1

pub all_at : {X : Type 0} (P : X → Type 0) (xs : List X) (x : X) → All P xs → Among x xs → P x
all_at P xs x all a = All-Among P xs x (recursion_from_All P xs all) a

pub among_left : {X : Type 0} (x : X) (xs ys : List X) → Among x xs → Among x (xs ++ ys)
among_left x [] ys a = absurd a
among_left x (y ∷ xs) ys (inl e) = inl e
among_left x (y ∷ xs) ys (inr a) = inr (among_left x xs ys a)

pub among_right : {X : Type 0} (x : X) (xs ys : List X) → Among x ys → Among x (xs ++ ys)
among_right x [] ys a = a
among_right x (y ∷ xs) ys a = inr (among_right x xs ys a)

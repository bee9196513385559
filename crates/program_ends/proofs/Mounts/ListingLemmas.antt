-- What holds of all listed names holds of each that was to be listed.
use Rattle.std.proofs.Common.{ℕ, zero, suc, ◌≡◌, ◌<◌, Bool, true, false, if◌then◌else◌, List, [], ◌∷◌, ◌++◌, length, map, filter, fold, get_or, refl, sym, ap, subst, ◌∙◌, arith}
use Rattle.std.specs.BTreeSet.{insert_key}
use Rattle.std.specs.Cmp.Lexicographic.{slice_cmp, texts_ties, same_text}
use Rattle.std.specs.List.{AllByRecursion}
use Rattle.std.specs.Ordering.{nat_cmp, is_eq}
use Rattle.std.specs.declared.cmp.Ordering.{Ordering}
use Rattle.std.specs.declared.cmp.Ordering.TheVariants.{Less, Equal, Greater}
use Rattle.std.specs.Ordering.{match_ordering}
use Rattle.store_api.specs.declared.tree.File.{File}
use Rattle.store_api.specs.declared.tree.Room.{Room}
use Rattle.store_api.specs.Room.{is_in, folders_in, listing}
use Rattle.store_api.specs.Step.{Name}

-- names of one order are one
one_name : (a b : Name) → slice_cmp nat_cmp a b ≡ Equal → a ≡ b
one_name a b tied = same_text a b (sym (texts_ties a b ∙ ap is_eq tied))

inserted : (P : Name → Type 0) (name first : Name) (names rest : List Name) (order : Ordering) → slice_cmp nat_cmp name first ≡ order
    → AllByRecursion P (match_ordering order (name ∷ first ∷ names) (first ∷ names) (first ∷ rest)) → (AllByRecursion P rest → P name × AllByRecursion P names) → P name × AllByRecursion P (first ∷ names)
inserted P name first names rest Less is (one, (two, all)) more = (one, (two, all))
inserted P name first names rest Equal is (one, all) more = (subst P (sym (one_name name first is)) one, (one, all))
inserted P name first names rest Greater is (one, all) more = let (here, behind) = more all in (here, (one, behind))

of_inserted : (P : Name → Type 0) (names : List Name) (name : Name) → AllByRecursion P (insert_key (slice_cmp nat_cmp) names name) → P name × AllByRecursion P names
of_inserted P [] name (one, all) = (one, tt)
of_inserted P (first ∷ names) name all = inserted P name first names (insert_key (slice_cmp nat_cmp) names name) _ refl all (of_inserted P names name)

of_folded : (P : Name → Type 0) (names sorted : List Name) → AllByRecursion P (fold (insert_key (slice_cmp nat_cmp)) sorted names) → AllByRecursion P sorted × AllByRecursion P names
of_folded P [] sorted all = (all, tt)
of_folded P (name ∷ names) sorted all =
    let (before, behind) = of_folded P names (insert_key (slice_cmp nat_cmp) sorted name) all in
    let (here, rest) = of_inserted P sorted name before in
    (rest, (here, behind))

of_behind : (P : Name → Type 0) (xs ys : List Name) → AllByRecursion P (xs ++ ys) → AllByRecursion P ys
of_behind P [] ys all = all
of_behind P (x ∷ xs) ys (one, all) = of_behind P xs ys all

abbrev name_of : File → Name
name_of file = file.path.file

kept_first : (P : Name → Type 0) (passes : Bool) (file : File) (rest : List File) → passes ≡ true → AllByRecursion P (map name_of (if passes then file ∷ rest else rest)) → P (name_of file)
kept_first P true file rest is (one, all) = one
kept_first P false file rest is all = cc

kept_rest : (P : Name → Type 0) (passes : Bool) (file : File) (rest : List File) → AllByRecursion P (map name_of (if passes then file ∷ rest else rest)) → AllByRecursion P (map name_of rest)
kept_rest P true file rest (one, all) = all
kept_rest P false file rest all = all

of_kept : (P : Name → Type 0) (p : File → Bool) (files : List File) (i : ℕ) (d : File) → i < length files → p (get_or files i d) ≡ true
    → AllByRecursion P (map name_of (filter p files)) → P (name_of (get_or files i d))
of_kept P p [] i d inside passes all = absurd (omega arith)
of_kept P p (file ∷ files) zero d inside passes all = kept_first P (p file) file (filter p files) passes all
of_kept P p (file ∷ files) (suc i) d inside passes all = of_kept P p files i d (omega arith) passes (kept_rest P (p file) file (filter p files) all)

-- what holds of all names in a folder holds of each file's there
pub of_listed : (P : Name → Type 0) (room : Room) (folder : Name) (i : ℕ) (d : File) → AllByRecursion P (listing room folder) → i < length room.files
    → is_in folder (get_or room.files i d) ≡ true → P (name_of (get_or room.files i d))
of_listed P room folder i d all inside passes =
    let (none, each) = of_folded P (folders_in room folder ++ map name_of (filter (is_in folder) room.files)) [] all in
    of_kept P (is_in folder) room.files i d inside passes (of_behind P (folders_in room folder) (map name_of (filter (is_in folder) room.files)) each)

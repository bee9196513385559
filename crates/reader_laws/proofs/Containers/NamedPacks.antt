-- Which of the listed droppings have a packed index: those whose packed index the scan named.
use Rattle.std.proofs.Common.{◌≡◌, ℕ, ◌<◌, nat_eq, true, false, List, [], ◌∷◌, map, Some, None, refl, ap, sym, ◌∙◌, ◌⊎◌, inl, inr, subst, arith}
use Rattle.std.specs.Prelude.{if◌then◌else◌, is_some}
use Rattle.std.specs.List.{All, AllByRecursion}
use Rattle.std.proofs.lemmas.Bool.{cases_Bool, cond-true, cond-false}
use Rattle.std.proofs.lemmas.Bool.Decides.{nat_tests}
use Rattle.std.proofs.lemmas.List.Elements.{All-from_recursion}
use Rattle.plfs_types.specs.declared.names.Path.{Path}
use Rattle.plain_file.proofs.Facts.{Among, All-Among}
use Rattle.container_layout.specs.declared.items.Item.TheVariants as item
use Rattle.container_layout.specs.Items.{IsItem}
use Rattle.container_layout.specs.Paths.{hostdir_of, path_of}
use Rattle.store_api.specs.declared.step.Answer.TheVariants.{Names}
use Rattle.mount_model.specs.FlowListed.{file_in}
use Rattle.mount_model.specs.declared.call.Call.TheVariants.{Look}
use Rattle.mount_model.specs.declared.call.Look.TheVariants.{List as ListFolder, Top}
use Rattle.mount_model.specs.declared.reply.Reply.TheVariants.{Looked}
use Rattle.mount_model.specs.Paths.{Name}
use Rattle.index_reader.specs.declared.scanning.Scan.{Scan}
use Rattle.index_reader.specs.Opening.{is_of_host, has_owner, lone_pack, dropping_of}
use Rattle.index_reader.specs.Scanning.{owner, owner_of, has_writer, nothing_found}
use Rattle.reader_laws.specs.Moments.{Dropping, IsNamed}
use Rattle.reader_laws.specs.Seen.{Asked}
use Rattle.reader_laws.specs.GatheringListing.{IsListed, NamesPack}
use Rattle.plfs_types.specs.Places.{IsAmong}
use Rattle.reader_laws.proofs.Gathered.Facts.{alike, among, any_found, found_any, is_among}
use Rattle.reader_laws.specs.Listing.{IsPackedAs}
use Rattle.reader_laws.proofs.OpenReaders.Cuts.{all_by, map_among}
use Rattle.reader_laws.proofs.Containers.Scanning.{Owner, dropping, Rise, GoesOnWith, PacksGoOn, NameOwner}

-- ---- packed indices that a scan named

-- so many calls list a folder in which the packed index is named
abbrev ListsPack : ℕ → Owner → Asked → Type 0
ListsPack room o asked = (names : List Name) × IsListed room (ListFolder (hostdir_of o.host)) names asked × IsAmong (path_of (item.Packed o.host o.writer)).file names

-- the scan named the packed index of this owner
abbrev pub NamedIn : ℕ → List Asked → Owner → Type 0
NamedIn room asked o = IsItem (item.Packed o.host o.writer) × NamesPack asked (dropping room o)

pub none_named_in : (room : ℕ) (o : Owner) → NamedIn room [] o → ⊥
none_named_in room o n = (any_found (ListsPack room o) [] n.1).1

pub named_now : (room k : ℕ) (names : List Name) (a : Asked) (rest : List Asked) (o : Owner) → a.ask.call ≡ Look room (ListFolder (hostdir_of k)) → a.reply ≡ Looked (Names names) → NameOwner (hostdir_of k) names o → NamedIn room (a ∷ rest) o
named_now room k names a rest o asks reply (name, within, at) =
    let folder : hostdir_of k ≡ hostdir_of o.host = ap (λ (p : Path). p.folder) at.printed in
    let file : name ≡ (path_of (item.Packed o.host o.writer)).file = ap (λ (p : Path). p.file) at.printed in
    (at.is_item, found_any (ListsPack room o) (a ∷ rest) a (inl refl) (names, record { call = asks ∙ ap (λ f. Look room (ListFolder f)) folder; reply = reply }, is_among names (path_of (item.Packed o.host o.writer)).file (subst (λ n. Among n names) file within)))

pub named_later : (room : ℕ) (a : Asked) (rest : List Asked) (o : Owner) → NamedIn room rest o → NamedIn room (a ∷ rest) o
named_later room a rest o (is, n) = let f = any_found (ListsPack room o) rest n in (is, found_any (ListsPack room o) (a ∷ rest) f.0 (inr f.1) f.2)

same_folder : (room : ℕ) (f g : Name) → Look room (ListFolder f) ≡ Look room (ListFolder g) → f ≡ g
same_folder room f g e = cc

same_names : (a b : List Name) → Looked (Names a) ≡ Looked (Names b) → a ≡ b
same_names a b e = cc

pub named_then : (room k : ℕ) (names : List Name) (a : Asked) (rest : List Asked) (o : Owner) → a.ask.call ≡ Look room (ListFolder (hostdir_of k)) → a.reply ≡ Looked (Names names) → NamedIn room (a ∷ rest) o → NameOwner (hostdir_of k) names o ⊎ NamedIn room rest o
named_then room k names a rest o asks reply (is, n) = either (any_found (ListsPack room o) (a ∷ rest) n)
  where
    either : (x : Asked) × Among x (a ∷ rest) × ListsPack room o x → NameOwner (hostdir_of k) names o ⊎ NamedIn room rest o
    either (x, inl same, (told, listed, within)) =
        let folder : hostdir_of k ≡ hostdir_of o.host = same_folder room (hostdir_of k) (hostdir_of o.host) (sym asks ∙ ap (λ (y : Asked). y.ask.call) (sym same) ∙ listed.call) in
        let these : told ≡ names = same_names told names (sym listed.reply ∙ ap (λ (y : Asked). y.reply) same ∙ reply) in
        let file : Name = (path_of (item.Packed o.host o.writer)).file in
        inl (file, subst (λ ns. Among file ns) these (among told file within), record { is_item = is; printed = ap (λ f. file_in f file) folder })
    either (x, inr a_, lists) = inr (is, found_any (ListsPack room o) rest x a_ lists)

-- the listing of the top names none
pub not_named : (room : ℕ) (a : Asked) (rest : List Asked) (o : Owner) → a.ask.call ≡ Look room Top → NamedIn room (a ∷ rest) o → NamedIn room rest o
not_named room a rest o asks (is, n) = either (any_found (ListsPack room o) (a ∷ rest) n)
  where
    either : (x : Asked) × Among x (a ∷ rest) × ListsPack room o x → NamedIn room rest o
    either (x, inl same, (told, listed, within)) = let clash : Look room Top ≡ Look room (ListFolder (hostdir_of o.host)) = sym asks ∙ ap (λ (y : Asked). y.ask.call) (sym same) ∙ listed.call in absurd (cc)
    either (x, inr a_, lists) = (is, found_any (ListsPack room o) rest x a_ lists)

pub all_members : {X : Type 0} (P : X → Type 0) (xs : List X) → ((x : X) → Among x xs → P x) → All P xs
all_members P xs f = All-from_recursion P xs (all_by P xs f)

-- ---- which droppings are packed

unlike : (a b : ℕ) → a < b → nat_eq a b ≡ false
unlike a b l = grind (arith, nat_tests, l)

itself : (a : ℕ) → nat_eq a a ≡ true
itself a = grind (arith, nat_tests)

-- an owner is the first of its writer
own : (owners : List Owner) (o : Owner) → Rise owners → Among o owners → owner_of o.writer owners ≡ Some o
own [] o rise a = absurd a
own (x ∷ owners) o rise (inl e) = ap (λ (y : Owner). owner_of y.writer (x ∷ owners)) e ∙ cond-true (nat_eq x.writer x.writer) (Some x) (owner_of x.writer owners) (itself x.writer) ∙ ap (λ y. Some y) (sym e)
own (x ∷ owners) o rise (inr a) =
    cond-false (nat_eq x.writer o.writer) (Some x) (owner_of o.writer owners) (unlike x.writer o.writer (All-Among (λ (p : Owner). x.writer < p.writer) owners o rise.0 a)) ∙ own owners o rise.1 a

has_some : (w : ℕ) (owners : List Owner) → has_writer w owners ≡ true → (p : Owner) × Among p owners × (p.writer ≡ w)
has_some w [] e = absurd (cc)
has_some w (p ∷ owners) e = elim (cases_Bool (nat_eq p.writer w)) [
  | inl here ↦ (p, inl refl, alike p.writer w here)
  | inr other ↦ (let t = has_some w owners (sym (ap is_some (cond-false (nat_eq p.writer w) (Some p) (owner_of w owners) other)) ∙ e) in (t.0, inr t.1, t.2))
]

some_has : (owners : List Owner) (o : Owner) → Among o owners → has_writer o.writer owners ≡ true
some_has [] o a = absurd a
some_has (p ∷ owners) o (inl e) = ap (λ (y : Owner). has_writer y.writer (p ∷ owners)) e ∙ ap is_some (cond-true (nat_eq p.writer p.writer) (Some p) (owner_of p.writer owners) (itself p.writer))
some_has (p ∷ owners) o (inr a) = elim (nat_eq p.writer o.writer) as (λ t. is_some (if t then Some p else owner_of o.writer owners) ≡ true) [ true ↦ refl | false ↦ some_has owners o a ]

-- no packed index stands alone
owned : (indices packs : List Owner) (p : Owner) → lone_pack indices packs ≡ None → Among p packs → has_owner p indices ≡ true
owned indices [] p none a = absurd a
owned indices (x ∷ packs) p none a = elim (cases_Bool (has_owner x indices)) [
  | inl has ↦ either a (λ b. owned indices packs p (sym (cond-true (has_owner x indices) (lone_pack indices packs) (Some x) has) ∙ none) b) has
  | inr lacks ↦ (let clash : Some x ≡ None = sym (cond-false (has_owner x indices) (lone_pack indices packs) (Some x) lacks) ∙ none in absurd (cc))
]
  where
    either : Among p (x ∷ packs) → (Among p packs → has_owner p indices ≡ true) → has_owner x indices ≡ true → has_owner p indices ≡ true
    either (inl same) later has = ap (λ o. has_owner o indices) same ∙ has
    either (inr b) later has = later b

module _ (room : ℕ) (asked : List Asked) (last : Scan) (rise : Rise last.indices) (none_lone : lone_pack last.indices last.packs ≡ None) (packs : PacksGoOn [] last.packs (NamedIn room asked)) where
  -- one that is there was named
  was_named : (o : Owner) → Among o [] ⊎ NamedIn room asked o → NamedIn room asked o
  was_named o (inl a) = absurd a
  was_named o (inr n) = n

  of_owner : (o : Owner) → Among o last.indices → IsNamed (dropping room o) → IsPackedAs room asked (dropping_of last.packs o)
  of_owner o a named = record {
    of_named = λ has.
        let p = has_some o.writer last.packs has in
        let here : has_owner p.0 last.indices ≡ true = owned last.indices last.packs p.0 none_lone p.1 in
        let first : owner_of p.0.writer last.indices ≡ Some o = ap (λ w. owner_of w last.indices) p.2 ∙ own last.indices o rise a in
        let host : o.host ≡ p.0.host = alike o.host p.0.host (sym (ap (is_of_host p.0.host) first) ∙ here) in
        let same : p.0 ≡ o = (λ i. owner (sym host i) (p.2 i)) in
        (subst (NamedIn room asked) same (was_named p.0 (packs.from p.0 p.1))).1;
    of_unnamed = λ none n.
        let has : has_writer o.writer last.packs ≡ true = some_has last.packs o (packs.found o (record { in_range = tt; widths = (named.widths.0, named.widths.1) }, n)) in
        let clash : true ≡ false = sym has ∙ none in
        cc;
  }

  pub were_packed : (found : List Dropping) → GoesOnWith room nothing_found last found → AllByRecursion IsNamed found → All (IsPackedAs room asked) (map (dropping_of last.packs) last.indices)
  were_packed found goes named = all_members (IsPackedAs room asked) (map (dropping_of last.packs) last.indices) (λ d a.
      let o = map_among (dropping_of last.packs) last.indices d a in
      subst (IsPackedAs room asked) (sym o.2) (of_owner o.0 o.1 (All-Among IsNamed found (dropping room o.0) named (only o.0 (All-Among (λ (p : Owner). Among p [] ⊎ Among (dropping room p) found) last.indices o.0 goes.from o.1)))))
    where
      only : (o : Owner) → Among o [] ⊎ Among (dropping room o) found → Among (dropping room o) found
      only o (inl a) = absurd a
      only o (inr a) = a

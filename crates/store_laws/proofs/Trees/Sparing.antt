-- A step that spares the first bytes of a file that are kept leaves them so.
use Rattle.std.proofs.Common.{◌≡◌, ◌≤◌, ℕ, zero, suc, List, [], ◌∷◌, length, take, slice_get, Option, Some, None, refl, ap, sym, ◌∙◌, ◌⊎◌, inl, inr, subst, arith}
use Rattle.std.specs.Prelude.{Result}
use Rattle.std.proofs.lemmas.Bool.{cases_eq}
use Rattle.std.proofs.lemmas.List.{length-take-le, take_all}
use Rattle.plfs_types.specs.Bytes.{overwritten}
use Rattle.plfs_types.specs.declared.names.Path.{Path}
use Rattle.store_api.specs.declared.tree.Room.{Room}
use Rattle.store_api.specs.declared.tree.Tree.{Tree}
use Rattle.store_api.specs.declared.step.Answer.{Answer}
use Rattle.store_api.specs.declared.store.Trouble.{Trouble}
use Rattle.store_api.specs.Step.{Step, Name, create, remove, replace, write_at, cut, sync}
use Rattle.store_laws.specs.Files.{file_at, kept_at, SameButFile}
use Rattle.store_laws.specs.Prefix.{IsPrefix}
use Rattle.store_laws.specs.Tells.{Tells}
use Rattle.store_laws.specs.Changes.{with_room, Created, Wrote, WasCut, WasSynced}
use Rattle.store_laws.specs.Naming.{NamesFile, NamesKept, KeepsRooms}
use Rattle.store_laws.specs.Losing.{Repeats, Spares, KeepsFront, StaysKept}
use Rattle.store_laws.proofs.Names.Naming.{path_cases}
use Rattle.store_laws.proofs.Trees.Common.{kept_before, kept_front}
use Rattle.store_laws.proofs.Steps.Overwriting.{prefix_take, length-overwritten, take-overwritten}
use Rattle.store_laws.proofs.Trees.Keeping.{changed_room, other_room}
use Rattle.store_laws.proofs.Trees.Telling.{create_told, write_told, cut_told, sync_told}
use Rattle.store_laws.proofs.Trees.Touching.{keeps_rooms}

one_room : (a b : Room) (o : Option Room) → o ≡ Some a → o ≡ Some b → a ≡ b
one_room a b o p q = cc

one_file : (a b : List ℕ) (o : Option (List ℕ)) → o ≡ Some a → o ≡ Some b → a ≡ b
one_file a b o p q = cc

take_less : (n m : ℕ) (xs : List ℕ) → n ≤ m → take n (take m xs) ≡ take n xs
take_less zero zero [] l = refl
take_less zero zero (x ∷ xs) l = refl
take_less zero (suc m) [] l = refl
take_less zero (suc m) (x ∷ xs) l = refl
take_less (suc n) zero xs l = absurd (omega arith)
take_less (suc n) (suc m) [] l = refl
take_less (suc n) (suc m) (x ∷ xs) l = ap (λ ys. x ∷ ys) (take_less n m xs (omega arith))

stays_same : (tree after : Tree) (n : ℕ) (path : Path) (front : ℕ) → after ≡ tree → StaysKept tree n path front after
stays_same tree after n path front same was =
    (record { room = was.room; bytes = was.bytes; has_room = ap (λ (t : Tree). slice_get t.rooms n) same ∙ was.has_room; there = was.there; long = was.long; kept = was.kept }, refl)

named_kept : (step : Step) (n : ℕ) (path : Path) → NamesFile step n path → NamesKept step n path
named_kept (sync m folder file) n path named = absurd named
named_kept step n path named = named

-- a step that doesn't name the file
unnamed : (step : Step) (tree after : Tree) (n : ℕ) (path : Path) (front : ℕ) → KeepsRooms step tree after → (NamesKept step n path → ⊥) → StaysKept tree n path front after
unnamed step tree after n path front keeps other was =
    let k = keeps n was.room was.has_room in
    (record { room = k.0; bytes = was.bytes; has_room = k.1; there = k.2.files path (λ named. other (named_kept step n path named)) ∙ was.there; long = was.long; kept = omega (arith, was.kept, k.2.kepts path other) }, refl)

-- what becomes of a front of a file
abbrev FrontStays : Room → Room → Path → ℕ → Type 0
FrontStays room new path front = (bytes : List ℕ) → file_at room path ≡ Some bytes → front ≤ length bytes → front ≤ kept_at room path
    → (now : List ℕ) × (file_at new path ≡ Some now) × (front ≤ length now) × (front ≤ kept_at new path) × (take front now ≡ take front bytes)

-- where one file of one room has changed
file_stays : (tree : Tree) (m : ℕ) (p : Path) (room new : Room) (after : Tree) (n : ℕ) (path : Path) (front : ℕ) → slice_get tree.rooms m ≡ Some room → after ≡ with_room tree m new → SameButFile p room new
    → (n ≡ m → path ≡ p → FrontStays room new p front) → StaysKept tree n path front after
file_stays tree m p room new after n path front there gives others own was = elim (cases_eq n m) as (λ _. (now : KeepsFront after n path front) × (take front now.bytes ≡ take front was.bytes)) [
  | inr apart ↦ (record { room = was.room; bytes = was.bytes; has_room = ap (λ (t : Tree). slice_get t.rooms n) gives ∙ other_room tree m n new apart ∙ was.has_room; there = was.there; long = was.long; kept = was.kept }, refl)
  | inl here ↦
      let same : was.room ≡ room = one_room was.room room (slice_get tree.rooms m) (ap (λ k. slice_get tree.rooms k) (sym here) ∙ was.has_room) there in
      let at : slice_get after.rooms n ≡ Some new = ap (λ k. slice_get after.rooms k) here ∙ ap (λ (t : Tree). slice_get t.rooms m) gives ∙ changed_room tree m room new there in
      let file : file_at room path ≡ Some was.bytes = ap (λ r. file_at r path) (sym same) ∙ was.there in
      let kept : front ≤ kept_at room path = subst (λ r. front ≤ kept_at r path) same was.kept in
      elim (path_cases path p) as (λ _. (now : KeepsFront after n path front) × (take front now.bytes ≡ take front was.bytes)) [
        | inl one ↦
            let o = own here one was.bytes (ap (λ q. file_at room q) (sym one) ∙ file) was.long (subst (λ q. front ≤ kept_at room q) one kept) in
            (record { room = new; bytes = o.0; has_room = at; there = ap (λ q. file_at new q) one ∙ o.1; long = o.2; kept = subst (λ q. front ≤ kept_at new q) (sym one) o.3 }, o.4)
        | inr two ↦ (record { room = new; bytes = was.bytes; has_room = at; there = others.files path two ∙ file; long = was.long; kept = omega (arith, kept, others.kepts path two) }, refl)
      ]
]

created_stays : (tree : Tree) (m : ℕ) (p : Path) (after : Tree) (n : ℕ) (path : Path) (front : ℕ) → Created tree m p after → StaysKept tree n path front after
created_stays tree m p after n path front c =
    file_stays tree m p c.room c.new after n path front c.has_room c.gives c.others (λ here one bytes there long kept. absurd (let clash : None ≡ Some bytes = sym c.none ∙ there in cc))

wrote_stays : (tree : Tree) (m : ℕ) (p : Path) (at : ℕ) (bytes : List ℕ) (after : Tree) (n : ℕ) (path : Path) (front : ℕ) → (n ≡ m → path ≡ p → (front ≤ at) ⊎ ((room : Room) (old : List ℕ) → slice_get tree.rooms m ≡ Some room → file_at room p ≡ Some old → take front (overwritten old at bytes) ≡ take front old)) → Wrote tree m p at bytes after → StaysKept tree n path front after
wrote_stays tree m p at bytes after n path front spares c =
    file_stays tree m p c.room c.new after n path front c.has_room c.gives c.others (λ here one old there long kept.
    let is : old ≡ c.old = one_file old c.old (file_at c.room p) there c.there in
    let longer : front ≤ length (overwritten c.old at bytes) = omega (arith, long, ap length is, length-overwritten c.old at bytes c.within) in
    elim (spares here one) as (λ _. (now : List ℕ) × (file_at c.new p ≡ Some now) × (front ≤ length now) × (front ≤ kept_at c.new p) × (take front now ≡ take front old)) [
      | inl before ↦ (
        overwritten c.old at bytes,
        c.now,
        longer,
        omega (arith, kept, before, c.kept, kept_before (kept_at c.room p) c.old at bytes c.within),
        sym (take_less front at (overwritten c.old at bytes) before) ∙ ap (λ l. take front l) (take-overwritten c.old at bytes c.within) ∙ take_less front at c.old before ∙ ap (λ l. take front l) (sym is),
      )
      | inr repeats ↦
          let same : take front (overwritten c.old at bytes) ≡ take front c.old = repeats c.room c.old c.has_room c.there in
          let begins : IsPrefix (take front c.old) (overwritten c.old at bytes) = subst (λ l. IsPrefix l (overwritten c.old at bytes)) same (prefix_take front (overwritten c.old at bytes)) in
          let len : length (take front c.old) ≡ front = length-take-le front c.old (omega (arith, long, ap length is)) in (
            overwritten c.old at bytes,
            c.now,
            longer,
            omega (arith, len, c.kept, kept_front (kept_at c.room p) (take front c.old) c.old (overwritten c.old at bytes) (omega (arith, len, kept)) (prefix_take front c.old) begins),
            same ∙ ap (λ l. take front l) (sym is),
          )
    ])

cut_stays : (tree : Tree) (m : ℕ) (p : Path) (len : ℕ) (after : Tree) (n : ℕ) (path : Path) (front : ℕ) → (n ≡ m → path ≡ p → front ≤ len) → WasCut tree m p len after → StaysKept tree n path front after
cut_stays tree m p len after n path front spares c =
    file_stays tree m p c.room c.new after n path front c.has_room c.gives c.others (λ here one old there long kept.
    let before : front ≤ len = spares here one in
    let is : old ≡ c.old = one_file old c.old (file_at c.room p) there c.there in
    (take len c.old, c.now, omega (arith, before, length-take-le len c.old c.within), omega (arith, kept, before, c.kept), take_less front len c.old before ∙ ap (λ l. take front l) (sym is)))

synced_stays : (tree : Tree) (m : ℕ) (p : Path) (after : Tree) (n : ℕ) (path : Path) (front : ℕ) → WasSynced tree m p after → StaysKept tree n path front after
synced_stays tree m p after n path front c =
    file_stays tree m p c.room c.new after n path front c.has_room c.gives c.others (λ here one old there long kept.
    let is : old ≡ c.old = one_file old c.old (file_at c.room p) there c.there in
    (c.old, c.now, omega (arith, long, ap length is), omega (arith, long, ap length is, c.kept), ap (λ l. take front l) (sym is)))

both : (folder file : Name) (path : Path) → path ≡ record { folder = folder; file = file } → (path.folder ≡ folder) × (path.file ≡ file)
both folder file path e = (ap (λ (p : Path). p.folder) e, ap (λ (p : Path). p.file) e)

-- a write of some of the bytes, and of all
some_of : (tree : Tree) (n m : ℕ) (path p : Path) (at : ℕ) (bytes : List ℕ) (front k : ℕ) → n ≡ m → path ≡ p → (front ≤ at) ⊎ Repeats tree n path at bytes front
    → (front ≤ at) ⊎ ((room : Room) (old : List ℕ) → slice_get tree.rooms m ≡ Some room → file_at room p ≡ Some old → take front (overwritten old at (take k bytes)) ≡ take front old)
some_of tree n m path p at bytes front k here one (inl before) = inl before
some_of tree n m path p at bytes front k here one (inr repeats) = inr (λ room old there file. repeats room old (ap (λ i. slice_get tree.rooms i) here ∙ there) (ap (λ q. file_at room q) one ∙ file) k)

all_of : (tree : Tree) (n m : ℕ) (path p : Path) (at : ℕ) (bytes : List ℕ) (front : ℕ) → n ≡ m → path ≡ p → (front ≤ at) ⊎ Repeats tree n path at bytes front
    → (front ≤ at) ⊎ ((room : Room) (old : List ℕ) → slice_get tree.rooms m ≡ Some room → file_at room p ≡ Some old → take front (overwritten old at bytes) ≡ take front old)
all_of tree n m path p at bytes front here one s =
    subst (λ b. (front ≤ at) ⊎ ((room : Room) (old : List ℕ) → slice_get tree.rooms m ≡ Some room → file_at room p ≡ Some old → take front (overwritten old at b) ≡ take front old)) (take_all (length bytes) bytes (omega arith)) (some_of tree n m path p at bytes front (length bytes) here one s)

-- whatever is told of a step that spares them, the first bytes that were kept stay
pub kept_told : (step : Step) (tree : Tree) (told : Result Answer Trouble) (after : Tree) (n : ℕ) (path : Path) (front : ℕ) → Spares tree step n path front → Tells step tree told after → StaysKept tree n path front after
kept_told (create m folder file) tree told after n path front spares t =
    let p : Path = record { folder = folder; file = file } in
    elim (create_told m p tree told after t).either as (λ _. StaysKept tree n path front after) [
      | inl c ↦ created_stays tree m p after n path front c
      | inr same ↦ stays_same tree after n path front same
    ]
kept_told (remove m folder file) tree told after n path front spares t = unnamed (remove m folder file) tree after n path front (keeps_rooms (remove m folder file) tree told after t) spares
kept_told (replace m folder from to) tree told after n path front spares t = unnamed (replace m folder from to) tree after n path front (keeps_rooms (replace m folder from to) tree told after t) spares
kept_told (write_at m folder file at bytes) tree told after n path front spares t =
    let p : Path = record { folder = folder; file = file } in
    elim (write_told m p at bytes tree told after t) as (λ _. StaysKept tree n path front after) [
      | inl w ↦ wrote_stays tree m p at bytes after n path front (λ here one. all_of tree n m path p at bytes front here one (spares (here, both folder file path one))) w.1
      | inr (u, inl same) ↦ stays_same tree after n path front same
      | inr (u, inr part) ↦ wrote_stays tree m p at (take part.0 bytes) after n path front (λ here one. some_of tree n m path p at bytes front part.0 here one (spares (here, both folder file path one))) part.2
    ]
kept_told (cut m folder file len) tree told after n path front spares t =
    let p : Path = record { folder = folder; file = file } in
    elim (cut_told m p len tree told after t).either as (λ _. StaysKept tree n path front after) [
      | inl c ↦ cut_stays tree m p len after n path front (λ here one. spares (here, both folder file path one)) c
      | inr same ↦ stays_same tree after n path front same
    ]
kept_told (sync m folder file) tree told after n path front spares t =
    let p : Path = record { folder = folder; file = file } in
    elim (sync_told m p tree told after t).either as (λ _. StaysKept tree n path front after) [
      | inl c ↦ synced_stays tree m p after n path front c
      | inr same ↦ stays_same tree after n path front same
    ]
kept_told step tree told after n path front spares t = unnamed step tree after n path front (keeps_rooms step tree told after t) (λ named. named)

-- Who holds a room goes on to hold it alone, and shut, through the calls that begin and end a hold.
use Rattle.std.proofs.Common.{◌≡◌, ℕ, List, [], ◌∷◌, ◌++◌, true, false, Option, Some, refl, ap, sym, ◌∙◌, ◌⊎◌, inl, inr, subst, Ok, Err}
use Rattle.std.specs.Prelude.{slice_get, slice_set, map}
use Rattle.std.proofs.lemmas.Bool.{cases_eq}
use Rattle.store_api.specs.declared.tree.Room.{Room}
use Rattle.store_api.specs.declared.tree.Tree.{Tree}
use Rattle.store_api.specs.declared.step.Answer.TheVariants.{Made, Old, NoFolder, NotEmpty}
use Rattle.store_api.specs.declared.store.Trouble.TheVariants as trouble
use Rattle.store_api.specs.Room.{has_folder}
use Rattle.store_api.specs.Step.{Step, make_folder, remove_folder}
use Rattle.store_laws.specs.Tells.{Tells, made}
use Rattle.store_laws.specs.Changes.{FolderRemoved}
use Rattle.store_laws.proofs.Facts.{acts_told, keeps_rooms, make_folder_told, other_room, remove_folder_told, slice_get-slice_set}
use Rattle.mount_model.specs.declared.row.Holder.{Holder}
use Rattle.mount_model.specs.declared.reply.Reply.{Reply}
use Rattle.container_layout.specs.Paths.{openhosts}
use Rattle.mount_model.specs.Table.{holder_at, flattening_at, without_holder}
use Rattle.mount_model.specs.State.{State, Table}
use Rattle.mount_model.specs.Making.{Told, MakesAct}
use Rattle.mount_model.specs.Regular.{Ascend, IsRegular}
use Rattle.mount_model.specs.Entering.{draw_check}
use Rattle.mount_model.specs.Holding.{HoldsContainer, HoldsRoom, HoldOutcome, holding, hold_step, Releases, release_step, release_outcome, let_go}
use Rattle.mount_model.specs.Recovering.{MendsHold, mend_hold_check, mend_hold_step, mend_hold_outcome}
use Rattle.mount_model.proofs.Facts.{held_before-push, held_before-without_holder, holder_at_all, may_mend_hold, on_holder, unless_refused}
use Rattle.mount_sound.specs.Held.{AreHeld, IsHeldIn}
use Rattle.mount_sound.proofs.Calls.Aside.{GoesAside, HasSoundFlats, IsShutIn, SparesFlats, StaysShut, being_made_stays, flats_on, goes_aside, held_on, held_stays}
use Rattle.mount_sound.proofs.Kept.EntriesLater.{KeepsEach}
use Rattle.mount_sound.proofs.Calls.Making.{one_tree}

-- ---- the folder of who has a container open

-- where it is removed, no room is opened
closed_shut : (tree : Tree) (room : ℕ) (told : Told) (after : Tree) → Tells (remove_folder room openhosts) tree told after → StaysShut tree after
closed_shut tree room told after t n i = elim (remove_folder_told room openhosts tree told after t).either as (λ _. IsShutIn after n) [
  | inr same ↦ record { room = i.room; there = ap (λ (x : Tree). slice_get x.rooms n) same ∙ i.there; shut = i.shut }
  | inl c ↦ elim (cases_eq n room) as (λ _. IsShutIn after n) [
    | inl at ↦ record { room = c.new; there = ap (λ (x : Tree). slice_get x.rooms n) c.gives ∙ ap (λ k. slice_get (slice_set tree.rooms room c.new) k) at ∙ slice_get-slice_set tree.rooms room c.room c.new c.has_room; shut = c.gone }
    | inr other ↦ record { room = i.room; there = ap (λ (x : Tree). slice_get x.rooms n) c.gives ∙ other_room tree room n c.new other ∙ i.there; shut = i.shut }
  ]
]

-- where it is made in one room, no other is opened
opened_shut : (tree : Tree) (room : ℕ) (told : Told) (after : Tree) → Tells (make_folder room openhosts) tree told after → (n : ℕ) → (n ≡ room → ⊥) → IsShutIn tree n → IsShutIn after n
opened_shut tree room told after t n other i =
    let k = keeps_rooms (make_folder room openhosts) tree told after t n i.room i.there in
    record { room = k.0; there = k.1; shut = k.2.folders openhosts (λ named. other named.0) ∙ i.shut }

-- the room in which it was removed is shut
closed_room : (tree : Tree) (room : ℕ) (after : Tree) → FolderRemoved tree room openhosts after → IsShutIn after room
closed_room tree room after c = record { room = c.new; there = ap (λ (x : Tree). slice_get x.rooms room) c.gives ∙ slice_get-slice_set tree.rooms room c.room c.new c.has_room; shut = c.gone }

one_room : (a b : Room) (o : Option Room) → o ≡ Some a → o ≡ Some b → a ≡ b
one_room a b o p q = cc

-- who holds the room in which the folder was there is none
none_holds : (tree : Tree) (room : ℕ) (after : Tree) (h : Holder) → FolderRemoved tree room openhosts after → IsHeldIn tree h → h.room ≡ room → ⊥
none_holds tree room after h c i same =
    let is : i.room ≡ c.room = one_room i.room c.room (slice_get tree.rooms room) (ap (λ n. slice_get tree.rooms n) (sym same) ∙ i.there) c.has_room in
    let open_still : has_folder i.room openhosts ≡ true = ap (λ (r : Room). has_folder r openhosts) is ∙ c.there in
    let closed : has_folder i.room openhosts ≡ false = i.closed in
    cc

-- ---- a tree after a call

spares_closing : (room : ℕ) → SparesFlats (remove_folder room openhosts)
spares_closing room n path named at = named

spares_opening : (room : ℕ) → SparesFlats (make_folder room openhosts)
spares_opening room n path named at = named

by_step : (step : Step) (tree : Tree) (told : Told) (after : Tree) → SparesFlats step → Tells step tree told after → GoesAside tree after
by_step step tree told after spares t = goes_aside tree after (inr (record { step = step; told = told; holds = spares; tells = t }))

unchanged : (old new : State) (tree after : Tree) → old.store.tree ≡ Some tree → new.store.tree ≡ Some after → new ≡ old → HasSoundFlats old.table tree → HasSoundFlats new.table after
unchanged old new tree after told now same s =
    let trees : tree ≡ after = one_tree tree after new.store.tree (ap (λ (x : State). x.store.tree) same ∙ told) now in
    subst (HasSoundFlats new.table) trees (subst (λ (x : State). HasSoundFlats x.table tree) (sym same) s)

-- flattened indices stay, where none began to be made
flats_so : (tree after : Tree) → GoesAside tree after → KeepsEach tree after → (old new : Table) → new.flattenings ≡ old.flattenings → HasSoundFlats old tree → AreHeld new.holders after → HasSoundFlats new after
flats_so tree after goes keeps old new same s held = record {
  held = held;
  flats = flats_on tree after goes keeps s.flats;
  flattenings = being_made_stays tree after goes keeps old.flattenings new.flattenings (λ id f e. ap (λ fs. flattening_at id fs) (sym same) ∙ e) s.flattenings;
}

-- ---- a room is held

held_pushed : (tree after : Tree) (holders : List Holder) (h : Holder) → FolderRemoved tree h.room openhosts after → StaysShut tree after → AreHeld holders tree → AreHeld (holders ++ h ∷ []) after
held_pushed tree after holders h c shut s = record {
  each = λ number k e. elim (held_before-push holders h number k e) as (λ _. IsHeldIn after k) [
    | inl old ↦ held_on tree after k (shut k.room) (s.each number k old)
    | inr (is, same) ↦ subst (IsHeldIn after) (sym same) (let x = closed_room tree h.room after c in record { room = x.room; there = x.there; closed = x.shut })
  ];
  alone = λ one other k m e f same. elim (held_before-push holders h one k e) as (λ _. one ≡ other) [
    | inl old ↦ elim (held_before-push holders h other m f) as (λ _. one ≡ other) [
      | inl older ↦ s.alone one other k m old older same
      | inr (is, new) ↦ absurd (none_holds tree h.room after k c (s.each one k old) (same ∙ ap (λ (x : Holder). x.room) new))
    ]
    | inr (is, new) ↦ elim (held_before-push holders h other m f) as (λ _. one ≡ other) [
      | inl older ↦ absurd (none_holds tree h.room after m c (s.each other m older) (sym same ∙ ap (λ (x : Holder). x.room) new))
      | inr (also, newer) ↦ is ∙ sym also
    ]
  ];
}

-- what the table becomes
hold_cases : (h : Holder) (table : Table) (told : Told) (reply : Reply) (after : Table) → HoldOutcome h table told reply after → ((told ≡ made) × (after ≡ record table { holders = table.holders ++ h ∷ [] })) ⊎ (after ≡ table)
hold_cases h table (Ok Made) reply after o = inl (refl, o.1)
hold_cases h table (Ok NoFolder) reply after o = inr o.1
hold_cases h table (Ok (NotEmpty least)) reply after o = inr o.1
hold_cases h table told reply after o = inr o.1

hold_table : (tree after : Tree) (h : Holder) (table : Table) (told : Told) (reply : Reply) (new : Table) → HoldOutcome h table told reply new → Tells (hold_step h.room) tree told after → KeepsEach tree after → HasSoundFlats table tree → HasSoundFlats new after
hold_table tree after h table told reply new o t keeps s =
    let goes = by_step (hold_step h.room) tree told after (spares_closing h.room) t in
    let shut = closed_shut tree h.room told after t in
    elim (hold_cases h table told reply new o) as (λ _. HasSoundFlats new after) [
      | inl (done, is) ↦ subst (λ (x : Table). HasSoundFlats x after) (sym is)
          (flats_so tree after goes keeps table (record table { holders = table.holders ++ h ∷ [] }) refl s
          (held_pushed tree after table.holders h ((remove_folder_told h.room openhosts tree told after t).done done) shut s.held))
      | inr same ↦ subst (λ (x : Table). HasSoundFlats x after) (sym same)
          (flats_so tree after goes keeps table table refl s (held_stays tree after shut table.holders table.holders (λ n k e. e) s.held))
    ]

pub hold_keeps_held : (old : State) (caller room : ℕ) (reply : Reply) (new : State) (tree after : Tree) → old.store.tree ≡ Some tree → new.store.tree ≡ Some after → HoldsContainer caller room old reply new → KeepsEach tree after → HasSoundFlats old.table tree → HasSoundFlats new.table after
hold_keeps_held old caller room reply new tree after told now f keeps s =
    unless_refused (draw_check old room) old reply new (HoldsRoom caller room old reply new) (HasSoundFlats new.table after) f (λ same. unchanged old new tree after told now same s)
    (λ none h.
    let t = acts_told (hold_step room) old.store new.store tree h.told told h.made in
    let same : t.0 ≡ after = one_tree t.0 after new.store.tree t.1 now in
    hold_table tree after (holding old caller room) old.table h.told reply new.table h.outcome (subst (Tells (hold_step room) tree h.told) same t.2) keeps s)

-- ---- it is let go

held_without : (tree after : Tree) (holders : List Holder) (h : Holder) → Ascend (map (λ (x : Holder). x.number) holders) → holder_at h.number holders ≡ Some h → ((n : ℕ) → (n ≡ h.room → ⊥) → IsShutIn tree n → IsShutIn after n)
    → AreHeld holders tree → AreHeld (without_holder h.number holders) after
held_without tree after holders h up found shut s = record {
  each = λ number k e.
      let was = held_before-without_holder h.number holders number k up e in
      held_on tree after k (shut k.room (λ same. was.0 (s.alone number h.number k h was.1 found same))) (s.each number k was.1);
  alone = λ one other k m e f same. s.alone one other k m (held_before-without_holder h.number holders one k up e).1 (held_before-without_holder h.number holders other m up f).1 same;
}

-- the hold is at its end, or the act changed nothing
release_cases : (h : Holder) (table : Table) (told : Told) → ((release_outcome h table told).table ≡ let_go h.number table) ⊎ (((release_outcome h table told).table ≡ table) × ((tree after : Tree) → Tells (release_step h) tree told after → after ≡ tree))
release_cases h table (Ok Made) = inl refl
release_cases h table (Ok (Old room)) = inl refl
release_cases h table (Err trouble.Fault) = inl refl
release_cases h table (Err trouble.NoMemory) = inr (refl, λ tree after t. t)
release_cases h table (Ok answer) = inr (refl, λ tree after t. ((make_folder_told h.room openhosts tree (Ok answer) after t).stays answer refl (λ e. cc)).0)

release_table : (tree after : Tree) (h : Holder) (table : Table) (told : Told) → Ascend (map (λ (x : Holder). x.number) table.holders) → holder_at h.number table.holders ≡ Some h → Tells (release_step h) tree told after → KeepsEach tree after → HasSoundFlats table tree → HasSoundFlats (release_outcome h table told).table after
release_table tree after h table told up found t keeps s = elim (release_cases h table told) as (λ _. HasSoundFlats (release_outcome h table told).table after) [
  | inl gone ↦ subst (λ (x : Table). HasSoundFlats x after) (sym gone)
      (flats_so tree after (by_step (release_step h) tree told after (spares_opening h.room) t) keeps table (let_go h.number table) refl s
      (held_without tree after table.holders h up found (opened_shut tree h.room told after t) s.held))
  | inr (same, stays) ↦ subst (λ (x : Table). HasSoundFlats x after) (sym same) (subst (HasSoundFlats table) (sym (stays tree after t)) s)
]

pub release_keeps_held : (old : State) (caller holder : ℕ) (reply : Reply) (new : State) (tree after : Tree) → old.store.tree ≡ Some tree → new.store.tree ≡ Some after → IsRegular old → Releases caller holder old reply new → KeepsEach tree after → HasSoundFlats old.table tree → HasSoundFlats new.table after
release_keeps_held old caller holder reply new tree after told now r f keeps s =
    on_holder caller holder old reply new (λ h. MakesAct (release_step h) (release_outcome h old.table) old reply new) (HasSoundFlats new.table after) f (λ same. unchanged old new tree after told now same s)
    (λ h is m.
    let t = acts_told (release_step h) old.store new.store tree m.told told m.made in
    let same : t.0 ≡ after = one_tree t.0 after new.store.tree t.1 now in
    let found : holder_at h.number old.table.holders ≡ Some h = ap (λ n. holder_at n old.table.holders) is.is ∙ is.found in
    subst (λ (x : State). HasSoundFlats x.table after) (sym m.after)
    (release_table tree after h old.table m.told r.holders.ascending found (subst (Tells (release_step h) tree m.told) same t.2) keeps s))

-- ---- a hold that broke off

mend_hold_same : (table : Table) (told : Told) → (mend_hold_outcome table told).table ≡ table
mend_hold_same table (Ok Made) = refl
mend_hold_same table (Ok (Old room)) = refl
mend_hold_same table told = refl

pub mend_hold_keeps_held : (old : State) (room : ℕ) (reply : Reply) (new : State) (tree after : Tree) → old.store.tree ≡ Some tree → new.store.tree ≡ Some after → MendsHold room old reply new → KeepsEach tree after → HasSoundFlats old.table tree → HasSoundFlats new.table after
mend_hold_keeps_held old room reply new tree after told now f keeps s =
    unless_refused (mend_hold_check old room) old reply new (MakesAct (mend_hold_step room) (mend_hold_outcome old.table) old reply new) (HasSoundFlats new.table after) f (λ same. unchanged old new tree after told now same s)
    (λ none m.
    let t = acts_told (mend_hold_step room) old.store new.store tree m.told told m.made in
    let same : t.0 ≡ after = one_tree t.0 after new.store.tree t.1 now in
    let tells = subst (Tells (mend_hold_step room) tree m.told) same t.2 in
    let others = (may_mend_hold old room none).1 in
    subst (λ (x : State). HasSoundFlats x.table after) (sym m.after)
    (subst (λ (x : Table). HasSoundFlats x after) (sym (mend_hold_same old.table m.told))
    (flats_so tree after (by_step (mend_hold_step room) tree m.told after (spares_opening room) tells) keeps old.table old.table refl s (record {
      each = λ number k e. held_on tree after k (opened_shut tree room m.told after tells k.room (holder_at_all (λ (x : Holder). x.room ≡ room → ⊥) number old.table.holders k others e)) (s.held.each number k e);
      alone = s.held.alone;
    }))))

-- What is left of an act of which only the first bytes were made is what its own fault may leave.
use Rattle.std.proofs.Common.{◌≡◌, ℕ, zero, suc, ◌+◌, List, [], ◌∷◌, length, take, true, false, nat_le, nat_eq, Option, Some, None, refl, sym, ap, ◌∙◌, ◌⊎◌, inl, inr, subst, arith, Ok, Err, if◌then◌else◌}
use Rattle.std.specs.Prelude.{slice_get}
use Rattle.plfs_types.specs.Counts.{next_count}
use Rattle.store_api.specs.declared.tree.File.{File}
use Rattle.store_api.specs.declared.tree.Room.{Room}
use Rattle.store_api.specs.declared.tree.Tree.{Tree}
use Rattle.store_api.specs.declared.step.Answer.{Answer}
use Rattle.store_api.specs.declared.step.Answer.TheVariants.{Made, Beyond, NoFolder}
use Rattle.store_api.specs.declared.store.Trouble.TheVariants.{Fault, NoMemory}
use Rattle.store_api.specs.Step.{Step, Name, write_at}
use Rattle.store_api.specs.Kept.{written}
use Rattle.store_api.specs.Room.{has_folder, place_of, at_place, or_absent, becomes, stays, with_file, bytes_written}
use Rattle.store_api.specs.Effect.{effect, tree_after, or_no_room, room_after}
use Rattle.store_api.specs.Leaves.{MayLeave, with_first, not_made, whole, in_part}
use Rattle.store_api.specs.Acts.{Stored, Goes, Acts}
use Rattle.mount_model.specs.Making.{Told}
use Rattle.mount_model.specs.Stopping.{part_of}

-- ---- a write of other bytes is made at the same places

module _ (folder name : Name) (at : ℕ) (bytes part : List ℕ) where
  at_file : (room : Room) (place : ℕ) (found : Option File)
      → ((or_absent room found (λ file. if nat_le at (length file.bytes) then becomes (with_file room place (written file at bytes)) else stays room Beyond)).answer ≡ Made)
      ⊎ (or_absent room found (λ file. if nat_le at (length file.bytes) then becomes (with_file room place (written file at part)) else stays room Beyond)
      ≡ or_absent room found (λ file. if nat_le at (length file.bytes) then becomes (with_file room place (written file at bytes)) else stays room Beyond))
  at_file room place None = inr refl
  at_file room place (Some file) = elim (nat_le at (length file.bytes)) as (λ b.
      ((if b then becomes (with_file room place (written file at bytes)) else stays room Beyond).answer ≡ Made)
      ⊎ ((if b then becomes (with_file room place (written file at part)) else stays room Beyond) ≡ (if b then becomes (with_file room place (written file at bytes)) else stays room Beyond))) [
        | true ↦ inl refl
        | false ↦ inr refl
      ]

  at_its_place : (room : Room) (found : Option ℕ)
      → ((at_place room found (λ place file. if nat_le at (length file.bytes) then becomes (with_file room place (written file at bytes)) else stays room Beyond)).answer ≡ Made)
      ⊎ (at_place room found (λ place file. if nat_le at (length file.bytes) then becomes (with_file room place (written file at part)) else stays room Beyond)
      ≡ at_place room found (λ place file. if nat_le at (length file.bytes) then becomes (with_file room place (written file at bytes)) else stays room Beyond))
  at_its_place room None = inr refl
  at_its_place room (Some place) = at_file room place (slice_get room.files place)

  in_room : (room : Room) → ((bytes_written room folder name at bytes).answer ≡ Made) ⊎ (bytes_written room folder name at part ≡ bytes_written room folder name at bytes)
  in_room room =
      let rest = at_its_place room (place_of room folder name) in
      elim (has_folder room folder) as (λ b.
      ((if b then at_place room (place_of room folder name) (λ place file. if nat_le at (length file.bytes) then becomes (with_file room place (written file at bytes)) else stays room Beyond) else stays room NoFolder).answer ≡ Made)
      ⊎ ((if b then at_place room (place_of room folder name) (λ place file. if nat_le at (length file.bytes) then becomes (with_file room place (written file at part)) else stays room Beyond) else stays room NoFolder)
      ≡ (if b then at_place room (place_of room folder name) (λ place file. if nat_le at (length file.bytes) then becomes (with_file room place (written file at bytes)) else stays room Beyond) else stays room NoFolder))) [
        | true ↦ rest
        | false ↦ inr refl
      ]

  of_room : (tree : Tree) (n : ℕ) (found : Option Room)
      → ((or_no_room tree n (λ r. bytes_written r folder name at bytes) found).answer ≡ Made)
      ⊎ ((or_no_room tree n (λ r. bytes_written r folder name at part) found).tree ≡ (or_no_room tree n (λ r. bytes_written r folder name at bytes) found).tree)
  of_room tree n None = inr refl
  of_room tree n (Some room) = elim (in_room room) as (λ _.
      ((or_no_room tree n (λ r. bytes_written r folder name at bytes) (Some room)).answer ≡ Made)
      ⊎ ((or_no_room tree n (λ r. bytes_written r folder name at part) (Some room)).tree ≡ (or_no_room tree n (λ r. bytes_written r folder name at bytes) (Some room)).tree)) [
        | inl made ↦ inl made
        | inr same ↦ inr (ap (λ o. (room_after tree n o).tree) same)
      ]

  -- it is made, or changes what any other bytes do
  of_tree : (tree : Tree) (n : ℕ) → ((effect tree (write_at n folder name at bytes)).answer ≡ Made) ⊎ (tree_after tree (write_at n folder name at part) ≡ tree_after tree (write_at n folder name at bytes))
  of_tree tree n = of_room tree n (slice_get tree.rooms n)

-- ---- a part of a step

-- the first of the first are the first so many
take_twice : {A : Type 0} (j k : ℕ) (xs : List A) → (n : ℕ) × (take j (take k xs) ≡ take n xs)
take_twice zero k xs = (0, refl)
take_twice (suc j) zero xs = (0, refl)
take_twice (suc j) (suc k) [] = (0, refl)
take_twice (suc j) (suc k) (x ∷ xs) = let t = take_twice j k xs in (suc t.0, ap (λ l. x ∷ l) t.1)

-- what the step makes with its first bytes
first_left : (tree : Tree) (k : ℕ) (step : Step) (after : Tree) → after ≡ tree_after tree (with_first k step) → MayLeave tree step after
first_left tree k (write_at n folder name at bytes) after is = elim (of_tree folder name at bytes (take k bytes) tree n) as (λ _. MayLeave tree (write_at n folder name at bytes) after) [
  | inl made ↦ in_part k made is
  | inr same ↦ whole (is ∙ same)
]
first_left tree k step after is = whole is

parts_left : (tree : Tree) (k j : ℕ) (step : Step) (after : Tree) → after ≡ tree_after tree (with_first j (with_first k step)) → MayLeave tree step after
parts_left tree k j (write_at n folder name at bytes) after is =
    let t = take_twice j k bytes in
    first_left tree t.0 (write_at n folder name at bytes) after (is ∙ ap (λ bs. tree_after tree (write_at n folder name at bs)) t.1)
parts_left tree k j step after is = whole is

-- what a fault leaves of a part is what it may leave of the whole
part_left : (tree : Tree) (k : ℕ) (step : Step) (after : Tree) → MayLeave tree (with_first k step) after → MayLeave tree step after
part_left tree k step after (not_made is) = not_made is
part_left tree k step after (whole is) = first_left tree k step after is
part_left tree k step after (in_part j made is) = parts_left tree k j step after is

part_is : (k : ℕ) (step part : Step) → part_of k step ≡ Some part → part ≡ with_first k step
part_is k (write_at n folder name at bytes) part e = cc
part_is k step part e = elim (nat_eq k 0) as (λ b. (if b then None else Some step) ≡ Some part → part ≡ step) [ true ↦ λ f. absurd (cc) | false ↦ λ f. cc ] e

-- ---- the store

goes_so : (P Q : Tree → Tree → Type 0) → ((before after : Tree) → P before after → Q before after) → (old new : Option Tree) → Goes P old new → Goes Q old new
goes_so P Q turns None new g = g
goes_so P Q turns (Some old) new (after, is, p) = (after, is, turns old after p)

-- a store with this tree after a fault
abbrev pub failed : Stored → Stored → Stored
failed old new = record { tree = new.tree; acts = next_count old.acts; faults = old.faults + 1 }

failed_so : (step : Step) (old new : Stored) → Goes (λ before after. MayLeave before step after) old.tree new.tree → Acts step old (failed old new) (Err Fault)
failed_so step old new goes = record { tree = goes; acts = refl; faults = omega arith; cause = inl (omega arith) }

made_so : (k : ℕ) (step : Step) (before after : Tree) (answer : Answer) → effect before (with_first k step) ≡ record { tree = after; answer = answer } → MayLeave before step after
made_so k step before after answer e = first_left before k step after (sym (ap (λ x. x.tree) e))

first_fails : (k : ℕ) (step : Step) (old new : Stored) (told : Told) → (told ≡ Err NoMemory → ⊥) → Acts (with_first k step) old new told → Acts step old (failed old new) (Err Fault)
first_fails k step old new (Ok answer) other made = failed_so step old new
    (goes_so (λ before after. effect before (with_first k step) ≡ record { tree = after; answer = answer }) (λ before after. MayLeave before step after)
    (λ before after e. made_so k step before after answer e) old.tree new.tree made.tree)
first_fails k step old new (Err Fault) other made = failed_so step old new
    (goes_so (λ before after. MayLeave before (with_first k step) after) (λ before after. MayLeave before step after)
    (λ before after m. part_left before k step after m) old.tree new.tree made.tree)
first_fails k step old new (Err NoMemory) other made = absurd (other refl)

-- What a part of an act left of a store, the act's fault may leave.
pub part_fails : (k : ℕ) (step part : Step) → part_of k step ≡ Some part → (old new : Stored) (told : Told) → (told ≡ Err NoMemory → ⊥) → Acts part old new told → Acts step old (failed old new) (Err Fault)
part_fails k step part is old new told other made = first_fails k step old new told other (subst (λ p. Acts p old new told) (part_is k step part is) made)

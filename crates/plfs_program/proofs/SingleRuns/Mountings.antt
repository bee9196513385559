-- Mountings that broke off by one fault, and how many acts a mounting makes.
use Rattle.std.proofs.Common.{◌≡◌, ℕ, ◌-◌, ◌<◌, ◌≤◌, ◌^◌, ◌⊎◌, inl, inr, List, [], ◌∷◌, Option, Some, Ok, Err, refl, sym, ap, ◌∙◌, arith}
use Rattle.plfs_types.specs.Counts.{next_count}
use Rattle.store_api.specs.declared.store.Trouble.TheVariants as told_trouble
use Rattle.store_api.specs.Step.{Step}
use Rattle.store_api.specs.Acts.{Stored, Acts}
use Rattle.mount_model.specs.declared.mount_trouble.MountTrouble.{MountTrouble}
use Rattle.mount_model.specs.declared.mount_trouble.MountTrouble.TheVariants.{Fault}
use Rattle.mount_model.specs.State.{State}
use Rattle.mount_model.specs.Making.{Told}
use Rattle.mount_model.specs.Mounting.{IsMounted, list_step, mark_step, marks_step, room_told}
use Rattle.mount_model.specs.Failing.{FailsToMount, no_mark, no_names, no_next, no_room, trouble_of}
use Rattle.step_laws.specs.Alike.{StillCounts}
use Rattle.plfs_program.specs.FaultedActs.{left_where_faulted}
use Rattle.plfs_program.proofs.Replays.FaultedActs.{faulted_so}

-- ---- the fault is why it broke off

-- an act in which the store failed told a fault
fault_told : (step : Step) (old new : Stored) (told : Told) → Acts step old new told → (new.faults ≡ old.faults → ⊥) → trouble_of told ≡ Fault
fault_told step old new (Ok said) made risen = absurd (risen made.faults)
fault_told step old new (Err told_trouble.Fault) made risen = refl
fault_told step old new (Err told_trouble.NoMemory) made risen = absurd (risen (ap (λ (s : Stored). s.faults) made))

room_faults : (opened roomed : Stored) (room : ℕ) (told : Told) → Acts marks_step opened roomed told → room_told told ≡ Some room → roomed.faults ≡ opened.faults
room_faults opened roomed room (Ok said) made tells = made.faults
room_faults opened roomed room (Err trouble) made tells = absurd (cc)

pub fault_is_why : (opened left : Stored) (why : MountTrouble) → (left.faults ≡ opened.faults → ⊥) → FailsToMount opened why left → why ≡ Fault
fault_is_why opened left why risen (no_room f) = f.cause ∙ fault_told marks_step opened left f.told f.made risen
fault_is_why opened left why risen (no_names roomed room t f) =
    f.cause ∙ fault_told (list_step room) roomed left f.told f.made (λ same. risen (same ∙ room_faults opened roomed room t.told t.made t.tells))
fault_is_why opened left why risen (no_next roomed room names t l none) = absurd (risen (l.faults ∙ room_faults opened roomed room t.told t.made t.tells))
fault_is_why opened left why risen (no_mark roomed listed room names mount t l next f) =
    f.cause ∙ fault_told (mark_step room mount) listed left f.told f.made (λ same. risen (same ∙ l.faults ∙ room_faults opened roomed room t.told t.made t.tells))

-- ---- its acts

-- an act moved the count, or did nothing
abbrev AtMostOne : ℕ → ℕ → Type 0
AtMostOne old new = (new ≡ next_count old) ⊎ (new ≡ old)

one_act : (step : Step) (old new : Stored) (told : Told) → Acts step old new told → AtMostOne old.acts new.acts
one_act step old new (Ok said) made = inl made.acts
one_act step old new (Err told_trouble.Fault) made = inl made.acts
one_act step old new (Err told_trouble.NoMemory) made = inr (ap (λ (s : Stored). s.acts) made)

room_acts : (opened roomed : Stored) (room : ℕ) (told : Told) → Acts marks_step opened roomed told → room_told told ≡ Some room → roomed.acts ≡ next_count opened.acts
room_acts opened roomed room (Ok said) made tells = made.acts
room_acts opened roomed room (Err trouble) made tells = absurd (cc)

start_acts : (serial : ℕ) (times : Option (List ℕ)) (opened : Stored) (start : State) → IsMounted serial times opened start → start.store.acts ≡ next_count (next_count (next_count opened.acts))
start_acts serial times opened start m =
    let d = m.draws in
    let first : d.roomed.acts ≡ next_count opened.acts = room_acts opened d.roomed start.marks d.tells.told d.tells.made d.tells.tells in
    d.marked.acts ∙ ap next_count (d.lists.acts ∙ ap next_count first)

after_one : (a b : ℕ) → AtMostOne a b → b < 2 ^ 64 - 1 → b ≤ next_count (next_count (next_count a))
after_one a b (inl is) low = grind (arith)
after_one a b (inr is) low = grind (arith)

after_two : (a b c : ℕ) → b ≡ next_count a → AtMostOne b c → c < 2 ^ 64 - 1 → c ≤ next_count (next_count (next_count a))
after_two a b c first (inl is) low = grind (arith)
after_two a b c first (inr is) low = grind (arith)

after_three : (a b c d : ℕ) → b ≡ next_count a → c ≡ next_count b → AtMostOne c d → d < 2 ^ 64 - 1 → d ≤ next_count (next_count (next_count a))
after_three a b c d first second (inl is) low = grind (arith)
after_three a b c d first second (inr is) low = grind (arith)

-- a mounting that broke off makes no more acts than one that made a mount
few_acts : (opened left : Stored) (why : MountTrouble) → left.acts < 2 ^ 64 - 1 → FailsToMount opened why left → left.acts ≤ next_count (next_count (next_count opened.acts))
few_acts opened left why low (no_room f) = after_one opened.acts left.acts (one_act marks_step opened left f.told f.made) low
few_acts opened left why low (no_names roomed room t f) = after_two opened.acts roomed.acts left.acts (room_acts opened roomed room t.told t.made t.tells) (one_act (list_step room) roomed left f.told f.made) low
few_acts opened left why low (no_next roomed room names t l none) = after_two opened.acts roomed.acts left.acts (room_acts opened roomed room t.told t.made t.tells) (inl l.acts) low
few_acts opened left why low (no_mark roomed listed room names mount t l next f) =
    after_three opened.acts roomed.acts listed.acts left.acts (room_acts opened roomed room t.told t.made t.tells) l.acts (one_act (mark_step room mount) listed left f.told f.made) low

-- What a mounting left that broke off by a fault is not what a later act left of a mount.
pub not_later : (times : Option (List ℕ)) (opened left : Stored) (why : MountTrouble) (start : State) → StillCounts left → FailsToMount opened why left → IsMounted 0 times opened start → start.store.acts < left.acts → ⊥
not_later times opened left why start still failed mounted later =
    let most = few_acts opened left why still.acts failed in
    let is = start_acts 0 times opened start mounted in
    omega (arith, most, is, later)

-- ---- of two that left the same

-- neither failed, or both did and left one store
pub record LeftAlike (opened left other : Stored) : Type 0 where
  pub alike : ((left.faults ≡ opened.faults) × (other.faults ≡ opened.faults)) ⊎ ((left.faults ≡ opened.faults → ⊥) × (left ≡ other))

first_same : (a b : Stored) → a ∷ [] ≡ b ∷ [] → a ≡ b
first_same a b e = cc

none_one : (a : Stored) → [] ≡ a ∷ [] → ⊥
none_one a e = cc

pub left_alike : (opened left other : Stored) → left_where_faulted opened left ≡ left_where_faulted opened other → LeftAlike opened left other
left_alike opened left other is =
    faulted_so opened left (λ z. z ≡ left_where_faulted opened other → LeftAlike opened left other)
    (λ same. faulted_so opened other (λ z. [] ≡ z → LeftAlike opened left other) (λ too e. record { alike = inl (same, too) }) (λ risen e. absurd (none_one other e)))
    (λ risen. faulted_so opened other (λ z. left ∷ [] ≡ z → LeftAlike opened left other) (λ too e. absurd (none_one left (sym e))) (λ too e. record { alike = inr (risen, first_same left other e) })) is

-- What a plain machine says of a script that is played on a mount of a store, where no call met a fault.
use Rattle.std.proofs.Common.{◌≡◌, ◌≤◌, ◌<◌, ◌-◌, ◌^◌, ◌⊎◌, ℕ, inl, inr, List, [], ◌∷◌, map, Option, Some, Ok, Err, refl, sym, ap, ◌∙◌, subst, arith}
use Rattle.std.proofs.lemmas.Bool.{cases_lt}
use Rattle.plfs_types.specs.Counts.{HasRisen}
use Rattle.store_api.specs.Acts.{Acts, Goes, IsMade, Stored}
use Rattle.store_api.specs.Effect.{Effect, effect, new_room}
use Rattle.store_api.specs.Names.{marks_folder, marks_name}
use Rattle.store_api.specs.Step.{Step}
use Rattle.store_api.specs.declared.step.Answer.{Answer}
use Rattle.store_api.specs.declared.step.Answer.TheVariants.{Names, Number}
use Rattle.store_api.specs.declared.store.Trouble.TheVariants as store_trouble
use Rattle.store_api.specs.declared.tree.Tree.{Tree}
use Rattle.mount_model.specs.Failing.{FailsToMount, names_told}
use Rattle.mount_model.specs.Making.{Told}
use Rattle.mount_model.specs.Mounting.{IsMounted, IsNextMark, list_step, marks_step, room_told}
use Rattle.mount_model.specs.Paths.{Name}
use Rattle.mount_model.specs.State.{State}
use Rattle.mount_model.specs.declared.mount_trouble.MountTrouble.{MountTrouble}
use Rattle.mount_model.specs.declared.mount_trouble.MountTrouble.TheVariants as trouble
use Rattle.script_lang.specs.declared.line.Line.{Line}
use Rattle.script_lang.specs.declared.script.Script.{Script}
use Rattle.script_lang.specs.Ranges.{FitsScript}
use Rattle.run_core.specs.Play.{IsPlay}
use Rattle.plain_machine.specs.Machine.{Plain}
use Rattle.plain_machine.specs.Running.{nobody}
use Rattle.plain_plays.specs.Beginning.{bare_tree, first_machine}
use Rattle.plain_plays.specs.Saying.{BeginsPlainly, IsMirrored, MetNoFault, SaysPlainly}
use Rattle.plain_plays.specs.OverStores.{BeginsOver, TellsPlainly, as_mounted, bare}
use Rattle.plain_plays.proofs.Droppings.{droppings_so}
use Rattle.plain_plays.proofs.Plays.{bare_mirrored, begins_on, begun_so, faults_rise, plays_so}

-- ---- the first mark

-- the tree whose one room is that of the marks
abbrev marked_tree : Tree
marked_tree = record { rooms = new_room marks_name (marks_folder ∷ []) [] ∷ [] }

one_number : (a b : ℕ) → Some a ≡ Some b → a ≡ b
one_number a b e = cc

one_list : (a b : List Name) → Some a ≡ Some b → a ≡ b
one_list a b e = cc

-- what an answered step makes of a told tree
record StepTold (step : Step) (answer : Answer) (tree : Tree) (new : Stored) : Type 0 where
  told : new.tree ≡ Some (effect tree step).tree
  answered : (effect tree step).answer ≡ answer

goes_on : (step : Step) (answer : Answer) (old new : Stored) (tree : Tree) → old.tree ≡ Some tree → IsMade step answer old new → StepTold step answer tree new
goes_on step answer old new tree is made =
    let Moves : Tree → Tree → Type 0 = λ before after. effect before step ≡ record { tree = after; answer = answer } in
    let (after, there, does) = subst (λ t. Goes Moves t new.tree) is made.tree in
    record { told = there ∙ ap (λ (e : Effect). Some e.tree) (sym does); answered = ap (λ (e : Effect). e.answer) does }

-- the room of the marks was made, under the number 0
marks_made : (opened roomed : Stored) (room : ℕ) (told : Told) → opened.tree ≡ Some bare_tree → Acts marks_step opened roomed told → room_told told ≡ Some room → (roomed.tree ≡ Some marked_tree) × (room ≡ 0)
marks_made opened roomed room (Ok answer) is made tells =
    let g = goes_on marks_step answer opened roomed bare_tree is made in
    let number : Number 0 ≡ answer = g.answered in
    (g.told, sym (one_number 0 room (ap (λ (a : Answer). room_told (Ok a)) number ∙ tells)))
marks_made opened roomed room (Err store_trouble.Fault) is made tells = absurd (cc)
marks_made opened roomed room (Err store_trouble.NoMemory) is made tells = absurd (cc)

-- no mark stood there
none_listed : (roomed listed : Stored) (room : ℕ) (names : List Name) → roomed.tree ≡ Some marked_tree → room ≡ 0 → Acts (list_step room) roomed listed (Ok (Names names)) → [] ≡ names
none_listed roomed listed room names is first lists =
    let made : IsMade (list_step 0) (Names names) roomed listed = subst (λ n. IsMade (list_step n) (Names names) roomed listed) first lists in
    let g = goes_on (list_step 0) (Names names) roomed listed marked_tree is made in
    let same : Names [] ≡ Names names = g.answered in
    one_list [] names (ap (λ (a : Answer). names_told (Ok a)) same)

first_of_none : (mount : ℕ) → IsNextMark [] mount → mount ≡ 1
first_of_none mount next = elim next.found.reached as (λ _. mount ≡ 1) [
  | inl none ↦ omega (arith, none.1, next.next)
  | inr some ↦ absurd (let (k, d, lt, same, it) = some in omega (arith, lt))
]

-- a mount of a store without rooms has the mark 1
pub first_mark : (times : Option (List ℕ)) (opened : Stored) (start : State) → opened.tree ≡ Some bare_tree → IsMounted 0 times opened start → start.mount ≡ 1
first_mark times opened start is mounted =
    let d = mounted.draws in
    let (roomed, first) = marks_made opened d.roomed start.marks d.tells.told is d.tells.made d.tells.tells in
    let none = none_listed d.roomed d.listed start.marks d.names roomed first d.lists in
    first_of_none start.mount (subst (λ names. IsNextMark names start.mount) (sym none) d.next)

-- the machine that begins over the store begins with a mount of it
pub begins_over : (script : Script) (times : Option (List ℕ)) (opened : Stored) (start : State) (p : Plain) → IsMounted 0 times opened start → BeginsOver script times opened p → BeginsPlainly script start p
begins_over script times opened start p mounted (bare is first) =
    let q : Plain = first_machine (map nobody script.actors) times start.mount in
    let machine : q ≡ p = ap (λ n. first_machine (map nobody script.actors) times n) (first_mark times opened start is mounted) ∙ sym first in
    subst (BeginsPlainly script start) machine (begins_on script 0 times opened start q mounted (bare_mirrored (map nobody script.actors) times opened start is mounted) refl)
begins_over script times opened start p mounted (as_mounted m) = m.begins start mounted

-- ---- no call met a fault

-- the count of faults is as it was all the time
pub met_none : (opened before after : ℕ) → opened ≤ before → before ≤ after → (HasRisen opened after → ⊥) → (after ≡ before) × (before < 2 ^ 64 - 1)
met_none opened before after first then none = elim (cases_lt opened after) as (λ _. (after ≡ before) × (before < 2 ^ 64 - 1)) [
  | inl risen ↦ absurd (none (inl risen))
  | inr stays ↦ elim (cases_lt after (2 ^ 64 - 1)) as (λ _. (after ≡ before) × (before < 2 ^ 64 - 1)) [
    | inl below ↦ (omega (arith, first, then, stays), omega (arith, then, below))
    | inr most ↦ absurd (none (inr most))
  ]
]

-- so a play met none where the count is that of the store before the mounting
pub no_fault : (script : Script) (opened : Stored) (start end : State) (lines : List Line) → opened.faults ≤ start.store.faults → IsPlay script start lines end → (HasRisen opened.faults end.store.faults → ⊥) → MetNoFault start end
no_fault script opened start end lines keeps play none =
    let rise : start.store.faults ≤ end.store.faults = subst (λ (s : State). start.store.faults ≤ s.store.faults) play.leads.ends (faults_rise start play.history play.leads.lawful) in
    let (same, counted) = met_none opened.faults start.store.faults end.store.faults keeps rise none in
    record { none = same; counted = counted }

-- ---- the lines

-- the lines of a play are what each machine says that begins over the store
pub plays_over : (script : Script) (times : Option (List ℕ)) (opened : Stored) (start end : State) (lines : List Line) → FitsScript script → IsMounted 0 times opened start → IsPlay script start lines end → MetNoFault start end → TellsPlainly script times opened lines end.store
plays_over script times opened start end lines fits mounted play well plain p begins =
    let says = said begins in
    record { end = end; left = refl; says = says; droppings = λ tree told. droppings_so (record { state = end; issued = says.mirrored.issued }) says.last says.mirrored.mirrors tree told }
  where
    said : BeginsOver script times opened p → SaysPlainly script p lines end
    said (bare is first) =
        let machine : first_machine (map nobody script.actors) times start.mount ≡ p = ap (λ n. first_machine (map nobody script.actors) times n) (first_mark times opened start is mounted) ∙ sym first in
        subst (λ q. SaysPlainly script q lines end) machine (begun_so script times opened start end lines fits plain is mounted play well)
    said (as_mounted m) = plays_so script start end lines p fits plain (m.begins start mounted) play well

-- a machine that begins over the store has what each mount of it has
pub mirrored_over : (script : Script) (times : Option (List ℕ)) (opened : Stored) (start : State) (p : Plain) → IsMounted 0 times opened start → BeginsOver script times opened p → IsMirrored start p
mirrored_over script times opened start p mounted begins = (begins_over script times opened start p mounted begins).mirrored

-- ---- mountings that break off

-- the store failed, or memory was refused
abbrev pub IsBroken : MountTrouble → Type 0
IsBroken why = (why ≡ trouble.Fault) ⊎ (why ≡ trouble.NoMemory)

-- where a machine begins over the store, that has no rooms, or its mountings break off for nothing else
pub bare_or_mounts : (script : Script) (times : Option (List ℕ)) (opened : Stored) (p : Plain) → BeginsOver script times opened p → (opened.tree ≡ Some bare_tree) ⊎ ((why : MountTrouble) (left : Stored) → FailsToMount opened why left → IsBroken why)
bare_or_mounts script times opened p (bare is first) = inl is
bare_or_mounts script times opened p (as_mounted m) = inr m.mounts

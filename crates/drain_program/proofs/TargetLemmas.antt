-- What a drain leaves of its target, by the laws of drains.
use Rattle.std.proofs.Common.{◌≡◌, ℕ, List, [], ◌∷◌, ◌++◌, Option, Some, None, refl, ap, sym, ◌∙◌, ◌⊎◌, inl, inr, subst}
use Rattle.std.specs.Prelude.{slice_get, Result, Ok, Err}
use Rattle.std.specs.List.{AllByRecursion}
use Rattle.plfs_types.specs.Counts.{HasRisen}
use Rattle.plfs_types.specs.Names.{IsLogicalName}
use Rattle.store_api.specs.declared.step.Answer.{Answer}
use Rattle.store_api.specs.declared.step.Answer.TheVariants.{Made, Names, Number}
use Rattle.store_api.specs.declared.store.Trouble.TheVariants.{Fault, NoMemory}
use Rattle.store_api.specs.declared.tree.Room.{Room}
use Rattle.store_api.specs.declared.tree.Tree.{Tree}
use Rattle.store_api.specs.Acts.{Stored}
use Rattle.store_api.specs.Loss.{Loses}
use Rattle.store_api.specs.Step.{find_room}
use Rattle.store_laws.specs.Says.{FindTells}
use Rattle.store_laws.specs.Tells.{Tells}
use Rattle.store_laws.specs.There.{IsFree, IsRoomOf}
use Rattle.store_laws.proofs.Facts.{acts_told, find_tells, keeps_rooms, look_answered}
use Rattle.mount_model.specs.declared.call.Call.{Call}
use Rattle.mount_model.specs.declared.call.Call.TheVariants.{Find, Look, SyncDropping}
use Rattle.mount_model.specs.declared.reply.Reply.{Reply}
use Rattle.mount_model.specs.declared.reply.Refusal.{Refusal}
use Rattle.mount_model.specs.declared.reply.Reply.TheVariants.{Done, Looked, Room as RoomReply}
use Rattle.mount_model.specs.Finding.{find_outcome}
use Rattle.mount_model.specs.History.{Event}
use Rattle.mount_model.specs.Making.{Told as StoreTold}
use Rattle.mount_model.specs.Mounting.{IsMounted, list_step, mark_step, marks_step}
use Rattle.mount_model.specs.Paths.{Name}
use Rattle.mount_model.specs.Replies.{FitsAsk, FitsCall, IsTrouble, damaged, fault, no_memory, refused}
use Rattle.mount_model.specs.State.{State, Table}
use Rattle.mount_model.specs.Step.{Answers, IsStep}
use Rattle.mount_model.proofs.Facts.{step_fits}
use Rattle.mount_sound.specs.Ledger.{Ledger}
use Rattle.mount_sound.specs.Sound.{IsSoundTree}
use Rattle.mount_sound.proofs.Facts.{mounted_sound, one_tree}
use Rattle.mount_model.specs.Running.{unbroken}
use Rattle.reader_laws.specs.Moments.{IsSoundAt, Moment, next_moment}
use Rattle.reader_laws.proofs.Gathered.Facts.{answers_as, sound_after}
use Rattle.drain_copy.specs.declared.outcome.Drained.{Drained}
use Rattle.drain_copy.specs.declared.outcome.DrainStuck.{DrainStuck}
use Rattle.drain_copy.specs.Asking.{acts, at_target as on_target, calls, ends, look_reply}
use Rattle.mount_model.specs.Making.{Told}
use Rattle.drain_copy.specs.Draining.{drain_program, finds_source, gathers, if_held, reads_target}
use Rattle.drain_copy.specs.Planning.{nothing_drained, nothing_held}
use Rattle.drain_copy.specs.Telling.{DrainsOn, Outcome, folder_alone, found_room, on_good, sought, told_well}
use Rattle.drain_read.specs.declared.held.Held.{Held}
use Rattle.drain_read.specs.Holding.{held_program}
use Rattle.mount_model.specs.declared.stuck.Stuck.{Stuck}
use Rattle.mount_model.specs.FlowReplies.{Tries}
use Rattle.mount_model.specs.Program.{ask, done}
use Rattle.drain_sound.specs.Draining.{Act, Happening, HoldsTarget, at_source, at_target, source_after, target_after}
use Rattle.drain_sound.specs.Fronts.{IsTarget}
use Rattle.drain_sound.specs.Views.{mounted_there}
use Rattle.drain_laws.specs.Drained.{HasDrained}
use Rattle.drain_laws.specs.Driving.{AreMade, Drives, FindsRoom, IsReplied, IsTold}
use Rattle.drain_laws.specs.Ending.{HasAllSettled, HasOpenhosts, WhyEnded}
use Rattle.drain_laws.specs.Faults.{EndsInFault, WasServed}
use Rattle.drain_laws.specs.Gathered.{HasGathered, began_at, events_in, listed_at}
use Rattle.drain_laws.specs.Keeping.{IsKeptBySource, IsLeftOf}
use Rattle.drain_laws.specs.Reading.{AllReadBehind, HasNoBareLog}
use Rattle.drain_laws.specs.Resting.{CopiesNothing, HasAll}
use Rattle.drain_laws.specs.Showing.{ShowsSource}
use Rattle.drain_laws.proofs.Facts.{CallsOnly, gathers_only}
use Rattle.drain_program.specs.From.{IsDrainFrom, IsKeptThroughout}
use Rattle.drain_program.specs.Driven.{IsDriven, IsOwn}
use Rattle.drain_program.specs.Targets.{HasCopiedAll, HasSource, HasTarget, HoldsThroughout, first as first_drain, later as drained_before}

-- ---- the laws of drains

abbrev pub FirstIsTarget : Type 0
FirstIsTarget = (source : Moment) (number : ℕ) (name : Name) (tree : Tree) → IsLogicalName name → IsSoundTree tree → IsFree tree name → IsTarget source number name tree

abbrev pub LossKeepsTarget : Type 0
LossKeepsTarget = (source : Moment) (number : ℕ) (name : Name) (tree lost : Tree) → IsTarget source number name tree → Loses tree lost → IsTarget source number name lost

abbrev pub LastsToNextMount : Type 0
LastsToNextMount = (source : Moment) (number : ℕ) (name : Name) (tree left : Tree) (room : Room) (serial : ℕ) (times : Option (List ℕ)) (opened : Stored) (start : State)
    → IsSoundAt source → source.state.store.tree ≡ Some left → slice_get left.rooms number ≡ Some room
    → (sound : IsSoundTree left) → IsMounted serial times opened start → opened.tree ≡ Some left → IsTarget source number name tree → IsTarget (mounted_there sound start) number name tree

abbrev pub DrivenKeepsTarget : Type 0
DrivenKeepsTarget = (caller number : ℕ) (name : Name) (source : Moment) (store : Stored) (happened : List Happening) (left : DrainsOn) → IsSoundAt source → HoldsTarget source number name store → AreMade source store happened → FindsRoom caller number happened
    → Drives caller (drain_program name) happened left → HoldsTarget (source_after source happened) number name (target_after store happened)

abbrev pub EndsWellCopied : Type 0
EndsWellCopied = (caller number : ℕ) (name : Name) (source : Moment) (store : Stored) (happened : List Happening) (drained : Drained) → IsSoundAt source → HoldsTarget source number name store → AreMade source store happened → FindsRoom caller number happened
    → Drives caller (drain_program name) happened (ends (Ok drained)) → (after : Tree) × ((target_after store happened).tree ≡ Some after) × HasDrained source (source_after source happened) number name after

abbrev pub FaultsAreStores : Type 0
FaultsAreStores = (caller : ℕ) (name : Name) (source : Moment) (store : Stored) (happened : List Happening) (outcome : Outcome) → AreMade source store happened → AllByRecursion (WasServed caller) happened → Drives caller (drain_program name) happened (ends outcome) → EndsInFault outcome
    → HasRisen source.state.store.faults (source_after source happened).state.store.faults ⊎ HasRisen store.faults (target_after store happened).faults

-- what holds of a drain that is driven over a target, wherever it ends
abbrev pub Driven : (ℕ → Name → Moment → Stored → List Happening → DrainsOn → Type 0) → Type 0
Driven So = (number : ℕ) (name : Name) (source : Moment) (store : Stored) (happened : List Happening) (left : DrainsOn) → IsSoundAt source → HoldsTarget source number name store → AreMade source store happened → FindsRoom 0 number happened
    → Drives 0 (drain_program name) happened left → So number name source store happened left

pub record DrainLaws : Type 0 where
  pub fresh : FirstIsTarget
  pub loss : LossKeepsTarget
  pub lasts : LastsToNextMount
  pub keeps : DrivenKeepsTarget
  pub copies : EndsWellCopied
  pub faults : FaultsAreStores
  pub behind : Driven (λ number name source store happened left. HasNoBareLog name store → AllReadBehind 0 name store happened)
  pub bare : Driven (λ number name source store happened left. HasNoBareLog name store → HasNoBareLog name (target_after store happened))
  pub kept : Driven (λ number name source store happened left. IsKeptBySource source number name store → IsKeptBySource (source_after source happened) number name (target_after store happened))
  pub lost : Driven (λ number name source store happened left. (drained : Drained) → left ≡ ends (Ok drained) → (tree : Tree) → IsLeftOf (target_after store happened) tree → HasDrained source (source_after source happened) number name tree)
  pub shows : Driven (λ number name source store happened left. (drained : Drained) → left ≡ ends (Ok drained) → (tree : Tree) → IsLeftOf (target_after store happened) tree → (g : HasGathered 0 number (events_in happened)) × ShowsSource (began_at source g) (listed_at source g) number name tree)
  pub rests : Driven (λ number name source store happened left. HasAll (source_after source happened) number name store → CopiesNothing 0 happened)
  pub none : Driven (λ number name source store happened left. (drained : Drained) → left ≡ ends (Ok drained) → HasAll (source_after source happened) number name store → drained ≡ nothing_drained)
  pub reasons : Driven (λ number name source store happened left. (why : DrainStuck) → left ≡ ends (Err why) → WhyEnded 0 number name source store happened why)
  pub settled : Driven (λ number name source store happened left. (drained : Drained) → left ≡ ends (Ok drained) → HasAllSettled source number name store)
  pub opens : Driven (λ number name source store happened left. HasOpenhosts name store → HasOpenhosts name (target_after store happened))

-- nothing was issued, whatever the state
pub nothing_issued : Ledger
nothing_issued room writer = []

-- ---- a front of what happened

front_made : (m : Moment) (store : Stored) (front rest : List Happening) → AreMade m store (front ++ rest) → AreMade m store front
front_made m store [] rest made = tt
front_made m store (at_source e ∷ front) rest made = (made.0, front_made (next_moment m e) store front rest made.1)
front_made m store (at_target a ∷ front) rest made = (made.0, front_made m a.after front rest made.1)

front_finds : (caller number : ℕ) (front rest : List Happening) → FindsRoom caller number (front ++ rest) → FindsRoom caller number front
front_finds caller number [] rest finds = tt
front_finds caller number (at_source e ∷ front) rest finds = (finds.0, front_finds caller number front rest finds.1)
front_finds caller number (at_target a ∷ front) rest finds = front_finds caller number front rest finds

front_drives : (caller : ℕ) (p left : DrainsOn) (front rest : List Happening) → Drives caller p (front ++ rest) left → (mid : DrainsOn) × Drives caller p front mid
front_drives caller p left [] rest drives = (p, refl)
front_drives caller p left (at_source e ∷ front) rest (inl (other, drives)) = let r = front_drives caller p left front rest drives in (r.0, inl (other, r.1))
front_drives caller p left (at_source e ∷ front) rest (inr (own, (next, is, drives))) = let r = front_drives caller next left front rest drives in (r.0, inr (own, (next, is, r.1)))
front_drives caller p left (at_target a ∷ front) rest (next, is, drives) = let r = front_drives caller next left front rest drives in (r.0, (next, is, r.1))

-- ---- moments of it

sound_then : (m : Moment) (store : Stored) (happened : List Happening) → AreMade m store happened → IsSoundAt m → IsSoundAt (source_after m happened)
sound_then m store [] made s = s
sound_then m store (at_source e ∷ rest) made s = sound_then (next_moment m e) store rest made.1 (sound_after m (e ∷ []) made.0 s)
sound_then m store (at_target a ∷ rest) made s = sound_then m a.after rest made.1 s

-- ---- the room that is found

-- a call that finds no room
abbrev FindsNone : Call → Type 0
FindsNone (Look room sight) = Unit {0}
FindsNone (SyncDropping room host writer is_log) = Unit {0}
FindsNone call = ⊥

no_trouble : {may : Refusal → Type 0} (room : ℕ) → IsTrouble may (RoomReply room) → ⊥
no_trouble room (refused why m is) = cc
no_trouble room (damaged folder file is) = cc
no_trouble room (fault is) = cc
no_trouble room (no_memory is) = cc

no_look : (room : ℕ) (answer : Answer) → RoomReply room ≡ Looked answer → ⊥
no_look room answer is = cc

no_sync : (room : ℕ) → RoomReply room ≡ Done → ⊥
no_sync room is = cc

no_room : (call : Call) (room : ℕ) → FindsNone call → FitsCall call (RoomReply room) → ⊥
no_room (Look n sight) room none (inl answer) = no_look room answer.0 answer.2
no_room (Look n sight) room none (inr trouble) = no_trouble room trouble
no_room (SyncDropping n host writer is_log) room none (inl is) = no_sync room is
no_room (SyncDropping n host writer is_log) room none (inr trouble) = no_trouble room trouble
no_room call room none fits = absurd none

finds_none : (number : ℕ) (m : Moment) (store : Stored) (p left : DrainsOn) (happened : List Happening) → AreMade m store happened → Drives 0 p happened left → CallsOnly FindsNone p → FindsRoom 0 number happened
finds_none number m store p left [] made drives only = tt
finds_none number m store p left (at_target a ∷ rest) made (next, is, drives) only = finds_none number m a.after next left rest made.1 drives (told_only p next a is only)
  where
    told_only : (q next : DrainsOn) (t : Act) → IsTold q t next → CallsOnly FindsNone q → CallsOnly FindsNone next
    told_only (ends x) next t is only = absurd is
    told_only (calls call k) next t is only = absurd is
    told_only (acts step k) next t is only = subst (λ q. CallsOnly FindsNone q) (sym is.1) (only t.answer)
finds_none number m store p left (at_source e ∷ rest) made (inl (other, drives)) only = ((λ own. absurd (other own)), finds_none number (next_moment m e) store p left rest made.1 drives only)
finds_none number m store p left (at_source e ∷ rest) made (inr (own, (next, is, drives))) only =
    let r = replied_only p next e is only made.0.1 in
    ((λ mine room told. absurd (r.0 room told)), finds_none number (next_moment m e) store next left rest made.1 drives r.1)
  where
    replied_only : (q next : DrainsOn) (x : Event) → IsReplied q x next → CallsOnly FindsNone q → IsStep m.state x.caller x.ask x.reply x.after → ((room : ℕ) → x.reply ≡ RoomReply room → ⊥) × CallsOnly FindsNone next
    replied_only (ends y) next x is only step = absurd is
    replied_only (acts s k) next x is only step = absurd is
    replied_only (calls call k) next x is only step = (
      (λ room told. no_room call room only.0 (subst (λ r. FitsCall call r) told (subst (λ a. FitsAsk a x.reply) is.0 (step_fits m.state x.after x.caller x.ask x.reply step)))),
      subst (λ q. CallsOnly FindsNone q) (sym is.1) (only.1 x.reply),
    )

-- the first call finds this name, and those behind it find none
abbrev FindsFirst : Name → DrainsOn → Type 0
FindsFirst name (ends outcome) = Unit {0}
FindsFirst name (calls call k) = (call ≡ Find name) × ((reply : Reply) → CallsOnly FindsNone (k reply))
FindsFirst name (acts step k) = (told : Told) → FindsFirst name (k told)

first_on : {X : Type 0} (name : Name) (next : X → DrainsOn) (r : Result X DrainStuck) → ((x : X) → FindsFirst name (next x)) → FindsFirst name (on_good next r)
first_on name next (Ok x) goes = goes x
first_on name next (Err why) goes = tt

first_target : {X : Type 0} (name : Name) (p : Tries X) (next : Result X Stuck → DrainsOn) → ((out : Result X Stuck) → FindsFirst name (next out)) → FindsFirst name (on_target p next)
first_target name (done x) next goes = goes x
first_target name (ask q k) next goes = λ told. first_target name (k (look_reply told)) next goes

only_good : {X : Type 0} (next : X → DrainsOn) (r : Result X DrainStuck) → ((x : X) → CallsOnly FindsNone (next x)) → CallsOnly FindsNone (on_good next r)
only_good next (Ok x) goes = goes x
only_good next (Err why) goes = tt

finds_source_first : (name : Name) (held : Held) → FindsFirst name (finds_source name held)
finds_source_first name held = (refl, λ reply. only_good (gathers name held) (found_room reply) (λ room. gathers_only FindsNone (λ n sight. tt) (λ n host writer is_log. tt) name held room))

pub drain_finds_first : (name : Name) → FindsFirst name (drain_program name)
drain_finds_first name = λ told. first_on name (reads_target name) (told_well (folder_alone []) sought told) by_found
  where
    by_held : (out : Result Held Stuck) → FindsFirst name (if_held name out)
    by_held (Err why) = tt
    by_held (Ok held) = finds_source_first name held

    by_found : (found : Option ℕ) → FindsFirst name (reads_target name found)
    by_found None = finds_source_first name nothing_held
    by_found (Some room) = first_target name (held_program room) (if_held name) by_held

-- of a name that one room of the source has
abbrev pub OneRoom : Name → ℕ → State → Type 0
OneRoom name number state = (caller room : ℕ) (after : State) → IsStep state caller (unbroken (Find name)) (RoomReply room) after → room ≡ number

pub finds_first : (name : Name) (number : ℕ) (m : Moment) (store : Stored) (p left : DrainsOn) (happened : List Happening) → OneRoom name number m.state → AllByRecursion IsOwn happened → AreMade m store happened → Drives 0 p happened left → FindsFirst name p → FindsRoom 0 number happened
finds_first name number m store p left [] one own made drives first = tt
finds_first name number m store p left (at_target a ∷ rest) one own made (next, is, drives) first = finds_first name number m a.after next left rest one own.1 made.1 drives (told_first p next a is first)
  where
    told_first : (q next : DrainsOn) (t : Act) → IsTold q t next → FindsFirst name q → FindsFirst name next
    told_first (ends x) next t is first = absurd is
    told_first (calls call k) next t is first = absurd is
    told_first (acts step k) next t is first = subst (FindsFirst name) (sym is.1) (first t.answer)
finds_first name number m store p left (at_source e ∷ rest) one own made (inl (other, drives)) first = absurd (other own.0)
finds_first name number m store p left (at_source e ∷ rest) one own made (inr (mine, (next, is, drives))) first =
    let r = replied_first p next e is first made.0.1 in
    ((λ by room told. r.0 room told), finds_none number (next_moment m e) store next left rest made.1 drives r.1)
  where
    found : (x : Event) → x.ask ≡ unbroken (Find name) → IsStep m.state x.caller x.ask x.reply x.after → (room : ℕ) → x.reply ≡ RoomReply room → room ≡ number
    found x asked step room told = one x.caller room x.after (subst (λ r. IsStep m.state x.caller (unbroken (Find name)) r x.after) told (subst (λ a. IsStep m.state x.caller a x.reply x.after) asked step))

    replied_first : (q next : DrainsOn) (x : Event) → IsReplied q x next → FindsFirst name q → IsStep m.state x.caller x.ask x.reply x.after → ((room : ℕ) → x.reply ≡ RoomReply room → room ≡ number) × CallsOnly FindsNone next
    replied_first (ends y) next x is first step = absurd is
    replied_first (acts s k) next x is first step = absurd is
    replied_first (calls call k) next x is first step = (
      found x (is.0 ∙ ap unbroken first.0) step,
      subst (λ q. CallsOnly FindsNone q) (sym is.1) (first.1 x.reply),
    )

-- ---- the room of a name

number_found : (table : Table) (told : StoreTold) (room : ℕ) → RoomReply room ≡ (find_outcome table told).reply → told ≡ Ok (Number room)
number_found table (Ok (Number n)) room e = let same : n ≡ room = cc in ap (λ k. Ok (Number k)) same
number_found table (Ok answer) room e = absurd (cc)
number_found table (Err Fault) room e = absurd (cc)
number_found table (Err NoMemory) room e = absurd (cc)

pub name_found : (old : State) (caller : ℕ) (name : Name) (room : ℕ) (new : State) (tree : Tree) → Answers old caller (Find name) (RoomReply room) new → old.store.tree ≡ Some tree → IsRoomOf tree name room
name_found old caller name room new tree finds has =
    let m = finds.makes in
    let t = acts_told (find_room name) old.store new.store tree m.told has m.made in
    (look_answered (find_room name) tree (FindTells tree name) (find_tells tree name) (Number room) t.0 (subst (λ o. Tells (find_room name) tree o t.0) (number_found old.table m.told room m.answered) t.2)).1

-- each room has its name still
pub name_kept : (times : Option (List ℕ)) (source : Stored) (start : State) → IsMounted 0 times source start → (tree now : Tree) → source.tree ≡ Some tree → start.store.tree ≡ Some now → (n : ℕ) (room : Room) → slice_get tree.rooms n ≡ Some room → (r : Room) × (slice_get now.rooms n ≡ Some r) × (r.name ≡ room.name)
name_kept times source start mounted tree now told now_is n room there =
    let d = mounted.draws in
    let a = acts_told marks_step source d.roomed tree d.tells.told told d.tells.made in
    let b = acts_told (list_step start.marks) d.roomed d.listed a.0 (Ok (Names d.names)) a.1 d.lists in
    let put = acts_told (mark_step start.marks start.mount) d.listed start.store b.0 (Ok Made) b.1 d.marked in
    let last : now ≡ put.0 = one_tree now put.0 start.store.tree now_is put.1 in
    let x = keeps_rooms marks_step tree d.tells.told a.0 a.2 n room there in
    let y = keeps_rooms (list_step start.marks) a.0 (Ok (Names d.names)) b.0 b.2 n x.0 x.1 in
    let z = keeps_rooms (mark_step start.marks start.mount) b.0 (Ok Made) put.0 put.2 n y.0 y.1 in
    (z.0, ap (λ (t : Tree). slice_get t.rooms n) last ∙ z.1, z.2.name (λ none. none) ∙ y.2.name (λ none. none) ∙ x.2.name (λ none. none))

-- ---- over a mount

module _ (laws : DrainLaws) (name : Name) (logical : IsLogicalName name) (times : Option (List ℕ)) (source target : Stored) (start : State) (mounted : IsMounted 0 times source start) where
  abbrev begun : (number : ℕ) → HasSource number name source → Moment
  begun number from = mounted_there from.sound start

  begun_sound : (number : ℕ) (from : HasSource number name source) → IsSoundAt (begun number from)
  begun_sound number from = mounted_sound 0 times source start from.tree mounted from.told from.sound

  held_by : (m : Moment) (number : ℕ) (tree : Tree) → target.tree ≡ Some tree → IsTarget m number name tree → HoldsTarget m number name target
  held_by m number tree told t = record { tree = tree; told = told; target = t; lost = λ left loses. laws.loss m number name tree left t loses }

  held_first : (number : ℕ) (from : HasSource number name source) → HasTarget number name source target → HoldsTarget (begun number from) number name target
  held_first number from (first_drain tree told sound free) = held_by (begun number from) number tree told (laws.fresh (begun number from) number name tree logical sound free)
  held_first number from (drained_before m s same holds) =
      held_by (begun number from) number holds.tree holds.told (laws.lasts m number name holds.tree from.tree from.room 0 times source start s (same ∙ from.told) from.at.there from.sound mounted from.told holds.target)

  one_room : (number : ℕ) (from : HasSource number name source) → OneRoom name number start
  one_room number from caller room after step =
      let s : IsSoundAt (begun number from) = begun_sound number from in
      let is : IsRoomOf s.shape.tree name room = name_found start caller name room after s.shape.tree (answers_as start caller (unbroken (Find name)) (Find name) (RoomReply room) (RoomReply room) after refl refl refl step) s.shape.told in
      let kept = name_kept times source start mounted from.tree s.shape.tree from.told s.shape.told number from.room from.at.there in
      s.shape.shaped.rooms_differ room number is.room kept.0 is.has_room kept.1 (is.named ∙ sym (kept.2 ∙ from.at.named))

  module _ (happened : List Happening) (left : DrainsOn) (end : State) (target_end : Stored) (driven : IsDriven name start target happened left end target_end) where
    made_at : (number : ℕ) (from : HasSource number name source) → AreMade (begun number from) target happened
    made_at number from = driven.made from.sound.issued

    finds_at : (number : ℕ) (from : HasSource number name source) → FindsRoom 0 number happened
    finds_at number from = finds_first name number (begun number from) target (drain_program name) left happened (one_room number from) driven.own (made_at number from) driven.drives (drain_finds_first name)

    pub holds_throughout : (number : ℕ) (from : HasSource number name source) → HasTarget number name source target → HoldsThroughout number name (begun number from) target happened
    holds_throughout number from has front rest split =
        let made : AreMade (begun number from) target (front ++ rest) = subst (AreMade (begun number from) target) split (made_at number from) in
        let finds : FindsRoom 0 number (front ++ rest) = subst (FindsRoom 0 number) split (finds_at number from) in
        let drives = front_drives 0 (drain_program name) left front rest (subst (λ hs. Drives 0 (drain_program name) hs left) split driven.drives) in
        laws.keeps 0 number name (begun number from) target front drives.0 (begun_sound number from) (held_first number from has) (front_made (begun number from) target front rest made) (front_finds 0 number front rest finds) drives.1

    -- ---- what the laws say of it

    kept_throughout : (number : ℕ) (from : HasSource number name source) → HasTarget number name source target → IsKeptBySource (begun number from) number name target → IsKeptThroughout number name (begun number from) target happened
    kept_throughout number from has kept front rest split =
        let made : AreMade (begun number from) target (front ++ rest) = subst (AreMade (begun number from) target) split (made_at number from) in
        let finds : FindsRoom 0 number (front ++ rest) = subst (FindsRoom 0 number) split (finds_at number from) in
        let drives = front_drives 0 (drain_program name) left front rest (subst (λ hs. Drives 0 (drain_program name) hs left) split driven.drives) in
        laws.kept number name (begun number from) target front drives.0 (begun_sound number from) (held_first number from has) (front_made (begun number from) target front rest made) (front_finds 0 number front rest finds) drives.1 kept

    pub drain_from : (number : ℕ) (from : HasSource number name source) → HasTarget number name source target → IsDrainFrom number name (begun number from) target happened left target_end
    drain_from number from has = subst (IsDrainFrom number name (begun number from) target happened left) driven.ends_target (record {
      behind = λ none. (laws.behind number name (begun number from) target happened left (begun_sound number from) (held_first number from has) (made_at number from) (finds_at number from) driven.drives none, laws.bare number name (begun number from) target happened left (begun_sound number from) (held_first number from has) (made_at number from) (finds_at number from) driven.drives none);
      keeps = kept_throughout number from has;
      shows = laws.shows number name (begun number from) target happened left (begun_sound number from) (held_first number from has) (made_at number from) (finds_at number from) driven.drives;
      rests = λ all. (laws.rests number name (begun number from) target happened left (begun_sound number from) (held_first number from has) (made_at number from) (finds_at number from) driven.drives all, λ drained is. laws.none number name (begun number from) target happened left (begun_sound number from) (held_first number from has) (made_at number from) (finds_at number from) driven.drives drained is all);
      reason = laws.reasons number name (begun number from) target happened left (begun_sound number from) (held_first number from has) (made_at number from) (finds_at number from) driven.drives;
      settled = laws.settled number name (begun number from) target happened left (begun_sound number from) (held_first number from has) (made_at number from) (finds_at number from) driven.drives;
      opens = laws.opens number name (begun number from) target happened left (begun_sound number from) (held_first number from has) (made_at number from) (finds_at number from) driven.drives;
    })

    module _ (source_end : Stored) (ends_so : end.store ≡ source_end) where
      pub stays_target : (number : ℕ) → HasSource number name source → HasTarget number name source target → HasTarget number name source_end target_end
      stays_target number from has =
          let m : Moment = source_after (begun number from) happened in
          let holds : HoldsTarget m number name (target_after target happened) =
          laws.keeps 0 number name (begun number from) target happened left (begun_sound number from) (held_first number from has) (made_at number from) (finds_at number from) driven.drives in
          drained_before m (sound_then (begun number from) target happened (made_at number from) (begun_sound number from)) (ap (λ (s : State). s.store.tree) (driven.ends_source from.sound.issued) ∙ ap (λ (s : Stored). s.tree) ends_so)
          (subst (HoldsTarget m number name) driven.ends_target holds)

      pub copied_all : (drained : Drained) → left ≡ ends (Ok drained) → (number : ℕ) → HasSource number name source → HasTarget number name source target → HasCopiedAll number name source target_end
      copied_all drained is number from has =
          let c = laws.copies 0 number name (begun number from) target happened drained (begun_sound number from) (held_first number from has) (made_at number from) (finds_at number from) (subst (Drives 0 (drain_program name) happened) is driven.drives) in
          record {
            start = begun number from;
            end = source_after (begun number from) happened;
            sound = begun_sound number from;
            times = times;
            mounted = mounted;
            tree = c.0;
            told = ap (λ (s : Stored). s.tree) (sym driven.ends_target) ∙ c.1;
            drained = λ tree left_of. laws.lost number name (begun number from) target happened left (begun_sound number from) (held_first number from has) (made_at number from) (finds_at number from) driven.drives drained is tree (subst (λ k. IsLeftOf k tree) (sym driven.ends_target) left_of);
          }

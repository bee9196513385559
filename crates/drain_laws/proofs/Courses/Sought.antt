-- What is told of the searches for the container, and the troubles that a drain may stop in before its source is gathered.
use Rattle.std.proofs.Common.{◌≡◌, ℕ, List, [], ◌∷◌, ◌++◌, Option, Some, None, refl, ap, sym, ◌∙◌, subst}
use Rattle.std.specs.Prelude.{Result, Ok, Err}
use Rattle.store_api.specs.declared.step.Answer.{Answer}
use Rattle.store_api.specs.declared.step.Answer.TheVariants.{Absent, Number}
use Rattle.store_api.specs.declared.store.Trouble.TheVariants.{Fault, NoMemory}
use Rattle.store_api.specs.declared.tree.Room.{Room}
use Rattle.store_api.specs.declared.tree.Tree.{Tree}
use Rattle.store_api.specs.Effect.{Effect}
use Rattle.store_api.specs.Step.{find_room}
use Rattle.store_laws.specs.Says.{FindTells}
use Rattle.store_laws.specs.Tells.{Tells}
use Rattle.store_laws.specs.There.{IsFree}
use Rattle.store_laws.proofs.Facts.{find_tells}
use Rattle.mount_model.specs.declared.reply.Refusal.TheVariants.{NoRoom}
use Rattle.mount_model.specs.declared.reply.Reply.{Reply}
use Rattle.mount_model.specs.declared.reply.Reply.TheVariants.{Room as RoomReply}
use Rattle.mount_model.specs.History.{Event}
use Rattle.mount_model.specs.Paths.{Name}
use Rattle.mount_model.specs.declared.stuck.Stuck.TheVariants as stuck
use Rattle.reader_laws.specs.Moments.{Moment}
use Rattle.drain_copy.specs.declared.outcome.DrainStuck.{DrainStuck}
use Rattle.drain_copy.specs.declared.outcome.DrainStuck.TheVariants.{Source, TargetFault}
use Rattle.mount_model.specs.Making.{Told}
use Rattle.drain_copy.specs.Telling.{folder_alone, found_room, or_damaged, sought, told_well}
use Rattle.drain_sound.specs.Draining.{Happening, at_source, at_target}
use Rattle.drain_sound.specs.Steps.{IsNamedRoom}
use Rattle.drain_laws.specs.Driving.{FindsRoom}
use Rattle.drain_laws.specs.Ending.{HadNoContainer}
use Rattle.drain_laws.specs.Gathered.{events_in}

-- ---- what was told of the search

sought_so : (o : Option (Option ℕ)) (found : Option ℕ) → or_damaged (folder_alone []) o ≡ Ok found → o ≡ Some found
sought_so None found e = absurd (cc)
sought_so (Some x) found e = let same : x ≡ found = cc in ap (λ y. Some y) same

abbrev pub IsSought : Name → Tree → Option ℕ → Type 0
IsSought name t None = IsFree t name
IsSought name t (Some n) = (room : Room) × IsNamedRoom t n name room

pub search_told : (name : Name) (t after : Tree) (told : Told) (found : Option ℕ) → Tells (find_room name) t told after → told_well (folder_alone []) sought told ≡ Ok found → IsSought name t found
search_told name t after (Ok (Number n)) found tells e =
    let says : FindTells t name (Number n) = subst (FindTells t name) (ap (λ (x : Effect). x.answer) tells) (find_tells t name).says_so in
    let good : ◌≡◌ {A = Result (Option ℕ) DrainStuck} (Ok (Some n)) (Ok found) = e in
    let same : Some n ≡ found = cc in
    subst (IsSought name t) same (says.room, record { there = says.has_room; named = says.named })
search_told name t after (Ok Absent) found tells e =
    let says : FindTells t name Absent = subst (FindTells t name) (ap (λ (x : Effect). x.answer) tells) (find_tells t name).says_so in
    let good : ◌≡◌ {A = Result (Option ℕ) DrainStuck} (Ok None) (Ok found) = e in
    let same : None ≡ found = cc in
    subst (IsSought name t) same says
search_told name t after (Ok answer) found tells e = absurd (cc)
search_told name t after (Err Fault) found tells e = absurd (cc)
search_told name t after (Err NoMemory) found tells e = absurd (cc)

-- ---- the room that was found

pub found_so : (reply : Reply) (room : ℕ) → found_room reply ≡ Ok room → reply ≡ RoomReply room
found_so (RoomReply room) x e = let same : room ≡ x = cc in ap (λ k. RoomReply k) same
found_so reply x e = absurd (cc)

pub finds_so : (caller number : ℕ) (happened : List Happening) (others more : List Event) (event : Event) → FindsRoom caller number happened → events_in happened ≡ others ++ event ∷ more → event.caller ≡ caller → (room : ℕ) → event.reply ≡ RoomReply room → room ≡ number
finds_so caller number [] [] more event finds split own room is = absurd (cc)
finds_so caller number [] (o ∷ others) more event finds split own room is = absurd (cc)
finds_so caller number (at_target a ∷ happened) others more event finds split own room is = finds_so caller number happened others more event finds split own room is
finds_so caller number (at_source e ∷ happened) [] more event finds split own room is =
    let same : e ≡ event = cc in
    finds.0 (ap (λ (x : Event). x.caller) same ∙ own) room (ap (λ (x : Event). x.reply) same ∙ is)
finds_so caller number (at_source e ∷ happened) (o ∷ others) more event finds split own room is =
    let rest : events_in happened ≡ others ++ event ∷ more = cc in
    finds_so caller number happened others more event finds.1 rest own room is

-- ---- the troubles that it may stop in before its source is gathered

-- one of the stores failed, or no container has the name
abbrev pub HaltsBy : ℕ → Name → Moment → List Happening → DrainStuck → Type 0
HaltsBy caller name source happened TargetFault = Unit {0}
HaltsBy caller name source happened (Source stuck.Fault) = Unit {0}
HaltsBy caller name source happened (Source (stuck.Refused NoRoom)) = HadNoContainer caller name source happened
HaltsBy caller name source happened why = ⊥

-- a search of a target tells of a room or none, or its store failed
pub sought_fair : (name : Name) (t after : Tree) (told : Told) (why : DrainStuck) → Tells (find_room name) t told after → told_well (folder_alone []) sought told ≡ Err why → why ≡ TargetFault
sought_fair name t after (Ok answer) why tells e = by_sought (sought answer) refl e
  where
    says : FindTells t name answer
    says = subst (FindTells t name) (ap (λ (x : Effect). x.answer) tells) (find_tells t name).says_so

    never : (answer : Answer) → FindTells t name answer → sought answer ≡ None → ⊥
    never (Number n) its none = cc
    never Absent its none = cc
    never other its none = its

    by_sought : (o : Option (Option ℕ)) → sought answer ≡ o → or_damaged (folder_alone []) o ≡ Err why → why ≡ TargetFault
    by_sought None none f = absurd (never answer says none)
    by_sought (Some found) is f = let clash : ◌≡◌ {A = Result (Option ℕ) DrainStuck} (Ok found) (Err why) = f in absurd (cc)
sought_fair name t after (Err trouble) why tells e =
    let is : ◌≡◌ {A = Result (Option ℕ) DrainStuck} (Err TargetFault) (Err why) = e in
    let same : TargetFault ≡ why = cc in
    sym same

-- An opening by a caller itself only looks, and its reader is of the container of the name.
use Rattle.std.proofs.Common.{◌≡◌, inl, inr, ℕ, List, [], ◌∷◌, Some, Result, Ok, Err, refl, sym, ap, ◌∙◌, subst}
use Rattle.std.specs.List.{AllByRecursion}
use Rattle.turn_object.specs.Callers.{made_by}
use Rattle.plfs_types.specs.declared.entries.Trunc.{Trunc}
use Rattle.store_api.specs.declared.step.Answer.TheVariants.{Number}
use Rattle.store_api.specs.declared.store.Trouble.TheVariants.{Fault, NoMemory}
use Rattle.store_api.specs.declared.tree.Tree.{Tree}
use Rattle.store_api.specs.Step.{find_room}
use Rattle.store_laws.specs.Says.{FindTells}
use Rattle.store_laws.specs.Tells.{Tells}
use Rattle.store_laws.specs.There.{IsRoomOf}
use Rattle.store_laws.proofs.Facts.{acts_told, find_tells, look_answered}
use Rattle.mount_model.specs.Calls.{AreCallsOf}
use Rattle.mount_model.specs.Program.{Program, done, ask, followed_by}
use Rattle.mount_model.specs.declared.stuck.Stuck.{Stuck as Trouble}
use Rattle.mount_model.specs.FlowReplies.{Tries, given, on_ok, room_in, trouble}
use Rattle.mount_model.specs.Running.{Runs, asking}
use Rattle.mount_model.proofs.Flows.Facts.{runs_done, runs_in_two, runs_next}
use Rattle.mount_model.specs.declared.call.Ask.{Ask}
use Rattle.mount_model.specs.declared.call.Call.{Call}
use Rattle.mount_model.specs.declared.call.Call.TheVariants.{Find, Look}
use Rattle.mount_model.specs.declared.reply.Reply.{Reply}
use Rattle.mount_model.specs.declared.reply.Reply.TheVariants.{Room}
use Rattle.mount_model.specs.Finding.{find_outcome}
use Rattle.mount_model.specs.History.{Event}
use Rattle.mount_model.specs.Making.{Told}
use Rattle.mount_model.specs.Paths.{Name}
use Rattle.mount_model.specs.State.{State, Table}
use Rattle.mount_model.specs.Step.{Answers, IsStep}
use Rattle.mount_sound.specs.Owed.{IsLawful}
use Rattle.mount_sound.proofs.Facts.{lawful_first}
use Rattle.index_reader.specs.declared.listing.Listing.{Listing}
use Rattle.index_reader.specs.declared.opened.OpenReader.{OpenReader}
use Rattle.index_reader.specs.declared.sharing.Share.{Share}
use Rattle.index_reader.specs.Opening.{open_at_program, open_read_program}
use Rattle.index_reader.specs.Sharing.{share_program}
use Rattle.index_reader.specs.Truncs.{trunc_program}
use Rattle.index_reader.proofs.Facts.{IsLook, OnlyLooks, listing_looks, share_looks, truncs_looks}
use Rattle.gather_flow.specs.declared.all_read.AllRead.{AllRead}
use Rattle.gather_flow.specs.Dealing.{dealt_to}
use Rattle.gather_flow.specs.Gathering.{if_truncs_listed, reads_truncs, shares_from}
use Rattle.reader_laws.specs.Moments.{IsSoundAt, Moment, next_moment}
use Rattle.reader_laws.proofs.Gathered.Facts.{sound_after}
use Rattle.reader_laws.proofs.Facts.{answered, at_run}
use Rattle.opening_flow.specs.Opening.{opening_program, opens, reads_as}
use Rattle.lone_flow.specs.Looking.{GreetsOrLooks}
use Rattle.packing_laws.proofs.OnlyUnits.Alone.{IsMade}
use Rattle.packing_laws.proofs.OnlyUnits.Looking.{AllLook, look_tree}

-- ---- it only looks

then_looks : {R S : Type 0} (p : Program Call Reply R) (next : R → Program Call Reply S) → ((r : R) → OnlyLooks (next r)) → OnlyLooks p → OnlyLooks (followed_by p next)
then_looks (done r) next goes looks = goes r
then_looks (ask q k) next goes looks = (looks.0, λ reply. then_looks (k reply) next goes (looks.1 reply))

on_ok_looks : {A R : Type 0} (next : A → Tries R) → ((a : A) → OnlyLooks (next a)) → (result : Result A Trouble) → OnlyLooks (on_ok next result)
on_ok_looks next goes (Ok a) = goes a
on_ok_looks next goes (Err because) = tt

truncates_look : (listing : Listing) (share : Share) → OnlyLooks (reads_truncs listing (share ∷ []))
truncates_look listing share =
    then_looks (trunc_program listing.room) (on_ok (if_truncs_listed listing (share ∷ [])))
    (λ result. on_ok_looks (if_truncs_listed listing (share ∷ [])) (λ truncs. tt) result) (truncs_looks listing.room)

opens_looks : (listing : Listing) → OnlyLooks (opens 1 listing)
opens_looks listing =
    then_looks (shares_from 1 listing 0 []) (on_ok reads_as) (λ result. on_ok_looks reads_as (λ all. tt) result)
    (then_looks (share_program listing.room (dealt_to 1 0 0 listing.droppings) listing.flat.covers) (on_ok (λ share. reads_truncs listing (share ∷ [])))
    (λ result. on_ok_looks (λ share. reads_truncs listing (share ∷ [])) (λ share. truncates_look listing share) result)
    (share_looks listing.room (dealt_to 1 0 0 listing.droppings) listing.flat.covers))

opening_looks : (name : Name) → OnlyLooks (opening_program name 1)
opening_looks name = then_looks (open_read_program name) (on_ok (opens 1)) (λ result. on_ok_looks (opens 1) opens_looks result) (listing_looks name)

look_so : (call : Call) → IsLook call → GreetsOrLooks call
look_so (Find name) is = tt
look_so (Look room look) is = tt
look_so call is = absurd is

looks_in : {R : Type 0} (program : Program Call Reply R) (events : List Event) (result : R) → OnlyLooks program → AllByRecursion (λ (e : Event). e.caller ≡ 0) events → Runs 0 program events result → AllLook events
looks_in program [] result looks own runs = tt
looks_in (done out) (e ∷ events) result looks own runs = absurd ((runs_done 0 out e events result runs).0 own.0)
looks_in (ask call k) (e ∷ events) result looks own runs = elim (runs_next 0 call k e events result runs) as (λ _. AllLook (e ∷ events)) [
  | inl (other, r) ↦ absurd (other own.0)
  | inr (mine, asked, r) ↦ (subst (λ (a : Ask). GreetsOrLooks a.call) (sym asked) (look_so call looks.0), looks_in (k e.reply) events result (looks.1 e.reply) own.1 r)
]

pub opening_only_looks : (name : Name) (events : List Event) (ended : Result OpenReader Trouble) → AllByRecursion (λ (e : Event). e.caller ≡ 0) events → Runs 0 (opening_program name 1) events ended → AllLook events
opening_only_looks name events ended own runs = looks_in (opening_program name 1) events ended (opening_looks name) own runs

-- ---- what a program ends with

abbrev Gives : {R : Type 0} → (R → Type 0) → Program Call Reply R → Type 0
Gives P (done r) = P r
Gives P (ask q k) = (reply : Reply) → Gives P (k reply)

gives_then : {R S : Type 0} (P : S → Type 0) (Q : R → Type 0) (p : Program Call Reply R) (next : R → Program Call Reply S) → Gives Q p → ((r : R) → Q r → Gives P (next r)) → Gives P (followed_by p next)
gives_then P Q (done r) next of goes = goes r of
gives_then P Q (ask q k) next of goes = λ reply. gives_then P Q (k reply) next (of reply) goes

gives_any : {R : Type 0} (p : Program Call Reply R) → Gives (λ (r : R). Unit {0}) p
gives_any (done r) = tt
gives_any (ask q k) = λ reply. gives_any (k reply)

ends_so : {R : Type 0} (P : R → Type 0) (p : Program Call Reply R) (made : List Event) (r : R) → Gives P p → AreCallsOf (asking p) made r → P r
ends_so P (done x) made r of calls = subst P calls.1 of
ends_so P (ask q k) [] r of calls = absurd calls
ends_so P (ask q k) (e ∷ made) r of calls = ends_so P (k e.reply) made r (of e.reply) calls.1

abbrev IsAllOf : Listing → Result AllRead Trouble → Type 0
IsAllOf listing (Ok all) = all.listed ≡ listing
IsAllOf listing (Err why) = Unit {0}

abbrev IsOf : ℕ → Result OpenReader Trouble → Type 0
IsOf room (Ok reader) = reader.room ≡ room
IsOf room (Err why) = Unit {0}

truncates_give : (listing : Listing) (share : Share) → Gives (IsAllOf listing) (reads_truncs listing (share ∷ []))
truncates_give listing share = gives_then (IsAllOf listing) (λ r. Unit {0}) (trunc_program listing.room) (on_ok (if_truncs_listed listing (share ∷ []))) (gives_any (trunc_program listing.room)) (λ r any. each r)
  where
    each : (r : Result (List Trunc) Trouble) → Gives (IsAllOf listing) (on_ok (if_truncs_listed listing (share ∷ [])) r)
    each (Ok truncs) = refl
    each (Err why) = tt

shares_give : (listing : Listing) → Gives (IsAllOf listing) (shares_from 1 listing 0 [])
shares_give listing =
    gives_then (IsAllOf listing) (λ r. Unit {0}) (share_program listing.room (dealt_to 1 0 0 listing.droppings) listing.flat.covers) (on_ok (λ share. reads_truncs listing (share ∷ [])))
    (gives_any (share_program listing.room (dealt_to 1 0 0 listing.droppings) listing.flat.covers)) (λ r any. each r)
  where
    each : (r : Result Share Trouble) → Gives (IsAllOf listing) (on_ok (λ share. reads_truncs listing (share ∷ [])) r)
    each (Ok share) = truncates_give listing share
    each (Err why) = tt

opens_give : (listing : Listing) → Gives (IsOf listing.room) (opens 1 listing)
opens_give listing = gives_then (IsOf listing.room) (IsAllOf listing) (shares_from 1 listing 0 []) (on_ok reads_as) (shares_give listing) each
  where
    each : (r : Result AllRead Trouble) → IsAllOf listing r → Gives (IsOf listing.room) (on_ok reads_as r)
    each (Ok all) is = ap (λ (l : Listing). l.room) is
    each (Err why) is = tt

-- ---- the container that was found

number_found : (table : Table) (told : Told) (room : ℕ) → Room room ≡ (find_outcome table told).reply → told ≡ Ok (Number room)
number_found table (Ok (Number n)) room e = let same : n ≡ room = cc in ap (λ k. Ok (Number k)) same
number_found table (Ok answer) room e = absurd (cc)
number_found table (Err Fault) room e = absurd (cc)
number_found table (Err NoMemory) room e = absurd (cc)

name_found : (old : State) (caller : ℕ) (name : Name) (room : ℕ) (new : State) (tree : Tree) → Answers old caller (Find name) (Room room) new → old.store.tree ≡ Some tree → IsRoomOf tree name room
name_found old caller name room new tree finds has =
    let m = finds.makes in
    let t = acts_told (find_room name) old.store new.store tree m.told has m.made in
    (look_answered (find_room name) tree (FindTells tree name) (find_tells tree name) (Number room) t.0 (subst (λ o. Tells (find_room name) tree o t.0) (number_found old.table m.told room m.answered) t.2)).1

not_ok : (w : Trouble) (x : OpenReader) → Err w ≡ Ok x → ⊥
not_ok w x is = cc

abbrev Ends : List Event → Program Call Reply (Result OpenReader Trouble) → OpenReader → Type 0
Ends events p reader = Runs 0 p events (Ok reader)

found_first : (reply : Reply) (why : Trouble) (events : List Event) (reader : OpenReader) → Ends events (followed_by (given (room_in reply) why open_at_program) (on_ok (opens 1))) reader
    → (room : ℕ) × (reply ≡ Room room) × Ends events (followed_by (open_at_program room) (on_ok (opens 1))) reader
found_first (Room room) why events reader runs = (room, refl, runs)
found_first reply why events reader runs = absurd (not_ok why reader runs.1)

room_read : (m : Moment) (room : ℕ) (events : List Event) (reader : OpenReader) → IsSoundAt m → IsLawful m.state events → Ends events (followed_by (open_at_program room) (on_ok (opens 1))) reader → reader.room ≡ room
room_read m room events reader sound lawful runs =
    let two = runs_in_two 0 (open_at_program room) (on_ok (opens 1)) events (Ok reader) runs in
    by two.first two.rest two.value (lawful_first m.state two.first two.rest (subst (λ (es : List Event). IsLawful m.state es) two.all lawful)) two.runs two.then_runs
  where
    by : (first rest : List Event) (value : Result Listing Trouble) → IsLawful m.state first → Runs 0 (open_at_program room) first value → Runs 0 (on_ok (opens 1) value) rest (Ok reader) → reader.room ≡ room
    by first rest (Ok listing) l r on = ends_so (IsOf listing.room) (opens 1 listing) (made_by 0 rest) (Ok reader) (opens_give listing) on ∙ (at_run 0 room m first listing l sound r).room_is
    by first rest (Err why) l r on = absurd (not_ok why reader on.1)

finds_first : (m : Moment) (name : Name) (events : List Event) (reader : OpenReader) → IsSoundAt m → IsLawful m.state events → AllByRecursion (λ (e : Event). e.caller ≡ 0) events → Runs 0 (opening_program name 1) events (Ok reader)
    → (tree : Tree) → m.state.store.tree ≡ Some tree → IsRoomOf tree name reader.room
finds_first m name [] reader sound lawful own runs tree told = absurd runs
finds_first m name (e ∷ events) reader sound lawful own runs tree told =
    elim (runs_next 0 (Find name) (λ reply. followed_by (given (room_in reply) (trouble (record { folder = []; file = [] }) reply) open_at_program) (on_ok (opens 1))) e events (Ok reader) runs) as (λ _. IsRoomOf tree name reader.room) [
      | inl (other, on) ↦ absurd (other own.0)
      | inr (mine, asked, on) ↦
          let f = found_first e.reply (trouble (record { folder = []; file = [] }) e.reply) events reader on in
          let step : IsStep m.state e.caller e.ask (Room f.0) e.after = subst (λ reply. IsStep m.state e.caller e.ask reply e.after) f.1 lawful.1 in
          let room : IsRoomOf tree name f.0 = name_found m.state e.caller name f.0 e.after tree (answered m.state e.caller (Find name) e.ask (Room f.0) e.after asked step) told in
          let next : IsSoundAt (next_moment m e) = sound_after m (e ∷ []) (lawful.0, lawful.1, tt) sound in
          subst (λ r. IsRoomOf tree name r) (sym (room_read (next_moment m e) f.0 events reader next lawful.2 f.2)) room
    ]

pub opened_room : (name : Name) (m : Moment) (reader : OpenReader) (end : State) → IsSoundAt m → (b : IsMade (opening_program name 1) m (Ok reader) end) → (tree : Tree) → m.state.store.tree ≡ Some tree → IsRoomOf tree name reader.room
opened_room name m reader end sound b tree told =
    let one : IsLawful m.state (b.greeting ∷ []) = (b.lawful.0, b.lawful.1, tt) in
    let greets : GreetsOrLooks b.greeting.ask.call = subst (λ (a : Ask). GreetsOrLooks a.call) (sym b.asks) tt in
    let same : (next_moment m b.greeting).state.store.tree ≡ m.state.store.tree = look_tree m b.greeting sound one greets in
    finds_first (next_moment m b.greeting) name b.events reader (sound_after m (b.greeting ∷ []) one sound) b.lawful.2 b.alone b.runs tree (same ∙ told)

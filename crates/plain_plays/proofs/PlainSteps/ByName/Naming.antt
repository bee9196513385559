-- The statement that lists all files is a step of a plain machine, where nobody else calls.
use Rattle.std.proofs.Common.{◌≡◌, ◌+◌, ℕ, suc, Bool, true, false, List, [], ◌∷◌, map, filter, Option, Some, Result, Ok, Err, refl, sym, ap, ◌∙◌, inl, inr, subst, arith}
use Rattle.std.specs.Prelude.{slice_get}
use Rattle.plfs_types.specs.Names.{is_logical}
use Rattle.plfs_types.proofs.NameTests.{passes_rule, rule_passes}
use Rattle.script_lang.specs.declared.line.Outcome.TheVariants.{Listed}
use Rattle.script_lang.specs.declared.script.ActorDecl.{ActorDecl}
use Rattle.script_lang.specs.declared.script.Statement.TheVariants.{Ls}
use Rattle.store_api.specs.declared.step.Answer.TheVariants.{Names, NoFolder, NoRoom}
use Rattle.store_api.specs.declared.store.Trouble.TheVariants as trouble
use Rattle.store_api.specs.declared.tree.Room.{Room}
use Rattle.store_api.specs.declared.tree.Tree.{Tree}
use Rattle.store_api.specs.Effect.{Effect, effect}
use Rattle.store_api.specs.Names.{in_byte_order}
use Rattle.store_api.specs.Step.{rooms as all_rooms}
use Rattle.store_laws.specs.Tells.{Tells}
use Rattle.store_laws.proofs.Facts.{acts_told}
use Rattle.mount_model.specs.declared.call.Ask.{Ask}
use Rattle.mount_model.specs.declared.call.Call.TheVariants.{Rooms as AskRooms}
use Rattle.mount_model.specs.declared.reply.Reply.TheVariants.{Rooms}
use Rattle.mount_model.specs.Finding.{AreLogicalOf, NamesRooms, RoomsReply}
use Rattle.mount_model.specs.History.{Event}
use Rattle.mount_model.specs.Making.{Told}
use Rattle.mount_model.specs.Paths.{Name}
use Rattle.mount_model.specs.State.{State}
use Rattle.mount_model.specs.Step.{Answers}
use Rattle.mount_sound.specs.Owed.{IsLawful}
use Rattle.mount_model.specs.Program.{done}
use Rattle.mount_model.specs.declared.stuck.Stuck.{Stuck}
use Rattle.mount_model.specs.Running.{Runs}
use Rattle.reader_laws.specs.Moments.{Moment, moment_after, next_moment}
use Rattle.outcomes.specs.Outcomes.{list_outcome}
use Rattle.actor_core.specs.Names.{names_program, names_told}
use Rattle.writer_flow.specs.declared.handle.WriterHandle.{WriterHandle}
use Rattle.plain_machine.specs.Machine.{Plain, PlainActor, PlainRoom}
use Rattle.mount_model.specs.History.{AreBy}
use Rattle.plain_plays.specs.Mirrors.{Mirrors, MirrorsAt, room_told}
use Rattle.plain_plays.specs.Served.{GoesWell}
use Rattle.plain_plays.specs.Stepping.{HasActor, TakesStep}
use Rattle.plain_plays.proofs.PlainSteps.Reaching.{ended, over_alone}
use Rattle.plain_plays.proofs.PlainSteps.Steps.Alone.{first_call}
use Rattle.plain_plays.proofs.PlainSteps.ByName.Looking.{IsAlike, IsSight, changes_nothing, event_alike}

-- ---- names

-- the machine's rooms have the names of the tree's
same_names : (m : Moment) (k : ℕ) (rs : List Room) (ps : List PlainRoom) → ((n : ℕ) → MirrorsAt m (k + n) (slice_get rs n) (slice_get ps n)) → map (λ (r : Room). r.name) rs ≡ map (λ (room : PlainRoom). room.name) ps
same_names m k [] [] at = refl
same_names m k [] (room ∷ ps) at = absurd (at 0)
same_names m k (r ∷ rs) [] at = absurd (at 0)
same_names m k (r ∷ rs) (room ∷ ps) at =
    let first : r.name ≡ room.name = (at 0).name in
    let rest = same_names m (suc k) rs ps (λ n. subst (λ j. MirrorsAt m j (slice_get rs n) (slice_get ps n)) (next n) (at (suc n))) in
    (λ i. first i ∷ rest i)
  where
    next : (n : ℕ) → k + suc n ≡ suc k + n
    next n = omega arith

-- those that are told are the logical ones among them
kept_passes : (names kept : List Name) → AreLogicalOf names kept → filter is_logical kept ≡ filter is_logical names
kept_passes [] kept none = ap (λ (l : List Name). filter is_logical l) none
kept_passes (n ∷ names) kept (inl (is, (rest, e, more))) = ap (λ (l : List Name). filter is_logical l) e ∙ rw (rule_passes n is) (ap (λ z. n ∷ z) (kept_passes names rest more))
kept_passes (n ∷ names) kept (inr (never, more)) = rw (fails (is_logical n) refl) (kept_passes names kept more)
  where
    fails : (b : Bool) → is_logical n ≡ b → is_logical n ≡ false
    fails true e = absurd (never (passes_rule n e))
    fails false e = e

-- ---- the call

abbrev OfTree : Tree → List Name
OfTree tree = filter is_logical (in_byte_order (map (λ (r : Room). r.name) tree.rooms))

module _ (old new : State) (tree : Tree) (shown : old.store.tree ≡ Some tree) (kept : List Name) (a : NamesRooms old (Rooms kept) new) where
  of_names : (names : List Name) → a.told ≡ Ok (Names names) → AreLogicalOf names kept → filter is_logical kept ≡ OfTree tree
  of_names names is are =
      let t = acts_told all_rooms old.store new.store tree a.told shown a.made in
      let tells : effect tree all_rooms ≡ record { tree = t.0; answer = Names names } = subst (λ o. Tells all_rooms tree o t.0) is t.2 in
      let said : Names (in_byte_order (map (λ (r : Room). r.name) tree.rooms)) ≡ Names names = ap (λ (x : Effect). x.answer) tells in
      let one : in_byte_order (map (λ (r : Room). r.name) tree.rooms) ≡ names = cc in
      kept_passes names kept are ∙ ap (λ (l : List Name). filter is_logical l) (sym one)

  same_kept : (x y : List Name) → Rooms x ≡ Rooms y → x ≡ y
  same_kept x y e = cc

  by : (told : Told) → RoomsReply told (Rooms kept) → a.told ≡ told → filter is_logical kept ≡ OfTree tree
  by (Ok (Names names)) (others, same, are) is = of_names names is (subst (AreLogicalOf names) (sym (same_kept kept others same)) are)
  by (Ok NoRoom) says is = absurd (cc)
  by (Ok NoFolder) says is = absurd (cc)
  by (Ok answer) says is = absurd (cc)
  by (Err trouble.Fault) says is = absurd (cc)
  by (Err trouble.NoMemory) says is = absurd (cc)

  names_now : filter is_logical kept ≡ OfTree tree
  names_now = by a.told a.answered refl

from_none : (n : ℕ) → n ≡ 0 + n
from_none n = omega arith

-- the names of the tree's rooms are those of the machine's
of_machine : (m : Moment) (p : Plain) → Mirrors m p → (tree : Tree) → m.state.store.tree ≡ Some tree → OfTree tree ≡ filter is_logical (in_byte_order (map (λ (room : PlainRoom). room.name) p.rooms))
of_machine m p o tree shown = ap (λ (l : List Name). filter is_logical (in_byte_order l)) (same_names m 0 tree.rooms p.rooms (λ n. subst (λ k. MirrorsAt m k (slice_get tree.rooms n) (slice_get p.rooms n)) (from_none n) (subst (λ t. MirrorsAt m n (room_told t n) (slice_get p.rooms n)) shown (o.rooms n))))

-- A listing of all files tells the machine's names.
pub names_take : (m : Moment) (me : ℕ) (p : Plain) (handle : Option WriterHandle) (actor : PlainActor) (declared : ActorDecl) (events : List Event) (out : Result (List Name) Stuck) → IsLawful m.state events → GoesWell me events → AreBy me events → Mirrors m p → HasActor m me p handle actor → Runs me names_program events out
    → TakesStep m me declared actor p Ls (list_outcome out) (moment_after m events) handle
names_take m me p handle actor declared events out lawful well by o has runs =
    let a = first_call m me AskRooms (λ reply. done (names_told reply)) events out o.sound lawful well by runs in
    elim a.served as (λ _. TakesStep m me declared actor p Ls (list_outcome out) (moment_after m events) handle) [
      | inr (why, told, reason) ↦ absurd reason
      | inl (kept, told) ↦
          let answers = subst (λ x. Answers m.state me AskRooms x a.event.after) told a.answers in
          let on = subst (λ x. Runs me (done (names_told x)) a.rest out) told a.runs in
          let is : out ≡ Ok (filter is_logical kept) = sym (ended me (Ok (filter is_logical kept)) a.rest out on) in
          let same : next_moment m a.event ≡ moment_after m events = ap (moment_after (next_moment m a.event)) (sym (over_alone me (Ok (filter is_logical kept)) a.rest out a.by on)) ∙ a.ends in
          let alike : IsAlike m (next_moment m a.event) = event_alike m o.sound a.event (a.whole.0, a.whole.1, tt) (ap (λ (x : Ask). x.stop) a.asked) (subst (λ (x : Ask). IsSight x.call) (sym a.asked) tt) in
          let names = names_now m.state a.event.after o.sound.shape.tree o.sound.shape.told kept answers ∙ of_machine m p o o.sound.shape.tree o.sound.shape.told in
          subst (λ x. TakesStep m me declared actor p Ls (list_outcome out) x handle) same
          (changes_nothing m (next_moment m a.event) alike a.sound me declared p actor Ls (list_outcome out) handle o has (ap list_outcome is ∙ ap Listed names, refl))
    ]

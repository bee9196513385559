-- What the statement of an opening enters, and under which host, whatever is replied; and what it made there.
use Rattle.std.proofs.Common.{◌≡◌, ◌⊎◌, inl, inr, ℕ, Bool, true, false, nat_eq, List, ◌∷◌, ◌++◌, Option, Some, None, Ok, Err, refl, sym, ap, ◌∙◌, subst, append_assoc, if◌then◌else◌}
use Rattle.std.specs.Prelude.{⊤, Result}
use Rattle.turn_object.specs.Callers.{made_by}
use Rattle.mount_model.specs.Process.{asks, ends, pauses, shares, tells}
use Rattle.mount_model.specs.Program.{done}
use Rattle.mount_model.proofs.Stories.Facts.{entries_both, entries_first}
use Rattle.mount_model.specs.declared.call.Ask.{Ask}
use Rattle.mount_model.specs.declared.call.Call.{Call}
use Rattle.mount_model.specs.declared.call.Call.TheVariants.{Enter, Greet}
use Rattle.mount_model.specs.declared.reply.Reply.{Reply}
use Rattle.mount_model.specs.declared.reply.Reply.TheVariants as reply
use Rattle.mount_model.specs.History.{Event}
use Rattle.mount_model.specs.declared.stuck.Stuck.{Stuck}
use Rattle.mount_model.specs.Running.{unbroken}
use Rattle.script_lang.specs.declared.script.Statement.TheVariants as say
use Rattle.writer_flow.specs.declared.handle.WriterHandle.{WriterHandle}
use Rattle.writer_flow.specs.Ending.{trouble}
use Rattle.writer_flow.specs.Handle.{opened_of}
use Rattle.writer_flow.specs.Opening.{enters, finds_floor, if_done, if_entered, if_floored, if_made, leaves, makes_hostdir, makes_index, makes_log}
use Rattle.outcomes.specs.Outcomes.{open_outcome}
use Rattle.actor_core.specs.declared.kept.Kept.{Kept}
use Rattle.actor_core.specs.declared.kept.Stop.{Stop}
use Rattle.actor_core.specs.Endings.{Ending, gone, opened, stopped}
use Rattle.actor_core.specs.Statements.{disarmed, does, greeted, greeted_work, work_of}
use Rattle.actor_core.specs.Stopping.{carried, due_bytes, is_due, one_nearer}
use Rattle.actor_core.specs.Work.{Work, finishes}
use Rattle.actor_core.specs.Writers.{opens}
use Rattle.headline_laws.proofs.Plays.Facts.{ComesTo}
use Rattle.headline_laws.proofs.Makers.Holds.{TellsSo, none_behind}
use Rattle.headline_laws.proofs.Makers.Opens.{AfterIndex, AfterLog, Behind, HasEntered, IfEnters, IsIndexing, IsNoEnter, IsOpening, LeavesSo, Let, MakesBy, TroubleEnd, enter_or, its_call, makes_by, next_or, no_enter_entered}
use Rattle.headline_laws.proofs.Story.Attributed.{none_there}
use Rattle.headline_laws.proofs.Story.Lines.{entered_or, entered_room, first_entered}

module _ (n : ℕ) (host : ℕ) where
  -- It entered one container under this host, and made an index as the writer that it entered as.
  pub record EntersAndMakes (mine pre : List Event) (ev : Event) (post : List Event) (e : Ending) : Type 0 where
    pub room : ℕ
    pub most : ℕ
    pub writer : ℕ
    pub first : List Event
    pub enter : Event
    pub mid : List Event
    pub is : pre ≡ first ++ enter ∷ mid
    pub own : enter.caller ≡ n
    pub asked : enter.ask.call ≡ Enter room host most
    pub told : enter.reply ≡ reply.Entered writer
    pub room_is : (nothing : ℕ) → entered_room n nothing mine ≡ room
    pub makes : MakesBy n writer mid ev post e

  let_or : (r : Reply) (work : Work) → Let r work → ((w : ℕ) × (r ≡ reply.Entered w) × HasEntered w work) ⊎ TellsSo (λ e. ⊤) work
  let_or (reply.Entered w) work is = inl (w, refl, is)
  let_or r work is = inr is

  if_enters : (one : ℕ → Type 0) (two : Type 0) (call : Call) (room its most : ℕ) → call ≡ Enter room its most → IfEnters call one two → one its
  if_enters one two call room its most is it = subst (λ c. IfEnters c one two) is it

  if_not : (one : ℕ → Type 0) (two : Type 0) (call : Call) → IsNoEnter call → IfEnters call one two → two
  if_not one two (Enter room its most) none it = absurd none
  if_not one two call none it = it

  pub enters_and_makes : (work : Work) (mine : List Event) (spent : List (List Event)) (e : Ending) → IsOpening host work → ComesTo n work mine spent e → (pre : List Event) (ev : Event) (post : List Event) → mine ≡ pre ++ ev ∷ post → ev.caller ≡ n → IsIndexing ev.ask.call → EntersAndMakes mine pre ev post e
  enters_and_makes ends mine spent e free comes pre ev post split own indexing = absurd comes
  enters_and_makes (pauses work) mine spent e free comes pre ev post split own indexing = absurd free
  enters_and_makes (tells end work) mine spent e free comes pre ev post split own indexing = absurd (none_there n mine pre ev post split (ap (made_by n) comes.0) own)
  enters_and_makes (asks q k) mine spent e free m pre ev post split own indexing = elim (next_or n q m.before m.call m.after mine m.all m.none_before pre ev post split own) as (λ _. EntersAndMakes mine pre ev post e) [
    | inl f ↦ absurd (free.0 (subst IsIndexing (its_call n q m.call ev m.asked f.same) indexing))
    | inr b ↦ later b (enter_or q.call) (λ goes. enters_and_makes (k m.call.reply) m.after spent e goes m.goes_on b.mid ev post b.rest own indexing)
  ]
    where
      asked : m.call.ask.call ≡ q.call
      asked = ap (λ (a : Ask). a.call) m.asked

      own_calls : made_by n mine ≡ m.call ∷ made_by n m.after
      own_calls = ap (made_by n) m.all ∙ entries_both n m.before (m.call ∷ m.after) ∙ ap (λ z. z ++ made_by n (m.call ∷ m.after)) m.none_before ∙ entries_first n m.call m.after m.own

      entered_here : (b : Behind n m.call m.before m.after pre ev post) (room its most : ℕ) → q.call ≡ Enter room its most → its ≡ host → ((w : ℕ) × (m.call.reply ≡ reply.Entered w) × HasEntered w (k m.call.reply)) ⊎ TellsSo (λ x. ⊤) (k m.call.reply) → EntersAndMakes mine pre ev post e
      entered_here b room its most is same (inr over) = absurd (none_behind n (λ x. ⊤) (k m.call.reply) m.after spent e over m.goes_on b.mid ev post b.rest own)
      entered_here b room its most is same (inl (w, told, has)) = record {
        room = room;
        most = most;
        writer = w;
        first = m.before;
        enter = m.call;
        mid = b.mid;
        is = b.front;
        own = m.own;
        asked = asked ∙ is ∙ ap (λ h. Enter room h most) same;
        told = told;
        room_is = λ nothing. ap (first_entered nothing) own_calls ∙ ap (λ c. entered_or c (first_entered nothing (made_by n m.after))) (asked ∙ is);
        makes = makes_by n w (k m.call.reply) m.after spent e has m.goes_on b.mid ev post b.rest own indexing;
      }

      later : (b : Behind n m.call m.before m.after pre ev post) → ((room : ℕ) × (its : ℕ) × (most : ℕ) × (q.call ≡ Enter room its most)) ⊎ IsNoEnter q.call → (IsOpening host (k m.call.reply) → EntersAndMakes m.after b.mid ev post e) → EntersAndMakes mine pre ev post e
      later b (inl (room, its, most, is)) rest =
          let it = if_enters (λ x. (x ≡ host) × Let m.call.reply (k m.call.reply)) (IsOpening host (k m.call.reply)) q.call room its most is (free.1 m.call.reply) in
          entered_here b room its most is it.0 (let_or m.call.reply (k m.call.reply) it.1)
      later b (inr none) rest =
          let c = rest (if_not (λ x. (x ≡ host) × Let m.call.reply (k m.call.reply)) (IsOpening host (k m.call.reply)) q.call none (free.1 m.call.reply)) in
          record {
            room = c.room;
            most = c.most;
            writer = c.writer;
            first = m.before ++ m.call ∷ c.first;
            enter = c.enter;
            mid = c.mid;
            is = b.front ∙ ap (λ z. m.before ++ m.call ∷ z) c.is ∙ sym (append_assoc m.before (m.call ∷ c.first) (c.enter ∷ c.mid));
            own = c.own;
            asked = c.asked;
            told = c.told;
            room_is = λ nothing. ap (first_entered nothing) own_calls ∙ no_enter_entered m.call.ask.call (first_entered nothing (made_by n m.after)) (subst IsNoEnter (sym asked) none) ∙ c.room_is nothing;
            makes = c.makes;
          }
  enters_and_makes (shares programs k alone) mine spent e free comes pre ev post split own indexing = absurd free

-- ---- the statement

module _ (kept : Kept) where
  abbrev Then : Option Stop → Result WriterHandle Stuck → Work
  Then left result = finishes (opened kept result)

  abbrev Halted : Work
  Halted = finishes (stopped kept)

  pub trouble_ends : (r : Reply) → TroubleEnd r (open_outcome (Err (trouble r)))
  trouble_ends (reply.Refused why) = (why, refl)
  trouble_ends (reply.Damaged folder file) = tt
  trouble_ends r = tt

  ends_so : (r : Reply) (b : Bool) (armed : Option Stop) → TellsSo (λ e. TroubleEnd r e.outcome) (if b then Halted else carried (done (Err (trouble r))) armed Then Halted)
  ends_so r true armed = tt
  ends_so r false armed = trouble_ends r

  leaves_so : (w : ℕ) (r : Reply) (stop : Option Stop) → LeavesSo r (carried (leaves w (trouble r)) stop Then Halted)
  leaves_so w r stop = ((λ is. is), λ last. ends_so r (is_due stop) (one_nearer stop))

  log_goes : (w cap : ℕ) (r : Reply) (b : Bool) (armed : Option Stop) → AfterLog w r (if b then Halted else carried (if_done w (done (Ok (opened_of w cap))) r) armed Then Halted)
  log_goes w cap r true armed = tt
  log_goes w cap reply.Done false armed = refl
  log_goes w cap r false armed = leaves_so w r armed

  index_by : (w cap : ℕ) (r : Reply) (armed : Option Stop) → AfterIndex w None r (carried (if_done w (makes_log w cap) r) armed Then Halted)
  index_by w cap reply.Done armed = ((λ is. is), (refl, refl, refl, λ last. log_goes w cap last (is_due armed) (one_nearer armed)))
  index_by w cap r armed = leaves_so w r armed

  index_goes : (w cap : ℕ) (r : Reply) (stop : Option Stop) → AfterIndex w (due_bytes stop) r (if is_due stop then Halted else carried (if_done w (makes_log w cap) r) (one_nearer stop) Then Halted)
  index_goes w cap r None = index_by w cap r None
  index_goes w cap r (Some s) = elim (nat_eq s.call 1) as (λ b. AfterIndex w (if b then Some s.bytes else None) r (if b then Halted else carried (if_done w (makes_log w cap) r) (one_nearer (Some s)) Then Halted)) [
    | true ↦ refl
    | false ↦ index_by w cap r (one_nearer (Some s))
  ]

  told_any : (why : Stuck) (b : Bool) (armed : Option Stop) → TellsSo (λ e. ⊤) (if b then Halted else carried (done (Err why)) armed Then Halted)
  told_any why true armed = tt
  told_any why false armed = tt

  left_entered : (w : ℕ) (why : Stuck) (stop : Option Stop) → HasEntered w (carried (leaves w why) stop Then Halted)
  left_entered w why stop = (tt, λ r. told_any why (is_due stop) (one_nearer stop))

  index_entered : (w cap : ℕ) (stop : Option Stop) → HasEntered w (carried (makes_index w cap) stop Then Halted)
  index_entered w cap stop = (refl, λ r. index_goes w cap r stop)

  housed : (w cap : ℕ) (r : Reply) (b : Bool) (armed : Option Stop) → HasEntered w (if b then Halted else carried (if_done w (makes_index w cap) r) armed Then Halted)
  housed w cap r true armed = tt
  housed w cap reply.Done false armed = index_entered w cap armed
  housed w cap r false armed = left_entered w (trouble r) armed

  hostdir_entered : (w cap : ℕ) (stop : Option Stop) → HasEntered w (carried (makes_hostdir w cap) stop Then Halted)
  hostdir_entered w cap stop = (tt, λ r. housed w cap r (is_due stop) (one_nearer stop))

  floored : (w cap : ℕ) (r : Reply) (b : Bool) (armed : Option Stop) → HasEntered w (if b then Halted else carried (if_floored w cap r) armed Then Halted)
  floored w cap r true armed = tt
  floored w cap (reply.Floored floor) false armed = hostdir_entered w cap armed
  floored w cap r false armed = left_entered w (trouble r) armed

  floor_entered : (w cap : ℕ) (stop : Option Stop) → HasEntered w (carried (finds_floor w cap) stop Then Halted)
  floor_entered w cap stop = (tt, λ r. floored w cap r (is_due stop) (one_nearer stop))

  let_so : (cap : ℕ) (r : Reply) (b : Bool) (armed : Option Stop) → Let r (if b then Halted else carried (if_entered cap r) armed Then Halted)
  let_so cap (reply.Entered w) true armed = tt
  let_so cap (reply.Entered w) false armed = floor_entered w cap armed
  let_so cap r true armed = tt
  let_so cap r false armed = tt

  enters_so : (room host cap : ℕ) (stop : Option Stop) → IsOpening host (carried (enters room host cap) stop Then Halted)
  enters_so room host cap stop = ((λ is. is), λ r. (refl, let_so cap r (is_due stop) (one_nearer stop)))

  made_so : (host cap : ℕ) (r : Reply) (b : Bool) (armed : Option Stop) → IsOpening host (if b then Halted else carried (if_made host cap r) armed Then Halted)
  made_so host cap r true armed = tt
  made_so host cap (reply.Room room) false armed = enters_so room host cap armed
  made_so host cap r false armed = tt

  opens_so : (name : List ℕ) (stop : Option Stop) (writer : Option WriterHandle) → IsOpening kept.host (opens kept stop name writer)
  opens_so name stop (Some handle) = tt
  opens_so name stop None = ((λ is. is), λ r. made_so kept.host kept.cap r (is_due stop) (one_nearer stop))

greeted_so : (kept : Kept) (name : List ℕ) → IsOpening kept.host (greeted_work kept (say.Open name))
greeted_so kept name = elim kept.gone as (λ b. IsOpening kept.host (if b then finishes (gone kept) else does (disarmed kept) kept.armed (say.Open name))) [
  | true ↦ tt
  | false ↦ opens_so (disarmed kept) name kept.armed kept.writer
]

-- the law of this file
pub open_free : (kept : Kept) (name : List ℕ) → IsOpening kept.host (work_of kept (say.Open name))
open_free kept name = elim kept.greeted as (λ b. IsOpening kept.host (if b then greeted_work kept (say.Open name) else asks (unbroken Greet) (λ r. greeted_work (greeted kept) (say.Open name)))) [
  | true ↦ greeted_so kept name
  | false ↦ ((λ is. is), λ r. greeted_so (greeted kept) name)
]

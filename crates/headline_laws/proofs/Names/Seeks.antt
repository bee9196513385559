-- The call by which a truncate, a rename or an opening finds or makes its container: before it only a greeting is called, and behind it no other container is held or entered.
use Rattle.std.proofs.Common.{◌≡◌, ◌⊎◌, inl, inr, ℕ, Bool, true, false, List, [], ◌∷◌, ◌++◌, Option, Some, None, Ok, Err, refl, sym, ap, ◌∙◌, subst, append_assoc, if◌then◌else◌}
use Rattle.std.specs.Prelude.{⊤, Result}
use Rattle.turn_object.specs.Callers.{made_by}
use Rattle.mount_model.specs.Process.{asks, ends, pauses, shares, tells}
use Rattle.mount_model.specs.Program.{AsksOnly, Program, done}
use Rattle.mount_model.specs.declared.call.Ask.{Ask}
use Rattle.mount_model.specs.declared.call.Call.{Call}
use Rattle.mount_model.specs.declared.call.Call.TheVariants.{Enter, Find, Greet, Hold, MakeContainer}
use Rattle.mount_model.specs.declared.reply.Refusal.{Refusal}
use Rattle.mount_model.specs.declared.reply.Refusal.TheVariants as refusal
use Rattle.mount_model.specs.declared.reply.Reply.{Reply}
use Rattle.mount_model.specs.declared.reply.Reply.TheVariants as reply
use Rattle.mount_model.specs.declared.stuck.Stuck.{Stuck}
use Rattle.mount_model.specs.declared.stuck.Stuck.TheVariants as stuck
use Rattle.mount_model.specs.History.{Event}
use Rattle.mount_model.specs.FlowListed.{told_by}
use Rattle.mount_model.specs.FlowReplies.{Tries, failure, given, room_in}
use Rattle.mount_model.specs.Paths.{Name, metadata, truncs}
use Rattle.mount_model.specs.Running.{unbroken}
use Rattle.script_lang.specs.declared.line.Outcome.{Outcome}
use Rattle.script_lang.specs.declared.line.Outcome.TheVariants as line
use Rattle.script_lang.specs.declared.line.Why.TheVariants.{AlreadyOpen}
use Rattle.script_lang.specs.declared.script.Statement.{Statement}
use Rattle.script_lang.specs.declared.script.Statement.TheVariants as say
use Rattle.trunc_rename.specs.Holding.{holder_in, holds, or_lets_go}
use Rattle.trunc_rename.specs.Renaming.{moves}
use Rattle.trunc_rename.specs.Tops.{metadata_top, truncs_top}
use Rattle.trunc_rename.specs.Truncating.{lists_metadata, lists_truncs, marks}
use Rattle.writer_flow.specs.declared.handle.WriterHandle.{WriterHandle}
use Rattle.writer_flow.specs.Ending.{trouble}
use Rattle.writer_flow.specs.Handle.{opened_of}
use Rattle.writer_flow.specs.Opening.{enters, if_done, if_entered, if_floored, if_made, leaves, makes_hostdir, makes_index, makes_log}
use Rattle.outcomes.specs.Outcomes.{open_outcome, rename_outcome, stuck_outcome, truncate_outcome, why_of}
use Rattle.actor_core.specs.declared.kept.Kept.{Kept}
use Rattle.actor_core.specs.declared.kept.Stop.{Stop}
use Rattle.actor_core.specs.Endings.{Ending, gone, opened, renamed, stopped, truncated}
use Rattle.actor_core.specs.Statements.{disarmed, does, greeted, greeted_work, work_of}
use Rattle.actor_core.specs.Stopping.{carried, is_due, one_nearer}
use Rattle.actor_core.specs.Work.{Work, finishes}
use Rattle.actor_core.specs.Writers.{opens}
use Rattle.headline_laws.proofs.Plays.Facts.{ComesTo, GoesSo, came_good, carried_goes}
use Rattle.headline_laws.proofs.Story.Attributed.{came_asks, either_part, head_of, none_there, tail_of}

-- ---- what is asked behind it

-- what was told of the container is its number, and none but that container is held or entered; no other is sought or made
abbrev pub Behind : Reply → Call → Type 0
Behind r (Hold room) = r ≡ reply.Room room
Behind r (Enter room host most) = r ≡ reply.Room room
Behind r (MakeContainer name) = ⊥
Behind r (Find name) = ⊥
Behind r call = ⊤

-- it ends neither as if a writer had been open before, nor as if its actor had been stopped
abbrev pub IsSought : Outcome → Type 0
IsSought (line.Refused AlreadyOpen) = ⊥
IsSought line.Gone = ⊥
IsSought other = ⊤

abbrev EndsSought : Ending → Type 0
EndsSought e = IsSought e.outcome

-- it asks for this, and all else behind it, or nothing
abbrev Seeks : Call → Work → Type 0
Seeks call ends = ⊥
Seeks call (pauses work) = ⊥
Seeks call (tells e work) = ⊤
Seeks call (asks q k) = (q.call ≡ call) × ((r : Reply) → GoesSo (Behind r) EndsSought (k r))
Seeks call (shares programs k alone) = ⊥

-- ---- how it ends

refusal_sought : (why : Refusal) → IsSought (line.Refused (why_of why))
refusal_sought refusal.NoRoom = tt
refusal_sought why = tt

stuck_sought : (why : Stuck) → IsSought (stuck_outcome why)
stuck_sought stuck.Fault = tt
stuck_sought (stuck.Damaged folder file place) = tt
stuck_sought (stuck.Refused why) = refusal_sought why

mark_sought : (result : Result ℕ Stuck) → IsSought (truncate_outcome result)
mark_sought (Ok stamp) = tt
mark_sought (Err why) = stuck_sought why

move_sought : (result : Result (Unit {0}) Stuck) → IsSought (rename_outcome result)
move_sought (Ok moved) = tt
move_sought (Err why) = stuck_sought why

open_sought : (result : Result WriterHandle Stuck) → IsSought (open_outcome result)
open_sought (Ok handle) = tt
open_sought (Err why) = stuck_sought why

-- ---- what the programs ask behind it

module _ (r : Reply) where
  abbrev Only : {R : Type 0} → Program Call Reply R → Type 0
  Only p = AsksOnly (Behind r) p

  given_only : {A R : Type 0} (o : Option A) (why : Stuck) (next : A → Tries R) → ((a : A) → Only (next a)) → Only (given o why next)
  given_only None why next only = tt
  given_only (Some a) why next only = only a

  or_go_only : {A R : Type 0} (holder : ℕ) (next : A → Tries R) (result : Result A Stuck) → ((a : A) → Only (next a)) → Only (or_lets_go holder next result)
  or_go_only holder next (Ok a) only = only a
  or_go_only {A} {R} holder next (Err why) only = (tt, λ last. tt)

  marks_only : (size holder top : ℕ) → Only (marks size holder top)
  marks_only size holder top = (tt, λ told. (tt, λ last. tt))

  truncs_only : (size room holder top : ℕ) → Only (lists_truncs size room holder top)
  truncs_only size room holder top = (tt, λ told. or_go_only holder (marks size holder) (told_by truncs (λ names. truncs_top names top) told) (λ next. marks_only size holder next))

  metadata_only : (size room holder : ℕ) → Only (lists_metadata size room holder)
  metadata_only size room holder = (tt, λ told. or_go_only holder (lists_truncs size room holder) (told_by metadata (λ names. metadata_top names 0) told) (λ top. truncs_only size room holder top))

  truncates_only : (size room : ℕ) → r ≡ reply.Room room → Only (holds room (lists_metadata size room))
  truncates_only size room is = (is, λ told. given_only (holder_in told) (failure told) (lists_metadata size room) (λ holder. metadata_only size room holder))

  moves_only : (to : Name) (holder : ℕ) → Only (moves to holder)
  moves_only to holder = (tt, λ told. (tt, λ last. tt))

  renames_only : (to : Name) (room : ℕ) → r ≡ reply.Room room → Only (holds room (moves to))
  renames_only to room is = (is, λ told. given_only (holder_in told) (failure told) (moves to) (λ holder. moves_only to holder))

  leaves_only : (w : ℕ) (why : Stuck) → Only (leaves w why)
  leaves_only w why = (tt, λ told. tt)

  done_only : (w : ℕ) (next : Program Call Reply (Result WriterHandle Stuck)) (told : Reply) → Only next → Only (if_done w next told)
  done_only w next reply.Done only = only
  done_only w next told only = leaves_only w (trouble told)

  log_only : (w cap : ℕ) → Only (makes_log w cap)
  log_only w cap = (tt, λ told. done_only w (done (Ok (opened_of w cap))) told tt)

  index_only : (w cap : ℕ) → Only (makes_index w cap)
  index_only w cap = (tt, λ told. done_only w (makes_log w cap) told (log_only w cap))

  hostdir_only : (w cap : ℕ) → Only (makes_hostdir w cap)
  hostdir_only w cap = (tt, λ told. done_only w (makes_index w cap) told (index_only w cap))

  floored_only : (w cap : ℕ) (told : Reply) → Only (if_floored w cap told)
  floored_only w cap (reply.Floored floor) = hostdir_only w cap
  floored_only w cap told = leaves_only w (trouble told)

  entered_only : (cap : ℕ) (told : Reply) → Only (if_entered cap told)
  entered_only cap (reply.Entered w) = (tt, λ next. floored_only w cap next)
  entered_only cap told = tt

  enters_only : (room host cap : ℕ) → r ≡ reply.Room room → Only (enters room host cap)
  enters_only room host cap is = (is, λ told. entered_only cap told)

-- ---- the statements

module _ (kept : Kept) where
  abbrev Halted : Work
  Halted = finishes (stopped kept)

  -- a program behind the call, the stop among its calls
  goes_on : {R : Type 0} (r : Reply) (p : Program Call Reply R) (b : Bool) (armed : Option Stop) (next : Option Stop → R → Work) → AsksOnly (Behind r) p → ((left : Option Stop) (result : R) → GoesSo (Behind r) EndsSought (next left result)) → GoesSo (Behind r) EndsSought (if b then Halted else carried p armed next Halted)
  goes_on r p true armed next only good = tt
  goes_on r p false armed next only good = carried_goes (Behind r) EndsSought kept p armed next only tt good

  truncate_goes : (size : ℕ) (r : Reply) (b : Bool) (armed : Option Stop) → GoesSo (Behind r) EndsSought (if b then Halted else carried (given (room_in r) (failure r) (λ room. holds room (lists_metadata size room))) armed (λ left result. finishes (truncated kept result)) Halted)
  truncate_goes size (reply.Room room) b armed = goes_on (reply.Room room) (holds room (lists_metadata size room)) b armed (λ left result. finishes (truncated kept result)) (truncates_only (reply.Room room) size room refl) (λ left result. mark_sought result)
  truncate_goes size r b armed = goes_on r (given (room_in r) (failure r) (λ room. holds room (lists_metadata size room))) b armed (λ left result. finishes (truncated kept result)) tt (λ left result. mark_sought result)

  rename_goes : (to : Name) (r : Reply) (b : Bool) (armed : Option Stop) → GoesSo (Behind r) EndsSought (if b then Halted else carried (given (room_in r) (failure r) (λ room. holds room (moves to))) armed (λ left result. finishes (renamed kept result)) Halted)
  rename_goes to (reply.Room room) b armed = goes_on (reply.Room room) (holds room (moves to)) b armed (λ left result. finishes (renamed kept result)) (renames_only (reply.Room room) to room refl) (λ left result. move_sought result)
  rename_goes to r b armed = goes_on r (given (room_in r) (failure r) (λ room. holds room (moves to))) b armed (λ left result. finishes (renamed kept result)) tt (λ left result. move_sought result)

  open_goes : (host cap : ℕ) (r : Reply) (b : Bool) (armed : Option Stop) → GoesSo (Behind r) EndsSought (if b then Halted else carried (if_made host cap r) armed (λ left result. finishes (opened kept result)) Halted)
  open_goes host cap (reply.Room room) b armed = goes_on (reply.Room room) (enters room host cap) b armed (λ left result. finishes (opened kept result)) (enters_only (reply.Room room) room host cap refl) (λ left result. open_sought result)
  open_goes host cap r b armed = goes_on r (if_made host cap r) b armed (λ left result. finishes (opened kept result)) tt (λ left result. open_sought result)

  opens_seek : (stop : Option Stop) (name : Name) (writer : Option WriterHandle) → Seeks (MakeContainer name) (opens kept stop name writer)
  opens_seek stop name (Some handle) = tt
  opens_seek stop name None = (refl, λ r. open_goes kept.host kept.cap r (is_due stop) (one_nearer stop))

-- the call by which each of them finds or makes its container
abbrev pub IsSoughtBy : Statement → Call → Type 0
IsSoughtBy (say.Open name) call = call ≡ MakeContainer name
IsSoughtBy (say.Trunc name size) call = call ≡ Find name
IsSoughtBy (say.Rename name to) call = call ≡ Find name
IsSoughtBy s call = ⊥

does_seek : (kept : Kept) (stop : Option Stop) (s : Statement) (call : Call) → IsSoughtBy s call → Seeks call (does kept stop s)
does_seek kept stop (say.Open name) call is = subst (λ c. Seeks c (does kept stop (say.Open name))) (sym is) (opens_seek kept stop name kept.writer)
does_seek kept stop (say.Trunc name size) call is = (sym is, λ r. truncate_goes kept size r (is_due stop) (one_nearer stop))
does_seek kept stop (say.Rename name to) call is = (sym is, λ r. rename_goes kept to r (is_due stop) (one_nearer stop))
does_seek kept stop s call is = absurd is

greeted_seek : (kept : Kept) (s : Statement) (call : Call) → IsSoughtBy s call → Seeks call (greeted_work kept s)
greeted_seek kept s call is = elim kept.gone as (λ b. Seeks call (if b then finishes (gone kept) else does (disarmed kept) kept.armed s)) [
  | true ↦ tt
  | false ↦ does_seek (disarmed kept) kept.armed s call is
]

-- ---- where it was called

module _ (n : ℕ) (call : Call) where
  -- each call of the caller's own is a greeting
  abbrev pub OnlyGreets : List Event → Type 0
  OnlyGreets events = (a : List Event) (x : Event) (b : List Event) → events ≡ a ++ x ∷ b → x.caller ≡ n → x.ask.call ≡ Greet

  pub record Sought (mine : List Event) (e : Ending) : Type 0 where
    pub before : List Event
    pub event : Event
    pub after : List Event
    pub is : mine ≡ before ++ event ∷ after
    pub own : event.caller ≡ n
    pub asked : event.ask.call ≡ call
    pub greets : OnlyGreets before
    pub behind : (a : List Event) (x : Event) (b : List Event) → after ≡ a ++ x ∷ b → x.caller ≡ n → Behind event.reply x.ask.call
    pub ended : IsSought e.outcome

  -- it was called in these events, or nothing but a greeting was
  abbrev pub SoughtOr : List Event → Ending → Type 0
  SoughtOr mine e = OnlyGreets mine ⊎ Sought mine e

  came : (work : Work) (mine : List Event) (spent : List (List Event)) (e : Ending) → Seeks call work → ComesTo n work mine spent e → SoughtOr mine e
  came ends mine spent e seeks comes = absurd seeks
  came (pauses work) mine spent e seeks comes = absurd seeks
  came (tells end work) mine spent e seeks comes = inl (λ a x b is own. absurd (none_there n mine a x b is (ap (made_by n) comes.0) own))
  came (asks q k) mine spent e seeks m = inr (record {
    before = m.before;
    event = m.call;
    after = m.after;
    is = m.all;
    own = m.own;
    asked = ap (λ (z : Ask). z.call) m.asked ∙ seeks.0;
    greets = λ a x b is own. absurd (none_there n m.before a x b is m.none_before own);
    behind = λ a x b is own. came_asks n (Behind m.call.reply) EndsSought (k m.call.reply) m.after spent e (seeks.1 m.call.reply) m.goes_on a x b is own;
    ended = came_good n (Behind m.call.reply) EndsSought (k m.call.reply) m.after spent e (seeks.1 m.call.reply) m.goes_on;
  })
  came (shares programs k alone) mine spent e seeks comes = absurd seeks

  -- behind a greeting
  greets_more : (first : List Event) (g : Event) (rest : List Event) → made_by n first ≡ [] → g.ask.call ≡ Greet → OnlyGreets rest → OnlyGreets (first ++ g ∷ rest)
  greets_more first g rest none greeting more a x b is own = elim (either_part first (g ∷ rest) a x b is) as (λ _. x.ask.call ≡ Greet) [
    | inl (u, front, later) ↦ absurd (none_there n first a x u front none own)
    | inr (u, front, later) ↦ first_or_later u later
  ]
    where
      first_or_later : (u : List Event) → g ∷ rest ≡ u ++ x ∷ b → x.ask.call ≡ Greet
      first_or_later [] later = ap (λ (z : Event). z.ask.call) (sym (head_of g x rest b later)) ∙ greeting
      first_or_later (y ∷ u) later = more u x b (tail_of g y rest (u ++ x ∷ b) later) own

  then_came : (first : List Event) (g : Event) (rest : List Event) (e : Ending) → made_by n first ≡ [] → g.ask.call ≡ Greet → SoughtOr rest e → SoughtOr (first ++ g ∷ rest) e
  then_came first g rest e none greeting (inl more) = inl (greets_more first g rest none greeting more)
  then_came first g rest e none greeting (inr s) = inr (record {
    before = first ++ g ∷ s.before;
    event = s.event;
    after = s.after;
    is = ap (λ z. first ++ g ∷ z) s.is ∙ sym (append_assoc first (g ∷ s.before) (s.event ∷ s.after));
    own = s.own;
    asked = s.asked;
    greets = greets_more first g s.before none greeting s.greets;
    behind = s.behind;
    ended = s.ended;
  })

  -- the law of this file
  pub sought : (kept : Kept) (s : Statement) (mine : List Event) (spent : List (List Event)) (e : Ending) → IsSoughtBy s call → ComesTo n (work_of kept s) mine spent e → SoughtOr mine e
  sought kept s mine spent e is comes = elim kept.greeted as (λ b. ComesTo n (if b then greeted_work kept s else asks (unbroken Greet) (λ r. greeted_work (greeted kept) s)) mine spent e → SoughtOr mine e) [
    | true ↦ λ c. came (greeted_work kept s) mine spent e (greeted_seek kept s call is) c
    | false ↦ λ m. subst (λ z. SoughtOr z e) (sym m.all) (then_came m.before m.call m.after e m.none_before (ap (λ (z : Ask). z.call) m.asked) (came (greeted_work (greeted kept) s) m.after spent e (greeted_seek (greeted kept) s call is) m.goes_on))
  ] comes

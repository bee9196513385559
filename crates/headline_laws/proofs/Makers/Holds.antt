-- What the statement of a truncate or a rename holds, and marks or moves, and how it ends then, whatever is replied.
use Rattle.std.proofs.Common.{◌≡◌, ◌⊎◌, inl, inr, ℕ, Bool, true, false, nat_eq, List, [], ◌∷◌, ◌++◌, Option, Some, None, Ok, Err, refl, sym, ap, ◌∙◌, subst, append_assoc, if◌then◌else◌}
use Rattle.std.specs.Prelude.{⊤, Result}
use Rattle.std.proofs.lemmas.List.{append-nil}
use Rattle.turn_object.specs.Callers.{made_by}
use Rattle.mount_model.specs.Process.{asks, ends, pauses, shares, tells}
use Rattle.mount_model.specs.Program.{done}
use Rattle.mount_model.proofs.Stories.Facts.{entries_both, entries_first}
use Rattle.mount_model.specs.declared.call.Ask.{Ask}
use Rattle.mount_model.specs.declared.call.Call.{Call}
use Rattle.mount_model.specs.declared.call.Call.TheVariants.{Greet, Hold, Mark, Move, Release}
use Rattle.mount_model.specs.declared.reply.Refusal.{Refusal}
use Rattle.mount_model.specs.declared.reply.Reply.{Reply}
use Rattle.mount_model.specs.declared.reply.Reply.TheVariants as reply
use Rattle.mount_model.specs.History.{Event}
use Rattle.mount_model.specs.Paths.{metadata, truncs}
use Rattle.mount_model.specs.declared.stuck.Stuck.{Stuck}
use Rattle.mount_model.specs.FlowListed.{told_by}
use Rattle.mount_model.specs.FlowReplies.{Tries, failure, given, room_in}
use Rattle.mount_model.specs.Running.{unbroken}
use Rattle.trunc_rename.specs.Holding.{holder_in, holds, lets_go, or_lets_go, released}
use Rattle.trunc_rename.specs.Renaming.{moved, moves, rename_program}
use Rattle.trunc_rename.specs.Tops.{metadata_top, truncs_top}
use Rattle.trunc_rename.specs.Truncating.{lists_metadata, lists_truncs, marked, marks, truncate_program}
use Rattle.script_lang.specs.declared.line.Outcome.{Outcome}
use Rattle.script_lang.specs.declared.line.Outcome.TheVariants as line
use Rattle.script_lang.specs.declared.script.Statement.TheVariants as say
use Rattle.outcomes.specs.Outcomes.{rename_outcome, truncate_outcome}
use Rattle.actor_core.specs.declared.kept.Kept.{Kept}
use Rattle.actor_core.specs.declared.kept.Stop.{Stop}
use Rattle.actor_core.specs.Endings.{Ending, gone, renamed, stopped, truncated}
use Rattle.actor_core.specs.Statements.{disarmed, does, greeted, greeted_work, work_of}
use Rattle.actor_core.specs.Stopping.{carried, due_bytes, is_due, one_nearer}
use Rattle.actor_core.specs.Work.{Work, finishes}
use Rattle.headline_laws.proofs.Plays.Facts.{ComesTo}
use Rattle.headline_laws.proofs.Story.Attributed.{either_part, head_of, none_there, tail_of}
use Rattle.headline_laws.proofs.Story.Lines.{first_held, held_or, held_room}
use Rattle.headline_laws.proofs.Makers.Holding.{IsNoHold}

-- ---- kinds of calls

-- it truncates what is held, or gives it another name
abbrev pub IsMark : Call → Type 0
IsMark (Mark holder size top) = ⊤
IsMark (Move holder to) = ⊤
IsMark call = ⊥

abbrev pub IsMove : Call → Type 0
IsMove (Move holder to) = ⊤
IsMove call = ⊥

mark_or : (call : Call) → IsMark call ⊎ (IsMark call → ⊥)
mark_or (Mark holder size top) = inl tt
mark_or (Move holder to) = inl tt
mark_or call = inr (λ is. is)

pub hold_or : (call : Call) → ((room : ℕ) × (call ≡ Hold room)) ⊎ IsNoHold call
hold_or (Hold room) = inl (room, refl)
hold_or call = inr tt

pub no_hold_held : (call : Call) (later : ℕ) → IsNoHold call → held_or call later ≡ later
no_hold_held (Hold room) later none = absurd none
no_hold_held call later none = refl

-- ---- how it ends behind a mark

abbrev pub IsRefusal : Reply → Type 0
IsRefusal r = (why : Refusal) × (r ≡ reply.Refused why)

-- by what was replied to the mark, and as it let go
abbrev pub MarkEnd : Call → Reply → Reply → Outcome → Type 0
MarkEnd call r last (line.Truncated stamp) = r ≡ reply.Marked stamp
MarkEnd call r last line.Renamed = IsMove call
MarkEnd call r last (line.Refused because) = IsRefusal r ⊎ IsRefusal last
MarkEnd call r last line.Fault = ⊤
MarkEnd call r last line.Stopped = ⊤
MarkEnd call r last (line.Damaged folder file place) = ⊤
MarkEnd call r last other = ⊥

abbrev pub TellsSo : (Ending → Type 0) → Work → Type 0
TellsSo P (tells e work) = P e
TellsSo P work = ⊥

-- it was stopped within the mark, or it lets go and ends
abbrev LetsGo : ℕ → Call → Option ℕ → Reply → Work → Type 0
LetsGo holder call stop r (tells e work) = e.outcome ≡ line.Stopped
LetsGo holder call stop r (asks q k) = (stop ≡ None) × (q.call ≡ Release holder) × ((last : Reply) → TellsSo (λ e. MarkEnd call r last e.outcome) (k last))
LetsGo holder call stop r work = ⊥

-- ---- its calls

abbrev IfMarks : Call → Type 0 → Type 0 → Type 0
IfMarks (Mark holder size top) one other = one
IfMarks (Move holder to) one other = one
IfMarks call one other = other

abbrev IfHolds : Call → (ℕ → Type 0) → Type 0 → Type 0
IfHolds (Hold room) one other = one room
IfHolds call one other = other

-- by this hold it marks, and holds no other container
abbrev MayHolding : ℕ → Call → Type 0
MayHolding holder (Hold room) = ⊥
MayHolding holder (Mark other size top) = other ≡ holder
MayHolding holder (Move other to) = other ≡ holder
MayHolding holder call = ⊤

abbrev HasHold : ℕ → Work → Type 0
HasHold holder ends = ⊤
HasHold holder (pauses work) = ⊥
HasHold holder (tells e work) = ⊤
HasHold holder (asks q k) = MayHolding holder q.call × ((r : Reply) → IfMarks q.call (LetsGo holder q.call q.stop r (k r)) (HasHold holder (k r)))
HasHold holder (shares programs k alone) = ⊥

-- it was granted, or it is at its end
abbrev Granted : Reply → Work → Type 0
Granted (reply.Holding holder) work = HasHold holder work
Granted r work = TellsSo (λ e. ⊤) work

-- it marks nothing before it holds
abbrev IsFree : Work → Type 0
IsFree ends = ⊤
IsFree (pauses work) = ⊥
IsFree (tells e work) = ⊤
IsFree (asks q k) = (IsMark q.call → ⊥) × ((r : Reply) → IfHolds q.call (λ room. Granted r (k r)) (IsFree (k r)))
IsFree (shares programs k alone) = ⊥

-- ---- where it marked

module _ (n : ℕ) where
  pub data MarkedSo (ev : Event) (holder : ℕ) (post : List Event) (e : Ending) : Type 0 where
    halted : e.outcome ≡ line.Stopped → post ≡ [] → MarkedSo ev holder post e
    let_go : (u : List Event) (last : Event) (rest : List Event) → post ≡ u ++ last ∷ rest → made_by n u ≡ [] → last.caller ≡ n → last.ask.call ≡ Release holder → ev.ask.stop ≡ None → MarkEnd ev.ask.call ev.reply last.reply e.outcome → rest ≡ [] → MarkedSo ev holder post e

  pub told_none : (P : Ending → Type 0) (work : Work) (mine : List Event) (spent : List (List Event)) (e : Ending) → TellsSo P work → ComesTo n work mine spent e → (mine ≡ []) × P e
  told_none P ends mine spent e is comes = absurd is
  told_none P (pauses work) mine spent e is comes = absurd is
  told_none P (tells end work) mine spent e is comes = (comes.0, subst P comes.2 is)
  told_none P (asks q k) mine spent e is comes = absurd is
  told_none P (shares programs k alone) mine spent e is comes = absurd is

  -- nothing is called behind its end
  pub none_behind : (P : Ending → Type 0) (work : Work) (mine : List Event) (spent : List (List Event)) (e : Ending) → TellsSo P work → ComesTo n work mine spent e → (pre : List Event) (ev : Event) (post : List Event) → mine ≡ pre ++ ev ∷ post → ev.caller ≡ n → ⊥
  none_behind P work mine spent e is comes pre ev post split own = none_there n mine pre ev post split (ap (made_by n) (told_none P work mine spent e is comes).0) own

  went_on : (holder : ℕ) (ev : Event) (work : Work) (mine : List Event) (spent : List (List Event)) (e : Ending) → LetsGo holder ev.ask.call ev.ask.stop ev.reply work → ComesTo n work mine spent e → MarkedSo ev holder mine e
  went_on holder ev ends mine spent e is comes = absurd is
  went_on holder ev (pauses work) mine spent e is comes = absurd is
  went_on holder ev (tells end work) mine spent e is comes = halted (ap (λ (x : Ending). x.outcome) (sym comes.2) ∙ is) comes.0
  went_on holder ev (asks q k) mine spent e is m =
      let over = told_none (λ x. MarkEnd ev.ask.call ev.reply m.call.reply x.outcome) (k m.call.reply) m.after spent e (is.2 m.call.reply) m.goes_on in
      let_go m.before m.call m.after m.all m.none_before m.own (ap (λ (a : Ask). a.call) m.asked ∙ is.1) is.0 over.1 over.0
  went_on holder ev (shares programs k alone) mine spent e is comes = absurd is

  -- behind a mark it marks no more
  no_more : (holder : ℕ) (call : Call) (stop : Option ℕ) (r : Reply) (work : Work) (mine : List Event) (spent : List (List Event)) (e : Ending) → LetsGo holder call stop r work → ComesTo n work mine spent e → (pre : List Event) (ev : Event) (post : List Event) → mine ≡ pre ++ ev ∷ post → ev.caller ≡ n → IsMark ev.ask.call → ⊥
  no_more holder call stop r ends mine spent e is comes pre ev post split own marks = absurd is
  no_more holder call stop r (pauses work) mine spent e is comes pre ev post split own marks = absurd is
  no_more holder call stop r (tells end work) mine spent e is comes pre ev post split own marks = none_there n mine pre ev post split (ap (made_by n) comes.0) own
  no_more holder call stop r (asks q k) mine spent e is m pre ev post split own marks = elim (either_part m.before (m.call ∷ m.after) pre ev post (sym m.all ∙ split)) as (λ _. ⊥) [
    | inl (u, front, later) ↦ none_there n m.before pre ev u front m.none_before own
    | inr (u, front, later) ↦ first_or_later u later
  ]
    where
      first_or_later : (u : List Event) → m.call ∷ m.after ≡ u ++ ev ∷ post → ⊥
      first_or_later [] later = subst IsMark (ap (λ (x : Event). x.ask.call) (sym (head_of m.call ev m.after post later)) ∙ ap (λ (a : Ask). a.call) m.asked ∙ is.1) marks
      first_or_later (y ∷ u) later = none_behind (λ x. MarkEnd call r m.call.reply x.outcome) (k m.call.reply) m.after spent e (is.2 m.call.reply) m.goes_on u ev post (tail_of m.call y m.after (u ++ ev ∷ post) later) own
  no_more holder call stop r (shares programs k alone) mine spent e is comes pre ev post split own marks = absurd is

  -- so it calls nothing of that kind behind it
  pub marks_alone : (ev : Event) (holder : ℕ) (post : List Event) (e : Ending) → MarkedSo ev holder post e → (a : List Event) (x : Event) (b : List Event) → post ≡ a ++ x ∷ b → x.caller ≡ n → IsMark x.ask.call → ⊥
  marks_alone ev holder post e (halted is over) a x b split own is_mark = none_there n post a x b split (ap (made_by n) over) own
  marks_alone ev holder post e (let_go u last rest all none its asked stop told over) a x b split own is_mark = elim (either_part u (last ∷ rest) a x b (sym all ∙ split)) as (λ _. ⊥) [
    | inl (v, front, later) ↦ none_there n u a x v front none own
    | inr (v, front, later) ↦ first_or_later v later
  ]
    where
      first_or_later : (v : List Event) → last ∷ rest ≡ v ++ x ∷ b → ⊥
      first_or_later [] is = subst IsMark (ap (λ (y : Event). y.ask.call) (sym (head_of last x rest b is)) ∙ asked) is_mark
      first_or_later (y ∷ v) is = none_there n rest v x b (tail_of last y rest (v ++ x ∷ b) is) (ap (made_by n) over) own

  one_call : (one other : Type 0) (call : Call) → IsMark call → IfMarks call one other → one
  one_call one other (Mark holder size top) is it = it
  one_call one other (Move holder to) is it = it
  one_call one other call is it = absurd is

  other_call : (one other : Type 0) (call : Call) → (IsMark call → ⊥) → IfMarks call one other → other
  other_call one other (Mark holder size top) not it = absurd (not tt)
  other_call one other (Move holder to) not it = absurd (not tt)
  other_call one other call not it = it

  its_holder : (holder : ℕ) (call : Call) (other size top : ℕ) → call ≡ Mark other size top → MayHolding holder call → other ≡ holder
  its_holder holder call other size top is may = subst (MayHolding holder) is may

  moved_holder : (holder : ℕ) (call : Call) (other : ℕ) (to : List ℕ) → call ≡ Move other to → MayHolding holder call → other ≡ holder
  moved_holder holder call other to is may = subst (MayHolding holder) is may

  no_other_hold : (holder : ℕ) (call : Call) → MayHolding holder call → IsNoHold call
  no_other_hold holder (Hold room) may = absurd may
  no_other_hold holder call may = tt

  -- It marked by this hold, and held no other container before.
  pub record MarksBy (holder : ℕ) (pre : List Event) (ev : Event) (post : List Event) (e : Ending) : Type 0 where
    pub no_holds : (a : List Event) (x : Event) (b : List Event) → pre ≡ a ++ x ∷ b → x.caller ≡ n → IsNoHold x.ask.call
    pub its : (other size top : ℕ) → ev.ask.call ≡ Mark other size top → other ≡ holder
    pub moves_it : (other : ℕ) (to : List ℕ) → ev.ask.call ≡ Move other to → other ≡ holder
    pub ended : MarkedSo ev holder post e

  marks_by : (holder : ℕ) (work : Work) (mine : List Event) (spent : List (List Event)) (e : Ending) → HasHold holder work → ComesTo n work mine spent e → (pre : List Event) (ev : Event) (post : List Event) → mine ≡ pre ++ ev ∷ post → ev.caller ≡ n → IsMark ev.ask.call → MarksBy holder pre ev post e
  marks_by holder ends mine spent e has comes pre ev post split own marks = absurd comes
  marks_by holder (pauses work) mine spent e has comes pre ev post split own marks = absurd has
  marks_by holder (tells end work) mine spent e has comes pre ev post split own marks = absurd (none_there n mine pre ev post split (ap (made_by n) comes.0) own)
  marks_by holder (asks q k) mine spent e has m pre ev post split own marks = elim (either_part m.before (m.call ∷ m.after) pre ev post (sym m.all ∙ split)) as (λ _. MarksBy holder pre ev post e) [
    | inl (u, front, later) ↦ absurd (none_there n m.before pre ev u front m.none_before own)
    | inr (u, front, later) ↦ first_or_later u front later (λ goes v more. marks_by holder (k m.call.reply) m.after spent e goes m.goes_on v ev post more own marks)
  ]
    where
      asked : m.call.ask.call ≡ q.call
      asked = ap (λ (a : Ask). a.call) m.asked

      here : m.call ≡ ev → m.after ≡ post → pre ≡ m.before ++ [] → MarksBy holder pre ev post e
      here same rest front =
          let its_call : ev.ask.call ≡ q.call = ap (λ (x : Event). x.ask.call) (sym same) ∙ asked in
          let goes : LetsGo holder q.call q.stop m.call.reply (k m.call.reply) = one_call (LetsGo holder q.call q.stop m.call.reply (k m.call.reply)) (HasHold holder (k m.call.reply)) q.call (subst IsMark its_call marks) (has.1 m.call.reply) in
          let there : LetsGo holder m.call.ask.call m.call.ask.stop m.call.reply (k m.call.reply) = subst (λ (a : Ask). LetsGo holder a.call a.stop m.call.reply (k m.call.reply)) (sym m.asked) goes in
          record {
            no_holds = λ a x b is its. absurd (none_there n m.before a x b (sym (append-nil m.before) ∙ sym front ∙ is) m.none_before its);
            its = λ other size top is. its_holder holder q.call other size top (sym its_call ∙ is) has.0;
            moves_it = λ other to is. moved_holder holder q.call other to (sym its_call ∙ is) has.0;
            ended = subst (λ z. MarkedSo ev holder z e) rest (subst (λ x. MarkedSo x holder m.after e) same (went_on holder m.call (k m.call.reply) m.after spent e there m.goes_on));
          }

      before_it : (y : Event) (u : List Event) → pre ≡ m.before ++ y ∷ u → m.call ≡ y → MarksBy holder u ev post e → (a : List Event) (x : Event) (b : List Event) → pre ≡ a ++ x ∷ b → x.caller ≡ n → IsNoHold x.ask.call
      before_it y u front same c a x b is its = elim (either_part m.before (y ∷ u) a x b (sym front ∙ is)) as (λ _. IsNoHold x.ask.call) [
        | inl (v, early, rest) ↦ absurd (none_there n m.before a x v early m.none_before its)
        | inr (v, early, rest) ↦ in_it v rest
      ]
        where
          in_it : (v : List Event) → y ∷ u ≡ v ++ x ∷ b → IsNoHold x.ask.call
          in_it [] rest = subst IsNoHold (sym (ap (λ (z : Event). z.ask.call) (sym (head_of y x u b rest) ∙ sym same) ∙ asked)) (no_other_hold holder q.call has.0)
          in_it (z ∷ v) rest = c.no_holds v x b (tail_of y z u (v ++ x ∷ b) rest) its

      first_or_later : (u : List Event) → pre ≡ m.before ++ u → m.call ∷ m.after ≡ u ++ ev ∷ post → (HasHold holder (k m.call.reply) → (v : List Event) → m.after ≡ v ++ ev ∷ post → MarksBy holder v ev post e) → MarksBy holder pre ev post e
      first_or_later [] front later rest = here (head_of m.call ev m.after post later) (tail_of m.call ev m.after post later) front
      first_or_later (y ∷ u) front later rest = elim (mark_or q.call) as (λ _. MarksBy holder pre ev post e) [
        | inl is ↦ absurd (no_more holder q.call q.stop m.call.reply (k m.call.reply) m.after spent e (one_call (LetsGo holder q.call q.stop m.call.reply (k m.call.reply)) (HasHold holder (k m.call.reply)) q.call is (has.1 m.call.reply)) m.goes_on u ev post (tail_of m.call y m.after (u ++ ev ∷ post) later) own marks)
        | inr not ↦
            let c = rest (other_call (LetsGo holder q.call q.stop m.call.reply (k m.call.reply)) (HasHold holder (k m.call.reply)) q.call not (has.1 m.call.reply)) u (tail_of m.call y m.after (u ++ ev ∷ post) later) in
            record { no_holds = before_it y u front (head_of m.call y m.after (u ++ ev ∷ post) later) c; its = c.its; moves_it = c.moves_it; ended = c.ended }
      ]
  marks_by holder (shares programs k alone) mine spent e has comes pre ev post split own marks = absurd has

  -- It held one container, and marked there by that hold.
  pub record HoldsAndMarks (mine pre : List Event) (ev : Event) (post : List Event) (e : Ending) : Type 0 where
    pub room : ℕ
    pub holder : ℕ
    pub first : List Event
    pub hold : Event
    pub mid : List Event
    pub is : pre ≡ first ++ hold ∷ mid
    pub own : hold.caller ≡ n
    pub asked : hold.ask.call ≡ Hold room
    pub told : hold.reply ≡ reply.Holding holder
    pub room_is : (nothing : ℕ) → held_room n nothing mine ≡ room
    pub marks : MarksBy holder mid ev post e

  granted_or : (r : Reply) (work : Work) → Granted r work → ((holder : ℕ) × (r ≡ reply.Holding holder) × HasHold holder work) ⊎ TellsSo (λ e. ⊤) work
  granted_or (reply.Holding holder) work is = inl (holder, refl, is)
  granted_or r work is = inr is

  if_holds : (one : ℕ → Type 0) (other : Type 0) (call : Call) (room : ℕ) → call ≡ Hold room → IfHolds call one other → one room
  if_holds one other call room is it = subst (λ c. IfHolds c one other) is it

  if_not : (one : ℕ → Type 0) (other : Type 0) (call : Call) → IsNoHold call → IfHolds call one other → other
  if_not one other (Hold room) none it = absurd none
  if_not one other call none it = it

  pub holds_and_marks : (work : Work) (mine : List Event) (spent : List (List Event)) (e : Ending) → IsFree work → ComesTo n work mine spent e → (pre : List Event) (ev : Event) (post : List Event) → mine ≡ pre ++ ev ∷ post → ev.caller ≡ n → IsMark ev.ask.call → HoldsAndMarks mine pre ev post e
  holds_and_marks ends mine spent e free comes pre ev post split own marks = absurd comes
  holds_and_marks (pauses work) mine spent e free comes pre ev post split own marks = absurd free
  holds_and_marks (tells end work) mine spent e free comes pre ev post split own marks = absurd (none_there n mine pre ev post split (ap (made_by n) comes.0) own)
  holds_and_marks (asks q k) mine spent e free m pre ev post split own marks = elim (either_part m.before (m.call ∷ m.after) pre ev post (sym m.all ∙ split)) as (λ _. HoldsAndMarks mine pre ev post e) [
    | inl (u, front, later) ↦ absurd (none_there n m.before pre ev u front m.none_before own)
    | inr (u, front, later) ↦ first_or_later u front later (λ goes v more. holds_and_marks (k m.call.reply) m.after spent e goes m.goes_on v ev post more own marks)
  ]
    where
      asked : m.call.ask.call ≡ q.call
      asked = ap (λ (a : Ask). a.call) m.asked

      own_calls : made_by n mine ≡ m.call ∷ made_by n m.after
      own_calls = ap (made_by n) m.all ∙ entries_both n m.before (m.call ∷ m.after) ∙ ap (λ z. z ++ made_by n (m.call ∷ m.after)) m.none_before ∙ entries_first n m.call m.after m.own

      first_or_later : (u : List Event) → pre ≡ m.before ++ u → m.call ∷ m.after ≡ u ++ ev ∷ post → (IsFree (k m.call.reply) → (v : List Event) → m.after ≡ v ++ ev ∷ post → HoldsAndMarks m.after v ev post e) → HoldsAndMarks mine pre ev post e
      first_or_later [] front later rest = absurd (free.0 (subst IsMark (ap (λ (x : Event). x.ask.call) (sym (head_of m.call ev m.after post later)) ∙ asked) marks))
      first_or_later (y ∷ u) front later rest =
          let same : m.call ≡ y = head_of m.call y m.after (u ++ ev ∷ post) later in
          let more : m.after ≡ u ++ ev ∷ post = tail_of m.call y m.after (u ++ ev ∷ post) later in
          let here : pre ≡ m.before ++ m.call ∷ u = front ∙ ap (λ x. m.before ++ x ∷ u) (sym same) in
          elim (hold_or q.call) as (λ _. HoldsAndMarks mine pre ev post e) [
            | inl (room, is) ↦ elim (granted_or m.call.reply (k m.call.reply) (if_holds (λ x. Granted m.call.reply (k m.call.reply)) (IsFree (k m.call.reply)) q.call room is (free.1 m.call.reply))) as (λ _. HoldsAndMarks mine pre ev post e) [
              | inr over ↦ absurd (none_behind (λ x. ⊤) (k m.call.reply) m.after spent e over m.goes_on u ev post more own)
              | inl (holder, told, has) ↦ record {
                room = room;
                holder = holder;
                first = m.before;
                hold = m.call;
                mid = u;
                is = here;
                own = m.own;
                asked = asked ∙ is;
                told = told;
                room_is = λ nothing. ap (first_held nothing) own_calls ∙ ap (λ c. held_or c (first_held nothing (made_by n m.after))) (asked ∙ is);
                marks = marks_by holder (k m.call.reply) m.after spent e has m.goes_on u ev post more own marks;
              }
            ]
            | inr none ↦
                let c = rest (if_not (λ x. Granted m.call.reply (k m.call.reply)) (IsFree (k m.call.reply)) q.call none (free.1 m.call.reply)) u more in
                record {
                  room = c.room;
                  holder = c.holder;
                  first = m.before ++ m.call ∷ c.first;
                  hold = c.hold;
                  mid = c.mid;
                  is = here ∙ ap (λ z. m.before ++ m.call ∷ z) c.is ∙ sym (append_assoc m.before (m.call ∷ c.first) (c.hold ∷ c.mid));
                  own = c.own;
                  asked = c.asked;
                  told = c.told;
                  room_is = λ nothing. ap (first_held nothing) own_calls ∙ no_hold_held m.call.ask.call (first_held nothing (made_by n m.after)) (subst IsNoHold (sym asked) none) ∙ c.room_is nothing;
                  marks = c.marks;
                }
          ]
  holds_and_marks (shares programs k alone) mine spent e free comes pre ev post split own marks = absurd free

-- ---- the statement

module _ (kept : Kept) where
  abbrev Then : Option Stop → Result ℕ Stuck → Work
  Then left result = finishes (truncated kept result)

  abbrev Halted : Work
  Halted = finishes (stopped kept)

  mark_ends : (call : Call) (r last : Reply) → MarkEnd call r last (truncate_outcome (released (marked r) last))
  mark_ends call (reply.Marked stamp) reply.Done = refl
  mark_ends call (reply.Marked stamp) (reply.Refused why) = inr (why, refl)
  mark_ends call (reply.Marked stamp) (reply.Damaged folder file) = tt
  mark_ends call (reply.Marked stamp) last = tt
  mark_ends call (reply.Refused why) last = inl (why, refl)
  mark_ends call (reply.Damaged folder file) last = tt
  mark_ends call r last = tt

  ends_so : (call : Call) (r last : Reply) (b : Bool) (armed : Option Stop) → TellsSo (λ e. MarkEnd call r last e.outcome) (if b then Halted else carried (done (released (marked r) last)) armed Then Halted)
  ends_so call r last true armed = tt
  ends_so call r last false armed = mark_ends call r last

  goes_so : (holder : ℕ) (call : Call) (r : Reply) (stop : Option Stop) → LetsGo holder call (due_bytes stop) r (if is_due stop then Halted else carried (lets_go holder (marked r)) (one_nearer stop) Then Halted)
  goes_so holder call r None = (refl, refl, λ last. ends_so call r last false None)
  goes_so holder call r (Some s) = elim (nat_eq s.call 1) as (λ b. LetsGo holder call (if b then Some s.bytes else None) r (if b then Halted else carried (lets_go holder (marked r)) (one_nearer (Some s)) Then Halted)) [
    | true ↦ refl
    | false ↦ (refl, refl, λ last. ends_so call r last (is_due (one_nearer (Some s))) (one_nearer (one_nearer (Some s))))
  ]

  halted_or : (holder : ℕ) (b : Bool) (work : Work) → HasHold holder work → HasHold holder (if b then Halted else work)
  halted_or holder true work has = tt
  halted_or holder false work has = has

  marks_so : (holder size top : ℕ) (stop : Option Stop) → HasHold holder (carried (marks size holder top) stop Then Halted)
  marks_so holder size top stop = (refl, λ r. goes_so holder (Mark holder size top) r stop)

  troubled : (holder : ℕ) (why : Stuck) (stop : Option Stop) → HasHold holder (carried (lets_go holder (Err why)) stop Then Halted)
  troubled holder why stop = (tt, λ r. halted_or holder (is_due stop) (carried (done (released (Err why) r)) (one_nearer stop) Then Halted) tt)

  or_goes : (holder : ℕ) (next : ℕ → Tries ℕ) (result : Result ℕ Stuck) (stop : Option Stop) → ((top : ℕ) (armed : Option Stop) → HasHold holder (carried (next top) armed Then Halted)) → HasHold holder (carried (or_lets_go holder next result) stop Then Halted)
  or_goes holder next (Ok top) stop goes = goes top stop
  or_goes holder next (Err why) stop goes = troubled holder why stop

  truncs_so : (size room holder top : ℕ) (stop : Option Stop) → HasHold holder (carried (lists_truncs size room holder top) stop Then Halted)
  truncs_so size room holder top stop = (
    tt,
    λ r. halted_or holder (is_due stop) (carried (or_lets_go holder (marks size holder) (told_by truncs (λ names. truncs_top names top) r)) (one_nearer stop) Then Halted)
        (or_goes holder (marks size holder) (told_by truncs (λ names. truncs_top names top) r) (one_nearer stop) (λ next armed. marks_so holder size next armed)),
  )

  metadata_so : (size room holder : ℕ) (stop : Option Stop) → HasHold holder (carried (lists_metadata size room holder) stop Then Halted)
  metadata_so size room holder stop = (
    tt,
    λ r. halted_or holder (is_due stop) (carried (or_lets_go holder (lists_truncs size room holder) (told_by metadata (λ names. metadata_top names 0) r)) (one_nearer stop) Then Halted)
        (or_goes holder (lists_truncs size room holder) (told_by metadata (λ names. metadata_top names 0) r) (one_nearer stop) (λ top armed. truncs_so size room holder top armed)),
  )

  granted_so : (size room : ℕ) (r : Reply) (b : Bool) (stop : Option Stop) → Granted r (if b then Halted else carried (given (holder_in r) (failure r) (lists_metadata size room)) stop Then Halted)
  granted_so size room (reply.Holding holder) true stop = tt
  granted_so size room (reply.Holding holder) false stop = metadata_so size room holder stop
  granted_so size room r true stop = tt
  granted_so size room r false stop = tt

  holds_so : (size room : ℕ) (stop : Option Stop) → IsFree (carried (holds room (lists_metadata size room)) stop Then Halted)
  holds_so size room stop = ((λ is. is), λ r. granted_so size room r (is_due stop) (one_nearer stop))

  found_so : (size : ℕ) (r : Reply) (b : Bool) (stop : Option Stop) → IsFree (if b then Halted else carried (given (room_in r) (failure r) (λ room. holds room (lists_metadata size room))) stop Then Halted)
  found_so size r true stop = tt
  found_so size (reply.Room room) false stop = holds_so size room stop
  found_so size r false stop = tt

  program_so : (name : List ℕ) (size : ℕ) (stop : Option Stop) → IsFree (carried (truncate_program name size) stop Then Halted)
  program_so name size stop = ((λ is. is), λ r. found_so size r (is_due stop) (one_nearer stop))

greeted_so : (kept : Kept) (name : List ℕ) (size : ℕ) → IsFree (greeted_work kept (say.Trunc name size))
greeted_so kept name size = elim kept.gone as (λ b. IsFree (if b then finishes (gone kept) else does (disarmed kept) kept.armed (say.Trunc name size))) [
  | true ↦ tt
  | false ↦ program_so (disarmed kept) name size kept.armed
]

-- the law of this file
pub truncate_free : (kept : Kept) (name : List ℕ) (size : ℕ) → IsFree (work_of kept (say.Trunc name size))
truncate_free kept name size = elim kept.greeted as (λ b. IsFree (if b then greeted_work kept (say.Trunc name size) else asks (unbroken Greet) (λ r. greeted_work (greeted kept) (say.Trunc name size)))) [
  | true ↦ greeted_so kept name size
  | false ↦ ((λ is. is), λ r. greeted_so (greeted kept) name size)
]

-- ---- the statement of a rename

module _ (kept : Kept) where
  abbrev Next : Option Stop → Result (Unit {0}) Stuck → Work
  Next left result = finishes (renamed kept result)

  abbrev Ended : Work
  Ended = finishes (stopped kept)

  move_ends : (holder : ℕ) (to : List ℕ) (r last : Reply) → MarkEnd (Move holder to) r last (rename_outcome (released (moved r) last))
  move_ends holder to reply.Done reply.Done = tt
  move_ends holder to reply.Done (reply.Refused why) = inr (why, refl)
  move_ends holder to reply.Done (reply.Damaged folder file) = tt
  move_ends holder to reply.Done last = tt
  move_ends holder to (reply.Refused why) last = inl (why, refl)
  move_ends holder to (reply.Damaged folder file) last = tt
  move_ends holder to r last = tt

  move_over : (holder : ℕ) (to : List ℕ) (r last : Reply) (b : Bool) (armed : Option Stop) → TellsSo (λ e. MarkEnd (Move holder to) r last e.outcome) (if b then Ended else carried (done (released (moved r) last)) armed Next Ended)
  move_over holder to r last true armed = tt
  move_over holder to r last false armed = move_ends holder to r last

  move_goes : (holder : ℕ) (to : List ℕ) (r : Reply) (stop : Option Stop) → LetsGo holder (Move holder to) (due_bytes stop) r (if is_due stop then Ended else carried (lets_go holder (moved r)) (one_nearer stop) Next Ended)
  move_goes holder to r None = (refl, refl, λ last. move_over holder to r last false None)
  move_goes holder to r (Some s) = elim (nat_eq s.call 1) as (λ b. LetsGo holder (Move holder to) (if b then Some s.bytes else None) r (if b then Ended else carried (lets_go holder (moved r)) (one_nearer (Some s)) Next Ended)) [
    | true ↦ refl
    | false ↦ (refl, refl, λ last. move_over holder to r last (is_due (one_nearer (Some s))) (one_nearer (one_nearer (Some s))))
  ]

  moves_so : (holder : ℕ) (to : List ℕ) (stop : Option Stop) → HasHold holder (carried (moves to holder) stop Next Ended)
  moves_so holder to stop = (refl, λ r. move_goes holder to r stop)

  move_granted : (to : List ℕ) (r : Reply) (b : Bool) (stop : Option Stop) → Granted r (if b then Ended else carried (given (holder_in r) (failure r) (moves to)) stop Next Ended)
  move_granted to (reply.Holding holder) true stop = tt
  move_granted to (reply.Holding holder) false stop = moves_so holder to stop
  move_granted to r true stop = tt
  move_granted to r false stop = tt

  move_holds : (to : List ℕ) (room : ℕ) (stop : Option Stop) → IsFree (carried (holds room (moves to)) stop Next Ended)
  move_holds to room stop = ((λ is. is), λ r. move_granted to r (is_due stop) (one_nearer stop))

  move_found : (to : List ℕ) (r : Reply) (b : Bool) (stop : Option Stop) → IsFree (if b then Ended else carried (given (room_in r) (failure r) (λ room. holds room (moves to))) stop Next Ended)
  move_found to r true stop = tt
  move_found to (reply.Room room) false stop = move_holds to room stop
  move_found to r false stop = tt

  rename_so : (name to : List ℕ) (stop : Option Stop) → IsFree (carried (rename_program name to) stop Next Ended)
  rename_so name to stop = ((λ is. is), λ r. move_found to r (is_due stop) (one_nearer stop))

rename_greeted : (kept : Kept) (name to : List ℕ) → IsFree (greeted_work kept (say.Rename name to))
rename_greeted kept name to = elim kept.gone as (λ b. IsFree (if b then finishes (gone kept) else does (disarmed kept) kept.armed (say.Rename name to))) [
  | true ↦ tt
  | false ↦ rename_so (disarmed kept) name to kept.armed
]

pub rename_free : (kept : Kept) (name to : List ℕ) → IsFree (work_of kept (say.Rename name to))
rename_free kept name to = elim kept.greeted as (λ b. IsFree (if b then greeted_work kept (say.Rename name to) else asks (unbroken Greet) (λ r. greeted_work (greeted kept) (say.Rename name to)))) [
  | true ↦ rename_greeted kept name to
  | false ↦ ((λ is. is), λ r. rename_greeted (greeted kept) name to)
]

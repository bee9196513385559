-- What the statement of an opening enters and makes, and how it ends then, whatever is replied.
use Rattle.std.proofs.Common.{◌≡◌, ◌⊎◌, inl, inr, ℕ, List, [], ◌∷◌, ◌++◌, Option, None, refl, sym, ap, ◌∙◌, subst}
use Rattle.std.specs.Prelude.{⊤}
use Rattle.std.proofs.lemmas.List.{append-nil}
use Rattle.turn_object.specs.Callers.{made_by}
use Rattle.mount_model.specs.Process.{asks, ends, pauses, shares, tells}
use Rattle.mount_model.specs.declared.call.Ask.{Ask}
use Rattle.mount_model.specs.declared.call.Call.{Call}
use Rattle.mount_model.specs.declared.call.Call.TheVariants.{Enter, Exit, MakeIndex, MakeLog}
use Rattle.mount_model.specs.declared.reply.Reply.{Reply}
use Rattle.mount_model.specs.declared.reply.Reply.TheVariants as reply
use Rattle.mount_model.specs.History.{Event}
use Rattle.script_lang.specs.declared.line.Outcome.{Outcome}
use Rattle.script_lang.specs.declared.line.Outcome.TheVariants as line
use Rattle.actor_core.specs.Endings.{Ending}
use Rattle.actor_core.specs.Work.{Work}
use Rattle.headline_laws.proofs.Plays.Facts.{ComesTo}
use Rattle.headline_laws.proofs.Contents.Unwritten.{IsNoExit}
use Rattle.headline_laws.proofs.Makers.Holds.{IsRefusal, TellsSo, none_behind, told_none}
use Rattle.headline_laws.proofs.Story.Attributed.{either_part, head_of, none_there, tail_of}
use Rattle.headline_laws.proofs.Story.Lines.{entered_or}

-- ---- kinds of calls

abbrev pub IsIndexing : Call → Type 0
IsIndexing (MakeIndex writer) = ⊤
IsIndexing call = ⊥

abbrev pub IsNoEnter : Call → Type 0
IsNoEnter (Enter room host most) = ⊥
IsNoEnter call = ⊤

-- a call of each of three kinds
data Kind (call : Call) : Type 0 where
  makes : (writer : ℕ) → call ≡ MakeIndex writer → Kind call
  leaving : (writer : ℕ) → call ≡ Exit writer → Kind call
  other : (IsIndexing call → ⊥) → IsNoExit call → Kind call

kind_of : (call : Call) → Kind call
kind_of (MakeIndex writer) = makes writer refl
kind_of (Exit writer) = leaving writer refl
kind_of call = other (λ is. is) tt

pub enter_or : (call : Call) → ((room : ℕ) × (host : ℕ) × (most : ℕ) × (call ≡ Enter room host most)) ⊎ IsNoEnter call
enter_or (Enter room host most) = inl (room, host, most, refl)
enter_or call = inr tt

pub no_enter_entered : (call : Call) (later : ℕ) → IsNoEnter call → entered_or call later ≡ later
no_enter_entered (Enter room host most) later none = absurd none
no_enter_entered call later none = refl

-- ---- how it ends behind the index

-- where it left after this reply
abbrev pub TroubleEnd : Reply → Outcome → Type 0
TroubleEnd r (line.Refused because) = IsRefusal r
TroubleEnd r line.Fault = ⊤
TroubleEnd r line.Stopped = ⊤
TroubleEnd r (line.Damaged folder file place) = ⊤
TroubleEnd r o = ⊥

-- where its log was made, or it was stopped
abbrev pub OpenEnd : ℕ → Outcome → Type 0
OpenEnd w (line.Opened id) = id ≡ w
OpenEnd w line.Stopped = ⊤
OpenEnd w o = ⊥

abbrev pub LeavesSo : Reply → Work → Type 0
LeavesSo r (asks q k) = (IsIndexing q.call → ⊥) × ((last : Reply) → TellsSo (λ e. TroubleEnd r e.outcome) (k last))
LeavesSo r work = ⊥

-- behind the reply to the log
abbrev pub AfterLog : ℕ → Reply → Work → Type 0
AfterLog w r (tells e work) = OpenEnd w e.outcome
AfterLog w r work = LeavesSo r work

abbrev pub IfLog : Call → (ℕ → Type 0) → Type 0 → Type 0
IfLog (MakeLog writer) one two = one writer
IfLog call one two = two

-- behind the reply to the index
abbrev pub AfterIndex : ℕ → Option ℕ → Reply → Work → Type 0
AfterIndex w stop r (tells e work) = e.outcome ≡ line.Stopped
AfterIndex w stop r (asks q k) = (IsIndexing q.call → ⊥) × IfLog q.call (λ v. (v ≡ w) × (stop ≡ None) × (r ≡ reply.Done) × ((last : Reply) → AfterLog w last (k last))) ((last : Reply) → TellsSo (λ e. TroubleEnd r e.outcome) (k last))
AfterIndex w stop r work = ⊥

-- ---- its calls

abbrev pub ByKind : Call → Type 0 → Type 0 → Type 0 → Type 0
ByKind (MakeIndex writer) one two three = one
ByKind (Exit writer) one two three = two
ByKind call one two three = three

abbrev pub MayMake : ℕ → Call → Type 0
MayMake w (MakeIndex writer) = writer ≡ w
MayMake w call = ⊤

-- it entered as this writer
abbrev pub HasEntered : ℕ → Work → Type 0
HasEntered w ends = ⊤
HasEntered w (pauses work) = ⊥
HasEntered w (tells e work) = ⊤
HasEntered w (asks q k) = MayMake w q.call × ((r : Reply) → ByKind q.call (AfterIndex w q.stop r (k r)) (TellsSo (λ e. ⊤) (k r)) (HasEntered w (k r)))
HasEntered w (shares programs k alone) = ⊥

abbrev pub Let : Reply → Work → Type 0
Let (reply.Entered w) work = HasEntered w work
Let r work = TellsSo (λ e. ⊤) work

abbrev pub IfEnters : Call → (ℕ → Type 0) → Type 0 → Type 0
IfEnters (Enter room host most) one two = one host
IfEnters call one two = two

-- it makes no index before it enters, under this host
abbrev pub IsOpening : ℕ → Work → Type 0
IsOpening host ends = ⊤
IsOpening host (pauses work) = ⊥
IsOpening host (tells e work) = ⊤
IsOpening host (asks q k) = (IsIndexing q.call → ⊥) × ((r : Reply) → IfEnters q.call (λ its. (its ≡ host) × Let r (k r)) (IsOpening host (k r)))
IsOpening host (shares programs k alone) = ⊥

-- ---- where it made the index

module _ (n : ℕ) where
  -- how it ended, behind the call that made it
  pub data MadeSo (ev : Event) (w : ℕ) (post : List Event) (e : Ending) : Type 0 where
    stopped_then : e.outcome ≡ line.Stopped → MadeSo ev w post e
    left_then : TroubleEnd ev.reply e.outcome → MadeSo ev w post e
    opened_then : OpenEnd w e.outcome → MadeSo ev w post e
    log_then : (u : List Event) (last : Event) (rest : List Event) → post ≡ u ++ last ∷ rest → made_by n u ≡ [] → last.caller ≡ n → last.ask.call ≡ MakeLog w → ev.ask.stop ≡ None → ev.reply ≡ reply.Done → TroubleEnd last.reply e.outcome → MadeSo ev w post e

  left_so : (r : Reply) (work : Work) (mine : List Event) (spent : List (List Event)) (e : Ending) → LeavesSo r work → ComesTo n work mine spent e → TroubleEnd r e.outcome
  left_so r ends mine spent e is comes = absurd is
  left_so r (pauses work) mine spent e is comes = absurd is
  left_so r (tells end work) mine spent e is comes = absurd is
  left_so r (asks q k) mine spent e is m = (told_none n (λ x. TroubleEnd r x.outcome) (k m.call.reply) m.after spent e (is.1 m.call.reply) m.goes_on).1
  left_so r (shares programs k alone) mine spent e is comes = absurd is

  log_so : (w : ℕ) (r : Reply) (work : Work) (mine : List Event) (spent : List (List Event)) (e : Ending) → AfterLog w r work → ComesTo n work mine spent e → OpenEnd w e.outcome ⊎ TroubleEnd r e.outcome
  log_so w r ends mine spent e is comes = absurd is
  log_so w r (pauses work) mine spent e is comes = absurd is
  log_so w r (tells end work) mine spent e is comes = inl (subst (λ (x : Ending). OpenEnd w x.outcome) comes.2 is)
  log_so w r (asks q k) mine spent e is m = inr (left_so r (asks q k) mine spent e is m)
  log_so w r (shares programs k alone) mine spent e is comes = absurd is

  log_or : (one : ℕ → Type 0) (two : Type 0) (call : Call) → IfLog call one two → ((v : ℕ) × (call ≡ MakeLog v) × one v) ⊎ two
  log_or one two (MakeLog v) is = inl (v, refl, is)
  log_or one two call is = inr is

  went_on : (w : ℕ) (ev : Event) (work : Work) (mine : List Event) (spent : List (List Event)) (e : Ending) → AfterIndex w ev.ask.stop ev.reply work → ComesTo n work mine spent e → MadeSo ev w mine e
  went_on w ev ends mine spent e is comes = absurd is
  went_on w ev (pauses work) mine spent e is comes = absurd is
  went_on w ev (tells end work) mine spent e is comes = stopped_then (ap (λ (x : Ending). x.outcome) (sym comes.2) ∙ is)
  went_on w ev (asks q k) mine spent e is m = elim (log_or _ _ q.call is.1) as (λ _. MadeSo ev w mine e) [
    | inr leaves_so ↦ left_then (told_none n (λ x. TroubleEnd ev.reply x.outcome) (k m.call.reply) m.after spent e (leaves_so m.call.reply) m.goes_on).1
    | inl (v, asked, (is_w, whole, was_done, goes)) ↦ elim (log_so w m.call.reply (k m.call.reply) m.after spent e (goes m.call.reply) m.goes_on) as (λ _. MadeSo ev w mine e) [
      | inl is_open ↦ opened_then is_open
      | inr troubled ↦ log_then m.before m.call m.after m.all m.none_before m.own (ap (λ (a : Ask). a.call) m.asked ∙ asked ∙ ap MakeLog is_w) whole was_done troubled
    ]
  ]
  went_on w ev (shares programs k alone) mine spent e is comes = absurd is

  -- a call of the actor is the one that is asked next, or it stands behind that
  pub record First (q : Ask) (call : Event) (before after pre : List Event) (ev : Event) (post : List Event) : Type 0 where
    pub same : call ≡ ev
    pub rest : after ≡ post
    pub front : pre ≡ before

  pub record Behind (call : Event) (before after pre : List Event) (ev : Event) (post : List Event) : Type 0 where
    pub mid : List Event
    pub rest : after ≡ mid ++ ev ∷ post
    pub front : pre ≡ before ++ call ∷ mid

  pub next_or : (q : Ask) (before : List Event) (call : Event) (after mine : List Event) → mine ≡ before ++ call ∷ after → made_by n before ≡ [] → (pre : List Event) (ev : Event) (post : List Event) → mine ≡ pre ++ ev ∷ post → ev.caller ≡ n → First q call before after pre ev post ⊎ Behind call before after pre ev post
  next_or q before call after mine all none pre ev post split own = elim (either_part before (call ∷ after) pre ev post (sym all ∙ split)) as (λ _. First q call before after pre ev post ⊎ Behind call before after pre ev post) [
    | inl (u, front, later) ↦ absurd (none_there n before pre ev u front none own)
    | inr (u, front, later) ↦ at u front later
  ]
    where
      at : (u : List Event) → pre ≡ before ++ u → call ∷ after ≡ u ++ ev ∷ post → First q call before after pre ev post ⊎ Behind call before after pre ev post
      at [] front later = inl (record { same = head_of call ev after post later; rest = tail_of call ev after post later; front = front ∙ append-nil before })
      at (y ∷ u) front later = inr (record { mid = u; rest = tail_of call y after (u ++ ev ∷ post) later; front = front ∙ ap (λ x. before ++ x ∷ u) (sym (head_of call y after (u ++ ev ∷ post) later)) })

  -- what it asks
  pub its_call : (q : Ask) (call ev : Event) → call.ask ≡ q → call ≡ ev → ev.ask.call ≡ q.call
  its_call q call ev asked same = ap (λ (x : Event). x.ask.call) (sym same) ∙ ap (λ (a : Ask). a.call) asked

  abbrev NoIndex : List Event → Type 0
  NoIndex mine = (pre : List Event) (ev : Event) (post : List Event) → mine ≡ pre ++ ev ∷ post → ev.caller ≡ n → IsIndexing ev.ask.call → ⊥

  -- behind the call that made the index none is made
  left_none : (r : Reply) (work : Work) (mine : List Event) (spent : List (List Event)) (e : Ending) → LeavesSo r work → ComesTo n work mine spent e → NoIndex mine
  left_none r ends mine spent e is comes pre ev post split own indexing = absurd is
  left_none r (pauses work) mine spent e is comes pre ev post split own indexing = absurd is
  left_none r (tells end work) mine spent e is comes pre ev post split own indexing = absurd is
  left_none r (asks q k) mine spent e is m pre ev post split own indexing = elim (next_or q m.before m.call m.after mine m.all m.none_before pre ev post split own) as (λ _. ⊥) [
    | inl f ↦ is.0 (subst IsIndexing (its_call q m.call ev m.asked f.same) indexing)
    | inr b ↦ none_behind n (λ x. TroubleEnd r x.outcome) (k m.call.reply) m.after spent e (is.1 m.call.reply) m.goes_on b.mid ev post b.rest own
  ]
  left_none r (shares programs k alone) mine spent e is comes pre ev post split own indexing = absurd is

  log_none : (w : ℕ) (r : Reply) (work : Work) (mine : List Event) (spent : List (List Event)) (e : Ending) → AfterLog w r work → ComesTo n work mine spent e → NoIndex mine
  log_none w r ends mine spent e is comes pre ev post split own indexing = absurd is
  log_none w r (pauses work) mine spent e is comes pre ev post split own indexing = absurd is
  log_none w r (tells end work) mine spent e is comes pre ev post split own indexing = none_there n mine pre ev post split (ap (made_by n) comes.0) own
  log_none w r (asks q k) mine spent e is m pre ev post split own indexing = left_none r (asks q k) mine spent e is m pre ev post split own indexing
  log_none w r (shares programs k alone) mine spent e is comes pre ev post split own indexing = absurd is

  after_none : (w : ℕ) (stop : Option ℕ) (r : Reply) (work : Work) (mine : List Event) (spent : List (List Event)) (e : Ending) → AfterIndex w stop r work → ComesTo n work mine spent e → NoIndex mine
  after_none w stop r ends mine spent e is comes pre ev post split own indexing = absurd is
  after_none w stop r (pauses work) mine spent e is comes pre ev post split own indexing = absurd is
  after_none w stop r (tells end work) mine spent e is comes pre ev post split own indexing = none_there n mine pre ev post split (ap (made_by n) comes.0) own
  after_none w stop r (asks q k) mine spent e is m pre ev post split own indexing = elim (next_or q m.before m.call m.after mine m.all m.none_before pre ev post split own) as (λ _. ⊥) [
    | inl f ↦ is.0 (subst IsIndexing (its_call q m.call ev m.asked f.same) indexing)
    | inr b ↦ elim (log_or _ _ q.call is.1) as (λ _. ⊥) [
      | inl (v, asked, (is_w, whole, was_done, goes)) ↦ log_none w m.call.reply (k m.call.reply) m.after spent e (goes m.call.reply) m.goes_on b.mid ev post b.rest own indexing
      | inr leaves_so ↦ none_behind n (λ x. TroubleEnd r x.outcome) (k m.call.reply) m.after spent e (leaves_so m.call.reply) m.goes_on b.mid ev post b.rest own
    ]
  ]
  after_none w stop r (shares programs k alone) mine spent e is comes pre ev post split own indexing = absurd is

  -- It made the index as this writer, and none of its calls before took that out.
  pub record MakesBy (w : ℕ) (pre : List Event) (ev : Event) (post : List Event) (e : Ending) : Type 0 where
    pub no_exits : (a : List Event) (x : Event) (b : List Event) → pre ≡ a ++ x ∷ b → x.caller ≡ n → IsNoExit x.ask.call
    pub its : (other : ℕ) → ev.ask.call ≡ MakeIndex other → other ≡ w
    pub ended : MadeSo ev w post e

  by_index : (one two three : Type 0) (call : Call) → IsIndexing call → ByKind call one two three → one
  by_index one two three (MakeIndex writer) is it = it
  by_index one two three call is it = absurd is

  by_exit : (one two three : Type 0) (call : Call) (writer : ℕ) → call ≡ Exit writer → ByKind call one two three → two
  by_exit one two three call writer is it = subst (λ c. ByKind c one two three) is it

  by_other : (one two three : Type 0) (call : Call) → (IsIndexing call → ⊥) → IsNoExit call → ByKind call one two three → three
  by_other one two three (MakeIndex writer) not stays it = absurd (not tt)
  by_other one two three (Exit writer) not stays it = absurd stays
  by_other one two three call not stays it = it

  pub makes_by : (w : ℕ) (work : Work) (mine : List Event) (spent : List (List Event)) (e : Ending) → HasEntered w work → ComesTo n work mine spent e → (pre : List Event) (ev : Event) (post : List Event) → mine ≡ pre ++ ev ∷ post → ev.caller ≡ n → IsIndexing ev.ask.call → MakesBy w pre ev post e
  makes_by w ends mine spent e has comes pre ev post split own indexing = absurd comes
  makes_by w (pauses work) mine spent e has comes pre ev post split own indexing = absurd has
  makes_by w (tells end work) mine spent e has comes pre ev post split own indexing = absurd (none_there n mine pre ev post split (ap (made_by n) comes.0) own)
  makes_by w (asks q k) mine spent e has m pre ev post split own indexing = elim (next_or q m.before m.call m.after mine m.all m.none_before pre ev post split own) as (λ _. MakesBy w pre ev post e) [
    | inl f ↦ here f
    | inr b ↦ later b (kind_of q.call) (λ goes. makes_by w (k m.call.reply) m.after spent e goes m.goes_on b.mid ev post b.rest own indexing)
  ]
    where
      here : First q m.call m.before m.after pre ev post → MakesBy w pre ev post e
      here f =
          let is = its_call q m.call ev m.asked f.same in
          let goes : AfterIndex w q.stop m.call.reply (k m.call.reply) = by_index (AfterIndex w q.stop m.call.reply (k m.call.reply)) (TellsSo (λ x. ⊤) (k m.call.reply)) (HasEntered w (k m.call.reply)) q.call (subst IsIndexing is indexing) (has.1 m.call.reply) in
          let there : AfterIndex w m.call.ask.stop m.call.reply (k m.call.reply) = subst (λ s. AfterIndex w s m.call.reply (k m.call.reply)) (sym (ap (λ (a : Ask). a.stop) m.asked)) goes in
          record {
            no_exits = λ a x b split_so its. absurd (none_there n m.before a x b (sym f.front ∙ split_so) m.none_before its);
            its = λ o asked. subst (MayMake w) (sym is ∙ asked) has.0;
            ended = subst (λ z. MadeSo ev w z e) f.rest (subst (λ x. MadeSo x w m.after e) f.same (went_on w m.call (k m.call.reply) m.after spent e there m.goes_on));
          }

      exits_not : (mid : List Event) → IsNoExit q.call → MakesBy w mid ev post e → pre ≡ m.before ++ m.call ∷ mid → (a : List Event) (x : Event) (b : List Event) → pre ≡ a ++ x ∷ b → x.caller ≡ n → IsNoExit x.ask.call
      exits_not mid stays c front a x b is its = elim (next_or q m.before m.call mid pre front m.none_before a x b is its) as (λ _. IsNoExit x.ask.call) [
        | inl f ↦ subst IsNoExit (sym (its_call q m.call x m.asked f.same)) stays
        | inr o ↦ c.no_exits o.mid x b o.rest its
      ]

      later : (b : Behind m.call m.before m.after pre ev post) → Kind q.call → (HasEntered w (k m.call.reply) → MakesBy w b.mid ev post e) → MakesBy w pre ev post e
      later b (makes writer is) rest =
          absurd (after_none w q.stop m.call.reply (k m.call.reply) m.after spent e (by_index (AfterIndex w q.stop m.call.reply (k m.call.reply)) (TellsSo (λ x. ⊤) (k m.call.reply)) (HasEntered w (k m.call.reply)) q.call (subst IsIndexing (sym is) tt) (has.1 m.call.reply)) m.goes_on b.mid ev post b.rest own indexing)
      later b (leaving writer is) rest = absurd (none_behind n (λ x. ⊤) (k m.call.reply) m.after spent e (by_exit (AfterIndex w q.stop m.call.reply (k m.call.reply)) (TellsSo (λ x. ⊤) (k m.call.reply)) (HasEntered w (k m.call.reply)) q.call writer is (has.1 m.call.reply)) m.goes_on b.mid ev post b.rest own)
      later b (other not stays) rest =
          let c = rest (by_other (AfterIndex w q.stop m.call.reply (k m.call.reply)) (TellsSo (λ x. ⊤) (k m.call.reply)) (HasEntered w (k m.call.reply)) q.call not stays (has.1 m.call.reply)) in
          record { no_exits = exits_not b.mid stays c b.front; its = c.its; ended = c.ended }
  makes_by w (shares programs k alone) mine spent e has comes pre ev post split own indexing = absurd has

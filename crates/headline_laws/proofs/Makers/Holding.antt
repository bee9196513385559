-- A hold that a caller got is of the container that it asked for, for as long as it has it.
use Rattle.std.proofs.Common.{◌≡◌, ◌⊎◌, inl, inr, ℕ, true, false, nat_eq, List, [], ◌∷◌, ◌++◌, Some, None, Ok, Err, refl, sym, ap, ◌∙◌, subst, arith, if◌then◌else◌}
use Rattle.std.specs.Prelude.{⊤, slice_get}
use Rattle.std.proofs.lemmas.Bool.Decides.{nat_tests}
use mathlib.Core.Logic.{dite}
use native.Mathlib.Decide.{ℕ_discrete}
use Rattle.turn_object.specs.Callers.{made_by}
use Rattle.container_layout.specs.Paths.{openhosts}
use Rattle.store_api.specs.declared.step.Answer.TheVariants.{Made, NoFolder, NoRoom, NotEmpty, Old}
use Rattle.store_api.specs.declared.store.Trouble.TheVariants as trouble
use Rattle.store_api.specs.declared.tree.Room.{Room}
use Rattle.store_api.specs.declared.tree.Tree.{Tree}
use Rattle.store_laws.specs.There.{LacksRoom}
use Rattle.store_laws.proofs.Facts.{acts_told, make_folder_told}
use Rattle.mount_model.specs.declared.call.Ask.{Ask}
use Rattle.mount_model.specs.declared.call.Call.{Call}
use Rattle.mount_model.specs.declared.call.Call.TheVariants.{Hold, Mark, Move, Release}
use Rattle.mount_model.specs.declared.reply.Refusal.{Refusal}
use Rattle.mount_model.specs.declared.reply.Refusal.TheVariants.{Busy, Held, NotHolder}
use Rattle.mount_model.specs.declared.reply.Reply.{Reply}
use Rattle.mount_model.specs.declared.reply.Reply.TheVariants as reply
use Rattle.mount_model.specs.declared.row.Holder.{Holder}
use Rattle.mount_model.specs.Entering.{draw_check, next_id}
use Rattle.mount_model.specs.History.{Event}
use Rattle.mount_model.specs.Holding.{HoldOutcome, HoldsRoom, holding, release_outcome, release_step}
use Rattle.mount_model.specs.Making.{MakesAct, Refuses, Told, otherwise}
use Rattle.mount_model.specs.Paths.{Name}
use Rattle.mount_model.specs.Regular.{IsRegular}
use Rattle.mount_model.specs.State.{State, Table}
use Rattle.mount_model.specs.Step.{Answers, IsStep}
use Rattle.mount_model.specs.Stopping.{IsEndedBy, begun, without_caller}
use Rattle.mount_model.specs.Table.{holder_at, holder_of, its_hold}
use Rattle.mount_model.proofs.Facts.{HoldersMade, IsHolding, TurnsHolders, answers_turn, begun_table, held_before-ended, held_before-push, held_before-without_holder, is_holding, match_cases, next_not_held, step_cases, step_held, step_holds, stop_replies}
use Rattle.mount_sound.specs.Owed.{IsLawful}
use Rattle.reader_laws.specs.Moments.{IsSoundAt, Moment, moment_after, next_moment}
use Rattle.reader_laws.proofs.Gathered.Facts.{legal_first, legal_rest, sound_after}
use Rattle.reader_laws.proofs.Gathered.Moments.Stepping.{sound_next}

-- ---- a call that is answered

-- a call that isn't broken off, nor wants memory, is answered
pub answered_call : (old : State) (e : Event) → IsStep old e.caller e.ask e.reply e.after → (e.reply ≡ reply.Stopped → ⊥) → (e.reply ≡ reply.NoMemory → ⊥) → Answers old e.caller e.ask.call e.reply e.after
answered_call old e step not_stopped had = step_cases old e.caller e.ask e.reply e.after (Answers old e.caller e.ask.call e.reply e.after) step (λ none a. a) (λ k some x. absurd (broken (stop_replies old e.caller k e.ask.call e.reply e.after x)))
  where
    broken : (e.reply ≡ reply.Stopped) ⊎ (e.reply ≡ reply.NoMemory) → ⊥
    broken (inl is) = not_stopped is
    broken (inr is) = had is

pub whole_answer : (old : State) (e : Event) → IsStep old e.caller e.ask e.reply e.after → e.ask.stop ≡ None → Answers old e.caller e.ask.call e.reply e.after
whole_answer old e step whole = step_cases old e.caller e.ask e.reply e.after (Answers old e.caller e.ask.call e.reply e.after) step (λ none a. a) (λ k some x. let clash : None ≡ Some k = sym whole ∙ some in absurd (cc))

-- ---- who holds

-- a hold of this number that the caller has is of this room
abbrev pub HoldsOnly : ℕ → ℕ → ℕ → State → Type 0
HoldsOnly n holder room state = (h : Holder) → IsHolding n holder state.table.holders h → h.room ≡ room

abbrev pub IsNoHold : Call → Type 0
IsNoHold (Hold room) = ⊥
IsNoHold call = ⊤

module _ (old : State) (caller : ℕ) (after : Table) (r : IsRegular old) where
  made_held : (call : Call) (q : ℕ) (h : Holder) → IsNoHold call → HoldersMade old caller call after → holder_at q after.holders ≡ Some h → holder_at q old.table.holders ≡ Some h
  made_held (Hold room) q h no_hold e found = absurd no_hold
  made_held (Release number) q h no_hold (mine, is, e) found = (held_before-without_holder mine.number old.table.holders q h r.holders.ascending (subst (λ hs. holder_at q hs ≡ Some h) e found)).1
  made_held call q h no_hold e found = absurd e

  turned_held : (call : Call) (q : ℕ) (h : Holder) → IsNoHold call → TurnsHolders old caller call after → holder_at q after.holders ≡ Some h → holder_at q old.table.holders ≡ Some h
  turned_held call q h no_hold t found = elim t.holders as (λ _. holder_at q old.table.holders ≡ Some h) [
    | inl e ↦ subst (λ hs. holder_at q hs ≡ Some h) e found
    | inr made ↦ made_held call q h no_hold made found
  ]

-- a call that was broken off leaves the table, or takes its caller out
pub ended_table : (told : Told) (rep : Reply) (at : State) (caller : ℕ) (new : State) → IsEndedBy told rep at caller new → (new.table ≡ at.table) ⊎ (new.table ≡ without_caller caller at.table)
ended_table (Err trouble.NoMemory) rep at caller new e = inl (ap (λ (s : State). s.table) e.1)
ended_table (Err trouble.Fault) rep at caller new e = inr (ap (λ (s : State). s.table) e.1)
ended_table (Ok answer) rep at caller new e = inr (ap (λ (s : State). s.table) e.1)

-- Behind a step that is no hold nobody holds that didn't before.
pub held_before : (old new : State) (caller : ℕ) (ask : Ask) (rep : Reply) (q : ℕ) (h : Holder) → IsRegular old → IsStep old caller ask rep new → IsNoHold ask.call → holder_at q new.table.holders ≡ Some h → holder_at q old.table.holders ≡ Some h
held_before old new caller ask rep q h r step no_hold found = step_cases old caller ask rep new (holder_at q old.table.holders ≡ Some h) step
    (λ whole a. turned_held old caller new.table r ask.call q h no_hold (answers_turn old caller ask.call rep new a) found)
    (λ k some x.
    let same : (begun old ask.call).table ≡ old.table = begun_table old ask.call in
    elim (ended_table x.told rep _ caller new x.after) as (λ _. holder_at q old.table.holders ≡ Some h) [
      | inl stays ↦ subst (λ (t : Table). holder_at q t.holders ≡ Some h) (stays ∙ same) found
      | inr out ↦ (held_before-ended caller old.table.holders q h r.holders.ascending (subst (λ (t : Table). holder_at q t.holders ≡ Some h) (out ∙ ap (without_caller caller) same) found)).0
    ])

only_next : (n holder room : ℕ) (m : Moment) (e : Event) → IsSoundAt m → IsStep m.state e.caller e.ask e.reply e.after → IsNoHold e.ask.call → HoldsOnly n holder room m.state → HoldsOnly n holder room e.after
only_next n holder room m e sound step no_hold only h is = only h (record { found = held_before m.state e.after e.caller e.ask e.reply holder h sound.regular step no_hold is.found; is = is.is; owned = is.owned })

-- so it is along events of which none is a hold of its own
pub only_along : (n holder room : ℕ) (m : Moment) (events : List Event) → IsLawful m.state events → IsSoundAt m → ((pre : List Event) (e : Event) (post : List Event) → events ≡ pre ++ e ∷ post → e.caller ≡ n → IsNoHold e.ask.call) → HoldsOnly n holder room m.state → HoldsOnly n holder room (moment_after m events).state
only_along n holder room m [] lawful sound each only = only
only_along n holder room m (e ∷ events) lawful sound each only =
    only_along n holder room (next_moment m e) events lawful.2 (sound_next m e events lawful sound) (λ pre x post is its. each (e ∷ pre) x post (ap (λ z. e ∷ z) is) its)
    (dite (ℕ_discrete e.caller n)
    (λ own. only_next n holder room m e sound lawful.1 (each [] e events refl own) only)
    (λ other h is. only h (record { found = step_held m.state e.after e.caller e.ask e.reply holder h sound.regular lawful.1 is.found (λ own. other (sym own ∙ is.owned)); is = is.is; owned = is.owned })))

-- ---- a hold begins

not_held : (folder file : Name) (told : Told) (holder : ℕ) → reply.Holding holder ≡ otherwise folder file told → ⊥
not_held folder file (Ok NoRoom) holder e = absurd cc
not_held folder file (Ok NoFolder) holder e = absurd cc
not_held folder file (Ok answer) holder e = absurd cc
not_held folder file (Err trouble.Fault) holder e = absurd cc
not_held folder file (Err trouble.NoMemory) holder e = absurd cc

pub pushed : (h : Holder) (table : Table) (told : Told) (holder : ℕ) (after : Table) → HoldOutcome h table told (reply.Holding holder) after → (holder ≡ h.number) × (after.holders ≡ table.holders ++ h ∷ [])
pushed h table (Ok Made) holder after o = (let e : reply.Holding holder ≡ reply.Holding h.number = o.0 in cc, ap (λ (t : Table). t.holders) o.1)
pushed h table (Ok NoFolder) holder after o = absurd (let e : reply.Holding holder ≡ reply.Refused Held = o.0 in cc)
pushed h table (Ok (NotEmpty least)) holder after o = absurd (elim o.0 as (λ _. ⊥) [
  | inl busy ↦ (let e : reply.Holding holder ≡ reply.Refused (Busy busy.0 busy.1) = busy.3 in cc)
  | inr other ↦ (let e : reply.Holding holder ≡ reply.Damaged openhosts least = other.1 in cc)
])
pushed h table told holder after o = absurd (not_held openhosts [] told holder o.0)

-- the number is a new one, so that the hold is of the room that was asked for
only_begun : (n room holder : ℕ) (m : Moment) (after : State) → IsSoundAt m → Answers m.state n (Hold room) (reply.Holding holder) after → HoldsOnly n holder room after
only_begun n room holder m after sound a h is =
    elim (match_cases (draw_check m.state room) (HoldsRoom n room m.state (reply.Holding holder) after) (λ why. Refuses why m.state (reply.Holding holder) after) a) as (λ _. h.room ≡ room) [
      | inr (why, some, refused) ↦ absurd (let e : reply.Holding holder ≡ reply.Refused why = refused.0 in cc)
      | inl (none, does) ↦
          (let p = pushed (holding m.state n room) m.state.table does.told holder after.table does.outcome in
          let found : holder_at holder (m.state.table.holders ++ holding m.state n room ∷ []) ≡ Some h = ap (λ hs. holder_at holder hs) (sym p.1) ∙ is.found in
          elim (held_before-push m.state.table.holders (holding m.state n room) holder h found) as (λ _. h.room ≡ room) [
            | inr new_one ↦ ap (λ (x : Holder). x.room) new_one.1
            | inl old_one ↦ absurd (let none : holder_at (next_id m.state) m.state.table.holders ≡ None = next_not_held m.state.mount m.state.serial m.state.marks m.state.table.holders sound.regular.holders in
                let some : holder_at (next_id m.state) m.state.table.holders ≡ Some h = ap (λ k. holder_at k m.state.table.holders) (sym p.0) ∙ old_one in cc)
          ])
    ]

-- where it was asked and granted
pub only_granted : (n room holder : ℕ) (m : Moment) (e : Event) → IsSoundAt m → IsStep m.state e.caller e.ask e.reply e.after → e.caller ≡ n → e.ask.call ≡ Hold room → e.reply ≡ reply.Holding holder → HoldsOnly n holder room e.after
only_granted n room holder m e sound step own asked told =
    let a : Answers m.state e.caller e.ask.call e.reply e.after = answered_call m.state e step (λ is. let clash : reply.Stopped ≡ reply.Holding holder = sym is ∙ told in absurd (cc)) (λ is. let clash : reply.NoMemory ≡ reply.Holding holder = sym is ∙ told in absurd (cc)) in
    only_begun n room holder m e.after sound (subst (λ r. Answers m.state n (Hold room) r e.after) told (subst (λ c. Answers m.state n c e.reply e.after) asked (subst (λ k. Answers m.state k e.ask.call e.reply e.after) own a)))

-- ---- it is let go

pub holder_found : (caller number : ℕ) (holders : List Holder) (h : Holder) → holder_at number holders ≡ Some h → h.owner ≡ caller → holder_of caller number holders ≡ Some h
holder_found caller number holders h found owned =
    let is : nat_eq h.owner caller ≡ true = grind (arith, nat_tests) in
    ap (its_hold caller) found ∙ ap (λ b. if b then Some h else None) is

pub not_own : (n : ℕ) (e : Event) (events : List Event) → made_by n (e ∷ events) ≡ [] → (e.caller ≡ n → ⊥) × (made_by n events ≡ [])
not_own n e events none = elim (nat_eq e.caller n) as (λ b. nat_eq e.caller n ≡ b → (if b then e ∷ made_by n events else made_by n events) ≡ [] → (e.caller ≡ n → ⊥) × (made_by n events ≡ [])) [
  | true ↦ λ t is. absurd (cc)
  | false ↦ λ t is. (λ own. (let same : nat_eq e.caller n ≡ true = grind (arith, nat_tests) in let clash : true ≡ false = sym same ∙ t in absurd (cc)), is)
] refl none

still_held : (n q : ℕ) (h : Holder) (m : Moment) (events : List Event) → h.owner ≡ n → IsLawful m.state events → made_by n events ≡ [] → holder_at q m.state.table.holders ≡ Some h → holder_at q (moment_after m events).state.table.holders ≡ Some h
still_held n q h m [] owned lawful none found = found
still_held n q h m (e ∷ events) owned lawful none found =
    let other = not_own n e events none in
    still_held n q h (next_moment m e) events owned lawful.2 other.1 (step_holds m.state e.after e.caller e.ask e.reply q h lawful.1 found (λ own. other.0 (sym own ∙ owned)))

marked_same : (old : State) (n holder size top : ℕ) (rep : Reply) (new : State) → Answers old n (Mark holder size top) rep new → new.table.holders ≡ old.table.holders
marked_same old n holder size top rep new a = elim (answers_turn old n (Mark holder size top) rep new a).holders as (λ _. new.table.holders ≡ old.table.holders) [
  | inl same ↦ same
  | inr made ↦ absurd made
]

moved_same : (old : State) (n holder : ℕ) (to : Name) (rep : Reply) (new : State) → Answers old n (Move holder to) rep new → new.table.holders ≡ old.table.holders
moved_same old n holder to rep new a = elim (answers_turn old n (Move holder to) rep new a).holders as (λ _. new.table.holders ≡ old.table.holders) [
  | inl same ↦ same
  | inr made ↦ absurd made
]

released_none : (h : Holder) (table : Table) (told : Told) (why : Refusal) → reply.Refused why ≡ (release_outcome h table told).reply → told ≡ Ok NoRoom
released_none h table (Ok NoRoom) why e = refl
released_none h table (Ok Made) why e = absurd (cc)
released_none h table (Ok (Old room)) why e = absurd (cc)
released_none h table (Ok NoFolder) why e = absurd (cc)
released_none h table (Ok answer) why e = absurd (cc)
released_none h table (Err trouble.Fault) why e = absurd (cc)
released_none h table (Err trouble.NoMemory) why e = absurd (cc)

no_room : (tree : Tree) (n : ℕ) → (room : Room) × (slice_get tree.rooms n ≡ Some room) → LacksRoom tree n → ⊥
no_room tree n (room, there) none = let clash : None ≡ Some room = sym none ∙ there in absurd (cc)

-- who holds may let go
never_refused : (m : Moment) → IsSoundAt m → (n holder : ℕ) (h : Holder) (why : Refusal) (after : State) → holder_of n holder m.state.table.holders ≡ Some h → Answers m.state n (Release holder) (reply.Refused why) after → ⊥
never_refused m s n holder h why after held a = elim (match_cases (holder_of n holder m.state.table.holders) (Refuses NotHolder m.state (reply.Refused why) after) (λ x. MakesAct (release_step x) (release_outcome x m.state.table) m.state (reply.Refused why) after) a) as (λ _. ⊥) [
  | inl (none, refused) ↦ let clash : None ≡ Some h = sym none ∙ held in absurd (cc)
  | inr (x, is, does) ↦
      let i = s.held.each holder x (is_holding n holder m.state.table.holders x is).found in
      let k = acts_told (release_step x) m.state.store after.store s.shape.tree does.told s.shape.told does.made in
      no_room s.shape.tree x.room (i.room, i.there) ((make_folder_told x.room openhosts s.shape.tree does.told k.0 k.2).stays NoRoom (released_none x m.state.table does.told why does.answered) (λ clash. cc)).1
]

-- Who called by a hold what leaves it, and then lets go, isn't refused.
goes_free : (n holder : ℕ) (h : Holder) (m : Moment) (e : Event) (u : List Event) (last : Event) (rest : List Event) (why : Refusal) → IsSoundAt m → IsLawful m.state (e ∷ (u ++ last ∷ rest)) → e.after.table.holders ≡ m.state.table.holders → holder_of n holder m.state.table.holders ≡ Some h → made_by n u ≡ []
    → last.caller ≡ n → last.ask.call ≡ Release holder → last.reply ≡ reply.Refused why → ⊥
goes_free n holder h m e u last rest why s lawful same held none last_own last_asked refused =
    let is = is_holding n holder m.state.table.holders h held in
    let next : Moment = next_moment m e in
    let found : holder_at holder next.state.table.holders ≡ Some h = ap (holder_at holder) same ∙ is.found in
    let there : Moment = moment_after next u in
    let s_next : IsSoundAt next = sound_next m e (u ++ last ∷ rest) lawful s in
    let s_there : IsSoundAt there = sound_after next u (legal_first next u (last ∷ rest) lawful.2) s_next in
    let on : IsLawful there.state (last ∷ rest) = legal_rest next u (last ∷ rest) lawful.2 in
    let still : holder_at holder there.state.table.holders ≡ Some h = still_held n holder h next u is.owned (legal_first next u (last ∷ rest) lawful.2) none found in
    let b : Answers there.state last.caller last.ask.call last.reply last.after = answered_call there.state last on.1 (λ x. let clash : reply.Stopped ≡ reply.Refused why = sym x ∙ refused in absurd (cc)) (λ x. let clash : reply.NoMemory ≡ reply.Refused why = sym x ∙ refused in absurd (cc)) in
    never_refused there s_there n holder h why last.after (holder_found n holder there.state.table.holders h still is.owned)
    (subst (λ r. Answers there.state n (Release holder) r last.after) refused (subst (λ c. Answers there.state n c last.reply last.after) last_asked (subst (λ k. Answers there.state k last.ask.call last.reply last.after) last_own b)))

-- Who marked a truncate by a hold, and then lets go, isn't refused.
pub lets_go : (n holder size top : ℕ) (h : Holder) (m : Moment) (e : Event) (u : List Event) (last : Event) (rest : List Event) (why : Refusal) → IsSoundAt m → IsLawful m.state (e ∷ (u ++ last ∷ rest)) → e.caller ≡ n → e.ask.call ≡ Mark holder size top → e.ask.stop ≡ None → holder_of n holder m.state.table.holders ≡ Some h → made_by n u ≡ []
    → last.caller ≡ n → last.ask.call ≡ Release holder → last.reply ≡ reply.Refused why → ⊥
lets_go n holder size top h m e u last rest why s lawful own asked whole held none last_own last_asked refused =
    let a : Answers m.state n (Mark holder size top) e.reply e.after = subst (λ c. Answers m.state n c e.reply e.after) asked (subst (λ k. Answers m.state k e.ask.call e.reply e.after) own (whole_answer m.state e lawful.1 whole)) in
    goes_free n holder h m e u last rest why s lawful (marked_same m.state n holder size top e.reply e.after a) held none last_own last_asked refused

-- nor who gave a container another name by it
pub moved_free : (n holder : ℕ) (to : Name) (h : Holder) (m : Moment) (e : Event) (u : List Event) (last : Event) (rest : List Event) (why : Refusal) → IsSoundAt m → IsLawful m.state (e ∷ (u ++ last ∷ rest)) → e.caller ≡ n → e.ask.call ≡ Move holder to → e.ask.stop ≡ None → holder_of n holder m.state.table.holders ≡ Some h → made_by n u ≡ []
    → last.caller ≡ n → last.ask.call ≡ Release holder → last.reply ≡ reply.Refused why → ⊥
moved_free n holder to h m e u last rest why s lawful own asked whole held none last_own last_asked refused =
    let a : Answers m.state n (Move holder to) e.reply e.after = subst (λ c. Answers m.state n c e.reply e.after) asked (subst (λ k. Answers m.state k e.ask.call e.reply e.after) own (whole_answer m.state e lawful.1 whole)) in
    goes_free n holder h m e u last rest why s lawful (moved_same m.state n holder to e.reply e.after a) held none last_own last_asked refused

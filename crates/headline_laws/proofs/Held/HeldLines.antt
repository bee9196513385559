-- Why a statement is refused as held, and what a recovery found that ended a hold: the tree before had the container so, or another line held it, or broke off.
use Rattle.std.proofs.Common.{◌≡◌, ◌≤◌, ◌+◌, ◌⊎◌, inl, inr, ℕ, true, false, List, [], ◌∷◌, ◌++◌, length, Option, Some, None, refl, sym, ap, ◌∙◌, subst, arith, append_assoc, length-append}
use Rattle.std.proofs.lemmas.List.{append-nil}
use Rattle.plfs_types.specs.Counts.{HasRisen}
use Rattle.plfs_types.specs.declared.entries.WriterCount.{WriterCount}
use Rattle.turn_object.specs.Callers.{made_by}
use Rattle.store_api.specs.Acts.{Stored}
use Rattle.run_core.specs.Leading.{HadMemory}
use Rattle.mount_model.proofs.Stories.Facts.{entries_both}
use Rattle.mount_model.specs.declared.call.Call.TheVariants.{Hold, Release}
use Rattle.mount_model.specs.declared.reply.Refusal.{Refusal}
use Rattle.mount_model.specs.declared.reply.Refusal.TheVariants as refusal
use Rattle.mount_model.specs.declared.reply.Reply.TheVariants as reply
use Rattle.mount_model.specs.declared.row.Holder.{Holder}
use Rattle.mount_model.specs.History.{Event}
use Rattle.mount_model.specs.Mounting.{IsMounted}
use Rattle.mount_model.specs.Running.{unbroken}
use Rattle.mount_model.specs.State.{State}
use Rattle.mount_model.specs.Table.{holder_at, is_held_room}
use Rattle.mount_sound.specs.Owed.{IsLawful}
use Rattle.mount_sound.specs.Sound.{IsSoundTree}
use Rattle.reader_laws.specs.Moments.{IsSoundAt, Moment, moment_after, next_moment}
use Rattle.reader_laws.proofs.Gathered.Facts.{legal_first, legal_rest, moment-append, sound_after}
use Rattle.reader_laws.proofs.Gathered.Moments.Stepping.{sound_next}
use Rattle.script_lang.specs.Ranges.{FitsScript}
use Rattle.script_lang.specs.declared.line.Outcome.{Outcome}
use Rattle.script_lang.specs.declared.line.Outcome.TheVariants as line
use Rattle.script_lang.specs.declared.line.Why.TheVariants as why_is
use Rattle.script_lang.specs.declared.script.Statement.{Statement}
use Rattle.script_lang.specs.declared.script.Statement.TheVariants as say
use Rattle.actor_core.specs.Statements.{work_of}
use Rattle.run_core.specs.Play.{IsRight}
use Rattle.run_core.proofs.Facts.{AreWell, IsWell, NoFault, well_or_risen, well_rest}
use Rattle.headline_laws.specs.Refusing.{WasShut}
use Rattle.headline_laws.proofs.Plays.Facts.{Anyhow, ComesTo, HoldsSo, IsQuiet, MayAsk, statement_asks}
use Rattle.headline.specs.Run.{IsLine, Run, Says, Told, surely_before}
use Rattle.headline.specs.Names.{BrokeOff, Story, stopped}
use Rattle.headline.specs.Changes.{Holds, MayBeHeld, Writing, by, left as left_so}
use Rattle.headline.specs.Causes.{IsHeldFrom}
use Rattle.headline.specs.Held.{HasHeld}
use Rattle.headline.specs.Reasons.{IsReasonOf}
use Rattle.headline_laws.proofs.Contents.Counted.{homes}
use Rattle.headline_laws.proofs.Contents.OpenedWriter.{First, Home, sound_first}
use Rattle.headline_laws.proofs.Held.Around.{Caller, Found, Surrounded, behind, by_other, itself, surrounded}
use Rattle.headline_laws.proofs.Held.HoldCalls.{EachOwn, HeldEnd, HeldOnce, HoldsOnce, IsAside, halted, holds_once, let_go, rename_holds, truncate_holds, ungranted}
use Rattle.headline_laws.proofs.Held.HolderRows.{HeldBy, held_row, held_since}
use Rattle.headline_laws.proofs.Held.LeftShut.{left_shut, marks_stay}
use Rattle.headline_laws.proofs.Held.LetGo.{has_row, is_released, row_stays, stopped_row}
use Rattle.headline_laws.proofs.Held.Shut.{ShutBy, shut_since}
use Rattle.headline_laws.proofs.Held.Shutting.{HoldsIn, find_held, held_apart, its_hold, kind_so, mended_is, mended_shut, open_room, recover_mends, recover_room}
use Rattle.headline_laws.proofs.Held.Sought.{RecoversHeld, FindsHolder, open_enters, recover_finds}
use Rattle.headline_laws.proofs.Landed.Lasting.{memory_rest}
use Rattle.headline_laws.proofs.Makers.EntryEnds.{entry_made}
use Rattle.headline_laws.proofs.Makers.Holding.{IsNoHold}
use Rattle.headline_laws.proofs.OrderlyLines.Causes.{risen_between}
use Rattle.headline_laws.proofs.Reasons.Told.{reasons_told}
use Rattle.headline_laws.proofs.Statements.Did.{IsOfKindOr}
use Rattle.headline_laws.proofs.Statements.Does.{Ended, did, was_gone}
use Rattle.headline_laws.proofs.Story.Attributed.{came_asks, either_part, head_of, tail_of}
use Rattle.headline_laws.proofs.Story.Lines.{AnyLine, entered_room, first_entered, first_held, held_room, last_mended, room_of}

-- ---- lists

same_rest : {X : Type 0} (pre xs ys : List X) → pre ++ xs ≡ pre ++ ys → xs ≡ ys
same_rest [] xs ys is = is
same_rest (x ∷ pre) xs ys is = same_rest pre xs ys (tail_of x x (pre ++ xs) (pre ++ ys) is)

front_of : {X : Type 0} (xs ys u v : List X) → xs ++ ys ≡ u ++ v → length u ≤ length xs → (w : List X) × (xs ≡ u ++ w)
front_of xs ys [] v is short = (xs, refl)
front_of [] ys (a ∷ u) v is short = absurd (omega (arith, short))
front_of (x ∷ xs) ys (a ∷ u) v is short =
    let w = front_of xs ys u v (tail_of x a (xs ++ ys) (u ++ v) is) (omega (arith, short)) in
    (w.0, ap (λ z. z ∷ xs) (head_of x a (xs ++ ys) (u ++ v) is) ∙ ap (λ z. a ∷ z) w.1)

holds_so : (s : Statement) → HoldsSo s → Holds s
holds_so s (inl (name, size, is)) = subst Holds (sym is) tt
holds_so s (inr (name, to, is)) = subst Holds (sym is) tt

opens_not : (name : List ℕ) (s : Statement) → s ≡ say.Open name → HoldsSo s → ⊥
opens_not name s is (inl (other, size, so)) = let clash : say.Open name ≡ say.Trunc other size = sym is ∙ so in cc
opens_not name s is (inr (other, to, so)) = let clash : say.Open name ≡ say.Rename other to = sym is ∙ so in cc

recovers_not : (name : List ℕ) (s : Statement) → s ≡ say.Recover name → HoldsSo s → ⊥
recovers_not name s is (inl (other, size, so)) = let clash : say.Recover name ≡ say.Trunc other size = sym is ∙ so in cc
recovers_not name s is (inr (other, to, so)) = let clash : say.Recover name ≡ say.Rename other to = sym is ∙ so in cc

same_holder : (a b : ℕ) → reply.Holding a ≡ reply.Holding b → a ≡ b
same_holder a b is = cc

module _ (run : Run) (times : Option (List ℕ)) (mount : Stored) (start end : State) (fits : FitsScript run.script) (mounted : IsMounted 0 times mount start) (tells : mount.tree ≡ Some run.before) (sound : IsSoundTree run.before)
    (right : IsRight run.script start run.lines end) (left : end.store.tree ≡ Some run.after) where
  abbrev Begins : Moment
  Begins = First run times mount start end fits mounted tells sound right left

  abbrev sound_begins : IsSoundAt Begins
  sound_begins = sound_first run times mount start end fits mounted tells sound right left

  abbrev HomeOf : Told → ℕ
  HomeOf t = Home run times mount start end fits mounted tells sound right left t

  abbrev Homes : Story
  Homes = homes run times mount start end fits mounted tells sound right left

  abbrev Nothing : ℕ
  Nothing = length run.after.rooms

  abbrev Line : Option Told → Writing → Told → Type 0
  Line r w t = AnyLine run Begins end fits sound_begins right r w t

  lawful_to : (x xs : List Event) → right.history ≡ x ++ xs → IsLawful Begins.state x
  lawful_to x xs is = legal_first Begins x xs (subst (IsLawful Begins.state) is right.leads.lawful)

  lawful_from : (x xs : List Event) → right.history ≡ x ++ xs → IsLawful (moment_after Begins x).state xs
  lawful_from x xs is = legal_rest Begins x xs (subst (IsLawful Begins.state) is right.leads.lawful)

  sound_to : (x xs : List Event) → right.history ≡ x ++ xs → IsSoundAt (moment_after Begins x)
  sound_to x xs is = sound_after Begins x (lawful_to x xs is) sound_begins

  had_at : (pre : List Event) (e : Event) (post : List Event) → right.history ≡ pre ++ e ∷ post → e.reply ≡ reply.NoMemory → ⊥
  had_at pre e post is = (memory_rest pre (e ∷ post) (subst HadMemory is right.had_memory)).0

  -- ---- a line that holds

  module _ (r : Option Told) (w : Writing) (t : Told) (l : Line r w t) (so : HoldsSo t.statement) where
    abbrev Mine : List Event
    Mine = l.line.part.mine

    once : (first : List Event) (e : Event) (later : List Event) → Mine ≡ first ++ e ∷ later → e.caller ≡ l.number → (room : ℕ) → e.ask.call ≡ Hold room → HeldOnce l.number Mine first e later room l.line.part.e
    once first e later in_it own room asked =
        let p = l.line.part in
        holds_once l.number (work_of l.line.kept t.statement) p.mine p.spent p.e (holds t.statement so) p.comes first e later in_it own room asked
      where
        holds : (s : Statement) → HoldsSo s → HoldsOnce (work_of l.line.kept s)
        holds s (inl (name, size, is)) = subst (λ x. HoldsOnce (work_of l.line.kept x)) (sym is) (truncate_holds l.line.kept name size)
        holds s (inr (name, to, is)) = subst (λ x. HoldsOnce (work_of l.line.kept x)) (sym is) (rename_holds l.line.kept name to)

    -- all own calls of the part stand in its front
    front_held : held_room l.number Nothing l.line.shown.front ≡ held_room l.number Nothing Mine
    front_held =
        let s = l.line.shown in
        ap (first_held Nothing) (sym (ap (made_by l.number) s.split ∙ entries_both l.number s.front s.rest ∙ ap (λ z. made_by l.number s.front ++ z) s.none_behind ∙ append-nil (made_by l.number s.front)))

    in_mine : (u : List Event) (e : Event) (v : List Event) → l.line.shown.front ≡ u ++ e ∷ v → Mine ≡ u ++ e ∷ (v ++ l.line.shown.rest)
    in_mine u e v is = l.line.shown.split ∙ ap (λ z. z ++ l.line.shown.rest) is ∙ append_assoc u (e ∷ v) l.line.shown.rest

    home_held : HomeOf t ≡ held_room l.number Nothing Mine
    home_held =
        let s = l.line.shown in
        l.line.here ∙ by_hold (its_hold Begins l.number l.line.part.earlier s.front Nothing l.line.file s.new s.new_writer t.statement t.outcome so (subst (λ o. IsOfKindOr t.statement o) (sym l.line.says) (kind_so t.statement l.line.kept l.line.part.e so l.line.part.ended)) s.shows)
      where
        Room : ℕ
        Room = room_of Begins l.number (record { before = l.line.part.earlier; events = l.line.shown.front }) Nothing l.line.file l.line.shown.new l.line.shown.new_writer t.statement t.outcome l.line.shown.shows

        by_hold : (Room ≡ held_room l.number Nothing l.line.shown.front) ⊎ HoldsIn Begins l.number l.line.part.earlier l.line.shown.front Nothing l.line.file l.line.shown.new l.line.shown.new_writer Room → Room ≡ held_room l.number Nothing Mine
        by_hold (inl is) = is ∙ front_held
        by_hold (inr h) = sym ((once h.u h.event (h.v ++ l.line.shown.rest) (in_mine h.u h.event h.v h.is) h.own Room h.asked).room_is Nothing)

  -- ---- behind a hold

  module _ (pre : List Event) (e : Event) (c : Caller run Begins end fits sound_begins right pre e) (room : ℕ) (asked : e.ask.call ≡ Hold room) where
    abbrev P : List Event
    P = c.line.line.part.earlier

    abbrev Later : List Event
    Later = c.later ++ c.line.line.part.later

    holds_here : HoldsSo c.t.statement
    holds_here = subst (MayAsk c.line.line.kept c.t.statement) asked c.asks

    its_once : HeldOnce c.line.number c.line.line.part.mine c.first e c.later room c.line.line.part.e
    its_once = once c.reader c.writing c.t c.line holds_here c.first e c.later c.in_it c.own room asked

    its_home : HomeOf c.t ≡ room
    its_home = home_held c.reader c.writing c.t c.line holds_here ∙ its_once.room_is Nothing

    all_is : right.history ≡ pre ++ e ∷ Later
    all_is =
        let p = c.line.line.part in
        p.split ∙ ap (λ z. p.earlier ++ (z ++ p.later)) c.in_it ∙ ap (λ z. p.earlier ++ z) (append_assoc c.first (e ∷ c.later) p.later) ∙ sym (append_assoc p.earlier c.first (e ∷ Later)) ∙ ap (λ z. z ++ e ∷ Later) (sym c.before_is)

    -- what of the part lies behind the call lies among these events, where the part ends by there
    module _ (post rest : List Event) (all : right.history ≡ pre ++ e ∷ (post ++ rest)) (ends : length P + length c.line.line.part.mine ≤ length pre + (1 + length post)) where
      among_these : (u : List Event) (x : Event) (v : List Event) → c.later ≡ u ++ x ∷ v → (w : List Event) × (post ≡ u ++ x ∷ w)
      among_these u x v is =
          let same : Later ≡ post ++ rest = same_rest (e ∷ []) Later (post ++ rest) (same_rest pre (e ∷ Later) (e ∷ (post ++ rest)) (sym all_is ∙ all)) in
          let both : post ++ rest ≡ (u ++ x ∷ []) ++ (v ++ c.line.line.part.later) = sym same ∙ ap (λ z. z ++ c.line.line.part.later) is ∙ append_assoc u (x ∷ v) c.line.line.part.later ∙ sym (append_assoc u (x ∷ []) (v ++ c.line.line.part.later)) in
          let mine = ap length c.in_it ∙ length-append c.first (e ∷ c.later) in
          let later = ap length is ∙ length-append u (x ∷ v) in
          let front = ap length c.before_is ∙ length-append P c.first in
          let short : length (u ++ x ∷ []) ≤ length post = (let one = length-append u (x ∷ []) in omega (arith, one, mine, later, front, ends)) in
          let w = front_of post rest (u ++ x ∷ []) (v ++ c.line.line.part.later) both short in
          (w.0, w.1 ∙ append_assoc u (x ∷ []) w.0)

      abbrev Next : Moment
      Next = next_moment (moment_after Begins pre) e

      law_pre : IsLawful (moment_after Begins pre).state (e ∷ (post ++ rest))
      law_pre = lawful_from pre (e ∷ (post ++ rest)) all

      sound_pre : IsSoundAt (moment_after Begins pre)
      sound_pre = sound_to pre (e ∷ (post ++ rest)) all

      sound_next_one : IsSoundAt Next
      sound_next_one = sound_next (moment_after Begins pre) e (post ++ rest) law_pre sound_pre

      module _ (u : List Event) (x : Event) (w : List Event) (is : post ≡ u ++ x ∷ w) where
        on : IsLawful Next.state (u ++ x ∷ (w ++ rest))
        on = subst (IsLawful Next.state) (ap (λ z. z ++ rest) is ∙ append_assoc u (x ∷ w) rest) law_pre.2

        law_u : IsLawful Next.state u
        law_u = legal_first Next u (x ∷ (w ++ rest)) on

        law_x : IsLawful (moment_after Next u).state (x ∷ (w ++ rest))
        law_x = legal_rest Next u (x ∷ (w ++ rest)) on

        sound_u : IsSoundAt (moment_after Next u)
        sound_u = sound_after Next u law_u sound_next_one

        -- where it lies in the history
        x_at : right.history ≡ (pre ++ e ∷ u) ++ x ∷ (w ++ rest)
        x_at = all ∙ ap (λ z. pre ++ e ∷ z) (ap (λ z. z ++ rest) is ∙ append_assoc u (x ∷ w) rest) ∙ sym (append_assoc pre (e ∷ u) (x ∷ (w ++ rest)))

        x_had : x.reply ≡ reply.NoMemory → ⊥
        x_had = had_at (pre ++ e ∷ u) x (w ++ rest) x_at

        -- behind it
        behind_x : moment_after Next (u ++ x ∷ []) ≡ next_moment (moment_after Next u) x
        behind_x = moment-append Next u (x ∷ [])

        upto_x : post ≡ (u ++ x ∷ []) ++ w
        upto_x = is ∙ sym (append_assoc u (x ∷ []) w)

  -- ---- a container that was shut

  -- Within its part the line found its container shut, and it didn't hold it itself before.
  pub record FoundShut (t : Told) (r : Option Told) (w : Writing) (l : Line r w t) : Type 0 where
    pub es : List Event
    pub rest : List Event
    pub all : right.history ≡ es ++ rest
    pub from : length l.line.part.earlier ≤ length es
    pub within : length es ≤ length l.line.part.earlier + length l.line.part.mine
    pub shut : WasShut (moment_after Begins es) (HomeOf t)
    pub apart : HomeOf t ≡ (moment_after Begins es).state.marks → ⊥
    pub not_own : (first : List Event) (e : Event) (later : List Event) → l.line.part.mine ≡ first ++ e ∷ later → e.caller ≡ l.number → e.ask.call ≡ Hold (HomeOf t) → ((why : Refusal) → e.reply ≡ reply.Refused why → ⊥) → ⊥

  loud_hold : (e : Event) (room : ℕ) → e.ask.call ≡ Hold room → IsQuiet e.ask.call → ⊥
  loud_hold e room asked quiet = subst IsQuiet asked quiet

  module _ (low : run.faults ≤ start.store.faults) (high : end.store.faults ≡ run.faults_after) where
    -- the store failed, or no call was answered by a fault
    risen_or_well : HasRisen run.faults run.faults_after ⊎ AreWell IsWell NoFault right.history
    risen_or_well = elim (well_or_risen start right.history right.leads.lawful right.had_memory) as (λ _. HasRisen run.faults run.faults_after ⊎ AreWell IsWell NoFault right.history) [
      | inl risen ↦ inl (risen_between run.faults start.store.faults end.store.faults run.faults_after low high (subst (λ (s : State). HasRisen start.store.faults s.store.faults) right.leads.ends risen))
      | inr well ↦ inr well
    ]

    well_at : AreWell IsWell NoFault right.history → (pre : List Event) (e : Event) (post : List Event) → right.history ≡ pre ++ e ∷ post → e.reply ≡ reply.Fault → ⊥
    well_at well pre e post is = (well_rest IsWell NoFault pre (e ∷ post) (subst (AreWell IsWell NoFault) is well)).0.0

    -- a line whose part ended before the container was found shut broke off, or the store failed
    broke_or_risen : (es rest : List Event) → right.history ≡ es ++ rest → (n : ℕ) (h : ShutBy Begins es n) (c : Caller run Begins end fits sound_begins right h.pre h.event) → length c.line.line.part.earlier + length c.line.line.part.mine ≤ length es → BrokeOff c.t.outcome ⊎ HasRisen run.faults run.faults_after
    broke_or_risen es rest all n h c ends = elim risen_or_well as (λ _. BrokeOff c.t.outcome ⊎ HasRisen run.faults run.faults_after) [
      | inl risen ↦ inr risen
      | inr well ↦ by well (its_once h.pre h.event c n h.asked).ended
    ]
      where
        whole : right.history ≡ h.pre ++ h.event ∷ (h.post ++ rest)
        whole = all ∙ ap (λ z. z ++ rest) h.is ∙ append_assoc h.pre (h.event ∷ h.post) rest

        by_there : length c.line.line.part.earlier + length c.line.line.part.mine ≤ length h.pre + (1 + length h.post)
        by_there = let long = ap length h.is ∙ length-append h.pre (h.event ∷ h.post) in omega (arith, ends, long)

        released : AreWell IsWell NoFault right.history → (holder : ℕ) (u : List Event) (last : Event) (v : List Event) → h.event.ask.stop ≡ None → h.event.reply ≡ reply.Holding holder → (its : c.later ≡ u ++ last ∷ v) → EachOwn c.line.number (IsAside c.line.number) u → last.caller ≡ c.line.number → last.ask ≡ unbroken (Release holder) → ⊥
        released well holder u last v stop told its each own asked =
            let (w, is) = among_these h.pre h.event c n h.asked h.post rest whole by_there u last v its in
            let next = next_moment (moment_after Begins h.pre) h.event in
            let row = has_row c.line.number n holder (moment_after Begins h.pre) h.event (sound_pre h.pre h.event c n h.asked h.post rest whole by_there) (law_pre h.pre h.event c n h.asked h.post rest whole by_there).1 c.own h.asked stop told in
            let found = row_stays c.line.number holder row.row next u row.owned (law_u h.pre h.event c n h.asked h.post rest whole by_there u last w is) each row.found in
            let k = is_released (moment_after next u) (sound_u h.pre h.event c n h.asked h.post rest whole by_there u last w is) c.line.number holder row.row last (law_x h.pre h.event c n h.asked h.post rest whole by_there u last w is).1 own asked found row.owned (x_had h.pre h.event c n h.asked h.post rest whole by_there u last w is) in
            elim k.opened as (λ _. ⊥) [
              | inl fault ↦ well_at well (h.pre ++ h.event ∷ u) last (w ++ rest) (x_at h.pre h.event c n h.asked h.post rest whole by_there u last w is) fault
              | inr not_shut ↦ not_shut (subst (λ z. WasShut z row.row.room) (behind_x h.pre h.event c n h.asked h.post rest whole by_there u last w is) (subst (WasShut (moment_after next (u ++ last ∷ []))) (sym row.of) (h.since (u ++ last ∷ []) w (upto_x h.pre h.event c n h.asked h.post rest whole by_there u last w is))))
            ]

        by : AreWell IsWell NoFault right.history → HeldEnd c.line.number h.event c.later c.line.line.part.e → BrokeOff c.t.outcome ⊎ HasRisen run.faults run.faults_after
        by well (halted u x v bytes is own broken told) = inl (stopped (c.line.line.says ∙ told))
        by well (let_go holder u last v stop told is each own asked) = absurd (released well holder u last v stop told is each own asked)
        by well (ungranted stop never) = elim (h.granted stop) as (λ _. BrokeOff c.t.outcome ⊎ HasRisen run.faults run.faults_after) [
          | inl (holder, told) ↦ absurd (never holder told)
          | inr fault ↦ absurd (well_at well h.pre h.event (h.post ++ rest) whole fault)
        ]

    -- so it may have been held
    may_be : (t : Told) (s : Surrounded run Begins end fits sound_begins right t) → FoundShut t s.reader s.writing s.line → MayBeHeld run Homes t
    may_be t s k = elim (shut_since Begins k.es sound_begins (lawful_to k.es k.rest k.all) (HomeOf t) k.shut) as (λ _. MayBeHeld run Homes t) [
      | inl all ↦
          let first : WasShut Begins (HomeOf t) = all [] k.es refl in
          let l = left_shut times mount start run.before (HomeOf t) mounted tells (λ same. k.apart (same ∙ sym (marks_stay Begins k.es (lawful_to k.es k.rest k.all)))) first in
          left_so l.0 l.1 l.2
      | inr h ↦ by_call h (s.each h.pre h.event (h.post ++ k.rest) (k.all ∙ ap (λ z. z ++ k.rest) h.is ∙ append_assoc h.pre (h.event ∷ h.post) k.rest) (loud_hold h.event (HomeOf t) h.asked))
    ]
      where
        by_call : (h : ShutBy Begins k.es (HomeOf t)) → Found run Begins end fits sound_begins right t s.reader s.writing s.line h.pre h.event → MayBeHeld run Homes t
        by_call h (itself first later in_it own) = absurd (k.not_own first h.event later in_it own h.asked h.unrefused)
        by_call h (behind far) = let long = ap length h.is ∙ length-append h.pre (h.event ∷ h.post) in let within = k.within in absurd (omega (arith, far, long, within))
        by_call h (by_other c places not_before (inl not_sooner)) = by c.t c.is_line places (holds_so c.t.statement (holds_here h.pre h.event c (HomeOf t) h.asked)) (its_home h.pre h.event c (HomeOf t) h.asked) not_before (inl not_sooner)
        by_call h (by_other c places not_before (inr ends)) =
            let from = k.from in
            by c.t c.is_line places (holds_so c.t.statement (holds_here h.pre h.event c (HomeOf t) h.asked)) (its_home h.pre h.event c (HomeOf t) h.asked) not_before (inr (broke_or_risen k.es k.rest k.all (HomeOf t) h c (omega (arith, ends, from))))

  -- ---- where a line found its container shut

  module _ (t : Told) (r : Option Told) (w : Writing) (l : Line r w t) where
    abbrev Own : List Event
    Own = l.line.part.mine

    abbrev Start : List Event
    Start = l.line.part.earlier

    asked_so : (first : List Event) (e : Event) (later : List Event) → Own ≡ first ++ e ∷ later → e.caller ≡ l.number → (room : ℕ) → e.ask.call ≡ Hold room → HoldsSo t.statement
    asked_so first e later in_it own room asked =
        let p = l.line.part in
        subst (MayAsk l.line.kept t.statement) asked (came_asks l.number (MayAsk l.line.kept t.statement) Anyhow (work_of l.line.kept t.statement) p.mine p.spent p.e (statement_asks l.line.kept t.statement) p.comes first e later in_it own)

    alive : (o : Outcome) → t.outcome ≡ o → (line.Gone ≡ o → ⊥) → l.line.kept.gone ≡ false
    alive o told not = by_end l.line.part.ended
      where
        by_end : Ended l.line.kept t.statement l.line.part.e → l.line.kept.gone ≡ false
        by_end (was_gone is out now) = absurd (not (sym out ∙ sym l.line.says ∙ told))
        by_end (did lives d) = lives

    sound_start : IsSoundAt (moment_after Begins Start)
    sound_start = sound_to Start (Own ++ l.line.part.later) l.line.part.split

    lawful_start : IsLawful (moment_after Begins Start).state Own
    lawful_start = legal_first (moment_after Begins Start) Own l.line.part.later (lawful_from Start (Own ++ l.line.part.later) l.line.part.split)

    module _ (first : List Event) (event : Event) (rest : List Event) (is : Own ≡ first ++ event ∷ rest) where
      it_at : right.history ≡ (Start ++ first) ++ event ∷ (rest ++ l.line.part.later)
      it_at =
          let p = l.line.part in
          p.split ∙ ap (λ z. p.earlier ++ (z ++ p.later)) is ∙ ap (λ z. p.earlier ++ z) (append_assoc first (event ∷ rest) p.later) ∙ sym (append_assoc p.earlier first (event ∷ (rest ++ p.later)))

      shut_found : (room : ℕ) → HomeOf t ≡ room → WasShut (moment_after Begins (Start ++ first)) room → (room ≡ (moment_after Begins (Start ++ first)).state.marks → ⊥)
          → ((a : List Event) (e : Event) (b : List Event) → Own ≡ a ++ e ∷ b → e.caller ≡ l.number → e.ask.call ≡ Hold (HomeOf t) → ((why : Refusal) → e.reply ≡ reply.Refused why → ⊥) → ⊥) → FoundShut t r w l
      shut_found room home shut apart not_own =
          let long = length-append Start first in
          let mine = ap length is ∙ length-append first (event ∷ rest) in
          record {
            es = Start ++ first;
            rest = event ∷ (rest ++ l.line.part.later);
            all = it_at;
            from = omega (arith, long);
            within = omega (arith, long, mine);
            shut = subst (WasShut (moment_after Begins (Start ++ first))) (sym home) shut;
            apart = subst (λ k. k ≡ (moment_after Begins (Start ++ first)).state.marks → ⊥) (sym home) apart;
            not_own = not_own;
          }

    -- an opening
    front_entered : (none_there : ℕ) → entered_room l.number none_there l.line.shown.front ≡ entered_room l.number none_there Own
    front_entered none_there =
        let s = l.line.shown in
        ap (first_entered none_there) (sym (ap (made_by l.number) s.split ∙ entries_both l.number s.front s.rest ∙ ap (λ z. made_by l.number s.front ++ z) s.none_behind ∙ append-nil (made_by l.number s.front)))

    pub found_open : (name : List ℕ) → t.statement ≡ say.Open name → t.outcome ≡ line.Refused why_is.Held → FoundShut t r w l
    found_open name is told =
        let p = l.line.part in
        let s = l.line.shown in
        let comes = subst (λ x. ComesTo l.number (work_of l.line.kept x) p.mine p.spent p.e) is p.comes in
        let k = open_enters l.number l.line.kept name (moment_after Begins Start) p.mine p.spent p.e (sym l.line.says ∙ told) (alive (line.Refused why_is.Held) told (λ clash. cc)) sound_start lawful_start comes in
        let there : moment_after Begins (Start ++ k.first) ≡ moment_after (moment_after Begins Start) k.first = moment-append Begins Start k.first in
        let made = entry_made l.number l.line.kept name (moment_after Begins Start) p.mine p.spent p.e sound_start lawful_start comes k.first k.event k.rest k.is k.own k.room k.host k.most k.asked in
        let speaks = open_room Begins l.number p.earlier s.front Nothing l.line.file s.new s.new_writer name t.statement t.outcome is told s.shows in
        let home : HomeOf t ≡ k.room = l.line.here ∙ speaks.1 ∙ front_entered speaks.0 ∙ made.room_is speaks.0 in
        shut_found k.first k.event k.rest k.is k.room home (subst (λ x. WasShut x k.room) (sym there) k.shut) (subst (λ (x : Moment). k.room ≡ x.state.marks → ⊥) (sym there) k.apart)
        (λ a e b in_it own asked unrefused. opens_not name t.statement is (asked_so a e b in_it own (HomeOf t) asked))

    -- a truncate or a rename
    found_hold : HoldsSo t.statement → t.outcome ≡ line.Refused why_is.Held → FoundShut t r w l
    found_hold so told =
        let p = l.line.part in
        let s = l.line.shown in
        let (name, f) = find_held Begins l.number p.earlier s.front Nothing l.line.file s.new s.new_writer t.statement t.outcome so told s.shows in
        let a = f.attempt in
        let first : List Event = a.earlier ++ (a.finding ∷ a.between) in
        let front : s.front ≡ first ++ a.holding ∷ a.later = f.made.split ∙ sym (append_assoc a.earlier (a.finding ∷ a.between) (a.holding ∷ a.later)) in
        let mine : Own ≡ first ++ a.holding ∷ (a.later ++ s.rest) = in_mine r w t l so first a.holding a.later front in
        let home : HomeOf t ≡ a.room = home_held r w t l so ∙ (once r w t l so first a.holding (a.later ++ s.rest) mine f.made.refuses.own a.room f.made.refuses.asked).room_is Nothing in
        shut_found first a.holding (a.later ++ s.rest) mine a.room home f.shut
        (held_apart (moment_after Begins (Start ++ first)) l.number a.room a.holding (lawful_from (Start ++ first) (a.holding ∷ ((a.later ++ s.rest) ++ p.later)) (it_at first a.holding (a.later ++ s.rest) mine)).1 f.made.refuses.own f.made.refuses.asked f.made.refuses.told)
        (λ x e y in_it own asked unrefused. twice so first a.holding (a.later ++ s.rest) mine f.made.refuses.own a.room f.made.refuses.asked f.made.refuses.told x e y in_it own asked unrefused)
      where
        -- it holds once
        twice : HoldsSo t.statement → (first : List Event) (holding : Event) (rest : List Event) → Own ≡ first ++ holding ∷ rest → holding.caller ≡ l.number → (room : ℕ) → holding.ask.call ≡ Hold room → holding.reply ≡ reply.Refused refusal.Held
            → (x : List Event) (e : Event) (y : List Event) → Own ≡ x ++ e ∷ y → e.caller ≡ l.number → e.ask.call ≡ Hold (HomeOf t) → ((why : Refusal) → e.reply ≡ reply.Refused why → ⊥) → ⊥
        twice so first holding rest mine its room its_call refused x e y in_it own asked unrefused = elim (either_part x (e ∷ y) first holding rest (sym in_it ∙ mine)) as (λ _. ⊥) [
          | inl (u, front, later) ↦ subst IsNoHold its_call ((once r w t l so x e y in_it own (HomeOf t) asked).before first holding u front its)
          | inr (u, front, later) ↦ by_u u later
        ]
          where
            by_u : (u : List Event) → e ∷ y ≡ u ++ holding ∷ rest → ⊥
            by_u [] later = unrefused refusal.Held (ap (λ (z : Event). z.reply) (head_of e holding y rest later) ∙ refused)
            by_u (z ∷ u) later = subst IsNoHold its_call ((once r w t l so x e y in_it own (HomeOf t) asked).behind u holding rest (tail_of e z y (u ++ holding ∷ rest) later) its)

    -- a recovery that ended a hold
    found_mended : (out : List WriterCount) (living : List ℕ) → t.outcome ≡ line.Recovered out living true → FoundShut t r w l
    found_mended out living told =
        let p = l.line.part in
        let s = l.line.shown in
        let (name, is, h) = recover_mends Begins l.number p.earlier s.front Nothing l.line.file s.new s.new_writer t.statement t.outcome out living told (kind p.ended) s.shows in
        let mine : Own ≡ h.u ++ h.event ∷ (h.v ++ s.rest) = s.split ∙ ap (λ z. z ++ s.rest) h.is ∙ append_assoc h.u (h.event ∷ h.v) s.rest in
        let at = it_at h.u h.event (h.v ++ s.rest) mine in
        let k = mended_shut (moment_after Begins (Start ++ h.u)) (sound_to (Start ++ h.u) (h.event ∷ ((h.v ++ s.rest) ++ p.later)) at) l.number _ h.event (lawful_from (Start ++ h.u) (h.event ∷ ((h.v ++ s.rest) ++ p.later)) at).1 h.mends in
        shut_found h.u h.event (h.v ++ s.rest) mine _ l.line.here k.0 k.1 (λ a e b in_it own asked unrefused. recovers_not name t.statement is (asked_so a e b in_it own (HomeOf t) asked))
      where
        kind : Ended l.line.kept t.statement l.line.part.e → IsOfKindOr t.statement t.outcome
        kind (was_gone is gone now) = absurd (let clash : line.Gone ≡ line.Recovered out living true = sym gone ∙ sym l.line.says ∙ told in cc)
        kind (did lives d) = subst (IsOfKindOr t.statement) (sym l.line.says) d.kind

  -- ---- a recovery that was refused

  module _ (t : Told) (s : Surrounded run Begins end fits sound_begins right t) (name : List ℕ) (is : t.statement ≡ say.Recover name) (told : t.outcome ≡ line.Refused why_is.Held) where
    abbrev L : Line s.reader s.writing t
    L = s.line

    abbrev HeldNow : Type 0
    HeldNow = (o : Told) × IsLine run o × Holds o.statement × (HomeOf o ≡ HomeOf t) × (surely_before run t o ≡ false) × (surely_before run o t ≡ false)

    abbrev Part : List Event
    Part = L.line.part.mine

    abbrev Now : Moment
    Now = moment_after Begins L.line.part.earlier

    pub seeks : RecoversHeld L.number name Now Part
    seeks =
        let p = L.line.part in
        recover_finds L.number L.line.kept name Now p.mine p.spent p.e (sym L.line.says ∙ told) (alive t s.reader s.writing L (line.Refused why_is.Held) told (λ clash. cc)) (sound_start t s.reader s.writing L) (lawful_start t s.reader s.writing L) (subst (λ x. ComesTo L.number (work_of L.line.kept x) p.mine p.spent p.e) is p.comes)

    abbrev pub Sought_room : ℕ
    Sought_room = seeks.room

    pub k : FindsHolder L.number Now Part Sought_room
    k = seeks.its

    abbrev pub Es : List Event
    Es = L.line.part.earlier ++ k.first

    abbrev pub Rest : List Event
    Rest = k.event ∷ (k.rest ++ L.line.part.later)

    pub es_all : right.history ≡ Es ++ Rest
    es_all = it_at t s.reader s.writing L k.first k.event k.rest k.is

    pub home_is : HomeOf t ≡ Sought_room
    home_is =
        let p = L.line.part in
        let h = L.line.shown in
        let front : made_by L.number p.mine ≡ made_by L.number h.front = ap (made_by L.number) h.split ∙ entries_both L.number h.front h.rest ∙ ap (λ z. made_by L.number h.front ++ z) h.none_behind ∙ append-nil (made_by L.number h.front) in
        L.line.here ∙ recover_room Begins L.number p.earlier h.front Nothing L.line.file h.new h.new_writer name t.statement t.outcome is told h.shows ∙ ap (last_mended Nothing) (sym front)
        ∙ mended_is L.number Nothing Sought_room p.mine k.first k.event k.rest k.is k.own k.asked k.last

    -- who holds it then
    pub row : (h : Holder) × (holder_at h.number (moment_after Begins Es).state.table.holders ≡ Some h) × (h.room ≡ Sought_room)
    row =
        let there : (moment_after Begins Es).state.table.holders ≡ (moment_after Now k.first).state.table.holders = ap (λ (x : Moment). x.state.table.holders) (moment-append Begins L.line.part.earlier k.first) in
        held_row Sought_room (moment_after Begins Es).state.table.holders (sound_to Es Rest es_all).regular.holders.ascending (ap (is_held_room Sought_room) there ∙ k.held)

    abbrev pub H : Holder
    H = row.0

    module _ (b : HeldBy Begins Es H.number H) where
      whole_b : right.history ≡ b.pre ++ b.event ∷ (b.post ++ Rest)
      whole_b = es_all ∙ ap (λ z. z ++ Rest) b.is ∙ append_assoc b.pre (b.event ∷ b.post) Rest

      abbrev After : Moment
      After = next_moment (moment_after Begins b.pre) b.event

      -- where its line ended before, it holds no more
      module _ (c : Caller run Begins end fits sound_begins right b.pre b.event) (ends : length c.line.line.part.earlier + length c.line.line.part.mine ≤ length b.pre + (1 + length b.post)) where
        abbrev N : ℕ
        N = c.line.number

        owned : H.owner ≡ N
        owned = sym b.granted.own ∙ c.own

        stops_it : (u : List Event) (x : Event) (v : List Event) (bytes : ℕ) → c.later ≡ u ++ x ∷ v → x.caller ≡ N → x.ask.stop ≡ Some bytes → ⊥
        stops_it u x v bytes its own broken =
            let (w, at) = among_these b.pre b.event c H.room b.granted.asked b.post Rest whole_b ends u x v its in
            stopped_row (moment_after After u) N H.number H x bytes (sound_u b.pre b.event c H.room b.granted.asked b.post Rest whole_b ends u x w at) (law_x b.pre b.event c H.room b.granted.asked b.post Rest whole_b ends u x w at).1 own broken
            (x_had b.pre b.event c H.room b.granted.asked b.post Rest whole_b ends u x w at) owned
            (ap (λ (z : Moment). holder_at H.number z.state.table.holders) (sym (behind_x b.pre b.event c H.room b.granted.asked b.post Rest whole_b ends u x w at)) ∙ b.since (u ++ x ∷ []) w (upto_x b.pre b.event c H.room b.granted.asked b.post Rest whole_b ends u x w at))

        frees_it : (holder : ℕ) (u : List Event) (x : Event) (v : List Event) → b.event.reply ≡ reply.Holding holder → c.later ≡ u ++ x ∷ v → x.caller ≡ N → x.ask ≡ unbroken (Release holder) → ⊥
        frees_it holder u x v granted its own asked =
            let (w, at) = among_these b.pre b.event c H.room b.granted.asked b.post Rest whole_b ends u x v its in
            let same : holder ≡ H.number = same_holder holder H.number (sym granted ∙ b.granted.told) in
            (is_released (moment_after After u) (sound_u b.pre b.event c H.room b.granted.asked b.post Rest whole_b ends u x w at) N H.number H x (law_x b.pre b.event c H.room b.granted.asked b.post Rest whole_b ends u x w at).1 own (asked ∙ ap (λ n. unbroken (Release n)) same)
            (b.since u (x ∷ w) at) owned (x_had b.pre b.event c H.room b.granted.asked b.post Rest whole_b ends u x w at)).gone H
            (ap (λ (z : Moment). holder_at H.number z.state.table.holders) (sym (behind_x b.pre b.event c H.room b.granted.asked b.post Rest whole_b ends u x w at)) ∙ b.since (u ++ x ∷ []) w (upto_x b.pre b.event c H.room b.granted.asked b.post Rest whole_b ends u x w at))

        halts_it : (u : List Event) (x : Event) (v : List Event) (bytes : ℕ) → b.event ∷ c.later ≡ u ++ x ∷ v → x.caller ≡ N → x.ask.stop ≡ Some bytes → ⊥
        halts_it [] x v bytes its own broken = let clash : None ≡ Some bytes = sym b.granted.whole ∙ ap (λ (z : Event). z.ask.stop) (head_of b.event x c.later v its) ∙ broken in cc
        halts_it (y ∷ u) x v bytes its own broken = stops_it u x v bytes (tail_of b.event y c.later (u ++ x ∷ v) its) own broken

        not_ended : HeldEnd N b.event c.later c.line.line.part.e → ⊥
        not_ended (halted u x v bytes its own broken ended) = halts_it u x v bytes its own broken
        not_ended (let_go holder u last v stop granted its each own asked) = frees_it holder u last v granted its own asked
        not_ended (ungranted stop never) = never H.number b.granted.told

        none_ended : ⊥
        none_ended = not_ended (its_once b.pre b.event c H.room b.granted.asked).ended

      by_call : Found run Begins end fits sound_begins right t s.reader s.writing L b.pre b.event → HeldNow
      by_call (itself first later in_it own) = absurd (recovers_not name t.statement is (asked_so t s.reader s.writing L first b.event later in_it own H.room b.granted.asked))
      by_call (behind far) =
          let long = ap length b.is ∙ length-append b.pre (b.event ∷ b.post) in
          let front = length-append L.line.part.earlier k.first in
          let mine = ap length k.is ∙ length-append k.first (k.event ∷ k.rest) in
          absurd (omega (arith, far, long, front, mine))
      by_call (by_other c places not_before (inl not_sooner)) = (c.t, c.is_line, holds_so c.t.statement (holds_here b.pre b.event c H.room b.granted.asked), its_home b.pre b.event c H.room b.granted.asked ∙ row.2 ∙ sym home_is, not_before, not_sooner)
      by_call (by_other c places not_before (inr ends)) =
          let long = ap length b.is ∙ length-append b.pre (b.event ∷ b.post) in
          let front = length-append L.line.part.earlier k.first in
          absurd (none_ended c (omega (arith, ends, long, front)))

    held_now : HeldNow
    held_now = elim (held_since Begins Es sound_begins (lawful_to Es Rest es_all) H.number H row.1) as (λ _. HeldNow) [
      | inl always ↦ absurd (let clash : None ≡ Some H = ap (holder_at H.number) (sym mounted.no_holders) ∙ always [] Es refl in cc)
      | inr b ↦ by_call b (s.each b.pre b.event (b.post ++ Rest) (whole_b b) (loud_hold b.event H.room b.granted.asked))
    ]

  -- the law of this file
  pub held_told : run.in_order ≡ false → run.faults ≤ start.store.faults → end.store.faults ≡ run.faults_after → HasHeld run Homes
  held_told free low high = record { refused = refused_so; ended = ended_so }
    where
      around : (t : Told) → IsLine run t → Surrounded run Begins end fits sound_begins right t
      around t is_line = surrounded run Begins end fits sound_begins right free t is_line

      ended_so : (t : Told) (out : List WriterCount) (living : List ℕ) → Says run t (line.Recovered out living true) → MayBeHeld run Homes t
      ended_so t out living says = (let s = around t says.is_line in may_be low high t s (found_mended t s.reader s.writing s.line out living says.says))

      by_statement : (t : Told) → Says run t (line.Refused why_is.Held) → (s : Statement) → t.statement ≡ s → IsReasonOf s why_is.Held → IsHeldFrom run Homes t s
      by_statement t says (say.Open name) is may = (let s = around t says.is_line in may_be low high t s (found_open t s.reader s.writing s.line name is says.says))
      by_statement t says (say.Trunc name size) is may = (let s = around t says.is_line in may_be low high t s (found_hold t s.reader s.writing s.line (inl (name, size, is)) says.says))
      by_statement t says (say.Rename name to) is may = (let s = around t says.is_line in may_be low high t s (found_hold t s.reader s.writing s.line (inr (name, to, is)) says.says))
      by_statement t says (say.Recover name) is may = held_now t (around t says.is_line) name is says.says
      by_statement t says other is may = absurd may

      refused_so : (t : Told) → Says run t (line.Refused why_is.Held) → IsHeldFrom run Homes t t.statement
      refused_so t says = by_statement t says t.statement refl ((reasons_told run Begins end fits sound_begins right).kinds t why_is.Held says)

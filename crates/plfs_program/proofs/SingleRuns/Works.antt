-- The statements of one actor by itself go one way, by one plan of faults.
use Rattle.std.proofs.Common.{◌≡◌, ℕ, ◌-◌, ◌<◌, ◌^◌, ◌==◌, if◌then◌else◌, List, [], ◌∷◌, ◌++◌, Some, Result, refl, sym, ap, ◌∙◌, subst}
use Rattle.std.specs.Prelude.{map}
use Rattle.std.specs.List.{All}
use Rattle.std.proofs.lemmas.List.{append-nil}
use Rattle.std.proofs.lemmas.List.Elements.{All-head, All-tail}
use Rattle.mount_model.specs.declared.stuck.Stuck.{Stuck}
use Rattle.mount_model.specs.declared.call.Ask.{Ask}
use Rattle.mount_model.specs.declared.reply.Reply.{Reply}
use Rattle.mount_model.specs.State.{State}
use Rattle.mount_model.specs.History.{Event, state_after}
use Rattle.mount_model.specs.Process.{ends, pauses, tells, asks, shares}
use Rattle.mount_model.specs.Turns.{Finishes}
use Rattle.mount_model.specs.Performers.{Performer, performer, paused}
use Rattle.mount_model.specs.InTurns.{Moves, ToEnd, ToItsEnd, AllToEnd, InTurns}
use Rattle.index_reader.specs.declared.sharing.Share.{Share}
use Rattle.script_lang.specs.declared.line.Line.{Line}
use Rattle.script_lang.specs.declared.script.Numbered.{Numbered}
use Rattle.actor_core.specs.declared.kept.Kept.{Kept}
use Rattle.actor_core.specs.Progress.{fresh, line_of}
use Rattle.actor_core.specs.Statements.{work_of}
use Rattle.actor_core.specs.Work.{Work}
use Rattle.run_core.specs.Cast.{cast}
use Rattle.run_core.specs.Course.{Course, then_line, one_by_one, own}
use Rattle.run_core.specs.Play.{IsPlay}
use Rattle.run_core.specs.Written.{is_greeting, written_of, whose}
use Rattle.plfs_program.specs.Commands.{script_of}
use Rattle.step_laws.specs.Alike.{TellsAll}
use Rattle.plfs_program.specs.Planned.{FaultPlan, KeepsTo}
use Rattle.plfs_program.proofs.Replays.Lone.{AreAsPlanned, first_one, planned_after, room_after}
use Rattle.plfs_program.proofs.Replays.Replaying.{CountsOn}

-- ---- one statement

-- with these calls it is carried to its end, has this line, and leaves this to be kept
abbrev pub EndsAs : ℕ → Work → List Event → Line → Kept → Type 0
EndsAs number ends calls line after = ⊥
EndsAs number (pauses work) calls line after = ⊥
EndsAs number (tells ending work) calls line after = (calls ≡ []) × (line ≡ line_of number ending) × (after ≡ ending.kept)
EndsAs number (asks question k) [] line after = ⊥
EndsAs number (asks question k) (e ∷ calls) line after = (e.caller ≡ 0) × (e.ask ≡ question) × EndsAs number (k e.reply) calls line after
EndsAs number (shares programs k alone) calls line after = EndsAs number alone calls line after

-- what it ends as, whatever follows
record Ending (number : ℕ) (next : Kept → Course) (work : Work) (calls : List Event) (line : Line) (left : Course) : Type 0 where
  after : Kept
  left_is : left ≡ next after
  does : EndsAs number work calls line after

finish_as : (number : ℕ) (next : Kept → Course) (work : Work) (calls : List Event) (line : Line) (left : Course) → Finishes 0 (then_line number next work) calls line left → Ending number next work calls line left
finish_as number next ends calls line left f = absurd f
finish_as number next (pauses work) calls line left f = absurd f
finish_as number next (tells ending work) calls line left f = record { after = ending.kept; left_is = f.2; does = (f.0, f.1, refl) }
finish_as number next (asks question k) [] line left f = absurd f
finish_as number next (asks question k) (e ∷ calls) line left f =
    let rest = finish_as number next (k e.reply) calls line left f.2 in
    record { after = rest.after; left_is = rest.left_is; does = (f.0, f.1, rest.does) }
finish_as number next (shares programs k alone) calls line left f =
    let rest = finish_as number next alone calls line left f in
    record { after = rest.after; left_is = rest.left_is; does = rest.does }

-- two ends of one statement from one state, with what is made behind it
record OneEnd (plan : FaultPlan) (old : State) (first second more later : List Event) (line told : Line) (after also : Kept) : Type 0 where
  line_is : line ≡ told
  kept_is : after ≡ also
  state_is : state_after old first ≡ state_after old second
  tells : TellsAll (state_after old first)
  room : (state_after old first).store.faults < 2 ^ 64 - 1
  planned : AreAsPlanned plan (state_after old first) more
  planned_too : AreAsPlanned plan (state_after old first) later

none_planned : (plan : FaultPlan) (old : State) (calls more : List Event) → calls ≡ [] → AreAsPlanned plan old (calls ++ more) → AreAsPlanned plan old more
none_planned plan old calls more none q = subst (λ (z : List Event). AreAsPlanned plan old (z ++ more)) none q

none_moved : (old : State) (calls : List Event) → calls ≡ [] → state_after old calls ≡ old
none_moved old calls none = ap (λ z. state_after old z) none

module _ (plan : FaultPlan) (counts : CountsOn plan) where
  -- the same of a front without calls
  idle_end : (old : State) (first second more later : List Event) (line told : Line) (after also : Kept) → TellsAll old → old.store.faults < 2 ^ 64 - 1 → AreAsPlanned plan old (first ++ more) → AreAsPlanned plan old (second ++ later)
      → first ≡ [] → second ≡ [] → line ≡ told → after ≡ also → OneEnd plan old first second more later line told after also
  idle_end old first second more later line told after also known room a b x y l k =
      let stays : old ≡ state_after old first = sym (none_moved old first x) in
      record {
        line_is = l;
        kept_is = k;
        state_is = sym stays ∙ sym (none_moved old second y);
        tells = subst TellsAll stays known;
        room = subst (λ (s : State). s.store.faults < 2 ^ 64 - 1) stays room;
        planned = subst (λ s. AreAsPlanned plan s more) stays (none_planned plan old first more x a);
        planned_too = subst (λ s. AreAsPlanned plan s later) stays (none_planned plan old second later y b);
      }

  end_one : (number : ℕ) (work : Work) (old : State) (first second more later : List Event) (line told : Line) (after also : Kept) → TellsAll old → old.store.faults < 2 ^ 64 - 1 → AreAsPlanned plan old (first ++ more) → AreAsPlanned plan old (second ++ later)
      → EndsAs number work first line after → EndsAs number work second told also → OneEnd plan old first second more later line told after also
  end_one number ends old first second more later line told after also known room a b x y = absurd x
  end_one number (pauses work) old first second more later line told after also known room a b x y = absurd x
  end_one number (tells ending work) old first second more later line told after also known room a b x y =
      idle_end old first second more later line told after also known room a b x.0 y.0 (x.1 ∙ sym y.1) (x.2 ∙ sym y.2)
  end_one number (asks question k) old [] second more later line told after also known room a b x y = absurd x
  end_one number (asks question k) old (e ∷ first) [] more later line told after also known room a b x y = absurd y
  end_one number (asks question k) old (e ∷ first) (f ∷ second) more later line told after also known room a b x y =
      let one = first_one plan counts old e f (first ++ more) (second ++ later) known room a b (y.0 ∙ sym x.0) (y.1 ∙ sym x.1) in
      let planned_too : AreAsPlanned plan e.after (second ++ later) = subst (λ s. AreAsPlanned plan s (second ++ later)) (sym one.left_is) (planned_after plan old f (second ++ later) b) in
      let goes : EndsAs number (k e.reply) second told also = subst (λ r. EndsAs number (k r) second told also) (sym one.replied) y.2 in
      let rest = end_one number (k e.reply) e.after first second more later line told after also one.tells (room_after plan counts old e (first ++ more) room a) (planned_after plan old e (first ++ more) a) planned_too x.2 goes in
      record { line_is = rest.line_is; kept_is = rest.kept_is; state_is = rest.state_is ∙ ap (λ s. state_after s second) one.left_is; tells = rest.tells; room = rest.room; planned = rest.planned; planned_too = rest.planned_too }
  end_one number (shares programs k alone) old first second more later line told after also known room a b x y = end_one number alone old first second more later line told after also known room a b x y

-- ---- statements, one after the other

-- with these calls the actor, which keeps this, makes the statements, and these are their lines
abbrev pub AreDone : Kept → List Numbered → List Event → List Line → Type 0
AreDone kept [] calls [] = calls ≡ []
AreDone kept [] calls (line ∷ lines) = ⊥
AreDone kept (s ∷ ss) calls [] = ⊥
AreDone kept (s ∷ ss) calls (line ∷ lines) =
    (first : List Event) × (more : List Event) × (after : Kept) × (calls ≡ first ++ more) × EndsAs s.line (work_of kept s.statement) first line after × AreDone after ss more lines

module _ (plan : FaultPlan) (counts : CountsOn plan) where
  -- more statements begin with the same lines
  pub lines_begin : (statements further : List Numbered) (kept : Kept) (old : State) (calls others : List Event) (lines told : List Line) → TellsAll old → old.store.faults < 2 ^ 64 - 1 → AreAsPlanned plan old calls → AreAsPlanned plan old others
      → AreDone kept statements calls lines → AreDone kept (statements ++ further) others told → (more : List Line) × (told ≡ lines ++ more)
  lines_begin [] further kept old calls others [] told known room a b x y = (told, refl)
  lines_begin [] further kept old calls others (line ∷ lines) told known room a b x y = absurd x
  lines_begin (s ∷ ss) further kept old calls others [] told known room a b x y = absurd x
  lines_begin (s ∷ ss) further kept old calls others (line ∷ lines) [] known room a b x y = absurd y
  lines_begin (s ∷ ss) further kept old calls others (line ∷ lines) (said ∷ told) known room a b (first, more, after, is, does, later) (second, rest, also, is_too, does_too, later_too) =
      let a_so : AreAsPlanned plan old (first ++ more) = subst (AreAsPlanned plan old) is a in
      let b_so : AreAsPlanned plan old (second ++ rest) = subst (AreAsPlanned plan old) is_too b in
      let one = end_one plan counts s.line (work_of kept s.statement) old first second more rest line said after also known room a_so b_so does does_too in
      let goes : AreDone after (ss ++ further) rest told = subst (λ k. AreDone k (ss ++ further) rest told) (sym one.kept_is) later_too in
      let begins = lines_begin ss further after (state_after old first) more rest lines told one.tells one.room one.planned one.planned_too later goes in
      (begins.0, λ i. sym one.line_is i ∷ begins.1 i)

-- ---- of the play of one actor

abbrev pub IsFirst : Numbered → Type 0
IsFirst s = s.actor ≡ 0

abbrev One : Type 0
One = Performer Ask Reply (Result Share Stuck) Line

abbrev lone : Course → List One
lone course = performer 0 course [] ∷ []

-- one statement of the first actor is carried to its end
one_done : (s : Numbered) (ss : List Numbered) (next : Kept → Course) (kept : Kept) (line : Line) (calls : List Event) (mid : List One)
    → Moves 0 (lone (one_by_one (s ∷ ss) next kept)) (ToItsEnd line) calls mid → (after : Kept) × EndsAs s.line (work_of kept s.statement) calls line after × (mid ≡ lone (one_by_one ss next after))
one_done s ss next kept line calls mid m =
    let old = performer 0 (one_by_one (s ∷ ss) next kept) [] in
    let same : old ≡ m.before = some_one old m.before m.here in
    let does : ToEnd [] line old calls m.after = subst (λ (z : One). ToEnd z.ahead line z calls m.after) (sym same) m.does in
    let ended = finish_as s.line (λ left. one_by_one ss next left) (work_of kept s.statement) calls line does.0 does.1 in
    (ended.after, ended.does, m.new_is ∙ ap (λ z. z ∷ []) (does.2 ∙ ap (λ c. performer 0 c []) ended.left_is))
  where
    some_one : (a b : One) → Some a ≡ Some b → a ≡ b
    some_one a b e = cc

all_done : (statements : List Numbered) (next : Kept → Course) (kept : Kept) (calls : List Event) (lines : List Line) (new : List One) → All IsFirst statements
    → AllToEnd (whose statements) lines (lone (one_by_one statements next kept)) calls new → AreDone kept statements calls lines
all_done [] next kept calls [] new all d = d.0
all_done [] next kept calls (line ∷ lines) new all d = absurd d
all_done (s ∷ ss) next kept calls [] new all d = absurd d
all_done (s ∷ ss) next kept calls (line ∷ lines) new all (first, more, mid, is, moves, later) =
    let here : Moves 0 (lone (one_by_one (s ∷ ss) next kept)) (ToItsEnd line) first mid = subst (λ n. Moves n (lone (one_by_one (s ∷ ss) next kept)) (ToItsEnd line) first mid) (All-head IsFirst s ss all) moves in
    let one = one_done s ss next kept line first mid here in
    let rest : AllToEnd (whose ss) lines (lone (one_by_one ss next one.0)) more new = subst (λ z. AllToEnd (whose ss) lines z more new) one.2 later in
    (first, more, one.0, is, one.1, all_done ss next one.0 more lines new (All-tail IsFirst s ss all) rest)

own_all : (statements : List Numbered) → All IsFirst statements → own 0 statements ≡ statements
own_all [] all = refl
own_all (s ∷ ss) all =
    let P : ℕ → Type 0 = λ n. (if n == 0 then s ∷ own 0 ss else own 0 ss) ≡ s ∷ ss in
    subst P (sym (All-head IsFirst s ss all)) (ap (λ z. s ∷ z) (own_all ss (All-tail IsFirst s ss all)))

pub play_done : (statements : List Numbered) (start end : State) (lines : List Line) (play : IsPlay (script_of statements) start lines end) → All IsFirst statements → AreDone (fresh 0 64) statements play.history lines
play_done statements start end lines play all =
    let kept = fresh 0 64 in
    let waits : Kept → Course = λ left. pauses ends in
    of_turns play.in_turns
  where
    of_turns : InTurns is_greeting (map written_of (script_of statements).phases) (cast (script_of statements)) play.history lines → AreDone (fresh 0 64) statements play.history lines
    of_turns (block, more, told, others, next, is, lines_are, phase, (none_more, no_lines, at_end)) =
        let waits : Kept → Course = λ left. pauses ends in
        let calls : block ≡ phase.rest = phase.all ∙ ap (λ z. z ++ phase.rest) phase.turns.0 in
        let mid : phase.mid ≡ lone (one_by_one (own 0 statements) waits (fresh 0 64)) = phase.turns.1 in
        let T : List One → Type 0 = λ z. AllToEnd (whose statements) told z phase.rest (map paused next) in
        let here : AllToEnd (whose statements) told (lone (one_by_one statements waits (fresh 0 64))) phase.rest (map paused next) =
        subst T (mid ∙ ap (λ z. lone (one_by_one z waits (fresh 0 64))) (own_all statements all)) phase.statements in
        let done_so = all_done statements waits (fresh 0 64) phase.rest told (map paused next) all here in
        let history : phase.rest ≡ play.history = sym calls ∙ sym (append-nil block) ∙ ap (λ z. block ++ z) (sym none_more) ∙ sym is in
        let told_so : told ≡ lines = sym (append-nil told) ∙ ap (λ z. told ++ z) (sym no_lines) ∙ sym lines_are in
        let P : List Event × List Line → Type 0 = λ z. AreDone (fresh 0 64) statements z.0 z.1 in
        subst P (λ i. (history i, told_so i)) done_so

-- of two such plays from one state, where one has more statements behind those of the other, it has more lines behind those
pub plays_begin : (plan : FaultPlan) → CountsOn plan → (statements further : List Numbered) (start end other : State) (lines told : List Line) → TellsAll start → start.store.faults < 2 ^ 64 - 1 → All IsFirst statements → All IsFirst (statements ++ further)
    → (play : IsPlay (script_of statements) start lines end) → (again : IsPlay (script_of (statements ++ further)) start told other) → KeepsTo plan start play.history → KeepsTo plan start again.history → (more : List Line) × (told ≡ lines ++ more)
plays_begin plan counts statements further start end other lines told known room all all_too play again keeps too =
    lines_begin plan counts statements further (fresh 0 64) start play.history again.history lines told known room (record { lawful = play.leads.lawful; memory = play.had_memory; keeps = keeps })
    (record { lawful = again.leads.lawful; memory = again.had_memory; keeps = too }) (play_done statements start end lines play all) (play_done (statements ++ further) start other told again all_too)

-- Phases, one after the other.
use Rattle.std.proofs.Common.{◌≡◌, ℕ, zero, suc, ◌+◌, inr, List, [], ◌∷◌, ◌++◌, length, Some, refl, sym, ap, ◌∙◌, subst, map, append_assoc, append-nil, take, arith}
use Rattle.std.specs.Prelude.{slice_get, All, Result}
use Rattle.std.proofs.lemmas.List.Elements.{All-nil, All-cons}
use Rattle.mount_model.specs.declared.call.Ask.{Ask}
use Rattle.mount_model.specs.declared.reply.Reply.{Reply}
use Rattle.mount_model.specs.State.{State}
use Rattle.mount_model.specs.History.{Event}
use Rattle.mount_model.specs.declared.stuck.Stuck.{Stuck}
use Rattle.index_reader.specs.declared.sharing.Share.{Share}
use Rattle.mount_model.specs.Process.{ends}
use Rattle.mount_model.specs.Performers.{Performer, performer, paused, NoneAhead}
use Rattle.mount_model.specs.InTurns.{AllInTurn, AllToEnd, InTurns}
use Rattle.script_lang.specs.declared.line.Line.{Line}
use Rattle.script_lang.specs.declared.script.ActorDecl.{ActorDecl}
use Rattle.script_lang.specs.declared.script.Numbered.{Numbered}
use Rattle.script_lang.specs.declared.script.Phase.{Phase}
use Rattle.script_lang.specs.declared.script.Script.{Script}
use Rattle.actor_core.specs.Progress.{Progress, idle, fresh}
use Rattle.actor_core.specs.Standings.{progress_of}
use Rattle.run_core.specs.declared.player.Player.{Player}
use Rattle.run_core.specs.Course.{Course, through, course_of}
use Rattle.run_core.specs.Written.{is_greeting, whose, turns_of, written_of}
use Rattle.run_core.specs.Cast.{cast_from}
use Rattle.run_core.specs.Breaking.{BreakInOrder}
use Rattle.run_core.specs.Play.{IsPlay}
use Rattle.run_core.specs.Players.{course_at, playing, resting, IsMade, in_progress, Stands, waiting_in}
use Rattle.run_core.specs.World.{AllStand, Dealt, TookTurns, Tells, PlayedPhase, PlayedSoFar, IsCast}
use Rattle.run_core.proofs.Players.Leading.{leads_none, leads_both}
use Rattle.share_workers.proofs.Facts.{memory_both}
use Rattle.mount_sound.specs.Sound.{IsFine}
use Rattle.run_core.proofs.Players.Fitness.{idle_fit}
use Rattle.run_core.proofs.Players.Works.{same_some}
use Rattle.run_core.proofs.Plays.Dealing.{rests_of, dealt_course, waits}

-- two lists of which the items at each place are seen alike
alike : {X Y Z : Type 0} (f : X → Z) (g : Y → Z) (xs : List X) (ys : List Y) → length ys ≡ length xs → ((i : ℕ) (y : Y) → slice_get ys i ≡ Some y → (x : X) × (slice_get xs i ≡ Some x) × (f x ≡ g y)) → map f xs ≡ map g ys
alike f g [] [] long each = refl
alike f g [] (y ∷ ys) long each = absurd (omega (arith, long))
alike f g (x ∷ xs) [] long each = absurd (omega (arith, long))
alike f g (x ∷ xs) (y ∷ ys) long each =
    let first = each 0 y refl in
    let same : f x ≡ g y = ap f (same_some x first.0 first.1) ∙ first.2 in
    let shorter : length ys ≡ length xs = omega (arith, long) in
    (λ i. same i ∷ alike f g xs ys shorter (λ j z here. each (suc j) z here) i)

mapped_twice : {X Y Z : Type 0} (f : X → Y) (g : Y → Z) (xs : List X) → map g (map f xs) ≡ map (λ x. g (f x)) xs
mapped_twice f g [] = refl
mapped_twice f g (x ∷ xs) = ap (λ z. g (f x) ∷ z) (mapped_twice f g xs)

-- what is so at each place is so of all
all_of_map : {X Y : Type 0} (P : Y → Type 0) (f : X → Y) (xs : List X) → ((i : ℕ) (x : X) → slice_get xs i ≡ Some x → P (f x)) → All P (map f xs)
all_of_map P f [] each = All-nil P
all_of_map P f (x ∷ xs) each = All-cons P (f x) (map f xs) (each 0 x refl) (all_of_map P f xs (λ i y here. each (suc i) y here))

none_ahead : (later : List Phase) (players : List Player) (now : State) → AllStand [] players now → NoneAhead (map (resting later) players)
none_ahead later players now stand = all_of_map (λ (one : Performer Ask Reply (Result Share Stuck) Line). one.ahead ≡ []) (resting later) players (λ i player here. (rests_of i player now (stand i player here)).ahead)

-- whose statements of a phase were dealt has them still to make
pub dealt_begins : (phase : Phase) (later : List Phase) (old dealt : List Player) (start : State) → AllStand [] old start → Dealt phase.statements old dealt → map (resting (phase ∷ later)) old ≡ map (playing later) dealt
dealt_begins phase later old dealt start stand d =
    alike (resting (phase ∷ later)) (playing later) old dealt d.long (λ i player here.
    let b = d.each i player here in
    (b.0, b.1, dealt_course i phase later b.0 player start (stand i b.0 b.1) b.2))

-- the statements were dealt, the turns taken, and the rest was carried to its end
pub played_phase : (phase : Phase) (l m : List Line) (old dealt turned new : List Player) (start between end : State) → AllStand [] old start → Dealt phase.statements old dealt → TookTurns (turns_of phase.turns) dealt start turned between
    → Tells (whose phase.statements) [] l turned between m new end → PlayedPhase phase l old start m new end
played_phase phase l m old dealt turned new start between end stand d t e = record {
  events = t.events ++ e.came.events;
  told = e.told;
  lines = e.lines;
  leads = leads_both start between end t.events e.came.events t.leads e.came.leads;
  had_memory = memory_both t.events e.came.events t.had_memory e.came.had_memory;
  played = λ later.
      let begins = dealt_begins phase later old dealt start stand d in
      let pauses : map (playing later) new ≡ map paused (map (resting later) new) =
      alike (playing later) (λ p. paused (resting later p)) new new refl (λ i player here. (player, here, waits i later player end (e.came.stand i player here)))
      ∙ sym (mapped_twice (resting later) paused new) in
      record {
        first = t.events;
        rest = e.came.events;
        mid = map (playing later) turned;
        all = refl;
        turns = subst (λ z. AllInTurn is_greeting (turns_of phase.turns) z t.events (map (playing later) turned)) (sym begins) (t.took later);
        statements = subst (λ z. AllToEnd (whose phase.statements) e.told (map (playing later) turned) e.came.events z) pauses (e.came.came later);
        none_ahead = none_ahead later new end e.came.stand;
      };
  stand = e.came.stand;
  long = e.came.long ∙ (t.long ∙ d.long);
}

pub no_phase : (players : List Player) (now : State) → AllStand [] players now → PlayedSoFar [] [] players now players now
no_phase players now stand = record {
  events = [];
  leads = leads_none now;
  had_memory = tt;
  played = λ later more others t. t;
  begins = λ later more b. b;
  stand = stand;
  long = refl;
}

pub one_phase_more : (phases : List Phase) (i : ℕ) (phase : Phase) (l m : List Line) (old mid new : List Player) (start between end : State) → take (i + 1) phases ≡ take i phases ++ phase ∷ []
    → PlayedSoFar (take i phases) l old start mid between → PlayedPhase phase l mid between m new end → PlayedSoFar (take (i + 1) phases) m old start new end
one_phase_more phases i phase l m old mid new start between end taken a p =
    let first = take i phases in
    let both : PlayedSoFar (first ++ phase ∷ []) m old start new end = record {
      events = a.events ++ p.events;
      leads = leads_both start between end a.events p.events a.leads p.leads;
      had_memory = memory_both a.events p.events a.had_memory p.had_memory;
      played = λ later more others t.
          let here = a.played (phase ∷ later) (p.events ++ more) (p.told ++ others) (p.events, more, p.told, others, map (resting later) new, refl, refl, p.played later, t) in
          let T : List Phase × List Event × List Line → Type 0 = λ z. InTurns is_greeting (map written_of z.0) (map (resting z.0) old) z.1 z.2 in
          let lines : l ++ (p.told ++ others) ≡ m ++ others = sym (append_assoc l p.told others) ∙ ap (λ z. z ++ others) (sym p.lines) in
          subst T (λ k. (sym (append_assoc first (phase ∷ []) later) k, sym (append_assoc a.events p.events more) k, lines k)) here;
      begins = λ later more b.
          let here = a.begins (phase ∷ later) (p.events ++ more) (inr (p.events, more, p.told, map (resting later) new, refl, p.played later, b)) in
          let T : List Phase × List Event → Type 0 = λ z. BreakInOrder is_greeting (map written_of z.0) (map (resting z.0) old) z.1 in
          subst T (λ k. (sym (append_assoc first (phase ∷ []) later) k, sym (append_assoc a.events p.events more) k)) here;
      stand = p.stand;
      long = p.long ∙ a.long;
    } in
    subst (λ z. PlayedSoFar z m old start new end) (sym taken) both

at_their_end : (players : List Player) (now : State) → AllStand [] players now → InTurns {S = State} is_greeting [] (map (resting []) players) [] []
at_their_end players now stand = (
  refl,
  refl,
  all_of_map (λ (one : Performer Ask Reply (Result Share Stuck) Line). one.left ≡ ends) (resting []) players (λ i player here.
      let r = rests_of i player now (stand i player here) in
      let C : Progress × List Numbered → Course = λ z. course_at z.0 z.1 (through player.number []) in
      ap C (λ k. (r.progress k, r.queue k))),
)

-- the phases of the script were played by its actors
pub is_play : (script : Script) (lines : List Line) (old new : List Player) (start end : State) → IsCast script.actors old → PlayedSoFar script.phases lines old start new end → IsPlay script start lines end
is_play script lines old new start end c a = record {
  history = a.events;
  leads = a.leads;
  had_memory = a.had_memory;
  in_turns =
      let whole = a.played [] [] [] (at_their_end new end a.stand) in
      let T : List Phase × List Event × List Line → Type 0 = λ z. InTurns is_greeting (map written_of z.0) (map (resting z.0) old) z.1 z.2 in
      let plain = subst T (λ k. (append-nil script.phases k, append-nil a.events k, append-nil lines k)) whole in
      subst (λ z. InTurns is_greeting (map written_of script.phases) z a.events lines) (c.cast script.phases) plain;
}

-- ---- the actors as they are declared

pub no_cast : (players : List Player) → players ≡ [] → IsCast [] players
no_cast players none = subst (λ z. IsCast [] z) (sym none) (record { cast = λ later. refl; stand = λ now fine place player here. absurd (cc); long = refl })

cast_both : (place : ℕ) (later : List Phase) (first : List ActorDecl) (one : ActorDecl) → cast_from place later (first ++ one ∷ []) ≡ cast_from place later first ++ performer (place + length first) (course_of (place + length first) later one) [] ∷ []
cast_both place later [] one = ap (λ n. performer n (course_of n later one) [] ∷ []) (omega arith)
cast_both place later (d ∷ ds) one =
    let number : (place + 1) + length ds ≡ place + suc (length ds) = omega arith in
    ap (λ z. performer place (course_of place later d) [] ∷ z) (cast_both (place + 1) later ds one ∙ ap (λ n. cast_from (place + 1) later ds ++ performer n (course_of n later one) [] ∷ []) number)

map_both : {X Y : Type 0} (f : X → Y) (xs : List X) (x : X) → map f (xs ++ x ∷ []) ≡ map f xs ++ f x ∷ []
map_both f [] x = refl
map_both f (y ∷ xs) x = ap (λ z. f y ∷ z) (map_both f xs x)

length_both : {X : Type 0} (xs : List X) (x : X) → length (xs ++ x ∷ []) ≡ length xs + 1
length_both [] x = omega arith
length_both (y ∷ xs) x = let e = length_both xs x in omega (arith, e)

at_end : {X : Type 0} (P : ℕ → X → Type 0) (k : ℕ) (xs : List X) (x : X) → ((i : ℕ) (y : X) → slice_get xs i ≡ Some y → P (k + i) y) → P (k + length xs) x → (i : ℕ) (y : X) → slice_get (xs ++ x ∷ []) i ≡ Some y → P (k + i) y
at_end {X} P k [] x each last zero y here = subst (λ (z : X). P (k + 0) z) (same_some x y here) last
at_end P k [] x each last (suc i) y here = absurd (cc)
at_end P k (z ∷ xs) x each last zero y here = each 0 y here
at_end {X} P k (z ∷ xs) x each last (suc i) y here =
    let number : (j : ℕ) → k + suc j ≡ (k + 1) + j = λ j. omega arith in
    subst (λ n. P n y) (sym (number i)) (at_end P (k + 1) xs x (λ j w there. subst (λ n. P n w) (number j) (each (suc j) w there)) (subst (λ n. P n x) (number (length xs)) last) i y here)

pub cast_more : (actors : List ActorDecl) (i : ℕ) (one : ActorDecl) (players : List Player) (player : Player) → take (i + 1) actors ≡ take i actors ++ one ∷ [] → IsCast (take i actors) players → player.number ≡ length players
    → progress_of player.actor ≡ idle (fresh one.host one.cap) → waiting_in player ≡ [] → player.ahead.items ≡ [] → IsCast (take (i + 1) actors) (players ++ player ∷ [])
cast_more actors i one players player taken c number progress queue ahead =
    let first = take i actors in
    let place : player.number ≡ length first = number ∙ c.long in
    let busy : in_progress (progress_of player.actor) ≡ 0 = ap in_progress progress in
    let lines : length player.ahead.items ≡ 0 = ap length ahead in
    let others : length (waiting_in player) ≡ 0 = ap length queue in
    let stands : (now : State) → IsFine now → Stands [] player.number player now = λ now fine. record {
      number = refl;
      fit = idle_fit player now (fresh one.host one.cap) progress (subst (λ (z : List Numbered). All IsMade z) (sym queue) (All-nil IsMade)) fine;
      left = omega (arith, busy, lines, others);
    } in
    let zero_more : (n : ℕ) → 0 + n ≡ n = λ n. omega arith in
    record {
      cast = λ later.
          let seen : resting later player ≡ performer (length first) (course_of (length first) later one) [] =
          (let C : ℕ × Progress × List Numbered × List Line → Performer Ask Reply (Result Share Stuck) Line = λ z. performer z.0 (course_at z.1 z.2 (through z.0 later)) z.3 in ap C (λ k. (place k, progress k, queue k, ahead k))) in
          map_both (resting later) players player ∙ ((λ k. c.cast later k ++ seen k ∷ []) ∙ (sym (cast_both 0 later first one ∙ ap (λ n. cast_from 0 later first ++ performer n (course_of n later one) [] ∷ []) (zero_more (length first))) ∙ ap (cast_from 0 later) (sym taken)));
      stand = λ now fine n p here.
          let P : ℕ → Player → Type 0 = λ m q. Stands [] m q now in
          subst (λ m. P m p) (zero_more n)
          (at_end P 0 players player (λ j q there. subst (λ m. P m q) (sym (zero_more j)) (c.stand now fine j q there)) (subst (λ m. P m player) (number ∙ sym (zero_more (length players))) (stands now fine)) n p here);
      long = length_both players player ∙ (ap (λ n. n + 1) c.long ∙ (sym (length_both first one) ∙ ap length (sym taken)));
    }

-- The parts of a history in which an actor makes its statements: each has the statement's own calls, and lies in the block of its phase behind the parts of the
-- actor's earlier statements.
use Rattle.std.proofs.Common.{◌≡◌, ◌≤◌, ◌<◌, ◌+◌, inl, inr, ℕ, zero, suc, true, false, nat_eq, List, [], ◌∷◌, ◌++◌, length, map, filter, refl, sym, ap, ◌∙◌, subst, arith, append_assoc, length-append, if◌then◌else◌}
use Rattle.std.specs.Prelude.{Result, ◌==◌}
use Rattle.std.proofs.lemmas.List.Elements.{filter-append}
use Rattle.std.proofs.lemmas.List.{append-nil}
use Rattle.turn_object.specs.Callers.{made_by}
use Rattle.mount_model.specs.MakesCalls.{one_history}
use Rattle.mount_model.specs.Performers.{told_at}
use Rattle.mount_model.specs.Plays.{Plays, PlaysAll}
use Rattle.mount_model.specs.Process.{asks, ends, pauses, shares, tells}
use Rattle.mount_model.proofs.Stories.Facts.{entries_both}
use Rattle.mount_model.specs.History.{Event}
use Rattle.mount_model.specs.State.{State}
use Rattle.mount_model.specs.declared.stuck.Stuck.{Stuck}
use Rattle.index_reader.specs.declared.sharing.Share.{Share}
use Rattle.script_lang.specs.declared.line.Line.{Line}
use Rattle.script_lang.specs.declared.script.Numbered.{Numbered}
use Rattle.script_lang.specs.declared.script.Phase.{Phase}
use Rattle.script_lang.specs.declared.script.Statement.{Statement}
use Rattle.actor_core.specs.declared.kept.Kept.{Kept}
use Rattle.actor_core.specs.Endings.{Ending}
use Rattle.actor_core.specs.Progress.{line_of}
use Rattle.actor_core.specs.Statements.{work_of}
use Rattle.actor_core.specs.Work.{Work}
use Rattle.run_core.specs.Course.{Course, one_by_one, own as own_statements, then_line, through}
use Rattle.headline.specs.Run.{Phased, Told, beside, own, phased}
use Rattle.headline_laws.proofs.Plays.Facts.{AllOf, ComesTo, all_of_first, all_of_later}
use Rattle.headline_laws.proofs.Statements.Ends.{EndsAs}
use Rattle.headline_laws.proofs.Statements.Does.{Ended, statement_ends}
use Rattle.headline_laws.proofs.OrderlyLines.Places.{actors}

-- ---- blocks

-- how many events stand before the block of a phase
abbrev pub begins : List (List Event) → ℕ → ℕ
begins [] phase = 0
begins (block ∷ blocks) zero = 0
begins (block ∷ blocks) (suc phase) = length block + begins blocks phase

-- a later phase begins where an earlier one has ended, or behind that
pub begins_rise : (blocks : List (List Event)) (phase later : ℕ) → phase ≤ later → begins blocks phase ≤ begins blocks later
begins_rise [] phase later le = omega arith
begins_rise (block ∷ blocks) zero later le = omega arith
begins_rise (block ∷ blocks) (suc phase) zero le = absurd (omega (arith, le))
begins_rise (block ∷ blocks) (suc phase) (suc later) le = let more = begins_rise blocks phase later (omega (arith, le)) in omega (arith, more)

module _ (n : ℕ) where
  -- ---- one statement

  -- The caller makes the calls of this work in these events, and its workers make theirs, and it comes to this end with the last of them.
  abbrev pub Comes : Work → List Event → List (List Event) → Ending → Type 0
  Comes work mine spent e = ComesTo n work mine spent e

  -- the actor told the line of a statement that ended so in the first of these events, and goes on behind them
  record MadeOne (P : Ending → Type 0) (number : ℕ) (next : Kept → Course) (work : Work) (part : List Event) (workers : List (List Event)) (lines : List Line) (left : Course) : Type 0 where
    pub e : Ending
    pub mine : List Event
    pub rest : List Event
    pub spent : List (List Event)
    pub others : List (List Event)
    pub more : List Line
    pub all : part ≡ mine ++ rest
    pub are : workers ≡ spent ++ others
    pub lines_are : lines ≡ line_of number e ∷ more
    pub good : P e
    pub comes : Comes work mine spent e
    pub goes_on : Plays n (next e.kept) rest others more left

  made_one : (P : Ending → Type 0) (number : ℕ) (next : Kept → Course) (work : Work) (part : List Event) (workers : List (List Event)) (lines : List Line) (left : Course) → EndsAs P work → Plays n (then_line number next work) part workers lines left → MadeOne P number next work part workers lines left
  made_one P number next ends part workers lines left is plays = absurd is
  made_one P number next (pauses work) part workers lines left is plays = absurd is
  made_one P number next (tells e work) part workers lines left is plays = record {
    e = e;
    mine = [];
    rest = part;
    spent = [];
    others = workers;
    more = plays.0;
    all = refl;
    are = refl;
    lines_are = plays.1;
    good = is;
    comes = (refl, refl, refl);
    goes_on = plays.2;
  }
  made_one P number next (asks q k) part workers lines left is m =
      let c = made_one P number next (k m.call.reply) m.after workers lines left (is m.call.reply) m.goes_on in
      record {
        e = c.e;
        mine = m.before ++ m.call ∷ c.mine;
        rest = c.rest;
        spent = c.spent;
        others = c.others;
        more = c.more;
        all = m.all ∙ ap (λ z. m.before ++ m.call ∷ z) c.all ∙ sym (append_assoc m.before (m.call ∷ c.mine) c.rest);
        are = c.are;
        lines_are = c.lines_are;
        good = c.good;
        comes = record { before = m.before; call = m.call; after = c.mine; all = refl; none_before = m.none_before; own = m.own; asked = m.asked; goes_on = c.comes };
        goes_on = c.goes_on;
      }
  made_one P number next (shares programs k alone) part workers lines left is (inl w) =
      let c = made_one P number next (k w.results) w.after w.later lines left (is.0 w.results) w.goes_on in
      record {
        e = c.e;
        mine = w.before ++ (w.during ++ c.mine);
        rest = c.rest;
        spent = w.these ++ c.spent;
        others = c.others;
        more = c.more;
        all = w.all ∙ ap (λ z. w.before ++ (w.during ++ z)) c.all ∙ ap (λ z. w.before ++ z) (sym (append_assoc w.during c.mine c.rest)) ∙ sym (append_assoc w.before (w.during ++ c.mine) c.rest);
        are = w.are ∙ ap (λ z. w.these ++ z) c.are ∙ sym (append_assoc w.these c.spent c.others);
        lines_are = c.lines_are;
        good = c.good;
        comes = inl (record {
          before = w.before;
          during = w.during;
          after = c.mine;
          these = w.these;
          later = c.spent;
          results = w.results;
          all = refl;
          none_before = w.none_before;
          none_during = w.none_during;
          made = w.made;
          whole = w.whole;
          are = refl;
          goes_on = c.comes;
        });
        goes_on = c.goes_on;
      }
  made_one P number next (shares programs k alone) part workers lines left is (inr plays) =
      let c = made_one P number next alone part workers lines left is.1 plays in
      record {
        e = c.e;
        mine = c.mine;
        rest = c.rest;
        spent = c.spent;
        others = c.others;
        more = c.more;
        all = c.all;
        are = c.are;
        lines_are = c.lines_are;
        good = c.good;
        comes = inr c.comes;
        goes_on = c.goes_on;
      }

  module _ (history : List Event) (blocks : List (List Event)) where
    -- between these two places of the history the caller makes no call
    pub record Idles (done later : List Event) : Type 0 where
      pub idle : List Event
      pub is : later ≡ done ++ idle
      pub none : made_by n idle ≡ []

    no_time : (done : List Event) → Idles done done
    no_time done = record { idle = []; is = sym (append-nil done); none = refl }

    idles_both : (done between later : List Event) → Idles done between → Idles between later → Idles done later
    idles_both done between later i j = record {
      idle = i.idle ++ j.idle;
      is = j.is ∙ ap (λ z. z ++ j.idle) i.is ∙ append_assoc done i.idle j.idle;
      none = entries_both n i.idle j.idle ∙ ap (λ z. z ++ made_by n j.idle) i.none ∙ j.none;
    }

    pub idles_long : (done later : List Event) → Idles done later → length done ≤ length later
    idles_long done later i = let long = ap length i.is ∙ length-append done i.idle in omega (arith, long)

    -- A statement's part of the history: in it the caller makes its calls, and it lies in the block of its phase.
    pub record PartOf (kept : Kept) (phase : ℕ) (statement : Statement) : Type 0 where
      pub e : Ending
      pub earlier : List Event
      pub mine : List Event
      pub later : List Event
      pub spent : List (List Event)
      pub split : history ≡ earlier ++ (mine ++ later)
      pub comes : Comes (work_of kept statement) mine spent e
      pub whole : AllOf earlier mine spent
      pub ended : Ended kept statement e
      pub from_phase : begins blocks phase ≤ length earlier
      pub within_phase : length earlier + length mine ≤ begins blocks (phase + 1)

    -- each statement has its part, behind these events and one behind the other, and the caller makes no other call
    abbrev pub HaveParts : List Event → Kept → List Phased → List Line → Type 0
    HaveParts done kept [] lines = Idles done history
    HaveParts done kept (s ∷ ss) [] = ⊥
    HaveParts done kept (s ∷ ss) (line ∷ lines) = (p : PartOf kept s.phase s.is.statement) × (line ≡ line_of s.is.line p.e) × Idles done p.earlier × HaveParts (p.earlier ++ p.mine) p.e.kept ss lines

    sooner : (done later : List Event) (kept : Kept) (ss : List Phased) (lines : List Line) → Idles done later → HaveParts later kept ss lines → HaveParts done kept ss lines
    sooner done later kept [] lines i parts = idles_both done later history i parts
    sooner done later kept (s ∷ ss) [] i parts = absurd parts
    sooner done later kept (s ∷ ss) (line ∷ lines) i parts = (parts.0, parts.1, idles_both done later parts.0.earlier i parts.2, parts.3)

    -- ---- one phase

    abbrev InPhase : ℕ → List Numbered → List Phased
    InPhase phase ss = map (λ (s : Numbered). record { phase = phase; is = s }) ss

    record SomeParts (phase : ℕ) (kept : Kept) (ss : List Numbered) (next : Kept → Course) (pre part : List Event) (lines : List Line) (left : Course) : Type 0 where
      pub after : Kept
      pub told : List Line
      pub more : List Line
      pub rest : List Event
      pub others : List (List Event)
      pub last : List Event
      pub lines_are : lines ≡ told ++ more
      pub goes_on : Plays n (next after) rest others more left
      pub left_over : pre ++ part ≡ last ++ rest
      pub parts : (later : List Phased) (ls : List Line) → HaveParts last after later ls → HaveParts pre kept (InPhase phase ss ++ later) (told ++ ls)

    some_parts : (phase : ℕ) (ss : List Numbered) (next : Kept → Course) (kept : Kept) (pre part tail : List Event) (workers : List (List Event)) (lines : List Line) (left : Course) → history ≡ pre ++ (part ++ tail) → begins blocks phase ≤ length pre → length pre + length part ≤ begins blocks (phase + 1)
        → AllOf pre part workers → Plays n (one_by_one ss next kept) part workers lines left → SomeParts phase kept ss next pre part lines left
    some_parts phase [] next kept pre part tail workers lines left is low high all plays = record {
      after = kept;
      told = [];
      more = lines;
      rest = part;
      others = workers;
      last = pre;
      lines_are = refl;
      goes_on = plays;
      left_over = refl;
      parts = λ later ls chain. chain;
    }
    some_parts phase (s ∷ ss) next kept pre part tail workers lines left is low high all plays =
        let t = made_one (Ended kept s.statement) s.line (λ after. one_by_one ss next after) (work_of kept s.statement) part workers lines left (statement_ends kept s.statement) plays in
        let split : history ≡ pre ++ (t.mine ++ (t.rest ++ tail)) = is ∙ ap (λ z. pre ++ (z ++ tail)) t.all ∙ ap (λ z. pre ++ z) (append_assoc t.mine t.rest tail) in
        let many : length part ≡ length t.mine + length t.rest = ap length t.all ∙ length-append t.mine t.rest in
        let behind : length (pre ++ t.mine) ≡ length pre + length t.mine = length-append pre t.mine in
        let r = some_parts phase ss next t.e.kept (pre ++ t.mine) t.rest tail t.others t.more left (split ∙ sym (append_assoc pre t.mine (t.rest ++ tail))) (omega (arith, low, behind)) (omega (arith, high, many, behind)) (all_of_later pre part t.mine t.rest workers t.spent t.others t.all t.are all) t.goes_on in
        let p : PartOf kept phase s.statement = record {
          e = t.e;
          earlier = pre;
          mine = t.mine;
          later = t.rest ++ tail;
          spent = t.spent;
          split = split;
          comes = t.comes;
          whole = all_of_first pre part t.mine t.rest workers t.spent t.others t.all t.are all;
          ended = t.good;
          from_phase = low;
          within_phase = omega (arith, high, many);
        } in
        record {
          after = r.after;
          told = line_of s.line t.e ∷ r.told;
          more = r.more;
          rest = r.rest;
          others = r.others;
          last = r.last;
          lines_are = t.lines_are ∙ ap (λ ls. line_of s.line t.e ∷ ls) r.lines_are;
          goes_on = r.goes_on;
          left_over = ap (λ z. pre ++ z) t.all ∙ sym (append_assoc pre t.mine t.rest) ∙ r.left_over;
          parts = λ later ls chain. (p, refl, no_time pre, r.parts later ls chain);
        }

    -- ---- one phase after the other

    abbrev pub own_phased : ℕ → List Phased → List Phased
    own_phased actor ss = filter (λ (s : Phased). s.is.actor == actor) ss

    own_in : (actor phase : ℕ) (ss : List Numbered) → own_phased actor (InPhase phase ss) ≡ InPhase phase (own_statements actor ss)
    own_in actor phase [] = refl
    own_in actor phase (s ∷ ss) = elim (nat_eq s.actor actor) as (λ b. (if b then record { phase = phase; is = s } ∷ own_phased actor (InPhase phase ss) else own_phased actor (InPhase phase ss)) ≡ InPhase phase (if b then s ∷ own_statements actor ss else own_statements actor ss)) [
      | true ↦ ap (λ z. record { phase = phase; is = s } ∷ z) (own_in actor phase ss)
      | false ↦ own_in actor phase ss
    ]

    own_first : (actor phase : ℕ) (first : Phase) (phases : List Phase) → own_phased actor (phased phase (first ∷ phases)) ≡ InPhase phase (own_statements actor first.statements) ++ own_phased actor (phased (phase + 1) phases)
    own_first actor phase first phases =
        filter-append (λ (s : Phased). s.is.actor == actor) (InPhase phase first.statements) (phased (phase + 1) phases)
        ∙ ap (λ z. z ++ own_phased actor (phased (phase + 1) phases)) (own_in actor phase first.statements)

    phase_parts : (actor phase : ℕ) (first : Phase) (phases : List Phase) (kept : Kept) (pre part tail : List Event) (these : List (List Event)) (told : List Line) (left : Course) (lines more : List Line) → history ≡ pre ++ (part ++ tail) → begins blocks phase ≤ length pre → length pre + length part ≤ begins blocks (phase + 1)
        → lines ≡ told ++ more → AllOf pre part these → Plays n (through actor (first ∷ phases) kept) part these told left → ((after : Kept) → left ≡ through actor phases after → HaveParts (pre ++ part) after (own_phased actor (phased (phase + 1) phases)) more)
        → HaveParts pre kept (own_phased actor (phased phase (first ∷ phases))) lines
    phase_parts actor phase first phases kept pre part tail these told left lines more is low high are all_of plays later =
        let r = some_parts phase (own_statements actor first.statements) (λ after. pauses (through actor phases after)) kept pre part tail these told left is low high all_of plays in
        let all : lines ≡ r.told ++ more = are ∙ ap (λ z. z ++ more) (r.lines_are ∙ ap (λ z. r.told ++ z) r.goes_on.0.no_lines ∙ append-nil r.told) in
        let rest = own_phased actor (phased (phase + 1) phases) in
        let chain = r.parts rest more (sooner r.last (pre ++ part) r.after rest more (record { idle = r.rest; is = r.left_over; none = r.goes_on.0.calls }) (later r.after r.goes_on.1)) in
        subst (λ ss. HaveParts pre kept ss lines) (sym (own_first actor phase first phases)) (subst (λ ls. HaveParts pre kept (InPhase phase (own_statements actor first.statements) ++ rest) ls) (sym all) chain)

    rests_none : (blocks : List (List Event)) (workers : List (List Event)) (lines : List Line) → PlaysAll {S = State} {X = Result Share Stuck} n ends blocks workers lines ends → made_by n (one_history blocks) ≡ []
    rests_none [] workers lines plays = refl
    rests_none (block ∷ rest) workers lines p = entries_both n block (one_history rest) ∙ ap (λ z. z ++ made_by n (one_history rest)) p.plays.0.calls ∙ rests_none rest p.later p.more (subst (λ q. PlaysAll n q rest p.later p.more ends) p.plays.1 p.goes_on)

    pub through_parts : (actor phase : ℕ) (phases : List Phase) (rest : List (List Event)) (done : List Event) (kept : Kept) (workers : List (List Event)) (lines : List Line) → history ≡ done ++ one_history rest → ((more : ℕ) → begins blocks (phase + more) ≡ length done + begins rest more) → AllOf done (one_history rest) workers
        → PlaysAll n (through actor phases kept) rest workers lines ends → HaveParts done kept (own_phased actor (phased phase phases)) lines
    through_parts actor phase [] rest done kept workers lines is starts all plays = record { idle = one_history rest; is = is; none = rests_none rest workers lines plays }
    through_parts actor phase (first ∷ phases) [] done kept workers lines is starts all plays =
        let rests : Plays {S = State} {X = Result Share Stuck} n ends [] [] [] ends = (record { calls = refl; no_workers = refl; no_lines = refl }, refl) in
        let none : phase + 0 ≡ phase = omega arith in
        let here = ap (begins blocks) (sym none) ∙ starts 0 in
        let next = starts 1 in
        let idle : AllOf done [] [] = record { tail = []; keeps = tt } in
        phase_parts actor phase first phases kept done [] [] [] [] ends lines [] is (omega (arith, here)) (omega (arith, next)) plays.1 idle (subst (λ (q : Course). Plays {S = State} n q [] [] [] ends) plays.2 rests)
        (λ after at_end. subst (λ k. HaveParts k after (own_phased actor (phased (phase + 1) phases)) []) (sym (append-nil done)) (through_parts actor (phase + 1) phases [] done after [] [] is (λ more. let same : phase + 1 + more ≡ phase + (1 + more) = omega arith in ap (begins blocks) same ∙ starts (1 + more)) idle (refl, refl, at_end)))
    through_parts actor phase (first ∷ phases) (block ∷ rest) done kept workers lines is starts all p =
        let none : phase + 0 ≡ phase = omega arith in
        let here = ap (begins blocks) (sym none) ∙ starts 0 in
        let next = starts 1 in
        let both : length (done ++ block) ≡ length done + length block = length-append done block in
        phase_parts actor phase first phases kept done block (one_history rest) p.these p.told p.left lines p.more is (omega (arith, here)) (omega (arith, next, begins_none rest)) p.lines_are (all_of_first done (block ++ one_history rest) block (one_history rest) workers p.these p.later refl p.are all) p.plays
        (λ after at_end. through_parts actor (phase + 1) phases rest (done ++ block) after p.later p.more (is ∙ sym (append_assoc done block (one_history rest)))
        (λ more. let same : phase + 1 + more ≡ phase + suc more = omega arith in let on = starts (suc more) in ap (begins blocks) same ∙ on ∙ omega (arith, both)) (all_of_later done (block ++ one_history rest) block (one_history rest) workers p.these p.later refl p.are all) (subst (λ q. PlaysAll n q rest p.later p.more ends) at_end p.goes_on))
      where
        begins_none : (bs : List (List Event)) → begins bs 0 ≡ 0
        begins_none [] = refl
        begins_none (b ∷ bs) = refl

    -- ---- the lines as they are told

    abbrev pub ToldParts : List Event → Kept → List Told → Type 0
    ToldParts done kept [] = Idles done history
    ToldParts done kept (t ∷ ts) = (p : PartOf kept t.phase t.statement) × (t.outcome ≡ p.e.outcome) × Idles done p.earlier × ToldParts (p.earlier ++ p.mine) p.e.kept ts

    pub own_parts : (actor place : ℕ) (done : List Event) (ss : List Phased) (lines : List Line) (kept : Kept) → length lines ≡ length ss → HaveParts done kept (own_phased actor ss) (told_at actor (actors ss) lines) → ToldParts done kept (own actor (beside place ss lines))
    own_parts actor place done [] lines kept long parts = parts
    own_parts actor place done (s ∷ ss) [] kept long parts = absurd (omega (arith, long))
    own_parts actor place done (s ∷ ss) (l ∷ lines) kept long parts =
        let t : Told = record { phase = s.phase; place = place; actor = s.is.actor; statement = s.is.statement; outcome = l.outcome } in
        let mine = own_phased actor ss in
        let theirs = told_at actor (actors ss) lines in
        let later = own actor (beside (place + 1) ss lines) in
        let rest : length lines ≡ length ss = omega (arith, long) in
        elim (nat_eq s.is.actor actor) as (λ b. HaveParts done kept (if b then s ∷ mine else mine) (if b then l ∷ theirs else theirs) → ToldParts done kept (if b then t ∷ later else later)) [
          | true ↦ λ c. (c.0, ap (λ (z : Line). z.outcome) c.1, c.2, own_parts actor (place + 1) (c.0.earlier ++ c.0.mine) ss lines c.0.e.kept rest c.3)
          | false ↦ λ c. own_parts actor (place + 1) done ss lines kept rest c
        ] parts

    -- the part of a line
    pub record LinePart (t : Told) : Type 0 where
      pub kept : Kept
      pub part : PartOf kept t.phase t.statement
      pub says : t.outcome ≡ part.e.outcome

    abbrev pub line_from : {t : Told} → LinePart t → ℕ
    line_from p = length p.part.earlier

    abbrev pub line_to : {t : Told} → LinePart t → ℕ
    line_to p = length p.part.earlier + length p.part.mine

    unfoldable pub part_at : (ts : List Told) (t : Told) (rest : List Told) (done : List Event) (kept : Kept) → ToldParts done kept (ts ++ t ∷ rest) → (p : LinePart t) × (length done ≤ line_from p)
    part_at [] t rest done kept parts = (record { kept = kept; part = parts.0; says = parts.1 }, idles_long done parts.0.earlier parts.2)
    part_at (s ∷ ts) t rest done kept parts =
        let p = part_at ts t rest (parts.0.earlier ++ parts.0.mine) parts.0.e.kept parts.3 in
        let here = idles_long done parts.0.earlier parts.2 in
        let long = length-append parts.0.earlier parts.0.mine in
        let there = p.1 in
        (p.0, omega (arith, here, there, long))

    -- of two lines of the actor the part of the later one lies behind
    pub parts_at : (ts : List Told) (s : Told) (mid : List Told) (t : Told) (rest : List Told) (done : List Event) (kept : Kept) → ToldParts done kept (ts ++ s ∷ (mid ++ t ∷ rest)) → (p : LinePart s) × (q : LinePart t) × (line_to p ≤ line_from q)
    parts_at [] s mid t rest done kept parts =
        let q = part_at mid t rest (parts.0.earlier ++ parts.0.mine) parts.0.e.kept parts.3 in
        let long = length-append parts.0.earlier parts.0.mine in
        let there = q.1 in
        (record { kept = kept; part = parts.0; says = parts.1 }, q.0, omega (arith, there, long))
    parts_at (r ∷ ts) s mid t rest done kept parts = parts_at ts s mid t rest (parts.0.earlier ++ parts.0.mine) parts.0.e.kept parts.3

-- of two lines of different phases the part of the later one lies behind
pub phases_apart : (n m : ℕ) (history : List Event) (blocks : List (List Event)) (s t : Told) (p : LinePart n history blocks s) (q : LinePart m history blocks t) → s.phase < t.phase → line_to n history blocks p ≤ line_from m history blocks q
phases_apart n m history blocks s t p q before =
    let first = p.part.within_phase in
    let second = q.part.from_phase in
    let between = begins_rise blocks (s.phase + 1) t.phase (omega (arith, before)) in
    omega (arith, first, second, between)

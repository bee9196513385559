-- Of right lines one tells of a fault only where the store failed.
use Rattle.std.proofs.Common.{◌≡◌, ◌≤◌, ◌+◌, inl, inr, ℕ, Bool, true, false, cond, nat_eq, List, [], ◌∷◌, ◌++◌, filter, sym, subst, arith}
use Rattle.std.specs.Prelude.{⊤, if◌then◌else◌}
use Rattle.std.specs.List.{All}
use Rattle.std.proofs.lemmas.List.Elements.{All-head, All-tail}
use Rattle.plfs_types.specs.Counts.{HasRisen}
use Rattle.turn_object.specs.Callers.{is_by}
use Rattle.turn_object.specs.Front.{KeepsIn}
use Rattle.mount_model.specs.MakesCalls.{one_history}
use Rattle.mount_model.specs.Performers.{told_at}
use Rattle.mount_model.specs.Plays.{Plays, PlaysAll}
use Rattle.mount_model.specs.Process.{asks, ends, pauses, shares, tells}
use Rattle.mount_model.specs.History.{Event}
use Rattle.script_lang.specs.declared.line.Line.{Line}
use Rattle.run_core.specs.Course.{Course}
use Rattle.run_core.proofs.Facts.{AreGood, AreWell, AreWellEach, IsWell, NoFault, TellsGood, no_line, none_both, well_first, well_rest}
use Rattle.headline.specs.Run.{Phased, Told, beside, own}
use Rattle.headline_laws.proofs.OrderlyLines.Places.{actors}

-- ---- where all calls of a history are answered well, each actor tells of no fault

abbrev pub Well : List Event → Type 0
Well events = AreWell IsWell NoFault events

abbrev pub Good : List Line → Type 0
Good lines = AreGood IsWell NoFault lines

well_among : (keeps : Event → Bool) (h : List Event) → Well h → Well (filter keeps h)
well_among keeps [] well = tt
well_among keeps (e ∷ h) well = by (keeps e) (well_among keeps h well.1)
  where
    by : (b : Bool) → Well (filter keeps h) → Well (cond b (e ∷ filter keeps h) (filter keeps h))
    by true rest = (well.0, rest)
    by false rest = rest

well_of : (during calls : List Event) → Well during → KeepsIn during calls → Well calls
well_of during [] well keeps = tt
well_of during (e ∷ es) well keeps = subst (λ z. Well z) keeps (well_among (is_by e.caller) during well)

well_each : (during : List Event) (these : List (List Event)) → Well during → All (KeepsIn during) these → AreWellEach IsWell NoFault these
well_each during [] well keep = tt
well_each during (calls ∷ these) well keep = (well_of during calls well (All-head (KeepsIn during) calls these keep), well_each during these well (All-tail (KeepsIn during) calls these keep))

part_good : (n : ℕ) (p : Course) (part : List Event) (workers : List (List Event)) (lines : List Line) (left : Course) → TellsGood IsWell NoFault p → Well part → Plays n p part workers lines left → Good lines × TellsGood IsWell NoFault left
part_good n ends part workers lines left good well plays = (no_line IsWell NoFault lines plays.0.no_lines, subst (λ z. TellsGood IsWell NoFault z) (sym plays.1) tt)
part_good n (pauses p) part workers lines left good well plays = (no_line IsWell NoFault lines plays.0.no_lines, subst (λ z. TellsGood IsWell NoFault z) (sym plays.1) good)
part_good n (tells line p) part workers lines left good well plays =
    let rest = part_good n p part workers plays.0 left good.1 well plays.2 in
    (subst (λ z. Good z) (sym plays.1) (good.0, rest.0), rest.1)
part_good n (asks q k) part workers lines left good well plays =
    let all = subst (λ z. Well z) plays.all well in
    let rest = well_rest IsWell NoFault plays.before (plays.call ∷ plays.after) all in
    let here : IsWell q plays.call.reply = subst (λ z. IsWell z plays.call.reply) plays.asked rest.0 in
    part_good n (k plays.call.reply) plays.after workers lines left (good plays.call.reply here) rest.1 plays.goes_on
part_good n (shares ps k alone) part workers lines left good well (inl plays) =
    let all = subst (λ z. Well z) plays.all well in
    let rest = well_rest IsWell NoFault plays.before (plays.during ++ plays.after) all in
    let these = well_each plays.during plays.these (well_first IsWell NoFault plays.during plays.after rest) plays.whole in
    part_good n (k plays.results) plays.after plays.later lines left (good.0 plays.these plays.results plays.made these) (well_rest IsWell NoFault plays.during plays.after rest) plays.goes_on
part_good n (shares ps k alone) part workers lines left good well (inr plays) = part_good n alone part workers lines left good.1 well plays

pub all_good : (n : ℕ) (p : Course) (blocks : List (List Event)) (workers : List (List Event)) (lines : List Line) (left : Course) → TellsGood IsWell NoFault p → Well (one_history blocks) → PlaysAll n p blocks workers lines left → Good lines
all_good n p [] workers lines left good well plays = no_line IsWell NoFault lines plays.1
all_good n p (block ∷ blocks) workers lines left good well plays =
    let here = part_good n p block plays.these plays.told plays.left good (well_first IsWell NoFault block (one_history blocks) well) plays.plays in
    let rest = all_good n plays.left blocks plays.later plays.more left here.1 (well_rest IsWell NoFault block (one_history blocks) well) plays.goes_on in
    subst (λ z. Good z) (sym plays.lines_are) (none_both IsWell NoFault plays.told plays.more here.0 rest)

-- ---- a line of the actor

abbrev pub GoodEach : List Told → Type 0
GoodEach [] = ⊤
GoodEach (t ∷ ts) = NoFault t.outcome × GoodEach ts

pub good_own : (actor place : ℕ) (ss : List Phased) (lines : List Line) → Good (told_at actor (actors ss) lines) → GoodEach (own actor (beside place ss lines))
good_own actor place [] lines good = tt
good_own actor place (s ∷ ss) [] good = tt
good_own actor place (s ∷ ss) (l ∷ lines) good =
    let t : Told = record { phase = s.phase; place = place; actor = s.is.actor; statement = s.is.statement; outcome = l.outcome } in
    elim (nat_eq s.is.actor actor) as (λ b. Good (if b then l ∷ told_at actor (actors ss) lines else told_at actor (actors ss) lines) → GoodEach (if b then t ∷ own actor (beside (place + 1) ss lines) else own actor (beside (place + 1) ss lines))) [
      | true ↦ λ h. (h.0, good_own actor (place + 1) ss lines h.1)
      | false ↦ λ h. good_own actor (place + 1) ss lines h
    ] good

pub good_at : (ts : List Told) (t : Told) (rest : List Told) → GoodEach (ts ++ t ∷ rest) → NoFault t.outcome
good_at [] t rest good = good.0
good_at (s ∷ ts) t rest good = good_at ts t rest good.1

-- ---- the store's count

pub risen_between : (a b c d : ℕ) → a ≤ b → c ≡ d → HasRisen b c → HasRisen a d
risen_between a b c d least same (inl more) = inl (omega (arith, least, same, more))
risen_between a b c d least same (inr most) = inr (omega (arith, same, most))

-- A history in the order of the written turns makes the calls of its actors.
use Rattle.std.proofs.Common.{◌≡◌, ◌≢◌, ◌⊎◌, inl, inr, ℕ, zero, suc, ◌+◌, ◌<◌, Bool, true, false, Some, List, [], ◌∷◌, ◌++◌, length, sym, refl, ap, ◌∙◌, subst, arith, append_assoc, add-zero}
use Rattle.std.specs.Prelude.{MatchBool, map, set, slice_get, nat_eq, if◌then◌else◌}
use Rattle.std.proofs.lemmas.Bool.Decides.{nat_tests}
use Rattle.std.proofs.lemmas.List.{append-nil, length-append}
use Rattle.std.specs.List.{All, Any}
use Rattle.std.proofs.lemmas.List.Elements.{All-nil, All-cons, All-head, All-tail}
use Rattle.turn_object.specs.declared.history.Entry.{Entry}
use Rattle.turn_object.specs.Callers.{made_by}
use Rattle.mount_model.specs.Program.{Program}
use Rattle.mount_model.specs.Process.{Process, ends, pauses, tells, asks, shares}
use Rattle.mount_model.specs.Plays.{Plays, PlaysAll}
use Rattle.mount_model.specs.MakesCalls.{one_history, EachPlays, MakesCalls}
use Rattle.mount_model.specs.Turns.{TakesTurn, Finishes}
use Rattle.mount_model.specs.Performers.{Performer, performer, paused, NoneAhead, numbers_of, left_of, told_at, told_by_each}
use Rattle.mount_model.specs.InTurns.{WrittenOrder, statements_of, InTurn, AllInTurn, ToEnd, AllToEnd, PhaseInTurns, InTurns}
use Rattle.mount_model.specs.OneThread.{Differ, alone, each_alone}
use Rattle.mount_model.proofs.Stories.OneThread.{made_alone}
use Rattle.mount_model.proofs.Stories.Parts.{entries_not_first}
use Rattle.mount_model.proofs.Stories.Playing.{plays_after}

-- this number is one of these
abbrev Among : ℕ → List ℕ → Type 0
Among m [] = ⊥
Among m (n ∷ ns) = (n ≡ m) ⊎ Among m ns

some_here : {X : Type 0} (a b : X) → Some a ≡ Some b → a ≡ b
some_here a b e = cc

-- the number of one who stands further on differs
apart_from : {A R X L : Type 0} (n : ℕ) (place : ℕ) (us : List (Performer A R X L)) (a : Performer A R X L) → All (λ m. m ≢ n) (numbers_of us) → slice_get us place ≡ Some a → a.number ≢ n
apart_from n place [] a other here = absurd (cc)
apart_from {A} {R} {X} {L} n zero (x ∷ us) a other here = subst (λ (z : Performer A R X L). z.number ≢ n) (some_here x a here) (All-head (λ m. m ≢ n) x.number (numbers_of us) other)
apart_from n (suc place) (x ∷ us) a other here = apart_from n place us a (All-tail (λ m. m ≢ n) x.number (numbers_of us) other) here

numbers_paused : {A R X L : Type 0} (us : List (Performer A R X L)) → numbers_of (map paused us) ≡ numbers_of us
numbers_paused [] = refl
numbers_paused (a ∷ us) = ap (λ ns. a.number ∷ ns) (numbers_paused us)

among_any : (m : ℕ) (ns : List ℕ) → Among m ns → Any (λ n. n ≡ m) ns
among_any m [] a = absurd a
among_any m (n ∷ ns) (inl is) = (0, n, omega arith, refl, is)
among_any m (n ∷ ns) (inr a) = let t = among_any m ns a in (suc t.0, t.1, omega (arith, t.2), t.3, t.4)

if_both : {L : Type 0} (b : Bool) (line : L) (xs ys zs : List L) → xs ≡ ys ++ zs → (if b then line ∷ xs else xs) ≡ (if b then line ∷ ys else ys) ++ zs
if_both true line xs ys zs e = ap (λ ls. line ∷ ls) e
if_both false line xs ys zs e = e

-- the lines of one of them, in two parts
told_both : {L : Type 0} (k : ℕ) (ps qs : List ℕ) (ls ms : List L) → length ls ≡ length ps → told_at k (ps ++ qs) (ls ++ ms) ≡ told_at k ps ls ++ told_at k qs ms
told_both k [] qs [] ms e = refl
told_both k [] qs (l ∷ ls) ms e = absurd (omega (arith, e))
told_both k (p ∷ ps) qs [] ms e = absurd (omega (arith, e))
told_both k (p ∷ ps) qs (l ∷ ls) ms e =
    let shorter : length ls ≡ length ps = omega (arith, e) in
    if_both (nat_eq p k) l (told_at k (ps ++ qs) (ls ++ ms)) (told_at k ps ls) (told_at k qs ms) (told_both k ps qs ls ms shorter)

if_other : {L : Type 0} (b : Bool) (xs : List L) → b ≡ false → (if b then xs else []) ≡ []
if_other true xs e = absurd (cc)
if_other false xs e = refl

if_own : {L : Type 0} (b : Bool) (xs : List L) → b ≡ true → (if b then xs else []) ≡ xs
if_own true xs e = refl
if_own false xs e = absurd (cc)

told_here : {L : Type 0} (p k : ℕ) (line : L) → k ≡ p → told_at k (p ∷ []) (line ∷ []) ≡ line ∷ []
told_here p k line is = let e : nat_eq p k ≡ true = grind (arith, nat_tests) in if_own (nat_eq p k) (line ∷ []) e

told_elsewhere : {L : Type 0} (p k : ℕ) (line : L) → k ≢ p → told_at k (p ∷ []) (line ∷ []) ≡ []
told_elsewhere p k line other = let e : nat_eq p k ≡ false = grind (arith, nat_tests) in if_other (nat_eq p k) (line ∷ []) e

-- lines that wait, are told and are passed: two parts as one
even_both : {L : Type 0} (a t p b u q c : List L) → a ++ t ≡ p ++ b → b ++ u ≡ q ++ c → a ++ (t ++ u) ≡ (p ++ q) ++ c
even_both a t p b u q c first second =
    sym (append_assoc a t u) ∙ (ap (λ z. z ++ u) first ∙ (append_assoc p b u ∙ (ap (λ z. p ++ z) second ∙ sym (append_assoc p q c))))

no_ahead : {L : Type 0} (ahead told passed : List L) → ahead ≡ [] → ahead ++ told ≡ passed ++ [] → told ≡ passed
no_ahead ahead told passed none even = ap (λ z. z ++ told) (sym none) ∙ (even ∙ append-nil passed)

module _ {A R S : Type 0} where
  -- all these are one caller's
  abbrev AllBy : ℕ → List (Entry A R S) → Type 0
  AllBy n [] = Unit {0}
  AllBy n (e ∷ es) = (e.caller ≡ n) × AllBy n es

  none_of_other : (m n : ℕ) (es : List (Entry A R S)) → m ≢ n → AllBy m es → made_by n es ≡ []
  none_of_other m n [] other by = refl
  none_of_other m n (e ∷ es) other by = entries_not_first n e es (λ is. other (sym by.0 ∙ is)) ∙ none_of_other m n es other by.1

  -- The actor makes these calls one after the other and tells these lines, and what follows is played after them.
  record Gone {X L : Type 0} (n : ℕ) (p : Process A R X L) (calls : List (Entry A R S)) (lines : List L) (q : Process A R X L) : Type 0 where
    by : AllBy n calls
    goes : (more : List (Entry A R S)) (after : List L) (left : Process A R X L) → Plays n q more [] after left → Plays n p (calls ++ more) [] (lines ++ after) left

  gone_none : {X L : Type 0} (n : ℕ) (p : Process A R X L) (calls : List (Entry A R S)) (lines : List L) (q : Process A R X L) → calls ≡ [] → lines ≡ [] → q ≡ p → Gone n p calls lines q
  gone_none {X} {L} n p calls lines q none silent same = record {
    by = subst (AllBy n) (sym none) tt;
    goes = λ more after left plays.
        let P : List (Entry A R S) × List L → Type 0 = λ z. Plays n p (z.0 ++ more) [] (z.1 ++ after) left in
        subst P (λ i. (sym none i, sym silent i)) (subst (λ z. Plays n z more [] after left) same plays);
  }

  gone_tells : {X L : Type 0} (n : ℕ) (line : L) (p : Process A R X L) (calls : List (Entry A R S)) (lines more : List L) (q : Process A R X L) → lines ≡ line ∷ more → Gone n p calls more q → Gone n (tells line p) calls lines q
  gone_tells n line p calls lines more q is g = record {
    by = g.by;
    goes = λ rest after left plays. (more ++ after, ap (λ z. z ++ after) is, g.goes rest after left plays);
  }

  gone_asks : {X L : Type 0} (n : ℕ) (question : A) (k : R → Process A R X L) (e : Entry A R S) (calls : List (Entry A R S)) (lines : List L) (q : Process A R X L) → e.caller ≡ n → e.ask ≡ question → Gone n (k e.reply) calls lines q → Gone n (asks question k) (e ∷ calls) lines q
  gone_asks n question k e calls lines q own asked g = record {
    by = (own, g.by);
    goes = λ more after left plays. record { before = []; call = e; after = calls ++ more; all = refl; none_before = refl; own = own; asked = asked; goes_on = g.goes more after left plays };
  }

  gone_shares : {X L : Type 0} (n : ℕ) (ps : List (Program A R X)) (k : List X → Process A R X L) (alone : Process A R X L) (calls : List (Entry A R S)) (lines : List L) (q : Process A R X L) → Gone n alone calls lines q → Gone n (shares ps k alone) calls lines q
  gone_shares n ps k alone calls lines q g = record { by = g.by; goes = λ more after left plays. inr (g.goes more after left plays) }

  turn_gone : {X L : Type 0} (is_free : A → Bool) (n : ℕ) (p : Process A R X L) (calls : List (Entry A R S)) (lines : List L) (q : Process A R X L) → TakesTurn is_free n p calls lines q → Gone n p calls lines q
  turn_gone is_free n ends calls lines q t = gone_none n ends calls lines q t.0 t.1 t.2
  turn_gone is_free n (pauses p) calls lines q t = gone_none n (pauses p) calls lines q t.0 t.1 t.2
  turn_gone is_free n (tells line p) calls lines q t = gone_tells n line p calls lines t.0 q t.1 (turn_gone is_free n p calls t.0 q t.2)
  turn_gone is_free n (asks question k) [] lines q t = absurd t
  turn_gone {X} {L} is_free n (asks question k) (e ∷ calls) lines q t =
      gone_asks n question k e calls lines q t.0 t.1
      (elim (is_free question) as (λ b. MatchBool b (TakesTurn is_free n (k e.reply) calls lines q) ((calls ≡ []) × (lines ≡ []) × (q ≡ k e.reply)) → Gone n (k e.reply) calls lines q) [
        | true ↦ λ more. turn_gone is_free n (k e.reply) calls lines q more
        | false ↦ λ none. gone_none n (k e.reply) calls lines q none.0 none.1 none.2
      ] t.2)
  turn_gone is_free n (shares ps k alone) calls lines q t = gone_shares n ps k alone calls lines q (turn_gone is_free n alone calls lines q t)

  end_gone : {X L : Type 0} (n : ℕ) (p : Process A R X L) (calls : List (Entry A R S)) (line : L) (q : Process A R X L) → Finishes n p calls line q → Gone n p calls (line ∷ []) q
  end_gone n ends calls line q t = absurd t
  end_gone n (pauses p) calls line q t = absurd t
  end_gone n (tells told p) calls line q t = gone_tells n told p calls (line ∷ []) [] q (ap (λ z. z ∷ []) t.1) (gone_none n p calls [] q t.0 refl t.2)
  end_gone n (asks question k) [] line q t = absurd t
  end_gone n (asks question k) (e ∷ calls) line q t = gone_asks n question k e calls (line ∷ []) q t.0 t.1 (end_gone n (k e.reply) calls line q t.2)
  end_gone n (shares ps k alone) calls line q t = gone_shares n ps k alone calls (line ∷ []) q (end_gone n alone calls line q t)

  -- One goes on so through these calls, of which some are its own. Of the lines that waited and those that it tells, some are passed, and the others wait.
  record GoesSo {X L : Type 0} (a : Performer A R X L) (calls : List (Entry A R S)) (passed : List L) (b : Performer A R X L) : Type 0 where
    number : b.number ≡ a.number
    told : List L
    goes : (more : List (Entry A R S)) (after : List L) (left : Process A R X L) → Plays a.number b.left more [] after left → Plays a.number a.left (calls ++ more) [] (told ++ after) left
    even : a.ahead ++ told ≡ passed ++ b.ahead

  -- all go on so, the first of whom has this place, while these lines are passed
  abbrev AllGo : {X L : Type 0} → ℕ → List (Performer A R X L) → List (Entry A R S) → List ℕ → List L → List (Performer A R X L) → Type 0
  AllGo k [] calls places lines [] = Unit {0}
  AllGo k (a ∷ us) calls places lines (b ∷ bs) = GoesSo a calls (told_at k places lines) b × AllGo (k + 1) us calls places lines bs
  AllGo _ _ _ _ _ _ = ⊥

  abbrev AllAmong : List ℕ → List (Entry A R S) → Type 0
  AllAmong ns [] = Unit {0}
  AllAmong ns (e ∷ es) = Among e.caller ns × AllAmong ns es

  -- What all do while some of them make these calls.
  record AllGone {X L : Type 0} (k : ℕ) (old : List (Performer A R X L)) (calls : List (Entry A R S)) (places : List ℕ) (lines : List L) (new : List (Performer A R X L)) : Type 0 where
    go : AllGo k old calls places lines new
    among : AllAmong (numbers_of old) calls
    numbers : numbers_of new ≡ numbers_of old

  weaker : (n : ℕ) (ns : List ℕ) (es : List (Entry A R S)) → AllAmong ns es → AllAmong (n ∷ ns) es
  weaker n ns [] a = tt
  weaker n ns (e ∷ es) a = (inr a.0, weaker n ns es a.1)

  among_first : (n : ℕ) (ns : List ℕ) (es : List (Entry A R S)) → AllBy n es → AllAmong (n ∷ ns) es
  among_first n ns [] by = tt
  among_first n ns (e ∷ es) by = (inl (sym by.0), among_first n ns es by.1)

  among_both : (ns : List ℕ) (xs ys : List (Entry A R S)) → AllAmong ns xs → AllAmong ns ys → AllAmong ns (xs ++ ys)
  among_both ns [] ys a b = b
  among_both ns (x ∷ xs) ys a b = (a.0, among_both ns xs ys a.1 b)

  -- who makes none of the calls stays as it was
  stays : {X L : Type 0} (a : Performer A R X L) (calls : List (Entry A R S)) (passed : List L) → made_by a.number calls ≡ [] → passed ≡ [] → GoesSo a calls passed a
  stays a calls passed none silent = record {
    number = refl;
    told = [];
    goes = λ more after left plays. plays_after a.number a.left calls more [] after left none plays;
    even = append-nil a.ahead ∙ ap (λ z. z ++ a.ahead) (sym silent);
  }

  -- none of these makes the calls, and none of their lines is passed
  all_stay : {X L : Type 0} (k at m : ℕ) (us : List (Performer A R X L)) (calls : List (Entry A R S)) (places : List ℕ) (lines : List L) → All (λ n. n ≢ m) (numbers_of us) → AllBy m calls → at < k
      → ((j : ℕ) → j ≢ at → told_at j places lines ≡ []) → AllGo k us calls places lines us
  all_stay k at m [] calls places lines other by above silent = tt
  all_stay k at m (a ∷ us) calls places lines other by above silent = (
    stays a calls (told_at k places lines) (none_of_other m a.number calls (λ is. All-head (λ n. n ≢ m) a.number (numbers_of us) other (sym is)) by) (silent k (λ is. omega (arith, is, above))),
    all_stay (k + 1) at m us calls places lines (All-tail (λ n. n ≢ m) a.number (numbers_of us) other) by (omega (arith, above)) silent,
  )

  -- what one of them does, under its number: it makes the calls, and these of its lines are passed
  record DoesSo {X L : Type 0} (a : Performer A R X L) (calls : List (Entry A R S)) (passed : List L) (b : Performer A R X L) : Type 0 where
    number : b.number ≡ a.number
    told : List L
    gone : Gone a.number a.left calls told b.left
    even : a.ahead ++ told ≡ passed ++ b.ahead

  goes_first : {X L : Type 0} (a : Performer A R X L) (calls : List (Entry A R S)) (passed : List L) (b : Performer A R X L) → DoesSo a calls passed b → GoesSo a calls passed b
  goes_first a calls passed b d = record { number = d.number; told = d.told; goes = d.gone.goes; even = d.even }

  one_goes : {X L : Type 0} (k place at : ℕ) (us : List (Performer A R X L)) (a b : Performer A R X L) (calls : List (Entry A R S)) (places : List ℕ) (lines : List L) → at ≡ k + place → Differ (numbers_of us) → slice_get us place ≡ Some a
      → DoesSo a calls (told_at at places lines) b → ((j : ℕ) → j ≢ at → told_at j places lines ≡ []) → AllGone k us calls places lines (set us place b)
  one_goes k place at [] a b calls places lines is differ here does silent = absurd (cc)
  one_goes {X} {L} k zero at (x ∷ us) a b calls places lines is differ here does silent =
      let same : a ≡ x = sym (some_here x a here) in
      let here_at : at ≡ k = is ∙ add-zero k in
      let P : Performer A R X L × ℕ → Type 0 = λ z. DoesSo z.0 calls (told_at z.1 places lines) b in
      let d : DoesSo x calls (told_at k places lines) b = subst P (λ i. (same i, here_at i)) does in
      record {
        go = (goes_first x calls (told_at k places lines) b d, all_stay (k + 1) at x.number us calls places lines differ.0 d.gone.by (omega (arith, here_at)) silent);
        among = among_first x.number (numbers_of us) calls d.gone.by;
        numbers = ap (λ n. n ∷ numbers_of us) d.number;
      }
  one_goes k (suc place) at (x ∷ us) a b calls places lines is differ here does silent =
      let rest = one_goes (k + 1) place at us a b calls places lines (omega (arith, is)) differ.1 here does silent in
      let other : a.number ≢ x.number = apart_from x.number place us a differ.0 here in
      record {
        go = (stays x calls (told_at k places lines) (none_of_other a.number x.number calls other does.gone.by) (silent k (λ e. omega (arith, e, is))), rest.go);
        among = weaker x.number (numbers_of us) calls rest.among;
        numbers = ap (λ ns. x.number ∷ ns) rest.numbers;
      }

  goes_both : {X L : Type 0} (k : ℕ) (a b c : Performer A R X L) (first rest : List (Entry A R S)) (ps qs : List ℕ) (ls ms : List L) → length ls ≡ length ps
      → GoesSo a first (told_at k ps ls) b → GoesSo b rest (told_at k qs ms) c → GoesSo a (first ++ rest) (told_at k (ps ++ qs) (ls ++ ms)) c
  goes_both {X} {L} k a b c first rest ps qs ls ms long x y = record {
    number = y.number ∙ x.number;
    told = x.told ++ y.told;
    goes = λ more after left plays.
        let second : Plays a.number b.left (rest ++ more) [] (y.told ++ after) left = subst (λ (n : ℕ). Plays n b.left (rest ++ more) [] (y.told ++ after) left) x.number (y.goes more after left (subst (λ (n : ℕ). Plays n c.left more [] after left) (sym x.number) plays)) in
        let whole = x.goes (rest ++ more) (y.told ++ after) left second in
        let P : List (Entry A R S) × List L → Type 0 = λ z. Plays a.number a.left z.0 [] z.1 left in
        subst P (λ i. (sym (append_assoc first rest more) i, sym (append_assoc x.told y.told after) i)) whole;
    even = even_both a.ahead x.told (told_at k ps ls) b.ahead y.told (told_at k qs ms) c.ahead x.even y.even ∙ ap (λ z. z ++ c.ahead) (sym (told_both k ps qs ls ms long));
  }

  go_both : {X L : Type 0} (k : ℕ) (us bs cs : List (Performer A R X L)) (first rest : List (Entry A R S)) (ps qs : List ℕ) (ls ms : List L) → length ls ≡ length ps
      → AllGo k us first ps ls bs → AllGo k bs rest qs ms cs → AllGo k us (first ++ rest) (ps ++ qs) (ls ++ ms) cs
  go_both k [] [] [] first rest ps qs ls ms long a b = tt
  go_both k (a ∷ us) (b ∷ bs) (c ∷ cs) first rest ps qs ls ms long x y = (goes_both k a b c first rest ps qs ls ms long x.0 y.0, go_both (k + 1) us bs cs first rest ps qs ls ms long x.1 y.1)
  go_both k [] [] (c ∷ cs) first rest ps qs ls ms long a b = absurd b
  go_both k [] (b ∷ bs) cs first rest ps qs ls ms long a y = absurd a
  go_both k (a ∷ us) [] cs first rest ps qs ls ms long x y = absurd x
  go_both k (a ∷ us) (b ∷ bs) [] first rest ps qs ls ms long x y = absurd y

  gone_both : {X L : Type 0} (us bs cs : List (Performer A R X L)) (first rest : List (Entry A R S)) (ps qs : List ℕ) (ls ms : List L) → length ls ≡ length ps
      → AllGone 0 us first ps ls bs → AllGone 0 bs rest qs ms cs → AllGone 0 us (first ++ rest) (ps ++ qs) (ls ++ ms) cs
  gone_both us bs cs first rest ps qs ls ms long a b = record {
    go = go_both 0 us bs cs first rest ps qs ls ms long a.go b.go;
    among = among_both (numbers_of us) first rest a.among (subst (λ ns. AllAmong ns rest) a.numbers b.among);
    numbers = b.numbers ∙ a.numbers;
  }

  nobody_goes : {X L : Type 0} (k : ℕ) (us : List (Performer A R X L)) (calls : List (Entry A R S)) → calls ≡ [] → AllGo k us calls [] [] us
  nobody_goes k [] calls none = tt
  nobody_goes k (a ∷ us) calls none = (stays a calls [] (ap (λ (z : List (Entry A R S)). made_by a.number z) none) refl, nobody_goes (k + 1) us calls none)

  nobody : {X L : Type 0} (old : List (Performer A R X L)) (calls : List (Entry A R S)) (new : List (Performer A R X L)) → calls ≡ [] → new ≡ old → AllGone 0 old calls [] [] new
  nobody {X} {L} old calls new none same =
      subst (λ (z : List (Performer A R X L)). AllGone 0 old calls [] [] z) (sym same) (record { go = nobody_goes 0 old calls none; among = subst (AllAmong (numbers_of old)) (sym none) tt; numbers = refl })

  -- a turn
  does_turn : {X L : Type 0} (is_free : A → Bool) (a : Performer A R X L) (calls : List (Entry A R S)) (b : Performer A R X L) → InTurn is_free a calls b → DoesSo a calls [] b
  does_turn is_free a calls b t = subst (λ z. DoesSo a calls [] z) (sym t.3) (record { number = refl; told = t.0; gone = turn_gone is_free a.number a.left calls t.0 t.1 t.2; even = refl })

  turns_go : {X L : Type 0} (is_free : A → Bool) (places : List ℕ) (old : List (Performer A R X L)) (calls : List (Entry A R S)) (new : List (Performer A R X L)) → Differ (numbers_of old) → AllInTurn is_free places old calls new → AllGone 0 old calls [] [] new
  turns_go is_free [] old calls new differ m = nobody old calls new m.0 m.1
  turns_go {X} {L} is_free (place ∷ places) old calls new differ m =
      let one = one_goes 0 place place old m.4.before m.4.after m.0 [] [] (omega arith) differ m.4.here (does_turn is_free m.4.before m.0 m.4.after m.4.does) (λ j other. refl) in
      let first : AllGone 0 old m.0 [] [] m.2 = subst (λ (z : List (Performer A R X L)). AllGone 0 old m.0 [] [] z) (sym m.4.new_is) one in
      let rest = turns_go is_free places m.2 m.1 new (subst Differ (sym first.numbers) differ) m.5 in
      subst (λ (z : List (Entry A R S)). AllGone 0 old z [] [] new) (sym m.3) (gone_both old m.2 new m.0 m.1 [] [] [] [] refl first rest)

  -- a statement in writing
  does_end : {X L : Type 0} (number : ℕ) (left : Process A R X L) (ahead : List L) (line : L) (calls : List (Entry A R S)) (b : Performer A R X L) → ToEnd ahead line (performer number left ahead) calls b → DoesSo (performer number left ahead) calls (line ∷ []) b
  does_end number left [] line calls b t = subst (λ z. DoesSo (performer number left []) calls (line ∷ []) z) (sym t.2) (record { number = refl; told = line ∷ []; gone = end_gone number left calls line t.0 t.1; even = refl })
  does_end number left (told ∷ ahead) line calls b t =
      subst (λ z. DoesSo (performer number left (told ∷ ahead)) calls (line ∷ []) z) (sym t.2)
      (record { number = refl; told = []; gone = gone_none number left calls [] left t.0 refl refl; even = append-nil (told ∷ ahead) ∙ ap (λ z. z ∷ ahead) (sym t.1) })

  ends_long : {X L : Type 0} (places : List ℕ) (lines : List L) (old : List (Performer A R X L)) (calls : List (Entry A R S)) (new : List (Performer A R X L)) → AllToEnd places lines old calls new → length lines ≡ length places
  ends_long [] [] old calls new m = refl
  ends_long [] (line ∷ lines) old calls new m = absurd m
  ends_long (place ∷ places) [] old calls new m = absurd m
  ends_long (place ∷ places) (line ∷ lines) old calls new m = ap suc (ends_long places lines m.2 m.1 new m.5)

  ends_go : {X L : Type 0} (places : List ℕ) (lines : List L) (old : List (Performer A R X L)) (calls : List (Entry A R S)) (new : List (Performer A R X L)) → Differ (numbers_of old) → AllToEnd places lines old calls new → AllGone 0 old calls places lines new
  ends_go [] [] old calls new differ m = nobody old calls new m.0 m.1
  ends_go [] (line ∷ lines) old calls new differ m = absurd m
  ends_go (place ∷ places) [] old calls new differ m = absurd m
  ends_go {X} {L} (place ∷ places) (line ∷ lines) old calls new differ m =
      let a = m.4.before in
      let does : DoesSo a m.0 (line ∷ []) m.4.after = does_end a.number a.left a.ahead line m.0 m.4.after m.4.does in
      let at_place : DoesSo a m.0 (told_at place (place ∷ []) (line ∷ [])) m.4.after = subst (λ z. DoesSo a m.0 z m.4.after) (sym (told_here place place line refl)) does in
      let one = one_goes 0 place place old a m.4.after m.0 (place ∷ []) (line ∷ []) (omega arith) differ m.4.here at_place (λ j other. told_elsewhere place j line other) in
      let first : AllGone 0 old m.0 (place ∷ []) (line ∷ []) m.2 = subst (λ (z : List (Performer A R X L)). AllGone 0 old m.0 (place ∷ []) (line ∷ []) z) (sym m.4.new_is) one in
      let rest = ends_go places lines m.2 m.1 new (subst Differ (sym first.numbers) differ) m.5 in
      subst (λ (z : List (Entry A R S)). AllGone 0 old z (place ∷ places) (line ∷ lines) new) (sym m.3) (gone_both old m.2 new m.0 m.1 (place ∷ []) places (line ∷ []) lines refl first rest)

  -- a phase in the order of its written turns
  phase_goes : {X L : Type 0} (is_free : A → Bool) (written : WrittenOrder) (old : List (Performer A R X L)) (block : List (Entry A R S)) (lines : List L) (new : List (Performer A R X L)) → Differ (numbers_of old) → PhaseInTurns is_free written old block lines new
      → AllGone 0 old block written.statements lines (map paused new)
  phase_goes {X} {L} is_free written old block lines new differ p =
      let first = turns_go is_free written.turns old p.first p.mid differ p.turns in
      let rest = ends_go written.statements lines p.mid p.rest (map paused new) (subst Differ (sym first.numbers) differ) p.statements in
      subst (λ (z : List (Entry A R S)). AllGone 0 old z written.statements lines (map paused new)) (sym p.all) (gone_both old p.mid (map paused new) p.first p.rest [] written.statements [] lines refl first rest)

  -- who went through one phase plays it and the later ones
  each_play : {X L : Type 0} (k : ℕ) (old new : List (Performer A R X L)) (block : List (Entry A R S)) (blocks : List (List (Entry A R S))) (ps qs : List ℕ) (ls ms : List L) → length ls ≡ length ps → NoneAhead old
      → AllGo k old block ps ls (map paused new) → EachPlays (left_of new) blocks (each_alone (numbers_of new)) (told_by_each k new qs ms)
      → EachPlays (left_of old) (block ∷ blocks) (each_alone (numbers_of old)) (told_by_each k old (ps ++ qs) (ls ++ ms))
  each_play k [] [] block blocks ps qs ls ms long none a b = tt
  each_play k [] (y ∷ ys) block blocks ps qs ls ms long none a b = absurd a
  each_play k (x ∷ xs) [] block blocks ps qs ls ms long none a b = absurd a
  each_play {X} {L} k (x ∷ xs) (y ∷ ys) block blocks ps qs ls ms long none a b =
      let mine : a.0.told ≡ told_at k ps ls = no_ahead x.ahead a.0.told (told_at k ps ls) (All-head (λ (one : Performer A R X L). one.ahead ≡ []) x xs none) a.0.even in (
        record {
          these = [];
          later = [];
          told = told_at k ps ls;
          more = told_at k qs ms;
          left = y.left;
          are = refl;
          lines_are = told_both k ps qs ls ms long;
          plays = let P : List (Entry A R S) × List L → Type 0 = λ z. Plays x.number x.left z.0 [] z.1 y.left in
              subst P (λ i. (append-nil block i, (append-nil a.0.told ∙ mine) i)) (a.0.goes [] [] y.left (record { calls = refl; no_workers = refl; no_lines = refl }, refl));
          goes_on = subst (λ (n : ℕ). PlaysAll n y.left blocks [] (told_at k qs ms) ends) a.0.number b.0;
        },
        each_play (k + 1) xs ys block blocks ps qs ls ms long (All-tail (λ (one : Performer A R X L). one.ahead ≡ []) x xs none) a.1 b.1,
      )

  -- What actors that take written turns play.
  record Played {X L : Type 0} (actors : List (Performer A R X L)) (history : List (Entry A R S)) (places : List ℕ) (lines : List L) : Type 0 where
    blocks : List (List (Entry A R S))
    all : history ≡ one_history blocks
    plays : EachPlays (left_of actors) blocks (each_alone (numbers_of actors)) (told_by_each 0 actors places lines)
    among : AllAmong (numbers_of actors) history

  all_at_end : {X L : Type 0} (k : ℕ) (us : List (Performer A R X L)) (blocks : List (List (Entry A R S))) → blocks ≡ [] → All (λ (one : Performer A R X L). one.left ≡ ends) us → EachPlays (left_of us) blocks (each_alone (numbers_of us)) (told_by_each k us [] [])
  all_at_end k [] blocks none all = tt
  all_at_end {X} {L} k (a ∷ us) blocks none all = (
    subst (λ (z : List (List (Entry A R S))). PlaysAll a.number a.left z [] [] ends) (sym none) (refl, refl, sym (All-head (λ (one : Performer A R X L). one.left ≡ ends) a us all)),
    all_at_end (k + 1) us blocks none (All-tail (λ (one : Performer A R X L). one.left ≡ ends) a us all),
  )

  phases_play : {X L : Type 0} (is_free : A → Bool) (phases : List WrittenOrder) (actors : List (Performer A R X L)) (history : List (Entry A R S)) (lines : List L) → Differ (numbers_of actors) → NoneAhead actors → InTurns is_free phases actors history lines
      → Played actors history (statements_of phases) lines
  phases_play {X} {L} is_free [] actors history lines differ none t =
      let P : List (Entry A R S) × List L → Type 0 = λ z. Played actors z.0 [] z.1 in
      subst P (λ i. (sym t.0 i, sym t.1 i)) (record { blocks = []; all = refl; plays = all_at_end 0 actors [] refl t.2; among = tt })
  phases_play {X} {L} is_free (written ∷ later) actors history lines differ none t =
      let block = t.0 in let more = t.1 in let told = t.2 in let others = t.3 in let next = t.4 in
      let g = phase_goes is_free written actors block told next differ t.7 in
      let long : length told ≡ length written.statements = ends_long written.statements told t.7.mid t.7.rest (map paused next) t.7.statements in
      let same : numbers_of next ≡ numbers_of actors = sym (numbers_paused next) ∙ g.numbers in
      let p = phases_play is_free later next more others (subst Differ (sym same) differ) t.7.none_ahead t.8 in
      subst (λ (z : List L). Played actors history (written.statements ++ statements_of later) z) (sym t.6) (record {
        blocks = block ∷ p.blocks;
        all = t.5 ∙ ap (λ (z : List (Entry A R S)). block ++ z) p.all;
        plays = each_play 0 actors next block p.blocks written.statements (statements_of later) told others long none g.go p.plays;
        among = subst (AllAmong (numbers_of actors)) (sym t.5) (among_both (numbers_of actors) block more g.among (subst (λ ns. AllAmong ns more) same p.among));
      })

  all_any : (ns : List ℕ) (h : List (Entry A R S)) → AllAmong ns h → All (λ (e : Entry A R S). Any (λ n. n ≡ e.caller) ns) h
  all_any ns [] a = All-nil (λ (e : Entry A R S). Any (λ n. n ≡ e.caller) ns)
  all_any ns (e ∷ es) a = All-cons (λ (e : Entry A R S). Any (λ n. n ≡ e.caller) ns) e es (among_any e.caller ns a.0) (all_any ns es a.1)

  -- Actors that take the written turns under different numbers make the calls of their processes, and tell the lines of their statements.
  pub turns_made : {X L : Type 0} (is_free : A → Bool) (phases : List WrittenOrder) (actors : List (Performer A R X L)) (history : List (Entry A R S)) (lines : List L) → Differ (numbers_of actors) → NoneAhead actors → InTurns is_free phases actors history lines
      → MakesCalls (left_of actors) history (told_by_each 0 actors (statements_of phases) lines)
  turns_made {X} {L} is_free phases actors history lines differ none t =
      let p = phases_play is_free phases actors history lines differ none t in
      let each = told_by_each 0 actors (statements_of phases) lines in
      subst (λ (z : List (Entry A R S)). MakesCalls (left_of actors) z each) (sym p.all)
      (made_alone (left_of actors) (numbers_of actors) p.blocks each
      (record { apart = differ; plays = p.plays; nobody_else = all_any (numbers_of actors) (one_history p.blocks) (subst (AllAmong (numbers_of actors)) p.all p.among) }))

  -- There is a line for each statement.
  pub turns_tell : {X L : Type 0} (is_free : A → Bool) (phases : List WrittenOrder) (actors : List (Performer A R X L)) (history : List (Entry A R S)) (lines : List L) → InTurns is_free phases actors history lines → length lines ≡ length (statements_of phases)
  turns_tell is_free [] actors history lines t = ap length t.1
  turns_tell is_free (written ∷ later) actors history lines t =
      let here : length t.2 ≡ length written.statements = ends_long written.statements t.2 t.7.mid t.7.rest (map paused t.4) t.7.statements in
      let there : length t.3 ≡ length (statements_of later) = turns_tell is_free later t.4 t.1 t.3 t.8 in
      ap length t.6 ∙ (length-append t.2 t.3 ∙ (omega (arith, here, there) ∙ sym (length-append written.statements (statements_of later))))

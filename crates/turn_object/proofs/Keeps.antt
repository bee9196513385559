-- Each step of a turn keeps its rule.
use Rattle.std.proofs.Common.{◌≡◌, ℕ, ◌+◌, ◌%◌, ◌^◌, ◌<◌, ◌≤◌, ◌≢◌, ◌⊎◌, inl, inr, List, [], ◌∷◌, ◌++◌, length, get_or, set, sym, refl, ap, ◌∙◌, subst, ⊎_elim, arith, eqb, eq-eqb, ne_eqb, Option, Some, length-append, append_assoc, Bool, cond}
use Rattle.std.specs.Prelude.{unwrap_or}
use Rattle.std.specs.List.{All, Any}
use mathlib.Core.Option as at
use Rattle.std.proofs.Math.Nat.{mod-eq_of_lt}
use Rattle.std.proofs.lemmas.List.{append-nil}
use Rattle.std.proofs.lemmas.List.Elements.{All-cons, All-append}
use mathlib.Core.Logic.{dite}
use native.Mathlib.Decide.{ℕ_discrete}
use lib.ListN.{get_elem?}
use Rattle.atomic_table.proofs.Lists.{at_set, set_here, set_else, set_again}
use Rattle.std.specs.declared.snapshot.Snapshot.{Snapshot}
use Rattle.turn_object.specs.declared.history.Entry.{Entry}
use Rattle.turn_object.specs.declared.history.Ended.{Ended}
use Rattle.turn_object.specs.declared.front.Front.{Front}
use Rattle.turn_object.specs.declared.slot.Resting.{Resting}
use Rattle.turn_object.specs.declared.front.Stage.{Stage}
use Rattle.turn_object.specs.declared.front.Stage.TheVariants.{Idle, Waiting, Serving}
use Rattle.atomic_table.specs.Table.{State, Step, step as table_step, keeps, takes, gives, Allows}
use Rattle.turn_object.specs.History.{entry, state_after}
use Rattle.turn_object.specs.Callers.{made_by, number_or, IsOwn}
use Rattle.turn_object.specs.Front.{IsHistory, KeepsIn}
use Rattle.turn_object.specs.Tickets.{tickets, HasTicket, total, tickets_in, parts_in, FitsStage}
use Rattle.turn_object.specs.Homes.{IsHome, IsOut}
use Rattle.turn_object.specs.Seats.{IsLive, KeepsOwn, KnowsRight, IsKnown}
use Rattle.turn_object.specs.Rule.{IsTurning}
use Rattle.turn_object.specs.Stages.{front_at, served_front, called_front}
use Rattle.turn_object.specs.Steps.{Took, Looked, Passed}
use Rattle.turn_object.proofs.Histories.{entries_other, entries_same, starts_after, starts_snoc, state_snoc}
use Rattle.turn_object.proofs.Happening.{none_above, callers_below, history_snoc}
use Rattle.turn_object.proofs.Views.{total_set, total_le, each_set, inside, below_next, more_tickets}

abbrev is_idle : Stage → ℕ
is_idle Idle = 0
is_idle (Waiting t) = 1
is_idle (Serving t) = 2

abbrev waiting_for : Stage → ℕ
waiting_for Idle = 0
waiting_for (Waiting t) = t
waiting_for (Serving t) = t

pub idle_not_serving : (st : Stage) (t : ℕ) → st ≡ Idle → st ≡ Serving t → ⊥
idle_not_serving st t a b = let x : is_idle st ≡ 0 = ap is_idle a in let y : is_idle st ≡ 2 = ap is_idle b in omega arith

waiting_not_serving : (st : Stage) (t u : ℕ) → st ≡ Waiting t → st ≡ Serving u → ⊥
waiting_not_serving st t u a b = let x : is_idle st ≡ 1 = ap is_idle a in let y : is_idle st ≡ 2 = ap is_idle b in omega arith

module _ {A R S : Type 0} where
  -- a ticket that is out is out with one pass
  abbrev Apart : List (Front A R S) → Type 0
  Apart vs = (seat other : ℕ) (v w : Front A R S) (ticket : ℕ) → get_elem? vs seat ≡ at.some v → get_elem? vs other ≡ at.some w → HasTicket v.stage ticket → HasTicket w.stage ticket → seat ≡ other

  pub apart_set : (vs : List (Front A R S)) (me : ℕ) (w : Front A R S) → Apart vs → ((ticket j : ℕ) (d : Front A R S) → j ≢ me → get_elem? vs j ≡ at.some d → HasTicket w.stage ticket → HasTicket d.stage ticket → ⊥) → Apart (set vs me w)
  apart_set vs me w apart alone a b v x ticket at_a at_b has_a has_b = ⊎_elim
      (λ (t : (a ≡ me) × (w ≡ v)). ⊎_elim
      (λ (u : (b ≡ me) × (w ≡ x)). t.0 ∙ sym u.0)
      (λ (u : (b ≢ me) × (get_elem? vs b ≡ at.some x)). absurd (alone ticket b x u.0 u.1 (subst (λ (z : Front A R S). HasTicket z.stage ticket) (sym t.1) has_a) has_b))
      (at_set vs me b w x at_b))
      (λ (t : (a ≢ me) × (get_elem? vs a ≡ at.some v)). ⊎_elim
      (λ (u : (b ≡ me) × (w ≡ x)). absurd (alone ticket a v t.0 t.1 (subst (λ (z : Front A R S). HasTicket z.stage ticket) (sym u.1) has_b) has_a))
      (λ (u : (b ≢ me) × (get_elem? vs b ≡ at.some x)). apart a b v x ticket t.1 u.1 has_a has_b)
      (at_set vs me b w x at_b))
      (at_set vs me a w v at_a)

  pub known_set : (owner : ℕ → ℕ) (vs : List (Front A R S)) (me : ℕ) (v w : Front A R S) (e : Entry A R S) → get_elem? vs me ≡ at.some v → IsLive w → w.mine ≡ v.mine → w.ended ≡ v.ended → IsKnown owner vs e → IsKnown owner (set vs me w) e
  known_set owner vs me v w e here live own gone k = dite (ℕ_discrete (owner e.caller) me)
      (λ is.
      let same : v ≡ k.0 = at.some-injective v k.0 (sym here ∙ (sym (ap (λ (z : ℕ). get_elem? vs z) is) ∙ k.1)) in
      let there : get_elem? (set vs me w) (owner e.caller) ≡ at.some w = ap (λ (z : ℕ). get_elem? (set vs me w) z) is ∙ set_here vs me w (inside vs me v here) in
      let P : (List (Entry A R S) × List (Ended A R S)) → Type 0 = λ z. IsOwn z.0 e.caller ⊎ Any (λ (g : (Ended A R S)). g.number ≡ e.caller) z.1 in
      (w, there, live, subst P (λ i. ((ap (λ (z : Front A R S). z.mine) (sym same) ∙ sym own) i, (ap (λ (z : Front A R S). z.ended) (sym same) ∙ sym gone) i)) k.3))
      (λ ne. (k.0, set_else vs me (owner e.caller) w ne ∙ k.1, k.2, k.3))

  covered_set : (owner : ℕ → ℕ) (vs : List (Front A R S)) (me : ℕ) (v w : Front A R S) (h : List (Entry A R S)) → get_elem? vs me ≡ at.some v → IsLive w → w.mine ≡ v.mine → w.ended ≡ v.ended → All (IsKnown owner vs) h → All (IsKnown owner (set vs me w)) h
  covered_set owner vs me v w h here live own gone all k d lt = known_set owner vs me v w (get_or h k d) here live own gone (all k d lt)

  abbrev Longest : List (Front A R S) → List (Entry A R S) → Type 0
  Longest vs h = (seat : ℕ) × (v : Front A R S) × (get_elem? vs seat ≡ at.some v) × IsLive v × (v.seen ≡ h)

  pub longest_set : (vs : List (Front A R S)) (me : ℕ) (v w : Front A R S) (h : List (Entry A R S)) → get_elem? vs me ≡ at.some v → IsLive w → (v.seen ≡ h → w.seen ≡ h) → Longest vs h → Longest (set vs me w) h
  longest_set vs me v w h here live sees l = dite (ℕ_discrete l.0 me)
      (λ is.
      let same : v ≡ l.1 = at.some-injective v l.1 (sym here ∙ (sym (ap (λ (z : ℕ). get_elem? vs z) is) ∙ l.2)) in
      (me, w, set_here vs me w (inside vs me v here), live, sees (ap (λ (z : Front A R S). z.seen) same ∙ l.4)))
      (λ ne. (l.0, l.1, set_else vs me l.0 w ne ∙ l.2, l.3, l.4))

  -- who has the slot still has it after a pass changed that has not
  pub out_set : (homes : List (at.Option (Option (Resting A R S)))) (vs : List (Front A R S)) (me : ℕ) (v w : Front A R S) (served : ℕ) → get_elem? vs me ≡ at.some v → (v.stage ≡ Serving served → ⊥) → IsOut homes vs served → IsOut homes (set vs me w) served
  out_set homes vs me v w served here not o = let x = o.1.1 in
      let ne : o.1.0 ≢ me = λ is. not (ap (λ (z : Front A R S). z.stage) (at.some-injective v x (sym here ∙ (sym (ap (λ (z : ℕ). get_elem? vs z) is) ∙ o.1.2))) ∙ o.1.3) in
      (o.0, (o.1.0, x, set_else vs me o.1.0 w ne ∙ o.1.2, o.1.3))

  module _ (step : S → ℕ → A → R → S → Type 0) (may : S → ℕ → A → Type 0) (start : S) where
    abbrev St : Type 0
    St = State (Option (Resting A R S)) (Front A R S)

    abbrev Rule : St → Type 0
    Rule = IsTurning step may start

    -- the tickets that are out are no more than all parts
    few_tickets : (s : St) (r : Rule s) → total tickets_in s.views ≤ 2 ^ 40
    few_tickets s r = let a = total_le tickets_in parts_in s.views (λ i v e. (r.stages i v e).0) in let b = r.parts in omega arith

    pub knows_set : (history : List (Entry A R S)) (owner : ℕ → ℕ) (vs : List (Front A R S)) (me : ℕ) (w : Front A R S) → KnowsRight history start owner me w
        → ((seat : ℕ) (v : Front A R S) → get_elem? vs seat ≡ at.some v → IsLive v → KnowsRight history start owner seat v) → (seat : ℕ) (v : Front A R S) → get_elem? (set vs me w) seat ≡ at.some v → IsLive v → KnowsRight history start owner seat v
    knows_set history owner vs me w mine all = each_set (λ j d. IsLive d → KnowsRight history start owner j d) vs me w (λ _. mine) (λ j d _ e. all j d e)

    pub takes_ticket : (slots id : ℕ) (v : Front A R S) (k : ℕ) → k ≡ 1 → v.stage ≡ Idle → IsLive v → Allows Rule slots id (v, []) 0 (λ n. (n + k) % 2 ^ 64) (Took (table_step slots 0 k 0 at.none) (v, []))
    takes_ticket slots id v k one idle live s r _ here _ =
        let n : ℕ = length r.history + total tickets_in s.views in
        let found : get_or s.words 0 0 ≡ n = ap (λ (ws : List ℕ). get_or ws 0 0) r.words in
        let w : (Front A R S) = front_at (Waiting (get_or s.words 0 0)) v in
        let more = total_set tickets_in s.views id v w here in
        let same = total_set parts_in s.views id v w here in
        let few = few_tickets s r in
        let room = r.room in
        let none : tickets v.stage ≡ 0 = ap tickets idle in
        let next : ℕ = length r.history + total tickets_in (set s.views id w) in
        let up : next ≡ n + 1 = omega arith in
        let fits : (n + k) % 2 ^ 64 ≡ next = let small : n + k < 2 ^ 64 = omega arith in omega (arith, mod-eq_of_lt small) in
        let K : KnowsRight r.history start r.owner id v = r.known id v here live in (
          w,
          keeps,
          tt,
          record {
            history = r.history;
            owner = r.owner;
            words = ap (λ (ws : List ℕ). set ws 0 ((get_or ws 0 0 + k) % 2 ^ 64)) r.words ∙ ap (λ (z : ℕ). z ∷ length r.history ∷ []) fits;
            room = r.room;
            legal = r.legal;
            slot = ⊎_elim inl (λ (o : IsOut s.homes s.views (length r.history)). inr (out_set s.homes s.views id v w (length r.history) here (idle_not_serving v.stage (length r.history) idle) o)) r.slot;
            parts = omega (arith, r.parts);
            stages = each_set (λ j d. (tickets d.stage ≤ d.parts) × FitsStage r.history next d.seen d.stage) s.views id w
                (omega arith, (omega arith, omega arith))
                (λ j d _ e. let old = r.stages j d e in (old.0, more_tickets r.history n next d.seen d.stage (omega arith) old.1));
            apart = apart_set s.views id w r.apart (λ ticket j d ne e mine its. let b = below_next r.history n d.seen d.stage ticket (r.stages j d e).1 its in let m : get_or s.words 0 0 ≡ ticket = mine in omega arith);
            known = knows_set r.history r.owner s.views id w record { begins = K.begins; seen = K.seen; shorter = K.shorter; own = K.own; ended = K.ended; differ = K.differ } r.known;
            longest = longest_set s.views id v w r.history here live (λ e. e) r.longest;
            covered = covered_set r.owner s.views id v w r.history here live refl refl r.covered;
          },
          refl,
        )

    -- a slot that a waiting pass finds its turn for is at home
    at_home : (s : St) (r : Rule s) (id : ℕ) (v : Front A R S) (t : ℕ) → get_elem? s.views id ≡ at.some v → v.stage ≡ Waiting t → length r.history ≡ t → IsHome s.homes (state_after start r.history)
    at_home s r id v t here waits now = ⊎_elim (λ h. h)
        (λ (o : IsOut s.homes s.views (length r.history)). let x = o.1.1 in
        let mine : HasTicket v.stage t = subst (λ (z : Stage). HasTicket z t) (sym waits) refl in
        let its : HasTicket x.stage t = subst (λ (z : Stage). HasTicket z t) (sym o.1.3) now in
        let same : id ≡ o.1.0 = r.apart id o.1.0 v x t here o.1.2 mine its in
        absurd (waiting_not_serving v.stage t (length r.history) waits (ap (λ (z : Front A R S). z.stage) (at.some-injective v x (sym here ∙ (ap (λ (z : ℕ). get_elem? s.views z) same ∙ o.1.2))) ∙ o.1.3)))
        r.slot

    keeps_in : (history seen : List (Entry A R S)) (owner : ℕ → ℕ) (seat : ℕ) (mine : List (Entry A R S)) → KeepsOwn history seen owner seat mine → KeepsIn history mine
    keeps_in history seen owner seat [] k = tt
    keeps_in history seen owner seat (e ∷ es) k = k.0

    pub keeps_in_seen : (history seen : List (Entry A R S)) (owner : ℕ → ℕ) (seat : ℕ) (mine : List (Entry A R S)) → KeepsOwn history seen owner seat mine → KeepsIn seen mine
    keeps_in_seen history seen owner seat [] k = tt
    keeps_in_seen history seen owner seat (e ∷ es) k = k.1

    sees_all : (history seen : List (Entry A R S)) (owner : ℕ → ℕ) (seat : ℕ) (mine : List (Entry A R S)) → KeepsOwn history seen owner seat mine → KeepsOwn history history owner seat mine
    sees_all history seen owner seat [] k = tt
    sees_all history seen owner seat (e ∷ es) k = (k.0, k.0, k.2, k.3)

    number_low : (history seen : List (Entry A R S)) (owner : ℕ → ℕ) (seat : ℕ) (mine : List (Entry A R S)) → KeepsOwn history seen owner seat mine → number_or mine (length history) ≤ length history
    number_low history seen owner seat [] k = omega arith
    number_low history seen owner seat (x ∷ xs) k = let lt = k.3 in omega arith

    pub looks : (slots id : ℕ) (v : Front A R S) (t : ℕ) (st : Step (Option (Resting A R S))) → v.stage ≡ Waiting t → IsLive v → Allows Rule slots id (v, []) 1 (λ n. n) (Looked step may st (v, []))
    looks slots id v t st waits live s r _ here _ =
        let found : get_or s.words 1 0 ≡ length r.history = ap (λ (ws : List ℕ). get_or ws 1 0) r.words in
        let K : KnowsRight r.history start r.owner id v = r.known id v here live in
        let ticket_is : (u : ℕ) → v.stage ≡ Waiting u → t ≡ u = λ u e. ap waiting_for (sym waits ∙ e) in
        let still : set s.words 1 (get_or s.words 1 0) ≡ s.words = ap (λ (ws : List ℕ). set ws 1 (get_or ws 1 0)) r.words ∙ sym r.words in
        dite (ℕ_discrete (get_or s.words 1 0) t)
        (λ now.
        let home = at_home s r id v t here waits (sym found ∙ now) in
        let w : (Front A R S) = served_front t r.history v in
        let tickets_same = total_set tickets_in s.views id v w here in
        let one : tickets v.stage ≡ 1 = ap tickets waits in
        let same = total_set parts_in s.views id v w here in
        let n : ℕ = length r.history + total tickets_in s.views in
        let next : ℕ = length r.history + total tickets_in (set s.views id w) in
        let level : n ≡ next = omega arith in
        let fit : FitsStage r.history n v.seen (Waiting t) = subst (λ (z : Stage). FitsStage r.history n v.seen z) waits (r.stages id v here).1 in
        let mine_has : HasTicket v.stage t = subst (λ (z : Stage). HasTicket z t) (sym waits) refl in
        let homes_now : set s.homes 0 at.none ≡ at.none ∷ [] = ap (λ (hs : List (at.Option (Option (Resting A R S)))). set hs 0 at.none) home.1 in (
          w,
          takes 0 (Some home.0),
          ap (λ (hs : List (at.Option (Option (Resting A R S)))). get_elem? hs 0) home.1,
          record {
            history = r.history;
            owner = r.owner;
            words = still ∙ (r.words ∙ ap (λ (z : ℕ). z ∷ length r.history ∷ []) level);
            room = r.room;
            legal = r.legal;
            slot = inr (homes_now, (id, w, set_here s.views id w (inside s.views id v here), ap Serving (sym now ∙ found)));
            parts = omega (arith, r.parts);
            stages = each_set (λ j d. (tickets d.stage ≤ d.parts) × FitsStage r.history next d.seen d.stage) s.views id w
                (omega arith, (sym now ∙ found, (let low = fit.1 in omega arith), refl))
                (λ j d _ e. let old = r.stages j d e in (old.0, more_tickets r.history n next d.seen d.stage (omega arith) old.1));
            apart = apart_set s.views id w r.apart (λ ticket j d ne e mine its. ne (sym (r.apart id j v d t here e mine_has (subst (λ (z : ℕ). HasTicket d.stage z) (sym mine) its))));
            known = knows_set r.history r.owner s.views id w record {
              begins = K.begins;
              differ = K.differ;
              seen = ([], sym (append-nil r.history));
              shorter = starts_after r.history v.seen v.shorter K.seen K.shorter;
              own = sees_all r.history v.seen r.owner id v.mine K.own;
              ended = λ k d lt. let g = K.ended k d lt in (g.0, g.0, g.2, g.3, g.4);
            } r.known;
            longest = longest_set s.views id v w r.history here live (λ _. refl) r.longest;
            covered = covered_set r.owner s.views id v w r.history here live refl refl r.covered;
          },
          λ u e. (
            λ ne. absurd (ne (now ∙ ticket_is u e)),
            λ is. record {
              history = r.history;
              start = start;
              resting = home.0;
              begins = K.begins;
              after = λ i. (served_front (ticket_is u e i) r.history v, (0, Some home.0) ∷ []);
              object = home.2;
              length_is = sym found ∙ is;
              seen = K.seen;
              legal = r.legal;
              own = keeps_in r.history v.seen r.owner id v.mine K.own;
              number_low = number_low r.history v.seen r.owner id v.mine K.own;
              own_before = keeps_in_seen r.history v.seen r.owner id v.mine K.own;
              ended = λ k d lt. let g = K.ended k d lt in (g.0, g.3, g.4);
            },
          ),
        ))
        (λ later.
        let vs_same : set s.views id v ≡ s.views = set_again s.views id v here in (
          v,
          keeps,
          tt,
          subst Rule (λ i. record { words = sym still i; homes = s.homes; views = sym vs_same i }) r,
          λ u e. (λ _. refl, λ is. absurd (later (is ∙ sym (ticket_is u e)))),
        ))

    abbrev owner_after : (ℕ → ℕ) → ℕ → ℕ → ℕ → ℕ
    owner_after owner place seat m = cond (eqb m place) seat (owner m)

    owner_new : (owner : ℕ → ℕ) (place seat m : ℕ) → m ≡ place → owner_after owner place seat m ≡ seat
    owner_new owner place seat m is = ap (λ (b : Bool). cond b seat (owner m)) (eq-eqb m place is)

    owner_old : (owner : ℕ → ℕ) (place seat m : ℕ) → m < place → owner_after owner place seat m ≡ owner m
    owner_old owner place seat m lt = ap (λ (b : Bool). cond b seat (owner m)) (ne_eqb m place (λ e. omega arith))

    -- a caller's number is never number that another seat stands for, and none that ended
    number_apart : (history seen : List (Entry A R S)) (owner : ℕ → ℕ) (seat : ℕ) (mine : List (Entry A R S)) (m : ℕ) → KeepsOwn history seen owner seat mine → m < length history → ((owner m ≡ seat) → IsOwn mine m → ⊥) → number_or mine (length history) ≢ m
    number_apart history seen owner seat [] m k lt never is = omega arith
    number_apart history seen owner seat (x ∷ xs) m k lt never is = never (ap owner (sym is) ∙ k.2) is

    own_later : (history seen : List (Entry A R S)) (owner : ℕ → ℕ) (place seat seat' : ℕ) (e : Entry A R S) (mine : List (Entry A R S)) → place ≡ length history
        → ((m : ℕ) → owner m ≡ seat' → m < length history → e.caller ≢ m) → KeepsOwn history seen owner seat' mine → KeepsOwn (history ++ e ∷ []) seen (owner_after owner place seat) seat' mine
    own_later history seen owner place seat seat' e [] here other k = tt
    own_later history seen owner place seat seat' e (x ∷ xs) here other k = let lt = k.3 in let l = length-append history (e ∷ []) in
        (entries_other x.caller history e (other x.caller k.2 k.3) ∙ k.0, k.1, owner_old owner place seat x.caller (omega arith) ∙ k.2, omega (arith, l))

    own_extended : (history : List (Entry A R S)) (owner : ℕ → ℕ) (seat : ℕ) (e : Entry A R S) (mine : List (Entry A R S)) → IsHistory step may start history → e.caller ≡ number_or mine (length history)
        → KeepsOwn history history owner seat mine → KeepsOwn (history ++ e ∷ []) (history ++ e ∷ []) (owner_after owner (length history) seat) seat (mine ++ e ∷ [])
    own_extended history owner seat e [] legal number k = let l = length-append history (e ∷ []) in
        let all : made_by e.caller (history ++ e ∷ []) ≡ e ∷ [] = entries_same e.caller history e refl ∙ ap (λ (z : List (Entry A R S)). z ++ e ∷ []) (none_above 0 e.caller history legal.numbered (omega arith)) in
        (all, all, owner_new owner (length history) seat e.caller number, omega (arith, l))
    own_extended history owner seat e (x ∷ xs) legal number k = let l = length-append history (e ∷ []) in let lt = k.3 in
        let all : made_by x.caller (history ++ e ∷ []) ≡ (x ∷ xs) ++ e ∷ [] = entries_same x.caller history e number ∙ ap (λ (z : List (Entry A R S)). z ++ e ∷ []) k.0 in
        (all, all, owner_old owner (length history) seat x.caller lt ∙ k.2, omega (arith, l))

    not_own_after : (mine : List (Entry A R S)) (e : Entry A R S) (m : ℕ) → ¬ (IsOwn mine m) → e.caller ≢ m → ¬ (IsOwn (mine ++ e ∷ []) m)
    not_own_after [] e m never ne is = ne is
    not_own_after (x ∷ xs) e m never ne is = never is

    owns_number : (history seen : List (Entry A R S)) (owner : ℕ → ℕ) (seat : ℕ) (mine : List (Entry A R S)) → KeepsOwn history seen owner seat mine → owner_after owner (length history) seat (number_or mine (length history)) ≡ seat
    owns_number history seen owner seat [] k = owner_new owner (length history) seat (length history) refl
    owns_number history seen owner seat (x ∷ xs) k = owner_old owner (length history) seat x.caller k.3 ∙ k.2

    is_own_after : (mine : List (Entry A R S)) (e : Entry A R S) (m : ℕ) → IsOwn mine m → IsOwn (mine ++ e ∷ []) m
    is_own_after [] e m is = absurd is
    is_own_after (x ∷ xs) e m is = is

    is_own_new : (mine : List (Entry A R S)) (e : Entry A R S) (place : ℕ) → e.caller ≡ number_or mine place → IsOwn (mine ++ e ∷ []) e.caller
    is_own_new [] e place is = refl
    is_own_new (x ∷ xs) e place is = sym is

    -- what was known of a caller is known after another entry
    known_later : (owner : ℕ → ℕ) (place : ℕ) (vs : List (Front A R S)) (me : ℕ) (v : Front A R S) (e x : Entry A R S) → get_elem? vs me ≡ at.some v → IsLive v → x.caller < place → IsKnown owner vs x → IsKnown (owner_after owner place me) (set vs me (called_front e v)) x
    known_later owner place vs me v e x here live lt k = let w : (Front A R S) = called_front e v in let old = owner_old owner place me x.caller lt in dite (ℕ_discrete (owner x.caller) me)
        (λ is.
        let same : v ≡ k.0 = at.some-injective v k.0 (sym here ∙ (sym (ap (λ (z : ℕ). get_elem? vs z) is) ∙ k.1)) in
        let there : get_elem? (set vs me w) (owner_after owner place me x.caller) ≡ at.some w = ap (λ (z : ℕ). get_elem? (set vs me w) z) (old ∙ is) ∙ set_here vs me w (inside vs me v here) in
        let P : (Front A R S) → Type 0 = λ z. IsOwn z.mine x.caller ⊎ Any (λ (g : (Ended A R S)). g.number ≡ x.caller) z.ended in
        (w, there, live, ⊎_elim (λ o. inl (is_own_after v.mine e x.caller o)) inr (subst P (sym same) k.3)))
        (λ ne. (k.0, ap (λ (z : ℕ). get_elem? (set vs me w) z) old ∙ (set_else vs me (owner x.caller) w ne ∙ k.1), k.2, k.3))

    -- the slot has this after it is given back
    given_back : (homes : List (at.Option (Option (Resting A R S)))) (state : S) (vs : List (Front A R S)) (served : ℕ) (y : Option (Resting A R S)) → (IsHome homes state ⊎ IsOut homes vs served) → set homes 0 (at.some y) ≡ at.some y ∷ []
    given_back homes state vs served y slot = ⊎_elim
        (λ (h : IsHome homes state). ap (λ (hs : List (at.Option (Option (Resting A R S)))). set hs 0 (at.some y)) h.1)
        (λ (o : IsOut homes vs served). ap (λ (hs : List (at.Option (Option (Resting A R S)))). set hs 0 (at.some y)) o.0)
        slot

    stage_later : (history : List (Entry A R S)) (e : Entry A R S) (next next' : ℕ) (seen : List (Entry A R S)) (stage : Stage) → next ≡ next' → (HasTicket stage (length history) → ⊥) → FitsStage history next seen stage → FitsStage (history ++ e ∷ []) next' seen stage
    stage_later history e next next' seen Idle same never fits = tt
    stage_later history e next next' seen (Waiting t) same never fits = let l = length-append history (e ∷ []) in let a = fits.0 in let b = fits.1 in
        let ne : t ≢ length history = never in (omega (arith, l), omega arith)
    stage_later history e next next' seen (Serving t) same never fits = absurd (never fits.0)

    abbrev first_lying : Resting A R S → List (ℕ × Option (Resting A R S)) → Resting A R S
    first_lying resting [] = resting
    first_lying resting (x ∷ xs) = unwrap_or x.1 resting

    pub passes_turn : (slots id : ℕ) (v : Front A R S) (t k : ℕ) (object : S) (ask : Snapshot A) (reply : Snapshot R) → k ≡ 1 → v.stage ≡ Serving t → t < 2 ^ 63 → IsLive v
        → ((state : S) → v.start ≡ Some state → may (state_after state v.seen) (number_or v.mine (length v.seen)) ask.value)
        → ((state : S) → v.start ≡ Some state → step (state_after state v.seen) (number_or v.mine (length v.seen)) ask.value reply.value object)
        → Allows Rule slots id (v, (0, Some (record { object = object; last = Some (ask, reply) })) ∷ []) 1 (λ n. (n + k) % 2 ^ 64)
        (Passed (table_step slots 1 k 0 at.none) (v, (0, Some (record { object = object; last = Some (ask, reply) })) ∷ []))
    passes_turn slots id v t k object ask reply one serves early live may_ask may_step s r _ here _ =
        let resting : Resting A R S = record { object = object; last = Some (ask, reply) } in
        let e : (Entry A R S) = entry (number_or v.mine (length v.seen)) ask.value reply.value object in
        let w : (Front A R S) = called_front e v in
        let history : List (Entry A R S) = r.history in
        let history' : List (Entry A R S) = history ++ e ∷ [] in
        let owner' : ℕ → ℕ = owner_after r.owner (length history) id in
        let K : KnowsRight history start r.owner id v = r.known id v here live in
        let n : ℕ = length history + total tickets_in s.views in
        let next : ℕ = length history' + total tickets_in (set s.views id w) in
        let fit : FitsStage history n v.seen (Serving t) = subst (λ (z : Stage). FitsStage history n v.seen z) serves (r.stages id v here).1 in
        let whole : v.seen ≡ history = fit.2 in
        let served : t ≡ length history = fit.0 in
        let number : e.caller ≡ number_or v.mine (length history) = ap (λ (z : List (Entry A R S)). number_or v.mine (length z)) whole in
        let longer : length history' ≡ length history + 1 = length-append history (e ∷ []) in
        let tickets_less = total_set tickets_in s.views id v w here in
        let one_ticket : tickets v.stage ≡ 1 = ap tickets serves in
        let same = total_set parts_in s.views id v w here in
        let level : n ≡ next = omega arith in
        let mine_has : HasTicket v.stage (length history) = subst (λ (z : Stage). HasTicket z (length history)) (sym serves) served in
        let up : (length history + k) % 2 ^ 64 ≡ length history' = let small : length history + k < 2 ^ 64 = omega arith in omega (arith, mod-eq_of_lt small) in
        let own_here = sees_all history v.seen r.owner id v.mine K.own in
        let alone : (m : ℕ) (j : ℕ) → j ≢ id → r.owner m ≡ j → m < length history → e.caller ≢ m = λ m j ne stands lt is.
        number_apart history v.seen r.owner id v.mine m K.own lt (λ mine _. ne (sym stands ∙ mine)) (sym number ∙ is) in
        let sees : w.seen ≡ history' = ap (λ (z : List (Entry A R S)). z ++ e ∷ []) whole in (
          w,
          gives,
          tt,
          record {
            history = history';
            owner = owner';
            words = ap (λ (ws : List ℕ). set ws 1 ((get_or ws 1 0 + k) % 2 ^ 64)) r.words ∙ (λ i. level i ∷ up i ∷ []);
            room = omega arith;
            legal = history_snoc step may start history e r.legal (let low = number_low history v.seen r.owner id v.mine K.own in omega arith)
                (subst (λ (z : List (Entry A R S)). may (state_after start z) e.caller ask.value) whole (may_ask start K.begins))
                (subst (λ (z : List (Entry A R S)). step (state_after start z) e.caller ask.value reply.value object) whole (may_step start K.begins));
            slot = inl (resting, given_back s.homes (state_after start history) s.views (length history) (Some resting) r.slot, sym (state_snoc start history e));
            parts = omega (arith, r.parts);
            stages = each_set (λ j d. (tickets d.stage ≤ d.parts) × FitsStage history' next d.seen d.stage) s.views id w
                (omega arith, tt)
                (λ j d ne at_j. let old = r.stages j d at_j in (old.0, stage_later history e n next d.seen d.stage level (λ has. ne (sym (r.apart id j v d (length history) here at_j mine_has has))) old.1));
            apart = apart_set s.views id w r.apart (λ ticket j d ne at_j mine its. absurd mine);
            known = each_set (λ j d. IsLive d → KnowsRight history' start owner' j d) s.views id w
                (λ _. record {
                  begins = K.begins;
                  differ = K.differ;
                  seen = ([], sym (append-nil history' ∙ refl) ∙ ap (λ (z : List (Entry A R S)). z ++ []) (sym sees));
                  shorter = starts_snoc v.seen v.shorter e K.shorter;
                  own = subst (λ (z : List (Entry A R S)). KeepsOwn history' z owner' id (v.mine ++ e ∷ [])) (sym sees) (own_extended history r.owner id e v.mine r.legal number own_here);
                  ended = λ m d lt. let g = K.ended m d lt in let gone : (Ended A R S) = get_or v.ended m d in let low = g.3 in
                      let ne : e.caller ≢ gone.number = λ is. number_apart history v.seen r.owner id v.mine gone.number K.own g.3 (λ _ own. g.4 own) (sym number ∙ is) in
                      let all : made_by gone.number history' ≡ gone.entries = entries_other gone.number history e ne ∙ g.0 in
                      (all, ap (λ (z : List (Entry A R S)). made_by gone.number z) sees ∙ all, owner_old r.owner (length history) id gone.number g.3 ∙ g.2, omega arith, not_own_after v.mine e gone.number g.4 ne);
                })
                (λ j d ne at_j alive. let D : KnowsRight history start r.owner j d = r.known j d at_j alive in record {
                  begins = D.begins;
                  differ = D.differ;
                  seen = (D.seen.0 ++ e ∷ [], ap (λ (z : List (Entry A R S)). z ++ e ∷ []) D.seen.1 ∙ append_assoc d.seen D.seen.0 (e ∷ []));
                  shorter = D.shorter;
                  own = own_later history d.seen r.owner (length history) id j e d.mine refl (λ m stands lt. alone m j ne stands lt) D.own;
                  ended = λ m x lt. let g = D.ended m x lt in let gone : (Ended A R S) = get_or d.ended m x in let low = g.3 in
                      (entries_other gone.number history e (alone gone.number j ne g.2 g.3) ∙ g.0, g.1, owner_old r.owner (length history) id gone.number g.3 ∙ g.2, omega arith, g.4);
                });
            longest = (id, w, set_here s.views id w (inside s.views id v here), live, sees);
            covered = All-append (IsKnown owner' (set s.views id w)) history (e ∷ [])
                (λ m d lt. let low = callers_below 0 history r.legal.numbered m d lt in known_later r.owner (length history) s.views id v e (get_or history m d) here live (omega arith) (r.covered m d lt))
                (All-cons (IsKnown owner' (set s.views id w)) e []
                (w, ap (λ (z : ℕ). get_elem? (set s.views id w) z) (ap owner' number ∙ owns_number history v.seen r.owner id v.mine K.own) ∙ set_here s.views id w (inside s.views id v here), live, inl (is_own_new v.mine e (length history) number))
                (λ m d lt. absurd (omega arith)));
          },
          λ o a b is. let lies = ap (first_lying resting) is in let told = ap (λ (z : Resting A R S). unwrap_or z.last (ask, reply)) lies in λ i. (called_front (entry (number_or v.mine (length v.seen)) (told i).0.value (told i).1.value (lies i).object) v, []),
        )

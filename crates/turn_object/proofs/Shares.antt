-- How passes are split and joined, and what a pass learns.
use Rattle.std.proofs.Common.{◌≡◌, ℕ, ◌+◌, ◌<◌, ◌≤◌, ◌≢◌, ◌⊎◌, inl, inr, List, [], ◌∷◌, ◌++◌, length, get_or, set, sym, refl, ap, ◌∙◌, subst, ⊎_elim, arith, eqb, eq-eqb, ne_eqb, ltb, Option, Some, length-append, Bool, true, false, cond}
use Rattle.std.specs.List.{All, Any}
use mathlib.Core.Option as at
use Rattle.std.proofs.lemmas.List.{append-nil, get_or_append_left, get_or-append-add}
use Rattle.std.proofs.lemmas.List.Elements.{All-cons, All-append, All-nil, All-head, All-tail}
use mathlib.Core.Logic.{dite}
use native.Mathlib.Decide.{ℕ_discrete}
use lib.ListN.{get_elem?}
use Rattle.atomic_table.proofs.Lists.{set_here, set_else, set_again, at_snoc, at_longer}
use Rattle.turn_object.specs.declared.history.Entry.{Entry}
use Rattle.turn_object.specs.declared.history.Ended.{Ended}
use Rattle.turn_object.specs.declared.front.Front.{Front}
use Rattle.turn_object.specs.declared.slot.Resting.{Resting}
use Rattle.turn_object.specs.declared.front.Stage.{Stage}
use Rattle.turn_object.specs.declared.front.Stage.TheVariants.{Idle}
use Rattle.atomic_table.specs.Table.{Me, State, Step, keeps, Allows, Splits, Joins}
use Rattle.turn_object.specs.History.{StartsWith}
use Rattle.turn_object.specs.Callers.{IsOwn}
use Rattle.turn_object.specs.Ended.{AreApart, as_ended}
use Rattle.turn_object.specs.Front.{IsHistory, IsLegalFront}
use Rattle.turn_object.specs.Shares.{longer, kept_front, given_front, joined_front}
use Rattle.turn_object.specs.Tickets.{tickets, HasTicket, total, tickets_in, parts_in, FitsStage}
use Rattle.turn_object.specs.Homes.{IsOut}
use Rattle.turn_object.specs.Seats.{IsLive, KeepsOwn, KeepsEnded, KnowsRight}
use Rattle.turn_object.specs.Rule.{IsTurning}
use Rattle.turn_object.specs.Stages.{spent_front}
use Rattle.turn_object.specs.Steps.{Learned}
use Rattle.turn_object.proofs.Happening.{history_first}
use Rattle.turn_object.proofs.Histories.{longer_begins, longer_is, still_all, squeeze}
use Rattle.turn_object.proofs.Views.{total_set, each_set, inside, more_tickets}
use Rattle.turn_object.proofs.Keeps.{idle_not_serving, apart_set, known_set, longest_set, out_set, knows_set}
use Rattle.turn_object.proofs.Ends.{legal_of}
use Rattle.turn_object.proofs.Calls.{started}

any_left : {X : Type 0} (P : X → Type 0) (xs ys : List X) → Any P xs → Any P (xs ++ ys)
any_left P xs ys a = let lt = a.2 in let l = length-append xs ys in (a.0, a.1, omega (arith, l), get_or_append_left xs ys a.1 a.0 a.2 ∙ a.3, a.4)

any_right : {X : Type 0} (P : X → Type 0) (xs ys : List X) → Any P ys → Any P (xs ++ ys)
any_right P xs ys a = let lt = a.2 in let l = length-append xs ys in (length xs + a.0, a.1, omega (arith, l), get_or-append-add xs ys a.0 a.1 ∙ a.3, a.4)

abbrev owner_joined : (ℕ → ℕ) → ℕ → ℕ → ℕ → ℕ
owner_joined owner other id m = cond (eqb (owner m) other) id (owner m)

moved : (owner : ℕ → ℕ) (other id m : ℕ) → owner m ≡ other → owner_joined owner other id m ≡ id
moved owner other id m is = ap (λ (b : Bool). cond b id (owner m)) (eq-eqb (owner m) other is)

unmoved : (owner : ℕ → ℕ) (other id m : ℕ) → owner m ≢ other → owner_joined owner other id m ≡ owner m
unmoved owner other id m ne = ap (λ (b : Bool). cond b id (owner m)) (ne_eqb (owner m) other ne)

module _ {A R S : Type 0} where
  total_snoc : (f : (Front A R S) → ℕ) (vs : List (Front A R S)) (v : Front A R S) → total f (vs ++ v ∷ []) ≡ total f vs + f v
  total_snoc f [] v = omega arith
  total_snoc f (x ∷ xs) v = let t = total_snoc f xs v in omega arith

  each_snoc : (P : ℕ → (Front A R S) → Type 0) (vs : List (Front A R S)) (w : Front A R S) → ((j : ℕ) → P j w) → ((j : ℕ) (d : Front A R S) → get_elem? vs j ≡ at.some d → P j d) → (j : ℕ) (d : Front A R S) → get_elem? (vs ++ w ∷ []) j ≡ at.some d → P j d
  each_snoc P vs w new old j d e = ⊎_elim (λ t. old j d t) (λ (t : w ≡ d). subst (λ (z : Front A R S). P j z) t (new j)) (at_snoc vs w d j e)

  module _ (step : S → ℕ → A → R → S → Type 0) (may : S → ℕ → A → Type 0) (start : S) where
    abbrev Rule : State (Option (Resting A R S)) (Front A R S) → Type 0
    Rule = IsTurning step may start

    pub learns : (slots id : ℕ) (v : Front A R S) (st : Step (Option (Resting A R S))) → IsLive v → Allows Rule slots id (v, []) 0 (λ n. n) (Learned step may st (v, []))
    learns slots id v st live s r _ here _ =
        let K : KnowsRight r.history start r.owner id v = r.known id v here live in
        let still : set s.words 0 (get_or s.words 0 0) ≡ s.words = ap (λ (ws : List ℕ). set ws 0 (get_or ws 0 0)) r.words ∙ sym r.words in
        let vs_same : set s.views id v ≡ s.views = set_again s.views id v here in
        let legal : IsHistory step may start v.seen = history_first step may start v.seen K.seen.0 (subst (IsHistory step may start) K.seen.1 r.legal) in (
          v,
          keeps,
          tt,
          subst Rule (λ i. record { words = sym still i; homes = s.homes; views = sym vs_same i }) r,
          (refl, λ state begins. (subst (λ (z : S). IsLegalFront step may z v) (started v.start start state K.begins begins) (legal_of step may start r.history r.owner id v legal K), K.shorter)),
        )

    pub splits : (id : ℕ) (v : Front A R S) (n : ℕ) → 0 < n → n < v.parts → v.stage ≡ Idle → Splits Rule id v (kept_front n v) (given_front n v)
    splits id v n some_parts fewer idle s r here =
        let left : (Front A R S) = kept_front n v in
        let right : (Front A R S) = given_front n v in
        let vs : List (Front A R S) = set s.views id left in
        let K : KnowsRight r.history start r.owner id v = r.known id v here (omega arith) in
        let next : ℕ = length r.history + total tickets_in s.views in
        let next' : ℕ = length r.history + total tickets_in (vs ++ right ∷ []) in
        let t = total_set tickets_in s.views id v left here in
        let u = total_snoc tickets_in vs right in
        let p = total_set parts_in s.views id v left here in
        let q = total_snoc parts_in vs right in
        let level : next ≡ next' = omega arith in
        let none : tickets v.stage ≡ 0 = ap tickets idle in
        record {
          history = r.history;
          owner = r.owner;
          words = r.words ∙ ap (λ (z : ℕ). z ∷ length r.history ∷ []) level;
          room = r.room;
          legal = r.legal;
          slot = ⊎_elim inl (λ (o : IsOut s.homes s.views (length r.history)).
              let o' = out_set s.homes s.views id v left (length r.history) here (idle_not_serving v.stage (length r.history) idle) o in
              inr (o'.0, (o'.1.0, o'.1.1, at_longer vs (right ∷ []) o'.1.0 o'.1.1 o'.1.2, o'.1.3))) r.slot;
          parts = omega (arith, r.parts);
          stages = each_snoc (λ j d. (tickets d.stage ≤ d.parts) × FitsStage r.history next' d.seen d.stage) vs right (λ j. (omega arith, tt))
              (each_set (λ j d. (tickets d.stage ≤ d.parts) × FitsStage r.history next' d.seen d.stage) s.views id left
              (omega arith, more_tickets r.history next next' v.seen v.stage (omega arith) (r.stages id v here).1)
              (λ j d _ e. let old = r.stages j d e in (old.0, more_tickets r.history next next' d.seen d.stage (omega arith) old.1)));
          apart = λ a b x y ticket at_a at_b has_a has_b.
              ⊎_elim (λ (in_a : get_elem? vs a ≡ at.some x). ⊎_elim
              (λ (in_b : get_elem? vs b ≡ at.some y). apart_set s.views id left r.apart (λ ticket j d ne e mine its. absurd (subst (λ (z : Stage). HasTicket z ticket) idle mine)) a b x y ticket in_a in_b has_a has_b)
              (λ (new : right ≡ y). absurd (subst (λ (z : Front A R S). HasTicket z.stage ticket) (sym new) has_b)) (at_snoc vs right y b at_b))
              (λ (new : right ≡ x). absurd (subst (λ (z : Front A R S). HasTicket z.stage ticket) (sym new) has_a)) (at_snoc vs right x a at_a);
          known = each_snoc (λ j d. IsLive d → KnowsRight r.history start r.owner j d) vs right
              (λ j _. record { begins = K.begins; seen = K.seen; shorter = K.shorter; own = tt; ended = All-nil (KeepsEnded r.history v.seen r.owner j []); differ = tt })
              (λ j d e. knows_set step may start r.history r.owner s.views id left record { begins = K.begins; seen = K.seen; shorter = K.shorter; own = K.own; ended = K.ended; differ = K.differ } r.known j d e);
          longest = let l = longest_set s.views id v left r.history here (omega arith) (λ e. e) r.longest in (l.0, l.1, at_longer vs (right ∷ []) l.0 l.1 l.2, l.3, l.4);
          covered = λ k d lt. let c = known_set r.owner s.views id v left (get_or r.history k d) here (omega arith) refl refl (r.covered k d lt) in
              (c.0, at_longer vs (right ∷ []) (r.owner (get_or r.history k d).caller) c.0 c.1, c.2, c.3);
        }

  own_any : (mine : List (Entry A R S)) (caller : ℕ) → IsOwn mine caller → Any (λ (g : (Ended A R S)). g.number ≡ caller) (as_ended mine)
  own_any [] caller is = absurd is
  own_any (e ∷ es) caller is = (0, record { number = e.caller; entries = e ∷ es }, omega arith, refl, is)

  own_moved : (history seen seen' : List (Entry A R S)) (owner owner' : ℕ → ℕ) (seat seat' : ℕ) (mine : List (Entry A R S)) → StartsWith history seen' → StartsWith seen' seen → ((m : ℕ) → owner m ≡ seat → owner' m ≡ seat') → KeepsOwn history seen owner seat mine → KeepsOwn history seen' owner' seat' mine
  own_moved history seen seen' owner owner' seat seat' [] a b moves k = tt
  own_moved history seen seen' owner owner' seat seat' (e ∷ es) a b moves k = (k.0, still_all history seen seen' a b e.caller (e ∷ es) k.0 k.1, moves e.caller k.2, k.3)

  not_mine : (history seen : List (Entry A R S)) (owner : ℕ → ℕ) (id other m : ℕ) (mine : List (Entry A R S)) → other ≢ id → owner m ≡ other → KeepsOwn history seen owner id mine → ¬ (IsOwn mine m)
  not_mine history seen owner id other m [] ne stands k is = is
  not_mine history seen owner id other m (x ∷ xs) ne stands k is = ne (sym stands ∙ (ap owner (sym is) ∙ k.2))

  all_ended : (history seen seen' : List (Entry A R S)) (owner owner' : ℕ → ℕ) (other id : ℕ) (mine own : List (Entry A R S)) → StartsWith history seen' → StartsWith seen' seen → ((m : ℕ) → owner m ≡ other → owner' m ≡ id) → ((m : ℕ) → owner m ≡ other → ¬ (IsOwn own m))
      → KeepsOwn history seen owner other mine → All (KeepsEnded history seen' owner' id own) (as_ended mine)
  all_ended history seen seen' owner owner' other id [] own a b moves apart k = All-nil (KeepsEnded history seen' owner' id own)
  all_ended history seen seen' owner owner' other id (e ∷ es) own a b moves apart k = All-cons (KeepsEnded history seen' owner' id own) (record { number = e.caller; entries = e ∷ es }) []
      (k.0, still_all history seen seen' a b e.caller (e ∷ es) k.0 k.1, moves e.caller k.2, k.3, apart e.caller k.2)
      (All-nil (KeepsEnded history seen' owner' id own))

  ended_owner : (history seen : List (Entry A R S)) (owner : ℕ → ℕ) (seat : ℕ) (mine : List (Entry A R S)) → KeepsOwn history seen owner seat mine → All (λ (g : Ended A R S). owner g.number ≡ seat) (as_ended mine)
  ended_owner history seen owner seat [] k = All-nil (λ (g : Ended A R S). owner g.number ≡ seat)
  ended_owner history seen owner seat (e ∷ es) k = All-cons (λ (g : Ended A R S). owner g.number ≡ seat) (record { number = e.caller; entries = e ∷ es }) [] k.2 (All-nil (λ (g : Ended A R S). owner g.number ≡ seat))

  -- the numbers of two seats differ
  apart_append : (owner : ℕ → ℕ) (id other : ℕ) → other ≢ id → (xs ys : List (Ended A R S)) → All (λ (g : Ended A R S). owner g.number ≡ id) xs → All (λ (g : Ended A R S). owner g.number ≡ other) ys → AreApart xs → AreApart ys → AreApart (xs ++ ys)
  apart_append owner id other ne [] ys here there a b = b
  apart_append owner id other ne (x ∷ xs) ys here there a b = (
    All-append (λ (g : Ended A R S). g.number ≢ x.number) xs ys a.0 (λ k d lt is. ne (sym (there k d lt) ∙ (ap owner is ∙ All-head (λ (g : Ended A R S). owner g.number ≡ id) x xs here))),
    apart_append owner id other ne xs ys (All-tail (λ (g : Ended A R S). owner g.number ≡ id) x xs here) there a.1 b,
  )

  -- a pass's own number stands last
  apart_snoc : (mine : List (Entry A R S)) (ended : List (Ended A R S)) → All (λ (g : Ended A R S). ¬ (IsOwn mine g.number)) ended → AreApart ended → AreApart (ended ++ as_ended mine)
  apart_snoc [] ended never apart = subst AreApart (sym (append-nil ended)) apart
  apart_snoc (e ∷ es) [] never apart = (All-nil (λ (g : Ended A R S). g.number ≢ e.caller), tt)
  apart_snoc (e ∷ es) (x ∷ xs) never apart = (
    All-append (λ (g : Ended A R S). g.number ≢ x.number) xs (as_ended (e ∷ es)) apart.0
        (All-cons (λ (g : Ended A R S). g.number ≢ x.number) (record { number = e.caller; entries = e ∷ es }) [] (All-head (λ (g : Ended A R S). ¬ (IsOwn (e ∷ es) g.number)) x xs never) (All-nil (λ (g : Ended A R S). g.number ≢ x.number))),
    apart_snoc (e ∷ es) xs (All-tail (λ (g : Ended A R S). ¬ (IsOwn (e ∷ es) g.number)) x xs never) apart.1,
  )

  module _ (step : S → ℕ → A → R → S → Type 0) (may : S → ℕ → A → Type 0) (start : S) where
    pub joins : (id : ℕ) (v : Front A R S) (other : ℕ) (w : Front A R S) → IsLive v → IsLive w → v.stage ≡ Idle → w.stage ≡ Idle → Joins (IsTurning step may start) id v other w (joined_front v w) spent_front
    joins id v other w live_v live_w idle_v idle_w s r here ne there =
        let both : (Front A R S) = joined_front v w in
        let spent : (Front A R S) = spent_front in
        let vs1 : List (Front A R S) = set s.views id both in
        let vs2 : List (Front A R S) = set vs1 other spent in
        let there0 : get_elem? s.views other ≡ at.some w = sym (set_else s.views id other both ne) ∙ there in
        let ne' : id ≢ other = λ e. ne (sym e) in
        let both_there : get_elem? vs2 id ≡ at.some both = set_else vs1 other id spent ne' ∙ set_here s.views id both (inside s.views id v here) in
        let K : KnowsRight r.history start r.owner id v = r.known id v here live_v in
        let W : KnowsRight r.history start r.owner other w = r.known other w there0 live_w in
        let owner' : ℕ → ℕ = owner_joined r.owner other id in
        let seen : List (Entry A R S) = longer v.seen w.seen in
        let order = longer_begins r.history v.seen w.seen K.seen W.seen in
        let whole : StartsWith r.history seen = longer_is (λ (z : List (Entry A R S)). StartsWith r.history z) v.seen w.seen K.seen W.seen in
        let next : ℕ = length r.history + total tickets_in s.views in
        let next' : ℕ = length r.history + total tickets_in vs2 in
        let t = total_set tickets_in s.views id v both here in
        let u = total_set tickets_in vs1 other w spent there in
        let p = total_set parts_in s.views id v both here in
        let q = total_set parts_in vs1 other w spent there in
        let none_v : tickets v.stage ≡ 0 = ap tickets idle_v in
        let none_w : tickets w.stage ≡ 0 = ap tickets idle_w in
        let level : next ≡ next' = omega arith in
        let stays_own : (m : ℕ) → r.owner m ≡ id → owner' m ≡ id = λ m is. unmoved r.owner other id m (λ e. ne (sym e ∙ is)) ∙ is in
        let comes_over : (m : ℕ) → r.owner m ≡ other → owner' m ≡ id = λ m is. moved r.owner other id m is in
        let apart_own : (m : ℕ) → r.owner m ≡ other → ¬ (IsOwn v.mine m) = λ m is. not_mine r.history v.seen r.owner id other m v.mine ne is K.own in
        record {
          history = r.history;
          owner = owner';
          words = r.words ∙ ap (λ (z : ℕ). z ∷ length r.history ∷ []) level;
          room = r.room;
          legal = r.legal;
          slot = ⊎_elim inl (λ (o : IsOut s.homes s.views (length r.history)).
              inr (out_set s.homes vs1 other w spent (length r.history) there (idle_not_serving w.stage (length r.history) idle_w)
              (out_set s.homes s.views id v both (length r.history) here (idle_not_serving v.stage (length r.history) idle_v) o))) r.slot;
          parts = omega (arith, r.parts);
          stages = each_set (λ j d. (tickets d.stage ≤ d.parts) × FitsStage r.history next' d.seen d.stage) vs1 other spent (omega arith, tt)
              (λ j d _ e. each_set (λ j d. (tickets d.stage ≤ d.parts) × FitsStage r.history next' d.seen d.stage) s.views id both
              (omega arith, subst (λ (z : Stage). FitsStage r.history next' seen z) (sym idle_v) tt)
              (λ j d _ e. let old = r.stages j d e in (old.0, more_tickets r.history next next' d.seen d.stage (omega arith) old.1)) j d e);
          apart = apart_set vs1 other spent
              (apart_set s.views id both r.apart (λ ticket j d _ e mine its. subst (λ (z : Stage). HasTicket z ticket) idle_v mine))
              (λ ticket j d _ e mine its. mine);
          known = each_set (λ j d. IsLive d → KnowsRight r.history start owner' j d) vs1 other spent (λ live. absurd (omega arith))
              (λ j d off e. each_set (λ j d. j ≢ other → IsLive d → KnowsRight r.history start owner' j d) s.views id both
              (λ _ _. record {
                begins = K.begins;
                differ = apart_append r.owner id other ne v.ended (w.ended ++ as_ended w.mine) (λ k x lt. (K.ended k x lt).2)
                    (All-append (λ (g : Ended A R S). r.owner g.number ≡ other) w.ended (as_ended w.mine) (λ k x lt. (W.ended k x lt).2) (ended_owner r.history w.seen r.owner other w.mine W.own))
                    K.differ (apart_snoc w.mine w.ended (λ k x lt. (W.ended k x lt).4) W.differ);
                seen = whole;
                shorter = order.2;
                own = own_moved r.history v.seen seen r.owner owner' id id v.mine whole order.0 stays_own K.own;
                ended = All-append (KeepsEnded r.history seen owner' id v.mine) v.ended (w.ended ++ as_ended w.mine)
                    (λ k x lt. let g = K.ended k x lt in (g.0, still_all r.history v.seen seen whole order.0 (get_or v.ended k x).number (get_or v.ended k x).entries g.0 g.1, stays_own (get_or v.ended k x).number g.2, g.3, g.4))
                    (All-append (KeepsEnded r.history seen owner' id v.mine) w.ended (as_ended w.mine)
                    (λ k x lt. let g = W.ended k x lt in (g.0, still_all r.history w.seen seen whole order.1 (get_or w.ended k x).number (get_or w.ended k x).entries g.0 g.1, comes_over (get_or w.ended k x).number g.2, g.3, apart_own (get_or w.ended k x).number g.2))
                    (all_ended r.history w.seen seen r.owner owner' other id w.mine v.mine whole order.1 comes_over apart_own W.own));
              })
              (λ j d not_me at_j not_other live. let D : KnowsRight r.history start r.owner j d = r.known j d at_j live in
              let same : (m : ℕ) → r.owner m ≡ j → owner' m ≡ j = λ m is. unmoved r.owner other id m (λ e. not_other (sym is ∙ e)) ∙ is in record {
                begins = D.begins;
                differ = D.differ;
                seen = D.seen;
                shorter = D.shorter;
                own = own_moved r.history d.seen d.seen r.owner owner' j j d.mine D.seen ([], sym (append-nil d.seen)) same D.own;
                ended = λ k x lt. let g = D.ended k x lt in (g.0, g.1, same (get_or d.ended k x).number g.2, g.3, g.4);
              }) j d e off);
          longest = let l = r.longest in dite (ℕ_discrete l.0 id)
              (λ is. let x_is : l.1 ≡ v = at.some-injective l.1 v (sym l.2 ∙ (ap (λ (z : ℕ). get_elem? s.views z) is ∙ here)) in
              let all : r.history ≡ v.seen = sym l.4 ∙ ap (λ (z : Front A R S). z.seen) x_is in
              (id, both, both_there, omega arith, squeeze r.history seen whole (subst (λ (z : List (Entry A R S)). StartsWith seen z) (sym all) order.0)))
              (λ off. dite (ℕ_discrete l.0 other)
              (λ is. let x_is : l.1 ≡ w = at.some-injective l.1 w (sym l.2 ∙ (ap (λ (z : ℕ). get_elem? s.views z) is ∙ there0)) in
              let all : r.history ≡ w.seen = sym l.4 ∙ ap (λ (z : Front A R S). z.seen) x_is in
              (id, both, both_there, omega arith, squeeze r.history seen whole (subst (λ (z : List (Entry A R S)). StartsWith seen z) (sym all) order.1)))
              (λ off'. (l.0, l.1, set_else vs1 other l.0 spent off' ∙ (set_else s.views id l.0 both off ∙ l.2), l.3, l.4)));
          covered = λ k d lt. let e : (Entry A R S) = get_or r.history k d in let c = r.covered k d lt in dite (ℕ_discrete (r.owner e.caller) other)
              (λ is. let x_is : c.0 ≡ w = at.some-injective c.0 w (sym c.1 ∙ (ap (λ (z : ℕ). get_elem? s.views z) is ∙ there0)) in
              let kept = subst (λ (z : Front A R S). IsOwn z.mine e.caller ⊎ Any (λ (g : (Ended A R S)). g.number ≡ e.caller) z.ended) x_is c.3 in (
                both,
                ap (λ (z : ℕ). get_elem? vs2 z) (comes_over e.caller is) ∙ both_there,
                omega arith,
                inr (any_right (λ (g : (Ended A R S)). g.number ≡ e.caller) v.ended (w.ended ++ as_ended w.mine)
                    (⊎_elim (λ own. any_right (λ (g : (Ended A R S)). g.number ≡ e.caller) w.ended (as_ended w.mine) (own_any w.mine e.caller own)) (λ gone. any_left (λ (g : (Ended A R S)). g.number ≡ e.caller) w.ended (as_ended w.mine) gone) kept)),
              ))
              (λ off. dite (ℕ_discrete (r.owner e.caller) id)
              (λ is. let x_is : c.0 ≡ v = at.some-injective c.0 v (sym c.1 ∙ (ap (λ (z : ℕ). get_elem? s.views z) is ∙ here)) in
              let kept = subst (λ (z : Front A R S). IsOwn z.mine e.caller ⊎ Any (λ (g : (Ended A R S)). g.number ≡ e.caller) z.ended) x_is c.3 in (
                both,
                ap (λ (z : ℕ). get_elem? vs2 z) (stays_own e.caller is) ∙ both_there,
                omega arith,
                ⊎_elim inl (λ gone. inr (any_left (λ (g : (Ended A R S)). g.number ≡ e.caller) v.ended (w.ended ++ as_ended w.mine) gone)) kept,
              ))
              (λ off'. (c.0, ap (λ (z : ℕ). get_elem? vs2 z) (unmoved r.owner other id e.caller off) ∙ (set_else vs1 other (r.owner e.caller) spent off ∙ (set_else s.views id (r.owner e.caller) both off' ∙ c.1)), c.2, c.3)));
        }

  both_by : (b : Bool) (xs ys : List (Entry A R S)) → StartsWith (cond b ys xs) (cond b xs ys) → StartsWith (cond b ys xs) xs × StartsWith (cond b ys xs) ys
  both_by true xs ys t = (t, ([], sym (append-nil ys)))
  both_by false xs ys t = (([], sym (append-nil xs)), t)

  -- what a pass learns after a join
  pub learns_both : (step : S → ℕ → A → R → S → Type 0) (may : S → ℕ → A → Type 0) (state : S) (v w : Front A R S) (m m' : Me (Option (Resting A R S)) (Front A R S)) → v.start ≡ Some state → m.0 ≡ joined_front v w → m' ≡ m
      → ((start : S) → m.0.start ≡ Some start → IsLegalFront step may start m.0 × StartsWith m.0.seen m.0.shorter) → IsLegalFront step may state m'.0 × (StartsWith m'.0.seen v.seen × StartsWith m'.0.seen w.seen)
  learns_both step may state v w m m' begins is same learned =
      let after : m'.0 ≡ joined_front v w = ap (λ (z : Me (Option (Resting A R S)) (Front A R S)). z.0) same ∙ is in
      let P : (Front A R S) → Type 0 = λ z. (start : S) → z.start ≡ Some start → IsLegalFront step may start z × StartsWith z.seen z.shorter in
      let facts = subst P is learned state begins in
      let Q : (Front A R S) → Type 0 = λ z. IsLegalFront step may state z × (StartsWith z.seen v.seen × StartsWith z.seen w.seen) in
      subst Q (sym after) (facts.0, both_by (ltb (length v.seen) (length w.seen)) v.seen w.seen facts.1)

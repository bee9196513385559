-- Where all passes were joined into one that closes the turn, its history is the calls of all actors.
use Rattle.std.proofs.Common.{◌≡◌, ℕ, zero, suc, ◌<◌, ⊎_elim, List, [], ◌∷◌, ◌++◌, length, get_or, sym, refl, ap, ◌∙◌, subst, arith, append_assoc}
use Rattle.std.specs.List.{All, Any}
use Rattle.std.proofs.lemmas.List.Elements.{All-nil, All-cons, All-head, All-tail}
use Rattle.turn_object.specs.declared.history.Entry.{Entry}
use Rattle.turn_object.specs.declared.history.Ended.{Ended}
use Rattle.turn_object.specs.declared.front.Front.{Front}
use Rattle.turn_object.specs.Callers.{made_by, number_or, IsOwn}
use Rattle.turn_object.specs.Ended.{as_ended, EndedIn, AreApart}
use Rattle.turn_object.specs.Front.{KeepsIn, IsHistory}
use Rattle.mount_model.specs.Plays.{PlaysAll}
use Rattle.mount_model.specs.MakesCalls.{Role, callers, with_numbers, EachPlays, IsStory}
use Rattle.mount_model.specs.Going.{IsNumberOf}
use Rattle.mount_model.specs.Players.{Player, HasEnded, processes_of, told_by, ended_by}
use Rattle.mount_model.specs.Closing.{HasAll}
use Rattle.turn_object.proofs.Facts.{none_above}
use Rattle.mount_model.proofs.Stories.Numbers.{numbers-append}

All-left : {T : Type 0} (P : T → Type 0) (xs ys : List T) → All P (xs ++ ys) → All P xs
All-left P [] ys all = All-nil P
All-left P (x ∷ xs) ys all = All-cons P x xs (All-head P x (xs ++ ys) all) (All-left P xs ys (All-tail P x (xs ++ ys) all))

All-right : {T : Type 0} (P : T → Type 0) (xs ys : List T) → All P (xs ++ ys) → All P ys
All-right P [] ys all = all
All-right P (x ∷ xs) ys all = All-right P xs ys (All-tail P x (xs ++ ys) all)

module _ {A R S : Type 0} where
  -- what is kept of callers that ended is all that they have
  pub keeps_all_of : (h : List (Entry A R S)) (cs : List (List (Entry A R S))) → All (EndedIn h) (with_numbers cs) → All (KeepsIn h) cs
  keeps_all_of h [] all = All-nil (KeepsIn h)
  keeps_all_of h ([] ∷ cs) all = All-cons (KeepsIn h) [] cs tt (keeps_all_of h cs all)
  keeps_all_of h ((e ∷ es) ∷ cs) all =
      let gone : Ended A R S = record { number = e.caller; entries = e ∷ es } in
      All-cons (KeepsIn h) (e ∷ es) cs (All-head (EndedIn h) gone (with_numbers cs) all) (keeps_all_of h cs (All-tail (EndedIn h) gone (with_numbers cs) all))

  pub any_caller : (n : ℕ) (cs : List (List (Entry A R S))) (k : ℕ) (x : Ended A R S) → k < length (with_numbers cs) → get_or (with_numbers cs) k x ≡ x → x.number ≡ n → Any (λ (mine : List (Entry A R S)). IsOwn mine n) cs
  any_caller n [] k x lt there is = absurd (omega arith)
  any_caller n ([] ∷ cs) k x lt there is = let t = any_caller n cs k x lt there is in (suc t.0, t.1, omega (arith, t.2), t.3, t.4)
  any_caller n ((e ∷ es) ∷ cs) zero x lt there is = (0, e ∷ es, omega arith, refl, ap (λ (z : Ended A R S). z.number) there ∙ is)
  any_caller n ((e ∷ es) ∷ cs) (suc k) x lt there is = let t = any_caller n cs k x (omega arith) there is in (suc t.0, t.1, omega (arith, t.2), t.3, t.4)

  module _ (step : S → ℕ → A → R → S → Type 0) (may : S → ℕ → A → Type 0) (start : S) where
    -- a number of the caller whose entries these are, or where there are none one that nobody has
    number_is : (h mine : List (Entry A R S)) → IsHistory step may start h → All (EndedIn h) (as_ended mine) → IsNumberOf (number_or mine (length h)) h mine
    number_is h [] legal all = (tt, none_above 0 (length h) h legal.numbered (omega arith))
    number_is h (e ∷ es) legal all = (refl, All-head (EndedIn h) (record { number = e.caller; entries = e ∷ es }) [] all)

    roles_of : {X L : Type 0} (h : List (Entry A R S)) (blocks : List (List (Entry A R S))) (ps : List (Player A R S X L)) → All (HasEnded step may start h blocks) ps → List (Role A R S)
    roles_of h blocks [] all = []
    roles_of h blocks (p ∷ ps) all =
        record { number = number_or p.front.mine (length h); workers = (All-head (HasEnded step may start h blocks) p ps all).0.workers } ∷ roles_of h blocks ps (All-tail (HasEnded step may start h blocks) p ps all)

    each_plays : {X L : Type 0} (h : List (Entry A R S)) (blocks : List (List (Entry A R S))) (ps : List (Player A R S X L)) (all : All (HasEnded step may start h blocks) ps) → IsHistory step may start h → All (EndedIn h) (ended_by ps)
        → EachPlays (processes_of ps) blocks (roles_of h blocks ps all) (told_by ps)
    unfolding roles_of
    each_plays h blocks [] all legal gone = tt
    each_plays h blocks (p ∷ ps) all legal gone =
        let f = All-head (HasEnded step may start h blocks) p ps all in
        let own = All-left (EndedIn h) (p.front.ended ++ as_ended p.front.mine) (ended_by ps) gone in
        let is = number_is h p.front.mine legal (All-right (EndedIn h) p.front.ended (as_ended p.front.mine) own) in
        let plays = f.0.plays (number_or p.front.mine (length h)) is in (
          subst (λ z. PlaysAll (number_or p.front.mine (length h)) p.process blocks f.0.workers p.lines z) f.1 plays,
          each_plays h blocks ps (All-tail (HasEnded step may start h blocks) p ps all) legal (All-right (EndedIn h) (p.front.ended ++ as_ended p.front.mine) (ended_by ps) gone),
        )

    numbers_are : {X L : Type 0} (h : List (Entry A R S)) (blocks : List (List (Entry A R S))) (ps : List (Player A R S X L)) (all : All (HasEnded step may start h blocks) ps) → IsHistory step may start h → All (EndedIn h) (ended_by ps)
        → with_numbers (callers h (roles_of h blocks ps all)) ≡ ended_by ps
    unfolding roles_of
    numbers_are h blocks [] all legal gone = refl
    numbers_are h blocks (p ∷ ps) all legal gone =
        let f = All-head (HasEnded step may start h blocks) p ps all in
        let own = All-left (EndedIn h) (p.front.ended ++ as_ended p.front.mine) (ended_by ps) gone in
        let is = number_is h p.front.mine legal (All-right (EndedIn h) p.front.ended (as_ended p.front.mine) own) in
        let rest = numbers_are h blocks ps (All-tail (HasEnded step may start h blocks) p ps all) legal (All-right (EndedIn h) (p.front.ended ++ as_ended p.front.mine) (ended_by ps) gone) in
        let later : List (List (Entry A R S)) = callers h (roles_of h blocks ps (All-tail (HasEnded step may start h blocks) p ps all)) in
        numbers-append f.0.workers (made_by (number_or p.front.mine (length h)) h ∷ later)
        ∙ ((λ i. sym f.0.ended i ++ (as_ended (is.1 i) ++ rest i)) ∙ sym (append_assoc p.front.ended (as_ended p.front.mine) (ended_by ps)))

    -- A pass into which the passes of all actors were joined has seen a story of them.
    pub ends_story : {X L : Type 0} (m : Front A R S) (blocks : List (List (Entry A R S))) (ps : List (Player A R S X L)) → HasAll step may start m blocks ps → IsStory step may start (processes_of ps) (told_by ps) m.seen
    ends_story m blocks ps a =
        let none = a.none in let ended = a.ended in let known = a.known in
        let gone : All (EndedIn m.seen) (ended_by ps) = subst (λ (z : List (Ended A R S)). All (EndedIn m.seen) z) ended known.ended in
        let roles : List (Role A R S) = roles_of m.seen blocks ps a.played in
        let cast : with_numbers (callers m.seen roles) ≡ ended_by ps = numbers_are m.seen blocks ps a.played known.legal gone in
        let same : m.ended ≡ with_numbers (callers m.seen roles) = ended ∙ sym cast in
        record {
          happens = known.legal.happens;
          calls = record {
            blocks = blocks;
            roles = roles;
            in_phases = a.in_phases;
            plays = each_plays m.seen blocks ps a.played known.legal gone;
            whole = keeps_all_of m.seen (callers m.seen roles) (subst (λ (z : List (Ended A R S)). All (EndedIn m.seen) z) same known.ended);
            apart = subst (λ (z : List (Entry A R S) × List (Ended A R S)). AreApart (as_ended z.0 ++ z.1)) (λ i. (none i, same i)) a.apart;
            nobody_else = λ k d lt. ⊎_elim
                (λ (own : IsOwn m.mine (get_or m.seen k d).caller). absurd (subst (λ (z : List (Entry A R S)). IsOwn z (get_or m.seen k d).caller) none own))
                (λ (a : Any (λ (g : Ended A R S). g.number ≡ (get_or m.seen k d).caller) m.ended).
                let b = subst (λ (z : List (Ended A R S)). Any (λ (g : Ended A R S). g.number ≡ (get_or m.seen k d).caller) z) same a in
                any_caller (get_or m.seen k d).caller (callers m.seen roles) b.0 b.1 b.2 b.3 b.4)
                (a.whole k d lt);
          };
        }

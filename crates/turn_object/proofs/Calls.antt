-- What a call learns from its steps.
use Rattle.std.proofs.Common.{◌≡◌, ℕ, ◌<◌, ◌≢◌, List, [], ◌∷◌, ◌++◌, length, get_or, sym, refl, ap, ◌∙◌, subst, arith, Option, Some, None, length-append}
use Rattle.std.specs.Prelude.{unwrap_or}
use Rattle.std.proofs.lemmas.List.Elements.{filter-append}
use Rattle.turn_object.specs.declared.history.Entry.{Entry}
use Rattle.turn_object.specs.declared.history.Ended.{Ended}
use Rattle.turn_object.specs.declared.front.Front.{Front}
use Rattle.turn_object.specs.declared.front.Stage.{Stage}
use Rattle.turn_object.specs.declared.slot.Resting.{Resting}
use Rattle.atomic_table.specs.Table.{Me, rest}
use Rattle.turn_object.specs.History.{entry, state_after}
use Rattle.turn_object.specs.Callers.{is_by, made_by, number_or, own_number, IsOwn, MayCallAs}
use Rattle.turn_object.specs.Front.{IsHistory, KeepsIn, IsLegalFront}
use Rattle.turn_object.specs.Calls.{MayAsk, IsCalled}
use Rattle.turn_object.specs.Stages.{front_at, served_front, called_front}
use Rattle.turn_object.specs.Steps.{IsServed}
use Rattle.turn_object.proofs.Histories.{entries_other, entries_same, none_since, state_append}
use Rattle.turn_object.proofs.Happening.{none_above, happens_rest, history_snoc, may_along}

pub started : {S : Type 0} (o : Option S) (a b : S) → o ≡ Some a → o ≡ Some b → a ≡ b
started {S} o a b p q = ap (λ (z : Option S). unwrap_or z a) (sym p ∙ q)

module _ {A R S : Type 0} where
  pub carried_state : (f : S → ℕ → Type 0) (v : Front A R S) (st : S) (number : ℕ) → v.start ≡ Some st → number ≡ number_or v.mine (length v.seen) → f (state_after st v.seen) number
      → (state : S) → v.start ≡ Some state → f (state_after state v.seen) (number_or v.mine (length v.seen))
  carried_state f v st number begins is holds state again = subst (λ (z : S × ℕ). f (state_after z.0 v.seen) z.1) (λ i. (started v.start st state begins again i, is i)) holds

  append_none : (xs ys : List (Entry A R S)) → xs ++ ys ≡ [] → ys ≡ []
  append_none xs [] e = refl
  append_none xs (y ∷ ys) e = let l = length-append xs (y ∷ ys) in let k : length (xs ++ y ∷ ys) ≡ 0 = ap length e in absurd (omega (arith, l, k))

  module _ (step : S → ℕ → A → R → S → Type 0) (may : S → ℕ → A → Type 0) where
    pub slot_of : (ticket : ℕ) (m m' : Me (Option (Resting A R S)) (Front A R S)) (st : S) → IsServed step may ticket m m' → m.0.start ≡ Some st
        → (resting : Resting A R S) × (m'.1 ≡ (0, Some resting) ∷ []) × (resting.object ≡ state_after st m'.0.seen)
    slot_of ticket m m' st s begins =
        let same : s.start ≡ st = started m.0.start s.start st s.begins begins in
        (s.resting, ap (λ (z : Me (Option (Resting A R S)) (Front A R S)). z.1) s.after, s.object ∙ (λ i. state_after (same i) (sym (ap (λ (z : Me (Option (Resting A R S)) (Front A R S)). z.0.seen) s.after) i)))

    may_now : ((old new : S) (caller other : ℕ) (ask : A) (asked : A) (reply : R) → other ≢ caller → may old caller ask → may old other asked → step old other asked reply new → may new caller ask)
        → (st : S) (seen rest mine : List (Entry A R S)) (ask : A) → IsHistory step may st (seen ++ rest) → KeepsIn (seen ++ rest) mine → KeepsIn seen mine
        → ((caller : ℕ) → MayCallAs seen mine caller → may (state_after st seen) caller ask) → may (state_after st (seen ++ rest)) (number_or mine (length (seen ++ rest))) ask
    may_now lasts st seen rest [] ask legal own before asks =
        let n : ℕ = length (seen ++ rest) in
        let none : made_by n (seen ++ rest) ≡ [] = none_above 0 n (seen ++ rest) legal.numbered (omega arith) in
        let later : made_by n rest ≡ [] = append_none (made_by n seen) (made_by n rest) (sym (filter-append (is_by n) seen rest) ∙ none) in
        subst (λ (z : S). may z n ask) (sym (state_append st seen rest))
        (may_along step may lasts n (state_after st seen) ask rest (happens_rest step may st seen rest legal.happens) later (asks n (let l = length-append seen rest in omega (arith, l))))
    may_now lasts st seen rest (x ∷ xs) ask legal own before asks =
        let later : made_by x.caller rest ≡ [] = none_since x.caller seen rest (x ∷ xs) own before in
        subst (λ (z : S). may z x.caller ask) (sym (state_append st seen rest))
        (may_along step may lasts x.caller (state_after st seen) ask rest (happens_rest step may st seen rest legal.happens) later (asks x.caller refl))

    number_is : (mine : List (Entry A R S)) (ticket : ℕ) → unwrap_or (own_number mine) ticket ≡ number_or mine ticket
    number_is [] ticket = refl
    number_is (x ∷ xs) ticket = refl

    pub number_served : (ticket number : ℕ) (m m' : Me (Option (Resting A R S)) (Front A R S)) → IsServed step may ticket m m' → number ≡ unwrap_or (own_number m.0.mine) ticket → number ≡ number_or m'.0.mine (length m'.0.seen)
    number_served ticket number m m' s is =
        let mine : m'.0.mine ≡ m.0.mine = ap (λ (z : Me (Option (Resting A R S)) (Front A R S)). z.0.mine) s.after in
        let seen : m'.0.seen ≡ s.history = ap (λ (z : Me (Option (Resting A R S)) (Front A R S)). z.0.seen) s.after in
        is ∙ (number_is m.0.mine ticket ∙ (λ i. number_or (sym mine i) ((sym s.length_is ∙ ap length (sym seen)) i)))

    pub may_served : ((old new : S) (caller other : ℕ) (ask : A) (asked : A) (reply : R) → other ≢ caller → may old caller ask → may old other asked → step old other asked reply new → may new caller ask)
        → (ticket number : ℕ) (m m' : Me (Option (Resting A R S)) (Front A R S)) (st : S) (ask : A) → IsServed step may ticket m m' → m.0.start ≡ Some st → MayAsk may st m.0 ask → number ≡ unwrap_or (own_number m.0.mine) ticket
        → may (state_after st m'.0.seen) number ask
    may_served lasts ticket number m m' st ask s begins asks is =
        let same : s.start ≡ st = started m.0.start s.start st s.begins begins in
        let rest : List (Entry A R S) = s.seen.0 in
        let whole : s.history ≡ m.0.seen ++ rest = s.seen.1 in
        let legal : IsHistory step may st (m.0.seen ++ rest) = subst (λ (z : S × List (Entry A R S)). IsHistory step may z.0 z.1) (λ i. (same i, whole i)) s.legal in
        let own : KeepsIn (m.0.seen ++ rest) m.0.mine = subst (λ (z : List (Entry A R S)). KeepsIn z m.0.mine) whole s.own in
        let here = may_now lasts st m.0.seen rest m.0.mine ask legal own s.own_before asks in
        let seen : m'.0.seen ≡ m.0.seen ++ rest = ap (λ (z : Me (Option (Resting A R S)) (Front A R S)). z.0.seen) s.after ∙ whole in
        let number_here : number_or m.0.mine (length (m.0.seen ++ rest)) ≡ number = ap (λ (z : ℕ). number_or m.0.mine z) (ap length (sym whole) ∙ s.length_is) ∙ (sym (number_is m.0.mine ticket) ∙ sym is) in
        subst (λ (z : List (Entry A R S) × ℕ). may (state_after st z.0) z.1 ask) (λ i. (sym seen i, number_here i)) here

    own_longer : (history : List (Entry A R S)) (e : Entry A R S) (mine : List (Entry A R S)) (st : S) → IsHistory step may st history → KeepsIn history mine → e.caller ≡ number_or mine (length history) → KeepsIn (history ++ e ∷ []) (mine ++ e ∷ [])
    own_longer history e [] st legal own number = entries_same e.caller history e refl ∙ ap (λ (z : List (Entry A R S)). z ++ e ∷ []) (none_above 0 e.caller history legal.numbered (omega arith))
    own_longer history e (x ∷ xs) st legal own number = entries_same x.caller history e number ∙ ap (λ (z : List (Entry A R S)). z ++ e ∷ []) own

    ended_apart : (history : List (Entry A R S)) (e : Entry A R S) (mine : List (Entry A R S)) (gone : (Ended A R S)) → e.caller ≡ number_or mine (length history) → gone.number < length history → ¬ (IsOwn mine gone.number) → e.caller ≢ gone.number
    ended_apart history e [] gone number lt never is = omega arith
    ended_apart history e (x ∷ xs) gone number lt never is = never (sym number ∙ is)

    pub front_served : (ticket number : ℕ) (m m' m'' : Me (Option (Resting A R S)) (Front A R S)) (st : S) (ask : A) (reply : R) (after : S) → IsServed step may ticket m m' → m.0.start ≡ Some st → number ≡ unwrap_or (own_number m.0.mine) ticket
        → may (state_after st m'.0.seen) number ask → step (state_after st m'.0.seen) number ask reply after → m'' ≡ (called_front (entry number ask reply after) m'.0, []) → IsLegalFront step may st m''.0
    front_served ticket number m m' m'' st ask reply after s begins is asks steps last =
        let e : (Entry A R S) = entry number ask reply after in
        let same : s.start ≡ st = started m.0.start s.start st s.begins begins in
        let legal : IsHistory step may st s.history = subst (λ (z : S). IsHistory step may z s.history) same s.legal in
        let seen : m'.0.seen ≡ s.history = ap (λ (z : Me (Option (Resting A R S)) (Front A R S)). z.0.seen) s.after in
        let here : number ≡ number_or m.0.mine (length s.history) = is ∙ (number_is m.0.mine ticket ∙ ap (λ (z : ℕ). number_or m.0.mine z) (sym s.length_is)) in
        let w : (Front A R S) = called_front e (served_front ticket s.history m.0) in
        let whole : m''.0 ≡ w = ap (λ (z : Me (Option (Resting A R S)) (Front A R S)). z.0) last ∙ ap (λ (z : Me (Option (Resting A R S)) (Front A R S)). called_front e z.0) s.after in
        let low = s.number_low in
        subst (λ (z : Front A R S). IsLegalFront step may st z) (sym whole) record {
          legal = history_snoc step may st s.history e legal (omega arith) (subst (λ (z : List (Entry A R S)). may (state_after st z) number ask) seen asks) (subst (λ (z : List (Entry A R S)). step (state_after st z) number ask reply after) seen steps);
          own = own_longer s.history e m.0.mine st legal s.own here;
          ended = λ k d lt. let g = s.ended k d lt in let gone : (Ended A R S) = get_or m.0.ended k d in entries_other gone.number s.history e (ended_apart s.history e m.0.mine gone here g.1 g.2) ∙ g.0;
        }

    -- a call that was served is what the pass's clauses say of a call
    pub called_served : (ticket number : ℕ) (m m' m'' : Me (Option (Resting A R S)) (Front A R S)) (st : S) (ask : A) (reply : R) (after : S) → IsServed step may ticket m m' → number ≡ unwrap_or (own_number m.0.mine) ticket
        → may (state_after st m'.0.seen) number ask → step (state_after st m'.0.seen) number ask reply after → m'' ≡ (called_front (entry number ask reply after) m'.0, []) → IsCalled step may st m.0 ask reply m''.0
    called_served ticket number m m' m'' st ask reply after s is asks steps last =
        let e : (Entry A R S) = entry number ask reply after in
        let seen_is : m'.0.seen ≡ m.0.seen ++ s.seen.0 = ap (λ (z : Me (Option (Resting A R S)) (Front A R S)). z.0.seen) s.after ∙ s.seen.1 in
        record {
          between = s.seen.0;
          after = after;
          caller = number;
          number = is ∙ (number_is m.0.mine ticket ∙ ap (λ (z : ℕ). number_or m.0.mine z) (sym s.length_is ∙ ap length s.seen.1));
          allowed = subst (λ (z : List (Entry A R S)). may (state_after st z) number ask) seen_is asks;
          stepped = subst (λ (z : List (Entry A R S)). step (state_after st z) number ask reply after) seen_is steps;
          seen = ap (λ (z : Me (Option (Resting A R S)) (Front A R S)). z.0.seen) last ∙ ap (λ (z : List (Entry A R S)). z ++ e ∷ []) seen_is;
          mine = ap (λ (z : Me (Option (Resting A R S)) (Front A R S)). z.0.mine) last ∙ ap (λ (z : Me (Option (Resting A R S)) (Front A R S)). z.0.mine ++ e ∷ []) s.after;
          ended = ap (λ (z : Me (Option (Resting A R S)) (Front A R S)). z.0.ended) last ∙ ap (λ (z : Me (Option (Resting A R S)) (Front A R S)). z.0.ended) s.after;
          parts = ap (λ (z : Me (Option (Resting A R S)) (Front A R S)). z.0.parts) last ∙ ap (λ (z : Me (Option (Resting A R S)) (Front A R S)). z.0.parts) s.after;
        }

    -- the ticket of a call tells nothing of the call
    pub called_before : (stage : Stage) (v : Front A R S) (m : Me (Option (Resting A R S)) (Front A R S)) (w : Front A R S) (st : S) (ask : A) (reply : R) → m ≡ (front_at stage v, []) → IsCalled step may st m.0 ask reply w → IsCalled step may st v ask reply w
    called_before stage v m w st ask reply is called =
        let k : IsCalled step may st (front_at stage v) ask reply w = subst (λ (z : Me (Option (Resting A R S)) (Front A R S)). IsCalled step may st z.0 ask reply w) is called in
        record { between = k.between; after = k.after; caller = k.caller; number = k.number; allowed = k.allowed; stepped = k.stepped; seen = k.seen; mine = k.mine; ended = k.ended; parts = k.parts }

-- what a seat holds where it holds one slot
pub held_first : {X : Type 0} (held : List (ℕ × X)) (x : X) → held ≡ (0, x) ∷ [] → held ≡ (0, x) ∷ rest held
held_first {X} held x is = is ∙ ap (λ (z : List (ℕ × X)). (0, x) ∷ z) (sym (ap rest is))

-- and after it was exchanged
pub held_last : {X Y : Type 0} (before after : Me X Y) (x y : X) → before.1 ≡ (0, x) ∷ [] → after ≡ (before.0, (0, y) ∷ rest before.1) → after ≡ (before.0, (0, y) ∷ [])
held_last {X} {Y} before after x y is then = then ∙ ap (λ (z : List (ℕ × X)). (before.0, (0, y) ∷ z)) (ap rest is)

pub held_twice : {X Y : Type 0} (first second third : Me X Y) (x y z : X) → first.1 ≡ (0, x) ∷ [] → second ≡ (first.0, (0, y) ∷ rest first.1) → third ≡ (second.0, (0, z) ∷ rest second.1) → third ≡ (first.0, (0, z) ∷ [])
held_twice {X} {Y} first second third x y z is then last =
    let mid : second ≡ (first.0, (0, y) ∷ []) = held_last first second x y is then in
    held_last second third y z (ap (λ (m : Me X Y). m.1) mid) last ∙ ap (λ (m : Me X Y). (m.0, (0, z) ∷ [])) mid

abbrev first_held : {Y : Type 0} → List (ℕ × Option Y) → Option Y
first_held [] = None
first_held (z ∷ zs) = z.1

-- what was found in a slot is what the seat held
pub held_value : {Y : Type 0} (held : List (ℕ × Option Y)) (found : Option Y) (x y : Y) → held ≡ (0, Some x) ∷ [] → held ≡ (0, found) ∷ rest held → found ≡ Some y → y ≡ x
held_value {Y} held found x y is finds some_y =
    let same : found ≡ Some x = ap first_held (sym finds ∙ is) in
    ap (λ (z : Option Y). unwrap_or z x) (sym some_y ∙ same)

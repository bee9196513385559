-- Actors that call on one thread, each under a number of its own, make the same calls.
use Rattle.std.proofs.Common.{◌≡◌, ◌≢◌, ℕ, zero, suc, ◌<◌, List, [], ◌∷◌, ◌++◌, length, get_or, sym, refl, ◌∙◌, subst, arith}
use Rattle.std.specs.List.{All, Any}
use Rattle.std.proofs.lemmas.List.Elements.{All-nil, All-cons, All-head, All-tail}
use mathlib.Core.Logic.{dite}
use native.Mathlib.Decide.{ℕ_discrete}
use Rattle.turn_object.specs.declared.history.Entry.{Entry}
use Rattle.turn_object.specs.declared.history.Ended.{Ended}
use Rattle.turn_object.specs.Callers.{made_by, IsOwn}
use Rattle.turn_object.specs.Ended.{as_ended, AreApart}
use Rattle.turn_object.specs.Front.{KeepsIn}
use Rattle.mount_model.specs.Process.{Process}
use Rattle.mount_model.specs.MakesCalls.{one_history, callers, with_numbers, MakesCalls}
use Rattle.mount_model.specs.OneThread.{Differ, each_alone, PlayAlone}
use Rattle.mount_model.proofs.Stories.Parts.{entries_first, entries_not_first, at_first}

module _ {A R S : Type 0} where
  own_first : (n : ℕ) (h : List (Entry A R S)) (e : Entry A R S) (es : List (Entry A R S)) → made_by n h ≡ e ∷ es → e.caller ≡ n
  own_first n h e es is = (at_first n h e es is).own

  keeps_own : (n : ℕ) (h mine : List (Entry A R S)) → made_by n h ≡ mine → KeepsIn h mine
  keeps_own n h [] is = tt
  keeps_own n h (e ∷ es) is = subst (λ (m : ℕ). made_by m h ≡ e ∷ es) (sym (own_first n h e es is)) is

  keeps_all : (h : List (Entry A R S)) (ns : List ℕ) → All (KeepsIn h) (callers h (each_alone ns))
  keeps_all h [] = All-nil (KeepsIn h)
  keeps_all h (n ∷ ns) = All-cons (KeepsIn h) (made_by n h) (callers h (each_alone ns)) (keeps_own n h (made_by n h) refl) (keeps_all h ns)

  apart_one : (h : List (Entry A R S)) (n m : ℕ) (rest : List (Ended A R S)) → m ≢ n → (mine : List (Entry A R S)) → made_by m h ≡ mine → All (λ (g : Ended A R S). g.number ≢ n) rest → All (λ (g : Ended A R S). g.number ≢ n) (as_ended mine ++ rest)
  apart_one h n m rest ne [] is all = all
  apart_one h n m rest ne (e ∷ es) is all = All-cons (λ (g : Ended A R S). g.number ≢ n) (record { number = e.caller; entries = e ∷ es }) rest (λ same. ne (sym (own_first m h e es is) ∙ same)) all

  apart_two : (h : List (Entry A R S)) (n : ℕ) (rest : List (Ended A R S)) → All (λ (g : Ended A R S). g.number ≢ n) rest → AreApart rest → (mine : List (Entry A R S)) → made_by n h ≡ mine → AreApart (as_ended mine ++ rest)
  apart_two h n rest other apart [] is = apart
  apart_two h n rest other apart (e ∷ es) is = (subst (λ (m : ℕ). All (λ (g : Ended A R S). g.number ≢ m) rest) (sym (own_first n h e es is)) other, apart)

  apart_from : (h : List (Entry A R S)) (n : ℕ) (ns : List ℕ) → All (λ m. m ≢ n) ns → All (λ (g : Ended A R S). g.number ≢ n) (with_numbers (callers h (each_alone ns)))
  apart_from h n [] other = All-nil (λ (g : Ended A R S). g.number ≢ n)
  apart_from h n (m ∷ ns) other = apart_one h n m (with_numbers (callers h (each_alone ns))) (All-head (λ m. m ≢ n) m ns other) (made_by m h) refl (apart_from h n ns (All-tail (λ m. m ≢ n) m ns other))

  apart_all : (h : List (Entry A R S)) (ns : List ℕ) → Differ ns → AreApart (with_numbers (callers h (each_alone ns)))
  apart_all h [] differ = tt
  apart_all h (n ∷ ns) differ = apart_two h n (with_numbers (callers h (each_alone ns))) (apart_from h n ns differ.0) (apart_all h ns differ.1) (made_by n h) refl

  -- whoever calls is among its own entries
  owns : (h : List (Entry A R S)) (k : ℕ) (d : Entry A R S) → k < length h → IsOwn (made_by (get_or h k d).caller h) (get_or h k d).caller
  owns [] k d lt = absurd (omega arith)
  owns (x ∷ h) zero d lt = subst (λ (z : List (Entry A R S)). IsOwn z x.caller) (sym (entries_first x.caller x h refl)) refl
  owns (x ∷ h) (suc k) d lt =
      let e : Entry A R S = get_or h k d in
      dite (ℕ_discrete x.caller e.caller)
      (λ same. subst (λ (z : List (Entry A R S)). IsOwn z e.caller) (sym (entries_first e.caller x h same)) same)
      (λ other. subst (λ (z : List (Entry A R S)). IsOwn z e.caller) (sym (entries_not_first e.caller x h other)) (owns h k d (omega arith)))

  any_of : (h : List (Entry A R S)) (c : ℕ) (ns : List ℕ) → IsOwn (made_by c h) c → Any (λ n. n ≡ c) ns → Any (λ (mine : List (Entry A R S)). IsOwn mine c) (callers h (each_alone ns))
  any_of h c ns own a = at ns a.0 a.1 a.2 (a.3 ∙ a.4)
    where
      at : (ns : List ℕ) (k : ℕ) (n : ℕ) → k < length ns → get_or ns k n ≡ c → Any (λ (mine : List (Entry A R S)). IsOwn mine c) (callers h (each_alone ns))
      at [] k n lt is = absurd (omega arith)
      at (m ∷ ns) zero n lt is = (0, made_by m h, omega arith, refl, subst (λ (z : ℕ). IsOwn (made_by z h) c) (sym is) own)
      at (m ∷ ns) (suc k) n lt is = let t = at ns k n (omega arith) is in (suc t.0, t.1, omega (arith, t.2), t.3, t.4)

  -- Actors on one thread, each of which plays its process under its number, make the calls of these actors and no others.
  pub made_alone : {X L : Type 0} (ps : List (Process A R X L)) (ns : List ℕ) (blocks : List (List (Entry A R S))) (lines : List (List L)) → PlayAlone ps ns blocks lines → MakesCalls ps (one_history blocks) lines
  made_alone ps ns blocks lines p = record {
    blocks = blocks;
    roles = each_alone ns;
    in_phases = refl;
    plays = p.plays;
    whole = keeps_all (one_history blocks) ns;
    apart = apart_all (one_history blocks) ns p.apart;
    nobody_else = λ k d lt. any_of (one_history blocks) (get_or (one_history blocks) k d).caller ns (owns (one_history blocks) k d lt) (p.nobody_else k d lt);
  }

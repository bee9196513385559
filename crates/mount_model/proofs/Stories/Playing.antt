-- What is played in a part of a history.
use Rattle.std.proofs.Common.{◌≡◌, ℕ, inl, inr, List, [], ◌∷◌, ◌++◌, sym, ap, ◌∙◌, subst, append_assoc}
use Rattle.turn_object.specs.declared.history.Entry.{Entry}
use Rattle.turn_object.specs.Callers.{made_by}
use Rattle.mount_model.specs.Program.{Program, done, ask}
use Rattle.mount_model.specs.Process.{Process, leads_to, ends, pauses, tells, asks, shares}
use Rattle.mount_model.specs.Calls.{AreCallsOf}
use Rattle.mount_model.specs.Moves.{Rests}
use Rattle.mount_model.specs.Plays.{Plays}
use Rattle.mount_model.proofs.Stories.Parts.{none_both, at_first}

module _ {A R S : Type 0} where
  -- who rests in a part rests in a longer one that begins with entries of others
  rests_after : {L : Type 0} (n : ℕ) (none more : List (Entry A R S)) (workers : List (List (Entry A R S))) (lines : List L) → made_by n none ≡ [] → Rests n more workers lines → Rests n (none ++ more) workers lines
  rests_after n none more workers lines is rests = record { calls = none_both n none more is rests.calls; no_workers = rests.no_workers; no_lines = rests.no_lines }

  -- what is played in a part is played in a longer one that begins with entries of others
  pub plays_after : {X L : Type 0} (n : ℕ) (p : Process A R X L) (none more : List (Entry A R S)) (workers : List (List (Entry A R S))) (lines : List L) (left : Process A R X L)
      → made_by n none ≡ [] → Plays n p more workers lines left → Plays n p (none ++ more) workers lines left
  plays_after n ends none more workers lines left is plays = (rests_after n none more workers lines is plays.0, plays.1)
  plays_after n (pauses p) none more workers lines left is plays = (rests_after n none more workers lines is plays.0, plays.1)
  plays_after n (tells line p) none more workers lines left is plays = (plays.0, plays.1, plays_after n p none more workers plays.0 left is plays.2)
  plays_after n (asks q k) none more workers lines left is m = record {
    before = none ++ m.before;
    call = m.call;
    after = m.after;
    all = ap (λ (z : List (Entry A R S)). none ++ z) m.all ∙ sym (append_assoc none m.before (m.call ∷ m.after));
    none_before = none_both n none m.before is m.none_before;
    own = m.own;
    asked = m.asked;
    goes_on = m.goes_on;
  }
  plays_after n (shares ps k alone) none more workers lines left is (inl w) = inl (record {
    before = none ++ w.before;
    during = w.during;
    after = w.after;
    these = w.these;
    later = w.later;
    results = w.results;
    all = ap (λ (z : List (Entry A R S)). none ++ z) w.all ∙ sym (append_assoc none w.before (w.during ++ w.after));
    none_before = none_both n none w.before is w.none_before;
    none_during = w.none_during;
    made = w.made;
    whole = w.whole;
    are = w.are;
    goes_on = w.goes_on;
  })
  plays_after n (shares ps k alone) none more workers lines left is (inr plays) = inr (plays_after n alone none more workers lines left is plays)

  -- a caller whose entries in a part are the calls of a program plays the program in it
  pub plays_made : {X L Y : Type 0} (n : ℕ) (p : Program A R Y) (next : Y → Process A R X L) (part calls : List (Entry A R S)) (result : Y) (more : List (Entry A R S)) (workers : List (List (Entry A R S))) (lines : List L) (left : Process A R X L)
      → made_by n part ≡ calls → AreCallsOf p calls result → Plays n (next result) more workers lines left → Plays n (leads_to p next) (part ++ more) workers lines left
  plays_made n (done y) next part calls result more workers lines left is made plays =
      plays_after n (next y) part more workers lines left (is ∙ made.0) (subst (λ z. Plays n (next z) more workers lines left) (sym made.1) plays)
  plays_made n (ask q k) next part [] result more workers lines left is made plays = absurd made
  plays_made n (ask q k) next part (e ∷ calls) result more workers lines left is made plays =
      let t = at_first n part e calls is in
      record {
        before = t.before;
        call = e;
        after = t.after ++ more;
        all = ap (λ (z : List (Entry A R S)). z ++ more) t.all ∙ append_assoc t.before (e ∷ t.after) more;
        none_before = t.none;
        own = t.own;
        asked = made.0;
        goes_on = plays_made n (k e.reply) next t.after calls result more workers lines left t.others made.1 plays;
      }

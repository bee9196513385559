-- One phase after the other.
use Rattle.std.proofs.Common.{◌≡◌, ℕ, List, [], ◌∷◌, ◌++◌, sym, refl, ap, ◌∙◌, subst, append_assoc}
use Rattle.std.proofs.lemmas.List.{append-nil}
use Rattle.turn_object.specs.declared.history.Entry.{Entry}
use Rattle.turn_object.specs.declared.history.Ended.{Ended}
use Rattle.turn_object.specs.declared.front.Front.{Front}
use Rattle.turn_object.specs.History.{StartsWith}
use Rattle.turn_object.specs.Callers.{made_by}
use Rattle.turn_object.specs.Front.{IsLegalFront}
use Rattle.mount_model.specs.Process.{Process, pauses}
use Rattle.mount_model.specs.Plays.{Plays, PlaysAll}
use Rattle.mount_model.specs.MakesCalls.{with_numbers}
use Rattle.mount_model.specs.Safe.{PassSafeProcess}
use Rattle.mount_model.specs.Going.{IsNumberOf, HasGone}
use Rattle.mount_model.specs.Players.{player, HasPlayed}
use Rattle.mount_model.proofs.Stories.Going.{safe_sees}
use Rattle.mount_model.proofs.Stories.Numbers.{none_since, numbers-append}

module _ {A R S : Type 0} where
  -- one phase more
  pub plays_more : {X L : Type 0} (n : ℕ) (p q mid : Process A R X L) (blocks : List (List (Entry A R S))) (block : List (Entry A R S)) (workers now : List (List (Entry A R S))) (lines told : List L)
      → PlaysAll n p blocks workers lines q → Plays n q block now told mid → PlaysAll n p (blocks ++ block ∷ []) (workers ++ now) (lines ++ told) mid
  plays_more {X} {L} n p q mid [] block workers now lines told all plays =
      let P : (List (List (Entry A R S)) × List L) × Process A R X L → Type 0 = λ z. PlaysAll n z.1 (block ∷ []) (z.0.0 ++ now) (z.0.1 ++ told) mid in
      subst P (λ i. ((sym all.0 i, sym all.1 i), all.2 i)) (record {
        these = now;
        later = [];
        told = told;
        more = [];
        left = mid;
        are = sym (append-nil now);
        lines_are = sym (append-nil told);
        plays = plays;
        goes_on = (refl, refl, refl);
      })
  plays_more n p q mid (b ∷ blocks) block workers now lines told all plays =
      record {
        these = all.these;
        later = all.later ++ now;
        told = all.told;
        more = all.more ++ told;
        left = all.left;
        are = ap (λ (z : List (List (Entry A R S))). z ++ now) all.are ∙ append_assoc all.these all.later now;
        lines_are = ap (λ z. z ++ told) all.lines_are ∙ append_assoc all.told all.more told;
        plays = all.plays;
        goes_on = plays_more n all.left q mid blocks block all.later now all.more told all.goes_on plays;
      }

  cancel_left : (xs ys zs : List (Entry A R S)) → xs ++ ys ≡ xs ++ zs → ys ≡ zs
  cancel_left [] ys zs e = e
  cancel_left (x ∷ xs) ys zs e = let r : xs ++ ys ≡ xs ++ zs = cc in cancel_left xs ys zs r

  module _ (step : S → ℕ → A → R → S → Type 0) (may : S → ℕ → A → Type 0) (start : S) where
    -- a pass that has done nothing yet
    pub played_none : {X L : Type 0} (process : Process A R X L) (v : Front A R S) → IsLegalFront step may start v → v.seen ≡ [] → v.mine ≡ [] → v.ended ≡ [] → PassSafeProcess step may start v process → HasPlayed step may start [] [] (player process v process [])
    played_none process v known seen mine ended safe = record {
      known = known;
      behind = ([], sym seen ∙ sym (append-nil v.seen));
      workers = [];
      ended = ended;
      plays = λ n is. (refl, refl, refl);
      safe = safe;
    }

    -- a pass that only sees more
    pub played_sees : {X L : Type 0} (process left : Process A R X L) (lines : List L) (v w : Front A R S) (history : List (Entry A R S)) (blocks : List (List (Entry A R S)))
        → HasPlayed step may start history blocks (player process v left lines) → StartsWith w.seen v.seen → StartsWith history w.seen → w.mine ≡ v.mine → w.ended ≡ v.ended → IsLegalFront step may start w
        → HasPlayed step may start history blocks (player process w left lines)
    played_sees process left lines v w history blocks f more behind mine ended known = record {
      known = known;
      behind = behind;
      workers = f.workers;
      ended = ended ∙ f.ended;
      plays = λ n is. f.plays n (subst (λ (z : List (Entry A R S)). IsNumberOf n history z) mine is);
      safe = safe_sees step may start v w left more mine f.known.own known f.safe;
    }

    -- a pass that went through a phase, once all know what was called in it
    pub played_phase : {X L : Type 0} (process left next : Process A R X L) (lines told : List L) (v w : Front A R S) (history block : List (Entry A R S)) (blocks : List (List (Entry A R S)))
        → HasPlayed step may start history blocks (player process v left lines) → v.seen ≡ history → HasGone v left w (pauses next) told → IsLegalFront step may start w → PassSafeProcess step may start w next
        → StartsWith (history ++ block) w.seen → HasPlayed step may start (history ++ block) (blocks ++ block ∷ []) (player process w next (lines ++ told))
    played_phase {X} {L} process left next lines told v w history block blocks f level went known safe behind = record {
      known = known;
      behind = behind;
      workers = f.workers ++ went.workers;
      ended = went.ended ∙ (ap (λ (z : List (Ended A R S)). z ++ with_numbers went.workers) f.ended ∙ sym (numbers-append f.workers went.workers));
      plays = λ n is.
          let rest : List (Entry A R S) = behind.0 in
          let t = none_since n w.seen rest w.mine known.own is.0 (ap (made_by n) (sym behind.1) ∙ is.1) in
          let here : IsNumberOf n w.seen w.mine = (is.0, t.0) in
          let before : IsNumberOf n history v.mine = subst (λ (z : List (Entry A R S)). IsNumberOf n z v.mine) level (went.number n here) in
          let whole : history ++ block ≡ history ++ (went.part ++ rest) =
          behind.1 ∙ (ap (λ (z : List (Entry A R S)). z ++ rest) (went.seen ∙ ap (λ (z : List (Entry A R S)). z ++ went.part) level) ∙ append_assoc history went.part rest) in
          let is_block : block ≡ went.part ++ rest = cancel_left history block (went.part ++ rest) whole in
          let plays = went.plays n here rest [] [] next (record { calls = t.1; no_workers = refl; no_lines = refl }, refl) in
          let P : (List (Entry A R S) × List (List (Entry A R S))) × List L → Type 0 = λ z. Plays n left z.0.0 z.0.1 z.1 next in
          plays_more n process left next blocks block f.workers went.workers lines told (f.plays n before)
          (subst P (λ i. ((sym is_block i, append-nil went.workers i), append-nil told i)) plays);
      safe = safe;
    }

-- Each player is given its own statements.
use Rattle.std.proofs.Common.{◌≡◌, ℕ, ◌+◌, List, [], ◌∷◌, ◌++◌, length, Some, true, refl, sym, ap, ◌∙◌, subst, append_assoc, append-nil, take, arith}
use Rattle.std.specs.Prelude.{slice_get, All, ◌==◌, cond, false}
use Rattle.std.proofs.lemmas.List.{length-set}
use Rattle.std.proofs.lemmas.List.Elements.{All-nil, All-cons, All-head, All-tail, filter-append}
use Rattle.mount_model.specs.State.{State}
use Rattle.script_lang.specs.declared.script.Numbered.{Numbered}
use Rattle.script_lang.specs.declared.script.Phase.{Phase}
use Rattle.script_lang.specs.Ranges.{FitsNumbered}
use Rattle.mount_model.specs.Process.{pauses}
use Rattle.mount_model.specs.Performers.{performer, paused}
use Rattle.actor_core.specs.declared.kept.Kept.{Kept}
use Rattle.actor_core.specs.Progress.{Progress, idle, going, asked, handed, told}
use Rattle.actor_core.specs.Standings.{progress_of}
use Rattle.run_core.specs.declared.player.Player.{Player}
use Rattle.run_core.specs.Course.{Course, one_by_one, own, through}
use Rattle.run_core.specs.Players.{course_at, course_left, playing, resting, IsSafeProgress, IsMade, in_progress, lines_left, Stands, waiting_in}
use Rattle.run_core.specs.World.{AllStand, At, IsDealt, Dealt}
use Rattle.run_core.proofs.Players.Fitness.{idle_fit}
use Rattle.run_core.proofs.Plays.Tables.{at_all, own_yes, own_no}

-- ---- one statement more

pub dealt_none : (players : List Player) → Dealt [] players players
dealt_none players = record {
  each = λ place player here. (player, here, record { queue = sym (append-nil (waiting_in player)); number = refl; progress = refl; ahead = refl });
  long = refl;
}

pub own_both : (n : ℕ) (first rest : List Numbered) → own n (first ++ rest) ≡ own n first ++ own n rest
own_both n first rest = filter-append (λ (s : Numbered). s.actor == n) first rest

dealt_then : (a b c : List Numbered) (old mid new : Player) → c ≡ a ++ b → IsDealt a old mid → IsDealt b mid new → IsDealt c old new
dealt_then a b c old mid new is x y = record {
  queue = y.queue ∙ (ap (λ z. z ++ b) x.queue ∙ (append_assoc (waiting_in old) a b ∙ ap (λ z. waiting_in old ++ z) (sym is)));
  number = y.number ∙ x.number;
  progress = y.progress ∙ x.progress;
  ahead = y.ahead ∙ x.ahead;
}

dealt_same : (a c : List Numbered) (old new : Player) → c ≡ a → IsDealt a old new → IsDealt c old new
dealt_same a c old new is x = subst (λ z. IsDealt z old new) (sym is) x

pub dealt_more : (statements : List Numbered) (i : ℕ) (s : Numbered) (old mid new : List Player) → take (i + 1) statements ≡ take i statements ++ s ∷ [] → Dealt (take i statements) old mid → At s.actor mid (λ before after. IsDealt (s ∷ []) before after) new
    → Dealt (take (i + 1) statements) old new
dealt_more statements i s old mid new taken d at =
    let first = take i statements in
    let all = take (i + 1) statements in
    let D : ℕ → Player → Type 0 = λ j p. (q : Player) × (slice_get old j ≡ Some q) × IsDealt (own j all) q p in
    let split : (j : ℕ) → own j all ≡ own j first ++ own j (s ∷ []) = λ j. ap (own j) taken ∙ own_both j first (s ∷ []) in
    let b = d.each s.actor at.before at.here in
    record {
      each = at_all D mid new s.actor at.after at.new_is
          (b.0, b.1, dealt_then (own s.actor first) (s ∷ []) (own s.actor all) b.0 at.before at.after (split s.actor ∙ ap (λ z. own s.actor first ++ z) (own_yes s.actor s [] refl)) b.2 at.does)
          (λ j p other here.
          let q = d.each j p here in
          let same : own j all ≡ own j first = split j ∙ (ap (λ z. own j first ++ z) (own_no j s [] (λ is. other (sym is))) ∙ append-nil (own j first)) in
          (q.0, q.1, dealt_same (own j first) (own j all) q.0 p same q.2));
      long = (ap length at.new_is ∙ length-set mid s.actor at.after) ∙ d.long;
    }

-- ---- players between phases

-- nothing is left of a phase
pub record Rests (player : Player) : Type 0 where
  pub kept : Kept
  pub progress : progress_of player.actor ≡ idle kept
  pub queue : waiting_in player ≡ []
  pub ahead : player.ahead.items ≡ []

no_items : {X : Type 0} (xs : List X) → length xs ≡ 0 → xs ≡ []
no_items [] is = refl
no_items (x ∷ xs) is = absurd (omega (arith, is))

kept_in : (me : ℕ) (now : State) (progress : Progress) → IsSafeProgress me progress now → in_progress progress ≡ 0 → (kept : Kept) × (progress ≡ idle kept)
kept_in me now (idle kept) safe none = (kept, refl)
kept_in me now (going number work) safe none = absurd (omega (arith, none))
kept_in me now (asked number k) safe none = absurd safe
kept_in me now (handed number k) safe none = absurd safe
kept_in me now (told line kept) safe none = absurd (omega (arith, none))

pub rests_of : (place : ℕ) (player : Player) (now : State) → Stands [] place player now → Rests player
rests_of place player now stands =
    let left : lines_left player ≡ 0 = stands.left in
    let none : in_progress (progress_of player.actor) ≡ 0 = omega (arith, left) in
    let kept = kept_in player.number now (progress_of player.actor) stands.fit.safe none in
    record {
      kept = kept.0;
      progress = kept.1;
      queue = no_items (waiting_in player) (omega (arith, left));
      ahead = no_items player.ahead.items (omega (arith, left));
    }

made_all : (count n : ℕ) (statements : List Numbered) → All (FitsNumbered count) statements → All IsMade (own n statements)
made_all count n [] fits = All-nil IsMade
made_all count n (s ∷ ss) fits =
    let first : IsMade s = (All-head (FitsNumbered count) s ss fits).1 in
    let rest = made_all count n ss (All-tail (FitsNumbered count) s ss fits) in
    elim (s.actor == n) as (λ b. All IsMade (cond b (s ∷ own n ss) (own n ss))) [
      | true ↦ All-cons IsMade s (own n ss) first rest
      | false ↦ rest
    ]

-- a player that was given its statements stands at the beginning of the phase
pub dealt_stands : (count place : ℕ) (statements : List Numbered) (old new : Player) (now : State) → All (FitsNumbered count) statements
    → Stands [] place old now → IsDealt (own place statements) old new → Stands statements place new now
dealt_stands count place statements old new now fits stands d =
    let r = rests_of place old now stands in
    let queue : waiting_in new ≡ own place statements = d.queue ∙ ap (λ z. z ++ own place statements) r.queue in
    let progress : progress_of new.actor ≡ idle r.kept = d.progress ∙ r.progress in
    let ahead : length new.ahead.items ≡ 0 = ap length (d.ahead ∙ r.ahead) in
    let busy : in_progress (progress_of new.actor) ≡ 0 = ap in_progress progress in
    let many : length (waiting_in new) ≡ length (own place statements) = ap length queue in
    record {
      number = d.number ∙ stands.number;
      fit = idle_fit new now r.kept progress (subst (λ (z : List Numbered). All IsMade z) (sym queue) (made_all count place statements fits)) stands.fit.fine;
      left = omega (arith, ahead, busy, many);
    }

pub all_dealt : (count : ℕ) (statements : List Numbered) (old new : List Player) (now : State) → All (FitsNumbered count) statements → AllStand [] old now → Dealt statements old new → AllStand statements new now
all_dealt count statements old new now fits stand d = λ place player here.
    let b = d.each place player here in
    dealt_stands count place statements b.0 player now fits (stand place b.0 b.1) b.2

-- what it has to do is what it had to do before, with the phase in front
pub dealt_course : (place : ℕ) (phase : Phase) (later : List Phase) (old new : Player) (now : State) → Stands [] place old now → IsDealt (own place phase.statements) old new → resting (phase ∷ later) old ≡ playing later new
dealt_course place phase later old new now stands d =
    let r = rests_of place old now stands in
    let next : ℕ → Kept → Course = λ n kept. pauses (through n later kept) in
    let before : course_at (progress_of old.actor) (waiting_in old) (through old.number (phase ∷ later)) ≡ one_by_one (own old.number phase.statements) (next old.number) r.kept =
    (let C : Progress × List Numbered → Course = λ z. course_at z.0 z.1 (through old.number (phase ∷ later)) in ap C (λ i. (r.progress i, r.queue i))) in
    let own_place : own place phase.statements ≡ own old.number phase.statements = ap (λ n. own n phase.statements) (sym stands.number) in
    let queue : waiting_in new ≡ own old.number phase.statements = (d.queue ∙ ap (λ z. z ++ own place phase.statements) r.queue) ∙ own_place in
    let after : course_at (progress_of new.actor) (waiting_in new) (next new.number) ≡ one_by_one (own old.number phase.statements) (next old.number) r.kept =
    (let C : Progress × List Numbered × ℕ → Course = λ z. course_at z.0 z.1 (next z.2) in ap C (λ i. ((d.progress ∙ r.progress) i, queue i, d.number i))) in
    let left : course_at (progress_of old.actor) (waiting_in old) (through old.number (phase ∷ later)) ≡ course_left new (through new.number later) = before ∙ sym after in
    (λ i. performer (sym d.number i) (left i) (sym d.ahead i))

-- at the end of a phase it waits for the next one
pub waits : (place : ℕ) (later : List Phase) (player : Player) (now : State) → Stands [] place player now → playing later player ≡ paused (resting later player)
waits place later player now stands =
    let r = rests_of place player now stands in
    let C : (Kept → Course) → Progress × List Numbered → Course = λ next z. course_at z.0 z.1 next in
    let with_pause : course_left player (through player.number later) ≡ pauses (through player.number later r.kept) = ap (C (λ kept. pauses (through player.number later kept))) (λ i. (r.progress i, r.queue i)) in
    let without : course_at (progress_of player.actor) (waiting_in player) (through player.number later) ≡ through player.number later r.kept = ap (C (through player.number later)) (λ i. (r.progress i, r.queue i)) in
    (λ i. performer player.number ((with_pause ∙ ap (λ z. pauses z) (sym without)) i) (r.ahead i))

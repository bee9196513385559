-- An id is entered once: two callers that entered a container as one writer did so by one call.
use Rattle.std.proofs.Common.{◌≡◌, ◌<◌, ◌+◌, inl, inr, ℕ, List, [], ◌∷◌, ◌++◌, sym, ap, ◌∙◌, subst, arith}
use Rattle.std.specs.Prelude.{Ok, Err}
use Rattle.store_api.specs.declared.step.Answer.TheVariants.{Made}
use Rattle.store_api.specs.declared.store.Trouble.TheVariants.{Fault, NoMemory}
use Rattle.mount_model.specs.declared.call.Ask.{Ask}
use Rattle.mount_model.specs.declared.call.Call.TheVariants.{Enter}
use Rattle.mount_model.specs.declared.reply.Reply.{Reply}
use Rattle.mount_model.specs.declared.reply.Reply.TheVariants.{Entered, Refused}
use Rattle.mount_model.specs.declared.reply.Refusal.{Refusal}
use Rattle.mount_model.specs.declared.row.Row.{Row}
use Rattle.mount_model.specs.Entering.{EntersAs, draw_check, enter_outcome, entered, next_id}
use Rattle.mount_model.specs.History.{Event}
use Rattle.mount_model.specs.Making.{Refuses, Told}
use Rattle.mount_model.specs.State.{State, Table, last_id}
use Rattle.mount_model.specs.Step.{Answers, IsStep}
use Rattle.mount_model.proofs.Facts.{match_cases, step_place}
use Rattle.mount_sound.specs.Owed.{IsLawful}
use Rattle.mount_model.specs.Running.{unbroken}
use Rattle.reader_laws.specs.Moments.{Dropping}
use Rattle.writer_laws.proofs.Stops.{whole_answers}
use Rattle.headline_laws.proofs.Statements.Known.{HasEntered}

-- ---- the id of one that entered

entered_number : (row : Row) (table : Table) (told : Told) (w : ℕ) → (enter_outcome row table told).reply ≡ Entered w → row.id ≡ w
entered_number row table (Ok Made) w is = cc
entered_number row table (Err Fault) w is = absurd (cc)
entered_number row table (Err NoMemory) w is = absurd (cc)
entered_number row table told w is = absurd (cc)

not_refused : (why : Refusal) (w : ℕ) (rep : Reply) → rep ≡ Refused why → rep ≡ Entered w → ⊥
not_refused why w rep e f = cc

-- it is the next one, which was drawn then
pub record Draws (old new : State) (w : ℕ) : Type 0 where
  pub is_next : w ≡ next_id old
  pub drawn : new.serial ≡ old.serial + 1
  pub mount : new.mount ≡ old.mount

pub enter_draws : (n room host most w : ℕ) (old : State) (rep : Reply) (new : State) → rep ≡ Entered w → Answers old n (Enter room host most) rep new → Draws old new w
enter_draws n room host most w old rep new said a = elim (match_cases (draw_check old room) (EntersAs n room host most old rep new) (λ why. Refuses why old rep new) a) as (λ _. Draws old new w) [
  | inl (no_reason, f) ↦ record {
    is_next = sym (entered_number (entered old n room host most) old.table f.makes.told w (sym f.makes.answered ∙ said));
    drawn = ap (λ (s : State). s.serial) f.makes.after;
    mount = ap (λ (s : State). s.mount) f.makes.after;
  }
  | inr (why, some, refuses) ↦ absurd (not_refused why w rep refuses.0 said)
]

-- ---- along a history

pub same_answers : (old : State) (event : Event) (n room host most : ℕ) → IsStep old event.caller event.ask event.reply event.after → event.caller ≡ n → event.ask ≡ unbroken (Enter room host most) → Answers old n (Enter room host most) event.reply event.after
same_answers old event n room host most step own asked =
    subst (λ c. Answers old n c event.reply event.after) (ap (λ (a : Ask). a.call) asked) (subst (λ k. Answers old k event.ask.call event.reply event.after) own (whole_answers old event.caller event.ask event.reply event.after (ap (λ (a : Ask). a.stop) asked) step))

-- one that entered behind these events has an id above what was drawn before them
pub later_entered : (state : State) (first : List Event) (event : Event) (rest : List Event) (n room host most w : ℕ) → IsLawful state (first ++ event ∷ rest) → event.caller ≡ n → event.ask ≡ unbroken (Enter room host most) → event.reply ≡ Entered w → last_id state < w
later_entered state [] event rest n room host most w lawful own asked said =
    let d = enter_draws n room host most w state event.reply event.after said (same_answers state event n room host most lawful.1 own asked) in
    let next = d.is_next in
    omega (arith, next)
later_entered state (e ∷ first) event rest n room host most w lawful own asked said =
    let far = later_entered e.after first event rest n room host most w lawful.2 own asked said in
    let place = step_place state e.after e.caller e.ask e.reply lawful.1 in
    let mount = place.mount in
    let serial = place.serial in
    omega (arith, far, mount, serial)

heads : (a b : Event) (xs ys : List Event) → a ∷ xs ≡ b ∷ ys → a ≡ b
heads a b xs ys is = cc

tails : (a b : Event) (xs ys : List Event) → a ∷ xs ≡ b ∷ ys → xs ≡ ys
tails a b xs ys is = cc

-- behind one that entered none enters as the same writer
pub not_again : (state : State) (event : Event) (first rest : List Event) (other : Event) (n k room host most room2 host2 most2 w : ℕ) → IsLawful state (event ∷ (first ++ other ∷ rest)) → event.caller ≡ n → event.ask ≡ unbroken (Enter room host most) → event.reply ≡ Entered w → other.caller ≡ k → other.ask ≡ unbroken (Enter room2 host2 most2) → other.reply ≡ Entered w → ⊥
not_again state event first rest other n k room host most room2 host2 most2 w lawful own asked said own2 asked2 said2 =
    let d = enter_draws n room host most w state event.reply event.after said (same_answers state event n room host most lawful.1 own asked) in
    let far = later_entered event.after first other rest k room2 host2 most2 w lawful.2 own2 asked2 said2 in
    let next = d.is_next in
    let serial = d.drawn in
    let mount = d.mount in
    omega (arith, next, serial, mount, far)

one_event : (state : State) (a b : List Event) (e : Event) (c d : List Event) (f : Event) (n k room host most room2 host2 most2 w : ℕ) → IsLawful state (a ++ e ∷ b) → a ++ e ∷ b ≡ c ++ f ∷ d → e.caller ≡ n → e.ask ≡ unbroken (Enter room host most) → e.reply ≡ Entered w → f.caller ≡ k → f.ask ≡ unbroken (Enter room2 host2 most2) → f.reply ≡ Entered w → e ≡ f
one_event state [] b e [] d f n k room host most room2 host2 most2 w lawful is own asked said own2 asked2 said2 = heads e f b d is
one_event state [] b e (y ∷ c) d f n k room host most room2 host2 most2 w lawful is own asked said own2 asked2 said2 =
    let same : e ≡ y = heads e y b (c ++ f ∷ d) is in
    absurd (not_again state e c d f n k room host most room2 host2 most2 w (subst (λ es. IsLawful state (e ∷ es)) (tails e y b (c ++ f ∷ d) is) lawful) own asked said own2 asked2 said2)
one_event state (x ∷ a) b e [] d f n k room host most room2 host2 most2 w lawful is own asked said own2 asked2 said2 =
    absurd (not_again state f a b e k n room2 host2 most2 room host most w (subst (λ (z : Event). IsLawful state (z ∷ (a ++ e ∷ b))) (heads x f (a ++ e ∷ b) d is) lawful) own2 asked2 said2 own asked said)
one_event state (x ∷ a) b e (y ∷ c) d f n k room host most room2 host2 most2 w lawful is own asked said own2 asked2 said2 =
    one_event x.after a b e c d f n k room host most room2 host2 most2 w lawful.2 (tails x y (a ++ e ∷ b) (c ++ f ∷ d) is) own asked said own2 asked2 said2

-- ---- of two that entered as one writer

-- they are one caller, in one container and under one host
pub record AreOne (n k : ℕ) (d e : Dropping) : Type 0 where
  pub caller : n ≡ k
  pub room : d.room ≡ e.room
  pub host : d.host ≡ e.host

pub entered_once : (state : State) (history : List Event) (n k : ℕ) (d e : Dropping) → IsLawful state history → HasEntered n history d → HasEntered k history e → d.writer ≡ e.writer → AreOne n k d e
entered_once state history n k d e lawful one other same =
    let event : one.event ≡ other.event =
    one_event state one.first one.later one.event other.first other.later other.event n k d.room d.host one.most e.room e.host other.most d.writer (subst (IsLawful state) one.all lawful) (sym one.all ∙ other.all) one.own one.asked one.entered other.own other.asked (other.entered ∙ ap (λ w. Entered w) (sym same)) in
    let asks : unbroken (Enter d.room d.host one.most) ≡ unbroken (Enter e.room e.host other.most) = sym one.asked ∙ ap (λ (x : Event). x.ask) event ∙ other.asked in
    let calls : Enter d.room d.host one.most ≡ Enter e.room e.host other.most = ap (λ (a : Ask). a.call) asks in
    record {
      caller = sym one.own ∙ ap (λ (x : Event). x.caller) event ∙ other.own;
      room = cc;
      host = cc;
    }

-- an id that was entered is above all that had been drawn before
pub entered_new : (state : State) (history : List Event) (n : ℕ) (d : Dropping) → IsLawful state history → HasEntered n history d → last_id state < d.writer
entered_new state history n d lawful h = later_entered state h.first h.event h.later n d.room d.host h.most d.writer (subst (IsLawful state) h.all lawful) h.own h.asked h.entered

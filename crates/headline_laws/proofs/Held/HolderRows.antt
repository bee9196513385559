-- Who holds a container has held it since a call that was granted.
use Rattle.std.proofs.Common.{◌≡◌, ◌⊎◌, ◌<◌, inl, inr, ℕ, true, false, nat_eq, List, [], ◌∷◌, ◌++◌, map, Some, None, Ok, refl, sym, ap, ◌∙◌, subst, arith, if◌then◌else◌, ◌||◌}
use Rattle.std.proofs.lemmas.Bool.Decides.{nat_tests}
use Rattle.store_api.specs.declared.step.Answer.TheVariants.{Made, NoFolder, NotEmpty}
use Rattle.mount_model.specs.declared.call.Call.TheVariants.{Hold}
use Rattle.mount_model.specs.declared.reply.Reply.TheVariants as reply
use Rattle.mount_model.specs.declared.row.Holder.{Holder}
use Rattle.mount_model.specs.Entering.{draw_check}
use Rattle.mount_model.specs.History.{Event}
use Rattle.mount_model.specs.Holding.{HoldOutcome, HoldsRoom, holding}
use Rattle.mount_model.specs.Making.{Refuses, Told}
use Rattle.mount_model.specs.Regular.{Ascend}
use Rattle.mount_model.specs.State.{State, Table}
use Rattle.mount_model.specs.Step.{Answers, IsStep}
use Rattle.mount_model.specs.Stopping.{begun, without_caller}
use Rattle.mount_model.specs.Table.{holder_at, is_held_room}
use Rattle.mount_model.proofs.Facts.{all-unmap, begun_table, held_before-ended, held_before-push, holder_at_all, match_cases, step_cases}
use Rattle.mount_sound.specs.Owed.{IsLawful}
use Rattle.reader_laws.specs.Moments.{IsSoundAt, Moment, moment_after, next_moment}
use Rattle.reader_laws.proofs.Gathered.Moments.Stepping.{sound_next}
use Rattle.headline_laws.proofs.Makers.Holding.{ended_table, held_before}
use Rattle.headline_laws.proofs.Makers.Holds.{hold_or}

-- ---- a row of a room

pub held_row : (room : ℕ) (holders : List Holder) → Ascend (map (λ (h : Holder). h.number) holders) → is_held_room room holders ≡ true → (h : Holder) × (holder_at h.number holders ≡ Some h) × (h.room ≡ room)
held_row room [] up is = absurd (cc)
held_row room (x ∷ holders) up is = elim (nat_eq x.room room) as (λ b. nat_eq x.room room ≡ b → (b || is_held_room room holders) ≡ true → (h : Holder) × (holder_at h.number (x ∷ holders) ≡ Some h) × (h.room ≡ room)) [
  | true ↦ λ here some. (let itself : nat_eq x.number x.number ≡ true = grind (arith, nat_tests) in let same : x.room ≡ room = grind (arith, nat_tests) in (x, ap (λ b. if b then Some x else holder_at x.number holders) itself, same))
  | false ↦ λ other some.
      let (h, found, there) = held_row room holders up.1 some in
      let less : x.number < h.number = holder_at_all (λ (y : Holder). x.number < y.number) h.number holders h (all-unmap (λ later. x.number < later) (λ (y : Holder). y.number) holders up.0) found in
      let past : nat_eq x.number h.number ≡ false = grind (arith, nat_tests) in
      (h, ap (λ b. if b then Some x else holder_at h.number holders) past ∙ found, there)
] refl is

-- ---- one call

-- the call was granted
pub record IsGranted (q : ℕ) (h : Holder) (e : Event) : Type 0 where
  pub own : e.caller ≡ h.owner
  pub asked : e.ask.call ≡ Hold h.room
  pub whole : e.ask.stop ≡ None
  pub told : e.reply ≡ reply.Holding q

module _ (m : Moment) (s : IsSoundAt m) (e : Event) (step : IsStep m.state e.caller e.ask e.reply e.after) (q : ℕ) (h : Holder) (now : holder_at q e.after.table.holders ≡ Some h) where
  abbrev Before : Type 0
  Before = holder_at q m.state.table.holders ≡ Some h

  by_table : e.after.table ≡ m.state.table → Before
  by_table same = ap (λ (t : Table). holder_at q t.holders) (sym same) ∙ now

  outcome_so : (room : ℕ) → e.ask.call ≡ Hold room → e.ask.stop ≡ None → (told : Told) → HoldOutcome (holding m.state e.caller room) m.state.table told e.reply e.after.table → Before ⊎ IsGranted q h e
  outcome_so room asked whole (Ok Made) o =
      elim (held_before-push m.state.table.holders (holding m.state e.caller room) q h (ap (λ (t : Table). holder_at q t.holders) (sym o.1) ∙ now)) as (λ _. Before ⊎ IsGranted q h e) [
        | inl old ↦ inl old
        | inr (number, new) ↦ inr (record { own = ap (λ (x : Holder). x.owner) (sym new); asked = asked ∙ ap (λ (x : Holder). Hold x.room) (sym new); whole = whole; told = o.0 ∙ ap (λ k. reply.Holding k) (sym number) })
      ]
  outcome_so room asked whole (Ok NoFolder) o = inl (by_table o.1)
  outcome_so room asked whole (Ok (NotEmpty least)) o = inl (by_table o.1)
  outcome_so room asked whole told o = inl (by_table o.1)

  step_row : Before ⊎ IsGranted q h e
  step_row = elim (hold_or e.ask.call) as (λ _. Before ⊎ IsGranted q h e) [
    | inr none ↦ inl (held_before m.state e.after e.caller e.ask e.reply q h s.regular step none now)
    | inl (room, asked) ↦ step_cases m.state e.caller e.ask e.reply e.after (Before ⊎ IsGranted q h e) step
        (λ whole a. elim (match_cases (draw_check m.state room) (HoldsRoom e.caller room m.state e.reply e.after) (λ why. Refuses why m.state e.reply e.after) (subst (λ c. Answers m.state e.caller c e.reply e.after) asked a)) as (λ _. Before ⊎ IsGranted q h e) [
          | inr (why, some, refused) ↦ inl (by_table (ap (λ (x : State). x.table) refused.1))
          | inl (none, does) ↦ outcome_so room asked whole does.told does.outcome
        ])
        (λ k some x.
        let same : (begun m.state e.ask.call).table ≡ m.state.table = begun_table m.state e.ask.call in
        elim (ended_table x.told e.reply _ e.caller e.after x.after) as (λ _. Before ⊎ IsGranted q h e) [
          | inl stays ↦ inl (by_table (stays ∙ same))
          | inr out ↦ inl (held_before-ended e.caller m.state.table.holders q h s.regular.holders.ascending (subst (λ (t : Table). holder_at q t.holders ≡ Some h) (out ∙ ap (without_caller e.caller) same) now)).0
        ])
  ]

-- ---- in a history

-- it holds at each moment of these events
abbrev pub StaysHeld : Moment → List Event → ℕ → Holder → Type 0
StaysHeld m events q h = (first rest : List Event) → events ≡ first ++ rest → holder_at q (moment_after m first).state.table.holders ≡ Some h

-- a call was granted, and it has held since
pub record HeldBy (m : Moment) (events : List Event) (q : ℕ) (h : Holder) : Type 0 where
  pub pre : List Event
  pub event : Event
  pub post : List Event
  pub is : events ≡ pre ++ event ∷ post
  pub granted : IsGranted q h event
  pub since : StaysHeld (next_moment (moment_after m pre) event) post q h

event_same : (a b : Event) (xs ys : List Event) → a ∷ xs ≡ b ∷ ys → (a ≡ b) × (xs ≡ ys)
event_same a b xs ys same = (cc, cc)

pub held_since : (m : Moment) (events : List Event) → IsSoundAt m → IsLawful m.state events → (q : ℕ) (h : Holder) → holder_at q (moment_after m events).state.table.holders ≡ Some h → StaysHeld m events q h ⊎ HeldBy m events q h
held_since m [] s lawful q h now = inl none
  where
    none : StaysHeld m [] q h
    none [] rest is = now
    none (x ∷ first) rest is = absurd (cc)
held_since m (e ∷ events) s lawful q h now = elim (held_since (next_moment m e) events (sound_next m e events lawful s) lawful.2 q h now) as (λ _. StaysHeld m (e ∷ events) q h ⊎ HeldBy m (e ∷ events) q h) [
  | inr b ↦ inr (record { pre = e ∷ b.pre; event = b.event; post = b.post; is = ap (λ z. e ∷ z) b.is; granted = b.granted; since = b.since })
  | inl all ↦ elim (step_row m s e lawful.1 q h (all [] events refl)) as (λ _. StaysHeld m (e ∷ events) q h ⊎ HeldBy m (e ∷ events) q h) [
    | inl before ↦ inl (also before all)
    | inr granted ↦ inr (record { pre = []; event = e; post = events; is = refl; granted = granted; since = all })
  ]
]
  where
    also : holder_at q m.state.table.holders ≡ Some h → StaysHeld (next_moment m e) events q h → StaysHeld m (e ∷ events) q h
    also before all [] rest is = before
    also before all (x ∷ first) rest is =
        let same = event_same e x events (first ++ rest) is in
        subst (λ (y : Event). holder_at q (moment_after (next_moment m y) first).state.table.holders ≡ Some h) same.0 (all first rest same.1)

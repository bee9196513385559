-- Nothing more of a writer lands once it is no longer live, so that what was told of it stays true.
use Rattle.std.proofs.Common.{◌≡◌, ◌≤◌, inl, inr, ℕ, true, false, List, [], ◌∷◌, length, nat_eq, Option, Some, None, refl, ap, ◌∙◌, subst, arith}
use Rattle.std.specs.Prelude.{if◌then◌else◌, ◌&&◌}
use Rattle.mount_model.specs.declared.call.Ask.{Ask}
use Rattle.mount_model.specs.declared.call.Call.TheVariants.{Flush}
use Rattle.mount_model.specs.declared.reply.Reply.{Reply}
use Rattle.mount_model.specs.declared.row.Row.{Row}
use Rattle.mount_model.specs.declared.row.Stage.{Stage}
use Rattle.mount_model.specs.declared.row.Stage.TheVariants as stage
use Rattle.mount_model.specs.Acting.{flush_act}
use Rattle.mount_model.specs.Flushing.{FlushesRow}
use Rattle.mount_model.specs.History.{Event}
use Rattle.mount_model.specs.State.{State, last_id}
use Rattle.mount_model.specs.Step.{Answers, IsStep}
use Rattle.mount_model.specs.Stopping.{part_made}
use Rattle.mount_model.specs.Table.{held_by, is_live, only, row_of, writer_of}
use Rattle.mount_model.proofs.Facts.{on_writer, step_cases}
use Rattle.mount_sound.specs.Owed.{IsLawful, IsNotLive}
use Rattle.mount_sound.proofs.Facts.{not_live_later}
use Rattle.reader_laws.specs.Moments.{Dropping, IsNamed, IsSoundAt, Moment, landed, moment_after, next_moment}
use Rattle.reader_laws.proofs.Gathered.Moments.Stepping.{lands_none_next, sound_next}
use Rattle.headline_laws.proofs.Landed.Leaving.{drawn_next}
use Rattle.headline.specs.Writers.{Account}
use Rattle.headline_laws.proofs.Landed.Sparing.{either_spares, ended_store, none_made, part_store, same_landed}

pub only_live : (s : Stage) → only stage.Open s ≡ true → is_live s ≡ false → ⊥
only_live stage.Entered e f = cc
only_live stage.Floored e f = cc
only_live stage.Housed e f = cc
only_live stage.Indexed e f = cc
only_live stage.Open e f = cc
only_live stage.Closing e f = cc
only_live stage.Dead e f = cc

none_open : (caller : ℕ) (o : Option Row) → ((row : Row) → o ≡ Some row → is_live row.stage ≡ false) → held_by caller (only stage.Open) o ≡ None
none_open caller None dead = refl
none_open caller (Some row) dead =
    elim (only stage.Open row.stage) as (λ b. only stage.Open row.stage ≡ b → (if nat_eq row.owner caller && b then Some row else None) ≡ None) [
      | true ↦ λ e. absurd (only_live row.stage e (dead row refl))
      | false ↦ λ e. elim (nat_eq row.owner caller) as (λ c. (if c && false then Some row else None) ≡ None) [ true ↦ refl | false ↦ refl ]
    ] refl

-- whoever flushes it makes nothing
dead_flush : (w : ℕ) (old new : State) (caller : ℕ) (ask : Ask) (reply : Reply) → IsNotLive old w → ask.call ≡ Flush w → IsStep old caller ask reply new → new.store ≡ old.store
dead_flush w old new caller ask reply dead is step =
    step_cases old caller ask reply new (new.store ≡ old.store) step
    (λ none a.
    on_writer caller (only stage.Open) w old reply new (λ r. FlushesRow r r.pending.entries old reply new) (new.store ≡ old.store) (subst (λ c. Answers old caller c reply new) is a)
    (λ same. ap (λ (s : State). s.store) same)
    (λ r h f. absurd (only_live r.stage h.staged (dead r h.found))))
    (λ k some x.
    let none : part_made k x.time old caller (Flush w) ≡ None = none_made k (writer_of caller (only stage.Open) w old.table.writers) (λ r. flush_act r r.pending.entries) (none_open caller (row_of w old.table.writers) dead) in
    let made : part_made k x.time old caller ask.call ≡ None = ap (part_made k x.time old caller) is ∙ none in
    ended_store x.told reply _ caller new x.after ∙ part_store (part_made k x.time old caller ask.call) old.store x.store x.told made x.made)

-- the writer of this dropping is no longer live, and its id was drawn
pub record IsOut (m : Moment) (d : Dropping) : Type 0 where
  pub named : IsNamed d
  pub sound : IsSoundAt m
  pub dead : IsNotLive m.state d.writer
  pub drawn : d.writer ≤ last_id m.state

out_next : (m : Moment) (e : Event) (rest : List Event) (d : Dropping) → IsOut m d → IsLawful m.state (e ∷ rest) → IsOut (next_moment m e) d
out_next m e rest d out lawful = record {
  named = out.named;
  sound = sound_next m e rest lawful out.sound;
  dead = not_live_later m.issued m.state e.after e.caller e.ask e.reply lawful.0 lawful.1 out.sound d.writer out.drawn out.dead;
  drawn = omega (arith, out.drawn, drawn_next m e rest lawful);
}

lands_none : (m : Moment) (e : Event) (rest : List Event) (d : Dropping) → IsOut m d → IsLawful m.state (e ∷ rest) → landed (next_moment m e) d ≡ landed m d
lands_none m e rest d out lawful = elim (either_spares d e.ask.call) as (λ _. landed (next_moment m e) d ≡ landed m d) [
  | inl spared ↦ lands_none_next m e rest d out.named lawful out.sound spared
  | inr flushes ↦ same_landed (next_moment m e) m d (dead_flush d.writer m.state e.after e.caller e.ask e.reply out.dead flushes lawful.1)
]

-- Whatever is called later, it stays out, and as much of it has landed.
pub out_later : (m : Moment) (events : List Event) (d : Dropping) → IsOut m d → IsLawful m.state events → IsOut (moment_after m events) d × (landed (moment_after m events) d ≡ landed m d)
out_later m [] d out lawful = (out, refl)
out_later m (e ∷ events) d out lawful =
    let r = out_later (next_moment m e) events d (out_next m e events d out lawful) lawful.2 in
    (r.0, r.1 ∙ lands_none m e events d out lawful)

-- so what was told of it holds
pub record IsSettled (m : Moment) (d : Dropping) (acc : Account) : Type 0 where
  pub out : IsOut m d
  pub least : acc.least ≤ landed m d
  pub most : landed m d ≤ acc.most
  pub few : landed m d ≤ length acc.writes

pub settled_later : (m : Moment) (events : List Event) (d : Dropping) (acc : Account) → IsSettled m d acc → IsLawful m.state events → IsSettled (moment_after m events) d acc
settled_later m events d acc s lawful =
    let r = out_later m events d s.out lawful in
    record { out = r.0; least = omega (arith, s.least, r.1); most = omega (arith, s.most, r.1); few = omega (arith, s.few, r.1) }

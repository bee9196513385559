-- Which runs of an engine served what it was asked for.
use Rattle.std.proofs.Common.{◌≡◌, ℕ, inl, inr, List, arith}
use Rattle.edge_io.specs.Sink.{Taking}
use Rattle.edge_io.specs.Source.{Given}
use Rattle.mount_model.specs.declared.mount_trouble.MountTrouble.{MountTrouble}
use Rattle.mount_model.specs.declared.mount_trouble.MountTrouble.TheVariants as troubles
use Rattle.mount_model.specs.Mounting.{IsMounted}
use Rattle.mount_model.specs.State.{State}
use Rattle.std.specs.Prelude.{Some}
use Rattle.program_ends.specs.Ends.{Ends}
use Rattle.serve_program.specs.Running.{Runs, RunsOn, closes, mounted, starves, unbegun, unclosed, unmade, unmounted, unmounted_status}
use Rattle.serve_program.specs.Words.{actors_on}
use Rattle.serving_laws.specs.Served.{EndsWell, HasServed}

-- another status
no_other : (n status : ℕ) → status ≡ n → (n ≡ 0 → ⊥) → (n ≡ 5 → ⊥) → (n ≡ 6 → ⊥) → EndsWell status → ⊥
no_other n status is not_0 not_5 not_6 well = elim well as (λ _. ⊥) [
  | inl ended ↦ not_0 (omega (arith, is, ended))
  | inr other ↦ elim other as (λ _. ⊥) [
    | inl unread ↦ not_5 (omega (arith, is, unread))
    | inr unwritten ↦ not_6 (omega (arith, is, unwritten))
  ]
]

not_starved : (status : ℕ) → status ≡ 3 → EndsWell status → ⊥
not_starved status is well = no_other 3 status is (λ no. omega (arith, no)) (λ no. omega (arith, no)) (λ no. omega (arith, no)) well

was_mounted : (trouble : MountTrouble) (status : ℕ) → status ≡ unmounted_status trouble → EndsWell status → ⊥
was_mounted (troubles.Damaged file) status is well = no_other 7 status is (λ no. omega (arith, no)) (λ no. omega (arith, no)) (λ no. omega (arith, no)) well
was_mounted troubles.NoMarks status is well = no_other 7 status is (λ no. omega (arith, no)) (λ no. omega (arith, no)) (λ no. omega (arith, no)) well
was_mounted troubles.Spent status is well = no_other 1 status is (λ no. omega (arith, no)) (λ no. omega (arith, no)) (λ no. omega (arith, no)) well
was_mounted troubles.Fault status is well = no_other 4 status is (λ no. omega (arith, no)) (λ no. omega (arith, no)) (λ no. omega (arith, no)) well
was_mounted troubles.NoMemory status is well = not_starved status is well

ran_on : (host : ℕ) (given given_after : Given) (e : Ends) (status : ℕ) (start end : State) → IsMounted 0 e.times e.stored start → RunsOn (actors_on host) start given e.taking status end given_after e.taking_after → e.stored_after ≡ Some end.store → EndsWell status
    → HasServed host given given_after e
ran_on host given given_after e status start end made (closes stop asked lines more clients mid x other play is) left well = record {
  asked = asked;
  lines = lines;
  more = more;
  serves = record { start = start; end = end; mounted = made; stop = stop; clients = clients; mid = mid; exchanged = x; play = play; kept = left };
}
ran_on host given given_after e status start end made (starves asked more lines old new now given_now taking_now x s front is) left well = absurd (not_starved status is well)
ran_on host given given_after e status start end made (unclosed stop asked lines clients mid x other breaks front is) left well = absurd (not_starved status is well)
ran_on host given given_after e status start end made (unmade same unread untaken is) left well = absurd (not_starved status is well)

pub ended_so : (host : ℕ) (given given_after : Given) (e : Ends) (status : ℕ) → Runs (actors_on host) given given_after e status → EndsWell status → HasServed host given given_after e
ended_so host given given_after e status (mounted start end made runs left) well = ran_on host given given_after e status start end made runs left well
ended_so host given given_after e status (unmounted trouble after fails left unread untaken is) well = absurd (was_mounted trouble status is well)
ended_so host given given_after e status (unbegun same unread untaken is) well = absurd (not_starved status is well)

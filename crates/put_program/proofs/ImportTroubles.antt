-- How puts that follow each other end in trouble, and the run that made them.
use Rattle.std.proofs.Common.{◌≡◌, ◌≢◌, ◌⊎◌, ◌≤◌, inl, inr, ℕ, Bool, max, List, [], ◌∷◌, Some, subst, arith}
use Rattle.std.proofs.lemmas.Bool.{cases_lt}
use Rattle.plfs_types.specs.Counts.{HasRisen}
use Rattle.edge_io.specs.Sink.{Taking}
use Rattle.edge_io.specs.Source.{Given}
use Rattle.store_api.specs.Acts.{Stored}
use Rattle.mount_model.specs.State.{State}
use Rattle.mount_core.proofs.Mounts.{fault_has_cause}
use Rattle.run_core.specs.Leading.{GoesOn}
use Rattle.run_core.proofs.Facts.{never_falls, risen_before}
use Rattle.program_ends.specs.Ends.{Ends}
use Rattle.program_ends.specs.Reported.{IsReported}
use Rattle.program_ends.specs.SoundTrees.{TellsSoundTree}
use Rattle.put_program.specs.Importing.{HavePut, ImportCourse, NamedPut, Sourced, imported, named, starved, unmounted, unnamed}
use Rattle.put_program.specs.Putting.{PutsOn, broke_off, end_of, ended_so, put_status, put_text}
use Rattle.put_program.proofs.Imports.{have_leads, named_leads}
use Rattle.put_program.proofs.Statuses.{ended_in_fault, ended_undamaged, mounting_keeps, put_four, put_seven, risen_then, unmounted_four, unmounted_seven}

abbrev Rose : State → State → Type 0
Rose start end = HasRisen start.store.faults end.store.faults

no_fewer : (start end : State) → GoesOn start end → start.store.faults ≤ end.store.faults
no_fewer start end goes = subst (λ (s : State). start.store.faults ≤ s.store.faults) goes.leads.ends (never_falls start goes.events goes.leads.lawful)

-- ---- one put

decided_is : (text : List ℕ) (decided : ℕ) (taking taking_after : Taking) (status k : ℕ) → ((n : ℕ) → n ≡ k → n ≡ 6 → ⊥) → ((n : ℕ) → n ≡ k → n ≡ 3 → ⊥) → IsReported text decided taking taking_after status → status ≡ k → status ≡ decided
decided_is text decided taking taking_after status k six three (inl (is, printed)) same = is
decided_is text decided taking taking_after status k six three (inr (inl (is, cut))) same = absurd (six status same is)
decided_is text decided taking taking_after status k six three (inr (inr (is, untold))) same = absurd (three status same is)

four_caused : (before : Stored) (name : List ℕ) (host : ℕ) (over : Bool) (start : State) (given : Given) (taking : Taking) (end : State) (given_after : Given) (taking_after : Taking) (status : ℕ) → PutsOn before name host over start given taking end given_after taking_after status → status ≡ 4 → Rose start end
four_caused before name host over start given taking end given_after taking_after status (ended_so result copies truly seen said) four =
    truly.cause (ended_in_fault result (put_four status (end_of result) (decided_is (put_text (end_of result)) (put_status (end_of result)) taking taking_after status 4 (λ n a b. omega (arith, a, b)) (λ n a b. omega (arith, a, b)) said four) four))
four_caused before name host over start given taking end given_after taking_after status (broke_off begun same is) four = absurd (omega (arith, is, four))

never_seven : (before : Stored) (name : List ℕ) (host : ℕ) (over : Bool) (start : State) (given : Given) (taking : Taking) (end : State) (given_after : Given) (taking_after : Taking) (status : ℕ) → TellsSoundTree before → PutsOn before name host over start given taking end given_after taking_after status → status ≢ 7
never_seven before name host over start given taking end given_after taking_after status told (ended_so result copies truly seen said) seven =
    put_seven status (end_of result) (ended_undamaged result (truly.undamaged told)) (decided_is (put_text (end_of result)) (put_status (end_of result)) taking taking_after status 7 (λ n a b. omega (arith, a, b)) (λ n a b. omega (arith, a, b)) said seven) seven
never_seven before name host over start given taking end given_after taking_after status told (broke_off begun same is) seven = omega (arith, is, seven)

named_four : (before : Stored) (name : List ℕ) (host : ℕ) (over : Bool) (given : Given) (start : State) (taking : Taking) (end : State) (taking_after : Taking) (status : ℕ) → NamedPut before name host over given start taking end taking_after status → status ≡ 4 → Rose start end
named_four before name host over given start taking end taking_after status (named mid given_after said puts still) four = four_caused before name host over start given mid end given_after taking_after status puts four
named_four before name host over given start taking end taking_after status (unnamed cut same is) four = absurd (omega (arith, is, four))
named_four before name host over given start taking end taking_after status (starved untold same is) four = absurd (omega (arith, is, four))

named_seven : (before : Stored) (name : List ℕ) (host : ℕ) (over : Bool) (given : Given) (start : State) (taking : Taking) (end : State) (taking_after : Taking) (status : ℕ) → TellsSoundTree before → NamedPut before name host over given start taking end taking_after status → status ≢ 7
named_seven before name host over given start taking end taking_after status told (named mid given_after said puts still) seven = never_seven before name host over start given mid end given_after taking_after status told puts seven
named_seven before name host over given start taking end taking_after status told (unnamed cut same is) seven = omega (arith, is, seven)
named_seven before name host over given start taking end taking_after status told (starved untold same is) seven = omega (arith, is, seven)

-- ---- all puts

either_is : (a b n k : ℕ) → n ≡ max a b → n ≡ k → (a ≡ k) ⊎ (b ≡ k)
either_is a b n k is same = elim (cases_lt a b) as (λ _. (a ≡ k) ⊎ (b ≡ k)) [
  | inl less ↦ inr (omega (arith, is, same, less))
  | inr le ↦ inl (omega (arith, is, same, le))
]

have_four : (before : Stored) (host : ℕ) (over : Bool) (start : State) (taking : Taking) (put : List Sourced) (end : State) (taking_after : Taking) (last greatest : ℕ) → HavePut before host over start taking put end taking_after last greatest → greatest ≡ 4 → Rose start end
have_four before host over start taking [] end taking_after last greatest (same, untold, well, is) four = absurd (omega (arith, is, four))
have_four before host over start taking (s ∷ put) end taking_after last greatest (mid, taken, one_before, so_far, earlier, minor, one, is) four = elim (either_is so_far last greatest 4 is four) as (λ _. Rose start end) [
  | inl there ↦ risen_then start.store.faults mid.store.faults end.store.faults (have_four before host over start taking put mid taken one_before so_far earlier there) (no_fewer mid end (named_leads before s.name host over s.given mid taken end taking_after last one))
  | inr here ↦ risen_before start.store.faults mid.store.faults end.store.faults (no_fewer start mid (have_leads before host over start taking put mid taken one_before so_far earlier)) (named_four before s.name host over s.given mid taken end taking_after last one here)
]

have_seven : (before : Stored) (host : ℕ) (over : Bool) (start : State) (taking : Taking) (put : List Sourced) (end : State) (taking_after : Taking) (last greatest : ℕ) → TellsSoundTree before → HavePut before host over start taking put end taking_after last greatest → greatest ≢ 7
have_seven before host over start taking [] end taking_after last greatest told (same, untold, well, is) seven = omega (arith, is, seven)
have_seven before host over start taking (s ∷ put) end taking_after last greatest told (mid, taken, one_before, so_far, earlier, minor, one, is) seven = elim (either_is so_far last greatest 7 is seven) as (λ _. ⊥) [
  | inl there ↦ have_seven before host over start taking put mid taken one_before so_far told earlier there
  | inr here ↦ named_seven before s.name host over s.given mid taken end taking_after last told one here
]

-- ---- the run

pub import_caused : (host : ℕ) (over : Bool) (sources : List Sourced) (e : Ends) (status : ℕ) → ImportCourse host over sources e status → status ≡ 4 → (after : Stored) × (e.stored_after ≡ Some after) × HasRisen e.stored.faults after.faults
import_caused host over sources e status (unmounted why after is failed undamaged said) four = (after, is, unmounted_four why e.taking e.taking_after status (HasRisen e.stored.faults after.faults) said (fault_has_cause e.stored after why failed) four)
import_caused host over sources e status (imported after is i) four = (
  after,
  is,
  subst (λ (s : Stored). HasRisen e.stored.faults s.faults) i.left
      (risen_before e.stored.faults i.start.store.faults i.end.store.faults (mounting_keeps e.times e.stored i.start i.mounted) (have_four e.stored host over i.start e.taking i.puts.put i.end e.taking_after i.puts.last status i.puts.have four)),
)

pub import_undamaged : (host : ℕ) (over : Bool) (sources : List Sourced) (e : Ends) (status : ℕ) → ImportCourse host over sources e status → TellsSoundTree e.stored → status ≢ 7
import_undamaged host over sources e status (unmounted why after is failed undamaged said) told = unmounted_seven e.stored after why e.taking e.taking_after status failed said told
import_undamaged host over sources e status (imported after is i) told = have_seven e.stored host over i.start e.taking i.puts.put i.end e.taking_after i.puts.last status told i.puts.have

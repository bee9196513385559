-- Two runs that print the same, and leave one store.
use Rattle.std.proofs.Common.{◌≡◌, ◌≢◌, ℕ, inl, inr, List, Option, Some, None, sym, ap, ◌∙◌, subst}
use Rattle.edge_io.specs.Sink.{TakesOn}
use Rattle.edge_io.specs.Source.{Given}
use Rattle.script_lang.specs.declared.line.Outcome.{Outcome}
use Rattle.mount_model.specs.declared.mount_trouble.MountTrouble.{MountTrouble}
use Rattle.mount_model.specs.declared.mount_trouble.MountTrouble.TheVariants as trouble
use Rattle.program_ends.specs.Ends.{Ends}
use Rattle.program_ends.specs.Mounting.{unmounted_of}
use Rattle.program_ends.specs.Output.{IsPrinted, IsCutOff}
use Rattle.plfs_program.specs.Complete.{HadNoTrouble}
use Rattle.plfs_program.specs.Twice.{HadNoStreamTrouble, PrintAlike}

-- ---- sinks

takes_one : (text : List ℕ) (old old_too new new_too : Option (List ℕ)) → old ≡ old_too → TakesOn text old new → TakesOn text old_too new_too → new ≡ new_too
takes_one text None old_too new new_too is a b = let c : TakesOn text None new_too = subst (λ o. TakesOn text o new_too) (sym is) b in a ∙ sym c
takes_one text (Some old) old_too new new_too is a b = let c : TakesOn text (Some old) new_too = subst (λ o. TakesOn text o new_too) (sym is) b in a ∙ sym c

pub print_both : (text : List ℕ) (e f : Ends) (status other : ℕ) → IsPrinted text e.taking e.taking_after → IsPrinted text f.taking f.taking_after → status ≡ other
    → e.stored_after ≡ f.stored_after → PrintAlike e f status other
print_both text e f status other a b is left = record {
  text = text;
  printed = a;
  printed_too = b;
  status_is = is;
  left_is = left;
  same_bytes = λ same. takes_one text e.taking.taken f.taking.taken e.taking_after.taken f.taking_after.taken same a.bytes b.bytes;
}

pub calm_of : (given after : Given) (e : Ends) → HadNoTrouble given after e → HadNoStreamTrouble given after e
calm_of given after e quiet = record { source = quiet.source; sink = quiet.sink; stalls = quiet.stalls }

pub not_cut : (given after : Given) (e : Ends) (text : List ℕ) → HadNoStreamTrouble given after e → IsCutOff text e.taking e.taking_after → ⊥
not_cut given after e text calm part = elim part.cause as (λ _. ⊥) [
  | inl risen ↦ calm.sink risen
  | inr stalled ↦ calm.stalls stalled
]

-- ---- mountings that broke off

-- a line tells why, so memory was not why
pub tells_why : (why : MountTrouble) (said : Outcome) → unmounted_of why ≡ Some said → why ≢ trouble.NoMemory
tells_why why said is e = let none : None ≡ Some said = sym (ap unmounted_of e) ∙ is in cc

pub outcome_one : (why also : MountTrouble) (a b : Outcome) → why ≡ also → unmounted_of why ≡ Some a → unmounted_of also ≡ Some b → a ≡ b
outcome_one why also a b same x y = let e : Some a ≡ Some b = sym x ∙ ap unmounted_of same ∙ y in cc

-- ---- what faulted acts left

pub some_one : {A : Type 0} (a b : A) → Some a ≡ Some b → a ≡ b
some_one a b e = cc

pub none_some : {A : Type 0} (x : A) → None ≡ Some x → ⊥
none_some x e = cc

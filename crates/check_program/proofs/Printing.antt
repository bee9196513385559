-- Texts that are printed, one behind the other.
use Rattle.std.proofs.Common.{◌≡◌, ℕ, inl, inr, true, false, ◌||◌, List, [], ◌∷◌, ◌++◌, Option, Some, None, Result, Ok, Err, refl, ap, sym, ◌∙◌, subst, append-nil, append_assoc}
use Rattle.std.specs.Prelude.{OnOk}
use Rattle.std.proofs.lemmas.List.Concat.{flat_map-append}
use Rattle.edge_io.specs.Sink.{Taking, TakesOn}
use Rattle.shape_check.specs.declared.finding.Complaint.{Complaint}
use Rattle.program_ends.specs.Reported.{IsReported}
use Rattle.program_ends.specs.Output.{IsPrinted}
use Rattle.check_program.specs.Lines.{IsUnsaid, are_some, complaint_line, complaint_lines}

-- ---- what was reported with status 0

pub printed_of : (text : List ℕ) (taking taking_after : Taking) (status : ℕ) → IsReported text 0 taking taking_after status → status ≡ 0 → IsPrinted text taking taking_after
printed_of text taking taking_after status (inl all) is = all.1
printed_of text taking taking_after status (inr (inl part)) is = (let clash : 6 ≡ 0 = sym part.0 ∙ is in absurd (cc))
printed_of text taking taking_after status (inr (inr none)) is = (let clash : 3 ≡ 0 = sym none.0 ∙ is in absurd (cc))

pub unsaid_of : (text : List ℕ) (taking taking_after : Taking) (status : ℕ) → IsReported text 0 taking taking_after status → (status ≡ 0 → ⊥) → IsUnsaid text taking taking_after status
unsaid_of text taking taking_after status (inl all) other = absurd (other all.0)
unsaid_of text taking taking_after status (inr rest) other = rest

-- ---- nothing, and one behind the other

takes_none : (taken : Option (List ℕ)) → TakesOn [] taken taken
takes_none None = refl
takes_none (Some bytes) = ap Some (sym (append-nil bytes))

pub printed_none : (taking : Taking) → IsPrinted [] taking taking
printed_none taking = record { bytes = takes_none taking.taken; faults = refl; stalls = refl }

takes_both : (a b : List ℕ) (x y z : Option (List ℕ)) → TakesOn a x y → TakesOn b y z → TakesOn (a ++ b) x z
takes_both a b None y z first then = subst (λ (o : Option (List ℕ)). TakesOn b o z) first then
takes_both a b (Some bytes) y z first then = (let last : z ≡ Some ((bytes ++ a) ++ b) = subst (λ (o : Option (List ℕ)). TakesOn b o z) first then in last ∙ ap Some (append_assoc bytes a b))

pub printed_both : (a b : List ℕ) (taking mid taking_after : Taking) → IsPrinted a taking mid → IsPrinted b mid taking_after → IsPrinted (a ++ b) taking taking_after
printed_both a b taking mid taking_after first then = record {
  bytes = takes_both a b taking.taken mid.taken taking_after.taken first.bytes then.bytes;
  faults = then.faults ∙ first.faults;
  stalls = then.stalls ∙ first.stalls;
}

-- where nothing was printed the sink is as it was
took_none : (x y : Option (List ℕ)) → TakesOn [] x y → y ≡ x
took_none None y took = took
took_none (Some bytes) y took = took ∙ ap Some (append-nil bytes)

pub printed_nothing : (taking mid : Taking) → IsPrinted [] taking mid → mid ≡ taking
printed_nothing taking mid printed =
    ap (λ (o : Option (List ℕ)). record { taken = o; faults = mid.faults; stalls = mid.stalls }) (took_none taking.taken mid.taken printed.bytes)
    ∙ ap (λ (n : ℕ). record { taken = taking.taken; faults = n; stalls = mid.stalls }) printed.faults
    ∙ ap (λ (n : ℕ). record { taken = taking.taken; faults = taking.faults; stalls = n }) printed.stalls

-- ---- the lines of complaints

pub lines_printed : (a b : List Complaint) (taking mid taking_after : Taking) → IsPrinted (complaint_lines a) taking mid → IsPrinted (complaint_lines b) mid taking_after → IsPrinted (complaint_lines (a ++ b)) taking taking_after
lines_printed a b taking mid taking_after first then =
    subst (λ (text : List ℕ). IsPrinted text taking taking_after) (sym (flat_map-append complaint_line a b)) (printed_both (complaint_lines a) (complaint_lines b) taking mid taking_after first then)

pub some_of_both : (a b : List Complaint) → are_some (a ++ b) ≡ (are_some a || are_some b)
some_of_both [] b = refl
some_of_both (c ∷ a) b = refl

-- none, or a first one
pub none_of : (found : List Complaint) → false ≡ are_some found → found ≡ []
none_of [] none = refl
none_of (c ∷ found) none = absurd (cc)

abbrev pub HasFirst : List Complaint → Type 0
HasFirst found = (first : Complaint) × (more : List Complaint) × (found ≡ first ∷ more)

pub first_of : (found : List Complaint) → true ≡ are_some found → HasFirst found
first_of [] some = absurd (cc)
first_of (c ∷ found) some = (c, found, refl)

-- ---- a line, word by word

pub three : (old a b c : List ℕ) → ((old ++ a) ++ b) ++ c ≡ old ++ (a ++ (b ++ c))
three old a b c = append_assoc (old ++ a) b c ∙ append_assoc old a (b ++ c)

pub four : (old a b c d : List ℕ) → (((old ++ a) ++ b) ++ c) ++ d ≡ old ++ (a ++ (b ++ (c ++ d)))
four old a b c d = append_assoc ((old ++ a) ++ b) c d ∙ three old a b (c ++ d)

-- of words that were pushed one after the other
pub pushed_three : {E : Type 0} (old x y z a b c : List ℕ) (result : Result Unit E) → x ≡ old ++ a → y ≡ x ++ b → OnOk result (z ≡ y ++ c) → OnOk result (z ≡ old ++ (a ++ (b ++ c)))
pushed_three old x y z a b c (Ok done) ex ey ez = ez ∙ ap (λ (l : List ℕ). l ++ c) (ey ∙ ap (λ (l : List ℕ). l ++ b) ex) ∙ three old a b c
pushed_three old x y z a b c (Err why) ex ey ez = tt

pub pushed_four : {E : Type 0} (old w x y z a b c d : List ℕ) (result : Result Unit E) → w ≡ old ++ a → x ≡ w ++ b → y ≡ x ++ c → OnOk result (z ≡ y ++ d) → OnOk result (z ≡ old ++ (a ++ (b ++ (c ++ d))))
pushed_four old w x y z a b c d (Ok done) ew ex ey ez = ez ∙ ap (λ (l : List ℕ). l ++ d) (ey ∙ ap (λ (l : List ℕ). l ++ c) (ex ∙ ap (λ (l : List ℕ). l ++ b) ew)) ∙ four old a b c d
pushed_four old w x y z a b c d (Err why) ew ex ey ez = tt

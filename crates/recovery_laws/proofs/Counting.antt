-- A run goes on with just the entries that the log has.
use Rattle.std.proofs.Common.{◌≡◌, ℕ, zero, suc, ◌+◌, max, Bool, nat_le, List, [], ◌∷◌, length, drop, refl, ap, sym, ◌∙◌, subst, inl, inr, arith}
use Rattle.std.specs.Prelude.{◌≢◌, if◌then◌else◌}
use Rattle.std.proofs.lemmas.Bool.{cases_Bool, cond-true, cond-false}
use Rattle.plfs_types.specs.declared.entries.Entry.{Entry}
use Rattle.index_entry.specs.Spelling.{entry_in}
use Rattle.index_entry.specs.Within.{within_log}
use Rattle.mount_model.specs.Entries.{is_next}
use Rattle.mount_sound.specs.Entries.{greatest_end, last_stamp, logged}
use Rattle.torn_tail.specs.Entries.{no_entries, longer, checked}
use Rattle.torn_tail.specs.Words.{Went, Run, all_there, ends, breaks}
use Rattle.recovery_laws.specs.Counting.{TellsOf}

-- the run with these entries more
abbrev counted : List Entry → Run → Run
counted [] run = run
counted (e ∷ es) run = counted es (longer e run)

-- how the checking ended
abbrev pub came : Went → Run → Went × Run
came went run = (went, run)

pub went_of : (went : Went) (run : Run) (other : Went) (new : Run) → came went run ≡ came other new → went ≡ other
went_of went run other new e = ap (λ (p : Went × Run). p.0) e

pub run_of : (went : Went) (run : Run) (other : Went) (new : Run) → came went run ≡ came other new → run ≡ new
run_of went run other new e = ap (λ (p : Went × Run). p.1) e

goes_on : (log count : ℕ) (bytes : List ℕ) (run : Run) (went : Went) (new : Run) → checked log count bytes run ≡ (went, new) → went ≢ breaks → new ≡ counted (within_log log count bytes) run
goes_on log zero bytes run went new h not = sym (run_of all_there run went new h)
goes_on log (suc n) bytes run went new h not =
    let e : Entry = entry_in bytes in
    let fits : Bool = nat_le (e.physical + e.len) log in
    let on : Went × Run = checked log n (drop 40 bytes) (longer e run) in
    let rest : List Entry = within_log log n (drop 40 bytes) in
    elim (cases_Bool (is_next run.cover e)) as (λ _. new ≡ counted (if fits then e ∷ rest else []) run) [
      | inl next ↦ elim (cases_Bool fits) as (λ _. new ≡ counted (if fits then e ∷ rest else []) run) [
        | inl within ↦ (let to : on ≡ came went new = sym (cond-true (is_next run.cover e) (if fits then on else (ends, run)) (breaks, run) next ∙ cond-true fits on (ends, run) within) ∙ h in
            goes_on log n (drop 40 bytes) (longer e run) went new to not ∙ sym (ap (λ es. counted es run) (cond-true fits (e ∷ rest) [] within)))
        | inr past ↦ (let to : came ends run ≡ came went new = sym (cond-true (is_next run.cover e) (if fits then on else (ends, run)) (breaks, run) next ∙ cond-false fits on (ends, run) past) ∙ h in
            sym (run_of ends run went new to) ∙ sym (ap (λ es. counted es run) (cond-false fits (e ∷ rest) [] past)))
      ]
      | inr other ↦ (let to : came breaks run ≡ came went new = sym (cond-false (is_next run.cover e) (if fits then on else (ends, run)) (breaks, run) other) ∙ h in
          absurd (not (sym (went_of breaks run went new to))))
    ]

-- ---- what is kept of them

own_is : (es : List Entry) (run : Run) → (counted es run).cover.writer ≡ run.cover.writer
own_is [] run = refl
own_is (e ∷ es) run = own_is es (longer e run)

count_is : (es : List Entry) (run : Run) → (counted es run).cover.count ≡ run.cover.count + length es
count_is [] run = omega arith
count_is (e ∷ es) run = omega (arith, count_is es (longer e run))

bytes_are : (es : List Entry) (run : Run) → (counted es run).cover.bytes ≡ run.cover.bytes + logged es
bytes_are [] run = omega arith
bytes_are (e ∷ es) run = omega (arith, bytes_are es (longer e run))

stamp_is : (es : List Entry) (run : Run) → (counted es run).cover.stamp ≡ last_stamp run.cover.stamp es
stamp_is [] run = refl
stamp_is (e ∷ es) run = stamp_is es (longer e run)

end_is : (es : List Entry) (run : Run) → (counted es run).last ≡ max run.last (greatest_end es)
end_is [] run = omega arith
end_is (e ∷ es) run = omega (arith, end_is es (longer e run))

pub tells_of : (writer log count : ℕ) (bytes : List ℕ) (went : Went) (run : Run) → checked log count bytes (no_entries writer) ≡ (went, run) → went ≢ breaks → TellsOf writer run (within_log log count bytes)
tells_of writer log count bytes went run h not =
    let es : List Entry = within_log log count bytes in
    let is : run ≡ counted es (no_entries writer) = goes_on log count bytes (no_entries writer) went run h not in
    subst (λ r. TellsOf writer r es) (sym is) record {
      own = own_is es (no_entries writer);
      counts = omega (arith, count_is es (no_entries writer));
      told = record { end = omega (arith, end_is es (no_entries writer)); sum = omega (arith, bytes_are es (no_entries writer)); latest = stamp_is es (no_entries writer) };
    }

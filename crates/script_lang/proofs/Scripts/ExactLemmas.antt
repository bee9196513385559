-- Bytes are read as the script that they are, and else for their first fault.
use Rattle.std.proofs.Common.{◌≡◌, ℕ, ◌+◌, ◌^◌, ◌≤◌, nat_lt, Bool, true, false, cond, List, [], ◌∷◌, ◌++◌, length, Result, Ok, Err, refl, sym, ap, subst, ◌∙◌, inl, inr, arith, append_assoc}
use Rattle.std.specs.Prelude.{◌⊎◌}
use Rattle.std.proofs.lemmas.Bool.Decides.{nat_tests}
use Rattle.script_lang.specs.declared.draft.Draft.{Draft}
use Rattle.script_lang.specs.declared.script.Script.{Script}
use Rattle.script_lang.specs.declared.trouble.Kind.{Kind}
use Rattle.script_lang.specs.declared.trouble.Kind.TheVariants.{Long}
use Rattle.script_lang.specs.Drafts.{empty_draft, script_in}
use Rattle.script_lang.specs.Faults.{Fault, HasFaultyLine, HasFault, long, faulty}
use Rattle.script_lang.specs.Grammar.{AreScript, IsScript}
use Rattle.script_lang.specs.Kinds.{IsFirst}
use Rattle.script_lang.specs.Layout.{AreLines}
use Rattle.script_lang.specs.Scripts.{lines_draft, finished, script_of}
use Rattle.script_lang.specs.Words.{lines_of}
use Rattle.plfs_types.specs.Parts.{words_of}
use Rattle.script_lang.proofs.Scripts.DraftLemmas.{holds_first, place_in}
use Rattle.script_lang.proofs.Lines.LayoutLemmas.{are_lines, lines_are, are_words}
use Rattle.script_lang.proofs.Lines.LineLemmas.{line_fault, line_first}
use Rattle.script_lang.proofs.Scripts.ScriptLemmas.{holds_all, is_script}
use Rattle.script_lang.proofs.Scripts.ScriptsAgain.{script_read, FailsAsRead, fault_found, fault_again, empty_behind}

-- ---- what is read

short_enough : (bytes : List ℕ) → nat_lt (2 ^ 20) (length bytes) ≡ false → length bytes ≤ 2 ^ 20
short_enough bytes is = grind (arith, nat_tests)

finished_so : (read : Result Draft Fault) (script : Script) → finished read ≡ Ok script → (end : Draft) × (read ≡ Ok end) × (script_in end ≡ script)
finished_so (Ok end) script is = let same : script_in end ≡ script = cc in (end, refl, same)
finished_so (Err fault) script is = cc

failed_so : (read : Result Draft Fault) (fault : Fault) → finished read ≡ Err fault → read ≡ Err fault
failed_so (Ok end) fault is = cc
failed_so (Err other) fault is = let same : other ≡ fault = cc in ap (λ f. Err f) same

-- the script that is read is there
pub script_so : (bytes : List ℕ) (script : Script) → script_of bytes ≡ Ok script → IsScript bytes script
script_so bytes script is = by (nat_lt (2 ^ 20) (length bytes)) refl is
  where
    by : (b : Bool) → nat_lt (2 ^ 20) (length bytes) ≡ b → cond b (Err (record { line = 0; kind = Long })) (finished (lines_draft 1 (lines_of bytes) empty_draft)) ≡ Ok script → IsScript bytes script
    by true much read = cc
    by false much read =
        let end = finished_so (lines_draft 1 (lines_of bytes) empty_draft) script read in
        record { lines = lines_of bytes; short = short_enough bytes much; cut = are_lines bytes; are = subst (λ s. AreScript (lines_of bytes) s) end.2 (is_script (lines_of bytes) end.0 end.1) }

faulty_line : (bytes : List ℕ) (fault : Fault) → FailsAsRead empty_draft 1 (lines_of bytes) fault → HasFaultyLine bytes fault.line fault.kind
faulty_line bytes fault fails =
    let holds = holds_all fails.before 1 empty_draft fails.so_far holds_first fails.reads_so in
    let first = line_fault (script_in fails.so_far) fails.so_far.begun fails.so_far.reads (place_in fails.so_far holds) fails.line fault.kind fails.failed in
    let counted = fails.counted in
    record {
      before = fails.before;
      line = fails.line;
      behind = fails.behind;
      cut = subst (λ ls. AreLines bytes ls) fails.parted (are_lines bytes);
      counted = let shift : 1 + length fails.before ≡ length fails.before + 1 = omega arith in counted ∙ shift;
      so_far = script_in fails.so_far;
      sound = is_script fails.before fails.so_far fails.reads_so;
      said = first.0;
      words = words_of fails.line;
      are = are_words fails.line;
      faulty = first.1;
    }

-- the fault that is found is the first
pub fault_so : (bytes : List ℕ) (fault : Fault) → script_of bytes ≡ Err fault → HasFault bytes fault
fault_so bytes fault is = by (nat_lt (2 ^ 20) (length bytes)) refl is
  where
    by : (b : Bool) → nat_lt (2 ^ 20) (length bytes) ≡ b → cond b (Err (record { line = 0; kind = Long })) (finished (lines_draft 1 (lines_of bytes) empty_draft)) ≡ Err fault → HasFault bytes fault
    by true much read =
        let same : ◌≡◌ {A = Fault} (record { line = 0; kind = Long }) fault = cc in
        long (grind (arith, nat_tests)) (sym same)
    by false much read = faulty (short_enough bytes much) (faulty_line bytes fault (fault_found (lines_of bytes) 1 empty_draft fault (failed_so (lines_draft 1 (lines_of bytes) empty_draft) fault read)))

-- ---- what is there

is_short : (bytes : List ℕ) → length bytes ≤ 2 ^ 20 → script_of bytes ≡ finished (lines_draft 1 (lines_of bytes) empty_draft)
is_short bytes short = let fits : nat_lt (2 ^ 20) (length bytes) ≡ false = grind (arith, nat_tests) in rw fits refl

-- a script is read
pub script_is : (bytes : List ℕ) (script : Script) → IsScript bytes script → script_of bytes ≡ Ok script
script_is bytes script is =
    let read = script_read is.lines script is.are in
    is_short bytes is.short ∙ (ap finished (cut_read read.0 read.1) ∙ ap (λ s. Ok s) read.2)
  where
    cut_read : (end : Draft) → lines_draft 1 is.lines empty_draft ≡ Ok end → lines_draft 1 (lines_of bytes) empty_draft ≡ Ok end
    cut_read end read =
        elim (lines_are bytes is.lines is.cut) [
          | inl same ↦ ap (λ ls. lines_draft 1 ls empty_draft) same ∙ read
          | inr more ↦ ap (λ ls. lines_draft 1 ls empty_draft) more ∙ empty_behind is.lines 1 empty_draft end read
        ]

found_again : (bytes : List ℕ) (number : ℕ) (kind : Kind) → HasFaultyLine bytes number kind → lines_draft 1 (lines_of bytes) empty_draft ≡ Err (record { line = number; kind = kind })
found_again bytes number kind has =
    elim (lines_are bytes (has.before ++ has.line ∷ has.behind) has.cut) [
      | inl same ↦ ap (λ ls. lines_draft 1 ls empty_draft) same ∙ here has.behind
      | inr more ↦ ap (λ ls. lines_draft 1 ls empty_draft) (more ∙ append_assoc has.before (has.line ∷ has.behind) ([] ∷ [])) ∙ here (has.behind ++ [] ∷ [])
    ]
  where
    here : (behind : List (List ℕ)) → lines_draft 1 (has.before ++ has.line ∷ behind) empty_draft ≡ Err (record { line = number; kind = kind })
    here behind =
        let read = script_read has.before has.so_far has.sound in
        let holds = holds_all has.before 1 empty_draft read.0 holds_first read.1 in
        let first = subst (λ s. IsFirst s has.words kind) (sym read.2) has.faulty in
        let failed = line_first (script_in read.0) read.0.begun read.0.reads (place_in read.0 holds) has.line has.words kind has.said has.are first in
        let counted = has.counted in
        let shift : 1 + length has.before ≡ length has.before + 1 = omega arith in
        fault_again has.before 1 empty_draft read.0 has.line behind kind read.1 failed ∙ ap (λ (n : ℕ). Err (record { line = n; kind = kind })) (shift ∙ sym counted)

-- the first fault is found
pub fault_is : (bytes : List ℕ) (fault : Fault) → HasFault bytes fault → script_of bytes ≡ Err fault
fault_is bytes fault (long much is) = let past : nat_lt (2 ^ 20) (length bytes) ≡ true = grind (arith, nat_tests) in rw (past, is) refl
fault_is bytes fault (faulty short has) = is_short bytes short ∙ ap finished (found_again bytes fault.line fault.kind has)

-- ---- one of the two, and one alone

pub one_script : (bytes : List ℕ) (a b : Script) → IsScript bytes a → IsScript bytes b → a ≡ b
one_script bytes a b is also = let one = script_is bytes a is in let other = script_is bytes b also in cc

pub one_fault : (bytes : List ℕ) (a b : Fault) → HasFault bytes a → HasFault bytes b → a ≡ b
one_fault bytes a b has also = let one = fault_is bytes a has in let other = fault_is bytes b also in cc

pub never_both : (bytes : List ℕ) (script : Script) (fault : Fault) → IsScript bytes script → HasFault bytes fault → ⊥
never_both bytes script fault is has = let one = script_is bytes script is in let other = fault_is bytes fault has in cc

pub always_one : (bytes : List ℕ) → ((script : Script) × IsScript bytes script) ⊎ ((fault : Fault) × HasFault bytes fault)
always_one bytes = by (script_of bytes) refl
  where
    by : (read : Result Script Fault) → script_of bytes ≡ read → ((script : Script) × IsScript bytes script) ⊎ ((fault : Fault) × HasFault bytes fault)
    by (Ok script) is = inl (script, script_so bytes script is)
    by (Err fault) is = inr (fault, fault_so bytes fault is)

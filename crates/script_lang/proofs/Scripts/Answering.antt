-- What is read step by step is answered by the grammar.
use Rattle.std.proofs.Common.{◌≡◌, ℕ, List, Result, Ok, Err, refl, inl, inr, ap}
use Rattle.std.specs.Prelude.{IfOk, IfErr}
use Rattle.script_lang.specs.declared.script.Script.{Script}
use Rattle.script_lang.specs.declared.trouble.ScriptTrouble.{ScriptTrouble}
use Rattle.script_lang.specs.declared.trouble.ScriptTrouble.TheVariants as trouble
use Rattle.script_lang.specs.Faults.{Fault, HasFault}
use Rattle.script_lang.specs.Grammar.{IsScript}
use Rattle.script_lang.specs.Scripts.{AnswersAsRead, script_of}
use Rattle.script_lang.specs.Told.{IsScriptTrouble, IsAnswered}
use Rattle.script_lang.proofs.Scripts.ExactLemmas.{script_so, script_is, fault_so, fault_is}

pub told_script : (bytes : List ℕ) (answer : Result Script ScriptTrouble) → AnswersAsRead answer (script_of bytes) → IfOk answer (IsScript bytes)
told_script bytes (Ok script) is = script_so bytes script is
told_script bytes (Err failed) is = tt

pub told_fault : (bytes : List ℕ) (answer : Result Script ScriptTrouble) → AnswersAsRead answer (script_of bytes) → IfErr answer (IsScriptTrouble bytes)
told_fault bytes (Ok script) is = tt
told_fault bytes (Err (trouble.Fault line kind)) is = fault_so bytes (record { line = line; kind = kind }) is
told_fault bytes (Err trouble.NoMemory) is = tt

pub script_told : (bytes : List ℕ) (answer : Result Script ScriptTrouble) → AnswersAsRead answer (script_of bytes) → (script : Script) → IsScript bytes script → IsAnswered answer (Ok script)
script_told bytes (Ok other) is script there = let read = script_is bytes script there in let same : other ≡ script = cc in inl (ap (λ s. Ok s) same)
script_told bytes (Err (trouble.Fault line kind)) is script there = let read = script_is bytes script there in cc
script_told bytes (Err trouble.NoMemory) is script there = inr refl

pub fault_told : (bytes : List ℕ) (answer : Result Script ScriptTrouble) → AnswersAsRead answer (script_of bytes) → (fault : Fault) → HasFault bytes fault → IsAnswered answer (Err (trouble.Fault fault.line fault.kind))
fault_told bytes (Ok script) is fault there = let read = fault_is bytes fault there in cc
fault_told bytes (Err (trouble.Fault line kind)) is fault there =
    let read = fault_is bytes fault there in
    let same : ◌≡◌ {A = Fault} (record { line = line; kind = kind }) fault = cc in
    inl (ap (λ (f : Fault). Err (trouble.Fault f.line f.kind)) same)
fault_told bytes (Err trouble.NoMemory) is fault there = inr refl

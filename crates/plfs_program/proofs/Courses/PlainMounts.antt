-- Over a sound tree a plain machine begins with each mount, and says the lines.
use Rattle.std.proofs.Common.{ℕ, ◌≡◌, ◌≤◌, ◌<◌, ◌^◌, inl, inr, true, false, ◌||◌, List, [], ◌∷◌, Option, Some, None, refl, sym, ap, ◌∙◌, subst, arith}
use Rattle.std.specs.Prelude.{◌-◌}
use Rattle.std.specs.Fmt.{decimal}
use Rattle.std.specs.List.{All, Any}
use Rattle.std.specs.Str.Parse.{AllDigits, digits_value}
use Rattle.std.proofs.lemmas.Fmt.{digits_value-decimal}
use Rattle.std.proofs.lemmas.List.Elements.{All-contains}
use Rattle.std.proofs.lemmas.Str.Parse.{IsNumeralModel, numerals_by_value, tells_digits}
use Rattle.plfs_types.specs.Counts.{HasRisen}
use Rattle.store_api.specs.Acts.{Stored}
use Rattle.store_api.specs.Names.{marks_folder}
use Rattle.store_api.specs.Step.{Name}
use Rattle.store_api.specs.declared.tree.Tree.{Tree}
use Rattle.mount_model.specs.Failing.{FailsToMount}
use Rattle.mount_model.specs.Listed.{IsMarkOf}
use Rattle.mount_model.specs.Mounting.{IsMounted}
use Rattle.mount_model.specs.State.{State}
use Rattle.mount_model.specs.declared.mount_trouble.MountTrouble.{MountTrouble}
use Rattle.mount_model.specs.declared.mount_trouble.MountTrouble.TheVariants as trouble
use Rattle.mount_sound.specs.Sound.{IsSoundTree}
use Rattle.script_lang.specs.declared.line.Line.{Line}
use Rattle.script_lang.specs.declared.line.Outcome.{Outcome}
use Rattle.script_lang.specs.declared.line.Outcome.TheVariants as of
use Rattle.script_lang.specs.declared.line.Why.TheVariants.{MountsSpent}
use Rattle.script_lang.specs.declared.script.Script.{Script}
use Rattle.step_laws.proofs.Facts.{mounts_one}
use Rattle.plain_machine.specs.Machine.{Plain}
use Rattle.plain_plays.specs.OverStores.{MountsAs, TellsOfOne, TellsPlainly, as_mounted}
use Rattle.plain_plays.specs.Saying.{BeginsPlainly}
use Rattle.plain_plays.proofs.Facts.{IsBroken, machine_begins}
use Rattle.program_ends.specs.Mounting.{AreSpent, HaveNext, listed_marks, unmounted_of}
use Rattle.program_ends.specs.Outcomes.{has_line, is_damage, is_fault}
use Rattle.program_ends.specs.Reported.{line_zero}
use Rattle.program_ends.specs.SoundTrees.{TellsSoundTree}
use Rattle.program_ends.proofs.Facts.{has_next, unmounted_undamaged, why_fails}
use Rattle.plfs_program.specs.Lines.{AreLinesOf, mounted, unmounted}
use Rattle.plfs_program.specs.Plainly.{SaysOverSound, said, spent}
use Rattle.plfs_program.specs.Ways.{by_turns}

-- ---- a mark is left, or none is

own : IsNumeralModel (AllDigits 10) (digits_value 10)
own = numerals_by_value (AllDigits 10) tells_digits

decimal_same : (a b : ℕ) → a < 2 ^ 64 → b < 2 ^ 64 → decimal a ≡ decimal b → a ≡ b
decimal_same a b a_fits b_fits same = sym (digits_value-decimal own a a_fits) ∙ ap (digits_value 10) same ∙ digits_value-decimal own b b_fits

one_number : (name : Name) (a b : ℕ) → IsMarkOf name a → IsMarkOf name b → a ≡ b
one_number name a b x y = decimal_same a b (omega (arith, x.0.1)) (omega (arith, y.0.1)) (sym x.1 ∙ y.1)

-- a mark of at most this number
abbrev IsUpTo : ℕ → Name → Type 0
IsUpTo greatest name = (n : ℕ) × IsMarkOf name n × (n ≤ greatest)

reached_within : (names : List Name) (last greatest : ℕ) → All (IsUpTo greatest) names → Any (λ name. IsMarkOf name last) names → last ≤ greatest
reached_within names last greatest all any =
    let (n, is, below) = All-contains (IsUpTo greatest) names any.1 all (any.0, any.2, any.3) in
    let same : n ≡ last = one_number any.1 n last is any.4 in
    omega (arith, same, below)

spent_or_next : (marks : Option (List Name)) → AreSpent marks → HaveNext marks → ⊥
spent_or_next None last next = last
spent_or_next (Some names) last (greatest, all, less) = elim last.reached as (λ _. ⊥) [
  | inl none ↦ (let e : 2 ^ 32 - 1 ≡ 0 = none.1 in absurd (omega (arith, e)))
  | inr there ↦ (let within = reached_within names (2 ^ 32 - 1) greatest all.numbers there in absurd (omega (arith, within, less)))
]

-- ---- mountings of a sound tree

-- Line 0 would tell of damage.
no_damage : (opened left : Stored) (why : MountTrouble) (outcome : Outcome) → FailsToMount opened why left → unmounted_of why ≡ Some outcome → is_damage outcome ≡ true → TellsSoundTree opened → ⊥
no_damage opened left why outcome failed told damaged sound =
    let none : has_line is_damage (line_zero outcome ∷ []) ≡ false = unmounted_undamaged opened left why (line_zero outcome ∷ []) failed (outcome, told, refl) sound in
    let some : has_line is_damage (line_zero outcome ∷ []) ≡ true = ap (λ b. b || false) damaged in
    let wrong : true ≡ false = sym some ∙ none in
    cc

-- a store that was mounted once is mounted, or the store fails, or memory is wanting
breaks_off : (opened left : Stored) (tree : Tree) (why : MountTrouble) → opened.tree ≡ Some tree → IsSoundTree tree → HaveNext (listed_marks tree) → FailsToMount opened why left → IsBroken why
breaks_off opened left tree (trouble.Damaged file) told sound next failed = absurd (no_damage opened left (trouble.Damaged file) (of.Damaged marks_folder file 0) failed refl refl (tree, told, sound))
breaks_off opened left tree trouble.NoMarks told sound next failed = absurd (no_damage opened left trouble.NoMarks (of.Damaged marks_folder [] 0) failed refl refl (tree, told, sound))
breaks_off opened left tree trouble.Spent told sound next failed = absurd (spent_or_next (listed_marks tree) (why_fails opened left trouble.Spent failed tree told) next)
breaks_off opened left tree trouble.Fault told sound next failed = inl refl
breaks_off opened left tree trouble.NoMemory told sound next failed = inr refl

-- A plain machine begins with each mount of a store that has a sound tree, and was mounted once.
pub mounts_as : (script : Script) (times : Option (List ℕ)) (before : Stored) (start : State) → TellsSoundTree before → IsMounted 0 times before start → (p : Plain) × MountsAs script times before p
mounts_as script times before start (tree, told, sound) made =
    let found = machine_begins script 0 times before tree start told sound made in (
      found.machine,
      record {
        mounts = λ why left failed. breaks_off before left tree why told sound (has_next 0 times before start made tree told) failed;
        begins = λ other again. subst (λ s. BeginsPlainly script s found.machine) (mounts_one 0 times before start other (record { tree = tree; tree_is = told }) made again) found.begins;
      },
    )

-- The lines of a run whose mounting went well.
one_says : (script : Script) (times : Option (List ℕ)) (before after : Stored) (lines : List Line) (start : State) → TellsSoundTree before → IsMounted 0 times before start → TellsPlainly script times before lines after → TellsOfOne script times before lines after
one_says script times before after lines start sound made says plain =
    let (p, begins) = mounts_as script times before start sound made in
    record { machine = p; begins = begins; says = says plain p (as_mounted begins) }

-- ---- the lines

-- only for want of a mark does a mounting of a sound tree break off without a fault
pub unmarked_so : (before after : Stored) (why : MountTrouble) (outcome : Outcome) (tree : Tree) → before.tree ≡ Some tree → IsSoundTree tree → FailsToMount before why after → unmounted_of why ≡ Some outcome → (outcome ≡ of.Fault → ⊥) → AreSpent (listed_marks tree) × (outcome ≡ of.Refused MountsSpent)
unmarked_so before after (trouble.Damaged file) outcome tree told sound failed says quiet = absurd (no_damage before after (trouble.Damaged file) (of.Damaged marks_folder file 0) failed refl refl (tree, told, sound))
unmarked_so before after trouble.NoMarks outcome tree told sound failed says quiet = absurd (no_damage before after trouble.NoMarks (of.Damaged marks_folder [] 0) failed refl refl (tree, told, sound))
unmarked_so before after trouble.Spent outcome tree told sound failed says quiet = let is : outcome ≡ of.Refused MountsSpent = cc in (why_fails before after trouble.Spent failed tree told, is)
unmarked_so before after trouble.Fault outcome tree told sound failed says quiet = absurd (quiet (let is : outcome ≡ of.Fault = cc in is))
unmarked_so before after trouble.NoMemory outcome tree told sound failed says quiet = absurd (cc)

pub sound_says : (script : Script) (times : Option (List ℕ)) (before after : Stored) (lines : List Line) → AreLinesOf by_turns times before after script lines → (has_line is_fault lines ≡ true → HasRisen before.faults after.faults) → (HasRisen before.faults after.faults → ⊥) → TellsPlainly script times before lines after
    → TellsSoundTree before → SaysOverSound script times before lines after
sound_says script times before after lines (mounted on) cause none plain sound = said (one_says script times before after lines on.start sound on.mounted plain)
sound_says script times before after lines (unmounted why failed (outcome, told, only)) cause none plain (tree, is, sound) =
    let u = unmarked_so before after why outcome tree is sound failed told (λ fault. none (cause (ap (λ ls. has_line is_fault ls) (only ∙ ap (λ o. line_zero o ∷ []) fault)))) in
    spent tree is u.0 (only ∙ ap (λ o. line_zero o ∷ []) u.1)

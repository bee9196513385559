-- A file that becomes the one that was used last.
use Rattle.std.proofs.Common.{◌≡◌, Bool, true, false, List, [], ◌∷◌, Option, Some, None, Ok, Err, if◌then◌else◌, refl, sym, subst, ◌∙◌, ap, true≢false}
use Rattle.std.specs.Map.{lookup, lookup_entry, remove_entry, set_value}
use Rattle.store_api.specs.declared.step.Answer.{Answer}
use Rattle.store_api.specs.Step.{Step}
use Rattle.lru.specs.LruCache.{lru_cache, promoted}
use Rattle.folder_calls.specs.declared.cache.FileKey.{FileKey}
use Rattle.folder_calls.specs.declared.cache.OpenFiles.{OpenFiles}
use Rattle.folder_calls.specs.declared.failure.Failure.{Failure}
use Rattle.folder_calls.specs.declared.held.Held.{Held}
use Rattle.folder_calls.specs.Acted.{ActsHeld, IsUsedLast}
use Rattle.folder_calls.specs.Calls.{Log}
use Rattle.folder_calls.specs.Keys.{same_file}
use Rattle.folder_calls.specs.OpenFiles.{ActsOpen, held_after}
use Rattle.folder_calls.specs.Opened.{held_at}
use Rattle.folder_calls.proofs.SameFile.{same_file_equiv, found_without, first_passes, through}

-- the value that is found has a key
entry_of : {K X : Type 0} (test : K → Bool) (es : List (K × X)) (one : X) → lookup test es ≡ Some one → (k : K) × (lookup_entry test es ≡ Some (k, one))
entry_of test [] one is = cc
entry_of {K = K} test (e ∷ es) one is = (elim (test e.0) as (λ y. test e.0 ≡ y → (k : K) × (lookup_entry test (e ∷ es) ≡ Some (k, one))) [
  | true ↦ λ t. let is' = rw t at is in let same : e.1 ≡ one = cc in (e.0, rw t (ap (λ x. Some (e.0, x)) same))
  | false ↦ λ t. let on = entry_of test es one (rw t at is) in (on.0, rw t on.1)
]) refl

module _ {X : Type 0} (key : FileKey) (entries : List (FileKey × X)) (one last : X) (is : lookup (same_file key) entries ≡ Some one) where
  abbrev first : FileKey × X
  first = ((entry_of (same_file key) entries one is).0, one)

  found : lookup_entry (same_file key) entries ≡ Some first
  found = (entry_of (same_file key) entries one is).1

  passes : same_file key first.0 ≡ true
  passes = first_passes (same_file key) entries first found

  -- it stands first, in front of the others
  front : set_value (same_file key) (promoted (same_file key) entries) last ≡ (first.0, last) ∷ remove_entry (same_file key) entries
  front = rw (found, passes)

  -- the others stay
  others_found : (other : FileKey) → same_file key other ≡ false → lookup (same_file other) (set_value (same_file key) (promoted (same_file key) entries) last) ≡ lookup (same_file other) entries
  others_found other apart =
      let is_apart : same_file other first.0 ≡ false = (elim (same_file other first.0) as (λ y. same_file other first.0 ≡ y → same_file other first.0 ≡ false) [
        | true ↦ λ t. absurd (true≢false (sym (through key first.0 other passes t) ∙ apart))
        | false ↦ λ t. t
      ]) refl in
      ap (lookup (same_file other)) front ∙ (rw is_apart (found_without (same_file key) (same_file other) entries first found is_apart))

  -- and it is found with its last value
  last_found : (other : FileKey) → same_file key other ≡ true → lookup (same_file other) (set_value (same_file key) (promoted (same_file key) entries) last) ≡ Some last
  last_found other same =
      let also : same_file other first.0 ≡ true = sym (same_file_equiv.congr key other first.0 same) ∙ passes in
      ap (lookup (same_file other)) front ∙ (rw also)

  -- without it the others are left
  left_out : remove_entry (same_file key) (set_value (same_file key) (promoted (same_file key) entries) last) ≡ remove_entry (same_file key) entries
  left_out = ap (remove_entry (same_file key)) front ∙ (rw passes)

isnt_both : {X : Type 0} (place : Option X) (one : X) → place ≡ None → place ≡ Some one → ⊥
isnt_both {X = X} place one none there = let is : ◌≡◌ {A = Option X} None (Some one) = sym none ∙ there in cc

-- the open files with this one as the one that was used last
abbrev pub used_last : {F : Type 0} → OpenFiles F → FileKey → Held F → OpenFiles F
used_last old key last = record { files = lru_cache (set_value (same_file key) (promoted (same_file key) old.files.entries) last) old.files.cap }

module _ {F : Type 0} (old new : OpenFiles F) (key : FileKey) (held : Held F) (log later : Log F) (step : Step) (was_open : held_at old key ≡ Some held) where
  -- a step on an open file was answered
  pub acted : (answer : Answer) (last : Held F) → ActsOpen held log later step (Ok answer) → last ≡ held_after held step answer → IsUsedLast old new key last → ActsHeld old new key log later step (Ok answer)
  acted answer last acts is used =
      let entries = ap (λ files. files.entries) used in
      record {
        held = held;
        was_open = was_open;
        acts = acts;
        kept = subst (λ (one : Held F). IsUsedLast old new key one) is used;
        closed = tt;
        its = λ other one same there.
            let found = sym there ∙ ap (lookup (same_file other)) entries ∙ last_found key old.files.entries held last was_open other same in
            let its_last : one ≡ last = cc in
            its_last ∙ is;
        others = λ other apart. ap (lookup (same_file other)) entries ∙ others_found key old.files.entries held last was_open other apart;
      }

  -- a step on an open file failed, and it was closed
  pub failed : (failure : Failure) (between : OpenFiles F) (last : Held F) → ActsOpen held log later step (Err failure) → IsUsedLast old between key last → new.files.entries ≡ remove_entry (same_file key) between.files.entries → ((other : FileKey) → held_at new other ≡ (if same_file key other then None else held_at between other)) → ActsHeld old new key log later step (Err failure)
  failed failure between last acts used closed left =
      let entries = ap (λ files. files.entries) used in
      record {
        held = held;
        was_open = was_open;
        acts = acts;
        kept = tt;
        closed = closed ∙ ap (remove_entry (same_file key)) entries ∙ left_out key old.files.entries held last was_open;
        its = λ other one same there. absurd (isnt_both (held_at new other) one (left other ∙ ap (λ is_it. if is_it then None else held_at between other) same) there);
        others = λ other apart.
            let stays = rw apart at (left other) in
            stays ∙ ap (lookup (same_file other)) entries ∙ others_found key old.files.entries held last was_open other apart;
      }

-- The file that writes make which one writer placed one behind the other.
use Rattle.std.proofs.Common.{◌≡◌, ℕ, ◌+◌, ◌≤◌, false, List, [], ◌∷◌, ◌++◌, length, drop, map, refl, sym, ap, ◌∙◌, arith, append_assoc, length-append}
use Rattle.std.specs.Prelude.{◌==◌}
use Rattle.std.specs.List.{AllByRecursion}
use Rattle.std.proofs.lemmas.Grind.{common_steps}
use Rattle.std.proofs.lemmas.List.{append-nil}
use Rattle.plfs_types.specs.declared.entries.Entry.{Entry}
use Rattle.plain_file.specs.declared.changes.Change.{Change}
use Rattle.plain_file.specs.declared.changes.Change.TheVariants.{Write}
use Rattle.plain_file.specs.File.{applied, file_after, plain, sized}
use Rattle.plain_file.specs.Order.{newest_first}
use Rattle.mount_sound.specs.Entries.{AreEntriesOf}
use Rattle.mount_sound.specs.Ledger.{AreFull, Written, entries_in}
use Rattle.mount_sound.specs.Ledger.{change_of}
use Rattle.copy_core.specs.Blocks.{joined}
use Rattle.put_program.specs.Copied.{ArePlaced}
use Rattle.put_program.proofs.Copyings.Newest.{IsBefore, all_sorted, insert_last}

-- ---- changes behind each other

-- the file after changes of which the newest stands first, from this one on
abbrev pub file_over : List ℕ → List Change → List ℕ
file_over file [] = file
file_over file (c ∷ older) = applied (file_over file older) c

pub over_none : (changes : List Change) → file_over [] changes ≡ file_after changes
over_none [] = refl
over_none (c ∷ older) = ap (λ file. applied file c) (over_none older)

over_last : (file : List ℕ) (changes : List Change) (c : Change) → file_over file (changes ++ c ∷ []) ≡ file_over (applied file c) changes
over_last file [] c = refl
over_last file (d ∷ changes) c = ap (λ f. applied f d) (over_last file changes c)

-- the files of two lists of changes, one behind the other
pub over_both : (newer older : List Change) → file_after (newer ++ older) ≡ file_over (file_after older) newer
over_both [] older = refl
over_both (c ∷ newer) older = ap (λ file. applied file c) (over_both newer older)

-- ---- the oldest change stands last

later_newer : (writer last offset : ℕ) (e : Entry) (bytes : List ℕ) (writes : List Written) → e.stamp ≤ last → AreEntriesOf writer last offset (entries_in writes) → AllByRecursion (IsBefore (Write e bytes)) (map change_of writes)
later_newer writer last offset e bytes [] low are = tt
later_newer writer last offset e bytes (w ∷ writes) low are =
    (omega (arith, low, are.0.later), later_newer writer w.entry.stamp (offset + w.entry.len) e bytes writes (omega (arith, low, are.0.later)) are.1)

-- ---- a write behind the last byte

behind_last : (file : List ℕ) (e : Entry) (bytes : List ℕ) → e.at ≡ length file → length bytes ≡ e.len → 1 ≤ e.len → applied file (Write e bytes) ≡ file ++ bytes
behind_last file e bytes at long some =
    let not_none : (e.len == 0) ≡ false = grind (arith, some) in
    let front : sized e.at file ≡ file = grind (arith, common_steps, at) in
    let back : drop (e.at + e.len) file ≡ [] = grind (arith, common_steps, at) in
    rw not_none (ap (λ f. f ++ bytes ++ drop (e.at + e.len) file) front ∙ ap (λ b. file ++ bytes ++ b) back ∙ append-nil (file ++ bytes))

-- the blocks stand one behind the other
blocks_behind : (writer last offset at : ℕ) (blocks : List (List ℕ)) (writes : List Written) (file : List ℕ) → AreEntriesOf writer last offset (entries_in writes) → AreFull writes → ArePlaced at blocks writes → length file ≡ at
    → file_over file (newest_first (map change_of writes)) ≡ file ++ joined blocks
blocks_behind writer last offset at [] [] file are full placed long = sym (append-nil file)
blocks_behind writer last offset at [] (w ∷ writes) file are full placed long = absurd placed
blocks_behind writer last offset at (b ∷ blocks) [] file are full placed long = absurd placed
blocks_behind writer last offset at (b ∷ blocks) (w ∷ writes) file are full (here, same, others) long =
    let c : Change = change_of w in
    let rest : List Change = newest_first (map change_of writes) in
    let newer : AllByRecursion (IsBefore c) rest = all_sorted (IsBefore c) (map change_of writes) (later_newer writer w.entry.stamp (offset + w.entry.len) w.entry w.bytes writes (omega arith) are.1) in
    let next : applied file c ≡ file ++ b = behind_last file w.entry w.bytes (here ∙ sym long) full.0 are.0.some ∙ ap (λ bytes. file ++ bytes) same in
    let longer : length (file ++ b) ≡ at + length b = length-append file b ∙ ap (λ n. n + length b) long in
    ap (file_over file) (insert_last c rest newer)
    ∙ over_last file rest c
    ∙ ap (λ f. file_over f rest) next
    ∙ blocks_behind writer w.entry.stamp (offset + w.entry.len) (at + length b) blocks writes (file ++ b) are.1 full.1 others longer
    ∙ append_assoc file b (joined blocks)

-- so the file of such writes alone are the blocks
pub plain_blocks : (writer : ℕ) (blocks : List (List ℕ)) (writes : List Written) → AreEntriesOf writer 0 0 (entries_in writes) → AreFull writes → ArePlaced 0 blocks writes → plain (map change_of writes) ≡ joined blocks
plain_blocks writer blocks writes are full placed = sym (over_none (newest_first (map change_of writes))) ∙ blocks_behind writer 0 0 0 blocks writes [] are full placed refl

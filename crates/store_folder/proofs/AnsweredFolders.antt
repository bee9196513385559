-- Where a step on a folder or on a file's name is answered, none of the calls that it made failed.
use Rattle.std.proofs.Common.{ℕ, List, [], ◌∷◌, nat_eq, if◌then◌else◌, true, false, Ok, refl, ◌∙◌}
use Rattle.std.specs.Cmp.Lexicographic.{pointwise}
use Rattle.store_api.specs.declared.step.Answer.{Answer}
use Rattle.store_api.specs.declared.step.Answer.TheVariants.{Made, Old, Absent, NoRoom, NoFolder, NotEmpty, TargetThere, Names, Number, Bytes, Beyond}
use Rattle.folder_calls.specs.declared.reason.Kind.TheVariants.{File, Folder}
use Rattle.folder_calls.specs.Calls.{Log, Makes, looked_at, renamed_item, synced_folder}
use Rattle.store_folder.specs.Files.{CreatesFile, RemovesFile, ReplacesFile, FindsNoFile, renaming}
use Rattle.store_folder.specs.Folders.{MakesFolder, RemovesTop, RemovesItem, RemovesFolder, TellsFolder}
use Rattle.store_folder.specs.Paths.{item_of}
use Rattle.store_folder.proofs.Answered.{NoneFailed, two, three, four}

module _ {F : Type 0} (log later : Log F) (room folder : List ℕ) where
  pub folder_made : (answer : Answer) → MakesFolder log later room folder answer → NoneFailed log later
  folder_made Made made = three _ _ _ _ _ made refl refl refl
  folder_made (Old number) made = three _ _ _ _ _ made.1 refl refl refl
  folder_made Absent made = absurd made
  folder_made NoRoom made = absurd made
  folder_made NoFolder made = absurd made
  folder_made (NotEmpty least) made = absurd made
  folder_made TargetThere made = absurd made
  folder_made (Names names) made = absurd made
  folder_made (Number value) made = absurd made
  folder_made (Bytes bytes) made = absurd made
  folder_made Beyond made = absurd made

  top_kept : (answer : Answer) → RemovesTop log later room answer → NoneFailed log later
  top_kept Made made = two _ _ _ _ made refl refl
  top_kept (NotEmpty least) made = two _ _ _ _ made.1 refl refl
  top_kept (Old number) made = absurd made
  top_kept Absent made = absurd made
  top_kept NoRoom made = absurd made
  top_kept NoFolder made = absurd made
  top_kept TargetThere made = absurd made
  top_kept (Names names) made = absurd made
  top_kept (Number value) made = absurd made
  top_kept (Bytes bytes) made = absurd made
  top_kept Beyond made = absurd made

  item_removed : (answer : Answer) → RemovesItem log later room folder answer → NoneFailed log later
  item_removed Made made = three _ _ _ _ _ made refl refl refl
  item_removed (NotEmpty least) made = three _ _ _ _ _ made.1 refl refl refl
  item_removed NoFolder made = two _ _ _ _ made refl refl
  item_removed (Old number) made = absurd made
  item_removed Absent made = absurd made
  item_removed NoRoom made = absurd made
  item_removed TargetThere made = absurd made
  item_removed (Names names) made = absurd made
  item_removed (Number value) made = absurd made
  item_removed (Bytes bytes) made = absurd made
  item_removed Beyond made = absurd made

  pub folder_told : (answer : Answer) → TellsFolder log later room folder answer → NoneFailed log later
  folder_told (Names names) made = three _ _ _ _ _ made.1 refl refl refl
  folder_told NoFolder made = two _ _ _ _ made.2 refl refl
  folder_told Made made = absurd made
  folder_told (Old number) made = absurd made
  folder_told Absent made = absurd made
  folder_told NoRoom made = absurd made
  folder_told (NotEmpty least) made = absurd made
  folder_told TargetThere made = absurd made
  folder_told (Number value) made = absurd made
  folder_told (Bytes bytes) made = absurd made
  folder_told Beyond made = absurd made

  pub file_created : (file : List ℕ) (answer : Answer) → CreatesFile log later room folder file answer → NoneFailed log later
  file_created file Made made = four _ _ _ _ _ _ made.1 refl refl refl refl
  file_created file (Old number) made = four _ _ _ _ _ _ made.1.1 refl refl refl refl
  file_created file NoFolder made = two _ _ _ _ made.2 refl refl
  file_created file Absent made = absurd made
  file_created file NoRoom made = absurd made
  file_created file (NotEmpty least) made = absurd made
  file_created file TargetThere made = absurd made
  file_created file (Names names) made = absurd made
  file_created file (Number value) made = absurd made
  file_created file (Bytes bytes) made = absurd made
  file_created file Beyond made = absurd made

  pub file_removed : (file : List ℕ) (answer : Answer) → RemovesFile log later room folder file answer → NoneFailed log later
  file_removed file Made made = four _ _ _ _ _ _ made refl refl refl refl
  file_removed file Absent made = three _ _ _ _ _ made refl refl refl
  file_removed file NoFolder made = two _ _ _ _ made.2 refl refl
  file_removed file (Old number) made = absurd made
  file_removed file NoRoom made = absurd made
  file_removed file (NotEmpty least) made = absurd made
  file_removed file TargetThere made = absurd made
  file_removed file (Names names) made = absurd made
  file_removed file (Number value) made = absurd made
  file_removed file (Bytes bytes) made = absurd made
  file_removed file Beyond made = absurd made

  -- a file that was found, and then got another name or had it
  renamed : (from to : List ℕ) (len : ℕ) → Makes (looked_at room (Ok Folder) ∷ looked_at folder (Ok Folder) ∷ looked_at (item_of folder from) (Ok (File len)) ∷ renaming folder from to) log later → NoneFailed log later
  renamed from to len =
      elim (pointwise nat_eq from to) as (λ b. Makes (looked_at room (Ok Folder) ∷ looked_at folder (Ok Folder) ∷ looked_at (item_of folder from) (Ok (File len)) ∷ (if b then [] else renamed_item (item_of folder from) (item_of folder to) (Ok tt) ∷ synced_folder folder (Ok tt) ∷ [])) log later → NoneFailed log later) [
        | true ↦ λ made. three _ _ _ _ _ made refl refl refl
        | false ↦ λ made. two _ _ _ _ made refl refl ∙ three _ _ _ _ _ refl refl refl refl
      ]

  pub file_replaced : (from to : List ℕ) (answer : Answer) → ReplacesFile log later room folder from to answer → NoneFailed log later
  file_replaced from to Made made = renamed from to made.0 made.1
  file_replaced from to Absent made = three _ _ _ _ _ made refl refl refl
  file_replaced from to NoFolder made = two _ _ _ _ made.2 refl refl
  file_replaced from to (Old number) made = absurd made
  file_replaced from to NoRoom made = absurd made
  file_replaced from to (NotEmpty least) made = absurd made
  file_replaced from to TargetThere made = absurd made
  file_replaced from to (Names names) made = absurd made
  file_replaced from to (Number value) made = absurd made
  file_replaced from to (Bytes bytes) made = absurd made
  file_replaced from to Beyond made = absurd made

  pub no_file_found : (file : List ℕ) (answer : Answer) → FindsNoFile log later room folder file answer → NoneFailed log later
  no_file_found file Absent made = three _ _ _ _ _ made refl refl refl
  no_file_found file NoFolder made = two _ _ _ _ made.2 refl refl
  no_file_found file Made made = absurd made
  no_file_found file (Old number) made = absurd made
  no_file_found file NoRoom made = absurd made
  no_file_found file (NotEmpty least) made = absurd made
  no_file_found file TargetThere made = absurd made
  no_file_found file (Names names) made = absurd made
  no_file_found file (Number value) made = absurd made
  no_file_found file (Bytes bytes) made = absurd made
  no_file_found file Beyond made = absurd made

-- a folder of this name, or the top
pub folder_removed : {F : Type 0} (log later : Log F) (room folder : List ℕ) (answer : Answer) → RemovesFolder log later room folder answer → NoneFailed log later
folder_removed log later room [] answer made = top_kept log later room room answer made
folder_removed log later room (byte ∷ rest) answer made = item_removed log later room (item_of room (byte ∷ rest)) answer made

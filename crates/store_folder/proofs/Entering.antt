-- Folders that can't be entered, and files that can't be opened.
use Rattle.std.proofs.Common.{◌≡◌, ◌⊎◌, inl, inr, ℕ, List, [], ◌∷◌, Result, Ok, Err, ap, subst, sym, ◌∙◌}
use Rattle.std.specs.Prelude.{OnErr, IfErr, IfOk, ⊤}
use Rattle.folder_calls.specs.declared.failure.Failure.{Failure}
use Rattle.folder_calls.specs.declared.reason.Kind.{Kind}
use Rattle.folder_calls.specs.declared.reason.Kind.TheVariants.{Absent as Nothing, File, Folder, Other}
use Rattle.folder_calls.specs.Calls.{Call, Log, Makes, with_call, looked_at}
use Rattle.store_folder.specs.Files.{FailsToOpen, uncalled, entering, opening, measuring}
use Rattle.store_folder.specs.Folders.{FailsToEnter, IsNoEntry, IsNoFolder, IsInTheWay, at_folder}

-- what holds anyway holds where a call failed
pub on_err : {A E : Type 0} (result : Result A E) (P : Type 0) → P → OnErr result P
on_err (Ok value) P holds = tt
on_err (Err failure) P holds = holds

-- and what follows where it failed
pub on_err_map : {A E : Type 0} (result : Result A E) (P Q : Type 0) → (P → Q) → OnErr result P → OnErr result Q
on_err_map (Ok value) P Q follows holds = tt
on_err_map (Err failure) P Q follows holds = follows holds

-- and what holds of the failure
pub if_err : {A E : Type 0} (result : Result A E) (failure : E) (P : E → Type 0) → result ≡ Err failure → P failure → IfErr result P
if_err {A} {E} result failure P same holds =
    let Holds : Result A E → Type 0 = λ ended. IfErr ended P in
    subst Holds (sym same) holds

-- what follows of each failure
pub if_err_map : {A E : Type 0} (result : Result A E) (P Q : E → Type 0) → ((failure : E) → P failure → Q failure) → IfErr result P → IfErr result Q
if_err_map (Ok value) P Q follows holds = tt
if_err_map (Err failure) P Q follows holds = follows failure holds

-- and of each answer
pub if_ok_map : {A E : Type 0} (result : Result A E) (P Q : A → Type 0) → ((value : A) → P value → Q value) → IfOk result P → IfOk result Q
if_ok_map (Ok value) P Q follows holds = follows value holds
if_ok_map (Err failure) P Q follows holds = tt

-- what holds of the failure that came holds of this one
pub of_failure : {A E : Type 0} (result : Result A E) (failure : E) (P : E → Type 0) → result ≡ Err failure → IfErr result P → P failure
of_failure {A} {E} result failure P is holds =
    let Holds : Result A E → Type 0 = λ ended. IfErr ended P in
    subst Holds is holds

-- what holds of each failure holds where one came
pub if_any_err : {A E : Type 0} (result : Result A E) (P : E → Type 0) → ((failure : E) → P failure) → IfErr result P
if_any_err (Ok value) P holds = tt
if_any_err (Err failure) P holds = holds failure

-- a look by the text of a path is one at the path
pub look_by_path : {F : Type 0} (log later : Log F) (shown path : List ℕ) (end : Result Kind Failure) → shown ≡ path → Makes (looked_at shown end ∷ []) log later → Makes (looked_at path end ∷ []) log later
look_by_path log later shown path end is made =
    let At : List ℕ → Type 0 = λ text. Makes (looked_at text end ∷ []) log later in
    subst At is made

-- one call more, behind those before it
pub behind : {F : Type 0} (before between later : Log F) (call : Call F) → later ≡ with_call between call → between ≡ before → later ≡ with_call before call
behind before between later call made same = made ∙ ap (λ log. with_call log call) same

-- what stands in the way is no folder to enter
pub no_entry : (end : Result Kind Failure) → IsInTheWay end → IsNoEntry end
no_entry (Ok Nothing) stands = tt
no_entry (Ok (File len)) stands = tt
no_entry (Ok Folder) stands = stands
no_entry (Ok Other) stands = tt
no_entry (Err failure) stands = tt

-- and neither is what is no folder
pub no_folder_there : (kind : Kind) → IsNoFolder kind → IsNoEntry (Ok kind)
no_folder_there Nothing stands = tt
no_folder_there (File len) stands = tt
no_folder_there Folder stands = stands
no_folder_there Other stands = tt

-- what follows of a failure, and what holds where one came
pub with_failed : {A E : Type 0} (result : Result A E) (P : E → Type 0) (Q : Type 0) → IfErr result P → OnErr result Q → IfErr result (λ failure. P failure × Q)
with_failed (Ok value) P Q holds also = tt
with_failed (Err failure) P Q holds also = (holds, also)

-- what is said by the texts of paths is said by the paths, or no call was made
pub fails_or_not : {A : Type 0} (result : Result A Failure) (shown_room room shown_folder folder : List ℕ) (V U : Failure → Type 0) (P : List ℕ → List ℕ → Failure → Type 0) → shown_room ≡ room → shown_folder ≡ folder → ((failure : Failure) → V failure → U failure) → IfErr result (λ failure. V failure ⊎ P shown_room shown_folder failure) → IfErr result (λ failure. U failure ⊎ P room folder failure)
fails_or_not (Ok value) shown_room room shown_folder folder V U P is also follows fails = tt
fails_or_not (Err failure) shown_room room shown_folder folder V U P is also follows (inl none) = inl (follows failure none)
fails_or_not (Err failure) shown_room room shown_folder folder V U P is also follows (inr fails) =
    let InRoom : List ℕ → Type 0 = λ path. P path shown_folder failure in
    let InFolder : List ℕ → Type 0 = λ path. P room path failure in
    inr (subst InFolder also (subst InRoom is fails))

pub fails_by_paths : {A : Type 0} (result : Result A Failure) (shown_room room shown_folder folder : List ℕ) (U : Failure → Type 0) (P : List ℕ → List ℕ → Failure → Type 0) → shown_room ≡ room → shown_folder ≡ folder → IfErr result (P shown_room shown_folder) → IfErr result (λ failure. U failure ⊎ P room folder failure)
fails_by_paths (Ok value) shown_room room shown_folder folder U P is also fails = tt
fails_by_paths (Err failure) shown_room room shown_folder folder U P is also fails =
    let InRoom : List ℕ → Type 0 = λ path. P path shown_folder failure in
    let InFolder : List ℕ → Type 0 = λ path. P room path failure in
    inr (subst InFolder also (subst InRoom is fails))

module _ {F : Type 0} (log between later : Log F) (room folder : List ℕ) where
  -- the look at the folder comes after that at the room
  pub stops_at_folder : (shown : List ℕ) (end : Result Kind Failure) → shown ≡ folder → Makes (looked_at room (Ok Folder) ∷ []) log between → IsInTheWay end → Makes (looked_at shown end ∷ []) between later → FailsToEnter log later room folder
  stops_at_folder shown end same there none looks =
      at_folder end none (looks ∙ (ap (λ path. with_call between (looked_at path end)) same ∙ ap (λ before. with_call before (looked_at folder end)) there))

module _ {F : Type 0} (log later : Log F) (named : Type 0) (file : List ℕ) where
  -- an opening that got to its calls failed in one of them, whatever its names are
  reached : (room folder : List ℕ) (failure : Failure) → FailsToOpen log later ⊤ room folder file failure → FailsToOpen log later named room folder file failure
  reached room folder failure (uncalled memory same) = uncalled (λ _. memory tt) same
  reached room folder failure (entering failed fails) = entering failed fails
  reached room folder failure (opening fails) = opening fails
  reached room folder failure (measuring made fails) = measuring made fails

  pub opens_named : {A : Type 0} (room folder shown_room shown_folder : List ℕ) (result : Result A Failure) → shown_room ≡ room → shown_folder ≡ folder → IfErr result (FailsToOpen log later ⊤ shown_room shown_folder file) → IfErr result (FailsToOpen log later named room folder file)
  opens_named room folder shown_room shown_folder (Ok value) same_room same_folder fails = tt
  opens_named room folder shown_room shown_folder (Err failure) same_room same_folder fails =
      let InRoom : List ℕ → Type 0 = λ path. FailsToOpen log later named path shown_folder file failure in
      let InFolder : List ℕ → Type 0 = λ path. FailsToOpen log later named room path file failure in
      subst InFolder same_folder (subst InRoom same_room (reached shown_room shown_folder failure fails))

-- Answers of the store that show no damage, where what they speak of is there.
use Rattle.std.proofs.Common.{◌≡◌, ◌≤◌, ℕ, List, length, Option, Some, None, Bool, true, false, refl, ap, sym, inl, inr, subst, arith}
use Rattle.std.specs.Prelude.{slice_get, Ok}
use Rattle.plfs_types.specs.declared.names.Path.{Path}
use Rattle.store_api.specs.declared.step.Answer.{Answer}
use Rattle.store_api.specs.declared.step.Answer.TheVariants.{Old, Absent, NoRoom, NoFolder, Beyond}
use Rattle.store_api.specs.declared.tree.Room.{Room}
use Rattle.store_api.specs.declared.tree.Tree.{Tree}
use Rattle.store_api.specs.Room.{has_folder}
use Rattle.store_api.specs.Step.{Step, Name}
use Rattle.store_laws.specs.Files.{file_at}
use Rattle.store_laws.specs.Says.{WhyNoFolderMade, WhyNotCreated, WhyNoFile, WhyNotWritten}
use Rattle.store_laws.specs.Tells.{Tells}
use Rattle.store_laws.specs.There.{LacksFolder, HoldsFile, LacksFile, EndsBefore}
use Rattle.store_laws.proofs.Facts.{acts_told}
use Rattle.mount_model.specs.declared.reply.Reply.{Reply}
use Rattle.mount_model.specs.declared.reply.Refusal.{Refusal}
use Rattle.mount_model.specs.declared.reply.Refusal.TheVariants.{NotHolder, NotOpen}
use Rattle.mount_model.specs.declared.row.Row.{Row}
use Rattle.mount_model.specs.declared.row.Stage.{Stage}
use Rattle.mount_model.specs.declared.row.Holder.{Holder}
use Rattle.mount_model.specs.declared.row.Flattening.{Flattening}
use Rattle.mount_model.specs.declared.row.FlatStage.{FlatStage}
use Rattle.mount_model.specs.Flattening.{OnFlattening}
use Rattle.mount_model.specs.Holding.{OnHolder}
use Rattle.mount_model.specs.Making.{Told, CallOutcome, otherwise, MakesAct, Refuses, OnWriter, UnlessRefused}
use Rattle.mount_model.specs.State.{State}
use Rattle.mount_model.specs.Table.{flattening_of, holder_of, writer_of}
use Rattle.mount_model.proofs.Facts.{IsHeld, IsUnderway, is_held, is_underway, match_cases}
use Rattle.mount_undamaged.specs.Damage.{ShowsNoDamage}

-- ---- what is there is not lacking

pub one_room : (a b : Room) (o : Option Room) → o ≡ Some a → o ≡ Some b → a ≡ b
one_room a b o p q = cc

both_folders : (room : Room) (folder : Name) → has_folder room folder ≡ true → has_folder room folder ≡ false → ⊥
both_folders room folder p q = cc

both_files : (bytes : List ℕ) (o : Option (List ℕ)) → o ≡ Some bytes → o ≡ None → ⊥
both_files bytes o p q = cc

same_bytes : (a b : List ℕ) (o : Option (List ℕ)) → o ≡ Some a → o ≡ Some b → a ≡ b
same_bytes a b o p q = cc

pub folder_there : (tree : Tree) (n : ℕ) (room : Room) (folder : Name) → slice_get tree.rooms n ≡ Some room → has_folder room folder ≡ true → LacksFolder tree n folder → ⊥
folder_there tree n room folder there has l = both_folders room folder has (subst (λ r. has_folder r folder ≡ false) (one_room l.room room (slice_get tree.rooms n) l.has_room there) l.none)

pub file_there : (tree : Tree) (n : ℕ) (room : Room) (path : Path) (bytes : List ℕ) → slice_get tree.rooms n ≡ Some room → file_at room path ≡ Some bytes → LacksFile tree n path → ⊥
file_there tree n room path bytes there has l = both_files bytes (file_at room path) has (subst (λ r. file_at r path ≡ None) (one_room l.room room (slice_get tree.rooms n) l.has_room there) l.none)

pub no_file_there : (tree : Tree) (n : ℕ) (room : Room) (path : Path) → slice_get tree.rooms n ≡ Some room → file_at room path ≡ None → HoldsFile tree n path → ⊥
no_file_there tree n room path there none h = both_files h.bytes (file_at room path) (subst (λ r. file_at r path ≡ Some h.bytes) (one_room h.room room (slice_get tree.rooms n) h.has_room there) h.there) none

pub long_enough : (tree : Tree) (n : ℕ) (room : Room) (path : Path) (bytes : List ℕ) (at : ℕ) → slice_get tree.rooms n ≡ Some room → file_at room path ≡ Some bytes → at ≤ length bytes → EndsBefore tree n path at → ⊥
long_enough tree n room path bytes at there has within e =
    let same : e.0.bytes ≡ bytes = same_bytes e.0.bytes bytes (file_at room path) (subst (λ r. file_at r path ≡ Some e.0.bytes) (one_room e.0.room room (slice_get tree.rooms n) e.0.has_room there) e.0.there) has in
    omega (arith, e.1, within, ap length same)

-- ---- answers without a line of their own

pub folder_other : (tree : Tree) (n : ℕ) (at : Name) (answer : Answer) (folder file : Name) → WhyNoFolderMade tree n at answer → ((k : ℕ) → answer ≡ Old k → ⊥) → ShowsNoDamage (otherwise folder file (Ok answer))
folder_other tree n at NoRoom folder file why old = tt
folder_other tree n at (Old k) folder file why old = absurd (old k refl)
folder_other tree n at answer folder file why old = absurd why

pub create_other : (tree : Tree) (n : ℕ) (path : Path) (answer : Answer) (folder file : Name) → WhyNotCreated tree n path answer → (answer ≡ NoFolder → LacksFolder tree n path.folder → ⊥) → ((k : ℕ) → answer ≡ Old k → HoldsFile tree n path → ⊥) → ShowsNoDamage (otherwise folder file (Ok answer))
create_other tree n path NoRoom folder file why housed old = tt
create_other tree n path NoFolder folder file why housed old = absurd (housed refl why)
create_other tree n path (Old k) folder file why housed old = absurd (old k refl why.1)
create_other tree n path answer folder file why housed old = absurd why

-- the file is there
pub record IsThere (tree : Tree) (n : ℕ) (path : Path) : Type 0 where
  pub housed : LacksFolder tree n path.folder → ⊥
  pub filed : LacksFile tree n path → ⊥

pub file_other : (tree : Tree) (n : ℕ) (path : Path) (answer : Answer) (folder file : Name) → WhyNoFile tree n path answer → IsThere tree n path → ShowsNoDamage (otherwise folder file (Ok answer))
file_other tree n path NoRoom folder file why i = tt
file_other tree n path NoFolder folder file why i = absurd (i.housed why)
file_other tree n path Absent folder file why i = absurd (i.filed why)
file_other tree n path answer folder file why i = absurd why

pub write_other : (tree : Tree) (n : ℕ) (path : Path) (at : ℕ) (answer : Answer) (folder file : Name) → WhyNotWritten tree n path at answer → IsThere tree n path → (EndsBefore tree n path at → ⊥) → ShowsNoDamage (otherwise folder file (Ok answer))
write_other tree n path at Beyond folder file why i long = absurd (long why)
write_other tree n path at NoRoom folder file why i long = tt
write_other tree n path at NoFolder folder file why i long = absurd (i.housed why)
write_other tree n path at Absent folder file why i long = absurd (i.filed why)
write_other tree n path at answer folder file why i long = absurd why

-- ---- calls

refused_shows : (why : Refusal) (old : State) (reply : Reply) (new : State) → Refuses why old reply new → ShowsNoDamage reply
refused_shows why old reply new r = subst ShowsNoDamage (sym r.0) tt

pub makes_show : (step : Step) (outcome : Told → CallOutcome) (from : State) (reply : Reply) (new : State) (tree : Tree) → from.store.tree ≡ Some tree → ((told : Told) (after : Tree) → Tells step tree told after → ShowsNoDamage (outcome told).reply) → MakesAct step outcome from reply new → ShowsNoDamage reply
makes_show step outcome from reply new tree e shows m =
    let t = acts_told step from.store new.store tree m.told e m.made in
    subst ShowsNoDamage (sym m.answered) (shows m.told t.0 t.2)

pub writer_shows : (caller : ℕ) (stages : Stage → Bool) (id : ℕ) (old : State) (reply : Reply) (new : State) (does : Row → Type 0) → OnWriter caller stages id old reply new does → ((row : Row) → IsHeld caller stages id old.table.writers row → does row → ShowsNoDamage reply) → ShowsNoDamage reply
writer_shows caller stages id old reply new does on shows = elim (match_cases (writer_of caller stages id old.table.writers) (Refuses NotOpen old reply new) does on) as (λ _. ShowsNoDamage reply) [
  | inl (none, refused) ↦ refused_shows NotOpen old reply new refused
  | inr (row, is, made) ↦ shows row (is_held caller stages id old.table.writers row is) made
]

pub holder_shows : (caller number : ℕ) (old : State) (reply : Reply) (new : State) (does : Holder → Type 0) → OnHolder caller number old reply new does → ((h : Holder) → holder_of caller number old.table.holders ≡ Some h → does h → ShowsNoDamage reply) → ShowsNoDamage reply
holder_shows caller number old reply new does on shows = elim (match_cases (holder_of caller number old.table.holders) (Refuses NotHolder old reply new) does on) as (λ _. ShowsNoDamage reply) [
  | inl (none, refused) ↦ refused_shows NotHolder old reply new refused
  | inr (h, is, made) ↦ shows h is made
]

pub flattening_shows : (caller : ℕ) (stage : FlatStage) (id : ℕ) (old : State) (reply : Reply) (new : State) (does : Flattening → Type 0) → OnFlattening caller stage id old reply new does → ((f : Flattening) → IsUnderway caller stage id old.table.flattenings f → does f → ShowsNoDamage reply) → ShowsNoDamage reply
flattening_shows caller stage id old reply new does on shows = elim (match_cases (flattening_of caller stage id old.table.flattenings) (Refuses NotOpen old reply new) does on) as (λ _. ShowsNoDamage reply) [
  | inl (none, refused) ↦ refused_shows NotOpen old reply new refused
  | inr (f, is, made) ↦ shows f (is_underway caller stage id old.table.flattenings f is) made
]

pub check_shows : (check : Option Refusal) (old : State) (reply : Reply) (new : State) (does : Type 0) → UnlessRefused check old reply new does → (check ≡ None → does → ShowsNoDamage reply) → ShowsNoDamage reply
check_shows check old reply new does on shows = elim (match_cases check does (λ why. Refuses why old reply new) on) as (λ _. ShowsNoDamage reply) [
  | inl (none, made) ↦ shows none made
  | inr (why, some, refused) ↦ refused_shows why old reply new refused
]

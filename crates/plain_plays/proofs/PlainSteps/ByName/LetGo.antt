-- A room that a caller had to itself is let go: the machine has the room that it came to.
use Rattle.std.proofs.Common.{◌≡◌, ◌+◌, ℕ, Bool, false, List, Option, Some, Result, refl, sym, ap, ◌∙◌, subst}
use Rattle.std.specs.Prelude.{slice_get}
use Rattle.plfs_types.specs.declared.entries.Trunc.{Trunc}
use Rattle.plfs_types.specs.declared.names.Path.{Path}
use Rattle.script_lang.specs.declared.line.Outcome.{Outcome}
use Rattle.script_lang.specs.declared.script.ActorDecl.{ActorDecl}
use Rattle.script_lang.specs.declared.script.Statement.{Statement}
use Rattle.store_api.specs.declared.tree.Room.{Room}
use Rattle.store_api.specs.Room.{has_folder}
use Rattle.store_laws.specs.Files.{SameButFolder, file_at}
use Rattle.store_laws.proofs.Facts.{file_at_same}
use Rattle.mount_model.specs.History.{Event}
use Rattle.mount_model.specs.Paths.{Name, index_path, log_path, open_path}
use Rattle.container_layout.specs.Paths.{openhosts}
use Rattle.mount_model.specs.Table.{holder_of}
use Rattle.mount_sound.specs.Owed.{IsLawful}
use Rattle.mount_model.specs.declared.stuck.Stuck.{Stuck}
use Rattle.mount_model.specs.Running.{Runs}
use Rattle.reader_laws.specs.GatheringListing.{AreTruncsAt}
use Rattle.reader_laws.specs.Moments.{IsSoundAt, Moment, moment_after}
use Rattle.outcomes.specs.Outcomes.{or_stuck}
use Rattle.trunc_rename.specs.Holding.{lets_go}
use Rattle.writer_flow.specs.declared.handle.WriterHandle.{WriterHandle}
use Rattle.plain_machine.specs.Machine.{Plain, PlainActor, PlainRoom, PlainWriter}
use Rattle.plain_machine.specs.Statements.{Takes}
use Rattle.mount_model.specs.History.{AreBy}
use Rattle.plain_plays.specs.Mirrors.{Mirrors, MirrorsRoom}
use Rattle.plain_plays.specs.Served.{GoesWell}
use Rattle.plain_plays.specs.Stepping.{HasActor, TakesStep}
use Rattle.plain_plays.proofs.PlainSteps.ByName.Holding.{HasToItself, IsLetGo, lets_it_go}
use Rattle.plain_plays.proofs.PlainSteps.ByName.Turning.{KeepsDroppings, Turns, room_so, turned_takes, turns_both}

pub folder_files : (old new : Room) (folder : Name) → SameButFolder folder old new → (path : Path) → file_at new path ≡ file_at old path
folder_files old new folder same path = file_at_same old new path same.files

abbrev pub plain_room : Name → Bool → List Trunc → List PlainWriter → PlainRoom
plain_room name is_held truncs writers = record { name = name; is_held = is_held; truncs = truncs; writers = writers }

-- What was done in the meantime: the room is that one at this moment, still without its folder, and the caller has it still.
pub record HasDone (n : ℕ) (old new : Room) (m next : Moment) : Type 0 where
  pub turns : Turns n old new m next
  pub folder : has_folder new openhosts ≡ has_folder old openhosts
  pub holders : next.state.table.holders ≡ m.state.table.holders
  pub serial : next.state.serial ≡ m.state.serial

module _ {R : Type 0} (says : R → Outcome) (m : Moment) (me : ℕ) (p : Plain) (actor : PlainActor) (handle : Option WriterHandle) (declared : ActorDecl) (statement : Statement) (o : Mirrors m p) (has : HasActor m me p handle actor) (n : ℕ) (room : PlainRoom) (there : slice_get p.rooms n ≡ Some room) (holder : ℕ) (x : Moment) (h : HasToItself me n holder m x) (shows : MirrorsRoom m n h.old room)
    (y : Moment) (y_sound : IsSoundAt y) (new : Room) (d : HasDone n h.new new x y) (kept : KeepsDroppings h.new new) (events : List Event) (result out : Result R Stuck) (lawful : IsLawful y.state events) (well : GoesWell me events) (by : AreBy me events) (runs : Runs me (lets_go holder result) events out) where
  abbrev Last : Moment
  Last = moment_after y events

  pub gone : IsLetGo n new y Last result out
  gone = lets_it_go y y_sound me n holder new d.turns.now (d.folder ∙ h.shut) h.h (subst (λ hs. holder_of me holder hs ≡ Some h.h) (sym d.holders) h.holds) h.room_is (d.holders ∙ h.holders) result events out lawful well by runs

  all_turns : Turns n h.old gone.new m Last
  all_turns = turns_both n h.old new gone.new m y Last (turns_both n h.old h.new new m x y h.turns d.turns) gone.turns

  -- a file is as it was, where it was in the meantime
  pub file_then_same : (path : Path) → file_at new path ≡ file_at h.new path → file_at gone.new path ≡ file_at h.old path
  file_then_same path same = folder_files new gone.new openhosts gone.same path ∙ same ∙ folder_files h.old h.new openhosts h.same path

  all_droppings : KeepsDroppings h.old gone.new
  all_droppings = record {
    index = λ host writer. file_then_same (index_path host writer) (kept.index host writer);
    log = λ host writer. file_then_same (log_path host writer) (kept.log host writer);
    opens = λ host writer. file_then_same (open_path host writer) (kept.opens host writer);
  }

  -- The statement has this outcome. The room has this name then, and these truncates.
  pub ends_with : (outcome : Outcome) (q : Plain) (name : Name) (truncs : List Trunc) → or_stuck says result ≡ outcome → new.name ≡ name → ((last : Moment) (final : Room) → Turns n h.old final m last → ((path : Path) → file_at new path ≡ file_at h.new path → file_at final path ≡ file_at h.old path) → ((path : Path) → file_at final path ≡ file_at new path) → AreTruncsAt last n truncs)
      → slice_get q.rooms n ≡ Some (plain_room name false truncs room.writers) → ((j : ℕ) → (j ≡ n → ⊥) → slice_get q.rooms j ≡ slice_get p.rooms j) → q.actors ≡ p.actors → y.state.times ≡ q.times → q.mark ≡ p.mark → m.state.serial + 1 ≡ q.serial → Takes me declared actor p statement outcome q
      → TakesStep m me declared actor p statement (or_stuck says out) Last handle
  ends_with outcome q name truncs says_so named are here elsewhere actors times mark serial takes =
      let said : outcome ≡ or_stuck says out = sym says_so ∙ ap (or_stuck says) (sym gone.is) in
      let left : PlainRoom = plain_room name false truncs room.writers in
      let now : MirrorsRoom Last n gone.new left = room_so n h.old gone.new m Last all_turns all_droppings room name false truncs shows (gone.same.name ∙ named) gone.opened (are Last gone.new all_turns file_then_same (folder_files new gone.new openhosts gone.same)) in
      turned_takes n h.old gone.new m Last all_turns all_droppings p q room left there here elsewhere gone.sound me declared actor statement (or_stuck says out) handle o has now refl actors (gone.times ∙ times) mark (gone.serial ∙ d.serial ∙ h.serial ∙ serial) gone.none
      (subst (λ w. Takes me declared actor p statement w q) said takes)

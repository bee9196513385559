-- Looks leave a container of units alone.
use Rattle.std.proofs.Common.{◌≡◌, ℕ, List, [], ◌∷◌, length, take, Some, refl, sym, ap, ◌∙◌, subst, inl, inr}
use Rattle.std.specs.List.{All, AllByRecursion}
use Rattle.store_api.specs.Step.{Step}
use Rattle.store_api.specs.declared.tree.Tree.{Tree}
use Rattle.store_laws.specs.Outcomes.{IsLook}
use Rattle.store_laws.proofs.Facts.{look_told}
use Rattle.container_layout.specs.declared.items.Item.{Item}
use Rattle.container_layout.specs.declared.items.Item.TheVariants.{Trunc}
use Rattle.container_layout.specs.Paths.{path_of}
use Rattle.mount_model.specs.declared.call.Call.{Call}
use Rattle.mount_model.specs.declared.call.Call.TheVariants.{Greet, Find, Look}
use Rattle.mount_model.specs.declared.reply.Reply.{Reply}
use Rattle.mount_model.specs.Entering.{next_id}
use Rattle.mount_model.specs.History.{Event}
use Rattle.mount_model.specs.Paths.{index_path, log_path}
use Rattle.mount_model.specs.State.{State, Table}
use Rattle.mount_sound.specs.Dropping.{bytes_of}
use Rattle.mount_sound.specs.Issued.{issued_after}
use Rattle.mount_sound.specs.Ledger.{Ledger, Written}
use Rattle.mount_sound.specs.Owed.{IsLawful}
use Rattle.mount_sound.specs.There.{entries_there}
use Rattle.mount_sound.proofs.Facts.{ActsOn, OfEachAct, step_acts}
use Rattle.reader_laws.specs.Moments.{Dropping, HadItem, HadTrunc, IsSoundAt, Moment, Stood, file_told, issued_by, landed, moment_after, next_moment}
use Rattle.mount_sound.specs.Ledger.{change_of}
use Rattle.reader_laws.proofs.Gathered.Facts.{sound_after}
use Rattle.lone_flow.specs.Looking.{GreetsOrLooks}
use Rattle.packing_laws.specs.HasOnly.{HasOnlyUnits}
use Rattle.packing_laws.specs.OnlyUnits.{Filing, PutsUnit}

abbrev pub AllLook : List Event → Type 0
AllLook events = AllByRecursion (λ (event : Event). GreetsOrLooks event.ask.call) events

-- ---- one call

look_acts : (table : Table) (id caller : ℕ) → OfEachAct table id caller (λ call step. GreetsOrLooks call → IsLook step)
look_acts table id caller = record {
  looks = λ call step look asks. look;
  rooms = λ name no. absurd no;
  enters = λ room host most no. absurd no;
  hostdirs = λ writer row no. absurd no;
  indices = λ writer row there no. absurd no;
  logs = λ writer row there no. absurd no;
  writes = λ writer row there at bytes no. absurd no;
  flushes = λ writer row there no. absurd no;
  log_syncs = λ writer row no. absurd no;
  index_syncs = λ writer row no. absurd no;
  metas = λ writer row no. absurd no;
  exits = λ writer row there no. absurd no;
  holds = λ room no. absurd no;
  truncates = λ holder h there stamp size top item below no. absurd no;
  renames = λ holder h there to no. absurd no;
  releases = λ holder h there no. absurd no;
  starts = λ room f is no. absurd no;
  puts = λ flat f there bytes no. absurd no;
  flat_syncs = λ flat f there no. absurd no;
  installs = λ flat f there no. absurd no;
  packs = λ room host writer f is pair no. absurd no;
  dropping_syncs = λ room host writer is_log pair no. absurd no;
  mends = λ room host writer count pair no. absurd no;
  mend_metas = λ room host cover last pair no. absurd no;
  buries = λ room host writer pair no. absurd no;
  mend_holds = λ room no. absurd no;
}

pub look_tree : (m : Moment) (e : Event) → IsSoundAt m → IsLawful m.state (e ∷ []) → GreetsOrLooks e.ask.call → e.after.store.tree ≡ m.state.store.tree
look_tree m e sound lawful looks =
    let P : Call → Step → Type 0 = λ call step. GreetsOrLooks call → IsLook step in
    let g = step_acts P m.state e.after e.caller e.ask e.reply sound.shape.tree (look_acts m.state.table (next_id m.state) e.caller) lawful.1 sound.shape.told in
    g.1 ∙ ap (λ t. Some t) (same g.0 g.2) ∙ sym sound.shape.told
  where
    same : (after : Tree) → ActsOn ((λ step. GreetsOrLooks e.ask.call → IsLook step)) sound.shape.tree after → after ≡ sound.shape.tree
    same after (inl still) = still
    same after (inr a) = look_told a.step sound.shape.tree a.told after (a.holds looks) a.tells

look_issues : (before : Ledger) (old : State) (call : Call) (reply : Reply) (room writer : ℕ) → GreetsOrLooks call → issued_after before old call reply room writer ≡ before room writer
look_issues before old Greet reply room writer looks = refl
look_issues before old (Find name) reply room writer looks = refl
look_issues before old (Look number look) reply room writer looks = refl
look_issues before old call reply room writer looks = absurd looks

-- ---- a moment with the same tree, where nothing more was issued

module _ (m now : Moment) (tree : now.state.store.tree ≡ m.state.store.tree) (issued : (room writer : ℕ) → now.issued room writer ≡ m.issued room writer) where
  had_before : (room : ℕ) (item : Item) → HadItem now room item → HadItem m room item
  had_before room item had = record { is_item = had.is_item; bytes = had.bytes; there = ap (λ t. file_told t room (path_of item)) (sym tree) ∙ had.there }

  landed_same : (d : Dropping) → landed now d ≡ landed m d
  landed_same d = ap (λ t. length (entries_there (bytes_of (file_told t d.room (index_path d.host d.writer))) (bytes_of (file_told t d.room (log_path d.host d.writer))))) tree

  pub only_there : (filing : Filing) (room : ℕ) → HasOnlyUnits filing m room → HasOnlyUnits filing now room
  only_there filing room has = record {
    is_filing = has.is_filing;
    writes = λ d its stood.
        let P : Written → Type 0 = λ w. PutsUnit filing (change_of w) in
        let front : take (landed m d) (issued_by m d) ≡ take (landed now d) (issued_by now d) = ap (λ n. take n (issued_by m d)) (sym (landed_same d)) ∙ ap (λ ws. take (landed now d) ws) (sym (issued d.room d.writer)) in
        subst (λ ws. All P ws) front (has.writes d its (stood_before d stood));
    no_truncates = λ stamp size had. has.no_truncates stamp size (trunc_before stamp size had);
  }
    where
      stood_before : (d : Dropping) → Stood now d → Stood m d
      stood_before d had = record { is_item = had.is_item; bytes = had.bytes; there = ap (λ t. file_told t d.room (index_path d.host d.writer)) (sym tree) ∙ had.there }

      trunc_before : (stamp size : ℕ) → HadTrunc now room stamp size → HadTrunc m room stamp size
      trunc_before stamp size had = had_before room (Trunc stamp size) had

-- so it is behind looks
pub only_still : (filing : Filing) (m : Moment) (events : List Event) (room : ℕ) → IsSoundAt m → IsLawful m.state events → AllLook events → HasOnlyUnits filing m room → HasOnlyUnits filing (moment_after m events) room
only_still filing m [] room sound lawful looks has = has
only_still filing m (e ∷ events) room sound lawful looks has =
    let one : IsLawful m.state (e ∷ []) = (lawful.0, lawful.1, tt) in
    let next : HasOnlyUnits filing (next_moment m e) room =
    only_there m (next_moment m e) (look_tree m e sound one looks.0) (λ number writer. look_issues m.issued m.state e.ask.call e.reply number writer looks.0) filing room has in
    only_still filing (next_moment m e) events room (sound_after m (e ∷ []) one sound) lawful.2 looks.1 next

-- What the caller of a put owes lasts while others call: its temporary file is empty yet, and its bytes are right.
use Rattle.std.proofs.Common.{◌≡◌, ◌<◌, ◌^◌, ℕ, List, [], Some, None, ap, sym, ◌∙◌, ◌⊎◌, inl, inr, subst}
use Rattle.std.specs.Prelude.{slice_get}
use Rattle.std.proofs.lemmas.Bool.{cases_eq}
use Rattle.store_api.specs.declared.tree.Room.{Room}
use Rattle.store_api.specs.declared.tree.Tree.{Tree}
use Rattle.store_api.specs.Step.{Step}
use Rattle.store_laws.specs.Files.{file_at}
use Rattle.store_laws.specs.Naming.{IsPathOf, NamesFile}
use Rattle.mount_model.specs.declared.call.Ask.{Ask}
use Rattle.mount_model.specs.declared.call.Call.{Call}
use Rattle.mount_model.specs.declared.call.Call.TheVariants.{PutFlat, InstallFlat}
use Rattle.mount_model.specs.declared.reply.Reply.{Reply}
use Rattle.mount_model.specs.declared.row.Flattening.{Flattening}
use Rattle.mount_model.specs.declared.row.FlatStage.{FlatStage}
use Rattle.mount_model.specs.declared.row.FlatStage.TheVariants.{Begun, Synced}
use Rattle.mount_model.specs.declared.row.Making.{Making}
use Rattle.mount_model.specs.Entering.{next_id}
use Rattle.mount_model.specs.Flattening.{OnFlattening, install_step}
use Rattle.mount_model.specs.Paths.{installed_item, installed_of, temporary_item, temporary_of}
use Rattle.mount_sound.specs.Named.{FitsNames}
use Rattle.mount_model.specs.Regular.{IsRegular}
use Rattle.mount_model.specs.State.{State, Table, timed}
use Rattle.mount_model.specs.Step.{Answers, IsStep}
use Rattle.mount_model.specs.Stopped.{IsCutShort, IsLeftBy}
use Rattle.mount_model.specs.Table.{flattening_at}
use Rattle.mount_model.proofs.Facts.{IsUnderway, flattening_at_id, is_underway, on_flattening, step_cases, step_flattened, stop_left}
use Rattle.mount_sound.specs.Issued.{issued_after}
use Rattle.mount_sound.specs.Ledger.{Ledger}
use Rattle.mount_sound.specs.Owed.{May, MayPut, Owes}
use Rattle.mount_sound.specs.Sound.{IsSoundFor}
use Rattle.mount_sound.proofs.Calls.Acting.{OfEachAct, ActsOn, acts_so, answer_acts}
use Rattle.mount_sound.proofs.Indices.FlatPaths.{is_temporarys, one_folder}
use Rattle.mount_sound.proofs.Calls.FlatFiles.{LeavesFile, StandsAfter, acts_leave, as_before, file_acts, flattening_no_dropping}
use Rattle.mount_sound.proofs.Kept.EntriesLater.{room_keeps}
use Rattle.mount_sound.proofs.Indices.Flats.{KeepsAllEntries, right_frame}
use Rattle.mount_sound.proofs.Indices.Flattening.{AreNamed, are_named, flat_id_fits}
use Rattle.mount_sound.proofs.Indices.FlatsLater.{underway_of}
use Rattle.mount_sound.proofs.Soundness.Items.{apart}
use Rattle.mount_sound.proofs.Calls.Making.{accounted, its_writers, one_tree}
use Rattle.mount_sound.proofs.Indices.Makings.{is_installed, is_temporary, one_temporary, two_kinds}
use Rattle.mount_sound.proofs.Moments.SoundLater.{its_flats, step_keeps}
use Rattle.mount_sound.proofs.Moments.Steps.{untimed_regular}

-- ---- the temporary file of a flattening

-- the call isn't on the flattening of this id, or doesn't change the bytes of its temporary file
abbrev IsOnOther : ℕ → Call → Type 0
IsOnOther id (PutFlat flat bytes) = flat ≡ id → ⊥
IsOnOther id (InstallFlat flat) = flat ≡ id → ⊥
IsOnOther id call = Unit {0}

module _ (n : ℕ) (makes : Making) (id : ℕ) (named : FitsNames makes) (fits : id < 2 ^ 64) where
  -- another flattening's files
  not_its : (others : Making) (other : ℕ) → FitsNames others → other < 2 ^ 64 → (other ≡ id → ⊥) → IsPathOf (temporary_of others other).folder (temporary_of others other).file (temporary_of makes id) → ⊥
  not_its others other names small not its = apart (temporary_item makes id) (temporary_item others other) (is_temporary makes id named fits) (is_temporary others other names small) (λ e. not (one_temporary others makes other id (sym e))) its.0 its.1

  not_installed : (others : Making) (other : ℕ) → FitsNames others → other < 2 ^ 64 → IsPathOf (temporary_of others other).folder (installed_of others other).file (temporary_of makes id) → ⊥
  not_installed others other names small its = apart (temporary_item makes id) (installed_item others other) (is_temporary makes id named fits) (is_installed others other names small) (two_kinds makes others id other) (its.0 ∙ sym (one_folder others other)) its.1

  module _ (table : Table) (next caller : ℕ) (all_fit : (q : ℕ) (g : Flattening) → flattening_at q table.flattenings ≡ Some g → g.id < 2 ^ 64) (all_named : (q : ℕ) (g : Flattening) → flattening_at q table.flattenings ≡ Some g → FitsNames g.makes) where
    another : (flat : ℕ) (g : Flattening) → flattening_at flat table.flattenings ≡ Some g → (flat ≡ id → ⊥) → g.id ≡ id → ⊥
    another flat g e other same = other (sym (flattening_at_id flat table.flattenings g e) ∙ same)

    install_leaves : (flat : ℕ) (g : Flattening) → flattening_at flat table.flattenings ≡ Some g → (flat ≡ id → ⊥) → NamesFile (install_step g) n (temporary_of makes id) → ⊥
    install_leaves flat g e other (room, inl its) = not_its g.makes g.id (all_named flat g e) (all_fit flat g e) (another flat g e other) its
    install_leaves flat g e other (room, inr its) = not_installed g.makes g.id (all_named flat g e) (all_fit flat g e) its

    its_acts : OfEachAct table next caller (λ call step. IsOnOther id call → LeavesFile n (temporary_of makes id) step)
    its_acts = file_acts n (temporary_of makes id) (flattening_no_dropping (temporary_of makes id) (is_temporarys makes id)) table next caller (IsOnOther id)
        (λ flat g e bytes on its. not_its g.makes g.id (all_named flat g e) (all_fit flat g e) (another flat g e on) its.1)
        (λ flat g e on its. install_leaves flat g e on its)

-- ---- another caller's step

-- a call on a flattening of an id that another caller flattens by changes nothing
refused : (other : ℕ) (stage : FlatStage) (flat : ℕ) (old : State) (reply : Reply) (new : State) (does : Flattening → Type 0) (f : Flattening) → flattening_at flat old.table.flattenings ≡ Some f → (f.owner ≡ other → ⊥) → OnFlattening other stage flat old reply new does → new ≡ old
refused other stage flat old reply new does f found not on = on_flattening other stage flat old reply new does (new ≡ old) on (λ same. same)
    (λ g is made.
    let both : Some f ≡ Some g = sym found ∙ is.found in
    let one : f ≡ g = cc in
    absurd (not (ap (λ (x : Flattening). x.owner) one ∙ is.owned)))

on_other : (other : ℕ) (call : Call) (old : State) (reply : Reply) (new : State) (id : ℕ) (f : Flattening) → flattening_at id old.table.flattenings ≡ Some f → (f.owner ≡ other → ⊥) → Answers old other call reply new → IsOnOther id call ⊎ (new ≡ old)
on_other other (PutFlat flat bytes) old reply new id f found not a = elim (cases_eq flat id) as (λ _. (flat ≡ id → ⊥) ⊎ (new ≡ old)) [
  | inl same ↦ inr (refused other Begun flat old reply new _ f (ap (λ q. flattening_at q old.table.flattenings) same ∙ found) not a)
  | inr apart ↦ inl apart
]
on_other other (InstallFlat flat) old reply new id f found not a = elim (cases_eq flat id) as (λ _. (flat ≡ id → ⊥) ⊎ (new ≡ old)) [
  | inl same ↦ inr (refused other Synced flat old reply new _ f (ap (λ q. flattening_at q old.table.flattenings) same ∙ found) not a)
  | inr apart ↦ inl apart
]
on_other other call old reply new id f found not a = inl tt

module _ (id : ℕ) (f : Flattening) (bytes : List ℕ) (tree : Tree) (room : Room) (there : slice_get tree.rooms f.room ≡ Some room) (stands : file_at room (temporary_of f.makes id) ≡ Some bytes) where
  -- the temporary file stands as it stood, in the tree that the state tells
  abbrev pub StandsIn : State → Type 0
  StandsIn new = (after : Tree) → new.store.tree ≡ Some after → StandsAfter f.room (temporary_of f.makes id) tree room there bytes stands after

  answered_leaves : (old : State) → IsRegular old → AreNamed old → old.store.tree ≡ Some tree → flattening_at id old.table.flattenings ≡ Some f → (other : ℕ) → (f.owner ≡ other → ⊥) → (call : Call) (reply : Reply) (new : State) → Answers old other call reply new → StandsIn new
  answered_leaves old r named told found other not call reply new a after now = elim (on_other other call old reply new id f found not a) as (λ _. StandsAfter f.room (temporary_of f.makes id) tree room there bytes stands after) [
    | inl on ↦
        let fits : id < 2 ^ 64 = subst (λ i. i < 2 ^ 64) (flattening_at_id id old.table.flattenings f found) (flat_id_fits old r id f found) in
        let P : Step → Type 0 = λ step. IsOnOther id call → LeavesFile f.room (temporary_of f.makes id) step in
        let g = answer_acts (λ c step. IsOnOther id c → LeavesFile f.room (temporary_of f.makes id) step) old other (its_acts f.room f.makes id (named id f found) fits old.table (next_id old) other (λ q x e. flat_id_fits old r q x e) named) call reply new tree a told in
        let is : g.0 ≡ after = one_tree g.0 after new.store.tree g.1 now in
        acts_leave f.room (temporary_of f.makes id) tree room there bytes stands after
        (acts_so P (LeavesFile f.room (temporary_of f.makes id)) tree after (λ step holds. holds on) (subst (ActsOn P tree) is g.2))
    | inr same ↦ as_before f.room (temporary_of f.makes id) tree room there bytes stands after (one_tree after tree new.store.tree now (ap (λ (x : State). x.store.tree) same ∙ told))
  ]

  cut_leaves : (old : State) → IsRegular old → AreNamed old → old.store.tree ≡ Some tree → flattening_at id old.table.flattenings ≡ Some f → (other : ℕ) → (f.owner ≡ other → ⊥) → (call : Call) (short : State) → IsCutShort old other call short → StandsIn short
  cut_leaves old r named told found other not call short (inl same) after now = as_before f.room (temporary_of f.makes id) tree room there bytes stands after (one_tree after tree short.store.tree now (ap (λ (x : State). x.store.tree) same ∙ told))
  cut_leaves old r named told found other not call short (inr (reply, which, a)) after now = answered_leaves old r named told found other not call reply short a after now

  pub step_leaves : (old new : State) (other : ℕ) (ask : Ask) (reply : Reply) → IsRegular old → AreNamed old → old.store.tree ≡ Some tree → flattening_at id old.table.flattenings ≡ Some f → (f.owner ≡ other → ⊥) → IsStep old other ask reply new → StandsIn new
  step_leaves old new other ask reply r named told found not step after now = step_cases old other ask reply new (StandsAfter f.room (temporary_of f.makes id) tree room there bytes stands after) step
      (λ none a. answered_leaves old r named told found other not ask.call reply new a after now)
      (λ k some x.
      let left : IsLeftBy old other ask.call new = stop_left old other k ask.call reply new x in
      cut_leaves (timed None old) (untimed_regular old r) named told found other not ask.call left.cut left.short after (sym left.like.tree ∙ now))

-- What the caller of a put owes lasts through each step of another caller.
pub put_flat_lasts : (l : Ledger) (old new : State) (caller other flat : ℕ) (bytes : List ℕ) (ask : Ask) (reply : Reply) → (caller ≡ other → ⊥) → Owes old caller (PutFlat flat bytes) → May old other ask → IsStep old other ask reply new → IsSoundFor l old → Owes new caller (PutFlat flat bytes)
put_flat_lasts l old new caller other flat bytes ask reply apart owes may step s f e after room now here =
    let is : IsUnderway caller Begun flat new.table.flattenings f = is_underway caller Begun flat new.table.flattenings f e in
    let not : f.owner ≡ other → ⊥ = λ same. apart (sym is.owned ∙ same) in
    let found : flattening_at flat old.table.flattenings ≡ Some f = step_flattened old new other ask reply flat f s.regular step is.found not in
    let stood : IsUnderway caller Begun flat old.table.flattenings f = record { found = found; is = is.is; owned = is.owned; staged = is.staged } in
    let being = s.flattenings flat f found in
    let was : MayPut f bytes being.0 = owes f (underway_of caller Begun flat old.table.flattenings f stood) s.shape.tree being.0 s.shape.told being.1 in
    let later = step_keeps l old new other ask reply may step s in
    let same : later.shape.tree ≡ after = one_tree later.shape.tree after new.store.tree later.shape.told now in
    let keeps : KeepsAllEntries being.0 room = room_keeps l old new other ask reply (may.owes s.clean) step (its_writers l old s) (accounted (issued_after l old ask.call reply) new (its_writers (issued_after l old ask.call reply) new later))
    f.room being.0 room being.1 (ap (λ (t : Tree). slice_get t.rooms f.room) same ∙ here) in
    let its : flattening_at f.id old.table.flattenings ≡ Some f = ap (λ q. flattening_at q old.table.flattenings) is.is ∙ found in
    record {
      empty = step_leaves f.id f [] s.shape.tree being.0 being.1 was.empty old new other ask reply s.regular (are_named old s.shape.tree (its_flats l old s)) s.shape.told its not step after now room here;
      right = right_frame being.0 room keeps f.makes bytes was.right;
    }

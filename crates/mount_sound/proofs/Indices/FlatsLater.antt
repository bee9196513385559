-- Each call of a flattening keeps what soundness says of flattened indices, made and in the making.
use Rattle.std.proofs.Common.{◌≡◌, ◌≤◌, ◌<◌, ◌+◌, ◌^◌, ℕ, List, length, true, nat_eq, Some, None, refl, ap, sym, ◌∙◌, ◌⊎◌, inl, inr, subst, arith, Ok, Err}
use Rattle.std.specs.Prelude.{slice_get}
use Rattle.std.proofs.lemmas.Bool.{cases_eq}
use Rattle.std.proofs.lemmas.Bool.Decides.{nat_tests}
use Rattle.container_layout.specs.declared.items.Item.TheVariants.{Flat}
use Rattle.store_api.specs.declared.step.Answer.{Answer}
use Rattle.store_api.specs.declared.step.Answer.TheVariants.{Made}
use Rattle.store_api.specs.declared.store.Trouble.TheVariants as trouble
use Rattle.store_api.specs.declared.tree.Room.{Room}
use Rattle.store_api.specs.declared.tree.Tree.{Tree}
use Rattle.store_api.specs.Step.{Step}
use Rattle.store_laws.specs.Changes.{Moved}
use Rattle.store_laws.specs.Files.{file_at, kept_at}
use Rattle.store_laws.specs.Tells.{Tells}
use Rattle.store_laws.proofs.Facts.{acts_told, replace_told}
use Rattle.mount_model.specs.declared.call.Call.TheVariants.{PutFlat, StartPack}
use Rattle.mount_model.specs.declared.reply.Reply.{Reply}
use Rattle.mount_model.specs.declared.row.Flattening.{Flattening}
use Rattle.mount_model.specs.declared.row.FlatStage.{FlatStage}
use Rattle.mount_model.specs.declared.row.FlatStage.TheVariants.{Begun, Put, Synced}
use Rattle.mount_model.specs.declared.row.Making.{Making}
use Rattle.mount_model.specs.declared.row.Making.TheVariants as making
use Rattle.mount_model.specs.Entering.{draw_check, next_id}
use Rattle.mount_model.specs.Flattening.{PutsFlat, SyncsFlat, InstallsFlat, Starts, StartsFlat, StartsPack, StartsPackOf, begun_flat, start_outcome, put_flat_step, put_flat_outcome, sync_flat_step, sync_flat_outcome, install_step, install_outcome, drop_flat}
use Rattle.mount_model.specs.Making.{Told, CallOutcome, MakesAct}
use Rattle.mount_model.specs.Paths.{flat_path, installed, installed_item, temporary}
use Rattle.mount_model.specs.Regular.{IsRegular}
use Rattle.mount_model.specs.State.{State, Table, drawn, last_id}
use Rattle.mount_model.specs.Table.{flat_rank, flattening_at, flattening_of, its_flattening, without_flattening}
use Rattle.mount_model.proofs.Facts.{IsUnderway, flattening_at-without_flattening, flattening_at_other-without_flattening, may_enter, on_flattening, unless_refused}
use Rattle.mount_sound.specs.Named.{FitsNames}
use Rattle.mount_sound.specs.Shape.{IsDrawnBy, IsShaped}
use Rattle.mount_sound.proofs.Shapes.Facts.{id_fits, item_drawn}
use Rattle.mount_sound.specs.Flats.{IsBegunIn, IsRightFor, IsFlatteningIn}
use Rattle.mount_sound.specs.Items.{HasItem}
use Rattle.mount_sound.specs.Owed.{Owes}
use Rattle.mount_sound.proofs.Calls.Aside.{HasSoundFlats, one_room}
use Rattle.mount_sound.proofs.Indices.BeingMade.{DiffersIn, flat_goes_on, flat_moved}
use Rattle.mount_sound.proofs.Writers.Entering.{absent}
use Rattle.mount_sound.proofs.Indices.FlatActs.{fits_own, here, named_own, no_flattening, put_told, start_told, sync_told_flats, unchanged}
use Rattle.mount_sound.proofs.Indices.FlatRooms.{FlatChanged, but_moved}
use Rattle.mount_sound.proofs.Indices.Flattening.{flat_container, flat_id_fits}
use Rattle.mount_sound.proofs.Indices.Makings.{is_installed}

-- a call that makes an act keeps it if it is kept whatever the act tells
makes_flats : (step : Step) (outcome : Told → CallOutcome) (old : State) (reply : Reply) (new : State) (tree : Tree) → old.store.tree ≡ Some tree
    → ((told : Told) (after : Tree) → Tells step tree told after → HasSoundFlats (outcome told).table after)
    → MakesAct step outcome old reply new → (after : Tree) → new.store.tree ≡ Some after → HasSoundFlats new.table after
makes_flats step outcome old reply new tree e keeps m after told =
    let t = acts_told step old.store new.store tree m.told e m.made in
    let both : Some t.0 ≡ Some after = sym t.1 ∙ told in
    let is : t.0 ≡ after = cc in
    subst (HasSoundFlats new.table) is (subst (λ (table : Table). HasSoundFlats table t.0) (sym (ap (λ (x : State). x.table) m.after)) (keeps m.told t.0 t.2))

-- the flattening is at its end, or the tree stays
install_ends : (f : Flattening) (table : Table) (told : Told)
    → ((install_outcome f table told).table ≡ drop_flat f.id table) ⊎ (((install_outcome f table told).table ≡ table) × ((told ≡ Err trouble.NoMemory) ⊎ ((answer : Answer) × (told ≡ Ok answer) × (answer ≡ Made → ⊥))))
install_ends f table (Ok Made) = inl refl
install_ends f table (Err trouble.Fault) = inl refl
install_ends f table (Err trouble.NoMemory) = inr (refl, inl refl)
install_ends f table (Ok answer) = inr (refl, inr (answer, refl, λ e. cc))

-- the caller's flattening is the one that is found
pub underway_of : (caller : ℕ) (stage : FlatStage) (flat : ℕ) (flattenings : List Flattening) (f : Flattening) → IsUnderway caller stage flat flattenings f → flattening_of caller stage flat flattenings ≡ Some f
underway_of caller stage flat flattenings f is =
    let owned : nat_eq f.owner caller ≡ true = same_number f.owner caller is.owned in
    let staged : nat_eq (flat_rank f.stage) (flat_rank stage) ≡ true = same_number (flat_rank f.stage) (flat_rank stage) (ap flat_rank is.staged) in
    ap (λ found. its_flattening caller stage found) is.found ∙ rw (owned, staged) refl
  where
    same_number : (a b : ℕ) → a ≡ b → nat_eq a b ≡ true
    same_number a b e = grind (arith, nat_tests)

module _ (old : State) (r : IsRegular old) (s : IsShaped old) (flats : HasSoundFlats old.table s.tree) where
  -- ---- it gets its name

  module _ (caller flat : ℕ) (f : Flattening) (is : IsUnderway caller Synced flat old.table.flattenings f) where
    gone : (g : Flattening) → flattening_at f.id (drop_flat f.id old.table).flattenings ≡ Some g → ⊥
    gone g e = no_flattening g (flattening_at f.id (without_flattening f.id old.table.flattenings)) (flattening_at-without_flattening f.id old.table.flattenings r.flattenings.ascending) e

    drop_differs : DiffersIn f.id old.table (drop_flat f.id old.table)
    drop_differs = record { others = λ q other. flattening_at_other-without_flattening f.id old.table.flattenings q other; holders = refl }

    -- the flattening is at its end, and nothing has changed
    dropped : (after : Tree) → after ≡ s.tree → HasSoundFlats (drop_flat f.id old.table) after
    dropped after same = subst (HasSoundFlats (drop_flat f.id old.table)) (sym same) (record {
      held = flats.held;
      flats = flats.flats;
      flattenings = λ q g e. flats.flattenings q g (elim (cases_eq q f.id) as (λ _. flattening_at q old.table.flattenings ≡ Some g) [
        | inl it ↦ absurd (gone g (subst (λ i. flattening_at i (drop_flat f.id old.table).flattenings ≡ Some g) it e))
        | inr other ↦ sym (drop_differs.others q other) ∙ e
      ]);
    })

    -- what is moved is right in its new place, and kept there
    pub moved_index : (after : Tree) (c : Moved s.tree f.room (temporary f) (installed f).file after) (bytes : List ℕ) → HasItem c.new (installed_item f.makes f.id) bytes → IsRightFor c.new f.makes bytes × (length bytes ≤ kept_at c.new (installed f))
    moved_index after c =
        let i : IsFlatteningIn c.room f = here old r s flats caller Synced flat f is c.room c.has_room in
        let both : Some i.bytes ≡ Some c.bytes = sym i.there ∙ c.there in
        let its : i.bytes ≡ c.bytes = cc in
        let rank : flat_rank f.stage ≡ 2 = ap flat_rank is.staged in
        let right : IsRightFor c.room f.makes c.bytes = subst (IsRightFor c.room f.makes) its (i.put (omega (arith, rank))) in
        let kept : length c.bytes ≤ kept_at c.room (temporary f) = omega (arith, i.synced (omega (arith, rank)), ap length its) in
        flat_moved s.tree f.room f.makes f.id after (named_own old r s flats caller Synced flat f is) (fits_own old r s flats caller Synced flat f is) c (flat_container old r flat f is.found s c.room c.has_room).paths_differ right kept

    installed_flats : (after : Tree) → Moved s.tree f.room (temporary f) (installed f).file after → HasSoundFlats (drop_flat f.id old.table) after
    installed_flats after c =
        let named : FitsNames f.makes = named_own old r s flats caller Synced flat f is in
        let fits : f.id < 2 ^ 64 = fits_own old r s flats caller Synced flat f is in
        let changed : FlatChanged s.tree f.room f.makes f.id after = record { room = c.room; new = c.new; has_room = c.has_room; same = but_moved s.tree f.room f.makes f.id after named fits c; gives = c.gives } in
        flat_goes_on s.tree f.room f.makes f.id named fits after changed old.table (drop_flat f.id old.table) drop_differs (λ q g e. flat_id_fits old r q g e)
        (record { flat = moved_index after c; own = λ g e. absurd (gone g e) }) flats

    install_told : (told : Told) (after : Tree) → Tells (install_step f) s.tree told after → HasSoundFlats (install_outcome f old.table told).table after
    install_told told after t =
        let c = replace_told f.room (temporary f) (installed f).file s.tree told after t in
        elim (install_ends f old.table told) as (λ _. HasSoundFlats (install_outcome f old.table told).table after) [
          | inl ends ↦ subst (λ table. HasSoundFlats table after) (sym ends) (elim c.either as (λ _. HasSoundFlats (drop_flat f.id old.table) after) [
            | inl (inl moved) ↦ installed_flats after moved
            | inl (inr named) ↦ dropped after named.2
            | inr same ↦ dropped after same
          ])
          | inr (stays, inl wanted) ↦ subst (λ table. HasSoundFlats table after) (sym stays) (unchanged old r s flats after (subst (λ x. Tells (install_step f) s.tree x after) wanted t))
          | inr (stays, inr (answer, told_it, unmade)) ↦ subst (λ table. HasSoundFlats table after) (sym stays) (unchanged old r s flats after (c.stays answer told_it unmade).0)
        ]

-- ---- the calls

module _ (old : State) (caller : ℕ) (reply : Reply) (new : State) (r : IsRegular old) (s : IsShaped old) (flats : HasSoundFlats old.table s.tree) (after : Tree) (told : new.store.tree ≡ Some after) where
  refused : new ≡ old → HasSoundFlats new.table after
  refused same =
      let both : Some s.tree ≡ Some after = sym s.told ∙ ap (λ (x : State). x.store.tree) (sym same) ∙ told in
      let is : s.tree ≡ after = cc in
      subst (λ (x : State). HasSoundFlats x.table after) (sym same) (unchanged old r s flats after (sym is))

  starts_flats : (room : ℕ) (makes : Making) → FitsNames makes → draw_check old room ≡ None → ((container : Room) → slice_get s.tree.rooms room ≡ Some container → IsBegunIn container makes (next_id old)) → Starts caller room makes old reply new → HasSoundFlats new.table after
  starts_flats room makes named none begins m =
      let may = may_enter old room none in
      let fits : next_id old < 2 ^ 64 = id_fits old.mount (old.serial + 1) r.mount_fits (omega (arith, may.1)) in
      makes_flats _ (start_outcome (begun_flat old caller room makes) old.table) (drawn old) reply new s.tree s.told (start_told old r s flats caller room makes named fits begins) m after told

  -- no flattened index has the next id
  none_yet : (room : ℕ) → draw_check old room ≡ None → (container : Room) → slice_get s.tree.rooms room ≡ Some container → file_at container (flat_path (next_id old)) ≡ None
  none_yet room none container there =
      let may = may_enter old room none in
      let fits : next_id old < 2 ^ 64 = id_fits old.mount (old.serial + 1) r.mount_fits (omega (arith, may.1)) in
      absent (file_at container (flat_path (next_id old))) (λ bytes e.
      let drawn_it : IsDrawnBy (last_id old) s.tree (next_id old) = item_drawn old s.tree room container (Flat (next_id old)) bytes s s.told there may.0 (is_installed making.Flat (next_id old) tt fits) e in
      omega (arith, drawn_it.1))

  -- Beginning a flattening keeps it,
  pub start_flat_keeps_flats : (room : ℕ) → StartsFlat caller room old reply new → HasSoundFlats new.table after
  start_flat_keeps_flats room x = unless_refused (draw_check old room) old reply new _ (HasSoundFlats new.table after) x refused (λ none m. starts_flats room making.Flat tt none (none_yet room none) m)

  -- also of a packed index, where the index dropping stands,
  pub start_pack_keeps_flats : (room host writer : ℕ) → Owes old caller (StartPack room host writer) → StartsPack caller room host writer old reply new → HasSoundFlats new.table after
  start_pack_keeps_flats room host writer owes x = unless_refused (draw_check old room) old reply new _ (HasSoundFlats new.table after) x refused
      (λ none. λ (m : StartsPackOf caller room host writer old reply new).
      starts_flats room (making.Pack host writer) m.named none
      (λ container there.
      let o = owes s.tree s.told in
      subst (λ r. IsBegunIn r (making.Pack host writer) (next_id old)) (one_room o.0 container (slice_get s.tree.rooms room) o.1 there) o.2) m.makes)

  -- and writing it, where its caller owed no more than it met,
  pub put_flat_keeps_flats : (flat : ℕ) (bytes : List ℕ) → Owes old caller (PutFlat flat bytes) → PutsFlat caller flat bytes old reply new → HasSoundFlats new.table after
  put_flat_keeps_flats flat bytes owes x = on_flattening caller Begun flat old reply new _ (HasSoundFlats new.table after) x refused
      (λ f is m. makes_flats (put_flat_step f bytes) (put_flat_outcome f old.table) old reply new s.tree s.told
      (put_told old r s flats caller flat bytes f is (λ room there. owes f (underway_of caller Begun flat old.table.flattenings f is) s.tree room s.told there)) m after told)

  -- and syncing it,
  pub sync_flat_keeps_flats : (flat : ℕ) → SyncsFlat caller flat old reply new → HasSoundFlats new.table after
  sync_flat_keeps_flats flat x = on_flattening caller Put flat old reply new _ (HasSoundFlats new.table after) x refused
      (λ f is m. makes_flats (sync_flat_step f) (sync_flat_outcome f old.table) old reply new s.tree s.told (sync_told_flats old r s flats caller flat f is) m after told)

  -- and giving it its name.
  pub install_keeps_flats : (flat : ℕ) → InstallsFlat caller flat old reply new → HasSoundFlats new.table after
  install_keeps_flats flat x = on_flattening caller Synced flat old reply new _ (HasSoundFlats new.table after) x refused
      (λ f is m. makes_flats (install_step f) (install_outcome f old.table) old reply new s.tree s.told (install_told old r s flats caller flat f is) m after told)

-- What stands of a flattening that was started, until its bytes are put: its temporary file is empty.
use Rattle.std.proofs.Common.{◌≡◌, ℕ, List, [], ◌∷◌, ◌++◌, Some, None, Ok, Err, refl, ap, sym, ◌∙◌, inl, inr, subst}
use Rattle.std.specs.Prelude.{slice_get}
use Rattle.store_api.specs.declared.step.Answer.TheVariants.{Made, NoRoom, NoFolder}
use Rattle.store_api.specs.declared.store.Trouble.TheVariants as trouble
use Rattle.store_api.specs.declared.tree.Room.{Room}
use Rattle.store_api.specs.declared.tree.Tree.{Tree}
use Rattle.store_laws.specs.Changes.{Created}
use Rattle.store_laws.specs.Files.{file_at}
use Rattle.store_laws.specs.Tells.{made}
use Rattle.store_laws.proofs.Facts.{acts_told, changed_room, create_told}
use Rattle.flat_format.specs.Spelling.{flat_spelling}
use Rattle.mount_model.specs.Running.{unbroken}
use Rattle.mount_model.specs.declared.call.Ask.{Ask}
use Rattle.mount_model.specs.declared.call.Call.TheVariants.{PutFlat, StartFlat}
use Rattle.mount_model.specs.declared.reply.Reply.{Reply}
use Rattle.mount_model.specs.declared.reply.Reply.TheVariants as reply_of
use Rattle.mount_model.specs.declared.row.Flattening.{Flattening}
use Rattle.mount_model.specs.declared.row.FlatStage.TheVariants.{Begun}
use Rattle.mount_model.specs.declared.row.Making.TheVariants as making
use Rattle.mount_model.specs.Entering.{draw_check, next_id}
use Rattle.mount_model.specs.Flattening.{begun_flat, start_outcome, start_step, Starts}
use Rattle.mount_model.specs.Making.{Told}
use Rattle.mount_model.specs.Paths.{temporary, temporary_of}
use Rattle.mount_model.specs.State.{State, Table, drawn}
use Rattle.mount_model.specs.Step.{IsStep}
use Rattle.mount_model.specs.Table.{flattening_at, flattening_of}
use Rattle.mount_model.proofs.Facts.{IsUnderway, found_before-push, is_underway, match_cases, next_not_flattened, step_flattened}
use Rattle.mount_sound.specs.Flats.{IsRightFlat}
use Rattle.mount_sound.specs.Ledger.{Ledger}
use Rattle.mount_sound.specs.Owed.{InRoom, May, MayPut, Owes}
use Rattle.mount_sound.specs.Sound.{IsSoundFor}
use Rattle.mount_sound.proofs.Facts.{one_tree, put_flat_lasts, some_room, underway_of}
use Rattle.index_reader.specs.Opening.{no_flat}
use Rattle.recovery_laws.proofs.Holds.Facts.{LastsOne}
use Rattle.recovery_laws.proofs.Facts.{Cleanly, cleanly_then}

-- the flattened index of nothing, which is right for each room
abbrev pub nothing_told : List ℕ
nothing_told = flat_spelling no_flat

nothing_right : (room : Room) → IsRightFlat room nothing_told
nothing_right room = record {
  flat = no_flat;
  valid = record { covers = tt; pieces = record { runs = tt; covered = tt } };
  spelled = refl;
  entries = [];
  covered = refl;
  pieces = record { runs = tt; shown = λ x. refl };
}

-- Where the caller has such a flattening whose bytes are not put, it is of this room, and its temporary file is empty.
abbrev pub IsStarted : ℕ → ℕ → ℕ → State → Type 0
IsStarted caller room flat state =
    ((f : Flattening) → flattening_of caller Begun flat state.table.flattenings ≡ Some f → (f.room ≡ room) × (f.makes ≡ making.Flat))
    × Owes state caller (PutFlat flat nothing_told)

-- What holds of a sound state holds after each step of another caller.
abbrev pub LastsBeside : ℕ → (State → Type 0) → Type 0
LastsBeside caller fact = (l : Ledger) (old new : State) (other : ℕ) (asked : Ask) (reply : Reply) → (other ≡ caller → ⊥) → May old other asked → IsStep old other asked reply new → IsSoundFor l old → fact old → fact new

pub beside_lasts : (caller : ℕ) (fact : State → Type 0) → LastsBeside caller fact → LastsOne caller (Cleanly fact)
beside_lasts caller fact beside old new other asked reply differ may step f =
    cleanly_then fact fact old new other asked reply may step f (λ l s holds. beside l old new other asked reply differ may.1 step s holds)

pub started_lasts : (caller room flat : ℕ) → LastsBeside caller (IsStarted caller room flat)
started_lasts caller room flat l old new other asked reply differ may step s holds = (
  λ f e.
      let is : IsUnderway caller Begun flat new.table.flattenings f = is_underway caller Begun flat new.table.flattenings f e in
      let found : flattening_at flat old.table.flattenings ≡ Some f = step_flattened old new other asked reply flat f s.regular step is.found (λ same. differ (sym same ∙ is.owned)) in
      holds.0 f (underway_of caller Begun flat old.table.flattenings f (record { found = found; is = is.is; owned = is.owned; staged = is.staged })),
  put_flat_lasts l old new caller other flat nothing_told asked reply (λ same. differ (sym same)) holds.1 may step s,
)

-- ---- it starts

start_made : (f : Flattening) (table : Table) (told : Told) (flat : ℕ) → reply_of.Started flat ≡ (start_outcome f table told).reply → (told ≡ made) × (flat ≡ f.id)
start_made f table (Ok Made) flat e = (refl, cc)
start_made f table (Ok NoRoom) flat e = absurd (cc)
start_made f table (Ok NoFolder) flat e = absurd (cc)
start_made f table (Ok answer) flat e = absurd (cc)
start_made f table (Err trouble.Fault) flat e = absurd (cc)
start_made f table (Err trouble.NoMemory) flat e = absurd (cc)

no_flattening : (f : Flattening) (flat id : ℕ) (flattenings : List Flattening) → flat ≡ id → flattening_at id flattenings ≡ None → flattening_at flat flattenings ≡ Some f → ⊥
no_flattening f flat id flattenings same none some = let clash : None ≡ Some f = sym none ∙ ap (λ q. flattening_at q flattenings) (sym same) ∙ some in cc

module _ (caller room flat : ℕ) (l : Ledger) (old new : State) (s : IsSoundFor l old) where
  abbrev mine : Flattening
  mine = begun_flat old caller room making.Flat

  module _ (m : Starts caller room making.Flat old (reply_of.Started flat) new) where
    so : (m.told ≡ made) × (flat ≡ next_id old)
    so = start_made mine old.table m.told flat m.answered

    are : new.table.flattenings ≡ old.table.flattenings ++ mine ∷ []
    are = ap (λ (x : State). x.table.flattenings) m.after ∙ ap (λ told. (start_outcome mine old.table told).table.flattenings) so.0

    is_mine : (f : Flattening) → flattening_of caller Begun flat new.table.flattenings ≡ Some f → f ≡ mine
    is_mine f e =
        let is : IsUnderway caller Begun flat new.table.flattenings f = is_underway caller Begun flat new.table.flattenings f e in
        elim (found_before-push old.table.flattenings mine flat f (subst (λ fs. flattening_at flat fs ≡ Some f) are is.found)) as (λ _. f ≡ mine) [
          | inl was ↦ absurd (no_flattening f flat (next_id old) old.table.flattenings so.1 (next_not_flattened old.mount old.serial old.marks old.table.flattenings s.regular.flattenings) was)
          | inr it ↦ it.1
        ]

    empty : InRoom new room (MayPut mine nothing_told)
    empty tree container told there =
        let t = acts_told (start_step mine) (drawn old).store new.store s.shape.tree m.told s.shape.told m.made in
        let c : Created s.shape.tree room (temporary_of making.Flat (next_id old)) t.0 = (create_told room (temporary_of making.Flat (next_id old)) s.shape.tree m.told t.0 t.2).done so.0 in
        let now : slice_get t.0.rooms room ≡ Some c.new = ap (λ (x : Tree). slice_get x.rooms room) c.gives ∙ changed_room s.shape.tree room c.room c.new c.has_room in
        let here : slice_get tree.rooms room ≡ Some c.new = ap (λ (x : Tree). slice_get x.rooms room) (one_tree tree t.0 new.store.tree told t.1) ∙ now in
        let same : c.new ≡ container = some_room c.new container (slice_get tree.rooms room) here there in
        record { empty = subst (λ r. file_at r (temporary mine) ≡ Some []) same c.now; right = nothing_right container }

    begun : IsStarted caller room flat new
    begun = (
      λ f e. (let is = is_mine f e in (ap (λ (x : Flattening). x.room) is, ap (λ (x : Flattening). x.makes) is)),
      λ f e. subst (λ (x : Flattening). InRoom new x.room (MayPut x nothing_told)) (sym (is_mine f e)) empty,
    )

  pub started_so : IsStep old caller (unbroken (StartFlat room)) (reply_of.Started flat) new → IsStarted caller room flat new
  started_so step = elim (match_cases (draw_check old room) _ _ step.does) as (λ _. IsStarted caller room flat new) [
    | inl (none, m) ↦ begun m
    | inr (why, some, refused) ↦ absurd (let e = refused.0 in cc)
  ]

-- What stands of a packing that was started, until its bytes are put: its temporary file is empty, and the bytes are right.
use Rattle.std.proofs.Common.{◌≡◌, ◌≤◌, ℕ, List, [], ◌∷◌, ◌++◌, length, Some, None, Ok, Err, refl, ap, sym, ◌∙◌, inl, inr, subst, arith}
use Rattle.std.specs.Prelude.{slice_get}
use Rattle.plfs_types.specs.declared.entries.Entry.{Entry}
use Rattle.index_entry.specs.Spelling.{spelling_all}
use Rattle.index_pack.specs.Spelling.{Packs}
use Rattle.plfs_types.specs.declared.limits.TheConstants.{MAX_PACKED}
use Rattle.store_api.specs.declared.step.Answer.TheVariants.{Made, NoRoom, NoFolder}
use Rattle.store_api.specs.declared.store.Trouble.TheVariants as trouble
use Rattle.store_api.specs.declared.tree.Room.{Room}
use Rattle.store_api.specs.declared.tree.Tree.{Tree}
use Rattle.store_laws.specs.Changes.{Created}
use Rattle.store_laws.specs.Files.{file_at}
use Rattle.store_laws.specs.Tells.{made}
use Rattle.store_laws.proofs.Facts.{acts_told, changed_room, create_told}
use Rattle.mount_model.specs.Running.{unbroken}
use Rattle.mount_model.specs.declared.names.Metadata.{Metadata}
use Rattle.mount_model.specs.declared.call.Ask.{Ask}
use Rattle.mount_model.specs.declared.call.Call.TheVariants.{PutFlat, StartPack}
use Rattle.mount_model.specs.declared.reply.Reply.{Reply}
use Rattle.mount_model.specs.declared.reply.Reply.TheVariants as reply_of
use Rattle.mount_model.specs.declared.row.Flattening.{Flattening}
use Rattle.mount_model.specs.declared.row.FlatStage.TheVariants.{Begun}
use Rattle.mount_model.specs.declared.row.Making.{Making}
use Rattle.mount_model.specs.declared.row.Making.TheVariants as making
use Rattle.mount_model.specs.Entering.{draw_check, next_id}
use Rattle.mount_model.specs.Flattening.{begun_flat, start_outcome, start_step, Starts, StartsPackOf}
use Rattle.mount_model.specs.Making.{Told}
use Rattle.mount_model.specs.Paths.{temporary, temporary_of}
use Rattle.mount_model.specs.State.{State, Table, drawn}
use Rattle.mount_model.specs.Step.{IsStep}
use Rattle.mount_model.specs.Table.{flattening_at, flattening_of}
use Rattle.mount_model.proofs.Facts.{IsUnderway, found_before-push, is_underway, match_cases, next_not_flattened}
use Rattle.mount_sound.specs.Flats.{IsRightPack}
use Rattle.mount_sound.specs.Issued.{issued_after}
use Rattle.mount_sound.specs.Ledger.{Ledger}
use Rattle.mount_sound.specs.Owed.{InRoom, May, MayPut, Owes}
use Rattle.mount_sound.specs.Sound.{IsSoundFor}
use Rattle.mount_sound.proofs.Facts.{later, left_packs, one_tree, put_flat_lasts, some_room}
use Rattle.recovery_laws.proofs.Holds.Facts.{LastsOne}
use Rattle.migrate_core.specs.Longest.{packing}
use Rattle.migrate_core.proofs.Facts.{packing_is}
use Rattle.recovery_laws.proofs.Facts.{Cleanly, cleanly_then}
use Rattle.migrate_laws.proofs.Left.{IsWhole, IsWholeIn, whole_stays}

-- what holds of a sound state holds after each step of another caller
abbrev pub LastsBeside : ℕ → (State → Type 0) → Type 0
LastsBeside caller fact = (l : Ledger) (old new : State) (other : ℕ) (asked : Ask) (reply : Reply) → (other ≡ caller → ⊥) → May old other asked → IsStep old other asked reply new → IsSoundFor l old → fact old → fact new

pub beside_lasts : (caller : ℕ) (fact : State → Type 0) → LastsBeside caller fact → LastsOne caller (Cleanly fact)
beside_lasts caller fact beside old new other asked reply differ may step f =
    cleanly_then fact fact old new other asked reply may step f (λ l s holds. beside l old new other asked reply differ may.1 step s holds)

pub put_lasts : (caller flat : ℕ) (bytes : List ℕ) → LastsBeside caller (λ state. Owes state caller (PutFlat flat bytes))
put_lasts caller flat bytes l old new other asked reply differ may step s holds =
    put_flat_lasts l old new caller other flat bytes asked reply (λ same. differ (sym same)) holds may step s

-- ---- the bytes

-- the packed index of all entries of a writer that has left is right for its room
right_in : (l : Ledger) (state : State) (s : IsSoundFor l state) (number : ℕ) (room : Room) → slice_get s.shape.tree.rooms number ≡ Some room → (host writer : ℕ) (es : List Entry) → 1 ≤ length es → length es ≤ MAX_PACKED → IsWholeIn host writer es room → IsRightPack room host writer (packing es)
right_in l state s number room there host writer es some few x =
    let p = left_packs l state s number room there host writer (spelling_all es) x.stands x.left (omega (arith, some, ap length x.landed)) (omega (arith, few, ap length x.landed)) in
    let r : IsRightPack room host writer p.0 = p.1 in
    let same : p.0 ≡ packing es = packing_is p.0 es (subst (Packs p.0) x.landed r.packs) in
    subst (IsRightPack room host writer) same r

-- ---- it starts

pub start_made : (f : Flattening) (table : Table) (told : Told) (flat : ℕ) → reply_of.Started flat ≡ (start_outcome f table told).reply → (told ≡ made) × (flat ≡ f.id)
start_made f table (Ok Made) flat e = (refl, cc)
start_made f table (Ok NoRoom) flat e = absurd (cc)
start_made f table (Ok NoFolder) flat e = absurd (cc)
start_made f table (Ok answer) flat e = absurd (cc)
start_made f table (Err trouble.Fault) flat e = absurd (cc)
start_made f table (Err trouble.NoMemory) flat e = absurd (cc)

pub no_flattening : (f : Flattening) (flat id : ℕ) (flattenings : List Flattening) → flat ≡ id → flattening_at id flattenings ≡ None → flattening_at flat flattenings ≡ Some f → ⊥
no_flattening f flat id flattenings same none some = let clash : None ≡ Some f = sym none ∙ ap (λ q. flattening_at q flattenings) (sym same) ∙ some in cc

module _ (caller number flat : ℕ) (m : Metadata) (es : List Entry) (some : 1 ≤ length es) (few : length es ≤ MAX_PACKED) (l : Ledger) (old new : State) (s : IsSoundFor l old) (may : May old caller (unbroken (StartPack number m.host m.writer)))
    (step : IsStep old caller (unbroken (StartPack number m.host m.writer)) (reply_of.Started flat) new) (whole : IsWhole number m es old) where
  abbrev makes : Making
  makes = making.Pack m.host m.writer

  abbrev mine : Flattening
  mine = begun_flat old caller number makes

  module _ (x : Starts caller number makes old (reply_of.Started flat) new) where
    so : (x.told ≡ made) × (flat ≡ next_id old)
    so = start_made mine old.table x.told flat x.answered

    are : new.table.flattenings ≡ old.table.flattenings ++ mine ∷ []
    are = ap (λ (y : State). y.table.flattenings) x.after ∙ ap (λ told. (start_outcome mine old.table told).table.flattenings) so.0

    is_mine : (f : Flattening) → flattening_of caller Begun flat new.table.flattenings ≡ Some f → f ≡ mine
    is_mine f e =
        let is : IsUnderway caller Begun flat new.table.flattenings f = is_underway caller Begun flat new.table.flattenings f e in
        elim (found_before-push old.table.flattenings mine flat f (subst (λ fs. flattening_at flat fs ≡ Some f) are is.found)) as (λ _. f ≡ mine) [
          | inl was ↦ absurd (no_flattening f flat (next_id old) old.table.flattenings so.1 (next_not_flattened old.mount old.serial old.marks old.table.flattenings s.regular.flattenings) was)
          | inr it ↦ it.1
        ]

    right : (tree : Tree) (container : Room) → new.store.tree ≡ Some tree → slice_get tree.rooms number ≡ Some container → IsRightPack container m.host m.writer (packing es)
    right tree container told there =
        let after = later l old new caller (unbroken (StartPack number m.host m.writer)) (reply_of.Started flat) may step s in
        let w : IsWhole number m es new = whole_stays number m es l old new caller (unbroken (StartPack number m.host m.writer)) (reply_of.Started flat) may step s whole in
        let now = w tree told in
        let same : now.0 ≡ container = some_room now.0 container (slice_get tree.rooms number) now.1 there in
        let here : slice_get after.shape.tree.rooms number ≡ Some container = ap (λ (t : Tree). slice_get t.rooms number) (one_tree after.shape.tree tree new.store.tree after.shape.told told) ∙ there in
        right_in (issued_after l old (StartPack number m.host m.writer) (reply_of.Started flat)) new after number container here m.host m.writer es some few (subst (IsWholeIn m.host m.writer es) same now.2)

    may_put : InRoom new number (MayPut mine (packing es))
    may_put tree container told there =
        let t = acts_told (start_step mine) (drawn old).store new.store s.shape.tree x.told s.shape.told x.made in
        let c : Created s.shape.tree number (temporary_of makes (next_id old)) t.0 = (create_told number (temporary_of makes (next_id old)) s.shape.tree x.told t.0 t.2).done so.0 in
        let now : slice_get t.0.rooms number ≡ Some c.new = ap (λ (y : Tree). slice_get y.rooms number) c.gives ∙ changed_room s.shape.tree number c.room c.new c.has_room in
        let here : slice_get tree.rooms number ≡ Some c.new = ap (λ (y : Tree). slice_get y.rooms number) (one_tree tree t.0 new.store.tree told t.1) ∙ now in
        let same : c.new ≡ container = some_room c.new container (slice_get tree.rooms number) here there in
        record { empty = subst (λ r. file_at r (temporary mine) ≡ Some []) same c.now; right = right tree container told there }

    may_be_put : Owes new caller (PutFlat flat (packing es))
    may_be_put f e = subst (λ (y : Flattening). InRoom new y.room (MayPut y (packing es))) (sym (is_mine f e)) may_put

  -- what was begun may be put
  pub started_so : Owes new caller (PutFlat flat (packing es))
  started_so = elim (match_cases (draw_check old number) _ _ step.does) as (λ _. Owes new caller (PutFlat flat (packing es))) [
    | inl (none, x) ↦ (let p : StartsPackOf caller number m.host m.writer old (reply_of.Started flat) new = x in may_be_put p.makes)
    | inr (why, is, refused) ↦ absurd (let e = refused.0 in cc)
  ]

-- What each act of a flattening makes of it, and of the tree.
use Rattle.std.proofs.Common.{◌≡◌, ◌<◌, ◌^◌, ℕ, List, [], ◌∷◌, ◌++◌, take, Option, Some, None, refl, ap, sym, ◌∙◌, inl, inr, subst, arith, Ok}
use Rattle.std.specs.Prelude.{slice_get}
use Rattle.plfs_types.specs.Bytes.{overwritten}
use Rattle.store_api.specs.declared.step.Answer.TheVariants.{Made}
use Rattle.store_api.specs.declared.tree.Room.{Room}
use Rattle.store_api.specs.declared.tree.Tree.{Tree}
use Rattle.store_laws.specs.Changes.{Created, Wrote, WasSynced, with_room}
use Rattle.store_laws.specs.Files.{SameButFile}
use Rattle.store_laws.specs.Tells.{Tells, made}
use Rattle.store_laws.proofs.Facts.{create_told, sync_told, write_told}
use Rattle.mount_model.specs.declared.row.Flattening.{Flattening}
use Rattle.mount_model.specs.declared.row.FlatStage.{FlatStage}
use Rattle.mount_model.specs.declared.row.FlatStage.TheVariants.{Begun, Put, Synced}
use Rattle.mount_model.specs.declared.row.Making.{Making}
use Rattle.mount_model.specs.Entering.{next_id}
use Rattle.mount_model.specs.Flattening.{begun_flat, start_step, start_outcome, put_flat_step, put_flat_outcome, sync_flat_step, sync_flat_outcome, come_to}
use Rattle.mount_model.specs.Making.{Told}
use Rattle.mount_model.specs.Paths.{temporary_of}
use Rattle.mount_model.specs.Regular.{IsRegular}
use Rattle.mount_model.specs.State.{State, Table}
use Rattle.mount_model.specs.Table.{flat_rank, flattening_at}
use Rattle.mount_model.proofs.Facts.{IsUnderway, flattening_at_other-push, flattening_at_other-with_flattening, found_before-push, found_before-with_flattening, next_not_flattened}
use Rattle.mount_sound.specs.Named.{FitsNames}
use Rattle.mount_sound.specs.Shape.{IsShaped}
use Rattle.mount_sound.specs.Flats.{IsBegunIn, IsRightFor, IsFlatteningIn}
use Rattle.mount_sound.specs.Owed.{MayPut}
use Rattle.mount_sound.proofs.Calls.Aside.{HasSoundFlats, one_room}
use Rattle.mount_sound.proofs.Indices.BeingMade.{DiffersIn, begun_beside, flat_beside, flat_goes_on, over_none}
use Rattle.mount_sound.proofs.Indices.FlatRooms.{FlatChanged, but_temporary, right_still}
use Rattle.mount_sound.proofs.Indices.Flattening.{flat_id_fits}
use Rattle.mount_sound.proofs.Indices.Makings.{named_of}
use Rattle.mount_sound.proofs.Droppings.Syncing.{told_made}

one_flattening : (a b : Flattening) (o : Option Flattening) → o ≡ Some a → o ≡ Some b → a ≡ b
one_flattening a b o p q = cc

pub no_flattening : (a : Flattening) (o : Option Flattening) → o ≡ None → o ≡ Some a → ⊥
no_flattening a o p q = cc

differs_not : (id : ℕ) (table : Table) → DiffersIn id table table
differs_not id table = record { others = λ q other. refl; holders = refl }

-- what a call tells that wasn't made leaves the table
start_stays : (f : Flattening) (table : Table) (told : Told) → (told ≡ made → ⊥) → (start_outcome f table told).table ≡ table
start_stays f table (Ok Made) other = absurd (other refl)
start_stays f table told other = refl

put_stays : (f : Flattening) (table : Table) (told : Told) → (told ≡ made → ⊥) → (put_flat_outcome f table told).table ≡ table
put_stays f table (Ok Made) other = absurd (other refl)
put_stays f table told other = refl

sync_stays : (f : Flattening) (table : Table) (told : Told) → (told ≡ made → ⊥) → (sync_flat_outcome f table told).table ≡ table
sync_stays f table (Ok Made) other = absurd (other refl)
sync_stays f table told other = refl

module _ (old : State) (r : IsRegular old) (s : IsShaped old) (flats : HasSoundFlats old.table s.tree) where
  pub unchanged : (after : Tree) → after ≡ s.tree → HasSoundFlats old.table after
  unchanged after same = subst (HasSoundFlats old.table) (sym same) flats

  -- the temporary file alone has changed, and this stands of the flattening then
  by_file : (n : ℕ) (makes : Making) (id : ℕ) → FitsNames makes → id < 2 ^ 64 → (table : Table) (after : Tree) (room new : Room) → slice_get s.tree.rooms n ≡ Some room → SameButFile (temporary_of makes id) room new → after ≡ with_room s.tree n new
      → DiffersIn id old.table table → ((g : Flattening) → flattening_at id table.flattenings ≡ Some g → (g.room ≡ n) × IsFlatteningIn new g) → HasSoundFlats table after
  by_file n makes id named fits table after room new there same gives differs own =
      let c : FlatChanged s.tree n makes id after = record { room = room; new = new; has_room = there; same = but_temporary makes id room new named fits same; gives = gives } in
      flat_goes_on s.tree n makes id named fits after c old.table table differs (λ q g e. flat_id_fits old r q g e)
      (record { flat = flat_beside makes id room new named fits same (flats.flats n room there makes id); own = own }) flats

  -- ---- it begins

  module _ (caller room : ℕ) (makes : Making) (named : FitsNames makes) (fits : next_id old < 2 ^ 64) (begins : (container : Room) → slice_get s.tree.rooms room ≡ Some container → IsBegunIn container makes (next_id old)) where
    no_other : (g : Flattening) → flattening_at (next_id old) old.table.flattenings ≡ Some g → ⊥
    no_other g e = no_flattening g (flattening_at (next_id old) old.table.flattenings) (next_not_flattened old.mount old.serial old.marks old.table.flattenings r.flattenings) e

    started : (table : Table) (after : Tree) → DiffersIn (next_id old) old.table table → ((g : Flattening) → flattening_at (next_id old) table.flattenings ≡ Some g → g ≡ begun_flat old caller room makes) → Created s.tree room (temporary_of makes (next_id old)) after → HasSoundFlats table after
    started table after differs own c = by_file room makes (next_id old) named fits table after c.room c.new c.has_room c.others c.gives differs
        (λ g e. subst (λ (x : Flattening). (x.room ≡ room) × IsFlatteningIn c.new x) (sym (own g e)) (
          refl,
          record {
            begun = begun_beside makes (next_id old) c.room c.new named fits c.others (begins c.room c.has_room);
            bytes = [];
            there = c.now;
            put = λ far. absurd (omega arith);
            synced = λ far. absurd (omega arith);
          },
        ))

    push_own : (g : Flattening) → flattening_at (next_id old) (old.table.flattenings ++ begun_flat old caller room makes ∷ []) ≡ Some g → g ≡ begun_flat old caller room makes
    push_own g e = elim (found_before-push old.table.flattenings (begun_flat old caller room makes) (next_id old) g e) as (λ _. g ≡ begun_flat old caller room makes) [
      | inl before ↦ absurd (no_other g before)
      | inr is ↦ is.1
    ]

    pub start_told : (told : Told) (after : Tree) → Tells (start_step (begun_flat old caller room makes)) s.tree told after → HasSoundFlats (start_outcome (begun_flat old caller room makes) old.table told).table after
    start_told told after t =
        let c = create_told room (temporary_of makes (next_id old)) s.tree told after t in
        elim (told_made told) as (λ _. HasSoundFlats (start_outcome (begun_flat old caller room makes) old.table told).table after) [
          | inl done ↦ subst (λ x. HasSoundFlats (start_outcome (begun_flat old caller room makes) old.table x).table after) (sym done)
              (started (record old.table { flattenings = old.table.flattenings ++ begun_flat old caller room makes ∷ [] }) after
              (record { others = λ q other. flattening_at_other-push old.table.flattenings (begun_flat old caller room makes) q other; holders = refl }) push_own (c.done done))
          | inr other ↦ subst (λ table. HasSoundFlats table after) (sym (start_stays (begun_flat old caller room makes) old.table told other)) (elim c.either as (λ _. HasSoundFlats old.table after) [
            | inl created ↦ started old.table after (differs_not (next_id old) old.table) (λ g e. absurd (no_other g e)) created
            | inr same ↦ unchanged after same
          ])
        ]

  -- ---- it goes on

  module _ (caller : ℕ) (stage : FlatStage) (flat : ℕ) (f : Flattening) (is : IsUnderway caller stage flat old.table.flattenings f) where
    pub fits_own : f.id < 2 ^ 64
    fits_own = flat_id_fits old r flat f is.found

    its_own : (g : Flattening) → flattening_at f.id old.table.flattenings ≡ Some g → g ≡ f
    its_own g e = one_flattening g f (flattening_at flat old.table.flattenings) (ap (λ i. flattening_at i old.table.flattenings) (sym is.is) ∙ e) is.found

    -- what stands of it in its room
    was : IsFlatteningIn (flats.flattenings flat f is.found).0 f
    was = (flats.flattenings flat f is.found).2

    pub named_own : FitsNames f.makes
    named_own = named_of (flats.flattenings flat f is.found).0 f.makes f.id was.begun

    pub here : (room : Room) → slice_get s.tree.rooms f.room ≡ Some room → IsFlatteningIn room f
    here room there = subst (λ x. IsFlatteningIn x f) (one_room (flats.flattenings flat f is.found).0 room (slice_get s.tree.rooms f.room) (flats.flattenings flat f is.found).1 there) was

    -- what it began with is there, where the temporary file alone has changed
    begun_yet : (room new : Room) → slice_get s.tree.rooms f.room ≡ Some room → SameButFile (temporary_of f.makes f.id) room new → IsBegunIn new f.makes f.id
    begun_yet room new there same = begun_beside f.makes f.id room new named_own fits_own same (here room there).begun

    -- it has come to another stage
    come : (next : FlatStage) (after : Tree) (room new : Room) → slice_get s.tree.rooms f.room ≡ Some room → SameButFile (temporary_of f.makes f.id) room new → after ≡ with_room s.tree f.room new → IsFlatteningIn new (record f { stage = next }) → HasSoundFlats (come_to next f old.table) after
    come next after room new there same gives i = by_file f.room f.makes f.id named_own fits_own (come_to next f old.table) after room new there same gives
        (record { others = λ q other. flattening_at_other-with_flattening (record f { stage = next }) old.table.flattenings q other; holders = refl })
        (λ g e. elim (found_before-with_flattening (record f { stage = next }) old.table.flattenings f.id g e) as (λ _. (g.room ≡ f.room) × IsFlatteningIn new g) [
          | inl before ↦ absurd (before.0 refl)
          | inr its ↦ subst (λ (x : Flattening). (x.room ≡ f.room) × IsFlatteningIn new x) (sym its.1) (refl, i)
        ])

    -- it is in its stage yet
    remain : (after : Tree) (room new : Room) → slice_get s.tree.rooms f.room ≡ Some room → SameButFile (temporary_of f.makes f.id) room new → after ≡ with_room s.tree f.room new → IsFlatteningIn new f → HasSoundFlats old.table after
    remain after room new there same gives i = by_file f.room f.makes f.id named_own fits_own old.table after room new there same gives (differs_not f.id old.table)
        (λ g e. subst (λ (x : Flattening). (x.room ≡ f.room) × IsFlatteningIn new x) (sym (its_own g e)) (refl, i))

  -- ---- it is written

  module _ (caller flat : ℕ) (bytes : List ℕ) (f : Flattening) (is : IsUnderway caller Begun flat old.table.flattenings f) (owes : (room : Room) → slice_get s.tree.rooms f.room ≡ Some room → MayPut f bytes room) where
    put_whole : (after : Tree) → Wrote s.tree f.room (temporary_of f.makes f.id) 0 bytes after → HasSoundFlats (come_to Put f old.table) after
    put_whole after w =
        let o : MayPut f bytes w.room = owes w.room w.has_room in
        let both : Some [] ≡ Some w.old = sym o.empty ∙ w.there in
        let empty : w.old ≡ [] = cc in
        come caller Begun flat f is Put after w.room w.new w.has_room w.others w.gives
        (record {
          begun = begun_yet caller Begun flat f is w.room w.new w.has_room w.others;
          bytes = bytes;
          there = w.now ∙ ap (λ b. Some (overwritten b 0 bytes)) empty ∙ ap (λ b. Some b) (over_none bytes);
          put = λ far. right_still f.makes f.id w.room w.new (but_temporary f.makes f.id w.room w.new (named_own caller Begun flat f is) (fits_own caller Begun flat f is) w.others) f.makes bytes o.right;
          synced = λ far. absurd (omega arith);
        })

    put_part : (after : Tree) (part : List ℕ) → Wrote s.tree f.room (temporary_of f.makes f.id) 0 part after → HasSoundFlats old.table after
    put_part after part w =
        let rank : flat_rank f.stage ≡ 0 = ap flat_rank is.staged in
        remain caller Begun flat f is after w.room w.new w.has_room w.others w.gives
        (record {
          begun = begun_yet caller Begun flat f is w.room w.new w.has_room w.others;
          bytes = overwritten w.old 0 part;
          there = w.now;
          put = λ far. absurd (omega (arith, rank, far));
          synced = λ far. absurd (omega (arith, rank, far));
        })

    pub put_told : (told : Told) (after : Tree) → Tells (put_flat_step f bytes) s.tree told after → HasSoundFlats (put_flat_outcome f old.table told).table after
    put_told told after t =
        elim (write_told f.room (temporary_of f.makes f.id) 0 bytes s.tree told after t) as (λ _. HasSoundFlats (put_flat_outcome f old.table told).table after) [
          | inl (done, w) ↦ subst (λ x. HasSoundFlats (put_flat_outcome f old.table x).table after) (sym done) (put_whole after w)
          | inr (other, inl same) ↦ subst (λ table. HasSoundFlats table after) (sym (put_stays f old.table told other)) (unchanged after same)
          | inr (other, inr (k, within, w)) ↦ subst (λ table. HasSoundFlats table after) (sym (put_stays f old.table told other)) (put_part after (take k bytes) w)
        ]

  -- ---- it is synced

  module _ (caller flat : ℕ) (f : Flattening) (is : IsUnderway caller Put flat old.table.flattenings f) where
    -- what was written is right yet
    still_right : (after : Tree) (c : WasSynced s.tree f.room (temporary_of f.makes f.id) after) → IsRightFor c.new f.makes c.old
    still_right after c =
        let i : IsFlatteningIn c.room f = here caller Put flat f is c.room c.has_room in
        let both : Some i.bytes ≡ Some c.old = sym i.there ∙ c.there in
        let its : i.bytes ≡ c.old = cc in
        let rank : flat_rank f.stage ≡ 1 = ap flat_rank is.staged in
        right_still f.makes f.id c.room c.new (but_temporary f.makes f.id c.room c.new (named_own caller Put flat f is) (fits_own caller Put flat f is) c.others) f.makes c.old (subst (IsRightFor c.room f.makes) its (i.put (omega (arith, rank))))

    -- so it stands in any stage
    synced_in : (stage : FlatStage) (after : Tree) (c : WasSynced s.tree f.room (temporary_of f.makes f.id) after) → IsFlatteningIn c.new (record f { stage = stage })
    synced_in stage after c = record {
      begun = begun_yet caller Put flat f is c.room c.new c.has_room c.others;
      bytes = c.old;
      there = c.now;
      put = λ far. still_right after c;
      synced = λ far. omega (arith, c.kept);
    }

    pub sync_told_flats : (told : Told) (after : Tree) → Tells (sync_flat_step f) s.tree told after → HasSoundFlats (sync_flat_outcome f old.table told).table after
    sync_told_flats told after t =
        let c = sync_told f.room (temporary_of f.makes f.id) s.tree told after t in
        elim (told_made told) as (λ _. HasSoundFlats (sync_flat_outcome f old.table told).table after) [
          | inl done ↦
              let w : WasSynced s.tree f.room (temporary_of f.makes f.id) after = c.done done in
              subst (λ x. HasSoundFlats (sync_flat_outcome f old.table x).table after) (sym done)
              (come caller Put flat f is Synced after w.room w.new w.has_room w.others w.gives (synced_in Synced after w))
          | inr other ↦ subst (λ table. HasSoundFlats table after) (sym (sync_stays f old.table told other)) (elim c.either as (λ _. HasSoundFlats old.table after) [
            | inl w ↦ remain caller Put flat f is after w.room w.new w.has_room w.others w.gives (synced_in f.stage after w)
            | inr same ↦ unchanged after same
          ])
        ]

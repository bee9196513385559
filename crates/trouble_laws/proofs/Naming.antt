-- A truncate, a rename and a look at what is told of a file show no damage.
use Rattle.std.proofs.Common.{◌≡◌, ℕ, max, Bool, true, false, List, [], ◌∷◌, ◌++◌, Some, refl, inl, inr}
use Rattle.std.specs.Prelude.{Result, Ok, Err}
use Rattle.plfs_types.specs.declared.entries.Trunc.{Trunc}
use Rattle.plain_file.proofs.Facts.{Among}
use Rattle.mount_model.specs.declared.call.Call.TheVariants.{Hold, Look, Mark, Move, Release}
use Rattle.mount_model.specs.declared.call.Look.TheVariants.{List as ListFolder}
use Rattle.mount_model.specs.declared.reply.Reply.{Reply}
use Rattle.mount_model.specs.declared.reply.Reply.TheVariants.{Done, Marked}
use Rattle.mount_model.specs.Paths.{Name, metadata, truncs}
use Rattle.container_layout.specs.Paths.{openhosts}
use Rattle.mount_model.specs.State.{State}
use Rattle.mount_undamaged.specs.Damage.{ShowsNoDamage}
use Rattle.mount_model.specs.declared.stuck.Stuck.{Stuck}
use Rattle.mount_model.specs.Program.{done}
use Rattle.mount_model.specs.declared.names.Metadata.{Metadata}
use Rattle.mount_model.specs.declared.names.OpenEntry.{OpenEntry}
use Rattle.mount_model.specs.FlowListed.{told_by}
use Rattle.mount_model.specs.Names.{meta_in, open_in, trunc_in}
use Rattle.mount_model.specs.FlowReplies.{Tries, failure, given, on_ok}
use Rattle.attr_flow.specs.Asking.{attr_program, attributes, if_open, lists_metadata as asks_metadata, lists_open, lists_truncs as asks_truncs}
use Rattle.attr_flow.specs.Listings.{has_entry, is_open, metadata_named, truncs_named}
use Rattle.trunc_rename.specs.Holding.{holder_in, holds, lets_go, or_lets_go, released}
use Rattle.trunc_rename.specs.Renaming.{moved, moves, rename_program}
use Rattle.trunc_rename.specs.Tops.{metadata_top, truncs_top}
use Rattle.trunc_rename.specs.Truncating.{lists_metadata, lists_truncs, marked, marks, truncate_program}
use Rattle.trouble_laws.specs.Undamaged.{IsUndamaged}
use Rattle.trouble_laws.proofs.Finding.{Anything, anything_stays, failure_plain, found_ends}
use Rattle.trouble_laws.proofs.Listed.{entries_known, known_so, metas_known, told_of_names, told_where_there, truncs_known}
use Rattle.trouble_laws.proofs.Walking.{Ends, ends_ask, ends_call, ends_done, ends_given, ends_on_ok}

-- ---- what names tell

metadata_tops : (names : List Name) (top : ℕ) → ((name : Name) → Among name names → (m : Metadata) × (meta_in name ≡ Some m)) → IsUndamaged (metadata_top names top)
metadata_tops [] top each = tt
metadata_tops (name ∷ names) top each =
    let here = each name (inl refl) in
    known_so metadata name (meta_in name) (λ (m : Metadata). metadata_top names (max top m.stamp)) here.0 here.1 (metadata_tops names (max top here.0.stamp) (λ n a. each n (inr a)))

truncs_tops : (names : List Name) (top : ℕ) → ((name : Name) → Among name names → (t : Trunc) × (trunc_in name ≡ Some t)) → IsUndamaged (truncs_top names top)
truncs_tops [] top each = tt
truncs_tops (name ∷ names) top each =
    let here = each name (inl refl) in
    known_so truncs name (trunc_in name) (λ (t : Trunc). truncs_top names (max top t.stamp)) here.0 here.1 (truncs_tops names (max top here.0.stamp) (λ n a. each n (inr a)))

all_metadata : (names : List Name) (sofar : List Metadata) → ((name : Name) → Among name names → (m : Metadata) × (meta_in name ≡ Some m)) → IsUndamaged (metadata_named names sofar)
all_metadata [] sofar each = tt
all_metadata (name ∷ names) sofar each =
    let here = each name (inl refl) in
    known_so metadata name (meta_in name) (λ (m : Metadata). metadata_named names (sofar ++ m ∷ [])) here.0 here.1 (all_metadata names (sofar ++ here.0 ∷ []) (λ n a. each n (inr a)))

all_truncs : (names : List Name) (sofar : List Trunc) → ((name : Name) → Among name names → (t : Trunc) × (trunc_in name ≡ Some t)) → IsUndamaged (truncs_named names sofar)
all_truncs [] sofar each = tt
all_truncs (name ∷ names) sofar each =
    let here = each name (inl refl) in
    known_so truncs name (trunc_in name) (λ (t : Trunc). truncs_named names (sofar ++ t ∷ [])) here.0 here.1 (all_truncs names (sofar ++ here.0 ∷ []) (λ n a. each n (inr a)))

all_entries : (names : List Name) (before : Bool) → ((name : Name) → Among name names → (e : OpenEntry) × (open_in name ≡ Some e)) → IsUndamaged (has_entry names before)
all_entries [] before each = tt
all_entries (name ∷ names) before each =
    let here = each name (inl refl) in
    known_so openhosts name (open_in name) (λ (e : OpenEntry). has_entry names true) here.0 here.1 (all_entries names true (λ n a. each n (inr a)))

module _ (caller : ℕ) where
  -- ---- a container is held

  module _ {R : Type 0} where
    released_plain : (result : Result R Stuck) (reply : Reply) → IsUndamaged result → ShowsNoDamage reply → IsUndamaged (released result reply)
    released_plain (Err why) reply plain shows = plain
    released_plain (Ok result) Done plain shows = tt
    released_plain (Ok result) reply plain shows = failure_plain reply shows

    lets_go_ends : (holder : ℕ) (result : Result R Stuck) → IsUndamaged result → (state : State) → Ends caller IsUndamaged (lets_go holder result) state
    lets_go_ends holder result plain = ends_call caller IsUndamaged (Release holder) (λ reply. done (released result reply)) (λ reply shows. ends_done caller IsUndamaged (released result reply) (released_plain result reply plain shows))

    or_lets_go_ends : {A : Type 0} (holder : ℕ) (next : A → Tries R) (result : Result A Stuck) → IsUndamaged result → ((a : A) (state : State) → Ends caller IsUndamaged (next a) state) → (state : State) → Ends caller IsUndamaged (or_lets_go holder next result) state
    or_lets_go_ends holder next (Ok a) plain on = on a
    or_lets_go_ends holder next (Err why) plain on = lets_go_ends holder (Err why) plain

    holds_end : (room : ℕ) (next : ℕ → Tries R) → ((holder : ℕ) (state : State) → Ends caller IsUndamaged (next holder) state) → (state : State) → Ends caller IsUndamaged (holds room next) state
    holds_end room next on = ends_call caller IsUndamaged (Hold room) (λ reply. given (holder_in reply) (failure reply) next)
        (λ reply shows. ends_given caller (holder_in reply) (failure reply) next (failure_plain reply shows) (λ holder is. on holder))

  -- ---- a rename

  moved_plain : (reply : Reply) → ShowsNoDamage reply → IsUndamaged (moved reply)
  moved_plain Done shows = tt
  moved_plain reply shows = failure_plain reply shows

  moves_end : (to : Name) (holder : ℕ) (state : State) → Ends caller IsUndamaged (moves to holder) state
  moves_end to holder = ends_call caller IsUndamaged (Move holder to) (λ reply. lets_go holder (moved reply)) (λ reply shows. lets_go_ends holder (moved reply) (moved_plain reply shows))

  pub rename_ends : (name to : List ℕ) (state : State) → Ends caller IsUndamaged (rename_program name to) state
  rename_ends name to = found_ends caller name (λ room. holds room (moves to)) (λ room. holds_end room (moves to) (moves_end to))

  -- ---- a truncate

  marked_plain : (reply : Reply) → ShowsNoDamage reply → IsUndamaged (marked reply)
  marked_plain (Marked stamp) shows = tt
  marked_plain reply shows = failure_plain reply shows

  marks_end : (size holder top : ℕ) (state : State) → Ends caller IsUndamaged (marks size holder top) state
  marks_end size holder top = ends_call caller IsUndamaged (Mark holder size top) (λ reply. lets_go holder (marked reply)) (λ reply shows. lets_go_ends holder (marked reply) (marked_plain reply shows))

  top_truncs_end : (size room holder top : ℕ) (state : State) → Ends caller IsUndamaged (lists_truncs size room holder top) state
  top_truncs_end size room holder top state = ends_ask caller IsUndamaged Anything anything_stays (Look room (ListFolder truncs))
      (λ reply. or_lets_go holder (marks size holder) (told_by truncs (λ names. truncs_top names top) reply))
      (λ issued now reply after may step s f. or_lets_go_ends holder (marks size holder) (told_by truncs (λ names. truncs_top names top) reply)
      (told_of_names issued now s caller room truncs reply after (λ names. truncs_top names top) step (λ r c. c.has_truncs) (λ names l. truncs_tops names top (truncs_known issued now s room names l)))
      (marks_end size holder) after) state tt

  top_metadata_end : (size room holder : ℕ) (state : State) → Ends caller IsUndamaged (lists_metadata size room holder) state
  top_metadata_end size room holder state = ends_ask caller IsUndamaged Anything anything_stays (Look room (ListFolder metadata))
      (λ reply. or_lets_go holder (lists_truncs size room holder) (told_by metadata (λ names. metadata_top names 0) reply))
      (λ issued now reply after may step s f. or_lets_go_ends holder (lists_truncs size room holder) (told_by metadata (λ names. metadata_top names 0) reply)
      (told_of_names issued now s caller room metadata reply after (λ names. metadata_top names 0) step (λ r c. c.has_metadata) (λ names l. metadata_tops names 0 (metas_known issued now s room names l)))
      (top_truncs_end size room holder) after) state tt

  pub truncate_ends : (name : List ℕ) (size : ℕ) (state : State) → Ends caller IsUndamaged (truncate_program name size) state
  truncate_ends name size = found_ends caller name (λ room. holds room (lists_metadata size room)) (λ room. holds_end room (lists_metadata size room) (top_metadata_end size room))

  -- ---- what is told of a file

  attributes_plain : (metas : List Metadata) (result : Result (List Trunc) Stuck) → IsUndamaged result → IsUndamaged (attributes metas result)
  attributes_plain metas (Ok listed) plain = tt
  attributes_plain metas (Err why) plain = plain

  truncs_end : (room : ℕ) (metas : List Metadata) (state : State) → Ends caller IsUndamaged (asks_truncs room metas) state
  truncs_end room metas state = ends_ask caller IsUndamaged Anything anything_stays (Look room (ListFolder truncs))
      (λ reply. done (attributes metas (told_by truncs (λ names. truncs_named names []) reply)))
      (λ issued now reply after may step s f. ends_done caller IsUndamaged (attributes metas (told_by truncs (λ names. truncs_named names []) reply))
      (attributes_plain metas (told_by truncs (λ names. truncs_named names []) reply)
      (told_of_names issued now s caller room truncs reply after (λ names. truncs_named names []) step (λ r c. c.has_truncs) (λ names l. all_truncs names [] (truncs_known issued now s room names l)))) after) state tt

  metadata_end : (room : ℕ) (state : State) → Ends caller IsUndamaged (asks_metadata room) state
  metadata_end room state = ends_ask caller IsUndamaged Anything anything_stays (Look room (ListFolder metadata))
      (λ reply. on_ok (asks_truncs room) (told_by metadata (λ names. metadata_named names []) reply))
      (λ issued now reply after may step s f. ends_on_ok caller (asks_truncs room) (told_by metadata (λ names. metadata_named names []) reply)
      (told_of_names issued now s caller room metadata reply after (λ names. metadata_named names []) step (λ r c. c.has_metadata) (λ names l. all_metadata names [] (metas_known issued now s room names l)))
      (truncs_end room) after) state tt

  if_open_ends : (room : ℕ) (open_now : Bool) (state : State) → Ends caller IsUndamaged (if_open room open_now) state
  if_open_ends room true = ends_done caller IsUndamaged _ tt
  if_open_ends room false = metadata_end room

  lists_open_ends : (room : ℕ) (state : State) → Ends caller IsUndamaged (lists_open room) state
  lists_open_ends room state = ends_ask caller IsUndamaged Anything anything_stays (Look room (ListFolder openhosts))
      (λ reply. on_ok (if_open room) (is_open reply))
      (λ issued now reply after may step s f. ends_on_ok caller (if_open room) (is_open reply)
      (told_where_there issued now s caller room openhosts reply after (Ok false) (λ names. has_entry names false) step tt (λ names l. all_entries names false (entries_known issued now s room names l)))
      (if_open_ends room) after) state tt

  pub tell_ends : (name : List ℕ) (state : State) → Ends caller IsUndamaged (attr_program name) state
  tell_ends name = found_ends caller name lists_open lists_open_ends

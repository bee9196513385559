-- That what asks of a container what its file is isn't refused, where the container is there.
use Rattle.std.proofs.Common.{◌≡◌, ℕ, Bool, true, false, List, [], ◌∷◌, ◌++◌, Option, Some, None, Result, Ok, Err, refl, if◌then◌else◌}
use Rattle.plfs_types.specs.declared.entries.Trunc.{Trunc}
use Rattle.store_api.specs.declared.step.Answer.TheVariants.{Names}
use Rattle.mount_model.specs.declared.reply.Refusal.{Refusal}
use Rattle.mount_model.specs.declared.reply.Reply.{Reply}
use Rattle.mount_model.specs.declared.reply.Reply.TheVariants as reply
use Rattle.mount_model.specs.Paths.{Name, metadata, truncs}
use Rattle.container_layout.specs.Paths.{openhosts}
use Rattle.mount_model.specs.declared.stuck.Stuck.{Stuck}
use Rattle.mount_model.specs.declared.names.Metadata.{Metadata}
use Rattle.mount_model.specs.declared.names.OpenEntry.{OpenEntry}
use Rattle.mount_model.specs.FlowListed.{known, told_by}
use Rattle.mount_model.specs.Names.{meta_in, open_in, trunc_in}
use Rattle.mount_model.specs.FlowReplies.{is_no_folder}
use Rattle.attr_flow.specs.Asking.{attributes, if_open, lists_metadata, lists_open, lists_truncs}
use Rattle.attr_flow.specs.Listings.{has_entry, is_open, metadata_named, truncs_named}
use Rattle.headline_laws.proofs.Reasons.Looks.{At, IsWell, Seeks, never_refused, on_ok_goes}

known_fine : {A B : Type 0} (folder name : Name) (item : Option A) (goes_on : A → Result B Stuck) → ((a : A) → IsWell (goes_on a)) → IsWell (known folder name item goes_on)
known_fine folder name None goes_on each = tt
known_fine folder name (Some a) goes_on each = each a

told_fine : {A : Type 0} (folder : Name) (tells : List Name → Result A Stuck) (rep : Reply) → ((names : List Name) → IsWell (tells names)) → ((why : Refusal) → rep ≡ reply.Refused why → ⊥) → IsWell (told_by folder tells rep)
told_fine folder tells (reply.Looked (Names names)) each fine = each names
told_fine folder tells (reply.Looked answer) each fine = tt
told_fine folder tells (reply.Refused why) each fine = absurd (fine why refl)
told_fine folder tells rep each fine = tt

entry_fine : (names : List Name) (before : Bool) → IsWell (has_entry names before)
entry_fine [] before = tt
entry_fine (name ∷ names) before = known_fine openhosts name (open_in name) (λ (e : OpenEntry). has_entry names true) (λ (e : OpenEntry). entry_fine names true)

metadata_fine : (names : List Name) (sofar : List Metadata) → IsWell (metadata_named names sofar)
metadata_fine [] sofar = tt
metadata_fine (name ∷ names) sofar = known_fine metadata name (meta_in name) (λ (m : Metadata). metadata_named names (sofar ++ m ∷ [])) (λ (m : Metadata). metadata_fine names (sofar ++ m ∷ []))

truncs_fine : (names : List Name) (sofar : List Trunc) → IsWell (truncs_named names sofar)
truncs_fine [] sofar = tt
truncs_fine (name ∷ names) sofar = known_fine truncs name (trunc_in name) (λ (t : Trunc). truncs_named names (sofar ++ t ∷ [])) (λ (t : Trunc). truncs_fine names (sofar ++ t ∷ []))

open_fine : (rep : Reply) → ((why : Refusal) → rep ≡ reply.Refused why → ⊥) → IsWell (is_open rep)
open_fine rep fine = elim (is_no_folder rep) as (λ b. IsWell (if b then Ok false else told_by openhosts (λ names. has_entry names false) rep)) [
  | true ↦ tt
  | false ↦ told_fine openhosts (λ names. has_entry names false) rep (λ names. entry_fine names false) fine
]

attributes_fine : (metas : List Metadata) (listed : Result (List Trunc) Stuck) → IsWell listed → IsWell (attributes metas listed)
attributes_fine metas (Ok listed) fine = tt
attributes_fine metas (Err why) fine = fine

truncs_seek : (room : ℕ) (metas : List Metadata) → Seeks never_refused (At room) (lists_truncs room metas)
truncs_seek room metas = (refl, λ rep found. attributes_fine metas (told_by truncs (λ names. truncs_named names []) rep) (told_fine truncs (λ names. truncs_named names []) rep (λ names. truncs_fine names []) found))

metadata_seek : (room : ℕ) → Seeks never_refused (At room) (lists_metadata room)
metadata_seek room = (refl, λ rep found. on_ok_goes never_refused (At room) (lists_truncs room) (told_by metadata (λ names. metadata_named names []) rep) (told_fine metadata (λ names. metadata_named names []) rep (λ names. metadata_fine names []) found) (truncs_seek room))

if_open_seeks : (room : ℕ) (b : Bool) → Seeks never_refused (At room) (if_open room b)
if_open_seeks room true = tt
if_open_seeks room false = metadata_seek room

-- whether somebody has it open, and what those that left it say
pub open_seeks : (room : ℕ) → Seeks never_refused (At room) (lists_open room)
open_seeks room = (refl, λ rep found. on_ok_goes never_refused (At room) (if_open room) (is_open rep) (open_fine rep found) (if_open_seeks room))

-- What the names of the listings tell.
use Rattle.std.specs.Prelude.{Bool, true, false, if◌then◌else◌, List, [], ◌∷◌, ◌++◌, Result, Ok}
use Rattle.plfs_types.specs.declared.entries.Trunc.{Trunc}
use Rattle.mount_model.specs.declared.stuck.Stuck.{Stuck}
use Rattle.mount_model.specs.declared.reply.Reply.{Reply}
use Rattle.mount_model.specs.Paths.{Name, metadata, truncs}
use Rattle.container_layout.specs.Paths.{openhosts}
use Rattle.mount_model.specs.declared.names.Metadata.{Metadata}
use Rattle.mount_model.specs.declared.names.OpenEntry.{OpenEntry}
use Rattle.mount_model.specs.Names.{meta_in, trunc_in, open_in}
use Rattle.mount_model.specs.FlowReplies.{is_no_folder}
use Rattle.mount_model.specs.FlowListed.{known, told_by}

-- whether there is an entry of a writer, or was one before
abbrev pub has_entry : List Name → Bool → Result Bool Stuck
has_entry [] before = Ok before
has_entry (name ∷ names) before = known openhosts name (open_in name) (λ (e : OpenEntry). has_entry names true)

-- Whether somebody has the container open. Where the folder of who has is absent, nobody has.
abbrev pub is_open : Reply → Result Bool Stuck
is_open reply = if is_no_folder reply then Ok false else told_by openhosts (λ names. has_entry names false) reply

-- the metadata that the names tell, behind those so far
abbrev pub metadata_named : List Name → List Metadata → Result (List Metadata) Stuck
metadata_named [] sofar = Ok sofar
metadata_named (name ∷ names) sofar = known metadata name (meta_in name) (λ (m : Metadata). metadata_named names (sofar ++ m ∷ []))

-- the truncates that the names tell, behind those so far
abbrev pub truncs_named : List Name → List Trunc → Result (List Trunc) Stuck
truncs_named [] sofar = Ok sofar
truncs_named (name ∷ names) sofar = known truncs name (trunc_in name) (λ (t : Trunc). truncs_named names (sofar ++ t ∷ []))

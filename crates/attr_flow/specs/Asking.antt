-- The calls that tell of a file: Find, List of who has it open; where nobody has, List of the metadata, List of the
-- truncates.
use Rattle.std.specs.Prelude.{ℕ, Bool, true, false, List, [], Result, Ok, Err}
use Rattle.plfs_types.specs.declared.entries.Trunc.{Trunc}
use Rattle.mount_model.specs.declared.stuck.Stuck.{Stuck}
use Rattle.mount_model.specs.Program.{done, ask}
use Rattle.mount_model.specs.declared.call.Call.TheVariants.{Find, Look}
use Rattle.mount_model.specs.declared.call.Look.TheVariants.{List as ListFolder}
use Rattle.mount_model.specs.Paths.{Name, metadata, truncs}
use Rattle.container_layout.specs.Paths.{openhosts}
use Rattle.mount_model.specs.declared.names.Metadata.{Metadata}
use Rattle.mount_model.specs.FlowReplies.{Tries, given, on_ok, room_in, failure}
use Rattle.mount_model.specs.FlowListed.{told_by}
use Rattle.attr_flow.specs.declared.attr_flow.AttrOut.{AttrOut}
use Rattle.attr_flow.specs.declared.attr_flow.AttrOut.TheVariants.{Cached, MustMerge}
use Rattle.attr_flow.specs.Attributes.{cached}
use Rattle.attr_flow.specs.Listings.{is_open, metadata_named, truncs_named}

-- what the metadata and the truncates tell, where these were listed
abbrev pub attributes : List Metadata → Result (List Trunc) Stuck → Result AttrOut Stuck
attributes metas (Ok listed) = Ok (Cached (cached metas listed))
attributes metas (Err why) = Err why

abbrev pub lists_truncs : ℕ → List Metadata → Tries AttrOut
lists_truncs room metas = ask
    (Look room (ListFolder truncs))
    (λ reply. done (attributes metas (told_by truncs (λ names. truncs_named names []) reply)))

abbrev pub lists_metadata : ℕ → Tries AttrOut
lists_metadata room = ask
    (Look room (ListFolder metadata))
    (λ reply. on_ok (lists_truncs room) (told_by metadata (λ names. metadata_named names []) reply))

-- where somebody has it open, its index is to be read
abbrev pub if_open : ℕ → Bool → Tries AttrOut
if_open room true = done (Ok (MustMerge room))
if_open room false = lists_metadata room

abbrev pub lists_open : ℕ → Tries AttrOut
lists_open room = ask (Look room (ListFolder openhosts)) (λ reply. on_ok (if_open room) (is_open reply))

abbrev pub attr_program : Name → Tries AttrOut
attr_program name = ask (Find name) (λ reply. given (room_in reply) (failure reply) lists_open)

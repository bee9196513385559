-- Each call that tells of a file may be made: nothing is owed for it.
use Rattle.std.proofs.Common.{ℕ, Bool, true, false, List, [], Option, Some, None}
use Rattle.std.specs.Prelude.{Result, Ok, Err}
use Rattle.mount_model.specs.declared.stuck.Stuck.{Stuck}
use Rattle.mount_model.specs.Running.{asking}
use Rattle.mount_model.specs.Program.{done}
use Rattle.mount_model.specs.Safe.{IsSafe}
use Rattle.mount_model.specs.declared.call.Call.TheVariants.{Find, Look}
use Rattle.mount_model.specs.declared.call.Look.TheVariants.{List as ListFolder}
use Rattle.mount_model.specs.Paths.{metadata, truncs}
use Rattle.container_layout.specs.Paths.{openhosts}
use Rattle.mount_model.specs.State.{State}
use Rattle.mount_model.specs.Step.{IsStep}
use Rattle.mount_sound.specs.Sound.{IsFine}
use Rattle.mount_model.specs.declared.names.Metadata.{Metadata}
use Rattle.mount_model.specs.FlowListed.{told_by}
use Rattle.mount_model.specs.FlowReplies.{Tries, given, on_ok, room_in, failure}
use Rattle.attr_flow.specs.declared.attr_flow.AttrOut.{AttrOut}
use Rattle.attr_flow.specs.Asking.{attributes, lists_truncs, lists_metadata, if_open, lists_open, attr_program}
use Rattle.attr_flow.specs.Listings.{is_open, metadata_named, truncs_named}
use Rattle.mount_sound.specs.Owed.{Permits}
use Rattle.recovery_laws.proofs.Holds.Safety.{safe_free}

module _ (caller : ℕ) where
  abbrev Safe : Tries AttrOut → State → Type 0
  Safe program state = IsSafe IsStep Permits caller (asking program) state

  safe_given : {A : Type 0} (o : Option A) (why : Stuck) (next : A → Tries AttrOut) (state : State) → ((a : A) → Safe (next a) state) → Safe (given o why next) state
  safe_given None why next state safe = tt
  safe_given (Some a) why next state safe = safe a

  safe_on_ok : {A : Type 0} (r : Result A Stuck) (next : A → Tries AttrOut) (state : State) → ((a : A) → Safe (next a) state) → Safe (on_ok next r) state
  safe_on_ok (Ok a) next state safe = safe a
  safe_on_ok (Err why) next state safe = tt

  safe_truncs : (room : ℕ) (metas : List Metadata) (state : State) → IsFine state → Safe (lists_truncs room metas) state
  safe_truncs room metas = safe_free caller (Look room (ListFolder truncs)) (λ reply. done (attributes metas (told_by truncs (λ names. truncs_named names []) reply))) (tt, tt) (λ reply after fine. tt)

  safe_metadata : (room : ℕ) (state : State) → IsFine state → Safe (lists_metadata room) state
  safe_metadata room =
      safe_free caller (Look room (ListFolder metadata)) (λ reply. on_ok (lists_truncs room) (told_by metadata (λ names. metadata_named names []) reply)) (tt, tt)
      (λ reply after fine. safe_on_ok (told_by metadata (λ names. metadata_named names []) reply) (lists_truncs room) after (λ metas. safe_truncs room metas after fine))

  safe_if_open : (room : ℕ) (open_now : Bool) (state : State) → IsFine state → Safe (if_open room open_now) state
  safe_if_open room true state fine = tt
  safe_if_open room false state fine = safe_metadata room state fine

  safe_open : (room : ℕ) (state : State) → IsFine state → Safe (lists_open room) state
  safe_open room =
      safe_free caller (Look room (ListFolder openhosts)) (λ reply. on_ok (if_open room) (is_open reply)) (tt, tt)
      (λ reply after fine. safe_on_ok (is_open reply) (if_open room) after (λ open_now. safe_if_open room open_now after fine))

  pub safe_telling : (name : List ℕ) (state : State) → IsFine state → Safe (attr_program name) state
  safe_telling name =
      safe_free caller (Find name) (λ reply. given (room_in reply) (failure reply) lists_open) (tt, tt)
      (λ reply after fine. safe_given (room_in reply) (failure reply) lists_open after (λ room. safe_open room after fine))

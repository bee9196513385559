-- Where the listing of a container stands in its program.
use Rattle.std.specs.Prelude.{◌≡◌, ℕ, ◌+◌, ◌^◌, List, ◌∷◌, length, Result, Ok, Err}
use Rattle.flat_format.specs.declared.flat.Flat.{Flat}
use Rattle.mount_model.specs.declared.stuck.Stuck.{Stuck}
use Rattle.mount_model.specs.Program.{done, followed_by}
use Rattle.mount_model.specs.Standing.{Awaits, Standing, ready, rest_of}
use Rattle.mount_model.specs.FlowReplies.{Tries, on_ok}
use Rattle.mount_model.specs.declared.call.Call.{Call}
use Rattle.mount_model.specs.declared.reply.Reply.{Reply}
use Rattle.index_reader.specs.declared.flats.FlatRead.{FlatRead}
use Rattle.index_reader.specs.declared.flats.FlatStep.{FlatStep}
use Rattle.index_reader.specs.declared.flats.FlatStep.TheVariants as step
use Rattle.index_reader.specs.declared.flats.AfterFlat.{AfterFlat}
use Rattle.index_reader.specs.declared.flats.AfterFlat.TheVariants.{GoesOn, Is}
use Rattle.index_reader.specs.declared.listing.Dropping.{Dropping}
use Rattle.index_reader.specs.declared.listing.Listing.{Listing}
use Rattle.index_reader.specs.declared.opening.AfterOpen.{AfterOpen}
use Rattle.index_reader.specs.declared.opening.AfterOpen.TheVariants as after
use Rattle.index_reader.specs.declared.opening.OpenRead.{OpenRead}
use Rattle.index_reader.specs.declared.opening.Stage.{Stage}
use Rattle.index_reader.specs.declared.opening.Stage.TheVariants.{Finding, Flats, Reading, Top, Scans, Listed, Failed}
use Rattle.index_reader.specs.Listing.{AreByWriter}
use Rattle.index_reader.specs.FileStages.{file_left}
use Rattle.index_reader.specs.FlatRules.{flat_told}
use Rattle.index_reader.specs.Opening.{flat_first, flat_program, flat_or_damage, top_program, scans, open_at_program, open_read_program}

-- ---- the newest flattened index

abbrev pub flat_step : ℕ → ℕ → FlatStep → Tries Flat
flat_step room id step.Length = flat_program room id
flat_step room id (step.First told) = flat_first room id told
flat_step room id (step.Bytes f) = followed_by (file_left room f) (on_ok (λ bytes. done (flat_or_damage id (flat_told bytes))))

abbrev pub flat_left : ℕ → FlatRead → Tries Flat
flat_left room f = flat_step room f.id f.step

abbrev pub after_flat : ℕ → AfterFlat → Tries Flat
after_flat room (GoesOn f) = flat_left room f
after_flat room (Is result) = done result

-- it goes on with the same one
abbrev pub IsOfFlat : ℕ → AfterFlat → Type 0
IsOfFlat id (GoesOn f) = f.id ≡ id
IsOfFlat id (Is result) = Unit {0}

-- bounds on the calls that are left
abbrev pub flat_calls : FlatStep → ℕ
flat_calls step.Length = 2 ^ 64 + 1
flat_calls (step.First told) = told + 1
flat_calls (step.Bytes f) = f.left

abbrev pub after_flat_calls : AfterFlat → ℕ
after_flat_calls (GoesOn f) = flat_calls f.step
after_flat_calls (Is result) = 0

-- ---- the whole listing

-- a listing of these droppings, unless there was a trouble
abbrev pub as_listing : ℕ → Flat → Result (List Dropping) Stuck → Result Listing Stuck
as_listing room flat (Ok droppings) = Ok (record { room = room; droppings = droppings; flat = flat })
as_listing room flat (Err why) = Err why

abbrev pub open_left : Stage → Tries Listing
open_left (Finding name) = open_read_program name
open_left (Flats room) = open_at_program room
open_left (Reading room f) = followed_by (flat_left room f) (on_ok (λ flat. top_program room f.id flat))
open_left (Top room id flat) = top_program room id flat
open_left (Scans room id flat k rest scan) = scans room id flat (k ∷ rest) scan
open_left (Listed room droppings flat) = done (as_listing room flat (Ok droppings))
open_left (Failed why) = done (Err why)

abbrev pub open_calls : Stage → ℕ
open_calls (Finding name) = 2 ^ 64 + 60
open_calls (Flats room) = 2 ^ 64 + 50
open_calls (Reading room f) = flat_calls f.step + 40
open_calls (Top room id flat) = 40
open_calls (Scans room id flat k rest scan) = length rest + 1
open_calls (Listed room droppings flat) = 0
open_calls (Failed why) = 0

abbrev pub open_standing : OpenRead → Standing Call Reply (Result Listing Stuck)
open_standing flow = ready (open_left flow.stage)

abbrev pub open_calls_left : OpenRead → ℕ
open_calls_left flow = open_calls flow.stage

-- the calls that are left of it
abbrev pub open_rest : OpenRead → Tries Listing
open_rest flow = open_left flow.stage

-- where it stands after a reply
abbrev pub after_open : AfterOpen → Tries Listing
after_open (after.GoesOn flow) = open_rest flow
after_open (after.Is result) = done result

abbrev pub after_open_calls : AfterOpen → ℕ
after_open_calls (after.GoesOn flow) = open_calls_left flow
after_open_calls (after.Is result) = 0

-- there is a call to be made, or what was listed is in order
abbrev pub IsAfterOpen : AfterOpen → Type 0
IsAfterOpen (after.GoesOn flow) = Awaits (rest_of (open_standing flow))
IsAfterOpen (after.Is (Ok listing)) = AreByWriter listing.droppings
IsAfterOpen (after.Is (Err why)) = Unit {0}

-- What a caller that scanned a container again has listed stands there, and all that stood was listed.
use Rattle.std.proofs.Common.{◌≡◌, ℕ, List, refl, ap, subst}
use Rattle.std.specs.Prelude.{Ok}
use Rattle.std.specs.List.{Any}
use Rattle.plain_file.proofs.Facts.{Among}
use Rattle.container_layout.specs.declared.items.Item.TheVariants.{Index}
use Rattle.mount_model.specs.History.{Event}
use Rattle.mount_sound.specs.Items.{HasItem}
use Rattle.mount_sound.specs.Owed.{IsLawful, StandsInRoom}
use Rattle.mount_model.specs.Running.{Runs}
use Rattle.index_reader.specs.declared.listing.Dropping.{Dropping as Listed}
use Rattle.index_reader.specs.declared.listing.Listing.{Listing}
use Rattle.index_reader.specs.Opening.{no_flat, scan_program}
use Rattle.reader_laws.specs.Moments.{Moment, IsSoundAt, Dropping, Stood, moment_after}
use Rattle.reader_laws.specs.Seen.{calls_of}
use Rattle.reader_laws.specs.GatheringListing.{AreFound}
use Rattle.plfs_types.specs.Places.{IsAmong}
use Rattle.reader_laws.proofs.Gathered.Facts.{all_at, among, any_found, scan_finds, seen, sound_after}
use Rattle.reader_laws.specs.Sharing.{in_room}
use Rattle.reader_laws.proofs.Facts.{HasTop, top_run}
use Rattle.flatten_laws.proofs.Taken.{stood_stands}

pub scanned_stand : (caller room : ℕ) (start : Moment) (events : List Event) (listing : Listing) → IsLawful start.state events → IsSoundAt start → Runs caller (scan_program room) events (Ok listing) → (d : Listed) → Among d listing.droppings
    → StandsInRoom (moment_after start events).state room (λ now. (content : List ℕ) × HasItem now (Index d.host d.writer) content)
scanned_stand caller room start events listing lawful sound runs d a =
    let end : Moment = moment_after start events in
    let s : IsSoundAt end = sound_after start events lawful sound in
    let t : HasTop caller room no_flat events listing = top_run caller room 0 no_flat start events listing lawful sound runs in
    let f : AreFound start end room t.found = scan_finds caller room start end (calls_of caller events) t.found (seen caller start events lawful sound) s t.scans in
    let its : Dropping = in_room room d in
    let found : Among its t.found = among t.found its (all_at (λ (x : Listed). IsAmong (in_room room x) t.found) listing.droppings d t.droppings.each a) in
    stood_stands end s its (all_at (λ (x : Dropping). (x.room ≡ room) × Stood end x) t.found its f.stood found).1

-- the dropping of a writer that stood before was listed
pub scanned_finds : (caller room : ℕ) (start : Moment) (events : List Event) (listing : Listing) → IsLawful start.state events → IsSoundAt start → Runs caller (scan_program room) events (Ok listing) → (host writer : ℕ)
    → Stood start (record { room = room; host = host; writer = writer }) → (d : Listed) × Among d listing.droppings × (d.writer ≡ writer)
scanned_finds caller room start events listing lawful sound runs host writer stood =
    let end : Moment = moment_after start events in
    let s : IsSoundAt end = sound_after start events lawful sound in
    let t : HasTop caller room no_flat events listing = top_run caller room 0 no_flat start events listing lawful sound runs in
    let f : AreFound start end room t.found = scan_finds caller room start end (calls_of caller events) t.found (seen caller start events lawful sound) s t.scans in
    let its : Dropping = record { room = room; host = host; writer = writer } in
    let found : Among its t.found = among t.found its (f.complete its refl stood) in
    let of = any_found (λ (d : Listed). in_room room d ≡ its) listing.droppings (all_at (λ (x : Dropping). Any (λ (d : Listed). in_room room d ≡ x) listing.droppings) t.found its t.droppings.all found) in
    (of.0, of.1, ap (λ (x : Dropping). x.writer) of.2)

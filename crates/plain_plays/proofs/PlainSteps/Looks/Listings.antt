-- A container is listed: where each look is answered, the listing ends well or in damage, and sound containers have none.
use Rattle.std.proofs.Common.{◌≡◌, ◌-◌, ℕ, Bool, true, false, nat_eq, nat_le, List, [], ◌∷◌, length, Option, Some, None, Result, Ok, Err, refl, inl, inr, if◌then◌else◌}
use Rattle.container_layout.specs.declared.items.Item.{Item}
use Rattle.container_layout.specs.declared.items.Item.TheVariants as item
use Rattle.container_layout.specs.Paths.{hostdir_of, hostdirs}
use Rattle.plfs_types.specs.declared.names.Path.{Path}
use Rattle.flat_format.specs.declared.flat.Flat.{Flat}
use Rattle.mount_model.specs.declared.reply.Refusal.TheVariants as refusal
use Rattle.mount_model.specs.declared.reply.Reply.TheVariants.{Looked}
use Rattle.mount_model.specs.History.{AreBy, Event}
use Rattle.mount_model.specs.Paths.{Name, flat_path, flats, metadata, truncs}
use Rattle.mount_sound.specs.Owed.{IsLawful}
use Rattle.mount_model.specs.Program.{done}
use Rattle.mount_model.specs.declared.stuck.Stuck.{Stuck}
use Rattle.mount_model.specs.FlowListed.{file_in}
use Rattle.mount_model.specs.FlowReplies.{Tries, bytes_in, damage, names_in}
use Rattle.mount_model.specs.Running.{Runs}
use Rattle.reader_laws.specs.Moments.{IsSoundAt, Moment}
use Rattle.index_reader.specs.declared.listing.Listing.{Listing}
use Rattle.index_reader.specs.declared.scanning.Scan.{Scan}
use Rattle.index_reader.specs.FileReads.{first_rest, next_part, parts_of}
use Rattle.index_reader.specs.FlatRules.{flat_fault, flat_told}
use Rattle.index_reader.specs.Items.{flat_item, hostdir_item}
use Rattle.index_reader.specs.Newest.{flats_path, greater_id, if_flat, newest_in}
use Rattle.index_reader.specs.Opening.{flat_bytes, flat_first, flat_or_damage, flat_program, flat_rest, if_newest, listed, listing_of, lone_pack, no_flat, open_at_program, scan_program, scans, top_program, uncovered, unless_lone, unless_uncovered, unless_unfit}
use Rattle.index_reader.specs.Replies.{number_in}
use Rattle.index_reader.specs.Scanning.{foreign_in, has_writer, nothing_found, owner, placed, scanned, taken, taken_all, unless_foreign}
use Rattle.index_reader.specs.Searching.{has_name}
use Rattle.index_reader.specs.Tops.{access, foreign_at_top, required, shown, top_shows}
use Rattle.reader_laws.proofs.Facts.{listing_fails}
use Rattle.plain_plays.specs.Served.{GoesWell}
use Rattle.plain_plays.proofs.PlainSteps.Entering.{IsContainerAt}
use Rattle.plain_plays.proofs.PlainSteps.Looks.Answered.{Anything, EndsSo, LooksOn, looked, no_fault, no_refusal, on_either, on_given, on_result, on_then, parts_on}

module _ (n : ℕ) where
  -- ---- a flattened index

  flat_ends : (id : ℕ) (result : Result Flat ℕ) → EndsSo Anything (flat_or_damage id result)
  flat_ends id (Ok flat) = tt
  flat_ends id (Err place) = tt

  rest_on : (id told : ℕ) (first : List ℕ) → LooksOn n Anything (flat_rest n id told first)
  rest_on id told first = on_then n Anything Anything (first_rest n (flat_path id) told first) (λ bytes. done (flat_or_damage id (flat_told bytes)))
      (on_either n Anything (nat_le (next_part told) (length first)) _ _ (parts_on n (parts_of (told - next_part told)) (flat_path id) told (told - next_part told) first) tt)
      (λ bytes any. flat_ends id (flat_told bytes))

  fit_on : (id : ℕ) (fault : Option ℕ) (next : Tries Flat) → LooksOn n Anything next → LooksOn n Anything (unless_unfit id fault next)
  fit_on id None next looks = looks
  fit_on id (Some place) next looks = tt

  first_on : (id told : ℕ) → LooksOn n Anything (flat_first n id told)
  first_on id told = (
    (_, refl),
    λ found. on_given n Anything (bytes_in (Looked found)) (flat_path id) found _ (λ first. fit_on id (flat_fault told first) (flat_rest n id told first) (rest_on id told first)),
  )

  flat_on : (id : ℕ) → LooksOn n Anything (flat_program n id)
  flat_on id = (
    (_, refl),
    λ found. on_given n Anything (number_in (Looked found)) (flat_path id) found (flat_bytes n id) (λ told. on_either n Anything (nat_eq told 0) _ _ tt (first_on id told)),
  )

  -- ---- what listings show

  flat_goes : (name : Name) (o : Option Item) (newest : Option ℕ) (next : Option ℕ → Result (Option ℕ) Stuck) → ((further : Option ℕ) → EndsSo Anything (next further)) → EndsSo Anything (if_flat name o newest next)
  flat_goes name None newest next goes = tt
  flat_goes name (Some (item.Flat id)) newest next goes = goes (greater_id id newest)
  flat_goes name (Some other) newest next goes = goes newest

  newest_ends : (names : List Name) (newest : Option ℕ) → EndsSo Anything (newest_in names newest)
  newest_ends [] newest = tt
  newest_ends (name ∷ names) newest = flat_goes name (flat_item (flats_path name)) newest (λ further. newest_in names further) (λ further. newest_ends names further)

  unless_foreign_ends : {X : Type 0} (folder : Name) (o : Option Name) (next : Result X Stuck) → EndsSo Anything next → EndsSo Anything (unless_foreign folder o next)
  unless_foreign_ends folder None next ends = ends
  unless_foreign_ends folder (Some name) next ends = tt

  either_ends : {X : Type 0} (b : Bool) (one other : Result X Stuck) → EndsSo Anything one → EndsSo Anything other → EndsSo Anything (if b then one else other)
  either_ends true one other a b = a
  either_ends false one other a b = b

  required_ends : (name : Name) (path : Path) (names : List Name) (next : Result (List ℕ) Stuck) → EndsSo Anything next → EndsSo Anything (required name path names next)
  required_ends name path names next ends = either_ends {X = List ℕ} (has_name name names) next (Err (damage path 0)) ends tt

  pub top_ends : (names : List Name) → EndsSo Anything (top_shows names)
  top_ends names =
      let all : Result (List ℕ) Stuck = Ok (shown names hostdirs) in
      let with_truncs = required truncs (file_in truncs []) names all in
      let with_metadata = required metadata (file_in metadata []) names with_truncs in
      let with_flats = required flats (file_in flats []) names with_metadata in
      unless_foreign_ends {X = List ℕ} [] (foreign_at_top names) (required access (file_in [] access) names with_flats)
      (required_ends access (file_in [] access) names with_flats (required_ends flats (file_in flats []) names with_metadata (required_ends metadata (file_in metadata []) names with_truncs (required_ends truncs (file_in truncs []) names all tt))))

  taken_goes : (path : Path) (o : Option Item) (scan : Scan) (next : Scan → Result Scan Stuck) → ((more : Scan) → EndsSo Anything (next more)) → EndsSo Anything (taken path o scan next)
  taken_goes path (Some (item.Index host writer)) scan next goes =
      either_ends {X = Scan} (has_writer writer scan.indices) (Err (damage path 0)) (next (record { indices = placed (owner host writer) scan.indices; packs = scan.packs })) tt (goes (record { indices = placed (owner host writer) scan.indices; packs = scan.packs }))
  taken_goes path (Some (item.Packed host writer)) scan next goes =
      either_ends {X = Scan} (has_writer writer scan.packs) (Err (damage path 0)) (next (record { indices = scan.indices; packs = placed (owner host writer) scan.packs })) tt (goes (record { indices = scan.indices; packs = placed (owner host writer) scan.packs }))
  taken_goes path None scan next goes = goes scan
  taken_goes path (Some other) scan next goes = goes scan

  taken_ends : (folder : Name) (names : List Name) (scan : Scan) → EndsSo Anything (taken_all folder names scan)
  taken_ends folder [] scan = tt
  taken_ends folder (name ∷ names) scan = taken_goes (file_in folder name) (hostdir_item (file_in folder name)) scan (λ more. taken_all folder names more) (λ more. taken_ends folder names more)

  scanned_ends : (folder : Name) (names : List Name) (scan : Scan) → EndsSo Anything (scanned folder names scan)
  scanned_ends folder names scan = unless_foreign_ends {X = Scan} folder (foreign_in folder names) (taken_all folder names scan) (taken_ends folder names scan)

  -- ---- a listing

  none_or : {A : Type 0} (P : Option A → Type 0) (o : Option A) → P None → ((a : A) → P (Some a)) → P o
  none_or P None none some = none
  none_or P (Some a) none some = some a

  -- it is of that room
  abbrev pub IsOf : Listing → Type 0
  IsOf listing = listing.room ≡ n

  listed_ends : (id : ℕ) (flat : Flat) (scan : Scan) → EndsSo IsOf (listed n id flat scan)
  listed_ends id flat scan = none_or (λ o. EndsSo IsOf (unless_uncovered id o (unless_lone (lone_pack scan.indices scan.packs) (Ok (listing_of n flat scan))))) (uncovered scan.indices 0 flat.covers)
      (none_or (λ o. EndsSo IsOf (unless_lone o (Ok (listing_of n flat scan)))) (lone_pack scan.indices scan.packs) refl (λ other. tt)) (λ index. tt)

  pub scans_on : (id : ℕ) (flat : Flat) (ks : List ℕ) (scan : Scan) → LooksOn n IsOf (scans n id flat ks scan)
  scans_on id flat [] scan = listed_ends id flat scan
  scans_on id flat (k ∷ ks) scan = (
    (_, refl),
    λ found. on_given n IsOf (names_in (Looked found)) (file_in (hostdir_of k) []) found _
        (λ names. on_result n Anything IsOf (λ more. scans n id flat ks more) (scanned (hostdir_of k) names scan) (scanned_ends (hostdir_of k) names scan) (λ more any. scans_on id flat ks more)),
  )

  top_on : (id : ℕ) (flat : Flat) → LooksOn n IsOf (top_program n id flat)
  top_on id flat = (
    (_, refl),
    λ found. on_given n IsOf (names_in (Looked found)) (file_in [] []) found _
        (λ names. on_result n Anything IsOf (λ ks. scans n id flat ks nothing_found) (top_shows names) (top_ends names) (λ ks any. scans_on id flat ks nothing_found)),
  )

  newest_on : (newest : Option ℕ) → LooksOn n IsOf (if_newest n newest)
  newest_on None = top_on 0 no_flat
  newest_on (Some id) = on_then n Anything IsOf (flat_program n id) (λ flat. top_program n id flat) (flat_on id) (λ flat any. top_on id flat)

  pub scan_on : LooksOn n IsOf (scan_program n)
  scan_on = top_on 0 no_flat

  open_at_on : LooksOn n IsOf (open_at_program n)
  open_at_on = (
    (_, refl),
    λ found. on_given n IsOf (names_in (Looked found)) (flats_path []) found _
        (λ names. on_result n Anything IsOf (if_newest n) (newest_in names None) (newest_ends names None) (λ newest any. newest_on newest)),
  )

-- A container is listed, where nobody else calls and nothing fails.
pub listing_ends : (n me : ℕ) (m : Moment) (events : List Event) (out : Result Listing Stuck) → IsSoundAt m → IsContainerAt n m → IsLawful m.state events → GoesWell me events → AreBy me events → Runs me (open_at_program n) events out → (listing : Listing) × (out ≡ Ok listing) × (listing.room ≡ n)
listing_ends n me m events (Ok listing) s had lawful well by runs = (listing, refl, (looked n me (EndsSo (IsOf n)) events (open_at_program n) m (Ok listing) s had lawful well by (open_at_on n) runs).0)
listing_ends n me m events (Err why) s had lawful well by runs =
    let ends : EndsSo (IsOf n) (Err why) = (looked n me (EndsSo (IsOf n)) events (open_at_program n) m (Err why) s had lawful well by (open_at_on n) runs).0 in
    absurd (elim (listing_fails me (open_at_program n) m events why lawful s (inr (n, refl)) runs) as (λ _. ⊥) [
      | inl fails ↦ no_fault (IsOf n) why ends fails.0
      | inr lacks ↦ no_refusal (IsOf n) why refusal.NoRoom ends lacks
    ])

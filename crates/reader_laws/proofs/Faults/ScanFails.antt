-- The scan of a container fails only by the store.
use Rattle.std.proofs.Common.{◌≡◌, ℕ, zero, suc, ◌+◌, ◌<◌, ◌%◌, true, List, [], ◌∷◌, Some, refl, ap, sym, ◌∙◌, inl, inr, subst, arith}
use Rattle.std.specs.Prelude.{Result, Ok, Err, slice_get}
use Rattle.std.specs.List.{AllByRecursion, range_with_len}
use Rattle.std.proofs.lemmas.Bool.{cases_Bool, cond-true, cond-false}
use Rattle.plfs_types.specs.declared.entries.Cover.{Cover}
use Rattle.plfs_types.specs.declared.names.Path.{Path}
use Rattle.plain_file.proofs.Facts.{Among}
use Rattle.container_layout.specs.declared.items.Item.TheVariants as item
use Rattle.container_layout.specs.Paths.{hostdir_of}
use Rattle.container_layout.proofs.Facts.{elsewhere}
use Rattle.store_api.specs.Room.{has_folder}
use Rattle.store_laws.specs.Files.{file_at}
use Rattle.store_laws.specs.There.{ListsFolder}
use Rattle.flat_format.specs.declared.flat.Flat.{Flat}
use Rattle.mount_model.specs.Paths.{Name, index_path}
use Rattle.container_layout.specs.Paths.{openhosts}
use Rattle.mount_model.specs.History.{Event}
use Rattle.mount_model.specs.State.{last_id}
use Rattle.mount_sound.specs.Container.{IsContainer}
use Rattle.mount_sound.specs.Shape.{IsDrawnBy}
use Rattle.mount_sound.specs.Owed.{IsLawful}
use Rattle.mount_model.specs.declared.stuck.Stuck.{Stuck}
use Rattle.mount_model.specs.Running.{Runs}
use Rattle.mount_model.specs.FlowReplies.{Tries, given, names_in, on_ok, trouble}
use Rattle.mount_model.specs.FlowListed.{file_in}
use Rattle.index_reader.specs.declared.listing.Listing.{Listing}
use Rattle.index_reader.specs.declared.scanning.Scan.{Scan}
use Rattle.index_reader.specs.Opening.{listed, listing_of, scans, top_program}
use Rattle.index_reader.specs.Scanning.{nothing_found, scanned}
use Rattle.index_reader.specs.Searching.{has_name}
use Rattle.index_reader.specs.Tops.{shown, top_shows}
use Rattle.container_layout.specs.Paths.{hostdirs}
use Rattle.reader_laws.specs.Moments.{Moment, IsSoundAt, Grows, HadItem, moment_after, next_moment}
use Rattle.reader_laws.proofs.Gathered.Facts.{folder_named, grows_after, in_range, legal_first, not_top}
use Rattle.reader_laws.specs.Failing.{FailsByStore, IsContainerAt}
use Rattle.reader_laws.proofs.Faults.Failing.{here_fails, later_fails}
use Rattle.reader_laws.proofs.Soundness.Folders.{HadFolder, folder_after, folder_next, had_it, has_it}
use Rattle.reader_laws.proofs.Soundness.HadItems.{HasIt, has_item, same_room}
use Rattle.reader_laws.proofs.Calls.Histories.{first_of}
use Rattle.reader_laws.proofs.Soundness.KnownNames.{among_has, hostdir_there, top_told}
use Rattle.reader_laws.proofs.Containers.Listings.{FromFirst, from_first, has_true, range_below}
use Rattle.reader_laws.proofs.Soundness.LookEnds.{HasContainer, container_of, container_later, list_ends, top_ends}
use Rattle.reader_laws.proofs.Soundness.ScanStands.{IsMet, IsScanned, folder_scans, listed_well, scanned_later, scanned_on, scanned_past}
use Rattle.reader_laws.proofs.Containers.Scanning.{HasTaken, folder_taken}
use Rattle.reader_laws.proofs.Calls.Troubles.{answered}

never : {X : Type 0} (x : X) (why : Stuck) (r : Result X Stuck) → r ≡ Ok x → r ≡ Err why → ⊥
never x why r a b = let clash : Ok x ≡ Err why = sym a ∙ b in cc

-- ---- the folders of droppings

-- each number is below those after it
abbrev pub Rises : List ℕ → Type 0
Rises [] = Unit {0}
Rises (k ∷ ks) = AllByRecursion (λ l. k < l) ks × Rises ks

once : (k : ℕ) (ks : List ℕ) → AllByRecursion (λ l. k < l) ks → Among k ks → ⊥
once k [] above a = a
once k (l ∷ ks) above (inl e) = omega (arith, e, above.0)
once k (l ∷ ks) above (inr a) = once k ks above.1 a

pub no_openhosts : (k : ℕ) → hostdir_of k ≡ openhosts → ⊥
no_openhosts k e = elsewhere (ap first e) refl
  where
    first : List ℕ → ℕ
    first [] = 0
    first (b ∷ bytes) = b

-- the folders that the top named, of these numbers, are there
abbrev pub AreThere : Moment → ℕ → List Name → List ℕ → Type 0
AreThere m room top ks = (k : ℕ) → Among k ks → has_name (hostdir_of k) top ≡ true → HadFolder m room (hostdir_of k)

pub scans_fail : (caller room id : ℕ) (flat : Flat) (m : Moment) (top : List Name) (ks : List ℕ) (events : List Event) (scan : Scan) (why : Stuck) → IsSoundAt m → IsContainerAt m room → AllByRecursion (λ k. k < 32) ks → Rises ks → AreThere m room top ks → IsScanned m room top ks flat.covers scan → IsLawful m.state events
    → Runs caller (scans room id flat (shown top ks) scan) events (Err why) → FailsByStore caller m.state events why
scans_fail caller room id flat m top [] events scan why s container small rises there h lawful runs = absurd (never (listing_of room flat scan) why (listed room id flat scan) (listed_well m s room top id flat scan h) runs.1)
scans_fail caller room id flat m top (k ∷ ks) events scan why s container small rises there h lawful runs = elim (cases_Bool (has_name (hostdir_of k) top)) as (λ _. FailsByStore caller m.state events why) [
  | inr lacks ↦
      scans_fail caller room id flat m top ks events scan why s container small.1 rises.1 (λ j a named. there j (inr a) named) (scanned_past m room k top ks flat.covers scan small.0 lacks h) lawful
      (subst (λ l. Runs caller (scans room id flat l scan) events (Err why)) (cond-false (has_name (hostdir_of k) top) (k ∷ shown top ks) (shown top ks) lacks) runs)
  | inl has ↦
      let path : Path = file_in (hostdir_of k) [] in
      let more : Scan → Tries Listing = λ new. scans room id flat (shown top ks) new in
      let then_ : List Name → Tries Listing = λ names. on_ok more (scanned (hostdir_of k) names scan) in
      let f = first_of caller _ _ events (Err why) (subst (λ l. Runs caller (scans room id flat l scan) events (Err why)) (cond-true (has_name (hostdir_of k) top) (k ∷ shown top ks) (shown top ks) has) runs) in
      let e : Event = f.event in
      let p : FromFirst m f.before e f.later = from_first m events f.before e f.later f.split lawful s in
      let here : Moment = moment_after m f.before in
      let l1 = legal_first m f.before (e ∷ f.later) (subst (IsLawful m.state) f.split lawful) in
      let goes : Grows m here = grows_after m f.before l1 s in
      let held : IsContainerAt here room = container_later m here room goes container in
      let c : HasContainer here p.here room = container_of here p.here room held in
      let now : HadFolder here room (hostdir_of k) = folder_after m f.before room (hostdir_of k) l1 (no_openhosts k) (there k (inl refl) has) in
      let found : IsScanned here room top (k ∷ ks) flat.covers scan = scanned_later m here room top (k ∷ ks) flat.covers scan goes h in
      let onward : Moment = next_moment here e in
      let step : Grows here onward = grows_after here (e ∷ []) (legal_first here (e ∷ []) f.later p.rest) p.here in
      elim (list_ends here p.here e.caller room (hostdir_of k) e.reply e.after c (has_it here p.here room (hostdir_of k) c now) (answered here.state e.caller _ e.ask e.reply e.after f.asked p.rest.1)) as (λ _. FailsByStore caller m.state events why) [
        | inl (names, l, is) ↦
            let t = folder_scans here p.here room k small.0 names c l top ks flat.covers scan found in
            let new : Scan = t.0 in
            let taken : HasTaken room k names scan new = folder_taken room k small.0 names scan new t.1 in
            let on : IsScanned here room top ks flat.covers new = scanned_on here p.here room k small.0 names c l scan new taken top ks flat.covers (once k ks rises.0) found in
            later_fails caller m events f.before e f.later why f.split lawful
            (scans_fail caller room id flat onward top ks f.later new why p.next (container_later here onward room step held) small.1 rises.1
            (λ j a named. folder_next here e room (hostdir_of j) p.rest.1 (no_openhosts j) (folder_after m f.before room (hostdir_of j) l1 (no_openhosts j) (there j (inr a) named)))
            (scanned_later here onward room top ks flat.covers new step on) p.rest.2
            (subst (λ r. Runs caller (on_ok more r) f.later (Err why)) t.1 (subst (λ reply. Runs caller (given (names_in reply) (trouble path reply) then_) f.later (Err why)) is f.rest)))
        | inr fails ↦ here_fails caller m events f.before e f.later why f.split lawful names_in path then_ f.by_caller refl refl fails f.rest
      ]
]

-- ---- the top

-- each cover's index dropping stands
abbrev pub CoversStand : Moment → ℕ → List Cover → Type 0
CoversStand m room covers = AllByRecursion (λ (c : Cover). (host : ℕ) × HadItem m room (item.Index host c.writer)) covers

pub covers_later : (a b : Moment) (room : ℕ) (covers : List Cover) → Grows a b → CoversStand a room covers → CoversStand b room covers
covers_later a b room [] goes stand = tt
covers_later a b room (c ∷ covers) goes stand = ((stand.0.0, goes.stands room (item.Index stand.0.0 c.writer) tt stand.0.1), covers_later a b room covers goes stand.1)

above : (from n k : ℕ) → k < from → AllByRecursion (λ l. k < l) (range_with_len from n)
above from zero k low = tt
above from (suc n) k low = (low, above (from + 1) n k (omega (arith, low)))

pub range_rises : (from n : ℕ) → Rises (range_with_len from n)
range_rises from zero = tt
range_rises from (suc n) = (above (from + 1) n from (omega arith), range_rises (from + 1) n)

below_32 : (host : ℕ) → host % 32 < 0 + 32
below_32 host = omega arith

module _ (m : Moment) (s : IsSoundAt m) (room : ℕ) (names : List Name) (c : HasContainer m s room) (l : ListsFolder s.shape.tree room [] names) where
  listed_room : c.room ≡ l.room
  listed_room = same_room c.room l.room (slice_get s.shape.tree.rooms room) c.there l.has_room

  -- the folder of a dropping that stands is named
  names_its : (host writer : ℕ) → HadItem m room (item.Index host writer) → has_name (hostdir_of host) names ≡ true
  names_its host writer had =
      let x : HasIt m s room (item.Index host writer) = has_item m s room (item.Index host writer) had in
      let path : Path = index_path host writer in
      let same : x.room ≡ c.room = same_room x.room c.room (slice_get s.shape.tree.rooms room) x.there c.there in
      let housed : has_folder c.room (hostdir_of host) ≡ true = (c.is.files path x.bytes (subst (λ r. file_at r path ≡ Some x.bytes) same x.has.there)).housed in
      among_has (hostdir_of host) names (folder_named l.room (hostdir_of host) names (not_top host) (subst (λ r. has_folder r (hostdir_of host) ≡ true) listed_room housed) l.entries)

  all_met : (covers : List Cover) → CoversStand m room covers → AllByRecursion (IsMet m room names hostdirs []) covers
  all_met [] stand = tt
  all_met (d ∷ covers) stand =
      (record { host = stand.0.0; stands = stand.0.1; met = inr (in_range 0 32 (stand.0.0 % 32) (omega arith) (below_32 stand.0.0), names_its stand.0.0 d.writer stand.0.1) }, all_met covers stand.1)

  its_container : IsContainer (IsDrawnBy (last_id m.state) s.shape.tree) l.room
  its_container = subst (λ r. IsContainer (IsDrawnBy (last_id m.state) s.shape.tree) r) listed_room c.is

  pub top_shown : top_shows names ≡ Ok (shown names hostdirs)
  top_shown = top_told (IsDrawnBy (last_id m.state) s.shape.tree) l.room names its_container l.entries

  pub top_there : AreThere m room names hostdirs
  top_there k a named = had_it m s room (hostdir_of k) c
      (subst (λ r. has_folder r (hostdir_of k) ≡ true) (sym listed_room) (hostdir_there (IsDrawnBy (last_id m.state) s.shape.tree) l.room names its_container l.entries k (has_true (hostdir_of k) names named)))

-- The program that scans a container in which the covers' droppings stand.
pub top_fails : (caller room id : ℕ) (flat : Flat) (m : Moment) (events : List Event) (why : Stuck) → IsSoundAt m → IsContainerAt m room → CoversStand m room flat.covers → IsLawful m.state events → Runs caller (top_program room id flat) events (Err why) → FailsByStore caller m.state events why
top_fails caller room id flat m events why s container stand lawful runs =
    let path : Path = file_in [] [] in
    let more : List ℕ → Tries Listing = λ ks. scans room id flat ks nothing_found in
    let then_ : List Name → Tries Listing = λ names. on_ok more (top_shows names) in
    let f = first_of caller _ _ events (Err why) runs in
    let e : Event = f.event in
    let p : FromFirst m f.before e f.later = from_first m events f.before e f.later f.split lawful s in
    let here : Moment = moment_after m f.before in
    let goes : Grows m here = grows_after m f.before (legal_first m f.before (e ∷ f.later) (subst (IsLawful m.state) f.split lawful)) s in
    let held : IsContainerAt here room = container_later m here room goes container in
    let c : HasContainer here p.here room = container_of here p.here room held in
    let onward : Moment = next_moment here e in
    let step : Grows here onward = grows_after here (e ∷ []) (legal_first here (e ∷ []) f.later p.rest) p.here in
    elim (top_ends here p.here e.caller room e.reply e.after c (answered here.state e.caller _ e.ask e.reply e.after f.asked p.rest.1)) as (λ _. FailsByStore caller m.state events why) [
      | inl (names, l, is) ↦
          let found : IsScanned here room names hostdirs flat.covers nothing_found = record { indices = tt; packs = tt; covers_met = all_met here p.here room names c l flat.covers (covers_later m here room flat.covers goes stand) } in
          later_fails caller m events f.before e f.later why f.split lawful
          (scans_fail caller room id flat onward names hostdirs f.later nothing_found why p.next (container_later here onward room step held) (range_below 0 32) (range_rises 0 32)
          (λ k a named. folder_next here e room (hostdir_of k) p.rest.1 (no_openhosts k) (top_there here p.here room names c l k a named))
          (scanned_later here onward room names hostdirs flat.covers nothing_found step found) p.rest.2
          (subst (λ r. Runs caller (on_ok more r) f.later (Err why)) (top_shown here p.here room names c l) (subst (λ reply. Runs caller (given (names_in reply) (trouble path reply) then_) f.later (Err why)) is f.rest)))
      | inr fails ↦ here_fails caller m events f.before e f.later why f.split lawful names_in path then_ f.by_caller refl refl fails f.rest
    ]

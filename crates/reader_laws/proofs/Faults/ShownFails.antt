-- The folders of droppings that a container's top showed are scanned later too, but where the store fails.
use Rattle.std.proofs.Common.{◌≡◌, ℕ, List, [], ◌∷◌, refl, ap, ◌∙◌, subst}
use Rattle.std.specs.Prelude.{Ok, Err}
use Rattle.container_layout.specs.Paths.{hostdir_of}
use Rattle.store_laws.specs.There.{ListsFolder}
use Rattle.mount_model.specs.declared.call.Ask.{Ask}
use Rattle.mount_model.specs.declared.reply.Reply.{Reply}
use Rattle.mount_model.specs.Paths.{Name, access_path}
use Rattle.mount_model.specs.History.{Event}
use Rattle.mount_model.specs.State.{State, last_id}
use Rattle.mount_model.specs.Step.{IsStep}
use Rattle.mount_sound.specs.Container.{IsContainer}
use Rattle.mount_sound.specs.Shape.{IsDrawnBy}
use Rattle.mount_sound.specs.Ledger.{Ledger}
use Rattle.mount_sound.specs.Owed.{IsLawful, May}
use Rattle.mount_sound.specs.Sound.{IsSoundFor}
use Rattle.mount_model.specs.declared.stuck.Stuck.{Stuck}
use Rattle.mount_model.specs.Running.{Runs}
use Rattle.index_reader.specs.Opening.{no_flat, scans}
use Rattle.index_reader.specs.Scanning.{nothing_found}
use Rattle.index_reader.specs.Tops.{shown, top_shows}
use Rattle.container_layout.specs.Paths.{hostdirs}
use Rattle.reader_laws.specs.Moments.{Moment, Grows, file_in_room, file_told, next_moment}
use Rattle.reader_laws.proofs.Gathered.Facts.{grows_after}
use Rattle.reader_laws.specs.Failing.{FailsByStore, IsContainerAt}
use Rattle.reader_laws.proofs.Soundness.Folders.{HadFolder, folder_next}
use Rattle.reader_laws.proofs.Containers.Listings.{range_below}
use Rattle.reader_laws.proofs.Soundness.LookEnds.{HasContainer, container_later}
use Rattle.reader_laws.proofs.Faults.ScanFails.{AreThere, no_openhosts, range_rises, scans_fail, top_shown, top_there}
use Rattle.reader_laws.proofs.Soundness.ScanStands.{IsScanned}

abbrev pub at_state : State → Ledger → Moment
at_state state issued = record { state = state; issued = issued }

-- The room is a container, its top showed these folders of droppings once, and they are there.
pub record HasShown (state : State) (room : ℕ) (ks : List ℕ) : Type 0 where
  pub container : (issued : Ledger) → IsContainerAt (at_state state issued) room
  pub top : List Name
  pub are : ks ≡ shown top hostdirs
  pub there : (issued : Ledger) → AreThere (at_state state issued) room top hostdirs

-- what stands in a state stands there whatever was issued
same_container : (state : State) (a b : Ledger) (room : ℕ) → IsContainerAt (at_state state a) room → IsContainerAt (at_state state b) room
same_container state a b room had = record { is_item = had.is_item; bytes = had.bytes; there = had.there }

same_folders : (state : State) (a b : Ledger) (room : ℕ) (top : List Name) (ks : List ℕ) → AreThere (at_state state a) room top ks → AreThere (at_state state b) room top ks
same_folders state a b room top ks there k among named =
    let had : HadFolder (at_state state a) room (hostdir_of k) = there k among named in
    record { tree = had.tree; room = had.room; told = had.told; there = had.there; has = had.has }

-- It is so when the top is listed.
pub shown_at : (issued : Ledger) (state : State) (s : IsSoundFor issued state) (room : ℕ) (names : List Name) (l : ListsFolder s.shape.tree room [] names) → (room ≡ state.marks → ⊥) → IsContainer (IsDrawnBy (last_id state) s.shape.tree) l.room
    → (top_shows names ≡ Ok (shown names hostdirs)) × HasShown state room (shown names hostdirs)
shown_at issued state s room names l other is =
    let m : Moment = at_state state issued in
    let c : HasContainer m s room = record { room = l.room; there = l.has_room; is = is; other = other } in
    let container : IsContainerAt m room = record {
      is_item = record { in_range = tt; widths = tt };
      bytes = [];
      there = ap (λ o. file_told o room access_path) s.shape.told ∙ ap (λ o. file_in_room o access_path) l.has_room ∙ is.has_access;
    } in (
      top_shown m s room names c l,
      record {
        container = λ other_issued. same_container state issued other_issued room container;
        top = names;
        are = refl;
        there = λ other_issued. same_folders state issued other_issued room names hostdirs (top_there m s room names c l);
      },
    )

-- It stays so, whoever makes a call.
pub shown_stays : (room : ℕ) (ks : List ℕ) (issued : Ledger) (old new : State) (other : ℕ) (asked : Ask) (reply : Reply) → May old other asked → IsStep old other asked reply new → IsSoundFor issued old → HasShown old room ks → HasShown new room ks
shown_stays room ks issued old new other asked reply may step s h =
    let m : Moment = at_state old issued in
    let e : Event = record { caller = other; ask = asked; reply = reply; after = new } in
    let onward : Moment = next_moment m e in
    let goes : Grows m onward = grows_after m (e ∷ []) (may, step, tt) s in
    record {
      container = λ other_issued. same_container new onward.issued other_issued room (container_later m onward room goes (h.container issued));
      top = h.top;
      are = h.are;
      there = λ other_issued. same_folders new onward.issued other_issued room h.top hostdirs
          (λ k among named. folder_next m e room (hostdir_of k) step (no_openhosts k) (h.there issued k among named));
    }

-- So the scan of what was shown fails only by the store.
pub shown_fails : (caller room : ℕ) (ks : List ℕ) (issued : Ledger) (state : State) (events : List Event) (why : Stuck) → IsSoundFor issued state → HasShown state room ks → IsLawful state events → Runs caller (scans room 0 no_flat ks nothing_found) events (Err why) → FailsByStore caller state events why
shown_fails caller room ks issued state events why s h lawful runs =
    let m : Moment = at_state state issued in
    let found : IsScanned m room h.top hostdirs [] nothing_found = record { indices = tt; packs = tt; covers_met = tt } in
    scans_fail caller room 0 no_flat m h.top hostdirs events nothing_found why s (h.container issued) (range_below 0 32) (range_rises 0 32) (h.there issued) found lawful
    (subst (λ l. Runs caller (scans room 0 no_flat l nothing_found) events (Err why)) h.are runs)

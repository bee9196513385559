-- What is installed is right, and a flattened index stays as it is, and so does a packed one.
use Rattle.std.proofs.Common.{◌≡◌, ◌<◌, ◌^◌, ℕ, List, [], ◌∷◌, Option, Some, None, refl, ap, sym, ◌∙◌, inl, inr, subst, Ok, Err, ◌≤◌, length, take, min, arith}
use Rattle.std.specs.Prelude.{slice_get}
use Rattle.container_layout.specs.declared.items.Item.TheVariants.{Flat, Index, Packed}
use Rattle.container_layout.specs.Paths.{path_of}
use Rattle.container_layout.proofs.Facts.{same_items}
use Rattle.store_api.specs.declared.step.Answer.TheVariants.{Made, NoRoom, NoFolder}
use Rattle.store_api.specs.declared.store.Trouble.TheVariants as trouble
use Rattle.store_api.specs.declared.tree.Room.{Room}
use Rattle.store_api.specs.declared.tree.Tree.{Tree}
use Rattle.store_api.specs.Step.{Step}
use Rattle.store_laws.specs.Changes.{Replaced}
use Rattle.store_laws.specs.Files.{file_at}
use Rattle.store_laws.specs.Naming.{IsPathOf, NamesFile}
use Rattle.store_laws.specs.Tells.{made}
use Rattle.store_laws.proofs.Facts.{acts_told, changed_room, keeps_rooms, replace_told}
use Rattle.mount_model.specs.declared.call.Ask.{Ask}
use Rattle.mount_model.specs.declared.call.Call.TheVariants.{InstallFlat}
use Rattle.mount_model.specs.declared.reply.Reply.{Reply}
use Rattle.mount_model.specs.declared.reply.Reply.TheVariants.{Done}
use Rattle.mount_model.specs.declared.row.Flattening.{Flattening}
use Rattle.mount_model.specs.declared.row.FlatStage.TheVariants.{Synced}
use Rattle.mount_model.specs.declared.row.Making.{Making}
use Rattle.mount_model.specs.declared.row.Making.TheVariants as making
use Rattle.mount_model.specs.Entering.{next_id}
use Rattle.mount_model.specs.Flattening.{InstallsFlat, install_step, install_outcome}
use Rattle.mount_model.specs.History.{Event, state_after, told_tree_after}
use Rattle.mount_model.specs.Making.{Told}
use Rattle.mount_model.specs.Paths.{flat_path, installed, installed_item, temporary, temporary_item}
use Rattle.mount_model.specs.State.{State, Table}
use Rattle.mount_sound.specs.Named.{FitsNames}
use Rattle.index_pack.specs.Spelling.{Packs}
use Rattle.index_pack.specs.Valid.{CanBePacked}
use Rattle.plfs_types.specs.declared.limits.TheConstants.{MAX_PACKED}
use Rattle.index_pack.proofs.Facts.{one_packing, packing}
use Rattle.mount_sound.specs.Flats.{IsBegunIn, IsRightPack}
use Rattle.mount_model.specs.Step.{Answers, IsStep}
use Rattle.mount_model.specs.Table.{flattening_at, flattening_of}
use Rattle.mount_model.proofs.Facts.{IsUnderway, is_underway, match_cases, step_cases, stop_replies}
use Rattle.mount_sound.specs.Installed.{HasInstalled, IsInstalled}
use Rattle.mount_sound.specs.Issued.{issued, issued_after}
use Rattle.mount_sound.specs.Items.{HasItem, HasMeta}
use Rattle.mount_sound.specs.Ledger.{Written, entries_in, AreWritesOf, Ledger}
use Rattle.mount_sound.specs.Landed.{whole}
use Rattle.mount_sound.specs.There.{landed_entries, landed_in}
use Rattle.mount_sound.specs.Entries.{AreEntriesOf, logged}
use Rattle.mount_sound.specs.Owed.{IsLawful, May}
use Rattle.mount_sound.specs.Sound.{IsSoundFor}
use Rattle.mount_sound.proofs.Calls.Acting.{ActsOn, acts_so, step_acts}
use Rattle.mount_sound.proofs.Calls.Aside.{HasSoundFlats, one_room}
use Rattle.mount_sound.proofs.Owed.DroppingOwed.{stay_later}
use Rattle.mount_sound.proofs.Kept.EntriesLater.{room_keeps}
use Rattle.mount_sound.proofs.Indices.FlatActs.{named_own}
use Rattle.mount_sound.proofs.Calls.FlatFiles.{LeavesFile, acts_leave, file_acts, flattening_no_dropping}
use Rattle.mount_sound.proofs.Indices.FlatPaths.{is_installeds, moved_to, one_folder}
use Rattle.mount_sound.proofs.Indices.Flats.{KeepsAllEntries, right_frame}
use Rattle.mount_sound.proofs.Indices.Flattening.{are_named, flat_container, flat_id_fits}
use Rattle.mount_sound.proofs.Indices.FlatsLater.{moved_index}
use Rattle.mount_sound.proofs.Soundness.Items.{apart}
use Rattle.mount_sound.proofs.Calls.Making.{accounted, its_writers, one_tree}
use Rattle.mount_sound.proofs.Soundness.Landing.{in_order_take, logged_take}
use Rattle.mount_sound.proofs.Soundness.There.{told_in_sound}
use Rattle.mount_sound.proofs.Indices.Makings.{is_installed, is_temporary, one_flat, two_kinds}
use Rattle.mount_sound.proofs.Moments.SoundLater.{history_keeps, its_flats, step_keeps}

-- ---- it is installed

-- Done is told where the act was made
install_done : (f : Flattening) (table : Table) (told : Told) → (install_outcome f table told).reply ≡ Done → told ≡ made
install_done f table (Ok Made) e = refl
install_done f table (Ok NoRoom) e = absurd (cc)
install_done f table (Ok NoFolder) e = absurd (cc)
install_done f table (Ok answer) e = absurd (cc)
install_done f table (Err trouble.Fault) e = absurd (cc)
install_done f table (Err trouble.NoMemory) e = absurd (cc)

-- What is installed is right for its room, and kept.
installed_right : (l : Ledger) (old new : State) (caller flat : ℕ) → IsSoundFor l old → InstallsFlat caller flat old Done new → HasInstalled old caller flat new
installed_right l old new caller flat s x = elim (match_cases (flattening_of caller Synced flat old.table.flattenings) _ _ x) as (λ _. HasInstalled old caller flat new) [
  | inl (none, refused) ↦ absurd (let never = refused.0 in cc)
  | inr (f, its, m) ↦
      let flats : HasSoundFlats old.table s.shape.tree = its_flats l old s in
      let is : IsUnderway caller Synced flat old.table.flattenings f = is_underway caller Synced flat old.table.flattenings f its in
      let named : FitsNames f.makes = named_own old s.regular s.shape flats caller Synced flat f is in
      let fits : f.id < 2 ^ 64 = flat_id_fits old s.regular flat f is.found in
      let t = acts_told (install_step f) old.store new.store s.shape.tree m.told s.shape.told m.made in
      let was : Replaced s.shape.tree f.room (temporary f) (installed f).file t.0 = (replace_told f.room (temporary f) (installed f).file s.shape.tree m.told t.0 t.2).done (install_done f old.table m.told (sym m.answered)) in
      elim was as (λ _. HasInstalled old caller flat new) [
        | inr same ↦ absurd (apart (temporary_item f.makes f.id) (installed_item f.makes f.id) (is_temporary f.makes f.id named fits) (is_installed f.makes f.id named fits) (two_kinds f.makes f.makes f.id f.id) (sym (one_folder f.makes f.id)) same.0)
        | inl c ↦
            let has : HasItem c.new (installed_item f.makes f.id) c.bytes =
            record { is_item = is_installed f.makes f.id named fits; there = ap (λ p. file_at c.new p) (sym (moved_to f.makes f.id)) ∙ c.now (flat_container old s.regular flat f is.found s.shape c.room c.has_room).paths_differ } in
            let right = moved_index old s.regular s.shape flats caller flat f is t.0 c c.bytes has in
            record {
              f = f;
              its = its;
              bytes = c.bytes;
              held = λ tree room told there.
                  let one : tree ≡ s.shape.tree = one_tree tree s.shape.tree old.store.tree told s.shape.told in
                  let same : c.room ≡ room = one_room c.room room (slice_get tree.rooms f.room) (ap (λ (x : Tree). slice_get x.rooms f.room) one ∙ c.has_room) there in
                  ap (λ r. file_at r (temporary f)) (sym same) ∙ c.there;
              tree = t.0;
              told = t.1;
              installed = subst (λ i. IsInstalled t.0 f.room f.makes i c.bytes) is.is (record {
                room = c.new;
                there = ap (λ (x : Tree). slice_get x.rooms f.room) c.gives ∙ changed_room s.shape.tree f.room c.room c.new c.has_room;
                has = has;
                right = right.0;
                kept = right.1;
              });
            }
      ]
]

-- so it is by the step that installs it
pub step_installs : (l : Ledger) (old new : State) (caller flat : ℕ) (ask : Ask) → IsSoundFor l old → ask.call ≡ InstallFlat flat → IsStep old caller ask Done new → HasInstalled old caller flat new
step_installs l old new caller flat ask s call step = step_cases old caller ask Done new (HasInstalled old caller flat new) step
    (λ whole a. installed_right l old new caller flat s (subst (λ c. Answers old caller c Done new) call a))
    (λ k some x. elim (stop_replies old caller k ask.call Done new x) as (λ _. HasInstalled old caller flat new) [ inl e ↦ absurd (cc) | inr e ↦ absurd (cc) ])

-- ---- a flattened index stays

-- what makes a flattened index began where there was none
begun_none : (room : Room) (makes : Making) (id other : ℕ) → Flat id ≡ installed_item makes other → IsBegunIn room makes other → file_at room (flat_path id) ≡ None
begun_none room making.Flat id other e none = ap (λ i. file_at room (flat_path i)) (one_flat id making.Flat other e) ∙ none
begun_none room (making.Pack host writer) id other e begun = absurd (cc)

module _ (l : Ledger) (old : State) (s : IsSoundFor l old) (n id : ℕ) (room : Room) (there : slice_get s.shape.tree.rooms n ≡ Some room) (bytes : List ℕ) (h : HasItem room (Flat id) bytes) where
  named_there : (flat : ℕ) (g : Flattening) → flattening_at flat old.table.flattenings ≡ Some g → FitsNames g.makes
  named_there flat g e = are_named old s.shape.tree (its_flats l old s) flat g e

  -- the temporary file of a flattening is another one
  not_put : (flat : ℕ) (g : Flattening) → flattening_at flat old.table.flattenings ≡ Some g → IsPathOf (temporary g).folder (temporary g).file (path_of (Flat id)) → ⊥
  not_put flat g e named = apart (Flat id) (temporary_item g.makes g.id) h.is_item (is_temporary g.makes g.id (named_there flat g e) (flat_id_fits old s.regular flat g e)) (λ x. two_kinds g.makes making.Flat g.id id (sym x)) named.0 named.1

  -- and so is what it becomes, since there is none of its id yet
  not_installed : (flat : ℕ) (g : Flattening) → flattening_at flat old.table.flattenings ≡ Some g → NamesFile (install_step g) n (path_of (Flat id)) → ⊥
  not_installed flat g e (at, inl named) = not_put flat g e named
  not_installed flat g e (at, inr named) =
      let being = s.flattenings flat g e in
      let items : Flat id ≡ installed_item g.makes g.id =
      same_items (Flat id) (installed_item g.makes g.id) h.is_item (is_installed g.makes g.id (named_there flat g e) (flat_id_fits old s.regular flat g e)) (λ i. record { folder = (named.0 ∙ sym (one_folder g.makes g.id)) i; file = named.1 i }) in
      let rooms : being.0 ≡ room = one_room being.0 room (slice_get s.shape.tree.rooms n) (ap (λ k. slice_get s.shape.tree.rooms k) at ∙ being.1) there in
      not_both (file_at room (flat_path id)) (ap (λ r. file_at r (flat_path id)) (sym rooms) ∙ begun_none being.0 g.makes id g.id items being.2.begun) h.there
    where
      not_both : (o : Option (List ℕ)) → o ≡ None → o ≡ Some bytes → ⊥
      not_both o p q = cc

  -- the room is there yet
  room_later : (P : Step → Type 0) (after : Tree) → ActsOn P s.shape.tree after → (new : Room) × (slice_get after.rooms n ≡ Some new)
  room_later P after (inl same) = (room, ap (λ (t : Tree). slice_get t.rooms n) same ∙ there)
  room_later P after (inr a) = let k = keeps_rooms a.step s.shape.tree a.told after a.tells n room there in (k.0, k.1)

  -- A flattened index stays as it is through each step.
  pub step_flat_stays : (new : State) (caller : ℕ) (ask : Ask) (reply : Reply) → IsStep old caller ask reply new → (after : Tree) → new.store.tree ≡ Some after → (later : Room) × (slice_get after.rooms n ≡ Some later) × HasItem later (Flat id) bytes
  step_flat_stays new caller ask reply step after now =
      let P : Step → Type 0 = λ x. Unit {0} → LeavesFile n (path_of (Flat id)) x in
      let g = step_acts (λ call. P) old new caller ask reply s.shape.tree
      (file_acts n (path_of (Flat id)) (flattening_no_dropping (path_of (Flat id)) (is_installeds making.Flat id)) old.table (next_id old) caller (λ call. Unit {0}) (λ flat f e b on named. not_put flat f e named.1) (λ flat f e on named. not_installed flat f e named)) step s.shape.told in
      let acts : ActsOn P s.shape.tree after = subst (ActsOn P s.shape.tree) (one_tree g.0 after new.store.tree g.1 now) g.2 in
      let r = room_later P after acts in
      (r.0, r.1, record { is_item = h.is_item; there = acts_leave n (path_of (Flat id)) s.shape.tree room there bytes h.there after (acts_so P (LeavesFile n (path_of (Flat id))) s.shape.tree after (λ x leaves. leaves tt) acts) r.0 r.1 })

-- ---- a packed index stays

module _ (l : Ledger) (old new : State) (caller : ℕ) (ask : Ask) (reply : Reply) (may : May old caller ask) (step : IsStep old caller ask reply new) (s : IsSoundFor l old) (s' : IsSoundFor (issued_after l old ask.call reply) new) where
  -- What is right for the entries that have landed is one list of bytes: installing it again writes the same.
  pub step_pack_stays : (n host writer : ℕ) (room : Room) → slice_get s.shape.tree.rooms n ≡ Some room → (bytes : List ℕ) → HasItem room (Packed host writer) bytes
      → (later : Room) × (slice_get s'.shape.tree.rooms n ≡ Some later) × HasItem later (Packed host writer) bytes
  step_pack_stays n host writer room there bytes h =
      let x = stay_later l old new caller ask reply may step s s' n room (Packed host writer) bytes there tt h in
      let was = s.flats n room there (making.Pack host writer) 0 bytes h in
      let is = s'.flats n x.0 x.2 (making.Pack host writer) 0 x.1 x.3 in
      let keeps : KeepsAllEntries room x.0 = room_keeps l old new caller ask reply (may.owes s.clean) step (its_writers l old s) (accounted (issued_after l old ask.call reply) new (its_writers (issued_after l old ask.call reply) new s')) n room x.0 there x.2 in
      let stays : IsRightPack x.0 host writer bytes = right_frame room x.0 keeps (making.Pack host writer) bytes was.0 in
      let same : x.1 ≡ bytes = one_packing (landed_entries x.0 host writer) x.1 bytes is.0.packs stays.packs in
      (x.0, x.2, subst (λ b. HasItem x.0 (Packed host writer) b) same x.3)

-- A writer has one packed index: it is of the host that its metadata dropping is of, and of its entries that have landed.
pub one_pack : (l : Ledger) (state : State) (s : IsSoundFor l state) (number : ℕ) (room : Room) → slice_get s.shape.tree.rooms number ≡ Some room → (host other writer : ℕ) (some more : List ℕ) → HasItem room (Packed host writer) some → HasItem room (Packed other writer) more → (host ≡ other) × (some ≡ more)
one_pack l state s number room there host other writer some more h k =
    let w = (s.sound.rooms number room there).writers writer h.is_item.widths.1 in
    let a : IsRightPack room host writer some = (s.flats number room there (making.Pack host writer) 0 some h).0 in
    let b : IsRightPack room other writer more = (s.flats number room there (making.Pack other writer) 0 more k).0 in
    let hosts : host ≡ other = w.one_host host (inr (inr a.left)) ∙ sym (w.one_host other (inr (inr b.left))) in
    (hosts, one_packing (landed_entries room host writer) some more a.packs (subst (λ x. Packs more (landed_entries room x writer)) (sym hosts) b.packs))

-- ---- so both do

step_index_stays : (l : Ledger) (old new : State) (caller : ℕ) (ask : Ask) (reply : Reply) → May old caller ask → IsStep old caller ask reply new → (s : IsSoundFor l old) (s' : IsSoundFor (issued_after l old ask.call reply) new) → (makes : Making) (n id : ℕ) (room : Room) → slice_get s.shape.tree.rooms n ≡ Some room
    → (bytes : List ℕ) → HasItem room (installed_item makes id) bytes → (later : Room) × (slice_get s'.shape.tree.rooms n ≡ Some later) × HasItem later (installed_item makes id) bytes
step_index_stays l old new caller ask reply may step s s' making.Flat n id room there bytes h = step_flat_stays l old s n id room there bytes h new caller ask reply step s'.shape.tree s'.shape.told
step_index_stays l old new caller ask reply may step s s' (making.Pack host writer) n id room there bytes h = step_pack_stays l old new caller ask reply may step s s' n host writer room there bytes h

-- also along a history
history_index_stays : (l : Ledger) (start : State) (events : List Event) → IsLawful start events → (s : IsSoundFor l start) (s' : IsSoundFor (issued l start events) (state_after start events)) → (makes : Making) (n id : ℕ) (room : Room) → slice_get s.shape.tree.rooms n ≡ Some room
    → (bytes : List ℕ) → HasItem room (installed_item makes id) bytes → (later : Room) × (slice_get s'.shape.tree.rooms n ≡ Some later) × HasItem later (installed_item makes id) bytes
history_index_stays l start [] lawful s s' makes n id room there bytes h =
    (room, ap (λ (t : Tree). slice_get t.rooms n) (one_tree s'.shape.tree s.shape.tree start.store.tree s'.shape.told s.shape.told) ∙ there, h)
history_index_stays l start (e ∷ events) lawful s s' makes n id room there bytes h =
    let middle = step_keeps l start e.after e.caller e.ask e.reply lawful.0 lawful.1 s in
    let x = step_index_stays l start e.after e.caller e.ask e.reply lawful.0 lawful.1 s middle makes n id room there bytes h in
    history_index_stays (issued_after l start e.ask.call e.reply) e.after events lawful.2 middle s' makes n id x.0 x.1 bytes x.2

-- It is right and kept then.
pub indices_stay : (l : Ledger) (start : State) (events : List Event) → IsLawful start events → IsSoundFor l start → (tree after : Tree) → start.store.tree ≡ Some tree → told_tree_after start events ≡ Some after
    → (makes : Making) (n id : ℕ) (room : Room) (bytes : List ℕ) → slice_get tree.rooms n ≡ Some room → HasItem room (installed_item makes id) bytes → IsInstalled after n makes id bytes
indices_stay l start events lawful s tree after told now makes n id room bytes there h =
    let s' = history_keeps l start events lawful s in
    let first : tree ≡ s.shape.tree = one_tree tree s.shape.tree start.store.tree told s.shape.told in
    let last : s'.shape.tree ≡ after = one_tree s'.shape.tree after (told_tree_after start events) s'.shape.told now in
    let x = history_index_stays l start events lawful s s' makes n id room (ap (λ (t : Tree). slice_get t.rooms n) (sym first) ∙ there) bytes h in
    let right = s'.flats n x.0 x.1 makes id bytes x.2 in
    subst (λ t. IsInstalled t n makes id bytes) last (record { room = x.0; there = x.1; has = x.2; right = right.0; kept = right.1 })

-- ---- a writer that has left can be packed

pub left_packs : (l : Ledger) (state : State) (s : IsSoundFor l state) (number : ℕ) (room : Room) → slice_get s.shape.tree.rooms number ≡ Some room → (host writer : ℕ) (content : List ℕ) → HasItem room (Index host writer) content → HasMeta room host writer
    → 1 ≤ landed_in room host writer → landed_in room host writer ≤ MAX_PACKED → (bytes : List ℕ) × IsRightPack room host writer bytes
left_packs l state s number room there host writer content h left some few =
    let issued : List Written = l number writer in
    let n : ℕ = min (whole content) (length issued) in
    let v : AreWritesOf writer issued = s.sound.writes number writer in
    let told : landed_entries room host writer ≡ take n (entries_in issued) = told_in_sound l state s number room there host writer content h in
    let can : CanBePacked (landed_entries room host writer) = record {
      owner = writer;
      in_order = subst (AreEntriesOf writer 0 0) (sym told) (in_order_take n writer 0 0 (entries_in issued) v.in_order);
      near = omega (arith, ap logged told, logged_take n (entries_in issued), v.small);
      counted = (some, few);
    } in
    let made = packing (landed_entries room host writer) can h.is_item.widths.1 in
    (made.0, record { content = content; stands = h; left = left; packs = made.1 })

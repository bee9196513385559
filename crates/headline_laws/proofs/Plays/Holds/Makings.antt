-- What stands of a flattening that the caller began, until it is installed.
use Rattle.std.proofs.Common.{◌≡◌, ◌<◌, ◌≤◌, ◌+◌, ◌*◌, ◌^◌, ℕ, zero, suc, true, false, nat_eq, List, [], ◌∷◌, ◌++◌, drop, length, Option, Some, None, Ok, Err, refl, sym, ap, ◌∙◌, inl, inr, subst, arith, eq-eqb}
use Rattle.std.specs.Prelude.{if◌then◌else◌, slice_get}
use Rattle.std.specs.List.{AllByRecursion}
use Rattle.std.proofs.lemmas.List.{append-nil}
use Rattle.plfs_types.specs.Bytes.{overwritten}
use Rattle.turn_object.specs.Callers.{made_by}
use Rattle.container_layout.specs.declared.items.Item.TheVariants.{Flat as FlatItem}
use Rattle.store_api.specs.declared.step.Answer.TheVariants.{Made, NoFolder, NoRoom}
use Rattle.store_api.specs.declared.store.Trouble.TheVariants as trouble
use Rattle.store_api.specs.declared.tree.Room.{Room}
use Rattle.store_api.specs.declared.tree.Tree.{Tree}
use Rattle.store_laws.specs.Changes.{Replaced, WasSynced}
use Rattle.store_laws.specs.Files.{file_at}
use Rattle.store_laws.proofs.Facts.{acts_told, changed_room, replace_told, sync_told, write_told}
use Rattle.mount_model.specs.declared.call.Call.{Call}
use Rattle.mount_model.specs.declared.call.Call.TheVariants.{InstallFlat, PutFlat, StartFlat, StartPack, SyncFlat}
use Rattle.mount_model.specs.declared.reply.Reply.{Reply}
use Rattle.mount_model.specs.declared.reply.Reply.TheVariants.{Done, Refused, Started}
use Rattle.mount_model.specs.declared.row.Flattening.{Flattening}
use Rattle.mount_model.specs.declared.row.FlatStage.{FlatStage}
use Rattle.mount_model.specs.declared.row.FlatStage.TheVariants.{Begun, Put, Synced}
use Rattle.mount_model.specs.declared.row.Making.{Making}
use Rattle.mount_model.specs.declared.row.Making.TheVariants as making
use Rattle.mount_model.specs.Entering.{draw_check, next_id}
use Rattle.mount_model.specs.Flattening.{Starts, begun_flat, install_outcome, install_step, put_flat_outcome, put_flat_step, start_outcome, sync_flat_outcome, sync_flat_step}
use Rattle.mount_model.specs.History.{Event}
use Rattle.mount_model.specs.Making.{Told}
use Rattle.mount_model.specs.Paths.{installed, installed_item, temporary, temporary_item}
use Rattle.mount_model.specs.Places.{KeepsPlace}
use Rattle.mount_model.specs.Regular.{IsRegular}
use Rattle.mount_model.specs.State.{State, Table, last_id}
use Rattle.mount_model.specs.Step.{Answers, IsStep}
use Rattle.mount_model.specs.Table.{flattening_at, flattening_of, with_flattening}
use Rattle.mount_model.proofs.Facts.{FlatteningsMade, IsUnderway, TurnsHolders, answers_turn, found_before-push, found_before-with_flattening, found_before-without_flattening, flattening_at_id, is_underway, match_cases, next_not_flattened, step_cases, step_flattened, step_place}
use Rattle.mount_sound.specs.Named.{FitsNames}
use Rattle.mount_sound.specs.Items.{HasItem}
use Rattle.mount_sound.specs.Owed.{InRoom, IsLawful, May}
use Rattle.mount_sound.proofs.Facts.{apart, are_named, flat_container, flat_id_fits, is_installed, is_temporary, its_flats, moved_to, named_own, one_folder, one_tree, some_room, step_leaves, two_kinds}
use Rattle.mount_model.specs.Running.{Runs, unbroken}
use Rattle.mount_model.proofs.Flows.Facts.{runs_done, runs_next}
use Rattle.mount_model.specs.Program.{Program, ask, done}
use Rattle.reader_laws.specs.Moments.{IsSoundAt, Moment, moment_after, next_moment}
use Rattle.reader_laws.proofs.Gathered.Facts.{alike, sound_after}

-- ---- the caller's own calls

-- its calls are not broken off
abbrev pub AreUnbroken : ℕ → List Event → Type 0
AreUnbroken n events = AllByRecursion (λ (e : Event). e.caller ≡ n → e.ask.stop ≡ None) events

pub runs_unbroken : {R : Type 0} (n : ℕ) (p : Program Call Reply R) (events : List Event) (out : R) → Runs n p events out → AreUnbroken n events
runs_unbroken n p [] out runs = tt
runs_unbroken n (done r) (e ∷ events) out runs = let d = runs_done n r e events out runs in ((λ own. absurd (d.0 own)), runs_unbroken n (done r) events out d.1)
runs_unbroken {R} n (ask q k) (e ∷ events) out runs = elim (runs_next n q k e events out runs) as (λ _. AreUnbroken n (e ∷ events)) [
  | inl (other, rest) ↦ ((λ own. absurd (other own)), runs_unbroken n (ask q k) events out rest)
  | inr (own, asked, rest) ↦ ((λ is. ap (λ a. a.stop) asked), runs_unbroken n (k e.reply) events out rest)
]

not_own : (n : ℕ) (event : Event) (events : List Event) → made_by n (event ∷ events) ≡ [] → (event.caller ≡ n → ⊥) × (made_by n events ≡ [])
not_own n event events none = elim (nat_eq event.caller n) as (λ b. nat_eq event.caller n ≡ b → (if b then event ∷ made_by n events else made_by n events) ≡ [] → (event.caller ≡ n → ⊥) × (made_by n events ≡ [])) [
  | true ↦ λ t e. absurd (cc)
  | false ↦ λ t e. (λ own. (let same : nat_eq event.caller n ≡ true = eq-eqb event.caller n own in let clash : true ≡ false = sym same ∙ t in absurd (cc)), e)
] refl none

-- ---- its room, and what it makes

module _ (n flat room : ℕ) where
  -- the id was drawn, and where the caller has this flattening, it is of this room and makes a flattened index
  pub record IsFlatOf (state : State) : Type 0 where
    pub drawn : flat ≤ last_id state
    pub its : (f : Flattening) → flattening_at flat state.table.flattenings ≡ Some f → f.owner ≡ n → (f.room ≡ room) × (f.makes ≡ making.Flat)

  id_later : (old new : State) → KeepsPlace old new → flat ≤ last_id old → flat ≤ last_id new
  id_later old new k l = omega (arith, l, ap (λ m. m * 2 ^ 32) k.mount, k.serial)

  not_next : (state : State) → flat ≤ last_id state → flat ≡ next_id state → ⊥
  not_next state l e = omega (arith, l, e)

  module _ (old new : State) (regular : IsRegular old) (was : IsFlatOf old) (f : Flattening) (found : flattening_at flat new.table.flattenings ≡ Some f) where
    begun_before : (from : ℕ) (makes : Making) → new.table.flattenings ≡ old.table.flattenings ++ begun_flat old n from makes ∷ [] → f.owner ≡ n → (f.room ≡ room) × (f.makes ≡ making.Flat)
    begun_before from makes e own = elim (found_before-push old.table.flattenings (begun_flat old n from makes) flat f (subst (λ fs. flattening_at flat fs ≡ Some f) e found)) as (λ _. (f.room ≡ room) × (f.makes ≡ making.Flat)) [
      | inl before ↦ was.its f before own
      | inr is ↦ absurd (not_next old was.drawn is.0)
    ]

    staged_before : (stage next : FlatStage) (q : ℕ) (mine : Flattening) → IsUnderway n stage q old.table.flattenings mine → new.table.flattenings ≡ with_flattening (record mine { stage = next }) old.table.flattenings → f.owner ≡ n → (f.room ≡ room) × (f.makes ≡ making.Flat)
    staged_before stage next q mine is e own = elim (found_before-with_flattening (record mine { stage = next }) old.table.flattenings flat f (subst (λ fs. flattening_at flat fs ≡ Some f) e found)) as (λ _. (f.room ≡ room) × (f.makes ≡ making.Flat)) [
      | inl before ↦ was.its f before.1 own
      | inr its ↦
          let same : flat ≡ q = its.0 ∙ is.is in
          let m = was.its mine (ap (λ i. flattening_at i old.table.flattenings) same ∙ is.found) is.owned in
          (ap (λ (x : Flattening). x.room) its.1 ∙ m.0, ap (λ (x : Flattening). x.makes) its.1 ∙ m.1)
    ]

    made_before : (call : Call) → FlatteningsMade old n call new.table → f.owner ≡ n → (f.room ≡ room) × (f.makes ≡ making.Flat)
    made_before (StartFlat from) e own = begun_before from making.Flat e own
    made_before (StartPack from host writer) e own = begun_before from (making.Pack host writer) e own
    made_before (PutFlat q bytes) (mine, is, e) own = staged_before Begun Put q mine is e own
    made_before (SyncFlat q) (mine, is, e) own = staged_before Put Synced q mine is e own
    made_before (InstallFlat q) (mine, is, e) own = was.its f (found_before-without_flattening mine.id old.table.flattenings flat f regular.flattenings.ascending (subst (λ fs. flattening_at flat fs ≡ Some f) e found)).1 own
    made_before call e own = absurd e

  -- so it is after each step of another, and of the caller where that isn't broken off
  flat_later : (m : Moment) (event : Event) → IsSoundAt m → IsStep m.state event.caller event.ask event.reply event.after → (event.caller ≡ n → event.ask.stop ≡ None) → IsFlatOf m.state → IsFlatOf event.after
  flat_later m event sound step whole was = record {
    drawn = id_later m.state event.after (step_place m.state event.after event.caller event.ask event.reply step) was.drawn;
    its = λ f found own. its_so f found own;
  }
    where
      answered_so : (f : Flattening) → flattening_at flat event.after.table.flattenings ≡ Some f → f.owner ≡ n → event.caller ≡ n → Answers m.state event.caller event.ask.call event.reply event.after → (f.room ≡ room) × (f.makes ≡ making.Flat)
      answered_so f found own is a =
          let t : TurnsHolders m.state n event.ask.call event.after.table = answers_turn m.state n event.ask.call event.reply event.after (subst (λ c. Answers m.state c event.ask.call event.reply event.after) is a) in
          elim t.flattenings as (λ _. (f.room ≡ room) × (f.makes ≡ making.Flat)) [
            | inl same ↦ was.its f (subst (λ fs. flattening_at flat fs ≡ Some f) same found) own
            | inr made ↦ made_before m.state event.after sound.regular was f found event.ask.call made own
          ]

      by_caller : (f : Flattening) → flattening_at flat event.after.table.flattenings ≡ Some f → f.owner ≡ n → (b : _) → nat_eq event.caller n ≡ b → (f.room ≡ room) × (f.makes ≡ making.Flat)
      by_caller f found own true t =
          let is : event.caller ≡ n = alike event.caller n t in
          step_cases m.state event.caller event.ask event.reply event.after ((f.room ≡ room) × (f.makes ≡ making.Flat)) step (λ none a. answered_so f found own is a) (λ k some x. absurd (let none : event.ask.stop ≡ None = whole is in cc))
      by_caller f found own false t =
          was.its f (step_flattened m.state event.after event.caller event.ask event.reply flat f sound.regular step found (λ same. (let is : nat_eq event.caller n ≡ true = eq-eqb event.caller n (sym same ∙ own) in let clash : true ≡ false = sym is ∙ t in cc))) own

      its_so : (f : Flattening) → flattening_at flat event.after.table.flattenings ≡ Some f → f.owner ≡ n → (f.room ≡ room) × (f.makes ≡ making.Flat)
      its_so f found own = by_caller f found own (nat_eq event.caller n) refl

  pub flat_after : (m : Moment) (events : List Event) → IsLawful m.state events → IsSoundAt m → AreUnbroken n events → IsFlatOf m.state → IsFlatOf (moment_after m events).state
  flat_after m [] lawful sound whole was = was
  flat_after m (event ∷ events) lawful sound whole was =
      flat_after (next_moment m event) events lawful.2 (sound_after m (event ∷ []) (lawful.0, lawful.1, tt) sound) whole.1 (flat_later m event sound lawful.1 whole.0 was)

  -- ---- it begins

  start_made : (f : Flattening) (table : Table) (told : Told) → Started flat ≡ (start_outcome f table told).reply → (told ≡ Ok Made) × (flat ≡ f.id)
  start_made f table (Ok Made) e = (refl, cc)
  start_made f table (Ok NoRoom) e = absurd (cc)
  start_made f table (Ok NoFolder) e = absurd (cc)
  start_made f table (Ok answer) e = absurd (cc)
  start_made f table (Err trouble.Fault) e = absurd (cc)
  start_made f table (Err trouble.NoMemory) e = absurd (cc)

  pub flat_begun : (m : Moment) (after : State) → IsSoundAt m → IsStep m.state n (unbroken (StartFlat room)) (Started flat) after → IsFlatOf after
  flat_begun m after sound step = elim (match_cases (draw_check m.state room) _ _ step.does) as (λ _. IsFlatOf after) [
    | inr (why, some, refused) ↦ absurd (let e : Started flat ≡ Refused why = refused.0 in cc)
    | inl (none, made) ↦ begun made
  ]
    where
      begun : Starts n room making.Flat m.state (Started flat) after → IsFlatOf after
      begun made =
          let mine : Flattening = begun_flat m.state n room making.Flat in
          let so = start_made mine m.state.table made.told made.answered in
          let are : after.table.flattenings ≡ m.state.table.flattenings ++ mine ∷ [] = ap (λ (x : State). x.table.flattenings) made.after ∙ ap (λ told. (start_outcome mine m.state.table told).table.flattenings) so.0 in
          let ids : last_id after ≡ next_id m.state = ap last_id made.after in
          record {
            drawn = omega (arith, so.1, ids);
            its = λ f found own. elim (found_before-push m.state.table.flattenings mine flat f (subst (λ fs. flattening_at flat fs ≡ Some f) are found)) as (λ _. (f.room ≡ room) × (f.makes ≡ making.Flat)) [
              | inl before ↦ absurd (let none : flattening_at (next_id m.state) m.state.table.flattenings ≡ None = next_not_flattened m.state.mount m.state.serial m.state.marks m.state.table.flattenings sound.regular.flattenings in
                  let some : flattening_at (next_id m.state) m.state.table.flattenings ≡ Some f = ap (λ q. flattening_at q m.state.table.flattenings) (sym so.1) ∙ before in cc)
              | inr it ↦ (ap (λ (x : Flattening). x.room) it.1, ap (λ (x : Flattening). x.makes) it.1)
            ];
          }

-- ---- its bytes

module _ (n flat : ℕ) (content : List ℕ) where
  -- where the caller has this flattening, its temporary file has these bytes
  abbrev pub HasBytes : State → Type 0
  HasBytes state = (f : Flattening) → flattening_at flat state.table.flattenings ≡ Some f → f.owner ≡ n → InRoom state f.room (λ room. file_at room (temporary f) ≡ Some content)

  bytes_later : (m : Moment) (event : Event) → IsSoundAt m → IsStep m.state event.caller event.ask event.reply event.after → (event.caller ≡ n → ⊥) → HasBytes m.state → HasBytes event.after
  bytes_later m event sound step other was f found own after room told there =
      let not_its : f.owner ≡ event.caller → ⊥ = λ same. other (sym same ∙ own) in
      let before : flattening_at flat m.state.table.flattenings ≡ Some f = step_flattened m.state event.after event.caller event.ask event.reply flat f sound.regular step found not_its in
      let id : f.id ≡ flat = flattening_at_id flat m.state.table.flattenings f before in
      let its : flattening_at f.id m.state.table.flattenings ≡ Some f = ap (λ q. flattening_at q m.state.table.flattenings) id ∙ before in
      let being = sound.flattenings flat f before in
      step_leaves f.id f content sound.shape.tree being.0 being.1 (was f before own sound.shape.tree being.0 sound.shape.told being.1) m.state event.after event.caller event.ask event.reply sound.regular
      (are_named m.state sound.shape.tree (its_flats m.issued m.state sound)) sound.shape.told its not_its step after told room there

  -- so it is after calls of others
  pub bytes_on : (m : Moment) (events : List Event) → IsLawful m.state events → IsSoundAt m → made_by n events ≡ [] → HasBytes m.state → HasBytes (moment_after m events).state
  bytes_on m [] lawful sound none was = was
  bytes_on m (event ∷ events) lawful sound none was =
      let other = not_own n event events none in
      bytes_on (next_moment m event) events lawful.2 (sound_after m (event ∷ []) (lawful.0, lawful.1, tt) sound) other.1 (bytes_later m event sound lawful.1 other.0 was)

  -- it came to another stage, and its file has these bytes
  come_so : (old new : State) (stage next : FlatStage) (f : Flattening) → IsUnderway n stage flat old.table.flattenings f → new.table.flattenings ≡ with_flattening (record f { stage = next }) old.table.flattenings → (tree : Tree) → new.store.tree ≡ Some tree
      → (room : Room) → slice_get tree.rooms f.room ≡ Some room → file_at room (temporary f) ≡ Some content → HasBytes new
  come_so old new stage next f is e tree told room there at g found own after now has_tree has_room =
      elim (found_before-with_flattening (record f { stage = next }) old.table.flattenings flat g (subst (λ fs. flattening_at flat fs ≡ Some g) e found)) as (λ _. file_at now (temporary g) ≡ Some content) [
        | inl before ↦ absurd (before.0 (sym is.is))
        | inr its ↦
            let trees : after ≡ tree = one_tree after tree new.store.tree has_tree told in
            let rooms : room ≡ now = some_room room now (slice_get tree.rooms f.room) there (ap (λ (t : Tree). slice_get t.rooms f.room) (sym trees) ∙ ap (λ k. slice_get after.rooms k) (sym (ap (λ (x : Flattening). x.room) its.1)) ∙ has_room) in
            ap (λ r. file_at r (temporary g)) (sym rooms) ∙ ap (λ (x : Flattening). file_at room (temporary x)) its.1 ∙ at
      ]

  -- ---- its bytes are put

  put_made : (f : Flattening) (table : Table) (told : Told) → Done ≡ (put_flat_outcome f table told).reply → told ≡ Ok Made
  put_made f table (Ok Made) e = refl
  put_made f table (Ok NoRoom) e = absurd (cc)
  put_made f table (Ok NoFolder) e = absurd (cc)
  put_made f table (Ok answer) e = absurd (cc)
  put_made f table (Err trouble.Fault) e = absurd (cc)
  put_made f table (Err trouble.NoMemory) e = absurd (cc)

  none_left : (k : ℕ) → drop {A = ℕ} k [] ≡ []
  none_left zero = refl
  none_left (suc k) = refl

  over_none : (old bytes : List ℕ) → old ≡ [] → overwritten old 0 bytes ≡ bytes
  over_none old bytes none = ap (λ o. overwritten o 0 bytes) none ∙ ap (λ d. bytes ++ d) (none_left (0 + length bytes)) ∙ append-nil bytes

  bytes_are : (a b : List ℕ) (o : Option (List ℕ)) → o ≡ Some a → o ≡ Some b → a ≡ b
  bytes_are a b o p q = cc

  pub bytes_put : (m : Moment) (after : State) → IsSoundAt m → May m.state n (unbroken (PutFlat flat content)) → IsStep m.state n (unbroken (PutFlat flat content)) Done after → HasBytes after
  bytes_put m after sound may step = elim (match_cases (flattening_of n Begun flat m.state.table.flattenings) _ _ step.does) as (λ _. HasBytes after) [
    | inl (none, refused) ↦ absurd (let e = refused.0 in cc)
    | inr (f, its, made) ↦
        let is : IsUnderway n Begun flat m.state.table.flattenings f = is_underway n Begun flat m.state.table.flattenings f its in
        let done_so : made.told ≡ Ok Made = put_made f m.state.table made.told made.answered in
        let t = acts_told (put_flat_step f content) m.state.store after.store sound.shape.tree made.told sound.shape.told made.made in
        elim (write_told f.room (temporary f) 0 content sound.shape.tree made.told t.0 t.2) as (λ _. HasBytes after) [
          | inr (not_made, part) ↦ absurd (not_made done_so)
          | inl (so, w) ↦
              let empty : file_at w.room (temporary f) ≡ Some [] = (may.owes sound.clean f its sound.shape.tree w.room sound.shape.told w.has_room).empty in
              let none : w.old ≡ [] = bytes_are w.old [] (file_at w.room (temporary f)) w.there empty in
              let there : slice_get t.0.rooms f.room ≡ Some w.new = ap (λ (x : Tree). slice_get x.rooms f.room) w.gives ∙ changed_room sound.shape.tree f.room w.room w.new w.has_room in
              come_so m.state after Begun Put f is (ap (λ (x : State). x.table.flattenings) made.after ∙ ap (λ told. (put_flat_outcome f m.state.table told).table.flattenings) done_so) t.0 t.1 w.new there
              (w.now ∙ ap (λ (b : List ℕ). Some b) (over_none w.old content none))
        ]
  ]

  -- ---- its file is synced

  sync_made : (f : Flattening) (table : Table) (told : Told) → Done ≡ (sync_flat_outcome f table told).reply → told ≡ Ok Made
  sync_made f table (Ok Made) e = refl
  sync_made f table (Ok NoRoom) e = absurd (cc)
  sync_made f table (Ok NoFolder) e = absurd (cc)
  sync_made f table (Ok answer) e = absurd (cc)
  sync_made f table (Err trouble.Fault) e = absurd (cc)
  sync_made f table (Err trouble.NoMemory) e = absurd (cc)

  pub bytes_synced : (m : Moment) (after : State) → IsSoundAt m → HasBytes m.state → IsStep m.state n (unbroken (SyncFlat flat)) Done after → HasBytes after
  bytes_synced m after sound was step = elim (match_cases (flattening_of n Put flat m.state.table.flattenings) _ _ step.does) as (λ _. HasBytes after) [
    | inl (none, refused) ↦ absurd (let e = refused.0 in cc)
    | inr (f, its, made) ↦
        let is : IsUnderway n Put flat m.state.table.flattenings f = is_underway n Put flat m.state.table.flattenings f its in
        let done_so : made.told ≡ Ok Made = sync_made f m.state.table made.told made.answered in
        let t = acts_told (sync_flat_step f) m.state.store after.store sound.shape.tree made.told sound.shape.told made.made in
        let w : WasSynced sound.shape.tree f.room (temporary f) t.0 = (sync_told f.room (temporary f) sound.shape.tree made.told t.0 t.2).done done_so in
        let had : file_at w.room (temporary f) ≡ Some content = was f is.found is.owned sound.shape.tree w.room sound.shape.told w.has_room in
        let there : slice_get t.0.rooms f.room ≡ Some w.new = ap (λ (x : Tree). slice_get x.rooms f.room) w.gives ∙ changed_room sound.shape.tree f.room w.room w.new w.has_room in
        come_so m.state after Put Synced f is (ap (λ (x : State). x.table.flattenings) made.after ∙ ap (λ told. (sync_flat_outcome f m.state.table told).table.flattenings) done_so) t.0 t.1 w.new there
        (w.now ∙ ap (λ (b : List ℕ). Some b) (bytes_are w.old content (file_at w.room (temporary f)) w.there had))
  ]

  -- ---- it is installed

  install_made : (f : Flattening) (table : Table) (told : Told) → Done ≡ (install_outcome f table told).reply → told ≡ Ok Made
  install_made f table (Ok Made) e = refl
  install_made f table (Ok NoRoom) e = absurd (cc)
  install_made f table (Ok NoFolder) e = absurd (cc)
  install_made f table (Ok answer) e = absurd (cc)
  install_made f table (Err trouble.Fault) e = absurd (cc)
  install_made f table (Err trouble.NoMemory) e = absurd (cc)

  -- the room has its index then
  pub record StandsInstalled (m : Moment) (sound : IsSoundAt m) (room : ℕ) : Type 0 where
    pub there : Room
    pub has_room : slice_get sound.shape.tree.rooms room ≡ Some there
    pub has : HasItem there (FlatItem flat) content

  of_flat : (f : Flattening) (room : ℕ) (m : Moment) (sound : IsSoundAt m) (there : Room) → (f.room ≡ room) × (f.makes ≡ making.Flat) → f.id ≡ flat → slice_get sound.shape.tree.rooms f.room ≡ Some there → HasItem there (installed_item f.makes f.id) content → StandsInstalled m sound room
  of_flat f room m sound there its id has_room has = record {
    there = there;
    has_room = ap (λ k. slice_get sound.shape.tree.rooms k) (sym its.0) ∙ has_room;
    has = subst (λ i. HasItem there (FlatItem i) content) id (subst (λ makes. HasItem there (installed_item makes f.id) content) its.1 has);
  }

  pub bytes_installed : (room : ℕ) (m : Moment) (event : Event) → IsSoundAt m → (now : IsSoundAt (next_moment m event)) → IsFlatOf n flat room m.state → HasBytes m.state → IsStep m.state n (unbroken (InstallFlat flat)) Done event.after → StandsInstalled (next_moment m event) now room
  bytes_installed room m event sound now is_flat was step = elim (match_cases (flattening_of n Synced flat m.state.table.flattenings) _ _ step.does) as (λ _. StandsInstalled (next_moment m event) now room) [
    | inl (none, refused) ↦ absurd (let e = refused.0 in cc)
    | inr (f, its, made) ↦
        let is : IsUnderway n Synced flat m.state.table.flattenings f = is_underway n Synced flat m.state.table.flattenings f its in
        let done_so : made.told ≡ Ok Made = install_made f m.state.table made.told made.answered in
        let flats = its_flats m.issued m.state sound in
        let named : FitsNames f.makes = named_own m.state sound.regular sound.shape flats n Synced flat f is in
        let fits : f.id < 2 ^ 64 = flat_id_fits m.state sound.regular flat f is.found in
        let t = acts_told (install_step f) m.state.store event.after.store sound.shape.tree made.told sound.shape.told made.made in
        let moved : Replaced sound.shape.tree f.room (temporary f) (installed f).file t.0 = (replace_told f.room (temporary f) (installed f).file sound.shape.tree made.told t.0 t.2).done done_so in
        elim moved as (λ _. StandsInstalled (next_moment m event) now room) [
          | inr same ↦ absurd (apart (temporary_item f.makes f.id) (installed_item f.makes f.id) (is_temporary f.makes f.id named fits) (is_installed f.makes f.id named fits) (two_kinds f.makes f.makes f.id f.id) (sym (one_folder f.makes f.id)) same.0)
          | inl c ↦
              let had : file_at c.room (temporary f) ≡ Some content = was f is.found is.owned sound.shape.tree c.room sound.shape.told c.has_room in
              let bytes : c.bytes ≡ content = bytes_are c.bytes content (file_at c.room (temporary f)) c.there had in
              let has : HasItem c.new (installed_item f.makes f.id) content =
              record { is_item = is_installed f.makes f.id named fits; there = ap (λ p. file_at c.new p) (sym (moved_to f.makes f.id)) ∙ c.now (flat_container m.state sound.regular flat f is.found sound.shape c.room c.has_room).paths_differ ∙ ap (λ (b : List ℕ). Some b) bytes } in
              let there : slice_get t.0.rooms f.room ≡ Some c.new = ap (λ (x : Tree). slice_get x.rooms f.room) c.gives ∙ changed_room sound.shape.tree f.room c.room c.new c.has_room in
              let trees : now.shape.tree ≡ t.0 = one_tree now.shape.tree t.0 event.after.store.tree now.shape.told t.1 in
              of_flat f room (next_moment m event) now c.new (is_flat.its f is.found is.owned) is.is (ap (λ (x : Tree). slice_get x.rooms f.room) trees ∙ there) has
        ]
  ]

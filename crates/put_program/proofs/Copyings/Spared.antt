-- What calls leave of a container that land nothing there but of one writer, put no truncate, and give no container another name.
use Rattle.std.proofs.Common.{◌≡◌, ◌⊎◌, inl, inr, ℕ, List, [], ◌∷◌, take, get_or, Some, refl, sym, ap, ◌∙◌, arith}
use Rattle.std.specs.Prelude.{slice_get}
use Rattle.std.specs.List.{AllByRecursion}
use Rattle.std.proofs.lemmas.Bool.{cases_eq}
use Rattle.container_layout.specs.declared.items.Item.TheVariants.{Trunc}
use Rattle.container_layout.specs.Items.{IsItem}
use Rattle.container_layout.proofs.Facts.{elsewhere, same_items}
use Rattle.store_api.specs.Step.{Step, find_room, length_of, list_folder, read_at, rooms}
use Rattle.store_api.specs.declared.tree.Room.{Room}
use Rattle.store_api.specs.declared.tree.Tree.{Tree}
use Rattle.store_laws.specs.Files.{file_at}
use Rattle.store_laws.specs.Naming.{NamesFile, NamesRoom}
use Rattle.store_laws.specs.Outcomes.{IsLook}
use Rattle.store_laws.proofs.Facts.{keeps_rooms, path_eq}
use Rattle.mount_model.specs.declared.call.Call.{Call}
use Rattle.mount_model.specs.declared.call.Call.TheVariants.{Flush, Mark, Move, Write}
use Rattle.mount_model.specs.declared.reply.Reply.{Reply}
use Rattle.mount_model.specs.declared.row.Flattening.{Flattening}
use Rattle.mount_model.specs.Entering.{next_id}
use Rattle.mount_model.specs.History.{Event}
use Rattle.mount_model.specs.Paths.{Name, installed, temporary, trunc_path}
use Rattle.mount_model.specs.State.{State}
use Rattle.store_laws.specs.Naming.{IsPathOf}
use Rattle.mount_sound.specs.Issued.{issued_after}
use Rattle.mount_sound.specs.Ledger.{Ledger}
use Rattle.mount_sound.specs.Owed.{IsLawful}
use Rattle.mount_sound.proofs.Facts.{OfEachAct, step_acts, take_all, trunc_no_flattenings}
use Rattle.reader_laws.specs.Bounds.{AllSpareIndex, SparesIndex}
use Rattle.reader_laws.specs.Moments.{Dropping, HadTrunc, IsNamed, IsSoundAt, Moment, file_in_room, file_told, issued_by, landed, landed_by, moment_after, next_moment}
use Rattle.reader_laws.proofs.Gathered.Facts.{grows_after, sound_after}
use Rattle.reader_laws.proofs.Gathered.Logs.Fronts.{landed_stay}
use Rattle.reader_laws.proofs.Gathered.Moments.Stepping.{lands_none_next}

-- ---- calls

-- it lands nothing but of this writer
abbrev pub LandsOnly : ℕ → Call → Type 0
LandsOnly writer (Flush other) = other ≡ writer
LandsOnly writer call = Unit {0}

-- it puts no truncate
abbrev pub MarksNone : Call → Type 0
MarksNone (Mark holder size top) = ⊥
MarksNone call = Unit {0}

-- it gives no container another name
abbrev pub MovesNone : Call → Type 0
MovesNone (Move holder to) = ⊥
MovesNone call = Unit {0}

-- it issues no write
abbrev pub IssuesNone : Call → Type 0
IssuesNone (Write writer at block) = ⊥
IssuesNone call = Unit {0}

-- ---- what their acts name

-- the act names no truncate
abbrev LeavesTruncs : Step → Type 0
LeavesTruncs step = (n stamp size : ℕ) → NamesFile step n (trunc_path stamp size) → ⊥

-- nor a container
abbrev LeavesNames : Step → Type 0
LeavesNames step = (n : ℕ) → NamesRoom step n → ⊥

-- or one truncate alone
abbrev NamesOne : Step → Type 0
NamesOne step = (n a b c d : ℕ) → NamesFile step n (trunc_path a b) → NamesFile step n (trunc_path c d) → trunc_path a b ≡ trunc_path c d

abbrev Spares : Call → Step → Type 0
Spares call step = (LeavesTruncs step ⊎ ((MarksNone call → ⊥) × NamesOne step)) × (MovesNone call → LeavesNames step)

first_byte : (a b : Name) → a ≡ b → get_or a 0 0 ≡ get_or b 0 0
first_byte a b e = ap (λ (n : Name). get_or n 0 0) e

pub no_flattening : (f : Flattening) (stamp size : ℕ) → IsPathOf (temporary f).folder (temporary f).file (trunc_path stamp size) ⊎ IsPathOf (temporary f).folder (installed f).file (trunc_path stamp size) → ⊥
no_flattening f stamp size (inl from) = (trunc_no_flattenings stamp size).from f from
no_flattening f stamp size (inr to) = (trunc_no_flattenings stamp size).to f to

look_spares : (call : Call) (step : Step) → IsLook step → Spares call step
look_spares call rooms look = (inl (λ n stamp size names. names), λ _ n names. names)
look_spares call (find_room name) look = (inl (λ n stamp size names. names), λ _ n names. names)
look_spares call (list_folder k folder) look = (inl (λ n stamp size names. names), λ _ n names. names)
look_spares call (length_of k folder file) look = (inl (λ n stamp size names. names), λ _ n names. names)
look_spares call (read_at k folder file at len) look = (inl (λ n stamp size names. names), λ _ n names. names)
look_spares call step look = absurd look

each_spares : (old : State) (caller : ℕ) → OfEachAct old.table (next_id old) caller Spares
each_spares old caller = record {
  looks = look_spares;
  rooms = λ name. (inl (λ n stamp size names. names), λ _ n names. names);
  enters = λ room host most. (inl (λ n stamp size names. elsewhere (first_byte _ _ names.1.0) refl), λ _ n names. names);
  hostdirs = λ writer row. (inl (λ n stamp size names. names), λ _ n names. names);
  indices = λ writer row held. (inl (λ n stamp size names. elsewhere (first_byte _ _ names.1.0) refl), λ _ n names. names);
  logs = λ writer row held. (inl (λ n stamp size names. elsewhere (first_byte _ _ names.1.0) refl), λ _ n names. names);
  writes = λ writer row held at bytes. (inl (λ n stamp size names. elsewhere (first_byte _ _ names.1.0) refl), λ _ n names. names);
  flushes = λ writer row held. (inl (λ n stamp size names. elsewhere (first_byte _ _ names.1.0) refl), λ _ n names. names);
  log_syncs = λ writer row. (inl (λ n stamp size names. names), λ _ n names. names);
  index_syncs = λ writer row. (inl (λ n stamp size names. names), λ _ n names. names);
  metas = λ writer row. (inl (λ n stamp size names. elsewhere (first_byte _ _ names.1.0) refl), λ _ n names. names);
  exits = λ writer row held. (inl (λ n stamp size names. elsewhere (first_byte _ _ names.1.0) refl), λ _ n names. names);
  holds = λ room. (inl (λ n stamp size names. names), λ _ n names. names);
  truncates = λ holder h held stamp size top item above. (inr (λ marks. marks, λ n a b c d one other. path_eq (trunc_path a b) (trunc_path c d) (one.1.0 ∙ sym other.1.0) (one.1.1 ∙ sym other.1.1)), λ _ n names. names);
  renames = λ holder h held to. (inl (λ n stamp size names. names), λ moves n names. moves);
  releases = λ holder h held. (inl (λ n stamp size names. names), λ _ n names. names);
  starts = λ room f makes. (inl (λ n stamp size names. (trunc_no_flattenings stamp size).from f names.1), λ _ n names. names);
  puts = λ flat f held bytes. (inl (λ n stamp size names. (trunc_no_flattenings stamp size).from f names.1), λ _ n names. names);
  flat_syncs = λ flat f held. (inl (λ n stamp size names. names), λ _ n names. names);
  installs = λ flat f held. (inl (λ n stamp size names. no_flattening f stamp size names.1), λ _ n names. names);
  packs = λ room host writer f makes numbers. (inl (λ n stamp size names. (trunc_no_flattenings stamp size).from f names.1), λ _ n names. names);
  dropping_syncs = λ room host writer is_log numbers. (inl (λ n stamp size names. names), λ _ n names. names);
  mends = λ room host writer count numbers. (inl (λ n stamp size names. elsewhere (first_byte _ _ names.1.0) refl), λ _ n names. names);
  mend_metas = λ room host cover last numbers. (inl (λ n stamp size names. elsewhere (first_byte _ _ names.1.0) refl), λ _ n names. names);
  buries = λ room host writer numbers. (inl (λ n stamp size names. elsewhere (first_byte _ _ names.1.0) refl), λ _ n names. names);
  mend_holds = λ room. (inl (λ n stamp size names. names), λ _ n names. names);
}

-- ---- a container

-- the container of this number is there, with this name
pub record HasContainer (m : Moment) (number : ℕ) (name : Name) : Type 0 where
  pub tree : Tree
  pub told : m.state.store.tree ≡ Some tree
  pub room : Room
  pub there : slice_get tree.rooms number ≡ Some room
  pub is : room.name ≡ name

-- behind a call it is there, with the truncates that it had and one more at most
pub record StaysNext (m : Moment) (event : Event) (number : ℕ) (name : Name) : Type 0 where
  pub named : MovesNone event.ask.call → HasContainer (next_moment m event) number name
  pub truncates : MarksNone event.ask.call → (stamp size : ℕ) → HadTrunc (next_moment m event) number stamp size → HadTrunc m number stamp size
  pub one_more : (a b c d : ℕ) → (HadTrunc m number a b → ⊥) → (HadTrunc m number c d → ⊥) → HadTrunc (next_moment m event) number a b → HadTrunc (next_moment m event) number c d → a ≡ c

one_stamp : (a b c d : ℕ) → IsItem (Trunc a b) → IsItem (Trunc c d) → trunc_path a b ≡ trunc_path c d → a ≡ c
one_stamp a b c d one other same = (let is : Trunc a b ≡ Trunc c d = same_items (Trunc a b) (Trunc c d) one other same in cc)

marks_not : (call : Call) (step : Step) → MarksNone call → LeavesTruncs step ⊎ ((MarksNone call → ⊥) × NamesOne step) → LeavesTruncs step
marks_not call step none (inl leaves) = leaves
marks_not call step none (inr (marks, one)) = absurd (marks none)

pub stays_next : (m : Moment) (event : Event) (number : ℕ) (name : Name) → IsLawful m.state (event ∷ []) → HasContainer m number name → StaysNext m event number name
stays_next m event number name lawful c =
    let g = step_acts Spares m.state event.after event.caller event.ask event.reply c.tree (each_spares m.state event.caller) lawful.1 c.told in
    elim g.2 as (λ _. StaysNext m event number name) [
      | inl same ↦
          let there : slice_get g.0.rooms number ≡ Some c.room = ap (λ (t : Tree). slice_get t.rooms number) same ∙ c.there in
          record {
            named = λ _. record { tree = g.0; told = g.1; room = c.room; there = there; is = c.is };
            truncates = λ _ stamp size now. had g.0 g.1 c.room there stamp size refl now;
            one_more = λ a b x y none other now then. absurd (none (had g.0 g.1 c.room there a b refl now));
          }
      | inr a ↦
          let k = keeps_rooms a.step c.tree a.told g.0 a.tells number c.room c.there in
          record {
            named = λ moves. record { tree = g.0; told = g.1; room = k.0; there = k.1; is = k.2.name (a.holds.1 moves number) ∙ c.is };
            truncates = λ marks stamp size now. had g.0 g.1 k.0 k.1 stamp size (k.2.files (trunc_path stamp size) (marks_not event.ask.call a.step marks a.holds.0 number stamp size)) now;
            one_more = λ p q x y none other now then.
                let came : (stamp size : ℕ) → (HadTrunc m number stamp size → ⊥) → HadTrunc next number stamp size → (NamesFile a.step number (trunc_path stamp size) → ⊥) → ⊥ = λ stamp size before after spares. before (had g.0 g.1 k.0 k.1 stamp size (k.2.files (trunc_path stamp size) spares) after) in
                elim (cases_eq p x) as (λ _. p ≡ x) [
                  | inl same ↦ same
                  | inr differ ↦ absurd (came p q none now (λ one. came x y other then (λ two. differ (one_stamp p q x y now.is_item then.is_item (named_one a.step p q x y a.holds.0 one two)))))
                ];
          }
    ]
  where
    next : Moment
    next = next_moment m event

    had : (after : Tree) → event.after.store.tree ≡ Some after → (room : Room) → slice_get after.rooms number ≡ Some room → (stamp size : ℕ) → file_at room (trunc_path stamp size) ≡ file_at c.room (trunc_path stamp size) → HadTrunc next number stamp size → HadTrunc m number stamp size
    had after told room there stamp size same now = record {
      is_item = now.is_item;
      bytes = now.bytes;
      there = ap (λ o. file_told o number (trunc_path stamp size)) c.told ∙ ap (λ o. file_in_room o (trunc_path stamp size)) c.there ∙ sym same
          ∙ sym (ap (λ o. file_told o number (trunc_path stamp size)) told ∙ ap (λ o. file_in_room o (trunc_path stamp size)) there) ∙ now.there;
    }

    named_one : (step : Step) (p q x y : ℕ) → LeavesTruncs step ⊎ ((MarksNone event.ask.call → ⊥) × NamesOne step) → NamesFile step number (trunc_path p q) → NamesFile step number (trunc_path x y) → trunc_path p q ≡ trunc_path x y
    named_one step p q x y (inl leaves) one two = absurd (leaves number p q one)
    named_one step p q x y (inr (marks, only)) one two = only number p q x y one two

pub named_later : (m : Moment) (events : List Event) (number : ℕ) (name : Name) → IsLawful m.state events → AllByRecursion (λ (e : Event). MovesNone e.ask.call) events → HasContainer m number name → HasContainer (moment_after m events) number name
named_later m [] number name lawful moves c = c
named_later m (e ∷ events) number name lawful moves c =
    named_later (next_moment m e) events number name lawful.2 moves.1 ((stays_next m e number name (lawful.0, lawful.1, tt) c).named moves.0)

-- ---- what others have landed, and the truncates

-- From the one moment to the other nothing but of this writer has landed in the container, and no truncate has come.
pub record LetsOthersBe (m to : Moment) (number writer : ℕ) : Type 0 where
  pub landed : (d : Dropping) → IsNamed d → d.room ≡ number → (d.writer ≡ writer → ⊥) → landed_by to d ≡ landed_by m d
  pub truncates : (stamp size : ℕ) → HadTrunc to number stamp size → HadTrunc m number stamp size

pub lets_none : (m : Moment) (number writer : ℕ) → LetsOthersBe m m number writer
lets_none m number writer = record { landed = λ d named its other. refl; truncates = λ stamp size had. had }

pub lets_both : (a b c : Moment) (number writer : ℕ) → LetsOthersBe a b number writer → LetsOthersBe b c number writer → LetsOthersBe a c number writer
lets_both a b c number writer one two = record {
  landed = λ d named its other. two.landed d named its other ∙ one.landed d named its other;
  truncates = λ stamp size had. one.truncates stamp size (two.truncates stamp size had);
}

spared : (call : Call) (writer : ℕ) (d : Dropping) → LandsOnly writer call → (d.writer ≡ writer → ⊥) → SparesIndex call d
spared (Flush other) writer d lands apart = λ same. apart (sym same ∙ lands)
spared call writer d lands apart = tt

landed_next : (m : Moment) (e : Event) (d : Dropping) → IsSoundAt m → IsLawful m.state (e ∷ []) → IsNamed d → SparesIndex e.ask.call d → landed_by (next_moment m e) d ≡ landed_by m d
landed_next m e d sound lawful named spares =
    let next : Moment = next_moment m e in
    let count : landed next d ≡ landed m d = lands_none_next m e [] d named lawful sound spares in
    let front : landed_by m d ≡ take (landed m d) (landed_by next d) = landed_stay m next sound (sound_after m (e ∷ []) lawful sound) d named (grows_after m (e ∷ []) lawful sound) in
    sym (front ∙ take_all (landed_by next d) (landed m d) (omega (arith, count)))

pub landed_same : (m : Moment) (events : List Event) (d : Dropping) → IsSoundAt m → IsLawful m.state events → IsNamed d → AllSpareIndex events d → landed_by (moment_after m events) d ≡ landed_by m d
landed_same m [] d sound lawful named spares = refl
landed_same m (e ∷ events) d sound lawful named spares =
    let one : IsLawful m.state (e ∷ []) = (lawful.0, lawful.1, tt) in
    landed_same (next_moment m e) events d (sound_after m (e ∷ []) one sound) lawful.2 named spares.1 ∙ landed_next m e d sound one named spares.0

pub all_spared : (writer : ℕ) (d : Dropping) (events : List Event) → (d.writer ≡ writer → ⊥) → AllByRecursion (λ (e : Event). LandsOnly writer e.ask.call) events → AllSpareIndex events d
all_spared writer d [] apart lands = tt
all_spared writer d (e ∷ events) apart lands = (spared e.ask.call writer d lands.0 apart, all_spared writer d events apart lands.1)

-- the calls land nothing but of this writer, and put no truncate
abbrev pub AllSpare : ℕ → List Event → Type 0
AllSpare writer events = AllByRecursion (λ (e : Event). LandsOnly writer e.ask.call × MarksNone e.ask.call × MovesNone e.ask.call) events

pub lets_events : (m : Moment) (events : List Event) (number writer : ℕ) (name : Name) → IsSoundAt m → IsLawful m.state events → AllSpare writer events → HasContainer m number name → LetsOthersBe m (moment_after m events) number writer × HasContainer (moment_after m events) number name
lets_events m [] number writer name sound lawful all c = (lets_none m number writer, c)
lets_events m (e ∷ events) number writer name sound lawful all c =
    let next : Moment = next_moment m e in
    let one : IsLawful m.state (e ∷ []) = (lawful.0, lawful.1, tt) in
    let s = stays_next m e number name one c in
    let first : LetsOthersBe m next number writer = record {
      landed = λ d named its other. landed_next m e d sound one named (spared e.ask.call writer d all.0.0 other);
      truncates = s.truncates all.0.1;
    } in
    let rest = lets_events next events number writer name (sound_after m (e ∷ []) one sound) lawful.2 all.1 (s.named all.0.2) in
    (lets_both m next (moment_after next events) number writer first rest.0, rest.1)

-- ---- what is issued

none_issued : (before : Ledger) (old : State) (call : Call) (reply : Reply) (room writer : ℕ) → IssuesNone call → issued_after before old call reply room writer ≡ before room writer
none_issued before old (Write id at block) reply room writer none = absurd none
none_issued before old call reply room writer none = refl

pub issued_same : (m : Moment) (events : List Event) (d : Dropping) → AllByRecursion (λ (e : Event). IssuesNone e.ask.call) events → issued_by (moment_after m events) d ≡ issued_by m d
issued_same m [] d none = refl
issued_same m (e ∷ events) d none = issued_same (next_moment m e) events d none.1 ∙ none_issued m.issued m.state e.ask.call e.reply d.room d.writer none.0

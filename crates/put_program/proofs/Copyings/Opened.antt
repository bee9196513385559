-- What stands beside a writer that was opened where the name was free, or where its container was cut to nothing.
use Rattle.std.proofs.Common.{◌≡◌, ◌⊎◌, inl, inr, ℕ, zero, suc, ◌<◌, ◌≤◌, List, [], ◌∷◌, ◌++◌, length, Option, Some, None, Ok, Err, refl, sym, ap, ◌∙◌, subst, arith}
use Rattle.std.specs.Prelude.{slice_get}
use Rattle.std.specs.List.{AllByRecursion}
use Rattle.std.proofs.lemmas.Bool.{cases_eq, cases_lt}
use Rattle.std.proofs.lemmas.List.Elements.{recursion_from_All}
use Rattle.plfs_types.specs.declared.entries.Entry.{Entry}
use Rattle.container_layout.specs.declared.items.Item.TheVariants.{Index, Trunc}
use Rattle.store_api.specs.declared.step.Answer.TheVariants.{Number, Old}
use Rattle.store_api.specs.declared.store.Trouble.TheVariants as trouble_of
use Rattle.store_api.specs.declared.tree.Room.{Room}
use Rattle.store_api.specs.declared.tree.Tree.{Tree}
use Rattle.store_api.specs.Step.{make_room}
use Rattle.store_laws.specs.Changes.{RoomMade}
use Rattle.store_laws.specs.Outcomes.{MadeOrNot}
use Rattle.store_laws.specs.Says.{WhyNoRoomMade}
use Rattle.store_laws.specs.There.{IsRoomOf}
use Rattle.store_laws.proofs.Facts.{acts_told, added_room, each_with_added, make_room_told}
use Rattle.mount_model.specs.declared.call.Call.TheVariants.{Greet, MakeContainer}
use Rattle.mount_model.specs.declared.call.Call.{Call}
use Rattle.mount_model.specs.declared.reply.Reply.{Reply}
use Rattle.mount_model.specs.declared.reply.Reply.TheVariants as reply
use Rattle.mount_model.specs.Finding.{make_outcome}
use Rattle.mount_model.specs.History.{Event, state_after}
use Rattle.mount_model.specs.Making.{Told}
use Rattle.mount_model.specs.Paths.{Name, index_path, log_path, new_files, new_folders, trunc_path}
use Rattle.mount_model.specs.State.{State, Table}
use Rattle.mount_sound.specs.Dropping.{bytes_of}
use Rattle.mount_sound.specs.Ledger.{Written}
use Rattle.mount_sound.specs.Owed.{IsLawful}
use Rattle.mount_sound.specs.There.{entries_there}
use Rattle.mount_sound.proofs.Facts.{IsBare, hostdir_below, made_bare, one_tree}
use Rattle.mount_model.specs.Program.{Program}
use Rattle.mount_model.specs.Running.{Runs, unbroken}
use Rattle.mount_model.proofs.Flows.Facts.{runs_next}
use Rattle.writer_flow.specs.declared.handle.WriterHandle.{WriterHandle}
use Rattle.writer_flow.specs.Opening.{if_made, open_program}
use Rattle.writer_laws.specs.Knowing.{HasRow}
use Rattle.writer_laws.proofs.Facts.{EnteredBy, entered_by}
use Rattle.reader_laws.specs.Moments.{Dropping, HadTrunc, IsNamed, IsSoundAt, Moment, file_in_room, file_told, index_then, issued_by, landed_by, log_then, moment_after, next_moment}
use Rattle.reader_laws.proofs.Gathered.Facts.{follows, sound_after}
use Rattle.reader_laws.proofs.Gathered.Moments.Bounds.{trunc_stays}
use Rattle.reader_laws.proofs.Facts.{answered}
use Rattle.headline_laws.specs.Changing.{IsFreeName, IssuesAbove}
use Rattle.packing_laws.proofs.Facts.{Comes, HasWritten, IsMade, comes_both}
use Rattle.put_program.specs.Shown.{HasNothingElse, IsAllHidden, ShowsOnly}
use Rattle.put_program.proofs.Copyings.Asked.{Asks, Enters, MakesNone, Spares, all_asked, made_asks}
use Rattle.put_program.proofs.Copyings.Cleared.{Emptied, all_rest, container_of}
use Rattle.put_program.proofs.Copyings.Spared.{AllSpare, HasContainer, LandsOnly, LetsOthersBe, MarksNone, MovesNone, lets_events, named_later}

-- ---- what stands beside a writer

-- A truncate to nothing stands in its container. It is newer than all that other writers have landed, and no older than each truncate. Whatever is issued from
-- some moment on is newer, and the writer had issued nothing until then.
pub record IsCovered (m : Moment) (d : Dropping) : Type 0 where
  pub stamp : ℕ
  pub stands : HadTrunc m d.room stamp 0
  pub older : (other : Dropping) → IsNamed other → other.room ≡ d.room → (other.writer ≡ d.writer → ⊥) → AllByRecursion (λ (e : Entry). e.stamp < stamp) (landed_by m other)
  pub newest : (earlier size : ℕ) → HadTrunc m d.room earlier size → earlier ≤ stamp
  pub once : Moment
  pub once_on : Comes once m
  pub below : IssuesAbove once d.room stamp
  pub none_yet : issued_by once d ≡ []

pub record Beside (m : Moment) (d : Dropping) : Type 0 where
  pub name : Name
  pub container : HasContainer m d.room name
  pub others : HasNothingElse m d ⊎ IsCovered m d

-- it stands so at a later moment, as far as others let it be
others_later : (m to : Moment) (d : Dropping) → IsSoundAt m → Comes m to → LetsOthersBe m to d.room d.writer → HasNothingElse m d ⊎ IsCovered m d → HasNothingElse to d ⊎ IsCovered to d
others_later m to d sound comes lets (inl nothing) = inl (record {
  none_landed = λ other named its apart. lets.landed other named its apart ∙ nothing.none_landed other named its apart;
  no_truncates = λ stamp size had. nothing.no_truncates stamp size (lets.truncates stamp size had);
})
others_later m to d sound comes lets (inr covered) = inr (record {
  stamp = covered.stamp;
  stands = subst (λ x. HadTrunc x d.room covered.stamp 0) comes.ends (trunc_stays m comes.events d.room covered.stamp 0 comes.lawful sound covered.stands);
  older = λ other named its apart. subst (AllByRecursion (λ (e : Entry). e.stamp < covered.stamp)) (sym (lets.landed other named its apart)) (covered.older other named its apart);
  newest = λ earlier size had. covered.newest earlier size (lets.truncates earlier size had);
  once = covered.once;
  once_on = comes_both covered.once m to covered.once_on comes;
  below = covered.below;
  none_yet = covered.none_yet;
})

pub beside_later : (m : Moment) (events : List Event) (d : Dropping) → IsSoundAt m → IsLawful m.state events → AllSpare d.writer events → Beside m d → Beside (moment_after m events) d
beside_later m events d sound lawful all b =
    let lets = lets_events m events d.room d.writer b.name sound lawful all b.container in
    record { name = b.name; container = lets.1; others = others_later m (moment_after m events) d sound (record { events = events; lawful = lawful; ends = refl }) lets.0 b.others }

-- a moment in the same state shows the same
module _ (x y : Moment) (same : x.state ≡ y.state) where
  same_tree : y.state.store.tree ≡ x.state.store.tree
  same_tree = ap (λ (s : State). s.store.tree) (sym same)

  same_container : (number : ℕ) (name : Name) → HasContainer x number name → HasContainer y number name
  same_container number name c = record { tree = c.tree; told = same_tree ∙ c.told; room = c.room; there = c.there; is = c.is }

  same_lets : (m : Moment) (number writer : ℕ) → LetsOthersBe m x number writer → LetsOthersBe m y number writer
  same_lets m number writer lets = record {
    landed = λ d named its apart. ap (λ t. entries_there (bytes_of (file_told t d.room (index_path d.host d.writer))) (bytes_of (file_told t d.room (log_path d.host d.writer)))) same_tree ∙ lets.landed d named its apart;
    truncates = λ stamp size had. lets.truncates stamp size (record { is_item = had.is_item; bytes = had.bytes; there = ap (λ t. file_told t number (trunc_path stamp size)) (sym same_tree) ∙ had.there });
  }

-- a greeting changes nothing
pub greeted : (m : Moment) (event : Event) (rest : List Event) → IsLawful m.state (event ∷ rest) → event.ask ≡ unbroken Greet → event.after ≡ m.state
greeted m event rest lawful asks = (answered m.state event.caller Greet event.ask event.reply event.after asks lawful.1).1

-- the calls of a program that spares it
pub program_spares : {R : Type 0} (program : Program Call Reply R) (m : Moment) (result : R) (end : State) (w : ℕ) → (b : IsMade program m result end) → Asks (Spares w) program → AllSpare w (b.greeting ∷ b.events)
program_spares program m result end w b asks = (subst (λ a. Spares w a.call) (sym b.asks) (tt, tt, tt), all_asked (Spares w) program b.events result asks b.alone b.runs)

pub beside_made : {R : Type 0} (program : Program Call Reply R) (m to : Moment) (result : R) (end : State) (d : Dropping) → IsSoundAt m → (b : IsMade program m result end) → Asks (Spares d.writer) program → Comes m to → to.state ≡ end → Beside m d → Beside to d
beside_made program m to result end d sound b asks comes at beside =
    let x : Moment = moment_after m (b.greeting ∷ b.events) in
    let same : x.state ≡ to.state = (follows m (b.greeting ∷ b.events)).0 ∙ b.ends ∙ sym at in
    let lets = lets_events m (b.greeting ∷ b.events) d.room d.writer beside.name sound b.lawful (program_spares program m result end d.writer b asks) beside.container in
    record {
      name = beside.name;
      container = same_container x to same d.room beside.name lets.1;
      others = others_later m to d sound comes (same_lets x to same m d.room d.writer lets.0) beside.others;
    }

-- so the writes that it has issued show alone
pub shows_only : (m : Moment) (d : Dropping) (writes : List Written) → issued_by m d ≡ writes → Beside m d → ShowsOnly m d writes
shows_only m d writes issued b = record {
  issued = issued;
  others = elim b.others as (λ _. HasNothingElse m d ⊎ IsAllHidden m d writes) [
    | inl nothing ↦ inl nothing
    | inr c ↦
        let more = c.below c.once_on.events d.writer c.once_on.lawful in
        let all : writes ≡ more.0 = sym issued ∙ ap (λ (x : Moment). issued_by x d) (sym c.once_on.ends) ∙ more.1 ∙ ap (λ (ws : List Written). ws ++ more.0) c.none_yet in
        inr (record {
          stamp = c.stamp;
          stands = c.stands;
          older = c.older;
          newest = c.newest;
          newer = subst (AllByRecursion (λ (w : Written). c.stamp < w.entry.stamp)) (sym all) (recursion_from_All (λ (w : Written). c.stamp < w.entry.stamp) more.0 more.2);
        })
  ];
}

-- ---- the container of a name

-- it was made, or was there
abbrev MadeAs : Tree → Tree → Name → ℕ → Type 0
MadeAs tree after name room = ((room ≡ length tree.rooms) × RoomMade tree name new_folders new_files after) ⊎ (IsRoomOf tree name room × (after ≡ tree))

made_as : (tree after : Tree) (name : Name) (told : Told) (table : Table) (room : ℕ) → reply.Room room ≡ (make_outcome table told).reply → MadeOrNot tree (Number (length tree.rooms)) (RoomMade tree name new_folders new_files) (WhyNoRoomMade tree name) told after → MadeAs tree after name room
made_as tree after name (Ok (Number n)) table room e m =
    let same : n ≡ room = cc in
    elim (cases_eq n (length tree.rooms)) as (λ _. MadeAs tree after name room) [
      | inl last ↦ inl (sym same ∙ last, m.done (ap (λ k. Ok (Number k)) last))
      | inr other ↦ absurd (m.stays (Number n) refl (λ is. other (number_is n (length tree.rooms) is))).1
    ]
  where
    number_is : (a b : ℕ) → Number a ≡ Number b → a ≡ b
    number_is a b is = cc
made_as tree after name (Ok (Old n)) table room e m =
    let same : n ≡ room = cc in
    let s = m.stays (Old n) refl (λ is. cc) in
    inr (subst (IsRoomOf tree name) same s.1, s.0)
made_as tree after name (Ok answer) table room e m = absurd (cc)
made_as tree after name (Err trouble_of.Fault) table room e m = absurd (cc)
made_as tree after name (Err trouble_of.NoMemory) table room e m = absurd (cc)

-- a container that is the first of a name, and stays, is the one that is found later
one_container : (a b : Moment) (name : Name) (n k : ℕ) (was now : Tree) → a.state.store.tree ≡ Some was → b.state.store.tree ≡ Some now → ((number : ℕ) (x : Name) → HasContainer a number x → HasContainer b number x) → IsRoomOf was name n → IsRoomOf now name k → n ≡ k
one_container a b name n k was now was_told now_told stays first later = elim (cases_eq n k) as (λ _. n ≡ k) [
  | inl same ↦ same
  | inr differ ↦ elim (cases_lt n k) as (λ _. n ≡ k) [
    | inl below ↦
        let c : HasContainer b n name = stays n name (record { tree = was; told = was_told; room = first.room; there = first.has_room; is = first.named }) in
        absurd (later.first n c.room below (ap (λ (t : Tree). slice_get t.rooms n) (one_tree now c.tree b.state.store.tree now_told c.told) ∙ c.there) c.is)
    | inr above ↦
        let less : k < n = omega (arith, above, differ) in
        let r = item_below was.rooms n k first.room less first.has_room in
        let c : HasContainer b k r.0.name = stays k r.0.name (record { tree = was; told = was_told; room = r.0; there = r.1; is = refl }) in
        let both : Some c.room ≡ Some later.room = sym (ap (λ (t : Tree). slice_get t.rooms k) (one_tree now c.tree b.state.store.tree now_told c.told) ∙ c.there) ∙ later.has_room in
        let one : c.room ≡ later.room = cc in
        absurd (first.first k r.0 less r.1 (sym c.is ∙ ap (λ (x : Room). x.name) one ∙ later.named))
  ]
]
  where
    item_below : (rooms : List Room) (i j : ℕ) (room : Room) → j < i → slice_get rooms i ≡ Some room → (r : Room) × (slice_get rooms j ≡ Some r)
    item_below [] i j room less there = absurd (cc)
    item_below (r ∷ rooms) i zero room less there = (r, refl)
    item_below (r ∷ rooms) zero (suc j) room less there = absurd (omega (arith, less))
    item_below (r ∷ rooms) (suc i) (suc j) room less there = item_below rooms i j room (omega (arith, less)) there

-- ---- the first call of an opening

module _ (g : Moment) (sound : IsSoundAt g) (name : Name) (host : ℕ) (handle : WriterHandle) (e : Event) (es : List Event) (lawful : IsLawful g.state (e ∷ es)) (own : AllByRecursion (λ (x : Event). x.caller ≡ 0) es)
    (asks : e.ask ≡ unbroken (MakeContainer name)) (on : Runs 0 (if_made host 1 e.reply) es (Ok handle)) (d : Dropping) (mine : handle.writer ≡ d.writer) (told : e.reply ≡ reply.Room d.room) where
  abbrev mk : Moment
  mk = next_moment g e

  one : IsLawful g.state (e ∷ [])
  one = (lawful.0, lawful.1, tt)

  sound_mk : IsSoundAt mk
  sound_mk = sound_after g (e ∷ []) one sound

  abbrev tree : Tree
  tree = sound.shape.tree

  made : (after : Tree) × (e.after.store.tree ≡ Some after) × MadeAs tree after name d.room
  made =
      let a = (answered g.state e.caller (MakeContainer name) e.ask e.reply e.after asks lawful.1).makes in
      let t = acts_told (make_room name new_folders new_files) g.state.store e.after.store tree a.told sound.shape.told a.made in
      (t.0, t.1, made_as tree t.0 name a.told g.state.table d.room (sym told ∙ a.answered) (make_room_told name new_folders new_files tree a.told t.0 t.2))

  later_spares : AllSpare d.writer es
  later_spares = spares es (all_asked (Enters d.writer) (if_made host 1 e.reply) es (Ok handle) (made_asks d.writer host 1 e.reply) own on)
    where
      spares : (xs : List Event) → AllByRecursion (λ (x : Event). Enters d.writer x.ask.call) xs → AllSpare d.writer xs
      spares [] all = tt
      spares (x ∷ xs) all = (all.0.0, spares xs all.1)

  -- a container that was made has nothing
  new_container : (after : Tree) → e.after.store.tree ≡ Some after → (d.room ≡ length tree.rooms) → RoomMade tree name new_folders new_files after → Beside mk d
  new_container after has last r = record {
    name = name;
    container = record { tree = after; told = has; room = r.new; there = there; is = r.named };
    others = inl (record {
      none_landed = λ other named its apart.
          let absent : index_then mk other ≡ None = ap (λ o. file_told o other.room (index_path other.host other.writer)) has ∙ ap (λ o. file_in_room o (index_path other.host other.writer)) (ap (λ n. slice_get after.rooms n) its ∙ there) ∙ bare.none (Index other.host other.writer) (hostdir_below other.host) in
          ap (λ o. entries_there (bytes_of o) (bytes_of (log_then mk other))) absent;
      no_truncates = λ stamp size had.
          no_file (file_told mk.state.store.tree d.room (trunc_path stamp size)) had.bytes (ap (λ o. file_told o d.room (trunc_path stamp size)) has ∙ ap (λ o. file_in_room o (trunc_path stamp size)) there ∙ bare.none (Trunc stamp size) refl) had.there;
    });
  }
    where
      bare : IsBare r.new
      bare = made_bare tree name new_folders new_files after r

      there : slice_get after.rooms d.room ≡ Some r.new
      there = ap (λ (t : Tree). slice_get t.rooms d.room) r.gives ∙ ap (λ n. slice_get (tree.rooms ++ r.new ∷ []) n) last ∙ added_room tree r.new

      no_file : (o : Option (List ℕ)) (bytes : List ℕ) → o ≡ None → o ≡ Some bytes → ⊥
      no_file o bytes none some = cc

  pub beside_new : IsFreeName g name → Beside (moment_after mk es) d
  beside_new free = beside_later mk es d sound_mk lawful.2 later_spares (by made.2)
    where
      by : MadeAs tree made.0 name d.room → Beside mk d
      by (inl (last, r)) = new_container made.0 made.1 last r
      by (inr (is, same)) = absurd (free tree sound.shape.told d.room is.room is.has_room is.named)

  -- where its container was cut to nothing, that is the one
  first_named : (after : Tree) → MadeAs tree after name d.room → IsRoomOf after name d.room
  first_named after (inl (last, r)) = record {
    room = r.new;
    has_room = ap (λ (t : Tree). slice_get t.rooms d.room) r.gives ∙ ap (λ n. slice_get (tree.rooms ++ r.new ∷ []) n) last ∙ added_room tree r.new;
    named = r.named;
    first = λ k other below there is. elim (each_with_added tree k r.new other (ap (λ (t : Tree). slice_get t.rooms k) (sym r.gives) ∙ there)) as (λ _. ⊥) [
      | inl (at, new) ↦ omega (arith, at, last, below)
      | inr (within, was) ↦ r.free k other was is
    ];
  }
  first_named after (inr (is, same)) = subst (λ t. IsRoomOf t name d.room) (sym same) is

-- ---- the opening

-- its first call makes or finds the container, and the others make none
record Begins (name : Name) (host : ℕ) (handle : WriterHandle) (events : List Event) : Type 0 where
  first : Event
  later : List Event
  only : events ≡ first ∷ later
  asks : first.ask ≡ unbroken (MakeContainer name)
  on : Runs 0 (if_made host 1 first.reply) later (Ok handle)
  own : AllByRecursion (λ (x : Event). x.caller ≡ 0) later

begins : (name : Name) (host : ℕ) (handle : WriterHandle) (events : List Event) → AllByRecursion (λ (x : Event). x.caller ≡ 0) events → Runs 0 (open_program name host 1) events (Ok handle) → Begins name host handle events
begins name host handle [] own runs = absurd runs
begins name host handle (e ∷ events) own runs = elim (runs_next 0 (MakeContainer name) (if_made host 1) e events (Ok handle) runs) as (λ _. Begins name host handle (e ∷ events)) [
  | inl (other, on) ↦ absurd (other own.0)
  | inr (mine, asks, on) ↦ record { first = e; later = events; only = refl; asks = asks; on = on; own = own.1 }
]

makes_none : (w : ℕ) (events : List Event) → AllByRecursion (λ (x : Event). Enters w x.ask.call) events → AllByRecursion (λ (x : Event). MakesNone x.ask.call) events
makes_none w [] all = tt
makes_none w (x ∷ events) all = (all.0.1, makes_none w events all.1)

making_first : (name : Name) (e : Event) (es front rest : List Event) (making : Event) → AllByRecursion (λ (x : Event). MakesNone x.ask.call) es → making.ask ≡ unbroken (MakeContainer name) → e ∷ es ≡ front ++ making ∷ rest → making ≡ e
making_first name e es [] rest making none asks is = cc
making_first name e es (x ∷ front) rest making none asks is =
    absurd (subst (λ a. MakesNone a.call) asks (all_rest (λ (y : Event). MakesNone y.ask.call) front (making ∷ rest) (subst (λ (l : List Event). AllByRecursion (λ (y : Event). MakesNone y.ask.call) l) (tails is) none)).0)
  where
    tails : e ∷ es ≡ x ∷ (front ++ making ∷ rest) → es ≡ front ++ making ∷ rest
    tails same = cc

module _ (m : Moment) (name : Name) (host : ℕ) (handle : WriterHandle) (end : State) (d : Dropping) (sound : IsSoundAt m) (b : IsMade (open_program name host 1) m (Ok handle) end) (h : HasWritten (moment_after (next_moment m b.greeting) b.events) handle d []) where
  abbrev g : Moment
  g = next_moment m b.greeting

  sound_g : IsSoundAt g
  sound_g = sound_after m (b.greeting ∷ []) (b.lawful.0, b.lawful.1, tt) sound

  p : Begins name host handle b.events
  p = begins name host handle b.events b.alone b.runs

  lawful_p : IsLawful g.state (p.first ∷ p.later)
  lawful_p = subst (λ (es : List Event). IsLawful g.state es) p.only b.lawful.2

  found_room : p.first.reply ≡ reply.Room d.room
  found_room =
      let e : EnteredBy 0 name host 1 handle.writer g.state b.events = entered_by 0 name host 1 g.state b.events (Ok handle) handle sound_g.regular b.lawful.2 b.runs refl in
      let has : HasRow 0 handle.writer h.row (state_after g.state b.events) = subst (λ s. HasRow 0 handle.writer h.row s) (follows g b.events).0 h.knows.has in
      let room : e.room ≡ d.room = sym (e.placed h.row has).0 ∙ h.room in
      let none : AllByRecursion (λ (x : Event). MakesNone x.ask.call) p.later = makes_none 0 p.later (all_asked (Enters 0) (if_made host 1 p.first.reply) p.later (Ok handle) (made_asks 0 host 1 p.first.reply) p.own p.on) in
      let same : e.making ≡ p.first = making_first name p.first p.later e.first (e.between ++ e.entering ∷ e.rest) e.making none e.makes.1 (sym p.only ∙ e.all) in
      ap (λ (x : Event). x.reply) (sym same) ∙ e.made ∙ ap reply.Room room

  -- a greeting changes nothing
  same_state : g.state ≡ m.state
  same_state = greeted m b.greeting b.events b.lawful b.asks

  free_case : IsFreeName m name → Beside (moment_after g b.events) d
  free_case free = subst (λ (es : List Event). Beside (moment_after g es) d) (sym p.only)
      (beside_new g sound_g name host handle p.first p.later lawful_p p.own p.asks p.on d h.is_writer found_room (λ tree told. free tree (ap (λ (s : State). s.store.tree) (sym same_state) ∙ told)))

  abbrev mk_moment : Moment
  mk_moment = next_moment g p.first

  greeting_moves : MovesNone b.greeting.ask.call
  greeting_moves = subst (λ a. MovesNone a.call) (sym b.asks) tt

  first_moves : MovesNone p.first.ask.call
  first_moves = subst (λ a. MovesNone a.call) (sym p.asks) tt

  then_first : IsLawful m.state (b.greeting ∷ p.first ∷ [])
  then_first = (b.lawful.0, b.lawful.1, (lawful_p.0, lawful_p.1, tt))

  -- it is another container than one with another name
  pub apart : (number : ℕ) (x : Name) → HasContainer m number x → (x ≡ name → ⊥) → d.room ≡ number → ⊥
  apart number x c other same =
      let there : HasContainer mk_moment number x = named_later m (b.greeting ∷ p.first ∷ []) number x then_first (greeting_moves, (first_moves, tt)) c in
      let q = made g sound_g name host handle p.first p.later lawful_p p.own p.asks p.on d h.is_writer found_room in
      let is : IsRoomOf q.0 name d.room = first_named g sound_g name host handle p.first p.later lawful_p p.own p.asks p.on d h.is_writer found_room q.0 q.2 in
      let both : Some there.room ≡ Some is.room = sym (ap (λ (t : Tree). slice_get t.rooms number) (one_tree q.0 there.tree mk_moment.state.store.tree q.1 there.told) ∙ there.there) ∙ ap (λ n. slice_get q.0.rooms n) (sym same) ∙ is.has_room in
      let one : there.room ≡ is.room = cc in
      other (sym there.is ∙ ap (λ (r : Room). r.name) one ∙ is.named)

  module _ (e : Emptied m name) where
    here_later : (number : ℕ) (x : Name) → HasContainer e.found number x → HasContainer m number x
    here_later number x c = subst (λ y. HasContainer y number x) e.ends (named_later e.found e.onward number x e.lawful e.moves c)

    its_room : e.room ≡ d.room
    its_room =
        let q = made g sound_g name host handle p.first p.later lawful_p p.own p.asks p.on d h.is_writer found_room in
        one_container e.found mk_moment name e.room d.room e.sound.shape.tree q.0 e.sound.shape.told q.1
        (λ number x c. named_later m (b.greeting ∷ p.first ∷ []) number x then_first (greeting_moves, (first_moves, tt)) (here_later number x c))
        (e.named e.sound.shape.tree e.sound.shape.told) (first_named g sound_g name host handle p.first p.later lawful_p p.own p.asks p.on d h.is_writer found_room q.0 q.2)

    none_before : issued_by e.once d ≡ []
    none_before =
        let on : Comes e.once (moment_after g b.events) = comes_both e.once m (moment_after g b.events) e.once_on (record { events = b.greeting ∷ b.events; lawful = b.lawful; ends = refl }) in
        let more = e.below on.events d.writer on.lawful in
        let all : [] ≡ e.once.issued e.room d.writer ++ more.0 = sym h.issued ∙ ap (λ r. (moment_after g b.events).issued r d.writer) (sym its_room) ∙ ap (λ (x : Moment). x.issued e.room d.writer) (sym on.ends) ∙ more.1 in
        ap (λ r. e.once.issued r d.writer) (sym its_room) ∙ front_none (e.once.issued e.room d.writer) more.0 all
      where
        front_none : (front rest : List Written) → [] ≡ front ++ rest → front ≡ []
        front_none [] rest is = refl
        front_none (w ∷ front) rest is = absurd (cc)

    beside_here : Beside m d
    beside_here = record {
      name = name;
      container = subst (λ r. HasContainer m r name) its_room (here_later e.room name (container_of e.found e.sound name e.room e.named));
      others = inr (record {
        stamp = e.stamp;
        stands = subst (λ r. HadTrunc m r e.stamp 0) its_room e.stands;
        older = λ other named its apart. e.older other named (its ∙ sym its_room);
        newest = λ earlier size had. e.newest earlier size (subst (λ r. HadTrunc m r earlier size) (sym its_room) had);
        once = e.once;
        once_on = e.once_on;
        below = subst (λ r. IssuesAbove e.once r e.stamp) its_room e.below;
        none_yet = none_before;
      });
    }

    emptied_case : Beside (moment_after g b.events) d
    emptied_case = subst (λ (es : List Event). Beside (moment_after g es) d) (sym p.only)
        (beside_later m (b.greeting ∷ p.first ∷ p.later) d sound (b.lawful.0, b.lawful.1, lawful_p)
        (greet_spares, (first_spares, later_spares g sound_g name host handle p.first p.later lawful_p p.own p.asks p.on d h.is_writer found_room)) beside_here)
      where
        greet_spares : LandsOnly d.writer b.greeting.ask.call × MarksNone b.greeting.ask.call × MovesNone b.greeting.ask.call
        greet_spares = subst (λ a. LandsOnly d.writer a.call × MarksNone a.call × MovesNone a.call) (sym b.asks) (tt, tt, tt)

        first_spares : LandsOnly d.writer p.first.ask.call × MarksNone p.first.ask.call × MovesNone p.first.ask.call
        first_spares = subst (λ a. LandsOnly d.writer a.call × MarksNone a.call × MovesNone a.call) (sym p.asks) (tt, tt, tt)

  pub opened_beside : IsFreeName m name ⊎ Emptied m name → Beside (moment_after (next_moment m b.greeting) b.events) d
  opened_beside (inl free) = free_case free
  opened_beside (inr e) = emptied_case e

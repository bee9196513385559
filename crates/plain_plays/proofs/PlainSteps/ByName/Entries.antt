-- Who has a room open is listed: the entries that are told are those of a plain machine's open writers, by rising id.
use Rattle.std.proofs.Common.{◌≡◌, ◌<◌, ◌++◌, ℕ, true, false, not, List, [], ◌∷◌, map, filter, Some, Ok, Err, refl, sym, ap, ◌∙◌, inl, inr, subst, arith, if◌then◌else◌}
use Rattle.std.specs.Prelude.{slice_get}
use Rattle.std.specs.List.{AllByRecursion}
use Rattle.plain_file.proofs.Facts.{All-Among, Among}
use Rattle.container_layout.specs.Paths.{openhosts}
use Rattle.store_api.specs.declared.step.Answer.TheVariants as answer
use Rattle.store_api.specs.declared.store.Trouble.TheVariants as trouble
use Rattle.store_api.specs.declared.tree.Room.{Room}
use Rattle.store_api.specs.Room.{has_folder}
use Rattle.store_laws.specs.Says.{ListTells}
use Rattle.store_laws.specs.Tells.{Tells}
use Rattle.store_laws.specs.There.{AreNamesOf, LacksFolder, ListsFolder}
use Rattle.store_laws.specs.Differ.{is_listed}
use Rattle.store_laws.proofs.Facts.{acts_told, list_tells, look_answered, ordered_differ}
use Rattle.mount_model.specs.declared.call.Call.{Call}
use Rattle.mount_model.specs.declared.call.Call.TheVariants.{Look}
use Rattle.mount_model.specs.declared.call.Look.TheVariants.{List as ListFolder}
use Rattle.mount_model.specs.declared.reply.Reply.{Reply}
use Rattle.mount_model.specs.declared.reply.Reply.TheVariants.{Looked, Refused}
use Rattle.mount_model.specs.Looking.{listing_reply, look_outcome, look_step}
use Rattle.mount_model.specs.Making.{MakesAct, Refuses, Told, room_check}
use Rattle.mount_model.specs.Paths.{Name}
use Rattle.mount_model.specs.State.{State}
use Rattle.mount_model.specs.Step.{Answers}
use Rattle.mount_model.proofs.Facts.{match_cases}
use Rattle.mount_model.specs.declared.names.OpenEntry.{OpenEntry}
use Rattle.mount_model.specs.FlowListed.{known}
use Rattle.mount_model.specs.Names.{open_in}
use Rattle.mount_model.specs.Order.{entries_by_writer}
use Rattle.mount_model.proofs.Flows.Facts.{open_in-is}
use Rattle.reader_laws.specs.Moments.{Moment}
use Rattle.reader_laws.proofs.Gathered.Containers.Entries.{among_listed, listed_among, named_file}
use Rattle.look_laws.proofs.Facts.{AreOf, Differ, Rise, all_told, among_ordered, differ_so, name_of, ordered_among, rise_ordered, told_by_name}
use Rattle.recovery_laws.proofs.Holds.Facts.{folder_listed}
use Rattle.torn_tail.specs.Recovering.{entries_named}
use Rattle.plain_machine.specs.Machine.{Plain, PlainRoom, PlainWriter}
use Rattle.plain_machine.specs.ByName.{open_name}
use Rattle.plain_machine.specs.Finding.{open_writers}
use Rattle.plain_plays.specs.Mirrors.{IdsRise, Mirrors, MirrorsRoom, MirrorsWriter, room_then, room_told}
use Rattle.plain_plays.proofs.PlainSteps.Entering.{IsContainerAt, has_room, not_marks}
use Rattle.plain_plays.proofs.PlainSteps.Reaching.{IsServed}
use Rattle.plain_plays.proofs.PlainSteps.ByName.OpenWriters.{among_names, its_writer, names_open, of_filter}
use Rattle.plain_plays.proofs.PlainSteps.Looks.Answered.{unchecked}
use Rattle.plain_plays.proofs.PlainSteps.Looks.Attributes.{entries_known}

-- ---- lists

-- rising lists of the same items are one
module _ {A : Type 0} (number : A → ℕ) where
  pub rise_same : (xs ys : List A) → Rise number xs → Rise number ys → ((x : A) → Among x xs → Among x ys) → ((y : A) → Among y ys → Among y xs) → xs ≡ ys
  rise_same [] [] a b to back = refl
  rise_same [] (y ∷ ys) a b to back = absurd (back y (inl refl))
  rise_same (x ∷ xs) [] a b to back = absurd (to x (inl refl))
  rise_same (x ∷ xs) (y ∷ ys) a b to back =
      let same : x ≡ y = heads (to x (inl refl)) (back y (inl refl)) in
      let rest : xs ≡ ys = rise_same xs ys a.1 b.1
      (λ z m. later x y ys z same (All-Among (λ w. number x < number w) xs z a.0 m) (to z (inr m)))
      (λ z m. later y x xs z (sym same) (All-Among (λ w. number y < number w) ys z b.0 m) (back z (inr m))) in
      (λ i. same i ∷ rest i)
    where
      heads : Among x (y ∷ ys) → Among y (x ∷ xs) → x ≡ y
      heads (inl e) m = e
      heads (inr l) (inl e) = sym e
      heads (inr l) (inr k) = absurd (let p : number y < number x = All-Among (λ w. number y < number w) ys x b.0 l in let q : number x < number y = All-Among (λ w. number x < number w) xs y a.0 k in omega (arith, p, q))

      later : (first head : A) (zs : List A) (z : A) → first ≡ head → number first < number z → Among z (head ∷ zs) → Among z zs
      later first head zs z e less (inl here) = absurd (let k : number z ≡ number first = ap number (here ∙ sym e) in omega (arith, k, less))
      later first head zs z e less (inr m) = m

abbrev pub writer_of : OpenEntry → ℕ
writer_of e = e.writer

abbrev pub id_of : PlainWriter → ℕ
id_of w = w.id

abbrev pub entry_of : PlainWriter → OpenEntry
entry_of w = record { host = w.host; writer = w.id }

-- ---- writers

above_open : (k : ℕ) (ws : List PlainWriter) → AllByRecursion (λ (x : PlainWriter). k < x.id) ws → AllByRecursion (λ (x : PlainWriter). k < x.id) (filter (λ (x : PlainWriter). x.is_open) ws)
above_open k [] all = tt
above_open k (w ∷ ws) all = elim w.is_open as (λ b. AllByRecursion (λ (x : PlainWriter). k < x.id) (if b then w ∷ filter (λ (x : PlainWriter). x.is_open) ws else filter (λ (x : PlainWriter). x.is_open) ws)) [ true ↦ (all.0, above_open k ws all.1) | false ↦ above_open k ws all.1 ]

open_rise : (ws : List PlainWriter) → IdsRise ws → IdsRise (filter (λ (x : PlainWriter). x.is_open) ws)
open_rise [] rise = tt
open_rise (w ∷ ws) rise = elim w.is_open as (λ b. IdsRise (if b then w ∷ filter (λ (x : PlainWriter). x.is_open) ws else filter (λ (x : PlainWriter). x.is_open) ws)) [ true ↦ (above_open w.id ws rise.0, open_rise ws rise.1) | false ↦ open_rise ws rise.1 ]

-- two of one id are one
pub one_id : (ws : List PlainWriter) (w u : PlainWriter) → IdsRise ws → Among w ws → Among u ws → w.id ≡ u.id → w ≡ u
one_id [] w u rise a b same = absurd a
one_id (x ∷ ws) w u rise (inl a) (inl b) same = a ∙ sym b
one_id (x ∷ ws) w u rise (inl a) (inr b) same = absurd (let less : x.id < u.id = All-Among (λ (z : PlainWriter). x.id < z.id) ws u rise.0 b in let e : w.id ≡ x.id = ap id_of a in omega (arith, less, e, same))
one_id (x ∷ ws) w u rise (inr a) (inl b) same = absurd (let less : x.id < w.id = All-Among (λ (z : PlainWriter). x.id < z.id) ws w rise.0 a in let e : u.id ≡ x.id = ap id_of b in omega (arith, less, e, same))
one_id (x ∷ ws) w u rise (inr a) (inr b) same = one_id ws w u rise.1 a b same

module _ (m : Moment) (me : ℕ) (p : Plain) (o : Mirrors m p) (n : ℕ) (room : PlainRoom) (r : Room) (at : room_then m n ≡ Some r) (shows : MirrorsRoom m n r room) (had : IsContainerAt n m) (let_in : room.is_held ≡ false) where
  in_tree : slice_get o.sound.shape.tree.rooms n ≡ Some r
  in_tree = sym (ap (λ t. room_told t n) o.sound.shape.told) ∙ at

  opens : has_folder r openhosts ≡ true
  opens = shows.held (not_marks m o.sound n had) ∙ ap not let_in

  abbrev pub Lists : Call
  Lists = Look n (ListFolder openhosts)

  folder_told : (told : Told) → Looked answer.NoFolder ≡ listing_reply openhosts told → told ≡ Ok answer.NoFolder
  folder_told (Ok answer.NoFolder) e = refl
  folder_told (Ok (answer.Names names)) e = absurd (cc)
  folder_told (Ok answer.NoRoom) e = absurd (cc)
  folder_told (Ok other) e = absurd (cc)
  folder_told (Err trouble.Fault) e = absurd (cc)
  folder_told (Err trouble.NoMemory) e = absurd (cc)

  -- the folder is there
  missing : (after : State) → Answers m.state me Lists (Looked answer.NoFolder) after → ⊥
  missing after a = elim (match_cases (room_check m.state n) (MakesAct (look_step n (ListFolder openhosts)) (look_outcome (ListFolder openhosts) m.state) m.state (Looked answer.NoFolder) after) (λ why. Refuses why m.state (Looked answer.NoFolder) after) a) as (λ _. ⊥) [
    | inr (why, some, refused) ↦ (let e : Looked answer.NoFolder ≡ Refused why = refused.0 in cc)
    | inl (free, does) ↦
        let step = look_step n (ListFolder openhosts) in
        let told = folder_told does.told does.answered in
        let t = acts_told step m.state.store after.store o.sound.shape.tree does.told o.sound.shape.told does.made in
        let lacks : LacksFolder o.sound.shape.tree n openhosts = (look_answered step o.sound.shape.tree (ListTells o.sound.shape.tree n openhosts) (list_tells o.sound.shape.tree n openhosts) answer.NoFolder t.0 (subst (λ x. Tells step o.sound.shape.tree x t.0) told t.2)).1 in
        let one : lacks.room ≡ r = (let both : Some lacks.room ≡ Some r = sym lacks.has_room ∙ in_tree in cc) in
        let clash : true ≡ false = sym opens ∙ ap (λ x. has_folder x openhosts) (sym one) ∙ lacks.none in
        (let bad : true ≡ false = clash in cc)
  ]

  -- the names of the open writers are listed
  pub record AreOpen (reply : Reply) : Type 0 where
    pub names : List Name
    pub told : reply ≡ Looked (answer.Names names)
    pub are : AreNamesOf r openhosts names

  pub open_listed : (reply : Reply) (after : State) → Answers m.state me Lists reply after → IsServed me m.state Lists reply → AreOpen reply
  open_listed reply after a served = elim served as (λ _. AreOpen reply) [
    | inr (why, told, reason) ↦ absurd (elim reason as (λ _. ⊥) [
      | inl check ↦ unchecked m o.sound n had why check
      | inr lacks ↦ has_room m o.sound n had (lacks.1 o.sound.shape.tree o.sound.shape.told)
    ])
    | inl (found, may, told) ↦ elim may as (λ _. AreOpen reply) [
      | inr is ↦ absurd (missing after (subst (λ x. Answers m.state me Lists x after) (told ∙ ap Looked is) a))
      | inl (names, is) ↦
          let shown : reply ≡ Looked (answer.Names names) = told ∙ ap Looked is in
          let l : ListsFolder o.sound.shape.tree n openhosts names = folder_listed m.state o.sound.shape.tree me n openhosts names after o.sound.shape.told (record { does = subst (λ y. Answers m.state me Lists y after) shown a }) in
          let one : l.room ≡ r = (let both : Some l.room ≡ Some r = sym l.has_room ∙ in_tree in cc) in
          record { names = names; told = shown; are = subst (λ x. AreNamesOf x openhosts names) one l.entries }
    ]
  ]

  -- ---- whose names they are

  module _ (names : List Name) (are : AreNamesOf r openhosts names) where
    known_each : (name : Name) → Among name names → (x : OpenEntry) × (open_in name ≡ Some x)
    known_each = entries_known m o.sound n had r at room shows me names are

    tell_all : (front : List Name) (sofar : List OpenEntry) → ((name : Name) → Among name front → (x : OpenEntry) × (open_in name ≡ Some x)) → (es : List OpenEntry) × (entries_named front sofar ≡ Ok es)
    tell_all [] sofar each = (sofar, refl)
    tell_all (name ∷ front) sofar each =
        let x = each name (inl refl) in
        let rest = tell_all front (sofar ++ x.0 ∷ []) (λ other a. each other (inr a)) in
        (rest.0, ap (λ z. known openhosts name z (λ (e : OpenEntry). entries_named front (sofar ++ e ∷ []))) x.1 ∙ rest.1)

    pub all_entries : (es : List OpenEntry) × (entries_named names [] ≡ Ok es)
    all_entries = tell_all names [] known_each

    abbrev pub Entries : List OpenEntry
    Entries = all_entries.0

    are_of : AreOf open_in names Entries
    are_of = all_told open_in openhosts entries_named (λ sofar. refl) (λ first rest sofar. refl) names Entries all_entries.1

    -- an entry is that of an open writer
    its_entry : (name : Name) (e : OpenEntry) → Among name names → open_in name ≡ Some e → (w : PlainWriter) × Among w (open_writers room) × (e ≡ entry_of w) × (name ≡ open_name w)
    its_entry name e a is =
        let f = named_file r openhosts name names refl are a in
        let w = its_writer m o.sound n had r at room shows name f.0 f.1 in
        let told = open_in-is name w.w.host w.w.id (record { is_item = w.is_item; printed = λ i. record { folder = openhosts; file = w.name_is i } }) in
        (w.w, w.among, (let both : Some e ≡ Some (entry_of w.w) = sym is ∙ told in let same : e ≡ entry_of w.w = cc in same), w.name_is)

    pub from_entry : (e : OpenEntry) → Among e Entries → (w : PlainWriter) × Among w (open_writers room) × (e ≡ entry_of w)
    from_entry e a = let k = name_of open_in names Entries are_of e a in let w = its_entry k.0 e k.1 k.2 in (w.0, w.1, w.2)

    -- and each open writer has its entry
    to_entry : (w : PlainWriter) → Among w (open_writers room) → Among (record { host = w.host; writer = w.id }) Entries
    to_entry w a =
        let named = (All-Among (MirrorsWriter m n) room.writers w shows.writers (of_filter room.writers w a).0).named in
        let listed : is_listed (open_name w) names ≡ true = are.exactly (open_name w) ∙ sym (names_open m o.sound n had r at room shows (open_name w)) ∙ among_listed (open_name w) (map open_name (open_writers room)) (among_names (open_writers room) w a) in
        told_by_name open_in names Entries are_of (open_name w) (listed_among (open_name w) names listed) (record { host = w.host; writer = w.id })
        (open_in-is (open_name w) w.host w.id (record { is_item = record { in_range = tt; widths = named.widths }; printed = refl }))

    they_differ : Differ writer_of Entries
    they_differ = differ_so open_in writer_of names names Entries (λ name a. a) (ordered_differ names are.ordered) are_of
        (λ name other x y a b is_x is_y same.
        let w = its_entry name x a is_x in
        let u = its_entry other y b is_y in
        let one = one_id room.writers w.0 u.0 shows.rise (of_filter room.writers w.0 w.1).0 (of_filter room.writers u.0 u.1).0 (sym (ap writer_of w.2) ∙ same ∙ ap writer_of u.2) in
        w.3 ∙ ap open_name one ∙ sym u.3)

    abbrev pub Ordered : List OpenEntry
    Ordered = entries_by_writer Entries

    entries_rise : (ws : List PlainWriter) → IdsRise ws → Rise writer_of (map entry_of ws)
    entries_rise [] rise = tt
    entries_rise (w ∷ ws) rise = (above_all w.id ws rise.0, entries_rise ws rise.1)
      where
        above_all : (k : ℕ) (us : List PlainWriter) → AllByRecursion (λ (u : PlainWriter). k < u.id) us → AllByRecursion (λ (x : OpenEntry). k < x.writer) (map entry_of us)
        above_all k [] all = tt
        above_all k (u ∷ us) all = (all.0, above_all k us all.1)

    entry_among : (ws : List PlainWriter) (w : PlainWriter) → Among w ws → Among (entry_of w) (map entry_of ws)
    entry_among [] w a = a
    entry_among (u ∷ ws) w (inl same) = inl (ap entry_of same)
    entry_among (u ∷ ws) w (inr a) = inr (entry_among ws w a)

    of_entry : (ws : List PlainWriter) (e : OpenEntry) → Among e (map entry_of ws) → (w : PlainWriter) × Among w ws × (e ≡ entry_of w)
    of_entry [] e a = absurd a
    of_entry (u ∷ ws) e (inl same) = (u, inl refl, same)
    of_entry (u ∷ ws) e (inr a) = let r = of_entry ws e a in (r.0, inr r.1, r.2)

    -- They are the entries of the open writers, by rising id.
    pub entries_same : Ordered ≡ map entry_of (open_writers room)
    entries_same = rise_same writer_of Ordered (map entry_of (open_writers room)) (rise_ordered writer_of Entries they_differ) (entries_rise (open_writers room) (open_rise room.writers shows.rise))
        (λ e a. let w = from_entry e (ordered_among writer_of e Entries a) in subst (λ x. Among x (map entry_of (open_writers room))) (sym w.2) (entry_among (open_writers room) w.0 w.1))
        (λ e a. let w = of_entry (open_writers room) e a in subst (λ x. Among x Ordered) (sym w.2) (among_ordered writer_of (entry_of w.0) Entries (to_entry w.0 w.1)))

-- A truncate that is made has the next stamp above the greatest in its container.
use Rattle.std.proofs.Common.{◌≡◌, ◌⊎◌, max, ℕ, true, false, nat_eq, List, [], ◌∷◌, ◌++◌, Option, Some, None, Result, Ok, Err, refl, sym, ap, ◌∙◌, inl, inr, subst, arith}
use Rattle.std.proofs.lemmas.Bool.{cases_lt}
use Rattle.std.proofs.lemmas.Bool.Decides.{nat_tests}
use Rattle.plfs_types.specs.declared.entries.Trunc.{Trunc}
use Rattle.plfs_types.specs.declared.names.Path.{Path}
use Rattle.plfs_types.specs.Stamps.{next_stamp}
use Rattle.plain_file.proofs.Facts.{Among}
use Rattle.edge_io.specs.Clock.{Ticks}
use Rattle.container_layout.specs.declared.items.Item.{Item}
use Rattle.container_layout.specs.declared.items.Item.TheVariants as item
use Rattle.container_layout.specs.Paths.{IsIn}
use Rattle.store_api.specs.declared.step.Answer.TheVariants as answer
use Rattle.store_api.specs.declared.step.Answer.{Answer}
use Rattle.store_api.specs.declared.store.Trouble.TheVariants as trouble
use Rattle.store_api.specs.Room.{is_top}
use Rattle.store_laws.specs.There.{ListsFolder}
use Rattle.mount_model.specs.declared.call.Ask.{Ask}
use Rattle.mount_model.specs.declared.call.Call.TheVariants.{Find, Hold, Look, Mark, Release}
use Rattle.mount_model.specs.declared.call.Look.{Look as Sight}
use Rattle.mount_model.specs.declared.call.Look.TheVariants.{List as ListFolder}
use Rattle.mount_model.specs.declared.reply.Refusal.TheVariants as refusal
use Rattle.mount_model.specs.declared.reply.Reply.{Reply}
use Rattle.mount_model.specs.declared.reply.Reply.TheVariants.{Damaged, Done, Holding, Looked, Marked, Refused}
use Rattle.mount_model.specs.declared.row.Holder.{Holder}
use Rattle.mount_model.specs.History.{Event}
use Rattle.mount_model.specs.Entering.{draw_check}
use Rattle.mount_model.specs.Holding.{HoldOutcome, HoldsRoom, TruncatesAt, holding, truncate_check, truncate_outcome, truncate_stamp}
use Rattle.mount_model.specs.Looking.{look_outcome, look_step}
use Rattle.mount_model.specs.Making.{MakesAct, Refuses, Told, UnlessRefused, otherwise, room_check}
use Rattle.mount_model.specs.Paths.{Name, metadata, truncs}
use Rattle.container_layout.specs.Paths.{openhosts}
use Rattle.mount_model.specs.State.{State, Table}
use Rattle.mount_model.specs.Step.{Answers}
use Rattle.mount_model.specs.Table.{holder_at, holder_of, its_hold}
use Rattle.mount_model.proofs.Facts.{holder_at-push, is_holding, match_cases, next_not_held, step_holds}
use Rattle.mount_sound.specs.Owed.{InRoom, IsLawful, IsTop}
use Rattle.mount_model.specs.Program.{done}
use Rattle.mount_model.specs.declared.names.Metadata.{Metadata}
use Rattle.mount_model.specs.declared.stuck.Stuck.{Stuck}
use Rattle.mount_model.specs.declared.stuck.Stuck.TheVariants as stuck
use Rattle.mount_model.specs.FlowListed.{file_in, told_by, or_trouble}
use Rattle.mount_model.specs.Names.{meta_in, trunc_in}
use Rattle.mount_model.specs.FlowReplies.{damage, failure, given, names_in, room_in, trouble as trouble_of}
use Rattle.mount_model.specs.Running.{Runs}
use Rattle.mount_model.proofs.Flows.Facts.{runs_next, meta_in-found, trunc_in-found}
use Rattle.reader_laws.specs.Moments.{HadItem, IsSoundAt, Moment, file_in_room, file_told, moment_after, next_moment}
use Rattle.reader_laws.proofs.Gathered.Containers.Entries.{named_file}
use Rattle.reader_laws.proofs.Gathered.Facts.{grows_after}
use Rattle.recovery_laws.proofs.Holds.Facts.{folder_listed}
use Rattle.trunc_rename.specs.Holding.{holder_in, holds, lets_go, or_lets_go, released}
use Rattle.trunc_rename.specs.Tops.{metadata_top, truncs_top}
use Rattle.trunc_rename.specs.Truncating.{lists_metadata, lists_truncs, marked, marks, truncate_program}
use Rattle.plain_plays.specs.Calls.{AtSome}
use Rattle.plain_plays.specs.Served.{GoesWell}
use Rattle.plain_plays.specs.Tops.{IsGreatestIn, IsReached, TruncatesAbove}
use Rattle.plain_plays.proofs.PlainSteps.Reaching.{StaysUnderOthers, ended, reached, some_later}

-- ---- the greatest stamp that names tell is that of one

pub went_on : {A : Type 0} (o : Option A) (why : Stuck) (next : A → Result ℕ Stuck) (top : ℕ) → or_trouble o why next ≡ Ok top → (a : A) × (o ≡ Some a) × (next a ≡ Ok top)
went_on None why next top h = let clash : ◌≡◌ {A = Result ℕ Stuck} (Err why) (Ok top) = h in absurd cc
went_on (Some a) why next top h = (a, refl, h)

either_max : (a b : ℕ) → (max a b ≡ a) ⊎ (max a b ≡ b)
either_max a b = elim (cases_lt a b) as (λ _. (max a b ≡ a) ⊎ (max a b ≡ b)) [ inl less ↦ inr (omega (arith, less)) | inr more ↦ inl (omega (arith, more)) ]

abbrev pub TellsMeta : List Name → ℕ → Type 0
TellsMeta names top = (name : Name) × (m : Metadata) × Among name names × (meta_in name ≡ Some m) × (m.stamp ≡ top)

pub metas_reach : (names : List Name) (start top : ℕ) → metadata_top names start ≡ Ok top → (top ≡ start) ⊎ TellsMeta names top
metas_reach [] start top h = inl (let same : start ≡ top = cc in sym same)
metas_reach (name ∷ names) start top h =
    let s = went_on (meta_in name) (damage (file_in metadata name) 0) (λ (m : Metadata). metadata_top names (max start m.stamp)) top h in
    elim (metas_reach names (max start s.0.stamp) top s.2) as (λ _. (top ≡ start) ⊎ TellsMeta (name ∷ names) top) [
      | inr t ↦ inr (t.0, t.1, inr t.2, t.3, t.4)
      | inl is ↦ elim (either_max start s.0.stamp) as (λ _. (top ≡ start) ⊎ TellsMeta (name ∷ names) top) [
        | inl first ↦ inl (is ∙ first)
        | inr own ↦ inr (name, s.0, inl refl, s.1, sym (is ∙ own))
      ]
    ]

abbrev pub TellsTrunc : List Name → ℕ → Type 0
TellsTrunc names top = (name : Name) × (t : Trunc) × Among name names × (trunc_in name ≡ Some t) × (t.stamp ≡ top)

pub truncs_reach : (names : List Name) (start top : ℕ) → truncs_top names start ≡ Ok top → (top ≡ start) ⊎ TellsTrunc names top
truncs_reach [] start top h = inl (let same : start ≡ top = cc in sym same)
truncs_reach (name ∷ names) start top h =
    let s = went_on (trunc_in name) (damage (file_in truncs name) 0) (λ (t : Trunc). truncs_top names (max start t.stamp)) top h in
    elim (truncs_reach names (max start s.0.stamp) top s.2) as (λ _. (top ≡ start) ⊎ TellsTrunc (name ∷ names) top) [
      | inr t ↦ inr (t.0, t.1, inr t.2, t.3, t.4)
      | inl is ↦ elim (either_max start s.0.stamp) as (λ _. (top ≡ start) ⊎ TellsTrunc (name ∷ names) top) [
        | inl first ↦ inl (is ∙ first)
        | inr own ↦ inr (name, s.0, inl refl, s.1, sym (is ∙ own))
      ]
    ]

-- a listed name's item stood in the room
pub had_listed : (m : Moment) (s : IsSoundAt m) (room : ℕ) (folder name : Name) (names : List Name) (i : Item) → (l : ListsFolder s.shape.tree room folder names) → is_top folder ≡ false → Among name names → IsIn folder name i → HadItem m room i
had_listed m s room folder name names i l below among is =
    let f = named_file l.room folder name names below l.entries among in
    record {
      is_item = is.is_item;
      bytes = f.0;
      there = subst (λ (p : Path). file_told m.state.store.tree room p ≡ Some f.0) is.printed
          (ap (λ o. file_told o room (record { folder = folder; file = name })) s.shape.told ∙ ap (λ o. file_in_room o (record { folder = folder; file = name })) l.has_room ∙ f.1);
    }

pub names_of : (reply : Reply) (names : List Name) → names_in reply ≡ Some names → reply ≡ Looked (answer.Names names)
names_of (Looked (answer.Names listed)) names e = let same : listed ≡ names = cc in ap (λ n. Looked (answer.Names n)) same
names_of reply names e = absurd cc

pub cases_Result : (r : Result ℕ Stuck) → ((a : ℕ) × (r ≡ Ok a)) ⊎ ((why : Stuck) × (r ≡ Err why))
cases_Result (Ok a) = inl (a, refl)
cases_Result (Err why) = inr (why, refl)

-- ---- a hold

-- the caller holds this room by this number
pub record HoldsIt (me room holder : ℕ) (m : Moment) : Type 0 where
  pub h : Holder
  pub held : holder_of me holder m.state.table.holders ≡ Some h
  pub room_is : h.room ≡ room

pub its_own : (me : ℕ) (o : Option Holder) (h : Holder) → o ≡ Some h → h.owner ≡ me → its_hold me o ≡ Some h
its_own me None h e owned = absurd (cc)
its_own me (Some x) h e owned =
    let same : x ≡ h = cc in
    let mine : nat_eq h.owner me ≡ true = grind (arith, nat_tests, owned) in
    subst (λ (y : Holder). its_hold me (Some y) ≡ Some h) (sym same) (rw mine refl)

holds_stays : (me room holder : ℕ) → StaysUnderOthers me (HoldsIt me room holder)
holds_stays me room holder m event rest sound lawful other k =
    let is = is_holding me holder m.state.table.holders k.h k.held in
    record {
      h = k.h;
      held = its_own me (holder_at holder event.after.table.holders) k.h (step_holds m.state event.after event.caller event.ask event.reply holder k.h lawful.1 is.found (λ own. other (sym own ∙ is.owned))) is.owned;
      room_is = k.room_is;
    }

not_held : (folder file : Name) (told : Told) (holder : ℕ) → Holding holder ≡ otherwise folder file told → ⊥
not_held folder file (Ok answer.NoRoom) holder e = absurd cc
not_held folder file (Ok answer.NoFolder) holder e = absurd cc
not_held folder file (Ok told) holder e = absurd cc
not_held folder file (Err trouble.Fault) holder e = absurd cc
not_held folder file (Err trouble.NoMemory) holder e = absurd cc

pushed : (h : Holder) (table : Table) (told : Told) (holder : ℕ) (after : Table) → HoldOutcome h table told (Holding holder) after → (holder ≡ h.number) × (after.holders ≡ table.holders ++ h ∷ [])
pushed h table (Ok answer.Made) holder after o = (let e : Holding holder ≡ Holding h.number = o.0 in cc, ap (λ (t : Table). t.holders) o.1)
pushed h table (Ok answer.NoFolder) holder after o = absurd (let e : Holding holder ≡ Refused refusal.Held = o.0 in cc)
pushed h table (Ok (answer.NotEmpty least)) holder after o = absurd (elim o.0 as (λ _. ⊥) [
  | inl busy ↦ (let e : Holding holder ≡ Refused (refusal.Busy busy.0 busy.1) = busy.3 in cc)
  | inr other ↦ (let e : Holding holder ≡ Damaged openhosts least = other.1 in cc)
])
pushed h table told holder after o = absurd (not_held openhosts [] told holder o.0)

pub hold_does : (m : Moment) (s : IsSoundAt m) (me room holder : ℕ) (event : Event) → Answers m.state me (Hold room) (Holding holder) event.after → HoldsIt me room holder (next_moment m event)
hold_does m s me room holder event a = elim (match_cases (draw_check m.state room) (HoldsRoom me room m.state (Holding holder) event.after) (λ why. Refuses why m.state (Holding holder) event.after) a) as (λ _. HoldsIt me room holder (next_moment m event)) [
  | inr (why, some, refused) ↦ absurd (let e : Holding holder ≡ Refused why = refused.0 in cc)
  | inl (none, does) ↦
      let mine : Holder = holding m.state me room in
      let p = pushed mine m.state.table does.told holder event.after.table does.outcome in
      let at : holder_at mine.number (m.state.table.holders ++ mine ∷ []) ≡ Some mine = holder_at-push m.state.table.holders mine (next_not_held m.state.mount m.state.serial m.state.marks m.state.table.holders s.regular.holders) in
      record {
        h = mine;
        held = its_own me (holder_at holder event.after.table.holders) mine (subst (λ hs. holder_at holder hs ≡ Some mine) (sym p.1) (subst (λ n. holder_at n (m.state.table.holders ++ mine ∷ []) ≡ Some mine) (sym p.0) at)) refl;
        room_is = refl;
      }
]

-- a look leaves the table
pub look_table : (old new : State) (me room : ℕ) (look : Sight) (told : Answer) → Answers old me (Look room look) (Looked told) new → new.table ≡ old.table
look_table old new me room look told a = elim (match_cases (room_check old room) (MakesAct (look_step room look) (look_outcome look old) old (Looked told) new) (λ why. Refuses why old (Looked told) new) a) as (λ _. new.table ≡ old.table) [
  | inl (none, m) ↦ ap (λ (s : State). s.table) m.after
  | inr (why, some, refused) ↦ absurd (let e : Looked told ≡ Refused why = refused.0 in cc)
]

pub looked_holds : (m : Moment) (me room holder number : ℕ) (look : Sight) (told : Answer) (event : Event) → Answers m.state me (Look number look) (Looked told) event.after → HoldsIt me room holder m → HoldsIt me room holder (next_moment m event)
looked_holds m me room holder number look told event a k = record { h = k.h; held = subst (λ (t : Table). holder_of me holder t.holders ≡ Some k.h) (sym (look_table m.state event.after me number look told a)) k.held; room_is = k.room_is }

-- ---- what was reached stays so

pub one_step : (room top : ℕ) (m : Moment) (event : Event) (rest : List Event) → IsSoundAt m → IsLawful m.state (event ∷ rest) → IsReached room top m → IsReached room top (next_moment m event)
one_step room top m event rest sound lawful (inl none) = inl none
one_step room top m event rest sound lawful (inr (inl t)) = inr (inl (t.0, (grows_after m (event ∷ []) (lawful.0, lawful.1, tt) sound).stands room (item.Trunc top t.0) tt t.1))
one_step room top m event rest sound lawful (inr (inr w)) = inr (inr (w.0, w.1, w.2, w.3, (grows_after m (event ∷ []) (lawful.0, lawful.1, tt) sound).stands room (item.Meta w.0 w.1 top w.2 w.3) tt w.4))

pub record Knows (me room holder top : ℕ) (m : Moment) : Type 0 where
  pub holds : HoldsIt me room holder m
  pub reached : IsReached room top m

knows_stays : (me room holder top : ℕ) → StaysUnderOthers me (Knows me room holder top)
knows_stays me room holder top m event rest sound lawful other k = record { holds = holds_stays me room holder m event rest sound lawful other k.holds; reached = one_step room top m event rest sound lawful k.reached }

-- ---- what listings reach

pub metas_known : (m : Moment) (s : IsSoundAt m) (me room : ℕ) (names : List Name) (top : ℕ) (after : State) → Answers m.state me (Look room (ListFolder metadata)) (Looked (answer.Names names)) after → metadata_top names 0 ≡ Ok top → IsReached room top m
metas_known m s me room names top after a is =
    let l = folder_listed m.state s.shape.tree me room metadata names after s.shape.told (record { does = a }) in
    from (metas_reach names 0 top is) l
  where
    from : (top ≡ 0) ⊎ TellsMeta names top → ListsFolder s.shape.tree room metadata names → IsReached room top m
    from (inl zero) l = inl zero
    from (inr t) l = inr (inr (t.1.last, t.1.bytes, t.1.host, t.1.writer, subst (λ k. HadItem m room (item.Meta t.1.last t.1.bytes k t.1.host t.1.writer)) t.4 (had_listed m s room metadata t.0 names (item.Meta t.1.last t.1.bytes t.1.stamp t.1.host t.1.writer) l refl t.2 (meta_in-found t.0 t.1 t.3))))

pub truncs_known : (m : Moment) (s : IsSoundAt m) (me room : ℕ) (names : List Name) (least top : ℕ) (after : State) → Answers m.state me (Look room (ListFolder truncs)) (Looked (answer.Names names)) after → truncs_top names least ≡ Ok top → IsReached room least m → IsReached room top m
truncs_known m s me room names least top after a is was =
    let l = folder_listed m.state s.shape.tree me room truncs names after s.shape.told (record { does = a }) in
    from (truncs_reach names least top is) l
  where
    from : (top ≡ least) ⊎ TellsTrunc names top → ListsFolder s.shape.tree room truncs names → IsReached room top m
    from (inl same) l = subst (λ k. IsReached room k m) (sym same) was
    from (inr t) l = inr (inl (t.1.size, subst (λ k. HadItem m room (item.Trunc k t.1.size)) t.4 (had_listed m s room truncs t.0 names (item.Trunc t.1.stamp t.1.size) l refl t.2 (trunc_in-found t.0 t.1 t.3))))

-- ---- the machine

pub no_ok : (why : Stuck) (out : ℕ) (R : Type 0) → ◌≡◌ {A = Result ℕ Stuck} (Err why) (Ok out) → R
no_ok why out R e = absurd (cc)

released_ok : (result : Result ℕ Stuck) (reply : Reply) (out : ℕ) → released result reply ≡ Ok out → result ≡ Ok out
released_ok (Err why) reply out e = e
released_ok (Ok r) Done out e = e
released_ok (Ok r) reply out e = no_ok (failure reply) out _ e

let_go_is : (me holder : ℕ) (result : Result ℕ Stuck) (events : List Event) (out : ℕ) → Runs me (lets_go holder result) events (Ok out) → result ≡ Ok out
let_go_is me holder result [] out runs = absurd runs
let_go_is me holder result (e ∷ events) out runs = elim (runs_next me (Release holder) (λ reply. done (released result reply)) e events (Ok out) runs) as (λ _. result ≡ Ok out) [
  | inl (other, on) ↦ let_go_is me holder result events out on
  | inr (own, asked, on) ↦ released_ok result e.reply out (ended me (released result e.reply) events (Ok out) on)
]

pub marked_is : (stamp size : ℕ) (table : Table) (told : Told) (n : ℕ) → Marked n ≡ (truncate_outcome stamp size table told).reply → n ≡ stamp
marked_is stamp size table (Ok answer.Made) n e = cc
marked_is stamp size table (Ok answer.NoRoom) n e = absurd (cc)
marked_is stamp size table (Ok answer.NoFolder) n e = absurd (cc)
marked_is stamp size table (Ok other) n e = absurd (cc)
marked_is stamp size table (Err trouble.Fault) n e = absurd (cc)
marked_is stamp size table (Err trouble.NoMemory) n e = absurd (cc)

-- the truncate's stamp, by the clock and the greatest stamp at some moment
record MarksAt (m : Moment) (room : ℕ) (events : List Event) (stamp : ℕ) : Type 0 where
  top : ℕ
  time : ℕ
  times : Option (List ℕ)
  made : AtSome m events (λ x. Ticks x.state.times times time × IsGreatestIn room top x)
  is : stamp ≡ next_stamp time top top

marks_later : (m : Moment) (room stamp : ℕ) (before : List Event) (event : Event) (rest events : List Event) → events ≡ before ++ event ∷ rest → MarksAt (next_moment (moment_after m before) event) room rest stamp → MarksAt m room events stamp
marks_later m room stamp before event rest events split x = record {
  top = x.top;
  time = x.time;
  times = x.times;
  made = some_later m before event rest events (λ y. Ticks y.state.times x.times x.time × IsGreatestIn room x.top y) split x.made;
  is = x.is;
}

-- the time at which a truncate was marked, and its stamp
pub record Stamped (old : State) (top n : ℕ) : Type 0 where
  pub time : ℕ
  pub times : Option (List ℕ)
  pub ticks : Ticks old.times times time
  pub is : n ≡ next_stamp time top top

pub mark_does : (old new : State) (me holder size top n : ℕ) (h : Holder) → holder_of me holder old.table.holders ≡ Some h → Answers old me (Mark holder size top) (Marked n) new → Stamped old top n
mark_does old new me holder size top n h held a = elim (match_cases (holder_of me holder old.table.holders) (Refuses refusal.NotHolder old (Marked n) new) (λ x. UnlessRefused (truncate_check size top) old (Marked n) new (TruncatesAt x size top old (Marked n) new)) a) as (λ _. Stamped old top n) [
  | inl (none, refused) ↦ absurd (let e : Marked n ≡ Refused refusal.NotHolder = refused.0 in cc)
  | inr (x, some, d) ↦ elim (match_cases (truncate_check size top) (TruncatesAt x size top old (Marked n) new) (λ why. Refuses why old (Marked n) new) d) as (λ _. Stamped old top n) [
    | inr (why, is, refused) ↦ absurd (let e : Marked n ≡ Refused why = refused.0 in cc)
    | inl (none, t) ↦ record { time = t.time; times = t.times; ticks = t.ticks; is = marked_is (truncate_stamp t.time top) size old.table t.makes.told n t.makes.answered }
  ]
]

module _ (me size room holder : ℕ) where
  marking : (m : Moment) (top : ℕ) (events : List Event) (stamp : ℕ) → IsSoundAt m → IsLawful m.state events → GoesWell me events → Knows me room holder top m → Runs me (marks size holder top) events (Ok stamp) → MarksAt m room events stamp
  marking m top events stamp sound lawful well k runs =
      let r = reached me (Knows me room holder top) (knows_stays me room holder top) m (Mark holder size top) (λ reply. lets_go holder (marked reply)) events (Ok stamp) sound lawful well k runs in
      elim r.served as (λ _. MarksAt m room events stamp) [
        | inr (why, told, reason) ↦ no_ok (stuck.Refused why) stamp _ (let_go_is me holder (Err (stuck.Refused why)) r.rest stamp (subst (λ x. Runs me (lets_go holder (marked x)) r.rest (Ok stamp)) told r.runs))
        | inl (n, told) ↦
            let same : Ok n ≡ Ok stamp = let_go_is me holder (Ok n) r.rest stamp (subst (λ x. Runs me (lets_go holder (marked x)) r.rest (Ok stamp)) told r.runs) in
            let s = mark_does r.mid.state r.event.after me holder size top n r.holds.holds.h r.holds.holds.held (subst (λ x. Answers r.mid.state me (Mark holder size top) x r.event.after) told r.answers) in
            let above : InRoom r.mid.state room (λ x. IsTop x top) = subst (λ n. InRoom r.mid.state n (λ x. IsTop x top)) r.holds.holds.room_is (r.may.owes r.sound.clean r.holds.holds.h r.holds.holds.held) in
            record {
              top = top;
              time = s.time;
              times = s.times;
              made = record { before = r.before; later = r.event ∷ r.rest; split = r.split; held = subst (λ y. Ticks y.state.times s.times s.time × IsGreatestIn room top y) r.at (s.ticks, record { above = above; reached = r.holds.reached }) };
              is = sym (number n stamp same) ∙ s.is;
            }
      ]
    where
      number : (a b : ℕ) → ◌≡◌ {A = Result ℕ Stuck} (Ok a) (Ok b) → a ≡ b
      number a b e = cc

  truncs_listing : (m : Moment) (least : ℕ) (events : List Event) (stamp : ℕ) → IsSoundAt m → IsLawful m.state events → GoesWell me events → Knows me room holder least m → Runs me (lists_truncs size room holder least) events (Ok stamp) → MarksAt m room events stamp
  truncs_listing m least events stamp sound lawful well k runs =
      let tells : List Name → Result ℕ Stuck = λ names. truncs_top names least in
      let r = reached me (Knows me room holder least) (knows_stays me room holder least) m (Look room (ListFolder truncs)) (λ reply. or_lets_go holder (marks size holder) (told_by truncs (λ names. truncs_top names least) reply)) events (Ok stamp) sound lawful well k runs in
      let P : Result ℕ Stuck → Type 0 = λ x. Runs me (or_lets_go holder (marks size holder) x) r.rest (Ok stamp) in
      elim (cases_Result (told_by truncs (λ names. truncs_top names least) r.event.reply)) as (λ _. MarksAt m room events stamp) [
        | inr (why, e) ↦ no_ok why stamp _ (let_go_is me holder (Err why) r.rest stamp (subst P e r.runs))
        | inl (top, e) ↦
            let w = went_on (names_in r.event.reply) (trouble_of (file_in truncs []) r.event.reply) (λ names. truncs_top names least) top e in
            let told : r.event.reply ≡ Looked (answer.Names w.0) = names_of r.event.reply w.0 w.1 in
            let a : Answers r.mid.state me (Look room (ListFolder truncs)) (Looked (answer.Names w.0)) r.event.after = subst (λ x. Answers r.mid.state me (Look room (ListFolder truncs)) x r.event.after) told r.answers in
            let now : IsReached room top r.mid = truncs_known r.mid r.sound me room w.0 least top r.event.after a w.2 r.holds.reached in
            let next : Knows me room holder top (next_moment r.mid r.event) = record { holds = looked_holds r.mid me room holder room (ListFolder truncs) (answer.Names w.0) r.event a r.holds.holds; reached = one_step room top r.mid r.event r.rest r.sound r.whole now } in
            marks_later m room stamp r.before r.event r.rest events r.split (subst (λ x. MarksAt (next_moment x r.event) room r.rest stamp) r.at (marking (next_moment r.mid r.event) top r.rest stamp r.then_sound r.lawful r.well next (subst P e r.runs)))
      ]

  metas_listing : (m : Moment) (events : List Event) (stamp : ℕ) → IsSoundAt m → IsLawful m.state events → GoesWell me events → HoldsIt me room holder m → Runs me (lists_metadata size room holder) events (Ok stamp) → MarksAt m room events stamp
  metas_listing m events stamp sound lawful well k runs =
      let r = reached me (HoldsIt me room holder) (holds_stays me room holder) m (Look room (ListFolder metadata)) (λ reply. or_lets_go holder (lists_truncs size room holder) (told_by metadata (λ names. metadata_top names 0) reply)) events (Ok stamp) sound lawful well k runs in
      let P : Result ℕ Stuck → Type 0 = λ x. Runs me (or_lets_go holder (lists_truncs size room holder) x) r.rest (Ok stamp) in
      elim (cases_Result (told_by metadata (λ names. metadata_top names 0) r.event.reply)) as (λ _. MarksAt m room events stamp) [
        | inr (why, e) ↦ no_ok why stamp _ (let_go_is me holder (Err why) r.rest stamp (subst P e r.runs))
        | inl (top, e) ↦
            let w = went_on (names_in r.event.reply) (trouble_of (file_in metadata []) r.event.reply) (λ names. metadata_top names 0) top e in
            let told : r.event.reply ≡ Looked (answer.Names w.0) = names_of r.event.reply w.0 w.1 in
            let a : Answers r.mid.state me (Look room (ListFolder metadata)) (Looked (answer.Names w.0)) r.event.after = subst (λ x. Answers r.mid.state me (Look room (ListFolder metadata)) x r.event.after) told r.answers in
            let now : IsReached room top r.mid = metas_known r.mid r.sound me room w.0 top r.event.after a w.2 in
            let next : Knows me room holder top (next_moment r.mid r.event) = record { holds = looked_holds r.mid me room holder room (ListFolder metadata) (answer.Names w.0) r.event a r.holds; reached = one_step room top r.mid r.event r.rest r.sound r.whole now } in
            marks_later m room stamp r.before r.event r.rest events r.split (subst (λ x. MarksAt (next_moment x r.event) room r.rest stamp) r.at (truncs_listing (next_moment r.mid r.event) top r.rest stamp r.then_sound r.lawful r.well next (subst P e r.runs)))
      ]

holding_it : (me size room : ℕ) (m : Moment) (events : List Event) (stamp : ℕ) → IsSoundAt m → IsLawful m.state events → GoesWell me events → Runs me (holds room (lists_metadata size room)) events (Ok stamp) → MarksAt m room events stamp
holding_it me size room m events stamp sound lawful well runs =
    let r = reached me (λ x. Unit {0}) (λ x event rest s l other u. tt) m (Hold room) (λ reply. given (holder_in reply) (failure reply) (lists_metadata size room)) events (Ok stamp) sound lawful well tt runs in
    elim r.served as (λ _. MarksAt m room events stamp) [
      | inr (why, told, reason) ↦ no_ok (stuck.Refused why) stamp _ (ended me (Err (stuck.Refused why)) r.rest (Ok stamp) (subst (λ x. Runs me (given (holder_in x) (failure x) (lists_metadata size room)) r.rest (Ok stamp)) told r.runs))
      | inl (holder, told) ↦
          let k = hold_does r.mid r.sound me room holder r.event (subst (λ x. Answers r.mid.state me (Hold room) x r.event.after) told r.answers) in
          marks_later m room stamp r.before r.event r.rest events r.split (subst (λ x. MarksAt (next_moment x r.event) room r.rest stamp) r.at
          (metas_listing me size room holder (next_moment r.mid r.event) r.rest stamp r.then_sound r.lawful r.well k (subst (λ x. Runs me (given (holder_in x) (failure x) (lists_metadata size room)) r.rest (Ok stamp)) told r.runs)))
    ]

-- A truncate that is made has the next stamp.
pub truncates_above : (m : Moment) (me : ℕ) (name : Name) (size : ℕ) (events : List Event) (stamp : ℕ) → IsSoundAt m → IsLawful m.state events → GoesWell me events → Runs me (truncate_program name size) events (Ok stamp) → TruncatesAbove m me name events stamp
truncates_above m me name size events stamp sound lawful well runs =
    let r = reached me (λ x. Unit {0}) (λ x event rest s l other u. tt) m (Find name) (λ reply. given (room_in reply) (failure reply) (λ room. holds room (lists_metadata size room))) events (Ok stamp) sound lawful well tt runs in
    elim r.served as (λ _. TruncatesAbove m me name events stamp) [
      | inr (why, told, reason) ↦ no_ok (stuck.Refused why) stamp _ (ended me (Err (stuck.Refused why)) r.rest (Ok stamp) (subst (λ x. Runs me (given (room_in x) (failure x) (λ room. holds room (lists_metadata size room))) r.rest (Ok stamp)) told r.runs))
      | inl (room, told) ↦
          let x = marks_later m room stamp r.before r.event r.rest events r.split (subst (λ y. MarksAt (next_moment y r.event) room r.rest stamp) r.at
          (holding_it me size room (next_moment r.mid r.event) r.rest stamp r.then_sound r.lawful r.well (subst (λ y. Runs me (given (room_in y) (failure y) (λ n. holds n (lists_metadata size n))) r.rest (Ok stamp)) told r.runs))) in
          record {
            room = room;
            found = record { before = r.before; event = r.event; later = r.rest; split = r.split; own = r.own; asked = ap (λ (a : Ask). a.call) r.asked; told = told };
            top = x.top;
            time = x.time;
            times = x.times;
            made = x.made;
            is = x.is;
          }
    ]

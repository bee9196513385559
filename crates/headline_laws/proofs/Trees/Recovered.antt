-- What the line of a recovery says: those that were taken out are gone, just what was told of them has landed, they are writers of the container, and none is left of the tree before.
use Rattle.std.proofs.Common.{◌≡◌, ◌⊎◌, ◌≤◌, ◌<◌, inl, inr, ℕ, Bool, true, false, List, [], ◌∷◌, ◌++◌, length, map, get_or, Option, Some, None, refl, sym, ap, ◌∙◌, subst, arith, append_assoc, ◌+◌, zero, suc, nat_eq, length-append, if◌then◌else◌}
use Rattle.std.specs.List.{All, AllByRecursion, Any}
use Rattle.std.proofs.lemmas.List.{append-nil, length-map}
use Rattle.std.proofs.lemmas.List.Elements.{All-from_recursion}
use Rattle.std.specs.Prelude.{slice_get}
use Rattle.std.proofs.lemmas.Bool.Decides.{nat_tests}
use Rattle.plfs_types.specs.declared.entries.WriterCount.{WriterCount}
use Rattle.container_layout.specs.declared.items.Item.{Item}
use Rattle.container_layout.specs.declared.items.Item.TheVariants.{Index, Log, OpenHost}
use Rattle.container_layout.specs.Paths.{IsIn, openhosts, path_of}
use Rattle.container_layout.proofs.Facts.{elsewhere}
use Rattle.container_layout.specs.Items.{IsItem}
use Rattle.plain_file.proofs.Facts.{Among}
use Rattle.store_api.specs.Acts.{Stored}
use Rattle.store_api.specs.declared.tree.Tree.{Tree}
use Rattle.store_api.specs.declared.step.Answer.{Answer}
use Rattle.store_api.specs.declared.step.Answer.TheVariants.{Names, NoFolder}
use Rattle.store_api.specs.declared.tree.Room.{Room}
use Rattle.store_laws.specs.Files.{file_at}
use Rattle.store_laws.specs.There.{ListsFolder}
use Rattle.mount_model.specs.declared.call.Ask.{Ask}
use Rattle.mount_model.specs.declared.call.Call.TheVariants.{Bury, Look}
use Rattle.mount_model.specs.declared.reply.Reply.{Reply}
use Rattle.mount_model.specs.declared.reply.Reply.TheVariants as reply
use Rattle.mount_model.specs.History.{Event}
use Rattle.mount_model.specs.Mounting.{IsMounted}
use Rattle.mount_model.specs.Recovering.{Buries, IsHostAndWriter, mend_check}
use Rattle.mount_model.specs.State.{State, last_id}
use Rattle.mount_model.specs.Step.{Answers, IsStep}
use Rattle.mount_model.proofs.Facts.{match_cases, step_cases, stop_replies}
use Rattle.mount_model.specs.declared.call.Look.TheVariants.{List as ListFolder}
use Rattle.mount_model.specs.Paths.{Name, open_path}
use Rattle.mount_model.specs.Table.{is_live, row_of}
use Rattle.mount_sound.specs.Dropping.{bytes_of}
use Rattle.mount_sound.specs.Owed.{IsLawful, IsNotLive, Owes}
use Rattle.mount_sound.specs.There.{entries_there}
use Rattle.mount_sound.specs.Sound.{IsSoundTree}
use Rattle.mount_sound.proofs.Facts.{is_open}
use Rattle.reader_laws.specs.Gathering.{Gathered}
use Rattle.reader_laws.specs.Moments.{Dropping, HadItem, IsNamed, IsSoundAt, Moment, Stood, file_in_room, file_told, index_then, landed, landed_by, log_then, moment_after, next_moment}
use Rattle.reader_laws.proofs.Gathered.Facts.{all_at, among, any_found, folder_listed, found_any, is_among, landed_whole, legal_first, legal_rest, moment-append, sound_after}
use Rattle.reader_laws.proofs.Gathered.Moments.Stepping.{sound_next}
use Rattle.script_lang.specs.Ranges.{FitsScript}
use Rattle.script_lang.specs.declared.line.Outcome.{Outcome}
use Rattle.script_lang.specs.declared.line.Outcome.TheVariants as line
use Rattle.script_lang.specs.declared.script.Statement.{Statement}
use Rattle.script_lang.specs.declared.script.Statement.TheVariants.{Close, Recover}
use Rattle.actor_core.specs.declared.kept.Kept.{Kept}
use Rattle.actor_core.specs.Endings.{Ending}
use Rattle.run_core.specs.Play.{IsRight}
use Rattle.headline_laws.specs.OneFile.{OneFile}
use Rattle.headline_laws.specs.OneWriter.{OneWriter}
use Rattle.headline_laws.specs.Recovering.{AreTold, IsBuried, IsFoundLive, IsLive, IsOpenName, NumbersRise, RecoversFile, RecoversHold, RecoversWriters}
use Rattle.headline_laws.specs.Showing.{Shows}
use Rattle.headline.specs.Run.{IsLine, Run, Says, Told, before, so_far, surely_before, told}
use Rattle.headline.specs.Trees.{Has, bytes_in, landed_in, landed_writes, log_in, logged_write, or_none}
use Rattle.headline.specs.Writers.{Writer, host_of, new_writer}
use Rattle.headline.specs.Names.{Story}
use Rattle.headline.specs.Views.{IdsRise, IsWriter, opened, stood}
use Rattle.headline.specs.Files.{reader_at}
use Rattle.headline.specs.Changes.{Writing, writing_at}
use Rattle.headline.specs.Recovered.{HasRecovered, IsStillOpen, TakesOut}
use Rattle.headline.specs.Left.{StaysOpen}
use Rattle.headline_laws.proofs.Contents.Counted.{Whole, homes, whole_of}
use Rattle.headline_laws.proofs.Contents.Cuts.{writer_between}
use Rattle.headline_laws.proofs.Contents.LineBounds.{BoundedLine}
use Rattle.headline_laws.proofs.Contents.OpenedWriter.{First, Home, Last, its_dropping, landed_rises, same_dropping, sound_first, sound_last, stands_last}
use Rattle.headline_laws.proofs.Landed.Counting.{counted_in}
use Rattle.headline_laws.proofs.Landed.Leaving.{drawn_next}
use Rattle.headline_laws.proofs.Landed.Settled.{IsOut, out_later}
use Rattle.headline_laws.proofs.Makers.Back.{has_or_not}
use Rattle.headline_laws.proofs.Makers.Holding.{answered_call}
use Rattle.headline_laws.proofs.Statements.Did.{IsOfKindOr}
use Rattle.headline_laws.proofs.Statements.Does.{Ended, did, was_gone}
use Rattle.headline_laws.proofs.Story.Lines.{AnyLine, line_here, room_of}
use Rattle.headline_laws.proofs.Story.Ordered.{not_behind}
use Rattle.headline_laws.proofs.Trees.Away.{IsAway, away_later}
use Rattle.headline_laws.proofs.Trees.Kept.{writers_kept}
use Rattle.headline_laws.proofs.Trees.Old.{begins_with}
use Rattle.headline_laws.proofs.Trees.OpenListed.{entry_drawn, entry_of_index, folder_lacking, named_stood, none_stood, one_entry, stood_named}
use Rattle.headline_laws.proofs.Trees.Reading.{fronts, last_tree}
use Rattle.headline_laws.proofs.Trees.Still.{file_of, none_or}
use Rattle.headline_laws.proofs.Trees.TakenHost.{one_host}
use Rattle.headline_laws.proofs.Trees.WriterStands.{line_stands}
use Rattle.headline_laws.proofs.Contents.OpenUntil.{StandsBehind, StandsOpen, drawn_later, drawn_rises, stands_behind, stands_open}
use Rattle.headline_laws.proofs.Statements.LivingLines.{GoesOn}

-- ---- who is told, by rising number

abbrev Id : WriterCount → ℕ
Id b = b.writer

told_all : (P : ℕ → Type 0) (writers : List ℕ) (buried : List WriterCount) (alive : List ℕ) → AreTold writers buried alive → AllByRecursion P writers → AllByRecursion P (map Id buried) × AllByRecursion P alive
told_all P [] buried alive (none, nobody) all = (subst (λ b. AllByRecursion P (map Id b)) (sym none) tt, subst (AllByRecursion P) (sym nobody) tt)
told_all P (x ∷ xs) buried alive (inl (told, others, its, is, more)) (p, all) =
    let r = told_all P xs others alive more all in
    (subst (λ b. AllByRecursion P (map Id b)) (sym is) (subst P (sym its) p, r.0), r.1)
told_all P (x ∷ xs) buried alive (inr (others, is, more)) (p, all) =
    let r = told_all P xs buried others more all in
    (r.0, subst (AllByRecursion P) (sym is) (p, r.1))

told_rise : (writers : List ℕ) (buried : List WriterCount) (alive : List ℕ) → AreTold writers buried alive → NumbersRise writers → IdsRise (map Id buried) × IdsRise alive
told_rise [] buried alive (none, nobody) rise = (subst (λ b. IdsRise (map Id b)) (sym none) tt, subst IdsRise (sym nobody) tt)
told_rise (x ∷ xs) buried alive (inl (told, others, its, is, more)) (above, rise) =
    let r = told_rise xs others alive more rise in
    let a = told_all (λ later. x < later) xs others alive more above in
    (subst (λ b. IdsRise (map Id b)) (sym is) (subst (λ k. AllByRecursion (λ later. k < later) (map Id others)) (sym its) a.0, r.0), r.1)
told_rise (x ∷ xs) buried alive (inr (others, is, more)) (above, rise) =
    let r = told_rise xs buried others more rise in
    let a = told_all (λ later. x < later) xs buried others more above in
    (r.0, subst IdsRise (sym is) (a.1, r.1))

-- ---- a writer that was buried

bury_named : (old new : State) (caller room host writer : ℕ) (asked : Ask) (rep : Reply) → asked.call ≡ Bury room host writer → rep ≡ reply.Done → IsStep old caller asked rep new → IsHostAndWriter host writer
bury_named old new caller room host writer asked rep is done step = step_cases old caller asked rep new (IsHostAndWriter host writer) step
    (λ none a. whole (subst (λ c. Answers old caller c rep new) is a))
    (λ k some x. absurd (stopped (stop_replies old caller k asked.call rep new x)))
  where
    whole : Buries room host writer old rep new → IsHostAndWriter host writer
    whole u = elim (match_cases (mend_check old room writer) _ _ u) as (λ _. IsHostAndWriter host writer) [
      | inl (fine, it) ↦ it.named
      | inr (why, because, refused) ↦ absurd (let clash : reply.Refused why ≡ reply.Done = sym refused.0 ∙ done in cc)
    ]

    stopped : (rep ≡ reply.Stopped) ⊎ (rep ≡ reply.NoMemory) → ⊥
    stopped (inl s) = let e : reply.Stopped ≡ reply.Done = sym s ∙ done in absurd (cc)
    stopped (inr s) = let e : reply.NoMemory ≡ reply.Done = sym s ∙ done in absurd (cc)

at_counted : (a b c e r : List Event) (x : Event) → a ++ ((b ++ (x ∷ c ++ e)) ++ r) ≡ (a ++ (b ++ (x ∷ c))) ++ (e ++ r)
at_counted a b c e r x =
    ap (λ z. a ++ z) (append_assoc b (x ∷ c ++ e) r ∙ ap (λ z. b ++ (x ∷ z)) (append_assoc c e r) ∙ sym (append_assoc b (x ∷ c) (e ++ r)))
    ∙ sym (append_assoc a (b ++ (x ∷ c)) (e ++ r))

-- its entry stays away, and just what was counted of it has landed
record IsTakenOut (last : Moment) (d : Dropping) (count : ℕ) : Type 0 where
  pub named : IsNamed d
  pub away : IsAway last d
  pub count_is : count ≡ landed last d

taken_out : (m : Moment) → IsSoundAt m → (n : ℕ) (earlier front rest : List Event) → IsLawful m.state (earlier ++ (front ++ rest)) → (room : ℕ) (names : List Name) (b : WriterCount) → b.writer ≤ last_id (moment_after m earlier).state
    → (i : IsBuried m n (record { before = earlier; events = front }) room names b) → IsTakenOut (moment_after m (earlier ++ (front ++ rest))) (record { room = room; host = i.burial.host; writer = b.writer }) b.count
taken_out m sound n earlier front rest lawful room names b drawn i =
    let v = i.burial in
    let d : Dropping = record { room = room; host = v.host; writer = b.writer } in
    let upto : List Event = earlier ++ (v.earlier ++ (v.inspecting ∷ v.between)) in
    let behind : List Event = v.burying ∷ v.later ++ rest in
    let is : earlier ++ (front ++ rest) ≡ upto ++ (v.more ++ behind) =
    ap (λ z. earlier ++ (z ++ rest)) i.split ∙ at_counted earlier v.earlier v.between (v.more ++ v.burying ∷ v.later) rest v.inspecting ∙ ap (λ z. upto ++ z) (append_assoc v.more (v.burying ∷ v.later) rest) in
    let whole : IsLawful m.state (upto ++ (v.more ++ behind)) = subst (IsLawful m.state) is lawful in
    let counted : Moment = moment_after m upto in
    let sound_then : IsSoundAt counted = sound_after m upto (legal_first m upto (v.more ++ behind) whole) sound in
    let on : IsLawful counted.state (v.more ++ behind) = legal_rest m upto (v.more ++ behind) whole in
    let at : Moment = moment_after counted v.more in
    let sound_at : IsSoundAt at = sound_after counted v.more (legal_first counted v.more behind on) sound_then in
    let here : IsLawful at.state behind = legal_rest counted v.more behind on in
    let owes : Owes at.state v.burying.caller (Bury room v.host b.writer) = subst (Owes at.state v.burying.caller) i.buries.asked (here.0.owes sound_at.clean) in
    let widths : IsHostAndWriter v.host b.writer = bury_named at.state v.burying.after v.burying.caller room v.host b.writer v.burying.ask v.burying.reply i.buries.asked i.buries.told here.1 in
    let named : IsNamed d = record { in_range = tt; widths = (widths.host_fits, widths.writer_fits) } in
    let next : Moment = next_moment at v.burying in
    let sound_so : IsSoundAt next = sound_next at v.burying (v.later ++ rest) here sound_at in
    let gone = i.gone sound_so.shape.tree sound_so.shape.told in
    let away : IsAway next d = record { tree = sound_so.shape.tree; told = sound_so.shape.told; away = record { room = gone.0; there = gone.1; none = gone.2 }; drawn = omega (arith, owes.1, drawn_next at v.burying (v.later ++ rest) here) } in
    let ends : moment_after m (earlier ++ (front ++ rest)) ≡ moment_after counted (v.more ++ behind) = ap (moment_after m) is ∙ moment-append m upto (v.more ++ behind) in
    let last : moment_after counted (v.more ++ behind) ≡ moment_after next (v.later ++ rest) = moment-append counted v.more behind in
    let first : List Event = earlier ++ v.earlier in
    let between : List Event = v.inspecting ∷ v.between in
    let inspected : Moment = moment_after m first in
    let parts : upto ++ (v.more ++ behind) ≡ first ++ (between ++ (v.more ++ behind)) = ap (λ z. z ++ (v.more ++ behind)) (sym (append_assoc earlier v.earlier between)) ∙ append_assoc first between (v.more ++ behind) in
    let split : IsLawful m.state (first ++ (between ++ (v.more ++ behind))) = subst (IsLawful m.state) parts whole in
    let then_on : IsLawful inspected.state (between ++ (v.more ++ behind)) = legal_rest m first (between ++ (v.more ++ behind)) split in
    let begun : Moment = moment_after m earlier in
    let begun_on : IsLawful begun.state v.earlier = legal_first begun v.earlier (between ++ (v.more ++ behind)) (legal_rest m earlier (v.earlier ++ (between ++ (v.more ++ behind))) (subst (IsLawful m.state) (append_assoc earlier v.earlier (between ++ (v.more ++ behind))) split)) in
    let drawn_then : b.writer ≤ last_id inspected.state = subst (λ (x : Moment). b.writer ≤ last_id x.state) (sym (moment-append m earlier v.earlier)) (omega (arith, drawn, drawn_later begun v.earlier begun_on)) in
    let out : IsOut inspected d = record { named = named; sound = sound_after m first (legal_first m first (between ++ (v.more ++ behind)) split) sound; dead = i.dead; drawn = drawn_then } in
    let same : counted ≡ moment_after inspected between = ap (moment_after m) (sym (append_assoc earlier v.earlier between)) ∙ moment-append m first between in
    let out_counted : IsOut counted d = subst (λ x. IsOut x d) (sym same) (out_later inspected between d out (legal_first inspected between (v.more ++ behind) then_on)).0 in
    let stays : landed (moment_after counted (v.more ++ behind)) d ≡ landed counted d = (out_later counted (v.more ++ behind) d out_counted on).1 in
    record {
      named = named;
      away = subst (λ x. IsAway x d) (sym (ends ∙ last)) (away_later next (v.later ++ rest) d named sound_so here.2 away);
      count_is = subst (λ x. b.count ≡ landed x d) (sym ends) (sym (stays ∙ i.counted));
    }

-- ---- who is told

pub each_among : {X : Type 0} (P : X → Type 0) (xs : List X) → ((x : X) → Among x xs → P x) → AllByRecursion P xs
each_among P [] each = tt
each_among P (x ∷ xs) each = (each x (inl refl), each_among P xs (λ y at. each y (inr at)))

-- of those who had it open each is told as buried or as alive
told_one : (id : ℕ) (writers : List ℕ) (buried : List WriterCount) (alive : List ℕ) → AreTold writers buried alive → Among id writers → ((b : WriterCount) × Among b buried × (b.writer ≡ id)) ⊎ Among id alive
told_one id [] buried alive told at = absurd at
told_one id (x ∷ xs) buried alive (inl (told, others, its, is, more)) (inl same) = inl (told, subst (Among told) (sym is) (inl refl), its ∙ sym same)
told_one id (x ∷ xs) buried alive (inr (others, is, more)) (inl same) = inr (subst (Among id) (sym is) (inl same))
told_one id (x ∷ xs) buried alive (inl (told, others, its, is, more)) (inr at) = elim (told_one id xs others alive more at) as (λ _. ((b : WriterCount) × Among b buried × (b.writer ≡ id)) ⊎ Among id alive) [
  | inl (b, there, same) ↦ inl (b, subst (Among b) (sym is) (inr there), same)
  | inr there ↦ inr there
]
told_one id (x ∷ xs) buried alive (inr (others, is, more)) (inr at) = elim (told_one id xs buried others more at) as (λ _. ((b : WriterCount) × Among b buried × (b.writer ≡ id)) ⊎ Among id alive) [
  | inl found ↦ inl found
  | inr there ↦ inr (subst (Among id) (sym is) (inr there))
]

-- who is told as alive had it open
alive_among : (id : ℕ) (writers : List ℕ) (buried : List WriterCount) (alive : List ℕ) → AreTold writers buried alive → Among id alive → Among id writers
alive_among id [] buried alive (none, nobody) at = absurd (subst (Among id) nobody at)
alive_among id (x ∷ xs) buried alive (inl (told, others, its, is, more)) at = inr (alive_among id xs others alive more at)
alive_among id (x ∷ xs) buried alive (inr (others, is, more)) at = elim (subst (Among id) is at) as (λ _. Among id (x ∷ xs)) [
  | inl same ↦ inl same
  | inr there ↦ inr (alive_among id xs buried others more there)
]

-- ---- a line

-- its statement recovered a container
record RecoversSo (m : Moment) (n : ℕ) (before front : List Event) (o : Outcome) (room : ℕ) : Type 0 where
  pub name : List ℕ
  pub buried : List WriterCount
  pub alive : List ℕ
  pub hold : Bool
  pub is : o ≡ line.Recovered buried alive hold
  pub file : RecoversFile m n (record { before = before; events = front }) name buried alive hold
  pub its_room : room ≡ file.room

recovers_so : (m : Moment) (n : ℕ) (before front : List Event) (nothing : ℕ) (old new : Option OneFile) (w : Option OneWriter) (name : List ℕ) (out : List WriterCount) (alive : List ℕ) (hold : Bool) (s : Statement) (o : Outcome) → s ≡ Recover name → o ≡ line.Recovered out alive hold
    → (shows : Shows m n (record { before = before; events = front }) old s o new) → RecoversSo m n before front o (room_of m n (record { before = before; events = front }) nothing old new w s o shows)
recovers_so m n before front nothing old new w name out alive hold (Recover name2) (line.Recovered out2 alive2 hold2) is says shows = record { name = name2; buried = out2; alive = alive2; hold = hold2; is = refl; file = shows.1; its_room = refl }
recovers_so m n before front nothing old new w name out alive hold s o is says shows = absurd (cc)

recover_of : (s : Statement) (out : List WriterCount) (alive : List ℕ) (hold : Bool) → IsOfKindOr s (line.Recovered out alive hold) → (name : List ℕ) × (s ≡ Recover name)
recover_of (Recover name) out alive hold kind = (name, refl)
recover_of s out alive hold kind = absurd kind

was_recover : (kept : Kept) (s : Statement) (e : Ending) (out : List WriterCount) (alive : List ℕ) (hold : Bool) → e.outcome ≡ line.Recovered out alive hold → Ended kept s e → (name : List ℕ) × (s ≡ Recover name)
was_recover kept s e out alive hold says (was_gone is over now) = absurd (let clash : line.Gone ≡ line.Recovered out alive hold = sym over ∙ says in cc)
was_recover kept s e out alive hold says (did lives d) = recover_of s out alive hold (subst (IsOfKindOr s) says d.kind)

-- ---- what has landed in a tree

-- where something has landed, the index stands
landed_stands : (m : Moment) (d : Dropping) → IsNamed d → 1 ≤ landed m d → Stood m d
landed_stands m d named some = by (index_then m d) refl
  where
    by : (o : Option (List ℕ)) → index_then m d ≡ o → Stood m d
    by None is = absurd (let none : landed m d ≡ 0 = ap (λ x. length (entries_there (bytes_of x) (bytes_of (log_then m d)))) is in omega (arith, some, none))
    by (Some bytes) is = record { is_item = named; bytes = bytes; there = is }

-- and the tree tells as many writes
many_told : (m : Moment) (tree : Tree) (d : Dropping) → m.state.store.tree ≡ Some tree → landed m d ≡ length (landed_writes tree d.room d.host d.writer)
many_told m tree d told =
    let file : (item : Item) → or_none (bytes_in tree d.room item) ≡ bytes_of (file_told m.state.store.tree d.room (path_of item)) = λ item. none_or (bytes_in tree d.room item) ∙ ap bytes_of (file_of tree d.room item ∙ ap (λ o. file_told o d.room (path_of item)) (sym told)) in
    let index = file (Index d.host d.writer) in
    let log = file (Log d.host d.writer) in
    let same : landed_writes tree d.room d.host d.writer ≡ landed_in (bytes_of (index_then m d)) (bytes_of (log_then m d)) = ap (λ x. landed_in x (log_in tree d.room d.host d.writer)) index ∙ ap (λ x. landed_in (bytes_of (index_then m d)) x) log in
    sym (ap length same ∙ length-map (landed_by m d) (logged_write (bytes_of (log_then m d))))

module _ (run : Run) (times : Option (List ℕ)) (mount : Stored) (start end : State) (fits : FitsScript run.script) (mounted : IsMounted 0 times mount start) (tells : mount.tree ≡ Some run.before) (sound : IsSoundTree run.before)
    (right : IsRight run.script start run.lines end) (left : end.store.tree ≡ Some run.after) where
  abbrev Begins : Moment
  Begins = First run times mount start end fits mounted tells sound right left

  abbrev sound_begins : IsSoundAt Begins
  sound_begins = sound_first run times mount start end fits mounted tells sound right left

  abbrev Ends : Moment
  Ends = Last run times mount start end fits mounted tells sound right left

  abbrev HomeOf : Told → ℕ
  HomeOf t = Home run times mount start end fits mounted tells sound right left t

  abbrev Homes : Story
  Homes = homes run times mount start end fits mounted tells sound right left

  last_is : Ends.state.store.tree ≡ Some run.after
  last_is = last_tree run Begins end fits sound_begins right left

  -- ---- who it is

  -- a writer of the container has its index there
  index_of : (t : Told) (w : Writer) → IsWriter run Homes (HomeOf t) (before run t) (so_far run t) w → Stood Ends (record { room = HomeOf t; host = w.host; writer = w.id })
  index_of t w (stood is_item has is) =
      let had : HadItem Begins (HomeOf t) (Index w.host w.id) = begins_with run times mount start end fits mounted tells sound right (HomeOf t) (Index w.host w.id) is_item (λ e. elsewhere (ap (λ (name : List ℕ). get_or name 0 0) e) refl) has in
      stands_last run times mount start end fits mounted tells sound right left [] right.history (record { room = HomeOf t; host = w.host; writer = w.id }) refl had
  index_of t w (opened o is_line says home is) =
      let its : Says run o (line.Opened w.id) = record { is_line = is_line; says = says } in
      let l = line_stands run Begins end fits sound_begins right o w.id its in
      let k = its_dropping run times mount start end fits mounted tells sound right left o w.id its l.number l.stands.dropping l.stands.entered l.stands.its_id in
      let same : l.stands.dropping ≡ record { room = HomeOf t; host = w.host; writer = w.id } = (let room = k.room ∙ home in let host = k.host ∙ sym (ap (λ (x : Writer). x.host) is) in λ i. record { room = room i; host = host i; writer = l.stands.its_id i }) in
      subst (Stood Ends) same k.stood

  its_writer : (t : Told) (d : Dropping) → d.room ≡ HomeOf t → IsNamed d → 1 ≤ landed Ends d → (w : Writer) × (w.id ≡ d.writer) × (w.host ≡ d.host) × IsWriter run Homes (HomeOf t) (before run t) (so_far run t) w
  its_writer t d room named some =
      let ends = sound_last run times mount start end fits mounted tells sound right left in
      let few = landed_whole Ends ends d named in
      let g : Gathered = record { dropping = d; packed = false; covered = 0; count = 1; tail = [] } in
      let w : Whole run times mount start end fits mounted tells sound right left t d.writer = whole_of run times mount start end fits mounted tells sound right left t Ends right.history [] (sym (append-nil right.history)) refl g room (omega arith) (omega (arith, some, few)) in
      let one = same_dropping run times mount start end fits mounted tells sound right left d (record { room = HomeOf t; host = w.writer.host; writer = w.writer.id }) (landed_stands Ends d named some) (index_of t w.writer w.is_writer) (sym room) w.its_id in
      (w.writer, w.its_id, ap (λ (x : Dropping). x.host) one, w.is_writer)

  -- ---- an entry that stood, or is gone

  -- it is one of the tree after
  had_last : (n : ℕ) (item : Item) → IsItem item → Has run.after n item → HadItem Ends n item
  had_last n item is_item has = record { is_item = is_item; bytes = has.0; there = ap (λ o. file_told o n (path_of item)) last_is ∙ sym (file_of run.after n item) ∙ has.1 }

  -- where it is away, it isn't there
  pub away_not : (m : Moment) (d : Dropping) → IsAway m d → HadItem m d.room (OpenHost d.host d.writer) → ⊥
  away_not m d a had =
      let none : file_told m.state.store.tree d.room (open_path d.host d.writer) ≡ None = ap (λ o. file_told o d.room (open_path d.host d.writer)) a.told ∙ ap (λ r. file_in_room r (open_path d.host d.writer)) a.away.there ∙ a.away.none in
      let clash : None ≡ Some had.bytes = sym none ∙ had.there in
      absurd (cc)

  -- and stays so
  pub away_rises : (x xs y ys : List Event) → right.history ≡ x ++ xs → right.history ≡ y ++ ys → length x ≤ length y → (d : Dropping) → IsNamed d → IsAway (moment_after Begins x) d → IsAway (moment_after Begins y) d
  away_rises x xs y ys is also le d named a =
      let gap = fronts x xs y ys (sym is ∙ also) le in
      let split : right.history ≡ x ++ (gap.0 ++ ys) = also ∙ ap (λ z. z ++ ys) gap.1 ∙ append_assoc x gap.0 ys in
      let lawful : IsLawful Begins.state (x ++ (gap.0 ++ ys)) = subst (IsLawful Begins.state) split right.leads.lawful in
      let later = away_later (moment_after Begins x) gap.0 d named (sound_after Begins x (legal_first Begins x (gap.0 ++ ys) lawful) sound_begins) (legal_first (moment_after Begins x) gap.0 ys (legal_rest Begins x (gap.0 ++ ys) lawful)) a in
      subst (λ m. IsAway m d) (sym (ap (moment_after Begins) gap.1 ∙ moment-append Begins x gap.0)) later

  -- nobody has the number of an entry that stood at first in the table, then and later
  pub never_live : (n host id : ℕ) → HadItem Begins n (OpenHost host id) → (events rest : List Event) → right.history ≡ events ++ rest → IsLive (moment_after Begins events).state id → ⊥
  never_live n host id begins events rest is live =
      let d : Dropping = record { room = n; host = host; writer = id } in
      let out : IsOut Begins d = record { named = record { in_range = tt; widths = (begins.is_item.widths.0, begins.is_item.widths.1) }; sound = sound_begins; dead = dead; drawn = entry_drawn Begins sound_begins n host id begins } in
      let later = out_later Begins events d out (legal_first Begins events rest (subst (IsLawful Begins.state) is right.leads.lawful)) in
      let none : is_live live.0.stage ≡ false = later.0.dead live.0 live.1 in
      let clash : true ≡ false = sym live.2 ∙ none in
      absurd (cc)
    where
      dead : IsNotLive Begins.state id
      dead row e = let none : row_of id [] ≡ Some row = ap (λ rows. row_of id rows) (sym mounted.no_writers) ∙ e in absurd (cc)

  -- ---- the line

  -- the writer's entry stood at a moment of the line's part
  pub record StoodIn (t : Told) (host id : ℕ) (r : Option Told) (w : Writing) (l : AnyLine run Begins end fits sound_begins right r w t) : Type 0 where
    pub es : List Event
    pub rest : List Event
    pub all : right.history ≡ es ++ rest
    pub behind : length l.line.part.earlier ≤ length es
    pub within : length es ≤ length l.line.part.earlier + length l.line.part.mine
    pub entry : HadItem (moment_after Begins es) (HomeOf t) (OpenHost host id)

  -- one that was live behind that
  pub record LivedIn (t : Told) (id : ℕ) (r : Option Told) (w : Writing) (l : AnyLine run Begins end fits sound_begins right r w t) : Type 0 where
    pub host : ℕ
    pub stood_in : StoodIn t host id r w l
    pub found : List Event
    pub more : List Event
    pub found_is : right.history ≡ found ++ more
    pub live : IsLive (moment_after Begins found).state id

  -- one that was taken out, under a host that the format has
  pub record TakenSo (t : Told) (b : WriterCount) : Type 0 where
    pub takes : TakesOut run Homes t b
    pub is_item : IsItem (OpenHost takes.host b.writer)

  module _ (t : Told) (out : List WriterCount) (alive : List ℕ) (hold : Bool) (says : Says run t (line.Recovered out alive hold)) where
    -- however the lines of its actor are split
    module _ (r : Option Told) (w : Writing) (l : AnyLine run Begins end fits sound_begins right r w t) where
      abbrev front : List Event
      front = l.line.shown.front

      abbrev behind : List Event
      behind = l.line.shown.rest ++ l.line.part.later

      recovers : RecoversSo Begins l.number l.line.part.earlier front t.outcome (HomeOf t)
      recovers =
          let h = l.line.shown in
          let asked = was_recover l.line.kept t.statement l.line.part.e out alive hold (sym l.line.says ∙ says.says) l.line.part.ended in
          subst (RecoversSo Begins l.number l.line.part.earlier front t.outcome) (sym l.line.here)
          (recovers_so Begins l.number l.line.part.earlier front (length run.after.rooms) l.line.file h.new h.new_writer asked.0 out alive hold t.statement t.outcome asked.1 says.says h.shows)

      all : right.history ≡ l.line.part.earlier ++ (front ++ behind)
      all = l.line.part.split ∙ ap (λ z. l.line.part.earlier ++ (z ++ l.line.part.later)) l.line.shown.split ∙ ap (λ z. l.line.part.earlier ++ z) (append_assoc front l.line.shown.rest l.line.part.later)

      -- in its part its actor listed who had the container open
      record Listing : Type 0 where
        pub earlier : List Event
        pub listing : Event
        pub later : List Event
        pub split : front ≡ earlier ++ listing ∷ later
        pub looks : listing.ask.call ≡ Look (HomeOf t) (ListFolder openhosts)

      -- what it tells is so behind that, or there was no folder to be listed
      abbrev TellsSo : Listing → List WriterCount → List ℕ → Bool → Type 0
      TellsSo x buried living ended =
          ((ended ≡ false) × RecoversWriters Begins l.number (record { before = l.line.part.earlier ++ (x.earlier ++ x.listing ∷ []); events = x.later }) (HomeOf t) x.listing.reply buried living)
          ⊎ ((x.listing.reply ≡ reply.Looked NoFolder) × (buried ≡ []) × (living ≡ []))

      lists_so : (x : Listing) × TellsSo x out alive hold
      lists_so = by recovers
        where
          from : (q : RecoversSo Begins l.number l.line.part.earlier front t.outcome (HomeOf t)) → (x : Listing) × TellsSo x q.buried q.alive q.hold
          from q = (x, telling q.file.tells)
            where
              f : RecoversFile Begins l.number (record { before = l.line.part.earlier; events = front }) q.name q.buried q.alive q.hold
              f = q.file

              x : Listing
              x = record {
                earlier = f.earlier ++ (f.finding ∷ f.more);
                listing = f.listing;
                later = f.later;
                split = f.split ∙ sym (append_assoc f.earlier (f.finding ∷ f.more) (f.listing ∷ f.later));
                looks = f.looks ∙ ap (λ k. Look k (ListFolder openhosts)) (sym q.its_room);
              }

              There : List Event → ℕ → Type 0
              There before room = RecoversWriters Begins l.number (record { before = l.line.part.earlier ++ before; events = f.later }) room f.listing.reply q.buried q.alive

              telling : ((q.hold ≡ false) × RecoversWriters Begins l.number (record { before = l.line.part.earlier ++ (f.earlier ++ (f.finding ∷ f.more ++ f.listing ∷ [])); events = f.later }) f.room f.listing.reply q.buried q.alive)
                  ⊎ RecoversHold l.number (record { before = l.line.part.earlier; events = front }) f.room f.listing.reply q.buried q.alive q.hold → TellsSo x q.buried q.alive q.hold
              telling (inl (none, v)) = inl (none, subst (λ z. There z (HomeOf t)) (sym (append_assoc f.earlier (f.finding ∷ f.more) (f.listing ∷ []))) (subst (There (f.earlier ++ (f.finding ∷ f.more ++ f.listing ∷ []))) (sym q.its_room) v))
              telling (inr h) = inr (h.listed, h.none_buried, h.none_alive)

          by : RecoversSo Begins l.number l.line.part.earlier front t.outcome (HomeOf t) → (x : Listing) × TellsSo x out alive hold
          by q =
              let same : line.Recovered q.buried q.alive q.hold ≡ line.Recovered out alive hold = sym q.is ∙ says.says in
              let outs : q.buried ≡ out = cc in
              let alives : q.alive ≡ alive = cc in
              let holds : q.hold ≡ hold = cc in
              let f = from q in
              (f.0, subst (λ b. TellsSo f.0 b alive hold) outs (subst (λ a. TellsSo f.0 q.buried a hold) alives (subst (TellsSo f.0 q.buried q.alive) holds f.1)))

      -- ---- the moment of the listing

      module _ (x : Listing) where
        abbrev till : List Event
        till = l.line.part.earlier ++ x.earlier

        abbrev upto : List Event
        upto = l.line.part.earlier ++ (x.earlier ++ x.listing ∷ [])

        till_split : right.history ≡ till ++ (x.listing ∷ (x.later ++ behind))
        till_split = all ∙ ap (λ z. l.line.part.earlier ++ (z ++ behind)) x.split ∙ ap (λ z. l.line.part.earlier ++ z) (append_assoc x.earlier (x.listing ∷ x.later) behind) ∙ sym (append_assoc l.line.part.earlier x.earlier (x.listing ∷ (x.later ++ behind)))

        upto_is : upto ≡ till ++ x.listing ∷ []
        upto_is = sym (append_assoc l.line.part.earlier x.earlier (x.listing ∷ []))

        upto_split : right.history ≡ upto ++ (x.later ++ behind)
        upto_split = till_split ∙ sym (append_assoc till (x.listing ∷ []) (x.later ++ behind)) ∙ ap (λ z. z ++ (x.later ++ behind)) (sym upto_is)

        abbrev At : Moment
        At = moment_after Begins till

        lawful_from : IsLawful At.state (x.listing ∷ (x.later ++ behind))
        lawful_from = legal_rest Begins till (x.listing ∷ (x.later ++ behind)) (subst (IsLawful Begins.state) till_split right.leads.lawful)

        sound_at : IsSoundAt At
        sound_at = sound_after Begins till (legal_first Begins till (x.listing ∷ (x.later ++ behind)) (subst (IsLawful Begins.state) till_split right.leads.lawful)) sound_begins

        -- what the listing was answered
        answered_so : (answer : Answer) → x.listing.reply ≡ reply.Looked answer → Answers At.state x.listing.caller (Look (HomeOf t) (ListFolder openhosts)) (reply.Looked answer) x.listing.after
        answered_so answer told =
            subst (λ rep. Answers At.state x.listing.caller (Look (HomeOf t) (ListFolder openhosts)) rep x.listing.after) told
            (subst (λ c. Answers At.state x.listing.caller c x.listing.reply x.listing.after) x.looks
            (answered_call At.state x.listing lawful_from.1 (λ is. let clash : reply.Stopped ≡ reply.Looked answer = sym is ∙ told in absurd (cc)) (λ is. let clash : reply.NoMemory ≡ reply.Looked answer = sym is ∙ told in absurd (cc))))

        -- an entry that isn't there then is never there later
        never_at : (host id : ℕ) → IsItem (OpenHost host id) → id ≤ last_id At.state → (room : Room) → slice_get sound_at.shape.tree.rooms (HomeOf t) ≡ Some room → (HadItem At (HomeOf t) (OpenHost host id) → ⊥) → (z zs : List Event) → right.history ≡ z ++ zs → length till ≤ length z
            → HadItem (moment_after Begins z) (HomeOf t) (OpenHost host id) → ⊥
        never_at host id is_item drawn room there none z zs is far had =
            let d : Dropping = record { room = HomeOf t; host = host; writer = id } in
            let a : IsAway At d = record { tree = sound_at.shape.tree; told = sound_at.shape.told; away = record { room = room; there = there; none = by (file_at room (open_path host id)) refl }; drawn = drawn } in
            away_not (moment_after Begins z) d (away_rises till (x.listing ∷ (x.later ++ behind)) z zs till_split is far d (record { in_range = tt; widths = (is_item.widths.0, is_item.widths.1) }) a) had
          where
            by : (o : Option (List ℕ)) → file_at room (open_path host id) ≡ o → file_at room (open_path host id) ≡ None
            by None is = is
            by (Some bytes) is = absurd (none (record { is_item = is_item; bytes = bytes; there = ap (λ o. file_told o (HomeOf t) (open_path host id)) sound_at.shape.told ∙ ap (λ o. file_in_room o (open_path host id)) there ∙ is }))

        till_short : length till ≤ length l.line.part.earlier + length l.line.part.mine
        till_short =
            let a = length-append l.line.part.earlier x.earlier in
            let b = ap length l.line.shown.split ∙ length-append front l.line.shown.rest in
            let c = ap length x.split ∙ length-append x.earlier (x.listing ∷ x.later) in
            omega (arith, a, b, c)

        -- its moment is one of the line's part
        stood_at : (host id : ℕ) → HadItem At (HomeOf t) (OpenHost host id) → StoodIn t host id r w l
        stood_at host id had = record { es = till; rest = x.listing ∷ (x.later ++ behind); all = till_split; behind = (let long = length-append l.line.part.earlier x.earlier in omega (arith, long)); within = till_short; entry = had }

        line_long : length l.line.part.earlier + length l.line.part.mine ≤ length right.history
        line_long = let a = ap length l.line.part.split ∙ length-append l.line.part.earlier (l.line.part.mine ++ l.line.part.later) in let b = length-append l.line.part.mine l.line.part.later in omega (arith, a, b)

        all_long : length till ≤ length right.history
        all_long = let a = ap length till_split ∙ length-append till (x.listing ∷ (x.later ++ behind)) in omega (arith, a)

        -- ---- who was told

        module _ (v : RecoversWriters Begins l.number (record { before = upto; events = x.later }) (HomeOf t) x.listing.reply out alive) where
          lists : ListsFolder sound_at.shape.tree (HomeOf t) openhosts v.names
          lists = folder_listed At sound_at x.listing.caller (HomeOf t) openhosts v.names x.listing.after (answered_so (Names v.names) v.listed)

          abbrev Buried : WriterCount → Type 0
          Buried b = IsBuried Begins l.number (record { before = upto; events = x.later }) (HomeOf t) v.names b

          is_buried : (b : WriterCount) → Among b out → Buried b
          is_buried b at = all_at Buried out b v.taken_out at

          -- its entry stood
          stood_then : (b : WriterCount) (i : Buried b) → HadItem At (HomeOf t) (OpenHost i.burial.host b.writer)
          stood_then b i = named_stood At sound_at (HomeOf t) v.names lists i.burial.host b.writer i.listed

          drawn_then : (b : WriterCount) → Buried b → b.writer ≤ last_id (moment_after Begins upto).state
          drawn_then b i =
              let drawn = entry_drawn At sound_at (HomeOf t) i.burial.host b.writer (stood_then b i) in
              let rise = drawn_next At x.listing (x.later ++ behind) lawful_from in
              subst (λ (m : Moment). b.writer ≤ last_id m.state) (sym (ap (moment_after Begins) upto_is ∙ moment-append Begins till (x.listing ∷ []))) (omega (arith, drawn, rise))

          abbrev d_of : (b : WriterCount) → Buried b → Dropping
          d_of b i = record { room = HomeOf t; host = i.burial.host; writer = b.writer }

          -- by any later moment
          taken_by : (b : WriterCount) (i : Buried b) (rest more : List Event) → behind ≡ rest ++ more → IsTakenOut (moment_after Begins (upto ++ (x.later ++ rest))) (d_of b i) b.count
          taken_by b i rest more is =
              taken_out Begins sound_begins l.number upto x.later rest
              (legal_first Begins (upto ++ (x.later ++ rest)) more
              (subst (IsLawful Begins.state) (upto_split ∙ ap (λ z. upto ++ (x.later ++ z)) is ∙ ap (λ z. upto ++ z) (sym (append_assoc x.later rest more)) ∙ sym (append_assoc upto (x.later ++ rest) more)) right.leads.lawful))
              (HomeOf t) v.names b (drawn_then b i) i

          taken_last : (b : WriterCount) (i : Buried b) → IsTakenOut Ends (d_of b i) b.count
          taken_last b i = subst (λ m. IsTakenOut m (d_of b i) b.count) (sym (ap (moment_after Begins) upto_split)) (taken_by b i behind [] (sym (append-nil behind)))

          -- ---- how many of its writes are counted

          abbrev Of_line : List Event
          Of_line = l.line.part.earlier ++ l.line.part.mine

          line_is : Of_line ≡ upto ++ (x.later ++ l.line.shown.rest)
          line_is =
              ap (λ z. l.line.part.earlier ++ z) (l.line.shown.split ∙ ap (λ z. z ++ l.line.shown.rest) x.split ∙ append_assoc x.earlier (x.listing ∷ x.later) l.line.shown.rest)
              ∙ sym (append_assoc l.line.part.earlier x.earlier (x.listing ∷ (x.later ++ l.line.shown.rest)))
              ∙ sym (append_assoc till (x.listing ∷ []) (x.later ++ l.line.shown.rest))
              ∙ ap (λ z. z ++ (x.later ++ l.line.shown.rest)) (sym upto_is)

          taken_here : (b : WriterCount) (i : Buried b) → IsTakenOut (moment_after Begins Of_line) (d_of b i) b.count
          taken_here b i = subst (λ z. IsTakenOut (moment_after Begins z) (d_of b i) b.count) (sym line_is) (taken_by b i l.line.shown.rest l.line.part.later refl)

          its_count : (b : WriterCount) (id : ℕ) → id ≡ b.writer → counted_in id (b ∷ []) ≡ b.count
          its_count b id is = (let same : nat_eq b.writer id ≡ true = grind (arith, nat_tests) in ap (λ c. if c then b.count else 0) same)

          bounded_so : (b : WriterCount) (i : Buried b) (d : Dropping) → Stood Ends d → d.room ≡ HomeOf t → d.writer ≡ b.writer → BoundedLine run times mount start end fits mounted tells sound right left t (b ∷ []) [] d l.line.part.earlier l.line.part.mine
          bounded_so b i d stands home its = record { low = low; high = high }
            where
              none_or_some : (n : ℕ) → (n ≡ 0) ⊎ (1 ≤ n)
              none_or_some zero = inl refl
              none_or_some (suc n) = inr (omega arith)

              count : counted_in d.writer (b ∷ []) ≡ b.count
              count = its_count b d.writer its

              here : IsTakenOut (moment_after Begins Of_line) (d_of b i) b.count
              here = taken_here b i

              last : IsTakenOut Ends (d_of b i) b.count
              last = taken_last b i

              low : (y ys : List Event) → right.history ≡ y ++ ys → length y ≤ length l.line.part.earlier → landed (moment_after Begins y) d ≤ counted_in d.writer (b ∷ [])
              low y ys is short = elim (none_or_some (landed (moment_after Begins y) d)) as (λ _. landed (moment_after Begins y) d ≤ counted_in d.writer (b ∷ [])) [
                | inl zero_is ↦ omega (arith, zero_is)
                | inr some ↦
                    let long = length-append l.line.part.earlier x.earlier in
                    let rise = landed_rises run times mount start end fits mounted tells sound right left d y till ys (x.listing ∷ (x.later ++ behind)) stands.is_item is till_split (omega (arith, short, long)) in
                    let there : Stood At d = landed_stands At d stands.is_item (omega (arith, some, rise)) in
                    let hosts : i.burial.host ≡ d.host = entry_of_index At sound_at (HomeOf t) i.burial.host d.host b.writer (stood_then b i) (subst (λ k. Stood At (record { room = HomeOf t; host = d.host; writer = k })) its (subst (λ k. Stood At (record { room = k; host = d.host; writer = d.writer })) home there)) in
                    let same : d_of b i ≡ d = (let rooms = sym home in let ids = sym its in λ j. record { room = rooms j; host = hosts j; writer = ids j }) in
                    let ends = last.count_is ∙ ap (landed Ends) same in
                    let grown = landed_rises run times mount start end fits mounted tells sound right left d y right.history ys [] stands.is_item is (sym (append-nil right.history)) (let whole = ap length is ∙ length-append y ys in omega (arith, whole)) in
                    omega (arith, count, ends, grown)
              ]

              high : (y ys : List Event) → right.history ≡ y ++ ys → length l.line.part.earlier + length l.line.part.mine ≤ length y → counted_in d.writer (b ∷ []) ≤ landed (moment_after Begins y) d
              high y ys is far = elim (none_or_some b.count) as (λ _. counted_in d.writer (b ∷ []) ≤ landed (moment_after Begins y) d) [
                | inl zero_is ↦ omega (arith, zero_is, count)
                | inr some ↦
                    let there : Stood Ends (d_of b i) = landed_stands Ends (d_of b i) last.named (let ends = last.count_is in omega (arith, some, ends)) in
                    let same : d_of b i ≡ d = same_dropping run times mount start end fits mounted tells sound right left d (d_of b i) stands there (sym home) (sym its) in
                    let now = here.count_is ∙ ap (landed (moment_after Begins Of_line)) same in
                    let long = length-append l.line.part.earlier l.line.part.mine in
                    let grown = landed_rises run times mount start end fits mounted tells sound right left d Of_line y l.line.part.later ys stands.is_item (l.line.part.split ∙ sym (append_assoc l.line.part.earlier l.line.part.mine l.line.part.later)) is (omega (arith, far, long)) in
                    omega (arith, count, now, grown)
              ]

          -- ---- behind the line no entry of its number stands, under whatever host

          gone_all : (b : WriterCount) → Buried b → (host : ℕ) (z zs : List Event) → right.history ≡ z ++ zs → length l.line.part.earlier + length l.line.part.mine ≤ length z → HadItem (moment_after Begins z) (HomeOf t) (OpenHost host b.writer) → ⊥
          gone_all b i host z zs is far had = elim (has_or_not At (HomeOf t) (OpenHost host b.writer) had.is_item) as (λ _. ⊥) [
            | inr none ↦ never_at host b.writer had.is_item (entry_drawn At sound_at (HomeOf t) i.burial.host b.writer (stood_then b i)) lists.room lists.has_room none z zs is (let short = till_short in omega (arith, short, far)) had
            | inl standing ↦
                let hosts : i.burial.host ≡ host = one_entry At sound_at (HomeOf t) i.burial.host host b.writer (stood_then b i) standing in
                let k = taken_here b i in
                away_not (moment_after Begins z) (d_of b i)
                (away_rises Of_line l.line.part.later z zs (l.line.part.split ∙ sym (append_assoc l.line.part.earlier l.line.part.mine l.line.part.later)) is (let long = length-append l.line.part.earlier l.line.part.mine in omega (arith, long, far)) (d_of b i) k.named k.away)
                (subst (λ h. HadItem (moment_after Begins z) (HomeOf t) (OpenHost h b.writer)) (sym hosts) had)
          ]

          -- ---- who has an entry behind the line was listed, where its number was drawn by then

          named_so : (host id : ℕ) → id ≤ last_id At.state → (z zs : List Event) → right.history ≡ z ++ zs → length l.line.part.earlier + length l.line.part.mine ≤ length z → HadItem (moment_after Begins z) (HomeOf t) (OpenHost host id) → Among id alive
          named_so host id drawn z zs is far had = elim (has_or_not At (HomeOf t) (OpenHost host id) had.is_item) as (λ _. Among id alive) [
            | inr none ↦ absurd (never_at host id had.is_item drawn lists.room lists.has_room none z zs is (let short = till_short in omega (arith, short, far)) had)
            | inl standing ↦ elim (told_one id v.writers out alive v.each (among v.writers id (v.were_open.all id (stood_named At sound_at (HomeOf t) v.names lists host id standing)))) as (λ _. Among id alive) [
              | inl (b, at, same) ↦ absurd (gone_all b (is_buried b at) host z zs is far (subst (λ k. HadItem (moment_after Begins z) (HomeOf t) (OpenHost host k)) (sym same) had))
              | inr at ↦ at
            ]
          ]

          -- ---- who is told as alive was listed, and found live behind that

          its_name : (id : ℕ) → Among id alive → (host : ℕ) × Any (λ name. IsIn openhosts name (OpenHost host id)) v.names
          its_name id at =
              let f = any_found (λ name. IsOpenName name id) v.names (all_at (λ writer. Any (λ name. IsOpenName name writer) v.names) v.writers id v.were_open.named (alive_among id v.writers out alive v.each at)) in
              (f.2.0, found_any (λ name. IsIn openhosts name (OpenHost f.2.0 id)) v.names f.0 f.1 f.2.1)

          lived_then : (id : ℕ) → Among id alive → LivedIn t id r w l
          lived_then id at =
              let n = its_name id at in
              let g = all_at (λ writer. IsFoundLive Begins l.number (record { before = upto; events = x.later }) writer) alive id v.found_live at in
              record {
                host = n.0;
                stood_in = stood_at n.0 id (named_stood At sound_at (HomeOf t) v.names lists n.0 id n.1);
                found = upto ++ g.earlier;
                more = g.inspecting ∷ g.later ++ behind;
                found_is = upto_split ∙ ap (λ z. upto ++ (z ++ behind)) g.split ∙ ap (λ z. upto ++ z) (append_assoc g.earlier (g.inspecting ∷ g.later) behind) ∙ sym (append_assoc upto g.earlier (g.inspecting ∷ g.later ++ behind));
                live = g.live;
              }

          -- ---- none is left of the tree before

          module _ (host id : ℕ) (is_item : IsItem (OpenHost host id)) (had : Has run.before (HomeOf t) (OpenHost host id)) where
            begins : HadItem Begins (HomeOf t) (OpenHost host id)
            begins = begins_with run times mount start end fits mounted tells sound right (HomeOf t) (OpenHost host id) is_item (λ e. elsewhere (ap (λ (name : List ℕ). get_or name 0 0) e) refl) had

            drawn_first : id ≤ last_id Begins.state
            drawn_first = entry_drawn Begins sound_begins (HomeOf t) host id begins

            gone_after : Has run.after (HomeOf t) (OpenHost host id) → ⊥
            gone_after left_there =
                let rise = drawn_later Begins till (legal_first Begins till (x.listing ∷ (x.later ++ behind)) (subst (IsLawful Begins.state) till_split right.leads.lawful)) in
                let first = drawn_first in
                let lived = lived_then id (named_so host id (omega (arith, first, rise)) right.history [] (sym (append-nil right.history)) line_long (had_last (HomeOf t) (OpenHost host id) is_item left_there)) in
                never_live (HomeOf t) host id begins lived.found lived.more lived.found_is lived.live

        -- where there was no folder to be listed, no entry stood, and none is left whose number was drawn by then
        none_so : x.listing.reply ≡ reply.Looked NoFolder → (host id : ℕ) → id ≤ last_id At.state → (z zs : List Event) → right.history ≡ z ++ zs → length till ≤ length z → HadItem (moment_after Begins z) (HomeOf t) (OpenHost host id) → ⊥
        none_so nobody host id drawn z zs is far had =
            let lacks = folder_lacking At sound_at (HomeOf t) x.listing.caller x.listing.after (answered_so NoFolder nobody) in
            never_at host id had.is_item drawn lacks.room lacks.has_room (none_stood At sound_at (HomeOf t) x.listing.caller x.listing.after (answered_so NoFolder nobody) host id) z zs is far had

        none_old : x.listing.reply ≡ reply.Looked NoFolder → (host id : ℕ) → IsItem (OpenHost host id) → Has run.before (HomeOf t) (OpenHost host id) → Has run.after (HomeOf t) (OpenHost host id) → ⊥
        none_old nobody host id is_item had left_there =
            let begins : HadItem Begins (HomeOf t) (OpenHost host id) = begins_with run times mount start end fits mounted tells sound right (HomeOf t) (OpenHost host id) is_item (λ e. elsewhere (ap (λ (name : List ℕ). get_or name 0 0) e) refl) had in
            let drawn = entry_drawn Begins sound_begins (HomeOf t) host id begins in
            let rise = drawn_later Begins till (legal_first Begins till (x.listing ∷ (x.later ++ behind)) (subst (IsLawful Begins.state) till_split right.leads.lawful)) in
            none_so nobody host id (omega (arith, drawn, rise)) right.history [] (sym (append-nil right.history)) all_long (had_last (HomeOf t) (OpenHost host id) is_item left_there)

    -- ---- as its actor's lines are

    abbrev here : AnyLine run Begins end fits sound_begins right (reader_at run t) (writing_at run t) t
    here = line_here run Begins end fits sound_begins right t says.is_line

    opens_none : (other : ℕ) → t.outcome ≡ line.Opened other → ⊥
    opens_none other is = let clash : line.Opened other ≡ line.Recovered out alive hold = sym is ∙ says.says in cc

    -- so many were counted of one that was taken out
    counted_so : run.in_order ≡ false → (b : WriterCount) → Among b out → (w : Writer) → w.id ≡ b.writer → IsWriter run Homes (HomeOf t) (before run t) (so_far run t) w → (w.least ≤ b.count) × (b.count ≤ w.most)
    counted_so free b at w its is =
        let c = writer_between run times mount start end fits mounted tells sound right left free t (b ∷ []) [] says.is_line opens_none b.writer bounded w is its in
        let count : counted_in b.writer (b ∷ []) ≡ b.count = (let same : nat_eq b.writer b.writer ≡ true = grind (arith, nat_tests) in ap (λ c. if c then b.count else 0) same) in
        (omega (arith, c.0, count), omega (arith, c.1, count))
      where
        bounded : (r : Option Told) (v : Writing) (l : AnyLine run Begins end fits sound_begins right r v t) (d : Dropping) → Stood Ends d → d.room ≡ HomeOf t → d.writer ≡ b.writer → BoundedLine run times mount start end fits mounted tells sound right left t (b ∷ []) [] d l.line.part.earlier l.line.part.mine
        bounded r v l d stands home same = by (lists_so r v l)
          where
            by : (x : Listing r v l) × TellsSo r v l x out alive hold → BoundedLine run times mount start end fits mounted tells sound right left t (b ∷ []) [] d l.line.part.earlier l.line.part.mine
            by (x, inl (none, tells_so)) = bounded_so r v l x tells_so b (is_buried r v l x tells_so b at) d stands home same
            by (x, inr (nobody, none, no_one)) = absurd (subst (Among b) none at)

    -- ---- who is open at the end

    -- a writer that its actor has at the end has its entry there
    its_entry : (o : Told) (id : ℕ) → IsLine run o → HomeOf o ≡ HomeOf t → StaysOpen run o id → (host : ℕ) × IsItem (OpenHost host id) × Has run.after (HomeOf t) (OpenHost host id)
    its_entry o id is_line home stays =
        let host : ℕ = host_of (slice_get run.script.actors o.actor) in
        let index : Stood Ends (record { room = HomeOf t; host = host; writer = id }) = index_of t (new_writer run o.actor id (told run) (before run t) (so_far run t)) (opened o is_line stays.opened home refl) in
        (host, is_open host id index.is_item.widths.0 index.is_item.widths.1, writers_kept run times mount start end fits mounted tells sound right left o (HomeOf t) (new_writer run o.actor id (told run) (told run) (told run)) is_line stays (opened o is_line stays.opened home refl))

    -- ---- who is open by the end of the line

    goes_here : GoesOn t
    goes_here = (not_close, not_stopped)
      where
        not_stopped : t.outcome ≡ line.Stopped → ⊥
        not_stopped is = let clash : line.Stopped ≡ line.Recovered out alive hold = sym is ∙ says.says in cc

        not_close : t.statement ≡ Close → ⊥
        not_close is = let asked = was_recover here.line.kept t.statement here.line.part.e out alive hold (sym here.line.says ∙ says.says) here.line.part.ended in let clash : Close ≡ Recover asked.0 = sym is ∙ asked.1 in cc

    abbrev Open_by : ℕ → Type 0
    Open_by id = StandsOpen run times mount start end fits mounted tells sound right left t id

    abbrev Behind_by : ℕ → Type 0
    Behind_by id = StandsBehind run times mount start end fits mounted tells sound right left t id

    open_by : run.in_order ≡ false → (o : Told) (id : ℕ) → Says run o (line.Opened id) → surely_before run o t ≡ true → HomeOf o ≡ HomeOf t → IsStillOpen run t o → Open_by id
    open_by free o id opens sooner home still = stands_open run times mount start end fits mounted tells sound right left free t o id says.is_line goes_here (opens_none id) opens home (not_behind run free t o t sooner) still sooner

    -- the same of a line that began by its end
    behind_by : run.in_order ≡ false → (o : Told) (id : ℕ) → Says run o (line.Opened id) → surely_before run t o ≡ false → HomeOf o ≡ HomeOf t → IsStillOpen run t o → Behind_by id
    behind_by free o id opens early home still = stands_behind run times mount start end fits mounted tells sound right left free t o id says.is_line goes_here (opens_none id) opens home early still

    -- it was listed
    still_named : (id : ℕ) → Open_by id → Among id alive
    still_named id so = by (lists_so so.reader so.writing so.its_line)
      where
        drawn : (x : Listing so.reader so.writing so.its_line) → id ≤ last_id (At so.reader so.writing so.its_line x).state
        drawn x =
            let long = length-append so.its_line.line.part.earlier x.earlier in
            let rise = drawn_rises run times mount start end fits mounted tells sound right left so.its_line.line.part.earlier (till so.reader so.writing so.its_line x) (so.its_line.line.part.mine ++ so.its_line.line.part.later) (x.listing ∷ (x.later ++ behind so.reader so.writing so.its_line)) so.its_line.line.part.split (till_split so.reader so.writing so.its_line x) (omega (arith, long)) in
            let low = so.drawn in
            omega (arith, low, rise)

        by : (x : Listing so.reader so.writing so.its_line) × TellsSo so.reader so.writing so.its_line x out alive hold → Among id alive
        by (x, inl (none, v)) = named_so so.reader so.writing so.its_line x v so.host id (drawn x) so.till so.more so.is so.behind so.entry
        by (x, inr (nobody, none, no_one)) =
            let far = so.behind in
            let short = till_short so.reader so.writing so.its_line x in
            absurd (none_so so.reader so.writing so.its_line x nobody so.host id (drawn x) so.till so.more so.is (omega (arith, far, short)) so.entry)

    -- and wasn't taken out
    never_taken : (b : WriterCount) → Among b out → Behind_by b.writer → ⊥
    never_taken b at so = by (lists_so so.reader so.writing so.its_line)
      where
        by : (x : Listing so.reader so.writing so.its_line) × TellsSo so.reader so.writing so.its_line x out alive hold → ⊥
        by (x, inl (none, v)) = gone_all so.reader so.writing so.its_line x v b (is_buried so.reader so.writing so.its_line x v b at) so.stands.host so.stands.till so.stands.more so.stands.is so.stands.behind so.stands.entry
        by (x, inr (nobody, none, no_one)) = subst (Among b) none at

    -- none of them has an entry at any moment behind the line
    pub taken_gone : (r : Option Told) (w : Writing) (l : AnyLine run Begins end fits sound_begins right r w t) (b : WriterCount) → Among b out → (host : ℕ) (z zs : List Event) → right.history ≡ z ++ zs → length l.line.part.earlier + length l.line.part.mine ≤ length z
        → HadItem (moment_after Begins z) (HomeOf t) (OpenHost host b.writer) → ⊥
    taken_gone r w l b at host z zs is far had = by (lists_so r w l)
      where
        by : (x : Listing r w l) × TellsSo r w l x out alive hold → ⊥
        by (x, inl (none, v)) = gone_all r w l x v b (is_buried r w l x v b at) host z zs is far had
        by (x, inr (nobody, none, no_one)) = subst (Among b) none at

    -- who was taken out had an entry then, and who is told as alive had one
    pub taken_stood : (b : WriterCount) → Among b out → (r : Option Told) (w : Writing) (l : AnyLine run Begins end fits sound_begins right r w t) → (host : ℕ) × StoodIn t host b.writer r w l
    taken_stood b at r w l = by (lists_so r w l)
      where
        by : (x : Listing r w l) × TellsSo r w l x out alive hold → (host : ℕ) × StoodIn t host b.writer r w l
        by (x, inl (none, v)) = let i = is_buried r w l x v b at in (i.burial.host, stood_at r w l x i.burial.host b.writer (stood_then r w l x v b i))
        by (x, inr (nobody, none, no_one)) = absurd (subst (Among b) none at)

    pub alive_lived : (id : ℕ) → Among id alive → (r : Option Told) (w : Writing) (l : AnyLine run Begins end fits sound_begins right r w t) → LivedIn t id r w l
    alive_lived id at r w l = by (lists_so r w l)
      where
        by : (x : Listing r w l) × TellsSo r w l x out alive hold → LivedIn t id r w l
        by (x, inl (none, v)) = lived_then r w l x v id at
        by (x, inr (nobody, none, no_one)) = absurd (subst (Among id) no_one at)

    -- ---- what it tells of each that it took out

    pub taken_each : run.in_order ≡ false → (b : WriterCount) → Among b out → TakenSo t b
    taken_each free b at = by (lists_so (reader_at run t) (writing_at run t) here)
      where
        by : (x : Listing (reader_at run t) (writing_at run t) here) × TellsSo (reader_at run t) (writing_at run t) here x out alive hold → TakenSo t b
        by (x, inr (nobody, none, no_one)) = absurd (subst (Among b) none at)
        by (x, inl (no_hold, v)) =
            let i = is_buried (reader_at run t) (writing_at run t) here x v b at in
            let d : Dropping = d_of (reader_at run t) (writing_at run t) here x v b i in
            let k : IsTakenOut Ends d b.count = taken_last (reader_at run t) (writing_at run t) here x v b i in
            let entry : HadItem (At (reader_at run t) (writing_at run t) here x) (HomeOf t) (OpenHost i.burial.host b.writer) = stood_then (reader_at run t) (writing_at run t) here x v b i in
            record {
              takes = record {
                host = i.burial.host;
                gone = λ open_by is_item still. gone_all (reader_at run t) (writing_at run t) here x v b i open_by right.history [] (sym (append-nil right.history)) (line_long (reader_at run t) (writing_at run t) here x) (had_last (HomeOf t) (OpenHost open_by b.writer) is_item still);
                spared = λ o is_line home stays. (let e = its_entry o b.writer is_line home stays in gone_all (reader_at run t) (writing_at run t) here x v b i e.0 right.history [] (sym (append-nil right.history)) (line_long (reader_at run t) (writing_at run t) here x) (had_last (HomeOf t) (OpenHost e.0 b.writer) e.1 e.2));
                dead = λ o is_line opens home early still. never_taken b at (behind_by free o b.writer (record { is_line = is_line; says = opens }) early home still);
                counted = counted_so free b at;
                landed = k.count_is ∙ many_told Ends run.after d last_is;
                its_host = one_host run times mount start end fits mounted tells sound right left (HomeOf t) i.burial.host b.writer (till (reader_at run t) (writing_at run t) here x) (x.listing ∷ (x.later ++ behind (reader_at run t) (writing_at run t) here)) (till_split (reader_at run t) (writing_at run t) here x) entry (before run t) (so_far run t);
                known = λ some. its_writer t d refl k.named (let is = k.count_is in omega (arith, some, is));
              };
              is_item = entry.is_item;
            }

    record RecoveryTells : Type 0 where
      pub rise : IdsRise (map Id out) × IdsRise alive
      pub taken_so : run.in_order ≡ false → All (TakesOut run Homes t) out
      pub held : hold ≡ true → (out ≡ []) × (alive ≡ [])
      pub none_left : (host id : ℕ) → IsItem (OpenHost host id) → Has run.before (HomeOf t) (OpenHost host id) → Has run.after (HomeOf t) (OpenHost host id) → ⊥

    told_so : RecoveryTells
    told_so = by (lists_so (reader_at run t) (writing_at run t) here)
      where
        not_both : (b : Bool) → b ≡ false → b ≡ true → ⊥
        not_both b x y = cc

        by : (x : Listing (reader_at run t) (writing_at run t) here) × TellsSo (reader_at run t) (writing_at run t) here x out alive hold → RecoveryTells
        by (x, inl (no_hold, v)) = record {
          rise = told_rise v.writers out alive v.each v.were_open.rise;
          taken_so = λ free. All-from_recursion (TakesOut run Homes t) out (each_among (TakesOut run Homes t) out (λ b at. (taken_each free b at).takes));
          held = λ holds. absurd (not_both hold no_hold holds);
          none_left = λ host id is_item had. gone_after (reader_at run t) (writing_at run t) here x v host id is_item had;
        }
        by (x, inr (nobody, none, no_one)) = record {
          rise = (subst (λ b. IdsRise (map Id b)) (sym none) tt, subst IdsRise (sym no_one) tt);
          taken_so = λ free. All-from_recursion (TakesOut run Homes t) out (subst (AllByRecursion (TakesOut run Homes t)) (sym none) tt);
          held = λ holds. (none, no_one);
          none_left = λ host id is_item had. none_old (reader_at run t) (writing_at run t) here x nobody host id is_item had;
        }

  -- the law of this file
  pub recoveries_told : run.in_order ≡ false → HasRecovered run Homes
  recoveries_told free = record {
    rise = λ t out alive hold says. (told_so t out alive hold says).rise;
    taken_out = λ t out alive hold says. (told_so t out alive hold says).taken_so free;
    held = λ t out alive says. (told_so t out alive true says).held refl;
    none_left = λ t out alive hold host id says. (told_so t out alive hold says).none_left host id;
    named = λ t o out alive hold id says opens home sooner still. is_among alive id (still_named t out alive hold says id (open_by t out alive hold says free o id opens sooner home still));
  }

-- A migration leaves a plain machine its files, where nobody else calls.
use Rattle.std.proofs.Common.{◌≡◌, ◌≤◌, ◌+◌, ◌-◌, ◌^◌, ℕ, true, List, [], ◌∷◌, ◌++◌, Option, Some, None, Result, Ok, Err, refl, sym, ap, ◌∙◌, inl, inr, subst, arith}
use Rattle.std.specs.Prelude.{slice_get}
use Rattle.std.proofs.lemmas.Bool.Decides.{nat_tests}
use Rattle.store_api.specs.declared.step.Answer.{Answer}
use Rattle.store_api.specs.declared.step.Answer.TheVariants as answer
use Rattle.store_api.specs.declared.tree.Room.{Room}
use Rattle.mount_model.specs.declared.call.Look.TheVariants.{List as ListFolder, Top}
use Rattle.mount_model.specs.declared.names.Metadata.{Metadata}
use Rattle.mount_model.specs.declared.reply.Refusal.TheVariants as refusal
use Rattle.mount_model.specs.declared.reply.Reply.TheVariants.{Looked}
use Rattle.mount_model.specs.declared.stuck.Stuck.{Stuck}
use Rattle.mount_model.specs.declared.stuck.Stuck.TheVariants as stuck
use Rattle.mount_model.specs.FlowListed.{file_in, or_trouble, told_by}
use Rattle.mount_model.specs.FlowReplies.{Tries, damage, failure, given, names_in, on_ok, room_in, trouble}
use Rattle.mount_model.specs.declared.call.Call.TheVariants.{Find}
use Rattle.mount_model.specs.History.{AreBy, Event, state_after}
use Rattle.mount_model.specs.Names.{meta_in}
use Rattle.mount_model.specs.Paths.{Name, metadata}
use Rattle.mount_model.specs.Program.{done, followed_by}
use Rattle.mount_model.specs.Running.{Runs}
use Rattle.mount_model.specs.State.{State}
use Rattle.mount_model.proofs.Flows.Facts.{runs_in_two}
use Rattle.mount_sound.specs.Ledger.{Ledger}
use Rattle.mount_sound.specs.Owed.{IsLawful}
use Rattle.mount_sound.specs.Sound.{IsSoundFor}
use Rattle.reader_laws.specs.Moments.{IsSoundAt, Moment, moment_after}
use Rattle.reader_laws.proofs.Gathered.Facts.{legal_first, legal_rest, moment-append, sound_after}
use Rattle.index_reader.specs.declared.listing.Listing.{Listing}
use Rattle.index_reader.specs.Opening.{no_flat, scans}
use Rattle.index_reader.specs.Scanning.{nothing_found}
use Rattle.index_reader.specs.Tops.{top_shows}
use Rattle.migrate_core.specs.declared.migrated.Migrated.{Migrated}
use Rattle.migrate_core.specs.Chosen.{chosen, metas_named}
use Rattle.migrate_core.specs.Counting.{noted, nothing}
use Rattle.migrate_core.specs.Migrating.{lists_metadata, migrate_at_program, migrate_program, migrates, migrates_listed, migrates_shown, scans_then}
use Rattle.migrate_core.specs.Words.{Fate, passed_over, is_packed}
use Rattle.migrate_core.specs.Writers.{writer_program}
use Rattle.migrate_laws.specs.Migrated.{HasMigrated}
use Rattle.migrate_laws.specs.Moments.{Calls, IsNamed}
use Rattle.trouble_laws.specs.Undamaged.{IsUndamaged}
use Rattle.trouble_laws.proofs.Facts.{migrate_ends}
use Rattle.plain_machine.specs.Machine.{Plain, PlainRoom}
use Rattle.plain_machine.specs.Finding.{find}
use Rattle.plain_machine.specs.Becoming.{is_spent}
use Rattle.plain_plays.specs.ByItself.{TellsPacked, MigratesByItself, having_drawn, migrated, missing_file, spent}
use Rattle.plain_plays.specs.Mirrors.{Mirrors, MirrorsRoom, room_told}
use Rattle.plain_plays.specs.Opens.{IsSpent}
use Rattle.plain_plays.specs.Served.{GoesWell}
use Rattle.plain_plays.proofs.PlainSteps.Entering.{not_marks}
use Rattle.plain_plays.proofs.PlainSteps.Reaching.{ended, over_alone}
use Rattle.plain_plays.proofs.PlainSteps.Serving.{well_first}
use Rattle.plain_plays.proofs.PlainSteps.Steps.Alone.{by_first, by_rest}
use Rattle.plain_plays.proofs.PlainSteps.ByName.Found.{IsFound, finds}
use Rattle.plain_plays.proofs.PlainSteps.ByName.Looking.{alike_same, machine_alike}
use Rattle.plain_plays.proofs.PlainSteps.Flats.Aside.{machine_drawn_by, room_stays, stays_alike, stays_on}
use Rattle.plain_plays.proofs.PlainSteps.Looks.Answered.{Anything, EndsSo, had_alike, looked, no_good}
use Rattle.plain_plays.proofs.PlainSteps.Looks.Gathered.{well_rest}
use Rattle.plain_plays.proofs.PlainSteps.Looks.Listings.{IsOf, scans_on, top_ends}
use Rattle.plain_plays.proofs.PlainSteps.Steps.Making.{found_there}
use Rattle.plain_plays.proofs.PlainSteps.ByItself.Counting.{counts_writers, first_find}
use Rattle.plain_plays.proofs.PlainSteps.ByItself.Packing.{FateEnds, HasDrawn, IsBroken, Never, broken, done_then, look_then, packed, passed, unnumbered, writer_leads}

-- what ends in a trouble that only damage is, is broken
trouble_is : {A : Type 0} (R : Type 0) (good : A → Type 0) (why : Stuck) → EndsSo {R = A} good (Err why) → IsBroken {R = R} (Err why)
trouble_is {A} R good why ends = no_good {R = A} {S = R} good (Never {R = R}) why ends

module _ (start : Moment) (old : Room) (me n : ℕ) where
  -- It counts the writers that it packed, each of which has drawn a serial. Or no serial was left, or it ends in damage.
  pub data CountEnds (out : Result Migrated Stuck) (last : Moment) : Type 0 where
    counted : (told : Migrated) → out ≡ Ok told → HasDrawn start old me n told.writers last → CountEnds out last
    unmarked : (count : ℕ) → out ≡ Err (stuck.Refused refusal.IdsSpent) → IsSpent last → HasDrawn start old me n count last → CountEnds out last
    damaged : IsBroken out → CountEnds out last

  abbrev Leads : Tries Migrated → Moment → Type 0
  Leads program x = (events : List Event) (out : Result Migrated Stuck) → IsLawful x.state events → GoesWell me events → AreBy me events → Runs me program events out → CountEnds out (moment_after x events)

  broken_leads : (why : Stuck) (x : Moment) → IsBroken {R = Migrated} (Err why) → Leads (done (Err why)) x
  broken_leads why x bad events out lawful well by runs = done_then me (Err why) x events out CountEnds by runs (damaged bad)

  result_leads : {A : Type 0} (good : A → Type 0) (next : A → Tries Migrated) (result : Result A Stuck) (x : Moment) → EndsSo good result → ((a : A) → Leads (next a) x) → Leads (on_ok next result) x
  result_leads good next (Ok a) x ends goes = goes a
  result_leads good next (Err why) x ends goes = broken_leads why x (trouble_is Migrated good why ends)

  -- ---- one writer after the other

  fate_leads : (metas : List Metadata) (sofar : Migrated) (fate : Result Fate Stuck) (y : Moment) → FateEnds start old me n sofar.writers fate y
      → ((then_so : Migrated) → HasDrawn start old me n then_so.writers y → Leads (migrates n metas then_so) y) → Leads (on_ok (λ f. migrates n metas (noted f sofar)) fate) y
  fate_leads metas sofar fate y (passed is u) goes = subst (λ f. Leads (on_ok (λ g. migrates n metas (noted g sofar)) f) y) (sym is) (goes (noted passed_over sofar) u)
  fate_leads metas sofar fate y (packed q is u) goes = subst (λ f. Leads (on_ok (λ g. migrates n metas (noted g sofar)) f) y) (sym is) (goes (noted (is_packed q) sofar) u)
  fate_leads metas sofar fate y (unnumbered is none u) goes =
      subst (λ f. Leads (on_ok (λ g. migrates n metas (noted g sofar)) f) y) (sym is)
      (λ events out lawful well by runs. done_then me (Err (stuck.Refused refusal.IdsSpent)) y events out CountEnds by runs (unmarked sofar.writers refl none u))
  fate_leads metas sofar (Ok f) y (broken bad) goes = absurd bad
  fate_leads metas sofar (Err why) y (broken bad) goes = broken_leads why y (trouble_is Migrated (Never {R = Fate}) why bad)

  migrates_lead : (metas : List Metadata) (sofar : Migrated) (x : Moment) → HasDrawn start old me n sofar.writers x → Leads (migrates n metas sofar) x
  migrates_lead [] sofar x u events out lawful well by runs = done_then me (Ok sofar) x events out CountEnds by runs (counted sofar refl u)
  migrates_lead (m ∷ metas) sofar x u events out lawful well by runs =
      let two = runs_in_two me (writer_program n m) (on_ok (λ f. migrates n metas (noted f sofar))) events out runs in
      let whole : IsLawful x.state (two.first ++ two.rest) = subst (IsLawful x.state) two.all lawful in
      let went : GoesWell me (two.first ++ two.rest) = subst (GoesWell me) two.all well in
      let mine : AreBy me (two.first ++ two.rest) = subst (AreBy me) two.all by in
      let y : Moment = moment_after x two.first in
      let f = writer_leads start old me n sofar.writers m x u two.first two.value (legal_first x two.first two.rest whole) (well_first me two.first two.rest went) (by_first me two.first two.rest mine) two.runs in
      let last : moment_after y two.rest ≡ moment_after x events = sym (ap (moment_after x) two.all ∙ moment-append x two.first two.rest) in
      subst (CountEnds out) last
      (fate_leads metas sofar two.value y f (λ then_so v. migrates_lead metas then_so y v) two.rest out (legal_rest x two.first two.rest whole) (well_rest me two.first two.rest went) (by_rest me two.first two.rest mine) two.then_runs)

  -- ---- those that are listed

  known_ends : (o : Option Metadata) (name : Name) (next : Metadata → Result (List Metadata) Stuck) → ((m : Metadata) → EndsSo Anything (next m)) → EndsSo Anything (or_trouble o (damage (file_in metadata name) 0) next)
  known_ends None name next goes = tt
  known_ends (Some m) name next goes = goes m

  metas_end : (names : List Name) (sofar : List Metadata) → EndsSo Anything (metas_named names sofar)
  metas_end [] sofar = tt
  metas_end (name ∷ names) sofar = known_ends (meta_in name) name (λ (m : Metadata). metas_named names (sofar ++ m ∷ [])) (λ m. metas_end names (sofar ++ m ∷ []))

  told_ends : (found : Answer) → EndsSo Anything (told_by metadata (λ names. metas_named names []) (Looked found))
  told_ends (answer.Names names) = metas_end names []
  told_ends answer.NoFolder = tt
  told_ends other = tt

  -- the folders of droppings are listed, and what they show leads on
  found_lead : (ks : List ℕ) (metas : List Metadata) (x : Moment) → HasDrawn start old me n 0 x → Leads (followed_by (scans n 0 no_flat ks nothing_found) (on_ok (migrates_listed n metas))) x
  found_lead ks metas x u events out lawful well by runs =
      let scan : Tries Listing = scans n 0 no_flat ks nothing_found in
      let two = runs_in_two me scan (on_ok (migrates_listed n metas)) events out runs in
      let whole : IsLawful x.state (two.first ++ two.rest) = subst (IsLawful x.state) two.all lawful in
      let went : GoesWell me (two.first ++ two.rest) = subst (GoesWell me) two.all well in
      let mine : AreBy me (two.first ++ two.rest) = subst (AreBy me) two.all by in
      let l1 = legal_first x two.first two.rest whole in
      let y : Moment = moment_after x two.first in
      let l = looked n me (EndsSo (IsOf n)) two.first scan x two.value u.sound u.had l1 (well_first me two.first two.rest went) (by_first me two.first two.rest mine) (scans_on n 0 no_flat ks nothing_found) two.runs in
      let v : HasDrawn start old me n 0 y = record { sound = sound_after x two.first l1 u.sound; had = had_alike x u.sound n u.had y l.1; stays = stays_on n 0 old start x y u.stays (stays_alike n u.stays.new x y u.stays.turns.now l.1) } in
      let last : moment_after y two.rest ≡ moment_after x events = sym (ap (moment_after x) two.all ∙ moment-append x two.first two.rest) in
      subst (CountEnds out) last
      (result_leads (IsOf n) (migrates_listed n metas) two.value y l.0 (λ listing. migrates_lead (chosen listing.droppings metas) nothing y v) two.rest out (legal_rest x two.first two.rest whole) (well_rest me two.first two.rest went) (by_rest me two.first two.rest mine) two.then_runs)

  metadata_leads : (ks : List ℕ) (x : Moment) → HasDrawn start old me n 0 x → Leads (lists_metadata n (scans n 0 no_flat ks nothing_found)) x
  metadata_leads ks x u events out lawful well by runs =
      let scan : Tries Listing = scans n 0 no_flat ks nothing_found in
      look_then start old me n 0 (ListFolder metadata) (λ reply. scans_then n scan (told_by metadata (λ names. metas_named names []) reply)) x u events out lawful well by runs (CountEnds out)
      (λ found y v rest lawful_so well_so by_so on.
      result_leads Anything (λ metas. followed_by scan (on_ok (migrates_listed n metas))) (told_by metadata (λ names. metas_named names []) (Looked found)) y (told_ends found) (λ metas. found_lead ks metas y v) rest out lawful_so well_so by_so on)

  top_leads : (x : Moment) → HasDrawn start old me n 0 x → Leads (migrate_at_program n) x
  top_leads x u events out lawful well by runs =
      look_then start old me n 0 Top (λ reply. given (names_in reply) (trouble (file_in [] []) reply) (λ names. on_ok (migrates_shown n) (top_shows names))) x u events out lawful well by runs (CountEnds out)
      (λ found y v rest lawful_so well_so by_so on. shown found y v rest lawful_so well_so by_so on)
    where
      behind : (names : List Name) (y : Moment) → HasDrawn start old me n 0 y → Leads (on_ok (migrates_shown n) (top_shows names)) y
      behind names y v = result_leads Anything (migrates_shown n) (top_shows names) y (top_ends n names) (λ ks. metadata_leads ks y v)

      shown : (found : Answer) (y : Moment) → HasDrawn start old me n 0 y → (rest : List Event) → IsLawful y.state rest → GoesWell me rest → AreBy me rest → Runs me (given (names_in (Looked found)) (trouble (file_in [] []) (Looked found)) (λ names. on_ok (migrates_shown n) (top_shows names))) rest out → CountEnds out (moment_after y rest)
      shown (answer.Names names) y v rest lawful_so well_so by_so on = behind names y v rest out lawful_so well_so by_so on
      shown answer.NoFolder y v rest lawful_so well_so by_so on = broken_leads (trouble (file_in [] []) (Looked answer.NoFolder)) y tt rest out lawful_so well_so by_so on
      shown other y v rest lawful_so well_so by_so on = broken_leads (trouble (file_in [] []) (Looked other)) y tt rest out lawful_so well_so by_so on

-- ---- all of it

-- damage that can't be
never_both : (out : Result Migrated Stuck) → IsBroken out → IsUndamaged out → ⊥
never_both (Ok told) bad plain = bad
never_both (Err (stuck.Damaged folder file place)) bad plain = plain
never_both (Err stuck.Fault) bad plain = bad
never_both (Err (stuck.Refused why)) bad plain = bad

-- what the law of a migration says that ends well
abbrev pub LeavesNoneOut : Type 0
LeavesNoneOut = (caller : ℕ) (name : List ℕ) (issued : Ledger) (start : State) (events : List Event) (out : Migrated) → IsLawful start events → IsSoundFor issued start → Runs caller (migrate_program name) events (Ok out) → HasMigrated caller name start events out

one_number : (a b : ℕ) → Some a ≡ Some b → a ≡ b
one_number a b e = cc

module _ (law : LeavesNoneOut) (m : Moment) (me : ℕ) (p : Plain) (name : Name) (o : Mirrors m p) where
  -- the room is as the machine has it, at this sound moment
  record IsRoomAt (n : ℕ) (room : PlainRoom) (x : Moment) : Type 0 where
    sound : IsSoundAt x
    r : Room
    there : slice_get sound.shape.tree.rooms n ≡ Some r
    has : MirrorsRoom x n r room

  -- the room that was found is that of the name
  number_so : (n : ℕ) (events rest : List Event) (first : Event) (out : Result Migrated Stuck) → events ≡ first ∷ rest → find p name ≡ Some n → AreBy me rest → Runs me (migrate_at_program n) rest out → (number : ℕ) (found : State) → Calls me (Find name) m.state events found → IsNamed name number found → number ≡ n
  number_so n events rest first out are is by runs number found c named = at_front c.before c.split c.comes
    where
      at_front : (before : List Event) → events ≡ before ++ c.event ∷ c.after → state_after m.state before ≡ found → number ≡ n
      at_front [] split comes =
          let r = named o.sound.shape.tree (ap (λ (z : State). z.store.tree) (sym comes) ∙ o.sound.shape.told) in
          one_number number n (sym (found_there m p o.sound.shape.tree name number o o.sound.shape.told r) ∙ is)
      at_front (e ∷ before) split comes = absurd (first_find me n rest before c.after c.event out by runs (let same : first ∷ rest ≡ e ∷ (before ++ c.event ∷ c.after) = sym are ∙ split in cc) name c.asks)

  module _ (mid : Moment) (sound : IsSoundAt mid) (n : ℕ) (f : IsFound m mid p name n) where
    has_machine : (count : ℕ) (last : Moment) → HasDrawn mid f.old me n count last → Mirrors last (having_drawn count p)
    has_machine count last u = machine_drawn_by n count f.old mid last u.stays u.sound p f.mirrors f.room f.there (not_marks mid sound n f.had) f.has

    room_at : (count : ℕ) (last : Moment) → HasDrawn mid f.old me n count last → IsRoomAt n f.room last
    room_at count last u = record {
      sound = u.sound;
      r = u.stays.new;
      there = sym (ap (λ t. room_told t n) u.sound.shape.told) ∙ u.stays.turns.now;
      has = room_stays n count f.old mid last u.stays f.room (not_marks mid sound n f.had) f.has;
    }

    none_left : (count : ℕ) (last : Moment) → Mirrors last (having_drawn count p) → IsSpent last → is_spent (having_drawn count p) ≡ true
    none_left count last x is = let s = x.serial in let k : 2 ^ 32 - 1 ≤ p.serial + count = omega (arith, is, s) in grind (arith, nat_tests)

    ends_so : (out : Result Migrated Stuck) (last : Moment) → IsUndamaged out → ((told : Migrated) → out ≡ Ok told → IsRoomAt n f.room last → TellsPacked f.room told) → CountEnds mid f.old me n out last → MigratesByItself p name last out
    ends_so out last plain counts (counted told is u) = migrated n f.room told f.is f.there is (counts told is (room_at told.writers last u)) (has_machine told.writers last u)
    ends_so out last plain counts (unmarked count is none u) = let x = has_machine count last u in spent n count f.is is (none_left count last x none) x
    ends_so out last plain counts (damaged bad) = absurd (never_both out bad plain)

  -- A migration leaves the machine its files.
  pub migrates_itself : (events : List Event) (out : Result Migrated Stuck) → IsLawful m.state events → GoesWell me events → AreBy me events → Runs me (migrate_program name) events out → MigratesByItself p name (moment_after m events) out
  migrates_itself events out lawful well by runs =
      let plain : IsUndamaged out = migrate_ends me name m.state m.issued events out lawful o.sound runs in
      elim (finds m me p o name (λ reply. given (room_in reply) (failure reply) migrate_at_program) events out lawful well by runs) as (λ _. MigratesByItself p name (moment_after m events) out) [
        | inr (g, alike, none) ↦
            let bad : Result Migrated Stuck = Err (stuck.Refused refusal.NoRoom) in
            let is : bad ≡ out = ended me bad g.rest out g.runs in
            let last : g.mid ≡ moment_after m events = ap (moment_after g.mid) (sym (over_alone me bad g.rest out g.by g.runs)) ∙ g.ends in
            subst (λ x. MigratesByItself p name x out) last (missing_file none (sym is) (machine_alike m g.mid alike g.sound p o))
        | inl (n, g, f) ↦
            let first : HasDrawn g.mid f.old me n 0 g.mid = record { sound = g.sound; had = f.had; stays = stays_alike n f.old g.mid g.mid f.at (alike_same g.mid) } in
            let counts : (told : Migrated) → out ≡ Ok told → IsRoomAt n f.room (moment_after g.mid g.rest) → TellsPacked f.room told = λ told is at. (
            let h : HasMigrated me name m.state events told = law me name m.issued m.state events told lawful o.sound (subst (Runs me (migrate_program name) events) is runs) in
            let here : h.number ≡ n = number_so n events g.rest g.event out g.are f.is g.by g.runs h.number h.found h.finds h.named in
            let last : IsRoomAt n f.room (moment_after m events) = subst (IsRoomAt n f.room) g.ends at in
            counts_writers me m o.sound name events told lawful h n here last.sound last.r last.there f.room last.has
            ) in
            subst (λ x. MigratesByItself p name x out) g.ends (ends_so g.mid g.sound n f out (moment_after g.mid g.rest) plain counts (top_leads g.mid f.old me n g.mid first g.rest out g.lawful g.well g.by g.runs))
      ]

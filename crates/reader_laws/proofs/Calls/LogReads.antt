-- What reads from an open reader give.
use Rattle.plfs_types.specs.Counts.{HasRisen}
use Rattle.mount_model.specs.Program.{done}
use Rattle.std.proofs.Common.{◌≡◌, ℕ, ◌+◌, ◌≤◌, nat_eq, nat_lt, true, false, List, [], ◌∷◌, ◌++◌, length, take, drop, map, Some, refl, ap, sym, ◌∙◌, inl, inr, subst, arith}
use Rattle.std.specs.Prelude.{Result, Ok, Err, if◌then◌else◌, replicate}
use Rattle.std.specs.List.{AllByRecursion}
use Rattle.std.proofs.lemmas.Bool.{cond-false}
use Rattle.std.proofs.lemmas.Bool.Decides.{nat_tests}
use Rattle.std.proofs.lemmas.List.{append-nil, length-take, length-drop}
use Rattle.plfs_types.specs.declared.entries.Trunc.{Trunc}
use Rattle.plain_file.specs.File.{slice}
use Rattle.plain_file.proofs.Facts.{Among}
use Rattle.read_plan.specs.declared.part.Part.{Part}
use Rattle.read_plan.specs.declared.part.Part.TheVariants.{Hole, From}
use Rattle.read_plan.specs.Plan.{plan_of}
use Rattle.turn_object.specs.Callers.{made_by}
use Rattle.mount_model.specs.declared.call.Call.TheVariants.{Look}
use Rattle.mount_model.specs.declared.call.Look.TheVariants.{Read}
use Rattle.mount_model.specs.Paths.{log_path}
use Rattle.mount_model.specs.State.{State}
use Rattle.mount_model.specs.Step.{Answers}
use Rattle.mount_model.specs.History.{Event, state_after}
use Rattle.mount_sound.specs.Ledger.{content}
use Rattle.mount_sound.specs.Owed.{IsLawful}
use Rattle.mount_model.specs.declared.stuck.Stuck.{Stuck}
use Rattle.mount_model.specs.declared.stuck.Stuck.TheVariants as stuck
use Rattle.mount_model.specs.Running.{Runs}
use Rattle.mount_model.specs.FlowReplies.{given, bytes_in, damage, trouble}
use Rattle.plain_file.specs.declared.parts.WriterHost.{WriterHost as Listed}
use Rattle.index_reader.specs.declared.opened.OpenReader.{OpenReader}
use Rattle.index_reader.specs.Found.{item_of}
use Rattle.index_reader.specs.Hosts.{host_in, host_of}
use Rattle.index_reader.specs.Reading.{placed_all, ends_at, spells, read_program}
use Rattle.reader_laws.specs.Moments.{Moment, IsSoundAt, Dropping, Grows, issued_by, moment_after, next_moment}
use Rattle.reader_laws.specs.Gathering.{Gathered}
use Rattle.reader_laws.specs.GatheringOpening.{HasView}
use Rattle.reader_laws.specs.Parts.{IsOfLog, IsPartOf}
use Rattle.reader_laws.specs.View.{IsAnswer, view, WritersRise}
use Rattle.reader_laws.proofs.Gathered.Facts.{alike, any_found, follows, grows_after, grows_trans, is_among, legal_first, legal_rest, log_ends, one_gathered, plan_within, sound_after, view_answers}
use Rattle.reader_laws.specs.Failing.{FailsByStore}
use Rattle.reader_laws.specs.Opened.{HasOpenReader}
use Rattle.reader_laws.specs.Sharing.{host_in_room as in_room}
use Rattle.reader_laws.proofs.Calls.Answers.{HasHost, answer_run}
use Rattle.reader_laws.proofs.Calls.Calling.{asked_all, calls_are, FitsRead}
use Rattle.reader_laws.proofs.OpenReaders.Cuts.{dropping_of}
use Rattle.reader_laws.proofs.Calls.Histories.{fit, first_of}
use Rattle.reader_laws.proofs.Calls.Troubles.{answered, fails_there, fails_later}

-- ---- hosts

its_room : (room : ℕ) (cut : List Gathered) (g : Gathered) → WritersRise room cut → Among g cut → g.dropping.room ≡ room
its_room room [] g rise a = absurd a
its_room room (h ∷ cut) g rise (inl e) = ap (λ (x : Gathered). x.dropping.room) e ∙ rise.0
its_room room (h ∷ cut) g rise (inr a) = its_room room cut g rise.2 a

same_head : {X : Type 0} (x y : X) (xs ys : List X) → x ∷ xs ≡ y ∷ ys → x ≡ y
same_head x y xs ys e = cc

same_rest : {X : Type 0} (x y : X) (xs ys : List X) → x ∷ xs ≡ y ∷ ys → xs ≡ ys
same_rest x y xs ys e = cc

host_is : (room : ℕ) (ds : List Listed) (cut : List Gathered) (g : Gathered) → map (in_room room) ds ≡ map dropping_of cut → WritersRise room cut → Among g cut → g.dropping.host ≡ host_of g.dropping.writer ds
host_is room [] [] g are rise a = absurd a
host_is room [] (h ∷ cut) g are rise a = absurd (cc)
host_is room (d ∷ ds) [] g are rise a = absurd a
host_is room (d ∷ ds) (h ∷ cut) g are rise a = elim (nat_eq d.writer g.dropping.writer) as (λ t. nat_eq d.writer g.dropping.writer ≡ t → g.dropping.host ≡ host_in (if t then Some d else item_of (λ (x : Listed). x.writer) g.dropping.writer ds)) [
  | true ↦ λ t.
      let writer : h.dropping.writer ≡ g.dropping.writer = ap (λ (x : Dropping). x.writer) (sym head) ∙ alike d.writer g.dropping.writer t in
      let same : h ≡ g = one_gathered room (h ∷ cut) h g rise (inl refl) a writer in
      ap (λ (x : Gathered). x.dropping.host) (sym same) ∙ ap (λ (x : Dropping). x.host) (sym head)
  | false ↦ λ t. host_is room ds cut g (same_rest (in_room room d) h.dropping (map (in_room room) ds) (map dropping_of cut) are) rise.2 (later t a)
] refl
  where
    head : in_room room d ≡ h.dropping
    head = same_head (in_room room d) h.dropping (map (in_room room) ds) (map dropping_of cut) are

    later : nat_eq d.writer g.dropping.writer ≡ false → Among g (h ∷ cut) → Among g cut
    later t (inl e) = (let one : d.writer ≡ g.dropping.writer = ap (λ (x : Dropping). x.writer) (head ∙ ap dropping_of (sym e)) in absurd (unlike d.writer g.dropping.writer one t))
      where
        unlike : (a b : ℕ) → a ≡ b → nat_eq a b ≡ false → ⊥
        unlike a b e t = let yes_ : nat_eq a b ≡ true = grind (arith, nat_tests) in let clash : true ≡ false = sym yes_ ∙ t in cc
    later t (inr b) = b

-- each part's log is of one of the cut, and so is its host
hosted : (end : Moment) (room : ℕ) (ds : List Listed) (cut : List Gathered) (parts : List Part) → map (in_room room) ds ≡ map dropping_of cut → WritersRise room cut → AllByRecursion (IsPartOf end cut) parts → AllByRecursion (HasHost room ds cut) parts
hosted end room ds cut [] are rise within = tt
hosted end room ds cut (Hole len ∷ parts) are rise within = (tt, hosted end room ds cut parts are rise within.1)
hosted end room ds cut (From writer at len ∷ parts) are rise within =
    let (g, a, is) = any_found (IsOfLog end writer at len) cut within.0 in (
      record { of = g; gathered = is_among cut g a; log_of = is.log_of; its_room = its_room room cut g rise a; its_host = host_is room ds cut g are rise a ∙ ap (λ w. host_of w ds) is.log_of },
      hosted end room ds cut parts are rise within.1,
    )

-- ---- what a read gives

pub reads_bytes : (caller : ℕ) (start end : Moment) (reader : OpenReader) (cut : List Gathered) (between reading : List Event) (at len : ℕ) (bytes : List ℕ) → IsLawful end.state (between ++ reading) → IsSoundAt end → HasOpenReader start end reader cut
    → Runs caller (read_program reader.room reader.hosts (plan_of reader.pieces reader.size at len)) reading (Ok bytes) → bytes ≡ slice (view end cut reader.truncs) at len
reads_bytes caller start end reader cut between reading at len bytes lawful s has runs =
    let parts : List Part = plan_of reader.pieces reader.size at len in
    let from : Moment = moment_after end between in
    let s1 : IsSoundAt from = sound_after end between (legal_first end between reading lawful) s in
    let reads = fit caller from reading (legal_rest end between reading lawful) s1 in
    let answer : IsAnswer cut parts (asked_all (made_by caller reading)) bytes =
    answer_run reader.room reader.hosts cut parts bytes (made_by caller reading) (hosted end reader.room reader.hosts cut parts has.hosts has.view.rise (plan_within end cut reader.truncs reader.pieces reader.size at len s has.pieces))
    (subst (AllByRecursion FitsRead) (calls_are caller reading) reads) runs in
    view_answers caller reader.room start end cut reader.truncs between reading [] at len bytes (subst (λ l. IsLawful end.state (between ++ l)) (sym (append-nil reading)) lawful) s has.view
    (record { pieces = reader.pieces; size = reader.size; runs = has.pieces; sized = has.size; made = subst (λ calls. IsAnswer cut parts calls bytes) (sym (calls_are caller reading)) answer })

-- ---- how it fails

no_result : {X : Type 0} (x : X) (why : Stuck) → ◌≡◌ {A = Result X Stuck} (Ok x) (Err why) → ⊥
no_result x why e = cc

same_trouble : {X : Type 0} (a b : Stuck) → ◌≡◌ {A = Result X Stuck} (Err a) (Err b) → a ≡ b
same_trouble a b e = cc

long_enough : (n len : ℕ) → len ≤ n → nat_lt n len ≡ false
long_enough n len l = grind (arith, nat_tests)

slice_long : (at len : ℕ) (bytes : List ℕ) → at + len ≤ length bytes → len ≤ length (take len (drop at bytes))
slice_long at len bytes within = omega (arith, within, length-take len (drop at bytes), length-drop at bytes)

module _ (caller : ℕ) (start end : Moment) (room : ℕ) (ds : List Listed) (cut : List Gathered) (truncs_ : List Trunc) (view_ : HasView start end room cut truncs_) (are : map (in_room room) ds ≡ map dropping_of cut) where
  reads_fail : (m : Moment) (events : List Event) (parts : List Part) (sofar : List ℕ) (why : Stuck) → Grows end m → IsSoundAt m → IsLawful m.state events → AllByRecursion (IsPartOf end cut) parts → Runs caller (spells room (placed_all ds parts) sofar) events (Err why) → FailsByStore caller m.state events why
  reads_fail m events [] sofar why grows s lawful within runs = absurd (no_result sofar why runs.1)
  reads_fail m events (Hole len ∷ parts) sofar why grows s lawful within runs = reads_fail m events parts (sofar ++ replicate len 0) why grows s lawful within.1 runs
  reads_fail m events (From writer at len ∷ parts) sofar why grows s lawful within runs =
      let host : ℕ = host_of writer ds in
      let f = first_of caller _ _ events (Err why) runs in
      let all : IsLawful m.state (f.before ++ f.event ∷ f.later) = subst (IsLawful m.state) f.split lawful in
      let here : Moment = moment_after m f.before in
      let l1 = legal_first m f.before (f.event ∷ f.later) all in
      let s1 : IsSoundAt here = sound_after m f.before l1 s in
      let on = legal_rest m f.before (f.event ∷ f.later) all in
      let step = answered here.state f.event.caller _ f.event.ask f.event.reply f.event.after f.asked on.1 in
      let (g, a, is) = any_found (IsOfLog end writer at len) cut within.0 in
      let its = host_is room ds cut g are view_.rise a ∙ ap (λ w. host_of w ds) is.log_of in
      let same_room = its_room room cut g view_.rise a in
      let asks : Look room (Read (log_path host writer) at len) ≡ Look g.dropping.room (Read (log_path g.dropping.host g.dropping.writer) at len) =
      ap (λ r. Look r (Read (log_path host writer) at len)) (sym same_room) ∙ ap (λ k. Look g.dropping.room (Read (log_path k writer) at len)) (sym its) ∙ ap (λ w. Look g.dropping.room (Read (log_path g.dropping.host w) at len)) (sym is.log_of) in
      let goes : Grows end here = grows_trans end m here grows (grows_after m f.before l1 s) in
      let ends = log_ends start end here room cut truncs_ g f.event.caller at len f.event.reply f.event.after view_ (is_among cut g a) goes s1 is.some is.within (subst (λ q. Answers here.state f.event.caller q f.event.reply f.event.after) asks step) in
      let bytes : List ℕ = take len (drop at (content (issued_by end g.dropping))) in
      let state_is = (follows m f.before).0 in
      subst (λ es. FailsByStore caller m.state es why) (sym f.split)
      (elim ends as (λ _. FailsByStore caller m.state (f.before ++ f.event ∷ f.later) why) [
        | inl reads ↦
            let rest : Runs caller (if nat_lt (length bytes) len then done (Err (damage (log_path host writer) (ends_at (record { host = host; writer = writer; at = at; len = len }) (length bytes)))) else spells room (placed_all ds parts) (sofar ++ take len bytes)) f.later (Err why) =
            subst (λ reply. Runs caller (given (bytes_in reply) (trouble (log_path host writer) reply) (λ b. if nat_lt (length b) len then done (Err (damage (log_path host writer) (ends_at (record { host = host; writer = writer; at = at; len = len }) (length b)))) else spells room (placed_all ds parts) (sofar ++ take len b))) f.later (Err why)) reads f.rest in
            let enough : nat_lt (length bytes) len ≡ false = long_enough (length bytes) len (slice_long at len (content (issued_by end g.dropping)) is.within) in
            let more : Runs caller (spells room (placed_all ds parts) (sofar ++ take len bytes)) f.later (Err why) =
            subst (λ p. Runs caller p f.later (Err why)) (cond-false (nat_lt (length bytes) len) _ _ enough) rest in
            let next : Moment = next_moment here f.event in
            let first_step = legal_first here (f.event ∷ []) f.later on in
            fails_later caller m.state f.before f.event f.later why all
            (reads_fail next f.later parts (sofar ++ take len bytes) why (grows_trans end here next goes (grows_after here (f.event ∷ []) first_step s1)) (sound_after here (f.event ∷ []) first_step s1) on.2 within.1 more)
        | inr (inl (fault, risen)) ↦
            fails_there caller m.state f.before f.event f.later why all f.by_caller (inl (fault, subst (λ (st : State). HasRisen st.store.faults f.event.after.store.faults) state_is risen))
            (sym (same_trouble stuck.Fault why (subst (λ reply. Runs caller (given (bytes_in reply) (trouble (log_path host writer) reply) (λ b. if nat_lt (length b) len then done (Err (damage (log_path host writer) (ends_at (record { host = host; writer = writer; at = at; len = len }) (length b)))) else spells room (placed_all ds parts) (sofar ++ take len b))) f.later (Err why)) fault f.rest).1))
        | inr (inr (memory, same)) ↦
            fails_there caller m.state f.before f.event f.later why all f.by_caller (inr memory)
            (sym (same_trouble stuck.Fault why (subst (λ reply. Runs caller (given (bytes_in reply) (trouble (log_path host writer) reply) (λ b. if nat_lt (length b) len then done (Err (damage (log_path host writer) (ends_at (record { host = host; writer = writer; at = at; len = len }) (length b)))) else spells room (placed_all ds parts) (sofar ++ take len b))) f.later (Err why)) memory f.rest).1))
      ])

pub reads_trouble : (caller : ℕ) (start end : Moment) (reader : OpenReader) (cut : List Gathered) (between reading : List Event) (at len : ℕ) (why : Stuck) → IsLawful end.state (between ++ reading) → IsSoundAt end → HasOpenReader start end reader cut
    → Runs caller (read_program reader.room reader.hosts (plan_of reader.pieces reader.size at len)) reading (Err why) → FailsByStore caller (state_after end.state between) reading why
reads_trouble caller start end reader cut between reading at len why lawful s has runs =
    let parts : List Part = plan_of reader.pieces reader.size at len in
    let from : Moment = moment_after end between in
    let l1 = legal_first end between reading lawful in
    subst (λ st. FailsByStore caller st reading why) (follows end between).0
    (reads_fail caller start end reader.room reader.hosts cut reader.truncs has.view has.hosts from reading parts [] why (grows_after end between l1 s) (sound_after end between l1 s) (legal_rest end between reading lawful) (plan_within end cut reader.truncs reader.pieces reader.size at len s has.pieces) runs)

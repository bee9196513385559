-- What is due of one writer is copied by right steps, and then all of it is there.
use Rattle.std.proofs.Common.{◌≡◌, true, false, Bool, ℕ, zero, suc, ◌+◌, ◌-◌, ◌*◌, ◌≤◌, min, List, [], ◌∷◌, length, take, drop, Some, refl, ap, sym, ◌∙◌, inl, inr, subst, arith}
use Rattle.std.specs.Prelude.{slice_get}
use Rattle.std.specs.List.{AllByRecursion}
use Rattle.std.proofs.lemmas.List.{length-take, length-drop}
use Rattle.plfs_types.specs.declared.entries.Trunc.{Trunc as Truncate}
use Rattle.plfs_types.specs.declared.names.Path.{Path}
use Rattle.container_layout.specs.declared.items.Item.TheVariants.{Index, Log, OpenHost}
use Rattle.container_layout.specs.Items.{IsItem}
use Rattle.container_layout.specs.Paths.{hostdir_of}
use Rattle.index_entry.specs.Spelling.{spelling_all}
use Rattle.index_entry.proofs.Facts.{length-spelling_all}
use Rattle.store_api.specs.declared.step.Answer.TheVariants.{Bytes}
use Rattle.store_api.specs.declared.tree.Room.{Room}
use Rattle.store_api.specs.declared.tree.Tree.{Tree}
use Rattle.store_api.specs.Room.{has_folder}
use Rattle.store_api.specs.Step.{Step, create, make_folder, sync, write_at}
use Rattle.store_laws.specs.Files.{file_at}
use Rattle.store_laws.specs.Naming.{NamesFile}
use Rattle.store_laws.specs.Tells.{Tells}
use Rattle.mount_model.specs.declared.call.Ask.{Ask}
use Rattle.mount_model.specs.declared.call.Call.TheVariants.{Look}
use Rattle.mount_model.specs.declared.call.Look.TheVariants.{Read}
use Rattle.mount_model.specs.declared.reply.Reply.TheVariants.{Looked}
use Rattle.mount_model.specs.Paths.{Name, index_path, log_path, open_path}
use Rattle.mount_sound.specs.Marks.{IsOfMark}
use Rattle.mount_sound.proofs.Shapes.Facts.{item_held}
use Rattle.mount_sound.specs.Dropping.{bytes_of, log_bytes}
use Rattle.mount_sound.proofs.Facts.{apart}
use Rattle.reader_laws.specs.Moments.{IsSoundAt, Moment}
use Rattle.reader_laws.proofs.Gathered.Facts.{answers_as, read_told}
use Rattle.drain_copy.specs.declared.outcome.Drained.{Drained}
use Rattle.drain_copy.specs.declared.plan.Copying.{Copying}
use Rattle.drain_copy.specs.declared.plan.Due.{Due}
use Rattle.drain_copy.specs.Asking.{acts}
use Rattle.drain_copy.specs.Copying.{copies_bytes, copies_log, copies_writer, entries_part, entry_of, index_of, log_of, makes_hostdir, makes_index, makes_log, part_told, parts_of, syncs_index, syncs_log, writes_entries, writes_index}
use Rattle.drain_copy.specs.Telling.{DrainsOn, entry_made, folder_alone, made_now, made_or_old, on_good, told_well}
use Rattle.drain_sound.specs.Fronts.{dropping_in, log_there}
use Rattle.drain_sound.specs.Steps.{IsCopied, IsDrainStep, IsNamedRoom, MayCopy}
use Rattle.drain_sound.specs.Steps as step
use Rattle.drain_sound.proofs.Facts.{container_of}
use Rattle.drain_laws.proofs.Planning.Aims.{IsApart, IsGood, IsPlanned, Safely}
use Rattle.drain_laws.proofs.Planning.Due.{IsDueOf, due_later, log_read, log_stays, part_is, place_is}
use Rattle.drain_laws.proofs.Copying.Mild.{longer_file, mild_create, mild_folder, mild_sync, mild_write, some_room}
use Rattle.drain_laws.proofs.Copying.OneStep.{Stuff, all_clear, on_good_safe, one_step, stuff_stays}
use Rattle.drain_laws.proofs.Copying.Answered.{created_well, entry_fair, folder_made_well, synced_well, told_fair, written_well}
use Rattle.drain_laws.proofs.Copying.Doing as way
use Rattle.drain_laws.proofs.Copying.Doing.{bytes_done, bytes_left, part_left, parts_done, read_at_place}
use Rattle.drain_laws.proofs.Copying.Failing.{part_fair}
use Rattle.drain_laws.proofs.Copying.Told.{bytes_there, entry_there, file_there, folder_there, part_good, synced_there}

module _ (number : ℕ) (name : Name) (g : Moment) (s : IsSoundAt g) (Sure : Type 0) (dues : List Due) (Post : Drained → Tree → Type 0) (to : ℕ) where
  abbrev Safe : DrainsOn → Tree → Type 0
  Safe program t = Safely number name g Sure dues Post program t

  abbrev Good : Tree → Type 0
  Good t = IsGood number name g Sure dues t

  abbrev Named : Tree → Room → Type 0
  Named t room = IsNamedRoom t to name room

  -- ---- one writer

  module _ (due : Due) (rest done : List Due) (put : List Truncate) (next : DrainsOn) (planned : IsPlanned number name g Sure dues due) (apart_rest : AllByRecursion (IsApart due) rest) (apart_done : AllByRecursion (IsApart due) done)
      (next_safe : (t : Tree) (room : Room) → Good t → Named t room → Stuff number name g s Sure dues Post to rest (due ∷ done) put t room → Safe next t) where
    abbrev c : Copying
    c = record { from = number; to = to; due = due }

    is_index : IsItem (Index due.host due.writer)
    is_index = way.is_index number name g s Sure dues Post to due rest done put planned apart_rest apart_done

    is_log : IsItem (Log due.host due.writer)
    is_log = way.is_log number name g s Sure dues Post to due rest done put planned apart_rest apart_done

    is_open : IsItem (OpenHost due.host due.writer)
    is_open = way.is_open number name g s Sure dues Post to due rest done put planned apart_rest apart_done

    abbrev Whole : Tree → Room → Type 0
    Whole t room = way.Whole number name g s Sure dues Post to due rest done put planned apart_rest apart_done t room

    abbrev Begun : Tree → Room → Type 0
    Begun t room = way.Begun number name g s Sure dues Post to due rest done put planned apart_rest apart_done t room

    abbrev Doing : Bool → ℕ → ℕ → Tree → Room → Type 0
    Doing made at from t room = way.Doing number name g s Sure dues Post to due rest done put planned apart_rest apart_done made at from t room

    abbrev Logged : ℕ → Tree → Room → Type 0
    Logged from t room = way.Logged number name g s Sure dues Post to due rest done put planned apart_rest apart_done from t room

    -- the folder of its droppings is there too
    record Housed (t : Tree) (room : Room) : Type 0 where
      begun : Begun t room
      folder : has_folder room (hostdir_of due.host) ≡ true

    -- the folder of a file that is there
    its_folder : (t : Tree) (room : Room) → Good t → Named t room → (path : Path) → (file : (bytes : List ℕ) × (file_at room path ≡ Some bytes)) → has_folder room path.folder ≡ true
    its_folder t room good at path file = way.housed number name g s Sure dues Post to due rest done put planned apart_rest apart_done t room good at path file.0 file.1

    -- ---- the sync of its index dropping, after which it is done

    end_safe : (t : Tree) (room : Room) → Good t → Named t room → Logged (due.count + length due.entries) t room → Safe (syncs_index next c) t
    end_safe t room good at l =
        let all : ℕ = due.count + length due.entries in
        let sy : Step = sync to (index_of due).folder (index_of due).file in
        one_step number name g s Sure dues Post to (Logged all) (Stuff number name g s Sure dues Post to rest (due ∷ done) put) sy (told_well (index_of due) made_now) (λ made. next) (mild_sync to (index_of due).folder (index_of due).file)
        (λ x r good_x named a. record { is_step = λ m sound grows. step.syncs_index to due.host due.writer r named; news = tt })
        (λ x after r new told made good_x good_after named a tells ch e.
        let k = synced_there to (index_of due) (index_of due) x after r told made (40 * all) tells e named.there a.doing.index in
        let o = way.clear_stays number name g s Sure dues Post to due rest done put planned apart_rest apart_done true due.bytes all sy x after r new (λ other. (λ w. w, λ w. w)) (λ w. w) ch a.doing in
        record {
          fronts = o.stuff.fronts;
          dones = (
            record {
              bytes = o.stands.0;
              has = record { is_item = is_index; there = o.stands.1 };
              entries = omega (arith, o.index, ap (λ f. length (bytes_of f)) o.stands.1);
              written = o.log;
              index_kept = inr k;
              log_kept = ch.kept (log_path due.host due.writer) due.bytes (λ w. w) a.kept;
            },
            o.stuff.dones,
          );
          puts = o.stuff.puts;
        })
        (λ x after r told why good_x named a tells e. told_fair name after (index_of due) made_now told why
        (λ answer is. synced_well to x r named.there (index_of due) a.doing.stands.0 after answer (its_folder x r good_x named (index_of due) a.doing.stands) a.doing.stands.1 (subst (λ o. Tells sy x o after) is tells)) e)
        (λ x r made good_x named b. next_safe x r good_x named b)
        t room good at l

    -- ---- its entries

    part_length : (left : ℕ) → left ≤ length due.entries → length (entries_part due.entries left) ≡ min left 4096
    part_length part l = omega (arith, length-take (min part 4096) (drop (length due.entries - part) due.entries), length-drop (length due.entries - part) due.entries)

    entries_safe : (n part : ℕ) → n ≡ parts_of 4096 part → part ≤ length due.entries → (t : Tree) (room : Room) → Good t → Named t room → Logged (due.count + (length due.entries - part)) t room → Safe (writes_index next n c part) t
    entries_safe zero part count within t room good at l =
        let none : due.count + (length due.entries - part) ≡ due.count + length due.entries = omega (arith, parts_done 4096 part count) in
        end_safe t room good at (subst (λ k. Logged k t room) none l)
    entries_safe (suc n) part count within t room good at l =
        let left = part_left n part count in
        let place : ℕ = due.count + (length due.entries - part) in
        let bytes : List ℕ = spelling_all (entries_part due.entries part) in
        let wr : Step = write_at to (index_of due).folder (index_of due).file (40 * place) bytes in
        let long : length bytes ≡ 40 * min part 4096 = omega (arith, length-spelling_all (entries_part due.entries part), part_length part within) in
        let goes : Safe (acts wr (λ told. on_good (λ made. writes_index next n c (part - min part 4096)) (told_well (index_of due) made_now told))) t =
        one_step number name g s Sure dues Post to (Logged place) (Logged (due.count + (length due.entries - (part - min part 4096))))
        wr (told_well (index_of due) made_now) (λ made. writes_index next n c (part - min part 4096)) (mild_write to (Index due.host due.writer) (40 * place) bytes is_index (λ last b stamp h w e. cc))
        (λ x r good_x named a. record {
          is_step = λ m sound grows. subst (λ b. IsDrainStep m number name x (write_at to (index_of due).folder (index_of due).file (40 * place) b)) (sym (part_is number m sound due (due_later number g s due planned.due_then m grows) part within))
              (step.writes_index to due.host due.writer place (40 * min part 4096) r named (way.copied number name g s Sure dues Post to due rest done put planned apart_rest apart_done m grows x r a.doing.marked a.doing.unsettled a.doing.opened) a.doing.index);
          news = (due, (planned, omega (arith, left.0, within)), inr (record { folder_is = refl; file_is = refl; within = omega (arith, long, within) }));
        })
        (λ x after r new told made good_x good_after named a tells ch e.
        let w = bytes_there to (index_of due) (index_of due) (40 * place) bytes x after told made tells e in
        let same : w.room ≡ new = some_room w.room new (slice_get after.rooms to) w.has_room ch.at.there in
        let there : file_at new (index_path due.host due.writer) ≡ Some w.bytes = ap (λ y. file_at y (index_path due.host due.writer)) (sym same) ∙ w.there in
        let spared : NamesFile wr to (log_path due.host due.writer) → ⊥ = λ names. apart (Log due.host due.writer) (Index due.host due.writer) is_log is_index (λ y. cc) names.1.0 names.1.1 in
        let o = way.doing_stays number name g s Sure dues Post to due rest done put planned apart_rest apart_done true due.bytes place wr x after r new (way.others_index number name g s Sure dues Post to due rest done put planned apart_rest apart_done (40 * place) bytes rest apart_rest) (way.others_index number name g s Sure dues Post to due rest done put planned apart_rest apart_done (40 * place) bytes done apart_done)
        (λ names. apart (OpenHost due.host due.writer) (Index due.host due.writer) is_open is_index (λ y. cc) names.1.0 names.1.1) (ch.ends (log_path due.host due.writer) spared) ch a.doing in
        record {
          doing = record {
            stuff = o.stuff;
            marked = o.marked;
            unsettled = o.unsettled;
            opened = o.opened;
            stands = (w.bytes, there);
            has_log = o.has_log;
            log = o.log;
            ends = o.ends;
            index = omega (arith, w.long, ap (λ f. length (bytes_of f)) there, long, within);
          };
          kept = ch.kept (log_path due.host due.writer) due.bytes spared a.kept;
        })
        (λ x after r told why good_x named a tells e. told_fair name after (index_of due) made_now told why
        (λ answer is. written_well to x r named.there (index_of due) (40 * place) bytes a.doing.stands.0 after answer (its_folder x r good_x named (index_of due) a.doing.stands) a.doing.stands.1
        (omega (arith, a.doing.index, ap (λ f. length (bytes_of f)) a.doing.stands.1)) (subst (λ o. Tells wr x o after) is tells)) e)
        (λ x r made good_x named b. entries_safe n (part - min part 4096) left.1 (omega (arith, within)) x r good_x named b)
        t room good at l in
        subst (λ p. Safe (acts (write_at to (index_of due).folder (index_of due).file p bytes) (λ told. on_good (λ made. writes_index next n c (part - min part 4096)) (told_well (index_of due) made_now told))) t)
        (sym (place_is number g s due planned.due_then part within)) goes

    -- ---- the sync of its log

    kept_safe : (t : Tree) (room : Room) → Good t → Named t room → Doing true due.bytes due.count t room → Safe (syncs_log next c) t
    kept_safe t room good at o =
        let sy : Step = sync to (log_of due).folder (log_of due).file in
        one_step number name g s Sure dues Post to (Doing true due.bytes due.count) (Logged due.count) sy (told_well (log_of due) made_now) (λ made. writes_entries next c) (mild_sync to (log_of due).folder (log_of due).file)
        (λ x r good_x named a. record { is_step = λ m sound grows. step.syncs_log to due.host due.writer r named; news = tt })
        (λ x after r new told made good_x good_after named a tells ch e. record {
          doing = way.clear_stays number name g s Sure dues Post to due rest done put planned apart_rest apart_done true due.bytes due.count sy x after r new (λ other. (λ w. w, λ w. w)) (λ w. w) ch a;
          kept = inr (synced_there to (log_of due) (log_of due) x after r told made due.bytes tells e named.there a.log);
        })
        (λ x after r told why good_x named a tells e. told_fair name after (log_of due) made_now told why
        (λ answer is. synced_well to x r named.there (log_of due) (a.has_log refl).0 after answer (its_folder x r good_x named (log_of due) (a.has_log refl)) (a.has_log refl).1 (subst (λ o. Tells sy x o after) is tells)) e)
        (λ x r made good_x named b.
        let none : due.count ≡ due.count + (length due.entries - length due.entries) = omega arith in
        entries_safe (parts_of 4096 (length due.entries)) (length due.entries) refl (omega arith) x r good_x named (subst (λ k. Logged k x r) none b))
        t room good at o

    -- ---- its log

    write_safe : (part place len : ℕ) (bytes : List ℕ) (on : DrainsOn) → 1 ≤ part → part ≤ due.bytes - due.log → place ≡ due.bytes - part → len ≡ min part 262144 → len ≤ length bytes → bytes ≡ take len (drop place (log_there g (dropping_in number due.host due.writer)))
        → ((t : Tree) (room : Room) → Good t → Named t room → Doing true (due.bytes - (part - len)) due.count t room → Safe on t)
        → (t : Tree) (room : Room) → Good t → Named t room → Doing true place due.count t room
        → Safe (acts (write_at to (log_of due).folder (log_of due).file place bytes) (λ told. on_good (λ made. on) (told_well (log_of due) made_now told))) t
    write_safe part place len bytes on some within place_is len_is full are on_safe t room good at o =
        let wr : Step = write_at to (log_of due).folder (log_of due).file place bytes in
        let short : length bytes ≤ len = omega (arith, ap length are, length-take len (drop place (log_there g (dropping_in number due.host due.writer)))) in
        one_step number name g s Sure dues Post to (Doing true place due.count) (Doing true (due.bytes - (part - len)) due.count)
        wr (told_well (log_of due) made_now) (λ made. on) (mild_write to (Log due.host due.writer) place bytes is_log (λ last b stamp h w e. cc))
        (λ x r good_x named a. record {
          is_step = λ m sound grows. subst (λ b. IsDrainStep m number name x (write_at to (log_of due).folder (log_of due).file place b)) (log_stays number g s due planned.due_then m sound grows place len (omega (arith, within, place_is, len_is)) ∙ sym are)
              (step.writes_log to due.host due.writer place len r named (way.copied number name g s Sure dues Post to due rest done put planned apart_rest apart_done m grows x r a.marked a.unsettled a.opened) a.log);
          news = (
            due,
            (planned, has_news part some within),
            inl (record {
              folder_is = refl;
              file_is = refl;
              within = omega (arith, within, place_is, len_is, short);
              beside = λ n other is. (a.stands.0, subst (λ y. file_at y (index_path due.host due.writer) ≡ Some a.stands.0) (way.one_room number name g s Sure dues Post to due rest done put planned apart_rest apart_done x r good_x named n other is) a.stands.1);
            }),
          );
        })
        (λ x after r new told made good_x good_after named a tells ch e.
        let b = bytes_there to (log_of due) (log_of due) place bytes x after told made tells e in
        let same : b.room ≡ new = some_room b.room new (slice_get after.rooms to) b.has_room ch.at.there in
        let was : b.was ≡ r = some_room b.was r (slice_get x.rooms to) b.had_room named.there in
        let there : file_at new (log_path due.host due.writer) ≡ Some b.bytes = ap (λ y. file_at y (log_path due.host due.writer)) (sym same) ∙ b.there in
        let l = ch.longer (index_path due.host due.writer) a.stands.0 a.stands.1 in
        record {
          stuff = stuff_stays number name g s Sure dues Post to rest done put wr x after r new (way.others_log number name g s Sure dues Post to due rest done put planned apart_rest apart_done place bytes rest apart_rest) (way.others_log number name g s Sure dues Post to due rest done put planned apart_rest apart_done place bytes done apart_done) ch a.stuff;
          marked = ch.marked due.writer a.marked;
          unsettled = λ h. a.unsettled (ch.settled due.host due.writer h);
          opened = ch.keeps.files (open_path due.host due.writer) (λ names. apart (OpenHost due.host due.writer) (Log due.host due.writer) is_open is_log (λ y. cc) names.1.0 names.1.1) ∙ a.opened;
          stands = (l.0, l.1);
          has_log = λ is. (b.bytes, there);
          log = omega (arith, b.long, ap (λ f. length (bytes_of f)) there, full, place_is, len_is, within);
          ends = λ sure fits. omega (arith, b.most (due.bytes - (part - len)) (omega (arith, a.ends sure fits, ap (λ y. length (log_bytes y due.host due.writer)) was, place_is, len_is)) (omega (arith, short, within, place_is, len_is)), ap (λ f. length (bytes_of f)) there);
          index = omega (arith, a.index, longer_file name to wr x after r new ch (index_path due.host due.writer));
        })
        (λ x after r told why good_x named a tells e. told_fair name after (log_of due) made_now told why
        (λ answer is. written_well to x r named.there (log_of due) place bytes (a.has_log refl).0 after answer (its_folder x r good_x named (log_of due) (a.has_log refl)) (a.has_log refl).1
        (omega (arith, a.log, ap (λ f. length (bytes_of f)) (a.has_log refl).1)) (subst (λ o. Tells wr x o after) is tells)) e)
        (λ x r made good_x named b. on_safe x r good_x named b)
        t room good at o
      where
        has_news : (part : ℕ) → 1 ≤ part → part ≤ due.bytes - due.log → 1 ≤ length due.entries
        has_news part some within = elim (length due.entries) as (λ k. length due.entries ≡ k → 1 ≤ k) [
          | zero ↦ λ e. absurd (omega (arith, planned.idle e, some, within))
          | suc k ↦ λ e. omega arith
        ] refl

    log_safe : (n part : ℕ) → n ≡ parts_of 262144 part → part ≤ due.bytes - due.log → (t : Tree) (room : Room) → Good t → Named t room → Doing true (due.bytes - part) due.count t room → Safe (copies_log next n c part) t
    log_safe zero part count within t room good at o =
        let none : due.bytes - part ≡ due.bytes = omega (arith, bytes_done part count) in
        kept_safe t room good at (subst (λ k. Doing true k due.count t room) none o)
    log_safe (suc n) part count within t room good at o =
        let left = bytes_left n part count in
        let place : ℕ = due.bytes - part in
        let len : ℕ = min part 262144 in
        let fits : place + len ≤ due.bytes = omega (arith, within) in (
          record {
            due = due;
            news = (planned, has_news left.0);
            behind = λ sure from host writer at_place most e n other is.
                let r = read_at_place (log_of due) (log_path host writer) number from place len at_place most e in
                let its : room ≡ other = way.one_room number name g s Sure dues Post to due rest done put planned apart_rest apart_done t room good at n other is in
                let same : length (bytes_of (file_at room (log_of due))) ≡ length (log_bytes other host writer) = λ i. length (bytes_of (file_at (its i) (r.0 i))) in
                omega (arith, same, r.1, o.log, o.ends sure (omega (arith, left.0, within)));
          },
          λ m e since lawful asked.
              let made = lawful.1 in
              on_good_safe number name g s Sure dues Post to
              (λ (bytes : List ℕ). acts (write_at to (log_of due).folder (log_of due).file place bytes) (λ told. on_good (λ made. copies_log next n c (part - len)) (told_well (log_of due) made_now told)))
              (part_told (log_of due) place len e.reply) t
              (λ bytes told.
              let p = part_good (log_of due) place len e.reply bytes told in
              let read = read_told m since.sound e.caller number (log_path due.host due.writer) place len bytes e.after
              (answers_as m.state e.caller e.ask (Look number (Read (log_path due.host due.writer) place len)) e.reply (Looked (Bytes bytes)) e.after (ap (λ (a : Ask). a.call) asked) p.0 refl made) in
              let due_now : IsDueOf number m due = due_later number g s due planned.due_then m since.grows in
              let are : bytes ≡ take len (drop place (log_there g (dropping_in number due.host due.writer))) =
              sym read.2 ∙ log_read number m since.sound due due_now read.0 place len read.1 fits ∙ log_stays number g s due planned.due_then m since.sound since.grows place len fits in
              write_safe part place len bytes (copies_log next n c (part - len)) left.0 within refl refl p.1 are
              (λ x r good_x named b. log_safe n (part - len) left.1 (omega (arith, within)) x r good_x named b)
              t room good at o)
              (λ why bad. part_fair name t number m since.sound e due (due_later number g s due planned.due_then m since.grows) place len (omega (arith, left.0)) fits asked made why bad),
        )
      where
        has_news : 1 ≤ part → 1 ≤ length due.entries
        has_news some = elim (length due.entries) as (λ k. length due.entries ≡ k → 1 ≤ k) [
          | zero ↦ λ e. absurd (omega (arith, planned.idle e, some, within))
          | suc k ↦ λ e. omega arith
        ] refl

    bytes_safe : (t : Tree) (room : Room) → Good t → Named t room → Doing true (due.bytes - (due.bytes - due.log)) due.count t room → Safe (copies_bytes next c) t
    bytes_safe t room good at o = log_safe (parts_of 262144 (due.bytes - due.log)) (due.bytes - due.log) refl (omega arith) t room good at o

    -- ---- its files

    log_made : (t : Tree) (room : Room) → Good t → Named t room → Doing false (due.bytes - (due.bytes - due.log)) due.count t room → Safe (makes_log next c) t
    log_made t room good at o =
        let start : ℕ = due.bytes - (due.bytes - due.log) in
        let cr : Step = create to (log_of due).folder (log_of due).file in
        one_step number name g s Sure dues Post to (Doing false start due.count) (Doing true start due.count) cr (told_well (log_of due) made_or_old) (λ made. copies_bytes next c) (mild_create to (Log due.host due.writer) is_log (λ last b stamp h w e. cc))
        (λ x r good_x named a. record { is_step = λ m sound grows. step.log to due.host due.writer r named (way.copied number name g s Sure dues Post to due rest done put planned apart_rest apart_done m grows x r a.marked a.unsettled a.opened); news = tt })
        (λ x after r new told made good_x good_after named a tells ch e.
        let o = way.clear_stays number name g s Sure dues Post to due rest done put planned apart_rest apart_done false start due.count cr x after r new (λ other. (λ w. w, λ w. w))
        (λ names. apart (OpenHost due.host due.writer) (Log due.host due.writer) is_open is_log (λ y. cc) names.1.0 names.1.1) ch a in
        let f = file_there to (log_of due) (log_of due) x after told made tells e in
        let same : f.room ≡ new = some_room f.room new (slice_get after.rooms to) f.has_room ch.at.there in
        record {
          stuff = o.stuff;
          marked = o.marked;
          unsettled = o.unsettled;
          opened = o.opened;
          stands = o.stands;
          has_log = λ is. (f.bytes, ap (λ z. file_at z (log_path due.host due.writer)) (sym same) ∙ f.there);
          log = o.log;
          ends = o.ends;
          index = o.index;
        })
        (λ x after r told why good_x named a tells e. told_fair name after (log_of due) made_or_old told why
        (λ answer is. created_well to x r named.there (log_of due) after answer (its_folder x r good_x named (index_of due) a.stands) (subst (λ o. Tells cr x o after) is tells)) e)
        (λ x r made good_x named b. bytes_safe x r good_x named b)
        t room good at o

    index_made : (t : Tree) (room : Room) → Good t → Named t room → Housed t room → Safe (makes_index next c) t
    index_made t room good at begun =
        let start : ℕ = due.bytes - (due.bytes - due.log) in
        let cr : Step = create to (index_of due).folder (index_of due).file in
        one_step number name g s Sure dues Post to Housed (Doing false start due.count) cr (told_well (index_of due) made_or_old) (λ made. makes_log next c) (mild_create to (Index due.host due.writer) is_index (λ last b stamp h w e. cc))
        (λ x r good_x named a. record { is_step = λ m sound grows. step.index to due.host due.writer r named (way.copied number name g s Sure dues Post to due rest done put planned apart_rest apart_done m grows x r a.begun.front.marked a.begun.front.unsettled a.begun.opened); news = tt })
        (λ x after r new told made good_x good_after named a tells ch e.
        let y = file_there to (index_of due) (index_of due) x after told made tells e in
        let same : y.room ≡ new = some_room y.room new (slice_get after.rooms to) y.has_room ch.at.there in
        let b = way.begun_stays number name g s Sure dues Post to due rest done put planned apart_rest apart_done cr x after r new (λ other. (λ w. w, λ w. w)) (λ names. apart (OpenHost due.host due.writer) (Index due.host due.writer) is_open is_index (λ z. cc) names.1.0 names.1.1) ch a.begun in
        record {
          stuff = b.stuff;
          marked = b.front.marked;
          unsettled = b.front.unsettled;
          opened = b.opened;
          stands = (y.bytes, ap (λ z. file_at z (index_path due.host due.writer)) (sym same) ∙ y.there);
          has_log = λ is. absurd (no_log is);
          log = omega (arith, b.front.log);
          ends = λ sure fits. omega (arith, b.front.ends sure, fits);
          index = b.front.index;
        })
        (λ x after r told why good_x named a tells e. told_fair name after (index_of due) made_or_old told why
        (λ answer is. created_well to x r named.there (index_of due) after answer a.folder (subst (λ o. Tells cr x o after) is tells)) e)
        (λ x r made good_x named b. log_made x r good_x named b)
        t room good at begun
      where
        no_log : false ≡ true → ⊥
        no_log e = cc

    hostdir_made : (t : Tree) (room : Room) → Good t → Named t room → Begun t room → Safe (makes_hostdir next c) t
    hostdir_made t room good at begun =
        one_step number name g s Sure dues Post to Begun Housed (make_folder to (hostdir_of due.host)) (told_well (folder_alone (hostdir_of due.host)) made_or_old) (λ made. makes_index next c) (mild_folder to (hostdir_of due.host))
        (λ x r good_x named a. record { is_step = λ m sound grows. step.houses to due.host r named; news = tt })
        (λ x after r new told made good_x good_after named a tells ch e. record {
          begun = way.begun_stays number name g s Sure dues Post to due rest done put planned apart_rest apart_done (make_folder to (hostdir_of due.host)) x after r new (λ other. (λ w. w, λ w. w)) (λ w. w) ch a;
          folder = folder_there to (hostdir_of due.host) (folder_alone (hostdir_of due.host)) x after new told made tells e ch.at.there;
        })
        (λ x after r told why good_x named a tells e. told_fair name after (folder_alone (hostdir_of due.host)) made_or_old told why
        (λ answer is. folder_made_well to x r named.there (hostdir_of due.host) after answer (subst (λ o. Tells (make_folder to (hostdir_of due.host)) x o after) is tells)) e)
        (λ x r made good_x named b. index_made x r good_x named b)
        t room good at begun

    pub writer_safe : (t : Tree) (room : Room) → Good t → Named t room → Whole t room → Safe (copies_writer next c) t
    writer_safe t room good at st =
        let cr : Step = create to (entry_of due).folder (entry_of due).file in
        one_step number name g s Sure dues Post to Whole Begun cr (entry_made (entry_of due)) (λ made. makes_hostdir next c) (mild_create to (OpenHost due.host due.writer) is_open (λ last b stamp h w e. cc))
        (λ x r good_x named a. record { is_step = λ m sound grows. step.opens to due.host due.writer r named (way.may number name g s Sure dues Post to due rest done put planned apart_rest apart_done m grows x r a.fronts.0.marked a.fronts.0.unsettled); news = tt })
        (λ x after r new told made good_x good_after named a tells ch e.
        let y = entry_there to (entry_of due) x after told made tells e in
        let same : y.room ≡ new = some_room y.room new (slice_get after.rooms to) y.has_room ch.at.there in
        let there : file_at new (open_path due.host due.writer) ≡ Some y.bytes = ap (λ z. file_at z (open_path due.host due.writer)) (sym same) ∙ y.there in
        let container = container_of (IsOfMark after) name new good_after.logical ch.at.named (good_after.sound.shaped.rooms to new ch.at.there) in
        let empty : y.bytes ≡ [] = (item_held (IsOfMark after) new (OpenHost due.host due.writer) y.bytes container is_open there).holds in
        let all = stuff_stays number name g s Sure dues Post to (due ∷ rest) done put cr x after r new (all_clear number name g s Sure dues Post to cr (due ∷ rest) (λ other. (λ w. w, λ w. w))) (all_clear number name g s Sure dues Post to cr done (λ other. (λ w. w, λ w. w))) ch a in
        record {
          stuff = record { fronts = all.fronts.1; dones = all.dones; puts = all.puts };
          front = all.fronts.0;
          opened = there ∙ ap (λ z. Some z) empty;
        })
        (λ x after r told why good_x named a tells e. entry_fair name to x after r named (entry_of due) refl told why tells e)
        (λ x r made good_x named b. hostdir_made x r good_x named b)
        t room good at st

-- A write of an open writer leaves it as a plain machine leaves its writer, whoever calls in between.
use Rattle.std.proofs.Common.{◌≡◌, ◌≤◌, ◌<◌, ◌+◌, ◌-◌, ℕ, true, false, nat_le, List, [], ◌∷◌, ◌++◌, length, length-append, Some, None, Result, Ok, Err, refl, sym, ap, ◌∙◌, inl, inr, subst, arith, if◌then◌else◌}
use Rattle.std.specs.Prelude.{MatchOption}
use Rattle.std.proofs.lemmas.Bool.Decides.{nat_tests}
use Rattle.plfs_types.specs.Stamps.{next_stamp}
use Rattle.edge_io.specs.Clock.{Ticks}
use Rattle.mount_model.specs.declared.call.Call.TheVariants.{Flush, Write}
use Rattle.mount_model.specs.declared.reply.Refusal.{Refusal}
use Rattle.mount_model.specs.declared.reply.Reply.TheVariants.{Refused}
use Rattle.mount_model.specs.declared.row.Row.{Row}
use Rattle.mount_model.specs.declared.row.Stage.TheVariants as stage
use Rattle.mount_model.specs.History.{Event}
use Rattle.mount_model.specs.Regular.{IsCounted}
use Rattle.mount_model.specs.State.{State}
use Rattle.mount_model.specs.Step.{Answers}
use Rattle.mount_model.specs.Table.{only}
use Rattle.mount_model.specs.Writing.{entry_of, write_check, wrote}
use Rattle.mount_model.proofs.Facts.{row_of_all, row_of_id}
use Rattle.mount_sound.specs.Entries.{logged}
use Rattle.mount_sound.specs.Issued.{issued_after, written_by}
use Rattle.mount_sound.specs.Ledger.{Written, entries_in}
use Rattle.mount_sound.specs.Owed.{IsLawful}
use Rattle.mount_model.specs.Program.{ask}
use Rattle.mount_model.specs.declared.stuck.Stuck.{Stuck}
use Rattle.mount_model.specs.declared.stuck.Stuck.TheVariants as stuck
use Rattle.mount_model.specs.Running.{Runs}
use Rattle.reader_laws.specs.Moments.{Dropping, IsSoundAt, Moment, issued_by, moment_after, next_moment}
use Rattle.reader_laws.proofs.Gathered.Facts.{sound_after}
use Rattle.writer_flow.specs.declared.handle.WriterHandle.{WriterHandle}
use Rattle.writer_flow.specs.declared.handle.WriterOut.{WriterOut}
use Rattle.writer_flow.specs.Ending.{stays_with}
use Rattle.writer_flow.specs.Handle.{flushed_of, one_more_of}
use Rattle.writer_flow.specs.Writing.{flush_then, if_flushed, if_wrote, write_program, writes}
use Rattle.plain_machine.specs.Machine.{PlainWriter}
use Rattle.plain_machine.specs.Becoming.{all_landed}
use Rattle.plain_machine.specs.Landed.{last_of}
use Rattle.plain_machine.specs.Writers.{issue, one_more}
use Rattle.plain_plays.specs.Calls.{AtSome}
use Rattle.mount_model.specs.History.{AreBy}
use Rattle.plain_plays.specs.Plainly.{KeepsPlain, MirrorsOwn, RefusesOne, WritesInto, WritesOne, WritesPlainly, dropping_of, plain_reason}
use Rattle.plain_plays.specs.Served.{EndsWell, GoesWell, HasOpen, write_reason}
use Rattle.plain_plays.proofs.PlainSteps.Doing.{flush_does, flush_times, found, not_none, refused_same, write_does}
use Rattle.plain_plays.proofs.PlainSteps.Having.{Has, has_flushed, has_on, has_stays, has_written, its_between}
use Rattle.plain_plays.proofs.PlainSteps.Plainly.{has_it, mirrored}
use Rattle.plain_plays.proofs.PlainSteps.Reaching.{over_alone, reached, some_later}
use Rattle.plain_plays.proofs.PlainSteps.Serving.{before_write, over}

one_row : (a b : Row) → Some a ≡ Some b → a ≡ b
one_row a b e = cc

ok_err : (n : ℕ) (why : Stuck) (r : Result ℕ Stuck) (R : Type 0) → r ≡ Ok n → r ≡ Err why → R
ok_err n why r R e f = absurd (let clash : ◌≡◌ {A = Result ℕ Stuck} (Ok n) (Err why) = sym e ∙ f in cc)

same_refusal : (a b : Refusal) (r : Result ℕ Stuck) → r ≡ Err (stuck.Refused a) → r ≡ Err (stuck.Refused b) → a ≡ b
same_refusal a b r e f = cc

-- what the plain machine has by its writes the row has by its numbers
same_numbers : (row : Row) (v : PlainWriter) (at len : ℕ) → row.stored ≡ logged (entries_in v.issued) → row.last ≡ last_of v.issued → row.floor ≡ v.floor → write_reason row at len ≡ plain_reason v at len
same_numbers row v at len stored last floor = rw stored (rw last (rw floor refl))

module _ (me number : ℕ) (w : PlainWriter) where
  abbrev D : Dropping
  D = dropping_of number w

  -- the machine's writer that has issued these writes, of which so many have landed
  abbrev So : List Written → ℕ → PlainWriter
  So issued count = record w { issued = issued; landed = count }

  -- a later part of the events is one of all
  into_later : (v : PlainWriter) (m mid : Moment) (at : ℕ) (block : List ℕ) (before : List Event) (event : Event) (rest events : List Event) (out : WriterOut) → events ≡ before ++ event ∷ rest → mid ≡ moment_after m before → moment_after (next_moment mid event) rest ≡ moment_after m events → (AreBy me events → AreBy me rest × (event.after.times ≡ m.state.times))
      → WritesInto (next_moment mid event) me number v at block rest out → WritesInto m me number v at block events out
  into_later v m mid at block before event rest events out split is ends clock x =
      elim (plain_reason v at (length block)) as (λ c. MatchOption c (WritesOne (next_moment mid event) me number v at block rest out) (λ why. RefusesOne (next_moment mid event) me number v why rest out)
      → MatchOption c (WritesOne m me number v at block events out) (λ why. RefusesOne m me number v why events out)) [
        | Some why ↦ λ k. record {
          keeps = subst (λ y. KeepsPlain me number v y (Err (stuck.Refused why)) out) ends k.keeps;
          left = λ by. let c = clock by in sym (ap (λ (y : Moment). y.state.times) ends) ∙ k.left c.0 ∙ c.1;
        }
        | None ↦ λ k. record {
          time = k.time;
          times = k.times;
          made = some_later m before event rest events (λ y. Ticks y.state.times k.times k.time) split (subst (λ y. AtSome (next_moment y event) rest (λ z. Ticks z.state.times k.times k.time)) is k.made);
          keeps = subst (λ y. KeepsPlain me number (one_more (issue v at block (next_stamp k.time (last_of v.issued) v.floor)) v) y (Ok (next_stamp k.time (last_of v.issued) v.floor)) out) ends k.keeps;
          left = λ by. let c = clock by in let l = k.left c.0 in (subst (λ t. Ticks t k.times k.time) c.1 l.0, sym (ap (λ (y : Moment). y.state.times) ends) ∙ l.1);
        }
      ] x

  writing : (h : WriterHandle) (m : Moment) (row : Row) (issued : List Written) (count at : ℕ) (block : List ℕ) (events : List Event) (out : WriterOut) → h.writer ≡ w.id → h.cap ≡ w.capacity → h.closing ≡ false → h.pending ≡ length row.pending.entries → IsSoundAt m → IsLawful m.state events → GoesWell me events → Has me D row issued count m
      → row.landed ≡ count → row.floor ≡ w.floor → row.pending.capacity ≡ w.capacity → length row.pending.entries < row.pending.capacity → Runs me (writes h at block) events out → WritesInto m me number (So issued count) at block events out
  writing h m row issued count at block events out is cap fresh pending sound lawful well has counted floor capacity free runs =
      let v : PlainWriter = So issued count in
      let c = its_between me D row issued count m sound has in
      let stored : row.stored ≡ logged (entries_in issued) = c.numbers.stored ∙ ap (λ l. logged (entries_in l)) has.issued_is in
      let last : row.last ≡ last_of issued = c.numbers.last ∙ ap last_of has.issued_is in
      let ends : MatchOption (plain_reason v at (length block)) (EndsWell out.result) (λ why. out.result ≡ Err (stuck.Refused why)) = subst (λ x. MatchOption x (EndsWell out.result) (λ why. out.result ≡ Err (stuck.Refused why))) (same_numbers row v at (length block) stored last floor)
      (before_write me w.id h m row at block events out is sound lawful well has.opened free runs) in
      let r = reached me (Has me D row issued count) (has_stays me D row issued count) m (Write w.id at block) (if_wrote h) events out sound lawful well has (subst (λ id. Runs me (ask (Write id at block) (if_wrote h)) events out) is runs) in
      let next : Moment = next_moment r.mid r.event in
      elim (plain_reason v at (length block)) as (λ x. MatchOption x (EndsWell out.result) (λ why. out.result ≡ Err (stuck.Refused why)) → MatchOption x (WritesOne m me number v at block events out) (λ why. RefusesOne m me number v why events out)) [
        | None ↦ λ ok. elim r.served as (λ _. WritesOne m me number v at block events out) [
          | inr (why, told, reason) ↦
              let o = over me w.id (λ x. Unit {0}) (λ x event rest s l other u. tt) (stays_with h (Err (stuck.Refused why))) next r.rest out tt r.then_sound r.lawful (subst (λ x. Runs me (if_wrote h x) r.rest out) told r.runs) in
              ok_err ok.0 (stuck.Refused why) out.result _ ok.1 (sym (ap (λ (x : WriterOut). x.result) o.1))
          | inl (stamp, told) ↦
              let x = write_does me w.id row r.mid.state r.event.after r.holds.opened at block stamp (subst (λ y. Answers r.mid.state me (Write w.id at block) y r.event.after) told r.answers) in
              let after : Row = wrote stamp row at (length block) in
              let more : List Written = issued ++ written_by row stamp at block ∷ [] in
              let on : Has me D after more count next = has_written me D row after issued count at block stamp r.mid r.event r.rest r.sound r.whole r.asked told r.holds x.now refl refl in
              let o = over me w.id (Has me D after more count) (has_stays me D after more count) (stays_with (one_more_of h) (Ok stamp)) next r.rest out on r.then_sound r.lawful (subst (λ y. Runs me (if_wrote h y) r.rest out) told r.runs) in
              let id : row.id ≡ w.id = row_of_id w.id m.state.table.writers row has.opened.has.there in
              let same : written_by row stamp at block ≡ issue v at block stamp = λ i. record { entry = record { at = at; len = length block; physical = stored i; stamp = stamp; writer = id i }; bytes = block } in
              let waits : h.pending + 1 ≡ length after.pending.entries = ap (λ k. k + 1) pending ∙ sym (length-append row.pending.entries (entry_of stamp row at (length block) ∷ [])) in
              let end : Moment = moment_after next r.rest in
              let base : MirrorsOwn me number (one_more_of h) (So more count) end = mirrored me number w (one_more_of h) after more count end (sound_after next r.rest r.lawful r.then_sound) o.0 counted floor capacity is waits cap fresh in
              let kept : KeepsPlain me number (one_more (issue v at block stamp) v) (moment_after m events) (Ok stamp) out = subst (λ y. KeepsPlain me number (one_more (issue v at block stamp) v) y (Ok stamp) out) r.ends
              (record { handle = one_more_of h; is = sym o.1; mirrors = subst (λ e. MirrorsOwn me number (one_more_of h) (So (issued ++ e ∷ []) count) end) same base }) in
              let stamp_is : stamp ≡ next_stamp x.time (last_of v.issued) v.floor = x.is ∙ ap (λ k. next_stamp x.time k row.floor) last ∙ ap (λ k. next_stamp x.time (last_of issued) k) floor in
              record {
                time = x.time;
                times = x.times;
                made = record { before = r.before; later = r.event ∷ r.rest; split = r.split; held = subst (λ y. Ticks y.state.times x.times x.time) r.at x.ticks };
                keeps = subst (λ k. KeepsPlain me number (one_more (issue v at block k) v) (moment_after m events) (Ok k) out) stamp_is kept;
                left = λ by.
                    let a = r.alone by in
                    let none : r.rest ≡ [] = over_alone me (stays_with (one_more_of h) (Ok stamp)) r.rest out a.1 (subst (λ y. Runs me (if_wrote h y) r.rest out) told r.runs) in (
                      subst (λ (y : Moment). Ticks y.state.times x.times x.time) a.0 x.ticks,
                      sym (ap (λ (y : Moment). y.state.times) r.ends) ∙ ap (λ l. (moment_after next l).state.times) none ∙ x.left,
                    );
              }
        ]
        | Some why ↦ λ err. elim r.served as (λ _. RefusesOne m me number v why events out) [
          | inl (stamp, told) ↦
              let o = over me w.id (λ x. Unit {0}) (λ x event rest s l other u. tt) (stays_with (one_more_of h) (Ok stamp)) next r.rest out tt r.then_sound r.lawful (subst (λ x. Runs me (if_wrote h x) r.rest out) told r.runs) in
              ok_err stamp (stuck.Refused why) out.result _ (sym (ap (λ (x : WriterOut). x.result) o.1)) err
          | inr (other, told, reason) ↦ elim reason as (λ _. RefusesOne m me number v why events out) [
            | inl none ↦ not_none me w.id (only stage.Open) row r.mid.state other _ r.holds.opened.has r.holds.opened.is_open none
            | inr (found_row, some, check) ↦
                let one : found_row ≡ row = one_row found_row row (sym some ∙ found me w.id (only stage.Open) row r.mid.state r.holds.opened.has r.holds.opened.is_open) in
                let is_check : write_check row at (length block) ≡ Some other = subst (λ (x : Row). write_check x at (length block) ≡ Some other) one check in
                let a = subst (λ y. Answers r.mid.state me (Write w.id at block) y r.event.after) told r.answers in
                let unchanged : r.event.after ≡ r.mid.state = refused_same me w.id row r.mid.state r.event.after r.holds.opened at block other (Refused other) is_check a in
                let none_issued : issued_after r.mid.issued r.mid.state (Write w.id at block) r.event.reply number w.id ≡ issued_by r.mid D = ap (λ y. issued_after r.mid.issued r.mid.state (Write w.id at block) y number w.id) told in
                let on : Has me D row issued count next = has_on me D row row issued count r.mid r.event r.rest (Write w.id at block) r.sound r.whole r.asked r.holds (subst (λ s. HasOpen me w.id row s) (sym unchanged) r.holds.opened) refl refl none_issued tt in
                let o = over me w.id (Has me D row issued count) (has_stays me D row issued count) (stays_with h (Err (stuck.Refused other))) next r.rest out on r.then_sound r.lawful (subst (λ x. Runs me (if_wrote h x) r.rest out) told r.runs) in
                let same : other ≡ why = same_refusal other why out.result (sym (ap (λ (x : WriterOut). x.result) o.1)) err in
                record {
                  keeps = subst (λ y. KeepsPlain me number v y (Err (stuck.Refused why)) out) r.ends (record {
                    handle = h;
                    is = sym o.1 ∙ ap (λ y. stays_with h (Err (stuck.Refused y))) same;
                    mirrors = mirrored me number w h row issued count (moment_after next r.rest) (sound_after next r.rest r.lawful r.then_sound) o.0 counted floor capacity is pending cap fresh;
                  });
                  left = λ by.
                      let a = r.alone by in
                      let none : r.rest ≡ [] = over_alone me (stays_with h (Err (stuck.Refused other))) r.rest out a.1 (subst (λ x. Runs me (if_wrote h x) r.rest out) told r.runs) in
                      sym (ap (λ (y : Moment). y.state.times) r.ends) ∙ ap (λ l. (moment_after next l).state.times) none ∙ ap (λ (s : State). s.times) unchanged ∙ ap (λ (y : Moment). y.state.times) a.0;
                }
          ]
        ]
      ] ends

  pub writes_plainly : (m : Moment) (handle : WriterHandle) (at : ℕ) (block : List ℕ) (events : List Event) (out : WriterOut) → IsLawful m.state events → GoesWell me events → MirrorsOwn me number handle w m → Runs me (write_program handle at block) events out → WritesPlainly m me number w at block events out
  writes_plainly m handle at block events out lawful well o runs =
      let row : Row = o.row in
      let has : Has me D row w.issued w.landed m = has_it me number w handle m o in
      let b = its_between me D row w.issued w.landed m o.sound has in
      let waits : handle.pending ≡ length w.issued - w.landed = omega (arith, o.pending, b.issued, ap length o.issued, o.counted) in
      let full : nat_le handle.cap handle.pending ≡ nat_le w.capacity (length w.issued - w.landed) = ap (λ k. nat_le k handle.pending) o.cap_is ∙ ap (λ k. nat_le w.capacity k) waits in
      let some : 1 ≤ row.pending.capacity = (row_of_all IsCounted w.id m.state.table.writers row o.sound.regular.counted o.opened.has.there).some_cap in
      subst (λ c. WritesInto m me number (if c then all_landed w else w) at block events out) full
      (elim (nat_le handle.cap handle.pending) as (λ c. nat_le handle.cap handle.pending ≡ c → Runs me (if c then flush_then handle (writes (flushed_of handle) at block) else writes handle at block) events out → WritesInto m me number (if c then all_landed w else w) at block events out) [
        | false ↦ λ t on.
            let free : length row.pending.entries < row.pending.capacity =
            let under : handle.pending < handle.cap = grind (arith, nat_tests) in omega (arith, under, o.pending, o.cap_is, o.capacity) in
            writing handle m row w.issued w.landed at block events out o.writer o.cap_is o.fresh o.pending o.sound lawful well has o.counted o.floor o.capacity free on
        | true ↦ λ t on.
            let r = reached me (Has me D row w.issued w.landed) (has_stays me D row w.issued w.landed) m (Flush w.id) (if_flushed handle (writes (flushed_of handle) at block)) events out o.sound lawful well has (subst (λ id. Runs me (ask (Flush id) (if_flushed handle (writes (flushed_of handle) at block))) events out) o.writer on) in
            elim r.served as (λ _. WritesInto m me number (all_landed w) at block events out) [
              | inr (why, told, reason) ↦ not_none me w.id (only stage.Open) row r.mid.state why _ r.holds.opened.has r.holds.opened.is_open reason
              | inl (n, told) ↦
                  let e = flush_does me w.id row r.mid.state r.event.after r.holds.opened n (subst (λ x. Answers r.mid.state me (Flush w.id) x r.event.after) told r.answers) in
                  let next : Moment = next_moment r.mid r.event in
                  let now : Has me D e.after w.issued (length w.issued) next = has_flushed me D row e.after w.issued w.landed r.mid r.event r.sound r.then_sound r.asked r.holds e.now e.room e.host e.none in
                  let c = its_between me D e.after w.issued (length w.issued) next r.then_sound now in
                  let counted : e.after.landed ≡ length w.issued = omega (arith, c.issued, ap length e.none, ap length now.issued_is) in
                  let free : length e.after.pending.entries < e.after.pending.capacity = omega (arith, ap length e.none, e.capacity, some) in
                  let clock : AreBy me events → AreBy me r.rest × (r.event.after.times ≡ m.state.times) = λ by. let a = r.alone by in (a.1, flush_times me w.id row r.mid.state r.event.after r.holds.opened n (subst (λ x. Answers r.mid.state me (Flush w.id) x r.event.after) told r.answers) ∙ ap (λ (y : Moment). y.state.times) a.0) in
                  into_later (all_landed w) m r.mid at block r.before r.event r.rest events out r.split r.at r.ends clock
                  (writing (flushed_of handle) next e.after w.issued (length w.issued) at block r.rest out o.writer o.cap_is o.fresh (sym (ap length e.none)) r.then_sound r.lawful r.well now counted (e.floor ∙ o.floor) (e.capacity ∙ o.capacity) free
                  (subst (λ x. Runs me (if_flushed handle (writes (flushed_of handle) at block) x) r.rest out) told r.runs))
            ]
      ] refl runs)

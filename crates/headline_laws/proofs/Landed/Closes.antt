-- What a close leaves of its writer: it stays as its line tells of it, or is out, and then stays so for ever.
use Rattle.std.proofs.Common.{◌≡◌, ◌⊎◌, ◌≤◌, inl, inr, ℕ, Bool, true, false, List, ◌∷◌, ◌++◌, length, Option, Some, None, Result, Ok, Err, refl, ap, sym, ◌∙◌, subst, arith}
use Rattle.mount_model.specs.declared.stuck.Stuck.{Stuck}
use Rattle.mount_model.specs.declared.stuck.Stuck.TheVariants as stuck
use Rattle.mount_model.specs.Running.{Runs, unbroken}
use Rattle.mount_model.proofs.Flows.Facts.{runs_in_two}
use Rattle.mount_model.specs.Program.{done}
use Rattle.mount_model.specs.declared.call.Ask.{Ask}
use Rattle.mount_model.specs.declared.call.Call.TheVariants.{Exit, PutMeta}
use Rattle.mount_model.specs.declared.reply.Reply.{Reply}
use Rattle.mount_model.specs.declared.reply.Reply.TheVariants as reply
use Rattle.mount_model.specs.declared.row.Row.{Row}
use Rattle.mount_model.specs.History.{Event, state_after}
use Rattle.mount_model.specs.State.{last_id}
use Rattle.mount_model.specs.Step.{Answers}
use Rattle.mount_sound.specs.Owed.{IsLawful, IsNotLive}
use Rattle.writer_flow.specs.declared.handle.WriterHandle.{WriterHandle}
use Rattle.writer_flow.specs.declared.handle.WriterOut.{WriterOut}
use Rattle.writer_flow.specs.Closing.{after_sync, close_from, close_program, exits, if_kept, if_left, if_put, puts_meta}
use Rattle.writer_flow.specs.Ending.{gone_with, stays_with, trouble}
use Rattle.writer_flow.specs.Handle.{closing_of}
use Rattle.writer_flow.specs.Syncing.{sync_program}
use Rattle.reader_laws.specs.Moments.{Dropping, IsSoundAt, Moment, landed, moment_after, next_moment}
use Rattle.reader_laws.proofs.Gathered.Facts.{follows, legal_first, legal_rest, moment-append}
use Rattle.writer_laws.specs.Counting.{entry_count}
use Rattle.writer_laws.specs.Knowing.{HasRow, IsSynced, Knows}
use Rattle.writer_laws.proofs.Facts.{sync_ends}
use Rattle.writer_laws.proofs.Own.{MetaOwn, exit_own, put_meta_own}
use Rattle.headline_laws.proofs.Landed.Gone.{HasGone, gone_later, leaves, meta_made}
use Rattle.headline_laws.proofs.Landed.Leaving.{drawn_next, exit_dead, row_drawn}
use Rattle.outcomes.specs.Outcomes.{close_outcome}
use Rattle.headline.specs.Writers.{Account, after_sync as sync_tells, all_landed, any_landed}
use Rattle.headline_laws.proofs.Landed.Between.{AtPlace, IsBetween, between}
use Rattle.headline_laws.proofs.Landed.Numbers.{Holds, holds_all, holds_any}
use Rattle.headline_laws.proofs.Landed.Reaching.{over, reach}
use Rattle.headline_laws.proofs.Landed.Settled.{IsSettled, settled_later}
use Rattle.headline_laws.proofs.Landed.Sparing.{spared_next}
use Rattle.headline_laws.proofs.Landed.Syncs.{if_synced_all, sync_ends_within}
use Rattle.headline_laws.proofs.Landed.Writes.{EndsWithin, HoldsNow, IsHandle, OwnNext, one_row, own_next}
use Rattle.reader_laws.specs.Bounds.{SparesIndex}
use Rattle.reader_laws.proofs.Gathered.Moments.Stepping.{sound_next}

module _ (me : ℕ) (d : Dropping) where
  -- once the metadata dropping was asked for, all has landed, and the handle tells how much
  abbrev pub IsTold : WriterHandle → Row → Type 0
  IsTold handle row = handle.closing ≡ true → (handle.landed ≡ entry_count row) × (row.landed ≡ entry_count row)

  -- the writer is open still
  pub record EndsTold (capacity : ℕ) (m : Moment) (out : WriterOut) (acc : Account) : Type 0 where
    pub ends : EndsWithin me d capacity m out acc
    pub told : IsTold ends.handle ends.row

  -- where it tells a number, it has left
  abbrev pub Departs : Moment → WriterOut → Type 0
  Departs m out = (n : ℕ) → out.result ≡ Ok n → HasGone m d

  -- or it is out
  abbrev pub CloseEnds : ℕ → Moment → WriterOut → Account → Type 0
  CloseEnds capacity m out acc = (EndsTold capacity m out acc ⊎ ((out.handle ≡ None) × IsSettled m d acc)) × Departs m out

  not_told : (why : Stuck) (n : ℕ) (r : Result ℕ Stuck) → Err why ≡ r → r ≡ Ok n → ⊥
  not_told why n r is told = cc

  -- all has landed, and the handle tells how much
  record AllLanded (handle : WriterHandle) (row : Row) : Type 0 where
    pub count : handle.landed ≡ entry_count row
    pub counted : row.landed ≡ entry_count row

  -- ---- it leaves

  failed_told : (capacity : ℕ) (handle : WriterHandle) (why : Stuck) (m : Moment) (row : Row) (acc : Account) (events : List Event) (out : WriterOut) → IsHandle d capacity handle row → IsTold handle row → AtPlace m me d row → HoldsNow m d row (any_landed acc) → IsLawful m.state events
      → Runs me (done (stays_with handle (Err why))) events out → CloseEnds capacity (moment_after m events) out (if_synced_all acc out.result)
  failed_told capacity handle why m row acc events out h told at holds lawful runs =
      let o = over me d m row (stays_with handle (Err why)) events out at lawful runs in
      let e : EndsTold capacity (moment_after m events) out (any_landed acc) = record {
        ends = record {
          handle = handle;
          row = row;
          kept = sym (ap (λ (x : WriterOut). x.handle) o.is);
          is = h;
          at = o.at;
          holds = subst (λ k. Holds (entry_count row) row.landed k (any_landed acc)) (sym o.same) holds;
        };
        told = told;
      } in
      subst (λ r. CloseEnds capacity (moment_after m events) out (if_synced_all acc r)) (ap (λ (x : WriterOut). x.result) o.is) (inl e, λ n is. absurd (not_told why n out.result (ap (λ (x : WriterOut). x.result) o.is) is))

  any_now : (m : Moment) (row : Row) (acc : Account) → HoldsNow m d row acc → HoldsNow m d row (any_landed acc)
  any_now m row acc holds = holds_any (entry_count row) row.landed (landed m d) row.landed (landed m d) acc holds (omega arith) holds.no_fewer holds.no_more

  -- it is out, and then only others call
  gone_so : (capacity : ℕ) (result : Result ℕ Stuck) (m : Moment) (acc : Account) (events : List Event) (out : WriterOut) → IsSettled m d (if_synced_all acc result) → ((n : ℕ) → result ≡ Ok n → HasGone m d) → IsLawful m.state events → Runs me (done (gone_with result)) events out → CloseEnds capacity (moment_after m events) out (if_synced_all acc out.result)
  gone_so capacity result m acc events out s left lawful runs =
      let is : gone_with result ≡ out = ended events runs in
      subst (λ r. CloseEnds capacity (moment_after m events) out (if_synced_all acc r)) (ap (λ (x : WriterOut). x.result) is)
      (inr (sym (ap (λ (x : WriterOut). x.handle) is), settled_later m events d (if_synced_all acc result) s lawful), λ n told. gone_later m events d (left n (ap (λ (x : WriterOut). x.result) is ∙ told)) lawful)
    where
      ended : (es : List Event) → Runs me (done (gone_with result)) es out → gone_with result ≡ out
      ended es r = r.1

  settled_out : (m : Moment) (e : Event) (rest : List Event) (row : Row) (count : ℕ) (result : Result ℕ Stuck) (acc : Account) → AtPlace m me d row → IsLawful m.state (e ∷ rest) → IsSoundAt (next_moment m e) → IsNotLive e.after d.writer → d.writer ≤ last_id e.after → landed (next_moment m e) d ≡ landed m d → HoldsNow m d row (if_synced_all acc result) → IsSettled (next_moment m e) d (if_synced_all acc result)
  settled_out m e rest row count result acc at lawful sound dead drawn same holds = record {
    out = record { named = (between m me d row at).named; sound = sound; dead = dead; drawn = drawn };
    least = omega (arith, holds.least, holds.no_fewer, same);
    most = omega (arith, holds.most, same);
    few = omega (arith, holds.no_more, holds.issued_is, same);
  }

  sound_then : (mid : Moment) (e : Event) (rest : List Event) (row : Row) → AtPlace mid me d row → IsLawful mid.state (e ∷ rest) → IsSoundAt (next_moment mid e)
  sound_then mid e rest row at lawful = sound_next mid e rest lawful at.sound

  drawn_then : (mid : Moment) (e : Event) (rest : List Event) (row : Row) → AtPlace mid me d row → IsLawful mid.state (e ∷ rest) → d.writer ≤ last_id e.after
  drawn_then mid e rest row at lawful = omega (arith, row_drawn d.writer row mid.state at.sound.regular at.has.there, drawn_next mid e rest lawful)

  -- Exit is next
  before_exit : (capacity : ℕ) (handle : WriterHandle) (m : Moment) (row : Row) (acc : Account) (events : List Event) (out : WriterOut) → IsHandle d capacity handle row → handle.closing ≡ true → row.has_meta ≡ true → AllLanded handle row → AtPlace m me d row → HoldsNow m d row acc → IsLawful m.state events → Runs me (exits handle) events out
      → CloseEnds capacity (moment_after m events) out (if_synced_all acc out.result)
  before_exit capacity handle m row acc events out h asked_so has_meta all place holds lawful runs =
      let g = reach me d m row (Exit handle.writer) (if_left handle) events out place lawful runs in
      let asked : g.event.ask ≡ unbroken (Exit d.writer) = g.asked ∙ ap (λ w. unbroken (Exit w)) h.writer in
      let answers : Answers g.mid.state me (Exit d.writer) g.event.reply g.event.after = subst (λ w. Answers g.mid.state me (Exit w) g.event.reply g.event.after) h.writer g.answers in
      let here : HoldsNow g.mid d row acc = subst (λ n. Holds (entry_count row) row.landed n acc) (sym g.same) holds in
      let same : landed (next_moment g.mid g.event) d ≡ landed g.mid d = spared_next g.mid g.event g.rest me d row g.at g.lawful (λ mine. subst (λ c. SparesIndex c d) (sym (ap (λ (a : Ask). a.call) asked)) tt) in
      subst (λ x. CloseEnds capacity x out (if_synced_all acc out.result)) g.ends
      (after_exit g.mid g.event g.event.reply g.rest refl (ap (λ (a : Ask). a.call) asked) here answers g.at g.lawful same g.runs)
    where
      after_exit : (mid : Moment) (e : Event) (rep : Reply) (rest : List Event) → e.reply ≡ rep → e.ask.call ≡ Exit d.writer → HoldsNow mid d row acc → Answers mid.state me (Exit d.writer) e.reply e.after → AtPlace mid me d row → IsLawful mid.state (e ∷ rest) → landed (next_moment mid e) d ≡ landed mid d → Runs me (if_left handle rep) rest out
          → CloseEnds capacity (moment_after (next_moment mid e) rest) out (if_synced_all acc out.result)
      after_exit mid e reply.Done rest is asks here answers at lawful_here same on =
          let dead = exit_dead me d.writer row mid.state e.reply e.after at.sound.regular at.has answers (inl is) in
          let b : IsBetween mid d row = between mid me d row at in
          let exact : landed mid d ≡ entry_count row = omega (arith, all.counted, b.no_fewer, b.no_more) in
          let full : HoldsNow mid d row (all_landed handle.landed acc) =
          subst (λ k. Holds (entry_count row) row.landed k (all_landed handle.landed acc)) (sym exact) (subst (λ k. Holds (entry_count row) k (entry_count row) (all_landed handle.landed acc)) (sym all.counted) (holds_all (entry_count row) handle.landed acc here.issued_is all.count)) in
          let settled = settled_out mid e rest row 0 (Ok handle.landed) acc at lawful_here (sound_then mid e rest row at lawful_here) dead (drawn_then mid e rest row at lawful_here) same full in
          gone_so capacity (Ok handle.landed) (next_moment mid e) acc rest out settled (λ n told. leaves me d mid e rest row at lawful_here asks answers is has_meta all.counted settled.out) lawful_here.2 on
      after_exit mid e reply.Fault rest is asks here answers at lawful_here same on =
          let dead = exit_dead me d.writer row mid.state e.reply e.after at.sound.regular at.has answers (inr is) in
          gone_so capacity (Err stuck.Fault) (next_moment mid e) acc rest out
          (settled_out mid e rest row 0 (Err stuck.Fault) acc at lawful_here (sound_then mid e rest row at lawful_here) dead (drawn_then mid e rest row at lawful_here) same (any_now mid row acc here)) (λ n told. absurd (not_told stuck.Fault n (Err stuck.Fault) refl told)) lawful_here.2 on
      after_exit mid e rep rest is asks here answers at lawful_here same on =
          let stays : HasRow me d.writer row e.after = exit_own me d.writer row mid.state e.reply e.after at.has answers (λ f. not_so (sym is ∙ f)) (λ f. not_fault (sym is ∙ f)) in
          let any : HoldsNow (next_moment mid e) d row (any_landed acc) = subst (λ k. Holds (entry_count row) row.landed k (any_landed acc)) (sym same) (any_now mid row acc here) in
          failed_told capacity handle (trouble rep) (next_moment mid e) row acc rest out h (λ closing. (all.count, all.counted)) (record { sound = sound_then mid e rest row at lawful_here; has = stays; room = at.room; host = at.host }) any lawful_here.2 on
        where
          not_so : rep ≡ reply.Done → ⊥
          not_so f = cc

          not_fault : rep ≡ reply.Fault → ⊥
          not_fault f = cc

  -- PutMeta is next
  before_meta : (capacity : ℕ) (handle : WriterHandle) (m : Moment) (row : Row) (acc : Account) (events : List Event) (out : WriterOut) → IsHandle d capacity handle row → AllLanded handle row → AtPlace m me d row → HoldsNow m d row acc → IsLawful m.state events → Runs me (puts_meta handle) events out
      → CloseEnds capacity (moment_after m events) out (if_synced_all acc out.result)
  before_meta capacity handle m row acc events out h all place holds lawful runs =
      let g = reach me d m row (PutMeta handle.writer) (if_put (closing_of handle)) events out place lawful runs in
      let asked : g.event.ask ≡ unbroken (PutMeta d.writer) = g.asked ∙ ap (λ w. unbroken (PutMeta w)) h.writer in
      let k : MetaOwn me d.writer row g.event.after = put_meta_own me d.writer row g.mid.state g.event.reply g.event.after g.at.has (subst (λ w. Answers g.mid.state me (PutMeta w) g.event.reply g.event.after) h.writer g.answers) in
      let o : OwnNext me d g.mid g.event (PutMeta d.writer) row = own_next me d g.mid g.event g.rest (PutMeta d.writer) row g.at g.lawful asked tt in
      let next : Moment = next_moment g.mid g.event in
      let one : k.after ≡ o.after = one_row me d next k.after o.after k.has o.at.has in
      let there : AtPlace next me d k.after = record { sound = o.at.sound; has = k.has; room = ap (λ (r : Row). r.room) one ∙ o.at.room; host = ap (λ (r : Row). r.host) one ∙ o.at.host } in
      let same : landed next d ≡ landed m d = spared_next g.mid g.event g.rest me d row g.at g.lawful (λ mine. subst (λ c. SparesIndex c d) (sym (ap (λ (a : Ask). a.call) asked)) tt) ∙ g.same in
      let counted : k.after.landed ≡ row.landed = omega (arith, k.total, k.pending) in
      let now : HoldsNow next d k.after acc =
      subst (λ n. Holds (entry_count k.after) k.after.landed n acc) (sym same) (subst (λ n. Holds (entry_count k.after) n (landed m d) acc) (sym counted) (subst (λ n. Holds n row.landed (landed m d) acc) (sym k.total) holds)) in
      let closing_is : IsHandle d capacity (closing_of handle) k.after = record { writer = h.writer; cap_is = h.cap_is; pending_is = h.pending_is ∙ sym k.pending } in
      let landed_all : AllLanded (closing_of handle) k.after = record { count = all.count ∙ sym k.total; counted = counted ∙ all.counted ∙ sym k.total } in
      subst (λ x. CloseEnds capacity x out (if_synced_all acc out.result)) g.ends
      (after_meta next k.after g.event.reply g.rest closing_is (λ told. meta_made me d.writer g.mid.state g.event.after g.event.reply (subst (λ w. Answers g.mid.state me (PutMeta w) g.event.reply g.event.after) h.writer g.answers) told k.after k.has) landed_all there now g.lawful.2 g.runs)
    where
      after_meta : (next : Moment) (after : Row) (rep : Reply) (rest : List Event) → IsHandle d capacity (closing_of handle) after → (rep ≡ reply.Done → after.has_meta ≡ true) → AllLanded (closing_of handle) after → AtPlace next me d after → HoldsNow next d after acc → IsLawful next.state rest → Runs me (if_put (closing_of handle) rep) rest out
          → CloseEnds capacity (moment_after next rest) out (if_synced_all acc out.result)
      after_meta next after reply.Done rest is made landed_so there now lawful_here on = before_exit capacity (closing_of handle) next after acc rest out is refl (made refl) landed_so there now lawful_here on
      after_meta next after rep rest is made landed_so there now lawful_here on = failed_told capacity (closing_of handle) (trouble rep) next after acc rest out is (λ closing. (landed_so.count, landed_so.counted)) there (any_now next after acc now) lawful_here on

  -- ---- by its line

  by_line : (acc : Account) (result : Result ℕ Stuck) (E : Account → Type 0) → E (if_synced_all acc result) → E (sync_tells acc (close_outcome result))
  by_line acc (Ok n) E x = x
  by_line acc (Err stuck.Fault) E x = x
  by_line acc (Err (stuck.Damaged folder file place)) E x = x
  by_line acc (Err (stuck.Refused why)) E x = x

  one_handle : (a b : WriterHandle) (o : Option WriterHandle) → o ≡ Some a → o ≡ Some b → a ≡ b
  one_handle a b o p q = cc

  -- behind the sync: where it told a number, all has landed
  behind_sync : (capacity : ℕ) (m : Moment) (acc : Account) (events : List Event) (out : WriterOut) (value : WriterOut) (result : Result ℕ Stuck) (e : EndsWithin me d capacity m value (if_synced_all acc result)) → e.handle.closing ≡ false → value.result ≡ result → acc.least ≤ length acc.writes → ((n : ℕ) → value.result ≡ Ok n → AllLanded e.handle e.row) → IsLawful m.state events
      → Runs me (if_kept (Some e.handle) result) events out → CloseEnds capacity (moment_after m events) out (if_synced_all acc out.result)
  behind_sync capacity m acc events out value (Ok n) e fresh is low all lawful runs =
      let a : AllLanded e.handle e.row = all n is in
      let any : HoldsNow m d e.row (any_landed acc) = record {
        issued_is = e.holds.issued_is;
        least = omega (arith, low, a.counted, e.holds.issued_is);
        most = omega (arith, e.holds.issued_is, e.holds.no_more);
        no_fewer = e.holds.no_fewer;
        no_more = e.holds.no_more;
      } in
      as_any acc out.result (CloseEnds capacity (moment_after m events) out) (before_meta capacity e.handle m e.row (any_landed acc) events out e.is a e.at any lawful runs)
    where
      as_any : (s : Account) (r : Result ℕ Stuck) (E : Account → Type 0) → E (if_synced_all (any_landed s) r) → E (if_synced_all s r)
      as_any s (Ok k) E x = x
      as_any s (Err why) E x = x
  behind_sync capacity m acc events out value (Err why) e fresh is low all lawful runs =
      failed_told capacity e.handle why m e.row acc events out e.is (λ closing. absurd (not_both e.handle.closing fresh closing)) e.at e.holds lawful runs
    where
      not_both : (b : Bool) → b ≡ false → b ≡ true → ⊥
      not_both b x y = cc

  from_so : (capacity : ℕ) (b : Bool) (handle : WriterHandle) (m : Moment) (row : Row) (acc : Account) (events : List Event) (out : WriterOut) → handle.closing ≡ b → IsHandle d capacity handle row → IsTold handle row → AtPlace m me d row → HoldsNow m d row acc → IsLawful m.state events → Runs me (close_from b handle) events out
      → CloseEnds capacity (moment_after m events) out (if_synced_all acc out.result)
  from_so capacity true handle m row acc events out closing h told place holds lawful runs =
      let t = told closing in
      before_meta capacity handle m row acc events out h (record { count = t.0; counted = t.1 }) place holds lawful runs
  from_so capacity false handle m row acc events out fresh h told place holds lawful runs =
      let s = runs_in_two me (sync_program handle) after_sync events out runs in
      let whole : IsLawful m.state (s.first ++ s.rest) = subst (IsLawful m.state) s.all lawful in
      let first : IsLawful m.state s.first = legal_first m s.first s.rest whole in
      let mid : Moment = moment_after m s.first in
      let e = sync_ends_within me d capacity handle m row acc s.first s.value h place holds first s.runs in
      let knows : Knows me handle row m.state = record { has = subst (λ w. HasRow me w row m.state) (sym h.writer) place.has; pending = h.pending_is } in
      let y : IsSynced me handle (entry_count row) s.value (state_after m.state s.first) = sync_ends me handle row m.state s.first s.value knows first s.runs in
      let same : y.handle ≡ e.handle = one_handle y.handle e.handle s.value.handle y.kept e.kept in
      let at_mid : HasRow me y.handle.writer y.row mid.state = subst (λ st. HasRow me y.handle.writer y.row st) (sym (follows m s.first).0) y.knows.has in
      let rows : y.row ≡ e.row = one_row me d mid y.row e.row (subst (λ w. HasRow me w y.row mid.state) (y.same ∙ h.writer) at_mid) e.at.has in
      let is_fresh : e.handle.closing ≡ false = ap (λ (x : WriterHandle). x.closing) (sym same) ∙ y.closing_is ∙ fresh in
      let all : (n : ℕ) → s.value.result ≡ Ok n → AllLanded e.handle e.row = λ n is.
      (let number = y.number n is in
      let total : entry_count e.row ≡ entry_count row = ap (λ (r : Row). entry_count r) (sym rows) ∙ y.total in
      record {
        count = ap (λ (x : WriterHandle). x.landed) (sym same) ∙ number.1 ∙ number.0 ∙ sym total;
        counted = ap (λ (r : Row). r.landed) (sym rows) ∙ number.2 ∙ number.0 ∙ sym total;
      }) in
      let ends : moment_after mid s.rest ≡ moment_after m events = sym (moment-append m s.first s.rest) ∙ ap (moment_after m) (sym s.all) in
      let later : Runs me (if_kept (Some e.handle) s.value.result) s.rest out = subst (λ x. Runs me (if_kept x s.value.result) s.rest out) e.kept s.then_runs in
      subst (λ x. CloseEnds capacity x out (if_synced_all acc out.result)) ends
      (behind_sync capacity mid acc s.rest out s.value s.value.result e is_fresh refl (omega (arith, holds.least, holds.no_fewer, holds.no_more, holds.issued_is)) all (legal_rest m s.first s.rest whole) later)

  -- A close leaves its writer as its line tells of it, open or out.
  pub close_within : (capacity : ℕ) (handle : WriterHandle) (m : Moment) (row : Row) (acc : Account) (events : List Event) (out : WriterOut) → IsHandle d capacity handle row → IsTold handle row → AtPlace m me d row → HoldsNow m d row acc → IsLawful m.state events → Runs me (close_program handle) events out
      → CloseEnds capacity (moment_after m events) out (sync_tells acc (close_outcome out.result))
  close_within capacity handle m row acc events out h told place holds lawful runs =
      by_line acc out.result (CloseEnds capacity (moment_after m events) out) (from_so capacity handle.closing handle m row acc events out refl h told place holds lawful runs)

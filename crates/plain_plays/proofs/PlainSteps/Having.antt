-- What the tree and the ledger have of a caller's open writer, from call to call.
use Rattle.std.proofs.Common.{◌≡◌, ◌≤◌, ℕ, true, nat_eq, List, [], ◌∷◌, ◌++◌, length, length-append, refl, sym, ap, ◌∙◌, subst, arith}
use Rattle.std.proofs.lemmas.List.{append-nil}
use Rattle.std.proofs.lemmas.Bool.Decides.{nat_tests}
use Rattle.mount_model.specs.declared.call.Ask.{Ask}
use Rattle.mount_model.specs.declared.call.Call.{Call}
use Rattle.mount_model.specs.declared.call.Call.TheVariants.{Flush, Write}
use Rattle.mount_model.specs.declared.reply.Reply.TheVariants.{Wrote}
use Rattle.mount_model.specs.declared.row.Row.{Row}
use Rattle.mount_model.specs.History.{Event}
use Rattle.mount_model.proofs.Facts.{row_of_id}
use Rattle.mount_sound.specs.Issued.{issued_after, noted_by, with_write, written_by}
use Rattle.mount_sound.specs.Ledger.{Ledger, Written}
use Rattle.mount_sound.specs.Owed.{IsLawful}
use Rattle.mount_model.specs.Running.{unbroken}
use Rattle.reader_laws.specs.Bounds.{SparesIndex}
use Rattle.reader_laws.specs.Moments.{Dropping, IsSoundAt, Moment, issued_by, landed, next_moment}
use Rattle.reader_laws.proofs.Gathered.Facts.{grows_after, sound_after}
use Rattle.plain_plays.specs.Served.{HasOpen}
use Rattle.plain_plays.proofs.PlainSteps.Between.{IsBetween, between}
use Rattle.plain_plays.proofs.PlainSteps.Doing.{open_stays}
use Rattle.plain_plays.proofs.PlainSteps.Reaching.{StaysUnderOthers}
use Rattle.plain_plays.proofs.PlainSteps.Sparing.{lands_nothing}

-- as many were issued as had been, so they are the same
same_list : (old more now : List Written) → now ≡ old ++ more → length now ≡ length old → now ≡ old
same_list old [] now is long = is ∙ append-nil old
same_list old (x ∷ more) now is long = absurd (let clash : 1 ≤ 0 = omega (arith, ap length is, length-append old (x ∷ more), long) in omega (arith, clash))

module _ (me : ℕ) (d : Dropping) where
  -- the caller has it open, it issued these writes, and so many have landed
  pub record Has (row : Row) (issued : List Written) (count : ℕ) (x : Moment) : Type 0 where
    pub opened : HasOpen me d.writer row x.state
    pub room : row.room ≡ d.room
    pub host : row.host ≡ d.host
    pub issued_is : issued_by x d ≡ issued
    pub landed_is : landed x d ≡ count

  pub its_between : (row : Row) (issued : List Written) (count : ℕ) (x : Moment) → IsSoundAt x → Has row issued count x → IsBetween x d row
  its_between row issued count x sound h = between x me d row sound h.opened.has h.room h.host

  pub has_stays : (row : Row) (issued : List Written) (count : ℕ) → StaysUnderOthers me (Has row issued count)
  has_stays row issued count x event rest sound lawful other h =
      let next : Moment = next_moment x event in
      let later : IsSoundAt next = sound_after x (event ∷ []) (lawful.0, lawful.1, tt) sound in
      let open_later = open_stays me d.writer row x event rest sound lawful other h.opened in
      let b = its_between row issued count x sound h in
      let c : IsBetween next d row = between next me d row later open_later.has h.room h.host in
      let more = (grows_after x (event ∷ []) (lawful.0, lawful.1, tt) sound).issued d.room d.writer in
      record {
        opened = open_later;
        room = h.room;
        host = h.host;
        issued_is = same_list (issued_by x d) more.0 (issued_by next d) more.1 (c.issued ∙ sym b.issued) ∙ h.issued_is;
        landed_is = lands_nothing x event rest me d row b.named sound h.opened.has lawful (λ mine. absurd (other mine)) ∙ h.landed_is;
      }

  -- a call of its own that neither writes nor flushes
  pub has_on : (row after : Row) (issued : List Written) (count : ℕ) (x : Moment) (event : Event) (rest : List Event) (q : Call) → IsSoundAt x → IsLawful x.state (event ∷ rest) → event.ask ≡ unbroken q → Has row issued count x → HasOpen me d.writer after event.after → after.room ≡ row.room → after.host ≡ row.host
      → issued_after x.issued x.state q event.reply d.room d.writer ≡ issued_by x d → SparesIndex q d → Has after issued count (next_moment x event)
  has_on row after issued count x event rest q sound lawful asked h now room host same spares =
      let b = its_between row issued count x sound h in
      record {
        opened = now;
        room = room ∙ h.room;
        host = host ∙ h.host;
        issued_is = subst (λ (a : Ask). issued_after x.issued x.state a.call event.reply d.room d.writer ≡ issued_by x d) (sym asked) same ∙ h.issued_is;
        landed_is = lands_nothing x event rest me d row b.named sound h.opened.has lawful (λ mine. subst (λ (a : Ask). SparesIndex a.call d) (sym asked) spares) ∙ h.landed_is;
      }

  -- a flush, behind which nothing waits
  pub has_flushed : (row after : Row) (issued : List Written) (count : ℕ) (x : Moment) (event : Event) → IsSoundAt x → IsSoundAt (next_moment x event) → event.ask ≡ unbroken (Flush d.writer) → Has row issued count x → HasOpen me d.writer after event.after → after.room ≡ row.room → after.host ≡ row.host → after.pending.entries ≡ []
      → Has after issued (length issued) (next_moment x event)
  has_flushed row after issued count x event sound later asked h now room host none =
      let same : issued_by (next_moment x event) d ≡ issued = subst (λ (a : Ask). issued_after x.issued x.state a.call event.reply d.room d.writer ≡ issued_by x d) (sym asked) refl ∙ h.issued_is in
      let c : IsBetween (next_moment x event) d after = between (next_moment x event) me d after later now.has (room ∙ h.room) (host ∙ h.host) in
      record {
        opened = now;
        room = room ∙ h.room;
        host = host ∙ h.host;
        issued_is = same;
        landed_is = omega (arith, c.issued, c.no_fewer, c.no_more, ap length none, ap length same);
      }

  -- a write, which is issued
  noted_so : (issued : Ledger) (row : Row) (stamp at : ℕ) (block : List ℕ) → row.room ≡ d.room → row.id ≡ d.writer → with_write issued row (written_by row stamp at block) d.room d.writer ≡ issued d.room d.writer ++ written_by row stamp at block ∷ []
  noted_so issued row stamp at block room id =
      let a : nat_eq d.room row.room ≡ true = grind (arith, nat_tests, room) in
      let b : nat_eq d.writer row.id ≡ true = grind (arith, nat_tests, id) in
      rw a (rw b refl)

  pub has_written : (row after : Row) (issued : List Written) (count at : ℕ) (block : List ℕ) (stamp : ℕ) (x : Moment) (event : Event) (rest : List Event) → IsSoundAt x → IsLawful x.state (event ∷ rest) → event.ask ≡ unbroken (Write d.writer at block) → event.reply ≡ Wrote stamp → Has row issued count x → HasOpen me d.writer after event.after
      → after.room ≡ row.room → after.host ≡ row.host → Has after (issued ++ written_by row stamp at block ∷ []) count (next_moment x event)
  has_written row after issued count at block stamp x event rest sound lawful asked told h now room host =
      let b = its_between row issued count x sound h in
      let id : row.id ≡ d.writer = row_of_id d.writer x.state.table.writers row h.opened.has.there in
      let noted : issued_after x.issued x.state (Write d.writer at block) (Wrote stamp) d.room d.writer ≡ issued_by x d ++ written_by row stamp at block ∷ [] = ap (λ o. noted_by x.issued o stamp at block d.room d.writer) h.opened.has.there ∙ noted_so x.issued row stamp at block h.room id in
      record {
        opened = now;
        room = room ∙ h.room;
        host = host ∙ h.host;
        issued_is = subst (λ (a : Ask). issued_after x.issued x.state a.call event.reply d.room d.writer ≡ issued_by x d ++ written_by row stamp at block ∷ []) (sym asked) (subst (λ r. issued_after x.issued x.state (Write d.writer at block) r d.room d.writer ≡ issued_by x d ++ written_by row stamp at block ∷ []) (sym told) noted)
            ∙ ap (λ l. l ++ written_by row stamp at block ∷ []) h.issued_is;
        landed_is = lands_nothing x event rest me d row b.named sound h.opened.has lawful (λ mine. subst (λ (a : Ask). SparesIndex a.call d) (sym asked) tt) ∙ h.landed_is;
      }

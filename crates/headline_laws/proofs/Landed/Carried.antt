-- A statement of a writer: its program runs to its end, or it is stopped within a call, and then the writer is out, within what may have landed.
use Rattle.std.proofs.Common.{◌≡◌, ◌≤◌, ℕ, true, false, List, [], ◌∷◌, ◌++◌, length, Option, Some, None, refl, sym, ap, ◌∙◌, subst, arith, if◌then◌else◌}
use Rattle.turn_object.specs.Callers.{made_by}
use Rattle.mount_model.specs.Program.{Program, ask, done}
use Rattle.mount_model.specs.declared.call.Ask.{Ask}
use Rattle.mount_model.specs.declared.call.Call.{Call}
use Rattle.mount_model.specs.declared.call.Call.TheVariants.{Exit, Write}
use Rattle.mount_model.specs.declared.reply.Reply.{Reply}
use Rattle.mount_model.specs.declared.row.Row.{Row}
use Rattle.mount_model.specs.History.{Event}
use Rattle.mount_sound.specs.Owed.{IsLawful}
use Rattle.mount_model.specs.Running.{Runs, unbroken}
use Rattle.actor_core.specs.declared.kept.Stop.{Stop}
use Rattle.actor_core.specs.Endings.{Ending}
use Rattle.actor_core.specs.Work.{finishes}
use Rattle.actor_core.specs.Stopping.{carried, due_bytes, is_due, one_nearer}
use Rattle.run_core.specs.Leading.{HadMemory}
use Rattle.reader_laws.specs.Moments.{Dropping, Moment, landed, moment_after, next_moment}
use Rattle.reader_laws.proofs.Gathered.Facts.{grows_after, legal_first, legal_rest, moment-append}
use Rattle.writer_laws.specs.Counting.{StaysInAt, entry_count, wrote_by}
use Rattle.headline_laws.proofs.Plays.Facts.{ComesTo, lets_none}
use Rattle.headline.specs.Writers.{Account, any_landed}
use Rattle.headline_laws.proofs.Landed.Between.{AtPlace, IsBetween, between}
use Rattle.headline_laws.proofs.Landed.Lasting.{Lasts, lasts, memory_rest}
use Rattle.headline_laws.proofs.Landed.Settled.{IsSettled, settled_later}
use Rattle.headline_laws.proofs.Landed.StopsWithin.{stop_settles}
use Rattle.headline_laws.proofs.Landed.Writes.{HoldsNow, OwnNext, own_next}
use Rattle.headline_laws.proofs.Story.Opened.{one_more, unbroken_ask}

-- ---- programs of which a call that another follows issues nothing, and takes the writer not out

abbrev pub IsQuiet : Call → Type 0
IsQuiet (Write w at block) = ⊥
IsQuiet (Exit w) = ⊥
IsQuiet other = Unit {0}

abbrev pub GoesAfter : {R : Type 0} → Call → Program Call Reply R → Type 0
GoesAfter q (done r) = Unit {0}
GoesAfter q (ask c k) = IsQuiet q × ((reply : Reply) → GoesAfter c (k reply))

abbrev pub IsSteady : {R : Type 0} → Program Call Reply R → Type 0
IsSteady (done r) = Unit {0}
IsSteady (ask c k) = (reply : Reply) → GoesAfter c (k reply)

quiet_stays : (w : ℕ) (q : Call) (reply : Reply) → IsQuiet q → StaysInAt w q reply
quiet_stays w (Exit other) reply quiet = absurd quiet
quiet_stays w q reply quiet = tt

quiet_wrote : (w : ℕ) (q : Call) (reply : Reply) → IsQuiet q → wrote_by w q reply ≡ 0
quiet_wrote w (Write other at block) reply quiet = absurd quiet
quiet_wrote w q reply quiet = refl

module _ (n : ℕ) (d : Dropping) where
  -- a quiet call of the caller: as many are issued
  record Quiet (m : Moment) (e : Event) (row : Row) (acc : Account) : Type 0 where
    pub after : Row
    pub at : AtPlace (next_moment m e) n d after
    pub issued : entry_count after ≡ length acc.writes

  quiet_next : (m : Moment) (e : Event) (rest : List Event) (q : Call) (row : Row) (acc : Account) → AtPlace m n d row → entry_count row ≡ length acc.writes → IsLawful m.state (e ∷ rest) → e.ask ≡ unbroken q → IsQuiet q → Quiet m e row acc
  quiet_next m e rest q row acc at issued lawful asked quiet =
      let o : OwnNext n d m e q row = own_next n d m e rest q row at lawful asked (quiet_stays d.writer q e.reply quiet) in
      record { after = o.after; at = o.at; issued = omega (arith, o.total, quiet_wrote d.writer q e.reply quiet, issued) }

-- ---- a program that its actor may stop within

abbrev pub IsAsk : {R : Type 0} → Program Call Reply R → Type 0
IsAsk (done r) = ⊥
IsAsk (ask c k) = Unit {0}

quiet_before : {R : Type 0} (q : Call) (p : Program Call Reply R) → GoesAfter q p → IsAsk p → IsQuiet q
quiet_before q (done r) goes asks_more = absurd asks_more
quiet_before q (ask c k) goes asks_more = goes.0

steady_after : {R : Type 0} (q : Call) (p : Program Call Reply R) → GoesAfter q p → IsSteady p
steady_after q (done r) goes = tt
steady_after q (ask c k) goes = goes.1

due_some : (stop : Option Stop) → is_due stop ≡ true → (bytes : ℕ) × (due_bytes stop ≡ Some bytes)
due_some None due = absurd (cc)
due_some (Some stop) due = (stop.bytes, ap (λ b. if b then Some stop.bytes else None) due)

module _ (n : ℕ) (d : Dropping) {R : Type 0} (of : R → Ending) (over : Ending) (first : Moment) (acc : Account) (low : acc.least ≤ landed first d) where
  -- the caller's writer as it is before a call
  pub record Prepared (m : Moment) : Type 0 where
    pub row : Row
    pub at : AtPlace m n d row
    pub issued : entry_count row ≡ length acc.writes
    pub more : landed first d ≤ landed m d

  pub data Carried (p : Program Call Reply R) (m : Moment) (mine : List Event) (e : Ending) : Type 0 where
    ran : (r : R) → Runs n p mine r → of r ≡ e → Carried p m mine e
    halted : over ≡ e → IsSettled (moment_after m mine) d (any_landed acc) → Carried p m mine e

  pub carried_ends : (p : Program Call Reply R) (stop : Option Stop) (m : Moment) (mine : List Event) (spent : List (List Event)) (e : Ending) → IsSteady p → (IsAsk p → Prepared m) → IsLawful m.state mine → HadMemory mine
      → ComesTo n (carried p stop (λ left r. finishes (of r)) (finishes over)) mine spent e → Carried p m mine e
  carried_ends (done r) stop m mine spent e steady ready lawful had comes = ran r (ap (made_by n) comes.0, refl) comes.2
  carried_ends (ask call k) stop m mine spent e steady ready lawful had c =
      let p = ready tt in
      let split : IsLawful m.state (c.before ++ c.call ∷ c.after) = subst (IsLawful m.state) c.all lawful in
      let mid : Moment = moment_after m c.before in
      let here : IsLawful mid.state (c.call ∷ c.after) = legal_rest m c.before (c.call ∷ c.after) split in
      let w : Lasts n d m p.row c.before = lasts n d m p.row c.before p.at (legal_first m c.before (c.call ∷ c.after) split) (lets_none n d.writer c.before c.none_before) in
      let had_here : HadMemory (c.call ∷ c.after) = memory_rest c.before (c.call ∷ c.after) (subst HadMemory c.all had) in
      let b : IsBetween mid d p.row = between mid n d p.row w.at in
      let loose : Account = record { latest = acc.latest; writes = acc.writes; least = 0; most = length acc.writes } in
      let whole : HoldsNow mid d p.row loose = record { issued_is = p.issued; least = omega arith; most = omega (arith, b.no_more, p.issued); no_fewer = b.no_fewer; no_more = b.no_more } in
      let next_one : Moment = next_moment mid c.call in
      let grown : landed mid d ≤ landed next_one d = (grows_after mid (c.call ∷ []) (here.0, here.1, tt) w.at.sound).landed d b.named in
      let ends : moment_after m mine ≡ moment_after next_one c.after = ap (moment_after m) c.all ∙ moment-append m c.before (c.call ∷ c.after) in
      elim (is_due stop) as (λ x. is_due stop ≡ x → ComesTo n (if x then finishes over else carried (k c.call.reply) (one_nearer stop) (λ left r. finishes (of r)) (finishes over)) c.after spent e → Carried (ask call k) m mine e) [
        | true ↦ λ due on.
            let bytes = due_some stop due in
            let broken : c.call.ask.stop ≡ Some bytes.0 = ap (λ (a : Ask). a.stop) c.asked ∙ bytes.1 in
            let s = stop_settles mid c.call c.after n d p.row loose bytes.0 w.at whole here c.own broken had_here.0 in
            let settled : IsSettled next_one d (any_landed acc) = record { out = s.out; least = omega (arith, low, p.more, w.same, grown); most = s.most; few = s.few } in
            halted on.2 (subst (λ x. IsSettled x d (any_landed acc)) (sym ends) (settled_later next_one c.after d (any_landed acc) settled here.2))
        | false ↦ λ goes_later on.
            let asked : c.call.ask ≡ unbroken call = c.asked ∙ unbroken_ask call stop goes_later in
            let then_ready : IsAsk (k c.call.reply) → Prepared next_one = λ more_asks.
            (let q = quiet_next n d mid c.call c.after call p.row acc w.at p.issued here asked (quiet_before call (k c.call.reply) (steady c.call.reply) more_asks) in
            record { row = q.after; at = q.at; issued = q.issued; more = omega (arith, p.more, w.same, grown) }) in
            elim (carried_ends (k c.call.reply) (one_nearer stop) next_one c.after spent e (steady_after call (k c.call.reply) (steady c.call.reply)) then_ready here.2 had_here.1 on) as (λ _. Carried (ask call k) m mine e) [
              | ran r runs is ↦ ran r (subst (λ es. Runs n (ask call k) es r) (sym c.all) (one_more n call k c.before c.call c.after r c.none_before c.own asked runs)) is
              | halted is settled ↦ halted is (subst (λ x. IsSettled x d (any_landed acc)) (sym ends) settled)
            ]
      ] refl c.goes_on

-- A writer that its caller lets be stays in the table, and nothing of it lands. Where its caller is stopped, it is out.
use Rattle.std.proofs.Common.{◌≡◌, ℕ, true, List, [], ◌∷◌, ◌++◌, Some, refl, sym, ap, ◌∙◌, subst, arith}
use Rattle.std.proofs.lemmas.List.Elements.{All-head, All-tail}
use Rattle.mount_model.specs.declared.call.Call.{Call}
use Rattle.mount_model.specs.declared.call.Call.TheVariants.{Flush}
use Rattle.mount_model.specs.declared.reply.Reply.TheVariants.{NoMemory}
use Rattle.mount_model.specs.declared.row.Row.{Row}
use Rattle.mount_model.specs.History.{Event}
use Rattle.mount_model.specs.Step.{IsStep}
use Rattle.mount_sound.specs.Owed.{IsLawful}
use Rattle.reader_laws.specs.Bounds.{SparesIndex}
use Rattle.reader_laws.specs.Moments.{Dropping, Moment, landed, moment_after, next_moment}
use Rattle.reader_laws.proofs.Gathered.Facts.{legal_first, legal_rest, moment-append}
use Rattle.reader_laws.proofs.Gathered.Moments.Stepping.{sound_next}
use Rattle.writer_laws.specs.Counting.{entry_count}
use Rattle.writer_laws.specs.Waiting.{IsOn, LeavesAlone, LetsBe}
use Rattle.writer_laws.proofs.Stops.{spared_row}
use Rattle.run_core.specs.Leading.{HadMemory}
use Rattle.actor_core.specs.Endings.{Ending}
use Rattle.headline_laws.proofs.Plays.Facts.{LetsUpTo, breaks, lets}
use Rattle.headline.specs.Writers.{Account}
use Rattle.headline_laws.proofs.Landed.Between.{AtPlace, IsBetween, between}
use Rattle.headline_laws.proofs.Landed.Leaving.{drawn_next, row_drawn, stop_kills}
use Rattle.headline_laws.proofs.Landed.Numbers.{Holds}
use Rattle.headline_laws.proofs.Landed.Settled.{IsSettled, settled_later}
use Rattle.headline_laws.proofs.Landed.Sparing.{spared_next}
use Rattle.headline_laws.proofs.Landed.Writes.{HoldsNow}

pub memory_rest : (first rest : List Event) → HadMemory (first ++ rest) → HadMemory rest
memory_rest [] rest had = had
memory_rest (e ∷ first) rest had = memory_rest first rest had.1

-- a call that is not on the writer flushes it not
pub spares_of : (c : Call) (d : Dropping) → (IsOn d.writer c → ⊥) → SparesIndex c d
spares_of (Flush writer) d not_on = not_on
spares_of c d not_on = tt

module _ (n : ℕ) (d : Dropping) where
  -- its row is there still, and nothing has landed
  pub record Lasts (m : Moment) (row : Row) (events : List Event) : Type 0 where
    pub at : AtPlace (moment_after m events) n d row
    pub same : landed (moment_after m events) d ≡ landed m d

  pub lasts : (m : Moment) (row : Row) (events : List Event) → AtPlace m n d row → IsLawful m.state events → LetsBe n d.writer events → Lasts m row events
  lasts m row [] at lawful let_be = record { at = at; same = refl }
  lasts m row (e ∷ events) at lawful let_be =
      let alone : e.caller ≡ n → LeavesAlone d.writer e.ask = All-head (λ (x : Event). x.caller ≡ n → LeavesAlone d.writer x.ask) e events let_be in
      let there : AtPlace (next_moment m e) n d row = record { sound = sound_next m e events lawful at.sound; has = spared_row n d.writer row m.state e.caller e.ask e.reply e.after alone at.has lawful.1; room = at.room; host = at.host } in
      let more = lasts (next_moment m e) row events there lawful.2 (All-tail (λ (x : Event). x.caller ≡ n → LeavesAlone d.writer x.ask) e events let_be) in
      record { at = more.at; same = more.same ∙ spared_next m e events n d row at lawful (λ mine. spares_of e.ask.call d (alone mine).1) }

  -- what is told of it holds still
  pub record HoldsStill (m : Moment) (row : Row) (acc : Account) : Type 0 where
    pub at : AtPlace m n d row
    pub holds : HoldsNow m d row acc

  pub holds_still : (m : Moment) (row : Row) (acc : Account) (events : List Event) → AtPlace m n d row → HoldsNow m d row acc → IsLawful m.state events → LetsBe n d.writer events → HoldsStill (moment_after m events) row acc
  holds_still m row acc events at holds lawful let_be =
      let l = lasts m row events at lawful let_be in
      record { at = l.at; holds = subst (λ k. Holds (entry_count row) row.landed k acc) (sym l.same) holds }

  -- a call that is broken off, and is not on it: it is out, and nothing of it has landed
  pub stopped_out : (m : Moment) (e : Event) (rest : List Event) (row : Row) (acc : Account) (bytes : ℕ) → AtPlace m n d row → HoldsNow m d row acc → IsLawful m.state (e ∷ rest) → e.caller ≡ n → e.ask.stop ≡ Some bytes → (IsOn d.writer e.ask.call → ⊥) → (e.reply ≡ NoMemory → ⊥) → IsSettled (next_moment m e) d acc
  stopped_out m e rest row acc bytes at holds lawful own broken off had =
      let b : IsBetween m d row = between m n d row at in
      let same : landed (next_moment m e) d ≡ landed m d = spared_next m e rest n d row at lawful (λ mine. spares_of e.ask.call d off) in
      record {
        out = record {
          named = b.named;
          sound = sound_next m e rest lawful at.sound;
          dead = stop_kills n d.writer row m.state bytes e.ask e.reply e.after at.has broken (subst (λ k. IsStep m.state k e.ask e.reply e.after) own lawful.1) had;
          drawn = omega (arith, row_drawn d.writer row m.state at.sound.regular at.has.there, drawn_next m e rest lawful);
        };
        least = omega (arith, holds.least, holds.no_fewer, same);
        most = omega (arith, holds.most, same);
        few = omega (arith, holds.no_more, holds.issued_is, same);
      }

  -- ---- a statement that is on no writer

  -- its actor goes on, and what is told holds; or it was stopped, and the writer is out
  pub data AfterSpared (m : Moment) (row : Row) (acc : Account) (events : List Event) (ending : Ending) : Type 0 where
    still : HoldsStill (moment_after m events) row acc → AfterSpared m row acc events ending
    out : ending.kept.gone ≡ true → IsSettled (moment_after m events) d acc → AfterSpared m row acc events ending

  pub after_spared : (m : Moment) (row : Row) (acc : Account) (events : List Event) (ending : Ending) → AtPlace m n d row → HoldsNow m d row acc → IsLawful m.state events → HadMemory events → LetsUpTo n d.writer events ending → AfterSpared m row acc events ending
  after_spared m row acc events ending at holds lawful had (lets let_be) = still (holds_still m row acc events at holds lawful let_be)
  after_spared m row acc events ending at holds lawful had (breaks front event later bytes is let_be own broken off none gone) = out gone (subst (λ x. IsSettled x d acc) (sym ends) settled)
    where
      whole : IsLawful m.state (front ++ event ∷ later)
      whole = subst (IsLawful m.state) is lawful

      mid : Moment
      mid = moment_after m front

      there : IsLawful mid.state (event ∷ later)
      there = legal_rest m front (event ∷ later) whole

      h : HoldsStill mid row acc
      h = holds_still m row acc front at holds (legal_first m front (event ∷ later) whole) let_be

      had_it : event.reply ≡ NoMemory → ⊥
      had_it = (memory_rest front (event ∷ later) (subst HadMemory is had)).0

      settled : IsSettled (moment_after (next_moment mid event) later) d acc
      settled = settled_later (next_moment mid event) later d acc (stopped_out mid event later row acc bytes h.at h.holds there own broken off had_it) there.2

      ends : moment_after m events ≡ moment_after (next_moment mid event) later
      ends = ap (moment_after m) is ∙ moment-append m front (event ∷ later)

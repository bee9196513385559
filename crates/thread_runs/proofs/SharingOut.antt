-- An actor whose workers read the shares of its reader goes on with what they read.
use Rattle.std.proofs.Common.{◌≡◌, ℕ, List, [], Some, None, Result, Ok, Err, refl, sym, ap, ◌∙◌, subst}
use Rattle.std.specs.Prelude.{OnOk}
use Rattle.turn_object.specs.History.{state_after}
use Rattle.turn_object.specs.Front.{IsLegalFront}
use Rattle.turn_object.specs.Pass.{start_of, front, IsPassOf}
use Rattle.mount_model.specs.declared.stuck.Stuck.{Stuck}
use Rattle.mount_model.specs.Step.{IsStep}
use Rattle.mount_sound.specs.Owed.{Permits}
use Rattle.index_reader.specs.declared.sharing.Share.{Share}
use Rattle.index_reader.specs.declared.sharing.ShareRead.{ShareRead}
use Rattle.mount_model.specs.Process.{ends, pauses, tells, asks, shares}
use Rattle.mount_model.specs.Safe.{AreFree, PassSafeProcess}
use Rattle.mount_model.proofs.Stories.Facts.{safe_shares, safe_worker}
use Rattle.actor_core.specs.declared.kept.Kept.{Kept}
use Rattle.actor_core.specs.Work.{Work}
use Rattle.actor_core.specs.Progress.{Progress, idle, going, asked, handed, told, IsIdle}
use Rattle.gather_flow.specs.Workers.{Reading, AreMachinesOf}
use Rattle.actor_core.specs.Handing.{IsHandedOut, IsHanded, with_results}
use Rattle.run_core.specs.Course.{Course, then_line, one_by_one}
use Rattle.run_core.specs.Players.{course_at}
use Rattle.share_workers.specs.Passes.{ThePass, TheTurn, IsAfter}
use Rattle.thread_runs.specs.Driving.{MayGoOn, IsBrokenOff, IsDriven}
use Rattle.share_workers.specs.Workers.{HaveRead, HaveBegun}
use Rattle.thread_runs.proofs.Driving.{a_number, driven_first}
use Rattle.thread_runs.proofs.Going.{breaks_after, breaks_none, breaks_shares, goes_shares, goes_then}

-- what follows from an answer also follows from the call that gives it
pub on_so : {X E : Type 0} (result : Result X E) (Says More : Type 0) → (Says → More) → OnOk result Says → OnOk result More
on_so (Ok x) Says More f says = f says
on_so (Err e) Says More f says = says

-- The shares of this statement are handed out to these machines.
pub record HandsShares (old : Progress) (works : List ShareRead) (mid : Progress) : Type 0 where
  pub number : ℕ
  pub programs : List Reading
  pub next : List (Result Share Stuck) → Work
  pub alone : Work
  pub was : old ≡ going number (shares programs next alone)
  pub machines : AreMachinesOf programs works
  pub out : mid ≡ handed number next

hands_work : (number : ℕ) (work : Work) (works : List ShareRead) (mid : Progress) → IsHandedOut (going number work) (Some works) mid → HandsShares (going number work) works mid
hands_work number ends works mid is = absurd is
hands_work number (pauses work) works mid is = absurd is
hands_work number (tells ending work) works mid is = absurd is
hands_work number (asks q k) works mid is = absurd is
hands_work number (shares programs k alone) works mid is = record { number = number; programs = programs; next = k; alone = alone; was = refl; machines = is.0; out = is.1 }

pub hands_shares : (old : Progress) (works : List ShareRead) (mid : Progress) → IsHandedOut old (Some works) mid → HandsShares old works mid
hands_shares (idle kept) works mid is = absurd is
hands_shares (going number work) works mid is = hands_work number work works mid is
hands_shares (asked number k) works mid is = absurd is
hands_shares (handed number k) works mid is = absurd is
hands_shares (told line kept) works mid is = absurd is

none_work : (number : ℕ) (work : Work) (mid : Progress) → IsHandedOut (going number work) None mid → mid ≡ going number work
none_work number ends mid is = is
none_work number (pauses work) mid is = is
none_work number (tells ending work) mid is = is
none_work number (asks q k) mid is = is
none_work number (shares programs k alone) mid is = absurd is

pub hands_none : (old mid : Progress) → IsHandedOut old None mid → mid ≡ old
hands_none (idle kept) mid is = is
hands_none (going number work) mid is = none_work number work mid is
hands_none (asked number k) mid is = is
hands_none (handed number k) mid is = is
hands_none (told line kept) mid is = is

pub is_handed : (old : Progress) (works : List ShareRead) (mid : Progress) → HandsShares old works mid → IsHanded mid
is_handed old works mid h = let Q : Progress → Type 0 = λ p. IsHanded p in subst Q (sym h.out) tt

module _ {P : Type 0} (turn : TheTurn P) where
  -- what workers do is allowed
  pub shares_free : (pass : ThePass) (old : Progress) (works : List ShareRead) (mid : Progress) → MayGoOn (start_of turn) (front pass) old → (h : HandsShares old works mid)
      → AreFree IsStep Permits h.programs (state_after (start_of turn) (front pass).seen)
  shares_free pass old works mid may h =
      let n = a_number (front pass).seen (front pass).mine in
      let Q : Progress → Type 0 = λ p. MayGoOn (start_of turn) (front pass) p in
      let safe : PassSafeProcess IsStep Permits (start_of turn) (front pass) (shares h.programs h.next h.alone) = λ caller can. (subst Q h.was may caller can).1 in
      safe_worker IsStep Permits (start_of turn) (front pass) h.programs h.next h.alone safe n.0 n.1

  -- with their results it goes on
  pub shares_driven : (old new : ThePass) (was mid now : Progress) (works : List ShareRead) (results : List (Result Share Stuck)) → IsLegalFront IsStep Permits (start_of turn) (front old) → MayGoOn (start_of turn) (front old) was
      → (h : HandsShares was works mid) → IsAfter turn old new → HaveRead (front old) h.programs (front new) results → now ≡ with_results mid results → IsDriven turn old was new now
  shares_driven old new was mid now works results known may h after read goes =
      let reached : going h.number (h.next results) ≡ now = sym (goes ∙ ap (λ p. with_results p results) h.out) in
      let Q : Progress → Type 0 = λ p. MayGoOn (start_of turn) (front old) p in
      let may_was = subst Q h.was may in
      let safe : PassSafeProcess IsStep Permits (start_of turn) (front old) (shares h.programs h.next h.alone) = λ caller can. (may_was caller can).1 in
      let n = a_number (front old).seen (front old).mine in
      let comes = (may_was n.0 n.1).0.0 results in
      let R : Progress × Progress → Type 0 = λ z. IsDriven turn old z.0 new z.1 in
      subst R (λ i. (sym h.was i, reached i)) (record {
        after = after;
        may = λ caller can. (comes, safe_shares IsStep Permits (start_of turn) (front old) (front new) h.programs h.next h.alone read.calls results known after.known read.joined read.made safe caller can);
        busy = λ none. none;
        goes = λ statements later.
            let next : Kept → _ = λ kept. one_by_one statements later kept in
            goes_shares (start_of turn) (front old) (front new) h.programs (λ rs. then_line h.number next (h.next rs)) (then_line h.number next h.alone) results known after.known after.parts read;
      })

  -- nothing was handed out
  pub still_driven : (pass : ThePass) (old mid : Progress) → IsPassOf turn pass → IsLegalFront IsStep Permits (start_of turn) (front pass) → MayGoOn (start_of turn) (front pass) old → (IsIdle old → ⊥) → mid ≡ old → IsDriven turn pass old pass mid
  still_driven pass old mid pass_of known may busy same =
      let Q : Progress → Type 0 = λ p. IsDriven turn pass old pass p in
      subst Q (sym same) (driven_first turn pass old pass_of known may busy)

  -- one after the other
  pub driven_then : (first mid last : ThePass) (a b c : Progress) → IsDriven turn first a mid b → IsDriven turn mid b last c → IsDriven turn first a last c
  driven_then first mid last a b c x y = record {
    after = record { pass = y.after.pass; known = y.after.known; parts = y.after.parts ∙ x.after.parts };
    may = y.may;
    busy = y.busy;
    goes = λ statements later. goes_then (front first) (front mid) (front last) _ _ _ [] [] (x.goes statements later) (y.goes statements later);
  }

  -- broken off before anything was done
  pub nothing_broken : (pass : ThePass) (old : Progress) → IsBrokenOff (front pass) old (front pass)
  nothing_broken pass old = λ statements later. breaks_none (front pass) (course_at old statements later)

  -- amid the workers, or behind them
  pub shares_broken : (old new : ThePass) (was mid : Progress) (works : List ShareRead) → IsLegalFront IsStep Permits (start_of turn) (front old) → (h : HandsShares was works mid) → IsAfter turn old new → HaveBegun (front old) h.programs (front new)
      → IsBrokenOff (front old) was (front new)
  shares_broken old new was mid works known h after begun =
      let Q : Progress → Type 0 = λ p. IsBrokenOff (front old) p (front new) in
      subst Q (sym h.was) (λ statements later.
      let next : Kept → Course = λ kept. one_by_one statements later kept in
      breaks_shares (start_of turn) (front old) (front new) h.programs (λ rs. then_line h.number next (h.next rs)) (then_line h.number next h.alone) known after.known after.parts begun)

  pub shares_read_broken : (old new : ThePass) (was mid : Progress) (works : List ShareRead) (results : List (Result Share Stuck)) → IsLegalFront IsStep Permits (start_of turn) (front old) → (h : HandsShares was works mid) → IsAfter turn old new
      → HaveRead (front old) h.programs (front new) results → IsBrokenOff (front old) was (front new)
  shares_read_broken old new was mid works results known h after read =
      let Q : Progress → Type 0 = λ p. IsBrokenOff (front old) p (front new) in
      subst Q (sym h.was) (λ statements later.
      let next : Kept → Course = λ kept. one_by_one statements later kept in
      let k : List (Result Share Stuck) → Course = λ rs. then_line h.number next (h.next rs) in
      let alone : Course = then_line h.number next h.alone in
      breaks_after (front old) (front new) (front new) (shares h.programs k alone) (k results) [] (goes_shares (start_of turn) (front old) (front new) h.programs k alone results known after.known after.parts read) (breaks_none (front new) (k results)))

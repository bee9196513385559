-- How the one machine of a statement is asked for its next call, and comes to its end.
use Rattle.std.proofs.Common.{◌≡◌, ℕ, Option, Some, None, Result, Ok, Err, refl, sym, ap, ◌∙◌, subst}
use Rattle.std.specs.Prelude.{◌≢◌, option_map, IfOk, OnOk}
use Rattle.std.specs.Global.{Box}
use Rattle.std.proofs.lemmas.Option.{none-some}
use Rattle.mount_model.specs.Program.{Program, done, ask}
use Rattle.mount_model.specs.Standing.{Standing, ready, asked as out, Rest, over, next_of, rest_of, Awaits, IsOver}
use Rattle.mount_model.specs.declared.call.Call.{Call}
use Rattle.mount_model.specs.declared.reply.Reply.{Reply}
use Rattle.attr_flow.specs.declared.attr_flow.AttrFlow.{AttrFlow}
use Rattle.index_reader.specs.declared.opening.OpenRead.{OpenRead}
use Rattle.gather_flow.specs.declared.gathering.Gathering.{Gathering as Gathers}
use Rattle.script_lang.specs.declared.line.Outcome.{Outcome}
use Rattle.actor_core.specs.declared.kept.Stop.{Stop}
use Rattle.actor_core.specs.declared.kept.Kept.{Kept}
use Rattle.actor_core.specs.declared.purpose.Purpose.{Purpose}
use Rattle.actor_core.specs.declared.doing.Doing.{Doing}
use Rattle.actor_core.specs.declared.doing.Doing.TheVariants.{Known, Opening, Writing, Syncing, Closing, Listing, Gathering, Reading, Verifying, Telling, Truncating, Renaming, Recovering, Refreshing, Naming, Flattening}
use Rattle.actor_core.specs.Stopping.{stoppable}
use Rattle.actor_core.specs.Endings.{ending, stopped}
use Rattle.actor_core.specs.Work.{Work, finishes}
use Rattle.actor_core.specs.Progress.{IsReady, ask_of, given}
use Rattle.actor_core.specs.Standings.{Underway, goes, ready_of, asked_of, busy, doing_ready, doing_asked}
use Rattle.actor_core.specs.Machines.{IsOneMachine, IsAtEnd, GoesOn}
use Rattle.actor_core.proofs.Carrying.{asks_so, is_out, same_result}

-- a statement that is no other has one machine
pub is_one : (doing : Doing) → ((outcome : Outcome) → doing ≢ Known outcome) → ((flow : OpenRead) (purpose : Purpose) → doing ≢ Listing flow purpose)
    → ((flow : Box Gathers) (purpose : Purpose) → doing ≢ Gathering flow purpose) → ((flow : AttrFlow) → doing ≢ Telling flow) → IsOneMachine doing
is_one (Known outcome) not_known not_listing not_gathering not_telling = absurd (not_known outcome refl)
is_one (Opening flow) not_known not_listing not_gathering not_telling = tt
is_one (Writing flow at len) not_known not_listing not_gathering not_telling = tt
is_one (Syncing flow) not_known not_listing not_gathering not_telling = tt
is_one (Closing flow) not_known not_listing not_gathering not_telling = tt
is_one (Listing flow purpose) not_known not_listing not_gathering not_telling = absurd (not_listing flow purpose refl)
is_one (Gathering flow purpose) not_known not_listing not_gathering not_telling = absurd (not_gathering flow purpose refl)
is_one (Reading flow at) not_known not_listing not_gathering not_telling = tt
is_one (Verifying flow at content) not_known not_listing not_gathering not_telling = tt
is_one (Telling flow) not_known not_listing not_gathering not_telling = absurd (not_telling flow refl)
is_one (Truncating flow) not_known not_listing not_gathering not_telling = tt
is_one (Flattening flow) not_known not_listing not_gathering not_telling = tt
is_one (Renaming flow) not_known not_listing not_gathering not_telling = tt
is_one (Recovering flow) not_known not_listing not_gathering not_telling = tt
is_one (Refreshing flow) not_known not_listing not_gathering not_telling = tt
is_one (Naming flow) not_known not_listing not_gathering not_telling = tt

module _ {R : Type 0} where
  -- a machine whose result has come is at its end
  stands_over : (s : Standing Call Reply R) (result : R) → rest_of s ≡ over result → s ≡ ready (done result)
  stands_over (ready (done made)) result is = ap (λ r. ready (done r)) (same_result made result is)
  stands_over (ready (ask question k)) result is = let P : Rest Call Reply R → Type 0 = λ rest. Awaits rest in absurd (subst P is tt)
  stands_over (out k) result is = let P : Rest Call Reply R → Type 0 = λ rest. Awaits rest in absurd (subst P is tt)

  -- and its result leads on
  pub leads_on : (s : Standing Call Reply R) (stop : Option Stop) (next : Option Stop → R → Work) (halted : Work) (result : R) → rest_of s ≡ over result → ready_of s stop next halted ≡ goes (next stop result)
  leads_on s stop next halted result is = ap (λ standing. ready_of standing stop next halted) (stands_over s result is)

  over_still : (old new : Standing Call Reply R) → ((k : Reply → Program Call Reply R) → old ≢ out k) → None ≡ next_of old → rest_of new ≡ rest_of old → IsOver (rest_of new) × (new ≡ old)
  over_still (ready (done result)) new isnt none same = let P : Rest Call Reply R → Type 0 = λ rest. IsOver rest in (subst P (sym same) tt, stands_over new result same)
  over_still (ready (ask question k)) new isnt none same = absurd (none-some question none)
  over_still (out k) new isnt none same = absurd (isnt k refl)

  -- a machine that was asked for its next call, within its statement
  module _ (number : ℕ) (old new : Standing Call Reply R) (stop : Option Stop) (next : Option Stop → R → Work) (halted : Work) where
    none_out : IsReady (busy number (ready_of old stop next halted)) → None ≡ next_of old → rest_of new ≡ rest_of old
        → IsOver (rest_of new) × (ready_of new stop next halted ≡ ready_of old stop next halted)
    none_out is_ready none same =
        let P : Standing Call Reply R → Type 0 = λ s. IsReady (busy number (ready_of s stop next halted)) in
        let still = over_still old new (λ k is. subst P is is_ready) none same in
        (still.0, ap (λ s. ready_of s stop next halted) still.1)

    one_out : (call : Call) → IsReady (busy number (ready_of old stop next halted)) → Some call ≡ next_of old → rest_of new ≡ rest_of old
        → (Some (stoppable stop call) ≡ ask_of (busy number (ready_of old stop next halted))) × (busy number (asked_of (rest_of new) stop next halted) ≡ given (busy number (ready_of old stop next halted)))
    one_out call is_ready some same =
        let question = stoppable stop call in
        let asks : Some question ≡ option_map (stoppable stop) (next_of old) = ap (option_map (stoppable stop)) some in
        (asks_so number old new stop next halted question is_ready asks, is_out number old new stop next halted question is_ready asks same)

-- what is so of a statement's machine before and after it was asked is so of the statement
module _ {R : Type 0} (old new : Standing Call Reply R) (next : Kept → Option Stop → R → Work) (was before after : Doing) (is : was ≡ before)
    (as_before : (kept : Kept) (stop : Option Stop) → doing_ready kept stop before ≡ ready_of old stop (next kept) (finishes (stopped kept)))
    (as_after : (kept : Kept) (stop : Option Stop) → doing_ready kept stop after ≡ ready_of new stop (next kept) (finishes (stopped kept)))
    (as_asked : (kept : Kept) (stop : Option Stop) → doing_asked kept stop after ≡ asked_of (rest_of new) stop (next kept) (finishes (stopped kept)))
    (ends : IsOver (rest_of new) → IsAtEnd after) where
  stood : (kept : Kept) (stop : Option Stop) → doing_ready kept stop was ≡ ready_of old stop (next kept) (finishes (stopped kept))
  stood kept stop = ap (doing_ready kept stop) is ∙ as_before kept stop

  pub goes_on : {E : Type 0} (result : Result (Option Call) E) → IfOk result (λ call. call ≡ next_of old) → OnOk result (rest_of new ≡ rest_of old) → IfOk result (λ call. GoesOn was call after)
  goes_on (Err why) called same = tt
  goes_on (Ok None) called same = λ number kept stop is_ready.
      let P : Underway → Type 0 = λ u. IsReady (busy number u) in
      let told = none_out number old new stop (next kept) (finishes (stopped kept)) (subst P (stood kept stop) is_ready) called same in
      (ends told.0, as_after kept stop ∙ told.1 ∙ sym (stood kept stop))
  goes_on (Ok (Some call)) called same = λ number kept stop is_ready.
      let P : Underway → Type 0 = λ u. IsReady (busy number u) in
      let told = one_out number old new stop (next kept) (finishes (stopped kept)) call (subst P (stood kept stop) is_ready) called same in
      (told.0 ∙ sym (ap (λ u. ask_of (busy number u)) (stood kept stop)), ap (busy number) (as_asked kept stop) ∙ told.1 ∙ sym (ap (λ u. given (busy number u)) (stood kept stop)))

-- what the machine's end leads to is what comes of the statement
pub comes_to : {R : Type 0} (s : Standing Call Reply R) (kept : Kept) (stop : Option Stop) (next : Option Stop → R → Work) (was before : Doing) (made : R) (outcome : Outcome) (after : Kept)
    → was ≡ before → doing_ready kept stop before ≡ ready_of s stop next (finishes (stopped kept)) → rest_of s ≡ over made → next stop made ≡ finishes (ending outcome after)
    → doing_ready kept stop was ≡ goes (finishes (ending outcome after))
comes_to s kept stop next was before made outcome after is as_before ended leads =
    ap (doing_ready kept stop) is ∙ as_before ∙ leads_on s stop next (finishes (stopped kept)) made ended ∙ ap goes leads

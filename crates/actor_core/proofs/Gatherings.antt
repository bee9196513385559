-- How a container that is gathered goes on.
use Rattle.std.proofs.Common.{◌≡◌, ℕ, [], Option, Some, None, Result, Ok, Err, refl, sym, ap, ◌∙◌, subst}
use Rattle.std.specs.Prelude.{option_map}
use Rattle.std.proofs.lemmas.Option.{none-some}
use Rattle.mount_model.specs.Program.{done, ask}
use Rattle.mount_model.specs.declared.stuck.Stuck.{Stuck}
use Rattle.mount_model.specs.Standing.{Standing, ready, asked as out, Rest, over, next_of, rest_of}
use Rattle.mount_model.specs.declared.call.Call.{Call}
use Rattle.mount_model.specs.declared.reply.Reply.{Reply}
use Rattle.index_reader.specs.declared.listing.Listing.{Listing}
use Rattle.actor_core.specs.declared.kept.Stop.{Stop}
use Rattle.actor_core.specs.declared.kept.Kept.{Kept}
use Rattle.gather_flow.specs.declared.all_read.AllRead.{AllRead}
use Rattle.gather_flow.specs.declared.gathering.Gathering.{Gathering}
use Rattle.gather_flow.specs.declared.gathering.Gathering.TheVariants.{Shares, Truncs, Ended}
use Rattle.gather_flow.specs.declared.gathering.Called.{Called}
use Rattle.gather_flow.specs.declared.gathering.Called.TheVariants as called
use Rattle.actor_core.specs.declared.purpose.Purpose.{Purpose}
use Rattle.actor_core.specs.declared.purpose.Purpose.TheVariants.{Opens, Tells}
use Rattle.actor_core.specs.Stopping.{stoppable, carried}
use Rattle.actor_core.specs.Endings.{ending, stopped, told_of}
use Rattle.outcomes.specs.Outcomes.{stuck_outcome}
use Rattle.actor_core.specs.Work.{Work, finishes}
use Rattle.actor_core.specs.Opened.{opens, reader_opened}
use Rattle.gather_flow.specs.OneIndex.{reader_of, attr_of}
use Rattle.actor_core.specs.Telling.{tells_by}
use Rattle.actor_core.specs.Purposes.{workers_of, if_listed_for, ended_for}
use Rattle.gather_flow.specs.Shares.{by_itself, programs_from}
use Rattle.actor_core.specs.Progress.{Progress, going, told, IsReady, ask_of, given, line_of}
use Rattle.actor_core.specs.Standings.{Underway, ready_of, asked_of, busy}
use Rattle.gather_flow.specs.Gathering.{shares_from, gather_standing, gather_rest}
use Rattle.gather_flow.specs.Called.{IsCalled}
use Rattle.actor_core.proofs.Carrying.{asks_so, ends_so}
use Rattle.actor_core.proofs.Making.{made_alone}

-- a container that is gathered for this, before its next call
abbrev gathers : Kept → Option Stop → Gathering → Purpose → Underway
gathers kept stop g purpose = ready_of (gather_standing g) stop (λ left result. finishes (ended_for purpose kept result)) (finishes (stopped kept))

-- the same, where its call is out
abbrev gathers_out : Kept → Option Stop → Gathering → Purpose → Underway
gathers_out kept stop g purpose = asked_of (gather_rest g) stop (λ left result. finishes (ended_for purpose kept result)) (finishes (stopped kept))

-- a machine that was taken out of its box asks what it asks, and goes on in one
pub asks_boxed : (was taken : Gathering) (said : Called) (call : Call) (asking new : Gathering)
    → taken ≡ was → said ≡ called.Asks call asking → IsCalled taken said → new ≡ asking → IsCalled was (called.Asks call new)
asks_boxed was taken said call asking new same is holds boxed =
    let P : Gathering → Type 0 = λ g. IsCalled g said in
    let Q : Called → Type 0 = λ t. IsCalled was t in
    let R : Gathering → Type 0 = λ n. IsCalled was (called.Asks call n) in
    subst R (sym boxed) (subst Q is (subst P same holds))

gather_ready : (number : ℕ) (kept : Kept) (stop : Option Stop) (g : Gathering) (purpose : Purpose) → IsReady (busy number (gathers kept stop g purpose))
gather_ready number kept stop (Shares flow listed workers worker sofar) purpose = tt
gather_ready number kept stop (Truncs flow listed shares) purpose = tt
gather_ready number kept stop (Ended result) purpose = tt

pub gather_asks : (number : ℕ) (kept : Kept) (stop : Option Stop) (g new : Gathering) (purpose : Purpose) (call : Call) → IsCalled g (called.Asks call new)
    → Some (stoppable stop call) ≡ ask_of (busy number (gathers kept stop g purpose))
gather_asks number kept stop g new purpose call is =
    asks_so number (gather_standing g) (gather_standing g) stop (λ left result. finishes (ended_for purpose kept result)) (finishes (stopped kept)) (stoppable stop call)
    (gather_ready number kept stop g purpose) (ap (option_map (stoppable stop)) is.0)

rest_out : {R : Type 0} (number : ℕ) (s : Standing Call Reply R) (rest : Rest Call Reply R) (stop : Option Stop) (next : Option Stop → R → Work) (halted : Work) (call : Call)
    → IsReady (busy number (ready_of s stop next halted)) → Some call ≡ next_of s → rest ≡ rest_of s
    → busy number (asked_of rest stop next halted) ≡ given (busy number (ready_of s stop next halted))
rest_out number (ready (done result)) rest stop next halted call is_ready some same = absurd (none-some call (sym some))
rest_out number (ready (ask question k)) rest stop next halted call is_ready some same = ap (λ r. busy number (asked_of r stop next halted)) same
rest_out number (out k) rest stop next halted call is_ready some same = absurd is_ready

pub gather_out : (number : ℕ) (kept : Kept) (stop : Option Stop) (g new : Gathering) (purpose : Purpose) (call : Call) → IsCalled g (called.Asks call new)
    → busy number (gathers_out kept stop new purpose) ≡ given (busy number (gathers kept stop g purpose))
gather_out number kept stop g new purpose call is =
    rest_out number (gather_standing g) (gather_rest new) stop (λ left result. finishes (ended_for purpose kept result)) (finishes (stopped kept)) call
    (gather_ready number kept stop g purpose) is.0 is.1

-- the end of all
gather_ends : (number : ℕ) (kept : Kept) (stop : Option Stop) (g : Gathering) (purpose : Purpose) (made : Result AllRead Stuck) → gather_standing g ≡ ready (done made)
    → busy number (gathers kept stop g purpose) ≡ going number (finishes (ended_for purpose kept made))
gather_ends number kept stop g purpose made is = ap (λ s. busy number (ready_of s stop (λ left result. finishes (ended_for purpose kept result)) (finishes (stopped kept)))) is

pub gather_no_ask : (number : ℕ) (kept : Kept) (stop : Option Stop) (g : Gathering) (purpose : Purpose) (made : Result AllRead Stuck) → IsCalled g (called.Over made)
    → None ≡ ask_of (busy number (gathers kept stop g purpose))
gather_no_ask number kept stop g purpose made is = sym (ap (λ p. ask_of p) (gather_ends number kept stop g purpose made is))

pub gather_given : (number : ℕ) (kept : Kept) (stop : Option Stop) (g : Gathering) (purpose : Purpose) (made : Result AllRead Stuck) → IsCalled g (called.Over made)
    → given (going number (finishes (ended_for purpose kept made))) ≡ given (busy number (gathers kept stop g purpose))
gather_given number kept stop g purpose made is = sym (ap (λ p. given p) (gather_ends number kept stop g purpose made is))

-- a trouble is the outcome, whatever the container was gathered for
stuck_for : (kept : Kept) (purpose : Purpose) (because : Stuck) → ended_for purpose kept (Err because) ≡ ending (stuck_outcome because) kept
stuck_for kept (Opens workers) because = refl
stuck_for kept Tells because = refl

pub gather_stuck : (number : ℕ) (kept : Kept) (stop : Option Stop) (g : Gathering) (purpose : Purpose) (because : Stuck) → IsCalled g (called.Over (Err because))
    → told (line_of number (ending (stuck_outcome because) kept)) kept ≡ given (busy number (gathers kept stop g purpose))
gather_stuck number kept stop g purpose because is =
    sym (ap (λ e. given (going number (finishes e))) (stuck_for kept purpose because)) ∙ gather_given number kept stop g purpose (Err because) is

-- what the actor does by itself once the container is listed
abbrev alone : Purpose → ℕ → Kept → Option Stop → Listing → Progress
alone (Opens workers) number kept stop listing =
    going number (carried (by_itself (programs_from workers listing 0) [] (opens listing)) stop (λ left result. finishes (reader_opened kept result)) (finishes (stopped kept)))
alone Tells number kept stop listing =
    going number (carried (by_itself (programs_from 1 listing 0) [] (tells_by listing)) stop (λ left result. finishes (told_of kept result)) (finishes (stopped kept)))

alone_asks : (purpose : Purpose) (number : ℕ) (kept : Kept) (stop : Option Stop) (listing : Listing)
    → ask_of (alone purpose number kept stop listing) ≡ ask_of (going number (if_listed_for purpose kept stop (Ok listing)))
alone_asks (Opens workers) number kept None listing = refl
alone_asks (Opens workers) number kept (Some stop) listing = refl
alone_asks Tells number kept stop listing = refl

alone_given : (purpose : Purpose) (number : ℕ) (kept : Kept) (stop : Option Stop) (listing : Listing)
    → given (alone purpose number kept stop listing) ≡ given (going number (if_listed_for purpose kept stop (Ok listing)))
alone_given (Opens workers) number kept None listing = refl
alone_given (Opens workers) number kept (Some stop) listing = refl
alone_given Tells number kept stop listing = refl

reads_alone : (purpose : Purpose) (number : ℕ) (kept : Kept) (stop : Option Stop) (listing : Listing)
    → going number (carried (shares_from (workers_of purpose) listing 0 []) stop (λ left result. finishes (ended_for purpose kept result)) (finishes (stopped kept))) ≡ alone purpose number kept stop listing
reads_alone (Opens workers) number kept stop listing =
    ap (going number) (made_alone reader_of listing (programs_from workers listing 0) stop (λ left result. finishes (reader_opened kept result)) (finishes (stopped kept)))
reads_alone Tells number kept stop listing =
    ap (going number) (made_alone attr_of listing (programs_from 1 listing 0) stop (λ left result. finishes (told_of kept result)) (finishes (stopped kept)))

gathers_alone : (purpose : Purpose) (number : ℕ) (kept : Kept) (stop : Option Stop) (listing : Listing) (g : Gathering) → gather_standing g ≡ ready (shares_from (workers_of purpose) listing 0 [])
    → busy number (gathers kept stop g purpose) ≡ alone purpose number kept stop listing
gathers_alone purpose number kept stop listing g is =
    ap (λ s. busy number (ready_of s stop (λ left result. finishes (ended_for purpose kept result)) (finishes (stopped kept)))) is ∙ reads_alone purpose number kept stop listing

-- the listing leads to the shares, or to its trouble
module _ (number : ℕ) (kept : Kept) (stop : Option Stop) (purpose : Purpose) (old new : Standing Call Reply (Result Listing Stuck)) where
  listed_so : (result : Result Listing Stuck) → IsReady (busy number (ready_of old stop (if_listed_for purpose kept) (finishes (stopped kept)))) → None ≡ option_map (stoppable stop) (next_of old)
      → rest_of new ≡ rest_of old → rest_of new ≡ over result
      → busy number (ready_of old stop (if_listed_for purpose kept) (finishes (stopped kept))) ≡ going number (if_listed_for purpose kept stop result)
  listed_so result is_ready none same is = ends_so number old new stop (if_listed_for purpose kept) (finishes (stopped kept)) result is_ready none same is

  pub listed_asks : (listing : Listing) (g : Gathering) → IsReady (busy number (ready_of old stop (if_listed_for purpose kept) (finishes (stopped kept)))) → None ≡ option_map (stoppable stop) (next_of old)
      → rest_of new ≡ rest_of old → rest_of new ≡ over (Ok listing) → gather_standing g ≡ ready (shares_from (workers_of purpose) listing 0 [])
      → ask_of (busy number (gathers kept stop g purpose)) ≡ ask_of (busy number (ready_of old stop (if_listed_for purpose kept) (finishes (stopped kept))))
  listed_asks listing g is_ready none same is begins =
      ap (λ p. ask_of p) (gathers_alone purpose number kept stop listing g begins) ∙ alone_asks purpose number kept stop listing
      ∙ sym (ap (λ p. ask_of p) (listed_so (Ok listing) is_ready none same is))

  pub listed_given : (listing : Listing) (g : Gathering) → IsReady (busy number (ready_of old stop (if_listed_for purpose kept) (finishes (stopped kept)))) → None ≡ option_map (stoppable stop) (next_of old)
      → rest_of new ≡ rest_of old → rest_of new ≡ over (Ok listing) → gather_standing g ≡ ready (shares_from (workers_of purpose) listing 0 [])
      → given (busy number (gathers kept stop g purpose)) ≡ given (busy number (ready_of old stop (if_listed_for purpose kept) (finishes (stopped kept))))
  listed_given listing g is_ready none same is begins =
      ap (λ p. given p) (gathers_alone purpose number kept stop listing g begins) ∙ alone_given purpose number kept stop listing
      ∙ sym (ap (λ p. given p) (listed_so (Ok listing) is_ready none same is))

  stuck_listed : (because : Stuck) → if_listed_for purpose kept stop (Err because) ≡ finishes (ending (stuck_outcome because) kept)
  stuck_listed because = elim purpose as (λ p. if_listed_for p kept stop (Err because) ≡ finishes (ending (stuck_outcome because) kept)) [
    | Opens workers ↦ refl
    | Tells ↦ refl
  ]

  pub stuck_asks : (because : Stuck) → IsReady (busy number (ready_of old stop (if_listed_for purpose kept) (finishes (stopped kept)))) → None ≡ option_map (stoppable stop) (next_of old)
      → rest_of new ≡ rest_of old → rest_of new ≡ over (Err because)
      → None ≡ ask_of (busy number (ready_of old stop (if_listed_for purpose kept) (finishes (stopped kept))))
  stuck_asks because is_ready none same is =
      sym (ap (λ p. ask_of p) (listed_so (Err because) is_ready none same is) ∙ ap (λ w. ask_of (going number w)) (stuck_listed because))

  pub stuck_given : (because : Stuck) → IsReady (busy number (ready_of old stop (if_listed_for purpose kept) (finishes (stopped kept)))) → None ≡ option_map (stoppable stop) (next_of old)
      → rest_of new ≡ rest_of old → rest_of new ≡ over (Err because)
      → told (line_of number (ending (stuck_outcome because) kept)) kept ≡ given (busy number (ready_of old stop (if_listed_for purpose kept) (finishes (stopped kept))))
  stuck_given because is_ready none same is =
      sym (ap (λ p. given p) (listed_so (Err because) is_ready none same is) ∙ ap (λ w. given (going number w)) (stuck_listed because))

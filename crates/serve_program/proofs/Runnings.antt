-- A whole run on a mount.
use Rattle.std.proofs.Common.{◌≡◌, ℕ, inl, inr, true, false, List, [], ◌∷◌, ◌++◌, length, Some, refl, sym, ap, subst, ◌∙◌, append-nil}
use Rattle.edge_io.specs.Sink.{Taking}
use Rattle.edge_io.specs.Source.{Given}
use Rattle.store_api.specs.Acts.{Stored}
use Rattle.mount_model.specs.declared.mount_trouble.MountTrouble.{MountTrouble}
use Rattle.mount_model.specs.Failing.{FailsToMount}
use Rattle.mount_model.specs.Mounting.{IsMounted}
use Rattle.mount_model.specs.State.{State}
use Rattle.script_lang.specs.declared.line.Line.{Line}
use Rattle.script_lang.specs.declared.script.ActorDecl.{ActorDecl}
use Rattle.script_lang.specs.declared.script.Numbered.{Numbered}
use Rattle.program_ends.specs.Ends.{Ends}
use Rattle.run_core.specs.Breaking.{IsPlayBroken}
use Rattle.serve_core.specs.declared.client.Client.{Client}
use Rattle.serve_core.specs.Making.{AreAtRest}
use Rattle.serve_core.specs.Serving.{HasServed, script_of}
use Rattle.serve_core.proofs.Facts.{is_broken, is_play, one_more, served_is_front}
use Rattle.serve_program.specs.declared.exchange.Stop.{Stop}
use Rattle.serve_program.specs.declared.exchange.Stop.TheVariants as stops
use Rattle.serve_program.specs.Closing.{BreaksClosing, HaveClosed, closings}
use Rattle.serve_program.specs.Exchange.{ExchangeEnds, HasExchanged, Starves, ended, none_begun, one_begun, spent, starved, unread, unwritten}
use Rattle.serve_program.specs.Running.{Runs, RunsOn, closes, is_starved, mounted, starves, status_of, unclosed, unmounted, unmounted_status}
use Rattle.serve_program.proofs.Closings.{broken_closing}

-- ---- whether memory was refused

pub starved_is : (stop : Stop) → is_starved stop ≡ true → stop ≡ stops.NoMemory
starved_is stops.End is = absurd (cc)
starved_is stops.Unread is = absurd (cc)
starved_is stops.Unwritten is = absurd (cc)
starved_is stops.NoMemory is = refl
starved_is stops.Spent is = absurd (cc)

pub unstarved : (stop : Stop) → is_starved stop ≡ false → stop ≡ stops.NoMemory → ⊥
unstarved stop isnt is = let t : is_starved stop ≡ true = ap is_starved is in cc

-- ---- behind the exchange

-- what was served, where memory was not refused
served_then : (declared : List ActorDecl) (start end : State) (given given_after : Given) (taking taking_after : Taking) (stop : Stop) (asked : List Numbered) (lines : List Line) (new : List Client)
    → ExchangeEnds declared start given taking stop asked lines new end given_after taking_after → (stop ≡ stops.NoMemory → ⊥) → HasServed declared start asked lines new end
served_then declared start end given given_after taking taking_after stop asked lines new (ended given_now is x arrives) other = x.served
served_then declared start end given given_after taking taking_after stop asked lines new (unread given_now arrival is not_read x arrives) other = x.served
served_then declared start end given given_after taking taking_after stop asked lines new (unwritten is x) other = x.served
served_then declared start end given given_after taking taking_after stop asked lines new (starved more clients now given_now taking_now is x s) other = absurd (other is)
served_then declared start end given given_after taking taking_after stop asked lines new (spent is x many) other = x.served

pub closed_so : (declared : List ActorDecl) (start mid end : State) (given given_after : Given) (taking taking_after : Taking) (stop : Stop) (old new : List Client) (status trouble : ℕ)
    → HasExchanged declared start given taking stop old mid given_after taking_after → (stop ≡ stops.NoMemory → ⊥) → HaveClosed (length old) old mid trouble new end → status ≡ status_of stop trouble
    → RunsOn declared start given taking status end given_after taking_after
closed_so declared start mid end given given_after taking taking_after stop old new status trouble x other h is =
    let served = served_then declared start mid given given_after taking taking_after stop x.asked x.lines old x.ends other in
    let c = h.closed declared start x.asked x.lines served in
    let H : ℕ → Type 0 = λ n. HasServed declared start (x.asked ++ closings n) (x.lines ++ h.told) new end in
    closes stop x.asked x.lines h.told old mid x.ends other (is_play declared start end (x.asked ++ closings (length declared)) (x.lines ++ h.told) new (subst H served.long c)) (is ∙ ap (λ z. status_of stop z) h.trouble_is)

pub closing_starved : (declared : List ActorDecl) (start mid end : State) (given given_after : Given) (taking taking_after : Taking) (stop : Stop) (old : List Client) (status : ℕ)
    → HasExchanged declared start given taking stop old mid given_after taking_after → (stop ≡ stops.NoMemory → ⊥) → BreaksClosing old mid end → status ≡ 3
    → RunsOn declared start given taking status end given_after taking_after
closing_starved declared start mid end given given_after taking taking_after stop old status x other b is =
    let served = served_then declared start mid given given_after taking taking_after stop x.asked x.lines old x.ends other in
    unclosed stop x.asked x.lines old mid x.ends other b (broken_closing declared start mid end x.asked x.lines old served b) is

-- memory was refused as frames were exchanged
front_of : (declared : List ActorDecl) (start now end : State) (given given_after : Given) (taking taking_after : Taking) (asked more : List Numbered) (lines : List Line) (old new : List Client)
    → HasServed declared start asked lines old now → Starves old now given taking more new end given_after taking_after → IsPlayBroken (script_of declared (asked ++ more)) start end
front_of declared start now end given given_after taking taking_after asked more lines old new h (none_begun none begins still) =
    let P : List Numbered × State → Type 0 = λ z. IsPlayBroken (script_of declared z.0) start z.1 in
    subst P (λ i. ((sym (append-nil asked) ∙ ap (λ z. asked ++ z) (sym none)) i, sym still.state i)) (served_is_front declared start now asked lines old h)
front_of declared start now end given given_after taking taking_after asked more lines old new h (one_begun head payload one next comes asks breaks told) =
    subst (λ (z : List Numbered). IsPlayBroken (script_of declared (asked ++ z)) start end) (sym next) (elim breaks as (λ _. IsPlayBroken (script_of declared (asked ++ one ∷ [])) start end) [
      | inl broken ↦ is_broken declared start now end asked one lines old h broken
      | inr whole ↦ served_is_front declared start end (asked ++ one ∷ []) (lines ++ whole.0 ∷ []) new (one_more declared start now end asked one lines whole.0 old new h whole.1)
    ])

starves_so : (declared : List ActorDecl) (start end : State) (given given_after : Given) (taking taking_after : Taking) (stop : Stop) (asked : List Numbered) (lines : List Line) (new : List Client) (status : ℕ)
    → ExchangeEnds declared start given taking stop asked lines new end given_after taking_after → stop ≡ stops.NoMemory → status ≡ 3 → RunsOn declared start given taking status end given_after taking_after
starves_so declared start end given given_after taking taking_after stop asked lines new status (ended given_now other x arrives) is status_is = absurd (cc)
starves_so declared start end given given_after taking taking_after stop asked lines new status (unread given_now arrival other not_read x arrives) is status_is = absurd (cc)
starves_so declared start end given given_after taking taking_after stop asked lines new status (unwritten other x) is status_is = absurd (cc)
starves_so declared start end given given_after taking taking_after stop asked lines new status (starved more clients now given_now taking_now other x s) is status_is =
    starves asked more lines clients new now given_now taking_now x s (front_of declared start now end given_now given_after taking_now taking_after asked more lines clients new x.served s) status_is
starves_so declared start end given given_after taking taking_after stop asked lines new status (spent other x many) is status_is = absurd (cc)

pub exchange_starved : (declared : List ActorDecl) (start end : State) (given given_after : Given) (taking taking_after : Taking) (stop : Stop) (new : List Client) (status : ℕ)
    → HasExchanged declared start given taking stop new end given_after taking_after → stop ≡ stops.NoMemory → status ≡ 3 → RunsOn declared start given taking status end given_after taking_after
exchange_starved declared start end given given_after taking taking_after stop new status x is status_is =
    starves_so declared start end given given_after taking taking_after stop x.asked x.lines new status x.ends is status_is

-- the clients are at rest where memory was not refused
pub rest_then : (declared : List ActorDecl) (start end : State) (given given_after : Given) (taking taking_after : Taking) (stop : Stop) (new : List Client)
    → HasExchanged declared start given taking stop new end given_after taking_after → (stop ≡ stops.NoMemory → ⊥) → AreAtRest new
rest_then declared start end given given_after taking taking_after stop new x other = (served_then declared start end given given_after taking taking_after stop x.asked x.lines new x.ends other).rest

-- ---- the mount

pub runs_so : (declared : List ActorDecl) (given given_after : Given) (e : Ends) (status said : ℕ) (start end : State) (after : Stored) → e.stored_after ≡ Some after → IsMounted 0 e.times e.stored start → after ≡ end.store → status ≡ said
    → RunsOn declared start given e.taking said end given_after e.taking_after → Runs declared given given_after e status
runs_so declared given given_after e status said start end after left begun closed same runs =
    let R : ℕ → Type 0 = λ z. RunsOn declared start given e.taking z end given_after e.taking_after in
    mounted start end begun (subst R (sym same) runs) (left ∙ ap (λ (z : Stored). Some z) closed)

pub not_run_so : (declared : List ActorDecl) (given : Given) (e : Ends) (status said : ℕ) (trouble : MountTrouble) (after : Stored) → e.stored_after ≡ Some after → FailsToMount e.stored trouble after → e.taking_after ≡ e.taking → status ≡ said → said ≡ unmounted_status trouble
    → Runs declared given given e status
not_run_so declared given e status said trouble after left fails untaken same is = unmounted trouble after fails left refl untaken (same ∙ is)

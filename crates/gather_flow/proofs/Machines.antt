-- The machines of a gathering, one after the other.
use Rattle.std.proofs.Common.{◌≡◌, ◌≤◌, ◌<◌, ℕ, ◌+◌, ◌-◌, ◌*◌, ◌^◌, arith, List, Some, None, Result, sym, ap, ◌∙◌}
use Rattle.mount_model.specs.declared.stuck.Stuck.{Stuck}
use Rattle.mount_model.specs.Standing.{next_of, rest_of}
use Rattle.mount_model.specs.FlowReplies.{on_ok}
use Rattle.mount_model.specs.declared.call.Call.{Call}
use Rattle.mount_model.specs.Step.{OwedBy}
use Rattle.index_reader.specs.declared.listing.Listing.{Listing}
use Rattle.index_reader.specs.declared.sharing.Share.{Share}
use Rattle.index_reader.specs.declared.sharing.ShareRead.{ShareRead}
use Rattle.index_reader.specs.declared.truncs.TruncRead.{TruncRead}
use Rattle.index_reader.specs.Stages.{share_standing, share_left}
use Rattle.index_reader.specs.TruncStages.{trunc_standing, trunc_left}
use Rattle.gather_flow.specs.declared.all_read.AllRead.{AllRead}
use Rattle.gather_flow.specs.declared.gathering.Gathering.{Gathering}
use Rattle.gather_flow.specs.declared.gathering.Gathering.TheVariants.{Shares, Truncs}
use Rattle.gather_flow.specs.declared.gathering.Tried.TheVariants as tried
use Rattle.gather_flow.specs.declared.gathering.Called.TheVariants as called
use Rattle.gather_flow.specs.Gathering.{if_truncs_listed, after_share, gather_standing, gather_left, share_bound, shares_bound}
use Rattle.gather_flow.specs.Called.{IsTried, IsCalled}
use Rattle.mount_model.proofs.Flows.Composing.{asks_then, through, same_then}
use Rattle.gather_flow.proofs.Throughs.{rests_then}

-- ---- the machine at work

pub share_asks : (old new : ShareRead) (listed : Listing) (workers worker : ℕ) (sofar : List Share) (call : Call)
    → Some call ≡ next_of (share_standing old) → rest_of (share_standing new) ≡ rest_of (share_standing old) → OwedBy call → share_left new ≡ share_left old
    → IsTried (Shares old listed workers worker sofar) (tried.Asks call (Shares new listed workers worker sofar))
share_asks old new listed workers worker sofar call some same owed left = (
  asks_then (after_share workers listed worker sofar) (share_standing old) call some,
  rests_then (share_standing old) (share_standing new) (after_share workers listed worker sofar) call some same,
  owed,
  omega (arith, left),
)

pub share_through : (old new : ShareRead) (listed : Listing) (workers worker : ℕ) (sofar : List Share)
    → None ≡ next_of (share_standing old) → rest_of (share_standing new) ≡ rest_of (share_standing old) → share_left new ≡ share_left old
    → IsTried (Shares old listed workers worker sofar) (tried.Through (Shares new listed workers worker sofar))
share_through old new listed workers worker sofar none same left =
    let is = through (share_standing old) (share_standing new) tt none same in
    (is, same_then (after_share workers listed worker sofar) (share_standing old) (share_standing new) same is, omega (arith, left), omega arith)

pub trunc_asks : (old new : TruncRead) (listed : Listing) (shares : List Share) (call : Call)
    → Some call ≡ next_of (trunc_standing old) → rest_of (trunc_standing new) ≡ rest_of (trunc_standing old) → OwedBy call → trunc_left new ≡ trunc_left old
    → IsTried (Truncs old listed shares) (tried.Asks call (Truncs new listed shares))
trunc_asks old new listed shares call some same owed left = (
  asks_then (on_ok (if_truncs_listed listed shares)) (trunc_standing old) call some,
  rests_then (trunc_standing old) (trunc_standing new) (on_ok (if_truncs_listed listed shares)) call some same,
  owed,
  omega (arith, left),
)

pub trunc_through : (old new : TruncRead) (listed : Listing) (shares : List Share)
    → None ≡ next_of (trunc_standing old) → rest_of (trunc_standing new) ≡ rest_of (trunc_standing old) → trunc_left new ≡ trunc_left old
    → IsTried (Truncs old listed shares) (tried.Through (Truncs new listed shares))
trunc_through old new listed shares none same left =
    let is = through (trunc_standing old) (trunc_standing new) tt none same in
    (is, same_then (on_ok (if_truncs_listed listed shares)) (trunc_standing old) (trunc_standing new) same is, omega (arith, left), omega arith)

-- ---- the machines one after the other

pub called_asks : (old mid new : Gathering) (call : Call) → gather_standing mid ≡ gather_standing old → gather_left mid ≤ gather_left old
    → IsTried mid (tried.Asks call new) → IsCalled old (called.Asks call new)
called_asks old mid new call same fewer is = (is.0 ∙ ap (λ s. next_of s) same, is.1 ∙ ap (λ s. rest_of s) same, is.2, omega (arith, fewer, is.3))

pub called_over : (old mid : Gathering) (made : Result AllRead Stuck) → gather_standing mid ≡ gather_standing old
    → IsTried mid (tried.Over made) → IsCalled old (called.Over made)
called_over old mid made same is = sym same ∙ is

-- so many calls are left of a share of so many droppings
pub few_calls : (left count : ℕ) → count ≤ 2 ^ 64 → left ≤ count * (2 ^ 64 + 3) → left ≤ share_bound
few_calls left count few bound = omega (arith, few, bound)

-- so many calls are left where one share more is to come
pub one_share : (workers worker left : ℕ) → worker < workers → left ≤ share_bound
    → left + shares_bound (workers - (worker + 1)) ≤ shares_bound (workers - worker)
one_share workers worker left lt most =
    let e : workers - worker ≡ (workers - (worker + 1)) + 1 = omega arith in
    let more : (workers - worker) * share_bound ≡ (workers - (worker + 1)) * share_bound + share_bound = omega (arith, e) in
    omega (arith, most, more)

-- Where the shares and the truncates of a container that is gathered stand.
use Rattle.std.specs.Prelude.{ℕ, ◌+◌, ◌-◌, ◌*◌, ◌^◌, List, [], ◌∷◌, ◌++◌, Result, Ok, Err}
use Rattle.plfs_types.specs.declared.entries.Trunc.{Trunc}
use Rattle.mount_model.specs.Program.{done, followed_by}
use Rattle.mount_model.specs.declared.stuck.Stuck.{Stuck}
use Rattle.mount_model.specs.declared.stuck.Stuck.TheVariants.{Fault}
use Rattle.mount_model.specs.Standing.{Standing, ready, Rest, over, awaits, rest_of, IsOver, Awaits}
use Rattle.mount_model.specs.Composed.{then_on}
use Rattle.mount_model.specs.FlowReplies.{Tries, on_ok}
use Rattle.mount_model.specs.declared.call.Call.{Call}
use Rattle.mount_model.specs.declared.reply.Reply.{Reply}
use Rattle.index_reader.specs.declared.listing.Listing.{Listing}
use Rattle.index_reader.specs.declared.sharing.Share.{Share}
use Rattle.index_reader.specs.Stages.{share_standing, share_left}
use Rattle.index_reader.specs.Truncs.{trunc_program}
use Rattle.index_reader.specs.TruncStages.{trunc_standing, trunc_left}
use Rattle.gather_flow.specs.declared.all_read.AllRead.{AllRead}
use Rattle.gather_flow.specs.declared.gathering.Gathering.{Gathering}
use Rattle.gather_flow.specs.declared.gathering.Gathering.TheVariants.{Shares, Truncs, Ended}
use Rattle.gather_flow.specs.Shares.{by_itself, programs_from}

-- what follows the reply to a machine's call; without a call nothing does
abbrev pub call_then : {R S : Type 0} → Rest Call Reply R → (R → Tries S) → Rest Call Reply (Result S Stuck)
call_then (over result) next = over (Err Fault)
call_then (awaits k) next = awaits (λ reply. followed_by (k reply) next)

-- once the truncates are listed
abbrev pub if_truncs_listed : Listing → List Share → List Trunc → Tries AllRead
if_truncs_listed listing shares truncs = done (Ok (record { listed = listing; shares = shares; truncs = truncs }))

-- the truncates are listed behind the shares
abbrev pub reads_truncs : Listing → List Share → Tries AllRead
reads_truncs listing shares = followed_by (trunc_program listing.room) (on_ok (if_truncs_listed listing shares))

-- the shares from this worker's on, behind those so far, and then the truncates
abbrev pub shares_from : ℕ → Listing → ℕ → List Share → Tries AllRead
shares_from workers listing worker sofar = by_itself (programs_from workers listing worker) sofar (reads_truncs listing)

-- with one share more
abbrev pub after_share : ℕ → Listing → ℕ → List Share → Result Share Stuck → Tries AllRead
after_share workers listing worker sofar = on_ok (λ share. shares_from workers listing worker (sofar ++ share ∷ []))

abbrev pub gather_standing : Gathering → Standing Call Reply (Result AllRead Stuck)
gather_standing (Shares flow listed workers worker sofar) = then_on (share_standing flow) (after_share workers listed worker sofar)
gather_standing (Truncs flow listed shares) = then_on (trunc_standing flow) (on_ok (if_truncs_listed listed shares))
gather_standing (Ended result) = ready (done result)

-- what follows the reply to the call that is out
abbrev pub gather_rest : Gathering → Rest Call Reply (Result AllRead Stuck)
gather_rest (Shares flow listed workers worker sofar) = call_then (rest_of (share_standing flow)) (after_share workers listed worker sofar)
gather_rest (Truncs flow listed shares) = call_then (rest_of (trunc_standing flow)) (on_ok (if_truncs_listed listed shares))
gather_rest (Ended result) = over result

-- the machine at work has no further call
abbrev pub IsThrough : Gathering → Type 0
IsThrough (Shares flow listed workers worker sofar) = IsOver (rest_of (share_standing flow))
IsThrough (Truncs flow listed shares) = IsOver (rest_of (trunc_standing flow))
IsThrough (Ended result) = ⊥

-- the call of the machine at work is out
abbrev pub IsCalling : Gathering → Type 0
IsCalling (Shares flow listed workers worker sofar) = Awaits (rest_of (share_standing flow))
IsCalling (Truncs flow listed shares) = Awaits (rest_of (trunc_standing flow))
IsCalling (Ended result) = ⊥

-- how many machines are to come, with the one at work
abbrev pub machines_left : Gathering → ℕ
machines_left (Shares flow listed workers worker sofar) = 2 + (workers - worker)
machines_left (Truncs flow listed shares) = 1
machines_left (Ended result) = 0

-- bounds on the calls that are left: of a share, of so many shares and the truncates, and of all
abbrev pub share_bound : ℕ
share_bound = 2 ^ 64 * (2 ^ 64 + 3) + 1

abbrev pub shares_bound : ℕ → ℕ
shares_bound count = count * share_bound + 1

abbrev pub gather_left : Gathering → ℕ
gather_left (Shares flow listed workers worker sofar) = share_left flow + shares_bound (workers - worker)
gather_left (Truncs flow listed shares) = trunc_left flow
gather_left (Ended result) = 0

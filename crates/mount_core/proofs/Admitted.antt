-- A call whose writer, holder or flattening did not come into the table, seen as a state's.
use Rattle.std.proofs.Common.{◌≡◌, ℕ, ◌<◌, ◌^◌, List, Option, Some, None, Err, refl, ap, sym, subst, inl, inr, ◌∙◌}
use Rattle.std.specs.Prelude.{MatchOption}
use Rattle.store_api.specs.declared.store.Trouble.TheVariants as trouble
use Rattle.store_api.specs.Acts.{Stored}
use Rattle.mount_model.specs.declared.row.Making.{Making}
use Rattle.mount_model.specs.declared.row.Making.TheVariants as making
use Rattle.mount_model.specs.declared.reply.Refusal.{Refusal}
use Rattle.mount_model.specs.declared.reply.Reply.{Reply}
use Rattle.mount_model.specs.declared.reply.Reply.TheVariants.{NoMemory}
use Rattle.mount_model.specs.Making.{Refuses, UnlessRefused}
use Rattle.mount_model.specs.State.{State, Table, drawn}
use Rattle.mount_model.specs.Entering.{draw_check, EntersAs, Enters}
use Rattle.mount_model.specs.Holding.{HoldsRoom, HoldsContainer}
use Rattle.mount_model.specs.Flattening.{Starts, StartsPackOf, StartsPack}
use Rattle.mount_model.specs.Recovering.{IsHostAndWriter}
use Rattle.mount_table.specs.Roll.{Roll, state_of}
use Rattle.mount_table.specs.Admitting.{IsTurnedAway}

-- the reason is told, or memory was wanted once the serial was drawn
by_reason : (store opened : Stored) (times : Option (List ℕ)) (room : ℕ) (old new : Roll) (reply : Reply) (does : Type 0) → IsTurnedAway room old reply new
    → (draw_check (state_of store opened times old) room ≡ None → (reply ≡ NoMemory) → (state_of store opened times new ≡ drawn (state_of store opened times old)) → does)
    → MatchOption (draw_check (state_of store opened times old) room) does (λ why. Refuses why (state_of store opened times old) reply (state_of store opened times new))
by_reason store opened times room old new reply does (inl (why, check, is, same)) wants =
    subst (λ (o : Option Refusal). MatchOption o does (λ because. Refuses because (state_of store opened times old) reply (state_of store opened times new))) (sym check)
    (is, ap (λ (r : Roll). state_of store opened times r) same)
by_reason store opened times room old new reply does (inr (none, is, left)) wants =
    subst (λ (o : Option Refusal). MatchOption o does (λ because. Refuses because (state_of store opened times old) reply (state_of store opened times new))) (sym none)
    (wants none is (ap (λ (r : Roll). state_of store opened times r) left))

pub turned_away : (caller room host capacity : ℕ) (store opened : Stored) (times : Option (List ℕ)) (old new : Roll) (reply : Reply) → host < 2 ^ 32 → IsTurnedAway room old reply new → Enters caller room host capacity (state_of store opened times old) reply (state_of store opened times new)
turned_away caller room host capacity store opened times old new reply fits t =
    by_reason store opened times room old new reply (EntersAs caller room host capacity (state_of store opened times old) reply (state_of store opened times new)) t
    (λ none is left. record { host_fits = fits; makes = record { told = Err trouble.NoMemory; made = refl; answered = is; after = left } })

pub not_held : (caller room : ℕ) (store opened : Stored) (times : Option (List ℕ)) (old new : Roll) (reply : Reply) → IsTurnedAway room old reply new → HoldsContainer caller room (state_of store opened times old) reply (state_of store opened times new)
not_held caller room store opened times old new reply t =
    by_reason store opened times room old new reply (HoldsRoom caller room (state_of store opened times old) reply (state_of store opened times new)) t
    (λ none is left.
    let same : new.table ≡ old.table = ap (λ (s : State). s.table) left in
    record {
      told = Err trouble.NoMemory;
      made = refl;
      outcome = (is, same);
      after = left ∙ ap (λ (t : Table). record (drawn (state_of store opened times old)) { table = t }) (sym same);
    })

pub not_started : (caller room : ℕ) (makes : Making) (store opened : Stored) (times : Option (List ℕ)) (old new : Roll) (reply : Reply) → IsTurnedAway room old reply new
    → UnlessRefused (draw_check (state_of store opened times old) room) (state_of store opened times old) reply (state_of store opened times new) (Starts caller room makes (state_of store opened times old) reply (state_of store opened times new))
not_started caller room makes store opened times old new reply t =
    by_reason store opened times room old new reply (Starts caller room makes (state_of store opened times old) reply (state_of store opened times new)) t
    (λ none is left. record { told = Err trouble.NoMemory; made = refl; answered = is; after = left })

reads_as : {A : Type 0} (found : Option A) (P R : Type 0) (Q : A → Type 0) → (P → R) → MatchOption found P Q → MatchOption found R Q
reads_as None P R Q reads m = reads m
reads_as (Some x) P R Q reads m = m

-- a flattening that packs an index dropping was begun as one of a writer of this host
pub pack_started : (caller room host writer : ℕ) (old : State) (reply : Reply) (new : State) → IsHostAndWriter host writer → UnlessRefused (draw_check old room) old reply new (Starts caller room (making.Pack host writer) old reply new)
    → StartsPack caller room host writer old reply new
pack_started caller room host writer old reply new named started =
    reads_as (draw_check old room) (Starts caller room (making.Pack host writer) old reply new) (StartsPackOf caller room host writer old reply new) (λ why. Refuses why old reply new)
    (λ makes. record { named = named; makes = makes }) started

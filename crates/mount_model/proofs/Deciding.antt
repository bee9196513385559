-- What it says that a call was not refused.
use Rattle.std.proofs.Common.{◌≡◌, ℕ, ◌+◌, ◌-◌, ◌<◌, ◌≤◌, ◌^◌, List, length, Bool, true, false, nat_eq, nat_le, nat_lt, ◌||◌, ◌&&◌, Option, Some, None, refl, ◌⊎◌, inl, inr, subst, arith, if◌then◌else◌}
use Rattle.std.specs.Prelude.{MatchOption}
use Rattle.std.specs.List.{All}
use Rattle.std.proofs.lemmas.Bool.Decides.{nat_tests}
use Rattle.plfs_types.specs.declared.limits.TheConstants.{MAX_SIZE, MAX_STAMP}
use Rattle.mount_model.specs.declared.call.Ask.{Ask}
use Rattle.mount_model.specs.declared.row.Row.{Row}
use Rattle.mount_model.specs.declared.row.Stage.{Stage}
use Rattle.mount_model.specs.declared.row.Stage.TheVariants as stage
use Rattle.mount_model.specs.declared.row.Holder.{Holder}
use Rattle.mount_model.specs.declared.row.Flattening.{Flattening}
use Rattle.mount_model.specs.declared.row.FlatStage.{FlatStage}
use Rattle.mount_model.specs.declared.row.FlatStage.TheVariants.{Begun, Put, Synced}
use Rattle.mount_model.specs.declared.reply.Refusal.{Refusal}
use Rattle.mount_model.specs.declared.reply.Reply.{Reply}
use Rattle.mount_model.specs.State.{State}
use Rattle.mount_model.specs.Table.{row_of, rank, only, is_live, held_by, writer_of, holder_at, its_hold, holder_of, is_held_room, flattening_at, flat_rank, its_flattening, flattening_of}
use Rattle.mount_model.specs.Entering.{serial_check, draw_check}
use Rattle.mount_model.specs.Writing.{write_check}
use Rattle.mount_model.specs.Holding.{OnHolder, truncate_check}
use Rattle.mount_model.specs.Flattening.{OnFlattening}
use Rattle.mount_model.specs.Recovering.{live_reason, alive_check, mend_check, held_reason, mend_hold_check}
use Rattle.mount_model.specs.Making.{room_check, or_reason, OnWriter, UnlessRefused}
use Rattle.mount_model.specs.Stopping.{Stops}
use Rattle.mount_model.specs.Step.{Answers, IsStep}
use Rattle.mount_model.proofs.Tables.{alike, apart, row_of_id}
use Rattle.mount_model.proofs.Holders.{holder_at_number, flattening_at_id, not_held}

-- ---- the caller's writer

-- the caller has this row, in one of these stages
pub record IsHeld (caller : ℕ) (stages : Stage → Bool) (id : ℕ) (rows : List Row) (row : Row) : Type 0 where
  pub found : row_of id rows ≡ Some row
  pub is : row.id ≡ id
  pub owned : row.owner ≡ caller
  pub staged : stages row.stage ≡ true

both : {A : Type 0} (a b : Bool) (x y : A) → (if a && b then Some x else None) ≡ Some y → (a ≡ true) × (b ≡ true) × (x ≡ y)
both true true x y e = (refl, refl, cc)
both true false x y e = absurd (cc)
both false b x y e = absurd (cc)

held_row : (caller : ℕ) (stages : Stage → Bool) (found : Option Row) (row : Row) → held_by caller stages found ≡ Some row → (found ≡ Some row) × (row.owner ≡ caller) × (stages row.stage ≡ true)
held_row caller stages None row e = absurd (cc)
held_row caller stages (Some x) row e =
    let is = both (nat_eq x.owner caller) (stages x.stage) x row e in
    let same : x ≡ row = is.2 in
    (cc, subst (λ (r : Row). r.owner ≡ caller) same (alike x.owner caller is.0), subst (λ (r : Row). stages r.stage ≡ true) same is.1)

pub is_held : (caller : ℕ) (stages : Stage → Bool) (id : ℕ) (rows : List Row) (row : Row) → writer_of caller stages id rows ≡ Some row → IsHeld caller stages id rows row
is_held caller stages id rows row e =
    let h = held_row caller stages (row_of id rows) row e in
    record { found = h.0; is = row_of_id id rows row h.0; owned = h.1; staged = h.2 }

-- one stage
pub at_only : (wanted stage : Stage) → only wanted stage ≡ true → rank stage ≡ rank wanted
at_only wanted stage t = alike (rank stage) (rank wanted) t

-- ---- what the caller holds, and flattens

-- the caller has this hold
pub record IsHolding (caller number : ℕ) (holders : List Holder) (h : Holder) : Type 0 where
  pub found : holder_at number holders ≡ Some h
  pub is : h.number ≡ number
  pub owned : h.owner ≡ caller

one : {A : Type 0} (a : Bool) (x y : A) → (if a then Some x else None) ≡ Some y → (a ≡ true) × (x ≡ y)
one true x y e = (refl, cc)
one false x y e = absurd (cc)

its_hold_is : (caller : ℕ) (found : Option Holder) (h : Holder) → its_hold caller found ≡ Some h → (found ≡ Some h) × (h.owner ≡ caller)
its_hold_is caller None h e = absurd (cc)
its_hold_is caller (Some x) h e =
    let is = one (nat_eq x.owner caller) x h e in
    let same : x ≡ h = is.1 in
    (cc, subst (λ (y : Holder). y.owner ≡ caller) same (alike x.owner caller is.0))

pub is_holding : (caller number : ℕ) (holders : List Holder) (h : Holder) → holder_of caller number holders ≡ Some h → IsHolding caller number holders h
is_holding caller number holders h e =
    let is = its_hold_is caller (holder_at number holders) h e in
    record { found = is.0; is = holder_at_number number holders h is.0; owned = is.1 }

-- the caller has this flattening under way, in this stage
pub record IsUnderway (caller : ℕ) (stage : FlatStage) (id : ℕ) (flattenings : List Flattening) (f : Flattening) : Type 0 where
  pub found : flattening_at id flattenings ≡ Some f
  pub is : f.id ≡ id
  pub owned : f.owner ≡ caller
  pub staged : f.stage ≡ stage

same_stage : (a b : FlatStage) → flat_rank a ≡ flat_rank b → a ≡ b
same_stage Begun Begun e = refl
same_stage Begun Put e = absurd (omega (arith, e))
same_stage Begun Synced e = absurd (omega (arith, e))
same_stage Put Begun e = absurd (omega (arith, e))
same_stage Put Put e = refl
same_stage Put Synced e = absurd (omega (arith, e))
same_stage Synced Begun e = absurd (omega (arith, e))
same_stage Synced Put e = absurd (omega (arith, e))
same_stage Synced Synced e = refl

its_flattening_is : (caller : ℕ) (stage : FlatStage) (found : Option Flattening) (f : Flattening) → its_flattening caller stage found ≡ Some f
    → (found ≡ Some f) × (f.owner ≡ caller) × (f.stage ≡ stage)
its_flattening_is caller stage None f e = absurd (cc)
its_flattening_is caller stage (Some x) f e =
    let is = both (nat_eq x.owner caller) (nat_eq (flat_rank x.stage) (flat_rank stage)) x f e in
    let same : x ≡ f = is.2 in (
      cc,
      subst (λ (y : Flattening). y.owner ≡ caller) same (alike x.owner caller is.0),
      subst (λ (y : Flattening). y.stage ≡ stage) same (same_stage x.stage stage (alike (flat_rank x.stage) (flat_rank stage) is.1)),
    )

pub is_underway : (caller : ℕ) (stage : FlatStage) (id : ℕ) (flattenings : List Flattening) (f : Flattening) → flattening_of caller stage id flattenings ≡ Some f
    → IsUnderway caller stage id flattenings f
is_underway caller stage id flattenings f e =
    let is = its_flattening_is caller stage (flattening_at id flattenings) f e in
    record { found = is.0; is = flattening_at_id id flattenings f is.0; owned = is.1; staged = is.2 }

-- ---- refused, or not

-- the cases of a match on an option
pub match_cases : {A : Type 0} (o : Option A) (P : Type 0) (Q : A → Type 0) → MatchOption o P Q → ((o ≡ None) × P) ⊎ ((x : A) × (o ≡ Some x) × Q x)
match_cases None P Q m = inl (refl, m)
match_cases (Some x) P Q m = inr (x, refl, m)

-- a call on a writer changes nothing, or the caller has the writer
pub on_writer : (caller : ℕ) (stages : Stage → Bool) (id : ℕ) (old : State) (reply : Reply) (new : State) (does : Row → Type 0) (R : Type 0)
    → OnWriter caller stages id old reply new does
    → (new ≡ old → R) → ((row : Row) → IsHeld caller stages id old.table.writers row → does row → R) → R
on_writer caller stages id old reply new does R on same held = elim (match_cases (writer_of caller stages id old.table.writers) _ _ on) as (λ _. R) [
  | inl (none, refused) ↦ same refused.1
  | inr (row, is, made) ↦ held row (is_held caller stages id old.table.writers row is) made
]

-- a call on a hold changes nothing, or the caller has the hold
pub on_holder : (caller number : ℕ) (old : State) (reply : Reply) (new : State) (does : Holder → Type 0) (R : Type 0)
    → OnHolder caller number old reply new does
    → (new ≡ old → R) → ((h : Holder) → IsHolding caller number old.table.holders h → does h → R) → R
on_holder caller number old reply new does R on same held = elim (match_cases (holder_of caller number old.table.holders) _ _ on) as (λ _. R) [
  | inl (none, refused) ↦ same refused.1
  | inr (h, is, made) ↦ held h (is_holding caller number old.table.holders h is) made
]

-- a call on a flattening changes nothing, or the caller has the flattening in this stage
pub on_flattening : (caller : ℕ) (stage : FlatStage) (id : ℕ) (old : State) (reply : Reply) (new : State) (does : Flattening → Type 0) (R : Type 0)
    → OnFlattening caller stage id old reply new does
    → (new ≡ old → R) → ((f : Flattening) → IsUnderway caller stage id old.table.flattenings f → does f → R) → R
on_flattening caller stage id old reply new does R on same held = elim (match_cases (flattening_of caller stage id old.table.flattenings) _ _ on) as (λ _. R) [
  | inl (none, refused) ↦ same refused.1
  | inr (f, is, made) ↦ held f (is_underway caller stage id old.table.flattenings f is) made
]

-- a call changes nothing, or its check has nothing against it
pub unless_refused : (check : Option Refusal) (old : State) (reply : Reply) (new : State) (does R : Type 0)
    → UnlessRefused check old reply new does
    → (new ≡ old → R) → (check ≡ None → does → R) → R
unless_refused check old reply new does R on same made = elim (match_cases check _ _ on) as (λ _. R) [
  | inl (none, does) ↦ made none does
  | inr (why, some, refused) ↦ same refused.1
]

-- ---- checks that have nothing against a call

unless : (b : Bool) (why : Refusal) (rest : Option Refusal) → (if b then Some why else rest) ≡ None → (b ≡ false) × (rest ≡ None)
unless true why rest e = absurd (cc)
unless false why rest e = (refl, e)

neither : (a b : Bool) → (a || b) ≡ false → (a ≡ false) × (b ≡ false)
neither true b e = absurd (cc)
neither false b e = (refl, e)

not_below : (a b : ℕ) → nat_lt a b ≡ false → b ≤ a
not_below a b t = grind (arith, nat_tests)

above : (a b : ℕ) → nat_le a b ≡ false → b < a
above a b t = grind (arith, nat_tests)

neither_reason : (first other : Option Refusal) → or_reason first other ≡ None → (first ≡ None) × (other ≡ None)
neither_reason None other e = (refl, e)
neither_reason (Some why) other e = absurd (cc)

-- the room is no marks' room
pub is_container : (old : State) (room : ℕ) → room_check old room ≡ None → room ≡ old.marks → ⊥
is_container old room e = apart room old.marks (unless (nat_eq room old.marks) _ _ e).0

-- the room is no marks' room, and there is a serial left
pub may_enter : (old : State) (room : ℕ) → draw_check old room ≡ None → (room ≡ old.marks → ⊥) × (old.serial < 2 ^ 32 - 1)
may_enter old room e =
    let parts = neither_reason (room_check old room) (serial_check old) e in
    let second = unless (nat_le (2 ^ 32 - 1) old.serial) _ _ parts.1 in
    (is_container old room parts.0, above (2 ^ 32 - 1) old.serial second.0)

-- a write that is not too far, may have a stamp, and has a place in the buffer
pub record MayWrite (row : Row) (at len : ℕ) : Type 0 where
  pub near : at + len ≤ 2 ^ 40
  pub few : row.stored + len ≤ 2 ^ 56
  pub last : row.last < 2 ^ 63 - 1
  pub floor : row.floor < 2 ^ 63 - 1
  pub free : length row.pending.entries < row.pending.capacity

pub may_write : (row : Row) (at len : ℕ) → write_check row at len ≡ None → MayWrite row at len
may_write row at len e =
    let far = unless (nat_lt (2 ^ 40) (at + len) || nat_lt (2 ^ 56) (row.stored + len)) _ _ e in
    let far_parts = neither (nat_lt (2 ^ 40) (at + len)) (nat_lt (2 ^ 56) (row.stored + len)) far.0 in
    let spent = unless (nat_le (2 ^ 63 - 1) row.last || nat_le (2 ^ 63 - 1) row.floor) _ _ far.1 in
    let spent_parts = neither (nat_le (2 ^ 63 - 1) row.last) (nat_le (2 ^ 63 - 1) row.floor) spent.0 in
    let full = unless (nat_le row.pending.capacity (length row.pending.entries)) _ _ spent.1 in
    record {
      near = not_below (2 ^ 40) (at + len) far_parts.0;
      few = not_below (2 ^ 56) (row.stored + len) far_parts.1;
      last = above (2 ^ 63 - 1) row.last spent_parts.0;
      floor = above (2 ^ 63 - 1) row.floor spent_parts.1;
      free = above row.pending.capacity (length row.pending.entries) full.0;
    }

-- a truncate that is not too far, and may have a stamp
pub record MayTruncate (size top : ℕ) : Type 0 where
  pub near : size ≤ MAX_SIZE
  pub stamp_left : top < MAX_STAMP

pub may_truncate : (size top : ℕ) → truncate_check size top ≡ None → MayTruncate size top
may_truncate size top e =
    let far = unless (nat_lt MAX_SIZE size) _ _ e in
    let spent = unless (nat_le MAX_STAMP top) _ _ far.1 in
    record { near = not_below MAX_SIZE size far.0; stamp_left = above MAX_STAMP top spent.0 }

-- a writer that isn't live is dead
pub is_dead : (at : Stage) → is_live at ≡ false → at ≡ stage.Dead
is_dead stage.Entered e = absurd (cc)
is_dead stage.Floored e = absurd (cc)
is_dead stage.Housed e = absurd (cc)
is_dead stage.Indexed e = absurd (cc)
is_dead stage.Open e = absurd (cc)
is_dead stage.Closing e = absurd (cc)
is_dead stage.Dead e = refl

no_live_row : (found : Option Row) (row : Row) → live_reason found ≡ None → found ≡ Some row → row.stage ≡ stage.Dead
no_live_row None row e is = absurd (cc)
no_live_row (Some x) row e is =
    let same : x ≡ row = cc in
    subst (λ (r : Row). r.stage ≡ stage.Dead) same (is_dead x.stage (unless (is_live x.stage) _ _ e).0)

-- the writer has no row, or it is dead
pub not_live : (old : State) (writer : ℕ) → alive_check old writer ≡ None → (row : Row) → row_of writer old.table.writers ≡ Some row → row.stage ≡ stage.Dead
not_live old writer e row found = no_live_row (row_of writer old.table.writers) row e found

-- the room is no marks' room, and the writer isn't live
pub may_mend : (old : State) (room writer : ℕ) → mend_check old room writer ≡ None
    → (room ≡ old.marks → ⊥) × ((row : Row) → row_of writer old.table.writers ≡ Some row → row.stage ≡ stage.Dead)
may_mend old room writer e =
    let parts = neither_reason (room_check old room) (alive_check old writer) e in
    (is_container old room parts.0, not_live old writer parts.1)

-- the room is no marks' room, and nobody holds it
pub may_mend_hold : (old : State) (room : ℕ) → mend_hold_check old room ≡ None → (room ≡ old.marks → ⊥) × All (λ (h : Holder). h.room ≡ room → ⊥) old.table.holders
may_mend_hold old room e =
    let parts = neither_reason (room_check old room) (held_reason room old.table.holders) e in
    (is_container old room parts.0, not_held room old.table.holders (unless (is_held_room room old.table.holders) _ _ parts.1).0)

-- ---- a step

-- a call is answered, or broken off
pub step_cases : (old : State) (caller : ℕ) (ask : Ask) (reply : Reply) (new : State) (R : Type 0) → IsStep old caller ask reply new
    → (ask.stop ≡ None → Answers old caller ask.call reply new → R) → ((k : ℕ) → ask.stop ≡ Some k → Stops caller k ask.call old reply new → R) → R
step_cases old caller ask reply new R step answered stopped = elim (match_cases ask.stop _ _ step.does) as (λ _. R) [
  | inl (none, a) ↦ answered none a
  | inr (k, some, s) ↦ stopped k some s
]

-- Which refusals the programs of a truncate and of a rename end in, whatever is answered.
use Rattle.std.proofs.Common.{◌≡◌, ◌⊎◌, ◌≤◌, ◌<◌, inl, inr, ℕ, max, Bool, true, false, nat_le, nat_lt, List, [], ◌∷◌, ◌++◌, Option, Some, None, Result, Ok, Err, refl, sym, ap, ◌∙◌, subst, arith, if◌then◌else◌}
use Rattle.std.specs.Prelude.{◌==◌, ◌-◌, ◌^◌}
use Rattle.std.proofs.lemmas.Bool.Decides.{nat_tests}
use Rattle.plfs_types.specs.declared.entries.Trunc.{Trunc}
use Rattle.plfs_types.specs.declared.limits.TheConstants.{MAX_SIZE, MAX_STAMP}
use Rattle.store_api.specs.declared.step.Answer.TheVariants.{Names}
use Rattle.mount_model.specs.Program.{ask}
use Rattle.mount_model.specs.declared.call.Call.TheVariants.{Find, Hold, Look, Mark, Move}
use Rattle.mount_model.specs.declared.call.Look.TheVariants.{List as ListFolder}
use Rattle.mount_model.specs.declared.reply.Refusal.{Refusal}
use Rattle.mount_model.specs.declared.reply.Refusal.TheVariants as refusal
use Rattle.mount_model.specs.declared.reply.Reply.{Reply}
use Rattle.mount_model.specs.declared.reply.Reply.TheVariants as reply
use Rattle.mount_model.specs.declared.row.Holder.{Holder}
use Rattle.mount_model.specs.Entering.{draw_check}
use Rattle.mount_model.specs.Holding.{HoldsRoom, holding, truncate_check}
use Rattle.mount_model.specs.Making.{Refuses, or_reason}
use Rattle.mount_model.specs.Paths.{Name, metadata, truncs}
use Rattle.mount_model.specs.State.{State}
use Rattle.mount_model.specs.Table.{holder_at, holder_of}
use Rattle.mount_model.proofs.Facts.{answers_turn, holder_at-push, match_cases, next_not_held}
use Rattle.mount_model.specs.declared.stuck.Stuck.{Stuck}
use Rattle.mount_model.specs.declared.names.Metadata.{Metadata}
use Rattle.mount_model.specs.FlowListed.{known, told_by}
use Rattle.mount_model.specs.Names.{meta_in, trunc_in}
use Rattle.mount_model.specs.FlowReplies.{Tries, failure, given, room_in}
use Rattle.trunc_rename.specs.Holding.{holder_in, holds, lets_go, or_lets_go, released}
use Rattle.trunc_rename.specs.Renaming.{moved, moves, rename_program}
use Rattle.trunc_rename.specs.Tops.{metadata_top, truncs_top}
use Rattle.trunc_rename.specs.Truncating.{lists_metadata, lists_truncs, marked, marks, truncate_program}
use Rattle.reader_laws.specs.Moments.{Moment}
use Rattle.headline_laws.proofs.Makers.Holding.{holder_found, pushed}
use Rattle.headline_laws.proofs.Reasons.Goes.{EndsSo, Fact, Goes, IsSo, IsTroubleSo, Stepped, anything, held}

-- ---- what the calls are refused for

-- a container that was sought is not there, or no id is left
drawn_so : (marks spent : Bool) (why : Refusal) → or_reason (if marks then Some refusal.NoRoom else None) (if spent then Some refusal.IdsSpent else None) ≡ Some why → (why ≡ refusal.NoRoom) ⊎ (why ≡ refusal.IdsSpent)
drawn_so true spent why is = inl (let same : refusal.NoRoom ≡ why = cc in sym same)
drawn_so false true why is = inr (let same : refusal.IdsSpent ≡ why = cc in sym same)
drawn_so false false why is = absurd (cc)

pub draw_so : (old : State) (room : ℕ) (why : Refusal) → draw_check old room ≡ Some why → (why ≡ refusal.NoRoom) ⊎ (why ≡ refusal.IdsSpent)
draw_so old room why is = drawn_so (room == old.marks) (nat_le (2 ^ 32 - 1) old.serial) why is

pub roomed_so : (marks : Bool) (why : Refusal) → (if marks then Some refusal.NoRoom else None) ≡ Some why → why ≡ refusal.NoRoom
roomed_so true why is = (let same : refusal.NoRoom ≡ why = cc in sym same)
roomed_so false why is = absurd (cc)

pub failure_so : (fine : Refusal → Type 0) (rep : Reply) → ((why : Refusal) → rep ≡ reply.Refused why → fine why) → IsTroubleSo fine (failure rep)
failure_so fine (reply.Refused why) each = each why refl
failure_so fine (reply.Damaged folder file) each = tt
failure_so fine rep each = tt

-- what a truncate and a rename are refused for alike
pub record AreHolds (fine : Refusal → Type 0) : Type 0 where
  pub none : fine refusal.NoRoom
  pub shut : fine refusal.Held
  pub busy : (host writer : ℕ) → fine (refusal.Busy host writer)
  pub spent : fine refusal.IdsSpent

module _ (n : ℕ) (fine : Refusal → Type 0) (are : AreHolds fine) where
  abbrev Fine : Reply → Type 0
  Fine rep = (why : Refusal) → rep ≡ reply.Refused why → fine why

  find_fine : (name : Name) (m next : Moment) (rep : Reply) → Stepped n m (Find name) rep next → Fine rep
  find_fine name m next rep s why is = subst fine (sym (s.reason why is).0) are.none

  look_fine : (room : ℕ) (folder : Name) (m next : Moment) (rep : Reply) → Stepped n m (Look room (ListFolder folder)) rep next → Fine rep
  look_fine room folder m next rep s why is = elim (s.reason why is) as (λ _. fine why) [
    | inl check ↦ subst fine (sym (roomed_so (room == m.state.marks) why check)) are.none
    | inr lacks ↦ subst fine (sym lacks.0) are.none
  ]

  hold_fine : (room : ℕ) (m next : Moment) (rep : Reply) → Stepped n m (Hold room) rep next → Fine rep
  hold_fine room m next rep s why is = elim (s.reason why is) as (λ _. fine why) [
    | inl check ↦ elim (draw_so m.state room why check) as (λ _. fine why) [
      | inl none ↦ subst fine (sym none) are.none
      | inr spent ↦ subst fine (sym spent) are.spent
    ]
    | inr (inl lacks) ↦ subst fine (sym lacks.0) are.none
    | inr (inr (inl shut)) ↦ subst fine (sym shut.0) are.shut
    | inr (inr (inr (host, writer, busy, shows))) ↦ subst fine (sym busy) (are.busy host writer)
  ]

  -- ---- what a caller has

  -- a hold that was granted is its own
  granted : (room holder : ℕ) (m next : Moment) → Stepped n m (Hold room) (reply.Holding holder) next → IsSo n (held holder) next
  granted room holder m next s =
      let mine : Holder = holding m.state n room in
      elim (match_cases (draw_check m.state room) (HoldsRoom n room m.state (reply.Holding holder) next.state) (λ why. Refuses why m.state (reply.Holding holder) next.state) s.answers) as (λ _. IsSo n (held holder) next) [
        | inr (why, some, refused) ↦ absurd (let clash : reply.Holding holder ≡ reply.Refused why = refused.0 in cc)
        | inl (none, does) ↦
            let p = pushed mine m.state.table does.told holder next.state.table does.outcome in
            let found : holder_at holder next.state.table.holders ≡ Some mine = ap (holder_at holder) p.1 ∙ ap (λ k. holder_at k (m.state.table.holders ++ mine ∷ [])) p.0 ∙ holder_at-push m.state.table.holders mine (next_not_held m.state.mount m.state.serial m.state.marks m.state.table.holders s.sound.regular.holders) in
            (mine, holder_found n holder next.state.table.holders mine found refl)
      ]

  same_hold : (holder : ℕ) (m next : Moment) → next.state.table.holders ≡ m.state.table.holders → IsSo n (held holder) m → IsSo n (held holder) next
  same_hold holder m next same (h, has) = (h, ap (holder_of n holder) same ∙ has)

  looked_on : (holder room : ℕ) (folder : Name) (m next : Moment) (rep : Reply) → Stepped n m (Look room (ListFolder folder)) rep next → IsSo n (held holder) m → IsSo n (held holder) next
  looked_on holder room folder m next rep s so = elim (answers_turn m.state n (Look room (ListFolder folder)) rep next.state s.answers).holders as (λ _. IsSo n (held holder) next) [
    | inl same ↦ same_hold holder m next same so
    | inr made ↦ absurd made
  ]

  marked_on : (holder size top : ℕ) (m next : Moment) (rep : Reply) → Stepped n m (Mark holder size top) rep next → IsSo n (held holder) m → IsSo n (held holder) next
  marked_on holder size top m next rep s so = elim (answers_turn m.state n (Mark holder size top) rep next.state s.answers).holders as (λ _. IsSo n (held holder) next) [
    | inl same ↦ same_hold holder m next same so
    | inr made ↦ absurd made
  ]

  moved_on : (holder : ℕ) (to : Name) (m next : Moment) (rep : Reply) → Stepped n m (Move holder to) rep next → IsSo n (held holder) m → IsSo n (held holder) next
  moved_on holder to m next rep s so = elim (answers_turn m.state n (Move holder to) rep next.state s.answers).holders as (λ _. IsSo n (held holder) next) [
    | inl same ↦ same_hold holder m next same so
    | inr made ↦ absurd made
  ]

  has_hold : (holder : ℕ) (m : Moment) → IsSo n (held holder) m → holder_of n holder m.state.table.holders ≡ None → ⊥
  has_hold holder m (h, has) none = let clash : Some h ≡ None = sym has ∙ none in cc

  -- ---- programs that hold

  module _ {R : Type 0} (good : R → Type 0) where
    abbrev Ends : Result R Stuck → Type 0
    Ends = EndsSo good fine

    released_so : (result : Result R Stuck) (rep : Reply) → Ends result → ((why : Refusal) → rep ≡ reply.Refused why → ⊥) → Ends (released result rep)
    released_so (Err why) rep was never = was
    released_so (Ok r) reply.Done was never = was
    released_so (Ok r) rep was never = failure_so fine rep (λ why is. absurd (never why is))

    let_go : (holder : ℕ) (result : Result R Stuck) → Ends result → Goes n Ends (held holder) (lets_go holder result)
    let_go holder result was = λ m next rep s so. (anything, tt, released_so result rep was (λ why is. has_hold holder m so (s.reason why is).1))

    or_let_go : {A : Type 0} (of : A → Type 0) (holder : ℕ) (program : A → Tries R) (result : Result A Stuck) → EndsSo of fine result → ((a : A) → Goes n Ends (held holder) (program a)) → Goes n Ends (held holder) (or_lets_go holder program result)
    or_let_go of holder program (Ok a) was on = on a
    or_let_go of holder program (Err why) was on = let_go holder (Err why) was

    -- it found the container and held it
    held_goes : (program : ℕ → Tries R) (rep : Reply) → Fine rep → (m next : Moment) (room : ℕ) → Stepped n m (Hold room) rep next → ((holder : ℕ) → Goes n Ends (held holder) (program holder)) → (after : Fact) × IsSo n after next × Goes n Ends after (given (holder_in rep) (failure rep) program)
    held_goes program (reply.Holding holder) each m next room s on = (held holder, granted room holder m next s, on holder)
    held_goes program (reply.Refused why) each m next room s on = (anything, tt, each why refl)
    held_goes program (reply.Damaged folder file) each m next room s on = (anything, tt, tt)
    held_goes program rep each m next room s on = (anything, tt, tt)

    found_goes : (program : ℕ → ℕ → Tries R) (rep : Reply) → Fine rep → ((room holder : ℕ) → Goes n Ends (held holder) (program room holder)) → Goes n Ends anything (given (room_in rep) (failure rep) (λ room. holds room (program room)))
    found_goes program (reply.Room room) each on = λ m next rep s so. held_goes (program room) rep (hold_fine room m next rep s) m next room s (on room)
    found_goes program (reply.Refused why) each on = each why refl
    found_goes program (reply.Damaged folder file) each on = tt
    found_goes program rep each on = tt

    -- the whole program
    pub by_hold_goes : (name : Name) (program : ℕ → ℕ → Tries R) → ((room holder : ℕ) → Goes n Ends (held holder) (program room holder)) → Goes n Ends anything (ask (Find name) (λ rep. given (room_in rep) (failure rep) (λ room. holds room (program room))))
    by_hold_goes name program on = λ m next rep s so. (anything, tt, found_goes program rep (find_fine name m next rep s) on)

-- ---- a rename

abbrev pub MayRefuseRename : Refusal → Type 0
MayRefuseRename refusal.NoRoom = Unit {0}
MayRefuseRename refusal.Held = Unit {0}
MayRefuseRename (refusal.Busy host writer) = Unit {0}
MayRefuseRename refusal.IdsSpent = Unit {0}
MayRefuseRename refusal.Exists = Unit {0}
MayRefuseRename other = ⊥

module _ (n : ℕ) where
  renames : AreHolds MayRefuseRename
  renames = record { none = tt; shut = tt; busy = λ host writer. tt; spent = tt }

  abbrev pub Renamed : Result (Unit {0}) Stuck → Type 0
  Renamed = EndsSo (λ (done : Unit {0}). Unit {0}) MayRefuseRename

  moved_so : (rep : Reply) → ((why : Refusal) → rep ≡ reply.Refused why → MayRefuseRename why) → Renamed (moved rep)
  moved_so reply.Done each = tt
  moved_so rep each = failure_so MayRefuseRename rep each

  move_fine : (holder : ℕ) (to : Name) (m next : Moment) (rep : Reply) (why : Refusal) → Stepped n m (Move holder to) rep next → IsSo n (held holder) m → rep ≡ reply.Refused why → MayRefuseRename why
  move_fine holder to m next rep why s so is = elim (s.reason why is) as (λ _. MayRefuseRename why) [
    | inl none ↦ absurd (has_hold n MayRefuseRename renames holder m so none.1)
    | inr taken ↦ subst MayRefuseRename (sym taken.0) tt
  ]

  pub rename_goes : (name to : Name) → Goes n Renamed anything (rename_program name to)
  rename_goes name to = by_hold_goes n MayRefuseRename renames (λ (done : Unit {0}). Unit {0}) name (λ room holder. moves to holder)
      (λ room holder m next rep s so. (held holder, moved_on n MayRefuseRename renames holder to m next rep s so, let_go n MayRefuseRename renames (λ (done : Unit {0}). Unit {0}) holder (moved rep) (moved_so rep (λ why is. move_fine holder to m next rep why s so is))))

-- ---- a truncate

abbrev pub MayRefuseTruncate : ℕ → Refusal → Type 0
MayRefuseTruncate size refusal.NoRoom = Unit {0}
MayRefuseTruncate size refusal.Held = Unit {0}
MayRefuseTruncate size (refusal.Busy host writer) = Unit {0}
MayRefuseTruncate size refusal.IdsSpent = Unit {0}
MayRefuseTruncate size refusal.TooFar = MAX_SIZE < size
MayRefuseTruncate size refusal.StampsSpent = size ≤ MAX_SIZE
MayRefuseTruncate size other = ⊥

module _ (n size : ℕ) where
  truncates : AreHolds (MayRefuseTruncate size)
  truncates = record { none = tt; shut = tt; busy = λ host writer. tt; spent = tt }

  abbrev IsWithin : ℕ → Type 0
  IsWithin stamp = size ≤ MAX_SIZE

  abbrev pub Truncated : Result ℕ Stuck → Type 0
  Truncated = EndsSo IsWithin (MayRefuseTruncate size)

  near : nat_lt MAX_SIZE size ≡ false → size ≤ MAX_SIZE
  near is = grind (arith, nat_tests)

  beyond : nat_lt MAX_SIZE size ≡ true → MAX_SIZE < size
  beyond is = grind (arith, nat_tests)

  checked_so : (far spent : Bool) (why : Refusal) → (far ≡ true → MAX_SIZE < size) → (far ≡ false → size ≤ MAX_SIZE) → (if far then Some refusal.TooFar else if spent then Some refusal.StampsSpent else None) ≡ Some why → MayRefuseTruncate size why
  checked_so true spent why far close is = (let same : refusal.TooFar ≡ why = cc in subst (MayRefuseTruncate size) same (far refl))
  checked_so false true why far close is = (let same : refusal.StampsSpent ≡ why = cc in subst (MayRefuseTruncate size) same (close refl))
  checked_so false false why far close is = absurd (cc)

  passed_so : (far spent : Bool) → (far ≡ false → size ≤ MAX_SIZE) → (if far then Some refusal.TooFar else if spent then Some refusal.StampsSpent else None) ≡ None → size ≤ MAX_SIZE
  passed_so true spent close is = absurd (cc)
  passed_so false spent close is = close refl

  mark_fine : (holder top : ℕ) (m next : Moment) (rep : Reply) (why : Refusal) → Stepped n m (Mark holder size top) rep next → IsSo n (held holder) m → rep ≡ reply.Refused why → MayRefuseTruncate size why
  mark_fine holder top m next rep why s so is = elim (s.reason why is) as (λ _. MayRefuseTruncate size why) [
    | inl none ↦ absurd (has_hold n (MayRefuseTruncate size) truncates holder m so none.1)
    | inr check ↦ checked_so (nat_lt MAX_SIZE size) (nat_le MAX_STAMP top) why beyond near check
  ]

  mark_within : (holder top stamp : ℕ) (m next : Moment) → Stepped n m (Mark holder size top) (reply.Marked stamp) next → size ≤ MAX_SIZE
  mark_within holder top stamp m next s = elim (match_cases (holder_of n holder m.state.table.holders) _ _ s.answers) as (λ _. size ≤ MAX_SIZE) [
    | inl (none, refused) ↦ absurd (let clash : reply.Marked stamp ≡ reply.Refused refusal.NotHolder = refused.0 in cc)
    | inr (h, has, does) ↦ elim (match_cases (truncate_check size top) _ _ does) as (λ _. size ≤ MAX_SIZE) [
      | inr (why, some, refused) ↦ absurd (let clash : reply.Marked stamp ≡ reply.Refused why = refused.0 in cc)
      | inl (none, made) ↦ passed_so (nat_lt MAX_SIZE size) (nat_le MAX_STAMP top) near none
    ]
  ]

  marked_so : (holder top : ℕ) (m next : Moment) (rep : Reply) → Stepped n m (Mark holder size top) rep next → IsSo n (held holder) m → Truncated (marked rep)
  marked_so holder top m next (reply.Marked stamp) s so = mark_within holder top stamp m next s
  marked_so holder top m next (reply.Refused why) s so = mark_fine holder top m next (reply.Refused why) why s so refl
  marked_so holder top m next (reply.Damaged folder file) s so = tt
  marked_so holder top m next rep s so = tt

  marks_go : (holder top : ℕ) → Goes n Truncated (held holder) (marks size holder top)
  marks_go holder top = λ m next rep s so. (held holder, marked_on n (MayRefuseTruncate size) truncates holder size top m next rep s so, let_go n (MayRefuseTruncate size) truncates IsWithin holder (marked rep) (marked_so holder top m next rep s so))

  -- what names tell is no refusal
  abbrev Told : Result ℕ Stuck → Type 0
  Told = EndsSo (λ (top : ℕ). Unit {0}) (MayRefuseTruncate size)

  known_so : {A : Type 0} (folder name : Name) (item : Option A) (goes_on : A → Result ℕ Stuck) → ((a : A) → Told (goes_on a)) → Told (known folder name item goes_on)
  known_so folder name None goes_on each = tt
  known_so folder name (Some a) goes_on each = each a

  metadata_so : (names : List Name) (top : ℕ) → Told (metadata_top names top)
  metadata_so [] top = tt
  metadata_so (name ∷ names) top = known_so metadata name (meta_in name) (λ (x : Metadata). metadata_top names (max top x.stamp)) (λ (x : Metadata). metadata_so names (max top x.stamp))

  truncs_so : (names : List Name) (top : ℕ) → Told (truncs_top names top)
  truncs_so [] top = tt
  truncs_so (name ∷ names) top = known_so truncs name (trunc_in name) (λ (t : Trunc). truncs_top names (max top t.stamp)) (λ (t : Trunc). truncs_so names (max top t.stamp))

  told_so : (folder : Name) (tells : List Name → Result ℕ Stuck) (rep : Reply) → ((names : List Name) → Told (tells names)) → ((why : Refusal) → rep ≡ reply.Refused why → MayRefuseTruncate size why) → Told (told_by folder tells rep)
  told_so folder tells (reply.Looked (Names names)) each fine = each names
  told_so folder tells (reply.Looked answer) each fine = tt
  told_so folder tells (reply.Refused why) each fine = fine why refl
  told_so folder tells rep each fine = tt

  truncs_go : (room holder top : ℕ) → Goes n Truncated (held holder) (lists_truncs size room holder top)
  truncs_go room holder top = λ m next rep s so. (
    held holder,
    looked_on n (MayRefuseTruncate size) truncates holder room truncs m next rep s so,
    or_let_go n (MayRefuseTruncate size) truncates IsWithin (λ (a : ℕ). Unit {0}) holder (marks size holder) (told_by truncs (λ names. truncs_top names top) rep) (told_so truncs (λ names. truncs_top names top) rep (λ names. truncs_so names top) (look_fine n (MayRefuseTruncate size) truncates room truncs m next rep s)) (marks_go holder),
  )

  metadata_goes : (room holder : ℕ) → Goes n Truncated (held holder) (lists_metadata size room holder)
  metadata_goes room holder = λ m next rep s so. (
    held holder,
    looked_on n (MayRefuseTruncate size) truncates holder room metadata m next rep s so,
    or_let_go n (MayRefuseTruncate size) truncates IsWithin (λ (a : ℕ). Unit {0}) holder (lists_truncs size room holder) (told_by metadata (λ names. metadata_top names 0) rep) (told_so metadata (λ names. metadata_top names 0) rep (λ names. metadata_so names 0) (look_fine n (MayRefuseTruncate size) truncates room metadata m next rep s)) (truncs_go room holder),
  )

  pub truncate_goes : (name : Name) → Goes n Truncated anything (truncate_program name size)
  truncate_goes name = by_hold_goes n (MayRefuseTruncate size) truncates IsWithin name (λ room holder. lists_metadata size room holder) metadata_goes

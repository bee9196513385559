-- A truncate ends in a fault only where one was answered, and so does the question whether a name is free.
use Rattle.std.proofs.Common.{◌≡◌, ◌⊎◌, inl, inr, ℕ, true, max, List, [], ◌∷◌, Result, Ok, Err, Option, Some, None, refl, sym, subst}
use Rattle.plfs_types.specs.declared.entries.Trunc.{Trunc}
use Rattle.store_api.specs.declared.step.Answer.{Answer}
use Rattle.store_api.specs.declared.step.Answer.TheVariants as answer
use Rattle.mount_model.specs.declared.names.Metadata.{Metadata}
use Rattle.mount_model.specs.declared.stuck.Stuck.{Stuck}
use Rattle.mount_model.specs.declared.stuck.Stuck.TheVariants as stuck
use Rattle.mount_model.specs.FlowListed.{file_in, or_trouble, told_by}
use Rattle.mount_model.specs.Names.{meta_in, trunc_in}
use Rattle.mount_model.specs.FlowReplies.{Tries, damage, failure, given, room_in}
use Rattle.mount_model.specs.Program.{done, ask}
use Rattle.mount_model.specs.declared.call.Call.TheVariants.{Look}
use Rattle.mount_model.specs.declared.call.Look.TheVariants.{List as ListFolder}
use Rattle.mount_model.specs.declared.reply.Refusal.{Refusal}
use Rattle.mount_model.specs.declared.reply.Refusal.TheVariants as refusal
use Rattle.mount_model.specs.declared.reply.Reply.{Reply}
use Rattle.mount_model.specs.declared.reply.Reply.TheVariants.{Damaged, Done, Fault, Holding, Looked, Marked, NoMemory, Refused, Room}
use Rattle.mount_model.specs.Paths.{Name, metadata, truncs}
use Rattle.mount_model.specs.Replies.{IsTrouble, damaged, fault, no_memory, refused}
use Rattle.mount_model.specs.Shown.{MayShow}
use Rattle.trunc_rename.specs.Holding.{holder_in, holds, lets_go, or_lets_go, released}
use Rattle.trunc_rename.specs.Tops.{metadata_top, truncs_top}
use Rattle.trunc_rename.specs.Truncating.{lists_metadata, lists_truncs, marked, marks, truncate_program}
use Rattle.run_core.proofs.Facts.{EndsIn, is_no_fault}
use Rattle.copy_core.specs.Clearing.{free_as, free_program}

-- it ends in no fault
abbrev Well : {R : Type 0} → Tries R → Type 0
Well program = EndsIn is_no_fault program

abbrev NoFaultIn : {R : Type 0} → Result R Stuck → Type 0
NoFaultIn result = is_no_fault result ≡ true

-- ---- what a reply leads to

abbrev LeadsWell : {R : Type 0} → (Reply → Tries R) → Reply → Type 0
LeadsWell k reply = (reply ≡ NoMemory) ⊎ (reply ≡ Fault) ⊎ Well (k reply)

-- well, if its own reply does, a refusal, and damage
by_reply : {R : Type 0} {may : Refusal → Type 0} (k : Reply → Tries R) (own : Type 0) (reply : Reply) → own ⊎ IsTrouble may reply
    → (own → Well (k reply)) → ((why : Refusal) → Well (k (Refused why))) → ((folder file : Name) → Well (k (Damaged folder file))) → LeadsWell k reply
by_reply k own reply (inl is) owns refuses damages = inr (inr (owns is))
by_reply k own reply (inr (refused why fits e)) owns refuses damages = inr (inr (subst (λ r. Well (k r)) (sym e) (refuses why)))
by_reply k own reply (inr (damaged folder file e)) owns refuses damages = inr (inr (subst (λ r. Well (k r)) (sym e) (damages folder file)))
by_reply k own reply (inr (fault e)) owns refuses damages = inr (inl e)
by_reply k own reply (inr (no_memory e)) owns refuses damages = inl e

-- of whatever type the result is
err_well : (A R : Type 0) (why : Stuck) → NoFaultIn {R = A} (Err why) → NoFaultIn {R = R} (Err why)
err_well A R stuck.Fault fine = fine
err_well A R (stuck.Damaged folder file place) fine = fine
err_well A R (stuck.Refused why) fine = fine

-- ---- a listing

or_well : {A B : Type 0} (found : Option A) (why : Stuck) (next : A → Result B Stuck) → NoFaultIn {R = B} (Err why) → ((a : A) → NoFaultIn (next a)) → NoFaultIn (or_trouble found why next)
or_well None why next fine goes = fine
or_well (Some a) why next fine goes = goes a

told_well : {A : Type 0} (folder : Name) (tells : List Name → Result A Stuck) → ((names : List Name) → NoFaultIn (tells names)) → (told : Answer) → NoFaultIn (told_by folder tells (Looked told))
told_well folder tells fine (answer.Names names) = fine names
told_well folder tells fine answer.NoFolder = refl
told_well folder tells fine answer.Made = refl
told_well folder tells fine (answer.Old room) = refl
told_well folder tells fine answer.Absent = refl
told_well folder tells fine answer.NoRoom = refl
told_well folder tells fine (answer.NotEmpty least) = refl
told_well folder tells fine answer.TargetThere = refl
told_well folder tells fine (answer.Number value) = refl
told_well folder tells fine (answer.Bytes bytes) = refl
told_well folder tells fine answer.Beyond = refl

metadata_well : (names : List Name) (top : ℕ) → NoFaultIn (metadata_top names top)
metadata_well [] top = refl
metadata_well (name ∷ names) top = or_well (meta_in name) (damage (file_in metadata name) 0) (λ (m : Metadata). metadata_top names (max top m.stamp)) refl (λ m. metadata_well names (max top m.stamp))

truncs_well : (names : List Name) (top : ℕ) → NoFaultIn (truncs_top names top)
truncs_well [] top = refl
truncs_well (name ∷ names) top = or_well (trunc_in name) (damage (file_in truncs name) 0) (λ (t : Trunc). truncs_top names (max top t.stamp)) refl (λ t. truncs_well names (max top t.stamp))

-- ---- a container is held

released_well : {R : Type 0} (outcome : Result R Stuck) (reply : Reply) → (reply ≡ Done) ⊎ ((why : Refusal) × (reply ≡ Refused why)) ⊎ ((folder : Name) × (file : Name) × (reply ≡ Damaged folder file)) → NoFaultIn outcome → NoFaultIn (released outcome reply)
released_well (Err why) reply is fine = fine
released_well (Ok result) reply (inl is) fine = subst (λ r. NoFaultIn (released (Ok result) r)) (sym is) refl
released_well (Ok result) reply (inr (inl (why, is))) fine = subst (λ r. NoFaultIn (released (Ok result) r)) (sym is) refl
released_well (Ok result) reply (inr (inr (folder, file, is))) fine = subst (λ r. NoFaultIn (released (Ok result) r)) (sym is) refl

lets_go_well : {R : Type 0} (holder : ℕ) (outcome : Result R Stuck) → NoFaultIn outcome → Well (lets_go holder outcome)
lets_go_well holder outcome fine = λ reply fits.
    by_reply (λ r. done (released outcome r)) (reply ≡ Done) reply fits (λ e. released_well outcome reply (inl e) fine) (λ why. released_well outcome (Refused why) (inr (inl (why, refl))) fine) (λ folder file. released_well outcome (Damaged folder file) (inr (inr (folder, file, refl))) fine)

or_lets_go_well : {A R : Type 0} (holder : ℕ) (next : A → Tries R) (result : Result A Stuck) → NoFaultIn result → ((a : A) → Well (next a)) → Well (or_lets_go holder next result)
or_lets_go_well holder next (Ok a) fine goes = goes a
or_lets_go_well {A} {R} holder next (Err why) fine goes = lets_go_well {R = R} holder (Err why) (err_well A R why fine)

holds_well : {R : Type 0} (room : ℕ) (next : ℕ → Tries R) → ((holder : ℕ) → Well (next holder)) → Well (holds room next)
holds_well room next goes = λ reply fits.
    by_reply (λ r. given (holder_in r) (failure r) next) ((holder : ℕ) × (reply ≡ Holding holder)) reply fits (λ p. subst (λ r. Well (given (holder_in r) (failure r) next)) (sym p.1) (goes p.0)) (λ why. refl) (λ folder file. refl)

-- a listing, whose trouble lets go
lists_well : {A R : Type 0} (room holder : ℕ) (folder : Name) (tells : List Name → Result A Stuck) (next : A → Tries R) → ((names : List Name) → NoFaultIn (tells names)) → ((a : A) → Well (next a))
    → Well (ask (Look room (ListFolder folder)) (λ reply. or_lets_go holder next (told_by folder tells reply)))
lists_well room holder folder tells next fine goes = λ reply fits.
    by_reply (λ r. or_lets_go holder next (told_by folder tells r)) ((told : Answer) × MayShow (ListFolder folder) told × (reply ≡ Looked told)) reply fits
    (λ p. subst (λ r. Well (or_lets_go holder next (told_by folder tells r))) (sym p.2) (or_lets_go_well holder next (told_by folder tells (Looked p.0)) (told_well folder tells fine p.0) goes))
    (λ why. or_lets_go_well holder next (told_by folder tells (Refused why)) refl goes)
    (λ in_folder file. or_lets_go_well holder next (told_by folder tells (Damaged in_folder file)) refl goes)

-- ---- the programs

marks_well : (size holder top : ℕ) → Well (marks size holder top)
marks_well size holder top = λ reply fits.
    by_reply (λ r. lets_go holder (marked r)) ((stamp : ℕ) × (reply ≡ Marked stamp)) reply fits (λ p. subst (λ r. Well (lets_go holder (marked r))) (sym p.1) (lets_go_well holder (Ok p.0) refl))
    (λ why. lets_go_well holder (marked (Refused why)) refl) (λ folder file. lets_go_well holder (marked (Damaged folder file)) refl)

pub truncate_well : (name : Name) (size : ℕ) → EndsIn is_no_fault (truncate_program name size)
truncate_well name size = λ reply fits.
    by_reply (λ r. given (room_in r) (failure r) (λ room. holds room (lists_metadata size room))) ((room : ℕ) × (reply ≡ Room room)) reply fits
    (λ p. subst (λ r. Well (given (room_in r) (failure r) (λ room. holds room (lists_metadata size room)))) (sym p.1) (held p.0)) (λ why. refl) (λ folder file. refl)
  where
    held : (room : ℕ) → Well (holds room (lists_metadata size room))
    held room = holds_well room (lists_metadata size room)
        (λ holder. lists_well room holder metadata (λ names. metadata_top names 0) (lists_truncs size room holder) (λ names. metadata_well names 0)
        (λ top. lists_well room holder truncs (λ names. truncs_top names top) (marks size holder) (λ names. truncs_well names top) (λ greatest. marks_well size holder greatest)))

refused_well : (why : Refusal) → NoFaultIn (free_as (Refused why))
refused_well refusal.NoRoom = refl
refused_well refusal.Held = refl
refused_well (refusal.Busy host id) = refl
refused_well refusal.Exists = refl
refused_well refusal.Full = refl
refused_well refusal.NotFlushed = refl
refused_well refusal.NoMeta = refl
refused_well refusal.TooFar = refl
refused_well refusal.StampsSpent = refl
refused_well refusal.IdsSpent = refl
refused_well refusal.NotOpen = refl
refused_well refusal.NotHolder = refl
refused_well refusal.Alive = refl

pub free_well : (name : Name) → EndsIn is_no_fault (free_program name)
free_well name = λ reply fits.
    by_reply (λ r. done (free_as r)) ((room : ℕ) × (reply ≡ Room room)) reply fits (λ p. subst (λ r. Well (done (free_as r))) (sym p.1) refl) refused_well (λ folder file. refl)

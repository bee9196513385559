-- What a caller does that holds a container is never refused since others have it open, or hold it.
use Rattle.std.proofs.Common.{ℕ, List, [], ◌∷◌, sym, inl, inr, subst}
use Rattle.std.specs.List.{AllByRecursion}
use Rattle.mount_model.specs.declared.call.Call.{Call}
use Rattle.mount_model.specs.declared.call.Call.TheVariants.{Find, Look, Mark, Move, Release}
use Rattle.mount_model.specs.declared.call.Look.TheVariants.{List as ListFolder}
use Rattle.mount_model.specs.declared.reply.Refusal.{Refusal}
use Rattle.mount_model.specs.declared.reply.Refusal.TheVariants.{Busy, Exists, Held, NoRoom, NotHolder, StampsSpent, TooFar}
use Rattle.mount_model.specs.declared.reply.Reply.{Reply}
use Rattle.mount_model.specs.Paths.{Name}
use Rattle.mount_model.specs.Refusals.{IsOneOf, MayRefuse}
use Rattle.mount_model.specs.Replies.{FitsCall, IsTrouble, refused, damaged, fault, no_memory}
use Rattle.mount_model.specs.State.{State}
use Rattle.mount_model.specs.Step.{IsStep}
use Rattle.mount_model.proofs.Facts.{step_fits}
use Rattle.mount_model.specs.Running.{unbroken}
use Rattle.trunc_rename.specs.Renaming.{moves}
use Rattle.trunc_rename.specs.Truncating.{lists_metadata}
use Rattle.reader_laws.specs.Moments.{Moment}
use Rattle.headline_laws.proofs.Plays.Refused.Reasons.{GoesFor, IsReplyFor, Lasts, RefusesFor, metadata_goes, moves_go}

-- nobody's entry, and no hold, is the reason
abbrev pub IsPlain : Refusal → Type 0
IsPlain Held = ⊥
IsPlain (Busy host writer) = ⊥
IsPlain other = Unit {0}

-- nothing has to hold
abbrev pub Anything : Moment → Type 0
Anything m = Unit {0}

abbrev PlainReply : Reply → Type 0
PlainReply reply = IsReplyFor IsPlain reply

one_of_plain : (why : Refusal) (reasons : List Refusal) → AllByRecursion IsPlain reasons → IsOneOf why reasons → IsPlain why
one_of_plain why [] all one = absurd one
one_of_plain why (reason ∷ reasons) all (inl same) = subst IsPlain (sym same) all.0
one_of_plain why (reason ∷ reasons) all (inr more) = one_of_plain why reasons all.1 more

trouble_plain : (may : Refusal → Type 0) (reply : Reply) → ((why : Refusal) → may why → IsPlain why) → IsTrouble may reply → IsReplyFor IsPlain reply
trouble_plain may reply each (refused why is e) = subst PlainReply (sym e) (each why is)
trouble_plain may reply each (damaged folder file e) = subst PlainReply (sym e) tt
trouble_plain may reply each (fault e) = subst PlainReply (sym e) tt
trouble_plain may reply each (no_memory e) = subst PlainReply (sym e) tt

-- ---- replies

pub find_plain : (name : Name) (reply : Reply) → FitsCall (Find name) reply → IsReplyFor IsPlain reply
find_plain name reply (inl a) = subst PlainReply (sym a.1) tt
find_plain name reply (inr t) = trouble_plain (MayRefuse (Find name)) reply (λ why. one_of_plain why (NoRoom ∷ []) (tt, tt)) t

look_plain : (room : ℕ) (folder : Name) (reply : Reply) → FitsCall (Look room (ListFolder folder)) reply → IsReplyFor IsPlain reply
look_plain room folder reply (inl a) = subst PlainReply (sym a.2) tt
look_plain room folder reply (inr t) = trouble_plain (MayRefuse (Look room (ListFolder folder))) reply (λ why. one_of_plain why (NoRoom ∷ []) (tt, tt)) t

mark_plain : (holder size top : ℕ) (reply : Reply) → FitsCall (Mark holder size top) reply → IsReplyFor IsPlain reply
mark_plain holder size top reply (inl a) = subst PlainReply (sym a.1) tt
mark_plain holder size top reply (inr t) = trouble_plain (MayRefuse (Mark holder size top)) reply (λ why. one_of_plain why (NoRoom ∷ NotHolder ∷ TooFar ∷ StampsSpent ∷ []) (tt, (tt, (tt, (tt, tt))))) t

move_plain : (holder : ℕ) (to : Name) (reply : Reply) → FitsCall (Move holder to) reply → IsReplyFor IsPlain reply
move_plain holder to reply (inl is) = subst PlainReply (sym is) tt
move_plain holder to reply (inr t) = trouble_plain (MayRefuse (Move holder to)) reply (λ why. one_of_plain why (NoRoom ∷ NotHolder ∷ Exists ∷ []) (tt, (tt, (tt, tt)))) t

release_plain : (holder : ℕ) (reply : Reply) → FitsCall (Release holder) reply → IsReplyFor IsPlain reply
release_plain holder reply (inl is) = subst PlainReply (sym is) tt
release_plain holder reply (inr t) = trouble_plain (MayRefuse (Release holder)) reply (λ why. one_of_plain why (NoRoom ∷ NotHolder ∷ []) (tt, (tt, tt))) t

-- ---- programs

its_fit : (old : State) (n : ℕ) (call : Call) (reply : Reply) (after : State) → IsStep old n (unbroken call) reply after → FitsCall call reply
its_fit old n call reply after step = step_fits old after n (unbroken call) reply step

module _ (n : ℕ) where
  anything_lasts : Lasts Anything
  anything_lasts m event later sound lawful holds = tt

  looks_plainly : (room : ℕ) (folder : Name) → RefusesFor IsPlain Anything n (Look room (ListFolder folder))
  looks_plainly room folder m sound holds reply after a = look_plain room folder reply (its_fit m.state n (Look room (ListFolder folder)) reply after (record { does = a }))

  marks_plainly : (holder size top : ℕ) → RefusesFor IsPlain Anything n (Mark holder size top)
  marks_plainly holder size top m sound holds reply after a = mark_plain holder size top reply (its_fit m.state n (Mark holder size top) reply after (record { does = a }))

  names_plainly : (holder : ℕ) (to : Name) → RefusesFor IsPlain Anything n (Move holder to)
  names_plainly holder to m sound holds reply after a = move_plain holder to reply (its_fit m.state n (Move holder to) reply after (record { does = a }))

  releases_plainly : (holder : ℕ) → RefusesFor IsPlain Anything n (Release holder)
  releases_plainly holder m sound holds reply after a = release_plain holder reply (its_fit m.state n (Release holder) reply after (record { does = a }))

  pub moves_plainly : (to : Name) (holder : ℕ) → GoesFor IsPlain Anything n (moves to holder)
  moves_plainly to holder = moves_go IsPlain Anything anything_lasts n releases_plainly to holder (names_plainly holder to)

  pub metadata_plainly : (size room holder : ℕ) → GoesFor IsPlain Anything n (lists_metadata size room holder)
  metadata_plainly size room holder = metadata_goes IsPlain Anything anything_lasts n releases_plainly size room holder (looks_plainly room) (marks_plainly holder size)

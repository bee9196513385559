-- Which refusals each call has.
use Rattle.std.specs.Prelude.{◌≡◌, ◌⊎◌, ℕ, List, [], ◌∷◌}
use Rattle.mount_model.specs.declared.call.Call.{Call}
use Rattle.mount_model.specs.declared.call.Call.TheVariants.{Greet, Find, MakeContainer, Rooms, Look, Enter, Floor, MakeHostdir, MakeIndex, MakeLog, Write, Flush, SyncLog, SyncIndex, PutMeta, Exit, Hold, Mark, Move, Release, StartFlat, PutFlat, SyncFlat, InstallFlat, StartPack, SyncDropping, Inspect, Mend, MendMeta, Bury, MendHold}
use Rattle.mount_model.specs.declared.reply.Refusal.{Refusal}
use Rattle.mount_model.specs.declared.reply.Refusal.TheVariants.{NoRoom, Held, Busy, Exists, Full, NotFlushed, NoMeta, TooFar, StampsSpent, IdsSpent, NotOpen, NotHolder, Alive}

abbrev pub IsOneOf : Refusal → List Refusal → Type 0
IsOneOf why [] = ⊥
IsOneOf why (reason ∷ reasons) = (why ≡ reason) ⊎ IsOneOf why reasons

-- one line for each call: any act may be told that there is no such room
abbrev pub MayRefuse : Call → Refusal → Type 0
MayRefuse Greet why = ⊥
MayRefuse (Find name) why = IsOneOf why (NoRoom ∷ [])
MayRefuse (MakeContainer name) why = IsOneOf why (NoRoom ∷ [])
MayRefuse Rooms why = IsOneOf why (NoRoom ∷ [])
MayRefuse (Look room look) why = IsOneOf why (NoRoom ∷ [])
MayRefuse (Enter room host cap) why = IsOneOf why (NoRoom ∷ IdsSpent ∷ Held ∷ [])
MayRefuse (Floor writer) why = IsOneOf why (NoRoom ∷ NotOpen ∷ [])
MayRefuse (MakeHostdir writer) why = IsOneOf why (NoRoom ∷ NotOpen ∷ [])
MayRefuse (MakeIndex writer) why = IsOneOf why (NoRoom ∷ NotOpen ∷ [])
MayRefuse (MakeLog writer) why = IsOneOf why (NoRoom ∷ NotOpen ∷ [])
MayRefuse (Write writer at block) why = IsOneOf why (NoRoom ∷ NotOpen ∷ TooFar ∷ StampsSpent ∷ Full ∷ [])
MayRefuse (Flush writer) why = IsOneOf why (NoRoom ∷ NotOpen ∷ [])
MayRefuse (SyncLog writer) why = IsOneOf why (NoRoom ∷ NotOpen ∷ [])
MayRefuse (SyncIndex writer) why = IsOneOf why (NoRoom ∷ NotOpen ∷ [])
MayRefuse (PutMeta writer) why = IsOneOf why (NoRoom ∷ NotOpen ∷ NotFlushed ∷ [])
MayRefuse (Exit writer) why = IsOneOf why (NoRoom ∷ NotOpen ∷ NoMeta ∷ [])
MayRefuse (Hold room) why = IsOneOf why (NoRoom ∷ IdsSpent ∷ Held ∷ []) ⊎ ((host : ℕ) × (writer : ℕ) × (why ≡ Busy host writer))
MayRefuse (Mark holder size top) why = IsOneOf why (NoRoom ∷ NotHolder ∷ TooFar ∷ StampsSpent ∷ [])
MayRefuse (Move holder to) why = IsOneOf why (NoRoom ∷ NotHolder ∷ Exists ∷ [])
MayRefuse (Release holder) why = IsOneOf why (NoRoom ∷ NotHolder ∷ [])
MayRefuse (StartFlat room) why = IsOneOf why (NoRoom ∷ IdsSpent ∷ [])
MayRefuse (PutFlat flat bytes) why = IsOneOf why (NoRoom ∷ NotOpen ∷ [])
MayRefuse (SyncFlat flat) why = IsOneOf why (NoRoom ∷ NotOpen ∷ [])
MayRefuse (InstallFlat flat) why = IsOneOf why (NoRoom ∷ NotOpen ∷ [])
MayRefuse (StartPack room host writer) why = IsOneOf why (NoRoom ∷ IdsSpent ∷ [])
MayRefuse (SyncDropping room host writer is_log) why = IsOneOf why (NoRoom ∷ [])
MayRefuse (Inspect writer) why = IsOneOf why (Alive ∷ [])
MayRefuse (Mend room host writer count) why = IsOneOf why (NoRoom ∷ Alive ∷ [])
MayRefuse (MendMeta room host cover last) why = IsOneOf why (NoRoom ∷ Alive ∷ [])
MayRefuse (Bury room host writer) why = IsOneOf why (NoRoom ∷ Alive ∷ [])
MayRefuse (MendHold room) why = IsOneOf why (NoRoom ∷ Held ∷ [])

-- Who had memory.
use Rattle.std.proofs.Common.{List, [], ◌∷◌, ◌++◌}
use Rattle.std.specs.List.{All}
use Rattle.std.proofs.lemmas.List.Elements.{All-nil, All-cons, All-head, All-tail}
use Rattle.turn_object.specs.declared.history.Ended.{Ended}
use Rattle.turn_object.specs.Ended.{as_ended}
use Rattle.mount_model.specs.declared.call.Ask.{Ask}
use Rattle.mount_model.specs.declared.reply.Reply.{Reply}
use Rattle.mount_model.specs.State.{State}
use Rattle.mount_model.specs.History.{Event}
use Rattle.mount_model.specs.MakesCalls.{with_numbers}
use Rattle.mount_core.specs.Memory.{HadMemory, HadMemoryBeforeLast}
use Rattle.mount_core.proofs.Memory.{none_refused}
use Rattle.thread_runs.specs.Going.{EndedWithMemory, EndedWithMemoryBeforeLast}

pub all_both : {T : Type 0} (Q : T → Type 0) (xs ys : List T) → All Q xs → All Q ys → All Q (xs ++ ys)
all_both Q [] ys a b = b
all_both Q (x ∷ xs) ys a b = All-cons Q x (xs ++ ys) (All-head Q x xs a) (all_both Q xs ys (All-tail Q x xs a) b)

pub one_had : (mine : List Event) → HadMemory mine → All EndedWithMemory (as_ended mine)
one_had [] had = All-nil EndedWithMemory
one_had (e ∷ es) had = All-cons EndedWithMemory (record { number = e.caller; entries = e ∷ es }) [] had (All-nil EndedWithMemory)

pub each_had : (workers : List (List Event)) → All HadMemory workers → All EndedWithMemory (with_numbers workers)
each_had [] had = All-nil EndedWithMemory
each_had (calls ∷ others) had =
    all_both EndedWithMemory (as_ended calls) (with_numbers others) (one_had calls (All-head HadMemory calls others had)) (each_had others (All-tail HadMemory calls others had))

-- ---- the same but for the last call of each

pub before_last_had : (gone : List (Ended Ask Reply State)) → All EndedWithMemory gone → All EndedWithMemoryBeforeLast gone
before_last_had [] had = All-nil EndedWithMemoryBeforeLast
before_last_had (one ∷ others) had =
    All-cons EndedWithMemoryBeforeLast one others (none_refused one.entries (All-head EndedWithMemory one others had)) (before_last_had others (All-tail EndedWithMemory one others had))

pub one_begun : (mine : List Event) → HadMemoryBeforeLast mine → All EndedWithMemoryBeforeLast (as_ended mine)
one_begun [] had = All-nil EndedWithMemoryBeforeLast
one_begun (e ∷ es) had = All-cons EndedWithMemoryBeforeLast (record { number = e.caller; entries = e ∷ es }) [] had (All-nil EndedWithMemoryBeforeLast)

pub each_begun : (workers : List (List Event)) → All HadMemoryBeforeLast workers → All EndedWithMemoryBeforeLast (with_numbers workers)
each_begun [] had = All-nil EndedWithMemoryBeforeLast
each_begun (calls ∷ others) had =
    all_both EndedWithMemoryBeforeLast (as_ended calls) (with_numbers others) (one_begun calls (All-head HadMemoryBeforeLast calls others had)) (each_begun others (All-tail HadMemoryBeforeLast calls others had))

-- Calls of which none was refused memory.
use Rattle.std.proofs.Common.{◌≡◌, ◌≢◌, List, [], ◌∷◌, ◌++◌, Result, Ok, Err, true, false}
use Rattle.std.specs.Prelude.{OnErr}
use Rattle.mount_model.specs.declared.reply.Reply.{Reply}
use Rattle.mount_model.specs.declared.reply.Reply.TheVariants.{NoMemory}
use Rattle.mount_model.specs.History.{Event}
use Rattle.mount_core.specs.Memory.{HadMemory, HadMemoryBeforeLast}

pub memory_both : (xs ys : List Event) → HadMemory xs → HadMemory ys → HadMemory (xs ++ ys)
memory_both [] ys x y = y
memory_both (e ∷ xs) ys x y = (x.0, memory_both xs ys x.1 y)

-- calls of which none was, and one more
pub before_last : (xs : List Event) (e : Event) → HadMemory xs → HadMemoryBeforeLast (xs ++ e ∷ [])
before_last [] e had = tt
before_last (x ∷ []) e had = (had.0, tt)
before_last (x ∷ y ∷ ys) e had = (had.0, before_last (y ∷ ys) e had.1)

pub none_refused : (xs : List Event) → HadMemory xs → HadMemoryBeforeLast xs
none_refused [] had = tt
none_refused (x ∷ []) had = tt
none_refused (x ∷ y ∷ ys) had = (had.0, none_refused (y ∷ ys) had.1)

-- calls of which none was, and then others
pub refused_last : (xs ys : List Event) → HadMemory xs → HadMemoryBeforeLast ys → HadMemoryBeforeLast (xs ++ ys)
refused_last [] ys had later = later
refused_last (x ∷ []) [] had later = tt
refused_last (x ∷ []) (y ∷ ys) had later = (had.0, later)
refused_last (x ∷ z ∷ zs) ys had later = (had.0, refused_last (z ∷ zs) ys had.1 later)

-- a reply that was taken is not for want of memory
pub not_refused : (reply : Reply) → (reply ≡ NoMemory → false ≡ true) → reply ≢ NoMemory
not_refused reply refuses = λ is. (let bad : false ≡ true = refuses is in cc)

-- what is so is so of an error
pub on_err : {X E : Type 0} (result : Result X E) (Says : Type 0) → Says → OnErr result Says
on_err (Ok x) Says says = tt
on_err (Err e) Says says = says

-- Reading that ends at the first fault.
use Rattle.std.specs.Prelude.{◌≡◌, Result, Ok, Err}
use Rattle.script_lang.specs.declared.trouble.Kind.{Kind}
use Rattle.script_lang.specs.declared.flaw.Flaw.{Flaw}
use Rattle.script_lang.specs.declared.flaw.Flaw.TheVariants as flaws

-- what is read first, and then what stands on it
infixl 10 ◌>>=◌
abbrev pub ◌>>=◌ : {A B : Type 0} → Result A Kind → (A → Result B Kind) → Result B Kind
(Ok x) >>= f = f x
(Err kind) >>= f = Err kind

-- a failure is the fault that reading meets, or want of memory
abbrev pub FailsAsRead : {A : Type 0} → Flaw → Result A Kind → Type 0
FailsAsRead (flaws.Kind kind) read = read ≡ Err kind
FailsAsRead flaws.NoMemory read = Unit {0}

-- an answer is what reading gives, but for want of memory
abbrev pub GivesAsRead : {A : Type 0} → Result A Flaw → Result A Kind → Type 0
GivesAsRead (Ok x) read = read ≡ Ok x
GivesAsRead (Err flaw) read = FailsAsRead flaw read

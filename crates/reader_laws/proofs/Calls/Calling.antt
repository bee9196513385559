-- A caller's calls in a history, and what a program that ends well was answered.
use Rattle.std.proofs.Common.{◌≡◌, ℕ, ◌≤◌, List, [], ◌∷◌, ◌++◌, map, length, drop, Bool, true, false, nat_eq, Option, Some, None, refl, ap, arith}
use Rattle.std.specs.Prelude.{Result, Ok, Err, if◌then◌else◌}
use Rattle.std.specs.List.{AllByRecursion}
use Rattle.std.proofs.lemmas.List.{length-take}
use Rattle.plfs_types.specs.declared.names.Path.{Path}
use Rattle.turn_object.specs.Callers.{made_by}
use Rattle.store_api.specs.declared.step.Answer.TheVariants as answer
use Rattle.mount_model.specs.declared.call.Call.TheVariants.{Look}
use Rattle.mount_model.specs.declared.call.Look.TheVariants.{Read}
use Rattle.mount_model.specs.declared.reply.Reply.{Reply}
use Rattle.mount_model.specs.declared.reply.Reply.TheVariants.{Looked}
use Rattle.mount_model.specs.Paths.{Name}
use Rattle.mount_model.specs.History.{Event}
use Rattle.mount_model.specs.Program.{done}
use Rattle.mount_model.specs.Calls.{AreCallsOf}
use Rattle.mount_model.specs.declared.stuck.Stuck.{Stuck}
use Rattle.mount_model.specs.Running.{asking}
use Rattle.mount_model.specs.FlowReplies.{Tries, given, names_in, bytes_in}
use Rattle.index_reader.specs.Replies.{number_in}
use Rattle.reader_laws.specs.Moments.{Moment}
use Rattle.reader_laws.specs.Seen.{Asked, asked_in, calls_of, IsSeen}
use Rattle.reader_laws.proofs.Gathered.Facts.{answers_as, read_told}

-- ---- the calls of a caller

-- the calls of these events, with their replies
abbrev pub asked_all : List Event → List Asked
asked_all events = map asked_in events

pub calls_are : (caller : ℕ) (events : List Event) → calls_of caller events ≡ asked_all (made_by caller events)
calls_are caller [] = refl
calls_are caller (e ∷ events) = elim (nat_eq e.caller caller) as (λ b. (if b then asked_in e ∷ calls_of caller events else calls_of caller events) ≡ asked_all (if b then e ∷ made_by caller events else made_by caller events)) [
  | true ↦ ap (λ l. asked_in e ∷ l) (calls_are caller events)
  | false ↦ calls_are caller events
]

pub calls_append : (caller : ℕ) (first rest : List Event) → calls_of caller (first ++ rest) ≡ calls_of caller first ++ calls_of caller rest
calls_append caller [] rest = refl
calls_append caller (e ∷ first) rest = elim (nat_eq e.caller caller) as (λ b. (if b then asked_in e ∷ calls_of caller (first ++ rest) else calls_of caller (first ++ rest)) ≡ (if b then asked_in e ∷ calls_of caller first else calls_of caller first) ++ calls_of caller rest) [
  | true ↦ ap (λ l. asked_in e ∷ l) (calls_append caller first rest)
  | false ↦ calls_append caller first rest
]

-- ---- programs that may end in trouble

module _ {R : Type 0} where
  -- a program that ended well went on with what its reply gave
  pub given_so : {A : Type 0} (found : Option A) (why : Stuck) (next : A → Tries R) (calls : List Event) (out : R) → AreCallsOf (asking (given found why next)) calls (Ok out) → (a : A) × (found ≡ Some a) × AreCallsOf (asking (next a)) calls (Ok out)
  given_so None why next calls out made = let clash : Err why ≡ Ok out = made.1 in absurd (cc)
  given_so (Some a) why next calls out made = (a, refl, made)

  -- it passed a test that would have ended it
  pub passed_so : (test : Bool) (why : Stuck) (next : Tries R) (calls : List Event) (out : R) → AreCallsOf (asking (if test then done (Err why) else next)) calls (Ok out) → (test ≡ false) × AreCallsOf (asking next) calls (Ok out)
  passed_so true why next calls out made = let clash : Err why ≡ Ok out = made.1 in absurd (cc)
  passed_so false why next calls out made = (refl, made)

  pub same_ok : (a b : R) → ◌≡◌ {A = Result R Stuck} (Ok a) (Ok b) → a ≡ b
  same_ok a b e = cc

-- ---- what a reply gave

pub names_given : (reply : Reply) (names : List Name) → names_in reply ≡ Some names → reply ≡ Looked (answer.Names names)
names_given (Looked (answer.Names listed)) names e = let same : listed ≡ names = cc in ap (λ n. Looked (answer.Names n)) same
names_given (Looked answer) names e = absurd (cc)
names_given reply names e = absurd (cc)

pub number_given : (reply : Reply) (value : ℕ) → number_in reply ≡ Some value → reply ≡ Looked (answer.Number value)
number_given (Looked (answer.Number told)) value e = let same : told ≡ value = cc in ap (λ n. Looked (answer.Number n)) same
number_given (Looked answer) value e = absurd (cc)
number_given reply value e = absurd (cc)

pub bytes_given : (reply : Reply) (bytes : List ℕ) → bytes_in reply ≡ Some bytes → reply ≡ Looked (answer.Bytes bytes)
bytes_given (Looked (answer.Bytes read)) bytes e = let same : read ≡ bytes = cc in ap (λ n. Looked (answer.Bytes n)) same
bytes_given (Looked answer) bytes e = absurd (cc)
bytes_given reply bytes e = absurd (cc)

-- ---- reads

-- no more bytes came than were asked for
pub record FitsRead (asked : Asked) : Type 0 where
  pub most : (room : ℕ) (path : Path) (at len : ℕ) (bytes : List ℕ) → asked.ask.call ≡ Look room (Read path at len) → asked.reply ≡ Looked (answer.Bytes bytes) → length bytes ≤ len

-- what is read in a sound history fits
pub reads_fit : (caller : ℕ) (start end : Moment) (asked : List Asked) → IsSeen caller start asked end → AllByRecursion FitsRead asked
reads_fit caller start end [] seen = tt
reads_fit caller start end (a ∷ asked) (next, call, seen) = (
  record {
    most = λ room path at len bytes c r.
        let t = read_told call.before call.sound caller room path at len bytes next.state (answers_as call.before.state caller a.ask _ a.reply _ next.state c r refl call.answers) in
        omega (arith, ap length t.2, length-take len (drop at t.0));
  },
  reads_fit caller next end asked seen,
)

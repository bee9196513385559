-- What is told of a file that nobody had open is that of one plain file.
use Rattle.std.proofs.Common.{◌≡◌, ℕ, List, ◌∷◌, ◌++◌, Ok, refl, sym, subst}
use Rattle.std.specs.List.{All}
use Rattle.mount_model.specs.declared.call.Call.TheVariants.{Find, Greet}
use Rattle.mount_model.specs.declared.reply.Reply.TheVariants.{Room}
use Rattle.mount_model.specs.History.{Event}
use Rattle.mount_model.specs.Paths.{Name}
use Rattle.mount_model.specs.Step.{Answers, IsStep}
use Rattle.mount_sound.specs.Owed.{IsLawful}
use Rattle.mount_model.specs.Running.{Runs}
use Rattle.attr_flow.specs.declared.attr.Attr.{Attr}
use Rattle.attr_flow.specs.declared.attr_flow.AttrOut.TheVariants.{Cached}
use Rattle.attr_flow.specs.Asking.{attr_program}
use Rattle.reader_laws.specs.Moments.{IsSoundAt, Moment, moment_after}
use Rattle.reader_laws.specs.Seen.{Asked, calls_of}
use Rattle.reader_laws.proofs.Gathered.Facts.{answers_as, legal_rest}
use Rattle.look_laws.specs.Looking.{HasToldOf}
use Rattle.look_laws.proofs.Facts.{told_run}
use Rattle.headline_laws.specs.Telling.{ShowsTold}
use Rattle.headline_laws.proofs.Plays.Callers.Finding.{name_found}
use Rattle.headline_laws.proofs.Plays.Readers.Seeing.{behind_both, seen_so}
use Rattle.headline_laws.proofs.Plays.Callers.Standing.{Next}

-- what the caller found behind a greeting
file_told : (start : Moment) (n : ℕ) (before greeting mine : List Event) (name : Name) (attr : Attr) → IsSoundAt start → Next start (before ++ greeting) mine → All (λ (a : Asked). a.ask.call ≡ Greet) (calls_of n greeting) → HasToldOf n (moment_after start (before ++ greeting)) mine name attr
    → ShowsTold start n (record { before = before; events = greeting ++ mine }) name attr.size attr.stored attr.shares attr.truncs
file_told start n before greeting mine name attr sound next greets h =
    let m : Moment = moment_after start (before ++ greeting) in
    let from : Moment = moment_after m h.before in
    let r0 = legal_rest m h.before (h.first ∷ h.more ++ h.listing ∷ h.later) (subst (IsLawful m.state) h.split next.lawful) in
    let there : moment_after start (before ++ (greeting ++ h.before)) ≡ from = behind_both start before greeting h.before in
    let step : IsStep (moment_after start (before ++ (greeting ++ h.before))).state h.first.caller h.first.ask h.first.reply h.first.after = subst (λ (x : Moment). IsStep x.state h.first.caller h.first.ask h.first.reply h.first.after) (sym there) r0.1 in
    let finds : Answers (moment_after start (before ++ (greeting ++ h.before))).state h.first.caller (Find name) (Room h.room) h.first.after =
    answers_as (moment_after start (before ++ (greeting ++ h.before))).state h.first.caller h.first.ask (Find name) h.first.reply (Room h.room) h.first.after h.finds h.found refl step in (
      record { room = h.room; moment = moment_after from (h.first ∷ h.more); cut = h.cut; truncs = attr.truncs },
      record {
        earlier = greeting ++ h.before;
        first = h.first;
        sees = seen_so start n before greeting mine h.before h.first h.more h.listing h.later h.room h.cut attr.truncs sound next greets h.split h.waits h.begins h.lists h.truncates h.view;
        finds = h.finds;
        found = h.found;
        named = λ tree has. name_found (moment_after start (before ++ (greeting ++ h.before))).state h.first.caller name h.room h.first.after tree finds has;
      },
      record { size_is = h.tells.size_is; shares_are = h.tells.shares_are; stored_is = h.tells.stored_is; truncates = refl },
    )

pub cached_told : (start : Moment) (n : ℕ) (before greeting mine : List Event) (name : Name) (attr : Attr) → IsSoundAt start → Next start (before ++ greeting) mine → All (λ (a : Asked). a.ask.call ≡ Greet) (calls_of n greeting) → Runs n (attr_program name) mine (Ok (Cached attr))
    → ShowsTold start n (record { before = before; events = greeting ++ mine }) name attr.size attr.stored attr.shares attr.truncs
cached_told start n before greeting mine name attr sound next greets runs = file_told start n before greeting mine name attr sound next greets (told_run n (moment_after start (before ++ greeting)) mine name attr next.lawful next.sound runs)

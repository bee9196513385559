-- An opening by one caller itself, and what follows it.
use Rattle.std.proofs.Common.{◌≡◌, ℕ, ◌≤◌, List, [], ◌∷◌, ◌++◌, Result, Ok, Err, sym, ap, subst, ◌∙◌, arith}
use Rattle.index_entry.specs.Records.{IsBytes}
use Rattle.plain_file.specs.declared.pieces.Piece.{Piece}
use Rattle.turn_object.proofs.Facts.{state_append}
use Rattle.mount_model.specs.History.{Event, state_after}
use Rattle.mount_model.specs.Paths.{Name}
use Rattle.mount_model.specs.State.{State}
use Rattle.mount_sound.specs.Owed.{IsLawful}
use Rattle.mount_sound.proofs.Facts.{lawful_first, lawful_rest}
use Rattle.mount_model.specs.declared.stuck.Stuck.{Stuck as Trouble}
use Rattle.mount_model.specs.Running.{Runs}
use Rattle.lone_flow.specs.Driving.{Makes}
use Rattle.index_reader.specs.declared.opened.OpenReader.{OpenReader}
use Rattle.reader_laws.specs.Moments.{Moment, IsSoundAt, moment_after, next_moment}
use Rattle.reader_laws.proofs.Gathered.Facts.{follows, sound_after}
use Rattle.reader_laws.specs.Opened.{HasOpenedIn}
use Rattle.opening_flow.specs.Opening.{opening_program}
use Rattle.opening_laws.specs.Ending.{OpeningEnds}
use Rattle.pack_files.specs.declared.scan.ScanStuck.{ScanStuck}
use Rattle.pack_files.specs.declared.scan.ScanStuck.TheVariants.{Stuck}
use Rattle.packing_laws.specs.Seen.{Sees, file_seen, moment_seen, sees, sees_none}
use Rattle.packing_laws.proofs.Unpacking.Behind.{HasReached, IsBehind, behind}

-- what the law of an opening says
abbrev pub OpeningsEnd : Type 0
OpeningsEnd = (caller workers : ℕ) (name : Name) (start : Moment) (events : List Event) (ended : Result OpenReader Trouble) → 1 ≤ workers → IsLawful start.state events → IsSoundAt start → Runs caller (opening_program name workers) events ended
    → OpeningEnds caller start events ended

-- the moment seen is sound, and led to what the opening left
pub record HasSeen (seen : Moment) (opened : State) : Type 0 where
  pub sound : IsSoundAt seen
  pub reached : HasReached seen.state opened

pub has_seen : (start : Moment) (events : List Event) (reader : OpenReader) (o : HasOpenedIn 0 start events reader) → IsLawful start.state events → IsSoundAt start → HasSeen (moment_seen start events reader o) (state_after start.state events)
has_seen start events reader o lawful sound =
    let shown : List Event = o.first ∷ o.more in
    let rest : List Event = o.listing ∷ o.later in
    let met : Moment = moment_after start o.before in
    let seen : Moment = moment_after met shown in
    let all : IsLawful start.state (o.before ++ (shown ++ rest)) = subst (λ (es : List Event). IsLawful start.state es) o.split lawful in
    let met_is : met.state ≡ state_after start.state o.before = (follows start o.before).0 in
    let seen_is : seen.state ≡ state_after met.state shown = (follows met shown).0 in
    let behind_it : IsLawful met.state (shown ++ rest) = subst (λ (s : State). IsLawful s (shown ++ rest)) (sym met_is) (lawful_rest start.state o.before (shown ++ rest) all) in
    let on : IsLawful seen.state rest = subst (λ (s : State). IsLawful s rest) (sym seen_is) (lawful_rest met.state shown rest behind_it) in
    record {
      sound = sound_after met shown (lawful_first met.state shown rest behind_it) (sound_after start o.before (lawful_first start.state o.before (shown ++ rest) all) sound);
      reached = record {
        events = rest;
        lawful = on;
        ends = ap (λ (s : State). state_after s rest) seen_is ∙ sym (state_append met.state shown rest) ∙ ap (λ (s : State). state_after s (shown ++ rest)) met_is ∙ sym (state_append start.state o.before (shown ++ rest))
            ∙ ap (λ (es : List Event). state_after start.state es) (sym o.split);
      };
    }

module _ {R : Type 0} (law : OpeningsEnd) (name : Name) (start : Moment) (told : Result R ScanStuck) (Holds : List Piece → List ℕ → State → Type 0) (sound : IsSoundAt start) where
  greeted : (greeting : Event) (events : List Event) → IsLawful start.state (greeting ∷ events) → IsSoundAt (next_moment start greeting)
  greeted greeting events lawful = sound_after start (greeting ∷ []) (lawful.0, lawful.1, tt) sound

  -- what holds of the file that is seen
  pub saw : (reader : OpenReader) (at : State) → Makes (opening_program name 1) start.state (Ok reader) at
      → ((begun : Moment) (opening : List Event) (o : HasOpenedIn 0 begun opening reader) → HasSeen (moment_seen begun opening reader o) at → IsBytes (file_seen begun opening reader o)
      → Holds reader.pieces (file_seen begun opening reader o) (moment_seen begun opening reader o).state) → Sees start told Holds
  saw reader at makes holds =
      let b : IsBehind (opening_program name 1) start.state (Ok reader) at = behind (opening_program name 1) start.state (Ok reader) at makes in
      let begun : Moment = next_moment start b.greeting in
      let fine : IsSoundAt begun = greeted b.greeting b.events b.lawful in
      let o : HasOpenedIn 0 begun b.events reader = law 0 1 name begun b.events (Ok reader) (omega arith) b.lawful.2 fine b.runs in
      let s : HasSeen (moment_seen begun b.events reader o) at = subst (λ (z : State). HasSeen (moment_seen begun b.events reader o) z) b.ends (has_seen begun b.events reader o b.lawful.2 fine) in
      sees b.greeting b.events reader b.lawful o (λ are. holds begun b.events o s are)

  pub saw_none : (why : Trouble) (at : State) → Makes (opening_program name 1) start.state (Err why) at → told ≡ Err (Stuck why) → Sees start told Holds
  saw_none why at makes same =
      let b : IsBehind (opening_program name 1) start.state (Err why) at = behind (opening_program name 1) start.state (Err why) at makes in
      sees_none b.greeting b.events why b.lawful same
      (law 0 1 name (next_moment start b.greeting) b.events (Err why) (omega arith) b.lawful.2 (greeted b.greeting b.events b.lawful) b.runs)

-- Two callers that saw the same units of a name had one answer.
use Rattle.std.proofs.Common.{◌≡◌, ℕ, List, Option, Result, Ok}
use Rattle.index_entry.specs.Records.{IsBytes}
use Rattle.mount_model.specs.Paths.{Name}
use Rattle.mount_model.specs.State.{State}
use Rattle.reader_laws.specs.Moments.{IsSoundAt, Moment, next_moment}
use Rattle.pack_files.specs.declared.scan.ScanStuck.{ScanStuck}
use Rattle.lone_flow.specs.Unpacking.{Unpacks}
use Rattle.packing_laws.specs.Seen.{Sees, moment_seen, sees, sees_none}
use Rattle.packing_laws.specs.Told.{IsContent}
use Rattle.packing_laws.specs.Isolated.{HaveSameUnits, SawContent, bytes_seen}
use Rattle.packing_laws.proofs.SmallFiles.Isolating.{ApartLaw, OthersLaw, answers_same}

-- what the law of an unpacking says
abbrev pub UnpackLaw : Type 0
UnpackLaw = (name file : Name) (start : Moment) (told : Result (Option (List ℕ)) ScanStuck) (end : State) → IsSoundAt start → Unpacks name file start.state told end
    → Sees start told (λ pieces bytes from. IsContent pieces bytes file from end told)

saw_content : (file : Name) (start : Moment) (told : Option (List ℕ)) (end : State) → Sees start (Ok told) (λ pieces bytes from. IsContent pieces bytes file from end (Ok told)) → SawContent file start told end
saw_content file start told end (sees greeting opening reader lawful opened holds) = record { greeting = greeting; opening = opening; reader = reader; lawful = lawful; opened = opened; answers = holds }
saw_content file start told end (sees_none greeting opening why lawful is fails) = absurd (cc)

abbrev pub SameAnswer : Name → (start other : Moment) (told found : Option (List ℕ)) (end last : State) → Type 0
SameAnswer file start other told found end last = (a : SawContent file start told end) × (b : SawContent file other found last)
    × (IsBytes (bytes_seen start a) → IsBytes (bytes_seen other b) → HaveSameUnits file a.reader.pieces (bytes_seen start a) b.reader.pieces (bytes_seen other b) → told ≡ found)

pub runs_same : UnpackLaw → ApartLaw → OthersLaw → (name another file : Name) (start other : Moment) (told found : Option (List ℕ)) (end last : State) → IsSoundAt start → IsSoundAt other
    → Unpacks name file start.state (Ok told) end → Unpacks another file other.state (Ok found) last → SameAnswer file start other told found end last
runs_same law apart others name another file start other told found end last sound sound_other one two =
    let a : SawContent file start told end = saw_content file start told end (law name file start (Ok told) end sound one) in
    let b : SawContent file other found last = saw_content file other found last (law another file other (Ok found) last sound_other two) in (
      a,
      b,
      λ of_a of_b same. answers_same file a.reader.pieces (bytes_seen start a) b.reader.pieces (bytes_seen other b) same apart others
          (moment_seen (next_moment start a.greeting) a.opening a.reader a.opened).state end (moment_seen (next_moment other b.greeting) b.opening b.reader b.opened).state last told found (a.answers of_a) (b.answers of_b),
    )

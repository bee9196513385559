-- What later readers of a copy see.
use Rattle.std.specs.Prelude.{◌≡◌, ℕ, List, ◌∷◌}
use Rattle.mount_model.specs.History.{Event}
use Rattle.mount_model.specs.Paths.{Name}
use Rattle.mount_model.specs.State.{State}
use Rattle.mount_sound.specs.Owed.{IsLawful}
use Rattle.index_reader.specs.declared.opened.OpenReader.{OpenReader}
use Rattle.reader_laws.specs.Moments.{Moment, moment_after}
use Rattle.reader_laws.specs.View.{view}
use Rattle.reader_laws.specs.Opened.{HasOpenedIn}
use Rattle.packing_laws.specs.Lasting.{IsLater}
use Rattle.put_program.specs.Copied.{HasCopied, copied_by}
use Rattle.put_program.specs.Shown.{IsStill}

-- Each reader of the container that opens later sees just these bytes, where nothing has landed there since and its truncates are the same. So it is in the same
-- mount and in every later one, behind stops and losses of power too.
abbrev pub LaterReadersSee : {name : Name} {blocks : List (List ℕ)} {id : ℕ} {end : State} (start : Moment) → HasCopied name blocks id start end → List ℕ → Type 0
LaterReadersSee start c bytes = (mounts caller : ℕ) (now : Moment) (events : List Event) (reader : OpenReader) → IsLater mounts (copied_by start c) now → IsLawful now.state events → (o : HasOpenedIn caller now events reader)
    → c.writer.room ≡ reader.room → IsStill (copied_by start c) (moment_after (moment_after now o.before) (o.first ∷ o.more)) c.writer.room
    → view (moment_after (moment_after now o.before) (o.first ∷ o.more)) o.cut reader.truncs ≡ bytes

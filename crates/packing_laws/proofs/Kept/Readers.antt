-- Each later reader's cut holds what was packed.
use Rattle.std.proofs.Common.{◌≡◌, ℕ, List, ◌∷◌, Ok}
use Rattle.mount_model.specs.History.{Event}
use Rattle.mount_model.specs.Paths.{Name}
use Rattle.mount_model.specs.State.{State}
use Rattle.mount_sound.specs.Owed.{IsLawful}
use Rattle.index_reader.specs.declared.opened.OpenReader.{OpenReader}
use Rattle.reader_laws.specs.Moments.{IsSoundAt, Moment, moment_after}
use Rattle.reader_laws.proofs.Gathered.Facts.{sound_after}
use Rattle.reader_laws.specs.Opened.{HasOpenedIn}
use Rattle.pack_input.specs.declared.files.NamedFile.{NamedFile}
use Rattle.lone_flow.specs.declared.packing.Packed.TheVariants as packed
use Rattle.lone_flow.specs.Packing.{Packs}
use Rattle.packing_laws.specs.Lasting.{HoldsWrites, IsLater}
use Rattle.packing_laws.specs.Packed.{HasPacked, packed_by}
use Rattle.packing_laws.proofs.Kept.Lasting.{KeptLaw, keeps_mounts, opened_holds}
use Rattle.packing_laws.proofs.Kept.Packing.{packed_keeps}

-- every reader of that container that opens behind them
abbrev pub LaterReadersHold : (name : Name) (region : ℕ) (files : List NamedFile) (until : ℕ) (start : Moment) (end : State) → HasPacked name region files until start end → Type 0
LaterReadersHold name region files until start end p = (mounts caller : ℕ) (now : Moment) (events : List Event) (reader : OpenReader) → IsLater mounts (packed_by start p) now → IsLawful now.state events → (o : HasOpenedIn caller now events reader) → p.writer.room ≡ reader.room
    → HoldsWrites (moment_after (moment_after now o.before) (o.first ∷ o.more)) o.cut p.writer p.put.writes

pub packed_held : KeptLaw → (name : Name) (region : ℕ) (files : List NamedFile) (until : ℕ) (start : Moment) (end : State) → IsSoundAt start → Packs name region files start.state (Ok (packed.All until)) end
    → (p : HasPacked name region files until start end) × LaterReadersHold name region files until start end p
packed_held law name region files until start end sound packs =
    let p : HasPacked name region files until start end = packed_keeps law name region files until start end sound packs in
    let met : Moment = moment_after start p.opening in
    let then : IsSoundAt (packed_by start p) = sound_after met p.put.events p.put.lawful (sound_after start p.opening p.lawful sound) in (
      p,
      λ mounts caller now events reader later lawful o its.
          let k = keeps_mounts law mounts (packed_by start p) now p.writer p.put.writes then later p.put.keeps in
          opened_holds law caller now events reader p.writer p.put.writes k.0 lawful o its k.1,
    )

-- What a cut has of a room, where all is as a plain machine has it: the writes that have landed there, and its truncates.
use Rattle.std.proofs.Common.{◌≡◌, ℕ, List, Some, sym, ap, ◌∙◌}
use Rattle.std.specs.Prelude.{slice_get}
use Rattle.plfs_types.specs.declared.entries.ShareBytes.{ShareBytes}
use Rattle.plfs_types.specs.declared.entries.Trunc.{Trunc}
use Rattle.container_layout.specs.declared.items.Item.TheVariants as item
use Rattle.container_layout.specs.Paths.{path_of}
use Rattle.attr_flow.specs.Shares.{stored_in}
use Rattle.reader_laws.specs.Gathering.{Gathered}
use Rattle.reader_laws.specs.Moments.{Dropping, IsSoundAt, Moment, Stood, file_told, landed}
use Rattle.reader_laws.specs.GatheringOpening.{HasView}
use Rattle.reader_laws.specs.View.{changes_in, writes_in}
use Rattle.look_laws.specs.Shares.{shares_seen}
use Rattle.outcomes.specs.Counts.{cut_of}
use Rattle.reader_laws.specs.Covering.{counts_in}
use Rattle.plain_file.specs.File.{plain_size, stored_bytes}
use Rattle.plain_machine.specs.Machine.{Plain, PlainRoom}
use Rattle.plain_machine.specs.Landed.{changes, counts, landed_writes, shares}
use Rattle.plain_plays.specs.Mirrors.{Mirrors}
use Rattle.plain_plays.proofs.PlainSteps.ByName.Cuts.{truncs_same, writes_same}
use Rattle.plain_plays.proofs.PlainSteps.ByName.Looking.{IsAlike, landed_alike, machine_alike}
use Rattle.plain_plays.proofs.PlainSteps.Looks.Counts.{cut_counts}
use Rattle.plain_plays.proofs.PlainSteps.Looks.Amounts.{shares_same, stored_same}
use Rattle.plain_plays.proofs.PlainSteps.Steps.Owners.{its_room}

-- The cut has the writes that have landed in the room, and the truncates are the room's.
pub record SeesRoom (end : Moment) (cut : List Gathered) (truncs : List Trunc) (room : PlainRoom) : Type 0 where
  pub writes : writes_in end cut ≡ landed_writes room.writers
  pub truncs_are : truncs ≡ room.truncs
  pub shares_are : shares_seen end cut ≡ shares room.writers
  pub counts_are : cut_of (counts_in end cut) ≡ counts room.writers

module _ (m begin until : Moment) (begins : IsAlike m begin) (ends : IsAlike m until) (sound : IsSoundAt until) (p : Plain) (o : Mirrors m p) (n : ℕ) (room : PlainRoom) (there : slice_get p.rooms n ≡ Some room) (cut : List Gathered) (truncs : List Trunc) (v : HasView begin until n cut truncs) where
  landed_same : (d : Dropping) → landed begin d ≡ landed until d
  landed_same d = landed_alike m begin d begins.tree ∙ sym (landed_alike m until d ends.tree)

  stays : (d : Dropping) → Stood until d → Stood begin d
  stays d h = record { is_item = h.is_item; bytes = h.bytes; there = ap (λ t. file_told t d.room (path_of (item.Index d.host d.writer))) (begins.tree ∙ sym ends.tree) ∙ h.there }

  pub sees_room : SeesRoom until cut truncs room
  sees_room =
      let r = its_room until p n room (machine_alike m until ends sound p o) there in
      record {
        writes = writes_same begin until n cut truncs v landed_same stays r.0 room r.2;
        truncs_are = truncs_same begin until n cut truncs v landed_same stays r.0 room r.2;
        shares_are = shares_same begin until sound n cut truncs v landed_same stays r.0 room r.2;
        counts_are = cut_counts begin until n cut truncs v landed_same stays r.0 room r.2;
      }

  -- so are its changes
  pub changes_same : changes_in until cut truncs ≡ changes (landed_writes room.writers) room.truncs
  changes_same = ap (λ ws. changes ws truncs) sees_room.writes ∙ ap (changes (landed_writes room.writers)) sees_room.truncs_are

  -- and what is told of it
  pub size_same : (size : ℕ) → size ≡ plain_size (changes_in until cut truncs) → size ≡ plain_size (changes (landed_writes room.writers) room.truncs)
  size_same size is = is ∙ ap plain_size changes_same

  pub bytes_same : (parts : List ShareBytes) (stored : ℕ) → parts ≡ shares_seen until cut → stored ≡ stored_in parts → (parts ≡ shares room.writers) × (stored ≡ stored_bytes (changes (landed_writes room.writers) room.truncs))
  bytes_same parts stored are is =
      let same : parts ≡ shares room.writers = are ∙ sees_room.shares_are in
      (same, is ∙ ap stored_in same ∙ stored_same room.writers room.truncs)

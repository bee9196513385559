-- What the target has of a writer that was settled there is kept.
use Rattle.std.proofs.Common.{◌≡◌, ℕ, ◌*◌, ◌≤◌, ◌<◌, List, length, take, Option, Some, None, refl, ap, sym, ◌∙◌, inl, inr, subst, arith}
use Rattle.std.specs.Prelude.{slice_get}
use Rattle.std.proofs.lemmas.Bool.{cases_lt}
use Rattle.std.proofs.lemmas.List.{take-append-le}
use Rattle.plfs_types.specs.declared.entries.Entry.{Entry}
use Rattle.container_layout.specs.declared.items.Item.TheVariants.{Index}
use Rattle.index_entry.proofs.Facts.{length-spelling_all}
use Rattle.store_api.specs.declared.tree.Room.{Room}
use Rattle.store_api.specs.declared.tree.Tree.{Tree}
use Rattle.store_laws.specs.Files.{file_at, kept_at}
use Rattle.store_laws.proofs.Facts.{kept_at_none, none_in}
use Rattle.mount_model.specs.Paths.{index_path, log_path}
use Rattle.mount_sound.specs.Dropping.{IsKeptWhole, IsWriter, bytes_of, log_bytes}
use Rattle.mount_sound.specs.Entries.{logged}
use Rattle.mount_sound.specs.Growing.{IsMore}
use Rattle.mount_sound.specs.Items.{HasItem, HasMeta}
use Rattle.mount_sound.specs.Ledger.{Written, entries_in}
use Rattle.mount_sound.specs.Sound.{IsSoundTree}
use Rattle.mount_sound.proofs.Facts.{entries_take, logged_take, take_less}
use Rattle.reader_laws.proofs.Gathered.Facts.{length-entries, length_taken}
use Rattle.drain_laws.proofs.Copying.Mild.{IsKeptTo}

module _ (t : Tree) (sound : IsSoundTree t) (k : ℕ) (room : Room) (there : slice_get t.rooms k ≡ Some room) (host other writer : ℕ) (meta : HasMeta room other writer) (bytes : List ℕ) (has : HasItem room (Index host writer) bytes)
    (issued : List Written) (more : IsMore (sound.issued k writer) issued) (count : ℕ) (many : 40 * count ≤ length bytes) where
  its : IsWriter room writer (sound.issued k writer)
  its = (sound.rooms k room there).writers writer has.is_item.widths.1

  same_host : host ≡ its.host
  same_host = its.one_host host (inl (bytes, has))

  other_host : other ≡ its.host
  other_host = its.one_host other (inr (inr meta))

  entries : List Entry
  entries = take its.landed (entries_in (sound.issued k writer))

  whole : IsKeptWhole room host writer entries
  unfolding entries
  whole = subst (λ h. IsKeptWhole room h writer (take its.landed (entries_in (sound.issued k writer)))) (sym same_host) (its.settled (subst (λ h. HasMeta room h writer) other_host meta))

  enough : count ≤ length entries
  enough = omega (arith, many, ap length (ap bytes_of (sym has.there) ∙ whole.index), length-spelling_all entries)

  some_issued : length entries ≤ length (sound.issued k writer)
  unfolding entries
  some_issued = omega (arith, length_taken its.landed (entries_in (sound.issued k writer)) (omega (arith, its.within, length-entries (sound.issued k writer))), its.within)

  same_first : take count (entries_in issued) ≡ take count entries
  unfolding entries
  same_first =
      sym (entries_take count issued)
      ∙ ap entries_in (ap (take count) more.1 ∙ take-append-le count (sound.issued k writer) more.0 (omega (arith, enough, some_issued)))
      ∙ entries_take count (sound.issued k writer)
      ∙ sym (take_less count its.landed (entries_in (sound.issued k writer)) (omega (arith, enough, length_taken its.landed (entries_in (sound.issued k writer)) (omega (arith, its.within, length-entries (sound.issued k writer))))))

  pub settled_index : IsKeptTo t k (index_path host writer) (40 * count)
  settled_index = inr (record { room = room; bytes = bytes; has_room = there; there = has.there; long = many; kept = omega (arith, whole.index_kept, enough) })

  fewer : logged (take count (entries_in issued)) ≤ kept_at room (log_path host writer)
  fewer = omega (arith, whole.log_kept, logged_take count entries, ap logged same_first)

  pub settled_log : logged (take count (entries_in issued)) ≤ length (log_bytes room host writer) → IsKeptTo t k (log_path host writer) (logged (take count (entries_in issued)))
  settled_log within = elim (cases_lt 0 (logged (take count (entries_in issued)))) as (λ _. IsKeptTo t k (log_path host writer) (logged (take count (entries_in issued)))) [
    | inr least ↦ inl (omega (arith, least))
    | inl some ↦ found (file_at room (log_path host writer)) refl some
  ]
    where
      found : (file : Option (List ℕ)) → file_at room (log_path host writer) ≡ file → 0 < logged (take count (entries_in issued)) → IsKeptTo t k (log_path host writer) (logged (take count (entries_in issued)))
      found None e some = absurd (omega (arith, some, fewer, kept_at_none room (log_path host writer) (none_in room (log_path host writer) e)))
      found (Some log) e some = inr (record { room = room; bytes = log; has_room = there; there = e; long = omega (arith, within, ap (λ o. length (bytes_of o)) e); kept = fewer })

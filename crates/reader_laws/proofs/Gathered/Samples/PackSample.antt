-- Calls that gather a packed index.
use Rattle.std.proofs.Common.{ℕ, ◌-◌, ◌≤◌, List, [], ◌∷◌, length, take, drop, None, true, refl, ap, sym, inl, inr, subst, arith}
use Rattle.std.proofs.lemmas.Bool.{cases_eq}
use Rattle.std.proofs.lemmas.List.{append-nil, length-drop, take-append-drop}
use Rattle.plfs_types.specs.declared.entries.Entry.{Entry}
use Rattle.index_pack.specs.Spelling.{Packs}
use Rattle.index_pack.proofs.Facts.{head_spelled}
use Rattle.store_api.specs.declared.step.Answer.{Answer}
use Rattle.store_api.specs.declared.step.Answer.TheVariants.{Number, Bytes}
use Rattle.mount_model.specs.declared.call.Call.TheVariants.{Look}
use Rattle.mount_model.specs.declared.call.Look.{Look as Sight}
use Rattle.mount_model.specs.declared.call.Look.TheVariants.{Length, Read}
use Rattle.mount_model.specs.declared.reply.Reply.TheVariants.{Looked}
use Rattle.reader_laws.specs.Moments.{Dropping, IsNamed}
use Rattle.reader_laws.specs.Seen.{Asked}
use Rattle.reader_laws.specs.Files.{AreFileReads}
use Rattle.reader_laws.specs.Gathering.{Gathers}
use Rattle.reader_laws.specs.Packs.{ReadsRest, TellsCount, pack_of}
use Rattle.reader_laws.proofs.Gathered.Indices.PackReading.{all_dropped}

abbrev looked : Dropping → Sight → Answer → Asked
looked d look answer = record { ask = record { call = Look d.room look; stop = None }; reply = Looked answer }

abbrev asks_length : Dropping → List ℕ → Asked
asks_length d bytes = looked d (Length (pack_of d)) (Number (length bytes))

abbrev reads_head : Dropping → List ℕ → Asked
reads_head d bytes = looked d (Read (pack_of d) 0 24) (Bytes (take 24 bytes))

abbrev reads_rest : Dropping → List ℕ → Asked
reads_rest d bytes = looked d (Read (pack_of d) 24 (length bytes - 24)) (Bytes (drop 24 bytes))

tells : (bytes : List ℕ) (entries : List Entry) → Packs bytes entries → TellsCount (take 24 bytes) (length entries)
tells bytes entries packs = record { runs = length packs.runs; fits = packs.spells.counted; spelled = ap (take 24) packs.spells.spelled }

has_head : (bytes : List ℕ) (entries : List Entry) → Packs bytes entries → 24 ≤ length bytes
has_head bytes entries packs = omega (arith, (head_spelled bytes (length entries) packs.runs packs.spells).long)

rest_read : (d : Dropping) (bytes : List ℕ) (entries : List Entry) → Packs bytes entries → AreFileReads d.room (pack_of d) 24 (length bytes) (reads_rest d bytes ∷ []) (drop 24 bytes)
rest_read d bytes entries packs = (
  length bytes - 24,
  drop 24 bytes,
  [],
  record { call = refl; reply = refl },
  (omega (arith, has_head bytes entries packs, length-drop 24 bytes), refl),
  sym (append-nil (drop 24 bytes)),
)

-- the calls, with these behind the head
by_reads : (d : Dropping) (bytes : List ℕ) (entries : List Entry) (covered : ℕ) (reads : List Asked) → IsNamed d → Packs bytes entries → ReadsRest d (length bytes) (length entries) covered (take 24 bytes) reads (drop covered entries)
    → Gathers (record { dropping = d; packed = true; covered = covered; count = length entries; tail = drop covered entries }) (asks_length d bytes ∷ reads_head d bytes ∷ reads)
by_reads d bytes entries covered reads named packs rest = record {
  named = named;
  reads = record {
    first = asks_length d bytes;
    second = reads_head d bytes;
    reads = reads;
    calls = refl;
    told = length bytes;
    head = take 24 bytes;
    pack_length = record { call = refl; reply = refl };
    pack_head = record { call = refl; reply = refl };
    tells = tells bytes entries packs;
    rest = rest;
  };
}

-- Each packed index can be gathered, whatever is covered of it.
pub gathers_packed : (d : Dropping) (bytes : List ℕ) (entries : List Entry) (covered : ℕ) → IsNamed d → Packs bytes entries → covered ≤ length entries
    → (asked : List Asked) × Gathers (record { dropping = d; packed = true; covered = covered; count = length entries; tail = drop covered entries }) asked
gathers_packed d bytes entries covered named packs within = elim (cases_eq (length entries) covered) as (λ _. (asked : List Asked) × Gathers (record { dropping = d; packed = true; covered = covered; count = length entries; tail = drop covered entries }) asked) [
  | inl all ↦ (asks_length d bytes ∷ reads_head d bytes ∷ [], by_reads d bytes entries covered [] named packs (inl (all, refl, all_dropped covered entries (omega (arith, all)))))
  | inr some ↦ (
    asks_length d bytes ∷ reads_head d bytes ∷ reads_rest d bytes ∷ [],
    by_reads d bytes entries covered (reads_rest d bytes ∷ []) named packs
        (inr (some, (drop 24 bytes, entries, rest_read d bytes entries packs, subst (λ b. Packs b entries) (sym (take-append-drop 24 bytes)) packs, refl))),
  )
]

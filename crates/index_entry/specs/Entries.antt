-- The rules of a writer's entries, and what is told of them together.
use Rattle.std.specs.Prelude.{◌≡◌, ◌+◌, ◌≤◌, ◌<◌, ℕ, List, [], ◌∷◌}
use Rattle.plfs_types.specs.declared.limits.TheConstants.{MAX_SIZE, MAX_STAMP}
use Rattle.plfs_types.specs.declared.entries.Entry.{Entry}

-- The entry may follow one with this stamp, where so many bytes were logged before.
pub record MayFollow (writer last offset : ℕ) (e : Entry) : Type 0 where
  pub some : 1 ≤ e.len
  pub within : e.at + e.len ≤ MAX_SIZE
  pub owner : e.writer ≡ writer
  pub later : last < e.stamp
  pub in_range : e.stamp ≤ MAX_STAMP
  pub place : e.physical ≡ offset

-- each entry may follow the one before it
abbrev pub AreEntriesOf : ℕ → ℕ → ℕ → List Entry → Type 0
AreEntriesOf writer last offset [] = Unit {0}
AreEntriesOf writer last offset (e ∷ es) = MayFollow writer last offset e × AreEntriesOf writer e.stamp (offset + e.len) es

-- how many bytes the entries logged
abbrev pub logged : List Entry → ℕ
logged [] = 0
logged (e ∷ es) = e.len + logged es

-- the stamp of the last entry, or this one where there is none
abbrev pub last_stamp : ℕ → List Entry → ℕ
last_stamp last [] = last
last_stamp last (e ∷ es) = last_stamp e.stamp es

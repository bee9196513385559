-- The size that metadata and truncates tell.
use Rattle.std.specs.Prelude.{ℕ, max, if◌then◌else◌, List, [], ◌∷◌, Option}
use Rattle.plfs_types.specs.declared.entries.Trunc.{Trunc}
use Rattle.plain_file.specs.Size.{last_trunc, size_given, is_after}
use Rattle.mount_model.specs.declared.names.Metadata.{Metadata}

-- the greatest end that writers left whose last stamp is above that of the truncate
abbrev pub end_left_after : Option Trunc → List Metadata → ℕ
end_left_after last [] = 0
end_left_after last (m ∷ metas) = if is_after last m.stamp then max m.last (end_left_after last metas) else end_left_after last metas

-- the size that the last truncate gave, or a greater end that was left after it
abbrev pub cached_size : List Metadata → List Trunc → ℕ
cached_size metas truncs = max (size_given (last_trunc truncs)) (end_left_after (last_trunc truncs) metas)

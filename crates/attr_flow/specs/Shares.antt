-- The bytes of each writer, but for writers that have none.
use Rattle.std.specs.Prelude.{ℕ, ◌+◌, ◌==◌, if◌then◌else◌, List, [], ◌∷◌}
use Rattle.plfs_types.specs.declared.entries.Cover.{Cover}
use Rattle.plfs_types.specs.declared.entries.ShareBytes.{ShareBytes}
use Rattle.mount_model.specs.declared.names.Metadata.{Metadata}

-- with one writer's bytes more, where there are some
abbrev pub with_share : ℕ → ℕ → List ShareBytes → List ShareBytes
with_share writer bytes shares = if bytes == 0 then shares else record { writer = writer; bytes = bytes } ∷ shares

abbrev pub shares_left : List Metadata → List ShareBytes
shares_left [] = []
shares_left (m ∷ metas) = with_share m.writer m.bytes (shares_left metas)

abbrev pub shares_covered : List Cover → List ShareBytes
shares_covered [] = []
shares_covered (c ∷ covers) = with_share c.writer c.bytes (shares_covered covers)

-- the bytes of all of them
abbrev pub stored_in : List ShareBytes → ℕ
stored_in [] = 0
stored_in (s ∷ shares) = s.bytes + stored_in shares

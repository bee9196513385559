-- The heads of requests as bytes.
use Rattle.std.specs.Prelude.{ℕ, ◌<◌, ◌^◌, List, ◌++◌}
use Rattle.std.specs.Int.{w64, to_le_bytes}
use Rattle.frame_format.specs.declared.head.Head.{Head}

-- six numbers of 8 bytes, the lowest byte first
unfoldable pub head_bytes : Head → List ℕ
head_bytes head =
    to_le_bytes w64 head.kind
    ++ to_le_bytes w64 head.actor
    ++ to_le_bytes w64 head.number
    ++ to_le_bytes w64 head.place
    ++ to_le_bytes w64 head.extent
    ++ to_le_bytes w64 head.len

-- each number has a place of 8 bytes
pub record FitsHead (head : Head) : Type 0 where
  pub kind_fits : head.kind < 2 ^ 64
  pub actor_fits : head.actor < 2 ^ 64
  pub number_fits : head.number < 2 ^ 64
  pub place_fits : head.place < 2 ^ 64
  pub extent_fits : head.extent < 2 ^ 64
  pub len_fits : head.len < 2 ^ 64

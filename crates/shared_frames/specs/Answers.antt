-- Where an answer ends.
use Rattle.std.specs.Prelude.{ℕ, ◌-◌, ◌==◌, ◌&&◌, nat_le, nat_lt, if◌then◌else◌, Bool, List, length}
use Rattle.index_entry.specs.Spelling.{number_in}

-- of the bytes of an answer that came so far: how many are missing of its head, or where that is there of what it says
abbrev pub missing : List ℕ → ℕ
missing came = if nat_lt (length came) 32 then 32 - length came else number_in 24 came - (length came - 32)

-- they are all of it
abbrev pub is_whole : List ℕ → Bool
is_whole came = nat_le 32 (length came) && missing came == 0

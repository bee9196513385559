-- The store that gets a new room.
use Rattle.std.specs.Prelude.{ℕ, ◌%◌, sum, if◌then◌else◌}
use Rattle.store_api.specs.Step.{Name}
use Rattle.store_api.specs.Names.{same_name}
use Rattle.store_api.specs.Names.{marks_name}

-- of so many stores, the one that gets a new room of this name: the first gets the marks, and of other names the sum of the bytes tells it
abbrev pub home_of : Name → ℕ → ℕ
home_of name count = if same_name name marks_name then 0 else sum name % count

-- What contracts see of a mount beside its store and clock: its marks, the serials that it drew, and its table.
use Rattle.std.specs.Prelude.{ℕ, List, [], Option, None, refl}
use Rattle.std.specs.Coded.{Coded, code_by, coded×, coded_ℕ}
use Rattle.store_api.specs.Acts.{Stored}
use Rattle.mount_model.specs.State.{State, Table}
use Rattle.mount_model.specs.Regular.{IsRegular}
use Rattle.mount_model.specs.Codes.{table_code}

pub record Roll : Type 0 where
  -- the room of the mounts' marks, and this mount's mark
  pub marks : ℕ
  pub mount : ℕ
  -- the last serial that was drawn
  pub serial : ℕ
  pub table : Table

abbrev pub roll_code : Coded Roll
roll_code = code_by (ℕ × (ℕ × (ℕ × Table)))
    (coded× coded_ℕ (coded× coded_ℕ (coded× coded_ℕ table_code)))
    (λ r. (r.marks, (r.mount, (r.serial, r.table))))
    (λ p. record { marks = p.0; mount = p.1.0; serial = p.1.1.0; table = p.1.1.1 }) (λ _. refl)

-- the mount's state, with its store now and as it was when mounting began, and the clock's times to come
abbrev pub state_of : Stored → Stored → Option (List ℕ) → Roll → State
state_of store opened times roll = record {
  store = store;
  opened = opened;
  times = times;
  marks = roll.marks;
  mount = roll.mount;
  serial = roll.serial;
  table = roll.table;
}

-- a store of which nothing is told, and which was not asked
abbrev pub unknown : Stored
unknown = record { tree = None; acts = 0; faults = 0 }

-- the state of which nothing more is known
abbrev pub bare : Roll → State
bare roll = state_of unknown unknown None roll

-- what holds of the table in every state, whatever the store and the clock are
abbrev pub IsRegularRoll : Roll → Type 0
IsRegularRoll roll = IsRegular (bare roll)

-- the roll of a mount that was opened
abbrev pub new_roll : ℕ → ℕ → ℕ → Roll
new_roll marks mount serial = record { marks = marks; mount = mount; serial = serial; table = record { writers = []; holders = []; flattenings = [] } }

-- the roll with another table
abbrev pub with_table : Table → Roll → Roll
with_table table roll = record roll { table = table }

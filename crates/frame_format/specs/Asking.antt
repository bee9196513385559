-- What is read of a request's numbers and bytes.
use Rattle.std.specs.Prelude.{ℕ, ◌^◌, ◌==◌, ◌&&◌, nat_le, nat_lt, if◌then◌else◌, List, length, take, drop, Option, Some, None, option_map}
use Rattle.script_lang.specs.declared.script.Data.TheVariants as data_of
use Rattle.script_lang.specs.declared.script.Numbered.{Numbered}
use Rattle.script_lang.specs.declared.script.Statement.{Statement}
use Rattle.script_lang.specs.declared.script.Statement.TheVariants as statement
use Rattle.frame_format.specs.declared.head.Head.{Head}
use Rattle.plfs_types.specs.Names.{name_of}

-- no numbers and no bytes
abbrev pub if_bare : Statement → ℕ → ℕ → List ℕ → Option Statement
if_bare made place extent payload = if place == 0 && extent == 0 && length payload == 0 then Some made else None

-- a name alone
abbrev pub alone_name : ℕ → ℕ → List ℕ → Option (List ℕ)
alone_name place extent payload = if place == 0 && extent == 0 then name_of payload else None

abbrev pub of_name : (List ℕ → Statement) → ℕ → ℕ → List ℕ → Option Statement
of_name made place extent payload = option_map made (alone_name place extent payload)

abbrev pub written : ℕ → ℕ → List ℕ → Option Statement
written place extent payload = if extent == 0 && nat_le (length payload) (2 ^ 24) then Some (statement.Write place (data_of.Hex payload)) else None

abbrev pub opened : ℕ → ℕ → List ℕ → Option Statement
opened place extent payload = if nat_le 1 place && nat_le place 16 && extent == 0 then option_map (λ name. statement.Ropen name place) (name_of payload) else None

abbrev pub read_from : ℕ → ℕ → List ℕ → Option Statement
read_from place extent payload = if nat_le extent (2 ^ 24) && length payload == 0 then Some (statement.Read place extent) else None

abbrev pub cut_to : ℕ → ℕ → List ℕ → Option Statement
cut_to place extent payload = if extent == 0 then option_map (λ name. statement.Trunc name place) (name_of payload) else None

-- two names
abbrev pub both_names : Option (List ℕ) → Option (List ℕ) → Option Statement
both_names (Some name) (Some to) = Some (statement.Rename name to)
both_names (Some name) None = None
both_names None to = None

abbrev pub renamed : ℕ → ℕ → List ℕ → Option Statement
renamed place extent payload = if place == 0 && nat_le extent (length payload) then both_names (name_of (take extent payload)) (name_of (drop extent payload)) else None

-- the statement of these numbers and bytes
abbrev pub asked_in : ℕ → ℕ → ℕ → List ℕ → Option Statement
asked_in kind place extent payload =
    if kind == 1 then of_name statement.Open place extent payload
    else if kind == 2 then written place extent payload
    else if kind == 3 then if_bare statement.Sync place extent payload
    else if kind == 4 then if_bare statement.Close place extent payload
    else if kind == 5 then opened place extent payload
    else if kind == 6 then read_from place extent payload
    else if kind == 7 then if_bare statement.Refresh place extent payload
    else if kind == 8 then if_bare statement.Map place extent payload
    else if kind == 9 then if_bare statement.Rclose place extent payload
    else if kind == 10 then of_name statement.Stat place extent payload
    else if kind == 11 then cut_to place extent payload
    else if kind == 12 then renamed place extent payload
    else if kind == 13 then of_name statement.Flatten place extent payload
    else if kind == 14 then of_name statement.Recover place extent payload
    else if kind == 15 then if_bare statement.Ls place extent payload
    else None

-- the statement, on the line of the client's number
abbrev pub numbered : Head → Statement → Numbered
numbered head made = record { line = head.number; actor = head.actor; statement = made }

-- the request that a head and the bytes behind it are
abbrev pub request_of : Head → List ℕ → Option Numbered
request_of head payload =
    if nat_lt head.actor 256 && head.len == length payload
    then option_map (numbered head) (asked_in head.kind head.place head.extent payload)
    else None

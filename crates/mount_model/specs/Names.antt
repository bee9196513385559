-- Which item of its folder has a name.
use Rattle.std.specs.Prelude.{ℕ, zero, suc, ◌+◌, ◌^◌, ◌&&◌, ◌==◌, nat_lt, Bool, true, false, if◌then◌else◌, List, [], ◌∷◌, Option, Some, None}
use Rattle.plfs_types.specs.declared.entries.Trunc.{Trunc}
use Rattle.container_layout.specs.declared.items.Item.{Item}
use Rattle.container_layout.specs.declared.items.Item.TheVariants as item
use Rattle.container_layout.specs.Paths.{path_of}
use Rattle.mount_model.specs.Paths.{Name}
use Rattle.mount_model.specs.declared.names.Metadata.{Metadata}
use Rattle.mount_model.specs.declared.names.OpenEntry.{OpenEntry}

abbrev pub or_else : {X : Type 0} → Option X → Option X → Option X
or_else None other = other
or_else (Some x) other = Some x

-- the first that is found below a number
abbrev pub find_below : {X : Type 0} → (ℕ → Option X) → ℕ → Option X
find_below f zero = None
find_below f (suc n) = or_else (find_below f n) (f n)

abbrev pub same_bytes : List ℕ → List ℕ → Bool
same_bytes [] [] = true
same_bytes [] (y ∷ ys) = false
same_bytes (x ∷ xs) [] = false
same_bytes (x ∷ xs) (y ∷ ys) = (x == y) && same_bytes xs ys

-- this one, where the name is that of the item's file
abbrev pub named : {X : Type 0} → Name → Item → X → Option X
named name i x = if same_bytes name (path_of i).file then Some x else None

-- all three are 0 or none is
abbrev pub all_or_none : ℕ → ℕ → ℕ → Bool
all_or_none last bytes stamp =
    if last == 0 then (bytes == 0) && (stamp == 0) else nat_lt 0 bytes && nat_lt 0 stamp

-- what a writer left with these numbers, where the name is that of its metadata dropping
abbrev pub meta_at : Name → ℕ → ℕ → ℕ → ℕ → ℕ → Option Metadata
meta_at name last bytes stamp host writer =
    if all_or_none last bytes stamp
    then named name (item.Meta last bytes stamp host writer) (record { last = last; bytes = bytes; stamp = stamp; host = host; writer = writer })
    else None

-- what the writer left whose metadata dropping has this name
unfoldable pub meta_in : Name → Option Metadata
meta_in name =
    find_below (λ last. find_below (λ bytes. find_below (λ stamp. find_below (λ host. find_below
    (meta_at name last bytes stamp host) (2 ^ 64)) (2 ^ 32)) (2 ^ 63)) (2 ^ 56 + 1)) (2 ^ 40 + 1)

-- the truncate of this stamp and size, where the name is that of its dropping
abbrev pub trunc_at : Name → ℕ → ℕ → Option Trunc
trunc_at name stamp size = if nat_lt 0 stamp then named name (item.Trunc stamp size) (record { stamp = stamp; size = size }) else None

-- the truncate whose dropping has this name
unfoldable pub trunc_in : Name → Option Trunc
trunc_in name = find_below (λ stamp. find_below (trunc_at name stamp) (2 ^ 40 + 1)) (2 ^ 63)

abbrev pub open_at : Name → ℕ → ℕ → Option OpenEntry
open_at name host writer = named name (item.OpenHost host writer) (record { host = host; writer = writer })

-- the writer whose entry among those that have the container open has this name
unfoldable pub open_in : Name → Option OpenEntry
open_in name = find_below (λ host. find_below (open_at name host) (2 ^ 64)) (2 ^ 32)

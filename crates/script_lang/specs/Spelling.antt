-- How statements and their data are written.
use Rattle.std.specs.Prelude.{◌≡◌, ◌⊎◌, ℕ, ◌≤◌, ◌<◌, ◌^◌, ◌&&◌, nat_le, Bool, true, List, [], ◌∷◌, ◌++◌, codes}
use Rattle.std.specs.Fmt.{decimal}
use Rattle.std.specs.List.{list_all}
use Rattle.hex.specs.Hex.{encode_lower, IsBytes}
use Rattle.plfs_types.specs.Names.{IsLogicalName}
use Rattle.script_lang.specs.declared.script.Data.{Data}
use Rattle.script_lang.specs.declared.script.Data.TheVariants as data_of
use Rattle.script_lang.specs.declared.script.Statement.{Statement}
use Rattle.script_lang.specs.declared.script.Statement.TheVariants as statement

-- a byte that is seen: 0x21 to 0x7e
abbrev pub is_seen : ℕ → Bool
is_seen b = nat_le 33 b && nat_le b 126

-- the word of some data
abbrev pub data_word : Data → List ℕ
data_word (data_of.Hex bytes) = codes "hex:" ++ encode_lower bytes
data_word (data_of.Text bytes) = codes "text:" ++ bytes
data_word (data_of.Fill len byte) = codes "fill:" ++ (decimal len ++ 58 ∷ decimal byte)
data_word (data_of.Ramp len first) = codes "ramp:" ++ (decimal len ++ 58 ∷ decimal first)

-- data in its ranges
abbrev pub IsData : Data → Type 0
IsData (data_of.Hex bytes) = IsBytes bytes
IsData (data_of.Text bytes) = list_all is_seen bytes ≡ true
IsData (data_of.Fill len byte) = (len ≤ 2 ^ 24) × (byte ≤ 255)
IsData (data_of.Ramp len first) = (len ≤ 2 ^ 24) × (first ≤ 255)

-- the words of a statement, behind the name of its actor; only the workers of a reader may be left out, where there is one
abbrev pub SpellsStatement : Statement → List (List ℕ) → Type 0
SpellsStatement (statement.Open name) words = IsLogicalName name × (words ≡ codes "open" ∷ name ∷ [])
SpellsStatement (statement.Write at content) words = (at < 2 ^ 64) × IsData content × (words ≡ codes "write" ∷ decimal at ∷ data_word content ∷ [])
SpellsStatement statement.Sync words = words ≡ codes "sync" ∷ []
SpellsStatement statement.Close words = words ≡ codes "close" ∷ []
SpellsStatement (statement.Ropen name workers) words = IsLogicalName name × (1 ≤ workers) × (workers ≤ 16) × ((words ≡ codes "ropen" ∷ name ∷ decimal workers ∷ []) ⊎ ((words ≡ codes "ropen" ∷ name ∷ []) × (workers ≡ 1)))
SpellsStatement (statement.Read at len) words = (at < 2 ^ 64) × (len ≤ 2 ^ 24) × (words ≡ codes "read" ∷ decimal at ∷ decimal len ∷ [])
SpellsStatement (statement.Verify at content) words = (at < 2 ^ 64) × IsData content × (words ≡ codes "verify" ∷ decimal at ∷ data_word content ∷ [])
SpellsStatement statement.Map words = words ≡ codes "map" ∷ []
SpellsStatement statement.Refresh words = words ≡ codes "refresh" ∷ []
SpellsStatement statement.Rclose words = words ≡ codes "rclose" ∷ []
SpellsStatement (statement.Stat name) words = IsLogicalName name × (words ≡ codes "stat" ∷ name ∷ [])
SpellsStatement (statement.Flatten name) words = IsLogicalName name × (words ≡ codes "flatten" ∷ name ∷ [])
SpellsStatement (statement.Recover name) words = IsLogicalName name × (words ≡ codes "recover" ∷ name ∷ [])
SpellsStatement (statement.Trunc name size) words = IsLogicalName name × (size < 2 ^ 64) × (words ≡ codes "trunc" ∷ name ∷ decimal size ∷ [])
SpellsStatement (statement.Rename name to) words = IsLogicalName name × IsLogicalName to × (words ≡ codes "rename" ∷ name ∷ to ∷ [])
SpellsStatement statement.Ls words = words ≡ codes "ls" ∷ []
SpellsStatement (statement.Stop call bytes) words = (1 ≤ call) × (call < 2 ^ 64) × (bytes < 2 ^ 64) × (words ≡ codes "stop" ∷ decimal call ∷ decimal bytes ∷ [])

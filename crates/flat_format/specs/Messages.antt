-- What is printed of a trouble.
use Rattle.std.specs.Prelude.{ℕ, List, ◌++◌, codes}
use Rattle.std.specs.Fmt.{decimal}
use Rattle.flat_format.specs.declared.flat.FlatTrouble.{FlatTrouble}
use Rattle.flat_format.specs.declared.flat.FlatTrouble.TheVariants.{NoMemory, Bad}

abbrev pub trouble_text : FlatTrouble → List ℕ
trouble_text NoMemory = codes "memory was refused"
trouble_text (Bad place) = codes "the flattened index is bad at byte " ++ decimal place

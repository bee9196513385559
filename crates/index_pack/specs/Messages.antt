-- What is printed of a trouble.
use Rattle.std.specs.Prelude.{ℕ, List, ◌++◌, codes}
use Rattle.std.specs.Fmt.{decimal}
use Rattle.index_pack.specs.declared.trouble.PackTrouble.{PackTrouble}
use Rattle.index_pack.specs.declared.trouble.PackTrouble.TheVariants.{NoMemory, Bad}

abbrev pub trouble_text : PackTrouble → List ℕ
trouble_text NoMemory = codes "memory was refused"
trouble_text (Bad place) = codes "the packed index is bad at byte " ++ decimal place

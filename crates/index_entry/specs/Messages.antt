-- What is printed of the rule that an entry breaks.
use Rattle.std.specs.Prelude.{ℕ, List, codes}
use Rattle.index_entry.specs.declared.reading.BadEntry.{BadEntry}
use Rattle.index_entry.specs.declared.reading.BadEntry.TheVariants.{ZeroLength, TooFar, StampRange}

abbrev pub rule_text : BadEntry → List ℕ
rule_text ZeroLength = codes "the length is 0"
rule_text TooFar = codes "the entry ends past 2^40"
rule_text StampRange = codes "the stamp is 0 or above 2^63 - 1"

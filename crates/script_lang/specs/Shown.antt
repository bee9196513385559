-- The words of a line as plain lists.
use Rattle.script_lang.specs.declared.words.Words.{Words}
use Rattle.script_lang.specs.Spoken.{Spoken}

abbrev pub shown : Words → Spoken
shown words = record {
  count = words.count;
  first = words.first.now;
  second = words.second.now;
  third = words.third.now;
  fourth = words.fourth.now;
}

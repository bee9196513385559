use Rattle.std.proofs.Common.{rules}
use Rattle.plfs.proofs.Taking.{untaken, taken_with_files}
use Rattle.plfs.proofs.obey_copy.Goals as goal

pub returns-in_default : goal.returns-in_default
returns-in_default g c =
    record {
      usage = λ wrong. untaken _ _ _ _ c.split_from.ensures.whole c.split_from.ensures.behind wrong c.obey_import.ensures.behind c.obey_import.ensures.usage;
    }

pub returns-in-Ok : goal.returns-in-Ok
returns-in-Ok g c =
    record {
      usage = λ wrong. absurd (wrong (taken_with_files _ _ _ c.in-Some.command c.split_from.ensures.whole c.split_from.ensures.behind c.in-Some.ensures.found (search rules) c.in-len1-up.len_at_least));
    }

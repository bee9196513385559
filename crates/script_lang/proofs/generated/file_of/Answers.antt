use Rattle.std.proofs.Common.{subst, sym, ◌∙◌}
use Rattle.plfs_types.specs.Names.{IsLogicalName}
use Rattle.script_lang.proofs.Scripts.GeneratedLemmas.{is_file_name}
use Rattle.script_lang.proofs.generated.file_of.Goals as goal

pub unwrap-requires : goal.unwrap-requires
unwrap-requires c = c.read.ensures.rule.1 (subst IsLogicalName (sym (c.deref.ensures.value ∙ c.in_ok-text.ensures)) (is_file_name c.args.n c.requires))

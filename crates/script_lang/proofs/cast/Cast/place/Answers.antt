use Rattle.std.proofs.Common.{◌∙◌}
use Rattle.script_lang.specs.Names.{is_word}
use Rattle.script_lang.proofs.Scripts.Keys.{same_place}
use Rattle.script_lang.proofs.cast.Cast.place.Goals as goal

pub returns-in-Some-get_index_of-clause-place : goal.returns-in-Some-get_index_of-clause-place
returns-in-Some-get_index_of-clause-place c = rw (← c.self.view_is) (c.in-Some-get_index_of.ensures.index ∙ same_place (λ k. k.items) (λ a. a.name) (is_word c.args.name.now) c.self.inside.table.entries c.self.invariant)

pub returns-in-None-get_index_of-clause-place : goal.returns-in-None-get_index_of-clause-place
returns-in-None-get_index_of-clause-place c = rw (← c.self.view_is) (c.in-None-get_index_of.ensures.index ∙ same_place (λ k. k.items) (λ a. a.name) (is_word c.args.name.now) c.self.inside.table.entries c.self.invariant)

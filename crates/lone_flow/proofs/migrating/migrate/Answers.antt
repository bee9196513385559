use Rattle.lone_flow.proofs.Packs.{all_broken, all_caused, all_made, all_undamaged, may_migrate}
use Rattle.lone_flow.proofs.migrating.migrate.Goals as goal

pub drive-requires : goal.drive-requires
drive-requires g c = record { may = may_migrate c.args.name c.args.mount.now _ c.new.ensures c.a_migration_is_always_allowed.ensures c.requires.fine }

pub returns-clause-made : goal.returns-clause-made
returns-clause-made g c = all_made c.args.name c.args.mount.now c.drive.new.mount _ c.new.ensures c.drive.result c.a_migration_leaves_no_writer_out.ensures c.requires.fine c.drive.ensures.drives

pub returns-clause-cause : goal.returns-clause-cause
returns-clause-cause g c = all_caused c.args.name c.args.mount.now c.drive.new.mount _ c.new.ensures c.drive.result c.drive.ensures.drives

pub returns-clause-undamaged : goal.returns-clause-undamaged
returns-clause-undamaged g c = all_undamaged c.args.name c.args.mount.now c.drive.new.mount _ c.new.ensures c.drive.result (c.a_statement_shows_no_damage.ensures.migrate c.args.name) c.requires.fine c.drive.ensures.drives

pub returns-clause-broken_off : goal.returns-clause-broken_off
returns-clause-broken_off g c = all_broken c.args.name c.args.mount.now c.drive.new.mount _ c.new.ensures c.drive.result c.drive.ensures.broken_off

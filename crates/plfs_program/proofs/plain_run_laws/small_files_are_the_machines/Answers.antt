use Rattle.plfs_program.proofs.Courses.PlainMigrations.{migrated_plainly}
use Rattle.plfs_program.proofs.Courses.PlainSmallRuns.{named_plainly, unpacked_plainly}
use Rattle.plfs_program.proofs.plain_run_laws.small_files_are_the_machines.Goals as goal

pub returns-clause-unpacks : goal.returns-clause-unpacks
returns-clause-unpacks c name file given after e status quiet fed course =
    unpacked_plainly c.a_scan_tells_the_units_of_its_region.ensures c.an_open_reader_reads_its_file.ensures.bytes c.an_open_reader_reads_its_file.ensures.trouble name file given after e status quiet fed course

pub returns-clause-names : goal.returns-clause-names
returns-clause-names c name given after e status quiet fed course =
    named_plainly c.a_scan_tells_the_units_of_its_region.ensures c.an_open_reader_reads_its_file.ensures.bytes c.an_open_reader_reads_its_file.ensures.trouble name given after e status quiet fed course

pub returns-clause-migrates : goal.returns-clause-migrates
returns-clause-migrates c name given after e status quiet fed course = migrated_plainly c.migrations_change_no_file.ensures name given after e status quiet fed course

use Rattle.plain_plays.proofs.OverStores.{begins_over}
use Rattle.plain_plays.proofs.Packings.Whole.{begun_packs}
use Rattle.plain_plays.specs.Packings.{packer_script}
use Rattle.std.proofs.Common.{[]}
use Rattle.plain_plays.proofs.pack_steps.packings_are_plain.Goals as goal

pub returns-clause-on_a_mount : goal.returns-clause-on_a_mount
returns-clause-on_a_mount c = begun_packs c.a_scan_tells_the_units_of_its_region.ensures

pub returns-clause-over_a_store : goal.returns-clause-over_a_store
returns-clause-over_a_store c = λ name region files p times opened start told end known mounted begins are packs well.
    begun_packs c.a_scan_tells_the_units_of_its_region.ensures name region files p start told end known (begins_over (packer_script []) times opened start p mounted begins) are packs well

-- What other crates may cite of this crate's proofs.
pub use Rattle.packing_laws.proofs.Unpacking.Behind.{Follows, HasReached, follows}
pub use Rattle.packing_laws.proofs.Unpacking.Naming.{names_so}
pub use Rattle.packing_laws.proofs.Unpacking.OneFile.{ReadLaw, ReadTrouble, ScanLaw, reads_fail, reads_tell, scans_tell}
pub use Rattle.packing_laws.proofs.Unpacking.Openings.{HasSeen, OpeningsEnd, has_seen}
pub use Rattle.packing_laws.proofs.Unpacking.Scanning.{ScansTell}
pub use Rattle.packing_laws.proofs.Unpacking.Units.{region_there, unit_stands}
pub use Rattle.packing_laws.proofs.Unpacking.Unpacking.{ReadsFail, ReadsTell, content_so}

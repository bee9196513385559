-- What other crates may cite of this crate's proofs.
pub use Rattle.headline_laws.proofs.Plays.Writers.Asking.{Anyhow, HoldsSo, IsItsWrite, IsSparing, KeepsIts, MayAsk, statement_asks, statement_spares}
pub use Rattle.headline_laws.proofs.Plays.Callers.Carrying.{CourseOf, EndsSo, then_told}
pub use Rattle.headline_laws.proofs.Plays.Lines.Casts.{HasRole, its_role, its_workers, play_shows, readers_show}
pub use Rattle.headline_laws.proofs.Plays.Callers.Letting.{LetsUpTo, breaks, came_up_to, lets}
pub use Rattle.headline_laws.proofs.Plays.Callers.Coming.{ComesTo, GoesSo, IsQuiet, IsQuietly, all_of_first, by_itself, came_good, carried_goes, either_goes, end_alone, lets_both, lets_none, lets_one, nothing_more}
pub use Rattle.headline_laws.proofs.Plays.Lines.Counted.{play_counts, right_counts}
pub use Rattle.headline_laws.proofs.Plays.Readers.Opened.{HasFile, Keeps, keeps_later}
pub use Rattle.headline_laws.proofs.Plays.Writers.OneWriters.{KeepsWriter, OfWriter, Writes, any_back, any_front, writes_later}
pub use Rattle.headline_laws.proofs.Plays.Callers.Standing.{AllOf, Next, all_of_later, next_first, next_is, next_rest}
pub use Rattle.headline_laws.proofs.Plays.Lines.Statements.{Showed, statement_ends}
pub use Rattle.headline_laws.proofs.Plays.Lines.Undamaging.{play_undamaged, right_undamaged}

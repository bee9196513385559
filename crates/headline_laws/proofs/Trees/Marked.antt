-- A line that tells of a truncate: where in its part of the history the truncate was marked, and what it cuts.
use Rattle.std.proofs.Common.{◌≡◌, ℕ, List, [], ◌∷◌, ◌++◌, Option, sym, ap, ◌∙◌, subst, append_assoc}
use Rattle.mount_model.specs.History.{Event}
use Rattle.reader_laws.specs.Moments.{HadTrunc, Moment, moment_after}
use Rattle.reader_laws.proofs.Gathered.Facts.{moment-append}
use Rattle.script_lang.specs.declared.line.Outcome.{Outcome}
use Rattle.script_lang.specs.declared.line.Outcome.TheVariants as line
use Rattle.script_lang.specs.declared.script.Statement.{Statement}
use Rattle.script_lang.specs.declared.script.Statement.TheVariants.{Trunc as Truncate}
use Rattle.headline_laws.specs.Changing.{IsTruncated, TruncatesFile}
use Rattle.headline_laws.specs.OneFile.{OneFile}
use Rattle.headline_laws.specs.OneWriter.{OneWriter}
use Rattle.headline_laws.specs.Showing.{Shows}
use Rattle.headline_laws.proofs.Story.Lines.{room_of}

-- It was marked by this call. From then on it stands.
pub record MadeTrunc (m : Moment) (before front : List Event) (stamp size room : ℕ) : Type 0 where
  pub until : List Event
  pub marking : Event
  pub later : List Event
  pub split : front ≡ (until ++ marking ∷ []) ++ later
  pub stands : HadTrunc (moment_after m (before ++ (until ++ marking ∷ []))) room stamp size
  pub cuts : IsTruncated (moment_after m (before ++ until)) (moment_after m (before ++ (until ++ marking ∷ []))) room size stamp

made_of : (m : Moment) (n : ℕ) (before front : List Event) (name : List ℕ) (size stamp : ℕ) (f : TruncatesFile m n (record { before = before; events = front }) name size stamp) → MadeTrunc m before front stamp size f.change.room
made_of m n before front name size stamp f =
    let c = f.change in
    let held : List Event = c.earlier ++ (c.finding ∷ c.between ++ (c.holding ∷ c.more)) in
    let split : front ≡ (held ++ c.changing ∷ []) ++ c.later =
    f.made.split ∙ ap (λ z. c.earlier ++ z) (sym (append_assoc (c.finding ∷ c.between) (c.holding ∷ c.more) (c.changing ∷ c.later)))
    ∙ sym (append_assoc c.earlier (c.finding ∷ c.between ++ (c.holding ∷ c.more)) (c.changing ∷ c.later))
    ∙ sym (append_assoc held (c.changing ∷ []) c.later) in
    let once : moment_after m (before ++ (held ++ c.changing ∷ [])) ≡ moment_after (moment_after m (before ++ held)) (c.changing ∷ []) =
    ap (moment_after m) (sym (append_assoc before held (c.changing ∷ []))) ∙ moment-append m (before ++ held) (c.changing ∷ []) in
    record {
      until = held;
      marking = c.changing;
      later = c.later;
      split = split;
      stands = subst (λ x. HadTrunc x c.room stamp size) (sym once) f.truncated.stands;
      cuts = subst (λ x. IsTruncated (moment_after m (before ++ held)) x c.room size stamp) (sym once) f.truncated;
    }

pub made_trunc : (m : Moment) (n : ℕ) (before front : List Event) (nothing : ℕ) (old new : Option OneFile) (w : Option OneWriter) (name : List ℕ) (size stamp : ℕ) (s : Statement) (o : Outcome) → s ≡ Truncate name size → o ≡ line.Truncated stamp
    → (shows : Shows m n (record { before = before; events = front }) old s o new) → MadeTrunc m before front stamp size (room_of m n (record { before = before; events = front }) nothing old new w s o shows)
made_trunc m n before front nothing old new w name size stamp (Truncate name2 size2) (line.Truncated stamp2) is says shows =
    let stamps : stamp2 ≡ stamp = cc in
    let sizes : size2 ≡ size = cc in
    subst (λ x. MadeTrunc m before front stamp x shows.1.change.room) sizes (subst (λ x. MadeTrunc m before front x size2 shows.1.change.room) stamps (made_of m n before front name2 size2 stamp2 shows.1))
made_trunc m n before front nothing old new w name size stamp s o is says shows = absurd (cc)

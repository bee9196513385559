-- A writer is entered once, and has issued nothing before.
use Rattle.std.proofs.Common.{◌≡◌, ℕ, List, [], ◌∷◌, ◌++◌, sym, ap, ◌∙◌, subst, append_assoc}
use Rattle.mount_model.specs.declared.reply.Reply.TheVariants.{Entered}
use Rattle.mount_model.specs.History.{Event}
use Rattle.mount_sound.specs.Owed.{IsLawful}
use Rattle.reader_laws.specs.Moments.{Dropping, IsSoundAt, Moment, moment_after}
use Rattle.reader_laws.proofs.Gathered.Facts.{legal_first, legal_rest, sound_after}
use Rattle.headline_laws.specs.OneWriter.{OneWriter, OpensOneWriter}
use Rattle.headline.specs.Run.{before}
use Rattle.headline_laws.proofs.Statements.Known.{HasEntered}
use Rattle.headline_laws.proofs.Story.Entered.{later_entered, not_again}
use Rattle.headline_laws.proofs.Contents.Issues.{NoneWritten}

-- events, one more, and others
pub one_between : (a b : List Event) (e : Event) (c : List Event) → a ++ (b ++ e ∷ c) ≡ ((a ++ b) ++ e ∷ []) ++ c
one_between a b e c = sym (append_assoc a b (e ∷ c)) ∙ sym (append_assoc (a ++ b) (e ∷ []) c)

pub in_between : (earlier a : List Event) (e : Event) (b later : List Event) → earlier ++ ((a ++ e ∷ b) ++ later) ≡ (earlier ++ a) ++ e ∷ (b ++ later)
in_between earlier a e b later = ap (λ z. earlier ++ z) (append_assoc a (e ∷ b) later) ∙ sym (append_assoc earlier a (e ∷ (b ++ later)))

pub none_behind : (id : ℕ) (xs ys : List Event) → NoneWritten id (xs ++ ys) → NoneWritten id ys
none_behind id xs ys none pre e post is w = none (xs ++ pre) e post (ap (λ z. xs ++ z) is ∙ sym (append_assoc xs pre (e ∷ post))) w

pub opens_in : (m : Moment) (n : ℕ) (before events : List Event) (name : List ℕ) (w : OneWriter) → OpensOneWriter m n (record { before = before; events = events }) name w → HasEntered n events w.dropping
opens_in m n before events name w o = record {
  first = o.earlier ++ o.making ∷ o.between;
  event = o.entering;
  later = o.later;
  most = o.most;
  all = o.split ∙ sym (append_assoc o.earlier (o.making ∷ o.between) (o.entering ∷ o.later));
  own = o.enters.0;
  asked = o.enters.1;
  entered = o.entered;
}

pub entered_behind : (n : ℕ) (earlier mine : List Event) (d : Dropping) → HasEntered n mine d → HasEntered n (earlier ++ mine) d
entered_behind n earlier mine d k = record {
  first = earlier ++ k.first;
  event = k.event;
  later = k.later;
  most = k.most;
  all = ap (λ z. earlier ++ z) k.all ∙ sym (append_assoc earlier k.first (k.event ∷ k.later));
  own = k.own;
  asked = k.asked;
  entered = k.entered;
}

two_places : (history earlier mine rest first : List Event) (event : Event) (later front : List Event) (other : Event) (behind : List Event) → history ≡ earlier ++ (mine ++ rest) → earlier ≡ first ++ event ∷ later → mine ≡ front ++ other ∷ behind
    → history ≡ first ++ (event ∷ ((later ++ front) ++ other ∷ (behind ++ rest)))
two_places history earlier mine rest first event later front other behind is one two =
    is ∙ ap (λ z. z ++ (mine ++ rest)) one ∙ append_assoc first (event ∷ later) (mine ++ rest) ∙ ap (λ z. first ++ (event ∷ (later ++ (z ++ rest)))) two
    ∙ ap (λ z. first ++ (event ∷ z)) (in_between later front other behind rest)

-- not twice
pub never_twice : (m : Moment) (history earlier mine rest : List Event) (n : ℕ) (d e : Dropping) → IsLawful m.state history → history ≡ earlier ++ (mine ++ rest) → HasEntered n earlier d → HasEntered n mine e → e.writer ≡ d.writer → ⊥
never_twice m history earlier mine rest n d e lawful is h k same =
    not_again (moment_after m h.first).state h.event (h.later ++ k.first) (k.later ++ rest) k.event n n d.room d.host h.most e.room e.host k.most d.writer
    (legal_rest m h.first (h.event ∷ ((h.later ++ k.first) ++ k.event ∷ (k.later ++ rest))) (subst (IsLawful m.state) (two_places history earlier mine rest h.first h.event h.later k.first k.event k.later is h.all k.all) lawful)) h.own h.asked h.entered k.own k.asked (k.entered ∙ ap (λ w. Entered w) same)

-- and it has issued nothing before
pub new_there : (m : Moment) (sound : IsSoundAt m) (history earlier mine rest : List Event) (n : ℕ) (d : Dropping) → IsLawful m.state history → history ≡ earlier ++ (mine ++ rest) → (k : HasEntered n mine d) → (moment_after m (earlier ++ k.first)).issued d.room d.writer ≡ []
new_there m sound history earlier mine rest n d lawful is k = from (subst (IsLawful m.state) (is ∙ ap (λ z. earlier ++ (z ++ rest)) k.all ∙ in_between earlier k.first k.event k.later rest) lawful)
  where
    from : IsLawful m.state ((earlier ++ k.first) ++ k.event ∷ (k.later ++ rest)) → (moment_after m (earlier ++ k.first)).issued d.room d.writer ≡ []
    from all =
        (sound_after m (earlier ++ k.first) (legal_first m (earlier ++ k.first) (k.event ∷ (k.later ++ rest)) all) sound).sound.fresh d.room d.writer
        (later_entered (moment_after m (earlier ++ k.first)).state [] k.event (k.later ++ rest) n d.room d.host k.most d.writer (legal_rest m (earlier ++ k.first) (k.event ∷ (k.later ++ rest)) all) k.own k.asked k.entered)

-- What a caller changed by a hold, or was refused, told of the whole stretch of its statement.
use Rattle.std.proofs.Common.{◌≡◌, ℕ, List, ◌∷◌, ◌++◌, sym, ap, ◌∙◌, subst, append_assoc}
use Rattle.mount_model.specs.declared.call.Call.{Call}
use Rattle.mount_model.specs.declared.reply.Refusal.{Refusal}
use Rattle.mount_model.specs.declared.reply.Reply.{Reply}
use Rattle.mount_model.specs.History.{Event}
use Rattle.mount_model.specs.Paths.{Name}
use Rattle.reader_laws.specs.Moments.{Moment, moment_after, next_moment}
use Rattle.reader_laws.proofs.Gathered.Facts.{moment-append}
use Rattle.headline_laws.specs.Changing.{Change, IsChange, IsFreeName, IsHolderOf, IsRenamed, IsTopIn, IsTruncated, RenamesFile, TruncatesFile, until_changed}
use Rattle.reader_laws.specs.Naming.{IsRoomNamed}
use Rattle.headline_laws.specs.Opening.{Stretch}
use Rattle.headline_laws.specs.Refusing.{Attempt, FindsHeld, FindsNone, FindsOpen, FindsSpent, FindsTaken, HadOpenFirst, IsAttempt, WasShut, as_tried}
use Rattle.headline_laws.proofs.Plays.Holds.Held.{alone}

-- moments behind what came before
pub one_moment : (start : Moment) (before first earlier events : List Event) → moment_after (moment_after start (before ++ first)) (earlier ++ events) ≡ moment_after start (before ++ ((first ++ earlier) ++ events))
one_moment start before first earlier events = sym (moment-append start (before ++ first) (earlier ++ events)) ∙ ap (moment_after start) (append_assoc before first (earlier ++ events) ∙ ap (λ z. before ++ z) (sym (append_assoc first earlier events)))

pub then_moment : (start : Moment) (before first earlier : List Event) → moment_after (moment_after start (before ++ first)) earlier ≡ moment_after start (before ++ (first ++ earlier))
then_moment start before first earlier = sym (moment-append start (before ++ first) earlier) ∙ ap (moment_after start) (append_assoc before first earlier)

module _ (start : Moment) (n : ℕ) (before greeting mine : List Event) where
  abbrev Now : Moment
  Now = moment_after start (before ++ greeting)

  abbrev Whole : Stretch
  Whole = record { before = before; events = greeting ++ mine }

  -- the same change, behind the greeting
  abbrev behind : Change → Change
  behind c = record {
    room = c.room;
    holder = c.holder;
    earlier = greeting ++ c.earlier;
    finding = c.finding;
    between = c.between;
    holding = c.holding;
    more = c.more;
    changing = c.changing;
    later = c.later;
  }

  changed_there : (c : Change) → until_changed Now (alone mine) c ≡ until_changed start Whole (behind c)
  changed_there c = one_moment start before greeting c.earlier (c.finding ∷ c.between ++ (c.holding ∷ c.more))

  change_there : (name : Name) (call : ℕ → Call) (reply : Reply) (c : Change) → IsChange Now n (alone mine) name call reply c → IsChange start n Whole name call reply (behind c)
  change_there name call reply c k = record {
    split = ap (λ z. greeting ++ z) k.split ∙ sym (append_assoc greeting c.earlier (c.finding ∷ c.between ++ (c.holding ∷ c.more ++ c.changing ∷ c.later)));
    finds = k.finds;
    named = subst (λ m. IsRoomNamed m name c.room) (then_moment start before greeting c.earlier) k.named;
    holds = k.holds;
    changes = k.changes;
    held = subst (λ m. IsHolderOf m n c.holder c.room) (changed_there c) k.held;
  }

  pub truncates_there : (name : Name) (size stamp : ℕ) → TruncatesFile Now n (alone mine) name size stamp → TruncatesFile start n Whole name size stamp
  truncates_there name size stamp t = record {
    top = t.top;
    change = behind t.change;
    made = change_there name _ _ t.change t.made;
    truncated = subst (λ (m : Moment). IsTruncated m (next_moment m t.change.changing) t.change.room size stamp) (changed_there t.change) t.truncated;
  }

  pub renames_there : (name to : Name) → RenamesFile Now n (alone mine) name to → RenamesFile start n Whole name to
  renames_there name to r = record {
    change = behind r.change;
    made = change_there name _ _ r.change r.made;
    renamed = subst (λ (m : Moment). IsRenamed m (next_moment m r.change.changing) r.change.room name to) (changed_there r.change) r.renamed;
  }

  -- ---- what was refused

  -- the same attempt, behind the greeting
  abbrev tried_behind : Attempt → Attempt
  tried_behind a = record {
    room = a.room;
    earlier = greeting ++ a.earlier;
    finding = a.finding;
    between = a.between;
    holding = a.holding;
    later = a.later;
  }

  tried_there : (a : Attempt) → as_tried Now (alone mine) a ≡ as_tried start Whole (tried_behind a)
  tried_there a = one_moment start before greeting a.earlier (a.finding ∷ a.between)

  attempt_there : (name : Name) (why : Refusal) (a : Attempt) → IsAttempt Now n (alone mine) name why a → IsAttempt start n Whole name why (tried_behind a)
  attempt_there name why a k = record {
    split = ap (λ z. greeting ++ z) k.split ∙ sym (append_assoc greeting a.earlier (a.finding ∷ a.between ++ a.holding ∷ a.later));
    finds = k.finds;
    named = subst (λ m. IsRoomNamed m name a.room) (then_moment start before greeting a.earlier) k.named;
    refuses = k.refuses;
  }

  pub open_there : (name : Name) (host writer : ℕ) → FindsOpen Now n (alone mine) name host writer → FindsOpen start n Whole name host writer
  open_there name host writer f = record {
    attempt = tried_behind f.attempt;
    made = attempt_there name _ f.attempt f.made;
    entry = subst (λ m. HadOpenFirst m f.attempt.room host writer) (tried_there f.attempt) f.entry;
  }

  pub held_there : (name : Name) → FindsHeld Now n (alone mine) name → FindsHeld start n Whole name
  held_there name f = record {
    attempt = tried_behind f.attempt;
    made = attempt_there name _ f.attempt f.made;
    shut = subst (λ m. WasShut m f.attempt.room) (tried_there f.attempt) f.shut;
  }

  pub taken_there : (name to : Name) → FindsTaken Now n (alone mine) name to → FindsTaken start n Whole name to
  taken_there name to f = record {
    change = behind f.change;
    made = change_there name _ _ f.change f.made;
    other = f.other;
    taken = subst (λ m. IsRoomNamed m to f.other) (changed_there f.change) f.taken;
  }

  pub spent_there : (name : Name) (size : ℕ) → FindsSpent Now n (alone mine) name size → FindsSpent start n Whole name size
  spent_there name size f = record {
    top = f.top;
    change = behind f.change;
    made = change_there name _ _ f.change f.made;
    stood = subst (λ m. IsTopIn m f.change.room f.top) (changed_there f.change) f.stood;
    spent = f.spent;
  }

  pub none_there : (name : Name) → FindsNone Now n (alone mine) name → FindsNone start n Whole name
  none_there name f = record {
    earlier = greeting ++ f.earlier;
    finding = f.finding;
    later = f.later;
    split = ap (λ z. greeting ++ z) f.split ∙ sym (append_assoc greeting f.earlier (f.finding ∷ f.later));
    finds = f.finds;
    free = subst (λ m. IsFreeName m name) (then_moment start before greeting f.earlier) f.free;
  }

-- A mount begins fine, each step keeps it so, and what callers may ask they still may after others' steps.
use Rattle.std.proofs.Common.{◌≢◌, ℕ, List, Option, ap, sym, ◌∙◌}
use Rattle.store_api.specs.Acts.{Stored}
use Rattle.mount_model.specs.declared.call.Ask.{Ask}
use Rattle.mount_model.specs.declared.reply.Reply.{Reply}
use Rattle.mount_model.specs.Mounting.{IsMounted}
use Rattle.mount_model.specs.State.{State}
use Rattle.mount_model.specs.Step.{IsStep}
use Rattle.mount_model.proofs.Facts.{mounted_regular, step_regular, step_place}
use Rattle.mount_sound.specs.Issued.{issued_after}
use Rattle.mount_sound.specs.Owed.{May}
use Rattle.mount_sound.specs.Sound.{IsClean, IsSound, IsFine}
use Rattle.mount_sound.proofs.Moments.Mounting.{mounted_sound}
use Rattle.mount_sound.proofs.Owed.OwedLater.{owes_last}
use Rattle.mount_sound.proofs.Moments.SoundLater.{step_keeps}

pub mounted_fine : (serial : ℕ) (times : Option (List ℕ)) (opened : Stored) (new : State) → IsMounted serial times opened new → IsFine new
mounted_fine serial times opened new m = record {
  regular = mounted_regular serial times opened new m;
  sound = λ clean. (clean.2.issued, mounted_sound serial times opened new clean.0 m (ap (λ (s : Stored). s.tree) (sym m.opened_is) ∙ clean.1) clean.2);
}

-- no step changes what was mounted
pub was_clean : (old new : State) (caller : ℕ) (ask : Ask) (reply : Reply) → IsStep old caller ask reply new → IsClean new → IsClean old
was_clean old new caller ask reply step clean = (clean.0, ap (λ (x : Stored). x.tree) (sym (step_place old new caller ask reply step).opened) ∙ clean.1, clean.2)

pub step_fine : (old new : State) (caller : ℕ) (ask : Ask) (reply : Reply) → May old caller ask → IsStep old caller ask reply new → IsFine old → IsFine new
step_fine old new caller ask reply may step fine = record {
  regular = step_regular old new caller ask reply may.numbers step fine.regular;
  sound = λ clean.
      let s = fine.sound (was_clean old new caller ask reply step clean) in
      (issued_after s.0 old ask.call reply, step_keeps s.0 old new caller ask reply may step s.1);
}

-- What a caller may ask, it still may after a step of another one that may make it.
pub may_last : (old new : State) (caller other : ℕ) (ask asked : Ask) (reply : Reply) → other ≢ caller → IsFine old → May old caller ask → May old other asked → IsStep old other asked reply new → May new caller ask
may_last old new caller other ask asked reply differ fine mine theirs step = record {
  numbers = mine.numbers;
  owes = λ clean.
      let was : IsClean old = was_clean old new other asked reply step clean in
      let sound : IsSound old = fine.sound was in
      owes_last sound.0 old new caller other ask.call asked reply (λ same. differ (sym same)) theirs step sound.1 (mine.owes was);
}

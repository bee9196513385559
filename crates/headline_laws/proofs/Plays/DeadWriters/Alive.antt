-- Who is told to be live is live, and no call of a recovery but the first tells it.
use Rattle.std.proofs.Common.{◌≡◌, ℕ, Bool, true, false, nat_eq, Option, Some, None, Ok, Err, refl, sym, ap, ◌∙◌, inl, inr}
use Rattle.std.specs.Prelude.{if◌then◌else◌}
use Rattle.plfs_types.specs.declared.entries.Cover.{Cover}
use Rattle.store_api.specs.declared.step.Answer.TheVariants.{Absent, Made, NoFolder, NoRoom as NoneThere, Old}
use Rattle.store_api.specs.declared.store.Trouble.TheVariants.{Fault, NoMemory}
use Rattle.mount_model.specs.declared.call.Call.TheVariants.{Bury, Inspect, Mend, MendMeta}
use Rattle.mount_model.specs.declared.reply.Refusal.{Refusal}
use Rattle.mount_model.specs.declared.reply.Refusal.TheVariants.{Alive, NoRoom}
use Rattle.mount_model.specs.declared.reply.Reply.TheVariants.{Done, Refused}
use Rattle.mount_model.specs.declared.row.Row.{Row}
use Rattle.mount_model.specs.Making.{Refuses, Told, or_reason, otherwise}
use Rattle.mount_model.specs.Paths.{Name, metadata}
use Rattle.container_layout.specs.Paths.{openhosts}
use Rattle.mount_model.specs.Recovering.{BuriesIt, MendsIt, MendsItsMeta, alive_check, bury_outcome, done_outcome, live_reason, mend_check, mend_meta_outcome}
use Rattle.mount_model.specs.State.{State, Table}
use Rattle.mount_model.specs.Step.{Answers}
use Rattle.mount_model.specs.Table.{is_live, row_of}
use Rattle.mount_model.proofs.Facts.{match_cases}
use Rattle.mount_sound.specs.Owed.{IsNotLive}
use Rattle.headline_laws.specs.Recovering.{IsLive}

-- ---- why a call is refused

live_row : (found : Option Row) (why : Refusal) → live_reason found ≡ Some why → (row : Row) × (found ≡ Some row) × (is_live row.stage ≡ true)
live_row None why e = absurd (cc)
live_row (Some row) why e = (row, refl, its (is_live row.stage) e)
  where
    its : (b : Bool) → (if b then Some Alive else None) ≡ Some why → b ≡ true
    its true e = refl
    its false e = absurd (cc)

-- where it is not the room that is refused, the writer is live
checked_live : (old : State) (room writer : ℕ) → mend_check old room writer ≡ Some Alive → IsLive old writer
checked_live old room writer e = live_row (row_of writer old.table.writers) Alive (passed (nat_eq room old.marks) e)
  where
    passed : (b : Bool) → or_reason (if b then Some NoRoom else None) (alive_check old writer) ≡ Some Alive → alive_check old writer ≡ Some Alive
    passed true e = absurd (cc)
    passed false e = e

-- ---- what acts tell

otherwise_not : (folder file : Name) (told : Told) → Refused Alive ≡ otherwise folder file told → ⊥
otherwise_not folder file (Ok NoneThere) e = absurd (cc)
otherwise_not folder file (Ok NoFolder) e = absurd (cc)
otherwise_not folder file (Ok answer) e = absurd (cc)
otherwise_not folder file (Err Fault) e = absurd (cc)
otherwise_not folder file (Err NoMemory) e = absurd (cc)

done_not : (folder file : Name) (table : Table) (told : Told) → Refused Alive ≡ (done_outcome folder file table told).reply → ⊥
done_not folder file table (Ok Made) e = absurd (cc)
done_not folder file table told e = otherwise_not folder file told e

meta_not : (file : Name) (table : Table) (told : Told) → Refused Alive ≡ (mend_meta_outcome file table told).reply → ⊥
meta_not file table (Ok Made) e = absurd (cc)
meta_not file table (Ok (Old room)) e = absurd (cc)
meta_not file table told e = otherwise_not metadata file told e

bury_not : (file : Name) (table : Table) (told : Told) → Refused Alive ≡ (bury_outcome file table told).reply → ⊥
bury_not file table (Ok Made) e = absurd (cc)
bury_not file table (Ok Absent) e = absurd (cc)
bury_not file table (Ok NoFolder) e = absurd (cc)
bury_not file table told e = otherwise_not openhosts file told e

same_reason : (why : Refusal) → Refused Alive ≡ Refused why → why ≡ Alive
same_reason why e = cc

-- ---- the calls

module _ (old : State) (n : ℕ) (new : State) (writer : ℕ) where
  pub inspect_live : Answers old n (Inspect writer) (Refused Alive) new → IsLive old writer
  inspect_live a = elim (match_cases (alive_check old writer) _ (λ why. Refuses why old (Refused Alive) new) a) as (λ _. IsLive old writer) [
    | inl (none, does) ↦ absurd (let e : Refused Alive ≡ Done = does.0 in cc)
    | inr (why, some, refused) ↦ live_row (row_of writer old.table.writers) why some
  ]

  refused_live : (room : ℕ) (why : Refusal) → mend_check old room writer ≡ Some why → Refused Alive ≡ Refused why → IsLive old writer
  refused_live room why some refused = checked_live old room writer (some ∙ ap (λ w. Some w) (same_reason why refused))

  mend_live : (room host count : ℕ) → Answers old n (Mend room host writer count) (Refused Alive) new → IsLive old writer
  mend_live room host count a = elim (match_cases (mend_check old room writer) (MendsIt room host writer count old (Refused Alive) new) (λ why. Refuses why old (Refused Alive) new) a) as (λ _. IsLive old writer) [
    | inl (none, m) ↦ absurd (done_not _ _ old.table m.makes.told m.makes.answered)
    | inr (why, some, refused) ↦ refused_live room why some refused.0
  ]

  bury_live : (room host : ℕ) → Answers old n (Bury room host writer) (Refused Alive) new → IsLive old writer
  bury_live room host a = elim (match_cases (mend_check old room writer) (BuriesIt room host writer old (Refused Alive) new) (λ why. Refuses why old (Refused Alive) new) a) as (λ _. IsLive old writer) [
    | inl (none, m) ↦ absurd (bury_not _ old.table m.makes.told m.makes.answered)
    | inr (why, some, refused) ↦ refused_live room why some refused.0
  ]

  not_both : IsLive old writer → IsNotLive old writer → ⊥
  not_both live dead = (let none : is_live live.0.stage ≡ false = dead live.0 live.1 in let clash : true ≡ false = sym live.2 ∙ none in absurd (cc))

  pub mend_not : (room host count : ℕ) → IsNotLive old writer → Answers old n (Mend room host writer count) (Refused Alive) new → ⊥
  mend_not room host count dead a = not_both (mend_live room host count a) dead

  pub bury_refused_not : (room host : ℕ) → IsNotLive old writer → Answers old n (Bury room host writer) (Refused Alive) new → ⊥
  bury_refused_not room host dead a = not_both (bury_live room host a) dead

pub meta_refused_not : (old : State) (n : ℕ) (new : State) (room host : ℕ) (cover : Cover) (last : ℕ) → IsNotLive old cover.writer → Answers old n (MendMeta room host cover last) (Refused Alive) new → ⊥
meta_refused_not old n new room host cover last dead a = not_both old n new cover.writer
    (elim (match_cases (mend_check old room cover.writer) (MendsItsMeta room host cover last old (Refused Alive) new) (λ why. Refuses why old (Refused Alive) new) a) as (λ _. IsLive old cover.writer) [
      | inl (none, m) ↦ absurd (meta_not _ old.table m.makes.told m.makes.answered)
      | inr (why, some, refused) ↦ refused_live old n new cover.writer room why some refused.0
    ])
    dead

-- Two mountings of one store that broke off without a fault are one; and none breaks off so where a mount is made.
use Rattle.std.proofs.Common.{◌≡◌, ◌≢◌, ℕ, ◌<◌, ◌≤◌, ◌-◌, ◌^◌, true, false, List, Option, Some, None, refl, sym, ap, ◌∙◌, inl, inr, subst, arith, Ok, Err}
use Rattle.store_api.specs.declared.step.Answer.TheVariants as answer
use Rattle.store_api.specs.declared.store.Trouble.TheVariants as told_trouble
use Rattle.store_api.specs.Step.{Step}
use Rattle.store_api.specs.Acts.{Stored, Acts}
use Rattle.mount_model.specs.declared.mount_trouble.MountTrouble.{MountTrouble}
use Rattle.mount_model.specs.declared.mount_trouble.MountTrouble.TheVariants.{Damaged, NoMemory}
use Rattle.mount_model.specs.Paths.{Name}
use Rattle.mount_model.specs.Listed.{IsMarkOf}
use Rattle.mount_model.specs.State.{State}
use Rattle.mount_model.specs.Making.{Told}
use Rattle.mount_model.specs.Mounting.{marks_step, list_step, mark_step, room_told, TellsRoom, IsNextMark, IsMounted}
use Rattle.mount_model.specs.Failing.{names_told, made_told, trouble_of, FailsAt, LeavesNone, FailsToMount, no_room, no_names, no_next, no_mark}
use Rattle.step_laws.specs.Alike.{IsTold, neither}
use Rattle.step_laws.proofs.Acting.{acts_one, made_one}
use Rattle.step_laws.proofs.Listing.{greatest_one, none_other, other_one}
use Rattle.step_laws.proofs.Mounting.{one_mark, rooms_one, made_faults, mark_next}

not_none : (room : ℕ) → None ≡ Some room → ⊥
not_none room e = cc

not_names : (names : List Name) → None ≡ Some names → ⊥
not_names names e = cc

-- ---- the act that told something else

fed_act : (step : Step) (isnt : Told → Type 0) (old new : Stored) (why : MountTrouble) → why ≢ NoMemory → (f : FailsAt step isnt old why new) → f.told ≡ Err told_trouble.NoMemory → ⊥
fed_act step isnt old new why fed f e = fed (f.cause ∙ ap trouble_of e)

fail_same : (step : Step) (isnt : Told → Type 0) (old new other : Stored) (why also : MountTrouble) → IsTold old → old.faults < 2 ^ 64 - 1 → new.faults ≡ old.faults → other.faults ≡ old.faults
    → why ≢ NoMemory → also ≢ NoMemory → FailsAt step isnt old why new → FailsAt step isnt old also other → (why ≡ also) × (new ≡ other)
fail_same step isnt old new other why also told free quiet quiet_too fed fed_too f g =
    let one = acts_one step old new other f.told g.told told free (neither quiet quiet_too) f.made g.made (fed_act step isnt old new why fed f) (fed_act step isnt old other also fed_too g) in
    (f.cause ∙ ap trouble_of one.told_is ∙ sym g.cause, one.left)

-- the first act told a room, or it did not
room_or_none : (opened left roomed : Stored) (room : ℕ) (why : MountTrouble) → IsTold opened → opened.faults < 2 ^ 64 - 1 → left.faults ≡ opened.faults → why ≢ NoMemory
    → FailsAt marks_step (λ told. room_told told ≡ None) opened why left → TellsRoom opened roomed room → ⊥
room_or_none opened left roomed room why told free quiet fed f t =
    let one = acts_one marks_step opened left roomed f.told t.told told free (neither quiet (made_faults t.told opened roomed room t.made t.tells)) f.made t.made
    (fed_act marks_step (λ told. room_told told ≡ None) opened left why fed f) (λ e. not_none room (sym (ap room_told e) ∙ t.tells)) in
    not_none room (sym f.other ∙ ap room_told one.told_is ∙ t.tells)

-- the second told names, or it did not
names_or_none : (room : ℕ) (roomed left listed : Stored) (names : List Name) (why : MountTrouble) → IsTold roomed → roomed.faults < 2 ^ 64 - 1 → left.faults ≡ roomed.faults → why ≢ NoMemory
    → FailsAt (list_step room) (λ told. names_told told ≡ None) roomed why left → Acts (list_step room) roomed listed (Ok (answer.Names names)) → ⊥
names_or_none room roomed left listed names why told free quiet fed f l =
    let one = acts_one (list_step room) roomed left listed f.told (Ok (answer.Names names)) told free (neither quiet l.faults) f.made l
    (fed_act (list_step room) (λ told. names_told told ≡ None) roomed left why fed f) (λ e. cc) in
    not_names names (sym f.other ∙ ap names_told one.told_is)

-- the names leave a next mark, or they leave none
next_or_none : (names : List Name) (why : MountTrouble) (mount : ℕ) → LeavesNone names why → IsNextMark names mount → ⊥
next_or_none names why mount (inl a) n = none_other IsMarkOf names n.greatest a.0 n.found a.1
next_or_none names why mount (inr a) n =
    let full : 2 ^ 32 - 1 ≡ n.greatest = greatest_one IsMarkOf one_mark names (2 ^ 32 - 1) n.greatest a.0 n.found in
    omega (arith, full, n.next, n.fits)

leaves_one : (names : List Name) (why also : MountTrouble) → LeavesNone names why → LeavesNone names also → why ≡ also
leaves_one names why also (inl a) (inl b) = a.2 ∙ ap Damaged (other_one IsMarkOf names a.0 b.0 a.1 b.1) ∙ sym b.2
leaves_one names why also (inl a) (inr b) = absurd (none_other IsMarkOf names (2 ^ 32 - 1) a.0 b.0 a.1)
leaves_one names why also (inr a) (inl b) = absurd (none_other IsMarkOf names (2 ^ 32 - 1) b.0 a.0 b.1)
leaves_one names why also (inr a) (inr b) = a.1 ∙ sym b.1

-- the third made the mark, or it did not
mark_or_none : (room mount : ℕ) (listed left new : Stored) (why : MountTrouble) → IsTold listed → listed.faults < 2 ^ 64 - 1 → left.faults ≡ listed.faults → why ≢ NoMemory
    → FailsAt (mark_step room mount) (λ told. made_told told ≡ false) listed why left → Acts (mark_step room mount) listed new (Ok answer.Made) → ⊥
mark_or_none room mount listed left new why told free quiet fed f m =
    let one = acts_one (mark_step room mount) listed left new f.told (Ok answer.Made) told free (neither quiet m.faults) f.made m
    (fed_act (mark_step room mount) (λ told. made_told told ≡ false) listed left why fed f) (λ e. cc) in
    let e : true ≡ false = sym (ap made_told one.told_is) ∙ f.other in
    cc

-- ---- all three

-- after the first act, both are at one room and one store, which tells its tree and did not fault
record OneRoom (opened roomed also : Stored) (room other : ℕ) : Type 0 where
  room_is : room ≡ other
  roomed_is : roomed ≡ also
  tells : IsTold roomed
  faults : roomed.faults ≡ opened.faults

one_room : (opened roomed also : Stored) (room other : ℕ) → IsTold opened → TellsRoom opened roomed room → TellsRoom opened also other → OneRoom opened roomed also room other
one_room opened roomed also room other told t u =
    let r = rooms_one opened roomed also room other told t u in
    record { room_is = r.0; roomed_is = r.1; tells = r.2; faults = made_faults t.told opened roomed room t.made t.tells }

-- after the second, both are told the same names too
record OneList (opened listed also : Stored) (names others : List Name) : Type 0 where
  names_are : names ≡ others
  listed_is : listed ≡ also
  tells : IsTold listed
  faults : listed.faults ≡ opened.faults

names_same : (names others : List Name) (a b : Told) → a ≡ Ok (answer.Names names) → b ≡ Ok (answer.Names others) → a ≡ b → names ≡ others
names_same names others a b x y e = let told : Some names ≡ Some others = sym (ap names_told x) ∙ ap names_told e ∙ ap names_told y in cc

one_list : (opened roomed roomed_too listed listed_too : Stored) (room other : ℕ) (names others : List Name) → OneRoom opened roomed roomed_too room other
    → Acts (list_step room) roomed listed (Ok (answer.Names names)) → Acts (list_step other) roomed_too listed_too (Ok (answer.Names others)) → OneList opened listed listed_too names others
one_list opened roomed roomed_too listed listed_too room other names others r l m =
    let P : ℕ × Stored → Type 0 = λ z. Acts (list_step z.0) z.1 listed_too (Ok (answer.Names others)) in
    let too : Acts (list_step room) roomed listed_too (Ok (answer.Names others)) = subst P (λ i. (sym r.room_is i, sym r.roomed_is i)) m in
    let one = made_one (list_step room) (answer.Names names) (answer.Names others) roomed listed listed_too r.tells l too in
    record {
      names_are = names_same names others (Ok (answer.Names names)) (Ok (answer.Names others)) refl refl one.told_is;
      listed_is = one.left;
      tells = one.tells;
      faults = l.faults ∙ r.faults;
    }

less_by : (old new : ℕ) → new ≡ old → old < 2 ^ 64 - 1 → new < 2 ^ 64 - 1
less_by old new e less = omega (arith, e, less)

module _ (opened : Stored) (told : IsTold opened) (free : opened.faults < 2 ^ 64 - 1) where
  -- of two that broke off behind the first act, one was told no names
  names_differ : (left roomed roomed_too listed : Stored) (room other : ℕ) (names : List Name) (why : MountTrouble) → left.faults ≡ opened.faults → why ≢ NoMemory
      → TellsRoom opened roomed room → FailsAt (list_step room) (λ told. names_told told ≡ None) roomed why left
      → TellsRoom opened roomed_too other → Acts (list_step other) roomed_too listed (Ok (answer.Names names)) → ⊥
  names_differ left roomed roomed_too listed room other names why quiet fed t f u l =
      let r = one_room opened roomed roomed_too room other told t u in
      let P : ℕ × Stored → Type 0 = λ z. Acts (list_step z.0) z.1 listed (Ok (answer.Names names)) in
      names_or_none room roomed left listed names why r.tells (less_by opened.faults roomed.faults r.faults free) (quiet ∙ sym r.faults) fed f
      (subst P (λ i. (sym r.room_is i, sym r.roomed_is i)) l)

  -- of two that were told names, one has no next mark
  marks_differ : (left roomed roomed_too listed : Stored) (room other mount : ℕ) (names others : List Name) (why : MountTrouble)
      → TellsRoom opened roomed room → Acts (list_step room) roomed left (Ok (answer.Names names)) → LeavesNone names why
      → TellsRoom opened roomed_too other → Acts (list_step other) roomed_too listed (Ok (answer.Names others)) → IsNextMark others mount → ⊥
  marks_differ left roomed roomed_too listed room other mount names others why t l none u m next =
      let s = one_list opened roomed roomed_too left listed room other names others (one_room opened roomed roomed_too room other told t u) l m in
      next_or_none names why mount none (subst (λ ns. IsNextMark ns mount) (sym s.names_are) next)

  module _ (left other : Stored) (why also : MountTrouble) (quiet : left.faults ≡ opened.faults) (quiet_too : other.faults ≡ opened.faults) (fed : why ≢ NoMemory) (fed_too : also ≢ NoMemory) where
    pub fails_one : FailsToMount opened why left → FailsToMount opened also other → (why ≡ also) × (left ≡ other)
    fails_one (no_room f) (no_room g) = fail_same marks_step (λ told. room_told told ≡ None) opened left other why also told free quiet quiet_too fed fed_too f g
    fails_one (no_room f) (no_names roomed room t g) = absurd (room_or_none opened left roomed room why told free quiet fed f t)
    fails_one (no_room f) (no_next roomed room names t l none) = absurd (room_or_none opened left roomed room why told free quiet fed f t)
    fails_one (no_room f) (no_mark roomed listed room names mount t l next g) = absurd (room_or_none opened left roomed room why told free quiet fed f t)
    fails_one (no_names roomed room t f) (no_room g) = absurd (room_or_none opened other roomed room also told free quiet_too fed_too g t)
    fails_one (no_names roomed room t f) (no_names roomed_too room_too u g) =
        let r = one_room opened roomed roomed_too room room_too told t u in
        let P : ℕ × Stored → Type 0 = λ z. FailsAt (list_step z.0) (λ told. names_told told ≡ None) z.1 also other in
        fail_same (list_step room) (λ told. names_told told ≡ None) roomed left other why also r.tells (less_by opened.faults roomed.faults r.faults free) (quiet ∙ sym r.faults) (quiet_too ∙ sym r.faults)
        fed fed_too f (subst P (λ i. (sym r.room_is i, sym r.roomed_is i)) g)
    fails_one (no_names roomed room t f) (no_next roomed_too room_too names u l none) = absurd (names_differ left roomed roomed_too other room room_too names why quiet fed t f u l)
    fails_one (no_names roomed room t f) (no_mark roomed_too listed room_too names mount u l next g) = absurd (names_differ left roomed roomed_too listed room room_too names why quiet fed t f u l)
    fails_one (no_next roomed room names t l none) (no_room g) = absurd (room_or_none opened other roomed room also told free quiet_too fed_too g t)
    fails_one (no_next roomed room names t l none) (no_names roomed_too room_too u g) = absurd (names_differ other roomed_too roomed left room_too room names also quiet_too fed_too u g t l)
    fails_one (no_next roomed room names t l none) (no_next roomed_too room_too others u m none_too) =
        let s = one_list opened roomed roomed_too left other room room_too names others (one_room opened roomed roomed_too room room_too told t u) l m in
        (leaves_one names why also none (subst (λ ns. LeavesNone ns also) (sym s.names_are) none_too), s.listed_is)
    fails_one (no_next roomed room names t l none) (no_mark roomed_too listed room_too others mount u m next g) =
        absurd (marks_differ left roomed roomed_too listed room room_too mount names others why t l none u m next)
    fails_one (no_mark roomed listed room names mount t l next f) (no_room g) = absurd (room_or_none opened other roomed room also told free quiet_too fed_too g t)
    fails_one (no_mark roomed listed room names mount t l next f) (no_names roomed_too room_too u g) = absurd (names_differ other roomed_too roomed listed room_too room names also quiet_too fed_too u g t l)
    fails_one (no_mark roomed listed room names mount t l next f) (no_next roomed_too room_too others u m none) =
        absurd (marks_differ other roomed_too roomed listed room_too room mount others names also u m none t l next)
    fails_one (no_mark roomed listed room names mount t l next f) (no_mark roomed_too listed_too room_too others mount_too u m next_too g) =
        let r = one_room opened roomed roomed_too room room_too told t u in
        let s = one_list opened roomed roomed_too listed listed_too room room_too names others r l m in
        let mounts : mount ≡ mount_too = mark_next names mount mount_too next (subst (λ ns. IsNextMark ns mount_too) (sym s.names_are) next_too) in
        let Q : ℕ × ℕ × Stored → Type 0 = λ z. FailsAt (mark_step z.0 z.1) (λ told. made_told told ≡ false) z.2 also other in
        fail_same (mark_step room mount) (λ told. made_told told ≡ false) listed left other why also s.tells (less_by opened.faults listed.faults s.faults free) (quiet ∙ sym s.faults) (quiet_too ∙ sym s.faults)
        fed fed_too f (subst Q (λ i. (sym r.room_is i, sym mounts i, sym s.listed_is i)) g)

  module _ (left : Stored) (why : MountTrouble) (quiet : left.faults ≡ opened.faults) (fed : why ≢ NoMemory) where
    -- where a mount is made, a mounting that has memory and no fault makes it
    pub mounts_or_fails : (serial : ℕ) (times : Option (List ℕ)) (new : State) → IsMounted serial times opened new → FailsToMount opened why left → ⊥
    mounts_or_fails serial times new m (no_room f) = room_or_none opened left m.draws.roomed new.marks why told free quiet fed f m.draws.tells
    mounts_or_fails serial times new m (no_names roomed room t f) = names_differ left roomed m.draws.roomed m.draws.listed room new.marks m.draws.names why quiet fed t f m.draws.tells m.draws.lists
    mounts_or_fails serial times new m (no_next roomed room names t l none) =
        marks_differ left roomed m.draws.roomed m.draws.listed room new.marks new.mount names m.draws.names why t l none m.draws.tells m.draws.lists m.draws.next
    mounts_or_fails serial times new m (no_mark roomed listed room names mount t l next f) =
        let r = one_room opened roomed m.draws.roomed room new.marks told t m.draws.tells in
        let s = one_list opened roomed m.draws.roomed listed m.draws.listed room new.marks names m.draws.names r l m.draws.lists in
        let mounts : mount ≡ new.mount = mark_next names mount new.mount next (subst (λ ns. IsNextMark ns new.mount) (sym s.names_are) m.draws.next) in
        let Q : ℕ × ℕ × Stored → Type 0 = λ z. Acts (mark_step z.0 z.1) z.2 new.store (Ok answer.Made) in
        mark_or_none room mount listed left new.store why s.tells (less_by opened.faults listed.faults s.faults free) (quiet ∙ sym s.faults) fed f
        (subst Q (λ i. (sym r.room_is i, sym mounts i, sym s.listed_is i)) m.draws.marked)

-- ---- no count of faults falls

act_rises : (step : Step) (old new : Stored) (told : Told) → Acts step old new told → old.faults ≤ new.faults
act_rises step old new (Ok said) a = let e = a.faults in omega (arith, e)
act_rises step old new (Err told_trouble.Fault) a = a.faults
act_rises step old new (Err told_trouble.NoMemory) a = let e : new.faults ≡ old.faults = ap (λ (s : Stored). s.faults) a in omega (arith, e)

-- it broke off behind an act that had no fault
rises_on : (opened roomed left : Stored) → roomed.faults ≡ opened.faults → roomed.faults ≤ left.faults → opened.faults ≤ left.faults
rises_on opened roomed left e more = omega (arith, e, more)

pub fails_rise : (opened left : Stored) (why : MountTrouble) → FailsToMount opened why left → opened.faults ≤ left.faults
fails_rise opened left why (no_room f) = act_rises marks_step opened left f.told f.made
fails_rise opened left why (no_names roomed room t f) = rises_on opened roomed left (made_faults t.told opened roomed room t.made t.tells) (act_rises (list_step room) roomed left f.told f.made)
fails_rise opened left why (no_next roomed room names t l none) = rises_on opened roomed left (made_faults t.told opened roomed room t.made t.tells) (act_rises (list_step room) roomed left (Ok (answer.Names names)) l)
fails_rise opened left why (no_mark roomed listed room names mount t l next f) =
    rises_on opened listed left (l.faults ∙ made_faults t.told opened roomed room t.made t.tells) (act_rises (mark_step room mount) listed left f.told f.made)

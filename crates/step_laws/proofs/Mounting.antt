-- Two mounts that were made of one store are one.
use Rattle.std.proofs.Common.{◌≡◌, ℕ, ◌+◌, ◌<◌, ◌^◌, List, [], Option, Some, refl, sym, ap, ◌∙◌, subst, arith, Ok, Err}
use Rattle.std.specs.Fmt.{decimal}
use Rattle.std.specs.Str.Parse.{AllDigits, digits_value}
use Rattle.std.proofs.lemmas.Fmt.{digits_value-decimal}
use Rattle.std.proofs.lemmas.Str.Parse.{IsNumeralModel, numerals_by_value, tells_digits}
use Rattle.store_api.specs.declared.step.Answer.{Answer}
use Rattle.store_api.specs.declared.step.Answer.TheVariants as answer
use Rattle.store_api.specs.Acts.{Stored, Acts}
use Rattle.mount_model.specs.Paths.{Name}
use Rattle.mount_model.specs.Listed.{IsMarkOf}
use Rattle.mount_model.specs.State.{State}
use Rattle.mount_model.specs.Making.{Told}
use Rattle.mount_model.specs.Mounting.{marks_step, list_step, mark_step, room_told, TellsRoom, IsNextMark, DrawsMark, IsMounted}
use Rattle.step_laws.specs.Alike.{IsTold, TellsAll}
use Rattle.step_laws.proofs.Acting.{made_one}
use Rattle.step_laws.proofs.Listing.{IsOneNumber, greatest_one}

own : IsNumeralModel (AllDigits 10) (digits_value 10)
own = numerals_by_value (AllDigits 10) tells_digits

decimal_same : (a b : ℕ) → a < 2 ^ 64 → b < 2 ^ 64 → decimal a ≡ decimal b → a ≡ b
decimal_same a b a_fits b_fits same = sym (digits_value-decimal own a a_fits) ∙ ap (digits_value 10) same ∙ digits_value-decimal own b b_fits

pub one_mark : IsOneNumber IsMarkOf
one_mark name a b x y = decimal_same a b (omega (arith, x.0.1)) (omega (arith, y.0.1)) (sym x.1 ∙ y.1)

-- a room was told, so the act was answered
answered : (told : Told) (room : ℕ) → room_told told ≡ Some room → (said : Answer) × (told ≡ Ok said)
answered (Ok said) room e = (said, refl)
answered (Err trouble) room e = absurd (cc)

room_is : (a b : ℕ) → Some a ≡ Some b → a ≡ b
room_is a b e = cc

names_in : Told → List Name
names_in (Ok (answer.Names names)) = names
names_in told = []

-- the same room was told, and the same is left
pub rooms_one : (opened new left : Stored) (room other : ℕ) → IsTold opened → TellsRoom opened new room → TellsRoom opened left other → (room ≡ other) × (new ≡ left) × IsTold new
rooms_one opened new left room other told a b =
    let x = answered a.told room a.tells in
    let y = answered b.told other b.tells in
    let one = made_one marks_step x.0 y.0 opened new left told (subst (λ t. Acts marks_step opened new t) x.1 a.made) (subst (λ t. Acts marks_step opened left t) y.1 b.made) in
    (room_is room other (sym a.tells ∙ ap room_told (x.1 ∙ one.told_is ∙ sym y.1) ∙ b.tells), one.left, one.tells)

pub mark_next : (names : List Name) (a b : ℕ) → IsNextMark names a → IsNextMark names b → a ≡ b
mark_next names a b x y = x.next ∙ ap (λ g. g + 1) (greatest_one IsMarkOf one_mark names x.greatest y.greatest x.found y.found) ∙ sym y.next

record OneDraw (room other mount also : ℕ) (new left : Stored) : Type 0 where
  room_is : room ≡ other
  mount_is : mount ≡ also
  left_is : new ≡ left
  tells : IsTold new

draws_one : (opened new left : Stored) (room other mount also : ℕ) → IsTold opened → DrawsMark opened room mount new → DrawsMark opened other also left → OneDraw room other mount also new left
unfolding names_in
draws_one opened new left room other mount also told a b =
    let (rooms, roomed, told_room) = rooms_one opened a.roomed b.roomed room other told a.tells b.tells in
    let P : ℕ × Stored → Type 0 = λ z. Acts (list_step z.0) z.1 b.listed (Ok (answer.Names b.names)) in
    let lists : Acts (list_step room) a.roomed b.listed (Ok (answer.Names b.names)) = subst P (λ i. (sym rooms i, sym roomed i)) b.lists in
    let listed = made_one (list_step room) (answer.Names a.names) (answer.Names b.names) a.roomed a.listed b.listed told_room a.lists lists in
    let names : a.names ≡ b.names = ap names_in listed.told_is in
    let mounts : mount ≡ also = mark_next a.names mount also a.next (subst (λ ns. IsNextMark ns also) (sym names) b.next) in
    let Q : ℕ × ℕ × Stored → Type 0 = λ z. Acts (mark_step z.0 z.1) z.2 left (Ok answer.Made) in
    let marks : Acts (mark_step room mount) a.listed left (Ok answer.Made) = subst Q (λ i. (sym rooms i, sym mounts i, sym listed.left i)) b.marked in
    let made = made_one (mark_step room mount) answer.Made answer.Made a.listed new left listed.tells a.marked marks in
    record { room_is = rooms; mount_is = mounts; left_is = made.left; tells = made.tells }

-- a mount whose table is empty
abbrev mounted : Stored → Stored → Option (List ℕ) → ℕ → ℕ → ℕ → State
mounted store opened times marks mount serial = record { store = store; opened = opened; times = times; marks = marks; mount = mount; serial = serial; table = record { writers = []; holders = []; flattenings = [] } }

state_is : (serial : ℕ) (times : Option (List ℕ)) (opened : Stored) (new : State) → IsMounted serial times opened new → new ≡ mounted new.store opened times new.marks new.mount serial
state_is serial times opened new m = λ i. record {
  store = new.store;
  opened = m.opened_is i;
  times = m.times_are i;
  marks = new.marks;
  mount = new.mount;
  serial = m.serial_is i;
  table = record { writers = m.no_writers i; holders = m.no_holders i; flattenings = m.no_flattenings i };
}

pub mounts_one : (serial : ℕ) (times : Option (List ℕ)) (opened : Stored) (new left : State) → IsTold opened → IsMounted serial times opened new → IsMounted serial times opened left → new ≡ left
mounts_one serial times opened new left told a b =
    let d = draws_one opened new.store left.store new.marks left.marks new.mount left.mount told a.draws b.draws in
    state_is serial times opened new a
    ∙ (λ i. mounted (d.left_is i) opened times (d.room_is i) (d.mount_is i) serial)
    ∙ sym (state_is serial times opened left b)

-- a mount of a told store with a told clock tells all
pub mounted_tells : (serial : ℕ) (times : List ℕ) (opened : Stored) (new : State) → IsTold opened → IsMounted serial (Some times) opened new → TellsAll new
mounted_tells serial times opened new told a =
    let d = draws_one opened new.store new.store new.marks new.marks new.mount new.mount told a.draws a.draws in
    record { store = d.tells; times = times; times_are = a.times_are }

-- mounting had no fault
pub made_faults : (told : Told) (old new : Stored) (room : ℕ) → Acts marks_step old new told → room_told told ≡ Some room → new.faults ≡ old.faults
made_faults (Ok said) old new room made tells = made.faults
made_faults (Err trouble) old new room made tells = absurd (cc)

pub mounted_faults : (serial : ℕ) (times : Option (List ℕ)) (opened : Stored) (new : State) → IsMounted serial times opened new → new.store.faults ≡ opened.faults
mounted_faults serial times opened new m =
    m.draws.marked.faults ∙ m.draws.lists.faults ∙ made_faults m.draws.tells.told opened m.draws.roomed new.marks m.draws.tells.made m.draws.tells.tells

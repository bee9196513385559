-- Who reads a flattened index or a packed one up to its length has its bytes, since it stays as it is.
use Rattle.std.proofs.Common.{◌≡◌, ℕ, zero, suc, ◌+◌, ◌-◌, ◌≤◌, nat_le, true, List, [], ◌∷◌, ◌++◌, length, take, drop, Option, Some, refl, ap, sym, ◌∙◌, inl, inr, subst, arith, append_assoc}
use Rattle.std.specs.Prelude.{Ok}
use Rattle.std.proofs.lemmas.Bool.{cases_lt, cond-true}
use Rattle.std.proofs.lemmas.Bool.Decides.{nat_tests}
use Rattle.std.proofs.lemmas.List.{append-nil, drop-drop, length-take, length-drop, take-append-drop}
use Rattle.plfs_types.specs.declared.names.Path.{Path}
use Rattle.container_layout.specs.Items.{IsItem}
use Rattle.mount_model.specs.declared.call.Ask.{Ask}
use Rattle.mount_model.specs.declared.row.Making.{Making}
use Rattle.mount_model.specs.Paths.{installed_item, installed_of}
use Rattle.mount_model.specs.History.{Event}
use Rattle.mount_model.specs.Program.{done}
use Rattle.mount_model.specs.Calls.{AreCallsOf}
use Rattle.mount_model.specs.Running.{asking}
use Rattle.mount_model.specs.FlowReplies.{bytes_in}
use Rattle.index_reader.specs.FileReads.{next_part, parts_of, parts}
use Rattle.reader_laws.specs.Moments.{Moment, file_then}
use Rattle.reader_laws.specs.Seen.{IsSeen}
use Rattle.reader_laws.specs.Files.{AreFileReads}
use Rattle.reader_laws.proofs.Gathered.Facts.{answers_as, read_told}
use Rattle.reader_laws.proofs.Calls.Calling.{asked_all, given_so, same_ok, bytes_given}

next_fits : (left : ℕ) → next_part left ≤ left
next_fits left = omega arith

none_left : (left : ℕ) → parts_of left ≡ 0 → left ≡ 0
none_left left e = omega (arith, e)

one_less : (left k : ℕ) → parts_of left ≡ suc k → parts_of (left - next_part left) ≡ k
one_less left k e = elim (cases_lt 1048576 left) as (λ _. parts_of (left - next_part left) ≡ k) [
  | inl more ↦ omega (arith, e, more)
  | inr few ↦ omega (arith, e, few)
]

one_file : (a b : List ℕ) (o : Option (List ℕ)) → o ≡ Some a → o ≡ Some b → a ≡ b
one_file a b o p q = cc

full_read : (at len : ℕ) (bytes : List ℕ) → at + len ≤ length bytes → length (take len (drop at bytes)) ≡ len
full_read at len bytes within = omega (arith, within, length-take len (drop at bytes), length-drop at bytes)

all_there : (a b : ℕ) → a ≡ b → nat_le a b ≡ true
all_there a b e = grind (arith, nat_tests)

-- what was read from a place on, behind what was read before
pub record HasBytes (room : ℕ) (path : Path) (at end : ℕ) (calls : List Event) (bytes sofar out : List ℕ) : Type 0 where
  pub reads : AreFileReads room path at end (asked_all calls) (drop at bytes)
  pub whole : out ≡ sofar ++ drop at bytes

pub drop_all : (bytes : List ℕ) (n : ℕ) → n ≡ length bytes → drop n bytes ≡ []
drop_all [] zero e = refl
drop_all [] (suc n) e = refl
drop_all (b ∷ bytes) zero e = absurd (omega (arith, e))
drop_all (b ∷ bytes) (suc n) e = drop_all bytes n (omega (arith, e))

pub parts_run : (caller : ℕ) (makes : Making) (room id n told_ left : ℕ) (start end : Moment) (calls : List Event) (bytes sofar out : List ℕ) → IsItem (installed_item makes id) → file_then start room (installed_of makes id) ≡ Some bytes → length bytes ≡ told_ → left ≤ told_ → parts_of left ≡ n
    → IsSeen caller start (asked_all calls) end → AreCallsOf (asking (parts n room (installed_of makes id) told_ left sofar)) calls (Ok out) → HasBytes room (installed_of makes id) (told_ - left) told_ calls bytes sofar out
parts_run caller makes room id zero told_ left start end calls bytes sofar out is there size few count seen made =
    let none : left ≡ 0 = none_left left count in
    let whole_ : told_ - left ≡ told_ = omega (arith, none) in
    let nothing : drop (told_ - left) bytes ≡ [] = drop_all bytes (told_ - left) (whole_ ∙ sym size) in
    record {
      reads = subst (λ es. AreFileReads room (installed_of makes id) (told_ - left) told_ (asked_all es) (drop (told_ - left) bytes)) (sym made.0) (whole_, nothing);
      whole = sym (same_ok sofar out made.1) ∙ sym (ap (λ b. sofar ++ b) nothing ∙ append-nil sofar);
    }
parts_run caller makes room id (suc n) told_ left start end [] bytes sofar out is there size few count seen made = absurd made
parts_run caller makes room id (suc n) told_ left start end (e ∷ calls) bytes sofar out is there size few count (next, call, seen) (asked, made) =
    let path : Path = installed_of makes id in
    let at : ℕ = told_ - left in
    let len : ℕ = next_part left in
    let g = given_so (bytes_in e.reply) _ _ calls out made in
    let got : List ℕ = g.0 in
    let asks = ap (λ (a : Ask). a.call) asked in
    let reply = bytes_given e.reply got g.1 in
    let m : Moment = call.before in
    let t = read_told m call.sound caller room path at len got next.state (answers_as m.state caller e.ask _ e.reply _ next.state asks reply refl call.answers) in
    let now : file_then m room path ≡ Some bytes = call.waits.indices makes room id bytes is there in
    let gave : take len (drop at bytes) ≡ got = ap (λ b. take len (drop at b)) (one_file bytes t.0 (file_then m room path) now t.1) ∙ t.2 in
    let long : length got ≡ len = ap length (sym gave) ∙ full_read at len bytes (omega (arith, size, few, next_fits left)) in
    let full : nat_le len (length got) ≡ true = all_there len (length got) (sym long) in
    let on : AreCallsOf (asking (parts n room path told_ (left - len) (sofar ++ got))) calls (Ok out) =
    subst (λ p. AreCallsOf (asking p) calls (Ok out)) (cond-true (nat_le len (length got)) (parts n room path told_ (left - len) (sofar ++ got)) (done (Ok (sofar ++ got))) full) g.2 in
    let h = parts_run caller makes room id n told_ (left - len) next end calls bytes (sofar ++ got) out is (call.goes.indices makes room id bytes is now) size (omega (arith, few)) (one_less left n count) seen on in
    let further : told_ - (left - len) ≡ at + length got = omega (arith, long, few, next_fits left) in
    let split : drop at bytes ≡ got ++ drop (told_ - (left - len)) bytes =
    sym (take-append-drop len (drop at bytes)) ∙ ap (λ b. b ++ drop len (drop at bytes)) gave ∙ ap (λ b. got ++ b) (drop-drop len at bytes ∙ ap (λ k. drop k bytes) (omega (arith, further, long))) in
    record {
      reads = (len, got, drop (told_ - (left - len)) bytes, record { call = asks; reply = reply }, subst (λ k. AreFileReads room path k told_ (asked_all calls) (drop (told_ - (left - len)) bytes)) further h.reads, split);
      whole = h.whole ∙ append_assoc sofar got (drop (told_ - (left - len)) bytes) ∙ ap (λ b. sofar ++ b) (sym split);
    }

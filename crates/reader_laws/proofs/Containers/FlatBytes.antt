-- The bytes of a flattened index are those of a file, whose first ones have no fault.
use Rattle.std.proofs.Common.{◌≡◌, ℕ, ◌-◌, ◌≤◌, ◌<◌, nat_eq, true, false, List, [], ◌∷◌, drop, length, take, Option, Some, None, refl, ap, sym, ◌∙◌, subst, arith}
use Rattle.std.specs.Prelude.{Result, Ok, Err, if◌then◌else◌}
use Rattle.std.proofs.lemmas.Bool.{cond-false}
use Rattle.std.proofs.lemmas.Bool.Decides.{nat_tests}
use Rattle.plfs_types.specs.declared.names.Path.{Path}
use Rattle.container_layout.specs.declared.items.Item.TheVariants as item
use Rattle.container_layout.specs.Items.{IsItem}
use Rattle.flat_format.specs.declared.flat.Flat.{Flat}
use Rattle.flat_format.specs.Spelling.{SpellsFlat}
use Rattle.flat_format.proofs.Facts.{head_spelled}
use Rattle.mount_model.specs.declared.call.Ask.{Ask}
use Rattle.mount_model.specs.declared.call.Call.TheVariants.{Look}
use Rattle.mount_model.specs.declared.call.Look.TheVariants.{Read}
use Rattle.mount_model.specs.declared.row.Making.TheVariants as making
use Rattle.mount_model.specs.Paths.{flat_path}
use Rattle.mount_model.specs.History.{Event}
use Rattle.mount_model.specs.Program.{done, followed_by}
use Rattle.mount_model.specs.Calls.{AreCallsOf}
use Rattle.mount_model.specs.declared.stuck.Stuck.{Stuck}
use Rattle.mount_model.specs.Running.{asking, unbroken}
use Rattle.mount_model.specs.FlowReplies.{Tries, bytes_in, damage, given, on_ok, trouble}
use Rattle.index_reader.specs.FileReads.{bytes_left, first_rest, next_part}
use Rattle.index_reader.specs.FlatRules.{flat_fault, flat_told}
use Rattle.index_reader.specs.Opening.{flat_bytes, flat_first, flat_or_damage, flat_rest, if_begun, unless_unfit}
use Rattle.index_reader.proofs.Facts.{bytes_going_on, flat_fault-none}
use Rattle.reader_laws.specs.Moments.{Moment, file_then}
use Rattle.reader_laws.specs.Seen.{IsSeen}
use Rattle.reader_laws.proofs.Gathered.Facts.{answers_as, read_told}
use Rattle.reader_laws.proofs.Calls.Calling.{asked_all, bytes_given}

-- all its bytes are read, and then judged
abbrev pub plain_bytes : ℕ → ℕ → ℕ → Tries Flat
plain_bytes room id told = followed_by (bytes_left room (flat_path id) told told []) (on_ok (λ bytes. done (flat_or_damage id (flat_told bytes))))

abbrev then_ : ℕ → Result (List ℕ) Stuck → Tries Flat
then_ id = on_ok (λ bytes. done (flat_or_damage id (flat_told bytes)))

not_ok : {X : Type 0} (why : Stuck) (x : X) → ◌≡◌ {A = Result X Stuck} (Err why) (Ok x) → ⊥
not_ok why x e = cc

some_bytes : (n : ℕ) → nat_eq n 0 ≡ false → 0 < n
some_bytes n e = grind (arith, nat_tests)

no_zero : (n : ℕ) → 0 < n → nat_eq n 0 ≡ false
no_zero n h = grind (arith, nat_tests)

-- the first Read is at the beginning
at_begin : (room told at : ℕ) (path : Path) (ask : Ask) → at ≡ 0 → ask ≡ unbroken (Look room (Read path 0 (next_part told))) → ask ≡ unbroken (Look room (Read path at (next_part told)))
at_begin room told at path ask zero_ is = is ∙ ap (λ n. unbroken (Look room (Read path n (next_part told)))) (sym zero_)

none_before : (told : ℕ) → told - told ≡ 0
none_before told = omega arith

-- ---- where it ends well

fit_ends : (room id told : ℕ) (first : List ℕ) (calls : List Event) (flat : Flat) (fault : Option ℕ) → AreCallsOf (asking (unless_unfit id fault (flat_rest room id told first))) calls (Ok flat) → AreCallsOf (asking (flat_rest room id told first)) calls (Ok flat)
fit_ends room id told first calls flat None made = made
fit_ends room id told first calls flat (Some place) made = absurd (not_ok (damage (flat_path id) place) flat made.1)

read_ends : (room id told : ℕ) (why : Stuck) (calls : List Event) (flat : Flat) (o : Option (List ℕ)) → AreCallsOf (asking (given o why (if_begun room id told))) calls (Ok flat)
    → AreCallsOf (asking (followed_by (given o why (λ first. first_rest room (flat_path id) told first)) (then_ id))) calls (Ok flat)
read_ends room id told why calls flat None made = absurd (not_ok why flat made.1)
read_ends room id told why calls flat (Some first) made = fit_ends room id told first calls flat (flat_fault told first) made

first_ends : (room id told : ℕ) (calls : List Event) (flat : Flat) → 0 < told → AreCallsOf (asking (flat_first room id told)) calls (Ok flat) → AreCallsOf (asking (plain_bytes room id told)) calls (Ok flat)
first_ends room id told [] flat some made = absurd made
first_ends room id told (e ∷ calls) flat some (asked, made) =
    subst (λ p. AreCallsOf (asking (followed_by p (then_ id))) (e ∷ calls) (Ok flat)) (sym (bytes_going_on room told told (flat_path id) [] some))
    (at_begin room told (told - told) (flat_path id) e.ask (none_before told) asked, read_ends room id told (trouble (flat_path id) e.reply) calls flat (bytes_in e.reply) made)

pub plain_ends : (room id told : ℕ) (calls : List Event) (flat : Flat) → AreCallsOf (asking (flat_bytes room id told)) calls (Ok flat) → AreCallsOf (asking (plain_bytes room id told)) calls (Ok flat)
plain_ends room id told calls flat = elim (nat_eq told 0) as (λ t. nat_eq told 0 ≡ t → AreCallsOf (asking (if t then done (Err (damage (flat_path id) 0)) else flat_first room id told)) calls (Ok flat) → AreCallsOf (asking (plain_bytes room id told)) calls (Ok flat)) [
  | true ↦ λ t made. absurd (not_ok (damage (flat_path id) 0) flat made.1)
  | false ↦ λ t made. first_ends room id told calls flat (some_bytes told t) made
] refl

-- ---- where it ends with a trouble, though the bytes are right

one_file : (a b : List ℕ) (o : Option (List ℕ)) → o ≡ Some a → o ≡ Some b → a ≡ b
one_file a b o p q = cc

none_dropped : (bytes : List ℕ) → drop 0 bytes ≡ bytes
none_dropped [] = refl
none_dropped (b ∷ bytes) = refl

module _ (caller room id : ℕ) (is : IsItem (item.Flat id)) (bytes : List ℕ) (flat : Flat) (spells : SpellsFlat bytes flat) (why : Stuck) where
  abbrev size : ℕ
  size = length bytes

  long : 24 ≤ size
  long = (head_spelled bytes flat spells).long

  fault_none : (first : List ℕ) → take (next_part size) (drop 0 bytes) ≡ first → flat_fault size first ≡ None
  fault_none first gave =
      let all : take (next_part size) bytes ≡ first = ap (take (next_part size)) (sym (none_dropped bytes)) ∙ gave in
      ap (flat_fault size) (sym all) ∙ flat_fault-none bytes flat (next_part size) spells (omega (arith, long))

  read_fails : (trouble_ : Stuck) (calls : List Event) (o : Option (List ℕ)) → ((first : List ℕ) → o ≡ Some first → flat_fault size first ≡ None) → AreCallsOf (asking (given o trouble_ (if_begun room id size))) calls (Err why)
      → AreCallsOf (asking (followed_by (given o trouble_ (λ first. first_rest room (flat_path id) size first)) (then_ id))) calls (Err why)
  read_fails trouble_ calls None fits made = made
  read_fails trouble_ calls (Some first) fits made = subst (λ o. AreCallsOf (asking (unless_unfit id o (flat_rest room id size first))) calls (Err why)) (fits first refl) made

  first_fails : (start end : Moment) (calls : List Event) → file_then start room (flat_path id) ≡ Some bytes → IsSeen caller start (asked_all calls) end → AreCallsOf (asking (flat_first room id size)) calls (Err why) → AreCallsOf (asking (plain_bytes room id size)) calls (Err why)
  first_fails start end [] there seen made = absurd made
  first_fails start end (e ∷ calls) there (next, call, seen) (asked, made) =
      let path : Path = flat_path id in
      let m : Moment = call.before in
      let now : file_then m room path ≡ Some bytes = call.waits.indices making.Flat room id bytes is there in
      let asks = ap (λ (a : Ask). a.call) asked in
      let gave : (first : List ℕ) → bytes_in e.reply ≡ Some first → take (next_part size) (drop 0 bytes) ≡ first = λ first told.
      (let reply = bytes_given e.reply first told in
      let t = read_told m call.sound caller room path 0 (next_part size) first next.state (answers_as m.state caller e.ask _ e.reply _ next.state asks reply refl call.answers) in
      ap (λ b. take (next_part size) (drop 0 b)) (one_file bytes t.0 (file_then m room path) now t.1) ∙ t.2) in
      subst (λ p. AreCallsOf (asking (followed_by p (then_ id))) (e ∷ calls) (Err why)) (sym (bytes_going_on room size size path [] (omega (arith, long))))
      (at_begin room size (size - size) path e.ask (none_before size) asked, read_fails (trouble path e.reply) calls (bytes_in e.reply) (λ first told. fault_none first (gave first told)) made)

  pub plain_fails : (start end : Moment) (calls : List Event) → file_then start room (flat_path id) ≡ Some bytes → IsSeen caller start (asked_all calls) end → AreCallsOf (asking (flat_bytes room id size)) calls (Err why) → AreCallsOf (asking (plain_bytes room id size)) calls (Err why)
  plain_fails start end calls there seen made =
      first_fails start end calls there seen
      (subst (λ p. AreCallsOf (asking p) calls (Err why)) (cond-false (nat_eq size 0) (done (Err (damage (flat_path id) 0))) (flat_first room id size) (no_zero size (omega (arith, long)))) made)

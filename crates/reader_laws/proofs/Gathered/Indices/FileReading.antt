-- What a reader reads of a file that stays as it is are its bytes.
use Rattle.std.proofs.Common.{◌≡◌, ℕ, zero, suc, ◌+◌, List, [], ◌∷◌, ◌++◌, length, take, drop, Option, Some, refl, ap, sym, ◌∙◌, arith, append_assoc}
use Rattle.std.proofs.lemmas.List.{append-nil}
use Rattle.container_layout.specs.Items.{IsItem}
use Rattle.mount_model.specs.declared.row.Making.{Making}
use Rattle.mount_model.specs.Paths.{installed_item, installed_of}
use Rattle.reader_laws.specs.Files.{AreFileReads}
use Rattle.reader_laws.specs.Moments.{Moment, file_then}
use Rattle.reader_laws.specs.Seen.{Asked, IsSeen}
use Rattle.reader_laws.proofs.Gathered.Containers.Looking.{read_told}
use Rattle.reader_laws.proofs.Gathered.Containers.Replied.{answers_as}

none_dropped : (bytes : List ℕ) → drop 0 bytes ≡ bytes
none_dropped [] = refl
none_dropped (b ∷ bytes) = refl

none_taken : (n k : ℕ) → take {A = ℕ} n [] ≡ take {A = ℕ} k []
none_taken zero zero = refl
none_taken zero (suc k) = refl
none_taken (suc n) zero = refl
none_taken (suc n) (suc k) = refl

none_more : (n : ℕ) → n ≡ 0 + n
none_more n = omega arith

one_more : (at n : ℕ) → suc (at + n) ≡ suc at + n
one_more at n = omega arith

take_on : (at len : ℕ) (bytes : List ℕ) → take at bytes ++ take len (drop at bytes) ≡ take (at + len) bytes
take_on zero len [] = none_taken len (0 + len)
take_on zero len (b ∷ bytes) = ap (λ n. take n (b ∷ bytes)) (none_more len)
take_on (suc at) len [] = none_taken len (suc at + len)
take_on (suc at) len (b ∷ bytes) = ap (λ l. b ∷ l) (take_on at len bytes) ∙ ap (λ n. take n (b ∷ bytes)) (one_more at len)

-- what is taken is as much of the front as it is long
taken_front : (n : ℕ) (xs : List ℕ) → take n xs ≡ take (length (take n xs)) xs
taken_front zero [] = refl
taken_front zero (x ∷ xs) = refl
taken_front (suc n) [] = refl
taken_front (suc n) (x ∷ xs) = ap (λ l. x ∷ l) (taken_front n xs)

one_file : (a b : List ℕ) (o : Option (List ℕ)) → o ≡ Some a → o ≡ Some b → a ≡ b
one_file a b o p q = cc

-- what Reads of a flattened index give are its bytes, since it stays as it is, and so it is with a packed one
pub reads_on : (caller : ℕ) (makes : Making) (room id : ℕ) (start end : Moment) (at stop : ℕ) (asked : List Asked) (content bytes : List ℕ) → IsSeen caller start asked end → IsItem (installed_item makes id) → file_then start room (installed_of makes id) ≡ Some bytes → AreFileReads room (installed_of makes id) at stop asked content
    → take at bytes ++ content ≡ take stop bytes
reads_on caller makes room id start end at stop [] content bytes seen is there (ends, none) = ap (λ c. take at bytes ++ c) none ∙ append-nil (take at bytes) ∙ ap (λ n. take n bytes) ends
reads_on caller makes room id start end at stop (a ∷ asked) content bytes (next, call, seen) is there (len, got, more, read, rest, split) =
    let m : Moment = call.before in
    let t = read_told m call.sound caller room (installed_of makes id) at len got next.state (answers_as m.state caller a.ask _ a.reply _ next.state read.call read.reply refl call.answers) in
    let now : file_then m room (installed_of makes id) ≡ Some bytes = call.waits.indices makes room id bytes is there in
    let same : t.0 ≡ bytes = one_file t.0 bytes (file_then m room (installed_of makes id)) t.1 now in
    let given : got ≡ take len (drop at bytes) = sym t.2 ∙ ap (λ b. take len (drop at b)) same in
    let gave : got ≡ take (length got) (drop at bytes) = given ∙ taken_front len (drop at bytes) ∙ ap (λ g. take (length g) (drop at bytes)) (sym given) in
    ap (λ c. take at bytes ++ c) (split ∙ ap (λ g. g ++ more) gave)
    ∙ sym (append_assoc (take at bytes) (take (length got) (drop at bytes)) more)
    ∙ ap (λ l. l ++ more) (take_on at (length got) bytes)
    ∙ reads_on caller makes room id next end (at + length got) stop asked more bytes seen is (call.goes.indices makes room id bytes is now) rest

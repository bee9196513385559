-- Words are those of one command at most.
use Rattle.std.proofs.Common.{◌≡◌, ℕ, Bool, ◌+◌, ◌*◌, nat_eq, if◌then◌else◌, List, [], ◌∷◌, refl, sym, ap, ◌∙◌, subst, arith}
use Rattle.std.specs.Prelude.{codes}
use Rattle.std.specs.Fmt.{decimal}
use Rattle.std.proofs.lemmas.Fmt.{decimal_injective}
use Rattle.command_line.specs.declared.commands.Command.{Command}
use Rattle.command_line.specs.declared.commands.Command.TheVariants as command
use Rattle.command_line.specs.Commands.{IsCommand}

abbrev Words : Type 0
Words = List (List ℕ)

-- ---- the command that words tell, by the head of the first one

-- of three letters and more the first three
abbrev head_of : List ℕ → ℕ
head_of (a ∷ b ∷ c ∷ letters) = (a * 256 + b) * 256 + c
head_of letters = 0

abbrev first : Words → List ℕ
first (word ∷ words) = word
first [] = []

abbrev behind : Words → Words
behind (word ∷ words) = words
behind [] = []

abbrev is_verb : Words → List ℕ → Bool
is_verb words verb = nat_eq (head_of (first words)) (head_of verb)

-- it has this number, where it has one
abbrev told : Words → ℕ → Command
told words number =
    let name = first (behind words) in
    let second = first (behind (behind words)) in
    if is_verb words (codes "run") then command.Run else
    if is_verb words (codes "play") then command.Play else
    if is_verb words (codes "gen") then command.Gen number else
    if is_verb words (codes "cat") then command.Cat name else
    if is_verb words (codes "stat") then command.Stat name else
    if is_verb words (codes "map") then command.Map name else
    if is_verb words (codes "flatten") then command.Flatten name else
    if is_verb words (codes "recover") then command.Recover name else
    if is_verb words (codes "migrate") then command.Migrate name else
    if is_verb words (codes "pack") then command.Pack name number else
    if is_verb words (codes "unpack") then command.Unpack name second else
    if is_verb words (codes "names") then command.Names name else
    if is_verb words (codes "trunc") then command.Trunc name number else
    if is_verb words (codes "rename") then command.Rename name second else command.Ls

abbrev number_of : Command → ℕ
number_of (command.Gen writers) = writers
number_of (command.Trunc name size) = size
number_of (command.Pack name region) = region
number_of other = 0

-- so the words tell any command that they are, whatever number is given beside one without a number
tells : (words : Words) (c : Command) → IsCommand words c → c ≡ told words (number_of c)
tells words command.Run is = subst (λ w. command.Run ≡ told w 0) (sym is) refl
tells words command.Play is = subst (λ w. command.Play ≡ told w 0) (sym is) refl
tells words (command.Gen writers) is = subst (λ w. command.Gen writers ≡ told w writers) (sym is.0) refl
tells words (command.Cat name) is = subst (λ w. command.Cat name ≡ told w 0) (sym is.0) refl
tells words (command.Stat name) is = subst (λ w. command.Stat name ≡ told w 0) (sym is.0) refl
tells words (command.Map name) is = subst (λ w. command.Map name ≡ told w 0) (sym is.0) refl
tells words (command.Flatten name) is = subst (λ w. command.Flatten name ≡ told w 0) (sym is.0) refl
tells words (command.Recover name) is = subst (λ w. command.Recover name ≡ told w 0) (sym is.0) refl
tells words (command.Migrate name) is = subst (λ w. command.Migrate name ≡ told w 0) (sym is.0) refl
tells words (command.Pack name region) is = subst (λ w. command.Pack name region ≡ told w region) (sym is.0) refl
tells words (command.Unpack name file) is = subst (λ w. command.Unpack name file ≡ told w 0) (sym is.0) refl
tells words (command.Names name) is = subst (λ w. command.Names name ≡ told w 0) (sym is.0) refl
tells words (command.Trunc name size) is = subst (λ w. command.Trunc name size ≡ told w size) (sym is.0) refl
tells words (command.Rename name to) is = subst (λ w. command.Rename name to ≡ told w 0) (sym is.0) refl
tells words command.Ls is = subst (λ w. command.Ls ≡ told w 0) (sym is) refl

-- of two commands one has a number, and so has the other: they are one
gen_one : (words : Words) (writers : ℕ) (b : Command) → IsCommand words (command.Gen writers) → IsCommand words b → command.Gen writers ≡ b
gen_one words writers b x y =
    let told_so : b ≡ command.Gen (number_of b) = subst (λ w. b ≡ told w (number_of b)) x.0 (tells words b y) in
    let z : IsCommand words (command.Gen (number_of b)) = subst (λ c. IsCommand words c) told_so y in
    let texts : codes "gen" ∷ decimal writers ∷ [] ≡ codes "gen" ∷ decimal (number_of b) ∷ [] = sym x.0 ∙ z.0 in
    let number : writers ≡ number_of b = decimal_injective writers (number_of b) (omega (arith, x.2)) (omega (arith, z.2)) (ap (λ w. first (behind w)) texts) in
    ap command.Gen number ∙ sym told_so

trunc_one : (words : Words) (name : List ℕ) (size : ℕ) (b : Command) → IsCommand words (command.Trunc name size) → IsCommand words b → command.Trunc name size ≡ b
trunc_one words name size b x y =
    let told_so : b ≡ command.Trunc name (number_of b) = subst (λ w. b ≡ told w (number_of b)) x.0 (tells words b y) in
    let z : IsCommand words (command.Trunc name (number_of b)) = subst (λ c. IsCommand words c) told_so y in
    let texts : codes "trunc" ∷ name ∷ decimal size ∷ [] ≡ codes "trunc" ∷ name ∷ decimal (number_of b) ∷ [] = sym x.0 ∙ z.0 in
    let number : size ≡ number_of b = decimal_injective size (number_of b) x.2 z.2 (ap (λ w. first (behind (behind w))) texts) in
    ap (command.Trunc name) number ∙ sym told_so

pack_one : (words : Words) (name : List ℕ) (region : ℕ) (b : Command) → IsCommand words (command.Pack name region) → IsCommand words b → command.Pack name region ≡ b
pack_one words name region b x y =
    let told_so : b ≡ command.Pack name (number_of b) = subst (λ w. b ≡ told w (number_of b)) x.0 (tells words b y) in
    let z : IsCommand words (command.Pack name (number_of b)) = subst (λ c. IsCommand words c) told_so y in
    let texts : codes "pack" ∷ name ∷ decimal region ∷ [] ≡ codes "pack" ∷ name ∷ decimal (number_of b) ∷ [] = sym x.0 ∙ z.0 in
    let number : region ≡ number_of b = decimal_injective region (number_of b) (omega (arith, x.2)) (omega (arith, z.2)) (ap (λ w. first (behind (behind w))) texts) in
    ap (command.Pack name) number ∙ sym told_so

pub one_command : (words : Words) (a b : Command) → IsCommand words a → IsCommand words b → a ≡ b
one_command words command.Run b x y = subst (λ w. command.Run ≡ told w (number_of b)) (sym x) refl ∙ sym (tells words b y)
one_command words command.Play b x y = subst (λ w. command.Play ≡ told w (number_of b)) (sym x) refl ∙ sym (tells words b y)
one_command words (command.Gen writers) b x y = gen_one words writers b x y
one_command words (command.Cat name) b x y = subst (λ w. command.Cat name ≡ told w (number_of b)) (sym x.0) refl ∙ sym (tells words b y)
one_command words (command.Stat name) b x y = subst (λ w. command.Stat name ≡ told w (number_of b)) (sym x.0) refl ∙ sym (tells words b y)
one_command words (command.Map name) b x y = subst (λ w. command.Map name ≡ told w (number_of b)) (sym x.0) refl ∙ sym (tells words b y)
one_command words (command.Flatten name) b x y = subst (λ w. command.Flatten name ≡ told w (number_of b)) (sym x.0) refl ∙ sym (tells words b y)
one_command words (command.Recover name) b x y = subst (λ w. command.Recover name ≡ told w (number_of b)) (sym x.0) refl ∙ sym (tells words b y)
one_command words (command.Migrate name) b x y = subst (λ w. command.Migrate name ≡ told w (number_of b)) (sym x.0) refl ∙ sym (tells words b y)
one_command words (command.Pack name region) b x y = pack_one words name region b x y
one_command words (command.Unpack name file) b x y = subst (λ w. command.Unpack name file ≡ told w (number_of b)) (sym x.0) refl ∙ sym (tells words b y)
one_command words (command.Names name) b x y = subst (λ w. command.Names name ≡ told w (number_of b)) (sym x.0) refl ∙ sym (tells words b y)
one_command words (command.Trunc name size) b x y = trunc_one words name size b x y
one_command words (command.Rename name to) b x y = subst (λ w. command.Rename name to ≡ told w (number_of b)) (sym x.0) refl ∙ sym (tells words b y)
one_command words command.Ls b x y = subst (λ w. command.Ls ≡ told w (number_of b)) (sym x) refl ∙ sym (tells words b y)

-- The numbers of syncs and closes, by the law that they count the lines of writes.
use Rattle.std.proofs.Common.{◌≡◌, ◌⊎◌, ◌+◌, ◌-◌, ◌==◌, inl, inr, ℕ, Bool, true, false, nat_eq, nat_le, List, [], ◌∷◌, ◌++◌, length, filter, Some, None, refl, sym, ap, ◌∙◌, subst, arith, if◌then◌else◌, slice_get}
use Rattle.std.specs.List.{AllByRecursion}
use Rattle.std.proofs.lemmas.Bool.Decides.{nat_tests}
use Rattle.script_lang.specs.declared.line.Line.{Line}
use Rattle.script_lang.specs.declared.line.Outcome.{Outcome}
use Rattle.script_lang.specs.declared.line.Outcome.TheVariants as line
use Rattle.script_lang.specs.declared.line.Why.TheVariants.{AlreadyOpen, StampsSpent, TooFar}
use Rattle.script_lang.specs.declared.script.ActorDecl.{ActorDecl}
use Rattle.script_lang.specs.declared.script.Statement.{Statement}
use Rattle.script_lang.specs.declared.script.Statement.TheVariants.{Close, Open, Sync, Write}
use Rattle.outcomes.specs.Data.{bytes_of}
use Rattle.mount_model.specs.Performers.{told_at}
use Rattle.headline_laws.specs.Counting.{CountWrites, TellCounts, TellsCount, written_after}
use Rattle.headline.specs.Run.{IsLine, Phased, Run, Says, Told, before, beside, own, phased, surely_before, told}
use Rattle.headline.specs.Writers.{Account, account, account_of, cap_of, after_line, made_room, nothing, one_more, told_of}
use Rattle.headline.specs.Changes.{Writing, id_of, in_doubt, none, unsure, writer, writer_at, writing_after, writing_next}
use Rattle.headline.specs.Kinds.{IsOfKind}
use Rattle.plain_file.proofs.Facts.{Among}
use Rattle.reader_laws.proofs.Gathered.Facts.{among, is_among}
use Rattle.headline_laws.proofs.OrderlyLines.Places.{actors, actors_whose, own_split}

-- ---- one line

-- neither an opening nor a write
abbrev pub IsOther : Outcome → Type 0
IsOther (line.Opened id) = ⊥
IsOther (line.Wrote place len (Some stamp)) = ⊥
IsOther other = Unit {0}

-- the same writes of the same writer
pub record Same (b a : Account) : Type 0 where
  pub latest : b.latest ≡ a.latest
  pub writes : b.writes ≡ a.writes

itself : (a : Account) → Same a a
itself a = record { latest = refl; writes = refl }

where_latest : (b : Bool) (x a : Account) → Same x a → Same (if b then x else a) a
where_latest true x a s = s
where_latest false x a s = itself a

pub room_same : (cap : ℕ) (a : Account) → Same (made_room cap a) a
room_same cap a = elim (nat_le cap (length a.writes - a.least)) as (λ b. Same (if b then record { latest = a.latest; writes = a.writes; least = if nat_eq a.least a.most then length a.writes else a.least; most = length a.writes } else a) a) [
  | true ↦ record { latest = refl; writes = refl }
  | false ↦ itself a
]

line_same : (id cap : ℕ) (a : Account) (s : Statement) (o : Outcome) → IsOther o → Same (after_line id cap a s o) a
line_same id cap a (Write at content) (line.Opened other) is = absurd is
line_same id cap a (Write at content) (line.Wrote place len (Some stamp)) is = absurd is
line_same id cap a (Write at content) (line.Refused TooFar) is = room_same cap a
line_same id cap a (Write at content) (line.Refused StampsSpent) is = room_same cap a
line_same id cap a (Write at content) (line.Wrote place len None) is = itself a
line_same id cap a (Write at content) line.Gone is = itself a
line_same id cap a (Write at content) o is = record { latest = refl; writes = refl }
line_same id cap a Sync (line.Synced count) is = record { latest = refl; writes = refl }
line_same id cap a Sync (line.Closed count) is = record { latest = refl; writes = refl }
line_same id cap a Sync line.Gone is = itself a
line_same id cap a Sync o is = record { latest = refl; writes = refl }
line_same id cap a Close (line.Synced count) is = record { latest = refl; writes = refl }
line_same id cap a Close (line.Closed count) is = record { latest = refl; writes = refl }
line_same id cap a Close line.Gone is = itself a
line_same id cap a Close o is = record { latest = refl; writes = refl }
line_same id cap a s o is = itself a

pub told_same : (id cap : ℕ) (a : Account) (s : Statement) (o : Outcome) → IsOther o → Same (told_of id cap a s o) a
told_same id cap a s (line.Opened other) is = absurd is
told_same id cap a s o is = where_latest a.latest (after_line id cap a s o) a (line_same id cap a s o is)

count_same : (c : ℕ) (o : Outcome) → IsOther o → written_after c o ≡ c
count_same c (line.Opened other) is = absurd is
count_same c (line.Wrote place len (Some stamp)) is = absurd is
count_same c o is = refl

-- a line keeps the writer, or there is none behind it
doubted : (w : Writing) → id_of (in_doubt w) ≡ id_of w
doubted none = refl
doubted (unsure id) = refl
doubted (writer id) = refl

kept : (id : ℕ) (w : Writing) (s : Statement) (o : Outcome) → IsOther o → id_of (writing_next w s o) ≡ Some id → id_of w ≡ Some id
kept id w (Open name) (line.Opened other) is at = absurd is
kept id w (Open name) (line.Refused AlreadyOpen) is at = at
kept id w (Open name) o is at = absurd (cc)
kept id w Close (line.Closed count) is at = absurd (cc)
kept id w Close o is at = sym (doubted w) ∙ at
kept id w s o is at = at

-- what is told of the writer that the actor has is as many writes as were counted
abbrev Agrees : ℕ → Writing → Account → ℕ → Type 0
Agrees id w a c = id_of w ≡ Some id → (a.latest ≡ true) × (length a.writes ≡ c)

other_step : (id cap : ℕ) (w : Writing) (a : Account) (c : ℕ) (s : Statement) (o : Outcome) → IsOther o → Agrees id w a c → Agrees id (writing_next w s o) (told_of id cap a s o) (written_after c o)
other_step id cap w a c s o is agrees at =
    let h = agrees (kept id w s o is at) in
    let same = told_same id cap a s o is in
    (same.latest ∙ h.0, ap (λ ws. length ws) same.writes ∙ h.1 ∙ sym (count_same c o is))

opened_step : (id other cap : ℕ) (a : Account) (s : Statement) → Some other ≡ Some id → ((told_of id cap a s (line.Opened other)).latest ≡ true) × (length (told_of id cap a s (line.Opened other)).writes ≡ 0)
opened_step id other cap a s is =
    let one : other ≡ id = cc in
    let same : nat_eq other id ≡ true = grind (arith, nat_tests) in
    subst (λ b. ((if b then nothing true else record { latest = false; writes = a.writes; least = a.least; most = a.most }).latest ≡ true) × (length (if b then nothing true else record { latest = false; writes = a.writes; least = a.least; most = a.most }).writes ≡ 0)) (sym same) (refl, refl)

pushed : {X : Type 0} (xs : List X) (x : X) → length (xs ++ x ∷ []) ≡ length xs + 1
pushed [] x = refl
pushed (y ∷ xs) x = let shorter = pushed xs x in omega (arith, shorter)

wrote_step : (id cap c at stamp place len : ℕ) (content : _) (w : Writing) (a : Account) → Agrees id w a c → Agrees id w (told_of id cap a (Write at content) (line.Wrote place len (Some stamp))) (c + 1)
wrote_step id cap c at stamp place len content w a agrees is =
    let h = agrees is in
    let b = one_more id at (bytes_of content) stamp (made_room cap a) in
    let same = room_same cap a in
    subst (λ l. ((if l then b else a).latest ≡ true) × (length (if l then b else a).writes ≡ c + 1)) (sym h.0)
    (same.latest ∙ h.0, pushed (made_room cap a).writes _ ∙ ap (λ ws. length ws + 1) same.writes ∙ ap (λ n. n + 1) h.1)

step : (id cap : ℕ) (w : Writing) (a : Account) (c : ℕ) (s : Statement) (o : Outcome) → IsOfKind s o → Agrees id w a c → Agrees id (writing_next w s o) (told_of id cap a s o) (written_after c o)
step id cap w a c (Open name) (line.Opened other) kind agrees = λ is. opened_step id other cap a (Open name) is
step id cap w a c (Write at content) (line.Wrote place len (Some stamp)) kind agrees = wrote_step id cap c at stamp place len content w a agrees
step id cap w a c (Write at content) (line.Opened other) kind agrees = absurd kind
step id cap w a c Sync (line.Opened other) kind agrees = absurd kind
step id cap w a c Close (line.Opened other) kind agrees = absurd kind
step id cap w a c (Open name) (line.Wrote place len (Some stamp)) kind agrees = absurd kind
step id cap w a c Sync (line.Wrote place len (Some stamp)) kind agrees = absurd kind
step id cap w a c Close (line.Wrote place len (Some stamp)) kind agrees = absurd kind
step id cap w a c s (line.Opened other) kind agrees = absurd kind
step id cap w a c s (line.Wrote place len (Some stamp)) kind agrees = absurd kind
step id cap w a c s o kind agrees = other_step id cap w a c s o tt agrees

-- ---- all lines of an actor

abbrev Kinds : List Told → Type 0
Kinds ts = AllByRecursion (λ (t : Told). IsOfKind t.statement t.outcome) ts

abbrev counted : ℕ → List Told → ℕ
counted c [] = c
counted c (t ∷ ts) = counted (written_after c t.outcome) ts

agree : (id most : ℕ) (w : Writing) (a : Account) (c : ℕ) (ts : List Told) → Kinds ts → Agrees id w a c → Agrees id (writing_after w ts) (account_of id most a ts) (counted c ts)
agree id most w a c [] kinds agrees = agrees
agree id most w a c (t ∷ ts) kinds agrees = agree id most (writing_next w t.statement t.outcome) (told_of id most a t.statement t.outcome) (written_after c t.outcome) ts kinds.1 (step id most w a c t.statement t.outcome kinds.0 agrees)

abbrev TellEach : ℕ → List Told → Type 0
TellEach c [] = Unit {0}
TellEach c (t ∷ ts) = TellsCount c t.outcome × TellEach (written_after c t.outcome) ts

tell_at : (c : ℕ) (ts : List Told) (t : Told) (rest : List Told) → TellEach c (ts ++ t ∷ rest) → TellsCount (counted c ts) t.outcome
tell_at c [] t rest tell = tell.0
tell_at c (s ∷ ts) t rest tell = tell_at (written_after c s.outcome) ts t rest tell.1

-- an actor's lines are those that it told
tell_own : (actor c place : ℕ) (ss : List Phased) (lines : List Line) → TellCounts c (told_at actor (actors ss) lines) → TellEach c (own actor (beside place ss lines))
tell_own actor c place [] lines tell = tt
tell_own actor c place (s ∷ ss) [] tell = tt
tell_own actor c place (s ∷ ss) (l ∷ lines) tell =
    let t : Told = record { phase = s.phase; place = place; actor = s.is.actor; statement = s.is.statement; outcome = l.outcome } in
    elim (nat_eq s.is.actor actor) as (λ b. TellCounts c (if b then l ∷ told_at actor (actors ss) lines else told_at actor (actors ss) lines) → TellEach c (if b then t ∷ own actor (beside (place + 1) ss lines) else own actor (beside (place + 1) ss lines))) [
      | true ↦ λ h. (h.0, tell_own actor (written_after c l.outcome) (place + 1) ss lines h.1)
      | false ↦ λ h. tell_own actor c (place + 1) ss lines h
    ] tell

-- ---- the clause

kinds_kept : (p : Told → Bool) (ts : List Told) → Kinds ts → Kinds (filter p ts)
kinds_kept p [] kinds = tt
kinds_kept p (t ∷ ts) kinds = elim (p t) as (λ b. Kinds (if b then t ∷ filter p ts else filter p ts)) [
  | true ↦ (kinds.0, kinds_kept p ts kinds.1)
  | false ↦ kinds_kept p ts kinds.1
]

number_told : (run : Run) (t : Told) (id cap : ℕ) → Kinds (told run) → IsLine run t → TellCounts 0 (told_at t.actor (actors (phased 0 run.script.phases)) run.lines)
    → id_of (writing_after none (own t.actor (before run t))) ≡ Some id → TellsCount (length (account_of id cap (nothing false) (own t.actor (before run t))).writes) t.outcome
number_told run t id cap kinds is_line counts has =
    let at = among (told run) t is_line in
    let split = own_split run t at in
    let mine = own t.actor (before run t) in
    let each = subst (TellEach 0) split.is (tell_own t.actor 0 0 (phased 0 run.script.phases) run.lines counts) in
    let told_here = tell_at 0 mine t split.rest each in
    let agreed = agree id cap none (nothing false) 0 mine (kinds_kept (λ (s : Told). s.actor == t.actor) (before run t) (kinds_kept (λ (s : Told). surely_before run s t) (told run) kinds)) (λ no. absurd (cc)) has in
    subst (λ n. TellsCount n t.outcome) (sym agreed.1) told_here

all_kinds : (ts : List Told) → ((t : Told) → Among t ts → IsOfKind t.statement t.outcome) → Kinds ts
all_kinds [] each = tt
all_kinds (t ∷ ts) each = (each t (inl refl), all_kinds ts (λ s at. each s (inr at)))

says : (n : ℕ) (run : Run) (t : Told) (count : ℕ) → Says run t (line.Synced count) ⊎ Says run t (line.Closed count) → TellsCount n t.outcome → count ≡ n
says n run t count (inl is) tells = subst (λ o. TellsCount n o) is.says tells
says n run t count (inr is) tells = subst (λ o. TellsCount n o) is.says tells

line_in : (run : Run) (t : Told) (count : ℕ) → Says run t (line.Synced count) ⊎ Says run t (line.Closed count) → IsLine run t
line_in run t count (inl is) = is.is_line
line_in run t count (inr is) = is.is_line

-- The field `synced` of the headline, from its field `kinds` and the law of the lines of a play.
pub synced_tells : (run : Run) → CountWrites run.script run.lines
    → ((t : Told) → IsLine run t → IsOfKind t.statement t.outcome)
    → ((t : Told) → IsLine run t → (declared : ActorDecl) × (slice_get run.script.actors t.actor ≡ Some declared))
    → (t : Told) (n id : ℕ) → Says run t (line.Synced n) ⊎ Says run t (line.Closed n) → writer_at run t ≡ Some id → n ≡ length (account run t.actor id (before run t)).writes
synced_tells run counts kinds declared t n id is has =
    let is_line = line_in run t n is in
    let d = declared t is_line in
    let told_so = subst (λ ns. TellCounts 0 (told_at t.actor ns run.lines)) (sym (actors_whose 0 run.script.phases)) (counts t.actor d.0 d.1) in
    let each = all_kinds (told run) (λ s at. kinds s (is_among (told run) s at)) in
    says (length (account run t.actor id (before run t)).writes) run t n is (number_told run t id (cap_of (slice_get run.script.actors t.actor)) each is_line told_so has)

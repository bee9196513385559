-- Of a line that is surely before another the part of the history lies before that of the other.
use Rattle.std.proofs.Common.{◌≡◌, ◌≤◌, ◌<◌, ◌⊎◌, ◌+◌, ◌&&◌, ◌||◌, inl, inr, ℕ, Bool, true, false, nat_eq, nat_lt, List, [], ◌∷◌, ◌++◌, filter, length, Some, None, refl, sym, ap, ◌∙◌, subst, arith, append_assoc, if◌then◌else◌}
use Rattle.std.specs.Prelude.{slice_get}
use Rattle.std.specs.List.{AllByRecursion}
use Rattle.std.proofs.lemmas.Bool.Decides.{nat_tests}
use Rattle.std.proofs.lemmas.List.{append-nil, length-map}
use Rattle.std.proofs.lemmas.List.Elements.{recursion_from_All}
use Rattle.std.proofs.lemmas.Option.{same_Some}
use Rattle.turn_object.specs.Front.{KeepsIn}
use Rattle.mount_model.specs.State.{State}
use Rattle.script_lang.specs.Ranges.{FitsScript}
use Rattle.script_lang.specs.declared.script.ActorDecl.{ActorDecl}
use Rattle.mount_model.specs.declared.call.Ask.{Ask}
use Rattle.mount_model.specs.declared.reply.Reply.{Reply}
use Rattle.mount_model.specs.MakesCalls.{Role, callers, one_history}
use Rattle.mount_model.specs.Performers.{told_at}
use Rattle.mount_model.specs.Plays.{PlaysAll}
use Rattle.mount_model.specs.Process.{ends}
use Rattle.actor_core.specs.declared.kept.Kept.{Kept}
use Rattle.actor_core.specs.Progress.{fresh}
use Rattle.run_core.specs.Cast.{statements_in}
use Rattle.run_core.specs.Course.{course_of}
use Rattle.run_core.specs.Play.{IsRight}
use Rattle.run_core.specs.Written.{whose}
use Rattle.headline.specs.Writers.{cap_of, host_of}
use Rattle.headline.specs.Run.{IsLine, Phased, Run, Told, before, own, phased, surely_before, told}
use Rattle.plain_file.proofs.Facts.{Among}
use Rattle.reader_laws.proofs.Gathered.Facts.{among}
use Rattle.headline_laws.proofs.Plays.Facts.{AllOf, its_role, its_workers}
use Rattle.headline_laws.proofs.OrderlyLines.Orderly.{plays_here}
use Rattle.headline_laws.proofs.Story.Parts.{HaveParts, LinePart, ToldParts, begins, line_from, line_to, own_parts, own_phased, part_at, parts_at, phases_apart, through_parts}
use Rattle.headline_laws.proofs.OrderlyLines.Places.{actors_whose, own_split, statements_phased}

-- ---- among lines

pub record Halves (x : Told) (xs : List Told) : Type 0 where
  pub front : List Told
  pub rest : List Told
  pub is : xs ≡ front ++ x ∷ rest

pub halves : (x : Told) (xs : List Told) → Among x xs → Halves x xs
halves x [] at = absurd at
halves x (y ∷ ys) (inl same) = record { front = []; rest = ys; is = ap (λ z. z ∷ ys) (sym same) }
halves x (y ∷ ys) (inr at) = let more = halves x ys at in record { front = y ∷ more.front; rest = more.rest; is = ap (λ z. y ∷ z) more.is }

pub in_filter : (p : Told → Bool) (x : Told) (xs : List Told) → p x ≡ true → Among x xs → Among x (filter p xs)
in_filter p x [] holds at = absurd at
in_filter p x (y ∷ ys) holds (inl same) = let here : p y ≡ true = ap p (sym same) ∙ holds in subst (λ b. Among x (if b then y ∷ filter p ys else filter p ys)) (sym here) (inl same)
in_filter p x (y ∷ ys) holds (inr at) = elim (p y) as (λ b. Among x (if b then y ∷ filter p ys else filter p ys)) [
  | true ↦ inr (in_filter p x ys holds at)
  | false ↦ in_filter p x ys holds at
]

pub both_true : (a b : Bool) → (a && b) ≡ true → (a ≡ true) × (b ≡ true)
both_true true b is = (refl, is)
both_true false b is = absurd (cc)

pub one_true : (a b c : Bool) → a ≡ false → (a || b || c) ≡ true → (b ≡ true) ⊎ (c ≡ true)
one_true true b c off is = absurd (cc)
one_true false true c off is = inl refl
one_true false false c off is = inr is

pub is_less : (a b : ℕ) → nat_lt a b ≡ true → a < b
is_less a b is = grind (arith, nat_tests)

pub is_same : (a b : ℕ) → nat_eq a b ≡ true → a ≡ b
is_same a b is = grind (arith, nat_tests)

-- ---- the parts of an actor's lines

module _ (run : Run) (start end : State) (fits : FitsScript run.script) (right : IsRight run.script start run.lines end) where
  -- the actor of a line calls under this number, and each of its lines has its part
  pub record OwnParts (actor : ℕ) : Type 0 where
    pub number : ℕ
    pub kept : Kept
    pub host : kept.host ≡ host_of (slice_get run.script.actors actor)
    pub cap : kept.cap ≡ cap_of (slice_get run.script.actors actor)
    pub is_role : (role : Role Ask Reply State) → slice_get right.calls.roles actor ≡ Some role → role.number ≡ number
    -- it has no reader and no writer yet, and no stop is armed
    pub no_reader : kept.reader ≡ None
    pub no_writer : kept.writer ≡ None
    pub no_stop : kept.armed ≡ None
    pub parts : ToldParts number right.history right.calls.blocks [] kept (own actor (told run))

  -- there is a line for each statement
  as_many : length run.lines ≡ length (phased 0 run.script.phases)
  as_many = right.long ∙ sym (ap length (statements_phased 0 run.script.phases)) ∙ length-map (phased 0 run.script.phases) (λ (s : Phased). s.is)

  pub parts_of : (actor : ℕ) (declared : ActorDecl) → slice_get run.script.actors actor ≡ Some declared → OwnParts actor
  parts_of actor d here =
      let phases = run.script.phases in
      let ss = phased 0 phases in
      let blocks = right.calls.blocks in
      let is : right.history ≡ one_history blocks = right.calls.in_phases in
      let p = its_role phases blocks (whose (statements_in phases)) run.lines 0 run.script.actors right.calls.roles actor d right.calls.plays here in
      let at : 0 + actor ≡ actor = omega arith in
      let kept = fresh d.host d.cap in
      let workers = its_workers right.history right.calls.roles actor p.role p.there (recursion_from_All (KeepsIn right.history) (callers right.history right.calls.roles) right.calls.whole) in
      let whole : AllOf [] (one_history blocks) p.role.workers = record { tail = []; keeps = subst (λ es. AllByRecursion (KeepsIn es) p.role.workers) (is ∙ sym (append-nil (one_history blocks))) workers } in
      let plays = subst (λ k. PlaysAll p.role.number (course_of k phases d) blocks p.role.workers (told_at k (whose (statements_in phases)) run.lines) ends) at p.plays in
      let have = through_parts p.role.number right.history blocks actor 0 phases blocks [] kept p.role.workers (told_at actor (whose (statements_in phases)) run.lines) is
      (λ more. let same : 0 + more ≡ more = omega arith in let none : begins blocks more ≡ 0 + begins blocks more = omega arith in ap (begins blocks) same ∙ none) whole plays in
      record {
        number = p.role.number;
        kept = kept;
        host = sym (ap host_of here);
        cap = sym (ap cap_of here);
        is_role = λ role there. ap (λ (r : Role Ask Reply State). r.number) (same_Some role p.role (sym there ∙ p.there));
        no_reader = refl;
        no_writer = refl;
        no_stop = refl;
        parts = own_parts p.role.number right.history blocks actor 0 [] ss run.lines kept as_many (subst (λ ns. HaveParts p.role.number right.history blocks [] kept (own_phased p.role.number right.history blocks actor ss) (told_at actor ns run.lines)) (sym (actors_whose 0 phases)) have);
      }

  pub parts_here : (t : Told) → IsLine run t → OwnParts t.actor
  parts_here t is_line = (let (d, here, p) = plays_here run start end fits right t is_line in parts_of t.actor d here)

  -- a line's part, with the number under which its actor calls
  pub record Part (t : Told) : Type 0 where
    pub number : ℕ
    pub line : LinePart number right.history right.calls.blocks t

  pub part_here : (t : Told) → IsLine run t → Part t
  part_here t is_line =
      let own_ones = parts_here t is_line in
      let split = own_split run t (among (told run) t is_line) in
      let p = part_at own_ones.number right.history right.calls.blocks (own t.actor (before run t)) t split.rest [] own_ones.kept (subst (ToldParts own_ones.number right.history right.calls.blocks [] own_ones.kept) split.is own_ones.parts) in
      record { number = own_ones.number; line = p.0 }

  -- the one's part ends where the other's begins, or before that
  pub record Apart (s t : Told) : Type 0 where
    pub one : Part s
    pub other : Part t
    pub behind : line_to one.number right.history right.calls.blocks one.line ≤ line_from other.number right.history right.calls.blocks other.line

  by_actor : (s t : Told) → IsLine run s → IsLine run t → surely_before run s t ≡ true → s.actor ≡ t.actor → Apart s t
  by_actor s t is_s is_t sooner same =
      let own_ones = parts_here t is_t in
      let split = own_split run t (among (told run) t is_t) in
      let is_own : nat_eq s.actor t.actor ≡ true = grind (arith, nat_tests) in
      let earlier = in_filter (λ (r : Told). nat_eq r.actor t.actor) s (before run t) is_own (in_filter (λ (r : Told). surely_before run r t) s (told run) sooner (among (told run) s is_s)) in
      let h = halves s (own t.actor (before run t)) earlier in
      let all : own t.actor (told run) ≡ h.front ++ s ∷ (h.rest ++ t ∷ split.rest) = split.is ∙ ap (λ z. z ++ t ∷ split.rest) h.is ∙ append_assoc h.front (s ∷ h.rest) (t ∷ split.rest) in
      let p = parts_at own_ones.number right.history right.calls.blocks h.front s h.rest t split.rest [] own_ones.kept (subst (ToldParts own_ones.number right.history right.calls.blocks [] own_ones.kept) all own_ones.parts) in
      record { one = record { number = own_ones.number; line = p.0 }; other = record { number = own_ones.number; line = p.1 }; behind = p.2 }

  by_phase : (s t : Told) → IsLine run s → IsLine run t → s.phase < t.phase → Apart s t
  by_phase s t is_s is_t sooner =
      let p = part_here s is_s in
      let q = part_here t is_t in
      record { one = p; other = q; behind = phases_apart p.number q.number right.history right.calls.blocks s t p.line q.line sooner }

  -- a line that is surely before another has its part before that of the other
  pub apart : run.in_order ≡ false → (s t : Told) → IsLine run s → IsLine run t → surely_before run s t ≡ true → Apart s t
  apart free s t is_s is_t sooner =
      let places = both_true (nat_lt s.place t.place) (run.in_order || nat_lt s.phase t.phase || nat_eq s.actor t.actor) sooner in
      elim (one_true run.in_order (nat_lt s.phase t.phase) (nat_eq s.actor t.actor) free places.1) as (λ _. Apart s t) [
        | inl phases ↦ by_phase s t is_s is_t (is_less s.phase t.phase phases)
        | inr same ↦ by_actor s t is_s is_t sooner (is_same s.actor t.actor same)
      ]

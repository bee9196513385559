-- Only one line opened the writer of a number.
use Rattle.std.proofs.Common.{◌≡◌, ◌≢◌, inl, inr, ℕ, zero, suc, List, [], ◌∷◌, ◌++◌, Option, Some, refl, sym, ap, ◌∙◌, subst, append_assoc}
use Rattle.std.specs.Prelude.{slice_get}
use Rattle.std.specs.List.{AllByRecursion}
use Rattle.std.proofs.lemmas.List.Elements.{recursion_from_All}
use Rattle.std.proofs.lemmas.Option.{same_Some}
use Rattle.turn_object.specs.declared.history.Ended.{Ended}
use Rattle.turn_object.specs.Callers.{made_by}
use Rattle.turn_object.specs.Ended.{AreApart, as_ended}
use Rattle.mount_model.specs.MakesCalls.{Role, callers, with_numbers}
use Rattle.store_api.specs.Acts.{Stored}
use Rattle.mount_model.specs.declared.call.Ask.{Ask}
use Rattle.mount_model.specs.declared.reply.Reply.{Reply}
use Rattle.mount_model.specs.History.{Event}
use Rattle.mount_model.specs.Mounting.{IsMounted}
use Rattle.mount_model.specs.State.{State}
use Rattle.mount_sound.specs.Sound.{IsSoundTree}
use Rattle.plain_file.proofs.Facts.{Among}
use Rattle.reader_laws.proofs.Gathered.Facts.{among}
use Rattle.script_lang.specs.Ranges.{FitsScript}
use Rattle.script_lang.specs.declared.line.Outcome.TheVariants as line
use Rattle.run_core.specs.Cast.{statements_in}
use Rattle.run_core.specs.Play.{IsRight}
use Rattle.run_core.specs.Written.{whose}
use Rattle.headline_laws.proofs.Plays.Facts.{its_role}
use Rattle.headline.specs.Run.{IsLine, Run, Says, Told, own, told}
use Rattle.headline_laws.proofs.Contents.FirstOpen.{FirstOpen, OpensNot, first_open}
use Rattle.headline_laws.proofs.Contents.OpenedWriter.{First, Opening, Whole, all_split, entered_so, sound_first, started}
use Rattle.headline_laws.proofs.OrderlyLines.Answering.{among_own}
use Rattle.headline_laws.proofs.OrderlyLines.Orderly.{plays_here}
use Rattle.headline_laws.proofs.Statements.Known.{HasEntered, entered_more}
use Rattle.headline_laws.proofs.Statements.LivingLines.{never_opened}
use Rattle.headline_laws.proofs.Story.Attributed.{none_there, own_of}
use Rattle.headline_laws.proofs.Story.Entered.{entered_once}
use Rattle.headline_laws.proofs.Story.Lines.{ChainOf, chain_of}

-- ---- the numbers of callers

abbrev Caller : Type 0
Caller = Ended Ask Reply State

abbrev ItsRole : Type 0
ItsRole = Role Ask Reply State

abbrev Differs : ℕ → Caller → Type 0
Differs k x = x.number ≢ k

apart_rest : (xs ys : List Caller) → AreApart (xs ++ ys) → AreApart ys
apart_rest [] ys apart = apart
apart_rest (x ∷ xs) ys apart = apart_rest xs ys apart.1

none_rest : (k : ℕ) (xs ys : List Caller) → AllByRecursion (Differs k) (xs ++ ys) → AllByRecursion (Differs k) ys
none_rest k [] ys none = none
none_rest k (x ∷ xs) ys none = none_rest k xs ys none.1

numbers_both : (xs ys : List (List Event)) → with_numbers (xs ++ ys) ≡ with_numbers xs ++ with_numbers ys
numbers_both [] ys = refl
numbers_both (x ∷ xs) ys = ap (λ z. as_ended x ++ z) (numbers_both xs ys) ∙ sym (append_assoc (as_ended x) (with_numbers xs) (with_numbers ys))

module _ (history : List Event) where
  -- the callers of these roles
  abbrev Numbers : List ItsRole → List Caller
  Numbers roles = with_numbers (callers history roles)

  of_role : (r : ItsRole) (roles : List ItsRole) → Numbers (r ∷ roles) ≡ with_numbers r.workers ++ (as_ended (made_by r.number history) ++ Numbers roles)
  of_role r roles = numbers_both r.workers (made_by r.number history ∷ callers history roles)

  -- where a role made a call, its number is that of the first
  first_own : (n : ℕ) (c : Event) (cs : List Event) → made_by n history ≡ c ∷ cs → c.caller ≡ n
  first_own n c cs is = own_of n history c (subst (Among c) (sym is) (inl refl))

  -- none of these callers has this number, so a role that has it made no call
  made_none : (roles : List ItsRole) (j : ℕ) (b : ItsRole) (k : ℕ) → slice_get roles j ≡ Some b → b.number ≡ k → AllByRecursion (Differs k) (Numbers roles) → made_by b.number history ≡ []
  made_none [] j b k there same none = absurd (cc)
  made_none (r ∷ roles) zero b k there same none = by (made_by r.number history) refl
    where
      one : r ≡ b
      one = same_Some r b there

      here : AllByRecursion (Differs k) (as_ended (made_by r.number history) ++ Numbers roles)
      here = none_rest k (with_numbers r.workers) (as_ended (made_by r.number history) ++ Numbers roles) (subst (AllByRecursion (Differs k)) (of_role r roles) none)

      by : (made : List Event) → made_by r.number history ≡ made → made_by b.number history ≡ []
      by [] is = ap (λ (x : ItsRole). made_by x.number history) (sym one) ∙ is
      by (c ∷ cs) is = absurd ((subst (λ es. AllByRecursion (Differs k) (as_ended es ++ Numbers roles)) is here).0 (first_own r.number c cs is ∙ ap (λ (x : ItsRole). x.number) one ∙ same))
  made_none (r ∷ roles) (suc j) b k there same none =
      made_none roles j b k there same (none_rest k (as_ended (made_by r.number history)) (Numbers roles) (none_rest k (with_numbers r.workers) (as_ended (made_by r.number history) ++ Numbers roles) (subst (AllByRecursion (Differs k)) (of_role r roles) none)))

  -- a role made a call, and no role behind it has its number
  first_alone : (r : ItsRole) (roles : List ItsRole) (j : ℕ) (b : ItsRole) → slice_get roles j ≡ Some b → r.number ≡ b.number → (made_by r.number history ≡ [] → ⊥) → AreApart (Numbers (r ∷ roles)) → ⊥
  first_alone r roles j b there same some apart = by (made_by r.number history) refl
    where
      here : AreApart (as_ended (made_by r.number history) ++ Numbers roles)
      here = apart_rest (with_numbers r.workers) (as_ended (made_by r.number history) ++ Numbers roles) (subst AreApart (of_role r roles) apart)

      by : (made : List Event) → made_by r.number history ≡ made → ⊥
      by [] is = some is
      by (c ∷ cs) is =
          let differ = (subst (λ es. AreApart (as_ended es ++ Numbers roles)) is here).0 in
          some (ap (λ k. made_by k history) same ∙ made_none roles j b c.caller there (sym same ∙ sym (first_own r.number c cs is)) (recursion_from_All (Differs c.caller) (Numbers roles) differ))

  pub one_place : (roles : List ItsRole) (i j : ℕ) (a b : ItsRole) → slice_get roles i ≡ Some a → slice_get roles j ≡ Some b → a.number ≡ b.number → (made_by a.number history ≡ [] → ⊥) → AreApart (Numbers roles) → i ≡ j
  one_place [] i j a b one other same some apart = absurd (cc)
  one_place (r ∷ roles) zero zero a b one other same some apart = refl
  one_place (r ∷ roles) zero (suc j) a b one other same some apart =
      let is : r ≡ a = same_Some r a one in
      absurd (first_alone r roles j b other (ap (λ (x : ItsRole). x.number) is ∙ same) (λ none. some (ap (λ (x : ItsRole). made_by x.number history) (sym is) ∙ none)) apart)
  one_place (r ∷ roles) (suc i) zero a b one other same some apart =
      let is : r ≡ b = same_Some r b other in
      absurd (first_alone r roles i a one (ap (λ (x : ItsRole). x.number) is ∙ sym same) (λ none. some (ap (λ k. made_by k history) (same ∙ ap (λ (x : ItsRole). x.number) (sym is)) ∙ none)) apart)
  one_place (r ∷ roles) (suc i) (suc j) a b one other same some apart =
      ap suc (one_place roles i j a b one other same some (apart_rest (as_ended (made_by r.number history)) (Numbers roles) (apart_rest (with_numbers r.workers) (as_ended (made_by r.number history) ++ Numbers roles) (subst AreApart (of_role r roles) apart))))

-- ---- lines

never_among : (id : ℕ) (ts : List Told) (q : Told) → AllByRecursion (OpensNot id) ts → Among q ts → q.outcome ≡ line.Opened id → ⊥
never_among id [] q none at says = absurd at
never_among id (t ∷ ts) q none (inl same) says = none.0 (ap (λ (z : Told). z.outcome) (sym same) ∙ says)
never_among id (t ∷ ts) q none (inr at) says = never_among id ts q none.1 at says

is_it : (id : ℕ) (pre : List Told) (o : Told) (post : List Told) (q : Told) → AllByRecursion (OpensNot id) pre → AllByRecursion (OpensNot id) post → Among q (pre ++ o ∷ post) → q.outcome ≡ line.Opened id → q ≡ o
is_it id [] o post q none later (inl same) says = same
is_it id [] o post q none later (inr at) says = absurd (never_among id post q later at says)
is_it id (x ∷ pre) o post q none later (inl same) says = absurd (none.0 (ap (λ (z : Told). z.outcome) (sym same) ∙ says))
is_it id (x ∷ pre) o post q none later (inr at) says = is_it id pre o post q none.1 later at says

module _ (run : Run) (times : Option (List ℕ)) (mount : Stored) (start end : State) (fits : FitsScript run.script) (mounted : IsMounted 0 times mount start) (tells : mount.tree ≡ Some run.before) (sound : IsSoundTree run.before)
    (right : IsRight run.script start run.lines end) (left : end.store.tree ≡ Some run.after) (id : ℕ) where
  abbrev Chain : ℕ → Type 0
  Chain actor = ChainOf run (First run times mount start end fits mounted tells sound right left) end fits (sound_first run times mount start end fits mounted tells sound right left) right actor

  -- ---- an actor of which a line opened it

  module _ (actor : ℕ) (c : Chain actor) (fo : FirstOpen id (own actor (told run))) where
    abbrev b : Opening run times mount start end fits mounted tells sound right left actor c id fo.o.phase fo.post []
    b = started run times mount start end fits mounted tells sound right left actor c id fo.pre fo.o fo.post fo.is fo.says

    entered : HasEntered c.parts.number (b.earlier ++ b.mine) b.d
    entered = entered_so run times mount start end fits mounted tells sound right left actor c id fo.o.phase fo.post [] b

    entered_all : HasEntered c.parts.number right.history b.d
    entered_all = subst (λ es. HasEntered c.parts.number es b.d) (sym (all_split run times mount start end fits mounted tells sound right left actor c id fo.o.phase fo.post [] b)) (entered_more c.parts.number (b.earlier ++ b.mine) b.later b.d entered)

    only_line : (q : Told) → Among q (own actor (told run)) → q.outcome ≡ line.Opened id → q ≡ fo.o
    only_line q at says =
        is_it id fo.pre fo.o fo.post q fo.none
        (subst (λ k. AllByRecursion (OpensNot k) fo.post) b.its_id (never_opened (First run times mount start end fits mounted tells sound right left) (sound_first run times mount start end fits mounted tells sound right left) c.parts.number right.history right.calls.blocks (Whole run times mount start end fits mounted tells sound right left) b.d (b.earlier ++ b.mine) b.kept b.file b.writer fo.post b.more entered))
        (subst (Among q) fo.is at) says

  -- the role under which the actor of a line calls
  record RoleOf (t : Told) (number : ℕ) : Type 0 where
    pub role : ItsRole
    pub there : slice_get right.calls.roles t.actor ≡ Some role
    pub same : role.number ≡ number

  role_of : (t : Told) → IsLine run t → (c : Chain t.actor) → RoleOf t c.parts.number
  role_of t is_line c =
      let (d, here, p) = plays_here run start end fits right t is_line in
      let r = its_role run.script.phases right.calls.blocks (whose (statements_in run.script.phases)) run.lines 0 run.script.actors right.calls.roles t.actor d right.calls.plays here in
      record { role = r.role; there = r.there; same = c.parts.is_role r.role r.there }

  one_actor : (s t : Told) → IsLine run s → IsLine run t → (c : Chain s.actor) (e : Chain t.actor) (fo : FirstOpen id (own s.actor (told run))) (fp : FirstOpen id (own t.actor (told run))) → s.actor ≡ t.actor
  one_actor s t is_s is_t c e fo fp =
      let h = entered_all s.actor c fo in
      let k = entered_all t.actor e fp in
      let one = entered_once start right.history c.parts.number e.parts.number (b s.actor c fo).d (b t.actor e fp).d right.leads.lawful h k ((b s.actor c fo).its_id ∙ sym (b t.actor e fp).its_id) in
      let r = role_of s is_s c in
      let q = role_of t is_t e in
      one_place right.history right.calls.roles s.actor t.actor r.role q.role r.there q.there (r.same ∙ one.caller ∙ sym q.same) (λ none. none_there c.parts.number right.history h.first h.event h.later h.all (ap (λ n. made_by n right.history) (sym r.same) ∙ none) h.own) right.calls.apart

  -- the law of this file
  pub opened_by_one : (s t : Told) → Says run s (line.Opened id) → Says run t (line.Opened id) → s ≡ t
  opened_by_one s t says told_too =
      let chain : (x : Told) → IsLine run x → Chain x.actor = chain_of run (First run times mount start end fits mounted tells sound right left) end fits (sound_first run times mount start end fits mounted tells sound right left) right in
      let c = chain s says.is_line in
      let fo = first_open id (own s.actor (told run)) s (among_own (told run) s (among (told run) s says.is_line)) says.says in
      let fp = first_open id (own t.actor (told run)) t (among_own (told run) t (among (told run) t told_too.is_line)) told_too.says in
      let same : s.actor ≡ t.actor = one_actor s t says.is_line told_too.is_line c (chain t told_too.is_line) fo fp in
      only_line s.actor c fo s (among_own (told run) s (among (told run) s says.is_line)) says.says
      ∙ sym (only_line s.actor c fo t (subst (λ a. Among t (own a (told run))) (sym same) (among_own (told run) t (among (told run) t told_too.is_line))) told_too.says)

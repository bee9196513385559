-- What is due of each writer is copied, and then the truncates are put.
use Rattle.std.proofs.Common.{◌≡◌, nat_le, nat_lt, ℕ, true, List, [], ◌∷◌, refl, ap, sym, ◌∙◌, subst, arith}
use Rattle.std.specs.Prelude.{slice_get}
use Rattle.std.specs.List.{AllByRecursion}
use Rattle.std.proofs.lemmas.Bool.{cond-true}
use Rattle.std.proofs.lemmas.Bool.Decides.{nat_tests}
use Rattle.plfs_types.specs.declared.entries.Trunc.{Trunc as Truncate}
use Rattle.plfs_types.specs.declared.limits.TheConstants.{MAX_SIZE, MAX_STAMP}
use Rattle.plfs_types.specs.declared.names.Path.{Path}
use Rattle.container_layout.specs.declared.items.Item.TheVariants.{Trunc}
use Rattle.store_api.specs.declared.tree.Room.{Room}
use Rattle.store_api.specs.declared.tree.Tree.{Tree}
use Rattle.store_api.specs.Step.{Step, create}
use Rattle.store_laws.specs.Files.{file_at}
use Rattle.store_laws.specs.Tells.{Tells}
use Rattle.mount_model.specs.Paths.{Name, trunc_path, truncs as truncs_folder}
use Rattle.mount_sound.specs.Marks.{IsOfMark}
use Rattle.reader_laws.specs.Moments.{HadTrunc, IsSoundAt, Moment}
use Rattle.drain_copy.specs.declared.outcome.Drained.{Drained}
use Rattle.drain_copy.specs.declared.plan.Due.{Due}
use Rattle.drain_copy.specs.Asking.{acts}
use Rattle.drain_copy.specs.Copying.{copies, is_trunc, puts_truncs, trunc_file}
use Rattle.drain_copy.specs.Telling.{made_or_old, on_good, told_well}
use Rattle.drain_sound.specs.Steps.{IsNamedRoom}
use Rattle.drain_sound.specs.Steps as step
use Rattle.drain_sound.proofs.Facts.{container_of}
use Rattle.drain_laws.proofs.Planning.Aims.{AreApart, IsGood, IsPlanned, Safely}
use Rattle.drain_laws.proofs.Copying.Answered.{created_well, told_fair}
use Rattle.drain_laws.proofs.Copying.Mild.{mild_create, some_room}
use Rattle.drain_laws.proofs.Copying.OneStep.{Stuff, all_clear, one_step, stuff_stays}
use Rattle.drain_laws.proofs.Copying.Told.{file_there}
use Rattle.drain_laws.proofs.Copying.Writer.{writer_safe}

-- the list with these in front, the last one first
abbrev pub onto : {A : Type 0} → List A → List A → List A
onto [] done = done
onto (x ∷ xs) done = onto xs (x ∷ done)

pub all_onto : {A : Type 0} (P : A → Type 0) (xs done : List A) → AllByRecursion P (onto xs done) → AllByRecursion P xs × AllByRecursion P done
all_onto P [] done all = (tt, all)
all_onto P (x ∷ xs) done all = let r = all_onto P xs (x ∷ done) all in ((r.1.0, r.0), r.1.1)

module _ (number : ℕ) (name : Name) (g : Moment) (s : IsSoundAt g) (Sure : Type 0) (all_dues : List Due) (Post : Drained → Tree → Type 0) (to : ℕ) (drained : Drained) (dues settled : List Due) (truncs : List Truncate)
    (finish : (t : Tree) (room : Room) → IsGood number name g Sure all_dues t → IsNamedRoom t to name room → Stuff number name g s Sure all_dues Post to [] (onto dues settled) (onto truncs []) t room → Post drained t) where
  abbrev Stuffed : List Due → List Due → List Truncate → Tree → Room → Type 0
  Stuffed rest done put t room = Stuff number name g s Sure all_dues Post to rest done put t room

  abbrev Good : Tree → Type 0
  Good t = IsGood number name g Sure all_dues t

  abbrev Named : Tree → Room → Type 0
  Named t room = IsNamedRoom t to name room

  its_file : (x : Truncate) → HadTrunc g number x.stamp x.size → trunc_file x ≡ trunc_path x.stamp x.size
  its_file x h =
      let r = h.is_item.in_range in
      let a : nat_lt 0 x.stamp ≡ true = grind (arith, nat_tests, r.stamped) in
      let b : nat_le x.stamp MAX_STAMP ≡ true = grind (arith, nat_tests, r.stamp_fits) in
      let d : nat_le x.size MAX_SIZE ≡ true = grind (arith, nat_tests, r.size_fits) in
      let is : is_trunc x ≡ true = rw (a, b, d) refl in
      cond-true (is_trunc x) (trunc_path x.stamp x.size) (record { folder = truncs_folder; file = [] }) is

  truncs_safe : (left put : List Truncate) → onto left put ≡ onto truncs [] → AllByRecursion (λ (x : Truncate). HadTrunc g number x.stamp x.size) left → (t : Tree) (room : Room) → Good t → Named t room → Stuffed [] (onto dues settled) put t room → Safely number name g Sure all_dues Post (puts_truncs to left drained) t
  truncs_safe [] put all stood t room good at st = finish t room good at (subst (λ ts. Stuffed [] (onto dues settled) ts t room) all st)
  truncs_safe (x ∷ left) put all stood t room good at st =
      let had : HadTrunc g number x.stamp x.size = stood.0 in
      let path : Path = trunc_path x.stamp x.size in
      let cr : Step = create to path.folder path.file in
      let goes : Safely number name g Sure all_dues Post (acts cr (λ told. on_good (λ made. puts_truncs to left drained) (told_well path made_or_old told))) t =
      one_step number name g s Sure all_dues Post to (Stuffed [] (onto dues settled) put) (Stuffed [] (onto dues settled) (x ∷ put))
      cr (told_well path made_or_old) (λ made. puts_truncs to left drained) (mild_create to (Trunc x.stamp x.size) had.is_item (λ last b stamp h w e. cc))
      (λ y r good_y named a. record { is_step = λ m sound grows. step.truncates to x.stamp x.size r named (grows.stands number (Trunc x.stamp x.size) tt had); news = tt })
      (λ y after r new told made good_y good_after named a tells ch e.
      let f = file_there to path path y after told made tells e in
      let same : f.room ≡ new = some_room f.room new (slice_get after.rooms to) f.has_room ch.at.there in
      let st_after = stuff_stays number name g s Sure all_dues Post to [] (onto dues settled) put cr y after r new tt (all_clear number name g s Sure all_dues Post to cr (onto dues settled) (λ other. (λ w. w, λ w. w))) ch a in
      record {
        fronts = tt;
        dones = st_after.dones;
        puts = (record { bytes = f.bytes; has = record { is_item = had.is_item; there = ap (λ z. file_at z path) (sym same) ∙ f.there } }, st_after.puts);
      })
      (λ y after r told why good_y named a tells e. told_fair name after path made_or_old told why
      (λ answer is. created_well to y r named.there path after answer (container_of (IsOfMark y) name r good_y.logical named.named (good_y.sound.shaped.rooms to r named.there)).has_truncs (subst (λ o. Tells cr y o after) is tells)) e)
      (λ y r made good_y named b. truncs_safe left (x ∷ put) all stood.1 y r good_y named b)
      t room good at st in
      subst (λ p. Safely number name g Sure all_dues Post (acts (create to p.folder p.file) (λ told. on_good (λ made. puts_truncs to left drained) (told_well p made_or_old told))) t) (sym (its_file x had)) goes

  pub copies_safe : (rest done : List Due) → onto rest done ≡ onto dues settled → AllByRecursion (IsPlanned number name g Sure all_dues) rest → AreApart rest done → AllByRecursion (λ (x : Truncate). HadTrunc g number x.stamp x.size) truncs
      → (t : Tree) (room : Room) → Good t → Named t room → Stuffed rest done [] t room → Safely number name g Sure all_dues Post (copies number to truncs drained rest) t
  copies_safe [] done all planned apart stood t room good at st = truncs_safe truncs [] refl stood t room good at (subst (λ ds. Stuffed [] ds [] t room) all st)
  copies_safe (due ∷ rest) done all planned apart stood t room good at st =
      writer_safe number name g s Sure all_dues Post to due rest done [] (copies number to truncs drained rest) planned.0 apart.0 apart.1
      (λ x r good_x named b. copies_safe rest (due ∷ done) all planned.1 apart.2 stood x r good_x named b) t room good at st

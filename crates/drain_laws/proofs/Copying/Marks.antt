-- The marks and the container are made at the target, and then all is copied.
use Rattle.std.proofs.Common.{◌≡◌, true, ℕ, ◌*◌, ◌≤◌, ◌<◌, ◌^◌, List, [], ◌∷◌, length, Some, refl, ap, sym, ◌∙◌, inl, inr, subst, arith}
use Rattle.std.specs.Prelude.{Result, Ok, Err, slice_get}
use Rattle.std.specs.List.{AllByRecursion}
use Rattle.std.proofs.lemmas.Bool.{cases_eq}
use Rattle.plain_file.proofs.Facts.{Among, All-Among}
use Rattle.plfs_types.specs.declared.entries.Trunc.{Trunc as Truncate}
use Rattle.plfs_types.specs.declared.names.Path.{Path}
use Rattle.container_layout.specs.declared.items.Item.TheVariants.{Log, Meta}
use Rattle.store_api.specs.declared.tree.Room.{Room}
use Rattle.store_api.specs.declared.tree.Tree.{Tree}
use Rattle.store_api.specs.Room.{has_folder}
use Rattle.store_api.specs.Step.{Step, create, make_room}
use Rattle.store_laws.specs.Files.{file_at, kept_at}
use Rattle.store_laws.specs.Naming.{NamesRoom, OnlyAdds}
use Rattle.store_laws.specs.Tells.{Tells}
use Rattle.store_laws.specs.There.{IsFree}
use Rattle.store_laws.proofs.Facts.{changed_room, create_told, keeps_rooms, lengthens_told, other_room}
use Rattle.mount_model.specs.Paths.{Name, index_path, mark_path, new_files, new_folders}
use Rattle.store_api.specs.Names.{marks_folder}
use Rattle.store_api.specs.Names.{marks_name}
use Rattle.mount_model.specs.State.{id_of}
use Rattle.mount_sound.specs.Marks.{HasMark}
use Rattle.mount_sound.specs.Dropping.{bytes_of, log_bytes}
use Rattle.mount_sound.specs.Items.{HasMeta}
use Rattle.mount_sound.proofs.Facts.{IsBare, hostdir_below, no_item}
use Rattle.reader_laws.specs.Moments.{HadTrunc, IsSoundAt, Moment}
use Rattle.drain_copy.specs.declared.outcome.Drained.{Drained}
use Rattle.drain_copy.specs.declared.outcome.DrainStuck.{DrainStuck}
use Rattle.drain_copy.specs.declared.plan.Due.{Due}
use Rattle.drain_copy.specs.declared.plan.Job.{Job}
use Rattle.drain_copy.specs.Asking.{acts}
use Rattle.mount_model.specs.Making.{Told}
use Rattle.drain_copy.specs.Draining.{copies_to, makes_all_marks, makes_container, makes_marks, makes_marks_room}
use Rattle.drain_copy.specs.Telling.{DrainsOn, folder_alone, made_or_old, on_good, roomed, told_well}
use Rattle.drain_sound.specs.Steps.{IsNamedRoom}
use Rattle.drain_sound.specs.Steps as step
use Rattle.drain_sound.proofs.Facts.{no_marks}
use Rattle.drain_laws.proofs.Planning.Aims.{AreApart, EndsSo, IsFair, IsFitting, IsGood, IsPlanned, IsRight, IsSince, Safely}
use Rattle.drain_laws.proofs.Copying.Answered.{created_well, roomed_well, told_fair}
use Rattle.drain_laws.proofs.Copying.Copy.{all_onto, copies_safe, onto}
use Rattle.drain_laws.proofs.Copying.Mild.{HasDone, HasFront, IsKeptTo, all_so, some_room}
use Rattle.drain_laws.proofs.Copying.Roomed.{Roomed, came, room_there, stood}
use Rattle.drain_laws.proofs.Driving.Safe.{safe_on}
use Rattle.drain_laws.proofs.Copying.Told.{file_there}
use Rattle.drain_laws.proofs.Copying.OneStep.{Stuff}

-- ---- what the target has before the container is sought

-- the room has so much of what was there of the writer, and no more of its log where this is sure
pub record Fits (Sure : Type 0) (room : Room) (due : Due) : Type 0 where
  pub unsettled : HasMeta room due.host due.writer → ⊥
  pub index : 40 * due.count ≤ length (bytes_of (file_at room (index_path due.host due.writer)))
  pub log : due.log ≤ length (log_bytes room due.host due.writer)
  pub ends : Sure → length (log_bytes room due.host due.writer) ≤ due.log

-- so it is in the container, and where there is none nothing was there
pub record IsReady (Sure : Type 0) (name : Name) (t : Tree) (due : Due) : Type 0 where
  pub fits : (n : ℕ) (room : Room) → IsNamedRoom t n name room → Fits Sure room due
  pub fresh : IsFree t name → (due.count ≡ 0) × (due.log ≡ 0)

-- all that was due of the writer is in the container already
abbrev pub IsDone : Name → Tree → Due → Type 0
IsDone name t due = (n : ℕ) (room : Room) → IsNamedRoom t n name room → HasDone name n t room due

-- the writer's id is of a serial of one of these mounts
pub record IsOfMounts (mounts : List ℕ) (writer : ℕ) : Type 0 where
  pub mount : ℕ
  pub serial : ℕ
  pub among : Among mount mounts
  pub some : 1 ≤ serial
  pub fits : serial < 2 ^ 32
  pub is : writer ≡ id_of mount serial

-- another tree with the same container, or with none
record SameThere (name : Name) (t after : Tree) : Type 0 where
  back : (n : ℕ) (room : Room) → IsNamedRoom after n name room → IsNamedRoom t n name room
  free : IsFree after name → IsFree t name

nothing_changed : (name : Name) (t after : Tree) → after ≡ t → SameThere name t after
nothing_changed name t after e = subst (SameThere name t) (sym e) (record { back = λ n room at. at; free = λ free. free })

ready_stays : (Sure : Type 0) (name : Name) (t after : Tree) (due : Due) → SameThere name t after → IsReady Sure name t due → IsReady Sure name after due
ready_stays Sure name t after due same r = record { fits = λ n room at. r.fits n room (same.back n room at); fresh = λ free. r.fresh (same.free free) }

-- what is kept in a room is kept in the tree after, where the room is the same
kept_there : (t after : Tree) (n : ℕ) (room : Room) (path : Path) (front : ℕ) → slice_get t.rooms n ≡ Some room → slice_get after.rooms n ≡ Some room → IsKeptTo t n path front → IsKeptTo after n path front
kept_there t after n room path front was now (inl none) = inl none
kept_there t after n room path front was now (inr k) =
    let same : k.room ≡ room = some_room k.room room (slice_get t.rooms n) k.has_room was in
    inr (record { room = room; bytes = k.bytes; has_room = now; there = subst (λ r. file_at r path ≡ Some k.bytes) same k.there; long = k.long; kept = subst (λ r. front ≤ kept_at r path) same k.kept })

done_there : (name : Name) (t after : Tree) (n : ℕ) (room : Room) (due : Due) → IsNamedRoom t n name room → IsNamedRoom after n name room → HasDone name n t room due → HasDone name n after room due
done_there name t after n room due was now d = record {
  bytes = d.bytes;
  has = d.has;
  entries = d.entries;
  written = d.written;
  index_kept = kept_there t after n room _ _ was.there now.there d.index_kept;
  log_kept = kept_there t after n room _ _ was.there now.there d.log_kept;
}

done_stays : (name : Name) (t after : Tree) (due : Due) → SameThere name t after → IsDone name t due → IsDone name after due
done_stays name t after due same d n room at = done_there name t after n room due (same.back n room at) at (d n room (same.back n room at))

module _ (number : ℕ) (name : Name) (g : Moment) (s : IsSoundAt g) (Sure : Type 0) (all_dues : List Due) (Post : Drained → Tree → Type 0) where
  abbrev Good : Tree → Type 0
  Good t = IsGood number name g Sure all_dues t

  abbrev Safe : DrainsOn → Tree → Type 0
  Safe program t = Safely number name g Sure all_dues Post program t

  -- ---- one step at the tree

  tree_step : {X : Type 0} (A : Tree → Type 0) (B : X → Tree → Type 0) (x : Step) (told_so : Told → Result X DrainStuck) (next : X → DrainsOn)
      → ((t : Tree) → Good t → A t → IsRight number name g Sure all_dues x t)
      → ((t after : Tree) (told : Told) (y : X) → Good t → Good after → A t → Tells x t told after → told_so told ≡ Ok y → B y after)
      → ((t after : Tree) (told : Told) (why : DrainStuck) → Good t → A t → Tells x t told after → told_so told ≡ Err why → IsFair name after why)
      → ((t : Tree) (y : X) → Good t → B y t → Safe (next y) t)
      → (t : Tree) → Good t → A t → Safe (acts x (λ told. on_good next (told_so told))) t
  tree_step A B x told_so next is_right goes fair then_safe t good a = (
    is_right t good a,
    λ told after tells good_after.
        safe_on (IsSince number name g Sure all_dues) (IsGood number name g Sure all_dues) (IsFitting number name g Sure all_dues) (IsRight number name g Sure all_dues) (EndsSo name Post) next (told_so told) after
        (λ y e. then_safe after y good_after (goes t after told y good good_after a tells e)) (λ why e. fair t after told why good a tells e),
  )

  -- ---- marks

  -- the room of marks has no mark but an empty one
  mark_is_empty : (t : Tree) (n mount : ℕ) (room : Room) (bytes : List ℕ) → Good t → IsNamedRoom t n marks_name room → file_at room (mark_path mount) ≡ Some bytes → bytes ≡ []
  mark_is_empty t n mount room bytes good at e = elim (good.sound.shaped.rooms n room at.there) as (λ _. bytes ≡ []) [
    | inl marks ↦ (marks.files (mark_path mount) bytes e).4
    | inr container ↦ absurd (no_marks room.name room container.named refl at.named)
  ]

  -- and it has their folder
  marks_held : (t : Tree) (n : ℕ) (room : Room) → Good t → IsNamedRoom t n marks_name room → has_folder room marks_folder ≡ true
  marks_held t n room good at = elim (good.sound.shaped.rooms n room at.there) as (λ _. has_folder room marks_folder ≡ true) [
    | inl marks ↦ marks.has_marks
    | inr container ↦ absurd (no_marks room.name room container.named refl at.named)
  ]

  -- a mark stays where a step only adds
  mark_stays : (x : Step) (t after : Tree) (told : Told) (mount : ℕ) → OnlyAdds x → ((n : ℕ) → NamesRoom x n → ⊥) → Tells x t told after → Good after → HasMark t mount → HasMark after mount
  mark_stays x t after told mount adds no_names tells good h =
      let k = keeps_rooms x t told after tells h.number h.room h.there in
      let l = lengthens_told x t told after adds tells h.number h.room (mark_path mount) [] h.there h.mark in
      let same : l.0 ≡ k.0 = some_room l.0 k.0 (slice_get after.rooms h.number) l.2 k.1 in
      let named = k.2.name (no_names h.number) ∙ h.named in
      let there : file_at k.0 (mark_path mount) ≡ Some l.1 = ap (λ r. file_at r (mark_path mount)) (sym same) ∙ l.3 in
      let empty : l.1 ≡ [] = mark_is_empty after h.number mount k.0 l.1 good (record { there = k.1; named = named }) there in
      record { number = h.number; room = k.0; there = k.1; named = named; mark = there ∙ ap (λ y. Some y) empty }

  -- ---- the job

  module _ (drained : Drained) (dues settled : List Due) (truncs : List Truncate) (mounts : List ℕ)
      (planned : AllByRecursion (IsPlanned number name g Sure all_dues) dues) (apart : AreApart dues settled) (stand : AllByRecursion (λ (x : Truncate). HadTrunc g number x.stamp x.size) truncs)
      (some : AllByRecursion (λ mount. 1 ≤ mount) mounts) (small : AllByRecursion (λ mount. mount < 2 ^ 32) mounts) (of : AllByRecursion (λ (due : Due). IsOfMounts mounts due.writer) dues)
      (finish : (to : ℕ) (t : Tree) (room : Room) → Good t → IsNamedRoom t to name room → Stuff number name g s Sure all_dues Post to [] (onto dues settled) (onto truncs []) t room → Post drained t) where
    abbrev job : Job
    job = record { name = name; from = number; dues = dues; truncs = truncs; drained = drained }

    pub record Plan (t : Tree) : Type 0 where
      pub settled_done : AllByRecursion (IsDone name t) settled
      pub settled_there : IsFree t name → settled ≡ []
      pub ready : AllByRecursion (IsReady Sure name t) dues

    plan_stays : (t after : Tree) → SameThere name t after → Plan t → Plan after
    plan_stays t after same p = record {
      settled_done = all_so (IsDone name t) (IsDone name after) settled (λ due d. done_stays name t after due same d) p.settled_done;
      settled_there = λ free. p.settled_there (same.free free);
      ready = all_so (IsReady Sure name t) (IsReady Sure name after) dues (λ due r. ready_stays Sure name t after due same r) p.ready;
    }

    -- ---- the container

    -- all mounts have their marks
    record Marked (t : Tree) : Type 0 where
      plan : Plan t
      marks : AllByRecursion (HasMark t) mounts

    -- the container is there, with what was there of each writer
    record Placed (to : ℕ) (t : Tree) : Type 0 where
      room : Room
      at : IsNamedRoom t to name room
      marks : AllByRecursion (HasMark t) mounts
      fits : AllByRecursion (Fits Sure room) dues
      done : AllByRecursion (HasDone name to t room) settled

    front_of : (t : Tree) (room : Room) (due : Due) (to : ℕ) → AllByRecursion (HasMark t) mounts → IsOfMounts mounts due.writer → Fits Sure room due → HasFront name to Sure t room due
    front_of t room due to marks its f = record {
      marked = record {
        mount = its.mount;
        serial = its.serial;
        has_mark = All-Among (HasMark t) mounts its.mount marks its.among;
        mount_fits = All-Among (λ mount. mount < 2 ^ 32) mounts its.mount small its.among;
        some = its.some;
        serial_fits = its.fits;
        is = its.is;
      };
      unsettled = f.unsettled;
      index = f.index;
      log = f.log;
      ends = f.ends;
    }

    fronts_of : (t : Tree) (room : Room) (to : ℕ) (xs : List Due) → AllByRecursion (HasMark t) mounts → AllByRecursion (λ (due : Due). IsOfMounts mounts due.writer) xs → AllByRecursion (Fits Sure room) xs → AllByRecursion (HasFront name to Sure t room) xs
    fronts_of t room to [] marks its f = tt
    fronts_of t room to (due ∷ xs) marks its f = (front_of t room due to marks its.0 f.0, fronts_of t room to xs marks its.1 f.1)

    copied_safe : (to : ℕ) (t : Tree) → Good t → Placed to t → Safe (copies_to job to) t
    copied_safe to t good p =
        copies_safe number name g s Sure all_dues Post to drained dues settled truncs (finish to) dues settled refl planned apart stand t p.room good p.at
        (record { fronts = fronts_of t p.room to dues p.marks of p.fits; dones = p.done; puts = tt })

    fits_bare : (room : Room) (due : Due) → IsBare room → (due.count ≡ 0) × (due.log ≡ 0) → Fits Sure room due
    fits_bare room due bare none = record {
      unsettled = λ h. no_item room (Meta h.last h.bytes h.stamp due.host due.writer) h.content bare refl h.has;
      index = omega (arith, none.0);
      log = omega (arith, none.1);
      ends = λ sure. omega (arith, ap length (bare_log room due bare));
    }
      where
        bare_log : (room : Room) (due : Due) → IsBare room → log_bytes room due.host due.writer ≡ []
        bare_log room due bare = ap bytes_of (bare.none (Log due.host due.writer) (hostdir_below due.host))

    placed : (t after : Tree) (to : ℕ) (told : Told) → Good after → Roomed t after name new_folders new_files to → Tells (make_room name new_folders new_files) t told after → Marked t → Placed to after
    placed t after to told good (came new at free bare on back) tells k = record {
      room = new;
      at = at;
      marks = all_so (HasMark t) (HasMark after) mounts (λ mount h. mark_stays (make_room name new_folders new_files) t after told mount tt (λ n named. named) tells good h) k.marks;
      fits = all_so (IsReady Sure name t) (Fits Sure new) dues (λ due r. fits_bare new due bare (r.fresh free)) k.plan.ready;
      done = subst (AllByRecursion (HasDone name to after new)) (sym (k.plan.settled_there free)) tt;
    }
    placed t after to told good (stood room at same) tells k =
        let now : IsNamedRoom after to name room = subst (λ x. IsNamedRoom x to name room) (sym same) at in
        record {
          room = room;
          at = now;
          marks = subst (λ x. AllByRecursion (HasMark x) mounts) (sym same) k.marks;
          fits = all_so (IsReady Sure name t) (Fits Sure room) dues (λ due r. r.fits to room at) k.plan.ready;
          done = all_so (IsDone name t) (HasDone name to after room) settled (λ due d. done_there name t after to room due at now (d to room at)) k.plan.settled_done;
        }

    container_safe : (t : Tree) → Good t → Marked t → Safe (makes_container job) t
    container_safe t good k =
        tree_step Marked Placed (make_room name new_folders new_files) (told_well (folder_alone []) roomed) (copies_to job)
        (λ x good_x a. record { is_step = λ n sound grows. step.container; news = tt })
        (λ x after told to good_x good_after a tells e. placed x after to told good_after (room_there x after name new_folders new_files told to tells e) tells a)
        (λ x after told why good_x a tells e. told_fair name after (folder_alone []) roomed told why (λ answer is. roomed_well name new_folders new_files x after answer (subst (λ o. Tells (make_room name new_folders new_files) x o after) is tells)) e)
        (λ x to good_x b. copied_safe to x good_x b)
        t good k

    -- ---- the marks

    -- the marks of the first mounts are there
    record Marking (room_number : ℕ) (put : List ℕ) (t : Tree) : Type 0 where
      plan : Plan t
      room : Room
      at : IsNamedRoom t room_number marks_name room
      marks : AllByRecursion (HasMark t) put

    -- a file that comes into the room of marks changes no container
    created_same : (t after : Tree) (told : Told) (k mount : ℕ) (room : Room) → Good t → IsNamedRoom t k marks_name room → Tells (create k (mark_path mount).folder (mark_path mount).file) t told after → SameThere name t after
    created_same t after told k mount room good at tells = elim (create_told k (mark_path mount) t told after tells).either as (λ _. SameThere name t after) [
      | inr same ↦ nothing_changed name t after same
      | inl c ↦
          let is : c.room ≡ room = some_room c.room room (slice_get t.rooms k) c.has_room at.there in
          let marks_now : c.new.name ≡ marks_name = c.others.name ∙ ap (λ (r : Room). r.name) is ∙ at.named in
          record {
            back = λ n r here. elim (cases_eq n k) as (λ _. IsNamedRoom t n name r) [
              | inl same ↦
                  let there : slice_get after.rooms k ≡ Some c.new = ap (λ (x : Tree). slice_get x.rooms k) c.gives ∙ changed_room t k c.room c.new c.has_room in
                  let one : r ≡ c.new = some_room r c.new (slice_get after.rooms k) (subst (λ j. slice_get after.rooms j ≡ Some r) same here.there) there in
                  absurd (no_marks name r good.logical here.named (ap (λ (x : Room). x.name) one ∙ marks_now))
              | inr other ↦ record { there = sym (ap (λ (x : Tree). slice_get x.rooms n) c.gives ∙ other_room t k n c.new other) ∙ here.there; named = here.named }
            ];
            free = λ free n r there named.
                let x = keeps_rooms (create k (mark_path mount).folder (mark_path mount).file) t told after tells n r there in
                free n x.0 x.1 (x.2.name (λ none. none) ∙ named);
          }
    ]

    marks_safe : (k : ℕ) (left put : List ℕ) → onto left put ≡ onto mounts [] → AllByRecursion (λ mount. 1 ≤ mount) left → AllByRecursion (λ mount. mount < 2 ^ 32) left → (t : Tree) → Good t → Marking k put t → Safe (makes_marks job k left) t
    marks_safe k [] put all least most t good a =
        container_safe t good (record { plan = a.plan; marks = (all_onto (HasMark t) mounts [] (subst (AllByRecursion (HasMark t)) all a.marks)).0 })
    marks_safe k (mount ∷ left) put all least most t good a =
        let cr : Step = create k (mark_path mount).folder (mark_path mount).file in
        tree_step (Marking k put) (λ y. Marking k (mount ∷ put)) cr (told_well (mark_path mount) made_or_old) (λ made. makes_marks job k left)
        (λ x good_x b. record { is_step = λ n sound grows. step.mark k mount b.room b.at least.0 most.0; news = tt })
        (λ x after told made good_x good_after b tells e.
        let r = keeps_rooms cr x told after tells k b.room b.at.there in
        let at : IsNamedRoom after k marks_name r.0 = record { there = r.1; named = r.2.name (λ none. none) ∙ b.at.named } in
        let f = file_there k (mark_path mount) (mark_path mount) x after told made tells e in
        let same : f.room ≡ r.0 = some_room f.room r.0 (slice_get after.rooms k) f.has_room r.1 in
        let there : file_at r.0 (mark_path mount) ≡ Some f.bytes = ap (λ z. file_at z (mark_path mount)) (sym same) ∙ f.there in
        let empty : f.bytes ≡ [] = mark_is_empty after k mount r.0 f.bytes good_after at there in
        record {
          plan = plan_stays x after (created_same x after told k mount b.room good_x b.at tells) b.plan;
          room = r.0;
          at = at;
          marks = (record { number = k; room = r.0; there = r.1; named = at.named; mark = there ∙ ap (λ z. Some z) empty }, all_so (HasMark x) (HasMark after) put (λ y h. mark_stays cr x after told y tt (λ j named. named) tells good_after h) b.marks);
        })
        (λ x after told why good_x b tells e. told_fair name after (mark_path mount) made_or_old told why (λ answer is. created_well k x b.room b.at.there (mark_path mount) after answer (marks_held x k b.room good_x b.at) (subst (λ o. Tells cr x o after) is tells)) e)
        (λ x made good_x b. marks_safe k left (mount ∷ put) all least.1 most.1 x good_x b)
        t good a

    marks_roomed : (t after : Tree) (k : ℕ) → Good t → Roomed t after marks_name (marks_folder ∷ []) [] k → Plan t → Marking k [] after
    marks_roomed t after k good (came new at free bare on back) p = record {
      plan = plan_stays t after (record {
        back = λ n r here. elim (back n r here.there) as (λ _. IsNamedRoom t n name r) [
          | inl was ↦ record { there = was; named = here.named }
          | inr is ↦ absurd (no_marks name r good.logical here.named (ap (λ (x : Room). x.name) is ∙ at.named))
        ];
        free = λ free n r there named. free n r (on n r there) named;
      }) p;
      room = new;
      at = at;
      marks = tt;
    }
    marks_roomed t after k good (stood room at same) p = record {
      plan = plan_stays t after (nothing_changed name t after same) p;
      room = room;
      at = subst (λ x. IsNamedRoom x k marks_name room) (sym same) at;
      marks = tt;
    }

    pub job_safe : (t : Tree) → Good t → Plan t → Safe (makes_marks_room job mounts) t
    job_safe t good p =
        tree_step Plan (λ k. Marking k []) (make_room marks_name (marks_folder ∷ []) []) (told_well (folder_alone []) roomed) (makes_all_marks job mounts)
        (λ x good_x a. record { is_step = λ n sound grows. step.marks; news = tt })
        (λ x after told k good_x good_after a tells e. marks_roomed x after k good_x (room_there x after marks_name (marks_folder ∷ []) [] told k tells e) a)
        (λ x after told why good_x a tells e. told_fair name after (folder_alone []) roomed told why (λ answer is. roomed_well marks_name (marks_folder ∷ []) [] x after answer (subst (λ o. Tells (make_room marks_name (marks_folder ∷ []) []) x o after) is tells)) e)
        (λ x k good_x b. marks_safe k mounts [] refl some small x good_x b)
        t good p

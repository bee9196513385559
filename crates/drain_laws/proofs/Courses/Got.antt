-- What a drain has copied where it ends well, and that its program is safe once its source is gathered.
use Rattle.std.proofs.Common.{◌≡◌, ℕ, ◌+◌, ◌*◌, ◌≤◌, ◌<◌, ◌^◌, Bool, true, false, List, [], ◌∷◌, ◌++◌, length, take, Option, Some, None, refl, ap, sym, ◌∙◌, inl, inr, subst, arith}
use Rattle.std.specs.List.{AllByRecursion}
use Rattle.std.proofs.lemmas.Bool.{cond-false}
use Rattle.std.proofs.lemmas.Bool.Decides.{nat_tests}
use Rattle.plain_file.proofs.Facts.{Among, All-Among}
use Rattle.plfs_types.specs.declared.entries.Trunc.{Trunc as Truncate}
use Rattle.plfs_types.specs.declared.names.Path.{Path}
use Rattle.container_layout.specs.declared.items.Item.TheVariants.{Trunc}
use Rattle.store_api.specs.declared.tree.Room.{Room}
use Rattle.store_api.specs.declared.tree.Tree.{Tree}
use Rattle.store_laws.specs.There.{IsFree}
use Rattle.mount_model.specs.Paths.{Name, index_path, log_path}
use Rattle.mount_sound.specs.Entries.{logged}
use Rattle.mount_sound.specs.Items.{HasItem}
use Rattle.mount_sound.specs.Ledger.{entries_in}
use Rattle.reader_laws.specs.Moments.{Dropping, Grows, HadTrunc, IsSoundAt, Moment, Stood, landed}
use Rattle.reader_laws.proofs.Gathered.Facts.{all_at, among, any_found}
use Rattle.std.proofs.lemmas.List.Elements.{recursion_from_All}
use Rattle.drain_read.specs.declared.held.Held.{Held}
use Rattle.drain_read.specs.declared.held.Mirror.{Mirror}
use Rattle.drain_read.specs.declared.read.Contained.{Contained}
use Rattle.drain_read.specs.declared.read.WriterRead.{WriterRead}
use Rattle.drain_copy.specs.declared.outcome.Drained.{Drained}
use Rattle.drain_copy.specs.declared.plan.Due.{Due}
use Rattle.drain_copy.specs.declared.plan.Job.{Job}
use Rattle.drain_copy.specs.Draining.{known_at, makes_marks_room}
use Rattle.drain_copy.specs.Planning.{count_in, count_there, drained_of, due_of, dues_of, is_settled, mirror_in, mount_of, mounts_of, taken}
use Rattle.drain_sound.specs.Fronts.{IsTarget, dropping_in}
use Rattle.drain_sound.specs.Steps.{IsNamedRoom}
use Rattle.drain_sound.specs.Views.{HasCopied}
use Rattle.drain_laws.proofs.Planning.Aims.{AreApart, IsGood, IsPlanned, NoBareLog, Safely}
use Rattle.drain_laws.proofs.Copying.Copy.{all_onto, onto}
use Rattle.drain_laws.proofs.Planning.Due.{IsDueOf}
use Rattle.drain_laws.proofs.Planning.Dues.{dues_all, dues_among, dues_apart, logged_first, none_taken, not_more, settled_all, settled_among}
use Rattle.drain_laws.proofs.Planning.Ids.{IsIdOf, all_mounts, id_is, mount_among, mount_is}
use Rattle.drain_laws.proofs.Copying.Marks.{IsDone, IsOfMounts, IsReady, job_safe}
use Rattle.drain_laws.proofs.Copying.Mild.{HasDone, HasPut, IsKeptTo}
use Rattle.drain_laws.proofs.Planning.Plan.{Knows, done_is, due_is, idle_is, prefix as its_prefix, ready_is, settled_if, settled_of, total as its_total}
use Rattle.drain_laws.proofs.Reading.Read.{HasContained, IsReadSo}
use Rattle.drain_laws.proofs.Copying.OneStep.{Stuff}

-- fewer first bytes are kept too
pub kept_less : (t : Tree) (n front less : ℕ) (path : Path) → less ≤ front → IsKeptTo t n path front → IsKeptTo t n path less
kept_less t n front less path l (inl none) = inl (omega (arith, l, none))
kept_less t n front less path l (inr k) = inr (record { room = k.room; bytes = k.bytes; has_room = k.has_room; there = k.there; long = omega (arith, k.long, l); kept = omega (arith, k.kept, l) })

-- The room has so many of the writer's entries whole and with their bytes, and keeps them.
pub record HasKept (listing : Moment) (number : ℕ) (t : Tree) (n : ℕ) (room : Room) (host writer count : ℕ) : Type 0 where
  pub copied : HasCopied listing number room host writer count
  pub index_kept : IsKeptTo t n (index_path host writer) (40 * count)
  pub log_kept : IsKeptTo t n (log_path host writer) (logged (take count (entries_in (listing.issued number writer))))

-- Of each writer the container has the entries that had landed at the first moment, and keeps them; it has the truncates of the
-- second, and so much was written.
pub record HasGot (first listing : Moment) (number : ℕ) (name : Name) (dues : List Due) (drained : Drained) (t : Tree) : Type 0 where
  pub n : ℕ
  pub room : Room
  pub at : IsNamedRoom t n name room
  pub entries : (host writer : ℕ) → Stood first (dropping_in number host writer) → 1 ≤ landed first (dropping_in number host writer) → HasKept listing number t n room host writer (landed first (dropping_in number host writer))
  pub truncates : (stamp size : ℕ) → HadTrunc listing number stamp size → (bytes : List ℕ) × HasItem room (Trunc stamp size) bytes
  pub counts : drained ≡ drained_of dues

module _ (caller number : ℕ) (name : Name) (t : Tree) (m : Moment) (s : IsSoundAt m) (target : IsTarget m number name t) (held : Held) (knows : Knows m s number name t target held)
    (first n : Moment) (n_sound : IsSoundAt n) (before : Grows m first) (grows : Grows first n) (contained : Contained) (c : HasContained caller (known_at held number) first n contained) (free : taken held contained.writers ≡ None) where
  its_read : (w : WriterRead) → Among w contained.writers → IsReadSo caller (known_at held number) first n w
  its_read w a = All-Among (IsReadSo caller (known_at held number) first n) contained.writers w c.reads a

  pub its_stood : (w : WriterRead) → Among w contained.writers → Stood n (dropping_in number w.host w.writer)
  its_stood w a = all_at (λ (x : WriterRead). Stood n (dropping_in number x.host x.writer)) contained.writers w c.stood a

  pub its_due : (w : WriterRead) → Among w contained.writers → IsDueOf number n (due_of held w)
  its_due w a = due_is m s number name t target caller held knows first n n_sound before grows w (its_read w a) (its_stood w a)

  its_id : (w : WriterRead) → Among w contained.writers → IsIdOf w.writer
  its_id w a = id_is n n_sound number w.host w.writer (its_stood w a)

  of_mounts : (w : WriterRead) → Among w contained.writers → IsOfMounts (mounts_of contained.writers) w.writer
  of_mounts w a =
      let i = its_id w a in
      record { mount = i.mount; serial = i.serial; among = subst (λ k. Among k (mounts_of contained.writers)) (mount_is w.writer i) (mount_among contained.writers w a); some = i.some; fits = i.fits; is = i.is }

  each_writer : (P : WriterRead → Type 0) (ws : List WriterRead) → ((w : WriterRead) → Among w ws → P w) → AllByRecursion P ws
  each_writer P [] h = tt
  each_writer P (w ∷ ws) h = (h w (inl refl), each_writer P ws (λ x a. h x (inr a)))

  no_settled : IsFree t name → (ws : List WriterRead) → settled_of held ws ≡ []
  no_settled none [] = refl
  no_settled none (w ∷ ws) =
      ap (λ l. l ++ settled_of held ws) (cond-false (is_settled held w.writer) (settled_if held w (mirror_in held.mirrors w.writer)) [] (knows.fresh none w.writer).1) ∙ no_settled none ws

  abbrev dues : List Due
  dues = dues_of held contained.writers

  abbrev settled : List Due
  settled = settled_of held contained.writers

  abbrev Sure : Type 0
  Sure = NoBareLog name t

  abbrev Post : Drained → Tree → Type 0
  Post drained x = HasGot first n number name dues drained x

  -- ---- the plan

  pub planned : AllByRecursion (IsPlanned number name n Sure dues) dues
  planned = dues_all (IsPlanned number name n Sure dues) held contained.writers (λ w a open_. record {
    among = dues_among held contained.writers w a open_;
    due_then = its_due w a;
    idle = λ none. idle_is m s number name t target caller held knows first n n_sound before grows w (its_read w a) (its_stood w a) none;
  })

  apart : AreApart dues settled
  apart = dues_apart held contained.writers c.differ (λ w a. (its_stood w a).is_item)

  its_settled_due : AllByRecursion (IsDueOf number n) settled
  its_settled_due = settled_all (IsDueOf number n) held contained.writers (λ w a there x e. its_due w a)

  its_dues : AllByRecursion (IsDueOf number n) dues
  its_dues = dues_all (IsDueOf number n) held contained.writers (λ w a open_. its_due w a)

  stand : AllByRecursion (λ (x : Truncate). HadTrunc n number x.stamp x.size) contained.truncs
  stand = recursion_from_All (λ (x : Truncate). HadTrunc n number x.stamp x.size) contained.truncs c.truncs.there

  some : AllByRecursion (λ mount. 1 ≤ mount) (mounts_of contained.writers)
  some = all_mounts (λ mount. 1 ≤ mount) None contained.writers (each_writer (λ (w : WriterRead). 1 ≤ mount_of w.writer) contained.writers (λ w a. (let i = its_id w a in subst (λ k. 1 ≤ k) (sym (mount_is w.writer i)) i.some_mount)))

  small : AllByRecursion (λ mount. mount < 2 ^ 32) (mounts_of contained.writers)
  small = all_mounts (λ mount. mount < 2 ^ 32) None contained.writers (each_writer (λ (w : WriterRead). mount_of w.writer < 2 ^ 32) contained.writers (λ w a. (let i = its_id w a in subst (λ k. k < 2 ^ 32) (sym (mount_is w.writer i)) i.mount_fits)))

  of : AllByRecursion (λ (due : Due). IsOfMounts (mounts_of contained.writers) due.writer) dues
  of = dues_all (λ (due : Due). IsOfMounts (mounts_of contained.writers) due.writer) held contained.writers (λ w a open_. of_mounts w a)

  -- ---- what is there in the end

  copied_so : (x : Tree) (to : ℕ) (room : Room) (host writer count : ℕ) (due : Due) → due.host ≡ host → due.writer ≡ writer → count ≤ due.count + length due.entries → IsDueOf number n due → HasDone name to x room due → HasKept n number x to room host writer count
  copied_so x to room host writer count due host_is writer_is few d done =
      let fewer : logged (take count (entries_in (n.issued number due.writer))) ≤ due.bytes = omega (arith, d.bytes, logged_first count (due.count + length due.entries) (entries_in (n.issued number due.writer)) few) in
      subst (λ h. HasKept n number x to room h writer count) host_is (subst (λ w. HasKept n number x to room due.host w count) writer_is (record {
        copied = record { bytes = done.bytes; has = done.has; entries = omega (arith, done.entries, few); written = omega (arith, done.written, fewer) };
        index_kept = kept_less x to (40 * (due.count + length due.entries)) (40 * count) (index_path due.host due.writer) (omega (arith, few)) done.index_kept;
        log_kept = kept_less x to due.bytes (logged (take count (entries_in (n.issued number due.writer)))) (log_path due.host due.writer) fewer done.log_kept;
      }))

  its_count : (w : WriterRead) → Among w contained.writers → (d : Dropping) → dropping_in number w.host w.writer ≡ d → landed first d ≤ w.cover.count
  its_count w a d is =
      let p = its_prefix m s number name t target caller held knows first n n_sound before grows w (its_read w a) (its_stood w a) in
      subst (λ y. landed first y ≤ w.cover.count) is p.least

  whole_count : (w : WriterRead) (a : Among w contained.writers) → w.cover.count ≡ count_there held w.writer + length w.entries
  whole_count w a = its_total m s number name t target caller held knows first n n_sound before grows w (its_read w a) (its_stood w a)

  finish : (to : ℕ) (x : Tree) (room : Room) → IsGood number name n Sure dues x → IsNamedRoom x to name room → Stuff number name n n_sound Sure dues Post to [] (onto dues settled) (onto contained.truncs []) x room → Post (drained_of dues) x
  finish to x room good at st =
      let dones = all_onto (HasDone name to x room) dues settled st.dones in
      let puts = all_onto (HasPut name to room) contained.truncs [] st.puts in
      record {
        n = to;
        room = room;
        at = at;
        entries = λ host writer stood some.
            let d : Dropping = dropping_in number host writer in
            let (w, a, is) = any_found (λ (w : WriterRead). dropping_in number w.host w.writer ≡ d) contained.writers (c.complete d refl stood) in
            by_settled host writer (landed first d) some w a (its_count w a d is) (ap (λ (y : Dropping). y.host) is) (ap (λ (y : Dropping). y.writer) is) (is_settled held w.writer) refl dones.0 dones.1;
        truncates = λ stamp size had.
            let p = All-Among (HasPut name to room) contained.truncs (record { stamp = stamp; size = size }) puts.0 (among contained.truncs (record { stamp = stamp; size = size }) (c.truncs.all (record { stamp = stamp; size = size }) had)) in
            (p.bytes, p.has);
        counts = refl;
      }
    where
      by_settled : (host writer count : ℕ) → 1 ≤ count → (w : WriterRead) → Among w contained.writers → count ≤ w.cover.count → w.host ≡ host → w.writer ≡ writer → (b : Bool) → is_settled held w.writer ≡ b
          → AllByRecursion (HasDone name to x room) dues → AllByRecursion (HasDone name to x room) settled → HasKept n number x to room host writer count
      by_settled host writer count some w a few host_is writer_is false e dones settled_dones =
          let among_dues = dues_among held contained.writers w a e in
          copied_so x to room host writer count (due_of held w) host_is writer_is (omega (arith, few, whole_count w a)) (All-Among (IsDueOf number n) dues (due_of held w) its_dues among_dues) (All-Among (HasDone name to x room) dues (due_of held w) dones among_dues)
      by_settled host writer count some w a few host_is writer_is true e dones settled_dones = by_mirror (mirror_in held.mirrors w.writer) refl
        where
          by_mirror : (found : Option Mirror) → mirror_in held.mirrors w.writer ≡ found → HasKept n number x to room host writer count
          by_mirror None none =
              let no_more = not_more held w (none_taken held contained.writers w free a) e in
              let zero_is : count_there held w.writer ≡ 0 = ap count_in none in
              let all : w.cover.count ≤ count_there held w.writer = grind (arith, nat_tests, no_more) in
              absurd (omega (arith, some, few, all, zero_is))
          by_mirror (Some y) found =
              let among_settled = settled_among held contained.writers w y a e found in
              copied_so x to room host writer count (due_of held w) host_is writer_is (omega (arith, few, whole_count w a)) (All-Among (IsDueOf number n) settled (due_of held w) its_settled_due among_settled) (All-Among (HasDone name to x room) settled (due_of held w) settled_dones among_settled)

  -- ---- all is made, and copied

  abbrev job : Job
  job = record { name = name; from = number; dues = dues; truncs = contained.truncs; drained = drained_of dues }

  pub all_safe : IsTarget n number name t → Safely number name n Sure dues Post (makes_marks_room job (mounts_of contained.writers)) t
  all_safe target_then =
      job_safe number name n n_sound Sure dues Post (drained_of dues) dues settled contained.truncs (mounts_of contained.writers) planned apart stand some small of finish t target_then
      (record {
        settled_done = settled_all (IsDone name t) held contained.writers (λ w a there x e. done_is m s number name t target caller held knows first n n_sound before grows w (its_read w a) (its_stood w a) there (not_more held w (none_taken held contained.writers w free a) there) x e);
        settled_there = λ none. no_settled none contained.writers;
        ready = dues_all (IsReady Sure name t) held contained.writers (λ w a open_. ready_is m s number name t target caller held knows first n n_sound before grows w (its_read w a) (its_stood w a) open_);
      })

-- Who is told of those that had a container open.
use Rattle.std.proofs.Common.{◌≡◌, ◌⊎◌, ◌<◌, ℕ, inl, inr, false, List, [], ◌∷◌, ◌++◌, map, Some, refl, sym, ap, ◌∙◌, subst, append_assoc}
use Rattle.std.specs.List.{AllByRecursion, Any}
use Rattle.std.proofs.lemmas.List.{append-nil}
use Rattle.std.proofs.lemmas.List.Elements.{All-from_recursion}
use Rattle.plfs_types.specs.declared.entries.WriterCount.{WriterCount}
use Rattle.plfs_types.specs.declared.names.Path.{Path}
use Rattle.container_layout.specs.declared.items.Item.TheVariants.{OpenHost}
use Rattle.container_layout.specs.Paths.{IsIn, path_of}
use Rattle.plain_file.proofs.Facts.{Among}
use Rattle.store_api.specs.Room.{is_top}
use Rattle.store_laws.specs.Files.{file_at}
use Rattle.store_laws.specs.There.{ListsFolder}
use Rattle.store_laws.proofs.Facts.{ordered_differ}
use Rattle.mount_model.specs.Paths.{Name}
use Rattle.container_layout.specs.Paths.{openhosts}
use Rattle.mount_sound.specs.Items.{HasItem}
use Rattle.mount_model.specs.declared.names.OpenEntry.{OpenEntry}
use Rattle.mount_model.specs.Names.{open_in}
use Rattle.mount_model.specs.Order.{entries_by_writer}
use Rattle.mount_model.proofs.Flows.Facts.{open_in-found, open_in-is}
use Rattle.torn_tail.specs.declared.recovering.Recovered.{Recovered}
use Rattle.reader_laws.specs.Moments.{IsSoundAt, Moment}
use Rattle.reader_laws.proofs.Gathered.Facts.{any_found, found_any, is_among, named_file}
use Rattle.look_laws.proofs.Facts.{AreOf, Differ, Rise, among_ordered, differ_so, name_of, ordered_among, rise_ordered, told_by_name}
use Rattle.headline_laws.specs.Recovering.{AreOpenWriters, AreTold, IsOpenName, NumbersRise}

-- ---- the writers of a listing

abbrev number_of : OpenEntry → ℕ
number_of e = e.writer

abbrev pub writers_of : List OpenEntry → List ℕ
writers_of entries = map (λ (e : OpenEntry). e.writer) entries

above_all : (w : ℕ) (entries : List OpenEntry) → AllByRecursion (λ (e : OpenEntry). w < e.writer) entries → AllByRecursion (λ later. w < later) (writers_of entries)
above_all w [] all = tt
above_all w (e ∷ entries) all = (all.0, above_all w entries all.1)

numbers_rise : (entries : List OpenEntry) → Rise number_of entries → NumbersRise (writers_of entries)
numbers_rise [] rise = tt
numbers_rise (e ∷ entries) rise = (above_all e.writer entries rise.0, numbers_rise entries rise.1)

members : (P : ℕ → Type 0) (entries : List OpenEntry) → ((e : OpenEntry) → Among e entries → P e.writer) → AllByRecursion P (writers_of entries)
members P [] f = tt
members P (e ∷ entries) f = (f e (inl refl), members P entries (λ x a. f x (inr a)))

among_writers : (entries : List OpenEntry) (e : OpenEntry) → Among e entries → Among e.writer (writers_of entries)
among_writers [] e a = a
among_writers (x ∷ entries) e (inl same) = inl (ap number_of same)
among_writers (x ∷ entries) e (inr a) = inr (among_writers entries e a)

-- one of the names is that of the entry
abbrev pub IsListed : List Name → OpenEntry → Type 0
IsListed names e = Any (λ name. IsIn openhosts name (OpenHost e.host e.writer)) names

all_of : (P : OpenEntry → Type 0) (entries : List OpenEntry) → ((e : OpenEntry) → Among e entries → P e) → AllByRecursion P entries
all_of P [] f = tt
all_of P (e ∷ entries) f = (f e (inl refl), all_of P entries (λ x a. f x (inr a)))

-- The names tell of each entry that comes of them.
pub entries_listed : (names : List Name) (entries : List OpenEntry) → AreOf open_in names entries → AllByRecursion (IsListed names) (entries_by_writer entries)
entries_listed names entries are =
    all_of (IsListed names) (entries_by_writer entries) (λ e a. (let n = name_of open_in names entries are e (ordered_among number_of e entries a) in found_any (λ name. IsIn openhosts name (OpenHost e.host e.writer)) names n.0 n.1 (open_in-found n.0 e n.2)))

-- Of a listing of who has the container open, the entries that its names tell are each of another writer.
pub open_writers : (m : Moment) (s : IsSoundAt m) (room : ℕ) (names : List Name) (entries : List OpenEntry) → ListsFolder s.shape.tree room openhosts names → AreOf open_in names entries → AreOpenWriters names (writers_of (entries_by_writer entries))
open_writers m s room names entries l are = record {
  rise = numbers_rise (entries_by_writer entries) (rise_ordered number_of entries differ);
  named = All-from_recursion (λ writer. Any (λ name. IsOpenName name writer) names) (writers_of (entries_by_writer entries))
      (members (λ writer. Any (λ name. IsOpenName name writer) names) (entries_by_writer entries) (λ e a.
      (let n = name_of open_in names entries are e (ordered_among number_of e entries a) in found_any (λ name. IsOpenName name e.writer) names n.0 n.1 (e.host, open_in-found n.0 e n.2))));
  all = λ writer any.
      (let f = any_found (λ name. IsOpenName name writer) names any in
      let e : OpenEntry = record { host = f.2.0; writer = writer } in
      is_among (writers_of (entries_by_writer entries)) writer (among_writers (entries_by_writer entries) e (among_ordered number_of e entries (told_by_name open_in names entries are f.0 f.1 e (open_in-is f.0 f.2.0 writer f.2.1)))));
}
  where
    below_top : is_top openhosts ≡ false
    below_top = refl

    standing : (name : Name) (e : OpenEntry) → Among name names → open_in name ≡ Some e → (content : List ℕ) × HasItem l.room (OpenHost e.host e.writer) content
    standing name e a is =
        let here = open_in-found name e is in
        let f = named_file l.room openhosts name names below_top l.entries a in
        (f.0, record { is_item = here.is_item; there = subst (λ (p : Path). file_at l.room p ≡ Some f.0) here.printed f.1 })

    one_name : (name other : Name) (x y : OpenEntry) → Among name names → Among other names → open_in name ≡ Some x → open_in other ≡ Some y → x.writer ≡ y.writer → name ≡ other
    one_name name other x y a b is also same =
        let f = standing name x a is in
        let g = standing other y b also in
        let w = (s.sound.rooms room l.room l.has_room).writers x.writer f.1.is_item.widths.1 in
        let there : HasItem l.room (OpenHost y.host x.writer) g.0 = subst (λ k. HasItem l.room (OpenHost y.host k) g.0) (sym same) g.1 in
        let hosts : x.host ≡ y.host = w.one_host x.host (inr (inl (f.0, f.1))) ∙ sym (w.one_host y.host (inr (inl (g.0, there)))) in
        ap (λ (p : Path). p.file) (open_in-found name x is).printed ∙ (λ i. (path_of (OpenHost (hosts i) (same i))).file) ∙ sym (ap (λ (p : Path). p.file) (open_in-found other y also).printed)

    differ : Differ number_of entries
    differ = differ_so open_in number_of names names entries (λ n a. a) (ordered_differ names l.entries.ordered) are one_name

-- ---- what became of them

module _ (IsOut : WriterCount → Type 0) (IsOn : ℕ → Type 0) where
  -- one writer more is told, as buried or as alive, and is so
  abbrev pub Adds : OpenEntry → Recovered → Recovered → Type 0
  Adds e old new =
      ((told : WriterCount) × (told.writer ≡ e.writer) × IsOut told × (new ≡ record { buried = old.buried ++ told ∷ []; alive = old.alive; hold = old.hold }))
      ⊎ (IsOn e.writer × (new ≡ record { buried = old.buried; alive = old.alive ++ e.writer ∷ []; hold = old.hold }))

  -- behind what was told so far these writers are told, and are so
  pub record AreToldBehind (writers : List ℕ) (sofar r : Recovered) : Type 0 where
    pub buried : List WriterCount
    pub alive : List ℕ
    pub out : r.buried ≡ sofar.buried ++ buried
    pub on : r.alive ≡ sofar.alive ++ alive
    pub hold : r.hold ≡ sofar.hold
    pub each : AreTold writers buried alive
    pub all_out : AllByRecursion IsOut buried
    pub all_on : AllByRecursion IsOn alive

  pub none_more : (r : Recovered) → AreToldBehind [] r r
  none_more r = record { buried = []; alive = []; out = sym (append-nil r.buried); on = sym (append-nil r.alive); hold = refl; each = (refl, refl); all_out = tt; all_on = tt }

  pub one_more : (e : OpenEntry) (writers : List ℕ) (sofar next r : Recovered) → Adds e sofar next → AreToldBehind writers next r → AreToldBehind (e.writer ∷ writers) sofar r
  one_more e writers sofar next r (inl (told, same, is, adds)) t = record {
    buried = told ∷ t.buried;
    alive = t.alive;
    out = t.out ∙ ap (λ (x : Recovered). x.buried ++ t.buried) adds ∙ append_assoc sofar.buried (told ∷ []) t.buried;
    on = t.on ∙ ap (λ (x : Recovered). x.alive ++ t.alive) adds;
    hold = t.hold ∙ ap (λ (x : Recovered). x.hold) adds;
    each = inl (told, t.buried, same, refl, t.each);
    all_out = (is, t.all_out);
    all_on = t.all_on;
  }
  one_more e writers sofar next r (inr (is, adds)) t = record {
    buried = t.buried;
    alive = e.writer ∷ t.alive;
    out = t.out ∙ ap (λ (x : Recovered). x.buried ++ t.buried) adds;
    on = t.on ∙ ap (λ (x : Recovered). x.alive ++ t.alive) adds ∙ append_assoc sofar.alive (e.writer ∷ []) t.alive;
    hold = t.hold ∙ ap (λ (x : Recovered). x.hold) adds;
    each = inr (t.alive, refl, t.each);
    all_out = t.all_out;
    all_on = (is, t.all_on);
  }

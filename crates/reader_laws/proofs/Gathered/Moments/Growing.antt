-- Later moments extend earlier ones.
use Rattle.std.proofs.Common.{◌≡◌, ℕ, ◌≤◌, List, [], ◌++◌, length, Option, Some, None, refl, ap, sym, ◌∙◌, arith, append_assoc}
use Rattle.std.proofs.lemmas.List.{append-nil}
use Rattle.plfs_types.specs.declared.names.Path.{Path}
use Rattle.container_layout.specs.declared.items.Item.TheVariants.{Index, Trunc}
use Rattle.store_api.specs.declared.tree.Room.{Room}
use Rattle.store_laws.specs.Files.{file_at}
use Rattle.mount_sound.specs.Dropping.{bytes_of}
use Rattle.reader_laws.specs.Moments.{Moment, file_in_room, Dropping, IsNamed, Stood, log_then, HadTrunc, Grows}

pub in_a_room : (o : Option Room) (path : Path) (bytes : List ℕ) → file_in_room o path ≡ Some bytes → (room : Room) × (o ≡ Some room) × (file_at room path ≡ Some bytes)
in_a_room None path bytes e = absurd (cc)
in_a_room (Some room) path bytes e = (room, refl, e)

-- ---------- growth

pub grows_refl : (m : Moment) → Grows m m
grows_refl m = record {
  issued = λ number writer. ([], sym (append-nil (m.issued number writer)));
  stands = λ room item stays had. had;
  landed = λ d named. omega arith;
  logs = λ d log named e. (log, e, omega arith);
  indices = λ makes room id bytes is e. e;
}

pub grows_trans : (a b c : Moment) → Grows a b → Grows b c → Grows a c
grows_trans a b c f g = record {
  issued = λ number writer.
      let x = f.issued number writer in
      let y = g.issued number writer in
      (x.0 ++ y.0, y.1 ∙ ap (λ l. l ++ y.0) x.1 ∙ append_assoc (a.issued number writer) x.0 y.0);
  stands = λ room item stays had. g.stands room item stays (f.stands room item stays had);
  landed = λ d named. omega (arith, f.landed d named, g.landed d named);
  logs = λ d log named e.
      let x = f.logs d log named e in
      let y = g.logs d x.0 named x.1 in
      (y.0, y.1, omega (arith, x.2, y.2));
  indices = λ makes room id bytes is e. g.indices makes room id bytes is (f.indices makes room id bytes is e);
}

-- ---------- what stays

-- a dropping that stood stands
pub stood_grows : (a b : Moment) (d : Dropping) → Grows a b → Stood a d → Stood b d
stood_grows a b d g s = g.stands d.room (Index d.host d.writer) tt s

pub trunc_grows : (a b : Moment) (room stamp size : ℕ) → Grows a b → HadTrunc a room stamp size → HadTrunc b room stamp size
trunc_grows a b room stamp size g had = g.stands room (Trunc stamp size) tt had

longer : (old new : Option (List ℕ)) → ((bytes : List ℕ) → old ≡ Some bytes → (later : List ℕ) × (new ≡ Some later) × (length bytes ≤ length later)) → length (bytes_of old) ≤ length (bytes_of new)
longer None new grows = omega arith
longer (Some bytes) new grows = let g = grows bytes refl in omega (arith, g.2, ap (λ o. length (bytes_of o)) g.1)

-- a log gets no shorter, where a missing one has no bytes
pub log_grows : (a b : Moment) (d : Dropping) → IsNamed d → Grows a b → length (bytes_of (log_then a d)) ≤ length (bytes_of (log_then b d))
log_grows a b d named g = longer (log_then a d) (log_then b d) (λ bytes e. g.logs d bytes named e)

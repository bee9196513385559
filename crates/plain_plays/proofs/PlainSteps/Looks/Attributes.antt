-- Who looks at a file that is there comes to an end: its names tell of it, or its index is to be gathered.
use Rattle.std.proofs.Common.{◌≡◌, ◌⊎◌, ℕ, Bool, true, false, List, [], ◌∷◌, ◌++◌, Option, Some, None, Result, Ok, refl, sym, ap, ◌∙◌, inl, inr, subst}
use Rattle.plfs_types.specs.declared.entries.Trunc.{Trunc}
use Rattle.plain_file.proofs.Facts.{Among}
use Rattle.container_layout.specs.Paths.{openhosts}
use Rattle.store_api.specs.declared.step.Answer.TheVariants as answer
use Rattle.store_api.specs.declared.tree.Room.{Room}
use Rattle.store_laws.specs.There.{AreNamesOf, ListsFolder}
use Rattle.mount_model.specs.declared.call.Call.TheVariants.{Look}
use Rattle.mount_model.specs.declared.call.Look.TheVariants.{List as ListFolder}
use Rattle.mount_model.specs.declared.reply.Reply.{Reply}
use Rattle.mount_model.specs.declared.reply.Reply.TheVariants.{Looked}
use Rattle.mount_model.specs.History.{AreBy, Event}
use Rattle.mount_model.specs.Paths.{Name, metadata, truncs}
use Rattle.mount_model.specs.State.{State}
use Rattle.mount_model.specs.Step.{Answers}
use Rattle.mount_sound.specs.Owed.{IsLawful}
use Rattle.mount_model.specs.Program.{done}
use Rattle.mount_model.specs.declared.names.Metadata.{Metadata}
use Rattle.mount_model.specs.declared.names.OpenEntry.{OpenEntry}
use Rattle.mount_model.specs.declared.stuck.Stuck.{Stuck}
use Rattle.mount_model.specs.FlowListed.{known, told_by}
use Rattle.mount_model.specs.Names.{meta_in, open_in, trunc_in}
use Rattle.mount_model.specs.FlowReplies.{Tries, failure, given, on_ok, room_in}
use Rattle.mount_model.specs.Running.{Runs}
use Rattle.mount_model.proofs.Flows.Facts.{open_in-is}
use Rattle.attr_flow.specs.declared.attr.Attr.{Attr}
use Rattle.attr_flow.specs.declared.attr_flow.AttrOut.{AttrOut}
use Rattle.attr_flow.specs.declared.attr_flow.AttrOut.TheVariants.{Cached, MustMerge}
use Rattle.attr_flow.specs.Asking.{attr_program, attributes, if_open, lists_metadata, lists_open, lists_truncs}
use Rattle.attr_flow.specs.Attributes.{cached}
use Rattle.attr_flow.specs.Listings.{has_entry, is_open, metadata_named, truncs_named}
use Rattle.reader_laws.specs.Moments.{IsSoundAt, Moment, next_moment}
use Rattle.reader_laws.proofs.Gathered.Containers.Entries.{named_file}
use Rattle.recovery_laws.proofs.Holds.Facts.{folder_listed}
use Rattle.index_reader.proofs.Facts.{OnlyLooks}
use Rattle.plain_machine.specs.Machine.{PlainRoom}
use Rattle.plain_plays.specs.Mirrors.{MirrorsRoom, room_then, room_told}
use Rattle.plain_plays.specs.Served.{GoesWell}
use Rattle.plain_plays.proofs.PlainSteps.Entering.{IsContainerAt, has_room}
use Rattle.plain_plays.proofs.PlainSteps.Reaching.{IsServed, ended}
use Rattle.plain_plays.proofs.PlainSteps.Steps.Alone.{First, first_call}
use Rattle.plain_plays.proofs.PlainSteps.ByName.Listed.{folder_names, metas_known, truncs_known}
use Rattle.plain_plays.proofs.PlainSteps.ByName.OpenWriters.{its_writer}
use Rattle.plain_plays.proofs.PlainSteps.Looks.Gathered.{ok_looks}
use Rattle.plain_plays.proofs.PlainSteps.Looks.Answered.{alike_next, unchecked}

-- ---- it only looks

given_looks : {A R : Type 0} (o : Option A) (why : Stuck) (next : A → Tries R) → ((a : A) → OnlyLooks (next a)) → OnlyLooks (given o why next)
given_looks None why next goes = tt
given_looks (Some a) why next goes = goes a

truncs_look : (room : ℕ) (metas : List Metadata) → OnlyLooks (lists_truncs room metas)
truncs_look room metas = (tt, λ reply. tt)

metadata_look : (room : ℕ) → OnlyLooks (lists_metadata room)
metadata_look room = (tt, λ reply. ok_looks (lists_truncs room) (truncs_look room) (told_by metadata (λ names. metadata_named names []) reply))

if_open_look : (room : ℕ) (open_now : Bool) → OnlyLooks (if_open room open_now)
if_open_look room true = tt
if_open_look room false = metadata_look room

open_look : (room : ℕ) → OnlyLooks (lists_open room)
open_look room = (tt, λ reply. ok_looks (if_open room) (if_open_look room) (is_open reply))

pub attr_looks : (name : Name) → OnlyLooks (attr_program name)
attr_looks name = (tt, λ reply. given_looks (room_in reply) (failure reply) lists_open open_look)

-- ---- what names tell

entries_tell : (names : List Name) (before : Bool) → ((name : Name) → Among name names → (x : OpenEntry) × (open_in name ≡ Some x)) → (b : Bool) × (has_entry names before ≡ Ok b)
entries_tell [] before each = (before, refl)
entries_tell (name ∷ names) before each =
    let x = each name (inl refl) in
    let rest = entries_tell names true (λ other a. each other (inr a)) in
    (rest.0, ap (λ o. known openhosts name o (λ (e : OpenEntry). has_entry names true)) x.1 ∙ rest.1)

metas_tell : (names : List Name) (sofar : List Metadata) → ((name : Name) → Among name names → (x : Metadata) × (meta_in name ≡ Some x)) → (metas : List Metadata) × (metadata_named names sofar ≡ Ok metas)
metas_tell [] sofar each = (sofar, refl)
metas_tell (name ∷ names) sofar each =
    let x = each name (inl refl) in
    let rest = metas_tell names (sofar ++ x.0 ∷ []) (λ other a. each other (inr a)) in
    (rest.0, ap (λ o. known metadata name o (λ (m : Metadata). metadata_named names (sofar ++ m ∷ []))) x.1 ∙ rest.1)

truncs_tell : (names : List Name) (sofar : List Trunc) → ((name : Name) → Among name names → (x : Trunc) × (trunc_in name ≡ Some x)) → (ts : List Trunc) × (truncs_named names sofar ≡ Ok ts)
truncs_tell [] sofar each = (sofar, refl)
truncs_tell (name ∷ names) sofar each =
    let x = each name (inl refl) in
    let rest = truncs_tell names (sofar ++ x.0 ∷ []) (λ other a. each other (inr a)) in
    (rest.0, ap (λ o. known truncs name o (λ (t : Trunc). truncs_named names (sofar ++ t ∷ []))) x.1 ∙ rest.1)

-- ---- by its names

abbrev IsCached : Result AttrOut Stuck → Type 0
IsCached out = (attr : Attr) × (out ≡ Ok (Cached attr))

module _ (n me : ℕ) where
  truncs_end : (metas : List Metadata) (m : Moment) (s : IsSoundAt m) (had : IsContainerAt n m) (events : List Event) (out : Result AttrOut Stuck) → IsLawful m.state events → GoesWell me events → AreBy me events → Runs me (lists_truncs n metas) events out → IsCached out
  truncs_end metas m s had events out lawful well by runs =
      let c = first_call m me (Look n (ListFolder truncs)) (λ reply. done (attributes metas (told_by truncs (λ names. truncs_named names []) reply))) events out s lawful well by runs in
      let l = folder_names m s n had me truncs (λ r k. k.has_truncs) c.event.reply c.event.after c.answers c.served in
      let ts = truncs_tell l.names [] (truncs_known l) in
      let told : told_by truncs (λ names. truncs_named names []) c.event.reply ≡ Ok ts.0 = ap (told_by truncs (λ names. truncs_named names [])) l.told ∙ ts.1 in
      (cached metas ts.0, sym (ended me (Ok (Cached (cached metas ts.0))) c.rest out (subst (λ x. Runs me (done (attributes metas x)) c.rest out) told c.runs)))

  metadata_end : (m : Moment) (s : IsSoundAt m) (had : IsContainerAt n m) (events : List Event) (out : Result AttrOut Stuck) → IsLawful m.state events → GoesWell me events → AreBy me events → Runs me (lists_metadata n) events out → IsCached out
  metadata_end m s had events out lawful well by runs =
      let c = first_call m me (Look n (ListFolder metadata)) (λ reply. on_ok (lists_truncs n) (told_by metadata (λ names. metadata_named names []) reply)) events out s lawful well by runs in
      let l = folder_names m s n had me metadata (λ r k. k.has_metadata) c.event.reply c.event.after c.answers c.served in
      let metas = metas_tell l.names [] (metas_known l) in
      let told : told_by metadata (λ names. metadata_named names []) c.event.reply ≡ Ok metas.0 = ap (told_by metadata (λ names. metadata_named names [])) l.told ∙ metas.1 in
      truncs_end metas.0 (next_moment m c.event) c.sound (alike_next m s n had c.event (c.whole.0, c.whole.1, tt) (ListFolder metadata) c.asked).1 c.rest out c.whole.2 c.well c.by (subst (λ x. Runs me (on_ok (lists_truncs n) x) c.rest out) told c.runs)

-- ---- who has it open

module _ (m : Moment) (s : IsSoundAt m) (n : ℕ) (had : IsContainerAt n m) (r : Room) (at : room_then m n ≡ Some r) (room : PlainRoom) (o : MirrorsRoom m n r room) (me : ℕ) where
  pub entries_known : (names : List Name) → AreNamesOf r openhosts names → (name : Name) → Among name names → (x : OpenEntry) × (open_in name ≡ Some x)
  entries_known names are name a =
      let f = named_file r openhosts name names refl are a in
      let w = its_writer m s n had r at room o name f.0 f.1 in
      (record { host = w.w.host; writer = w.w.id }, open_in-is name w.w.host w.w.id (record { is_item = w.is_item; printed = λ i. record { folder = openhosts; file = w.name_is i } }))

  opens_told : (reply : Reply) (after : State) → Answers m.state me (Look n (ListFolder openhosts)) reply after → IsServed me m.state (Look n (ListFolder openhosts)) reply → (b : Bool) × (is_open reply ≡ Ok b)
  opens_told reply after a served = elim served as (λ _. (b : Bool) × (is_open reply ≡ Ok b)) [
    | inr (why, told, reason) ↦ absurd (elim reason as (λ _. ⊥) [
      | inl check ↦ unchecked m s n had why check
      | inr lacks ↦ has_room m s n had (lacks.1 s.shape.tree s.shape.told)
    ])
    | inl (found, may, told) ↦ elim may as (λ _. (b : Bool) × (is_open reply ≡ Ok b)) [
      | inr none ↦ (false, ap is_open (told ∙ ap Looked none))
      | inl (names, is) ↦
          let shown : reply ≡ Looked (answer.Names names) = told ∙ ap Looked is in
          let l : ListsFolder s.shape.tree n openhosts names = folder_listed m.state s.shape.tree me n openhosts names after s.shape.told (record { does = subst (λ y. Answers m.state me (Look n (ListFolder openhosts)) y after) shown a }) in
          let in_tree = sym (ap (λ t. room_told t n) s.shape.told) ∙ at in
          let one : l.room ≡ r = (let both : Some l.room ≡ Some r = sym l.has_room ∙ in_tree in cc) in
          let b = entries_tell names false (entries_known names (subst (λ x. AreNamesOf x openhosts names) one l.entries)) in
          (b.0, ap is_open shown ∙ b.1)
    ]
  ]

  -- Its names tell of it, or it is to be gathered.
  pub attr_ends : (events : List Event) (out : Result AttrOut Stuck) → IsLawful m.state events → GoesWell me events → AreBy me events → Runs me (lists_open n) events out → IsCached out ⊎ (out ≡ Ok (MustMerge n))
  attr_ends events out lawful well by runs = by_open b.0 (subst (λ x. Runs me (on_ok (if_open n) x) c.rest out) b.1 c.runs)
    where
      c : First m me (Look n (ListFolder openhosts)) (λ reply. on_ok (if_open n) (is_open reply)) events out
      c = first_call m me (Look n (ListFolder openhosts)) (λ reply. on_ok (if_open n) (is_open reply)) events out s lawful well by runs

      b : (b : Bool) × (is_open c.event.reply ≡ Ok b)
      b = opens_told c.event.reply c.event.after c.answers c.served

      by_open : (open_now : Bool) → Runs me (if_open n open_now) c.rest out → IsCached out ⊎ (out ≡ Ok (MustMerge n))
      by_open true on = inr (sym (ended me (Ok (MustMerge n)) c.rest out on))
      by_open false on = inl (metadata_end n me (next_moment m c.event) c.sound (alike_next m s n had c.event (c.whole.0, c.whole.1, tt) (ListFolder openhosts) c.asked).1 c.rest out c.whole.2 c.well c.by on)

-- Each call of a recovery may be made.
use Rattle.std.proofs.Common.{◌≡◌, ℕ, nat_le, Bool, true, false, ◌||◌, List, [], ◌∷◌, ◌++◌, Option, Some, None, refl, ap, sym, ◌∙◌, inl, inr, subst}
use Rattle.std.specs.Prelude.{slice_get, is_some, ◌&&◌, if◌then◌else◌, Result, Ok, Err}
use Rattle.std.specs.List.{AllByRecursion}
use Rattle.container_layout.specs.declared.items.Item.TheVariants.{Index, OpenHost}
use Rattle.container_layout.specs.Paths.{IsIn}
use Rattle.store_api.specs.declared.tree.Tree.{Tree}
use Rattle.store_api.specs.declared.step.Answer.TheVariants.{Names}
use Rattle.store_laws.specs.Differ.{is_listed}
use Rattle.store_laws.specs.Files.{file_at}
use Rattle.store_laws.specs.There.{ListsFolder}
use Rattle.store_api.specs.Names.{same_name}
use Rattle.store_laws.proofs.Facts.{name_refl}
use Rattle.mount_model.specs.declared.stuck.Stuck.{Stuck}
use Rattle.mount_model.specs.Running.{asking, unbroken}
use Rattle.mount_model.specs.Program.{done}
use Rattle.mount_model.specs.Safe.{IsSafe}
use Rattle.mount_model.specs.declared.names.OpenEntry.{OpenEntry}
use Rattle.mount_model.specs.FlowListed.{file_in, or_trouble, told_by}
use Rattle.mount_model.specs.Names.{open_in}
use Rattle.mount_model.specs.Order.{entries_by_writer, put_by}
use Rattle.mount_model.specs.FlowReplies.{damage, failure, given, is_no_folder, names_in, room_in, trouble}
use Rattle.mount_model.proofs.Flows.Facts.{open_in-found}
use Rattle.mount_model.specs.declared.call.Call.TheVariants.{Find, Look, MendHold}
use Rattle.mount_model.specs.declared.call.Look.TheVariants.{List as ListFolder}
use Rattle.mount_model.specs.declared.reply.Reply.{Reply}
use Rattle.mount_model.specs.declared.reply.Reply.TheVariants.{Looked}
use Rattle.mount_model.specs.Paths.{Name}
use Rattle.container_layout.specs.Paths.{openhosts}
use Rattle.mount_model.specs.State.{State}
use Rattle.mount_model.specs.Step.{IsStep}
use Rattle.mount_sound.proofs.Shapes.Facts.{item_drawn}
use Rattle.mount_sound.specs.Dropping.{IsWriter}
use Rattle.mount_sound.specs.Items.{HasItem}
use Rattle.mount_sound.specs.Ledger.{Ledger}
use Rattle.mount_sound.specs.Owed.{Permits}
use Rattle.mount_sound.specs.Sound.{IsFine, IsSoundFor}
use Rattle.mount_sound.proofs.Facts.{one_tree, some_room, step_fine}
use Rattle.recovery_laws.proofs.Holds.Facts.{fine_lasts, may_free, safe_ask, safe_free}
use Rattle.torn_tail.specs.Recovering.{entries_named, hold_mended, lists_open, mends_hold, nothing, recover_program, recovers, recovers_listed}
use Rattle.torn_tail.specs.declared.recovering.Recovered.{Recovered}
use Rattle.recovery_laws.proofs.Cleanly.{Cleanly, cleanly_then, safe_given}
use Rattle.recovery_laws.proofs.Leftovers.{AreEntered, IsEntered, all_entered_stay}
use Rattle.recovery_laws.proofs.Looking.{folder_listed, looked_apart}
use Rattle.recovery_laws.proofs.Reading.{safe_writer}
use Rattle.mount_model.specs.Recovering.{IsHostAndWriter}

-- the ranges of the entries, whatever the state
abbrev AreInRange : List OpenEntry → Type 0
AreInRange entries = AllByRecursion (λ (e : OpenEntry). IsHostAndWriter e.host e.writer) entries

-- ---- writer after writer

safe_recovers : (caller number : ℕ) (entries : List OpenEntry) → AreInRange entries → (sofar : Recovered) (state : State) → Cleanly (AreEntered number entries) state → IsSafe IsStep Permits caller (asking (recovers number entries sofar)) state
safe_recovers caller number [] fits sofar state f = tt
safe_recovers caller number (e ∷ entries) fits sofar state f = safe_writer caller number e entries sofar (λ then_so after holds. safe_recovers caller number entries fits.1 then_so after holds) fits.0 state f

-- ---- those that were listed

-- what went on went on with what was there
went_on : {A B : Type 0} (o : Option A) (why : Stuck) (next : A → Result B Stuck) (b : B) → or_trouble o why next ≡ Ok b → (a : A) × (o ≡ Some a) × (next a ≡ Ok b)
went_on {A} {B} None why next b h = let clash : ◌≡◌ {A = Result B Stuck} (Err why) (Ok b) = h in absurd (not_ok why b clash)
  where
    not_ok : (w : Stuck) (x : B) → ◌≡◌ {A = Result B Stuck} (Err w) (Ok x) → ⊥
    not_ok w x c = cc
went_on (Some a) why next b h = (a, refl, h)

-- each of the entries has one of the names
abbrev AreNamed : List Name → List OpenEntry → Type 0
AreNamed names entries = AllByRecursion (λ (e : OpenEntry). (name : Name) × (is_listed name names ≡ true) × IsIn openhosts name (OpenHost e.host e.writer)) entries

all_push : (P : OpenEntry → Type 0) (es : List OpenEntry) (e : OpenEntry) → AllByRecursion P es → P e → AllByRecursion P (es ++ e ∷ [])
all_push P [] e a p = (p, tt)
all_push P (x ∷ es) e a p = (a.0, all_push P es e a.1 p)

all_so : (P Q : OpenEntry → Type 0) (es : List OpenEntry) → ((e : OpenEntry) → P e → Q e) → AllByRecursion P es → AllByRecursion Q es
all_so P Q [] so a = tt
all_so P Q (e ∷ es) so a = (so e a.0, all_so P Q es so a.1)

-- what holds of each named one
named_all : (P : OpenEntry → Type 0) (names all : List Name) (sofar entries : List OpenEntry) → ((name : Name) → is_listed name names ≡ true → is_listed name all ≡ true) → ((name : Name) (e : OpenEntry) → is_listed name all ≡ true → IsIn openhosts name (OpenHost e.host e.writer) → P e)
    → entries_named names sofar ≡ Ok entries → AllByRecursion P sofar → AllByRecursion P entries
named_all P [] all sofar entries within each h a = subst (AllByRecursion P) (same_list sofar entries h) a
  where
    same_list : (x y : List OpenEntry) → ◌≡◌ {A = Result (List OpenEntry) Stuck} (Ok x) (Ok y) → x ≡ y
    same_list x y e = cc
named_all P (name ∷ names) all sofar entries within each h a =
    let w = went_on (open_in name) (damage (file_in openhosts name) 0) (λ (e : OpenEntry). entries_named names (sofar ++ e ∷ [])) entries h in
    named_all P names all (sofar ++ w.0 ∷ []) entries
    (λ other listed. within other (or_right (same_name name other) (is_listed other names) listed))
    each w.2
    (all_push P sofar w.0 a (each name w.0 (within name (or_left (same_name name name) (is_listed name names) (name_refl name))) (open_in-found name w.0 w.1)))
  where
    or_left : (x y : Bool) → x ≡ true → (x || y) ≡ true
    or_left true y e = refl
    or_left false y e = absurd (let clash : false ≡ true = e in cc)

    or_right : (x y : Bool) → y ≡ true → (x || y) ≡ true
    or_right true y e = refl
    or_right false y e = e

all_put : (P : OpenEntry → Type 0) (e : OpenEntry) (es : List OpenEntry) → P e → AllByRecursion P es → AllByRecursion P (put_by (λ (x : OpenEntry). x.writer) e es)
all_put P e [] p a = (p, tt)
all_put P e (x ∷ es) p a = elim (nat_le e.writer x.writer) as (λ b. AllByRecursion P (if b then e ∷ x ∷ es else x ∷ put_by (λ (y : OpenEntry). y.writer) e es)) [
  | true ↦ (p, a)
  | false ↦ (a.0, all_put P e es p a.1)
]

all_ordered : (P : OpenEntry → Type 0) (es : List OpenEntry) → AllByRecursion P es → AllByRecursion P (entries_by_writer es)
all_ordered P [] a = tt
all_ordered P (e ∷ es) a = all_put P e (entries_by_writer es) a.0 (all_ordered P es a.1)

named_reply : (reply : Reply) (names : List Name) → names_in reply ≡ Some names → reply ≡ Looked (Names names)
named_reply (Looked (Names listed)) names e = let same : listed ≡ names = cc in ap (λ n. Looked (Names n)) same
named_reply reply names e = absurd cc

some_file : (o : Option (List ℕ)) (b : Bool) → (is_some o || (false && b)) ≡ true → (bytes : List ℕ) × (o ≡ Some bytes)
some_file (Some bytes) b e = (bytes, refl)
some_file None b e = absurd (let clash : false ≡ true = e in cc)

-- who has an entry was drawn, and what the room has of it is of its host
entered_at : (l : Ledger) (state : State) (s : IsSoundFor l state) (caller number : ℕ) (names : List Name) (after : State) → IsStep state caller (unbroken (Look number (ListFolder openhosts))) (Looked (Names names)) after
    → (name : Name) (e : OpenEntry) → is_listed name names ≡ true → IsIn openhosts name (OpenHost e.host e.writer) → IsEntered number e state
entered_at l state s caller number names after step name e listed is =
    let lists : ListsFolder s.shape.tree number openhosts names = folder_listed state s.shape.tree caller number openhosts names after s.shape.told step in
    let file = some_file (file_at lists.room (record { folder = openhosts; file = name })) (is_listed name lists.room.folders) (sym (lists.entries.exactly name) ∙ listed) in
    let has : HasItem lists.room (OpenHost e.host e.writer) file.0 = record { is_item = is.is_item; there = ap (λ p. file_at lists.room p) (sym is.printed) ∙ file.1 } in
    let w : IsWriter lists.room e.writer (l number e.writer) = (s.sound.rooms number lists.room lists.has_room).writers e.writer is.is_item.widths.1 in
    let host : e.host ≡ w.host = w.one_host e.host (inr (inl (file.0, has))) in (
      record { host_fits = is.is_item.widths.0; writer_fits = is.is_item.widths.1 },
      (item_drawn state s.shape.tree number lists.room (OpenHost e.host e.writer) file.0 s.shape s.shape.told lists.has_room (looked_apart state caller number (ListFolder openhosts) (Names names) after step) has.is_item has.there).1,
      λ tree room told there other content h.
          let same : room ≡ lists.room = some_room room lists.room (slice_get s.shape.tree.rooms number) (ap (λ (t : Tree). slice_get t.rooms number) (one_tree s.shape.tree tree state.store.tree s.shape.told told) ∙ there) lists.has_room in
          elim h as (λ _. other ≡ e.host) [
            | inl index ↦ w.one_host other (inl (content, subst (λ r. HasItem r (Index other e.writer) content) same index)) ∙ sym host
            | inr entry ↦ w.one_host other (inr (inl (content, subst (λ r. HasItem r (OpenHost other e.writer) content) same entry))) ∙ sym host
          ],
    )

module _ (caller number : ℕ) where
  safe_listed : (state : State) (reply : Reply) (after : State) → IsStep state caller (unbroken (Look number (ListFolder openhosts))) reply after → Permits state caller (unbroken (Look number (ListFolder openhosts))) → IsFine state
      → (r : Result (List OpenEntry) Stuck) → told_by openhosts (λ names. entries_named names []) reply ≡ r → IsSafe IsStep Permits caller (asking (recovers_listed number r)) after
  safe_listed state reply after step may fine (Err why) is = tt
  safe_listed state reply after step may fine (Ok entries) is =
      let w = went_on (names_in reply) (trouble (file_in openhosts []) reply) (λ names. entries_named names []) entries is in
      let listed : IsStep state caller (unbroken (Look number (ListFolder openhosts))) (Looked (Names w.0)) after = subst (λ r. IsStep state caller (unbroken (Look number (ListFolder openhosts))) r after) (named_reply reply w.0 w.1) step in
      let fits : AreInRange entries = named_all (λ (e : OpenEntry). IsHostAndWriter e.host e.writer) w.0 w.0 [] entries (λ name h. h) (λ name e h i. record { host_fits = i.is_item.widths.0; writer_fits = i.is_item.widths.1 }) w.2 tt in
      safe_recovers caller number (entries_by_writer entries) (all_ordered (λ (e : OpenEntry). IsHostAndWriter e.host e.writer) entries fits) nothing after
      (cleanly_then (λ x. Unit {0}) (AreEntered number (entries_by_writer entries)) state after caller (unbroken (Look number (ListFolder openhosts))) reply may step (fine, λ clean. tt)
      (λ l s holds.
      let now : AreEntered number entries state = named_all (λ (e : OpenEntry). IsEntered number e state) w.0 w.0 [] entries (λ name h. h) (λ name e h i. entered_at l state s caller number w.0 after listed name e h i) w.2 tt in
      all_entered_stay number (entries_by_writer entries) l state after caller (unbroken (Look number (ListFolder openhosts))) reply may.1 step s (all_ordered (λ (e : OpenEntry). IsEntered number e state) entries now)))

  safe_mends_hold : (state : State) → IsFine state → IsSafe IsStep Permits caller (asking (mends_hold number)) state
  safe_mends_hold = safe_free caller (MendHold number) (λ reply. done (hold_mended reply)) (tt, tt) (λ reply after fine. tt)

  safe_open : (state : State) → IsFine state → IsSafe IsStep Permits caller (asking (lists_open number)) state
  safe_open = safe_ask caller IsFine (Look number (ListFolder openhosts))
      (λ reply. if is_no_folder reply then mends_hold number else recovers_listed number (told_by openhosts (λ names. entries_named names []) reply))
      (fine_lasts caller) (λ state fine. may_free state caller (Look number (ListFolder openhosts)) (tt, tt) fine)
      (λ state reply after fine may step.
      elim (is_no_folder reply) as (λ b. IsSafe IsStep Permits caller (asking (if b then mends_hold number else recovers_listed number (told_by openhosts (λ names. entries_named names []) reply))) after) [
        | true ↦ safe_mends_hold after (step_fine state after caller (unbroken (Look number (ListFolder openhosts))) reply may.1 step fine)
        | false ↦ safe_listed state reply after step may fine (told_by openhosts (λ names. entries_named names []) reply) refl
      ])

-- From a fine state a caller may make all calls of a recovery, whatever others do between them.
pub safe_recovery : (caller : ℕ) (name : List ℕ) (state : State) → IsFine state → IsSafe IsStep Permits caller (asking (recover_program name)) state
safe_recovery caller name =
    safe_free caller (Find name) (λ reply. given (room_in reply) (failure reply) lists_open) (tt, tt)
    (λ reply after fine. safe_given caller (room_in reply) (failure reply) lists_open after (λ room. safe_open caller room after fine))

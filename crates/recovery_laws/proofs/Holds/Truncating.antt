-- Each call of a truncate, and of a rename, may be made.
use Rattle.std.proofs.Common.{◌≡◌, ℕ, ◌≤◌, ◌++◌, ◌⊎◌, inl, inr, List, [], ◌∷◌, Option, Some, None, max, suc, refl, ap, sym, ◌∙◌, subst, arith}
use Rattle.std.specs.Prelude.{◌≢◌, Result, Ok, Err, slice_get}
use Rattle.container_layout.specs.declared.items.Item.TheVariants.{Trunc, Meta}
use Rattle.store_api.specs.declared.tree.Tree.{Tree}
use Rattle.store_api.specs.declared.step.Answer.TheVariants.{Made, NoRoom, NoFolder, NotEmpty, Names}
use Rattle.store_api.specs.declared.store.Trouble.TheVariants as trouble_of
use Rattle.store_laws.specs.There.{ListsFolder, AreNamesOf}
use Rattle.mount_model.specs.declared.stuck.Stuck.{Stuck}
use Rattle.mount_model.specs.Running.{asking, unbroken}
use Rattle.mount_model.specs.Program.{done}
use Rattle.mount_model.specs.Safe.{IsSafe}
use Rattle.mount_model.specs.declared.call.Call.TheVariants.{Find, Hold, Look, Mark, Move, Release}
use Rattle.mount_model.specs.declared.call.Look.{Look as Sight}
use Rattle.mount_model.specs.declared.call.Look.TheVariants.{List as ListFolder}
use Rattle.mount_model.specs.declared.reply.Reply.{Reply}
use Rattle.mount_model.specs.declared.reply.Reply.TheVariants.{Holding, Looked, Refused, Damaged}
use Rattle.mount_model.specs.declared.reply.Refusal.TheVariants.{Held, Busy}
use Rattle.mount_model.specs.declared.row.Holder.{Holder}
use Rattle.mount_model.specs.Entering.{draw_check, next_id}
use Rattle.mount_model.specs.Holding.{HoldsRoom, HoldOutcome, holding}
use Rattle.mount_model.specs.Making.{Told, Refuses, otherwise}
use Rattle.mount_model.specs.Paths.{Name, metadata, truncs, trunc_path, meta_path}
use Rattle.container_layout.specs.Paths.{openhosts}
use Rattle.mount_model.specs.State.{State, Table}
use Rattle.mount_model.specs.Step.{IsStep}
use Rattle.mount_model.specs.Table.{holder_at}
use Rattle.mount_model.proofs.Facts.{IsHolding, held_before-push, is_holding, match_cases, next_not_held}
use Rattle.mount_sound.specs.Items.{HasItem}
use Rattle.mount_sound.specs.Owed.{IsTop, Permits}
use Rattle.mount_sound.specs.Sound.{IsFine, IsSound}
use Rattle.mount_sound.specs.There.{landed_entries}
use Rattle.mount_sound.proofs.Facts.{step_fine}
use Rattle.mount_model.specs.FlowReplies.{given, room_in, names_in, trouble, failure}
use Rattle.mount_model.specs.FlowListed.{file_in, told_by}
use Rattle.mount_model.proofs.Flows.Facts.{meta_in-is, trunc_in-is}
use Rattle.trunc_rename.specs.Holding.{holder_in, released, lets_go, or_lets_go, holds}
use Rattle.trunc_rename.specs.Tops.{metadata_top, truncs_top}
use Rattle.trunc_rename.specs.Truncating.{marked, marks, lists_truncs, lists_metadata, truncate_program}
use Rattle.trunc_rename.specs.Renaming.{moved, moves, rename_program}
use Rattle.recovery_laws.proofs.Holds.Safety.{LastsOne, fine_lasts, may_free, may_lasts, safe_ask, safe_free}
use Rattle.recovery_laws.proofs.Holds.Tops.{cases_Option, went_on, metadata_has, truncs_above, truncs_has}
use Rattle.recovery_laws.proofs.Holds.Greatest.{Stands, greatest_above, greatest_in, greatest_stands}
use Rattle.recovery_laws.proofs.Holds.Listed.{file_named, folder_listed}
use Rattle.recovery_laws.proofs.Holds.Entries.{below_less, landed_below}
use Rattle.recovery_laws.proofs.Holds.Waiting.{Bounded, Waits, bounded_lasts, one_room, one_tree, waits_lasts}

-- ---- what follows a hold

safe_release : {R : Type 0} (caller holder : ℕ) (outcome : Result R Stuck) (state : State) → IsFine state → IsSafe IsStep Permits caller (asking (lets_go holder outcome)) state
safe_release caller holder outcome = safe_free caller (Release holder) (λ reply. done (released outcome reply)) (tt, tt) (λ reply after fine. tt)

safe_marks : (caller size holder top : ℕ) (state : State) → Permits state caller (unbroken (Mark holder size top)) → IsSafe IsStep Permits caller (asking (marks size holder top)) state
safe_marks caller size holder top =
    safe_ask caller (λ state. Permits state caller (unbroken (Mark holder size top))) (Mark holder size top) (λ reply. lets_go holder (marked reply)) (may_lasts caller (unbroken (Mark holder size top))) (λ state m. m)
    (λ state reply after m may step. safe_release caller holder (marked reply) after (step_fine state after caller (unbroken (Mark holder size top)) reply may.1 step may.0))

-- a look of one's own leaves what a look of another leaves
own_look : (caller : ℕ) (fact : State → Type 0) → LastsOne caller fact → (old new : State) (room : ℕ) (look : Sight) (reply : Reply) → IsFine old → IsStep old caller (unbroken (Look room look)) reply new → fact old → fact new
own_look caller fact one old new room look reply fine step =
    let apart : suc caller ≢ caller = λ e. absurd (omega (arith, e)) in
    one old new (suc caller) (unbroken (Look room look)) reply apart (may_free old (suc caller) (Look room look) (tt, tt) fine) (record { does = step.does })

named : (reply : Reply) (names : List Name) → names_in reply ≡ Some names → reply ≡ Looked (Names names)
named (Looked (Names listed)) names e = let same : listed ≡ names = cc in ap (λ n. Looked (Names n)) same
named reply names e = absurd cc

-- what a listing told came of its names
names_told : (folder : Name) (tells : List Name → Result ℕ Stuck) (reply : Reply) (top : ℕ) → told_by folder tells reply ≡ Ok top → (names : List Name) × (reply ≡ Looked (Names names)) × (tells names ≡ Ok top)
names_told folder tells reply top h =
    let w = went_on (names_in reply) (trouble (file_in folder []) reply) tells top h in
    (w.0, named reply w.0 w.1, w.2)

cases_Result : {A : Type 0} (r : Result A Stuck) → ((a : A) × (r ≡ Ok a)) ⊎ ((why : Stuck) × (r ≡ Err why))
cases_Result (Ok a) = inl (a, refl)
cases_Result (Err why) = inr (why, refl)

module _ (caller room holder : ℕ) where
  -- what was listed of the truncates bounds all stamps, where the metadata bounded the entries
  owed_now : (least top size : ℕ) (now after : State) (reply : Reply) → Bounded caller room holder least now → IsStep now caller (unbroken (Look room (ListFolder truncs))) reply after
      → told_by truncs (λ names. truncs_top names least) reply ≡ Ok top → Permits now caller (unbroken (Mark holder size top))
  owed_now least top size now after reply b step h = (
    b.waits.fine,
    record {
      numbers = tt;
      owes = λ clean hold e tree r told there.
          let is : IsHolding caller holder now.table.holders hold = is_holding caller holder now.table.holders hold e in
          let t = names_told truncs (λ names. truncs_top names least) reply top h in
          let k = b.known clean in
          let lists : ListsFolder tree room truncs t.0 = folder_listed now tree caller room truncs t.0 after told (subst (λ x. IsStep now caller (unbroken (Look room (ListFolder truncs))) x after) t.1 step) in
          let same : lists.room ≡ r = one_room lists.room r (slice_get tree.rooms room) lists.has_room (ap (λ n. slice_get tree.rooms n) (sym (b.waits.holds hold is)) ∙ there) in
          let entries : AreNamesOf r truncs t.0 = subst (λ x. AreNamesOf x truncs t.0) same lists.entries in
          let truncates : (stamp z : ℕ) (content : List ℕ) → HasItem r (Trunc stamp z) content → stamp ≤ top = λ stamp z content has.
          truncs_has t.0 least top (trunc_path stamp z).file (record { stamp = stamp; size = z }) t.2 (file_named r truncs (trunc_path stamp z).file t.0 content entries has.there)
          (trunc_in-is (trunc_path stamp z).file stamp z (record { is_item = has.is_item; printed = refl })) in
          let older : IsTop r (max least k.0) = k.1 hold e tree r told there in
          let above : least ≤ top = truncs_above t.0 least top t.2 in
          let last : k.0 ≤ top = elim (k.2 hold is tree r told there) as (λ _. k.0 ≤ top) [ inl none ↦ omega (arith, none) | inr x ↦ truncates k.0 x.0 x.1 x.2 ] in
          record {
            truncates = truncates;
            entries = λ host writer content item. below_less (max least k.0) top (landed_entries r host writer) (omega (arith, above, last)) (older.entries host writer content item);
          };
    },
  )

  -- what was listed of the metadata bounds the entries
  bounded_now : (top : ℕ) (now after : State) (reply : Reply) → Waits caller room holder now → IsStep now caller (unbroken (Look room (ListFolder metadata))) reply after
      → told_by metadata (λ names. metadata_top names 0) reply ≡ Ok top → Bounded caller room holder top now
  bounded_now top now after reply w step h = record {
    waits = w;
    known = λ clean.
        let s : IsSound now = w.fine.sound clean in
        let t = names_told metadata (λ names. metadata_top names 0) reply top h in
        let lists : ListsFolder s.1.shape.tree room metadata t.0 = folder_listed now s.1.shape.tree caller room metadata t.0 after s.1.shape.told (subst (λ x. IsStep now caller (unbroken (Look room (ListFolder metadata))) x after) t.1 step) in
        let last : ℕ = greatest_in lists.room in (
          last,
          (λ hold e tree r told there.
              let is : IsHolding caller holder now.table.holders hold = is_holding caller holder now.table.holders hold e in
              let trees : tree ≡ s.1.shape.tree = one_tree tree s.1.shape.tree now.store.tree told s.1.shape.told in
              let here : slice_get s.1.shape.tree.rooms hold.room ≡ Some r = ap (λ (x : Tree). slice_get x.rooms hold.room) (sym trees) ∙ there in
              let same : lists.room ≡ r = one_room lists.room r (slice_get s.1.shape.tree.rooms room) lists.has_room (ap (λ n. slice_get s.1.shape.tree.rooms n) (sym (w.holds hold is)) ∙ here) in
              let entries : AreNamesOf r metadata t.0 = subst (λ x. AreNamesOf x metadata t.0) same lists.entries in
              let metas : (end bytes stamp host writer : ℕ) (content : List ℕ) → HasItem r (Meta end bytes stamp host writer) content → stamp ≤ top = λ end bytes stamp host writer content has.
              metadata_has t.0 0 top (meta_path end bytes stamp host writer).file (record { last = end; bytes = bytes; stamp = stamp; host = host; writer = writer }) t.2
              (file_named r metadata (meta_path end bytes stamp host writer).file t.0 content entries has.there)
              (meta_in-is (meta_path end bytes stamp host writer).file end bytes stamp host writer (record { is_item = has.is_item; printed = refl })) in
              record {
                truncates = λ stamp size content has. let under : stamp ≤ greatest_in r = greatest_above r stamp size content has in let e : last ≡ greatest_in r = ap greatest_in same in omega (arith, under, e);
                entries = λ host writer content item. below_less top (max top last) (landed_entries r host writer) (omega arith) (landed_below s.0 now s.1 holder hold is.found r here top metas host writer content item);
              }),
          λ hold is tree r told there.
              let trees : tree ≡ s.1.shape.tree = one_tree tree s.1.shape.tree now.store.tree told s.1.shape.told in
              let here : slice_get s.1.shape.tree.rooms hold.room ≡ Some r = ap (λ (x : Tree). slice_get x.rooms hold.room) (sym trees) ∙ there in
              let same : lists.room ≡ r = one_room lists.room r (slice_get s.1.shape.tree.rooms room) lists.has_room (ap (λ n. slice_get s.1.shape.tree.rooms n) (sym (w.holds hold is)) ∙ here) in
              subst (Stands last) same (greatest_stands lists.room),
        );
  }

  safe_truncs : (size least : ℕ) (state : State) → Bounded caller room holder least state → IsSafe IsStep Permits caller (asking (lists_truncs size room holder least)) state
  safe_truncs size least =
      let look : Sight = ListFolder truncs in
      safe_ask caller (Bounded caller room holder least) (Look room look) (λ reply. or_lets_go holder (marks size holder) (told_by truncs (λ names. truncs_top names least) reply)) (bounded_lasts caller room holder least)
      (λ state b. may_free state caller (Look room look) (tt, tt) b.waits.fine)
      (λ state reply after b may step.
      let P : Result ℕ Stuck → Type 0 = λ r. IsSafe IsStep Permits caller (asking (or_lets_go holder (marks size holder) r)) after in
      elim (cases_Result (told_by truncs (λ names. truncs_top names least) reply)) as (λ _. P (told_by truncs (λ names. truncs_top names least) reply)) [
        | inl ok ↦ subst P (sym ok.1) (safe_marks caller size holder ok.0 after
            (own_look caller (λ x. Permits x caller (unbroken (Mark holder size ok.0))) (may_lasts caller (unbroken (Mark holder size ok.0))) state after room look reply b.waits.fine step (owed_now least ok.0 size state after reply b step ok.1)))
        | inr err ↦ subst P (sym err.1) (safe_release {R = ℕ} caller holder (Err err.0) after (step_fine state after caller (unbroken (Look room look)) reply may.1 step may.0))
      ])

  safe_metadata : (size : ℕ) (state : State) → Waits caller room holder state → IsSafe IsStep Permits caller (asking (lists_metadata size room holder)) state
  safe_metadata size =
      let look : Sight = ListFolder metadata in
      safe_ask caller (Waits caller room holder) (Look room look) (λ reply. or_lets_go holder (lists_truncs size room holder) (told_by metadata (λ names. metadata_top names 0) reply)) (waits_lasts caller room holder)
      (λ state w. may_free state caller (Look room look) (tt, tt) w.fine)
      (λ state reply after w may step.
      let P : Result ℕ Stuck → Type 0 = λ r. IsSafe IsStep Permits caller (asking (or_lets_go holder (lists_truncs size room holder) r)) after in
      elim (cases_Result (told_by metadata (λ names. metadata_top names 0) reply)) as (λ _. P (told_by metadata (λ names. metadata_top names 0) reply)) [
        | inl ok ↦ subst P (sym ok.1) (safe_truncs size ok.0 after
            (own_look caller (Bounded caller room holder ok.0) (bounded_lasts caller room holder ok.0) state after room look reply w.fine step (bounded_now ok.0 state after reply w step ok.1)))
        | inr err ↦ subst P (sym err.1) (safe_release {R = ℕ} caller holder (Err err.0) after (step_fine state after caller (unbroken (Look room look)) reply may.1 step may.0))
      ])

-- ---- a hold

not_held : (folder file : Name) (told : Told) (holder : ℕ) → Holding holder ≡ otherwise folder file told → ⊥
not_held folder file (Ok NoRoom) holder e = absurd cc
not_held folder file (Ok NoFolder) holder e = absurd cc
not_held folder file (Ok answer) holder e = absurd cc
not_held folder file (Err trouble_of.Fault) holder e = absurd cc
not_held folder file (Err trouble_of.NoMemory) holder e = absurd cc

pushed : (h : Holder) (table : Table) (told : Told) (holder : ℕ) (after : Table) → HoldOutcome h table told (Holding holder) after → (holder ≡ h.number) × (after.holders ≡ table.holders ++ h ∷ [])
pushed h table (Ok Made) holder after o = (let e : Holding holder ≡ Holding h.number = o.0 in cc, ap (λ (t : Table). t.holders) o.1)
pushed h table (Ok NoFolder) holder after o = absurd (let e : Holding holder ≡ Refused Held = o.0 in cc)
pushed h table (Ok (NotEmpty least)) holder after o = absurd (elim o.0 as (λ _. ⊥) [
  | inl busy ↦ (let e : Holding holder ≡ Refused (Busy busy.0 busy.1) = busy.3 in cc)
  | inr other ↦ (let e : Holding holder ≡ Damaged openhosts least = other.1 in cc)
])
pushed h table told holder after o = absurd (not_held openhosts [] told holder o.0)

waits_now : (caller room holder : ℕ) (old new : State) → IsFine old → IsFine new → IsStep old caller (unbroken (Hold room)) (Holding holder) new → Waits caller room holder new
waits_now caller room holder old new fine fine_now step = record {
  fine = fine_now;
  holds = λ h is.
      elim (match_cases (draw_check old room) (HoldsRoom caller room old (Holding holder) new) (λ why. Refuses why old (Holding holder) new) step.does) as (λ _. h.room ≡ room) [
        | inr (why, some, refused) ↦ absurd (let e : Holding holder ≡ Refused why = refused.0 in cc)
        | inl (none, does) ↦
            (let p = pushed (holding old caller room) old.table does.told holder new.table does.outcome in
            let found : holder_at holder (old.table.holders ++ holding old caller room ∷ []) ≡ Some h = ap (λ hs. holder_at holder hs) (sym p.1) ∙ is.found in
            elim (held_before-push old.table.holders (holding old caller room) holder h found) as (λ _. h.room ≡ room) [
              | inr new_one ↦ ap (λ (x : Holder). x.room) new_one.1
              | inl old_one ↦ absurd (let none : holder_at (next_id old) old.table.holders ≡ None = next_not_held old.mount old.serial old.marks old.table.holders fine.regular.holders in
                  let some : holder_at (next_id old) old.table.holders ≡ Some h = ap (λ n. holder_at n old.table.holders) (sym p.0) ∙ old_one in cc)
            ])
      ];
}

held_by : (reply : Reply) (holder : ℕ) → holder_in reply ≡ Some holder → reply ≡ Holding holder
held_by (Holding number) holder e = let same : number ≡ holder = cc in ap Holding same
held_by reply holder e = absurd cc

-- ---- the whole

pub safe_truncate : (caller : ℕ) (name : List ℕ) (size : ℕ) (state : State) → IsFine state → IsSafe IsStep Permits caller (asking (truncate_program name size)) state
safe_truncate caller name size =
    safe_free caller (Find name) (λ reply. given (room_in reply) (failure reply) (λ room. holds room (lists_metadata size room))) (tt, tt)
    (λ reply after fine.
    elim (cases_Option (room_in reply)) as (λ _. IsSafe IsStep Permits caller (asking (given (room_in reply) (failure reply) (λ room. holds room (lists_metadata size room)))) after) [
      | inl none ↦ subst (λ o. IsSafe IsStep Permits caller (asking (given o (failure reply) (λ room. holds room (lists_metadata size room)))) after) (sym none) tt
      | inr some ↦ subst (λ o. IsSafe IsStep Permits caller (asking (given o (failure reply) (λ room. holds room (lists_metadata size room)))) after) (sym some.1) (safe_holds some.0 after fine)
    ])
  where
    safe_holds : (room : ℕ) (state : State) → IsFine state → IsSafe IsStep Permits caller (asking (holds room (lists_metadata size room))) state
    safe_holds room =
        safe_ask caller IsFine (Hold room) (λ reply. given (holder_in reply) (failure reply) (lists_metadata size room)) (fine_lasts caller) (λ state fine. may_free state caller (Hold room) (tt, tt) fine)
        (λ state reply after fine may step.
        let P : Option ℕ → Type 0 = λ o. IsSafe IsStep Permits caller (asking (given o (failure reply) (lists_metadata size room))) after in
        let later : IsFine after = step_fine state after caller (unbroken (Hold room)) reply may.1 step fine in
        elim (cases_Option (holder_in reply)) as (λ _. P (holder_in reply)) [
          | inl none ↦ subst P (sym none) tt
          | inr some ↦ subst P (sym some.1) (safe_metadata caller room some.0 size after
              (waits_now caller room some.0 state after fine later (subst (λ r. IsStep state caller (unbroken (Hold room)) r after) (held_by reply some.0 some.1) step)))
        ])

pub safe_rename : (caller : ℕ) (name to : List ℕ) (state : State) → IsFine state → IsSafe IsStep Permits caller (asking (rename_program name to)) state
safe_rename caller name to =
    safe_free caller (Find name) (λ reply. given (room_in reply) (failure reply) (λ room. holds room (moves to))) (tt, tt)
    (λ reply after fine.
    let P : Option ℕ → Type 0 = λ o. IsSafe IsStep Permits caller (asking (given o (failure reply) (λ room. holds room (moves to)))) after in
    elim (cases_Option (room_in reply)) as (λ _. P (room_in reply)) [
      | inl none ↦ subst P (sym none) tt
      | inr some ↦ subst P (sym some.1) (safe_holds some.0 after fine)
    ])
  where
    safe_moves : (holder : ℕ) (state : State) → IsFine state → IsSafe IsStep Permits caller (asking (moves to holder)) state
    safe_moves holder = safe_free caller (Move holder to) (λ reply. lets_go holder (moved reply)) (tt, tt) (λ reply after fine. safe_release caller holder (moved reply) after fine)

    safe_holds : (room : ℕ) (state : State) → IsFine state → IsSafe IsStep Permits caller (asking (holds room (moves to))) state
    safe_holds room =
        safe_free caller (Hold room) (λ reply. given (holder_in reply) (failure reply) (moves to)) (tt, tt)
        (λ reply after fine.
        let P : Option ℕ → Type 0 = λ o. IsSafe IsStep Permits caller (asking (given o (failure reply) (moves to))) after in
        elim (cases_Option (holder_in reply)) as (λ _. P (holder_in reply)) [
          | inl none ↦ subst P (sym none) tt
          | inr some ↦ subst P (sym some.1) (safe_moves some.0 after fine)
        ])

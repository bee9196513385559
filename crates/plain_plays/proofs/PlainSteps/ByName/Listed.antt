-- A listing of a folder that each container has names what stands there, and each name is known.
use Rattle.std.proofs.Common.{◌≡◌, ℕ, true, false, nat_eq, List, [], get_or, Some, None, Ok, Err, refl, sym, ap, ◌∙◌, inl, inr, subst, arith, if◌then◌else◌}
use Rattle.std.specs.Prelude.{slice_get}
use Rattle.std.proofs.lemmas.Bool.Decides.{nat_tests}
use Rattle.plfs_types.specs.declared.entries.Trunc.{Trunc}
use Rattle.plfs_types.specs.declared.names.Path.{Path}
use Rattle.plain_file.proofs.Facts.{Among}
use Rattle.container_layout.specs.declared.items.Item.{Item}
use Rattle.container_layout.specs.declared.items.Item.TheVariants as item
use Rattle.container_layout.specs.Paths.{IsAt, IsIn, path_of}
use Rattle.container_layout.proofs.Facts.{elsewhere}
use Rattle.store_api.specs.declared.step.Answer.TheVariants as answer
use Rattle.store_api.specs.declared.store.Trouble.TheVariants as trouble
use Rattle.store_api.specs.declared.tree.Room.{Room}
use Rattle.store_api.specs.declared.tree.Tree.{Tree}
use Rattle.store_api.specs.Room.{has_folder}
use Rattle.store_laws.specs.Files.{file_at}
use Rattle.store_laws.specs.Says.{ListTells}
use Rattle.store_laws.specs.Tells.{Tells}
use Rattle.store_laws.specs.There.{ListsFolder}
use Rattle.store_laws.proofs.Facts.{acts_told, list_tells, look_answered}
use Rattle.mount_model.specs.declared.call.Call.TheVariants.{Look}
use Rattle.mount_model.specs.declared.call.Look.TheVariants.{List as ListFolder}
use Rattle.mount_model.specs.declared.reply.Refusal.{Refusal}
use Rattle.mount_model.specs.declared.reply.Refusal.TheVariants as refusal
use Rattle.mount_model.specs.declared.reply.Reply.{Reply}
use Rattle.mount_model.specs.declared.reply.Reply.TheVariants.{Looked, Refused}
use Rattle.mount_model.specs.Looking.{listing_reply, look_outcome, look_step}
use Rattle.mount_model.specs.Making.{MakesAct, Refuses, Told, room_check}
use Rattle.mount_model.specs.Paths.{Name, access_path, metadata, truncs}
use Rattle.store_api.specs.Names.{marks_folder}
use Rattle.mount_model.specs.State.{State}
use Rattle.mount_model.specs.Step.{Answers}
use Rattle.mount_model.proofs.Facts.{match_cases}
use Rattle.mount_model.specs.declared.names.Metadata.{Metadata}
use Rattle.mount_model.specs.Names.{meta_in, trunc_in}
use Rattle.mount_model.proofs.Flows.Facts.{meta_in-is, trunc_in-is}
use Rattle.reader_laws.specs.Moments.{IsSoundAt, Moment}
use Rattle.reader_laws.proofs.Gathered.Containers.Entries.{named_file}
use Rattle.recovery_laws.proofs.Holds.Facts.{folder_listed}
use Rattle.refusal_laws.specs.Reasons.{IsChecked}
use Rattle.plain_plays.proofs.PlainSteps.Entering.{IsContainerAt, has_room, its_room, not_marks}
use Rattle.plain_plays.proofs.PlainSteps.Reaching.{IsServed}

first_byte : (a b : Name) → a ≡ b → get_or a 0 0 ≡ get_or b 0 0
first_byte a b e = ap (λ (n : Name). get_or n 0 0) e

no_folder : (folder : Name) (told : Told) → Looked answer.NoFolder ≡ listing_reply folder told → told ≡ Ok answer.NoFolder
no_folder folder (Ok answer.NoFolder) e = refl
no_folder folder (Ok (answer.Names names)) e = absurd (cc)
no_folder folder (Ok answer.NoRoom) e = absurd (cc)
no_folder folder (Ok other) e = absurd (cc)
no_folder folder (Err trouble.Fault) e = absurd (cc)
no_folder folder (Err trouble.NoMemory) e = absurd (cc)

meta_item : (it : Item) → (path_of it).folder ≡ metadata → (last bytes stamp host writer : ℕ) × (it ≡ item.Meta last bytes stamp host writer)
meta_item (item.Meta last bytes stamp host writer) e = (last, bytes, stamp, host, writer, refl)
meta_item other e = elsewhere (first_byte _ _ e) refl

trunc_item : (it : Item) → (path_of it).folder ≡ truncs → (stamp size : ℕ) × (it ≡ item.Trunc stamp size)
trunc_item (item.Trunc stamp size) e = (stamp, size, refl)
trunc_item other e = elsewhere (first_byte _ _ e) refl

-- A container, with two of its folders, in which each file is an item's.
pub record IsPlainContainer (r : Room) : Type 0 where
  pub has_metadata : has_folder r metadata ≡ true
  pub has_truncs : has_folder r truncs ≡ true
  pub items : (path : Path) (bytes : List ℕ) → file_at r path ≡ Some bytes → (i : Item) × IsAt path i

-- names of a folder that was listed
pub record AreListed (tree : Tree) (n : ℕ) (folder : Name) (reply : Reply) : Type 0 where
  pub names : List Name
  pub told : reply ≡ Looked (answer.Names names)
  pub lists : ListsFolder tree n folder names
  pub container : IsPlainContainer lists.room

module _ (m : Moment) (s : IsSoundAt m) (n : ℕ) (had : IsContainerAt n m) where
  container_there : (r : Room) → slice_get s.shape.tree.rooms n ≡ Some r → IsPlainContainer r
  container_there r there = elim (s.shape.shaped.rooms n r there) as (λ _. IsPlainContainer r) [
    | inl marks ↦
        let own = its_room m s n had in
        let one : own.0 ≡ r = (let both : Some own.0 ≡ Some r = sym own.1 ∙ there in cc) in
        let mark = marks.files access_path had.bytes (subst (λ x. file_at x access_path ≡ Some had.bytes) one own.2) in
        absurd (no_mark (ap (λ (p : Path). p.folder) mark.3))
    | inr c ↦ record { has_metadata = c.has_metadata; has_truncs = c.has_truncs; items = λ path bytes at. let f = c.files path bytes at in (f.item, f.is_at) }
  ]
    where
      no_mark : [] ≡ marks_folder → ⊥
      no_mark clash = elsewhere (first_byte _ _ clash) refl

  module _ (me : ℕ) (folder : Name) (has : (r : Room) → IsPlainContainer r → has_folder r folder ≡ true) (reply : Reply) (after : State) (a : Answers m.state me (Look n (ListFolder folder)) reply after) where
    missing : reply ≡ Looked answer.NoFolder → ⊥
    missing is =
        let x = subst (λ y. Answers m.state me (Look n (ListFolder folder)) y after) is a in
        elim (match_cases (room_check m.state n) (MakesAct (look_step n (ListFolder folder)) (look_outcome (ListFolder folder) m.state) m.state (Looked answer.NoFolder) after) (λ why. Refuses why m.state (Looked answer.NoFolder) after) x) as (λ _. ⊥) [
          | inr (why, some, refused) ↦ (let e : Looked answer.NoFolder ≡ Refused why = refused.0 in cc)
          | inl (none, does) ↦
              let told = no_folder folder does.told does.answered in
              let t = acts_told (look_step n (ListFolder folder)) m.state.store after.store s.shape.tree does.told s.shape.told does.made in
              let lacks = (look_answered (look_step n (ListFolder folder)) s.shape.tree (ListTells s.shape.tree n folder) (list_tells s.shape.tree n folder) answer.NoFolder t.0 (subst (λ o. Tells (look_step n (ListFolder folder)) s.shape.tree o t.0) told t.2)).1 in
              let clash : true ≡ false = sym (has lacks.room (container_there lacks.room lacks.has_room)) ∙ lacks.none in
              (let bad : true ≡ false = clash in cc)
        ]

    pub folder_names : IsServed me m.state (Look n (ListFolder folder)) reply → AreListed s.shape.tree n folder reply
    folder_names served = elim served as (λ _. AreListed s.shape.tree n folder reply) [
      | inl (found, may, told) ↦ elim may as (λ _. AreListed s.shape.tree n folder reply) [
        | inl (names, is) ↦
            let shown : reply ≡ Looked (answer.Names names) = told ∙ ap Looked is in
            let l = folder_listed m.state s.shape.tree me n folder names after s.shape.told (record { does = subst (λ y. Answers m.state me (Look n (ListFolder folder)) y after) shown a }) in
            record { names = names; told = shown; lists = l; container = container_there l.room l.has_room }
        | inr is ↦ absurd (missing (told ∙ ap Looked is))
      ]
      | inr (why, told, reason) ↦ absurd (elim reason as (λ _. ⊥) [
        | inl check ↦ checked why check
        | inr lacks ↦ has_room m s n had (lacks.1 s.shape.tree s.shape.told)
      ])
    ]
      where
        checked : (why : Refusal) → IsChecked (room_check m.state n) why → ⊥
        checked why check =
            let apart : nat_eq n m.state.marks ≡ false = let other : n ≡ m.state.marks → ⊥ = not_marks m s n had in grind (arith, nat_tests) in
            let clash : None ≡ Some why = sym (ap (λ b. if b then Some refusal.NoRoom else None) apart) ∙ check in
            (let bad : None ≡ Some why = clash in cc)

-- ---- each name is known

module _ {tree : Tree} {n : ℕ} {reply : Reply} where
  pub metas_known : (l : AreListed tree n metadata reply) (name : Name) → Among name l.names → (x : Metadata) × (meta_in name ≡ Some x)
  metas_known l name a =
      let f = named_file l.lists.room metadata name l.names refl l.lists.entries a in
      let i = l.container.items (record { folder = metadata; file = name }) f.0 f.1 in
      let x = meta_item i.0 (sym (ap (λ (p : Path). p.folder) i.1.printed)) in
      let is : IsIn metadata name (item.Meta x.0 x.1 x.2 x.3 x.4) = subst (IsIn metadata name) x.5 i.1 in
      (record { last = x.0; bytes = x.1; stamp = x.2; host = x.3; writer = x.4 }, meta_in-is name x.0 x.1 x.2 x.3 x.4 is)

  pub truncs_known : (l : AreListed tree n truncs reply) (name : Name) → Among name l.names → (x : Trunc) × (trunc_in name ≡ Some x)
  truncs_known l name a =
      let f = named_file l.lists.room truncs name l.names refl l.lists.entries a in
      let i = l.container.items (record { folder = truncs; file = name }) f.0 f.1 in
      let x = trunc_item i.0 (sym (ap (λ (p : Path). p.folder) i.1.printed)) in
      (record { stamp = x.0; size = x.1 }, trunc_in-is name x.0 x.1 (subst (IsIn truncs name) x.2 i.1))

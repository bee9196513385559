-- The greatest stamp of a container's metadata and truncates, as the listings of them tell it.
use Rattle.std.proofs.Common.{◌≡◌, inl, inr, ℕ, false, List, [], ◌∷◌, max, Option, Some, None, Result, Ok, Err, refl, sym, ap, ◌∙◌, subst, arith}
use Rattle.std.proofs.lemmas.Bool.{cases_lt}
use Rattle.plfs_types.specs.declared.entries.Trunc.{Trunc}
use Rattle.plfs_types.specs.declared.names.Path.{Path}
use Rattle.plain_file.proofs.Facts.{Among}
use Rattle.container_layout.specs.declared.items.Item.{Item}
use Rattle.container_layout.specs.declared.items.Item.TheVariants as item
use Rattle.container_layout.specs.Paths.{IsIn, path_of}
use Rattle.store_api.specs.Room.{is_top}
use Rattle.store_laws.specs.Files.{file_at}
use Rattle.store_laws.specs.There.{ListsFolder}
use Rattle.mount_model.specs.declared.call.Call.TheVariants.{Look}
use Rattle.mount_model.specs.declared.call.Look.TheVariants.{List as ListFolder}
use Rattle.mount_model.specs.declared.names.Metadata.{Metadata}
use Rattle.mount_model.specs.declared.reply.Reply.{Reply}
use Rattle.mount_model.specs.declared.reply.Reply.TheVariants.{Looked}
use Rattle.mount_model.specs.declared.stuck.Stuck.{Stuck}
use Rattle.mount_model.specs.FlowListed.{file_in, known, or_trouble, told_by}
use Rattle.mount_model.specs.FlowReplies.{damage, names_in, trouble}
use Rattle.mount_model.specs.History.{Event}
use Rattle.mount_model.specs.Names.{meta_in, trunc_in}
use Rattle.mount_model.specs.Paths.{Name, metadata, truncs}
use Rattle.mount_model.specs.Running.{unbroken}
use Rattle.mount_model.specs.State.{State}
use Rattle.mount_model.specs.Step.{Answers, IsStep}
use Rattle.mount_model.proofs.Flows.Facts.{meta_in-found, trunc_in-found}
use Rattle.mount_sound.specs.Owed.{IsLawful}
use Rattle.store_api.specs.declared.step.Answer.TheVariants.{Names}
use Rattle.trunc_rename.specs.Tops.{metadata_top, truncs_top}
use Rattle.reader_laws.specs.Moments.{HadItem, IsSoundAt, Moment, file_in_room, file_told, moment_after}
use Rattle.reader_laws.proofs.Gathered.Facts.{folder_listed, grows_after, named_file}
use Rattle.reader_laws.proofs.Facts.{answered}
use Rattle.headline_laws.specs.Changing.{IsTopIn}

-- ---- of two stamps the greater one

greater : (m : Moment) (room a b : ℕ) → IsTopIn m room a → IsTopIn m room b → IsTopIn m room (max a b)
greater m room a b x y = elim (cases_lt a b) as (λ _. IsTopIn m room (max a b)) [
  | inl less ↦ let is : max a b ≡ b = omega arith in subst (IsTopIn m room) (sym is) y
  | inr most ↦ let is : max a b ≡ a = omega arith in subst (IsTopIn m room) (sym is) x
]

same_top : (a b : ℕ) → ◌≡◌ {A = Result ℕ Stuck} (Ok a) (Ok b) → a ≡ b
same_top a b is = cc

not_top : (why : Stuck) (b : ℕ) → ◌≡◌ {A = Result ℕ Stuck} (Err why) (Ok b) → ⊥
not_top why b is = cc

-- ---- of names

truncs_topped : (m : Moment) (room : ℕ) (names : List Name) (top last : ℕ) → ((name : Name) (t : Trunc) → Among name names → trunc_in name ≡ Some t → IsTopIn m room t.stamp) → IsTopIn m room top → truncs_top names top ≡ Ok last → IsTopIn m room last
truncs_topped m room [] top last each stood is = subst (IsTopIn m room) (same_top top last is) stood
truncs_topped m room (name ∷ names) top last each stood is = by (trunc_in name) refl is (λ next from goes. truncs_topped m room names next last (λ x u at. each x u (inr at)) from goes)
  where
    by : (o : Option Trunc) → trunc_in name ≡ o → known truncs name o (λ (t : Trunc). truncs_top names (max top t.stamp)) ≡ Ok last → ((next : ℕ) → IsTopIn m room next → truncs_top names next ≡ Ok last → IsTopIn m room last) → IsTopIn m room last
    by None e over on = absurd (not_top (damage (file_in truncs name) 0) last over)
    by (Some t) e goes on = on (max top t.stamp) (greater m room top t.stamp stood (each name t (inl refl) e)) goes

metas_topped : (m : Moment) (room : ℕ) (names : List Name) (top last : ℕ) → ((name : Name) (x : Metadata) → Among name names → meta_in name ≡ Some x → IsTopIn m room x.stamp) → IsTopIn m room top → metadata_top names top ≡ Ok last → IsTopIn m room last
metas_topped m room [] top last each stood is = subst (IsTopIn m room) (same_top top last is) stood
metas_topped m room (name ∷ names) top last each stood is = by (meta_in name) refl is (λ next from goes. metas_topped m room names next last (λ y u at. each y u (inr at)) from goes)
  where
    by : (o : Option Metadata) → meta_in name ≡ o → known metadata name o (λ (x : Metadata). metadata_top names (max top x.stamp)) ≡ Ok last → ((next : ℕ) → IsTopIn m room next → metadata_top names next ≡ Ok last → IsTopIn m room last) → IsTopIn m room last
    by None e over on = absurd (not_top (damage (file_in metadata name) 0) last over)
    by (Some x) e goes on = on (max top x.stamp) (greater m room top x.stamp stood (each name x (inl refl) e)) goes

-- ---- of a listing

-- a listed name is that of an item that stood
listed_stood : (m : Moment) (s : IsSoundAt m) (room : ℕ) (folder : Name) (names : List Name) → is_top folder ≡ false → ListsFolder s.shape.tree room folder names → (name : Name) → Among name names → (it : Item) → IsIn folder name it → HadItem m room it
listed_stood m s room folder names below l name at it is =
    let file = named_file l.room folder name names below l.entries at in
    record {
      is_item = is.is_item;
      bytes = file.0;
      there = ap (λ o. file_told o room (path_of it)) s.shape.told ∙ ap (λ r. file_in_room r (path_of it)) l.has_room ∙ subst (λ (p : Path). file_at l.room p ≡ Some file.0) is.printed file.1;
    }

names_looked : (reply : Reply) (names : List Name) → names_in reply ≡ Some names → reply ≡ Looked (Names names)
names_looked (Looked (Names others)) names is = (let same : others ≡ names = cc in ap (λ ns. Looked (Names ns)) same)
names_looked reply names is = absurd (cc)

-- what it tells is of some names
record ToldBy (tells : List Name → Result ℕ Stuck) (reply : Reply) (last : ℕ) : Type 0 where
  pub names : List Name
  pub looked : reply ≡ Looked (Names names)
  pub is : tells names ≡ Ok last

told_names : (folder : Name) (tells : List Name → Result ℕ Stuck) (reply : Reply) (last : ℕ) → told_by folder tells reply ≡ Ok last → ToldBy tells reply last
told_names folder tells reply last is = by (names_in reply) refl is
  where
    by : (o : Option (List Name)) → names_in reply ≡ o → or_trouble o (trouble (file_in folder []) reply) tells ≡ Ok last → ToldBy tells reply last
    by None e over = absurd (not_top (trouble (file_in folder []) reply) last over)
    by (Some names) e goes = record { names = names; looked = names_looked reply names e; is = goes }

module _ (m : Moment) (s : IsSoundAt m) (n room : ℕ) (folder : Name) (reply : Reply) (after : State) (step : IsStep m.state n (unbroken (Look room (ListFolder folder))) reply after) where
  lists_so : (names : List Name) → reply ≡ Looked (Names names) → ListsFolder s.shape.tree room folder names
  lists_so names is =
      folder_listed m s n room folder names after
      (subst (λ r. Answers m.state n (Look room (ListFolder folder)) r after) is (answered m.state n (Look room (ListFolder folder)) (unbroken (Look room (ListFolder folder))) reply after refl step))

below_truncs : is_top truncs ≡ false
below_truncs = refl

below_metadata : is_top metadata ≡ false
below_metadata = refl

pub truncs_told : (m : Moment) (s : IsSoundAt m) (n room : ℕ) (reply : Reply) (after : State) (top last : ℕ) → IsStep m.state n (unbroken (Look room (ListFolder truncs))) reply after → told_by truncs (λ names. truncs_top names top) reply ≡ Ok last → IsTopIn m room top → IsTopIn m room last
truncs_told m s n room reply after top last step is stood =
    let t = told_names truncs (λ names. truncs_top names top) reply last is in
    let l = lists_so m s n room truncs reply after step t.names t.looked in
    truncs_topped m room t.names top last (λ name x at found. inr (inl (x.size, listed_stood m s room truncs t.names below_truncs l name at (item.Trunc x.stamp x.size) (trunc_in-found name x found)))) stood t.is

pub metas_told : (m : Moment) (s : IsSoundAt m) (n room : ℕ) (reply : Reply) (after : State) (last : ℕ) → IsStep m.state n (unbroken (Look room (ListFolder metadata))) reply after → told_by metadata (λ names. metadata_top names 0) reply ≡ Ok last → IsTopIn m room last
metas_told m s n room reply after last step is =
    let t = told_names metadata (λ names. metadata_top names 0) reply last is in
    let l = lists_so m s n room metadata reply after step t.names t.looked in
    metas_topped m room t.names 0 last (λ name x at found. inr (inr (x.last, x.bytes, x.host, x.writer, listed_stood m s room metadata t.names below_metadata l name at (item.Meta x.last x.bytes x.stamp x.host x.writer) (meta_in-found name x found)))) (inl refl) t.is

-- ---- later

pub top_later : (m : Moment) (events : List Event) (room top : ℕ) → IsLawful m.state events → IsSoundAt m → IsTopIn m room top → IsTopIn (moment_after m events) room top
top_later m events room top lawful s (inl zero_is) = inl zero_is
top_later m events room top lawful s (inr (inl (size, had))) = inr (inl (size, (grows_after m events lawful s).stands room (item.Trunc top size) tt had))
top_later m events room top lawful s (inr (inr (last, bytes, host, writer, had))) = inr (inr (last, bytes, host, writer, (grows_after m events lawful s).stands room (item.Meta last bytes top host writer) tt had))

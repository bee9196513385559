-- What has landed in a sound mount was issued.
use Rattle.std.proofs.Common.{◌≡◌, ◌≤◌, ◌<◌, ◌+◌, ◌*◌, ◌/◌, ℕ, List, ◌++◌, length, min, take, Some, ap, refl, sym, ◌∙◌, inl, inr, subst, arith, length-append}
use Rattle.std.specs.Prelude.{slice_get, MatchOption}
use Rattle.std.proofs.lemmas.List.{length-take-le, length-map}
use Rattle.container_layout.specs.declared.items.Item.TheVariants.{Index}
use Rattle.index_entry.specs.Spelling.{spelling_all}
use Rattle.index_entry.proofs.Facts.{length-spelling_all}
use Rattle.store_api.specs.declared.tree.Room.{Room}
use Rattle.store_laws.specs.Files.{file_at}
use Rattle.store_laws.specs.Prefix.{IsPrefix}
use Rattle.store_laws.proofs.Facts.{prefix_trans}
use Rattle.mount_model.specs.Paths.{index_path}
use Rattle.mount_model.specs.State.{State}
use Rattle.mount_sound.specs.Items.{HasItem}
use Rattle.mount_sound.specs.Landed.{whole, HasLanded}
use Rattle.mount_sound.specs.Ledger.{Written, entries_in, content, Ledger}
use Rattle.mount_sound.specs.Dropping.{log_bytes, IsDropping, IsWriter}
use Rattle.mount_sound.specs.Sound.{IsSoundFor}
use Rattle.mount_sound.proofs.Soundness.Landing.{content_take}

quotient : (n t len : ℕ) → len ≡ 40 * n + t → t < 40 → n ≡ len / 40
quotient n t len e l = omega arith

least : (a b n : ℕ) → 40 * a ≤ n → b ≡ n / 40 → a ≤ b
least a b n l e = omega arith

its_whole : (writer : ℕ) (issued : List Written) (landed log : ℕ) (bytes : List ℕ) → IsDropping writer issued landed log bytes → landed ≤ length issued → landed ≡ min (whole bytes) (length issued)
its_whole writer issued landed log bytes d within =
    let es = entries_in issued in
    let has : length (take landed es) ≡ landed = length-take-le landed es (omega (arith, within, length-map issued (λ (w : Written). w.entry))) in
    let len : length bytes ≡ 40 * (landed + length d.more) + length d.tail = omega (arith, ap length d.spelled, length-append (spelling_all (take landed es ++ d.more)) d.tail, length-spelling_all (take landed es ++ d.more), length-append (take landed es) d.more, has) in
    elim d.behind as (λ _. landed ≡ min (whole bytes) (length issued)) [
      | inl none ↦ let exact : landed ≡ whole bytes = quotient landed (length d.tail) (length bytes) (omega (arith, len, ap length none)) d.torn in omega (arith, exact, within)
      | inr all ↦ let long : landed ≤ whole bytes = least landed (whole bytes) (length bytes) (omega (arith, len)) refl in omega (arith, all, long)
    ]

landed_of_writer : (room : Room) (host writer : ℕ) (issued : List Written) (bytes : List ℕ) → IsWriter room writer issued → HasItem room (Index host writer) bytes → HasLanded room host writer issued bytes
landed_of_writer room host writer issued bytes w h =
    let same : w.host ≡ host = sym (w.one_host host (inl (bytes, h))) in
    let at : file_at room (index_path w.host writer) ≡ Some bytes = ap (λ x. file_at room (index_path x writer)) same ∙ h.there in
    let d : IsDropping writer issued w.landed (length (log_bytes room w.host writer)) bytes = subst (λ o. MatchOption o (w.landed ≡ 0) (IsDropping writer issued w.landed (length (log_bytes room w.host writer)))) at w.index in
    let log : IsPrefix (content issued) (log_bytes room host writer) = subst (λ x. IsPrefix (content issued) (log_bytes room x writer)) same w.log in
    record {
      landed = w.landed;
      within = w.within;
      is = its_whole writer issued w.landed (length (log_bytes room w.host writer)) bytes d w.within;
      dropping = subst (λ x. IsDropping writer issued w.landed (length (log_bytes room x writer)) bytes) same d;
      logged = prefix_trans (content (take w.landed issued)) (content issued) (log_bytes room host writer) (content_take w.landed issued) log;
    }

pub landed_is : (room : Room) (host writer : ℕ) (issued : List Written) (bytes : List ℕ) (w : IsWriter room writer issued) → HasItem room (Index host writer) bytes → w.landed ≡ min (whole bytes) (length issued)
unfolding landed_of_writer
landed_is room host writer issued bytes w h = (landed_of_writer room host writer issued bytes w h).is

-- The whole entries of each index dropping of a sound mount are the first that its writer issued.
pub landed_was_issued : (issued : Ledger) (state : State) (s : IsSoundFor issued state) (number : ℕ) (room : Room) → slice_get s.shape.tree.rooms number ≡ Some room → (host writer : ℕ) (bytes : List ℕ) → HasItem room (Index host writer) bytes → HasLanded room host writer (issued number writer) bytes
landed_was_issued issued state s number room there host writer bytes h =
    landed_of_writer room host writer (issued number writer) bytes ((s.sound.rooms number room there).writers writer h.is_item.widths.1) h

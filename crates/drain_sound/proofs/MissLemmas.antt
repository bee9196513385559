-- A reader of a target misses nothing that was copied there.
use Rattle.std.proofs.Common.{◌≡◌, ℕ, ◌≤◌, ◌<◌, ◌^◌, List, length, take, Option, Some, refl, ap, sym, ◌∙◌, subst, arith}
use Rattle.std.specs.Prelude.{slice_get}
use Rattle.std.specs.List.{Any}
use Rattle.std.proofs.lemmas.List.{length-take-le}
use Rattle.plfs_types.specs.declared.entries.Trunc.{Trunc as Truncate}
use Rattle.container_layout.specs.declared.items.Item.TheVariants.{Index, Log, Trunc}
use Rattle.container_layout.specs.Paths.{path_of}
use Rattle.index_entry.specs.Spelling.{spelling_all}
use Rattle.index_entry.specs.Within.{within_log}
use Rattle.index_entry.proofs.Facts.{length-spelling_all}
use Rattle.store_api.specs.declared.tree.Room.{Room}
use Rattle.store_api.specs.declared.tree.Tree.{Tree}
use Rattle.store_api.specs.Acts.{Stored}
use Rattle.store_laws.specs.Files.{file_at}
use Rattle.store_laws.specs.Prefix.{IsPrefix}
use Rattle.store_laws.proofs.Facts.{prefix_length}
use Rattle.mount_model.specs.History.{Event}
use Rattle.mount_model.specs.Mounting.{IsMounted}
use Rattle.mount_model.specs.Paths.{Name, index_path, log_path}
use Rattle.mount_model.specs.State.{State}
use Rattle.mount_sound.specs.Dropping.{bytes_of, log_bytes}
use Rattle.mount_sound.specs.Entries.{logged}
use Rattle.mount_sound.specs.Landed.{whole}
use Rattle.mount_sound.specs.Ledger.{AreWritesOf, Written, content, entries_in}
use Rattle.mount_sound.specs.Owed.{IsLawful}
use Rattle.mount_sound.specs.There.{entries_there, landed_entries, landed_in}
use Rattle.mount_sound.proofs.Facts.{entries_take, length-content, logged_take, take_less, told_landed, writes_take}
use Rattle.reader_laws.specs.Gathering.{Gathered, IsPrefixOf}
use Rattle.reader_laws.specs.Moments.{Dropping, Grows, HadTrunc, IsSoundAt, Moment, Stood, file_in_room, file_told, landed, moment_after}
use Rattle.reader_laws.specs.GatheringOpening.{HasView}
use Rattle.reader_laws.proofs.Gathered.Facts.{any_found, found_any, grows_after, landed_at, landed_whole, length-entries, prefix_of, sound_after, stood_grows}
use Rattle.drain_sound.specs.Fronts.{IsFrontOf, IsSoundFront, IsTarget, index_there, dropping_in}
use Rattle.drain_sound.specs.Views.{HasCopied, MissesNothing, mounted_there}
use Rattle.drain_sound.proofs.FrontLemmas.{front_sound}
use Rattle.drain_sound.proofs.ViewLemmas.{begins_sound, items, stood_then}

-- who has a view has as many entries of a writer as had landed at its first moment
landed_gathered : (start end : Moment) (room : ℕ) (cut : List Gathered) (truncs : List Truncate) (d : Dropping) (count : ℕ) → HasView start end room cut truncs → d.room ≡ room → Stood start d → count ≤ landed start d → Any (λ (g : Gathered). (g.dropping ≡ d) × (count ≤ g.count)) cut
landed_gathered start end room cut truncs d count view its stood least =
    let (g, among_cut, is) = any_found (λ (x : Gathered). x.dropping ≡ d) cut (view.complete d its stood) in
    let p : IsPrefixOf start end g = prefix_of start end cut g view.admissible among_cut in
    found_any (λ (x : Gathered). (x.dropping ≡ d) × (count ≤ x.count)) cut g among_cut (is, omega (arith, least, p.least, ap (λ x. landed start x) is))

module _ (source : Moment) (s : IsSoundAt source) (number : ℕ) (name : Name) (tree : Tree) (t : IsTarget source number name tree) (n : ℕ) (room : Room) (at : slice_get tree.rooms n ≡ Some room) (named : room.name ≡ name) where
  -- ---- what was copied has landed there

  module _ (host writer count : ℕ) (c : HasCopied source number room host writer count) where
    fits : writer < 2 ^ 64
    fits = c.has.is_item.widths.1

    l : ℕ
    l = landed source (dropping_in number host writer)

    ws : List Written
    ws = take l (source.issued number writer)

    v : AreWritesOf writer (source.issued number writer)
    v = s.sound.writes number writer

    front : IsFrontOf source number room host writer
    front = (t.drained n room at named).fronts host writer c.has.is_item

    file : bytes_of (file_at room (index_path host writer)) ≡ c.bytes
    file = ap bytes_of c.has.there

    ws_entries : entries_in ws ≡ take l (entries_in (source.issued number writer))
    unfolding ws
    ws_entries = entries_take l (source.issued number writer)

    l_within : l ≤ length (source.issued number writer)
    unfolding l
    l_within = omega (arith, landed_whole source s (dropping_in number host writer) c.has.is_item)

    ws_length : length ws ≡ l
    unfolding ws
    ws_length = length-take-le l (source.issued number writer) l_within

    ws_writes : AreWritesOf writer ws
    unfolding ws
    ws_writes = writes_take l writer (source.issued number writer) v

    sound : IsSoundFront writer ws c.bytes (log_bytes room host writer)
    unfolding ws l
    sound = front_sound writer ws c.bytes (log_bytes room host writer) ws_writes
        (subst (λ es. IsPrefix c.bytes (spelling_all es)) (sym ws_entries) (subst (λ b. IsPrefix b (index_there source (dropping_in number host writer))) file front.index)) front.log

    -- so many are whole in the front
    among_front : count ≤ sound.count
    unfolding l
    among_front =
        let most : length (take l (entries_in (source.issued number writer))) ≡ l = length-take-le l (entries_in (source.issued number writer)) (omega (arith, l_within, length-entries (source.issued number writer))) in
        let few : count ≤ l = omega (arith, c.entries, ap length file, prefix_length (bytes_of (file_at room (index_path host writer))) (index_there source (dropping_in number host writer)) front.index, length-spelling_all (take l (entries_in (source.issued number writer))), most) in
        let same : take count (entries_in ws) ≡ take count (entries_in (source.issued number writer)) = ap (λ es. take count es) ws_entries ∙ take_less count l (entries_in (source.issued number writer)) few in
        sound.all count (omega (arith, few, ws_length)) c.entries (omega (arith, c.written, ap logged same))

    -- what the front's bytes tell
    told_first : within_log (length (log_bytes room host writer)) (whole c.bytes) c.bytes ≡ take sound.count (entries_in (take sound.count ws))
    told_first =
        let w : AreWritesOf writer (take sound.count ws) = writes_take sound.count writer ws ws_writes in
        told_landed writer (take sound.count ws) sound.count (length (log_bytes room host writer)) c.bytes sound.dropping fits w
        (omega (arith, logged_take sound.count (entries_in (take sound.count ws)), length-content (take sound.count ws) w.full, prefix_length (content (take sound.count ws)) (log_bytes room host writer) sound.logs))

    first_length : length (take sound.count (entries_in (take sound.count ws))) ≡ sound.count
    first_length = length-take-le sound.count (entries_in (take sound.count ws)) (omega (arith, length-entries (take sound.count ws), length-take-le sound.count ws sound.within))

    landed_there : sound.count ≡ length (landed_entries room host writer)
    landed_there = sym first_length ∙ ap length (sym told_first ∙ sym (ap (λ b. entries_there b (log_bytes room host writer)) file))

    pub copied_landed : count ≤ landed_in room host writer
    copied_landed = omega (arith, among_front, landed_there)

  module _ (serial : ℕ) (times : Option (List ℕ)) (opened : Stored) (start : State) (m : IsMounted serial times opened start) (told : opened.tree ≡ Some tree) where
    -- as the mount begins
    pub landed_then : (host writer count : ℕ) → HasCopied source number room host writer count → count ≤ landed (mounted_there t.sound start) (dropping_in n host writer)
    landed_then host writer count c =
        let i = items source s number name tree t n room at named serial times opened start m told in
        let r = begins_sound source s number name tree t n room at named serial times opened start m told in
        let same : landed_entries i.now host writer ≡ landed_entries room host writer =
        ap (λ f. entries_there (bytes_of f) (bytes_of (file_at i.now (log_path host writer)))) (i.files (Index host writer))
        ∙ ap (λ f. entries_there (bytes_of (file_at room (index_path host writer))) (bytes_of f)) (i.files (Log host writer)) in
        let number_is : landed (mounted_there t.sound start) (dropping_in n host writer) ≡ length (landed_entries room host writer) = ap length (landed_at (mounted_there t.sound start) r (dropping_in n host writer) i.now i.there ∙ same) in
        omega (arith, copied_landed host writer count c, number_is)

    -- ---- the reader

    module _ (before gathering : List Event) (lawful : IsLawful start before) (goes_on : IsLawful (moment_after (mounted_there t.sound start) before).state gathering) where
      sound_then : IsSoundAt (moment_after (mounted_there t.sound start) before)
      sound_then = sound_after (mounted_there t.sound start) before lawful (begins_sound source s number name tree t n room at named serial times opened start m told)

      grows : Grows (mounted_there t.sound start) (moment_after (mounted_there t.sound start) before)
      grows = grows_after (mounted_there t.sound start) before lawful (begins_sound source s number name tree t n room at named serial times opened start m told)

      grows_on : Grows (moment_after (mounted_there t.sound start) before) (moment_after (moment_after (mounted_there t.sound start) before) gathering)
      grows_on = grows_after (moment_after (mounted_there t.sound start) before) gathering goes_on sound_then

      pub misses_nothing : (cut : List Gathered) (truncs : List Truncate) → HasView (moment_after (mounted_there t.sound start) before) (moment_after (moment_after (mounted_there t.sound start) before) gathering) n cut truncs → MissesNothing source number n room cut truncs
      misses_nothing cut truncs view = record {
        entries = λ host writer count c.
            landed_gathered (moment_after (mounted_there t.sound start) before) (moment_after (moment_after (mounted_there t.sound start) before) gathering) n cut truncs (dropping_in n host writer) count view refl
            (stood_grows (mounted_there t.sound start) (moment_after (mounted_there t.sound start) before) (dropping_in n host writer) grows (stood_then source s number name tree t n room at named serial times opened start m told host writer c.bytes c.has))
            (omega (arith, landed_then host writer count c, grows.landed (dropping_in n host writer) c.has.is_item));
        truncates = λ x inside h.
            let i = items source s number name tree t n room at named serial times opened start m told in
            let r = begins_sound source s number name tree t n room at named serial times opened start m told in
            let stood : HadTrunc (mounted_there t.sound start) n x.stamp x.size = record {
              is_item = h.is_item;
              bytes = inside;
              there = ap (λ o. file_told o n (path_of (Trunc x.stamp x.size))) r.shape.told ∙ ap (λ o. file_in_room o (path_of (Trunc x.stamp x.size))) i.there ∙ i.files (Trunc x.stamp x.size) ∙ h.there;
            } in
            view.all_truncs.all x (grows_on.stands n (Trunc x.stamp x.size) tt (grows.stands n (Trunc x.stamp x.size) tt stood));
      }

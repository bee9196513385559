-- What a room holds of a writer tells its writes: two accounts of them agree.
use Rattle.std.proofs.Common.{◌≡◌, ℕ, zero, suc, ◌≤◌, List, [], ◌∷◌, ◌++◌, length, take, refl, sym, ap, ◌∙◌, subst, arith}
use Rattle.std.proofs.lemmas.List.{take_all}
use Rattle.plfs_types.specs.declared.entries.Entry.{Entry}
use Rattle.container_layout.specs.declared.items.Item.TheVariants.{Index}
use Rattle.store_api.specs.declared.tree.Room.{Room}
use Rattle.store_laws.specs.Prefix.{IsPrefix}
use Rattle.store_laws.proofs.Facts.{prefix_trans}
use Rattle.mount_sound.specs.Dropping.{IsWriter, log_bytes}
use Rattle.mount_sound.specs.Growing.{IsMore}
use Rattle.mount_sound.specs.Items.{HasItem}
use Rattle.mount_sound.specs.Ledger.{AreFull, AreWritesOf, Written, content, entries_in}
use Rattle.mount_sound.specs.There.{landed_entries}
use Rattle.mount_sound.proofs.Facts.{content_take, entries_take, same_host, writer_told, writes_take}

-- ---- two lists of writes whose entries are the same, and whose bytes begin one log

fronts_same : (xs ys a b log : List ℕ) → length xs ≡ length ys → IsPrefix (xs ++ a) log → IsPrefix (ys ++ b) log → (xs ≡ ys) × ((rest : List ℕ) × IsPrefix a rest × IsPrefix b rest)
fronts_same [] [] a b log long p q = (refl, (log, p, q))
fronts_same [] (y ∷ ys) a b log long p q = absurd (omega (arith, long))
fronts_same (x ∷ xs) [] a b log long p q = absurd (omega (arith, long))
fronts_same (x ∷ xs) (y ∷ ys) a b [] long p q = absurd p
fronts_same (x ∷ xs) (y ∷ ys) a b (l ∷ log) long p q =
    let more = fronts_same xs ys a b log (omega (arith, long)) p.1 q.1 in
    let first : x ≡ y = p.0 ∙ sym q.0 in
    ((λ i. first i ∷ more.0 i), more.1)

pub same_writes : (a b : List Written) (log : List ℕ) → entries_in a ≡ entries_in b → AreFull a → AreFull b → IsPrefix (content a) log → IsPrefix (content b) log → a ≡ b
same_writes [] [] log same one other p q = refl
same_writes [] (y ∷ b) log same one other p q = absurd (cc)
same_writes (x ∷ a) [] log same one other p q = absurd (cc)
same_writes (x ∷ a) (y ∷ b) log same one other p q =
    let entry : x.entry ≡ y.entry = cc in
    let rest : entries_in a ≡ entries_in b = cc in
    let long : length x.bytes ≡ length y.bytes = one.0 ∙ ap (λ (e : Entry). e.len) entry ∙ sym other.0 in
    let f = fronts_same x.bytes y.bytes (content a) (content b) log long p q in
    let more : a ≡ b = same_writes a b f.1.0 rest one.1 other.1 f.1.1 f.1.2 in
    λ i. record { entry = entry i; bytes = f.0 i } ∷ more i

-- ---- two accounts of one writer of a room

entries_long : (writes : List Written) → length (entries_in writes) ≡ length writes
entries_long [] = refl
entries_long (w ∷ writes) = ap suc (entries_long writes)

-- where all of the one has landed, it is what has landed of the other
pub same_landed : (room : Room) (host writer : ℕ) (bytes : List ℕ) (a b : List Written) (w : IsWriter room writer a) (v : IsWriter room writer b) → AreWritesOf writer a → AreWritesOf writer b → HasItem room (Index host writer) bytes → v.landed ≡ length b → b ≡ take w.landed a
same_landed room host writer bytes a b w v of_a of_b item all =
    let fits = item.is_item.widths.1 in
    let host_a : host ≡ w.host = same_host room host writer a w of_a bytes item in
    let host_b : host ≡ v.host = same_host room host writer b v of_b bytes item in
    let told_a : landed_entries room host writer ≡ take w.landed (entries_in a) = ap (λ h. landed_entries room h writer) host_a ∙ writer_told room writer a w fits of_a in
    let told_b : landed_entries room host writer ≡ take v.landed (entries_in b) = ap (λ h. landed_entries room h writer) host_b ∙ writer_told room writer b v fits of_b in
    let whole : take v.landed (entries_in b) ≡ entries_in b = take_all v.landed (entries_in b) (omega (arith, all, entries_long b)) in
    let entries : entries_in b ≡ entries_in (take w.landed a) = sym whole ∙ sym told_b ∙ told_a ∙ sym (entries_take w.landed a) in
    let log_a : IsPrefix (content (take w.landed a)) (log_bytes room host writer) =
    prefix_trans (content (take w.landed a)) (content a) (log_bytes room host writer) (content_take w.landed a) (subst (λ h. IsPrefix (content a) (log_bytes room h writer)) (sym host_a) w.log) in
    let log_b : IsPrefix (content b) (log_bytes room host writer) = subst (λ h. IsPrefix (content b) (log_bytes room h writer)) (sym host_b) v.log in
    same_writes b (take w.landed a) (log_bytes room host writer) entries of_b.full (writes_take w.landed writer a of_a).full log_b log_a

-- ---- the first writes

pub more_more : (a b c : List Written) → IsMore a b → IsMore b c → IsMore a c
more_more a b c one other = (one.0 ++ other.0, other.1 ∙ ap (λ z. z ++ other.0) one.1 ∙ joined a one.0 other.0)
  where
    joined : (xs ys zs : List Written) → (xs ++ ys) ++ zs ≡ xs ++ (ys ++ zs)
    joined [] ys zs = refl
    joined (x ∷ xs) ys zs = ap (λ z. x ∷ z) (joined xs ys zs)

-- of the first ones so many, the first that are no more
pub more_taken : (n : ℕ) (a b : List Written) → IsMore a b → length a ≤ n → IsMore a (take n b)
more_taken n a b more few = ((taken n a more.0 few).0, ap (take n) more.1 ∙ (taken n a more.0 few).1)
  where
    taken : (k : ℕ) (xs ys : List Written) → length xs ≤ k → (zs : List Written) × (take k (xs ++ ys) ≡ xs ++ zs)
    taken k [] ys l = (take k ys, refl)
    taken zero (x ∷ xs) ys l = absurd (omega (arith, l))
    taken (suc k) (x ∷ xs) ys l = (let t = taken k xs ys (omega (arith, l)) in (t.0, ap (λ z. x ∷ z) t.1))

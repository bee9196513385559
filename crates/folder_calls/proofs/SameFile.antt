-- Keys that name one file.
use Rattle.std.proofs.Common.{◌≡◌, ◌⊎◌, inl, inr, ℕ, zero, suc, ◌-◌, Bool, true, false, List, [], ◌∷◌, take, Option, Some, None, cond, refl, sym, subst, ◌∙◌, ap}
use Rattle.std.specs.List.{IsDistinct}
use Rattle.std.specs.Cmp.{IsEquivalence, on_equiv}
use Rattle.std.specs.Map.{lookup, lookup_entry, remove_entry, keys_of}
use Rattle.std.specs.Option.{option_map_or}
use Rattle.std.proofs.lemmas.Cmp.{nat_eq_equiv, nat_list_eq_equiv, and_equiv}
use Rattle.std.proofs.lemmas.Map.{lookup-remove_entry}
use Rattle.lru.specs.LruCache.{LruCache, put_entries}
use Rattle.folder_calls.specs.declared.cache.FileKey.{FileKey}
use Rattle.folder_calls.specs.Keys.{same_file}

pub same_file_equiv : IsEquivalence same_file
same_file_equiv =
    and_equiv (on_equiv (λ (key : FileKey). key.room) nat_eq_equiv) (and_equiv (on_equiv (λ (key : FileKey). key.folder) nat_list_eq_equiv) (on_equiv (λ (key : FileKey). key.file) nat_list_eq_equiv))

module _ {X : Type 0} (key : FileKey) (entries : List (FileKey × X)) (distinct : IsDistinct same_file (keys_of entries)) where
  -- of distinct keys one is taken out, and the others stay
  pub taken_out : (other : FileKey) → lookup (same_file other) (remove_entry (same_file key) entries) ≡ cond (same_file key other) None (lookup (same_file other) entries)
  taken_out other = lookup-remove_entry same_file_equiv (same_file key) (λ x y same. same_file_equiv.congr key x y same) other entries distinct

  -- and that one isn't there
  pub is_gone : lookup (same_file key) (remove_entry (same_file key) entries) ≡ None
  is_gone = taken_out key ∙ ap (λ same. cond same None (lookup (same_file key) entries)) (same_file_equiv.refl key)

module _ {K X : Type 0} where
  -- what is found among the first entries is found among all
  found_of_first : (q : K → Bool) (n : ℕ) (es : List (K × X)) (one : X) → lookup q (take n es) ≡ Some one → lookup q es ≡ Some one
  found_of_first q zero es one is = cc
  found_of_first q (suc n) [] one is = is
  found_of_first q (suc n) (e ∷ es) one is = (elim (q e.0) as (λ y. q e.0 ≡ y → lookup q (e ∷ es) ≡ Some one) [
    | true ↦ λ t. let is' = rw t at is in rw t is'
    | false ↦ λ t. let is' = rw t at is in rw t (found_of_first q n es one is')
  ]) refl

  -- another is found where the one that was found first is taken out
  pub found_without : (test q : K → Bool) (es : List (K × X)) (first : K × X) → lookup_entry test es ≡ Some first → q first.0 ≡ false → lookup q (remove_entry test es) ≡ lookup q es
  found_without test q [] first is other = refl
  found_without test q (e ∷ es) first is other = (elim (test e.0) as (λ y. test e.0 ≡ y → lookup q (remove_entry test (e ∷ es)) ≡ lookup q (e ∷ es)) [
    | true ↦ λ t.
        let is' = rw t at is in
        let same : e ≡ first = cc in
        let not_it : q e.0 ≡ false = subst (λ (f : K × X). q f.0 ≡ false) (sym same) other in
        rw (t, not_it)
    | false ↦ λ t. let is' = rw t at is in rw t (ap (λ rest. cond (q e.0) (Some e.1) rest) (found_without test q es first is' other))
  ]) refl

  -- the entry that is found passes the test
  pub first_passes : (test : K → Bool) (es : List (K × X)) (first : K × X) → lookup_entry test es ≡ Some first → test first.0 ≡ true
  first_passes test [] first is = cc
  first_passes test (e ∷ es) first is = (elim (test e.0) as (λ y. test e.0 ≡ y → test first.0 ≡ true) [
    | true ↦ λ t. let is' = rw t at is in let same : e ≡ first = cc in subst (λ (f : K × X). test f.0 ≡ true) same t
    | false ↦ λ t. first_passes test es first (rw t at is)
  ]) refl

-- a file is the same the other way round, and through a third
turned : (a b : FileKey) → same_file a b ≡ true → same_file b a ≡ true
turned a b same = sym (same_file_equiv.congr a b a same) ∙ same_file_equiv.refl a

pub through : (a b c : FileKey) → same_file a b ≡ true → same_file c b ≡ true → same_file a c ≡ true
through a b c same also = same_file_equiv.congr a b c same ∙ turned c b also

module _ {X : Type 0} (cache : LruCache FileKey X) (key : FileKey) (held : X) (other : FileKey) (one : X) where
  abbrev WasOrIsPut : Type 0
  WasOrIsPut = (lookup (same_file other) cache.entries ≡ Some one) ⊎ ((same_file key other ≡ true) × (one ≡ held))

  abbrev after : Option (FileKey × X) → List (FileKey × X)
  after found = option_map_or (λ e. (e.0, held) ∷ remove_entry (same_file key) cache.entries) found ((key, held) ∷ take (cache.cap - 1) cache.entries)

  put_cases : (found : Option (FileKey × X)) → lookup_entry (same_file key) cache.entries ≡ found → lookup (same_file other) (after found) ≡ Some one → WasOrIsPut
  put_cases None is there = (elim (same_file other key) as (λ y. same_file other key ≡ y → WasOrIsPut) [
    | true ↦ λ t. let there' = rw t at there in let same : one ≡ held = cc in inr (turned other key t, same)
    | false ↦ λ t. inl (found_of_first (same_file other) (cache.cap - 1) cache.entries one (rw t at there))
  ]) refl
  put_cases (Some first) is there = (elim (same_file other first.0) as (λ y. same_file other first.0 ≡ y → WasOrIsPut) [
    | true ↦ λ t.
        let there' = rw t at there in
        let same : one ≡ held = cc in
        inr (through key first.0 other (first_passes (same_file key) cache.entries first is) t, same)
    | false ↦ λ t. inl (sym (found_without (same_file key) (same_file other) cache.entries first is t) ∙ (rw t at there))
  ]) refl

  -- a file that is open after one was put there was open before, or is that one
  pub found_after_put : lookup (same_file other) (put_entries same_file cache key held) ≡ Some one → WasOrIsPut
  found_after_put there = put_cases (lookup_entry (same_file key) cache.entries) refl there

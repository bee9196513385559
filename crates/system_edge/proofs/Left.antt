-- What readers have left of which the last one is read.
use Rattle.std.proofs.Common.{◌≡◌, ℕ, zero, suc, List, [], ◌∷◌, ◌++◌, length, take, ◌-◌, ◌<◌, Option, Some, None, Result, Ok, Err, true, false, refl, sym, ap, ◌∙◌, subst, arith, append_assoc, length-set}
use Rattle.std.specs.Prelude.{IsErr, slice_index_or, slice_set}
use Rattle.std.specs.Io.KnownBytes.{Consumes, IsAtEnd, Keeps, ReadConsumes}
use Rattle.system_edge.specs.Inputs.{all_left, both_left}

-- ---- two of them, of which the first one is read

consumed : (bytes : List ℕ) (a b rest : Option (List ℕ)) → Consumes a b bytes → Consumes (both_left a rest) (both_left b rest) bytes
consumed bytes None b rest c = tt
consumed bytes (Some a) None rest c = absurd c
consumed bytes (Some a) (Some b) None c = tt
consumed bytes (Some a) (Some b) (Some rest) c = ap (λ (xs : List ℕ). xs ++ rest) c ∙ append_assoc bytes b rest

kept : (a b rest : Option (List ℕ)) → Keeps a b → Keeps (both_left a rest) (both_left b rest)
kept None b rest k = tt
kept (Some a) None rest k = absurd k
kept (Some a) (Some b) None k = tt
kept (Some a) (Some b) (Some rest) k = ap (λ (xs : List ℕ). xs ++ rest) k

-- ---- the only one

only_consumed : (bytes : List ℕ) (a b : Option (List ℕ)) → Consumes a b bytes → Consumes (both_left (Some []) a) (both_left (Some []) b) bytes
only_consumed bytes None b c = tt
only_consumed bytes (Some a) None c = absurd c
only_consumed bytes (Some a) (Some b) c = c

only_kept : (a b : Option (List ℕ)) → Keeps a b → Keeps (both_left (Some []) a) (both_left (Some []) b)
only_kept None b k = tt
only_kept (Some a) None k = absurd k
only_kept (Some a) (Some b) k = k

-- one that is at its end had none
only_ended : (a b : Option (List ℕ)) → Consumes a b [] → IsAtEnd b → Keeps (both_left (Some []) a) (Some [])
only_ended None b c end = tt
only_ended (Some a) None c end = absurd c
only_ended (Some a) (Some b) c end = sym (c ∙ end)

-- ---- all of them

module _ {F : Type 0} (left : F → Option (List ℕ)) where
  last_consumed : (bytes : List ℕ) (files : List F) (k : ℕ) (old new : F) → length files ≡ suc k → old ≡ slice_index_or files k old → Consumes (left old) (left new) bytes → Consumes (all_left left files) (all_left left (slice_set files k new)) bytes
  last_consumed bytes [] k old new long is c = absurd (omega (arith, long))
  last_consumed bytes (f ∷ []) zero old new long is c = only_consumed bytes (left f) (left new) (subst (λ (x : F). Consumes (left x) (left new) bytes) is c)
  last_consumed bytes (f ∷ []) (suc k) old new long is c = absurd (omega (arith, long))
  last_consumed bytes (f ∷ g ∷ files) zero old new long is c = absurd (omega (arith, long))
  last_consumed bytes (f ∷ g ∷ files) (suc k) old new long is c =
      consumed bytes (all_left left (g ∷ files)) (all_left left (slice_set (g ∷ files) k new)) (left f) (last_consumed bytes (g ∷ files) k old new (omega (arith, long)) is c)

  last_kept : (files : List F) (k : ℕ) (old new : F) → length files ≡ suc k → old ≡ slice_index_or files k old → Keeps (left old) (left new) → Keeps (all_left left files) (all_left left (slice_set files k new))
  last_kept [] k old new long is c = absurd (omega (arith, long))
  last_kept (f ∷ []) zero old new long is c = only_kept (left f) (left new) (subst (λ (x : F). Keeps (left x) (left new)) is c)
  last_kept (f ∷ []) (suc k) old new long is c = absurd (omega (arith, long))
  last_kept (f ∷ g ∷ files) zero old new long is c = absurd (omega (arith, long))
  last_kept (f ∷ g ∷ files) (suc k) old new long is c =
      kept (all_left left (g ∷ files)) (all_left left (slice_set (g ∷ files) k new)) (left f) (last_kept (g ∷ files) k old new (omega (arith, long)) is c)

  -- the last one was at its end, and is left behind
  last_passed : (files : List F) (k : ℕ) (old new : F) → length files ≡ suc k → old ≡ slice_index_or files k old → Consumes (left old) (left new) [] → IsAtEnd (left new) → Keeps (all_left left files) (all_left left (take k (slice_set files k new)))
  last_passed [] k old new long is c end = absurd (omega (arith, long))
  last_passed (f ∷ []) zero old new long is c end = only_ended (left f) (left new) (subst (λ (x : F). Consumes (left x) (left new) []) is c) end
  last_passed (f ∷ []) (suc k) old new long is c end = absurd (omega (arith, long))
  last_passed (f ∷ g ∷ files) zero old new long is c end = absurd (omega (arith, long))
  last_passed (f ∷ g ∷ files) (suc k) old new long is c end =
      kept (all_left left (g ∷ files)) (all_left left (take k (slice_set (g ∷ files) k new))) (left f) (last_passed (g ∷ files) k old new (omega (arith, long)) is c end)

-- ---- one read after the other

keeps_both : (a b c : Option (List ℕ)) → Keeps a b → Keeps b c → Keeps a c
keeps_both None b c one other = tt
keeps_both (Some a) None c one other = absurd one
keeps_both (Some a) (Some b) None one other = absurd other
keeps_both (Some a) (Some b) (Some c) one other = other ∙ one

keeps_consumes : (bytes : List ℕ) (a b c : Option (List ℕ)) → Keeps a b → Consumes b c bytes → Consumes a c bytes
keeps_consumes bytes None b c one other = tt
keeps_consumes bytes (Some a) None c one other = absurd one
keeps_consumes bytes (Some a) (Some b) None one other = absurd other
keeps_consumes bytes (Some a) (Some b) (Some c) one other = sym one ∙ other

pub failed_read : {E : Type 0} (a b : Option (List ℕ)) (buf : List ℕ) (r : Result ℕ E) → IsErr r → Keeps a b → ReadConsumes a b r buf
failed_read a b buf (Ok n) is k = (let bad : false ≡ true = is in cc)
failed_read a b buf (Err e) is k = k

-- ---- what one read of the last one does to all

one_more : (n m : ℕ) → n ≡ m → 0 < n → m ≡ suc (n - 1)
one_more zero m same some = absurd (omega (arith, some))
one_more (suc n) m same some = omega (arith, same)

none_taken : (count : ℕ) (buf : List ℕ) → count ≡ 0 → take count buf ≡ []
none_taken zero [] is = refl
none_taken zero (b ∷ buf) is = refl
none_taken (suc count) buf is = absurd (omega (arith, is))

module _ {F : Type 0} (left : F → Option (List ℕ)) (whole : Option (List ℕ)) (files : List F) (n : ℕ) (old new : F) (long : n ≡ length files) (some : 0 < n) (is : old ≡ slice_index_or files (n - 1) old) (keeps : Keeps whole (all_left left files)) where
  pub still_kept : Keeps (left old) (left new) → Keeps whole (all_left left (slice_set files (n - 1) new))
  still_kept k = keeps_both whole (all_left left files) (all_left left (slice_set files (n - 1) new)) keeps (last_kept left files (n - 1) old new (one_more n (length files) long some) is k)

  pub read_on : (bytes : List ℕ) → Consumes (left old) (left new) bytes → Consumes whole (all_left left (slice_set files (n - 1) new)) bytes
  read_on bytes c = keeps_consumes bytes whole (all_left left files) (all_left left (slice_set files (n - 1) new)) keeps (last_consumed left bytes files (n - 1) old new (one_more n (length files) long some) is c)

  pub passed_on : (rest : List F) (count : ℕ) (buf : List ℕ) → rest ≡ take (length (slice_set files (n - 1) new) - 1) (slice_set files (n - 1) new) → count ≡ 0 → Consumes (left old) (left new) (take count buf) → IsAtEnd (left new) → Keeps whole (all_left left rest)
  passed_on rest count buf came zero_read c end =
      let same : length (slice_set files (n - 1) new) - 1 ≡ n - 1 = ap (λ (m : ℕ). m - 1) (length-set files (n - 1) new ∙ sym long) in
      let passed : rest ≡ take (n - 1) (slice_set files (n - 1) new) = came ∙ ap (λ (m : ℕ). take m (slice_set files (n - 1) new)) same in
      let none : Consumes (left old) (left new) [] = subst (λ (bytes : List ℕ). Consumes (left old) (left new) bytes) (none_taken count buf zero_read) c in
      subst (λ (xs : List F). Keeps whole (all_left left xs)) (sym passed)
      (keeps_both whole (all_left left files) (all_left left (take (n - 1) (slice_set files (n - 1) new))) keeps (last_passed left files (n - 1) old new (one_more n (length files) long some) is none end))

-- Rooms that are found one after the other.
use Rattle.std.proofs.Common.{◌≡◌, ℕ, ◌+◌, ◌<◌, ◌≤◌, List, [], ◌∷◌, ◌++◌, Bool, length, get_or, take, refl, sym, ap, subst, append_assoc, ◌∙◌}
use Rattle.std.proofs.lemmas.List.{take_more, take_all, append-nil}
use Rattle.folder_calls.specs.Calls.{Log}
use Rattle.store_folder.specs.Rooms.{if_room, LooksForRoom, FindsRooms}

module _ {F : Type 0} (root : List ℕ) where
  -- behind those among some names one more, if it is a room
  one_more : (names : List (List ℕ)) (name : List ℕ) (is_room : Bool) (rooms : List (List ℕ)) (log between later : Log F) → FindsRooms root names rooms log between → LooksForRoom root name is_room between later → FindsRooms root (names ++ name ∷ []) (rooms ++ if_room is_room name) log later
  one_more [] name is_room rooms log between later finds looks =
      let Looks : Log F → Type 0 = λ from. LooksForRoom root name is_room from later in
      let none : rooms ++ if_room is_room name ≡ if_room is_room name ++ [] = ap (λ (xs : List (List ℕ)). xs ++ if_room is_room name) finds.0 ∙ sym (append-nil (if_room is_room name)) in
      (is_room, [], later, none, subst Looks finds.1 looks, (refl, refl))
  one_more (first ∷ names) name is_room rooms log between later (is_first, rest, next, are, looked, finds) looks =
      let more : rooms ++ if_room is_room name ≡ if_room is_first first ++ (rest ++ if_room is_room name) = ap (λ (xs : List (List ℕ)). xs ++ if_room is_room name) are ∙ append_assoc (if_room is_first first) rest (if_room is_room name) in
      (is_first, rest ++ if_room is_room name, next, more, looked, one_more names name is_room rest next between later finds looks)

  module _ (names : List (List ℕ)) where
    -- the first names are looked for, and the next
    pub goes_on : (done : ℕ) (name : List ℕ) (is_room : Bool) (rooms more : List (List ℕ)) (first now next : Log F) → done < length names → name ≡ get_or names done name → FindsRooms root (take done names) rooms first now → LooksForRoom root name is_room now next → more ≡ rooms ++ if_room is_room name → FindsRooms root (take (done + 1) names) more first next
    goes_on done name is_room rooms more first now next within is finds looks pushed =
        let Among : List (List ℕ) → Type 0 = λ front. FindsRooms root front (rooms ++ if_room is_room name) first next in
        let Found : List (List ℕ) → Type 0 = λ found. FindsRooms root (take (done + 1) names) found first next in
        subst Found (sym pushed) (subst Among (ap (λ x. take done names ++ x ∷ []) is ∙ sym (take_more names done name within)) (one_more (take done names) name is_room rooms first now next finds looks))

    -- no name is left
    pub all_found : (done : ℕ) (rooms : List (List ℕ)) (first now : Log F) → length names ≤ done → FindsRooms root (take done names) rooms first now → FindsRooms root names rooms first now
    all_found done rooms first now ended finds =
        let Among : List (List ℕ) → Type 0 = λ front. FindsRooms root front rooms first now in
        subst Among (take_all done names ended) finds

-- What contracts see of several stores as one.
use Rattle.std.specs.Prelude.{ℕ, List, Option, refl}
use Rattle.std.specs.Coded.{Coded, code_by, coded×, coded_ℕ, coded_list, coded_option}
use Rattle.store_api.specs.contracts.tree.Tree as tree
use Rattle.store_api.specs.Acts.{Stored}
use Rattle.spread_store.specs.declared.places.Place.{Place}
use Rattle.spread_store.specs.declared.places.Doubt.{Doubt}
use Rattle.spread_store.specs.contracts.places.Place as place
use Rattle.spread_store.specs.contracts.places.Doubt as doubt
use Rattle.spread_store.specs.Joined.{Spreading, spreading, tree_of, faults_of}
use Rattle.store_api.specs.Codes.{stored_code}

pub record Shown : Type 0 where
  -- the stores, in order
  pub stores : List Stored
  -- the places of the rooms, by number
  pub places : List Place
  -- the room that may have been made
  pub doubt : Option Doubt
  -- how many acts were answered otherwise than by want of memory
  pub acts : ℕ
  -- the store that has the room within which a step was made last
  pub last : ℕ

abbrev pub shown_code : Coded Shown
shown_code = code_by (List Stored × (List Place × (Option Doubt × (ℕ × ℕ))))
    (coded× (coded_list stored_code) (coded× (coded_list place.the_row.coded) (coded× (coded_option doubt.the_row.coded) (coded× coded_ℕ coded_ℕ))))
    (λ s. (s.stores, (s.places, (s.doubt, (s.acts, s.last)))))
    (λ p. record { stores = p.0; places = p.1.0; doubt = p.1.1.0; acts = p.1.1.1.0; last = p.1.1.1.1 }) (λ _. refl)

abbrev pub spread_of : Shown → Spreading
spread_of s = spreading s.stores s.places s.doubt

-- as a store: its tree is the rooms in the order of their numbers, where all stores tell theirs; its count of acts is its
-- own, and its count of faults is the sum of theirs
abbrev pub stored_of : Shown → Stored
stored_of s = record { tree = tree_of (spread_of s); acts = s.acts; faults = faults_of s.stores }

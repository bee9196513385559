-- Whether a room has an item of a writer.
use Rattle.std.proofs.Common.{◌≡◌, ℕ, zero, suc, ◌+◌, ◌≤◌, ◌<◌, ◌^◌, List, Option, Some, None, refl, subst, inl, inr, ◌⊎◌, arith}
use Rattle.std.proofs.lemmas.Bool.{cases_lt}
use Rattle.plfs_types.specs.declared.limits.TheConstants.{MAX_LOG, MAX_SIZE, MAX_STAMP}
use Rattle.container_layout.specs.declared.items.Item.{Item}
use Rattle.container_layout.specs.declared.items.Item.TheVariants.{Index, OpenHost, Meta}
use Rattle.container_layout.specs.Items.{IsItem, IsMetaRange}
use Rattle.container_layout.specs.Paths.{path_of}
use Rattle.store_api.specs.declared.tree.Room.{Room}
use Rattle.store_laws.specs.Files.{file_at}
use Rattle.mount_sound.specs.Items.{HasItem, HasMeta, HasItemOf}

abbrev pub Decided : Type 0 → Type 0
Decided P = P ⊎ (P → ⊥)

-- whether one of the numbers below a bound has a property that is decided of each
pub search_below : (P : ℕ → Type 0) (bound : ℕ) → ((k : ℕ) → Decided (P k)) → ((k : ℕ) × (k < bound) × P k) ⊎ ((k : ℕ) → k < bound → P k → ⊥)
search_below P zero each = inr (λ k less has. omega arith)
search_below P (suc n) each = elim (search_below P n each) [
  | inl found ↦ inl (found.0, omega (arith, found.1), found.2)
  | inr none ↦ elim (each n) [
    | inl has ↦ inl (n, omega arith, has)
    | inr lacks ↦ inr (λ k less has. elim (cases_lt k n) [
      | inl below ↦ none k below has
      | inr least ↦ lacks (at_last P k n (omega (arith, less, least)) has)
    ])
  ]
]
  where
    at_last : (P : ℕ → Type 0) (k n : ℕ) → k ≡ n → P k → P n
    at_last P k n e has = subst P e has

abbrev HasSome : Room → Item → Type 0
HasSome room item = (bytes : List ℕ) × HasItem room item bytes

file_decided : (room : Room) (item : Item) (found : Option (List ℕ)) → file_at room (path_of item) ≡ found → IsItem item → Decided (HasSome room item)
file_decided room item None e is = inr (λ has. let there = has.1.there in absurd (cc))
file_decided room item (Some bytes) e is = inl (bytes, record { is_item = is; there = e })

item_decided : (room : Room) (item : Item) → Decided (IsItem item) → Decided (HasSome room item)
item_decided room item (inl is) = file_decided room item (file_at room (path_of item)) refl is
item_decided room item (inr not_is) = inr (λ has. not_is has.1.is_item)

widths_decided : (host writer : ℕ) → Decided ((host < 2 ^ 32) × (writer < 2 ^ 64))
widths_decided host writer = elim (cases_lt host (2 ^ 32)) [
  | inr past ↦ inr (λ both. let less : host < 2 ^ 32 = both.0 in omega (arith, past, less))
  | inl fits ↦ elim (cases_lt writer (2 ^ 64)) [
    | inl small ↦ inl (fits, small)
    | inr far ↦ inr (λ both. let less : writer < 2 ^ 64 = both.1 in omega (arith, far, less))
  ]
]

index_is : (host writer : ℕ) → Decided (IsItem (Index host writer))
index_is host writer = elim (widths_decided host writer) [
  | inl widths ↦ inl (record { in_range = tt; widths = widths })
  | inr wide ↦ inr (λ is. wide is.widths)
]

open_is : (host writer : ℕ) → Decided (IsItem (OpenHost host writer))
open_is host writer = elim (widths_decided host writer) [
  | inl widths ↦ inl (record { in_range = tt; widths = widths })
  | inr wide ↦ inr (λ is. wide is.widths)
]

zero_or_more : (n : ℕ) → (n ≡ 0) ⊎ (0 < n)
zero_or_more zero = inl refl
zero_or_more (suc n) = inr (omega arith)

abbrev AllOrNone : ℕ → ℕ → ℕ → Type 0
AllOrNone last bytes stamp = ((last ≡ 0) × (bytes ≡ 0) × (stamp ≡ 0)) ⊎ ((0 < last) × (0 < bytes) × (0 < stamp))

mixed : (a b : ℕ) → (a ≡ 0) → (0 < b) → ((a ≡ 0) × (b ≡ 0)) ⊎ ((0 < a) × (0 < b)) → ⊥
mixed a b none some (inl (x, y)) = omega arith
mixed a b none some (inr (x, y)) = omega arith

all_or_none : (last bytes stamp : ℕ) → Decided (AllOrNone last bytes stamp)
all_or_none last bytes stamp = elim (zero_or_more last) [
  | inl no_last ↦ elim (zero_or_more bytes) [
    | inl no_bytes ↦ elim (zero_or_more stamp) [
      | inl no_stamp ↦ inl (inl (no_last, no_bytes, no_stamp))
      | inr stamped ↦ inr (λ either. first_third last bytes stamp either no_last stamped)
    ]
    | inr some ↦ inr (λ either. first_second last bytes stamp either no_last some)
  ]
  | inr ends ↦ elim (zero_or_more bytes) [
    | inl no_bytes ↦ inr (λ either. second_first last bytes stamp either no_bytes ends)
    | inr some ↦ elim (zero_or_more stamp) [
      | inl no_stamp ↦ inr (λ either. third_first last bytes stamp either no_stamp ends)
      | inr stamped ↦ inl (inr (ends, some, stamped))
    ]
  ]
]
  where
    first_third : (a b c : ℕ) → AllOrNone a b c → a ≡ 0 → 0 < c → ⊥
    first_third a b c (inl (x, y, z)) none some = omega arith
    first_third a b c (inr (x, y, z)) none some = omega arith

    first_second : (a b c : ℕ) → AllOrNone a b c → a ≡ 0 → 0 < b → ⊥
    first_second a b c (inl (x, y, z)) none some = omega arith
    first_second a b c (inr (x, y, z)) none some = omega arith

    second_first : (a b c : ℕ) → AllOrNone a b c → b ≡ 0 → 0 < a → ⊥
    second_first a b c (inl (x, y, z)) none some = omega arith
    second_first a b c (inr (x, y, z)) none some = omega arith

    third_first : (a b c : ℕ) → AllOrNone a b c → c ≡ 0 → 0 < a → ⊥
    third_first a b c (inl (x, y, z)) none some = omega arith
    third_first a b c (inr (x, y, z)) none some = omega arith

range_decided : (last bytes stamp : ℕ) → Decided (IsMetaRange last bytes stamp)
range_decided last bytes stamp = elim (cases_lt MAX_SIZE last) [
  | inl past ↦ inr (λ r. let fits : last ≤ MAX_SIZE = r.last_fits in omega (arith, past, fits))
  | inr ends ↦ elim (cases_lt MAX_LOG bytes) [
    | inl past ↦ inr (λ r. let fits : bytes ≤ MAX_LOG = r.bytes_fit in omega (arith, past, fits))
    | inr few ↦ elim (cases_lt MAX_STAMP stamp) [
      | inl past ↦ inr (λ r. let fits : stamp ≤ MAX_STAMP = r.stamp_fits in omega (arith, past, fits))
      | inr early ↦ elim (all_or_none last bytes stamp) [
        | inl right ↦ inl (record { last_fits = ends; bytes_fit = few; stamp_fits = early; all_or_none = right })
        | inr wrong ↦ inr (λ r. wrong r.all_or_none)
      ]
    ]
  ]
]

meta_is : (last bytes stamp host writer : ℕ) → Decided (IsItem (Meta last bytes stamp host writer))
meta_is last bytes stamp host writer = elim (range_decided last bytes stamp) [
  | inr wrong ↦ inr (λ is. wrong is.in_range)
  | inl right ↦ elim (widths_decided host writer) [
    | inl widths ↦ inl (record { in_range = right; widths = widths })
    | inr wide ↦ inr (λ is. wide is.widths)
  ]
]

module _ (room : Room) (host writer : ℕ) where
  abbrev Of : ℕ → ℕ → ℕ → Type 0
  Of last bytes stamp = HasSome room (Meta last bytes stamp host writer)

  abbrev OfTwo : ℕ → ℕ → Type 0
  OfTwo last bytes = (stamp : ℕ) × Of last bytes stamp

  abbrev OfOne : ℕ → Type 0
  OfOne last = (bytes : ℕ) × OfTwo last bytes

  two_decided : (last bytes : ℕ) → Decided (OfTwo last bytes)
  two_decided last bytes = elim (search_below (Of last bytes) (MAX_STAMP + 1) (λ stamp. item_decided room (Meta last bytes stamp host writer) (meta_is last bytes stamp host writer))) [
    | inl found ↦ inl (found.0, found.2)
    | inr none ↦ inr (λ has. let fits : has.0 ≤ MAX_STAMP = has.1.1.is_item.in_range.stamp_fits in none has.0 (omega (arith, fits)) has.1)
  ]

  one_decided : (last : ℕ) → Decided (OfOne last)
  one_decided last = elim (search_below (OfTwo last) (MAX_LOG + 1) (λ bytes. two_decided last bytes)) [
    | inl found ↦ inl (found.0, found.2)
    | inr none ↦ inr (λ has. let fits : has.0 ≤ MAX_LOG = has.1.1.1.is_item.in_range.bytes_fit in none has.0 (omega (arith, fits)) has.1)
  ]

  pub meta_decided : Decided (HasMeta room host writer)
  meta_decided = elim (search_below OfOne (MAX_SIZE + 1) (λ last. one_decided last)) [
    | inl found ↦ inl (record { last = found.0; bytes = found.2.0; stamp = found.2.1.0; content = found.2.1.1.0; has = found.2.1.1.1 })
    | inr none ↦ inr (λ m. let fits : m.last ≤ MAX_SIZE = m.has.is_item.in_range.last_fits in none m.last (omega (arith, fits)) (m.bytes, (m.stamp, (m.content, m.has))))
  ]

  pub owner_decided : Decided (HasItemOf room host writer)
  owner_decided = elim (item_decided room (Index host writer) (index_is host writer)) [
    | inl has ↦ inl (inl has)
    | inr no_index ↦ elim (item_decided room (OpenHost host writer) (open_is host writer)) [
      | inl has ↦ inl (inr (inl has))
      | inr no_open ↦ elim meta_decided [
        | inl has ↦ inl (inr (inr has))
        | inr no_meta ↦ inr (λ has. elim has [
          | inl x ↦ no_index x
          | inr y ↦ elim y [
            | inl o ↦ no_open o
            | inr m ↦ no_meta m
          ]
        ])
      ]
    ]
  ]

-- its host and its id fit their widths
pub owner_fits : (room : Room) (host writer : ℕ) → HasItemOf room host writer → (host < 2 ^ 32) × (writer < 2 ^ 64)
owner_fits room host writer (inl i) = i.1.is_item.widths
owner_fits room host writer (inr (inl i)) = i.1.is_item.widths
owner_fits room host writer (inr (inr m)) = m.has.is_item.widths

abbrev pub HasHost : Room → ℕ → Type 0
HasHost room writer = (host : ℕ) × HasItemOf room host writer

-- whether the writer has an item there
pub host_decided : (room : Room) (writer : ℕ) → Decided (HasHost room writer)
host_decided room writer = elim (search_below (λ host. HasItemOf room host writer) (2 ^ 32) (λ host. owner_decided room host writer)) [
  | inl found ↦ inl (found.0, found.2)
  | inr none ↦ inr (λ has. none has.0 (owner_fits room has.0 writer has.1).0 has.1)
]

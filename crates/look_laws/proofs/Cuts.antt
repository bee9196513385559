-- The cut of which the metadata of a container tells.
use Rattle.std.proofs.Common.{◌≡◌, ◌⊎◌, inl, inr, ℕ, zero, suc, ◌+◌, ◌<◌, ◌≤◌, ◌^◌, false, List, [], ◌∷◌, length, take, drop, Option, Some, None, refl, sym, ap, ◌∙◌, subst, arith}
use Rattle.std.specs.Prelude.{slice_get}
use Rattle.std.specs.List.{AllByRecursion}
use Rattle.std.proofs.lemmas.Bool.{cases_eq}
use Rattle.plfs_types.specs.declared.entries.Entry.{Entry}
use Rattle.plfs_types.specs.declared.names.Path.{Path}
use Rattle.container_layout.specs.declared.items.Item.TheVariants as item
use Rattle.container_layout.specs.Paths.{path_of}
use Rattle.plain_file.proofs.Facts.{Among, cases_Option}
use Rattle.store_api.specs.declared.tree.Room.{Room}
use Rattle.store_laws.specs.Files.{file_at}
use Rattle.mount_model.specs.Paths.{index_path}
use Rattle.mount_sound.specs.Dropping.{IsToldOf, IsWriter, bytes_of}
use Rattle.mount_sound.specs.Items.{HasItem, HasMeta}
use Rattle.mount_sound.specs.Ledger.{entries_in}
use Rattle.mount_sound.specs.There.{entries_there, landed_entries}
use Rattle.mount_sound.proofs.Facts.{writer_told}
use Rattle.mount_model.specs.declared.names.Metadata.{Metadata}
use Rattle.reader_laws.specs.Gathering.{Gathered, IsAdmissible, IsPrefixOf}
use Rattle.reader_laws.specs.Moments.{Dropping, Grows, HadItem, IsNamed, IsSoundAt, Moment, Stood, index_then, issued_by, landed, landed_by, log_then}
use Rattle.reader_laws.specs.View.{WritersRise, own_entries}
use Rattle.reader_laws.proofs.Gathered.Facts.{entries_stay, in_a_room, in_tree, landed_at, landed_is_first, landed_whole, length-entries, length_taken, stood_grows}
use Rattle.look_laws.proofs.Leavings.{AreLeft, HasNobody, had_item, left_by}

-- the metadata has this writer's, or none
had_or_not : (w : ℕ) (metas : List Metadata) → ((x : Metadata) × Among x metas × (x.writer ≡ w)) ⊎ ((x : Metadata) → Among x metas → x.writer ≡ w → ⊥)
had_or_not w [] = inr (λ x a e. a)
had_or_not w (m ∷ metas) = elim (cases_eq m.writer w) as (λ _. ((x : Metadata) × Among x (m ∷ metas) × (x.writer ≡ w)) ⊎ ((x : Metadata) → Among x (m ∷ metas) → x.writer ≡ w → ⊥)) [
  | inl same ↦ inl (m, inl refl, same)
  | inr other ↦ elim (had_or_not w metas) as (λ _. ((x : Metadata) × Among x (m ∷ metas) × (x.writer ≡ w)) ⊎ ((x : Metadata) → Among x (m ∷ metas) → x.writer ≡ w → ⊥)) [
    | inl some ↦ inl (some.0, inr some.1, some.2)
    | inr none ↦ inr (λ x a e. neither x a e other none)
  ]
]
  where
    neither : (x : Metadata) → Among x (m ∷ metas) → x.writer ≡ w → (m.writer ≡ w → ⊥) → ((y : Metadata) → Among y metas → y.writer ≡ w → ⊥) → ⊥
    neither x (inl is) e other none = other (ap (λ (y : Metadata). y.writer) (sym is) ∙ e)
    neither x (inr a) e other none = none x a e

none_taken : (es : List Entry) → take 0 es ≡ []
none_taken [] = refl
none_taken (e ∷ es) = refl

dropping_eq : (d : Dropping) (room host writer : ℕ) → d.room ≡ room → d.host ≡ host → d.writer ≡ writer → d ≡ record { room = room; host = host; writer = writer }
dropping_eq d room host writer r h w = λ i. record { room = r i; host = h i; writer = w i }

-- without an index dropping nothing has landed
none_landed : (m : Moment) (d : Dropping) → index_then m d ≡ None → landed_by m d ≡ []
none_landed m d none = ap (λ o. entries_there (bytes_of o) (bytes_of (log_then m d))) none

-- The writer's metadata tells of the entries that were gathered of it.
pub record IsLeftOf (end : Moment) (x : Metadata) (g : Gathered) : Type 0 where
  pub same : x.writer ≡ g.dropping.writer
  pub told : IsToldOf x.last x.bytes x.stamp (own_entries end g)

-- ---- four moments: the room was found, nobody had it open, the metadata was listed, and the truncates are

module _ (start nobody listed end : Moment) (s1 : IsSoundAt nobody) (s2 : IsSoundAt listed) (s3 : IsSoundAt end) (g01 : Grows start nobody) (g12 : Grows nobody listed) (g23 : Grows listed end) (g02 : Grows start listed) (room : ℕ) (shut : HasNobody nobody s1 room) (metas : List Metadata) (left : AreLeft listed room metas) (there : Room) (has_room : slice_get s3.shape.tree.rooms room ≡ Some there) where
  -- a writer with an entry then had left, and its metadata tells so
  left_then : (d : Dropping) → IsNamed d → d.room ≡ room → 1 ≤ landed nobody d → (x : Metadata) × Among x metas × (x.writer ≡ d.writer)
  left_then d named is some = elim (cases_Option (index_then nobody d)) as (λ _. (x : Metadata) × Among x metas × (x.writer ≡ d.writer)) [
    | inl none ↦ absurd (omega (arith, some, ap length (none_landed nobody d none)))
    | inr (bytes, stands) ↦
        let at_room : slice_get s1.shape.tree.rooms d.room ≡ Some shut.room = ap (λ k. slice_get s1.shape.tree.rooms k) is ∙ shut.there in
        let r = in_a_room (slice_get s1.shape.tree.rooms d.room) (index_path d.host d.writer) bytes (in_tree nobody s1 d.room (index_path d.host d.writer) bytes stands) in
        let one : r.0 ≡ shut.room = some_room r.0 shut.room (slice_get s1.shape.tree.rooms d.room) r.1 at_room in
        let held : HasItem shut.room (item.Index d.host d.writer) bytes = record { is_item = named; there = ap (λ q. file_at q (index_path d.host d.writer)) (sym one) ∙ r.2 } in
        let w : IsWriter shut.room d.writer (nobody.issued d.room d.writer) = (s1.sound.rooms d.room shut.room at_room).writers d.writer named.widths.1 in
        let host : d.host ≡ w.host = w.one_host d.host (inl (bytes, held)) in
        let many : landed nobody d ≡ w.landed = counted w bytes host in
        let meta : HasMeta shut.room w.host d.writer = w.left (shut.none w.host d.writer w.host_fits named.widths.1) (omega (arith, some, many)) in
        let had : HadItem nobody room (item.Meta meta.last meta.bytes meta.stamp w.host d.writer) = had_item nobody s1 room shut.room (item.Meta meta.last meta.bytes meta.stamp w.host d.writer) meta.content shut.there meta.has in
        left.all meta.last meta.bytes meta.stamp w.host d.writer (g12.stands room (item.Meta meta.last meta.bytes meta.stamp w.host d.writer) tt had)
  ]
    where
      some_room : (a b : Room) (o : Option Room) → o ≡ Some a → o ≡ Some b → a ≡ b
      some_room a b o p q = cc

      counted : (w : IsWriter shut.room d.writer (nobody.issued d.room d.writer)) (bytes : List ℕ) → d.host ≡ w.host → landed nobody d ≡ w.landed
      counted w bytes host =
          let at_room : slice_get s1.shape.tree.rooms d.room ≡ Some shut.room = ap (λ k. slice_get s1.shape.tree.rooms k) is ∙ shut.there in
          ap length (landed_at nobody s1 d shut.room at_room ∙ ap (λ k. landed_entries shut.room k d.writer) host ∙ writer_told shut.room d.writer (nobody.issued d.room d.writer) w named.widths.1 (s1.sound.writes d.room d.writer))
          ∙ length_taken w.landed (entries_in (nobody.issued d.room d.writer)) (omega (arith, w.within, length-entries (nobody.issued d.room d.writer)))

  module _ (w : ℕ) (fits : w < 2 ^ 64) where
    abbrev its : IsWriter there w (end.issued room w)
    its = (s3.sound.rooms room there has_room).writers w fits

    abbrev d : Dropping
    d = record { room = room; host = its.host; writer = w }

    d_named : IsNamed d
    d_named = record { in_range = tt; widths = (its.host_fits, fits) }

    -- all items of the writer are of its host
    hosts : (x : Metadata) → Among x metas → x.writer ≡ w → x.host ≡ its.host
    hosts x a same =
        let had : HadItem end room (item.Meta x.last x.bytes x.stamp x.host x.writer) = g23.stands room (item.Meta x.last x.bytes x.stamp x.host x.writer) tt (left.stood x a) in
        let path : Path = path_of (item.Meta x.last x.bytes x.stamp x.host x.writer) in
        let r = in_a_room (slice_get s3.shape.tree.rooms room) path had.bytes (in_tree end s3 room path had.bytes had.there) in
        let one : r.0 ≡ there = same_room r.0 there (slice_get s3.shape.tree.rooms room) r.1 has_room in
        let held : HasItem there (item.Meta x.last x.bytes x.stamp x.host x.writer) had.bytes = record { is_item = had.is_item; there = ap (λ q. file_at q path) (sym one) ∙ r.2 } in
        its.one_host x.host (inr (inr (record { last = x.last; bytes = x.bytes; stamp = x.stamp; content = had.bytes; has = subst (λ k. HasItem there (item.Meta x.last x.bytes x.stamp x.host k) had.bytes) same held })))
      where
        same_room : (a b : Room) (o : Option Room) → o ≡ Some a → o ≡ Some b → a ≡ b
        same_room a b o p q = cc

    left_is : (x : Metadata) → Among x metas → x.writer ≡ w → left_by room x ≡ d
    left_is x a same = dropping_eq (left_by room x) room its.host w refl (hosts x a same) same

    told_of_it : (x : Metadata) → Among x metas → x.writer ≡ w → IsToldOf x.last x.bytes x.stamp (landed_by listed d)
    told_of_it x a same = subst (λ k. IsToldOf x.last x.bytes x.stamp (landed_by listed k)) (left_is x a same) (left.told x a)

    -- what there is of the writer: its dropping with a count that was admissible, or none
    pub record HasOne (g : Gathered) : Type 0 where
      pub is : g.dropping ≡ d
      pub prefix : IsPrefixOf start end g
      pub each : ((x : Metadata) × Among x metas × IsLeftOf end x g) ⊎ (own_entries end g ≡ [])
      pub all : (x : Metadata) → Among x metas → x.writer ≡ w → IsLeftOf end x g

    pub record HasNone : Type 0 where
      pub none : (other : Dropping) → other.room ≡ room → other.writer ≡ w → Stood end other → ⊥
      pub nothing : (x : Metadata) → Among x metas → x.writer ≡ w → (x.last ≡ 0) × (x.bytes ≡ 0)

    -- its dropping stands
    module _ (stands : Stood end d) where
      abbrev counting : ℕ → Gathered
      counting count = record { dropping = d; packed = false; covered = 0; count = count; tail = drop 0 (take count (entries_in (issued_by end d))) }

      few : (count : ℕ) → count ≤ landed end d → count ≤ length (issued_by end d)
      few count most = omega (arith, most, landed_whole end s3 d d_named)

      is_prefix : (count : ℕ) → landed start d ≤ count → count ≤ landed end d → IsPrefixOf start end (counting count)
      is_prefix count least most = record { least = least; most = most; were_issued = few count most; stands = stands; entries = refl }

      own_is : own_entries end (counting (landed listed d)) ≡ landed_by listed d
      own_is = entries_stay listed end d (landed listed d) g23 (omega (arith, landed_whole listed s2 d d_named)) ∙ sym (landed_is_first listed s2 d d_named)

      left_of : (x : Metadata) → Among x metas → x.writer ≡ w → IsLeftOf end x (counting (landed listed d))
      left_of x a same = record { same = same; told = subst (IsToldOf x.last x.bytes x.stamp) (sym own_is) (told_of_it x a same) }

      one_there : (g : Gathered) × HasOne g
      one_there = elim (had_or_not w metas) as (λ _. (g : Gathered) × HasOne g) [
        | inl (x, a, same) ↦ (
          counting (landed listed d),
          record {
            is = refl;
            prefix = is_prefix (landed listed d) (g02.landed d d_named) (g23.landed d d_named);
            each = inl (x, a, left_of x a same);
            all = left_of;
          },
        )
        | inr none ↦ (
          counting 0,
          record {
            is = refl;
            prefix = is_prefix 0 (none_yet none) (omega arith);
            each = inr (none_taken (entries_in (issued_by end d)));
            all = λ x a same. absurd (none x a same);
          },
        )
      ]
        where
          none_yet : ((x : Metadata) → Among x metas → x.writer ≡ w → ⊥) → landed start d ≤ 0
          none_yet none = none_so (landed nobody d) refl
            where
              none_so : (n : ℕ) → landed nobody d ≡ n → landed start d ≤ 0
              none_so zero e = omega (arith, e, g01.landed d d_named)
              none_so (suc n) e = absurd (let l = left_then d d_named refl (omega (arith, e)) in none l.0 l.1 l.2)

    then_stands : (bytes : List ℕ) → file_at there (index_path its.host w) ≡ Some bytes → Stood end d
    then_stands bytes at = had_item end s3 room there (item.Index its.host w) bytes has_room (record { is_item = d_named; there = at })

    -- another dropping of the writer is this one
    pub same_dropping : (other : Dropping) → other.room ≡ room → other.writer ≡ w → Stood end other → (other ≡ d) × ((bytes : List ℕ) × (file_at there (index_path its.host w) ≡ Some bytes))
    same_dropping other in_it same stood =
        let path : Path = index_path other.host other.writer in
        let r = in_a_room (slice_get s3.shape.tree.rooms other.room) path stood.bytes (in_tree end s3 other.room path stood.bytes stood.there) in
        let one : r.0 ≡ there = same_room r.0 there (slice_get s3.shape.tree.rooms other.room) r.1 (ap (λ k. slice_get s3.shape.tree.rooms k) in_it ∙ has_room) in
        let at : file_at there path ≡ Some stood.bytes = ap (λ q. file_at q path) (sym one) ∙ r.2 in
        let held : HasItem there (item.Index other.host w) stood.bytes = subst (λ k. HasItem there (item.Index other.host k) stood.bytes) same (record { is_item = stood.is_item; there = at }) in
        let host : other.host ≡ its.host = its.one_host other.host (inl (stood.bytes, held)) in
        (dropping_eq other room its.host w in_it host same, (stood.bytes, ap (λ k. file_at there (index_path k w)) (sym host) ∙ held.there))
      where
        same_room : (a b : Room) (o : Option Room) → o ≡ Some a → o ≡ Some b → a ≡ b
        same_room a b o p q = cc

    pub one_or_none : ((g : Gathered) × HasOne g) ⊎ HasNone
    one_or_none = elim (cases_Option (file_at there (index_path its.host w))) as (λ _. ((g : Gathered) × HasOne g) ⊎ HasNone) [
      | inr (bytes, at) ↦ inl (one_there (then_stands bytes at))
      | inl none ↦ inr (record {
        none = λ other in_it same stood. (let k = same_dropping other in_it same stood in clash (file_at there (index_path its.host w)) k.1.0 none k.1.1);
        nothing = λ x a same. nothing_left x (told_of_it x a same) (none_then none);
      })
    ]
      where
        clash : (o : Option (List ℕ)) (bytes : List ℕ) → o ≡ None → o ≡ Some bytes → ⊥
        clash o bytes p q = cc

        none_then : file_at there (index_path its.host w) ≡ None → landed_by listed d ≡ []
        none_then none = elim (cases_Option (index_then listed d)) as (λ _. landed_by listed d ≡ []) [
          | inl missing ↦ none_landed listed d missing
          | inr (bytes, at) ↦ absurd (let stood : Stood end d = stood_grows listed end d g23 (record { is_item = d_named; bytes = bytes; there = at }) in
              let k = same_dropping d refl refl stood in clash (file_at there (index_path its.host w)) k.1.0 none k.1.1)
        ]

        nothing_left : (x : Metadata) → IsToldOf x.last x.bytes x.stamp (landed_by listed d) → landed_by listed d ≡ [] → (x.last ≡ 0) × (x.bytes ≡ 0)
        nothing_left x told none = let t = subst (IsToldOf x.last x.bytes x.stamp) none told in (t.end, t.sum)

  -- ---- all writers

  -- The droppings of the writers from this one on, each with such a count.
  pub record IsCutFrom (least : ℕ) (cut : List Gathered) : Type 0 where
    pub above : AllByRecursion (λ (g : Gathered). least ≤ g.dropping.writer) cut
    pub rise : WritersRise room cut
    pub admissible : IsAdmissible start end cut
    pub complete : (other : Dropping) → other.room ≡ room → least ≤ other.writer → Stood end other → (g : Gathered) × Among g cut × (g.dropping ≡ other)
    pub each : (g : Gathered) → Among g cut → ((x : Metadata) × Among x metas × IsLeftOf end x g) ⊎ (own_entries end g ≡ [])
    pub all : (x : Metadata) → Among x metas → least ≤ x.writer → ((g : Gathered) × Among g cut × IsLeftOf end x g) ⊎ ((x.last ≡ 0) × (x.bytes ≡ 0))

  higher : (least : ℕ) (cut : List Gathered) → AllByRecursion (λ (g : Gathered). suc least ≤ g.dropping.writer) cut → AllByRecursion (λ (g : Gathered). least ≤ g.dropping.writer) cut
  higher least [] all = tt
  higher least (g ∷ cut) all = (omega (arith, all.0), higher least cut all.1)

  past : (w writer : ℕ) (cut : List Gathered) → writer ≡ w → AllByRecursion (λ (g : Gathered). suc w ≤ g.dropping.writer) cut → AllByRecursion (λ (g : Gathered). writer < g.dropping.writer) cut
  past w writer [] same all = tt
  past w writer (g ∷ cut) same all = (omega (arith, same, all.0), past w writer cut same all.1)

  with_one : (w : ℕ) (fits : w < 2 ^ 64) (g : Gathered) → HasOne w fits g → (cut : List Gathered) → IsCutFrom (suc w) cut → IsCutFrom w (g ∷ cut)
  with_one w fits g h cut c =
      let writer : g.dropping.writer ≡ w = ap (λ (k : Dropping). k.writer) h.is in
      record {
        above = (omega (arith, writer), higher w cut c.above);
        rise = (ap (λ (k : Dropping). k.room) h.is, past w g.dropping.writer cut writer c.above, c.rise);
        admissible = (h.prefix, c.admissible);
        complete = λ other in_it from stood. elim (cases_eq other.writer w) as (λ _. (g1 : Gathered) × Among g1 (g ∷ cut) × (g1.dropping ≡ other)) [
          | inl same ↦ (g, inl refl, h.is ∙ sym (same_dropping w fits other in_it same stood).0)
          | inr apart ↦ (let k = c.complete other in_it (next w other.writer from apart) stood in (k.0, inr k.1, k.2))
        ];
        each = λ k a. each_of k a h.each c.each;
        all = λ x a from. elim (cases_eq x.writer w) as (λ _. ((g1 : Gathered) × Among g1 (g ∷ cut) × IsLeftOf end x g1) ⊎ ((x.last ≡ 0) × (x.bytes ≡ 0))) [
          | inl same ↦ inl (g, inl refl, h.all x a same)
          | inr apart ↦ elim (c.all x a (next w x.writer from apart)) as (λ _. ((g1 : Gathered) × Among g1 (g ∷ cut) × IsLeftOf end x g1) ⊎ ((x.last ≡ 0) × (x.bytes ≡ 0))) [
            | inl k ↦ inl (k.0, inr k.1, k.2)
            | inr nothing ↦ inr nothing
          ]
        ];
      }
    where
      next : (k n : ℕ) → k ≤ n → (n ≡ k → ⊥) → suc k ≤ n
      next k n l apart = grind (arith)

      each_of : (k : Gathered) → Among k (g ∷ cut) → ((x : Metadata) × Among x metas × IsLeftOf end x g) ⊎ (own_entries end g ≡ []) → ((k2 : Gathered) → Among k2 cut → ((x : Metadata) × Among x metas × IsLeftOf end x k2) ⊎ (own_entries end k2 ≡ []))
          → ((x : Metadata) × Among x metas × IsLeftOf end x k) ⊎ (own_entries end k ≡ [])
      each_of k (inl is) own others = subst (λ (k2 : Gathered). ((x : Metadata) × Among x metas × IsLeftOf end x k2) ⊎ (own_entries end k2 ≡ [])) (sym is) own
      each_of k (inr a) own others = others k a

  without_one : (w : ℕ) (fits : w < 2 ^ 64) → HasNone w fits → (cut : List Gathered) → IsCutFrom (suc w) cut → IsCutFrom w cut
  without_one w fits h cut c = record {
    above = higher w cut c.above;
    rise = c.rise;
    admissible = c.admissible;
    complete = λ other in_it from stood. elim (cases_eq other.writer w) as (λ _. (g1 : Gathered) × Among g1 cut × (g1.dropping ≡ other)) [
      | inl same ↦ absurd (h.none other in_it same stood)
      | inr apart ↦ c.complete other in_it (next w other.writer from apart) stood
    ];
    each = c.each;
    all = λ x a from. elim (cases_eq x.writer w) as (λ _. ((g1 : Gathered) × Among g1 cut × IsLeftOf end x g1) ⊎ ((x.last ≡ 0) × (x.bytes ≡ 0))) [
      | inl same ↦ inr (h.nothing x a same)
      | inr apart ↦ c.all x a (next w x.writer from apart)
    ];
  }
    where
      next : (k n : ℕ) → k ≤ n → (n ≡ k → ⊥) → suc k ≤ n
      next k n l apart = grind (arith)

  cut_from : (n least : ℕ) → least + n ≡ 2 ^ 64 → (cut : List Gathered) × IsCutFrom least cut
  cut_from zero least is = (
    [],
    record {
      above = tt;
      rise = tt;
      admissible = tt;
      complete = λ other in_it from stood. absurd (omega (arith, is, from, stood.is_item.widths.1));
      each = λ g a. absurd a;
      all = λ x a from. absurd (omega (arith, is, from, (left.stood x a).is_item.widths.1));
    },
  )
  cut_from (suc n) least is =
      let rest = cut_from n (suc least) (omega (arith, is)) in
      let fits : least < 2 ^ 64 = omega (arith, is) in
      elim (one_or_none least fits) as (λ _. (cut : List Gathered) × IsCutFrom least cut) [
        | inl (g, one) ↦ (g ∷ rest.0, with_one least fits g one rest.0 rest.1)
        | inr none ↦ (rest.0, without_one least fits none rest.0 rest.1)
      ]

  pub cut_left : (cut : List Gathered) × IsCutFrom 0 cut
  cut_left = cut_from (2 ^ 64) 0 (omega arith)

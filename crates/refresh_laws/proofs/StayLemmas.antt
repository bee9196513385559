-- A refresh finds each writer that the reader has with its host.
use Rattle.std.proofs.Common.{◌≡◌, ℕ, true, false, nat_eq, List, [], ◌∷◌, ◌++◌, map, Some, None, refl, ap, sym, ◌∙◌, inl, inr, arith}
use Rattle.std.specs.Prelude.{not, Ok}
use Rattle.std.specs.List.{Any}
use Rattle.std.proofs.lemmas.Bool.{cases_Bool, cond-true, cond-false}
use Rattle.std.proofs.lemmas.Bool.Decides.{nat_tests}
use Rattle.plain_file.specs.declared.parts.ReaderParts.{ReaderParts}
use Rattle.plain_file.specs.declared.parts.WriterHost.{WriterHost}
use Rattle.plain_file.proofs.Facts.{Among, cases_Option}
use Rattle.mount_model.specs.History.{Event}
use Rattle.mount_sound.specs.Owed.{IsLawful}
use Rattle.mount_model.specs.Running.{Runs}
use Rattle.index_reader.specs.declared.listing.Dropping.{Dropping as Listed}
use Rattle.index_reader.specs.declared.listing.Listing.{Listing}
use Rattle.index_reader.specs.Found.{item_of}
use Rattle.index_reader.specs.Hosts.{AreByWriter, host_given, hosts_of}
use Rattle.index_reader.specs.Opened.{reader_from}
use Rattle.index_reader.specs.Opening.{no_flat, scan_program}
use Rattle.reader_laws.specs.Moments.{Moment, IsSoundAt, Dropping, Grows, Stood, moment_after}
use Rattle.reader_laws.specs.Seen.{calls_of}
use Rattle.reader_laws.specs.Gathering.{Gathered}
use Rattle.reader_laws.specs.View.{WritersRise}
use Rattle.reader_laws.proofs.Gathered.Facts.{all_at, any_found, scan_found, seen}
use Rattle.reader_laws.specs.Listing.{AreListed}
use Rattle.reader_laws.specs.Opened.{HasOpenReader}
use Rattle.reader_laws.specs.Sharing.{in_room, host_in_room}
use Rattle.reader_laws.proofs.OpenReaders.Cuts.{all_by, among_map, cut_rises, dropping_of, map_among, matching}
use Rattle.reader_laws.proofs.Containers.Listings.{HasTop, top_run}
use Rattle.refresh_index.specs.Hosts.{hosts_below, hosts_from, hosts_with, is_other, moved, without}
use Rattle.refresh_index.specs.Refreshing.{all_unpacked}
use Rattle.refresh_index.proofs.HostLemmas.{IsListed, hosts_with_listed}
use Rattle.refresh_laws.proofs.FormerLemmas.{same_dropping, still}
use Rattle.refresh_laws.proofs.TroubleLemmas.{ungathered, ungathered_are}

abbrev writer_in : WriterHost → ℕ
writer_in h = h.writer

same_number : (a b : ℕ) → nat_eq a b ≡ true → a ≡ b
same_number a b t = grind (arith, nat_tests)

same_test : (a b : ℕ) → a ≡ b → nat_eq a b ≡ true
same_test a b e = grind (arith, nat_tests)

-- the item of a number is among the items
pub found_there : {A : Type 0} (key : A → ℕ) (n : ℕ) (xs : List A) (x : A) → item_of key n xs ≡ Some x → Among x xs × (key x ≡ n)
found_there key n [] x is = absurd (let e : None ≡ Some x = is in cc)
found_there key n (y ∷ xs) x is = elim (cases_Bool (nat_eq (key y) n)) [
  | inl here ↦ (let one : Some y ≡ Some x = sym (cond-true (nat_eq (key y) n) (Some y) (item_of key n xs) here) ∙ is in
      let same : y ≡ x = cc in
      (inl (sym same), ap key (sym same) ∙ same_number (key y) n here))
  | inr there ↦ (let f = found_there key n xs x (sym (cond-false (nat_eq (key y) n) (Some y) (item_of key n xs) there) ∙ is) in (inr f.0, f.1))
]

pub unpacked_same : (held : List WriterHost) (ds : List Listed) → hosts_with held (all_unpacked ds) ≡ hosts_with held ds
unpacked_same held [] = refl
unpacked_same held (d ∷ ds) = ap (λ l. hosts_below d.writer held ++ host_given d ∷ l) (unpacked_same (without d.writer (hosts_from d.writer held)) ds)

among_listed : (d : Listed) (ds : List Listed) (w : ℕ) → Among d ds → w ≡ d.writer → IsListed w ds
among_listed d [] w a same = absurd a
among_listed d (e ∷ ds) w (inl is) same = inl (same ∙ ap (λ (x : Listed). x.writer) is)
among_listed d (e ∷ ds) w (inr a) same = inr (among_listed d ds w a same)

module _ (caller : ℕ) (start end m : Moment) (held : ReaderParts) (former : List Gathered) (has : HasOpenReader start end (reader_from held) former) (grows : Grows end m) (s : IsSoundAt m)
    (scanning : List Event) (listing : Listing) (lawful : IsLawful m.state scanning) (runs : Runs caller (scan_program held.room) scanning (Ok listing)) where
  abbrev room : ℕ
  room = held.room

  t : HasTop caller room no_flat scanning listing
  t = top_run caller room 0 no_flat m scanning listing lawful s runs

  abbrev cut : List Gathered
  cut = map (ungathered room held.covers) listing.droppings

  l : AreListed room t.found listing.droppings
  l = t.droppings

  rise : WritersRise room cut
  rise = cut_rises room cut listing.droppings (ungathered_are room held.covers listing.droppings) l.ascend

  complete : (d : Dropping) → d.room ≡ room → Stood m d → (g : Gathered) × Among g cut × (g.dropping ≡ d)
  complete d its stood =
      let a = scan_found caller room m (moment_after m scanning) (calls_of caller scanning) t.found d (seen caller m scanning lawful s) t.scans its stood in
      let (e, c, same) = any_found (λ (x : Listed). in_room room x ≡ d) listing.droppings (all_at (λ (x : Dropping). Any (λ (y : Listed). in_room room y ≡ x) listing.droppings) t.found d l.all a) in
      let g = matching (in_room room) dropping_of listing.droppings cut e (sym (ungathered_are room held.covers listing.droppings)) c in
      (g.0, g.1, sym g.2 ∙ same)

  -- each held writer is one of the former cut
  held_former : (h : WriterHost) → Among h held.hosts → (f : Gathered) × Among f former × (host_in_room room h ≡ f.dropping)
  held_former h a = matching (host_in_room room) dropping_of held.hosts former h has.hosts a

  stays : (d : Listed) → Among d listing.droppings → is_other d.host (item_of writer_in d.writer held.hosts) ≡ false
  stays d a = elim (cases_Option (item_of writer_in d.writer held.hosts)) [
    | inl none ↦ ap (is_other d.host) none
    | inr (h, some) ↦
        let there = found_there writer_in d.writer held.hosts h some in
        let f = held_former h there.0 in
        let g : Gathered = ungathered room held.covers d in
        let writer : f.0.dropping.writer ≡ d.writer = ap (λ (x : Dropping). x.writer) (sym f.2) ∙ there.1 in
        let same : f.0.dropping ≡ in_room room d = same_dropping start end m (moment_after m scanning) room former cut has.view.rise rise has.view.admissible grows complete f.0 g f.1 (among_map (ungathered room held.covers) listing.droppings d a) writer in
        let host : h.host ≡ d.host = ap (λ (x : Dropping). x.host) (f.2 ∙ same) in
        ap (is_other d.host) some ∙ ap not (same_test h.host d.host host)
  ]

  none_of : (ds : List Listed) → ((d : Listed) → Among d ds → is_other d.host (item_of writer_in d.writer held.hosts) ≡ false) → moved held.hosts ds ≡ None
  none_of [] all = refl
  none_of (d ∷ ds) all =
      cond-false (is_other d.host (item_of writer_in d.writer held.hosts)) (Some d) (moved held.hosts ds) (all d (inl refl)) ∙ none_of ds (λ e a. all e (inr a))

  -- no writer has moved
  pub none_moved : moved held.hosts listing.droppings ≡ None
  none_moved = none_of listing.droppings stays

  listed_still : (h : WriterHost) → Among h held.hosts → IsListed h.writer listing.droppings
  listed_still h a =
      let f = held_former h a in
      let g = still start end m (moment_after m scanning) room former cut has.view.rise rise has.view.admissible grows complete f.0 f.1 in
      let d = map_among (ungathered room held.covers) listing.droppings g.0 g.1 in
      among_listed d.0 listing.droppings h.writer d.1 (ap (λ (x : Dropping). x.writer) (f.2 ∙ sym g.2) ∙ ap (λ (x : Gathered). x.dropping.writer) d.2)

  -- the hosts are those that are listed
  pub hosts_told : AreByWriter held.hosts → hosts_with held.hosts listing.droppings ≡ hosts_of listing.droppings
  hosts_told by = hosts_with_listed held.hosts listing.droppings by l.ascend (all_by (λ (h : WriterHost). IsListed h.writer listing.droppings) held.hosts listed_still)

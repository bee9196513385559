-- What the reader of the short history gathered and read.
use Rattle.std.proofs.Common.{◌≡◌, ℕ, ◌<◌, ◌^◌, ◌∙◌, Bool, true, false, List, [], ◌∷◌, get_or, Some, None, refl, ap, sym, subst, arith, inl, inr}
use Rattle.std.specs.Prelude.{◌&&◌, nat_le, nat_lt, cond, option_map, if◌then◌else◌, not, Ok}
use Rattle.store_api.specs.declared.step.Answer.TheVariants.{Number, Names}
use Rattle.std.specs.Fmt.{digits}
use Rattle.std.specs.List.{Any, list_all, range_with_len}
use Rattle.std.proofs.lemmas.List.{append-nil}
use Rattle.std.proofs.lemmas.List.Elements.{All-from_recursion}
use Rattle.plfs_types.specs.declared.names.Path.{Path}
use Rattle.index_entry.specs.Spelling.{spelling, entry_in}
use Rattle.container_layout.specs.declared.items.Item.TheVariants.{Packed}
use Rattle.container_layout.specs.Paths.{hostdir_of, path_of}
use Rattle.container_layout.proofs.Facts.{elsewhere}
use Rattle.store_laws.specs.Files.{file_at}
use Rattle.store_laws.specs.Differ.{is_listed}
use Rattle.plain_file.specs.declared.pieces.Piece.{Piece}
use Rattle.plain_file.specs.Newest.{newest}
use Rattle.plain_file.specs.Sources.{source_of, source_in}
use Rattle.plain_file.specs.Runs.{ArePieces}
use Rattle.mount_model.specs.declared.call.Call.TheVariants.{Look}
use Rattle.mount_model.specs.declared.call.Look.TheVariants.{Top, List as ListFolder}
use Rattle.mount_model.specs.declared.reply.Reply.TheVariants.{Looked}
use Rattle.mount_model.specs.Paths.{Name, index_path}
use Rattle.mount_model.specs.Mounting.{IsMounted}
use Rattle.mount_sound.proofs.Shapes.Facts.{empty_shaped}
use Rattle.mount_sound.specs.Sound.{IsSoundTree}
use Rattle.mount_sound.specs.Ledger.{entries_in}
use Rattle.mount_sound.proofs.Facts.{no_writes, mounted_sound}
use Rattle.reader_laws.specs.Moments.{Moment, IsSoundAt, moment_after, Dropping}
use Rattle.reader_laws.specs.Seen.{Asked, asked_in, calls_of}
use Rattle.reader_laws.specs.Gathering.{Gathered, Gathers}
use Rattle.reader_laws.specs.GatheringListing.{IsListed, IsIndexName, AreDroppingsOf, ListsHostdirs, IsScan}
use Rattle.plfs_types.specs.Places.{IsAmong}
use Rattle.reader_laws.specs.Flats.{IsCoveredSo}
use Rattle.reader_laws.specs.View.{writes_in}
use Rattle.reader_laws.specs.GatheringOpening.{IsOpening, IsPackedSo, ReadsSo}
use Rattle.reader_laws.specs.Example.{no_rooms, IsBesideTornFlush}
use Rattle.plain_file.proofs.Facts.{Among}
use Rattle.reader_laws.proofs.Gathered.Containers.Entries.{among_listed}
use Rattle.reader_laws.proofs.Gathered.Containers.Members.{among, is_among, any_found, found_any}
use Rattle.reader_laws.proofs.Gathered.Samples.Sample.{first_writer, second_writer, holds, begun}
use Rattle.reader_laws.proofs.Gathered.Samples.Sample as sample
use Rattle.reader_laws.proofs.Gathered.Samples.SampleSteps.{legal}

-- ---------- the start

no_place : {X : Type 0} (x : X) → None ≡ Some x → ⊥
no_place x e = cc

abbrev empty_is_sound : IsSoundTree no_rooms
empty_is_sound = record {
  shaped = empty_shaped no_rooms refl;
  issued = λ number writer. [];
  rooms = λ number room there. absurd (no_place room there);
  writes = λ number writer. no_writes writer;
  all_landed = λ number room there writer fits. absurd (no_place room there);
  fitting = λ number writer past. refl;
  roomless = λ number writer e. refl;
  flats = λ number room there makes id bytes item. absurd (no_place room there);
}

abbrev pub start : Moment
start = record { state = begun; issued = λ number writer. [] }

mounted : IsMounted 0 None (holds no_rooms 0 0) begun
unfolding digits
mounted = record {
  draws = record {
    roomed = holds sample.unmarked 1 0;
    listed = holds sample.unmarked 2 0;
    names = [];
    tells = record { told = Ok (Number 0); made = record { tree = (sample.unmarked, refl, refl); acts = refl; faults = omega arith }; tells = refl };
    lists = record { tree = (sample.unmarked, refl, refl); acts = refl; faults = omega arith };
    next = record { greatest = 0; found = record { numbers = All-from_recursion _ [] tt; reached = inl (refl, refl) }; next = refl; fits = omega arith };
    marked = record { tree = (sample.no_container, refl, refl); acts = refl; faults = omega arith };
  };
  opened_is = refl;
  times_are = refl;
  serial_is = refl;
  serial_fits = omega arith;
  no_writers = refl;
  no_holders = refl;
  no_flattenings = refl;
}

start_sound : IsSoundAt start
start_sound = mounted_sound 0 None (holds no_rooms 0 0) begun no_rooms mounted refl empty_is_sound

-- ---------- the scan

abbrev first_dropping : Dropping
first_dropping = record { room = 1; host = 0; writer = first_writer }

abbrev second_dropping : Dropping
second_dropping = record { room = 1; host = 0; writer = second_writer }

abbrev both : List Dropping
both = first_dropping ∷ second_dropping ∷ []

named : (writer : ℕ) → writer < 2 ^ 64 → IsIndexName 1 0 (index_path 0 writer).file (record { room = 1; host = 0; writer = writer })
named writer fits = record { room_is = refl; folder = refl; named = record { is_item = record { in_range = tt; widths = (omega arith, fits) }; printed = refl } }

-- a log's name is no index dropping's
no_index : (name : Name) (d : Dropping) → get_or name 0 0 ≡ 108 → IsIndexName 1 0 name d → ⊥
no_index name d is_l is = elsewhere (sym is_l ∙ ap (λ (p : Path). get_or p.file 0 0) is.named.printed) refl

found : AreDroppingsOf 1 0 sample.folder_names both
found = inl (
  first_dropping,
  second_dropping ∷ [],
  named first_writer (omega arith),
  refl,
  inl (second_dropping, [], named second_writer (omega arith), refl, inr (λ d. no_index _ d refl, inr (λ d. no_index _ d refl, refl))),
)

first_of : (a b : Bool) → (a && b) ≡ true → a ≡ true
first_of true b e = refl
first_of false b e = e

rest_of : (a b : Bool) → (a && b) ≡ true → b ≡ true
rest_of true b e = e
rest_of false b e = absurd (cc)

not_both : (b : Bool) → not b ≡ true → b ≡ true → ⊥
not_both true e f = absurd (cc)
not_both false e f = absurd (cc)

abbrev is_absent : List Name → ℕ → Bool
is_absent top k = not (is_listed (hostdir_of k) top)

-- folders that the top doesn't name aren't listed
absent : (top : List Name) (ks : List ℕ) → list_all (is_absent top) ks ≡ true → ListsHostdirs 1 top ks [] []
absent top [] e = (refl, refl)
absent top (k ∷ ks) e = (
  [],
  [],
  [],
  [],
  refl,
  refl,
  inl (λ a. not_both (is_listed (hostdir_of k) top) (first_of (is_absent top k) (list_all (is_absent top) ks) e) (among_listed (hostdir_of k) top (among top (hostdir_of k) a)), refl, refl),
  absent top ks (rest_of (is_absent top k) (list_all (is_absent top) ks) e),
)

others_absent : list_all (is_absent sample.top_names) (range_with_len 1 31) ≡ true
unfolding digits
others_absent = refl

scans : IsScan 1 both (asked_in sample.lists_top ∷ asked_in sample.lists_folder ∷ [])
scans = record {
  first = asked_in sample.lists_top;
  rest = asked_in sample.lists_folder ∷ [];
  calls = refl;
  top = sample.top_names;
  lists = record { call = refl; reply = refl };
  hostdirs = (
    asked_in sample.lists_folder ∷ [],
    [],
    both,
    [],
    refl,
    refl,
    inr (is_among sample.top_names (hostdir_of 0) (inr (inr (inl refl))), (asked_in sample.lists_folder, refl, record { names = sample.folder_names; lists = record { call = refl; reply = refl }; found = found })),
    absent sample.top_names (range_with_len 1 31) others_absent,
  );
}

-- ---------- no packed index

abbrev scanned : List Asked
scanned = asked_in sample.lists_top ∷ asked_in sample.lists_folder ∷ []

no_pack_name : (host writer : ℕ) → Among (path_of (Packed host writer)).file sample.folder_names → ⊥
no_pack_name host writer (inl e) = elsewhere (ap (λ n. get_or n 5 0) e) refl
no_pack_name host writer (inr (inl e)) = elsewhere (ap (λ n. get_or n 5 0) e) refl
no_pack_name host writer (inr (inr (inl e))) = elsewhere (ap (λ n. get_or n 0 0) e) refl
no_pack_name host writer (inr (inr (inr (inl e)))) = elsewhere (ap (λ n. get_or n 0 0) e) refl
no_pack_name host writer (inr (inr (inr (inr a)))) = absurd a

-- the names that were told are those of the folder
its_names : (names : List Name) → Looked (Names sample.folder_names) ≡ Looked (Names names) → sample.folder_names ≡ names
its_names names e = cc

no_listing : (d : Dropping) (names : List Name) → Look 1 Top ≡ Look d.room (ListFolder (hostdir_of d.host)) → ⊥
no_listing d names e = cc

not_among : (d : Dropping) (a : Asked) → Among a scanned → (names : List Name) → IsListed d.room (ListFolder (hostdir_of d.host)) names a → IsAmong (path_of (Packed d.host d.writer)).file names → ⊥
not_among d a (inl e) names lists is = no_listing d names (ap (λ (x : Asked). x.ask.call) (sym e) ∙ lists.call)
not_among d a (inr (inl e)) names lists is = no_pack_name d.host d.writer (subst (λ ns. Among (path_of (Packed d.host d.writer)).file ns) (sym (its_names names (ap (λ (x : Asked). x.reply) (sym e) ∙ lists.reply))) (among names (path_of (Packed d.host d.writer)).file is))
not_among d a (inr (inr x)) names lists is = absurd x

unpacked : (g : Gathered) → g.packed ≡ false → IsPackedSo scanned g
unpacked g none = record {
  named = λ some. absurd (let both : true ≡ false = sym some ∙ none in cc);
  unnamed = λ e any. let f = any_found _ scanned any in not_among g.dropping f.0 f.1 f.2.0 f.2.1 f.2.2;
}

-- ---------- what was gathered

abbrev first_gathered : Gathered
first_gathered = record { dropping = first_dropping; packed = false; covered = 0; count = 1; tail = sample.first_entry ∷ [] }

abbrev second_gathered : Gathered
second_gathered = record { dropping = second_dropping; packed = false; covered = 0; count = 0; tail = [] }

abbrev pub cut : List Gathered
cut = first_gathered ∷ second_gathered ∷ []

gathers_first : Gathers first_gathered (asked_in sample.asks_first ∷ asked_in sample.asks_first_log ∷ asked_in sample.reads_first ∷ [])
unfolding spelling entry_in
gathers_first = record {
  named = record { in_range = tt; widths = (omega arith, omega arith) };
  reads = record {
    first = asked_in sample.asks_first;
    second = asked_in sample.asks_first_log;
    reads = asked_in sample.reads_first ∷ [];
    calls = refl;
    told = 40;
    log = 2;
    content = sample.first_bytes;
    index_length = record { call = refl; reply = refl };
    log_length = record { call = refl; reply = inl refl };
    bytes = (1, sample.first_bytes, record { call = refl; reply = refl }, omega arith, inl (refl, ([], (refl, refl), sym (append-nil sample.first_bytes))));
    tail = refl;
    count = refl;
  };
}

gathers_second : Gathers second_gathered (asked_in sample.asks_second ∷ asked_in sample.asks_second_log ∷ [])
gathers_second = record {
  named = record { in_range = tt; widths = (omega arith, omega arith) };
  reads = record {
    first = asked_in sample.asks_second;
    second = asked_in sample.asks_second_log;
    reads = [];
    calls = refl;
    told = 20;
    log = 2;
    content = [];
    index_length = record { call = refl; reply = refl };
    log_length = record { call = refl; reply = inl refl };
    bytes = (refl, refl);
    tail = refl;
    count = refl;
  };
}

opens : IsOpening 1 cut [] (calls_of 3 sample.gathering) (asked_in sample.lists_truncs)
opens = record {
  earlier = [];
  flattened = asked_in sample.lists_flats ∷ [];
  flat = None;
  reads = record { first = asked_in sample.lists_flats; reads = []; calls = refl; names = []; lists = record { call = refl; reply = refl }; takes = (λ id any. absurd (let f = any_found _ [] any in f.1), refl) };
  scan = asked_in sample.lists_top ∷ asked_in sample.lists_folder ∷ [];
  entries = asked_in sample.asks_first ∷ asked_in sample.asks_first_log ∷ asked_in sample.reads_first ∷ asked_in sample.asks_second ∷ asked_in sample.asks_second_log ∷ [];
  split = refl;
  droppings = both;
  scans = scans;
  cuts = record {
    rise = (refl, (omega arith, tt), (refl, tt, tt));
    found = All-from_recursion (λ (g : Gathered). IsAmong g.dropping both) cut (is_among both first_dropping (inl refl), (is_among both second_dropping (inr (inl refl)), tt));
    all = All-from_recursion (λ (d : Dropping). Any (λ (g : Gathered). g.dropping ≡ d) cut) both (found_any (λ (g : Gathered). g.dropping ≡ first_dropping) cut first_gathered (inl refl) refl, (found_any (λ (g : Gathered). g.dropping ≡ second_dropping) cut second_gathered (inr (inl refl)) refl, tt));
  };
  packed = All-from_recursion (IsPackedSo (asked_in sample.lists_top ∷ asked_in sample.lists_folder ∷ [])) cut (unpacked first_gathered refl, (unpacked second_gathered refl, tt));
  gathered = cut;
  gathers = (
    asked_in sample.asks_first ∷ asked_in sample.asks_first_log ∷ asked_in sample.reads_first ∷ [],
    asked_in sample.asks_second ∷ asked_in sample.asks_second_log ∷ [],
    refl,
    gathers_first,
    (asked_in sample.asks_second ∷ asked_in sample.asks_second_log ∷ [], [], refl, gathers_second, refl),
  );
  covered = All-from_recursion (IsCoveredSo []) cut (refl, (refl, tt));
  has = All-from_recursion (λ (g : Gathered). IsAmong g cut) cut (is_among cut first_gathered (inl refl), (is_among cut second_gathered (inr (inl refl)), tt));
  lists = record { names = []; lists = record { call = refl; reply = refl }; told = record { rise = tt; named = All-from_recursion _ [] tt; all = λ t any. absurd (let f = any_found _ [] any in f.1) } };
}

-- ---------- what was read

abbrev piece : Piece
piece = record { at = 0; len = 2; physical = 0; stamp = 7; writer = first_writer }

-- a byte is that of the one entry where it has it
one_shown : (x : ℕ) (has : Bool) → (if has then Some (source_in x piece) else None) ≡ option_map (source_of x) (newest (cond (has && true) (sample.first_entry ∷ []) []))
one_shown x true = refl
one_shown x false = refl

pieces_are : ArePieces (entries_in (writes_in (moment_after start sample.gathering) cut)) [] (piece ∷ [])
pieces_are = record {
  runs = (record { not_empty = omega arith; within = omega arith; in_log = omega arith }, tt, tt);
  shown = λ x. one_shown x (nat_le 0 x && nat_lt x 2);
}

reads : ReadsSo (moment_after start sample.gathering) cut [] 0 2 (calls_of 3 sample.later) (65 ∷ 66 ∷ [])
reads = record {
  pieces = piece ∷ [];
  size = 2;
  runs = pieces_are;
  sized = refl;
  made = (65 ∷ 66 ∷ [], [], record { of = first_gathered; gathered = is_among cut first_gathered (inl refl); log_of = refl; call = refl; reply = refl }, refl, refl);
}

-- The premises of the laws of a reader can be met, beside a torn flush.
pub beside_torn_flush : IsBesideTornFlush start sample.gathering sample.lists_truncs sample.later cut
unfolding digits spelling entry_in file_at
beside_torn_flush = record {
  opened = holds no_rooms 0 0;
  empty = refl;
  mounted = mounted;
  none_issued = λ number writer. refl;
  sound = start_sound;
  legal = legal;
  torn = found_any _ sample.gathering sample.flush_tears (inr (inr (inr (inr (inr (inr (inr (inr (inr (inr (inr (inr (inr (inr (inr (inr (inl refl))))))))))))))))) (second_writer, refl, refl);
  tail = refl;
  opens = opens;
  counts = refl;
  sees = refl;
  reads = reads;
  lands = refl;
}

-- Shares of a container, its truncates and the bytes of a reader's file are read: each ends well or in damage where each look is answered.
use Rattle.std.proofs.Common.{◌≡◌, ◌+◌, ◌-◌, ◌*◌, ◌/◌, ℕ, zero, suc, Bool, true, false, nat_eq, nat_le, nat_lt, List, [], ◌∷◌, ◌++◌, drop, length, map, min, replicate, take, Option, Some, None, Result, Ok, Err, refl, sym, subst, if◌then◌else◌}
use Rattle.plfs_types.specs.declared.entries.Cover.{Cover}
use Rattle.plfs_types.specs.declared.entries.Entry.{Entry}
use Rattle.plfs_types.specs.declared.entries.Trunc.{Trunc}
use Rattle.plfs_types.specs.declared.names.Path.{Path}
use Rattle.plain_file.specs.declared.parts.WriterHost.{WriterHost}
use Rattle.read_plan.specs.declared.part.Part.{Part}
use Rattle.index_entry.specs.Spelling.{entry_in}
use Rattle.mount_model.specs.declared.reply.Reply.TheVariants.{Looked}
use Rattle.mount_model.specs.Paths.{Name, index_path, log_path}
use Rattle.mount_model.specs.Program.{done}
use Rattle.mount_model.specs.declared.stuck.Stuck.{Stuck}
use Rattle.mount_model.specs.Entries.{is_next, next_read, reads_of}
use Rattle.mount_model.specs.Names.{trunc_in}
use Rattle.mount_model.specs.FlowReplies.{Tries, bytes_in, names_in}
use Rattle.index_reader.specs.declared.entries.Tail.{Tail}
use Rattle.index_reader.specs.declared.listing.Dropping.{Dropping}
use Rattle.index_reader.specs.declared.listing.Listing.{Listing}
use Rattle.index_reader.specs.declared.placing.Placed.{Placed}
use Rattle.index_reader.specs.declared.placing.Placed.TheVariants.{Logged, Zeros}
use Rattle.index_reader.specs.declared.sharing.Share.{Share}
use Rattle.index_reader.specs.declared.sharing.Sofar.{Sofar}
use Rattle.index_reader.specs.Covered.{cover_of}
use Rattle.index_reader.specs.Entries.{checked, longer}
use Rattle.index_reader.specs.FileReads.{bytes_left, parts_of}
use Rattle.index_reader.specs.PackRules.{pack_told}
use Rattle.index_reader.specs.Packs.{begins_covered, head_fault, head_then, if_headed, no_tail, pack_program, pack_rest, pack_tail, packed_path, writer_of}
use Rattle.index_reader.specs.Reading.{placed_all, read_program, spells}
use Rattle.index_reader.specs.Replies.{log_length_in, number_in}
use Rattle.index_reader.specs.Sharing.{added, dropping_program, gathers, nothing, share_program}
use Rattle.index_reader.specs.Tails.{if_checked, if_logged, if_told, log_then, looked, reads, tail_program}
use Rattle.index_reader.specs.Truncs.{if_trunc, inserted, trunc_program, truncs_of, truncs_path}
use Rattle.gather_flow.specs.Shares.{by_itself, worker_program}
use Rattle.gather_flow.specs.Dealing.{dealt_to}
use Rattle.sharing_laws.proofs.Facts.{then_made}
use Rattle.plain_plays.proofs.PlainSteps.Looks.Answered.{Anything, EndsSo, LooksOn, on_either, on_given, on_then, parts_on}

module _ (n : ℕ) where
  -- ---- a tail

  either_of : {A : Type 0} (P : A → Type 0) (b : Bool) (x y : A) → P x → P y → P (if b then x else y)
  either_of P true x y one other = one
  either_of P false x y one other = other

  module _ (d : Dropping) (more : Bool → Tail → Tries Tail) (full : Bool) (goes : (past : Bool) (longer : Tail) → LooksOn n Anything (more past longer)) where
    checked_on : (log k : ℕ) (bytes : List ℕ) (tail : Tail) → LooksOn n Anything (if_checked d more full (checked log k bytes tail))
    checked_on log zero bytes tail = on_either n Anything full _ _ (goes false tail) tt
    checked_on log (suc k) bytes tail = either_of (λ went. LooksOn n Anything (if_checked d more full went)) (is_next tail.cover (entry_in bytes)) _ _
        (either_of (λ went. LooksOn n Anything (if_checked d more full went)) (nat_le ((entry_in bytes).physical + (entry_in bytes).len) log) _ _ (checked_on log k (drop 40 bytes) (longer (entry_in bytes) tail)) (on_either n Anything full _ _ (goes true tail) tt))
        tt

    looked_on : (ended : Bool) (log asked : ℕ) (bytes : List ℕ) (tail : Tail) → LooksOn n Anything (if_checked d more full (looked ended log asked bytes tail))
    looked_on true log asked bytes tail = on_either n Anything full _ _ (goes true tail) tt
    looked_on false log asked bytes tail = checked_on log (min (length bytes / 40) asked) bytes tail

  reads_on : (k : ℕ) (d : Dropping) (log whole left : ℕ) (ended : Bool) (tail : Tail) → LooksOn n Anything (reads k n d log whole left ended tail)
  reads_on zero d log whole left ended tail = tt
  reads_on (suc k) d log whole left ended tail = (
    (_, refl),
    λ found. on_given n Anything (bytes_in (Looked found)) (index_path d.host d.writer) found _
        (λ bytes. looked_on d (λ past longer. reads k n d log whole (left - next_read left) past longer) (nat_le (40 * next_read left) (length bytes)) (λ past longer. reads_on k d log whole (left - next_read left) past longer) ended log (next_read left) bytes tail),
  )

  log_on : (d : Dropping) (tail : Tail) (whole : ℕ) → LooksOn n Anything (log_then n d tail whole)
  log_on d tail whole = (
    (_, refl),
    λ found. on_given n Anything (log_length_in (Looked found)) (log_path d.host d.writer) found (if_logged n d tail whole)
        (λ log. on_either n Anything (nat_lt log tail.cover.bytes) _ _ tt (reads_on (reads_of (whole - tail.cover.count)) d log whole (whole - tail.cover.count) false tail)),
  )

  tail_on : (d : Dropping) (tail : Tail) → LooksOn n Anything (tail_program n d tail)
  tail_on d tail = (
    (_, refl),
    λ found. on_given n Anything (number_in (Looked found)) (index_path d.host d.writer) found (if_told n d tail) (λ told. on_either n Anything (nat_lt (told / 40) tail.cover.count) _ _ tt (log_on d tail (told / 40))),
  )

  -- ---- a packed index

  pack_ends : (path : Path) (cover : Cover) (bytes : List ℕ) (result : Result (List Entry) ℕ) → EndsSo Anything (pack_tail path cover bytes result)
  pack_ends path cover bytes (Err place) = tt
  pack_ends path cover bytes (Ok entries) = by (nat_eq (writer_of entries) cover.writer) (begins_covered cover entries) _ _ _ tt tt tt
    where
      by : (a b : Bool) (x y z : Result Tail Stuck) → EndsSo Anything x → EndsSo Anything y → EndsSo Anything z → EndsSo Anything (if a then (if b then x else y) else z)
      by true true x y z p q r = p
      by true false x y z p q r = q
      by false b x y z p q r = r

  pack_rest_on : (path : Path) (cover : Cover) (told : ℕ) (head : List ℕ) → LooksOn n Anything (pack_rest n path cover told head)
  pack_rest_on path cover told head = on_then n Anything Anything (bytes_left n path told (told - 24) head) (λ bytes. done (pack_tail path cover bytes (pack_told bytes)))
      (parts_on n (parts_of (told - 24)) path told (told - 24) head)
      (λ bytes any. pack_ends path cover bytes (pack_told bytes))

  headed_on : (path : Path) (cover : Cover) (told : ℕ) (head : List ℕ) (fault : Option ℕ) → LooksOn n Anything (if_headed n path cover told head fault)
  headed_on path cover told head (Some place) = tt
  headed_on path cover told head None = on_either n Anything _ (done (Ok (no_tail cover))) (pack_rest n path cover told head) tt (pack_rest_on path cover told head)

  pack_on : (path : Path) (cover : Cover) → LooksOn n Anything (pack_program n path cover)
  pack_on path cover = (
    (_, refl),
    λ found. on_given n Anything (number_in (Looked found)) path found (head_then n path cover)
        (λ told. (
          (_, refl),
          λ again. on_given n Anything (bytes_in (Looked again)) path again (λ head. if_headed n path cover told head (head_fault told cover.count head)) (λ head. headed_on path cover told head (head_fault told cover.count head)),
        )),
  )

  -- ---- a share

  gathers_on : (covers : List Cover) (ds : List Dropping) (sofar : Sofar) → LooksOn n Anything (gathers n covers ds sofar)
  gathers_on covers [] sofar = tt
  gathers_on covers (d ∷ ds) sofar = on_then n Anything Anything (dropping_program n d (cover_of d.writer covers)) (λ tail. gathers n covers ds (added tail sofar))
      (on_either n Anything d.packed _ _ (pack_on (packed_path d.host d.writer) (cover_of d.writer covers)) (tail_on d (no_tail (cover_of d.writer covers))))
      (λ tail any. gathers_on covers ds (added tail sofar))

  pub share_on : (ds : List Dropping) (covers : List Cover) → LooksOn n Anything (share_program n ds covers)
  share_on ds covers = gathers_on covers ds nothing

  -- ---- truncates

  trunc_goes : (name : Name) (o : Option Trunc) (next : Trunc → Result (List Trunc) Stuck) → ((t : Trunc) → EndsSo Anything (next t)) → EndsSo Anything (if_trunc name o next)
  trunc_goes name None next goes = tt
  trunc_goes name (Some t) next goes = goes t

  truncs_end : (names : List Name) (sofar : List Trunc) → EndsSo Anything (truncs_of names sofar)
  truncs_end [] sofar = tt
  truncs_end (name ∷ names) sofar = trunc_goes name (trunc_in name) (λ t. truncs_of names (inserted t sofar)) (λ t. truncs_end names (inserted t sofar))

  pub truncs_on : LooksOn n Anything (trunc_program n)
  truncs_on = ((_, refl), λ found. on_given n Anything (names_in (Looked found)) (truncs_path []) found _ (λ names. truncs_end names []))

  -- ---- shares, one after the other, and the truncates behind them

  pub itself_on : {R : Type 0} (makes : Listing → List Share → List Trunc → R) (workers : ℕ) (listing : Listing) → listing.room ≡ n → (numbers : List ℕ) (sofar : List Share) → LooksOn n Anything (by_itself (map (worker_program workers listing) numbers) sofar (then_made makes listing))
  itself_on {R} makes workers listing here [] sofar =
      let next : List Trunc → Tries R = λ truncs. done (Ok (makes listing sofar truncs)) in
      on_then n Anything Anything (trunc_program listing.room) next (subst (λ k. LooksOn n Anything (trunc_program k)) (sym here) truncs_on) (λ truncs any. tt)
  itself_on {R} makes workers listing here (w ∷ numbers) sofar =
      let next : Share → Tries R = λ share. by_itself (map (worker_program workers listing) numbers) (sofar ++ share ∷ []) (then_made makes listing) in
      on_then n Anything Anything (worker_program workers listing w) next
      (subst (λ k. LooksOn n Anything (share_program k (dealt_to workers w 0 listing.droppings) listing.flat.covers)) (sym here) (share_on (dealt_to workers w 0 listing.droppings) listing.flat.covers))
      (λ share any. itself_on makes workers listing here numbers (sofar ++ share ∷ []))

  -- ---- bytes

  spells_on : (parts : List Placed) (sofar : List ℕ) → LooksOn n Anything (spells n parts sofar)
  spells_on [] sofar = tt
  spells_on (Zeros len ∷ parts) sofar = spells_on parts (sofar ++ replicate len 0)
  spells_on (Logged p ∷ parts) sofar = (
    (_, refl),
    λ found. on_given n Anything (bytes_in (Looked found)) (log_path p.host p.writer) found _ (λ bytes. on_either n Anything (nat_lt (length bytes) p.len) _ _ tt (spells_on parts (sofar ++ take p.len bytes))),
  )

  pub read_on : (hosts : List WriterHost) (parts : List Part) → LooksOn n Anything (read_program n hosts parts)
  read_on hosts parts = spells_on (placed_all hosts parts) []

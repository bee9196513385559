-- The reader that is opened, and what is told of a file, are those of what was read.
use Rattle.std.proofs.Common.{◌≡◌, ℕ, ◌+◌, ◌-◌, ◌<◌, ◌≤◌, suc, List, [], ◌∷◌, ◌++◌, map, sym, ap, ◌∙◌, arith, append_assoc}
use Rattle.std.specs.List.{range_with_len}
use Rattle.std.proofs.lemmas.List.{append-nil, map-append}
use Rattle.plfs_types.specs.declared.entries.Trunc.{Trunc}
use Rattle.plain_file.specs.Size.{size_from}
use Rattle.plain_file.specs.Sources.{source_at, kept_source}
use Rattle.plain_file.specs.Runs.{AreRuns}
use Rattle.interval_merge.specs.Lists.{newest_source}
use Rattle.attr_flow.specs.declared.attr.Attr.{Attr}
use Rattle.attr_flow.specs.Attributes.{gathered as told_by}
use Rattle.index_reader.specs.declared.gathered.Gathered.{Gathered}
use Rattle.index_reader.specs.declared.listing.Listing.{Listing}
use Rattle.index_reader.specs.declared.opened.OpenReader.{OpenReader}
use Rattle.index_reader.specs.declared.sharing.Share.{Share}
use Rattle.index_reader.specs.declared.sharing.ShareRead.{ShareRead}
use Rattle.index_reader.specs.Stages.{share_standing}
use Rattle.std.specs.Prelude.{Result}
use Rattle.mount_model.specs.declared.stuck.Stuck.{Stuck}
use Rattle.mount_model.specs.Standing.{Standing, ready}
use Rattle.mount_model.specs.Composed.{then_on}
use Rattle.mount_model.specs.FlowReplies.{on_ok}
use Rattle.mount_model.specs.declared.call.Call.{Call}
use Rattle.mount_model.specs.declared.reply.Reply.{Reply}
use Rattle.index_reader.specs.Truncs.{trunc_program}
use Rattle.index_reader.specs.Hosts.{hosts_of}
use Rattle.index_reader.specs.Runs.{merged_of}
use Rattle.index_reader.specs.Gathered.{IsGatheredOf, pieces_of_each, covers_of}
use Rattle.index_reader.proofs.Indices.RunLemmas.{runs_of-is, merged_of-is}
use Rattle.gather_flow.specs.OneIndex.{gathered_of, reader_of, attr_of}
use Rattle.gather_flow.specs.Shares.{by_itself, worker_program, programs_from}
use Rattle.gather_flow.specs.Gathering.{if_truncs_listed, reads_truncs, after_share, shares_from}
use Rattle.gather_flow.proofs.CoverLemmas.{covers_are}

-- what was gathered is one index
pub gathered_is : (listing : Listing) (shares : List Share) (truncs : List Trunc) (gathered : Gathered)
    → IsGatheredOf listing shares truncs gathered → AreRuns gathered.flat.pieces
    → gathered ≡ gathered_of listing shares truncs
gathered_is listing shares truncs gathered are runs =
    let merged : gathered.flat.pieces ≡ merged_of (listing.flat.pieces ∷ pieces_of_each shares) = merged_of-is (listing.flat.pieces ∷ pieces_of_each shares) gathered.flat.pieces runs are.pieces.newest in
    let covers = covers_are (covers_of shares ++ listing.flat.covers) gathered.flat.covers are.covers in
    λ i. record {
      room = are.room i;
      flat = record { covers = covers i; pieces = merged i };
      droppings = are.droppings i;
      truncs = are.truncates i;
    }

-- what is told of a reader that was opened
pub record IsOpenedOf (gathered : Gathered) (reader : OpenReader) : Type 0 where
  pub room : reader.room ≡ gathered.room
  pub hosts : reader.hosts ≡ hosts_of gathered.droppings
  pub covers : reader.covers ≡ gathered.flat.covers
  pub truncs : reader.truncs ≡ gathered.truncs
  pub size : reader.size ≡ size_from gathered.flat.pieces gathered.truncs
  pub kept : (x : ℕ) → source_at reader.pieces x ≡ kept_source gathered.truncs x (source_at gathered.flat.pieces x)

pub reader_is : (listing : Listing) (shares : List Share) (truncs : List Trunc) (gathered : Gathered) (reader : OpenReader)
    → IsGatheredOf listing shares truncs gathered → AreRuns gathered.flat.pieces → IsOpenedOf gathered reader → AreRuns reader.pieces
    → reader ≡ reader_of listing shares truncs
reader_is listing shares truncs gathered reader are runs opened clipped =
    let lists = listing.flat.pieces ∷ pieces_of_each shares in
    let merged : gathered.flat.pieces ≡ merged_of lists = merged_of-is lists gathered.flat.pieces runs are.pieces.newest in
    let pieces = runs_of-is (λ x. kept_source truncs x (newest_source lists x)) reader.pieces clipped
    (λ x. opened.kept x ∙ ap (λ ts. kept_source ts x (source_at gathered.flat.pieces x)) are.truncates ∙ ap (λ s. kept_source truncs x s) (are.pieces.newest x)) in
    let size = opened.size ∙ ap (λ ps. size_from ps gathered.truncs) merged ∙ ap (λ ts. size_from (merged_of lists) ts) are.truncates in
    let covers = opened.covers ∙ covers_are (covers_of shares ++ listing.flat.covers) gathered.flat.covers are.covers in
    λ i. record {
      room = (opened.room ∙ are.room) i;
      hosts = (opened.hosts ∙ ap hosts_of are.droppings) i;
      pieces = pieces i;
      size = size i;
      covers = covers i;
      truncs = (opened.truncs ∙ are.truncates) i;
    }

-- what is told of the file
pub attr_is : (listing : Listing) (shares : List Share) (truncs : List Trunc) (gathered : Gathered) (attr : Attr)
    → IsGatheredOf listing shares truncs gathered → AreRuns gathered.flat.pieces → attr ≡ told_by gathered.flat gathered.truncs
    → attr ≡ attr_of listing shares truncs
attr_is listing shares truncs gathered attr are runs told =
    let merged : gathered.flat.pieces ≡ merged_of (listing.flat.pieces ∷ pieces_of_each shares) = merged_of-is (listing.flat.pieces ∷ pieces_of_each shares) gathered.flat.pieces runs are.pieces.newest in
    let covers = covers_are (covers_of shares ++ listing.flat.covers) gathered.flat.covers are.covers in
    told ∙ (λ i. told_by (record { covers = covers i; pieces = merged i }) (are.truncates i))

-- the programs of the workers from one on
one_more : (a n : ℕ) → a < n → range_with_len a (n - a) ≡ a ∷ range_with_len (a + 1) (n - (a + 1))
one_more a n lt = let e : n - a ≡ suc (n - (a + 1)) = omega arith in ap (λ k. range_with_len a k) e

pub programs_on : (workers : ℕ) (listing : Listing) (worker : ℕ) → worker < workers
    → programs_from workers listing worker ≡ worker_program workers listing worker ∷ programs_from workers listing (worker + 1)
programs_on workers listing worker lt = ap (map (worker_program workers listing)) (one_more worker workers lt)

pub no_programs : (workers : ℕ) (listing : Listing) (worker : ℕ) → workers ≤ worker → programs_from workers listing worker ≡ []
no_programs workers listing worker le =
    let e : workers - worker ≡ 0 = omega arith in ap (λ k. map (worker_program workers listing) (range_with_len worker k)) e

-- the share of a worker, and then those after it
pub begins_share : (workers : ℕ) (listing : Listing) (worker : ℕ) (sofar : List Share) (s : Standing Call Reply (Result Share Stuck))
    → worker < workers → s ≡ ready (worker_program workers listing worker)
    → then_on s (after_share workers listing (worker + 1) sofar) ≡ ready (shares_from workers listing worker sofar)
begins_share workers listing worker sofar s lt is =
    ap (λ t. then_on t (after_share workers listing (worker + 1) sofar)) is
    ∙ sym (ap (λ programs. ready (by_itself programs sofar (reads_truncs listing))) (programs_on workers listing worker lt))

-- no share is left, and the truncates follow
pub begins_truncs : (workers : ℕ) (listing : Listing) (worker : ℕ) (sofar : List Share) (s : Standing Call Reply (Result (List Trunc) Stuck))
    → workers ≤ worker → s ≡ ready (trunc_program listing.room)
    → then_on s (on_ok (if_truncs_listed listing sofar)) ≡ ready (shares_from workers listing worker sofar)
begins_truncs workers listing worker sofar s le is =
    ap (λ t. then_on t (on_ok (if_truncs_listed listing sofar))) is
    ∙ sym (ap (λ programs. ready (by_itself programs sofar (reads_truncs listing))) (no_programs workers listing worker le))

-- the machines of the workers, one after the other
module _ (workers : ℕ) (listing : Listing) where
  abbrev begin_from : ℕ → List (Standing Call Reply (Result Share Stuck))
  begin_from worker = map (λ program. ready program) (programs_from workers listing worker)

  pub one_work_more : (worker : ℕ) (works : List ShareRead) (flow : ShareRead) → worker < workers → share_standing flow ≡ ready (worker_program workers listing worker)
      → map (λ (f : ShareRead). share_standing f) works ++ begin_from worker ≡ begin_from 0
      → map (λ (f : ShareRead). share_standing f) (works ++ flow ∷ []) ++ begin_from (worker + 1) ≡ begin_from 0
  one_work_more worker works flow lt is sofar =
      ap (λ ss. ss ++ begin_from (worker + 1)) (map-append (λ (f : ShareRead). share_standing f) works (flow ∷ []))
      ∙ append_assoc (map (λ (f : ShareRead). share_standing f) works) (share_standing flow ∷ []) (begin_from (worker + 1))
      ∙ ap (λ s. map (λ (f : ShareRead). share_standing f) works ++ s ∷ begin_from (worker + 1)) is
      ∙ ap (λ programs. map (λ (f : ShareRead). share_standing f) works ++ map (λ program. ready program) programs) (sym (programs_on workers listing worker lt))
      ∙ sofar

  pub all_works : (worker : ℕ) (works : List ShareRead) → workers ≤ worker
      → map (λ (f : ShareRead). share_standing f) works ++ begin_from worker ≡ begin_from 0
      → map (λ (f : ShareRead). share_standing f) works ≡ begin_from 0
  all_works worker works le sofar =
      sym (append-nil (map (λ (f : ShareRead). share_standing f) works))
      ∙ ap (λ programs. map (λ (f : ShareRead). share_standing f) works ++ map (λ program. ready program) programs) (sym (no_programs workers listing worker le))
      ∙ sofar

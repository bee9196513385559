-- What each statement on a whole file does, whatever is replied.
use Rattle.std.proofs.Common.{ℕ, List, [], Option}
use Rattle.std.specs.Prelude.{⊤, Result, Ok, Err}
use Rattle.mount_model.specs.declared.stuck.Stuck.{Stuck}
use Rattle.script_lang.specs.declared.line.Outcome.TheVariants as line
use Rattle.script_lang.specs.declared.script.Statement.TheVariants.{Flatten, Ls, Recover, Rename, Stat, Trunc}
use Rattle.attr_flow.specs.declared.attr.Attr.{Attr}
use Rattle.attr_flow.specs.declared.attr_flow.AttrOut.{AttrOut}
use Rattle.attr_flow.specs.declared.attr_flow.AttrOut.TheVariants.{Cached, MustMerge}
use Rattle.attr_flow.specs.Asking.{attr_program}
use Rattle.flatten_core.specs.declared.flattening.Flattened.{Flattened as WasFlattened}
use Rattle.flatten_core.specs.Flattening.{flatten_program}
use Rattle.torn_tail.specs.declared.recovering.Recovered.{Recovered as WasRecovered}
use Rattle.torn_tail.specs.Recovering.{recover_program}
use Rattle.trunc_rename.specs.Renaming.{rename_program}
use Rattle.trunc_rename.specs.Truncating.{truncate_program}
use Rattle.index_reader.specs.Opening.{open_at_program}
use Rattle.index_reader.specs.declared.listing.Listing.{Listing}
use Rattle.gather_flow.specs.Shares.{by_itself, programs_from}
use Rattle.outcomes.specs.Counts.{counts_of}
use Rattle.actor_core.specs.declared.kept.Kept.{Kept}
use Rattle.actor_core.specs.declared.kept.Stop.{Stop}
use Rattle.actor_core.specs.ByName.{flattens_file, lists_names, recovers_file, renames_file, truncates_file}
use Rattle.actor_core.specs.Endings.{ending, flattened, names_listed, recovered, renamed, stopped, told_of, truncated}
use Rattle.actor_core.specs.Names.{names_program}
use Rattle.actor_core.specs.Telling.{if_asked, if_relisted, tells_by, tells_of_file}
use Rattle.actor_core.specs.Work.{finishes}
use Rattle.headline_laws.proofs.Statements.Ends.{IsLeftOf, any_result, carried_ends}
use Rattle.headline_laws.proofs.Statements.Did.{DidBy, Does, halts, or_stuck_so, same_writer, still}

-- ---- what tells of a file

told_did : (stop : Option Stop) (kept : Kept) (name : List ℕ) (result : Result Attr Stuck) → DidBy stop kept (Stat name) (told_of kept result)
told_did stop kept name result =
    or_stuck_so (λ o. DidBy stop kept (Stat name) (ending o kept)) (λ (attr : Attr). line.Stat attr.size attr.stored attr.shares attr.truncs) result
    (λ (attr : Attr). still stop kept (Stat name) (line.Stat attr.size attr.stored attr.shares attr.truncs) tt tt (same_writer kept.writer) (λ made. tt))
    (still stop kept (Stat name) line.Fault tt tt (same_writer kept.writer) (λ made. tt))
    (λ folder file place. still stop kept (Stat name) (line.Damaged folder file place) tt tt (same_writer kept.writer) (λ made. tt))
    (λ why. still stop kept (Stat name) (line.Refused why) tt tt (same_writer kept.writer) (λ made. tt))

module _ (stop : Option Stop) (kept : Kept) (name : List ℕ) where
  relisted_did : (left : Option Stop) (result : Result Listing Stuck) → IsLeftOf stop left → Does stop kept (Stat name) (if_relisted kept left result)
  relisted_did left (Err because) was = told_did stop kept name (Err because)
  relisted_did left (Ok listing) was =
      carried_ends (DidBy stop kept (Stat name)) (λ r. ⊤) (by_itself (programs_from 1 listing 0) [] (tells_by listing)) left (λ later result. finishes (told_of kept result)) (finishes (stopped kept)) (any_result (by_itself (programs_from 1 listing 0) [] (tells_by listing)))
      (λ later result any is. told_did stop kept name result) (λ some. halts stop kept (Stat name) tt (same_writer kept.writer) (λ none. some (was none)))

  asked_did : (left : Option Stop) (result : Result AttrOut Stuck) → IsLeftOf stop left → Does stop kept (Stat name) (if_asked kept left result)
  asked_did left (Err because) was = told_did stop kept name (Err because)
  asked_did left (Ok (Cached attr)) was = told_did stop kept name (Ok attr)
  asked_did left (Ok (MustMerge room)) was =
      carried_ends (DidBy stop kept (Stat name)) (λ r. ⊤) (open_at_program room) left (if_relisted kept) (finishes (stopped kept)) (any_result (open_at_program room))
      (λ later result any is. relisted_did later result (λ none. is (was none))) (λ some. halts stop kept (Stat name) tt (same_writer kept.writer) (λ none. some (was none)))

pub tells_did : (stop : Option Stop) (kept : Kept) (name : List ℕ) → Does stop kept (Stat name) (tells_of_file kept stop name)
tells_did stop kept name =
    carried_ends (DidBy stop kept (Stat name)) (λ r. ⊤) (attr_program name) stop (if_asked kept) (finishes (stopped kept)) (any_result (attr_program name))
    (λ left result any was. asked_did stop kept name left result was) (halts stop kept (Stat name) tt (same_writer kept.writer))

-- ---- the statements on a whole file

pub truncates_did : (stop : Option Stop) (kept : Kept) (name : List ℕ) (size : ℕ) → Does stop kept (Trunc name size) (truncates_file kept stop name size)
truncates_did stop kept name size =
    let s = Trunc name size in
    carried_ends (DidBy stop kept s) (λ r. ⊤) (truncate_program name size) stop (λ left result. finishes (truncated kept result)) (finishes (stopped kept)) (any_result (truncate_program name size))
    (λ left result any was. or_stuck_so (λ o. DidBy stop kept s (ending o kept)) (λ stamp. line.Truncated stamp) result
    (λ stamp. still stop kept s (line.Truncated stamp) tt tt (same_writer kept.writer) (λ made. tt))
    (still stop kept s line.Fault tt tt (same_writer kept.writer) (λ made. tt))
    (λ folder file place. still stop kept s (line.Damaged folder file place) tt tt (same_writer kept.writer) (λ made. tt))
    (λ why. still stop kept s (line.Refused why) tt tt (same_writer kept.writer) (λ made. tt)))
    (halts stop kept s tt (same_writer kept.writer))

pub renames_did : (stop : Option Stop) (kept : Kept) (name to : List ℕ) → Does stop kept (Rename name to) (renames_file kept stop name to)
renames_did stop kept name to =
    let s = Rename name to in
    carried_ends (DidBy stop kept s) (λ r. ⊤) (rename_program name to) stop (λ left result. finishes (renamed kept result)) (finishes (stopped kept)) (any_result (rename_program name to))
    (λ left result any was. or_stuck_so (λ o. DidBy stop kept s (ending o kept)) (λ (made : ⊤). line.Renamed) result
    (λ made. still stop kept s line.Renamed tt tt (same_writer kept.writer) (λ was_made. tt))
    (still stop kept s line.Fault tt tt (same_writer kept.writer) (λ was_made. tt))
    (λ folder file place. still stop kept s (line.Damaged folder file place) tt tt (same_writer kept.writer) (λ was_made. tt))
    (λ why. still stop kept s (line.Refused why) tt tt (same_writer kept.writer) (λ was_made. tt)))
    (halts stop kept s tt (same_writer kept.writer))

pub flattens_did : (stop : Option Stop) (kept : Kept) (name : List ℕ) → Does stop kept (Flatten name) (flattens_file kept stop name)
flattens_did stop kept name =
    let s = Flatten name in
    carried_ends (DidBy stop kept s) (λ r. ⊤) (flatten_program name) stop (λ left result. finishes (flattened kept result)) (finishes (stopped kept)) (any_result (flatten_program name))
    (λ left result any was. or_stuck_so (λ o. DidBy stop kept s (ending o kept)) (λ (f : WasFlattened). line.Flattened f.flat f.pieces (counts_of f.covers)) result
    (λ (f : WasFlattened). still stop kept s (line.Flattened f.flat f.pieces (counts_of f.covers)) tt tt (same_writer kept.writer) (λ made. tt))
    (still stop kept s line.Fault tt tt (same_writer kept.writer) (λ made. tt))
    (λ folder file place. still stop kept s (line.Damaged folder file place) tt tt (same_writer kept.writer) (λ made. tt))
    (λ why. still stop kept s (line.Refused why) tt tt (same_writer kept.writer) (λ made. tt)))
    (halts stop kept s tt (same_writer kept.writer))

pub recovers_did : (stop : Option Stop) (kept : Kept) (name : List ℕ) → Does stop kept (Recover name) (recovers_file kept stop name)
recovers_did stop kept name =
    let s = Recover name in
    carried_ends (DidBy stop kept s) (λ r. ⊤) (recover_program name) stop (λ left result. finishes (recovered kept result)) (finishes (stopped kept)) (any_result (recover_program name))
    (λ left result any was. or_stuck_so (λ o. DidBy stop kept s (ending o kept)) (λ (r : WasRecovered). line.Recovered r.buried r.alive r.hold) result
    (λ (r : WasRecovered). still stop kept s (line.Recovered r.buried r.alive r.hold) tt tt (same_writer kept.writer) (λ made. tt))
    (still stop kept s line.Fault tt tt (same_writer kept.writer) (λ made. tt))
    (λ folder file place. still stop kept s (line.Damaged folder file place) tt tt (same_writer kept.writer) (λ made. tt))
    (λ why. still stop kept s (line.Refused why) tt tt (same_writer kept.writer) (λ made. tt)))
    (halts stop kept s tt (same_writer kept.writer))

pub lists_did : (stop : Option Stop) (kept : Kept) → Does stop kept Ls (lists_names kept stop)
lists_did stop kept =
    carried_ends (DidBy stop kept Ls) (λ r. ⊤) names_program stop (λ left result. finishes (names_listed kept result)) (finishes (stopped kept)) (any_result names_program)
    (λ left result any was. or_stuck_so (λ o. DidBy stop kept Ls (ending o kept)) (λ names. line.Listed names) result
    (λ names. still stop kept Ls (line.Listed names) tt tt (same_writer kept.writer) (λ made. tt))
    (still stop kept Ls line.Fault tt tt (same_writer kept.writer) (λ made. tt))
    (λ folder file place. still stop kept Ls (line.Damaged folder file place) tt tt (same_writer kept.writer) (λ made. tt))
    (λ why. still stop kept Ls (line.Refused why) tt tt (same_writer kept.writer) (λ made. tt)))
    (halts stop kept Ls tt (same_writer kept.writer))

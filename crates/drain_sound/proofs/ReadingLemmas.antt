-- A mount over a target in which all calls only read leaves it.
use Rattle.std.proofs.Common.{◌≡◌, ℕ, List, [], ◌∷◌, Some, ap, ◌∙◌, inl, inr}
use Rattle.std.specs.List.{AllByRecursion}
use Rattle.store_api.specs.declared.tree.Tree.{Tree}
use Rattle.store_api.specs.Step.{Step}
use Rattle.store_laws.specs.Outcomes.{IsLook}
use Rattle.store_laws.proofs.Facts.{look_told}
use Rattle.mount_model.specs.Entering.{next_id}
use Rattle.mount_model.specs.History.{Event, IsLegal, told_tree_after}
use Rattle.mount_model.specs.State.{State}
use Rattle.mount_sound.proofs.Facts.{ActsOn, OfEachAct, step_acts}
use Rattle.drain_sound.specs.Views.{OnlyReads}

-- the act of a call that only reads is a look
reading_acts : (old : State) (caller : ℕ) → OfEachAct old.table (next_id old) caller (λ call step. OnlyReads call → IsLook step)
reading_acts old caller = record {
  looks = λ call step look reads. look;
  rooms = λ name reads. absurd reads;
  enters = λ room h most reads. absurd reads;
  hostdirs = λ id row reads. absurd reads;
  indices = λ id row e reads. absurd reads;
  logs = λ id row e reads. absurd reads;
  writes = λ id row e at bytes reads. absurd reads;
  flushes = λ id row e reads. absurd reads;
  log_syncs = λ id row reads. absurd reads;
  index_syncs = λ id row reads. absurd reads;
  metas = λ id row reads. absurd reads;
  exits = λ id row e reads. absurd reads;
  holds = λ room reads. absurd reads;
  truncates = λ holder h e stamp size top item above reads. absurd reads;
  renames = λ holder h e to reads. absurd reads;
  releases = λ holder h e reads. absurd reads;
  starts = λ room f makes reads. absurd reads;
  packs = λ room h w f makes numbers reads. absurd reads;
  puts = λ flat f e bytes reads. absurd reads;
  flat_syncs = λ flat f e reads. absurd reads;
  installs = λ flat f e reads. absurd reads;
  dropping_syncs = λ room h w is_log named reads. absurd reads;
  mends = λ room h w n named reads. absurd reads;
  mend_metas = λ room h cover last named reads. absurd reads;
  buries = λ room h w named reads. absurd reads;
  mend_holds = λ room reads. absurd reads;
}

same_tree : (P : Step → Type 0) (tree after : Tree) → ((x : Step) → P x → IsLook x) → ActsOn P tree after → after ≡ tree
same_tree P tree after looks (inl same) = same
same_tree P tree after looks (inr a) = look_told a.step tree a.told after (looks a.step a.holds) a.tells

-- the tree stays
pub reading_stays : (start : State) (events : List Event) (tree : Tree) → IsLegal start events → AllByRecursion (λ (event : Event). OnlyReads event.ask.call) events → start.store.tree ≡ Some tree → told_tree_after start events ≡ Some tree
reading_stays start [] tree legal reads told = told
reading_stays start (e ∷ events) tree legal reads told =
    let g = step_acts (λ call x. OnlyReads call → IsLook x) start e.after e.caller e.ask e.reply tree (reading_acts start e.caller) legal.0 told in
    let same : g.0 ≡ tree = same_tree (λ x. OnlyReads e.ask.call → IsLook x) tree g.0 (λ x look. look reads.0) g.2 in
    reading_stays e.after events tree legal.1 reads.1 (g.1 ∙ ap (λ t. Some t) same)

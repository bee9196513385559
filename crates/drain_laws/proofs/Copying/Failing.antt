-- A Read of what is due of a log gives all of it, or the source's store failed.
use Rattle.std.proofs.Common.{◌≡◌, ℕ, ◌+◌, ◌≤◌, nat_lt, false, List, length, take, drop, Option, Some, None, refl, ap, sym, ◌∙◌, inl, inr, subst, arith}
use Rattle.std.specs.Prelude.{Result, Ok, Err}
use Rattle.std.proofs.lemmas.Bool.{cond-false}
use Rattle.std.proofs.lemmas.Bool.Decides.{nat_tests}
use Rattle.std.proofs.lemmas.List.{length-take, length-drop}
use Rattle.plfs_types.specs.declared.names.Path.{Path}
use Rattle.store_api.specs.declared.step.Answer.TheVariants.{Bytes}
use Rattle.store_api.specs.declared.tree.Tree.{Tree}
use Rattle.mount_model.specs.declared.call.Call.TheVariants.{Look}
use Rattle.mount_model.specs.declared.call.Look.TheVariants.{Read}
use Rattle.mount_model.specs.declared.reply.Reply.{Reply}
use Rattle.mount_model.specs.declared.reply.Reply.TheVariants.{Fault, Looked, NoMemory}
use Rattle.mount_model.specs.History.{Event}
use Rattle.mount_model.specs.Paths.{Name, log_path}
use Rattle.mount_model.specs.Step.{IsStep}
use Rattle.mount_sound.specs.Dropping.{bytes_of}
use Rattle.mount_sound.specs.Entries.{logged}
use Rattle.mount_sound.specs.Ledger.{entries_in}
use Rattle.mount_sound.proofs.Facts.{logged_take, take_less}
use Rattle.mount_model.specs.declared.stuck.Stuck.TheVariants as stuck
use Rattle.mount_model.specs.FlowReplies.{damage}
use Rattle.mount_model.specs.Running.{unbroken}
use Rattle.reader_laws.specs.Moments.{Dropping, IsSoundAt, Moment, landed, log_then}
use Rattle.reader_laws.proofs.Gathered.Facts.{landed_logged, read_ends}
use Rattle.reader_laws.proofs.Calls.Troubles.{answered}
use Rattle.reader_laws.proofs.Faults.TailFails.{stood_container}
use Rattle.reader_laws.proofs.Soundness.LookEnds.{container_of}
use Rattle.drain_copy.specs.declared.outcome.DrainStuck.{DrainStuck}
use Rattle.drain_copy.specs.declared.outcome.DrainStuck.TheVariants.{Source}
use Rattle.drain_copy.specs.declared.plan.Due.{Due}
use Rattle.drain_copy.specs.Copying.{part_told}
use Rattle.drain_sound.specs.Fronts.{dropping_in}
use Rattle.drain_laws.proofs.Planning.Aims.{IsFair}
use Rattle.drain_laws.proofs.Planning.Due.{IsDueOf}

-- where the store failed, that is what it ends in
failed_fair : (name : Name) (t : Tree) (why : DrainStuck) → ◌≡◌ {A = Result (List ℕ) DrainStuck} (Err (Source stuck.Fault)) (Err why) → IsFair name t why
failed_fair name t why e = let same : Source stuck.Fault ≡ why = cc in subst (IsFair name t) same tt

module _ (name : Name) (t : Tree) (log : Path) (place len : ℕ) (why : DrainStuck) where
  -- bytes enough aren't damage
  enough : (bytes : List ℕ) → len ≤ length bytes → part_told log place len (Looked (Bytes bytes)) ≡ Err why → IsFair name t why
  enough bytes long e =
      let whole : nat_lt (length bytes) len ≡ false = grind (arith, nat_tests, long) in
      let clash : ◌≡◌ {A = Result (List ℕ) DrainStuck} (Ok bytes) (Err why) = sym (cond-false (nat_lt (length bytes) len) (Err (Source (damage log (place + length bytes)))) (Ok bytes) whole) ∙ e in
      absurd (cc)

  by_reply : (reply other : Reply) → reply ≡ other → part_told log place len reply ≡ Err why → part_told log place len other ≡ Err why
  by_reply reply other is e = subst (λ r. part_told log place len r ≡ Err why) is e

-- the bytes from a place on, so many as are asked for
all_of_them : (place len : ℕ) (bytes : List ℕ) → place + len ≤ length bytes → len ≤ length (take len (drop place bytes))
all_of_them place len bytes within = omega (arith, within, length-take len (drop place bytes), length-drop place bytes)

pub part_fair : (name : Name) (t : Tree) (number : ℕ) (m : Moment) (s : IsSoundAt m) (e : Event) (due : Due) → IsDueOf number m due → (place len : ℕ) → 1 ≤ len → place + len ≤ due.bytes → e.ask ≡ unbroken (Look number (Read (log_path due.host due.writer) place len)) → IsStep m.state e.caller e.ask e.reply e.after
    → (why : DrainStuck) → part_told (log_path due.host due.writer) place len e.reply ≡ Err why → IsFair name t why
part_fair name t number m s e due its place len some within asked step why bad =
    let d : Dropping = dropping_in number due.host due.writer in
    let most : ℕ = due.count + length due.entries in
    let few : logged (take most (entries_in (m.issued number due.writer))) ≤ logged (take (landed m d) (entries_in (m.issued number due.writer))) =
    omega (arith, ap logged (take_less most (landed m d) (entries_in (m.issued number due.writer)) its.landed), logged_take most (take (landed m d) (entries_in (m.issued number due.writer)))) in
    let long : place + len ≤ length (bytes_of (log_then m d)) = omega (arith, within, its.bytes, few, landed_logged m s d its.stood.bytes its.stood.is_item its.stood.there) in
    by_file (log_then m d) refl long
  where
    by_file : (file : Option (List ℕ)) → log_then m (dropping_in number due.host due.writer) ≡ file → place + len ≤ length (bytes_of (log_then m (dropping_in number due.host due.writer))) → IsFair name t why
    by_file None none long = absurd (omega (arith, long, some, ap (λ o. length (bytes_of o)) none))
    by_file (Some bytes) there long =
        let log : Path = log_path due.host due.writer in
        let c = container_of m s number (stood_container m s (dropping_in number due.host due.writer) its.stood) in
        elim (read_ends m s e.caller number log place len bytes e.reply e.after c.other there (answered m.state e.caller (Look number (Read log place len)) e.ask e.reply e.after asked step)) as (λ _. IsFair name t why) [
          | inl reads ↦ enough name t log place len why (take len (drop place bytes)) (all_of_them place len bytes (omega (arith, long, ap (λ o. length (bytes_of o)) there))) (by_reply name t log place len why e.reply _ reads bad)
          | inr (inl (fault, risen)) ↦ failed_fair name t why (by_reply name t log place len why e.reply Fault fault bad)
          | inr (inr (memory, same)) ↦ failed_fair name t why (by_reply name t log place len why e.reply NoMemory memory bad)
        ]

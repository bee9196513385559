-- A recovery shows no damage.
use Rattle.std.proofs.Common.{◌≡◌, ◌≤◌, ℕ, nat_le, true, false, List, [], ◌∷◌, ◌++◌, Some, refl, sym, inl, inr, subst}
use Rattle.std.specs.Prelude.{Result, Ok, Err, if◌then◌else◌}
use Rattle.std.specs.List.{AllByRecursion}
use Rattle.plain_file.proofs.Facts.{Among}
use Rattle.mount_model.specs.declared.call.Call.TheVariants.{Look, MendHold}
use Rattle.mount_model.specs.declared.call.Look.TheVariants.{List as ListFolder}
use Rattle.mount_model.specs.declared.call.Ask.{Ask}
use Rattle.mount_model.specs.declared.reply.Reply.{Reply}
use Rattle.mount_model.specs.declared.reply.Reply.TheVariants.{Damaged, Looked, Mended}
use Rattle.mount_model.specs.Paths.{Name}
use Rattle.container_layout.specs.Paths.{openhosts}
use Rattle.mount_model.specs.Recovering.{IsHostAndWriter}
use Rattle.mount_model.specs.State.{State, last_id}
use Rattle.mount_model.specs.Step.{IsStep}
use Rattle.mount_sound.specs.Ledger.{Ledger}
use Rattle.mount_sound.specs.Owed.{May}
use Rattle.mount_sound.specs.Sound.{IsSoundFor}
use Rattle.mount_undamaged.specs.Damage.{ShowsNoDamage}
use Rattle.mount_model.specs.declared.stuck.Stuck.{Stuck}
use Rattle.mount_model.specs.Running.{unbroken}
use Rattle.mount_model.specs.Program.{done}
use Rattle.mount_model.specs.declared.names.OpenEntry.{OpenEntry}
use Rattle.mount_model.specs.FlowListed.{file_in, or_trouble, told_by}
use Rattle.mount_model.specs.Names.{open_in}
use Rattle.mount_model.specs.Order.{entries_by_writer, put_by}
use Rattle.mount_model.specs.FlowReplies.{Tries, damage, is_no_folder, on_ok}
use Rattle.torn_tail.specs.declared.recovering.Recovered.{Recovered}
use Rattle.torn_tail.specs.Recovering.{entries_named, hold_mended, lists_open, mends_hold, noted, nothing, recover_program, recovers, recovers_listed}
use Rattle.torn_tail.specs.Writers.{writer_program}
use Rattle.trouble_laws.specs.Undamaged.{IsNoDamage, IsUndamaged}
use Rattle.trouble_laws.proofs.Finding.{Anything, anything_stays, failure_plain, found_ends}
use Rattle.trouble_laws.proofs.Listed.{IsPlain, entries_open, list_ends}
use Rattle.trouble_laws.proofs.Walking.{Ends, Stays, ends_ask, ends_both, ends_call, ends_done}
use Rattle.trouble_laws.proofs.OneWriter.{Fate, drawn_stays, writer_ends}

-- ---- one writer after the other

-- the numbers of the entries are in their ranges, whatever the state; and their ids were drawn
abbrev AreInRange : List OpenEntry → Type 0
AreInRange entries = AllByRecursion (λ (e : OpenEntry). IsHostAndWriter e.host e.writer) entries

abbrev AreDrawn : List OpenEntry → State → Type 0
AreDrawn entries state = AllByRecursion (λ (e : OpenEntry). e.writer ≤ last_id state) entries

all_drawn_stay : (entries : List OpenEntry) → Stays (AreDrawn entries)
all_drawn_stay [] issued old new other asked reply may step s f = tt
all_drawn_stay (e ∷ entries) issued old new other asked reply may step s f = (drawn_stays e.writer issued old new other asked reply may step s f.0, all_drawn_stay entries issued old new other asked reply may step s f.1)

module _ (caller number : ℕ) where
  -- what became of one writer leads on to the others
  fate_ends : (e : OpenEntry) (entries : List OpenEntry) (sofar : Recovered) → ((then_so : Recovered) (now : State) → AreDrawn entries now → Ends caller IsUndamaged (recovers number entries then_so) now)
      → (result : Result Fate Stuck) → IsUndamaged result → (now : State) → AreDrawn entries now → Ends caller IsUndamaged (on_ok (λ fate. recovers number entries (noted e fate sofar)) result) now
  fate_ends e entries sofar others (Ok fate) plain now drawn = others (noted e fate sofar) now drawn
  fate_ends e entries sofar others (Err why) plain now drawn = ends_done caller IsUndamaged (Err why) plain now

  recovers_end : (entries : List OpenEntry) → AreInRange entries → (sofar : Recovered) (state : State) → AreDrawn entries state → Ends caller IsUndamaged (recovers number entries sofar) state
  recovers_end [] fits sofar state f = ends_done caller IsUndamaged (Ok sofar) tt state
  recovers_end (e ∷ entries) fits sofar state f =
      ends_both caller IsUndamaged IsUndamaged (AreDrawn entries) (all_drawn_stay entries) (writer_program number e) (on_ok (λ fate. recovers number entries (noted e fate sofar))) state f.1 (writer_ends caller number e fits.0 state f.0)
      (fate_ends e entries sofar (λ then_so now drawn. recovers_end entries fits.1 then_so now drawn))

-- ---- those that are listed

abbrev AreSuch : (OpenEntry → Type 0) → Result (List OpenEntry) Stuck → Type 0
AreSuch such (Ok entries) = AllByRecursion such entries
AreSuch such (Err why) = IsNoDamage why

module _ (such : OpenEntry → Type 0) where
  all_push : (es : List OpenEntry) (e : OpenEntry) → AllByRecursion such es → such e → AllByRecursion such (es ++ e ∷ [])
  all_push [] e a p = (p, tt)
  all_push (x ∷ es) e a p = (a.0, all_push es e a.1 p)

  all_put : (e : OpenEntry) (es : List OpenEntry) → such e → AllByRecursion such es → AllByRecursion such (put_by (λ (x : OpenEntry). x.writer) e es)
  all_put e [] p a = (p, tt)
  all_put e (x ∷ es) p a = elim (nat_le e.writer x.writer) as (λ b. AllByRecursion such (if b then e ∷ x ∷ es else x ∷ put_by (λ (y : OpenEntry). y.writer) e es)) [
    | true ↦ (p, a)
    | false ↦ (a.0, all_put e es p a.1)
  ]

  all_ordered : (es : List OpenEntry) → AllByRecursion such es → AllByRecursion such (entries_by_writer es)
  all_ordered [] a = tt
  all_ordered (e ∷ es) a = all_put e (entries_by_writer es) a.0 (all_ordered es a.1)

  named_such : (names : List Name) (sofar : List OpenEntry) → ((name : Name) → Among name names → (e : OpenEntry) × (open_in name ≡ Some e) × such e) → AllByRecursion such sofar → AreSuch such (entries_named names sofar)
  named_such [] sofar each a = a
  named_such (name ∷ names) sofar each a =
      let here = each name (inl refl) in
      subst (λ o. AreSuch such (or_trouble o (damage (file_in openhosts name) 0) (λ (e : OpenEntry). entries_named names (sofar ++ e ∷ [])))) (sym here.1)
      (named_such names (sofar ++ here.0 ∷ []) (λ n b. each n (inr b)) (all_push sofar here.0 a here.2))

  told_such : (reply : Reply) → IsPlain reply → AreSuch such (told_by openhosts (λ names. entries_named names []) reply)
  told_such (Looked found_) plain = absurd plain
  told_such (Damaged folder file) plain = absurd plain
  told_such reply plain = tt

all_so : (P Q : OpenEntry → Type 0) (es : List OpenEntry) → ((e : OpenEntry) → P e → Q e) → AllByRecursion P es → AllByRecursion Q es
all_so P Q [] so a = tt
all_so P Q (e ∷ es) so a = (so e a.0, all_so P Q es so a.1)

module _ (caller number : ℕ) where
  -- in the state in which they were listed
  abbrev IsEntry : State → OpenEntry → Type 0
  IsEntry state e = IsHostAndWriter e.host e.writer × (e.writer ≤ last_id state)

  listed_end : (issued : Ledger) (state after : State) (q : Ask) (reply : Reply) → May state caller q → IsStep state caller q reply after → IsSoundFor issued state → (result : Result (List OpenEntry) Stuck) → AreSuch (IsEntry state) result → Ends caller IsUndamaged (recovers_listed number result) after
  listed_end issued state after q reply may step s (Err why) plain = ends_done caller IsUndamaged (Err why) plain after
  listed_end issued state after q reply may step s (Ok entries) all =
      let sorted = all_ordered (IsEntry state) entries all in
      recovers_end caller number (entries_by_writer entries) (all_so (IsEntry state) (λ e. IsHostAndWriter e.host e.writer) (entries_by_writer entries) (λ e i. i.0) sorted) nothing after
      (all_drawn_stay (entries_by_writer entries) issued state after caller q reply may step s (all_so (IsEntry state) (λ e. e.writer ≤ last_id state) (entries_by_writer entries) (λ e i. i.1) sorted))

  mended_plain : (reply : Reply) → ShowsNoDamage reply → IsUndamaged (hold_mended reply)
  mended_plain (Mended made) shows = tt
  mended_plain reply shows = failure_plain reply shows

  hold_ends : (state : State) → Ends caller IsUndamaged (mends_hold number) state
  hold_ends = ends_call caller IsUndamaged (MendHold number) (λ reply. done (hold_mended reply)) (λ reply shows. ends_done caller IsUndamaged (hold_mended reply) (mended_plain reply shows))

  abbrev open_call : Ask
  open_call = unbroken (Look number (ListFolder openhosts))

  abbrev OpenListed : Reply → Tries Recovered
  OpenListed reply = if is_no_folder reply then mends_hold number else recovers_listed number (told_by openhosts (λ names. entries_named names []) reply)

  plain_folder : (r : Reply) → IsPlain r → is_no_folder r ≡ false
  plain_folder (Looked found_) plain = absurd plain
  plain_folder (Damaged folder file) plain = absurd plain
  plain_folder r plain = refl

  open_listed : (issued : Ledger) (state : State) (reply : Reply) (after : State) → May state caller open_call → IsStep state caller open_call reply after → IsSoundFor issued state → Ends caller IsUndamaged (OpenListed reply) after
  open_listed issued state reply after may step s = elim (list_ends issued state s caller number openhosts reply after step) as (λ _. Ends caller IsUndamaged (OpenListed reply) after) [
    | inl (names, l, is) ↦ subst (λ r. Ends caller IsUndamaged (OpenListed r) after) (sym is)
        (listed_end issued state after open_call reply may step s (entries_named names [])
        (named_such (IsEntry state) names [] (λ name a. (let o = entries_open issued state s number names l name a in (o.0, o.1, (o.2.fits, o.2.drawn)))) tt))
    | inr (inl (l, is)) ↦ subst (λ r. Ends caller IsUndamaged (OpenListed r) after) (sym is) (hold_ends after)
    | inr (inr plain) ↦ subst (λ b. Ends caller IsUndamaged (if b then mends_hold number else recovers_listed number (told_by openhosts (λ names. entries_named names []) reply)) after) (sym (plain_folder reply plain))
        (listed_end issued state after open_call reply may step s (told_by openhosts (λ names. entries_named names []) reply) (told_such (IsEntry state) reply plain))
  ]

  open_ends : (state : State) → Ends caller IsUndamaged (lists_open number) state
  open_ends state = ends_ask caller IsUndamaged Anything anything_stays (Look number (ListFolder openhosts)) OpenListed (λ issued now reply after may step s f. open_listed issued now reply after may step s) state tt

pub recover_ends : (caller : ℕ) (name : List ℕ) (state : State) → Ends caller IsUndamaged (recover_program name) state
recover_ends caller name = found_ends caller name lists_open (open_ends caller)

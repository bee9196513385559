-- A writer that entered a container stays there, and where its index was made it isn't refused its log.
use Rattle.std.proofs.Common.{◌≡◌, ◌≤◌, inl, inr, ℕ, true, nat_eq, List, [], ◌∷◌, ◌++◌, Option, Some, None, Ok, Err, refl, sym, ap, ◌∙◌, subst, arith, if◌then◌else◌}
use Rattle.std.specs.Prelude.{slice_get, ◌&&◌}
use Rattle.std.proofs.lemmas.Bool.Decides.{nat_tests}
use Rattle.turn_object.specs.Callers.{made_by}
use Rattle.store_api.specs.declared.step.Answer.TheVariants.{Made, NoFolder, NoRoom, Old}
use Rattle.store_api.specs.declared.store.Trouble.TheVariants as trouble
use Rattle.store_api.specs.declared.tree.Room.{Room}
use Rattle.store_api.specs.declared.tree.Tree.{Tree}
use Rattle.store_laws.specs.There.{LacksRoom}
use Rattle.store_laws.proofs.Facts.{acts_told, create_told}
use Rattle.mount_model.specs.declared.call.Call.TheVariants.{Enter, MakeIndex, MakeLog}
use Rattle.mount_model.specs.declared.reply.Refusal.{Refusal}
use Rattle.mount_model.specs.declared.reply.Refusal.TheVariants.{NotOpen}
use Rattle.mount_model.specs.declared.reply.Reply.TheVariants as reply
use Rattle.mount_model.specs.declared.row.Row.{Row}
use Rattle.mount_model.specs.declared.row.Stage.{Stage}
use Rattle.mount_model.specs.declared.row.Stage.TheVariants as stage
use Rattle.container_layout.specs.Paths.{hostdir_of}
use Rattle.mount_model.specs.Building.{build_outcome, index_step, log_step}
use Rattle.mount_model.specs.Entering.{EntersAs, draw_check, enter_outcome, entered, next_id}
use Rattle.mount_model.specs.History.{Event}
use Rattle.mount_model.specs.Making.{MakesAct, Refuses, Told}
use Rattle.mount_model.specs.Paths.{Name, index_path, log_path}
use Rattle.mount_model.specs.Regular.{IsRegular}
use Rattle.mount_model.specs.State.{State, Table, last_id, put}
use Rattle.mount_model.specs.Step.{Answers, IsStep}
use Rattle.mount_model.specs.Table.{at_stage, held_by, only, row_of, writer_of}
use Rattle.mount_model.proofs.Facts.{is_held, match_cases, row_of-push, row_of-with_row}
use Rattle.mount_sound.specs.Owed.{IsLawful}
use Rattle.reader_laws.specs.Moments.{IsSoundAt, Moment, moment_after, next_moment}
use Rattle.reader_laws.proofs.Gathered.Facts.{legal_first, legal_rest, sound_after}
use Rattle.reader_laws.proofs.Gathered.Moments.Stepping.{sound_next}
use Rattle.writer_laws.specs.Knowing.{HasRow}
use Rattle.writer_laws.proofs.Stops.{spared_row}
use Rattle.headline_laws.proofs.Landed.Leaving.{row_drawn}
use Rattle.headline_laws.proofs.Makers.Holding.{answered_call, not_own, whole_answer}

-- ---- it entered

never_drawn : (old : State) → IsRegular old → row_of (next_id old) old.table.writers ≡ None
never_drawn old regular = by (row_of (next_id old) old.table.writers) refl
  where
    by : (o : Option Row) → row_of (next_id old) old.table.writers ≡ o → o ≡ None
    by None is = refl
    by (Some row) is = let drawn : next_id old ≤ last_id old = row_drawn (next_id old) row old regular is in absurd (omega (arith, drawn))

-- its row is in this container, under this host, and its buffer holds so many entries
pub record EnteredRow (n room host most w : ℕ) (state : State) : Type 0 where
  pub row : Row
  pub has : HasRow n w row state
  pub in_room : row.room ≡ room
  pub its_host : row.host ≡ host
  pub begun : row.stage ≡ stage.Entered
  pub capacity : row.pending.capacity ≡ most

pushed : (row : Row) (table : Table) (told : Told) (w : ℕ) → reply.Entered w ≡ (enter_outcome row table told).reply → (row.id ≡ w) × ((enter_outcome row table told).table.writers ≡ table.writers ++ row ∷ [])
pushed row table (Ok Made) w e = (cc, refl)
pushed row table (Ok NoFolder) w e = absurd (cc)
pushed row table (Ok NoRoom) w e = absurd (cc)
pushed row table (Ok answer) w e = absurd (cc)
pushed row table (Err trouble.Fault) w e = absurd (cc)
pushed row table (Err trouble.NoMemory) w e = absurd (cc)

pub entered_so : (n room host most w : ℕ) (old new : State) → IsRegular old → Answers old n (Enter room host most) (reply.Entered w) new → EnteredRow n room host most w new
entered_so n room host most w old new regular a = elim (match_cases (draw_check old room) (EntersAs n room host most old (reply.Entered w) new) (λ why. Refuses why old (reply.Entered w) new) a) as (λ _. EnteredRow n room host most w new) [
  | inr (why, some, refused) ↦ absurd (let e : reply.Entered w ≡ reply.Refused why = refused.0 in cc)
  | inl (none, f) ↦
      let mine : Row = entered old n room host most in
      let p = pushed mine old.table f.makes.told w f.makes.answered in
      let rows : new.table.writers ≡ old.table.writers ++ mine ∷ [] = ap (λ (s : State). s.table.writers) f.makes.after ∙ p.1 in
      let at : row_of (next_id old) (old.table.writers ++ mine ∷ []) ≡ Some mine = row_of-push old.table.writers mine (never_drawn old regular) in
      let id : next_id old ≡ w = p.0 in
      record {
        row = mine;
        has = record { there = ap (λ rs. row_of w rs) rows ∙ ap (λ k. row_of k (old.table.writers ++ mine ∷ [])) (sym id) ∙ at; owned = refl };
        in_room = refl;
        its_host = refl;
        begun = refl;
        capacity = refl;
      }
]

pub entered_row : (n room host most w : ℕ) (m : Moment) (e : Event) → IsSoundAt m → IsStep m.state e.caller e.ask e.reply e.after → e.caller ≡ n → e.ask.call ≡ Enter room host most → e.reply ≡ reply.Entered w → EnteredRow n room host most w e.after
entered_row n room host most w m e sound step own asked told =
    let a : Answers m.state e.caller e.ask.call e.reply e.after = answered_call m.state e step (λ is. let clash : reply.Stopped ≡ reply.Entered w = sym is ∙ told in absurd (cc)) (λ is. let clash : reply.NoMemory ≡ reply.Entered w = sym is ∙ told in absurd (cc)) in
    entered_so n room host most w m.state e.after sound.regular (subst (λ r. Answers m.state n (Enter room host most) r e.after) told (subst (λ c. Answers m.state n c e.reply e.after) asked (subst (λ k. Answers m.state k e.ask.call e.reply e.after) own a)))

-- ---- its index was made

-- its row is at the stage behind the index
pub record IsIndexed (n w : ℕ) (state : State) : Type 0 where
  pub row : Row
  pub has : HasRow n w row state
  pub staged : row.stage ≡ stage.Indexed

pub built : (at : Stage) (folder file : Name) (row : Row) (table : Table) (told : Told) → reply.Done ≡ (build_outcome at folder file row table told).reply → (build_outcome at folder file row table told).table ≡ put (at_stage at row) table
built at folder file row table (Ok Made) is = refl
built at folder file row table (Ok (Old room)) is = refl
built at folder file row table (Ok NoRoom) is = absurd (cc)
built at folder file row table (Ok NoFolder) is = absurd (cc)
built at folder file row table (Ok answer) is = absurd (cc)
built at folder file row table (Err trouble.Fault) is = absurd (cc)
built at folder file row table (Err trouble.NoMemory) is = absurd (cc)

pub indexed_so : (n w : ℕ) (old new : State) → Answers old n (MakeIndex w) reply.Done new → IsIndexed n w new
indexed_so n w old new a =
    elim (match_cases (writer_of n (only stage.Housed) w old.table.writers) (Refuses NotOpen old reply.Done new) (λ row. MakesAct (index_step row) (build_outcome stage.Indexed (hostdir_of row.host) (index_path row.host row.id).file row old.table) old reply.Done new) a) as (λ _. IsIndexed n w new) [
      | inl (none, refused) ↦ absurd (let clash : reply.Done ≡ reply.Refused NotOpen = refused.0 in cc)
      | inr (row, held, m) ↦
          let h = is_held n (only stage.Housed) w old.table.writers row held in
          let new_row : Row = at_stage stage.Indexed row in
          let rows : new.table.writers ≡ (put new_row old.table).writers = ap (λ (s : State). s.table.writers) m.after ∙ ap (λ (t : Table). t.writers) (built stage.Indexed (hostdir_of row.host) (index_path row.host row.id).file row old.table m.told m.answered) in
          record {
            row = new_row;
            has = record {
              there = ap (λ rs. row_of w rs) rows ∙ ap (λ k. row_of k (put new_row old.table).writers) (sym h.is) ∙ row_of-with_row new_row old.table.writers row (ap (λ k. row_of k old.table.writers) h.is ∙ h.found);
              owned = h.owned;
            };
            staged = refl;
          }
    ]

-- ---- it isn't refused its log

its_writer : (n w : ℕ) (row : Row) (rows : List Row) → row_of w rows ≡ Some row → row.owner ≡ n → row.stage ≡ stage.Indexed → writer_of n (only stage.Indexed) w rows ≡ Some row
its_writer n w row rows there owned staged =
    let is : nat_eq row.owner n ≡ true = grind (arith, nat_tests) in
    ap (held_by n (only stage.Indexed)) there ∙ ap (λ b. if b && only stage.Indexed row.stage then Some row else None) is ∙ ap (λ (s : Stage). if only stage.Indexed s then Some row else None) staged

refused_none : (row : Row) (table : Table) (told : Told) (why : Refusal) → reply.Refused why ≡ (build_outcome stage.Open (hostdir_of row.host) (log_path row.host row.id).file row table told).reply → told ≡ Ok NoRoom
refused_none row table (Ok NoRoom) why e = refl
refused_none row table (Ok Made) why e = absurd (cc)
refused_none row table (Ok (Old room)) why e = absurd (cc)
refused_none row table (Ok NoFolder) why e = absurd (cc)
refused_none row table (Ok answer) why e = absurd (cc)
refused_none row table (Err trouble.Fault) why e = absurd (cc)
refused_none row table (Err trouble.NoMemory) why e = absurd (cc)

no_room : (tree : Tree) (n : ℕ) → (room : Room) × (slice_get tree.rooms n ≡ Some room) → LacksRoom tree n → ⊥
no_room tree n (room, there) none = let clash : None ≡ Some room = sym none ∙ there in absurd (cc)

never_refused : (m : Moment) → IsSoundAt m → (n w : ℕ) (why : Refusal) (after : State) → IsIndexed n w m.state → Answers m.state n (MakeLog w) (reply.Refused why) after → ⊥
never_refused m s n w why after i a =
    elim (match_cases (writer_of n (only stage.Indexed) w m.state.table.writers) (Refuses NotOpen m.state (reply.Refused why) after) (λ row. MakesAct (log_step row) (build_outcome stage.Open (hostdir_of row.host) (log_path row.host row.id).file row m.state.table) m.state (reply.Refused why) after) a) as (λ _. ⊥) [
      | inl (none, refused) ↦ let clash : None ≡ Some i.row = sym none ∙ its_writer n w i.row m.state.table.writers i.has.there i.has.owned i.staged in absurd (cc)
      | inr (row, held, does) ↦
          let h = is_held n (only stage.Indexed) w m.state.table.writers row held in
          let placed = s.sound.placed w row h.found in
          let k = acts_told (log_step row) m.state.store after.store s.shape.tree does.told s.shape.told does.made in
          no_room s.shape.tree row.room placed ((create_told row.room (log_path row.host row.id) s.shape.tree does.told k.0 k.2).stays NoRoom (refused_none row m.state.table does.told why does.answered) (λ clash. cc)).1
    ]

still_indexed : (n w : ℕ) (m : Moment) (events : List Event) → IsLawful m.state events → made_by n events ≡ [] → IsIndexed n w m.state → IsIndexed n w (moment_after m events).state
still_indexed n w m [] lawful none i = i
still_indexed n w m (e ∷ events) lawful none i =
    let rest = not_own n e events none in
    still_indexed n w (next_moment m e) events lawful.2 rest.1 (record { row = i.row; has = spared_row n w i.row m.state e.caller e.ask e.reply e.after (λ own. absurd (rest.0 own)) i.has lawful.1; staged = i.staged })

-- A writer whose index was made isn't refused its log.
pub logs_then : (n w : ℕ) (m : Moment) (e : Event) (u : List Event) (last : Event) (rest : List Event) (why : Refusal) → IsSoundAt m → IsLawful m.state (e ∷ (u ++ last ∷ rest)) → e.caller ≡ n → e.ask.call ≡ MakeIndex w → e.ask.stop ≡ None → e.reply ≡ reply.Done → made_by n u ≡ []
    → last.caller ≡ n → last.ask.call ≡ MakeLog w → last.reply ≡ reply.Refused why → ⊥
logs_then n w m e u last rest why s lawful own asked whole told none last_own last_asked refused =
    let a : Answers m.state n (MakeIndex w) reply.Done e.after = subst (λ r. Answers m.state n (MakeIndex w) r e.after) told (subst (λ c. Answers m.state n c e.reply e.after) asked (subst (λ k. Answers m.state k e.ask.call e.reply e.after) own (whole_answer m.state e lawful.1 whole))) in
    let next : Moment = next_moment m e in
    let there : Moment = moment_after next u in
    let first : IsLawful next.state u = legal_first next u (last ∷ rest) lawful.2 in
    let s_there : IsSoundAt there = sound_after next u first (sound_next m e (u ++ last ∷ rest) lawful s) in
    let on : IsLawful there.state (last ∷ rest) = legal_rest next u (last ∷ rest) lawful.2 in
    let b : Answers there.state last.caller last.ask.call last.reply last.after = answered_call there.state last on.1 (λ x. let clash : reply.Stopped ≡ reply.Refused why = sym x ∙ refused in absurd (cc)) (λ x. let clash : reply.NoMemory ≡ reply.Refused why = sym x ∙ refused in absurd (cc)) in
    never_refused there s_there n w why last.after (still_indexed n w next u first none (indexed_so n w m.state e.after a))
    (subst (λ r. Answers there.state n (MakeLog w) r last.after) refused (subst (λ c. Answers there.state n c last.reply last.after) last_asked (subst (λ k. Answers there.state k last.ask.call last.reply last.after) last_own b)))

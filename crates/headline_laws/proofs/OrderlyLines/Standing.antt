-- What an actor keeps, and what its lines so far say of it.
use Rattle.std.proofs.Common.{◌≡◌, ◌≢◌, ◌⊎◌, inl, inr, ℕ, Bool, true, false, nat_eq, List, [], ◌∷◌, ◌++◌, map, Option, Some, None, refl, sym, ap, ◌∙◌, subst, if◌then◌else◌, ◌+◌}
use Rattle.std.specs.Prelude.{⊤, is_some}
use Rattle.std.specs.List.{Any}
use Rattle.mount_model.specs.Performers.{told_at}
use Rattle.writer_flow.specs.declared.handle.WriterHandle.{WriterHandle}
use Rattle.index_reader.specs.declared.opened.OpenReader.{OpenReader}
use Rattle.script_lang.specs.declared.line.Line.{Line}
use Rattle.script_lang.specs.declared.line.Outcome.{Outcome}
use Rattle.script_lang.specs.declared.line.Outcome.TheVariants as line
use Rattle.script_lang.specs.declared.line.Why.TheVariants.{AlreadyOpen}
use Rattle.script_lang.specs.declared.script.Statement.{Statement}
use Rattle.script_lang.specs.declared.script.Statement.TheVariants.{Close, Open}
use Rattle.actor_core.specs.declared.kept.Kept.{Kept}
use Rattle.actor_core.specs.declared.kept.Stop.{Stop}
use Rattle.actor_core.specs.Endings.{Ending}
use Rattle.run_core.specs.Course.{own as own_statements}
use Rattle.headline.specs.Run.{Phased, Told, beside, own}
use Rattle.headline.specs.Files.{reader_after, reader_next}
use Rattle.headline.specs.Changes.{Writing, id_of, in_doubt, none, unsure, writer, writing_after, writing_next}
use Rattle.headline.specs.Causes.{MayHave, last_outcome}
use Rattle.plain_file.proofs.Facts.{Among}
use Rattle.reader_laws.proofs.Gathered.Facts.{found_any}
use Rattle.headline_laws.proofs.Statements.Did.{ArmsSo, Did, IsOpen, IsThere, ReadsSo, StopsSo, WritesSo}
use Rattle.headline_laws.proofs.Statements.Does.{Ended, did, was_gone}
use Rattle.headline_laws.proofs.Statements.Chains.{Chain}
use Rattle.headline_laws.proofs.OrderlyLines.Places.{actors}

-- ---- an actor's lines as they are told

-- each line is the end of its statement, the actor keeping this before the first
abbrev pub Follow : Kept → List Told → Type 0
Follow kept [] = ⊤
Follow kept (t ∷ ts) = (e : Ending) × (t.outcome ≡ e.outcome) × Ended kept t.statement e × Follow e.kept ts

pub own_follow : (actor place : ℕ) (ss : List Phased) (lines : List Line) (kept : Kept) → Chain kept (own_statements actor (map (λ (s : Phased). s.is) ss)) (told_at actor (actors ss) lines) → Follow kept (own actor (beside place ss lines))
own_follow actor place [] lines kept chain = tt
own_follow actor place (s ∷ ss) [] kept chain = tt
own_follow actor place (s ∷ ss) (l ∷ lines) kept chain =
    let t : Told = record { phase = s.phase; place = place; actor = s.is.actor; statement = s.is.statement; outcome = l.outcome } in
    let mine = own_statements actor (map (λ (s : Phased). s.is) ss) in
    let theirs = told_at actor (actors ss) lines in
    let later = own actor (beside (place + 1) ss lines) in
    elim (nat_eq s.is.actor actor) as (λ b. Chain kept (if b then s.is ∷ mine else mine) (if b then l ∷ theirs else theirs) → Follow kept (if b then t ∷ later else later)) [
      | true ↦ λ c. (c.0, ap (λ (z : Line). z.outcome) c.1, c.2, own_follow actor (place + 1) ss lines c.0.kept c.3)
      | false ↦ λ c. own_follow actor (place + 1) ss lines kept c
    ] chain

-- ---- what they say of what it keeps

-- The lines of an actor that keeps this say so of its writer, of its reader, and of the last line.
pub record Stands (kept : Kept) (w : Writing) (r : Option Told) (last : Option Outcome) : Type 0 where
  pub sure : (id : ℕ) → w ≡ writer id → IsOpen kept.writer
  pub known : IsThere kept.writer → IsThere (id_of w)
  pub reading : (IsThere kept.reader → IsThere r) × (IsThere r → IsThere kept.reader)
  pub armed : kept.armed ≢ None → last ≡ Some line.Armed

doubted : (id : ℕ) (w : Writing) → in_doubt w ≡ writer id → ⊥
doubted id none is = absurd (cc)
doubted id (unsure other) is = absurd (cc)
doubted id (writer other) is = absurd (cc)

doubt_there : (w : Writing) → IsThere (id_of w) → IsThere (id_of (in_doubt w))
doubt_there none is = is
doubt_there (unsure id) is = tt
doubt_there (writer id) is = tt

not_there : {X : Type 0} (o : Option X) → o ≡ None → IsThere o → ⊥
not_there o empty is = subst IsThere empty is

-- of a writer that it has, or may have
pub may_have : (w : Writing) → IsThere (id_of w) → MayHave true w
may_have none is = is
may_have (unsure id) is = tt
may_have (writer id) is = tt

pub some_there : {X : Type 0} (o : Option X) → IsThere o → is_some o ≡ true
some_there None is = absurd is
some_there (Some x) is = refl

module _ (x y : Option WriterHandle) (w : Writing) where
  sure_next : (s : Statement) (o : Outcome) → ((id : ℕ) → w ≡ writer id → IsOpen x) → WritesSo x s o y → (id : ℕ) → writing_next w s o ≡ writer id → IsOpen y
  sure_next (Open name) (line.Opened new) old writes id is = writes
  sure_next (Open name) (line.Refused AlreadyOpen) old writes id is = writes.0 (old id is)
  sure_next (Open name) o old writes id is = absurd (cc)
  sure_next Close (line.Closed count) old writes id is = absurd (cc)
  sure_next Close o old writes id is = absurd (doubted id w is)
  sure_next s o old writes id is = writes.0 (old id is)

  known_next : (s : Statement) (o : Outcome) → (IsThere x → IsThere (id_of w)) → WritesSo x s o y → IsThere y → IsThere (id_of (writing_next w s o))
  known_next (Open name) (line.Opened new) old writes is = tt
  known_next (Open name) (line.Refused AlreadyOpen) old writes is = old (writes.1 is)
  known_next (Open name) o old writes is = absurd (not_there y writes is)
  known_next Close (line.Closed count) old writes is = absurd (not_there y writes is)
  known_next Close o old writes is = doubt_there w (old (writes is))
  known_next s o old writes is = old (writes.1 is)

abbrev pub is_stopped : Outcome → Bool
is_stopped line.Stopped = true
is_stopped other = false

-- either the line tells of a stop, which was armed, and the actor is stopped, or it tells of none, and the actor goes on
pub stopped_or : (stop : Option Stop) (o : Outcome) (gone : Bool) → StopsSo stop false o gone → ((o ≡ line.Stopped) × (stop ≢ None) × (gone ≡ true)) ⊎ ((is_stopped o ≡ false) × (gone ≡ false))
stopped_or stop line.Stopped gone stops = inl (refl, stops.0, stops.1)
stopped_or stop line.Gone gone stops = absurd stops
stopped_or stop o gone stops = inr (refl, stops)

reading_next : (x y : Option OpenReader) (r : Option Told) (t : Told) (o : Outcome) → is_stopped o ≡ false → (IsThere x → IsThere r) × (IsThere r → IsThere x) → ReadsSo x o y → (IsThere y → IsThere (reader_next r t o)) × (IsThere (reader_next r t o) → IsThere y)
reading_next x y r t line.Stopped goes old reads = absurd (cc)
reading_next x y r t (line.Reader size cut truncs) goes old reads = (λ is. tt, λ is. reads)
reading_next x y r t line.ReaderClosed goes old reads = (λ is. absurd (not_there y reads is), λ is. absurd is)
reading_next x y r t o goes old reads = (λ is. old.0 (reads.0 is), λ is. reads.1 (old.1 is))

armed_next : (o : Outcome) (armed : Option Stop) → ArmsSo None o armed → armed ≢ None → Some o ≡ Some line.Armed
armed_next line.Armed armed arms some = refl
armed_next o armed arms some = absurd (some arms)

pub stand_next : (kept : Kept) (w : Writing) (r : Option Told) (last : Option Outcome) (t : Told) (e : Ending) → t.outcome ≡ e.outcome → is_stopped e.outcome ≡ false → Did kept.armed false None kept.writer kept.reader t.statement e → Stands kept w r last
    → Stands e.kept (writing_next w t.statement t.outcome) (reader_next r t t.outcome) (Some t.outcome)
stand_next kept w r last t e is goes d stands =
    subst (λ o. Stands e.kept (writing_next w t.statement o) (reader_next r t o) (Some o)) (sym is) (record {
      sure = sure_next kept.writer e.kept.writer w t.statement e.outcome stands.sure d.writes;
      known = known_next kept.writer e.kept.writer w t.statement e.outcome stands.known d.writes;
      reading = reading_next kept.reader e.kept.reader r t e.outcome goes stands.reading d.reads;
      armed = armed_next e.outcome e.kept.armed d.arms;
    })

-- ---- one line after the other

abbrev last_after : Option Outcome → List Told → Option Outcome
last_after last [] = last
last_after last (t ∷ ts) = last_after (Some t.outcome) ts

abbrev pub HasStop : List Told → Type 0
HasStop [] = ⊥
HasStop (t ∷ ts) = (t.outcome ≡ line.Stopped) ⊎ HasStop ts

abbrev pub HasNone : List Told → Type 0
HasNone [] = ⊤
HasNone (t ∷ ts) = (is_stopped t.outcome ≡ false) × HasNone ts

-- The actor goes on, and its lines so far say so of what it keeps, or one of them tells of its stop.
pub data IsAfter (kept : Kept) (w : Writing) (r : Option Told) (last : Option Outcome) (ts : List Told) : Type 0 where
  goes : kept.gone ≡ false → HasNone ts → Stands kept w r last → IsAfter kept w r last ts
  halted : kept.gone ≡ true → HasStop ts → IsAfter kept w r last ts

-- the statement of this line ended so, with this kept before it
pub record Line_at (t : Told) (w : Writing) (r : Option Told) (last : Option Outcome) (ts : List Told) : Type 0 where
  pub kept : Kept
  pub e : Ending
  pub says : t.outcome ≡ e.outcome
  pub ended : Ended kept t.statement e
  pub after : IsAfter kept w r last ts

stays_gone : (kept : Kept) (s : Statement) (e : Ending) → kept.gone ≡ true → Ended kept s e → e.kept.gone ≡ true
stays_gone kept s e gone (was_gone is out now) = now
stays_gone kept s e gone (did lives d) = absurd (cc)

gone_at : (ts : List Told) (t : Told) (rest : List Told) (kept : Kept) → kept.gone ≡ true → Follow kept (ts ++ t ∷ rest) → (mid : Kept) × (e : Ending) × (t.outcome ≡ e.outcome) × Ended mid t.statement e × (mid.gone ≡ true)
gone_at [] t rest kept gone follow = (kept, follow.0, follow.1, follow.2, gone)
gone_at (s ∷ ts) t rest kept gone follow = gone_at ts t rest follow.0.kept (stays_gone kept s.statement follow.0 gone follow.2) follow.3

-- with the lines before these too
one_before : (t s : Told) (ts : List Told) (w : Writing) (r : Option Told) (last : Option Outcome) → is_stopped s.outcome ≡ false → Line_at t w r last ts → Line_at t w r last (s ∷ ts)
one_before t s ts w r last goes_on l = record { kept = l.kept; e = l.e; says = l.says; ended = l.ended; after = also l.after }
  where
    also : IsAfter l.kept w r last ts → IsAfter l.kept w r last (s ∷ ts)
    also (goes lives clear stands) = goes lives (goes_on, clear) stands
    also (halted gone has) = halted gone (inr has)

at_from : (ts : List Told) (t : Told) (rest : List Told) (kept : Kept) (w : Writing) (r : Option Told) (last : Option Outcome) → kept.gone ≡ false → Stands kept w r last → Follow kept (ts ++ t ∷ rest) → Line_at t (writing_after w ts) (reader_after r ts) (last_after last ts) ts
at_from [] t rest kept w r last going stands follow = record { kept = kept; e = follow.0; says = follow.1; ended = follow.2; after = goes going tt stands }
at_from (s ∷ ts) t rest kept w r last going stands (e, says, was_gone is out now, more) = absurd (cc)
at_from (s ∷ ts) t rest kept w r last going stands (e, says, did lives d, more) =
    by_stop (stopped_or kept.armed e.outcome e.kept.gone d.stops)
    (λ goes_on going_on. at_from ts t rest e.kept (writing_next w s.statement s.outcome) (reader_next r s s.outcome) (Some s.outcome) going_on (stand_next kept w r last s e says goes_on d stands) more)
  where
    by_stop : ((e.outcome ≡ line.Stopped) × (kept.armed ≢ None) × (e.kept.gone ≡ true)) ⊎ ((is_stopped e.outcome ≡ false) × (e.kept.gone ≡ false)) → (is_stopped e.outcome ≡ false → e.kept.gone ≡ false → Line_at t (writing_after (writing_next w s.statement s.outcome) ts) (reader_after (reader_next r s s.outcome) ts) (last_after (Some s.outcome) ts) ts)
        → Line_at t (writing_after (writing_next w s.statement s.outcome) ts) (reader_after (reader_next r s s.outcome) ts) (last_after (Some s.outcome) ts) (s ∷ ts)
    by_stop (inl stop) later =
        let g = gone_at ts t rest e.kept stop.2 more in
        record { kept = g.0; e = g.1; says = g.2; ended = g.3; after = halted g.4 (inl (says ∙ stop.0)) }
    by_stop (inr on) later = one_before t s ts _ _ _ (ap is_stopped says ∙ on.0) (later on.0 on.1)

last_is : (t : Told) (ts : List Told) → last_outcome (t ∷ ts) ≡ last_after (Some t.outcome) ts
last_is t [] = refl
last_is t (s ∷ ts) = last_is s ts

last_same : (ts : List Told) → last_after None ts ≡ last_outcome ts
last_same [] = refl
last_same (t ∷ ts) = sym (last_is t ts)

-- the line of a statement of an actor that had done nothing before its first
pub line_at : (ts : List Told) (t : Told) (rest : List Told) (kept : Kept) → kept.gone ≡ false → kept.writer ≡ None → kept.reader ≡ None → kept.armed ≡ None → Follow kept (ts ++ t ∷ rest) → Line_at t (writing_after none ts) (reader_after None ts) (last_outcome ts) ts
line_at ts t rest kept going writers readers armed follow =
    subst (λ o. Line_at t (writing_after none ts) (reader_after None ts) o ts) (last_same ts)
    (at_from ts t rest kept none None None going (record {
      sure = λ id is. absurd (cc);
      known = λ is. absurd (not_there kept.writer writers is);
      reading = (λ is. absurd (not_there kept.reader readers is), λ is. absurd is);
      armed = λ some. absurd (some armed);
    }) follow)

-- a stop among the lines
pub stop_in : (ts : List Told) → HasStop ts → Any (λ (s : Told). s.outcome ≡ line.Stopped) ts
stop_in ts has = let f = find ts has in found_any (λ (s : Told). s.outcome ≡ line.Stopped) ts f.0 f.1 f.2
  where
    find : (xs : List Told) → HasStop xs → (s : Told) × Among s xs × (s.outcome ≡ line.Stopped)
    find [] empty = absurd empty
    find (x ∷ xs) (inl is) = (x, inl refl, is)
    find (x ∷ xs) (inr later) = let f = find xs later in (f.0, inr f.1, f.2)

pub no_stop_in : (ts : List Told) (s : Told) → HasNone ts → Among s ts → s.outcome ≡ line.Stopped → ⊥
no_stop_in [] s clear at is = absurd at
no_stop_in (x ∷ xs) s clear (inl same) is = let clash : false ≡ true = sym clear.0 ∙ ap (λ (z : Told). is_stopped z.outcome) (sym same) ∙ ap is_stopped is in absurd (cc)
no_stop_in (x ∷ xs) s clear (inr at) is = no_stop_in xs s clear.1 at is

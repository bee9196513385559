-- The container of a writer that a line opened has its index and its log at the end.
use Rattle.std.proofs.Common.{◌≡◌, ℕ, List, [], ◌∷◌, ◌++◌, Ok, refl, sym, ap, ◌∙◌, subst, append_assoc}
use Rattle.std.specs.Prelude.{slice_get}
use Rattle.turn_object.proofs.Facts.{state_append}
use Rattle.container_layout.specs.declared.items.Item.{Item}
use Rattle.container_layout.specs.declared.items.Item.TheVariants.{Index, Log}
use Rattle.mount_sound.specs.Growing.{Stays}
use Rattle.mount_model.specs.History.{Event, state_after}
use Rattle.mount_model.specs.State.{State}
use Rattle.mount_sound.specs.Owed.{IsLawful}
use Rattle.mount_sound.proofs.Facts.{lawful_rest}
use Rattle.reader_laws.specs.Moments.{Dropping, Grows, HadItem, IsSoundAt, Moment, moment_after}
use Rattle.reader_laws.proofs.Gathered.Facts.{among, grows_after, legal_first, legal_rest, moment-append, sound_after}
use Rattle.mount_model.specs.Running.{Runs}
use Rattle.script_lang.specs.Ranges.{FitsScript}
use Rattle.script_lang.specs.declared.line.Outcome.TheVariants as line
use Rattle.script_lang.specs.declared.script.Statement.{Statement}
use Rattle.script_lang.specs.declared.script.Statement.TheVariants.{Open}
use Rattle.writer_flow.specs.declared.handle.WriterHandle.{WriterHandle}
use Rattle.writer_flow.specs.Opening.{open_program}
use Rattle.writer_laws.specs.Counting.{StaysIn}
use Rattle.writer_laws.specs.Knowing.{HasRow}
use Rattle.writer_laws.proofs.Facts.{entered_by, goes}
use Rattle.actor_core.specs.declared.kept.Kept.{Kept}
use Rattle.actor_core.specs.Endings.{Ending}
use Rattle.actor_core.specs.Statements.{work_of}
use Rattle.run_core.specs.Play.{IsRight}
use Rattle.headline.specs.Run.{Run, Says, Told, before, own, told}
use Rattle.headline.specs.Writers.{host_of}
use Rattle.headline_laws.proofs.Story.Apart.{parts_here}
use Rattle.headline_laws.proofs.Statements.Did.{IsOfKindOr}
use Rattle.headline_laws.proofs.Statements.Does.{Ended, did, was_gone}
use Rattle.headline_laws.proofs.Statements.Known.{HasEntered}
use Rattle.headline_laws.proofs.Statements.Hosts.{SameHost, comes_so, statement_host}
use Rattle.headline_laws.proofs.Story.Opened.{opening_came}
use Rattle.headline_laws.proofs.Trees.Openings.{IsOpenNow, log_opens, open_stands, opening_makes}
use Rattle.headline_laws.proofs.Story.Parts.{Comes, LinePart, ToldParts, part_at}
use Rattle.headline_laws.proofs.OrderlyLines.Places.{own_split}

-- the caller entered a container as this writer, which has its index and its log at the end
pub record Stands (n : ℕ) (m : Moment) (history : List Event) (host id : ℕ) : Type 0 where
  pub dropping : Dropping
  pub its_id : dropping.writer ≡ id
  pub its_host : dropping.host ≡ host
  pub entered : HasEntered n history dropping
  pub index : HadItem (moment_after m history) dropping.room (Index host id)
  pub log : HadItem (moment_after m history) dropping.room (Log host id)

-- ---- behind an opening

opened_stands : (m : Moment) (n : ℕ) (name : List ℕ) (host cap : ℕ) (handle : WriterHandle) (earlier mine later : List Event) → IsSoundAt m → IsLawful m.state (earlier ++ (mine ++ later)) → Runs n (open_program name host cap) mine (Ok handle) → Stands n m (earlier ++ (mine ++ later)) host handle.writer
opened_stands m n name host cap handle earlier mine later sound lawful runs =
    let l = opening_makes n name host cap mine handle runs in
    let upto : List Event = earlier ++ (l.first ++ l.event ∷ []) in
    let rest : List Event = l.rest ++ later in
    let all : earlier ++ (mine ++ later) ≡ upto ++ rest =
    ap (λ z. earlier ++ (z ++ later)) l.all ∙ ap (λ z. earlier ++ z) (append_assoc l.first (l.event ∷ l.rest) later)
    ∙ ap (λ z. earlier ++ z) (sym (append_assoc l.first (l.event ∷ []) rest)) ∙ sym (append_assoc earlier (l.first ++ l.event ∷ []) rest) in
    let lawful_all : IsLawful m.state (upto ++ rest) = subst (IsLawful m.state) all lawful in
    let begun : Moment = moment_after m earlier in
    let now : Moment = moment_after m upto in
    let begun_sound : IsSoundAt begun = sound_after m earlier (legal_first m earlier (mine ++ later) lawful) sound in
    let now_sound : IsSoundAt now = sound_after m upto (legal_first m upto rest lawful_all) sound in
    let is_now : now.state ≡ l.event.after = ap (λ (x : Moment). x.state) (moment-append m earlier (l.first ++ l.event ∷ []) ∙ moment-append begun l.first (l.event ∷ [])) in
    let lawful_mine : IsLawful begun.state mine = legal_first begun mine later (legal_rest m earlier (mine ++ later) lawful) in
    let from_log : IsLawful (state_after begun.state l.first) (l.event ∷ l.rest) = lawful_rest begun.state l.first (l.event ∷ l.rest) (subst (IsLawful begun.state) l.all lawful_mine) in
    let o : IsOpenNow n handle.writer now.state = subst (IsOpenNow n handle.writer) (sym is_now) (log_opens n handle.writer (state_after begun.state l.first) l.event from_log.1 l.own l.asked l.made) in
    let g = goes n handle.writer o.row now.state l.rest o.has (subst (λ s. IsLawful s l.rest) (sym is_now) from_log.2) (subst (StaysIn handle.writer) (sym l.none) tt) in
    let e = entered_by n name host cap begun.state mine (Ok handle) handle begun_sound.regular lawful_mine runs refl in
    let ends : state_after now.state l.rest ≡ state_after begun.state mine =
    ap (λ s. state_after s l.rest) is_now ∙ sym (state_append begun.state l.first (l.event ∷ l.rest)) ∙ ap (λ z. state_after begun.state z) (sym l.all) in
    let placed = e.placed g.after (subst (HasRow n handle.writer g.after) ends g.has) in
    let its_host : o.row.host ≡ host = sym g.placed.1 ∙ placed.1 in
    let its_room : o.row.room ≡ e.room = sym g.placed.0 ∙ placed.0 in
    let stands = open_stands n now now_sound handle.writer o in
    let grows : Grows now (moment_after now rest) = grows_after now rest (legal_rest m upto rest lawful_all) now_sound in
    let last : moment_after now rest ≡ moment_after m (earlier ++ (mine ++ later)) = sym (moment-append m upto rest) ∙ ap (moment_after m) (sym all) in
    let there : (item : Item) → Stays item → HadItem now o.row.room item → HadItem (moment_after m (earlier ++ (mine ++ later))) e.room item =
    λ item stays had. subst (λ x. HadItem x e.room item) last (subst (λ k. HadItem (moment_after now rest) k item) its_room (grows.stands o.row.room item stays had)) in
    let front : List Event = e.first ++ e.making ∷ e.between in
    let entering : mine ≡ front ++ e.entering ∷ e.rest = e.all ∙ sym (append_assoc e.first (e.making ∷ e.between) (e.entering ∷ e.rest)) in
    record {
      dropping = record { room = e.room; host = host; writer = handle.writer };
      its_id = refl;
      its_host = refl;
      entered = record {
        first = earlier ++ front;
        event = e.entering;
        later = e.rest ++ later;
        most = cap;
        all = ap (λ z. earlier ++ (z ++ later)) entering ∙ ap (λ z. earlier ++ z) (append_assoc front (e.entering ∷ e.rest) later) ∙ sym (append_assoc earlier front (e.entering ∷ (e.rest ++ later)));
        own = e.enters.0;
        asked = e.enters.1;
        entered = e.entered;
      };
      index = there (Index host handle.writer) tt (subst (λ h. HadItem now o.row.room (Index h handle.writer)) its_host stands.0);
      log = there (Log host handle.writer) tt (subst (λ h. HadItem now o.row.room (Log h handle.writer)) its_host stands.1);
    }

-- ---- the line of an opening

open_of : (s : Statement) (id : ℕ) → IsOfKindOr s (line.Opened id) → (name : List ℕ) × (s ≡ Open name)
open_of (Open name) id kind = (name, refl)
open_of s id kind = absurd kind

pub was_open : (kept : Kept) (s : Statement) (e : Ending) (id : ℕ) → e.outcome ≡ line.Opened id → Ended kept s e → (name : List ℕ) × (s ≡ Open name)
was_open kept s e id says (was_gone is out now) = absurd (let clash : line.Gone ≡ line.Opened id = sym out ∙ says in cc)
was_open kept s e id says (did lives d) = open_of s id (subst (IsOfKindOr s) says d.kind)

part_host : (n : ℕ) (history : List Event) (blocks : List (List Event)) (ts : List Told) (t : Told) (rest : List Told) (done : List Event) (kept : Kept) (parts : ToldParts n history blocks done kept (ts ++ t ∷ rest)) → (part_at n history blocks ts t rest done kept parts).0.kept.host ≡ kept.host
unfolding part_at
part_host n history blocks [] t rest done kept parts = refl
part_host n history blocks (s ∷ ts) t rest done kept (p, says, from, more) =
    part_host n history blocks ts t rest _ p.e.kept more ∙ ap (λ (x : ℕ × ℕ). x.0) (comes_so n (SameHost kept) (work_of kept s.statement) p.mine p.spent p.e (statement_host kept s.statement) p.comes)

-- it stands in the container that it entered, under its actor's host
pub record LineStands (run : Run) (m : Moment) (history : List Event) (t : Told) (id : ℕ) : Type 0 where
  pub number : ℕ
  pub stands : Stands number m history (host_of (slice_get run.script.actors t.actor)) id

pub line_stands : (run : Run) (m : Moment) (end : State) → FitsScript run.script → IsSoundAt m → (right : IsRight run.script m.state run.lines end) → (t : Told) (id : ℕ) → Says run t (line.Opened id) → LineStands run m right.history t id
line_stands run m end fits sound right t id says =
    let blocks = right.calls.blocks in
    let own_ones = parts_here run m.state end fits right t says.is_line in
    let n = own_ones.number in
    let split = own_split run t (among (told run) t says.is_line) in
    let parts : ToldParts n right.history blocks [] own_ones.kept (own t.actor (before run t) ++ t ∷ split.rest) = subst (ToldParts n right.history blocks [] own_ones.kept) split.is own_ones.parts in
    let p : LinePart n right.history blocks t = (part_at n right.history blocks (own t.actor (before run t)) t split.rest [] own_ones.kept parts).0 in
    let its_host : p.kept.host ≡ host_of (slice_get run.script.actors t.actor) = part_host n right.history blocks (own t.actor (before run t)) t split.rest [] own_ones.kept parts ∙ own_ones.host in
    let ends : p.part.e.outcome ≡ line.Opened id = sym p.says ∙ says.says in
    let o = was_open p.kept t.statement p.part.e id ends p.part.ended in
    let r = opening_came n o.0 id p.part.spent p.part.e ends p.kept p.part.mine (subst (λ s. Comes n (work_of p.kept s) p.part.mine p.part.spent p.part.e) o.1 p.part.comes) in
    let earlier : List Event = p.part.earlier ++ r.pre in
    let later : List Event = r.rest ++ p.part.later in
    let all : right.history ≡ earlier ++ (r.first ++ later) =
    p.part.split ∙ ap (λ z. p.part.earlier ++ (z ++ p.part.later)) r.all ∙ ap (λ z. p.part.earlier ++ z) (append_assoc r.pre (r.first ++ r.rest) p.part.later)
    ∙ ap (λ z. p.part.earlier ++ (r.pre ++ z)) (append_assoc r.first r.rest p.part.later) ∙ sym (append_assoc p.part.earlier r.pre (r.first ++ later)) in
    let stands : Stands n m (earlier ++ (r.first ++ later)) p.kept.host r.handle.writer = opened_stands m n o.0 p.kept.host p.kept.cap r.handle earlier r.first later sound (subst (IsLawful m.state) all right.leads.lawful) r.runs in
    record {
      number = n;
      stands = subst (λ h. Stands n m right.history h id) its_host (subst (λ k. Stands n m right.history p.kept.host k) r.is (subst (λ z. Stands n m z p.kept.host r.handle.writer) (sym all) stands));
    }

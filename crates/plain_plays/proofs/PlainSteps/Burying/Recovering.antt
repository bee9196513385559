-- A recovery buries the dead writers of a room and tells of the others as alive, where nobody else calls.
use Rattle.std.proofs.Common.{append_assoc, ◌≡◌, not, ◌++◌, ℕ, Bool, true, false, List, [], ◌∷◌, map, filter, Some, None, Result, Ok, refl, sym, ap, ◌∙◌, subst, if◌then◌else◌}
use Rattle.std.specs.Prelude.{MatchOption}
use Rattle.std.specs.List.{AllByRecursion}
use Rattle.std.proofs.lemmas.List.{append-nil}
use Rattle.container_layout.specs.declared.items.Item.TheVariants as item
use Rattle.container_layout.specs.Items.{IsItem}
use Rattle.store_api.specs.declared.tree.Room.{Room}
use Rattle.mount_model.specs.declared.call.Ask.{Ask}
use Rattle.mount_model.specs.declared.call.Call.TheVariants.{Inspect}
use Rattle.mount_model.specs.declared.reply.Refusal.TheVariants as refusal
use Rattle.mount_model.specs.declared.reply.Reply.{Reply}
use Rattle.mount_model.specs.declared.reply.Reply.TheVariants.{Done, Refused}
use Rattle.mount_model.specs.History.{AreBy, Event}
use Rattle.mount_model.specs.Making.{Refuses}
use Rattle.mount_model.specs.Recovering.{alive_check, live_reason}
use Rattle.mount_model.specs.State.{State, Table}
use Rattle.mount_model.specs.Step.{Answers}
use Rattle.mount_model.specs.Table.{row_of}
use Rattle.mount_sound.specs.Issued.{issued_after}
use Rattle.mount_sound.specs.Owed.{IsLawful}
use Rattle.mount_model.specs.Program.{followed_by}
use Rattle.mount_model.specs.declared.stuck.Stuck.{Stuck}
use Rattle.mount_model.specs.FlowReplies.{on_ok}
use Rattle.mount_model.specs.Running.{Runs}
use Rattle.reader_laws.specs.Moments.{Dropping, IsNamed, IsSoundAt, Moment, landed, moment_after, next_moment}
use Rattle.reader_laws.proofs.Gathered.Facts.{grows_after}
use Rattle.torn_tail.specs.declared.recovering.Recovered.{Recovered}
use Rattle.torn_tail.specs.Recovering.{noted, recovers}
use Rattle.torn_tail.specs.Writers.{if_done, measures_index}
use Rattle.plain_machine.specs.Machine.{PlainWriter}
use Rattle.plain_machine.specs.ByName.{count_told}
use Rattle.plain_plays.specs.Mirrors.{room_then}
use Rattle.plain_plays.specs.Plainly.{dropping_of}
use Rattle.trouble_laws.specs.Undamaged.{IsUndamaged}
use Rattle.plain_plays.specs.Served.{GoesWell}
use Rattle.plain_plays.proofs.PlainSteps.Entering.{IsContainerAt}
use Rattle.plain_plays.proofs.PlainSteps.Reaching.{ended, over_alone}
use Rattle.plain_plays.proofs.PlainSteps.Steps.Alone.{first_call}
use Rattle.plain_plays.proofs.PlainSteps.ByName.Entries.{entry_of}
use Rattle.plain_plays.proofs.PlainSteps.ByName.Looking.{IsAlike, alike_same}
use Rattle.plain_plays.proofs.PlainSteps.Burying.Leaving.{Leaves, leaves_alike, leaves_both}
use Rattle.plain_plays.proofs.PlainSteps.Burying.Writers.{IsBuried, IsLeft, writer_ends}

-- A writer's files are named so, and so much has landed. It is live where an actor has it, and else not.
pub record IsFit (n : ℕ) (m : Moment) (w : PlainWriter) : Type 0 where
  pub named : IsNamed (dropping_of n w)
  pub many : landed m (dropping_of n w) ≡ w.landed
  pub lives : w.is_owned ≡ true → alive_check m.state w.id ≡ Some refusal.Alive
  pub dead_is : w.is_owned ≡ false → alive_check m.state w.id ≡ None

pub all_fit : (n : ℕ) (m next : Moment) → next.state.table ≡ m.state.table → ((d : Dropping) → IsNamed d → landed next d ≡ landed m d) → (ws : List PlainWriter) → AllByRecursion (IsFit n m) ws → AllByRecursion (IsFit n next) ws
all_fit n m next table same [] all = tt
all_fit n m next table same (w ∷ ws) all = (
  record {
    named = all.0.named;
    many = same (dropping_of n w) all.0.named ∙ all.0.many;
    lives = λ is. ap (λ (t : Table). live_reason (row_of w.id t.writers)) table ∙ all.0.lives is;
    dead_is = λ is. ap (λ (t : Table). live_reason (row_of w.id t.writers)) table ∙ all.0.dead_is is;
  },
  all_fit n m next table same ws all.1,
)

-- what is told of these, behind what was told so far
abbrev pub told_so : Recovered → List PlainWriter → List PlainWriter → Recovered
told_so sofar dead alive = record { buried = sofar.buried ++ map count_told dead; alive = sofar.alive ++ map (λ (w : PlainWriter). w.id) alive; hold = sofar.hold }

abbrev dead_in : List PlainWriter → List PlainWriter
dead_in ws = filter (λ (w : PlainWriter). not w.is_owned) ws

abbrev alive_in : List PlainWriter → List PlainWriter
alive_in ws = filter (λ (w : PlainWriter). w.is_owned) ws

module _ (n me : ℕ) where
  abbrev RecoversEnd : List PlainWriter → Type 0
  RecoversEnd ws =
      (sofar : Recovered) (m : Moment) (r : Room) → room_then m n ≡ Some r → IsSoundAt m → IsContainerAt n m → (events : List Event) (out : Result Recovered Stuck) → IsUndamaged out → IsLawful m.state events → GoesWell me events → AreBy me events → AllByRecursion (IsFit n m) ws → Runs me (recovers n (map entry_of ws) sofar) events out
      → (out ≡ Ok (told_so sofar (dead_in ws) (alive_in ws))) × Leaves n (map entry_of (dead_in ws)) r m (moment_after m events)

  none_end : RecoversEnd []
  none_end sofar m r at s had events out plain lawful well by fits runs = (
    sym (ended me (Ok sofar) events out runs) ∙ (λ i. Ok (record { buried = sym (append-nil sofar.buried) i; alive = sym (append-nil sofar.alive) i; hold = sofar.hold })),
    subst (λ es. Leaves n [] r m (moment_after m es)) (sym (over_alone me (Ok sofar) events out by runs)) (leaves_alike n r m m at (alike_same m)),
  )

  one_more : (w : PlainWriter) (ws : List PlainWriter) → RecoversEnd ws → RecoversEnd (w ∷ ws)
  one_more w ws more_so sofar m r at s had events out plain lawful well by fits runs = elim w.is_owned as (λ b. w.is_owned ≡ b → Both b) [
    | true ↦ λ owned. living owned
    | false ↦ λ dead. buried dead
  ] refl
    where
      Both : Bool → Type 0
      Both b =
          (out ≡ Ok (told_so sofar (if not b then w ∷ dead_in ws else dead_in ws) (if b then w ∷ alive_in ws else alive_in ws))) × Leaves n (map entry_of (if not b then w ∷ dead_in ws else dead_in ws)) r m (moment_after m events)

      refused_so : (reply : Reply) (after : State) → Answers m.state me (Inspect w.id) reply after → alive_check m.state w.id ≡ Some refusal.Alive → (reply ≡ Refused refusal.Alive) × (after ≡ m.state)
      refused_so reply after a check = subst (λ o. MatchOption o ((reply ≡ Done) × (after ≡ m.state)) (λ why. Refuses why m.state reply after)) check a

      living : w.is_owned ≡ true → Both true
      living owned =
          let c = first_call m me (Inspect w.id) (λ reply. followed_by (if_done (measures_index n (entry_of w)) reply) (on_ok (λ fate. recovers n (map entry_of ws) (noted (entry_of w) fate sofar)))) events out s lawful well by runs in
          let k = refused_so c.event.reply c.event.after c.answers (fits.0.lives owned) in
          let next : Moment = next_moment m c.event in
          let alike : IsAlike m next = record {
            tree = ap (λ (x : State). x.store.tree) k.1;
            issued = ap (λ (a : Ask). issued_after m.issued m.state a.call c.event.reply) c.asked;
            table = ap (λ (x : State). x.table) k.1;
            times = ap (λ (x : State). x.times) k.1;
            marks = ap (λ (x : State). x.marks) k.1;
            mount = ap (λ (x : State). x.mount) k.1;
            serial = ap (λ (x : State). x.serial) k.1;
          } in
          let y : Leaves n [] r m next = leaves_alike n r m next at alike in
          let had_then : IsContainerAt n next = (grows_after m (c.event ∷ []) (c.whole.0, c.whole.1, tt) s).stands n item.Access tt had in
          let then_sofar : Recovered = record { buried = sofar.buried; alive = sofar.alive ++ w.id ∷ []; hold = sofar.hold } in
          let on : Runs me (recovers n (map entry_of ws) then_sofar) c.rest out = subst (λ reply. Runs me (followed_by (if_done (measures_index n (entry_of w)) reply) (on_ok (λ fate. recovers n (map entry_of ws) (noted (entry_of w) fate sofar)))) c.rest out) k.0 c.runs in
          let more = more_so then_sofar next y.new y.turns.now c.sound had_then c.rest out plain c.whole.2 c.well c.by (all_fit n m next y.table y.landed_is ws fits.1) on in (
            more.0 ∙ ap (λ l. Ok (record { buried = sofar.buried ++ map count_told (dead_in ws); alive = l; hold = sofar.hold })) (append_assoc sofar.alive (w.id ∷ []) (map (λ (x : PlainWriter). x.id) (alive_in ws))),
            subst (Leaves n (map entry_of (dead_in ws)) r m) c.ends (leaves_both n [] (map entry_of (dead_in ws)) r m next (moment_after next c.rest) y more.1),
          )

      buried : w.is_owned ≡ false → Both false
      buried dead =
          let is : IsItem (item.OpenHost w.host w.id) = record { in_range = tt; widths = fits.0.named.widths } in
          let u : IsLeft n me (entry_of w) is (map entry_of ws) sofar w.landed m = record { sound = s; had = had; free = fits.0.dead_is dead; many = fits.0.many; room = r; at = at } in
          let b : IsBuried n me (entry_of w) is (map entry_of ws) sofar w.landed m u events out = writer_ends n me (entry_of w) is (map entry_of ws) sofar w.landed m u events out plain lawful well by runs in
          let y : Leaves n (entry_of w ∷ []) r m b.mid = b.leaves in
          let then_sofar : Recovered = record { buried = sofar.buried ++ count_told w ∷ []; alive = sofar.alive; hold = sofar.hold } in
          let more = more_so then_sofar b.mid y.new y.turns.now b.sound b.had b.rest out plain b.lawful b.well b.by (all_fit n m b.mid y.table y.landed_is ws fits.1) b.runs in (
            more.0 ∙ ap (λ l. Ok (record { buried = l; alive = sofar.alive ++ map (λ (x : PlainWriter). x.id) (alive_in ws); hold = sofar.hold })) (append_assoc sofar.buried (count_told w ∷ []) (map count_told (dead_in ws))),
            subst (Leaves n (map entry_of (w ∷ dead_in ws)) r m) b.ends_at (leaves_both n (entry_of w ∷ []) (map entry_of (dead_in ws)) r m b.mid (moment_after b.mid b.rest) y more.1),
          )

  -- Each of them that an actor has is told as alive, and the others are buried.
  pub recovers_end : (ws : List PlainWriter) → RecoversEnd ws
  recovers_end [] = none_end
  recovers_end (w ∷ ws) = one_more w ws (recovers_end ws)

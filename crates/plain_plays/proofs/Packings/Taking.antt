-- The statements of the one actor, which the machine takes one after the other as its calls are made.
use Rattle.std.proofs.Common.{◌≡◌, List, [], ◌∷◌, ◌++◌, map, Option, refl, sym, subst, append-nil}
use Rattle.std.proofs.lemmas.List.{map-append}
use Rattle.script_lang.specs.declared.line.Line.{Line}
use Rattle.script_lang.specs.declared.line.Outcome.{Outcome}
use Rattle.script_lang.specs.declared.script.Numbered.{Numbered}
use Rattle.script_lang.specs.declared.script.Statement.{Statement}
use Rattle.mount_model.specs.History.{Event}
use Rattle.mount_model.specs.State.{State}
use Rattle.mount_sound.specs.Owed.{IsLawful}
use Rattle.reader_laws.specs.Moments.{Moment, moment_after}
use Rattle.writer_flow.specs.declared.handle.WriterHandle.{WriterHandle}
use Rattle.plain_machine.specs.Machine.{Plain, PlainActor}
use Rattle.plain_machine.specs.Running.{TakesAll}
use Rattle.plain_plays.specs.Mirrors.{Mirrors}
use Rattle.plain_plays.specs.OverStores.{IsSaidOver}
use Rattle.plain_plays.specs.Packings.{by_packer, packer, packer_script}
use Rattle.plain_plays.specs.Saying.{DeadAreOut}
use Rattle.plain_plays.specs.Stepping.{HasActor, TakesStep}
use Rattle.plain_plays.proofs.Apart.{all_apart, drawn_first}
use Rattle.plain_plays.proofs.Droppings.{droppings_so}
use Rattle.plain_plays.proofs.NotAlive.{DeadStayOut, dead_are_out, dead_next}
use Rattle.plain_plays.proofs.Phases.{takes_both}

-- The machine has what the mount has, and the actor has this handle. Dead writers are out of the table.
pub record IsThere (m : Moment) (p : Plain) (handle : Option WriterHandle) : Type 0 where
  pub mirrors : Mirrors m p
  pub actor : PlainActor
  pub has : HasActor m 0 p handle actor
  pub out : DeadStayOut m.state p

-- The machine took these statements, with these lines, and calls led to this state. It has what the mount has then.
pub record HasTaken (p : Plain) (statements : List Statement) (lines : List Line) (handle : Option WriterHandle) (end : State) : Type 0 where
  pub m : Moment
  pub at : m.state ≡ end
  pub last : Plain
  pub takes : TakesAll (packer ∷ []) p (map by_packer statements) lines last
  pub there : IsThere m last handle

-- the line of a statement under line 0
abbrev pub zero_line : Outcome → Line
zero_line outcome = record { number = 0; outcome = outcome }

pub none_taken : (m : Moment) (p : Plain) (handle : Option WriterHandle) (end : State) → m.state ≡ end → IsThere m p handle → HasTaken p [] [] handle end
none_taken m p handle end at there = record { m = m; at = at; last = p; takes = refl; there = there }

pub one_taken : (m : Moment) (p : Plain) (handle left : Option WriterHandle) (s : IsThere m p handle) (events : List Event) (end : State) (statement : Statement) (outcome : Outcome) → IsLawful m.state events → (moment_after m events).state ≡ end
    → TakesStep m 0 packer s.actor p statement outcome (moment_after m events) left → HasTaken p (statement ∷ []) (zero_line outcome ∷ []) left end
one_taken m p handle left s events end statement outcome lawful ends t = record {
  m = moment_after m events;
  at = ends;
  last = t.new;
  takes = (t.new, (packer, s.actor, refl, s.has.there, refl, t.takes), refl);
  there = record { mirrors = t.mirrors; actor = t.left; has = t.its_actor; out = dead_next m events 0 packer s.actor p statement outcome t.new lawful s.out t.takes };
}

-- some, and then others
pub both_taken : (p : Plain) (first rest : List Statement) (lines others : List Line) (handle left : Option WriterHandle) (mid end : State) (a : HasTaken p first lines handle mid) → HasTaken a.last rest others left end → HasTaken p (first ++ rest) (lines ++ others) left end
both_taken p first rest lines others handle left mid end a b = record {
  m = b.m;
  at = b.at;
  last = b.last;
  takes = subst (λ (ss : List Numbered). TakesAll (packer ∷ []) p ss (lines ++ others) b.last) (sym (map-append by_packer first rest)) (takes_both (packer ∷ []) (map by_packer first) (map by_packer rest) lines others p a.last b.last a.takes b.takes);
  there = b.there;
}

-- these are the lines of a script, and the store is left so
pub said_over : (start : Moment) (p : Plain) (statements : List Statement) (lines : List Line) (handle : Option WriterHandle) (end : State) → Mirrors start p → HasTaken p statements lines handle end → IsSaidOver (packer_script statements) p lines end.store
said_over start p statements lines handle end mirrors t =
    let whole : TakesAll (packer ∷ []) p (map by_packer statements ++ []) lines t.last = subst (λ (ss : List Numbered). TakesAll (packer ∷ []) p ss lines t.last) (sym (append-nil (map by_packer statements))) t.takes in
    let now : Mirrors (record { state = end; issued = t.m.issued }) t.last = subst (λ (s : State). Mirrors (record { state = s; issued = t.m.issued }) t.last) t.at t.there.mirrors in
    record {
      end = end;
      left = refl;
      says = record {
        last = t.last;
        takes = whole;
        mirrored = record { issued = t.m.issued; mirrors = now };
        dead_out = subst (λ (s : State). DeadAreOut s t.last) t.at (dead_are_out t.m.state t.last t.there.out);
        apart = λ before. all_apart (packer ∷ []) p (map by_packer statements ++ []) lines t.last (drawn_first start p mirrors) before whole;
      };
      droppings = λ tree told. droppings_so (record { state = end; issued = t.m.issued }) t.last now tree told;
    }

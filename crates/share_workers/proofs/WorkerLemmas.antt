-- How a worker makes the calls of its machine.
use Rattle.std.proofs.Common.{◌≡◌, ◌≢◌, List, [], ◌∷◌, ◌++◌, Some, None, refl, sym, ap, ◌∙◌, subst, append-nil, append_assoc}
use Rattle.std.proofs.lemmas.Option.{none-some, same_Some}
use Rattle.turn_object.specs.History.{entry}
use Rattle.turn_object.specs.Front.{IsLegalFront}
use Rattle.turn_object.specs.Calls.{MayAsk, IsCalled}
use Rattle.turn_object.specs.Pass.{start_of, front, mine_of, IsPassOf}
use Rattle.mount_model.specs.Running.{asking, unbroken}
use Rattle.mount_model.specs.Standing.{Standing, ready, asked as out, Rest, over, awaits, next_of, rest_of, replied, Awaits, IsOver}
use Rattle.mount_model.specs.declared.call.Ask.{Ask}
use Rattle.mount_model.specs.declared.call.Call.{Call}
use Rattle.mount_model.specs.declared.reply.Reply.{Reply}
use Rattle.mount_model.specs.declared.reply.Reply.TheVariants.{NoMemory}
use Rattle.mount_model.specs.Step.{IsStep}
use Rattle.mount_model.specs.History.{Event}
use Rattle.mount_sound.specs.Owed.{Permits}
use Rattle.mount_model.specs.Program.{Program, done, ask}
use Rattle.mount_model.specs.Safe.{PassSafe}
use Rattle.mount_model.specs.Going.{HasMade}
use Rattle.mount_model.proofs.Stories.Facts.{made_more, made_none, pass_goes, pass_may}
use Rattle.mount_core.specs.Memory.{HadMemory}
use Rattle.share_workers.specs.Passes.{ThePass, TheTurn}
use Rattle.share_workers.specs.Workers.{HasBegun, HasRead, IsWithin}
use Rattle.share_workers.proofs.Facts.{before_last, memory_both, none_refused}

abbrev ready_at : {X : Type 0} → Program Call Reply X → Standing Call Reply X
ready_at program = ready program

abbrev program_or : {X : Type 0} → Program Call Reply X → Standing Call Reply X → Program Call Reply X
program_or other (ready program) = program
program_or other (out k) = other

pub same_ready : {X : Type 0} (a b : Program Call Reply X) → ready_at a ≡ ready_at b → a ≡ b
same_ready a b e = ap (λ s. program_or a s) e

abbrev over_of : {X : Type 0} → X → Rest Call Reply X
over_of result = over result

abbrev result_or : {X : Type 0} → X → Rest Call Reply X → X
result_or other (over result) = result
result_or other (awaits k) = other

same_over : {X : Type 0} (a b : X) → over_of a ≡ over_of b → a ≡ b
same_over a b e = ap (λ rest. result_or a rest) e

module _ {P : Type 0} (turn : TheTurn P) {X : Type 0} where
  pub within_none : (pass : ThePass) (known program : Program Call Reply X) (s : Standing Call Reply X) → s ≡ ready known → s ≡ ready program
      → IsPassOf turn pass → IsLegalFront IsStep Permits (start_of turn) (front pass) → PassSafe IsStep Permits (start_of turn) (front pass) (asking known) → IsWithin turn pass program pass s
  within_none pass known program s is same pass_of legal safe =
      let Q : Program Call Reply X → Type 0 = λ p. PassSafe IsStep Permits (start_of turn) (front pass) (asking p) in
      record {
        after = record { pass = pass_of; known = legal; parts = refl };
        ended = refl;
        left = program;
        stands = same;
        made = made_none (front pass) (asking program);
        calls = [];
        mine = sym (append-nil (mine_of pass));
        memory = tt;
        safe = subst Q (same_ready known program (sym is ∙ same)) safe;
      }

  -- The machine's next call is this one, and it goes on so.
  pub record AsksWithin (first : ThePass) (program : Program Call Reply X) (now : ThePass) (s : Standing Call Reply X) (call : Call) : Type 0 where
    pub next : Reply → Program Call Reply X
    pub stands : s ≡ ready (ask call next)
    pub made : HasMade (front first) (asking program) (front now) (ask (unbroken call) (λ reply. asking (next reply)))
    pub safe : PassSafe IsStep Permits (start_of turn) (front now) (ask (unbroken call) (λ reply. asking (next reply)))

  asks_so : (first now : ThePass) (program : Program Call Reply X) (s : Standing Call Reply X) (call : Call) (left : Program Call Reply X) → s ≡ ready left
      → HasMade (front first) (asking program) (front now) (asking left) → PassSafe IsStep Permits (start_of turn) (front now) (asking left) → Some call ≡ next_of (ready left) → AsksWithin first program now s call
  asks_so first now program s call (done result) is made safe some = absurd (none-some call (sym some))
  asks_so first now program s call (ask question k) is made safe some =
      let Q : Call → Type 0 = λ q. AsksWithin first program now s q in
      subst Q (sym (same_Some call question some)) (record { next = k; stands = is; made = made; safe = safe })

  pub within_asks : (first now : ThePass) (program : Program Call Reply X) (s : Standing Call Reply X) (call : Call) → IsWithin turn first program now s → Some call ≡ next_of s → AsksWithin first program now s call
  within_asks first now program s call w some = asks_so first now program s call w.left w.stands w.made w.safe (some ∙ ap (λ t. next_of t) w.stands)

  pub within_may : (first now : ThePass) (program : Program Call Reply X) (s : Standing Call Reply X) (call : Call) → IsWithin turn first program now s → Some call ≡ next_of s → MayAsk Permits (start_of turn) (front now) (unbroken call)
  within_may first now program s call w some =
      let a = within_asks first now program s call w some in
      pass_may IsStep Permits (start_of turn) (front now) (unbroken call) (λ reply. asking (a.next reply)) a.safe

  pub within_awaits : (first now : ThePass) (program : Program Call Reply X) (s mid : Standing Call Reply X) (call : Call) → IsWithin turn first program now s → Some call ≡ next_of s → rest_of mid ≡ rest_of s → Awaits (rest_of mid)
  within_awaits first now program s mid call w some same =
      let a = within_asks first now program s call w some in
      let Q : Rest Call Reply X → Type 0 = λ rest. Awaits rest in
      subst Q (sym (same ∙ ap (λ t. rest_of t) a.stands)) tt

  -- a call more
  pub within_more : (first now next : ThePass) (program : Program Call Reply X) (s mid new : Standing Call Reply X) (call : Call) (reply : Reply) → IsWithin turn first program now s → Some call ≡ next_of s → rest_of mid ≡ rest_of s
      → IsPassOf turn next → IsCalled IsStep Permits (start_of turn) (front now) (unbroken call) reply (front next) → IsLegalFront IsStep Permits (start_of turn) (front next) → reply ≢ NoMemory
      → new ≡ ready (replied (rest_of mid) reply) → IsWithin turn first program next new
  within_more first now next program s mid new call reply w some same pass_of called legal memory goes =
      let a = within_asks first now program s call w some in
      let k : Reply → Program Ask Reply X = λ r. asking (a.next r) in
      record {
        after = record { pass = pass_of; known = legal; parts = called.parts ∙ w.after.parts };
        ended = called.ended ∙ w.ended;
        left = a.next reply;
        stands = goes ∙ ap (λ rest. ready_at (replied rest reply)) (same ∙ ap (λ t. rest_of t) a.stands);
        made = made_more IsStep Permits (start_of turn) (front first) (front now) (front next) (asking program) (unbroken call) k reply w.after.known.own a.made called;
        calls = w.calls ++ entry called.caller (unbroken call) reply called.after ∷ [];
        mine = called.mine ∙ (ap (λ (z : List Event). z ++ entry called.caller (unbroken call) reply called.after ∷ []) w.mine ∙ append_assoc (mine_of first) w.calls (entry called.caller (unbroken call) reply called.after ∷ []));
        memory = memory_both w.calls (entry called.caller (unbroken call) reply called.after ∷ []) w.memory (memory, tt);
        safe = pass_goes IsStep Permits (start_of turn) (front now) (front next) (unbroken call) k reply w.after.known.own called legal a.safe;
      }

  -- broken off, without a call more
  pub within_begun : (first now : ThePass) (program : Program Call Reply X) (s : Standing Call Reply X) → IsWithin turn first program now s → HasBegun (front first) (asking program) (front now)
  within_begun first now program s w = record { left = asking w.left; made = w.made; calls = w.calls; mine = w.mine; memory = none_refused w.calls w.memory }

  -- behind a call more
  pub within_breaks : (first now next : ThePass) (program : Program Call Reply X) (s : Standing Call Reply X) (call : Call) (reply : Reply) → IsWithin turn first program now s → Some call ≡ next_of s
      → IsCalled IsStep Permits (start_of turn) (front now) (unbroken call) reply (front next) → HasBegun (front first) (asking program) (front next)
  within_breaks first now next program s call reply w some called =
      let a = within_asks first now program s call w some in
      let k : Reply → Program Ask Reply X = λ r. asking (a.next r) in
      let e : Event = entry called.caller (unbroken call) reply called.after in
      record {
        left = k reply;
        made = made_more IsStep Permits (start_of turn) (front first) (front now) (front next) (asking program) (unbroken call) k reply w.after.known.own a.made called;
        calls = w.calls ++ e ∷ [];
        mine = called.mine ∙ (ap (λ (z : List Event). z ++ e ∷ []) w.mine ∙ append_assoc (mine_of first) w.calls (e ∷ []));
        memory = before_last w.calls e w.memory;
      }

  ends_so : (first now : ThePass) (program : Program Call Reply X) (left : Program Call Reply X) (result : X) → HasMade (front first) (asking program) (front now) (asking left) → (calls : List Event) → mine_of now ≡ mine_of first ++ calls → HadMemory calls
      → rest_of (ready left) ≡ over result → HasRead (front first) (asking program) (front now) result
  ends_so first now program (done value) result made calls mine memory is =
      let Q : X → Type 0 = λ x. HasRead (front first) (asking program) (front now) x in
      subst Q (same_over value result is) (record { made = made; calls = calls; mine = mine; memory = memory })
  ends_so first now program (ask question k) result made calls mine memory is = let Q : Rest Call Reply X → Type 0 = λ rest. Awaits rest in absurd (subst Q is tt)

  pub within_ends : (first now : ThePass) (program : Program Call Reply X) (s mid : Standing Call Reply X) (result : X) → IsWithin turn first program now s → rest_of mid ≡ rest_of s → rest_of mid ≡ over result
      → HasRead (front first) (asking program) (front now) result
  within_ends first now program s mid result w same is =
      ends_so first now program w.left result w.made w.calls w.mine w.memory (sym (same ∙ ap (λ t. rest_of t) w.stands) ∙ is)

  over_so : (left : Program Call Reply X) → None ≡ next_of (ready left) → IsOver (rest_of (ready left))
  over_so (done result) none = tt
  over_so (ask question k) none = absurd (none-some question none)

  pub within_over : (first now : ThePass) (program : Program Call Reply X) (s mid : Standing Call Reply X) → IsWithin turn first program now s → None ≡ next_of s → rest_of mid ≡ rest_of s → IsOver (rest_of mid)
  within_over first now program s mid w none same =
      let Q : Rest Call Reply X → Type 0 = λ rest. IsOver rest in
      subst Q (sym (same ∙ ap (λ t. rest_of t) w.stands)) (over_so w.left (none ∙ ap (λ t. next_of t) w.stands))

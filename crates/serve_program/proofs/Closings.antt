-- Clients close their writers, one after the other.
use Rattle.std.proofs.Common.{◌≡◌, ℕ, suc, ◌+◌, List, [], ◌∷◌, ◌++◌, length, max, refl, sym, ap, subst, ◌∙◌, append_assoc, append-nil, arith}
use Rattle.std.proofs.lemmas.List.{length-set}
use Rattle.mount_model.specs.State.{State}
use Rattle.script_lang.specs.declared.line.Line.{Line}
use Rattle.script_lang.specs.declared.script.ActorDecl.{ActorDecl}
use Rattle.script_lang.specs.declared.script.Numbered.{Numbered}
use Rattle.run_core.specs.Breaking.{IsPlayBroken}
use Rattle.serve_core.specs.declared.client.Client.{Client}
use Rattle.serve_core.specs.Making.{AreAtRest}
use Rattle.serve_core.specs.Serving.{HasServed, script_of}
use Rattle.serve_core.proofs.Facts.{is_broken, one_more, rest_after}
use Rattle.serve_program.specs.Closing.{BeginsToClose, BreaksClosing, Closes, HaveClosed, closing, closings, trouble_of, worst}

-- one line more
worst_more : (lines : List Line) (line : Line) → worst (lines ++ line ∷ []) ≡ max (worst lines) (trouble_of line.outcome)
worst_more [] line = let t = trouble_of line.outcome in let e : max t 0 ≡ max 0 t = omega arith in e
worst_more (first ∷ lines) line =
    let t = trouble_of line.outcome in
    let w = worst lines in
    let f = trouble_of first.outcome in
    let e : max f (max w t) ≡ max (max f w) t = omega arith in
    ap (λ z. max f z) (worst_more lines line) ∙ e

pub none_closed : (clients : List Client) (now : State) → AreAtRest clients → HaveClosed 0 clients now 0 clients now
none_closed clients now rest = record {
  told = [];
  closed = λ declared from asked lines h.
      let H : List Numbered × List Line → Type 0 = λ z. HasServed declared from z.0 z.1 clients now in
      subst H (λ i. (sym (append-nil asked) i, sym (append-nil lines) i)) h;
  trouble_is = refl;
  rest = rest;
  long = refl;
}

next_closing : (count : ℕ) → closings (count + 1) ≡ closings count ++ closing count ∷ []
next_closing count = let e : count + 1 ≡ suc count = omega arith in ap closings e

pub one_closed : (count : ℕ) (old mid new : List Client) (start now end : State) (so_far trouble : ℕ) → HaveClosed count old start so_far mid now → Closes count mid now trouble new end → HaveClosed (count + 1) old start (max so_far trouble) new end
one_closed count old mid new start now end so_far trouble h c = record {
  told = h.told ++ c.0 ∷ [];
  closed = λ declared from asked lines served.
      let before = h.closed declared from asked lines served in
      let whole = one_more declared from now end (asked ++ closings count) (closing count) (lines ++ h.told) c.0 mid new before c.1 in
      let H : List Numbered × List Line → Type 0 = λ z. HasServed declared from z.0 z.1 new end in
      subst H (λ i. ((append_assoc asked (closings count) (closing count ∷ []) ∙ ap (λ z. asked ++ z) (sym (next_closing count))) i, append_assoc lines h.told (c.0 ∷ []) i)) whole;
  trouble_is = (λ i. max (h.trouble_is i) (c.2 i)) ∙ sym (worst_more h.told c.0);
  rest = rest_after (closing count) mid new now end c.0 h.rest c.1;
  long = ap length c.1.new_is ∙ (length-set mid count c.1.after ∙ h.long);
}

pub closing_breaks : (count : ℕ) (old mid : List Client) (start now end : State) (trouble : ℕ) → HaveClosed count old start trouble mid now → BeginsToClose count mid now end → BreaksClosing old start end
closing_breaks count old mid start now end trouble h b = record { count = count; trouble = trouble; clients = mid; now = now; so_far = h; begins = b }

-- all calls are then a front of those of a play
pub broken_closing : (declared : List ActorDecl) (from mid end : State) (asked : List Numbered) (lines : List Line) (old : List Client) → HasServed declared from asked lines old mid → (b : BreaksClosing old mid end)
    → IsPlayBroken (script_of declared (asked ++ closings (b.count + 1))) from end
broken_closing declared from mid end asked lines old served b =
    let before = b.so_far.closed declared from asked lines served in
    let whole = is_broken declared from b.now end (asked ++ closings b.count) (closing b.count) (lines ++ b.so_far.told) b.clients before b.begins in
    let P : List Numbered → Type 0 = λ z. IsPlayBroken (script_of declared z) from end in
    subst P (append_assoc asked (closings b.count) (closing b.count ∷ []) ∙ ap (λ z. asked ++ z) (sym (next_closing b.count))) whole

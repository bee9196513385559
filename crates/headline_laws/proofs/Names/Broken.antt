-- A truncate or a rename that broke off, and an opening in which no writer was opened: the container that the line speaks of had the name of its statement.
use Rattle.std.proofs.Common.{◌≡◌, ◌⊎◌, ◌<◌, ◌&&◌, inl, inr, ℕ, Bool, true, false, nat_eq, nat_lt, List, [], ◌∷◌, ◌++◌, refl, sym, ap, ◌∙◌, subst, arith, if◌then◌else◌}
use Rattle.std.specs.Prelude.{⊤}
use Rattle.std.proofs.lemmas.Bool.Decides.{nat_tests}
use Rattle.plain_file.proofs.Facts.{Among}
use Rattle.turn_object.specs.Callers.{made_by}
use Rattle.mount_model.specs.declared.call.Call.{Call}
use Rattle.mount_model.specs.declared.call.Call.TheVariants.{Find, Greet, Hold, MakeContainer}
use Rattle.mount_model.specs.declared.reply.Reply.{Reply}
use Rattle.mount_model.specs.declared.reply.Reply.TheVariants as reply
use Rattle.mount_model.specs.History.{Event}
use Rattle.mount_model.specs.Paths.{Name}
use Rattle.reader_laws.specs.Moments.{Moment, moment_after, next_moment}
use Rattle.actor_core.specs.Endings.{Ending}
use Rattle.headline_laws.proofs.Names.ByOpening.{EntersOnly, enters_behind, first_only, own_among}
use Rattle.headline_laws.proofs.Names.Seeks.{Behind, OnlyGreets, Sought, SoughtOr}
use Rattle.headline_laws.proofs.Story.Attributed.{either_part, head_of, tail_of}
use Rattle.headline_laws.proofs.Story.Lines.{entered_room, first_held, first_made, held_or, held_room, many_rooms}

-- ---- a call that holds

abbrev HoldsOnly : Reply → Call → Type 0
HoldsOnly r (Hold room) = r ≡ reply.Room room
HoldsOnly r call = ⊤

holds_behind : (r : Reply) (call : Call) → Behind r call → HoldsOnly r call
holds_behind r (Hold room) is = is
holds_behind r call is = tt

held_only : (d : ℕ) (r : Reply) (xs : List Event) → ((x : Event) → Among x xs → HoldsOnly r x.ask.call) → (first_held d xs ≡ d) ⊎ ((room : ℕ) × (r ≡ reply.Room room) × (first_held d xs ≡ room))
held_only d r [] each = inl refl
held_only d r (x ∷ xs) each = by x.ask.call (each x (inl refl)) (held_only d r xs (λ y at. each y (inr at)))
  where
    by : (call : Call) → HoldsOnly r call → (first_held d xs ≡ d) ⊎ ((room : ℕ) × (r ≡ reply.Room room) × (first_held d xs ≡ room)) → (held_or call (first_held d xs) ≡ d) ⊎ ((room : ℕ) × (r ≡ reply.Room room) × (held_or call (first_held d xs) ≡ room))
    by (Hold room) is later = inr (room, is, refl)
    by call is later = later

module _ (n : ℕ) (call : Call) where
  -- each own call is a greeting, or that call, or lies behind it
  each_own : (P : Call → Type 0) (mine : List Event) (e : Ending) (z : Sought n call mine e) → P Greet → P call → ((c : Call) → Behind z.event.reply c → P c) → (x : Event) → Among x (made_by n mine) → P x.ask.call
  each_own P mine e z greets its behind x at =
      let h = own_among n mine x at in
      elim (either_part z.before (z.event ∷ z.after) h.a x h.b (sym z.is ∙ h.is)) as (λ _. P x.ask.call) [
        | inl (u, front, later) ↦ subst P (sym (z.greets h.a x u front h.own)) greets
        | inr (u, front, later) ↦ first_or_later h.own h.b u later
      ]
    where
      first_or_later : x.caller ≡ n → (b : List Event) (u : List Event) → z.event ∷ z.after ≡ u ++ x ∷ b → P x.ask.call
      first_or_later own b [] later = subst P (sym z.asked ∙ ap (λ (y : Event). y.ask.call) (head_of z.event x z.after b later)) its
      first_or_later own b (y ∷ u) later = behind x.ask.call (z.behind u x b (tail_of z.event y z.after (u ++ x ∷ b) later) own)

  each_greets : (P : Call → Type 0) (mine : List Event) → OnlyGreets n call mine → P Greet → (x : Event) → Among x (made_by n mine) → P x.ask.call
  each_greets P mine only greets x at = (let h = own_among n mine x at in subst P (sym (only h.a x h.b h.is h.own)) greets)

module _ (n : ℕ) (mine : List Event) (e : Ending) where
  -- what is held, or entered, was told by the call that found it, or made it
  pub held_told : (nothing : ℕ) (name : Name) → SoughtOr n (Find name) mine e → (held_room n nothing mine ≡ nothing) ⊎ ((z : Sought n (Find name) mine e) × (room : ℕ) × (z.event.reply ≡ reply.Room room) × (held_room n nothing mine ≡ room))
  held_told nothing name (inl only) = elim (held_only nothing reply.Done (made_by n mine) (each_greets n (Find name) (HoldsOnly reply.Done) mine only tt)) as (λ _. (held_room n nothing mine ≡ nothing) ⊎ ((z : Sought n (Find name) mine e) × (room : ℕ) × (z.event.reply ≡ reply.Room room) × (held_room n nothing mine ≡ room))) [
    | inl none ↦ inl none
    | inr (room, told, is) ↦ absurd (let clash : reply.Done ≡ reply.Room room = told in cc)
  ]
  held_told nothing name (inr z) = elim (held_only nothing z.event.reply (made_by n mine) (each_own n (Find name) (HoldsOnly z.event.reply) mine e z tt tt (holds_behind z.event.reply))) as (λ _. (held_room n nothing mine ≡ nothing) ⊎ ((y : Sought n (Find name) mine e) × (room : ℕ) × (y.event.reply ≡ reply.Room room) × (held_room n nothing mine ≡ room))) [
    | inl none ↦ inl none
    | inr (room, told, is) ↦ inr (z, room, told, is)
  ]

  pub entered_told : (d : ℕ) (name : Name) → SoughtOr n (MakeContainer name) mine e → (entered_room n d mine ≡ d) ⊎ ((z : Sought n (MakeContainer name) mine e) × (room : ℕ) × (z.event.reply ≡ reply.Room room) × (entered_room n d mine ≡ room))
  entered_told d name (inl only) = elim (first_only d reply.Done (made_by n mine) (each_greets n (MakeContainer name) (EntersOnly reply.Done) mine only tt)) as (λ _. (entered_room n d mine ≡ d) ⊎ ((z : Sought n (MakeContainer name) mine e) × (room : ℕ) × (z.event.reply ≡ reply.Room room) × (entered_room n d mine ≡ room))) [
    | inl none ↦ inl none
    | inr (room, told, is) ↦ absurd (let clash : reply.Done ≡ reply.Room room = told in cc)
  ]
  entered_told d name (inr z) = elim (first_only d z.event.reply (made_by n mine) (each_own n (MakeContainer name) (EntersOnly z.event.reply) mine e z tt tt (enters_behind z.event.reply))) as (λ _. (entered_room n d mine ≡ d) ⊎ ((y : Sought n (MakeContainer name) mine e) × (room : ℕ) × (y.event.reply ≡ reply.Room room) × (entered_room n d mine ≡ room))) [
    | inl none ↦ inl none
    | inr (room, told, is) ↦ inr (z, room, told, is)
  ]

-- ---- a container that was to be held

-- where one of these calls asks to hold a container, it is the one that was told
held_some : (d : ℕ) (r : Reply) (xs : List Event) (room : ℕ) → ((x : Event) → Among x xs → HoldsOnly r x.ask.call) → (x : Event) → Among x xs → x.ask.call ≡ Hold room → first_held d xs ≡ room
held_some d r [] room each x at asked = absurd at
held_some d r (y ∷ xs) room each x (inl same) asked = ap (λ c. held_or c (first_held d xs)) (ap (λ (z : Event). z.ask.call) (sym same) ∙ asked)
held_some d r (y ∷ xs) room each x (inr at) asked = by y.ask.call (each y (inl refl)) (held_some d r xs room (λ z there. each z (inr there)) x at asked)
  where
    its : r ≡ reply.Room room
    its = subst (HoldsOnly r) asked (each x (inr at))

    by : (call : Call) → HoldsOnly r call → first_held d xs ≡ room → held_or call (first_held d xs) ≡ room
    by (Hold other) is later = (let one : reply.Room other ≡ reply.Room room = sym is ∙ its in cc)
    by call is later = later

pub held_is : (n nothing room : ℕ) (mine : List Event) (e : Ending) (name : Name) → SoughtOr n (Find name) mine e → (x : Event) → Among x (made_by n mine) → x.ask.call ≡ Hold room → held_room n nothing mine ≡ room
held_is n nothing room mine e name (inl only) x at asked = absurd (let clash : Hold room ≡ Greet = sym asked ∙ each_greets n (Find name) (λ c. c ≡ Greet) mine only refl x at in cc)
held_is n nothing room mine e name (inr z) x at asked = held_some nothing z.event.reply (made_by n mine) room (each_own n (Find name) (HoldsOnly z.event.reply) mine e z tt tt (holds_behind z.event.reply)) x at asked

-- ---- a container that was made

-- the first of a caller's calls behind which there are more containers
pub record Rose (n d : ℕ) (m : Moment) (events : List Event) : Type 0 where
  pub a : List Event
  pub e : Event
  pub u : List Event
  pub is : events ≡ a ++ e ∷ u
  pub own : e.caller ≡ n
  pub rises : many_rooms (moment_after m a).state < many_rooms e.after
  pub value : first_made n d m.state events ≡ many_rooms (moment_after m a).state

pub rose_or : (n d : ℕ) (m : Moment) (events : List Event) → (first_made n d m.state events ≡ d) ⊎ Rose n d m events
rose_or n d m [] = inl refl
rose_or n d m (e ∷ events) = by (nat_eq e.caller n) refl (nat_lt (many_rooms m.state) (many_rooms e.after)) refl (rose_or n d (next_moment m e) events)
  where
    rest : ℕ
    rest = first_made n d e.after events

    one : ℕ
    one = first_made n d m.state (e ∷ events)

    goes_on : one ≡ rest → (rest ≡ d) ⊎ Rose n d (next_moment m e) events → (one ≡ d) ⊎ Rose n d m (e ∷ events)
    goes_on same (inl none) = inl (same ∙ none)
    goes_on same (inr r) = inr (record { a = e ∷ r.a; e = r.e; u = r.u; is = ap (λ z. e ∷ z) r.is; own = r.own; rises = r.rises; value = same ∙ r.value })

    by : (x : Bool) → nat_eq e.caller n ≡ x → (y : Bool) → nat_lt (many_rooms m.state) (many_rooms e.after) ≡ y → (rest ≡ d) ⊎ Rose n d (next_moment m e) events → (one ≡ d) ⊎ Rose n d m (e ∷ events)
    by true is true rises later =
        let its : e.caller ≡ n = grind (arith, nat_tests) in
        let more : many_rooms m.state < many_rooms e.after = grind (arith, nat_tests) in
        inr (record { a = []; e = e; u = events; is = refl; own = its; rises = more; value = ap (λ z. if z && nat_lt (many_rooms m.state) (many_rooms e.after) then many_rooms m.state else rest) is ∙ ap (λ z. if z then many_rooms m.state else rest) rises })
    by true is false stays later = goes_on (ap (λ z. if z && nat_lt (many_rooms m.state) (many_rooms e.after) then many_rooms m.state else rest) is ∙ ap (λ z. if z then many_rooms m.state else rest) stays) later
    by false is y stays later = goes_on (ap (λ z. if z && nat_lt (many_rooms m.state) (many_rooms e.after) then many_rooms m.state else rest) is) later

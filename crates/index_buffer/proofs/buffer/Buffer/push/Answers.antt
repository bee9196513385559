use Rattle.std.proofs.Common.{ap, arith, length, subst, sym, ◌∙◌, ◌≡◌, ◌+◌, ◌≤◌, ◌++◌, ◌∷◌, [], ℕ, List}
use Rattle.std.specs.Prelude.{vec_len, vec_capacity, is_ok}
use Rattle.std.proofs.lemmas.Bool.{cond-true}
use Rattle.std.proofs.lemmas.List.{length_push}
use Rattle.plfs_types.specs.declared.entries.Entry.{Entry}
use Rattle.index_entry.specs.Spelling.{spelling}
use Rattle.index_entry.proofs.Facts.{length-spelling}
use Rattle.index_buffer.specs.Pending.{Pending}
use Rattle.index_buffer.specs.Held.{buffered}
use Rattle.index_buffer.proofs.PendingLemmas.{AreHeld, AreHeld-push, length_bytes}
use Rattle.index_buffer.proofs.buffer.Buffer.push.Goals as goal

-- one entry more is still within the capacity
within_more : (c : goal.After-extend_from_slice) → length (buffered c.self.inside.bytes.items) + 1 ≤ c.self.inside.capacity
within_more c =
    let count : length (buffered c.self.inside.bytes.items) ≡ length c.args.self.now.entries = ap (λ (p : Pending). length p.entries) c.self.view_is in
    let capacity : c.self.inside.capacity ≡ c.args.self.now.capacity = ap (λ (p : Pending). p.capacity) c.self.view_is in
    omega (arith, c.requires.room)

-- the bytes after the push, which had room
held : (c : goal.After-extend_from_slice) → AreHeld c.extend_from_slice.new.self.items (buffered c.self.inside.bytes.items ++ c.args.entry.now ∷ [])
held c =
    let old = c.self.inside.bytes in
    let entry = c.args.entry.now in
    let buffer = c.self.invariant in
    let has_room : vec_len old + length c.encoded.result ≤ vec_capacity old =
    omega (arith, within_more c, length_bytes old.items buffer.whole, old.ok.0, buffer.room, ap length c.encoded.ensures.spelled, length-spelling entry) in
    let pushed : c.extend_from_slice.new.self.items ≡ old.items ++ spelling entry =
    c.extend_from_slice.ensures.items
    ∙ cond-true (is_ok c.extend_from_slice.result) (old.items ++ c.encoded.result) old.items (c.extend_from_slice.ensures.succeeds has_room)
    ∙ ap (λ (x : List ℕ). old.items ++ x) c.encoded.ensures.spelled in
    let P : List ℕ → Type 0 = λ bytes. AreHeld bytes (buffered old.items ++ entry ∷ []) in
    subst P (sym pushed) (AreHeld-push old.items entry buffer.whole buffer.valid c.requires.valid c.encoded.ensures.places)

pub invariant_of-self : goal.invariant_of-self
invariant_of-self c =
    let buffer = c.self.invariant in
    let count = ap length (held c).are ∙ length_push (buffered c.self.inside.bytes.items) c.args.entry.now in
    record {
      whole = (held c).whole;
      valid = (held c).valid;
      within = omega (arith, count, within_more c);
      room = omega (arith, buffer.room, c.extend_from_slice.ensures.capacity);
      some = buffer.some;
      few = buffer.few;
    }

pub returns : goal.returns
returns c =
    let same : c.self.inside.capacity ≡ c.args.self.now.capacity = ap (λ (p : Pending). p.capacity) c.self.view_is in
    let before : buffered c.self.inside.bytes.items ≡ c.args.self.now.entries = ap (λ (p : Pending). p.entries) c.self.view_is in
    let after = (held c).are ∙ ap (λ (es : List Entry). es ++ c.args.entry.now ∷ []) before in
    λ i. record { entries = after i; capacity = same i }

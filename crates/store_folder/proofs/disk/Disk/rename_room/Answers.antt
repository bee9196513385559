use Rattle.std.proofs.Common.{◌≡◌, ◌∙◌, inl, inr, [], ◌∷◌, List, ℕ, None, Ok, Err, refl, subst, rules}
use Rattle.std.specs.Prelude.{position, IsSome, string_bytes}
use Rattle.store_api.specs.Names.{same_name}
use Rattle.store_api.specs.Step.{rename_room}
use Rattle.store_api.specs.declared.step.Answer.TheVariants.{Made, NoRoom, TargetThere}
use Rattle.folder_calls.specs.declared.failure.Failure.TheVariants.{Failed}
use Rattle.folder_calls.specs.Calls.{Makes, renamed_item}
use Rattle.store_folder.specs.Failing.{FailsToRenameRoom, uncalled, not_renamed, not_synced}
use Rattle.store_folder.specs.Paths.{item_of, room_path}
use Rattle.store_folder.proofs.Ending.{ends_with, room_renamed}
use Rattle.store_folder.proofs.InRooms.{of_one, none_there, some_absent}
use Rattle.store_folder.specs.Rooms.{MovesRoom}
use Rattle.store_folder.proofs.disk.Disk.rename_room.Goals as goal

pub returns-in_err-old : goal.returns-in_err-old
returns-in_err-old g c =
    let failure = c.in_err-old.field-0.0 in
    record {
      ends = ends_with g.C.Calls.log c.args.self.now _ (rename_room c.args.room c.args.to.now) (Err failure) _ (search rules)
          (room_renamed g.C.Calls.log c.args.self.now _ (Err failure) c.args.room c.args.to.now (refl, refl, refl, refl) tt (uncalled (λ room_named is_room named. c.in_err-old.ensures.memory room_named) refl) (inl refl));
    }

pub returns-in_default : goal.returns-in_default
returns-in_default g c = record {
  ends = room_renamed g.C.Calls.log c.args.self.now _ (Ok NoRoom) c.args.room c.args.to.now (refl, refl, refl, refl) ((λ past. (refl, refl)), λ within. absurd (none_there c.in_ok-old.field-0 c.in_default.is (c.in_ok-old.ensures.there within))) tt tt;
}

pub returns-then-is_some : goal.returns-then-is_some
returns-then-is_some g c =
    let there : IsSome (position (λ room. same_name room c.args.to.now) c.args.self.now.rooms.items) = search rules in
    record {
      ends = room_renamed g.C.Calls.log c.args.self.now _ (Ok TargetThere) c.args.room c.args.to.now (refl, refl, refl, refl) ((λ past. absurd (some_absent c.in_ok-old.field-0 c.in-Some.old c.in-Some.is (c.in_ok-old.ensures.absent past))), λ within. (there, refl, refl)) tt tt;
    }

pub returns-then-not-is_room_name : goal.returns-then-not-is_room_name
returns-then-not-is_room_name g c = record {
  ends = room_renamed g.C.Calls.log c.args.self.now _ (Err Failed) c.args.room c.args.to.now (refl, refl, refl, refl) tt (uncalled (λ room_named is_room named. absurd (search (rules, is_room))) refl) (inl refl);
}

pub returns-in_err-renamed : goal.returns-in_err-renamed
returns-in_err-renamed g c =
    let root = string_bytes c.args.self.now.root in
    let path = room_path c.args.self.now c.args.room in
    let failure = c.in_err-renamed.field-0.0 in
    let start = g.C.Calls.log c.args.self.now.calls in
    let later = g.C.Calls.log c.move_to-renamed.new.calls in
    let From : List ℕ → Type 0 = λ text. Makes (renamed_item text (item_of c.as_str.result.now c.args.to.now) (Err failure) ∷ []) start later in
    let Below : List ℕ → Type 0 = λ text. Makes (renamed_item path (item_of text c.args.to.now) (Err failure) ∷ []) start later in
    let was : c.as_str-2.result.now ≡ path = c.as_str-2.ensures.value ∙ of_one c.in_ok-old.field-0 c.in-Some.old (λ old. string_bytes old ≡ path) c.in-Some.is c.in_ok-old.ensures.path in
    let ended : FailsToRenameRoom start later c.args.self.now c.args.room c.args.to.now failure = elim c.in_err-renamed.ensures.fails [
      | inl none ↦ uncalled (λ room_named is_room named. none.0 named) none.1
      | inr made ↦ not_renamed made.0 (subst Below c.as_str.ensures.value (subst From was made.1))
    ] in
    record {
      ends = ends_with g.C.Calls.log c.args.self.now _ (rename_room c.args.room c.args.to.now) (Err failure) _ (search rules) (room_renamed g.C.Calls.log c.args.self.now _ (Err failure) c.args.room c.args.to.now (refl, refl, refl, refl) tt ended (inl refl));
    }

pub returns-in_err-sync_folder : goal.returns-in_err-sync_folder
returns-in_err-sync_folder g c =
    let root = string_bytes c.args.self.now.root in
    let path = room_path c.args.self.now c.args.room in
    let start = g.C.Calls.log c.args.self.now.calls in
    let later = g.C.Calls.log c.sync_folder.new.self in
    let moves : MovesRoom root path c.args.to.now (Err Failed) start later = search rules in
    record {
      ends = ends_with g.C.Calls.log c.args.self.now _ (rename_room c.args.room c.args.to.now) (Err Failed) _ (search rules) (room_renamed g.C.Calls.log c.args.self.now _ (Err Failed) c.args.room c.args.to.now (refl, refl, refl, refl) tt (not_synced refl moves) (inr (c.call_room.ensures, moves)));
    }

pub returns : goal.returns
returns g c =
    let root = string_bytes c.args.self.now.root in
    let path = room_path c.args.self.now c.args.room in
    let start = g.C.Calls.log c.args.self.now.calls in
    let later = g.C.Calls.log c.sync_folder.new.self in
    let none : position (λ room. same_name room c.args.to.now) c.args.self.now.rooms.items ≡ None = search rules in
    let moves : MovesRoom root path c.args.to.now (Ok tt) start later = search rules in
    record {
      ends = room_renamed g.C.Calls.log c.args.self.now _ (Ok Made) c.args.room c.args.to.now (refl, refl, refl, refl) ((λ past. absurd (some_absent c.in_ok-old.field-0 c.in-Some.old c.in-Some.is (c.in_ok-old.ensures.absent past))), λ within. (none, c.call_room.ensures, moves)) tt tt;
    }

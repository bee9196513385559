use Rattle.std.proofs.Common.{◌≡◌, ◌∙◌, [], ◌∷◌, length, inl, inr, ap, sym, subst, Ok, Err, refl, arith, rules}
use Rattle.std.proofs.lemmas.Grind.{common_steps}
use Rattle.std.specs.Prelude.{string_bytes}
use Rattle.store_api.specs.Step.{make_room}
use Rattle.store_api.specs.declared.step.Answer.TheVariants.{Old, Number}
use Rattle.folder_calls.specs.declared.failure.Failure.{Failure}
use Rattle.folder_calls.specs.declared.failure.Failure.TheVariants.{Failed, NoMemory}
use Rattle.folder_calls.specs.Calls.{Makes, synced_folder}
use Rattle.store_folder.specs.FailedBuilding.{uncalled, not_built, not_synced}
use Rattle.store_folder.specs.Paths.{item_of}
use Rattle.store_folder.proofs.Ending.{ends_with, room_made}
use Rattle.store_folder.proofs.FailedRooms.{room_unbuilt}
use Rattle.store_folder.proofs.InRooms.{makes_room}
use Rattle.store_folder.proofs.disk.Disk.make_room.Goals as goal

pub returns-in-Some : goal.returns-in-Some
returns-in-Some g c = record { ends = room_made g.C.Calls.log c.args.self.now _ (Ok (Old c.in-Some.room)) c.args.name.now c.args.folders.now c.args.files.now (refl, refl, refl, refl) (sym c.number_of.ensures ∙ c.in-Some.is, refl, refl) tt tt }

pub returns-then-not-is_room_name : goal.returns-then-not-is_room_name
returns-then-not-is_room_name g c = record {
  ends = room_made g.C.Calls.log c.args.self.now _ (Err Failed) c.args.name.now c.args.folders.now c.args.files.now (refl, refl, refl, refl) tt (sym c.number_of.ensures ∙ c.in_default.is, uncalled (λ is_room named. absurd (search (rules, is_room))) refl) (inl refl);
}

pub returns-in_err-path : goal.returns-in_err-path
returns-in_err-path g c =
    let failure = c.in_err-path.field-0.0 in
    record {
      ends = ends_with g.C.Calls.log c.args.self.now _ (make_room c.args.name.now c.args.folders.now c.args.files.now) (Err failure) _ (search rules)
          (room_made g.C.Calls.log c.args.self.now _ (Err failure) c.args.name.now c.args.folders.now c.args.files.now (refl, refl, refl, refl) tt (sym c.number_of.ensures ∙ c.in_default.is, uncalled (λ is_room named. c.in_err-path.ensures.memory named) refl) (inl refl));
    }

pub returns-in_err-push : goal.returns-in_err-push
returns-in_err-push g c =
    let same : c.push.new.self.items ≡ c.args.self.now.rooms.items = search rules in
    record {
      ends = ends_with g.C.Calls.log c.args.self.now _ (make_room c.args.name.now c.args.folders.now c.args.files.now) (Err NoMemory) _ (search rules)
          (room_made g.C.Calls.log c.args.self.now _ (Err NoMemory) c.args.name.now c.args.folders.now c.args.files.now (refl, refl, refl, refl) tt (sym c.number_of.ensures ∙ c.in_default.is, uncalled (λ is_room named. refl) refl) (inl same));
    }

pub returns-in-Err : goal.returns-in-Err
returns-in-Err g c =
    let same : c.pop.new.self.items ≡ c.args.self.now.rooms.items = grind (arith, common_steps, c.pop.ensures.rest, c.in_ok-push.ensures.items) in
    let root = string_bytes c.args.self.now.root in
    let path = c.as_str-3.ensures.value ∙ c.in_ok-path.ensures.path ∙ ap (λ text. item_of text c.args.name.now) c.as_str.ensures.value in
    record {
      ends = room_made g.C.Calls.log c.args.self.now _ (Err c.in-Err.failure) c.args.name.now c.args.folders.now c.args.files.now (refl, refl, refl, refl) tt (sym c.number_of.ensures ∙ c.in_default.is, not_built (room_unbuilt _ _ root (item_of root c.args.name.now) _ _ c.args.folders.now c.args.files.now c.in-Err.failure c.as_str-2.ensures.value path c.in-Err.ensures.fails)) (inl same);
    }

pub returns-in_err-sync_folder : goal.returns-in_err-sync_folder
returns-in_err-sync_folder g c =
    let root = string_bytes c.args.self.now.root in
    let path = c.as_str-3.ensures.value ∙ c.in_ok-path.ensures.path ∙ ap (λ text. item_of text c.args.name.now) c.as_str.ensures.value in
    let failed : Failure → Type 0 = λ failure. Makes (synced_folder c.as_str-4.result.now (Err failure) ∷ []) (g.C.Calls.log c.build_room-built.new.calls) (g.C.Calls.log c.sync_folder.new.self) in
    let makes = makes_room root (item_of root c.args.name.now) c.args.folders.now c.args.files.now (Err Failed) _ _ _ _ _ _ c.as_str-2.ensures.value path c.as_str-4.ensures.value c.in_default-built.ensures.built (subst failed c.in_err-sync_folder.ensures.failed c.in_err-sync_folder.ensures.call) in
    record {
      ends = ends_with g.C.Calls.log c.args.self.now _ (make_room c.args.name.now c.args.folders.now c.args.files.now) (Err Failed) _ (search rules)
          (room_made g.C.Calls.log c.args.self.now _ (Err Failed) c.args.name.now c.args.folders.now c.args.files.now (refl, refl, refl, refl) tt (sym c.number_of.ensures ∙ c.in_default.is, not_synced refl makes) (inr (c.in_ok-push.ensures.items, makes)));
    }

pub returns : goal.returns
returns g c =
    let next : c.len-value.result ≡ length c.args.self.now.rooms.items = search rules in
    let root = string_bytes c.args.self.now.root in
    let path = c.as_str-3.ensures.value ∙ c.in_ok-path.ensures.path ∙ ap (λ text. item_of text c.args.name.now) c.as_str.ensures.value in
    record {
      ends = room_made g.C.Calls.log c.args.self.now _ (Ok (Number c.len-value.result)) c.args.name.now c.args.folders.now c.args.files.now (refl, refl, refl, refl) (sym c.number_of.ensures ∙ c.in_default.is, next, c.in_ok-push.ensures.items, makes_room root (item_of root c.args.name.now) c.args.folders.now c.args.files.now (Ok tt) _ _ _ _ _ _ c.as_str-2.ensures.value path c.as_str-4.ensures.value c.in_default-built.ensures.built c.in_ok-sync_folder.ensures.call) tt tt;
    }

use Rattle.std.proofs.Common.{◌≡◌, ◌⊎◌, ◌∙◌, ◌<◌, inl, inr, length, true, Ok, Err, sym, subst, rules}
use Rattle.std.proofs.lemmas.Bool.{cases_lt}
use Rattle.store_api.specs.Step.{step_of}
use Rattle.store_folder.specs.declared.files.Found.{Found}
use Rattle.folder_calls.specs.Opened.{held_at}
use Rattle.folder_calls.specs.declared.own.OwnFiles.{OwnFiles}
use Rattle.folder_calls.specs.Keys.{same_file}
use Rattle.folder_calls.specs.Own.{is_own}
use Rattle.store_folder.specs.Places.{FindsFile}
use Rattle.store_folder.specs.Paths.{room_path, folder_path}
use Rattle.store_folder.proofs.Ending.{ends_with, file_acted}
use Rattle.store_folder.proofs.Staying.{stays}
use Rattle.store_folder.proofs.Acting.{acts_found, acts_missing, acts_failed, becomes_own}
use Rattle.store_folder.proofs.disk.Disk.find_and_act.Goals as goal

pub returns-in-Err : goal.returns-in-Err
returns-in-Err g c =
    let key = c.args.key.now in
    let room = room_path c.args.self.now key.room in
    record {
      ends = λ its. file_acted g.C.Calls.log c.args.self.now _ (Err c.in-Err.failure) key (step_of c.args.step.now) its (c.find.ensures.rooms)
          (λ past. absurd (search (rules, (c.in-Err.ensures.no_room past).0)))
          (λ within. acts_failed (is_own c.args.self.now.own key) _ _ _ _ room (folder_path room key.folder) key.file _ c.in-Err.failure (held_at c.args.self.now.open key) (c.in-Err.ensures.open_file within) c.in-Err.ensures.fails)
          c.find.ensures.closed
          (λ other held there. inl (stays other held key _ _ (c.find.ensures.others other) there))
          (λ other own. inl (subst (λ (files : OwnFiles). is_own files other ≡ true) c.find.ensures.own own))
          (λ other own. subst (λ (files : OwnFiles). is_own files other ≡ true) (sym c.find.ensures.own) own);
    }

pub returns-in-Not : goal.returns-in-Not
returns-in-Not g c =
    let key = c.args.key.now in
    let room = room_path c.args.self.now key.room in
    let Finds : Found g.row.F.Denot → Type 0 = λ found. FindsFile (held_at c.args.self.now.open key) (is_own c.args.self.now.own key) (g.C.Calls.log c.args.self.now.calls) (g.C.Calls.log c.find.new.self.calls) room (folder_path room key.folder) key.file found in
    record {
      ends = λ its. file_acted g.C.Calls.log c.args.self.now _ (Ok c.in-Not.answer) key (step_of c.args.step.now) its (c.find.ensures.rooms)
          (λ past. (search (rules, c.in-Not.is, (c.in-Ok.ensures.no_room past).0), (c.in-Ok.ensures.no_room past).1))
          (λ within. acts_missing (is_own c.args.self.now.own key) _ (g.C.Calls.log c.args.self.now.calls) _ _ room (folder_path room key.folder) key.file _ c.in-Not.answer (held_at c.args.self.now.open key) (subst Finds c.in-Not.is (c.in-Ok.ensures.finds within)))
          tt
          (λ other held there. inl (stays other held key _ _ (c.find.ensures.others other) there))
          (λ other own. inl (subst (λ (files : OwnFiles). is_own files other ≡ true) c.find.ensures.own own))
          (λ other own. subst (λ (files : OwnFiles). is_own files other ≡ true) (sym c.find.ensures.own) own);
    }

pub returns-in_err-answer-in-There : goal.returns-in_err-answer-in-There
returns-in_err-answer-in-There g c =
    let key = c.args.key.now in
    let room = room_path c.args.self.now key.room in
    let failure = c.in_err-answer-in-There.field-0.0 in
    let Finds : Found g.row.F.Denot → Type 0 = λ found. FindsFile (held_at c.args.self.now.open key) (is_own c.args.self.now.own key) (g.C.Calls.log c.args.self.now.calls) (g.C.Calls.log c.find.new.self.calls) room (folder_path room key.folder) key.file found in
    record {
      ends = λ its. ends_with g.C.Calls.log c.args.self.now _ (step_of c.args.step.now) (Err failure) _ (search rules)
          (file_acted g.C.Calls.log c.args.self.now _ (Err failure) key (step_of c.args.step.now) its (c.find.ensures.rooms)
          (λ past. absurd (search (rules, c.in-There.is, (c.in-Ok.ensures.no_room past).0)))
          (λ within. acts_found (is_own c.args.self.now.own key) _ _ _ _ room (folder_path room key.folder) key.file _ (Err failure) (held_at c.args.self.now.open key) c.in-There.held (subst Finds c.in-There.is (c.in-Ok.ensures.finds within)) c.in_err-answer-in-There.ensures.acts)
          c.find.ensures.closed
          (λ other held there. inl (stays other held key _ _ (c.find.ensures.others other) there))
          (λ other own. becomes_own c.args.self.now key (g.C.Calls.log c.args.self.now.calls) (g.C.Calls.log c.find.new.self.calls) c.in-There.held other (is_own c.args.self.now.own other ≡ true) (λ past. search (rules, c.in-There.is, (c.in-Ok.ensures.no_room past).0)) (λ within. subst Finds c.in-There.is (c.in-Ok.ensures.finds within)) (subst (λ (files : OwnFiles). (is_own files other ≡ true) ⊎ ((same_file key other ≡ true) × (c.in-There.held.len ≡ 0))) c.in-Ok.ensures.own (c.add_if_empty.ensures.only other own)))
          (λ other own. c.add_if_empty.ensures.lasts other (subst (λ (files : OwnFiles). is_own files other ≡ true) (sym c.find.ensures.own) own)));
    }

pub returns-in_ok-answer-in-There : goal.returns-in_ok-answer-in-There
returns-in_ok-answer-in-There g c =
    let key = c.args.key.now in
    let room = room_path c.args.self.now key.room in
    let answer = c.in_ok-answer-in-There.answer in
    let Finds : Found g.row.F.Denot → Type 0 = λ found. FindsFile (held_at c.args.self.now.open key) (is_own c.args.self.now.own key) (g.C.Calls.log c.args.self.now.calls) (g.C.Calls.log c.find.new.self.calls) room (folder_path room key.folder) key.file found in
    let within : key.room < length c.args.self.now.rooms.items = elim (cases_lt key.room (length c.args.self.now.rooms.items)) [ inl is ↦ is | inr past ↦ absurd (search (rules, c.in-There.is, (c.in-Ok.ensures.no_room past).0)) ] in
    record {
      ends = λ its. file_acted g.C.Calls.log c.args.self.now _ (Ok answer) key (step_of c.args.step.now) its (c.find.ensures.rooms)
          (λ past. absurd (search (rules, c.in-There.is, (c.in-Ok.ensures.no_room past).0)))
          (λ within. acts_found (is_own c.args.self.now.own key) _ _ _ _ room (folder_path room key.folder) key.file _ (Ok answer) (held_at c.args.self.now.open key) c.in-There.held (subst Finds c.in-There.is (c.in-Ok.ensures.finds within)) c.in_ok-answer-in-There.ensures.acts)
          tt
          (λ other held there. elim (c.keep.ensures.opened other held there) [
            | inl was ↦ inl (stays other held key _ _ (c.find.ensures.others other) was)
            | inr kept ↦ inr (kept.0, (c.in-There.held, (g.C.Calls.log c.find.new.self.calls), subst Finds c.in-There.is (c.in-Ok.ensures.finds within), c.in_ok-answer-in-There.ensures.acts, kept.1 ∙ c.in_ok-answer-in-There.ensures.after))
          ])
          (λ other own. becomes_own c.args.self.now key (g.C.Calls.log c.args.self.now.calls) (g.C.Calls.log c.find.new.self.calls) c.in-There.held other (is_own c.args.self.now.own other ≡ true) (λ past. search (rules, c.in-There.is, (c.in-Ok.ensures.no_room past).0)) (λ within. subst Finds c.in-There.is (c.in-Ok.ensures.finds within)) (subst (λ (files : OwnFiles). (is_own files other ≡ true) ⊎ ((same_file key other ≡ true) × (c.in-There.held.len ≡ 0))) c.in-Ok.ensures.own (c.add_if_empty.ensures.only other own)))
          (λ other own. c.add_if_empty.ensures.lasts other (subst (λ (files : OwnFiles). is_own files other ≡ true) (sym c.find.ensures.own) own));
    }

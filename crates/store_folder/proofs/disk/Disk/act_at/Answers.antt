use Rattle.std.proofs.Common.{◌<◌, ◌∙◌, ℕ, length, refl, subst}
use Rattle.store_api.specs.Step.{step_of}
use Rattle.store_folder.proofs.ActingOpen.{among, held_acted, as_it_was}
use Rattle.store_folder.proofs.disk.Disk.act_at.Goals as goal

pub returns-in-Some : goal.returns-in-Some
returns-in-Some g c =
    let old = c.args.self.now in
    let acted = c.act-acted.new in
    let within : c.args.key.now.room < length old.rooms.items = subst (λ (n : ℕ). c.args.key.now.room < n) (c.len.ensures ∙ old.rooms.ok.0) c.if-key-len.false in
    record {
      ends = λ its. held_acted g.C.Calls.log old (among old acted.calls acted.self acted.own) c.args.key.now (step_of c.args.step.now) c.in-Some.end its (refl, refl, refl) within c.in-Some.ensures.acts c.in-Some.ensures.only c.in-Some.ensures.lasts;
    }

pub returns-in-None : goal.returns-in-None
returns-in-None g c =
    let untouched = c.in-None.ensures.untouched refl in
    record {
      ends = λ its. as_it_was g.C.Calls.log c.args.self.now c.find_and_act-in-None.new.self c.act-acted.new.calls c.act-acted.new.self c.act-acted.new.own (step_of c.args.step.now) c.find_and_act-in-None.result untouched.0 untouched.1 untouched.2 (c.find_and_act-in-None.ensures.ends its);
    }

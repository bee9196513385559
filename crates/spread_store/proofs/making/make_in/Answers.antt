use Rattle.std.proofs.Common.{map, length, ◌++◌, ◌∷◌, [], sym, subst, ap, ◌∙◌}
use Rattle.std.specs.Prelude.{Ok, Err, Some}
use Rattle.store_api.specs.Step.{make_room}
use Rattle.store_api.specs.declared.step.Answer.TheVariants.{Absent, Number}
use Rattle.store_api.specs.declared.store.Trouble.TheVariants.{Fault}
use Rattle.spread_store.specs.declared.places.Doubt.{Doubt}
use Rattle.spread_store.specs.Joined.{spreading}
use Rattle.spread_store.specs.Fits.{IsFit}
use Rattle.spread_store.specs.Performs.{Performs}
use Rattle.spread_store.proofs.Added.{made_in_doubt, made_numbered, made_otherwise, made_failed}
use Rattle.spread_store.proofs.making.make_in.Goals as goal

pub returns-in-None-clause-performs : goal.returns-in-None-clause-performs
returns-in-None-clause-performs g c =
    let old = map g.S.Store.stored c.args.sites.now.stores in
    let new = map g.S.Store.stored c.ask.new.stores in
    let places = c.args.sites.now.places in
    let name = c.args.name.now in
    let folders = c.args.folders.now in
    let files = c.args.files.now in
    subst (λ d. IsFit (spreading old places d) → Performs (make_room name folders files) (spreading old places d) (spreading new places d) (Ok Absent)) (sym c.requires.sure)
    (λ fit. made_otherwise old new places c.args.home name folders files fit c.requires.free c.in-Ok.answer (sym c.number_told.ensures ∙ c.in-None.is) c.in-Ok.ensures) c.requires.fit

pub returns-in-Ok-push-clause-performs : goal.returns-in-Ok-push-clause-performs
returns-in-Ok-push-clause-performs g c =
    let old = map g.S.Store.stored c.args.sites.now.stores in
    let new = map g.S.Store.stored c.ask.new.stores in
    let places = c.args.sites.now.places in
    let name = c.args.name.now in
    let folders = c.args.folders.now in
    let files = c.args.files.now in
    subst (λ k. Performs (make_room name folders files) (spreading old places c.args.sites.now.doubt) (spreading new c.push.new.self c.args.sites.now.doubt) (Ok (Number k))) (ap length (sym c.as_slice.ensures))
    (subst (λ more. Performs (make_room name folders files) (spreading old places c.args.sites.now.doubt) (spreading new more c.args.sites.now.doubt) (Ok (Number (length places)))) (sym c.in-Ok-push.ensures.ok)
    (subst (λ d. IsFit (spreading old places d) → Performs (make_room name folders files) (spreading old places d) (spreading new (places ++ record { store = c.args.home; room = c.in-Some.room } ∷ []) d) (Ok (Number (length places)))) (sym c.requires.sure)
    (λ fit. made_numbered old new places c.args.home name folders files fit c.requires.free c.in-Ok.answer c.in-Some.room (sym c.number_told.ensures ∙ c.in-Some.is) c.in-Ok.ensures) c.requires.fit))

pub returns-in-Err-clause-performs : goal.returns-in-Err-clause-performs
returns-in-Err-clause-performs g c =
    let old = map g.S.Store.stored c.args.sites.now.stores in
    let new = map g.S.Store.stored c.ask.new.stores in
    let places = c.args.sites.now.places in
    let name = c.args.name.now in
    let folders = c.args.folders.now in
    let files = c.args.files.now in
    let doubt : Doubt = record { store = c.args.home; name = name } in
    subst (λ k. Performs (make_room name folders files) (spreading old places c.args.sites.now.doubt) (spreading new c.push.new.self (Some doubt)) (Ok (Number k))) (ap length (sym c.as_slice.ensures))
    (subst (λ more. Performs (make_room name folders files) (spreading old places c.args.sites.now.doubt) (spreading new more (Some doubt)) (Ok (Number (length places)))) (sym c.in-Err.ensures.err)
    (subst (λ d. IsFit (spreading old places d) → Performs (make_room name folders files) (spreading old places d) (spreading new places (Some doubt)) (Ok (Number (length places)))) (sym c.requires.sure)
    (λ fit. made_in_doubt old new places c.args.home name folders files fit c.requires.free c.in-Ok.answer c.in-Ok.ensures) c.requires.fit))

pub returns-in-Err-Fault-clause-performs : goal.returns-in-Err-Fault-clause-performs
returns-in-Err-Fault-clause-performs g c =
    let old = map g.S.Store.stored c.args.sites.now.stores in
    let new = map g.S.Store.stored c.ask.new.stores in
    let places = c.args.sites.now.places in
    let name = c.args.name.now in
    let folders = c.args.folders.now in
    let files = c.args.files.now in
    subst (λ d. IsFit (spreading old places d) → Performs (make_room name folders files) (spreading old places d) (spreading new places (Some (record { store = c.args.home; name = name }))) (Err Fault)) (sym c.requires.sure)
    (λ fit. made_failed old new places c.args.home name folders files fit c.requires.free (rw c.in-Err-Fault.field-0-is at c.in-Err-Fault.ensures)) c.requires.fit

use Rattle.std.proofs.Common.{List, [], ◌∷◌, ◌++◌, sym, subst}
use Rattle.index_pack.specs.declared.runs.Run.{Run}
use Rattle.index_pack.specs.Runs.{AreMaximal}
use Rattle.index_pack.proofs.Growing.{last_shape, behind_last, lengthened, lengthened_entries, followed}
use Rattle.index_pack.proofs.packing.with_entry.Goals as goal

pub longer-requires-clause-run : goal.longer-requires-clause-run
longer-requires-clause-run c = last_shape c.args.runs.now.items c.args.last c.requires.maximal

pub longer-requires-clause-later : goal.longer-requires-clause-later
longer-requires-clause-later c = (behind_last c.args.runs.now.items c.args.last c.args.entry.now c.requires.maximal c.requires.follows).later

pub longer-requires-clause-few : goal.longer-requires-clause-few
longer-requires-clause-few c = (behind_last c.args.runs.now.items c.args.last c.args.entry.now c.requires.maximal c.requires.follows).few

pub longer-requires-clause-place : goal.longer-requires-clause-place
longer-requires-clause-place c = (behind_last c.args.runs.now.items c.args.last c.args.entry.now c.requires.maximal c.requires.follows).place

pub longer-requires-clause-owner : goal.longer-requires-clause-owner
longer-requires-clause-owner c = (behind_last c.args.runs.now.items c.args.last c.args.entry.now c.requires.maximal c.requires.follows).owner

pub returns-then-could_go_on-clause-maximal : goal.returns-then-could_go_on-clause-maximal
returns-then-could_go_on-clause-maximal c =
    lengthened c.args.runs.now.items c.args.last c.longer.result c.args.entry.now c.requires.maximal c.longer.ensures.shape c.longer.ensures.entries

pub returns-then-could_go_on-clause-entries : goal.returns-then-could_go_on-clause-entries
returns-then-could_go_on-clause-entries c =
    lengthened_entries c.args.runs.now.items c.args.last c.longer.result c.args.entry.now c.longer.ensures.entries

pub returns-clause-maximal : goal.returns-clause-maximal
returns-clause-maximal c =
    let P : List Run → Type 0 = λ runs. AreMaximal (runs ++ c.single.result ∷ []) in
    subst P (sym c.in_ok-push.ensures.items)
    (followed c.args.runs.now.items c.args.last c.single.result c.args.entry.now c.requires.maximal c.single.ensures.shape c.single.ensures.entries
    (λ could. absurd (cc (c.could_go_on.ensures.1 could, c.if-could_go_on.false))))

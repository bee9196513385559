-- What the tree after has of each writer: its first writes, as many as the lines allow, and in its log the bytes of all.
use Rattle.std.proofs.Common.{◌≡◌, ◌≤◌, ℕ, true, false, List, [], ◌++◌, map, take, Option, Some, sym, ap, ◌∙◌, subst}
use Rattle.std.specs.Prelude.{slice_get}
use Rattle.std.proofs.lemmas.List.{append-nil}
use Rattle.store_api.specs.Acts.{Stored}
use Rattle.mount_model.specs.Mounting.{IsMounted}
use Rattle.mount_model.specs.State.{State}
use Rattle.mount_sound.specs.Sound.{IsSoundTree}
use Rattle.reader_laws.specs.Moments.{Dropping, Stood, landed}
use Rattle.mount_sound.specs.Ledger.{change_of}
use Rattle.reader_laws.proofs.Gathered.Facts.{among, landed_is_first}
use Rattle.script_lang.specs.Ranges.{FitsScript}
use Rattle.script_lang.specs.declared.line.Outcome.TheVariants as line
use Rattle.run_core.specs.Play.{IsRight}
use Rattle.headline.specs.Run.{Run, Says, Told, own, told}
use Rattle.headline.specs.Writers.{Account, Writer, account, account_of, cap_of, host_of, new_writer, nothing}
use Rattle.headline.specs.Views.{IsWriter, opened, stood}
use Rattle.headline.specs.Left.{IsLeft, content_of}
use Rattle.headline_laws.proofs.Contents.Accounts.{issued_told}
use Rattle.headline_laws.proofs.Contents.Counted.{homes}
use Rattle.headline_laws.proofs.Contents.FirstOpen.{FirstOpen, first_open}
use Rattle.headline_laws.proofs.Contents.OpenedWriter.{Behind, First, Home, ItsDropping, Last, Opening, Whole, account_is, go, its, sound_first, sound_last, started}
use Rattle.headline_laws.proofs.Landed.Bounded.{idle_keeps}
use Rattle.headline_laws.proofs.Landed.Folded.{least_landed, most_landed}
use Rattle.headline_laws.proofs.OrderlyLines.Answering.{among_own}
use Rattle.headline_laws.proofs.Story.Lines.{ChainOf, chain_of}
use Rattle.headline_laws.proofs.Trees.Reading.{last_tree}
use Rattle.headline_laws.proofs.Trees.Still.{TellsFirst, content_same, first_told, still}

module _ (run : Run) (times : Option (List ℕ)) (mount : Stored) (start end : State) (fits : FitsScript run.script) (mounted : IsMounted 0 times mount start) (tells : mount.tree ≡ Some run.before) (sound : IsSoundTree run.before)
    (right : IsRight run.script start run.lines end) (left : end.store.tree ≡ Some run.after) where
  -- the first writes of a dropping that stands in the end
  pub tells_first : (d : Dropping) → Stood (Last run times mount start end fits mounted tells sound right left) d
      → TellsFirst run.after d.room d.host d.writer (landed (Last run times mount start end fits mounted tells sound right left) d) ((Last run times mount start end fits mounted tells sound right left).issued d.room d.writer)
  tells_first d s =
      let last = sound_last run times mount start end fits mounted tells sound right left in
      first_told (Last run times mount start end fits mounted tells sound right left) last run.after d s.bytes (landed (Last run times mount start end fits mounted tells sound right left) d)
      (last_tree run (First run times mount start end fits mounted tells sound right left) end fits (sound_first run times mount start end fits mounted tells sound right left) right left) s.is_item s.there
      (last.sound.writes d.room d.writer) (landed_is_first (Last run times mount start end fits mounted tells sound right left) last d s.is_item)

  -- a writer that the line opened
  module _ (o : Told) (id : ℕ) (says : Says run o (line.Opened id)) where
    abbrev All : Account
    All = account run o.actor id (told run)

    abbrev d : Dropping
    d = record { room = Home run times mount start end fits mounted tells sound right left o; host = host_of (slice_get run.script.actors o.actor); writer = id }

    record Stays : Type 0 where
      pub stood : Stood (Last run times mount start end fits mounted tells sound right left) d
      pub low : All.least ≤ landed (Last run times mount start end fits mounted tells sound right left) d
      pub high : landed (Last run times mount start end fits mounted tells sound right left) d ≤ All.most

    by_opening : (c : ChainOf run (First run times mount start end fits mounted tells sound right left) end fits (sound_first run times mount start end fits mounted tells sound right left) right o.actor) (fo : FirstOpen id (own o.actor (told run))) → Stays
    by_opening c fo = from (go run times mount start end fits mounted tells sound right left o.actor c id fo.o.phase fo.post [] b fo.post [] (sym (append-nil fo.post)))
      where
        b : Opening run times mount start end fits mounted tells sound right left o.actor c id fo.o.phase fo.post []
        b = started run times mount start end fits mounted tells sound right left o.actor c id fo.pre fo.o fo.post fo.is fo.says

        i : ItsDropping run times mount start end fits mounted tells sound right left o id says b.d
        i = its run times mount start end fits mounted tells sound right left o id says o.actor c fo.o.phase fo.post [] b

        it : b.d ≡ d
        it = (λ k. record { room = i.room k; host = i.host k; writer = b.its_id k })

        acc : Account
        acc = account_of b.d.writer b.cap (nothing true) fo.post

        acc_is : All ≡ acc
        acc_is = ap (account_of id (cap_of (slice_get run.script.actors o.actor)) (nothing false)) fo.is ∙ account_is run times mount start end fits mounted tells sound right left o.actor c id fo.o.phase fo.post [] b fo.pre fo.o fo.post fo.says

        from : Behind run times mount start end fits mounted tells sound right left o.actor c id fo.o.phase fo.post [] b fo.post [] → Stays
        from T =
            let keeps = idle_keeps (First run times mount start end fits mounted tells sound right left) (sound_first run times mount start end fits mounted tells sound right left) c.parts.number right.history right.calls.blocks (Whole run times mount start end fits mounted tells sound right left) b.cap b.d T.from right.history [] T.kept acc (sym (append-nil right.history)) T.more T.keeps in
            record {
              stood = subst (Stood (Last run times mount start end fits mounted tells sound right left)) it i.stood;
              low = subst (λ (x : Dropping). All.least ≤ landed (Last run times mount start end fits mounted tells sound right left) x) it (subst (λ (a : Account). a.least ≤ landed (Last run times mount start end fits mounted tells sound right left) b.d) (sym acc_is) (least_landed c.parts.number b.d b.cap (Last run times mount start end fits mounted tells sound right left) T.kept acc keeps));
              high = subst (λ (x : Dropping). landed (Last run times mount start end fits mounted tells sound right left) x ≤ All.most) it (subst (λ (a : Account). landed (Last run times mount start end fits mounted tells sound right left) b.d ≤ a.most) (sym acc_is) (most_landed c.parts.number b.d b.cap (Last run times mount start end fits mounted tells sound right left) T.kept acc keeps));
            }

    opened_left : IsLeft run (Home run times mount start end fits mounted tells sound right left o) (new_writer run o.actor id (told run) (told run) (told run))
    opened_left =
        let s = by_opening (chain_of run (First run times mount start end fits mounted tells sound right left) end fits (sound_first run times mount start end fits mounted tells sound right left) right o says.is_line)
        (first_open id (own o.actor (told run)) o (among_own (told run) o (among (told run) o says.is_line)) says.says) in
        let t = tells_first d s.stood in
        let issued : map change_of ((Last run times mount start end fits mounted tells sound right left).issued d.room d.writer) ≡ All.writes = issued_told run (First run times mount start end fits mounted tells sound right left) end fits (sound_first run times mount start end fits mounted tells sound right left) right o id says in
        record {
          count = landed (Last run times mount start end fits mounted tells sound right left) d;
          at_least = s.low;
          at_most = s.high;
          landed = t.writes ∙ ap (take (landed (Last run times mount start end fits mounted tells sound right left) d)) issued;
          rest = t.rest;
          log = t.log ∙ ap (λ z. z ++ t.rest) (sym (content_same ((Last run times mount start end fits mounted tells sound right left).issued d.room d.writer)) ∙ ap content_of issued);
        }

  -- the law of this file
  pub writers_left : (n : ℕ) (w : Writer) → IsWriter run (homes run times mount start end fits mounted tells sound right left) n (told run) (told run) w → IsLeft run n w
  writers_left n w (stood is_item has is) = subst (IsLeft run n) (sym is) ((still run times mount start right.history end mounted tells sound right.leads left).writers n w.host w.id has)
  writers_left n w (opened o is_line says home is) =
      let those = opened_left o w.id (record { is_line = is_line; says = says }) in
      subst (IsLeft run n) (sym is) (subst (λ k. IsLeft run k (new_writer run o.actor w.id (told run) (told run) (told run))) home those)

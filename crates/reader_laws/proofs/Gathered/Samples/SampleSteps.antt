-- The short history is legal: each of its calls answers as the mount does.
use Rattle.std.proofs.Common.{◌≡◌, ℕ, List, [], ◌∷◌, ◌++◌, Option, None, refl, sym, subst, arith, inl}
use Rattle.std.specs.Prelude.{Ok, Err, IsTrue, MatchOption}
use Rattle.std.specs.Fmt.{digits}
use Rattle.std.proofs.lemmas.List.Elements.{All-from_recursion}
use Rattle.plfs_types.specs.Counts.{next_count}
use Rattle.plfs_types.specs.Names.{IsLogicalName, is_name_byte}
use Rattle.index_entry.specs.Spelling.{spelling}
use Rattle.store_api.specs.declared.tree.Tree.{Tree}
use Rattle.store_api.specs.declared.step.Answer.{Answer}
use Rattle.store_api.specs.declared.step.Answer.TheVariants.{Made, Old, Number, Names, Bytes}
use Rattle.store_api.specs.declared.store.Trouble.TheVariants as trouble
use Rattle.store_api.specs.Effect.{effect}
use Rattle.store_api.specs.Leaves.{in_part}
use Rattle.store_api.specs.Step.{Step}
use Rattle.mount_model.specs.declared.row.Row.{Row}
use Rattle.mount_model.specs.Making.{Told, CallOutcome, MakesAct}
use Rattle.mount_model.specs.State.{State}
use Rattle.mount_model.specs.Listed.{IsGreatest, HasStamp}
use Rattle.mount_model.specs.Step.{Answers, IsStep}
use Rattle.mount_model.specs.Stopping.{Stops}
use Rattle.mount_model.specs.History.{Event}
use Rattle.mount_sound.specs.Owed.{IsLawful}
use Rattle.reader_laws.proofs.Gathered.Samples.Sample.{first_writer, second_writer, holds, state, begun}
use Rattle.reader_laws.proofs.Gathered.Samples.Sample as sample

-- an act that was made
does : (tree after : Tree) (acts faults serial : ℕ) (rows : List Row) (step : Step) (outcome : Told → CallOutcome) (answer : Answer) → effect tree step ≡ record { tree = after; answer = answer }
    → MakesAct step outcome (state tree acts faults serial rows) (outcome (Ok answer)).reply (record (state after (next_count acts) faults serial rows) { table = (outcome (Ok answer)).table })
does tree after acts faults serial rows step outcome answer e = record {
  told = Ok answer;
  made = record { tree = (after, refl, e); acts = refl; faults = omega arith };
  answered = refl;
  after = refl;
}

-- what the event answered is what the mount may answer
abbrev IsAnswered : State → Event → Type 0
IsAnswered old event = Answers old event.caller event.ask.call event.reply event.after

-- the container's name is logical
named : IsLogicalName sample.container_name
named = record { not_empty = omega arith; short = omega arith; bytes = All-from_recursion (λ b. IsTrue (is_name_byte b)) sample.container_name (refl, tt); no_dot = λ e. omega (arith, e); no_dash = λ e. omega (arith, e) }

none_floor : IsGreatest HasStamp [] 0
none_floor = record { numbers = All-from_recursion _ [] tt; reached = inl (refl, refl) }

makes_room : IsAnswered begun sample.makes_room
unfolding digits
makes_room = record { named = named; makes = does sample.no_container sample.made 3 0 0 [] _ _ (Number 1) refl }

enters_first : IsAnswered sample.makes_room.after sample.enters_first
unfolding digits
enters_first = record { host_fits = omega arith; makes = does sample.made sample.first_entered 4 0 1 [] _ _ Made refl }

floors_first : IsAnswered sample.enters_first.after sample.floors_first
unfolding digits
floors_first = record { told = Ok (Names []); made = record { tree = (sample.first_entered, refl, refl); acts = refl; faults = omega arith }; outcome = inl (0, none_floor, refl, refl); after = refl }

houses_first : IsAnswered sample.floors_first.after sample.houses_first
unfolding digits
houses_first = does sample.first_entered sample.housed 6 0 1 _ _ _ Made refl

indexes_first : IsAnswered sample.houses_first.after sample.indexes_first
unfolding digits
indexes_first = does sample.housed sample.first_indexed 7 0 1 _ _ _ Made refl

opens_first : IsAnswered sample.indexes_first.after sample.opens_first
unfolding digits
opens_first = does sample.first_indexed sample.first_opened 8 0 1 _ _ _ Made refl

writes_first : IsAnswered sample.opens_first.after sample.writes_first
unfolding digits
writes_first = record { some = omega arith; time = 7; times = None; in_range = omega arith; ticks = refl; makes = does sample.first_opened sample.first_logged 9 0 1 _ _ _ Made refl }

flushes_first : IsAnswered sample.writes_first.after sample.flushes_first
unfolding digits spelling
flushes_first = does sample.first_logged (sample.first_landed []) 10 0 1 _ _ _ Made refl

enters_second : IsAnswered sample.flushes_first.after sample.enters_second
unfolding digits spelling
enters_second = record { host_fits = omega arith; makes = does (sample.first_landed []) sample.second_entered 11 0 2 _ _ _ Made refl }

floors_second : IsAnswered sample.enters_second.after sample.floors_second
unfolding digits spelling
floors_second = record { told = Ok (Names []); made = record { tree = (sample.second_entered, refl, refl); acts = refl; faults = omega arith }; outcome = inl (0, none_floor, refl, refl); after = refl }

houses_second : IsAnswered sample.floors_second.after sample.houses_second
unfolding digits spelling
houses_second = does sample.second_entered sample.second_entered 13 0 2 _ _ _ (Old 0) refl

indexes_second : IsAnswered sample.houses_second.after sample.indexes_second
unfolding digits spelling
indexes_second = does sample.second_entered sample.second_indexed 14 0 2 _ _ _ Made refl

opens_second : IsAnswered sample.indexes_second.after sample.opens_second
unfolding digits spelling
opens_second = does sample.second_indexed (sample.both_files [] []) 15 0 2 _ _ _ Made refl

writes_second : IsAnswered sample.opens_second.after sample.writes_second
unfolding digits spelling
writes_second = record { some = omega arith; time = 9; times = None; in_range = omega arith; ticks = refl; makes = does (sample.both_files [] []) (sample.both_files [] sample.second_log) 16 0 2 _ _ _ Made refl }

lists_flats : IsAnswered sample.writes_second.after sample.lists_flats
unfolding digits spelling
lists_flats = does (sample.both_files [] sample.second_log) (sample.both_files [] sample.second_log) 17 0 2 _ _ _ (Names []) refl

lists_top : IsAnswered sample.lists_flats.after sample.lists_top
unfolding digits spelling
lists_top = does (sample.both_files [] sample.second_log) (sample.both_files [] sample.second_log) 18 0 2 _ _ _ (Names sample.top_names) refl

flush_tears : IsAnswered sample.lists_top.after sample.flush_tears
unfolding digits spelling
flush_tears = record { told = Err trouble.Fault; made = record { tree = ((sample.both_files sample.torn sample.second_log), refl, in_part 20 refl refl); acts = refl; faults = omega arith; cause = inl (omega arith) }; answered = refl; after = refl }

lists_folder : IsAnswered sample.flush_tears.after sample.lists_folder
unfolding digits spelling
lists_folder = does (sample.both_files sample.torn sample.second_log) (sample.both_files sample.torn sample.second_log) 20 1 2 _ _ _ (Names sample.folder_names) refl

asks_first : IsAnswered sample.lists_folder.after sample.asks_first
unfolding digits spelling
asks_first = does (sample.both_files sample.torn sample.second_log) (sample.both_files sample.torn sample.second_log) 21 1 2 _ _ _ (Number 40) refl

asks_first_log : IsAnswered sample.asks_first.after sample.asks_first_log
unfolding digits spelling
asks_first_log = does (sample.both_files sample.torn sample.second_log) (sample.both_files sample.torn sample.second_log) 22 1 2 _ _ _ (Number 2) refl

reads_first : IsAnswered sample.asks_first_log.after sample.reads_first
unfolding digits spelling
reads_first = does (sample.both_files sample.torn sample.second_log) (sample.both_files sample.torn sample.second_log) 23 1 2 _ _ _ (Bytes sample.first_bytes) refl

asks_second : IsAnswered sample.reads_first.after sample.asks_second
unfolding digits spelling
asks_second = does (sample.both_files sample.torn sample.second_log) (sample.both_files sample.torn sample.second_log) 24 1 2 _ _ _ (Number 20) refl

asks_second_log : IsAnswered sample.asks_second.after sample.asks_second_log
unfolding digits spelling
asks_second_log = does (sample.both_files sample.torn sample.second_log) (sample.both_files sample.torn sample.second_log) 25 1 2 _ _ _ (Number 2) refl

lists_truncs : IsAnswered sample.asks_second_log.after sample.lists_truncs
unfolding digits spelling
lists_truncs = does (sample.both_files sample.torn sample.second_log) (sample.both_files sample.torn sample.second_log) 26 1 2 _ _ _ (Names []) refl

flushes_second : IsAnswered sample.lists_truncs.after sample.flushes_second
unfolding digits spelling
flushes_second = does (sample.both_files sample.torn sample.second_log) (sample.both_files sample.second_bytes sample.second_log) 27 1 2 _ _ _ Made refl

reads_log : IsAnswered sample.flushes_second.after sample.reads_log
unfolding digits spelling
reads_log = does (sample.both_files sample.second_bytes sample.second_log) (sample.both_files sample.second_bytes sample.second_log) 28 1 2 _ _ _ (Bytes sample.first_log) refl

-- a call that is answered so is a step, where its caller owes nothing but that it isn't broken off
abbrev IsStepOf : State → Event → Type 0
IsStepOf old event = IsStep old event.caller event.ask event.reply event.after

step : (old : State) (event : Event) → event.ask.stop ≡ None → IsAnswered old event → IsStepOf old event
step old event whole answers = record { does = subst (λ (stop : Option ℕ). MatchOption stop (Answers old event.caller event.ask.call event.reply event.after) (λ k. Stops event.caller k event.ask.call old event.reply event.after)) (sym whole) answers }

-- The history is legal.
pub legal : IsLawful begun (sample.gathering ++ sample.lists_truncs ∷ sample.later)
legal = (
  record { numbers = tt; owes = λ clean. tt },
  step begun sample.makes_room refl makes_room,
  (
    record { numbers = (omega arith, omega arith); owes = λ clean. tt },
    step sample.makes_room.after sample.enters_first refl enters_first,
    (
      record { numbers = tt; owes = λ clean. tt },
      step sample.enters_first.after sample.floors_first refl floors_first,
      (
        record { numbers = tt; owes = λ clean. tt },
        step sample.floors_first.after sample.houses_first refl houses_first,
        (
          record { numbers = tt; owes = λ clean. tt },
          step sample.houses_first.after sample.indexes_first refl indexes_first,
          (
            record { numbers = tt; owes = λ clean. tt },
            step sample.indexes_first.after sample.opens_first refl opens_first,
            (
              record { numbers = tt; owes = λ clean. tt },
              step sample.opens_first.after sample.writes_first refl writes_first,
              (
                record { numbers = tt; owes = λ clean. tt },
                step sample.writes_first.after sample.flushes_first refl flushes_first,
                (
                  record { numbers = (omega arith, omega arith); owes = λ clean. tt },
                  step sample.flushes_first.after sample.enters_second refl enters_second,
                  (
                    record { numbers = tt; owes = λ clean. tt },
                    step sample.enters_second.after sample.floors_second refl floors_second,
                    (
                      record { numbers = tt; owes = λ clean. tt },
                      step sample.floors_second.after sample.houses_second refl houses_second,
                      (
                        record { numbers = tt; owes = λ clean. tt },
                        step sample.houses_second.after sample.indexes_second refl indexes_second,
                        (
                          record { numbers = tt; owes = λ clean. tt },
                          step sample.indexes_second.after sample.opens_second refl opens_second,
                          (
                            record { numbers = tt; owes = λ clean. tt },
                            step sample.opens_second.after sample.writes_second refl writes_second,
                            (
                              record { numbers = tt; owes = λ clean. tt },
                              step sample.writes_second.after sample.lists_flats refl lists_flats,
                              (
                                record { numbers = tt; owes = λ clean. tt },
                                step sample.lists_flats.after sample.lists_top refl lists_top,
                                (
                                  record { numbers = tt; owes = λ clean. tt },
                                  step sample.lists_top.after sample.flush_tears refl flush_tears,
                                  (
                                    record { numbers = tt; owes = λ clean. tt },
                                    step sample.flush_tears.after sample.lists_folder refl lists_folder,
                                    (
                                      record { numbers = tt; owes = λ clean. tt },
                                      step sample.lists_folder.after sample.asks_first refl asks_first,
                                      (
                                        record { numbers = tt; owes = λ clean. tt },
                                        step sample.asks_first.after sample.asks_first_log refl asks_first_log,
                                        (
                                          record { numbers = tt; owes = λ clean. tt },
                                          step sample.asks_first_log.after sample.reads_first refl reads_first,
                                          (
                                            record { numbers = tt; owes = λ clean. tt },
                                            step sample.reads_first.after sample.asks_second refl asks_second,
                                            (
                                              record { numbers = tt; owes = λ clean. tt },
                                              step sample.asks_second.after sample.asks_second_log refl asks_second_log,
                                              (
                                                record { numbers = tt; owes = λ clean. tt },
                                                step sample.asks_second_log.after sample.lists_truncs refl lists_truncs,
                                                (
                                                  record { numbers = tt; owes = λ clean. tt },
                                                  step sample.lists_truncs.after sample.flushes_second refl flushes_second,
                                                  (record { numbers = tt; owes = λ clean. tt }, step sample.flushes_second.after sample.reads_log refl reads_log, tt),
                                                ),
                                              ),
                                            ),
                                          ),
                                        ),
                                      ),
                                    ),
                                  ),
                                ),
                              ),
                            ),
                          ),
                        ),
                      ),
                    ),
                  ),
                ),
              ),
            ),
          ),
        ),
      ),
    ),
  ),
)

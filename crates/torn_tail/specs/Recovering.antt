-- The calls of a recovery: Find, List of who has the container open; where that is absent, MendHold; else the calls for
-- each of them, by ascending id.
use Rattle.std.specs.Prelude.{ℕ, false, if◌then◌else◌, List, [], ◌∷◌, ◌++◌, Result, Ok, Err}
use Rattle.mount_model.specs.declared.stuck.Stuck.{Stuck}
use Rattle.mount_model.specs.Program.{done, ask, followed_by}
use Rattle.mount_model.specs.declared.call.Call.TheVariants.{Find, Look, MendHold}
use Rattle.mount_model.specs.declared.call.Look.TheVariants.{List as ListFolder}
use Rattle.mount_model.specs.declared.reply.Reply.{Reply}
use Rattle.mount_model.specs.declared.reply.Reply.TheVariants.{Mended}
use Rattle.mount_model.specs.Paths.{Name}
use Rattle.container_layout.specs.Paths.{openhosts}
use Rattle.mount_model.specs.declared.names.OpenEntry.{OpenEntry}
use Rattle.mount_model.specs.Names.{open_in}
use Rattle.mount_model.specs.Order.{entries_by_writer}
use Rattle.mount_model.specs.FlowListed.{known, told_by}
use Rattle.mount_model.specs.FlowReplies.{Tries, given, on_ok, room_in, is_no_folder, failure}
use Rattle.torn_tail.specs.declared.fates.Fate.{Fate}
use Rattle.torn_tail.specs.declared.fates.Fate.TheVariants.{Lives, Buried}
use Rattle.torn_tail.specs.declared.recovering.Recovered.{Recovered}
use Rattle.torn_tail.specs.Writers.{writer_program}

abbrev pub nothing : Recovered
nothing = record { buried = []; alive = []; hold = false }

-- with what became of one writer more
abbrev pub noted : OpenEntry → Fate → Recovered → Recovered
noted e Lives sofar = record { buried = sofar.buried; alive = sofar.alive ++ e.writer ∷ []; hold = sofar.hold }
noted e (Buried count) sofar = record { buried = sofar.buried ++ record { writer = e.writer; count = count } ∷ []; alive = sofar.alive; hold = sofar.hold }

-- the writers that are left, behind what was done so far
abbrev pub recovers : ℕ → List OpenEntry → Recovered → Tries Recovered
recovers room [] sofar = done (Ok sofar)
recovers room (e ∷ entries) sofar = followed_by (writer_program room e) (on_ok (λ fate. recovers room entries (noted e fate sofar)))

-- whether the folder of who has the container open was made again
abbrev pub hold_mended : Reply → Result Recovered Stuck
hold_mended (Mended made) = Ok (record { buried = []; alive = []; hold = made })
hold_mended reply = Err (failure reply)

abbrev pub mends_hold : ℕ → Tries Recovered
mends_hold room = ask (MendHold room) (λ reply. done (hold_mended reply))

-- the writers that the names tell, behind those so far
abbrev pub entries_named : List Name → List OpenEntry → Result (List OpenEntry) Stuck
entries_named [] sofar = Ok sofar
entries_named (name ∷ names) sofar = known openhosts name (open_in name) (λ (e : OpenEntry). entries_named names (sofar ++ e ∷ []))

abbrev pub recovers_listed : ℕ → Result (List OpenEntry) Stuck → Tries Recovered
recovers_listed room listed = on_ok (λ entries. recovers room (entries_by_writer entries) nothing) listed

abbrev pub lists_open : ℕ → Tries Recovered
lists_open room = ask
    (Look room (ListFolder openhosts))
    (λ reply. if is_no_folder reply then mends_hold room else recovers_listed room (told_by openhosts (λ names. entries_named names []) reply))

abbrev pub recover_program : Name → Tries Recovered
recover_program name = ask (Find name) (λ reply. given (room_in reply) (failure reply) lists_open)

use Rattle.std.proofs.Common.{rules, ◌≡◌, true, false, refl}
use Rattle.store_api.specs.Names.{marks_name}
use Rattle.check_program.specs.Course.{AreThere, marks_untold}
use Rattle.check_program.proofs.Telling.{any_halt, rooms_broken, rooms_sound, rooms_stop}
use Rattle.check_program.proofs.rooms.check_names.Goals as goal

pub returns-in-Err-clause-course : goal.returns-in-Err-clause-course
returns-in-Err-clause-course g c =
    marks_untold (any_halt (AreThere c.args.names.now) (g.S.Store.stored c.args.store.now) (g.S.Store.stored c.room_number.new.store) marks_name c.in-Err.halt (g.O.Sink.taking c.args.out.now) (g.O.Sink.taking c.say_halt.new.out) c.say_halt.result
    c.in-Err.ensures.err (rw c.marks_name-in-Err.ensures at c.say_halt.ensures))

pub returns-in-Err-say_rooms-clause-course : goal.returns-in-Err-say_rooms-clause-course
returns-in-Err-say_rooms-clause-course g c =
    rooms_stop c.args.names.now c.in-Ok.marks (g.S.Store.stored c.args.store.now) (g.S.Store.stored c.room_number.new.store) (g.S.Store.stored c.say_rooms.new.store) (rw c.marks_name.ensures at c.in-Ok.ensures.ok) c.room_number.ensures.looked
    (g.O.Sink.taking c.args.out.now) (g.O.Sink.taking c.say_rooms.new.out) c.in-Err-say_rooms.status c.in-Err-say_rooms.ensures.err

pub returns-then-broken-clause-course : goal.returns-then-broken-clause-course
returns-then-broken-clause-course g c =
    let some : c.in-Ok-say_rooms.broken ≡ true = search rules in
    rooms_broken c.args.names.now c.in-Ok.marks (g.S.Store.stored c.args.store.now) (g.S.Store.stored c.room_number.new.store) (g.S.Store.stored c.say_rooms.new.store) (rw c.marks_name.ensures at c.in-Ok.ensures.ok) c.room_number.ensures.looked
    (g.O.Sink.taking c.args.out.now) (g.O.Sink.taking c.say_rooms.new.out) c.in-Ok-say_rooms.broken 7 some c.in-Ok-say_rooms.ensures.ok refl

pub returns-clause-course : goal.returns-clause-course
returns-clause-course g c =
    let none : c.in-Ok-say_rooms.broken ≡ false = search rules in
    rooms_sound c.args.names.now c.in-Ok.marks (g.S.Store.stored c.args.store.now) (g.S.Store.stored c.room_number.new.store) (g.S.Store.stored c.say_rooms.new.store) (rw c.marks_name.ensures at c.in-Ok.ensures.ok) c.room_number.ensures.looked
    (g.O.Sink.taking c.args.out.now) (g.O.Sink.taking c.say_text.new.out) c.in-Ok-say_rooms.broken (g.O.Sink.taking c.say_rooms.new.out) c.say_text.result none c.in-Ok-say_rooms.ensures.ok c.say_text.ensures.reported

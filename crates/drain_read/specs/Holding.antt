-- The calls that tell what the container of a target has: those that read it, List of its metadata, and of each writer with an
-- index dropping the length of its log.
use Rattle.std.specs.Prelude.{ℕ, false, List, [], ◌∷◌, ◌++◌, Result, Ok}
use Rattle.mount_model.specs.declared.names.Metadata.{Metadata}
use Rattle.mount_model.specs.declared.stuck.Stuck.{Stuck}
use Rattle.mount_model.specs.FlowListed.{known, told_by}
use Rattle.mount_model.specs.Names.{meta_in}
use Rattle.mount_model.specs.FlowReplies.{Tries, given, on_ok, trouble}
use Rattle.mount_model.specs.Program.{done, ask, followed_by}
use Rattle.mount_model.specs.declared.call.Call.TheVariants.{Look}
use Rattle.mount_model.specs.declared.call.Look.TheVariants.{List as ListFolder, Length}
use Rattle.mount_model.specs.Paths.{Name, log_path, metadata}
use Rattle.index_reader.specs.Replies.{log_length_in}
use Rattle.drain_read.specs.declared.held.Held.{Held}
use Rattle.drain_read.specs.declared.held.Mirror.{Mirror}
use Rattle.drain_read.specs.declared.read.Contained.{Contained}
use Rattle.drain_read.specs.declared.read.Known.{Known}
use Rattle.drain_read.specs.declared.read.WriterRead.{WriterRead}
use Rattle.drain_read.specs.Reading.{contained_program}

-- the writers of metadata droppings with these names, behind those so far
abbrev pub settled_named : List Name → List ℕ → Result (List ℕ) Stuck
settled_named [] sofar = Ok sofar
settled_named (name ∷ names) sofar = known metadata name (meta_in name) (λ (m : Metadata). settled_named names (sofar ++ m.writer ∷ []))

-- a writer's landed entries there, and how many bytes its log has
abbrev pub mirror_of : WriterRead → ℕ → Mirror
mirror_of w log = record { cover = w.cover; log = log }

abbrev pub holds : List ℕ → List Mirror → Tries Held
holds settled mirrors = done (Ok (record { mirrors = mirrors; settled = settled }))

-- the logs of the writers that are left are measured; a missing one has no bytes
abbrev pub measures : ℕ → List ℕ → List WriterRead → List Mirror → Tries Held
measures room settled [] sofar = holds settled sofar
measures room settled (w ∷ ws) sofar = ask
    (Look room (Length (log_path w.host w.writer)))
    (λ reply. given (log_length_in reply) (trouble (log_path w.host w.writer) reply) (λ log. measures room settled ws (sofar ++ mirror_of w log ∷ [])))

abbrev pub measures_all : ℕ → List WriterRead → List ℕ → Tries Held
measures_all room writers settled = measures room settled writers []

abbrev pub lists_settled : ℕ → Contained → Tries Held
lists_settled room contained = ask
    (Look room (ListFolder metadata))
    (λ reply. on_ok (measures_all room contained.writers) (told_by metadata (λ names. settled_named names []) reply))

-- of a container of which nothing is known, and whose entries aren't kept
abbrev pub unknown : ℕ → Known
unknown room = record { room = room; keeps = false; covers = [] }

abbrev pub held_program : ℕ → Tries Held
held_program room = followed_by (contained_program (unknown room)) (on_ok (lists_settled room))

-- How far actors come in what they do, where memory is wanting.
use Rattle.std.specs.Prelude.{ℕ, zero, suc, List, [], ◌∷◌, Err}
use Rattle.mount_model.specs.declared.stuck.Stuck.TheVariants.{Fault}
use Rattle.mount_model.specs.Program.{done, ask}
use Rattle.mount_model.specs.Process.{ends, pauses, tells, asks, shares}
use Rattle.gather_flow.specs.Workers.{Reading}
use Rattle.run_core.specs.Course.{Course}

-- How far an actor comes in what it does.
pub data Reach : Type 0 where
  -- it does nothing of it
  nothing : Reach
  -- so far behind its next call, line or pause, or behind what its workers do next
  further : Reach → Reach
  -- amid what its workers do next, of whom each makes so many calls
  amid : List ℕ → Reach

-- the first so many calls of a worker; what it ends with then is of no account
abbrev pub first_calls : ℕ → Reading → Reading
first_calls zero program = done (Err Fault)
first_calls (suc count) (done result) = done result
first_calls (suc count) (ask question k) = ask question (λ reply. first_calls count (k reply))

-- the same of each of them; those without a number make none
abbrev pub first_of_each : List ℕ → List Reading → List Reading
first_of_each counts [] = []
first_of_each [] (program ∷ programs) = first_calls zero program ∷ first_of_each [] programs
first_of_each (count ∷ counts) (program ∷ programs) = first_calls count program ∷ first_of_each counts programs

-- what the actor does so far, and then it ends
abbrev pub up_to : Reach → Course → Course
up_to nothing course = ends
up_to (further reach) ends = ends
up_to (further reach) (pauses course) = pauses (up_to reach course)
up_to (further reach) (tells line course) = tells line (up_to reach course)
up_to (further reach) (asks question k) = asks question (λ reply. up_to reach (k reply))
up_to (further reach) (shares programs k alone) = shares programs (λ results. up_to reach (k results)) (up_to reach alone)
up_to (amid counts) (shares programs k alone) = shares (first_of_each counts programs) (λ results. ends) ends
up_to (amid counts) other = ends

-- the same of several actors; those of whom none is told do nothing
abbrev pub each_up_to : List Reach → List Course → List Course
each_up_to reaches [] = []
each_up_to [] (course ∷ courses) = ends ∷ each_up_to [] courses
each_up_to (reach ∷ reaches) (course ∷ courses) = up_to reach course ∷ each_up_to reaches courses

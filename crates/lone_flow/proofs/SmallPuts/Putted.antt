-- Files put one behind the other.
use Rattle.std.proofs.Common.{◌≡◌, ℕ, ◌+◌, ◌<◌, List, [], ◌∷◌, ◌++◌, length, take, drop, get_or, refl, sym, ap, subst, ◌∙◌}
use Rattle.std.proofs.lemmas.List.{drop_more, take_more, take-append-drop}
use Rattle.mount_model.specs.State.{State}
use Rattle.writer_flow.specs.declared.handle.WriterHandle.{WriterHandle}
use Rattle.pack_input.specs.declared.files.NamedFile.{NamedFile}
use Rattle.lone_flow.specs.declared.putting.Put.{Put}
use Rattle.lone_flow.specs.declared.putting.Put.TheVariants.{Made}
use Rattle.lone_flow.specs.Putting.{IsNoMore, Puts, PutsEach, PutsUpTo, small_file}

-- with one file more
pub puts_more : (region : ℕ) (files : List NamedFile) (handle : WriterHandle) (at : ℕ) (start : State) (writer : WriterHandle) (place : ℕ) (between : State) (f : NamedFile) (last : WriterHandle) (until : ℕ) (end : State)
    → PutsEach region files handle at start writer place between → Puts writer region place (small_file f) between (Made last until) end → PutsEach region (files ++ f ∷ []) handle at start last until end
puts_more region [] handle at start writer place between f last until end (same_writer, same_place, same_state) puts = (
  last,
  until,
  end,
  subst (λ (s : State). Puts handle region at (small_file f) s (Made last until) end) same_state
      (subst (λ (n : ℕ). Puts handle region n (small_file f) between (Made last until) end) same_place
      (subst (λ (w : WriterHandle). Puts w region place (small_file f) between (Made last until) end) same_writer puts)),
  (refl, refl, refl),
)
puts_more region (g ∷ files) handle at start writer place between f last until end (first, next, state, one, others) puts =
    (first, next, state, one, puts_more region files first next state writer place between f last until end others puts)

-- up to a file that was not put
pub puts_stop : (region : ℕ) (files before : List NamedFile) (f : NamedFile) (behind : List NamedFile) (handle : WriterHandle) (at : ℕ) (start : State) (writer : WriterHandle) (place : ℕ) (between : State) (told : Put) (end : State)
    → files ≡ before ++ f ∷ behind → PutsEach region before handle at start writer place between → Puts writer region place (small_file f) between told end → IsNoMore told → PutsUpTo region files handle at start told end
puts_stop region files before f behind handle at start writer place between told end split puts last no_more =
    record { before = before; f = f; behind = behind; split = split; writer = writer; place = place; between = between; puts = puts; last = last; no_more = no_more }

pub puts_value : (handle : WriterHandle) (region at : ℕ) (f : NamedFile) (start : State) (told other : Put) (end : State) → told ≡ other → Puts handle region at (small_file f) start told end → Puts handle region at (small_file f) start other end
puts_value handle region at f start told other end same puts = subst (λ (p : Put). Puts handle region at (small_file f) start p end) same puts

-- ---- the file that a turn of the loop has

pub file_splits : (files : List NamedFile) (i : ℕ) (f : NamedFile) → i < length files → f ≡ get_or files i f → files ≡ take i files ++ f ∷ drop (i + 1) files
file_splits files i f less is =
    sym (take-append-drop i files) ∙ ap (λ (fs : List NamedFile). take i files ++ fs) (drop_more files i f less ∙ ap (λ (g : NamedFile). g ∷ drop (i + 1) files) (sym is))

pub file_taken : (files : List NamedFile) (i : ℕ) (f : NamedFile) → i < length files → f ≡ get_or files i f → take (i + 1) files ≡ take i files ++ f ∷ []
file_taken files i f less is = take_more files i f less ∙ ap (λ (g : NamedFile). take i files ++ g ∷ []) (sym is)

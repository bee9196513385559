-- Puts that follow each other, and the run that made them.
use Rattle.std.proofs.Common.{◌≡◌, ℕ, inl, inr, Bool, true, false, max, List, [], ◌∷◌, ◌++◌, Some, Result, refl, sym, ap, ◌∙◌, subst, append_assoc, arith}
use Rattle.turn_object.proofs.Facts.{state_append}
use Rattle.edge_io.specs.Sink.{Taking}
use Rattle.edge_io.specs.Source.{Given}
use Rattle.store_api.specs.Acts.{Stored}
use Rattle.mount_model.specs.State.{State}
use Rattle.mount_model.specs.History.{Event, state_after}
use Rattle.mount_model.specs.Mounting.{IsMounted}
use Rattle.mount_model.proofs.Facts.{step_place}
use Rattle.mount_sound.specs.Owed.{IsLawful}
use Rattle.run_core.specs.Leading.{GoesOn}
use Rattle.lone_flow.specs.Calling.{HasCalled}
use Rattle.mount_model.specs.Paths.{Name}
use Rattle.mount_model.specs.declared.stuck.Stuck.{Stuck}
use Rattle.copy_core.specs.declared.copying.Copied.{Copied}
use Rattle.copy_core.specs.Copying.{BeginsToCopy, Copies}
use Rattle.copy_core.proofs.Facts.{begun_copying_called, copied_called}
use Rattle.put_program.specs.Others.{LeavesOthersStill}
use Rattle.program_ends.specs.Leaving.{ran}
use Rattle.program_ends.specs.Ends.{Ends}
use Rattle.program_ends.specs.Reported.{IsReported}
use Rattle.program_ends.specs.Output.{IsPrinted}
use Rattle.program_ends.specs.SoundTrees.{LeavesSoundTree, TellsSoundTree}
use Rattle.program_ends.proofs.Facts.{FailingLeavesSound, all_leave_sound, was_run}
use Rattle.mount_sound.specs.Sound.{IsFine}
use Rattle.std.proofs.lemmas.List.{append-nil, map-append}
use Rattle.put_program.specs.declared.importing.Named.{Named}
use Rattle.put_program.specs.Importing.{HavePut, ImportCourse, NamedPut, PutsEach, Sourced, imported, is_minor, named, sources_of, starved, unmounted, unnamed}
use Rattle.put_program.specs.Putting.{PutsOn, broke_off, ended_so}

-- ---- calls

none_called : (s : State) → GoesOn s s
none_called s = record { events = []; leads = record { lawful = tt; ends = refl } }

lawful_both : (start : State) (first rest : List Event) → IsLawful start first → IsLawful (state_after start first) rest → IsLawful start (first ++ rest)
lawful_both start [] rest one other = other
lawful_both start (e ∷ first) rest one other = (one.0, one.1, lawful_both e.after first rest one.2 other)

called_both : (a b c : State) → GoesOn a b → GoesOn b c → GoesOn a c
called_both a b c one other = record {
  events = one.events ++ other.events;
  leads = record {
    lawful = lawful_both a one.events other.events one.leads.lawful (subst (λ s. IsLawful s other.events) (sym one.leads.ends) other.leads.lawful);
    ends = state_append a one.events other.events ∙ ap (λ s. state_after s other.events) one.leads.ends ∙ other.leads.ends;
  };
}

called_leads : (start end : State) → HasCalled start end → GoesOn start end
called_leads start end c = record { events = c.events; leads = record { lawful = c.made.lawful; ends = c.made.ends } }

put_leads : (before : Stored) (name : List ℕ) (host : ℕ) (over : Bool) (start : State) (given : Given) (taking : Taking) (end : State) (given_after : Given) (taking_after : Taking) (status : ℕ) → PutsOn before name host over start given taking end given_after taking_after status → GoesOn start end
put_leads before name host over start given taking end given_after taking_after status (ended_so result copies truly seen said) = called_leads start end (copied_called name host over start given result end given_after copies)
put_leads before name host over start given taking end given_after taking_after status (broke_off begun same is) = called_leads start end (begun_copying_called name host over start given end given_after begun)

pub named_leads : (before : Stored) (name : List ℕ) (host : ℕ) (over : Bool) (given : Given) (start : State) (taking : Taking) (end : State) (taking_after : Taking) (status : ℕ) → NamedPut before name host over given start taking end taking_after status → GoesOn start end
named_leads before name host over given start taking end taking_after status (named mid given_after said puts still) = put_leads before name host over start given mid end given_after taking_after status puts
named_leads before name host over given start taking end taking_after status (unnamed cut same is) = subst (GoesOn start) (sym same) (none_called start)
named_leads before name host over given start taking end taking_after status (starved untold same is) = subst (GoesOn start) (sym same) (none_called start)

pub have_leads : (before : Stored) (host : ℕ) (over : Bool) (start : State) (taking : Taking) (put : List Sourced) (end : State) (taking_after : Taking) (last greatest : ℕ) → HavePut before host over start taking put end taking_after last greatest → GoesOn start end
have_leads before host over start taking [] end taking_after last greatest h = subst (GoesOn start) (sym h.0) (none_called start)
have_leads before host over start taking (s ∷ put) end taking_after last greatest (mid, taken, one_before, so_far, earlier, minor, one, is) =
    called_both start mid end (have_leads before host over start taking put mid taken one_before so_far earlier) (named_leads before s.name host over s.given mid taken end taking_after last one)

-- no call changes what was mounted
still_opened : (start end : State) → GoesOn start end → end.opened ≡ start.opened
still_opened start end goes = sym (ap (λ (s : State). s.opened) goes.leads.ends) ∙ opened_after start goes.events goes.leads.lawful
  where
    opened_after : (s : State) (events : List Event) → IsLawful s events → (state_after s events).opened ≡ s.opened
    opened_after s [] lawful = refl
    opened_after s (e ∷ events) lawful = opened_after e.after events lawful.2 ∙ (step_place s e.after e.caller e.ask e.reply lawful.1).opened

-- ---- one more

-- what the law of a copying says of other containers
pub record OtherLaws : Type 0 where
  pub copied : (name : Name) (host : ℕ) (over : Bool) (start end : State) (old : Given) (told : Result Copied Stuck) (new : Given) → Copies name host over start old told end new → LeavesOthersStill name start end
  pub broken_off : (name : Name) (host : ℕ) (over : Bool) (start end : State) (old new : Given) → BeginsToCopy name host over start old end new → LeavesOthersStill name start end

pub others_still : OtherLaws → (before : Stored) (name : List ℕ) (host : ℕ) (over : Bool) (start : State) (given : Given) (taking : Taking) (end : State) (given_after : Given) (taking_after : Taking) (status : ℕ) → PutsOn before name host over start given taking end given_after taking_after status → LeavesOthersStill name start end
others_still laws before name host over start given taking end given_after taking_after status (ended_so result copies truly seen said) = laws.copied name host over start end given result given_after copies
others_still laws before name host over start given taking end given_after taking_after status (broke_off begun same is) = laws.broken_off name host over start end given given_after begun

-- what was told of as a name was printed
pub name_printed : (text : List ℕ) (status : ℕ) (taking taking_after : Taking) → IsReported text 0 taking taking_after status → status ≡ 0 → IsPrinted text taking taking_after
name_printed text status taking taking_after (inl (is, printed)) none = printed
name_printed text status taking taking_after (inr (inl (is, cut))) none = absurd (omega (arith, is, none))
name_printed text status taking taking_after (inr (inr (is, same))) none = absurd (omega (arith, is, none))

-- So many were put, none of which ended with another status than a minor one.
pub record SoFar (host : ℕ) (over : Bool) (all : List Sourced) (start : State) (taking : Taking) (rest : List Sourced) (now : State) (taken : Taking) (greatest : ℕ) : Type 0 where
  pub put : List Sourced
  pub are : all ≡ rest ++ put
  pub last : ℕ
  pub have : HavePut start.opened host over start taking put now taken last greatest
  pub minor : is_minor last ≡ true
  pub fine : IsFine now
  pub opened : now.opened ≡ start.opened

pub none_so_far : (host : ℕ) (over : Bool) (all : List Sourced) (start : State) (taking : Taking) → IsFine start → SoFar host over all start taking all start taking 0
none_so_far host over all start taking fine = record { put = []; are = sym (append-nil all); last = 0; have = (refl, refl, refl, refl); minor = refl; fine = fine; opened = refl }

-- the sources that are left where the last one is taken
last_taken : {I : Type 0} (given : I → Given) (files left : List (Named I)) (file : Named I) → files ≡ left ++ file ∷ [] → sources_of given files ≡ sources_of given left ++ record { name = file.name; given = given file.input } ∷ []
last_taken {I} given files left file is = ap (sources_of given) is ∙ map-append (λ (f : Named I). record { name = f.name; given = given f.input }) left (file ∷ [])

-- behind a file that was put the next one is
one_more : {I : Type 0} (given : I → Given) (host : ℕ) (over : Bool) (all : List Sourced) (start : State) (taking : Taking) (files left : List (Named I)) (file : Named I) (now : State) (taken : Taking) (greatest : ℕ) (end : State) (taking_after : Taking) (one status : ℕ) → (s : SoFar host over all start taking (sources_of given files) now taken greatest) → files ≡ left ++ file ∷ []
    → NamedPut now.opened file.name host over (given file.input) now taken end taking_after one → status ≡ max greatest one
    → (all ≡ sources_of given left ++ record { name = file.name; given = given file.input } ∷ s.put) × HavePut start.opened host over start taking (record { name = file.name; given = given file.input } ∷ s.put) end taking_after one status
one_more given host over all start taking files left file now taken greatest end taking_after one status s is puts greater = (
  s.are ∙ ap (λ l. l ++ s.put) (last_taken given files left file is) ∙ append_assoc (sources_of given left) (record { name = file.name; given = given file.input } ∷ []) s.put,
  (now, taken, s.last, greatest, s.have, s.minor, subst (λ (x : Stored). NamedPut x file.name host over (given file.input) now taken end taking_after one) s.opened puts, greater),
)

pub goes_further : {I : Type 0} (given : I → Given) (host : ℕ) (over : Bool) (all : List Sourced) (start : State) (taking : Taking) (files left : List (Named I)) (file : Named I) (now : State) (taken : Taking) (greatest : ℕ) (end : State) (taking_after : Taking) (one status : ℕ) → SoFar host over all start taking (sources_of given files) now taken greatest → files ≡ left ++ file ∷ []
    → NamedPut now.opened file.name host over (given file.input) now taken end taking_after one → status ≡ max greatest one → is_minor one ≡ true → IsFine end → SoFar host over all start taking (sources_of given left) end taking_after status
goes_further given host over all start taking files left file now taken greatest end taking_after one status s is puts greater minor fine =
    let m = one_more given host over all start taking files left file now taken greatest end taking_after one status s is puts greater in
    record { put = record { name = file.name; given = given file.input } ∷ s.put; are = m.0; last = one; have = m.1; minor = minor; fine = fine; opened = still_opened now end (named_leads now.opened file.name host over (given file.input) now taken end taking_after one puts) ∙ s.opened }

pub ends_there : {I : Type 0} (given : I → Given) (host : ℕ) (over : Bool) (all : List Sourced) (start : State) (taking : Taking) (files left : List (Named I)) (file : Named I) (now : State) (taken : Taking) (greatest : ℕ) (end : State) (taking_after : Taking) (one status : ℕ) → SoFar host over all start taking (sources_of given files) now taken greatest → files ≡ left ++ file ∷ []
    → NamedPut now.opened file.name host over (given file.input) now taken end taking_after one → status ≡ max greatest one → is_minor one ≡ false → PutsEach start.opened host over all start taking end taking_after status
ends_there given host over all start taking files left file now taken greatest end taking_after one status s is puts greater major =
    let m = one_more given host over all start taking files left file now taken greatest end taking_after one status s is puts greater in
    record { left = sources_of given left; put = record { name = file.name; given = given file.input } ∷ s.put; are = m.0; last = one; have = m.1; ends = inr major }

pub all_put : {I : Type 0} (given : I → Given) (host : ℕ) (over : Bool) (all : List Sourced) (start : State) (taking : Taking) (files : List (Named I)) (now : State) (taken : Taking) (greatest : ℕ) → SoFar host over all start taking (sources_of given files) now taken greatest → files ≡ [] → PutsEach start.opened host over all start taking now taken greatest
all_put given host over all start taking files now taken greatest s none =
    record { left = sources_of given files; put = s.put; are = s.are; last = s.last; have = s.have; ends = inl (ap (sources_of given) none) }

-- ---- the run

pub imported_so : (host : ℕ) (over : Bool) (sources : List Sourced) (e : Ends) (status : ℕ) (start end : State) (after : Stored) → e.stored_after ≡ Some after → IsMounted 0 e.times e.stored start → PutsEach start.opened host over sources start e.taking end e.taking_after status → end.store ≡ after
    → ImportCourse host over sources e status
imported_so host over sources e status start end after is made puts left = imported after is (record {
  start = start;
  end = end;
  mounted = made;
  puts = subst (λ (x : Stored). PutsEach x host over sources start e.taking end e.taking_after status) made.opened_is puts;
  left = left;
})

pub imported_leaves : (host : ℕ) (over : Bool) (sources : List Sourced) (e : Ends) (status : ℕ) → FailingLeavesSound → ImportCourse host over sources e status → TellsSoundTree e.stored → LeavesSoundTree e.stored_after
imported_leaves host over sources e status failing (unmounted why after is failed undamaged said) (tree, told, sound) = (after, is, failing e.stored after why tree failed told sound)
imported_leaves host over sources e status failing (imported after is i) told =
    (after, is, all_leave_sound GoesOn (λ start end goes. goes) e.times e.stored after failing (ran (was_run GoesOn e.times e.stored after i.start i.end i.mounted (have_leads e.stored host over i.start e.taking i.puts.put i.end e.taking_after i.puts.last status i.puts.have) (sym i.left))) told)

-- The script of what an engine was asked for is in its ranges.
use Rattle.std.proofs.Common.{◌≡◌, ◌≤◌, ℕ, zero, suc, List, [], ◌∷◌, ◌++◌, length, refl, arith, length-append}
use Rattle.std.specs.Prelude.{All}
use Rattle.std.proofs.lemmas.List.{length-map, length-replicate}
use Rattle.std.proofs.lemmas.List.Elements.{All-append, All-cons, All-map, All-nil}
use Rattle.edge_io.specs.Sink.{Taking}
use Rattle.edge_io.specs.Source.{Given}
use Rattle.mount_model.specs.State.{State}
use Rattle.script_lang.specs.declared.line.Line.{Line}
use Rattle.script_lang.specs.declared.script.ActorDecl.{ActorDecl}
use Rattle.script_lang.specs.declared.script.Data.{Data}
use Rattle.script_lang.specs.declared.script.Data.TheVariants as data_of
use Rattle.script_lang.specs.declared.script.Numbered.{Numbered}
use Rattle.script_lang.specs.declared.script.Statement.{Statement}
use Rattle.script_lang.specs.declared.script.Statement.TheVariants as statement
use Rattle.script_lang.specs.Ranges.{FitsActor, FitsData, FitsNumbered, FitsPhase, FitsScript, FitsStatement, FitsTurned}
use Rattle.frame_format.specs.Heads.{head_bytes}
use Rattle.frame_format.specs.Requests.{IsAsked, IsBlock, IsRequest}
use Rattle.frame_format.specs.Telling.{answer_bytes}
use Rattle.serve_core.specs.declared.client.Client.{Client}
use Rattle.serve_core.specs.Serving.{alone, each_alone, script_of}
use Rattle.serve_program.specs.declared.exchange.Stop.{Stop}
use Rattle.serve_program.specs.Closing.{closing, closings}
use Rattle.serve_program.specs.Exchange.{AreAnswered, ExchangeEnds, ended, none_came, spent, starved, unread, unwritten, was_made, was_none}
use Rattle.serve_program.specs.Words.{actor_on, actors_on}
use Rattle.serve_program.proofs.Actors.{actors_fit}

-- ---- a statement

block_fits : (content : Data) → IsBlock content → FitsData content
block_fits (data_of.Hex bytes) may = may
block_fits (data_of.Text bytes) may = absurd may
block_fits (data_of.Fill len byte) may = absurd may
block_fits (data_of.Ramp len first) may = absurd may

asked_fits : (asked : Statement) → IsAsked asked → FitsStatement asked
asked_fits (statement.Open name) may = tt
asked_fits (statement.Write at content) may = block_fits content may
asked_fits statement.Sync may = tt
asked_fits statement.Close may = tt
asked_fits (statement.Ropen name workers) may = (may.1, may.2)
asked_fits (statement.Read at len) may = may
asked_fits (statement.Verify at content) may = absurd may
asked_fits statement.Map may = tt
asked_fits statement.Refresh may = tt
asked_fits statement.Rclose may = tt
asked_fits (statement.Stat name) may = tt
asked_fits (statement.Trunc name size) may = tt
asked_fits (statement.Rename name to) may = tt
asked_fits (statement.Flatten name) may = tt
asked_fits (statement.Recover name) may = tt
asked_fits statement.Ls may = tt
asked_fits (statement.Stop call bytes) may = absurd may

-- ---- all of them

-- each is of one of so many actors, and in its ranges
abbrev AllFit : ℕ → List Numbered → Type 0
AllFit count asked = All (FitsNumbered count) asked

one_fits : (count : ℕ) (one : Numbered) → FitsNumbered count one → AllFit count (one ∷ [])
one_fits count one fits = All-cons (FitsNumbered count) one [] fits (All-nil (FitsNumbered count))

one_more_fits : (count : ℕ) (asked : List Numbered) (one : Numbered) → AllFit count asked → FitsNumbered count one → AllFit count (asked ++ one ∷ [])
one_more_fits count asked one all fits = All-append (FitsNumbered count) asked (one ∷ []) all (one_fits count one fits)

request_fits : (count : ℕ) (one : Numbered) → 256 ≤ count → IsRequest one → FitsNumbered count one
request_fits count one many is = (omega (arith, is.by_one, many), asked_fits one.statement is.may_be)

requests_fit : (count : ℕ) → 256 ≤ count → (bytes : List ℕ) (asked : List Numbered) (lines : List Line) (said : List ℕ) → AreAnswered bytes asked lines said → AllFit count asked
requests_fit count many bytes asked lines said none_came = All-nil (FitsNumbered count)
requests_fit count many bytes asked lines said (was_made before requests told answers head payload one line first asks) =
    one_more_fits count requests one (requests_fit count many before requests told answers first) (request_fits count one many asks.is)
requests_fit count many bytes asked lines said (was_none before requests told answers head payload first none) = requests_fit count many before requests told answers first

closings_fit : (count closed : ℕ) → closed ≤ count → AllFit count (closings closed)
closings_fit count zero few = All-nil (FitsNumbered count)
closings_fit count (suc closed) few = one_more_fits count (closings closed) (closing closed) (closings_fit count closed (omega (arith, few))) (omega (arith, few), tt)

length_closings : (closed : ℕ) → length (closings closed) ≡ closed
length_closings zero = refl
length_closings (suc closed) = let so_far = length_closings closed in let e : length (closings closed ++ closing closed ∷ []) ≡ suc closed = omega (arith, so_far, length-append (closings closed) (closing closed ∷ [])) in e

-- ---- the script

alone_fits : (count : ℕ) (one : Numbered) → FitsNumbered count one → FitsPhase count (alone one)
alone_fits count one fits = record { turned = All-nil (FitsTurned count); numbered = one_fits count one fits }

phases_fit : (count : ℕ) (asked : List Numbered) → AllFit count asked → All (FitsPhase count) (each_alone asked)
phases_fit count asked all = All-map (FitsPhase count) alone asked (λ k d below. alone_fits count _ (all k d below))

script_fits : (declared : List ActorDecl) (asked : List Numbered) → length declared ≡ 256 → All FitsActor declared → AllFit (length declared) asked → FitsScript (script_of declared (asked ++ closings (length declared)))
script_fits declared asked many actors all =
    let closed : ℕ = length declared in
    let whole : AllFit closed (asked ++ closings closed) = All-append (FitsNumbered closed) asked (closings closed) all (closings_fit closed closed (omega arith)) in
    record {
      few = omega (arith, many);
      declared = actors;
      begun = omega (arith, many, length-map (asked ++ closings closed) alone, length-append asked (closings closed), length_closings closed);
      phased = phases_fit closed (asked ++ closings closed) whole;
    }

-- ---- of an exchange

ended_fit : (declared : List ActorDecl) (start end : State) (given given_after : Given) (taking taking_after : Taking) (stop : Stop) (asked : List Numbered) (lines : List Line) (clients : List Client) (count : ℕ)
    → 256 ≤ count → ExchangeEnds declared start given taking stop asked lines clients end given_after taking_after → AllFit count asked
ended_fit declared start end given given_after taking taking_after stop asked lines clients count many (ended given_now is x arrives) = requests_fit count many x.bytes asked lines x.said x.answered
ended_fit declared start end given given_after taking taking_after stop asked lines clients count many (unread given_now arrival is not_read x arrives) = requests_fit count many x.bytes asked lines x.said x.answered
ended_fit declared start end given given_after taking taking_after stop asked lines clients count many (unwritten is x) =
    requests_fit count many (x.first ++ (head_bytes x.head ++ x.payload)) asked lines (x.said ++ answer_bytes x.answer) x.answered
ended_fit declared start end given given_after taking taking_after stop asked lines clients count many (starved more old now given_now taking_now is x starves) = requests_fit count many x.bytes asked lines x.said x.answered
ended_fit declared start end given given_after taking taking_after stop asked lines clients count many (spent is x all) = requests_fit count many x.bytes asked lines x.said x.answered

pub served_script_fits : (host : ℕ) (start end : State) (given given_after : Given) (taking taking_after : Taking) (stop : Stop) (asked : List Numbered) (lines : List Line) (clients : List Client)
    → ExchangeEnds (actors_on host) start given taking stop asked lines clients end given_after taking_after → FitsScript (script_of (actors_on host) (asked ++ closings (length (actors_on host))))
served_script_fits host start end given given_after taking taking_after stop asked lines clients x =
    let many : length (actors_on host) ≡ 256 = length-replicate 256 (actor_on host) in
    script_fits (actors_on host) asked many (actors_fit host) (ended_fit (actors_on host) start end given given_after taking taking_after stop asked lines clients (length (actors_on host)) (omega (arith, many)) x)

-- What a line comes to, by what its call comes to.
-- It serves clauses of functions of `script_hub`.
use Rattle.std.proofs.Common.{◌≡◌, ℕ, List, [], ◌++◌, Option, Some, None, Result, Ok, Err, option_map, refl, ap, sym, ◌∙◌, subst, append-nil}
use Rattle.std.specs.Prelude.{⊤}
use Rattle.bsc_player.specs.declared.language.LineFault.{LineFault}
use Rattle.bsc_player.specs.declared.language.LineFault.TheVariants.{Refused, NoMemory}
use Rattle.bsc_script.specs.declared.due.Due.{Due}
use Rattle.bsc_script.specs.declared.line.Line.{Line}
use Rattle.bsc_script.specs.declared.script_hub.ScriptHub.{ScriptHub}
use Rattle.bsc_script.specs.States.{State, Peer}
use Rattle.bsc_script.specs.Touching.{dues}
use Rattle.bsc_script.specs.Carrying.{ScriptOutcome}
use Rattle.bsc_script.specs.Emptying.{emptied}
use Rattle.bsc_script.specs.Running.{line_outcome, run_line}
use Rattle.bsc_script.specs.Holding.{CarriesOut, RunsTo, ActsTo}

-- Where nothing is written any text may stand before.
pub rebased : (n : ScriptHub) (b cs : List ℕ) (o : ScriptOutcome) → CarriesOut n [] [] cs o → CarriesOut n b b cs o
rebased n b cs o h = record { stands = h.stands; settled = h.settled; text = sym (append-nil b) ∙ ap (λ (l : List ℕ). b ++ l) h.text }

-- A name that isn't open is refused.
pub unknown_acts : (r : Result Due LineFault) (e f : LineFault) (n : ScriptHub) (b a : List ℕ) (g : Peer → ScriptOutcome) (o : Option Peer) → r ≡ Err e → e ≡ f → f ≡ Refused → o ≡ None
    → ActsTo r n b a (option_map g o)
unknown_acts r e f n b a g o is same refused none =
    subst (λ (q : Result Due LineFault). ActsTo q n b a (option_map g o)) (sym (is ∙ ap Err (same ∙ refused))) (ap (option_map g) none)

-- What is shown of the line that was matched is shown of the line.
pub by_line : (r : Result Due LineFault) (n : ScriptHub) (b a : List ℕ) (s : State) (line as_found : Line) → line ≡ as_found → ActsTo r n b a (line_outcome s as_found)
    → ActsTo r n b a (line_outcome s line)
by_line r n b a s line as_found is h = subst (λ l. ActsTo r n b a (line_outcome s l)) (sym is) h

-- What is shown of the peer that was found is shown of the name.
pub by_peer : (r : Result Due LineFault) (n : ScriptHub) (b a : List ℕ) (f : Peer → ScriptOutcome) (o : Option Peer) (k : Peer) → o ≡ Some k → ActsTo r n b a (Some (f k))
    → ActsTo r n b a (option_map f o)
by_peer r n b a f o k is h = subst (λ p. ActsTo r n b a (option_map f p)) (sym is) h

-- ---- the whole line

-- A line that is carried out has an outcome.
pub acted_some : (due : Due) (n : ScriptHub) (b a : List ℕ) (o : Option ScriptOutcome) → ActsTo (Ok due) n b a o → (u : ScriptOutcome) × (o ≡ Some u) × CarriesOut n b a (dues due) u
acted_some due n b a None h = absurd h
acted_some due n b a (Some u) h = (u, refl, h)

-- And then the outboxes are emptied.
pub runs_emptied : (due : Due) (t n : ScriptHub) (s : State) (line : Line) (b a z : List ℕ) → ActsTo (Ok due) t b a (line_outcome s line)
    → ((o : ScriptOutcome) → CarriesOut t b a (dues due) o → CarriesOut n b z [] (emptied o)) → RunsTo (Ok tt) n b z (run_line s line)
unfolding run_line
runs_emptied due t n s line b a z h empty =
    let u = acted_some due t b a (line_outcome s line) h in
    subst (λ o. RunsTo (Ok tt) n b z (option_map emptied o)) (sym u.1) (empty u.0 u.2)

-- A fault of the line is a fault of the run.
fault_runs : (e : LineFault) (t n : ScriptHub) (s : State) (line : Line) (b a c d : List ℕ) → ActsTo (Err e) t b a (line_outcome s line) → RunsTo (Err e) n c d (run_line s line)
unfolding run_line
fault_runs Refused t n s line b a c d h = ap (option_map emptied) h
fault_runs NoMemory t n s line b a c d h = tt

pub runs_fault : (r : Result ⊤ LineFault) (e f : LineFault) (t n : ScriptHub) (s : State) (line : Line) (b a c d : List ℕ) → r ≡ Err e → e ≡ f → ActsTo (Err f) t b a (line_outcome s line)
    → RunsTo r n c d (run_line s line)
runs_fault r e f t n s line b a c d is same h =
    subst (λ (q : Result ⊤ LineFault). RunsTo q n c d (run_line s line)) (sym (is ∙ ap Err same)) (fault_runs f t n s line b a c d h)

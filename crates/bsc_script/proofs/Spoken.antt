-- What a line does where a hub may not be made yet.
-- It serves the clauses of `begin` and `carry_out`.
use Rattle.std.proofs.Common.{◌≡◌, ℕ, List, [], ◌∷◌, ◌++◌, Option, Some, None, Result, Ok, Err, option_map, ap, sym, ◌∙◌, subst, append-nil}
use Rattle.std.specs.Prelude.{⊤}
use Rattle.bsc_history.specs.declared.limits.About.{About}
use Rattle.bsc_player.specs.declared.language.LineFault.{LineFault}
use Rattle.bsc_player.specs.declared.language.LineFault.TheVariants.{Refused, NoMemory}
use Rattle.bsc_player.specs.Languages.{LineStandsAs}
use Rattle.bsc_player.specs.Playing.{LineOutcome}
use Rattle.bsc_script.specs.declared.line.Line.{Line}
use Rattle.bsc_script.specs.declared.line.Line.TheVariants.{Hub}
use Rattle.bsc_script.specs.declared.script_hub.ScriptHub.{ScriptHub}
use Rattle.bsc_script.specs.States.{State, new_hub}
use Rattle.bsc_script.specs.Carrying.{ScriptOutcome}
use Rattle.bsc_script.specs.Running.{run_line}
use Rattle.bsc_script.specs.Scripts.{before_hub, in_text, line_after, said_after}
use Rattle.bsc_script.specs.Holding.{ScriptHolds, HoldsSome, HoldsIf, SomeIf, DoesLine, CarriesOut, RunsTo}

-- What is shown of the line that was matched is shown of the line.
pub begins_by : (o : Option ScriptHub) (b : List ℕ) (line as_found : Line) → line ≡ as_found → LineStandsAs (HoldsIf o) b b (before_hub as_found) → LineStandsAs (HoldsIf o) b b (before_hub line)
begins_by o b line as_found is h = subst (λ l. LineStandsAs (HoldsIf o) b b (before_hub l)) (sym is) h

-- What stands where there is no hub: nothing.
pub begun_does : (o h : Option ScriptHub) (s : Option State) (line : Line) (b : List ℕ) → o ≡ None → HoldsIf o s → LineStandsAs (HoldsIf h) b b (before_hub line)
    → DoesLine h (Ok tt) b b (line_after s line)
begun_does None h None line b e holds does = does
begun_does None h (Some s) line b e holds does = absurd holds
begun_does (Some t) h s line b e holds does = cc

-- Where a hub stands for something it is a hub's state.
pub some_made : (o : Option ScriptHub) (t : ScriptHub) → o ≡ Some t → SomeIf o → HoldsSome t
some_made o t is some = by some.0 (subst (λ p. HoldsIf p some.0) is some.1)
  where
    by : (s : Option State) → HoldsIf (Some t) s → HoldsSome t
    by None h = absurd h
    by (Some s) h = (s, h)

runs_does : (r : Result ⊤ LineFault) (n : ScriptHub) (b a : List ℕ) (o : Option ScriptOutcome) → RunsTo r n b a o → DoesLine (Some n) r b a (in_text o)
runs_does (Ok u) n b a None h = h
runs_does (Ok u) n b a (Some o) h = ((h.stands, h.settled), h.text)
runs_does (Err Refused) n b a o h = ap in_text h
runs_does (Err NoMemory) n b a o h = tt

pub made_does : (r : Result ⊤ LineFault) (o : Option ScriptHub) (t n : ScriptHub) (s : Option State) (line : Line) (b a : List ℕ) → o ≡ Some t → HoldsIf o s
    → ((u : State) → ScriptHolds t u → RunsTo r n b a (run_line u line)) → DoesLine (Some n) r b a (line_after s line)
made_does r o t n s line b a is holds run = by s (subst (λ p. HoldsIf p s) is holds)
  where
    by : (s : Option State) → HoldsIf (Some t) s → DoesLine (Some n) r b a (line_after s line)
    by None h = absurd h
    by (Some u) h = runs_does r n b a (run_line u line) (run u h)

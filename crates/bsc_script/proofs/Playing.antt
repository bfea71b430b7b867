-- How the worked scripts are written: lines, and what is written for the last of them.
use Rattle.std.specs.Prelude.{ℕ, List, [], ◌∷◌, ◌++◌, flat_map, codes, Option, Some, None}
use Rattle.std.specs.Option.{option_map, option_and_then}
use Rattle.bsc_script.specs.declared.line.Line.{Line}
use Rattle.bsc_script.specs.declared.line.Line.TheVariants.{Hub}
use Rattle.bsc_script.specs.Lines.{line_of}
use Rattle.bsc_script.specs.Written.{text_of}
use Rattle.bsc_script.specs.States.{new_hub}
use Rattle.bsc_script.specs.Carrying.{ScriptOutcome, quietly, and_then}
use Rattle.bsc_script.specs.Running.{run_line}

-- lines of text, each with its end
abbrev pub lines : List (List ℕ) → List ℕ
lines ls = flat_map (λ l. l ++ codes "\n") ls

-- a new hub, by its line
abbrev pub hub_of_line : Option Line → Option ScriptOutcome
hub_of_line (Some (Hub about)) = Some (quietly (new_hub about))
hub_of_line line = None

-- an outcome, where a line has one, behind another
abbrev pub behind : ScriptOutcome → Option ScriptOutcome → Option ScriptOutcome
behind o None = None
behind o (Some n) = Some (record { state = n.state; said = o.said ++ n.said })

-- one line more
abbrev pub next : ScriptOutcome → List ℕ → Option ScriptOutcome
next o l = option_and_then (λ line. behind o (run_line o.state line)) (line_of l)

-- lines, one after the other
abbrev pub after_lines : Option ScriptOutcome → List (List ℕ) → Option ScriptOutcome
after_lines o [] = o
after_lines o (l ∷ ls) = after_lines (option_and_then (λ u. next u l) o) ls

-- the same with nothing written
abbrev pub silent : Option ScriptOutcome → Option ScriptOutcome
silent o = option_map (λ (u : ScriptOutcome). quietly u.state) o

-- What is written for some lines, after a hub line and others.
abbrev pub written_after : List ℕ → List (List ℕ) → List (List ℕ) → Option (List ℕ)
written_after hub before ls =
    option_map (λ (u : ScriptOutcome). text_of u.said) (after_lines (silent (after_lines (hub_of_line (line_of hub)) before)) ls)

-- A joins, as connection 1 where it is the first.
abbrev pub a_joins : List (List ℕ)
a_joins = codes "open A" ∷
    codes "in A 06000001 02000000000A AAAAAAAAAAAAAAAAAAAAAAAAAAAAAAAA 0640 05D9" ∷
    []

-- B joins.
abbrev pub b_joins : List (List ℕ)
b_joins = codes "open B" ∷
    codes "in B 06000001 02000000000B BBBBBBBBBBBBBBBBBBBBBBBBBBBBBBBB 0640 05D9" ∷
    []

-- C joins.
abbrev pub c_joins : List (List ℕ)
c_joins = codes "open C" ∷
    codes "in C 06000001 02000000000C CCCCCCCCCCCCCCCCCCCCCCCCCCCCCCCC 0640 05D9" ∷
    []

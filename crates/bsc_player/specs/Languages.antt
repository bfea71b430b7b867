-- What a line does to a value of a language and to the text.
use Rattle.std.specs.Prelude.{◌≡◌, ℕ, List, ◌++◌, Option, Some, None, Result, Ok, Err, ⊤}
use Rattle.bsc_player.specs.declared.language.LineFault.{LineFault}
use Rattle.bsc_player.specs.declared.language.LineFault.TheVariants.{Refused, NoMemory}
use Rattle.bsc_player.specs.Playing.{LineOutcome}

-- The line is accepted: the value stands for what it leads to, and its text was put at the end.
abbrev pub LineStandsAs : {S : Type 0} → (S → Type 0) → List ℕ → List ℕ → Option (LineOutcome S) → Type 0
LineStandsAs stands before after None = ⊥
LineStandsAs stands before after (Some out) = stands out.state × (after ≡ before ++ out.text)

-- A line that is carried out does what it has to; one that is refused has to be.
abbrev pub StepsTo :
    {S : Type 0} → (S → Type 0) → Result (Unit {0}) LineFault → List ℕ → List ℕ → Option (LineOutcome S) → Type 0
StepsTo stands (Ok u) before after out = LineStandsAs stands before after out
StepsTo stands (Err Refused) before after out = out ≡ None
StepsTo stands (Err NoMemory) before after out = ⊤

-- Lines that are put are the lines of a table.
-- It serves clauses of functions of `hub_told`, `node_told` and `policy_told`.
use Rattle.std.proofs.Common.{◌≡◌, ◌∙◌, ◌++◌, ℕ, List, [], false, ap, append-nil, sym, Result, Ok, Err}
use Rattle.std.specs.Prelude.{IfOk, ⊤}
use Rattle.bsc_octets.specs.declared.no_memory.NoMemory.{NoMemory}
use Rattle.bsc_settings_told.specs.Lines.{set_line}
use Rattle.bsc_settings_told.specs.Quoting.{quoted}

-- four lines, and nothing behind them
pub ended : (a b c d : List ℕ) → a ++ (b ++ (c ++ d)) ≡ a ++ (b ++ (c ++ (d ++ [])))
ended a b c d = ap (λ (l : List ℕ). a ++ (b ++ (c ++ l))) (sym (append-nil d))

-- what was put is the same text in another order of its parts
pub same_text : (o : Result ⊤ NoMemory) (z start a b : List ℕ) → a ≡ b → IfOk o (λ done. z ≡ start ++ a) → IfOk o (λ done. z ≡ start ++ b)
same_text (Ok x) z start a b same h = h ∙ ap (λ (l : List ℕ). start ++ l) same
same_text (Err e) z start a b same h = tt

-- the line of a text is that of the text that it is
pub text_of : (t u word a b : List ℕ) → a ≡ b → u ≡ t ++ set_line word (quoted a) false → u ≡ t ++ set_line word (quoted b) false
text_of t u word a b same h = h ∙ ap (λ (l : List ℕ). t ++ set_line word (quoted l) false) same

pub text_if : (o : Result ⊤ NoMemory) (t u word a b : List ℕ) → a ≡ b → IfOk o (λ done. u ≡ t ++ set_line word (quoted a) false)
    → IfOk o (λ done. u ≡ t ++ set_line word (quoted b) false)
text_if (Ok x) t u word a b same h = text_of t u word a b same h
text_if (Err e) t u word a b same h = tt

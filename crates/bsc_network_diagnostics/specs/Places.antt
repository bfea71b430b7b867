-- What is told of a line of a network's script that is refused where it stands.
use Rattle.std.specs.Prelude.{◌≡◌, ℕ, List, [], ◌∷◌, codes, Option, Some, None}
use Rattle.bsc_diagnostics.specs.declared.diagnostic.Diagnostic.TheVariants as diagnostic
use Rattle.bsc_network.specs.declared.world_step.WorldStep.TheVariants.{Arrive, Lose, Take}
use Rattle.bsc_network_script.specs.declared.line.Line.{Line}
use Rattle.bsc_network_script.specs.declared.line.Line.TheVariants.{Step}
use Rattle.bsc_network_diagnostics.specs.declared.misplaced.Misplaced.{Misplaced}
use Rattle.bsc_network_diagnostics.specs.declared.misplaced.Misplaced.TheVariants as misplaced

-- the first of some words, and the second; no octets where there is none
abbrev pub first_of : List (List ℕ) → List ℕ
first_of [] = []
first_of (word ∷ words) = word

abbrev pub second_of : List (List ℕ) → List ℕ
second_of [] = []
second_of (word ∷ words) = first_of words

-- What is wrong with the number of a link that is there, by the step that is made with it.
abbrev pub link_rule : Line → Option (List ℕ)
link_rule (Step (Arrive link way)) = Some (codes "is the number of a link where nothing stands on this way")
link_rule (Step (Take link)) =
    Some (codes "is the number of a link whose other end takes from no outbox: a node, or a hub's side that isn't connected")
link_rule (Step (Lose link)) = Some (codes "is the number of a link that can be lost")
link_rule line = None

-- It is told that no hub is there.
abbrev pub IsNoHub : Misplaced → Type 0
IsNoHub (misplaced.Rule (diagnostic.Line rule)) = rule.now ≡ codes "the first line that does something has to be a hub line"
IsNoHub told = ⊥

-- It is told that this word names a link, and what is wrong with it where that is there.
abbrev pub IsOfLink : Misplaced → List ℕ → List ℕ → Type 0
IsOfLink (misplaced.Link named wrong) word rule = (named.now ≡ word) × (wrong.now ≡ rule)
IsOfLink told word rule = ⊥

-- Lemmas that crates above cite too.
-- It serves clauses of most source files here.
use Rattle.std.proofs.Common.{List, [], ◌∷◌, None}
use Rattle.bsc_session.specs.Notes.Notes.{HasLine, Note}

-- no lost line needs no note
pub no_line : (ns : List Note) → HasLine ns None
no_line [] = tt
no_line (n ∷ ns) = tt

-- What a link in memory gives.
use Rattle.std.specs.Prelude.{List, [], ◌∷◌}
use Rattle.bsc_edge.specs.declared.incoming.Incoming.{Incoming}
use Rattle.bsc_edge.specs.declared.incoming.Incoming.TheVariants.{Closed}

-- The first of what it has to give, and Closed after the end.
abbrev pub first_given : List Incoming → Incoming
first_given [] = Closed
first_given (i ∷ rest) = i

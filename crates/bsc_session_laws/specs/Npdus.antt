-- The Encapsulated-NPDUs that a session puts.
use Rattle.std.specs.Prelude.{◌≡◌, ℕ, List}
use Rattle.bsc_octets.specs.Functions.{npdus}
use Rattle.bsc_edge.specs.declared.said.Said.{Said}
use Rattle.bsc_node_links.specs.Talks.{put_in}
use Rattle.bsc_session.specs.Course.{SessionCourse, end_of}
use Rattle.bsc_session.specs.Guarding.{let_through}
use Rattle.bsc_session.specs.Standings.{Terms}

-- The Encapsulated-NPDUs that a session puts are those of its frames that its policy lets through, in order, each once. What its
-- machine puts of itself is none.
abbrev pub NpdusAreTaken : (v : Terms) → List Said → List (List ℕ) → SessionCourse v → Type 0
NpdusAreTaken v T frames c = npdus (put_in T) ≡ npdus (let_through v.policy (end_of c).address frames)

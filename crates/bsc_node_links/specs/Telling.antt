-- What links that had told nothing when they came tell at last.
use Rattle.std.specs.Prelude.{◌≡◌, ℕ, Bool, true, List, [], ◌∷◌, Option, Some, None, slice_get, ⊤}
use Rattle.bsc_edge.specs.declared.said.Said.{Said}
use Rattle.bsc_edge.specs.Told.{ToldIs}
use Rattle.bsc_node.specs.Logs.{Log}
use Rattle.bsc_node_links.specs.Coming.{arrived_by, by_lines, link_by}
use Rattle.bsc_node_links.specs.Lives.{HasBegun, LinkLife, given_over, put_over}
use Rattle.bsc_node_links.specs.Talks.{AreFirstOf, given_in, put_in}
use Rattle.bsc_node_links.specs.Using.{LinksAreUsed, Outside}

-- What a link tells at last is what the log says: it gave just these messages, and the first of those were put on it. A link that
-- tells nothing says nothing.
abbrev pub TellsOf : Option (List Said) → List (List ℕ) → List (List ℕ) → Type 0
TellsOf None given put = ⊤
TellsOf (Some T) given put = (given_in T ≡ given) × AreFirstOf (put_in T) put

module _ {L : Type 0} (talk : L → Option (List Said)) where
  -- Each of these had told nothing.
  abbrev pub AllFresh : List L → Type 0
  AllFresh [] = ⊤
  AllFresh (link ∷ links) = ToldIs (talk link) [] × AllFresh links

  -- The links that the dialer gave, and those that arrived, had told nothing when they came.
  abbrev pub AreFresh : Log → List (Option L) → Type 0
  AreFresh M links = AllFresh (by_lines link_by M links) × AllFresh (by_lines arrived_by M links)

  -- What is left is told, and had told nothing at first.
  pub record LeavesFresh (before after : Option (List L)) : Type 0 where
    pub old : List L
    pub new : List L
    pub was : before ≡ Some old
    pub is : after ≡ Some new
    pub fresh : AllFresh old

  -- So it is where dialer and acceptor left only such.
  abbrev pub LinksAreFresh : Type 0
  LinksAreFresh = (before after : Outside L) (M : Log) (u : LinksAreUsed talk before after M) → LeavesFresh before.dialled.left after.dialled.left
      → LeavesFresh before.door.left after.door.left → AreFresh M u.links

  -- Which links came is told, and each had told nothing when it came.
  pub record CameFresh (came : Option (List L)) : Type 0 where
    pub links : List L
    pub is : came ≡ Some links
    pub fresh : AllFresh links

  -- So it is, too, where those that came from dialer and acceptor did.
  abbrev pub LinksCameFresh : Type 0
  LinksCameFresh = (before after : Outside L) (M : Log) (u : LinksAreUsed talk before after M) → CameFresh after.dialled.came → CameFresh after.door.came
      → AreFresh M u.links

  -- Links that are as those that come have told nothing.
  abbrev pub AreUntold : (L → Bool) → Type 0
  AreUntold fresh = (link : L) → fresh link ≡ true → ToldIs (talk link) []

  -- No link came, and nothing was given; or one came, and this is what it tells at last.
  abbrev pub Tells : Option L → List (List ℕ) → List (List ℕ) → Type 0
  Tells None given put = given ≡ []
  Tells (Some came) given put = (let_go : L) × TellsOf (talk let_go) given put

  -- Each of these links that came, or didn't, by a line of this log tells so what the log says of it.
  abbrev pub EachTells : Log → List (Option L) → Type 0
  EachTells M links = (x : LinkLife) → HasBegun M x → (link : Option L) × (slice_get links x.began ≡ Some link) × Tells link (given_over M x) (put_over M x)

  -- So all that the links of a node tell is what the log says of them.
  abbrev pub LinksTell : Type 0
  LinksTell = (before after : Outside L) (M : Log) (u : LinksAreUsed talk before after M) → AreFresh M u.links → EachTells M u.links

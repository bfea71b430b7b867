-- Which links came by which lines of a node's log.
use Rattle.std.specs.Prelude.{◌≡◌, true, List, [], ◌∷◌, ◌++◌, Option, Some, None, is_some, option_to_list, ⊤}
use Rattle.bsc_edge.specs.declared.dialled.Dialled.{Dialled}
use Rattle.bsc_edge.specs.Told.{Grows}
use Rattle.bsc_node.specs.declared.action.Action.TheVariants.{Dial, Take, Refuse}
use Rattle.bsc_node.specs.Logs.{Line, did, Log}
use Rattle.bsc_node_run.specs.Performing.{kind_of}
use Rattle.bsc_node_run.specs.Worlds.{Admitting, Dialling}

module _ {L : Type 0} where
  -- the call of a dialer that a line is, by the link that it gave, where it gave one
  abbrev pub dialled_by : Line → Option L → List Dialled
  dialled_by (did (Dial name uri)) link = record { uri = uri; kind = kind_of name; came = is_some link } ∷ []
  dialled_by m link = []

  -- the link that a dialer gave at a line
  abbrev pub link_by : Line → Option L → List L
  link_by (did (Dial name uri)) link = option_to_list link
  link_by m link = []

  -- the link that had arrived, at a line by which it is taken or refused
  abbrev pub arrived_by : Line → Option L → List L
  arrived_by (did (Take name)) link = option_to_list link
  arrived_by (did (Refuse c)) link = option_to_list link
  arrived_by m link = []

  -- At a line by which a link that arrived is taken, one came.
  abbrev pub IsTakenBy : Line → Option L → Type 0
  IsTakenBy (did (Take name)) link = is_some link ≡ true
  IsTakenBy m link = ⊤

  -- Lines, each with the link that came by it, where one did.
  abbrev pub by_lines : {B : Type 0} → (Line → Option L → List B) → Log → List (Option L) → List B
  by_lines f (m ∷ M) (link ∷ links) = f m link ++ by_lines f M links
  by_lines f M links = []

  abbrev pub EachTaken : Log → List (Option L) → Type 0
  EachTaken (m ∷ M) (link ∷ links) = IsTakenBy m link × EachTaken M links
  EachTaken M links = ⊤

  -- What is left lost these links, which stood first, and nothing else.
  abbrev pub LeftBy : Option (List L) → Option (List L) → List L → Type 0
  LeftBy old None links = ⊤
  LeftBy None (Some new) links = ⊥
  LeftBy (Some old) (Some new) links = old ≡ links ++ new

  -- An acceptor gave just these links, in order: they stood first of those that it had left, and are the last that came.
  pub record HasGiven (before after : Admitting L) (links : List L) : Type 0 where
    pub left : LeftBy before.left after.left links
    pub came : Grows before.came after.came links

  -- A dialer was called just at the lines that dial, gave a link just where one came by such a line, and gave just these.
  pub record HasDialled (d e : Dialling L) (M : Log) (links : List (Option L)) : Type 0 where
    pub calls : Grows d.calls e.calls (by_lines dialled_by M links)
    pub left : LeftBy d.left e.left (by_lines link_by M links)
    pub came : Grows d.came e.came (by_lines link_by M links)

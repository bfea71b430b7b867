-- What an asker was shown of how a hub is doing.
use Rattle.std.specs.Prelude.{List, [], ◌∷◌, Option, ⊤}
use Rattle.bsc_history.specs.declared.mark.Stamped.{Stamped}
use Rattle.bsc_history.specs.Marks.{entries}
use Rattle.bsc_turn.specs.Histories.{StartsWith}
use Rattle.bsc_desk.specs.declared.looking.HubStatus.{HubStatus}
use Rattle.bsc_desk.specs.Looking.{IsStatusOf}
use Rattle.bsc_edge.specs.Told.{Grows}

-- The hub was doing so by a first part of this history.
pub record WasSo (H : List Stamped) (s : HubStatus) : Type 0 where
  pub front : List Stamped
  pub begins : StartsWith H front
  pub so : IsStatusOf (entries front) s

abbrev pub WereSo : List Stamped → List HubStatus → Type 0
WereSo H [] = ⊤
WereSo H (s ∷ more) = WasSo H s × WereSo H more

-- From one moment to another this was shown, so far as that is told. Each is so by a first part of this history.
pub record Shown (H : List Stamped) (before after : Option (List HubStatus)) : Type 0 where
  pub statuses : List HubStatus
  pub told : Grows before after statuses
  pub were : WereSo H statuses

-- How frames are taken from an outlet, and each is put, or noted as denied. No public clause cites it.
use Rattle.std.specs.Prelude.{◌≡◌, ◌≢◌, ◌≤◌, ◌<◌, ◌+◌, ℕ, Bool, nat_lt, if◌then◌else◌, ◌&&◌, is_none, map, List, [], ◌∷◌, ◌++◌, length, Option, Some, None, ⊤}
use Rattle.bsc_octets.specs.declared.vmac.Vmac.{Vmac}
use Rattle.bsc_history.specs.declared.ending.End.{End}
use Rattle.bsc_edge.specs.declared.fault.LinkFault.{LinkFault}
use Rattle.bsc_edge.specs.Told.{Grows}
use Rattle.bsc_history.specs.declared.ending.End.TheVariants.{Left}
use Rattle.bsc_ring.specs.declared.ends.Outlet.{Outlet}
use Rattle.bsc_ring.specs.Ends.{empties_of, given, outlet_mark}
use Rattle.bsc_session.specs.declared.bounds.TheConstants.{TAKES}
use Rattle.bsc_session.specs.declared.taken.Taken.{Taken}
use Rattle.bsc_session.specs.declared.taken.Taken.TheVariants.{All, Part, Met, Cut, Lost}
use Rattle.bsc_policy.specs.declared.policy.Policy.{Policy}
use Rattle.bsc_session.specs.Notes.Notes.{HasLine, Records, denied}
use Rattle.bsc_session.specs.Guarding.{denials, let_through}
use Rattle.bsc_session.specs.Puts.{HasPut, puts}
use Rattle.bsc_session.specs.Taking.{count_of, last_alone}
use Rattle.bsc_session.specs.Following.{OutletHasEnded}
use Rattle.bsc_session.specs.Moments.{Traces}

-- how a taking ended
abbrev pub met_in : Taken → Option End
met_in (Met e) = Some e
met_in t = None

abbrev pub cut_in : Taken → Option LinkFault
cut_in (Cut fault) = Some fault
cut_in t = None

abbrev pub unput_in : Taken → Option LinkFault
unput_in (Lost fault) = Some fault
unput_in t = None

-- what cuts the taking: a fault of the link, or a lost line
abbrev pub IsCut : Option Taken → Type 0
IsCut None = ⊤
IsCut (Some (Cut fault)) = ⊤
IsCut (Some (Lost fault)) = ⊤
IsCut (Some t) = ⊥

abbrev pub fault_by : Option Taken → Option LinkFault
fault_by None = None
fault_by (Some t) = cut_in t

abbrev pub unput_by : Option Taken → Option LinkFault
unput_by None = None
unput_by (Some t) = unput_in t

-- Fewer frames than a turn takes were all that there were; as many may be a part.
abbrev pub FitsCount : Taken → List (List ℕ) → Type 0
FitsCount All frames = length frames < TAKES
FitsCount Part frames = length frames ≡ TAKES
FitsCount t frames = ⊤

-- one where fewer frames were found than a turn takes, and nothing else
abbrev pub nothing_found : List (List ℕ) → Option End → Bool → ℕ
nothing_found frames met goes_on = if is_none met && (goes_on && nat_lt (length frames) TAKES) then 1 else 0

-- A frame was put, or noted as denied, and that may cut the taking.
pub record HandsOn (policy : Option Policy) (to : Vmac) (f : List ℕ) (before after : Traces) (cut : Option Taken) : Type 0 where
  pub cuts : IsCut cut
  pub said : Grows before.talk after.talk (puts (let_through policy (Some to) (f ∷ [])) (fault_by cut))
  pub cause : HasPut (let_through policy (Some to) (f ∷ [])) (fault_by cut)
  pub records : Records before.held after.held (map denied (denials policy (Some to) (f ∷ []))) (unput_by cut)
  pub line : HasLine (map denied (denials policy (Some to) (f ∷ []))) (unput_by cut)

-- So many frames were taken from the outlet, and each was put, or noted as denied.
pub record Taking (policy : Option Policy) (to : Vmac) (o p : Outlet) (before after : Traces) (n : ℕ) : Type 0 where
  pub frames : List (List ℕ)
  pub many : length frames ≡ n
  pub mark : outlet_mark p ≡ outlet_mark o
  pub keeps : (e : End) → OutletHasEnded o e → OutletHasEnded p e
  pub gave : given p ≡ given o ++ frames
  pub empties : empties_of p ≡ empties_of o
  pub said : Grows before.talk after.talk (puts (let_through policy (Some to) frames) None)
  pub records : Records before.held after.held (map denied (denials policy (Some to) frames)) None

-- Frames were taken from the outlet, and each was put, or noted as denied.
pub record Takes (policy : Option Policy) (to : Vmac) (o p : Outlet) (before after : Traces) (taken : Taken) : Type 0 where
  pub frames : List (List ℕ)
  pub mark : outlet_mark p ≡ outlet_mark o
  pub keeps : (e : End) → OutletHasEnded o e → OutletHasEnded p e
  pub found : (e : End) → met_in taken ≡ Some e → OutletHasEnded p e
  pub left : (e : End) → met_in taken ≡ Some e → e ≢ Left
  pub gave : given p ≡ given o ++ frames
  pub empties : empties_of p ≡ empties_of o + nothing_found frames (met_in taken) (is_none (cut_in taken) && is_none (unput_in taken))
  pub few : length frames + count_of (met_in taken) ≤ TAKES
  pub fits : FitsCount taken frames
  pub said : Grows before.talk after.talk (puts (let_through policy (Some to) frames) (cut_in taken))
  pub cause : HasPut (let_through policy (Some to) (last_alone frames)) (cut_in taken)
  pub records : Records before.held after.held (map denied (denials policy (Some to) frames)) (unput_in taken)
  pub line : HasLine (map denied (denials policy (Some to) (last_alone frames))) (unput_in taken)

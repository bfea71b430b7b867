-- What a hub puts of itself is no Encapsulated-NPDU.
-- It serves clauses of functions of `laws`.
use Rattle.std.proofs.Common.{◌≡◌, ℕ, false, List, Some, ap, sym, subst, ◌∙◌}
use Rattle.bsc_octets.specs.Functions.{is_npdu}
use Rattle.bsc_history.specs.declared.limits.About.{About}
use Rattle.bsc_accept.specs.declared.step.Step.{Step}
use Rattle.bsc_accept.specs.declared.step.Step.TheVariants.{Ask, Put, PutClose, Up, Close, Nothing}
use Rattle.bsc_accept.proofs.OwnOctets.{PutsNone, none-step}
use Rattle.bsc_network_laws.proofs.Moves.{octets_wanted, IsWanted}
use Rattle.std.proofs.lemmas.Option.{same_Some as some_same}

-- octets that are these, which are none
these : (p o : List ℕ) → is_npdu p ≡ false → Some p ≡ Some o → is_npdu o ≡ false
these p o h is = ap is_npdu (sym (some_same p o is)) ∙ h

wanted : (st : Step) (o : List ℕ) → PutsNone st → octets_wanted st ≡ Some o → is_npdu o ≡ false
wanted (Ask who) o h is = cc
wanted (Put p) o h is = these p.items o h is
wanted (PutClose p c) o h is = these p.items o h is
wanted Up o h is = cc
wanted (Close c) o h is = cc
wanted Nothing o h is = cc

-- What a hub's machine wants to be put is no Encapsulated-NPDU.
pub own_is_none : (a : About) (st : Step) → IsWanted a st → (o : List ℕ) → octets_wanted st ≡ Some o → is_npdu o ≡ false
own_is_none a st by o is = wanted st o (subst PutsNone (sym by.5) (none-step by.0 by.1 by.2 by.4)) is

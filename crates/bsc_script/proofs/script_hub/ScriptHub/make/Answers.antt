-- A new hub stands for the state before any line.
use Rattle.std.proofs.Common.{[], List, ℕ, map, true≢false, sym, ap, refl, subst}
use Rattle.std.specs.Ordering.{nat_cmp}
use Rattle.std.specs.BTreeMap.{is_at}
use Rattle.std.specs.Map.{lookup}
use Rattle.bsc_history.specs.Ends.{joined_where}
use Rattle.bsc_script.specs.Holding.{ArePeers}
use Rattle.bsc_script.proofs.Changes.{kept}
use Rattle.bsc_script.proofs.script_hub.ScriptHub.make.Goals as goal

pub returns : goal.returns
unfolding joined_where
returns c = (
  record {
    core = c.in_ok-core.ensures.stands;
    about = c.in_ok-core.ensures.about;
    same_hub = refl;
    clock = refl;
    peers = subst (λ es. ArePeers c.in_ok-core.core [] [] (map kept es)) (sym c.new.ensures.empty) tt;
    apart = tt;
    conns = tt;
    names = λ q. ap (λ (es : List (ℕ × List ℕ)). lookup (is_at (nat_cmp q)) es) c.new-2.ensures.empty;
    joined = λ q u. absurd (true≢false (sym u));
  },
  record { peers = tt; order = refl },
)

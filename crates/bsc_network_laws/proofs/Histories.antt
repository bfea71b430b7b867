-- All that is known of the sides of hubs, and of their histories, at each moment of a step.
-- It serves clauses of functions of `laws`.
use Rattle.std.proofs.Common.{ℕ}
use Rattle.bsc_network.specs.declared.world_step.WorldStep.{WorldStep}
use Rattle.bsc_network.specs.declared.timed_step.TimedStep.{TimedStep}
use Rattle.bsc_network.specs.Worlds.{World}
use Rattle.bsc_network_laws.specs.Naming.{Cast}
use Rattle.bsc_network_laws.specs.Carrying.{Sendings}
use Rattle.bsc_network_laws.specs.Connecting.{JoinByLinks}
use Rattle.bsc_network_laws.specs.Passing.{PassesOn}
use Rattle.bsc_network_laws.proofs.Moves.{Lets, LetsWhole}
use Rattle.bsc_network_laws.proofs.Stepping.{begun, done, whole-step}
use Rattle.bsc_network_laws.proofs.Beside.{Keeps, KeepsGiven, KeepsBoth, each-as, both, together}
use Rattle.bsc_network_laws.proofs.Whole.{as_whole, whole_each, beside_whole, together_whole}
use Rattle.bsc_network_laws.proofs.Knowing.{Knows}
use Rattle.bsc_network_laws.proofs.Casting.{KnowsAll, knows_all}
use Rattle.bsc_network_laws.proofs.Named.{Named, named_stays}
use Rattle.bsc_network_laws.proofs.Diallers.{IsFit, KnowsNames}
use Rattle.bsc_network_laws.proofs.Joins.{SidesJoined}
use Rattle.bsc_network_laws.proofs.Joins as Joins
use Rattle.bsc_network_laws.proofs.Callers.{join_by_links}
use Rattle.bsc_network_laws.proofs.Looks.{LooksFit, looks}
use Rattle.bsc_network_laws.proofs.SentOnLinks.{AllSent, IsCounted, sent_stays}
use Rattle.bsc_network_laws.proofs.Legally.{KnowsSides, Legally, legally}
use Rattle.bsc_network_laws.proofs.Passing.{KnowsHistories, passes}

-- ---- what moves keep, in other words

-- two things that each move keeps
pub keeps_both : (D : WorldStep) (P Q : World → Type 0) → Lets D (Keeps P) → Lets D (Keeps Q) → Lets D (Keeps (λ u. P u × Q u))
keeps_both D P Q M N = record {
  none = λ w p. p;
  then = λ u v w f g p. g (f p);
  each = each-as D (λ u v. Keeps P u v × Keeps Q u v) (Keeps (λ u. P u × Q u)) (λ u v f p. (f.0 p.0, f.1 p.1)) (both D (Keeps P) (Keeps Q) M N).each;
}

pub keeps_as : (D : WorldStep) (P Q : World → Type 0) → ((w : World) → P w → Q w) → ((w : World) → Q w → P w) → Lets D (Keeps P) → Lets D (Keeps Q)
keeps_as D P Q to from M = record {
  none = λ w q. q;
  then = λ u v w f g q. g (f q);
  each = each-as D (Keeps P) (Keeps Q) (λ u v f q. to v (f (from u q))) M.each;
}

-- ---- what is known

knows_names : (cast : Cast) (T place : ℕ) (D : WorldStep) → Lets D (Keeps (KnowsNames cast T place))
knows_names cast T place D = together D (KnowsAll cast T place) (Named cast) (knows_all cast T place D) (named_stays cast T place D)

knows_links : (cast : Cast) (T place : ℕ) (D : WorldStep) → Lets D (Keeps (λ u. KnowsNames cast T place u × JoinByLinks u))
knows_links cast T place D =
    together D (KnowsNames cast T place) JoinByLinks (knows_names cast T place D)
    (each-as D (KeepsGiven (Knows T place) JoinByLinks) (KeepsGiven (KnowsNames cast T place) JoinByLinks) (λ u v f p. f p.0.0) (join_by_links T place D))

pub knows_sides : (cast : Cast) (T place : ℕ) (D : WorldStep) → Lets D (Keeps (KnowsSides cast T place))
knows_sides cast T place D =
    keeps_as D (λ u. (KnowsNames cast T place u × JoinByLinks u) × (LooksFit u × SidesJoined u)) (KnowsSides cast T place)
    (λ w p. record { names = p.0.0; by_links = p.0.1; looks = p.1.0; joined = p.1.1 }) (λ w k. ((k.names, k.by_links), (k.looks, k.joined)))
    (keeps_both D (λ u. KnowsNames cast T place u × JoinByLinks u) (λ u. LooksFit u × SidesJoined u) (knows_links cast T place D) (keeps_both D LooksFit SidesJoined (looks D) (Joins.lets D)))

-- with what was sent
abbrev KnowsSent : Cast → Sendings → ℕ → ℕ → World → Type 0
KnowsSent cast S T place u = KnowsSides cast T place u × AllSent S u

knows_sent : (cast : Cast) (S : Sendings) (T place : ℕ) (D : WorldStep) → IsCounted S place D → Lets D (Keeps (KnowsSent cast S T place))
knows_sent cast S T place D sends =
    together D (KnowsSides cast T place) (AllSent S) (knows_sides cast T place D)
    (each-as D (KeepsGiven (Knows T place) (AllSent S)) (KeepsGiven (KnowsSides cast T place) (AllSent S)) (λ u v f p. f p.names.0.0) (sent_stays S T place D sends))

-- with the histories
pub whole_as : (D : WorldStep) (P Q : World → Type 0) → ((w : World) → P w → Q w) → ((w : World) → Q w → P w) → LetsWhole D (Keeps P) → LetsWhole D (Keeps Q)
whole_as D P Q to from M = record {
  none = λ w q. q;
  then = λ u v w f g q. g (f q);
  each = whole_each D (Keeps P) (Keeps Q) (λ u v f q. to v (f (from u q))) M.each;
}

pub knows_histories : (cast : Cast) → IsFit cast → (S : Sendings) (T place : ℕ) (D : WorldStep) → IsCounted S place D → LetsWhole D (Keeps (KnowsHistories cast S T place))
knows_histories cast fit S T place D sends =
    whole_as D (λ u. KnowsSent cast S T place u × Legally u) (KnowsHistories cast S T place)
    (λ w p. record { sides = p.0.0; sent = p.0.1; legally = p.1 }) (λ w k. ((k.sides, k.sent), k.legally))
    (together_whole D (KnowsSent cast S T place) Legally (as_whole D (Keeps (KnowsSent cast S T place)) (knows_sent cast S T place D sends))
    (whole_each D (KeepsGiven (KnowsSides cast T place) Legally) (KeepsGiven (KnowsSent cast S T place) Legally) (λ u v f p. f p.0) (legally cast fit T place D)))

-- ---- a step

pub histories-done : (cast : Cast) → IsFit cast → (S : Sendings) (t : TimedStep) (place : ℕ) → IsCounted S place t.step → (w : World) → KnowsHistories cast S t.now place (begun w t)
    → KnowsHistories cast S t.now place (done w t)
histories-done cast fit S t place sends w = whole-step (Keeps (KnowsHistories cast S t.now place)) t (knows_histories cast fit S t.now place t.step sends) w

-- And outboxes keep what was passed on.
pub passes-done : (cast : Cast) → IsFit cast → (S : Sendings) (t : TimedStep) (place : ℕ) → IsCounted S place t.step → (w : World) → KnowsHistories cast S t.now place (begun w t)
    → PassesOn S (begun w t) → PassesOn S (done w t)
passes-done cast fit S t place sends w known =
    (whole-step (KeepsBoth (KnowsHistories cast S t.now place) (PassesOn S)) t
    (beside_whole t.step (KnowsHistories cast S t.now place) (PassesOn S) (knows_histories cast fit S t.now place t.step sends) (passes cast S t.now place t.step)) w known).1

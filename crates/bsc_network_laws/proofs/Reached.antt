-- The log of a node in a network is that of events each of which might come: what is a law of such logs holds of it.
-- It serves clauses of functions of `laws`.
use Rattle.std.proofs.Common.{◌≡◌, ℕ, Bool, true, ◌&&◌, List, [], ◌∷◌, ◌++◌, fold, Some, refl, ap, sym, subst, ◌∙◌}
use Rattle.std.specs.Prelude.{◌==◌, IsTrue}
use Rattle.std.proofs.lemmas.List.Sums.{fold-append}
use Rattle.bsc_octets.specs.declared.identity.Identity.{Identity}
use Rattle.bsc_octets.specs.Forwarding.{function_in}
use Rattle.bsc_frame.specs.declared.message.Message.{Message}
use Rattle.bsc_checks.specs.declared.verdict.Verdict.TheVariants.{Pass}
use Rattle.bsc_node.specs.declared.link_name.LinkName.TheVariants.{Direct}
use Rattle.bsc_node.specs.declared.node_event.NodeEvent.TheVariants.{Came}
use Rattle.bsc_node.specs.declared.timed_event.TimedEvent.{TimedEvent}
use Rattle.bsc_node.specs.Conditions.{Watched, may_come, may_all_come}
use Rattle.bsc_node.specs.Laws.{with_event}
use Rattle.bsc_node.specs.Links.{peer, verdict}
use Rattle.bsc_node.specs.Logs.{Made, Log}
use Rattle.bsc_node.specs.Node.{goes_on, log}
use Rattle.bsc_node.proofs.Lasting.{watch}
use Rattle.bsc_node_identity.specs.There.{CameUpWith, NpdusPassWhereUp}

-- the log of events each of which might come
pub record IsReached (a : Made) (L : Log) : Type 0 where
  pub events : List TimedEvent
  pub is : L ≡ log a events
  pub may : IsTrue (may_all_come a events)

pub reached-at_first : (a : Made) → IsReached a []
reached-at_first a = record { events = []; is = refl; may = refl }

-- ---- one event more

abbrev at_start : Watched
at_start = record { log = []; fine = true }

watched : (a : Made) (events : List TimedEvent) (w : Watched) → (fold (watch a) w events).log ≡ fold (λ (L : Log) (e : TimedEvent). L ++ goes_on a e L) w.log events
watched a [] w = refl
watched a (e ∷ events) w = watched a events (watch a w e)

both : (p q : Bool) → p ≡ true → q ≡ true → (p && q) ≡ true
both p q h g = ap (λ (b : Bool). b && q) h ∙ g

pub reached-goes_on : (a : Made) (L : Log) (e : TimedEvent) → IsReached a L → IsTrue (may_come L e) → IsReached a (L ++ goes_on a e L)
reached-goes_on a L e r may = record {
  events = r.events ++ e ∷ [];
  is = ap (λ (M : Log). M ++ goes_on a e M) r.is ∙ sym (fold-append (λ (M : Log) (x : TimedEvent). M ++ goes_on a x M) [] r.events (e ∷ []));
  may = ap (λ (w : Watched). w.fine) (fold-append (watch a) at_start r.events (e ∷ []))
      ∙ both (fold (watch a) at_start r.events).fine (may_come (fold (watch a) at_start r.events).log e) r.may
      (ap (λ (M : Log). may_come M e) (watched a r.events at_start ∙ sym r.is) ∙ may);
}

-- ---- a law, at an event behind such a log

-- The law of nodes on which slots that came up rest.
abbrev pub UpLaw : Type 0
UpLaw = (a : Made) → NpdusPassWhereUp a

abbrev PassesWhereUp : Made → Log → TimedEvent → Type 0
PassesWhereUp a L e = (k : ℕ) (o : List ℕ) (msg : Message) → e.event ≡ Came (Direct k) o → verdict a (with_event L e) (Direct k) o ≡ Pass msg → (function_in o == 0x01) ≡ true
    → (who : Identity) × (peer L (Direct k) ≡ Some who) × CameUpWith L k who

pub passes-where_up : UpLaw → (a : Made) (L : Log) (e : TimedEvent) → IsReached a L → IsTrue (may_come L e) → PassesWhereUp a L e
passes-where_up law a L e reached may = subst (λ (M : Log). PassesWhereUp a M e) (sym reached.is) (law a reached.events e reached.may (subst (λ (M : Log). IsTrue (may_come M e)) reached.is may))

-- What each event brings about, and that it leaves the log of a node that has started as it may be between two events.
-- It serves the clauses of `links_begin_anew`.
use Rattle.std.proofs.Common.{◌≡◌, Bool, true, false, ◌||◌, inl, inr, [], ◌∷◌, ◌++◌, None, refl, ap, sym, ◌∙◌, subst}
use Rattle.std.specs.Prelude.{IsTrue}
use Rattle.std.specs.List.{list_any}
use Rattle.std.proofs.lemmas.List.{append_assoc, append-nil}
use Rattle.std.proofs.lemmas.List.Folds.{list_any-append}
use Rattle.bsc_accept.specs.declared.reason.Reason.TheVariants.{TableFull}
use Rattle.bsc_accept.specs.Steps.{closing}
use Rattle.bsc_direct.specs.declared.call.SlotCall.TheVariants.{Claim}
use Rattle.bsc_node.specs.declared.link_name.LinkName.TheVariants.{Direct}
use Rattle.bsc_node.specs.declared.node_event.NodeEvent.{NodeEvent}
use Rattle.bsc_node.specs.declared.node_event.NodeEvent.TheVariants.{Start, Opened, Arrived}
use Rattle.bsc_node.specs.declared.timed_event.TimedEvent.{TimedEvent}
use Rattle.bsc_node.specs.declared.action.Action.TheVariants.{Take, Refuse}
use Rattle.bsc_node.specs.Logs.{Made, came, slot, did, Log, now, next_id}
use Rattle.bsc_node.specs.Events.{follows}
use Rattle.bsc_node.specs.Node.{goes_on}
use Rattle.bsc_node.specs.Conditions.{is_start, awaits_word, may_come}
use Rattle.bsc_node.specs.Laws.{with_event}
use Rattle.bsc_node.proofs.Following.{goes_on-is}
use Rattle.bsc_node.proofs.Lasting.{Fine, fine-goes_on, fine-log}
use Rattle.bsc_node_laws.specs.Links.{opens_at, LogGoesOn, Admits, Brings}
use Rattle.bsc_node_laws.proofs.Tied.{Tied}
use Rattle.bsc_node_laws.proofs.Between.{Between}
use Rattle.bsc_node_laws.proofs.Tying.{keeps, keeps_each, keeps_event, keeps_opened, keeps_taken, fits_may}
use Rattle.bsc_node_laws.proofs.Drawn.{seam, word_gone}
use Rattle.bsc_node_laws.proofs.Followed.{Follows, is_arrival, fit_follows, arrives_is, first_goes_on, first_tied, first_lines}

-- ---- that the log stays tied

-- by a link that opens
tied_opens : (a : Made) (M : Log) (ev : NodeEvent) → Tied a M → Tied a (M ++ opens_at ev M)
tied_opens a M (Opened name) t = keeps_opened a M name (now M) (next_id M) t
tied_opens a M ev t = subst (Tied a) (sym (append-nil M)) t

goes_on_followed : (a : Made) (L : Log) (e : TimedEvent) (f : Follows a (with_event L e) e.event) → goes_on a e L ≡ came e ∷ (opens_at e.event (with_event L e) ++ f.0)
goes_on_followed a L e f = goes_on-is a L e ∙ ap (λ lines. came e ∷ lines) f.1

-- by lines that fit
tied_followed : (a : Made) (L : Log) (e : TimedEvent) → Tied a L → Follows a (with_event L e) e.event → Tied a (L ++ goes_on a e L)
tied_followed a L e t f =
    subst (Tied a) (sym (ap (λ lines. L ++ lines) (goes_on_followed a L e f) ∙ seam L (came e) (opens_at e.event (with_event L e)) f.0))
    (keeps_each a (with_event L e ++ opens_at e.event (with_event L e)) f.0 (tied_opens a (with_event L e) e.event (keeps_event a L e t)) f.2)

-- by a link that arrives
tied_admitted : (a : Made) (L : Log) (e : TimedEvent) → Tied a L → Admits a L e → Tied a (L ++ goes_on a e L)
tied_admitted a L e t (inl (k, is, gone, here)) =
    subst (Tied a) (sym (ap (λ lines. L ++ lines) is ∙ seam L (came e) (slot (Claim k None) ∷ []) (did (Take (Direct k)) ∷ []))) (keeps_taken a (with_event L e) k (keeps_event a L e t))
tied_admitted a L e t (inr is) =
    subst (Tied a) (sym (ap (λ lines. L ++ lines) is ∙ sym (append_assoc L (came e ∷ []) (did (Refuse (closing 1008 TableFull)) ∷ []))))
    (keeps a (with_event L e) (did (Refuse (closing 1008 TableFull))) (keeps_event a L e t) tt)

-- ---- an event after the start

-- what an event brings about, and that the log stays tied by it
by_event : (a : Made) (L : Log) (e : TimedEvent) → Between a L → IsTrue (may_come L e) → (ev : NodeEvent) → e.event ≡ ev → Brings a L e ev × Tied a (L ++ goes_on a e L)
by_event a L e b may Arrived is = (arrives_is a L e b is, tied_admitted a L e b.tied (arrives_is a L e b is))
by_event a L e b may ev is = (goes, tied_followed a L e b.tied followed)
  where
    followed : Follows a (with_event L e) e.event
    followed = fit_follows a L e b may (ap is_arrival is)

    goes : LogGoesOn a L e
    goes = record {
      lines = followed.0;
      is = goes_on_followed a L e followed;
      may = fits_may a (with_event L e ++ opens_at e.event (with_event L e)) followed.0 followed.2;
    }

-- An event that may come brings about what may stand, and leaves the log as it may be between two events.
pub brings : (a : Made) (L : Log) (e : TimedEvent) → Between a L → IsTrue (may_come L e) → Brings a L e e.event × Between a (L ++ goes_on a e L)
brings a L e b may = (
  brought.0,
  record {
    tied = brought.1;
    fine = fine-goes_on a L e b.fine may;
    started = list_any-append is_start L (goes_on a e L) ∙ ap (λ (p : Bool). p || list_any is_start (goes_on a e L)) b.started;
    word = word_gone a L e may;
  },
)
  where
    brought : Brings a L e e.event × Tied a (L ++ goes_on a e L)
    brought = by_event a L e b may e.event refl

-- ---- the start

-- the first log is fine
fine_first : (a : Made) (e : TimedEvent) → e.event ≡ Start → Fine (goes_on a e [])
fine_first a e is = subst Fine (sym (first_lines a e is)) (record { slots = (fine-log a [] refl).slots; begun = refl })

start_is : (e : TimedEvent) → e.event ≡ Start → is_start (came e) ≡ true
start_is e is = ap (λ (ev : NodeEvent). is_start (came (record { now = e.now; event = ev }))) is

-- The start brings about what may stand, and leaves the log as it may be between two events.
pub begun : (a : Made) (e : TimedEvent) → e.event ≡ Start → Brings a [] e e.event × Between a (goes_on a e [])
begun a e is = (
  subst (Brings a [] e) (sym is) (first_goes_on a e is),
  record {
    tied = first_tied a e is;
    fine = fine_first a e is;
    started = ap (list_any is_start) (goes_on-is a [] e) ∙ ap (λ (p : Bool). p || list_any is_start (follows a e.event (came e ∷ []))) (start_is e is);
    word = λ awaits. no awaits (ap awaits_word (first_lines a e is));
  },
)
  where
    no : {b c : Bool} → b ≡ true → b ≡ false → c ≡ false
    no h g = cc

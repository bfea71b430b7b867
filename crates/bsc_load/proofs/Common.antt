-- Lemmas that crates above cite too.
-- It serves the clauses of `run_jobs` and `run`.
use Rattle.bsc_history.proofs.More.{is_stopped-more, entries-more}
use Rattle.bsc_history.specs.Marks.{entries}
use Rattle.bsc_history.specs.Replies.{is_stopped}
use Rattle.bsc_history.specs.declared.counts.Counts.{Counts}
use Rattle.bsc_history.specs.declared.mark.Stamped.{Stamped}
use Rattle.bsc_history.specs.declared.told.AlreadyStopped.{AlreadyStopped}
use Rattle.bsc_history.specs.declared.told.Told.{Told}
use Rattle.bsc_hub.specs.Calls.{stop_stamped}
use Rattle.bsc_hub.specs.declared.hub.Hub.{Hub}
use Rattle.bsc_load.specs.Inner.{Stops}
use Rattle.bsc_turn.specs.Passes.{number_of, seen}
use Rattle.bsc_turn.specs.declared.pass.Pass.{Pass}
use Rattle.std.proofs.Common.{refl, List, Err, Ok, ap, true, ◌∙◌, Result}
use Rattle.std.proofs.lemmas.Bool.{or_right}
use Rattle.std.specs.Prelude.{IsTrue}

pub stopped_now : (h : Hub) (m q : Pass) (told : Result (Told Counts) AlreadyStopped) → Stops h m q told → IsTrue (is_stopped (entries (seen q)))
stopped_now h m q (Ok t) s =
    let before = s.passed.makes.before in
    let stop : Stamped = stop_stamped (number_of m) t.said in
    ap (λ (S : List Stamped). is_stopped (entries S)) s.passed.makes.ends
    ∙ ap is_stopped (entries-more before stop)
    ∙ is_stopped-more (entries before) stop.entry
    ∙ or_right (is_stopped (entries before)) true refl
stopped_now h m q (Err already) s = s.refused.0 refl

-- What the stop of a hub that isn't served answers.
-- It serves the clauses of `stop_alone`.
use Rattle.std.proofs.Common.{◌≡◌, ℕ, take, true, false, Ok, Err}
use Rattle.std.specs.Prelude.{Result, IfErr, IfOk, IsErr, IsTrue, ◌↔◌, Some, position}
use Rattle.std.proofs.lemmas.Bool.{false_from_ne_true}
use Rattle.bsc_history.specs.declared.counts.Counts.{Counts}
use Rattle.bsc_history.specs.declared.told.AlreadyStopped.{AlreadyStopped}
use Rattle.bsc_history.specs.declared.told.Told.{Told}
use Rattle.bsc_history.specs.Counting.{counts}
use Rattle.bsc_history.specs.Entries.{stops}
use Rattle.bsc_history.specs.Marks.{entries}
use Rattle.bsc_history.specs.Replies.{is_stopped}
use Rattle.bsc_turn.specs.declared.pass.Pass.{Pass}
use Rattle.bsc_turn.specs.Passes.{seen}
use Rattle.bsc_hub.specs.Calls.{stop_made}
use Rattle.bsc_hub.specs.Passing.{found_history}
use Rattle.bsc_serve.specs.Serving.{StopAnswers}

pub stop_answers : (n : ℕ) (q : Pass) (r : Result (Told Counts) AlreadyStopped) → IfOk r (λ t. t.said ≡ counts (found_history (stop_made n r) q))
    → (IsErr r ↔ IsTrue (is_stopped (found_history (stop_made n r) q))) → IfErr r (λ already. position stops (entries (seen q)) ≡ Some already.at)
    → StopAnswers q r
stop_answers n q (Ok t) due refused place =
    (due, false_from_ne_true (is_stopped (take t.at (entries (seen q)))) (λ e. (let k : false ≡ true = refused.1 e in cc)))
stop_answers n q (Err e) due refused place = place

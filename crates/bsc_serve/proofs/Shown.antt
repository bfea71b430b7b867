-- An asker is shown how a hub is doing.
-- It serves the clauses of `accept_all` and `serve_on`.
use Rattle.std.proofs.Common.{◌≡◌, ℕ, ◌+◌, List, [], ◌∷◌, ◌++◌, length, Option, None, sym, ◌∙◌, subst, arith, append-nil}
use Rattle.bsc_history.specs.declared.mark.Stamped.{Stamped}
use Rattle.bsc_history.specs.Marks.{entries}
use Rattle.bsc_turn.specs.declared.pass.Pass.{Pass}
use Rattle.bsc_turn.specs.declared.view.EndedCaller.{EndedCaller}
use Rattle.bsc_turn.specs.Histories.{StartsWith}
use Rattle.bsc_turn.specs.Passes.{newest_number}
use Rattle.bsc_turn.proofs.Beginnings.{starts_self}
use Rattle.bsc_desk.specs.declared.looking.HubStatus.{HubStatus}
use Rattle.bsc_desk.specs.Looking.{IsStatusOf}
use Rattle.bsc_hub.specs.declared.hub.Hub.{Hub}
use Rattle.bsc_hub.specs.Passing.{Passed, Went}
use Rattle.bsc_hub.proofs.Following.{drew_no_number, starts_then, went_then}
use Rattle.bsc_edge.specs.declared.said.Said.{Said}
use Rattle.bsc_edge.specs.Told.{Grows}
use Rattle.bsc_edge.proofs.Common.{grows_none, grows_then}
use Rattle.bsc_session.specs.declared.job.SessionJob.{SessionJob}
use Rattle.bsc_session.specs.declared.session_end.SessionEnd.{SessionEnd}
use Rattle.bsc_serve.specs.Events.{callers_of, links_of}
use Rattle.bsc_serve.specs.Inner.{GoesOn}
use Rattle.bsc_serve.specs.Showing.{Shown, WereSo}
use Rattle.bsc_serve.specs.Worlds.{Stock}
use Rattle.bsc_serve.proofs.Arrivals.{fates_later}
use Rattle.bsc_serve.proofs.Sessions.{drawn_same}

were_later : (F H : List Stamped) (xs : List HubStatus) → StartsWith H F → WereSo F xs → WereSo H xs
were_later F H [] begins were = tt
were_later F H (s ∷ xs) begins were =
    (record { front = were.0.front; begins = starts_then were.0.front F H were.0.begins begins; so = were.0.so }, were_later F H xs begins were.1)

were_then : (H : List Stamped) (xs ys : List HubStatus) → WereSo H xs → WereSo H ys → WereSo H (xs ++ ys)
were_then H [] ys a b = b
were_then H (s ∷ xs) ys a b = (a.0, were_then H xs ys a.1 b)

-- nothing was shown
pub shown_none : (H : List Stamped) (told : Option (List HubStatus)) → Shown H told told
shown_none H told = record { statuses = []; told = grows_none told; were = tt }

-- this was
pub shown_one : (H : List Stamped) (before after : Option (List HubStatus)) (s : HubStatus) → Grows before after (s ∷ []) → IsStatusOf (entries H) s → Shown H before after
shown_one H before after s told so = record { statuses = s ∷ []; told = told; were = (record { front = H; begins = starts_self H; so = so }, tt) }

-- what was shown stays so by a longer history, and more may be shown
pub shown_later : (F H : List Stamped) (before after : Option (List HubStatus)) → StartsWith H F → Shown F before after → Shown H before after
shown_later F H before after begins s = record { statuses = s.statuses; told = s.told; were = were_later F H s.statuses begins s.were }

pub shown_then : (F H : List Stamped) (a b c : Option (List HubStatus)) → StartsWith H F → Shown F a b → Shown H b c → Shown H a c
shown_then F H a b c begins s t = record {
  statuses = s.statuses ++ t.statuses;
  told = grows_then a b c s.statuses t.statuses s.told t.told;
  were = were_then H s.statuses t.statuses (were_later F H s.statuses begins s.were) t.were;
}

module _ {L C N : Type 0} (works : SessionJob L C N → SessionEnd L C N → Type 0) (begins : Option (List ℕ) → ℕ → N → Type 0) (talk : L → Option (List Said)) where
  -- The own pass has seen more, and nothing else has happened.
  pub goes_seen : (h : Hub) (p q : Pass) (s : Stock L C N) → Passed h p [] None q → newest_number q ≡ newest_number p → GoesOn works begins talk h p s q s
  goes_seen h p q s went loaded terms first beside tally taken =
      let more = taken.events in
      let n = length (links_of more) in
      let none : n + 0 ≡ n = omega arith in
      let since : Went h first.pass (n + 0) (callers_of more ++ []) None q = went_then h first.pass p q n 0 (callers_of more) [] None taken.went went in
      record {
        events = more;
        left = taken.left;
        came = taken.came;
        asks = taken.asks;
        asked = taken.asked;
        idle = taken.idle;
        quiet = taken.quiet;
        answered = taken.answered;
        begun = taken.begun;
        jobs = taken.jobs;
        given_back = taken.given_back;
        fates = fates_later begins talk h terms first.pass p q more went.grows (λ x. loaded ∙ x) taken.fates;
        returned = taken.returned;
        out = taken.out;
        ours = taken.ours;
        all_ended = taken.all_ended;
        went = subst (λ k. Went h first.pass k (callers_of more) None q) none
            (subst (λ (xs : List EndedCaller). Went h first.pass (n + 0) xs None q) (append-nil (callers_of more)) since);
        drawn = drawn_same h first.pass p q loaded taken.drawn;
        drew = drew_no_number h p q [] None went ∙ taken.drew;
        remains = taken.remains;
        counted = taken.counted;
      }

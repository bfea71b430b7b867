-- Requests, and what an application answered.
-- It serves the clauses of `run_application` and `take_requests`.
use Rattle.std.proofs.Common.{◌≡◌, ℕ, ◌+◌, true, not, nat_lt, List, [], ◌∷◌, ◌++◌, length, map, Option, Some, IfSome, refl, ap, sym, ◌∙◌, subst, append_assoc, append-nil, arith}
use Rattle.std.proofs.lemmas.Bool.{and_parts}
use Rattle.std.proofs.lemmas.List.{map-append, length-append}
use Rattle.bsc_edge.specs.Told.{Grows}
use Rattle.bsc_edge.proofs.Common.{grows_then}
use Rattle.bsc_octets.specs.Addresses.{same_vmac, zero_vmac}
use Rattle.bsc_node.specs.declared.node_event.NodeEvent.{NodeEvent}
use Rattle.bsc_node.specs.declared.node_event.NodeEvent.TheVariants.{Start, Opened, DialFailed, Arrived, Came, CameText, Lost, Tick, Send, Resolve, DirectTo, Solicit, Finish, Random, NoRandom}
use Rattle.bsc_node_run.specs.declared.due.Due.{Due}
use Rattle.bsc_node_run.specs.Requests.{has_octets, is_asked}
use Rattle.bsc_node_run.specs.Turning.{IsNotDue}
use Rattle.bsc_application.specs.Asking.{AreAsked, answers_of, answers_to, requests}

-- A request has octets where it is to send some.
pub asked_octets : (e : NodeEvent) → is_asked e ≡ true → has_octets e ≡ true
asked_octets Start h = refl
asked_octets (Opened name) h = refl
asked_octets (DialFailed name) h = refl
asked_octets Arrived h = refl
asked_octets (Came name o) h = refl
asked_octets (CameText name) h = refl
asked_octets (Lost name) h = refl
asked_octets Tick h = refl
asked_octets (Send dest npdu) h = (and_parts (nat_lt 0 (length npdu)) (not (same_vmac dest zero_vmac)) h).0
asked_octets (Resolve v) h = refl
asked_octets (DirectTo v) h = refl
asked_octets (Solicit v) h = refl
asked_octets Finish h = refl
asked_octets (Random n) h = refl
asked_octets NoRandom h = refl

-- one request more
pub asked_more : (batch : List Due) (d : Due) → AreAsked batch → d.at ≡ 0 → is_asked d.event ≡ true → AreAsked (batch ++ d ∷ [])
asked_more [] d h at is = (at, is, tt)
asked_more (b ∷ batch) d (first, well, more) at is = (first, well, asked_more batch d more at is)

pub requests_more : (batch : List Due) (d : Due) → map Some (requests (batch ++ d ∷ [])) ≡ map Some (requests batch) ++ Some d.event ∷ []
requests_more [] d = refl
requests_more (b ∷ batch) d = ap (λ (answers : List (Option NodeEvent)). Some b.event ∷ answers) (requests_more batch d)

-- Those of one turn more.
pub answers_more : (batches : List (List Due)) (batch : List Due) → answers_to (batches ++ batch ∷ []) ≡ answers_to batches ++ answers_of batch
answers_more [] batch = append-nil (answers_of batch)
answers_more (b ∷ batches) batch = ap (λ (answers : List (Option NodeEvent)). answers_of b ++ answers) (answers_more batches batch)
    ∙ sym (append_assoc (answers_of b) (answers_to batches) (answers_of batch))

-- ---- all are due

-- a request that stands behind others is due
at_behind : (lines : List Due) (d : Due) (more : List Due) → AreAsked (lines ++ d ∷ more) → d.at ≡ 0
at_behind [] d more h = h.0
at_behind (l ∷ lines) d more (first, well, rest) = at_behind lines d more rest

-- Of requests none is left, as all are due.
pub nothing_left : (passed : ℕ) (script lines rest : List Due) → AreAsked script → script ≡ lines ++ rest → IsNotDue passed rest → rest ≡ []
nothing_left passed script lines [] asked parts next = refl
nothing_left passed script lines (d ∷ rest) asked parts next =
    absurd (omega (arith, next, at_behind lines d rest (subst (λ ls. AreAsked ls) parts asked)))

-- ---- requests are taken

module _ (old mid new : Option (List (Option NodeEvent))) (batch : List Due) (event : NodeEvent) (answer : Option NodeEvent) (is : answer ≡ Some event)
    (gave : Grows old mid (map Some (requests batch))) (told : Grows mid new (answer ∷ [])) where
  gave_one : Grows old new (map Some (requests batch) ++ Some event ∷ [])
  gave_one = subst (λ (a : Option NodeEvent). Grows old new (map Some (requests batch) ++ a ∷ [])) is (grows_then old mid new (map Some (requests batch)) (answer ∷ []) gave told)

  -- A request was given, and there was no memory for it.
  pub gave_lost : Grows old new (map Some (requests batch ++ event ∷ []))
  gave_lost = subst (λ (answers : List (Option NodeEvent)). Grows old new answers) (sym (map-append Some (requests batch) (event ∷ []))) gave_one

  -- A request was given and kept.
  pub gave_kept : (batch' : List Due) (d : Due) → batch' ≡ batch ++ d ∷ [] → d.event ≡ event → Grows old new (map Some (requests batch'))
  gave_kept batch' d kept same = subst (λ (answers : List (Option NodeEvent)). Grows old new answers)
      (ap (λ (e : NodeEvent). map Some (requests batch) ++ Some e ∷ []) (sym same) ∙ sym (requests_more batch d) ∙ ap (λ (ds : List Due). map Some (requests ds)) (sym kept)) gave_one

-- It is one of those that are asked.
pub asked_kept : (batch batch' : List Due) (d : Due) → batch' ≡ batch ++ d ∷ [] → AreAsked batch → d.at ≡ 0 → is_asked d.event ≡ true → AreAsked batch'
asked_kept batch batch' d kept asked at is = subst (λ (ds : List Due). AreAsked ds) (sym kept) (asked_more batch d asked at is)

pub one_longer : (batch batch' : List Due) (d : Due) (taken : ℕ) → batch' ≡ batch ++ d ∷ [] → length batch ≡ taken → length batch' ≡ taken + 1
one_longer batch batch' d taken kept count = ap (λ (ds : List Due). length ds) kept ∙ length-append batch (d ∷ []) ∙ ap (λ n. n + 1) count

-- What is given is a request.
pub given_asked : (answer : Option NodeEvent) (event : NodeEvent) → answer ≡ Some event → IfSome answer (λ e. is_asked e ≡ true) → is_asked event ≡ true
given_asked answer event is asks = subst (λ (o : Option NodeEvent). IfSome o (λ e. is_asked e ≡ true)) is asks

-- ---- the turns of a run

module _ (old mid new : Option (List (Option NodeEvent))) (batches : List (List Due)) (batch : List Due)
    (gave : Grows old mid (answers_to batches)) (took : Grows mid new (answers_of batch)) where
  -- The requests of one turn more.
  pub gave_turn : Grows old new (answers_to (batches ++ batch ∷ []))
  gave_turn = subst (λ (answers : List (Option NodeEvent)). Grows old new answers) (sym (answers_more batches batch))
      (grows_then old mid new (answers_to batches) (answers_of batch) gave took)

  -- None was taken behind them.
  pub gave_stopped : Grows old new (answers_to (batches ++ batch ∷ []) ++ [])
  gave_stopped = subst (λ (answers : List (Option NodeEvent)). Grows old new answers) (sym (append-nil (answers_to (batches ++ batch ∷ [])))) gave_turn

-- The log of a node to which no link comes, over a whole run.
-- It serves bsc_node_command.
use Rattle.std.proofs.Common.{◌≡◌, ◌-◌, ℕ, Bool, true, List, [], ◌∷◌, ◌++◌, Option, Some, None, refl, ap, sym, ◌∙◌, subst, append-nil, arith}
use Rattle.std.specs.List.{list_all}
use Rattle.bsc_edge.specs.declared.dialled.Dialled.{Dialled}
use Rattle.bsc_edge.specs.declared.said.Said.{Said}
use Rattle.bsc_edge.specs.Told.{Grows}
use Rattle.bsc_node.specs.Logs.{Made, Log}
use Rattle.bsc_node_run.specs.declared.due.Due.{Due}
use Rattle.bsc_node_run.specs.declared.run_end.RunEnd.{RunEnd}
use Rattle.bsc_node_run.specs.Requests.{is_asked}
use Rattle.bsc_node_run.specs.Worlds.{Admitting, Dialling, World}
use Rattle.bsc_node_run.specs.Running.{Turns, Run}
use Rattle.bsc_node_run.specs.Moments.{moment, run_moment}
use Rattle.bsc_node_laws.specs.Courses.{GoesAsDefined}
use Rattle.bsc_node_laws.specs.Alone.{Alone, turn, turns_from, due_by, not_due_by, alone, NoLinkCame}
use Rattle.bsc_node_laws.proofs.AloneBack.{LeadsTo, StillLeft, turns_back, turns_left}
use Rattle.bsc_node_laws.proofs.AloneActing.{NoneComes, Stands, stays}
use Rattle.bsc_node_laws.proofs.AloneTurning.{all_asked, first_events, turn_stands}

module _ {L : Type 0} (a : Made) (talk : L → Option (List Said)) (all : List Dialled) (links : List L) (listens : Bool) where
  -- Turns after the first, which was at this time.
  turns_stand : (start : ℕ) (times : List ℕ) (script : List Due) (n m : Log) (w v : World L) (door door' : Admitting L) (s : Alone)
      → all_asked script ≡ true → Turns (GoesAsDefined a) talk listens times (Some start) script (moment n w door) (moment m v door') → LeadsTo all v.dialled.calls
      → door.left ≡ Some links → StillLeft links door'.left → Stands all n w s → Stands all m v (turns_from a start script times s)
  turns_stand start [] script n m w v door door' s asked (e, same, k) later is still h = stays talk all n m w v s e same h
  turns_stand start (now ∷ times) script n m w v door door' s asked (rest, p, x, mid, going, t, k) later is still h =
      let done = turn_stands a talk all now (Some start) script rest listens n p w x door mid links s asked t
      (turns_back (GoesAsDefined a) talk all listens times (Some start) rest p m x v mid door' k later) is
      (turns_left (GoesAsDefined a) talk links listens times (Some start) rest p m x v mid door' k still) h in
      subst (λ (lines : List Due). Stands all m v (turns_from a start lines times (turn a now (first_events (Some start)) (due_by (now - start) script) s))) done.goes_on
      (turns_stand start times rest p m x v mid door' (turn a now (first_events (Some start)) (due_by (now - start) script) s) done.asked k later done.left still done.stands)

  -- No time has passed at the first turn.
  none_passed : (now : ℕ) → now - now ≡ 0
  none_passed now = omega arith

  -- All turns.
  run_stands : (times : List ℕ) (script : List Due) (m : Log) (w v : World L) (door door' : Admitting L) → all_asked script ≡ true
      → Turns (GoesAsDefined a) talk listens times None script (moment [] w door) (moment m v door') → LeadsTo all v.dialled.calls → door.left ≡ Some links → StillLeft links door'.left
      → Stands all [] w (record { log = []; failed = []; dialled = [] }) → m ≡ alone a script times
  run_stands [] script m w v door door' asked (e, same, k) later is still h = e
  run_stands (now ∷ times) script m w v door door' asked (rest, p, x, mid, going, t, k) later is still h =
      let begun : Alone = record { log = []; failed = []; dialled = [] } in
      let done = turn_stands a talk all now None script rest listens [] p w x door mid links begun asked t
      (turns_back (GoesAsDefined a) talk all listens times (Some now) rest p m x v mid door' k later) is
      (turns_left (GoesAsDefined a) talk links listens times (Some now) rest p m x v mid door' k still) h in
      let at : ℕ → Alone = λ passed. turn a now (first_events None) (due_by passed script) begun in
      let last = turns_stand now times rest p m x v mid door' (at (now - now)) done.asked k later done.left still done.stands in
      sym (subst (λ (passed : ℕ). (turns_from a now (not_due_by passed script) times (at passed)).log ≡ m) (none_passed now)
      (subst (λ (lines : List Due). (turns_from a now lines times (at (now - now))).log ≡ m) done.goes_on last.log))

-- The log of a node to which no link comes is the one that is worked out from the readings of the clock and its script alone.
pub lonely : {L : Type 0} (a : Made) (talk : L → Option (List Said)) (listens : Bool) (end : RunEnd) (turns : ℕ) (script : List Due)
    → list_all (λ (d : Due). is_asked d.event) script ≡ true
    → (c c' : Dialling L) (b b' : Option (List ℕ)) (l l' : Admitting L) (t t' : Option (List ℕ)) (M : Log)
    → Run (GoesAsDefined a) talk listens end turns script (run_moment [] c b l t) (run_moment M c' b' l' t') → NoLinkCame c.calls c'.calls l.left l'.left → (times : List ℕ)
    × Grows t t' times × (M ≡ alone a script times)
lonely {L = L} a talk listens end turns script asked c c' b b' l l' t t' M r none =
    let all : List Dialled = none.before ++ none.calls in (
      r.times,
      r.readings,
      run_stands a talk all none.links listens r.times script M r.first r.last l l' asked r.went
          (subst (LeadsTo all) (sym (ap (λ (d : Dialling L). d.calls) r.dials ∙ none.tells)) ([], sym (append-nil all))) none.arrived (none.links, none.stays, omega arith)
          (record {
            log = refl;
            link = r.empty.link;
            arrived = r.empty.arrived;
            due = r.empty.due;
            waiting = r.empty.waiting;
            calls = subst (NoneComes all) (sym (ap (λ (d : Dialling L). d.calls) r.empty.dialled ∙ none.told)) (none.calls, refl, none.none);
          }),
    )

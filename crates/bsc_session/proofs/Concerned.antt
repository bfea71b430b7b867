-- A reply wakes exactly whom it concerns.
-- It serves the clauses of `notices_are_the_sessions` and `wakes_whom_it_concerns`.
use Rattle.std.proofs.Common.{◌≡◌, ◌==◌, ◌||◌, ℕ, Bool, true, false, if◌then◌else◌, List, [], ◌∷◌, ◌++◌, map, Option, Some, None, is_some, refl, ap, sym, ◌∙◌, append-nil}
use Rattle.std.specs.List.{list_any}
use Rattle.bsc_history.specs.declared.ending.End.{End}
use Rattle.bsc_history.specs.declared.ending.End.TheVariants.{Full, Replaced}
use Rattle.bsc_history.specs.declared.entry.Entry.{Entry}
use Rattle.bsc_history.specs.declared.reply.Reply.{Reply}
use Rattle.bsc_history.specs.declared.reply.Reply.TheVariants.{Appended, Closed, Counted, Gone, Joined, NoHolder, NotCurrent, Refused, SentAll, Skipped, Stopped}
use Rattle.bsc_edge.specs.declared.notice.Notice.{Notice}
use Rattle.bsc_edge.specs.declared.notice.Notice.TheVariants.{Asked, Known, Woke}
use Rattle.bsc_session.specs.Answering.{entries_hearing}
use Rattle.bsc_session.specs.Concerned.{NoticesAreTheSessions, WakesWhomItConcerns, beside_receives, is_waking}
use Rattle.bsc_session.specs.Course.{all_turns, shares}
use Rattle.bsc_session.specs.Notices.{notices_after, notices_by, notices_in, notices_of}
use Rattle.bsc_session.specs.Receiving.{Hearing}
use Rattle.bsc_session.specs.Standings.{Standing, Terms, begun}
use Rattle.bsc_session.specs.Taking.{opened}
use Rattle.bsc_session.specs.Talk.{leaving}
use Rattle.bsc_session.specs.Turns.{Turn, after, entries_after, entries_in}
use Rattle.bsc_session.proofs.Notifying.{notices_append}

or_false : (b : Bool) → (b || false) ≡ b
or_false true = refl
or_false false = refl

ends_where : (b : Bool) (e : End) → (b || false) ≡ is_some (if b then Some e else None)
ends_where true e = refl
ends_where false e = refl

wakes_each : (c : ℕ) (to : List ℕ) → list_any (is_waking c) (map Woke to) ≡ list_any (λ k. k == c) to
wakes_each c [] = refl
wakes_each c (k ∷ to) = ap (λ b. (k == c) || b) (wakes_each c to)

pub wakes_whom_it_concerns : WakesWhomItConcerns
wakes_whom_it_concerns (Joined conn None) c = refl
wakes_whom_it_concerns (Joined conn (Some k)) c = ends_where (k == c) Replaced
wakes_whom_it_concerns (Refused r) c = refl
wakes_whom_it_concerns (Appended k) c = refl
wakes_whom_it_concerns (Closed k) c = ends_where (k == c) Full
wakes_whom_it_concerns (Skipped k) c = refl
wakes_whom_it_concerns NoHolder c = refl
wakes_whom_it_concerns (SentAll to missed skipped) c = rw (or_false (list_any (λ k. k == c) to)) (wakes_each c to)
wakes_whom_it_concerns (NotCurrent e) c = refl
wakes_whom_it_concerns Stopped c = refl
wakes_whom_it_concerns (Gone e taken) c = refl
wakes_whom_it_concerns (Counted k) c = refl

-- ---- what is told beside the receives

beside_append : (xs ys : List Notice) → beside_receives (xs ++ ys) ≡ beside_receives xs ++ beside_receives ys
beside_append [] ys = refl
beside_append (Asked ∷ xs) ys = beside_append xs ys
beside_append (Known c ∷ xs) ys = ap (λ n. Known c ∷ n) (beside_append xs ys)
beside_append (Woke c ∷ xs) ys = ap (λ n. Woke c ∷ n) (beside_append xs ys)

beside_wakes : (to : List ℕ) → beside_receives (map Woke to) ≡ map Woke to
beside_wakes [] = refl
beside_wakes (c ∷ to) = ap (λ n. Woke c ∷ n) (beside_wakes to)

-- no reply asks for anything
beside_by : (r : Reply) → beside_receives (notices_by r) ≡ notices_by r
beside_by (Joined conn None) = refl
beside_by (Joined conn (Some k)) = refl
beside_by (Refused r) = refl
beside_by (Appended k) = refl
beside_by (Closed k) = refl
beside_by (Skipped k) = refl
beside_by NoHolder = refl
beside_by (SentAll to missed skipped) = beside_wakes to
beside_by (NotCurrent e) = refl
beside_by Stopped = refl
beside_by (Gone e taken) = refl
beside_by (Counted k) = refl

beside_of : (E : List Entry) → beside_receives (notices_of E) ≡ notices_of E
beside_of [] = refl
beside_of (e ∷ E) = beside_append (notices_by e.reply) (notices_of E) ∙ ap (λ n. n ++ beside_receives (notices_of E)) (beside_by e.reply) ∙ ap (λ n. notices_by e.reply ++ n) (beside_of E)

beside_after : (v : Terms) (s : Standing) (now : ℕ) (h : Option Hearing) → beside_receives (notices_after v s now h) ≡ notices_of (entries_after v s now h)
beside_after v s now None = refl
beside_after v s now (Some h) = beside_of (entries_hearing v s now h)

beside_turns : (v : Terms) (s : Standing) (ts : List Turn) → beside_receives (shares notices_in v s ts) ≡ notices_of (shares entries_in v s ts)
beside_turns v s [] = refl
beside_turns v s (t ∷ ts) =
    beside_append (notices_in v s t) (shares notices_in v (after v s t) ts)
    ∙ (ap (λ n. n ++ beside_receives (shares notices_in v (after v s t) ts)) (beside_after v (opened s t.opening) t.opening.reading t.hearing)
    ∙ (ap (λ n. notices_of (entries_in v s t) ++ n) (beside_turns v (after v s t) ts)
    ∙ sym (notices_append (entries_in v s t) (shares entries_in v (after v s t) ts))))

leaving_wakes_nobody : (caller : ℕ) (conn : Option ℕ) (taken empties : ℕ) (e : End) → notices_of (leaving caller conn taken empties e) ≡ []
leaving_wakes_nobody caller None taken empties e = refl
leaving_wakes_nobody caller (Some c) taken empties e = refl

pub notices_are_the_sessions : NoticesAreTheSessions
notices_are_the_sessions v T R E frames ended s =
    let made : List Entry = shares entries_in v begun (all_turns s.course) in
    let left : List Entry = leaving v.caller ended.conn ended.taken ended.empties s.reply in
    let all : notices_of (made ++ left) ≡ notices_of made =
    notices_append made left ∙ (ap (λ n. notices_of made ++ n) (leaving_wakes_nobody v.caller ended.conn ended.taken ended.empties s.reply) ∙ append-nil (notices_of made)) in
    beside_turns v begun (all_turns s.course) ∙ sym (ap (λ (x : List Entry). notices_of x) s.entries ∙ all)

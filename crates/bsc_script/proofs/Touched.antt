-- What an entry does to the outboxes of connections: those that its reply doesn't touch gain no frame and no End.
-- It serves clauses of functions of `script_hub`.
use Rattle.std.proofs.Common.{◌≡◌, ℕ, ◌==◌, Bool, true, false, cond, ◌&&◌, List, [], ◌∷◌, ◌++◌, Some, None, refl, ap, sym, ◌∙◌, append-nil}
use Rattle.std.proofs.lemmas.Bool.{eqb-true, and_parts, or_parts}
use Rattle.bsc_history.specs.declared.limits.About.{About}
use Rattle.bsc_history.specs.declared.call.Call.{Call}
use Rattle.bsc_history.specs.declared.call.Call.TheVariants.{Connect, Forward, Leave, Stop, Count}
use Rattle.bsc_history.specs.declared.entry.Entry.{Entry}
use Rattle.bsc_history.specs.declared.reply.Reply.{Reply}
use Rattle.bsc_history.specs.declared.reply.Reply.TheVariants.{Joined, Refused, Appended, Closed, Skipped, NoHolder, SentAll, NotCurrent, Stopped, Gone, Counted}
use Rattle.bsc_history.specs.Entries.{is_stop, moment}
use Rattle.bsc_history.specs.Ends.{end_by_call, end_by_reply, ended, is_leave, leaves}
use Rattle.bsc_history.specs.Legality.{Lawful, Legal, is_of}
use Rattle.bsc_history.specs.Laws.{is_among, names}
use Rattle.bsc_history.specs.Outboxes.{added_by, out_of, sent}
use Rattle.bsc_history.proofs.Lifting.{stays}
use Rattle.bsc_history.proofs.More.{ended-same, sent-more}
use Rattle.bsc_history.proofs.Named.{adds_as_named}
use Rattle.bsc_script.specs.Touching.{touched}

-- ---- what a reply says

-- a reply that doesn't touch c names it for no frame, and doesn't end it
unnamed : (c : ℕ) (r : Reply) → is_among c (touched r) ≡ false → names c r ≡ false
unnamed c (Joined conn replaced) h = refl
unnamed c (Refused refusal) h = refl
unnamed c (Appended conn) h = (or_parts (conn == c) false h).0
unnamed c (Closed conn) h = refl
unnamed c (Skipped conn) h = refl
unnamed c NoHolder h = refl
unnamed c (SentAll to missed skipped) h = h
unnamed c (NotCurrent ending) h = refl
unnamed c Stopped h = refl
unnamed c (Gone ending taken) h = refl
unnamed c (Counted k) h = refl

unended : (c : ℕ) (r : Reply) → is_among c (touched r) ≡ false → end_by_reply c r ≡ None
unended c (Joined conn None) h = refl
unended c (Joined conn (Some k)) h = rw (or_parts (k == c) false h).0 refl
unended c (Refused refusal) h = refl
unended c (Appended conn) h = refl
unended c (Closed conn) h = rw (or_parts (conn == c) false h).0 refl
unended c (Skipped conn) h = refl
unended c NoHolder h = refl
unended c (SentAll to missed skipped) h = refl
unended c (NotCurrent ending) h = refl
unended c Stopped h = refl
unended c (Gone ending taken) h = refl
unended c (Counted k) h = refl

by_call : (c : ℕ) (call : Call) → is_stop call ≡ false → is_leave c call ≡ false → end_by_call c call ≡ None
by_call c (Connect who) s l = refl
by_call c (Forward sender m) s l = refl
by_call c (Leave conn taken empties) s l = rw l refl
by_call c Stop s l = cc
by_call c Count s l = refl

-- ---- who isn't touched

-- Nothing enters the outbox of c by an entry whose reply doesn't touch c.
pub sent_same : (a : About) (H : List Entry) (e : Entry) (c : ℕ) → Legal a H → Lawful a (moment H e) → is_among c (touched e.reply) ≡ false → sent a (H ++ e ∷ []) c ≡ sent a H c
unfolding added_by
sent_same a H e c legal lawful un =
    let none = λ (call : Call). added_by a H (sent a H c) c call e.looks ≡ [] in
    let by : (call : Call) → e.call ≡ call → none call = λ call. elim call as (λ call. e.call ≡ call → none call) [
      | Connect who ↦ λ is. refl
      | Forward sender m ↦ λ is. sym (ap (λ (x : Call). added_by a H (sent a H c) c x e.looks) is) ∙ adds_as_named a H legal e sender m c lawful is
          ∙ ap (λ (b : Bool). cond b (out_of H sender m ∷ []) []) (unnamed c e.reply un)
      | Leave conn taken empties ↦ λ is. refl
      | Stop ↦ λ is. refl
      | Count ↦ λ is. refl
    ] in
    sent-more a H e c ∙ ap (λ (l : List (List ℕ)). sent a H c ++ l) (by e.call refl) ∙ append-nil (sent a H c)

-- And c doesn't end by it, unless it is a Stop, or the Leave of c.
pub ended_same : (H : List Entry) (e : Entry) (c : ℕ) → is_stop e.call ≡ false → leaves c e ≡ false → is_among c (touched e.reply) ≡ false → ended (H ++ e ∷ []) c ≡ ended H c
ended_same H e c s l un = ended-same H e c (rw (by_call c e.call s l, unended c e.reply un) refl)

-- Who hasn't left stays the caller's own by an entry that isn't its Leave.
pub is_of_same : (a : About) (H : List Entry) (e : Entry) (p c : ℕ) → Legal a H → Lawful a (moment H e) → leaves c e ≡ false → is_of H p c ≡ true → is_of (H ++ e ∷ []) p c ≡ true
is_of_same a H e p c legal lawful l h = stays a p c (λ x. (x.number == c) && (x.caller == p))
    (λ x k. (let two = and_parts (x.number == c) (x.caller == p) k in (eqb-true x.caller p two.1, eqb-true x.number c two.0))) H e legal lawful (λ mine. l) h

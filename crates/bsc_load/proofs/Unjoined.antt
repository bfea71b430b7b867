-- A connect that didn't join, and histories that grow.
-- It serves clauses of functions of `passes`, `storm`, `worker` and `workload`.
use Rattle.std.proofs.Common.{◌≡◌, ◌≢◌, ◌≤◌, ◌+◌, inl, inr, ℕ, true, List, [], ◌∷◌, ◌++◌, length, take, drop, None, Result, Err, refl, ap, sym, ◌∙◌, arith, append_assoc, take-append-drop}
use Rattle.std.specs.Prelude.{◌⊎◌, nat_le}
use Rattle.std.proofs.lemmas.Bool.{leb-true}
use Rattle.std.proofs.Math.Seq.{take-append_seam}
use Rattle.bsc_octets.specs.declared.identity.Identity.{Identity}
use Rattle.bsc_history.specs.declared.call.Call.TheVariants.{Connect}
use Rattle.bsc_history.specs.declared.entry.Entry.{Entry}
use Rattle.bsc_history.specs.declared.limits.About.{About}
use Rattle.bsc_history.specs.declared.mark.Stamped.{Stamped}
use Rattle.bsc_history.specs.Ends.{joined_where}
use Rattle.bsc_history.specs.Marks.{entries}
use Rattle.bsc_history.specs.Outboxes.{sent}
use Rattle.bsc_history.specs.Replies.{connect_reply, numbers}
use Rattle.bsc_turn.specs.declared.pass.Pass.{Pass}
use Rattle.bsc_turn.specs.Histories.{StartsWith}
use Rattle.bsc_turn.specs.Passes.{number_of, seen}
use Rattle.bsc_desk.specs.Entries.{connect_due}
use Rattle.bsc_hub.specs.declared.hub.Hub.{Hub}
use Rattle.bsc_hub.specs.declared.joined.ConnectRefusal.{ConnectRefusal}
use Rattle.bsc_hub.specs.declared.joined.ConnectRefusal.TheVariants.{NoMemory as NoMemoryRefusal, Worn as WornRefusal, Refused}
use Rattle.bsc_hub.specs.declared.joined.Joined.{Joined}
use Rattle.bsc_hub.specs.Calls.{connect_made, connect_told, refused_stamped}
use Rattle.bsc_hub.specs.Passing.{IsCaller, IsOwnAs, Passed, about_of, found_history}
use Rattle.bsc_hub.proofs.Guarding.{parts}
use Rattle.bsc_hub.proofs.Staying.{connect_stays}
use Rattle.bsc_load.specs.declared.jobs.Cut.{Cut}
use Rattle.bsc_load.specs.declared.jobs.Cut.TheVariants.{NoMemory, Short}
use Rattle.bsc_load.specs.Inner.{AreFirst, CutBoth, LoadWorkerRuns, ShowsBy, Unjoined, cut_of}
use Rattle.bsc_load.specs.Peers.{receiver, sender}
use Rattle.bsc_load.specs.Workers.{calls}
use Rattle.bsc_load.proofs.Going.{goes_none, goes_one, holds_by}
use Rattle.bsc_history.proofs.Parts.{sent_grows}
use Rattle.bsc_history.proofs.Common.{due_none as worn_where}

-- the first of what entered an outbox are the first by each longer history
pub first_later : (a : About) (S T : List Stamped) (c : ℕ) (frames : List (List ℕ)) → StartsWith T S → AreFirst a S c frames → AreFirst a T c frames
first_later a S T c frames begins are =
    let all = sent a (entries S) c in
    let rest = drop (length frames) all in
    let later = sent_grows a (entries S) (entries begins.0) c in
    let split : all ≡ frames ++ rest = sym (take-append-drop (length frames) all) ∙ ap (λ (l : List (List ℕ)). l ++ rest) (sym are) in
    let whole : sent a (entries T) c ≡ frames ++ (rest ++ later.0) = ap (λ H. sent a H c) (parts S T begins) ∙ later.1 ∙ ap (λ (l : List (List ℕ)). l ++ later.0) split
    ∙ append_assoc frames rest later.0 in
    sym (ap (take (length frames)) whole ∙ take-append_seam frames (rest ++ later.0))

-- the sign of fewer entries is that of more
pub shows_more : (h : Hub) (n m : ℕ) (S : List Stamped) (E : List Entry) (cut : Cut) → n ≤ m → ShowsBy n h S E cut → ShowsBy m h S E cut
shows_more h n m S E NoMemory few so = tt
shows_more h n m S E Short few so =
    elim so [
      | inl refused ↦ inl refused
      | inr worn ↦ inr (omega (arith, few, worn.0), worn.1)
    ]

-- a connect that found memory for an outbox
abbrev pub FoundRoom : Result Joined ConnectRefusal → Type 0
FoundRoom r = r ≢ Err NoMemoryRefusal

pub unjoined : (h : Hub) (p q : Pass) (who : Identity) (refusal : ConnectRefusal) → IsCaller h p → Passed h p [] (connect_made (number_of p) who (Err refusal)) q →
    (FoundRoom (Err refusal) → connect_told (Err refusal) ≡ connect_due (about_of h) (found_history (connect_made (number_of p) who (Err refusal)) q) who) → Unjoined h who p q (cut_of refusal)
unfolding joined_where
unjoined h p q who NoMemoryRefusal is x due = record {
  made = [];
  calls = inl refl;
  quiet = refl;
  goes = goes_none h p q x;
  holds = holds_by h p q None is x (connect_stays (number_of p) who (Err NoMemoryRefusal));
  shows = tt;
}
unjoined h p q who (WornRefusal worn) is x due =
    let told : None ≡ connect_due (about_of h) (entries (seen q)) who = due (λ same. cc) in
    let limit : nat_le (about_of h).limits.calls (length (entries (seen q))) ≡ true =
    worn_where (nat_le (about_of h).limits.calls (length (entries (seen q)))) (connect_reply (about_of h) (entries (seen q)) who) told in
    record {
      made = [];
      calls = inl refl;
      quiet = refl;
      goes = goes_none h p q x;
      holds = holds_by h p q None is x (connect_stays (number_of p) who (Err (WornRefusal worn)));
      shows = inr (omega arith, leb-true (about_of h).limits.calls (length (entries (seen q))) limit);
    }
unjoined h p q who (Refused at refusal) is x due = record {
  made = (refused_stamped (number_of p) who refusal).entry ∷ [];
  calls = inr refl;
  quiet = refl;
  goes = goes_one h p q _ x;
  holds = holds_by h p q (connect_made (number_of p) who (Err (Refused at refusal))) is x (connect_stays (number_of p) who (Err (Refused at refusal)));
  shows = inl refl;
}

-- a connect that didn't join was asked for, or not
pub asked_or_not : (E : List Entry) (who : Identity) → (calls E ≡ []) ⊎ (calls E ≡ Connect who ∷ []) → (n : ℕ) × (n ≤ 1) × (calls E ≡ take n (Connect who ∷ []))
asked_or_not E who so = elim so [ inl none ↦ (0, omega arith, none) | inr one ↦ (1, omega arith, one) ]

-- a receiver that didn't join
pub both_unjoined : (h : Hub) (i s : ℕ) (p q : Pass) (cut : Cut) → IsOwnAs p s (sender i).vmac → Unjoined h (receiver i) p q cut → CutBoth h i s p q cut
both_unjoined h i s p q cut owns u =
    let asked = asked_or_not u.made (receiver i) u.calls in
    record {
      who = [];
      more = asked.0;
      taken = 0;
      empties = 0;
      made = u.made;
      calls = asked.2;
      joined = ap numbers u.quiet;
      goes = u.goes;
      owns = u.holds s (sender i).vmac owns;
      shows = shows_more h 1 1002 (seen q) u.made cut (omega arith) u.shows;
      emptied = tt;
    }

-- a sender that didn't join
pub runs_unjoined : (h : Hub) (i : ℕ) (p q : Pass) (cut : Cut) → Unjoined h (sender i) p q cut → LoadWorkerRuns h i p q (Err cut)
runs_unjoined h i p q cut u =
    let asked = asked_or_not u.made (sender i) u.calls in (
      u.made,
      u.goes,
      (
        record { who = []; more = asked.0; taken = 0; empties = 0; calls = asked.2; joined = ap numbers u.quiet; emptied = tt },
        shows_more h 1 1004 (seen q) u.made cut (omega arith) u.shows,
      ),
    )

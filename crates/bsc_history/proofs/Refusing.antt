-- A connect that is refused changes nothing but its entry and its count.
-- It serves the clauses of `refusal_changes_none`.
use Rattle.std.proofs.Common.{◌≡◌, ℕ, ◌+◌, List, [], ◌∷◌, ◌++◌, map, fold, None, refl, ap, ◌∙◌, append-nil}
use Rattle.std.proofs.Math.Nat.{add-zero}
use Rattle.bsc_history.specs.declared.limits.About.{About}
use Rattle.bsc_history.specs.declared.call.Call.{Call}
use Rattle.bsc_history.specs.declared.call.Call.TheVariants.{Connect}
use Rattle.bsc_history.specs.declared.counts.Counts.{Counts}
use Rattle.bsc_history.specs.declared.entry.Entry.{Entry}
use Rattle.bsc_history.specs.declared.looks.Look.{Look}
use Rattle.bsc_history.specs.declared.reply.Reply.TheVariants.{Refused}
use Rattle.bsc_history.specs.Entries.{connection_of}
use Rattle.bsc_history.specs.Ends.{end_by, leaves}
use Rattle.bsc_history.specs.Outboxes.{added_by, looked, newer, sent}
use Rattle.bsc_history.specs.Counting.{counts, counts_of, plus}
use Rattle.bsc_history.specs.Legality.{looks_at}
use Rattle.bsc_history.specs.Laws.{RefusalChangesNone}
use Rattle.bsc_history.proofs.More.{counts-more, ended-same, live-same, looked-more, sent-more, unleft-same}

no_looks : (looks : List Look) → map (λ k. k.conn) looks ≡ [] → looks ≡ []
no_looks [] h = refl
no_looks (k ∷ ks) h = cc

-- the counts with one refused connect more
one_more : (k : Counts) → plus k (record { joined = 0; replaced = 0; refused = 1; unicasts = 0; broadcasts = 0; appended = 0; dropped = 0; full = 0; missed = 0 })
    ≡ record k { refused = k.refused + 1 }
one_more k = λ i. record {
  joined = add-zero k.joined i;
  replaced = add-zero k.replaced i;
  refused = k.refused + 1;
  unicasts = add-zero k.unicasts i;
  broadcasts = add-zero k.broadcasts i;
  appended = add-zero k.appended i;
  dropped = add-zero k.dropped i;
  full = add-zero k.full i;
  missed = add-zero k.missed i;
}

pub refusal_changes_none : (a : About) (H : List Entry) → RefusalChangesNone a H
unfolding added_by
refusal_changes_none a H e who refusal is said =
    let it : e ≡ record { caller = e.caller; call = Connect who; looks = e.looks; reply = Refused refusal } = (λ i. record { caller = e.caller; call = is i; looks = e.looks; reply = said i }) in
    let none : connection_of e ≡ None = ap (λ (x : Entry). connection_of x) it in
    let ends : (c : ℕ) → end_by c e ≡ None = λ c. ap (λ (x : Entry). end_by c x) it in (
      live-same H e none ends,
      unleft-same H e none (λ c. ap (λ (x : Entry). leaves c x) it),
      λ c. ended-same H e c (ends c),
      λ c. sent-more a H e c ∙ ap (λ (call : Call). sent a H c ++ added_by a H (sent a H c) c call e.looks) is ∙ append-nil (sent a H c),
      λ lawful c. looked-more H e c ∙ ap (fold (newer c) (looked H c)) (no_looks e.looks (lawful.named ∙ ap (looks_at H) is)),
      counts-more H e ∙ ap (λ (x : Entry). plus (counts H) (counts_of x)) it ∙ one_more (counts H),
    )

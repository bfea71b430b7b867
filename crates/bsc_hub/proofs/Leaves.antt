-- A leave puts nothing into an outbox.
-- It serves the clauses of `leave`.
use Rattle.std.proofs.Common.{◌≡◌, ℕ, List, [], ◌∷◌, ◌++◌, ap, ◌∙◌, append-nil, refl}
use Rattle.bsc_history.specs.declared.entry.Entry.{Entry}
use Rattle.bsc_history.specs.declared.limits.About.{About}
use Rattle.bsc_history.specs.declared.mark.Stamped.{Stamped}
use Rattle.bsc_history.specs.Entries.{moment}
use Rattle.bsc_history.specs.Marks.{entries}
use Rattle.bsc_history.specs.Outboxes.{added, added_by, sent}
use Rattle.bsc_history.proofs.More.{entries-more, sent-more}
use Rattle.bsc_desk.specs.declared.leaving.Gone.{Gone}
use Rattle.bsc_hub.specs.Calls.{leave_stamped}

none_added : (a : About) (G : List Entry) (n conn empties : ℕ) (gone : Gone) (entered : List (List ℕ)) (c : ℕ) → added a (moment G (leave_stamped n conn empties gone).entry) entered c ≡ []
unfolding added_by
none_added a G n conn empties gone entered c = refl

pub sent_left : (a : About) (S : List Stamped) (n conn empties : ℕ) (gone : Gone) (c : ℕ) → sent a (entries (S ++ leave_stamped n conn empties gone ∷ [])) c ≡ sent a (entries S) c
sent_left a S n conn empties gone c =
    let e = (leave_stamped n conn empties gone).entry in
    ap (λ (G : List Entry). sent a G c) (entries-more S (leave_stamped n conn empties gone)) ∙ sent-more a (entries S) e c
    ∙ ap (λ (l : List (List ℕ)). sent a (entries S) c ++ l) (none_added a (entries S) n conn empties gone (sent a (entries S) c) c) ∙ append-nil (sent a (entries S) c)

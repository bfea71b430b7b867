-- Which calls leave a caller's connection its own: all but its leave.
-- It serves bsc_load, bsc_session and test_hub.
use Rattle.std.proofs.Common.{◌≢◌, ℕ, ◌==◌, List, refl}
use Rattle.std.specs.Prelude.{Result, Ok, Err}
use Rattle.std.proofs.lemmas.Bool.{eqb-true, false_from_ne_true}
use Rattle.bsc_octets.specs.declared.identity.Identity.{Identity}
use Rattle.bsc_history.specs.declared.told.Told.{Told}
use Rattle.bsc_history.specs.declared.told.Worn.{Worn}
use Rattle.bsc_desk.specs.declared.broadcasting.AllRefusal.{AllRefusal}
use Rattle.bsc_desk.specs.declared.broadcasting.AllReply.{AllReply}
use Rattle.bsc_desk.specs.declared.forwarding.OneReply.{OneReply}
use Rattle.bsc_desk.specs.declared.leaving.Gone.{Gone}
use Rattle.bsc_hub.specs.declared.joined.ConnectRefusal.{ConnectRefusal}
use Rattle.bsc_hub.specs.declared.joined.ConnectRefusal.TheVariants.{NoMemory, Worn as WornRefusal, Refused}
use Rattle.bsc_hub.specs.declared.joined.Joined.{Joined}
use Rattle.bsc_hub.specs.Calls.{all_made, connect_made, leave_made, one_made}
use Rattle.bsc_hub.specs.Passing.{StaysBy}

pub connect_stays : (n : ℕ) (who : Identity) (r : Result Joined ConnectRefusal) (c : ℕ) → StaysBy (connect_made n who r) c
connect_stays n who (Ok j) c = refl
connect_stays n who (Err NoMemory) c = tt
connect_stays n who (Err (WornRefusal worn)) c = tt
connect_stays n who (Err (Refused at refusal)) c = refl

pub one_stays : (n conn : ℕ) (m : List ℕ) (r : Result (Told OneReply) Worn) (c : ℕ) → StaysBy (one_made n conn m r) c
one_stays n conn m (Ok t) c = refl
one_stays n conn m (Err worn) c = tt

pub all_stays : (n conn : ℕ) (m : List ℕ) (r : Result (Told AllReply) AllRefusal) (c : ℕ) → StaysBy (all_made n conn m r) c
all_stays n conn m (Ok t) c = refl
all_stays n conn m (Err refusal) c = tt

-- the leave of another
pub leave_stays : (n conn empties : ℕ) (t : Told Gone) (c : ℕ) → conn ≢ c → StaysBy (leave_made n conn empties t) c
leave_stays n conn empties t c other = false_from_ne_true (conn == c) (λ is. other (eqb-true conn c is))

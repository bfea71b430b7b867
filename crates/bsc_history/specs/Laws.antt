-- What holds of every legal history.
use Rattle.std.specs.Prelude.{◌≡◌, ◌≢◌, ◌≤◌, ◌+◌, ◌⊎◌, ℕ, ◌==◌, Bool, false, not, ◌&&◌, is_none, if◌then◌else◌, count_by, List, [], ◌∷◌}
use Rattle.std.specs.Prelude.{◌++◌, length, Option, Some, IsTrue, ⊤}
use Rattle.std.specs.List.{AllByRecursion, list_any, range_with_len}
use Rattle.bsc_octets.specs.declared.identity.Identity.{Identity}
use Rattle.bsc_octets.specs.Forwarding.{destination, is_broadcast, out}
use Rattle.bsc_history.specs.declared.limits.About.{About}
use Rattle.bsc_history.specs.declared.ending.End.{End}
use Rattle.bsc_history.specs.declared.ending.End.TheVariants.{Left, Replaced, Full, Stopped}
use Rattle.bsc_history.specs.declared.entry.Entry.{Entry}
use Rattle.bsc_history.specs.declared.call.Call.TheVariants.{Connect, Forward, Leave, Stop}
use Rattle.bsc_history.specs.declared.reply.Refusal.{Refusal}
use Rattle.bsc_history.specs.declared.reply.Reply.{Reply}
use Rattle.bsc_history.specs.declared.reply.Reply.TheVariants.{Joined, Refused, Appended, Closed, SentAll}
use Rattle.bsc_history.specs.declared.connection.Connection.{Connection}
use Rattle.bsc_history.specs.Entries.{joins, moment}
use Rattle.bsc_history.specs.Ends.{ended, is_live, joined, live, numbered, unleft}
use Rattle.bsc_history.specs.Holders.{holder, of_device}
use Rattle.bsc_history.specs.Outboxes.{added, is_found_full, is_too_long, looked, out_of, sent, vmac_of}
use Rattle.bsc_history.specs.Counting.{counts}
use Rattle.bsc_history.specs.Replies.{number_of, numbers}
use Rattle.bsc_history.specs.Legality.{Lawful}

-- no two of the elements agree in f
abbrev pub Apart : {A B : Type 0} → (A → B) → List A → Type 0
Apart f [] = ⊤
Apart f (x ∷ xs) = AllByRecursion (λ y. f x ≢ f y) xs × Apart f xs

-- Connections are numbered from 1, in the order of joining.
abbrev pub NumbersInOrder : List Entry → Type 0
NumbersInOrder H = numbers (joined H) ≡ range_with_len 1 (length (joined H))

-- No two connections that haven't left have the same number.
abbrev pub NumbersAreNew : List Entry → Type 0
NumbersAreNew H = Apart (λ (c : Connection). c.number) (unleft H)

-- No two live connections have the same address, so the holder of one is the only one to hold it.
abbrev pub OneHolder : List Entry → Type 0
OneHolder H = Apart (λ (c : Connection). c.who.vmac) (live H)

-- No two live connections have the same device.
abbrev pub OneOfDevice : List Entry → Type 0
OneOfDevice H = Apart (λ (c : Connection). c.who.device) (live H)

-- By the entry e the outbox of c gains the octets o, once and behind all that had entered it.
abbrev pub Gains : About → List Entry → Entry → ℕ → List ℕ → Type 0
Gains a H e c o = sent a (H ++ e ∷ []) c ≡ sent a H c ++ o ∷ []

-- A unicast of a live sender joins, under the sender's address, the outbox of its destination's holder, unless it is
-- too long for the holder or a look finds the outbox full.
abbrev pub UnicastJoins : About → List Entry → Type 0
UnicastJoins a H = (e : Entry) (sender : ℕ) (m : List ℕ) (x : Connection) →
    e.call ≡ Forward sender m → is_broadcast m ≡ false →
    IsTrue (is_live H sender) → holder H (destination m) ≡ Some x →
    is_too_long (out_of H sender m) x ≡ false → is_found_full a (sent a H x.number) e.looks x.number ≡ false →
    Gains a H e x.number (out m (vmac_of H sender))

-- An outbox that changes by a unicast is that of its destination's holder, and gains the frame under the sender's
-- address.
abbrev pub UnicastToHolderAlone : About → List Entry → Type 0
UnicastToHolderAlone a H = (e : Entry) (sender : ℕ) (m : List ℕ) (c : ℕ) →
    e.call ≡ Forward sender m → is_broadcast m ≡ false →
    sent a (H ++ e ∷ []) c ≢ sent a H c →
    (number_of (holder H (destination m)) ≡ Some c) × Gains a H e c (out m (vmac_of H sender))

-- A broadcast of a live sender joins, under the sender's address, the outbox of each live connection but the sender,
-- unless it is too long for that one or a look finds the outbox full.
abbrev pub BroadcastJoins : About → List Entry → Type 0
BroadcastJoins a H = (e : Entry) (sender : ℕ) (m : List ℕ) (x : Connection) →
    e.call ≡ Forward sender m → IsTrue (is_broadcast m) →
    IsTrue (is_live H sender) → numbered x.number (live H) ≡ Some x → x.number ≢ sender →
    is_too_long (out_of H sender m) x ≡ false → is_found_full a (sent a H x.number) e.looks x.number ≡ false →
    Gains a H e x.number (out m (vmac_of H sender))

-- An outbox that changes by a broadcast is that of a live connection other than the sender, and gains the frame under
-- the sender's address.
abbrev pub BroadcastToOthersAlone : About → List Entry → Type 0
BroadcastToOthersAlone a H = (e : Entry) (sender : ℕ) (m : List ℕ) (c : ℕ) →
    e.call ≡ Forward sender m → IsTrue (is_broadcast m) →
    sent a (H ++ e ∷ []) c ≢ sent a H c →
    IsTrue (is_live H c) × (c ≢ sender) × Gains a H e c (out m (vmac_of H sender))

-- By one entry an outbox stays as it is, or gains one frame.
abbrev pub AddsOnce : About → List Entry → Type 0
AddsOnce a H = (e : Entry) (c : ℕ) → (sent a (H ++ e ∷ []) c ≡ sent a H c) ⊎ ((frame : List ℕ) × Gains a H e c frame)

-- whether c is among some numbers
abbrev pub is_among : ℕ → List ℕ → Bool
is_among c ks = list_any (λ k. k == c) ks

-- whether a reply names c as appended to
abbrev pub names : ℕ → Reply → Bool
names c (Appended conn) = conn == c
names c (SentAll to missed skipped) = is_among c to
names c reply = false

-- A connection whose outbox a lawful unicast finds full holds its destination. It ends as Full, and every outbox
-- stays as it is.
abbrev pub FullCloses : About → List Entry → Type 0
FullCloses a H = (e : Entry) (sender : ℕ) (m : List ℕ) (c : ℕ) →
    Lawful a (moment H e) → e.call ≡ Forward sender m → is_broadcast m ≡ false →
    IsTrue (is_found_full a (sent a H c) e.looks c) →
    (number_of (holder H (destination m)) ≡ Some c)
    × (ended (H ++ e ∷ []) c ≡ Some Full)
    × ((k : ℕ) → sent a (H ++ e ∷ []) k ≡ sent a H k)

-- whether a reply names c as missed
abbrev pub names_missed : ℕ → Reply → Bool
names_missed c (SentAll to missed skipped) = is_among c missed
names_missed c reply = false

-- A connection whose outbox a lawful broadcast finds full is named as missed, and its outbox stays as it is. Nobody
-- ends by the broadcast, and nobody joins.
abbrev pub FullMisses : About → List Entry → Type 0
FullMisses a H = (e : Entry) (sender : ℕ) (m : List ℕ) (c : ℕ) →
    Lawful a (moment H e) → e.call ≡ Forward sender m → IsTrue (is_broadcast m) →
    IsTrue (is_found_full a (sent a H c) e.looks c) →
    IsTrue (names_missed c e.reply)
    × (sent a (H ++ e ∷ []) c ≡ sent a H c)
    × (live (H ++ e ∷ []) ≡ live H)
    × ((k : ℕ) → ended (H ++ e ∷ []) k ≡ ended H k)

-- In the three lists of a broadcast's lawful reply together, each live connection but the sender stands once, and
-- nobody else stands at all.
abbrev pub OneOfThree : About → List Entry → Type 0
OneOfThree a H = (e : Entry) (sender : ℕ) (m to missed skipped : List ℕ) (c : ℕ) →
    Lawful a (moment H e) → e.call ≡ Forward sender m → e.reply ≡ SentAll to missed skipped →
    count_by (λ k. k == c) (to ++ missed ++ skipped) ≡ (if is_live H c && not (c == sender) then 1 else 0)

-- Nothing enters the outbox of a connection that has ended, whatever the next entry is.
abbrev pub NoneAfterEnd : About → List Entry → Type 0
NoneAfterEnd a H = (c : ℕ) (ending : End) (e : Entry) → ended H c ≡ Some ending → sent a (H ++ e ∷ []) c ≡ sent a H c

-- Who joins is then the holder of its address, and what it replaced is its device's live connection, which then has
-- ended as Replaced.
abbrev pub JoinTakesOver : About → List Entry → Type 0
JoinTakesOver a H = (e : Entry) (who : Identity) (c : ℕ) (replaced : Option ℕ) →
    Lawful a (moment H e) → e.call ≡ Connect who → e.reply ≡ Joined c replaced →
    (number_of (holder (H ++ e ∷ []) who.vmac) ≡ Some c)
    × (replaced ≡ number_of (of_device H who.device))
    × ((k : ℕ) → replaced ≡ Some k → ended (H ++ e ∷ []) k ≡ Some Replaced)

-- A connect that is refused changes nothing but its entry and its count: who is live, who hasn't left, how each
-- connection ended and what entered each outbox are as before, and so is each newest look, where the entry is lawful.
abbrev pub RefusalChangesNone : About → List Entry → Type 0
RefusalChangesNone a H = (e : Entry) (who : Identity) (refusal : Refusal) →
    e.call ≡ Connect who → e.reply ≡ Refused refusal →
    (live (H ++ e ∷ []) ≡ live H)
    × (unleft (H ++ e ∷ []) ≡ unleft H)
    × ((c : ℕ) → ended (H ++ e ∷ []) c ≡ ended H c)
    × ((c : ℕ) → sent a (H ++ e ∷ []) c ≡ sent a H c)
    × (Lawful a (moment H e) → (c : ℕ) → looked (H ++ e ∷ []) c ≡ looked H c)
    × (counts (H ++ e ∷ []) ≡ record (counts H) { refused = (counts H).refused + 1 })

-- An End, once it stands, stands in every longer history, with the same cause.
abbrev pub EndStays : List Entry → Type 0
EndStays H = (c : ℕ) (ending : End) (more : List Entry) → ended H c ≡ Some ending → ended (H ++ more) c ≡ Some ending

-- What the entry is that ends c: its own Leave, a Connect that took over from it, a unicast that found its outbox
-- full, or the Stop.
abbrev pub IsCause : ℕ → End → Entry → Type 0
IsCause c Left e = (taken : ℕ) × (empties : ℕ) × (e.call ≡ Leave c taken empties)
IsCause c Replaced e = (who : Identity) × (n : ℕ) × (e.call ≡ Connect who) × (e.reply ≡ Joined n (Some c))
IsCause c Full e =
    (sender : ℕ) × (m : List ℕ) × (e.call ≡ Forward sender m) × (is_broadcast m ≡ false) × (e.reply ≡ Closed c)
IsCause c Stopped e = e.call ≡ Stop

-- A connection that has ended was live until one entry, and that entry is the cause of its End.
abbrev pub EndsByCause : List Entry → Type 0
EndsByCause H = (c : ℕ) (ending : End) → ended H c ≡ Some ending →
    (before : List Entry) × (e : Entry) × (after : List Entry) ×
    (H ≡ before ++ e ∷ after) × IsTrue (is_live before c) × IsCause c ending e

-- A Forward adds its frame to the outboxes that its reply names, and to no other.
abbrev pub AddsAsNamed : About → List Entry → Type 0
AddsAsNamed a H = (e : Entry) (sender : ℕ) (m : List ℕ) (c : ℕ) →
    Lawful a (moment H e) → e.call ≡ Forward sender m →
    added a (moment H e) (sent a H c) c ≡ (if names c e.reply then out_of H sender m ∷ [] else [])

-- A connection is live exactly where it has joined and has no end.
abbrev pub LiveUntilEnded : List Entry → Type 0
LiveUntilEnded H = (c : ℕ) → is_live H c ≡ (list_any (joins c) H && is_none (ended H c))

-- The newest look at an outbox is no more than what entered it, and no more than its capacity behind.
pub record WithinCapacity (a : About) (H : List Entry) : Type 0 where
  pub not_ahead : (c : ℕ) → looked H c ≤ length (sent a H c)
  pub not_over : (c : ℕ) → length (sent a H c) ≤ looked H c + a.limits.outbox

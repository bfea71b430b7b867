-- What is done to a peer writes plain lines under a name, or the name is that of the peer, and is over.
-- It serves the clauses of `a_line_goes_on`.
use Rattle.std.proofs.Common.{◌≡◌, ◌≢◌, ◌⊎◌, inl, inr, ℕ, Bool, true, false, not, cond, List, [], ◌∷◌, ◌++◌, codes, filter, Option, Some, None, refl, ap, sym, ◌∙◌, true≢false}
use Rattle.std.specs.List.{AllByRecursion}
use Rattle.bsc_octets.specs.declared.identity.Identity.{Identity}
use Rattle.bsc_history.specs.declared.call.Call.TheVariants.{Connect, Forward}
use Rattle.bsc_history.specs.declared.ending.End.{End}
use Rattle.bsc_history.specs.declared.reply.Refusal.{Refusal}
use Rattle.bsc_history.specs.declared.reply.Refusal.TheVariants.{Stopped as RefusedStopped, Duplicate, TableFull}
use Rattle.bsc_history.specs.declared.reply.Reply.{Reply}
use Rattle.bsc_history.specs.declared.reply.Reply.TheVariants.{Joined, Refused, Appended, Closed, Skipped, NoHolder, SentAll, NotCurrent, Stopped, Gone, Counted}
use Rattle.bsc_history.specs.Ends.{ended}
use Rattle.bsc_checks.specs.declared.verdict.Verdict.{Verdict}
use Rattle.bsc_checks.specs.declared.verdict.Verdict.TheVariants.{Silent}
use Rattle.bsc_accept.specs.declared.closing.Closing.{Closing}
use Rattle.bsc_accept.specs.declared.event.Event.{Event}
use Rattle.bsc_accept.specs.declared.event.Event.TheVariants.{Message as Came, Joined as HasJoined, Refused as WasRefused, Ended}
use Rattle.bsc_accept.specs.declared.reason.Reason.TheVariants.{HubWorn}
use Rattle.bsc_accept.specs.declared.step.Step.{Step}
use Rattle.bsc_accept.specs.declared.step.Step.TheVariants.{Ask, Put, PutClose, Up, Close, Nothing as NoStep}
use Rattle.bsc_accept.specs.Steps.{closing}
use Rattle.bsc_script.specs.Written.{Said, says}
use Rattle.bsc_script.specs.Texts.{out_words}
use Rattle.bsc_lines.specs.Replies.{forward_words, refusal_words, joined_words}
use Rattle.bsc_script.specs.States.{State, Peer, is_named, told, joined_as, with_peer, without_name}
use Rattle.bsc_script.specs.Calls.{called, reply_in, is_worn}
use Rattle.bsc_script.specs.Carrying.{ScriptOutcome, quietly, writes, leaves_if, ends, closes, does, step_of, tells}
use Rattle.bsc_script.specs.Receiving.{wears, gets_reply, connects, forwards_if, verdict_on, acts, silence, receives}
use Rattle.bsc_script.specs.Emptying.{frame_lines, unwritten, given_frames, ends_as, empties}
use Rattle.bsc_script.specs.Laws.{is_close, is_gone, EndsByClosing}
use Rattle.bsc_script.proofs.Peers.{name_same, same_name}
use Rattle.bsc_history.proofs.Lists.{all_from_In, In-filter}
use Rattle.bsc_script_laws.proofs.Aside.{AreAside, IsOther, AreOthers}
use Rattle.bsc_lemmas.proofs.Lists.{all_append as all-push}

-- ---- lines

-- a line that neither closes a name nor says that a connection is gone
abbrev pub IsPlain : Said → Type 0
IsPlain l = (is_close l ≡ false) × (is_gone l ≡ false)

-- the lines of a name are plain
abbrev pub ArePlain : List ℕ → List Said → Type 0
ArePlain n ls = AllByRecursion (λ (l : Said). l.name ≡ n → IsPlain l) ls

pub plain_then : (n : List ℕ) (xs ys : List Said) → ArePlain n xs → EndsByClosing n ys → EndsByClosing n (xs ++ ys)
plain_then n [] ys h g = g
plain_then n (l ∷ xs) ys h g = (
  (λ same gone. absurd (true≢false (sym gone ∙ (h.0 (same_name l.name n same)).1))),
  (λ same close. absurd (true≢false (sym close ∙ (h.0 (same_name l.name n same)).0))),
  plain_then n xs ys h.1 g,
)

pub plain_ends : (n : List ℕ) (xs : List Said) → ArePlain n xs → EndsByClosing n xs
plain_ends n [] h = tt
plain_ends n (l ∷ xs) h = (
  (λ same gone. absurd (true≢false (sym gone ∙ (h.0 (same_name l.name n same)).1))),
  (λ same close. absurd (true≢false (sym close ∙ (h.0 (same_name l.name n same)).0))),
  plain_ends n xs h.1,
)

aside_plain : (n : List ℕ) (xs : List Said) → AreAside n xs → ArePlain n xs
aside_plain n [] h = tt
aside_plain n (l ∷ xs) h = ((λ e. absurd (h.0 e)), aside_plain n xs h.1)

aside_or_gone : (n : List ℕ) (xs : List Said) → AreAside n xs → AllByRecursion (λ (m : Said). (m.name ≢ n) ⊎ (is_gone m ≡ true)) xs
aside_or_gone n [] h = tt
aside_or_gone n (l ∷ xs) h = (inl h.0, aside_or_gone n xs h.1)

pub then_aside : (n : List ℕ) (xs ys : List Said) → EndsByClosing n xs → AreAside n ys → EndsByClosing n (xs ++ ys)
then_aside n [] ys h g = plain_ends n ys (aside_plain n ys g)
then_aside n (l ∷ xs) ys h g = (
  (λ same gone. all-push (λ (m : Said). m.name ≢ n) xs ys (h.0 same gone) g),
  (λ same close. all-push (λ (m : Said). (m.name ≢ n) ⊎ (is_gone m ≡ true)) xs ys (h.1 same close) (aside_or_gone n ys g)),
  then_aside n xs ys h.2 g,
)

-- ---- a name that is over

-- What is written closes a name as it should, and the name hasn't joined.
pub record IsOver (n : List ℕ) (o : ScriptOutcome) : Type 0 where
  pub lines : EndsByClosing n o.said
  pub others : AreOthers n o.state

-- What is done to a peer writes plain lines of the name, or the name is that of the peer, and is over.
abbrev pub EndsOnly : List ℕ → Peer → ScriptOutcome → Type 0
EndsOnly n k o = ArePlain n o.said ⊎ ((k.name ≡ n) × IsOver n o)

own_without : (n : List ℕ) (k : Peer) (s : State) → k.name ≡ n → AreOthers n (without_name k.name s)
own_without n k s own = all_from_In (IsOther n) (filter (λ p. not (is_named k.name p)) s.peers)
    (λ p i c joined same. (
    let kept = (In-filter (λ q. not (is_named k.name q)) p s.peers i).1 in
    absurd (true≢false (sym kept ∙ ap not (name_same p.name k.name (same ∙ sym own))))))

left_over : (n : List ℕ) (s : State) (k : Peer) (o : Option ℕ) → k.name ≡ n → IsOver n (leaves_if s k o)
left_over n s k None own = record { lines = tt; others = own_without n k s own }
left_over n s k (Some c) own = record { lines = ((λ a b. tt), (λ a b. tt), tt); others = own_without n k s own }

left_aside : (n : List ℕ) (s : State) (k : Peer) (o : Option ℕ) → k.name ≢ n → AreAside n (leaves_if s k o).said
left_aside n s k None other = tt
left_aside n s k (Some c) other = (other, tt)

left_gone : (n : List ℕ) (s : State) (k : Peer) (o : Option ℕ) → AllByRecursion (λ (m : Said). (m.name ≢ n) ⊎ (is_gone m ≡ true)) (leaves_if s k o).said
left_gone n s k None = tt
left_gone n s k (Some c) = (inr refl, tt)

by_name : (n : List ℕ) (k : Peer) (P : Type 0) → (k.name ≡ n → P) → (k.name ≢ n → P) → P
by_name n k P f g = by (is_named n k) refl
  where
    by : (b : Bool) → is_named n k ≡ b → P
    by true is = f (same_name k.name n is)
    by false is = g (λ e. true≢false (sym (name_same k.name n e) ∙ is))

pub ends_only : (n : List ℕ) (s : State) (k : Peer) → EndsOnly n k (ends s k)
ends_only n s k =
    by_name n k (EndsOnly n k (ends s k)) (λ own. inr (own, left_over n s k k.conn own)) (λ other. inl (aside_plain n (ends s k).said (left_aside n s k k.conn other)))

pub closes_only : (n : List ℕ) (s : State) (k : Peer) (c : Closing) → EndsOnly n k (closes s k c)
closes_only n s k c =
    by_name n k (EndsOnly n k (closes s k c))
    (λ own. (
    let o = left_over n s k k.conn own in
    inr (
      own,
      record {
        lines = ((λ same gone. absurd (true≢false (sym gone))), (λ same close. left_gone n s k k.conn), o.lines);
        others = o.others;
      },
    )))
    (λ other. inl ((λ e. absurd (other e)), aside_plain n (ends s k).said (left_aside n s k k.conn other)))

-- plain lines before
plain_first : (n : List ℕ) (k : Peer) (ls : List Said) (o : ScriptOutcome) → ArePlain n ls → EndsOnly n k o → EndsOnly n k (record { state = o.state; said = ls ++ o.said })
plain_first n k ls o h (inl g) = inl (all-push (λ (l : Said). l.name ≡ n → IsPlain l) ls o.said h g)
plain_first n k ls o h (inr g) = inr (g.0, record { lines = plain_then n ls o.said h g.1.lines; others = g.1.others })

one_plain : (n : List ℕ) (k : Peer) (words : List ℕ) (o : ScriptOutcome) → IsPlain (says k.name words) → EndsOnly n k o → EndsOnly n k (writes (says k.name words) o)
one_plain n k words o h g = plain_first n k (says k.name words ∷ []) o ((λ e. h), tt) g

either_only : (n : List ℕ) (k : Peer) (b : Bool) (x y : ScriptOutcome) → EndsOnly n k x → EndsOnly n k y → EndsOnly n k (cond b x y)
either_only n k true x y f g = f
either_only n k false x y f g = g

-- ---- the steps

does_only : (n : List ℕ) (s : State) (k : Peer) (x : Step) → EndsOnly n k (does s k x)
does_only n s k (Ask who) = inl tt
does_only n s k (Put octets) = inl ((λ e. (refl, refl)), tt)
does_only n s k (PutClose octets c) = one_plain n k (out_words octets.items) (closes s k c) (refl, refl) (closes_only n s k c)
does_only n s k Up = inl tt
does_only n s k (Close c) = closes_only n s k c
does_only n s k NoStep = inl tt

pub tells_only : (n : List ℕ) (s : State) (k : Peer) (e : Event) → EndsOnly n k (tells s k e)
tells_only n s k e = does_only n (with_peer (told e k) s) (told e k) (step_of s k e)

-- ---- a message

wears_only : (n : List ℕ) (s : State) (k : Peer) → EndsOnly n k (wears s k)
wears_only n s k = one_plain n k (codes "worn") (closes s k (closing 1008 HubWorn)) (refl, refl) (closes_only n s k (closing 1008 HubWorn))

refusal_plain : (name : List ℕ) (r : Refusal) → IsPlain (says name (refusal_words r))
refusal_plain name RefusedStopped = (refl, refl)
refusal_plain name (Duplicate None) = (refl, refl)
refusal_plain name (Duplicate (Some conn)) = (refl, refl)
refusal_plain name (TableFull rows) = (refl, refl)

forward_plain : (name : List ℕ) (r : Reply) → IsPlain (says name (forward_words r))
forward_plain name (Joined conn replaced) = (refl, refl)
forward_plain name (Refused refusal) = (refl, refl)
forward_plain name (Appended conn) = (refl, refl)
forward_plain name (Closed conn) = (refl, refl)
forward_plain name (Skipped conn) = (refl, refl)
forward_plain name NoHolder = (refl, refl)
forward_plain name (SentAll to missed skipped) = (refl, refl)
forward_plain name (NotCurrent ending) = (refl, refl)
forward_plain name Stopped = (refl, refl)
forward_plain name (Gone ending taken) = (refl, refl)
forward_plain name (Counted c) = (refl, refl)

replied_only : (n : List ℕ) (s : State) (k : Peer) (r : Reply) → EndsOnly n k (gets_reply s k r)
replied_only n s k (Joined conn replaced) = one_plain n k (joined_words conn replaced) (tells s (joined_as conn k) HasJoined) (refl, refl) (tells_only n s (joined_as conn k) HasJoined)
replied_only n s k (Refused refusal) = one_plain n k (refusal_words refusal) (tells s k (WasRefused refusal)) (refusal_plain k.name refusal) (tells_only n s k (WasRefused refusal))
replied_only n s k (Appended conn) = inl tt
replied_only n s k (Closed conn) = inl tt
replied_only n s k (Skipped conn) = inl tt
replied_only n s k NoHolder = inl tt
replied_only n s k (SentAll to missed skipped) = inl tt
replied_only n s k (NotCurrent ending) = inl tt
replied_only n s k Stopped = inl tt
replied_only n s k (Gone ending taken) = inl tt
replied_only n s k (Counted c) = inl tt

connects_only : (n : List ℕ) (s : State) (k : Peer) (who : Identity) → EndsOnly n k (connects s k who)
connects_only n s k who =
    either_only n k (is_worn s) (wears s k) (gets_reply (called s (Connect who)) k (reply_in s (Connect who))) (wears_only n s k) (replied_only n (called s (Connect who)) k (reply_in s (Connect who)))

forwards_only : (n : List ℕ) (s : State) (k : Peer) (o : Option ℕ) (m : List ℕ) → EndsOnly n k (forwards_if s k o m)
forwards_only n s k None m = inl tt
forwards_only n s k (Some c) m =
    either_only n k (is_worn s) (wears s k) (writes (says k.name (forward_words (reply_in s (Forward c m)))) (quietly (called s (Forward c m))))
    (wears_only n s k) (inl ((λ e. forward_plain k.name (reply_in s (Forward c m))), tt))

acts_only : (n : List ℕ) (s : State) (k : Peer) (m : List ℕ) (x : Step) → EndsOnly n k (acts s k m x)
acts_only n s k m (Ask who) = connects_only n s k who
acts_only n s k m Up = forwards_only n s k k.conn m
acts_only n s k m (Put octets) = does_only n s k (Put octets)
acts_only n s k m (PutClose octets c) = does_only n s k (PutClose octets c)
acts_only n s k m (Close c) = does_only n s k (Close c)
acts_only n s k m NoStep = does_only n s k NoStep

silence_plain : (n name : List ℕ) (v : Verdict) → ArePlain n (silence name v)
silence_plain n name (Silent check) = ((λ e. (refl, refl)), tt)
silence_plain n name v = tt

pub receives_only : (n : List ℕ) (s : State) (k : Peer) (m : List ℕ) → EndsOnly n k (receives s k m)
receives_only n s k m =
    let e = Came s.clock (verdict_on s k m) in
    let t = with_peer (told e k) s in
    plain_first n k (silence k.name (verdict_on s k m)) (acts t (told e k) m (step_of s k e)) (silence_plain n k.name (verdict_on s k m)) (acts_only n t (told e k) m (step_of s k e))

-- ---- the outboxes

frames_plain : (n name : List ℕ) (frames : List (List ℕ)) → ArePlain n (frame_lines name frames)
frames_plain n name [] = tt
frames_plain n name (m ∷ frames) = ((λ e. (refl, refl)), frames_plain n name frames)

ending_only : (n : List ℕ) (s : State) (k : Peer) (o : Option End) → EndsOnly n k (ends_as s k o)
ending_only n s k None = inl tt
ending_only n s k (Some ending) = tells_only n (with_peer k s) k (Ended s.clock ending)

pub empties_only : (n : List ℕ) (s : State) (k : Peer) (c : ℕ) → EndsOnly n k (empties s k c)
empties_only n s k c =
    let frames = unwritten s k c in
    plain_first n k (frame_lines k.name frames) (ends_as s (given_frames frames k) (ended s.history c)) (frames_plain n k.name frames) (ending_only n s (given_frames frames k) (ended s.history c))

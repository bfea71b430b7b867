-- The cause of a session's end, by the stop of its course and by the End that was met.
-- It serves the clauses of `causes_are_exact` and `serve`.
use Rattle.std.proofs.Common.{◌≡◌, ◌↔◌, ℕ, List, refl, ap, sym, ◌∙◌, inl, inr, Option, Some, None}
use Rattle.std.specs.Prelude.{⊤}
use Rattle.bsc_history.specs.declared.ending.End.{End}
use Rattle.bsc_history.specs.declared.entry.Entry.{Entry}
use Rattle.bsc_session.specs.Notes.Notes.{HasLine}
use Rattle.bsc_edge.specs.declared.fault.LinkFault.{LinkFault}
use Rattle.bsc_edge.specs.declared.fault.LinkFault.TheVariants.{Failed}
use Rattle.bsc_session.specs.MakingTurns.{lost_by}
use Rattle.bsc_session.specs.Receiving.{Hearing}
use Rattle.bsc_session.specs.Taking.{Opening, opened, stop_before}
use Rattle.bsc_session.specs.declared.stop.Stop.{Stop}
use Rattle.bsc_session.specs.declared.why.Why.{Why}
use Rattle.bsc_session.specs.declared.why.Why.TheVariants.{PeerClosed, NotBinary, PeerLeft, Refused, WaitExpired, Idle, EndedBy, Worn, LinkFault as WhyLinkFault, JournalFault, NoMemory, Spent, Denied}
use Rattle.bsc_session.specs.Causes.{AreExact, AreExactBy, CausesAreExact, EndsOtherwise, HasAnswered, HasIdled, HasWaited, IsDenied, LacksMemory, answer_in, given_in}
use Rattle.bsc_session.specs.Causes.{hearing_fault, judged_in, last_fault}
use Rattle.bsc_session.specs.Course.{EachTurn, SessionCourse, Stops, and_last, end_of, standing}
use Rattle.bsc_session.specs.Standings.{Standing, Terms, begun}
use Rattle.bsc_session.specs.Talk.{first_lost, named, named_lost, noted_leaving}
use Rattle.bsc_session.specs.Turns.{IsTurn, Turn, after, stop_in}
use Rattle.bsc_session.proofs.Causing.{Ends, turn_ends, row_peer_closed, row_not_binary, row_worn, row_refused, row_link_fault, row_no_memory, lost_after, not_journal, not_spent}
use Rattle.bsc_session.proofs.Blaming.{journal_row, memory_row, none_lost, tells_stop}
use Rattle.bsc_session.proofs.Denying.{denied_row}
use Rattle.bsc_session.proofs.Losing.{lost_before, lost_hearing, unnoted}
use Rattle.bsc_session.proofs.Keeping.{Sound, sound_begun, sound_turns}
use Rattle.bsc_session.proofs.EndingAtFault.{after_none, alone, each_last, no_stop}
use Rattle.bsc_session.proofs.Leaving.{end_named, peer_left_row}
use Rattle.bsc_session.proofs.Lists.{standing-more}
use Rattle.bsc_session.proofs.Waiting.{idle_row, wait_row}

-- ---- how an End names the end

-- a cause that an End that was met takes the place of, and that isn't one
abbrev IsPlain : Why → Type 0
IsPlain JournalFault = ⊥
IsPlain WhyLinkFault = ⊥
IsPlain NoMemory = ⊥
IsPlain Spent = ⊥
IsPlain (EndedBy e) = ⊥
IsPlain w = ⊤

named_plain : (d : Option End) (w x : Why) → IsPlain x → named d w ≡ x → (d ≡ None) × (w ≡ x)
named_plain None w x plain h = (refl, h)
named_plain (Some e) JournalFault x plain h = absurd (rw (sym h) at plain)
named_plain (Some e) WhyLinkFault x plain h = absurd (rw (sym h) at plain)
named_plain (Some e) NoMemory x plain h = absurd (rw (sym h) at plain)
named_plain (Some e) Spent x plain h = absurd (rw (sym h) at plain)
named_plain (Some e) w x plain h = absurd (let k : IsPlain (EndedBy e) = rw (sym h) at plain in k)

-- such a cause comes where no End was met, and the stop has it
unnamed : (d : Option End) (w x : Why) (P : Type 0) → IsPlain x → (d ≡ None → (w ≡ x ↔ P)) → (named d w ≡ x ↔ ((d ≡ None) × P))
unnamed d w x P plain row = (
  λ h. (let k = named_plain d w x plain h in (k.0, (row k.0).0 k.1)),
  λ h. rw h.0 ((row h.0).1 h.1),
)

through : (A B C : Type 0) → (A ↔ B) → (B ↔ C) → (A ↔ C)
through A B C h k = (λ a. k.0 (h.0 a), λ c. h.1 (k.1 c))

-- a cause that no End takes the place of
fault_stays : (d : Option End) (w : Why) → named d w ≡ WhyLinkFault ↔ (w ≡ WhyLinkFault)
fault_stays None w = (λ h. h, λ h. h)
fault_stays (Some e) WhyLinkFault = (λ h. refl, λ h. refl)
fault_stays (Some e) w = (λ h. cc, λ h. cc)

memory_stays : (d : Option End) (w : Why) → named d w ≡ NoMemory ↔ (w ≡ NoMemory)
memory_stays None w = (λ h. h, λ h. h)
memory_stays (Some e) NoMemory = (λ h. refl, λ h. refl)
memory_stays (Some e) w = (λ h. cc, λ h. cc)

spent_stays : (d : Option End) (w : Why) → named d w ≡ Spent ↔ (w ≡ Spent)
spent_stays None w = (λ h. h, λ h. h)
spent_stays (Some e) Spent = (λ h. refl, λ h. refl)
spent_stays (Some e) w = (λ h. cc, λ h. cc)

-- an End that was met names all others
end_names : (d : Option End) (w : Why) (e : End) → d ≡ Some e → (w ≡ JournalFault → ⊥) → (w ≡ WhyLinkFault → ⊥) → (w ≡ NoMemory → ⊥) → (w ≡ Spent → ⊥) → named d w ≡ EndedBy e
end_names None w e is journal link memory spent = cc
end_names (Some d) JournalFault e is journal link memory spent = absurd (journal refl)
end_names (Some d) WhyLinkFault e is journal link memory spent = absurd (link refl)
end_names (Some d) NoMemory e is journal link memory spent = absurd (memory refl)
end_names (Some d) Spent e is journal link memory spent = absurd (spent refl)
end_names (Some d) w e is journal link memory spent = cc

named_end : (d : Option End) (w : Why) (e : End) → (w ≡ EndedBy e → d ≡ Some e) → named d w ≡ EndedBy e → d ≡ Some e
named_end None w e known h = known h
named_end (Some d) JournalFault e known h = cc
named_end (Some d) WhyLinkFault e known h = cc
named_end (Some d) NoMemory e known h = cc
named_end (Some d) Spent e known h = cc
named_end (Some d) w e known h = cc

ended_row : (last : Option Turn) (d : Option End) (w : Why) (e : End) → (w ≡ EndedBy e → d ≡ Some e) → (w ≡ JournalFault → ⊥)
    → (w ≡ WhyLinkFault ↔ (last_fault last ≡ Some Failed)) → (w ≡ NoMemory ↔ LacksMemory last) → (w ≡ Spent ↔ (last ≡ None))
    → (named d w ≡ EndedBy e ↔ ((d ≡ Some e) × EndsOtherwise last))
ended_row last d w e known journal link memory spent = (
  λ h. (
    named_end d w e known h,
    record {
      link = λ k. (let c : WhyLinkFault ≡ EndedBy e = sym ((fault_stays d w).1 (link.1 k)) ∙ h in cc);
      memory = λ k. (let c : NoMemory ≡ EndedBy e = sym ((memory_stays d w).1 (memory.1 k)) ∙ h in cc);
      receives = λ k. (let c : Spent ≡ EndedBy e = sym ((spent_stays d w).1 (spent.1 k)) ∙ h in cc);
    },
  ),
  λ h. end_names d w e h.0 journal (λ k. h.1.link (link.0 k)) (λ k. h.1.memory (memory.0 k)) (λ k. h.1.receives (spent.0 k)),
)

-- ---- the course

-- what a turn that stops the session says of its cause
record StopsBy (v : Terms) (s : Standing) (t : Turn) (d : Option End) (w : Why) : Type 0 where
  ends : Ends (given_in t.hearing) (judged_in t.hearing) (answer_in t.hearing) (hearing_fault t.opening.fault t.hearing) w
  known : (e : End) → w ≡ EndedBy e → d ≡ Some e
  answered : d ≡ None → (w ≡ PeerLeft ↔ HasAnswered v s (Some t))
  denied : (rule : ℕ) → (w ≡ Denied rule ↔ ((rule ≡ 0) × IsDenied v s (Some t)))
  waited : d ≡ None → (w ≡ WaitExpired ↔ HasWaited v s (Some t))
  idled : d ≡ None → (w ≡ Idle ↔ HasIdled v s (Some t))

-- no line of a turn was lost whose stop has none
unlost_after : (v : Terms) (s : Standing) (o : Opening) (h : Option Hearing) (stop : Stop) → stop.lost ≡ None → IsTurn v s (record { opening = o; hearing = h })
    → stop_in v s (record { opening = o; hearing = h }) ≡ Some stop
    → (o.lost ≡ None) × (lost_after h ≡ None)
unlost_after v s o None stop unlost is stops = (sym (lost_before v s o is.opening) ∙ ap lost_by (sym (alone (stop_before v s o)) ∙ stops) ∙ unlost, refl)
unlost_after v s o (Some h) stop unlost is stops =
    let quiet = no_stop (stop_before v s o) is.heard in (
      sym (lost_before v s o is.opening) ∙ ap lost_by quiet,
      sym (lost_hearing v (opened s o) o.reading h is.hearing) ∙ ap lost_by (after_none (stop_before v s o) _ stop quiet stops) ∙ unlost,
    )

stops_by : (v : Terms) (s : Standing) (t : Turn) (stop : Stop) → stop.lost ≡ None → Sound s → IsTurn v s t → stop_in v s t ≡ Some stop → StopsBy v s t (after v s t).ended stop.why
stops_by v s t stop unlost sound is stops =
    let l = unlost_after v s t.opening t.hearing stop unlost is stops in
    let e = turn_ends v s t.opening t.hearing stop l.0 l.1 is stops in
    record {
      ends = e;
      known = λ d h. end_named v s t.opening t.hearing stop d e stops h;
      answered = λ none. peer_left_row v s t.opening t.hearing stop e sound l.1 is stops none;
      denied = λ rule. denied_row v s t.opening t.hearing stop rule e l.1 is stops;
      waited = λ none. wait_row v s t.opening t.hearing stop e sound stops;
      idled = λ none. idle_row v s t.opening t.hearing stop e sound stops none;
    }

flat : (A B C D : Type 0) → (A ↔ (B × (C × D))) → (A ↔ (B × C × D))
flat A B C D h = (λ a. (let k = h.0 a in (k.0, k.1.0, k.1.1)), λ k. h.1 (k.0, (k.1, k.2)))

exact_turn : (v : Terms) (s : Standing) (t : Turn) (d : Option End) (w : Why) → StopsBy v s t d w → AreExact v s (Some t) d (named d w)
exact_turn v s t d w k =
    let spent : w ≡ Spent ↔ (Some t ≡ None) = (λ h. absurd (not_spent k.ends h), λ h. cc) in
    record {
      link_fault = through _ _ _ (fault_stays d w) (row_link_fault k.ends);
      no_memory = through _ _ _ (memory_stays d w) (row_no_memory k.ends);
      spent = through _ _ _ (spent_stays d w) spent;
      ended_by = λ e. ended_row (Some t) d w e (k.known e) (λ h. not_journal k.ends h) (row_link_fault k.ends) (row_no_memory k.ends) spent;
      peer_closed = unnamed d w PeerClosed _ tt (λ none. row_peer_closed k.ends);
      not_binary = unnamed d w NotBinary _ tt (λ none. row_not_binary k.ends);
      is_worn = unnamed d w Worn _ tt (λ none. row_worn k.ends);
      refused = λ r. flat _ _ _ _ (unnamed d w (Refused r) _ tt (λ none. row_refused r k.ends));
      peer_left = unnamed d w PeerLeft _ tt k.answered;
      denied = λ rule. flat _ _ _ _ (unnamed d w (Denied rule) _ tt (λ none. k.denied rule));
      wait_expired = unnamed d w WaitExpired _ tt k.waited;
      idle = unnamed d w Idle _ tt k.idled;
    }

no_lack : LacksMemory None → ⊥
no_lack h = elim h [ inl k ↦ cc | inr k ↦ elim k [ inl i ↦ cc | inr i ↦ cc ] ]

exact_spent : (v : Terms) (s : Standing) (d : Option End) → AreExact v s None d (named d Spent)
exact_spent v s d =
    let link : Spent ≡ WhyLinkFault ↔ (last_fault None ≡ Some Failed) = (λ h. cc, λ h. cc) in
    let memory : Spent ≡ NoMemory ↔ LacksMemory None = (λ h. cc, λ h. absurd (no_lack h)) in
    let spent : Spent ≡ Spent ↔ (None ≡ None) = (λ h. refl, λ h. refl) in
    record {
      link_fault = through _ _ _ (fault_stays d Spent) link;
      no_memory = through _ _ _ (memory_stays d Spent) memory;
      spent = through _ _ _ (spent_stays d Spent) spent;
      ended_by = λ e. ended_row None d Spent e (λ h. cc) (λ h. cc) link memory spent;
      peer_closed = unnamed d Spent PeerClosed _ tt (λ none. (λ h. cc, λ h. cc));
      not_binary = unnamed d Spent NotBinary _ tt (λ none. (λ h. cc, λ h. cc));
      is_worn = unnamed d Spent Worn _ tt (λ none. (λ h. cc, λ h. cc));
      refused = λ r. flat _ _ _ _ (unnamed d Spent (Refused r) _ tt (λ none. (λ h. cc, λ h. (let k = h.0.2 in cc))));
      peer_left = unnamed d Spent PeerLeft _ tt (λ none. (λ h. cc, λ h. absurd h));
      denied = λ rule. flat _ _ _ _ (unnamed d Spent (Denied rule) _ tt (λ none. (λ h. cc, λ h. absurd h.1)));
      wait_expired = unnamed d Spent WaitExpired _ tt (λ none. (λ h. cc, λ h. absurd h));
      idle = unnamed d Spent Idle _ tt (λ none. (λ h. cc, λ h. absurd h));
    }

exact : (v : Terms) (ts : List Turn) (last : Option Turn) (stop : Stop) → stop.lost ≡ None → EachTurn IsTurn v begun (and_last ts last) → Stops v (standing v begun ts) last stop
    → AreExact v (standing v begun ts) last (standing v begun (and_last ts last)).ended (named (standing v begun (and_last ts last)).ended stop.why)
exact v ts None stop unlost are stops = rw (stops.1) (exact_spent v (standing v begun ts) (standing v begun ts).ended)
exact v ts (Some t) stop unlost are stops = rw (standing-more v begun ts t)
    (exact_turn v (standing v begun ts) t _ stop.why (stops_by v (standing v begun ts) t stop unlost (sound_turns v begun ts sound_begun) (each_last IsTurn v begun ts t are) stops))

exact_by : (v : Terms) (c : SessionCourse v) (left : Option LinkFault) → ((f : LinkFault) → c.stop.lost ≡ Some f → left ≡ None)
    → AreExactBy v (standing v begun c.went_on) c.last (end_of c).ended (first_lost c.stop.lost left) (named_lost left (named (end_of c).ended c.stop.why))
exact_by v c left clear =
    let told = tells_stop v (standing v begun c.went_on) c.last c.stop c.stops in
    record {
      journal_fault = journal_row (end_of c).ended c.stop.why c.stop.lost left told.journal told.failed clear;
      no_memory = memory_row (end_of c).ended c.stop.why c.stop.lost left told.memory clear;
      others = λ none. (let k = none_lost c.stop.lost left none in rw k.1 (exact v c.went_on c.last c.stop k.0 c.turns c.stops));
    }

-- where a line was lost before the Leave, that has none
pub unleft : (l left : Option LinkFault) (at : ℕ) (es : List Entry) (f : LinkFault) → l ≡ Some f → HasLine (noted_leaving l at es) left → left ≡ None
unleft l left at es f is line = (let k : HasLine (noted_leaving (Some f) at es) left = rw is at line in unnoted left k)

pub causes_are_exact : CausesAreExact
causes_are_exact v ended T R E frames x = rw x.why (exact_by v x.course x.left_lost (λ f is. unleft x.course.stop.lost x.left_lost x.left_at _ f is x.line))

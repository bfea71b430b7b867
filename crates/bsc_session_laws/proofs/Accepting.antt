-- No frame is taken before the Connect-Accept was put.
-- It serves the clauses of `frames_follow_accept`.
use Rattle.std.proofs.Common.{◌≡◌, ◌≢◌, inl, inr, ℕ, false, List, [], ◌∷◌, ◌++◌, Option, Some, None, Ok, refl, ap, sym, ◌∙◌, subst, append_assoc, append-nil}
use Rattle.bsc_frame.specs.Spelling.{spelling}
use Rattle.bsc_history.specs.declared.entry.Entry.{Entry}
use Rattle.bsc_accept.specs.Messages.{connect_accept}
use Rattle.bsc_edge.specs.declared.incoming.Incoming.TheVariants.{Message}
use Rattle.bsc_edge.specs.declared.said.Said.{Said}
use Rattle.bsc_edge.specs.declared.said.Said.TheVariants.{Gave, Put}
use Rattle.bsc_session.specs.declared.ended.Ended.{Ended}
use Rattle.bsc_session.specs.Course.{EachTurn, TurnGoesOn, and_last, said_closing, shares}
use Rattle.bsc_session.specs.Standings.{Standing, Terms, begun}
use Rattle.bsc_session.specs.Taking.{full_wait}
use Rattle.bsc_session.specs.Talk.{Session}
use Rattle.bsc_session.specs.Turns.{IsTurn, Turn, after, frames_in, said_in}
use Rattle.bsc_session_laws.specs.Laws.{AcceptsFirst}
use Rattle.bsc_session_laws.specs.Messages.{message_in}
use Rattle.bsc_session_laws.proofs.Turning.{Joins, is_in, takes_none, turn_goes}

-- Of turns from some standing on: those up to one that puts the Connect-Accept take no frame.
record Accepts (v : Terms) (s : Standing) (all : List Turn) : Type 0 where
  before : List Turn
  joining : Turn
  later : List Turn
  turns : all ≡ before ++ joining ∷ later
  none_taken : shares frames_in v s (before ++ joining ∷ []) ≡ []
  request : List ℕ
  id : ℕ
  said_later : List Said
  talk : shares said_in v s all ≡ shares said_in v s before ++ Gave full_wait (Ok (Message request)) ∷ Put (spelling (connect_accept id v.hub)) None ∷ said_later

none_in : (v : Terms) (s : Standing) (t : Turn) → is_in s ≡ false → IsTurn v s t → frames_in v s t ≡ []
none_in v s t out is = (takes_none v s t.opening out is.opening.takes).0

last_behind : (t : Turn) (ts : List Turn) (last : Option Turn) → and_last (t ∷ ts) last ≡ t ∷ and_last ts last
last_behind t ts None = refl
last_behind t ts (Some u) = refl

-- the turn puts the Connect-Accept
accepts_now : (v : Terms) (s : Standing) (t : Turn) (ts : List Turn) → frames_in v s t ≡ [] → Joins v (message_in v s t) (said_in v s t) (after v s t) → Accepts v s (t ∷ ts)
accepts_now v s t ts none j = record {
  before = [];
  joining = t;
  later = ts;
  turns = refl;
  none_taken = append-nil (frames_in v s t) ∙ none;
  request = j.request;
  id = j.id;
  said_later = shares said_in v (after v s t) ts;
  talk = ap (λ (l : List Said). l ++ shares said_in v (after v s t) ts) j.said_so;
}

-- or a later one does
accepts_later : (v : Terms) (s : Standing) (t : Turn) (ts : List Turn) → frames_in v s t ≡ [] → Accepts v (after v s t) ts → Accepts v s (t ∷ ts)
accepts_later v s t ts none r = record {
  before = t ∷ r.before;
  joining = r.joining;
  later = r.later;
  turns = ap (λ (l : List Turn). t ∷ l) r.turns;
  none_taken = ap (λ (l : List (List ℕ)). l ++ shares frames_in v (after v s t) (r.before ++ r.joining ∷ [])) none ∙ r.none_taken;
  request = r.request;
  id = r.id;
  said_later = r.said_later;
  talk = ap (λ (l : List Said). said_in v s t ++ l) r.talk ∙ sym (append_assoc (said_in v s t) (shares said_in v (after v s t) r.before)
      (Gave full_wait (Ok (Message r.request)) ∷ Put (spelling (connect_accept r.id v.hub)) None ∷ r.said_later));
}

accepts : (v : Terms) (s : Standing) (ts : List Turn) (last : Option Turn) → is_in s ≡ false → EachTurn IsTurn v s (and_last ts last) → EachTurn TurnGoesOn v s ts
    → shares frames_in v s (and_last ts last) ≢ [] → Accepts v s (and_last ts last)
accepts v s [] None out is on some = absurd (some refl)
accepts v s [] (Some t) out is on some = absurd (some (append-nil (frames_in v s t) ∙ none_in v s t out is.0))
accepts v s (t ∷ ts) last out is on some =
    let split = last_behind t ts last in
    let each = subst (EachTurn IsTurn v s) split is in
    let none = none_in v s t out each.0 in
    subst (Accepts v s) (sym split) (elim (turn_goes v s t out each.0 on.0) [
      | inl w ↦ accepts_later v s t (and_last ts last) none (accepts v (after v s t) ts last w.0 each.1 on.1
          (λ e. some (ap (shares frames_in v s) split ∙ ap (λ (l : List (List ℕ)). l ++ shares frames_in v (after v s t) (and_last ts last)) none ∙ e)))
      | inr j ↦ accepts_now v s t (and_last ts last) none j
    ])

pub frames_follow_accept : (v : Terms) (T : List Said) (R : List ℕ) (E : List Entry) (frames : List (List ℕ)) (ended : Ended) (x : Session v T R E frames ended) → frames ≢ []
    → AcceptsFirst v T x.course
frames_follow_accept v T R E frames ended x some =
    let c = x.course in
    let r = accepts v begun c.went_on c.last refl c.turns c.goes_on (λ e. some (x.received ∙ e)) in
    let first = shares said_in v begun r.before in
    let two = Gave full_wait (Ok (Message r.request)) ∷ Put (spelling (connect_accept r.id v.hub)) None ∷ r.said_later in
    record {
      before = r.before;
      joining = r.joining;
      later = r.later;
      turns = r.turns;
      none_taken = r.none_taken;
      request = r.request;
      id = r.id;
      said_later = r.said_later ++ said_closing c.stop.closing;
      talk = x.talk ∙ ap (λ (l : List Said). l ++ said_closing c.stop.closing) r.talk ∙ append_assoc first two (said_closing c.stop.closing);
    }

-- Each Encapsulated-NPDU that a node puts on a link is of a Send.
-- It serves clauses of functions of `laws`.
use Rattle.std.proofs.Common.{◌≡◌, ◌⊎◌, inl, inr, ℕ, ◌+◌, Bool, true, false, cond, ◌||◌, List, [], ◌∷◌, ◌++◌, length, filter, drop, Option, Some, None, refl, ap, sym, subst, ◌∙◌}
use Rattle.std.proofs.Common.{append-nil, append_assoc, arith, zero, suc}
use Rattle.std.specs.Prelude.{IsTrue, filter_map, flat_map, slice_get}
use Rattle.std.specs.List.{list_any}
use Rattle.std.proofs.lemmas.Grind.{flat_map-append}
use Rattle.std.proofs.lemmas.List.Elements.{filter-append}
use Rattle.bsc_octets.specs.declared.vmac.Vmac.{Vmac}
use Rattle.bsc_octets.specs.Functions.{is_npdu, npdus}
use Rattle.bsc_frame.specs.declared.body.Body.TheVariants.{Npdu}
use Rattle.bsc_node.specs.declared.link_name.LinkName.{LinkName}
use Rattle.bsc_node.specs.declared.node_event.NodeEvent.{NodeEvent}
use Rattle.bsc_node.specs.declared.node_event.NodeEvent.TheVariants.{Send}
use Rattle.bsc_node.specs.declared.note.Note.TheVariants.{NoPath, TooLong}
use Rattle.bsc_node.specs.declared.timed_event.TimedEvent.{TimedEvent}
use Rattle.bsc_node.specs.declared.action.Action.{Action}
use Rattle.bsc_node.specs.declared.action.Action.TheVariants.{Dial, Take, Refuse, Put, Close, Deliver, Tell, Draw}
use Rattle.bsc_node.specs.Conditions.{may_come}
use Rattle.bsc_node.specs.Events.{follows}
use Rattle.bsc_node.specs.Laws.{IsPutOnce, NpdusArePutOnce, npdus_put, puts_npdu, with_event}
use Rattle.bsc_node.specs.Links.{begins, same_link}
use Rattle.bsc_node.specs.Logs.{Made, Line, came, did, initiating, accepting, connector, slot, resolution, Log, action_of, either, if_so, tells, with_some}
use Rattle.bsc_node.specs.Node.{goes_on}
use Rattle.bsc_node.specs.Requesting.{other_end_takes, own_message, puts_own, sends}
use Rattle.bsc_node.specs.Ways.{Way, way}
use Rattle.bsc_node.proofs.Common.{same_link-is}
use Rattle.bsc_node.proofs.Following.{goes_on-is}
use Rattle.bsc_node_identity.proofs.Settled.{lasting}
use Rattle.bsc_lemmas.proofs.Lists.{got-more, got-within}
use Rattle.bsc_node_links.proofs.Lists.{drop-behind, drop-more}
use Rattle.bsc_node_links.proofs.Lives.{until-all, until-none, until-some}
use Rattle.bsc_node_links.specs.Lives.{HasBegun, LinkLife, lines_since, put_by, put_over, until_anew}
use Rattle.bsc_network_of_runs.specs.Nodes.{CameAt, HasNow, NodeRun, PutsWhatWasSent, SendsAt}
use Rattle.bsc_network_of_runs.proofs.Lives.{got-either}
use Rattle.bsc_network_of_runs.proofs.Lists.{nothing_got}

-- ---- NPDUs among the lines of one event

-- the NPDUs that some lines put
abbrev put_in_all : List Line → List Action
put_in_all lines = filter puts_npdu (filter_map action_of lines)

-- those on this link, until one of its name begins anew
abbrev put_until : LinkName → List Line → List (List ℕ)
put_until name lines = npdus (flat_map (put_by name) (until_anew name lines))

-- none, or this one
abbrev IsOne : LinkName → LinkName → List ℕ → List (List ℕ) → Type 0
IsOne name link o os = (os ≡ []) ⊎ ((os ≡ o ∷ []) × (link ≡ name))

tail-nil : (x : Action) (xs : List Action) → x ∷ xs ≡ [] → ⊥
tail-nil x xs h = cc

-- a line that puts nothing on the link and begins none
rest-until : (name : LinkName) (m : Line) (lines : List Line) → (b : Bool) → begins name m ≡ b → put_by name m ≡ []
    → (put_until name (m ∷ lines) ≡ put_until name lines) ⊎ (put_until name (m ∷ lines) ≡ [])
rest-until name m lines true is none = inr (ap (λ (b : Bool). npdus (flat_map (put_by name) (cond b [] (m ∷ until_anew name lines)))) is)
rest-until name m lines false is none =
    inl (ap (λ (b : Bool). npdus (flat_map (put_by name) (cond b [] (m ∷ until_anew name lines)))) is ∙ ap (λ (l : List (List ℕ)). npdus (l ++ flat_map (put_by name) (until_anew name lines))) none)

none_so : (name : LinkName) (m : Line) (lines : List Line) → put_by name m ≡ [] → put_until name lines ≡ [] → put_until name (m ∷ lines) ≡ []
none_so name m lines none rest = elim (rest-until name m lines (begins name m) refl none) [ inl e ↦ e ∙ rest | inr e ↦ e ]

none_put : (name : LinkName) (lines : List Line) → put_in_all lines ≡ [] → put_until name lines ≡ []
none_put name [] h = refl
none_put name (did (Put other o) ∷ lines) h = by (λ g. none_put name lines g) (is_npdu o) refl h
  where
    here : (b : Bool) → is_npdu o ≡ false → npdus (cond b (o ∷ []) [] ++ flat_map (put_by name) (until_anew name lines)) ≡ put_until name lines
    here true is = ap (λ (b : Bool). cond b (o ∷ put_until name lines) (put_until name lines)) is
    here false is = refl

    by : (put_in_all lines ≡ [] → put_until name lines ≡ []) → (b : Bool) → is_npdu o ≡ b → cond b (Put other o ∷ put_in_all lines) (put_in_all lines) ≡ []
        → put_until name (did (Put other o) ∷ lines) ≡ []
    by rec true is g = absurd (tail-nil (Put other o) (put_in_all lines) g)
    by rec false is g = here (same_link other name) is ∙ rec g
none_put name (did (Dial other uri) ∷ lines) h = none_so name (did (Dial other uri)) lines refl (none_put name lines h)
none_put name (did (Take other) ∷ lines) h = none_so name (did (Take other)) lines refl (none_put name lines h)
none_put name (did (Refuse c) ∷ lines) h = none_so name (did (Refuse c)) lines refl (none_put name lines h)
none_put name (did (Close other c) ∷ lines) h = none_so name (did (Close other c)) lines refl (none_put name lines h)
none_put name (did (Deliver d) ∷ lines) h = none_so name (did (Deliver d)) lines refl (none_put name lines h)
none_put name (did (Tell note) ∷ lines) h = none_so name (did (Tell note)) lines refl (none_put name lines h)
none_put name (did Draw ∷ lines) h = none_so name (did Draw) lines refl (none_put name lines h)
none_put name (came e ∷ lines) h = none_so name (came e) lines refl (none_put name lines h)
none_put name (initiating other call ∷ lines) h = none_so name (initiating other call) lines refl (none_put name lines h)
none_put name (accepting other call ∷ lines) h = none_so name (accepting other call) lines refl (none_put name lines h)
none_put name (connector e ∷ lines) h = none_so name (connector e) lines refl (none_put name lines h)
none_put name (slot call ∷ lines) h = none_so name (slot call) lines refl (none_put name lines h)
none_put name (resolution call ∷ lines) h = none_so name (resolution call) lines refl (none_put name lines h)

one_so : (name link : LinkName) (o : List ℕ) (m : Line) (lines : List Line) → put_by name m ≡ [] → IsOne name link o (put_until name lines) → IsOne name link o (put_until name (m ∷ lines))
one_so name link o m lines none rest = elim (rest-until name m lines (begins name m) refl none) [ inl e ↦ subst (IsOne name link o) (sym e) rest | inr e ↦ inl e ]

one_put : (name link : LinkName) (p : List ℕ) (lines : List Line) → put_in_all lines ≡ Put link p ∷ [] → IsOne name link p (put_until name lines)
one_put name link p [] h = inl refl
one_put name link p (did (Put other o) ∷ lines) h = by (λ g. one_put name link p lines g) (is_npdu o) refl h
  where
    here : (b : Bool) → is_npdu o ≡ false → npdus (cond b (o ∷ []) [] ++ flat_map (put_by name) (until_anew name lines)) ≡ put_until name lines
    here true is = ap (λ (b : Bool). cond b (o ∷ put_until name lines) (put_until name lines)) is
    here false is = refl

    -- this is the one
    that : (b : Bool) → same_link other name ≡ b → is_npdu o ≡ true → put_until name lines ≡ [] → other ≡ link → o ≡ p
        → IsOne name link p (npdus (cond b (o ∷ []) [] ++ flat_map (put_by name) (until_anew name lines)))
    that true same is none le oe = inr (
      ap (λ (b : Bool). cond b (o ∷ put_until name lines) (put_until name lines)) is ∙ ap (λ (l : List (List ℕ)). o ∷ l) none
          ∙ ap (λ (q : List ℕ). q ∷ []) oe,
      sym le ∙ same_link-is other name same,
    )
    that false same is none le oe = inl none

    by : (put_in_all lines ≡ Put link p ∷ [] → IsOne name link p (put_until name lines)) → (b : Bool) → is_npdu o ≡ b
        → cond b (Put other o ∷ put_in_all lines) (put_in_all lines) ≡ Put link p ∷ [] → IsOne name link p (put_until name (did (Put other o) ∷ lines))
    by rec true is g =
        let rest : put_in_all lines ≡ [] = cc in
        let le : other ≡ link = cc in
        let oe : o ≡ p = cc in
        that (same_link other name) refl is (none_put name lines rest) le oe
    by rec false is g = subst (IsOne name link p) (sym (here (same_link other name) is)) (rec g)
one_put name link p (did (Dial other uri) ∷ lines) h = one_so name link p (did (Dial other uri)) lines refl (one_put name link p lines h)
one_put name link p (did (Take other) ∷ lines) h = one_so name link p (did (Take other)) lines refl (one_put name link p lines h)
one_put name link p (did (Refuse c) ∷ lines) h = one_so name link p (did (Refuse c)) lines refl (one_put name link p lines h)
one_put name link p (did (Close other c) ∷ lines) h = one_so name link p (did (Close other c)) lines refl (one_put name link p lines h)
one_put name link p (did (Deliver d) ∷ lines) h = one_so name link p (did (Deliver d)) lines refl (one_put name link p lines h)
one_put name link p (did (Tell note) ∷ lines) h = one_so name link p (did (Tell note)) lines refl (one_put name link p lines h)
one_put name link p (did Draw ∷ lines) h = one_so name link p (did Draw) lines refl (one_put name link p lines h)
one_put name link p (came e ∷ lines) h = one_so name link p (came e) lines refl (one_put name link p lines h)
one_put name link p (initiating other call ∷ lines) h = one_so name link p (initiating other call) lines refl (one_put name link p lines h)
one_put name link p (accepting other call ∷ lines) h = one_so name link p (accepting other call) lines refl (one_put name link p lines h)
one_put name link p (connector e ∷ lines) h = one_so name link p (connector e) lines refl (one_put name link p lines h)
one_put name link p (slot call ∷ lines) h = one_so name link p (slot call) lines refl (one_put name link p lines h)
one_put name link p (resolution call ∷ lines) h = one_so name link p (resolution call) lines refl (one_put name link p lines h)

-- of the last lines none is an NPDU, where none is of all
action-first : (m : Line) (lines : List Line) → put_in_all (m ∷ lines) ≡ [] → put_in_all lines ≡ []
action-first (did action) lines h = by (puts_npdu action) h
  where
    by : (b : Bool) → cond b (action ∷ put_in_all lines) (put_in_all lines) ≡ [] → put_in_all lines ≡ []
    by true g = absurd (tail-nil action (put_in_all lines) g)
    by false g = g
action-first (came e) lines h = h
action-first (initiating other call) lines h = h
action-first (accepting other call) lines h = h
action-first (connector e) lines h = h
action-first (slot call) lines h = h
action-first (resolution call) lines h = h

none_behind : (k : ℕ) (lines : List Line) → put_in_all lines ≡ [] → put_in_all (drop k lines) ≡ []
none_behind zero lines h = h
none_behind (suc k) [] h = refl
none_behind (suc k) (m ∷ lines) h = none_behind k lines (action-first m lines h)

-- ---- a Send begins no link

none_begun : (name : LinkName) (dest : Vmac) (npdu : List ℕ) (M : Log) → list_any (begins name) (sends dest npdu M) ≡ false
none_begun name dest npdu M = by (way dest M)
  where
    on : (w : Way) (b : Bool) → list_any (begins name) (if_so b (puts_own w (Npdu npdu)) (tells (TooLong dest)) M) ≡ false
    on w true = refl
    on w false = refl

    by : (o : Option Way) → list_any (begins name) (with_some o (λ w. either (other_end_takes w npdu) (puts_own w (Npdu npdu)) (tells (TooLong dest))) (tells (NoPath dest)) M) ≡ false
    by None = refl
    by (Some w) = on w (other_end_takes w npdu M)

send_begins : (a : Made) (L : Log) (e : TimedEvent) (dest : Vmac) (npdu : List ℕ) (name : LinkName) → e.event ≡ Send dest npdu → list_any (begins name) (goes_on a e L) ≡ false
send_begins a L e dest npdu name is =
    ap (list_any (begins name)) (goes_on-is a L e)
    ∙ ap (λ (ev : NodeEvent). list_any (begins name) (follows a ev (with_event L e))) is
    ∙ none_begun name dest npdu (with_event L e)

any-got : (test : Line → Bool) (xs : List Line) (i : ℕ) (m : Line) → slice_get xs i ≡ Some m → test m ≡ true → list_any test xs ≡ false → ⊥
any-got test [] i m h is none = cc
any-got test (x ∷ xs) zero m h is none = (let same : x ≡ m = cc in by (test x) (ap test same ∙ is) none)
  where
    by : (b : Bool) → b ≡ true → (b || list_any test xs) ≡ false → ⊥
    by true e g = cc
    by false e g = cc
any-got test (x ∷ xs) (suc i) m h is none = any-got test xs i m h is (by (test x) none)
  where
    by : (b : Bool) → (b || list_any test xs) ≡ false → list_any test xs ≡ false
    by true g = cc
    by false g = g

-- ---- all events

-- at this place of the log the node puts it for a Send
record SentIn (a : Made) (L : Log) (x : LinkLife) (r : ℕ) (o : List ℕ) : Type 0 where
  place : ℕ
  dest : Vmac
  npdu : List ℕ
  sent : (k : ℕ) → SendsAt a L x r (record { node = k; place = place; dest = dest; npdu = npdu }) o

abbrev AreSent : Made → Log → Type 0
AreSent a L = (x : LinkLife) (r : ℕ) (o : List ℕ) → HasBegun L x → slice_get (npdus (put_over L x)) r ≡ Some o → SentIn a L x r o

-- what came before is so in the longer log
abbrev pub came_still : (a : Made) (L : Log) (place : ℕ) (e : TimedEvent) (more : List Line) (c : CameAt a L place e) → CameAt a (L ++ more) place e
came_still a L place e more c = record {
  before = c.before;
  later = c.later ++ more;
  is = ap (λ (l : Log). l ++ more) c.is ∙ append_assoc c.before (goes_on a e c.before ++ c.later) more ∙ ap (λ (l : List Line). c.before ++ l) (append_assoc (goes_on a e c.before) c.later more);
  here = c.here;
  may = c.may;
}

sent_still : (a : Made) (L : Log) (x : LinkLife) (r : ℕ) (o : List ℕ) (more : List Line) → SentIn a L x r o → SentIn a (L ++ more) x r o
sent_still a L x r o more s = record {
  place = s.place;
  dest = s.dest;
  npdu = s.npdu;
  sent = λ k. (
      let t = s.sent k in
      record {
        e = t.e;
        comes = came_still a L s.place t.e more t.comes;
        sends = t.sends;
        path = t.path;
        by_path = t.by_path;
        link = t.link;
        octets = t.octets;
        once = t.once;
        has = t.has;
        nth = t.nth;
      });
}

module _ (law : (a : Made) → NpdusArePutOnce a) (a : Made) (L : Log) (e : TimedEvent) (may : IsTrue (may_come L e)) where
  sent_now : (x : LinkLife) (r : ℕ) (o : List ℕ) (once : IsPutOnce a L e) → HasNow L x → r ≡ length (npdus (put_over L x)) → own_message once.2 (Npdu once.1) (with_event L e) ≡ o
      → once.2.link ≡ x.name → SentIn a (L ++ goes_on a e L) x r o
  sent_now x r o once has nth is link = record {
    place = length L;
    dest = once.0;
    npdu = once.1;
    sent = λ k. record {
      e = e;
      comes = record { before = L; later = []; is = ap (λ (l : List Line). L ++ l) (sym (append-nil (goes_on a e L))); here = refl; may = may };
      sends = once.3;
      path = once.2;
      by_path = once.4;
      link = link;
      octets = sym is;
      once = once.5 ∙ ap (λ (p : List ℕ). Put once.2.link p ∷ []) is;
      has = has;
      nth = nth;
    };
  }

  -- the link began before this event
  begun_before : AreSent a L → (x : LinkLife) (r : ℕ) (o : List ℕ) → HasBegun L x → slice_get (npdus (put_over (L ++ goes_on a e L) x)) r ≡ Some o → SentIn a (L ++ goes_on a e L) x r o
  begun_before all x r o has h = by (list_any (begins x.name) (lines_since L x)) refl
    where
      D : List Line
      D = lines_since L x

      ls : List Line
      ls = goes_on a e L

      since : lines_since (L ++ ls) x ≡ D ++ ls
      since = (let below = got-within L x.began has.line has.at in drop-more (x.began + 1) L ls (omega arith))

      old : slice_get (npdus (put_over L x)) r ≡ Some o → SentIn a (L ++ ls) x r o
      old g = sent_still a L x r o ls (all x r o has g)

      over_now : list_any (begins x.name) D ≡ false → put_over L x ≡ flat_map (put_by x.name) D
      over_now none = ap (flat_map (put_by x.name)) (until-all x.name D none)

      both : list_any (begins x.name) D ≡ false → npdus (put_over (L ++ ls) x) ≡ npdus (put_over L x) ++ put_until x.name ls
      both none =
          ap (λ (l : List Line). npdus (flat_map (put_by x.name) (until_anew x.name l))) since
          ∙ ap (λ (l : List Line). npdus (flat_map (put_by x.name) l)) (until-none x.name D ls none)
          ∙ ap npdus (flat_map-append (put_by x.name) D (until_anew x.name ls))
          ∙ filter-append is_npdu (flat_map (put_by x.name) D) (flat_map (put_by x.name) (until_anew x.name ls))
          ∙ ap (λ (l : List (List ℕ)). npdus l ++ put_until x.name ls) (sym (over_now none))

      new : (none : list_any (begins x.name) D ≡ false) → (once : IsPutOnce a L e) → IsOne x.name once.2.link (own_message once.2 (Npdu once.1) (with_event L e)) (put_until x.name ls)
          → SentIn a (L ++ ls) x r o
      new none once (inl empty) = old (subst (λ (l : List (List ℕ)). slice_get l r ≡ Some o)
          (both none ∙ ap (λ (l : List (List ℕ)). npdus (put_over L x) ++ l) empty ∙ append-nil (npdus (put_over L x))) h)
      new none once (inr (one, link)) =
          elim (got-more (npdus (put_over L x)) (own_message once.2 (Npdu once.1) (with_event L e)) r o
          (subst (λ (l : List (List ℕ)). slice_get l r ≡ Some o) (both none ∙ ap (λ (l : List (List ℕ)). npdus (put_over L x) ++ l) one) h)) [
            | inl g ↦ old g
            | inr g ↦ sent_now x r o once (record { begun = has; since = none }) g.0 g.1 link
          ]

      none_new : list_any (begins x.name) D ≡ false → (npdus_put a L e ≡ []) ⊎ IsPutOnce a L e → SentIn a (L ++ ls) x r o
      none_new none (inl empty) =
          old (subst (λ (l : List (List ℕ)). slice_get l r ≡ Some o) (both none ∙ ap (λ (l : List (List ℕ)). npdus (put_over L x) ++ l) (none_put x.name ls empty)
          ∙ append-nil (npdus (put_over L x))) h)
      none_new none (inr once) = new none once (one_put x.name once.2.link (own_message once.2 (Npdu once.1) (with_event L e)) ls once.5)

      by : (b : Bool) → list_any (begins x.name) D ≡ b → SentIn a (L ++ ls) x r o
      by true some = old (subst (λ (l : List Line). slice_get (npdus (flat_map (put_by x.name) l)) r ≡ Some o) (ap (until_anew x.name) since ∙ until-some x.name D ls some) h)
      by false none = none_new none (law a L e may)

  -- it begins by this event, which then is no Send
  begun_now : (x : LinkLife) (r j : ℕ) (o : List ℕ) (m : Line) → x.began ≡ length L + j → slice_get (goes_on a e L) j ≡ Some m → begins x.name m ≡ true
      → slice_get (npdus (put_over (L ++ goes_on a e L) x)) r ≡ Some o → ⊥
  begun_now x r j o m is at begins_it h = by (law a L e may)
    where
      ls : List Line
      ls = goes_on a e L

      since : lines_since (L ++ ls) x ≡ drop (j + 1) ls
      since = drop-behind L ls (x.began + 1) (j + 1) (omega arith)

      by : (npdus_put a L e ≡ []) ⊎ IsPutOnce a L e → ⊥
      by (inl empty) =
          nothing_got r o (subst (λ (l : List (List ℕ)). slice_get l r ≡ Some o)
          (ap (λ (l : List Line). put_until x.name l) since ∙ none_put x.name (drop (j + 1) ls) (none_behind (j + 1) ls empty)) h)
      by (inr once) = any-got (begins x.name) ls j m at begins_it (send_begins a L e once.0 once.1 x.name once.3)

  step : AreSent a L → AreSent a (L ++ goes_on a e L)
  step all x r o has h = by (got-either L (goes_on a e L) x.began has.line has.at)
    where
      by : (slice_get L x.began ≡ Some has.line) ⊎ ((j : ℕ) × (x.began ≡ length L + j) × (slice_get (goes_on a e L) j ≡ Some has.line)) → SentIn a (L ++ goes_on a e L) x r o
      by (inl at) = begun_before all x r o (record { line = has.line; at = at; begins_it = has.begins_it }) h
      by (inr (j, is, at)) = absurd (begun_now x r j o has.line is at has.begins_it h)

none_sent : (a : Made) → AreSent a []
none_sent a x r o has h = absurd (none has.at)
  where
    none : slice_get [] x.began ≡ Some has.line → ⊥
    none g = cc

pub puts_what_was_sent : ((a : Made) → NpdusArePutOnce a) → (n : NodeRun) → PutsWhatWasSent n
puts_what_was_sent law n k x r o has h =
    let s = lasting n.made (AreSent n.made) (none_sent n.made) (λ L e all may. step law n.made L e may all) n.events n.may x r o has h in
    record { sending = record { node = k; place = s.place; dest = s.dest; npdu = s.npdu }; of_node = refl; sent = s.sent k }

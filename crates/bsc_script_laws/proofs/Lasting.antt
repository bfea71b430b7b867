-- After the close of a name only the word that its connection is gone is written under it.
-- It serves the clauses of `a_line_goes_on`.
use Rattle.std.proofs.Common.{◌≡◌, ◌≢◌, ◌⊎◌, inl, inr, ℕ, nat_le, nat_lt, Bool, true, false, not, ◌&&◌, cond, List, [], ◌∷◌, ◌++◌, codes, fold, length, map, Some, None, refl, sym, subst}
use Rattle.std.specs.Prelude.{⊤}
use Rattle.std.specs.List.{AllByRecursion}
use Rattle.bsc_history.specs.declared.limits.About.{About}
use Rattle.bsc_history.specs.declared.call.Call.TheVariants.{Stop as StopCall, Count}
use Rattle.bsc_history.specs.Counting.{counts}
use Rattle.bsc_history.specs.Ends.{unleft}
use Rattle.bsc_history.specs.Laws.{Apart}
use Rattle.bsc_history.specs.Legality.{Legal}
use Rattle.bsc_history.specs.Replies.{is_stopped}
use Rattle.bsc_history.proofs.Numbers.{numbers_are_new}
use Rattle.bsc_history.proofs.Parts.{Legal-first}
use Rattle.bsc_accept.specs.declared.event.Event.TheVariants.{Tick}
use Rattle.bsc_accept.specs.declared.reason.Reason.TheVariants.{Nothing as NoReason}
use Rattle.bsc_accept.specs.Steps.{closing}
use Rattle.bsc_script.specs.declared.line.Line.{Line}
use Rattle.bsc_script.specs.declared.line.Line.TheVariants.{Nothing, Hub, Open, In, Text, Drop, Hold, Free, At, Stop, Counts}
use Rattle.bsc_script.specs.Written.{Said}
use Rattle.bsc_lines.specs.Replies.{counts_words}
use Rattle.bsc_script.specs.States.{State, Peer, new_peer, is_open, peer_of, with_peer, with_opened, with_held}
use Rattle.bsc_script.specs.Calls.{called, is_worn}
use Rattle.bsc_script.specs.Carrying.{ScriptOutcome, quietly, writes, ends, tells}
use Rattle.bsc_script.specs.Receiving.{receives}
use Rattle.bsc_script.specs.Emptying.{OnConnection, is_emptied, empties, emptied_one, emptied, in_order_of_joining}
use Rattle.bsc_script.specs.Holding.{name_of}
use Rattle.bsc_script.specs.Running.{most_names, hub_says, gets_text, holds, latest, ticks_one, stops, says_counts, line_outcome, run_line}
use Rattle.bsc_script.specs.Laws.{EndsByClosing}
use Rattle.bsc_script_laws.proofs.Adding.{accepted, all_emptied_added, nothing_added, of_name, then_emptied}
use Rattle.bsc_script_laws.proofs.Aside.{AreOthers, IsAside, tells_aside, empties_aside, in_order_others, none_of}
use Rattle.bsc_lemmas.proofs.Lists.{all_append as all-push}
use Rattle.std.proofs.lemmas.Option.{same_Some as same_some}
use Rattle.bsc_script_laws.proofs.Ending.{ArePlain, EndsOnly, IsOver, IsPlain, closes_only, empties_only, ends_only, plain_ends, plain_then, receives_only, tells_only, then_aside}
use Rattle.bsc_script_laws.proofs.Once.{AtMostOne, OneIn, apart_one, ends_one, one_joined, one_mapped, one_pushed, peers_joined, peers_on, receives_one, ticks_one_kept}

-- ---- one peer after the other

-- So far the name wrote plain lines, or it is over and none of these peers has it.
abbrev pub SoFar : List ℕ → List Peer → ScriptOutcome → Type 0
SoFar n ks o = ArePlain n o.said ⊎ (IsOver n o × AllByRecursion (λ (q : Peer). q.name ≢ n) ks)

next : (n : List ℕ) (p : Peer) (ks : List Peer) (o : ScriptOutcome) (u : ScriptOutcome) → AtMostOne n (p ∷ ks) → SoFar n (p ∷ ks) o → EndsOnly n p u → (p.name ≢ n → AreOthers n o.state → IsAside n u)
    → SoFar n ks (record { state = u.state; said = o.said ++ u.said })
next n p ks o u one (inl f) (inl g) aside = inl (all-push (λ (l : Said). l.name ≡ n → IsPlain l) o.said u.said f g)
next n p ks o u one (inl f) (inr g) aside = inr (record { lines = plain_then n o.said u.said f g.1.lines; others = g.1.others }, one.0 g.0)
next n p ks o u one (inr v) g aside =
    let a = aside v.1.0 v.0.others in
    inr (record { lines = then_aside n o.said u.said v.0.lines a.lines; others = a.others }, v.1.1)

ticks_so_far : (n : List ℕ) (ks : List Peer) (o : ScriptOutcome) → AtMostOne n ks → SoFar n ks o → SoFar n [] (fold ticks_one o ks)
ticks_so_far n [] o one h = h
ticks_so_far n (k ∷ ks) o one h =
    let e = Tick o.state.clock in
    ticks_so_far n ks (ticks_one o k) one.1 (next n k ks o (tells o.state k e) one h (tells_only n o.state k e) (λ other others. tells_aside n o.state k e other others))

skipped : (n : List ℕ) (p : Peer) (ks : List Peer) (o : ScriptOutcome) → SoFar n (p ∷ ks) o → SoFar n ks o
skipped n p ks o (inl f) = inl f
skipped n p ks o (inr v) = inr (v.0, v.1.1)

either_so_far : (n : List ℕ) (ks : List Peer) (b : Bool) (x y : ScriptOutcome) → SoFar n ks x → SoFar n ks y → SoFar n ks (cond b x y)
either_so_far n ks true x y f g = f
either_so_far n ks false x y f g = g

emptied_so_far : (n : List ℕ) (xs : List OnConnection) (o : ScriptOutcome) → AtMostOne n (map (λ (x : OnConnection). x.peer) xs) → SoFar n (map (λ (x : OnConnection). x.peer) xs) o
    → SoFar n [] (fold emptied_one o xs)
emptied_so_far n [] o one h = h
emptied_so_far n (x ∷ xs) o one h =
    let ks = map (λ (y : OnConnection). y.peer) xs in
    let u = empties o.state x.peer x.conn in
    emptied_so_far n xs (emptied_one o x) one.1
    (either_so_far n ks (is_emptied o.state x.peer x.conn) (record { state = u.state; said = o.said ++ u.said }) o
    (next n x.peer ks o u one h (empties_only n o.state x.peer x.conn) (λ other others. empties_aside n o.state x.peer x.conn other others))
    (skipped n x.peer ks o h))

-- ---- a line, before the outboxes are emptied

-- The name wrote plain lines, or is over; and it is open once at most.
pub record IsFit (n : List ℕ) (o : ScriptOutcome) : Type 0 where
  pub lines : SoFar n [] o
  pub one : OneIn n o.state

only_so_far : (n : List ℕ) (k : Peer) (o : ScriptOutcome) → EndsOnly n k o → SoFar n [] o
only_so_far n k o (inl f) = inl f
only_so_far n k o (inr g) = inr (g.1, tt)

as_fit : (n : List ℕ) (x o : ScriptOutcome) → x ≡ o → IsFit n x → IsFit n o
as_fit n x o e h = subst (IsFit n) e h

quiet_fit : (n : List ℕ) (s : State) → OneIn n s → IsFit n (quietly s)
quiet_fit n s h = record { lines = inl tt; one = h }

either_fit : (n : List ℕ) (b : Bool) (x y : ScriptOutcome) → IsFit n x → IsFit n y → IsFit n (cond b x y)
either_fit n true x y f g = f
either_fit n false x y f g = g

outcome_fit : (n : List ℕ) (s : State) (line : Line) (o : ScriptOutcome) → OneIn n s → line_outcome s line ≡ Some o → IsFit n o
outcome_fit n s Nothing o h e = as_fit n (quietly s) o (same_some (quietly s) o e) (quiet_fit n s h)
outcome_fit n s (Hub about) o h e = cc
outcome_fit n s (Open name) o h e = opening (is_open s name) refl e
  where
    x : ScriptOutcome
    x = quietly (with_opened (new_peer name s.clock) s)

    opening : (b : Bool) → is_open s name ≡ b → cond (not b && nat_lt (length s.peers) most_names) (Some x) None ≡ Some o → IsFit n o
    opening true is f = cc
    opening false is f =
        as_fit n x o (accepted (nat_lt (length s.peers) most_names) x o f)
        (quiet_fit n (with_opened (new_peer name s.clock) s) (one_pushed n s.peers (new_peer name s.clock) h
        (λ same. subst (λ (m : List ℕ). AllByRecursion (λ (p : Peer). p.name ≢ m) s.peers) same (none_of name s.peers is))))
outcome_fit n s (In name m) o h e =
    let p = of_name (λ q. receives s q m) (peer_of s name) o e in
    as_fit n (receives s p.0 m) o p.2 (record { lines = only_so_far n p.0 (receives s p.0 m) (receives_only n s p.0 m); one = receives_one n s p.0 m h })
outcome_fit n s (Text name) o h e =
    let p = of_name (gets_text s) (peer_of s name) o e in
    as_fit n (gets_text s p.0) o p.2 (record { lines = only_so_far n p.0 (gets_text s p.0) (closes_only n s p.0 (closing 1003 NoReason)); one = ends_one n s p.0 h })
outcome_fit n s (Drop name) o h e =
    let p = of_name (ends s) (peer_of s name) o e in
    as_fit n (ends s p.0) o p.2 (record { lines = only_so_far n p.0 (ends s p.0) (ends_only n s p.0); one = ends_one n s p.0 h })
outcome_fit n s (Hold name) o h e =
    let p = of_name (λ q. holds s q true) (peer_of s name) o e in
    as_fit n (holds s p.0 true) o p.2 (quiet_fit n (with_peer (with_held true p.0) s) (one_mapped n (with_held true p.0) s.peers h))
outcome_fit n s (Free name) o h e =
    let p = of_name (λ q. holds s q false) (peer_of s name) o e in
    as_fit n (holds s p.0 false) o p.2 (quiet_fit n (with_peer (with_held false p.0) s) (one_mapped n (with_held false p.0) s.peers h))
outcome_fit n s (At ms) o h e =
    let b = quietly (record s { clock = ms }) in
    let x = fold ticks_one b s.peers in
    as_fit n x o (accepted (nat_le s.clock ms && nat_le ms latest) x o e) (record { lines = ticks_so_far n s.peers b h (inl tt); one = ticks_one_kept n s.peers b h })
outcome_fit n s Stop o h e =
    as_fit n (stops s) o (same_some (stops s) o e)
    (either_fit n (is_stopped s.history) (writes (hub_says (codes "stopped already")) (quietly s)) (writes (hub_says (counts_words (counts s.history))) (quietly (called s StopCall)))
    (record { lines = inl ((λ f. (refl, refl)), tt); one = h }) (record { lines = inl ((λ f. (refl, refl)), tt); one = h }))
outcome_fit n s Counts o h e =
    as_fit n (says_counts s) o (same_some (says_counts s) o e)
    (either_fit n (is_worn s) (writes (hub_says (codes "worn")) (quietly s)) (writes (hub_says (counts_words (counts s.history))) (quietly (called s Count)))
    (record { lines = inl ((λ f. (refl, refl)), tt); one = h }) (record { lines = inl ((λ f. (refl, refl)), tt); one = h }))

-- ---- a line

all_on : (n : List ℕ) (xs : List OnConnection) → AllByRecursion (λ (x : OnConnection). x.peer.name ≢ n) xs → AllByRecursion (λ (q : Peer). q.name ≢ n) (peers_on xs)
all_on n [] h = tt
all_on n (x ∷ xs) h = (h.0, all_on n xs h.1)

before_emptied : (n : List ℕ) (u : ScriptOutcome) → SoFar n [] u → SoFar n (peers_on (in_order_of_joining u.state)) u
before_emptied n u (inl f) = inl f
before_emptied n u (inr v) = inr (v.0, all_on n (in_order_of_joining u.state) (in_order_others n (unleft u.state.history) u.state.peers v.0.others))

so_far_ends : (n : List ℕ) (o : ScriptOutcome) → SoFar n [] o → EndsByClosing n o.said
so_far_ends n o (inl f) = plain_ends n o.said f
so_far_ends n o (inr v) = v.0.lines

emptied_ends : (n : List ℕ) (a : About) (u : ScriptOutcome) → Legal a (emptied u).state.history → IsFit n u → EndsByClosing n (emptied u).said
emptied_ends n a u legal fit =
    let xs = in_order_of_joining u.state in
    let more = all_emptied_added (λ e. ⊤) (λ e c l. tt) u.state.about u.state.history xs u (nothing_added (λ e. ⊤) u.state) in
    let before : Legal a u.state.history = Legal-first a u.state.history more.more (subst (Legal a) more.behind legal) in
    let one = subst (AtMostOne n) (sym (peers_joined u.state.peers (unleft u.state.history)))
    (one_joined n u.state.peers (unleft u.state.history) fit.one (numbers_are_new a u.state.history before)) in
    so_far_ends n (emptied u) (emptied_so_far n xs u one (before_emptied n u fit.lines))

pub line_ends : (n : List ℕ) (a : About) (s : State) → Apart name_of s.peers → (line : Line) (o : ScriptOutcome) → Legal a o.state.history → run_line s line ≡ Some o → EndsByClosing n o.said
unfolding run_line
line_ends n a s apart line o legal e =
    let u = then_emptied (line_outcome s line) o e in
    subst (λ (w : ScriptOutcome). EndsByClosing n w.said) u.2
    (emptied_ends n a u.0 (subst (λ (w : ScriptOutcome). Legal a w.state.history) (sym u.2) legal) (outcome_fit n s line u.0 (apart_one n s.peers apart) u.1))

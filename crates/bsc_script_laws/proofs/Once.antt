-- A name is open once at most, whatever a line does, and stands once at most in the order of joining.
-- It serves the clauses of `a_line_goes_on` and `a_script_is_of_one_hub`.
use Rattle.std.proofs.Common.{◌≡◌, ◌≢◌, inl, inr, ℕ, Bool, true, false, not, cond, List, [], ◌∷◌, ◌++◌, filter, flat_map, fold, map, Option, Some, None, refl, ap, sym, ◌∙◌}
use Rattle.std.specs.Prelude.{⊤}
use Rattle.std.specs.List.{AllByRecursion}
use Rattle.bsc_octets.specs.declared.identity.Identity.{Identity}
use Rattle.bsc_history.specs.declared.connection.Connection.{Connection}
use Rattle.bsc_history.specs.declared.call.Call.TheVariants.{Connect, Forward}
use Rattle.bsc_history.specs.declared.reply.Reply.{Reply}
use Rattle.bsc_history.specs.declared.reply.Reply.TheVariants.{Joined, Refused, Appended, Closed, Skipped, NoHolder, SentAll, NotCurrent, Stopped, Gone, Counted}
use Rattle.bsc_history.specs.Laws.{Apart}
use Rattle.bsc_accept.specs.declared.event.Event.{Event}
use Rattle.bsc_accept.specs.declared.event.Event.TheVariants.{Message as Came, Joined as HasJoined, Refused as WasRefused, Tick}
use Rattle.bsc_accept.specs.declared.step.Step.{Step}
use Rattle.bsc_accept.specs.declared.step.Step.TheVariants.{Ask, Put, PutClose, Up, Close, Nothing as NoStep}
use Rattle.bsc_script.specs.Written.{says}
use Rattle.bsc_lines.specs.Replies.{forward_words}
use Rattle.bsc_script.specs.States.{State, Peer, is_named, has_joined_as, told, joined_as, with_peer}
use Rattle.bsc_script.specs.Calls.{called, reply_in, is_worn}
use Rattle.bsc_script.specs.Carrying.{ScriptOutcome, quietly, writes, leaves_if, ends, does, step_of, tells}
use Rattle.bsc_script.specs.Receiving.{wears, gets_reply, connects, forwards_if, verdict_on, acts, receives}
use Rattle.bsc_script.specs.Emptying.{OnConnection}
use Rattle.bsc_script.specs.Holding.{name_of}
use Rattle.bsc_script.specs.Running.{ticks_one}
use Rattle.bsc_script.proofs.Peers.{same_name, has_conn}
use Rattle.bsc_history.proofs.Lists.{In as Within, In_from_all, all_from_In, In-filter}
use Rattle.bsc_lemmas.proofs.Lists.{all_append as all-push}
use Rattle.bsc_lemmas.proofs.Options.{same_some_number as one_number}

-- At most one of these has the name.
abbrev pub AtMostOne : List ℕ → List Peer → Type 0
AtMostOne n [] = ⊤
AtMostOne n (p ∷ ks) = (p.name ≡ n → AllByRecursion (λ (q : Peer). q.name ≢ n) ks) × AtMostOne n ks

pub apart_one : (n : List ℕ) (ks : List Peer) → Apart name_of ks → AtMostOne n ks
apart_one n [] h = tt
apart_one n (p ∷ ks) h = ((λ e. others ks h.0 e), apart_one n ks h.1)
  where
    others : (js : List Peer) → AllByRecursion (λ q. name_of p ≢ name_of q) js → p.name ≡ n → AllByRecursion (λ (q : Peer). q.name ≢ n) js
    others [] a e = tt
    others (j ∷ js) a e = ((λ f. a.0 (e ∙ sym f)), others js a.1 e)

-- ---- a name is open once at most

pub name_kept : (j p : Peer) (b : Bool) → is_named j.name p ≡ b → (cond b j p).name ≡ p.name
name_kept j p true is = sym (same_name p.name j.name is)
name_kept j p false is = refl

none_mapped : (n : List ℕ) (j : Peer) (ks : List Peer) → AllByRecursion (λ (q : Peer). q.name ≢ n) ks → AllByRecursion (λ (q : Peer). q.name ≢ n) (map (λ p. cond (is_named j.name p) j p) ks)
none_mapped n j [] h = tt
none_mapped n j (p ∷ ks) h = ((λ e. h.0 (sym (name_kept j p (is_named j.name p) refl) ∙ e)), none_mapped n j ks h.1)

pub one_mapped : (n : List ℕ) (j : Peer) (ks : List Peer) → AtMostOne n ks → AtMostOne n (map (λ p. cond (is_named j.name p) j p) ks)
one_mapped n j [] h = tt
one_mapped n j (p ∷ ks) h = ((λ e. none_mapped n j ks (h.0 (sym (name_kept j p (is_named j.name p) refl) ∙ e))), one_mapped n j ks h.1)

none_filtered : (n : List ℕ) (q : Peer → Bool) (ks : List Peer) → AllByRecursion (λ (p : Peer). p.name ≢ n) ks → AllByRecursion (λ (p : Peer). p.name ≢ n) (filter q ks)
none_filtered n q ks h = all_from_In (λ (p : Peer). p.name ≢ n) (filter q ks) (λ p i. In_from_all (λ (r : Peer). r.name ≢ n) p ks h (In-filter q p ks i).0)

one_filtered : (n : List ℕ) (q : Peer → Bool) (ks : List Peer) → AtMostOne n ks → AtMostOne n (filter q ks)
one_filtered n q [] h = tt
one_filtered n q (p ∷ ks) h = by (q p) (one_filtered n q ks h.1)
  where
    by : (b : Bool) → AtMostOne n (filter q ks) → AtMostOne n (cond b (p ∷ filter q ks) (filter q ks))
    by true rest = ((λ e. none_filtered n q ks (h.0 e)), rest)
    by false rest = rest

pub one_pushed : (n : List ℕ) (ks : List Peer) (k : Peer) → AtMostOne n ks → (k.name ≡ n → AllByRecursion (λ (p : Peer). p.name ≢ n) ks) → AtMostOne n (ks ++ k ∷ [])
one_pushed n [] k h new = ((λ e. tt), tt)
one_pushed n (p ∷ ks) k h new = (
  (λ e. all-push (λ (q : Peer). q.name ≢ n) ks (k ∷ []) (h.0 e) ((λ f. (new f).0 e), tt)),
  one_pushed n ks k h.1 (λ f. (new f).1),
)

abbrev pub OneIn : List ℕ → State → Type 0
OneIn n s = AtMostOne n s.peers

either_one : (n : List ℕ) (b : Bool) (x y : ScriptOutcome) → OneIn n x.state → OneIn n y.state → OneIn n (cond b x y).state
either_one n true x y f g = f
either_one n false x y f g = g

left_one : (n : List ℕ) (s : State) (k : Peer) (o : Option ℕ) → OneIn n s → OneIn n (leaves_if s k o).state
left_one n s k None h = one_filtered n (λ p. not (is_named k.name p)) s.peers h
left_one n s k (Some c) h = one_filtered n (λ p. not (is_named k.name p)) s.peers h

pub ends_one : (n : List ℕ) (s : State) (k : Peer) → OneIn n s → OneIn n (ends s k).state
ends_one n s k h = left_one n s k k.conn h

does_one : (n : List ℕ) (s : State) (k : Peer) (x : Step) → OneIn n s → OneIn n (does s k x).state
does_one n s k (Ask who) h = h
does_one n s k (Put octets) h = h
does_one n s k (PutClose octets c) h = ends_one n s k h
does_one n s k Up h = h
does_one n s k (Close c) h = ends_one n s k h
does_one n s k NoStep h = h

tells_one : (n : List ℕ) (s : State) (k : Peer) (e : Event) → OneIn n s → OneIn n (tells s k e).state
tells_one n s k e h = does_one n (with_peer (told e k) s) (told e k) (step_of s k e) (one_mapped n (told e k) s.peers h)

replied_one : (n : List ℕ) (s : State) (k : Peer) (r : Reply) → OneIn n s → OneIn n (gets_reply s k r).state
replied_one n s k (Joined conn replaced) h = tells_one n s (joined_as conn k) HasJoined h
replied_one n s k (Refused refusal) h = tells_one n s k (WasRefused refusal) h
replied_one n s k (Appended conn) h = h
replied_one n s k (Closed conn) h = h
replied_one n s k (Skipped conn) h = h
replied_one n s k NoHolder h = h
replied_one n s k (SentAll to missed skipped) h = h
replied_one n s k (NotCurrent ending) h = h
replied_one n s k Stopped h = h
replied_one n s k (Gone ending taken) h = h
replied_one n s k (Counted c) h = h

connects_one : (n : List ℕ) (s : State) (k : Peer) (who : Identity) → OneIn n s → OneIn n (connects s k who).state
connects_one n s k who h =
    either_one n (is_worn s) (wears s k) (gets_reply (called s (Connect who)) k (reply_in s (Connect who))) (ends_one n s k h) (replied_one n (called s (Connect who)) k (reply_in s (Connect who)) h)

forwards_one : (n : List ℕ) (s : State) (k : Peer) (o : Option ℕ) (m : List ℕ) → OneIn n s → OneIn n (forwards_if s k o m).state
forwards_one n s k None m h = h
forwards_one n s k (Some c) m h =
    either_one n (is_worn s) (wears s k) (writes (says k.name (forward_words (reply_in s (Forward c m)))) (quietly (called s (Forward c m)))) (ends_one n s k h) h

acts_one : (n : List ℕ) (s : State) (k : Peer) (m : List ℕ) (x : Step) → OneIn n s → OneIn n (acts s k m x).state
acts_one n s k m (Ask who) h = connects_one n s k who h
acts_one n s k m Up h = forwards_one n s k k.conn m h
acts_one n s k m (Put octets) h = h
acts_one n s k m (PutClose octets c) h = ends_one n s k h
acts_one n s k m (Close c) h = ends_one n s k h
acts_one n s k m NoStep h = h

pub receives_one : (n : List ℕ) (s : State) (k : Peer) (m : List ℕ) → OneIn n s → OneIn n (receives s k m).state
receives_one n s k m h =
    let e = Came s.clock (verdict_on s k m) in
    acts_one n (with_peer (told e k) s) (told e k) m (step_of s k e) (one_mapped n (told e k) s.peers h)

pub ticks_one_kept : (n : List ℕ) (ks : List Peer) (o : ScriptOutcome) → OneIn n o.state → OneIn n (fold ticks_one o ks).state
ticks_one_kept n [] o h = h
ticks_one_kept n (k ∷ ks) o h = ticks_one_kept n ks (ticks_one o k) (tells_one n o.state k (Tick o.state.clock) h)

-- ---- in the order of joining each name stands once at most

abbrev pub on : ℕ → Peer → OnConnection
on c k = record { conn = c; peer = k }

abbrev pub peers_on : List OnConnection → List Peer
peers_on xs = map (λ (x : OnConnection). x.peer) xs

abbrev pub in_order : List Peer → List Connection → List OnConnection
in_order ks cs = flat_map (λ (x : Connection). map (λ (k : Peer). record { conn = x.number; peer = k }) (filter (has_joined_as x.number) ks)) cs

peers_append : (xs ys : List OnConnection) → peers_on (xs ++ ys) ≡ peers_on xs ++ peers_on ys
peers_append [] ys = refl
peers_append (x ∷ xs) ys = ap (λ (l : List Peer). x.peer ∷ l) (peers_append xs ys)

peers_back : (c : ℕ) (ks : List Peer) → peers_on (map (λ (k : Peer). record { conn = c; peer = k }) ks) ≡ ks
peers_back c [] = refl
peers_back c (k ∷ ks) = ap (λ (l : List Peer). k ∷ l) (peers_back c ks)

-- the peers in the order of joining, without their numbers
abbrev pub joined_peers : List Peer → List Connection → List Peer
joined_peers ks [] = []
joined_peers ks (c ∷ cs) = filter (has_joined_as c.number) ks ++ joined_peers ks cs

pub peers_joined : (ks : List Peer) (cs : List Connection) → peers_on (in_order ks cs) ≡ joined_peers ks cs
peers_joined ks [] = refl
peers_joined ks (c ∷ cs) =
    peers_append (map (λ (k : Peer). record { conn = c.number; peer = k }) (filter (has_joined_as c.number) ks)) (in_order ks cs)
    ∙ ap (λ (l : List Peer). l ++ peers_on (in_order ks cs)) (peers_back c.number (filter (has_joined_as c.number) ks))
    ∙ ap (λ (l : List Peer). filter (has_joined_as c.number) ks ++ l) (peers_joined ks cs)

one_append : (n : List ℕ) (xs ys : List Peer) → AtMostOne n xs → AtMostOne n ys → AllByRecursion (λ (p : Peer). p.name ≡ n → AllByRecursion (λ (q : Peer). q.name ≢ n) ys) xs → AtMostOne n (xs ++ ys)
one_append n [] ys h g c = g
one_append n (x ∷ xs) ys h g c = ((λ e. all-push (λ (q : Peer). q.name ≢ n) xs ys (h.0 e) (c.0 e)), one_append n xs ys h.1 g c.1)

-- who has the name has one connection
same_conn : (n : List ℕ) (k : Peer) (ks : List Peer) → AtMostOne n ks → Within k ks → k.name ≡ n → AllByRecursion (λ (p : Peer). p.name ≡ n → p.conn ≡ k.conn) ks
same_conn n k [] h i e = tt
same_conn n k (p ∷ ks) h (inl same) e = ((λ f. ap (λ (q : Peer). q.conn) same), others ks (h.0 (ap name_of same ∙ e)))
  where
    others : (js : List Peer) → AllByRecursion (λ (q : Peer). q.name ≢ n) js → AllByRecursion (λ (q : Peer). q.name ≡ n → q.conn ≡ k.conn) js
    others [] a = tt
    others (j ∷ js) a = ((λ f. absurd (a.0 f)), others js a.1)
same_conn n k (p ∷ ks) h (inr m) e = ((λ f. absurd (In_from_all (λ (q : Peer). q.name ≢ n) k ks (h.0 f) m e)), same_conn n k ks h.1 m e)

none_joined : (n : List ℕ) (c : ℕ) (o : Option ℕ) (ks : List Peer) (cs : List Connection) → o ≡ Some c → AllByRecursion (λ (p : Peer). p.name ≡ n → p.conn ≡ o) ks
    → AllByRecursion (λ (x : Connection). c ≢ x.number) cs
    → AllByRecursion (λ (q : Peer). q.name ≢ n) (joined_peers ks cs)
none_joined n c o ks [] is h a = tt
none_joined n c o ks (d ∷ cs) is h a =
    all-push (λ (q : Peer). q.name ≢ n) (filter (has_joined_as d.number) ks) (joined_peers ks cs)
    (all_from_In (λ (q : Peer). q.name ≢ n) (filter (has_joined_as d.number) ks) (λ p i e. (
    let f = In-filter (has_joined_as d.number) p ks i in
    a.0 (one_number c d.number (sym is ∙ sym (In_from_all (λ (q : Peer). q.name ≡ n → q.conn ≡ o) p ks h f.0 e) ∙ has_conn d.number p f.1)))))
    (none_joined n c o ks cs is h a.1)

pub one_joined : (n : List ℕ) (ks : List Peer) (cs : List Connection) → AtMostOne n ks → Apart (λ (c : Connection). c.number) cs → AtMostOne n (joined_peers ks cs)
one_joined n ks [] h a = tt
one_joined n ks (c ∷ cs) h a =
    one_append n (filter (has_joined_as c.number) ks) (joined_peers ks cs) (one_filtered n (has_joined_as c.number) ks h) (one_joined n ks cs h a.1)
    (all_from_In (λ (p : Peer). p.name ≡ n → AllByRecursion (λ (q : Peer). q.name ≢ n) (joined_peers ks cs)) (filter (has_joined_as c.number) ks) (λ p i e. (
    let f = In-filter (has_joined_as c.number) p ks i in
    none_joined n c.number p.conn ks cs (has_conn c.number p f.1) (same_conn n p ks h f.0 e) a.0)))

-- The looks of a line find what had been written before it.
-- It serves the clauses of `a_line_goes_on` and `a_script_is_of_one_hub`.
use Rattle.std.proofs.Common.{◌≡◌, ◌≢◌, ℕ, Bool, true, false, cond, List, [], ◌∷◌, ◌++◌, find, length, drop, map, Some, refl, ap, sym, ◌∙◌, subst, true≢false}
use Rattle.std.specs.List.{AllByRecursion}
use Rattle.bsc_history.specs.declared.entry.Entry.{Entry}
use Rattle.bsc_history.specs.declared.looks.Look.{Look}
use Rattle.bsc_history.specs.declared.call.Call.TheVariants.{Forward}
use Rattle.bsc_history.specs.Ends.{is_one}
use Rattle.bsc_history.specs.Laws.{Apart}
use Rattle.bsc_history.specs.Legality.{looks_at}
use Rattle.bsc_accept.specs.declared.event.Event.{Event}
use Rattle.bsc_script.specs.declared.line.Line.{Line}
use Rattle.bsc_script.specs.States.{State, Peer, is_named, has_joined_as, told, peer_of, with_peer}
use Rattle.bsc_script.specs.Calls.{written_in, written_for}
use Rattle.bsc_script.specs.Carrying.{ScriptOutcome}
use Rattle.bsc_script.specs.Holding.{name_of}
use Rattle.bsc_script.specs.Running.{run_line}
use Rattle.bsc_script.specs.Laws.{LooksAtWritten}
use Rattle.bsc_script.proofs.Peers.{same_name}
use Rattle.bsc_script_laws.proofs.Adding.{Adds, line_added}
use Rattle.std.proofs.lemmas.Option.{same_Some as same_some}

-- ---- the peer of a name

-- who is found under a name has it
pub found_name : (n : List ℕ) (k : Peer) (ks : List Peer) → find (is_named n) ks ≡ Some k → k.name ≡ n
found_name n k [] e = cc
found_name n k (p ∷ ks) e = by (is_named n p) refl (found_name n k ks)
  where
    by : (b : Bool) → is_named n p ≡ b → (find (is_named n) ks ≡ Some k → k.name ≡ n) → k.name ≡ n
    by true is rec = (let same : p ≡ k = same_some p k (sym (ap (λ (c : Bool). cond c (Some p) (find (is_named n) ks)) is) ∙ e) in ap name_of (sym same) ∙ same_name p.name n is)
    by false is rec = rec (sym (ap (λ (c : Bool). cond c (Some p) (find (is_named n) ks)) is) ∙ e)

-- each that has the name is the one that is found
abbrev pub IsAloneIn : List ℕ → Peer → List Peer → Type 0
IsAloneIn n k ks = AllByRecursion (λ (p : Peer). is_named n p ≡ true → p ≡ k) ks

none_named : (n : List ℕ) (k : Peer) (ks : List Peer) → AllByRecursion (λ p. n ≢ name_of p) ks → IsAloneIn n k ks
none_named n k [] h = tt
none_named n k (p ∷ ks) h = ((λ is. absurd (h.0 (sym (same_name p.name n is)))), none_named n k ks h.1)

pub alone_in : (n : List ℕ) (k : Peer) (ks : List Peer) → Apart name_of ks → find (is_named n) ks ≡ Some k → IsAloneIn n k ks
alone_in n k [] h e = tt
alone_in n k (p ∷ ks) h e = by (is_named n p) refl (alone_in n k ks h.1)
  where
    by : (b : Bool) → is_named n p ≡ b → (find (is_named n) ks ≡ Some k → IsAloneIn n k ks) → IsAloneIn n k (p ∷ ks)
    by true is rec =
        let same : p ≡ k = same_some p k (sym (ap (λ (c : Bool). cond c (Some p) (find (is_named n) ks)) is) ∙ e) in
        ((λ i. same), none_named n k ks (subst (λ (m : List ℕ). AllByRecursion (λ q. m ≢ name_of q) ks) (same_name p.name n is) h.0))
    by false is rec =
        ((λ i. absurd (true≢false (sym i ∙ is))), rec (sym (ap (λ (c : Bool). cond c (Some p) (find (is_named n) ks)) is) ∙ e))

-- ---- what was written for a connection

-- Where a peer is put in the place of one with the same connection and frames, as many frames were written as before.
pub written_same : (n : List ℕ) (k j : Peer) (c : ℕ) (ks : List Peer) → j.conn ≡ k.conn → j.frames ≡ k.frames → IsAloneIn n k ks
    → written_in (find (has_joined_as c) (map (λ p. cond (is_named n p) j p) ks)) ≡ written_in (find (has_joined_as c) ks)
written_same n k j c [] conn frames h = refl
written_same n k j c (p ∷ ks) conn frames h = by (is_named n p) refl (written_same n k j c ks conn frames h.1)
  where
    rest : List Peer
    rest = map (λ q. cond (is_named n q) j q) ks

    first : (a b : Bool) (x y : Peer) → a ≡ b → x.frames ≡ y.frames → written_in (find (has_joined_as c) rest) ≡ written_in (find (has_joined_as c) ks)
        → written_in (cond a (Some x) (find (has_joined_as c) rest)) ≡ written_in (cond b (Some y) (find (has_joined_as c) ks))
    first true true x y s f r = ap length f
    first false false x y s f r = r
    first true false x y s f r = absurd (true≢false s)
    first false true x y s f r = absurd (true≢false (sym s))

    by : (b : Bool) → is_named n p ≡ b → written_in (find (has_joined_as c) rest) ≡ written_in (find (has_joined_as c) ks)
        → written_in (find (has_joined_as c) (cond (is_named n p) j p ∷ rest)) ≡ written_in (find (has_joined_as c) (p ∷ ks))
    by true is r =
        let same : k ≡ p = sym (h.0 is) in
        ap (λ (b : Bool). written_in (find (has_joined_as c) (cond b j p ∷ rest))) is
        ∙ first (has_joined_as c j) (has_joined_as c p) j p (ap (is_one c) conn ∙ ap (has_joined_as c) same) (frames ∙ ap (λ (q : Peer). q.frames) same) r
    by false is r =
        ap (λ (b : Bool). written_in (find (has_joined_as c) (cond b j p ∷ rest))) is
        ∙ first (has_joined_as c p) (has_joined_as c p) p p refl refl r

-- a peer that was told something has what it had
pub told_written : (s : State) (name : List ℕ) (k : Peer) (e : Event) (c : ℕ) → Apart name_of s.peers → peer_of s name ≡ Some k → written_for (with_peer (told e k) s) c ≡ written_for s c
told_written s name k e c apart is =
    let own : find (is_named k.name) s.peers ≡ Some k = ap (λ (n : List ℕ). find (is_named n) s.peers) (found_name name k s.peers is) ∙ is in
    written_same k.name k (told e k) c s.peers refl refl (alone_in k.name k s.peers apart own)

-- ---- the looks of a line

pub all_found : (s t : State) (cs : List ℕ) → ((c : ℕ) → written_for t c ≡ written_for s c)
    → AllByRecursion (λ (l : Look). l.taken ≡ written_for s l.conn) (map (λ c. record { conn = c; taken = written_for t c }) cs)
all_found s t [] h = tt
all_found s t (c ∷ cs) h = (h c, all_found s t cs h)

plain_looks : (s : State) (e : Entry) → e.looks ≡ [] → LooksAtWritten s e
plain_looks s e none = subst (λ (ls : List Look). AllByRecursion (λ (l : Look). l.taken ≡ written_for s l.conn) ls) (sym none) tt

pub line_looks : (s : State) → Apart name_of s.peers → (line : Line) (o : ScriptOutcome) → run_line s line ≡ Some o → Adds (LooksAtWritten s) s.about s.history o.state
line_looks s apart line o e =
    line_added (LooksAtWritten s) (λ x c l. plain_looks s x l) s
    (λ name k v c m is. all_found s (with_peer (told v k) s) (looks_at s.history (Forward c m)) (λ d. told_written s name k v d apart is))
    line o e

pub drop-front : {A : Type 0} (xs ys : List A) → drop (length xs) (xs ++ ys) ≡ ys
drop-front [] ys = refl
drop-front (x ∷ xs) ys = drop-front xs ys

pub looks_of : (s : State) → Apart name_of s.peers → (line : Line) (o : ScriptOutcome) → run_line s line ≡ Some o → AllByRecursion (LooksAtWritten s) (drop (length s.history) o.state.history)
looks_of s apart line o e =
    let a = line_looks s apart line o e in
    subst (λ (l : List Entry). AllByRecursion (LooksAtWritten s) l) (sym (ap (drop (length s.history)) a.behind ∙ drop-front s.history a.more)) a.each

pub behind_of : (s : State) → Apart name_of s.peers → (line : Line) (o : ScriptOutcome) → run_line s line ≡ Some o → (more : List Entry) × (o.state.history ≡ s.history ++ more)
behind_of s apart line o e = (let a = line_looks s apart line o e in (a.more, a.behind))

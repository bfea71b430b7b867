-- Open names as a hub keeps them: where they stand, and what is kept of them.
-- It serves clauses of functions of `script_hub`.
use Rattle.std.proofs.Common.{◌≡◌, ◌≢◌, inl, inr, ℕ, suc, ◌+◌, Bool, true, false, cond, List, [], ◌∷◌, length, map, find, position, slice_get, Option, Some, None, is_some}
use Rattle.std.proofs.Common.{option_map, Vec, Global, refl, ap, sym, ◌∙◌}
use Rattle.std.specs.Ordering.{nat_cmp}
use Rattle.std.specs.BTreeMap.{get}
use Rattle.bsc_text.specs.Lines.{same_octets}
use Rattle.bsc_history.specs.Laws.{Apart}
use Rattle.bsc_history.proofs.Lists.{In, In_from_all}
use Rattle.bsc_script.specs.declared.peer.Peer.{Peer as KeptPeer}
use Rattle.bsc_script.specs.declared.script_hub.ScriptHub.{ScriptHub}
use Rattle.bsc_script.specs.States.{Peer, is_named, has_joined_as}
use Rattle.bsc_script.specs.Holding.{name_of, kept_in, IsIndexed}
use Rattle.bsc_script.proofs.Pairs.{get-map, position-same, position-gives, same_length}
use Rattle.bsc_script.proofs.Peers.{same_name, name_same, other_name}
use Rattle.bsc_script.proofs.Changes.{kept}
use Rattle.bsc_lemmas.proofs.Lists.{position-cons, position-none}
use Rattle.std.proofs.lemmas.Option.{same_Some as one_some}

both_ways : (p q : Bool) → (p ≡ true → q ≡ true) → (q ≡ true → p ≡ true) → p ≡ q
both_ways true true f g = refl
both_ways true false f g = sym (f refl)
both_ways false true f g = g refl
both_ways false false f g = refl

pub octets_sym : (a b : List ℕ) → same_octets a b ≡ same_octets b a
octets_sym a b = both_ways (same_octets a b) (same_octets b a) (λ h. name_same b a (sym (same_name a b h))) (λ h. name_same a b (sym (same_name b a h)))

-- ---- what is kept at a place

pub name_kept : (t : ScriptHub) (ks : List Peer) (at : ℕ) (k : Peer) (x : Vec ℕ Global × KeptPeer) → IsIndexed t ks → slice_get ks at ≡ Some k → slice_get t.peers.entries at ≡ Some x
    → x.0.items ≡ k.name
name_kept t ks at k x ix here was =
    let by_peers : slice_get (map name_of ks) at ≡ Some k.name = get-map name_of ks at k here in
    let by_kept : slice_get (map (λ e. e.0) (kept_in t)) at ≡ Some x.0.items = get-map (λ (e : List ℕ × KeptPeer). e.0) (kept_in t) at (kept x) (get-map kept t.peers.entries at x was) in
    one_some x.0.items k.name (sym by_kept ∙ ap (λ l. slice_get l at) (sym ix.names) ∙ by_peers)

pub peer_kept : (t : ScriptHub) (at : ℕ) (x : Vec ℕ Global × KeptPeer) (e : List ℕ × KeptPeer) → slice_get t.peers.entries at ≡ Some x → slice_get (kept_in t) at ≡ Some e → e ≡ kept x
peer_kept t at x e was is = one_some e (kept x) (sym is ∙ get-map kept t.peers.entries at x was)

-- ---- the place of a name

named_keys : (n : List ℕ) (ks : List Peer) (es : List (Vec ℕ Global × KeptPeer)) → map name_of ks ≡ map (λ e. e.0) (map kept es)
    → map (is_named n) ks ≡ map (λ (v : Vec ℕ Global). same_octets n v.items) (map (λ e. e.0) es)
named_keys n [] [] h = refl
named_keys n [] (e ∷ es) h = cc
named_keys n (k ∷ ks) [] h = cc
named_keys n (k ∷ ks) (e ∷ es) h =
    let here : k.name ≡ e.0.items = cc in
    let rest : map name_of ks ≡ map (λ x. x.0) (map kept es) = cc in
    ap (λ (b : Bool). b ∷ map (is_named n) ks) (ap (λ (m : List ℕ). same_octets m n) here ∙ octets_sym e.0.items n)
    ∙ ap (λ (l : List Bool). same_octets n e.0.items ∷ l) (named_keys n ks es rest)

-- A name stands where its peer does.
pub named_place : (t : ScriptHub) (ks : List Peer) (n : List ℕ) → IsIndexed t ks → position (λ (v : Vec ℕ Global). same_octets n v.items) (map (λ e. e.0) t.peers.entries) ≡ position (is_named n) ks
named_place t ks n ix = sym (position-same (is_named n) (λ (v : Vec ℕ Global). same_octets n v.items) ks (map (λ e. e.0) t.peers.entries) (named_keys n ks t.peers.entries ix.names))

-- There is a place exactly where there is one that passes.
pub placed : {A : Type 0} (p : A → Bool) (xs : List A) → is_some (position p xs) ≡ is_some (find p xs)
placed p xs = by (position p xs) refl
  where
    by : (o : Option ℕ) → position p xs ≡ o → is_some o ≡ is_some (find p xs)
    by None e = sym (ap is_some (position-none p xs e))
    by (Some i) e = sym (ap is_some (position-gives p xs i e).3)

unplaced : {A : Type 0} (p : A → Bool) (xs : List A) → find p xs ≡ None → position p xs ≡ None
unplaced p xs h = by (position p xs) refl
  where
    by : (o : Option ℕ) → position p xs ≡ o → o ≡ None
    by None e = refl
    by (Some i) e = absurd (none_some (position-gives p xs i e).0 (sym h ∙ (position-gives p xs i e).3))
      where
        none_some : {A : Type 0} (x : A) → None ≡ Some x → ⊥
        none_some x g = cc

-- The peer that a test finds first stands where its name does.
place_by_name : (p : Peer → Bool) (ks : List Peer) (k : Peer) → Apart name_of ks → find p ks ≡ Some k → position (is_named k.name) ks ≡ position p ks
place_by_name p [] k h f = cc
place_by_name p (x ∷ xs) k h f = by (p x) refl (λ g. place_by_name p xs k h.1 g)
  where
    among : (ys : List Peer) → find p ys ≡ Some k → In k ys
    among [] g = cc
    among (y ∷ ys) g = found (p y) refl (λ l. among ys l)
      where
        found : (b : Bool) → p y ≡ b → (find p ys ≡ Some k → In k ys) → In k (y ∷ ys)
        found true e rec = inl (one_some y k (sym (ap (λ (b : Bool). cond b (Some y) (find p ys)) e) ∙ g))
        found false e rec = inr (rec (sym (ap (λ (b : Bool). cond b (Some y) (find p ys)) e) ∙ g))

    by : (b : Bool) → p x ≡ b → (find p xs ≡ Some k → position (is_named k.name) xs ≡ position p xs) → position (is_named k.name) (x ∷ xs) ≡ position p (x ∷ xs)
    by true e rec =
        let same : x ≡ k = one_some x k (sym (ap (λ (b : Bool). cond b (Some x) (find p xs)) e) ∙ f) in
        position-cons (is_named k.name) x xs
        ∙ ap (λ (b : Bool). cond b (Some 0) (option_map (λ i. 1 + i) (position (is_named k.name) xs))) (name_same x.name k.name (ap name_of same))
        ∙ sym (position-cons p x xs ∙ ap (λ (b : Bool). cond b (Some 0) (option_map (λ i. 1 + i) (position p xs))) e)
    by false e rec =
        let later : find p xs ≡ Some k = sym (ap (λ (b : Bool). cond b (Some x) (find p xs)) e) ∙ f in
        let other : x.name ≢ k.name = In_from_all (λ y. name_of x ≢ name_of y) k xs h.0 (among xs later) in
        position-cons (is_named k.name) x xs
        ∙ ap (λ (b : Bool). cond b (Some 0) (option_map (λ i. 1 + i) (position (is_named k.name) xs))) (other_name x.name k.name other)
        ∙ ap (option_map (λ i. 1 + i)) (rec later)
        ∙ sym (position-cons p x xs ∙ ap (λ (b : Bool). cond b (Some 0) (option_map (λ i. 1 + i) (position p xs))) e)

-- ---- the place of a connection

-- Its name is found, and stands where its peer does.
pub conn_place : (t : ScriptHub) (ks : List Peer) (c : ℕ) (n : List ℕ) → IsIndexed t ks → get nat_cmp t.names c ≡ Some n → position (is_named n) ks ≡ position (has_joined_as c) ks
conn_place t ks c n ix got = by (find (has_joined_as c) ks) refl
  where
    by : (o : Option Peer) → find (has_joined_as c) ks ≡ o → position (is_named n) ks ≡ position (has_joined_as c) ks
    by None e = absurd (none_some (sym (ix.index c ∙ ap (option_map name_of) e) ∙ got))
      where
        none_some : None ≡ Some n → ⊥
        none_some g = cc
    by (Some k) e =
        let same : k.name ≡ n = one_some k.name n (sym (ix.index c ∙ ap (option_map name_of) e) ∙ got) in
        ap (λ (m : List ℕ). position (is_named m) ks) (sym same) ∙ place_by_name (has_joined_as c) ks k ix.apart e

-- No name is found, and there is no place.
pub no_conn_place : (t : ScriptHub) (ks : List Peer) (c : ℕ) → IsIndexed t ks → get nat_cmp t.names c ≡ None → position (has_joined_as c) ks ≡ None
no_conn_place t ks c ix none = unplaced (has_joined_as c) ks (nobody (find (has_joined_as c) ks) (sym (ix.index c) ∙ none))
  where
    nobody : (o : Option Peer) → option_map name_of o ≡ None → o ≡ None
    nobody None e = refl
    nobody (Some k) e = cc

pub names_length : (t : ScriptHub) (ks : List Peer) → IsIndexed t ks → length ks ≡ length t.peers.entries
names_length t ks ix = same_length name_of (λ (e : List ℕ × KeptPeer). e.0) ks (kept_in t) ix.names ∙ mapped t.peers.entries
  where
    mapped : (es : List (Vec ℕ Global × KeptPeer)) → length (map kept es) ≡ length es
    mapped [] = refl
    mapped (e ∷ es) = ap suc (mapped es)

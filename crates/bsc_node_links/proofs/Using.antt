-- What the links in a run's hands told, and the log of its node, line by line.
-- It serves clauses of functions of `laws`.
use Rattle.std.proofs.Common.{◌≡◌, ◌⊎◌, inl, inr, ℕ, ◌+◌, Bool, true, false, cond, ◌||◌, List, [], ◌∷◌, ◌++◌, length, length-append, Option, Some, None, is_some, Ok, Err, refl, ap}
use Rattle.std.proofs.Common.{sym, subst, ◌∙◌, ◌<◌, arith, append-nil, append_assoc}
use Rattle.std.specs.Prelude.{filter_map, flat_map, option_to_list, slice_get}
use Rattle.std.specs.List.{list_any}
use Rattle.std.proofs.lemmas.Grind.{flat_map-append}
use Rattle.std.proofs.lemmas.List.Folds.{list_any-append}
use Rattle.bsc_edge.specs.declared.fault.LinkFault.TheVariants.{Failed}
use Rattle.bsc_edge.specs.declared.said.Said.{Said}
use Rattle.bsc_edge.specs.declared.said.Said.TheVariants.{Put as SaidPut, Closed as SaidClosed}
use Rattle.bsc_edge.specs.Dialling.{Takes as LeavesBehind}
use Rattle.bsc_edge.specs.declared.arrived.Arrived.TheVariants.{Link, Quiet as NoLink}
use Rattle.bsc_edge.specs.Told.{Grows, Leaves}
use Rattle.bsc_edge.proofs.Common.{grows_none, grows_then}
use Rattle.bsc_accept.specs.declared.closing.Closing.{Closing}
use Rattle.bsc_accept.specs.Reasons.{reason_text}
use Rattle.bsc_node.specs.declared.link_name.LinkName.{LinkName}
use Rattle.bsc_node.specs.declared.link_name.LinkName.TheVariants.{Hub, Direct}
use Rattle.bsc_node.specs.declared.action.Action.{Action}
use Rattle.bsc_node.specs.declared.action.Action.TheVariants.{Dial, Take, Refuse, Put, Close, Deliver, Tell, Draw}
use Rattle.bsc_node.specs.Logs.{Line, came, initiating, accepting, connector, slot, resolution, did, Log, action_of}
use Rattle.bsc_node.specs.Links.{begins, begins_in_slots, is_in_slots, is_there, same_link}
use Rattle.bsc_node.proofs.Common.{same_link-is}
use Rattle.bsc_node.proofs.Told.{same_link-self}
use Rattle.bsc_node_laws.specs.Links.{EachMay, MayStand}
use Rattle.bsc_node_laws.proofs.Agreeing.{Agrees, AgreesBy, changes_of, news_in}
use Rattle.bsc_node_laws.proofs.Carrying.{carries_keeps, does_keeps, in_hand_named}
use Rattle.bsc_node_laws.proofs.Same.{apart-link, in_slots_named, link-here, stands_open}
use Rattle.bsc_node_laws.proofs.There.{begins-dial, begins-take}
use Rattle.bsc_node_laws.proofs.Turning.{no_true}
use Rattle.bsc_node_run.specs.declared.news.Change.{Change}
use Rattle.bsc_node_run.specs.Performing.{Carries, Closes, Does, IsAnswered, Puts, Refuses, Takes, after_dial, kind_of}
use Rattle.bsc_node_run.specs.Turning.{HasAnswered}
use Rattle.bsc_node_run.specs.Worlds.{Admitting, Dialling, World, Same, forgets, is_name}
use Rattle.bsc_node_links.specs.Coming.{EachTaken, HasDialled, HasGiven, IsTakenBy, LeftBy, arrived_by, by_lines, dialled_by, link_by}
use Rattle.bsc_node_links.specs.Lives.{HasBegun, LinkLife, given_by, given_over, lines_since, put_by, put_over, until_anew}
use Rattle.bsc_node_links.specs.Talks.{AreFirstOf, given_by as said_given, given_in, put_by as said_put, put_in}
use Rattle.bsc_node_links.specs.Using.{HasUse}
use Rattle.bsc_lemmas.proofs.Lists.{got-more, got-split, got-within}
use Rattle.bsc_lemmas.proofs.Numbers.{same_suc}
use Rattle.bsc_node_links.proofs.Lists.{drop-behind, drop-more, got-first}
use Rattle.bsc_node_links.proofs.Lives.{until-all, until-none, until-some}

-- ---- lists

more_first : (os ps qs : List (List ℕ)) → AreFirstOf os ps → AreFirstOf os (ps ++ qs)
more_first os ps qs (later, is) = (later ++ qs, ap (λ (l : List (List ℕ)). l ++ qs) is ∙ append_assoc os later qs)

-- what the lines of a life give with one line more, by which no link of the name begins
one_more : (f : Line → List (List ℕ)) (name : LinkName) (D : List Line) (m : Line) → list_any (begins name) D ≡ false → begins name m ≡ false
    → flat_map f (until_anew name D) ++ f m ≡ flat_map f (until_anew name (D ++ m ∷ []))
one_more f name D m none not_it =
    let first : until_anew name (m ∷ []) ≡ m ∷ [] = ap (λ (b : Bool). cond b [] (m ∷ [])) not_it in
    let whole : until_anew name (D ++ m ∷ []) ≡ D ++ m ∷ [] = until-none name D (m ∷ []) none ∙ ap (λ (l : List Line). D ++ l) first in
    ap (λ (l : List Line). flat_map f l ++ f m) (until-all name D none)
    ∙ ap (λ (l : List (List ℕ)). flat_map f D ++ l) (sym (append-nil (f m)))
    ∙ sym (flat_map-append f D (m ∷ [])) ∙ ap (flat_map f) (sym whole)

-- and with a line by which one begins
none_more : (name : LinkName) (D : List Line) (m : Line) → list_any (begins name) D ≡ false → begins name m ≡ true → until_anew name D ≡ until_anew name (D ++ m ∷ [])
none_more name D m none it =
    let first : until_anew name (m ∷ []) ≡ [] = ap (λ (b : Bool). cond b [] (m ∷ [])) it in
    until-all name D none ∙ sym (append-nil D) ∙ ap (λ (l : List Line). D ++ l) (sym first) ∙ sym (until-none name D (m ∷ []) none)

any_more : (name : LinkName) (D : List Line) (m : Line) (b c : Bool) → list_any (begins name) D ≡ b → begins name m ≡ c → (b || (c || false)) ≡ list_any (begins name) (D ++ m ∷ [])
any_more name D m b c is here = sym (list_any-append (begins name) D (m ∷ []) ∙ ap (λ (p : Bool). p || (begins name m || false)) is ∙ ap (λ (p : Bool). b || (p || false)) here)

pub same_self : {L : Type 0} (w : World L) → Same w w
same_self w = record { link = λ name. refl; arrived = refl; over = refl; due = refl; waiting = refl; finished = refl; dialled = refl; held = refl }

pub dial_named : (name : LinkName) (uri : List ℕ) → begins_in_slots (did (Dial name uri)) ≡ true → is_name name ≡ true
dial_named (Hub s) uri h = refl
dial_named (Direct k) uri h = in_slots_named k h

-- where no link of a name is there, none is in hand
pub none_in_hand : {L : Type 0} (name : LinkName) (w : World L) (M : Log) → is_there name M ≡ false → Agrees w M → w.link name ≡ None
none_in_hand {L} name w M out A = by (is_name name) refl
  where
    gone : (t o : Bool) (l : Option L) (cs : List Change) → t ≡ false → AgreesBy t o l cs → l ≡ None
    gone true o l cs e h = cc
    gone false o l cs e h = h.0

    by : (b : Bool) → is_name name ≡ b → w.link name ≡ None
    by true is = gone (is_there name M) (stands_open name M) (w.link name) (changes_of name (news_in w)) out (A.links name is)
    by false isnt = A.others name isnt

module _ {L : Type 0} (talk : L → Option (List Said)) where
  -- ---- one link

  -- A link that is in hand, and of which is known that it came so, told since that it gave the ones and that the others were put on it.
  abbrev pub IsInHand : Option (Option L) → L → List (List ℕ) → List (List ℕ) → Type 0
  IsInHand z l given put = (first : L) × (z ≡ Some (Some first)) × (T : List Said) × Grows (talk first) (talk l) T × (given_in T ≡ given) × (put_in T ≡ put)

  -- One that isn't, any more or at all.
  abbrev pub IsGone : Option (Option L) → List (List ℕ) → List (List ℕ) → Type 0
  IsGone z given put = (link : Option L) × (z ≡ Some link) × HasUse talk link given put

  abbrev pub StandsSo : Option (Option L) → Option L → List (List ℕ) → List (List ℕ) → Type 0
  StandsSo z (Some l) given put = IsInHand z l given put
  StandsSo z None given put = IsGone z given put

  -- by whether a link of its name has begun anew
  abbrev pub StandsBy : Option (Option L) → Bool → Option L → List (List ℕ) → List (List ℕ) → Type 0
  StandsBy z true o given put = IsGone z given put
  StandsBy z false o given put = StandsSo z o given put

  pub let_go : (z : Option (Option L)) (l : L) (g p : List (List ℕ)) → IsInHand z l g p → IsGone z g p
  let_go z l g p (first, is, T, grows, gave, took) = (Some first, is, (l, record { T = T; grows = grows; gave = gave; took = ([], sym took ∙ sym (append-nil (put_in T))) }))

  pub used : (z : Option (Option L)) (o : Option L) (g p : List (List ℕ)) → StandsSo z o g p → IsGone z g p
  used z (Some l) g p h = let_go z l g p h
  used z None g p h = h

  -- It tells one call more.
  pub says : (z : Option (Option L)) (k l : L) (s : Said) (g p : List (List ℕ)) → Grows (talk k) (talk l) (s ∷ []) → IsInHand z k g p → IsInHand z l (g ++ said_given s) (p ++ said_put s)
  says z k l s g p grew (first, is, T, grows, gave, took) = (
    first,
    is,
    T ++ s ∷ [],
    grows_then (talk first) (talk k) (talk l) T (s ∷ []) grows grew,
    flat_map-append said_given T (s ∷ []) ∙ ap (λ (x : List (List ℕ)). given_in T ++ x) (append-nil (said_given s)) ∙ ap (λ (x : List (List ℕ)). x ++ said_given s) gave,
    flat_map-append said_put T (s ∷ []) ∙ ap (λ (x : List (List ℕ)). put_in T ++ x) (append-nil (said_put s)) ∙ ap (λ (x : List (List ℕ)). x ++ said_put s) took,
  )

  -- What is put once the link is gone goes nowhere.
  pub more_put : (z : Option (Option L)) (g p q : List (List ℕ)) → IsGone z g p → IsGone z g (p ++ q)
  more_put z g p q (None, is, none) = (None, is, none)
  more_put z g p q (Some first, is, (l, u)) = (Some first, is, (l, record { T = u.T; grows = u.grows; gave = u.gave; took = more_first (put_in u.T) p q u.took }))

  like : (z : Option (Option L)) (b c : Bool) (o : Option L) (g h p q : List (List ℕ)) → b ≡ c → g ≡ h → p ≡ q → StandsBy z b o g p → StandsBy z c o h q
  like z b c o g h p q e f k s =
      subst (λ (x : Bool). StandsBy z x o h q) e (subst (λ (x : List (List ℕ)). StandsBy z b o x q) f (subst (λ (x : List (List ℕ)). StandsBy z b o g x) k s))

  pub so : (z : Option (Option L)) (o o' : Option L) (g g' p p' : List (List ℕ)) → o ≡ o' → g ≡ g' → p ≡ p' → StandsSo z o g p → StandsSo z o' g' p'
  so z o o' g g' p p' e f k s =
      subst (λ (x : Option L). StandsSo z x g' p') e (subst (λ (x : List (List ℕ)). StandsSo z o x p') f (subst (λ (x : List (List ℕ)). StandsSo z o g x) k s))

  -- how the link of a life stands, by the lines since it began
  abbrev On : Option (Option L) → World L → LinkLife → List Line → Type 0
  On z v x l = StandsBy z (list_any (begins x.name) l) (v.link x.name) (flat_map (given_by x.name) (until_anew x.name l)) (flat_map (put_by x.name) (until_anew x.name l))

-- ---- links by lines

module _ {L : Type 0} where
  pub lines_more : {B : Type 0} (f : Line → Option L → List B) (M : Log) (K : List (Option L)) (m : Line) (c : Option L) → length K ≡ length M
      → by_lines f M K ++ f m c ≡ by_lines f (M ++ m ∷ []) (K ++ c ∷ [])
  lines_more f [] [] m c h = sym (append-nil (f m c))
  lines_more f [] (k ∷ K) m c h = cc
  lines_more f (n ∷ M) [] m c h = cc
  lines_more {B} f (n ∷ M) (k ∷ K) m c h =
      append_assoc (f n k) (by_lines f M K) (f m c) ∙ ap (λ (l : List B). f n k ++ l) (lines_more f M K m c (same_suc (length K) (length M) h))

  pub taken_more : (M : Log) (K : List (Option L)) (m : Line) (c : Option L) → length K ≡ length M → EachTaken M K → IsTakenBy m c → EachTaken (M ++ m ∷ []) (K ++ c ∷ [])
  taken_more [] [] m c e t h = (h, tt)
  taken_more [] (k ∷ K) m c e t h = cc
  taken_more (n ∷ M) [] m c e t h = cc
  taken_more (n ∷ M) (k ∷ K) m c e t h = (t.0, taken_more M K m c (same_suc (length K) (length M) e) t.1 h)

  pub left_none : (old : Option (List L)) → LeftBy old old []
  left_none None = tt
  left_none (Some o) = refl

  left_then : (old mid new : Option (List L)) (xs ys : List L) → LeftBy old mid xs → LeftBy mid new ys → LeftBy old new (xs ++ ys)
  left_then old mid None xs ys a b = tt
  left_then old None (Some n) xs ys a b = absurd b
  left_then None (Some m) (Some n) xs ys a b = absurd a
  left_then (Some o) (Some m) (Some n) xs ys a b = a ∙ ap (λ (l : List L). xs ++ l) b ∙ sym (append_assoc xs ys n)

  pub given_none : (d : Admitting L) → HasGiven d d []
  given_none d = record { left = left_none d.left; came = grows_none d.came }

  given_then : (first mid last : Admitting L) (xs ys : List L) → HasGiven first mid xs → HasGiven mid last ys → HasGiven first last (xs ++ ys)
  given_then first mid last xs ys a b = record {
    left = left_then first.left mid.left last.left xs ys a.left b.left;
    came = grows_then first.came mid.came last.came xs ys a.came b.came;
  }

  -- The links that the acceptor gave are those that were taken or refused, and the one that has arrived.
  abbrev pub HasArrived : Admitting L → Admitting L → Option L → Log → List (Option L) → Type 0
  HasArrived first door link M K = HasGiven first door (by_lines arrived_by M K ++ option_to_list link)

  -- At a line it is taken or refused, or stays there.
  abbrev pub Admitted : Line → Option L → Option L → Option L → Type 0
  Admitted m c before after = arrived_by m c ++ option_to_list after ≡ option_to_list before

  pub arrived_more : (first door : Admitting L) (k l : Option L) (M : Log) (K : List (Option L)) (m : Line) (c : Option L) → length K ≡ length M → Admitted m c k l
      → HasArrived first door k M K → HasArrived first door l (M ++ m ∷ []) (K ++ c ∷ [])
  arrived_more first door k l M K m c h is a =
      subst (HasGiven first door)
      (ap (λ (x : List L). by_lines arrived_by M K ++ x) (sym is) ∙ sym (append_assoc (by_lines arrived_by M K) (arrived_by m c) (option_to_list l))
      ∙ ap (λ (x : List L). x ++ option_to_list l) (lines_more arrived_by M K m c h)) a

  -- It gave one more.
  pub arrives : (first door door' : Admitting L) (k : Option L) (l : L) (M : Log) (K : List (Option L)) → k ≡ None → HasAnswered door door' (Ok (Link l)) → HasArrived first door k M K
      → HasArrived first door' (Some l) M K
  arrives first door door' k l M K none leaves a =
      subst (HasGiven first door') (ap (λ (x : List L). x ++ l ∷ []) (ap (λ (o : Option L). by_lines arrived_by M K ++ option_to_list o) none ∙ append-nil (by_lines arrived_by M K)))
      (given_then first door door' (by_lines arrived_by M K ++ option_to_list k) (l ∷ []) a (record { left = by door.left door'.left leaves.0; came = leaves.1 }))
    where
      by : (old new : Option (List L)) → Leaves old new (Ok (Link l)) → LeftBy old new (l ∷ [])
      by old None h = tt
      by None (Some n) h = absurd h
      by (Some o) (Some n) h = h

  -- It gave none.
  pub none_came : (first door door' : Admitting L) (k : Option L) (M : Log) (K : List (Option L)) → HasAnswered door door' (Ok NoLink) → HasArrived first door k M K → HasArrived first door' k M K
  none_came first door door' k M K leaves a =
      subst (HasGiven first door') (append-nil (by_lines arrived_by M K ++ option_to_list k))
      (given_then first door door' (by_lines arrived_by M K ++ option_to_list k) [] a (record { left = by door.left door'.left leaves.0; came = leaves.1 }))
    where
      by : (old new : Option (List L)) → Leaves old new (Ok NoLink) → LeftBy old new []
      by old None h = tt
      by None (Some n) h = absurd h
      by (Some o) (Some n) h = sym h

  -- what a dialer does by one line
  abbrev pub Calls : Line → Option L → Dialling L → Dialling L → Type 0
  Calls m c d e = Grows d.calls e.calls (dialled_by m c) × LeftBy d.left e.left (link_by m c) × Grows d.came e.came (link_by m c)

  -- It wasn't called.
  abbrev pub IsUncalled : Dialling L → Dialling L → Type 0
  IsUncalled d e = Grows d.calls e.calls [] × LeftBy d.left e.left [] × Grows d.came e.came []

  pub uncalled : (d e : Dialling L) → e ≡ d → IsUncalled d e
  uncalled d e same = subst (IsUncalled d) (sym same) (grows_none d.calls, left_none d.left, grows_none d.came)

  answered : (name : LinkName) (uri : List ℕ) (l : Option L) (d e : Dialling L) → Grows d.calls e.calls (record { uri = uri; kind = kind_of name; came = is_some l } ∷ [])
      → IsAnswered l d e → Calls (did (Dial name uri)) l d e
  answered name uri (Some l) d e g a = (g, by d.left e.left a.0, a.1)
    where
      by : (old new : Option (List L)) → LeavesBehind old new (Ok l) → LeftBy old new (l ∷ [])
      by old None h = tt
      by None (Some n) h = absurd h
      by (Some o) (Some n) h = h
  answered name uri None d e g a = (g, by d.left e.left a.0, a.1)
    where
      by : (old new : Option (List L)) → LeavesBehind old new (Err Failed) → LeftBy old new []
      by old None h = tt
      by None (Some n) h = absurd h
      by (Some o) (Some n) h = sym h

  dialled_more : (d e f : Dialling L) (M : Log) (K : List (Option L)) (m : Line) (c : Option L) → length K ≡ length M → HasDialled d e M K → Calls m c e f
      → HasDialled d f (M ++ m ∷ []) (K ++ c ∷ [])
  dialled_more d e f M K m c h a b = record {
    calls = subst (Grows d.calls f.calls) (lines_more dialled_by M K m c h) (grows_then d.calls e.calls f.calls (by_lines dialled_by M K) (dialled_by m c) a.calls b.0);
    left = subst (LeftBy d.left f.left) (lines_more link_by M K m c h) (left_then d.left e.left f.left (by_lines link_by M K) (link_by m c) a.left b.1);
    came = subst (Grows d.came f.came) (lines_more link_by M K m c h) (grows_then d.came e.came f.came (by_lines link_by M K) (link_by m c) a.came b.2);
  }

module _ {L : Type 0} (talk : L → Option (List Said)) (d : Dialling L) (first door : Admitting L) where
  -- ---- all links

  -- Each link that began, by these links that came: one that is the newest of its name by what is in hand, and each other is let go.
  abbrev pub EachStands : List (Option L) → World L → Log → Type 0
  EachStands K w M = (x : LinkLife) → HasBegun M x → StandsBy talk (slice_get K x.began) (list_any (begins x.name) (lines_since M x)) (w.link x.name) (given_over M x) (put_over M x)

  abbrev pub Uses : World L → Log → Type 0
  Uses w M = (K : List (Option L)) × (length K ≡ length M) × HasDialled d w.dialled M K × HasArrived first door w.arrived M K × EachTaken M K × EachStands K w M

  pub step_each : (w v : World L) (M : Log) (m : Line) (c : Option L) (K : List (Option L)) → length K ≡ length M
      → ((name : LinkName) (z : Option (Option L)) (g p : List (List ℕ)) → begins name m ≡ false → StandsSo talk z (w.link name) g p
      → StandsSo talk z (v.link name) (g ++ given_by name m) (p ++ put_by name m))
      → ((name : LinkName) → begins name m ≡ true → StandsSo talk (Some c) (v.link name) [] [])
      → EachStands K w M → EachStands (K ++ c ∷ []) v (M ++ m ∷ [])
  step_each w v M m c K long goes anew u x begun = by (got-more M m x.began begun.line begun.at)
    where
      last : (z : Option (Option L)) (b : Bool) → begins x.name m ≡ b → list_any (begins x.name) (lines_since M x) ≡ false → StandsSo talk z (w.link x.name) (given_over M x) (put_over M x)
          → On talk z v x (lines_since M x ++ m ∷ [])
      last z true here none s =
          like talk z true (list_any (begins x.name) (lines_since M x ++ m ∷ [])) (v.link x.name)
          (given_over M x) (flat_map (given_by x.name) (until_anew x.name (lines_since M x ++ m ∷ []))) (put_over M x) (flat_map (put_by x.name) (until_anew x.name (lines_since M x ++ m ∷ [])))
          (any_more x.name (lines_since M x) m false true none here) (ap (flat_map (given_by x.name)) (none_more x.name (lines_since M x) m none here))
          (ap (flat_map (put_by x.name)) (none_more x.name (lines_since M x) m none here))
          (used talk z (w.link x.name) (given_over M x) (put_over M x) s)
      last z false here none s =
          like talk z false (list_any (begins x.name) (lines_since M x ++ m ∷ [])) (v.link x.name)
          (given_over M x ++ given_by x.name m) (flat_map (given_by x.name) (until_anew x.name (lines_since M x ++ m ∷ [])))
          (put_over M x ++ put_by x.name m) (flat_map (put_by x.name) (until_anew x.name (lines_since M x ++ m ∷ [])))
          (any_more x.name (lines_since M x) m false false none here) (one_more (given_by x.name) x.name (lines_since M x) m none here) (one_more (put_by x.name) x.name (lines_since M x) m none here)
          (goes x.name z (given_over M x) (put_over M x) here s)

      old : (z : Option (Option L)) (b : Bool) → list_any (begins x.name) (lines_since M x) ≡ b → StandsBy talk z b (w.link x.name) (given_over M x) (put_over M x)
          → On talk z v x (lines_since M x ++ m ∷ [])
      old z true some s =
          like talk z true (list_any (begins x.name) (lines_since M x ++ m ∷ [])) (v.link x.name)
          (given_over M x) (flat_map (given_by x.name) (until_anew x.name (lines_since M x ++ m ∷ []))) (put_over M x) (flat_map (put_by x.name) (until_anew x.name (lines_since M x ++ m ∷ [])))
          (any_more x.name (lines_since M x) m true (begins x.name m) some refl)
          (ap (flat_map (given_by x.name)) (sym (until-some x.name (lines_since M x) (m ∷ []) some))) (ap (flat_map (put_by x.name)) (sym (until-some x.name (lines_since M x) (m ∷ []) some))) s
      old z false none s = last z (begins x.name m) refl none s

      by : (slice_get M x.began ≡ Some begun.line) ⊎ ((x.began ≡ length M) × (m ≡ begun.line)) → On talk (slice_get (K ++ c ∷ []) x.began) v x (lines_since (M ++ m ∷ []) x)
      by (inl at) =
          let below = got-within M x.began begun.line at in
          let within : x.began < length K = omega (arith, below, long) in
          subst (λ (z : Option (Option L)). On talk z v x (lines_since (M ++ m ∷ []) x)) (sym (got-first K (c ∷ []) x.began within))
          (subst (On talk (slice_get K x.began) v x) (sym (drop-more (x.began + 1) M (m ∷ []) (omega arith)))
          (old (slice_get K x.began) (list_any (begins x.name) (lines_since M x)) refl (u x (record { line = begun.line; at = at; begins_it = begun.begins_it }))))
      by (inr (is, same)) =
          let here : slice_get (K ++ c ∷ []) x.began ≡ Some c = ap (slice_get (K ++ c ∷ [])) (is ∙ sym long) ∙ got-split K c [] in
          subst (λ (z : Option (Option L)). On talk z v x (lines_since (M ++ m ∷ []) x)) (sym here)
          (subst (On talk (Some c) v x) (sym (drop-behind M (m ∷ []) (x.began + 1) 1 (omega arith))) (anew x.name (ap (begins x.name) same ∙ begun.begins_it)))

  -- One line more, by which this link came.
  pub step : (w v : World L) (M : Log) (m : Line) (c : Option L) → Calls m c w.dialled v.dialled → Admitted m c w.arrived v.arrived → IsTakenBy m c
      → ((name : LinkName) (z : Option (Option L)) (g p : List (List ℕ)) → begins name m ≡ false → StandsSo talk z (w.link name) g p
      → StandsSo talk z (v.link name) (g ++ given_by name m) (p ++ put_by name m))
      → ((name : LinkName) → begins name m ≡ true → StandsSo talk (Some c) (v.link name) [] [])
      → Uses w M → Uses v (M ++ m ∷ [])
  step w v M m c calls admitted taken goes anew (K, long, dialled, arrived, t, u) = (
    K ++ c ∷ [],
    length-append K (c ∷ []) ∙ ap (λ (n : ℕ). n + 1) long ∙ sym (length-append M (m ∷ [])),
    dialled_more d w.dialled v.dialled M K m c long dialled calls,
    arrived_more first door w.arrived v.arrived M K m c long admitted arrived,
    taken_more M K m c long t taken,
    step_each w v M m c K long goes anew u,
  )

  -- No line more.
  pub stays : (w v : World L) (M : Log) → v.dialled ≡ w.dialled → v.arrived ≡ w.arrived
      → ((name : LinkName) (z : Option (Option L)) (g p : List (List ℕ)) → StandsSo talk z (w.link name) g p → StandsSo talk z (v.link name) g p) → Uses w M → Uses v M
  stays w v M same door_same goes (K, long, dialled, arrived, t, u) = (
    K,
    long,
    subst (λ (e : Dialling L). HasDialled d e M K) (sym same) dialled,
    subst (λ (o : Option L). HasArrived first door o M K) (sym door_same) arrived,
    t,
    λ x begun. by x (slice_get K x.began) (list_any (begins x.name) (lines_since M x)) (u x begun),
  )
    where
      by : (x : LinkLife) (z : Option (Option L)) (b : Bool) → StandsBy talk z b (w.link x.name) (given_over M x) (put_over M x) → StandsBy talk z b (v.link x.name) (given_over M x) (put_over M x)
      by x z true s = s
      by x z false s = goes x.name z (given_over M x) (put_over M x) s

  pub uses_alike : (w v : World L) (M : Log) → v.dialled ≡ w.dialled → v.arrived ≡ w.arrived → ((name : LinkName) → v.link name ≡ w.link name) → Uses w M → Uses v M
  uses_alike w v M dials arr same = stays w v M dials arr (λ name z g p s. subst (λ (o : Option L). StandsSo talk z o g p) (sym (same name)) s)

  -- A line by which no link begins, nothing is given and nothing is put.
  pub quiet : (w v : World L) (M : Log) (m : Line) (c : Option L) → Calls m c w.dialled v.dialled → Admitted m c w.arrived v.arrived → IsTakenBy m c
      → ((name : LinkName) → v.link name ≡ w.link name) → ((name : LinkName) → begins name m ≡ false)
      → ((name : LinkName) → given_by name m ≡ []) → ((name : LinkName) → put_by name m ≡ []) → Uses w M → Uses v (M ++ m ∷ [])
  quiet w v M m c calls admitted taken same none gave put =
      step w v M m c calls admitted taken
      (λ name z g p b s. so talk z (w.link name) (v.link name) g (g ++ given_by name m) p (p ++ put_by name m) (sym (same name))
      (sym (ap (λ (x : List (List ℕ)). g ++ x) (gave name) ∙ append-nil g)) (sym (ap (λ (x : List (List ℕ)). p ++ x) (put name) ∙ append-nil p)) s)
      (λ name b. no_true (StandsSo talk (Some c) (v.link name) [] []) (begins name m) (none name) b)

  -- A line that touches the link of one name alone.
  pub touch : (name : LinkName) (w v : World L) (M : Log) (m : Line) (c : Option L) → Calls m c w.dialled v.dialled → Admitted m c w.arrived v.arrived → IsTakenBy m c
      → ((other : LinkName) → same_link name other ≡ false → v.link other ≡ w.link other)
      → ((other : LinkName) → same_link name other ≡ false → begins other m ≡ false)
      → ((other : LinkName) → same_link name other ≡ false → given_by other m ≡ []) → ((other : LinkName) → same_link name other ≡ false → put_by other m ≡ [])
      → ((z : Option (Option L)) (g p : List (List ℕ)) → begins name m ≡ false → StandsSo talk z (w.link name) g p → StandsSo talk z (v.link name) (g ++ given_by name m) (p ++ put_by name m))
      → (begins name m ≡ true → StandsSo talk (Some c) (v.link name) [] []) → Uses w M → Uses v (M ++ m ∷ [])
  touch name w v M m c calls admitted taken same none gave put goes anew =
      step w v M m c calls admitted taken (λ other z g p b s. old other z g p (same_link name other) refl b s) (λ other b. new other (same_link name other) refl b)
    where
      old : (other : LinkName) (z : Option (Option L)) (g p : List (List ℕ)) (i : Bool) → same_link name other ≡ i → begins other m ≡ false → StandsSo talk z (w.link other) g p
          → StandsSo talk z (v.link other) (g ++ given_by other m) (p ++ put_by other m)
      old other z g p true is b s =
          subst (λ (n : LinkName). begins n m ≡ false → StandsSo talk z (w.link n) g p → StandsSo talk z (v.link n) (g ++ given_by n m) (p ++ put_by n m)) (same_link-is name other is) (goes z g p) b s
      old other z g p false ne b s =
          so talk z (w.link other) (v.link other) g (g ++ given_by other m) p (p ++ put_by other m) (sym (same other ne))
          (sym (ap (λ (x : List (List ℕ)). g ++ x) (gave other ne) ∙ append-nil g)) (sym (ap (λ (x : List (List ℕ)). p ++ x) (put other ne) ∙ append-nil p)) s

      new : (other : LinkName) (i : Bool) → same_link name other ≡ i → begins other m ≡ true → StandsSo talk (Some c) (v.link other) [] []
      new other true is b = subst (λ (n : LinkName). begins n m ≡ true → StandsSo talk (Some c) (v.link n) [] []) (same_link-is name other is) anew b
      new other false ne b = no_true (StandsSo talk (Some c) (v.link other) [] []) (begins other m) (none other ne) b

  -- ---- actions

  pub puts_uses : (name : LinkName) (o : List ℕ) (w v : World L) (M : Log) (k : Option L) → w.link name ≡ k → Puts talk name o k w v → Agrees w M → Uses w M → Uses v (M ++ did (Put name o) ∷ [])
  puts_uses name o w v M None e s A =
      touch name w v M (did (Put name o)) None (uncalled w.dialled v.dialled s.dialled) (ap option_to_list s.arrived) tt (λ other ne. s.link other) (λ other ne. refl) (λ other ne. refl)
      (λ other ne. rw ne refl)
      (λ z g p b h. so talk z None (v.link name) g (g ++ []) (p ++ put_by name (did (Put name o))) (p ++ put_by name (did (Put name o))) (sym (s.link name ∙ e)) (sym (append-nil g)) refl
      (more_put talk z g p (put_by name (did (Put name o))) (so talk z (w.link name) None g g p p e refl refl h)))
      (λ b. cc)
  puts_uses name o w v M (Some l) e (m, inl (grew, s)) A =
      let named : is_name name ≡ true = in_hand_named name l w M e A in
      let now : Some m ≡ v.link name = sym (s.link name ∙ link-here name (Some m) w named) in
      let it : o ∷ [] ≡ put_by name (did (Put name o)) = rw (same_link-self name) refl in
      touch name w v M (did (Put name o)) None (uncalled w.dialled v.dialled s.dialled) (ap option_to_list s.arrived) tt
      (λ other ne. s.link other ∙ (apart-link name (Some m) w).link other ne) (λ other ne. refl) (λ other ne. refl) (λ other ne. rw ne refl)
      (λ z g p b h. so talk z (Some m) (v.link name) (g ++ []) (g ++ []) (p ++ o ∷ []) (p ++ put_by name (did (Put name o))) now refl (ap (λ (x : List (List ℕ)). p ++ x) it)
      (says talk z l m (SaidPut o None) g p grew (so talk z (w.link name) (Some l) g g p p e refl refl h)))
      (λ b. cc)
  puts_uses name o w v M (Some l) e (m, inr (grew, s)) A =
      let named : is_name name ≡ true = in_hand_named name l w M e A in
      let now : None ≡ v.link name = sym (s.link name ∙ link-here name None w named) in
      let it : o ∷ [] ≡ put_by name (did (Put name o)) = rw (same_link-self name) refl in
      touch name w v M (did (Put name o)) None (uncalled w.dialled v.dialled s.dialled) (ap option_to_list s.arrived) tt (λ other ne. s.link other ∙ (apart-link name None w).link other ne)
      (λ other ne. refl) (λ other ne. refl) (λ other ne. rw ne refl)
      (λ z g p b h. so talk z None (v.link name) (g ++ []) (g ++ []) (p ++ o ∷ []) (p ++ put_by name (did (Put name o))) now refl (ap (λ (x : List (List ℕ)). p ++ x) it)
      (let_go talk z m (g ++ []) (p ++ o ∷ []) (says talk z l m (SaidPut o (Some Failed)) g p grew (so talk z (w.link name) (Some l) g g p p e refl refl h))))
      (λ b. cc)

  pub closes_uses : (name : LinkName) (c : Closing) (w v : World L) (M : Log) (k : Option L) → w.link name ≡ k → Closes talk name c k w v → Agrees w M → Uses w M
      → Uses v (M ++ did (Close name c) ∷ [])
  closes_uses name c w v M None e s A = quiet w v M (did (Close name c)) None (uncalled w.dialled v.dialled s.dialled) (ap option_to_list s.arrived) tt (λ other. s.link other)
      (λ other. refl) (λ other. refl) (λ other. refl)
  closes_uses name c w v M (Some l) e (m, grew, s) A =
      let named : is_name name ≡ true = in_hand_named name l w M e A in
      let now : None ≡ v.link name = sym (s.link name ∙ link-here name None (forgets name w) named) in
      touch name w v M (did (Close name c)) None (uncalled w.dialled v.dialled s.dialled) (ap option_to_list s.arrived) tt
      (λ other ne. s.link other ∙ (apart-link name None (forgets name w)).link other ne) (λ other ne. refl) (λ other ne. refl) (λ other ne. refl)
      (λ z g p b h. so talk z None (v.link name) (g ++ []) (g ++ []) (p ++ []) (p ++ []) now refl refl
      (let_go talk z m (g ++ []) (p ++ []) (says talk z l m (SaidClosed c.code (reason_text c.reason)) g p grew (so talk z (w.link name) (Some l) g g p p e refl refl h))))
      (λ b. cc)

  -- a link that has just come
  pub new_link : (l : L) → IsInHand talk (Some (Some l)) l [] []
  new_link l = (l, refl, [], grows_none (talk l), refl, refl)

  dials_uses : (name : LinkName) (uri : List ℕ) (w v : World L) (M : Log) → is_there name M ≡ false → is_name name ≡ true → (l : Option L)
      → Grows w.dialled.calls v.dialled.calls (record { uri = uri; kind = kind_of name; came = is_some l } ∷ []) → IsAnswered l w.dialled v.dialled
      → Same v (record (after_dial name l w) { dialled = v.dialled }) → Agrees w M → Uses w M → Uses v (M ++ did (Dial name uri) ∷ [])
  dials_uses name uri w v M out named (Some l) grew came_so s A =
      let m : Line = did (Dial name uri) in
      let it : begins name m ≡ true = begins-dial name name uri ∙ same_link-self name in
      touch name w v M m (Some l) (answered name uri (Some l) w.dialled v.dialled grew came_so) (ap option_to_list s.arrived) tt
      (λ other ne. s.link other ∙ (apart-link name (Some l) w).link other ne) (λ other ne. begins-dial other name uri ∙ ne) (λ other ne. refl) (λ other ne. refl)
      (λ z g p b h. no_true (StandsSo talk z (v.link name) (g ++ []) (p ++ [])) (begins name m) b it)
      (λ b. so talk (Some (Some l)) (Some l) (v.link name) [] [] [] [] (sym (s.link name ∙ link-here name (Some l) w named)) refl refl (new_link l))
  dials_uses name uri w v M out named None grew came_so s A =
      let m : Line = did (Dial name uri) in
      let it : begins name m ≡ true = begins-dial name name uri ∙ same_link-self name in
      touch name w v M m None (answered name uri None w.dialled v.dialled grew came_so) (ap option_to_list s.arrived) tt (λ other ne. s.link other)
      (λ other ne. begins-dial other name uri ∙ ne) (λ other ne. refl) (λ other ne. refl)
      (λ z g p b h. no_true (StandsSo talk z (v.link name) (g ++ []) (p ++ [])) (begins name m) b it)
      (λ b. so talk (Some None) None (v.link name) [] [] [] [] (sym (s.link name ∙ none_in_hand name w M out A)) refl refl (None, refl, refl))

  -- The link that arrived is taken.
  pub takes_uses : (k : ℕ) (l : L) (w v : World L) (M : Log) → w.arrived ≡ Some l → is_in_slots k ≡ true → Carries talk (Take (Direct k) ∷ []) w v → Uses w M → Uses v (M ++ did (Take (Direct k)) ∷ [])
  takes_uses k l w v M e slots (x, takes, s) u = uses_alike x v (M ++ did (Take (Direct k)) ∷ []) s.dialled s.arrived s.link (taken (subst (λ (o : Option L). Takes (Direct k) o w x) e takes) u)
    where
      it : begins (Direct k) (did (Take (Direct k))) ≡ true
      it = begins-take (Direct k) (Direct k) ∙ same_link-self (Direct k)

      taken : Takes (Direct k) (Some l) w x → Uses w M → Uses x (M ++ did (Take (Direct k)) ∷ [])
      taken same =
          touch (Direct k) w x M (did (Take (Direct k))) (Some l) (uncalled w.dialled x.dialled same.dialled)
          (ap (λ (o : Option L). l ∷ option_to_list o) same.arrived ∙ sym (ap option_to_list e)) refl (λ other ne. same.link other ∙ (apart-link (Direct k) (Some l) w).link other ne)
          (λ other ne. begins-take other (Direct k) ∙ ne) (λ other ne. refl) (λ other ne. refl)
          (λ z g p b h. no_true (StandsSo talk z (x.link (Direct k)) (g ++ []) (p ++ [])) (begins (Direct k) (did (Take (Direct k)))) b it)
          (λ b. so talk (Some (Some l)) (Some l) (x.link (Direct k)) [] [] [] [] (sym (same.link (Direct k) ∙ link-here (Direct k) (Some l) w (in_slots_named k slots))) refl refl (new_link l))

  refuses_link : (c : Closing) (k : Option L) (w v : World L) → Refuses talk c k w v → (name : LinkName) → v.link name ≡ w.link name
  refuses_link c None w v s = s.link
  refuses_link c (Some l) w v (m, g, s) = s.link

  refuses_dialled : (c : Closing) (k : Option L) (w v : World L) → Refuses talk c k w v → v.dialled ≡ w.dialled
  refuses_dialled c None w v s = s.dialled
  refuses_dialled c (Some l) w v (m, g, s) = s.dialled

  refuses_arrived : (c : Closing) (k : Option L) (w v : World L) → w.arrived ≡ k → Refuses talk c k w v → Admitted (did (Refuse c)) k w.arrived v.arrived
  refuses_arrived c None w v e s = ap option_to_list s.arrived
  refuses_arrived c (Some l) w v e (m, g, s) = ap (λ (o : Option L). l ∷ option_to_list o) s.arrived ∙ sym (ap option_to_list e)

  -- One action that may stand in the log.
  pub does_uses : (action : Action) (w v : World L) (M : Log) → MayStand M (did action) → Does talk action w v → Agrees w M → Uses w M → Uses v (M ++ did action ∷ [])
  does_uses (Dial name uri) w v M may h A = dials_uses name uri w v M may.0 (dial_named name uri may.1) h.0 h.1 h.2 h.3 A
  does_uses (Take name) w v M may h A = absurd may
  does_uses (Refuse c) w v M may h A = quiet w v M (did (Refuse c)) w.arrived (uncalled w.dialled v.dialled (refuses_dialled c w.arrived w v h)) (refuses_arrived c w.arrived w v refl h) tt
      (refuses_link c w.arrived w v h) (λ name. refl) (λ name. refl) (λ name. refl)
  does_uses (Put name o) w v M may h A = puts_uses name o w v M (w.link name) refl h A
  does_uses (Close name c) w v M may h A = closes_uses name c w v M (w.link name) refl h A
  does_uses (Deliver x) w v M may h A = quiet w v M (did (Deliver x)) None (uncalled w.dialled v.dialled h.1.dialled) (ap option_to_list h.1.arrived) tt h.1.link (λ name. refl)
      (λ name. refl) (λ name. refl)
  does_uses (Tell note) w v M may h A = quiet w v M (did (Tell note)) None (uncalled w.dialled v.dialled h.1.dialled) (ap option_to_list h.1.arrived) tt h.1.link (λ name. refl)
      (λ name. refl) (λ name. refl)
  does_uses Draw w v M may h A = quiet w v M (did Draw) None (uncalled w.dialled v.dialled h.dialled) (ap option_to_list h.arrived) tt h.link (λ name. refl) (λ name. refl) (λ name. refl)

  -- ---- lines

  pub still : (m : Line) (w : World L) (M : Log) → MayStand M m → action_of m ≡ None → Uses w M → Uses w (M ++ m ∷ [])
  still (came e) w M may none u = absurd may
  still (did action) w M may none u = cc
  still (initiating name e) w M may none u = quiet w w M (initiating name e) None (uncalled w.dialled w.dialled refl) refl tt (λ name. refl) (λ name. refl) (λ name. refl) (λ name. refl) u
  still (accepting name e) w M may none u = quiet w w M (accepting name e) None (uncalled w.dialled w.dialled refl) refl tt (λ name. refl) (λ name. refl) (λ name. refl) (λ name. refl) u
  still (connector e) w M may none u = quiet w w M (connector e) None (uncalled w.dialled w.dialled refl) refl tt (λ name. refl) (λ name. refl) (λ name. refl) (λ name. refl) u
  still (slot call) w M may none u = quiet w w M (slot call) None (uncalled w.dialled w.dialled refl) refl tt (λ name. refl) (λ name. refl) (λ name. refl) (λ name. refl) u
  still (resolution call) w M may none u = quiet w w M (resolution call) None (uncalled w.dialled w.dialled refl) refl tt (λ name. refl) (λ name. refl) (λ name. refl) (λ name. refl) u

  -- Lines each of which may stand where it stands, of which what is done is carried out.
  pub lines_use : (lines : List Line) (w v : World L) (M : Log) → EachMay M lines → Carries talk (filter_map action_of lines) w v → Agrees w M → Uses w M → Uses v (M ++ lines)
  lines_use [] w v M may c A u = subst (λ (N : Log). Uses v N) (sym (append-nil M)) (uses_alike w v M c.dialled c.arrived c.link u)
  lines_use (did action ∷ lines) w v M may c A u =
      subst (λ (N : Log). Uses v N) (append_assoc M (did action ∷ []) lines)
      (lines_use lines c.0 v (M ++ did action ∷ []) may.1 c.2 (does_keeps talk action w c.0 M may.0 c.1 A) (does_uses action w c.0 M may.0 c.1 A u))
  lines_use (m ∷ lines) w v M may c A u =
      subst (λ (N : Log). Uses v N) (append_assoc M (m ∷ []) lines)
      (lines_use lines w v (M ++ m ∷ []) may.1 c (carries_keeps talk (m ∷ []) w w M (may.0, tt) (same_self w) A) (still m w M may.0 refl u))

-- ---- the acceptor

module _ {L : Type 0} (talk : L → Option (List Said)) (d : Dialling L) (first door door' : Admitting L) where
  pub redoor : (w : World L) (M : Log) → ((K : List (Option L)) → HasArrived first door w.arrived M K → HasArrived first door' w.arrived M K) → Uses talk d first door w M → Uses talk d first door' w M
  redoor w M f (K, long, dialled, arrived, t, u) = (K, long, dialled, f K arrived, t, u)

  pub one_came : (w : World L) (M : Log) (l : L) → w.arrived ≡ None → HasAnswered door door' (Ok (Link l)) → Uses talk d first door w M → Uses talk d first door' (record w { arrived = Some l }) M
  one_came w M l none leaves (K, long, dialled, arrived, t, u) = (K, long, dialled, arrives first door door' w.arrived l M K none leaves arrived, t, u)

-- ---- no link has arrived

module _ {L : Type 0} (talk : L → Option (List Said)) where
  dials_none : (name : LinkName) (l : Option L) (w v : World L) → Same v (record (after_dial name l w) { dialled = v.dialled }) → v.arrived ≡ w.arrived
  dials_none name None w v s = s.arrived
  dials_none name (Some l) w v s = s.arrived

  puts_none : (name : LinkName) (o : List ℕ) (k : Option L) (w v : World L) → Puts talk name o k w v → v.arrived ≡ w.arrived
  puts_none name o None w v s = s.arrived
  puts_none name o (Some l) w v (m, inl (g, s)) = s.arrived
  puts_none name o (Some l) w v (m, inr (g, s)) = s.arrived

  closes_none : (name : LinkName) (c : Closing) (k : Option L) (w v : World L) → Closes talk name c k w v → v.arrived ≡ w.arrived
  closes_none name c None w v s = s.arrived
  closes_none name c (Some l) w v (m, g, s) = s.arrived

  takes_none : (name : LinkName) (k : Option L) (w v : World L) → w.arrived ≡ k → Takes name k w v → v.arrived ≡ None
  takes_none name None w v e s = s.arrived ∙ e
  takes_none name (Some l) w v e s = s.arrived

  refuses_none : (c : Closing) (k : Option L) (w v : World L) → w.arrived ≡ k → Refuses talk c k w v → v.arrived ≡ None
  refuses_none c None w v e s = s.arrived ∙ e
  refuses_none c (Some l) w v e (m, g, s) = s.arrived

  does_none : (action : Action) (w v : World L) → Does talk action w v → w.arrived ≡ None → v.arrived ≡ None
  does_none (Dial name uri) w v h e = dials_none name h.0 w v h.3 ∙ e
  does_none (Take name) w v h e = takes_none name w.arrived w v refl h
  does_none (Refuse c) w v h e = refuses_none c w.arrived w v refl h
  does_none (Put name o) w v h e = puts_none name o (w.link name) w v h ∙ e
  does_none (Close name c) w v h e = closes_none name c (w.link name) w v h ∙ e
  does_none (Deliver x) w v h e = h.1.arrived ∙ e
  does_none (Tell note) w v h e = h.1.arrived ∙ e
  does_none Draw w v h e = h.arrived ∙ e

  pub carries_none : (actions : List Action) (w v : World L) → Carries talk actions w v → w.arrived ≡ None → v.arrived ≡ None
  carries_none [] w v c e = c.arrived ∙ e
  carries_none (action ∷ actions) w v c e = carries_none actions c.0 v c.2 (does_none action w c.0 c.1 e)

  pub taken_none : (k : ℕ) (w v : World L) → Carries talk (Take (Direct k) ∷ []) w v → v.arrived ≡ None
  taken_none k w v c = c.2.arrived ∙ takes_none (Direct k) w.arrived w c.0 refl c.1

  pub refused_none : (c : Closing) (w v : World L) → Carries talk (Refuse c ∷ []) w v → v.arrived ≡ None
  refused_none c w v h = h.2.arrived ∙ refuses_none c w.arrived w h.0 refl h.1

-- A link's beginning: in each log in which it is there, and where what it gave and took stands.
-- It serves clauses of functions of `laws`.
use Rattle.std.proofs.Common.{◌≡◌, ◌⊎◌, inl, inr, ℕ, zero, suc, ◌+◌, ◌≤◌, Bool, true, false, cond, ◌||◌, List, [], ◌∷◌, ◌++◌, length, drop, take, Some, refl, ap, sym, subst, ◌∙◌}
use Rattle.std.proofs.Common.{arith, append-nil, append_assoc, length-append}
use Rattle.std.specs.Prelude.{flat_map, slice_get}
use Rattle.std.specs.List.{list_any}
use Rattle.std.proofs.lemmas.Option.{same_Some}
use Rattle.std.proofs.lemmas.List.Folds.{list_any-append}
use Rattle.bsc_connector.specs.Back.{until}
use Rattle.bsc_connector.proofs.BackLemmas.{until-begun, until-other}
use Rattle.bsc_octets.specs.declared.identity.Identity.{Identity}
use Rattle.bsc_frame.specs.declared.message.Message.{Message}
use Rattle.bsc_checks.specs.declared.verdict.Verdict.TheVariants.{Pass}
use Rattle.bsc_history.proofs.Lists.{In, In-right}
use Rattle.bsc_lemmas.proofs.Booleans.{or_left, or_right}
use Rattle.bsc_node.specs.declared.link_name.LinkName.{LinkName}
use Rattle.bsc_node.specs.declared.node_event.NodeEvent.TheVariants.{Came}
use Rattle.bsc_node.specs.declared.timed_event.TimedEvent.{TimedEvent}
use Rattle.bsc_node.specs.declared.action.Action.TheVariants.{Put}
use Rattle.bsc_node.specs.Events.{follows}
use Rattle.bsc_node.specs.Laws.{with_event}
use Rattle.bsc_node.specs.Links.{begins, verdict}
use Rattle.bsc_node.specs.Logs.{Made, Line, came, did, Log}
use Rattle.bsc_node.specs.Node.{goes_on}
use Rattle.bsc_node.proofs.Following.{goes_on-is}
use Rattle.bsc_node_identity.specs.Naming.{WasNamed, named_by}
use Rattle.bsc_node_links.proofs.Lists.{drop-behind, drop-more}
use Rattle.bsc_node_links.proofs.Lives.{until-none}
use Rattle.bsc_node_links.specs.Lives.{HasBegun, LinkLife, given_by, given_over, life_of, lines_since, put_by, put_over, until_anew}
use Rattle.bsc_network_of_runs.specs.Nodes.{HasNow}
use Rattle.bsc_network_of_runs.proofs.Hearing.{given-here}
use Rattle.bsc_network_of_runs.proofs.Lives.{got-either, none-later}
use Rattle.bsc_network_of_runs.proofs.Members.{In-given, In-gives, In-split}
use Rattle.bsc_network_of_runs.proofs.Naming.{puts_it}
use Rattle.bsc_lemmas.proofs.Lists.{got-split, got-within}

-- ---- lists

until_kept : {A : Type 0} (test : A → Bool) (xs ys : List A) → list_any test ys ≡ false → until test (xs ++ ys) ≡ until test xs
until_kept test xs [] h = ap (until test) (append-nil xs)
until_kept test xs (y ∷ ys) h =
    ap (until test) (sym (append_assoc xs (y ∷ []) ys)) ∙ until_kept test (xs ++ y ∷ []) ys (or_right (test y) (list_any test ys) h) ∙ until-other test xs y (or_left (test y) (list_any test ys) h)

cut : {A : Type 0} (xs : List A) (i : ℕ) (x : A) → slice_get xs i ≡ Some x → xs ≡ take i xs ++ x ∷ drop (i + 1) xs
cut [] i x h = cc
cut {A} (y ∷ ys) zero x h = ap (λ (z : A). z ∷ ys) (same_Some y x h)
cut {A} (y ∷ ys) (suc i) x h =
    let next : suc (i + 1) ≡ suc i + 1 = omega arith in
    ap (λ (l : List A). y ∷ l) (cut ys i x h) ∙ ap (λ (k : ℕ). y ∷ (take i ys ++ x ∷ drop k (y ∷ ys))) next

pub take-first : {A : Type 0} (i : ℕ) (xs ys : List A) → i ≤ length xs → take i (xs ++ ys) ≡ take i xs
take-first zero xs ys h = refl
take-first (suc i) [] ys h = absurd (omega arith)
take-first {A} (suc i) (x ∷ xs) ys h = ap (λ (l : List A). x ∷ l) (take-first i xs ys (omega arith))

length-taken : {A : Type 0} (i : ℕ) (xs : List A) → i ≤ length xs → length (take i xs) ≡ i
length-taken zero xs h = refl
length-taken (suc i) [] h = absurd (omega arith)
length-taken (suc i) (x ∷ xs) h = ap suc (length-taken i xs (omega arith))

-- ---- the log before a link began

-- What came before the newest beginning of a link's name is what came before that link began.
pub until-is : (L : Log) (x : LinkLife) → HasNow L x → until (begins x.name) L ≡ take x.began L
until-is L x has =
    let test = begins x.name in
    let line = has.begun.line in
    let first = take x.began L in
    ap (until test) (cut L x.began line has.begun.at ∙ sym (append_assoc first (line ∷ []) (lines_since L x))) ∙ until_kept test (first ++ line ∷ []) (lines_since L x) has.since
    ∙ until-begun test first line has.begun.begins_it

-- That is the same in a longer log.
pub born-same : (L B : Log) (rest : List Line) (x : LinkLife) → L ≡ B ++ rest → HasBegun B x → take x.began L ≡ take x.began B
born-same L B rest x is begun = (let below = got-within B x.began begun.line begun.at in ap (take x.began) is ∙ take-first x.began B rest (omega arith))

-- A link that is the newest of its name behind some lines by which none begins was so before them.
pub has_before : (B C : Log) (x : LinkLife) → HasNow (B ++ C) x → list_any (begins x.name) C ≡ false → HasNow B x
has_before B C x has none = by (got-either B C x.began has.begun.line has.begun.at)
  where
    by : (slice_get B x.began ≡ Some has.begun.line) ⊎ ((j : ℕ) × (x.began ≡ length B + j) × (slice_get C j ≡ Some has.begun.line)) → HasNow B x
    by (inr (j, is, at)) = absurd (none-later (begins x.name) C j has.begun.line none at has.begun.begins_it)
    by (inl at) =
        let below = got-within B x.began has.begun.line at in
        let since : list_any (begins x.name) (lines_since B x ++ C) ≡ false = ap (list_any (begins x.name)) (sym (drop-more (x.began + 1) B C (omega arith))) ∙ has.since in
        record {
          begun = record { line = has.begun.line; at = at; begins_it = has.begun.begins_it };
          since = or_left (list_any (begins x.name) (lines_since B x)) (list_any (begins x.name) C) (sym (list_any-append (begins x.name) (lines_since B x) C) ∙ since);
        }

-- ---- who was named over a link

-- By this message of the link its peer named itself.
pub record NamedOver (a : Made) (L : Log) (x : LinkLife) (who : Identity) : Type 0 where
  pub octets : List ℕ
  pub given : In octets (given_over L x)
  pub before : Log
  pub msg : Message
  pub passed : verdict a before x.name octets ≡ Pass msg
  pub named : named_by msg.body ≡ Some who

-- what comes over a link stands among what it gave, in each longer log
given_in_life : (L B : Log) (rest : List Line) (x : LinkLife) (e : TimedEvent) (o : List ℕ) → L ≡ B ++ came e ∷ rest → e.event ≡ Came x.name o → HasNow B x → In o (given_over L x)
given_in_life L B rest x e o split is has =
    let name = x.name in
    let D = lines_since B x in
    let below = got-within B x.began has.begun.line has.begun.at in
    let since : lines_since L x ≡ D ++ came e ∷ rest = ap (λ (l : Log). lines_since l x) split ∙ drop-more (x.began + 1) B (came e ∷ rest) (omega arith) in
    let life : life_of L x ≡ D ++ came e ∷ until_anew name rest = ap (until_anew name) since ∙ until-none name D (came e ∷ rest) has.since in
    let here : In o (given_by name (came e)) = subst (In o) (sym (given-here e name o is)) (inl refl) in
    subst (λ (l : List Line). In o (flat_map (given_by name) l)) (sym life)
    (In-gives (given_by name) (came e) o (D ++ came e ∷ until_anew name rest) (In-right (came e) D (came e ∷ until_anew name rest) (inl refl)) here)

pub named_over : (a : Made) (L P : Log) (rest : List Line) (x : LinkLife) (who : Identity) → L ≡ P ++ rest → HasNow P x → WasNamed a P x.name who → NamedOver a L x who
named_over a L P rest x who split has w =
    let has_then : HasNow w.before x = has_before w.before (goes_on a w.e w.before ++ w.later) x (subst (λ (l : Log). HasNow l x) w.is has) w.since in
    let lines = follows a w.e.event (with_event w.before w.e) in
    let first : goes_on a w.e w.before ++ w.later ≡ came w.e ∷ (lines ++ w.later) = ap (λ (l : List Line). l ++ w.later) (goes_on-is a w.before w.e) in
    let whole : L ≡ w.before ++ came w.e ∷ ((lines ++ w.later) ++ rest) = split ∙ ap (λ (l : Log). l ++ rest) (w.is ∙ ap (λ (l : List Line). w.before ++ l) first)
    ∙ append_assoc w.before (came w.e ∷ (lines ++ w.later)) rest in
    let n = w.named in
    record {
      octets = n.0;
      given = given_in_life L w.before ((lines ++ w.later) ++ rest) x w.e n.0 whole n.2 has_then;
      before = with_event w.before w.e;
      msg = n.1;
      passed = n.3;
      named = n.4;
    }

-- ---- where it was put

-- A message was put on a link behind this part of the log, in which the link was the newest of its name.
pub record PutAt (L : Log) (y : LinkLife) (o : List ℕ) : Type 0 where
  pub before : Log
  pub later : List Line
  pub is : L ≡ before ++ did (Put y.name o) ∷ later
  pub has : HasNow before y

-- a line of a link's life, and the lines before it, by none of which a link of its name begins
pub until-split : (name : LinkName) (xs b : List Line) (m : Line) (l : List Line) → until_anew name xs ≡ b ++ m ∷ l → (more : List Line) × (xs ≡ b ++ m ∷ more) × (list_any (begins name) b ≡ false)
until-split name [] b m l h = absurd (none b h)
  where
    none : (c : List Line) → [] ≡ c ++ m ∷ l → ⊥
    none [] g = cc
    none (y ∷ c) g = cc
until-split name (x ∷ xs) b m l h = by (λ c g. until-split name xs c m l g) (begins name x) refl b h
  where
    none : (c : List Line) → [] ≡ c ++ m ∷ l → ⊥
    none [] g = cc
    none (y ∷ c) g = cc

    by : ((c : List Line) → until_anew name xs ≡ c ++ m ∷ l → (more : List Line) × (xs ≡ c ++ m ∷ more) × (list_any (begins name) c ≡ false)) → (d : Bool) → begins name x ≡ d
        → (c : List Line) → cond d [] (x ∷ until_anew name xs) ≡ c ++ m ∷ l
        → (more : List Line) × (x ∷ xs ≡ c ++ m ∷ more) × (list_any (begins name) c ≡ false)
    by rec true is c g = absurd (none c g)
    by rec false is [] g = (let same : x ≡ m = cc in (xs, ap (λ (z : Line). z ∷ xs) same, refl))
    by rec false is (y ∷ c) g =
        let same : x ≡ y = cc in
        let rest : until_anew name xs ≡ c ++ m ∷ l = cc in
        let r = rec c rest in (
          r.0,
          ap (λ (z : List Line). x ∷ z) r.1 ∙ ap (λ (z : Line). z ∷ (c ++ m ∷ r.0)) same,
          ap (λ (z : Line). begins name z || list_any (begins name) c) (sym same)
              ∙ ap (λ (d : Bool). d || list_any (begins name) c) is ∙ r.2,
        )

pub put_at : (L : Log) (y : LinkLife) (o : List ℕ) → HasBegun L y → In o (put_over L y) → PutAt L y o
put_at L y o begun h =
    let name = y.name in
    let g = In-given (put_by name) o (life_of L y) h in
    let p = puts_it name o g.from g.gives in
    let split = In-split g.from (life_of L y) g.among in
    let u = until-split name (lines_since L y) split.0 g.from split.1 split.2 in
    let below = got-within L y.began begun.line begun.at in
    let first = take y.began L in
    let length_is : length first ≡ y.began = length-taken y.began L (omega arith) in
    let line : did (Put p.0 o) ≡ did (Put name o) = ap (λ (n : LinkName). did (Put n o)) p.2 in
    let whole : L ≡ (first ++ begun.line ∷ split.0) ++ did (Put name o) ∷ u.0 =
    cut L y.began begun.line begun.at ∙ ap (λ (l : List Line). first ++ begun.line ∷ l) (u.1 ∙ ap (λ (m : Line). split.0 ++ m ∷ u.0) (p.1 ∙ line))
    ∙ sym (append_assoc first (begun.line ∷ split.0) (did (Put name o) ∷ u.0)) in
    let at : slice_get (first ++ begun.line ∷ split.0) y.began ≡ Some begun.line = ap (slice_get (first ++ begun.line ∷ split.0)) (sym length_is) ∙ got-split first begun.line split.0 in
    let one_more : length (first ++ begun.line ∷ []) ≡ length first + 1 = length-append first (begun.line ∷ []) in
    let behind : lines_since (first ++ begun.line ∷ split.0) y ≡ split.0 =
    ap (drop (y.began + 1)) (sym (append_assoc first (begun.line ∷ []) split.0)) ∙ drop-behind (first ++ begun.line ∷ []) split.0 (y.began + 1) 0 (omega arith) in
    record {
      before = first ++ begun.line ∷ split.0;
      later = u.0;
      is = whole;
      has = record { begun = record { line = begun.line; at = at; begins_it = begun.begins_it }; since = ap (list_any (begins name)) behind ∙ u.2 };
    }

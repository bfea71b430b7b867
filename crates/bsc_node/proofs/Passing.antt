-- Rules whose lines all pass a test.
-- It serves clauses of functions of `laws`.
use Rattle.std.proofs.Common.{◌≡◌, Bool, true, false, ◌&&◌, List, [], ◌∷◌, ◌++◌, Option, Some, None, refl, ap, ◌∙◌}
use Rattle.std.specs.Prelude.{⊤, map}
use Rattle.std.specs.List.{list_all}
use Rattle.std.proofs.lemmas.List.Folds.{list_all-append}
use Rattle.bsc_node.specs.Logs.{Line, Log, Rule, nothing, in_order, if_so, either, when, with_some, where_found}
use Rattle.bsc_node.proofs.Order.{brought, in_order-brought}
use Rattle.std.proofs.lemmas.Bool.{and_from as both}

-- Whatever the log, each line by which the rule goes on passes the test.
abbrev pub Passes : (Line → Bool) → Rule → Type 0
Passes test rule = (L : Log) → list_all test (rule L) ≡ true

abbrev pub PassEach : (Line → Bool) → List Rule → Type 0
PassEach test [] = ⊤
PassEach test (rule ∷ rules) = Passes test rule × PassEach test rules

pub pass-brought : (test : Line → Bool) (rules : List Rule) → PassEach test rules → (L : Log) → list_all test (brought rules L) ≡ true
pass-brought test [] p L = refl
pass-brought test (rule ∷ rules) p L =
    list_all-append test (rule L) (brought rules (L ++ rule L))
    ∙ both (list_all test (rule L)) (list_all test (brought rules (L ++ rule L))) (p.0 L) (pass-brought test rules p.1 (L ++ rule L))

pub pass-in_order : (test : Line → Bool) (rules : List Rule) → PassEach test rules → Passes test (in_order rules)
pass-in_order test rules p L = ap (list_all test) (in_order-brought rules L) ∙ pass-brought test rules p L

pub pass-if : (test : Line → Bool) (b : Bool) (rule other : Rule) → Passes test rule → Passes test other → (L : Log) → list_all test (if_so b rule other L) ≡ true
pass-if test true rule other p q L = p L
pass-if test false rule other p q L = q L

pub pass-either : (test : Line → Bool) (asks : Log → Bool) (rule other : Rule) → Passes test rule → Passes test other → Passes test (either asks rule other)
pass-either test asks rule other p q L = pass-if test (asks L) rule other p q L

pub pass-nothing : (test : Line → Bool) → Passes test nothing
pass-nothing test L = refl

pub pass-when : (test : Line → Bool) (asks : Log → Bool) (rule : Rule) → Passes test rule → Passes test (when asks rule)
pass-when test asks rule p L = pass-if test (asks L) rule nothing p (pass-nothing test) L

pub pass-some : {A : Type 0} (test : Line → Bool) (o : Option A) (rule : A → Rule) (other : Rule) → ((x : A) → Passes test (rule x)) → Passes test other → (L : Log)
    → list_all test (with_some o rule other L) ≡ true
pass-some test (Some x) rule other p q L = p x L
pass-some test None rule other p q L = q L

pub pass-found : {A : Type 0} (test : Line → Bool) (look : Log → Option A) (rule : A → Rule) (other : Rule) → ((x : A) → Passes test (rule x)) → Passes test other
    → Passes test (where_found look rule other)
pass-found test look rule other p q L = pass-some test (look L) rule other p q L

pub pass-mapped : {A : Type 0} (test : Line → Bool) (rule : A → Rule) (xs : List A) → ((x : A) → Passes test (rule x)) → PassEach test (map rule xs)
pass-mapped test rule [] p = tt
pass-mapped test rule (x ∷ xs) p = (p x, pass-mapped test rule xs p)

pub pass-each-append : (test : Line → Bool) (rules others : List Rule) → PassEach test rules → PassEach test others → PassEach test (rules ++ others)
pass-each-append test [] others p q = q
pass-each-append test (rule ∷ rules) others p q = (p.0, pass-each-append test rules others p.1 q)

-- what passes a test passes a weaker one
pub pass-weaker : (test weaker : Line → Bool) → ((m : Line) → test m ≡ true → weaker m ≡ true) → (lines : List Line) → list_all test lines ≡ true → list_all weaker lines ≡ true
pass-weaker test weaker w [] h = refl
pass-weaker test weaker w (m ∷ lines) h = both (weaker m) (list_all weaker lines) (w m (left (test m) (list_all test lines) h))
    (pass-weaker test weaker w lines (right (test m) (list_all test lines) h))
  where
    left : (a b : Bool) → (a && b) ≡ true → a ≡ true
    left true b h = refl
    left false b h = h

    right : (a b : Bool) → (a && b) ≡ true → b ≡ true
    right true b h = h
    right false true h = refl
    right false false h = h

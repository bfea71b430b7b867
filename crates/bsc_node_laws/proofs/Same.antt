-- What keeps a run's hands in agreement with the log: worlds that have the same, lines that leave each link as it was, and
-- steps that touch one link alone.
-- It serves bsc_application, bsc_node_command and bsc_node_links.
use Rattle.std.proofs.Common.{◌≡◌, ℕ, Bool, true, false, not, cond, ◌||◌, ◌&&◌, List, [], ◌∷◌, ◌++◌, Option, refl, ap, sym, ◌∙◌, subst}
use Rattle.std.specs.Prelude.{◌==◌, nat_lt, filter, map}
use Rattle.std.specs.List.{list_all, list_any}
use Rattle.std.proofs.lemmas.Bool.{eqb-true}
use Rattle.std.proofs.lemmas.List.{append_assoc, map-append}
use Rattle.std.proofs.lemmas.List.Elements.{filter-append}
use Rattle.std.proofs.lemmas.List.Folds.{list_all-append}
use Rattle.bsc_connector.proofs.BackLemmas.{list_any-more}
use Rattle.bsc_direct.specs.declared.bounds.TheConstants.{SLOTS}
use Rattle.bsc_direct.specs.Slots.{slots}
use Rattle.bsc_node.specs.declared.link_name.LinkName.{LinkName}
use Rattle.bsc_node.specs.declared.link_name.LinkName.TheVariants.{Direct}
use Rattle.bsc_node.specs.Logs.{Line, Log, is_finish, is_finishing}
use Rattle.bsc_node.specs.Links.{same_link, begins, is_over_by, is_there, was_taken, is_in_slots}
use Rattle.bsc_node.specs.Conditions.{has_opened}
use Rattle.bsc_node.proofs.Told.{same_link-self}
use Rattle.bsc_node_laws.proofs.There.{taken-other}
use Rattle.bsc_node_run.specs.declared.news.Change.{Change}
use Rattle.bsc_node_run.specs.declared.news.News.{News}
use Rattle.bsc_node_run.specs.Worlds.{World, Same, is_name, is_of, without, with_link, with_news, forgets}
use Rattle.bsc_node_laws.proofs.Agreeing.{changes_of, news_in, AgreesBy, AgreesOn, Agrees}
use Rattle.bsc_lemmas.proofs.Booleans.{and_left, and_right}
use Rattle.bsc_node.proofs.Common.{same_link-is as same_link-true}
use Rattle.std.proofs.lemmas.Bool.{and_from as and_both, or_left as or_first}
use Rattle.bsc_node.proofs.There.{there-other}

-- ---- names

in_numbers : (k : ℕ) (ks : List ℕ) → list_any (λ j. k == j) ks ≡ true → list_all (λ j. nat_lt j SLOTS) ks ≡ true → nat_lt k SLOTS ≡ true
in_numbers k [] h all = cc
in_numbers k (j ∷ ks) h all = by (k == j) refl h (λ g. in_numbers k ks g (and_right (nat_lt j SLOTS) (list_all (λ i. nat_lt i SLOTS) ks) all))
  where
    by : (b : Bool) → (k == j) ≡ b → (b || list_any (λ i. k == i) ks) ≡ true → (list_any (λ i. k == i) ks ≡ true → nat_lt k SLOTS ≡ true) → nat_lt k SLOTS ≡ true
    by true e g later = ap (λ i. nat_lt i SLOTS) (eqb-true k j e) ∙ and_left (nat_lt j SLOTS) (list_all (λ i. nat_lt i SLOTS) ks) all
    by false e g later = later g

-- The number of a slot names a link.
pub in_slots_named : (k : ℕ) → is_in_slots k ≡ true → is_name (Direct k) ≡ true
unfolding slots
in_slots_named k h = in_numbers k slots h refl

-- ---- what is new

changes-append : (name : LinkName) (xs ys : List News) → changes_of name (xs ++ ys) ≡ changes_of name xs ++ changes_of name ys
changes-append name xs ys = ap (map (λ (n : News). n.change)) (filter-append (is_of name) xs ys) ∙ map-append (λ (n : News). n.change) (filter (is_of name) xs) (filter (is_of name) ys)

-- of news of the link first that is new, and news of another link say nothing of it
pub changes-here : (name : LinkName) (n : News) (xs : List News) → is_of name n ≡ true → changes_of name (n ∷ xs) ≡ n.change ∷ changes_of name xs
changes-here name n xs h = rw h refl

pub changes-other : (name : LinkName) (n : News) (xs : List News) → is_of name n ≡ false → changes_of name (n ∷ xs) ≡ changes_of name xs
changes-other name n xs h = rw h refl

-- What waits to be told last is new last.
changes-last : (name : LinkName) (n : News) (xs ys : List News) → changes_of name (xs ++ (ys ++ n ∷ [])) ≡ changes_of name (xs ++ ys) ++ changes_of name (n ∷ [])
changes-last name n xs ys = ap (changes_of name) (sym (append_assoc xs ys (n ∷ []))) ∙ changes-append name (xs ++ ys) (n ∷ [])

pub changes-last_here : (name : LinkName) (n : News) (xs ys : List News) → is_of name n ≡ true → changes_of name (xs ++ (ys ++ n ∷ [])) ≡ changes_of name (xs ++ ys) ++ n.change ∷ []
changes-last_here name n xs ys h = changes-last name n xs ys ∙ ap (λ (cs : List Change). changes_of name (xs ++ ys) ++ cs) (changes-here name n [] h)

no_more : (cs : List Change) → cs ++ [] ≡ cs
no_more [] = refl
no_more (c ∷ cs) = ap (λ (ds : List Change). c ∷ ds) (no_more cs)

pub changes-last_other : (name : LinkName) (n : News) (xs ys : List News) → is_of name n ≡ false → changes_of name (xs ++ (ys ++ n ∷ [])) ≡ changes_of name (xs ++ ys)
changes-last_other name n xs ys h =
    changes-last name n xs ys ∙ ap (λ (cs : List Change). changes_of name (xs ++ ys) ++ cs) (changes-other name n [] h) ∙ no_more (changes_of name (xs ++ ys))

-- Of a link whose news are forgotten nothing is new, and of another link the same as before.
pub changes-without : (name : LinkName) (xs : List News) → changes_of name (without name xs) ≡ []
changes-without name [] = refl
changes-without name (n ∷ xs) = by (is_of name n) refl (changes-without name xs)
  where
    by : (b : Bool) → is_of name n ≡ b → changes_of name (without name xs) ≡ [] → changes_of name (cond (not b) (n ∷ without name xs) (without name xs)) ≡ []
    by true e later = later
    by false e later = changes-other name n (without name xs) e ∙ later

cons_changes : (b : Bool) (n : News) (xs ys : List News) → map (λ (x : News). x.change) xs ≡ map (λ (x : News). x.change) ys
    → map (λ (x : News). x.change) (cond b (n ∷ xs) xs) ≡ map (λ (x : News). x.change) (cond b (n ∷ ys) ys)
cons_changes true n xs ys h = ap (λ (cs : List Change). n.change ∷ cs) h
cons_changes false n xs ys h = h

-- News of one link are none of another.
pub of_another : (name other : LinkName) (n : News) → same_link name other ≡ false → is_of name n ≡ true → is_of other n ≡ false
of_another name other n ne h = ap (λ (m : LinkName). same_link m other) (same_link-true n.link name h) ∙ ne

pub changes-without_other : (name other : LinkName) (xs : List News) → same_link name other ≡ false → changes_of other (without name xs) ≡ changes_of other xs
changes-without_other name other [] ne = refl
changes-without_other name other (n ∷ xs) ne = by (is_of name n) refl (changes-without_other name other xs ne)
  where
    by : (b : Bool) → is_of name n ≡ b → changes_of other (without name xs) ≡ changes_of other xs
        → changes_of other (cond (not b) (n ∷ without name xs) (without name xs)) ≡ changes_of other (n ∷ xs)
    by true e later = later ∙ sym (changes-other other n xs (of_another name other n ne e))
    by false e later = cons_changes (is_of other n) n (filter (is_of other) (without name xs)) (filter (is_of other) xs) later

-- Of a link of which no news is, nothing is new.
pub changes-none : (name : LinkName) (xs : List News) → list_any (is_of name) xs ≡ false → changes_of name xs ≡ []
changes-none name [] h = refl
changes-none name (n ∷ xs) h = by (is_of name n) refl h (changes-none name xs)
  where
    by : (b : Bool) → is_of name n ≡ b → (b || list_any (is_of name) xs) ≡ false → (list_any (is_of name) xs ≡ false → changes_of name xs ≡ []) → changes_of name (n ∷ xs) ≡ []
    by true e g later = cc
    by false e g later = changes-other name n xs e ∙ later g

abbrev pub named : List News → Bool
named xs = list_all (λ (n : News). is_name n.link) xs

pub named-append : (xs ys : List News) → named xs ≡ true → named ys ≡ true → named (xs ++ ys) ≡ true
named-append xs ys h g = list_all-append (λ (n : News). is_name n.link) xs ys ∙ and_both (named xs) (named ys) h g

named-left : (xs ys : List News) → named (xs ++ ys) ≡ true → named xs ≡ true
named-left xs ys h = and_left (named xs) (named ys) (sym (list_all-append (λ (n : News). is_name n.link) xs ys) ∙ h)

named-right : (xs ys : List News) → named (xs ++ ys) ≡ true → named ys ≡ true
named-right xs ys h = and_right (named xs) (named ys) (sym (list_all-append (λ (n : News). is_name n.link) xs ys) ∙ h)

named-without : (name : LinkName) (xs : List News) → named xs ≡ true → named (without name xs) ≡ true
named-without name [] h = refl
named-without name (n ∷ xs) h = by (not (is_of name n)) (named-without name xs (and_right (is_name n.link) (named xs) h))
  where
    by : (b : Bool) → named (without name xs) ≡ true → named (cond b (n ∷ without name xs) (without name xs)) ≡ true
    by true later = and_both (is_name n.link) (named (without name xs)) (and_left (is_name n.link) (named xs) h) later
    by false later = later

-- ---- one link

-- A node that is to end is to end after each line more.
pub finishing-more : (M : Log) (m : Line) → is_finishing M ≡ true → is_finishing (M ++ m ∷ []) ≡ true
finishing-more M m h = list_any-more is_finish M m ∙ or_first (is_finishing M) (is_finish m) h

-- whether a link that is there is open
abbrev pub stands_open : LinkName → Log → Bool
stands_open name M = was_taken name M || has_opened name M

pub or_same : (p q r s : Bool) → p ≡ r → q ≡ s → (p || q) ≡ (r || s)
or_same p q r s h g = rw (h, g) refl

open-other : (name : LinkName) (M : Log) (m : Line) → begins name m ≡ false → has_opened name (M ++ m ∷ []) ≡ has_opened name M → stands_open name (M ++ m ∷ []) ≡ stands_open name M
open-other name M m b h = or_same (was_taken name (M ++ m ∷ [])) (has_opened name (M ++ m ∷ [])) (was_taken name M) (has_opened name M) (taken-other name M m b) h

-- A link agrees in a world and a log that are such for it.
pub agrees_as : {L : Type 0} (t o : Bool) (l : Option L) (cs : List Change) (w : World L) (M : Log) (name : LinkName)
    → is_there name M ≡ t → stands_open name M ≡ o → w.link name ≡ l → changes_of name (news_in w) ≡ cs → AgreesBy t o l cs → AgreesOn w M name
agrees_as t o l cs w M name a b c d h = rw (a, b, c, d) h

-- It agrees where it is as in a world and a log in which it does.
pub agrees_like : {L : Type 0} (w v : World L) (M N : Log) (name : LinkName) → is_there name N ≡ is_there name M → stands_open name N ≡ stands_open name M
    → v.link name ≡ w.link name → changes_of name (news_in v) ≡ changes_of name (news_in w) → AgreesOn w M name → AgreesOn v N name
agrees_like w v M N name a b c d h = agrees_as (is_there name M) (stands_open name M) (w.link name) (changes_of name (news_in w)) v N name a b c d h

-- Each other link stands in the second log as in the first.
pub record ApartIn (name : LinkName) (M N : Log) : Type 0 where
  pub there : (other : LinkName) → same_link name other ≡ false → is_there other N ≡ is_there other M
  pub open_so : (other : LinkName) → same_link name other ≡ false → stands_open other N ≡ stands_open other M
  pub finishing : is_finishing M ≡ true → is_finishing N ≡ true

-- a log and itself
pub same-log : (name : LinkName) (M : Log) → ApartIn name M M
same-log name M = record { there = λ other ne. refl; open_so = λ other ne. refl; finishing = λ h. h }

-- A line that neither begins nor ends nor opens another link.
pub line-apart : (name : LinkName) (M : Log) (m : Line) → ((other : LinkName) → same_link name other ≡ false → begins other m ≡ false)
    → ((other : LinkName) → same_link name other ≡ false → is_over_by other m ≡ false)
    → ((other : LinkName) → same_link name other ≡ false → has_opened other (M ++ m ∷ []) ≡ has_opened other M) → ApartIn name M (M ++ m ∷ [])
line-apart name M m b o h = record {
  there = λ other ne. there-other other M m (b other ne) (o other ne);
  open_so = λ other ne. open-other other M m (b other ne) (h other ne);
  finishing = finishing-more M m;
}

module _ {L : Type 0} where
  -- ---- worlds that have the same

  -- Two worlds have the same in hand, and the same is new.
  pub record Alike (v w : World L) : Type 0 where
    pub link : (name : LinkName) → v.link name ≡ w.link name
    pub due : v.due ≡ w.due
    pub waiting : v.waiting ≡ w.waiting
    pub finished : v.finished ≡ w.finished

  news-alike : (v w : World L) → Alike v w → news_in v ≡ news_in w
  news-alike v w s = ap (λ (xs : List News). xs ++ v.waiting) s.due ∙ ap (λ (xs : List News). w.due ++ xs) s.waiting

  pub agrees-alike : (v w : World L) (M : Log) → Alike v w → Agrees w M → Agrees v M
  agrees-alike v w M s A = record {
    links = λ name is. agrees_like w v M M name refl refl (s.link name) (ap (changes_of name) (news-alike v w s)) (A.links name is);
    others = λ name isnt. s.link name ∙ A.others name isnt;
    named = ap named (news-alike v w s) ∙ A.named;
    finished = λ f. A.finished (sym s.finished ∙ f);
  }

  -- A world that has the same agrees too.
  pub agrees-same : (v w : World L) (M : Log) → Same v w → Agrees w M → Agrees v M
  agrees-same v w M s A = agrees-alike v w M (record { link = s.link; due = s.due; waiting = s.waiting; finished = s.finished }) A

  -- ---- lines that leave each link as it was

  -- Links agree after a line that begins no link, ends none and opens none.
  pub agrees-quiet : (w : World L) (M : Log) (m : Line) → ((name : LinkName) → begins name m ≡ false) → ((name : LinkName) → is_over_by name m ≡ false)
      → ((name : LinkName) → has_opened name (M ++ m ∷ []) ≡ has_opened name M) → Agrees w M → Agrees w (M ++ m ∷ [])
  agrees-quiet w M m b o h A = record {
    links = λ name is. agrees_like w w M (M ++ m ∷ []) name (there-other name M m (b name) (o name)) (open-other name M m (b name) (h name)) refl refl (A.links name is);
    others = A.others;
    named = A.named;
    finished = λ f. finishing-more M m (A.finished f);
  }

  -- ---- steps that touch one link

  -- Each other link is in hand as before, and the same is new of it.
  pub record Apart (name : LinkName) (w v : World L) : Type 0 where
    pub link : (other : LinkName) → same_link name other ≡ false → v.link other ≡ w.link other
    pub nameless : (other : LinkName) → is_name other ≡ false → v.link other ≡ w.link other
    pub changes : (other : LinkName) → same_link name other ≡ false → changes_of other (news_in v) ≡ changes_of other (news_in w)
    pub all_named : named (news_in w) ≡ true → named (news_in v) ≡ true
    pub finished : v.finished ≡ w.finished

  -- A step that touches one link alone keeps all links in agreement where that link agrees.
  pub touches : (name : LinkName) (w v : World L) (M N : Log) → Apart name w v → ApartIn name M N → (is_name name ≡ true → AgreesOn v N name) → Agrees w M → Agrees v N
  touches name w v M N h l here A = record {
    links = λ other is. by other is (same_link name other) refl;
    others = λ other isnt. h.nameless other isnt ∙ A.others other isnt;
    named = h.all_named A.named;
    finished = λ f. l.finishing (A.finished (sym h.finished ∙ f));
  }
    where
      by : (other : LinkName) → is_name other ≡ true → (b : Bool) → same_link name other ≡ b → AgreesOn v N other
      by other is true e = subst (λ (x : LinkName). AgreesOn v N x) (same_link-true name other e) (here (ap is_name (same_link-true name other e) ∙ is))
      by other is false e = agrees_like w v M N other (l.there other e) (l.open_so other e) (h.link other e) (h.changes other e) (A.links other is)

  pub apart-then : (name : LinkName) (w x v : World L) → Apart name w x → Apart name x v → Apart name w v
  apart-then name w x v f g = record {
    link = λ other ne. g.link other ne ∙ f.link other ne;
    nameless = λ other isnt. g.nameless other isnt ∙ f.nameless other isnt;
    changes = λ other ne. g.changes other ne ∙ f.changes other ne;
    all_named = λ h. g.all_named (f.all_named h);
    finished = g.finished ∙ f.finished;
  }

  -- a link that comes, is replaced or is taken out
  pub link-here : (name : LinkName) (l : Option L) (w : World L) → is_name name ≡ true → (with_link name l w).link name ≡ l
  link-here name l w is = rw (same_link-self name, is) refl

  link-other : (name other : LinkName) (l : Option L) (w : World L) → same_link name other ≡ false → (with_link name l w).link other ≡ w.link other
  link-other name other l w ne = rw ne refl

  link-nameless : (name other : LinkName) (l : Option L) (w : World L) → is_name other ≡ false → (with_link name l w).link other ≡ w.link other
  link-nameless name other l w isnt = by (same_link name other) refl
    where
      by : (b : Bool) → same_link name other ≡ b → cond (b && is_name name) l (w.link other) ≡ w.link other
      by true e = rw (same_link-true name other e, isnt) refl
      by false e = refl

  pub apart-link : (name : LinkName) (l : Option L) (w : World L) → Apart name w (with_link name l w)
  apart-link name l w = record {
    link = λ other ne. link-other name other l w ne;
    nameless = λ other isnt. link-nameless name other l w isnt;
    changes = λ other ne. refl;
    all_named = λ h. h;
    finished = refl;
  }

  -- something new
  pub apart-news : (name : LinkName) (change : Change) (w : World L) → is_name name ≡ true → Apart name w (with_news name change w)
  apart-news name change w is = record {
    link = λ other ne. refl;
    nameless = λ other isnt. refl;
    changes = λ other ne. changes-last_other other (record { link = name; change = change }) w.due w.waiting ne;
    all_named = λ h. named-append w.due (w.waiting ++ record { link = name; change = change } ∷ []) (named-left w.due w.waiting h)
        (named-append w.waiting (record { link = name; change = change } ∷ []) (named-right w.due w.waiting h) (and_both (is_name name) true is refl));
    finished = refl;
  }

  -- what is new of a link is forgotten
  pub apart-forgets : (name : LinkName) (w : World L) → Apart name w (forgets name w)
  apart-forgets name w = record {
    link = λ other ne. refl;
    nameless = λ other isnt. refl;
    changes = λ other ne. without_both other ne;
    all_named = λ h. named-append (without name w.due) (without name w.waiting)
        (named-without name w.due (named-left w.due w.waiting h)) (named-without name w.waiting (named-right w.due w.waiting h));
    finished = refl;
  }
    where
      without_both : (other : LinkName) → same_link name other ≡ false → changes_of other (without name w.due ++ without name w.waiting) ≡ changes_of other (w.due ++ w.waiting)
      without_both other ne =
          ap (changes_of other) (sym (filter-append (λ (n : News). not (is_of name n)) w.due w.waiting)) ∙ changes-without_other name other (w.due ++ w.waiting) ne

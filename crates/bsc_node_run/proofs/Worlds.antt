-- Worlds that have the same, and how they change.
-- It serves clauses of most source files here.
use Rattle.std.proofs.Common.{◌≡◌, Bool, true, false, ◌&&◌, if◌then◌else◌, List, [], ◌∷◌, ◌++◌, Option, None, refl, ap, sym, ◌∙◌}
use Rattle.bsc_node.specs.declared.link_name.LinkName.{LinkName}
use Rattle.bsc_node.specs.Links.{same_link}
use Rattle.bsc_node_run.specs.declared.news.Change.{Change}
use Rattle.bsc_node_run.specs.Worlds.{World, Same, with_link, with_news, with_over, forgets, ends, is_name}
use Rattle.bsc_node.proofs.Common.{same_link-is}

again : {A : Type 0} (k : Bool) (x y z : A) → (if k then y else (if k then x else z)) ≡ (if k then y else z)
again true x y z = refl
again false x y z = refl

module _ {L : Type 0} where
  pub same : (w : World L) → Same w w
  same w = record { link = λ name. refl; arrived = refl; over = refl; due = refl; waiting = refl; finished = refl; dialled = refl; held = refl }

  pub same_then : (a b c : World L) → Same a b → Same b c → Same a c
  same_then a b c s t = record {
    link = λ name. s.link name ∙ t.link name;
    arrived = s.arrived ∙ t.arrived;
    over = s.over ∙ t.over;
    due = s.due ∙ t.due;
    waiting = s.waiting ∙ t.waiting;
    finished = s.finished ∙ t.finished;
    dialled = s.dialled ∙ t.dialled;
    held = s.held ∙ t.held;
  }

  pub on_link : (a b : World L) (name : LinkName) (l : Option L) → Same a b → Same (with_link name l a) (with_link name l b)
  on_link a b name l s = record {
    link = λ other. ap (λ (x : Option L). if same_link name other && is_name name then l else x) (s.link other);
    arrived = s.arrived;
    over = s.over;
    due = s.due;
    waiting = s.waiting;
    finished = s.finished;
    dialled = s.dialled;
    held = s.held;
  }

  pub on_news : (a b : World L) (name : LinkName) (change : Change) → Same a b → Same (with_news name change a) (with_news name change b)
  on_news a b name change s = record {
    link = s.link;
    arrived = s.arrived;
    over = s.over;
    due = s.due;
    waiting = ap (λ ws. ws ++ record { link = name; change = change } ∷ []) s.waiting;
    finished = s.finished;
    dialled = s.dialled;
    held = s.held;
  }

  pub on_over : (a b : World L) (l : L) → Same a b → Same (with_over l a) (with_over l b)
  on_over a b l s = record {
    link = s.link;
    arrived = s.arrived;
    over = ap (λ (ls : List L). ls ++ l ∷ []) s.over;
    due = s.due;
    waiting = s.waiting;
    finished = s.finished;
    dialled = s.dialled;
    held = s.held;
  }

  -- A link comes, and something is new of it.
  pub link_news : (a b c : World L) (name : LinkName) (l : Option L) (change : Change) → Same b (with_link name l a) → Same c (with_news name change b)
      → Same c (with_news name change (with_link name l a))
  link_news a b c name l change s t = same_then c (with_news name change b) (with_news name change (with_link name l a)) t (on_news b (with_link name l a) name change s)

  -- A link is another one, and then one more.
  pub link_again : (a b c : World L) (name : LinkName) (x y : Option L) → Same b (with_link name x a) → Same c (with_link name y b) → Same c (with_link name y a)
  link_again a b c name x y s t = record {
    link = λ other. t.link other ∙ ap (λ (z : Option L). if same_link name other && is_name name then y else z) (s.link other) ∙ again (same_link name other && is_name name) x y (a.link other);
    arrived = t.arrived ∙ s.arrived;
    over = t.over ∙ s.over;
    due = t.due ∙ s.due;
    waiting = t.waiting ∙ s.waiting;
    finished = t.finished ∙ s.finished;
    dialled = t.dialled ∙ s.dialled;
    held = t.held ∙ s.held;
  }

  -- A link is taken out, and it was lost.
  pub ends_so : (a b c : World L) (name : LinkName) (l : L) → Same b (with_link name None a) → Same c (with_over l b) → Same c (ends name l a)
  ends_so a b c name l s t = same_then c (with_over l b) (ends name l a) t (on_over b (with_link name None a) l s)

  -- A link is taken out that was another one before.
  pub ends_again : (w x : World L) (name : LinkName) (k : Option L) (l : L) → Same x (with_link name k w) → Same (ends name l x) (ends name l w)
  ends_again w x name k l s = on_over (with_link name None x) (with_link name None w) l (link_again w x (with_link name None x) name k None s (same (with_link name None x)))

  -- A link is closed, of which nothing new is told any more.
  pub closed_so : (a b c e : World L) (name : LinkName) (l : L) → Same b (forgets name a) → Same c (with_link name None b) → Same e (with_over l c) → Same e (ends name l (forgets name a))
  closed_so a b c e name l s t u =
      let k = same_then c (with_link name None b) (with_link name None (forgets name a)) t (on_link b (forgets name a) name None s) in
      ends_so (forgets name a) c e name l k u

  -- Where there is no link, none is taken out.
  kept_none : (a : World L) (name other : LinkName) → a.link name ≡ None → (k : Bool) → same_link name other ≡ k → (j : Bool) → (if k && j then None else a.link other) ≡ a.link other
  kept_none a name other none true same true = sym none ∙ ap (λ n. a.link n) (same_link-is name other same)
  kept_none a name other none true same false = refl
  kept_none a name other none false same j = refl

  pub none_kept : (a b : World L) (name : LinkName) → a.link name ≡ None → Same b (with_link name None a) → Same b a
  none_kept a b name none s = record {
    link = λ other. s.link other ∙ kept_none a name other none (same_link name other) refl (is_name name);
    arrived = s.arrived;
    over = s.over;
    due = s.due;
    waiting = s.waiting;
    finished = s.finished;
    dialled = s.dialled;
    held = s.held;
  }

  pub closed_none : (a b c : World L) (name : LinkName) → b.link name ≡ None → Same b (forgets name a) → Same c (with_link name None b) → Same c (forgets name a)
  closed_none a b c name none s t = same_then c b (forgets name a) (none_kept b c name none t) s

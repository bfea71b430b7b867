-- Which links are there, were taken and have opened, once one line more stands in the log.
-- It serves the clauses of `links_begin_anew`.
use Rattle.std.proofs.Common.{◌≡◌, ℕ, Bool, true, false, not, ◌||◌, ◌&&◌, List, [], ◌∷◌, ◌++◌, Option, Some, None, is_some, refl, ap, sym, ◌∙◌}
use Rattle.std.specs.Prelude.{filter_map, unwrap_or}
use Rattle.std.specs.List.{list_all, list_any}
use Rattle.std.specs.Option.{option_or}
use Rattle.std.proofs.lemmas.List.{append_assoc, append-nil}
use Rattle.bsc_connector.specs.declared.side.Side.TheVariants.{Primary, Failover}
use Rattle.bsc_connector.specs.Back.{newest_of}
use Rattle.bsc_connector.proofs.BackLemmas.{newest_of-more, list_any-more}
use Rattle.bsc_initiate.specs.declared.event.InitEvent.{InitEvent}
use Rattle.bsc_initiate.specs.declared.event.InitEvent.TheVariants.{Opened}
use Rattle.bsc_initiate.specs.Past.{request_at}
use Rattle.bsc_node.specs.declared.link_name.LinkName.{LinkName}
use Rattle.bsc_node.specs.declared.link_name.LinkName.TheVariants.{Hub, Direct}
use Rattle.bsc_node.specs.declared.action.Action.TheVariants.{Dial, Take}
use Rattle.bsc_node.specs.Logs.{Line, initiating, did, Log}
use Rattle.bsc_node.specs.Links.{same_link, beginning_of, begins, is_over_by, life, is_there, was_taken, initiating_event, initiating_events, request}
use Rattle.bsc_node.specs.Conditions.{has_opened}
use Rattle.bsc_node.proofs.Told.{life-more, initiating_events-more}
use Rattle.bsc_connector.proofs.Common.{first_of-more}
use Rattle.bsc_lemmas.proofs.Booleans.{and_left, and_right, not_true, or_true}
use Rattle.bsc_lemmas.proofs.Lists.{filter_map_none as filter_one}
use Rattle.bsc_lemmas.proofs.Numbers.{eq_turned as same_order}
use Rattle.bsc_lemmas.proofs.Options.{none_if as none_so, or_none as or_last, some_so}
use Rattle.bsc_node.proofs.Common.{life_begun as life-begun}
use Rattle.bsc_node.proofs.There.{there-other, there-over}

-- ---- names

pub same_link-symmetric : (name other : LinkName) → same_link name other ≡ same_link other name
same_link-symmetric (Hub Primary) (Hub Primary) = refl
same_link-symmetric (Hub Primary) (Hub Failover) = refl
same_link-symmetric (Hub Failover) (Hub Primary) = refl
same_link-symmetric (Hub Failover) (Hub Failover) = refl
same_link-symmetric (Hub s) (Direct j) = refl
same_link-symmetric (Direct k) (Hub t) = refl
same_link-symmetric (Direct k) (Direct j) = same_order k j

-- A dial begins the link that it names, and so does a link that is taken.
pub begins-dial : (name other : LinkName) (uri : List ℕ) → begins name (did (Dial other uri)) ≡ same_link other name
begins-dial name other uri = some_so (same_link other name) false

pub begins-take : (name other : LinkName) → begins name (did (Take other)) ≡ same_link other name
begins-take name other = some_so (same_link other name) true

-- ---- which links are there

-- A link that begins is there.
pub there-begun : (name : LinkName) (L : Log) (m : Line) → begins name m ≡ true → is_over_by name m ≡ false → is_there name (L ++ m ∷ []) ≡ true
there-begun name L m b o =
    ap (λ (p : Bool). p && not (list_any (is_over_by name) (life (L ++ m ∷ []) name)))
    (list_any-more (begins name) L m ∙ ap (λ (p : Bool). list_any (begins name) L || p) b ∙ or_true (list_any (begins name) L))
    ∙ ap (λ (xs : Log). not (list_any (is_over_by name) xs)) (life-begun name L m b)

-- A link that isn't there stays gone until it begins.
pub gone-stays : (name : LinkName) (L : Log) (m : Line) → begins name m ≡ false → is_there name L ≡ false → is_there name (L ++ m ∷ []) ≡ false
gone-stays name L m b gone = by (is_over_by name m) refl
  where
    by : (o : Bool) → is_over_by name m ≡ o → is_there name (L ++ m ∷ []) ≡ false
    by true o = there-over name L m b o
    by false o = there-other name L m b o ∙ gone

pub gone-stays_all : (name : LinkName) (L : Log) (lines : List Line) → list_all (λ m. not (begins name m)) lines ≡ true → is_there name L ≡ false → is_there name (L ++ lines) ≡ false
gone-stays_all name L [] h gone = ap (is_there name) (append-nil L) ∙ gone
gone-stays_all name L (m ∷ lines) h gone =
    ap (is_there name) (sym (append_assoc L (m ∷ []) lines))
    ∙ gone-stays_all name (L ++ m ∷ []) lines (and_right (not (begins name m)) (list_all (λ m. not (begins name m)) lines) h)
    (gone-stays name L m (not_true (begins name m) (and_left (not (begins name m)) (list_all (λ m. not (begins name m)) lines) h)) gone)

-- A link that is there after a line that doesn't begin it was there before.
pub there-before : (name : LinkName) (L : Log) (m : Line) → begins name m ≡ false → is_there name (L ++ m ∷ []) ≡ true → is_there name L ≡ true
there-before name L m b there = by (is_there name L) refl
  where
    by : (p : Bool) → is_there name L ≡ p → p ≡ true
    by true h = refl
    by false h = sym (gone-stays name L m b h) ∙ there

-- ---- which were taken

pub taken-other : (name : LinkName) (L : Log) (m : Line) → begins name m ≡ false → was_taken name (L ++ m ∷ []) ≡ was_taken name L
taken-other name L m b =
    ap (λ (o : Option Bool). unwrap_or o false) (newest_of-more (beginning_of name) L m)
    ∙ ap (λ (o : Option Bool). unwrap_or (option_or o (newest_of (beginning_of name) L)) false) (none_so (beginning_of name m) b)

pub taken-begun : (name : LinkName) (L : Log) (m : Line) (b : Bool) → beginning_of name m ≡ Some b → was_taken name (L ++ m ∷ []) ≡ b
taken-begun name L m b is =
    ap (λ (o : Option Bool). unwrap_or o false) (newest_of-more (beginning_of name) L m)
    ∙ ap (λ (o : Option Bool). unwrap_or (option_or o (newest_of (beginning_of name) L)) false) is

-- ---- which have opened

-- A line that neither begins a link nor tells its machine anything leaves it open or not, as it was.
pub opened-other : (name : LinkName) (L : Log) (m : Line) → begins name m ≡ false → initiating_event name m ≡ None → has_opened name (L ++ m ∷ []) ≡ has_opened name L
opened-other name L m b e =
    ap (λ (E : List InitEvent). is_some (request E)) (ap (filter_map (initiating_event name)) (life-more L m name b) ∙ filter_one (initiating_event name) (life L name) m e)

-- the request, once the link's machine is told one thing more
request-more : (name : LinkName) (L : Log) (e : InitEvent) → request (initiating_events (L ++ initiating name e ∷ []) name) ≡ option_or (request (initiating_events L name)) (request_at e)
request-more name L e = ap request (initiating_events-more L name e) ∙ first_of-more request_at (initiating_events L name) e

-- Of what a machine is told only that its link has opened opens it.
pub opened-told : (name : LinkName) (L : Log) (e : InitEvent) → request_at e ≡ None → has_opened name (L ++ initiating name e ∷ []) ≡ has_opened name L
opened-told name L e h =
    ap (λ (o : Option ℕ). is_some o) (request-more name L e ∙ ap (λ (o : Option ℕ). option_or (request (initiating_events L name)) o) h ∙ or_last (request (initiating_events L name)))

some_last : (o : Option ℕ) (n : ℕ) → is_some (option_or o (Some n)) ≡ true
some_last None n = refl
some_last (Some x) n = refl

pub opened-now : (name : LinkName) (L : Log) (now id : ℕ) → has_opened name (L ++ initiating name (Opened now id) ∷ []) ≡ true
opened-now name L now id = ap (λ (o : Option ℕ). is_some o) (request-more name L (Opened now id)) ∙ some_last (request (initiating_events L name)) id

-- A link that begins hasn't opened.
pub opened-begun : (name : LinkName) (L : Log) (m : Line) → begins name m ≡ true → has_opened name (L ++ m ∷ []) ≡ false
opened-begun name L m b = ap (λ (M : Log). is_some (request (filter_map (initiating_event name) M))) (life-begun name L m b)

-- What was put into a ring of an input that is read.
-- It serves the clauses of `feed_lines`, `read_all` and `read_once`.
use Rattle.std.proofs.Common.{◌≡◌, ◌≢◌, ℕ, List, [], ◌∷◌, ◌++◌, Option, Some, None, Ok, take, refl, sym, ap, ◌∙◌, append-nil, append_assoc, subst}
use Rattle.std.specs.List.{concat}
use Rattle.bsc_outside.specs.declared.stream.Failed.{Failed as Failing}
use Rattle.bsc_outside.specs.Reads.{Reads}
use Rattle.bsc_text.specs.Gave.{Gave}
use Rattle.bsc_input.specs.declared.feed_end.FeedEnd.{FeedEnd}
use Rattle.bsc_input.specs.declared.feed_end.FeedEnd.TheVariants.{All, Failed, NoMemory, TooMany}
use Rattle.bsc_input.specs.Lines.{lines_of}
use Rattle.bsc_input.specs.Cutting.{IsCut}
use Rattle.bsc_input.specs.Feeding.{AreFirst, FedBy, ReadFront}

-- A front of what one read gave is one of all that some reads gave.
pub one_read : (before after octets : List ℕ) → ReadFront before after octets → ReadFront before after (concat (octets ∷ []))
one_read before after octets r = (r.0, r.1, append-nil octets ∙ r.2, r.3)

-- The lines that were cut are the first of any input that begins with what was read.
first_lines : (read rest : List ℕ) (lines : List (List ℕ)) (begun front : List ℕ) → IsCut read lines begun front → AreFirst (read ++ rest) lines
first_lines read rest lines begun front k more =
    (lines_of (begun ++ (rest ++ more)), ap lines_of (append_assoc read rest more) ∙ k.cut (rest ++ more))

-- Where reading was cut short, the first lines were put.
pub front_fed : (o read rest : List ℕ) (lines : List (List ℕ)) (begun front : List ℕ) (end : FeedEnd) → IsCut read lines begun front → o ≡ read ++ rest → end ≢ All → FedBy o lines end
front_fed o read rest lines begun front All k e n = absurd (n refl)
front_fed o read rest lines begun front Failed k e n = rw e (first_lines read rest lines begun front k)
front_fed o read rest lines begun front NoMemory k e n = rw e (first_lines read rest lines begun front k)
front_fed o read rest lines begun front TooMany k e n = rw e (first_lines read rest lines begun front k)

-- ---- what some reads gave, and what more reads gave behind them

gave_none : (told : Option (List (List ℕ))) → Gave told told []
gave_none None = tt
gave_none (Some reads) = sym (append-nil reads)

gave_then : (a b c : Option (List (List ℕ))) (first second : List (List ℕ)) → Gave a b first → Gave b c second → Gave a c (first ++ second)
gave_then a b None first second p q = tt
gave_then a None (Some z) first second p q = absurd q
gave_then None (Some y) (Some z) first second p q = absurd p
gave_then (Some x) (Some y) (Some z) first second p q = q ∙ ap (λ (r : List (List ℕ)). r ++ second) p ∙ append_assoc x first second

concat_then : (first second : List (List ℕ)) → concat (first ++ second) ≡ concat first ++ concat second
concat_then [] second = refl
concat_then (o ∷ first) second = ap (λ (r : List ℕ). o ++ r) (concat_then first second) ∙ sym (append_assoc o (concat first) (concat second))

reads_gave : (a b : Option (List (List ℕ))) (n : ℕ) (into : List ℕ) → Reads {E = Failing} a b (Ok n) into → Gave a b (take n into ∷ [])
reads_gave a None n into r = tt
reads_gave None (Some y) n into r = absurd r
reads_gave (Some x) (Some y) n into r = r

-- Of what one read gave some front was read.
pub err_read : (a b : Option (List (List ℕ))) (n : ℕ) (into before after : List ℕ) → Reads {E = Failing} a b (Ok n) into → ReadFront before after (take n into)
    → (gave : List (List ℕ)) × Gave a b gave × ReadFront before after (concat gave)
err_read a b n into before after r f = (take n into ∷ [], reads_gave a b n into r, one_read before after (take n into) f)

-- The reads so far, and one more.
pub read_more : (a b c : Option (List (List ℕ))) (first : List (List ℕ)) (start read read' : List ℕ) → Gave a b first → read ≡ start ++ concat first
    → (one : (octets : List ℕ) × Gave b c (octets ∷ []) × (read' ≡ read ++ octets)) → Gave a c (first ++ one.0 ∷ []) × (read' ≡ start ++ concat (first ++ one.0 ∷ []))
read_more a b c first start read read' p e one = (
  gave_then a b c first (one.0 ∷ []) p one.1,
  one.2 ∙ ap (λ (r : List ℕ). r ++ one.0) e ∙ append_assoc start (concat first) one.0
      ∙ ap (λ (r : List ℕ). start ++ (concat first ++ r)) (sym (append-nil one.0)) ∙ ap (λ (r : List ℕ). start ++ r) (sym (concat_then first (one.0 ∷ []))),
)

-- The reads so far, and one that found the end.
pub read_end : (a b c : Option (List (List ℕ))) (first : List (List ℕ)) (start read read' : List ℕ) → Gave a b first → read ≡ start ++ concat first
    → Gave b c ([] ∷ []) → read' ≡ read → (gave : List (List ℕ)) × Gave a c gave × (read' ≡ start ++ concat gave)
read_end a b c first start read read' p e q f =
    (first ++ [] ∷ [], gave_then a b c first ([] ∷ []) p q, f ∙ e ∙ ap (λ (r : List ℕ). start ++ r) (sym (append-nil (concat first)) ∙ sym (concat_then first ([] ∷ []))))

-- What was read is a front of itself.
pub whole_front : (a c : Option (List (List ℕ))) (start read : List ℕ) → (all : (gave : List (List ℕ)) × Gave a c gave × (read ≡ start ++ concat gave))
    → (gave : List (List ℕ)) × Gave a c gave × ReadFront start read (concat gave)
whole_front a c start read all = (all.0, all.1, (concat all.0, [], sym (append-nil (concat all.0)), all.2))

-- The reads so far, and more of which some front was read.
pub read_front : (a b c : Option (List (List ℕ))) (first : List (List ℕ)) (start read read' : List ℕ) → Gave a b first → read ≡ start ++ concat first
    → (more : (gave : List (List ℕ)) × Gave b c gave × ReadFront read read' (concat gave)) → (gave : List (List ℕ)) × Gave a c gave × ReadFront start read' (concat gave)
read_front a b c first start read read' p e more = (
  first ++ more.0,
  gave_then a b c first more.0 p more.1,
  (
    concat first ++ more.2.0,
    more.2.1,
    concat_then first more.0 ∙ ap (λ (r : List ℕ). concat first ++ r) more.2.2 ∙ sym (append_assoc (concat first) more.2.0 more.2.1),
    more.2.3 ∙ ap (λ (r : List ℕ). r ++ more.2.0) e ∙ append_assoc start (concat first) more.2.0,
  ),
)

-- All was read, and its lines were put.
pub fed_all : (a c : Option (List (List ℕ))) (start read : List ℕ) (lines put : List (List ℕ)) → start ≡ [] → put ≡ lines → lines ≡ lines_of read
    → (all : (gave : List (List ℕ)) × Gave a c gave × (read ≡ start ++ concat gave)) → (gave : List (List ℕ)) × Gave a c gave × FedBy (concat gave) put All
fed_all a c start read lines put s p f all = (all.0, all.1, p ∙ f ∙ ap lines_of (all.2 ∙ ap (λ (r : List ℕ). r ++ concat all.0) s))

-- Reading was cut short, and the first lines were put.
pub fed_front : (a c : Option (List (List ℕ))) (start read : List ℕ) (lines put : List (List ℕ)) (begun front : List ℕ) (end : FeedEnd) → start ≡ [] → put ≡ lines
    → IsCut read lines begun front → end ≢ All → (some : (gave : List (List ℕ)) × Gave a c gave × ReadFront start read (concat gave))
    → (gave : List (List ℕ)) × Gave a c gave × FedBy (concat gave) put end
fed_front a c start read lines put begun front end s p k n some =
    (some.0, some.1, subst (λ (ls : List (List ℕ)). FedBy (concat some.0) ls end) (sym p) (front_fed (concat some.0) read some.2.1 lines begun front end k same n))
  where
    same : concat some.0 ≡ read ++ some.2.1
    same = some.2.2 ∙ ap (λ (r : List ℕ). r ++ some.2.1) (sym (some.2.3 ∙ ap (λ (r : List ℕ). r ++ some.2.0) s))

-- Nothing was read, for want of memory.
pub fed_none : (told : Option (List (List ℕ))) (read : List ℕ) (lines put : List (List ℕ)) (begun front : List ℕ) → read ≡ [] → put ≡ lines → IsCut read lines begun front
    → (gave : List (List ℕ)) × Gave told told gave × FedBy (concat gave) put NoMemory
fed_none told read lines put begun front e p k = (
  [],
  gave_none told,
  subst (λ (ls : List (List ℕ)). AreFirst [] ls) (sym p)
      (subst (λ (o : List ℕ). AreFirst o lines) (append-nil read ∙ e) (first_lines read [] lines begun front k)),
)

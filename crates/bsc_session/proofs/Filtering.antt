-- Frames that a policy lets through, and what is noted of the others, frame by frame.
-- It serves clauses of most source files here.
use Rattle.std.proofs.Common.{◌≡◌, ℕ, ◌+◌, List, [], ◌∷◌, ◌++◌, length, length-append, map, take, refl, ap, sym, subst, ◌∙◌, append_assoc, arith, Option, Some, None}
use Rattle.std.specs.Prelude.{is_none}
use Rattle.std.specs.Io.KnownBytes.{Appends}
use Rattle.std.proofs.KnownBytes.{Appends-trans}
use Rattle.std.proofs.Math.Seq.{take-append-add}
use Rattle.std.proofs.lemmas.List.{map-append}
use Rattle.std.proofs.lemmas.List.Elements.{filter-append}
use Rattle.bsc_octets.specs.declared.vmac.Vmac.{Vmac}
use Rattle.bsc_policy.specs.declared.policy.Policy.{Policy}
use Rattle.bsc_edge.specs.declared.fault.LinkFault.{LinkFault}
use Rattle.bsc_lines.specs.declared.denial.Denial.{Denial}
use Rattle.bsc_session.specs.Notes.Notes.{HasLine, Note, Records, RecordsPart, all_but_last, denied, lines_of}
use Rattle.bsc_history.specs.declared.ending.End.{End}
use Rattle.bsc_session.specs.Puts.{HasPut}
use Rattle.bsc_session.specs.Guarding.{denials, denials_by, denied_frame, if_any, let_through}
use Rattle.bsc_session.specs.Standings.{Standing, Terms}
use Rattle.bsc_session.specs.Taking.{last_alone, last_of, noted_last, noted_of, passing}
use Rattle.bsc_session.proofs.Lists.{HasPut-append}
use Rattle.bsc_session.proofs.Recording.{lines-append, octets-append, records_on}

pub let_through-append : (policy : Option Policy) (to : Option Vmac) (xs ys : List (List ℕ)) → let_through policy to (xs ++ ys) ≡ let_through policy to xs ++ let_through policy to ys
let_through-append None to xs ys = refl
let_through-append (Some p) to xs ys = filter-append (λ f. is_none (denied_frame p to f)) xs ys

-- of no frames none is let through, and nothing is denied
pub through-nil : (policy : Option Policy) (to : Option Vmac) → let_through policy to [] ≡ []
through-nil None to = refl
through-nil (Some p) to = refl

pub denials-nil : (policy : Option Policy) (to : Option Vmac) → denials policy to [] ≡ []
denials-nil None to = refl
denials-nil (Some p) to = refl

pub passing-nil : (v : Terms) (s : Standing) → passing v s [] ≡ []
passing-nil v s = through-nil v.policy s.address

pub noted-nil : (v : Terms) (s : Standing) → noted_of v s [] ≡ []
noted-nil v s = ap (map denied) (denials-nil v.policy s.address)

by-append : (p : Policy) (to : Option Vmac) (xs ys : List (List ℕ)) → denials_by p to (xs ++ ys) ≡ denials_by p to xs ++ denials_by p to ys
by-append p to [] ys = refl
by-append p to (f ∷ fs) ys = ap (λ w. if_any (denied_frame p to f) ++ w) (by-append p to fs ys) ∙ sym (append_assoc (if_any (denied_frame p to f)) (denials_by p to fs) (denials_by p to ys))

pub denials-append : (policy : Option Policy) (to : Option Vmac) (xs ys : List (List ℕ)) → denials policy to (xs ++ ys) ≡ denials policy to xs ++ denials policy to ys
denials-append None to xs ys = refl
denials-append (Some p) to xs ys = by-append p to xs ys

pub noted-append : (policy : Option Policy) (to : Option Vmac) (xs ys : List (List ℕ))
    → map denied (denials policy to (xs ++ ys)) ≡ map denied (denials policy to xs) ++ map denied (denials policy to ys)
noted-append policy to xs ys = ap (map denied) (denials-append policy to xs ys) ∙ map-append denied (denials policy to xs) (denials policy to ys)

-- the last of frames with one more
pub last_alone-more : (xs : List (List ℕ)) (f : List ℕ) → last_alone (xs ++ f ∷ []) ≡ f ∷ []
last_alone-more [] f = refl
last_alone-more (x ∷ []) f = refl
last_alone-more (x ∷ (y ∷ xs)) f = last_alone-more (y ∷ xs) f

-- a put of the last frame is one of all
pub through_last : (policy : Option Policy) (to : Option Vmac) (frames : List (List ℕ)) (fault : Option LinkFault) → HasPut (let_through policy to (last_alone frames)) fault
    → HasPut (let_through policy to frames) fault
through_last policy to [] fault h = h
through_last policy to (f ∷ []) fault h = h
through_last policy to (f ∷ (g ∷ fs)) fault h =
    subst (λ w. HasPut w fault) (sym (let_through-append policy to (f ∷ []) (g ∷ fs)))
    (HasPut-append (let_through policy to (f ∷ [])) (let_through policy to (g ∷ fs)) fault (through_last policy to (g ∷ fs) fault h))

-- ---- a frame that is denied isn't put

pub no_put : (fault : Option LinkFault) → HasPut [] fault → fault ≡ None
no_put None h = refl
no_put (Some f) h = absurd h

clear_frame : (p : Policy) (to : Option Vmac) (f : List ℕ) (o : Option Denial) (lost : LinkFault) (fault : Option LinkFault) → denied_frame p to f ≡ o
    → HasLine (map denied (denials (Some p) to (f ∷ []))) (Some lost) → HasPut (let_through (Some p) to (f ∷ [])) fault → fault ≡ None
clear_frame p to f None lost fault is line h = (let k : HasLine [] (Some lost) = rw is at line in absurd k)
clear_frame p to f (Some d) lost fault is line h = (let k : HasPut [] fault = rw is at h in no_put fault k)

clear_last : (p : Policy) (to : Option Vmac) (frames : List (List ℕ)) (lost : LinkFault) (fault : Option LinkFault)
    → HasLine (map denied (denials (Some p) to (last_alone frames))) (Some lost) → HasPut (let_through (Some p) to (last_alone frames)) fault → fault ≡ None
clear_last p to [] lost fault line h = absurd line
clear_last p to (f ∷ []) lost fault line h = clear_frame p to f (denied_frame p to f) lost fault refl line h
clear_last p to (f ∷ (g ∷ fs)) lost fault line h = clear_last p to (g ∷ fs) lost fault line h

clear_by : (policy : Option Policy) (to : Option Vmac) (frames : List (List ℕ)) (met : Option End) (os : List (List ℕ)) (lost : LinkFault) (fault : Option LinkFault)
    → HasLine (noted_last met (map denied (denials policy to (last_alone frames)))) (Some lost) → HasPut (last_of (let_through policy to (last_alone frames)) os met) fault → fault ≡ None
clear_by policy to frames (Some e) os lost fault line h = absurd line
clear_by None to frames None os lost fault line h = absurd line
clear_by (Some p) to frames None os lost fault line h = clear_last p to frames lost fault line h

-- where a line of the last frame wasn't put, no put failed
pub put_clear : (policy : Option Policy) (to : Option Vmac) (frames : List (List ℕ)) (met : Option End) (os : List (List ℕ)) (lost fault : Option LinkFault) (f : LinkFault) → lost ≡ Some f
    → HasLine (noted_last met (map denied (denials policy to (last_alone frames)))) lost → HasPut (last_of (let_through policy to (last_alone frames)) os met) fault → fault ≡ None
put_clear policy to frames met os lost fault f is line h = clear_by policy to frames met os f fault (rw is at line) h

-- ---- a lost line behind lines that were put

last-append : (ns : List Note) (m : Note) (ms : List Note) → all_but_last (ns ++ m ∷ ms) ≡ ns ++ all_but_last (m ∷ ms)
last-append [] m ms = refl
last-append (n ∷ []) m ms = refl
last-append (n ∷ (k ∷ ns)) m ms = ap (λ w. n ∷ w) (last-append (k ∷ ns) m ms)

length-lines : (ns ms : List Note) → length (lines_of (ns ++ ms)) ≡ length (lines_of ns) + length (lines_of ms)
length-lines ns ms = ap (λ w. length w) (lines-append ns ms) ∙ length-append (lines_of ns) (lines_of ms)

pub records_more : (a b c : Option (List ℕ)) (ns ms : List Note) (lost : Option LinkFault) → Records a b ns None → Records b c ms lost → HasLine ms lost → Records a c (ns ++ ms) lost
records_more a b c ns ms None h k line = records_on a b c ns ms h k
records_more a b c ns [] (Some fault) h k line = absurd line
records_more a b c ns (m ∷ ms) (Some fault) h k line =
    let low = length-lines ns (all_but_last (m ∷ ms)) in
    let high = length-lines ns (m ∷ ms) in
    let first = ap (λ w. length (lines_of w)) (last-append ns m ms) in
    let part : RecordsPart b c (m ∷ ms) = k.0 in
    let all : RecordsPart a c (ns ++ m ∷ ms) = (
      length (lines_of ns) + part.0,
      omega (arith, low, first, part.1),
      omega (arith, high, part.2),
      subst (Appends a c) (sym (ap (take (length (lines_of ns) + part.0)) (lines-append ns (m ∷ ms)) ∙ take-append-add (lines_of ns) (lines_of (m ∷ ms)) part.0))
          (Appends-trans a b c (lines_of ns) (take part.0 (lines_of (m ∷ ms))) h.0 part.3),
    ) in
    (all, octets-append ns (m ∷ ms) h.1 k.1)

-- Frames are taken and put.
-- It serves the clauses of `take_frames`.
use Rattle.std.proofs.Common.{◌≡◌, ℕ, true, ◌+◌, ◌<◌, List, [], ◌∷◌, ◌++◌, refl, ap, sym, ◌∙◌, append_assoc, append-nil, length-append, arith, Option, Some, None}
use Rattle.std.specs.Prelude.{◌^◌, ◌-◌, min, suc, zero, length}
use Rattle.std.proofs.lemmas.Bool.{lt-ltb}
use Rattle.bsc_history.specs.declared.ending.End.{End}
use Rattle.bsc_edge.specs.declared.fault.LinkFault.{LinkFault}
use Rattle.bsc_edge.specs.declared.said.Said.{Said}
use Rattle.bsc_edge.specs.Told.{Grows}
use Rattle.bsc_edge.proofs.Common.{grows_none, grows_then}
use Rattle.bsc_ring.specs.declared.ends.Outlet.{Outlet}
use Rattle.bsc_ring.specs.declared.take.Take.{Take}
use Rattle.bsc_ring.specs.declared.take.Take.TheVariants.{Frame, Empty, Closed}
use mathlib.Core.Option.{some}
use lib.ListN.{get_elem?}
use Rattle.bsc_ring.specs.declared.found.Found.{Found}
use Rattle.bsc_ring.specs.declared.found.Found.TheVariants.{Ending, Tail}
use Rattle.bsc_ring.specs.Ends.{FoundEnd, Took, empties_of, found, given, known_pushed, knows_all, outlet_mark}
use Rattle.bsc_session.specs.declared.bounds.TheConstants.{TAKES}
use Rattle.bsc_session.specs.declared.taken.Taken.{Taken}
use Rattle.bsc_session.specs.declared.taken.Taken.TheVariants.{All, Part, Met, Cut, Lost}
use Rattle.bsc_session.specs.Following.{OutletHasEnded}
use Rattle.bsc_session.specs.TakingFrames.{FitsCount, HandsOn, IsCut, Taking, Takes, cut_in, met_in, nothing_found, unput_in}
use Rattle.bsc_session.specs.Puts.{puts, HasPut}
use Rattle.bsc_session.proofs.Lists.{grows_as, puts-append, well}
use Rattle.bsc_history.proofs.Common.{end_is}
use Rattle.std.proofs.Common.{subst, map, is_none}
use Rattle.std.specs.Prelude.{◌&&◌}
use Rattle.bsc_octets.specs.declared.vmac.Vmac.{Vmac}
use Rattle.bsc_policy.specs.declared.policy.Policy.{Policy}
use Rattle.bsc_session.specs.Notes.Notes.{HasLine, Records, denied}
use Rattle.bsc_session.proofs.NoteFacts.Common.{no_line}
use Rattle.bsc_session.specs.Guarding.{denials, let_through}
use Rattle.bsc_session.specs.Taking.{last_alone}
use Rattle.bsc_session.specs.Moments.{traces}
use Rattle.bsc_session.proofs.Recording.{records-nil}
use Rattle.bsc_session.proofs.Filtering.{last_alone-more, let_through-append, noted-append, records_more}
use Rattle.bsc_lemmas.proofs.Booleans.{not_both}

elem_stays : (xs ys : List Found) (i : ℕ) (x : Found) → get_elem? xs i ≡ some x → get_elem? (xs ++ ys) i ≡ some x
elem_stays [] ys i x h = cc
elem_stays (y ∷ xs) ys zero x h = h
elem_stays (y ∷ xs) ys (suc i) x h = elem_stays xs ys i x h

took_found : (o p : Outlet) (t : Take) → Took o t p → (ys : List Found) × (found p ≡ found o ++ ys)
took_found o p (Frame x) h = (Ending h.3.0 ∷ Tail h.3.1 ∷ [], h.3.3.0)
took_found o p Empty h = (Ending None ∷ Tail (length (given o)) ∷ [], h.0.3.0)
took_found o p (Closed e) h = (Ending (Some e) ∷ Tail (length (given o)) ∷ [], h.0.3.0)

keeps_found : (o p : Outlet) (t : Take) (e : End) → Took o t p → FoundEnd o e → FoundEnd p e
keeps_found o p t e took h = (let k = took_found o p t took in (h.0, rw k.1 (elem_stays (found o) k.0 h.0 _ h.1)))

no_more : (given_ all rest : List (List ℕ)) (x : List ℕ) → all ≡ given_ → all ≡ (given_ ++ x ∷ []) ++ rest → ⊥
no_more given_ all rest x same more =
    let e = ap (λ (l : List (List ℕ)). length l) (sym same ∙ more) in
    let f = length-append (given_ ++ x ∷ []) rest in
    let g = length-append given_ (x ∷ []) in
    omega (arith, e, f, g)

-- an outlet that gave all that was pushed gives no more
keeps_all : (o p : Outlet) (t : Take) → Took o t p → knows_all o ≡ true → known_pushed o ≡ given o → (knows_all p ≡ true) × (known_pushed p ≡ given p)
keeps_all o p (Frame x) h whole all =
    let k = h.3.4.2 whole in
    absurd (no_more (given o) (known_pushed p) h.1.0 x (k.0 ∙ all) (h.1.1 ∙ ap (λ w. w ++ h.1.0) h.0))
keeps_all o p Empty h whole all = absurd (not_both {b = knows_all p} (h.0.4.2 whole).1 h.0.3.3)
keeps_all o p (Closed e) h whole all = (h.0.3.3, h.0.1 ∙ sym h.0.0)

keeps_ended : (o p : Outlet) (t : Take) (e : End) → Took o t p → OutletHasEnded o e → OutletHasEnded p e
keeps_ended o p t e took h = (let k = keeps_all o p t took h.1 h.2 in (keeps_found o p t e took h.0, k.0, k.1))

pub taking_begins : (policy : Option Policy) (to : Vmac) (o : Outlet) (old : Option (List Said)) (pages : Option (List ℕ)) → Taking policy to o o (traces old pages) (traces old pages) 0
taking_begins None to o old pages = record {
  frames = [];
  many = refl;
  mark = refl;
  keeps = λ e h. h;
  gave = sym (append-nil (given o));
  empties = refl;
  said = grows_none old;
  records = records-nil pages;
}
taking_begins (Some p) to o old pages = record {
  frames = [];
  many = refl;
  mark = refl;
  keeps = λ e h. h;
  gave = sym (append-nil (given o));
  empties = refl;
  said = grows_none old;
  records = records-nil pages;
}

-- the puts, and the notes, of one frame more
said_more : (policy : Option Policy) (to : Vmac) (frames : List (List ℕ)) (f : List ℕ) (old mid new : Option (List Said)) (fault : Option LinkFault)
    → Grows old mid (puts (let_through policy (Some to) frames) None)
    → Grows mid new (puts (let_through policy (Some to) (f ∷ [])) fault) → HasPut (let_through policy (Some to) (f ∷ [])) fault
    → Grows old new (puts (let_through policy (Some to) (frames ++ f ∷ [])) fault)
said_more policy to frames f old mid new fault h k cause =
    grows_as old new _ _ (sym (ap (λ w. puts w fault) (let_through-append policy (Some to) frames (f ∷ []))
    ∙ puts-append (let_through policy (Some to) frames) (let_through policy (Some to) (f ∷ [])) fault cause)) (grows_then old mid new _ _ h k)

noted_more : (policy : Option Policy) (to : Vmac) (frames : List (List ℕ)) (f : List ℕ) (a b c : Option (List ℕ)) (lost : Option LinkFault)
    → Records a b (map denied (denials policy (Some to) frames)) None
    → Records b c (map denied (denials policy (Some to) (f ∷ []))) lost → HasLine (map denied (denials policy (Some to) (f ∷ []))) lost
    → Records a c (map denied (denials policy (Some to) (frames ++ f ∷ []))) lost
noted_more policy to frames f a b c lost h k line = subst (λ ns. Records a c ns lost) (sym (noted-append policy (Some to) frames (f ∷ []))) (records_more a b c _ _ lost h k line)

-- a frame was taken, and put or noted
pub taking_more : (policy : Option Policy) (to : Vmac) (o p q : Outlet) (old mid new : Option (List Said)) (a b c : Option (List ℕ)) (n : ℕ) (f : List ℕ)
    → Taking policy to o p (traces old a) (traces mid b) n
    → Took p (Frame f) q → outlet_mark q ≡ outlet_mark p → HandsOn policy to f (traces mid b) (traces new c) None → Taking policy to o q (traces old a) (traces new c) (n + 1)
taking_more policy to o p q old mid new a b c n f t took mark hands = record {
  frames = t.frames ++ f ∷ [];
  many = length-append t.frames (f ∷ []) ∙ ap (λ k. k + 1) t.many;
  mark = mark ∙ t.mark;
  keeps = λ e h. keeps_ended p q (Frame f) e took (t.keeps e h);
  gave = took.0 ∙ ap (λ k. k ++ f ∷ []) t.gave ∙ append_assoc (given o) t.frames (f ∷ []);
  empties = took.2 ∙ t.empties;
  said = said_more policy to t.frames f old mid new None t.said hands.said hands.cause;
  records = noted_more policy to t.frames f a b c None t.records hands.records hands.line;
}

counted : (a b : ℕ) → a < 18446744073709551615 → b ≡ min (a + 1) (2 ^ 64 - 1) → b ≡ a + 1
counted a b h is = omega (arith, h, is)

-- fewer were there
pub takes_few : (policy : Option Policy) (to : Vmac) (o p q : Outlet) (old new : Option (List Said)) (a c : Option (List ℕ)) (n : ℕ) → Taking policy to o p (traces old a) (traces new c) n
    → n < TAKES → empties_of o < 18446744073709551615
    → Took p Empty q → outlet_mark q ≡ outlet_mark p → Takes policy to o q (traces old a) (traces new c) All
takes_few policy to o p q old new a c n t few room took mark =
    let less : empties_of p < 18446744073709551615 = rw t.empties room in
    let one : empties_of q ≡ empties_of p + 1 = counted (empties_of p) (empties_of q) less took.2 in
    record {
      frames = t.frames;
      mark = mark ∙ t.mark;
      keeps = λ e h. keeps_ended p q Empty e took (t.keeps e h);
      found = λ e h. cc;
      left = λ e h. cc;
      gave = took.0.0 ∙ t.gave;
      empties = rw (t.many, lt-ltb n TAKES few) (one ∙ ap (λ k. k + 1) t.empties);
      few = (let k = t.many in omega (arith, k, few));
      fits = rw t.many few;
      said = t.said;
      cause = well (let_through policy (Some to) (last_alone t.frames));
      records = t.records;
      line = no_line (map denied (denials policy (Some to) (last_alone t.frames)));
    }

-- an End was there
pub takes_met : (policy : Option Policy) (to : Vmac) (o p q : Outlet) (old new : Option (List Said)) (a c : Option (List ℕ)) (n : ℕ) (e : End)
    → Taking policy to o p (traces old a) (traces new c) n → n < TAKES
    → Took p (Closed e) q → outlet_mark q ≡ outlet_mark p → OutletHasEnded q e → Takes policy to o q (traces old a) (traces new c) (Met e)
takes_met policy to o p q old new a c n e t few took mark finds = record {
  frames = t.frames;
  mark = mark ∙ t.mark;
  keeps = λ d h. keeps_ended p q (Closed e) d took (t.keeps d h);
  found = λ d h. rw (sym (end_is e d h)) finds;
  left = λ d h. rw (sym (end_is e d h)) took.1;
  gave = took.0.0 ∙ t.gave;
  empties = took.2 ∙ t.empties ∙ omega arith;
  few = (let k = t.many in omega (arith, k, few));
  fits = tt;
  said = t.said;
  cause = well (let_through policy (Some to) (last_alone t.frames));
  records = t.records;
  line = no_line (map denied (denials policy (Some to) (last_alone t.frames)));
}

cut_counts : (cut : Taken) (frames : List (List ℕ)) → IsCut (Some cut) → nothing_found frames (met_in cut) (is_none (cut_in cut) && is_none (unput_in cut)) ≡ 0
cut_counts (Cut fault) frames is = refl
cut_counts (Lost fault) frames is = refl
cut_counts All frames is = absurd is
cut_counts Part frames is = absurd is
cut_counts (Met e) frames is = absurd is

cut_unmet : (cut : Taken) → IsCut (Some cut) → met_in cut ≡ None
cut_unmet (Cut fault) is = refl
cut_unmet (Lost fault) is = refl
cut_unmet All is = refl
cut_unmet Part is = refl
cut_unmet (Met e) is = absurd is

cut_fits : (cut : Taken) (frames : List (List ℕ)) → IsCut (Some cut) → FitsCount cut frames
cut_fits (Cut fault) frames is = tt
cut_fits (Lost fault) frames is = tt
cut_fits All frames is = absurd is
cut_fits Part frames is = absurd is
cut_fits (Met e) frames is = tt

unmet_end : (o : Option End) (e : End) → o ≡ None → o ≡ Some e → ⊥
unmet_end o e h k = (let x : None ≡ Some e = sym h ∙ k in cc)

-- a put failed, or a line was lost
pub takes_cut : (policy : Option Policy) (to : Vmac) (o p q : Outlet) (old mid new : Option (List Said)) (a b c : Option (List ℕ)) (n : ℕ) (f : List ℕ) (cut : Taken)
    → Taking policy to o p (traces old a) (traces mid b) n → n < TAKES
    → Took p (Frame f) q → outlet_mark q ≡ outlet_mark p → HandsOn policy to f (traces mid b) (traces new c) (Some cut) → Takes policy to o q (traces old a) (traces new c) cut
takes_cut policy to o p q old mid new a b c n f cut t few took mark hands = record {
  frames = t.frames ++ f ∷ [];
  mark = mark ∙ t.mark;
  keeps = λ e h. keeps_ended p q (Frame f) e took (t.keeps e h);
  found = λ e h. absurd (unmet_end (met_in cut) e (cut_unmet cut hands.cuts) h);
  left = λ e h. absurd (unmet_end (met_in cut) e (cut_unmet cut hands.cuts) h);
  gave = took.0 ∙ ap (λ k. k ++ f ∷ []) t.gave ∙ append_assoc (given o) t.frames (f ∷ []);
  empties = rw (cut_counts cut (t.frames ++ f ∷ []) hands.cuts) (took.2 ∙ t.empties ∙ omega arith);
  few = rw (cut_unmet cut hands.cuts, length-append) (let k = t.many in omega (arith, k, few));
  fits = cut_fits cut (t.frames ++ f ∷ []) hands.cuts;
  said = said_more policy to t.frames f old mid new (cut_in cut) t.said hands.said hands.cause;
  cause = subst (λ w. HasPut (let_through policy (Some to) w) (cut_in cut)) (sym (last_alone-more t.frames f)) hands.cause;
  records = noted_more policy to t.frames f a b c (unput_in cut) t.records hands.records hands.line;
  line = subst (λ w. HasLine (map denied (denials policy (Some to) w)) (unput_in cut)) (sym (last_alone-more t.frames f)) hands.line;
}

elem_there : (xs ys : List Found) (x : Found) → (i : ℕ) × (get_elem? (xs ++ x ∷ ys) i ≡ some x)
elem_there [] ys x = (0, refl)
elem_there (y ∷ xs) ys x = (let k = elem_there xs ys x in (suc k.0, k.1))

-- the loads of a take that answers Closed find that End, and all was given
pub finds_end : (p q : Outlet) (e : End) → Took p (Closed e) q → OutletHasEnded q e
finds_end p q e took =
    let there = elem_there (found p) (Tail (length (given p)) ∷ []) (Ending (Some e)) in
    let finds : FoundEnd q e = (there.0, rw took.0.3.0 there.1) in
    (finds, took.0.3.3, took.0.1 ∙ sym took.0.0)

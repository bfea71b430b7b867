-- What was taken of a ring's outlet, once more.
-- It serves the clauses of `take`.
use Rattle.std.proofs.Common.{◌≡◌, ℕ, Bool, List, [], ◌∷◌, ◌++◌, refl, sym, ap, ◌∙◌}
use Rattle.bsc_input.specs.declared.inbox.taken.Taken.{Taken}
use Rattle.bsc_input.specs.declared.inbox.taken.Taken.TheVariants.{Line, Nothing, End}
use Rattle.bsc_ring.specs.declared.ends.Outlet.{Outlet}
use Rattle.bsc_ring.specs.declared.take.Take.{Take}
use Rattle.bsc_ring.specs.declared.take.Take.TheVariants.{Frame, Empty, Closed}
use Rattle.bsc_ring.specs.Ends.{Took, given}
use Rattle.bsc_input.specs.Given.{EndsRightly, lines_taken}

line_more : (taken : List Taken) (o : List ℕ) → lines_taken (taken ++ Line o ∷ []) ≡ lines_taken taken ++ o ∷ []
line_more [] o = refl
line_more (Line p ∷ taken) o = ap (λ (xs : List (List ℕ)). p ∷ xs) (line_more taken o)
line_more (Nothing ∷ taken) o = line_more taken o
line_more (End ∷ taken) o = line_more taken o

none_more : (taken : List Taken) → lines_taken (taken ++ Nothing ∷ []) ≡ lines_taken taken
none_more [] = refl
none_more (Line p ∷ taken) = ap (λ (xs : List (List ℕ)). p ∷ xs) (none_more taken)
none_more (Nothing ∷ taken) = none_more taken
none_more (End ∷ taken) = none_more taken

end_more : (taken : List Taken) → lines_taken (taken ++ End ∷ []) ≡ lines_taken taken
end_more [] = refl
end_more (Line p ∷ taken) = ap (λ (xs : List (List ℕ)). p ∷ xs) (end_more taken)
end_more (Nothing ∷ taken) = end_more taken
end_more (End ∷ taken) = end_more taken

-- The lines that were taken are still those that the ring gave.
pub gave_more : (o : Outlet) (take : Take) (p : Outlet) (before after : List Taken) (taken : Taken) (failed : Bool) → Took o take p → EndsRightly take taken failed
    → lines_taken before ≡ given o → after ≡ before ++ taken ∷ [] → lines_taken after ≡ given p
gave_more o (Frame x) p before after taken failed t e h a =
    ap lines_taken (a ∙ ap (λ (one : Taken). before ++ one ∷ []) e.0) ∙ line_more before x ∙ ap (λ (xs : List (List ℕ)). xs ++ x ∷ []) h ∙ sym t.0
gave_more o Empty p before after taken failed t e h a =
    ap lines_taken (a ∙ ap (λ (one : Taken). before ++ one ∷ []) e.0) ∙ none_more before ∙ h ∙ sym t.0.0
gave_more o (Closed end) p before after taken failed t e h a =
    ap lines_taken (a ∙ ap (λ (one : Taken). before ++ one ∷ []) e.0) ∙ end_more before ∙ h ∙ sym t.0.0

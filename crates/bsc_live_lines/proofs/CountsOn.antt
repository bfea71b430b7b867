-- Lines that are counted on.
use Rattle.std.proofs.Common.{◌≡◌, ℕ, ◌+◌, min, List, [], ◌∷◌, ◌++◌, ap, sym, ◌∙◌, append-nil, append_assoc}
use Rattle.bsc_input.specs.declared.inbox.taken.Taken.{Taken}
use Rattle.bsc_live_lines.specs.Refusals.{number_in}
use Rattle.bsc_live_lines.specs.Waiting.{CountsOn}

pub on_none : (taken : List Taken) (n : ℕ) → CountsOn taken taken n n
on_none taken n first h = ([], sym (append-nil taken), h ∙ ap number_in (sym (append-nil first)))

pub on_then : (xs ys zs : List Taken) (n m k : ℕ) → CountsOn xs ys n m → CountsOn ys zs m k → CountsOn xs zs n k
on_then xs ys zs n m k f g first h =
    let a : (more : List Taken) × (ys ≡ xs ++ more) × (m ≡ number_in (first ++ more)) = f first h in
    let b : (more : List Taken) × (zs ≡ ys ++ more) × (k ≡ number_in ((first ++ a.0) ++ more)) = g (first ++ a.0) a.2 in (
      a.0 ++ b.0,
      b.1 ∙ ap (λ (v : List Taken). v ++ b.0) a.1 ∙ append_assoc xs a.0 b.0,
      b.2 ∙ ap number_in (append_assoc first a.0 b.0),
    )

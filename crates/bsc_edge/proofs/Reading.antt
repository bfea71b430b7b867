-- Files that were read, one behind another.
-- It serves bsc_commands, bsc_hub_command and bsc_node_command.
use Rattle.std.proofs.Common.{◌≡◌, ℕ, List, [], ◌∷◌, ◌++◌, Option, Ok, refl, sym, subst, append_assoc}
use Rattle.std.specs.Prelude.{Result, Err, IfOk}
use Rattle.bsc_edge.specs.declared.fault.FileFault.{FileFault}
use Rattle.bsc_edge.specs.declared.loaded.Loaded.{Loaded}
use Rattle.bsc_edge.specs.Asked.{GaveFile, ReadsFirstOf, ReadsOnce, loaded_by}
use Rattle.bsc_edge.specs.Told.{Grows}
use Rattle.bsc_edge.proofs.Common.{grows_none, grows_then}

-- none was read
pub reads_none : (old : Option (List Loaded)) (paths : List (List ℕ)) → ReadsFirstOf old old paths
reads_none old paths = record { since = []; unread = paths; told = grows_none old; first = refl }

-- one was read, the first of these
pub reads_one : (old new : Option (List Loaded)) (path : List ℕ) (more : List (List ℕ)) → ReadsOnce old new path → ReadsFirstOf old new (path ∷ more)
reads_one old new path more r = record { since = loaded_by path r.0 ∷ []; unread = more; told = r.1; first = refl }

-- one was read, and then another
pub reads_both : (old mid new : Option (List Loaded)) (path other : List ℕ) → ReadsOnce old mid path → ReadsOnce mid new other → ReadsFirstOf old new (path ∷ other ∷ [])
reads_both old mid new path other r s = record {
  since = loaded_by path r.0 ∷ loaded_by other s.0 ∷ [];
  unread = [];
  told = grows_then old mid new (loaded_by path r.0 ∷ []) (loaded_by other s.0 ∷ []) r.1 s.1;
  first = refl;
}

module _ {F : Type 0} (holds : F → List ℕ → List ℕ → Type 0) (loads : F → Option (List Loaded)) where
  -- a file that was read alone
  pub gave_alone : (old new : F) (path o : List ℕ) → holds old path o → Grows (loads old) (loads new) (loaded_by path (Ok o) ∷ []) → GaveFile holds loads old new path o
  gave_alone old new path o held told = record { held = held; earlier = []; later = []; told = told }

  pub gave_alone_if : (old new : F) (path : List ℕ) (r : Result (List ℕ) FileFault) → IfOk r (λ o. holds old path o) → Grows (loads old) (loads new) (loaded_by path r ∷ [])
      → IfOk r (λ o. GaveFile holds loads old new path o)
  gave_alone_if old new path (Ok o) held told = gave_alone old new path o held told
  gave_alone_if old new path (Err fault) held told = tt

  -- another was read behind it
  pub gave_before : (old mid new : F) (path other o : List ℕ) → GaveFile holds loads old mid path o → ReadsOnce (loads mid) (loads new) other → GaveFile holds loads old new path o
  gave_before old mid new path other o g r = record {
    held = g.held;
    earlier = g.earlier;
    later = g.later ++ loaded_by other r.0 ∷ [];
    told = subst (λ (l : List Loaded). Grows (loads old) (loads new) l) (append_assoc g.earlier (loaded_by path (Ok o) ∷ g.later) (loaded_by other r.0 ∷ []))
        (grows_then (loads old) (loads mid) (loads new) (g.earlier ++ loaded_by path (Ok o) ∷ g.later) (loaded_by other r.0 ∷ []) g.told r.1);
  }

  -- another was read before it, and what the files have they had before
  pub gave_behind : (old mid new : F) (path other o : List ℕ) → ReadsOnce (loads old) (loads mid) other → ((p x : List ℕ) → holds mid p x → holds old p x)
      → GaveFile holds loads mid new path o → GaveFile holds loads old new path o
  gave_behind old mid new path other o r stays g = record {
    held = stays path o g.held;
    earlier = loaded_by other r.0 ∷ g.earlier;
    later = g.later;
    told = grows_then (loads old) (loads mid) (loads new) (loaded_by other r.0 ∷ []) (g.earlier ++ loaded_by path (Ok o) ∷ g.later) r.1 g.told;
  }

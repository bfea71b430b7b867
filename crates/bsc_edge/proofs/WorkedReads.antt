-- What is said of files that were read, of some that tell their reads as a list.
-- No clause needs it: worked examples.
use Rattle.std.proofs.Common.{◌≡◌, ℕ, List, [], ◌∷◌, codes, Some, Ok, refl}
use Rattle.std.specs.Prelude.{⊤}
use Rattle.bsc_edge.specs.declared.loaded.Loaded.{Loaded}
use Rattle.bsc_edge.specs.Asked.{GaveFile, ReadsFirstOf, ReadsOnce, loaded_by}

abbrev settings : Loaded
settings = loaded_by (codes "node.toml") (Ok (codes "vmac"))

abbrev script : Loaded
script = loaded_by (codes "node.script") (Ok (codes "finish"))

pub the_settings_were_read : ReadsOnce (Some []) (Some (settings ∷ [])) (codes "node.toml")
the_settings_were_read = (Ok (codes "vmac"), refl)

-- a file that was read twice wasn't read once
pub not_twice : ReadsOnce (Some []) (Some (settings ∷ settings ∷ [])) (codes "node.toml") → ⊥
not_twice r = (let k : settings ∷ settings ∷ [] ≡ loaded_by (codes "node.toml") r.0 ∷ [] = r.1 in cc)

pub both_were_read : ReadsFirstOf (Some []) (Some (settings ∷ script ∷ [])) (codes "node.toml" ∷ codes "node.script" ∷ [])
both_were_read = record { since = settings ∷ script ∷ []; unread = []; told = refl; first = refl }

-- the text of the settings, with the script read behind it
pub the_settings_are_given : GaveFile (λ (f : List Loaded) (path o : List ℕ). ⊤) (λ (f : List Loaded). Some f) [] (settings ∷ script ∷ []) (codes "node.toml") (codes "vmac")
the_settings_are_given = record { held = tt; earlier = []; later = script ∷ []; told = refl }

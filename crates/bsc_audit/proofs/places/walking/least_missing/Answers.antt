use Rattle.std.proofs.Common.{◌≡◌, ℕ, Option, MatchOption, length, map, sym, subst}
use Rattle.std.specs.List.{range_with_len}
use Rattle.bsc_audit.specs.Places.Places.{IsLeastMissing}
use Rattle.bsc_audit.proofs.PlaceFacts.Rising.{place_of}
use Rattle.bsc_audit.proofs.PlaceFacts.Missing.{told_missing}
use Rattle.bsc_audit.proofs.places.walking.least_missing.Goals as goal

pub returns : goal.returns
returns c =
    let spots = c.args.spots.now in
    subst (λ (o : Option ℕ). MatchOption o (map place_of spots ≡ range_with_len 0 (length spots)) (λ p. IsLeastMissing p (map place_of spots)))
    (sym c.skipped.ensures) (told_missing spots c.requires.rising c.requires.once)

use Rattle.std.proofs.Common.{ℕ, Option, map, sym, subst}
use Rattle.bsc_audit.proofs.PlaceFacts.Rising.{place_of}
use Rattle.bsc_audit.proofs.PlaceFacts.Twice.{Told, told_twice}
use Rattle.bsc_audit.proofs.places.walking.least_twice.Goals as goal

pub returns : goal.returns
returns c = subst (λ (o : Option ℕ). Told o (map place_of c.args.spots.now)) (sym c.repeated.ensures) (told_twice c.args.spots.now c.requires)

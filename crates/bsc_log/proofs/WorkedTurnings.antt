-- What is told of streams that were turned away, of three of them.
-- No clause needs it: worked examples.
use Rattle.std.proofs.Common.{◌≡◌, [], ◌∷◌, ◌++◌, codes, Some, None, true, false, refl}
use Rattle.std.specs.declared.time.Duration.{Duration}
use Rattle.bsc_log.specs.declared.log_event.Turning.TheVariants as why
use Rattle.bsc_log.specs.declared.logging.Logging.{Logging}
use Rattle.bsc_log.specs.Turnings.{TellsTurned, turned_at, turned_told}
use Rattle.bsc_log.specs.Words.{turning_text}

pub one_was_late : turning_text why.Late ≡ codes "too late"
one_was_late = refl

module _ {R : Type 0} (before after : Logging R) (since : Duration) where
  -- two were late, and one didn't offer the sub-protocol
  pub three_are_told_of : turned_told (Some after) ≡ turned_told (Some before) ++ turned_at since why.Late ∷ turned_at since why.Late ∷ turned_at since why.NoProtocol ∷ []
      → TellsTurned ((why.Late, 2) ∷ (why.NoProtocol, 1) ∷ []) (Some before) (Some after)
  three_are_told_of told = λ on. (refl, (since, told))

  -- A log that is there stays there.
  pub it_stays : TellsTurned [] (Some before) None → ⊥
  it_stays tells = (let k : false ≡ true = (tells refl).0 in cc)

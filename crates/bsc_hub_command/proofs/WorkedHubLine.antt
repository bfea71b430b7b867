-- The hub line, worked by hand: what is written of a hub, and the hub that these words are read as.
-- No clause needs it: worked examples.
use Rattle.std.proofs.Common.{◌≡◌, [], ◌∷◌, codes, Some, refl}
use Rattle.uuid.proofs.OnLiterals.{uuid_on_literals}
use Rattle.bsc_history.specs.declared.limits.About.{About}
use Rattle.bsc_script.proofs.OnLiterals.{script_on_literals}
use Rattle.bsc_script.specs.declared.line.Line.TheVariants.{Hub}
use Rattle.bsc_script.specs.Lines.{line_of}
use Rattle.bsc_hub_command.specs.HubLines.{hub_line}

abbrev the_hub : About
the_hub = record {
  hub = record {
    vmac = record { 0 = 0x02 ∷ 0 ∷ 0 ∷ 0 ∷ 0 ∷ 0xFF ∷ [] };
    device = record {
      0 = 0x00 ∷ 0x11 ∷ 0x22 ∷ 0x33 ∷ 0x44 ∷ 0x55 ∷ 0x66 ∷ 0x77 ∷ 0x88 ∷ 0x99 ∷ 0xAA ∷ 0xBB ∷ 0xCC ∷ 0xDD ∷ 0xEE ∷ 0xFF ∷ [];
    };
    max_bvlc = 1600;
    max_npdu = 1497;
  };
  limits = record { rows = 256; outbox = 64; calls = 4503599627370496; callers = 4611686018427387904 };
}

is_written : hub_line the_hub ≡ codes "hub 0200000000FF 00112233445566778899AABBCCDDEEFF 0640 05D9 256 64 4503599627370496\n"
unfolding script_on_literals
is_written = refl

is_read : line_of (codes "hub 0200000000FF 00112233445566778899AABBCCDDEEFF 0640 05D9 256 64 4503599627370496") ≡ Some (Hub the_hub)
unfolding uuid_on_literals script_on_literals
is_read = refl

use Rattle.std.proofs.Common.{◌≡◌, ◌++◌, length, ◌∙◌, ap, arith}
use Rattle.std.proofs.lemmas.Grind.{common_steps}
use Rattle.bsc_octets.specs.Identities.{identity_of, identity_octets}
use Rattle.bsc_octets.proofs.IdentityOctets.{identity_of-octets}
use Rattle.bsc_octets.proofs.identity.write_identity.Goals as goal

pub returns-clause-read_back : goal.returns-clause-read_back
returns-clause-read_back c =
    let written : c.copy_from_slice.new.self ++ (c.copy_from_slice-2.new.self ++ (c.write_u16.new.buf ++ c.write_u16-2.new.buf)) ≡ identity_octets c.args.who.now = grind (arith, common_steps) in
    ap identity_of written ∙ identity_of-octets c.args.who.now (omega arith) (omega (arith, ap length c.as_bytes.ensures)) (omega arith) (omega arith)

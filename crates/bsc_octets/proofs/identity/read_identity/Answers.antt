use Rattle.std.proofs.Common.{◌≡◌, ◌∙◌, ap, arith}
use Rattle.std.proofs.lemmas.Grind.{common_steps}
use Rattle.bsc_octets.specs.declared.identity.Identity.{Identity}
use Rattle.bsc_octets.specs.Identities.{identity_octets, identity_of}
use Rattle.bsc_octets.proofs.IdentityOctets.{identity_octets-of}
use Rattle.bsc_octets.proofs.identity.read_identity.Goals as goal

pub returns-clause-spelled : goal.returns-clause-spelled
returns-clause-spelled c =
    let who : Identity = record { vmac = record { 0 = c.six.result }; device = record { 0 = c.from_bytes.result }; max_bvlc = c.read_u16.result; max_npdu = c.read_u16-2.result } in
    let read : who ≡ identity_of c.args.b.now = grind (arith, common_steps) in
    ap identity_octets read ∙ identity_octets-of c.args.b.now c.requires (λ i. let f = c.type_inv.b i in omega (arith, f))

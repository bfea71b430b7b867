-- A peer that asked and is refused for its VMAC gets a NAK, and its link is closed.
-- It serves the clauses of `links_begin_anew`.
use Rattle.std.proofs.Common.{◌≡◌, ℕ, true, List, ◌++◌, None}
use Rattle.bsc_octets.specs.declared.identity.Identity.{Identity}
use Rattle.bsc_accept.specs.declared.closing.Closing.{Closing}
use Rattle.bsc_accept.specs.declared.event.Event.TheVariants.{Refused}
use Rattle.bsc_accept.specs.Messages.{octets_of, duplicate_vmac}
use Rattle.bsc_accept.specs.Steps.{asked_id, normal}
use Rattle.bsc_history.specs.declared.reply.Refusal.TheVariants.{Duplicate}
use Rattle.bsc_node.specs.declared.link_name.LinkName.TheVariants.{Direct}
use Rattle.bsc_node.specs.Logs.{Made, Log}
use Rattle.bsc_node.specs.Links.{was_taken, accepting_events, meets, puts_and_closes, outcome}
use Rattle.bsc_node.specs.Meeting.{refuses}
use Rattle.bsc_node.proofs.Told.{outcome-accepting}

-- Where the machine of a link that was taken asked, and is told that the VMAC is another's, it puts a NAK and closes.
pub asked_closes : (a : Made) (L : Log) (k : ℕ) (who : Identity) → was_taken (Direct k) L ≡ true → outcome a L (Direct k) ≡ meets who
    → (o : List ℕ) × (c : Closing) × (outcome a (L ++ refuses (Direct k) L) (Direct k) ≡ puts_and_closes o c)
asked_closes a L k who taken asked =
    ((octets_of (duplicate_vmac (asked_id (accepting_events L (Direct k))))).items, normal, outcome-accepting a L (Direct k) (Refused (Duplicate None)) taken)

-- The lines that a node writes.
use Rattle.std.specs.Prelude.{ℕ, Bool, true, false, List, [], ◌∷◌, ◌++◌, codes, Option, Some, None}
use Rattle.hex.specs.Hex.{encode_upper}
use Rattle.bsc_octets.specs.declared.vmac.Vmac.{Vmac}
use Rattle.bsc_lines.specs.Lines.{then_number}
use Rattle.bsc_frame.specs.declared.advert.Advert.{Advert}
use Rattle.bsc_connector.specs.declared.hub_use.HubUse.{HubUse}
use Rattle.bsc_connector.specs.declared.hub_use.HubUse.TheVariants.{NoHub, Primary, Failover}
use Rattle.bsc_node.specs.declared.delivered.Delivered.{Delivered}
use Rattle.bsc_node.specs.declared.note.Note.{Note}
use Rattle.bsc_node.specs.declared.note.Note.TheVariants.{HubNow, Uris, DirectUp, DirectDown, NoPath, TooLong, NoUris}
use Rattle.bsc_node.specs.declared.note.Note.TheVariants.{SlotsFull, AsksFull, AskPending, NoDirect, Advert as Advertised, Nak}
use Rattle.bsc_node.specs.declared.note.Note.TheVariants.{Renewed, NoRandom, Finished}

-- octets behind a space, where there are any
abbrev pub behind_space : List ℕ → List ℕ
behind_space [] = []
behind_space (c ∷ o) = codes " " ++ encode_upper (c ∷ o)

-- a line of words
abbrev pub line : List ℕ → List ℕ
line words = words ++ codes "\n"

-- a line of a VMAC, between words
abbrev pub line_of : List ℕ → Vmac → List ℕ → List ℕ
line_of before v after = before ++ codes " " ++ encode_upper v.0 ++ after ++ codes "\n"

-- to whom an NPDU was sent
abbrev pub reach : Bool → List ℕ
reach true = codes " broadcast"
reach false = codes " unicast"

-- An NPDU is delivered.
abbrev pub delivered_line : Delivered → List ℕ
delivered_line d = codes "npdu " ++ encode_upper d.from.0 ++ reach d.broadcast ++ behind_space d.npdu ++ codes "\n"

-- The hub in use.
abbrev pub hub_line : HubUse → List ℕ
hub_line NoHub = line (codes "hub none")
hub_line Primary = line (codes "hub primary")
hub_line Failover = line (codes "hub failover")

-- The URIs of a VMAC, in hexadecimal digits.
abbrev pub uris_line : Vmac → List ℕ → List ℕ
uris_line v uris = codes "uris " ++ encode_upper v.0 ++ behind_space uris ++ codes "\n"

-- An Advertisement of a VMAC: the hub status, whether it accepts direct connections, and the two maximum lengths.
abbrev pub advert_line : Vmac → Advert → List ℕ
advert_line v a = codes "advert " ++ encode_upper v.0 ++ then_number a.status ++ then_number a.accepts ++ then_number a.max_bvlc ++ then_number a.max_npdu
    ++ codes "\n"

-- whose a NAK is: a node's, or the hub's own
abbrev pub whose : Option Vmac → List ℕ
whose None = codes "hub"
whose (Some v) = encode_upper v.0

-- A NAK: whose it is, the function that is refused in hexadecimal digits, and the error code.
abbrev pub nak_line : Option Vmac → ℕ → ℕ → List ℕ
nak_line from function code = codes "nak " ++ whose from ++ codes " " ++ encode_upper (function ∷ []) ++ then_number code ++ codes "\n"

-- What a node tells.
abbrev pub note_line : Note → List ℕ
note_line (HubNow used) = hub_line used
note_line (Uris v uris) = uris_line v uris
note_line (DirectUp v) = line_of (codes "direct") v (codes " up")
note_line (DirectDown v) = line_of (codes "direct") v (codes " down")
note_line (NoPath v) = line_of (codes "nopath") v []
note_line (TooLong v) = line_of (codes "toolong") v []
note_line (NoUris v) = line_of (codes "nouris") v []
note_line SlotsFull = line (codes "slotsfull")
note_line AsksFull = line (codes "asksfull")
note_line (AskPending v) = line_of (codes "pending") v []
note_line (NoDirect v) = line_of (codes "nodirect") v []
note_line (Advertised v a) = advert_line v a
note_line (Nak from function code) = nak_line from function code
note_line (Renewed v) = line_of (codes "vmac") v []
note_line NoRandom = line (codes "norandom")
note_line Finished = line (codes "finished")

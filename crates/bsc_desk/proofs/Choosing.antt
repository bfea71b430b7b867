-- The choice of a connect is its reply after every history that the desk stands for.
-- It serves the clauses of `choose`.
use Rattle.std.proofs.Common.{◌≡◌, ◌+◌, ◌&&◌, List, length, map, find, is_some, nat_le, refl, ap, sym, ◌∙◌}
use Rattle.std.specs.Option.{option_map}
use Rattle.std.proofs.lemmas.List.{length-map}
use Rattle.bsc_octets.specs.declared.identity.Identity.{Identity}
use Rattle.bsc_octets.specs.declared.device_id.DeviceId.{DeviceId}
use Rattle.bsc_octets.specs.Addresses.{same_vmac, same_device}
use Rattle.bsc_history.specs.declared.mark.Stamped.{Stamped}
use Rattle.bsc_history.specs.declared.reply.Reply.TheVariants.{Joined as JoinedReply}
use Rattle.bsc_history.specs.declared.connection.Connection.{Connection}
use Rattle.bsc_history.specs.Ends.{joined, unleft}
use Rattle.bsc_history.specs.Holders.{of_device}
use Rattle.bsc_history.specs.Marks.{entries}
use Rattle.bsc_history.specs.Replies.{connect_reply, rival, number_of}
use Rattle.bsc_desk.specs.declared.row.Row.{Row}
use Rattle.bsc_desk.specs.declared.desk.Desk.{Desk}
use Rattle.bsc_desk.specs.Live.{connection, is_open}
use Rattle.bsc_desk.specs.Standing.{DeskStands}
use Rattle.bsc_desk.specs.declared.connecting.NewRow.{NewRow}
use Rattle.bsc_desk.specs.declared.connecting.Choice.{Choice}
use Rattle.bsc_desk.specs.declared.connecting.Choice.TheVariants.{Refused, Joined}
use Rattle.bsc_desk.specs.Choices.{first_reply, IfJoined}
use Rattle.bsc_history.proofs.Connections.{joined_counted}
use Rattle.bsc_desk.proofs.LiveRows.{live_found, stopped_so}

size : (rows : List Row) → length (map connection rows) ≡ length rows
size rows = simp length-map

pub device_found : (d : Desk) (S : List Stamped) (u : DeviceId) → DeskStands d S
    → option_map connection (find (λ r. is_open r && same_device r.connection.who.device u) d.rows.items) ≡ of_device (entries S) u
device_found d S u s = sym (live_found d S (λ (c : Connection). same_device c.who.device u) s)

pub chosen : (d : Desk) (S : List Stamped) (who : Identity) → DeskStands d S
    → first_reply (is_some d.stopped_at) (same_vmac who.vmac d.about.hub.vmac)
    (rival who (option_map connection (find (λ r. is_open r && same_vmac r.connection.who.vmac who.vmac) d.rows.items)))
    (nat_le d.about.limits.rows (length d.rows.items)) d.about.limits.rows
    (JoinedReply (1 + d.tally.counts.joined) (number_of (option_map connection (find (λ r. is_open r && same_device r.connection.who.device who.device) d.rows.items))))
    ≡ connect_reply d.about (entries S) who
unfolding connect_reply
chosen d S who s =
    let h = entries S in
    let stop = stopped_so d S s in
    let held = ap (rival who) (live_found d S (λ (c : Connection). same_vmac c.who.vmac who.vmac) s) in
    let replaced = ap number_of (device_found d S who.device s) in
    let rows : length d.rows.items ≡ length (unleft h) = sym (size d.rows.items) ∙ ap length s.unleft_rows in
    let count : d.tally.counts.joined ≡ length (joined h) = ap (λ k. k.joined) s.counted ∙ sym (joined_counted d.about h s.legal) in
    rw (stop, ← held, replaced, rows, count) refl

-- what holds of a choice to join

pub if_both : (x : Choice) (P Q R : NewRow → Type 0) → IfJoined x P → IfJoined x Q → ((row : NewRow) → P row → Q row → R row) → IfJoined x R
if_both (Refused refusal) P Q R p q so = tt
if_both (Joined row) P Q R p q so = so row p q

-- Lemmas that crates above cite too.
-- It serves bsc_node_identity.
use Rattle.bsc_accept.specs.declared.pending_disconnect.PendingDisconnect.{PendingDisconnect}
use Rattle.bsc_initiate.specs.Past.{until_farewell, awaiting_accept}
use Rattle.std.proofs.Common.{None, Option, ◌≡◌, Some, ℕ}

pub farewell_other : (o : Option PendingDisconnect) (id : ℕ) {A : Type 0} → until_farewell o ≡ awaiting_accept id → A
farewell_other None id h = cc
farewell_other (Some f) id h = cc

pub same_request : (i id : ℕ) → awaiting_accept i ≡ awaiting_accept id → Some i ≡ Some id
same_request i id h = cc

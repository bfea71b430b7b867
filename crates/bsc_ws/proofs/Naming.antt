-- What a head names once a sub-protocol was put into it.
-- It serves the clauses of `answered` and `offer`.
use Rattle.std.proofs.Common.{◌≡◌, ℕ, List, codes}
use Rattle.bsc_edge.specs.declared.kind.Kind.{Kind}
use Rattle.http_header.specs.FieldValue.{FieldValue, plain_value}
use Rattle.http_header.specs.HeaderMap.{Entries, insert}
use Rattle.http_header.proofs.HeaderMapLemmas.{get_all-insert_same}
use Rattle.bsc_ws.specs.Protocols.{protocol, NamesOnly}

-- A head into which the field of a kind was put names the sub-protocol of that kind alone.
pub inserted_alone : (old new : Entries FieldValue) (name : List ℕ) (value : FieldValue) (kind : Kind)
    → new ≡ insert old name value → name ≡ codes "sec-websocket-protocol" → value ≡ plain_value (protocol kind) → NamesOnly new kind
inserted_alone old new name value kind put named valued = rw put (rw named (rw valued (get_all-insert_same old (codes "sec-websocket-protocol") (plain_value (protocol kind)))))

use Rattle.std.proofs.Common.{◌≡◌, List, ◌++◌, codes}
use Rattle.http.specs.Request.{head_of}
use Rattle.http_header.specs.FieldValue.{FieldValue}
use Rattle.http_header.specs.HeaderMap.{get_all}
use Rattle.bsc_ws.proofs.protocol.asks_for.Given as goal

-- The values that are left stand at the end of all values.
abbrev pub invariant-loop-value : goal.invariant-loop-value
invariant-loop-value l =
    (goal.iterator-loop-value).can_next l.value-iterator ×
    (goal.iterator-loop-value).is_finite l.value-iterator ×
    ((before : List FieldValue)
    × (get_all (head_of l.request).headers (codes "sec-websocket-protocol") ≡ before ++ l.value-iterator))

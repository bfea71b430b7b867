use Rattle.std.proofs.Common.{rules, Some, ap, sym, ◌∙◌}
use Rattle.std.specs.Prelude.{[], filter, option_copied, slice_get}
use Rattle.bsc_node.specs.Ways.{is_ws_uri, words_with, resolve_calls}
use Rattle.bsc_node_core.proofs.NextUris.{learnt-of}
use Rattle.bsc_node_core.proofs.requesting.learnt_uri.Goals as goal

pub returns-in_ok-from_slice-in-Some-uri_to_dial : goal.returns-in_ok-from_slice-in-Some-uri_to_dial
returns-in_ok-from_slice-in-Some-uri_to_dial c = λ wait L n m h.
    learnt-of c.args.v L c.in-Some.text.now (Some c.from_vec.result) n c.args.number (search rules) m (sym (c.uris.ensures wait (resolve_calls L) h) ∙ ap (λ o. option_copied o) c.in-Some.is)
    (ap Some (c.from_vec.ensures ∙ c.in_ok-from_slice-in-Some-uri_to_dial.ensures.items) ∙ sym (ap (λ o. option_copied o) c.in-Some-uri_to_dial.is) ∙ c.uri_to_dial.ensures
    ∙ ap (λ text. slice_get (filter is_ws_uri (words_with [] text)) c.args.number) c.as_slice.ensures)

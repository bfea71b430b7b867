use Rattle.std.proofs.Common.{◌+◌, sym, subst, ◌∙◌, arith}
use Rattle.std.proofs.lemmas.Bool.{ne_eqb}
use Rattle.bsc_node_core.proofs.Words.{IsRead, read-more, read-next, read-other}
use Rattle.bsc_node_core.proofs.uris.uri_to_dial.Goals.{then-text-end-eq32, then-is_ws_uri+else-left-eq0, else-is_ws_uri, else-text-end-eq32}
use Rattle.bsc_node_core.proofs.uris.uri_to_dial.Goals as goal

pub loop-end-preserved : goal.loop-end-preserved
loop-end-preserved c =
    let l = c.loop-end in
    elim c.if-text-end-eq32.branch [
      | then-text-end-eq32 w ↦ subst (λ s. IsRead c.args.text.now c.args.number s (l.end + 1) c.if-text-end-eq32.left) (sym w.start-is)
          (subst (λ n. IsRead c.args.text.now c.args.number (l.end + 1) (l.end + 1) n) (sym w.left-is)
          (elim w.if-is_ws_uri.branch [
            | then-is_ws_uri+else-left-eq0 x ↦ subst (λ n. IsRead c.args.text.now c.args.number (l.end + 1) (l.end + 1) n) (sym x.left-is)
                (read-next c.args.text.now c.args.number l.start l.end l.left 0 l.invariant c.loop-end-test.true w.if-text-end-eq32.true (sym w.is_ws_uri.ensures ∙ x.if-is_ws_uri.true)
                (omega (arith, x.if-left-eq0.false)))
            | else-is_ws_uri x ↦ subst (λ n. IsRead c.args.text.now c.args.number (l.end + 1) (l.end + 1) n) (sym x.left-is)
                (read-other c.args.text.now c.args.number l.start l.end l.left 0 l.invariant c.loop-end-test.true w.if-text-end-eq32.true (sym w.is_ws_uri.ensures ∙ x.if-is_ws_uri.false))
          ]))
      | else-text-end-eq32 w ↦ subst (λ s. IsRead c.args.text.now c.args.number s (l.end + 1) c.if-text-end-eq32.left) (sym w.start-is)
          (subst (λ n. IsRead c.args.text.now c.args.number l.start (l.end + 1) n) (sym w.left-is)
          (read-more c.args.text.now c.args.number l.start l.end l.left 0 l.invariant c.loop-end-test.true (ne_eqb _ _ w.if-text-end-eq32.false)))
    ]

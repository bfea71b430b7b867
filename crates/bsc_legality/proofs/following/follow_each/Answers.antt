use Rattle.std.proofs.Common.{◌∙◌, ◌^◌, nat_lt, List, ap, map, refl}
use Rattle.std.specs.List.{list_all}
use Rattle.bsc_history.specs.declared.looks.Look.{Look}
use Rattle.bsc_history.specs.Ends.{end_by_call, end_by_reply}
use Rattle.bsc_legality.specs.declared.row.Row.{Row}
use Rattle.bsc_legality.specs.Following.{closed_as, given, seen}
use Rattle.bsc_legality.specs.Rows.{rising}
use Rattle.bsc_legality.proofs.Changes.{after_all, all_same, rising-map}
use Rattle.bsc_legality.proofs.following.follow_each.Goals as goal

pub give-requires-clause-rising : goal.give-requires-clause-rising
give-requires-clause-rising c = ap rising c.look_at_all.ensures ∙ rising-map (seen c.as_slice.result.now) c.args.rows.now (λ r. refl) ∙ c.requires.rising

pub give-requires-clause-few : goal.give-requires-clause-few
give-requires-clause-few c =
    let p = λ (r : Row). nat_lt r.entered (2 ^ 52) in
    ap (list_all p) c.look_at_all.ensures ∙ all_same p (seen c.as_slice.result.now) c.args.rows.now (λ r. refl) ∙ c.requires.few

pub close_by_call-requires : goal.close_by_call-requires
close_by_call-requires c =
    ap rising c.give.ensures ∙ rising-map (given c.args.entry.now.reply) c.look_at_all.new.rows (λ r. refl)
    ∙ ap rising c.look_at_all.ensures ∙ rising-map (seen c.as_slice.result.now) c.args.rows.now (λ r. refl) ∙ c.requires.rising

pub close_by_reply-requires : goal.close_by_reply-requires
close_by_reply-requires c =
    ap rising c.close_by_call.ensures ∙ rising-map (λ r. closed_as (end_by_call r.connection.number c.args.entry.now.call) r) c.give.new.rows (λ r. refl)
    ∙ ap rising c.give.ensures ∙ rising-map (given c.args.entry.now.reply) c.look_at_all.new.rows (λ r. refl)
    ∙ ap rising c.look_at_all.ensures ∙ rising-map (seen c.as_slice.result.now) c.args.rows.now (λ r. refl) ∙ c.requires.rising

pub returns : goal.returns
returns c =
    let e = c.args.entry.now in
    let rows = c.args.rows.now in
    let looked = c.look_at_all.ensures ∙ ap (λ (ks : List Look). map (seen ks) rows) c.as_slice.ensures in
    let gave = c.give.ensures ∙ ap (map (given e.reply)) looked in
    let called = c.close_by_call.ensures ∙ ap (map (λ r. closed_as (end_by_call r.connection.number e.call) r)) gave in
    c.close_by_reply.ensures ∙ ap (map (λ r. closed_as (end_by_reply r.connection.number e.reply) r)) called ∙ after_all e rows

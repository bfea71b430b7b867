use Rattle.std.proofs.Common.{ℕ, subst, add-zero, refl, arith, ap, sym, ◌∙◌, ◌==◌, find, Option, unwrap_or}
use Rattle.std.specs.List.{remove}
use Rattle.bsc_history.specs.declared.counts.Counts.{Counts}
use Rattle.bsc_history.specs.declared.ending.End.{End}
use Rattle.bsc_history.specs.declared.ending.End.TheVariants.{Left}
use Rattle.bsc_desk.specs.Directories.{AreFiled}
use Rattle.bsc_desk.proofs.Filing.{filed_left}
use Rattle.bsc_desk.proofs.Leaves.{given_first, inlet_at, lawful_leave, mark_at, outlet_fits, stands_left}
use Rattle.bsc_desk.proofs.Numbers.{rows_rise}
use Rattle.bsc_desk.proofs.Removals.{find_gone, find_kept, removed}
use Rattle.bsc_desk.proofs.Walks.{has_number}
use Rattle.bsc_desk.proofs.desk.Desk.leave_at.Goals as goal

pub unite-remains-requires : goal.unite-remains-requires
unite-remains-requires c = mark_at c.args.self.now c.args.conn c.args.place c.remove-inlet.result c.requires.place c.remove-inlet.ensures.value c.args.outlet c.requires.mark

pub returns-clause-outlet : goal.returns-clause-outlet
returns-clause-outlet c S p = outlet_fits c.args.self.now c.args.conn c.args.place c.remove-inlet.result c.requires.place c.remove-inlet.ensures.value S c.args.outlet p c.unite-remains.ensures.fit

pub returns-clause-due : goal.returns-clause-due
returns-clause-due c S p =
    let d = c.args.self.now in
    (lawful_leave d S c.args.caller c.args.conn c.args.outlet.empties c.remove-inlet.result c.args.outlet _ p c.requires.unleft
    (inlet_at d c.args.conn c.args.place c.remove-inlet.result c.requires.place c.remove-inlet.ensures.value S p)
    (returns-clause-outlet c S p) c.unwrap_or.ensures c.unite-remains.ensures.taken).replied

pub returns-clause-stands : goal.returns-clause-stands
returns-clause-stands c S p =
    let d = c.args.self.now in
    let lawful = lawful_leave d S c.args.caller c.args.conn c.args.outlet.empties c.remove-inlet.result c.args.outlet _ p c.requires.unleft
    (inlet_at d c.args.conn c.args.place c.remove-inlet.result c.requires.place c.remove-inlet.ensures.value S p) (returns-clause-outlet c S p) c.unwrap_or.ensures c.unite-remains.ensures.taken in
    stands_left d _ S c.args.caller c.args.conn c.args.outlet.empties c.args.place c.remove-inlet.result _ p lawful c.requires.place refl refl c.add.ensures.made c.add.ensures.counts
    c.remove-inlet.ensures.items

pub returns-clause-given : goal.returns-clause-given
returns-clause-given c S p = given_first c.args.self.now S c.args.conn _ c.args.outlet (returns-clause-outlet c S p) c.unite-remains.ensures.taken

pub returns-clause-found : goal.returns-clause-found
returns-clause-found c e found = c.unwrap_or.ensures ∙ ap (λ (o : Option End). unwrap_or o Left) (sym c.remove-inlet.result.tied ∙ c.unite-remains.ensures.fit.2 e found)

pub returns-clause-all : goal.returns-clause-all
returns-clause-all c S p all =
    c.unite-remains.ensures.fit.4 all
    ∙ (inlet_at c.args.self.now c.args.conn c.args.place c.remove-inlet.result c.requires.place c.remove-inlet.ensures.value S p).items

pub returns-clause-row : goal.returns-clause-row
returns-clause-row c =
    let d = c.args.self.now in
    ap (find (has_number c.args.conn)) (c.remove-inlet.ensures.items ∙ removed c.args.conn c.args.place c.remove-inlet.result d.rows.items c.requires.place
    (rows_rise d.rows.items d.filed.rising)) ∙ find_gone c.args.conn d.rows.items

pub returns-clause-others : goal.returns-clause-others
returns-clause-others c k other =
    let d = c.args.self.now in
    ap (find (has_number k)) (c.remove-inlet.ensures.items ∙ removed c.args.conn c.args.place c.remove-inlet.result d.rows.items c.requires.place (rows_rise d.rows.items d.filed.rising))
    ∙ find_kept c.args.conn k d.rows.items other

pub invariant_of-self-clause-filed : goal.invariant_of-self-clause-filed
invariant_of-self-clause-filed c =
    let d = c.args.self.now in
    rw c.remove-inlet.ensures.items (subst (λ (n : ℕ). AreFiled (remove d.rows.items c.args.place) n c.leave.new.self)
    (sym (ap (λ (k : Counts). k.joined) c.add.ensures.counts ∙ add-zero d.tally.counts.joined))
    (filed_left c.args.conn c.args.place c.remove-inlet.result d.rows.items d.tally.counts.joined d.directory c.leave.new.self c.requires.place
    (rows_rise d.rows.items d.filed.rising) c.leave.ensures.by_address c.leave.ensures.by_device d.filed))

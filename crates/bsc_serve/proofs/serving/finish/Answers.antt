use Rattle.std.proofs.Common.{ℕ, [], ◌∷◌, Option, sym, subst}
use Rattle.bsc_desk.specs.Entries.{stop_entry}
use Rattle.bsc_edge.specs.declared.fault.LinkFault.{LinkFault}
use Rattle.bsc_session.specs.Notes.Notes.{Records, made}
use Rattle.bsc_serve.proofs.serving.finish.Goals as goal

pub returns-in-Ok-clause-records : goal.returns-in-Ok-clause-records
returns-in-Ok-clause-records g c =
    let held = g.N.Sink.held in
    let noted = λ (n : ℕ). made c.in-Ok.told.at (stop_entry n c.in-Ok.told.said) ∷ [] in
    subst (λ n. Records (held c.args.own.now) (held c.note_stop.new.own) (noted n) c.fault_of-lost.result) c.number-caller.ensures
    (subst (λ (l : Option LinkFault). Records (held c.args.own.now) (held c.note_stop.new.own) (noted c.number-caller.result) l) (sym c.fault_of-lost.ensures.fault)
    c.note_stop.ensures.noted)

-- That a pass is of a hub can be so in one way at most. So a struct may keep that it is.
use Rattle.std.proofs.Common.{◌≡◌, List, ◌++◌, sym, ◌∙◌}
use Rattle.std.proofs.lemmas.List.{append_cancel_left}
use mathlib.Core.HLevel.{Σ_prop_path}
use Rattle.std.proofs.Props.{props}
use Rattle.std.specs.Coded.{Coded, codes}
use Rattle.std.specs.List.{AllByRecursion-prop}
use Rattle.atomic_table.specs.Seated.{table_id_coded}
use Rattle.bsc_history.specs.declared.limits.About.{About}
use Rattle.bsc_history.specs.declared.entry.Entry.{Entry}
use Rattle.bsc_history.specs.declared.mark.Stamped.{Stamped}
use Rattle.bsc_history.specs.declared.reply.Reply.{Reply}
use Rattle.bsc_history.specs.Entries.{Moment}
use Rattle.bsc_history.specs.Legality.{Lawful, Legal}
use Rattle.bsc_turn.specs.declared.pass.Pass.{Pass}
use Rattle.bsc_turn.specs.declared.phase.SeatPhase.{SeatPhase}
use Rattle.bsc_turn.specs.declared.view.View.{View}
use Rattle.bsc_turn.specs.Effects.{IsConsistent}
use Rattle.bsc_turn.specs.Histories.{StartsWith}
use Rattle.bsc_turn.specs.Passes.{IsPassOf, IsSound}
use Rattle.bsc_hub.specs.declared.hub.Hub.{Hub}
use Rattle.bsc_hub.specs.Passing.{IsCaller}

entry_coded : Coded Entry
entry_coded = hlevel codes

stamped_coded : Coded Stamped
stamped_coded = hlevel (entry_coded, codes)

reply_coded : Coded Reply
reply_coded = hlevel codes

phase_coded : Coded SeatPhase
phase_coded = hlevel codes

about_coded : Coded About
about_coded = hlevel codes

view_coded : Coded View
view_coded = hlevel (stamped_coded, entry_coded, codes)

-- A history begins with another in one way at most: what comes after is what is left.
pub StartsWith-prop : (H front : List Stamped) → IsProp (StartsWith H front)
StartsWith-prop H front a b = Σ_prop_path (λ rest. hlevel (props, stamped_coded)) (append_cancel_left front a.0 b.0 (sym a.1 ∙ b.1))

pub IsConsistent-prop : (v : View) → IsProp (IsConsistent v)
IsConsistent-prop v = hlevel (StartsWith-prop, props, entry_coded)

pub Lawful-prop : (a : About) (m : Moment) → IsProp (Lawful a m)
Lawful-prop a m = hlevel (props, reply_coded)

pub Legal-prop : (a : About) (H : List Entry) → IsProp (Legal a H)
Legal-prop a H = hlevel (Lawful-prop, AllByRecursion-prop, props)

pub IsCaller-prop : (h : Hub) (p : Pass) → IsProp (IsCaller h p)
IsCaller-prop h p = hlevel (IsConsistent-prop, Legal-prop, props, view_coded, phase_coded, about_coded, table_id_coded)

-- A name is closed, and the connection of a peer that has joined leaves.
use Rattle.std.proofs.Common.{◌≡◌, ◌++◌, Some, slice_get, sym, ap, ◌∙◌, refl}
use Rattle.bsc_desk.specs.Entries.{gone_reply}
use Rattle.bsc_script.specs.Written.{says, line_text}
use Rattle.bsc_lines.specs.Replies.{gone_words}
use Rattle.bsc_script.proofs.Leaving.{may_leave, closed_carried, left_carried}
use Rattle.bsc_script.proofs.script_hub.ScriptHub.end.Goals as goal
use Rattle.std.proofs.lemmas.Result.{on_ok_weaker as on_ok}

pub leave-gone-requires : goal.leave-gone-requires
leave-gone-requires c = record {
  some = may_leave c.args.self.now c.args.at (c.in-Some.name, c.in-Some.peer) c.in-Some-joined_of.conn c.requires.some (sym c.in-Some.ensures.entry)
      (sym c.in-Some-joined_of.ensures);
}

pub returns-in-Some-joined_of : goal.returns-in-Some-joined_of
returns-in-Some-joined_of c = λ s k cs h. (
    let was : slice_get c.args.self.now.peers.entries c.args.at ≡ Some (c.in-Some.name, c.in-Some.peer) = sym c.in-Some.ensures.entry in
    on_ok c.put_gone.result (λ put. left_carried c.args.self.now _ s c.args.at cs k
    (c.in-Some.name, c.in-Some.peer) c.in-Some-joined_of.conn c.leave-gone.result c.args.text.now.items c.put_gone.new.text.items h
    was (sym c.in-Some-joined_of.ensures) c.leave-gone.ensures refl refl c.remove.ensures.updates.0 c.in-Some.ensures.entries
    (put ∙ ap (λ m. c.args.text.now.items ++ line_text (says m (gone_words (gone_reply c.leave-gone.result)))) c.as_slice.ensures.value))
    c.put_gone.ensures)

pub returns : goal.returns
returns c = λ s k cs h. (
    let was : slice_get c.args.self.now.peers.entries c.args.at ≡ Some (c.in-Some.name, c.in-Some.peer) = sym c.in-Some.ensures.entry in
    closed_carried c.args.self.now _ s c.args.at cs k (c.in-Some.name, c.in-Some.peer) c.args.text.now.items h was (sym c.in-None.ensures) refl refl refl refl c.in-Some.ensures.entries)

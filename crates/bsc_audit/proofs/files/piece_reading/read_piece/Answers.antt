-- A piece ends with its LF or the file; too many octets without one are no line.
use Rattle.std.proofs.Common.{rules, ◌≡◌, ℕ, List, drop, true, Ok, ap, sym, ◌∙◌, subst, arith}
use Rattle.bsc_text.specs.Lines.{BeginsLine, has_no_lf}
use Rattle.bsc_audit.specs.Pieces.{BeginsWith, StandsAt, file_at}
use Rattle.bsc_audit.proofs.FileFacts.PieceLines.{begins_last, begins_whole, ends_same, gives_long, stands_none}
use Rattle.bsc_audit.proofs.files.piece_reading.read_piece.Goals as goal

pub reading-init : goal.reading-init
reading-init g c = record {
  room = search rules;
  reach = search rules;
  stands = λ fs holds. subst (λ (o : List ℕ). StandsAt (file_at fs c.args.file) c.args.at o) (sym c.clear.ensures.items) (stands_none (file_at fs c.args.file) c.args.at);
  stays = λ fs holds. holds;
  later = omega arith;
}

pub returns-in-Some-clause-piece : goal.returns-in-Some-clause-piece
returns-in-Some-clause-piece g c = λ fs holds.
    let o = c.reading.room.octets.items in
    let begins : BeginsLine c.in-Some.n o = subst (λ (x : List ℕ). BeginsLine c.in-Some.n x) c.as_slice.ensures.value c.in-Some.ensures in
    let within = begins.within in
    begins_whole (file_at fs c.args.file) c.args.at c.in-Some.n o (omega (arith, within)) (c.reading.invariant.stands fs holds) begins

pub returns-then-len-clause-bad : goal.returns-then-len-clause-bad
returns-then-len-clause-bad g c = λ e fs holds.
    let o = c.reading.room.octets.items in
    let no_lf : has_no_lf o ≡ true = subst (λ (x : List ℕ). has_no_lf x ≡ true) c.as_slice.ensures.value c.in_default.ensures in
    let long = c.if-len.true in
    let len = c.len.ensures in
    gives_long (file_at fs c.args.file) c.args.at o (c.reading.invariant.stands fs holds) no_lf (omega (arith, long, len))

pub returns-then-n-eq0-clause-piece : goal.returns-then-n-eq0-clause-piece
returns-then-n-eq0-clause-piece g c = λ fs holds.
    let f = file_at fs c.args.file in
    let o = c.reading.room.octets.items in
    let new = c.read_on.new.room.octets.items in
    let no_lf : has_no_lf o ≡ true = subst (λ (x : List ℕ). has_no_lf x ≡ true) c.as_slice.ensures.value c.in_default.ensures in
    let stands = c.reading.invariant.stands fs (c.read_on.ensures.stays fs holds) in
    let end : drop c.args.at f ≡ new = c.in-Ok.ensures.end (ap (λ (n : ℕ). Ok n) c.if-n-eq0.true) fs holds stands in
    let reach = c.in-Ok.ensures.reach.0 in
    let none = c.if-n-eq0.true in
    let same : new ≡ o = ends_same f c.args.at o new stands end (omega (arith, reach, none)) in
    let new_len = c.read_on.new.room.octets.ok.0 in
    subst (λ (n : ℕ). BeginsWith f c.args.at n new) (sym (c.len-then-n-eq0.ensures ∙ new_len))
    (begins_last f c.args.at new end (subst (λ (x : List ℕ). has_no_lf x ≡ true) (sym same) no_lf))

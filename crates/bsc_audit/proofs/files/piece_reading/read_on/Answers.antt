-- What came stands behind the octets that stand there.
use Rattle.std.proofs.Common.{rules, ◌≡◌, ◌+◌, ◌++◌, [], ℕ, true, Bool, if◌then◌else◌, List, length, take, drop, ap, sym, ◌∙◌, subst, append-nil}
use Rattle.std.specs.Prelude.{is_ok}
use Rattle.bsc_audit.specs.Pieces.{GivesAt, StandsAt, file_at}
use Rattle.bsc_audit.proofs.FileFacts.PieceLines.{stands_end, stands_more, written}
use Rattle.bsc_audit.proofs.files.piece_reading.read_on.Goals as goal

grown_by : (b : Bool) (x old o given got : List ℕ) → b ≡ true → x ≡ (if b then old ++ given else old) → old ≡ o → given ≡ got → x ≡ o ++ got
grown_by b x old o given got ok is same came = is ∙ (λ i. if ok i then same i ++ came i else same i)

pub returns-clause-stands : goal.returns-clause-stands
returns-clause-stands g c = λ fs holds stands.
    let f = file_at fs c.args.file in
    let o = c.args.room.now.octets.items in
    let got = take c.in-Ok.n c.read_at.new.into in
    let ok : is_ok c.extend_from_slice.result ≡ true = search rules in
    let given : c.split_at.result.0.now ≡ got = written c.in-Ok.n c.args.room.now.chunk.len c.split_at.result.0.now c.read_at.new.into (drop (length c.read_at.new.into) c.args.room.now.chunk.items)
    (c.split_at.ensures.front ∙ ap (λ (x : List ℕ). take c.in-Ok.n x) c.as_slice.ensures.value) c.split_at.ensures.front_len c.in-Ok.ensures.within.0 in
    let grown : c.extend_from_slice.new.self.items ≡ o ++ got =
    grown_by (is_ok c.extend_from_slice.result) c.extend_from_slice.new.self.items c.room_for.new.octets.items o c.split_at.result.0.now got ok c.extend_from_slice.ensures.items c.room_for.ensures given in
    let gives : GivesAt f (c.args.at + length o) got = subst (λ (n : ℕ). GivesAt f (c.args.at + n) got) (c.len.ensures ∙ c.args.room.now.octets.ok.0) (c.in-Ok.ensures.given fs holds) in
    subst (λ (x : List ℕ). StandsAt f c.args.at x) (sym grown) (stands_more f c.args.at o got gives stands)

pub returns-clause-end : goal.returns-clause-end
returns-clause-end g c = λ e fs holds stands.
    let f = file_at fs c.args.file in
    let o = c.args.room.now.octets.items in
    let got = take c.in-Ok.n c.read_at.new.into in
    let ok : is_ok c.extend_from_slice.result ≡ true = search rules in
    let given : c.split_at.result.0.now ≡ got = written c.in-Ok.n c.args.room.now.chunk.len c.split_at.result.0.now c.read_at.new.into (drop (length c.read_at.new.into) c.args.room.now.chunk.items)
    (c.split_at.ensures.front ∙ ap (λ (x : List ℕ). take c.in-Ok.n x) c.as_slice.ensures.value) c.split_at.ensures.front_len c.in-Ok.ensures.within.0 in
    let grown : c.extend_from_slice.new.self.items ≡ o ++ got =
    grown_by (is_ok c.extend_from_slice.result) c.extend_from_slice.new.self.items c.room_for.new.octets.items o c.split_at.result.0.now got ok c.extend_from_slice.ensures.items c.room_for.ensures given in
    let gives : GivesAt f (c.args.at + length o) got = subst (λ (n : ℕ). GivesAt f (c.args.at + n) got) (c.len.ensures ∙ c.args.room.now.octets.ok.0) (c.in-Ok.ensures.given fs holds) in
    let n : c.in-Ok.n ≡ 0 = cc in
    let none : got ≡ [] = ap (λ (n : ℕ). take n c.read_at.new.into) n in
    stands_end f c.args.at o got none gives stands ∙ sym (grown ∙ ap (λ (x : List ℕ). o ++ x) none ∙ append-nil o)
